-- The slots of a row: a shape and a word for each.
use Rattle.std.proofs.Common.{◌≡◌, ℕ, zero, suc, ◌+◌, ◌<◌, List, [], ◌∷◌, length, get_or, Some, arith}
use Rattle.std.specs.List.{slice_get}
use Rattle.regs.specs.declared.reg.Reg.{Reg}
use Rattle.set_q.specs.MeaningQ.{shaped, shaped_from, word_at}
use Rattle.set_q.specs.declared.Shape.{Shape}

-- slot k, of the slots whose first has the number n
pub slot_shaped : (n : ℕ) (ss : List Shape) (ws : List Reg) (k : ℕ) (s : Shape) → k < length ss → s ≡ get_or ss k s → slice_get (shaped_from n ss ws) k ≡ Some (shaped s (word_at ws (n + k)))
slot_shaped n [] ws k s l h = absurd (omega arith)
slot_shaped n (t ∷ ss) ws zero s l h = grind arith
slot_shaped n (t ∷ ss) ws (suc k) s l h = let r = slot_shaped (suc n) ss ws k s (omega arith) h in grind arith
