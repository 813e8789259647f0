-- What wrappers make of a meaning, one at a time and as a list.
use Rattle.std.specs.Prelude.{ℕ, ◌+◌, ◌<◌, Bool, ◌||◌, List, [], ◌∷◌, ◌++◌, length, IfSome, Some, None, Option}
use Rattle.std.proofs.Common.{length-append, arith}
use Rattle.machinst.specs.Layers.{Layer, charge, fence}
use Rattle.machinst.specs.Meaning.{Meaning, MoveWithin, slots_of, with_slots}
use Rattle.machinst.specs.Usual.{early_use, in_reg}

-- one Use of the counter after the slots below
abbrev pub charged_by : ℕ → Meaning → Meaning
charged_by w m = with_slots m (slots_of m ++ early_use in_reg w ∷ [])

-- the clobbers below, united with the fence
abbrev pub fenced_by : (ℕ → Bool) → Meaning → Meaning
fenced_by regs m = record {
  operation = record {
    slots = slots_of m;
    clobbers = λ n. m.operation.clobbers n || regs n;
    move = m.operation.move;
    payload = m.operation.payload;
  };
  control = m.control;
}

-- an instruction under wrappers, the innermost first
abbrev pub wrapped : List Layer → Meaning → Meaning
wrapped [] m = m
wrapped (charge w ∷ layers) m = wrapped layers (charged_by w m)
wrapped (fence f ∷ layers) m = wrapped layers (fenced_by f m)

within_longer : (r : Option (ℕ × ℕ)) (n k : ℕ) → IfSome r (λ p. (p.0 < n) × (p.1 < n)) → IfSome r (λ p. (p.0 < n + k) × (p.1 < n + k))
within_longer None n k h = tt
within_longer (Some p) n k h = (omega arith, omega arith)

-- a move's slots still exist under one more wrapper
pub wrapped_moves : (l : Layer) (m : Meaning) → MoveWithin m → MoveWithin (wrapped (l ∷ []) m)
wrapped_moves (charge w) m h = rw length-append (within_longer m.operation.move (length (slots_of m)) 1 h)
wrapped_moves (fence f) m h = h

-- the counter's word, where the wrapper reads one
abbrev pub counter_of : Layer → Option ℕ
counter_of (charge w) = Some w
counter_of (fence f) = None

-- the wrapper with another counter, where it reads one
abbrev pub recounted : Layer → ℕ → Layer
recounted (charge v) w = charge w
recounted (fence f) w = fence f
