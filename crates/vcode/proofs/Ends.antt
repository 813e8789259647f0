-- Where the ranges of the blocks and of the successors end.
use Rattle.std.proofs.Common.{◌≡◌, ℕ, ◌+◌, ◌≤◌, Bool, cond, ltb, List, [], ◌∷◌, ◌++◌, length, get_or, Some, None, Ok, Err, Result, IsErrAnd, sym, refl, ap, ◌∙◌, arith}
use Rattle.faults.specs.declared.fault.Fault.{Fault}
use Rattle.faults.specs.declared.fault.Fault.TheVariants.{Full, Mismatch}
use Rattle.faults.specs.declared.table_id.TableId.{TableId}
use Rattle.faults.specs.declared.table_id.TableId.TheVariants.{Blocks}
use Rattle.ranges.specs.Spans.{Spans, end_fault, endpoints, with_end}
use Rattle.std.proofs.lemmas.List.{get_or_push, length-append, length_push}
use Rattle.std.proofs.lemmas.Bool.{le-ltb}
use Rattle.std.specs.List.{flat_map}
use Rattle.vcode.specs.Book.{Block, Limits, block_room, full}
use Rattle.vregs.proofs.Outcomes.{outcome_err}
use Rattle.faults.specs.Outcomes.{Outcome}
use Rattle.vcode.specs.Held.{ends_of, ranges_to, totals}

-- there is a total for each entry, and the last is that of all
module _ {X : Type 0} (total : List X → ℕ) where
  pub totals_length : (xs : List X) → length (totals total xs) ≡ length xs
  totals_length [] = refl
  totals_length (x ∷ xs) = let i = totals_length xs in let p = length_push (totals total xs) (total (x ∷ xs)) in omega arith

  pub totals_last : total [] ≡ 0 → (xs : List X) → get_or (endpoints (totals total xs)) (length (totals total xs)) 0 ≡ total xs
  totals_last none [] = sym none
  totals_last none (x ∷ xs) =
      let e = total (x ∷ xs) in
      ap (λ (n : ℕ). get_or (endpoints (totals total xs ++ e ∷ [])) n 0) (length_push (totals total xs) e)
      ∙ get_or_push (endpoints (totals total xs)) e 0 (length (totals total xs) + 1) (omega arith)

-- where the ends do not fall, an end is refused only for want of room
pub end_fault_is : (es : List ℕ) (most : ℕ) (id : TableId) (e : ℕ) → get_or (endpoints es) (length es) 0 ≤ e → end_fault (ranges_to es most id) e ≡ full (length es) most id
end_fault_is es most id e h =
    ap (λ (t : Bool). cond t (Some (Mismatch e)) (cond (ltb (length es) most) None (Some (Full id)))) (le-ltb e (get_or (endpoints es) (length es) 0) h)

-- what an end that is not refused leaves
pub end_pushed : (s : Spans) (e : ℕ) (r : Result (Unit {0}) Fault) (now : Spans) → Outcome (end_fault s e) r (λ _. now ≡ with_end s e) → end_fault s e ≡ None → now ≡ with_end s e
end_pushed s e (Ok u) now h n = h.1
end_pushed s e (Err f) now h n = cc

module _ {X : Type 0} (f : Block → List X) (L : Limits) (bs : List Block) (b : Block) (s : Spans) (e : ℕ) (held : s ≡ ranges_to (ends_of f bs) L.blocks Blocks) (is : e ≡ length (flat_map f (b ∷ bs))) where
  -- one more block is refused only for want of room
  pub room_is : end_fault s e ≡ block_room L bs
  room_is =
      ap (λ (t : Spans). end_fault t e) held
      ∙ end_fault_is (ends_of f bs) L.blocks Blocks e (let p = length-append (f b) (flat_map f bs) in let q = totals_last (λ (xs : List Block). length (flat_map f xs)) refl bs in omega arith)
      ∙ ap (λ (n : ℕ). full n L.blocks Blocks) (totals_length (λ (xs : List Block). length (flat_map f xs)) bs)

  pub refused_is : (r : Result (Unit {0}) Fault) (P : Unit {0} → Type 0) (y : Fault) → IsErrAnd r (λ x. x ≡ y) → end_fault s e ≡ Some y → Outcome (block_room L bs) r P
  refused_is r P y exit refused = outcome_err _ r P y exit (sym room_is ∙ refused)

  -- and is then closed
  pub closed_is : (r : Result (Unit {0}) Fault) (now : Spans) → Outcome (end_fault s e) r (λ _. now ≡ with_end s e) → block_room L bs ≡ None → now ≡ ranges_to (ends_of f (b ∷ bs)) L.blocks Blocks
  closed_is r now h n =
      end_pushed s e r now h (room_is ∙ n)
      ∙ ap (λ (t : Spans). with_end t e) held
      ∙ ap (λ (k : ℕ). ranges_to (ends_of f bs ++ k ∷ []) L.blocks Blocks) is
