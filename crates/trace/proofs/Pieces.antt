-- The pieces of a text at a separator.
use Rattle.std.proofs.Common.{◌≡◌, ℕ, true, false, eqb, List, [], ◌∷◌, ⊎_elim}
use borrow.Author.Tests.{eqb-false}
use Rattle.std.proofs.lemmas.Bool.{cases_Bool}
use Rattle.std.proofs.lemmas.List.Splits.{join_with_byte-slice_split}
use Rattle.std.specs.List.{AllByRecursion, onto_first}
use Rattle.trace.specs.Lines.{Split, Without, pieces}

module _ (sep : ℕ) where
  onto_first_without : (b : ℕ) (ps : List (List ℕ)) → (b ≡ sep → ⊥) → AllByRecursion (Without sep) ps → AllByRecursion (Without sep) (onto_first b ps)
  onto_first_without b [] ne h = ((ne, tt), tt)
  onto_first_without b (p ∷ ps) ne h = ((ne, h.0), h.1)

  -- no piece has the separator
  pieces_without : (text : List ℕ) → AllByRecursion (Without sep) (pieces sep text)
  pieces_without [] = (tt, tt)
  pieces_without (b ∷ bs) =
      ⊎_elim
      (λ (e : eqb b sep ≡ true). simp e (tt, pieces_without bs))
      (λ (e : eqb b sep ≡ false). simp e (onto_first_without b (pieces sep bs) (eqb-false b sep e) (pieces_without bs)))
      (cases_Bool (eqb b sep))

  pub split : (text : List ℕ) → Split sep text
  split text = (join_with_byte-slice_split sep text, pieces_without text)
