-- A table whose entries are the list of the book, reversed.
use Rattle.std.proofs.Common.{◌≡◌, ℕ, ◌<◌, List, [], ◌∷◌, ◌++◌, map, reverse, length, Some, None, Ok, Err, Result, MatchResult, sym, ap, ◌∙◌, arith}
use Rattle.faults.specs.declared.fault.Fault.{Fault}
use Rattle.faults.specs.declared.fault.Fault.TheVariants.{Full}
use Rattle.std.proofs.lemmas.List.{length-map, length-reverse, map-append, reverse-append}
use Rattle.faults.specs.declared.table_id.TableId.{TableId}
use Rattle.tables.specs.declared.table.Table.{Table}
use Rattle.vcode.proofs.Outcomes.{has_room, is_full}
use Rattle.vcode.specs.Book.{full}
use Rattle.faults.specs.Outcomes.{Outcome}

module _ {X Y : Type 0} (f : X → Y) where
  pub held_length : (xs : List X) (ys : List Y) → map f xs ≡ reverse ys → length ys ≡ length xs
  held_length xs ys e = sym (length-reverse ys) ∙ ap length (sym e) ∙ length-map xs f

  -- one more at the table's end is one more at the head of the list
  pub held_push : (xs zs : List X) (ys : List Y) (x : X) → map f xs ≡ reverse ys → zs ≡ xs ++ x ∷ [] → map f zs ≡ reverse (f x ∷ ys)
  held_push xs zs ys x e a =
      ap (map f) a ∙ map-append f xs (x ∷ []) ∙ ap (λ (l : List Y). l ++ f x ∷ []) e ∙ sym (reverse-append (f x ∷ []) ys)

  -- where the table has room, so has the list
  admits : (t : Table X) (ys : List Y) (id : TableId) (most : ℕ) → map f t.entries ≡ reverse ys → t.limit ≡ most → length t.entries < t.limit → full (length ys) most id ≡ None
  admits t ys id most held same l = let n = held_length t.entries ys held in has_room (length ys) most id (omega (arith, same, l))

  -- one more entry, if there is room
  pub pushed : (t u : Table X) (ys : List Y) (id : TableId) (most : ℕ) (x : X) (r : Result (Unit {0}) Fault) (P : Type 0) → map f t.entries ≡ reverse ys → t.limit ≡ most → t.id ≡ id
      → MatchResult r (λ _. (length t.entries < t.limit) × (u ≡ record t { entries = t.entries ++ x ∷ [] })) (λ g. (length t.entries ≡ t.limit) × (g ≡ Full t.id) × (u ≡ t))
      → (map f u.entries ≡ reverse (f x ∷ ys) → u.limit ≡ most → P) → Outcome (full (length ys) most id) r (λ _. P)
  pushed t u ys id most x (Ok _) P held same is h then = (
    admits t ys id most held same h.0,
    then (held_push t.entries u.entries ys x held (ap (λ t. t.entries) h.1)) (ap (λ t. t.limit) h.1 ∙ same),
  )
  pushed t u ys id most x (Err g) P held same is h then =
      let n = held_length t.entries ys held in
      is_full (length ys) most id (omega (arith, same, h.0)) ∙ ap (λ i. Some (Full i)) (sym is) ∙ ap Some (sym h.1)
