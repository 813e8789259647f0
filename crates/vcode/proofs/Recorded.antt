-- The search for a label's last record.
use denote.Ref.{Bor}
use Rattle.std.proofs.Common.{◌≡◌, ℕ, Bool, true, false, cond, eqb, List, [], ◌∷◌, ◌++◌, map, reverse, Some, None, Option, MatchOption, sym, refl, ap, ◌∙◌}
use Rattle.std.proofs.lemmas.List.{map-append, reverse-append}
use Rattle.std.specs.List.{find}
use Rattle.std.specs.Option.{option_map, option_map_or}
use Rattle.vcode.specs.Book.{Label, last_end}
use Rattle.vcode.specs.Held.{label_of}
use Rattle.vcode.specs.declared.labels.LabelRecord.{LabelRecord}

reversed : (rs : List LabelRecord) → map label_of (reverse rs) ≡ reverse (map label_of rs)
reversed [] = refl
reversed (r ∷ rs) =
    ap (map label_of) (reverse-append (r ∷ []) rs)
    ∙ map-append label_of (reverse rs) (r ∷ [])
    ∙ ap (λ (ls : List Label). ls ++ label_of r ∷ []) (reversed rs)
    ∙ sym (reverse-append (label_of r ∷ []) (map label_of rs))

abbrev end_in : List LabelRecord → ℕ → ℕ
end_in rs l = option_map_or (λ (r : LabelRecord). r.end) (find (λ (r : LabelRecord). eqb r.label.0 l) rs) 0

first_end : (rs : List LabelRecord) (l : ℕ) → end_in rs l ≡ last_end (map label_of rs) l
first_end [] l = refl
first_end (r ∷ rs) l = step (eqb r.label.0 l) (first_end rs l)
  where
    step : (b : Bool) → end_in rs l ≡ last_end (map label_of rs) l → option_map_or (λ (x : LabelRecord). x.end) (cond b (Some r) (find (λ (x : LabelRecord). eqb x.label.0 l) rs)) 0 ≡ cond b r.end (last_end (map label_of rs) l)
    step true e = refl
    step false e = e

-- what the search from the last record on finds
pub found_end : (rs : List LabelRecord) (l : ℕ) → end_in (reverse rs) l ≡ last_end (reverse (map label_of rs)) l
found_end rs l = first_end (reverse rs) l ∙ ap (λ (ls : List Label). last_end ls l) (reversed rs)

pub end_told : (o : Option (Bor LabelRecord)) (n : ℕ) (Q : Bor LabelRecord → Type 0) → MatchOption o (n ≡ 0) Q → ((x : Bor LabelRecord) → Q x → n ≡ x.now.end) → n ≡ option_map_or (λ (r : LabelRecord). r.end) (option_map (λ (x : Bor LabelRecord). x.now) o) 0
end_told None n Q h is = h
end_told (Some x) n Q h is = is x h
