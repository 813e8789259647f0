-- Readers of wrapped instructions, one around the other, read the bare instruction and then its layers.
use Rattle.std.proofs.Common.{◌≡◌, ℕ, List, [], ◌∷◌, Ok, Err, Result, String, sym, refl, ap, ◌∙◌, subst, arith}
use Rattle.machinst.specs.Meaning.{Meaning}
use Rattle.trace.specs.Shows.{ShowsBy, ShowsUnder, Writes, layered, reads_layer, reads_layers, reads_own, value, whole}
use Rattle.trace.specs.declared.head.Wrapper.{Wrapper}
use Rattle.trace.specs.Heads.{wrapping_list}
use Rattle.trace.specs.declared.head.Wrapping.{Wrapping}
use Rattle.trace.specs.declared.stop.Stop.{Stop}
use Rattle.trace.specs.declared.stop.Stop.TheVariants.{Line, Memory}
use Rattle.std.specs.declared.alloc.Global.{Global}
use Rattle.trace.specs.Readers.{Read, reads_end, then}
use Rattle.trace.specs.declared.reason.Reason.{Reason}
use Rattle.trace.specs.Insts.{Reader, reads_wrapped}
use Rattle.wrappers.proofs.Stacked.{first_layer, wrapped_under}
use Rattle.machinst.specs.Layers.{Layer}
use Rattle.wrappers.specs.Wrapped.{wrapped}

-- the readers one around the other, the innermost first
abbrev pub nested : List Wrapper → Reader → Reader
nested [] bare = bare
nested (k ∷ ks) bare = nested ks (reads_wrapped (reads_own k) bare)

module _ {A B C : Type 0} where
  then_assoc : (r : Read A) (f : A → List (List ℕ) → Read B) (g : B → List (List ℕ) → Read C) → then (then r f) g ≡ then r (λ a ws. then (f a ws) g)
  then_assoc (Ok (a, ws)) f g = refl
  then_assoc (Err e) f g = refl

then_same : {A B : Type 0} (r : Read A) (f g : A → List (List ℕ) → Read B) → ((a : A) (ws : List (List ℕ)) → f a ws ≡ g a ws) → then r f ≡ then r g
then_same (Ok (a, ws)) f g h = h a ws
then_same (Err e) f g h = refl

-- the meaning under the layers that follow
abbrev over : List Wrapper → Meaning → List (List ℕ) → Read Meaning
over ks m ws = then (reads_layers ks ws) (λ ls ws. Ok (wrapped ls m, ws))

then_unit : {A : Type 0} (r : Read A) → then r (λ a ws. Ok (a, ws)) ≡ r
then_unit (Ok (a, ws)) = refl
then_unit (Err e) = refl

-- one layer and then the others
layer_first : (ks : List Wrapper) (k : Wrapper) (m : Meaning) (ws : List (List ℕ)) → over (k ∷ ks) m ws ≡ then (reads_layer k ws) (λ l ws. over ks (wrapped (l ∷ []) m) ws)
layer_first ks k m ws =
    then_assoc (reads_layer k ws) (λ l ws. then (reads_layers ks ws) (λ ls ws. Ok (l ∷ ls, ws))) (λ ls ws. Ok (wrapped ls m, ws))
    ∙ then_same (reads_layer k ws) _ _
    (λ l ws.
    then_assoc (reads_layers ks ws) (λ ls ws. Ok (l ∷ ls, ws)) (λ ls ws. Ok (wrapped ls m, ws))
    ∙ then_same (reads_layers ks ws) _ _ (λ ls ws. ap {B = Read Meaning} (λ (n : Meaning). Ok (n, ws)) (first_layer l ls m)))

nested_is : (ks : List Wrapper) (bare : Reader) (ws : List (List ℕ)) → nested ks bare ws ≡ then (bare ws) (over ks)
nested_is [] bare ws = sym (then_unit (bare ws))
nested_is (k ∷ ks) bare ws =
    nested_is ks (reads_wrapped (reads_own k) bare) ws
    ∙ then_assoc (bare ws) _ (over ks)
    ∙ then_same (bare ws) _ _
    (λ m ws. then_assoc (reads_layer k ws) (λ l ws. Ok (wrapped (l ∷ []) m, ws)) (over ks) ∙ sym (layer_first ks k m ws))

abbrev mapped_ok : {A B : Type 0} → (A → B) → Result A Reason → Result B Reason
mapped_ok f (Ok a) = Ok (f a)
mapped_ok f (Err e) = Err e

value_mapped : {A B : Type 0} (f : A → B) (r : Read A) → value (then r (λ a ws. Ok (f a, ws))) ≡ mapped_ok f (value r)
value_mapped f (Ok (a, ws)) = refl
value_mapped f (Err e) = refl

abbrev put : Meaning × List Layer → Meaning
put p = wrapped p.1 p.0

-- the nested readers read what the layers make of the bare instruction
whole_nested : (ks : List Wrapper) (bare : Reader) (ws : List (List ℕ)) → whole (nested ks bare) ws ≡ mapped_ok put (layered bare ks ws)
whole_nested ks bare ws =
    let both : Meaning → List (List ℕ) → Read (Meaning × List Layer) = λ m ws. then (reads_layers ks ws) (λ ls ws. then (reads_end ws) (λ u ws. Ok ((m, ls), ws))) in
    let end : Meaning → List (List ℕ) → Read Meaning = λ m ws. then (reads_end ws) (λ u ws. Ok (m, ws)) in
    let left : then (nested ks bare ws) end ≡ then (bare ws) (λ m ws. then (reads_layers ks ws) (λ ls ws. end (wrapped ls m) ws)) =
    ap (λ (r : Read Meaning). then r end) (nested_is ks bare ws)
    ∙ then_assoc (bare ws) (over ks) end
    ∙ then_same (bare ws) _ _ (λ m ws. then_assoc (reads_layers ks ws) (λ ls ws. Ok (wrapped ls m, ws)) end)
    in
    let right : then (then (bare ws) both) (λ p ws. Ok (put p, ws)) ≡ then (bare ws) (λ m ws. then (reads_layers ks ws) (λ ls ws. end (wrapped ls m) ws)) =
    then_assoc (bare ws) both (λ p ws. Ok (put p, ws))
    ∙ then_same (bare ws) _ _
    (λ m ws.
    then_assoc (reads_layers ks ws) (λ ls ws. then (reads_end ws) (λ u ws. Ok ((m, ls), ws))) (λ p ws. Ok (put p, ws))
    ∙ then_same (reads_layers ks ws) _ _ (λ ls ws. then_assoc (reads_end ws) (λ u ws. Ok ((m, ls), ws)) (λ p ws. Ok (put p, ws))))
    in
    ap value (left ∙ sym right) ∙ value_mapped put (then (bare ws) both)

found : {A B : Type 0} (f : A → B) (r : Result A Reason) (b : B) → mapped_ok f r ≡ Ok b → (a : A) × (r ≡ Ok a) × (f a ≡ b)
found f (Ok a) b e = (a, refl, cc)
found f (Err x) b e = let z : ◌≡◌ {A = ℕ} 0 1 = cc in absurd (omega arith)

missed : {A B : Type 0} (f : A → B) (r : Result A Reason) (x : Reason) → mapped_ok f r ≡ Err x → r ≡ Err x
missed f (Ok a) x e = let z : ◌≡◌ {A = ℕ} 0 1 = cc in absurd (omega arith)
missed f (Err y) x e = cc

-- what is shown by the nested readers is the bare instruction under its layers
pub shows_under : (ks : List Wrapper) (bare : Reader) (ws : List (List ℕ)) (r : Result (Unit {0}) Stop) (before after : String Global) → ShowsBy (nested ks bare) ws r before after → ShowsUnder bare ks ws r before after
shows_under ks bare ws (Ok u) before after (m, e, h) =
    let f = found put (layered bare ks ws) m (sym (whole_nested ks bare ws) ∙ e) in
    (f.0.0, f.0.1, f.1, wrapped_under f.0.1 f.0.0, subst (λ (n : Meaning). Writes n before after) (sym f.2) h)
shows_under ks bare ws (Err (Line x)) before after (e, h) = (missed put (layered bare ks ws) x (sym (whole_nested ks bare ws) ∙ e), h)
shows_under ks bare ws (Err Memory) before after h = tt

-- the same for the wrappers of a wrapping
pub shows_at : (w v : Wrapping) (bare : Reader) (ws : List (List ℕ)) (r : Result (Unit {0}) Stop) (before after : String Global) → w ≡ v → ShowsBy (nested (wrapping_list v) bare) ws r before after → ShowsUnder bare (wrapping_list w) ws r before after
shows_at w v bare ws r before after e h =
    subst (λ (u : Wrapping). ShowsUnder bare (wrapping_list u) ws r before after) (sym e) (shows_under (wrapping_list v) bare ws r before after h)
