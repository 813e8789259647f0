-- One more wrapper around an instruction under a list of them.
use Rattle.std.proofs.Common.{◌≡◌, ℕ, Bool, ◌||◌, List, [], ◌∷◌, ◌++◌, sym, refl, ap, ◌∙◌, subst, append_assoc, arith}
use Rattle.machinst.specs.Meaning.{Meaning, Slot}
use Rattle.machinst.specs.Usual.{early_use, in_reg}
use Rattle.std.proofs.Math.Bool.{or_assoc}
use Rattle.std.proofs.lemmas.Grind.{common_steps}
use Rattle.std.proofs.lemmas.List.{append-nil}
use Rattle.machinst.proofs.Bare.{under_none}
use Rattle.machinst.specs.Layers.{Layer, Under, charge, counters, fence, fenced_off}
use Rattle.wrappers.proofs.Parts.{slots_wrapped, clobbers_wrapped, control_wrapped, move_wrapped, payload_wrapped}
use Rattle.wrappers.specs.Wrapped.{wrapped}

counters_more : (ls ms : List Layer) → counters (ls ++ ms) ≡ counters ls ++ counters ms
counters_more [] ms = refl
counters_more (charge w ∷ ls) ms = ap {B = List Slot} (λ ss. early_use in_reg w ∷ ss) (counters_more ls ms)
counters_more (fence f ∷ ls) ms = counters_more ls ms

fenced_more : (ls ms : List Layer) (n : ℕ) → fenced_off (ls ++ ms) n ≡ fenced_off ls n || fenced_off ms n
fenced_more [] ms n = refl
fenced_more (charge w ∷ ls) ms n = fenced_more ls ms n
fenced_more (fence f ∷ ls) ms n = ap (λ (b : Bool). f n || b) (fenced_more ls ms n) ∙ sym (or_assoc (f n) (fenced_off ls n) (fenced_off ms n))

module _ (ls : List Layer) (bare whole : Meaning) (u : Under ls bare whole) where
  pub under_wrapped : (l : Layer) → Under (ls ++ l ∷ []) bare (wrapped (l ∷ []) whole)
  under_wrapped l = record {
    slots = let a = slots_wrapped l whole in let e = u.slots in let h = counters_more ls (l ∷ []) in grind (arith, common_steps);
    clobbers = λ n. let a = clobbers_wrapped l whole n in let e = u.clobbers n in let h = fenced_more ls (l ∷ []) n in grind (arith, or_assoc);
    move = move_wrapped l whole ∙ u.move;
    payload = payload_wrapped l whole ∙ u.payload;
    control = control_wrapped l whole ∙ u.control;
  }

-- one more wrapper around a meaning, and then the others
pub first_layer : (l : Layer) (ls : List Layer) (m : Meaning) → wrapped (l ∷ ls) m ≡ wrapped ls (wrapped (l ∷ []) m)
first_layer (charge w) ls m = refl
first_layer (fence f) ls m = refl

-- a list of wrappers, the innermost first
wrapped_more : (ls ms : List Layer) (bare whole : Meaning) → Under ls bare whole → Under (ls ++ ms) bare (wrapped ms whole)
wrapped_more ls [] bare whole u = subst (λ (ks : List Layer). Under ks bare whole) (sym (append-nil ls)) u
wrapped_more ls (l ∷ ms) bare whole u =
    subst (λ (m : Meaning). Under (ls ++ l ∷ ms) bare m) (sym (first_layer l ms whole))
    (subst (λ (ks : List Layer). Under ks bare (wrapped ms (wrapped (l ∷ []) whole))) (append_assoc ls (l ∷ []) ms)
    (wrapped_more (ls ++ l ∷ []) ms bare (wrapped (l ∷ []) whole) (under_wrapped ls bare whole u l)))

-- what any list of wrappers makes of a meaning
pub wrapped_under : (ls : List Layer) (m : Meaning) → Under ls m (wrapped ls m)
wrapped_under ls m = wrapped_more [] ls m m (under_none m)
