-- One text written after another.
use Rattle.std.proofs.Common.{◌≡◌, ℕ, zero, suc, ◌+◌, ◌≤◌, Bool, true, false, cond, List, [], ◌∷◌, ◌++◌, length, drop, Some, None, codes, decimal, sym, refl, ap, ◌∙◌, append_assoc, add-one, arith}
use Rattle.machinst.specs.Meaning.{Slot}
use Rattle.std.proofs.lemmas.List.{append-nil, drop_all}
use Rattle.std.specs.List.{slice_get}
use Rattle.trace.specs.Shown.{members_text, slot_text, slots_text}

-- the members of a set, and one number more
pub members_none : (c : ℕ → Bool) (s : List ℕ) → s ≡ s ++ members_text c 0
unfolding members_text
members_none c s = sym (append-nil s)

pub members_in : (c : ℕ → Bool) (n : ℕ) (s t u : List ℕ) → true ≡ c n → t ≡ s ++ members_text c n → u ≡ t ++ (codes " " ++ decimal n) → u ≡ s ++ members_text c (n + 1)
unfolding members_text
members_in c n s t u is e h =
    h
    ∙ ap (λ (v : List ℕ). v ++ (codes " " ++ decimal n)) e
    ∙ append_assoc s (members_text c n) (codes " " ++ decimal n)
    ∙ ap (λ (b : Bool). s ++ (members_text c n ++ cond b (codes " " ++ decimal n) [])) is
    ∙ ap (λ (k : ℕ). s ++ members_text c k) (sym (add-one n))

pub members_out : (c : ℕ → Bool) (n : ℕ) (s t : List ℕ) → false ≡ c n → t ≡ s ++ members_text c n → t ≡ s ++ members_text c (n + 1)
unfolding members_text
members_out c n s t is e =
    e
    ∙ ap (λ (v : List ℕ). s ++ v) (sym (append-nil (members_text c n)))
    ∙ ap (λ (b : Bool). s ++ (members_text c n ++ cond b (codes " " ++ decimal n) [])) is
    ∙ ap (λ (k : ℕ). s ++ members_text c k) (sym (add-one n))

drop_at : {X : Type 0} (xs : List X) (k : ℕ) (x : X) → Some x ≡ slice_get xs k → drop k xs ≡ x ∷ drop (suc k) xs
drop_at [] k x e = let z : ◌≡◌ {A = ℕ} 0 1 = cc in absurd (omega arith)
drop_at (y ∷ ys) zero x e = let h : y ≡ x = cc in ap {B = List _} (λ z. z ∷ ys) h
drop_at (y ∷ ys) (suc k) x e = drop_at ys k x e

drop_past : {X : Type 0} (xs : List X) (k : ℕ) → None ≡ slice_get xs k → drop k xs ≡ []
drop_past [] zero e = refl
drop_past [] (suc k) e = refl
drop_past (y ∷ ys) zero e = let z : ◌≡◌ {A = ℕ} 0 1 = cc in absurd (omega arith)
drop_past (y ∷ ys) (suc k) e = drop_past ys k e

module _ (i : ℕ) (name : List ℕ) (ss : List Slot) (b : List ℕ) where
  -- one more slot's line is written
  pub slots_step : (k : ℕ) (s : Slot) (t u : List ℕ) → t ++ slots_text i name k (drop k ss) ≡ b → Some s ≡ slice_get ss k → u ≡ t ++ slot_text i name k s → u ++ slots_text i name (k + 1) (drop (k + 1) ss) ≡ b
  slots_step k s t u inv e h =
      ap (λ (v : List ℕ). v ++ slots_text i name (k + 1) (drop (k + 1) ss)) h
      ∙ append_assoc t (slot_text i name k s) (slots_text i name (k + 1) (drop (k + 1) ss))
      ∙ ap (λ (n : ℕ). t ++ (slot_text i name k s ++ slots_text i name n (drop n ss))) (add-one k)
      ∙ ap (λ (rest : List Slot). t ++ slots_text i name k rest) (sym (drop_at ss k s e))
      ∙ inv

  pub slots_done : (k : ℕ) (t : List ℕ) → t ++ slots_text i name k (drop k ss) ≡ b → None ≡ slice_get ss k → t ≡ b
  slots_done k t inv e =
      sym (append-nil t) ∙ ap (λ (rest : List Slot). t ++ slots_text i name k rest) (sym (drop_past ss k e)) ∙ inv

  pub slots_all : (k : ℕ) (t : List ℕ) → t ++ slots_text i name k (drop k ss) ≡ b → length ss ≤ k → t ≡ b
  slots_all k t inv h =
      sym (append-nil t) ∙ ap (λ (rest : List Slot). t ++ slots_text i name k rest) (sym (drop_all k ss h)) ∙ inv
