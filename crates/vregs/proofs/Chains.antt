-- The root of a word and the chain of its aliases.
use Rattle.std.proofs.Common.{◌≡◌, ℕ, ◌+◌, ◌≤◌, false, cond, eqb, List, [], ◌∷◌, length, Some, None, Option, sym, refl, ap, ◌∙◌, ⊎_elim, arith}
use Rattle.machinst.specs.Parts.{Part}
use Rattle.std.proofs.lemmas.Bool.{cases_eq, eq-eqb, ne_eqb}
use Rattle.vregs.specs.Files.{Valid, allocated}
use Rattle.vregs.specs.Roots.{alias_of, root}

root_hit : (p : ℕ × ℕ) (ps : List (ℕ × ℕ)) (r : ℕ) → root ps r ≡ p.0 → root (p ∷ ps) r ≡ root ps p.1
root_hit p ps r h = ap (λ b. cond b (root ps p.1) (root ps r)) (eq-eqb (root ps r) p.0 h)

root_miss : (p : ℕ × ℕ) (ps : List (ℕ × ℕ)) (r : ℕ) → (root ps r ≡ p.0 → ⊥) → root (p ∷ ps) r ≡ root ps r
root_miss p ps r h = ap (λ b. cond b (root ps p.1) (root ps r)) (ne_eqb (root ps r) p.0 h)

root_alike : (p : ℕ × ℕ) (ps : List (ℕ × ℕ)) (r s : ℕ) → root ps r ≡ root ps s → root (p ∷ ps) r ≡ root (p ∷ ps) s
root_alike p ps r s h = ap (λ q. cond (eqb q p.0) (root ps p.1) q) h

pub alias_hit : (p : ℕ × ℕ) (ps : List (ℕ × ℕ)) (r : ℕ) → r ≡ p.0 → alias_of (p ∷ ps) r ≡ Some (root ps p.1)
alias_hit p ps r h = ap (λ b. cond b (Some (root ps p.1)) (alias_of ps r)) (eq-eqb r p.0 h)

pub alias_miss : (p : ℕ × ℕ) (ps : List (ℕ × ℕ)) (r : ℕ) → (r ≡ p.0 → ⊥) → alias_of (p ∷ ps) r ≡ alias_of ps r
alias_miss p ps r h = ap (λ b. cond b (Some (root ps p.1)) (alias_of ps r)) (ne_eqb r p.0 h)

-- how many aliases lead from a word to its root
abbrev pub far : List (ℕ × ℕ) → ℕ → ℕ
far [] r = 0
far (p ∷ ps) r = cond (eqb (root ps r) p.0) (far ps r + 1) (far ps r)

far_hit : (p : ℕ × ℕ) (ps : List (ℕ × ℕ)) (r : ℕ) → root ps r ≡ p.0 → far (p ∷ ps) r ≡ far ps r + 1
far_hit p ps r h = ap (λ b. cond b (far ps r + 1) (far ps r)) (eq-eqb (root ps r) p.0 h)

far_miss : (p : ℕ × ℕ) (ps : List (ℕ × ℕ)) (r : ℕ) → (root ps r ≡ p.0 → ⊥) → far (p ∷ ps) r ≡ far ps r
far_miss p ps r h = ap (λ b. cond b (far ps r + 1) (far ps r)) (ne_eqb (root ps r) p.0 h)

pub far_long : (ps : List (ℕ × ℕ)) (r : ℕ) → far ps r ≤ length ps
far_long [] r = omega arith
far_long (p ∷ ps) r = let i : far ps r ≤ length ps = far_long ps r in ⊎_elim
    (λ e. omega (arith, far_hit p ps r e))
    (λ e. omega (arith, far_miss p ps r e))
    (cases_eq (root ps r) p.0)

module _ (rs : List Part) where
  -- a root has no alias
  pub root_free : (ps : List (ℕ × ℕ)) → Valid rs ps → (r : ℕ) → alias_of ps (root ps r) ≡ None
  root_free [] v r = refl
  root_free (p ∷ ps) v r = ⊎_elim
      (λ e. ap (alias_of (p ∷ ps)) (root_hit p ps r e) ∙ alias_miss p ps (root ps p.1) v.3 ∙ root_free ps v.4 p.1)
      (λ e. ap (alias_of (p ∷ ps)) (root_miss p ps r e) ∙ alias_miss p ps (root ps r) e ∙ root_free ps v.4 r)
      (cases_eq (root ps r) p.0)

  -- where there is no alias, a word is its own root
  pub none_root : (ps : List (ℕ × ℕ)) → Valid rs ps → (r : ℕ) → alias_of ps r ≡ None → root ps r ≡ r
  none_root [] v r h = refl
  none_root (p ∷ ps) v r h = ⊎_elim
      (λ e. let hit = alias_hit p ps r e in cc)
      (λ e. let i : root ps r ≡ r = none_root ps v.4 r (sym (alias_miss p ps r e) ∙ h) in root_miss p ps r (λ f. e (sym i ∙ f)) ∙ i)
      (cases_eq r p.0)

  root_root : (ps : List (ℕ × ℕ)) → Valid rs ps → (r : ℕ) → root ps (root ps r) ≡ root ps r
  root_root ps v r = none_root ps v (root ps r) (root_free ps v r)

  -- where there is one, its root is the word's
  pub some_root : (ps : List (ℕ × ℕ)) → Valid rs ps → (r m : ℕ) → alias_of ps r ≡ Some m → root ps r ≡ root ps m
  some_root [] v r m h = cc
  some_root (p ∷ ps) v r m h = ⊎_elim
      (λ e. let hit = alias_hit p ps r e in
      let i : root ps p.1 ≡ m = cc in
      let own : root ps r ≡ p.0 = ap (root ps) e ∙ none_root ps v.4 p.0 v.2 in
      let still : root ps m ≡ root ps p.1 = ap (root ps) (sym i) ∙ root_root ps v.4 p.1 in
      root_hit p ps r own ∙ sym still ∙ sym (root_miss p ps m (λ f. v.3 (sym still ∙ f))))
      (λ e. root_alike p ps r m (some_root ps v.4 r m (sym (alias_miss p ps r e) ∙ h)))
      (cases_eq r p.0)

  far_none : (ps : List (ℕ × ℕ)) → Valid rs ps → (r : ℕ) → alias_of ps r ≡ None → far ps r ≡ 0
  far_none [] v r h = refl
  far_none (p ∷ ps) v r h = ⊎_elim
      (λ e. let hit = alias_hit p ps r e in cc)
      (λ e. let less : alias_of ps r ≡ None = sym (alias_miss p ps r e) ∙ h in
      far_miss p ps r (λ f. e (sym (none_root ps v.4 r less) ∙ f)) ∙ far_none ps v.4 r less)
      (cases_eq r p.0)

  pub far_some : (ps : List (ℕ × ℕ)) → Valid rs ps → (r m : ℕ) → alias_of ps r ≡ Some m → far ps r ≡ far ps m + 1
  far_some [] v r m h = cc
  far_some (p ∷ ps) v r m h = ⊎_elim
      (λ e. let hit = alias_hit p ps r e in
      let i : root ps p.1 ≡ m = cc in
      let own : root ps r ≡ p.0 = ap (root ps) e ∙ none_root ps v.4 p.0 v.2 in
      let still : root ps m ≡ root ps p.1 = ap (root ps) (sym i) ∙ root_root ps v.4 p.1 in
      let here : far ps r ≡ 0 = far_none ps v.4 r (ap (alias_of ps) e ∙ v.2) in
      let there : far ps m ≡ 0 = far_none ps v.4 m (ap (alias_of ps) (sym i) ∙ root_free ps v.4 p.1) in
      omega (arith, far_hit p ps r own, far_miss p ps m (λ f. v.3 (sym still ∙ f))))
      (λ e. let less : alias_of ps r ≡ Some m = sym (alias_miss p ps r e) ∙ h in
      let i : far ps r ≡ far ps m + 1 = far_some ps v.4 r m less in
      let s : root ps r ≡ root ps m = some_root ps v.4 r m less in
      ⊎_elim
      (λ f. omega (arith, far_hit p ps r f, far_hit p ps m (sym s ∙ f)))
      (λ f. omega (arith, far_miss p ps r f, far_miss p ps m (λ g. f (s ∙ g))))
      (cases_eq (root ps r) p.0))
      (cases_eq r p.0)

  -- where no alias is left to follow, the root is reached
  pub far_zero : (ps : List (ℕ × ℕ)) → Valid rs ps → (r : ℕ) → far ps r ≡ 0 → alias_of ps r ≡ None
  far_zero ps v r h = go (alias_of ps r) refl
    where
      go : (o : Option ℕ) → alias_of ps r ≡ o → o ≡ None
      go None e = refl
      go (Some m) e = absurd (omega (arith, far_some ps v r m e))

  -- a word that is not allocated has no alias
  pub unallocated_none : (ps : List (ℕ × ℕ)) → Valid rs ps → (w : ℕ) → allocated rs w ≡ false → alias_of ps w ≡ None
  unallocated_none [] v w h = refl
  unallocated_none (p ∷ ps) v w h =
      alias_miss p ps w (λ e. let at = ap (allocated rs) e in cc) ∙ unallocated_none ps v.4 w h
