-- The search for the first word that is not known.
use Rattle.std.proofs.Common.{◌≡◌, ℕ, zero, suc, ◌+◌, ◌<◌, ◌≤◌, Bool, true, false, cond, ltb, List, [], ◌∷◌, length, get_or, drop, is_some, Some, None, sym, refl, ap, ◌∙◌, ⊎_elim, arith}
use Rattle.faults.specs.declared.fault.Fault.{Fault}
use Rattle.faults.specs.declared.fault.Fault.TheVariants.{UnknownReg}
use Rattle.std.proofs.lemmas.List.{drop_all, drop_more}
use Rattle.std.proofs.lemmas.Option.{slice_get-get_or, slice_get_past}
use Rattle.std.proofs.lemmas.Bool.{cases_lt, le-ltb, lt-ltb}
use Rattle.std.specs.List.{slice_get}
use Rattle.faults.specs.Outcomes.{unless}
use Rattle.vregs.specs.Files.{known}
use Rattle.vregs.specs.Insts.{first_unknown}

pub nth_test : {X : Type 0} (xs : List X) (i : ℕ) → is_some (slice_get xs i) ≡ ltb i (length xs)
nth_test xs i = ⊎_elim
    (λ l. some xs i l ∙ sym (lt-ltb i (length xs) l))
    (λ l. ap is_some (slice_get_past xs i l) ∙ sym (le-ltb i (length xs) l))
    (cases_lt i (length xs))
  where
    some : {X : Type 0} (ys : List X) (k : ℕ) → k < length ys → is_some (slice_get ys k) ≡ true
    some [] k l = absurd (omega arith)
    some (y ∷ ys) zero l = refl
    some (y ∷ ys) (suc k) l = some ys k (omega arith)

-- no word before place k is unknown
abbrev pub Scan : ℕ → List ℕ → ℕ → Type 0
Scan n ws k = first_unknown n 0 ws ≡ first_unknown n k (drop k ws)

module _ (n : ℕ) (ws : List ℕ) (k : ℕ) (h : Scan n ws k) where
  next : (w : ℕ) → slice_get ws k ≡ Some w → first_unknown n 0 ws ≡ cond (known n w) (first_unknown n (k + 1) (drop (k + 1) ws)) (Some (UnknownReg k))
  next w e = ⊎_elim
      (λ l. let some = slice_get-get_or ws k 0 l in
      let same : get_or ws k 0 ≡ w = cc in
      h ∙ ap (first_unknown n k) (drop_more ws k 0 l) ∙ ap (λ y. cond (known n y) (first_unknown n (k + 1) (drop (k + 1) ws)) (Some (UnknownReg k))) same)
      (λ l. let none = slice_get_past ws k l in cc)
      (cases_lt k (length ws))

  -- what the check of word k says
  pub scan_more : (w : ℕ) → slice_get ws k ≡ Some w → unless (known n w) (UnknownReg k) ≡ None → Scan n ws (k + 1)
  scan_more w e u = next w e ∙ go (known n w) u
    where
      go : (b : Bool) → unless b (UnknownReg k) ≡ None → cond b (first_unknown n (k + 1) (drop (k + 1) ws)) (Some (UnknownReg k)) ≡ first_unknown n (k + 1) (drop (k + 1) ws)
      go true u = refl
      go false u = cc

  pub scan_found : (w : ℕ) → slice_get ws k ≡ Some w → (f : Fault) → unless (known n w) (UnknownReg k) ≡ Some f → first_unknown n 0 ws ≡ Some f
  scan_found w e f u = next w e ∙ go (known n w) u
    where
      go : (b : Bool) → unless b (UnknownReg k) ≡ Some f → cond b (first_unknown n (k + 1) (drop (k + 1) ws)) (Some (UnknownReg k)) ≡ Some f
      go true u = cc
      go false u = u

  pub scan_all : length ws ≤ k → first_unknown n 0 ws ≡ None
  scan_all l = h ∙ ap (first_unknown n k) (drop_all k ws l)

  pub scan_none : slice_get ws k ≡ None → first_unknown n 0 ws ≡ None
  scan_none e = ⊎_elim (λ l. let some = slice_get-get_or ws k 0 l in cc) scan_all (cases_lt k (length ws))
