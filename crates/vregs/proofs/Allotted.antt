-- Allocated words, and that there are no more aliases than registers.
use Rattle.std.proofs.Common.{◌≡◌, ℕ, zero, suc, ◌+◌, ◌-◌, ◌*◌, ◌%◌, ◌<◌, ◌≤◌, Bool, true, false, cond, not, ◌&&◌, eqb, ltb, List, [], ◌∷◌, ◌++◌, length, is_some, Some, None, Option, sym, refl, ap, ◌∙◌, ⊎_elim, arith}
use Rattle.machinst.specs.Parts.{Part}
use Rattle.regs.specs.Words.{index_of, spill_slot}
use Rattle.std.proofs.lemmas.List.{length-append}
use Rattle.std.proofs.lemmas.Bool.{and_parts, cases_lt, cond-true, eqb-true, lt-ltb, ltb-false, ltb-true}
use Rattle.std.specs.List.{slice_get}
use Rattle.vregs.specs.Files.{Valid, allocated, count, has_class, known, new_words, reg_at}
use Rattle.vregs.specs.Roots.{alias_of, root}
use Rattle.vregs.proofs.Chains.{alias_hit}

-- An allocated word.
pub record Allotted (rs : List Part) (w : ℕ) : Type 0 where
  pub part : Part
  pub below : index_of w < count rs
  pub virtual : 192 ≤ index_of w
  pub stands : slice_get rs (index_of w - 192) ≡ Some part
  pub class : part.class ≡ w % 4

pub allotted : (rs : List Part) (w : ℕ) → allocated rs w ≡ true → Allotted rs w
allotted rs w h =
    let k = and_parts (known (count rs) w) (has_class (reg_at rs (index_of w)) (w % 4)) h in
    let l = and_parts (not (spill_slot w)) (ltb (w % 4) 3 && ltb (index_of w) (count rs)) k.0 in
    let i : index_of w < count rs = ltb-true (index_of w) (count rs) (and_parts (ltb (w % 4) 3) (ltb (index_of w) (count rs)) l.1).1 in
    go i (ltb (index_of w) 192) (slice_get rs (index_of w - 192)) refl refl k.1
  where
    go : index_of w < count rs → (b : Bool) (o : Option Part) → ltb (index_of w) 192 ≡ b → slice_get rs (index_of w - 192) ≡ o → has_class (cond b None o) (w % 4) ≡ true → Allotted rs w
    go i true o e f h = cc
    go i false None e f h = cc
    go i false (Some p) e f h = record { part = p; below = i; virtual = ltb-false (index_of w) 192 e; stands = f; class = eqb-true p.class (w % 4) h }

-- of these words, how many have no alias
abbrev free : List (ℕ × ℕ) → List ℕ → ℕ
free ps [] = 0
free ps (w ∷ ws) = cond (is_some (alias_of ps w)) (free ps ws) (free ps ws + 1)

free_all : (ws : List ℕ) → free [] ws ≡ length ws
free_all [] = refl
free_all (w ∷ ws) = omega (arith, free_all ws)

free_step : (r d a b : ℕ) (t : Bool) (o : Option ℕ) → a + d ≤ b → cond (is_some (cond t (Some r) o)) a (a + 1) + d ≤ cond (is_some o) b (b + 1)
free_step r d a b true None h = omega arith
free_step r d a b true (Some m) h = h
free_step r d a b false None h = omega arith
free_step r d a b false (Some m) h = h

module _ (p : ℕ × ℕ) (ps : List (ℕ × ℕ)) where
  free_most : (ws : List ℕ) → free (p ∷ ps) ws + 0 ≤ free ps ws
  free_most [] = omega arith
  free_most (w ∷ ws) = free_step (root ps p.1) 0 (free (p ∷ ps) ws) (free ps ws) (eqb w p.0) (alias_of ps w) (free_most ws)

  free_less : (ws : List ℕ) (i : ℕ) → slice_get ws i ≡ Some p.0 → alias_of ps p.0 ≡ None → free (p ∷ ps) ws + 1 ≤ free ps ws
  free_less [] i h none = cc
  free_less (w ∷ ws) zero h none =
      let e : w ≡ p.0 = cc in
      let new : free (p ∷ ps) (w ∷ ws) ≡ free (p ∷ ps) ws = ap (λ o. cond (is_some o) (free (p ∷ ps) ws) (free (p ∷ ps) ws + 1)) (alias_hit p ps w e) in
      let old : free ps (w ∷ ws) ≡ free ps ws + 1 = ap (λ o. cond (is_some o) (free ps ws) (free ps ws + 1)) (ap (alias_of ps) e ∙ none) in
      omega (arith, free_most ws)
  free_less (w ∷ ws) (suc i) h none =
      free_step (root ps p.1) 1 (free (p ∷ ps) ws) (free ps ws) (eqb w p.0) (alias_of ps w) (free_less ws i h none)

-- the words of all registers: that of register i stands at i
word_at : (n i : ℕ) (rs : List Part) (p : Part) → slice_get rs i ≡ Some p → slice_get (new_words n rs) i ≡ Some (4 * (n + i) + p.class)
word_at n i [] p h = cc
word_at n zero (r ∷ rs) p h = let e : r.class ≡ p.class = cc in ap Some (omega arith)
word_at n (suc i) (r ∷ rs) p h = let e : 4 * (n + 1 + i) + p.class ≡ 4 * (n + suc i) + p.class = omega arith in word_at (n + 1) i rs p h ∙ ap Some e

words_long : (n : ℕ) (rs : List Part) → length (new_words n rs) ≡ length rs
words_long n [] = refl
words_long n (r ∷ rs) = ap suc (words_long (n + 1) rs)

among : (rs : List Part) (w : ℕ) → Allotted rs w → slice_get (new_words 192 rs) (index_of w - 192) ≡ Some w
among rs w h =
    let e : 4 * (192 + (index_of w - 192)) + h.part.class ≡ w = omega (arith, h.virtual, h.class) in
    word_at 192 (index_of w - 192) rs h.part h.stands ∙ ap Some e

free_total : (rs : List Part) (ps : List (ℕ × ℕ)) → Valid rs ps → free ps (new_words 192 rs) + length ps ≤ length rs
free_total rs [] v = omega (arith, free_all (new_words 192 rs), words_long 192 rs)
free_total rs (p ∷ ps) v =
    omega (arith, free_less p ps (new_words 192 rs) (index_of p.0 - 192) (among rs p.0 (allotted rs p.0 v.0)) v.2, free_total rs ps v.4)

pub aliases_few : (rs : List Part) (ps : List (ℕ × ℕ)) → Valid rs ps → length ps ≤ length rs
aliases_few rs ps v = omega (arith, free_total rs ps v)

nth_append : {X : Type 0} (xs ys : List X) (i : ℕ) → i < length xs → slice_get (xs ++ ys) i ≡ slice_get xs i
nth_append [] ys i h = absurd (omega arith)
nth_append (x ∷ xs) ys zero h = refl
nth_append (x ∷ xs) ys (suc i) h = nth_append xs ys i (omega arith)

module _ (rs qs : List Part) where
  reg_at_same : (i : ℕ) → i < count rs → reg_at (rs ++ qs) i ≡ reg_at rs i
  reg_at_same i h = ⊎_elim
      (λ l. cond-true (ltb i 192) None (slice_get (rs ++ qs) (i - 192)) (lt-ltb i 192 l) ∙ sym (cond-true (ltb i 192) None (slice_get rs (i - 192)) (lt-ltb i 192 l)))
      (λ l. ap (λ o. cond (ltb i 192) None o) (nth_append rs qs (i - 192) (omega arith)))
      (cases_lt i 192)

  -- registers that are added change nothing of the words below them
  pub allocated_same : (w : ℕ) → index_of w < count rs → allocated (rs ++ qs) w ≡ allocated rs w
  allocated_same w h =
      let more : index_of w < count (rs ++ qs) = omega (arith, length-append rs qs) in
      ap (λ b. (not (spill_slot w) && (ltb (w % 4) 3 && b)) && has_class (reg_at (rs ++ qs) (index_of w)) (w % 4))
      (lt-ltb (index_of w) (count (rs ++ qs)) more ∙ sym (lt-ltb (index_of w) (count rs) h))
      ∙ ap (λ o. known (count rs) w && has_class o (w % 4)) (reg_at_same (index_of w) h)

  still_allocated : (w : ℕ) → allocated rs w ≡ true → allocated (rs ++ qs) w ≡ true
  still_allocated w h = allocated_same w (allotted rs w h).below ∙ h

  pub still_valid : (ps : List (ℕ × ℕ)) → Valid rs ps → Valid (rs ++ qs) ps
  still_valid [] v = tt
  still_valid (p ∷ ps) v = (still_allocated p.0 v.0, still_allocated p.1 v.1, v.2, v.3, still_valid ps v.4)

-- an allocated word is known by its index
pub same_word : (rs : List Part) (v w : ℕ) → allocated rs v ≡ true → allocated rs w ≡ true → index_of v - 192 ≡ index_of w - 192 → v ≡ w
same_word rs v w h k e =
    let a = allotted rs v h in
    let b = allotted rs w k in
    let p : a.part ≡ b.part = cc in
    let c : v % 4 ≡ w % 4 = sym a.class ∙ ap (λ q. q.class) p ∙ b.class in
    omega (arith, a.virtual, b.virtual)
