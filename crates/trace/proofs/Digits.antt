-- How a number is read, digit by digit.
use Rattle.std.proofs.Common.{◌≡◌, ℕ, ◌+◌, ◌-◌, ◌*◌, ◌^◌, ◌<◌, ◌≤◌, Bool, true, false, ltb, cond, List, [], ◌∷◌, length, get_or, drop, Option, Some, None, MatchOption, Ok, Err, Result, refl, sym, ap, subst, ◌∙◌, ⊎_elim, arith, le-ltb, lt-ltb}
use Rattle.std.proofs.Math.Nat.{pow-le-pow_right}
use Rattle.std.proofs.lemmas.Bool.{cases_lt}
use Rattle.std.specs.Option.{SomeIff}
use Rattle.std.proofs.lemmas.List.{at_drop_more}
use Rattle.std.specs.Char.{is_ascii_digit}
use Rattle.trace.specs.declared.reason.Reason.{Reason}
use Rattle.trace.specs.declared.reason.Reason.TheVariants.{NotANumber, TooWide}
use Rattle.trace.specs.Numbers.{numeral, numeral_after, read_number, under}

-- the number, where it has 64 bits
abbrev pub held : ℕ → Option ℕ
held n = cond (ltb n (2 ^ 64)) (Some n) None

-- the first i bytes of the word are digits, and write n
abbrev pub Begun : List ℕ → ℕ → ℕ → Type 0
Begun word i n = numeral_after 0 word ≡ numeral_after n (drop i word)

numeral_whole : (word : List ℕ) → 0 < length word → numeral word ≡ numeral_after 0 word
numeral_whole [] h = absurd (omega arith)
numeral_whole (b ∷ bs) h = refl

pub one_more : (word : List ℕ) (i n : ℕ) → i < length word → is_ascii_digit (get_or word i 0) ≡ true → Begun word i n → Begun word (i + 1) (n * 10 + (get_or word i 0 - 48))
one_more word i n lt d so = so ∙ at_drop_more (numeral_after n) word i 0 lt ∙ simp d

pub no_digit : (word : List ℕ) (i n limit : ℕ) → i < length word → is_ascii_digit (get_or word i 0) ≡ false → Begun word i n → Err NotANumber ≡ read_number limit word
no_digit word i n limit lt d so =
    let none : numeral word ≡ None = numeral_whole word (omega arith) ∙ so ∙ at_drop_more (numeral_after n) word i 0 lt ∙ simp d in
    simp none

held_yes : (n : ℕ) → n < 2 ^ 64 → held n ≡ Some n
held_yes n lt = ap (λ b. cond b (Some n) None) (lt-ltb n (2 ^ 64) lt)

held_no : (n : ℕ) → 2 ^ 64 ≤ n → held n ≡ None
held_no n ge = ap (λ b. cond b (Some n) None) (le-ltb n (2 ^ 64) ge)

-- what is made of a number that is held is held, if it still fits
made_held : (m : ℕ) (r : Option ℕ) → SomeIff r (m < 2 ^ 64) m → r ≡ held m
made_held m None above = sym (held_no m (⊎_elim (λ lt. absurd (above lt)) (λ ge. ge) (cases_lt m (2 ^ 64))))
made_held m (Some x) is = ap (λ (y : ℕ). Some y) is.1 ∙ sym (held_yes m is.0)

-- one more digit
pub held_more : (n d : ℕ) (v r : Option ℕ) → v ≡ held n → MatchOption v (r ≡ None) (λ x. SomeIff r (x * 10 + d < 2 ^ 64) (x * 10 + d)) → r ≡ held (n * 10 + d)
held_more n d v r e h =
    let P : Option ℕ → Type 0 = λ o. MatchOption o (r ≡ None) (λ x. SomeIff r (x * 10 + d < 2 ^ 64) (x * 10 + d)) in
    ⊎_elim
    (λ (lt : n < 2 ^ 64). made_held (n * 10 + d) r (subst P (e ∙ held_yes n lt) h))
    (λ (ge : 2 ^ 64 ≤ n). subst P (e ∙ held_no n ge) h ∙ sym (held_no (n * 10 + d) (omega arith)))
    (cases_lt n (2 ^ 64))

-- a number that takes more than 64 bits takes more than any fewer
pub still_wide : (bits : ℕ) (o : Option ℕ) (e : Reason) → bits ≤ 64 → Err e ≡ under (2 ^ 64) o → under (2 ^ bits) o ≡ Err e
still_wide bits None e le h = sym h
still_wide bits (Some n) e le h =
    let tested : Bool → Result ℕ Reason = λ b. cond b (Ok n) (Err TooWide) in
    ⊎_elim
    (λ (lt : n < 2 ^ 64). absurd (no_value (h ∙ ap tested (lt-ltb n (2 ^ 64) lt))))
    (λ (ge : 2 ^ 64 ≤ n). ap tested (le-ltb n (2 ^ bits) (omega (arith, ge, pow-le-pow_right {n = 2} (omega arith) le))) ∙ sym (h ∙ ap tested (le-ltb n (2 ^ 64) ge)))
    (cases_lt n (2 ^ 64))
  where
    no_value : {x : Reason} {m : ℕ} → ◌≡◌ {A = Result ℕ Reason} (Err x) (Ok m) → ⊥
    no_value h = cc
