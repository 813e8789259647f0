-- How the first word of a line is cut off.
use Rattle.std.proofs.Common.{◌≡◌, ℕ, zero, suc, ◌+◌, ◌<◌, ◌≤◌, ◌≢◌, true, false, eqb, List, [], ◌∷◌, length, get_or, take, drop, Option, Some, None, MatchOption, unwrap_or, sym, refl, ap, ◌∙◌, arith, eq-eqb, ne_eqb, get_or-drop, length-drop}
use Rattle.std.specs.List.{AllWithin, HoldsAt}
use Rattle.trace.specs.Lines.{not_empty, pieces, words_of}

-- the spaces at the front part no words
spaces_first : (bs : List ℕ) (n : ℕ) → n ≤ length bs → AllWithin (λ b. b ≡ 32) bs 0 n → words_of (drop n bs) ≡ words_of bs
spaces_first bs zero le all = refl
spaces_first [] (suc n) le all = absurd (omega (arith, le))
spaces_first (b ∷ bs) (suc n) le all =
    let e : eqb b 32 ≡ true = eq-eqb b 32 (all 0 0 (omega arith) (omega arith)) in
    spaces_first bs n (omega (arith, le)) (λ k d l h. all (suc k) d (omega arith) (omega arith)) ∙ simp e refl

pub only_spaces : (bs : List ℕ) → AllWithin (λ b. b ≡ 32) bs 0 (length bs) → words_of bs ≡ []
only_spaces [] all = refl
only_spaces (b ∷ bs) all =
    let e : eqb b 32 ≡ true = eq-eqb b 32 (all 0 0 (omega arith) (omega arith)) in
    simp e (only_spaces bs (λ k d l h. all (suc k) d (omega arith) (omega arith)))

-- n is where the first space stands, or the length
pub record Cut (bs : List ℕ) (n : ℕ) : Type 0 where
  pub within : n ≤ length bs
  pub before : (k : ℕ) → k < n → get_or bs k 0 ≢ 32
  pub found : n < length bs → get_or bs n 0 ≡ 32

pub first_space : (bs : List ℕ) (r : Option ℕ) → MatchOption r (AllWithin (λ b. b ≢ 32) bs 0 (length bs)) (λ i. (i < length bs) × HoldsAt (λ b. b ≡ 32) bs i × AllWithin (λ b. b ≢ 32) bs 0 i) → Cut bs (unwrap_or r (length bs))
first_space bs None h = record { within = omega arith; before = λ k l. h k 0 (omega arith) l; found = λ l. absurd (omega arith) }
first_space bs (Some i) h = record { within = omega (arith, h.0); before = λ k l. h.2 k 0 (omega arith) l; found = λ _. h.1 0 }

-- the same past the first byte
next_cut : (b : ℕ) (bs : List ℕ) (n : ℕ) → Cut (b ∷ bs) (suc n) → Cut bs n
next_cut b bs n cut = record {
  within = omega (arith, cut.within);
  before = λ k h. cut.before (suc k) (omega arith);
  found = λ h. cut.found (omega arith);
}

-- the first piece ends there, and the words after it are those of the rest
first_piece : (bs : List ℕ) (n : ℕ) → Cut bs n → (ps : List (List ℕ)) × (pieces 32 bs ≡ take n bs ∷ ps) × (not_empty ps ≡ words_of (drop n bs))
first_piece [] zero cut = ([], refl, refl)
first_piece [] (suc n) cut = absurd (omega (arith, cut.within))
first_piece (b ∷ bs) zero cut =
    let e : eqb b 32 ≡ true = eq-eqb b 32 (cut.found (omega arith)) in
    (pieces 32 bs, simp e, simp e)
first_piece (b ∷ bs) (suc n) cut =
    let e : eqb b 32 ≡ false = ne_eqb b 32 (cut.before 0 (omega arith)) in
    let more = first_piece bs n (next_cut b bs n cut) in
    (more.0, simp (e, more.1), more.2)

first_word : (bs : List ℕ) (n : ℕ) → 0 < n → Cut bs n → words_of bs ≡ take n bs ∷ words_of (drop n bs)
first_word bs zero some cut = absurd (omega arith)
first_word [] (suc n) some cut = absurd (omega (arith, cut.within))
first_word (b ∷ bs) (suc n) some cut =
    let first = first_piece (b ∷ bs) (suc n) cut in
    ap not_empty first.1 ∙ ap (λ ws. (b ∷ take n bs) ∷ ws) first.2

-- a word is what stands from the first byte that is no space to the first space after it
pub next_word : (bs line w rest : List ℕ) (start n : ℕ) → (start < length bs) × HoldsAt (λ b. b ≢ 32) bs start × AllWithin (λ b. b ≡ 32) bs 0 start → line ≡ drop start bs → Cut line n → w ≡ take n line → rest ≡ drop n line → words_of bs ≡ w ∷ words_of rest
next_word bs line w rest start zero at past cut front back =
    let same : start ≡ start + 0 = omega arith in
    let some : 0 < length line = omega (arith, at.0, ap length past, length-drop start bs) in
    absurd (at.1 0 (ap (λ i. get_or bs i 0) same ∙ sym (get_or-drop start bs 0 0) ∙ ap (λ l. get_or l 0 0) (sym past) ∙ cut.found some))
next_word bs line w rest start (suc n) at past cut front back =
    sym (spaces_first bs start (omega (arith, at.0)) at.2)
    ∙ ap words_of (sym past)
    ∙ first_word line (suc n) (omega arith) cut
    ∙ (λ k. sym front k ∷ words_of (sym back k))
