-- Bits of a word, and the members of a set of registers.
use Rattle.std.proofs.Common.{◌≡◌, ℕ, ◌-◌, ◌/◌, ◌%◌, ◌^◌, ◌<◌, min, length, ◌||◌, ◌&&◌, ◌==◌, nat_lt, bit_or, slice_index, slice_set, inl, inr, arith, ap, ◌∙◌}
use Rattle.std.specs.Int.{bit_at}
use Rattle.std.proofs.lemmas.Bool.{cases_lt, cases_eq}
use Rattle.std.proofs.lemmas.Bool.Decides.{nat_tests}
use Rattle.std.proofs.lemmas.Grind.{get_or-set_at}
use Rattle.std.proofs.lemmas.List.{get_or-set_other}
use Rattle.std.proofs.lemmas.Nat.Bits.{bit_at-lt, bit_at-zero, bit_at_or, bit_at-pow_same, bit_at-pow_other, bit_at_ones, bit_at_ones_above}
use Rattle.regs.specs.Sets.{member, first_regs}
use Rattle.regs.specs.declared.preg_set.PRegSet.{PRegSet}

or_bit : (x y b : ℕ) → (bit_at (bit_or x y) b == 1) ≡ ((bit_at x b == 1) || (bit_at y b == 1))
or_bit x y b = let e = bit_at_or x y b in let p = bit_at-lt x b in let q = bit_at-lt y b in grind (arith, nat_tests)

-- a power of two has one bit
power_bit : (b j : ℕ) → (bit_at (2 ^ b) j == 1) ≡ (j == b)
power_bit b j =
    elim (cases_eq j b) [
      | inl e ↦ let s = ap (bit_at (2 ^ b)) e ∙ bit_at-pow_same b in grind (arith, nat_tests)
      | inr e ↦ let s = bit_at-pow_other b j e in grind (arith, nat_tests)
    ]

-- the bits of 2 ^ k - 1 are those below k
ones_bit : (k j : ℕ) → (bit_at (2 ^ k - 1) j == 1) ≡ nat_lt j k
ones_bit k j =
    elim (cases_lt j k) [
      | inl h ↦ let e = bit_at_ones k j h in grind (arith, nat_tests)
      | inr h ↦ let e = bit_at_ones_above k j h in grind (arith, nat_tests)
    ]

-- the members of the first word alone, whose bits are those below k
pub first_member : (k n : ℕ) → member (first_regs (min k 64)) n ≡ nat_lt n (min k 64)
first_member k n =
    elim (cases_lt n 64) [
      | inl b ↦ let e = ones_bit (min k 64) n in grind (arith, nat_tests)
      | inr b ↦ let e = bit_at-zero (n % 64) in grind (arith, nat_tests)
    ]

-- the members of a set whose words have the bits of both
pub joined_member : (s t u : PRegSet) → ((w : ℕ) → w < 3 → slice_index u.bits w ≡ bit_or (slice_index s.bits w) (slice_index t.bits w)) → (n : ℕ) → member u n ≡ (member s n || member t n)
joined_member s t u h n =
    elim (cases_lt n 192) [
      | inl b ↦
          let e = h (n / 64) (omega arith) in
          let o = or_bit (slice_index s.bits (n / 64)) (slice_index t.bits (n / 64)) (n % 64) in grind (arith, nat_tests)
      | inr b ↦ grind (arith, nat_tests)
    ]

-- the members of a set with the bit of p added
pub added_member : (s : PRegSet) (p n : ℕ) → length s.bits ≡ 3 → p / 64 < 3 → member record { bits = slice_set s.bits (p / 64) (bit_or (slice_index s.bits (p / 64)) (2 ^ (p % 64))) } n ≡ (member s n || (n == p && nat_lt n 192))
added_member s p n l h =
    let x = slice_index s.bits (p / 64) in
    elim (cases_eq (n / 64) (p / 64)) [
      | inl e ↦
          let g = get_or-set_at s.bits (p / 64) (n / 64) (bit_or x (2 ^ (p % 64))) 0 e (omega arith) in
          let o = or_bit x (2 ^ (p % 64)) (n % 64) in
          let q = power_bit (p % 64) (n % 64) in
          grind (arith, nat_tests)
      | inr e ↦
          let g = get_or-set_other s.bits (p / 64) (n / 64) (bit_or x (2 ^ (p % 64))) 0 e in
          grind (arith, nat_tests)
    ]
