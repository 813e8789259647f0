-- Register words: bit 31 marks a spill slot, any other word is 4 × index + class.
use Rattle.std.specs.Prelude.{ℕ, ◌/◌, ◌%◌, ◌^◌, Bool, cond, Some, None, Option, nat_le, nat_lt}

abbrev pub spill_slot : ℕ → Bool
spill_slot w = nat_le (2 ^ 31) w

-- the index of a word that is no spill slot
abbrev pub index_of : ℕ → ℕ
index_of w = w / 4

abbrev pub word_index : ℕ → Option ℕ
word_index w = cond (spill_slot w) None (Some (index_of w))

-- the number of a word's class: 3 is none
abbrev pub word_class : ℕ → Option ℕ
word_class w = cond (spill_slot w) None (cond (nat_lt (w % 4) 3) (Some (w % 4)) None)

-- physical registers have the indexes below 192, whatever the class; no spill slot has such an index
abbrev pub physical : ℕ → Bool
physical w = nat_lt (index_of w) 192
