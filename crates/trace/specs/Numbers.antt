-- The number that a word writes. Assumes nothing.
use Rattle.std.specs.Prelude.{ℕ, ◌+◌, ◌-◌, ◌*◌, cond, List, [], ◌∷◌, Some, None, Ok, Err, Option, Result, nat_lt}
use Rattle.std.specs.Char.{is_ascii_digit}
use Rattle.trace.specs.declared.reason.Reason.{Reason}
use Rattle.trace.specs.declared.reason.Reason.TheVariants.{NotANumber, TooWide}

-- the number that the digits of n and then these bytes write, where each is a digit
abbrev pub numeral_after : ℕ → List ℕ → Option ℕ
numeral_after n [] = Some n
numeral_after n (b ∷ bs) = cond (is_ascii_digit b) (numeral_after (n * 10 + (b - 48)) bs) None

-- the number that a word writes: one digit or more, and nothing else
abbrev pub numeral : List ℕ → Option ℕ
numeral [] = None
numeral (b ∷ bs) = numeral_after 0 (b ∷ bs)

-- a number that has to be there, and below the limit
abbrev pub under : ℕ → Option ℕ → Result ℕ Reason
under limit None = Err NotANumber
under limit (Some n) = cond (nat_lt n limit) (Ok n) (Err TooWide)

-- the number that a word writes, which has to be below the limit
abbrev pub read_number : ℕ → List ℕ → Result ℕ Reason
read_number limit word = under limit (numeral word)
