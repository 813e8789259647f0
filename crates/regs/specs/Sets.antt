-- Sets of physical registers, by the membership of each number.
use Rattle.std.specs.Prelude.{ℕ, ◌-◌, ◌/◌, ◌%◌, ◌^◌, Bool, ◌==◌, ◌&&◌, nat_lt, [], ◌∷◌, slice_index}
use Rattle.std.specs.Int.{bit_at}
use Rattle.regs.specs.declared.preg_set.PRegSet.{PRegSet}

-- whether physical register n is in a set; none from 192 on is
abbrev pub member : PRegSet → ℕ → Bool
member s n = nat_lt n 192 && bit_at (slice_index s.bits (n / 64)) (n % 64) == 1

-- the registers below n, of which there are at most 64
abbrev pub first_regs : ℕ → PRegSet
first_regs n = record { bits = (2 ^ n - 1) ∷ 0 ∷ 0 ∷ [] }
