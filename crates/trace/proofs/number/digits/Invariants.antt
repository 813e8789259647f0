use Rattle.std.proofs.Common.{◌≡◌, ℕ}
use Rattle.trace.proofs.Digits.{Begun, held}
use Rattle.trace.proofs.number.digits.Given as goal

-- the digits so far write n, which `value` holds where it fits
abbrev pub invariant-loop-b : goal.invariant-loop-b
invariant-loop-b l = (n : ℕ) × (l.value ≡ held n) × Begun l.word l.b-index n
