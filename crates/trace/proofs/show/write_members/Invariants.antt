use Rattle.std.proofs.Common.{◌≡◌, ◌++◌, string_bytes}
use Rattle.regs.specs.Sets.{member}
use Rattle.trace.proofs.show.write_members.Given as goal
use Rattle.trace.specs.Shown.{members_text}

-- the members below n are written
abbrev pub invariant-loop-n : goal.invariant-loop-n
invariant-loop-n l = string_bytes l.out ≡ string_bytes l.initial.out ++ members_text (member l.set) l.n-counter
