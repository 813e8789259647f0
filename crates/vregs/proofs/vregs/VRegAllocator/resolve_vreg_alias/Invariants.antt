use Rattle.vregs.proofs.Walk.{Along}
use Rattle.vregs.proofs.vregs.VRegAllocator.resolve_vreg_alias.Given as goal

abbrev pub invariant-loop : goal.invariant-loop
invariant-loop l = Along l.self l.initial.at.0 l.at.0 l.counter
