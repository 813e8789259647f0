use Rattle.std.proofs.Common.{map}
use Rattle.vregs.proofs.Scans.{Scan}
use Rattle.vregs.proofs.vregs.VRegAllocator.check_all_known.Given as goal
use Rattle.vregs.specs.Entries.{parts_in, word_of}
use Rattle.vregs.specs.Files.{count}

abbrev pub invariant-loop-i : goal.invariant-loop-i
invariant-loop-i l = Scan (count (parts_in l.self)) (map word_of l.regs) l.i
