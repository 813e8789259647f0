use Rattle.vregs.proofs.Scans.{Scan}
use Rattle.vregs.proofs.vregs.VRegAllocator.check_slots.Given as goal
use Rattle.vregs.specs.Entries.{parts_in}
use Rattle.vregs.specs.Files.{count}
use Rattle.vregs.specs.Insts.{slot_words}

abbrev pub invariant-loop-k : goal.invariant-loop-k
invariant-loop-k g l = Scan (count (parts_in l.self)) (slot_words (g.I.MachInst.meaning l.inst)) l.k
