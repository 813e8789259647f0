use Rattle.std.proofs.Common.{◌≡◌, ◌++◌, drop, string_bytes, codes}
use Rattle.machinst.specs.Meaning.{slots_of}
use Rattle.trace.proofs.show.write_slots.Given as goal
use Rattle.trace.specs.Shown.{slots_text}

-- what is written, and the lines of the slots from k on, are all of it
abbrev pub invariant-loop-k : goal.invariant-loop-k
invariant-loop-k g l =
    string_bytes l.out ++ slots_text l.i (codes "slot") l.k (drop l.k (slots_of (g.I.MachInst.meaning l.inst)))
    ≡ string_bytes l.initial.out ++ slots_text l.i (codes "slot") 0 (slots_of (g.I.MachInst.meaning l.inst))
