use Rattle.std.proofs.Common.{string_bytes, codes, arith}
use Rattle.machinst.specs.Meaning.{slots_of}
use Rattle.trace.proofs.Texts.{slots_all, slots_done, slots_step}
use Rattle.trace.proofs.show.write_slots.Goals as goal

pub loop-k-preserved : goal.loop-k-preserved
loop-k-preserved g c =
    slots_step c.args.i (codes "slot") (slots_of (g.I.MachInst.meaning c.args.inst.now)) _ c.loop-k.k _ (string_bytes c.loop-k.out) _
    c.loop-k.invariant c.in-Some.ensures c.in_ok-write_slot.ensures

pub returns-in_default : goal.returns-in_default
returns-in_default g c =
    λ h. slots_done c.args.i (codes "slot") (slots_of (g.I.MachInst.meaning c.args.inst.now)) _ c.loop-k.k _ c.loop-k.invariant c.in_default.ensures

pub returns : goal.returns
returns g c =
    λ h. slots_all c.args.i (codes "slot") (slots_of (g.I.MachInst.meaning c.args.inst.now)) _ c.loop-k.k _ c.loop-k.invariant (omega arith)
