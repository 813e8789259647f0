use Rattle.std.proofs.Common.{refl}
use Rattle.vcode.proofs.Calls.{on_code}
use Rattle.vcode.proofs.builder.VCodeBuilder.end_bb.Goals as goal
use Rattle.vcode.specs.Book.{after, with_closed}
use Rattle.vcode.specs.Book.Call.{close}

pub returns-clause-answer : goal.returns-clause-answer
returns-clause-answer g c =
    let parts = g.I.MachInst.parts in
    let b = c.args.self.now in
    let r = c.end_bb.result in
    λ L past h.
    let k = (after parts L past).listing in
    on_code g.I.MachInst.meaning parts b close L past h c.end_bb.new.self refl (with_closed k) refl r (c.end_bb.ensures.answer L k h.code) c.end_bb.ensures.unchanged
