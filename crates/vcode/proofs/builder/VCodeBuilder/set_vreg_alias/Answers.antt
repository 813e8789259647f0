use Rattle.std.proofs.Common.{refl, ap}
use Rattle.std.proofs.lemmas.Result.{on_err_weaker}
use Rattle.vcode.proofs.Calls.{answers, file_held, with_vregs}
use Rattle.vcode.proofs.builder.VCodeBuilder.set_vreg_alias.Goals as goal
use Rattle.vcode.specs.Book.{after}
use Rattle.vcode.specs.Book.Answer.{done}
use Rattle.vcode.specs.Book.Call.{alias}
use Rattle.vregs.proofs.Walk.{root_rule}

pub returns-clause-answer : goal.returns-clause-answer
returns-clause-answer g c =
    let m = g.I.MachInst.meaning in
    let parts = g.I.MachInst.parts in
    let b = c.args.self.now in
    let r = c.set_vreg_alias.result in
    λ L past h.
    let k = after parts L past in
    answers m parts b (alias c.args.from.0 c.args.to.0) L past h _ (λ _. done) r _ (c.set_vreg_alias.ensures.answer k.file h.file)
    (λ u held. (refl, file_held m parts b L k _ _ h held c.set_vreg_alias.ensures.limit))
    (on_err_weaker r (ap (with_vregs b)) c.set_vreg_alias.ensures.unchanged)

pub returns-clause-rule : goal.returns-clause-rule
returns-clause-rule g c = λ L past h. root_rule c.args.self.now.tables.vregs (after g.I.MachInst.parts L past).file h.file
