use Rattle.std.proofs.Common.{List, sym, refl, ap, ◌∙◌}
use Rattle.machinst.specs.Parts.{Part}
use Rattle.vcode.proofs.Calls.{on_code}
use Rattle.vcode.proofs.Outcomes.{outcome_next}
use Rattle.vcode.proofs.builder.VCodeBuilder.push.Goals as goal
use Rattle.vcode.specs.Book.{after, with_inst}
use Rattle.vcode.specs.Book.Call.{push}
use Rattle.vregs.specs.Files.{count}
use Rattle.vregs.specs.Insts.{inst_fault}

pub returns-clause-answer : goal.returns-clause-answer
returns-clause-answer g c =
    let m = g.I.MachInst.meaning in
    let parts = g.I.MachInst.parts in
    let b = c.args.self.now in
    let r = c.push.result in
    λ L past h.
    let k = after parts L past in
    on_code m parts b (push (m c.args.inst)) L past h c.push.new.self refl (with_inst k.listing (m c.args.inst)) refl r
    (outcome_next _ _ r _ (ap (λ (rs : List Part). inst_fault (count rs) (m c.args.inst)) (sym h.file.regs) ∙ c.in_ok-check_inst.ensures.0)
    (c.push.ensures.answer L k.listing h.code))
    c.push.ensures.unchanged
