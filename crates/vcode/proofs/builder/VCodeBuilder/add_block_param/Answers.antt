use Rattle.std.proofs.Common.{List, sym, refl, ap, ◌∙◌}
use Rattle.machinst.specs.Parts.{Part}
use Rattle.vcode.proofs.Calls.{on_code}
use Rattle.vcode.proofs.Outcomes.{outcome_next}
use Rattle.vcode.proofs.builder.VCodeBuilder.add_block_param.Goals as goal
use Rattle.vcode.specs.Book.{after, with_param}
use Rattle.vcode.specs.Book.Call.{param}
use Rattle.vregs.specs.Files.{unallocated_fault}

pub returns-clause-answer : goal.returns-clause-answer
returns-clause-answer g c =
    let m = g.I.MachInst.meaning in
    let parts = g.I.MachInst.parts in
    let b = c.args.self.now in
    let r = c.add_block_param.result in
    λ L past h.
    let k = after parts L past in
    on_code m parts b (param c.args.param.0) L past h c.add_block_param.new.self refl (with_param k.listing c.args.param.0) refl r
    (outcome_next _ _ r _ (ap (λ (rs : List Part). unallocated_fault rs c.args.param.0 0) (sym h.file.regs) ∙ c.in_ok-check_allocated.ensures.0)
    (c.add_block_param.ensures.answer L k.listing h.code))
    c.add_block_param.ensures.unchanged
