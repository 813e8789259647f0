use Rattle.std.proofs.Common.{List, map, sym, refl, ap, ◌∙◌}
use Rattle.machinst.specs.Parts.{Part}
use Rattle.vcode.proofs.Calls.{on_code}
use Rattle.vcode.proofs.Outcomes.{outcome_next}
use Rattle.vcode.proofs.builder.VCodeBuilder.add_succ.Goals as goal
use Rattle.vcode.specs.Book.{after, with_succ}
use Rattle.vcode.specs.Book.Call.{succ}
use Rattle.vregs.specs.Entries.{word_of}
use Rattle.vregs.specs.Files.{count}
use Rattle.vregs.specs.Insts.{first_unknown}

pub returns-clause-answer : goal.returns-clause-answer
returns-clause-answer g c =
    let m = g.I.MachInst.meaning in
    let parts = g.I.MachInst.parts in
    let b = c.args.self.now in
    let r = c.add_succ.result in
    λ L past h.
    let k = after parts L past in
    on_code m parts b (succ c.args.block.0 (map word_of c.args.args.now)) L past h c.add_succ.new.self refl (with_succ k.listing c.args.block.0 (map word_of c.args.args.now)) refl r
    (outcome_next _ _ r _ (ap (λ (rs : List Part). first_unknown (count rs) 0 (map word_of c.args.args.now)) (sym h.file.regs) ∙ c.in_ok-check_all_known.ensures.0)
    (c.add_succ.ensures.answer L k.listing h.code))
    c.add_succ.ensures.unchanged
