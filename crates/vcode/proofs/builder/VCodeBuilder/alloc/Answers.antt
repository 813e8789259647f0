use Rattle.std.proofs.Common.{◌≡◌, ℕ, map, ap, subst}
use Rattle.regs.specs.Parts.{value_regs}
use Rattle.std.proofs.lemmas.Result.{on_err_weaker}
use Rattle.vcode.proofs.Calls.{answers, file_held, with_vregs}
use Rattle.vcode.proofs.builder.VCodeBuilder.alloc.Goals as goal
use Rattle.vcode.specs.Book.{after}
use Rattle.vcode.specs.Book.Answer.{words}
use Rattle.vcode.specs.Book.Call.{alloc}
use Rattle.vcode.specs.Past.{words_in}
use Rattle.vregs.specs.Entries.{Filed, word_of}
use Rattle.faults.specs.Outcomes.{Outcome}
use Rattle.vregs.specs.Files.{alloc_fault, count, new_words, parts_of, with_regs}

pub returns-clause-answer : goal.returns-clause-answer
returns-clause-answer g c =
    let m = g.I.MachInst.meaning in
    let parts = g.I.MachInst.parts in
    let b = c.args.self.now in
    let ty = c.args.ty.0 in
    let r = c.alloc.result in
    let new = parts_of (parts ty) in
    λ L past h.
    let k = after parts L past in
    let f = k.file in
    answers m parts b (alloc ty) L past h _ words_in r _
    (subst (λ (n : ℕ). Outcome (alloc_fault parts n f ty) r (λ v. (map word_of (value_regs v) ≡ new_words (count f.regs) new) × Filed c.alloc.new.self (with_regs f new))) h.most_regs (c.alloc.ensures.answer f h.file))
    (λ v held. (ap words held.0, file_held m parts b L k _ _ h held.1 c.alloc.ensures.limit))
    (on_err_weaker r (ap (with_vregs b)) c.alloc.ensures.unchanged)
