use Rattle.std.proofs.Common.{◌≡◌, ℕ, List, length, sym, refl, ap, ◌∙◌, subst}
use Rattle.std.proofs.lemmas.Result.{on_err_weaker}
use Rattle.machinst.specs.Parts.{Part}
use Rattle.vcode.proofs.Calls.{answers, with_labels}
use Rattle.vcode.proofs.Outcomes.{outcome_next}
use Rattle.vcode.proofs.Pushed.{held_length}
use Rattle.vcode.proofs.builder.VCodeBuilder.add_value_label.Goals as goal
use Rattle.vcode.specs.Book.{after, all_insts, record_fault, with_label}
use Rattle.vcode.specs.Book.Answer.{done}
use Rattle.vcode.specs.Book.Call.{label}
use Rattle.vcode.specs.Held.{LabelsHeld}
use Rattle.faults.specs.Outcomes.{Outcome}
use Rattle.vregs.specs.Files.{count, unknown_fault}

pub returns-clause-answer : goal.returns-clause-answer
returns-clause-answer g c =
    let m = g.I.MachInst.meaning in
    let parts = g.I.MachInst.parts in
    let b = c.args.self.now in
    let r = c.add.result in
    let w = c.args.reg.0 in
    let l = c.args.label.0 in
    λ L past h.
    let k = after parts L past in
    let n : c.num_insts.result ≡ length (all_insts k.listing) = c.num_insts.ensures ∙ sym (held_length m b.tables.code.insts.entries (all_insts k.listing) h.code.insts) in
    answers m parts b (label w l) L past h _ (λ _. done) r (λ _. LabelsHeld c.add.new.self L.labels (with_label k.labels (length (all_insts k.listing)) w l))
    (outcome_next _ _ r _ (ap (λ (rs : List Part). unknown_fault (count rs) w 0) (sym h.file.regs) ∙ c.in_ok-check_known.ensures.0)
    (subst (λ (e : ℕ). Outcome (record_fault L.labels e k.labels) r (λ _. LabelsHeld c.add.new.self L.labels (with_label k.labels e w l))) n (c.add.ensures.answer L.labels k.labels h.labels)))
    (λ u held. (refl, record { file = h.file; code = h.code; labels = held; output = h.output; entry = h.entry; most_regs = h.most_regs }))
    (on_err_weaker r (ap (with_labels b)) c.add.ensures.unchanged)
