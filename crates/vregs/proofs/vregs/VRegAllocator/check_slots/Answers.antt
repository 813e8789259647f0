use Rattle.std.proofs.Common.{sym, ap, ◌∙◌}
use Rattle.machinst.specs.Meaning.{slot_of, slots_of}
use Rattle.std.proofs.lemmas.Option.{slice_get-map}
use Rattle.std.specs.Option.{option_map}
use Rattle.vregs.proofs.Outcomes.{outcome_err}
use Rattle.vregs.proofs.Scans.{scan_found, scan_more, scan_none}
use Rattle.vregs.proofs.vregs.VRegAllocator.check_slots.Goals as goal
use Rattle.vregs.specs.Entries.{parts_in}
use Rattle.vregs.specs.Files.{count}
use Rattle.vregs.specs.Insts.{slot_words}

pub returns-in_err-check_known : goal.returns-in_err-check_known
returns-in_err-check_known g c short =
    let m = g.I.MachInst.meaning c.args.inst.now in
    let at = slice_get-map (λ s. s.word) (slots_of m) c.loop-k.k ∙ ap (option_map (λ s. s.word)) (sym c.slot.ensures ∙ ap (option_map slot_of) c.in-Some.is) in
    outcome_err _ c.from_residual.result (λ _. Unit {0}) _ c.from_residual.ensures.1
    (scan_found (count (parts_in c.args.self.now)) (slot_words m) c.loop-k.k c.loop-k.invariant _ at _ c.in_err-check_known.ensures)

pub returns-in_default : goal.returns-in_default
returns-in_default g c short =
    let m = g.I.MachInst.meaning c.args.inst.now in
    let at = slice_get-map (λ s. s.word) (slots_of m) c.loop-k.k ∙ ap (option_map (λ s. s.word)) (sym c.slot.ensures ∙ ap (option_map slot_of) c.in_default.is) in
    (scan_none (count (parts_in c.args.self.now)) (slot_words m) c.loop-k.k c.loop-k.invariant at, tt)

pub loop-k-preserved : goal.loop-k-preserved
loop-k-preserved g c =
    let m = g.I.MachInst.meaning c.args.inst.now in
    let at = slice_get-map (λ s. s.word) (slots_of m) c.loop-k.k ∙ ap (option_map (λ s. s.word)) (sym c.slot.ensures ∙ ap (option_map slot_of) c.in-Some.is) in
    scan_more (count (parts_in c.args.self.now)) (slot_words m) c.loop-k.k c.loop-k.invariant _ at c.in_ok-check_known.ensures.0
