use Rattle.std.proofs.Common.{Some, sym}
use Rattle.vregs.proofs.Outcomes.{few, outcome_err, words_tested}
use Rattle.vregs.proofs.vregs.VRegAllocator.check_inst.Goals as goal
use Rattle.vregs.specs.Entries.{parts_in}
use Rattle.vregs.specs.Files.{count}

pub returns-in_err-check_slots : goal.returns-in_err-check_slots
returns-in_err-check_slots g c =
    let n = count (parts_in c.args.self.now) in
    let m = g.I.MachInst.meaning c.args.inst.now in
    let branch = sym c.if-is_low_level_branch.ensures in
    let slots = sym c.if-has_slot.ensures in
    let fault = c.in_err-check_slots.field-0.0 in
    outcome_err _ c.from_residual.result (λ _. Unit {0}) fault c.from_residual.ensures.1
    (words_tested n m branch slots (Some fault) (c.in_err-check_slots.ensures (few n m branch slots)))
