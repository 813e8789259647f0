use Rattle.std.proofs.Common.{map, ap, ◌∙◌}
use Rattle.std.proofs.lemmas.Option.{slice_get-get_or, slice_get-map}
use Rattle.std.specs.Option.{option_map}
use Rattle.vregs.proofs.Outcomes.{outcome_err}
use Rattle.vregs.proofs.Scans.{scan_found, scan_more}
use Rattle.vregs.proofs.vregs.VRegAllocator.check_all_known.Goals as goal
use Rattle.vregs.specs.Entries.{parts_in, word_of}
use Rattle.vregs.specs.Files.{count}

pub returns-in_err-check_known : goal.returns-in_err-check_known
returns-in_err-check_known c =
    let ws = map word_of c.args.regs.now in
    let at = slice_get-map word_of c.args.regs.now c.loop-i.i ∙ ap (option_map word_of) (slice_get-get_or c.args.regs.now c.loop-i.i (record { 0 = 0 }) c.loop-i-test.true) in
    outcome_err _ c.from_residual.result (λ _. Unit {0}) _ c.from_residual.ensures.1
    (scan_found (count (parts_in c.args.self.now)) ws c.loop-i.i c.loop-i.invariant _ at _ c.in_err-check_known.ensures)

pub loop-i-preserved : goal.loop-i-preserved
loop-i-preserved c =
    let ws = map word_of c.args.regs.now in
    let at = slice_get-map word_of c.args.regs.now c.loop-i.i ∙ ap (option_map word_of) (slice_get-get_or c.args.regs.now c.loop-i.i (record { 0 = 0 }) c.loop-i-test.true) in
    scan_more (count (parts_in c.args.self.now)) ws c.loop-i.i c.loop-i.invariant _ at c.in_ok-check_known.ensures.0
