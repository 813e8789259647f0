use Rattle.std.proofs.lemmas.Result.{err_from_is_err_and}
use Rattle.trace.proofs.Digits.{still_wide}
use Rattle.trace.proofs.number.number.Goals as goal
use Rattle.trace.specs.Numbers.{numeral}

pub returns-in_err-digits : goal.returns-in_err-digits
returns-in_err-digits g c =
    let p = err_from_is_err_and c.from_residual.result c.from_residual.ensures.1 in
    rw (p.1, p.2) (still_wide g.N.Unsigned.bits (numeral c.args.word.now) _ g.met.N.Unsigned.holds.0 c.in_err-digits.ensures)
