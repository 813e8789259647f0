use Rattle.std.proofs.Common.{◌≡◌, ◌<◌, None, MatchOption, rules, ◌+◌, ◌-◌, ◌*◌, ◌^◌, get_or, sym}
use Rattle.std.specs.Option.{SomeIff}
use Rattle.trace.proofs.Digits.{held_more, no_digit, one_more}
use Rattle.trace.proofs.number.digits.Goals as goal

pub returns-then-not-is_ascii_digit : goal.returns-then-not-is_ascii_digit
returns-then-not-is_ascii_digit c =
    no_digit c.args.word.now c.loop-b.b-index c.loop-b.invariant.0 _ c.loop-b-test.true (sym c.if-not-is_ascii_digit.ensures.value) c.loop-b.invariant.2

pub loop-b-preserved : goal.loop-b-preserved
loop-b-preserved c =
    let word = c.args.word.now in
    let i = c.loop-b.b-index in
    let n = c.loop-b.invariant.0 in
    let digit = get_or word i 0 - 48 in
    let step : MatchOption c.loop-b.value (c.and_then-value.result ≡ None) (λ x. SomeIff c.and_then-value.result (x * 10 + digit < 2 ^ 64) (x * 10 + digit)) = search rules in (
      n * 10 + digit,
      held_more n digit _ _ c.loop-b.invariant.1 step,
      one_more word i n c.loop-b-test.true (sym c.if-not-is_ascii_digit.ensures.value) c.loop-b.invariant.2,
    )
