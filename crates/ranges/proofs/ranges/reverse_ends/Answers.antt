use Rattle.std.proofs.Common.{◌-◌, length, arith}
use Rattle.std.proofs.lemmas.List.{ext_get_or}
use Rattle.ranges.proofs.Reversal.{reversed_length, reversed_at}
use Rattle.ranges.proofs.ranges.reverse_ends.Goals as goal

pub returns : goal.returns
returns c =
    let t = c.args.target_len in
    let es = c.args.ends.now in
    ext_get_or 0 _ _ (grind (arith, reversed_length t es, c.reverse.ensures.len)) (λ k h. grind (
      arith,
      reversed_length t es,
      reversed_at t es k,
      c.reverse.ensures.len,
      c.reverse.ensures.by_index k 0,
      c.loop-e.invariant.1 (length es - 1 - k),
    ))
