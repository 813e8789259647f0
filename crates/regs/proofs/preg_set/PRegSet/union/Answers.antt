use Rattle.std.proofs.Common.{rules}
use Rattle.regs.proofs.Bitsets.{joined_member}
use Rattle.regs.proofs.preg_set.PRegSet.union.Goals as goal

pub returns : goal.returns
returns c =
    joined_member _ _ _ (λ w h. let e = c.from_fn.ensures.items.at w 0 h in search rules)
