use Rattle.std.proofs.Common.{arith}
use Rattle.std.proofs.lemmas.Grind.{common_steps}
use Rattle.ranges.proofs.Reversal.{reversed_rises, target_range}
use Rattle.ranges.proofs.ranges.Ranges.reverse_target.Goals as goal

pub invariant_of-self : goal.invariant_of-self
invariant_of-self c = λ i j le lt. grind (arith, common_steps, reversed_rises c.args.target_len c.self.inside.ends.entries c.self.invariant i j)

pub returns-clause-ranges : goal.returns-clause-ranges
returns-clause-ranges c = λ k h. grind (arith, common_steps, target_range c.args.self.now.spans c.args.target_len k)
