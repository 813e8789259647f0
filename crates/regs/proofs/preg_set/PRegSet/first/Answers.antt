use Rattle.regs.proofs.Bitsets.{first_member}
use Rattle.regs.proofs.preg_set.PRegSet.first.Goals as goal

pub returns-clause-members : goal.returns-clause-members
returns-clause-members c = rw c.ones.ensures (first_member c.args.count)
