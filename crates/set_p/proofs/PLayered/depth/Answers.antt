use Rattle.set_p.proofs.PLayered.depth.Goals as goal
use Rattle.machinst.proofs.Bare.{under_none}

pub returns-clause-under : goal.returns-clause-under
returns-clause-under c = under_none _
