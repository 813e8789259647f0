use Rattle.wrappers.proofs.Stacked.{under_wrapped}
use Rattle.wrappers.proofs.wrapped.WrappedLayered.depth.Goals as goal

pub returns-clause-under : goal.returns-clause-under
returns-clause-under g c = under_wrapped _ _ _ c.depth.ensures.under _
