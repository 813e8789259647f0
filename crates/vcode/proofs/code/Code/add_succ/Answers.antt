use Rattle.vcode.proofs.Outcomes.{outcome_map}
use Rattle.vcode.proofs.code.Code.add_succ.Goals as goal
use Rattle.vcode.specs.Book.{all_succs}

pub returns-clause-answer : goal.returns-clause-answer
returns-clause-answer g c =
    let r = c.add.result in
    λ L k h.
    outcome_map _ r _ _
    (λ u held. record {
      insts = h.insts;
      params = h.params;
      succs = held;
      ranges = h.ranges;
      operand_ranges = h.operand_ranges;
      most_insts = h.most_insts;
      most_params = h.most_params;
    })
    (c.add.ensures.answer L (all_succs k) h.succs)
