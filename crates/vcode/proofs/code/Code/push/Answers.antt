use Rattle.faults.specs.declared.table_id.TableId.TheVariants.{Insts}
use Rattle.vcode.proofs.Pushed.{pushed}
use Rattle.vcode.proofs.code.Code.push.Goals as goal
use Rattle.vcode.specs.Book.{all_insts}

pub returns-clause-answer : goal.returns-clause-answer
returns-clause-answer g c =
    let s = c.args.self.now in
    λ L k h. pushed g.I.MachInst.meaning s.insts c.try_push.new.self (all_insts k) Insts L.insts c.args.inst c.try_push.result _ h.insts h.most_insts s.of_insts c.try_push.ensures
    (λ held most. record {
      insts = held;
      params = h.params;
      succs = h.succs;
      ranges = h.ranges;
      operand_ranges = h.operand_ranges;
      most_insts = most;
      most_params = h.most_params;
    })
