use Rattle.faults.specs.declared.table_id.TableId.TheVariants.{BlockParams}
use Rattle.vcode.proofs.Pushed.{pushed}
use Rattle.vcode.proofs.code.Code.add_block_param.Goals as goal
use Rattle.vcode.specs.Book.{all_params}
use Rattle.vregs.specs.Entries.{word_of}

pub returns-clause-answer : goal.returns-clause-answer
returns-clause-answer g c =
    let s = c.args.self.now in
    λ L k h. pushed word_of s.params c.try_push.new.self (all_params k) BlockParams L.params c.args.param c.try_push.result _ h.params h.most_params s.of_params c.try_push.ensures
    (λ held most. record {
      insts = h.insts;
      params = held;
      succs = h.succs;
      ranges = h.ranges;
      operand_ranges = h.operand_ranges;
      most_insts = h.most_insts;
      most_params = most;
    })
