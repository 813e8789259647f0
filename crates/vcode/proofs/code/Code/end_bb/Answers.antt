use Rattle.std.proofs.Common.{sym, ◌∙◌}
use Rattle.std.proofs.lemmas.List.{length-map}
use Rattle.vcode.proofs.Outcomes.{outcome_map}
use Rattle.vcode.proofs.Pushed.{held_length}
use Rattle.vcode.proofs.code.Code.end_bb.Goals as goal
use Rattle.vcode.specs.Book.{all_insts, all_params, all_succs}
use Rattle.vcode.specs.Held.{block_of}
use Rattle.vregs.specs.Entries.{word_of}

pub returns-clause-answer : goal.returns-clause-answer
returns-clause-answer g c =
    let s = c.args.self.now in
    let r = c.push_ends.result in
    λ L k h.
    outcome_map _ r _ _
    (λ u held. record {
      insts = h.insts;
      params = h.params;
      succs = h.succs;
      ranges = held;
      operand_ranges = h.operand_ranges;
      most_insts = h.most_insts;
      most_params = h.most_params;
    })
    (c.push_ends.ensures.answer L k.closed k.unclosed h.ranges
    (record {
      insts_all = c.num_insts-insts.ensures ∙ sym (held_length g.I.MachInst.meaning s.insts.entries (all_insts k) h.insts);
      succs_all = c.len.ensures ∙ sym (held_length block_of s.succs.blocks.entries _ h.succs.blocks) ∙ length-map (all_succs k) (λ x. x.block);
      params_all = c.len-params.ensures.len ∙ sym (held_length word_of s.params.entries (all_params k) h.params);
    }))
