use Rattle.std.proofs.Common.{◌≡◌, map, sym, ap, ◌∙◌}
use Rattle.faults.specs.declared.table_id.TableId.TheVariants.{Insts}
use Rattle.ranges.specs.Spans.{no_spans}
use Rattle.vcode.proofs.code.Code.clear.Goals as goal
use Rattle.vregs.specs.Entries.{word_of}

pub returns : goal.returns
returns g c =
    λ L h.
    let s = c.args.self.now in
    let id = s.of_operands.0 in
    let most = s.of_operands.1 ∙ sym h.insts in
    let same : no_spans s.operand_ranges.spans.id s.operand_ranges.spans.most ≡ no_spans Insts L.insts = λ i. no_spans (id i) (most i) in
    record {
      insts = ap (map g.I.MachInst.meaning) (ap (λ t. t.entries) c.clear.ensures);
      params = ap (map word_of) (ap (λ t. t.entries) c.clear-2.ensures);
      succs = c.clear-3.ensures L h.succs h.args;
      ranges = c.clear-4.ensures L h.blocks;
      operand_ranges = c.clear-5.ensures ∙ same;
      most_insts = ap (λ t. t.limit) c.clear.ensures ∙ sym h.insts;
      most_params = ap (λ t. t.limit) c.clear-2.ensures ∙ sym h.params;
    }
