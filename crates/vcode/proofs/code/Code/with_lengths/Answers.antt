use Rattle.std.proofs.Common.{map, refl, ap}
use Rattle.vcode.proofs.code.Code.with_lengths.Goals as goal
use Rattle.vcode.specs.Made.{capacities}
use Rattle.vregs.specs.Entries.{word_of}

pub returns : goal.returns
returns g c =
    let L = capacities c.args.lengths.now in
    record {
      insts = ap (map g.I.MachInst.meaning) (ap (λ t. t.entries) c.in_ok-new.ensures);
      params = ap (map word_of) (ap (λ t. t.entries) c.in_ok-new-2.ensures);
      succs = c.in_ok-with_lengths.ensures L refl refl;
      ranges = c.in_ok-with_length.ensures L refl;
      operand_ranges = c.in_ok-new-3.ensures;
      most_insts = ap (λ t. t.limit) c.in_ok-new.ensures;
      most_params = ap (λ t. t.limit) c.in_ok-new-2.ensures;
    }
