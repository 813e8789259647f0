use Rattle.std.proofs.Common.{eqb, ap, ◌∙◌, rules, tests}
use Rattle.std.proofs.lemmas.Iterator.Adapters.{YieldsList-from_rev_slice}
use Rattle.std.proofs.lemmas.Iterator.Search.{find_from_yields_List}
use Rattle.std.specs.Slice.Iter.{iter_rest}
use Rattle.std.specs.Option.{option_map_or}
use Rattle.vcode.proofs.labels.ValueLabels.last_end.Goals as goal
use Rattle.vcode.proofs.Recorded.{end_told, found_end}
use Rattle.vcode.specs.declared.labels.LabelRecord.{LabelRecord}

pub returns : goal.returns
returns c =
    let rs = c.args.self.now.records.entries in
    let l = c.args.label.0 in
    let start = ap iter_rest c.rev.ensures.source ∙ c.iter.ensures.rest ∙ c.as_slice.ensures in
    let found = find_from_yields_List (λ (r : LabelRecord). eqb r.label.0 l) _ _ c.find.result c.find.ensures.ran (YieldsList-from_rev_slice rs start) (λ x b q k. search (rules, tests)) in
    end_told c.find.result c.map_or.result _ c.map_or.ensures (λ x q. search (rules, tests))
    ∙ ap (λ o. option_map_or (λ (r : LabelRecord). r.end) o 0) found
    ∙ found_end rs l
