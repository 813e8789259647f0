use Rattle.std.proofs.Common.{rules, tests, eqb, ◌||◌, ap, ◌∙◌}
use Rattle.std.proofs.lemmas.Iterator.{YieldsList-from_slice}
use Rattle.std.proofs.lemmas.Iterator.Search.{all_from_yields_List}
use Rattle.std.specs.List.{list_all}
use Rattle.trace.proofs.words.is_passed_over.Goals as goal

pub returns-else-starts_with : goal.returns-else-starts_with
returns-else-starts_with c =
    let blank = all_from_yields_List (λ b. eqb b 32) _ _ c.all.result c.all.ensures.ran (YieldsList-from_slice c.args.line.now cc) (λ x b q k. search (rules, tests)) in
    blank ∙ ap (λ b. b || list_all (λ b. eqb b 32) c.args.line.now) c.if-starts_with.ensures.value
