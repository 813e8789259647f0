use Rattle.std.proofs.Common.{Ok, sym, refl, ap, ◌∙◌}
use Rattle.ranges.specs.Spans.{Spans}
use Rattle.trace.proofs.Settling.{read_as}
use Rattle.trace.proofs.commands.start_ranges.Goals as goal
use Rattle.trace.specs.Steps.{Step, alone, new_text, text}

pub returns : goal.returns
returns c = (
  refl,
  (
    text new_text,
    read_as _ c.in_ok-length.length _ _ c.in_ok-length.ensures ∙ ap {B = Step} (λ (s : Spans). Ok (alone s, text new_text)) (sym c.in_ok-ranges.ensures),
    c.in_ok-writeln.ensures.bytes,
  ),
)
