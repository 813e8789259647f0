use Rattle.std.proofs.Common.{Ok, sym, refl, ap, ◌∙◌}
use Rattle.ranges.specs.Spans.{Spans}
use Rattle.trace.proofs.Settling.{read_as}
use Rattle.trace.proofs.commands.alone_command.Goals as goal
use Rattle.trace.specs.Alone.{call_text}
use Rattle.trace.specs.Steps.{Step, alone, text}

pub returns : goal.returns
returns c =
    let said = text (call_text c.args.ranges.now.spans c.in_ok-call.call) in (
      refl,
      (
        said,
        read_as _ c.in_ok-call.call _ _ c.in_ok-call.ensures ∙ ap {B = Step} (λ (s : Spans). Ok (alone s, said)) (sym c.answer_call.ensures.after),
        c.in_ok-answer_call.ensures.answer,
      ),
    )
