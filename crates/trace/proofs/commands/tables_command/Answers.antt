use Rattle.std.proofs.Common.{refl, ap, ◌∙◌}
use Rattle.trace.proofs.Settling.{read_as}
use Rattle.trace.proofs.commands.tables_command.Goals as goal
use Rattle.trace.specs.Alone.{refused_text}
use Rattle.trace.specs.Steps.{new_text, tables_step, text}

pub returns-in_ok-writeln-in-Ok : goal.returns-in_ok-writeln-in-Ok
returns-in_ok-writeln-in-Ok c = (
  refl,
  (
    text new_text,
    read_as _ c.in_ok-lengths.lengths _ _ c.in_ok-lengths.ensures ∙ ap tables_step c.in-Ok.ensures.0,
    c.in_ok-writeln-in-Ok.ensures.bytes,
  ),
)

pub returns-in_ok-writeln-in-Err : goal.returns-in_ok-writeln-in-Err
returns-in_ok-writeln-in-Err c = (
  refl,
  (
    text (refused_text c.in-Err.fault),
    read_as _ c.in_ok-lengths.lengths _ _ c.in_ok-lengths.ensures ∙ ap tables_step c.in-Err.ensures,
    c.in_ok-writeln-in-Err.ensures.bytes,
  ),
)
