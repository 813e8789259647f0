use Rattle.std.proofs.Common.{List, Ok, Result, sym, ap, ◌∙◌}
use Rattle.machinst.specs.Layers.{Layer}
use Rattle.machinst.specs.Meaning.{Meaning}
use Rattle.trace.proofs.stage.Head.show.Goals as goal
use Rattle.trace.specs.Heads.{wrapping_list}
use Rattle.trace.specs.Readers.{left}
use Rattle.trace.specs.Shows.{bare_reader, layered}
use Rattle.trace.specs.Steps.{Step, head, meaning, with_read}
use Rattle.trace.specs.declared.head.Wrapping.{Wrapping}
use Rattle.trace.specs.declared.reason.Reason.{Reason}
use Rattle.wrappers.specs.Wrapped.{wrapped}

pub returns : goal.returns
returns c =
    let told = c.in_ok-show.ensures.1 in
    let at = c.args.self in
    let next : Meaning × List Layer → Step = λ p. Ok (head at.set at.wrapping, meaning (wrapped p.1 p.0)) in (
      c.in_ok-show.ensures.0,
      (
        meaning (wrapped told.1 told.0),
        ap (λ (w : Wrapping). with_read (layered (bare_reader at.set) (wrapping_list w) (left c.args.request.now.words)) next) (sym c.unwrap_or-wrapping.ensures)
            ∙ ap (λ (r : Result (Meaning × List Layer) Reason). with_read r next) told.2,
        told.4,
      ),
    )
