use Rattle.std.proofs.Common.{vec_items}
use Rattle.std.proofs.lemmas.Result.{err_from_is_err_and}
use Rattle.trace.proofs.Prefixes.{read_more, read_none}
use Rattle.trace.proofs.head.read_wrappers.Goals as goal

pub returns-in_err-try_from : goal.returns-in_err-try_from
returns-in_err-try_from c =
    let p = err_from_is_err_and c.from_residual.result c.from_residual.ensures.1 in
    rw (p.1, p.2) (read_none (vec_items c.loop-word.wrappers) c.in-Some.word.now _ _ _ _ c.loop-word.invariant c.in-Some.ensures.steps c.in_err-try_from.ensures)

pub loop-word-preserved : goal.loop-word-preserved
loop-word-preserved c =
    read_more (vec_items c.loop-word.wrappers) (vec_items c.push.new.self) c.in_ok-try_from.field-0 c.in-Some.word.now _ _ _
    c.loop-word.invariant c.in-Some.ensures.steps c.in_ok-try_from.ensures c.in_ok-push.ensures.items
