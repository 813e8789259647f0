use Rattle.std.proofs.Common.{ℕ, List, ◌++◌, map, String}
use Rattle.trace.proofs.session.run.Given as goal
use Rattle.trace.specs.Runs.{Run}
use Rattle.trace.specs.Steps.{place_of, start}
use Rattle.std.specs.declared.alloc.Global.{Global}

-- answering more lines after those so far answers them all
abbrev pub invariant-loop-line : goal.invariant-loop-line
invariant-loop-line l =
    (more : List (List ℕ)) (after : String Global) → Run (place_of l.session.stage) l.session.line more l.out after → Run start 0 (map (λ line. line.now) l.yielded ++ more) l.initial.out after
