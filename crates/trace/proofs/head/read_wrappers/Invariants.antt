use Rattle.std.proofs.Common.{◌≡◌, vec_items}
use Rattle.trace.proofs.Prefixes.{after}
use Rattle.trace.proofs.head.read_wrappers.Given as goal
use Rattle.trace.specs.Heads.{wrappers_of}
use Rattle.trace.specs.Readers.{left}

-- what is read and what is left are the whole list
abbrev pub invariant-loop-word : goal.invariant-loop-word
invariant-loop-word l = after (vec_items l.wrappers) (wrappers_of (left l.word-iterator)) ≡ wrappers_of (left l.fn.words)
