use Rattle.std.proofs.Common.{rules, codes, ap, sym, arith}
use Rattle.std.proofs.lemmas.Slice.Eq.{text_from_reads}
use Rattle.trace.proofs.head.WrapperTryFromRefSliceU8.try_from.Goals as goal
use Rattle.trace.specs.Heads.{wrapper_named}

pub returns-in-fenced : goal.returns-in-fenced
returns-in-fenced c =
    sym (ap wrapper_named (text_from_reads c.args.name.now (codes "fenced") (omega arith) (search rules)))

pub returns-in-charged : goal.returns-in-charged
returns-in-charged c =
    sym (ap wrapper_named (text_from_reads c.args.name.now (codes "charged") (omega arith) (search rules)))
