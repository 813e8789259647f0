use Rattle.std.proofs.Common.{Ok, rules, codes, arith}
use Rattle.trace.proofs.Calls.{by_name}
use Rattle.trace.proofs.alone.read_named.Goals as goal
use Rattle.trace.specs.declared.alone.RangesCall.TheVariants.{PushEnd, ReverseIndex, ReverseTarget}

pub returns-in_ok-number-in-112 : goal.returns-in_ok-number-in-112
returns-in_ok-number-in-112 c =
    by_name c.args.name.now (codes "push_end") c.args.words.now (Ok (PushEnd c.in_ok-number-in-112.field-0)) c.number-in-112.new.self
    (omega arith) (search (rules, arith)) (search rules)

pub returns-in_err-number-in-112 : goal.returns-in_err-number-in-112
returns-in_err-number-in-112 c =
    by_name c.args.name.now (codes "push_end") c.args.words.now c.from_residual-in_err-number-in-112.result c.number-in-112.new.self
    (omega arith) (search (rules, arith)) (search rules)

pub returns-in_ok-number-in-114 : goal.returns-in_ok-number-in-114
returns-in_ok-number-in-114 c =
    by_name c.args.name.now (codes "reverse_target") c.args.words.now (Ok (ReverseTarget c.in_ok-number-in-114.field-0)) c.number-in-114.new.self
    (omega arith) (search (rules, arith)) (search rules)

pub returns-in_err-number-in-114 : goal.returns-in_err-number-in-114
returns-in_err-number-in-114 c =
    by_name c.args.name.now (codes "reverse_target") c.args.words.now c.from_residual-in_err-number-in-114.result c.number-in-114.new.self
    (omega arith) (search (rules, arith)) (search rules)

pub returns-in-114-2 : goal.returns-in-114-2
returns-in-114-2 c =
    by_name c.args.name.now (codes "reverse_index") c.args.words.now (Ok ReverseIndex) c.args.words.now
    (omega arith) (search (rules, arith)) (search rules)
