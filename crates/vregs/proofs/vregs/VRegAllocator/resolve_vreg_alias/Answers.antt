use Rattle.std.proofs.Common.{sym, arith}
use Rattle.vregs.proofs.Walk.{along_all, along_more, along_none, along_start, root_rule}
use Rattle.vregs.proofs.vregs.VRegAllocator.resolve_vreg_alias.Goals as goal

pub loop-init : goal.loop-init
loop-init c = along_start c.args.self.now c.args.reg.0

pub returns-in-None : goal.returns-in-None
returns-in-None c = record {
  root = along_none c.args.self.now c.args.reg.0 c.loop.at.0 c.loop.counter c.loop.invariant (sym c.in-None.ensures);
  rule = root_rule c.args.self.now;
}

pub loop-preserved : goal.loop-preserved
loop-preserved c =
    along_more c.args.self.now c.args.reg.0 c.loop.at.0 c.loop.counter c.in-Some.next.0 c.loop.invariant (sym c.in-Some.ensures)

pub returns : goal.returns
returns c = record {
  root = along_all c.args.self.now c.args.reg.0 c.loop.at.0 c.loop.counter c.loop.invariant (omega (arith, c.loop-test.false, c.len-end.ensures.len));
  rule = root_rule c.args.self.now;
}
