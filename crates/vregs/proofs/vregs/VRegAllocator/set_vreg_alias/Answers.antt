use Rattle.std.proofs.Common.{get_or, set, None, refl, sym, arith}
use Rattle.regs.specs.declared.reg.RegClass.TheVariants.{Int}
use Rattle.std.proofs.lemmas.List.{length-set}
use Rattle.std.proofs.lemmas.Bool.{eqb-false}
use Rattle.std.proofs.lemmas.Grind.{common_steps}
use Rattle.tables.specs.Tables.{refitted}
use Rattle.vregs.proofs.Filing.{accepted, aliased, already}
use Rattle.vregs.proofs.vregs.VRegAllocator.set_vreg_alias.Goals as goal
use Rattle.vregs.specs.declared.vregs.VReg.{VReg}

abbrev spare : VReg
spare = record { alias = None; ty = record { 0 = 0 }; class = Int }

pub returns-then-is_some : goal.returns-then-is_some
returns-then-is_some c = record {
  answer =
      already c.args.self.now c.args.from.0 c.args.to.0 c.in_ok-i.i c.resolve_vreg_alias-root.result spare
      c.in_ok-i.ensures.0 c.in_ok-i.ensures.1 c.in_ok-check_allocated.ensures.0
      c.resolve_vreg_alias-root.ensures.root (eqb-false _ _ (sym c.if-eq.ensures)) c.as_slice.result.now c.as_slice.ensures c.if-is_some.ensures;
  unchanged = refl;
  limit = refl;
}

pub returns : goal.returns
returns c =
    let ys = c.as_mut_slice.result.now in
    let v = aliased (get_or ys c.in_ok-i.i spare) c.resolve_vreg_alias-root.result in
    let ws = set ys c.in_ok-i.i v in
    record {
      answer =
          accepted c.args.self.now c.args.from.0 c.args.to.0 c.in_ok-i.i c.resolve_vreg_alias-root.result spare
          c.in_ok-i.ensures.0 c.in_ok-i.ensures.1 c.in_ok-check_allocated.ensures.0
          c.resolve_vreg_alias-root.ensures.root (eqb-false _ _ (sym c.if-eq.ensures)) c.as_slice.result.now ys
          (record { vregs = refitted c.args.self.now.vregs ws })
          c.as_slice.ensures c.as_mut_slice.ensures.value c.if-is_some.ensures
          (grind (arith, common_steps, length-set ys c.in_ok-i.i v, c.as_mut_slice.ensures.value));
      unchanged = tt;
      limit = refl;
    }
