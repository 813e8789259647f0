use Rattle.std.proofs.Common.{eqb, length, get_or, ap, ◌∙◌, arith}
use Rattle.regs.specs.Classes.{class_number}
use Rattle.vregs.proofs.Places.{position_within}
use Rattle.vregs.proofs.vregs.VRegAllocator.position.Goals as goal
use Rattle.vregs.specs.Entries.{vregs_of}

pub returns : goal.returns
returns c =
    let v = c.in_ok-vreg.vreg.now in
    c.then_some.ensures
    ∙ position_within (vregs_of c.args.self.now) c.args.reg.0 c.in_ok-index.field-0 (class_number c.in_ok-class.class) c.in_ok-i.i
    c.in_ok-index.ensures c.in_ok-class.ensures c.in_ok-i.ensures
    v (c.in_ok-vreg.ensures.lookup.1 ∙ ap (λ vs. get_or vs c.in_ok-i.i v) c.as_slice.ensures)
    (omega (arith, c.in_ok-vreg.ensures.lookup.3.0, ap length c.as_slice.ensures))
    (eqb c.number.result c.number-2.result) (λ i. eqb (c.number.ensures i) (c.number-2.ensures i))
