use Rattle.std.proofs.Common.{◌≡◌, length, refl, ap, ◌∙◌, arith}
use Rattle.regs.specs.Parts.{value_regs}
use Rattle.regs.specs.declared.reg.RegClass.TheVariants.{Int}
use Rattle.regs.specs.declared.reg.«Type».{«Type» as Ty}
use Rattle.vregs.proofs.Allocations.{granted_one, granted_two, no_room}
use Rattle.vregs.specs.Entries.{limit_of, vregs_of}
use Rattle.vregs.proofs.Outcomes.{on_err, outcome_err}
use Rattle.vregs.proofs.vregs.VRegAllocator.alloc.Goals as goal

abbrev no_type : Ty
no_type = record { 0 = 0 }

pub returns-in_err-check_room_for : goal.returns-in_err-check_room_for
returns-in_err-check_room_for g c =
    let fault = c.in_err-check_room_for.field-0.0 in
    record {
      answer = λ f h. outcome_err _ c.from_residual.result _ fault c.from_residual.ensures.1
          (no_room c.in-Some.classes.now c.in-Some.types.now Int no_type c.args.self.now f h c.args.ty.0 (g.I.MachInst.parts c.args.ty.0) fault
          c.in-Some.ensures c.in_err-check_room_for.ensures);
      unchanged = on_err c.from_residual.result refl;
      limit = refl;
    }

pub returns-in-len1 : goal.returns-in-len1
returns-in-len1 g c =
    let one : length c.in-Some.classes.now ≡ 1 = grind arith in
    record {
      answer = λ f h. granted_one c.in-Some.classes.now c.in-Some.types.now Int no_type c.args.self.now f h c.args.ty.0 (g.I.MachInst.parts c.args.ty.0)
          c.in-Some.ensures c.in_ok-check_room_for.ensures.0
          c.add.new.self c.add.result (value_regs c.one.result) c.one.ensures one (ap vregs_of c.add.ensures.vregs) c.add.ensures.word;
      unchanged = tt;
      limit = ap limit_of c.add.ensures.vregs;
    }

pub returns-in-len2 : goal.returns-in-len2
returns-in-len2 g c =
    let two : length c.in-Some.classes.now ≡ 2 = grind arith in
    record {
      answer = λ f h. granted_two c.in-Some.classes.now c.in-Some.types.now Int no_type c.args.self.now f h c.args.ty.0 (g.I.MachInst.parts c.args.ty.0)
          c.in-Some.ensures c.in_ok-check_room_for.ensures.0
          c.add-first.new.self c.add-second.new.self c.add-first.result c.add-second.result (value_regs c.two.result) c.two.ensures two
          (ap vregs_of c.add-first.ensures.vregs) (ap vregs_of c.add-second.ensures.vregs) c.add-first.ensures.word c.add-second.ensures.word;
      unchanged = tt;
      limit = ap limit_of c.add-second.ensures.vregs ∙ ap limit_of c.add-first.ensures.vregs;
    }
