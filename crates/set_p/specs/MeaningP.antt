-- What each instruction of set P means, and the registers that hold its types.
use Rattle.std.specs.Prelude.{ℕ, ◌*◌, true, false, cond, [], ◌∷◌, Some, None, Option, ◌==◌, nat_lt}
use Rattle.std.proofs.Common.{lit<}
use Rattle.machinst.specs.Cases.{call_number, terminator_number}
use Rattle.machinst.specs.Meaning.{Control, Meaning, MoveWithin}
use Rattle.machinst.specs.Parts.{Part, Parts, one, two}
use Rattle.machinst.specs.Usual.{early_use, ending, fixed, in_reg, late_def, nothing_clobbered, plain, plain_control}
use Rattle.machinst.specs.declared.control.CallType.{CallType}
use Rattle.machinst.specs.declared.control.MachTerminator.{MachTerminator}
use Rattle.regs.specs.Classes.{class_number}
use Rattle.regs.specs.declared.reg.RegClass.{RegClass}
use Rattle.set_p.specs.declared.P.{P}
use Rattle.set_p.specs.declared.P.TheVariants.{Imm, Add, Move, Call, TailCall, Ret, Branch, Jump, Trap, Skip}

-- this terminator and this call, and no trap or low-level branch
abbrev control : MachTerminator → CallType → Control
control t c = record {
  terminator = terminator_number t;
  trap = false;
  call = call_number c;
  included = true;
  low_level_branch = false;
}

-- The payload is the number of the case, and 256 times the constant of an Imm.
abbrev pub meaning_p : P → Meaning
meaning_p (Imm d value) = plain (late_def in_reg d.reg.0 ∷ []) (256 * value)
meaning_p (Add a b d) = plain (early_use in_reg a.0 ∷ early_use in_reg b.0 ∷ late_def in_reg d.reg.0 ∷ []) 1
meaning_p (Move s d) = record {
  operation = record {
    slots = early_use in_reg s.0 ∷ late_def in_reg d.reg.0 ∷ [];
    clobbers = nothing_clobbered;
    move = Some (1, 0);
    payload = 2;
  };
  control = plain_control;
}
meaning_p (Call a d) = record {
  operation = record {
    slots = early_use (fixed 0) a.0 ∷ late_def (fixed 0) d.reg.0 ∷ [];
    clobbers = λ n. nat_lt n 8;
    move = None;
    payload = 3;
  };
  control = control MachTerminator.None CallType.Regular;
}
meaning_p (TailCall a) = ending (control MachTerminator.RetCall CallType.TailCall) (early_use (fixed 0) a.0 ∷ []) 4
meaning_p (Ret a) = ending (control MachTerminator.Ret CallType.None) (early_use (fixed 0) a.0 ∷ []) 5
meaning_p (Branch a) = ending (control MachTerminator.Branch CallType.None) (early_use in_reg a.0 ∷ []) 6
meaning_p Jump = ending (control MachTerminator.Branch CallType.None) [] 7
meaning_p Trap =
    ending
    (record {
      terminator = terminator_number MachTerminator.None;
      trap = true;
      call = call_number CallType.None;
      included = true;
      low_level_branch = false;
    })
    [] 8
meaning_p Skip =
    ending
    (record {
      terminator = terminator_number MachTerminator.None;
      trap = false;
      call = call_number CallType.None;
      included = true;
      low_level_branch = true;
    })
    [] 9

abbrev int_part : ℕ → Part
int_part ty = record { class = class_number RegClass.Int; ty = ty }

abbrev float_part : ℕ → Part
float_part ty = record { class = class_number RegClass.Float; ty = ty }

-- Types 1 and 5 are one Int, type 2 one Float, type 3 two Int of type 1.
abbrev pub parts_p : ℕ → Option Parts
parts_p n =
    cond (n == 1) (Some (one (int_part 1)))
    (cond (n == 2) (Some (one (float_part 2)))
    (cond (n == 3) (Some (two (int_part 1) (int_part 1)))
    (cond (n == 5) (Some (one (int_part 5))) None)))

-- both slots of a move exist
pub moves_p : (x : P) → MoveWithin (meaning_p x)
moves_p (Imm d v) = tt
moves_p (Add a b d) = tt
moves_p (Move s d) = (lit< tt, lit< tt)
moves_p (Call a d) = tt
moves_p (TailCall a) = tt
moves_p (Ret a) = tt
moves_p (Branch a) = tt
moves_p Jump = tt
moves_p Trap = tt
moves_p Skip = tt
