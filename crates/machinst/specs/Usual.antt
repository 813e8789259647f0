-- What holds of an instruction unless it is said otherwise: a Use is early, a Def is late, a slot may be in any register
-- of its class, there is no terminator, trap, call, clobber or move, and the clobbers are included.
use Rattle.std.specs.Prelude.{ℕ, Bool, true, false, List, None}
use Rattle.machinst.specs.Cases.{Case, call_number, constraint_case, kind_number, pos_number, terminator_number}
use Rattle.machinst.specs.Meaning.{Control, Meaning, Slot}
use Rattle.machinst.specs.declared.control.CallType.{CallType}
use Rattle.machinst.specs.declared.control.MachTerminator.{MachTerminator}
use Rattle.machinst.specs.declared.operand.OperandConstraint.{OperandConstraint}
use Rattle.machinst.specs.declared.operand.OperandKind.{OperandKind}
use Rattle.machinst.specs.declared.operand.OperandPos.{OperandPos}

abbrev pub early_use : Case → ℕ → Slot
early_use c w = record { word = w; constraint = c; kind = kind_number OperandKind.Use; pos = pos_number OperandPos.Early }

abbrev pub late_def : Case → ℕ → Slot
late_def c w = record { word = w; constraint = c; kind = kind_number OperandKind.Def; pos = pos_number OperandPos.Late }

abbrev pub in_reg : Case
in_reg = constraint_case OperandConstraint.Reg

-- this physical register
abbrev pub fixed : ℕ → Case
fixed p = constraint_case (OperandConstraint.FixedReg (record { 0 = p }))

-- the place of this slot
abbrev pub reuse : ℕ → Case
reuse k = constraint_case (OperandConstraint.Reuse k)

abbrev pub nothing_clobbered : ℕ → Bool
nothing_clobbered n = false

abbrev pub plain_control : Control
plain_control = record {
  terminator = terminator_number MachTerminator.None;
  trap = false;
  call = call_number CallType.None;
  included = true;
  low_level_branch = false;
}

-- an instruction with these slots, this control and this payload
abbrev pub ending : Control → List Slot → ℕ → Meaning
ending control slots payload = record {
  operation = record { slots = slots; clobbers = nothing_clobbered; move = None; payload = payload };
  control = control;
}

abbrev pub plain : List Slot → ℕ → Meaning
plain = ending plain_control
