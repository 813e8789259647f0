-- What the records of set Q mean, by a table of eight rows, and the registers that hold its types.
use Rattle.std.specs.Prelude.{ℕ, zero, suc, ◌+◌, ◌*◌, Bool, true, false, cond, List, [], ◌∷◌, Some, None, Option, ◌==◌, slice_index_or}
use Rattle.std.proofs.Common.{lit<}
use Rattle.machinst.specs.Cases.{call_number, constraint_case, kind_number, pos_number, terminator_number}
use Rattle.machinst.specs.Meaning.{Control, Meaning, MoveWithin, Slot}
use Rattle.machinst.specs.Parts.{Part, Parts, one, two}
use Rattle.machinst.specs.Usual.{plain_control}
use Rattle.machinst.specs.declared.control.CallType.{CallType}
use Rattle.machinst.specs.declared.control.MachTerminator.{MachTerminator}
use Rattle.machinst.specs.declared.operand.OperandConstraint.{OperandConstraint}
use Rattle.machinst.specs.declared.operand.OperandConstraint.TheVariants.{FixedReg, Reuse}
use Rattle.machinst.specs.declared.operand.OperandKind.{OperandKind}
use Rattle.machinst.specs.declared.operand.OperandPos.{OperandPos}
use Rattle.regs.specs.Classes.{class_number}
use Rattle.regs.specs.Sets.{first_regs, member}
use Rattle.regs.specs.declared.preg_set.PRegSet.{PRegSet}
use Rattle.regs.specs.declared.reg.Reg.{Reg}
use Rattle.regs.specs.declared.reg.RegClass.{RegClass}
use Rattle.set_q.specs.declared.Q.{Q}
use Rattle.set_q.specs.declared.Row.{Row}
use Rattle.set_q.specs.declared.Shape.{Shape}

abbrev use_as : OperandConstraint → Shape
use_as c = record { constraint = c; kind = OperandKind.Use; pos = OperandPos.Early }

abbrev def_as : OperandConstraint → Shape
def_as c = record { constraint = c; kind = OperandKind.Def; pos = OperandPos.Late }

abbrev fixed_0 : OperandConstraint
fixed_0 = FixedReg (record { 0 = 0 })

-- What an opcode says: the slots without their words, the clobbers, a move's slots (destination, source), and the control.
pub record OpcodeRow : Type 0 where
  pub shapes : List Shape
  pub clobbers : PRegSet
  pub move : Option (ℕ × ℕ)
  pub control : Control

-- what a row of the code says
abbrev pub row_of : Row → OpcodeRow
row_of r = record {
  shapes = r.shapes.now;
  clobbers = r.clobbers;
  move = r.pair;
  control = record {
    terminator = terminator_number r.terminator;
    trap = r.trap;
    call = call_number r.call;
    included = r.included;
    low_level_branch = false;
  };
}

-- a row with these slots, this terminator and this trap flag, and nothing else
abbrev row : List Shape → MachTerminator → Bool → OpcodeRow
row ss t trap = record {
  shapes = ss;
  clobbers = first_regs 0;
  move = None;
  control = record {
    terminator = terminator_number t;
    trap = trap;
    call = call_number CallType.None;
    included = true;
    low_level_branch = false;
  };
}

-- the row of an opcode that has none of its own
abbrev no_row : OpcodeRow
no_row = row [] MachTerminator.None false

-- opcode 2 is a move from slot 0 to slot 1; opcode 3 a call that overwrites registers 0 to 15, which are not included
abbrev rows : List OpcodeRow
rows =
    row (def_as OperandConstraint.Reg ∷ []) MachTerminator.None false
    ∷ row (use_as OperandConstraint.Reg ∷ use_as OperandConstraint.Reg ∷ def_as (Reuse 0) ∷ []) MachTerminator.None false
    ∷ record {
      shapes = use_as OperandConstraint.Reg ∷ def_as OperandConstraint.Reg ∷ [];
      clobbers = first_regs 0;
      move = Some (1, 0);
      control = plain_control;
    }
    ∷ record {
      shapes = use_as fixed_0 ∷ def_as fixed_0 ∷ [];
      clobbers = first_regs 16;
      move = None;
      control = record {
        terminator = terminator_number MachTerminator.None;
        trap = false;
        call = call_number CallType.Regular;
        included = false;
        low_level_branch = false;
      };
    }
    ∷ row (use_as fixed_0 ∷ []) MachTerminator.Ret false
    ∷ row (use_as OperandConstraint.Reg ∷ []) MachTerminator.Branch false
    ∷ row [] MachTerminator.Branch false
    ∷ row [] MachTerminator.None true
    ∷ []

-- the row of an opcode
abbrev pub row_at : ℕ → OpcodeRow
row_at opcode = slice_index_or rows opcode no_row

abbrev pub shaped : Shape → ℕ → Slot
shaped s w = record {
  word = w;
  constraint = constraint_case s.constraint;
  kind = kind_number s.kind;
  pos = pos_number s.pos;
}

-- word k of an instruction
abbrev pub word_at : List Reg → ℕ → ℕ
word_at ws k = (slice_index_or ws k (record { 0 = 0 })).0

-- the shapes from number k on, each with the word of its number
abbrev pub shaped_from : ℕ → List Shape → List Reg → List Slot
shaped_from k [] ws = []
shaped_from k (s ∷ ss) ws = shaped s (word_at ws k) ∷ shaped_from (suc k) ss ws

abbrev pub meaning_row : OpcodeRow → Q → Meaning
meaning_row r q = record {
  operation = record {
    slots = shaped_from 0 r.shapes q.words;
    clobbers = member r.clobbers;
    move = r.move;
    payload = q.opcode + 256 * q.number;
  };
  control = r.control;
}

abbrev pub meaning_q : Q → Meaning
meaning_q q = meaning_row (row_at q.opcode) q

abbrev int_part : ℕ → Part
int_part ty = record { class = class_number RegClass.Int; ty = ty }

-- Type 5 is one Int, type 1 two Int of type 5.
abbrev pub parts_q : ℕ → Option Parts
parts_q n = cond (n == 5) (Some (one (int_part 5))) (cond (n == 1) (Some (two (int_part 5) (int_part 5))) None)

module _ (q : Q) where
  moves_row : (n : ℕ) → MoveWithin (meaning_row (row_at n) q)
  moves_row zero = tt
  moves_row (suc zero) = tt
  moves_row (suc (suc zero)) = (lit< tt, lit< tt)
  moves_row (suc (suc (suc zero))) = tt
  moves_row (suc (suc (suc (suc zero)))) = tt
  moves_row (suc (suc (suc (suc (suc zero))))) = tt
  moves_row (suc (suc (suc (suc (suc (suc zero)))))) = tt
  moves_row (suc (suc (suc (suc (suc (suc (suc zero))))))) = tt
  moves_row (suc (suc (suc (suc (suc (suc (suc (suc n)))))))) = tt

-- both slots of a move exist
pub moves_q : (q : Q) → MoveWithin (meaning_q q)
moves_q q = moves_row q q.opcode
