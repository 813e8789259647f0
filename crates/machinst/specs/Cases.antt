-- The number of each case of the enums that an answer can be, and the values that the case holds.
use Rattle.std.specs.Prelude.{ℕ, List, [], ◌∷◌}
use Rattle.machinst.specs.declared.control.CallType.{CallType}
use Rattle.machinst.specs.declared.control.CallType.TheVariants as call
use Rattle.machinst.specs.declared.control.FunctionCalls.{FunctionCalls}
use Rattle.machinst.specs.declared.control.FunctionCalls.TheVariants as calls
use Rattle.machinst.specs.declared.control.MachTerminator.{MachTerminator}
use Rattle.machinst.specs.declared.control.MachTerminator.TheVariants as term
use Rattle.machinst.specs.declared.operand.OperandConstraint.{OperandConstraint}
use Rattle.machinst.specs.declared.operand.OperandConstraint.TheVariants as constraint
use Rattle.machinst.specs.declared.operand.OperandKind.{OperandKind}
use Rattle.machinst.specs.declared.operand.OperandKind.TheVariants.{Use, Def}
use Rattle.machinst.specs.declared.operand.OperandPos.{OperandPos}
use Rattle.machinst.specs.declared.operand.OperandPos.TheVariants.{Early, Late}

-- A case of an enum: its number, and the numbers that it holds.
pub record Case : Type 0 where
  pub number : ℕ
  pub values : List ℕ

-- a fixed register holds the register's number, a reused one the slot's
abbrev pub constraint_case : OperandConstraint → Case
constraint_case constraint.Any = record { number = 0; values = [] }
constraint_case constraint.Reg = record { number = 1; values = [] }
constraint_case constraint.Stack = record { number = 2; values = [] }
constraint_case (constraint.FixedReg p) = record { number = 3; values = p.0 ∷ [] }
constraint_case (constraint.Reuse k) = record { number = 4; values = k ∷ [] }

abbrev pub kind_number : OperandKind → ℕ
kind_number Use = 0
kind_number Def = 1

abbrev pub pos_number : OperandPos → ℕ
pos_number Early = 0
pos_number Late = 1

abbrev pub terminator_number : MachTerminator → ℕ
terminator_number term.None = 0
terminator_number term.Ret = 1
terminator_number term.RetCall = 2
terminator_number term.Branch = 3

abbrev pub call_number : CallType → ℕ
call_number call.None = 0
call_number call.Regular = 1
call_number call.TailCall = 2

-- the classes of a function's calls, each outranked by the next
abbrev pub calls_number : FunctionCalls → ℕ
calls_number calls.None = 0
calls_number calls.TailOnly = 1
calls_number calls.Regular = 2

-- the class of a function with this call alone
abbrev pub class_of_call : CallType → FunctionCalls
class_of_call call.None = calls.None
class_of_call call.Regular = calls.Regular
class_of_call call.TailCall = calls.TailOnly
