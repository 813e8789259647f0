-- The number, the place and the text of each fault.
use Rattle.std.specs.Prelude.{ℕ, List, ◌++◌, codes, decimal}
use Rattle.faults.specs.TableIds.{table_number}
use Rattle.faults.specs.declared.fault.Fault.{Fault}
use Rattle.faults.specs.declared.fault.Fault.TheVariants.{Full, RegsExhausted, UnsupportedType, UnknownReg, AliasCycle, AlreadyAliased, LowLevelBranch, TooManySlots, PhysicalRegInMove, Unclosed, NoInsts, NoSuchBlock, OutOfRange, Mismatch, BadAllocation}

-- The number that tells one kind of fault from another.
abbrev pub fault_number : Fault → ℕ
fault_number (Full t) = 1
fault_number (RegsExhausted n) = 2
fault_number (UnsupportedType n) = 3
fault_number (UnknownReg n) = 4
fault_number (AliasCycle n) = 5
fault_number (AlreadyAliased n) = 6
fault_number LowLevelBranch = 7
fault_number TooManySlots = 8
fault_number (PhysicalRegInMove n) = 9
fault_number (Unclosed n) = 10
fault_number NoInsts = 11
fault_number (NoSuchBlock n) = 12
fault_number (OutOfRange n) = 14
fault_number (Mismatch n) = 15
fault_number (BadAllocation n) = 17

-- What the fault is about: the number of a table, or what the fault holds.
abbrev pub fault_place : Fault → ℕ
fault_place (Full t) = table_number t
fault_place (RegsExhausted n) = n
fault_place (UnsupportedType n) = n
fault_place (UnknownReg n) = n
fault_place (AliasCycle n) = n
fault_place (AlreadyAliased n) = n
fault_place LowLevelBranch = 0
fault_place TooManySlots = 8
fault_place (PhysicalRegInMove n) = n
fault_place (Unclosed n) = n
fault_place NoInsts = 0
fault_place (NoSuchBlock n) = n
fault_place (OutOfRange n) = n
fault_place (Mismatch n) = n
fault_place (BadAllocation n) = n

-- The text of a fault: its number, a space and its place.
abbrev pub fault_text : Fault → List ℕ
fault_text f = decimal (fault_number f) ++ codes " " ++ decimal (fault_place f)
