-- Which instructions can be pushed, and which words passed, where so many registers are known.
use Rattle.std.specs.Prelude.{ℕ, ◌+◌, Bool, false, cond, not, List, [], ◌∷◌, map, length, Some, None, Option, nat_lt}
use Rattle.faults.specs.declared.fault.Fault.{Fault}
use Rattle.faults.specs.declared.fault.Fault.TheVariants.{UnknownReg, LowLevelBranch, TooManySlots, PhysicalRegInMove}
use Rattle.machinst.specs.Meaning.{Meaning, Slot, slots_of}
use Rattle.regs.specs.Words.{physical}
use Rattle.std.specs.List.{slice_get}
use Rattle.faults.specs.Outcomes.{or_else, unless}
use Rattle.vregs.specs.Files.{known}

-- the first of these words that is not known, its place counted from k
abbrev pub first_unknown : ℕ → ℕ → List ℕ → Option Fault
first_unknown n k [] = None
first_unknown n k (w ∷ ws) = cond (known n w) (first_unknown n (k + 1) ws) (Some (UnknownReg k))

abbrev pub slot_words : Meaning → List ℕ
slot_words m = map (λ s. s.word) (slots_of m)

abbrev pub physical_in : Option Slot → Bool
physical_in None = false
physical_in (Some s) = physical s.word

-- slot k of a move holds no physical register
abbrev pub slot_fault : Meaning → ℕ → Option Fault
slot_fault m k = unless (not (physical_in (slice_get (slots_of m) k))) (PhysicalRegInMove k)

-- of a move's slots, the source is judged before the destination
abbrev pub move_fault : Meaning → Option (ℕ × ℕ) → Option Fault
move_fault m None = None
move_fault m (Some p) = or_else (slot_fault m p.1) (slot_fault m p.0)

-- why an instruction cannot be pushed where n registers are known, if it cannot, but for want of room
abbrev pub inst_fault : ℕ → Meaning → Option Fault
inst_fault n m =
    or_else (unless (not m.control.low_level_branch) LowLevelBranch)
    (or_else (unless (not (nat_lt 8 (length (slots_of m)))) TooManySlots)
    (or_else (first_unknown n 0 (slot_words m)) (move_fault m m.operation.move)))
