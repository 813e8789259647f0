-- What it is for a builder to have a past.
use Rattle.std.specs.Prelude.{◌≡◌, ℕ, List, [], ◌∷◌, map, Some, None, Ok, Err, vec_items, Option, Result}
use Rattle.faults.specs.declared.fault.Fault.{Fault}
use Rattle.machinst.specs.Meaning.{Meaning}
use Rattle.machinst.specs.Parts.{Parts}
use Rattle.regs.specs.Parts.{value_regs}
use Rattle.regs.specs.declared.reg.Reg.{Reg}
use Rattle.regs.specs.declared.value_regs.ValueRegs.{ValueRegs}
use Rattle.vcode.specs.Book.{Answer, Book, Call, Limits, after, answer, new_fault}
use Rattle.vcode.specs.Book.Answer.{done, refused, words}
use Rattle.vcode.specs.Book.Call.{alias, alloc, close, entry, label, param, push, succ}
use Rattle.vcode.specs.Held.{CodeHeld, LabelsHeld, OutputHeld}
use Rattle.vcode.specs.Made.{limits_of}
use Rattle.vcode.specs.declared.builder.VCodeBuilder.{VCodeBuilder}
use Rattle.vcode.specs.declared.call.Call.{Call as Made}
use Rattle.vcode.specs.declared.call.Call.TheVariants as make
use Rattle.vcode.specs.declared.function_tables.Tables.{Tables}
use Rattle.vregs.specs.Entries.{Filed, limit_of, word_of}

-- what a call was answered: its fault, or what its value says
abbrev pub told : {X : Type 0} → (X → Answer) → Result X Fault → Answer
told says (Ok x) = says x
told says (Err f) = refused f

abbrev pub words_in : ValueRegs Reg → Answer
words_in v = words (map word_of (value_regs v))

-- the words of the registers, where there are any
abbrev pub words_if : Option (ValueRegs Reg) → Answer
words_if None = done
words_if (Some v) = words_in v

-- what a call without words was answered
abbrev pub done_by : Result (Unit {0}) Fault → Answer
done_by r = told (λ _. done) r

-- what an allocation was answered
abbrev pub words_by : Result (ValueRegs Reg) Fault → Answer
words_by r = told words_in r

-- what a call was answered that may be an allocation
abbrev pub heard : Result (Option (ValueRegs Reg)) Fault → Answer
heard r = told words_if r

module _ {I : Type 0} (meaning : I → Meaning) (parts : ℕ → Option Parts) where
  -- the builder's tables are the book's
  pub record Holds (b : VCodeBuilder I) (L : Limits) (k : Book) : Type 0 where
    pub file : Filed b.tables.vregs k.file
    pub code : CodeHeld meaning b.tables.code L k.listing
    pub labels : LabelsHeld b.tables.labels L.labels k.labels
    pub output : OutputHeld b.tables.output L
    pub entry : b.entry.0 ≡ k.entry
    pub most_regs : limit_of b.tables.vregs ≡ L.regs

  -- b holds what these calls, the last one first, leave on a new builder in tables of these capacities
  abbrev pub Reached : VCodeBuilder I → Limits → List Call → Type 0
  Reached b L past = Holds b L (after parts L past)

  -- the call was answered as the book answers it, and became the last of the past
  pub record Answered (b : VCodeBuilder I) (c : Call) (a : Answer) (L : Limits) (past : List Call) : Type 0 where
    pub says : a ≡ answer parts L (after parts L past) c
    pub goes : Reached b L (c ∷ past)

  -- whatever the past of `before` was, the call was answered so and left `after`
  abbrev pub Answers : VCodeBuilder I → VCodeBuilder I → Call → Answer → Type 0
  Answers before now c a = (L : Limits) (past : List Call) → Reached before L past → Answered now c a L past

  -- a new builder has no past; tables that are refused come back as they were
  abbrev pub Started : Tables I → Result (VCodeBuilder I) (Fault × Tables I) → Type 0
  Started t (Ok b) = (new_fault (limits_of t) ≡ None) × Reached b (limits_of t) []
  Started t (Err e) = (new_fault (limits_of t) ≡ Some e.0) × (e.1 ≡ t)

  abbrev pub meant : Made I → Call
  meant (make.Alloc ty) = alloc ty.0
  meant (make.Alias from to) = alias from.0 to.0
  meant (make.Push i) = push (meaning i)
  meant (make.Succ b args) = succ b.0 (map word_of (vec_items args))
  meant (make.Param r) = param r.0
  meant (make.Label r l) = label r.0 l.0
  meant make.End = close
  meant (make.Entry b) = entry b.0
