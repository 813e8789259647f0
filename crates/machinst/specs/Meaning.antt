-- What an instruction means: its operation, and what it does to control.
use Rattle.std.specs.Prelude.{ℕ, zero, suc, ◌<◌, Bool, List, [], ◌∷◌, length, IfSome, Option}
use Rattle.machinst.specs.Cases.{Case, constraint_case, kind_number, pos_number}
use Rattle.machinst.specs.declared.operand.Operand.{Operand}
use Rattle.std.specs.List.{slice_get}

-- A slot: its register word, and the cases of its constraint, kind and position.
pub record Slot : Type 0 where
  pub word : ℕ
  pub constraint : Case
  pub kind : ℕ
  pub pos : ℕ

-- The slots in order, whether each physical register is clobbered, a move's slots (destination, source), and the payload.
pub record Operation : Type 0 where
  pub slots : List Slot
  pub clobbers : ℕ → Bool
  pub move : Option (ℕ × ℕ)
  pub payload : ℕ

-- The cases of the terminator and of the call type, and the flags.
pub record Control : Type 0 where
  pub terminator : ℕ
  pub trap : Bool
  pub call : ℕ
  pub included : Bool
  pub low_level_branch : Bool

pub record Meaning : Type 0 where
  pub operation : Operation
  pub control : Control

abbrev pub slot_of : Operand → Slot
slot_of o = record {
  word = o.reg.0;
  constraint = constraint_case o.constraint;
  kind = kind_number o.kind;
  pos = pos_number o.pos;
}

abbrev pub slots_of : Meaning → List Slot
slots_of m = m.operation.slots

-- slot k, or none
abbrev pub slot_at : Meaning → ℕ → Option Slot
slot_at m k = slice_get (slots_of m) k

-- a slot with another word, and nothing else changed
abbrev pub reworded : Slot → ℕ → Slot
reworded s w = record { word = w; constraint = s.constraint; kind = s.kind; pos = s.pos }

-- the same of slot k of a list; nothing where there is none
abbrev pub reworded_at : List Slot → ℕ → ℕ → List Slot
reworded_at [] k w = []
reworded_at (s ∷ ss) zero w = reworded s w ∷ ss
reworded_at (s ∷ ss) (suc k) w = s ∷ reworded_at ss k w

abbrev pub with_slots : Meaning → List Slot → Meaning
with_slots m ss = record {
  operation = record {
    slots = ss;
    clobbers = m.operation.clobbers;
    move = m.operation.move;
    payload = m.operation.payload;
  };
  control = m.control;
}

-- the meaning with w as the word of slot k
abbrev pub with_word : Meaning → ℕ → ℕ → Meaning
with_word m k w = with_slots m (reworded_at (slots_of m) k w)

-- both slots of a move exist
abbrev pub MoveWithin : Meaning → Type 0
MoveWithin m =
    IfSome m.operation.move (λ p. (p.0 < length (slots_of m)) × (p.1 < length (slots_of m)))
