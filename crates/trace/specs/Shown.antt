-- The text of an instruction: its first line, its clobbers and its slots.
use Rattle.std.specs.Prelude.{◌≡◌, ℕ, zero, suc, Bool, cond, List, [], ◌∷◌, ◌++◌, Some, None, string_bytes, codes, decimal, Option, Result, String, OnOk}
use Rattle.machinst.specs.Meaning.{Meaning, Slot, slots_of}
use Rattle.machinst.specs.Names.{call_name, constraint_text, kind_name, pos_name, terminator_name}
use Rattle.std.specs.declared.alloc.Global.{Global}

-- what a call that writes at the end of a text leaves, unless memory ran out
abbrev pub Appends : {E : Type 0} → Result (Unit {0}) E → String Global → String Global → List ℕ → Type 0
Appends r before after text = OnOk r (string_bytes after ≡ string_bytes before ++ text)

abbrev pub newline : List ℕ
newline = 10 ∷ []

abbrev pub flag : Bool → ℕ
flag b = cond b 1 0

abbrev pub move_text : Option (ℕ × ℕ) → List ℕ
move_text None = codes "none"
move_text (Some p) = decimal p.0 ++ (codes "," ++ decimal p.1)

-- the first line of an instruction, all but its end
abbrev pub inst_text : ℕ → Meaning → List ℕ
inst_text i m =
    codes "inst "
    ++ (decimal i
    ++ (codes " payload "
    ++ (decimal m.operation.payload
    ++ (codes " term "
    ++ (terminator_name m.control.terminator
    ++ (codes " trap "
    ++ (decimal (flag m.control.trap)
    ++ (codes " call "
    ++ (call_name m.control.call
    ++ (codes " included "
    ++ (decimal (flag m.control.included)
    ++ (codes " lowlevel " ++ (decimal (flag m.control.low_level_branch) ++ (codes " move " ++ move_text m.operation.move))))))))))))))

-- the numbers below k that pass, rising, each after a space
unfoldable pub members_text : (ℕ → Bool) → ℕ → List ℕ
members_text c zero = []
members_text c (suc n) = members_text c n ++ cond (c n) (codes " " ++ decimal n) []

abbrev pub clobbers_text : ℕ → (ℕ → Bool) → List ℕ
clobbers_text i c = codes "inst " ++ (decimal i ++ (codes " clobbers" ++ (members_text c 192 ++ newline)))

-- a slot of instruction i, under the name that the line gives it
abbrev pub slot_text : ℕ → List ℕ → ℕ → Slot → List ℕ
slot_text i name k s =
    codes "inst "
    ++ (decimal i
    ++ (codes " "
    ++ (name
    ++ (codes " "
    ++ (decimal k
    ++ (codes " "
    ++ (decimal s.word
    ++ (codes " " ++ (constraint_text s.constraint ++ (codes " " ++ (kind_name s.kind ++ (codes " " ++ (pos_name s.pos ++ newline)))))))))))))

-- a line for each slot, from slot k on
abbrev pub slots_text : ℕ → List ℕ → ℕ → List Slot → List ℕ
slots_text i name k [] = []
slots_text i name k (s ∷ ss) = slot_text i name k s ++ slots_text i name (suc k) ss

-- what `show` answers
abbrev pub shown_text : Meaning → List ℕ
shown_text m = inst_text 0 m ++ (newline ++ (clobbers_text 0 m.operation.clobbers ++ slots_text 0 (codes "slot") 0 (slots_of m)))
