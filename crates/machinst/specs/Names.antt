-- The name of each case of the enums that are printed, by the case's number.
use Rattle.std.specs.Prelude.{ℕ, zero, suc, List, [], ◌∷◌, ◌++◌, codes, decimal}
use Rattle.machinst.specs.Cases.{Case}

-- the name of the terminator with this number
abbrev pub terminator_name : ℕ → List ℕ
terminator_name zero = codes "none"
terminator_name (suc zero) = codes "ret"
terminator_name (suc (suc zero)) = codes "retcall"
terminator_name (suc (suc (suc n))) = codes "branch"

abbrev pub call_name : ℕ → List ℕ
call_name zero = codes "none"
call_name (suc zero) = codes "regular"
call_name (suc (suc n)) = codes "tailcall"

abbrev pub kind_name : ℕ → List ℕ
kind_name zero = codes "use"
kind_name (suc n) = codes "def"

abbrev pub pos_name : ℕ → List ℕ
pos_name zero = codes "early"
pos_name (suc n) = codes "late"

abbrev pub constraint_name : ℕ → List ℕ
constraint_name zero = codes "any"
constraint_name (suc zero) = codes "reg"
constraint_name (suc (suc zero)) = codes "stack"
constraint_name (suc (suc (suc zero))) = codes "fixed"
constraint_name (suc (suc (suc (suc n)))) = codes "reuse"

-- the value of a constraint that holds one
abbrev pub value_text : List ℕ → List ℕ
value_text [] = []
value_text (v ∷ vs) = codes ":" ++ decimal v

abbrev pub constraint_text : Case → List ℕ
constraint_text c = constraint_name c.number ++ value_text c.values
