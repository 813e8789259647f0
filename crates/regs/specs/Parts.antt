-- The registers of a value, as a list of one or two.
use Rattle.std.specs.Prelude.{List, [], ◌∷◌, Some, None, Option}
use Rattle.regs.specs.declared.value_regs.ValueRegs.{ValueRegs}

module _ {R : Type 0} where
  -- one register, and the second where there is one
  abbrev pub with_second : R → Option R → List R
  with_second a None = a ∷ []
  with_second a (Some b) = a ∷ b ∷ []

  abbrev pub value_regs : ValueRegs R → List R
  value_regs v = with_second v.first v.second
