-- The one or two registers that hold a value of a type.
use Rattle.std.specs.Prelude.{ℕ, List, [], ◌∷◌}

-- The number of a register's class, and the number of the type of what it holds.
pub record Part : Type 0 where
  pub class : ℕ
  pub ty : ℕ

pub data Parts : Type 0 where
  one : Part → Parts
  two : Part → Part → Parts

-- the list of the classes, and that of the types
abbrev pub part_lists : Parts → List ℕ × List ℕ
part_lists (one p) = (p.class ∷ [], p.ty ∷ [])
part_lists (two p q) = (p.class ∷ q.class ∷ [], p.ty ∷ q.ty ∷ [])
