-- What a table holds.
use Rattle.std.specs.Prelude.{ℕ, List, [], ◌∷◌, ◌++◌, length}
use Rattle.std.specs.List.{refill}
use Rattle.faults.specs.declared.table_id.TableId.{TableId}
use denote.RawPtr.{Ptr}

-- The entries in order, which table it is, how many entries there is room for, and where in memory they stand.
pub record Contents (T : Type 0) : Type 0 where
  pub entries : List T
  pub id : TableId
  pub limit : ℕ
  pub block : Ptr

-- The table with one more entry.
abbrev pub pushed : {T : Type 0} → Contents T → T → Contents T
pushed t x = record t { entries = t.entries ++ x ∷ [] }

-- The table after a write of its entries as a slice, which keeps their number.
abbrev pub refitted : {T : Type 0} → Contents T → List T → Contents T
refitted t ws = record t { entries = refill (length t.entries) t.entries ws }
