-- Which table of a function a list is.
use Rattle.std.specs.Prelude.{◌≡◌, ℕ}
use Rattle.faults.specs.declared.table_id.TableId.{TableId}
use Rattle.ranges.specs.declared.ranges.Ranges.{Ranges}
use Rattle.tables.specs.declared.table.Table.{Table}

-- the table goes by this name
abbrev pub IsTable : {T : Type 0} → Table T → TableId → Type 0
IsTable t id = t.id ≡ id

-- the ranges go by this name, and there is room for so many
abbrev pub AreRanges : Ranges → TableId → ℕ → Type 0
AreRanges r id most = (r.spans.id ≡ id) × (r.spans.most ≡ most)
