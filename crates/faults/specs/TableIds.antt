-- The number of each table, and how many entries it can have.
use Rattle.std.specs.Prelude.{ℕ, min}
use Rattle.faults.specs.declared.table_id.TableId.{TableId}
use Rattle.faults.specs.declared.table_id.TableId.TheVariants.{Registers, Insts, Blocks, Succs, BranchArgs, BlockParams, Labels, Operands, Preds, BuiltLabels, Ranges}

-- The number by which a fault names the table.
abbrev pub table_number : TableId → ℕ
table_number Registers = 0
table_number Insts = 1
table_number Blocks = 2
table_number Succs = 3
table_number BranchArgs = 4
table_number BlockParams = 5
table_number Labels = 6
table_number Operands = 7
table_number Preds = 8
table_number BuiltLabels = 9
table_number Ranges = 11

-- The most entries that the table can have.
abbrev pub table_most : TableId → ℕ
table_most Registers = 2097151
table_most Insts = 16384
table_most Blocks = 1024
table_most Succs = 4096
table_most BranchArgs = 16384
table_most BlockParams = 8192
table_most Labels = 4096
table_most Operands = 131072
table_most Preds = 4096
table_most BuiltLabels = 4096
table_most Ranges = 16384

-- The capacity of the table where so many entries are asked for.
abbrev pub capacity_of : TableId → ℕ → ℕ
capacity_of t length = min length (table_most t)
