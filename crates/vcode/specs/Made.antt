-- The capacities of the tables.
use Rattle.std.specs.Prelude.{◌≡◌}
use Rattle.faults.specs.TableIds.{capacity_of}
use Rattle.faults.specs.declared.lengths.Lengths.{Lengths}
use Rattle.faults.specs.declared.table_id.TableId.TheVariants as table
use Rattle.vcode.specs.Book.{Limits}
use Rattle.vcode.specs.declared.code.Code.{Code}
use Rattle.vcode.specs.declared.function_tables.OutputTables.{OutputTables}
use Rattle.vcode.specs.declared.function_tables.Tables.{Tables}
use Rattle.vregs.specs.Entries.{limit_of}

-- the capacities that these lengths give
abbrev pub capacities : Lengths → Limits
capacities l = record {
  regs = capacity_of table.Registers l.registers;
  insts = capacity_of table.Insts l.insts;
  blocks = capacity_of table.Blocks l.blocks;
  succs = capacity_of table.Succs l.succs;
  args = capacity_of table.BranchArgs l.branch_args;
  params = capacity_of table.BlockParams l.block_params;
  labels = capacity_of table.Labels l.labels;
  operands = capacity_of table.Operands l.operands;
  preds = capacity_of table.Preds l.preds;
  built_labels = capacity_of table.BuiltLabels l.built_labels;
}

module _ {I : Type 0} where
  -- the tables of the code have these capacities
  pub record CodeLimits (c : Code I) (L : Limits) : Type 0 where
    pub insts : L.insts ≡ c.insts.limit
    pub blocks : L.blocks ≡ c.ranges.insts.spans.most
    pub succs : L.succs ≡ c.succs.blocks.limit
    pub args : L.args ≡ c.succs.args.limit
    pub params : L.params ≡ c.params.limit

  -- the capacities that tables have
  abbrev pub limits_of : Tables I → Limits
  limits_of t = record {
    regs = limit_of t.vregs;
    insts = t.code.insts.limit;
    blocks = t.code.ranges.insts.spans.most;
    succs = t.code.succs.blocks.limit;
    args = t.code.succs.args.limit;
    params = t.code.params.limit;
    labels = t.labels.records.limit;
    operands = t.output.operands.limit;
    preds = t.output.preds.limit;
    built_labels = t.output.labels.limit;
  }

-- the tables that building fills have these capacities
pub record OutputLimits (o : OutputTables) (L : Limits) : Type 0 where
  pub operands : L.operands ≡ o.operands.limit
  pub preds : L.preds ≡ o.preds.limit
  pub labels : L.built_labels ≡ o.labels.limit
