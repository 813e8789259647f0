-- What the parts of a builder hold, in the book's words.
use Rattle.std.specs.Prelude.{◌≡◌, ℕ, false, List, [], ◌∷◌, ◌++◌, map, reverse, length, Option, Result}
use Rattle.faults.specs.declared.fault.Fault.{Fault}
use Rattle.faults.specs.declared.table_id.TableId.{TableId}
use Rattle.faults.specs.declared.table_id.TableId.TheVariants.{Insts, Blocks, Succs as OfSuccs}
use Rattle.machinst.specs.Meaning.{Meaning}
use Rattle.ranges.specs.Spans.{Spans, no_spans}
use Rattle.std.specs.List.{flat_map}
use Rattle.vcode.specs.Book.{Block, Label, Limits, Listing, Succ, all_insts, all_params, all_succs, flat_args}
use Rattle.vcode.specs.declared.block_ranges.BlockRanges.{BlockRanges}
use Rattle.vcode.specs.declared.code.Code.{Code}
use Rattle.vcode.specs.declared.index.BlockIndex.{BlockIndex}
use Rattle.vcode.specs.declared.labels.LabelRecord.{LabelRecord}
use Rattle.vcode.specs.declared.labels.ValueLabels.{ValueLabels}
use Rattle.vcode.specs.declared.succs.Succs.{Succs}
use Rattle.vcode.specs.declared.function_tables.OutputTables.{OutputTables}
use Rattle.vregs.specs.Entries.{word_of}
use Rattle.faults.specs.Outcomes.{Outcome}

abbrev pub block_of : BlockIndex → ℕ
block_of b = b.0

-- ranges that end so, numbered from the first
abbrev pub ranges_to : List ℕ → ℕ → TableId → Spans
ranges_to es most id = record { ends = es; reversed = false; most = most; id = id }

-- what the total was after each entry, the first entry first, for a list that has the last one first
abbrev pub totals : {X : Type 0} → (List X → ℕ) → List X → List ℕ
totals total [] = []
totals total (x ∷ xs) = totals total xs ++ total (x ∷ xs) ∷ []

-- how many there were of something when each block was closed
abbrev pub ends_of : {X : Type 0} → (Block → List X) → List Block → List ℕ
ends_of f bs = totals (λ xs. length (flat_map f xs)) bs

-- how many arguments there were after each successor
abbrev pub arg_ends : List Succ → List ℕ
arg_ends ss = totals (λ xs. length (flat_args xs)) ss

-- Whatever a part held, a call was refused as `fault` says, or left what `next` says.
abbrev pub Changes : {A M K : Type 0} → (A → M → K → Type 0) → A → A → (M → K → Option Fault) → (K → K) → Result (Unit {0}) Fault → Type 0
Changes {A} {M} {K} Held before now fault next r =
    (most : M) (k : K) → Held before most k → Outcome (fault most k) r (λ _. Held now most (next k))

-- these blocks have so many instructions, successors and parameters
pub record Contents (bs : List Block) (insts succs params : ℕ) : Type 0 where
  pub insts_all : insts ≡ length (flat_map (λ b. b.insts) bs)
  pub succs_all : succs ≡ length (flat_map (λ b. b.succs) bs)
  pub params_all : params ≡ length (flat_map (λ b. b.params) bs)

-- these blocks were closed, the last one first
pub record RangesHeld (r : BlockRanges) (L : Limits) (bs : List Block) : Type 0 where
  pub insts : r.insts.spans ≡ ranges_to (ends_of (λ b. b.insts) bs) L.blocks Blocks
  pub succs : r.succs.spans ≡ ranges_to (ends_of (λ b. b.succs) bs) L.blocks Blocks
  pub params : r.params.spans ≡ ranges_to (ends_of (λ b. b.params) bs) L.blocks Blocks
  pub preds : r.preds.spans ≡ no_spans Blocks L.blocks

-- these successors were added, the last one first
pub record SuccsHeld (s : Succs) (L : Limits) (ss : List Succ) : Type 0 where
  pub blocks : map block_of s.blocks.entries ≡ reverse (map (λ x. x.block) ss)
  pub args : map word_of s.args.entries ≡ flat_args ss
  pub arg_ranges : s.arg_ranges.spans ≡ ranges_to (arg_ends ss) L.succs OfSuccs
  pub most_succs : s.blocks.limit ≡ L.succs
  pub most_args : s.args.limit ≡ L.args

module _ {I : Type 0} (meaning : I → Meaning) where
  -- the tables of the code hold this listing
  pub record CodeHeld (c : Code I) (L : Limits) (k : Listing) : Type 0 where
    pub insts : map meaning c.insts.entries ≡ reverse (all_insts k)
    pub params : map word_of c.params.entries ≡ reverse (all_params k)
    pub succs : SuccsHeld c.succs L (all_succs k)
    pub ranges : RangesHeld c.ranges L k.closed
    pub operand_ranges : c.operand_ranges.spans ≡ no_spans Insts L.insts
    pub most_insts : c.insts.limit ≡ L.insts
    pub most_params : c.params.limit ≡ L.params

abbrev pub label_of : LabelRecord → Label
label_of r = record { word = r.reg.0; start = r.start; end = r.end; label = r.label.0 }

-- these labels were recorded, the last one first
pub record LabelsHeld (v : ValueLabels) (limit : ℕ) (rs : List Label) : Type 0 where
  pub records : map label_of v.records.entries ≡ reverse rs
  pub most : v.records.limit ≡ limit

-- the tables that building fills are empty
pub record OutputHeld (o : OutputTables) (L : Limits) : Type 0 where
  pub operands : o.operands.entries ≡ []
  pub preds : o.preds.entries ≡ []
  pub labels : o.labels.entries ≡ []
  pub most_operands : o.operands.limit ≡ L.operands
  pub most_preds : o.preds.limit ≡ L.preds
  pub most_labels : o.labels.limit ≡ L.built_labels
