-- The book: a plain machine that takes the calls on a builder one after another. It knows the calls' arguments, the
-- instructions' meanings, the registers of each type and the tables' lengths, and nothing else.
use Rattle.std.specs.Prelude.{ℕ, ◌+◌, cond, List, [], ◌∷◌, ◌++◌, length, Some, None, Option, ◌==◌, nat_le, nat_lt}
use Rattle.faults.specs.declared.fault.Fault.{Fault}
use Rattle.faults.specs.declared.fault.Fault.TheVariants.{Full}
use Rattle.faults.specs.declared.table_id.TableId.{TableId}
use Rattle.faults.specs.declared.table_id.TableId.TheVariants.{Registers, Insts, Blocks, Succs, BranchArgs, BlockParams, Labels}
use Rattle.machinst.specs.Meaning.{Meaning}
use Rattle.machinst.specs.Parts.{Parts}
use Rattle.std.specs.List.{flat_map}
use Rattle.faults.specs.Outcomes.{or_else, unless}
use Rattle.vregs.specs.Files.{File, alias_fault, alloc_fault, count, new_file, new_words, parts_of, unallocated_fault, unknown_fault, with_alias, with_regs}
use Rattle.vregs.specs.Insts.{first_unknown, inst_fault}

-- A successor: the block that it names, and its arguments in the order given.
pub record Succ : Type 0 where
  pub block : ℕ
  pub args : List ℕ

-- A block: the meanings of its instructions, its successors and its parameters, each the last accepted first.
pub record Block : Type 0 where
  pub insts : List Meaning
  pub succs : List Succ
  pub params : List ℕ

abbrev pub empty_block : Block
empty_block = record { insts = []; succs = []; params = [] }

-- The blocks that were closed, the last one first, and what is not closed.
pub record Listing : Type 0 where
  pub closed : List Block
  pub unclosed : Block

-- A label's record: a word holds the label's value from instruction `start` to instruction `end`, as they were pushed.
pub record Label : Type 0 where
  pub word : ℕ
  pub start : ℕ
  pub end : ℕ
  pub label : ℕ

pub record Book : Type 0 where
  pub file : File
  pub listing : Listing
  -- the last one first
  pub labels : List Label
  pub entry : ℕ

-- The capacities of the tables.
pub record Limits : Type 0 where
  pub regs : ℕ
  pub insts : ℕ
  pub blocks : ℕ
  pub succs : ℕ
  pub args : ℕ
  pub params : ℕ
  pub labels : ℕ
  pub operands : ℕ
  pub preds : ℕ
  pub built_labels : ℕ

pub data Call : Type 0 where
  alloc : ℕ → Call
  alias : ℕ → ℕ → Call
  push : Meaning → Call
  succ : ℕ → List ℕ → Call
  param : ℕ → Call
  label : ℕ → ℕ → Call
  close : Call
  entry : ℕ → Call

pub data Answer : Type 0 where
  done : Answer
  words : List ℕ → Answer
  refused : Fault → Answer

-- everything of a listing, the last accepted first
abbrev pub all_insts : Listing → List Meaning
all_insts k = k.unclosed.insts ++ flat_map (λ b. b.insts) k.closed

abbrev pub all_succs : Listing → List Succ
all_succs k = k.unclosed.succs ++ flat_map (λ b. b.succs) k.closed

abbrev pub all_params : Listing → List ℕ
all_params k = k.unclosed.params ++ flat_map (λ b. b.params) k.closed

-- the arguments of all successors, one list after another, in the order accepted
abbrev pub flat_args : List Succ → List ℕ
flat_args [] = []
flat_args (s ∷ ss) = flat_args ss ++ s.args

-- a table of this many entries is full
abbrev pub full : ℕ → ℕ → TableId → Option Fault
full used limit id = unless (nat_lt used limit) (Full id)

-- where the last record of a label ends, or 0
abbrev pub last_end : List Label → ℕ → ℕ
last_end [] l = 0
last_end (r ∷ rs) l = cond (r.label == l) r.end (last_end rs l)

-- a label after n instructions is recorded from the end of that label's last record; with no instruction nothing is
abbrev pub with_label : List Label → ℕ → ℕ → ℕ → List Label
with_label rs n w l = cond (n == 0) rs (record { word = w; start = last_end rs l; end = n; label = l } ∷ rs)

abbrev pub record_fault : ℕ → ℕ → List Label → Option Fault
record_fault limit n rs = cond (n == 0) None (full (length rs) limit Labels)

abbrev pub with_inst : Listing → Meaning → Listing
with_inst k m = record k { unclosed = record (k.unclosed) { insts = m ∷ k.unclosed.insts } }

abbrev pub with_succ : Listing → ℕ → List ℕ → Listing
with_succ k b args = record k { unclosed = record (k.unclosed) { succs = record { block = b; args = args } ∷ k.unclosed.succs } }

abbrev pub with_param : Listing → ℕ → Listing
with_param k w = record k { unclosed = record (k.unclosed) { params = w ∷ k.unclosed.params } }

abbrev pub with_closed : Listing → Listing
with_closed k = record { closed = k.unclosed ∷ k.closed; unclosed = empty_block }

-- why there is no room for an instruction, a successor, a parameter or a block, if there is none
abbrev pub inst_room : Limits → Listing → Option Fault
inst_room L k = full (length (all_insts k)) L.insts Insts

abbrev pub succ_room : Limits → List Succ → List ℕ → Option Fault
succ_room L ss args =
    or_else (full (length ss) L.succs Succs) (unless (nat_le (length (flat_args ss) + length args) L.args) (Full BranchArgs))

abbrev pub param_room : Limits → Listing → Option Fault
param_room L k = full (length (all_params k)) L.params BlockParams

abbrev pub block_room : Limits → List Block → Option Fault
block_room L bs = full (length bs) L.blocks Blocks

-- why there can be no builder, if there can be none: the physical registers have no room
abbrev pub new_fault : Limits → Option Fault
new_fault L = unless (nat_le 192 L.regs) (Full Registers)

abbrev pub new_listing : Listing
new_listing = record { closed = []; unclosed = empty_block }

abbrev pub new_book : Book
new_book = record { file = new_file; listing = new_listing; labels = []; entry = 0 }

-- a call that a fault refuses leaves the book as it was, and is answered with the fault
abbrev pub stepped : Option Fault → Book → Book → Book
stepped None old new = new
stepped (Some f) old new = old

abbrev pub answered : Option Fault → Answer → Answer
answered None a = a
answered (Some f) a = refused f

module _ (parts : ℕ → Option Parts) (L : Limits) where
  -- the fault that refuses a call, if one does
  abbrev pub fault : Book → Call → Option Fault
  fault k (alloc ty) = alloc_fault parts L.regs k.file ty
  fault k (alias from to) = alias_fault k.file from to
  fault k (push m) = or_else (inst_fault (count k.file.regs) m) (inst_room L k.listing)
  fault k (succ b args) = or_else (first_unknown (count k.file.regs) 0 args) (succ_room L (all_succs k.listing) args)
  fault k (param w) = or_else (unallocated_fault k.file.regs w 0) (param_room L k.listing)
  fault k (label w l) =
      or_else (unknown_fault (count k.file.regs) w 0)
      (record_fault L.labels (length (all_insts k.listing)) k.labels)
  fault k close = block_room L k.listing.closed
  fault k (entry b) = None

  -- the book after a call that no fault refuses
  abbrev pub accept : Book → Call → Book
  accept k (alloc ty) = record k { file = with_regs k.file (parts_of (parts ty)) }
  accept k (alias from to) = record k { file = with_alias k.file from to }
  accept k (push m) = record k { listing = with_inst k.listing m }
  accept k (succ b args) = record k { listing = with_succ k.listing b args }
  accept k (param w) = record k { listing = with_param k.listing w }
  accept k (label w l) = record k { labels = with_label k.labels (length (all_insts k.listing)) w l }
  accept k close = record k { listing = with_closed k.listing }
  accept k (entry b) = record k { entry = b }

  -- what an accepted call is answered
  abbrev pub granted : Book → Call → Answer
  granted k (alloc ty) = words (new_words (count k.file.regs) (parts_of (parts ty)))
  granted k (alias from to) = done
  granted k (push m) = done
  granted k (succ b args) = done
  granted k (param w) = done
  granted k (label w l) = done
  granted k close = done
  granted k (entry b) = done

  -- the book after a call, and what the call is answered
  abbrev pub step : Book → Call → Book
  step k c = stepped (fault k c) k (accept k c)

  abbrev pub answer : Book → Call → Answer
  answer k c = answered (fault k c) (granted k c)

  -- the book after a past, which is a list of calls, the last one first
  abbrev pub after : List Call → Book
  after [] = new_book
  after (c ∷ past) = step (after past) c
