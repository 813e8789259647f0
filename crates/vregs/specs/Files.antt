-- The register file: what is allocated, which words are known, and what each call on the file answers and leaves.
use Rattle.std.specs.Prelude.{◌≡◌, ℕ, ◌+◌, ◌-◌, ◌*◌, ◌%◌, Bool, true, false, cond, not, ◌&&◌, List, [], ◌∷◌, ◌++◌, length, is_some, Some, None, Ok, Err, Option, Result, MatchOption, ◌==◌, ◌≢◌, nat_le, nat_lt}
use Rattle.faults.specs.Outcomes.{or_else, unless}
use Rattle.faults.specs.declared.fault.Fault.{Fault}
use Rattle.faults.specs.declared.fault.Fault.TheVariants.{RegsExhausted, UnsupportedType, UnknownReg, AliasCycle, AlreadyAliased}
use Rattle.machinst.specs.Parts.{Part, Parts}
use Rattle.machinst.specs.Parts.Parts.{one, two}
use Rattle.regs.specs.Words.{index_of, spill_slot}
use Rattle.std.specs.List.{slice_get}
use Rattle.vregs.specs.Roots.{alias_of, root}

-- A register file: the class and the type of each virtual register, the first one first, and the accepted aliases as they
-- were given, the last one first.
pub record File : Type 0 where
  pub regs : List Part
  pub aliases : List (ℕ × ℕ)

abbrev pub new_file : File
new_file = record { regs = []; aliases = [] }

-- how many registers there are, the 192 physical ones counted
abbrev pub count : List Part → ℕ
count rs = 192 + length rs

-- no spill slot, of a class, and below so many registers
abbrev pub known : ℕ → ℕ → Bool
known n w = not (spill_slot w) && (nat_lt (w % 4) 3 && nat_lt (index_of w) n)

-- the virtual register with index i
abbrev pub reg_at : List Part → ℕ → Option Part
reg_at rs i = cond (nat_lt i 192) None (slice_get rs (i - 192))

abbrev pub has_class : Option Part → ℕ → Bool
has_class None c = false
has_class (Some p) c = p.class == c

-- known, virtual, and of the class that it was allocated with
abbrev pub allocated : List Part → ℕ → Bool
allocated rs w = known (count rs) w && has_class (reg_at rs (index_of w)) (w % 4)

-- the word passed at a place is not known where there are n registers, or is not allocated
abbrev pub unknown_fault : ℕ → ℕ → ℕ → Option Fault
unknown_fault n w place = unless (known n w) (UnknownReg place)

abbrev pub unallocated_fault : List Part → ℕ → ℕ → Option Fault
unallocated_fault rs w place = unless (allocated rs w) (UnknownReg place)

abbrev pub part_list : Parts → List Part
part_list (one p) = p ∷ []
part_list (two p q) = p ∷ q ∷ []

-- the registers of a type, of which a table of so many entries has to have room for all
abbrev pub room_fault : ℕ → File → Parts → Option Fault
room_fault limit f ps = unless (nat_le (count f.regs + length (part_list ps)) limit) (RegsExhausted (count f.regs))

abbrev pub alloc_by : Option Parts → ℕ → File → ℕ → Option Fault
alloc_by None limit f ty = Some (UnsupportedType ty)
alloc_by (Some ps) limit f ty = room_fault limit f ps

-- why a value of a type cannot have registers, if it cannot
abbrev pub alloc_fault : (ℕ → Option Parts) → ℕ → File → ℕ → Option Fault
alloc_fault parts limit f ty = alloc_by (parts ty) limit f ty

-- the registers that a type has
abbrev pub parts_of : Option Parts → List Part
parts_of None = []
parts_of (Some ps) = part_list ps

-- the words of new registers, from index n on
abbrev pub new_words : ℕ → List Part → List ℕ
new_words n [] = []
new_words n (p ∷ ps) = (4 * n + p.class) ∷ new_words (n + 1) ps

abbrev pub with_regs : File → List Part → File
with_regs f ps = record f { regs = f.regs ++ ps }

-- why an alias is not accepted, if it is not
abbrev pub alias_fault : File → ℕ → ℕ → Option Fault
alias_fault f from to =
    or_else (unallocated_fault f.regs from 0)
    (or_else (unallocated_fault f.regs to 1)
    (or_else (unless (not (root f.aliases to == from)) (AliasCycle (index_of from)))
    (unless (not (is_some (alias_of f.aliases from))) (AlreadyAliased (index_of from)))))

abbrev pub with_alias : File → ℕ → ℕ → File
with_alias f from to = record f { aliases = (from, to) ∷ f.aliases }

-- every alias leads from an allocated word that had none to another root
abbrev pub Valid : List Part → List (ℕ × ℕ) → Type 0
Valid rs [] = Unit {0}
Valid rs (p ∷ ps) =
    (allocated rs p.0 ≡ true) × (allocated rs p.1 ≡ true) × (alias_of ps p.0 ≡ None) × (root ps p.1 ≢ p.0) × Valid rs ps

-- The rule of a root: a word without an alias is its own root, and otherwise its root is that of its alias. A word that is
-- not allocated, as one of another class than its register's, has no alias.
pub record RootRule (f : File) : Type 0 where
  pub rule : (w : ℕ) → MatchOption (alias_of f.aliases w) (root f.aliases w ≡ w) (λ a. root f.aliases w ≡ root f.aliases a)
  pub unallocated : (w : ℕ) → allocated f.regs w ≡ false → alias_of f.aliases w ≡ None
