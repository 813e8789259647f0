-- The entries of the register table, and the file that they hold.
use Rattle.std.specs.Prelude.{◌≡◌, ℕ, ◌-◌, cond, List, map, None, Option, slice_index_or}
use Rattle.machinst.specs.Parts.{Part}
use Rattle.regs.specs.Classes.{class_number}
use Rattle.regs.specs.Words.{index_of}
use Rattle.regs.specs.declared.reg.Reg.{Reg}
use Rattle.std.specs.Option.{option_map}
use Rattle.vregs.specs.Files.{File, Valid, allocated, count}
use Rattle.vregs.specs.Roots.{alias_of, root}
use Rattle.vregs.specs.declared.vregs.VReg.{VReg}
use Rattle.vregs.specs.declared.vregs.VRegAllocator.{VRegAllocator}

abbrev pub word_of : Reg → ℕ
word_of r = r.0

abbrev pub part_of : VReg → Part
part_of v = record { class = class_number v.class; ty = v.ty.0 }

-- the registers of an allocator, the first one first
abbrev pub vregs_of : VRegAllocator → List VReg
vregs_of a = a.vregs.entries

-- the same table with other registers in it
abbrev pub with_vregs : VRegAllocator → List VReg → VRegAllocator
with_vregs a vs = record { vregs = record a.vregs { entries = vs } }

abbrev pub parts_in : VRegAllocator → List Part
parts_in a = map part_of (vregs_of a)

-- how many registers there are, the physical ones counted
abbrev pub count_of : VRegAllocator → ℕ
count_of a = count (parts_in a)

-- how many registers there may be, the physical ones counted
abbrev pub limit_of : VRegAllocator → ℕ
limit_of a = a.vregs.limit

-- the alias that entry i holds
abbrev pub entry_alias : List VReg → ℕ → Option ℕ
entry_alias vs i = slice_index_or (map (λ v. option_map word_of v.alias) vs) i None

-- the alias that the table holds for a word
abbrev pub alias_in : List VReg → ℕ → Option ℕ
alias_in vs w = cond (allocated (map part_of vs) w) (entry_alias vs (index_of w - 192)) None

-- the table holds this file
pub record Filed (a : VRegAllocator) (f : File) : Type 0 where
  pub regs : parts_in a ≡ f.regs
  pub alias : (w : ℕ) → alias_in (vregs_of a) w ≡ alias_of f.aliases w
  pub valid : Valid f.regs f.aliases

-- whatever file the table holds, w is the root of r
abbrev pub Rooted : VRegAllocator → ℕ → ℕ → Type 0
Rooted a r w = (f : File) → Filed a f → w ≡ root f.aliases r
