-- The table holds the file after a register or an alias is added.
use Rattle.std.proofs.Common.{◌≡◌, ℕ, zero, suc, ◌+◌, ◌-◌, ◌<◌, ◌≤◌, Bool, true, false, cond, not, List, [], ◌∷◌, ◌++◌, map, length, get_or, set, is_some, Some, None, Option, sym, refl, ap, ◌∙◌, ⊎_elim, arith}
use Rattle.faults.specs.declared.fault.Fault.TheVariants.{AlreadyAliased, UnknownReg}
use Rattle.regs.specs.Words.{index_of}
use Rattle.regs.specs.declared.reg.Reg.{Reg}
use Rattle.std.proofs.Math.Seq.{map-set_same}
use Rattle.std.proofs.lemmas.List.{get_or_past, get_or-set_other, get_or-set_same, length-map, map_push, map-set}
use Rattle.std.proofs.lemmas.Bool.{cases_eq, cases_lt, cond-true}
use Rattle.std.specs.Option.{option_map}
use Rattle.vregs.specs.Entries.{Filed, Rooted, alias_in, entry_alias, part_of, parts_in, vregs_of, word_of}
use Rattle.faults.specs.Outcomes.{unless}
use Rattle.vregs.specs.Files.{File, alias_fault, allocated, count, with_alias, with_regs}
use Rattle.vregs.specs.Roots.{alias_of, root}
use Rattle.vregs.specs.declared.vregs.VReg.{VReg}
use Rattle.vregs.specs.declared.vregs.VRegAllocator.{VRegAllocator}
use Rattle.vregs.proofs.Allotted.{allocated_same, allotted, same_word, still_valid}
use Rattle.vregs.proofs.Chains.{alias_hit, alias_miss}
use Rattle.vregs.proofs.Outcomes.{alias_tested, unless_none}
use Rattle.vregs.proofs.Places.{place_alias, place_virtual}

-- the position of a word's register
abbrev place : ℕ → ℕ
place w = index_of w - 192

abbrev own_alias : VReg → Option ℕ
own_alias v = option_map word_of v.alias

entry_push : (vs : List VReg) (v : VReg) → v.alias ≡ None → (i : ℕ) → entry_alias (vs ++ v ∷ []) i ≡ entry_alias vs i
entry_push [] v e zero = ap (option_map word_of) e
entry_push [] v e (suc i) = refl
entry_push (u ∷ vs) v e zero = refl
entry_push (u ∷ vs) v e (suc i) = entry_push vs v e i

entry_past : (vs : List VReg) (i : ℕ) → length vs ≤ i → entry_alias vs i ≡ None
entry_past vs i h = get_or_past (map own_alias vs) i None (omega (arith, length-map vs own_alias))

cond_none : (b : Bool) (o : Option ℕ) → o ≡ None → cond b o None ≡ None
cond_none true o e = e
cond_none false o e = refl

alias_push : (vs : List VReg) (v : VReg) → v.alias ≡ None → (w : ℕ) → alias_in (vs ++ v ∷ []) w ≡ alias_in vs w
alias_push vs v e w =
    let i = place w in
    let rs = map part_of vs in
    ap (λ o. cond (allocated (map part_of (vs ++ v ∷ [])) w) o None) (entry_push vs v e i)
    ∙ ap (λ qs. cond (allocated qs w) (entry_alias vs i) None) (map_push part_of vs v)
    ∙ ⊎_elim
    (λ l. ap (λ b. cond b (entry_alias vs i) None) (allocated_same rs (part_of v ∷ []) w l))
    (λ l. let none : entry_alias vs i ≡ None = entry_past vs i (omega (arith, length-map vs part_of)) in
    cond_none (allocated (rs ++ part_of v ∷ []) w) (entry_alias vs i) none ∙ sym (cond_none (allocated rs w) (entry_alias vs i) none))
    (cases_lt (index_of w) (count rs))

pub filed_push : (a b : VRegAllocator) (f : File) (v : VReg) → Filed a f → v.alias ≡ None → vregs_of b ≡ vregs_of a ++ v ∷ [] → Filed b (with_regs f (part_of v ∷ []))
filed_push a b f v h e put = record {
  regs = ap (map part_of) put ∙ map_push part_of (vregs_of a) v ∙ ap (λ rs. rs ++ part_of v ∷ []) h.regs;
  alias = λ w. ap (λ vs. alias_in vs w) put ∙ alias_push (vregs_of a) v e w ∙ h.alias w;
  valid = still_valid f.regs (part_of v ∷ []) f.aliases h.valid;
}

-- a register as an alias of r
abbrev pub aliased : VReg → Reg → VReg
aliased v r = record { alias = Some r; ty = v.ty; class = v.class }

module _ (a b : VRegAllocator) (f : File) (from to : ℕ) (d : VReg) (r : Reg) where
  pub filed_alias : Filed a f
      → allocated f.regs from ≡ true → allocated f.regs to ≡ true → alias_of f.aliases from ≡ None → (root f.aliases to ≡ from → ⊥)
      → r.0 ≡ root f.aliases to → vregs_of b ≡ set (vregs_of a) (place from) (aliased (get_or (vregs_of a) (place from) d) r)
      → Filed b (with_alias f from to)
  filed_alias h at_from at_to none apart is_root put = record {
    regs = parts ∙ h.regs;
    alias = λ w. ap (λ rs. cond (allocated rs w) (entry_alias (vregs_of b) (place w)) None) (parts ∙ h.regs) ∙ here w;
    valid = (at_from, at_to, none, apart, h.valid);
  }
    where
      parts : map part_of (vregs_of b) ≡ map part_of (vregs_of a)
      parts = ap (map part_of) put ∙ map-set_same part_of (vregs_of a) (place from) _ d refl

      within : place from < length (map own_alias (vregs_of a))
      within =
          let t = allotted f.regs from at_from in
          omega (arith, t.below, t.virtual, ap length h.regs, length-map (vregs_of a) part_of, length-map (vregs_of a) own_alias)

      entries_set : (j : ℕ) → entry_alias (vregs_of b) j ≡ get_or (set (map own_alias (vregs_of a)) (place from) (Some r.0)) j None
      entries_set j =
          ap (λ vs. entry_alias vs j) put
          ∙ ap (λ os. get_or os j None) (map-set own_alias (vregs_of a) (place from) (aliased (get_or (vregs_of a) (place from) d) r))

      here : (w : ℕ) → cond (allocated f.regs w) (entry_alias (vregs_of b) (place w)) None ≡ alias_of ((from, to) ∷ f.aliases) w
      here w = ⊎_elim
          (λ e. cond-true (allocated f.regs w) (entry_alias (vregs_of b) (place w)) None (ap (allocated f.regs) e ∙ at_from)
          ∙ ap (λ v. entry_alias (vregs_of b) (place v)) e
          ∙ entries_set (place from) ∙ get_or-set_same (map own_alias (vregs_of a)) (place from) (Some r.0) None within
          ∙ ap Some is_root ∙ sym (alias_hit (from, to) f.aliases w e))
          (λ e. ap (λ rs. cond (allocated rs w) (entry_alias (vregs_of b) (place w)) None) (sym h.regs)
          ∙ other w e (allocated (map part_of (vregs_of a)) w) refl ∙ h.alias w ∙ sym (alias_miss (from, to) f.aliases w e))
          (cases_eq w from)
        where
          other : (w : ℕ) → (w ≡ from → ⊥) → (t : Bool) → allocated (map part_of (vregs_of a)) w ≡ t → cond t (entry_alias (vregs_of b) (place w)) None ≡ cond t (entry_alias (vregs_of a) (place w)) None
          other w e true t =
              entries_set (place w)
              ∙ get_or-set_other (map own_alias (vregs_of a)) (place from) (place w) (Some r.0) None
              (λ j. e (same_word f.regs w from (ap (λ rs. allocated rs w) (sym h.regs) ∙ t) at_from j))
          other w e false t = refl

is_some_mapped : (o : Option Reg) → is_some (option_map word_of o) ≡ is_some o
is_some_mapped None = refl
is_some_mapped (Some r) = refl

no_alias : (o : Option ℕ) → is_some o ≡ false → o ≡ None
no_alias None e = refl
no_alias (Some m) e = cc

-- an alias of allocated words that makes no cycle
module _ (a : VRegAllocator) (from to i : ℕ) (r : Reg) (d : VReg)
    (from_told : unless (allocated (parts_in a) from) (UnknownReg 0) ≡ None) (i_is : i ≡ place from) (to_told : unless (allocated (parts_in a) to) (UnknownReg 1) ≡ None)
    (rooted : Rooted a to r.0) (apart : r.0 ≡ from → ⊥) where
  at_from : allocated (parts_in a) from ≡ true
  at_from = unless_none (allocated (parts_in a) from) (UnknownReg 0) from_told

  at_to : allocated (parts_in a) to ≡ true
  at_to = unless_none (allocated (parts_in a) to) (UnknownReg 1) to_told

  module _ (xs : List VReg) (e : xs ≡ vregs_of a) (t : Bool) (told : t ≡ is_some (get_or xs i d).alias) (f : File) (h : Filed a f) where
    stands : is_some (alias_of f.aliases from) ≡ t
    stands =
        sym (told ∙ ap (λ vs. is_some (get_or vs i d).alias) e ∙ ap (λ j. is_some (get_or (vregs_of a) j d).alias) i_is
        ∙ sym (is_some_mapped (get_or (vregs_of a) (place from) d).alias) ∙ ap is_some (place_alias (vregs_of a) from at_from d ∙ h.alias from))

    tested : alias_fault f from to ≡ unless (not t) (AlreadyAliased (index_of from))
    tested =
        alias_tested f from to t (ap (λ rs. allocated rs from) (sym h.regs) ∙ at_from) (ap (λ rs. allocated rs to) (sym h.regs) ∙ at_to) (λ x. apart (rooted f h ∙ x)) stands

  pub already : (xs : List VReg) → xs ≡ vregs_of a → true ≡ is_some (get_or xs i d).alias → (f : File) → Filed a f → alias_fault f from to ≡ Some (AlreadyAliased (192 + i))
  already xs e told f h =
      let index : index_of from ≡ 192 + i = omega (arith, i_is, place_virtual (vregs_of a) from at_from) in
      tested xs e true told f h ∙ ap (λ n. Some (AlreadyAliased n)) index

  pub accepted : (xs ys : List VReg) (b : VRegAllocator) → xs ≡ vregs_of a → ys ≡ vregs_of a → false ≡ is_some (get_or xs i d).alias → vregs_of b ≡ set ys i (aliased (get_or ys i d) r)
      → (f : File) → Filed a f → (alias_fault f from to ≡ None) × Filed b (with_alias f from to)
  accepted xs ys b e e' told put f h = (
    tested xs e false told f h,
    filed_alias a b f from to d r h
        (ap (λ rs. allocated rs from) (sym h.regs) ∙ at_from) (ap (λ rs. allocated rs to) (sym h.regs) ∙ at_to)
        (no_alias (alias_of f.aliases from) (stands xs e false told f h)) (λ x. apart (rooted f h ∙ x)) (rooted f h)
        (put ∙ ap (λ vs. set vs i (aliased (get_or vs i d) r)) e' ∙ ap (λ j. set (vregs_of a) j (aliased (get_or (vregs_of a) j d) r)) i_is),
  )
