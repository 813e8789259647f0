-- What a call refuses, from its tests.
use Rattle.std.proofs.Common.{◌≡◌, ℕ, ◌<◌, Bool, true, false, not, eqb, ltb, length, is_some, IsErrAnd, OnErr, Some, None, Ok, Err, Option, Result, sym, refl, ap, ◌∙◌, arith}
use Rattle.faults.specs.declared.fault.Fault.{Fault}
use Rattle.faults.specs.declared.fault.Fault.TheVariants.{AliasCycle, AlreadyAliased, LowLevelBranch, TooManySlots, UnknownReg}
use Rattle.machinst.specs.Meaning.{Meaning, slots_of}
use Rattle.regs.specs.Words.{index_of}
use Rattle.std.proofs.lemmas.Bool.{ltb-false, ne_eqb}
use Rattle.std.specs.List.{slice_get}
use Rattle.faults.specs.Outcomes.{Outcome, or_else, unless}
use Rattle.vregs.specs.Files.{File, alias_fault, allocated}
use Rattle.vregs.specs.Insts.{first_unknown, inst_fault, move_fault, slot_words}
use Rattle.vregs.specs.Roots.{alias_of, root}
use Rattle.vregs.proofs.Scans.{nth_test}

-- what the exit of a `?` hands on
pub outcome_err : {X : Type 0} (o : Option Fault) (r : Result X Fault) (P : X → Type 0) (f : Fault) → IsErrAnd r (λ y. y ≡ f) → o ≡ Some f → Outcome o r P
outcome_err o (Ok x) P f h e = absurd h
outcome_err o (Err y) P f h e = e ∙ ap Some (sym h)

pub on_err : {X E U : Type 0} (r : Result X E) → U → OnErr r U
on_err (Ok x) u = tt
on_err (Err e) u = u

pub unless_none : (b : Bool) (f : Fault) → unless b f ≡ None → b ≡ true
unless_none true f h = refl
unless_none false f h = cc

module _ (n : ℕ) (m : Meaning) (no_branch : m.control.low_level_branch ≡ false) where
  abbrev after_slots : Option Fault
  after_slots = or_else (first_unknown n 0 (slot_words m)) (move_fault m m.operation.move)

  slots_tested : (b : Bool) → is_some (slice_get (slots_of m) 8) ≡ b → inst_fault n m ≡ or_else (unless (not b) TooManySlots) after_slots
  slots_tested b e =
      ap (λ a. or_else (unless (not a) LowLevelBranch) (or_else (unless (not (ltb 8 (length (slots_of m)))) TooManySlots) after_slots)) no_branch
      ∙ ap (λ a. or_else (unless (not a) TooManySlots) after_slots) (sym (nth_test (slots_of m) 8) ∙ e)

  pub few : is_some (slice_get (slots_of m) 8) ≡ false → length (slots_of m) < 9
  few e = omega (arith, ltb-false 8 (length (slots_of m)) (sym (nth_test (slots_of m) 8) ∙ e))

  pub words_tested : is_some (slice_get (slots_of m) 8) ≡ false → (o : Option Fault) → first_unknown n 0 (slot_words m) ≡ o → inst_fault n m ≡ or_else o (move_fault m m.operation.move)
  words_tested e o h = slots_tested false e ∙ ap (λ q. or_else q (move_fault m m.operation.move)) h

-- an alias of allocated words that makes no cycle is refused only where there is one already
module _ (f : File) (from to : ℕ) where
  abbrev second : Bool → Option Fault
  second x = unless (not x) (AlreadyAliased (index_of from))

  abbrev cycle : Bool → Bool → Option Fault
  cycle x y = or_else (unless (not x) (AliasCycle (index_of from))) (second y)

  pub alias_tested : (b : Bool) → allocated f.regs from ≡ true → allocated f.regs to ≡ true → (root f.aliases to ≡ from → ⊥) → is_some (alias_of f.aliases from) ≡ b
      → alias_fault f from to ≡ unless (not b) (AlreadyAliased (index_of from))
  alias_tested b at_from at_to apart e =
      let x = eqb (root f.aliases to) from in
      let y = is_some (alias_of f.aliases from) in
      ap (λ a. or_else (unless a (UnknownReg 0)) (or_else (unless (allocated f.regs to) (UnknownReg 1)) (cycle x y))) at_from
      ∙ ap (λ a. or_else (unless a (UnknownReg 1)) (cycle x y)) at_to
      ∙ ap (λ a. cycle a y) (ne_eqb (root f.aliases to) from apart)
      ∙ ap second e
