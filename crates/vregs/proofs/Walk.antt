-- The walk along the aliases to a root.
use Rattle.std.proofs.Common.{◌≡◌, ℕ, ◌+◌, ◌≤◌, length, Some, None, Option, sym, refl, ap, ◌∙◌, arith, MatchOption}
use Rattle.std.proofs.lemmas.List.{length-map}
use Rattle.vregs.specs.Entries.{Filed, Rooted, alias_in, part_of, vregs_of}
use Rattle.vregs.specs.Files.{File, RootRule}
use Rattle.vregs.specs.Roots.{alias_of, root}
use Rattle.vregs.specs.declared.vregs.VRegAllocator.{VRegAllocator}
use Rattle.vregs.proofs.Allotted.{aliases_few}
use Rattle.vregs.proofs.Chains.{far, far_long, far_some, far_zero, none_root, some_root, unallocated_none}

-- after i aliases the walk from r stands at q, and there are enough turns left
abbrev pub Along : VRegAllocator → ℕ → ℕ → ℕ → Type 0
Along a r q i = (f : File) → Filed a f → (root f.aliases r ≡ root f.aliases q) × (far f.aliases q + i ≤ length f.aliases)

module _ (a : VRegAllocator) (r : ℕ) where
  pub along_start : Along a r r 0
  along_start f h = (refl, omega (arith, far_long f.aliases r))

  pub along_more : (q i m : ℕ) → Along a r q i → alias_in (vregs_of a) q ≡ Some m → Along a r m (i + 1)
  along_more q i m along e f h =
      let s : alias_of f.aliases q ≡ Some m = sym (h.alias q) ∙ e in
      ((along f h).0 ∙ some_root f.regs f.aliases h.valid q m s, omega (arith, (along f h).1, far_some f.regs f.aliases h.valid q m s))

  pub along_none : (q i : ℕ) → Along a r q i → alias_in (vregs_of a) q ≡ None → Rooted a r q
  along_none q i along e f h = sym ((along f h).0 ∙ none_root f.regs f.aliases h.valid q (sym (h.alias q) ∙ e))

  pub along_all : (q i : ℕ) → Along a r q i → length (vregs_of a) ≤ i → Rooted a r q
  along_all q i along e f h =
      let long : length (vregs_of a) ≡ length f.regs = sym (length-map (vregs_of a) part_of) ∙ ap length h.regs in
      let none : alias_of f.aliases q ≡ None = far_zero f.regs f.aliases h.valid q (omega (arith, (along f h).1, aliases_few f.regs f.aliases h.valid)) in
      sym ((along f h).0 ∙ none_root f.regs f.aliases h.valid q none)

pub root_rule : (a : VRegAllocator) (f : File) → Filed a f → RootRule f
root_rule a f h = record {
  rule = λ w. go w (alias_of f.aliases w) refl;
  unallocated = unallocated_none f.regs f.aliases h.valid;
}
  where
    go : (w : ℕ) (o : Option ℕ) → alias_of f.aliases w ≡ o → MatchOption o (root f.aliases w ≡ w) (λ m. root f.aliases w ≡ root f.aliases m)
    go w None e = none_root f.regs f.aliases h.valid w e
    go w (Some m) e = some_root f.regs f.aliases h.valid w m e
