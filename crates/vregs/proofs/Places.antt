-- The entry of an allocated word.
use denote.Enum.Bare.{sameb}
use Rattle.std.proofs.Common.{◌≡◌, ℕ, ◌+◌, ◌-◌, ◌%◌, ◌<◌, ◌≤◌, Bool, true, false, cond, not, ◌&&◌, eqb, ltb, List, map, length, get_or, Some, None, Option, sym, refl, ap, ◌∙◌, arith}
use Rattle.regs.specs.Classes.{class_number}
use Rattle.regs.specs.contracts.reg.RegClass.{the_type}
use Rattle.regs.specs.declared.reg.RegClass.{RegClass}
use Rattle.regs.specs.declared.reg.RegClass.TheVariants.{Int, Float, Vector}
use Rattle.regs.specs.Words.{index_of, spill_slot, word_class, word_index}
use Rattle.std.proofs.lemmas.List.{get_or-map, length-map}
use Rattle.std.proofs.lemmas.Option.{slice_get-get_or}
use Rattle.std.proofs.lemmas.Bool.{cond-true, le-ltb, lt-ltb}
use Rattle.std.specs.Bool.{then_some}
use Rattle.std.specs.List.{slice_get}
use Rattle.std.specs.Option.{option_map}
use Rattle.vregs.specs.Entries.{alias_in, entry_alias, part_of, word_of}
use Rattle.vregs.specs.Files.{allocated, count, has_class, reg_at}
use Rattle.vregs.specs.declared.vregs.VReg.{VReg}
use Rattle.vregs.proofs.Allotted.{allotted}

pub cond_some : {A : Type 0} (b : Bool) (x y : A) → Some x ≡ cond b (Some y) None → (b ≡ true) × (x ≡ y)
cond_some true x y e = (refl, cc)
cond_some false x y e = cc

word_told : {A : Type 0} (b : Bool) (o : Option A) (x : A) → Some x ≡ cond b None o → (b ≡ false) × (Some x ≡ o)
word_told true o x e = cc
word_told false o x e = (refl, e)

then_cond : (b : Bool) (i : ℕ) → then_some b i ≡ cond b (Some i) None
then_cond true i = refl
then_cond false i = refl

module _ (vs : List VReg) (w : ℕ) (at : allocated (map part_of vs) w ≡ true) where
  pub place_virtual : 192 + (index_of w - 192) ≡ index_of w
  place_virtual = omega (arith, (allotted (map part_of vs) w at).virtual)

  pub place_within : index_of w - 192 < length vs
  place_within = let t = allotted (map part_of vs) w at in omega (arith, t.below, t.virtual, length-map vs part_of)

  pub place_alias : (d : VReg) → option_map word_of (get_or vs (index_of w - 192) d).alias ≡ alias_in vs w
  place_alias d =
      sym (cond-true (allocated (map part_of vs) w) (entry_alias vs (index_of w - 192)) None at
      ∙ get_or-map (λ v. option_map word_of v.alias) vs (index_of w - 192) d None place_within)

-- the position that a word's index and class lead to
module _ (vs : List VReg) (w n k i : ℕ) (index : Some n ≡ word_index w) (class : Some k ≡ word_class w) (here : (192 ≤ n) × (i ≡ n - 192)) where
  no_slot : spill_slot w ≡ false
  no_slot = (word_told (spill_slot w) (Some (index_of w)) n index).0

  n_is : n ≡ index_of w
  n_is = let told = (word_told (spill_slot w) (Some (index_of w)) n index).1 in cc

  of_class : (ltb (w % 4) 3 ≡ true) × (k ≡ w % 4)
  of_class = cond_some (ltb (w % 4) 3) k (w % 4) (word_told (spill_slot w) (cond (ltb (w % 4) 3) (Some (w % 4)) None) k class).1

  i_is : i ≡ index_of w - 192
  i_is = here.1 ∙ ap (λ m. m - 192) n_is

  judged : allocated (map part_of vs) w ≡ ltb (index_of w) (count (map part_of vs)) && has_class (slice_get (map part_of vs) i) (w % 4)
  judged =
      let rs = map part_of vs in
      ap (λ b. (not b && (ltb (w % 4) 3 && ltb (index_of w) (count rs))) && has_class (reg_at rs (index_of w)) (w % 4)) no_slot
      ∙ ap (λ b. (b && ltb (index_of w) (count rs)) && has_class (reg_at rs (index_of w)) (w % 4)) of_class.0
      ∙ ap (λ b. ltb (index_of w) (count rs) && has_class (cond b None (slice_get rs (index_of w - 192))) (w % 4)) (le-ltb (index_of w) 192 (omega (arith, here.0, n_is)))
      ∙ ap (λ j. ltb (index_of w) (count rs) && has_class (slice_get rs j) (w % 4)) (sym i_is)

  judged_within : (v : VReg) → v ≡ get_or vs i v → i < length vs → allocated (map part_of vs) w ≡ eqb (class_number v.class) k
  judged_within v e l =
      let rs = map part_of vs in
      judged
      ∙ ap (λ b. b && has_class (slice_get rs i) (w % 4)) (lt-ltb (index_of w) (count rs) (omega (arith, length-map vs part_of, i_is)))
      ∙ ap (λ o. has_class o (w % 4)) (slice_get-get_or rs i (part_of v) (omega (arith, length-map vs part_of)))
      ∙ ap (λ p. eqb p.class (w % 4)) (get_or-map part_of vs i v (part_of v) l ∙ ap part_of (sym e))
      ∙ ap (eqb (class_number v.class)) (sym of_class.1)

  pub position_within : (v : VReg) → v ≡ get_or vs i v → i < length vs → (t : Bool) → t ≡ eqb (class_number v.class) k → then_some t i ≡ cond (allocated (map part_of vs) w) (Some (index_of w - 192)) None
  position_within v e l t told =
      then_cond t i ∙ ap (λ b. cond b (Some i) None) (told ∙ sym (judged_within v e l)) ∙ ap (λ j. cond (allocated (map part_of vs) w) (Some j) None) i_is

-- the derived test of two classes is that of their numbers
pub same_class : (c d : RegClass) → sameb the_type c d ≡ eqb (class_number c) (class_number d)
same_class Int Int = refl
same_class Int Float = refl
same_class Int Vector = refl
same_class Float Int = refl
same_class Float Float = refl
same_class Float Vector = refl
same_class Vector Int = refl
same_class Vector Float = refl
same_class Vector Vector = refl
