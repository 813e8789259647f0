-- The registers of a value are allocated.
use Rattle.std.proofs.Common.{◌≡◌, ℕ, ◌+◌, ◌*◌, ◌<◌, leb, List, [], ◌∷◌, ◌++◌, map, length, get_or, Some, None, Option, sym, refl, ap, ◌∙◌, subst, append_assoc, arith}
use Rattle.faults.specs.declared.fault.Fault.{Fault}
use Rattle.faults.specs.declared.fault.Fault.TheVariants.{RegsExhausted}
use Rattle.machinst.specs.Parts.{Part, Parts, part_lists}
use Rattle.machinst.specs.Parts.Parts.{one, two}
use Rattle.regs.specs.Classes.{class_number}
use Rattle.regs.specs.declared.reg.Reg.{Reg}
use Rattle.regs.specs.declared.reg.RegClass.{RegClass}
use Rattle.regs.specs.declared.reg.«Type».{«Type» as Ty}
use Rattle.std.proofs.lemmas.List.{get_or-map, length-map, length_push}
use Rattle.std.specs.Option.{option_map}
use Rattle.vregs.specs.Entries.{Filed, limit_of, part_of, parts_in, vregs_of, word_of}
use Rattle.faults.specs.Outcomes.{unless}
use Rattle.vregs.specs.Files.{File, alloc_by, count, new_words, part_list, parts_of, with_regs}
use Rattle.vregs.specs.declared.vregs.VReg.{VReg}
use Rattle.vregs.specs.declared.vregs.VRegAllocator.{VRegAllocator}
use Rattle.vregs.proofs.Filing.{filed_push}

abbrev new_reg : RegClass → Ty → VReg
new_reg k t = record { alias = None; ty = t; class = k }

-- the classes and the types of a value's registers, as the lists that an instruction set gives for them
abbrev pub Told : Option Parts → List RegClass → List Ty → Type 0
Told o cs ts = Some (map class_number cs, map (λ t. t.0) ts) ≡ option_map part_lists o

same_part : (p : Part) (k t : ℕ) → k ≡ p.class → t ≡ p.ty → p ≡ record { class = k; ty = t }
same_part p k t e f = ap (λ x. record { class = x; ty = p.ty }) (sym e) ∙ ap (λ x. record { class = k; ty = x }) (sym f)

module _ (cs : List RegClass) (ts : List Ty) (c0 : RegClass) (t0 : Ty) where
  abbrev part_at : ℕ → Part
  part_at i = part_of (new_reg (get_or cs i c0) (get_or ts i t0))

  part_is : (i : ℕ) (p : Part) → i < length cs → i < length ts → get_or (map class_number cs) i 0 ≡ p.class → get_or (map (λ t. t.0) ts) i 0 ≡ p.ty → p ≡ part_at i
  part_is i p l l' e f =
      same_part p (class_number (get_or cs i c0)) (get_or ts i t0).0
      (sym (get_or-map class_number cs i c0 0 l) ∙ e) (sym (get_or-map (λ t. t.0) ts i t0 0 l') ∙ f)

  listed_as : (ps : Parts) → Told (Some ps) cs ts → (map class_number cs, map (λ t. t.0) ts) ≡ part_lists ps
  listed_as ps e = cc

  lengths : (ps : Parts) → Told (Some ps) cs ts → (length cs ≡ length (part_lists ps).0) × (length ts ≡ length (part_lists ps).1)
  lengths ps e = (
    sym (length-map cs class_number) ∙ ap (λ x. length x.0) (listed_as ps e),
    sym (length-map ts (λ t. t.0)) ∙ ap (λ x. length x.1) (listed_as ps e),
  )

  pub one_part : (o : Option Parts) → Told o cs ts → length cs ≡ 1 → (0 < length ts) × (o ≡ Some (one (part_at 0)))
  one_part None e l = cc
  one_part (Some (one p)) e l =
      let s = listed_as (one p) e in
      let n = lengths (one p) e in
      let here : 0 < length ts = omega (arith, n.1) in
      (here, ap (λ q. Some (one q)) (part_is 0 p (omega arith) here (ap (λ x. get_or x.0 0 0) s) (ap (λ x. get_or x.1 0 0) s)))
  one_part (Some (two p q)) e l = let n = lengths (two p q) e in absurd (omega (arith, n.0))

  pub two_parts : (o : Option Parts) → Told o cs ts → length cs ≡ 2 → (1 < length ts) × (o ≡ Some (two (part_at 0) (part_at 1)))
  two_parts None e l = cc
  two_parts (Some (one p)) e l = let n = lengths (one p) e in absurd (omega (arith, n.0))
  two_parts (Some (two p q)) e l =
      let s = listed_as (two p q) e in
      let n = lengths (two p q) e in
      let here : 1 < length ts = omega (arith, n.1) in (
        here,
        ap (λ x. Some (two x q)) (part_is 0 p (omega arith) (omega arith) (ap (λ x. get_or x.0 0 0) s) (ap (λ x. get_or x.1 0 0) s))
            ∙ ap (λ x. Some (two (part_at 0) x)) (part_is 1 q (omega arith) here (ap (λ x. get_or x.0 1 0) s) (ap (λ x. get_or x.1 1 0) s)),
      )

  listed : (ps : Parts) → length (part_list ps) ≡ length (part_lists ps).0
  listed (one p) = refl
  listed (two p q) = refl

  module _ (a : VRegAllocator) (f : File) (h : Filed a f) (ty : ℕ) where
    room_told : (o : Option Parts) → Told o cs ts → alloc_by o (limit_of a) f ty ≡ unless (leb (count (parts_in a) + length cs) (limit_of a)) (RegsExhausted (count (parts_in a)))
    room_told None e = cc
    room_told (Some ps) e =
        ap (λ n. unless (leb (count f.regs + n) (limit_of a)) (RegsExhausted (count f.regs))) (listed ps ∙ sym (lengths ps e).0)
        ∙ ap (λ rs. unless (leb (count rs + length cs) (limit_of a)) (RegsExhausted (count rs))) (sym h.regs)

    pub no_room : (o : Option Parts) (x : Fault) → Told o cs ts → unless (leb (count (parts_in a) + length cs) (limit_of a)) (RegsExhausted (count (parts_in a))) ≡ Some x → alloc_by o (limit_of a) f ty ≡ Some x
    no_room o x e u = room_told o e ∙ u

abbrev pub Room : VRegAllocator → ℕ → Type 0
Room a n = unless (leb (count (parts_in a) + n) (limit_of a)) (RegsExhausted (count (parts_in a))) ≡ None

-- the table has one register more
count_push : (a b : VRegAllocator) (v : VReg) → vregs_of b ≡ vregs_of a ++ v ∷ [] → count (parts_in b) ≡ count (parts_in a) + 1
count_push a b v put =
    omega (arith, length-map (vregs_of b) part_of, ap length put, length_push (vregs_of a) v, length-map (vregs_of a) part_of)

-- what an accepted call leaves
abbrev Granted : VRegAllocator → VRegAllocator → File → Option Parts → List Reg → ℕ → Type 0
Granted a b f o rs ty = (alloc_by o (limit_of a) f ty ≡ None) × ((map word_of rs ≡ new_words (count f.regs) (parts_of o)) × Filed b (with_regs f (parts_of o)))

module _ (cs : List RegClass) (ts : List Ty) (c0 : RegClass) (t0 : Ty) (a : VRegAllocator) (f : File) (h : Filed a f) (ty : ℕ) (o : Option Parts) (told : Told o cs ts)
    (room : Room a (length cs)) where
  abbrev reg_at_place : ℕ → VReg
  reg_at_place i = new_reg (get_or cs i c0) (get_or ts i t0)

  no_fault : alloc_by o (limit_of a) f ty ≡ None
  no_fault = room_told cs ts c0 t0 a f h ty o told ∙ room

  pub granted_one : (b : VRegAllocator) (r : Reg) (rs : List Reg) → rs ≡ r ∷ [] → length cs ≡ 1 → vregs_of b ≡ vregs_of a ++ reg_at_place 0 ∷ [] → r.0 ≡ 4 * count (parts_in a) + class_number (get_or cs 0 c0) → Granted a b f o rs ty
  granted_one b r rs e l put word =
      let P : Option Parts → Type 0 = λ q. (map word_of rs ≡ new_words (count f.regs) (parts_of q)) × Filed b (with_regs f (parts_of q)) in (
        no_fault,
        subst P (sym (one_part cs ts c0 t0 o told l).1)
            (ap (map word_of) e ∙ ap (λ w. w ∷ []) (word ∙ ap (λ qs. 4 * count qs + class_number (get_or cs 0 c0)) h.regs), filed_push a b f (reg_at_place 0) h refl put),
      )

  pub granted_two : (b b' : VRegAllocator) (r s : Reg) (rs : List Reg) → rs ≡ r ∷ s ∷ [] → length cs ≡ 2 → vregs_of b ≡ vregs_of a ++ reg_at_place 0 ∷ [] → vregs_of b' ≡ vregs_of b ++ reg_at_place 1 ∷ []
      → r.0 ≡ 4 * count (parts_in a) + class_number (get_or cs 0 c0) → s.0 ≡ 4 * count (parts_in b) + class_number (get_or cs 1 c0) → Granted a b' f o rs ty
  granted_two b b' r s rs e l put put' word word' =
      let P : Option Parts → Type 0 = λ q. (map word_of rs ≡ new_words (count f.regs) (parts_of q)) × Filed b' (with_regs f (parts_of q)) in
      let p = part_of (reg_at_place 0) in
      let q = part_of (reg_at_place 1) in
      let n = count f.regs in
      let same : count (parts_in a) ≡ n = ap count h.regs in
      let first : r.0 ≡ 4 * n + p.class = omega arith in
      let second : s.0 ≡ 4 * (n + 1) + q.class = omega (arith, count_push a b (reg_at_place 0) put) in
      let Q : List Part → Type 0 = λ qs. Filed b' (record { regs = qs; aliases = f.aliases }) in
      let both : Filed b' (with_regs (with_regs f (p ∷ [])) (q ∷ [])) = filed_push b b' (with_regs f (p ∷ [])) (reg_at_place 1) (filed_push a b f (reg_at_place 0) h refl put) refl put' in (
        no_fault,
        subst P (sym (two_parts cs ts c0 t0 o told l).1)
            (ap (map word_of) e ∙ ap (λ w. w ∷ s.0 ∷ []) first ∙ ap (λ w. (4 * n + p.class) ∷ w ∷ []) second, subst Q (append_assoc f.regs (p ∷ []) (q ∷ [])) both),
      )
