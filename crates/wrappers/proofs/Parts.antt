-- The parts of an instruction under one more wrapper, by its layer.
use Rattle.std.proofs.Common.{◌≡◌, ℕ, ◌-◌, Bool, true, false, ◌||◌, eqb, [], ◌∷◌, ◌++◌, is_some, Some, None, refl, sym, ap, arith}
use Rattle.std.proofs.Math.Bool.{or-false}
use Rattle.std.proofs.lemmas.List.{append-nil}
use Rattle.machinst.specs.Layers.{Layer, charge, counters, fence, fenced_off}
use Rattle.machinst.specs.Meaning.{Meaning, Slot, slot_at, slots_of, with_slots, with_word}
use Rattle.machinst.specs.Usual.{early_use, in_reg}
use Rattle.wrappers.proofs.Charging.{get_push_some, get_push_none, get_push_past, has_push, reworded_push_below, reworded_push_last, reworded_past}
use Rattle.wrappers.specs.Wrapped.{counter_of, recounted, wrapped}

pub slots_wrapped : (l : Layer) (m : Meaning) → slots_of (wrapped (l ∷ []) m) ≡ slots_of m ++ counters (l ∷ [])
slots_wrapped (charge w) m = refl
slots_wrapped (fence f) m = sym (append-nil (slots_of m))

pub clobbers_wrapped : (l : Layer) (m : Meaning) (n : ℕ) → (wrapped (l ∷ []) m).operation.clobbers n ≡ m.operation.clobbers n || fenced_off (l ∷ []) n
clobbers_wrapped (charge w) m n = sym (or-false (m.operation.clobbers n))
clobbers_wrapped (fence f) m n = ap (λ (b : Bool). m.operation.clobbers n || b) (sym (or-false (f n)))

pub control_wrapped : (l : Layer) (m : Meaning) → (wrapped (l ∷ []) m).control ≡ m.control
control_wrapped (charge w) m = refl
control_wrapped (fence f) m = refl

pub move_wrapped : (l : Layer) (m : Meaning) → (wrapped (l ∷ []) m).operation.move ≡ m.operation.move
move_wrapped (charge w) m = refl
move_wrapped (fence f) m = refl

pub payload_wrapped : (l : Layer) (m : Meaning) → (wrapped (l ∷ []) m).operation.payload ≡ m.operation.payload
payload_wrapped (charge w) m = refl
payload_wrapped (fence f) m = refl

-- a slot of the inner instruction
pub slot_inner : (l : Layer) (m : Meaning) (k : ℕ) (s : Slot) → slot_at m k ≡ Some s → slot_at (wrapped (l ∷ []) m) k ≡ Some s
slot_inner (charge w) m k s h = get_push_some (slots_of m) (early_use in_reg w) k s h
slot_inner (fence f) m k s h = h

-- the counter's slot
pub slot_added : (l : Layer) (m : Meaning) (k w : ℕ) → counter_of l ≡ Some w → slot_at m k ≡ None → is_some (slot_at (wrapped (l ∷ []) m) k) ≡ true → slot_at (wrapped (l ∷ []) m) k ≡ Some (early_use in_reg w)
slot_added (charge v) m k w c h here = let r = get_push_none (slots_of m) (early_use in_reg v) k h here in grind arith
slot_added (fence f) m k w c h here = grind arith

-- past the counter's slot there is none of the inner instruction either
pub slot_past : (l : Layer) (m : Meaning) (k : ℕ) → is_some (slot_at (wrapped (l ∷ []) m) k) ≡ false → slot_at m k ≡ slot_at (wrapped (l ∷ []) m) k
slot_past (charge w) m k h = get_push_past (slots_of m) (early_use in_reg w) k h
slot_past (fence f) m k h = refl

pub slot_not_added : (l : Layer) (m : Meaning) (k : ℕ) → counter_of l ≡ None → slot_at (wrapped (l ∷ []) m) k ≡ slot_at m k
slot_not_added (charge w) m k c = grind arith
slot_not_added (fence f) m k c = refl

pub has_added : (l : Layer) (m : Meaning) (k w : ℕ) → counter_of l ≡ Some w → is_some (slot_at (wrapped (l ∷ []) m) k) ≡ eqb k 0 || is_some (slot_at m (k - 1))
has_added (charge v) m k w c = has_push (slots_of m) (early_use in_reg v) k
has_added (fence f) m k w c = grind arith

-- another word in the slot of that place
pub word_inner : (l : Layer) (m : Meaning) (k w : ℕ) → is_some (slot_at m k) ≡ true → with_word (wrapped (l ∷ []) m) k w ≡ wrapped (l ∷ []) (with_word m k w)
word_inner (charge v) m k w h = ap (with_slots m) (reworded_push_below (slots_of m) (early_use in_reg v) k w h)
word_inner (fence f) m k w h = refl

-- without a counter each place is that of the inner instruction
pub word_not_added : (l : Layer) (m : Meaning) (k w : ℕ) → counter_of l ≡ None → with_word (wrapped (l ∷ []) m) k w ≡ wrapped (l ∷ []) (with_word m k w)
word_not_added (charge v) m k w c = grind arith
word_not_added (fence f) m k w c = refl

pub word_added : (l : Layer) (m : Meaning) (k w : ℕ) → is_some (slot_at m k) ≡ false → is_some (slot_at (wrapped (l ∷ []) m) k) ≡ true → with_word (wrapped (l ∷ []) m) k w ≡ wrapped (recounted l w ∷ []) m
word_added (charge v) m k w h here = ap (with_slots m) (reworded_push_last (slots_of m) (early_use in_reg v) k w h here)
word_added (fence f) m k w h here = grind arith

pub word_past : (l : Layer) (m : Meaning) (k w : ℕ) → is_some (slot_at (wrapped (l ∷ []) m) k) ≡ false → with_word (wrapped (l ∷ []) m) k w ≡ wrapped (l ∷ []) m
word_past l m k w h = ap (with_slots (wrapped (l ∷ []) m)) (reworded_past (slots_of (wrapped (l ∷ []) m)) k w h)

pub ruleset wrapped_parts = (clobbers_wrapped, control_wrapped, move_wrapped, payload_wrapped, slot_inner, slot_added, slot_not_added, has_added, word_inner, word_not_added, word_added, word_past)
