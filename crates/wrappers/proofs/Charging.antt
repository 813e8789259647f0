-- The slots of a charged instruction, and a word replaced in it.
use Rattle.std.proofs.Common.{◌≡◌, ℕ, zero, suc, ◌-◌, true, false, ◌||◌, eqb, List, [], ◌∷◌, ◌++◌, length, is_some, Some, None, refl, ap, arith}
use Rattle.std.specs.List.{slice_get}
use Rattle.machinst.specs.Meaning.{Slot, reworded, reworded_at}

module _ {X : Type 0} where
  -- a place of a list, and of the list with one more element
  pub get_push_some : (xs : List X) (y : X) (k : ℕ) (x : X) → slice_get xs k ≡ Some x → slice_get (xs ++ y ∷ []) k ≡ Some x
  get_push_some [] y k x h = grind arith
  get_push_some (z ∷ xs) y zero x h = grind arith
  get_push_some (z ∷ xs) y (suc k) x h = let r = get_push_some xs y k x h in grind arith

  pub get_push_none : (xs : List X) (y : X) (k : ℕ) → slice_get xs k ≡ None → is_some (slice_get (xs ++ y ∷ []) k) ≡ true → slice_get (xs ++ y ∷ []) k ≡ Some y
  get_push_none [] y zero h here = refl
  get_push_none [] y (suc k) h here = grind arith
  get_push_none (z ∷ xs) y zero h here = grind arith
  get_push_none (z ∷ xs) y (suc k) h here = let r = get_push_none xs y k h here in grind arith

  pub has_push : (xs : List X) (y : X) (k : ℕ) → is_some (slice_get (xs ++ y ∷ []) k) ≡ eqb k 0 || is_some (slice_get xs (k - 1))
  has_push [] y zero = refl
  has_push [] y (suc k) = grind arith
  has_push (x ∷ xs) y zero = refl
  has_push (x ∷ xs) y (suc zero) = let r = has_push xs y zero in grind arith
  has_push (x ∷ xs) y (suc (suc k)) = let r = has_push xs y (suc k) in grind arith

module _ {X : Type 0} where
  -- what is not in the longer list is not in the shorter one
  pub get_push_past : (xs : List X) (y : X) (k : ℕ) → is_some (slice_get (xs ++ y ∷ []) k) ≡ false → slice_get xs k ≡ slice_get (xs ++ y ∷ []) k
  get_push_past [] y zero h = grind arith
  get_push_past [] y (suc k) h = refl
  get_push_past (z ∷ xs) y zero h = refl
  get_push_past (z ∷ xs) y (suc k) h = get_push_past xs y k h

-- another word in the slot of that place
pub reworded_push_below : (xs : List Slot) (y : Slot) (k w : ℕ) → is_some (slice_get xs k) ≡ true → reworded_at (xs ++ y ∷ []) k w ≡ reworded_at xs k w ++ y ∷ []
reworded_push_below [] y k w h = grind arith
reworded_push_below (x ∷ xs) y zero w h = refl
reworded_push_below (x ∷ xs) y (suc k) w h = ap {B = List Slot} (λ r. x ∷ r) (reworded_push_below xs y k w h)

pub reworded_push_last : (xs : List Slot) (y : Slot) (k w : ℕ) → is_some (slice_get xs k) ≡ false → is_some (slice_get (xs ++ y ∷ []) k) ≡ true → reworded_at (xs ++ y ∷ []) k w ≡ xs ++ reworded y w ∷ []
reworded_push_last [] y zero w h here = refl
reworded_push_last [] y (suc k) w h here = grind arith
reworded_push_last (x ∷ xs) y zero w h here = grind arith
reworded_push_last (x ∷ xs) y (suc k) w h here = ap {B = List Slot} (λ r. x ∷ r) (reworded_push_last xs y k w h here)

pub reworded_past : (xs : List Slot) (k w : ℕ) → is_some (slice_get xs k) ≡ false → reworded_at xs k w ≡ xs
reworded_past [] k w h = refl
reworded_past (x ∷ xs) zero w h = grind arith
reworded_past (x ∷ xs) (suc k) w h = ap {B = List Slot} (λ r. x ∷ r) (reworded_past xs k w h)

-- it is one slot in the place of another
pub reworded_length : (xs : List Slot) (k w : ℕ) → length (reworded_at xs k w) ≡ length xs
reworded_length [] k w = refl
reworded_length (x ∷ xs) zero w = refl
reworded_length (x ∷ xs) (suc k) w = ap suc (reworded_length xs k w)
