-- Instructions made of a bare one by a list of wrappers.
use Rattle.std.specs.Prelude.{◌≡◌, ℕ, Bool, false, ◌||◌, List, [], ◌∷◌, ◌++◌}
use Rattle.machinst.specs.Meaning.{Meaning, Slot, slots_of}
use Rattle.machinst.specs.Usual.{early_use, in_reg}

-- A wrapper: the counter's word, or the registers of a fence.
pub data Layer : Type 0 where
  charge : ℕ → Layer
  fence : (ℕ → Bool) → Layer

-- the slots that wrappers add, from the innermost out
abbrev pub counters : List Layer → List Slot
counters [] = []
counters (charge w ∷ layers) = early_use in_reg w ∷ counters layers
counters (fence f ∷ layers) = counters layers

-- whether some wrapper fences a register
abbrev pub fenced_off : List Layer → ℕ → Bool
fenced_off [] n = false
fenced_off (charge w ∷ layers) n = fenced_off layers n
fenced_off (fence f ∷ layers) n = f n || fenced_off layers n

-- What an instruction under any list of wrappers comes to.
pub record Under (layers : List Layer) (bare whole : Meaning) : Type 0 where
  -- the bare instruction's slots, and then each counter's Use from the innermost out
  pub slots : slots_of whole ≡ slots_of bare ++ counters layers
  -- all clobbers united
  pub clobbers : (n : ℕ) → whole.operation.clobbers n ≡ bare.operation.clobbers n || fenced_off layers n
  -- the rest as below
  pub move : whole.operation.move ≡ bare.operation.move
  pub payload : whole.operation.payload ≡ bare.operation.payload
  pub control : whole.control ≡ bare.control
