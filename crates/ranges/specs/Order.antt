-- Lists of numbers that do not fall.
use Rattle.std.specs.Prelude.{ℕ, ◌<◌, ◌≤◌, List, length, slice_index}

-- No element is below one that stands before it.
abbrev pub Rising : List ℕ → Type 0
Rising es = (i j : ℕ) → i ≤ j → j < length es → slice_index es i ≤ slice_index es j
