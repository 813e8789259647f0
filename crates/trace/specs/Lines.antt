-- The lines of a text, and the words of a line. Assumes nothing.
use Rattle.std.specs.Prelude.{◌≡◌, ℕ, Bool, ◌||◌, List, [], ◌∷◌, codes, ◌==◌, ◌≢◌, nat_eq}
use Rattle.std.specs.List.{AllByRecursion, join_with_byte, list_all, slice_split, starts_with}

-- what stands before, between and after the separators of a text, in order, and may be empty
abbrev pub pieces : ℕ → List ℕ → List (List ℕ)
pieces sep text = slice_split (λ b. b == sep) text

abbrev pub Without : ℕ → List ℕ → Type 0
Without sep bs = AllByRecursion (λ b. b ≢ sep) bs

-- the pieces make up the text, with the separator between each two, and none has the separator
abbrev pub Split : ℕ → List ℕ → Type 0
Split sep text = (join_with_byte sep (pieces sep text) ≡ text) × AllByRecursion (Without sep) (pieces sep text)

-- the lines of a text: its pieces at the newlines
abbrev pub lines_of : List ℕ → List (List ℕ)
lines_of text = pieces 10 text

-- those pieces that have a byte
abbrev pub not_empty : List (List ℕ) → List (List ℕ)
not_empty [] = []
not_empty ([] ∷ ps) = not_empty ps
not_empty ((b ∷ bs) ∷ ps) = (b ∷ bs) ∷ not_empty ps

-- the words of a line
abbrev pub words_of : List ℕ → List (List ℕ)
words_of line = not_empty (pieces 32 line)

-- a line that holds no command: one whose first byte is `#`, or one with nothing but spaces
abbrev pub passed_over : List ℕ → Bool
passed_over line = starts_with nat_eq line (codes "#") || list_all (λ b. b == 32) line
