-- Aliases and roots of register words.
use Rattle.std.specs.Prelude.{ℕ, cond, List, [], ◌∷◌, Some, None, Option, ◌==◌}

-- The root of a word after these aliases (from, to), the last accepted first: an alias leads the words whose root was its
-- `from` on to the root of its `to`.
abbrev pub root : List (ℕ × ℕ) → ℕ → ℕ
root [] w = w
root (p ∷ ps) w = cond (root ps w == p.0) (root ps p.1) (root ps w)

-- The alias of a word: the root of `to` when the alias was accepted.
abbrev pub alias_of : List (ℕ × ℕ) → ℕ → Option ℕ
alias_of [] w = None
alias_of (p ∷ ps) w = cond (w == p.0) (Some (root ps p.1)) (alias_of ps w)
