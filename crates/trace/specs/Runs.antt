-- A whole script: each line is answered by where the lines before it have led.
use Rattle.std.specs.Prelude.{◌≡◌, ℕ, ◌+◌, ◌-◌, ◌^◌, min, cond, List, [], ◌∷◌, ◌++◌, Ok, Err, codes, decimal, String}
use Rattle.trace.specs.Steps.{Answer, Place, Step, Written, nothing, step, text}
use Rattle.std.specs.declared.alloc.Global.{Global}
use Rattle.trace.specs.Lines.{passed_over, words_of}
use Rattle.trace.specs.Shown.{newline}

-- the number of the line after n lines; it stops at the largest number of 64 bits
abbrev pub next_number : ℕ → ℕ
next_number n = min (n + 1) (2 ^ 64 - 1)

abbrev pub error_text : ℕ → List ℕ
error_text n = codes "error " ++ (decimal n ++ newline)

-- a line that is no command is answered with its number, and leads nowhere
abbrev pub settled : Place → ℕ → Step → Place × Answer
settled p n (Ok next) = next
settled p n (Err e) = (p, text (error_text n))

-- where line n leads from a place, and what it is answered
abbrev pub line_step : Place → ℕ → List ℕ → Place × Answer
line_step p n line = cond (passed_over line) (p, nothing) (settled p n (step p (words_of line)))

-- a line was answered so
abbrev pub Settles : Place × Answer → Place → String Global → String Global → Type 0
Settles due is before after = (is ≡ due.0) × Written due.1 before after

-- the lines, after n others that led to p, were answered one after another
abbrev pub Run : Place → ℕ → List (List ℕ) → String Global → String Global → Type 0
Run p n [] before after = after ≡ before
Run p n (line ∷ lines) before after =
    (mid : String Global) × Written (line_step p (next_number n) line).1 before mid × Run (line_step p (next_number n) line).0 (next_number n) lines mid after
