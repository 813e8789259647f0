-- What is read of the words that are left. Assumes nothing.
use Rattle.std.specs.Prelude.{◌≡◌, ℕ, ◌^◌, cond, List, [], ◌∷◌, Ok, Err, Result}
use Rattle.std.specs.Str.{bytes_eq}
use Rattle.trace.specs.declared.reason.Reason.{Reason}
use Rattle.trace.specs.declared.reason.Reason.TheVariants.{TooFewWords, TooManyWords, UnknownWord}
use Rattle.trace.specs.declared.words.Words.{Words}
use Rattle.trace.specs.Lines.{words_of}
use Rattle.trace.specs.Numbers.{read_number}

-- the words that a cursor has left to read
abbrev pub left : Words → List (List ℕ)
left w = words_of w.rest.now

-- a value with the words after it, or the reason why there is none
abbrev pub Read : Type 0 → Type 0
Read A = Result (A × List (List ℕ)) Reason

-- a cursor that is read so goes from `before` to `after`, and answers a value of which `view` is read, or the reason
abbrev pub GivesBy : {A B : Type 0} → (B → A) → (List (List ℕ) → Read A) → Words → Result B Reason → Words → Type 0
GivesBy view reads before (Ok b) after = reads (left before) ≡ Ok (view b, left after)
GivesBy view reads before (Err e) after = reads (left before) ≡ Err e

-- the same, where the value itself is read
abbrev pub Gives : {A : Type 0} → (List (List ℕ) → Read A) → Words → Result A Reason → Words → Type 0
Gives = GivesBy (λ a. a)

-- reads on after a value, with what is left
abbrev pub then : {A B : Type 0} → Read A → (A → List (List ℕ) → Read B) → Read B
then (Ok (a, ws)) f = f a ws
then (Err e) f = Err e

-- a value, and the words after it
abbrev pub with_rest : {A : Type 0} → List (List ℕ) → Result A Reason → Read A
with_rest ws (Ok a) = Ok (a, ws)
with_rest ws (Err e) = Err e

-- one word, whatever it is
abbrev pub reads_word : List (List ℕ) → Read (List ℕ)
reads_word [] = Err TooFewWords
reads_word (w ∷ ws) = Ok (w, ws)

-- a number of so many bits
abbrev pub reads_number : ℕ → List (List ℕ) → Read ℕ
reads_number bits [] = Err TooFewWords
reads_number bits (w ∷ ws) = with_rest ws (read_number (2 ^ bits) w)

-- this very word
abbrev pub reads_this : List ℕ → List (List ℕ) → Read (Unit {0})
reads_this word [] = Err TooFewWords
reads_this word (w ∷ ws) = cond (bytes_eq w word) (Ok (tt, ws)) (Err UnknownWord)

-- the end of the line
abbrev pub reads_end : List (List ℕ) → Read (Unit {0})
reads_end [] = Ok (tt, [])
reads_end (w ∷ ws) = Err TooManyWords
