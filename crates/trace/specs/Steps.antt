-- What a line of a script is answered, by what came before it.
use Rattle.std.specs.Prelude.{◌≡◌, ℕ, cond, List, ◌++◌, Some, None, Ok, Err, string_bytes, codes, Option, Result, String}
use Rattle.faults.specs.TableIds.{capacity_of}
use Rattle.faults.specs.declared.fault.Fault.{Fault}
use Rattle.faults.specs.declared.table_id.TableId.TheVariants.{Ranges as OfRanges}
use Rattle.machinst.specs.Meaning.{Meaning}
use Rattle.ranges.specs.Spans.{Spans, no_spans}
use Rattle.trace.specs.Alone.{after_call, call_text, reads_call, refused_text}
use Rattle.trace.specs.Heads.{new_fault, reads_lengths, reads_set, wrappers_of, wrapping_list, wrapping_of}
use Rattle.trace.specs.Shows.{Writes, bare_reader, layered, value}
use Rattle.trace.specs.declared.head.Set.{Set}
use Rattle.trace.specs.declared.head.Wrapping.{Wrapping}
use Rattle.trace.specs.declared.head.Wrapping.TheVariants.{Bare}
use Rattle.trace.specs.declared.request.Request.{Request}
use Rattle.trace.specs.declared.stage.Stage.{Stage}
use Rattle.trace.specs.declared.stage.Stage.TheVariants as stage
use Rattle.trace.specs.declared.stop.Stop.{Stop}
use Rattle.trace.specs.declared.stop.Stop.TheVariants.{Line, Memory}
use Rattle.std.specs.declared.alloc.Global.{Global}
use Rattle.std.specs.Option.{unwrap_or}
use Rattle.std.specs.Str.{bytes_eq}
use Rattle.trace.specs.Readers.{Read, reads_end, reads_number, reads_word, then}
use Rattle.trace.specs.declared.reason.Reason.{Reason}
use Rattle.trace.specs.declared.reason.Reason.TheVariants.{NotHere, UnsupportedWrappers}
use Rattle.trace.specs.Shown.{newline}
use Rattle.wrappers.specs.Wrapped.{wrapped}

-- Where a script stands: at its start, in the head of a function, past that head, at the calls of a range table used
-- alone, or over.
pub data Place : Type 0 where
  start : Place
  head : Set → Option Wrapping → Place
  function : Place
  alone : Spans → Place
  over : Place

abbrev pub place_of : Stage → Place
place_of stage.Start = start
place_of (stage.Head h) = head h.set h.wrapping
place_of stage.Function = function
place_of (stage.Alone r) = alone r.spans
place_of stage.Over = over

-- What a line is answered: nothing, a text, or what an instruction means.
pub data Answer : Type 0 where
  nothing : Answer
  text : List ℕ → Answer
  meaning : Meaning → Answer

-- the answer is written after what was there
abbrev pub Written : Answer → String Global → String Global → Type 0
Written nothing before after = after ≡ before
Written (text t) before after = string_bytes after ≡ string_bytes before ++ t
Written (meaning m) before after = Writes m before after

-- a place to go on from and an answer, or why the line is no command
abbrev pub Step : Type 0
Step = Result (Place × Answer) Reason

-- goes on with what was read
abbrev pub with_read : {A : Type 0} → Result A Reason → (A → Step) → Step
with_read (Ok a) f = f a
with_read (Err e) f = Err e

abbrev pub new_text : List ℕ
new_text = codes "new" ++ newline

abbrev pub reads_length : List (List ℕ) → Read ℕ
reads_length ws = then (reads_number 64 ws) (λ n ws. then (reads_end ws) (λ u ws. Ok (n, ws)))

abbrev pub ranges_step : List (List ℕ) → Step
ranges_step ws = with_read (value (reads_length ws)) (λ n. Ok (alone (no_spans OfRanges (capacity_of OfRanges n)), text new_text))

-- at the start: a set, or a range table alone
abbrev pub start_step : List ℕ → List (List ℕ) → Step
start_step name ws =
    cond (bytes_eq name (codes "set")) (with_read (value (reads_set ws)) (λ s. Ok (head s None, nothing)))
    (cond (bytes_eq name (codes "ranges")) (ranges_step ws) (Err NotHere))

-- the wrappers of a list, if it can be run
abbrev pub wrap_step : Set → Option Wrapping → Step
wrap_step s None = Err UnsupportedWrappers
wrap_step s (Some w) = Ok (head s (Some w), nothing)

-- the wrappers are named once
abbrev pub wrap_once : Set → Option Wrapping → List (List ℕ) → Step
wrap_once s None ws = with_read (wrappers_of ws) (λ ks. wrap_step s (wrapping_of ks))
wrap_once s (Some w) ws = Err NotHere

-- no wrappers where none were named
abbrev pub chosen : Option Wrapping → Wrapping
chosen w = unwrap_or w Bare

abbrev pub show_step : Set → Option Wrapping → List (List ℕ) → Step
show_step s w ws =
    with_read (layered (bare_reader s) (wrapping_list (chosen w)) ws) (λ p. Ok (head s w, meaning (wrapped p.1 p.0)))

-- after a refusal nothing follows
abbrev pub tables_step : Option Fault → Step
tables_step None = Ok (function, text new_text)
tables_step (Some f) = Ok (over, text (refused_text f))

abbrev pub lengths_step : List (List ℕ) → Step
lengths_step ws = with_read (value (reads_lengths ws)) (λ l. tables_step (new_fault l))

abbrev pub head_step : Set → Option Wrapping → List ℕ → List (List ℕ) → Step
head_step s w name ws =
    cond (bytes_eq name (codes "wrap")) (wrap_once s w ws)
    (cond (bytes_eq name (codes "show")) (show_step s w ws)
    (cond (bytes_eq name (codes "tables")) (lengths_step ws) (Err NotHere)))

abbrev pub alone_step : Spans → List (List ℕ) → Step
alone_step s ws = with_read (value (reads_call ws)) (λ call. Ok (alone (after_call s call), text (call_text s call)))

-- with the line's first word
abbrev pub by_name : List (List ℕ) → (List ℕ → List (List ℕ) → Step) → Step
by_name ws f = with_read (reads_word ws) (λ p. f p.0 p.1)

-- what the words of a line are answered
abbrev pub step : Place → List (List ℕ) → Step
step start ws = by_name ws start_step
step (head s w) ws = by_name ws (head_step s w)
step function ws = Err NotHere
step (alone s) ws = alone_step s ws
step over ws = Ok (over, nothing)

-- what a handler of such a step gives: the next stage with the answer written, or the reason; nothing is said where
-- memory ran out
abbrev pub Takes : Step → Result Stage Stop → String Global → String Global → Type 0
Takes s (Ok next) before after = (a : Answer) × (s ≡ Ok (place_of next, a)) × Written a before after
Takes s (Err (Line e)) before after = (s ≡ Err e) × (after ≡ before)
Takes s (Err Memory) before after = Unit {0}

-- the answer goes on in the text of the request, which P relates to what it was before
abbrev pub OnRequest : (String Global → String Global → Type 0) → Request → Request → Type 0
OnRequest P before after = (after.out.ghost_name ≡ before.out.ghost_name) × P before.out.now after.out.now

-- what a line does to where the script stands, and what is written
abbrev pub Moves : Step → Result (Unit {0}) Stop → Place → Place → String Global → String Global → Type 0
Moves s (Ok u) was is before after = (a : Answer) × (s ≡ Ok (is, a)) × Written a before after
Moves s (Err (Line e)) was is before after = (s ≡ Err e) × (is ≡ was) × (after ≡ before)
Moves s (Err Memory) was is before after = Unit {0}

-- the same for a call on a range table
abbrev pub Changes : Step → Result (Unit {0}) Stop → Spans → Spans → String Global → String Global → Type 0
Changes s r was is before after = Moves s r (alone was) (alone is) before after
