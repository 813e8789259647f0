-- What `show` answers: the text of the instruction that its words write.
use Rattle.std.specs.Prelude.{◌≡◌, ℕ, ◌^◌, ◌<◌, List, [], ◌∷◌, ◌++◌, length, Ok, Err, string_bytes, Result, String}
use Rattle.machinst.specs.Meaning.{Meaning, slots_of}
use Rattle.trace.specs.declared.head.Set.{Set}
use Rattle.trace.specs.declared.head.Set.TheVariants as set
use Rattle.trace.specs.declared.head.Wrapper.{Wrapper}
use Rattle.trace.specs.declared.head.Wrapper.TheVariants.{Charged, Fenced}
use Rattle.trace.specs.declared.stop.Stop.{Stop}
use Rattle.trace.specs.declared.stop.Stop.TheVariants.{Line, Memory}
use Rattle.std.specs.declared.alloc.Global.{Global}
use Rattle.trace.specs.Readers.{Read, reads_end, then}
use Rattle.trace.specs.declared.reason.Reason.{Reason}
use Rattle.trace.specs.Insts.{Reader, bare_p, bare_q, reads_added, reads_charge, reads_fence}
use Rattle.trace.specs.Shown.{shown_text}
use Rattle.machinst.specs.Layers.{Layer, Under}
use Rattle.wrappers.specs.Wrapped.{wrapped}

-- what is read where nothing is left
abbrev pub value : {A : Type 0} → Read A → Result A Reason
value (Ok p) = Ok p.0
value (Err e) = Err e

-- the meaning that all of the words write
abbrev pub whole : Reader → List (List ℕ) → Result Meaning Reason
whole reads ws = value (then (reads ws) (λ m ws. then (reads_end ws) (λ u ws. Ok (m, ws))))

-- a meaning is written after what was there; its slots have numbers of 64 bits
abbrev pub Writes : Meaning → String Global → String Global → Type 0
Writes m before after = length (slots_of m) < 2 ^ 64 → string_bytes after ≡ string_bytes before ++ shown_text m

abbrev pub ShowsBy : Reader → List (List ℕ) → Result (Unit {0}) Stop → String Global → String Global → Type 0
ShowsBy reads ws (Ok u) before after = (m : Meaning) × (whole reads ws ≡ Ok m) × Writes m before after
ShowsBy reads ws (Err (Line e)) before after = (whole reads ws ≡ Err e) × (after ≡ before)
ShowsBy reads ws (Err Memory) before after = Unit {0}

-- the numbers of this wrapper
abbrev pub reads_own : Wrapper → List (List ℕ) → Read Layer
reads_own Charged = reads_charge
reads_own Fenced = reads_fence

-- what a wrapper adds in the words: a `+`, and its own numbers
abbrev pub reads_layer : Wrapper → List (List ℕ) → Read Layer
reads_layer k = reads_added (reads_own k)

-- what each wrapper adds, the innermost first
abbrev pub reads_layers : List Wrapper → List (List ℕ) → Read (List Layer)
reads_layers [] ws = Ok ([], ws)
reads_layers (k ∷ ks) ws = then (reads_layer k ws) (λ l ws. then (reads_layers ks ws) (λ ls ws. Ok (l ∷ ls, ws)))

-- the bare instruction and its layers, which all of the words write
abbrev pub layered : Reader → List Wrapper → List (List ℕ) → Result (Meaning × List Layer) Reason
layered bare ks ws =
    value (then (bare ws) (λ m ws. then (reads_layers ks ws) (λ ls ws. then (reads_end ws) (λ u ws. Ok ((m, ls), ws)))))

-- what is shown is the bare instruction under its layers
abbrev pub ShowsUnder : Reader → List Wrapper → List (List ℕ) → Result (Unit {0}) Stop → String Global → String Global → Type 0
ShowsUnder bare ks ws (Ok u) before after =
    (m : Meaning) × (ls : List Layer) × (layered bare ks ws ≡ Ok (m, ls)) × Under ls m (wrapped ls m) × Writes (wrapped ls m) before after
ShowsUnder bare ks ws (Err (Line e)) before after = (layered bare ks ws ≡ Err e) × (after ≡ before)
ShowsUnder bare ks ws (Err Memory) before after = Unit {0}

abbrev pub bare_reader : Set → Reader
bare_reader set.P = bare_p
bare_reader set.Q = bare_q
