-- The head of a script.
use Rattle.std.specs.Prelude.{◌≡◌, ℕ, cond, List, [], ◌∷◌, Some, None, Ok, Err, vec_items, codes, Option, Result, Vec, nat_lt}
use Rattle.faults.specs.declared.fault.Fault.{Fault}
use Rattle.faults.specs.declared.fault.Fault.TheVariants.{Full}
use Rattle.faults.specs.declared.lengths.Lengths.{Lengths}
use Rattle.faults.specs.declared.table_id.TableId.TheVariants.{Registers}
use Rattle.trace.specs.declared.head.Set.{Set}
use Rattle.trace.specs.declared.head.Set.TheVariants as set
use Rattle.trace.specs.declared.head.Wrapper.{Wrapper}
use Rattle.trace.specs.declared.head.Wrapper.TheVariants.{Charged, Fenced}
use Rattle.trace.specs.declared.head.Wrapping.{Wrapping}
use Rattle.trace.specs.declared.head.Wrapping.TheVariants as to
use Rattle.trace.specs.declared.stop.Stop.{Stop}
use Rattle.trace.specs.declared.stop.Stop.TheVariants.{Line, Memory}
use Rattle.std.specs.declared.alloc.Global.{Global}
use Rattle.std.specs.Str.{bytes_eq}
use Rattle.trace.specs.Readers.{Read, reads_end, reads_number, reads_word, then, with_rest}
use Rattle.trace.specs.declared.reason.Reason.{Reason}
use Rattle.trace.specs.declared.reason.Reason.TheVariants.{UnknownWord}

abbrev pub set_named : List ℕ → Result Set Reason
set_named name = cond (bytes_eq name (codes "P")) (Ok set.P) (cond (bytes_eq name (codes "Q")) (Ok set.Q) (Err UnknownWord))

abbrev pub reads_set : List (List ℕ) → Read Set
reads_set ws =
    then (reads_word ws) (λ name ws. then (with_rest ws (set_named name)) (λ s ws. then (reads_end ws) (λ u ws. Ok (s, ws))))

abbrev pub wrapper_named : List ℕ → Result Wrapper Reason
wrapper_named name =
    cond (bytes_eq name (codes "charged")) (Ok Charged) (cond (bytes_eq name (codes "fenced")) (Ok Fenced) (Err UnknownWord))

-- one more in front of a list
abbrev pub in_front : Result Wrapper Reason → Result (List Wrapper) Reason → Result (List Wrapper) Reason
in_front (Ok x) (Ok xs) = Ok (x ∷ xs)
in_front (Ok x) (Err e) = Err e
in_front (Err e) xs = Err e

-- the wrappers that some words name, the innermost first
abbrev pub wrappers_of : List (List ℕ) → Result (List Wrapper) Reason
wrappers_of [] = Ok []
wrappers_of (w ∷ ws) = in_front (wrapper_named w) (wrappers_of ws)

-- a list that was read, or why it was not; nothing is said where memory ran out
abbrev pub Lists : Result (List Wrapper) Reason → Result (Vec Wrapper Global) Stop → Type 0
Lists xs (Ok v) = xs ≡ Ok (vec_items v)
Lists xs (Err (Line e)) = xs ≡ Err e
Lists xs (Err Memory) = Unit {0}

-- the wrappers of each wrapping, the innermost first
abbrev pub wrapping_list : Wrapping → List Wrapper
wrapping_list to.Bare = []
wrapping_list to.Charged = Charged ∷ []
wrapping_list to.Fenced = Fenced ∷ []
wrapping_list to.ChargedTwice = Charged ∷ Charged ∷ []
wrapping_list to.ChargedFenced = Charged ∷ Fenced ∷ []
wrapping_list to.FencedCharged = Fenced ∷ Charged ∷ []
wrapping_list to.FencedTwice = Fenced ∷ Fenced ∷ []
wrapping_list to.ChargedSix = Charged ∷ Charged ∷ Charged ∷ Charged ∷ Charged ∷ Charged ∷ []
wrapping_list to.ChargedSeven = Charged ∷ Charged ∷ Charged ∷ Charged ∷ Charged ∷ Charged ∷ Charged ∷ []
wrapping_list to.ChargedEight = Charged ∷ Charged ∷ Charged ∷ Charged ∷ Charged ∷ Charged ∷ Charged ∷ Charged ∷ []

-- the wrapping of three times Charged and then these
abbrev pub charged_thrice : List Wrapper → Option Wrapping
charged_thrice [] = None
charged_thrice (Fenced ∷ xs) = None
charged_thrice (Charged ∷ []) = None
charged_thrice (Charged ∷ Fenced ∷ xs) = None
charged_thrice (Charged ∷ Charged ∷ []) = None
charged_thrice (Charged ∷ Charged ∷ Fenced ∷ xs) = None
charged_thrice (Charged ∷ Charged ∷ Charged ∷ []) = Some to.ChargedSix
charged_thrice (Charged ∷ Charged ∷ Charged ∷ Fenced ∷ xs) = None
charged_thrice (Charged ∷ Charged ∷ Charged ∷ Charged ∷ []) = Some to.ChargedSeven
charged_thrice (Charged ∷ Charged ∷ Charged ∷ Charged ∷ Fenced ∷ xs) = None
charged_thrice (Charged ∷ Charged ∷ Charged ∷ Charged ∷ Charged ∷ []) = Some to.ChargedEight
charged_thrice (Charged ∷ Charged ∷ Charged ∷ Charged ∷ Charged ∷ x ∷ xs) = None

-- the wrapping that a list is, where it can be run
abbrev pub wrapping_of : List Wrapper → Option Wrapping
wrapping_of [] = Some to.Bare
wrapping_of (Charged ∷ []) = Some to.Charged
wrapping_of (Fenced ∷ []) = Some to.Fenced
wrapping_of (Charged ∷ Charged ∷ []) = Some to.ChargedTwice
wrapping_of (Charged ∷ Fenced ∷ []) = Some to.ChargedFenced
wrapping_of (Fenced ∷ Charged ∷ []) = Some to.FencedCharged
wrapping_of (Fenced ∷ Fenced ∷ []) = Some to.FencedTwice
wrapping_of (Charged ∷ Charged ∷ Charged ∷ xs) = charged_thrice xs
wrapping_of (Charged ∷ Charged ∷ Fenced ∷ xs) = None
wrapping_of (Charged ∷ Fenced ∷ x ∷ xs) = None
wrapping_of (Fenced ∷ Charged ∷ x ∷ xs) = None
wrapping_of (Fenced ∷ Fenced ∷ x ∷ xs) = None

-- the lengths of tables 0 to 9
abbrev pub reads_lengths : List (List ℕ) → Read Lengths
reads_lengths ws =
    then (reads_number 64 ws) (λ registers ws.
    then (reads_number 64 ws) (λ insts ws.
    then (reads_number 64 ws) (λ blocks ws.
    then (reads_number 64 ws) (λ succs ws.
    then (reads_number 64 ws) (λ branch_args ws.
    then (reads_number 64 ws) (λ block_params ws.
    then (reads_number 64 ws) (λ labels ws.
    then (reads_number 64 ws) (λ operands ws.
    then (reads_number 64 ws) (λ preds ws.
    then (reads_number 64 ws) (λ built_labels ws.
    then (reads_end ws) (λ u ws.
    Ok (
      record {
        registers = registers;
        insts = insts;
        blocks = blocks;
        succs = succs;
        branch_args = branch_args;
        block_params = block_params;
        labels = labels;
        operands = operands;
        preds = preds;
        built_labels = built_labels;
      },
      ws,
    ))))))))))))

-- a register table under 192 is refused
abbrev pub new_fault : Lengths → Option Fault
new_fault l = cond (nat_lt l.registers 192) (Some (Full Registers)) None
