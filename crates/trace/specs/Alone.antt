-- A range table that is used alone: what each call answers, and what it leaves.
use Rattle.std.specs.Prelude.{ℕ, cond, List, ◌++◌, Some, None, Ok, Err, codes, decimal, Option, Result, nat_lt}
use Rattle.faults.specs.Faults.{fault_text}
use Rattle.faults.specs.declared.fault.Fault.{Fault}
use Rattle.faults.specs.declared.fault.Fault.TheVariants.{OutOfRange}
use Rattle.ranges.specs.Spans.{Spans, count, end_fault, index_reversed, range_of, target_fault, target_reversed, with_end}
use Rattle.trace.specs.declared.alone.RangesCall.{RangesCall}
use Rattle.trace.specs.declared.alone.RangesCall.TheVariants.{PushEnd, Get, ReverseIndex, ReverseTarget, Len}
use Rattle.std.specs.Str.{bytes_eq}
use Rattle.trace.specs.Readers.{Read, reads_end, reads_number, reads_word, then}
use Rattle.trace.specs.declared.reason.Reason.TheVariants.{NotHere}
use Rattle.trace.specs.Shown.{newline}

abbrev pub reads_push_end : List (List ℕ) → Read RangesCall
reads_push_end ws = then (reads_number 32 ws) (λ e ws. Ok (PushEnd e, ws))

abbrev pub reads_get : List (List ℕ) → Read RangesCall
reads_get ws = then (reads_number 64 ws) (λ i ws. Ok (Get i, ws))

abbrev pub reads_reverse_target : List (List ℕ) → Read RangesCall
reads_reverse_target ws = then (reads_number 32 ws) (λ t ws. Ok (ReverseTarget t, ws))

-- a call, from its name and what follows
abbrev pub call_named : List ℕ → List (List ℕ) → Read RangesCall
call_named name ws =
    cond (bytes_eq name (codes "push_end")) (reads_push_end ws)
    (cond (bytes_eq name (codes "get")) (reads_get ws)
    (cond (bytes_eq name (codes "reverse_target")) (reads_reverse_target ws)
    (cond (bytes_eq name (codes "reverse_index")) (Ok (ReverseIndex, ws))
    (cond (bytes_eq name (codes "len")) (Ok (Len, ws)) (Err NotHere)))))

abbrev pub reads_call : List (List ℕ) → Read RangesCall
reads_call ws =
    then (reads_word ws) (λ name ws. then (call_named name ws) (λ call ws. then (reads_end ws) (λ u ws. Ok (call, ws))))

abbrev pub ok_text : List ℕ
ok_text = codes "ok" ++ newline

abbrev pub refused_text : Fault → List ℕ
refused_text f = codes "refused " ++ (fault_text f ++ newline)

abbrev pub done_text : Result (Unit {0}) Fault → List ℕ
done_text (Ok u) = ok_text
done_text (Err f) = refused_text f

abbrev pub range_text : Result (ℕ × ℕ) Fault → List ℕ
range_text (Ok p) = codes "range " ++ (decimal p.0 ++ (codes " " ++ (decimal p.1 ++ newline)))
range_text (Err f) = refused_text f

abbrev pub len_text : ℕ → List ℕ
len_text n = codes "len " ++ (decimal n ++ newline)

-- accepted, unless there is a fault
abbrev pub unless : Option Fault → Result (Unit {0}) Fault
unless None = Ok tt
unless (Some f) = Err f

-- the ranges that follow, unless there is a fault
abbrev pub unless_kept : Option Fault → Spans → Spans → Spans
unless_kept None next now = next
unless_kept (Some f) next now = now

abbrev pub call_text : Spans → RangesCall → List ℕ
call_text s (PushEnd e) = done_text (unless (end_fault s e))
call_text s (Get i) = range_text (cond (nat_lt i (count s)) (Ok (range_of s i)) (Err (OutOfRange i)))
call_text s ReverseIndex = ok_text
call_text s (ReverseTarget t) = done_text (unless (target_fault s t))
call_text s Len = len_text (count s)

abbrev pub after_call : Spans → RangesCall → Spans
after_call s (PushEnd e) = unless_kept (end_fault s e) (with_end s e) s
after_call s (Get i) = s
after_call s ReverseIndex = index_reversed s
after_call s (ReverseTarget t) = unless_kept (target_fault s t) (target_reversed s t) s
after_call s Len = s
