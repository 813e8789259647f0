-- A call of a range table by its name.
use Rattle.std.proofs.Common.{◌≡◌, ℕ, List, Ok, Err, Result, length, ap, ◌∙◌}
use Rattle.std.proofs.lemmas.Slice.Eq.{HasBytesAt, text_from_reads}
use Rattle.trace.specs.Alone.{call_named}
use Rattle.trace.specs.Readers.{Gives, left}
use Rattle.trace.specs.declared.alone.RangesCall.{RangesCall}
use Rattle.trace.specs.declared.reason.Reason.{Reason}
use Rattle.trace.specs.declared.words.Words.{Words}

-- a name with these bytes is read as the text of them is
pub by_name : (name text : List ℕ) (before : Words) (r : Result RangesCall Reason) (after : Words) → length name ≡ length text → HasBytesAt name 0 text → Gives (call_named text) before r after → Gives (call_named name) before r after
by_name name text before (Ok call) after n h gives =
    ap (λ (s : List ℕ). call_named s (left before)) (text_from_reads name text n h) ∙ gives
by_name name text before (Err e) after n h gives =
    ap (λ (s : List ℕ). call_named s (left before)) (text_from_reads name text n h) ∙ gives
