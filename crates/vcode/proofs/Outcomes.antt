-- The outcome of a call, and the fault of a full table.
use Rattle.std.proofs.Common.{◌≡◌, ℕ, ◌<◌, Bool, Some, None, Ok, Err, Option, Result, sym, ap, subst, arith}
use Rattle.faults.specs.declared.fault.Fault.{Fault}
use Rattle.faults.specs.declared.fault.Fault.TheVariants.{Full}
use Rattle.faults.specs.declared.table_id.TableId.{TableId}
use Rattle.std.proofs.lemmas.Bool.{le-ltb, lt-ltb}
use Rattle.vcode.specs.Book.{full}
use Rattle.faults.specs.Outcomes.{Outcome, or_else, unless}

pub has_room : (used limit : ℕ) (u : TableId) → used < limit → full used limit u ≡ None
has_room used limit u h = ap (λ (b : Bool). unless b (Full u)) (lt-ltb used limit h)

pub is_full : (used limit : ℕ) (u : TableId) → used ≡ limit → full used limit u ≡ Some (Full u)
is_full used limit u h = ap (λ (b : Bool). unless b (Full u)) (le-ltb used limit (omega (arith, h)))

-- an answer that says less, or what is handed on
pub outcome_map : {X : Type 0} (o : Option Fault) (r : Result X Fault) (P Q : X → Type 0) → ((x : X) → P x → Q x) → Outcome o r P → Outcome o r Q
outcome_map o (Ok x) P Q m h = (h.0, m x h.1)
outcome_map o (Err f) P Q m h = h

-- the fault that is judged next
pub outcome_next : {X : Type 0} (o p : Option Fault) (r : Result X Fault) (P : X → Type 0) → o ≡ None → Outcome p r P → Outcome (or_else o p) r P
outcome_next o p r P e h = subst (λ (x : Option Fault). Outcome (or_else x p) r P) (sym e) h
