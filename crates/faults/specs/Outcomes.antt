-- What the answer of a call says of its refusal.
use Rattle.std.specs.Prelude.{◌≡◌, Bool, cond, Some, None, Ok, Err, Option, Result}
use Rattle.faults.specs.declared.fault.Fault.{Fault}

-- a call that this fault refuses was refused with it; an accepted one left what P says
abbrev pub Outcome : {X : Type 0} → Option Fault → Result X Fault → (X → Type 0) → Type 0
Outcome o (Ok x) P = (o ≡ None) × P x
Outcome o (Err f) P = o ≡ Some f

-- the same of a check, which leaves nothing
abbrev pub Refuses : Option Fault → Result (Unit {0}) Fault → Type 0
Refuses o r = Outcome o r (λ _. Unit {0})

-- a fault unless the test holds
abbrev pub unless : Bool → Fault → Option Fault
unless b f = cond b None (Some f)

-- the first of two faults
abbrev pub or_else : Option Fault → Option Fault → Option Fault
or_else None o = o
or_else (Some f) o = Some f
