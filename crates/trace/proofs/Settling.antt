-- What is read with nothing left.
use Rattle.std.proofs.Common.{◌≡◌, ℕ, List, Ok, ap}
use Rattle.trace.specs.Shows.{value}
use Rattle.trace.specs.Steps.{Step, with_read}
use Rattle.trace.specs.Readers.{Read}

-- goes on with what was read
pub read_as : {A : Type 0} (r : Read A) (a : A) (ws : List (List ℕ)) (f : A → Step) → r ≡ Ok (a, ws) → with_read (value r) f ≡ f a
read_as r a ws f e = ap (λ (s : Read _). with_read (value s) f) e
