-- The rules of a list of ranges.
use Rattle.std.specs.Prelude.{ℕ, ◌-◌, Bool, false, cond, not, List, [], ◌∷◌, ◌++◌, map, reverse, length, drop, Some, None, Option, ◌==◌, nat_lt, slice_index}
use Rattle.faults.specs.declared.fault.Fault.{Fault}
use Rattle.faults.specs.declared.fault.Fault.TheVariants.{Full, Mismatch}
use Rattle.faults.specs.declared.table_id.TableId.{TableId}
use denote.RawPtr.{Ptr}

-- What a list of ranges is: the end of each range in storage, whether the ranges are numbered from the last, how many there is room for, and which table it is.
pub record Spans : Type 0 where
  pub ends : List ℕ
  pub reversed : Bool
  pub most : ℕ
  pub id : TableId

-- Ranges, and where in memory their ends stand.
pub record Placed : Type 0 where
  pub spans : Spans
  pub block : Ptr

-- No ranges, numbered from the first.
abbrev pub no_spans : TableId → ℕ → Spans
no_spans t n = record { ends = []; reversed = false; most = n; id = t }

-- How many ranges there are.
abbrev pub count : Spans → ℕ
count s = length s.ends

-- The endpoints: 0, and then each end.
abbrev pub endpoints : List ℕ → List ℕ
endpoints es = 0 ∷ es

-- The end of the last range in storage, or 0.
abbrev pub last_end : Spans → ℕ
last_end s = slice_index (endpoints s.ends) (count s)

-- Where range k lies in storage.
abbrev pub storage_index : Spans → ℕ → ℕ
storage_index s k = cond s.reversed (count s - 1 - k) k

-- Range k: its start and its end.
abbrev pub range_of : Spans → ℕ → ℕ × ℕ
range_of s k = (slice_index (endpoints s.ends) (storage_index s k), slice_index s.ends (storage_index s k))

-- Why a range that ends at e cannot be added, if it cannot.
abbrev pub end_fault : Spans → ℕ → Option Fault
end_fault s e =
    cond s.reversed (Some (Mismatch e)) (cond (nat_lt e (last_end s)) (Some (Mismatch e)) (cond (nat_lt (count s) s.most) None (Some (Full s.id))))

-- With a range from the last end to e.
abbrev pub with_end : Spans → ℕ → Spans
with_end s e = record s { ends = s.ends ++ e ∷ [] }

-- With the numbering reversed.
abbrev pub index_reversed : Spans → Spans
index_reversed s = record s { reversed = not s.reversed }

-- Why the ranges do not follow the reversal of t entries, if they do not.
abbrev pub target_fault : Spans → ℕ → Option Fault
target_fault s t = cond (t == last_end s) None (Some (Mismatch t))

-- The ends once each endpoint e is t - e and the endpoints are reversed.
abbrev pub reversed_ends : ℕ → List ℕ → List ℕ
reversed_ends t es = drop 1 (reverse (map (λ e. t - e) (endpoints es)))

-- After the reversal of the t entries that the ranges span.
abbrev pub target_reversed : Spans → ℕ → Spans
target_reversed s t = record (index_reversed s) { ends = reversed_ends t s.ends }
