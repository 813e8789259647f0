use Rattle.std.proofs.Common.{◌≡◌, ℕ, ◌-◌, ◌<◌, ◌≤◌, ◌∷◌, get_or}
use Rattle.ranges.proofs.ranges.reverse_ends.Given as goal

-- the first entries hold what they should, the rest what they held, and `start` is the endpoint before
abbrev pub invariant-loop-e : goal.invariant-loop-e
invariant-loop-e l =
    (l.start ≡ get_or (0 ∷ l.initial.ends) l.e-index 0)
    × ((k : ℕ) → k < l.e-index → get_or l.ends k 0 ≡ l.target_len - get_or (0 ∷ l.initial.ends) k 0)
    × ((k : ℕ) → l.e-index ≤ k → get_or l.ends k 0 ≡ get_or l.initial.ends k 0)
