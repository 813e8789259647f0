-- The ends once the list that they span is reversed.
use Rattle.std.proofs.Common.{◌≡◌, ℕ, zero, suc, ◌+◌, ◌-◌, ◌<◌, ◌≤◌, List, map, reverse, length, get_or, arith}
use Rattle.std.proofs.lemmas.Grind.{common_steps}
use Rattle.std.proofs.lemmas.List.{get_or-reverse, get_or-map, length-map, get_or-drop}
use Rattle.ranges.specs.Order.{Rising}
use Rattle.ranges.specs.Spans.{Spans, count, endpoints, last_end, storage_index, range_of, reversed_ends, target_reversed}

pub reversed_length : (t : ℕ) (es : List ℕ) → length (reversed_ends t es) ≡ length es
reversed_length t es = grind (arith, common_steps)

pub reversed_at : (t : ℕ) (es : List ℕ) (k : ℕ) → k < length es → get_or (reversed_ends t es) k 0 ≡ t - get_or (endpoints es) (length es - 1 - k) 0
reversed_at t es k h =
    let f : ℕ → ℕ = λ e. t - e in
    let ms = map f (endpoints es) in
    grind (arith, length-map (endpoints es) f, get_or-drop 1 (reverse ms) k 0, get_or-reverse ms (1 + k) 0, get_or-map f (endpoints es) (length es - 1 - k) 0 0)

-- the endpoints of ends that rise do so too
points_rise : (es : List ℕ) → Rising es → (i j : ℕ) → i ≤ j → j ≤ length es → get_or (endpoints es) i 0 ≤ get_or (endpoints es) j 0
points_rise es up i j le lt = grind (arith, common_steps, up)

pub reversed_rises : (t : ℕ) (es : List ℕ) → Rising es → Rising (reversed_ends t es)
reversed_rises t es up i j le lt = grind (arith, common_steps, reversed_length t es, reversed_at t es, points_rise es up)

-- an endpoint after the reversal of the t entries that the ranges span
reversed_point : (t : ℕ) (es : List ℕ) (j : ℕ) → t ≡ get_or (endpoints es) (length es) 0 → j ≤ length es → get_or (endpoints (reversed_ends t es)) j 0 ≡ t - get_or (endpoints es) (length es - j) 0
reversed_point t es zero last le = grind (arith, last)
reversed_point t es (suc j) last le = grind (arith, reversed_at t es j)

-- each range after that reversal
pub target_range : (s : Spans) (t k : ℕ) → t ≡ last_end s → k < count s → range_of (target_reversed s t) k ≡ (t - (range_of s k).1, t - (range_of s k).0)
target_range s t k last h =
    let j = storage_index (target_reversed s t) k in
    grind (arith, reversed_length t s.ends, reversed_point t s.ends j last, reversed_at t s.ends j)
