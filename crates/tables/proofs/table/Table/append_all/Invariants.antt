use Rattle.std.proofs.Common.{◌≡◌, ◌++◌, take, vec_capacity}
use Rattle.std.specs.Vec.{vec_ptr}
use Rattle.tables.proofs.table.Table.append_all.Given as goal

-- the copies so far stand behind the first entries, and the rest of the table stays
abbrev pub invariant-loop-x : goal.invariant-loop-x
invariant-loop-x g l =
    (l.self-inside.items.items ≡ l.initial.self-inside.items.items ++ take l.x-index l.xs)
    × (vec_capacity l.self-inside.items ≡ vec_capacity l.initial.self-inside.items)
    × (vec_ptr l.self-inside.items ≡ vec_ptr l.initial.self-inside.items)
    × (l.self-inside.id ≡ l.initial.self-inside.id)
