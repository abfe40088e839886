use Rattle.std.proofs.Common.{◌≡◌, ◌≤◌, ◌+◌, ◌*◌, ◌++◌, codes, decimal, flat_map, length, take, vec_capacity}
use Rattle.sf_console.proofs.grouping.push_identifiers.Given as goal

-- the identifiers so far stand there, and the room is as it was
abbrev pub invariant-loop-id : goal.invariant-loop-id
invariant-loop-id l =
    (l.text.items ≡ l.initial.text.items ++ flat_map (λ id. codes " " ++ decimal id) (take l.id-index l.ids))
    × (length l.text.items ≤ length l.initial.text.items + 11 * l.id-index) × (vec_capacity l.initial.text ≤ vec_capacity l.text)
