use Rattle.std.proofs.Common.{◌≤◌, length, vec_capacity, vec_len}
use Rattle.sf_layers.proofs.ColumnMoves.{IsPutting}
use Rattle.sf_layers.proofs.column_moves.put_all.Given as goal

-- there is room for what was there, and what is no more there stands in its feature
abbrev pub invariant-loop-value : goal.invariant-loop-value
invariant-loop-value l =
    (length l.ids ≤ vec_capacity l.values) × (vec_capacity l.initial.values ≤ vec_capacity l.values) × (vec_len l.values ≤ length l.ids)
    × IsPutting l.number l.ids l.initial.features.entries l.initial.values.items l.features.entries (vec_len l.values) l.values.items

abbrev pub decreases-loop-value : goal.decreases-loop-value
decreases-loop-value l = vec_len l.values
