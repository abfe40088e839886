use Rattle.std.proofs.Common.{◌≤◌, ◌-◌, List, length, vec_capacity, vec_len}
use Rattle.sf_features.specs.declared.attr_value.AttrValue.{AttrValue as Attr}
use Rattle.sf_layers.specs.Moves.{Features, IsTaking}
use Rattle.sf_layers.proofs.column_moves.take_from.Given as goal

-- there is room, and whatever features and values are to come to, they still are
abbrev pub invariant-loop-values : goal.invariant-loop-values
invariant-loop-values l =
    (length l.ids ≤ vec_capacity l.values) × (vec_capacity l.initial.values ≤ vec_capacity l.values)
    × ((after : Features) → (all : List Attr) → IsTaking l.number l.ids after all l.initial.features.entries (vec_len l.initial.values) l.initial.values.items
    → IsTaking l.number l.ids after all l.features.entries (vec_len l.values) l.values.items)

abbrev pub decreases-loop-values : goal.decreases-loop-values
decreases-loop-values l = length l.ids - vec_len l.values
