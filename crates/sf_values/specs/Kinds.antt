-- The kinds of layers, types of columns and predicates that words spell.
use Rattle.std.specs.Prelude.{ℕ, List, [], ◌∷◌, Option, bytes_eq, codes}
use Rattle.std.specs.Map.{lookup}
use Rattle.sf_geometry.specs.declared.kind.Kind.TheVariants as kinds
use Rattle.sf_known.specs.declared.predicate.Predicate.{Predicate}
use Rattle.sf_known.specs.declared.predicate.Predicate.TheVariants as predicates
use Rattle.sf_layers.specs.declared.layer_kind.LayerKind.{LayerKind}
use Rattle.sf_layers.specs.declared.layer_kind.LayerKind.TheVariants.{Any, Only}
use Rattle.sf_features.specs.declared.column_type.ColumnType.{ColumnType}
use Rattle.sf_features.specs.declared.column_type.ColumnType.TheVariants as types

-- the kind of a layer that a word spells
abbrev pub layer_kind_of : List ℕ → Option LayerKind
layer_kind_of word = lookup (bytes_eq word) ((codes "any", Any) ∷ (codes "point", Only kinds.Point) ∷ (codes "linestring", Only kinds.LineString)
    ∷ (codes "polygon", Only kinds.Polygon) ∷ (codes "multipoint", Only kinds.MultiPoint)
    ∷ (codes "multilinestring", Only kinds.MultiLineString) ∷ (codes "multipolygon", Only kinds.MultiPolygon) ∷ [])

-- the type of a column that a word spells
abbrev pub column_type_of : List ℕ → Option ColumnType
column_type_of word = lookup (bytes_eq word) ((codes "int", types.Int) ∷ (codes "text", types.Text) ∷ (codes "decimal", types.Decimal)
    ∷ (codes "bool", types.Bool) ∷ (codes "date", types.Date) ∷ (codes "datetime", types.DateTime) ∷ [])

-- the predicate that a word spells
abbrev pub predicate_of : List ℕ → Option Predicate
predicate_of word = lookup (bytes_eq word) ((codes "equals", predicates.Equals) ∷ (codes "disjoint", predicates.Disjoint)
    ∷ (codes "touches", predicates.Touches) ∷ (codes "crosses", predicates.Crosses) ∷ (codes "within", predicates.Within)
    ∷ (codes "contains", predicates.Contains) ∷ (codes "overlaps", predicates.Overlaps) ∷ (codes "intersects", predicates.Intersects) ∷ [])
