-- The named predicates: which matrices they hold of (6.1.15.3; the names are those of ISO 19125-2).
use Rattle.std.specs.Prelude.{ℕ, Bool, true, false, ◌||◌, not, List, codes, length, ◌≡◌, IsTrue, IsFalse}
use Rattle.std.specs.Option.{option_map_or}
use Rattle.sf_plane.specs.declared.dim.Dim.{Dim}
use Rattle.sf_plane.specs.declared.dim.Dim.TheVariants as dims
use Rattle.sf_known.specs.declared.predicate.Predicate.{Predicate}
use Rattle.sf_known.specs.declared.predicate.Predicate.TheVariants.{Equals, Disjoint, Intersects, Touches, Within, Contains, Crosses, Overlaps}
use Rattle.sf_known.specs.Patterns.{has_contact, matches, pattern_of}

-- the name of a predicate
abbrev pub predicate_name : Predicate → List ℕ
predicate_name Equals = codes "equals"
predicate_name Disjoint = codes "disjoint"
predicate_name Intersects = codes "intersects"
predicate_name Touches = codes "touches"
predicate_name Within = codes "within"
predicate_name Contains = codes "contains"
predicate_name Crosses = codes "crosses"
predicate_name Overlaps = codes "overlaps"

-- the entries match the pattern of a text
abbrev pub is_like : List ℕ → List Dim → Bool
is_like text entries = option_map_or (λ letters. matches letters entries) (pattern_of text) false

-- crosses, by the dimensions of the geometries
abbrev pub crosses : Dim → Dim → List Dim → Bool
crosses dims.Zero dims.One m = is_like (codes "T*T******") m
crosses dims.Zero dims.Two m = is_like (codes "T*T******") m
crosses dims.One dims.Two m = is_like (codes "T*T******") m
crosses dims.One dims.One m = is_like (codes "0********") m
crosses dims.One dims.Zero m = is_like (codes "T*****T**") m
crosses dims.Two dims.Zero m = is_like (codes "T*****T**") m
crosses dims.Two dims.One m = is_like (codes "T*****T**") m
crosses a b m = false

-- overlaps, by the dimensions of the geometries
abbrev pub overlaps : Dim → Dim → List Dim → Bool
overlaps dims.Zero dims.Zero m = is_like (codes "T*T***T**") m
overlaps dims.Two dims.Two m = is_like (codes "T*T***T**") m
overlaps dims.One dims.One m = is_like (codes "1*T***T**") m
overlaps a b m = false

-- touches
abbrev pub touches : List Dim → Bool
touches m = is_like (codes "FT*******") m || is_like (codes "F**T*****") m || is_like (codes "F***T****") m

-- the predicate holds of geometries of dimensions a and b whose matrix has the entries m
abbrev pub holds : Predicate → Dim → Dim → List Dim → Bool
holds Equals a b m = is_like (codes "T*F**FFF*") m
holds Disjoint a b m = is_like (codes "FF*FF****") m
holds Intersects a b m = not (is_like (codes "FF*FF****") m)
holds Touches a b m = touches m
holds Within a b m = is_like (codes "T*F**F***") m
holds Contains a b m = is_like (codes "T*****FF*") m
holds Crosses a b m = crosses a b m
holds Overlaps a b m = overlaps a b m

-- it holds only of geometries that share a point: all but disjoint
abbrev pub predicate_asks_contact : Predicate → Bool
predicate_asks_contact Disjoint = false
predicate_asks_contact predicate = true

-- one that does needs a matrix with contact
abbrev pub PredicatesNeedContact : Type 0
PredicatesNeedContact =
    (predicate : Predicate) (a b : Dim) (m : List Dim) → IsTrue (predicate_asks_contact predicate)
    → IsFalse (has_contact m) → length m ≡ 9 → IsFalse (holds predicate a b m)
