-- The edges of a geometry as pairs of grid points: they are on the grid and no more than its points. Where a box has a point of the box of none, it has a point of none.
use Rattle.std.proofs.Common.{◌≡◌, ℕ, ◌≤◌, arith, refl, ap, sym, ◌∙◌, subst, Bool, true, false, not, List, [], ◌∷◌, length, map, filter}
use Rattle.std.specs.Prelude.{if◌then◌else◌}
use Rattle.std.specs.List.{AllByRecursion, flat_map}
use Rattle.std.proofs.lemmas.Bool.{both_ways, or_parts}
use Rattle.std.proofs.lemmas.List.{length-append, length-map}
use Rattle.sf_grid.specs.Plane.{Coordinates, IsOnGrid}
use Rattle.sf_grid.specs.Edge.{Edge as Line}
use Rattle.sf_geometry.specs.declared.extent.Extent.{Extent}
use Rattle.sf_geometry.specs.declared.geometry.Geometry.{Geometry}
use Rattle.sf_geometry.specs.declared.geometry.Geometry.TheVariants.{LineString, MultiLineString, MultiPoint, MultiPolygon, Point as OnePoint, Polygon}
use Rattle.sf_geometry.specs.Envelope.{extents_meet}
use Rattle.sf_geometry.specs.Lists.{edges_of as edges_of_list}
use Rattle.sf_geometry.specs.Parts.{LiesOnGrid, edge_of, edges_of, joined, points_of}
use Rattle.sf_geometry.specs.Size.{IsSized}
use Rattle.sf_interiors.specs.Paths.{IsOffBox}
use Rattle.sf_plane.proofs.BoxLaws.{common_point_meets, edge_in_box}
use Rattle.sf_polygons.proofs.SizeLaws.{few-edges}
use Rattle.sf_validity.specs.Beside.{box_of_extent}
use Rattle.sf_relate.proofs.CommonBoxLaws.{has-ends}
use Rattle.sf_edge_tree.specs.Meeting.{ends_of_edge, extent_of_edge}
use Rattle.sf_edge_tree.proofs.EnvelopeLaws.{OfEnds, ends-of-edges}
use Rattle.sf_prepared.specs.Boxes.{AreEdgesOf, AreOnGrid, is_box_met, pairs_of}
use Rattle.sf_prepared.specs.Places.{AreClear}

-- ---- where none meets the box
pub off-box : (extent : Extent) (pair : Coordinates × Coordinates) → extents_meet (extent_of_edge pair) extent ≡ false → IsOffBox (box_of_extent extent) (edge_of pair)
off-box extent pair apart p i in_it on =
    both_ways (extents_meet (extent_of_edge pair) extent) apart
    (common_point_meets (box_of_extent (extent_of_edge pair)) (box_of_extent extent) p i (edge_in_box (box_of_extent (extent_of_edge pair)) (edge_of pair) p (has-ends pair) i on) in_it)

pub none-met : (extent : Extent) (pairs : List (Coordinates × Coordinates)) → is_box_met extent pairs ≡ false → AreClear extent (map edge_of pairs)
none-met extent [] h = tt
none-met extent (pair ∷ pairs) h =
    let parts = or_parts (extents_meet (extent_of_edge pair) extent) (is_box_met extent pairs) h in
    (off-box extent pair parts.0, none-met extent pairs parts.1)

-- where those whose boxes meet it miss it, all do
pub met-clear : (extent : Extent) (pairs : List (Coordinates × Coordinates)) → AreClear extent (map edge_of (filter (λ pair. extents_meet (extent_of_edge pair) extent) pairs)) → AreClear extent (map edge_of pairs)
met-clear extent [] h = tt
met-clear extent (pair ∷ pairs) h = by_test (extents_meet (extent_of_edge pair) extent) refl h (met-clear extent pairs)
  where
    rest : List (Coordinates × Coordinates)
    rest = filter (λ other. extents_meet (extent_of_edge other) extent) pairs

    by_test : (t : Bool) → extents_meet (extent_of_edge pair) extent ≡ t → AreClear extent (map edge_of (if t then pair ∷ rest else rest)) →
        (AreClear extent (map edge_of rest) → AreClear extent (map edge_of pairs)) → AreClear extent (map edge_of (pair ∷ pairs))
    by_test true e k others = (k.0, others k.1)
    by_test false e k others = (off-box extent pair e, others k)

pub none-said : (met : Bool) → not met ≡ true → met ≡ false
none-said true h = absurd (both_ways false refl h)
none-said false h = refl

-- ---- edges are no more than points
few-lists : (lists : List (List Coordinates)) → length (flat_map edges_of_list lists) ≤ length (joined lists)
few-lists [] = omega arith
few-lists (ps ∷ lists) =
    omega (arith, few-edges ps, few-lists lists, length-append (edges_of_list ps) (flat_map edges_of_list lists), length-append ps (joined lists))

few-of : (geometry : Geometry) → length (edges_of geometry) ≤ length (points_of geometry)
few-of (OnePoint p) = omega arith
few-of (MultiPoint ps) = omega arith
few-of (LineString ps) = few-lists (ps ∷ [])
few-of (MultiLineString lines) = few-lists lines
few-of (Polygon rings) = few-lists rings
few-of (MultiPolygon polygons) = few-lists (joined polygons)

pub few-pairs : (geometry found : Geometry) (pairs : List (Coordinates × Coordinates)) → IsSized geometry → found ≡ geometry → map edge_of pairs ≡ edges_of found → length pairs ≤ 65536
few-pairs geometry found pairs sized is edges =
    bound (length pairs) (length (points_of geometry)) (up (sym (length-map pairs edge_of) ∙ ap (λ (es : List Line). length es) (edges ∙ ap edges_of is)) (few-of geometry)) sized.few
  where
    up : {m n k : ℕ} → m ≡ n → n ≤ k → m ≤ k
    up e h = omega (arith, e, h)

    bound : (m n : ℕ) → m ≤ n → n ≤ 65536 → m ≤ 65536
    bound m n h k = omega (arith, h, k)

-- ---- the edges of a geometry on the grid
pub pairs-on-grid : (g : Geometry) → LiesOnGrid g → AllByRecursion AreOnGrid (pairs_of g)
pairs-on-grid g h = each (edges_of g) (ends-of-edges IsOnGrid g h)
  where
    each : (es : List Line) → AllByRecursion (OfEnds IsOnGrid) es → AllByRecursion AreOnGrid (map ends_of_edge es)
    each [] h = tt
    each (e ∷ es) h = (h.0, each es h.1)

pub pairs-edges : (es : List Line) → map edge_of (map ends_of_edge es) ≡ es
pairs-edges [] = refl
pairs-edges (e ∷ es) = ap (λ fs. e ∷ fs) (pairs-edges es)

pub pairs-are : (geometry : Geometry) (pairs : List (Coordinates × Coordinates)) → AreEdgesOf geometry pairs → pairs ≡ pairs_of geometry
pairs-are geometry pairs are = sym (ends pairs) ∙ ap (map ends_of_edge) are
  where
    ends : (ps : List (Coordinates × Coordinates)) → map ends_of_edge (map edge_of ps) ≡ ps
    ends [] = refl
    ends (p ∷ ps) = ap (λ qs. p ∷ qs) (ends ps)

pub given-on-grid : (geometry : Geometry) (pairs : List (Coordinates × Coordinates)) → LiesOnGrid geometry → AreEdgesOf geometry pairs → AllByRecursion AreOnGrid pairs
given-on-grid geometry pairs grid are = subst (AllByRecursion AreOnGrid) (sym (pairs-are geometry pairs are)) (pairs-on-grid geometry grid)
