-- The ends of each edge of a geometry differ.
use Rattle.std.proofs.Common.{◌≡◌, ◌≢◌, ℕ, zero, suc, ◌<◌, arith, refl, sym, subst, Bool, true, false, List, [], ◌∷◌, ◌++◌, map, length, get_or}
use Rattle.std.specs.Prelude.{if◌then◌else◌}
use Rattle.std.specs.List.{AllByRecursion, filter, flat_map}
use Rattle.std.proofs.lemmas.Bool.{and_from, both_ways}
use Rattle.sf_grid.specs.Plane.{Coordinates}
use Rattle.sf_grid.specs.Edge.{Edge as Line}
use Rattle.sf_grid.proofs.CallerLemmas.{test_from_eq}
use Rattle.sf_geometry.specs.declared.extent.Extent.{Extent}
use Rattle.sf_geometry.specs.declared.geometry.Geometry.{Geometry}
use Rattle.sf_geometry.specs.declared.geometry.Geometry.TheVariants.{Point, LineString, Polygon, MultiPoint, MultiLineString, MultiPolygon}
use Rattle.sf_geometry.specs.Envelope.{extents_meet}
use Rattle.sf_geometry.specs.Lists.{before_tight, edges_between, edges_from, edges_of as edges_of_list, is_same, tight}
use Rattle.sf_geometry.specs.Parts.{edges_of, joined}
use Rattle.sf_edge_tree.specs.Boxes.{edge_at, extent_of_edge}
use Rattle.sf_edge_tree.proofs.SearchLaws.{edge-read}
use Rattle.sf_edge_tree.specs.Meeting.{ends_meeting, ends_of_edge}

-- ---- neighbours of a tight list differ
-- no point of the list is the one after it
abbrev DifferFrom : Coordinates → List Coordinates → Type 0
DifferFrom p [] = Unit {0}
DifferFrom p (q ∷ qs) = (is_same p q ≡ false) × DifferFrom q qs

abbrev Differ : List Coordinates → Type 0
Differ [] = Unit {0}
Differ (p ∷ ps) = DifferFrom p ps

before-differ : (p : Coordinates) (qs : List Coordinates) → Differ qs → Differ (before_tight p qs)
before-differ p [] h = tt
before-differ p (q ∷ qs) h = by_same (is_same p q) refl
  where
    by_same : (t : Bool) → is_same p q ≡ t → Differ (if t then q ∷ qs else p ∷ q ∷ qs)
    by_same true e = h
    by_same false e = (e, h)

tight-differ : (ps : List Coordinates) → Differ (tight ps)
tight-differ [] = tt
tight-differ (p ∷ ps) = before-differ p (tight ps) (tight-differ ps)

differ-is : (p q : Coordinates) → is_same p q ≡ false → p ≢ q
differ-is p q h e =
    both_ways (is_same p q) h (subst (λ (r : Coordinates). is_same p r ≡ true) e (and_from _ _ (test_from_eq p.x p.x refl) (test_from_eq p.y p.y refl)))

-- ---- so do the ends of edges
abbrev HaveLength : List Line → Type 0
HaveLength es = AllByRecursion (λ (e : Line). e.a ≢ e.b) es

lengths-from : (p : Coordinates) (ps : List Coordinates) → DifferFrom p ps → HaveLength (edges_from p ps)
lengths-from p [] h = tt
lengths-from p (q ∷ qs) h = (differ-is p q h.0, lengths-from q qs h.1)

lengths-between : (ps : List Coordinates) → Differ ps → HaveLength (edges_between ps)
lengths-between [] h = tt
lengths-between (p ∷ ps) h = lengths-from p ps h

both-lengths : (es fs : List Line) → HaveLength es → HaveLength fs → HaveLength (es ++ fs)
both-lengths [] fs h k = k
both-lengths (e ∷ es) fs h k = (h.0, both-lengths es fs h.1 k)

lengths-of-lists : (lists : List (List Coordinates)) → HaveLength (flat_map edges_of_list lists)
lengths-of-lists [] = tt
lengths-of-lists (ps ∷ lists) = both-lengths (edges_of_list ps) (flat_map edges_of_list lists) (lengths-between (tight ps) (tight-differ ps)) (lengths-of-lists lists)

lengths : (geometry : Geometry) → HaveLength (edges_of geometry)
lengths (Point p) = tt
lengths (LineString ps) = lengths-of-lists (ps ∷ [])
lengths (Polygon rings) = lengths-of-lists rings
lengths (MultiPoint ps) = tt
lengths (MultiLineString lines) = lengths-of-lists lines
lengths (MultiPolygon polygons) = lengths-of-lists (joined polygons)

-- ---- and the points of pairs that edges are
abbrev pub AreLong : List (Coordinates × Coordinates) → Type 0
AreLong pairs = AllByRecursion (λ pair. pair.0 ≢ pair.1) pairs

long-ends : (es : List Line) → HaveLength es → AreLong (map ends_of_edge es)
long-ends [] h = tt
long-ends (e ∷ es) h = (h.0, long-ends es h.1)

long-kept : (keep : Coordinates × Coordinates → Bool) (pairs : List (Coordinates × Coordinates)) → AreLong pairs → AreLong (filter keep pairs)
long-kept keep [] h = tt
long-kept keep (pair ∷ pairs) h = by_test (keep pair) (long-kept keep pairs h.1)
  where
    by_test : (t : Bool) → AreLong (filter keep pairs) → AreLong (if t then pair ∷ filter keep pairs else filter keep pairs)
    by_test true k = (h.0, k)
    by_test false k = k

pub long-meeting : (box : Extent) (geometry : Geometry) → AreLong (ends_meeting box (edges_of geometry))
long-meeting box geometry = long-kept (λ pair. extents_meet (extent_of_edge pair) box) (map ends_of_edge (edges_of geometry)) (long-ends (edges_of geometry) (lengths geometry))

-- so do those of each that is read
long-at : (pairs : List (Coordinates × Coordinates)) (i : ℕ) → AreLong pairs → i < length pairs → (edge_at pairs i).0 ≢ (edge_at pairs i).1
long-at [] i h l = absurd (omega (arith, l))
long-at (pair ∷ pairs) zero h l = h.0
long-at (pair ∷ pairs) (suc i) h l = long-at pairs i h.1 (omega (arith, l))

pub long-read : (pairs : List (Coordinates × Coordinates)) (i : ℕ) (pair : Coordinates × Coordinates) → AreLong pairs → i < length pairs → pair ≡ get_or pairs i pair → pair.0 ≢ pair.1
long-read pairs i pair h l is = subst (λ (p : Coordinates × Coordinates). p.0 ≢ p.1) (sym (edge-read pairs i pair l is)) (long-at pairs i h l)
