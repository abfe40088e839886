-- The envelope of a geometry has the box of each of its edges.
use Rattle.std.proofs.Common.{◌≡◌, sym, subst, arith, ℤ, ◌≤ℤ◌, Bool, true, false, List, [], ◌∷◌, ◌++◌, map, fold}
use Rattle.std.specs.Prelude.{IsTrue, if◌then◌else◌, int_le}
use Rattle.std.specs.Int.{int_max, int_min}
use Rattle.std.specs.List.{AllByRecursion, flat_map}
use Rattle.std.proofs.lemmas.Bool.{and_from}
use Rattle.std.proofs.lemmas.Int.{clamps, ints}
use Rattle.sf_grid.specs.Plane.{Coordinates}
use Rattle.sf_grid.specs.Edge.{Edge as Line, edge_between}
use Rattle.sf_grid.proofs.CallerLemmas.{test_from_le}
use Rattle.sf_geometry.specs.declared.extent.Extent.{Extent}
use Rattle.sf_geometry.specs.declared.geometry.Geometry.{Geometry}
use Rattle.sf_geometry.specs.declared.geometry.Geometry.TheVariants.{Point, LineString, Polygon, MultiPoint, MultiLineString, MultiPolygon}
use Rattle.sf_geometry.specs.Envelope.{envelope_of, greatest, least}
use Rattle.sf_geometry.specs.Lists.{edges_of as edges_of_list, is_same}
use Rattle.sf_geometry.specs.Parts.{edges_of, joined, points_of}
use Rattle.sf_geometry.proofs.ListLaws.{edges-step}
use Rattle.sf_edge_tree.specs.Boxes.{covers, extent_of_edge}
use Rattle.sf_edge_tree.specs.Meeting.{ends_of_edge}

-- ---- what holds of all points of a geometry holds of the ends of its edges
abbrev pub OfEnds : (Coordinates → Type 0) → Line → Type 0
OfEnds P e = P e.a × P e.b

each-parts : {X : Type 0} (P : X → Type 0) (xs ys : List X) → AllByRecursion P (xs ++ ys) → AllByRecursion P xs × AllByRecursion P ys
each-parts P [] ys h = (tt, h)
each-parts P (x ∷ xs) ys h = let parts = each-parts P xs ys h.1 in ((h.0, parts.0), parts.1)

each-append : {X : Type 0} (P : X → Type 0) (xs ys : List X) → AllByRecursion P xs → AllByRecursion P ys → AllByRecursion P (xs ++ ys)
each-append P [] ys h k = k
each-append P (x ∷ xs) ys h k = (h.0, each-append P xs ys h.1 k)

module _ (P : Coordinates → Type 0) where
  from-point : (p : Coordinates) (ps : List Coordinates) → AllByRecursion P (p ∷ ps) → AllByRecursion (OfEnds P) (edges_of_list (p ∷ ps))
  from-point p [] h = tt
  from-point p (q ∷ qs) h = subst (AllByRecursion (OfEnds P)) (sym (edges-step p q qs)) (by_same (is_same p q) (from-point q qs h.1))
    where
      by_same : (t : Bool) → AllByRecursion (OfEnds P) (edges_of_list (q ∷ qs)) → AllByRecursion (OfEnds P) (if t then edges_of_list (q ∷ qs) else edge_between p q ∷ edges_of_list (q ∷ qs))
      by_same true k = k
      by_same false k = ((h.0, h.1.0), k)

  of-list : (ps : List Coordinates) → AllByRecursion P ps → AllByRecursion (OfEnds P) (edges_of_list ps)
  of-list [] h = tt
  of-list (p ∷ ps) h = from-point p ps h

  of-lists : (lists : List (List Coordinates)) → AllByRecursion P (joined lists) → AllByRecursion (OfEnds P) (flat_map edges_of_list lists)
  of-lists [] h = tt
  of-lists (ps ∷ lists) h =
      let parts = each-parts P ps (joined lists) h in
      each-append (OfEnds P) (edges_of_list ps) (flat_map edges_of_list lists) (of-list ps parts.0) (of-lists lists parts.1)

  pub ends-of-edges : (g : Geometry) → AllByRecursion P (points_of g) → AllByRecursion (OfEnds P) (edges_of g)
  ends-of-edges (Point p) h = tt
  ends-of-edges (MultiPoint ps) h = tt
  ends-of-edges (LineString ps) h = of-lists (ps ∷ []) h
  ends-of-edges (MultiLineString lines) h = of-lists lines h
  ends-of-edges (Polygon rings) h = of-lists rings h
  ends-of-edges (MultiPolygon polygons) h = of-lists (joined polygons) h

-- ---- the least and the greatest
least-first : (n : ℤ) (ns : List ℤ) → fold int_min n ns ≤ℤ n
least-first n [] = omega (arith, ints)
least-first n (m ∷ ns) = chain (fold int_min (int_min n m) ns) (least-first (int_min n m) ns)
  where
    chain : (l : ℤ) → l ≤ℤ int_min n m → l ≤ℤ n
    chain l h = omega (arith, ints, clamps)

least-each : (n : ℤ) (ns : List ℤ) → AllByRecursion (λ m. fold int_min n ns ≤ℤ m) ns
least-each n [] = tt
least-each n (m ∷ ns) = (chain (fold int_min (int_min n m) ns) (least-first (int_min n m) ns), least-each (int_min n m) ns)
  where
    chain : (l : ℤ) → l ≤ℤ int_min n m → l ≤ℤ m
    chain l h = omega (arith, ints, clamps)

pub least-is : (ns : List ℤ) → AllByRecursion (λ m. least ns ≤ℤ m) ns
least-is [] = tt
least-is (n ∷ ns) = (least-first n ns, least-each n ns)

greatest-first : (n : ℤ) (ns : List ℤ) → n ≤ℤ fold int_max n ns
greatest-first n [] = omega (arith, ints)
greatest-first n (m ∷ ns) = chain (fold int_max (int_max n m) ns) (greatest-first (int_max n m) ns)
  where
    chain : (l : ℤ) → int_max n m ≤ℤ l → n ≤ℤ l
    chain l h = omega (arith, ints, clamps)

greatest-each : (n : ℤ) (ns : List ℤ) → AllByRecursion (λ m. m ≤ℤ fold int_max n ns) ns
greatest-each n [] = tt
greatest-each n (m ∷ ns) = (chain (fold int_max (int_max n m) ns) (greatest-first (int_max n m) ns), greatest-each (int_max n m) ns)
  where
    chain : (l : ℤ) → int_max n m ≤ℤ l → m ≤ℤ l
    chain l h = omega (arith, ints, clamps)

pub greatest-is : (ns : List ℤ) → AllByRecursion (λ m. m ≤ℤ greatest ns) ns
greatest-is [] = tt
greatest-is (n ∷ ns) = (greatest-first n ns, greatest-each n ns)

-- ---- the points of a geometry are in its envelope, so the boxes of its edges are
pub record HasPoint (e : Extent) (p : Coordinates) : Type 0 where
  pub left : e.min_x ≤ℤ p.x
  pub right : p.x ≤ℤ e.max_x
  pub low : e.min_y ≤ℤ p.y
  pub high : p.y ≤ℤ e.max_y

each-point : (e : Extent) (ps : List Coordinates) → AllByRecursion (λ m. e.min_x ≤ℤ m) (map (λ (p : Coordinates). p.x) ps) → AllByRecursion (λ m. m ≤ℤ e.max_x) (map (λ (p : Coordinates). p.x) ps) →
    AllByRecursion (λ m. e.min_y ≤ℤ m) (map (λ (p : Coordinates). p.y) ps) → AllByRecursion (λ m. m ≤ℤ e.max_y) (map (λ (p : Coordinates). p.y) ps) → AllByRecursion (HasPoint e) ps
each-point e [] left right low high = tt
each-point e (p ∷ ps) left right low high = (record { left = left.0; right = right.0; low = low.0; high = high.0 }, each-point e ps left.1 right.1 low.1 high.1)

pub points-in : (g : Geometry) → AllByRecursion (HasPoint (envelope_of g)) (points_of g)
points-in g =
    let xs = map (λ (p : Coordinates). p.x) (points_of g) in
    let ys = map (λ (p : Coordinates). p.y) (points_of g) in
    each-point (envelope_of g) (points_of g) (least-is xs) (greatest-is xs) (least-is ys) (greatest-is ys)

covered : (e : Extent) (p q : Coordinates) → HasPoint e p → HasPoint e q → covers e (extent_of_edge (p, q)) ≡ true
covered e p q h k =
    and_from _ _
    (and_from _ _ (test_from_le e.min_x (int_min p.x q.x) (least_of e.min_x p.x q.x h.left k.left)) (test_from_le (int_max p.x q.x) e.max_x (greatest_of e.max_x p.x q.x h.right k.right)))
    (and_from _ _ (test_from_le e.min_y (int_min p.y q.y) (least_of e.min_y p.y q.y h.low k.low)) (test_from_le (int_max p.y q.y) e.max_y (greatest_of e.max_y p.y q.y h.high k.high)))
  where
    least_of : (l m n : ℤ) → l ≤ℤ m → l ≤ℤ n → l ≤ℤ int_min m n
    least_of l m n h k = omega (arith, ints, clamps)

    greatest_of : (l m n : ℤ) → m ≤ℤ l → n ≤ℤ l → int_max m n ≤ℤ l
    greatest_of l m n h k = omega (arith, ints, clamps)

pub edges-covered : (g : Geometry) → AllByRecursion (λ e. covers (envelope_of g) (extent_of_edge (ends_of_edge e)) ≡ true) (edges_of g)
edges-covered g = each (edges_of g) (ends-of-edges (HasPoint (envelope_of g)) g (points-in g))
  where
    each : (es : List Line) → AllByRecursion (OfEnds (HasPoint (envelope_of g))) es → AllByRecursion (λ e. covers (envelope_of g) (extent_of_edge (ends_of_edge e)) ≡ true) es
    each [] h = tt
    each (e ∷ es) h = (covered (envelope_of g) e.a e.b h.0.0 h.0.1, each es h.1)
