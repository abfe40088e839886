-- Of a valid geometry no point is in the interior and in the boundary: a point on a ring of one polygon and inside another
-- would have a point inside both near by.
use Rattle.std.proofs.Common.{◌≡◌, ◌≢◌, refl, ap, sym, ◌∙◌, subst, Bool, true, false, ◌&&◌, not, List, [], ◌∷◌, ◌++◌, length, inl, inr}
use Rattle.std.specs.Prelude.{nat_lt}
use Rattle.std.specs.List.{AllByRecursion, flat_map, list_any}
use Rattle.std.proofs.lemmas.Bool.{and_from, both_ways, false_from_ne_true, not-false, or_cases, or_left, or_right}
use Rattle.sf_grid.specs.Plane.{Coordinates, IsPoint, Point}
use Rattle.sf_grid.specs.Edge.{Edge as Line, IsOnEdge, on_edge}
use Rattle.sf_slabs.proofs.CallerLemmas.{each-map, each-parts}
use Rattle.sf_plane.proofs.PlaceLaws.{IsIn}
use Rattle.sf_geometry.specs.declared.geometry.Geometry.TheVariants.{LineString, MultiLineString, MultiPoint, MultiPolygon, Point as OnePoint, Polygon}
use Rattle.sf_geometry.specs.Lists.{edges_of, is_closed, tight}
use Rattle.sf_geometry.specs.Parts.{joined}
use Rattle.sf_geometry.specs.PointSets.{in_boundary, in_polygon, on_line, on_polygon}
use Rattle.sf_valid_rules.specs.Conditions.{Applies, any_two}
use Rattle.sf_valid_rules.specs.Rules.{Rule, polygon_rules, ring_rules}
use Rattle.sf_valid_rules.specs.Shapes.{in_hole_outside, in_two_holes, in_two_polygons, share_piece}
use Rattle.sf_valid_rules.specs.Validity.{NoneApplies}
use Rattle.sf_valid_rules.proofs.MemberLaws.{any-one, each-from_in, each-in, each-of_flat, each-to_flat, one-any}
use Rattle.sf_valid_rules.proofs.TightLaws.{edges-differ}
use Rattle.sf_interiors.specs.Apart.{InteriorIsApart}
use Rattle.sf_interiors.proofs.ChainLaws.{IsBalanced}
use Rattle.sf_interiors.proofs.CommonLaws.{HasCommon, common}
use Rattle.sf_interiors.proofs.InsideLaws.{IsInside}
use Rattle.sf_interiors.proofs.ParityLaws.{inside-polygon, on-edges, polygon-apart, polygon-inside}
use Rattle.sf_interiors.proofs.RingLaws.{balanced-rings}
use Rattle.sf_interiors.proofs.SharingLaws.{AllApart, IsSimpleRing, SharesNone, apart-around, rings-apart}

-- ---- the edge that a point is on, among the others
record HasSplit (q : Point) (es : List Line) : Type 0 where
  before : List Line
  one : Line
  after : List Line
  is : es ≡ before ++ one ∷ after
  on : IsOnEdge one q

split : (q : Point) (es : List Line) → list_any (λ e. on_edge e q) es ≡ true → HasSplit q es
split q [] h = absurd (both_ways false refl h)
split q (e ∷ es) h =
    elim (or_cases (on_edge e q) (list_any (λ f. on_edge f q) es) h) [
      | inl here ↦ record { before = []; one = e; after = es; is = refl; on = here }
      | inr later ↦
          let rest = split q es later in
          record { before = e ∷ rest.before; one = rest.one; after = rest.after; is = ap (λ fs. e ∷ fs) rest.is; on = rest.on }
    ]

pub common-edges : (es hs : List Line) (q : Point) → IsPoint q → AllByRecursion (λ (e : Line). e.a ≢ e.b) es → AllApart es → ((p : Point) → IsPoint p → IsBalanced es p) →
    ((p : Point) → IsPoint p → IsBalanced hs p) → list_any (λ e. on_edge e q) es ≡ true → IsInside hs q → HasCommon es hs
common-edges es hs q o long apart balanced b on h =
    let s = split q es on in
    let around = apart-around s.before s.after s.one (subst AllApart s.is apart) in
    let length = each-parts (λ (e : Line). e.a ≢ e.b) s.before (s.one ∷ s.after) (subst (AllByRecursion (λ (e : Line). e.a ≢ e.b)) s.is long) in
    subst (λ fs. HasCommon fs hs) (sym s.is)
    (common s.before s.after hs s.one q o length.1.0 s.on around.0 around.1 (λ p i. subst (λ fs. IsBalanced fs p) s.is (balanced p i)) b h)

-- ---- what a valid polygon has
pub record IsSound (rings : List (List Coordinates)) : Type 0 where
  pub closed : AllByRecursion (λ ring. is_closed ring ≡ true) rings
  pub simple : AllByRecursion IsSimpleRing rings
  pub shares_none : SharesNone rings
  pub holes_within : (p : Point) → IsPoint p → in_hole_outside rings p ≡ false
  pub holes_apart : (p : Point) → IsPoint p → in_two_holes rings p ≡ false

record OverlapAt (rings others : List (List Coordinates)) : Type 0 where
  point : Point
  is_point : IsPoint point
  first : in_polygon rings point ≡ true
  second : in_polygon others point ≡ true

overlap : (rings others : List (List Coordinates)) (q : Point) → IsPoint q → IsSound rings → IsSound others → on_polygon rings q ≡ true → in_polygon others q ≡ true → OverlapAt rings others
overlap rings others q o s t on inside =
    let c =
    common-edges (flat_map edges_of rings) (flat_map edges_of others) q o (each-to_flat (λ (e : Line). e.a ≢ e.b) edges_of rings (each-from_in (λ ring. AllByRecursion (λ (e : Line). e.a ≢ e.b) (edges_of ring)) rings (λ ring i. edges-differ ring)))
    (rings-apart rings s.simple s.shares_none)
    (λ p i. balanced-rings rings p i s.closed)
    (λ p i. balanced-rings others p i t.closed)
    (on-edges rings q ∙ on)
    (inside-polygon others q (t.holes_within q o) (t.holes_apart q o) inside) in
    record {
      point = c.point;
      is_point = c.is_point;
      first = polygon-inside rings c.point (s.holes_within c.point c.is_point) (s.holes_apart c.point c.is_point) c.first;
      second = polygon-inside others c.point (t.holes_within c.point c.is_point) (t.holes_apart c.point c.is_point) c.second;
    }

-- ---- several polygons
abbrev OverlapsNone : List (List (List Coordinates)) → Type 0
OverlapsNone polygons = (p : Point) → IsPoint p → in_two_polygons polygons p ≡ true → ⊥

polygons-apart : (polygons : List (List (List Coordinates))) (q : Point) → IsPoint q → AllByRecursion IsSound polygons → OverlapsNone polygons →
    list_any (λ rings. in_polygon rings q) polygons ≡ true → list_any (λ rings. on_polygon rings q) polygons ≡ true → ⊥
polygons-apart [] q o s n inside on = both_ways false refl inside
polygons-apart (r ∷ rs) q o s n inside on =
    elim (or_cases (in_polygon r q) (list_any (λ rings. in_polygon rings q) rs) inside) [
      | inl in_first ↦ elim (or_cases (on_polygon r q) (list_any (λ rings. on_polygon rings q) rs) on) [
        | inl on_first ↦ both_ways (on_polygon r q) (polygon-apart r q in_first) on_first
        | inr on_later ↦
            let one = any-one (λ rings. on_polygon rings q) rs on_later in
            let c = overlap one.one r q o (sound one.one one.among) s.0 one.passes in_first in
            clash one.one one.among c.point c.is_point c.second c.first
      ]
      | inr in_later ↦ elim (or_cases (on_polygon r q) (list_any (λ rings. on_polygon rings q) rs) on) [
        | inl on_first ↦
            let one = any-one (λ rings. in_polygon rings q) rs in_later in
            let c = overlap r one.one q o s.0 (sound one.one one.among) on_first one.passes in
            clash one.one one.among c.point c.is_point c.first c.second
        | inr on_later ↦ polygons-apart rs q o s.1 (λ p i t. n p i (or_right (list_any (λ others. in_polygon r p && in_polygon others p) rs) (in_two_polygons rs p) t)) in_later on_later
      ]
    ]
  where
    sound : (rings : List (List Coordinates)) → IsIn rs rings → IsSound rings
    sound rings i = each-in IsSound rs s.1 rings i

    clash : (others : List (List Coordinates)) → IsIn rs others → (p : Point) → IsPoint p → in_polygon r p ≡ true → in_polygon others p ≡ true → ⊥
    clash others i p j h k =
        n p j
        (or_left (list_any (λ rings. in_polygon r p && in_polygon rings p) rs) (in_two_polygons rs p)
        (one-any (λ rings. in_polygon r p && in_polygon rings p) rs others i (and_from (in_polygon r p) (in_polygon others p) h k)))

-- ---- from the rules
any-left : {A : Type 0} (test : A → Bool) (xs ys : List A) → list_any test xs ≡ true → list_any test (xs ++ ys) ≡ true
any-left test [] ys h = absurd (both_ways false refl h)
any-left test (x ∷ xs) ys h =
    elim (or_cases (test x) (list_any test xs) h) [
      | inl here ↦ or_left (test x) (list_any test (xs ++ ys)) here
      | inr later ↦ or_right (test x) (list_any test (xs ++ ys)) (any-left test xs ys later)
    ]

any_two-left : {A : Type 0} (test : A → A → Bool) (xs ys : List A) → any_two test xs ≡ true → any_two test (xs ++ ys) ≡ true
any_two-left test [] ys h = absurd (both_ways false refl h)
any_two-left test (x ∷ xs) ys h =
    elim (or_cases (list_any (test x) xs) (any_two test xs) h) [
      | inl here ↦ or_left (list_any (test x) (xs ++ ys)) (any_two test (xs ++ ys)) (any-left (test x) xs ys here)
      | inr later ↦ or_right (list_any (test x) (xs ++ ys)) (any_two test (xs ++ ys)) (any_two-left test xs ys later)
    ]

any_two-right : {A : Type 0} (test : A → A → Bool) (xs ys : List A) → any_two test ys ≡ true → any_two test (xs ++ ys) ≡ true
any_two-right test [] ys h = h
any_two-right test (x ∷ xs) ys h = or_right (list_any (test x) (xs ++ ys)) (any_two test (xs ++ ys)) (any_two-right test xs ys h)

each-shares_none : (polygons : List (List (List Coordinates))) → SharesNone (joined polygons) → AllByRecursion SharesNone polygons
each-shares_none [] h = tt
each-shares_none (rings ∷ polygons) h = (
  λ p q i j t. h p q i j (any_two-left (λ r s. share_piece r s p q) rings (joined polygons) t),
  each-shares_none polygons (λ p q i j t. h p q i j (any_two-right (λ r s. share_piece r s p q) rings (joined polygons) t)),
)

abbrev NoneOf : Rule → Type 0
NoneOf rule = ¬ (Applies rule.condition)

ring-sound : (ring : List Coordinates) → NoneApplies (ring_rules ring) → (is_closed ring ≡ true) × IsSimpleRing ring
ring-sound ring h = (
  not-false (is_closed ring) (false_from_ne_true (not (is_closed ring)) h.0),
  record {
    long = false_from_ne_true (nat_lt (length (tight ring)) 4) h.1.0;
    simple = λ p i t. h.1.1.0 (p, i, t);
  },
)

pub polygons-sound : (polygons : List (List (List Coordinates))) → NoneApplies (flat_map ring_rules (joined polygons)) → NoneApplies (polygon_rules polygons) → AllByRecursion IsSound polygons
polygons-sound polygons h k =
    let rings = each-of_flat (λ ring. (is_closed ring ≡ true) × IsSimpleRing ring) (λ rings. rings) polygons
    (each-map (λ ring. NoneApplies (ring_rules ring)) (λ ring. (is_closed ring ≡ true) × IsSimpleRing ring) (joined polygons) ring-sound (each-of_flat NoneOf ring_rules (joined polygons) h)) in
    let none = each-shares_none polygons (λ p q i j t. k.0 (p, q, i, j, t)) in
    each-from_in IsSound polygons
    (λ polygon among.
    let own = each-in (λ rs. AllByRecursion (λ ring. (is_closed ring ≡ true) × IsSimpleRing ring) rs) polygons rings polygon among in
    record {
      closed = each-map (λ ring. (is_closed ring ≡ true) × IsSimpleRing ring) (λ ring. is_closed ring ≡ true) polygon (λ ring r. r.0) own;
      simple = each-map (λ ring. (is_closed ring ≡ true) × IsSimpleRing ring) IsSimpleRing polygon (λ ring r. r.1) own;
      shares_none = each-in SharesNone polygons none polygon among;
      holes_within = λ p i. false_from_ne_true (in_hole_outside polygon p) (λ t. k.1.0 (p, i, one-any (λ rs. in_hole_outside rs p) polygons polygon among t));
      holes_apart = λ p i. false_from_ne_true (in_two_holes polygon p) (λ t. k.1.1.0 (p, i, one-any (λ rs. in_two_holes rs p) polygons polygon among t));
    })

-- ---- the law
not-both : (b c : Bool) → (b && not c) ≡ true → c ≡ false
not-both true true h = sym h
not-both true false h = refl
not-both false c h = absurd (both_ways false refl h)

pub interior_is_apart : InteriorIsApart
interior_is_apart (OnePoint p) q v o h = refl
interior_is_apart (MultiPoint ps) q v o h = refl
interior_is_apart (LineString ps) q v o h = not-both (on_line ps q) (in_boundary (LineString ps) q) h
interior_is_apart (MultiLineString lines) q v o h = not-both (list_any (λ ps. on_line ps q) lines) (in_boundary (MultiLineString lines) q) h
interior_is_apart (Polygon rings) q v o h = polygon-apart rings q h
interior_is_apart (MultiPolygon polygons) q v o h =
    let parts = each-parts NoneOf (flat_map ring_rules (joined polygons)) (polygon_rules polygons) v.faultless in
    false_from_ne_true (list_any (λ rings. on_polygon rings q) polygons)
    (λ on. polygons-apart polygons q o (polygons-sound polygons parts.0 parts.1) (λ p i t. parts.1.1.1.1.0 (p, i, t)) h on)
