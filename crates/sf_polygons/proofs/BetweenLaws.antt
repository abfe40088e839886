-- What a walk over polygons finds is right of their points: overlaps and shared pieces; and where all are of one colour there are none.
use Rattle.std.proofs.Common.{◌≡◌, refl, ap, sym, ◌∙◌, subst, ℕ, suc, ◌<◌, ◌≤◌, ◌^◌, ◌==◌, arith, Option, is_some, Bool, true, false, ◌&&◌, ◌||◌, not, List, [], ◌∷◌, ◌++◌, append_assoc, map, length, nat_le, nat_lt, replicate, slice_index}
use Rattle.std.specs.Prelude.{IsTrue, if◌then◌else◌}
use Rattle.sf_cells.specs.Groups.{Item}
use Rattle.std.specs.List.{AllByRecursion, count_by, flat_map, list_all, list_any, zip}
use Rattle.std.proofs.lemmas.Bool.{and_from, and_parts, both_ways, eqb-true}
use Rattle.std.proofs.lemmas.List.{length-map}
use Rattle.sf_grid.specs.EvenOdd.{is_odd}
use Rattle.sf_grid.specs.Plane.{Coordinates, IsPoint, Point, same_point}
use Rattle.sf_grid.specs.Edge.{on_edge}
use Rattle.sf_classes.specs.Classes.{WereHanded}
use Rattle.sf_slabs.proofs.CallerLemmas.{each-both, each-map, each-parts}
use Rattle.sf_geometry.specs.declared.extent.Extent.{Extent}
use Rattle.sf_geometry.specs.Lists.{edges_of, is_closed}
use Rattle.sf_geometry.specs.Parts.{joined}
use Rattle.sf_geometry.specs.PointSets.{in_polygon, on_line, on_polygon}
use Rattle.sf_pieces.specs.Marked.{HasGroups, Marked, groups_of, item_at, pieces_of}
use Rattle.sf_valid_rules.specs.Conditions.{Applies, any_two}
use Rattle.sf_valid_rules.specs.Rules.{ring_rules}
use Rattle.sf_valid_rules.specs.Shapes.{in_hole_outside, in_two_holes, in_two_polygons, on_both, share_piece}
use Rattle.sf_valid_rules.specs.Validity.{NoneApplies}
use Rattle.sf_polygons.specs.declared.found.PolygonFaults.{PolygonFaults}
use Rattle.sf_polygons.specs.Colours.{IsColouring, box_of}
use Rattle.sf_polygons.specs.Found.{ArePolygonFaults, polygon_pieces_shared, with_polygon_cell}
use Rattle.sf_polygons.specs.Rings.{GroupedRing, grouped, pieces_in, polygons_in}
use Rattle.sf_polygons.specs.Tests.{is_inside, is_overlap, is_shared}
use Rattle.sf_polygons.proofs.ColourLaws.{firsts}
use Rattle.sf_polygons.proofs.GroupLaws.{AreAlone, IsNear, groups-pass}
use Rattle.sf_polygons.proofs.MeetLaws.{IsSound, ShareSomewhere, all-sound}
use Rattle.sf_polygons.proofs.NearLaws.{alone-near, in-near, is_near, polygon-near}
use Rattle.sf_polygons.proofs.PieceLaws.{parity, rings_of}
use Rattle.sf_polygons.proofs.PolygonLaws.{told-inside}
use Rattle.sf_polygons.proofs.SizeLaws.{few-boxes, few-pieces, polygon-groups, polygons-grouped}
use Rattle.sf_polygons.proofs.TestLaws.{any-and, any-flat, any-map, any-same, count-each, count-map, count-same, map-join, none-of, odd-and, odd-joined, odd-map, odd-same, odd_many, one-of, or-right, two-count, two-flat, two-map, two-of}
use Rattle.sf_polygons.proofs.WalkLaws.{gathered, gathered-unless, overlap-by, passes-somewhere}
use Rattle.sf_polygons.proofs.WithinLaws.{counted-alike, flag-shared, group-odd, group-on, is-inside, unmet}

-- a polygon's rings and its colour
abbrev Grouped : Type 0
Grouped = List (List Coordinates) × ℕ

abbrev polygon_box : List (List Coordinates) → Option Extent
polygon_box rings = box_of (joined rings)

abbrev AreClosed : List (List Coordinates) → Type 0
AreClosed rings = AllByRecursion (λ ring. is_closed ring ≡ true) rings

-- ---- counts of a colour
polygon-on : (polygons : List (List (List Coordinates))) (colours : List ℕ) (p : Point) (c : ℕ)
    → nat_lt 0 (slice_index ((item_at (pieces_in (polygons_in polygons colours)) p).on) c) ≡ list_any (λ (z : Grouped). (z.1 == c) && on_polygon z.0 p) (zip polygons colours)
polygon-on polygons colours p c =
    let t : GroupedRing → Bool = λ r. (r.1 == c) && on_line r.0 p in
    group-on (polygons_in polygons colours) p c
    ∙ any-flat t (λ (z : Grouped). grouped z.1 z.0) (zip polygons colours)
    ∙ any-same (λ (z : Grouped). list_any t (grouped z.1 z.0)) (λ (z : Grouped). (z.1 == c) && on_polygon z.0 p) (zip polygons colours)
    (λ z. any-map t (λ ring. (ring, z.1)) z.0 ∙ any-and (z.1 == c) (λ ring. on_line ring p) z.0)

polygon-odd : (polygons : List (List (List Coordinates))) (colours : List ℕ) (p : Point) (c : ℕ)
    → is_odd (slice_index ((item_at (pieces_in (polygons_in polygons colours)) p).above) c)
    ≡ odd_many (map (λ (z : Grouped). (z.1 == c) && odd_many (map (parity p) z.0)) (zip polygons colours))
polygon-odd polygons colours p c =
    let t : GroupedRing → Bool = λ r. (r.1 == c) && parity p r.0 in
    group-odd (polygons_in polygons colours) p c
    ∙ odd-joined t (λ (z : Grouped). grouped z.1 z.0) (zip polygons colours)
    ∙ odd-same (λ (z : Grouped). odd_many (map t (grouped z.1 z.0))) (λ (z : Grouped). (z.1 == c) && odd_many (map (parity p) z.0)) (zip polygons colours)
    (λ z. odd-map t (λ ring. (ring, z.1)) z.0 ∙ odd-and (z.1 == c) (parity p) z.0)

-- ---- at a point where no hole is outside or in another one
overlap-at : (polygons : List (List (List Coordinates))) (colours : List ℕ) (p : Point) → IsPoint p → AllByRecursion AreClosed polygons → IsColouring (map polygon_box polygons) colours
    → list_any (λ rings. in_hole_outside rings p) polygons ≡ false → list_any (λ rings. in_two_holes rings p) polygons ≡ false
    → is_overlap (item_at (pieces_in (polygons_in polygons colours)) p) ≡ in_two_polygons polygons p
overlap-at polygons colours p i closed h within apart =
    let item = item_at (pieces_in (polygons_in polygons colours)) p in
    let same : length colours ≡ length polygons = h.one_each ∙ length-map polygons polygon_box in
    ap (nat_le 2)
    (count-same is_inside (λ (m : ℕ × ℕ). not (nat_lt 0 m.0) && is_odd m.1) (zip item.on item.above) is-inside
    ∙ groups-pass (λ (z : Grouped). z.1) (λ (z : Grouped). is_near (polygon_box z.0) p) (λ (z : Grouped). on_polygon z.0 p) (λ (z : Grouped). odd_many (map (parity p) z.0)) (λ a b. not a && b)
    refl (zip polygons colours) (alone-near polygon_box p i polygons colours h.apart) (each polygons colours closed) item.on item.above (counted-alike (polygons_in polygons colours) p)
    (polygon-on polygons colours p) (polygon-odd polygons colours p)
    ∙ sym (count-map (λ rings. not (on_polygon rings p) && odd_many (map (parity p) rings)) (λ (z : Grouped). z.0) (zip polygons colours))
    ∙ ap (count_by (λ rings. not (on_polygon rings p) && odd_many (map (parity p) rings))) (firsts polygons colours same)
    ∙ count-each (λ rings. not (on_polygon rings p) && odd_many (map (parity p) rings)) (λ rings. in_polygon rings p) polygons
    (each-both (λ rings. in_hole_outside rings p ≡ false) (λ rings. in_two_holes rings p ≡ false)
    (λ rings. (not (on_polygon rings p) && odd_many (map (parity p) rings)) ≡ in_polygon rings p) polygons (λ rings a b. told-inside rings p a b)
    (none-of (λ rings. in_hole_outside rings p) polygons within) (none-of (λ rings. in_two_holes rings p) polygons apart)))
    ∙ two-count (λ rings. in_polygon rings p) polygons
  where
    each : (ps : List (List (List Coordinates))) (cs : List ℕ) → AllByRecursion AreClosed ps
        → AllByRecursion (IsNear (λ (z : Grouped). is_near (polygon_box z.0) p) (λ (z : Grouped). on_polygon z.0 p) (λ (z : Grouped). odd_many (map (parity p) z.0))) (zip ps cs)
    each [] cs k = tt
    each (x ∷ ps) [] k = tt
    each (x ∷ ps) (c ∷ cs) k = (let n = polygon-near x p i k.0 in record { on_near = n.on_near; odd_near = n.odd_near }, each ps cs k.1)

-- ---- the faults
rings-are : (polygons : List (List (List Coordinates))) (colours : List ℕ) → length colours ≡ length polygons → rings_of (polygons_in polygons colours) ≡ joined polygons
rings-are [] colours e = refl
rings-are (rings ∷ polygons) [] e = absurd (omega (arith, e))
rings-are (rings ∷ polygons) (c ∷ colours) e =
    map-join (λ (r : GroupedRing). r.0) (grouped c rings) (polygons_in polygons colours)
    ∙ ap (λ rs. rs ++ rings_of (polygons_in polygons colours)) (ungrouped rings)
    ∙ ap (λ rs. rings ++ rs) (rings-are polygons colours (less (length colours) (length polygons) e))
  where
    ungrouped : (rs : List (List Coordinates)) → rings_of (grouped c rs) ≡ rs
    ungrouped [] = refl
    ungrouped (r ∷ rs) = ap (λ qs. r ∷ qs) (ungrouped rs)

    less : (m n : ℕ) → suc m ≡ suc n → m ≡ n
    less m n h = omega (arith, h)

each-closed : (polygons : List (List (List Coordinates))) → AllByRecursion IsSound (joined polygons) → AllByRecursion AreClosed polygons
each-closed [] h = tt
each-closed (rings ∷ polygons) h =
    let parts = each-parts IsSound rings (joined polygons) h in (each-map IsSound (λ ring. is_closed ring ≡ true) rings (λ ring s. s.closed) parts.0, each-closed polygons parts.1)

-- pieces shared by rings of two polygons are shared by two of all rings
across-shared : (polygons : List (List (List Coordinates))) → Applies (polygon_pieces_shared polygons) → ShareSomewhere (joined polygons)
across-shared polygons s = (
  s.0,
  s.1,
  s.2,
  s.3,
  two-flat (λ r t. share_piece r t s.0 s.1) (λ (rings : List (List Coordinates)). rings) polygons
      ∙ or-right (list_any (λ rings. any_two (λ r t. share_piece r t s.0 s.1) rings) polygons)
      (any_two (λ rings others. list_any (λ r. list_any (λ t. share_piece r t s.0 s.1) others) rings) polygons) s.4,
)

-- ---- the sink, cell by cell
polygon-meet : (f : PolygonFaults) (i : Item) → (with_polygon_cell f i).meet ≡ (f.meet || is_shared i)
polygon-meet f i = by f.meet refl
  where
    by : (b : Bool) → f.meet ≡ b → (if b then f else (record { meet = is_shared i; overlap = f.overlap || is_overlap i })).meet ≡ (b || is_shared i)
    by true e = e
    by false e = refl

polygon-stays : (f : PolygonFaults) (i : Item) → f.meet ≡ true → (with_polygon_cell f i).meet ≡ true
polygon-stays f i e = polygon-meet f i ∙ ap (λ b. b || is_shared i) e

polygon-overlap : (f : PolygonFaults) (i : Item) → f.meet ≡ false → (with_polygon_cell f i).overlap ≡ (f.overlap || is_overlap i)
polygon-overlap f i e = ap (λ b. (if b then f else (record { meet = is_shared i; overlap = f.overlap || is_overlap i })).overlap) e

polygon-faults : (polygons : List (List (List Coordinates))) (colours : List ℕ) (found : PolygonFaults) → AllByRecursion IsSound (joined polygons) → IsColouring (map polygon_box polygons) colours
    → WereHanded (pieces_of (pieces_in (polygons_in polygons colours))) (groups_of (pieces_in (polygons_in polygons colours))) (replicate (length polygons) true) with_polygon_cell
    (record { meet = false; overlap = false }) found
    → ArePolygonFaults polygons found
polygon-faults polygons colours found sound h handed =
    let rings = polygons_in polygons colours in
    let closed = each-closed polygons sound in
    let start : PolygonFaults = record { meet = false; overlap = false } in
    let meet = ap (λ (f : PolygonFaults). f.meet) handed.handed ∙ gathered (λ (f : PolygonFaults). f.meet) with_polygon_cell is_shared polygon-meet start handed.items in
    let overlap : ¬ (IsTrue found.meet) → found.overlap ≡ list_any is_overlap handed.items =
    λ n.
    ap (λ (f : PolygonFaults). f.overlap) handed.handed
    ∙ gathered-unless (λ (f : PolygonFaults). f.meet) (λ (f : PolygonFaults). f.overlap) with_polygon_cell is_overlap polygon-stays polygon-overlap start handed.items
    (ap (λ (f : PolygonFaults). f.meet) (sym handed.handed) ∙ unmet found.meet n) in
    let same = rings-are polygons colours (h.one_each ∙ length-map polygons polygon_box) in
    let shared = flag-shared rings (replicate (length polygons) true) handed.items found.meet (subst (AllByRecursion IsSound) (sym same) sound) handed.represent meet in
    let somewhere = passes-somewhere (length polygons) (pieces_in rings) handed.items is_overlap overlap-by (polygon-groups polygons colours h) handed.represent in
    let P : List (List Coordinates) → Type 0 = ShareSomewhere in
    record {
      meet = λ t. subst P same (shared.0 t);
      meet_found = λ s. shared.1 (subst P (sym same) (across-shared polygons s));
      overlap =
          λ n within apart. (
            λ t.
                let s = somewhere.0 (sym (overlap n) ∙ t) in
                (s.0, s.1.0, sym (overlap-at polygons colours s.0 s.1.0 closed h (unmet _ (λ k. within (s.0, s.1.0, k))) (unmet _ (λ k. apart (s.0, s.1.0, k)))) ∙ s.1.1),
            λ s.
                overlap n
                ∙ somewhere.1 (s.0, (s.1, overlap-at polygons colours s.0 s.1 closed h (unmet _ (λ k. within (s.0, s.1, k))) (unmet _ (λ k. apart (s.0, s.1, k))) ∙ s.2)),
          );
    }

-- ---- all of one colour
alone-two : {X : Type 0} (group : X → ℕ) (near : X → Bool) (xs : List X) → AllByRecursion (λ x. group x ≡ 0) xs → AreAlone group near xs → any_two (λ x y. near x && near y) xs ≡ false
alone-two group near [] zeros h = refl
alone-two {X} group near (x ∷ xs) zeros h =
    ap (λ b. b || any_two (λ y z. near y && near z) xs) (others (near x) refl xs zeros.1 h.0) ∙ alone-two group near xs zeros.1 h.1
  where
    others : (b : Bool) → near x ≡ b → (ys : List X) → AllByRecursion (λ y. group y ≡ 0) ys → AllByRecursion (λ y. group x ≡ group y → near x ≡ true → near y ≡ false) ys
        → list_any (λ y. near x && near y) ys ≡ false
    others b e [] z k = refl
    others true e (y ∷ ys) z k =
        ap (λ c. c || list_any (λ v. near x && near v) ys) (ap (λ c. c && near y) e ∙ k.0 (zeros.0 ∙ sym z.0) e) ∙ others true e ys z.1 k.1
    others false e (y ∷ ys) z k = ap (λ c. (c && near y) || list_any (λ v. near x && near v) ys) e ∙ others false e ys z.1 k.1

all-zero : (numbers : List ℕ) → list_all (λ n. n == 0) numbers ≡ true → AllByRecursion (λ n. n ≡ 0) numbers
all-zero [] h = tt
all-zero (n ∷ numbers) h = let parts = and_parts (n == 0) (list_all (λ m. m == 0) numbers) h in (eqb-true n 0 parts.0, all-zero numbers parts.1)

-- at most one polygon has the point in its box
one-near : (polygons : List (List (List Coordinates))) (colours : List ℕ) (p : Point) → IsPoint p → IsColouring (map polygon_box polygons) colours → list_all (λ n. n == 0) colours ≡ true
    → any_two (λ rings others. is_near (polygon_box rings) p && is_near (polygon_box others) p) polygons ≡ false
one-near polygons colours p i h zeros =
    ap (any_two (λ rings others. is_near (polygon_box rings) p && is_near (polygon_box others) p)) (sym (firsts polygons colours (h.one_each ∙ length-map polygons polygon_box)))
    ∙ two-map (λ rings others. is_near (polygon_box rings) p && is_near (polygon_box others) p) (λ (z : Grouped). z.0) (zip polygons colours)
    ∙ alone-two (λ (z : Grouped). z.1) (λ (z : Grouped). is_near (polygon_box z.0) p) (zip polygons colours) (each polygons colours (all-zero colours zeros)) (alone-near polygon_box p i polygons colours h.apart)
  where
    each : (ps : List (List (List Coordinates))) (cs : List ℕ) → AllByRecursion (λ n. n ≡ 0) cs → AllByRecursion (λ (z : Grouped). z.1 ≡ 0) (zip ps cs)
    each [] cs k = tt
    each (x ∷ ps) [] k = tt
    each (x ∷ ps) (c ∷ cs) k = (k.0, each ps cs k.1)

each-unit : {A : Type 0} (xs : List A) → AllByRecursion (λ x. Unit {0}) xs
each-unit [] = tt
each-unit (x ∷ xs) = (tt, each-unit xs)

-- rings that share a piece at two points have both on them
record AreOn (rings others : List (List Coordinates)) (p : Point) : Type 0 where
  pub first : on_polygon rings p ≡ true
  pub second : on_polygon others p ≡ true

shared-on : (rings others : List (List Coordinates)) (p q : Point) → list_any (λ r. list_any (λ s. share_piece r s p q) others) rings ≡ true → AreOn rings others p
shared-on rings others p q h =
    let r = one-of (λ ring. Unit {0}) (λ r. list_any (λ s. share_piece r s p q) others) rings (each-unit rings) h in
    let s = one-of (λ ring. Unit {0}) (λ s. share_piece r.member s p q) others (each-unit others) r.passes in
    let parts = and_parts (not (same_point p q)) (list_any (λ e. list_any (λ f. on_both e f p && on_both e f q) (edges_of s.member)) (edges_of r.member)) s.passes in
    let e = one-of (λ l. Unit {0}) (λ e. list_any (λ f. on_both e f p && on_both e f q) (edges_of s.member)) (edges_of r.member) (each-unit (edges_of r.member)) parts.1 in
    let f = one-of (λ l. Unit {0}) (λ f. on_both e.member f p && on_both e.member f q) (edges_of s.member) (each-unit (edges_of s.member)) e.passes in
    let at = and_parts (on_edge e.member p) (on_edge f.member p) (and_parts (on_both e.member f.member p) (on_both e.member f.member q) f.passes).0 in
    record {
      first = r.back (λ ring. on_line ring p) (e.back (λ l. on_edge l p) at.0);
      second = s.back (λ ring. on_line ring p) (f.back (λ l. on_edge l p) at.1);
    }

pub no-faults : (polygons : List (List (List Coordinates))) (colours : List ℕ) → AllByRecursion IsSound (joined polygons) → IsColouring (map polygon_box polygons) colours
    → list_all (λ n. n == 0) colours ≡ true → ArePolygonFaults polygons (record { meet = false; overlap = false })
no-faults polygons colours sound h zeros =
    let closed = each-closed polygons sound in
    record {
      meet = λ t. absurd (both_ways false refl t);
      meet_found =
          λ s.
          let two = two-of AreClosed (λ rings others. list_any (λ r. list_any (λ t. share_piece r t s.0 s.1) others) rings) polygons closed s.4 in
          let on = shared-on two.first two.second s.0 s.1 two.passes in
          absurd (both_ways (any_two (λ rings others. is_near (polygon_box rings) s.0 && is_near (polygon_box others) s.0) polygons) (one-near polygons colours s.0 s.2 h zeros)
          (two.back (λ rings others. is_near (polygon_box rings) s.0 && is_near (polygon_box others) s.0)
          (and_from _ _ ((polygon-near two.first s.0 s.2 two.first_has).on_near on.first) ((polygon-near two.second s.0 s.2 two.second_has).on_near on.second))));
      overlap =
          λ n within apart. (
            λ t. absurd (both_ways false refl t),
            λ s.
                let two = two-of AreClosed (λ rings others. in_polygon rings s.0 && in_polygon others s.0) polygons closed s.2 in
                let inside = and_parts (in_polygon two.first s.0) (in_polygon two.second s.0) two.passes in
                absurd (both_ways (any_two (λ rings others. is_near (polygon_box rings) s.0 && is_near (polygon_box others) s.0) polygons) (one-near polygons colours s.0 s.1 h zeros)
                (two.back (λ rings others. is_near (polygon_box rings) s.0 && is_near (polygon_box others) s.0)
                (and_from _ _ (in-near two.first s.0 s.1 two.first_has inside.0) (in-near two.second s.0 s.1 two.second_has inside.1)))),
          );
    }

pub lone : (polygons : List (List (List Coordinates))) → length polygons < 2 → NoneApplies (flat_map ring_rules (joined polygons))
    → ArePolygonFaults polygons (record { meet = false; overlap = false })
lone [] l h = no-faults [] [] tt (record { one_each = refl; few = tt; apart = tt }) refl
lone (rings ∷ []) l h = no-faults (rings ∷ []) (0 ∷ []) (all-sound (joined (rings ∷ [])) h) (record { one_each = refl; few = (omega arith, tt); apart = (tt, tt) }) refl
lone (rings ∷ others ∷ polygons) l h = absurd (omega (arith, l))

-- ---- what the code has before its walk
pub record IsReady (polygons : List (List (List Coordinates))) (colours : List ℕ) : Type 0 where
  pub few : length (joined (joined polygons)) ≤ 65536
  pub sound : NoneApplies (flat_map ring_rules (joined polygons))
  pub colouring : IsColouring (map polygon_box polygons) colours

pub few-polygon_boxes : (polygons : List (List (List Coordinates))) (boxes : List (Option Extent)) → length (joined (joined polygons)) ≤ 65536 → boxes ≡ map polygon_box polygons
    → count_by is_some boxes < 2 ^ 32
few-polygon_boxes polygons boxes few b =
    at_most (count_by is_some boxes) (length (flat_map joined polygons)) (length (joined (joined polygons)))
    (subst (λ bs. count_by is_some bs ≤ length (flat_map joined polygons)) (sym b) (few-boxes joined polygons)) (ap length (all-joined polygons)) few
  where
    at_most : (a b c : ℕ) → a ≤ b → b ≡ c → c ≤ 65536 → a < 2 ^ 32
    at_most a b c h k l = omega (arith, h, k, l)

    joined-append : (xs ys : List (List Coordinates)) → joined (xs ++ ys) ≡ joined xs ++ joined ys
    joined-append [] ys = refl
    joined-append (x ∷ xs) ys = ap (λ ps. x ++ ps) (joined-append xs ys) ∙ sym (append_assoc x (joined xs) (joined ys))

    all-joined : (ps : List (List (List Coordinates))) → flat_map joined ps ≡ joined (joined ps)
    all-joined [] = refl
    all-joined (p ∷ ps) = ap (λ qs. joined p ++ qs) (all-joined ps) ∙ sym (joined-append p (joined ps))

pub few-polygon_pieces : (polygons : List (List (List Coordinates))) (colours : List ℕ) → IsReady polygons colours → length (pieces_in (polygons_in polygons colours)) ≤ 16777215
few-polygon_pieces polygons colours r =
    at_most (length (pieces_in (polygons_in polygons colours))) (length (joined (rings_of (polygons_in polygons colours)))) (length (joined (joined polygons)))
    (few-pieces (polygons_in polygons colours)) (ap (λ rs. length (joined rs)) (rings-are polygons colours (r.colouring.one_each ∙ length-map polygons polygon_box))) r.few
  where
    at_most : (a b c : ℕ) → a ≤ b → b ≡ c → c ≤ 65536 → a ≤ 16777215
    at_most a b c h k l = omega (arith, h, k, l)

pub grouped-polygons : (polygons : List (List (List Coordinates))) (colours : List ℕ) → IsReady polygons colours → HasGroups (pieces_in (polygons_in polygons colours))
grouped-polygons polygons colours r = polygons-grouped polygons colours (all-sound (joined polygons) r.sound) r.colouring

pub found-between : (polygons : List (List (List Coordinates))) (colours : List ℕ) (pieces : List Marked) (areal : List Bool) (found : PolygonFaults)
    → IsReady polygons colours → pieces ≡ pieces_in (polygons_in polygons colours) → areal ≡ replicate (length polygons) true
    → WereHanded (pieces_of pieces) (groups_of pieces) areal with_polygon_cell (record { meet = false; overlap = false }) found → ArePolygonFaults polygons found
found-between polygons colours pieces areal found r p a handed =
    polygon-faults polygons colours found (all-sound (joined polygons) r.sound) r.colouring
    (subst (λ ms. WereHanded (pieces_of ms) (groups_of ms) (replicate (length polygons) true) with_polygon_cell (record { meet = false; overlap = false }) found) p
    (subst (λ bs. WereHanded (pieces_of pieces) (groups_of pieces) bs with_polygon_cell (record { meet = false; overlap = false }) found) a handed))
