-- A condition applies at the samples of lines or rings just where it applies over the plane.
use Rattle.std.proofs.Common.{◌≡◌, ◌≢◌, sym, ◌∙◌, Bool, true, false, ◌&&◌, not, List, map}
use Rattle.std.specs.Prelude.{◌↔◌, IsTrue}
use Rattle.std.specs.List.{AllByRecursion, flat_map, list_any}
use Rattle.std.proofs.lemmas.Bool.{and_from, and_parts, not-true, not_from_false}
use Rattle.sf_slabs.proofs.CallerLemmas.{each-map, each-parts}
use Rattle.sf_grid.specs.Plane.{Coordinates, IsPoint, Point, same_point}
use Rattle.sf_grid.specs.Edge.{Edge as Line, on_edge}
use Rattle.sf_strips.specs.declared.piece.Piece.{Piece}
use Rattle.sf_strips.specs.declared.piece.Piece.TheVariants.{Dot, Edge}
use Rattle.sf_cells.specs.Pieces.{is_above, is_on}
use Rattle.sf_cells.specs.Samples.{Sample, samples}
use Rattle.sf_plane.proofs.CoverLaws.{contains, every_point, in_append_left}
use Rattle.sf_plane.proofs.PlaceLaws.{IsIn}
use Rattle.sf_plane.proofs.SampleCellLaws.{every_sample}
use Rattle.sf_plane.proofs.ShareLaws.{alike_each, in_from_contains}
use Rattle.sf_plane.proofs.TwiceLaws.{shared_sampled}
use Rattle.sf_plane.specs.Cover.{IsInCell}
use Rattle.sf_plane.specs.Laws.{ShareTwoPoints}
use Rattle.sf_geometry.specs.Lists.{edges_of, tight}
use Rattle.sf_valid_rules.proofs.AgreeLaws.{Agree, AgreeAt}
use Rattle.sf_valid_rules.proofs.MemberLaws.{any-one, any-two, each-in, each-of_flat, each-of_map, each-to_map, in_flat_map, in_map, one-any}
use Rattle.sf_valid_rules.proofs.TightLaws.{edges-differ}
use Rattle.sf_valid_rules.specs.Conditions.{Applies, AtPoint, AtTwoPoints, Condition, Plain, any_two, applies_among}
use Rattle.sf_valid_rules.specs.Shapes.{on_both, share_piece}
use Rattle.sf_valid_rules.specs.Verdicts.{pieces_of, points_among}
use Rattle.std.proofs.lemmas.List.Elements.{recursion_from_All}

-- the pieces of lines or rings
abbrev pub all_pieces : List (List Coordinates) → List Piece
all_pieces lists = flat_map pieces_of lists

-- ---- points that are alike for the pieces agree on each line or ring
abbrev Both : Point → Point → Piece → Type 0
Both p q r = (is_on p r ≡ is_on q r) × (is_above p r ≡ is_above q r)

agree-by_pieces : (p q : Point) (ps : List Coordinates) → AllByRecursion (Both p q) (pieces_of ps) → Agree p q ps
agree-by_pieces p q ps h =
    let parts = each-parts (Both p q) (map (λ (e : Line). Edge e.a e.b) (edges_of ps)) (map Dot (tight ps)) h in
    record {
      edges = each-of_map (Both p q) (λ (e : Line). Edge e.a e.b) (edges_of ps) parts.0;
      vertices = each-map (λ v. Both p q (Dot v)) (AgreeAt p q) (tight ps) (λ v k. k.0) (each-of_map (Both p q) Dot (tight ps) parts.1);
    }

agree-by_all : (p q : Point) (lists : List (List Coordinates)) → AllByRecursion (Both p q) (all_pieces lists) → AllByRecursion (Agree p q) lists
agree-by_all p q lists h = each-map (λ ps. AllByRecursion (Both p q) (pieces_of ps)) (Agree p q) lists (agree-by_pieces p q) (each-of_flat (Both p q) pieces_of lists h)

-- ---- samples
-- a sample that agrees with a point on each line or ring
record HasAgreeing (lists : List (List Coordinates)) (p : Point) : Type 0 where
  pub point : Point
  pub among : IsIn (points_among lists) point
  pub agrees : AllByRecursion (Agree p point) lists

point-in : (lists : List (List Coordinates)) (s : Sample) → IsIn (samples (all_pieces lists)) s → IsIn (points_among lists) s.point
point-in lists s i = in_map (λ (s : Sample). s.point) (samples (all_pieces lists)) s i

agreeing : (lists : List (List Coordinates)) (p : Point) → IsPoint p → HasAgreeing lists p
agreeing lists p i =
    let has = every_point (all_pieces lists) p i in
    record {
      point = has.sample.point;
      among = point-in lists has.sample (in_from_contains (samples (all_pieces lists)) has.sample has.among);
      agrees = agree-by_all p has.sample.point lists (alike_each (all_pieces lists) p has.sample.point (record { on = has.cell.on; above = has.cell.above }));
    }

-- each of the points that are looked at is a point of the plane
among-points : (lists : List (List Coordinates)) → AllByRecursion IsPoint (points_among lists)
among-points lists =
    each-to_map IsPoint (λ (s : Sample). s.point) (samples (all_pieces lists))
    (each-map (λ s. IsPoint s.point × IsInCell (all_pieces lists) s.point s) (λ s. IsPoint s.point) (samples (all_pieces lists)) (λ s h. h.0)
    (recursion_from_All (λ s. IsPoint s.point × IsInCell (all_pieces lists) s.point s) (samples (all_pieces lists)) (every_sample (all_pieces lists))))

-- ---- conditions
-- the condition applies at the points that are looked at just where it applies over the plane
abbrev pub Tells : List (List Coordinates) → Condition → Type 0
Tells lists condition = IsTrue (applies_among (points_among lists) condition) ↔ Applies condition

pub plain-tells : (lists : List (List Coordinates)) (test : Bool) → Tells lists (Plain test)
plain-tells lists test = (λ h. h, λ h. h)

-- a test that points pass alike where they agree on each line or ring
pub point-tells : (lists : List (List Coordinates)) (test : Point → Bool) →
    ((p q : Point) → AllByRecursion (Agree p q) lists → test p ≡ test q) → Tells lists (AtPoint test)
point-tells lists test same = (
  λ h. let one = any-one test (points_among lists) h in (one.one, each-in IsPoint (points_among lists) (among-points lists) one.one one.among, one.passes),
  λ a. let s = agreeing lists a.0 a.1 in one-any test (points_among lists) s.point s.among (sym (same a.0 s.point s.agrees) ∙ a.2),
)

-- ---- two rings with a piece in common
edge-in : (rings : List (List Coordinates)) (ring : List Coordinates) (e : Line) → IsIn rings ring → IsIn (edges_of ring) e → IsIn (all_pieces rings) (Edge e.a e.b)
edge-in rings ring e i j =
    in_flat_map pieces_of rings ring (Edge e.a e.b) i
    (in_append_left (map (λ (f : Line). Edge f.a f.b) (edges_of ring)) (map Dot (tight ring)) (Edge e.a e.b) (in_map (λ (f : Line). Edge f.a f.b) (edges_of ring) e j))

-- two points that some two rings share
abbrev shared_by_two : List (List Coordinates) → Point → Point → Bool
shared_by_two rings p q = any_two (λ r s. share_piece r s p q) rings

-- two of the points that are looked at, that some two rings share
record HasShared (rings : List (List Coordinates)) : Type 0 where
  pub first : Point
  pub second : Point
  pub first_among : IsIn (points_among rings) first
  pub second_among : IsIn (points_among rings) second
  pub shared : shared_by_two rings first second ≡ true

shared-by : (r s : List Coordinates) (e f : Line) (p q : Point) → IsIn (edges_of r) e → IsIn (edges_of s) f → same_point p q ≡ false → on_both e f p ≡ true → on_both e f q ≡ true →
    share_piece r s p q ≡ true
shared-by r s e f p q i j n h k =
    and_from (not (same_point p q)) (list_any (λ e. list_any (λ f. on_both e f p && on_both e f q) (edges_of s)) (edges_of r))
    (not_from_false (same_point p q) n)
    (one-any (λ e. list_any (λ f. on_both e f p && on_both e f q) (edges_of s)) (edges_of r) e i
    (one-any (λ f. on_both e f p && on_both e f q) (edges_of s) f j (and_from (on_both e f p) (on_both e f q) h k)))

share-two : (e f : Line) (p q : Point) → IsPoint p → IsPoint q → same_point p q ≡ false → on_both e f p ≡ true → on_both e f q ≡ true → ShareTwoPoints e f
share-two e f p q i j n h k =
    record {
      first = p;
      second = q;
      is_first = i;
      is_second = j;
      differ = n;
      first_on_both = and_parts (on_edge e p) (on_edge f p) h;
      second_on_both = and_parts (on_edge e q) (on_edge f q) k;
    }

shared-among : (rings : List (List Coordinates)) (p q : Point) → IsPoint p → IsPoint q → shared_by_two rings p q ≡ true → HasShared rings
shared-among rings p q i j h =
    let two = any-two (λ r s. share_piece r s p q) rings h in
    let parts = and_parts (not (same_point p q)) (list_any (λ e. list_any (λ f. on_both e f p && on_both e f q) (edges_of two.second)) (edges_of two.first)) two.passes in
    let e = any-one (λ e. list_any (λ f. on_both e f p && on_both e f q) (edges_of two.second)) (edges_of two.first) parts.1 in
    let f = any-one (λ f. on_both e.one f p && on_both e.one f q) (edges_of two.second) e.passes in
    let on = and_parts (on_both e.one f.one p) (on_both e.one f.one q) f.passes in
    let shared =
    shared_sampled (all_pieces rings) e.one f.one
    (contains (all_pieces rings) (Edge e.one.a e.one.b) (edge-in rings two.first e.one two.first_among e.among))
    (contains (all_pieces rings) (Edge f.one.a f.one.b) (edge-in rings two.second f.one two.second_among f.among))
    (each-in (λ (e : Line). e.a ≢ e.b) (edges_of two.first) (edges-differ two.first) e.one e.among)
    (each-in (λ (e : Line). e.a ≢ e.b) (edges_of two.second) (edges-differ two.second) f.one f.among)
    (share-two e.one f.one p q i j (not-true (same_point p q) parts.0) on.0 on.1) in
    record {
      first = shared.first.point;
      second = shared.second.point;
      first_among = point-in rings shared.first (in_from_contains (samples (all_pieces rings)) shared.first shared.first_among);
      second_among = point-in rings shared.second (in_from_contains (samples (all_pieces rings)) shared.second shared.second_among);
      shared =
          two.tells (λ r s. share_piece r s shared.first.point shared.second.point)
          (shared-by two.first two.second e.one f.one shared.first.point shared.second.point e.among f.among shared.differ
          (and_from (on_edge e.one shared.first.point) (on_edge f.one shared.first.point) shared.first_on_both.0 shared.first_on_both.1)
          (and_from (on_edge e.one shared.second.point) (on_edge f.one shared.second.point) shared.second_on_both.0 shared.second_on_both.1));
    }

pub rings_meet-tells : (rings : List (List Coordinates)) → Tells rings (AtTwoPoints (λ p q. any_two (λ r s. share_piece r s p q) rings))
rings_meet-tells rings = (
  λ h.
      let first = any-one (λ p. list_any (shared_by_two rings p) (points_among rings)) (points_among rings) h in
      let second = any-one (shared_by_two rings first.one) (points_among rings) first.passes in (
        first.one,
        second.one,
        each-in IsPoint (points_among rings) (among-points rings) first.one first.among,
        each-in IsPoint (points_among rings) (among-points rings) second.one second.among,
        second.passes,
      ),
  λ a.
      let two = shared-among rings a.0 a.1 a.2 a.3 a.4 in
      one-any (λ p. list_any (shared_by_two rings p) (points_among rings)) (points_among rings) two.first two.first_among
      (one-any (shared_by_two rings two.first) (points_among rings) two.second two.second_among two.shared),
)
