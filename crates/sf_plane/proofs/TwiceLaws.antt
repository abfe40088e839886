-- Two edges with two common points have two samples in common: the ends of the piece that they share.
use Rattle.std.proofs.Common.{◌≡◌, ◌≢◌, refl, ap, sym, ◌∙◌, ℕ, ◌<◌, ℤ, pos, ◌+ℤ◌, ◌-ℤ◌, ◌*ℤ◌, ◌<ℤ◌, lit<, arith, Bool, true, false, List, [], ◌∷◌, inl, inr}
use Rattle.std.specs.Ordering.{int_eq}
use Rattle.std.proofs.lemmas.Bool.{and_parts, both_ways, cases_Bool}
use Rattle.std.proofs.lemmas.Int.{ints}
use Rattle.std.proofs.lemmas.List.Elements.{All-contains}
use Rattle.sf_grid.specs.Plane.{Coordinates, IsPoint, IsSamePoint, Point, grid_point, same_point}
use Rattle.sf_grid.specs.Edge.{Edge as Line, cross_of_directions}
use Rattle.sf_grid.specs.Sharing.{IsOnBoth, IsSharing, comes_before, earlier_of, later_of}
use Rattle.sf_grid.specs.declared.meet.Meet.TheVariants.{Along}
use Rattle.sf_grid.proofs.CallerLemmas.{Collinear, along-collinear, apart-collinear, at-collinear, cross-mean, differs_from_before, earlier_is, end_side, eq_from_test, later_is, lies, mean-on_edge, mul, on_edge-same_point, on_edge-swap, ring, same_coordinates, same_point_is_equivalence, shared_once, sides_differ, start_side, sum, test_from_eq, var, weight_a, weight_b, zero_from_mul}
use Rattle.sf_strips.specs.declared.piece.Piece.{Piece}
use Rattle.sf_strips.specs.declared.piece.Piece.TheVariants.{Edge}
use Rattle.sf_cells.specs.Samples.{samples}
use Rattle.sf_plane.proofs.CombineLaws.{end_zero, start_on_edge}
use Rattle.sf_plane.proofs.CoverLaws.{every_point}
use Rattle.sf_plane.proofs.PlaceLaws.{IsIn}
use Rattle.sf_plane.proofs.SampleCellLaws.{every_sample}
use Rattle.sf_plane.proofs.ShareLaws.{in_from_contains}
use Rattle.sf_plane.specs.Cover.{IsInCell, dimension_at}
use Rattle.sf_plane.specs.Laws.{SharedPointsAreSampled, ShareTwoPoints}

-- ---- edges with two common points are of one line
parallel : (e f : Line) → ShareTwoPoints e f → cross_of_directions e f ≡ pos 0
parallel e f h =
    elim (cases_Bool (int_eq (cross_of_directions e f) (pos 0))) [
      | inl t ↦ eq_from_test (cross_of_directions e f) (pos 0) t
      | inr n ↦
          absurd (both_ways _ h.differ
          (shared_once e f h.first h.second (λ z. both_ways _ n (test_from_eq (cross_of_directions e f) (pos 0) z)) h.first_on_both h.second_on_both))
    ]

-- a point of both edges puts the one's ends on the other's line
ends_on_line : (e f : Line) (p : Point) → IsPoint p → e.a ≢ e.b → IsOnBoth e f p → cross_of_directions e f ≡ pos 0 → (start_side f e ≡ pos 0) × (end_side f e ≡ pos 0)
ends_on_line e f p i n both z = (start, same_end (start_side f e) (end_side f e) start (sides_differ e f ∙ z))
  where
    same_end : (s t : ℤ) → s ≡ pos 0 → s -ℤ t ≡ pos 0 → t ≡ pos 0
    same_end s t k l = omega (arith, ints)

    same_sides : (s t : ℤ) → s -ℤ t ≡ pos 0 → t ≡ s
    same_sides s t k = omega (arith, ints)

    positive : (d : ℕ) → 0 < d → pos 0 <ℤ pos d
    positive d k = omega (arith, ints)

    none : (m : ℤ) → m *ℤ pos 0 ≡ pos 0
    none m = omega (arith, ints)

    start : start_side f e ≡ pos 0
    start =
        let m = weight_a e p in
        let k = weight_b e p in
        let mean = mean-on_edge e p i n both.0 in
        zero_from_mul (m +ℤ k) (start_side f e) mean.total
        (zero_from_mul (pos p.d) ((m +ℤ k) *ℤ start_side f e) (positive p.d i.positive)
        (ring (m ∷ k ∷ start_side f e ∷ pos p.d ∷ [])
        (mul (var 3) (mul (sum (var 0) (var 1)) (var 2)))
        (mul (sum (mul (var 0) (var 2)) (mul (var 1) (var 2))) (var 3))
        refl
        ∙ ap (λ t. (m *ℤ start_side f e +ℤ k *ℤ t) *ℤ pos p.d) (sym (same_sides (start_side f e) (end_side f e) (sides_differ e f ∙ z)))
        ∙ sym (cross-mean f.a f.b e p m k mean)
        ∙ ap (λ t. (m +ℤ k) *ℤ t) (lies f p both.1).line
        ∙ none (m +ℤ k)))

-- ---- the ends of what they share
abbrev low_of : Line → Line → Coordinates
low_of e f = later_of (earlier_of e.a e.b) (earlier_of f.a f.b)

abbrev high_of : Line → Line → Coordinates
high_of e f = earlier_of (later_of e.a e.b) (later_of f.a f.b)

along : (e f : Line) → e.a ≢ e.b → f.a ≢ f.b → ShareTwoPoints e f → IsSharing e f (Along (low_of e f) (high_of e f))
along e f n m h = by_order (comes_before (low_of e f) (high_of e f)) refl (comes_before (high_of e f) (low_of e f)) refl
  where
    line : (start_side f e ≡ pos 0) × (end_side f e ≡ pos 0)
    line = ends_on_line e f h.first h.is_first n h.first_on_both (parallel e f h)

    collinear : Collinear e.a e.b f.a f.b (low_of e f) (high_of e f)
    collinear = record { first = n; second = m; start = line.0; end = line.1; low_is = refl; high_is = refl }

    by_order : (s : Bool) → comes_before (low_of e f) (high_of e f) ≡ s → (t : Bool) → comes_before (high_of e f) (low_of e f) ≡ t → IsSharing e f (Along (low_of e f) (high_of e f))
    by_order true k t l = along-collinear e.a e.b f.a f.b (low_of e f) (high_of e f) collinear k
    by_order false k true l = absurd (apart-collinear e.a e.b f.a f.b (low_of e f) (high_of e f) collinear l h.first h.is_first h.first_on_both)
    by_order false k false l =
        let one = at-collinear e.a e.b f.a f.b (low_of e f) (high_of e f) collinear k l in
        absurd (both_ways _ h.differ
        (same_point_is_equivalence.transitive h.first (grid_point (low_of e f)) h.second (record { positive = lit< tt })
        ((one.1 h.first h.is_first).0 h.first_on_both)
        (same_point_is_equivalence.symmetric h.second (grid_point (low_of e f)) ((one.1 h.second h.is_second).0 h.second_on_both))))

-- ---- their samples
is_grid : (v : Coordinates) → IsPoint (grid_point v)
is_grid v = record { positive = lit< tt }

abbrev IsZero : List Piece → Coordinates → Type 0
IsZero pieces v = dimension_at pieces (grid_point v) ≡ 0

start_zero : (pieces : List Piece) (a b : Coordinates) → IsIn pieces (Edge a b) → IsZero pieces a
start_zero pieces a b i = end_zero pieces a b a i (inl refl) (start_on_edge a b)

last_zero : (pieces : List Piece) (a b : Coordinates) → IsIn pieces (Edge a b) → IsZero pieces b
last_zero pieces a b i = end_zero pieces a b b i (inr refl) (on_edge-swap a b (grid_point b) ∙ start_on_edge b a)

low_zero : (pieces : List Piece) (e f : Line) → IsIn pieces (Edge e.a e.b) → IsIn pieces (Edge f.a f.b) → IsZero pieces (low_of e f)
low_zero pieces e f i j =
    later_is (IsZero pieces) (earlier_of e.a e.b) (earlier_of f.a f.b)
    (earlier_is (IsZero pieces) e.a e.b (start_zero pieces e.a e.b i) (last_zero pieces e.a e.b i))
    (earlier_is (IsZero pieces) f.a f.b (start_zero pieces f.a f.b j) (last_zero pieces f.a f.b j))

high_zero : (pieces : List Piece) (e f : Line) → IsIn pieces (Edge e.a e.b) → IsIn pieces (Edge f.a f.b) → IsZero pieces (high_of e f)
high_zero pieces e f i j =
    earlier_is (IsZero pieces) (later_of e.a e.b) (later_of f.a f.b)
    (later_is (IsZero pieces) e.a e.b (start_zero pieces e.a e.b i) (last_zero pieces e.a e.b i))
    (later_is (IsZero pieces) f.a f.b (start_zero pieces f.a f.b j) (last_zero pieces f.a f.b j))

once : (s t : ℤ) → s *ℤ pos 1 ≡ t *ℤ pos 1 → s ≡ t
once s t l = omega (arith, ints)

one_point : (u v : Coordinates) → IsSamePoint (grid_point u) (grid_point v) → u ≡ v
one_point u v k =
    let parts = and_parts (int_eq (u.x *ℤ pos 1) (v.x *ℤ pos 1)) (int_eq (u.y *ℤ pos 1) (v.y *ℤ pos 1)) k in
    same_coordinates u v (once u.x v.x (eq_from_test (u.x *ℤ pos 1) (v.x *ℤ pos 1) parts.0)) (once u.y v.y (eq_from_test (u.y *ℤ pos 1) (v.y *ℤ pos 1) parts.1))

moved : (e f : Line) (p : Point) (v : Coordinates) → IsPoint p → IsSamePoint (grid_point v) p → IsOnBoth e f (grid_point v) → IsOnBoth e f p
moved e f p v i h k = (
  on_edge-same_point e p (grid_point v) i (is_grid v) (same_point_is_equivalence.symmetric (grid_point v) p h) k.0,
  on_edge-same_point f p (grid_point v) i (is_grid v) (same_point_is_equivalence.symmetric (grid_point v) p h) k.1,
)

pub shared_sampled : SharedPointsAreSampled
shared_sampled pieces e f m n differ differ' h =
    let i = in_from_contains pieces (Edge e.a e.b) m in
    let j = in_from_contains pieces (Edge f.a f.b) n in
    let shared = along e f differ differ' h in
    let low = low_of e f in
    let high = high_of e f in
    let on_low = (shared.1 (grid_point low) (is_grid low)).1 (start_on_edge low high) in
    let on_high = (shared.1 (grid_point high) (is_grid high)).1 (on_edge-swap low high (grid_point high) ∙ start_on_edge high low) in
    let s = every_point pieces (grid_point low) (is_grid low) in
    let t = every_point pieces (grid_point high) (is_grid high) in
    let is_s = All-contains (λ o. IsPoint o.point × IsInCell pieces o.point o) (samples pieces) s.sample (every_sample pieces) s.among in
    let is_t = All-contains (λ o. IsPoint o.point × IsInCell pieces o.point o) (samples pieces) t.sample (every_sample pieces) t.among in
    let at_s = s.same (low_zero pieces e f i j) in
    let at_t = t.same (high_zero pieces e f i j) in
    record {
      first = s.sample;
      second = t.sample;
      first_among = s.among;
      second_among = t.among;
      differ =
          elim (cases_Bool (same_point s.sample.point t.sample.point)) [
            | inr no' ↦ no'
            | inl yes' ↦
                absurd (differs_from_before low high shared.0
                (one_point low high
                (same_point_is_equivalence.transitive (grid_point low) s.sample.point (grid_point high) is_s.0 at_s
                (same_point_is_equivalence.transitive s.sample.point t.sample.point (grid_point high) is_t.0 yes'
                (same_point_is_equivalence.symmetric (grid_point high) t.sample.point at_t)))))
          ];
      first_on_both = moved e f s.sample.point low is_s.0 at_s on_low;
      second_on_both = moved e f t.sample.point high is_t.0 at_t on_high;
    }
