-- What the places of the ends of lines show of a matrix: the boundary of lines is those of their ends that count, so of its row the
-- entries of their places have a point, and no others do.
use Rattle.std.proofs.Common.{◌≡◌, refl, ap, sym, ◌∙◌, subst, Bool, true, false, ◌&&◌, ◌||◌, List, [], ◌∷◌, ◌++◌}
use Rattle.std.specs.Prelude.{if◌then◌else◌}
use Rattle.std.specs.List.{count_by, flat_map, list_any}
use Rattle.std.proofs.lemmas.Bool.{and_parts, both_ways, false_from_ne_true}
use Rattle.sf_grid.specs.EvenOdd.{is_odd}
use Rattle.sf_grid.specs.Plane.{Coordinates, IsPoint, Point as PlanePoint, grid_point, same_point}
use Rattle.sf_grid.proofs.CallerLemmas.{same_tests}
use Rattle.sf_strips.specs.declared.piece.Piece.{Piece}
use Rattle.sf_geometry.specs.declared.geometry.Geometry.{Geometry}
use Rattle.sf_geometry.specs.declared.geometry.Geometry.TheVariants.{LineString, MultiLineString, MultiPoint, MultiPolygon, Point, Polygon}
use Rattle.sf_geometry.specs.Lists.{ends_of as ends_of_line}
use Rattle.sf_geometry.specs.Parts.{ends_of}
use Rattle.sf_geometry.specs.PointSets.{in_boundary, in_exterior, in_interior, is_among}
use Rattle.sf_interiors.proofs.DimensionLaws.{is_grid}
use Rattle.sf_known.proofs.KnownLaws.{both_hold}
use Rattle.sf_known.proofs.OrderLaws.{at-most-two, greater-same}
use Rattle.sf_known.specs.declared.known.Known.{Known}
use Rattle.sf_known.specs.Known.{Holds, IsAtMost, known_by_both, nothing_known}
use Rattle.sf_known.specs.Patterns.{is_filled}
use Rattle.sf_known.specs.Transposed.{known_transposed}
use Rattle.sf_plane.proofs.CombineLaws.{and_union}
use Rattle.sf_plane.proofs.CoverLaws.{in_append_left}
use Rattle.sf_plane.specs.declared.dim.Dim.{Dim}
use Rattle.sf_plane.specs.declared.dim.Dim.TheVariants as dims
use Rattle.sf_plane.specs.Dimension.{HasDimension, HasSegment, PointSet}
use Rattle.sf_plane.specs.Unions.{IsUnionOfCells}
use Rattle.sf_relate.proofs.FoundLaws.{nothing-holds}
use Rattle.sf_relate.proofs.SetLaws.{boundary_union, exterior_union, first_has, interior_union, matrices_are_over_the_plane, second_has}
use Rattle.sf_relate.proofs.SharedLaws.{filled, fills, one_cell}
use Rattle.sf_relate.specs.AllPieces.{all_pieces}
use Rattle.sf_relate.specs.Matrices.{both, matrix_of}
use Rattle.sf_relate.specs.Places.{shape_of}
use Rattle.sf_relate.specs.declared.shape.Shape.TheVariants.{Lines}
use Rattle.sf_valid_rules.proofs.MemberLaws.{HasOne, any-one, count-same, each-from_in, in_flat_map, one-any}
use Rattle.sf_valid_rules.specs.Validity.{IsValid}
use Rattle.sf_linework.specs.declared.ends.Seen.{Seen}
use Rattle.sf_linework.specs.Ends.{EndsAreKnown, boundary_row, if_seen, is_all, is_lines, known_by_ends, known_by_own_ends, known_of_seen, seen_ends, seen_or}
use Rattle.sf_linework.proofs.AlongLaws.{ends-short, no-share, short-entry}
use Rattle.sf_linework.proofs.TurnedLaws.{turned}

-- ---- each point of the boundary of lines is one of their ends
-- an odd number is not none
odd-any : {A : Type 0} (t : A → Bool) (xs : List A) → is_odd (count_by t xs) ≡ true → list_any t xs ≡ true
odd-any {A} t xs h = by_test (list_any t xs) refl
  where
    none : (ys : List A) → count_by (λ (y : A). false) ys ≡ 0
    none [] = refl
    none (y ∷ ys) = none ys

    by_test : (b : Bool) → list_any t xs ≡ b → list_any t xs ≡ true
    by_test true e = e
    by_test false e =
        absurd (both_ways (is_odd (count_by t xs))
        (ap is_odd
        (count-same t (λ x. false) xs
        (each-from_in (λ x. t x ≡ false) xs (λ x i. false_from_ne_true (t x) (λ k. both_ways (list_any t xs) e (one-any t xs x i k))))
        ∙ none xs))
        h)

abbrev pub IsEnd : List Coordinates → PlanePoint → Type 0
IsEnd ps q = HasOne (λ p. same_point (grid_point p) q) ps

pub end-of : (a : Geometry) (q : PlanePoint) → is_lines a ≡ true → in_boundary a q ≡ true → IsEnd (ends_of a) q
end-of (LineString ps) q s h =
    let end = any-one (λ p. same_point (grid_point p) q) (ends_of_line ps) h in
    record { one = end.one; among = in_append_left (ends_of_line ps) [] end.one end.among; passes = end.passes }
end-of (MultiLineString lines) q s h =
    let line = any-one (λ ps. is_among (ends_of_line ps) q) lines (odd-any (λ ps. is_among (ends_of_line ps) q) lines h) in
    let end = any-one (λ p. same_point (grid_point p) q) (ends_of_line line.one) line.passes in
    record { one = end.one; among = in_flat_map ends_of_line lines line.one end.one line.among end.among; passes = end.passes }
end-of (Point p) q s h = absurd (both_ways false refl s)
end-of (MultiPoint ps) q s h = absurd (both_ways false refl s)
end-of (Polygon rings) q s h = absurd (both_ways false refl s)
end-of (MultiPolygon polygons) q s h = absurd (both_ways false refl s)

-- ---- of the boundary a union of cells has a point just where it has one of the ends
-- of the set an end is as each point that is the same
pub as-end : (all : List Piece) (set : PointSet) (p : Coordinates) (q : PlanePoint) → IsUnionOfCells all set → IsPoint q → same_point (grid_point p) q ≡ true → set (grid_point p) ≡ set q
as-end all set p q u i s = u (grid_point p) q (is_grid p) i (one_cell all (grid_point p) q (is_grid p) i s)

at-ends : (all : List Piece) (a : Geometry) (set : PointSet) (d : Dim) → is_lines a ≡ true → IsUnionOfCells all (in_boundary a) → IsUnionOfCells all set
    → HasDimension (both (in_boundary a) set) d → is_filled d ≡ list_any (λ p. both (in_boundary a) set (grid_point p)) (ends_of a)
at-ends all a set d s edge u h = same_tests (is_filled d) (list_any (λ p. both (in_boundary a) set (grid_point p)) (ends_of a)) there back
  where
    there : is_filled d ≡ true → list_any (λ p. both (in_boundary a) set (grid_point p)) (ends_of a) ≡ true
    there f =
        let found = filled (both (in_boundary a) set) d h f in
        let end = end-of a found.point s (and_parts (in_boundary a found.point) (set found.point) found.has).0 in
        one-any (λ p. both (in_boundary a) set (grid_point p)) (ends_of a) end.one end.among
        (as-end all (both (in_boundary a) set) end.one found.point (and_union all (in_boundary a) set edge u) found.is_point end.passes ∙ found.has)

    back : list_any (λ p. both (in_boundary a) set (grid_point p)) (ends_of a) ≡ true → is_filled d ≡ true
    back t =
        let end = any-one (λ p. both (in_boundary a) set (grid_point p)) (ends_of a) t in
        fills (both (in_boundary a) set) d h (record { point = grid_point end.one; is_point = is_grid end.one; has = end.passes })

-- ---- an entry of the row
pub are-lines : (a : Geometry) → is_lines a ≡ true → shape_of a ≡ Lines
are-lines (LineString ps) s = refl
are-lines (MultiLineString lines) s = refl
are-lines (Point p) s = absurd (both_ways false refl s)
are-lines (MultiPoint ps) s = absurd (both_ways false refl s)
are-lines (Polygon rings) s = absurd (both_ways false refl s)
are-lines (MultiPolygon polygons) s = absurd (both_ways false refl s)

-- a part of the boundary has no length
part-short : (a : Geometry) (set : PointSet) → IsValid a → is_lines a ≡ true → ¬ (HasSegment (both (in_boundary a) set))
part-short a set v s h =
    ends-short a v (are-lines a s)
    (record { a = h.a; b = h.b; is_a = h.is_a; is_b = h.is_b; differ = h.differ; has = λ p i j. (and_parts (in_boundary a p) (set p) (h.has p i j)).0 })

pub of-point : (b : Bool) (d : Dim) → is_filled d ≡ b → IsAtMost d dims.Zero → if_seen b ≡ d
of-point true dims.Nothing h k = absurd (both_ways false refl h)
of-point false dims.Nothing h k = refl
of-point true dims.Zero h k = refl
of-point false dims.Zero h k = absurd (both_ways true h refl)
of-point b dims.One h k = absurd cc
of-point b dims.Two h k = absurd cc

entry : (a b : Geometry) (set : PointSet) (d : Dim) → IsValid a → is_lines a ≡ true → IsUnionOfCells (all_pieces a b) set → HasDimension (both (in_boundary a) set) d
    → if_seen (list_any (λ p. both (in_boundary a) set (grid_point p)) (ends_of a)) ≡ d
entry a b set d v s u h =
    let all = all_pieces a b in
    of-point (list_any (λ p. both (in_boundary a) set (grid_point p)) (ends_of a)) d (at-ends all a set d s (boundary_union all a (first_has a b)) u h)
    (short-entry (both (in_boundary a) set) d h (part-short a set v s))

-- ---- the row
abbrev row_with : Dim → Dim → Dim → Known
row_with bi bb be =
    record {
      least = dims.Nothing ∷ dims.Nothing ∷ dims.Nothing ∷ bi ∷ bb ∷ be ∷ dims.Nothing ∷ dims.Nothing ∷ dims.Nothing ∷ [];
      most = dims.Two ∷ dims.Two ∷ dims.Two ∷ bi ∷ bb ∷ be ∷ dims.Two ∷ dims.Two ∷ dims.Two ∷ [];
      contact = false;
    }

same-rows : (b c d e f g : Dim) → b ≡ e → c ≡ f → d ≡ g → row_with b c d ≡ row_with e f g
same-rows b c d e f g h i j = ap (λ x. row_with x c d) h ∙ ap (λ x. row_with e x d) i ∙ ap (λ x. row_with e f x) j

ends-row : (a b : Geometry) → IsValid a → is_lines a ≡ true → known_of_seen (seen_ends a b (ends_of a)) ≡ boundary_row (matrix_of a b)
ends-row a b v s =
    let m = (matrices_are_over_the_plane a b).computed in
    let all = all_pieces a b in
    let has = second_has a b in
    same-rows _ _ _ _ _ _
    (entry a b (in_interior b) _ v s (interior_union all b has) m.1.1.1.0)
    (entry a b (in_boundary b) _ v s (boundary_union all b has) m.1.1.1.1.0)
    (entry a b (in_exterior b) _ v s (exterior_union all b has) m.1.1.1.1.1.0)

-- ---- what is known holds
row-holds : (ii ib ie bi bb be ei eb ee : Dim) → Holds (row_with bi bb be) (ii ∷ ib ∷ ie ∷ bi ∷ bb ∷ be ∷ ei ∷ eb ∷ ee ∷ [])
row-holds ii ib ie bi bb be ei eb ee =
    record {
      least = (refl, (refl, (refl, (greater-same bi, (greater-same bb, (greater-same be, (refl, (refl, (refl, refl)))))))));
      most = (
        at-most-two ii,
        (at-most-two ib, (at-most-two ie, (greater-same bi, (greater-same bb, (greater-same be, (at-most-two ei, (at-most-two eb, (at-most-two ee, refl)))))))),
      );
      contact = no-share (ii ∷ ib ∷ ie ∷ bi ∷ bb ∷ be ∷ ei ∷ eb ∷ ee ∷ []);
    }

matrix-row-holds : (a b : Geometry) → Holds (boundary_row (matrix_of a b)) (matrix_of a b)
matrix-row-holds a b = row-holds _ _ _ _ _ _ _ _ _

if-holds : (c : Bool) (known : Known) (a b : Geometry) → Holds known (matrix_of a b) → Holds (if c then known else nothing_known) (matrix_of a b)
if-holds true known a b h = h
if-holds false known a b h = nothing-holds a b

ends-hold : (a b : Geometry) → Holds (known_by_ends a b) (matrix_of a b)
ends-hold a b =
    both_hold (known_by_own_ends a b) (if is_lines b then known_transposed (boundary_row (matrix_of b a)) else nothing_known) (matrix_of a b)
    (if-holds (is_lines a) (boundary_row (matrix_of a b)) a b (matrix-row-holds a b))
    (if-holds (is_lines b) (known_transposed (boundary_row (matrix_of b a))) a b (turned a b (boundary_row (matrix_of b a)) (matrix-row-holds b a)))

pub ends_are_known : EndsAreKnown
ends_are_known a b v w = record { row = λ s. ends-row a b v s; holds = ends-hold a b }

-- ---- in which places ends were seen
same-seen : (b c d e f g : Bool) → b ≡ e → c ≡ f → d ≡ g → ◌≡◌ {A = Seen} (record { interior = b; boundary = c; exterior = d }) (record { interior = e; boundary = f; exterior = g })
same-seen b c d e f g h i j =
    ap (λ (x : Bool). record { interior = x; boundary = c; exterior = d }) h
    ∙ ap (λ (x : Bool). record { interior = e; boundary = x; exterior = d }) i
    ∙ ap (λ (x : Bool). record { interior = e; boundary = f; exterior = x }) j

or-or : (a b c : Bool) → ((a || b) || c) ≡ (a || (b || c))
or-or true b c = refl
or-or false b c = refl

seen-seen : (s t u : Seen) → seen_or (seen_or s t) u ≡ seen_or s (seen_or t u)
seen-seen s t u = same-seen _ _ _ _ _ _ (or-or s.interior t.interior u.interior) (or-or s.boundary t.boundary u.boundary) (or-or s.exterior t.exterior u.exterior)

any-append : (t : Coordinates → Bool) (ps qs : List Coordinates) → (list_any t ps || list_any t qs) ≡ list_any t (ps ++ qs)
any-append t [] qs = refl
any-append t (p ∷ ps) qs = or-or (t p) (list_any t ps) (list_any t qs) ∙ ap (λ b. t p || b) (any-append t ps qs)

-- those of two lists
seen-append : (lines other : Geometry) (ps qs : List Coordinates) → seen_or (seen_ends lines other ps) (seen_ends lines other qs) ≡ seen_ends lines other (ps ++ qs)
seen-append lines other ps qs =
    same-seen _ _ _ _ _ _
    (any-append (λ p. both (in_boundary lines) (in_interior other) (grid_point p)) ps qs)
    (any-append (λ p. both (in_boundary lines) (in_boundary other) (grid_point p)) ps qs)
    (any-append (λ p. both (in_boundary lines) (in_exterior other) (grid_point p)) ps qs)

-- of the two ends of a line
pub two-ends : (lines other : Geometry) (p q : Coordinates) (ends : List Coordinates) (first last found : Seen) → ends ≡ p ∷ q ∷ [] → first ≡ seen_ends lines other (p ∷ [])
    → last ≡ seen_ends lines other (q ∷ []) → found ≡ seen_or first last → found ≡ seen_ends lines other ends
two-ends lines other p q ends first last found e f l h =
    h ∙ ap (λ s. seen_or s last) f ∙ ap (seen_or (seen_ends lines other (p ∷ []))) l ∙ seen-append lines other (p ∷ []) (q ∷ []) ∙ ap (seen_ends lines other) (sym e)

-- from one line to the next
pub seen-turn : (found by next whole : Seen) (lines other : Geometry) (es fs left : List Coordinates) → next ≡ seen_or found by → by ≡ seen_ends lines other es → left ≡ es ++ fs
    → seen_or found (seen_ends lines other left) ≡ whole → seen_or next (seen_ends lines other fs) ≡ whole
seen-turn found by next whole lines other es fs left n b l h =
    ap (λ s. seen_or s (seen_ends lines other fs)) (n ∙ ap (seen_or found) b)
    ∙ seen-seen found (seen_ends lines other es) (seen_ends lines other fs)
    ∙ ap (seen_or found) (seen-append lines other es fs ∙ ap (seen_ends lines other) (sym l))
    ∙ h

-- where ends were seen in all places, what is left changes nothing
pub decided : (next left whole : Seen) → is_all next ≡ true → seen_or next left ≡ whole → next ≡ whole
decided next left whole all h =
    let last = and_parts (next.interior && next.boundary) next.exterior all in
    let first = and_parts next.interior next.boundary last.0 in
    same-seen _ _ _ _ _ _ (stays next.interior left.interior first.0) (stays next.boundary left.boundary first.1) (stays next.exterior left.exterior last.1) ∙ h
  where
    stays : (b c : Bool) → b ≡ true → b ≡ (b || c)
    stays true c k = refl
    stays false c k = absurd (both_ways false refl k)

-- ---- as it is called
append-none : (ps : List Coordinates) → ps ++ [] ≡ ps
append-none [] = refl
append-none (p ∷ ps) = ap (λ qs. p ∷ qs) (append-none ps)

own-row : (a b : Geometry) (known : Known) → IsValid a → is_lines a ≡ true → known ≡ known_of_seen (seen_ends a b (ends_of a)) → known ≡ known_by_own_ends a b
own-row a b known v s same = same ∙ ends-row a b v s ∙ sym (ap (λ c. if c then boundary_row (matrix_of a b) else nothing_known) s)

pub line-row : (a b : Geometry) (line : List Coordinates) (seen : Seen) (known : Known) → IsValid a → a ≡ LineString line → seen ≡ seen_ends a b (ends_of_line line)
    → known ≡ known_of_seen seen → known ≡ known_by_own_ends a b
line-row a b line seen known v is of same =
    own-row a b known v (ap is_lines is) (same ∙ ap known_of_seen (of ∙ ap (seen_ends a b) (sym (ap ends_of is ∙ append-none (ends_of_line line)))))

pub lines-row : (a b : Geometry) (lines : List (List Coordinates)) (seen : Seen) (known : Known) → IsValid a → a ≡ MultiLineString lines
    → seen ≡ seen_ends a b (flat_map ends_of_line lines) → known ≡ known_of_seen seen → known ≡ known_by_own_ends a b
lines-row a b lines seen known v is of same =
    own-row a b known v (ap is_lines is) (same ∙ ap known_of_seen (of ∙ ap (seen_ends a b) (sym (ap ends_of is))))

pub known-ends : (a b : Geometry) (own other turn known : Known) → own ≡ known_by_own_ends a b → other ≡ known_by_own_ends b a → turn ≡ known_transposed other
    → known ≡ known_by_both own turn → known ≡ known_by_ends a b
known-ends a b own other turn known o p t same =
    same
    ∙ ap (λ k. known_by_both k turn) o
    ∙ ap (known_by_both (known_by_own_ends a b)) (t ∙ ap known_transposed p ∙ by_test (is_lines b))
  where
    by_test : (c : Bool) → known_transposed (if c then boundary_row (matrix_of b a) else nothing_known) ≡ (if c then known_transposed (boundary_row (matrix_of b a)) else nothing_known)
    by_test true = refl
    by_test false = refl

pub known-ends-hold : (a b : Geometry) (known : Known) → known ≡ known_by_ends a b → Holds known (matrix_of a b)
known-ends-hold a b known is = subst (λ (k : Known). Holds k (matrix_of a b)) (sym is) (ends-hold a b)
