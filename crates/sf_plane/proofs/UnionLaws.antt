-- The dimension of a set is one, and that of a union of cells is the greatest of a sample in it.
use Rattle.std.proofs.Common.{◌≡◌, refl, ap, sym, ◌∙◌, subst, ℕ, zero, suc, ◌+◌, ◌<◌, ◌≤◌, length, ℤ, pos, ◌-ℤ◌, ◌*ℤ◌, lit<, arith, slice_index_or, Bool, true, false, List, [], ◌∷◌, ◌⊎◌, inl, inr, ◌↔◌, ◌||◌}
use Rattle.std.specs.Prelude.{IsTrue, if◌then◌else◌}
use Rattle.std.specs.List.{All, AllByRecursion, Any}
use Rattle.std.proofs.lemmas.Bool.{and_from, both_ways, cases_Bool}
use Rattle.std.proofs.lemmas.Int.{ints}
use Rattle.std.proofs.lemmas.List.Elements.{All-contains, All-from_recursion}
use Rattle.sf_grid.specs.Fraction.{Fraction, fraction_eq, fraction_lt, whole}
use Rattle.sf_grid.specs.Plane.{Coordinates, IsPoint, IsSamePoint, Point, same_point, x_of, y_of}
use Rattle.sf_grid.specs.Edge.{edge_between, height_at, is_vertical, reaches}
use Rattle.sf_grid.proofs.CallerLemmas.{Same, dif, eq_from_test, mul, num, ring, same_point_is_equivalence, sum, test_from_eq, var}
use Rattle.sf_strips.specs.declared.piece.Piece.{Piece}
use Rattle.sf_strips.specs.declared.piece.Piece.TheVariants.{Dot, Edge}
use Rattle.sf_cells.specs.Pieces.{ends_of, heights_of, if_in_column}
use Rattle.sf_cells.specs.Samples.{Sample, dimension, events, samples}
use Rattle.sf_slabs.proofs.CallerLemmas.{Among, Some_in, Some_in-map, each-map, event_places, event_places-numbers, heights_in, if_cases, is-event, rising_order}
use Rattle.sf_plane.proofs.CompareLaws.{same_self}
use Rattle.sf_plane.proofs.CoverLaws.{each_flat_in, every_point, test_among, among_test}
use Rattle.sf_plane.proofs.FormLaws.{Form, mean-point, mean_of_three-point, value, zero-same}
use Rattle.sf_plane.proofs.GuardLaws.{HasAlikeSegment, HasAlikeTriangle, IsLevelWith, alike_along, alike_triangle, alike_up}
use Rattle.sf_plane.proofs.MissLaws.{free_point, is_between, open_point}
use Rattle.sf_plane.proofs.PlaceLaws.{IsIn}
use Rattle.sf_plane.proofs.SampleCellLaws.{each_sample, every_sample, sorted_among}
use Rattle.sf_plane.proofs.StripLaws.{Among-same, among_has}
use Rattle.sf_plane.specs.declared.dim.Dim.{Dim}
use Rattle.sf_plane.specs.declared.dim.Dim.TheVariants.{Nothing, One, Two, Zero}
use Rattle.sf_plane.specs.Cover.{IsInCell, dimension_at, is_among}
use Rattle.sf_plane.specs.Dimension.{HasDimension, HasPoint, HasSegment, HasTriangle, PointSet, area, mean, mean_of_three}
use Rattle.sf_plane.specs.Laws.{DimensionIsUnique, SamplesTellOfUnions}
use Rattle.sf_plane.specs.Unions.{AreAlike, AreInOneCell, IsSampleOf, IsUnionOfCells, dim_of, dimension_by_samples, greater_dim, greatest_dim}

-- ---- a triangle has segments, a segment has points
-- the weights of a point between a corner and the middle of a triangle
same_weights : (m n : ℕ) (a b c : Point) → IsSamePoint (mean m n a (mean_of_three 1 1 1 a b c)) (mean_of_three (m + n) n n a b c)
same_weights m n a b c =
    and_from _ _
    (test_from_eq _ _
    (ring (a.x ∷ pos a.d ∷ b.x ∷ pos b.d ∷ c.x ∷ pos c.d ∷ pos m ∷ pos n ∷ [])
    (mul
    (sum (mul (var 0) (var 6)) (mul (sum (sum (mul (var 0) (num (pos 1))) (mul (var 2) (num (pos 1)))) (mul (var 4) (num (pos 1)))) (var 7)))
    (sum (sum (mul (var 1) (sum (var 6) (var 7))) (mul (var 3) (var 7))) (mul (var 5) (var 7))))
    (mul
    (sum (sum (mul (var 0) (sum (var 6) (var 7))) (mul (var 2) (var 7))) (mul (var 4) (var 7)))
    (sum (mul (var 1) (var 6)) (mul (sum (sum (mul (var 1) (num (pos 1))) (mul (var 3) (num (pos 1)))) (mul (var 5) (num (pos 1)))) (var 7))))
    refl))
    (test_from_eq _ _
    (ring (a.y ∷ pos a.d ∷ b.y ∷ pos b.d ∷ c.y ∷ pos c.d ∷ pos m ∷ pos n ∷ [])
    (mul
    (sum (mul (var 0) (var 6)) (mul (sum (sum (mul (var 0) (num (pos 1))) (mul (var 2) (num (pos 1)))) (mul (var 4) (num (pos 1)))) (var 7)))
    (sum (sum (mul (var 1) (sum (var 6) (var 7))) (mul (var 3) (var 7))) (mul (var 5) (var 7))))
    (mul
    (sum (sum (mul (var 0) (sum (var 6) (var 7))) (mul (var 2) (var 7))) (mul (var 4) (var 7)))
    (sum (mul (var 1) (var 6)) (mul (sum (sum (mul (var 1) (num (pos 1))) (mul (var 3) (num (pos 1)))) (mul (var 5) (num (pos 1)))) (var 7))))
    refl))

-- the line through two corners, as a form
abbrev base : Point → Point → Form
base a c =
    record {
      x = a.y *ℤ pos c.d -ℤ c.y *ℤ pos a.d;
      y = c.x *ℤ pos a.d -ℤ a.x *ℤ pos c.d;
      d = a.x *ℤ c.y -ℤ c.x *ℤ a.y;
    }

base-corner : (a c : Point) → value (base a c) a ≡ pos 0
base-corner a c =
    ring (a.x ∷ a.y ∷ pos a.d ∷ c.x ∷ c.y ∷ pos c.d ∷ [])
    (sum (sum
    (mul (dif (mul (var 1) (var 5)) (mul (var 4) (var 2))) (var 0))
    (mul (dif (mul (var 3) (var 2)) (mul (var 0) (var 5))) (var 1)))
    (mul (dif (mul (var 0) (var 4)) (mul (var 3) (var 1))) (var 2)))
    (num (pos 0))
    refl

base-middle : (a b c : Point) → value (base a c) (mean_of_three 1 1 1 a b c) ≡ pos 0 -ℤ area a b c
base-middle a b c =
    ring (a.x ∷ a.y ∷ pos a.d ∷ b.x ∷ b.y ∷ pos b.d ∷ c.x ∷ c.y ∷ pos c.d ∷ [])
    (sum (sum
    (mul (dif (mul (var 1) (var 8)) (mul (var 7) (var 2))) (sum (sum (mul (var 0) (num (pos 1))) (mul (var 3) (num (pos 1)))) (mul (var 6) (num (pos 1)))))
    (mul (dif (mul (var 6) (var 2)) (mul (var 0) (var 8))) (sum (sum (mul (var 1) (num (pos 1))) (mul (var 4) (num (pos 1)))) (mul (var 7) (num (pos 1))))))
    (mul (dif (mul (var 0) (var 7)) (mul (var 6) (var 1))) (sum (sum (mul (var 2) (num (pos 1))) (mul (var 5) (num (pos 1)))) (mul (var 8) (num (pos 1))))))
    (dif (num (pos 0))
    (sum (sum
    (mul (var 0) (dif (mul (var 4) (var 8)) (mul (var 7) (var 5))))
    (mul (var 3) (dif (mul (var 7) (var 2)) (mul (var 1) (var 8)))))
    (mul (var 6) (dif (mul (var 1) (var 5)) (mul (var 4) (var 2))))))
    refl

pub segment_in_triangle : (set : PointSet) → HasTriangle set → HasSegment set
segment_in_triangle set t =
    let g = mean_of_three 1 1 1 t.a t.b t.c in
    let is_g = mean_of_three-point 1 1 1 t.a t.b t.c t.is_a (lit< tt) in
    record {
      a = t.a;
      b = g;
      is_a = t.is_a;
      is_b = is_g;
      differ =
          elim (cases_Bool (same_point t.a g)) [
            | inl same ↦
                absurd (t.wide
                (no_area (area t.a t.b t.c) (value (base t.a t.c) g) (base-middle t.a t.b t.c)
                (zero-same (base t.a t.c) g t.a is_g t.is_a (same_point_is_equivalence.symmetric t.a g same) (base-corner t.a t.c))))
            | inr f ↦ f
          ];
      has =
          λ p i k.
          t.has p i
          (record {
            first = k.first + k.second;
            second = k.second;
            third = k.second;
            first_positive = either k.first k.second k.first_positive;
            second_positive = k.second_positive;
            third_positive = k.second_positive;
            same =
                same_point_is_equivalence.transitive p (mean k.first k.second t.a g) (mean_of_three (k.first + k.second) k.second k.second t.a t.b t.c)
                (mean-point k.first k.second t.a g t.is_a k.first_positive) k.same (same_weights k.first k.second t.a t.b t.c);
          });
    }
  where
    no_area : (s v : ℤ) → v ≡ pos 0 -ℤ s → v ≡ pos 0 → s ≡ pos 0
    no_area s v e f = omega (arith, ints)

    either : (m n : ℕ) → 0 < m → 0 < m + n
    either m n h = omega arith

pub point_in_segment : (set : PointSet) → HasSegment set → HasPoint set
point_in_segment set s =
    let i = mean-point 1 1 s.a s.b s.is_a (lit< tt) in
    record { point = mean 1 1 s.a s.b; is_point = i; has = s.has (mean 1 1 s.a s.b) i (is_between 1 s.a s.b (lit< tt)) }

pub dimension_is_unique : DimensionIsUnique
dimension_is_unique set Nothing Nothing h k = refl
dimension_is_unique set Nothing Zero h k = absurd (h k.0)
dimension_is_unique set Nothing One h k = absurd (h (point_in_segment set k.0))
dimension_is_unique set Nothing Two h k = absurd (h (point_in_segment set (segment_in_triangle set k)))
dimension_is_unique set Zero Nothing h k = absurd (k h.0)
dimension_is_unique set Zero Zero h k = refl
dimension_is_unique set Zero One h k = absurd (h.1 k.0)
dimension_is_unique set Zero Two h k = absurd (h.1 (segment_in_triangle set k))
dimension_is_unique set One Nothing h k = absurd (k (point_in_segment set h.0))
dimension_is_unique set One Zero h k = absurd (k.1 h.0)
dimension_is_unique set One One h k = refl
dimension_is_unique set One Two h k = absurd (h.1 k)
dimension_is_unique set Two Nothing h k = absurd (k (point_in_segment set (segment_in_triangle set h)))
dimension_is_unique set Two Zero h k = absurd (k.1 (segment_in_triangle set h))
dimension_is_unique set Two One h k = absurd (k.1 h)
dimension_is_unique set Two Two h k = refl

-- ---- around a point of a union of cells
-- off the events, a point at a height is on an edge
pub end_is_event : (pieces : List Piece) (r : Piece) (q : Fraction) → IsIn pieces r → Among (ends_of r) q → Among (event_places pieces) q
end_is_event pieces r q i a =
    is-event pieces q (inl (Some_in-map (λ o. o ≡ r) (λ o. Among (ends_of o) q) pieces (λ o e. subst (λ (v : Piece). Among (ends_of v) q) (sym e) a) i))

level_with : (pieces : List Piece) (p : Point) → IsPoint p → is_among (events pieces) (x_of p) ≡ false → is_among (heights_in pieces (x_of p)) (y_of p) ≡ true → IsLevelWith pieces p
level_with pieces p i n h =
    among_has (λ q. Same (y_of p) q → IsLevelWith pieces p) (heights_in pieces (x_of p)) (y_of p) (λ r k e _. k e)
    (each_flat_in (λ q. Same (y_of p) q → IsLevelWith pieces p) (heights_of (x_of p)) pieces by_piece)
    (test_among (heights_in pieces (x_of p)) (y_of p) h)
    (same_self (y_of p))
  where
    not_here : (a : Coordinates) (r : Piece) → IsIn pieces r → Among (ends_of r) (whole a.x) → fraction_eq (whole a.x) (x_of p) ≡ true → ⊥
    not_here a r k m t =
        both_ways _ n
        (sorted_among fraction_lt rising_order (event_places pieces) (x_of p) (record { positive = i.positive }) (event_places-numbers pieces)
        ∙ among_test (event_places pieces) (x_of p)
        (Among-same (event_places pieces) (whole a.x) (x_of p) (record { positive = lit< tt }) (sym (eq_from_test _ _ t)) (end_is_event pieces r (whole a.x) k m)))

    by_piece : (r : Piece) → IsIn pieces r → AllByRecursion (λ q. Same (y_of p) q → IsLevelWith pieces p) (heights_of (x_of p) r)
    by_piece (Edge a b) k =
        let e = edge_between a b in
        let P : Fraction → Type 0 = λ q. Same (y_of p) q → IsLevelWith pieces p in
        if_cases (AllByRecursion P) (is_vertical e) (if_in_column (x_of p) a (whole a.y ∷ whole b.y ∷ [])) (if reaches e (x_of p) then height_at e (x_of p) ∷ [] else [])
        (λ _. if_cases (AllByRecursion P) (fraction_eq (whole a.x) (x_of p)) (whole a.y ∷ whole b.y ∷ []) [] (λ t. absurd (not_here a (Edge a b) k (inl refl) t)) (λ _. tt))
        (λ s. if_cases (AllByRecursion P) (reaches e (x_of p)) (height_at e (x_of p) ∷ []) []
        (λ t. (λ l. record { edge = e; piece = k; slants = s; reached = t; level = l }, tt)) (λ _. tt))
    by_piece (Dot a) k =
        let P : Fraction → Type 0 = λ q. Same (y_of p) q → IsLevelWith pieces p in
        if_cases (AllByRecursion P) (fraction_eq (whole a.x) (x_of p)) (whole a.y ∷ []) [] (λ t. absurd (not_here a (Dot a) k (inl refl) t)) (λ _. tt)

triangle_from : (pieces : List Piece) (set : PointSet) (p : Point) → IsUnionOfCells pieces set → IsPoint p → set p ≡ true → HasAlikeTriangle pieces p → HasTriangle set
triangle_from pieces set p u i h t =
    record {
      a = t.a;
      b = t.b;
      c = t.c;
      is_a = t.is_a;
      is_b = t.is_b;
      is_c = t.is_c;
      wide = t.wide;
      has = λ q j k. sym (u p q i j (t.alike q j k)) ∙ h;
    }

segment_from : (pieces : List Piece) (set : PointSet) (p : Point) → IsUnionOfCells pieces set → IsPoint p → set p ≡ true → HasAlikeSegment pieces p → HasSegment set
segment_from pieces set p u i h s =
    record { a = p; b = s.b; is_a = i; is_b = s.is_b; differ = s.differ; has = λ q j k. sym (u p q i j (s.alike q j k)) ∙ h }

-- by the dimension of the point's cell
two_parts : (b c : Bool) → 2 ≤ dimension b c → (b ≡ false) × (c ≡ false)
two_parts true true h = absurd (omega arith)
two_parts true false h = absurd (omega arith)
two_parts false true h = absurd (omega arith)
two_parts false false h = (refl, refl)

one_parts : (b c : Bool) → 1 ≤ dimension b c → (c ≡ false) ⊎ ((b ≡ false) × (c ≡ true))
one_parts true true h = absurd (omega arith)
one_parts true false h = inl refl
one_parts false true h = inr (refl, refl)
one_parts false false h = inl refl

triangle_at : (pieces : List Piece) (set : PointSet) (p : Point) → IsUnionOfCells pieces set → IsPoint p → set p ≡ true → 2 ≤ dimension_at pieces p → HasTriangle set
triangle_at pieces set p u i h d =
    let parts = two_parts (is_among (events pieces) (x_of p)) (is_among (heights_in pieces (x_of p)) (y_of p)) d in
    triangle_from pieces set p u i h (alike_triangle pieces p i parts.0 parts.1)

segment_at : (pieces : List Piece) (set : PointSet) (p : Point) → IsUnionOfCells pieces set → IsPoint p → set p ≡ true → 1 ≤ dimension_at pieces p → HasSegment set
segment_at pieces set p u i h d =
    elim (one_parts (is_among (events pieces) (x_of p)) (is_among (heights_in pieces (x_of p)) (y_of p)) d) [
      | inl free ↦ segment_from pieces set p u i h (alike_up pieces p i free)
      | inr level ↦ segment_from pieces set p u i h (alike_along pieces p i level.0 (level_with pieces p i level.0 level.1))
    ]

-- ---- points and samples
-- a point of the set whose cell has at least a dimension, and a sample of it
some_sample : (pieces : List Piece) (set : PointSet) (k : ℕ) (p : Point) → IsUnionOfCells pieces set → IsPoint p → set p ≡ true → k ≤ dimension_at pieces p → Any (IsSampleOf set k) (samples pieces)
some_sample pieces set k p u i h d =
    let has = every_point pieces p i in
    let is = All-contains (λ s. IsPoint s.point × IsInCell pieces s.point s) (samples pieces) has.sample (every_sample pieces) has.among in
    let alike : AreAlike pieces p has.sample.point = record { on = has.cell.on; above = has.cell.above } in
    let together : AreInOneCell pieces p has.sample.point = record { alike = alike; dim = has.cell.dim ∙ sym is.1.dim; same = has.same } in (
      has.among.0,
      has.sample,
      has.among.1,
      has.among.2,
      (sym (u p has.sample.point i is.0 together) ∙ h, subst (λ (n : ℕ). k ≤ n) has.cell.dim d),
    )

-- a sample of the set, as a point of it
pub record HasPointOf (pieces : List Piece) (set : PointSet) (k : ℕ) : Type 0 where
  pub point : Point
  pub is_point : IsPoint point
  pub has : set point ≡ true
  pub dim : k ≤ dimension_at pieces point

sample_point : (pieces : List Piece) (set : PointSet) (k : ℕ) → Any (IsSampleOf set k) (samples pieces) → HasPointOf pieces set k
sample_point pieces set k a =
    let s : Sample = a.1 in
    let is = All-contains (λ o. IsPoint o.point × IsInCell pieces o.point o) (samples pieces) s (every_sample pieces) (a.0, a.2, a.3) in
    record { point = s.point; is_point = is.0; has = a.4.0; dim = subst (λ (n : ℕ). k ≤ n) (sym is.1.dim) a.4.1 }

at_least : (b c : Bool) → (b ≡ false) ⊎ (c ≡ false) → 1 ≤ dimension b c
at_least true true (inl e) = absurd (both_ways _ e refl)
at_least true true (inr e) = absurd (both_ways _ e refl)
at_least true false e = omega arith
at_least false true e = omega arith
at_least false false e = omega arith

at_least_two : (b c : Bool) → b ≡ false → c ≡ false → 2 ≤ dimension b c
at_least_two true c e f = absurd (both_ways _ e refl)
at_least_two false true e f = absurd (both_ways _ f refl)
at_least_two false false e f = omega arith

point_tells : (pieces : List Piece) (set : PointSet) → IsUnionOfCells pieces set → HasPoint set ↔ Any (IsSampleOf set 0) (samples pieces)
point_tells pieces set u = (
  λ h. some_sample pieces set 0 h.point u h.is_point h.has (omega arith),
  λ a. let s = sample_point pieces set 0 a in record { point = s.point; is_point = s.is_point; has = s.has },
)

segment_tells : (pieces : List Piece) (set : PointSet) → IsUnionOfCells pieces set → HasSegment set ↔ Any (IsSampleOf set 1) (samples pieces)
segment_tells pieces set u = (
  λ h.
      let f = free_point pieces h.a h.b h.is_a h.is_b h.differ in
      some_sample pieces set 1 f.point u f.is_point (h.has f.point f.is_point f.between)
      (at_least (is_among (events pieces) (x_of f.point)) (is_among (heights_in pieces (x_of f.point)) (y_of f.point)) f.free),
  λ a. let s = sample_point pieces set 1 a in segment_at pieces set s.point u s.is_point s.has s.dim,
)

triangle_tells : (pieces : List Piece) (set : PointSet) → IsUnionOfCells pieces set → HasTriangle set ↔ Any (IsSampleOf set 2) (samples pieces)
triangle_tells pieces set u = (
  λ h.
      let f = open_point pieces h.a h.b h.c h.is_a h.is_b h.is_c h.wide in
      some_sample pieces set 2 f.point u f.is_point (h.has f.point f.is_point f.inside)
      (at_least_two (is_among (events pieces) (x_of f.point)) (is_among (heights_in pieces (x_of f.point)) (y_of f.point)) f.no_event f.no_height),
  λ a. let s = sample_point pieces set 2 a in triangle_at pieces set s.point u s.is_point s.has s.dim,
)

every_point_tells : (pieces : List Piece) (set : PointSet) → IsUnionOfCells pieces set →
    ((p : Point) → IsPoint p → IsTrue (set p)) ↔ All (λ s. IsTrue (set s.point)) (samples pieces)
every_point_tells pieces set u = (
  λ h.
      All-from_recursion (λ s. IsTrue (set s.point)) (samples pieces)
      (each-map (λ s. IsPoint s.point × IsInCell pieces s.point s) (λ s. IsTrue (set s.point)) (samples pieces) (λ s k. h s.point k.0) (each_sample pieces)),
  λ h p i.
      let has = every_point pieces p i in
      let is = All-contains (λ s. IsPoint s.point × IsInCell pieces s.point s) (samples pieces) has.sample (every_sample pieces) has.among in
      let alike : AreAlike pieces p has.sample.point = record { on = has.cell.on; above = has.cell.above } in
      let together : AreInOneCell pieces p has.sample.point = record { alike = alike; dim = has.cell.dim ∙ sym is.1.dim; same = has.same } in
      u p has.sample.point i is.0 together ∙ All-contains (λ s. IsTrue (set s.point)) (samples pieces) has.sample h has.among,
)

-- ---- the greatest dimension
-- a test of dimensions that passes from a number on
record IsLevel (test : Dim → Bool) (k : ℕ) : Type 0 where
  none : test Nothing ≡ false
  joined : (d e : Dim) → test (greater_dim d e) ≡ (test d || test e)
  passes : (n : ℕ) → k ≤ n → test (dim_of n) ≡ true
  fails : (n : ℕ) → test (dim_of n) ≡ true → k ≤ n

abbrev some_dim : Dim → Bool
some_dim Nothing = false
some_dim Zero = true
some_dim One = true
some_dim Two = true

abbrev one_dim : Dim → Bool
one_dim Nothing = false
one_dim Zero = false
one_dim One = true
one_dim Two = true

abbrev two_dim : Dim → Bool
two_dim Nothing = false
two_dim Zero = false
two_dim One = false
two_dim Two = true

some_dim-joined : (d e : Dim) → some_dim (greater_dim d e) ≡ (some_dim d || some_dim e)
some_dim-joined Nothing Nothing = refl
some_dim-joined Nothing Zero = refl
some_dim-joined Nothing One = refl
some_dim-joined Nothing Two = refl
some_dim-joined Zero Nothing = refl
some_dim-joined Zero Zero = refl
some_dim-joined Zero One = refl
some_dim-joined Zero Two = refl
some_dim-joined One Nothing = refl
some_dim-joined One Zero = refl
some_dim-joined One One = refl
some_dim-joined One Two = refl
some_dim-joined Two Nothing = refl
some_dim-joined Two Zero = refl
some_dim-joined Two One = refl
some_dim-joined Two Two = refl

some_dim-passes : (n : ℕ) → 0 ≤ n → some_dim (dim_of n) ≡ true
some_dim-passes zero h = refl
some_dim-passes (suc zero) h = refl
some_dim-passes (suc (suc n)) h = refl

some_dim-fails : (n : ℕ) → some_dim (dim_of n) ≡ true → 0 ≤ n
some_dim-fails zero h = omega arith
some_dim-fails (suc zero) h = omega arith
some_dim-fails (suc (suc n)) h = omega arith

some_level : IsLevel some_dim 0
some_level = record { none = refl; joined = some_dim-joined; passes = some_dim-passes; fails = some_dim-fails }

one_dim-joined : (d e : Dim) → one_dim (greater_dim d e) ≡ (one_dim d || one_dim e)
one_dim-joined Nothing Nothing = refl
one_dim-joined Nothing Zero = refl
one_dim-joined Nothing One = refl
one_dim-joined Nothing Two = refl
one_dim-joined Zero Nothing = refl
one_dim-joined Zero Zero = refl
one_dim-joined Zero One = refl
one_dim-joined Zero Two = refl
one_dim-joined One Nothing = refl
one_dim-joined One Zero = refl
one_dim-joined One One = refl
one_dim-joined One Two = refl
one_dim-joined Two Nothing = refl
one_dim-joined Two Zero = refl
one_dim-joined Two One = refl
one_dim-joined Two Two = refl

one_dim-passes : (n : ℕ) → 1 ≤ n → one_dim (dim_of n) ≡ true
one_dim-passes zero h = absurd (omega arith)
one_dim-passes (suc zero) h = refl
one_dim-passes (suc (suc n)) h = refl

one_dim-fails : (n : ℕ) → one_dim (dim_of n) ≡ true → 1 ≤ n
one_dim-fails zero h = absurd (both_ways false refl h)
one_dim-fails (suc zero) h = omega arith
one_dim-fails (suc (suc n)) h = omega arith

one_level : IsLevel one_dim 1
one_level = record { none = refl; joined = one_dim-joined; passes = one_dim-passes; fails = one_dim-fails }

two_dim-joined : (d e : Dim) → two_dim (greater_dim d e) ≡ (two_dim d || two_dim e)
two_dim-joined Nothing Nothing = refl
two_dim-joined Nothing Zero = refl
two_dim-joined Nothing One = refl
two_dim-joined Nothing Two = refl
two_dim-joined Zero Nothing = refl
two_dim-joined Zero Zero = refl
two_dim-joined Zero One = refl
two_dim-joined Zero Two = refl
two_dim-joined One Nothing = refl
two_dim-joined One Zero = refl
two_dim-joined One One = refl
two_dim-joined One Two = refl
two_dim-joined Two Nothing = refl
two_dim-joined Two Zero = refl
two_dim-joined Two One = refl
two_dim-joined Two Two = refl

two_dim-passes : (n : ℕ) → 2 ≤ n → two_dim (dim_of n) ≡ true
two_dim-passes zero h = absurd (omega arith)
two_dim-passes (suc zero) h = absurd (omega arith)
two_dim-passes (suc (suc n)) h = refl

two_dim-fails : (n : ℕ) → two_dim (dim_of n) ≡ true → 2 ≤ n
two_dim-fails zero h = absurd (both_ways false refl h)
two_dim-fails (suc zero) h = absurd (both_ways false refl h)
two_dim-fails (suc (suc n)) h = omega arith

two_level : IsLevel two_dim 2
two_level = record { none = refl; joined = two_dim-joined; passes = two_dim-passes; fails = two_dim-fails }

or_first : (b c : Bool) → b ≡ true → (b || c) ≡ true
or_first true c h = refl
or_first false c h = cc

or_second : (b c : Bool) → c ≡ true → (b || c) ≡ true
or_second true c h = refl
or_second false c h = h

either_of : (b c : Bool) → (b || c) ≡ true → (b ≡ true) ⊎ (c ≡ true)
either_of true c h = inl refl
either_of false c h = inr h

-- the test passes at the greatest dimension just where some sample of the set has it
abbrev SomeSample : PointSet → ℕ → List Sample → Type 0
SomeSample set k ss = Some_in (IsSampleOf set k) ss

abbrev greatest_in : PointSet → List Sample → Dim
greatest_in set ss = greatest_dim (λ (s : Sample). s.dim) (λ (s : Sample). set s.point) ss

greatest_from : (test : Dim → Bool) (k : ℕ) → IsLevel test k → (set : PointSet) (ss : List Sample) → SomeSample set k ss → test (greatest_in set ss) ≡ true
greatest_from test k l set [] h = absurd h
greatest_from test k l set (s ∷ ss) h =
    if_cases (λ d. test d ≡ true) (set s.point) (greater_dim (dim_of s.dim) (greatest_in set ss)) (greatest_in set ss)
    (λ t. l.joined (dim_of s.dim) (greatest_in set ss)
    ∙ elim h [
      | inl here ↦ or_first (test (dim_of s.dim)) (test (greatest_in set ss)) (l.passes s.dim here.1)
      | inr later ↦ or_second (test (dim_of s.dim)) (test (greatest_in set ss)) (greatest_from test k l set ss later)
    ])
    (λ f. elim h [ inl here ↦ absurd (both_ways _ f here.0) | inr later ↦ greatest_from test k l set ss later ])

from_greatest : (test : Dim → Bool) (k : ℕ) → IsLevel test k → (set : PointSet) (ss : List Sample) → test (greatest_in set ss) ≡ true → SomeSample set k ss
from_greatest test k l set [] h = both_ways _ l.none h
from_greatest test k l set (s ∷ ss) h =
    if_cases (λ d. test d ≡ true → SomeSample set k (s ∷ ss)) (set s.point) (greater_dim (dim_of s.dim) (greatest_in set ss)) (greatest_in set ss)
    (λ t g. elim (either_of (test (dim_of s.dim)) (test (greatest_in set ss)) (sym (l.joined (dim_of s.dim) (greatest_in set ss)) ∙ g)) [
      | inl here ↦ inl (t, l.fails s.dim here)
      | inr later ↦ inr (from_greatest test k l set ss later)
    ])
    (λ f g. inr (from_greatest test k l set ss g))
    h

pub some_any : {A : Type 0} (P : A → Type 0) (xs : List A) → Some_in P xs → Any P xs
some_any P [] h = absurd h
some_any {A} P (x ∷ xs) h =
    elim h [
      | inl here ↦ (0, x, below (length xs), refl, here)
      | inr later ↦ let rest = some_any P xs later in (suc rest.0, rest.1, more rest.0 (length xs) rest.2, rest.3, rest.4)
    ]
  where
    below : (n : ℕ) → 0 < suc n
    below n = omega arith

    more : (m n : ℕ) → m < n → suc m < suc n
    more m n l = omega arith

pub any_some : {A : Type 0} (P : A → Type 0) (xs : List A) → Any P xs → Some_in P xs
any_some {A} P xs a = at xs a.0 a.1 a.2 a.3 a.4
  where
    at : (ys : List A) (k : ℕ) (x : A) → k < length ys → slice_index_or ys k x ≡ x → P x → Some_in P ys
    at [] k x l e h = absurd (omega arith)
    at (y ∷ ys) zero x l e h = inl (subst P (sym e) h)
    at (y ∷ ys) (suc k) x l e h = inr (at ys k x (omega arith) e h)

pub dimension_tells : (pieces : List Piece) (set : PointSet) → IsUnionOfCells pieces set → HasDimension set (dimension_by_samples pieces set)
dimension_tells pieces set u = by_dim (dimension_by_samples pieces set) refl
  where
    tells : (test : Dim → Bool) (k : ℕ) → IsLevel test k → Any (IsSampleOf set k) (samples pieces) → test (dimension_by_samples pieces set) ≡ true
    tells test k l a = greatest_from test k l set (samples pieces) (any_some (IsSampleOf set k) (samples pieces) a)

    told : (test : Dim → Bool) (k : ℕ) → IsLevel test k → test (dimension_by_samples pieces set) ≡ true → Any (IsSampleOf set k) (samples pieces)
    told test k l t = some_any (IsSampleOf set k) (samples pieces) (from_greatest test k l set (samples pieces) t)

    zero_some : some_dim Zero ≡ true
    zero_some = refl

    zero_one : one_dim Zero ≡ false
    zero_one = refl

    one_one : one_dim One ≡ true
    one_one = refl

    one_two : two_dim One ≡ false
    one_two = refl

    two_two : two_dim Two ≡ true
    two_two = refl

    by_dim : (d : Dim) → dimension_by_samples pieces set ≡ d → HasDimension set d
    by_dim Nothing e = λ h. both_ways _ (ap some_dim e ∙ some_level.none) (tells some_dim 0 some_level ((point_tells pieces set u).0 h))
    by_dim Zero e = (
      (point_tells pieces set u).1 (told some_dim 0 some_level (ap some_dim e ∙ zero_some)),
      λ h. both_ways _ (ap one_dim e ∙ zero_one) (tells one_dim 1 one_level ((segment_tells pieces set u).0 h)),
    )
    by_dim One e = (
      (segment_tells pieces set u).1 (told one_dim 1 one_level (ap one_dim e ∙ one_one)),
      λ h. both_ways _ (ap two_dim e ∙ one_two) (tells two_dim 2 two_level ((triangle_tells pieces set u).0 h)),
    )
    by_dim Two e = (triangle_tells pieces set u).1 (told two_dim 2 two_level (ap two_dim e ∙ two_two))

pub samples_tell : SamplesTellOfUnions
samples_tell pieces set u =
    record {
      every_point = every_point_tells pieces set u;
      point = point_tells pieces set u;
      segment = segment_tells pieces set u;
      triangle = triangle_tells pieces set u;
      dimension = dimension_tells pieces set u;
    }
