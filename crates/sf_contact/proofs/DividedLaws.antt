-- Areas on the two sides of a line: neither interior has a point of the other area. An area on the left of the line has an even
-- number of edges above a point that is on none of them, and not on the left: so its interior lies strictly on the left, where
-- the other area has no point. Its edges have a part there too, from an end that is not on the line.
use Rattle.std.proofs.Common.{◌≡◌, ◌≢◌, ◌⊎◌, ℕ, ap, sym, ◌∙◌, refl, subst, arith, Bool, true, false, ◌&&◌, ◌||◌, not, List, [], ◌∷◌, inl, inr, ℤ, pos, ◌+ℤ◌, ◌-ℤ◌, ◌*ℤ◌, ◌<ℤ◌, ◌≤ℤ◌}
use Rattle.std.specs.Prelude.{int_le, int_lt, nat_le}
use Rattle.std.specs.List.{AllByRecursion, count_by, flat_map, list_any}
use Rattle.std.specs.Ordering.{int_cmp, int_eq}
use Rattle.std.specs.declared.cmp.Ordering.TheVariants.{Greater, Less}
use Rattle.std.proofs.lemmas.Bool.{and_from, and_parts, both_ways, false_from_ne_true, or_cases, or_left, or_right}
use Rattle.std.proofs.lemmas.Int.{by_lt_z, ints}
use Rattle.sf_grid.specs.Plane.{Coordinates, IsPoint, Point, grid_point, same_point}
use Rattle.sf_grid.specs.Edge.{Edge as Line, IsOnEdge, below_rightward, cross, edge_above, edge_between, on_edge}
use Rattle.sf_grid.specs.EvenOdd.{edges_above, is_odd}
use Rattle.sf_grid.specs.Sharing.{turn_by, turn_of}
use Rattle.sf_grid.specs.declared.turn.Turn.TheVariants.{Left, Right}
use Rattle.sf_grid.proofs.CallerLemmas.{cross-mean, dif, eq_from_test, le_from_test, lt_from_mul, lt_from_test, mean-on_edge, mul, mul_le, mul_nonneg, mul_nonneg-nonneg, mul_pos, mul_pos-pos, nonneg_from_mul, num, on_edge-swap, ring, same_coordinates, same_tests, sum, test_from_lt, var, weight_a, weight_b}
use Rattle.sf_grid.proofs.LineLaws.{on_edge_rightward}
use Rattle.sf_grid.proofs.Ring.{Term}
use Rattle.sf_slabs.proofs.CallerLemmas.{each-both, each-map, each-parts}
use Rattle.sf_geometry.specs.declared.geometry.Geometry.{Geometry}
use Rattle.sf_geometry.specs.declared.geometry.Geometry.TheVariants.{LineString, MultiLineString, MultiPoint, MultiPolygon, Point as OnePoint, Polygon}
use Rattle.sf_geometry.specs.Lists.{edges_of as edges_of_list, is_closed}
use Rattle.sf_geometry.specs.Parts.{HasClosedRings, edges_of, joined}
use Rattle.sf_geometry.specs.PointSets.{in_boundary, in_exterior, in_interior, in_polygon, in_ring, on_line, within_ring}
use Rattle.sf_geometry.specs.Size.{point_count}
use Rattle.sf_geometry.specs.Walks.{HasEdge}
use Rattle.sf_plane.specs.Boxes.{IsChain, IsClosedChain}
use Rattle.sf_plane.specs.Dimension.{HasDimension, HasSegment, HasTriangle, IsBetween, PointSet, mean}
use Rattle.sf_plane.specs.Unions.{greater_dim}
use Rattle.sf_plane.specs.declared.dim.Dim.{Dim}
use Rattle.sf_plane.specs.declared.dim.Dim.TheVariants as dims
use Rattle.sf_plane.proofs.CombineLaws.{start_on_edge}
use Rattle.sf_plane.proofs.FormLaws.{Form, mean-point, positive-same, value, value-mean}
use Rattle.sf_plane.proofs.GuardLaws.{left_side, value-left_side}
use Rattle.sf_plane.proofs.PlaceLaws.{IsIn}
use Rattle.sf_plane.proofs.ShareLaws.{edge_is_convex}
use Rattle.sf_plane.proofs.UnionLaws.{point_in_segment, segment_in_triangle}
use Rattle.sf_valid_rules.specs.Validity.{IsValid}
use Rattle.sf_valid_rules.proofs.MemberLaws.{count-same, each-from_in, each-in, each-of_flat, each-to_flat}
use Rattle.sf_valid_rules.proofs.TightLaws.{edges-differ}
use Rattle.sf_interiors.proofs.ChainLaws.{balanced-chain, differ-chain, odd-count}
use Rattle.sf_interiors.specs.Dimensions.{interior_dim}
use Rattle.sf_interiors.proofs.DimensionLaws.{interior_has_dimension}
use Rattle.sf_interiors.proofs.InsideLaws.{IsOff, balanced-off, none-odd}
use Rattle.sf_interiors.proofs.RingLaws.{ring-chain}
use Rattle.sf_interiors.proofs.SideLaws.{below_leftward, differ, differ-self, edge_above_left}
use Rattle.sf_known.specs.declared.known.Known.{Known}
use Rattle.sf_known.specs.Known.{Holds, IsAtMost}
use Rattle.sf_known.specs.Patterns.{is_filled}
use Rattle.sf_known.proofs.ContactLaws.{empty-entry}
use Rattle.sf_known.proofs.OrderLaws.{at-most-two}
use Rattle.sf_relate.specs.declared.shape.Shape.TheVariants.{Areas}
use Rattle.sf_relate.specs.Contact.{is_in}
use Rattle.sf_relate.specs.Matrices.{both, matrix_of}
use Rattle.sf_relate.specs.Places.{shape_of}
use Rattle.sf_relate.proofs.AreasLaws.{by-edges, first-thin, second-thin}
use Rattle.sf_relate.proofs.EnvelopeLaws.{valid-closed}
use Rattle.sf_relate.proofs.FoundLaws.{nothing-holds}
use Rattle.sf_interiors.proofs.SlantLaws.{end_on_edge, is_grid}
use Rattle.sf_relate.proofs.MostLaws.{wider-triangle}
use Rattle.sf_relate.proofs.OverlapLaws.{on-boundary}
use Rattle.sf_relate.proofs.ToldLaws.{exterior-from, outside-both}
use Rattle.sf_relate.proofs.SetLaws.{matrices_are_over_the_plane}
use Rattle.sf_relate.proofs.SharedLaws.{filled}
use Rattle.sf_contact.specs.Divided.{AreDivided, DividedAreasAreApart, Divides, BeginsOn, Parts, is_area, is_small_area, known_divided, sided_points}

-- ---- the line, an edge, and a point in the edge's columns
abbrev crossed : Term → Term → Term → Term → Term → Term → Term → Term
crossed ax ay bx by px py d = dif (mul (dif bx ax) (dif py (mul ay d))) (mul (dif by ay) (dif px (mul ax d)))

slant : (u v a b : Coordinates) (p : Point) →
    (v.x -ℤ u.x) *ℤ cross a b p
    ≡ (b.x -ℤ a.x) *ℤ cross u v p -ℤ ((b.x *ℤ pos p.d -ℤ p.x) *ℤ cross u v (grid_point a) +ℤ (p.x -ℤ a.x *ℤ pos p.d) *ℤ cross u v (grid_point b))
slant u v a b p =
    ring (u.x ∷ u.y ∷ v.x ∷ v.y ∷ a.x ∷ a.y ∷ b.x ∷ b.y ∷ p.x ∷ p.y ∷ pos p.d ∷ [])
    (mul (dif (var 2) (var 0)) (crossed (var 4) (var 5) (var 6) (var 7) (var 8) (var 9) (var 10)))
    (dif (mul (dif (var 6) (var 4)) (crossed (var 0) (var 1) (var 2) (var 3) (var 8) (var 9) (var 10)))
    (sum (mul (dif (mul (var 6) (var 10)) (var 8)) (crossed (var 0) (var 1) (var 2) (var 3) (var 4) (var 5) (num (pos 1))))
    (mul (dif (var 8) (mul (var 4) (var 10))) (crossed (var 0) (var 1) (var 2) (var 3) (var 6) (var 7) (num (pos 1))))))
    refl

turned : (k z : ℤ) → k *ℤ (pos 0 -ℤ z) ≡ pos 0 -ℤ k *ℤ z
turned k z = ring (k ∷ z ∷ []) (mul (var 0) (dif (num (pos 0)) (var 1))) (dif (num (pos 0)) (mul (var 0) (var 1))) refl

-- in the columns of the edge, of which the right end's doesn't count
record InColumns (a b : Coordinates) (p : Point) : Type 0 where
  left : (a.x *ℤ pos p.d) ≤ℤ p.x
  right : p.x <ℤ (b.x *ℤ pos p.d)

ahead : (a b : Coordinates) (p : Point) → InColumns a b p → a.x <ℤ b.x
ahead a b p c = lt_from_mul a.x b.x p.d (through (a.x *ℤ pos p.d) p.x (b.x *ℤ pos p.d) c.left c.right)
  where
    through : (x y z : ℤ) → x ≤ℤ y → y <ℤ z → x <ℤ z
    through x y z h k = omega (arith, ints)

less : (x y : ℤ) → x <ℤ y → pos 0 <ℤ (y -ℤ x)
less x y h = omega (arith, ints)

no_more : (x y : ℤ) → x ≤ℤ y → pos 0 ≤ℤ (y -ℤ x)
no_more x y h = omega (arith, ints)

weaker : (z : ℤ) → pos 0 <ℤ z → pos 0 ≤ℤ z
weaker z h = omega (arith, ints)

run : (a b : Coordinates) (p : Point) → InColumns a b p → pos 0 <ℤ (b.x -ℤ a.x)
run a b p c = less a.x b.x (ahead a b p c)

-- ---- edges on the left of the line, and on its right
abbrev OnLeft : Coordinates → Coordinates → Line → Type 0
OnLeft u v e = (pos 0 ≤ℤ cross u v (grid_point e.a)) × (pos 0 ≤ℤ cross u v (grid_point e.b))

abbrev OnRight : Coordinates → Coordinates → Line → Type 0
OnRight u v e = (cross u v (grid_point e.a) ≤ℤ pos 0) × (cross u v (grid_point e.b) ≤ℤ pos 0)

-- a point on the left of the line is below no edge on its right
right-clash : (u v a b : Coordinates) (p : Point) → u.x <ℤ v.x → InColumns a b p → cross u v (grid_point a) ≤ℤ pos 0 → cross u v (grid_point b) ≤ℤ pos 0 →
    pos 0 ≤ℤ cross u v p → cross a b p <ℤ pos 0 → ⊥
right-clash u v a b p l c ha hb hp below =
    clash ((v.x -ℤ u.x) *ℤ cross a b p) ((b.x -ℤ a.x) *ℤ cross u v p) (w *ℤ cross u v (grid_point a)) (r *ℤ cross u v (grid_point b))
    (slant u v a b p)
    (subst (λ z. pos 0 <ℤ z) (turned (v.x -ℤ u.x) (cross a b p)) (mul_pos-pos (v.x -ℤ u.x) (pos 0 -ℤ cross a b p) (less u.x v.x l) (less (cross a b p) (pos 0) below)))
    (mul_nonneg-nonneg (b.x -ℤ a.x) (cross u v p) (weaker (b.x -ℤ a.x) (run a b p c)) hp)
    (subst (λ z. pos 0 ≤ℤ z) (turned w (cross u v (grid_point a))) (mul_nonneg-nonneg w (pos 0 -ℤ cross u v (grid_point a)) (weaker w (less p.x (b.x *ℤ pos p.d) c.right)) (no_more (cross u v (grid_point a)) (pos 0) ha)))
    (subst (λ z. pos 0 ≤ℤ z) (turned r (cross u v (grid_point b))) (mul_nonneg-nonneg r (pos 0 -ℤ cross u v (grid_point b)) (no_more (a.x *ℤ pos p.d) p.x c.left) (no_more (cross u v (grid_point b)) (pos 0) hb)))
  where
    w : ℤ
    w = b.x *ℤ pos p.d -ℤ p.x

    r : ℤ
    r = p.x -ℤ a.x *ℤ pos p.d

    clash : (xc wf wa rb : ℤ) → xc ≡ wf -ℤ (wa +ℤ rb) → pos 0 <ℤ (pos 0 -ℤ xc) → pos 0 ≤ℤ wf → pos 0 ≤ℤ (pos 0 -ℤ wa) → pos 0 ≤ℤ (pos 0 -ℤ rb) → ⊥
    clash xc wf wa rb e h f g k = omega (arith, ints)

-- a point on the line, or on the right of it, is above no edge on its left
left-clash : (u v a b : Coordinates) (p : Point) → u.x <ℤ v.x → InColumns a b p → pos 0 ≤ℤ cross u v (grid_point a) → pos 0 ≤ℤ cross u v (grid_point b) →
    cross u v p ≤ℤ pos 0 → pos 0 <ℤ cross a b p → ⊥
left-clash u v a b p l c ha hb hp over =
    clash ((v.x -ℤ u.x) *ℤ cross a b p) ((b.x -ℤ a.x) *ℤ cross u v p) (w *ℤ cross u v (grid_point a)) (r *ℤ cross u v (grid_point b))
    (slant u v a b p)
    (mul_pos-pos (v.x -ℤ u.x) (cross a b p) (less u.x v.x l) over)
    (subst (λ z. pos 0 ≤ℤ z) (turned (b.x -ℤ a.x) (cross u v p)) (mul_nonneg-nonneg (b.x -ℤ a.x) (pos 0 -ℤ cross u v p) (weaker (b.x -ℤ a.x) (run a b p c)) (no_more (cross u v p) (pos 0) hp)))
    (mul_nonneg-nonneg w (cross u v (grid_point a)) (weaker w (less p.x (b.x *ℤ pos p.d) c.right)) ha)
    (mul_nonneg-nonneg r (cross u v (grid_point b)) (no_more (a.x *ℤ pos p.d) p.x c.left) hb)
  where
    w : ℤ
    w = b.x *ℤ pos p.d -ℤ p.x

    r : ℤ
    r = p.x -ℤ a.x *ℤ pos p.d

    clash : (xc wf wa rb : ℤ) → xc ≡ wf -ℤ (wa +ℤ rb) → pos 0 <ℤ xc → pos 0 ≤ℤ (pos 0 -ℤ wf) → pos 0 ≤ℤ wa → pos 0 ≤ℤ rb → ⊥
    clash xc wf wa rb e h f g k = omega (arith, ints)

data Order (x y : ℤ) : Type 0 where
  before : x <ℤ y → Order x y
  same : x ≡ y → Order x y
  after : y <ℤ x → Order x y

order : (x y : ℤ) → Order x y
order x y = by_lt_z x y before (λ l. by_lt_z y x after (λ k. same (omega (arith, ints))))

-- ---- how many edges are above a point
even-none : (p : Point) (P : Line → Type 0) (es : List Line) → ((a b : Coordinates) (e : Line) → P e → ((e.a ≡ a) × (e.b ≡ b)) ⊎ ((e.b ≡ a) × (e.a ≡ b)) → below_rightward a b p ≡ false) →
    AllByRecursion P es → is_odd (edges_above p es) ≡ false
even-none p P es none h = none-odd (λ e. edge_above e p) es (each-map P (λ e. edge_above e p ≡ false) es one h)
  where
    one : (e : Line) → P e → edge_above e p ≡ false
    one e k =
        ap (λ t. t || below_rightward e.b e.a p) (none e.a e.b e k (inl (refl, refl)))
        ∙ none e.b e.a e k (inr (refl, refl))

columns : (a b : Coordinates) (p : Point) → below_rightward a b p ≡ true → InColumns a b p × (cross a b p <ℤ pos 0)
columns a b p t =
    let first = and_parts (int_le (a.x *ℤ pos p.d) p.x && int_lt p.x (b.x *ℤ pos p.d)) (int_lt (cross a b p) (pos 0)) t in
    let second = and_parts (int_le (a.x *ℤ pos p.d) p.x) (int_lt p.x (b.x *ℤ pos p.d)) first.0 in
    (record { left = le_from_test _ _ second.0; right = lt_from_test _ _ second.1 }, lt_from_test _ _ first.1)

even-right : (u v : Coordinates) (p : Point) (es : List Line) → u.x <ℤ v.x → pos 0 ≤ℤ cross u v p → AllByRecursion (OnRight u v) es → is_odd (edges_above p es) ≡ false
even-right u v p es l hp h = even-none p (OnRight u v) es none h
  where
    none : (a b : Coordinates) (e : Line) → OnRight u v e → ((e.a ≡ a) × (e.b ≡ b)) ⊎ ((e.b ≡ a) × (e.a ≡ b)) → below_rightward a b p ≡ false
    none a b e k which = false_from_ne_true (below_rightward a b p) (λ t. let c = columns a b p t in right-clash u v a b p l c.0 (first which) (second which) hp c.1)
      where
        at : (x y : Coordinates) → x ≡ y → cross u v (grid_point x) ≤ℤ pos 0 → cross u v (grid_point y) ≤ℤ pos 0
        at x y s t = subst (λ (z : Coordinates). cross u v (grid_point z) ≤ℤ pos 0) s t

        first : ((e.a ≡ a) × (e.b ≡ b)) ⊎ ((e.b ≡ a) × (e.a ≡ b)) → cross u v (grid_point a) ≤ℤ pos 0
        first (inl s) = at e.a a s.0 k.0
        first (inr s) = at e.b a s.0 k.1

        second : ((e.a ≡ a) × (e.b ≡ b)) ⊎ ((e.b ≡ a) × (e.a ≡ b)) → cross u v (grid_point b) ≤ℤ pos 0
        second (inl s) = at e.b b s.1 k.1
        second (inr s) = at e.a b s.1 k.0

-- whether a point's column is not left of another's
abbrev is_before : Point → Coordinates → Bool
is_before p z = int_le (z.x *ℤ pos p.d) p.x

odd-chain : (f : Coordinates → Bool) (a b : Coordinates) (es : List Line) → IsChain a es b → is_odd (count_by (λ e. differ (f e.a) (f e.b)) es) ≡ differ (f a) (f b)
odd-chain f a b [] h = sym (differ-self (f a)) ∙ ap (λ c. differ (f a) (f c)) h
odd-chain f a b (e ∷ es) h =
    odd-count (λ g. differ (f g.a) (f g.b)) e es
    ∙ ap (differ (differ (f e.a) (f e.b))) (odd-chain f e.b b es h.1)
    ∙ differ-chain (f e.a) (f e.b) (f b)
    ∙ ap (λ c. differ (f c) (f b)) h.0

either : (s t : Bool) → ((s && not t) || (t && not s)) ≡ differ s t
either true true = refl
either true false = refl
either false true = refl
either false false = refl

not-before : (z : Coordinates) (p : Point) → int_lt p.x (z.x *ℤ pos p.d) ≡ not (is_before p z)
not-before z p = after (z.x *ℤ pos p.d) p.x
  where
    after : (x y : ℤ) → int_lt y x ≡ not (int_le x y)
    after x y = grind (arith, ints)

even-left : (u v : Coordinates) (p : Point) (es : List Line) → u.x <ℤ v.x → IsPoint p → cross u v p ≤ℤ pos 0 → IsClosedChain es → AllByRecursion (OnLeft u v) es → IsOff p es →
    is_odd (edges_above p es) ≡ false
even-left u v p es l i hp chain h off =
    ap is_odd
    (count-same (λ e. edge_above e p) (λ e. differ (is_before p e.a) (is_before p e.b)) es
    (each-both (OnLeft u v) (λ e. on_edge e p ≡ false) (λ e. edge_above e p ≡ differ (is_before p e.a) (is_before p e.b)) es spans h off))
    ∙ odd-chain (is_before p) chain.0 chain.0 es chain.1
    ∙ differ-self (is_before p chain.0)
  where
    one : (a b : Coordinates) → pos 0 ≤ℤ cross u v (grid_point a) → pos 0 ≤ℤ cross u v (grid_point b) → on_edge (edge_between a b) p ≡ false →
        below_rightward a b p ≡ (is_before p a && not (is_before p b))
    one a b ha hb none = same_tests _ _ there back
      where
        there : below_rightward a b p ≡ true → (is_before p a && not (is_before p b)) ≡ true
        there t =
            let first = and_parts (is_before p a && int_lt p.x (b.x *ℤ pos p.d)) (int_lt (cross a b p) (pos 0)) t in
            let second = and_parts (is_before p a) (int_lt p.x (b.x *ℤ pos p.d)) first.0 in
            and_from _ _ second.0 (sym (not-before b p) ∙ second.1)

        weak : (x y : ℤ) → x <ℤ y → x ≤ℤ y
        weak x y k = omega (arith, ints)

        below : InColumns a b p → Order (cross a b p) (pos 0) → cross a b p <ℤ pos 0
        below c (before under) = under
        below c (same level) = absurd (both_ways (on_edge (edge_between a b) p) none (on_edge_rightward a b p i (ahead a b p c) level c.left (weak p.x (b.x *ℤ pos p.d) c.right)))
        below c (after over) = absurd (left-clash u v a b p l c ha hb hp over)

        back : (is_before p a && not (is_before p b)) ≡ true → below_rightward a b p ≡ true
        back t =
            let parts = and_parts (is_before p a) (not (is_before p b)) t in
            let right = not-before b p ∙ parts.1 in
            let c : InColumns a b p = record { left = le_from_test _ _ parts.0; right = lt_from_test _ _ right } in
            and_from _ _ (and_from _ _ parts.0 right) (test_from_lt (cross a b p) (pos 0) (below c (order (cross a b p) (pos 0))))

    spans : (e : Line) → OnLeft u v e → on_edge e p ≡ false → edge_above e p ≡ differ (is_before p e.a) (is_before p e.b)
    spans e k none =
        ap (λ t. t || below_rightward e.b e.a p) (one e.a e.b k.0 k.1 none)
        ∙ ap (λ t. (is_before p e.a && not (is_before p e.b)) || t) (one e.b e.a k.1 k.0 (sym (on_edge-swap e.a e.b p) ∙ none))
        ∙ either (is_before p e.a) (is_before p e.b)

-- ---- a vertical line
upright : (u v : Coordinates) (p : Point) → u.x ≡ v.x → cross u v p ≡ (v.y -ℤ u.y) *ℤ (u.x *ℤ pos p.d -ℤ p.x)
upright u v p e =
    ap (λ x. (x -ℤ u.x) *ℤ (p.y -ℤ u.y *ℤ pos p.d) -ℤ (v.y -ℤ u.y) *ℤ (p.x -ℤ u.x *ℤ pos p.d)) (sym e)
    ∙ ring (u.x ∷ u.y ∷ v.y ∷ p.x ∷ p.y ∷ pos p.d ∷ [])
    (dif (mul (dif (var 0) (var 0)) (dif (var 4) (mul (var 1) (var 5)))) (mul (dif (var 2) (var 1)) (dif (var 3) (mul (var 0) (var 5)))))
    (mul (dif (var 2) (var 1)) (dif (mul (var 0) (var 5)) (var 3)))
    refl

abbrev IsLeftOf : ℤ → Line → Type 0
IsLeftOf m e = (e.a.x ≤ℤ m) × (e.b.x ≤ℤ m)

abbrev IsRightOf : ℤ → Line → Type 0
IsRightOf m e = (m ≤ℤ e.a.x) × (m ≤ℤ e.b.x)

left-upright : (u v : Coordinates) (p : Point) → u.x ≡ v.x → u.y <ℤ v.y → pos 0 ≤ℤ cross u v p → p.x ≤ℤ (u.x *ℤ pos p.d)
left-upright u v p e l h = back p.x (u.x *ℤ pos p.d) (nonneg_from_mul (v.y -ℤ u.y) (u.x *ℤ pos p.d -ℤ p.x) (less u.y v.y l) (subst (λ c. pos 0 ≤ℤ c) (upright u v p e) h))
  where
    back : (x y : ℤ) → pos 0 ≤ℤ (y -ℤ x) → x ≤ℤ y
    back x y k = omega (arith, ints)

right-upright : (u v : Coordinates) (p : Point) → u.x ≡ v.x → u.y <ℤ v.y → cross u v p ≤ℤ pos 0 → (u.x *ℤ pos p.d) ≤ℤ p.x
right-upright u v p e l h =
    back (u.x *ℤ pos p.d) p.x (nonneg_from_mul (v.y -ℤ u.y) (pos 0 -ℤ (u.x *ℤ pos p.d -ℤ p.x)) (less u.y v.y l)
    (subst (λ c. pos 0 ≤ℤ c) (sym (turned (v.y -ℤ u.y) (u.x *ℤ pos p.d -ℤ p.x))) (no_more ((v.y -ℤ u.y) *ℤ (u.x *ℤ pos p.d -ℤ p.x)) (pos 0) (subst (λ c. c ≤ℤ pos 0) (upright u v p e) h))))
  where
    back : (x y : ℤ) → pos 0 ≤ℤ (pos 0 -ℤ (x -ℤ y)) → x ≤ℤ y
    back x y k = omega (arith, ints)

of-left : (u v : Coordinates) (es : List Line) → u.x ≡ v.x → u.y <ℤ v.y → AllByRecursion (OnLeft u v) es → AllByRecursion (IsLeftOf u.x) es
of-left u v es e l h = each-map (OnLeft u v) (IsLeftOf u.x) es (λ f c. (at f.a c.0, at f.b c.1)) h
  where
    at : (z : Coordinates) → pos 0 ≤ℤ cross u v (grid_point z) → z.x ≤ℤ u.x
    at z c = alone z.x u.x (left-upright u v (grid_point z) e l c)
      where
        alone : (x y : ℤ) → x ≤ℤ (y *ℤ pos 1) → x ≤ℤ y
        alone x y k = omega (arith, ints)

of-right : (u v : Coordinates) (es : List Line) → u.x ≡ v.x → u.y <ℤ v.y → AllByRecursion (OnRight u v) es → AllByRecursion (IsRightOf u.x) es
of-right u v es e l h = each-map (OnRight u v) (IsRightOf u.x) es (λ f c. (at f.a c.0, at f.b c.1)) h
  where
    at : (z : Coordinates) → cross u v (grid_point z) ≤ℤ pos 0 → u.x ≤ℤ z.x
    at z c = alone u.x z.x (right-upright u v (grid_point z) e l c)
      where
        alone : (x y : ℤ) → (x *ℤ pos 1) ≤ℤ y → x ≤ℤ y
        alone x y k = omega (arith, ints)

-- left of the line no edge reaches a point on it or right of it
even-beyond : (m : ℤ) (p : Point) (es : List Line) → (m *ℤ pos p.d) ≤ℤ p.x → AllByRecursion (IsLeftOf m) es → is_odd (edges_above p es) ≡ false
even-beyond m p es hp h = even-none p (IsLeftOf m) es none h
  where
    none : (a b : Coordinates) (e : Line) → IsLeftOf m e → ((e.a ≡ a) × (e.b ≡ b)) ⊎ ((e.b ≡ a) × (e.a ≡ b)) → below_rightward a b p ≡ false
    none a b e k which = false_from_ne_true (below_rightward a b p) (λ t. clash (b.x *ℤ pos p.d) (m *ℤ pos p.d) p.x (mul_le b.x m p.d (end which)) hp (columns a b p t).0.right)
      where
        clash : (x y z : ℤ) → x ≤ℤ y → y ≤ℤ z → z <ℤ x → ⊥
        clash x y z f g i = omega (arith, ints)

        end : ((e.a ≡ a) × (e.b ≡ b)) ⊎ ((e.b ≡ a) × (e.a ≡ b)) → b.x ≤ℤ m
        end (inl s) = subst (λ (z : Coordinates). z.x ≤ℤ m) s.1 k.1
        end (inr s) = subst (λ (z : Coordinates). z.x ≤ℤ m) s.1 k.0

-- right of the line none reaches a point on it or left of it from the left, and off all edges that parity serves as well
even-before : (m : ℤ) (p : Point) (es : List Line) → IsPoint p → p.x ≤ℤ (m *ℤ pos p.d) → IsClosedChain es → AllByRecursion (IsRightOf m) es → IsOff p es →
    is_odd (edges_above p es) ≡ false
even-before m p es i hp chain h off =
    sym (balanced-off es p (balanced-chain es p chain i) off)
    ∙ none-odd (λ e. edge_above_left e p) es (each-map (IsRightOf m) (λ e. edge_above_left e p ≡ false) es one h)
  where
    none : (a b : Coordinates) → m ≤ℤ a.x → below_leftward a b p ≡ false
    none a b k =
        false_from_ne_true (below_leftward a b p)
        (λ t.
        let first = and_parts (int_lt (a.x *ℤ pos p.d) p.x && int_le p.x (b.x *ℤ pos p.d)) (int_lt (cross a b p) (pos 0)) t in
        let second = and_parts (int_lt (a.x *ℤ pos p.d) p.x) (int_le p.x (b.x *ℤ pos p.d)) first.0 in
        clash (m *ℤ pos p.d) (a.x *ℤ pos p.d) p.x (mul_le m a.x p.d k) (lt_from_test _ _ second.0) hp)
      where
        clash : (x y z : ℤ) → x ≤ℤ y → y <ℤ z → z ≤ℤ x → ⊥
        clash x y z f g j = omega (arith, ints)

    one : (e : Line) → IsRightOf m e → edge_above_left e p ≡ false
    one e k = ap (λ t. t || below_leftward e.b e.a p) (none e.a e.b k.0) ∙ none e.b e.a k.1

-- ---- a closed chain on the left of a line
-- the line the other way
back-cross : (u v : Coordinates) (p : Point) → cross v u p ≡ pos 0 -ℤ cross u v p
back-cross u v p =
    ring (u.x ∷ u.y ∷ v.x ∷ v.y ∷ p.x ∷ p.y ∷ pos p.d ∷ [])
    (crossed (var 2) (var 3) (var 0) (var 1) (var 4) (var 5) (var 6))
    (dif (num (pos 0)) (crossed (var 0) (var 1) (var 2) (var 3) (var 4) (var 5) (var 6)))
    refl

to-right : (u v : Coordinates) (p : Point) → pos 0 ≤ℤ cross u v p → cross v u p ≤ℤ pos 0
to-right u v p h = under (cross v u p) (cross u v p) (back-cross u v p) h
  where
    under : (c d : ℤ) → c ≡ pos 0 -ℤ d → pos 0 ≤ℤ d → c ≤ℤ pos 0
    under c d e k = omega (arith, ints)

to-left : (u v : Coordinates) (p : Point) → cross u v p ≤ℤ pos 0 → pos 0 ≤ℤ cross v u p
to-left u v p h = over (cross v u p) (cross u v p) (back-cross u v p) h
  where
    over : (c d : ℤ) → c ≡ pos 0 -ℤ d → d ≤ℤ pos 0 → pos 0 ≤ℤ c
    over c d e k = omega (arith, ints)

all-right : (u v : Coordinates) (es : List Line) → AllByRecursion (OnLeft u v) es → AllByRecursion (OnRight v u) es
all-right u v es h = each-map (OnLeft u v) (OnRight v u) es (λ e k. (to-right u v (grid_point e.a) k.0, to-right u v (grid_point e.b) k.1)) h

all-left : (u v : Coordinates) (es : List Line) → AllByRecursion (OnRight u v) es → AllByRecursion (OnLeft v u) es
all-left u v es h = each-map (OnRight u v) (OnLeft v u) es (λ e k. (to-left u v (grid_point e.a) k.0, to-left u v (grid_point e.b) k.1)) h

even-beside : (u v : Coordinates) (p : Point) (es : List Line) → u ≢ v → IsPoint p → cross u v p ≤ℤ pos 0 → IsClosedChain es → AllByRecursion (OnLeft u v) es → IsOff p es →
    is_odd (edges_above p es) ≡ false
even-beside u v p es n i side chain h off = by_column (order u.x v.x)
  where
    by_height : u.x ≡ v.x → Order u.y v.y → is_odd (edges_above p es) ≡ false
    by_height e (before l) = even-beyond u.x p es (right-upright u v p e l side) (of-left u v es e l h)
    by_height e (same f) = absurd (n (ap (λ x. record { x = x; y = u.y }) e ∙ ap (λ y. record { x = v.x; y = y }) f))
    by_height e (after l) = even-before v.x p es i (left-upright v u p (sym e) l (to-left u v p side)) chain (of-right v u es (sym e) l (all-right u v es h)) off

    by_column : Order u.x v.x → is_odd (edges_above p es) ≡ false
    by_column (before l) = even-left u v p es l i side chain h off
    by_column (same e) = by_height e (order u.y v.y)
    by_column (after l) = even-right v u p es l (to-left u v p side) (all-right u v es h)

-- ---- a point of one of them
left-of-edge : (u v : Coordinates) (e : Line) (p : Point) → IsPoint p → e.a ≢ e.b → OnLeft u v e → IsOnEdge e p → pos 0 ≤ℤ cross u v p
left-of-edge u v e p i n h on =
    let mean = mean-on_edge e p i n on in
    let m = weight_a e p in
    let k = weight_b e p in
    nonneg_from_mul (m +ℤ k) (cross u v p) mean.total
    (subst (λ z. pos 0 ≤ℤ z) (sym (cross-mean u v e p m k mean))
    (mul_nonneg-nonneg (m *ℤ cross u v (grid_point e.a) +ℤ k *ℤ cross u v (grid_point e.b)) (pos p.d)
    (added (m *ℤ cross u v (grid_point e.a)) (k *ℤ cross u v (grid_point e.b))
    (mul_nonneg-nonneg m (cross u v (grid_point e.a)) mean.first h.0) (mul_nonneg-nonneg k (cross u v (grid_point e.b)) mean.second h.1))
    (natural p.d)))
  where
    added : (x y : ℤ) → pos 0 ≤ℤ x → pos 0 ≤ℤ y → pos 0 ≤ℤ (x +ℤ y)
    added x y f g = omega (arith, ints)

    natural : (d : ℕ) → pos 0 ≤ℤ pos d
    natural d = omega (arith, ints)

left-of-edges : (u v : Coordinates) (es : List Line) (p : Point) → IsPoint p → AllByRecursion (λ (e : Line). e.a ≢ e.b) es → AllByRecursion (OnLeft u v) es → list_any (λ e. on_edge e p) es ≡ true →
    pos 0 ≤ℤ cross u v p
left-of-edges u v [] p i n h any = absurd (both_ways false refl any)
left-of-edges u v (e ∷ es) p i n h any =
    elim (or_cases (on_edge e p) (list_any (λ f. on_edge f p) es) any) [
      | inl here ↦ left-of-edge u v e p i n.0 h.0 here
      | inr later ↦ left-of-edges u v es p i n.1 h.1 later
    ]

off-each : (p : Point) (es : List Line) → ¬ (list_any (λ e. on_edge e p) es ≡ true) → IsOff p es
off-each p [] none = tt
off-each p (e ∷ es) none = (
  false_from_ne_true (on_edge e p) (λ t. none (or_left (on_edge e p) (list_any (λ f. on_edge f p) es) t)),
  off-each p es (λ t. none (or_right (on_edge e p) (list_any (λ f. on_edge f p) es) t)),
)

-- ---- areas
record HasOddRing (P : Line → Type 0) (p : Point) : Type 0 where
  ring : List Coordinates
  closed : is_closed ring ≡ true
  each : AllByRecursion P (edges_of_list ring)
  off : IsOff p (edges_of_list ring)
  odd : is_odd (edges_above p (edges_of_list ring)) ≡ true

shell-odd : (P : Line → Type 0) (rings : List (List Coordinates)) (p : Point) → AllByRecursion (λ ring. is_closed ring ≡ true) rings → AllByRecursion (λ ring. AllByRecursion P (edges_of_list ring)) rings →
    in_polygon rings p ≡ true → HasOddRing P p
shell-odd P [] p closed each h = absurd (both_ways false refl h)
shell-odd P (shell ∷ holes) p closed each h =
    let inside = and_parts (in_ring shell p) (not (list_any (λ hole. within_ring hole p) holes)) h in
    let parts = and_parts (not (on_line shell p)) (is_odd (edges_above p (edges_of_list shell))) inside.0 in
    record {
      ring = shell;
      closed = closed.0;
      each = each.0;
      off = off-each p (edges_of_list shell) (λ t. both_ways (not (on_line shell p)) (ap not t) parts.0);
      odd = parts.1;
    }

some-odd : (P : Line → Type 0) (polygons : List (List (List Coordinates))) (p : Point) → AllByRecursion (λ rings. AllByRecursion (λ ring. is_closed ring ≡ true) rings) polygons →
    AllByRecursion (λ rings. AllByRecursion (λ ring. AllByRecursion P (edges_of_list ring)) rings) polygons → list_any (λ rings. in_polygon rings p) polygons ≡ true → HasOddRing P p
some-odd P [] p closed each h = absurd (both_ways false refl h)
some-odd P (rings ∷ polygons) p closed each h =
    elim (or_cases (in_polygon rings p) (list_any (λ rs. in_polygon rs p) polygons) h) [
      | inl here ↦ shell-odd P rings p closed.0 each.0 here
      | inr later ↦ some-odd P polygons p closed.1 each.1 later
    ]

area-odd : (P : Line → Type 0) (a : Geometry) (p : Point) → is_area a ≡ true → HasClosedRings a → AllByRecursion P (edges_of a) → in_interior a p ≡ true → HasOddRing P p
area-odd P (Polygon rings) p is closed each h =
    shell-odd P rings p (each-parts (λ ring. is_closed ring ≡ true) rings [] closed).0 (each-of_flat P edges_of_list rings each) h
area-odd P (MultiPolygon polygons) p is closed each h =
    some-odd P polygons p
    (each-of_flat (λ ring. is_closed ring ≡ true) (λ rings. rings) polygons closed)
    (each-of_flat (λ ring. AllByRecursion P (edges_of_list ring)) (λ rings. rings) polygons (each-of_flat P edges_of_list (joined polygons) each))
    h
area-odd P (OnePoint q) p is closed each h = absurd (both_ways false refl is)
area-odd P (MultiPoint qs) p is closed each h = absurd (both_ways false refl is)
area-odd P (LineString qs) p is closed each h = absurd (both_ways false refl is)
area-odd P (MultiLineString lines) p is closed each h = absurd (both_ways false refl is)

-- ---- what the search says
none-each : (P Q : Line → Type 0) → ((e : Line) → ¬ (P e) → Q e) → (es : List Line) → ¬ (HasEdge P es) → AllByRecursion Q es
none-each P Q f [] h = tt
none-each P Q f (e ∷ es) h = (f e (λ t. h (inl t)), none-each P Q f es (λ t. h (inr t)))

-- around a closed chain what each edge's beginning has, its end has too
chain-ends : (Q : Coordinates → Type 0) (a b : Coordinates) (es : List Line) → IsChain a es b → Q b → AllByRecursion (λ (e : Line). Q e.a) es → AllByRecursion (λ (e : Line). Q e.a × Q e.b) es
chain-ends Q a b [] chain last h = tt
chain-ends Q a b (e ∷ []) chain last h = ((h.0, subst Q (sym chain.1) last), tt)
chain-ends Q a b (e ∷ f ∷ es) chain last h = ((h.0, subst Q chain.1.0 h.1.0), chain-ends Q e.b b (f ∷ es) chain.1 last h.1)

ring-ends : (Q : Coordinates → Type 0) (es : List Line) → IsClosedChain es → AllByRecursion (λ (e : Line). Q e.a) es → AllByRecursion (λ (e : Line). Q e.a × Q e.b) es
ring-ends Q [] chain h = tt
ring-ends Q (e ∷ es) chain h = chain-ends Q chain.0 chain.0 (e ∷ es) chain.1 (subst Q chain.1.0 h.0) h

not-right : (u v z : Coordinates) → ¬ (turn_of u v z ≡ Right) → pos 0 ≤ℤ cross u v (grid_point z)
not-right u v z h = by_lt_z (cross u v (grid_point z)) (pos 0) (λ l. absurd (h (ap turn_by (greater (cross u v (grid_point z)) l)))) (λ l. l)
  where
    greater : (c : ℤ) → c <ℤ pos 0 → int_cmp (pos 0) c ≡ Greater
    greater c l = grind (arith, ints)

not-left : (u v z : Coordinates) → ¬ (turn_of u v z ≡ Left) → cross u v (grid_point z) ≤ℤ pos 0
not-left u v z h = by_lt_z (pos 0) (cross u v (grid_point z)) (λ l. absurd (h (ap turn_by (lesser (cross u v (grid_point z)) l)))) (λ l. l)
  where
    lesser : (c : ℤ) → pos 0 <ℤ c → int_cmp (pos 0) c ≡ Less
    lesser c l = grind (arith, ints)

rings-ends : (Q : Coordinates → Type 0) (rings : List (List Coordinates)) → AllByRecursion (λ ring. is_closed ring ≡ true) rings → AllByRecursion (λ (e : Line). Q e.a) (flat_map edges_of_list rings) →
    AllByRecursion (λ (e : Line). Q e.a × Q e.b) (flat_map edges_of_list rings)
rings-ends Q rings closed h =
    each-to_flat (λ (e : Line). Q e.a × Q e.b) edges_of_list rings
    (each-both (λ ring. is_closed ring ≡ true) (λ ring. AllByRecursion (λ (e : Line). Q e.a) (edges_of_list ring)) (λ ring. AllByRecursion (λ (e : Line). Q e.a × Q e.b) (edges_of_list ring)) rings
    (λ ring c k. ring-ends Q (edges_of_list ring) (ring-chain ring c) k) closed (each-of_flat (λ (e : Line). Q e.a) edges_of_list rings h))

area-ends : (Q : Coordinates → Type 0) (a : Geometry) → is_area a ≡ true → HasClosedRings a → AllByRecursion (λ (e : Line). Q e.a) (edges_of a) → AllByRecursion (λ (e : Line). Q e.a × Q e.b) (edges_of a)
area-ends Q (Polygon rings) is closed h = rings-ends Q rings (each-parts (λ ring. is_closed ring ≡ true) rings [] closed).0 h
area-ends Q (MultiPolygon polygons) is closed h = rings-ends Q (joined polygons) closed h
area-ends Q (OnePoint q) is closed h = absurd (both_ways false refl is)
area-ends Q (MultiPoint qs) is closed h = absurd (both_ways false refl is)
area-ends Q (LineString qs) is closed h = absurd (both_ways false refl is)
area-ends Q (MultiLineString lines) is closed h = absurd (both_ways false refl is)

-- the ends of an area's edges differ
ends-differ : (a : Geometry) → is_area a ≡ true → AllByRecursion (λ (e : Line). e.a ≢ e.b) (edges_of a)
ends-differ (Polygon rings) is = each-to_flat (λ (e : Line). e.a ≢ e.b) edges_of_list rings (each-from_in (λ ring. AllByRecursion (λ (e : Line). e.a ≢ e.b) (edges_of_list ring)) rings (λ ring i. edges-differ ring))
ends-differ (MultiPolygon polygons) is =
    each-to_flat (λ (e : Line). e.a ≢ e.b) edges_of_list (joined polygons) (each-from_in (λ ring. AllByRecursion (λ (e : Line). e.a ≢ e.b) (edges_of_list ring)) (joined polygons) (λ ring i. edges-differ ring))
ends-differ (OnePoint q) is = absurd (both_ways false refl is)
ends-differ (MultiPoint qs) is = absurd (both_ways false refl is)
ends-differ (LineString qs) is = absurd (both_ways false refl is)
ends-differ (MultiLineString lines) is = absurd (both_ways false refl is)

-- a line that has the first geometry on its left, and the second on its left the other way
record AreBetween (a b : Geometry) : Type 0 where
  from : Coordinates
  to : Coordinates
  differ : from ≢ to
  first : AllByRecursion (OnLeft from to) (edges_of a)
  second : AllByRecursion (OnLeft to from) (edges_of b)

exchanged : (a b : Geometry) → AreBetween a b → AreBetween b a
exchanged a b s = record { from = s.to; to = s.from; differ = λ same. s.differ (sym same); first = s.second; second = s.first }

by-parts : (line : Line) (a b : Geometry) → line.a ≢ line.b → IsValid a → IsValid b → is_area a ≡ true → is_area b ≡ true → Parts line a b → AreBetween a b
by-parts line a b n v w f g parts =
    let left = λ (z : Coordinates). pos 0 ≤ℤ cross line.a line.b (grid_point z) in
    let right = λ (z : Coordinates). cross line.a line.b (grid_point z) ≤ℤ pos 0 in
    record {
      from = line.a;
      to = line.b;
      differ = n;
      first = area-ends left a f (valid-closed a v) (none-each (BeginsOn Right line) (λ e. left e.a) (λ e t. not-right line.a line.b e.a t) (edges_of a) parts.0);
      second =
          all-left line.a line.b (edges_of b)
          (area-ends right b g (valid-closed b w) (none-each (BeginsOn Left line) (λ e. right e.a) (λ e t. not-left line.a line.b e.a t) (edges_of b) parts.1));
    }

by-line : (a b : Geometry) → IsValid a → IsValid b → is_area a ≡ true → is_area b ≡ true → (es : List Line) → AllByRecursion (λ (e : Line). e.a ≢ e.b) es → HasEdge (Divides a b) es → AreBetween a b
by-line a b v w f g [] n h = absurd h
by-line a b v w f g (e ∷ es) n (inl (inl parts)) = by-parts e a b n.0 v w f g parts
by-line a b v w f g (e ∷ es) n (inl (inr parts)) = exchanged b a (by-parts e b a n.0 w v g f parts)
by-line a b v w f g (e ∷ es) n (inr h) = by-line a b v w f g es n.1 h

between : (a b : Geometry) → IsValid a → IsValid b → is_area a ≡ true → is_area b ≡ true → AreDivided a b → AreBetween a b
between a b v w f g (inl h) = by-line a b v w f g (edges_of a) (ends-differ a f) h
between a b v w f g (inr h) = exchanged b a (by-line b a w v g f (edges_of b) (ends-differ b g) h)

-- ---- points of areas on the two sides
inner-left : (u v : Coordinates) (a : Geometry) (p : Point) → u ≢ v → IsPoint p → IsValid a → is_area a ≡ true → AllByRecursion (OnLeft u v) (edges_of a) → in_interior a p ≡ true → pos 0 <ℤ cross u v p
inner-left u v a p n i valid is each h =
    by_lt_z (pos 0) (cross u v p) (λ l. l)
    (λ side.
    let r = area-odd (OnLeft u v) a p is (valid-closed a valid) each h in
    absurd (both_ways (is_odd (edges_above p (edges_of_list r.ring))) (even-beside u v p (edges_of_list r.ring) n i side (ring-chain r.ring r.closed) r.each r.off) r.odd))

area-shape : (a : Geometry) → is_area a ≡ true → shape_of a ≡ Areas
area-shape (Polygon rings) is = refl
area-shape (MultiPolygon polygons) is = refl
area-shape (OnePoint q) is = absurd (both_ways false refl is)
area-shape (MultiPoint qs) is = absurd (both_ways false refl is)
area-shape (LineString qs) is = absurd (both_ways false refl is)
area-shape (MultiLineString lines) is = absurd (both_ways false refl is)

border-left : (u v : Coordinates) (a : Geometry) (p : Point) → IsPoint p → is_area a ≡ true → AllByRecursion (OnLeft u v) (edges_of a) → in_boundary a p ≡ true → pos 0 ≤ℤ cross u v p
border-left u v a p i is each h = left-of-edges u v (edges_of a) p i (ends-differ a is) each (by-edges a p (area-shape a is) ∙ h)

-- no point is strictly on the left of a line, and on its left the other way
opposed : (u v : Coordinates) (p : Point) → pos 0 <ℤ cross u v p → pos 0 ≤ℤ cross v u p → ⊥
opposed u v p h k = clash (cross u v p) (cross v u p) (back-cross u v p) h k
  where
    clash : (c d : ℤ) → d ≡ pos 0 -ℤ c → pos 0 <ℤ c → pos 0 ≤ℤ d → ⊥
    clash c d e f g = omega (arith, ints)

-- the interior of the first has no point of the second
apart : (a b : Geometry) (p : Point) → IsPoint p → IsValid a → IsValid b → is_area a ≡ true → is_area b ≡ true → AreBetween a b → in_interior a p ≡ true →
    (in_interior b p ≡ true) ⊎ (in_boundary b p ≡ true) → ⊥
apart a b p i v w f g s h (inl inner) =
    opposed s.from s.to p (inner-left s.from s.to a p s.differ i v f s.first h)
    (weaker (cross s.to s.from p) (inner-left s.to s.from b p (λ same. s.differ (sym same)) i w g s.second inner))
apart a b p i v w f g s h (inr border) = opposed s.from s.to p (inner-left s.from s.to a p s.differ i v f s.first h) (border-left s.to s.from b p i g s.second border)

-- an entry is empty where its sets have no point in common
none-is-empty : (s t : PointSet) (entry : Dim) → HasDimension (both s t) entry → ((p : Point) → IsPoint p → s p ≡ true → t p ≡ true → ⊥) → IsAtMost entry dims.Nothing
none-is-empty s t entry is none =
    ap (λ d. greater_dim d dims.Nothing)
    (empty-entry entry
    (false_from_ne_true (is_filled entry)
    (λ some.
    let q = filled (both s t) entry is some in
    let both_in = and_parts (s q.point) (t q.point) q.has in
    none q.point q.is_point both_in.0 both_in.1)))

-- ---- what each has outside of the other
two-wide : (a : Geometry) → is_area a ≡ true → interior_dim a ≡ dims.Two
two-wide (Polygon rings) is = refl
two-wide (MultiPolygon polygons) is = refl
two-wide (OnePoint q) is = absurd (both_ways false refl is)
two-wide (MultiPoint qs) is = absurd (both_ways false refl is)
two-wide (LineString qs) is = absurd (both_ways false refl is)
two-wide (MultiLineString lines) is = absurd (both_ways false refl is)

wide-inside : (a : Geometry) → IsValid a → is_area a ≡ true → HasTriangle (in_interior a)
wide-inside a v is = subst (HasDimension (in_interior a)) (two-wide a is) (interior_has_dimension a v)

-- a point strictly on the left is outside of an area on the right
outside-right : (u v : Coordinates) (b : Geometry) (p : Point) → u ≢ v → IsPoint p → IsValid b → is_area b ≡ true → AllByRecursion (OnLeft v u) (edges_of b) → pos 0 <ℤ cross u v p → in_exterior b p ≡ true
outside-right u v b p n i w g each l = exterior-from b p (false_from_ne_true (is_in b p) (λ t. none (or_cases (in_interior b p) (in_boundary b p) t)))
  where
    none : (in_interior b p ≡ true) ⊎ (in_boundary b p ≡ true) → ⊥
    none (inl inner) = opposed u v p l (weaker (cross v u p) (inner-left v u b p (λ same. n (sym same)) i w g each inner))
    none (inr border) = opposed u v p l (border-left v u b p i g each border)

inside-outside : (a b : Geometry) → IsValid a → IsValid b → is_area a ≡ true → is_area b ≡ true → AreBetween a b → HasTriangle (both (in_interior a) (in_exterior b))
inside-outside a b v w f g s =
    let t = wide-inside a v f in
    record {
      a = t.a;
      b = t.b;
      c = t.c;
      is_a = t.is_a;
      is_b = t.is_b;
      is_c = t.is_c;
      wide = t.wide;
      has =
          λ p i j.
          and_from (in_interior a p) (in_exterior b p) (t.has p i j)
          (outside-right s.from s.to b p s.differ i w g s.second (inner-left s.from s.to a p s.differ i v f s.first (t.has p i j)));
    }

-- an edge with an end strictly on the left of the line
record HasPast (u v : Coordinates) (es : List Line) : Type 0 where
  edge : Line
  among : IsIn es edge
  past : (pos 0 <ℤ cross u v (grid_point edge.a)) ⊎ (pos 0 <ℤ cross u v (grid_point edge.b))

past-or-right : (u v : Coordinates) (es : List Line) → AllByRecursion (OnRight u v) es ⊎ HasPast u v es
past-or-right u v [] = inl tt
past-or-right u v (e ∷ es) =
    by_lt_z (pos 0) (cross u v (grid_point e.a)) (λ l. inr (record { edge = e; among = inl refl; past = inl l }))
    (λ k. by_lt_z (pos 0) (cross u v (grid_point e.b)) (λ l. inr (record { edge = e; among = inl refl; past = inr l })) (λ m. later k m (past-or-right u v es)))
  where
    later : cross u v (grid_point e.a) ≤ℤ pos 0 → cross u v (grid_point e.b) ≤ℤ pos 0 → AllByRecursion (OnRight u v) es ⊎ HasPast u v es → AllByRecursion (OnRight u v) (e ∷ es) ⊎ HasPast u v (e ∷ es)
    later k m (inl rest) = inl ((k, m), rest)
    later k m (inr h) = inr (record { edge = h.edge; among = inr h.among; past = h.past })

-- an area on the left has such an edge: else it would be on the right as well, and have no interior
past-edge : (u v : Coordinates) (a : Geometry) → u ≢ v → IsValid a → is_area a ≡ true → AllByRecursion (OnLeft u v) (edges_of a) → HasPast u v (edges_of a)
past-edge u v a n valid is each = found (past-or-right u v (edges_of a))
  where
    flat : AllByRecursion (OnRight u v) (edges_of a) → ⊥
    flat right =
        let q = point_in_segment (in_interior a) (segment_in_triangle (in_interior a) (wide-inside a valid is)) in
        opposed u v q.point (inner-left u v a q.point n q.is_point valid is each q.has)
        (weaker (cross v u q.point) (inner-left v u a q.point (λ same. n (sym same)) q.is_point valid is (all-left u v (edges_of a) right) q.has))

    found : AllByRecursion (OnRight u v) (edges_of a) ⊎ HasPast u v (edges_of a) → HasPast u v (edges_of a)
    found (inl right) = absurd (flat right)
    found (inr h) = h

-- different points of the grid are different points of the plane
grid-differ : (c d : Coordinates) → c ≢ d → same_point (grid_point c) (grid_point d) ≡ false
grid-differ c d n =
    false_from_ne_true (same_point (grid_point c) (grid_point d))
    (λ t.
    let parts = and_parts (int_eq (c.x *ℤ pos 1) (d.x *ℤ pos 1)) (int_eq (c.y *ℤ pos 1) (d.y *ℤ pos 1)) t in
    n (same_coordinates c d (one c.x d.x (eq_from_test _ _ parts.0)) (one c.y d.y (eq_from_test _ _ parts.1))))
  where
    one : (s t : ℤ) → s *ℤ pos 1 ≡ t *ℤ pos 1 → s ≡ t
    one s t f = omega (arith, ints)

-- from a point strictly on the left to one on the left or the line all are strictly on the left
between-past : (u v : Coordinates) (c d p : Point) → IsPoint c → IsPoint p → IsBetween c d p → pos 0 <ℤ cross u v c → pos 0 ≤ℤ cross u v d → pos 0 <ℤ cross u v p
between-past u v c d p i j k h l =
    subst (λ z. pos 0 <ℤ z) (value-left_side u v p)
    (positive-same side p (mean k.first k.second c d) j (mean-point k.first k.second c d i k.first_positive) k.same
    (subst (λ z. pos 0 <ℤ z) (sym (value-mean side k.first k.second c d))
    (added (value side c *ℤ pos k.first) (value side d *ℤ pos k.second)
    (mul_pos (value side c) k.first k.first_positive (subst (λ z. pos 0 <ℤ z) (sym (value-left_side u v c)) h))
    (mul_nonneg (value side d) k.second (subst (λ z. pos 0 ≤ℤ z) (sym (value-left_side u v d)) l)))))
  where
    side : Form
    side = left_side u v

    added : (x y : ℤ) → pos 0 <ℤ x → pos 0 ≤ℤ y → pos 0 <ℤ (x +ℤ y)
    added x y f g = omega (arith, ints)

border-outside : (a b : Geometry) → IsValid a → IsValid b → is_area a ≡ true → is_area b ≡ true → AreBetween a b → HasSegment (both (in_boundary a) (in_exterior b))
border-outside a b v w f g s = by_end h.past
  where
    h : HasPast s.from s.to (edges_of a)
    h = past-edge s.from s.to a s.differ v f s.first

    e : Line
    e = h.edge

    on_left : OnLeft s.from s.to e
    on_left = each-in (OnLeft s.from s.to) (edges_of a) s.first e h.among

    apart_ends : e.a ≢ e.b
    apart_ends = each-in (λ (x : Line). x.a ≢ x.b) (edges_of a) (ends-differ a f) e h.among

    along : (c d : Coordinates) → c ≢ d → IsOnEdge e (grid_point c) → IsOnEdge e (grid_point d) → pos 0 <ℤ cross s.from s.to (grid_point c) → pos 0 ≤ℤ cross s.from s.to (grid_point d) →
        HasSegment (both (in_boundary a) (in_exterior b))
    along c d n on_c on_d past left =
        record {
          a = grid_point c;
          b = grid_point d;
          is_a = is_grid c;
          is_b = is_grid d;
          differ = grid-differ c d n;
          has =
              λ p i k.
              and_from (in_boundary a p) (in_exterior b p)
              (on-boundary a e p (area-shape a f) h.among (edge_is_convex e (grid_point c) (grid_point d) p (is_grid c) (is_grid d) i on_c on_d k))
              (outside-right s.from s.to b p s.differ i w g s.second (between-past s.from s.to (grid_point c) (grid_point d) p (is_grid c) i k past left));
        }

    by_end : (pos 0 <ℤ cross s.from s.to (grid_point e.a)) ⊎ (pos 0 <ℤ cross s.from s.to (grid_point e.b)) → HasSegment (both (in_boundary a) (in_exterior b))
    by_end (inl past) = along e.a e.b apart_ends (start_on_edge e.a e.b) (end_on_edge e.a e.b) past on_left.1
    by_end (inr past) = along e.b e.a (λ same. apart_ends (sym same)) (end_on_edge e.a e.b) (start_on_edge e.a e.b) past on_left.0

-- ---- the entries
turned-both : (s t : PointSet) (p : Point) → both s t p ≡ true → both t s p ≡ true
turned-both s t p h = let parts = and_parts (s p) (t p) h in and_from (t p) (s p) parts.1 parts.0

turned-segment : (s t : PointSet) → HasSegment (both s t) → HasSegment (both t s)
turned-segment s t h = record { a = h.a; b = h.b; is_a = h.is_a; is_b = h.is_b; differ = h.differ; has = λ p i j. turned-both s t p (h.has p i j) }

some-segment : (set : PointSet) (d : Dim) → HasDimension set d → HasSegment set → IsAtMost dims.One d
some-segment set dims.Nothing h k = absurd (h (point_in_segment set k))
some-segment set dims.Zero h k = absurd (h.1 k)
some-segment set dims.One h k = refl
some-segment set dims.Two h k = refl

some-triangle : (set : PointSet) (d : Dim) → HasDimension set d → HasTriangle set → IsAtMost dims.Two d
some-triangle set dims.Nothing h k = absurd (h (point_in_segment set (segment_in_triangle set k)))
some-triangle set dims.Zero h k = absurd (h.1 (segment_in_triangle set k))
some-triangle set dims.One h k = absurd (h.1 k)
some-triangle set dims.Two h k = refl

at-most-one : (d : Dim) → (d ≡ dims.Two → ⊥) → IsAtMost d dims.One
at-most-one dims.Nothing none = refl
at-most-one dims.Zero none = refl
at-most-one dims.One none = refl
at-most-one dims.Two none = absurd (none refl)

pub divided_areas_are_apart : DividedAreasAreApart
divided_areas_are_apart a b v w f g divided =
    let s = between a b v w f g divided in
    let r = exchanged a b s in
    let m = (matrices_are_over_the_plane a b).computed in
    let first = area-shape a f in
    let second = area-shape b g in
    record {
      least = (
        refl,
        (
          refl,
          (
            some-triangle (both (in_interior a) (in_exterior b)) _ m.1.1.0 (inside-outside a b v w f g s),
            (
              refl,
              (
                refl,
                (
                  some-segment (both (in_boundary a) (in_exterior b)) _ m.1.1.1.1.1.0 (border-outside a b v w f g s),
                  (
                    some-triangle (both (in_exterior a) (in_interior b)) _ m.1.1.1.1.1.1.0
                        (wider-triangle (both (in_interior b) (in_exterior a)) (both (in_exterior a) (in_interior b)) (λ p h. turned-both (in_interior b) (in_exterior a) p h) (inside-outside b a w v g f r)),
                    (
                      some-segment (both (in_exterior a) (in_boundary b)) _ m.1.1.1.1.1.1.1.0 (turned-segment (in_boundary b) (in_exterior a) (border-outside b a w v g f r)),
                      (some-triangle (both (in_exterior a) (in_exterior b)) _ m.1.1.1.1.1.1.1.1.0 (outside-both a b v w), refl),
                    ),
                  ),
                ),
              ),
            ),
          ),
        ),
      );
      most = (
        none-is-empty (in_interior a) (in_interior b) _ m.0 (λ p i h k. apart a b p i v w f g s h (inl k)),
        (
          none-is-empty (in_interior a) (in_boundary b) _ m.1.0 (λ p i h k. apart a b p i v w f g s h (inr k)),
          (
            at-most-two _,
            (
              none-is-empty (in_boundary a) (in_interior b) _ m.1.1.1.0 (λ p i h k. apart b a p i w v g f r k (inr h)),
              (
                at-most-one _ (first-thin a (in_boundary b) _ v first m.1.1.1.1.0),
                (
                  at-most-one _ (first-thin a (in_exterior b) _ v first m.1.1.1.1.1.0),
                  (at-most-two _, (at-most-one _ (second-thin b (in_exterior a) _ w second m.1.1.1.1.1.1.1.0), (at-most-two _, refl))),
                ),
              ),
            ),
          ),
        ),
      );
      contact = (nothing-holds a b).contact;
    }

pub divided-holds : (a b f g : Geometry) (known : Known) → known ≡ known_divided → f ≡ a → g ≡ b → IsValid a → IsValid b → is_small_area a ≡ true → is_small_area b ≡ true → AreDivided f g → Holds known (matrix_of a b)
divided-holds a b f g known is same_first same_second v w small_first small_second divided =
    subst (λ (k : Known). Holds k (matrix_of a b)) (sym is)
    (divided_areas_are_apart a b v w
    (and_parts (is_area a) (nat_le (point_count a) sided_points) small_first).0
    (and_parts (is_area b) (nat_le (point_count b) sided_points) small_second).0
    (subst (λ (x : Geometry). AreDivided x b) same_first (subst (λ (y : Geometry). AreDivided f y) same_second divided)))
