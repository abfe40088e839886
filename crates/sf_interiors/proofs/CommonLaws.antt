-- A point on an edge of one list and inside another list: some point near by is inside both.
use Rattle.std.proofs.Common.{◌≡◌, ◌≢◌, ℕ, suc, ◌+◌, ◌<◌, arith, refl, ap, sym, ◌∙◌, ℤ, pos, negsuc, ◌-ℤ◌, ◌*ℤ◌, Bool, true, false, not, unsigned_abs, List, [], ◌∷◌, ◌++◌}
use Rattle.std.specs.List.{AllByRecursion, count_by}
use Rattle.std.specs.Ordering.{int_eq}
use Rattle.std.proofs.lemmas.Bool.{and_from, and_parts, both_ways, false_from_ne_true}
use Rattle.std.proofs.lemmas.Int.{ints}
use Rattle.sf_grid.specs.Plane.{Coordinates, IsPoint, Point, grid_point, same_point}
use Rattle.sf_grid.specs.Edge.{Edge as Line, IsOnEdge, edge_above, on_edge}
use Rattle.sf_grid.specs.EvenOdd.{edges_above, is_odd}
use Rattle.sf_grid.proofs.CallerLemmas.{eq_from_test, on_edge-swap, same_coordinates, same_point_is_equivalence, test_from_eq}
use Rattle.sf_grid.proofs.Products.{mul_assoc}
use Rattle.sf_slabs.proofs.CallerLemmas.{each-append, each-both, each-map, each-parts}
use Rattle.sf_plane.proofs.CombineLaws.{start_on_edge}
use Rattle.sf_plane.proofs.FormLaws.{nudged, nudged-point}
use Rattle.sf_valid_rules.proofs.MemberLaws.{count-same}
use Rattle.sf_interiors.proofs.AlongLaws.{AreApart, along-off, along-on, no-run, rise_to, run_to, upright-from}
use Rattle.sf_interiors.proofs.BesideLaws.{slanted-beside, upright-above, upright-above_left, upright-off, upright-straddles}
use Rattle.sf_interiors.proofs.ChainLaws.{IsBalanced, exchange, odd-count}
use Rattle.sf_interiors.proofs.InsideLaws.{IsInside, IsOff, each-fine, none-odd, stays, stays-off, straddles-on, swerves}
use Rattle.sf_interiors.proofs.NudgeLaws.{IsFine, above-left, above-right}
use Rattle.sf_interiors.proofs.SideLaws.{differ, differ-self, edge_above_left, straddles}
use Rattle.sf_interiors.proofs.StepLaws.{not_level}

-- ---- parities that differ in one edge
one-odd : (s : Line → Bool) (fs gs : List Line) (e : Line) → AllByRecursion (λ f. s f ≡ false) fs → AllByRecursion (λ f. s f ≡ false) gs → s e ≡ true →
    is_odd (count_by s (fs ++ e ∷ gs)) ≡ true
one-odd s [] gs e h k t = odd-count s e gs ∙ ap (λ b. differ b (is_odd (count_by s gs))) t ∙ ap not (none-odd s gs k)
one-odd s (f ∷ fs) gs e h k t =
    odd-count s f (fs ++ e ∷ gs) ∙ ap (λ b. differ b (is_odd (count_by s (fs ++ e ∷ gs)))) h.0 ∙ one-odd s fs gs e h.1 k t

differ-odd : (s t : Line → Bool) (es : List Line) → differ (is_odd (count_by s es)) (is_odd (count_by t es)) ≡ is_odd (count_by (λ e. differ (s e) (t e)) es)
differ-odd s t [] = refl
differ-odd s t (e ∷ es) =
    ap (λ b. differ b (is_odd (count_by t (e ∷ es)))) (odd-count s e es)
    ∙ ap (λ b. differ (differ (s e) (is_odd (count_by s es))) b) (odd-count t e es)
    ∙ exchange (s e) (is_odd (count_by s es)) (t e) (is_odd (count_by t es))
    ∙ ap (λ b. differ (differ (s e) (t e)) b) (differ-odd s t es)
    ∙ sym (odd-count (λ f. differ (s f) (t f)) e es)

-- ---- a point inside both
pub record HasCommon (es hs : List Line) : Type 0 where
  pub point : Point
  pub is_point : IsPoint point
  pub first : IsInside es point
  pub second : IsInside hs point

one_of : (es hs : List Line) (p r : Point) → IsPoint p → IsPoint r → IsOff p es → IsOff r es → differ (is_odd (edges_above p es)) (is_odd (edges_above r es)) ≡ true →
    IsInside hs p → IsInside hs r → HasCommon es hs
one_of es hs p r i j f g d h k = by_tests (is_odd (edges_above p es)) refl (is_odd (edges_above r es)) refl d
  where
    by_tests : (s : Bool) → is_odd (edges_above p es) ≡ s → (t : Bool) → is_odd (edges_above r es) ≡ t → differ s t ≡ true → HasCommon es hs
    by_tests true l t m n = record { point = p; is_point = i; first = record { off = f; odd = l }; second = h }
    by_tests false l true m n = record { point = r; is_point = j; first = record { off = g; odd = m }; second = k }
    by_tests false l false m n = absurd (both_ways false refl n)

-- two steps of one size, fine for all edges
record AreFine (i j m n : ℤ) (fs gs hs : List Line) : Type 0 where
  k : ℕ
  positive : 0 < k
  small : unsigned_abs i < k
  small_back : unsigned_abs m < k
  first_here : AllByRecursion (IsFine i j k) fs × AllByRecursion (IsFine i j k) gs
  first_there : AllByRecursion (IsFine i j k) hs
  second_here : AllByRecursion (IsFine m n k) fs × AllByRecursion (IsFine m n k) gs
  second_there : AllByRecursion (IsFine m n k) hs

fine-both : (i j m n : ℤ) (fs gs hs : List Line) (e : Line) → AreFine i j m n fs gs hs
fine-both i j m n fs gs hs e =
    let all = fs ++ (e ∷ gs ++ hs) in
    let k : ℕ = suc (swerves i j all + swerves m n all) in
    let first = each-parts (IsFine i j k) fs (e ∷ gs ++ hs) (each-fine i j all k (omega arith)) in
    let first_rest = each-parts (IsFine i j k) gs hs first.1.1 in
    let second = each-parts (IsFine m n k) fs (e ∷ gs ++ hs) (each-fine m n all k (omega arith)) in
    let second_rest = each-parts (IsFine m n k) gs hs second.1.1 in
    record {
      k = k;
      positive = omega arith;
      small = first.1.0.across;
      small_back = second.1.0.across;
      first_here = (first.0, first_rest.0);
      first_there = first_rest.1;
      second_here = (second.0, second_rest.0);
      second_there = second_rest.1;
    }

-- ---- above and below a slanting edge
around-slanted : (fs gs hs : List Line) (e : Line) (q : Point) → IsPoint q → IsOnEdge e q → e.a.x ≢ e.b.x → e.a.x *ℤ pos q.d ≢ q.x → e.b.x *ℤ pos q.d ≢ q.x →
    IsOff q fs → IsOff q gs → IsBalanced hs q → IsInside hs q → HasCommon (fs ++ e ∷ gs) hs
around-slanted fs gs hs e q o on slants off_a off_b off_fs off_gs b h =
    let fine = fine-both (pos 0) (pos 1) (pos 0) (negsuc 0) fs gs hs e in
    let p = nudged fine.k (pos 0) (pos 1) q in
    let r = nudged fine.k (pos 0) (negsuc 0) q in
    let beside = slanted-beside e q fine.k fine.positive on slants off_a off_b in
    let turned = λ (f : Line) (s : IsFine (pos 0) (pos 1) fine.k f × IsFine (pos 0) (negsuc 0) fine.k f) (off : on_edge f q ≡ false).
    ap (λ t. differ t (edge_above f r)) (above-right f q (pos 0) (pos 1) fine.k o s.0 (omega (arith, ints)) off)
    ∙ ap (λ t. differ (edge_above f q) t) (above-right f q (pos 0) (negsuc 0) fine.k o s.1 (omega (arith, ints)) off)
    ∙ differ-self (edge_above f q) in
    let each = λ (es : List Line) (s : AllByRecursion (IsFine (pos 0) (pos 1) fine.k) es) (t : AllByRecursion (IsFine (pos 0) (negsuc 0) fine.k) es) (off : IsOff q es).
    each-both (λ f. IsFine (pos 0) (pos 1) fine.k f × IsFine (pos 0) (negsuc 0) fine.k f) (λ f. on_edge f q ≡ false) (λ f. differ (edge_above f p) (edge_above f r) ≡ false) es turned
    (each-both (IsFine (pos 0) (pos 1) fine.k) (IsFine (pos 0) (negsuc 0) fine.k) (λ f. IsFine (pos 0) (pos 1) fine.k f × IsFine (pos 0) (negsuc 0) fine.k f) es (λ f m n. (m, n)) s t) off in
    one_of (fs ++ e ∷ gs) hs p r (nudged-point fine.k (pos 0) (pos 1) q fine.positive o) (nudged-point fine.k (pos 0) (negsuc 0) q fine.positive o)
    (each-append (λ f. on_edge f p ≡ false) fs (e ∷ gs) (stays-off fs q (pos 0) (pos 1) fine.k fine.first_here.0 off_fs)
    (beside.first, stays-off gs q (pos 0) (pos 1) fine.k fine.first_here.1 off_gs))
    (each-append (λ f. on_edge f r ≡ false) fs (e ∷ gs) (stays-off fs q (pos 0) (negsuc 0) fine.k fine.second_here.0 off_fs)
    (beside.second, stays-off gs q (pos 0) (negsuc 0) fine.k fine.second_here.1 off_gs))
    (differ-odd (λ f. edge_above f p) (λ f. edge_above f r) (fs ++ e ∷ gs)
    ∙ one-odd (λ f. differ (edge_above f p) (edge_above f r)) fs gs e
    (each fs fine.first_here.0 fine.second_here.0 off_fs) (each gs fine.first_here.1 fine.second_here.1 off_gs) beside.turned)
    (stays hs q (pos 0) (pos 1) fine.k o b fine.first_there h)
    (stays hs q (pos 0) (negsuc 0) fine.k o b fine.second_there h)

-- ---- left and right of a vertical edge
around-upright : (fs gs hs : List Line) (e : Line) (q : Point) → IsPoint q → IsOnEdge e q → e.a.x ≡ e.b.x → e.a.y *ℤ pos q.d ≢ q.y → e.b.y *ℤ pos q.d ≢ q.y →
    IsOff q fs → IsOff q gs → IsBalanced (fs ++ e ∷ gs) q → IsBalanced hs q → IsInside hs q → HasCommon (fs ++ e ∷ gs) hs
around-upright fs gs hs e q o on v off_a off_b off_fs off_gs balanced b h =
    let fine = fine-both (pos 1) (pos 0) (negsuc 0) (pos 0) fs gs hs e in
    let es = fs ++ e ∷ gs in
    let p = nudged fine.k (pos 1) (pos 0) q in
    let r = nudged fine.k (negsuc 0) (pos 0) q in
    let right = λ (gs : List Line) (s : AllByRecursion (IsFine (pos 1) (pos 0) fine.k) gs) (off : IsOff q gs).
    each-both (IsFine (pos 1) (pos 0) fine.k) (λ f. on_edge f q ≡ false) (λ f. edge_above f p ≡ edge_above f q) gs
    (λ f m n. above-right f q (pos 1) (pos 0) fine.k o m (omega (arith, ints)) n) s off in
    let left = λ (gs : List Line) (s : AllByRecursion (IsFine (negsuc 0) (pos 0) fine.k) gs) (off : IsOff q gs).
    each-both (IsFine (negsuc 0) (pos 0) fine.k) (λ f. on_edge f q ≡ false) (λ f. edge_above f r ≡ edge_above_left f q) gs
    (λ f m n. above-left f q (negsuc 0) (pos 0) fine.k o m (omega (arith, ints)) n) s off in
    let clear = λ (gs : List Line) (off : IsOff q gs).
    each-map (λ f. on_edge f q ≡ false) (λ f. straddles f q ≡ false) gs
    (λ f m. false_from_ne_true (straddles f q) (λ t. both_ways (on_edge f q) m (straddles-on f q t))) off in
    one_of es hs p r (nudged-point fine.k (pos 1) (pos 0) q fine.positive o) (nudged-point fine.k (negsuc 0) (pos 0) q fine.positive o)
    (each-append (λ f. on_edge f p ≡ false) fs (e ∷ gs) (stays-off fs q (pos 1) (pos 0) fine.k fine.first_here.0 off_fs)
    (upright-off e q (pos 1) (pos 0) fine.k fine.small (λ z. one z) v on, stays-off gs q (pos 1) (pos 0) fine.k fine.first_here.1 off_gs))
    (each-append (λ f. on_edge f r ≡ false) fs (e ∷ gs) (stays-off fs q (negsuc 0) (pos 0) fine.k fine.second_here.0 off_fs)
    (upright-off e q (negsuc 0) (pos 0) fine.k fine.small_back (λ z. minus z) v on, stays-off gs q (negsuc 0) (pos 0) fine.k fine.second_here.1 off_gs))
    (ap (λ n. differ (is_odd n) (is_odd (edges_above r es)))
    (count-same (λ f. edge_above f p) (λ f. edge_above f q) es
    (each-append (λ f. edge_above f p ≡ edge_above f q) fs (e ∷ gs) (right fs fine.first_here.0 off_fs)
    (upright-above e p v ∙ sym (upright-above e q v), right gs fine.first_here.1 off_gs)))
    ∙ ap (λ n. differ (is_odd (edges_above q es)) (is_odd n))
    (count-same (λ f. edge_above f r) (λ f. edge_above_left f q) es
    (each-append (λ f. edge_above f r ≡ edge_above_left f q) fs (e ∷ gs) (left fs fine.second_here.0 off_fs)
    (upright-above e r v ∙ sym (upright-above_left e q v), left gs fine.second_here.1 off_gs)))
    ∙ balanced
    ∙ one-odd (λ f. straddles f q) fs gs e (clear fs off_fs) (clear gs off_gs) (upright-straddles e q v on off_a off_b))
    (stays hs q (pos 1) (pos 0) fine.k o b fine.first_there h)
    (stays hs q (negsuc 0) (pos 0) fine.k o b fine.second_there h)
  where
    one : pos 1 ≡ pos 0 → ⊥
    one z = absurd (omega (arith, ints))

    minus : negsuc 0 ≡ pos 0 → ⊥
    minus z = absurd (omega (arith, ints))

-- ---- from the point along its edge, towards an end that it isn't
toward : (fs gs hs : List Line) (e : Line) (c : Coordinates) (q : Point) → IsPoint q → IsOnEdge e q → IsOnEdge e (grid_point c) → same_point (grid_point c) q ≡ false →
    AreApart e fs → AreApart e gs → ((p : Point) → IsPoint p → IsBalanced (fs ++ e ∷ gs) p) → ((p : Point) → IsPoint p → IsBalanced hs p) → IsInside hs q →
    HasCommon (fs ++ e ∷ gs) hs
toward fs gs hs e c q o on there other apart_fs apart_gs balanced b h =
    let all = fs ++ (e ∷ gs ++ hs) in
    let m : ℕ = suc (swerves i j all) in
    let k : ℕ = m + 1 in
    let r = nudged k i j q in
    let is_r = nudged-point k i j q (omega arith) o in
    let fine = each-parts (IsFine i j k) fs (e ∷ gs ++ hs) (each-fine i j all k (omega arith)) in
    let fine_rest = each-parts (IsFine i j k) gs hs fine.1.1 in
    let next = each-parts (IsFine i j (k + 1)) fs (e ∷ gs ++ hs) (each-fine i j all (k + 1) (omega arith)) in
    let next_rest = each-parts (IsFine i j (k + 1)) gs hs next.1.1 in
    let on_r = along-on e c q m o (omega arith) on there in
    let on_next = along-on e c q k o (omega arith) on there in
    let off_fs = along-off e q i j k fs o (omega arith) nonzero on_r on_next fine.0 next.0 apart_fs in
    let off_gs = along-off e q i j k gs o (omega arith) nonzero on_r on_next fine_rest.0 next_rest.0 apart_gs in
    let inside = stays hs q i j k o (b q o) fine_rest.1 h in
    by_column (int_eq e.a.x e.b.x) refl k fine.1.0 is_r on_r off_fs off_gs inside
  where
    i : ℤ
    i = run_to c q

    j : ℤ
    j = rise_to c q

    nonzero : i ≡ pos 0 → j ≡ pos 0 → ⊥
    nonzero z w =
        both_ways (same_point (grid_point c) q) other
        (and_from (int_eq (c.x *ℤ pos q.d) (q.x *ℤ pos 1)) (int_eq (c.y *ℤ pos q.d) (q.y *ℤ pos 1))
        (test_from_eq (c.x *ℤ pos q.d) (q.x *ℤ pos 1) (same (c.x *ℤ pos q.d) q.x z)) (test_from_eq (c.y *ℤ pos q.d) (q.y *ℤ pos 1) (same (c.y *ℤ pos q.d) q.y w)))
      where
        same : (s t : ℤ) → s -ℤ t ≡ pos 0 → s ≡ t *ℤ pos 1
        same s t f = omega (arith, ints)

    by_column : (t : Bool) → int_eq e.a.x e.b.x ≡ t → (k : ℕ) → IsFine i j k e → IsPoint (nudged k i j q) → IsOnEdge e (nudged k i j q) →
        IsOff (nudged k i j q) fs → IsOff (nudged k i j q) gs → IsInside hs (nudged k i j q) → HasCommon (fs ++ e ∷ gs) hs
    by_column true t k f is_r on_r off_fs off_gs inside =
        let v : e.a.x ≡ e.b.x = eq_from_test e.a.x e.b.x t in
        let n : j ≢ pos 0 = λ w. nonzero (no-run e c q on there v) w in
        around-upright fs gs hs e (nudged k i j q) is_r on_r v
        (λ z. not_level (e.a.y *ℤ pos q.d) q.y j k f.up n (mul_assoc e.a.y (pos q.d) (pos k) ∙ z))
        (λ z. not_level (e.b.y *ℤ pos q.d) q.y j k f.up n (mul_assoc e.b.y (pos q.d) (pos k) ∙ z))
        off_fs off_gs (balanced (nudged k i j q) is_r) (b (nudged k i j q) is_r) inside
    by_column false t k f is_r on_r off_fs off_gs inside =
        let slants : e.a.x ≢ e.b.x = λ v. both_ways (int_eq e.a.x e.b.x) t (test_from_eq e.a.x e.b.x v) in
        let n : i ≢ pos 0 = λ z. nonzero z (upright-from e c q on there z slants) in
        around-slanted fs gs hs e (nudged k i j q) is_r on_r slants
        (λ z. not_level (e.a.x *ℤ pos q.d) q.x i k f.across n (mul_assoc e.a.x (pos q.d) (pos k) ∙ z))
        (λ z. not_level (e.b.x *ℤ pos q.d) q.x i k f.across n (mul_assoc e.b.x (pos q.d) (pos k) ∙ z))
        off_fs off_gs (b (nudged k i j q) is_r) inside

-- a point on the edge e of one list, no other edge of which shares two points with e, and inside another list
pub common : (fs gs hs : List Line) (e : Line) (q : Point) → IsPoint q → e.a ≢ e.b → IsOnEdge e q → AreApart e fs → AreApart e gs →
    ((p : Point) → IsPoint p → IsBalanced (fs ++ e ∷ gs) p) → ((p : Point) → IsPoint p → IsBalanced hs p) → IsInside hs q → HasCommon (fs ++ e ∷ gs) hs
common fs gs hs e q o n on apart_fs apart_gs balanced b h = by_end (same_point (grid_point e.a) q) refl
  where
    one : (s t : ℤ) → s *ℤ pos 1 ≡ t *ℤ pos 1 → s ≡ t
    one s t f = omega (arith, ints)

    by_end : (t : Bool) → same_point (grid_point e.a) q ≡ t → HasCommon (fs ++ e ∷ gs) hs
    by_end false t = toward fs gs hs e e.a q o on (start_on_edge e.a e.b) t apart_fs apart_gs balanced b h
    by_end true t =
        toward fs gs hs e e.b q o on (on_edge-swap e.a e.b (grid_point e.b) ∙ start_on_edge e.b e.a)
        (false_from_ne_true (same_point (grid_point e.b) q)
        (λ w.
        let same = same_point_is_equivalence.transitive (grid_point e.a) q (grid_point e.b) o t (same_point_is_equivalence.symmetric (grid_point e.b) q w) in
        let parts = and_parts (int_eq (e.a.x *ℤ pos 1) (e.b.x *ℤ pos 1)) (int_eq (e.a.y *ℤ pos 1) (e.b.y *ℤ pos 1)) same in
        n (same_coordinates e.a e.b (one e.a.x e.b.x (eq_from_test _ _ parts.0)) (one e.a.y e.b.y (eq_from_test _ _ parts.1)))))
        apart_fs apart_gs balanced b h
