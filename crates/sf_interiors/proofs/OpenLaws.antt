-- Near a point inside two lists of edges lies one in no event's column and at no height; a triangle round it is inside both too.
use Rattle.std.proofs.Common.{◌≡◌, ℕ, suc, ◌+◌, ◌*◌, ◌<◌, arith, refl, ap, sym, ◌∙◌, ℤ, pos, ◌+ℤ◌, ◌-ℤ◌, ◌*ℤ◌, ◌<ℤ◌, ◌≤ℤ◌, true, false, List, [], ◌∷◌, ◌++◌, map}
use Rattle.std.specs.Prelude.{if◌then◌else◌}
use Rattle.std.specs.List.{AllByRecursion, flat_map}
use Rattle.std.proofs.lemmas.Bool.{and_from, both_ways}
use Rattle.std.proofs.lemmas.Int.{by_lt_z, ints}
use Rattle.sf_grid.specs.Fraction.{Fraction, fraction_eq}
use Rattle.sf_grid.specs.Plane.{IsPoint, Point, point_at, x_of, y_of}
use Rattle.sf_grid.specs.Edge.{Edge as Line, edge_above, edge_between, height_at, is_vertical, on_edge, reaches}
use Rattle.sf_grid.specs.EvenOdd.{is_odd}
use Rattle.sf_grid.proofs.CallerLemmas.{Same, dif, eq_from_test, mul, mul_nonneg, num, on_edge-same, ring, sum, test_from_eq, var}
use Rattle.sf_strips.specs.declared.piece.Piece.{Piece}
use Rattle.sf_strips.specs.declared.piece.Piece.TheVariants.{Edge}
use Rattle.sf_cells.specs.Pieces.{ends_of, heights_of, if_in_column, is_above, is_on}
use Rattle.sf_cells.specs.Samples.{events}
use Rattle.sf_slabs.proofs.CallerLemmas.{Among, IsPoint-point_at, Numbers, each-append, each-both, each-map, each-parts, event_places, event_places-numbers, heights_in, if_cases, on_edge-height}
use Rattle.sf_plane.proofs.CoverLaws.{Among-sorted_back, is_listed}
use Rattle.sf_plane.proofs.FormLaws.{nudged, nudged-point}
use Rattle.sf_plane.proofs.GuardLaws.{alike_triangle}
use Rattle.sf_plane.proofs.ShareLaws.{alike_each}
use Rattle.sf_plane.proofs.StripLaws.{among_has}
use Rattle.sf_plane.specs.Cover.{is_among}
use Rattle.sf_plane.specs.Dimension.{HasTriangle, PointSet}
use Rattle.sf_grid.specs.Fraction.{fraction_lt}
use Rattle.sf_valid_rules.proofs.MemberLaws.{count-same, each-of_flat, each-of_map, each-to_flat, each-to_map}
use Rattle.sf_interiors.proofs.ChainLaws.{IsBalanced}
use Rattle.sf_interiors.proofs.InsideLaws.{IsInside, IsOff, each-fine, stays, swerves}

abbrev pub piece_of : Line → Piece
piece_of e = Edge e.a e.b

abbrev Avoids : Fraction → List Fraction → Type 0
Avoids z qs = AllByRecursion (λ q. Same z q → ⊥) qs

not_among : (qs : List Fraction) (z : Fraction) → Avoids z qs → Among qs z → ⊥
not_among qs z h a = among_has (λ q. Same z q → ⊥) qs z (λ r k e s. k e) h a refl

-- ---- a small step to the right leads out of the columns of all events
abbrev denominators : List Fraction → ℕ
denominators [] = 0
denominators (q ∷ qs) = q.den + denominators qs

no_multiple : (d k : ℕ) (w : ℤ) → 0 < d → d < k → pos d ≡ w *ℤ pos k → ⊥
no_multiple d k w some less e =
    by_lt_z (pos 0) w
    (λ l. over (w -ℤ pos 1) (mul_nonneg (w -ℤ pos 1) k (above w l)) (ring (w ∷ pos k ∷ []) (mul (dif (var 0) (num (pos 1))) (var 1)) (dif (mul (var 0) (var 1)) (var 1)) refl))
    (λ l. under (mul_nonneg (pos 0 -ℤ w) k (below w l)) (ring (w ∷ pos k ∷ []) (mul (dif (num (pos 0)) (var 0)) (var 1)) (dif (num (pos 0)) (mul (var 0) (var 1))) refl))
  where
    above : (z : ℤ) → pos 0 <ℤ z → pos 0 ≤ℤ (z -ℤ pos 1)
    above z h = omega (arith, ints)

    below : (z : ℤ) → z ≤ℤ pos 0 → pos 0 ≤ℤ (pos 0 -ℤ z)
    below z h = omega (arith, ints)

    over : (z : ℤ) → pos 0 ≤ℤ (z *ℤ pos k) → z *ℤ pos k ≡ w *ℤ pos k -ℤ pos k → ⊥
    over z h f = let m : pos k ≤ℤ (w *ℤ pos k) = at (z *ℤ pos k) (w *ℤ pos k) (pos k) h f in more (w *ℤ pos k) m e
      where
        at : (a b c : ℤ) → pos 0 ≤ℤ a → a ≡ b -ℤ c → c ≤ℤ b
        at a b c i j = omega (arith, ints)

        more : (a : ℤ) → pos k ≤ℤ a → pos d ≡ a → ⊥
        more a i j = omega (arith, ints)

    under : pos 0 ≤ℤ ((pos 0 -ℤ w) *ℤ pos k) → (pos 0 -ℤ w) *ℤ pos k ≡ pos 0 -ℤ w *ℤ pos k → ⊥
    under h f = less_than ((pos 0 -ℤ w) *ℤ pos k) (w *ℤ pos k) h f e
      where
        less_than : (a b : ℤ) → pos 0 ≤ℤ a → a ≡ pos 0 -ℤ b → pos d ≡ b → ⊥
        less_than a b i j l = omega (arith, ints)

stepped_off : (qs : List Fraction) (p : Point) (k : ℕ) → Numbers qs → denominators qs < k → Avoids (x_of (nudged k (pos 1) (pos 0) p)) qs
stepped_off [] p k n h = tt
stepped_off (q ∷ qs) p k n h = (
  λ e.
      no_multiple q.den k (q.num *ℤ pos p.d -ℤ p.x *ℤ pos q.den) n.0.positive (omega arith)
      (ring (p.x ∷ pos k ∷ pos q.den ∷ q.num ∷ pos p.d ∷ [])
      (var 2)
      (sum
      (dif (mul (sum (mul (var 0) (var 1)) (num (pos 1))) (var 2)) (mul (var 3) (mul (var 4) (var 1))))
      (mul (dif (mul (var 3) (var 4)) (mul (var 0) (var 2))) (var 1)))
      refl
      ∙ ap (λ z. z +ℤ (q.num *ℤ pos p.d -ℤ p.x *ℤ pos q.den) *ℤ pos k) (gone ((p.x *ℤ pos k +ℤ pos 1) *ℤ pos q.den) (q.num *ℤ pos (p.d * k)) e)
      ∙ none ((q.num *ℤ pos p.d -ℤ p.x *ℤ pos q.den) *ℤ pos k)),
  stepped_off qs p k n.1 (omega arith),
)
  where
    gone : (a b : ℤ) → a ≡ b → a -ℤ b ≡ pos 0
    gone a b f = omega (arith, ints)

    none : (a : ℤ) → pos 0 +ℤ a ≡ a
    none a = omega (arith, ints)

no_event : (pieces : List Piece) (p : Point) → IsPoint p → Avoids (x_of p) (event_places pieces) → is_among (events pieces) (x_of p) ≡ false
no_event pieces p i h =
    is_listed (events pieces) (x_of p) false (λ e. absurd (both_ways false refl e))
    (λ _ a. not_among (event_places pieces) (x_of p) h (Among-sorted_back fraction_lt (event_places pieces) (x_of p) (record { positive = i.positive }) (event_places-numbers pieces) a))

-- ---- off all edges, in the column of no event, a point is at no height
at_height : (e : Line) (p : Point) → IsPoint p → is_vertical e ≡ false → reaches e (x_of p) ≡ true → Same (y_of p) (height_at e (x_of p)) → on_edge e p ≡ true
at_height e p i s r h =
    on_edge-same e p (point_at (x_of p) (y_of p)) i (IsPoint-point_at (x_of p) (y_of p) (record { positive = i.positive }) (record { positive = i.positive }))
    (ring (p.x ∷ pos p.d ∷ []) (mul (var 0) (mul (var 1) (var 1))) (mul (mul (var 0) (var 1)) (var 1)) refl)
    (ring (p.y ∷ pos p.d ∷ []) (mul (var 0) (mul (var 1) (var 1))) (mul (mul (var 0) (var 1)) (var 1)) refl)
    ∙ on_edge-height e (x_of p) (y_of p) s (record { positive = i.positive }) (record { positive = i.positive })
    ∙ and_from (reaches e (x_of p)) (fraction_eq (y_of p) (height_at e (x_of p))) r (test_from_eq _ _ h)

edge_heights : (e : Line) (p : Point) → IsPoint p → Avoids (x_of p) (ends_of (piece_of e)) → on_edge e p ≡ false → Avoids (y_of p) (heights_of (x_of p) (piece_of e))
edge_heights e p i h off =
    if_cases (Avoids (y_of p)) (is_vertical (edge_between e.a e.b)) (if_in_column (x_of p) e.a _) (if reaches (edge_between e.a e.b) (x_of p) then height_at (edge_between e.a e.b) (x_of p) ∷ [] else [])
    (λ _. if_cases (Avoids (y_of p)) (fraction_eq (record { num = e.a.x; den = 1 }) (x_of p)) _ [] (λ t. absurd (h.0 (sym (eq_from_test _ _ t)))) (λ _. tt))
    (λ s.
    if_cases (Avoids (y_of p)) (reaches (edge_between e.a e.b) (x_of p)) (height_at (edge_between e.a e.b) (x_of p) ∷ []) []
    (λ r. (λ l. both_ways (on_edge e p) off (at_height e p i s r l), tt)) (λ _. tt))

no_height : (es : List Line) (p : Point) → IsPoint p → Avoids (x_of p) (event_places (map piece_of es)) → IsOff p es → is_among (heights_in (map piece_of es) (x_of p)) (y_of p) ≡ false
no_height es p i h off =
    is_listed (heights_in (map piece_of es) (x_of p)) (y_of p) false (λ e. absurd (both_ways false refl e))
    (λ _ a. not_among (heights_in (map piece_of es) (x_of p)) (y_of p) heights a)
  where
    ends : AllByRecursion (λ (e : Line). Avoids (x_of p) (ends_of (piece_of e))) es
    ends =
        each-of_map (λ r. Avoids (x_of p) (ends_of r)) piece_of es
        (each-of_flat (λ q. Same (x_of p) q → ⊥) ends_of (map piece_of es) (each-parts (λ q. Same (x_of p) q → ⊥) (flat_map ends_of (map piece_of es)) _ h).0)

    heights : Avoids (y_of p) (heights_in (map piece_of es) (x_of p))
    heights =
        each-to_flat (λ q. Same (y_of p) q → ⊥) (heights_of (x_of p)) (map piece_of es)
        (each-to_map (λ r. Avoids (y_of p) (heights_of (x_of p) r)) piece_of es
        (each-both (λ (e : Line). Avoids (x_of p) (ends_of (piece_of e))) (λ e. on_edge e p ≡ false) (λ (e : Line). Avoids (y_of p) (heights_of (x_of p) (piece_of e))) es (λ e k o. edge_heights e p i k o) ends off))

-- ---- what is in one cell with a point inside is inside
-- both points are on the edge or neither, and it is above both or neither
abbrev AreAlikeAt : Point → Point → Line → Type 0
AreAlikeAt p q e = (is_on p (piece_of e) ≡ is_on q (piece_of e)) × (is_above p (piece_of e) ≡ is_above q (piece_of e))

alike-inside : (es : List Line) (p q : Point) → AllByRecursion (AreAlikeAt p q) es → IsInside es p → IsInside es q
alike-inside es p q each h =
    record {
      off = each-both (AreAlikeAt p q) (λ e. on_edge e p ≡ false) (λ e. on_edge e q ≡ false) es (λ e k o. sym k.0 ∙ o) each h.off;
      odd =
          ap is_odd
          (count-same (λ e. edge_above e q) (λ e. edge_above e p) es (each-map (AreAlikeAt p q) (λ e. edge_above e q ≡ edge_above e p) es (λ e k. sym k.1) each))
          ∙ h.odd;
    }

-- with a point inside two lists of edges, a set that has all points inside both has a triangle
pub triangle-inside : (es fs : List Line) (set : PointSet) (c : Point) → IsPoint c → IsBalanced es c → IsBalanced fs c → IsInside es c → IsInside fs c →
    ((q : Point) → IsPoint q → IsInside es q → IsInside fs q → set q ≡ true) → HasTriangle set
triangle-inside es fs set c i b d h g has =
    let pieces = map piece_of (es ++ fs) in
    let k : ℕ = suc (swerves (pos 1) (pos 0) es + swerves (pos 1) (pos 0) fs + denominators (event_places pieces)) in
    let p = nudged k (pos 1) (pos 0) c in
    let is_p = nudged-point k (pos 1) (pos 0) c (omega arith) i in
    let first = stays es c (pos 1) (pos 0) k i b (each-fine (pos 1) (pos 0) es k (omega arith)) h in
    let second = stays fs c (pos 1) (pos 0) k i d (each-fine (pos 1) (pos 0) fs k (omega arith)) g in
    let columns = stepped_off (event_places pieces) c k (event_places-numbers pieces) (omega arith) in
    let off = each-append (λ e. on_edge e p ≡ false) es fs first.off second.off in
    let t = alike_triangle pieces p is_p (no_event pieces p is_p columns) (no_height (es ++ fs) p is_p columns off) in
    record {
      a = t.a;
      b = t.b;
      c = t.c;
      is_a = t.is_a;
      is_b = t.is_b;
      is_c = t.is_c;
      wide = t.wide;
      has =
          λ q j l.
          let each = each-of_map (λ r. (is_on p r ≡ is_on q r) × (is_above p r ≡ is_above q r)) piece_of (es ++ fs) (alike_each pieces p q (t.alike q j l).alike) in
          let parts = each-parts (AreAlikeAt p q) es fs each in
          has q j (alike-inside es p q parts.0 first) (alike-inside fs p q parts.1 second);
    }
