-- What is known of the distances of two sets, joined from what is known of their parts.
use Rattle.std.proofs.Common.{◌≡◌, refl, ap, subst, sym, ◌∙◌, ℤ, ℕ, ◌<◌, ◌*◌, pos, ◌*ℤ◌, ◌≤ℤ◌, ◌<ℤ◌, arith, List, [], ◌∷◌, ◌++◌, take, drop, length, get_or, Bool, true, false, ◌||◌, ◌⊎◌, inl, inr, ⊎_elim}
use Rattle.std.specs.Prelude.{IsTrue, ◌↔◌}
use Rattle.std.proofs.lemmas.Bool.{both_ways, or_cases, or_left, or_right}
use Rattle.std.proofs.lemmas.Int.{ints}
use Rattle.std.proofs.lemmas.List.{take-append-drop}
use Rattle.std.proofs.lemmas.List.Folds.{list_any-append}
use Rattle.sf_grid.specs.Fraction.{Fraction, IsFraction, fraction_le}
use Rattle.sf_grid.specs.Plane.{Coordinates, IsPoint, Point}
use Rattle.sf_grid.specs.Edge.{IsOnEdge, edge_between, on_edge}
use Rattle.sf_grid.proofs.FractionLaws.{le-trans}
use Rattle.sf_grid.proofs.NumberTests.{eq_from_test, le_from_test, test_from_le}
use Rattle.sf_grid.proofs.OrderLaws.{product_pos}
use Rattle.sf_grid.proofs.Ring.{ring, var, sum, dif, mul}
use Rattle.sf_geometry.specs.declared.extent.Extent.{Extent}
use Rattle.sf_distance.specs.Mixed.{Mixed, number_of}
use Rattle.sf_distance.specs.Nearest.{lesser}
use Rattle.sf_distance.specs.Squares.{IsLeastSquare, IsReached, IsWithin, square_between}
use Rattle.sf_distance.proofs.DotLaws.{least_as}
use Rattle.sf_distance.proofs.LeastLaws.{flipped, le_flipped}
use Rattle.sf_distance.proofs.PointLaws.{gt_from_test, if_cases}
use Rattle.sf_edge_distance.specs.Boxes.{AreApartBy, IsOver}
use Rattle.sf_edge_distance.specs.Edges.{IsOnSome, on_some}
use Rattle.sf_edge_distance.specs.Improved.{IsImproved}

-- ---- fractions in order
pub through : (a b c : Fraction) → IsFraction b → IsTrue (fraction_le a b) → IsTrue (fraction_le b c) → IsTrue (fraction_le a c)
through a b c i h k = test_from_le _ _ (le-trans a b c i (le_from_test _ _ h) (le_from_test _ _ k))

pub self : (a : Fraction) → IsTrue (fraction_le a a)
self a = test_from_le (a.num *ℤ pos a.den) (a.num *ℤ pos a.den) (same (a.num *ℤ pos a.den))
  where
    same : (z : ℤ) → z ≤ℤ z
    same z = omega (arith, ints)

less_is_most : (x y : ℤ) → x <ℤ y → x ≤ℤ y
less_is_most x y l = omega (arith, ints)

same_is_most : (x y : ℤ) → x ≡ y → x ≤ℤ y
same_is_most x y e = omega (arith, ints)

other_way : (a b : Fraction) → fraction_le a b ≡ false → IsTrue (fraction_le b a)
other_way a b h = test_from_le _ _ (less_is_most (b.num *ℤ pos a.den) (a.num *ℤ pos b.den) (gt_from_test (a.num *ℤ pos b.den) (b.num *ℤ pos a.den) h))

pub between_is_number : (p q : Point) → IsPoint p → IsPoint q → IsFraction (square_between p q)
between_is_number p q i j = record { positive = product_pos (p.d * q.d) (p.d * q.d) (product_pos p.d q.d i.positive j.positive) (product_pos p.d q.d i.positive j.positive) }

-- a square that is reached is no less than any that is at most all
pub reached_le : (A B : Point → Type 0) (s : Fraction) (r : IsReached A B s) → IsTrue (fraction_le (square_between r.first r.second) s)
reached_le A B s r =
    let z : Fraction = square_between r.first r.second in
    test_from_le (z.num *ℤ pos s.den) (s.num *ℤ pos z.den) (same_is_most (z.num *ℤ pos s.den) (s.num *ℤ pos z.den) (eq_from_test (z.num *ℤ pos s.den) (s.num *ℤ pos z.den) r.reached))

-- ---- the sets exchanged
pub improved-back : (A B : Point → Type 0) (known better : Fraction) → IsImproved A B known better → IsImproved B A known better
improved-back A B known better i =
    record {
      is_number = i.is_number;
      at_most = i.at_most;
      least = λ p q o j h k. le_flipped q p better (i.least q p j o k h);
      reached =
          ⊎_elim (λ same. inl same)
          (λ r. inr (record {
            first = r.second;
            second = r.first;
            first_is_point = r.second_is_point;
            second_is_point = r.first_is_point;
            in_first = r.in_second;
            in_second = r.in_first;
            reached = flipped r.first r.second better r.reached;
          })) i.reached;
    }

pub le_back : (p q : Point) (s : Fraction) → IsTrue (fraction_le (square_between p q) s) → IsTrue (fraction_le (square_between q p) s)
le_back p q s h =
    test_from_le _ _
    (moved
    ((square_between p q).num *ℤ pos s.den) ((square_between q p).num *ℤ pos s.den)
    (s.num *ℤ (pos p.d *ℤ pos q.d *ℤ (pos p.d *ℤ pos q.d))) (s.num *ℤ (pos q.d *ℤ pos p.d *ℤ (pos q.d *ℤ pos p.d)))
    (ring (p.x ∷ p.y ∷ (pos p.d) ∷ q.x ∷ q.y ∷ (pos q.d) ∷ (pos s.den) ∷ []) (mul (sum (mul (dif (mul (var 0) (var 5)) (mul (var 3) (var 2))) (dif (mul (var 0) (var 5)) (mul (var 3) (var 2)))) (mul (dif (mul (var 1) (var 5)) (mul (var 4) (var 2))) (dif (mul (var 1) (var 5)) (mul (var 4) (var 2))))) (var 6)) (mul (sum (mul (dif (mul (var 3) (var 2)) (mul (var 0) (var 5))) (dif (mul (var 3) (var 2)) (mul (var 0) (var 5)))) (mul (dif (mul (var 4) (var 2)) (mul (var 1) (var 5))) (dif (mul (var 4) (var 2)) (mul (var 1) (var 5))))) (var 6)) refl)
    (ring (s.num ∷ (pos p.d) ∷ (pos q.d) ∷ []) (mul (var 0) (mul (mul (var 1) (var 2)) (mul (var 1) (var 2)))) (mul (var 0) (mul (mul (var 2) (var 1)) (mul (var 2) (var 1)))) refl)
    (le_from_test _ _ h))
  where
    moved : (a b c d : ℤ) → a ≡ b → c ≡ d → a ≤ℤ c → b ≤ℤ d
    moved a b c d e f h = omega (arith, ints)

pub within-back : (A B : Point → Type 0) (bound : Fraction) → IsWithin A B bound → IsWithin B A bound
within-back A B bound w =
    record {
      first = w.second;
      second = w.first;
      first_is_point = w.second_is_point;
      second_is_point = w.first_is_point;
      in_first = w.in_second;
      in_second = w.in_first;
      near = le_back w.first w.second bound w.near;
    }

-- ---- one set of two parts
-- the points of a set are those of its parts
pub record IsBoth (A B C : Point → Type 0) : Type 0 where
  pub parts : (p : Point) → C p → (A p) ⊎ (B p)
  pub first : (p : Point) → A p → C p
  pub second : (p : Point) → B p → C p

reached-as : (A B S : Point → Type 0) (s : Fraction) → ((p : Point) → A p → B p) → IsReached A S s → IsReached B S s
reached-as A B S s there r =
    record {
      first = r.first;
      second = r.second;
      first_is_point = r.first_is_point;
      second_is_point = r.second_is_point;
      in_first = there r.first r.in_first;
      in_second = r.in_second;
      reached = r.reached;
    }

pub improved-both : (A B C S : Point → Type 0) (known better best : Fraction) → IsBoth A B C → IsImproved A S known better → IsImproved B S better best → IsImproved C S known best
improved-both A B C S known better best both i j =
    record {
      is_number = j.is_number;
      at_most = through best better known i.is_number j.at_most i.at_most;
      least =
          λ p q o k h t.
          ⊎_elim (λ a. through best better (square_between p q) i.is_number j.at_most (i.least p q o k a t)) (λ b. j.least p q o k b t) (both.parts p h);
      reached =
          ⊎_elim
          (λ same. ⊎_elim (λ known_is. inl (same ∙ known_is)) (λ r. inr (subst (λ (s : Fraction). IsReached C S s) (sym same) (reached-as A C S better both.first r))) i.reached)
          (λ r. inr (reached-as B C S best both.second r)) j.reached;
    }

within-as : (A B S : Point → Type 0) (bound : Fraction) → ((p : Point) → A p → B p) → IsWithin A S bound → IsWithin B S bound
within-as A B S bound there w =
    record {
      first = w.first;
      second = w.second;
      first_is_point = w.first_is_point;
      second_is_point = w.second_is_point;
      in_first = there w.first w.in_first;
      in_second = w.in_second;
      near = w.near;
    }

pub within-first : (A B C S : Point → Type 0) (bound : Fraction) → IsBoth A B C → IsWithin A S bound → IsWithin C S bound
within-first A B C S bound both w = within-as A C S bound both.first w

pub within-second : (A B C S : Point → Type 0) (bound : Fraction) → IsBoth A B C → IsWithin B S bound → IsWithin C S bound
within-second A B C S bound both w = within-as B C S bound both.second w

pub within-parts : (A B C S : Point → Type 0) (bound : Fraction) → IsBoth A B C → IsWithin C S bound → (IsWithin A S bound) ⊎ (IsWithin B S bound)
within-parts A B C S bound both w =
    ⊎_elim
    (λ a. inl (record {
      first = w.first;
      second = w.second;
      first_is_point = w.first_is_point;
      second_is_point = w.second_is_point;
      in_first = a;
      in_second = w.in_second;
      near = w.near;
    }))
    (λ b. inr (record {
      first = w.first;
      second = w.second;
      first_is_point = w.first_is_point;
      second_is_point = w.second_is_point;
      in_first = b;
      in_second = w.in_second;
      near = w.near;
    }))
    (both.parts w.first w.in_first)

pub both-back : (A B C : Point → Type 0) → IsBoth A B C → IsBoth B A C
both-back A B C b = record { parts = λ p h. ⊎_elim (λ a. inr a) (λ c. inl c) (b.parts p h); first = b.second; second = b.first }

-- the edges of a list, in two halves
pub halves : (n : ℕ) (edges front back : List (Coordinates × Coordinates)) → front ≡ take n edges → back ≡ drop n edges → IsBoth (IsOnSome front) (IsOnSome back) (IsOnSome edges)
halves n edges front back f b =
    let all : front ++ back ≡ edges = ap (λ xs. xs ++ back) f ∙ ap (λ ys. take n edges ++ ys) b ∙ take-append-drop n edges in
    subst (λ (es : List (Coordinates × Coordinates)). IsBoth (IsOnSome front) (IsOnSome back) (IsOnSome es)) all
    (record {
      parts = λ p h. or_cases (on_some front p) (on_some back p) (sym (split p) ∙ h);
      first = λ p h. split p ∙ or_left (on_some front p) (on_some back p) h;
      second = λ p h. split p ∙ or_right (on_some front p) (on_some back p) h;
    })
  where
    split : (p : Point) → on_some (front ++ back) p ≡ (on_some front p || on_some back p)
    split p = list_any-append (λ e. on_edge (edge_between e.0 e.1) p) front back

-- ---- boxes too far apart
pub improved-left : (A B : Point → Type 0) (known gap : Fraction) → IsFraction known → IsFraction gap → IsTrue (fraction_le known gap)
    → ((p q : Point) → IsPoint p → IsPoint q → A p → B q → IsTrue (fraction_le gap (square_between p q))) → IsImproved A B known known
improved-left A B known gap i j less far =
    record {
      is_number = i;
      at_most = self known;
      least = λ p q o k h t. through known gap (square_between p q) j less (far p q o k h t);
      reached = inl refl;
    }

pub within-left : (A B : Point → Type 0) (bound gap : Fraction) → fraction_le gap bound ≡ false
    → ((p q : Point) → IsPoint p → IsPoint q → A p → B q → IsTrue (fraction_le gap (square_between p q))) → IsWithin A B bound → ⊥
within-left A B bound gap more far w =
    both_ways (fraction_le gap bound) more
    (through gap (square_between w.first w.second) bound (between_is_number w.first w.second w.first_is_point w.second_is_point)
    (far w.first w.second w.first_is_point w.second_is_point w.in_first w.in_second) w.near)

-- what two boxes say of the edges in them
pub far_apart : (a b : Extent) (square : Mixed) (es fs : List (Coordinates × Coordinates)) → AreApartBy a b square → IsOver a es → IsOver b fs
    → (p q : Point) → IsPoint p → IsPoint q → IsOnSome es p → IsOnSome fs q → IsTrue (fraction_le (number_of square) (square_between p q))
far_apart a b square es fs apart over_a over_b p q i j h k = apart p q i j (over_a p i h) (over_b q j k)

-- ---- two edges
pub improved-lesser : (A B : Point → Type 0) (s known better : Fraction) → IsFraction known → IsLeastSquare A B s → better ≡ lesser s known → IsImproved A B known better
improved-lesser A B s known better i l is =
    subst (λ (t : Fraction). IsImproved A B known t) (sym is)
    (if_cases (λ (t : Fraction). IsImproved A B known t) (fraction_le s known) s known
    (λ less. record { is_number = l.is_number; at_most = less; least = l.least; reached = inr l.reached })
    (λ more. record {
      is_number = i;
      at_most = self known;
      least = λ p q o j h k. through known s (square_between p q) l.is_number (other_way s known more) (l.least p q o j h k);
      reached = inl refl;
    }))

pub within-least : (A B : Point → Type 0) (s bound : Fraction) → IsLeastSquare A B s → IsTrue (fraction_le s bound) ↔ IsWithin A B bound
within-least A B s bound l = (
  λ less. record {
    first = l.reached.first;
    second = l.reached.second;
    first_is_point = l.reached.first_is_point;
    second_is_point = l.reached.second_is_point;
    in_first = l.reached.in_first;
    in_second = l.reached.in_second;
    near = through (square_between l.reached.first l.reached.second) s bound l.is_number (reached_le A B s l.reached) less;
  },
  λ w. through s (square_between w.first w.second) bound (between_is_number w.first w.second w.first_is_point w.second_is_point)
      (l.least w.first w.second w.first_is_point w.second_is_point w.in_first w.in_second) w.near,
)

-- the one edge of a list
pub only-one : (edges : List (Coordinates × Coordinates)) (e : Coordinates × Coordinates) → length edges ≡ 1 → e ≡ get_or edges 0 e → edges ≡ e ∷ []
only-one [] e one is = absurd (omega (arith, one))
only-one (x ∷ []) e one is = ap (λ (f : Coordinates × Coordinates). f ∷ []) (sym is)
only-one (x ∷ y ∷ edges) e one is = absurd (omega (arith, one))

pub only : (edges : List (Coordinates × Coordinates)) (e : Coordinates × Coordinates) → edges ≡ e ∷ [] → (p : Point) → on_edge (edge_between e.0 e.1) p ≡ on_some edges p
only edges e is p = sym (or-none (on_edge (edge_between e.0 e.1) p)) ∙ ap (λ (es : List (Coordinates × Coordinates)). on_some es p) (sym is)
  where
    or-none : (b : Bool) → (b || false) ≡ b
    or-none true = refl
    or-none false = refl

-- the first one is one of them
pub head-on : (edges : List (Coordinates × Coordinates)) (e : Coordinates × Coordinates) → 0 < length edges → e ≡ get_or edges 0 e → (p : Point) → IsOnEdge (edge_between e.0 e.1) p → IsOnSome edges p
head-on [] e some is p h = absurd (omega (arith, some))
head-on (x ∷ edges) e some is p h =
    or_left (on_edge (edge_between x.0 x.1) p) (on_some edges p) (subst (λ (f : Coordinates × Coordinates). IsOnEdge (edge_between f.0 f.1) p) is h)

-- two lists of one edge each
pub least-only : (es fs : List (Coordinates × Coordinates)) (e f : Coordinates × Coordinates) (s : Fraction) → es ≡ e ∷ [] → fs ≡ f ∷ []
    → IsLeastSquare (IsOnEdge (edge_between e.0 e.1)) (IsOnEdge (edge_between f.0 f.1)) s → IsLeastSquare (IsOnSome es) (IsOnSome fs) s
least-only es fs e f s first second l =
    least_as (IsOnEdge (edge_between e.0 e.1)) (IsOnEdge (edge_between f.0 f.1)) (IsOnSome es) (IsOnSome fs) s
    (λ p h. sym (only es e first p) ∙ h) (λ p h. only es e first p ∙ h) (λ p h. sym (only fs f second p) ∙ h) (λ p h. only fs f second p ∙ h) l

-- ---- the least of all
pub least-from : (A B First Second : Point → Type 0) (begun best : Fraction) → ((p : Point) → First p → A p) → ((p : Point) → Second p → B p) → IsLeastSquare First Second begun → IsImproved A B begun best
    → IsLeastSquare A B best
least-from A B First Second begun best there over l i =
    record {
      is_number = i.is_number;
      reached =
          ⊎_elim
          (λ same. subst (λ (s : Fraction). IsReached A B s) (sym same)
          (record {
            first = l.reached.first;
            second = l.reached.second;
            first_is_point = l.reached.first_is_point;
            second_is_point = l.reached.second_is_point;
            in_first = there l.reached.first l.reached.in_first;
            in_second = over l.reached.second l.reached.in_second;
            reached = l.reached.reached;
          }))
          (λ r. r) i.reached;
      least = i.least;
    }

-- the square of a gap is a number
pub whole_gap : (m : Mixed) (n : ℕ) → m ≡ record { whole = n; rest = 0; den = 1 } → IsFraction (number_of m)
whole_gap m n is = subst (λ (k : Mixed). IsFraction (number_of k)) (sym is) (record { positive = omega arith })

-- ---- two parts, one after the other
pub within-then : (A B C S : Point → Type 0) (bound : Fraction) (told : Bool) → IsBoth A B C → told ≡ true → IsTrue told ↔ IsWithin A S bound → IsTrue told ↔ IsWithin C S bound
within-then A B C S bound told both is first = (λ h. within-first A B C S bound both (first.0 h), λ w. is)

pub within-else : (A B C S : Point → Type 0) (bound : Fraction) (told other : Bool) → IsBoth A B C → told ≡ false → IsTrue told ↔ IsWithin A S bound → IsTrue other ↔ IsWithin B S bound → IsTrue other ↔ IsWithin C S bound
within-else A B C S bound told other both is first second = (
  λ h. within-second A B C S bound both (second.0 h),
  λ w. ⊎_elim (λ a. absurd (both_ways told is (first.1 a))) (λ b. second.1 b) (within-parts A B C S bound both w),
)
