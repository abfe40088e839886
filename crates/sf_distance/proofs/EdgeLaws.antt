-- Of two edges that share no point, no two points are nearer than the nearest end of one of them is to the other.
use Rattle.std.proofs.Common.{◌≡◌, ◌≢◌, refl, subst, ap, ◌∙◌, ℤ, pos, ◌+ℤ◌, ◌-ℤ◌, ◌*ℤ◌, ◌≤ℤ◌, ◌<ℤ◌, arith, [], ◌∷◌, ◌⊎◌, inl, inr, true}
use Rattle.std.specs.Prelude.{int_lt}
use Rattle.std.proofs.lemmas.Bool.{and_parts, cases_Bool, or_cases}
use Rattle.std.proofs.lemmas.Int.{ints, by_lt_z}
use Rattle.sf_grid.specs.Plane.{Coordinates}
use Rattle.sf_grid.specs.Edge.{Edge, edge_between}
use Rattle.sf_grid.specs.Sharing.{IsSharing}
use Rattle.sf_grid.specs.declared.meet.Meet.TheVariants.{Apart}
use Rattle.sf_grid.proofs.Ring.{ring, var, num, sum, dif, mul}
use Rattle.sf_grid.proofs.NumberTests.{lt_from_test}
use Rattle.sf_grid.proofs.MeanLaws.{square_of-pos}
use Rattle.sf_grid.proofs.ApartLaws.{one_sided}
use Rattle.sf_grid.proofs.CrossingLaws.{at-crossing, crossing_point, end_side, start_side}
use Rattle.sf_distance.specs.Nearest.{square_of}
use Rattle.sf_distance.proofs.CloseLaws.{IsClose, first_exit, gap, slides}
use Rattle.sf_distance.proofs.PointLaws.{same_self, cross_is, way, way_is}

-- a mean of the ends of g whose vector to x, times s, is no longer than w
pub record IsNear (x : Coordinates) (g : Edge) (s w : ℤ) : Type 0 where
  pub first : ℤ
  pub second : ℤ
  pub first_nonneg : pos 0 ≤ℤ first
  pub second_nonneg : pos 0 ≤ℤ second
  pub total : pos 0 <ℤ (first +ℤ second)
  pub close :
      ((way x.x g.a.x g.b.x first second *ℤ way x.x g.a.x g.b.x first second
      +ℤ way x.y g.a.y g.b.y first second *ℤ way x.y g.a.y g.b.y first second) *ℤ (s *ℤ s))
      ≤ℤ (((first +ℤ second) *ℤ (first +ℤ second)) *ℤ w)

-- an end of one of two edges is so near to the other
abbrev pub HaveNear : Edge → Edge → ℤ → ℤ → Type 0
HaveNear e f s w = (IsNear e.a f s w ⊎ IsNear e.b f s w) ⊎ (IsNear f.a e s w ⊎ IsNear f.b e s w)

near_from : (x : Coordinates) (g : Edge) (s w : ℤ) → IsClose (x.x -ℤ g.a.x) (x.y -ℤ g.a.y) (g.b.x -ℤ g.a.x) (g.b.y -ℤ g.a.y) s w → IsNear x g s w
near_from x g s w c =
    record {
      first = c.first;
      second = c.second;
      first_nonneg = c.first_nonneg;
      second_nonneg = c.second_nonneg;
      total = c.total;
      close =
          subst (λ z. ((way x.x g.a.x g.b.x c.first c.second *ℤ way x.x g.a.x g.b.x c.first c.second +ℤ z *ℤ z) *ℤ (s *ℤ s)) ≤ℤ (((c.first +ℤ c.second) *ℤ (c.first +ℤ c.second)) *ℤ w))
          (way_is x.y g.a.y g.b.y c.first c.second)
          (subst (λ z. ((z *ℤ z +ℤ ((c.first +ℤ c.second) *ℤ (x.y -ℤ g.a.y) -ℤ c.second *ℤ (g.b.y -ℤ g.a.y)) *ℤ ((c.first +ℤ c.second) *ℤ (x.y -ℤ g.a.y) -ℤ c.second *ℤ (g.b.y -ℤ g.a.y))) *ℤ (s *ℤ s)) ≤ℤ (((c.first +ℤ c.second) *ℤ (c.first +ℤ c.second)) *ℤ w))
          (way_is x.x g.a.x g.b.x c.first c.second)
          c.close);
    }

way_turned : (x a b m n : ℤ) → way x a b m n ≡ way x b a n m
way_turned x a b m n = ring (x ∷ a ∷ b ∷ m ∷ n ∷ []) (dif (mul (sum (var 3) (var 4)) (var 0)) (sum (mul (var 3) (var 1)) (mul (var 4) (var 2)))) (dif (mul (sum (var 4) (var 3)) (var 0)) (sum (mul (var 4) (var 2)) (mul (var 3) (var 1)))) refl

sum_turned : (m n : ℤ) → m +ℤ n ≡ n +ℤ m
sum_turned m n = omega (arith, ints)

near_turned : (x : Coordinates) (g : Edge) (s w : ℤ) → IsNear x g s w → IsNear x (edge_between g.b g.a) s w
near_turned x g s w c =
    record {
      first = c.second;
      second = c.first;
      first_nonneg = c.second_nonneg;
      second_nonneg = c.first_nonneg;
      total = let h : pos 0 <ℤ (c.first +ℤ c.second) = c.total in omega (arith, ints);
      close =
          subst (λ t. ((way x.x g.b.x g.a.x c.second c.first *ℤ way x.x g.b.x g.a.x c.second c.first +ℤ way x.y g.b.y g.a.y c.second c.first *ℤ way x.y g.b.y g.a.y c.second c.first) *ℤ (s *ℤ s)) ≤ℤ ((t *ℤ t) *ℤ w))
          (sum_turned c.first c.second)
          (subst (λ z. ((way x.x g.b.x g.a.x c.second c.first *ℤ way x.x g.b.x g.a.x c.second c.first +ℤ z *ℤ z) *ℤ (s *ℤ s)) ≤ℤ (((c.first +ℤ c.second) *ℤ (c.first +ℤ c.second)) *ℤ w))
          (way_turned x.y g.a.y g.b.y c.first c.second)
          (subst (λ z. ((z *ℤ z +ℤ way x.y g.a.y g.b.y c.first c.second *ℤ way x.y g.a.y g.b.y c.first c.second) *ℤ (s *ℤ s)) ≤ℤ (((c.first +ℤ c.second) *ℤ (c.first +ℤ c.second)) *ℤ w))
          (way_turned x.x g.a.x g.b.x c.first c.second)
          c.close));
    }

turned_first : (e f : Edge) (s w : ℤ) → HaveNear (edge_between e.b e.a) f s w → HaveNear e f s w
turned_first e f s w (inl (inl h)) = inl (inr h)
turned_first e f s w (inl (inr h)) = inl (inl h)
turned_first e f s w (inr (inl h)) = inr (inl (near_turned f.a (edge_between e.b e.a) s w h))
turned_first e f s w (inr (inr h)) = inr (inr (near_turned f.b (edge_between e.b e.a) s w h))

swapped : (e f : Edge) (s w : ℤ) → HaveNear f e s w → HaveNear e f s w
swapped e f s w (inl h) = inr h
swapped e f s w (inr h) = inl h

-- ---- the vector between two points, by their weights
abbrev pub apart : ℤ → ℤ → ℤ → ℤ → ℤ → ℤ → ℤ → ℤ → ℤ
apart a b c d m n k l = (k +ℤ l) *ℤ (m *ℤ a +ℤ n *ℤ b) -ℤ (m +ℤ n) *ℤ (k *ℤ c +ℤ l *ℤ d)

gap_is : (a b c d m n k l : ℤ) → gap (a -ℤ c) (b -ℤ a) (d -ℤ c) m n k l ≡ apart a b c d m n k l
gap_is a b c d m n k l =
    ring (a ∷ b ∷ c ∷ d ∷ m ∷ n ∷ k ∷ l ∷ []) (dif (sum (mul (mul (sum (var 4) (var 5)) (sum (var 6) (var 7))) (dif (var 0) (var 2))) (mul (mul (sum (var 6) (var 7)) (var 5)) (dif (var 1) (var 0)))) (mul (mul (sum (var 4) (var 5)) (var 7)) (dif (var 3) (var 2)))) (dif (mul (sum (var 6) (var 7)) (sum (mul (var 4) (var 0)) (mul (var 5) (var 1)))) (mul (sum (var 4) (var 5)) (sum (mul (var 6) (var 2)) (mul (var 7) (var 3))))) refl

-- the square of that vector
abbrev pub square_apart : Edge → Edge → ℤ → ℤ → ℤ → ℤ → ℤ
square_apart e f m n k l =
    apart e.a.x e.b.x f.a.x f.b.x m n k l *ℤ apart e.a.x e.b.x f.a.x f.b.x m n k l
    +ℤ apart e.a.y e.b.y f.a.y f.b.y m n k l *ℤ apart e.a.y e.b.y f.a.y f.b.y m n k l

abbrev pub gap_square : Edge → Edge → ℤ → ℤ → ℤ → ℤ → ℤ
gap_square e f m n k l =
    gap (e.a.x -ℤ f.a.x) (e.b.x -ℤ e.a.x) (f.b.x -ℤ f.a.x) m n k l *ℤ gap (e.a.x -ℤ f.a.x) (e.b.x -ℤ e.a.x) (f.b.x -ℤ f.a.x) m n k l
    +ℤ gap (e.a.y -ℤ f.a.y) (e.b.y -ℤ e.a.y) (f.b.y -ℤ f.a.y) m n k l *ℤ gap (e.a.y -ℤ f.a.y) (e.b.y -ℤ e.a.y) (f.b.y -ℤ f.a.y) m n k l

gap_square_is : (e f : Edge) (m n k l : ℤ) → gap_square e f m n k l ≡ square_apart e f m n k l
gap_square_is e f m n k l =
    ap (λ z. z *ℤ z +ℤ gap (e.a.y -ℤ f.a.y) (e.b.y -ℤ e.a.y) (f.b.y -ℤ f.a.y) m n k l *ℤ gap (e.a.y -ℤ f.a.y) (e.b.y -ℤ e.a.y) (f.b.y -ℤ f.a.y) m n k l) (gap_is e.a.x e.b.x f.a.x f.b.x m n k l)
    ∙ ap (λ z. apart e.a.x e.b.x f.a.x f.b.x m n k l *ℤ apart e.a.x e.b.x f.a.x f.b.x m n k l +ℤ z *ℤ z) (gap_is e.a.y e.b.y f.a.y f.b.y m n k l)

-- weights of a point of each
pub record AreWeights (m n k l : ℤ) : Type 0 where
  pub m_nonneg : pos 0 ≤ℤ m
  pub n_nonneg : pos 0 ≤ℤ n
  pub k_nonneg : pos 0 ≤ℤ k
  pub l_nonneg : pos 0 ≤ℤ l
  pub first_total : pos 0 <ℤ (m +ℤ n)
  pub second_total : pos 0 <ℤ (k +ℤ l)

abbrev pub Nears : Edge → Edge → ℤ → ℤ → ℤ → ℤ → Type 0
Nears e f m n k l = HaveNear e f ((m +ℤ n) *ℤ (k +ℤ l)) (square_apart e f m n k l)

-- the side of a point along an edge's line
abbrev pub side : Edge → Coordinates → ℤ
side f x = (f.b.x -ℤ f.a.x) *ℤ (x.y -ℤ f.a.y) -ℤ (f.b.y -ℤ f.a.y) *ℤ (x.x -ℤ f.a.x)

-- ---- the three exits, as facts of the edges
turned_back : (x a : ℤ) → pos 0 -ℤ (x -ℤ a) ≡ a -ℤ x
turned_back x a = omega (arith, ints)

to_far : (a c d : ℤ) → (d -ℤ c) -ℤ (a -ℤ c) ≡ d -ℤ a
to_far a c d = omega (arith, ints)

close_moved : (ox ox' oy oy' gx gy s w : ℤ) → ox ≡ ox' → oy ≡ oy' → IsClose ox oy gx gy s w → IsClose ox' oy' gx gy s w
close_moved ox ox' oy oy' gx gy s w e f c = subst (λ z. IsClose ox' z gx gy s w) f (subst (λ z. IsClose z oy gx gy s w) e c)

rising : (e f : Edge) (m n k l : ℤ) → AreWeights m n k l → pos 0 <ℤ side f e.a → side f e.a <ℤ side f e.b → Nears e f m n k l
rising e f m n k l a h r =
    let G : ℤ = (e.b.y -ℤ e.a.y) *ℤ (f.b.x -ℤ f.a.x) -ℤ (e.b.x -ℤ e.a.x) *ℤ (f.b.y -ℤ f.a.y) in
    let C : ℤ = (e.b.y -ℤ e.a.y) *ℤ (e.a.x -ℤ f.a.x) -ℤ (e.b.x -ℤ e.a.x) *ℤ (e.a.y -ℤ f.a.y) in
    let is : side f e.b -ℤ side f e.a ≡ G =
    ring (e.a.x ∷ e.a.y ∷ e.b.x ∷ e.b.y ∷ f.a.x ∷ f.a.y ∷ f.b.x ∷ f.b.y ∷ []) (dif (dif (mul (dif (var 6) (var 4)) (dif (var 3) (var 5))) (mul (dif (var 7) (var 5)) (dif (var 2) (var 4)))) (dif (mul (dif (var 6) (var 4)) (dif (var 1) (var 5))) (mul (dif (var 7) (var 5)) (dif (var 0) (var 4))))) (dif (mul (dif (var 3) (var 1)) (dif (var 6) (var 4))) (mul (dif (var 2) (var 0)) (dif (var 7) (var 5)))) refl in
    let pG : pos 0 <ℤ G = omega (arith, ints) in
    let s : ℤ = (m +ℤ n) *ℤ (k +ℤ l) in
    let found = first_exit (e.a.x -ℤ f.a.x) (e.a.y -ℤ f.a.y) (e.b.x -ℤ e.a.x) (e.b.y -ℤ e.a.y) (f.b.x -ℤ f.a.x) (f.b.y -ℤ f.a.y) (side f e.a) C G m n k l h pG
    a.m_nonneg a.n_nonneg a.k_nonneg a.l_nonneg a.first_total a.second_total
    (ring ((e.a.x -ℤ f.a.x) ∷ (e.a.y -ℤ f.a.y) ∷ (e.b.x -ℤ e.a.x) ∷ (e.b.y -ℤ e.a.y) ∷ (f.b.x -ℤ f.a.x) ∷ (f.b.y -ℤ f.a.y) ∷ []) (mul (dif (mul (var 3) (var 4)) (mul (var 2) (var 5))) (var 0)) (sum (mul (dif (mul (var 4) (var 1)) (mul (var 5) (var 0))) (var 2)) (mul (dif (mul (var 3) (var 0)) (mul (var 2) (var 1))) (var 4))) refl)
    (ring ((e.a.x -ℤ f.a.x) ∷ (e.a.y -ℤ f.a.y) ∷ (e.b.x -ℤ e.a.x) ∷ (e.b.y -ℤ e.a.y) ∷ (f.b.x -ℤ f.a.x) ∷ (f.b.y -ℤ f.a.y) ∷ []) (mul (dif (mul (var 3) (var 4)) (mul (var 2) (var 5))) (var 1)) (sum (mul (dif (mul (var 4) (var 1)) (mul (var 5) (var 0))) (var 3)) (mul (dif (mul (var 3) (var 0)) (mul (var 2) (var 1))) (var 5))) refl) in
    subst (λ w. HaveNear e f s w) (gap_square_is e f m n k l)
    (elim found [
      | inl c ↦ inl (inl (near_from e.a f s (gap_square e f m n k l) c))
      | inr more ↦
          elim more [
            | inl c ↦ inr (inl (near_from f.a e s (gap_square e f m n k l) (close_moved _ _ _ _ _ _ _ _ (turned_back e.a.x f.a.x) (turned_back e.a.y f.a.y) c)))
            | inr c ↦ inr (inr (near_from f.b e s (gap_square e f m n k l) (close_moved _ _ _ _ _ _ _ _ (to_far e.a.x f.a.x f.b.x) (to_far e.a.y f.a.y f.b.y) c)))
          ]
    ])

-- ---- turned round
weights_turned : (m n k l : ℤ) → AreWeights m n k l → AreWeights n m k l
weights_turned m n k l a =
    record {
      m_nonneg = a.n_nonneg;
      n_nonneg = a.m_nonneg;
      k_nonneg = a.k_nonneg;
      l_nonneg = a.l_nonneg;
      first_total = let h : pos 0 <ℤ (m +ℤ n) = a.first_total in omega (arith, ints);
      second_total = a.second_total;
    }

weights_swapped : (m n k l : ℤ) → AreWeights m n k l → AreWeights k l m n
weights_swapped m n k l a =
    record {
      m_nonneg = a.k_nonneg;
      n_nonneg = a.l_nonneg;
      k_nonneg = a.m_nonneg;
      l_nonneg = a.n_nonneg;
      first_total = a.second_total;
      second_total = a.first_total;
    }

turned_nears : (e f : Edge) (m n k l : ℤ) → Nears (edge_between e.b e.a) f n m k l → Nears e f m n k l
turned_nears e f m n k l h =
    let same : (a b c d : ℤ) → apart b a c d n m k l ≡ apart a b c d m n k l =
    λ a b c d. ring (a ∷ b ∷ c ∷ d ∷ m ∷ n ∷ k ∷ l ∷ []) (dif (mul (sum (var 6) (var 7)) (sum (mul (var 5) (var 1)) (mul (var 4) (var 0)))) (mul (sum (var 5) (var 4)) (sum (mul (var 6) (var 2)) (mul (var 7) (var 3))))) (dif (mul (sum (var 6) (var 7)) (sum (mul (var 4) (var 0)) (mul (var 5) (var 1)))) (mul (sum (var 4) (var 5)) (sum (mul (var 6) (var 2)) (mul (var 7) (var 3))))) refl in
    let squares : square_apart (edge_between e.b e.a) f n m k l ≡ square_apart e f m n k l =
    ap (λ z. z *ℤ z +ℤ apart e.b.y e.a.y f.a.y f.b.y n m k l *ℤ apart e.b.y e.a.y f.a.y f.b.y n m k l) (same e.a.x e.b.x f.a.x f.b.x)
    ∙ ap (λ z. apart e.a.x e.b.x f.a.x f.b.x m n k l *ℤ apart e.a.x e.b.x f.a.x f.b.x m n k l +ℤ z *ℤ z) (same e.a.y e.b.y f.a.y f.b.y) in
    turned_first e f ((m +ℤ n) *ℤ (k +ℤ l)) (square_apart e f m n k l)
    (subst (λ w. HaveNear (edge_between e.b e.a) f ((m +ℤ n) *ℤ (k +ℤ l)) w) squares
    (subst (λ t. HaveNear (edge_between e.b e.a) f (t *ℤ (k +ℤ l)) (square_apart (edge_between e.b e.a) f n m k l)) (sum_turned n m) h))

swapped_nears : (e f : Edge) (m n k l : ℤ) → Nears f e k l m n → Nears e f m n k l
swapped_nears e f m n k l h =
    let turn : (a b c d : ℤ) → apart c d a b k l m n *ℤ apart c d a b k l m n ≡ apart a b c d m n k l *ℤ apart a b c d m n k l =
    λ a b c d. ring (((k +ℤ l) *ℤ (m *ℤ a +ℤ n *ℤ b)) ∷ ((m +ℤ n) *ℤ (k *ℤ c +ℤ l *ℤ d)) ∷ []) (mul (dif (var 1) (var 0)) (dif (var 1) (var 0))) (mul (dif (var 0) (var 1)) (dif (var 0) (var 1))) refl in
    let squares : square_apart f e k l m n ≡ square_apart e f m n k l =
    ap (λ z. z +ℤ apart f.a.y f.b.y e.a.y e.b.y k l m n *ℤ apart f.a.y f.b.y e.a.y e.b.y k l m n) (turn e.a.x e.b.x f.a.x f.b.x)
    ∙ ap (λ z. apart e.a.x e.b.x f.a.x f.b.x m n k l *ℤ apart e.a.x e.b.x f.a.x f.b.x m n k l +ℤ z) (turn e.a.y e.b.y f.a.y f.b.y) in
    let product : (k +ℤ l) *ℤ (m +ℤ n) ≡ (m +ℤ n) *ℤ (k +ℤ l) = ring (k ∷ l ∷ m ∷ n ∷ []) (mul (sum (var 0) (var 1)) (sum (var 2) (var 3))) (mul (sum (var 2) (var 3)) (sum (var 0) (var 1))) refl in
    swapped e f ((m +ℤ n) *ℤ (k +ℤ l)) (square_apart e f m n k l)
    (subst (λ w. HaveNear f e ((m +ℤ n) *ℤ (k +ℤ l)) w) squares
    (subst (λ t. HaveNear f e t (square_apart f e k l m n)) product h))

turned_second : (e f : Edge) (m n k l : ℤ) → Nears e (edge_between f.b f.a) m n l k → Nears e f m n k l
turned_second e f m n k l h =
    swapped_nears e f m n k l (turned_nears f e k l m n (swapped_nears (edge_between f.b f.a) e l k m n h))

-- ---- an edge strictly on one side of the other's line, and not parallel to it
pub one_side_left : (e f : Edge) (m n k l : ℤ) → AreWeights m n k l → pos 0 <ℤ side f e.a → pos 0 <ℤ side f e.b → side f e.a ≢ side f e.b → Nears e f m n k l
one_side_left e f m n k l a h g d =
    by_lt_z (side f e.a) (side f e.b)
    (λ r. rising e f m n k l a h r)
    (λ r. turned_nears e f m n k l (rising (edge_between e.b e.a) f n m k l (weights_turned m n k l a) g
    (by_lt_z (side f e.b) (side f e.a) (λ j. j) (λ j. absurd (d (omega (arith, ints)))))))

side_turned : (f : Edge) (x : Coordinates) → side (edge_between f.b f.a) x ≡ pos 0 -ℤ side f x
side_turned f x =
    ring (f.a.x ∷ f.a.y ∷ f.b.x ∷ f.b.y ∷ x.x ∷ x.y ∷ []) (dif (mul (dif (var 0) (var 2)) (dif (var 5) (var 3))) (mul (dif (var 1) (var 3)) (dif (var 4) (var 2)))) (dif (num (pos 0)) (dif (mul (dif (var 2) (var 0)) (dif (var 5) (var 1))) (mul (dif (var 3) (var 1)) (dif (var 4) (var 0))))) refl

pub one_side : (e f : Edge) (m n k l : ℤ) → AreWeights m n k l → ((pos 0 <ℤ side f e.a) × (pos 0 <ℤ side f e.b)) ⊎ ((side f e.a <ℤ pos 0) × (side f e.b <ℤ pos 0)) → side f e.a ≢ side f e.b → Nears e f m n k l
one_side e f m n k l a (inl h) d = one_side_left e f m n k l a h.0 h.1 d
one_side e f m n k l a (inr h) d =
    let first : side (edge_between f.b f.a) e.a ≡ pos 0 -ℤ side f e.a = side_turned f e.a in
    let second : side (edge_between f.b f.a) e.b ≡ pos 0 -ℤ side f e.b = side_turned f e.b in
    let low : side f e.a <ℤ pos 0 = h.0 in
    let high : side f e.b <ℤ pos 0 = h.1 in
    turned_second e f m n k l
    (one_side_left e (edge_between f.b f.a) m n l k
    (record { m_nonneg = a.m_nonneg; n_nonneg = a.n_nonneg; k_nonneg = a.l_nonneg; l_nonneg = a.k_nonneg; first_total = a.first_total; second_total = let t : pos 0 <ℤ (k +ℤ l) = a.second_total in omega (arith, ints) })
    (omega (arith, ints)) (omega (arith, ints)) (λ j. d (omega (arith, ints))))

-- ---- parallel edges
along_direction : (ux uy vx vy : ℤ) → uy *ℤ vx -ℤ ux *ℤ vy ≡ pos 0 →
    ((vx *ℤ vx +ℤ vy *ℤ vy) *ℤ ux ≡ (ux *ℤ vx +ℤ uy *ℤ vy) *ℤ vx) × ((vx *ℤ vx +ℤ vy *ℤ vy) *ℤ uy ≡ (ux *ℤ vx +ℤ uy *ℤ vy) *ℤ vy)
along_direction ux uy vx vy e = (
  ring (ux ∷ uy ∷ vx ∷ vy ∷ []) (mul (sum (mul (var 2) (var 2)) (mul (var 3) (var 3))) (var 0)) (dif (mul (sum (mul (var 0) (var 2)) (mul (var 1) (var 3))) (var 2)) (mul (var 3) (dif (mul (var 1) (var 2)) (mul (var 0) (var 3))))) refl ∙ ap (λ z. (ux *ℤ vx +ℤ uy *ℤ vy) *ℤ vx -ℤ vy *ℤ z) e ∙ ring (ux ∷ uy ∷ vx ∷ vy ∷ []) (dif (mul (sum (mul (var 0) (var 2)) (mul (var 1) (var 3))) (var 2)) (mul (var 3) (num (pos 0)))) (mul (sum (mul (var 0) (var 2)) (mul (var 1) (var 3))) (var 2)) refl,
  ring (ux ∷ uy ∷ vx ∷ vy ∷ []) (mul (sum (mul (var 2) (var 2)) (mul (var 3) (var 3))) (var 1)) (sum (mul (sum (mul (var 0) (var 2)) (mul (var 1) (var 3))) (var 3)) (mul (var 2) (dif (mul (var 1) (var 2)) (mul (var 0) (var 3))))) refl ∙ ap (λ z. (ux *ℤ vx +ℤ uy *ℤ vy) *ℤ vy +ℤ vx *ℤ z) e ∙ ring (ux ∷ uy ∷ vx ∷ vy ∷ []) (sum (mul (sum (mul (var 0) (var 2)) (mul (var 1) (var 3))) (var 3)) (mul (var 2) (num (pos 0)))) (mul (sum (mul (var 0) (var 2)) (mul (var 1) (var 3))) (var 3)) refl,
)

abbrev pub directions : Edge → Edge → ℤ
directions e f = (e.b.y -ℤ e.a.y) *ℤ (f.b.x -ℤ f.a.x) -ℤ (e.b.x -ℤ e.a.x) *ℤ (f.b.y -ℤ f.a.y)

abbrev pub product_of : Edge → Edge → ℤ
product_of e f = (e.b.x -ℤ e.a.x) *ℤ (f.b.x -ℤ f.a.x) +ℤ (e.b.y -ℤ e.a.y) *ℤ (f.b.y -ℤ f.a.y)

same_way : (e f : Edge) (m n k l : ℤ) → AreWeights m n k l → f.a ≢ f.b → directions e f ≡ pos 0 → pos 0 ≤ℤ product_of e f → Nears e f m n k l
same_way e f m n k l a d z h =
    let s : ℤ = (m +ℤ n) *ℤ (k +ℤ l) in
    let vectors = along_direction (e.b.x -ℤ e.a.x) (e.b.y -ℤ e.a.y) (f.b.x -ℤ f.a.x) (f.b.y -ℤ f.a.y) z in
    let found = slides (e.a.x -ℤ f.a.x) (e.a.y -ℤ f.a.y) (e.b.x -ℤ e.a.x) (e.b.y -ℤ e.a.y) (f.b.x -ℤ f.a.x) (f.b.y -ℤ f.a.y) (square_of f.a f.b) (product_of e f) m n k l
    (square_of-pos f.a f.b d) h a.m_nonneg a.n_nonneg a.k_nonneg a.l_nonneg a.first_total a.second_total vectors.0 vectors.1 in
    subst (λ w. HaveNear e f s w) (gap_square_is e f m n k l)
    (elim found [
      | inl c ↦ inl (inl (near_from e.a f s (gap_square e f m n k l) c))
      | inr c ↦ inr (inl (near_from f.a e s (gap_square e f m n k l) (close_moved _ _ _ _ _ _ _ _ (turned_back e.a.x f.a.x) (turned_back e.a.y f.a.y) c)))
    ])

pub parallel : (e f : Edge) (m n k l : ℤ) → AreWeights m n k l → f.a ≢ f.b → directions e f ≡ pos 0 → Nears e f m n k l
parallel e f m n k l a d z =
    by_lt_z (product_of e f) (pos 0)
    (λ h.
    let none : directions (edge_between e.b e.a) f ≡ pos 0 -ℤ directions e f =
    ring (e.a.x ∷ e.a.y ∷ e.b.x ∷ e.b.y ∷ (f.b.x -ℤ f.a.x) ∷ (f.b.y -ℤ f.a.y) ∷ []) (dif (mul (dif (var 1) (var 3)) (var 4)) (mul (dif (var 0) (var 2)) (var 5))) (dif (num (pos 0)) (dif (mul (dif (var 3) (var 1)) (var 4)) (mul (dif (var 2) (var 0)) (var 5)))) refl in
    let other : product_of (edge_between e.b e.a) f ≡ pos 0 -ℤ product_of e f =
    ring (e.a.x ∷ e.a.y ∷ e.b.x ∷ e.b.y ∷ (f.b.x -ℤ f.a.x) ∷ (f.b.y -ℤ f.a.y) ∷ []) (sum (mul (dif (var 0) (var 2)) (var 4)) (mul (dif (var 1) (var 3)) (var 5))) (dif (num (pos 0)) (sum (mul (dif (var 2) (var 0)) (var 4)) (mul (dif (var 3) (var 1)) (var 5)))) refl in
    turned_nears e f m n k l (same_way (edge_between e.b e.a) f n m k l (weights_turned m n k l a) d (omega (arith, ints)) (omega (arith, ints))))
    (λ h. same_way e f m n k l a d z h)

-- ---- edges that share no point
both_signs : (a b : ℤ) → one_sided a b ≡ true → ((pos 0 <ℤ a) × (pos 0 <ℤ b)) ⊎ ((a <ℤ pos 0) × (b <ℤ pos 0))
both_signs a b t =
    elim (or_cases _ _ t) [
      | inl h ↦ let parts = and_parts (int_lt (pos 0) a) (int_lt (pos 0) b) h in inl (lt_from_test (pos 0) a parts.0, lt_from_test (pos 0) b parts.1)
      | inr h ↦ let parts = and_parts (int_lt a (pos 0)) (int_lt b (pos 0)) h in inr (lt_from_test a (pos 0) parts.0, lt_from_test b (pos 0) parts.1)
    ]

sides_move : (e f : Edge) → side f e.a -ℤ side f e.b ≡ pos 0 -ℤ directions e f
sides_move e f =
    ring (e.a.x ∷ e.a.y ∷ e.b.x ∷ e.b.y ∷ f.a.x ∷ f.a.y ∷ f.b.x ∷ f.b.y ∷ []) (dif (dif (mul (dif (var 6) (var 4)) (dif (var 1) (var 5))) (mul (dif (var 7) (var 5)) (dif (var 0) (var 4)))) (dif (mul (dif (var 6) (var 4)) (dif (var 3) (var 5))) (mul (dif (var 7) (var 5)) (dif (var 2) (var 4))))) (dif (num (pos 0)) (dif (mul (dif (var 3) (var 1)) (dif (var 6) (var 4))) (mul (dif (var 2) (var 0)) (dif (var 7) (var 5))))) refl

sides_move_back : (e f : Edge) → side e f.a -ℤ side e f.b ≡ directions e f
sides_move_back e f =
    ring (e.a.x ∷ e.a.y ∷ e.b.x ∷ e.b.y ∷ f.a.x ∷ f.a.y ∷ f.b.x ∷ f.b.y ∷ []) (dif (dif (mul (dif (var 2) (var 0)) (dif (var 5) (var 1))) (mul (dif (var 3) (var 1)) (dif (var 4) (var 0)))) (dif (mul (dif (var 2) (var 0)) (dif (var 7) (var 1))) (mul (dif (var 3) (var 1)) (dif (var 6) (var 0))))) (dif (mul (dif (var 3) (var 1)) (dif (var 6) (var 4))) (mul (dif (var 2) (var 0)) (dif (var 7) (var 5)))) refl

signs_of : (e f : Edge) → one_sided (start_side f e) (end_side f e) ≡ true → ((pos 0 <ℤ side f e.a) × (pos 0 <ℤ side f e.b)) ⊎ ((side f e.a <ℤ pos 0) × (side f e.b <ℤ pos 0))
signs_of e f t =
    both_signs (side f e.a) (side f e.b)
    (ap (λ z. one_sided z (side f e.b)) (cross_is f e.a) ∙ ap (λ z. one_sided (start_side f e) z) (cross_is f e.b) ∙ t)

pub nears : (e f : Edge) (m n k l : ℤ) → AreWeights m n k l → e.a ≢ e.b → f.a ≢ f.b → IsSharing e f Apart → Nears e f m n k l
nears e f m n k l a d g none =
    by_lt_z (directions e f) (pos 0) (λ h. crossing (λ z. omega (arith, ints)))
    (λ h. by_lt_z (pos 0) (directions e f) (λ j. crossing (λ z. omega (arith, ints))) (λ j. parallel e f m n k l a g (omega (arith, ints))))
  where
    crossing : directions e f ≢ pos 0 → Nears e f m n k l
    crossing z =
        elim (cases_Bool (one_sided (start_side f e) (end_side f e))) [
          | inl t ↦ one_side e f m n k l a (signs_of e f t) (λ s. z (let i = sides_move e f in omega (arith, ints)))
          | inr t ↦
              elim (cases_Bool (one_sided (start_side e f) (end_side e f))) [
                | inl u ↦
                    swapped_nears e f m n k l
                    (one_side f e k l m n (weights_swapped m n k l a) (signs_of f e u) (λ s. z (let i = sides_move_back e f in omega (arith, ints))))
                | inr u ↦
                    let differ : start_side f e ≢ end_side f e = λ s. z (let i = sides_move e f in let j = cross_is f e.a in let i2 = cross_is f e.b in omega (arith, ints)) in
                    let at = at-crossing e f differ t u in
                    absurd (none (crossing_point e f) at.0 ((at.1 (crossing_point e f) at.0).1 (same_self (crossing_point e f))))
              ]
        ]
