-- Between two neighbouring events edges keep their order: at two places with no event at or between them, heights compare alike.
use Rattle.std.proofs.Common.{◌≡◌, ◌≢◌, refl, ap, sym, ◌∙◌, subst, pos, ◌*ℤ◌, true, false, List, [], ◌∷◌, Option, Some, None, ◌⊎◌, inl, inr}
use Rattle.std.specs.List.{AllByRecursion}
use Rattle.std.specs.Ordering.{int_eq}
use Rattle.std.specs.declared.cmp.Ordering.{Ordering}
use Rattle.std.specs.declared.cmp.Ordering.TheVariants.{Equal, Greater, Less}
use Rattle.std.proofs.lemmas.Bool.{and_parts, both_ways, cases_Bool}
use Rattle.sf_grid.specs.Fraction.{Fraction, IsFraction, fraction_le, fraction_lt}
use Rattle.sf_grid.specs.Plane.{Coordinates, IsPoint, Point, x_of}
use Rattle.sf_grid.specs.Edge.{Edge as Line, cross_of_directions, crossing, edge_between, height_at, height_cmp, is_vertical, meeting_of_lines, reaches}
use Rattle.sf_grid.specs.Laws.{HaveHeights}
use Rattle.sf_grid.specs.Sharing.{IsOnBoth}
use Rattle.sf_grid.proofs.CallerLemmas.{Same, eq_from_test, height-IsFraction, other_order_meets, shared_once, test_from_eq}
use Rattle.sf_strips.specs.declared.piece.Piece.{Piece}
use Rattle.sf_strips.specs.declared.piece.Piece.TheVariants.{Edge}
use Rattle.sf_cells.specs.Samples.{crossing_place, crossings_of}
use Rattle.sf_slabs.proofs.CallerLemmas.{Among, Same-trans, Some_in, Some_in-map, crossing-is, each-both, event_places, event_places-numbers, height_at-same, is-crossing, is-event, le_of_lt, level-parallel, level_at-point, not_le-lt, place-IsFraction, rising_order, same_number}
use Rattle.sf_plane.proofs.CompareLaws.{cmp_same}
use Rattle.sf_plane.proofs.PlaceLaws.{IsIn}

-- q is left of both places, or right of both
abbrev pub Aside : Fraction → Fraction → Fraction → Type 0
Aside x z q = ((fraction_lt q x ≡ true) × (fraction_lt q z ≡ true)) ⊎ ((fraction_lt x q ≡ true) × (fraction_lt z q ≡ true))

-- no event is at x, at z or between them
pub record IsStrip (pieces : List Piece) (x z : Fraction) : Type 0 where
  pub first : IsFraction x
  pub second : IsFraction z
  pub aside : AllByRecursion (Aside x z) (event_places pieces)

pub Aside-swap : (x z q : Fraction) → Aside x z q → Aside z x q
Aside-swap x z q (inl h) = inl (h.1, h.0)
Aside-swap x z q (inr h) = inr (h.1, h.0)

pub strip-swap : (pieces : List Piece) (x z : Fraction) → IsStrip pieces x z → IsStrip pieces z x
strip-swap pieces x z s = record { first = s.second; second = s.first; aside = swapped (event_places pieces) s.aside }
  where
    swapped : (qs : List Fraction) → AllByRecursion (Aside x z) qs → AllByRecursion (Aside z x) qs
    swapped [] h = tt
    swapped (q ∷ qs) h = (Aside-swap x z q h.0, swapped qs h.1)

-- a listed number has what all listed ones have
pub among_has : (P : Fraction → Type 0) (qs : List Fraction) (q : Fraction) → ((r : Fraction) → P r → Same q r → P q) → AllByRecursion P qs → Among qs q → P q
among_has P [] q same h a = absurd a
among_has P (r ∷ qs) q same h a =
    elim a [ inl here ↦ same r h.0 here | inr later ↦ among_has P qs q same h.1 later ]

-- ---- edges that cross do so at an event
some_place : (o : Option Point) (p : Point) → o ≡ Some p → Among (crossing_place o) (x_of p)
some_place None p e = absurd (never p e)
  where
    never : (r : Point) → None ≡ Some r → ⊥
    never r l = cc
some_place (Some r) p e = inl (ap (λ (t : Point). p.x *ℤ pos t.d) (value r p e) ∙ ap (λ (t : Point). t.x *ℤ pos p.d) (sym (value r p e)))
  where
    value : (s t : Point) → Some s ≡ Some t → s ≡ t
    value s t l = cc

pub Among-same : (qs : List Fraction) (h k : Fraction) → IsFraction h → Same k h → Among qs h → Among qs k
Among-same [] h k i e a = absurd a
Among-same (q ∷ qs) h k i e a = elim a [ inl here ↦ inl (Same-trans k h q i e here) | inr later ↦ inr (Among-same qs h k i e later) ]

-- a common point of two pieces that aren't parallel is at an event
pub crossing_event : (pieces : List Piece) (a b s t : Coordinates) (c : Point) → IsIn pieces (Edge a b) → IsIn pieces (Edge s t) → IsPoint c →
    IsOnBoth (edge_between a b) (edge_between s t) c → cross_of_directions (edge_between a b) (edge_between s t) ≢ pos 0 → Among (event_places pieces) (x_of c)
crossing_event pieces a b s t c first second i both n =
    let e = edge_between a b in
    let f = edge_between s t in
    let m = meeting_of_lines e f in
    let is = crossing-is e f c n i both in
    let meets = is-crossing e f m is in
    let one = shared_once e f c m n both meets.both in
    let place = Among-same (crossing_place (crossing e f)) (x_of m) (x_of c) (place-IsFraction m meets.point) (eq_from_test _ _ (and_parts _ _ one).0) (some_place (crossing e f) m is) in
    is-event pieces (x_of c)
    (inr (Some_in-map (λ p. p ≡ Edge a b) (λ p. Some_in (λ r. Among (crossings_of p r) (x_of c)) pieces) pieces
    (λ p l. Some_in-map (λ r. r ≡ Edge s t) (λ r. Among (crossings_of p r) (x_of c)) pieces
    (λ r k. subst (λ (v : Piece). Among (crossings_of v r) (x_of c)) (sym l) (subst (λ (v : Piece). Among (crossings_of (Edge a b) v) (x_of c)) (sym k) place))
    second)
    first))

-- ---- the order of heights
same_or : (a b : Ordering) → (a ≡ b) ⊎ (a ≢ b)
same_or Less Less = inl refl
same_or Less Equal = inr (λ e. cc)
same_or Less Greater = inr (λ e. cc)
same_or Equal Less = inr (λ e. cc)
same_or Equal Equal = inl refl
same_or Equal Greater = inr (λ e. cc)
same_or Greater Less = inr (λ e. cc)
same_or Greater Equal = inr (λ e. cc)
same_or Greater Greater = inl refl

-- an edge of the pieces that has heights at both places
pub record Crosses (pieces : List Piece) (x z : Fraction) (e : Line) : Type 0 where
  pub piece : IsIn pieces (Edge e.a e.b)
  pub slants : is_vertical e ≡ false
  pub at_first : reaches e x ≡ true
  pub at_second : reaches e z ≡ true

heights : (pieces : List Piece) (x z : Fraction) (e f : Line) → IsStrip pieces x z → Crosses pieces x z e → Crosses pieces x z f → HaveHeights e f x z
heights pieces x z e f s h k =
    record {
      first_place = s.first;
      second_place = s.second;
      first_slants = h.slants;
      second_slants = k.slants;
      first_at_first = h.at_first;
      first_at_second = h.at_second;
      second_at_first = k.at_first;
      second_at_second = k.at_second;
    }

-- however the number is written
aside-same : (x z q r : Fraction) → IsFraction x → IsFraction z → IsFraction q → IsFraction r → Same q r → Aside x z r → Aside x z q
aside-same x z q r i j k l e (inl h) = inl (rising_order.same_first q r x k l i e h.0, rising_order.same_first q r z k l j e h.1)
aside-same x z q r i j k l e (inr h) = inr (rising_order.same_second x r q i l k h.0 (sym e), rising_order.same_second z r q j l k h.1 (sym e))

-- an event is aside
pub event_aside : (pieces : List Piece) (x z q : Fraction) → IsStrip pieces x z → IsFraction q → Among (event_places pieces) q → Aside x z q
event_aside pieces x z q s j a =
    (among_has (λ r. IsFraction r × Aside x z r) (event_places pieces) q (λ r h e. (j, aside-same x z q r s.first s.second j h.0 e h.1))
    (each-both IsFraction (Aside x z) (λ r. IsFraction r × Aside x z r) (event_places pieces) (λ r h k. (h, k)) (event_places-numbers pieces) s.aside) a).1

-- no event is from x to z
no_event_between : (pieces : List Piece) (x z q : Fraction) → IsStrip pieces x z → IsFraction q → fraction_le x q ≡ true → fraction_le q z ≡ true → Among (event_places pieces) q → ⊥
no_event_between pieces x z q s j low high a = clash (event_aside pieces x z q s j a)
  where
    clash : Aside x z q → ⊥
    clash (inl h) = not_le-lt x q low h.0
    clash (inr h) = not_le-lt q z high h.1

not_parallel : (e f : Line) → (cross_of_directions e f ≡ pos 0) ⊎ (cross_of_directions e f ≢ pos 0)
not_parallel e f =
    elim (cases_Bool (int_eq (cross_of_directions e f) (pos 0))) [
      | inl t ↦ inl (eq_from_test _ _ t)
      | inr n ↦ inr (λ z. both_ways _ n (test_from_eq _ _ z))
    ]

-- level where they share a point, and so everywhere if they are parallel
both_level : (e f : Line) (x z : Fraction) (c : Point) → is_vertical e ≡ false → is_vertical f ≡ false → IsFraction x → IsFraction z → IsPoint c → IsOnBoth e f c →
    cross_of_directions e f ≡ pos 0 → height_cmp e f x ≡ height_cmp e f z
both_level e f x z c s t i j k both p =
    let here = level_at-point e f c (x_of c) s t k (place-IsFraction c k) refl both in
    level-parallel e f (x_of c) x s t (place-IsFraction c k) i p here ∙ sym (level-parallel e f (x_of c) z s t (place-IsFraction c k) j p here)

-- from left to right
order_rightward : (pieces : List Piece) (x z : Fraction) (e f : Line) → IsStrip pieces x z → Crosses pieces x z e → Crosses pieces x z f → fraction_lt x z ≡ true →
    height_cmp e f x ≡ height_cmp e f z
order_rightward pieces x z e f s h k l =
    elim (same_or (height_cmp e f x) (height_cmp e f z)) [
      | inl same ↦ same
      | inr other ↦
          let shared = other_order_meets e f x z (heights pieces x z e f s h k) (le_of_lt x z l) other in
          elim (not_parallel e f) [
            | inl p ↦ both_level e f x z shared.point h.slants k.slants s.first s.second shared.is_point shared.on_both p
            | inr n ↦
                absurd (no_event_between pieces x z (x_of shared.point) s (place-IsFraction shared.point shared.is_point) shared.from_first shared.to_second
                (crossing_event pieces e.a e.b f.a f.b shared.point h.piece k.piece shared.is_point shared.on_both n))
          ]
    ]

-- at two places with no event at or between them heights compare alike
pub order_same : (pieces : List Piece) (x z : Fraction) (e f : Line) → IsStrip pieces x z → Crosses pieces x z e → Crosses pieces x z f → height_cmp e f x ≡ height_cmp e f z
order_same pieces x z e f s h k =
    elim (cases_Bool (fraction_lt x z)) [
      | inl right ↦ order_rightward pieces x z e f s h k right
      | inr no_right ↦ elim (cases_Bool (fraction_lt z x)) [
        | inl left ↦ sym (order_rightward pieces z x e f (strip-swap pieces x z s) (back e h) (back f k) left)
        | inr no_left ↦
            let one : Same x z = same_number x z (no_right, no_left) in
            cmp_same (height_at e x) (height_at f x) (height_at e z) (height_at f z)
            (height-IsFraction e x (record { slants = h.slants; reached = h.at_first }) s.first)
            (height-IsFraction f x (record { slants = k.slants; reached = k.at_first }) s.first)
            (height-IsFraction e z (record { slants = h.slants; reached = h.at_second }) s.second)
            (height-IsFraction f z (record { slants = k.slants; reached = k.at_second }) s.second)
            (height_at-same e x z one) (height_at-same f x z one)
      ]
    ]
  where
    back : (g : Line) → Crosses pieces x z g → Crosses pieces z x g
    back g c = record { piece = c.piece; slants = c.slants; at_first = c.at_second; at_second = c.at_first }
