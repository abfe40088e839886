-- Edges in order right of a column, up to a place before which none ends and no neighbours meet: the order holds all the way.
use Rattle.std.proofs.Common.{◌≡◌, ◌≢◌, refl, ap, sym, ◌∙◌, subst, ℤ, pos, ◌*ℤ◌, ◌≤ℤ◌, ◌<ℤ◌, arith, Bool, true, false, List, [], ◌∷◌, ◌⊎◌, inl, inr}
use Rattle.std.specs.List.{AllByRecursion}
use Rattle.std.specs.Prelude.{int_lt, Some, None}
use Rattle.std.specs.Ordering.{int_eq}
use Rattle.std.specs.declared.cmp.Ordering.{Ordering}
use Rattle.std.specs.declared.cmp.Ordering.TheVariants.{Equal, Greater, Less}
use Rattle.std.proofs.lemmas.Bool.{and_parts, both_ways}
use Rattle.std.proofs.lemmas.Int.{ints}
use Rattle.sf_grid.specs.Fraction.{Fraction, IsFraction, fraction_eq, fraction_le, fraction_lt, whole}
use Rattle.sf_grid.specs.Plane.{Coordinates, IsSamePoint, Point, point_at, x_of}
use Rattle.sf_grid.specs.Edge.{Edge as Line, height_at, height_cmp, is_vertical, left_end, reaches, right_end}
use Rattle.sf_grid.specs.Laws.{HasHeight, ShareNoneInside}
use Rattle.sf_grid.proofs.CallerLemmas.{eq_from_test, height-IsFraction, heights_are_ordered, is_equal, le-trans, le_from_test, le_lt, lt_from_test, lt_le, test_from_eq, test_from_le, test_from_lt}
use Rattle.sf_strips.specs.declared.active.Active.{Active}
use Rattle.sf_strips.specs.declared.contact.Contact.{Contact}
use Rattle.sf_strips.specs.declared.contact.Contact.TheVariants.{Ahead, Never, Throughout}
use Rattle.sf_strips.specs.Fronts.{AreContacts, AreContactsFrom, Descend, DescendFrom, Descends, IsContact, line_of, touches}
use Rattle.sf_strips.specs.Slanted.{IsMeetingAfter, IsOneLine, ShareNoneAfter, slope_order}
use Rattle.sf_slabs.proofs.CrossLaws.{both_at-level, level-one_line, level-same, level_at-point, meeting-on_both, not_same_place, place-IsFraction}
use Rattle.sf_slabs.proofs.FallsLaws.{left_end-edge_of, right_end-edge_of}
use Rattle.sf_slabs.proofs.NumberLaws.{Same-trans, rising_order}
use Rattle.sf_slabs.proofs.OnLaws.{IsPoint-point_at, x_of-point_at}
use Rattle.sf_slabs.proofs.Shapes.{StepsAt, StepsAtFrom, step_by}
use Rattle.sf_slabs.proofs.SlabLaws.{Below, IsSlab, Spans, StaysBelow, StaysLevel, height_inside, reached_from, stays_below}
use Rattle.sf_slabs.proofs.SlopeLaws.{slope_cmp, slope_cmp-order, stays_below-slope, stays_level-slope}

-- ---- places in order
pub lt_le-places : (a b c : Fraction) → IsFraction a → IsFraction b → IsFraction c → fraction_lt a b ≡ true → fraction_le b c ≡ true → fraction_lt a c ≡ true
lt_le-places a b c i j k h l = test_from_lt _ _ (lt_le a b c i j k (lt_from_test _ _ h) (le_from_test _ _ l))

pub le_lt-places : (a b c : Fraction) → IsFraction a → IsFraction b → IsFraction c → fraction_le a b ≡ true → fraction_lt b c ≡ true → fraction_lt a c ≡ true
le_lt-places a b c i j k h l = test_from_lt _ _ (le_lt a b c i j k (le_from_test _ _ h) (lt_from_test _ _ l))

pub le_le-places : (a b c : Fraction) → IsFraction b → fraction_le a b ≡ true → fraction_le b c ≡ true → fraction_le a c ≡ true
le_le-places a b c j h l = test_from_le _ _ (le-trans a b c j (le_from_test _ _ h) (le_from_test _ _ l))

-- the first isn't at most the second where it is above it
pub not_le-lt : (a b : Fraction) → fraction_le a b ≡ true → fraction_lt b a ≡ true → ⊥
not_le-lt a b h l = never (a.num *ℤ pos b.den) (b.num *ℤ pos a.den) (le_from_test _ _ h) (lt_from_test _ _ l)
  where
    never : (m n : ℤ) → m ≤ℤ n → n <ℤ m → ⊥
    never m n h l = absurd (omega (arith, ints))

-- ---- edges that span a slab
pub slants-line_of : (a : Active) → is_vertical (line_of a) ≡ false
slants-line_of a = apart a.edge.left.x a.edge.right.x a.edge.rightward
  where
    apart : (m n : ℤ) → int_lt m n ≡ true → int_eq m n ≡ false
    apart m n h = grind (arith, ints)

-- the edge goes on to the right of the column x, as far as the column y
pub record Runs (x y : Fraction) (a : Active) : Type 0 where
  pub begun : fraction_le (whole a.edge.left.x) x ≡ true
  pub lasts : fraction_le y (whole a.edge.right.x) ≡ true

at_most_whole : (m n : ℤ) → m ≤ℤ (n *ℤ pos 1) → m ≤ℤ n
at_most_whole m n h = omega (arith, ints)

whole_at_most : (m n : ℤ) → (m *ℤ pos 1) ≤ℤ n → m ≤ℤ n
whole_at_most m n h = omega (arith, ints)

-- it reaches every place between
reach_of : (x y z : Fraction) (a : Active) → IsFraction x → IsFraction y → Runs x y a → fraction_le x z ≡ true → fraction_le z y ≡ true →
    reaches (line_of a) z ≡ true
reach_of x y z a i j r h l =
    let low = le-trans (whole a.edge.left.x) x z i (le_from_test _ _ r.begun) (le_from_test _ _ h) in
    let high = le-trans z y (whole a.edge.right.x) j (le_from_test _ _ l) (le_from_test _ _ r.lasts) in
    let Low : Coordinates → Type 0 = λ u. (u.x *ℤ pos z.den) ≤ℤ z.num in
    let High : Coordinates → Type 0 = λ v. z.num ≤ℤ (v.x *ℤ pos z.den) in
    reached_from (line_of a) z
    (record {
      low = subst Low (sym (left_end-edge_of a.edge)) (at_most_whole (a.edge.left.x *ℤ pos z.den) z.num low);
      high = subst High (sym (right_end-edge_of a.edge)) (whole_at_most z.num (a.edge.right.x *ℤ pos z.den) high);
    })

pub le_self : (x : Fraction) → fraction_le x x ≡ true
le_self x = test_from_le (x.num *ℤ pos x.den) (x.num *ℤ pos x.den) (self (x.num *ℤ pos x.den))
  where
    self : (m : ℤ) → m ≤ℤ m
    self m = omega (arith, ints)

pub le_of_lt : (x y : Fraction) → fraction_lt x y ≡ true → fraction_le x y ≡ true
le_of_lt x y h = test_from_le (x.num *ℤ pos y.den) (y.num *ℤ pos x.den) (weaker (x.num *ℤ pos y.den) (y.num *ℤ pos x.den) (lt_from_test _ _ h))
  where
    weaker : (m n : ℤ) → m <ℤ n → m ≤ℤ n
    weaker m n l = omega (arith, ints)

pub spans-line_of : (x y : Fraction) (a : Active) → IsSlab x y → Runs x y a → Spans x y (line_of a)
spans-line_of x y a s r =
    record {
      slants = slants-line_of a;
      at_left = reach_of x y x a s.left s.right r (le_self x) (le_of_lt x y s.apart);
      at_right = reach_of x y y a s.left s.right r (le_of_lt x y s.apart) (le_self y);
    }

-- ---- two neighbours
-- the contact isn't before the place y
abbrev pub Waits : Fraction → Contact → Type 0
Waits y Never = Unit {0}
Waits y (Ahead p) = fraction_le y (x_of p) ≡ true
Waits y Throughout = Unit {0}

-- up to y the next edge stays below or level, and in a column it is level just where the two touch
pub record Follows (x y : Fraction) (a b : Active) (c : Contact) : Type 0 where
  pub ordered : StaysBelow x y (line_of a) (line_of b) ⊎ StaysLevel x y (line_of a) (line_of b)
  pub inside : (z : Fraction) → IsFraction z → fraction_lt x z ≡ true → fraction_lt z y ≡ true → height_cmp (line_of b) (line_of a) z ≡ step_by (touches None c)
  pub at_right : height_cmp (line_of b) (line_of a) y ≡ step_by (touches (Some y) c)

pub level-flip : (e f : Line) (z : Fraction) → height_cmp e f z ≡ Equal → height_cmp f e z ≡ Equal
level-flip e f z h = is_equal ((height_at f z).num *ℤ pos (height_at e z).den) ((height_at e z).num *ℤ pos (height_at f z).den) (sym (level-same e f z h))

less_from : (o : Ordering) → o ≢ Greater → o ≢ Equal → o ≡ Less
less_from Less g e = refl
less_from Equal g e = absurd (e refl)
less_from Greater g e = absurd (g refl)

slope_cmp-line_of : (a b : Active) → slope_cmp (line_of b) (line_of a) ≡ slope_order b.edge.left b.edge.right a.edge.left a.edge.right
slope_cmp-line_of a b =
    slope_cmp-order (line_of b) (line_of a)
    ∙ ap (λ u. slope_order u (right_end (line_of b)) (left_end (line_of a)) (right_end (line_of a))) (left_end-edge_of b.edge)
    ∙ ap (λ u. slope_order b.edge.left u (left_end (line_of a)) (right_end (line_of a))) (right_end-edge_of b.edge)
    ∙ ap (λ u. slope_order b.edge.left b.edge.right u (right_end (line_of a))) (left_end-edge_of a.edge)
    ∙ ap (λ u. slope_order b.edge.left b.edge.right a.edge.left u) (right_end-edge_of a.edge)

height_left : (x y : Fraction) (e : Line) → Spans x y e → HasHeight e x
height_left x y e s = record { slants = s.slants; reached = s.at_left }

height_right : (x y : Fraction) (e : Line) → Spans x y e → HasHeight e y
height_right x y e s = record { slants = s.slants; reached = s.at_right }

-- neighbours that share no point further right
follows-never : (x y : Fraction) (a b : Active) → IsSlab x y → Runs x y a → Runs x y b → Descends x a b → ShareNoneAfter (line_of a) (line_of b) x →
    Follows x y a b Never
follows-never x y a b s q r d none = record { ordered = inl below; inside = below.inside; at_right = less_from _ below.at_right apart }
  where
    first : Spans x y (line_of a)
    first = spans-line_of x y a s q

    second : Spans x y (line_of b)
    second = spans-line_of x y b s r

    apart : height_cmp (line_of b) (line_of a) y ≢ Equal
    apart l =
        let here = height_right x y (line_of b) second in
        let number = height-IsFraction (line_of b) y here s.right in
        let both = both_at-level (line_of b) (line_of a) y here (height_right x y (line_of a) first) s.right l in
        let point = point_at y (height_at (line_of b) y) in
        let is_point = IsPoint-point_at y (height_at (line_of b) y) s.right number in
        none point is_point (both.1, both.0)
        (rising_order.same_second x y (x_of point) s.left s.right (place-IsFraction point is_point) s.apart (sym (x_of-point_at y (height_at (line_of b) y))))

    none_inside : ShareNoneInside (line_of b) (line_of a) x y
    none_inside p = none p.point p.is_point (p.on_both.1, p.on_both.0) p.past_first

    by_slope : (o : Ordering) → slope_cmp (line_of b) (line_of a) ≡ o → height_cmp (line_of b) (line_of a) x ≡ Equal → o ≢ Greater → StaysBelow x y (line_of a) (line_of b)
    by_slope Less e l n = stays_below-slope x y (line_of a) (line_of b) s first second l e
    by_slope Equal e l n = absurd (apart (stays_level-slope x y (line_of a) (line_of b) s first second l e).at_right)
    by_slope Greater e l n = absurd (n refl)

    below : StaysBelow x y (line_of a) (line_of b)
    below =
        elim d [
          | inl l ↦ stays_below x y (line_of a) (line_of b) s first second none_inside l
          | inr l ↦
              by_slope (slope_order b.edge.left b.edge.right a.edge.left a.edge.right) (slope_cmp-line_of a b) l.0 l.1
        ]

-- neighbours that meet at y or further right
follows-ahead : (x y : Fraction) (a b : Active) (p : Point) → IsSlab x y → Runs x y a → Runs x y b → Descends x a b → IsMeetingAfter (line_of a) (line_of b) x p →
    fraction_le y (x_of p) ≡ true → Follows x y a b (Ahead p)
follows-ahead x y a b p s q r d m w = record { ordered = inl below; inside = below.inside; at_right = by_test (fraction_eq (x_of p) y) refl }
  where
    first : Spans x y (line_of a)
    first = spans-line_of x y a s q

    second : Spans x y (line_of b)
    second = spans-line_of x y b s r

    place : IsFraction (x_of p)
    place = place-IsFraction p m.only.0

    none_inside : ShareNoneInside (line_of b) (line_of a) x y
    none_inside o =
        let here = place-IsFraction o.point o.is_point in
        rising_order.apart (x_of o.point) (x_of p)
        (eq_from_test _ _ (and_parts _ _ ((m.only.1 o.point o.is_point).0 (o.on_both.1, o.on_both.0))).0)
        (lt_le-places (x_of o.point) y (x_of p) here s.right place o.before_second w)

    -- a common point in the column z is p
    same_at : (z : Fraction) → IsFraction z → HasHeight (line_of b) z → HasHeight (line_of a) z → height_cmp (line_of b) (line_of a) z ≡ Equal →
        IsSamePoint (point_at z (height_at (line_of b) z)) p
    same_at z i h k l =
        let both = both_at-level (line_of b) (line_of a) z h k i l in
        (m.only.1 (point_at z (height_at (line_of b) z)) (IsPoint-point_at z (height_at (line_of b) z) i (height-IsFraction (line_of b) z h i))).0 (both.1, both.0)

    below : StaysBelow x y (line_of a) (line_of b)
    below =
        elim d [
          | inl l ↦ stays_below x y (line_of a) (line_of b) s first second none_inside l
          | inr l ↦
              let here = height_left x y (line_of b) second in
              absurd (not_same_place x (height_at (line_of b) x) p s.left (height-IsFraction (line_of b) x here s.left) m.after
              (same_at x s.left here (height_left x y (line_of a) first) l.0))
        ]

    apart : fraction_eq (x_of p) y ≡ false → height_cmp (line_of b) (line_of a) y ≢ Equal
    apart n l =
        let here = height_right x y (line_of b) second in
        let number = height-IsFraction (line_of b) y here s.right in
        let same = same_at y s.right here (height_right x y (line_of a) first) l in
        let point = point_at y (height_at (line_of b) y) in
        both_ways _ n
        (test_from_eq ((x_of p).num *ℤ pos y.den) (y.num *ℤ pos (x_of p).den)
        (sym (Same-trans y (x_of point) (x_of p) (place-IsFraction point (IsPoint-point_at y (height_at (line_of b) y) s.right number))
        (sym (x_of-point_at y (height_at (line_of b) y)))
        (eq_from_test _ _ (and_parts _ _ same).0))))

    by_test : (t : Bool) → fraction_eq (x_of p) y ≡ t → height_cmp (line_of b) (line_of a) y ≡ step_by t
    by_test true e =
        let both = meeting-on_both (line_of a) (line_of b) x p m in
        level_at-point (line_of b) (line_of a) p y second.slants first.slants m.only.0 s.right
        (eq_from_test ((x_of p).num *ℤ pos y.den) (y.num *ℤ pos (x_of p).den) e) (both.1, both.0)
    by_test false e = less_from _ below.at_right (apart e)

-- neighbours on one line
follows-throughout : (x y : Fraction) (a b : Active) → IsSlab x y → IsOneLine (line_of a) (line_of b) → Follows x y a b Throughout
follows-throughout x y a b s o =
    record {
      ordered = inr (record { at_left = level x s.left; inside = λ z i k l. level z i; at_right = level y s.right });
      inside = λ z i k l. level z i;
      at_right = level y s.right;
    }
  where
    level : (z : Fraction) → IsFraction z → height_cmp (line_of b) (line_of a) z ≡ Equal
    level z i = level-flip (line_of a) (line_of b) z (level-one_line (line_of a) (line_of b) z (slants-line_of a) (slants-line_of b) i o)

follows : (x y : Fraction) (a b : Active) (c : Contact) → IsSlab x y → Runs x y a → Runs x y b → Descends x a b → IsContact (line_of a) (line_of b) x c → Waits y c →
    Follows x y a b c
follows x y a b Never s q r d k w = follows-never x y a b s q r d k
follows x y a b (Ahead p) s q r d k w = follows-ahead x y a b p s q r d k w
follows x y a b Throughout s q r d k w = follows-throughout x y a b s k

-- ---- the whole front
-- each edge and the next one, beginning with a
abbrev pub FollowFrom : Fraction → Fraction → Active → List Active → List Contact → Type 0
FollowFrom x y a [] cs = cs ≡ []
FollowFrom x y a (b ∷ bs) [] = ⊥
FollowFrom x y a (b ∷ bs) (c ∷ cs) = Follows x y a b c × FollowFrom x y b bs cs

abbrev pub FollowAll : Fraction → Fraction → List Active → List Contact → Type 0
FollowAll x y [] cs = cs ≡ []
FollowAll x y (a ∷ os) cs = FollowFrom x y a os cs

follow_from : (x y : Fraction) (a : Active) (os : List Active) (cs : List Contact) → IsSlab x y → Runs x y a → AllByRecursion (Runs x y) os → DescendFrom x a os →
    AreContactsFrom x a os cs → AllByRecursion (Waits y) cs → FollowFrom x y a os cs
follow_from x y a [] cs s r e d k w = k
follow_from x y a (b ∷ bs) [] s r e d k w = k
follow_from x y a (b ∷ bs) (c ∷ cs) s r e d k w = (follows x y a b c s r e.0 d.0 k.0 w.0, follow_from x y b bs cs s e.0 e.1 d.1 k.1 w.1)

pub follow_all : (x y : Fraction) (os : List Active) (cs : List Contact) → IsSlab x y → AllByRecursion (Runs x y) os → Descend x os → AreContacts x os cs →
    AllByRecursion (Waits y) cs → FollowAll x y os cs
follow_all x y [] cs s e d k w = k
follow_all x y (a ∷ os) cs s e d k w = follow_from x y a os cs s e.0 e.1 d k w

-- the steps from each edge to the next in a column inside, and in the column y
steps_inside-from : (x y z : Fraction) (a : Active) (os : List Active) (cs : List Contact) → IsFraction z → fraction_lt x z ≡ true → fraction_lt z y ≡ true →
    FollowFrom x y a os cs → StepsAtFrom z None a os cs
steps_inside-from x y z a [] cs i h l f = f
steps_inside-from x y z a (b ∷ bs) [] i h l f = f
steps_inside-from x y z a (b ∷ bs) (c ∷ cs) i h l f = (f.0.inside z i h l, steps_inside-from x y z b bs cs i h l f.1)

pub steps_inside : (x y z : Fraction) (os : List Active) (cs : List Contact) → IsFraction z → fraction_lt x z ≡ true → fraction_lt z y ≡ true →
    FollowAll x y os cs → StepsAt z None os cs
steps_inside x y z [] cs i h l f = f
steps_inside x y z (a ∷ os) cs i h l f = steps_inside-from x y z a os cs i h l f

steps_at_right-from : (x y : Fraction) (a : Active) (os : List Active) (cs : List Contact) → FollowFrom x y a os cs → StepsAtFrom y (Some y) a os cs
steps_at_right-from x y a [] cs f = f
steps_at_right-from x y a (b ∷ bs) [] f = f
steps_at_right-from x y a (b ∷ bs) (c ∷ cs) f = (f.0.at_right, steps_at_right-from x y b bs cs f.1)

pub steps_at_right : (x y : Fraction) (os : List Active) (cs : List Contact) → FollowAll x y os cs → StepsAt y (Some y) os cs
steps_at_right x y [] cs f = f
steps_at_right x y (a ∷ os) cs f = steps_at_right-from x y a os cs f

-- ---- edges that aren't neighbours
-- up to y, b stays below a, or level with it
abbrev pub Ordered : Fraction → Fraction → Active → Active → Type 0
Ordered x y a b = StaysBelow x y (line_of a) (line_of b) ⊎ StaysLevel x y (line_of a) (line_of b)

below-trans : (z : Fraction) (e f g : Line) → IsFraction z → HasHeight f z → Below e f z → Below f g z → Below e g z
below-trans z e f g i k h l = (heights_are_ordered z i).transitive g f e k l h

below-less : (z : Fraction) (e f g : Line) → IsFraction z → HasHeight e z → HasHeight f z → HasHeight g z → Below e f z → height_cmp g f z ≡ Less → height_cmp g e z ≡ Less
below-less z e f g i he hf hg h k = (heights_are_ordered z i).strict_first g f e hg hf he k h

less-below : (z : Fraction) (e f g : Line) → IsFraction z → HasHeight e z → HasHeight f z → HasHeight g z → height_cmp f e z ≡ Less → Below f g z → height_cmp g e z ≡ Less
less-below z e f g i he hf hg h k = (heights_are_ordered z i).strict_second g f e hg hf he k h

level-trans : (z : Fraction) (e f g : Line) → IsFraction z → HasHeight f z → height_cmp f e z ≡ Equal → height_cmp g f z ≡ Equal → height_cmp g e z ≡ Equal
level-trans z e f g i k h l =
    is_equal ((height_at g z).num *ℤ pos (height_at e z).den) ((height_at e z).num *ℤ pos (height_at g z).den)
    (Same-trans (height_at g z) (height_at f z) (height_at e z) (height-IsFraction f z k i) (level-same g f z l) (level-same f e z h))

equal_not_greater : Equal ≢ Greater
equal_not_greater e = cc

less_not_greater : Less ≢ Greater
less_not_greater e = cc

weak_from-equal : (o : Ordering) → o ≡ Equal → o ≢ Greater
weak_from-equal o h g = equal_not_greater (sym h ∙ g)

weak_from-less : (o : Ordering) → o ≡ Less → o ≢ Greater
weak_from-less o h g = less_not_greater (sym h ∙ g)

-- from neighbours to edges further down
ordered-trans : (x y : Fraction) (a b c : Active) → IsSlab x y → Spans x y (line_of a) → Spans x y (line_of b) → Spans x y (line_of c) →
    Ordered x y a b → Ordered x y b c → Ordered x y a c
ordered-trans x y a b c s h k l p q =
    elim p [
      | inl first ↦ elim q [
        | inl second ↦
            inl (record {
              at_left = below-trans x e f g s.left (height_left x y f k) first.at_left second.at_left;
              inside = λ z i m n. less-below z e f g i (inner e h z i m n) (inner f k z i m n) (inner g l z i m n) (first.inside z i m n) (weak_from-less _ (second.inside z i m n));
              at_right = below-trans y e f g s.right (height_right x y f k) first.at_right second.at_right;
            })
        | inr second ↦
            inl (record {
              at_left = below-trans x e f g s.left (height_left x y f k) first.at_left (weak_from-equal _ second.at_left);
              inside = λ z i m n. less-below z e f g i (inner e h z i m n) (inner f k z i m n) (inner g l z i m n) (first.inside z i m n) (weak_from-equal _ (second.inside z i m n));
              at_right = below-trans y e f g s.right (height_right x y f k) first.at_right (weak_from-equal _ second.at_right);
            })
      ]
      | inr first ↦ elim q [
        | inl second ↦
            inl (record {
              at_left = below-trans x e f g s.left (height_left x y f k) (weak_from-equal _ first.at_left) second.at_left;
              inside = λ z i m n. below-less z e f g i (inner e h z i m n) (inner f k z i m n) (inner g l z i m n) (weak_from-equal _ (first.inside z i m n)) (second.inside z i m n);
              at_right = below-trans y e f g s.right (height_right x y f k) (weak_from-equal _ first.at_right) second.at_right;
            })
        | inr second ↦
            inr (record {
              at_left = level-trans x e f g s.left (height_left x y f k) first.at_left second.at_left;
              inside = λ z i m n. level-trans z e f g i (inner f k z i m n) (first.inside z i m n) (second.inside z i m n);
              at_right = level-trans y e f g s.right (height_right x y f k) first.at_right second.at_right;
            })
      ]
    ]
  where
    e : Line
    e = line_of a

    f : Line
    f = line_of b

    g : Line
    g = line_of c

    inner : (d : Line) → Spans x y d → (z : Fraction) → IsFraction z → fraction_lt x z ≡ true → fraction_lt z y ≡ true → HasHeight d z
    inner d m z i n o = height_inside x y d s m z i n o

-- each edge with every later one
abbrev pub EachPair : (Active → Active → Type 0) → List Active → Type 0
EachPair R [] = Unit {0}
EachPair R (a ∷ os) = AllByRecursion (R a) os × EachPair R os

ordered_below : (x y : Fraction) (a : Active) (os : List Active) (cs : List Contact) → IsSlab x y → Runs x y a → AllByRecursion (Runs x y) os → FollowFrom x y a os cs →
    AllByRecursion (Ordered x y a) os
ordered_below x y a [] cs s r e f = tt
ordered_below x y a (b ∷ bs) [] s r e f = absurd f
ordered_below x y a (b ∷ bs) (c ∷ cs) s r e f = (f.0.ordered, carried bs e.1 (ordered_below x y b bs cs s e.0 e.1 f.1))
  where
    carried : (ds : List Active) → AllByRecursion (Runs x y) ds → AllByRecursion (Ordered x y b) ds → AllByRecursion (Ordered x y a) ds
    carried [] q o = tt
    carried (d ∷ ds) q o =
        (ordered-trans x y a b d s (spans-line_of x y a s r) (spans-line_of x y b s e.0) (spans-line_of x y d s q.0) f.0.ordered o.0, carried ds q.1 o.1)

ordered_pairs-from : (x y : Fraction) (a : Active) (os : List Active) (cs : List Contact) → IsSlab x y → Runs x y a → AllByRecursion (Runs x y) os → FollowFrom x y a os cs →
    EachPair (Ordered x y) (a ∷ os)
ordered_pairs-from x y a [] cs s r e f = (tt, tt)
ordered_pairs-from x y a (b ∷ bs) [] s r e f = absurd f
ordered_pairs-from x y a (b ∷ bs) (c ∷ cs) s r e f = (ordered_below x y a (b ∷ bs) (c ∷ cs) s r e f, ordered_pairs-from x y b bs cs s e.0 e.1 f.1)

-- up to y, every edge stays below each one before it, or level with it
pub ordered_pairs : (x y : Fraction) (os : List Active) (cs : List Contact) → IsSlab x y → AllByRecursion (Runs x y) os → FollowAll x y os cs → EachPair (Ordered x y) os
ordered_pairs x y [] cs s e f = tt
ordered_pairs x y (a ∷ os) cs s e f = ordered_pairs-from x y a os cs s e.0 e.1 f
