-- Edges by the side of a point in its column: those of one height are on one side, and a window at a point has all that reaches it.
use Rattle.std.proofs.Common.{◌≡◌, refl, ap, sym, ◌∙◌, arith, ℤ, pos, ◌-ℤ◌, ◌*ℤ◌, ◌<ℤ◌, Bool, true, false, List, [], ◌∷◌, Option}
use Rattle.std.specs.List.{AllByRecursion}
use Rattle.std.specs.Ordering.{int_cmp, is_le, is_lt}
use Rattle.std.specs.declared.cmp.Ordering.{Ordering}
use Rattle.std.specs.declared.cmp.Ordering.TheVariants.{Equal, Greater, Less}
use Rattle.std.proofs.lemmas.Bool.{false≢true}
use Rattle.std.proofs.lemmas.Int.{ints}
use Rattle.sf_grid.specs.Fraction.{Fraction, IsFraction, fraction_cmp, fraction_lt}
use Rattle.sf_grid.specs.Plane.{Coordinates, IsPoint, Point, grid_point, x_of, y_of}
use Rattle.sf_grid.specs.Edge.{height_cmp}
use Rattle.sf_grid.proofs.CallerLemmas.{Same, ge_from_test, lt_from_test, lt_le, test_from_lt}
use Rattle.sf_strips.specs.declared.active.Active.{Active}
use Rattle.sf_strips.specs.declared.vertex.Vertex.{Vertex}
use Rattle.sf_strips.specs.declared.contact.Contact.{Contact}
use Rattle.sf_strips.specs.Fronts.{line_of, touches}
use Rattle.sf_slabs.specs.Sweeps.{StepsAt, StepsAtFrom, step_by}
use Rattle.std.specs.List.Sorted.{IsPartitionedBy}
use Rattle.sf_sweep.proofs.NearLaws.{IsPassedBack, back-parted}
use Rattle.sf_strips.specs.Parts.{is_over}
use Rattle.sf_strips.specs.Slanted.{side_of}
use Rattle.sf_strips.proofs.CallerLemmas.{cmp-difference}
use Rattle.sf_strips.proofs.SlantedLaws.{side_of-cross}
use Rattle.sf_slabs.proofs.CrossLaws.{place-IsFraction}
use Rattle.sf_slabs.proofs.LeveledLaws.{active_height, active_height-number, height_cmp-active, height_in-same, lt_from_greater, lt_from_less, same_from_equal}
use Rattle.sf_slabs.proofs.LocateLaws.{less_from_lt}
use Rattle.sf_slabs.proofs.NumberLaws.{Same-trans, rising_order}
use Rattle.sf_sweep.proofs.CalmLaws.{IsOfHeight, StopsBefore}
use Rattle.sf_sweep.proofs.JoinLaws.{AreAbove}
use Rattle.sf_sweep.specs.Sides.{is_below_edge, is_not_above}

-- ---- orders of numbers
pub is_equal : (a b : ℤ) → a ≡ b → int_cmp a b ≡ Equal
is_equal a b e = grind (arith, ints)

is_greater : (a b : ℤ) → b <ℤ a → int_cmp a b ≡ Greater
is_greater a b e = grind (arith, ints)

greater_from_lt : (q r : Fraction) → fraction_lt r q ≡ true → fraction_cmp q r ≡ Greater
greater_from_lt q r h = is_greater (q.num *ℤ pos r.den) (r.num *ℤ pos q.den) (lt_from_test _ _ h)

-- against a number, however that is written
cmp-second : (p q r : Fraction) → IsFraction p → IsFraction q → IsFraction r → Same q r → fraction_cmp p q ≡ fraction_cmp p r
cmp-second p q r i j k e = by_order (fraction_cmp p q) refl
  where
    by_order : (t : Ordering) → fraction_cmp p q ≡ t → t ≡ fraction_cmp p r
    by_order Less f = sym (less_from_lt p r (rising_order.same_second p q r i j k (lt_from_less p q f) e))
    by_order Equal f = sym (is_equal (p.num *ℤ pos r.den) (r.num *ℤ pos p.den) (Same-trans p q r j (same_from_equal p q f) e))
    by_order Greater f = sym (greater_from_lt p r (rising_order.same_first r q p k j i (sym e) (lt_from_greater p q f)))

-- ---- the side of a point by two products, which are compared
pub side-of_products : (u v : Coordinates) (p : Point) → IsPoint p → u.x <ℤ v.x →
    int_cmp ((v.x -ℤ u.x) *ℤ (p.y -ℤ u.y *ℤ pos p.d)) ((v.y -ℤ u.y) *ℤ (p.x -ℤ u.x *ℤ pos p.d)) ≡ side_of u v p
side-of_products u v p i h =
    sym (cmp-difference ((v.x -ℤ u.x) *ℤ (p.y -ℤ u.y *ℤ pos p.d)) ((v.y -ℤ u.y) *ℤ (p.x -ℤ u.x *ℤ pos p.d))) ∙ sym (side_of-cross u v p i h)

-- ---- edges of one height in a point's column are on one side of it
one-side : (p : Point) (a b : Active) → IsPoint p → height_cmp (line_of b) (line_of a) (x_of p) ≡ Equal → side_of b.edge.left b.edge.right p ≡ side_of a.edge.left a.edge.right p
one-side p a b i e =
    let x = x_of p in
    let number = place-IsFraction p i in
    cmp-second (y_of p) (active_height x b) (active_height x a) (record { positive = i.positive }) (active_height-number x b number) (active_height-number x a number)
    (same_from_equal (active_height x b) (active_height x a) (sym (height_cmp-active x a b) ∙ e))

pub below-of_height : (p : Point) → IsPoint p → IsOfHeight (x_of p) (is_below_edge p)
below-of_height p i a b e h = ap is_lt (one-side p a b i e) ∙ h

pub not-above-of_height : (p : Point) → IsPoint p → IsOfHeight (x_of p) (is_not_above p)
not-above-of_height p i a b e h = ap is_le (one-side p a b i e) ∙ h

-- ---- points of one column
-- the heights of an edge there are one number
one-height : (p q : Point) (a : Active) → Same (x_of p) (x_of q) → Same (active_height (x_of p) a) (active_height (x_of q) a)
one-height p q a e = height_in-same (x_of p) (x_of q) a.edge e

-- an edge that p isn't above is above a point further down
pub lower-below : (p q : Point) (a : Active) → IsPoint p → IsPoint q → Same (x_of p) (x_of q) → fraction_lt (y_of q) (y_of p) ≡ true → is_not_above p a ≡ true → is_below_edge q a ≡ true
lower-below p q a i j e h k = by_side (fraction_cmp (y_of p) (active_height (x_of p) a)) refl k
  where
    number : IsFraction (x_of p)
    number = place-IsFraction p i

    to_less : fraction_lt (y_of q) (active_height (x_of p) a) ≡ true → is_below_edge q a ≡ true
    to_less l =
        ap is_lt (less_from_lt (y_of q) (active_height (x_of q) a)
        (rising_order.same_second (y_of q) (active_height (x_of p) a) (active_height (x_of q) a) (record { positive = j.positive }) (active_height-number (x_of p) a number)
        (active_height-number (x_of q) a (place-IsFraction q j)) l (one-height p q a e)))

    by_side : (o : Ordering) → fraction_cmp (y_of p) (active_height (x_of p) a) ≡ o → is_le o ≡ true → is_below_edge q a ≡ true
    by_side Less f t =
        to_less (rising_order.trans (y_of q) (y_of p) (active_height (x_of p) a) (record { positive = j.positive }) (record { positive = i.positive }) (active_height-number (x_of p) a number) h (lt_from_less (y_of p) (active_height (x_of p) a) f))
    by_side Equal f t =
        to_less (rising_order.same_second (y_of q) (y_of p) (active_height (x_of p) a) (record { positive = j.positive }) (record { positive = i.positive }) (active_height-number (x_of p) a number) h (same_from_equal (y_of p) (active_height (x_of p) a) f))
    by_side Greater f t = absurd (false≢true t)

-- an edge that p is above is below a point that isn't further down
greater-of : (o : Ordering) → is_le o ≡ false → o ≡ Greater
greater-of Less h = absurd (false≢true (sym h))
greater-of Equal h = absurd (false≢true (sym h))
greater-of Greater h = refl

pub upper-above : (p q : Point) (a : Active) → IsPoint p → IsPoint q → Same (x_of p) (x_of q) → fraction_lt (y_of q) (y_of p) ≡ false → is_not_above p a ≡ false →
    side_of a.edge.left a.edge.right q ≡ Greater
upper-above p q a i j e h k =
    let number = place-IsFraction p i in
    let f : fraction_cmp (y_of p) (active_height (x_of p) a) ≡ Greater = greater-of (fraction_cmp (y_of p) (active_height (x_of p) a)) k in
    let over : fraction_lt (active_height (x_of p) a) (y_of q) ≡ true =
    not_lower (active_height (x_of p) a) (y_of p) (y_of q) (active_height-number (x_of p) a number) (record { positive = i.positive }) (record { positive = j.positive }) (lt_from_greater (y_of p) (active_height (x_of p) a) f) h in
    greater_from_lt (y_of q) (active_height (x_of q) a)
    (rising_order.same_first (active_height (x_of q) a) (active_height (x_of p) a) (y_of q) (active_height-number (x_of q) a (place-IsFraction q j)) (active_height-number (x_of p) a number)
    (record { positive = j.positive }) (sym (one-height p q a e)) over)
  where
    not_lower : (q r s : Fraction) → IsFraction q → IsFraction r → IsFraction s → fraction_lt q r ≡ true → fraction_lt s r ≡ false → fraction_lt q s ≡ true
    not_lower q r s i j k h l = test_from_lt _ _ (lt_le q r s i j k (lt_from_test _ _ h) (ge_from_test _ _ l))

-- ---- what a window has: edges that its lowest point isn't above, and vertices that aren't below that point
pub all-over : (p : Point) (vs : List Vertex) (es : List Active) → IsPoint p → AllByRecursion (λ v. Same (x_of p) (x_of (grid_point v.at)) × (fraction_lt (y_of (grid_point v.at)) (y_of p) ≡ true)) vs →
    AllByRecursion (λ a. is_not_above p a ≡ true) es → AllByRecursion (λ a. is_over vs a ≡ true) es
all-over p vs [] i h k = tt
all-over p [] (a ∷ es) i h k = (refl, all-over p [] es i h k.1)
all-over p (v ∷ vs) (a ∷ es) i h k = (lower-below p (grid_point v.at) a i (record { positive = omega arith }) h.0.0 h.0.1 k.0, all-over p (v ∷ vs) es i h k.1)

pub all-above : (p : Point) (us : List Vertex) (fs : List Active) → IsPoint p → AllByRecursion (λ u. Same (x_of p) (x_of (grid_point u.at)) × (fraction_lt (y_of (grid_point u.at)) (y_of p) ≡ false)) us →
    StopsBefore (is_not_above p) fs → AreAbove fs us
all-above p us [] i h k = tt
all-above p us (f ∷ fs) i h k = each us h
  where
    each : (us : List Vertex) → AllByRecursion (λ u. Same (x_of p) (x_of (grid_point u.at)) × (fraction_lt (y_of (grid_point u.at)) (y_of p) ≡ false)) us →
        AllByRecursion (λ u. side_of f.edge.left f.edge.right (grid_point u.at) ≡ Greater) us
    each [] h = tt
    each (u ∷ us) h = (upper-above p (grid_point u.at) f i (record { positive = omega arith }) h.0.0 h.0.1 k, each us h.1)

-- ---- the edges that a point isn't above come first in its column
not-above_back : (p : Point) (a b : Active) (t : Bool) → IsPoint p → height_cmp (line_of b) (line_of a) (x_of p) ≡ step_by t → is_not_above p b ≡ true → is_not_above p a ≡ true
not-above_back p a b t i e h = by_side (is_not_above p a) refl
  where
    x : Fraction
    x = x_of p

    y : Fraction
    y = y_of p

    number : IsFraction x
    number = place-IsFraction p i

    lower : (t : Bool) → fraction_cmp (active_height x b) (active_height x a) ≡ step_by t → fraction_lt (active_height x a) y ≡ true → fraction_lt (active_height x b) y ≡ true
    lower true e l =
        rising_order.same_first (active_height x b) (active_height x a) y (active_height-number x b number) (active_height-number x a number) (record { positive = i.positive })
        (same_from_equal (active_height x b) (active_height x a) e) l
    lower false e l =
        rising_order.trans (active_height x b) (active_height x a) y (active_height-number x b number) (active_height-number x a number) (record { positive = i.positive })
        (lt_from_less (active_height x b) (active_height x a) e) l

    by_side : (u : Bool) → is_not_above p a ≡ u → u ≡ true
    by_side true f = refl
    by_side false f =
        let over : fraction_lt (active_height x a) y ≡ true = lt_from_greater y (active_height x a) (greater-of (fraction_cmp y (active_height x a)) f) in
        let under : fraction_cmp y (active_height x b) ≡ Greater = greater_from_lt y (active_height x b) (lower t (sym (height_cmp-active x a b) ∙ e) over) in
        absurd (false≢true (sym (ap is_le under) ∙ h))

not-above_steps : (p : Point) (column : Option Fraction) (a : Active) (es : List Active) (cs : List Contact) → IsPoint p → StepsAtFrom (x_of p) column a es cs → IsPassedBack (is_not_above p) (a ∷ es)
not-above_steps p column a [] cs i h = tt
not-above_steps p column a (b ∷ es) [] i h = absurd h
not-above_steps p column a (b ∷ es) (c ∷ cs) i h = (not-above_back p a b (touches column c) i h.0, not-above_steps p column b es cs i h.1)

pub reached-first : (p : Point) (column : Option Fraction) (es : List Active) (cs : List Contact) → IsPoint p → StepsAt (x_of p) column es cs → IsPartitionedBy (is_not_above p) es
reached-first p column [] cs i h = back-parted (is_not_above p) [] tt
reached-first p column (a ∷ es) cs i h = back-parted (is_not_above p) (a ∷ es) (not-above_steps p column a es cs i h)
