-- Where the next point of a column lies: heights fall weakly, so a search finds it, and no two neighbours above it meet in the column.
use Rattle.std.proofs.Common.{◌≡◌, refl, sym, ◌∙◌, subst, ℕ, zero, suc, ◌<◌, arith, pos, ◌*ℤ◌, Bool, true, false, ◌&&◌, ◌||◌, List, [], ◌∷◌, length, Option}
use Rattle.std.specs.Prelude.{slice_index_or}
use Rattle.std.specs.List.Sorted.{IsPartitionedBy}
use Rattle.std.specs.Ordering.{is_lt}
use Rattle.std.proofs.lemmas.Bool.{false≢true}
use Rattle.std.proofs.lemmas.Int.{ints}
use Rattle.sf_grid.specs.Fraction.{Fraction, IsFraction, fraction_cmp, fraction_eq, fraction_lt}
use Rattle.sf_grid.specs.Plane.{IsPoint, Point, x_of, y_of}
use Rattle.sf_grid.specs.Edge.{height_at, height_cmp, is_vertical}
use Rattle.sf_grid.proofs.CallerLemmas.{Same, test_from_eq}
use Rattle.sf_strips.specs.declared.active.Active.{Active}
use Rattle.sf_strips.specs.declared.contact.Contact.{Contact}
use Rattle.sf_strips.specs.Fronts.{line_of, touches}
use Rattle.sf_strips.specs.Slanted.{IsMeetingAfter}
use Rattle.sf_slabs.specs.Sweeps.{StepsAt, StepsAtFrom, step_by}
use Rattle.sf_slabs.proofs.CrossLaws.{meeting-on_both, on_edge-column, place-IsFraction}
use Rattle.sf_slabs.proofs.FallsLaws.{height_in-edge_of}
use Rattle.sf_slabs.proofs.LeveledLaws.{active_height, active_height-number, height_cmp-active, lt_from_less, same_from_equal}
use Rattle.sf_slabs.proofs.NumberLaws.{rising_order}
use Rattle.sf_sweep.specs.Sides.{is_below_edge}
use Rattle.sf_sweep.specs.Tables.{point_before}

-- ---- a search
-- a test that the next one passes is passed by this one
abbrev pub IsPassedBack : {A : Type 0} → (A → Bool) → List A → Type 0
IsPassedBack p [] = Unit {0}
IsPassedBack p (a ∷ []) = Unit {0}
IsPassedBack p (a ∷ b ∷ xs) = (p b ≡ true → p a ≡ true) × IsPassedBack p (b ∷ xs)

back-to_first : {A : Type 0} (p : A → Bool) (a : A) (xs : List A) (j : ℕ) (d : A) → IsPassedBack p (a ∷ xs) → j < length (a ∷ xs) → p (slice_index_or (a ∷ xs) j d) ≡ true → p a ≡ true
back-to_first p a xs zero d h l e = e
back-to_first p a [] (suc j) d h l e = absurd (omega (arith, l))
back-to_first p a (b ∷ xs) (suc j) d h l e = h.0 (back-to_first p b xs j d h.1 (omega (arith, l)) e)

pub back-parted : {A : Type 0} (p : A → Bool) (xs : List A) → IsPassedBack p xs → IsPartitionedBy p xs
back-parted p [] h i j d le l e = absurd (omega (arith, l))
back-parted p (a ∷ xs) h zero j d le l e = back-to_first p a xs j d h l e
back-parted p (a ∷ xs) h (suc i) zero d le l e = absurd (omega (arith, le))
back-parted p (a ∷ []) h (suc i) (suc j) d le l e = absurd (omega (arith, l))
back-parted p (a ∷ b ∷ xs) h (suc i) (suc j) d le l e = back-parted p (b ∷ xs) h.1 i j d (omega (arith, le)) (omega (arith, l)) e

-- ---- edges above a point
less-of : (q r : Fraction) → is_lt (fraction_cmp q r) ≡ fraction_lt q r
less-of q r = grind (arith, ints)

-- a height above a number, and one that is level with it or above it
higher : (q r s : Fraction) (t : Bool) → IsFraction q → IsFraction r → IsFraction s → fraction_cmp r s ≡ step_by t → fraction_lt q r ≡ true → fraction_lt q s ≡ true
higher q r s true i j k e h = rising_order.same_second q r s i j k h (same_from_equal r s e)
higher q r s false i j k e h = rising_order.trans q r s i j k h (lt_from_less r s e)

step-back : (p : Point) (a b : Active) (t : Bool) → IsPoint p → height_cmp (line_of b) (line_of a) (x_of p) ≡ step_by t → is_below_edge p b ≡ true → is_below_edge p a ≡ true
step-back p a b t i e h =
    let x = x_of p in
    let y = y_of p in
    let number = place-IsFraction p i in
    less-of y (active_height x a)
    ∙ higher y (active_height x b) (active_height x a) t (record { positive = i.positive }) (active_height-number x b number) (active_height-number x a number)
    (sym (height_cmp-active x a b) ∙ e) (sym (less-of y (active_height x b)) ∙ h)

steps-back : (p : Point) (column : Option Fraction) (a : Active) (es : List Active) (cs : List Contact) → IsPoint p → StepsAtFrom (x_of p) column a es cs →
    IsPassedBack (is_below_edge p) (a ∷ es)
steps-back p column a [] cs i h = tt
steps-back p column a (b ∷ es) [] i h = absurd h
steps-back p column a (b ∷ es) (c ∷ cs) i h = (step-back p a b (touches column c) i h.0, steps-back p column b es cs i h.1)

-- in the point's column the edges above it come first
pub above-first : (p : Point) (column : Option Fraction) (es : List Active) (cs : List Contact) → IsPoint p → StepsAt (x_of p) column es cs → IsPartitionedBy (is_below_edge p) es
above-first p column [] cs i h = back-parted (is_below_edge p) [] tt
above-first p column (a ∷ es) cs i h = back-parted (is_below_edge p) (a ∷ es) (steps-back p column a es cs i h)

-- ---- nothing meets above the first point
or-behind : (a b : Bool) → b ≡ true → (a || b) ≡ true
or-behind true b h = refl
or-behind false b h = h

and-both : (a b : Bool) → a ≡ true → b ≡ true → (a && b) ≡ true
and-both true b h k = k
and-both false b h k = absurd (false≢true h)

-- an edge above p meets the next one in p's column at a point that comes before p
pub touch-earlier : (a b : Active) (x : Fraction) (p q : Point) → is_vertical (line_of a) ≡ false → IsPoint p → IsMeetingAfter (line_of a) (line_of b) x q →
    Same (x_of q) (x_of p) → is_below_edge p a ≡ true → point_before q p ≡ true
touch-earlier a b x p q slants i m same over =
    let column = x_of p in
    let number = place-IsFraction p i in
    let on = meeting-on_both (line_of a) (line_of b) x q m in
    let level : Same (y_of q) (height_at (line_of a) column) = (on_edge-column (line_of a) q column slants m.only.0 number same on.0).1 in
    let height : Same (active_height column a) (y_of q) = subst (λ h. Same h (y_of q)) (sym (height_in-edge_of column a.edge)) (sym level) in
    let below : fraction_lt (y_of p) (y_of q) ≡ true =
    rising_order.same_second (y_of p) (active_height column a) (y_of q) (record { positive = i.positive }) (active_height-number column a number) (record { positive = m.only.0.positive })
    (sym (less-of (y_of p) (active_height column a)) ∙ over) height in
    or-behind (fraction_lt (x_of q) column) (fraction_eq (x_of q) column && fraction_lt (y_of p) (y_of q))
    (and-both (fraction_eq (x_of q) column) (fraction_lt (y_of p) (y_of q)) (test_from_eq ((x_of q).num *ℤ pos column.den) (column.num *ℤ pos (x_of q).den) same) below)
