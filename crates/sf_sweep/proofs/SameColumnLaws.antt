-- A column's place may be written as different fractions of one number.
use Rattle.std.proofs.Common.{◌≡◌, refl, sym, ◌∙◌, Bool, true, false, List, [], ◌∷◌, Some, Option}
use Rattle.sf_grid.specs.Fraction.{Fraction, IsFraction}
use Rattle.sf_grid.specs.Plane.{x_of}
use Rattle.sf_grid.specs.Edge.{height_cmp}
use Rattle.sf_grid.proofs.CallerLemmas.{Same}
use Rattle.sf_strips.specs.declared.active.Active.{Active}
use Rattle.sf_strips.specs.declared.contact.Contact.{Contact}
use Rattle.sf_strips.specs.declared.contact.Contact.TheVariants.{Ahead, Never, Throughout}
use Rattle.sf_strips.specs.Fronts.{line_of, touches}
use Rattle.sf_slabs.specs.Sweeps.{StepsAt, StepsAtFrom, step_by}
use Rattle.sf_slabs.proofs.HeightsLaws.{fraction_eq-same}
use Rattle.sf_slabs.proofs.LeveledLaws.{active_height, active_height-number, height_cmp-active, height_in-same, lt_from_less, same_from_equal}
use Rattle.sf_slabs.proofs.LocateLaws.{less_from_lt}
use Rattle.sf_slabs.proofs.NumberLaws.{Same-trans, rising_order}
use Rattle.sf_sweep.specs.Passing.{ArePassing, IsLastApart, contact_at}
use Rattle.sf_sweep.proofs.SideLaws.{is_equal}

pub touches-same : (x y : Fraction) (c : Contact) → IsFraction x → IsFraction y → Same x y → touches (Some x) c ≡ touches (Some y) c
touches-same x y Never i j s = refl
touches-same x y (Ahead p) i j s = fraction_eq-same (x_of p) x y i j s
touches-same x y Throughout i j s = refl

pub passing-same : (x y : Fraction) (table : List Contact) (es : List Active) → IsFraction x → IsFraction y → Same x y → ArePassing (Some x) table es → ArePassing (Some y) table es
passing-same x y table [] i j s h = tt
passing-same x y table (a ∷ es) i j s h = (sym (touches-same x y (contact_at table a) i j s) ∙ h.0, passing-same x y table es i j s h.1)

pub last-same : (x y : Fraction) (table : List Contact) (es : List Active) → IsFraction x → IsFraction y → Same x y → IsLastApart (Some x) table es → IsLastApart (Some y) table es
last-same x y table [] i j s h = tt
last-same x y table (a ∷ []) i j s h = sym (touches-same x y (contact_at table a) i j s) ∙ h
last-same x y table (a ∷ b ∷ es) i j s h = last-same x y table (b ∷ es) i j s h

-- heights there are one number
step-same : (x y : Fraction) (a b : Active) (t : Bool) → IsFraction x → IsFraction y → Same x y → height_cmp (line_of b) (line_of a) x ≡ step_by t → height_cmp (line_of b) (line_of a) y ≡ step_by t
step-same x y a b true i j s h =
    let p = active_height x b in
    let q = active_height x a in
    let level : Same p q = same_from_equal p q (sym (height_cmp-active x a b) ∙ h) in
    let first : Same p (active_height y b) = height_in-same x y b.edge s in
    let second : Same q (active_height y a) = height_in-same x y a.edge s in
    height_cmp-active y a b
    ∙ is_equal _ _ (Same-trans (active_height y b) p (active_height y a) (active_height-number x b i) (sym first)
    (Same-trans p q (active_height y a) (active_height-number x a i) level second))
step-same x y a b false i j s h =
    let p = active_height x b in
    let q = active_height x a in
    let first : Same p (active_height y b) = height_in-same x y b.edge s in
    let second : Same q (active_height y a) = height_in-same x y a.edge s in
    height_cmp-active y a b
    ∙ less_from_lt (active_height y b) (active_height y a)
    (rising_order.same_second (active_height y b) q (active_height y a) (active_height-number y b j) (active_height-number x a i) (active_height-number y a j)
    (rising_order.same_first (active_height y b) p q (active_height-number y b j) (active_height-number x b i) (active_height-number x a i) (sym first) (lt_from_less p q (sym (height_cmp-active x a b) ∙ h)))
    second)

steps_from-same : (x y : Fraction) (column : Option Fraction) (a : Active) (es : List Active) (cs : List Contact) → IsFraction x → IsFraction y → Same x y → StepsAtFrom x column a es cs → StepsAtFrom y column a es cs
steps_from-same x y column a [] cs i j s h = h
steps_from-same x y column a (b ∷ es) [] i j s h = absurd h
steps_from-same x y column a (b ∷ es) (c ∷ cs) i j s h = (step-same x y a b (touches column c) i j s h.0, steps_from-same x y column b es cs i j s h.1)

pub steps-same : (x y : Fraction) (column : Option Fraction) (es : List Active) (cs : List Contact) → IsFraction x → IsFraction y → Same x y → StepsAt x column es cs → StepsAt y column es cs
steps-same x y column [] cs i j s h = h
steps-same x y column (a ∷ es) cs i j s h = steps_from-same x y column a es cs i j s h
