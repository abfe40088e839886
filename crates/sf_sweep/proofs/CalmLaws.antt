-- Between points of a column nothing happens: edges above the next point are level with the next one only where they are everywhere.
use Rattle.std.proofs.Common.{◌≡◌, ◌≢◌, refl, ap, sym, ◌∙◌, subst, Bool, true, false, List, [], ◌∷◌, ◌++◌, Option, Some, None, inl, inr}
use Rattle.std.specs.List.{AllByRecursion}
use Rattle.std.specs.declared.cmp.Ordering.TheVariants.{Equal, Greater, Less}
use Rattle.std.proofs.lemmas.Bool.{false≢true}
use Rattle.sf_grid.specs.Fraction.{Fraction, IsFraction, fraction_eq}
use Rattle.sf_grid.specs.Plane.{IsPoint, Point, x_of}
use Rattle.sf_grid.specs.Edge.{height_cmp}
use Rattle.sf_grid.proofs.CallerLemmas.{eq_from_test}
use Rattle.sf_strips.specs.declared.active.Active.{Active}
use Rattle.sf_strips.specs.declared.contact.Contact.{Contact}
use Rattle.sf_strips.specs.declared.contact.Contact.TheVariants.{Ahead, Never, Throughout}
use Rattle.sf_strips.specs.Fronts.{AreContacts, Descend, Descends, IsContact, line_of, touches}
use Rattle.sf_strips.specs.Slanted.{IsMeetingAfter, slope_order}
use Rattle.sf_slabs.specs.Sweeps.{StepsAt, step_by}
use Rattle.sf_slabs.proofs.CrossLaws.{level-one_line}
use Rattle.sf_slabs.proofs.FollowLaws.{level-flip, slants-line_of}
use Rattle.sf_sweep.specs.Passing.{ArePassing, IsLastApart, contact_at}
use Rattle.sf_sweep.specs.Tables.{IsNotBefore, contacts_of}
use Rattle.sf_sweep.specs.Sides.{is_below_edge}
use Rattle.sf_sweep.proofs.NearLaws.{touch-earlier}
use Rattle.sf_sweep.proofs.PassLaws.{AreOneSloped}
pub use Rattle.sf_sweep.specs.Within.{IsLastAlone, StopsBefore}

-- where an edge meets another one ahead
pub record MeetsAt (a : Active) (q : Point) : Type 0 where
  pub other : Active
  pub behind : Fraction
  pub meeting : IsMeetingAfter (line_of a) (line_of other) behind q

abbrev pub IsMet : Active → Contact → Type 0
IsMet a Never = Unit {0}
IsMet a (Ahead q) = MeetsAt a q
IsMet a Throughout = Unit {0}

-- what an edge does with the next one is known; and if it meets it ahead, then not before p
abbrev pub IsCalm : List Contact → Active → Type 0
IsCalm table a = IsMet a (contact_at table a)

-- an edge above p, where nothing comes before p
passes-above : (p : Point) (a : Active) (c : Contact) → IsPoint p → IsMet a c → IsNotBefore p c → is_below_edge p a ≡ true → touches (Some (x_of p)) c ≡ touches None c
passes-above p a Never i m n h = refl
passes-above p a Throughout i m n h = refl
passes-above p a (Ahead q) i m n h = by_test (fraction_eq (x_of q) (x_of p)) refl
  where
    by_test : (t : Bool) → fraction_eq (x_of q) (x_of p) ≡ t → t ≡ false
    by_test false e = refl
    by_test true e = absurd (false≢true (sym n ∙ touch-earlier a m.other m.behind p q (slants-line_of a) i m.meeting (eq_from_test _ _ e) h))

pub passing-above : (p : Point) (table : List Contact) (es : List Active) → IsPoint p → AllByRecursion (IsCalm table) es → AllByRecursion (λ a. IsNotBefore p (contact_at table a)) es →
    AllByRecursion (λ a. is_below_edge p a ≡ true) es → ArePassing (Some (x_of p)) table es
passing-above p table [] i c n h = tt
passing-above p table (a ∷ es) i c n h = (passes-above p a (contact_at table a) i c.0 n.0 h.0, passing-above p table es i c.1 n.1 h.1)

-- where no meeting is in the column, all edges pass it
abbrev pub IsElsewhere : Fraction → Contact → Type 0
IsElsewhere x Never = Unit {0}
IsElsewhere x (Ahead q) = fraction_eq (x_of q) x ≡ false
IsElsewhere x Throughout = Unit {0}

passes-elsewhere : (x : Fraction) (c : Contact) → IsElsewhere x c → touches (Some x) c ≡ touches None c
passes-elsewhere x Never h = refl
passes-elsewhere x (Ahead q) h = h
passes-elsewhere x Throughout h = refl

pub passing-rest : (x : Fraction) (table : List Contact) (es : List Active) → AllByRecursion (λ a. IsElsewhere x (contact_at table a)) es → ArePassing (Some x) table es
passing-rest x table [] h = tt
passing-rest x table (a ∷ es) h = (passes-elsewhere x (contact_at table a) h.0, passing-rest x table es h.1)

-- ---- what is known of an order's contacts
met-of : (x : Fraction) (a b : Active) (c : Contact) → IsContact (line_of a) (line_of b) x c → IsMet a c
met-of x a b Never h = tt
met-of x a b (Ahead q) h = record { other = b; behind = x; meeting = h }
met-of x a b Throughout h = tt

pub calm-of : (x : Fraction) (table : List Contact) (es : List Active) → AreContacts x es (contacts_of table es) → IsLastAlone table es → AllByRecursion (IsCalm table) es
calm-of x table [] h l = tt
calm-of x table (a ∷ []) h l = (subst (IsMet a) (sym l) tt, tt)
calm-of x table (a ∷ b ∷ es) h l = (met-of x a b (contact_at table a) h.0, calm-of x table (b ∷ es) h.1 l)

-- ---- neighbours on one line have one slope
differ : Less ≡ Equal → ⊥
differ e = cc

one-slope : (x : Fraction) (a b : Active) (c : Contact) → IsFraction x → IsContact (line_of a) (line_of b) x c → Descends x a b → touches None c ≡ true →
    slope_order b.edge.left b.edge.right a.edge.left a.edge.right ≢ Greater
one-slope x a b Never i h d e = absurd (false≢true e)
one-slope x a b (Ahead q) i h d e = absurd (false≢true e)
one-slope x a b Throughout i h (inl d) e = absurd
    (differ (sym d ∙ level-flip (line_of a) (line_of b) x (level-one_line (line_of a) (line_of b) x (slants-line_of a) (slants-line_of b) i h)))
one-slope x a b Throughout i h (inr d) e = d.1

pub one-sloped : (x : Fraction) (table : List Contact) (es : List Active) → IsFraction x → AreContacts x es (contacts_of table es) → Descend x es → AreOneSloped table es
one-sloped x table [] i h d = tt
one-sloped x table (a ∷ []) i h d = tt
one-sloped x table (a ∷ b ∷ es) i h d = (one-slope x a b (contact_at table a) i h.0 d.0, one-sloped x table (b ∷ es) i h.1 d.1)

-- ---- where the order is cut by heights, no level and no bundle is cut
-- a test that edges of one height in a column pass together
abbrev pub IsOfHeight : Fraction → (Active → Bool) → Type 0
IsOfHeight x t = (a b : Active) → height_cmp (line_of b) (line_of a) x ≡ Equal → t a ≡ true → t b ≡ true

cut-apart : (x : Fraction) (t : Active → Bool) (a b : Active) (u : Bool) → IsOfHeight x t → t a ≡ true → t b ≡ false → height_cmp (line_of b) (line_of a) x ≡ step_by u → u ≡ false
cut-apart x t a b false h i j e = refl
cut-apart x t a b true h i j e = absurd (false≢true (sym j ∙ h a b e i))

never-touches : (column : Option Fraction) (c : Contact) → c ≡ Never → touches column c ≡ false
never-touches column c e = ap (touches column) e

pub last-apart : (x : Fraction) (column : Option Fraction) (t : Active → Bool) (table : List Contact) (es fs : List Active) → IsOfHeight x t → StepsAt x column (es ++ fs) (contacts_of table (es ++ fs)) →
    IsLastAlone table (es ++ fs) → AllByRecursion (λ a. t a ≡ true) es → StopsBefore t fs → IsLastApart column table es
last-apart x column t table [] fs h s l p q = tt
last-apart x column t table (a ∷ []) [] h s l p q = never-touches column (contact_at table a) l
last-apart x column t table (a ∷ []) (f ∷ fs) h s l p q = cut-apart x t a f (touches column (contact_at table a)) h p.0 q s.0
last-apart x column t table (a ∷ b ∷ es) fs h s l p q = last-apart x column t table (b ∷ es) fs h s.1 l p.1 q

apart-everywhere : (x : Fraction) (c : Contact) → touches (Some x) c ≡ false → touches None c ≡ false
apart-everywhere x Never h = refl
apart-everywhere x (Ahead q) h = refl
apart-everywhere x Throughout h = h

pub last-apart_everywhere : (x : Fraction) (table : List Contact) (es : List Active) → IsLastApart (Some x) table es → IsLastApart None table es
last-apart_everywhere x table [] h = tt
last-apart_everywhere x table (a ∷ []) h = apart-everywhere x (contact_at table a) h
last-apart_everywhere x table (a ∷ b ∷ es) h = last-apart_everywhere x table (b ∷ es) h
