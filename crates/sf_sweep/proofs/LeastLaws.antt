-- The next column is that of the first meeting or of the next vertex: before it no neighbours of the order meet.
use Rattle.std.proofs.Common.{◌≡◌, ◌≢◌, refl, ap, sym, ◌∙◌, subst, ℕ, zero, suc, arith, ℤ, pos, ◌*ℤ◌, Bool, true, false, ◌||◌, ◌&&◌, List, [], ◌∷◌, Option, None, Some, ◌⊎◌, inl, inr}
use Rattle.std.specs.Prelude.{IfNone, IfSome, IsTrue, int_le, int_lt, slice_index_or}
use Rattle.std.specs.List.{AllByRecursion, Contains}
use Rattle.std.proofs.lemmas.Bool.{cases_eq, false≢true}
use Rattle.std.proofs.lemmas.Int.{ints}
use Rattle.std.proofs.lemmas.List.Elements.{All-from_recursion}
use Rattle.sf_grid.specs.Fraction.{Fraction, fraction_eq, fraction_le, fraction_lt, whole}
use Rattle.sf_grid.specs.Plane.{Coordinates, IsPoint, Point, x_of, y_of}
use Rattle.sf_strips.specs.declared.active.Active.{Active}
use Rattle.sf_strips.specs.declared.contact.Contact.{Contact}
use Rattle.sf_strips.specs.declared.contact.Contact.TheVariants.{Ahead, Never, Throughout}
use Rattle.sf_strips.specs.declared.vertex.Vertex.{Vertex}
use Rattle.sf_strips.specs.Next.{IsLeastOf, candidates, first_place, places_of}
use Rattle.sf_slabs.proofs.CrossLaws.{place-IsFraction}
use Rattle.sf_slabs.proofs.FollowLaws.{le_le-places}
use Rattle.sf_slabs.proofs.RunLaws.{IsComingNext}
use Rattle.sf_sweep.specs.Nearest.{IsFirstMeeting, IsPointIn, NoneMeet, meeting_of}
use Rattle.sf_sweep.specs.Passing.{contact_at}
use Rattle.sf_sweep.specs.Tables.{IsNeverElsewhere, IsNotBefore, ahead_of, contacts_of}
use Rattle.sf_sweep.specs.Within.{IsLastAlone}
use Rattle.sf_sweep.proofs.RepairLaws.{each-of}

-- ---- among places
contains-here : (x : Fraction) (xs : List Fraction) → Contains (x ∷ xs) x
contains-here x xs = (0, omega arith, refl)

contains-later : (x y : Fraction) (xs : List Fraction) → Contains xs y → Contains (x ∷ xs) y
contains-later x y xs h = (suc h.0, omega (arith, h.1), h.2)

contains-one : (x y : Fraction) → Contains (x ∷ []) y → x ≡ y
contains-one x y (zero, l, e) = e
contains-one x y (suc n, l, e) = absurd (omega (arith, l))

contains-two : (w x y : Fraction) → Contains (w ∷ x ∷ []) y → (w ≡ y) ⊎ (x ≡ y)
contains-two w x y (zero, l, e) = inl e
contains-two w x y (suc zero, l, e) = inr e
contains-two w x y (suc (suc n), l, e) = absurd (omega (arith, l))

-- ---- the meeting of a piece is one of neighbours of the order
never-ahead : (p : Point) → ◌≡◌ {A = Contact} Never (Ahead p) → ⊥
never-ahead p e = cc

there : (p : Point) (c : Contact) (cs : List Contact) → c ≡ Ahead p → Contains (places_of (c ∷ cs)) (x_of p)
there p c cs e = subst (λ d. Contains (places_of (d ∷ cs)) (x_of p)) (sym e) (contains-here (x_of p) (places_of cs))

further : (q : Fraction) (c : Contact) (cs : List Contact) → Contains (places_of cs) q → Contains (places_of (c ∷ cs)) q
further q Never cs h = h
further q (Ahead p) cs h = contains-later (x_of p) q (places_of cs) h
further q Throughout cs h = h

meets-among : (table : List Contact) (order : List Active) (i : ℕ) (p : Point) → IsLastAlone table order → slice_index_or table i Never ≡ Ahead p →
    AllByRecursion (λ a. i ≢ a.piece) order ⊎ Contains (places_of (contacts_of table order)) (x_of p)
meets-among table [] i p l m = inl tt
meets-among table (a ∷ []) i p l m = by_piece (cases_eq i a.piece)
  where
    by_piece : (i ≡ a.piece) ⊎ ((i ≡ a.piece) → ⊥) → AllByRecursion (λ b. i ≢ b.piece) (a ∷ []) ⊎ Contains [] (x_of p)
    by_piece (inl e) = absurd (never-ahead p (sym l ∙ ap (λ j. slice_index_or table j Never) (sym e) ∙ m))
    by_piece (inr n) = inl (n, tt)
meets-among table (a ∷ b ∷ es) i p l m = by_piece (cases_eq i a.piece) (meets-among table (b ∷ es) i p l m)
  where
    by_piece : (i ≡ a.piece) ⊎ ((i ≡ a.piece) → ⊥) → AllByRecursion (λ d. i ≢ d.piece) (b ∷ es) ⊎ Contains (places_of (contacts_of table (b ∷ es))) (x_of p) →
        AllByRecursion (λ d. i ≢ d.piece) (a ∷ b ∷ es) ⊎ Contains (places_of (contacts_of table (a ∷ b ∷ es))) (x_of p)
    by_piece (inl e) rest = inr (there p (contact_at table a) (contacts_of table (b ∷ es)) (ap (λ j. slice_index_or table j Never) (sym e) ∙ m))
    by_piece (inr n) (inl out) = inl (n, out)
    by_piece (inr n) (inr k) = inr (further (x_of p) (contact_at table a) (contacts_of table (b ∷ es)) k)

first-among : (table : List Contact) (order : List Active) (p : Point) → IsNeverElsewhere table order → IsLastAlone table order → IsFirstMeeting table p → Contains (places_of (contacts_of table order)) (x_of p)
first-among table order p never alone f = by_either (meets-among table order f.among.piece p alone f.among.meets)
  where
    by_either : AllByRecursion (λ a. f.among.piece ≢ a.piece) order ⊎ Contains (places_of (contacts_of table order)) (x_of p) → Contains (places_of (contacts_of table order)) (x_of p)
    by_either (inl out) = absurd (never-ahead p (sym (never f.among.piece out) ∙ f.among.meets))
    by_either (inr h) = h

-- ---- none is left of it
first-part : (a b : Bool) → (a || b) ≡ false → a ≡ false
first-part true b h = absurd (false≢true (sym h))
first-part false b h = refl

not-less : (a b : ℤ) → int_lt a b ≡ false → int_le b a ≡ true
not-less a b h = grind (arith, ints)

one-least : (y : Fraction) (p : Point) (c : Contact) (cs : List Contact) → IsPoint p → fraction_le y (x_of p) ≡ true → IsPointIn (ahead_of c) → IsNotBefore p c →
    AllByRecursion (λ q. IsTrue (fraction_le y q)) (places_of cs) → AllByRecursion (λ q. IsTrue (fraction_le y q)) (places_of (c ∷ cs))
one-least y p Never cs i l j n k = k
one-least y p (Ahead r) cs i l j n k =
    let left : fraction_lt (x_of r) (x_of p) ≡ false = first-part (fraction_lt (x_of r) (x_of p)) (fraction_eq (x_of r) (x_of p) && fraction_lt (y_of p) (y_of r)) n in
    (le_le-places y (x_of p) (x_of r) (place-IsFraction p i) l (not-less ((x_of r).num *ℤ pos (x_of p).den) ((x_of p).num *ℤ pos (x_of r).den) left), k)
one-least y p Throughout cs i l j n k = k

places-least : (y : Fraction) (p : Point) (table : List Contact) (order : List Active) → IsFirstMeeting table p → fraction_le y (x_of p) ≡ true →
    AllByRecursion (λ q. IsTrue (fraction_le y q)) (places_of (contacts_of table order))
places-least y p table [] f l = tt
places-least y p table (a ∷ []) f l = tt
places-least y p table (a ∷ b ∷ es) f l =
    one-least y p (contact_at table a) (contacts_of table (b ∷ es)) f.point l (f.points a.piece) (f.first a.piece) (places-least y p table (b ∷ es) f l)

-- where no edges meet there is no place
some-none : (q : Point) → ◌≡◌ {A = Option Point} (Some q) None → ⊥
some-none q e = cc

one-none : (c : Contact) (cs : List Contact) → ahead_of c ≡ None → places_of cs ≡ [] → places_of (c ∷ cs) ≡ []
one-none Never cs e h = h
one-none (Ahead q) cs e h = absurd (some-none q e)
one-none Throughout cs e h = h

places-none : (table : List Contact) (order : List Active) → NoneMeet table → places_of (contacts_of table order) ≡ []
places-none table [] n = refl
places-none table (a ∷ []) n = refl
places-none table (a ∷ b ∷ es) n = one-none (contact_at table a) (contacts_of table (b ∷ es)) (n a.piece) (places-none table (b ∷ es) n)

same-candidates : (g : Option Coordinates) (cs ds : List Contact) → places_of cs ≡ places_of ds → candidates g cs ≡ candidates g ds
same-candidates None cs ds e = e
same-candidates (Some a) cs ds e = ap (λ qs. whole a.x ∷ qs) e

-- ---- the next column
least-first : (table : List Contact) (order : List Active) (p : Point) (g : Option Coordinates) (y : Fraction) → IsNeverElsewhere table order → IsLastAlone table order → IsFirstMeeting table p →
    IsLeastOf (candidates g (Ahead p ∷ [])) y → IsLeastOf (candidates g (contacts_of table order)) y
least-first table order p None y never alone f h =
    let l = each-of (λ q. IsTrue (fraction_le y q)) (x_of p ∷ []) h.least in
    record {
      among = subst (Contains (places_of (contacts_of table order))) (contains-one (x_of p) y h.among) (first-among table order p never alone f);
      least = All-from_recursion (λ q. IsTrue (fraction_le y q)) (places_of (contacts_of table order)) (places-least y p table order f l.0);
    }
least-first table order p (Some a) y never alone f h =
    let l = each-of (λ q. IsTrue (fraction_le y q)) (whole a.x ∷ x_of p ∷ []) h.least in
    record {
      among = by_place (contains-two (whole a.x) (x_of p) y h.among);
      least = All-from_recursion (λ q. IsTrue (fraction_le y q)) (whole a.x ∷ places_of (contacts_of table order)) (l.0, places-least y p table order f l.1.0);
    }
  where
    by_place : (whole a.x ≡ y) ⊎ (x_of p ≡ y) → Contains (whole a.x ∷ places_of (contacts_of table order)) y
    by_place (inl e) = subst (Contains (whole a.x ∷ places_of (contacts_of table order))) e (contains-here (whole a.x) (places_of (contacts_of table order)))
    by_place (inr e) =
        contains-later (whole a.x) y (places_of (contacts_of table order)) (subst (Contains (places_of (contacts_of table order))) e (first-among table order p never alone f))

none-left : (g : Option Coordinates) (p : Point) → candidates g (Ahead p ∷ []) ≡ [] → ⊥
none-left None p e = cc
none-left (Some a) p e = cc

pub next-of_first : (table : List Contact) (order : List Active) (near : Option Point) (next : Option Fraction) (vs : List Vertex) → IsNeverElsewhere table order → IsLastAlone table order →
    IfSome near (λ p. IsFirstMeeting table p) → IfNone near (NoneMeet table) → IfSome next (λ y. IsLeastOf (candidates (first_place vs) (meeting_of near)) y) →
    IfNone next (candidates (first_place vs) (meeting_of near) ≡ []) → IsComingNext next vs (contacts_of table order)
next-of_first table order None None vs never alone f n s e =
    same-candidates (first_place vs) (contacts_of table order) [] (places-none table order n) ∙ e
next-of_first table order None (Some y) vs never alone f n s e =
    subst (λ qs. IsLeastOf qs y) (sym (same-candidates (first_place vs) (contacts_of table order) [] (places-none table order n))) s
next-of_first table order (Some p) None vs never alone f n s e = absurd (none-left (first_place vs) p e)
next-of_first table order (Some p) (Some y) vs never alone f n s e = least-first table order p (first_place vs) y never alone f s
