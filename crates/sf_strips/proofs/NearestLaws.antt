-- The least of a list of places, as the list grows.
use Rattle.std.proofs.Common.{◌≡◌, refl, ap, ◌∙◌, ℕ, ◌+◌, ◌<◌, ℤ, pos, ◌*ℤ◌, ◌≤ℤ◌, ◌<ℤ◌, arith, Bool, true, false, List, [], ◌∷◌, ◌++◌, take, length, get_or, Option, Some, None}
use Rattle.std.specs.Prelude.{if◌then◌else◌, IsTrue}
use Rattle.std.proofs.lemmas.Int.{ints}
use Rattle.std.proofs.lemmas.List.{take_more}
use Rattle.std.proofs.lemmas.List.Elements.{All-nil, All-push, All-same, All-weaker, Contains-append_left, Contains-push}
use Rattle.sf_grid.specs.Fraction.{Fraction, IsFraction, fraction_le, fraction_lt, whole}
use Rattle.sf_grid.specs.Plane.{Coordinates, Point, x_of}
use Rattle.sf_grid.proofs.CallerLemmas.{ge_from_test, le-trans, le_from_test, lt_from_test, test_from_le}
use Rattle.sf_strips.specs.declared.contact.Contact.{Contact}
use Rattle.sf_strips.specs.declared.contact.Contact.TheVariants.{Ahead, Never, Throughout}
use Rattle.sf_strips.specs.Next.{IsLeastOf, candidates, lesser, places_of}

-- the least place so far, where there is one
abbrev pub IsNearest : Option Fraction → List Fraction → Type 0
IsNearest None qs = qs ≡ []
IsNearest (Some y) qs = IsFraction y × IsLeastOf qs y

itself : (q : Fraction) → fraction_le q q ≡ true
itself q = test_from_le (q.num *ℤ pos q.den) (q.num *ℤ pos q.den) (same (q.num *ℤ pos q.den))
  where
    same : (a : ℤ) → a ≤ℤ a
    same a = omega (arith, ints)

le_of_lt : (a b : ℤ) → a <ℤ b → a ≤ℤ b
le_of_lt a b h = omega (arith, ints)

-- one more place
pub nearest_more : (n : Option Fraction) (qs : List Fraction) (q : Fraction) → IsFraction q → IsNearest n qs → IsNearest (Some (lesser n q)) (qs ++ q ∷ [])
nearest_more None qs q i h = (
  i,
  record {
    among = Contains-push qs q;
    least = All-push (λ r. IsTrue (fraction_le q r)) qs q (All-same (λ r. IsTrue (fraction_le q r)) qs [] h (All-nil (λ r. IsTrue (fraction_le q r)))) (itself q);
  },
)
nearest_more (Some p) qs q i h = by_test (fraction_lt q p) refl
  where
    by_test : (t : Bool) → fraction_lt q p ≡ t → IsNearest (Some (if t then q else p)) (qs ++ q ∷ [])
    by_test true l = (
      i,
      record {
        among = Contains-push qs q;
        least =
            All-push (λ r. IsTrue (fraction_le q r)) qs q
            (All-weaker (λ r. IsTrue (fraction_le p r)) (λ r. IsTrue (fraction_le q r))
            (λ r k. test_from_le (q.num *ℤ pos r.den) (r.num *ℤ pos q.den)
            (le-trans q p r h.0 (le_of_lt (q.num *ℤ pos p.den) (p.num *ℤ pos q.den) (lt_from_test (q.num *ℤ pos p.den) (p.num *ℤ pos q.den) l)) (le_from_test (p.num *ℤ pos r.den) (r.num *ℤ pos p.den) k)))
            qs h.1.least)
            (itself q);
      },
    )
    by_test false l = (
      h.0,
      record {
        among = Contains-append_left qs (q ∷ []) p h.1.among;
        least = All-push (λ r. IsTrue (fraction_le p r)) qs q h.1.least (test_from_le (p.num *ℤ pos q.den) (q.num *ℤ pos p.den) (ge_from_test (q.num *ℤ pos p.den) (p.num *ℤ pos q.den) l));
      },
    )

-- ---- the candidates of one more contact
places_of-append : (cs ds : List Contact) → places_of (cs ++ ds) ≡ places_of cs ++ places_of ds
places_of-append [] ds = refl
places_of-append (Never ∷ cs) ds = places_of-append cs ds
places_of-append (Ahead p ∷ cs) ds = ap (λ qs. x_of p ∷ qs) (places_of-append cs ds)
places_of-append (Throughout ∷ cs) ds = places_of-append cs ds

candidates-append : (g : Option Coordinates) (cs ds : List Contact) → candidates g (cs ++ ds) ≡ candidates g cs ++ places_of ds
candidates-append None cs ds = places_of-append cs ds
candidates-append (Some a) cs ds = ap (λ qs. whole a.x ∷ qs) (places_of-append cs ds)

candidates-more : (g : Option Coordinates) (cs : List Contact) (i : ℕ) (d : Contact) → i < length cs →
    candidates g (take (i + 1) cs) ≡ candidates g (take i cs) ++ places_of (get_or cs i d ∷ [])
candidates-more g cs i d h = ap (candidates g) (take_more cs i d h) ∙ candidates-append g (take i cs) (get_or cs i d ∷ [])

append_nil : (qs : List Fraction) → qs ++ [] ≡ qs
append_nil [] = refl
append_nil (q ∷ qs) = ap (λ rs. q ∷ rs) (append_nil qs)

-- a contact that isn't a point ahead has no place
none_ahead : (c : Contact) → ((p : Point) → c ≡ Ahead p → ⊥) → places_of (c ∷ []) ≡ []
none_ahead Never n = refl
none_ahead (Ahead p) n = absurd (n p refl)
none_ahead Throughout n = refl

-- a step of the loop: no point ahead, or one
pub nearest_same : (n : Option Fraction) (g : Option Coordinates) (cs : List Contact) (i : ℕ) (d : Contact) → i < length cs →
    ((p : Point) → get_or cs i d ≡ Ahead p → ⊥) → IsNearest n (candidates g (take i cs)) → IsNearest n (candidates g (take (i + 1) cs))
nearest_same n g cs i d h e k =
    rw (candidates-more g cs i d h ∙ ap (λ qs. candidates g (take i cs) ++ qs) (none_ahead (get_or cs i d) e) ∙ append_nil (candidates g (take i cs))) k

pub nearest_next : (n : Option Fraction) (g : Option Coordinates) (cs : List Contact) (i : ℕ) (d : Contact) (p : Point) → i < length cs →
    get_or cs i d ≡ Ahead p → IsFraction (x_of p) → IsNearest n (candidates g (take i cs)) → IsNearest (Some (lesser n (x_of p))) (candidates g (take (i + 1) cs))
nearest_next n g cs i d p h e f k =
    rw (candidates-more g cs i d h ∙ ap (λ c. candidates g (take i cs) ++ places_of (c ∷ [])) e) (nearest_more n (candidates g (take i cs)) (x_of p) f k)
