-- The edges at a vertex.
use Rattle.std.proofs.Common.{◌≡◌, ◌≢◌, ℕ, ◌+◌, ◌<◌, ◌≤◌, refl, ap, sym, ◌∙◌, arith, subst, List, [], ◌∷◌, length, get_or, inl, inr, ◌⊎◌, Bool, true, false, ◌&&◌, Option, Some, None}
use Rattle.std.specs.Prelude.{if◌then◌else◌, ◌==◌}
use Rattle.std.specs.Ordering.{int_eq}
use Rattle.std.proofs.lemmas.Bool.{and_from, both_ways, eqb-true}
use Rattle.sf_grid.specs.Plane.{Coordinates}
use Rattle.sf_grid.specs.Sharing.{comes_before, earlier_of, later_of}
use Rattle.sf_grid.proofs.CallerLemmas.{test_from_eq}
use Rattle.sf_first_meeting.specs.declared.spot.Spot.{Spot}
use Rattle.sf_first_meeting.specs.declared.spot.Spot.TheVariants.{Begins, Closes, Ends, Opens, Passes}
use Rattle.sf_first_meeting.specs.Numbered.{HasLengths, IsClosedBy, point_of}
use Rattle.sf_first_meeting.specs.Sheared.{sheared}
use Rattle.sf_first_meeting.specs.Orders.{Among}
use Rattle.sf_first_meeting.specs.Spots.{AreAtVertex, BeginsAt, EndsAt, HasSame, IsAtVertex, IsLeftOf, IsSpot, LeadsTo, ending_of}
use Rattle.sf_first_meeting.proofs.PairLaws.{read-is, same-is}

-- ---- whether an edge ends or begins
pub same-self : (a b : Coordinates) → a ≡ b → (int_eq a.x b.x && int_eq a.y b.y) ≡ true
same-self a b e = and_from _ _ (test_from_eq a.x b.x (ap (λ (c : Coordinates). c.x) e)) (test_from_eq a.y b.y (ap (λ (c : Coordinates). c.y) e))

pub ends-read : (ps : List Coordinates) (n i : ℕ) (r q : Coordinates) (t : Bool) → n < length ps → r ≡ later_of (point_of ps i) (point_of ps (i + 1)) → q ≡ get_or ps n q →
    t ≡ (int_eq r.x q.x && int_eq r.y q.y) → t ≡ true → EndsAt ps n i
ends-read ps n i r q t h e f g k = ap sheared (sym e ∙ same-is r q (sym g ∙ k) ∙ sym (read-is ps n q h f))

is-end : (ps : List Coordinates) (n i : ℕ) → IsAtVertex ps n i → (point_of ps n ≡ point_of ps i) ⊎ (point_of ps n ≡ point_of ps (i + 1))
is-end ps n i (inl e) = inl (ap (point_of ps) (sym e))
is-end ps n i (inr (inl e)) = inr (ap (point_of ps) (sym e))
is-end ps n i (inr (inr (e, closed))) = inr (ap (point_of ps) e ∙ closed.1)

first-or_last : (a b v : Coordinates) → (v ≡ a) ⊎ (v ≡ b) → (earlier_of a b ≡ v) ⊎ (later_of a b ≡ v)
first-or_last a b v h = by (comes_before b a) h
  where
    by : (t : Bool) → (v ≡ a) ⊎ (v ≡ b) → ((if t then b else a) ≡ v) ⊎ ((if t then a else b) ≡ v)
    by true (inl e) = inr (sym e)
    by true (inr e) = inl (sym e)
    by false (inl e) = inl (sym e)
    by false (inr e) = inr (sym e)

pub begins-read : (ps : List Coordinates) (n i : ℕ) (r q : Coordinates) (t : Bool) → n < length ps → IsAtVertex ps n i → r ≡ later_of (point_of ps i) (point_of ps (i + 1)) → q ≡ get_or ps n q →
    t ≡ (int_eq r.x q.x && int_eq r.y q.y) → t ≡ false → BeginsAt ps n i
begins-read ps n i r q t h there e f g k = by (first-or_last (point_of ps i) (point_of ps (i + 1)) (point_of ps n) (is-end ps n i there))
  where
    by : (earlier_of (point_of ps i) (point_of ps (i + 1)) ≡ point_of ps n) ⊎ (later_of (point_of ps i) (point_of ps (i + 1)) ≡ point_of ps n) → BeginsAt ps n i
    by (inl l) = ap sheared l
    by (inr l) = absurd (both_ways t k (g ∙ same-self r q (e ∙ l ∙ read-is ps n q h f)))

-- ---- the edges at a vertex
pub record IsTo (ps : List Coordinates) (n : ℕ) (edge : ℕ) : Type 0 where
  pub in_range : edge + 1 < length ps
  pub leads : LeadsTo ps n edge
  pub alone : (i : ℕ) → i + 1 < length ps → LeadsTo ps n i → i ≡ edge

pub known-two : (ps : List Coordinates) (n a b : ℕ) → (a + 1 < length ps) × LeadsTo ps n a × ((i : ℕ) → i + 1 < length ps → LeadsTo ps n i → i ≡ a) → (b ≡ n) × (n + 1 < length ps) →
    AreAtVertex ps n (a ∷ b ∷ [])
known-two ps n a b to from =
    record {
      are = are;
      all = all;
    }
  where
    are : (i : ℕ) → Among i (a ∷ b ∷ []) → (i + 1 < length ps) × IsAtVertex ps n i
    are i (inl e) = let P : ℕ → Type 0 = λ k. (k + 1 < length ps) × IsAtVertex ps n k in subst P (sym e) (to.0, inr to.1)
    are i (inr (inl e)) = let P : ℕ → Type 0 = λ k. (k + 1 < length ps) × IsAtVertex ps n k in subst P (sym (e ∙ from.0)) (from.1, inl refl)
    are i (inr (inr h)) = absurd h

    all : (i : ℕ) → i + 1 < length ps → IsAtVertex ps n i → Among i (a ∷ b ∷ [])
    all i h (inl e) = inr (inl (e ∙ sym from.0))
    all i h (inr l) = inl (to.2 i h l)

pub known-to : (ps : List Coordinates) (n a : ℕ) → (a + 1 < length ps) × LeadsTo ps n a × ((i : ℕ) → i + 1 < length ps → LeadsTo ps n i → i ≡ a) → ¬ (n + 1 < length ps) → AreAtVertex ps n (a ∷ [])
known-to ps n a to none = record { are = are; all = all }
  where
    are : (i : ℕ) → Among i (a ∷ []) → (i + 1 < length ps) × IsAtVertex ps n i
    are i (inl e) = let P : ℕ → Type 0 = λ k. (k + 1 < length ps) × IsAtVertex ps n k in subst P (sym e) (to.0, inr to.1)
    are i (inr h) = absurd h

    all : (i : ℕ) → i + 1 < length ps → IsAtVertex ps n i → Among i (a ∷ [])
    all i h (inl e) = let P : ℕ → Type 0 = λ k. k + 1 < length ps in absurd (none (subst P e h))
    all i h (inr l) = inl (to.2 i h l)

pub known-from : (ps : List Coordinates) (n b : ℕ) → ((i : ℕ) → i + 1 < length ps → ¬ (LeadsTo ps n i)) → (b ≡ n) × (n + 1 < length ps) → AreAtVertex ps n (b ∷ [])
known-from ps n b none from = record { are = are; all = all }
  where
    are : (i : ℕ) → Among i (b ∷ []) → (i + 1 < length ps) × IsAtVertex ps n i
    are i (inl e) = let P : ℕ → Type 0 = λ k. (k + 1 < length ps) × IsAtVertex ps n k in subst P (sym (e ∙ from.0)) (from.1, inl refl)
    are i (inr h) = absurd h

    all : (i : ℕ) → i + 1 < length ps → IsAtVertex ps n i → Among i (b ∷ [])
    all i h (inl e) = inl (e ∙ sym from.0)
    all i h (inr l) = absurd (none i h l)

-- ---- the edge that leads to a vertex
pub to-before : (ps : List Coordinates) (n e : ℕ) → 0 < n → n < length ps → e + 1 ≡ n →
    (e + 1 < length ps) × LeadsTo ps n e × ((i : ℕ) → i + 1 < length ps → LeadsTo ps n i → i ≡ e)
to-before ps n e p h k = (omega (arith, h, k), inl k, alone)
  where
    alone : (i : ℕ) → i + 1 < length ps → LeadsTo ps n i → i ≡ e
    alone i l (inl j) = omega (arith, j, k)
    alone i l (inr j) = absurd (omega (arith, j.0, p))

pub to-last : (ps : List Coordinates) (n e : ℕ) → n ≡ 0 → IsClosedBy ps e →
    (e + 1 < length ps) × LeadsTo ps n e × ((i : ℕ) → i + 1 < length ps → LeadsTo ps n i → i ≡ e)
to-last ps n e z closed = (omega (arith, closed.0), inr (z, closed), alone)
  where
    alone : (i : ℕ) → i + 1 < length ps → LeadsTo ps n i → i ≡ e
    alone i l (inl j) = absurd (omega (arith, j, z))
    alone i l (inr j) = omega (arith, j.1.0, closed.0)

pub to-none : (ps : List Coordinates) (n e : ℕ) → n ≡ 0 → e + 2 ≡ length ps → ¬ (IsClosedBy ps e) → (i : ℕ) → i + 1 < length ps → ¬ (LeadsTo ps n i)
to-none ps n e z last open' i l (inl j) = absurd (omega (arith, j, z))
to-none ps n e z last open' i l (inr j) = let P : ℕ → Type 0 = λ k. IsClosedBy ps k in open' (subst P (omega (arith, j.1.0, last)) j.1)

pub to-few : (ps : List Coordinates) (n : ℕ) → length ps < 2 → (i : ℕ) → i + 1 < length ps → ¬ (LeadsTo ps n i)
to-few ps n h i l k = omega (arith, h, l)

-- ---- what there is at a vertex
along-one : (ps : List Coordinates) (n a i : ℕ) (P : ℕ → Type 0) → P a → Among i (a ∷ []) → P i
along-one ps n a i P p (inl e) = subst P (sym e) p
along-one ps n a i P p (inr h) = absurd h

pub spot-ends : (ps : List Coordinates) (n a : ℕ) → AreAtVertex ps n (a ∷ []) → EndsAt ps n a → IsSpot ps n (Ends a)
spot-ends ps n a known ends =
    record {
      edges = a ∷ [];
      known = known;
      ending = λ i h. (h, along-one ps n a i (EndsAt ps n) ends h);
      beginning = λ i h. absurd h;
      either = λ i h. inl h;
      fan = tt;
    }

pub spot-begins : (ps : List Coordinates) (n a : ℕ) → AreAtVertex ps n (a ∷ []) → BeginsAt ps n a → IsSpot ps n (Begins a)
spot-begins ps n a known begins =
    record {
      edges = a ∷ [];
      known = known;
      ending = λ i h. absurd h;
      beginning = λ i h. (h, along-one ps n a i (BeginsAt ps n) begins h);
      either = λ i h. inr h;
      fan = tt;
    }

along-two : (a b i : ℕ) (P : ℕ → Type 0) → P a → P b → Among i (a ∷ b ∷ []) → P i
along-two a b i P p q (inl e) = subst P (sym e) p
along-two a b i P p q (inr (inl e)) = subst P (sym e) q
along-two a b i P p q (inr (inr h)) = absurd h

pub spot-closes : (ps : List Coordinates) (n a b : ℕ) → AreAtVertex ps n (a ∷ b ∷ []) → EndsAt ps n a → EndsAt ps n b → IsSpot ps n (Closes a b)
spot-closes ps n a b known ends also =
    record {
      edges = a ∷ b ∷ [];
      known = known;
      ending = λ i h. (h, along-two a b i (EndsAt ps n) ends also h);
      beginning = λ i h. absurd h;
      either = λ i h. inl h;
      fan = tt;
    }

pub spot-opens : (ps : List Coordinates) (n a b : ℕ) → AreAtVertex ps n (a ∷ b ∷ []) → BeginsAt ps n a → BeginsAt ps n b → IsLeftOf ps a b → IsSpot ps n (Opens a b)
spot-opens ps n a b known begins also left =
    record {
      edges = a ∷ b ∷ [];
      known = known;
      ending = λ i h. absurd h;
      beginning = λ i h. (h, along-two a b i (BeginsAt ps n) begins also h);
      either = λ i h. inr h;
      fan = (left, tt);
    }

-- the same two edges the other way round
turned : (a b i : ℕ) → Among i (b ∷ a ∷ []) → Among i (a ∷ b ∷ [])
turned a b i (inl e) = inr (inl e)
turned a b i (inr (inl e)) = inl e
turned a b i (inr (inr h)) = absurd h

pub known-turned : (ps : List Coordinates) (n a b : ℕ) → AreAtVertex ps n (a ∷ b ∷ []) → AreAtVertex ps n (b ∷ a ∷ [])
known-turned ps n a b known = record { are = λ i h. known.are i (turned a b i h); all = λ i r h. turned b a i (known.all i r h) }

pub spot-passes : (ps : List Coordinates) (n a b : ℕ) → AreAtVertex ps n (a ∷ b ∷ []) → EndsAt ps n a → BeginsAt ps n b → IsSpot ps n (Passes a b)
spot-passes ps n a b known ends begins =
    record {
      edges = a ∷ b ∷ [];
      known = known;
      ending = λ i h. (along-one ps n a i (λ k. Among k (a ∷ b ∷ [])) (inl refl) h, along-one ps n a i (EndsAt ps n) ends h);
      beginning = λ i h. (along-one ps n b i (λ k. Among k (a ∷ b ∷ [])) (inr (inl refl)) h, along-one ps n b i (BeginsAt ps n) begins h);
      either = parts;
      fan = tt;
    }
  where
    parts : (i : ℕ) → Among i (a ∷ b ∷ []) → Among i (a ∷ []) ⊎ Among i (b ∷ [])
    parts i (inl e) = inl (inl e)
    parts i (inr (inl e)) = inr (inl e)
    parts i (inr (inr h)) = absurd h

-- ---- the edges that end
pub same-one : (xs : List ℕ) (a : ℕ) → xs ≡ a ∷ [] → HasSame xs (a ∷ [])
same-one xs a e = let P : List ℕ → Type 0 = λ ys. HasSame ys (a ∷ []) in subst P (sym e) (λ i h. h, λ i h. h)

pub same-two : (xs : List ℕ) (a b : ℕ) → xs ≡ a ∷ b ∷ [] → HasSame xs (a ∷ b ∷ [])
same-two xs a b e = let P : List ℕ → Type 0 = λ ys. HasSame ys (a ∷ b ∷ []) in subst P (sym e) (λ i h. h, λ i h. h)

pub same-turned : (xs : List ℕ) (a b : ℕ) → xs ≡ b ∷ a ∷ [] → HasSame xs (a ∷ b ∷ [])
same-turned xs a b e = let P : List ℕ → Type 0 = λ ys. HasSame ys (a ∷ b ∷ []) in subst P (sym e) (turned a b, turned b a)

pub same-none : (xs : List ℕ) → length xs ≡ 0 → HasSame xs []
same-none [] e = (λ i h. h, λ i h. h)
same-none (x ∷ xs) e = absurd (omega (arith, e))

-- ---- lists of one and of two numbers, as they are read
pub one-listed : (xs : List ℕ) (a : ℕ) → length xs ≡ 1 → get_or xs 0 0 ≡ a → xs ≡ a ∷ []
one-listed [] a h e = absurd (omega (arith, h))
one-listed (x ∷ []) a h e = ap (λ k. k ∷ []) e
one-listed (x ∷ y ∷ ys) a h e = absurd (omega (arith, h))

pub two-listed : (xs : List ℕ) (a b : ℕ) → length xs ≡ 2 → get_or xs 0 0 ≡ a → get_or xs 1 0 ≡ b → xs ≡ a ∷ b ∷ []
two-listed [] a b h e f = absurd (omega (arith, h))
two-listed (x ∷ []) a b h e f = absurd (omega (arith, h))
two-listed (x ∷ y ∷ []) a b h e f = ap (λ i. i ∷ y ∷ []) e ∙ ap (λ i. a ∷ i ∷ []) f
two-listed (x ∷ y ∷ z ∷ zs) a b h e f = absurd (omega (arith, h))

-- ---- by what the spot is
pub same-at : (xs : List ℕ) (spot other : Spot) → spot ≡ other → HasSame xs (ending_of other) → HasSame xs (ending_of spot)
same-at xs spot other e h = let P : Spot → Type 0 = λ s. HasSame xs (ending_of s) in subst P (sym e) h

pub none-from_empty : (xs : List ℕ) (t : Bool) → t ≡ (length xs == 0) → t ≡ true → HasSame xs []
none-from_empty xs t e h = same-none xs (eqb-true (length xs) 0 (sym e ∙ h))
