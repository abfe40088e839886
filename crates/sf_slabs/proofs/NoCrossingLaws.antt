-- Up to the next candidate no two pieces cross.
use Rattle.std.proofs.Common.{◌≡◌, ◌≢◌, refl, ap, sym, ◌∙◌, subst, ℕ, ℤ, pos, ◌-ℤ◌, ◌*ℤ◌, ◌≤ℤ◌, arith, true, List, [], ◌∷◌, Option, Some, None, inl, inr}
use Rattle.std.specs.List.{AllByRecursion}
use Rattle.std.specs.declared.cmp.Ordering.TheVariants.{Equal, Less}
use Rattle.std.proofs.lemmas.Bool.{and_from, and_parts, cases_Bool}
use Rattle.std.proofs.lemmas.Int.{ints}
use Rattle.sf_grid.specs.Fraction.{Fraction, IsFraction, fraction_le, fraction_lt, whole}
use Rattle.sf_grid.specs.Plane.{Coordinates, Point, point_at, x_of}
use Rattle.sf_grid.specs.Edge.{Edge as Line, cross_of_directions, crossing, edge_between, height_at, height_cmp, left_end, reaches, right_end}
use Rattle.sf_grid.specs.Laws.{HasHeight}
use Rattle.sf_grid.specs.Sharing.{IsOnBoth}
use Rattle.sf_grid.proofs.CallerLemmas.{dif, eq_from_test, height-IsFraction, lies, mul, num, reach, ring, shared_once, test_from_le, var}
use Rattle.sf_strips.specs.declared.piece.Piece.{Piece}
use Rattle.sf_strips.specs.declared.piece.Piece.TheVariants.{Dot, Edge}
use Rattle.sf_strips.specs.declared.active.Active.{Active}
use Rattle.sf_strips.specs.declared.contact.Contact.{Contact}
use Rattle.sf_strips.specs.Fronts.{IsEntry, IsEntryIn, IsRun, line_of}
use Rattle.sf_cells.specs.Pieces.{ends_of}
use Rattle.sf_cells.specs.Samples.{crossing_place, crossings_of}
use Rattle.sf_strips.specs.Vertices.{piece_at}
use Rattle.sf_slabs.proofs.AboveLaws.{passes}
use Rattle.sf_slabs.proofs.CrossLaws.{IsCrossing, both_at-level, is-crossing, level_at-point, place-IsFraction, run-on_both, on_both-run}
use Rattle.sf_slabs.proofs.EndLaws.{Each-left, Later, SomeActive, le_of_not_lt, passes-places, some_entry, whole-number, passes_at-piece, each_piece-found}
use Rattle.sf_slabs.proofs.FollowLaws.{EachPair, Ordered, Runs, le_le-places, lt_le-places, not_le-lt, spans-line_of}
use Rattle.sf_slabs.proofs.FrontLaws.{IsClear, front_ordered, front_runs}
use Rattle.sf_slabs.proofs.NumberLaws.{Same-trans, rising_order}
use Rattle.sf_slabs.proofs.OnLaws.{IsPoint-point_at, x_of-point_at}
use Rattle.sf_slabs.proofs.Shapes.{IsFront}
use Rattle.sf_slabs.proofs.SlabLaws.{IsSlab, Spans, StaysLevel}

crossing-flip : (e f : Line) (c : Point) → IsCrossing e f c → IsCrossing f e c
crossing-flip e f c h =
    record {
      apart = λ z. h.apart (zero_of _ _ (negated e f) z);
      point = h.point;
      both = (h.both.1, h.both.0);
    }
  where
    zero_of : (a b : ℤ) → a ≡ pos 0 -ℤ b → b ≡ pos 0 → a ≡ pos 0
    zero_of a b e f = omega (arith, ints)

    negated : (e f : Line) → cross_of_directions e f ≡ pos 0 -ℤ cross_of_directions f e
    negated e f =
        ring ((e.b.x -ℤ e.a.x) ∷ (e.b.y -ℤ e.a.y) ∷ (f.b.x -ℤ f.a.x) ∷ (f.b.y -ℤ f.a.y) ∷ [])
        (dif (mul (var 0) (var 3)) (mul (var 1) (var 2)))
        (dif (num (pos 0)) (dif (mul (var 2) (var 1)) (mul (var 3) (var 0))))
        refl

-- an edge doesn't cross itself
crossing-self : (e : Line) (c : Point) → IsCrossing e e c → ⊥
crossing-self e c h =
    h.apart
    (ring ((e.b.x -ℤ e.a.x) ∷ (e.b.y -ℤ e.a.y) ∷ []) (dif (mul (var 0) (var 1)) (mul (var 1) (var 0))) (num (pos 0)) refl)

-- two edges in order up to y don't cross before y
ordered_apart : (x y : Fraction) (a b : Active) (e f : Line) (c : Point) → IsSlab x y → Runs x y a → Runs x y b → IsRun e a → IsRun f b → Ordered x y a b →
    IsCrossing e f c → fraction_lt x (x_of c) ≡ true → fraction_lt (x_of c) y ≡ true → ⊥
ordered_apart x y a b e f c s q r i j o h m n =
    elim o [
      | inl below ↦ differ (sym (below.inside (x_of c) (place-IsFraction c h.point) m n) ∙ level)
      | inr same ↦ two_places same
    ]
  where
    differ : Less ≢ Equal
    differ l = cc

    first : Spans x y (line_of a)
    first = spans-line_of x y a s q

    second : Spans x y (line_of b)
    second = spans-line_of x y b s r

    both : IsOnBoth (line_of a) (line_of b) c
    both = run-on_both e f a b c i j h.both

    level : height_cmp (line_of b) (line_of a) (x_of c) ≡ Equal
    level = level_at-point (line_of b) (line_of a) c (x_of c) second.slants first.slants h.point (place-IsFraction c h.point) refl (both.1, both.0)

    -- they would share a point in either column
    two_places : StaysLevel x y (line_of a) (line_of b) → ⊥
    two_places same =
        let left_height : HasHeight (line_of b) x = record { slants = second.slants; reached = second.at_left } in
        let right_height : HasHeight (line_of b) y = record { slants = second.slants; reached = second.at_right } in
        let left = both_at-level (line_of b) (line_of a) x left_height (record { slants = first.slants; reached = first.at_left }) s.left same.at_left in
        let right = both_at-level (line_of b) (line_of a) y right_height (record { slants = first.slants; reached = first.at_right }) s.right same.at_right in
        let h_left = height_at (line_of b) x in
        let h_right = height_at (line_of b) y in
        let p = point_at x h_left in
        let r = point_at y h_right in
        let one = shared_once e f p r h.apart (on_both-run e f a b p i j (left.1, left.0)) (on_both-run e f a b r i j (right.1, right.0)) in
        let left_number = place-IsFraction p (IsPoint-point_at x h_left s.left (height-IsFraction (line_of b) x left_height s.left)) in
        let right_number = place-IsFraction r (IsPoint-point_at y h_right s.right (height-IsFraction (line_of b) y right_height s.right)) in
        rising_order.apart x y
        (Same-trans x (x_of p) y left_number (sym (x_of-point_at x h_left))
        (Same-trans (x_of p) (x_of r) y right_number (eq_from_test _ _ (and_parts _ _ one).0) (x_of-point_at y h_right)))
        s.apart

-- some edge of the list has both properties
some_with : (P E : Active → Type 0) (os : List Active) → SomeActive P os → AllByRecursion E os → SomeActive (λ a. P a × E a) os
some_with P E [] h e = h
some_with P E (a ∷ os) h e = elim h [ inl here ↦ inl (here, e.0) | inr later ↦ inr (some_with P E os later e.1) ]

none_some : (P : Active → Type 0) (os : List Active) → ((a : Active) → P a → ⊥) → SomeActive P os → ⊥
none_some P [] never h = h
none_some P (a ∷ os) never h = elim h [ inl here ↦ never a here | inr later ↦ none_some P os never later ]

-- two edges of a list are one, or the one is before the other
none_together : (R : Active → Active → Type 0) (P Q : Active → Type 0) (os : List Active) → EachPair R os → SomeActive P os → SomeActive Q os →
    ((a : Active) → P a → Q a → ⊥) → ((a b : Active) → P a → Q b → R a b → ⊥) → ((a b : Active) → P a → Q b → R b a → ⊥) → ⊥
none_together R P Q [] o h k one before after = h
none_together R P Q (a ∷ os) o h k one before after =
    elim h [
      | inl here ↦ elim k [
        | inl too ↦ one a here too
        | inr later ↦ none_some (λ b. Q b × R a b) os (λ b l. before a b here l.0 l.1) (some_with Q (R a) os later o.0)
      ]
      | inr later ↦ elim k [
        | inl here ↦ none_some (λ b. P b × R a b) os (λ b l. after b a l.0 here l.1) (some_with P (R a) os later o.0)
        | inr too ↦ none_together R P Q os o.1 later too one before after
      ]
    ]

-- an edge of the front whose piece has the number i
abbrev IsNumbered : List Piece → Fraction → Fraction → ℕ → Active → Type 0
IsNumbered pieces x y i a = (a.piece ≡ i) × (IsEntry pieces a × Runs x y a)

numbered : (pieces : List Piece) (x y : Fraction) (os : List Active) (i : ℕ) → AllByRecursion (IsEntry pieces) os → AllByRecursion (Runs x y) os →
    SomeActive (λ a. a.piece ≡ i) os → SomeActive (IsNumbered pieces x y i) os
numbered pieces x y [] i e r h = h
numbered pieces x y (a ∷ os) i e r h = elim h [ inl here ↦ inl (here, (e.0, r.0)) | inr later ↦ inr (numbered pieces x y os i e.1 r.1 later) ]

run_of : (pieces : List Piece) (i : ℕ) (s t : Coordinates) (a : Active) → piece_at pieces i ≡ Some (Edge s t) → a.piece ≡ i → IsEntry pieces a → IsRun (edge_between s t) a
run_of pieces i s t a e n h =
    subst (λ (o : Option Piece). IsEntryIn o a) e (subst (λ (j : ℕ). IsEntryIn (piece_at pieces j) a) n h)

-- a piece with a point strictly between x and y goes on from x
passes_between : (x y : Fraction) (s t : Coordinates) (c : Point) → IsFraction x → IsFraction y → IsFraction (x_of c) → AllByRecursion (Later x y) (ends_of (Edge s t)) →
    reaches (edge_between s t) (x_of c) ≡ true → fraction_lt x (x_of c) ≡ true → fraction_lt (x_of c) y ≡ true → passes x (Edge s t) ≡ true
passes_between x y s t c i j k h r m n =
    passes-places x s t
    ∙ and_from _ _ begun (lt_le-places x (x_of c) (whole (right_end e).x) i k (whole-number (right_end e).x) m right)
  where
    e : Line
    e = edge_between s t

    to_whole : (a b : ℤ) → a ≤ℤ b → (a *ℤ pos 1) ≤ℤ b
    to_whole a b l = omega (arith, ints)

    from_whole : (a b : ℤ) → a ≤ℤ b → a ≤ℤ (b *ℤ pos 1)
    from_whole a b l = omega (arith, ints)

    right : fraction_le (x_of c) (whole (right_end e).x) ≡ true
    right = test_from_le _ _ (to_whole c.x ((right_end e).x *ℤ pos c.d) (reach e (x_of c) r).high)

    left : fraction_le (whole (left_end e).x) (x_of c) ≡ true
    left = test_from_le _ _ (from_whole ((left_end e).x *ℤ pos c.d) c.x (reach e (x_of c) r).low)

    begun : fraction_le (whole (left_end e).x) x ≡ true
    begun =
        elim (cases_Bool (fraction_lt x (whole (left_end e).x))) [
          | inl l ↦
              absurd (not_le-lt y (x_of c)
              (le_le-places y (whole (left_end e).x) (x_of c) (whole-number (left_end e).x) (Each-left (Later x y) s t h l) left)
              n)
          | inr f ↦ le_of_not_lt x (whole (left_end e).x) f
        ]

no_crossing : (pieces : List Piece) (x y : Fraction) (os : List Active) (cs : List Contact) → IsFront pieces x os cs → IsClear pieces x y cs →
    (i j : ℕ) (a b s t : Coordinates) (c : Point) → piece_at pieces i ≡ Some (Edge a b) → piece_at pieces j ≡ Some (Edge s t) →
    IsCrossing (edge_between a b) (edge_between s t) c → fraction_lt x (x_of c) ≡ true → fraction_lt (x_of c) y ≡ true → ⊥
no_crossing pieces x y os cs f k i j a b s t c first second h m n =
    none_together (Ordered x y) (IsNumbered pieces x y i) (IsNumbered pieces x y j) os (front_ordered pieces x y os cs f k)
    (numbered pieces x y os i f.entries runs
    (some_entry pieces (passes x) os i f.active (passes_at-piece (passes x) pieces i (Edge a b) first (going i a b first (lies e c h.both.0).x))))
    (numbered pieces x y os j f.entries runs
    (some_entry pieces (passes x) os j f.active (passes_at-piece (passes x) pieces j (Edge s t) second (going j s t second (lies g c h.both.1).x))))
    (λ u p q. crossing-self e c (subst (λ (l : Line). IsCrossing e l c) (sym (one_line (sym first ∙ ap (piece_at pieces) (sym p.0 ∙ q.0) ∙ second))) h))
    (λ u v p q o.
    ordered_apart x y u v e g c slab p.1.1 q.1.1 (run_of pieces i a b u first p.0 p.1.0) (run_of pieces j s t v second q.0 q.1.0) o h m n)
    (λ u v p q o.
    ordered_apart x y v u g e c slab q.1.1 p.1.1 (run_of pieces j s t v second q.0 q.1.0) (run_of pieces i a b u first p.0 p.1.0) o (crossing-flip e g c h) m n)
  where
    e : Line
    e = edge_between a b

    g : Line
    g = edge_between s t

    slab : IsSlab x y
    slab = record { left = f.place; right = k.place; apart = k.ahead }

    runs : AllByRecursion (Runs x y) os
    runs = front_runs pieces x y os cs f k

    one_line : Some (Edge a b) ≡ Some (Edge s t) → edge_between a b ≡ edge_between s t
    one_line l = let u : a ≡ s = cc in let v : b ≡ t = cc in ap (λ z. edge_between z b) u ∙ ap (edge_between s) v

    going : (l : ℕ) (u v : Coordinates) → piece_at pieces l ≡ Some (Edge u v) → reaches (edge_between u v) (x_of c) ≡ true → passes x (Edge u v) ≡ true
    going l u v is r =
        passes_between x y u v c f.place k.place (place-IsFraction c h.point)
        (each_piece-found (λ p. AllByRecursion (Later x y) (ends_of p)) pieces l (Edge u v) is k.ends) r m n

-- so each crossing right of x is at y or further right
pub crossings_later : (pieces : List Piece) (x y : Fraction) (os : List Active) (cs : List Contact) → IsFront pieces x os cs → IsClear pieces x y cs →
    (i j : ℕ) (p r : Piece) → piece_at pieces i ≡ Some p → piece_at pieces j ≡ Some r → AllByRecursion (Later x y) (crossings_of p r)
crossings_later pieces x y os cs f k i j (Dot a) r first second = tt
crossings_later pieces x y os cs f k i j (Edge a b) (Dot c) first second = tt
crossings_later pieces x y os cs f k i j (Edge a b) (Edge s t) first second = by_crossing (crossing (edge_between a b) (edge_between s t)) refl
  where
    by_crossing : (o : Option Point) → crossing (edge_between a b) (edge_between s t) ≡ o → AllByRecursion (Later x y) (crossing_place o)
    by_crossing None e = tt
    by_crossing (Some c) e = (
      λ m.
          elim (cases_Bool (fraction_lt (x_of c) y)) [
            | inl n ↦ absurd (no_crossing pieces x y os cs f k i j a b s t c first second (is-crossing (edge_between a b) (edge_between s t) c e) m n)
            | inr n ↦ le_of_not_lt (x_of c) y n
          ],
      tt,
    )
