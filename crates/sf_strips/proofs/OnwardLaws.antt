-- The edges that go on from a level, sorted by slope.
use Rattle.std.proofs.Common.{◌≡◌, ◌≢◌, subst, ℕ, suc, ◌+◌, ◌<◌, ℤ, pos, ◌-ℤ◌, ◌*ℤ◌, ◌≤ℤ◌, ◌<ℤ◌, Bool, true, false, arith, List, [], ◌∷◌, slice_index_or, unsigned_abs, ap, ◌∙◌, zero, cond, length, take, drop}
use Rattle.std.specs.Prelude.{int_lt}
use Rattle.std.specs.Cmp.{IsStrictWeakOrder}
use Rattle.std.specs.List.Sorted.{IsSortedBy}
use Rattle.std.specs.Ordering.{int_cmp, is_lt}
use Rattle.std.specs.declared.cmp.Ordering.TheVariants.{Greater}
use Rattle.std.proofs.lemmas.Int.{ints}
use Rattle.sf_grid.specs.Fraction.{Fraction, IsFraction}
use Rattle.sf_grid.proofs.CallerLemmas.{le, le-trans}
use Rattle.sf_strips.specs.declared.active.Active.{Active}
use Rattle.sf_strips.specs.Levels.{SlopesFall, SlopesFallFrom}
use Rattle.sf_strips.specs.declared.vertex.Vertex.{Vertex}
use Rattle.sf_strips.specs.Slanted.{slope_order}
use Rattle.sf_strips.specs.Vertices.{begins, pieces_with}

-- a is steeper than b
abbrev pub steeper : Active → Active → Bool
steeper a b = is_lt (slope_order b.edge.left b.edge.right a.edge.left a.edge.right)

-- ---- slopes are numbers, so they are ordered
-- how far an edge runs, and how far it rises
abbrev run_of : Active → ℤ
run_of a = a.edge.right.x -ℤ a.edge.left.x

abbrev rise_of : Active → ℤ
rise_of a = a.edge.right.y -ℤ a.edge.left.y

abbrev slope_of : Active → Fraction
slope_of a = record { num = rise_of a; den = unsigned_abs (run_of a) }

runs_right : (a : Active) → pos 0 <ℤ run_of a
runs_right a = apart a.edge.left.x a.edge.right.x a.edge.rightward
  where
    apart : (u v : ℤ) → int_lt u v ≡ true → pos 0 <ℤ (v -ℤ u)
    apart u v h = grind (arith, ints)

size : (n : ℤ) → pos 0 <ℤ n → pos (unsigned_abs n) ≡ n
size n h = omega (arith, ints)

size_positive : (n : ℤ) → pos 0 <ℤ n → 0 < unsigned_abs n
size_positive n h = omega (arith, ints)

slope-number : (a : Active) → IsFraction (slope_of a)
slope-number a = record { positive = size_positive (run_of a) (runs_right a) }

-- a isn't steeper than b where its slope is at most b's
not_steeper : (a b : Active) → steeper a b ≡ false → le (slope_of a) (slope_of b)
not_steeper a b h =
    at_most (rise_of a) (rise_of b) (run_of a) (run_of b) (pos (unsigned_abs (run_of a))) (pos (unsigned_abs (run_of b)))
    (size (run_of a) (runs_right a)) (size (run_of b) (runs_right b)) h
  where
    plain : (m n : ℤ) → is_lt (int_cmp m n) ≡ false → n ≤ℤ m
    plain m n h = grind (arith, ints)

    at_most : (ra rb wa wb ua ub : ℤ) → ua ≡ wa → ub ≡ wb → is_lt (int_cmp (rb *ℤ wa) (ra *ℤ wb)) ≡ false → (ra *ℤ ub) ≤ℤ (rb *ℤ ua)
    at_most ra rb wa wb ua ub e f h = rw e (rw f (plain (rb *ℤ wa) (ra *ℤ wb) h))

not_steeper_from : (a b : Active) → le (slope_of a) (slope_of b) → steeper a b ≡ false
not_steeper_from a b h =
    at_most (rise_of a) (rise_of b) (run_of a) (run_of b) (pos (unsigned_abs (run_of a))) (pos (unsigned_abs (run_of b)))
    (size (run_of a) (runs_right a)) (size (run_of b) (runs_right b)) h
  where
    plain : (m n : ℤ) → n ≤ℤ m → is_lt (int_cmp m n) ≡ false
    plain m n h = grind (arith, ints)

    at_most : (ra rb wa wb ua ub : ℤ) → ua ≡ wa → ub ≡ wb → (ra *ℤ ub) ≤ℤ (rb *ℤ ua) → is_lt (int_cmp (rb *ℤ wa) (ra *ℤ wb)) ≡ false
    at_most ra rb wa wb ua ub e f h = plain (rb *ℤ wa) (ra *ℤ wb) (rw e at (rw f at h))

pub slopes_ranked : IsStrictWeakOrder steeper
slopes_ranked =
    record {
      one_way = λ a b. one_way (rise_of b *ℤ run_of a) (rise_of a *ℤ run_of b);
      chain = λ a b c h k. not_steeper_from a c (le-trans (slope_of a) (slope_of b) (slope_of c) (slope-number b) (not_steeper a b h) (not_steeper b c k));
    }
  where
    one_way : (m n : ℤ) → is_lt (int_cmp m n) ≡ true → is_lt (int_cmp n m) ≡ false
    one_way m n h = grind (arith, ints)

-- ---- a sorted list, from each to the next one
pub sorted-first : {X : Type 0} (lt : X → X → Bool) (x y : X) (ys : List X) → IsSortedBy lt (x ∷ y ∷ ys) → lt y x ≡ false
sorted-first lt x y ys h = h 0 x (omega arith) (omega arith)

pub sorted-rest : {X : Type 0} (lt : X → X → Bool) (x : X) (ys : List X) → IsSortedBy lt (x ∷ ys) → IsSortedBy lt ys
sorted-rest lt x ys h =
    λ k d l m. subst (λ n. lt (slice_index_or (x ∷ ys) n d) (slice_index_or ys k d) ≡ false) (later k) (h (suc k) d (omega arith) (omega arith))
  where
    later : (k : ℕ) → suc k + 1 ≡ suc (k + 1)
    later k = omega arith

not_greater : (a b : Active) → steeper b a ≡ false → slope_order b.edge.left b.edge.right a.edge.left a.edge.right ≢ Greater
not_greater a b h = reversed (rise_of b *ℤ run_of a) (rise_of a *ℤ run_of b) h
  where
    reversed : (m n : ℤ) → is_lt (int_cmp n m) ≡ false → int_cmp m n ≢ Greater
    reversed m n h g = grind (arith, ints)

fall_from : (a : Active) (bs : List Active) → IsSortedBy steeper (a ∷ bs) → SlopesFallFrom a bs
fall_from a [] h = tt
fall_from a (b ∷ bs) h = (not_greater a b (sorted-first steeper a b bs h), fall_from b bs (sorted-rest steeper a (b ∷ bs) h))

pub slopes_fall : (os : List Active) → IsSortedBy steeper os → SlopesFall os
slopes_fall [] h = tt
slopes_fall (a ∷ bs) h = fall_from a bs h

-- ---- how many edges begin
-- of a part of the vertices, and of those left
pub begun-split : (n : ℕ) (vs group later : List Vertex) → group ≡ take n vs → later ≡ drop n vs →
    length (pieces_with begins later) + length (pieces_with begins group) ≡ length (pieces_with begins vs)
begun-split n vs group later e f =
    ap (λ us. length (pieces_with begins later) + length (pieces_with begins us)) e
    ∙ ap (λ us. length (pieces_with begins us) + length (pieces_with begins (take n vs))) f
    ∙ parted n vs
  where
    by_test : (b : Bool) (p : ℕ) (first rest all : List ℕ) → length rest + length first ≡ length all →
        length rest + length (cond b (p ∷ first) first) ≡ length (cond b (p ∷ all) all)
    by_test true p first rest all h = omega arith
    by_test false p first rest all h = h

    parted : (n : ℕ) (vs : List Vertex) → length (pieces_with begins (drop n vs)) + length (pieces_with begins (take n vs)) ≡ length (pieces_with begins vs)
    parted zero vs = omega arith
    parted (suc n) [] = omega arith
    parted (suc n) (v ∷ vs) =
        by_test (begins v.role) v.piece (pieces_with begins (take n vs)) (pieces_with begins (drop n vs)) (pieces_with begins vs) (parted n vs)
