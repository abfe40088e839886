-- The next window of a column: its vertices aren't below its lowest point, and those that are left are.
use Rattle.std.proofs.Common.{◌≡◌, refl, ap, sym, ◌∙◌, subst, ℕ, suc, ◌+◌, ◌-◌, arith, ℤ, pos, ◌*ℤ◌, ◌≤ℤ◌, ◌<ℤ◌, Bool, true, false, cond, ◌&&◌, ◌||◌, List, [], ◌∷◌, length, take, drop, ◌⊎◌, inl, inr}
use Rattle.std.specs.Prelude.{int_lt, slice_index_or}
use Rattle.std.specs.List.{AllByRecursion, list_any, prefix_len}
use Rattle.std.specs.Ordering.{int_eq}
use Rattle.std.proofs.lemmas.Bool.{false≢true}
use Rattle.std.proofs.lemmas.Int.{ints}
use Rattle.std.proofs.lemmas.List.{drop_all, take_all}
use Rattle.sf_grid.specs.Fraction.{Fraction, IsFraction, fraction_lt}
use Rattle.sf_grid.specs.Plane.{grid_point, x_of, y_of}
use Rattle.sf_grid.proofs.CallerLemmas.{Same, eq_from_mul, eq_from_test}
use Rattle.sf_strips.specs.declared.vertex.Role.{Role}
use Rattle.sf_strips.specs.declared.vertex.Role.TheVariants.{Begin, Bottom, Dot, End, Top}
use Rattle.sf_strips.specs.declared.vertex.Vertex.{Vertex}
use Rattle.sf_strips.specs.Vertices.{enters, in_column, leaves}
use Rattle.sf_slabs.specs.Sweeps.{InOrderFrom}
use Rattle.sf_sweep.specs.NextWindow.{is_top, window_length}
pub use Rattle.sf_sweep.specs.Within.{FallFrom}
use Rattle.sf_sweep.proofs.JoinLaws.{IsApartFrom}
use Rattle.sf_sweep.proofs.UprightLaws.{HasNoTop}

-- ---- the vertices of a column fall
next-falls : (a b c d : ℤ) → a ≡ b → (int_lt a b || (int_eq a b && int_lt d c)) ≡ false → c ≤ℤ d
next-falls a b c d e h = grind (arith, ints)

one-column : (x : Fraction) (u v : Vertex) → IsFraction x → in_column x u ≡ true → in_column x v ≡ true → v.at.x ≡ u.at.x
one-column x u v i h k =
    eq_from_mul v.at.x u.at.x x.den i.positive (same_times (v.at.x *ℤ pos x.den) (u.at.x *ℤ pos x.den) x.num (eq_from_test _ _ k) (eq_from_test _ _ h))
  where
    same_times : (a b n : ℤ) → a ≡ n *ℤ pos 1 → b ≡ n *ℤ pos 1 → a ≡ b
    same_times a b n e f = e ∙ sym f

pub falls-from : (x : Fraction) (u : Vertex) (vs : List Vertex) → IsFraction x → in_column x u ≡ true → AllByRecursion (λ v. in_column x v ≡ true) vs → InOrderFrom u vs → FallFrom u.at.y vs
falls-from x u [] i h k o = tt
falls-from x u (v ∷ vs) i h k o = (next-falls v.at.x u.at.x v.at.y u.at.y (one-column x u v i h k.0) o.0, falls-from x v vs i k.0 k.1 o.1)

-- ---- those at one height, and those below it
equal-of : (a b : ℤ) → int_eq a b ≡ true → a ≡ b
equal-of a b h = eq_from_test a b h

less-of : (a b : ℤ) → int_eq a b ≡ false → a ≤ℤ b → a <ℤ b
less-of a b h l = grind (arith, ints)

one_more : (n : ℕ) → suc n ≡ 1 + n
one_more n = omega arith

level-first : (y : ℤ) (vs : List Vertex) → AllByRecursion (λ u. u.at.y ≡ y) (take (prefix_len (λ u. int_eq u.at.y y) vs) vs)
level-first y [] = tt
level-first y (v ∷ vs) = by_test (int_eq v.at.y y) refl (level-first y vs)
  where
    n : ℕ
    n = prefix_len (λ u. int_eq u.at.y y) vs

    by_test : (t : Bool) → int_eq v.at.y y ≡ t → AllByRecursion (λ u. u.at.y ≡ y) (take n vs) → AllByRecursion (λ u. u.at.y ≡ y) (take (cond t (1 + n) 0) (v ∷ vs))
    by_test true e h = subst (λ m. AllByRecursion (λ u. u.at.y ≡ y) (take m (v ∷ vs))) (one_more n) (equal-of v.at.y y e, h)
    by_test false e h = tt

lower-all : (y z : ℤ) (vs : List Vertex) → z <ℤ y → FallFrom z vs → AllByRecursion (λ u. u.at.y <ℤ y) vs
lower-all y z [] l h = tt
lower-all y z (v ∷ vs) l h = let k : v.at.y <ℤ y = further v.at.y z y h.0 l in (k, lower-all y v.at.y vs k h.1)
  where
    further : (a b c : ℤ) → a ≤ℤ b → b <ℤ c → a <ℤ c
    further a b c h l = omega (arith, ints)

level-later : (y z : ℤ) (vs : List Vertex) → z ≡ y → FallFrom z vs → AllByRecursion (λ u. u.at.y <ℤ y) (drop (prefix_len (λ u. int_eq u.at.y y) vs) vs)
level-later y z [] e h = tt
level-later y z (v ∷ vs) e h = by_test (int_eq v.at.y y) refl (λ f. level-later y v.at.y vs f h.1)
  where
    n : ℕ
    n = prefix_len (λ u. int_eq u.at.y y) vs

    by_test : (t : Bool) → int_eq v.at.y y ≡ t → (v.at.y ≡ y → AllByRecursion (λ u. u.at.y <ℤ y) (drop n vs)) → AllByRecursion (λ u. u.at.y <ℤ y) (drop (cond t (1 + n) 0) (v ∷ vs))
    by_test true f further = subst (λ m. AllByRecursion (λ u. u.at.y <ℤ y) (drop m (v ∷ vs))) (one_more n) (further (equal-of v.at.y y f))
    by_test false f further =
        let k : v.at.y <ℤ y = less-of v.at.y y f (subst (λ w. v.at.y ≤ℤ w) e h.0) in (k, lower-all y v.at.y vs k h.1)

-- ---- what a window has
-- its vertices are at its lowest point or above, and those that are left below it; where upright edges begin there, none is left
pub record IsVertexWindow (y : ℤ) (us ws : List Vertex) : Type 0 where
  pub above : AllByRecursion (λ u. y ≤ℤ u.at.y) us
  pub below : AllByRecursion (λ v. v.at.y <ℤ y) ws
  pub upright : HasNoTop us ⊎ (ws ≡ [])

above-each : (y : ℤ) (us : List Vertex) → AllByRecursion (λ u. u.at.y ≡ y) us → AllByRecursion (λ u. y ≤ℤ u.at.y) us
above-each y [] h = tt
above-each y (u ∷ us) h = (at_least u.at.y y h.0, above-each y us h.1)
  where
    at_least : (a b : ℤ) → a ≡ b → b ≤ℤ a
    at_least a b e = omega (arith, ints)

no-top : (r : Role) → is_top r ≡ false → enters r ≡ true → leaves r ≡ true
no-top (Begin e) h k = refl
no-top End h k = absurd (false≢true k)
no-top Top h k = absurd (false≢true (sym h))
no-top Bottom h k = refl
no-top Dot h k = refl

none-top : (us : List Vertex) → list_any (λ v. is_top v.role) us ≡ false → HasNoTop us
none-top [] h = tt
none-top (u ∷ us) h = by_test (is_top u.role) refl h (λ k. none-top us k)
  where
    by_test : (t : Bool) → is_top u.role ≡ t → (t || list_any (λ v. is_top v.role) us) ≡ false → (list_any (λ v. is_top v.role) us ≡ false → HasNoTop us) → HasNoTop (u ∷ us)
    by_test true e k further = absurd (false≢true (sym k))
    by_test false e k further = (no-top u.role e, further k)

-- the last of vertices that fall isn't above any
last-lowest : (v : Vertex) (vs : List Vertex) → FallFrom v.at.y vs → AllByRecursion (λ u. (slice_index_or (v ∷ vs) (length (v ∷ vs) - 1) v).at.y ≤ℤ u.at.y) (v ∷ vs)
last-lowest v vs h = subst (λ n. AllByRecursion (λ u. (slice_index_or (v ∷ vs) n v).at.y ≤ℤ u.at.y) (v ∷ vs)) (one_less (length vs)) (lowest v vs v h)
  where
    one_less : (n : ℕ) → n ≡ suc n - 1
    one_less n = omega arith

    further : (a b c : ℤ) → a ≤ℤ b → b ≤ℤ c → a ≤ℤ c
    further a b c h l = omega (arith, ints)

    itself : (a : ℤ) → a ≤ℤ a
    itself a = omega (arith, ints)

    first-of : (y : ℤ) (u : Vertex) (us : List Vertex) → AllByRecursion (λ w. y ≤ℤ w.at.y) (u ∷ us) → y ≤ℤ u.at.y
    first-of y u us h = h.0

    lowest : (v : Vertex) (vs : List Vertex) (d : Vertex) → FallFrom v.at.y vs → AllByRecursion (λ u. (slice_index_or (v ∷ vs) (length vs) d).at.y ≤ℤ u.at.y) (v ∷ vs)
    lowest v [] d h = (itself v.at.y, tt)
    lowest v (w ∷ vs) d h =
        let rest = lowest w vs d h.1 in
        (further (slice_index_or (w ∷ vs) (length vs) d).at.y w.at.y v.at.y (first-of (slice_index_or (w ∷ vs) (length vs) d).at.y w vs rest) h.0, rest)

-- the last one at a height
level-last : (y : ℤ) (v : Vertex) (vs : List Vertex) (d : Vertex) → v.at.y ≡ y → (slice_index_or (v ∷ vs) (prefix_len (λ u. int_eq u.at.y y) vs) d).at.y ≡ y
level-last y v [] d e = e
level-last y v (w ∷ vs) d e = by_test (int_eq w.at.y y) refl (λ f. level-last y w vs d f)
  where
    n : ℕ
    n = prefix_len (λ u. int_eq u.at.y y) vs

    by_test : (t : Bool) → int_eq w.at.y y ≡ t → (w.at.y ≡ y → (slice_index_or (w ∷ vs) n d).at.y ≡ y) → (slice_index_or (v ∷ w ∷ vs) (cond t (1 + n) 0) d).at.y ≡ y
    by_test true f further = subst (λ m. (slice_index_or (v ∷ w ∷ vs) m d).at.y ≡ y) (one_more n) (further (equal-of w.at.y y f))
    by_test false f further = e

pub window-of_vertices : (v : Vertex) (vs : List Vertex) → FallFrom v.at.y vs →
    IsVertexWindow (slice_index_or (v ∷ vs) (window_length (v ∷ vs) - 1) v).at.y (take (window_length (v ∷ vs)) (v ∷ vs)) (drop (window_length (v ∷ vs)) (v ∷ vs))
window-of_vertices v vs h = by_top (list_any (λ u. is_top u.role) (take (1 + n) (v ∷ vs))) refl
  where
    n : ℕ
    n = prefix_len (λ u. int_eq u.at.y v.at.y) vs

    less : (n : ℕ) → n ≡ (1 + n) - 1
    less n = omega arith

    group : list_any (λ u. is_top u.role) (take (1 + n) (v ∷ vs)) ≡ false → IsVertexWindow (slice_index_or (v ∷ vs) ((1 + n) - 1) v).at.y (take (1 + n) (v ∷ vs)) (drop (1 + n) (v ∷ vs))
    group e =
        let last : (slice_index_or (v ∷ vs) ((1 + n) - 1) v).at.y ≡ v.at.y = subst (λ m. (slice_index_or (v ∷ vs) m v).at.y ≡ v.at.y) (less n) (level-last v.at.y v vs v refl) in
        subst (λ y. IsVertexWindow y (take (1 + n) (v ∷ vs)) (drop (1 + n) (v ∷ vs))) (sym last)
        (record {
          above = above-each v.at.y (take (1 + n) (v ∷ vs)) (subst (λ m. AllByRecursion (λ u. u.at.y ≡ v.at.y) (take m (v ∷ vs))) (one_more n) (refl, level-first v.at.y vs));
          below = subst (λ m. AllByRecursion (λ u. u.at.y <ℤ v.at.y) (drop m (v ∷ vs))) (one_more n) (level-later v.at.y v.at.y vs refl h);
          upright = inl (none-top (take (1 + n) (v ∷ vs)) e);
        })

    all : IsVertexWindow (slice_index_or (v ∷ vs) (length (v ∷ vs) - 1) v).at.y (take (length (v ∷ vs)) (v ∷ vs)) (drop (length (v ∷ vs)) (v ∷ vs))
    all =
        let y : ℤ = (slice_index_or (v ∷ vs) (length (v ∷ vs) - 1) v).at.y in
        subst (λ us. IsVertexWindow y us (drop (length (v ∷ vs)) (v ∷ vs))) (sym (take_all (length (v ∷ vs)) (v ∷ vs) (omega arith)))
        (subst (IsVertexWindow y (v ∷ vs)) (sym (drop_all (length (v ∷ vs)) (v ∷ vs) (omega arith)))
        (record { above = last-lowest v vs h; below = tt; upright = inr refl }))

    by_top : (t : Bool) → list_any (λ u. is_top u.role) (take (1 + n) (v ∷ vs)) ≡ t →
        IsVertexWindow (slice_index_or (v ∷ vs) ((cond t (length (v ∷ vs)) (1 + n)) - 1) v).at.y (take (cond t (length (v ∷ vs)) (1 + n)) (v ∷ vs)) (drop (cond t (length (v ∷ vs)) (1 + n)) (v ∷ vs))
    by_top true e = all
    by_top false e = group e

-- ---- in points
lower-test : (a b : ℤ) → a <ℤ b → int_lt (a *ℤ pos 1) (b *ℤ pos 1) ≡ true
lower-test a b h = grind (arith, ints)

not-lower_test : (a b : ℤ) → b ≤ℤ a → int_lt (a *ℤ pos 1) (b *ℤ pos 1) ≡ false
not-lower_test a b h = grind (arith, ints)

pub points-below : (x : Fraction) (b : Vertex) (vs : List Vertex) → IsFraction x → in_column x b ≡ true → AllByRecursion (λ v. in_column x v ≡ true) vs → AllByRecursion (λ v. v.at.y <ℤ b.at.y) vs →
    AllByRecursion (λ v. Same (x_of (grid_point b.at)) (x_of (grid_point v.at)) × (fraction_lt (y_of (grid_point v.at)) (y_of (grid_point b.at)) ≡ true)) vs
points-below x b [] i c h k = tt
points-below x b (v ∷ vs) i c h k =
    ((ap (λ z. z *ℤ pos 1) (one-column x v b i h.0 c), lower-test v.at.y b.at.y k.0), points-below x b vs i c h.1 k.1)

pub points-above : (x : Fraction) (b : Vertex) (us : List Vertex) → IsFraction x → in_column x b ≡ true → AllByRecursion (λ v. in_column x v ≡ true) us → AllByRecursion (λ u. b.at.y ≤ℤ u.at.y) us →
    AllByRecursion (λ u. Same (x_of (grid_point b.at)) (x_of (grid_point u.at)) × (fraction_lt (y_of (grid_point u.at)) (y_of (grid_point b.at)) ≡ false)) us
points-above x b [] i c h k = tt
points-above x b (u ∷ us) i c h k =
    ((ap (λ z. z *ℤ pos 1) (one-column x u b i h.0 c), not-lower_test u.at.y b.at.y k.0), points-above x b us i c h.1 k.1)

-- none that is left is at the height of one of the window
pub heights-apart : (y : ℤ) (us ws : List Vertex) → AllByRecursion (λ u. y ≤ℤ u.at.y) us → AllByRecursion (λ v. v.at.y <ℤ y) ws → IsApartFrom ws us
heights-apart y us [] h k = tt
heights-apart y us (w ∷ ws) h k = each us h
  where
    differ : (a b c : ℤ) → b ≤ℤ c → a <ℤ b → int_eq a c ≡ false
    differ a b c h l = grind (arith, ints)

    each : (us : List Vertex) → AllByRecursion (λ u. y ≤ℤ u.at.y) us → AllByRecursion (λ u. int_eq w.at.y u.at.y ≡ false) us
    each [] h = tt
    each (u ∷ us) h = (differ w.at.y y u.at.y h.0 k.0, each us h.1)
