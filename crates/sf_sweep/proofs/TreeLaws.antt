-- A tree of points, one leaf of which is written: each place on the way to the root is mended in turn.
use Rattle.std.proofs.Common.{◌≡◌, ◌≢◌, refl, ap, sym, ◌∙◌, ℕ, zero, suc, ◌+◌, ◌*◌, ◌/◌, ◌≤◌, ◌<◌, arith, List, [], ◌∷◌, Option, None, length, ◌⊎◌, inl, inr}
use Rattle.std.specs.Prelude.{slice_index_or, slice_set}
use Rattle.std.proofs.lemmas.Bool.{cases_eq}
use Rattle.std.proofs.lemmas.List.{get_or-set_same, get_or-set_other}
use Rattle.sf_grid.specs.Plane.{Point}
use Rattle.sf_sweep.specs.Nearest.{IsTree, earlier, place_at}

-- each place has the earlier of the two below it, but for one place
abbrev pub IsTreeBut : ℕ → ℕ → List (Option Point) → Type 0
IsTreeBut n hole tree = (k : ℕ) → 1 ≤ k → k < n → k ≢ hole → place_at tree k ≡ earlier (place_at tree (2 * k)) (place_at tree (2 * k + 1))

-- a place that is written, and another one
at-place : (tree : List (Option Point)) (i : ℕ) (p : Option Point) → i < length tree → place_at (slice_set tree i p) i ≡ p
at-place tree i p h = get_or-set_same tree i p None h

elsewhere : (tree : List (Option Point)) (i k : ℕ) (p : Option Point) → k ≢ i → place_at (slice_set tree i p) k ≡ place_at tree k
elsewhere tree i k p h = get_or-set_other tree i k p None h

-- a place stays as it was, where neither it nor those below it are written
kept : (tree : List (Option Point)) (i k : ℕ) (p : Option Point) → k ≢ i → 2 * k ≢ i → 2 * k + 1 ≢ i → place_at tree k ≡ earlier (place_at tree (2 * k)) (place_at tree (2 * k + 1)) →
    place_at (slice_set tree i p) k ≡ earlier (place_at (slice_set tree i p) (2 * k)) (place_at (slice_set tree i p) (2 * k + 1))
kept tree i k p a b c h = rw (elsewhere tree i k p a, elsewhere tree i (2 * k) p b, elsewhere tree i (2 * k + 1) p c) h

-- a place that isn't the half of another one isn't right above that
not-above : (k i : ℕ) → k ≢ i / 2 → (2 * k ≢ i) × (2 * k + 1 ≢ i)
not-above k i h = (λ e. h (omega (arith, e)), λ e. h (omega (arith, e)))

-- a leaf is written
pub leaf-written : (n i : ℕ) (tree : List (Option Point)) (p : Option Point) → n ≤ i → IsTree n tree → IsTreeBut n (i / 2) (slice_set tree i p)
leaf-written n i tree p le h k some few hole =
    let o = not-above k i hole in kept tree i k p (λ e. omega (arith, e, le, few)) o.0 o.1 (h k some few)

-- the place without is mended, and the next one on the way is without
pub mended : (n i : ℕ) (tree : List (Option Point)) → i < length tree → 1 ≤ i → IsTreeBut n i tree →
    IsTreeBut n (i / 2) (slice_set tree i (earlier (place_at tree (2 * i)) (place_at tree (2 * i + 1))))
mended n i tree within some h k one few hole =
    let p : Option Point = earlier (place_at tree (2 * i)) (place_at tree (2 * i + 1)) in
    let o = not-above k i hole in
    by_place p o (cases_eq k i)
  where
    by_place : (p : Option Point) → (2 * k ≢ i) × (2 * k + 1 ≢ i) → (k ≡ i) ⊎ ((k ≡ i) → ⊥) →
        place_at (slice_set tree i (earlier (place_at tree (2 * i)) (place_at tree (2 * i + 1)))) k
        ≡ earlier (place_at (slice_set tree i (earlier (place_at tree (2 * i)) (place_at tree (2 * i + 1)))) (2 * k))
        (place_at (slice_set tree i (earlier (place_at tree (2 * i)) (place_at tree (2 * i + 1)))) (2 * k + 1))
    by_place p o (inl e) =
        let q : Option Point = earlier (place_at tree (2 * i)) (place_at tree (2 * i + 1)) in
        ap (place_at (slice_set tree i q)) e
        ∙ at-place tree i q within
        ∙ ap (λ j. earlier (place_at tree (2 * j)) (place_at tree (2 * j + 1))) (sym e)
        ∙ sym (ap (λ z. earlier z (place_at (slice_set tree i q) (2 * k + 1))) (elsewhere tree i (2 * k) q o.0) ∙ ap (earlier (place_at tree (2 * k))) (elsewhere tree i (2 * k + 1) q o.1))
    by_place p o (inr d) = kept tree i k (earlier (place_at tree (2 * i)) (place_at tree (2 * i + 1))) d o.0 o.1 (h k one few d)

-- once the root is mended, or where it is a leaf, nothing is without
pub all-mended : (n i : ℕ) (tree : List (Option Point)) → i ≤ 1 → IsTreeBut n (i / 2) tree → IsTree n tree
all-mended n i tree h t k some few = t k some few (λ e. omega (arith, e, h, some))

-- the leaves are as before where a place above them is written
pub leaves-kept : (n i : ℕ) (tree : List (Option Point)) (p : Option Point) (leaves : List (Option Point)) → i < n → ((k : ℕ) → n ≤ k → place_at tree k ≡ place_at leaves k) →
    (k : ℕ) → n ≤ k → place_at (slice_set tree i p) k ≡ place_at leaves k
leaves-kept n i tree p leaves h same k le = elsewhere tree i k p (λ e. omega (arith, e, h, le)) ∙ same k le

-- where the place without is as it would be mended, nothing is without
pub right-already : (n i : ℕ) (tree : List (Option Point)) → IsTreeBut n i tree → place_at tree i ≡ earlier (place_at tree (2 * i)) (place_at tree (2 * i + 1)) → IsTree n tree
right-already n i tree h e k some few = by_place (cases_eq k i)
  where
    by_place : (k ≡ i) ⊎ ((k ≡ i) → ⊥) → place_at tree k ≡ earlier (place_at tree (2 * k)) (place_at tree (2 * k + 1))
    by_place (inl same) =
        ap (place_at tree) same ∙ e ∙ sym (ap (λ j. earlier (place_at tree (2 * j)) (place_at tree (2 * j + 1))) same)
    by_place (inr d) = h k some few d

-- a place that there is, whatever stands for those that aren't there
pub place-read : (tree : List (Option Point)) (i : ℕ) (d : Option Point) → i < length tree → slice_index_or tree i d ≡ place_at tree i
place-read [] i d l = absurd (omega (arith, l))
place-read (p ∷ tree) zero d l = refl
place-read (p ∷ tree) (suc i) d l = place-read tree i d (omega (arith, l))
