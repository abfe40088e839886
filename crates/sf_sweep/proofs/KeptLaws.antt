-- Contacts by pieces with the tree of the points at which edges meet: how it is made, how it is written, and what its root is.
use Rattle.std.proofs.Common.{◌≡◌, refl, ap, sym, ◌∙◌, subst, ℕ, zero, suc, ◌+◌, ◌-◌, ◌*◌, ◌≤◌, ◌<◌, arith, List, length, Option, Some, None, ◌⊎◌, inl, inr}
use Rattle.std.specs.Prelude.{IfNone, IfSome, slice_index_or, slice_set}
use Rattle.std.proofs.lemmas.Bool.{cases_eq, cases_lt}
use Rattle.std.proofs.lemmas.List.{get_or-set_other, get_or-set_same, get_or_past, length-replicate, length-set}
use Rattle.std.proofs.Math.ListN.{replicate}
use Rattle.sf_grid.specs.Plane.{Point}
use Rattle.sf_strips.specs.declared.contact.Contact.{Contact}
use Rattle.sf_strips.specs.declared.contact.Contact.TheVariants.{Ahead, Never, Throughout}
use Rattle.sf_sweep.specs.Nearest.{AreKept, HasPoints, IsFirstMeeting, IsPointIn, IsTree, NoneMeet, earlier, place_at}
use Rattle.sf_sweep.specs.Tables.{IsNotBefore, ahead_of}
use Rattle.sf_sweep.proofs.FirstLaws.{IsFirst, earlier-one, root-among, root-first}

-- ---- points of the plane
earlier-point : (a b : Option Point) → IsPointIn a → IsPointIn b → (earlier a b ≡ a) ⊎ (earlier a b ≡ b) → IsPointIn (earlier a b)
earlier-point a b i j (inl e) = subst IsPointIn (sym e) i
earlier-point a b i j (inr e) = subst IsPointIn (sym e) j

-- where those of the leaves are, all are
points-within : (n : ℕ) (tree : List (Option Point)) → IsTree n tree → ((k : ℕ) → n ≤ k → IsPointIn (place_at tree k)) → (m k : ℕ) → n ≤ k + m → 1 ≤ k → IsPointIn (place_at tree k)
points-within n tree t leaves zero k near some = leaves k (omega (arith, near))
points-within n tree t leaves (suc m) k near some =
    by_size (cases_lt k n) (λ lower. points-within n tree t leaves m (2 * k) (omega (arith, near, some)) (omega (arith, some)))
    (λ lower. points-within n tree t leaves m (2 * k + 1) (omega (arith, near, some)) (omega (arith, some)))
  where
    by_size : (k < n) ⊎ (n ≤ k) → (k < n → IsPointIn (place_at tree (2 * k))) → (k < n → IsPointIn (place_at tree (2 * k + 1))) → IsPointIn (place_at tree k)
    by_size (inl lower) left right =
        subst IsPointIn (sym (t k some lower))
        (earlier-point (place_at tree (2 * k)) (place_at tree (2 * k + 1)) (left lower) (right lower) (earlier-one (place_at tree (2 * k)) (place_at tree (2 * k + 1))))
    by_size (inr last) left right = leaves k last

points-of_leaves : (n : ℕ) (tree : List (Option Point)) → IsTree n tree → ((k : ℕ) → n ≤ k → IsPointIn (place_at tree k)) → HasPoints tree
points-of_leaves n tree t leaves k some = points-within n tree t leaves n k (omega arith) some

-- ---- nothing is kept at first
none-there : {A : Type 0} (n k : ℕ) (d : A) → slice_index_or (replicate n d) k d ≡ d
none-there zero k d = refl
none-there (suc n) zero d = refl
none-there (suc n) (suc k) d = none-there n k d

pub kept-none : (n : ℕ) (contacts : List Contact) (tree : List (Option Point)) → n ≤ 16777215 → contacts ≡ replicate n Never → tree ≡ replicate (2 * n) None → AreKept contacts tree
kept-none n contacts tree few e f =
    let size : length contacts ≡ n = ap length e ∙ length-replicate n Never in
    let none : (k : ℕ) → place_at tree k ≡ None = λ k. ap (λ t. place_at t k) f ∙ none-there (2 * n) k None in
    let never : (k : ℕ) → slice_index_or contacts k Never ≡ Never = λ k. ap (λ cs. slice_index_or cs k Never) e ∙ none-there n k Never in
    record {
      few = omega (arith, size, few);
      len = ap length f ∙ length-replicate (2 * n) None ∙ ap (λ m. 2 * m) (sym size);
      firsts = λ k some lower. none k ∙ sym (ap (λ a. earlier a (place_at tree (2 * k + 1))) (none (2 * k)) ∙ none (2 * k + 1));
      leaves = λ k lower. none (length contacts + k) ∙ sym (ap ahead_of (never k));
      points = λ k some. subst IsPointIn (sym (none k)) tt;
    }

-- ---- one contact is written
-- a leaf that is written, and the others
leaf-at : (contacts : List Contact) (tree : List (Option Point)) (piece : ℕ) (c : Contact) → AreKept contacts tree → piece < length contacts → (k : ℕ) → k < length (slice_set contacts piece c) →
    place_at (slice_set tree (length contacts + piece) (ahead_of c)) (length contacts + k) ≡ ahead_of (slice_index_or (slice_set contacts piece c) k Never)
leaf-at contacts tree piece c kept within k lower = by_place (cases_eq k piece)
  where
    few : k < length contacts
    few = omega (arith, lower, length-set contacts piece c)

    room : length contacts + piece < length tree
    room = omega (arith, within, kept.len)

    by_place : (k ≡ piece) ⊎ ((k ≡ piece) → ⊥) →
        place_at (slice_set tree (length contacts + piece) (ahead_of c)) (length contacts + k) ≡ ahead_of (slice_index_or (slice_set contacts piece c) k Never)
    by_place (inl e) =
        ap (λ j. place_at (slice_set tree (length contacts + piece) (ahead_of c)) (length contacts + j)) e
        ∙ get_or-set_same tree (length contacts + piece) (ahead_of c) None room
        ∙ sym (ap ahead_of (ap (λ j. slice_index_or (slice_set contacts piece c) j Never) e ∙ get_or-set_same contacts piece c Never within))
    by_place (inr d) =
        get_or-set_other tree (length contacts + piece) (length contacts + k) (ahead_of c) None (λ e. d (omega (arith, e)))
        ∙ kept.leaves k few
        ∙ sym (ap ahead_of (get_or-set_other contacts piece k c Never d))

leaf-point : (contacts : List Contact) (tree : List (Option Point)) (piece : ℕ) (c : Contact) → AreKept contacts tree → IsPointIn (ahead_of c) → piece < length contacts → (k : ℕ) → length contacts ≤ k →
    IsPointIn (place_at (slice_set tree (length contacts + piece) (ahead_of c)) k)
leaf-point contacts tree piece c kept point within k last = by_place (cases_eq k (length contacts + piece))
  where
    by_place : (k ≡ length contacts + piece) ⊎ ((k ≡ length contacts + piece) → ⊥) → IsPointIn (place_at (slice_set tree (length contacts + piece) (ahead_of c)) k)
    by_place (inl e) =
        subst IsPointIn (sym (ap (place_at (slice_set tree (length contacts + piece) (ahead_of c))) e
        ∙ get_or-set_same tree (length contacts + piece) (ahead_of c) None (omega (arith, within, kept.len)))) point
    by_place (inr d) = subst IsPointIn (sym (get_or-set_other tree (length contacts + piece) k (ahead_of c) None d)) (kept.points k (omega (arith, last, within)))

-- in the tree too
pub kept-written : (contacts : List Contact) (tree tree' : List (Option Point)) (piece : ℕ) (c : Contact) → AreKept contacts tree → IsPointIn (ahead_of c) → piece < length contacts →
    IsTree (length contacts) tree' → length tree' ≡ length tree → ((k : ℕ) → length contacts ≤ k → place_at tree' k ≡ place_at (slice_set tree (length contacts + piece) (ahead_of c)) k) →
    AreKept (slice_set contacts piece c) tree'
kept-written contacts tree tree' piece c kept point within t len leaves =
    let size : length (slice_set contacts piece c) ≡ length contacts = length-set contacts piece c in
    record {
      few = omega (arith, size, kept.few);
      len = len ∙ kept.len ∙ ap (λ m. 2 * m) (sym size);
      firsts = subst (λ m. IsTree m tree') (sym size) t;
      leaves = λ k lower.
          subst (λ m. place_at tree' (m + k) ≡ ahead_of (slice_index_or (slice_set contacts piece c) k Never)) (sym size)
          (leaves (length contacts + k) (omega arith) ∙ leaf-at contacts tree piece c kept within k lower);
      points = points-of_leaves (length contacts) tree' t
          (λ k last. subst IsPointIn (sym (leaves k last)) (leaf-point contacts tree piece c kept point within k last));
    }

-- or only among the contacts, where there is no point before and then
pub kept-same : (contacts : List Contact) (tree : List (Option Point)) (piece : ℕ) (c : Contact) → AreKept contacts tree → piece < length contacts →
    ahead_of c ≡ None → place_at tree (length contacts + piece) ≡ None → AreKept (slice_set contacts piece c) tree
kept-same contacts tree piece c kept within none before =
    kept-written contacts tree tree piece c kept (subst IsPointIn (sym none) tt) within kept.firsts refl (λ k last. by_place k (cases_eq k (length contacts + piece)))
  where
    by_place : (k : ℕ) → (k ≡ length contacts + piece) ⊎ ((k ≡ length contacts + piece) → ⊥) →
        place_at tree k ≡ place_at (slice_set tree (length contacts + piece) (ahead_of c)) k
    by_place k (inl e) =
        ap (place_at tree) e ∙ before ∙ sym none
        ∙ sym (ap (place_at (slice_set tree (length contacts + piece) (ahead_of c))) e
        ∙ get_or-set_same tree (length contacts + piece) (ahead_of c) None (omega (arith, within, kept.len)))
    by_place k (inr d) = sym (get_or-set_other tree (length contacts + piece) k (ahead_of c) None d)

-- ---- the root
meeting-of : (c : Contact) (p : Point) → ahead_of c ≡ Some p → c ≡ Ahead p
meeting-of Never p e = cc
meeting-of (Ahead q) p e = ap Ahead cc
meeting-of Throughout p e = cc

not-before : (p : Point) (c : Contact) → IsFirst (Some p) (ahead_of c) → IsNotBefore p c
not-before p Never h = tt
not-before p (Ahead q) h = h
not-before p Throughout h = tt

none-of : (o : Option Point) → IsFirst None o → o ≡ None
none-of None h = refl
none-of (Some q) h = absurd h

past-none : (contacts : List Contact) (k : ℕ) → length contacts ≤ k → slice_index_or contacts k Never ≡ Never
past-none contacts k h = get_or_past contacts k Never h

-- the root isn't after what a piece has
root-before : (contacts : List Contact) (tree : List (Option Point)) → AreKept contacts tree → (k : ℕ) → k < length contacts →
    IsFirst (place_at tree 1) (ahead_of (slice_index_or contacts k Never))
root-before contacts tree kept k lower =
    subst (IsFirst (place_at tree 1)) (kept.leaves k lower)
    (root-first (length contacts) tree kept.firsts kept.points (length contacts + k) (omega arith) (omega (arith, lower)))

some-there : (contacts : List Contact) (tree : List (Option Point)) (p : Point) → AreKept contacts tree → place_at tree 1 ≡ Some p → 1 ≤ length contacts
some-there contacts tree p kept e = by_size (cases_lt 0 (length contacts))
  where
    by_size : (0 < length contacts) ⊎ (length contacts ≤ 0) → 1 ≤ length contacts
    by_size (inl h) = omega (arith, h)
    by_size (inr h) = absurd (differ (sym e ∙ get_or_past tree 1 None (omega (arith, h, kept.len))))
      where
        differ : ◌≡◌ {A = Option Point} (Some p) None → ⊥
        differ d = cc

pub root-meeting : (contacts : List Contact) (tree : List (Option Point)) (p : Point) → AreKept contacts tree → place_at tree 1 ≡ Some p → IsFirstMeeting contacts p
root-meeting contacts tree p kept e =
    let at = root-among (length contacts) tree kept.firsts (some-there contacts tree p kept e) in
    let k : ℕ = at.leaf - length contacts in
    let lower : k < length contacts = omega (arith, at.last, at.within) in
    let place : length contacts + k ≡ at.leaf = omega (arith, at.last) in
    record {
      point = subst IsPointIn e (kept.points 1 (omega arith));
      among = record {
        piece = k;
        meets = meeting-of (slice_index_or contacts k Never) p (sym (kept.leaves k lower) ∙ ap (place_at tree) place ∙ at.same ∙ e);
      };
      first = λ j. by_size j (cases_lt j (length contacts));
      points = λ j. point_at j (cases_lt j (length contacts));
    }
  where
    point_at : (j : ℕ) → (j < length contacts) ⊎ (length contacts ≤ j) → IsPointIn (ahead_of (slice_index_or contacts j Never))
    point_at j (inl lower) = subst IsPointIn (kept.leaves j lower) (kept.points (length contacts + j) (omega (arith, lower)))
    point_at j (inr past) = subst (λ c. IsPointIn (ahead_of c)) (sym (past-none contacts j past)) tt

    by_size : (j : ℕ) → (j < length contacts) ⊎ (length contacts ≤ j) → IsNotBefore p (slice_index_or contacts j Never)
    by_size j (inl lower) =
        not-before p (slice_index_or contacts j Never) (subst (λ o. IsFirst o (ahead_of (slice_index_or contacts j Never))) e (root-before contacts tree kept j lower))
    by_size j (inr past) = subst (IsNotBefore p) (sym (past-none contacts j past)) tt

pub root-none : (contacts : List Contact) (tree : List (Option Point)) → AreKept contacts tree → place_at tree 1 ≡ None → NoneMeet contacts
root-none contacts tree kept e k = by_size (cases_lt k (length contacts))
  where
    by_size : (k < length contacts) ⊎ (length contacts ≤ k) → ahead_of (slice_index_or contacts k Never) ≡ None
    by_size (inl lower) = none-of (ahead_of (slice_index_or contacts k Never)) (subst (λ o. IsFirst o (ahead_of (slice_index_or contacts k Never))) e (root-before contacts tree kept k lower))
    by_size (inr past) = ap ahead_of (past-none contacts k past)

-- the same, where it may have a point or none
pub root-if_some : (contacts : List Contact) (tree : List (Option Point)) (o : Option Point) → AreKept contacts tree → place_at tree 1 ≡ o → IfSome o (λ p. IsFirstMeeting contacts p)
root-if_some contacts tree None kept e = tt
root-if_some contacts tree (Some p) kept e = root-meeting contacts tree p kept e

pub root-if_none : (contacts : List Contact) (tree : List (Option Point)) (o : Option Point) → AreKept contacts tree → place_at tree 1 ≡ o → IfNone o (NoneMeet contacts)
root-if_none contacts tree None kept e = root-none contacts tree kept e
root-if_none contacts tree (Some p) kept e = tt
