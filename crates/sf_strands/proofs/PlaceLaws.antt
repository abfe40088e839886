-- The edges of a tight list by their numbers, and which of them are neighbours.
use Rattle.std.proofs.Common.{◌≡◌, ◌≢◌, ℕ, zero, suc, ◌+◌, ◌<◌, refl, ap, sym, ◌∙◌, pos, arith, Bool, true, false, ◌&&◌, ◌||◌, List, [], ◌∷◌, length, get_or, nat_eq}
use Rattle.std.proofs.Common.{◌⊎◌, inl, inr}
use Rattle.std.proofs.Math.Bool.{and-false, and-true}
use Rattle.std.proofs.lemmas.Bool.{and_parts, false≢true}
use Rattle.std.proofs.lemmas.List.{get_or_default}
use Rattle.sf_grid.specs.Plane.{Coordinates}
use Rattle.sf_grid.specs.Edge.{edge_between}
use Rattle.sf_geometry.specs.Lists.{edges_between, edges_from, edges_of, is_closed, is_same, last_from}
use Rattle.sf_geometry.proofs.ListLaws.{same-is}
use Rattle.sf_strands.specs.Pairs.{are_neighbours, closes_ring, edge_at, point_of}
use Rattle.sf_strands.specs.Tight.{IsTight, IsTightFrom}
use Rattle.sf_strands.proofs.CountedLaws.{length-edges}
use Rattle.sf_strands.proofs.EndLaws.{same-self}
use Rattle.sf_strands.proofs.MeetingLaws.{AreJoined}
use Rattle.sf_strands.proofs.TightLaws.{tight-tight}

abbrev origin : Coordinates
origin = record { x = pos 0; y = pos 0 }

-- a point that is read
pub read-is : (ps : List Coordinates) (i : ℕ) (a : Coordinates) → i < length ps → a ≡ get_or ps i a → point_of ps i ≡ a
read-is ps i a h e = get_or_default ps i origin a h ∙ sym e

next-is : (i : ℕ) → suc i + 1 ≡ suc (i + 1)
next-is i = omega arith

-- neighbours differ
other-from : (p : Coordinates) (ps : List Coordinates) (i : ℕ) → IsTightFrom p ps → i < length ps → is_same (point_of (p ∷ ps) i) (point_of (p ∷ ps) (i + 1)) ≡ false
other-from p [] i h l = absurd (omega (arith, l))
other-from p (q ∷ qs) zero h l = h.0
other-from p (q ∷ qs) (suc i) h l =
    ap (λ n. is_same (point_of (q ∷ qs) i) (get_or (p ∷ q ∷ qs) n origin)) (next-is i) ∙ other-from q qs i h.1 (omega (arith, l))

pub others : (ps : List Coordinates) (i : ℕ) → IsTight ps → i + 1 < length ps → is_same (point_of ps i) (point_of ps (i + 1)) ≡ false
others [] i h l = absurd (omega (arith, l))
others (p ∷ ps) i h l = other-from p ps i h (omega (arith, l))

pub differ : (a b : Coordinates) → is_same a b ≡ false → a ≢ b
differ a b h e = false≢true (sym h ∙ ap (is_same a) (sym e) ∙ same-self a)

pub read-differ : (ps : List Coordinates) (i : ℕ) (a b : Coordinates) → IsTight ps → i + 1 < length ps → a ≡ get_or ps i a → b ≡ get_or ps (i + 1) b → a ≢ b
read-differ ps i a b h l e f =
    differ a b
    (ap (λ q. is_same q b) (sym (read-is ps i a (omega (arith, l)) e)) ∙ ap (is_same (point_of ps i)) (sym (read-is ps (i + 1) b l f)) ∙ others ps i h l)

pub read-edge : (ps : List Coordinates) (i : ℕ) (a b : Coordinates) → i + 1 < length ps → a ≡ get_or ps i a → b ≡ get_or ps (i + 1) b → edge_at ps i ≡ edge_between a b
read-edge ps i a b l e f =
    ap (λ q. edge_between q (point_of ps (i + 1))) (read-is ps i a (omega (arith, l)) e) ∙ ap (edge_between a) (read-is ps (i + 1) b l f)

-- ---- the last edge
edge-count : (ps : List Coordinates) → IsTight ps → length (edges_of ps) + 1 ≡ length ps ⊎ (length ps ≡ 0)
edge-count [] h = inr refl
edge-count (p ∷ ps) h = inl (ap (λ ts. length (edges_between ts) + 1) (tight-tight (p ∷ ps) h) ∙ counted (length (edges_from p ps)) (length ps) (length-edges p ps))
  where
    counted : (m n : ℕ) → m ≡ n → m + 1 ≡ suc n
    counted m n e = omega (arith, e)

pub edges-counted : (ps : List Coordinates) (j : ℕ) → IsTight ps → j + 1 < length ps → length (edges_of ps) + 1 ≡ length ps
edges-counted ps j h l = by (edge-count ps h)
  where
    by : (length (edges_of ps) + 1 ≡ length ps) ⊎ (length ps ≡ 0) → length (edges_of ps) + 1 ≡ length ps
    by (inl e) = e
    by (inr e) = absurd (omega (arith, l, e))

pub edges-more : (ps : List Coordinates) → IsTight ps → (0 < length (edges_of ps)) → length (edges_of ps) + 1 ≡ length ps
edges-more [] h l = absurd (omega (arith, l))
edges-more (p ∷ ps) h l = edges-counted-from (edge-count (p ∷ ps) h)
  where
    edges-counted-from : (length (edges_of (p ∷ ps)) + 1 ≡ length (p ∷ ps)) ⊎ (length (p ∷ ps) ≡ 0) → length (edges_of (p ∷ ps)) + 1 ≡ length (p ∷ ps)
    edges-counted-from (inl e) = e
    edges-counted-from (inr e) = absurd (omega (arith, e))

last-at : (p : Coordinates) (ps : List Coordinates) → point_of (p ∷ ps) (length ps) ≡ last_from p ps
last-at p [] = refl
last-at p (q ∷ qs) = last-at q qs

pub closed-at : (ps : List Coordinates) (j : ℕ) → j + 2 ≡ length ps → is_closed ps ≡ is_same (point_of ps 0) (point_of ps (j + 1))
closed-at [] j e = absurd (omega (arith, e))
closed-at (p ∷ ps) j e = ap (is_same p) (sym (last-at p ps) ∙ ap (λ n. point_of (p ∷ ps) n) (omega (arith, e)))

pub closes-last : (ps : List Coordinates) (j : ℕ) (a b : Coordinates) → IsTight ps → j + 1 < length ps → j + 2 ≡ length ps → a ≡ get_or ps 0 a → b ≡ get_or ps (j + 1) b →
    is_same a b ≡ closes_ring ps j
closes-last ps j a b h l e f g =
    ap (λ q. is_same q b) (sym (read-is ps 0 a (omega (arith, l)) f))
    ∙ ap (is_same (point_of ps 0)) (sym (read-is ps (j + 1) b l g))
    ∙ sym (closed-at ps j e)
    ∙ sym (and-true (is_closed ps))
    ∙ ap (λ t. is_closed ps && t) (sym (is_eq (j + 1) (length (edges_of ps)) (omega (arith, e, edges-counted ps j h l))))
  where
    is_eq : (m n : ℕ) → m ≡ n → nat_eq m n ≡ true
    is_eq m n e = grind (arith, e)

pub closes-earlier : (ps : List Coordinates) (j : ℕ) → IsTight ps → j + 1 < length ps → j + 2 ≢ length ps → false ≡ closes_ring ps j
closes-earlier ps j h l n =
    sym (and-false (is_closed ps))
    ∙ ap (λ t. is_closed ps && t) (sym (not_eq (j + 1) (length (edges_of ps)) (λ e. n (omega (arith, e, edges-counted ps j h l)))))
  where
    not_eq : (m n : ℕ) → m ≢ n → nat_eq m n ≡ false
    not_eq m n e = grind (arith, e)

-- ---- neighbours share a vertex
abbrev pub follows : ℕ → ℕ → Bool
follows i j = nat_eq j (i + 1)

abbrev pub goes_around : List Coordinates → ℕ → ℕ → Bool
goes_around ps i j = is_closed ps && nat_eq i 0 && nat_eq (j + 1) (length (edges_of ps))

eq-from : (m n : ℕ) → nat_eq m n ≡ true → m ≡ n
eq-from m n h = grind (arith)

pub pair-joined : (ps : List Coordinates) (i j : ℕ) → IsTight ps → j + 1 < length ps → AreJoined (follows i j) (goes_around ps i j) (edge_at ps i) (edge_at ps j)
pair-joined ps i j h l =
    record {
      end = λ t. ap (point_of ps) (sym (eq-from j (i + 1) t));
      start =
          λ t. let parts = and_parts _ _ t in
          let closed = and_parts _ _ parts.0 in
          let last : j + 1 ≡ length (edges_of ps) = eq-from (j + 1) (length (edges_of ps)) parts.1 in
          ap (point_of ps) (eq-from i 0 closed.1)
          ∙ same-is (point_of ps 0) (point_of ps (j + 1)) (sym (closed-at ps j (omega (arith, last, edges-counted ps j h l))) ∙ closed.0);
    }

pub neighbours-are : (ps : List Coordinates) (i j : ℕ) → are_neighbours ps i j ≡ (follows i j || goes_around ps i j)
neighbours-are ps i j = ap (λ t. follows i j || t) (by (is_closed ps) (nat_eq i 0) (nat_eq (j + 1) (length (edges_of ps))))
  where
    by : (c z n : Bool) → (z && (c && n)) ≡ ((c && z) && n)
    by true true n = refl
    by true false n = refl
    by false true n = refl
    by false false n = refl
