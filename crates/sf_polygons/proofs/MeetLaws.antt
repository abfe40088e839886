-- Two edges on a sample that is more than a point are of different rings, which then share a piece; and where rings share a
-- piece there is such a sample.
use Rattle.std.proofs.Common.{◌≡◌, refl, ap, sym, ◌∙◌, subst, lit<, ℕ, suc, ◌+◌, ◌≤◌, arith, Bool, true, false, ◌&&◌, ◌||◌, not, List, [], ◌∷◌, map, length, nat_eq, nat_le, nat_lt, inl, inr}
use Rattle.std.specs.List.{AllByRecursion, Contains, count_by, enumerate_from, flat_map, list_any}
use Rattle.std.proofs.lemmas.Bool.{and_from, and_parts, both_ways, or_cases}
use Rattle.sf_grid.specs.Plane.{Coordinates, IsPoint, Point, grid_point, same_point}
use Rattle.sf_grid.specs.Edge.{Edge, on_edge}
use Rattle.sf_grid.proofs.CallerLemmas.{same_point_is_equivalence}
use Rattle.sf_strips.specs.declared.piece.Piece.{Piece}
use Rattle.sf_cells.specs.Samples.{Sample, samples}
use Rattle.sf_slabs.proofs.CallerLemmas.{each-both, each-parts}
use Rattle.sf_plane.specs.Laws.{ShareTwoPoints}
use Rattle.sf_plane.proofs.ShareLaws.{shared_tell}
use Rattle.sf_geometry.specs.Lists.{edges_between, edges_from, edges_of, is_closed, tight}
use Rattle.sf_pieces.specs.Marked.{piece_of}
use Rattle.sf_valid_rules.specs.Conditions.{Applies, AtTwoPoints, any_two}
use Rattle.sf_valid_rules.specs.Rules.{Rule, ring_rules}
use Rattle.sf_valid_rules.specs.Shapes.{is_joint, meets_itself, on_both, share_piece}
use Rattle.sf_valid_rules.specs.Validity.{NoneApplies}
use Rattle.sf_polygons.proofs.PieceLaws.{all_edges}
use Rattle.sf_polygons.proofs.TestLaws.{any-at, each-among, one-of, two-count, two-flat, two-of}

-- ---- a ring with no fault
pub record IsSound (ring : List Coordinates) : Type 0 where
  pub closed : is_closed ring ≡ true
  pub long : 3 ≤ length (edges_of ring)
  pub simple : (p : Point) → IsPoint p → meets_itself ring p ≡ false

is-true : (b : Bool) → (not b ≡ true → ⊥) → b ≡ true
is-true true h = refl
is-true false h = absurd (h refl)

is-false : (b : Bool) → (b ≡ true → ⊥) → b ≡ false
is-false true h = absurd (h refl)
is-false false h = refl

count-edges : (ts : List Coordinates) → (nat_lt (length ts) 4 ≡ true → ⊥) → 3 ≤ length (edges_between ts)
count-edges [] h = absurd (h refl)
count-edges (p ∷ ps) h = subst (λ n. 3 ≤ n) (sym (count-from p ps)) (enough (length ps) h)
  where
    count-from : (p : Coordinates) (ps : List Coordinates) → length (edges_from p ps) ≡ length ps
    count-from p [] = refl
    count-from p (q ∷ qs) = ap (λ n. suc n) (count-from q qs)

    enough : (n : ℕ) → (nat_lt (suc n) 4 ≡ true → ⊥) → 3 ≤ n
    enough n k = grind (arith, k)

pub sound : (ring : List Coordinates) → NoneApplies (ring_rules ring) → IsSound ring
sound ring h =
    record {
      closed = is-true (is_closed ring) h.0;
      long = count-edges (tight ring) h.1.0;
      simple = λ p i. is-false (meets_itself ring p) (λ t. h.1.1.0 (p, i, t));
    }

pub all-sound : (rings : List (List Coordinates)) → NoneApplies (flat_map ring_rules rings) → AllByRecursion IsSound rings
all-sound [] h = tt
all-sound (r ∷ rs) h =
    let parts = each-parts (λ (rule : Rule). ¬ (Applies rule.condition)) (ring_rules r) (flat_map ring_rules rs) h in
    (sound r parts.0, all-sound rs parts.1)

-- ---- numbered edges
any-numbered : {A : Type 0} (t : A → Bool) (k : ℕ) (xs : List A) → list_any (λ (x : ℕ × A). t x.1) (enumerate_from k xs) ≡ list_any t xs
any-numbered t k [] = refl
any-numbered t k (x ∷ xs) = ap (λ b. t x || b) (any-numbered t (k + 1) xs)

two-numbered : {A : Type 0} (t : A → A → Bool) (k : ℕ) (xs : List A) → any_two (λ (x y : ℕ × A). t x.1 y.1) (enumerate_from k xs) ≡ any_two t xs
two-numbered {A} t k [] = refl
two-numbered {A} t k (x ∷ xs) =
    ap (λ b. b || any_two (λ (y z : ℕ × A). t y.1 z.1) (enumerate_from (k + 1) xs)) (any-numbered (t x) (k + 1) xs) ∙ ap (λ b. list_any (t x) xs || b) (two-numbered t (k + 1) xs)

each-numbered : {A : Type 0} (P : A → Type 0) (k : ℕ) (xs : List A) → AllByRecursion P xs → AllByRecursion (λ (x : ℕ × A). P x.1) (enumerate_from k xs)
each-numbered P k [] h = tt
each-numbered P k (x ∷ xs) h = (h.0, each-numbered P (k + 1) xs h.1)

-- ---- two edges have one joint at most
grid-is : (c : Coordinates) → IsPoint (grid_point c)
grid-is c = record { positive = lit< tt }

at-one : (c : Coordinates) (p q : Point) → same_point (grid_point c) p ≡ true → same_point (grid_point c) q ≡ true → same_point p q ≡ true
at-one c p q h k = same_point_is_equivalence.transitive p (grid_point c) q (grid-is c) (same_point_is_equivalence.symmetric (grid_point c) p h) k

two-edges : (i j n : ℕ) → 3 ≤ n → nat_eq j (i + 1) ≡ true → nat_eq i 0 ≡ true → nat_eq (j + 1) n ≡ true → ⊥
two-edges i j n l a b c = grind (arith, l, a, b, c)

one-joint : (closed : Bool) (n : ℕ) (e f : ℕ × Edge) (p q : Point) → 3 ≤ n → is_joint closed n e f p ≡ true → is_joint closed n e f q ≡ true → same_point p q ≡ true
one-joint closed n e f p q l h k =
    elim (or_cases (nat_eq f.0 (e.0 + 1) && same_point (grid_point e.1.b) p) (closed && nat_eq e.0 0 && nat_eq (f.0 + 1) n && same_point (grid_point e.1.a) p) h) [
      | inl a ↦
          elim (or_cases (nat_eq f.0 (e.0 + 1) && same_point (grid_point e.1.b) q) (closed && nat_eq e.0 0 && nat_eq (f.0 + 1) n && same_point (grid_point e.1.a) q) k) [
            | inl b ↦ at-one e.1.b p q (and_parts _ _ a).1 (and_parts _ _ b).1
            | inr b ↦ absurd (mixed (nat_eq f.0 (e.0 + 1)) (same_point (grid_point e.1.b) p) (same_point (grid_point e.1.a) q) refl a b)
          ]
      | inr a ↦
          elim (or_cases (nat_eq f.0 (e.0 + 1) && same_point (grid_point e.1.b) q) (closed && nat_eq e.0 0 && nat_eq (f.0 + 1) n && same_point (grid_point e.1.a) q) k) [
            | inl b ↦ absurd (mixed (nat_eq f.0 (e.0 + 1)) (same_point (grid_point e.1.b) q) (same_point (grid_point e.1.a) p) refl b a)
            | inr b ↦ at-one e.1.a p q (and_parts _ _ a).1 (and_parts _ _ b).1
          ]
    ]
  where
    mixed : (t s u : Bool) → nat_eq f.0 (e.0 + 1) ≡ t → (t && s) ≡ true → (closed && nat_eq e.0 0 && nat_eq (f.0 + 1) n && u) ≡ true → ⊥
    mixed t s u x a b =
        let outer = and_parts (closed && nat_eq e.0 0 && nat_eq (f.0 + 1) n) u b in
        let inner = and_parts (closed && nat_eq e.0 0) (nat_eq (f.0 + 1) n) outer.0 in
        two-edges e.0 f.0 n l (x ∙ (and_parts t s a).0) (and_parts closed (nat_eq e.0 0) inner.0).1 inner.1

-- ---- a sample that is more than a point
pub record IsWide (pieces : List Piece) (s : Sample) : Type 0 where
  pub among : Contains (samples pieces) s
  pub wide : 1 ≤ s.dim

abbrev on-two : Point → Edge → Edge → Bool
on-two p e f = on_edge e p && on_edge f p

abbrev HasEdge : List Piece → Edge → Type 0
HasEdge pieces e = Contains pieces (piece_of e)

share : (pieces : List Piece) (s : Sample) (e f : Edge) → IsWide pieces s → HasEdge pieces e → HasEdge pieces f → on-two s.point e f ≡ true → ShareTwoPoints e f
share pieces s e f w m n h =
    let parts = and_parts (on_edge e s.point) (on_edge f s.point) h in
    (shared_tell pieces e f m n).1 (w.among.0, s, w.among.1, w.among.2, (parts, w.wide))

-- it is not on two edges of one sound ring
not-one-ring : (pieces : List Piece) (s : Sample) (ring : List Coordinates) → IsWide pieces s → IsSound ring → AllByRecursion (HasEdge pieces) (edges_of ring)
    → any_two (on-two s.point) (edges_of ring) ≡ true → ⊥
not-one-ring pieces s ring w sound has h =
    let es = edges_of ring in
    let pair =
    two-of (λ (e : ℕ × Edge). HasEdge pieces e.1) (λ e f. on-two s.point e.1 f.1) (enumerate_from 0 es) (each-numbered (HasEdge pieces) 0 es has)
    (two-numbered (on-two s.point) 0 es ∙ h) in
    let two = share pieces s pair.first.1 pair.second.1 w pair.first_has pair.second_has pair.passes in
    let joint : (p : Point) → IsPoint p → on_both pair.first.1 pair.second.1 p ≡ true → is_joint (is_closed ring) (length es) pair.first pair.second p ≡ true =
    λ p i both. joined (is_joint (is_closed ring) (length es) pair.first pair.second p) (on_both pair.first.1 pair.second.1 p) both
    (λ t. both_ways (meets_itself ring p) (sound.simple p i) (pair.back (λ e f. on_both e.1 f.1 p && not (is_joint (is_closed ring) (length es) e f p)) t)) in
    both_ways (same_point two.first two.second) two.differ
    (one-joint (is_closed ring) (length es) pair.first pair.second two.first two.second sound.long
    (joint two.first two.is_first (and_from _ _ two.first_on_both.0 two.first_on_both.1))
    (joint two.second two.is_second (and_from _ _ two.second_on_both.0 two.second_on_both.1)))
  where
    joined : (j b : Bool) → b ≡ true → ((b && not j) ≡ true → ⊥) → j ≡ true
    joined true b e f = refl
    joined false true e f = absurd (f refl)
    joined false false e f = absurd (both_ways false refl e)

-- two rings share a piece at some two points
abbrev pub ShareSomewhere : List (List Coordinates) → Type 0
ShareSomewhere rings = Applies (AtTwoPoints (λ p q. any_two (λ r s. share_piece r s p q) rings))

abbrev on_edges : Point → List Coordinates → List Coordinates → Bool
on_edges p r s = list_any (λ e. list_any (on-two p e) (edges_of s)) (edges_of r)

-- two rings with an edge on it share a piece
two-rings : (pieces : List Piece) (s : Sample) (rings : List (List Coordinates)) → IsWide pieces s → AllByRecursion (λ ring. AllByRecursion (HasEdge pieces) (edges_of ring)) rings
    → any_two (on_edges s.point) rings ≡ true → ShareSomewhere rings
two-rings pieces s rings w has h =
    let pair = two-of (λ ring. AllByRecursion (HasEdge pieces) (edges_of ring)) (on_edges s.point) rings has h in
    let one = one-of (HasEdge pieces) (λ e. list_any (on-two s.point e) (edges_of pair.second)) (edges_of pair.first) pair.first_has pair.passes in
    let other = one-of (HasEdge pieces) (on-two s.point one.member) (edges_of pair.second) pair.second_has one.passes in
    let two = share pieces s one.member other.member w one.has other.has other.passes in
    let found =
    one.back (λ e. list_any (λ f. on_both e f two.first && on_both e f two.second) (edges_of pair.second))
    (other.back (λ f. on_both one.member f two.first && on_both one.member f two.second)
    (and_from _ _ (and_from _ _ two.first_on_both.0 two.first_on_both.1) (and_from _ _ two.second_on_both.0 two.second_on_both.1))) in (
      two.first,
      two.second,
      two.is_first,
      two.is_second,
      pair.back (λ r t. share_piece r t two.first two.second) (and_from _ _ (ap not two.differ) found),
    )

-- more than a point, with two edges on it
abbrev pub is_shared_at : List (List Coordinates) → Sample → Bool
is_shared_at rings s = nat_le 1 s.dim && nat_le 2 (count_by (λ e. on_edge e s.point) (all_edges rings))

edges-had : (rings : List (List Coordinates)) → AllByRecursion (HasEdge (map piece_of (all_edges rings))) (all_edges rings)
edges-had rings = mapped (Contains (map piece_of (all_edges rings))) (all_edges rings) (each-among (map piece_of (all_edges rings)))
  where
    mapped : (P : Piece → Type 0) (es : List Edge) → AllByRecursion P (map piece_of es) → AllByRecursion (λ e. P (piece_of e)) es
    mapped P [] h = tt
    mapped P (e ∷ es) h = (h.0, mapped P es h.1)

rings-had : (P : Edge → Type 0) (rings : List (List Coordinates)) → AllByRecursion P (all_edges rings) → AllByRecursion (λ ring. AllByRecursion P (edges_of ring)) rings
rings-had P [] h = tt
rings-had P (r ∷ rs) h = let parts = each-parts P (edges_of r) (all_edges rs) h in (parts.0, rings-had P rs parts.1)

counted : (p : Point) (rings : List (List Coordinates)) → nat_le 2 (count_by (λ e. on_edge e p) (all_edges rings))
    ≡ (list_any (λ ring. any_two (on-two p) (edges_of ring)) rings || any_two (on_edges p) rings)
counted p rings = two-count (λ e. on_edge e p) (all_edges rings) ∙ two-flat (on-two p) edges_of rings

pub shared-somewhere : (rings : List (List Coordinates)) → AllByRecursion IsSound rings → list_any (is_shared_at rings) (samples (map piece_of (all_edges rings))) ≡ true → ShareSomewhere rings
shared-somewhere rings sound h =
    let pieces = map piece_of (all_edges rings) in
    let o = one-of (Contains (samples pieces)) (is_shared_at rings) (samples pieces) (each-among (samples pieces)) h in
    let s = o.member in
    let parts = and_parts (nat_le 1 s.dim) (nat_le 2 (count_by (λ e. on_edge e s.point) (all_edges rings))) o.passes in
    let w : IsWide pieces s = record { among = o.has; wide = at_least s.dim parts.0 } in
    let has = rings-had (HasEdge pieces) rings (edges-had rings) in
    elim (or_cases (list_any (λ ring. any_two (on-two s.point) (edges_of ring)) rings) (any_two (on_edges s.point) rings) (sym (counted s.point rings) ∙ parts.1)) [
      | inl one ↦
          let r = one-of (λ ring. IsSound ring × AllByRecursion (HasEdge pieces) (edges_of ring)) (λ ring. any_two (on-two s.point) (edges_of ring)) rings
          (each-both IsSound (λ ring. AllByRecursion (HasEdge pieces) (edges_of ring)) (λ ring. IsSound ring × AllByRecursion (HasEdge pieces) (edges_of ring)) rings (λ ring a b. (a, b)) sound has) one in
          absurd (not-one-ring pieces s r.member w r.has.0 r.has.1 r.passes)
      | inr two ↦ two-rings pieces s rings w has two
    ]
  where
    at_least : (n : ℕ) → nat_le 1 n ≡ true → 1 ≤ n
    at_least n k = grind (arith, k)

pub somewhere-shared : (rings : List (List Coordinates)) → ShareSomewhere rings → list_any (is_shared_at rings) (samples (map piece_of (all_edges rings))) ≡ true
somewhere-shared rings (p, q, is_p, is_q, h) =
    let pieces = map piece_of (all_edges rings) in
    let has = rings-had (HasEdge pieces) rings (edges-had rings) in
    let pair = two-of (λ ring. AllByRecursion (HasEdge pieces) (edges_of ring)) (λ r s. share_piece r s p q) rings has h in
    let parts = and_parts (not (same_point p q)) _ pair.passes in
    let one = one-of (HasEdge pieces) (λ e. list_any (λ f. on_both e f p && on_both e f q) (edges_of pair.second)) (edges_of pair.first) pair.first_has parts.1 in
    let other = one-of (HasEdge pieces) (λ f. on_both one.member f p && on_both one.member f q) (edges_of pair.second) pair.second_has one.passes in
    let at = and_parts (on_both one.member other.member p) (on_both one.member other.member q) other.passes in
    let first = and_parts (on_edge one.member p) (on_edge other.member p) at.0 in
    let second = and_parts (on_edge one.member q) (on_edge other.member q) at.1 in
    let found =
    (shared_tell pieces one.member other.member one.has other.has).0
    (record { first = p; second = q; is_first = is_p; is_second = is_q; differ = opposite (same_point p q) parts.0; first_on_both = first; second_on_both = second }) in
    let s = found.1 in
    let both : on-two s.point one.member other.member ≡ true = and_from _ _ found.4.0.0 found.4.0.1 in
    let two : any_two (on_edges s.point) rings ≡ true =
    pair.back (on_edges s.point) (one.back (λ e. list_any (on-two s.point e) (edges_of pair.second)) (other.back (on-two s.point one.member) both)) in
    any-at (is_shared_at rings) (samples pieces) found.0 s found.2 found.3
    (and_from _ _ (test s.dim found.4.1) (counted s.point rings ∙ right (list_any (λ ring. any_two (on-two s.point) (edges_of ring)) rings) (any_two (on_edges s.point) rings) two))
  where
    opposite : (b : Bool) → not b ≡ true → b ≡ false
    opposite true k = sym k
    opposite false k = refl

    test : (n : ℕ) → 1 ≤ n → nat_le 1 n ≡ true
    test n k = grind (arith, k)

    right : (a b : Bool) → b ≡ true → (a || b) ≡ true
    right true b k = refl
    right false b k = k
