-- The edges of a valid polygon's rings: no two of them share two points.
use Rattle.std.proofs.Common.{◌≡◌, ℕ, suc, ◌+◌, ◌≤◌, arith, refl, ap, Bool, true, false, ◌&&◌, not, List, [], ◌∷◌, ◌++◌, length, inl, inr}
use Rattle.std.specs.Prelude.{nat_eq, nat_lt}
use Rattle.std.proofs.lemmas.Bool.Decides.{nat_tests}
use Rattle.std.specs.List.{AllByRecursion, enumerate_from, flat_map, list_any}
use Rattle.std.proofs.lemmas.Bool.{and_from, and_parts, both_ways, cases_Bool, not_from_false, or_cases, or_left, or_right}
use Rattle.sf_grid.specs.Plane.{Coordinates, IsPoint, Point, grid_point, same_point}
use Rattle.sf_grid.specs.Edge.{Edge as Line, on_edge}
use Rattle.sf_grid.proofs.CallerLemmas.{same_point_is_equivalence}
use Rattle.sf_slabs.proofs.CallerLemmas.{each-append, each-parts}
use Rattle.sf_plane.specs.Laws.{ShareTwoPoints}
use Rattle.sf_geometry.specs.Lists.{edges_between, edges_from, edges_of, is_closed, tight}
use Rattle.sf_plane.proofs.PlaceLaws.{IsIn}
use Rattle.sf_valid_rules.specs.Conditions.{any_two}
use Rattle.sf_valid_rules.specs.Shapes.{is_joint, meets_itself, on_both, share_piece}
use Rattle.sf_valid_rules.proofs.MemberLaws.{each-from_in, each-to_flat, one-any}
use Rattle.sf_interiors.proofs.AlongLaws.{AreApart}

-- ---- each edge is apart from those after it
abbrev pub AllApart : List Line → Type 0
AllApart [] = Unit {0}
AllApart (e ∷ es) = AreApart e es × AllApart es

share-back : (e f : Line) → ShareTwoPoints f e → ShareTwoPoints e f
share-back e f h =
    record {
      first = h.first;
      second = h.second;
      is_first = h.is_first;
      is_second = h.is_second;
      differ = h.differ;
      first_on_both = (h.first_on_both.1, h.first_on_both.0);
      second_on_both = (h.second_on_both.1, h.second_on_both.0);
    }

pub apart-around : (fs gs : List Line) (e : Line) → AllApart (fs ++ e ∷ gs) → AreApart e fs × AreApart e gs
apart-around [] gs e h = (tt, h.0)
apart-around (f ∷ fs) gs e h =
    let rest = apart-around fs gs e h.1 in
    let parts = each-parts (λ g. ¬ (ShareTwoPoints f g)) fs (e ∷ gs) h.0 in
    ((λ s. parts.1.0 (share-back f e s), rest.0), rest.1)

apart-append : (es fs : List Line) → AllApart es → AllApart fs → AllByRecursion (λ e. AreApart e fs) es → AllApart (es ++ fs)
apart-append [] fs h k a = k
apart-append (e ∷ es) fs h k a = (each-append (λ f. ¬ (ShareTwoPoints e f)) es fs h.0 a.0, apart-append es fs h.1 k a.1)

-- ---- one ring: neighbours share a vertex, and of three edges or more no two have both ends in common
joints-clash : (closed : Bool) (count k l : ℕ) (e f : Line) (p q : Point) → 3 ≤ count → IsPoint p → IsPoint q → same_point p q ≡ false →
    is_joint closed count (k, e) (l, f) p ≡ true → is_joint closed count (k, e) (l, f) q ≡ true → ⊥
joints-clash closed count k l e f p q many is_p is_q other h g =
    elim (or_cases (nat_eq l (k + 1) && same_point (grid_point e.b) p) (closed && nat_eq k 0 && nat_eq (l + 1) count && same_point (grid_point e.a) p) h) [
      | inl s ↦ elim (or_cases (nat_eq l (k + 1) && same_point (grid_point e.b) q) (closed && nat_eq k 0 && nat_eq (l + 1) count && same_point (grid_point e.a) q) g) [
        | inl t ↦ one e.b (and_parts (nat_eq l (k + 1)) (same_point (grid_point e.b) p) s).1 (and_parts (nat_eq l (k + 1)) (same_point (grid_point e.b) q) t).1
        | inr t ↦ few (and_parts (nat_eq l (k + 1)) (same_point (grid_point e.b) p) s).0 (wrapped q t).0 (wrapped q t).1.0
      ]
      | inr s ↦ elim (or_cases (nat_eq l (k + 1) && same_point (grid_point e.b) q) (closed && nat_eq k 0 && nat_eq (l + 1) count && same_point (grid_point e.a) q) g) [
        | inl t ↦ few (and_parts (nat_eq l (k + 1)) (same_point (grid_point e.b) q) t).0 (wrapped p s).0 (wrapped p s).1.0
        | inr t ↦ one e.a (wrapped p s).1.1 (wrapped q t).1.1
      ]
    ]
  where
    one : (c : Coordinates) → same_point (grid_point c) p ≡ true → same_point (grid_point c) q ≡ true → ⊥
    one c s t =
        both_ways (same_point p q) other
        (same_point_is_equivalence.transitive p (grid_point c) q (record { positive = omega arith }) (same_point_is_equivalence.symmetric (grid_point c) p s) t)

    few : nat_eq l (k + 1) ≡ true → nat_eq k 0 ≡ true → nat_eq (l + 1) count ≡ true → ⊥
    few s t u = absurd (grind (arith, nat_tests, many))

    wrapped : (r : Point) → (closed && nat_eq k 0 && nat_eq (l + 1) count && same_point (grid_point e.a) r) ≡ true →
        (nat_eq k 0 ≡ true) × ((nat_eq (l + 1) count ≡ true) × (same_point (grid_point e.a) r ≡ true))
    wrapped r s = by_tests closed (nat_eq k 0) (nat_eq (l + 1) count) (same_point (grid_point e.a) r) s
      where
        by_tests : (a b c d : Bool) → (a && b && c && d) ≡ true → (b ≡ true) × ((c ≡ true) × (d ≡ true))
        by_tests true true true d m = (refl, (refl, m))
        by_tests true true false d m = absurd (both_ways false refl m)
        by_tests true false c d m = absurd (both_ways false refl m)
        by_tests false b c d m = absurd (both_ways false refl m)

-- at a common point of two edges that isn't their joint the ring meets itself
abbrev meets : Bool → ℕ → Point → ℕ × Line → ℕ × Line → Bool
meets closed count p e f = on_both e.1 f.1 p && not (is_joint closed count e f p)

pair-apart : (closed : Bool) (count k l : ℕ) (e f : Line) → 3 ≤ count → ((p : Point) → IsPoint p → meets closed count p (k, e) (l, f) ≡ true → ⊥) → ¬ (ShareTwoPoints e f)
pair-apart closed count k l e f many h s =
    joints-clash closed count k l e f s.first s.second many s.is_first s.is_second s.differ
    (joint s.first s.is_first s.first_on_both.0 s.first_on_both.1)
    (joint s.second s.is_second s.second_on_both.0 s.second_on_both.1)
  where
    joint : (p : Point) → IsPoint p → on_edge e p ≡ true → on_edge f p ≡ true → is_joint closed count (k, e) (l, f) p ≡ true
    joint p o a b =
        elim (cases_Bool (is_joint closed count (k, e) (l, f) p)) [
          | inl t ↦ t
          | inr t ↦ absurd (h p o
              (and_from (on_both e f p) (not (is_joint closed count (k, e) (l, f) p)) (and_from (on_edge e p) (on_edge f p) a b)
              (not_from_false (is_joint closed count (k, e) (l, f) p) t)))
        ]

one-apart : (closed : Bool) (count k l : ℕ) (e : Line) (fs : List Line) → 3 ≤ count →
    ((p : Point) → IsPoint p → list_any (meets closed count p (k, e)) (enumerate_from l fs) ≡ true → ⊥) → AreApart e fs
one-apart closed count k l e [] many h = tt
one-apart closed count k l e (f ∷ fs) many h = (
  pair-apart closed count k l e f many (λ p o t. h p o (or_left (meets closed count p (k, e) (l, f)) (list_any (meets closed count p (k, e)) (enumerate_from (l + 1) fs)) t)),
  one-apart closed count k (l + 1) e fs many
      (λ p o t. h p o (or_right (meets closed count p (k, e) (l, f)) (list_any (meets closed count p (k, e)) (enumerate_from (l + 1) fs)) t)),
)

chain-apart : (closed : Bool) (count k : ℕ) (es : List Line) → 3 ≤ count → ((p : Point) → IsPoint p → any_two (meets closed count p) (enumerate_from k es) ≡ true → ⊥) → AllApart es
chain-apart closed count k [] many h = tt
chain-apart closed count k (e ∷ es) many h = (
  one-apart closed count k (k + 1) e es many
      (λ p o t. h p o (or_left (list_any (meets closed count p (k, e)) (enumerate_from (k + 1) es)) (any_two (meets closed count p) (enumerate_from (k + 1) es)) t)),
  chain-apart closed count (k + 1) es many
      (λ p o t. h p o (or_right (list_any (meets closed count p (k, e)) (enumerate_from (k + 1) es)) (any_two (meets closed count p) (enumerate_from (k + 1) es)) t)),
)

length-edges_from : (p : Coordinates) (ps : List Coordinates) → length (edges_from p ps) ≡ length ps
length-edges_from p [] = refl
length-edges_from p (q ∷ qs) = ap suc (length-edges_from q qs)

-- what a valid ring has, as far as its own edges go
pub record IsSimpleRing (ring : List Coordinates) : Type 0 where
  pub long : nat_lt (length (tight ring)) 4 ≡ false
  pub simple : (p : Point) → IsPoint p → meets_itself ring p ≡ true → ⊥

ring-apart : (ring : List Coordinates) → IsSimpleRing ring → AllApart (edges_of ring)
ring-apart ring h = chain-apart (is_closed ring) (length (edges_of ring)) 0 (edges_of ring) (many (tight ring) h.long) h.simple
  where
    many : (ps : List Coordinates) → nat_lt (length ps) 4 ≡ false → 3 ≤ length (edges_between ps)
    many [] k = absurd (both_ways true k refl)
    many (p ∷ ps) k = let l : length (edges_from p ps) ≡ length ps = length-edges_from p ps in grind (arith, nat_tests, k, l)

-- ---- several rings
abbrev pub SharesNone : List (List Coordinates) → Type 0
SharesNone rings = (p q : Point) → IsPoint p → IsPoint q → any_two (λ r s. share_piece r s p q) rings ≡ true → ⊥

shared : (r : List Coordinates) (rs : List (List Coordinates)) (s : List Coordinates) (e f : Line) (p q : Point) → IsIn rs s → IsIn (edges_of r) e → IsIn (edges_of s) f →
    same_point p q ≡ false → on_both e f p ≡ true → on_both e f q ≡ true → list_any (λ u. share_piece r u p q) rs ≡ true
shared r rs s e f p q j i k other first second =
    let both = λ (g u : Line). on_both g u p && on_both g u q in
    let among = one-any (both e) (edges_of s) f k (and_from (on_both e f p) (on_both e f q) first second) in
    one-any (λ u. share_piece r u p q) rs s j
    (and_from (not (same_point p q)) (list_any (λ g. list_any (both g) (edges_of s)) (edges_of r)) (not_from_false (same_point p q) other)
    (one-any (λ g. list_any (both g) (edges_of s)) (edges_of r) e i among))

across : (r : List Coordinates) (rs : List (List Coordinates)) → SharesNone (r ∷ rs) → AllByRecursion (λ e. AreApart e (flat_map edges_of rs)) (edges_of r)
across r rs h =
    each-from_in (λ e. AreApart e (flat_map edges_of rs)) (edges_of r)
    (λ e i. each-to_flat (λ f. ¬ (ShareTwoPoints e f)) edges_of rs
    (each-from_in (λ s. AreApart e (edges_of s)) rs
    (λ s j. each-from_in (λ f. ¬ (ShareTwoPoints e f)) (edges_of s) (λ f k t. clash e s f i j k t))))
  where
    clash : (e : Line) (s : List Coordinates) (f : Line) → IsIn (edges_of r) e → IsIn rs s → IsIn (edges_of s) f → ShareTwoPoints e f → ⊥
    clash e s f i j k t =
        h t.first t.second t.is_first t.is_second
        (or_left (list_any (λ u. share_piece r u t.first t.second) rs) (any_two (λ u v. share_piece u v t.first t.second) rs)
        (shared r rs s e f t.first t.second j i k t.differ
        (and_from (on_edge e t.first) (on_edge f t.first) t.first_on_both.0 t.first_on_both.1)
        (and_from (on_edge e t.second) (on_edge f t.second) t.second_on_both.0 t.second_on_both.1)))

pub rings-apart : (rings : List (List Coordinates)) → AllByRecursion IsSimpleRing rings → SharesNone rings → AllApart (flat_map edges_of rings)
rings-apart [] h k = tt
rings-apart (r ∷ rs) h k =
    apart-append (edges_of r) (flat_map edges_of rs) (ring-apart r h.0)
    (rings-apart rs h.1
    (λ p q i j t. k p q i j (or_right (list_any (λ u. share_piece r u p q) rs) (any_two (λ u v. share_piece u v p q) rs) t)))
    (across r rs k)
