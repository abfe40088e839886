-- A line meets itself at a point just where two strands of it are there.
use Rattle.std.proofs.Common.{◌≡◌, ℕ, ◌+◌, Bool, true, false, List, [], ◌∷◌, drop, length, refl, ap, sym, ◌∙◌, subst, arith, nat_le}
use Rattle.std.specs.Prelude.{if◌then◌else◌}
use Rattle.std.specs.List.{count_by, enumerate_from}
use Rattle.std.proofs.lemmas.Bool.{false≢true}
use Rattle.sf_grid.specs.Plane.{Coordinates, IsPoint, Point}
use Rattle.sf_grid.specs.Edge.{Edge, edge_between, on_edge}
use Rattle.sf_geometry.specs.Lists.{edges_between, edges_from, is_closed, is_same, last_from, tight}
use Rattle.sf_geometry.proofs.ListLaws.{same-is}
use Rattle.sf_valid_rules.specs.Conditions.{any_two}
use Rattle.sf_strands.specs.Strands.{StrandsDecide}
use Rattle.sf_strands.proofs.ChainLaws.{IsChain, bit, closed-strands, crosses-strands, joint_count, on_count}
use Rattle.sf_strands.proofs.EndLaws.{both-same, start-same-on}
use Rattle.sf_strands.proofs.LinkLaws.{count_by-cons, edges-IsChain, is_at, joint_count-starts, last_ends-last, link_of, links, on_count-edges, starts}
use Rattle.sf_strands.proofs.NumberedLaws.{begins-elsewhere, begins-here, meet_apart, open-crosses}
use Rattle.sf_strands.specs.Tight.{IsTight, IsTightFrom}
use Rattle.sf_strands.proofs.TightLaws.{tight-IsTight, tight-closed}

-- ---- of edges in a row, and whether the first and the last of them have a joint
abbrev pub joints_by : Bool → List Edge → List Coordinates
joints_by closed es = if closed then starts es else drop 1 (starts es)

abbrev pub meets_by : Bool → List Edge → Point → Bool
meets_by closed es p = any_two (meet_apart closed (length es) p) (enumerate_from 0 es)

abbrev strands_by : Bool → List Edge → Point → Bool
strands_by closed es p = nat_le (count_by (is_at p) (joints_by closed es) + 2) (count_by (λ e. on_edge e p) es)

-- the counts of edges and of joints but that of the first and the last are those of the links
open-strands : (p : Point) (a : Coordinates) (qs : List Coordinates) →
    nat_le (joint_count (links p (edges_from a qs)) + 2) (on_count (links p (edges_from a qs))) ≡ strands_by false (edges_from a qs) p
open-strands p a qs =
    ap (λ n. nat_le (n + 2) (on_count (links p (edges_from a qs)))) (joint_count-starts p a qs)
    ∙ ap (nat_le (count_by (is_at p) (drop 1 (starts (edges_from a qs))) + 2)) (on_count-edges p (edges_from a qs))

open-decide : (p : Point) → IsPoint p → (a : Coordinates) (qs : List Coordinates) → IsTightFrom a qs → meets_by false (edges_from a qs) p ≡ strands_by false (edges_from a qs) p
open-decide p o a qs h =
    open-crosses (length (edges_from a qs)) 0 p (edges_from a qs)
    ∙ crosses-strands (is_at p a) (links p (edges_from a qs)) (edges-IsChain p o a qs h)
    ∙ open-strands p a qs

-- ---- closed lines: the first point is a joint too
pub closed-joints : (p : Point) (a q : Coordinates) (qs : List Coordinates) →
    count_by (is_at p) (joints_by true (edges_from a (q ∷ qs))) ≡ bit (is_at p a) + joint_count (links p (edges_from a (q ∷ qs)))
closed-joints p a q qs =
    count_by-cons (is_at p) a (starts (edges_from q qs)) ∙ ap (λ n. bit (is_at p a) + n) (sym (joint_count-starts p a (q ∷ qs)))

closed-decide : (p : Point) → IsPoint p → (a : Coordinates) (qs : List Coordinates) → IsTightFrom a qs → a ≡ last_from a qs →
    meets_by true (edges_from a qs) p ≡ strands_by true (edges_from a qs) p
closed-decide p o a [] h e = refl
closed-decide p o a (q ∷ qs) h e = by_start (is_at p a) refl qs h e
  where
    counted : (qs : List Coordinates) (b : Bool) → is_at p a ≡ b →
        nat_le (joint_count (links p (edges_from a (q ∷ qs))) + bit b + 2) (on_count (links p (edges_from a (q ∷ qs)))) ≡ strands_by true (edges_from a (q ∷ qs)) p
    counted qs b k =
        ap (λ c. nat_le (joint_count (links p (edges_from a (q ∷ qs))) + bit c + 2) (on_count (links p (edges_from a (q ∷ qs))))) (sym k)
        ∙ ap (λ n. nat_le (n + 2) (on_count (links p (edges_from a (q ∷ qs))))) (turned (joint_count (links p (edges_from a (q ∷ qs)))) (bit (is_at p a)) ∙ sym (closed-joints p a q qs))
        ∙ ap (nat_le (count_by (is_at p) (joints_by true (edges_from a (q ∷ qs))) + 2)) (on_count-edges p (edges_from a (q ∷ qs)))
      where
        turned : (m n : ℕ) → m + n ≡ n + m
        turned m n = omega arith

    by_start : (b : Bool) → is_at p a ≡ b → (qs : List Coordinates) → IsTightFrom a (q ∷ qs) → a ≡ last_from q qs →
        meets_by true (edges_from a (q ∷ qs)) p ≡ strands_by true (edges_from a (q ∷ qs)) p
    by_start false k qs h e =
        begins-elsewhere true (length (edges_from a (q ∷ qs))) p (edge_between a q) (edges_from q qs) k
        ∙ crosses-strands (is_at p a) (links p (edges_from a (q ∷ qs))) (edges-IsChain p o a (q ∷ qs) h)
        ∙ ap (λ n. nat_le (n + 2) (on_count (links p (edges_from a (q ∷ qs))))) (plus_none (joint_count (links p (edges_from a (q ∷ qs)))))
        ∙ counted qs false k
      where
        plus_none : (n : ℕ) → n ≡ n + 0
        plus_none n = omega arith
    by_start true k [] h e = absurd (false≢true (sym h.0 ∙ both-same a q p o k (ap (is_at p) (sym e) ∙ k)))
    by_start true k (r ∷ rs) h e =
        begins-here p (edge_between a q) (edge_between q r) (edges_from r rs)
        (start-same-on a q p o k) away k
        (let P : Bool → Type 0 = λ t. IsChain t (links p (edges_from q (r ∷ rs))) in subst P away (edges-IsChain p o q (r ∷ rs) h.1))
        (last_ends-last p q r rs ∙ ends_here)
        ∙ closed-strands (link_of p (edge_between a q)) (link_of p (edge_between q r)) (links p (edges_from r rs))
        (let P : Bool → Type 0 = λ t. IsChain t (links p (edges_from a (q ∷ r ∷ rs))) in subst P k (edges-IsChain p o a (q ∷ r ∷ rs) h))
        (last_ends-last p q r rs ∙ ends_here)
        ∙ counted (r ∷ rs) true k
      where
        ends_here : is_at p (last_from r rs) ≡ true
        ends_here = ap (is_at p) (sym e) ∙ k

        away : is_at p q ≡ false
        away = other (is_at p q) refl
          where
            other : (b : Bool) → is_at p q ≡ b → b ≡ false
            other true l = absurd (false≢true (sym h.0 ∙ both-same a q p o k l))
            other false l = refl

-- ---- of a list of points
decide : (p : Point) → IsPoint p → (ts : List Coordinates) → IsTight ts → meets_by (is_closed ts) (edges_between ts) p ≡ strands_by (is_closed ts) (edges_between ts) p
decide p o [] h = refl
decide p o (a ∷ qs) h = by_closed (is_same a (last_from a qs)) refl
  where
    by_closed : (c : Bool) → is_same a (last_from a qs) ≡ c → meets_by c (edges_from a qs) p ≡ strands_by c (edges_from a qs) p
    by_closed true k = closed-decide p o a qs h (same-is a (last_from a qs) k)
    by_closed false k = open-decide p o a qs h

pub strands_decide : StrandsDecide
strands_decide ps p o =
    ap (λ c. meets_by c (edges_between (tight ps)) p) (sym (tight-closed ps))
    ∙ decide p o (tight ps) (tight-IsTight ps)
    ∙ ap (λ c. strands_by c (edges_between (tight ps)) p) (tight-closed ps)
