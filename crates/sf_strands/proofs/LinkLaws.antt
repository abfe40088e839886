-- The edges of a tight list, as links of a chain at a point: the counts of links are those of edges, joints and ends.
use Rattle.std.proofs.Common.{◌≡◌, ◌+◌, Bool, List, [], ◌∷◌, refl, ap, sym, ◌∙◌, drop, map}
use Rattle.std.specs.List.{count_by}
use Rattle.std.proofs.lemmas.List.Sums.{sum_by-cons}
use Rattle.sf_grid.specs.Plane.{Coordinates, IsPoint, Point, grid_point, same_point}
use Rattle.sf_grid.specs.Edge.{Edge, edge_between, on_edge}
use Rattle.sf_geometry.specs.Lists.{edges_from, last_from}
use Rattle.sf_strands.proofs.ChainLaws.{IsChain, Link, bit, joint_count, last_ends, on_count}
use Rattle.sf_strands.proofs.EndLaws.{one-end}
use Rattle.sf_strands.specs.Tight.{IsTightFrom}

-- an edge as the point sees it
abbrev pub link_of : Point → Edge → Link
link_of p e = record { on = on_edge e p; ends = same_point (grid_point e.b) p }

abbrev pub links : Point → List Edge → List Link
links p es = map (link_of p) es

abbrev pub is_at : Point → Coordinates → Bool
is_at p q = same_point (grid_point q) p

pub edges-IsChain : (p : Point) → IsPoint p → (a : Coordinates) (qs : List Coordinates) → IsTightFrom a qs → IsChain (is_at p a) (links p (edges_from a qs))
edges-IsChain p o a [] h = tt
edges-IsChain p o a (q ∷ qs) h = (one-end a q p o h.0, edges-IsChain p o q qs h.1)

pub count_by-cons : {X : Type 0} (test : X → Bool) (x : X) (xs : List X) → count_by test (x ∷ xs) ≡ bit (test x) + count_by test xs
count_by-cons test x xs = sum_by-cons (λ y. bit (test y)) x xs

pub on_count-edges : (p : Point) (es : List Edge) → on_count (links p es) ≡ count_by (λ e. on_edge e p) es
on_count-edges p [] = refl
on_count-edges p (e ∷ es) = ap (λ n. bit (on_edge e p) + n) (on_count-edges p es) ∙ sym (count_by-cons (λ f. on_edge f p) e es)

abbrev pub starts : List Edge → List Coordinates
starts es = map (λ e. e.a) es

pub joint_count-starts : (p : Point) (a : Coordinates) (qs : List Coordinates) →
    joint_count (links p (edges_from a qs)) ≡ count_by (is_at p) (drop 1 (starts (edges_from a qs)))
joint_count-starts p a [] = refl
joint_count-starts p a (q ∷ []) = refl
joint_count-starts p a (q ∷ r ∷ rs) =
    ap (λ n. bit (is_at p q) + n) (joint_count-starts p q (r ∷ rs)) ∙ sym (count_by-cons (is_at p) q (starts (edges_from r rs)))

pub last_ends-last : (p : Point) (a q : Coordinates) (qs : List Coordinates) →
    last_ends (link_of p (edge_between a q)) (links p (edges_from q qs)) ≡ is_at p (last_from q qs)
last_ends-last p a q [] = refl
last_ends-last p a q (r ∷ rs) = last_ends-last p q r rs
