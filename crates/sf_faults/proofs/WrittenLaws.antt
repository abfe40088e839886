-- The edges of a line or ring with their numbers, one after another.
use Rattle.std.proofs.Common.{◌≡◌, refl, ap, sym, ◌∙◌, ℕ, suc, ◌+◌, arith, Bool, true, false, List, [], ◌∷◌, ◌++◌, append_assoc, length, map}
use Rattle.std.specs.Prelude.{if◌then◌else◌}
use Rattle.std.specs.List.{zip}
use Rattle.sf_grid.specs.Plane.{Coordinates}
use Rattle.sf_grid.specs.Edge.{Edge, edge_between}
use Rattle.sf_geometry.specs.Lists.{edges_of, is_same}
use Rattle.sf_geometry.proofs.ListLaws.{edges-step}
use Rattle.sf_faults.specs.declared.written_edge.WrittenEdge.{WrittenEdge}
use Rattle.sf_faults.specs.Written.{written}
use Rattle.sf_faults.specs.Orders.{edge_numbers, starts_from, written_edges}

-- those from a point on, which has the number n
abbrev pub written_from : ℕ → Coordinates → List Coordinates → List (ℕ × Edge)
written_from n p qs = zip (starts_from n p qs) (edges_of (p ∷ qs))

zip-by : (n : ℕ) (p q : Coordinates) (ns : List ℕ) (es : List Edge) (t : Bool)
    → zip (if t then ns else n ∷ ns) (if t then es else edge_between p q ∷ es) ≡ (if t then zip ns es else (n, edge_between p q) ∷ zip ns es)
zip-by n p q ns es true = refl
zip-by n p q ns es false = refl

written-step : (n : ℕ) (p q : Coordinates) (qs : List Coordinates)
    → written_from n p (q ∷ qs) ≡ (if is_same p q then written_from (n + 1) q qs else (n, edge_between p q) ∷ written_from (n + 1) q qs)
written-step n p q qs =
    ap (zip (starts_from n p (q ∷ qs))) (edges-step p q qs) ∙ zip-by n p q (starts_from (n + 1) q qs) (edges_of (q ∷ qs)) (is_same p q)

pub written-same : (found : List (ℕ × Edge)) (n : ℕ) (p q : Coordinates) (qs : List Coordinates) → is_same p q ≡ true
    → found ++ written_from (n + 1) q qs ≡ found ++ written_from n p (q ∷ qs)
written-same found n p q qs h =
    ap (λ es. found ++ es) (sym (written-step n p q qs ∙ ap (λ t. if t then written_from (n + 1) q qs else (n, edge_between p q) ∷ written_from (n + 1) q qs) h))

pub written-other : (found : List (ℕ × Edge)) (n : ℕ) (p q : Coordinates) (qs : List Coordinates) → is_same p q ≡ false
    → (found ++ (n, edge_between p q) ∷ []) ++ written_from (n + 1) q qs ≡ found ++ written_from n p (q ∷ qs)
written-other found n p q qs h =
    append_assoc found ((n, edge_between p q) ∷ []) (written_from (n + 1) q qs)
    ∙ ap (λ es. found ++ es) (sym (written-step n p q qs ∙ ap (λ t. if t then written_from (n + 1) q qs else (n, edge_between p q) ∷ written_from (n + 1) q qs) h))

-- there are as many numbers as edges
numbers-by : (t : Bool) (n : ℕ) (ns : List ℕ) (e : Edge) (es : List Edge) → length ns ≡ length es → length (if t then ns else n ∷ ns) ≡ length (if t then es else e ∷ es)
numbers-by true n ns e es h = h
numbers-by false n ns e es h = ap suc h

numbers-from : (n : ℕ) (p : Coordinates) (qs : List Coordinates) → length (starts_from n p qs) ≡ length (edges_of (p ∷ qs))
numbers-from n p [] = refl
numbers-from n p (q ∷ qs) =
    numbers-by (is_same p q) n (starts_from (n + 1) q qs) (edge_between p q) (edges_of (q ∷ qs)) (numbers-from (n + 1) q qs) ∙ ap length (sym (edges-step p q qs))

pub numbers-counted : (ps : List Coordinates) → length (edge_numbers ps) ≡ length (edges_of ps)
numbers-counted [] = refl
numbers-counted (p ∷ ps) = numbers-from 0 p ps

zip-counted : (ns : List ℕ) (es : List Edge) → length ns ≡ length es → length (zip ns es) ≡ length es
zip-counted [] [] h = refl
zip-counted [] (e ∷ es) h = cc
zip-counted (n ∷ ns) [] h = cc
zip-counted (n ∷ ns) (e ∷ es) h = ap suc (zip-counted ns es (omega (arith, h)))

pub written-counted : (ps : List Coordinates) → length (written_edges ps) ≡ length (edges_of ps)
written-counted ps = zip-counted (edge_numbers ps) (edges_of ps) (numbers-counted ps)

-- a list that is read into
pub moved-list : (es fs : List WrittenEdge) (ps : List Coordinates) → fs ≡ es → map written es ≡ written_edges ps → map written fs ≡ written_edges ps
moved-list es fs ps e h = ap (map written) e ∙ h
