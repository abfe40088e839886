-- Vertices: columns from the left, each from the top, is an order in which any two compare; and what begins at a vertex is an edge of its piece.
use Rattle.std.proofs.Common.{◌≡◌, refl, ap, sym, subst, ◌∙◌, ℕ, zero, suc, ◌<◌, ℤ, Bool, true, false, cond, ◌&&◌, ◌||◌, arith, List, [], ◌∷◌, length, Option, Some, None}
use Rattle.std.specs.Prelude.{int_lt}
use Rattle.std.proofs.Math.Bool.{Bool-set}
use Rattle.std.specs.Cmp.{IsStrictWeakOrder}
use Rattle.std.specs.List.{AllByRecursion, Contains}
use Rattle.std.specs.Ordering.{int_eq}
use Rattle.std.proofs.lemmas.Bool.{false≢true}
use Rattle.std.proofs.lemmas.Int.{ints}
use Rattle.std.proofs.lemmas.List.Elements.{All-contains, All-from_recursion}
use Rattle.sf_grid.specs.Edge.{Edge as Line, edge_between, is_vertical, left_end, right_end}
use Rattle.sf_grid.specs.Plane.{Coordinates}
use Rattle.sf_strips.specs.declared.active.Active.{Active}
use Rattle.sf_strips.specs.declared.piece.Piece.{Piece}
use Rattle.sf_strips.specs.declared.piece.Piece.TheVariants.{Dot, Edge}
use Rattle.sf_strips.specs.declared.vertex.Role.{Role}
use Rattle.sf_strips.specs.declared.vertex.Role.TheVariants.{Begin, Bottom, Dot as AtDot, End, Top}
use Rattle.sf_strips.specs.declared.vertex.Vertex.{Vertex}
use Rattle.sf_strips.specs.Fronts.{IsEntry, IsEntryIn, IsRun}
use Rattle.sf_strips.specs.Slanted.{RightwardEdge, rightward_by, rightward_edge}
use Rattle.sf_strips.specs.Vertices.{IsVertexIn, IsVertexOf, lower_end, piece_at, upper_end, vertex, vertex_before, vertices_of}

abbrev before : ℤ → ℤ → ℤ → ℤ → Bool
before a b c d = int_lt a c || (int_eq a c && int_lt d b)

one_way : (a b c d : ℤ) → before a b c d ≡ true → before c d a b ≡ false
one_way a b c d h = grind (arith, ints)

chained : (a b c d e f : ℤ) → before a b c d ≡ false → before c d e f ≡ false → before a b e f ≡ false
chained a b c d e f h k = grind (arith, ints)

pub vertices_ranked : IsStrictWeakOrder vertex_before
vertices_ranked =
    record {
      one_way = λ u v. one_way u.at.x u.at.y v.at.x v.at.y;
      chain = λ u v w. chained u.at.x u.at.y v.at.x v.at.y w.at.x w.at.y;
    }

-- ---- the piece with a number
pub piece_at-below : (pieces : List Piece) (i : ℕ) (p : Piece) → piece_at pieces i ≡ Some p → i < length pieces
piece_at-below [] i p h = cc
piece_at-below (q ∷ pieces) zero p h = omega arith
piece_at-below (q ∷ pieces) (suc i) p h = let k = piece_at-below pieces i p h in omega arith

-- the number of a vertex is that of a piece
pub vertex-below : (pieces : List Piece) (v : Vertex) → IsVertexOf pieces v → v.piece < length pieces
vertex-below pieces v h = by_piece (piece_at pieces v.piece) refl h
  where
    by_piece : (o : Option Piece) → piece_at pieces v.piece ≡ o → IsVertexIn o v → v.piece < length pieces
    by_piece None e k = absurd k
    by_piece (Some p) e k = piece_at-below pieces v.piece p e

-- ---- the edge that begins at a vertex
-- it is the same edge, however it was found that its right end is right of its left end
same_edge : (u v : Coordinates) (b : Bool) (h : int_lt u.x v.x ≡ b) (k : int_lt u.x v.x ≡ true) → record { left = u; right = v; rightward = k } ≡ rightward_by u v b h
same_edge u v true h k = ap (edge_by u v) (one_proof k h)
  where
    edge_by : (u v : Coordinates) → int_lt u.x v.x ≡ true → RightwardEdge
    edge_by u v l = record { left = u; right = v; rightward = l }

    one_proof : (k h : int_lt u.x v.x ≡ true) → k ≡ h
    one_proof k h = Bool-set (int_lt u.x v.x) true k h
same_edge u v false h k = absurd (false≢true (sym h ∙ k))

between_ends : (r : RightwardEdge) (u v : Coordinates) → r.left ≡ u → r.right ≡ v → r ≡ rightward_by u v (int_lt u.x v.x) refl
between_ends r u v e f =
    subst (λ (w : Coordinates). r ≡ rightward_by u w (int_lt u.x w.x) refl) f
    (subst (λ (w : Coordinates). r ≡ rightward_by w r.right (int_lt w.x r.right.x) refl) e
    (same_edge r.left r.right (int_lt r.left.x r.right.x) refl r.rightward))

-- an edge with the ends of e is e, from its left end to its right end
pub rightward_edge-is : (r : RightwardEdge) (e : Line) → r.left ≡ left_end e → r.right ≡ right_end e → r ≡ rightward_edge e
rightward_edge-is r e l m = between_ends r (left_end e) (right_end e) l m

-- and e isn't vertical
pub rightward-slants : (r : RightwardEdge) (e : Line) → r.left ≡ left_end e → r.right ≡ right_end e → is_vertical e ≡ false
rightward-slants r e l m = slants (int_lt e.b.x e.a.x) (subst (λ (w : Coordinates). int_lt (left_end e).x w.x ≡ true) m (subst (λ (w : Coordinates). int_lt w.x r.right.x ≡ true) l r.rightward))
  where
    apart : (a b : ℤ) → int_lt a b ≡ true → int_eq a b ≡ false
    apart a b h = grind (arith, ints)

    apart_too : (a b : ℤ) → int_lt b a ≡ true → int_eq a b ≡ false
    apart_too a b h = grind (arith, ints)

    slants : (t : Bool) → int_lt (cond t e.b e.a).x (cond t e.a e.b).x ≡ true → is_vertical e ≡ false
    slants true h = apart_too e.a.x e.b.x h
    slants false h = apart e.a.x e.b.x h

-- where e isn't vertical, its right end is right of its left end
runs : (e : Line) → is_vertical e ≡ false → int_lt (left_end e).x (right_end e).x ≡ true
runs e h = by_test (int_lt e.b.x e.a.x) refl
  where
    other : (a b : ℤ) → int_lt b a ≡ false → int_eq a b ≡ false → int_lt a b ≡ true
    other a b h k = grind (arith, ints)

    by_test : (t : Bool) → int_lt e.b.x e.a.x ≡ t → int_lt (cond t e.b e.a).x (cond t e.a e.b).x ≡ true
    by_test true f = f
    by_test false f = other e.a.x e.b.x f h

by-left : (u v : Coordinates) (b : Bool) (h : int_lt u.x v.x ≡ b) → b ≡ true → (rightward_by u v b h).left ≡ u
by-left u v true h k = refl
by-left u v false h k = absurd (false≢true k)

by-right : (u v : Coordinates) (b : Bool) (h : int_lt u.x v.x ≡ b) → b ≡ true → (rightward_by u v b h).right ≡ v
by-right u v true h k = refl
by-right u v false h k = absurd (false≢true k)

-- its ends
rightward_edge-left : (e : Line) → is_vertical e ≡ false → (rightward_edge e).left ≡ left_end e
rightward_edge-left e h = by-left (left_end e) (right_end e) (int_lt (left_end e).x (right_end e).x) refl (runs e h)

rightward_edge-right : (e : Line) → is_vertical e ≡ false → (rightward_edge e).right ≡ right_end e
rightward_edge-right e h = by-right (left_end e) (right_end e) (int_lt (left_end e).x (right_end e).x) refl (runs e h)

-- the vertices of an edge that isn't vertical, from any edge with its ends
pub slanted-ends : (i : ℕ) (a b : Coordinates) (r : RightwardEdge) (u v : Vertex) → r.left ≡ left_end (edge_between a b) → r.right ≡ right_end (edge_between a b) →
    u ≡ vertex r.left (Begin r) i → v ≡ vertex r.right End i → u ∷ v ∷ [] ≡ vertices_of i (Edge a b)
slanted-ends i a b r u v l m f g =
    let e = edge_between a b in
    ap (λ w. w ∷ v ∷ []) (f ∙ ap (λ (p : Coordinates). vertex p (Begin r) i) l ∙ ap (λ (s : RightwardEdge). vertex (left_end e) (Begin s) i) (rightward_edge-is r e l m))
    ∙ ap (λ w. vertex (left_end e) (Begin (rightward_edge e)) i ∷ w ∷ []) (g ∙ ap (λ (p : Coordinates). vertex p End i) m)
    ∙ ap
    (λ t. cond t (vertex (upper_end e) Top i ∷ vertex (lower_end e) Bottom i ∷ []) (vertex (left_end e) (Begin (rightward_edge e)) i ∷ vertex (right_end e) End i ∷ []))
    (sym (rightward-slants r e l m))

-- the edge of a role, or another one
abbrev edge_or : RightwardEdge → Role → RightwardEdge
edge_or d (Begin e) = e
edge_or d End = d
edge_or d Top = d
edge_or d Bottom = d
edge_or d AtDot = d

-- the edge that begins at a vertex of a piece is the piece's
begun : (p : Piece) (v : Vertex) (a : Active) → Contains (vertices_of v.piece p) v → v.role ≡ Begin a.edge → IsEntryIn (Some p) a
begun (Dot s) v a c b = All-contains Never (vertices_of v.piece (Dot s)) v (All-from_recursion Never (vertices_of v.piece (Dot s)) (λ h. cc, tt)) c b
  where
    Never : Vertex → Type 0
    Never u = u.role ≡ Begin a.edge → ⊥
begun (Edge s t) v a c b = All-contains Runs (vertices_of v.piece (Edge s t)) v (All-from_recursion Runs (vertices_of v.piece (Edge s t)) (each (is_vertical e) refl)) c b
  where
    e : Line
    e = edge_between s t

    Runs : Vertex → Type 0
    Runs u = u.role ≡ Begin a.edge → IsRun e a

    same_run : is_vertical e ≡ false → Begin (rightward_edge e) ≡ Begin a.edge → IsRun e a
    same_run f h =
        let same : rightward_edge e ≡ a.edge = ap (edge_or a.edge) h in
        record {
          slants = f;
          left = ap (λ (r : RightwardEdge). r.left) (sym same) ∙ rightward_edge-left e f;
          right = ap (λ (r : RightwardEdge). r.right) (sym same) ∙ rightward_edge-right e f;
        }

    each : (t : Bool) → is_vertical e ≡ t →
        AllByRecursion Runs (cond t
        (vertex (upper_end e) Top v.piece ∷ vertex (lower_end e) Bottom v.piece ∷ [])
        (vertex (left_end e) (Begin (rightward_edge e)) v.piece ∷ vertex (right_end e) End v.piece ∷ []))
    each true f = (λ h. cc, (λ h. cc, tt))
    each false f = (λ h. same_run f h, (λ h. cc, tt))

-- it is the edge of the piece with the vertex's number
pub start-entry : (pieces : List Piece) (v : Vertex) (a : Active) → IsVertexOf pieces v → a.piece ≡ v.piece → v.role ≡ Begin a.edge → IsEntry pieces a
start-entry pieces v a h e b = subst (λ i. IsEntryIn (piece_at pieces i) a) (sym e) (by_piece (piece_at pieces v.piece) h)
  where
    by_piece : (o : Option Piece) → IsVertexIn o v → IsEntryIn o a
    by_piece None k = absurd k
    by_piece (Some p) k = begun p v a k b
