-- What a search has passed over, and what is left of it.
use Rattle.std.proofs.Common.{◌≡◌, ◌≢◌, ℕ, ◌+◌, ◌<◌, ◌≤◌, ◌⊎◌, inl, inr, List, [], ◌∷◌, ◌++◌, false, length, take, drop, refl, ap, sym, ◌∙◌, subst, arith, take_all, true≢false, IsTrue, zero, suc, get_or}
use Rattle.std.proofs.lemmas.Bool.{cases_lt}
use Rattle.std.proofs.lemmas.List.{take-append-drop}
use Rattle.sf_grid.specs.Plane.{Coordinates}
use Rattle.sf_geometry.specs.declared.extent.Extent.{Extent}
use Rattle.sf_geometry.specs.Envelope.{extents_meet}
use Rattle.sf_edge_tree.specs.declared.node.Node.{Node}
use Rattle.sf_edge_tree.specs.Boxes.{edge_at, extent_at_edge, extent_of_edge}
use Rattle.sf_edge_tree.specs.Nodes.{AreNodes, IsNode, end_of}
use Rattle.sf_edge_tree.specs.Searches.{HasNear}
use Rattle.sf_edge_tree.proofs.BoxLaws.{hits}
use Rattle.sf_edge_tree.proofs.NodeLaws.{end-last, front-of, last-of}

-- ---- an edge that was read
same-read : {X : Type 0} (xs : List X) (i : ℕ) (x d : X) → i < length xs → get_or xs i x ≡ get_or xs i d
same-read [] i x d h = absurd (omega (arith, h))
same-read (y ∷ ys) zero x d h = refl
same-read (y ∷ ys) (suc i) x d h = same-read ys i x d (omega (arith, h))

pub edge-read : (edges : List (Coordinates × Coordinates)) (i : ℕ) (e : Coordinates × Coordinates) → i < length edges → e ≡ get_or edges i e → e ≡ edge_at edges i
edge-read edges i e h is = is ∙ same-read edges i e _ h

pub box-read : (edges : List (Coordinates × Coordinates)) (i : ℕ) (e : Coordinates × Coordinates) (box : Extent) → i < length edges → e ≡ get_or edges i e → box ≡ extent_of_edge e → box ≡ extent_at_edge edges i
box-read edges i e box h is made = made ∙ ap extent_of_edge (edge-read edges i e h is)

-- ---- ranges of edges
pub none-yet : (edges : List (Coordinates × Coordinates)) (q : Extent) (n : ℕ) (P : ℕ → Type 0) → ¬ (HasNear edges q n n P)
none-yet edges q n P m = omega (arith, m.behind, m.before)

pub none-more : (edges : List (Coordinates × Coordinates)) (q : Extent) (from n : ℕ) (P : ℕ → Type 0) → ¬ (HasNear edges q from n P) → (IsTrue (extents_meet (extent_at_edge edges n) q) → ¬ (P n)) → ¬ (HasNear edges q from (n + 1) P)
none-more edges q from n P none here m = by (cases_lt m.edge n)
  where
    by : (m.edge < n) ⊎ (n ≤ m.edge) → ⊥
    by (inl b) = none (record { edge = m.edge; behind = m.behind; before = b; near = m.near; passes = m.passes })
    by (inr b) =
        let at : m.edge ≡ n = omega (arith, b, m.before) in
        here (subst (λ i. IsTrue (extents_meet (extent_at_edge edges i) q)) at m.near) (subst P at m.passes)

pub none-both : (edges : List (Coordinates × Coordinates)) (q : Extent) (a b c : ℕ) (P : ℕ → Type 0) → ¬ (HasNear edges q a b P) → ¬ (HasNear edges q b c P) → ¬ (HasNear edges q a c P)
none-both edges q a b c P first second m = by (cases_lt m.edge b)
  where
    by : (m.edge < b) ⊎ (b ≤ m.edge) → ⊥
    by (inl l) = first (record { edge = m.edge; behind = m.behind; before = l; near = m.near; passes = m.passes })
    by (inr l) = second (record { edge = m.edge; behind = l; before = m.before; near = m.near; passes = m.passes })

-- ---- what is left of a search: the nodes of the first edges, and none of the edges behind those passes
pub record IsLeft (edges : List (Coordinates × Coordinates)) (nodes left : List Node) (q : Extent) (P : ℕ → Type 0) : Type 0 where
  pub tree : AreNodes edges left
  pub within : end_of left ≤ end_of nodes
  pub none : ¬ (HasNear edges q (end_of left) (end_of nodes) P)

pub left-first : (edges : List (Coordinates × Coordinates)) (nodes : List Node) (q : Extent) (P : ℕ → Type 0) → AreNodes edges nodes → IsLeft edges nodes nodes q P
left-first edges nodes q P t = record { tree = t; within = omega arith; none = none-yet edges q (end_of nodes) P }

-- the last node of what is left
pub record IsLast (edges : List (Coordinates × Coordinates)) (nodes before : List Node) (node : Node) (q : Extent) (P : ℕ → Type 0) : Type 0 where
  pub is_node : IsNode edges before node
  pub tree : AreNodes edges before
  pub within : node.end ≤ end_of nodes
  pub none : ¬ (HasNear edges q node.end (end_of nodes) P)

pub last-left : (edges : List (Coordinates × Coordinates)) (nodes left before : List Node) (node : Node) (q : Extent) (P : ℕ → Type 0) → left ≡ before ++ node ∷ [] → IsLeft edges nodes left q P → IsLast edges nodes before node q P
last-left edges nodes left before node q P is l =
    let tree : AreNodes edges (before ++ node ∷ []) = subst (AreNodes edges) is l.tree in
    let end : end_of left ≡ node.end = ap end_of is ∙ end-last before node in
    record {
      is_node = last-of edges [] before node tree;
      tree = front-of edges [] before (node ∷ []) tree;
      within = subst (λ n. n ≤ end_of nodes) end l.within;
      none = subst (λ n. ¬ (HasNear edges q n (end_of nodes) P)) end l.none;
    }

-- a node whose box is apart is passed over with all that is below it
pub left-apart : (edges : List (Coordinates × Coordinates)) (nodes before rest : List Node) (node : Node) (q : Extent) (P : ℕ → Type 0) → IsLast edges nodes before node q P → extents_meet node.extent q ≡ false → rest ≡ take node.begin before → IsLeft edges nodes rest q P
left-apart edges nodes before rest node q P l apart is =
    let n : IsNode edges before node = l.is_node in
    let start : node.start ≡ end_of rest = n.starts ∙ ap end_of (sym is) in
    record {
      tree = subst (AreNodes edges) (sym is) (front-of edges [] (take node.begin before) (drop node.begin before) (subst (AreNodes edges) (sym (take-append-drop node.begin before)) l.tree));
      within = omega (arith, start, n.in_order, l.within);
      none =
          none-both edges q (end_of rest) node.end (end_of nodes) P
          (λ m. true≢false (sym (hits node.extent (extent_at_edge edges m.edge) q (n.covering m.edge (omega (arith, start, m.behind)) m.before) m.near) ∙ apart))
          l.none;
    }

pub run-start : (edges : List (Coordinates × Coordinates)) (before : List Node) (node : Node) → IsNode edges before node → node.begin ≡ length before → node.start ≡ end_of before
run-start edges before node n is = n.starts ∙ ap end_of (ap (λ k. take k before) is ∙ take_all (length before) before (omega arith))

-- of a run each edge was tried
pub left-run : (edges : List (Coordinates × Coordinates)) (nodes before : List Node) (node : Node) (q : Extent) (P : ℕ → Type 0) → IsLast edges nodes before node q P → node.begin ≡ length before → ¬ (HasNear edges q node.start node.end P) → IsLeft edges nodes before q P
left-run edges nodes before node q P l is none =
    let start : node.start ≡ end_of before = run-start edges before node l.is_node is in
    record {
      tree = l.tree;
      within = omega (arith, start, l.is_node.in_order, l.within);
      none = none-both edges q (end_of before) node.end (end_of nodes) P (subst (λ n. ¬ (HasNear edges q n node.end P)) start none) l.none;
    }

-- below any other node are those before it
pub left-inner : (edges : List (Coordinates × Coordinates)) (nodes before : List Node) (node : Node) (q : Extent) (P : ℕ → Type 0) → IsLast edges nodes before node q P → node.begin ≢ length before → IsLeft edges nodes before q P
left-inner edges nodes before node q P l other =
    let end : node.end ≡ end_of before = l.is_node.inner (omega (arith, l.is_node.begin_in, other)) in
    record {
      tree = l.tree;
      within = subst (λ n. n ≤ end_of nodes) end l.within;
      none = subst (λ n. ¬ (HasNear edges q n (end_of nodes) P)) end l.none;
    }

pub none-end : (nodes : List Node) → length nodes ≡ 0 → end_of nodes ≡ 0
none-end [] is = refl
none-end (node ∷ nodes) is = absurd (omega (arith, is))

pub left-none : (edges : List (Coordinates × Coordinates)) (nodes left : List Node) (q : Extent) (P : ℕ → Type 0) → length left ≡ 0 → IsLeft edges nodes left q P → ¬ (HasNear edges q 0 (end_of nodes) P)
left-none edges nodes left q P is l = subst (λ n. ¬ (HasNear edges q n (end_of nodes) P)) (none-end left is) l.none

pub found-below : (edges : List (Coordinates × Coordinates)) (nodes before : List Node) (node : Node) (q : Extent) (P : ℕ → Type 0) → IsLast edges nodes before node q P → HasNear edges q node.start node.end P → HasNear edges q 0 (end_of nodes) P
found-below edges nodes before node q P l m =
    record { edge = m.edge; behind = omega arith; before = omega (arith, m.before, l.within); near = m.near; passes = m.passes }
