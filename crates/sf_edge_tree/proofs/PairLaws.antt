-- Pairs of edges that a search has passed over.
use Rattle.std.proofs.Common.{◌≡◌, ◌≢◌, ℕ, ◌+◌, ◌<◌, ◌≤◌, ◌⊎◌, inl, inr, List, [], ◌∷◌, ◌++◌, length, refl, ap, sym, ◌∙◌, subst, arith, IsTrue}
use Rattle.std.proofs.lemmas.Bool.{cases_lt}
use Rattle.sf_grid.specs.Plane.{Coordinates}
use Rattle.sf_geometry.specs.declared.extent.Extent.{Extent}
use Rattle.sf_geometry.specs.Envelope.{extents_meet}
use Rattle.sf_edge_tree.specs.declared.node.Node.{Node}
use Rattle.sf_edge_tree.specs.declared.outcome.Outcome.{Outcome}
use Rattle.sf_edge_tree.specs.declared.outcome.Outcome.TheVariants.{Absent, Found, GaveUp}
use Rattle.sf_edge_tree.specs.Boxes.{extent_at_edge}
use Rattle.sf_edge_tree.specs.Nodes.{AreNodes, HasBoxes, IsNode, IsTree, end_of}
use Rattle.sf_edge_tree.specs.Ranges.{AreWithin, InRange, IsBelow, IsEarlier}
use Rattle.sf_edge_tree.specs.Searches.{Answers, AreOneOfEach, AreTwoOf, HasNear, HasPair}
use Rattle.sf_edge_tree.proofs.BoxLaws.{hits, meet-turned}
use Rattle.sf_edge_tree.proofs.NodeLaws.{end-last, front-of, last-of}
use Rattle.sf_edge_tree.proofs.SearchLaws.{run-start, none-end}

-- ---- answers about facts that follow from one another
pub answers-as : {A B : Type 0} (r : Outcome) → (A → B) → (B → A) → Answers A r → Answers B r
answers-as Found to from a = to a
answers-as Absent to from a = λ b. a (from b)
answers-as GaveUp to from a = tt

-- an answer that ends a search is passed on
pub answers-on : {A B : Type 0} (r : Outcome) → (A → B) → r ≢ Absent → Answers A r → Answers B r
answers-on Found to other a = to a
answers-on Absent to other a = absurd (other refl)
answers-on GaveUp to other a = tt

pub answers-none : {A : Type 0} (r : Outcome) → r ≡ Absent → Answers A r → ¬ A
answers-none {A} r is a = subst (Answers A) is a

-- ---- pairs that are asked about
pub asked-as : (edges others : List (Coordinates × Coordinates)) (A B P : ℕ → ℕ → Type 0) → ((i j : ℕ) → A i j → B i j) → HasPair edges others A P → HasPair edges others B P
asked-as edges others A B P to m = record { first = m.first; second = m.second; asked = to m.first m.second m.asked; near = m.near; passes = m.passes }

-- ---- a run of others against the edges below nodes
pub near-pair : (edges others : List (Coordinates × Coordinates)) (q : Extent) (n start end : ℕ) (P : ℕ → ℕ → Type 0)
    → HasNear edges q 0 n (λ i. HasNear others (extent_at_edge edges i) start end (P i)) → HasPair edges others (InRange (IsBelow n) start end) P
near-pair edges others q n start end P m =
    record { first = m.edge; second = m.passes.edge; asked = (m.before, m.passes.behind, m.passes.before); near = m.passes.near; passes = m.passes.passes }

pub pair-near : (edges others : List (Coordinates × Coordinates)) (run : Node) (n : ℕ) (P : ℕ → ℕ → Type 0) → HasBoxes others run
    → HasPair edges others (InRange (IsBelow n) run.start run.end) P → HasNear edges run.extent 0 n (λ i. HasNear others (extent_at_edge edges i) run.start run.end (P i))
pair-near edges others run n P b m =
    record {
      edge = m.first;
      behind = omega arith;
      before = m.asked.0;
      near =
          meet-turned run.extent (extent_at_edge edges m.first)
          (hits run.extent (extent_at_edge others m.second) (extent_at_edge edges m.first) (b.covering m.second m.asked.1 m.asked.2) m.near);
      passes = record { edge = m.second; behind = m.asked.1; before = m.asked.2; near = m.near; passes = m.passes };
    }

-- ---- the edges of a run among one another
-- the first one of two is below n
abbrev pub HaveFirst : ℕ → ℕ → ℕ → ℕ → ℕ → Type 0
HaveFirst start n end first second = (first < n) × AreWithin start end first second

pub within-more : (edges : List (Coordinates × Coordinates)) (start n end : ℕ) (q : Extent) (P : ℕ → ℕ → Type 0) → q ≡ extent_at_edge edges n → ¬ (HasPair edges edges (HaveFirst start n end) P) → ¬ (HasNear edges q (n + 1) end (P n)) → ¬ (HasPair edges edges (HaveFirst start (n + 1) end) P)
within-more edges start n end q P is before here m = by (cases_lt m.first n)
  where
    by : (m.first < n) ⊎ (n ≤ m.first) → ⊥
    by (inl l) = before (record { first = m.first; second = m.second; asked = (l, m.asked.1); near = m.near; passes = m.passes })
    by (inr l) =
        let at : m.first ≡ n = omega (arith, l, m.asked.0) in
        here
        (record {
          edge = m.second;
          behind = omega (arith, at, m.asked.1.1);
          before = m.asked.1.2;
          near = subst (λ e. IsTrue (extents_meet (extent_at_edge edges m.second) e)) (ap (extent_at_edge edges) at ∙ sym is) m.near;
          passes = subst (λ i. P i m.second) at m.passes;
        })

pub within-found : (edges : List (Coordinates × Coordinates)) (start n end : ℕ) (q : Extent) (P : ℕ → ℕ → Type 0) → q ≡ extent_at_edge edges n → start ≤ n → HasNear edges q (n + 1) end (P n) → HasPair edges edges (AreWithin start end) P
within-found edges start n end q P is from m =
    record {
      first = n;
      second = m.edge;
      asked = (from, omega (arith, m.behind), m.before);
      near = subst (λ e. IsTrue (extents_meet (extent_at_edge edges m.edge) e)) is m.near;
      passes = m.passes;
    }

pub within-none : (edges : List (Coordinates × Coordinates)) (start n end : ℕ) (P : ℕ → ℕ → Type 0) → end ≤ n → ¬ (HasPair edges edges (HaveFirst start n end) P) → ¬ (HasPair edges edges (AreWithin start end) P)
within-none edges start n end P h none m =
    none (record { first = m.first; second = m.second; asked = (omega (arith, h, m.asked.1, m.asked.2), m.asked); near = m.near; passes = m.passes })

-- ---- a run against itself and what stands before it
pub run-found : (edges : List (Coordinates × Coordinates)) (start end : ℕ) (P : ℕ → ℕ → Type 0) → HasPair edges edges (AreWithin start end) P → HasPair edges edges (InRange IsEarlier start end) P
run-found edges start end P m =
    record { first = m.first; second = m.second; asked = (m.asked.1, omega (arith, m.asked.0, m.asked.1), m.asked.2); near = m.near; passes = m.passes }

pub run-answers : (edges : List (Coordinates × Coordinates)) (start end n : ℕ) (P : ℕ → ℕ → Type 0) (r : Outcome) → n ≡ start → ¬ (HasPair edges edges (AreWithin start end) P)
    → Answers (HasPair edges edges (InRange (IsBelow n) start end) P) r → Answers (HasPair edges edges (InRange IsEarlier start end) P) r
run-answers edges start end n P r at none a =
    answers-as r (λ m. record { first = m.first; second = m.second; asked = (omega (arith, at, m.asked.0, m.asked.1), m.asked.1, m.asked.2); near = m.near; passes = m.passes })
    (λ m. by m (cases_lt m.first start))
    a
  where
    by : (m : HasPair edges edges (InRange IsEarlier start end) P) → (m.first < start) ⊎ (start ≤ m.first) → HasPair edges edges (InRange (IsBelow n) start end) P
    by m (inl l) = record { first = m.first; second = m.second; asked = (omega (arith, l, at), m.asked.1, m.asked.2); near = m.near; passes = m.passes }
    by m (inr l) = absurd (none (record { first = m.first; second = m.second; asked = (l, m.asked.0, m.asked.2); near = m.near; passes = m.passes }))

-- ---- run after run
-- what is left of the nodes of others: with the edges behind those no pair passes
pub record IsLeftOf (edges others : List (Coordinates × Coordinates)) (nodes left : List Node) (A P : ℕ → ℕ → Type 0) : Type 0 where
  pub tree : AreNodes others left
  pub within : end_of left ≤ end_of nodes
  pub none : ¬ (HasPair edges others (InRange A (end_of left) (end_of nodes)) P)

pub runs-first : (edges others : List (Coordinates × Coordinates)) (nodes : List Node) (A P : ℕ → ℕ → Type 0) → AreNodes others nodes → IsLeftOf edges others nodes nodes A P
runs-first edges others nodes A P t = record { tree = t; within = omega arith; none = λ m. omega (arith, m.asked.1, m.asked.2) }

-- the last node of what is left
pub record IsLastOf (edges others : List (Coordinates × Coordinates)) (nodes before : List Node) (node : Node) (A P : ℕ → ℕ → Type 0) : Type 0 where
  pub is_node : IsNode others before node
  pub tree : AreNodes others before
  pub within : node.end ≤ end_of nodes
  pub none : ¬ (HasPair edges others (InRange A node.end (end_of nodes)) P)

pub runs-last : (edges others : List (Coordinates × Coordinates)) (nodes left before : List Node) (node : Node) (A P : ℕ → ℕ → Type 0) → left ≡ before ++ node ∷ [] → IsLeftOf edges others nodes left A P → IsLastOf edges others nodes before node A P
runs-last edges others nodes left before node A P is l =
    let tree : AreNodes others (before ++ node ∷ []) = subst (AreNodes others) is l.tree in
    let end : end_of left ≡ node.end = ap end_of is ∙ end-last before node in
    record {
      is_node = last-of others [] before node tree;
      tree = front-of others [] before (node ∷ []) tree;
      within = subst (λ n. n ≤ end_of nodes) end l.within;
      none = subst (λ n. ¬ (HasPair edges others (InRange A n (end_of nodes)) P)) end l.none;
    }

-- a run was tried
pub runs-more : (edges others : List (Coordinates × Coordinates)) (nodes before : List Node) (node : Node) (A P : ℕ → ℕ → Type 0) → IsLastOf edges others nodes before node A P → node.begin ≡ length before
    → ¬ (HasPair edges others (InRange A node.start node.end) P) → IsLeftOf edges others nodes before A P
runs-more edges others nodes before node A P l is none =
    let start : node.start ≡ end_of before = run-start others before node l.is_node is in
    record {
      tree = l.tree;
      within = omega (arith, start, l.is_node.in_order, l.within);
      none = λ m. by start m (cases_lt m.second node.end);
    }
  where
    by : node.start ≡ end_of before → (m : HasPair edges others (InRange A (end_of before) (end_of nodes)) P) → (m.second < node.end) ⊎ (node.end ≤ m.second) → ⊥
    by start m (inl h) = none (record { first = m.first; second = m.second; asked = (m.asked.0, omega (arith, start, m.asked.1), h); near = m.near; passes = m.passes })
    by start m (inr h) = l.none (record { first = m.first; second = m.second; asked = (m.asked.0, h, m.asked.2); near = m.near; passes = m.passes })

pub runs-inner : (edges others : List (Coordinates × Coordinates)) (nodes before : List Node) (node : Node) (A P : ℕ → ℕ → Type 0) → IsLastOf edges others nodes before node A P → node.begin ≢ length before → IsLeftOf edges others nodes before A P
runs-inner edges others nodes before node A P l other =
    let end : node.end ≡ end_of before = l.is_node.inner (omega (arith, l.is_node.begin_in, other)) in
    record {
      tree = l.tree;
      within = subst (λ n. n ≤ end_of nodes) end l.within;
      none = subst (λ n. ¬ (HasPair edges others (InRange A n (end_of nodes)) P)) end l.none;
    }

pub runs-none : (edges others : List (Coordinates × Coordinates)) (nodes left : List Node) (A P : ℕ → ℕ → Type 0) → length left ≡ 0 → IsLeftOf edges others nodes left A P → ¬ (HasPair edges others (InRange A 0 (end_of nodes)) P)
runs-none edges others nodes left A P is l = subst (λ n. ¬ (HasPair edges others (InRange A n (end_of nodes)) P)) (none-end left is) l.none

pub runs-found : (edges others : List (Coordinates × Coordinates)) (nodes before : List Node) (node : Node) (A P : ℕ → ℕ → Type 0) → IsLastOf edges others nodes before node A P → HasPair edges others (InRange A node.start node.end) P → HasPair edges others (InRange A 0 (end_of nodes)) P
runs-found edges others nodes before node A P l m =
    record { first = m.first; second = m.second; asked = (m.asked.0, omega arith, omega (arith, m.asked.2, l.within)); near = m.near; passes = m.passes }

-- ---- all pairs
pub two-asked : (edges : List (Coordinates × Coordinates)) (nodes : List Node) (P : ℕ → ℕ → Type 0) → IsTree edges nodes → HasPair edges edges (InRange IsEarlier 0 (end_of nodes)) P → HasPair edges edges (AreTwoOf edges) P
two-asked edges nodes P t = asked-as edges edges (InRange IsEarlier 0 (end_of nodes)) (AreTwoOf edges) P (λ i j a. (a.0, omega (arith, a.2, t.all)))

pub two-left : (edges : List (Coordinates × Coordinates)) (nodes : List Node) (P : ℕ → ℕ → Type 0) → IsTree edges nodes → HasPair edges edges (AreTwoOf edges) P → HasPair edges edges (InRange IsEarlier 0 (end_of nodes)) P
two-left edges nodes P t = asked-as edges edges (AreTwoOf edges) (InRange IsEarlier 0 (end_of nodes)) P (λ i j a. (a.0, omega arith, omega (arith, a.1, t.all)))

pub each-asked : (edges others : List (Coordinates × Coordinates)) (nodes other_nodes : List Node) (P : ℕ → ℕ → Type 0) → IsTree edges nodes → IsTree others other_nodes
    → HasPair edges others (InRange (IsBelow (end_of nodes)) 0 (end_of other_nodes)) P → HasPair edges others (AreOneOfEach edges others) P
each-asked edges others nodes other_nodes P t u =
    asked-as edges others (InRange (IsBelow (end_of nodes)) 0 (end_of other_nodes)) (AreOneOfEach edges others) P (λ i j a. (omega (arith, a.0, t.all), omega (arith, a.2, u.all)))

pub each-left : (edges others : List (Coordinates × Coordinates)) (nodes other_nodes : List Node) (P : ℕ → ℕ → Type 0) → IsTree edges nodes → IsTree others other_nodes
    → HasPair edges others (AreOneOfEach edges others) P → HasPair edges others (InRange (IsBelow (end_of nodes)) 0 (end_of other_nodes)) P
each-left edges others nodes other_nodes P t u =
    asked-as edges others (AreOneOfEach edges others) (InRange (IsBelow (end_of nodes)) 0 (end_of other_nodes)) P (λ i j a. (omega (arith, a.0, t.all), omega arith, omega (arith, a.1, u.all)))
