-- Lists of nodes: a front, the last node, one more.
use Rattle.std.proofs.Common.{◌≡◌, ℕ, ◌+◌, ◌<◌, ◌≤◌, ◌⊎◌, inl, inr, List, [], ◌∷◌, ◌++◌, length, take, drop, refl, ap, sym, ◌∙◌, subst, arith, append_assoc, append-nil, take_all, IsTrue}
use Rattle.std.proofs.lemmas.Bool.{cases_lt}
use Rattle.std.proofs.lemmas.List.{take-append-drop, take-append-le}
use Rattle.std.proofs.lemmas.List.Sums.{fold-append}
use Rattle.sf_grid.specs.Plane.{Coordinates}
use Rattle.sf_geometry.specs.declared.extent.Extent.{Extent}
use Rattle.sf_edge_tree.specs.declared.node.Node.{Node}
use Rattle.sf_edge_tree.specs.Boxes.{covers, extent_at_edge, joined}
use Rattle.sf_edge_tree.specs.Nodes.{AreNodes, AreNodesBehind, HasBoxes, IsNode, IsOver, IsRun, end_of}
use Rattle.sf_edge_tree.proofs.BoxLaws.{covers-itself, joined-left, joined-right}

-- ---- lists
pub front-of : (edges : List (Coordinates × Coordinates)) (before xs ys : List Node) → AreNodesBehind edges before (xs ++ ys) → AreNodesBehind edges before xs
front-of edges before [] ys h = tt
front-of edges before (x ∷ xs) ys h = (h.0, front-of edges (before ++ x ∷ []) xs ys h.1)

pub last-of : (edges : List (Coordinates × Coordinates)) (before xs : List Node) (node : Node) → AreNodesBehind edges before (xs ++ node ∷ []) → IsNode edges (before ++ xs) node
last-of edges before [] node h = subst (λ nodes. IsNode edges nodes node) (sym (append-nil before)) h.0
last-of edges before (x ∷ xs) node h =
    subst (λ nodes. IsNode edges nodes node) (append_assoc before (x ∷ []) xs) (last-of edges (before ++ x ∷ []) xs node h.1)

pub one-more : (edges : List (Coordinates × Coordinates)) (before xs : List Node) (node : Node) → AreNodesBehind edges before xs → IsNode edges (before ++ xs) node → AreNodesBehind edges before (xs ++ node ∷ [])
one-more edges before [] node h n = (subst (λ nodes. IsNode edges nodes node) (append-nil before) n, tt)
one-more edges before (x ∷ xs) node h n =
    (h.0, one-more edges (before ++ x ∷ []) xs node h.1 (subst (λ nodes. IsNode edges nodes node) (sym (append_assoc before (x ∷ []) xs)) n))

pub end-last : (nodes : List Node) (node : Node) → end_of (nodes ++ node ∷ []) ≡ node.end
end-last nodes node = fold-append (λ end one. one.end) 0 nodes (node ∷ [])

front-taken : (nodes before rest : List Node) (n : ℕ) → nodes ≡ before ++ rest → n ≤ length before → take n before ≡ take n nodes
front-taken nodes before rest n is h = sym (ap (take n) is ∙ take-append-le n before rest h)

pub nodes-taken : (edges : List (Coordinates × Coordinates)) (nodes : List Node) (n : ℕ) → AreNodes edges nodes → AreNodes edges (take n nodes)
nodes-taken edges nodes n t = front-of edges [] (take n nodes) (drop n nodes) (subst (AreNodes edges) (sym (take-append-drop n nodes)) t)

-- ---- boxes over runs
pub cover-first : (edges : List (Coordinates × Coordinates)) (start : ℕ) (box : Extent) → box ≡ extent_at_edge edges start → (i : ℕ) → start ≤ i → i < start + 1 → IsTrue (covers box (extent_at_edge edges i))
cover-first edges start box is i from to =
    let at : start ≡ i = omega (arith, from, to) in
    subst (λ n. IsTrue (covers box (extent_at_edge edges n))) at (subst (λ e. IsTrue (covers box e)) is (covers-itself box))

pub cover-more : (edges : List (Coordinates × Coordinates)) (start n : ℕ) (box more new : Extent) → ((i : ℕ) → start ≤ i → i < n → IsTrue (covers box (extent_at_edge edges i))) → more ≡ extent_at_edge edges n → new ≡ joined box more → (i : ℕ) → start ≤ i → i < n + 1 → IsTrue (covers new (extent_at_edge edges i))
cover-more edges start n box more new before is made i from to = subst (λ e. IsTrue (covers e (extent_at_edge edges i))) (sym made) (by (cases_lt i n))
  where
    by : (i < n) ⊎ (n ≤ i) → IsTrue (covers (joined box more) (extent_at_edge edges i))
    by (inl l) = joined-left box more (extent_at_edge edges i) (before i from l)
    by (inr l) =
        let at : n ≡ i = omega (arith, l, to) in
        joined-right box more (extent_at_edge edges i)
        (subst (λ k. IsTrue (covers more (extent_at_edge edges k))) at (subst (λ e. IsTrue (covers more e)) is (covers-itself more)))

-- ---- a run behind nodes
pub run-node : (edges : List (Coordinates × Coordinates)) (nodes : List Node) (run : Node) (start begin : ℕ) → begin ≡ length nodes → end_of nodes ≡ start → IsRun edges start begin run → IsNode edges nodes run
run-node edges nodes run start begin count at r =
    record {
      begin_in = omega (arith, r.begins, count);
      starts = r.starts ∙ sym at ∙ ap end_of (sym (take_all run.begin nodes (omega (arith, r.begins, count))));
      in_order = omega (arith, r.starts, r.in_order);
      end_in = r.end_in;
      inner = λ h. absurd (omega (arith, h, r.begins, count));
      covering = λ i from to. r.covering i (omega (arith, from, r.starts)) to;
    }

pub boxes-of : (edges : List (Coordinates × Coordinates)) (nodes : List Node) (node : Node) → IsNode edges nodes node → HasBoxes edges node
boxes-of edges nodes node n = record { in_order = n.in_order; end_in = n.end_in; covering = n.covering }

-- ---- a node over the last ones
pub over-last : (edges : List (Coordinates × Coordinates)) (nodes before : List Node) (last : Node) → nodes ≡ before ++ last ∷ [] → AreNodes edges nodes → IsOver edges nodes last
over-last edges nodes before last is t =
    let n : IsNode edges before last = last-of edges [] before last (subst (AreNodes edges) is t) in
    let count : length nodes ≡ length (before ++ last ∷ []) = ap length is in
    let end : last.end ≡ end_of nodes = sym (ap end_of is ∙ end-last before last) in
    record {
      is_node =
          record {
            begin_in = omega (arith, n.begin_in, count ∙ longer before last);
            starts = n.starts ∙ ap end_of (front-taken nodes before (last ∷ []) last.begin is n.begin_in);
            in_order = n.in_order;
            end_in = n.end_in;
            inner = λ h. end;
            covering = n.covering;
          };
      ends = end;
    }
  where
    longer : (xs : List Node) (x : Node) → length (xs ++ x ∷ []) ≡ length xs + 1
    longer [] x = refl
    longer (y ∷ xs) x = omega (arith, longer xs x)

-- one node more below it, right before those that it has
pub over-more : (edges : List (Coordinates × Coordinates)) (nodes front before : List Node) (node other new : Node) → front ≡ take node.begin nodes → front ≡ before ++ other ∷ []
    → new.extent ≡ joined other.extent node.extent → new.begin ≡ other.begin → new.start ≡ other.start → new.end ≡ node.end
    → AreNodes edges nodes → IsOver edges nodes node → IsOver edges nodes new
over-more edges nodes front before node other new taken is box begin start end t o =
    let f : AreNodes edges (before ++ other ∷ []) = subst (AreNodes edges) (sym taken ∙ is) (nodes-taken edges nodes node.begin t) in
    let n : IsNode edges before other = last-of edges [] before other f in
    let next : node.start ≡ other.end = o.is_node.starts ∙ ap end_of (sym taken ∙ is) ∙ end-last before other in
    let whole : nodes ≡ before ++ (other ∷ [] ++ drop node.begin nodes) =
    sym (take-append-drop node.begin nodes) ∙ ap (λ xs. xs ++ drop node.begin nodes) (sym taken ∙ is) ∙ append_assoc before (other ∷ []) (drop node.begin nodes)
    in
    record {
      is_node =
          record {
            begin_in = omega (arith, begin, n.begin_in, shorter nodes before (other ∷ [] ++ drop node.begin nodes) whole);
            starts =
                start ∙ n.starts ∙ ap end_of (front-taken nodes before (other ∷ [] ++ drop node.begin nodes) other.begin whole n.begin_in) ∙ ap (λ k. end_of (take k nodes)) (sym begin);
            in_order = omega (arith, start, n.in_order, next, o.is_node.in_order, end);
            end_in = omega (arith, end, o.is_node.end_in);
            inner = λ h. end ∙ o.ends;
            covering =
                λ i from to.
                subst (λ e. IsTrue (covers e (extent_at_edge edges i))) (sym box)
                (by n next i (omega (arith, from, start)) (omega (arith, to, end)) (cases_lt i other.end));
          };
      ends = end ∙ o.ends;
    }
  where
    shorter : (xs ys zs : List Node) → xs ≡ ys ++ zs → length ys ≤ length xs
    shorter xs ys zs h = subst (λ n. length ys ≤ n) (sym (ap length h)) (front-shorter ys zs)
      where
        front-shorter : (vs ws : List Node) → length vs ≤ length (vs ++ ws)
        front-shorter [] ws = omega arith
        front-shorter (v ∷ vs) ws = omega (arith, front-shorter vs ws)

    by : IsNode edges before other → node.start ≡ other.end → (i : ℕ) → other.start ≤ i → i < node.end → (i < other.end) ⊎ (other.end ≤ i) → IsTrue (covers (joined other.extent node.extent) (extent_at_edge edges i))
    by n next i from to (inl l) = joined-left other.extent node.extent (extent_at_edge edges i) (n.covering i from l)
    by n next i from to (inr l) = joined-right other.extent node.extent (extent_at_edge edges i) (o.is_node.covering i (omega (arith, next, l)) to)

pub over-higher : (edges : List (Coordinates × Coordinates)) (nodes : List Node) (node new : Node) → new.extent ≡ node.extent → new.begin ≡ node.begin → new.start ≡ node.start → new.end ≡ node.end → IsOver edges nodes node → IsOver edges nodes new
over-higher edges nodes node new box begin start end o =
    record {
      is_node =
          record {
            begin_in = omega (arith, begin, o.is_node.begin_in);
            starts = start ∙ o.is_node.starts ∙ ap (λ k. end_of (take k nodes)) (sym begin);
            in_order = omega (arith, start, end, o.is_node.in_order);
            end_in = omega (arith, end, o.is_node.end_in);
            inner = λ h. end ∙ o.ends;
            covering =
                λ i from to.
                subst (λ e. IsTrue (covers e (extent_at_edge edges i))) (sym box)
                (o.is_node.covering i (omega (arith, from, start)) (omega (arith, to, end)));
          };
      ends = end ∙ o.ends;
    }

-- ---- nodes that are pushed
pub read-over : (edges : List (Coordinates × Coordinates)) (nodes read : List Node) (node : Node) → read ≡ nodes → ((all : List (Coordinates × Coordinates)) → AreNodes all read → IsOver all read node) → AreNodes edges nodes → IsOver edges nodes node
read-over edges nodes read node is over t = subst (λ ns. IsOver edges ns node) is (over edges (subst (AreNodes edges) (sym is) t))

pub pushed-over : (edges : List (Coordinates × Coordinates)) (nodes new : List Node) (node : Node) {n : ℕ} → new ≡ nodes ++ node ∷ [] → AreNodes edges nodes → end_of nodes ≡ n → IsOver edges nodes node → AreNodes edges new × (end_of new ≡ n)
pushed-over edges nodes new node is t at o = (subst (AreNodes edges) (sym is) (one-more edges [] nodes node t o.is_node), ap end_of is ∙ end-last nodes node ∙ o.ends ∙ at)

pub pushed-run : (edges : List (Coordinates × Coordinates)) (nodes new : List Node) (run : Node) (start begin : ℕ) → new ≡ nodes ++ run ∷ [] → begin ≡ length nodes → AreNodes edges nodes → end_of nodes ≡ start → IsRun edges start begin run → AreNodes edges new × (end_of new ≡ run.end)
pushed-run edges nodes new run start begin is count t at r = (subst (AreNodes edges) (sym is) (one-more edges [] nodes run t (run-node edges nodes run start begin count at r)), ap end_of is ∙ end-last nodes run)
