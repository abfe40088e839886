-- The edges near a box, of a front of the edges and of a run behind it.
use Rattle.std.proofs.Common.{◌≡◌, ℕ, ◌+◌, ◌-◌, ◌<◌, ◌≤◌, List, [], ◌∷◌, ◌++◌, Bool, true, false, ◌||◌, cond, length, take, drop, reverse, refl, ap, sym, ◌∙◌, arith, take_all, true≢false, zero, suc, append-nil, append_assoc}
use Rattle.std.specs.List.{fold, list_any}
use Rattle.std.proofs.Math.Seq.{take-add}
use Rattle.std.proofs.lemmas.Bool.{cond-false, cond-true}
use Rattle.std.proofs.lemmas.List.{reverse-append, reverse-reverse}
use Rattle.std.proofs.lemmas.List.Elements.{filter-append, filter_more}
use Rattle.sf_grid.specs.Plane.{Coordinates}
use Rattle.sf_geometry.specs.declared.extent.Extent.{Extent}
use Rattle.sf_geometry.specs.Envelope.{extents_meet}
use Rattle.sf_edge_tree.specs.declared.node.Node.{Node}
use Rattle.sf_edge_tree.specs.Boxes.{edge_at, extent_of_edge}
use Rattle.sf_edge_tree.specs.Near.{IsLastRun, near, near_below}
use Rattle.sf_edge_tree.specs.Nodes.{AreNodes, AreNodesBehind, IsTree, end_of}
use Rattle.sf_edge_tree.specs.Searches.{HasNear}
use Rattle.sf_edge_tree.proofs.SearchLaws.{IsLast, IsLeft, run-start}

-- ---- which edges are near
abbrev is_near : Extent → Coordinates × Coordinates → Bool
is_near q edge = extents_meet (extent_of_edge edge) q

near-both : (q : Extent) (xs ys : List (Coordinates × Coordinates)) → near q (xs ++ ys) ≡ near q xs ++ near q ys
near-both q xs ys = filter-append (is_near q) xs ys

-- behind a front none is near
abbrev pub Each : ℕ → Type 0
Each i = Unit {0}

none-behind : (edges : List (Coordinates × Coordinates)) (q : Extent) (a k b : ℕ) → a + k ≡ b → b ≤ length edges → ¬ (HasNear edges q a b Each) → near q (take b edges) ≡ near q (take a edges)
none-behind edges q a zero b is h none = ap (λ n. near q (take n edges)) (omega (arith, is))
none-behind edges q a (suc k) b is h none =
    ap (λ n. near q (take n edges)) (omega (arith, is))
    ∙ filter_more (is_near q) edges (a + k) _ (omega (arith, h, is))
    ∙ ap (λ here. near q (take (a + k) edges) ++ here)
    (off (is_near q (edge_at edges (a + k))) _ (λ at. none (record { edge = a + k; behind = omega arith; before = omega (arith, is); near = at; passes = tt })))
    ∙ append-nil (near q (take (a + k) edges))
    ∙ none-behind edges q a k (a + k) refl (omega (arith, h, is)) (λ m. none (record { edge = m.edge; behind = m.behind; before = omega (arith, m.before, is); near = m.near; passes = tt }))
  where
    off : {X : Type 0} (b : Bool) (xs : List X) → (b ≡ true → ⊥) → cond b xs [] ≡ []
    off true xs never = absurd (never refl)
    off false xs never = refl

none-from : (edges : List (Coordinates × Coordinates)) (q : Extent) (a b : ℕ) → a ≤ b → b ≤ length edges → ¬ (HasNear edges q a b Each) → near q (take b edges) ≡ near q (take a edges)
none-from edges q a b from to none = none-behind edges q a (b - a) b (omega (arith, from)) to none

ends-within : (edges : List (Coordinates × Coordinates)) (before nodes : List Node) (n : ℕ) → n ≤ length edges → AreNodesBehind edges before nodes → fold (λ end one. one.end) n nodes ≤ length edges
ends-within edges before [] n h t = h
ends-within edges before (node ∷ nodes) n h t = ends-within edges (before ++ node ∷ []) nodes node.end t.0.end_in t.1

-- ---- the last run
pub count-last : (nodes before : List Node) (node : Node) → nodes ≡ before ++ node ∷ [] → length nodes ≡ length before + 1
count-last nodes before node is = ap length is ∙ longer before
  where
    longer : (xs : List Node) → length (xs ++ node ∷ []) ≡ length xs + 1
    longer [] = refl
    longer (x ∷ xs) = omega (arith, longer xs)

pub fewer-left : (nodes left before rest : List Node) (node : Node) (n : ℕ) → left ≡ before ++ node ∷ [] → length left ≤ length nodes → rest ≡ take n before → length rest ≤ length nodes
fewer-left nodes left before rest node n is few taken = omega (arith, ap length taken, front-shorter n before, count-last left before node is, few)
  where
    front-shorter : (k : ℕ) (xs : List Node) → length (take k xs) ≤ length xs
    front-shorter zero xs = omega arith
    front-shorter (suc k) [] = omega arith
    front-shorter (suc k) (x ∷ xs) = omega (arith, front-shorter k xs)

pub last-run : (edges : List (Coordinates × Coordinates)) (nodes before : List Node) (node : Node) (q : Extent) (run : List (Coordinates × Coordinates)) → AreNodes edges nodes → IsLast edges nodes before node q Each
    → node.begin ≡ length before → length before < length nodes → run ≡ take (node.end - node.start) (drop node.start edges) → IsLastRun edges nodes q run before
last-run edges nodes before node q run t l last fewer is =
    let start : node.start ≡ end_of before = run-start edges before node l.is_node last in
    let back : node.start + (node.end - node.start) ≡ node.end = omega (arith, l.is_node.in_order) in
    let cut : take node.end edges ≡ take (end_of before) edges ++ run =
    ap (λ n. take n edges) (sym back) ∙ take-add node.start (node.end - node.start) edges ∙ ap (λ n. take n edges ++ take (node.end - node.start) (drop node.start edges)) start ∙ ap (λ xs. take (end_of before) edges ++ xs) (sym is)
    in
    record {
      tree = l.tree;
      fewer = fewer;
      rest =
          none-from edges q node.end (end_of nodes) l.within (ends-within edges [] nodes 0 (omega arith) t) l.none
          ∙ ap (near q) cut ∙ near-both q (take (end_of before) edges) run;
    }

pub no-run : (edges : List (Coordinates × Coordinates)) (nodes left : List Node) (q : Extent) → AreNodes edges nodes → end_of left ≡ 0 → IsLeft edges nodes left q Each → near_below edges q nodes ≡ []
no-run edges nodes left q t is l =
    none-from edges q (end_of left) (end_of nodes) l.within (ends-within edges [] nodes 0 (omega arith) t) l.none ∙ ap (λ n. near q (take n edges)) is

pub near-all : (edges : List (Coordinates × Coordinates)) (nodes : List Node) (q : Extent) → IsTree edges nodes → near_below edges q nodes ≡ near q edges
near-all edges nodes q t = ap (near q) (take_all (end_of nodes) edges (omega (arith, t.all)))

-- ---- edges gathered from the last one on
pub none-gathered : (edges : List (Coordinates × Coordinates)) (nodes : List Node) (q : Extent) (found : List (Coordinates × Coordinates)) → IsTree edges nodes → found ≡ [] → near_below edges q nodes ++ reverse found ≡ near q edges
none-gathered edges nodes q found t is = ap (λ xs. near_below edges q nodes ++ reverse xs) is ∙ append-nil (near_below edges q nodes) ∙ near-all edges nodes q t

pub gathered : (edges : List (Coordinates × Coordinates)) (nodes before : List Node) (q : Extent) (run found new : List (Coordinates × Coordinates)) → IsLastRun edges nodes q run before
    → near_below edges q nodes ++ reverse found ≡ near q edges → new ≡ found ++ reverse (near q run) → near_below edges q before ++ reverse new ≡ near q edges
gathered edges nodes before q run found new r all is =
    ap (λ xs. near_below edges q before ++ xs) (ap reverse is ∙ reverse-append found (reverse (near q run)) ∙ ap (λ xs. xs ++ reverse found) (reverse-reverse (near q run)))
    ∙ sym (append_assoc (near_below edges q before) (near q run) (reverse found))
    ∙ ap (λ xs. xs ++ reverse found) (sym r.rest)
    ∙ all

pub all-gathered : (edges : List (Coordinates × Coordinates)) (left : List Node) (q : Extent) (found : List (Coordinates × Coordinates)) → near_below edges q left ≡ [] → near_below edges q left ++ reverse found ≡ near q edges → reverse found ≡ near q edges
all-gathered edges left q found none all = sym (ap (λ xs. xs ++ reverse found) none) ∙ all

-- ---- the last edge of a run
pub all-pushed : (q : Extent) (found left all : List (Coordinates × Coordinates)) → length left ≡ 0 → found ++ reverse (near q left) ≡ all → found ≡ all
all-pushed q found [] all none is = sym (append-nil found) ∙ is
all-pushed q found (edge ∷ left) all none is = absurd (omega (arith, none))

reverse-last : (q : Extent) (left before : List (Coordinates × Coordinates)) (edge : Coordinates × Coordinates) → left ≡ before ++ edge ∷ [] → reverse (near q left) ≡ reverse (near q (edge ∷ [])) ++ reverse (near q before)
reverse-last q left before edge is = ap (λ xs. reverse (near q xs)) is ∙ ap reverse (near-both q before (edge ∷ [])) ∙ reverse-append (near q before) (near q (edge ∷ []))

pub pushed-near : (q : Extent) (found new left before : List (Coordinates × Coordinates)) (edge : Coordinates × Coordinates) → left ≡ before ++ edge ∷ [] → extents_meet (extent_of_edge edge) q ≡ true → new ≡ found ++ edge ∷ []
    → new ++ reverse (near q before) ≡ found ++ reverse (near q left)
pushed-near q found new left before edge is meets pushed =
    ap (λ xs. xs ++ reverse (near q before)) pushed
    ∙ append_assoc found (edge ∷ []) (reverse (near q before))
    ∙ ap (λ xs. found ++ xs) (ap (λ xs. reverse xs ++ reverse (near q before)) (sym (cond-true (is_near q edge) (edge ∷ []) [] meets)) ∙ sym (reverse-last q left before edge is))

pub passed-near : (q : Extent) (found left before : List (Coordinates × Coordinates)) (edge : Coordinates × Coordinates) → left ≡ before ++ edge ∷ [] → extents_meet (extent_of_edge edge) q ≡ false
    → found ++ reverse (near q before) ≡ found ++ reverse (near q left)
passed-near q found left before edge is apart =
    ap (λ xs. found ++ xs) (ap (λ xs. reverse xs ++ reverse (near q before)) (sym (cond-false (is_near q edge) (edge ∷ []) [] apart)) ∙ sym (reverse-last q left before edge is))

-- ---- whether one is near
pub none-near : (q : Extent) (edges : List (Coordinates × Coordinates)) → near q edges ≡ [] → list_any (is_near q) edges ≡ false
none-near q [] h = refl
none-near q (edge ∷ edges) h = at (is_near q edge) refl (none-near q edges)
  where
    at : (b : Bool) → is_near q edge ≡ b → (near q edges ≡ [] → list_any (is_near q) edges ≡ false) → list_any (is_near q) (edge ∷ edges) ≡ false
    at true b others = absurd (omega (arith, ap length (sym (cond-true (is_near q edge) (edge ∷ near q edges) (near q edges) b) ∙ h)))
    at false b others = ap (λ c. c || list_any (is_near q) edges) b ∙ others (sym (cond-false (is_near q edge) (edge ∷ near q edges) (near q edges) b) ∙ h)

pub none-in : (q : Extent) (edges : List (Coordinates × Coordinates)) → list_any (is_near q) edges ≡ false → near q edges ≡ []
none-in q [] h = refl
none-in q (edge ∷ edges) h = at (is_near q edge) refl (none-in q edges)
  where
    at : (b : Bool) → is_near q edge ≡ b → (list_any (is_near q) edges ≡ false → near q edges ≡ []) → near q (edge ∷ edges) ≡ []
    at true b others = absurd (true≢false (sym (ap (λ c. c || list_any (is_near q) edges) b) ∙ h))
    at false b others = cond-false (is_near q edge) (edge ∷ near q edges) (near q edges) b ∙ others (sym (ap (λ c. c || list_any (is_near q) edges) b) ∙ h)

pub some-near : (edges : List (Coordinates × Coordinates)) (nodes before : List Node) (q : Extent) (run : List (Coordinates × Coordinates)) → IsLastRun edges nodes q run before
    → near_below edges q nodes ≡ near q edges → list_any (is_near q) run ≡ true → list_any (is_near q) edges ≡ true
some-near edges nodes before q run r all any = by (list_any (is_near q) edges) refl
  where
    last : (xs ys : List (Coordinates × Coordinates)) → xs ++ ys ≡ [] → ys ≡ []
    last [] ys h = h
    last (x ∷ xs) ys h = absurd (omega (arith, ap length h))

    by : (b : Bool) → list_any (is_near q) edges ≡ b → list_any (is_near q) edges ≡ true
    by true b = b
    by false b = absurd (true≢false (sym any ∙ none-near q run (last (near_below edges q before) (near q run) (sym r.rest ∙ all ∙ none-in q edges b))))

pub run-passed : (edges : List (Coordinates × Coordinates)) (nodes before : List Node) (q : Extent) (run : List (Coordinates × Coordinates)) → IsLastRun edges nodes q run before
    → near_below edges q nodes ≡ near q edges → list_any (is_near q) run ≡ false → near_below edges q before ≡ near q edges
run-passed edges nodes before q run r all none =
    sym (append-nil (near_below edges q before)) ∙ ap (λ xs. near_below edges q before ++ xs) (sym (none-in q run none)) ∙ sym r.rest ∙ all
