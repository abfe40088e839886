-- What a change of a node's members makes of its entries.
use Rattle.std.specs.Prelude.{◌≡◌, ℕ, ◌+◌, ◌*◌, ◌<◌, ◌≤◌, ◌^◌, List, [], ◌∷◌, ◌++◌, length, Result, Ok, Err, IfOk, Option, Some, None, option_to_list, true, if◌then◌else◌, slice_set}
use Rattle.std.specs.List.{AllByRecursion, insert, remove}
use Rattle.std.proofs.Common.{refl, ap, sym, ◌∙◌, append_assoc, append-nil, take, drop, get_or, arith, add-one, subst, zero, suc}
use Rattle.sf_rtree.specs.declared.entry.Key.{Key}
use Rattle.sf_rtree.specs.declared.node.Branch.{Branch}
use Rattle.sf_rtree.specs.declared.node.Grown.{Grown}
use Rattle.sf_rtree.specs.Boxed.{Boxed}
use Rattle.sf_rtree.specs.Curves.{AreInOrder, is_key, key_of, put, taken}
use Rattle.sf_rtree.specs.Subtrees.{Subtree}
use Rattle.sf_rtree.specs.Nodes.{AreBranches, AreEntries, IsBranch, IsPlace, entries_below, levels_below}
use Rattle.sf_rtree.specs.Growths.{AreFilled, AreNodes, entries_of, nodes_of}
use Rattle.std.proofs.Math.Seq.{drop-cons}
use Rattle.std.proofs.lemmas.List.{length-drop, length-take}
use Rattle.sf_rtree.proofs.Meeting.{entries_below-append, entries_below-step}
use Rattle.sf_rtree.proofs.Order.{GoesByKey, change-at, in_order-left, in_order-put, in_order-right, in_order-taken}
use Rattle.sf_rtree.proofs.Sizes.{all_drop, all_take, back, back_entries, below-split, front, front_entries, inner-two, levels_all, next_power, below-few}
use Rattle.std.proofs.Math.Nat.{mul-le-mul_left}

pub take-removed : (bs : List Branch) (i : ℕ) → i < length bs → take i (remove bs i) ≡ take i bs
take-removed [] i h = absurd (omega arith)
take-removed (b ∷ bs) zero h = refl
take-removed (b ∷ bs) (suc i) h = ap (λ cs. b ∷ cs) (take-removed bs i (omega (arith, h)))

pub drop-removed : (bs : List Branch) (i : ℕ) → i < length bs → drop i (remove bs i) ≡ drop (suc i) bs
drop-removed [] i h = absurd (omega arith)
drop-removed (b ∷ bs) zero h = refl
drop-removed (b ∷ bs) (suc i) h = drop-removed bs i (omega (arith, h))

-- a change by key, made at one branch that was taken out
pub rest-change : (k : Key) (change : List Boxed → List Boxed) → GoesByKey k change → (bs rest : List Branch) (i : ℕ) (b : Branch)
    → AreBranches bs → IsPlace k bs i → b ≡ get_or bs i b → rest ≡ remove bs i
    → change (entries_below bs) ≡ entries_below (take i rest) ++ change b.node.entries ++ entries_below (drop i rest)
rest-change k change goes bs rest i b are p is was =
    change-at k change goes (levels_below bs) bs i b are.branches are.in_order p
    ∙ sym (append_assoc (entries_below (take i bs)) (change ((get_or bs i b).node.entries)) (entries_below (drop (suc i) bs)))
    ∙ ap (λ c. entries_below (take i bs) ++ change (c.node.entries) ++ entries_below (drop (suc i) bs)) (sym is)
    ∙ ap (λ cs. entries_below cs ++ change b.node.entries ++ entries_below (drop (suc i) bs)) (sym (ap (take i) was ∙ take-removed bs i p.bound))
    ∙ ap (λ cs. entries_below (take i rest) ++ change b.node.entries ++ entries_below cs) (sym (ap (drop i) was ∙ drop-removed bs i p.bound))

pub leaf-put : (e : Boxed) (es now new : List Boxed) (i : ℕ) → AreEntries es → now ≡ es → put e now ≡ insert now i e → new ≡ insert es i e
    → AreInOrder new
leaf-put e es now new i are was is then_ =
    subst AreInOrder (sym (then_ ∙ ap (λ xs. insert xs i e) (sym was) ∙ sym is ∙ ap (put e) was)) (in_order-put e es are.in_order)

filled-weaker : (L M m n : ℕ) (node : Subtree) (split : Option Subtree) → L ≡ M → n ≤ m
    → AreFilled L m (record { node = node; split = split }) → AreFilled M n (record { node = node; split = split })
filled-weaker L M m n node None l k h = record { level = h.level ∙ l; enough = omega (arith, h.enough, k) }
filled-weaker L M m n node (Some second) l k h =
    (record { level = h.0.level ∙ l; enough = h.0.enough }, record { level = h.1.level ∙ l; enough = h.1.enough })

pub nodes-weaker : (L M m n : ℕ) (es fs : List Boxed) (g : Grown) → L ≡ M → n ≤ m → es ≡ fs → AreNodes L m es g → AreNodes M n fs g
nodes-weaker L M m n es fs g l k is h =
    record { entries = h.entries ∙ is; filled = filled-weaker L M m n g.node g.split l k h.filled }

pub grown-weaker : {E : Type 0} (L M m n : ℕ) (es fs : List Boxed) (r : Result Grown E) → L ≡ M → n ≤ m → es ≡ fs → IfOk r (AreNodes L m es) → IfOk r (AreNodes M n fs)
grown-weaker L M m n es fs (Ok g) l k is h = nodes-weaker L M m n es fs g l k is h
grown-weaker L M m n es fs (Err e) l k is h = tt

filled-level : (L m : ℕ) (node : Subtree) (split : Option Subtree) → AreFilled L m (record { node = node; split = split }) → node.levels ≡ L
filled-level L m node None h = h.level
filled-level L m node (Some second) h = h.0.level

pub grown-level : (L m : ℕ) (g : Grown) → AreFilled L m g → g.node.levels ≡ L
grown-level L m g h = filled-level L m g.node g.split h

pub branch-level : (levels : ℕ) (bs : List Branch) (i : ℕ) (b : Branch) → AllByRecursion (IsBranch levels) bs → i < length bs → b ≡ get_or bs i b
    → IsBranch levels b
branch-level levels [] i b h k is = absurd (omega arith)
branch-level levels (a ∷ bs) zero b h k is = subst (IsBranch levels) (sym is) h.0
branch-level levels (a ∷ bs) (suc i) b h k is = branch-level levels bs i b h.1 (omega (arith, k)) is

pub all_removed : {X : Type 0} (P : X → Type 0) (xs : List X) (i : ℕ) → AllByRecursion P xs → AllByRecursion P (remove xs i)
all_removed P [] zero h = tt
all_removed P [] (suc i) h = tt
all_removed P (x ∷ xs) zero h = h.1
all_removed P (x ∷ xs) (suc i) h = (h.0, all_removed P xs i h.1)

branch-in_order : (bs : List Branch) (i : ℕ) (b : Branch) → i < length bs → b ≡ get_or bs i b → AreInOrder (entries_below bs)
    → AreInOrder b.node.entries
branch-in_order [] i b h is order = absurd (omega (arith, h))
branch-in_order (a ∷ bs) zero b h is order =
    subst (λ x. AreInOrder x.node.entries) (sym is) (in_order-left a.node.entries (entries_below bs) order)
branch-in_order (a ∷ bs) (suc i) b h is order =
    branch-in_order bs i b (omega (arith, h)) is (in_order-right a.node.entries (entries_below bs) order)

-- a branch of a node, and the others once it was taken
pub record IsTaken (bs : List Branch) (i : ℕ) (b : Branch) (rest : List Branch) : Type 0 where
  pub bound : i < length bs
  pub is : b ≡ get_or bs i b
  pub others : rest ≡ remove bs i
  pub branch : IsBranch (levels_below bs) b
  pub rest_are : AllByRecursion (IsBranch (levels_below bs)) rest
  pub in_order : AreInOrder b.node.entries

pub is_taken : (bs now : List Branch) (i : ℕ) (b : Branch) (rest : List Branch) → AreBranches bs → now ≡ bs → i < length bs → b ≡ get_or now i b
    → rest ≡ remove now i → IsTaken bs i b rest
is_taken bs now i b rest are was h is others =
    let at : b ≡ get_or bs i b = is ∙ ap (λ cs. get_or cs i b) was in
    let them : rest ≡ remove bs i = others ∙ ap (λ cs. remove cs i) was in
    record {
      bound = h;
      is = at;
      others = them;
      branch = branch-level (levels_below bs) bs i b are.branches h at;
      rest_are = subst (AllByRecursion (IsBranch (levels_below bs))) (sym them) (all_removed (IsBranch (levels_below bs)) bs i are.branches);
      in_order = branch-in_order bs i b h at are.in_order;
    }

-- what the levels of the first branch say of a node
pub record FirstSays (k : ℕ) (s : Subtree) : Type 0 where
  pub levels : s.levels ≡ k + 1
  pub enough : 2 * 3 ^ k ≤ length s.entries
  pub few : length s.entries ≤ 8 ^ (k + 1)

pub sized : (bs : List Branch) (b : Branch) (k : ℕ) (s : Subtree) → AreBranches bs → b ≡ get_or bs 0 b → k ≡ b.node.levels
    → s ≡ record { levels = levels_below bs + 1; members = length bs; entries = entries_below bs } → FirstSays k s
sized bs b k s are is at was =
    let l : levels_below bs ≡ k = sym ((branch-level (levels_below bs) bs 0 b are.branches (omega (arith, are.enough)) is).filled.level) ∙ sym at in
    subst (λ n. FirstSays n s) l (subst (FirstSays (levels_below bs)) (sym was)
    (record {
      levels = refl;
      enough = inner-two bs are;
      few = omega (arith, next_power 8 (levels_below bs), below-few (levels_below bs) bs are.branches, mul-le-mul_left (8 ^ levels_below bs) are.few);
    }))

pub length-removed : (bs : List Branch) (i : ℕ) → i < length bs → length (remove bs i) + 1 ≡ length bs
length-removed [] i h = absurd (omega arith)
length-removed (b ∷ bs) zero h = omega arith
length-removed (b ∷ bs) (suc i) h = omega (arith, length-removed bs i (omega (arith, h)))

pub back_half : (n : ℕ) (es new : List Boxed) → new ≡ drop n es → length es ≤ n + 8 → AreInOrder es → AreEntries new
back_half n es new is few order =
    subst AreEntries (sym is) (back_entries n es (omega (arith, length-drop n es)) order)

pub front_half : (n : ℕ) (es new : List Boxed) → new ≡ take n es → n ≤ 8 → AreInOrder es → AreEntries new
front_half n es new is few order =
    subst AreEntries (sym is) (front_entries n es (omega (arith, length-take n es)) order)

pub back_branches : (n : ℕ) (bs new : List Branch) → new ≡ drop n bs → length bs ≤ n + 8 → n + 2 ≤ length bs
    → AllByRecursion (IsBranch (levels_below bs)) bs → AreInOrder (entries_below bs) → AreBranches new
back_branches n bs new is few enough h order =
    subst AreBranches (sym is) (back (levels_below bs) n bs h (omega (arith, length-drop n bs)) (omega (arith, length-drop n bs)) order)

pub front_branches : (n : ℕ) (bs new : List Branch) → new ≡ take n bs → n ≤ 8 → 2 ≤ n → n ≤ length bs
    → AllByRecursion (IsBranch (levels_below bs)) bs → AreInOrder (entries_below bs) → AreBranches new
front_branches n bs new is few enough within h order =
    subst AreBranches (sym is) (front (levels_below bs) n bs h (omega (arith, length-take n bs)) (omega (arith, length-take n bs)) order)

-- branches cut into two nodes
pub halves : (n : ℕ) (bs new more : List Branch) → new ≡ take n bs → more ≡ drop n bs → 3 ≤ n → n + 3 ≤ length bs
    → AllByRecursion (IsBranch (levels_below bs)) bs
    → AreNodes (levels_below bs + 1) (length bs) (entries_below bs)
    (record {
      node = record { levels = levels_below new + 1; members = length new; entries = entries_below new };
      split = Some (record { levels = levels_below more + 1; members = length more; entries = entries_below more });
    })
halves n bs new more is also low high h =
    let some : 3 ≤ length new = omega (arith, ap length is, length-take n bs) in
    let enough : 3 ≤ length more = omega (arith, ap length also, length-drop n bs) in
    record {
      entries =
          ap (λ es. entries_below new ++ es) (append-nil (entries_below more))
          ∙ ap (λ cs. entries_below cs ++ entries_below more) is
          ∙ ap (λ cs. entries_below (take n bs) ++ entries_below cs) also
          ∙ below-split n bs;
      filled = (
        record { level = ap (λ k. k + 1) (levels_all (levels_below bs) new (subst (AllByRecursion (IsBranch (levels_below bs))) (sym is) (all_take (IsBranch (levels_below bs)) n bs h)) (omega (arith, some))); enough = some },
        record { level = ap (λ k. k + 1) (levels_all (levels_below bs) more (subst (AllByRecursion (IsBranch (levels_below bs))) (sym also) (all_drop (IsBranch (levels_below bs)) n bs h)) (omega (arith, enough))); enough = enough },
      );
    }

-- a branch put where another one stood
pub set-inserted : (bs : List Branch) (i : ℕ) (b : Branch) → i < length bs → slice_set bs i b ≡ insert (remove bs i) i b
set-inserted [] i b h = absurd (omega (arith, h))
set-inserted (c ∷ bs) zero b h = refl
set-inserted (c ∷ bs) (suc i) b h = ap (λ cs. c ∷ cs) (set-inserted bs i b (omega (arith, h)))

pub remove-set : (bs : List Branch) (i : ℕ) (b : Branch) → i < length bs → remove (slice_set bs i b) i ≡ remove bs i
remove-set [] i b h = absurd (omega (arith, h))
remove-set (c ∷ bs) zero b h = refl
remove-set (c ∷ bs) (suc i) b h = ap (λ cs. c ∷ cs) (remove-set bs i b (omega (arith, h)))

pub put_one : (bs : List Branch) (i : ℕ) (b : Branch)
    → entries_below (insert bs i b) ≡ entries_below (take i bs) ++ b.node.entries ++ entries_below (drop i bs)
put_one bs i b =
    entries_below-append (take i bs) (b ∷ drop i bs)
    ∙ sym (append_assoc (entries_below (take i bs)) b.node.entries (entries_below (drop i bs)))

insert-next : (bs : List Branch) (i : ℕ) (b s : Branch) → i ≤ length bs → insert (insert bs i b) (suc i) s ≡ take i bs ++ b ∷ s ∷ drop i bs
insert-next bs zero b s h = refl
insert-next [] (suc i) b s h = absurd (omega (arith, h))
insert-next (c ∷ bs) (suc i) b s h = ap (λ cs. c ∷ cs) (insert-next bs i b s (omega (arith, h)))

pub of_one_node : (g : Grown) → g.split ≡ None → entries_of (nodes_of g) ≡ g.node.entries
of_one_node g none = ap (λ o. g.node.entries ++ entries_of (option_to_list o)) none ∙ append-nil g.node.entries

pub put_one_node : (bs new : List Branch) (i : ℕ) (b : Branch) (g : Grown) → new ≡ insert bs i b → b.node ≡ g.node → g.split ≡ None
    → entries_below new ≡ entries_below (take i bs) ++ entries_of (nodes_of g) ++ entries_below (drop i bs)
put_one_node bs new i b g is at none =
    ap entries_below is ∙ put_one bs i b
    ∙ ap (λ es. entries_below (take i bs) ++ es ++ entries_below (drop i bs))
    (ap (λ n. n.entries) at ∙ sym (append-nil g.node.entries) ∙ ap (λ o. g.node.entries ++ entries_of (option_to_list o)) (sym none))

pub put_two_nodes : (bs new last : List Branch) (i : ℕ) (b s : Branch) (g : Grown) (second : Subtree) → i ≤ length bs → new ≡ insert bs i b → b.node ≡ g.node
    → last ≡ insert new (i + 1) s → s.node ≡ second → g.split ≡ Some second
    → entries_below last ≡ entries_below (take i bs) ++ entries_of (nodes_of g) ++ entries_below (drop i bs)
put_two_nodes bs new last i b s g second within is at then_ too some =
    ap entries_below (then_ ∙ ap (λ k. insert new k s) (add-one i) ∙ ap (λ cs. insert cs (suc i) s) is ∙ insert-next bs i b s within)
    ∙ entries_below-append (take i bs) (b ∷ s ∷ drop i bs)
    ∙ ap (λ es. entries_below (take i bs) ++ es) (sym (append_assoc b.node.entries s.node.entries (entries_below (drop i bs))))
    ∙ sym (append_assoc (entries_below (take i bs)) (b.node.entries ++ s.node.entries) (entries_below (drop i bs)))
    ∙ ap (λ es. entries_below (take i bs) ++ es ++ entries_below (drop i bs))
    (ap (λ n. n.entries ++ s.node.entries) at ∙ ap (λ n. g.node.entries ++ n.entries) too
    ∙ ap (λ es. g.node.entries ++ es) (sym (append-nil second.entries))
    ∙ ap (λ o. g.node.entries ++ entries_of (option_to_list o)) (sym some))

-- two nodes' branches, one after another
pub both_order : (bs cs new : List Branch) (es fs : List Boxed) → new ≡ bs ++ cs → es ≡ entries_below bs → fs ≡ entries_below cs
    → AreInOrder (es ++ fs) → AreInOrder (entries_below new)
both_order bs cs new es fs is e f order =
    subst AreInOrder (ap (λ xs. xs ++ fs) e ∙ ap (λ xs. entries_below bs ++ xs) f ∙ sym (entries_below-append bs cs) ∙ ap entries_below (sym is)) order

-- neighbours among entries in order
pub right_neighbour : (bs : List Branch) (i : ℕ) (b : Branch) (es : List Boxed) → i < length bs → b ≡ get_or bs i b
    → AreInOrder (entries_below (take i bs) ++ es ++ entries_below (drop i bs)) → AreInOrder (es ++ b.node.entries)
right_neighbour [] i b es h is order = absurd (omega arith)
right_neighbour (a ∷ bs) zero b es h is order =
    subst (λ x. AreInOrder (es ++ x.node.entries)) (sym is)
    (in_order-left (es ++ a.node.entries) (entries_below bs) (subst AreInOrder (sym (append_assoc es a.node.entries (entries_below bs))) order))
right_neighbour (a ∷ bs) (suc i) b es h is order =
    right_neighbour bs i b es (omega (arith, h)) is
    (in_order-right a.node.entries (entries_below (take i bs) ++ es ++ entries_below (drop i bs))
    (subst AreInOrder
    (ap (λ xs. xs ++ entries_below (drop i bs)) (append_assoc a.node.entries (entries_below (take i bs)) es)
    ∙ append_assoc a.node.entries (entries_below (take i bs) ++ es) (entries_below (drop i bs))) order))

pub left_neighbour : (bs : List Branch) (i : ℕ) (b : Branch) (es : List Boxed) → i < length bs → b ≡ get_or bs i b
    → AreInOrder (entries_below (take (suc i) bs) ++ es ++ entries_below (drop (suc i) bs)) → AreInOrder (b.node.entries ++ es)
left_neighbour [] i b es h is order = absurd (omega arith)
left_neighbour (a ∷ bs) zero b es h is order =
    subst (λ x. AreInOrder (x.node.entries ++ es)) (sym is)
    (in_order-left (a.node.entries ++ es) (entries_below bs)
    (subst (λ xs. AreInOrder (xs ++ es ++ entries_below bs)) (append-nil a.node.entries) order))
left_neighbour (a ∷ bs) (suc i) b es h is order =
    left_neighbour bs i b es (omega (arith, h)) is
    (in_order-right a.node.entries (entries_below (take (suc i) bs) ++ es ++ entries_below (drop (suc i) bs))
    (subst AreInOrder
    (ap (λ xs. xs ++ entries_below (drop (suc i) bs)) (append_assoc a.node.entries (entries_below (take (suc i) bs)) es)
    ∙ append_assoc a.node.entries (entries_below (take (suc i) bs) ++ es) (entries_below (drop (suc i) bs))) order))

pub levels-append : (bs cs : List Branch) → 1 ≤ length bs → levels_below (bs ++ cs) ≡ levels_below bs
levels-append [] cs h = absurd (omega (arith, h))
levels-append (b ∷ bs) cs h = refl

length-taken : (es : List Boxed) (i : ℕ) → i < length es → length (remove es i) ≤ length es
length-taken [] i h = absurd (omega (arith, h))
length-taken (e ∷ es) zero h = omega arith
length-taken (e ∷ es) (suc i) h = omega (arith, length-taken es i (omega (arith, h)))

pub leaf-taken : (k : Key) (es now new : List Boxed) (i : ℕ) → AreEntries es → now ≡ es → i < length now → taken k now ≡ remove now i
    → new ≡ remove es i → AreEntries new
leaf-taken k es now new i are was h is then_ =
    record {
      few = omega (arith, ap length then_, ap length was, length-taken es i (omega (arith, h, ap length was)), are.few);
      in_order = subst AreInOrder (sym (then_ ∙ ap (λ xs. remove xs i) (sym was) ∙ sym is ∙ ap (taken k) was)) (in_order-taken k es are.in_order);
    }

pub on_ok : {T E : Type 0} (P Q : Type 0) (r : Result T E) → (P → Q) → IfOk r (λ _. P) → IfOk r (λ _. Q)
on_ok P Q (Ok x) f h = f h
on_ok P Q (Err e) f h = tt

-- a node joined to the branch before it
pub left-joined : (bs rest new : List Branch) (i : ℕ) (b : Branch) (es fs : List Boxed) → i < length bs → b ≡ get_or bs i b → rest ≡ remove bs i
    → fs ≡ b.node.entries ++ es → entries_below new ≡ entries_below (take i rest) ++ fs ++ entries_below (drop i rest)
    → entries_below new ≡ entries_below (take (suc i) bs) ++ es ++ entries_below (drop (suc i) bs)
left-joined bs rest new i b es fs h is was both now =
    now
    ∙ ap (λ cs. entries_below cs ++ fs ++ entries_below (drop i rest)) (ap (take i) was ∙ take-removed bs i h)
    ∙ ap (λ cs. entries_below (take i bs) ++ fs ++ entries_below cs) (ap (drop i) was ∙ drop-removed bs i h)
    ∙ ap (λ xs. entries_below (take i bs) ++ xs ++ entries_below (drop (suc i) bs)) both
    ∙ ap (λ xs. xs ++ entries_below (drop (suc i) bs)) (sym (append_assoc (entries_below (take i bs)) b.node.entries es))
    ∙ ap (λ xs. xs ++ es ++ entries_below (drop (suc i) bs)) (sym (entries_below-step bs i b h is) ∙ ap (λ k. entries_below (take k bs)) (add-one i))

-- the first entry of a key stands at i
pub found_key : (k : Key) (es : List Boxed) (i : ℕ) (e : Boxed) → i < length es → e ≡ get_or es i e → is_key (key_of e) k ≡ true
    → taken k es ≡ take i es ++ taken k (drop i es) → taken k es ≡ remove es i
found_key k es i e h is same was =
    was ∙ ap (λ fs. take i es ++ taken k fs) (drop-cons es i e h ∙ ap (λ x. x ∷ drop (suc i) es) (sym is))
    ∙ ap (λ b. take i es ++ (if b then drop (suc i) es else e ∷ taken k (drop (suc i) es))) same
