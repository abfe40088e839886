-- How many entries are below a node, and when branches are a node's.
use Rattle.std.specs.Prelude.{◌≡◌, ℕ, ◌+◌, ◌*◌, ◌-◌, ◌<◌, ◌≤◌, ◌^◌, Bool, true, false, List, [], ◌∷◌, ◌++◌, length, IsTrue, IsFalse, if◌then◌else◌}
use Rattle.std.specs.List.{AllByRecursion}
use Rattle.std.proofs.Common.{refl, ap, sym, ◌∙◌, append-nil, take, drop, get_or, arith, add-one, subst, zero, suc}
use Rattle.std.proofs.Math.Nat.{mul-suc, pow-suc, mul-le-mul_left}
use Rattle.std.proofs.lemmas.List.{length-append, take-append-drop}
use Rattle.sf_rtree.specs.declared.node.Branch.{Branch}
use Rattle.sf_rtree.specs.declared.node.Members.{Members}
use Rattle.sf_rtree.specs.declared.node.Members.TheVariants.{Leaf, Inner}
use Rattle.sf_rtree.specs.Boxed.{Boxed}
use Rattle.sf_rtree.specs.Curves.{AreInOrder, IsLast, comes_before, key_of, put}
use Rattle.sf_rtree.specs.declared.entry.Key.{Key}
use Rattle.sf_rtree.specs.Nodes.{AreBranches, AreEntries, Covers, IsBranch, IsSized, IsNode, entries_below, levels_below, subtree_of}
use Rattle.sf_rtree.proofs.Meeting.{entries_below-append}
use Rattle.sf_rtree.proofs.Order.{in_order-left, in_order-right, all_left, all_map, all_right, past_last, put-past}

pub below-few : (levels : ℕ) (bs : List Branch) → AllByRecursion (IsBranch levels) bs
    → length (entries_below bs) ≤ 8 ^ levels * length bs
below-few levels [] h = omega arith
below-few levels (b ∷ bs) h =
    omega (arith, length-append b.node.entries (entries_below bs), mul-suc (8 ^ levels) (length bs), below-few levels bs h.1, h.0.filled.few_below)

pub below-enough : (levels : ℕ) (bs : List Branch) → AllByRecursion (IsBranch levels) bs
    → 3 ^ levels * length bs ≤ length (entries_below bs)
below-enough levels [] h = omega arith
below-enough levels (b ∷ bs) h =
    omega (arith, length-append b.node.entries (entries_below bs), mul-suc (3 ^ levels) (length bs), below-enough levels bs h.1, h.0.filled.enough_below)

pub next_power : (n k : ℕ) → n ^ (k + 1) ≡ n ^ k * n
next_power n k = ap (λ m. n ^ m) (add-one k) ∙ pow-suc n k

pub node-some : (m : Members) → IsNode m → 1 ≤ (subtree_of m).levels
node-some (Leaf es) h = omega arith
node-some (Inner bs) h = omega arith

pub node-few : (m : Members) → IsNode m → length (subtree_of m).entries ≤ 8 ^ (subtree_of m).levels
node-few (Leaf es) h = h.few
node-few (Inner bs) h =
    omega (arith, next_power 8 (levels_below bs.items), below-few (levels_below bs.items) bs.items h.branches, mul-le-mul_left (8 ^ levels_below bs.items) h.few)

pub inner-two : (bs : List Branch) → AreBranches bs → 2 * 3 ^ levels_below bs ≤ length (entries_below bs)
inner-two bs h =
    omega (arith, below-enough (levels_below bs) bs h.branches, mul-le-mul_left (3 ^ levels_below bs) h.enough)

pub node-enough : (m : Members) → IsNode m → 3 ≤ (subtree_of m).members → 3 ^ (subtree_of m).levels ≤ length (subtree_of m).entries
node-enough (Leaf es) h k = k
node-enough (Inner bs) h k =
    omega (arith, next_power 3 (levels_below bs.items), below-enough (levels_below bs.items) bs.items h.branches, mul-le-mul_left (3 ^ levels_below bs.items) k)

pub below_power : (n : ℕ) → n < 3 ^ n
below_power zero = omega arith
below_power (suc n) = omega (arith, pow-suc 3 n, below_power n)

pub node-root : (m : Members) → IsNode m → 1 < (subtree_of m).levels → 2 * 3 ^ ((subtree_of m).levels - 1) ≤ length (subtree_of m).entries
node-root (Leaf es) h k = absurd (omega (arith, k))
node-root (Inner bs) h k =
    let e : levels_below bs.items + 1 - 1 ≡ levels_below bs.items = omega arith in
    subst (λ l. 2 * 3 ^ l ≤ length (entries_below bs.items)) (sym e) (inner-two bs.items h)

pub levels_all : (levels : ℕ) (bs : List Branch) → AllByRecursion (IsBranch levels) bs → 1 ≤ length bs → levels_below bs ≡ levels
levels_all levels [] h k = absurd (omega arith)
levels_all levels (b ∷ bs) h k = h.0.filled.level

pub part : (levels : ℕ) (bs : List Branch) → AllByRecursion (IsBranch levels) bs → 2 ≤ length bs → length bs ≤ 8
    → AreInOrder (entries_below bs) → AreBranches bs
part levels bs h e f o =
    record {
      enough = e;
      few = f;
      branches = subst (λ l. AllByRecursion (IsBranch l) bs) (sym (levels_all levels bs h (omega arith))) h;
      in_order = o;
    }

pub below-split : (n : ℕ) (bs : List Branch) → entries_below (take n bs) ++ entries_below (drop n bs) ≡ entries_below bs
below-split n bs = sym (entries_below-append (take n bs) (drop n bs)) ∙ ap entries_below (take-append-drop n bs)

pub all_take : {X : Type 0} (P : X → Type 0) (n : ℕ) (xs : List X) → AllByRecursion P xs → AllByRecursion P (take n xs)
all_take P n xs h = all_left P (take n xs) (drop n xs) (subst (AllByRecursion P) (sym (take-append-drop n xs)) h)

pub all_drop : {X : Type 0} (P : X → Type 0) (n : ℕ) (xs : List X) → AllByRecursion P xs → AllByRecursion P (drop n xs)
all_drop P n xs h = all_right P (take n xs) (drop n xs) (subst (AllByRecursion P) (sym (take-append-drop n xs)) h)

pub front : (levels n : ℕ) (bs : List Branch) → AllByRecursion (IsBranch levels) bs → 2 ≤ length (take n bs) → length (take n bs) ≤ 8
    → AreInOrder (entries_below bs) → AreBranches (take n bs)
front levels n bs h e f o =
    part levels (take n bs) (all_take (IsBranch levels) n bs h) e f
    (in_order-left (entries_below (take n bs)) (entries_below (drop n bs)) (subst AreInOrder (sym (below-split n bs)) o))

pub back : (levels n : ℕ) (bs : List Branch) → AllByRecursion (IsBranch levels) bs → 2 ≤ length (drop n bs) → length (drop n bs) ≤ 8
    → AreInOrder (entries_below bs) → AreBranches (drop n bs)
back levels n bs h e f o =
    part levels (drop n bs) (all_drop (IsBranch levels) n bs h) e f
    (in_order-right (entries_below (take n bs)) (entries_below (drop n bs)) (subst AreInOrder (sym (below-split n bs)) o))

pub front_entries : (n : ℕ) (es : List Boxed) → length (take n es) ≤ 8 → AreInOrder es → AreEntries (take n es)
front_entries n es f o = record { few = f; in_order = in_order-left (take n es) (drop n es) (subst AreInOrder (sym (take-append-drop n es)) o) }

pub back_entries : (n : ℕ) (es : List Boxed) → length (drop n es) ≤ 8 → AreInOrder es → AreEntries (drop n es)
back_entries n es f o = record { few = f; in_order = in_order-right (take n es) (drop n es) (subst AreInOrder (sym (take-append-drop n es)) o) }

pub over_two : (levels : ℕ) (bs : List Branch) (first second : Branch) → bs ≡ first ∷ second ∷ [] → IsBranch levels first → IsBranch levels second
    → AreInOrder (first.node.entries ++ second.node.entries) → AreBranches bs
over_two levels bs first second is f s o =
    subst AreBranches (sym is)
    (part levels (first ∷ second ∷ []) (f, (s, tt)) (omega arith) (omega arith)
    (subst AreInOrder (ap (λ es. first.node.entries ++ es) (sym (append-nil second.node.entries))) o))

pub last_entry : (es : List Boxed) (i : ℕ) (e : Boxed) → suc i ≡ length es → e ≡ get_or es i e → IsLast (key_of e) es
last_entry [] i e k is = absurd (omega (arith, k))
last_entry (f ∷ []) zero e k is = ap key_of is
last_entry (f ∷ []) (suc i) e k is = absurd (omega (arith, k))
last_entry (f ∷ g ∷ es) zero e k is = absurd (omega (arith, k))
last_entry (f ∷ g ∷ es) (suc i) e k is = last_entry (g ∷ es) i e (omega (arith, k)) is

last-append : (k : Key) (xs ys : List Boxed) → IsLast k ys → IsLast k (xs ++ ys)
last-append k [] ys h = h
last-append k (x ∷ []) [] h = absurd h
last-append k (x ∷ []) (y ∷ ys) h = h
last-append k (x ∷ z ∷ xs) ys h = last-append k (z ∷ xs) ys h

-- ---- the last one of entries with a further one

last-if : (l : Key) (b : Bool) (xs ys : List Boxed) → IsLast l xs → IsLast l ys → IsLast l (if b then xs else ys)
last-if l true xs ys h k = h
last-if l false xs ys h k = k

last-stays : (l : Key) (e : Boxed) (es : List Boxed) → IsLast l es → IsFalse (comes_before l (key_of e)) → IsLast l (put e es)
last-stays l e [] last h = absurd last
last-stays l e (f ∷ []) last h =
    let here : comes_before (key_of f) (key_of e) ≡ false = subst (λ k. IsFalse (comes_before k (key_of e))) last h in
    subst (λ b. IsLast l (if b then f ∷ e ∷ [] else e ∷ f ∷ [])) (sym here) last
last-stays l e (f ∷ g ∷ es) last h =
    last-if l (comes_before (key_of f) (key_of e)) (f ∷ put e (g ∷ es)) (e ∷ f ∷ g ∷ es)
    (last-append l (f ∷ []) (put e (g ∷ es)) (last-stays l e (g ∷ es) last h)) last

last-moves : (l : Key) (e : Boxed) (es : List Boxed) → AreInOrder es → IsLast l es → IsTrue (comes_before l (key_of e)) → IsLast (key_of e) (put e es)
last-moves l e es order last h =
    subst (IsLast (key_of e))
    (sym (ap (put e) (sym (append-nil es)) ∙ put-past e es [] (past_last l (key_of e) es last order h)))
    (last-append (key_of e) es (e ∷ []) refl)

-- it is the later one of the last one and the further one
pub last-put : (l : Key) (e : Boxed) (es : List Boxed) → AreInOrder es → IsLast l es
    → IsLast (if comes_before l (key_of e) then key_of e else l) (put e es)
last-put l e es order last = at (comes_before l (key_of e)) refl
  where
    at : (b : Bool) → comes_before l (key_of e) ≡ b → IsLast (if b then key_of e else l) (put e es)
    at true is = last-moves l e es order last is
    at false is = last-stays l e es last is

pub last_below : (levels : ℕ) (bs : List Branch) (i : ℕ) (b : Branch) → AllByRecursion (IsBranch levels) bs → suc i ≡ length bs → b ≡ get_or bs i b
    → IsLast b.last (entries_below bs)
last_below levels [] i b h k is = absurd (omega (arith, k))
last_below levels (a ∷ []) zero b h k is =
    subst (λ x. IsLast x.last (entries_below (a ∷ []))) (sym is) (subst (IsLast a.last) (sym (append-nil a.node.entries)) h.0.last)
last_below levels (a ∷ []) (suc i) b h k is = absurd (omega (arith, k))
last_below levels (a ∷ c ∷ bs) zero b h k is = absurd (omega (arith, k))
last_below levels (a ∷ c ∷ bs) (suc i) b h k is =
    last-append b.last a.node.entries (entries_below (c ∷ bs)) (last_below levels (c ∷ bs) i b h.1 (omega (arith, k)) is)

pub all_covered : (levels : ℕ) (bs : List Branch) → AllByRecursion (IsBranch levels) bs → AllByRecursion (λ b. Covers b.extent b.node.entries) bs
all_covered levels bs h = all_map (IsBranch levels) (λ b. Covers b.extent b.node.entries) (λ b p. p.covered) bs h

pub node-sized : (m : Members) → IsNode m → IsSized (subtree_of m)
node-sized m h = record { some = node-some m h; enough_below = node-enough m h; few_below = node-few m h }
