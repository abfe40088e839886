-- Entries in order: one put in its place, one taken away, and what goes by keys goes to one branch.
use Rattle.std.specs.Prelude.{◌≡◌, ℕ, Bool, true, false, List, [], ◌∷◌, ◌++◌, IsTrue, IsFalse, if◌then◌else◌}
use Rattle.std.specs.List.{AllByRecursion}
use Rattle.std.proofs.Common.{refl, ap, sym, ◌∙◌, append_assoc, append-nil, take, drop, get_or, arith, subst, zero, suc}
use Rattle.sf_rtree.specs.declared.entry.Key.{Key}
use Rattle.sf_rtree.specs.declared.node.Branch.{Branch}
use Rattle.sf_rtree.specs.Boxed.{Boxed}
use Rattle.sf_rtree.specs.Curves.{AreInOrder, IsLast, comes_before, is_key, key_of, put, taken}
use Rattle.sf_rtree.specs.Nodes.{IsBranch, IsPlace, entries_below}

pub stays_behind : (a b c : Key) → IsFalse (comes_before b a) → IsFalse (comes_before c b) → IsFalse (comes_before c a)
stays_behind a b c h k = grind arith

pub stays_before : (f l k : Key) → IsFalse (comes_before l f) → IsTrue (comes_before l k) → IsTrue (comes_before f k)
stays_before f l k h t = grind arith

pub not_both : (a b : Key) → IsTrue (comes_before a b) → IsFalse (comes_before b a)
not_both a b h = grind arith

pub other_key : (a b : Key) → IsTrue (comes_before a b) → IsFalse (is_key a b)
other_key a b h = grind arith

pub later_key : (k y z : Key) → IsFalse (comes_before y k) → IsFalse (is_key y k) → IsFalse (comes_before z y) → IsFalse (is_key z k)
later_key k y z h n l = grind arith

not_itself : (k : Key) → IsFalse (comes_before k k)
not_itself k = grind arith

pub all_map : {X : Type 0} (P Q : X → Type 0) → ((x : X) → P x → Q x) → (xs : List X) → AllByRecursion P xs → AllByRecursion Q xs
all_map P Q f [] h = tt
all_map P Q f (x ∷ xs) h = (f x h.0, all_map P Q f xs h.1)

pub all_left : {X : Type 0} (P : X → Type 0) (xs ys : List X) → AllByRecursion P (xs ++ ys) → AllByRecursion P xs
all_left P [] ys h = tt
all_left P (x ∷ xs) ys h = (h.0, all_left P xs ys h.1)

pub all_right : {X : Type 0} (P : X → Type 0) (xs ys : List X) → AllByRecursion P (xs ++ ys) → AllByRecursion P ys
all_right P [] ys h = h
all_right P (x ∷ xs) ys h = all_right P xs ys h.1

pub all_both : {X : Type 0} (P : X → Type 0) (xs ys : List X) → AllByRecursion P xs → AllByRecursion P ys → AllByRecursion P (xs ++ ys)
all_both P [] ys h k = k
all_both P (x ∷ xs) ys h k = (h.0, all_both P xs ys h.1 k)

pub in_order-left : (xs ys : List Boxed) → AreInOrder (xs ++ ys) → AreInOrder xs
in_order-left [] ys h = tt
in_order-left (x ∷ xs) ys h = (all_left (λ f. IsFalse (comes_before (key_of f) (key_of x))) xs ys h.0, in_order-left xs ys h.1)

pub in_order-right : (xs ys : List Boxed) → AreInOrder (xs ++ ys) → AreInOrder ys
in_order-right [] ys h = h
in_order-right (x ∷ xs) ys h = in_order-right xs ys h.1

all_if : (P : Boxed → Type 0) (b : Bool) (xs ys : List Boxed) → AllByRecursion P xs → AllByRecursion P ys
    → AllByRecursion P (if b then xs else ys)
all_if P true xs ys h k = h
all_if P false xs ys h k = k

pub all-put : (P : Boxed → Type 0) (e : Boxed) (es : List Boxed) → P e → AllByRecursion P es → AllByRecursion P (put e es)
all-put P e [] p h = (p, tt)
all-put P e (f ∷ fs) p h =
    all_if P (comes_before (key_of f) (key_of e)) (f ∷ put e fs) (e ∷ f ∷ fs) (h.0, all-put P e fs p h.1) (p, h)

pub all-taken : (P : Boxed → Type 0) (k : Key) (es : List Boxed) → AllByRecursion P es → AllByRecursion P (taken k es)
all-taken P k [] h = tt
all-taken P k (f ∷ fs) h = all_if P (is_key (key_of f) k) fs (f ∷ taken k fs) h.1 (h.0, all-taken P k fs h.1)

put-step : (e f : Boxed) (fs : List Boxed) (b : Bool) → comes_before (key_of f) (key_of e) ≡ b → AreInOrder (f ∷ fs)
    → AreInOrder (put e fs) → AreInOrder (if b then f ∷ put e fs else e ∷ f ∷ fs)
put-step e f fs true is h rest =
    (all-put (λ g. IsFalse (comes_before (key_of g) (key_of f))) e fs (not_both (key_of f) (key_of e) is) h.0, rest)
put-step e f fs false is h rest = (
  (
    is,
    all_map (λ g. IsFalse (comes_before (key_of g) (key_of f))) (λ g. IsFalse (comes_before (key_of g) (key_of e)))
        (λ g p. stays_behind (key_of e) (key_of f) (key_of g) is p) fs h.0,
  ),
  h,
)

pub in_order-put : (e : Boxed) (es : List Boxed) → AreInOrder es → AreInOrder (put e es)
in_order-put e [] h = (tt, tt)
in_order-put e (f ∷ fs) h = put-step e f fs (comes_before (key_of f) (key_of e)) refl h (in_order-put e fs h.1)

taken-step : (f : Boxed) (fs gs : List Boxed) (b : Bool) → AreInOrder fs
    → AllByRecursion (λ g. IsFalse (comes_before (key_of g) (key_of f))) gs → AreInOrder gs
    → AreInOrder (if b then fs else f ∷ gs)
taken-step f fs gs true h a k = h
taken-step f fs gs false h a k = (a, k)

pub in_order-taken : (k : Key) (es : List Boxed) → AreInOrder es → AreInOrder (taken k es)
in_order-taken k [] h = tt
in_order-taken k (f ∷ fs) h =
    taken-step f fs (taken k fs) (is_key (key_of f) k) h.1
    (all-taken (λ g. IsFalse (comes_before (key_of g) (key_of f))) k fs h.0) (in_order-taken k fs h.1)

of_last : (P : Key → Type 0) (k : Key) (es : List Boxed) → IsLast k es → AllByRecursion (λ f. P (key_of f)) es → P k
of_last P k [] last h = absurd last
of_last P k (e ∷ []) last h = subst P (sym last) h.0
of_last P k (e ∷ f ∷ es) last h = of_last P k (f ∷ es) last h.1

up_to_last : (k : Key) (es : List Boxed) → IsLast k es → AreInOrder es → AllByRecursion (λ f. IsFalse (comes_before k (key_of f))) es
up_to_last k [] last h = absurd last
up_to_last k (e ∷ []) last h = (subst (λ l. IsFalse (comes_before k l)) last (not_itself k), tt)
up_to_last k (e ∷ f ∷ es) last h =
    (of_last (λ l. IsFalse (comes_before l (key_of e))) k (f ∷ es) last h.0, up_to_last k (f ∷ es) last h.1)

-- what ends before a key is before it
pub past_last : (l k : Key) (es : List Boxed) → IsLast l es → AreInOrder es → IsTrue (comes_before l k)
    → AllByRecursion (λ f. IsTrue (comes_before (key_of f) k)) es
past_last l k es last h t =
    all_map (λ f. IsFalse (comes_before l (key_of f))) (λ f. IsTrue (comes_before (key_of f) k))
    (λ f p. stays_before (key_of f) l k p t) es (up_to_last l es last h)

-- a change of a list that goes by a key: past what comes before it, and not past an end that doesn't
pub record GoesByKey (k : Key) (change : List Boxed → List Boxed) : Type 0 where
  pub past : (xs ys : List Boxed) → AllByRecursion (λ f. IsTrue (comes_before (key_of f) k)) xs → change (xs ++ ys) ≡ xs ++ change ys
  pub within : (l : Key) (ys zs : List Boxed) → IsLast l ys → IsFalse (comes_before l k) → AreInOrder (ys ++ zs) → change (ys ++ zs) ≡ change ys ++ zs

if-append : (b : Bool) (xs ys zs : List Boxed) → (if b then xs ++ zs else ys ++ zs) ≡ (if b then xs else ys) ++ zs
if-append true xs ys zs = refl
if-append false xs ys zs = refl

pub put-past : (e : Boxed) (xs ys : List Boxed) → AllByRecursion (λ f. IsTrue (comes_before (key_of f) (key_of e))) xs
    → put e (xs ++ ys) ≡ xs ++ put e ys
put-past e [] ys h = refl
put-past e (x ∷ xs) ys h =
    ap (λ b. if b then x ∷ put e (xs ++ ys) else e ∷ x ∷ (xs ++ ys)) h.0 ∙ ap (λ zs. x ∷ zs) (put-past e xs ys h.1)

put-within : (e : Boxed) (l : Key) (ys zs : List Boxed) → IsLast l ys → IsFalse (comes_before l (key_of e))
    → AreInOrder (ys ++ zs) → put e (ys ++ zs) ≡ put e ys ++ zs
put-within e l [] zs last h o = absurd last
put-within e l (y ∷ []) zs last h o =
    ap (λ b. if b then y ∷ put e zs else e ∷ y ∷ zs) here ∙ sym (ap (λ b. (if b then y ∷ e ∷ [] else e ∷ y ∷ []) ++ zs) here)
  where
    here : comes_before (key_of y) (key_of e) ≡ false
    here = subst (λ m. IsFalse (comes_before m (key_of e))) last h
put-within e l (y ∷ x ∷ ys) zs last h o =
    ap (λ rest. if comes_before (key_of y) (key_of e) then y ∷ rest else e ∷ y ∷ x ∷ (ys ++ zs)) (put-within e l (x ∷ ys) zs last h o.1)
    ∙ if-append (comes_before (key_of y) (key_of e)) (y ∷ put e (x ∷ ys)) (e ∷ y ∷ x ∷ ys) zs

pub put_goes : (e : Boxed) → GoesByKey (key_of e) (put e)
put_goes e = record { past = put-past e; within = put-within e }

taken-past : (k : Key) (xs ys : List Boxed) → AllByRecursion (λ f. IsTrue (comes_before (key_of f) k)) xs
    → taken k (xs ++ ys) ≡ xs ++ taken k ys
taken-past k [] ys h = refl
taken-past k (x ∷ xs) ys h =
    ap (λ b. if b then xs ++ ys else x ∷ taken k (xs ++ ys)) (other_key (key_of x) k h.0) ∙ ap (λ zs. x ∷ zs) (taken-past k xs ys h.1)

pub taken-none : (k : Key) (es : List Boxed) → AllByRecursion (λ f. IsFalse (is_key (key_of f) k)) es → taken k es ≡ es
taken-none k [] h = refl
taken-none k (f ∷ fs) h =
    ap (λ b. if b then fs else f ∷ taken k fs) h.0 ∙ ap (λ es. f ∷ es) (taken-none k fs h.1)

taken-end : (k : Key) (y : Boxed) (zs : List Boxed) (b : Bool) → is_key (key_of y) k ≡ b → IsFalse (comes_before (key_of y) k)
    → AllByRecursion (λ f. IsFalse (comes_before (key_of f) (key_of y))) zs
    → (if b then zs else y ∷ taken k zs) ≡ (if b then [] else y ∷ []) ++ zs
taken-end k y zs true is h o = refl
taken-end k y zs false is h o =
    ap (λ es. y ∷ es) (taken-none k zs (all_map (λ f. IsFalse (comes_before (key_of f) (key_of y))) (λ f. IsFalse (is_key (key_of f) k))
    (λ f p. later_key k (key_of y) (key_of f) h is p) zs o))

taken-within : (k l : Key) (ys zs : List Boxed) → IsLast l ys → IsFalse (comes_before l k) → AreInOrder (ys ++ zs)
    → taken k (ys ++ zs) ≡ taken k ys ++ zs
taken-within k l [] zs last h o = absurd last
taken-within k l (y ∷ []) zs last h o =
    taken-end k y zs (is_key (key_of y) k) refl (subst (λ m. IsFalse (comes_before m k)) last h) o.0
taken-within k l (y ∷ x ∷ ys) zs last h o =
    ap (λ rest. if is_key (key_of y) k then x ∷ (ys ++ zs) else y ∷ rest) (taken-within k l (x ∷ ys) zs last h o.1)
    ∙ if-append (is_key (key_of y) k) (x ∷ ys) (y ∷ taken k (x ∷ ys)) zs

pub taken_goes : (k : Key) → GoesByKey k (taken k)
taken_goes k = record { past = taken-past k; within = taken-within k }

next_place : (k : Key) (b : Branch) (bs : List Branch) (i : ℕ) → IsPlace k (b ∷ bs) (suc i) → IsPlace k bs i
next_place k b bs i p =
    record { bound = omega (arith, p.bound); before = p.before.1; here = λ h. p.here (omega (arith, h)) }

-- the change is one of the branch at the key's place
pub change-at : (k : Key) (change : List Boxed → List Boxed) → GoesByKey k change → (levels : ℕ) (bs : List Branch) (i : ℕ) (d : Branch)
    → AllByRecursion (IsBranch levels) bs → AreInOrder (entries_below bs) → IsPlace k bs i
    → change (entries_below bs)
    ≡ entries_below (take i bs) ++ (change ((get_or bs i d).node.entries) ++ entries_below (drop (suc i) bs))
change-at k change goes levels [] i d are order p = absurd (omega (arith, p.bound))
change-at k change goes levels (b ∷ []) zero d are order p =
    ap change (append-nil b.node.entries) ∙ sym (append-nil (change b.node.entries))
change-at k change goes levels (b ∷ c ∷ cs) zero d are order p =
    goes.within b.last b.node.entries (entries_below (c ∷ cs)) are.0.last (p.here (omega arith)).0 order
change-at k change goes levels (b ∷ bs) (suc i) d are order p =
    goes.past b.node.entries (entries_below bs)
    (past_last b.last k b.node.entries are.0.last (in_order-left b.node.entries (entries_below bs) order) p.before.0)
    ∙ ap (λ es. b.node.entries ++ es)
    (change-at k change goes levels bs i d are.1 (in_order-right b.node.entries (entries_below bs) order) (next_place k b bs i p))
    ∙ sym (append_assoc b.node.entries (entries_below (take i bs)) (change ((get_or bs i d).node.entries) ++ entries_below (drop (suc i) bs)))
