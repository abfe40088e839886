-- Which pairs of an index are found between two ends.
use Rattle.std.specs.Prelude.{◌≡◌, ℕ, ◌≤◌, Bool, true, false, not, ◌||◌, List, [], ◌∷◌, map, filter, Option, None, Some, Result, Ok, Err, IfOk, IfSome, IsSomeAnd, nat_eq}
use Rattle.std.specs.BTreeMap.{is_at}
use Rattle.std.specs.BTreeMap.Range.{IsLeBy, IsLtBy, is_from_start, is_past_end, range_contains}
use Rattle.std.specs.Bound.{IsForward}
use Rattle.std.specs.List.{Contains, list_any}
use Rattle.std.specs.Map.{lookup}
use Rattle.std.specs.List.Sorted.{IsStrictlySortedBy}
use Rattle.std.specs.Ordering.{is_eq, is_gt, is_le, is_lt, nat_cmp, ordering_reverse, ordering_then}
use Rattle.std.specs.declared.cmp.Ordering.{Ordering}
use Rattle.std.specs.declared.cmp.Ordering.TheVariants.{Less, Equal, Greater}
use Rattle.std.specs.declared.ops.Bound.{Bound}
use Rattle.std.specs.declared.ops.Bound.TheVariants.{Included}
use Rattle.std.proofs.Common.{refl, ap, sym, subst, ◌∙◌, arith, true≢false}
use Rattle.std.proofs.lemmas.Bool.{and_from, and_parts}
use Rattle.std.proofs.lemmas.Bool.Decides.{nat_tests}
use Rattle.std.proofs.lemmas.Cmp.{alike_right, tied_itself, upto}
use Rattle.std.proofs.lemmas.Map.Views.{Contains-from_any, any-filter_same}
use Rattle.sf_features.specs.declared.attr_value.AttrValue.{AttrValue}
use Rattle.sf_features.specs.Order.{value_cmp}
use Rattle.sf_features.specs.Values.{same_value}
use Rattle.sf_features.proofs.SameLaws.{same-value}
use Rattle.sf_features.proofs.ValueTotal.{values_total}
use Rattle.sf_layers.specs.Found.{are_apart, is_between, is_from, is_up_to}
use Rattle.sf_layers.specs.KeyOrder.{keys_total}
use Rattle.sf_layers.specs.ValueIndexes.{AreListed, HasEach, HasRun, Indexes, Lists, Pairs, end_at, id_max, key, key_cmp, start_at}
use Rattle.sf_layers.specs.declared.value_key.ValueKey.{ValueKey}

pub IfOk-map : {T E : Type 0} (P Q : T → Type 0) (r : Result T E) → ((x : T) → P x → Q x) → IfOk r P → IfOk r Q
IfOk-map P Q (Ok x) f p = f x p
IfOk-map P Q (Err e) f p = p

-- ---- orders of two pairs

is_equal : (r : Ordering) → is_eq r ≡ true → r ≡ Equal
is_equal Less h = absurd (true≢false (sym h))
is_equal Equal h = refl
is_equal Greater h = absurd (true≢false (sym h))

le_then : (r s : Ordering) → is_le r ≡ true → is_le s ≡ true → is_le (ordering_then r s) ≡ true
le_then Less s h k = refl
le_then Equal s h k = k
le_then Greater s h k = absurd (true≢false (sym h))

-- what is at most something is not below it the other way round
not_lt_then : (r s : Ordering) → is_le (ordering_reverse r) ≡ true → is_lt s ≡ false → is_lt (ordering_then r s) ≡ false
not_lt_then Less s h k = absurd (true≢false (sym h))
not_lt_then Equal s h k = k
not_lt_then Greater s h k = refl

not_gt_then : (r s : Ordering) → is_gt r ≡ false → is_gt s ≡ false → is_gt (ordering_then r s) ≡ false
not_gt_then Less s h k = refl
not_gt_then Equal s h k = k
not_gt_then Greater s h k = absurd (true≢false h)

not_gt : (r : Ordering) → is_le r ≡ true → is_gt r ≡ false
not_gt Less h = refl
not_gt Equal h = refl
not_gt Greater h = absurd (true≢false (sym h))

second_equal : (r s : Ordering) → is_eq (ordering_then r s) ≡ true → is_eq s ≡ true
second_equal Less s h = absurd (true≢false (sym h))
second_equal Equal s h = h
second_equal Greater s h = absurd (true≢false (sym h))

from_zero : (n : ℕ) → is_le (nat_cmp 0 n) ≡ true
from_zero n = grind (arith, nat_tests)

up_to_max : (n : ℕ) → n ≤ id_max → is_lt (nat_cmp id_max n) ≡ false
up_to_max n few = grind (arith, nat_tests, few)

same_id : (m n : ℕ) → is_eq (nat_cmp m n) ≡ true → nat_eq m n ≡ true
same_id m n h = grind (arith, nat_tests)

-- ---- a pair between two ends

not_behind : (b : Bool) → b ≡ false → not b ≡ true
not_behind true h = absurd (true≢false h)
not_behind false h = refl

begins : (from : Option AttrValue) (value : AttrValue) (id : ℕ) (pair : ValueKey) → key_cmp (key value id) pair ≡ Equal → is_from from value ≡ true → is_from_start key_cmp (start_at from) pair ≡ true
begins None value id pair same h = refl
begins (Some end) value id pair same h =
    ap is_le (sym (alike_right keys_total (key value id) pair (key end 0) same)) ∙ le_then (value_cmp end value) (nat_cmp 0 id) h (from_zero id)

ends : (to : Option AttrValue) (value : AttrValue) (id : ℕ) (pair : ValueKey) → key_cmp (key value id) pair ≡ Equal → id ≤ id_max → is_up_to to value ≡ true → is_past_end key_cmp (end_at to) pair ≡ false
ends None value id pair same few h = refl
ends (Some end) value id pair same few h =
    ap is_lt (sym (alike_right keys_total (key value id) pair (key end id_max) same))
    ∙ not_lt_then (value_cmp end value) (nat_cmp id_max id) (ap is_le (sym (values_total.antisymm value end)) ∙ h) (up_to_max id few)

in_range : (from to : Option AttrValue) (value : AttrValue) (id : ℕ) (pair : ValueKey) → id ≤ id_max → is_between from to value ≡ true → is_at (key_cmp (key value id)) pair ≡ true
    → range_contains key_cmp (start_at from) (end_at to) pair ≡ true
in_range from to value id pair few between at =
    let same = is_equal (key_cmp (key value id) pair) at in
    let parts = and_parts (is_from from value) (is_up_to to value) between in
    and_from (is_from_start key_cmp (start_at from) pair) (not (is_past_end key_cmp (end_at to) pair)) (begins from value id pair same parts.0)
    (not_behind (is_past_end key_cmp (end_at to) pair) (ends to value id pair same few parts.1))

or_either : (a b c d : Bool) → (a ≡ true → c ≡ true) → (b ≡ true → d ≡ true) → (a || b) ≡ true → (c || d) ≡ true
or_either true b c d f g h = ap (λ x. x || d) (f refl)
or_either false b true d f g h = refl
or_either false b false d f g h = g h

any_id : (value : AttrValue) (id : ℕ) (pairs : Pairs) → list_any (is_at (key_cmp (key value id))) pairs ≡ true → list_any (nat_eq id) (map (λ pair. pair.id) pairs) ≡ true
any_id value id [] h = absurd (true≢false (sym h))
any_id value id (pair ∷ pairs) h =
    or_either (is_at (key_cmp (key value id)) pair) (list_any (is_at (key_cmp (key value id))) pairs) (nat_eq id pair.id) (list_any (nat_eq id) (map (λ p. p.id) pairs))
    (λ at. same_id id pair.id (second_equal (value_cmp value pair.value) (nat_cmp id pair.id) at)) (any_id value id pairs) h

same_number : (m n : ℕ) → nat_eq m n ≡ true → m ≡ n
same_number m n h = grind (arith, nat_tests)

-- the identifiers between two ends are those of all pairs whose value is between them
pub each-between : (from to : Option AttrValue) (start end : Bound ValueKey) (pairs : Pairs) (ids : List ℕ) → start ≡ start_at from → end ≡ end_at to
    → ((id : ℕ) → Contains (map (λ pair. pair.id) (filter (range_contains key_cmp start end) pairs)) id → Contains ids id) → HasEach (is_between from to) pairs ids
each-between from to start end pairs ids starts ends all value id has between =
    let kept : list_any (is_at (key_cmp (key value id))) (filter (range_contains key_cmp start end) pairs) ≡ true =
    any-filter_same (is_at (key_cmp (key value id))) (range_contains key_cmp start end) true
    (λ pair at. ap (λ b. range_contains key_cmp b end pair) starts ∙ ap (λ b. range_contains key_cmp (start_at from) b pair) ends ∙ in_range from to value id pair has.0 between at) pairs
    ∙ has.1 in
    all id (Contains-from_any same_number id (map (λ pair. pair.id) (filter (range_contains key_cmp start end) pairs)) (any_id value id (filter (range_contains key_cmp start end) pairs) kept))

-- one value is between itself and itself
between_itself : (value other : AttrValue) → same_value value other ≡ true → is_between (Some value) (Some value) other ≡ true
between_itself value other same =
    subst (λ v. is_between (Some value) (Some value) v ≡ true) (same-value value other same)
    (and_from (is_le (value_cmp value value)) (is_le (value_cmp value value)) (ap is_le (tied_itself values_total value)) (ap is_le (tied_itself values_total value)))

pub each-same : (value : AttrValue) (start end : ValueKey) (pairs : Pairs) (ids : List ℕ) → start ≡ key value 0 → end ≡ key value id_max
    → ((id : ℕ) → Contains (map (λ pair. pair.id) (filter (range_contains key_cmp (Included start) (Included end)) pairs)) id → Contains ids id) → HasEach (same_value value) pairs ids
each-same value start end pairs ids starts ends all other id has same =
    each-between (Some value) (Some value) (Included start) (Included end) pairs ids (ap (λ k. Included k) starts) (ap (λ k. Included k) ends) all other id has (between_itself value other same)

-- the pairs of one value are in order
pub forward-same : (value : AttrValue) (start end : ValueKey) → start ≡ key value 0 → end ≡ key value id_max → IsForward (IsLeBy key_cmp) (IsLtBy key_cmp) (Included start) (Included end)
forward-same value start end starts ends =
    ap (λ k. is_gt (key_cmp k end)) starts ∙ ap (λ k. is_gt (key_cmp (key value 0) k)) ends
    ∙ not_gt_then (value_cmp value value) (nat_cmp 0 id_max) (ap is_gt (tied_itself values_total value)) (not_gt (nat_cmp 0 id_max) (from_zero id_max))

-- nothing is between two ends of which the first is behind the second
pub none-apart : (from to : Option AttrValue) (pairs : Pairs) (ids : List ℕ) → are_apart from to ≡ true → HasEach (is_between from to) pairs ids
none-apart (Some from) (Some to) pairs ids apart value id has between =
    let parts = and_parts (is_from (Some from) value) (is_up_to (Some to) value) between in
    absurd (true≢false (sym apart ∙ upto values_total from value to (not_gt (value_cmp from value) parts.0) (not_gt (value_cmp value to) parts.1)))
none-apart None to pairs ids apart value id has between = absurd (true≢false (sym apart))
none-apart (Some from) None pairs ids apart value id has between = absurd (true≢false (sym apart))

pub none-rise : IsStrictlySortedBy nat_cmp []
unfolding IsStrictlySortedBy
none-rise = tt

-- ---- what is found, if anything is

pub found-map : {T E : Type 0} (P Q : T → Type 0) (r : Result (Option T) E) → ((x : T) → P x → Q x) → IfOk r (λ o. IfSome o P) → IfOk r (λ o. IfSome o Q)
found-map P Q (Ok (Some x)) f p = f x p
found-map P Q (Ok None) f p = tt
found-map P Q (Err e) f p = p

pub lists-same : (value : AttrValue) (start end : ValueKey) (pairs : Pairs) (ids : List ℕ) → start ≡ key value 0 → end ≡ key value id_max → HasRun (Included start) (Included end) pairs ids
    → Lists (same_value value) pairs ids
lists-same value start end pairs ids starts ends run = (run.0, each-same value start end pairs ids starts ends run.1)

pub lists-between : (from to : Option AttrValue) (start end : Bound ValueKey) (pairs : Pairs) (ids : List ℕ) → start ≡ start_at from → end ≡ end_at to → HasRun start end pairs ids
    → Lists (is_between from to) pairs ids
lists-between from to start end pairs ids starts ends run = (run.0, each-between from to start end pairs ids starts ends run.1)

pub lists-none : (from to : Option AttrValue) (pairs : Pairs) (ids : List ℕ) → are_apart from to ≡ true → ids ≡ [] → Lists (is_between from to) pairs ids
lists-none from to pairs ids apart none = (subst (IsStrictlySortedBy nat_cmp) (sym none) none-rise, none-apart from to pairs ids apart)

-- what an index lists, of the indexes that it is one of
pub listed : (test : AttrValue → Bool) (number : ℕ) (indexes : Indexes) (pairs : Pairs) (ids : List ℕ) → Some pairs ≡ lookup (nat_eq number) indexes → Lists test pairs ids
    → AreListed test number indexes ids
listed test number indexes pairs ids found lists = subst (λ o. IsSomeAnd o (λ p. Lists test p ids)) found lists
