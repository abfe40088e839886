-- Entries under rising numbers: found, put in, exchanged and taken out at the place of a number.
use Rattle.std.proofs.Common.{◌≡◌, ℕ, zero, suc, ◌<◌, ◌≤◌, Bool, true, false, cond, List, [], ◌∷◌, length, get_or, insert, remove, slice_get, slice_set, Some, None, nat_eq, refl, ap, sym, subst, ◌∙◌, arith}
use Rattle.std.proofs.lemmas.Bool.{eq-eqb}
use Rattle.std.proofs.lemmas.Bool.Decides.{nat_tests}
use Rattle.std.proofs.lemmas.Option.{slice_get_read}
use Rattle.std.specs.declared.cmp.Ordering.{Ordering}
use Rattle.std.specs.declared.cmp.Ordering.TheVariants.{Less, Equal, Greater}
use Rattle.std.specs.Ordering.{nat_cmp, match_ordering, ordering_index}
use Rattle.std.specs.BTreeMap.{insert_entry}
use Rattle.std.specs.List.{AllByRecursion, AllWithin}
use Rattle.std.specs.List.Sorted.{IsStrictlySortedBy, IsNonDecreasingBy}
use Rattle.std.specs.Map.{lookup, keys_of, remove_entry}
use Rattle.std.proofs.lemmas.List.Elements.{All-from_recursion}
use Rattle.std.proofs.lemmas.Map.Entries.{length-keys_of}
use Rattle.std.proofs.lemmas.Map.Views.{length-le_from_below}
use Rattle.sf_features.specs.declared.attr_value.AttrValue.{AttrValue}
use Rattle.sf_features.specs.Features.{AreByNumber, number_end}

-- ---- numbers compared

pub less-below : (m n : ℕ) → nat_cmp m n ≡ Less → m < n
less-below m n h = grind (arith, nat_tests)

pub equal-same : (m n : ℕ) → nat_cmp m n ≡ Equal → m ≡ n
equal-same m n h = grind (arith, nat_tests)

pub greater-above : (m n : ℕ) → nat_cmp m n ≡ Greater → n < m
greater-above m n h = grind (arith, nat_tests)

pub cmp-below : (m n : ℕ) → m < n → nat_cmp m n ≡ Less
cmp-below m n h = grind (arith, nat_tests)

pub cmp-same : (n : ℕ) → nat_cmp n n ≡ Equal
cmp-same n = grind (arith, nat_tests)

pub cmp-above : (m n : ℕ) → n < m → nat_cmp m n ≡ Greater
cmp-above m n h = grind (arith, nat_tests)

pub eq-below : (m n : ℕ) → m < n → nat_eq m n ≡ false
eq-below m n h = grind (arith, nat_tests)

pub eq-above : (m n : ℕ) → n < m → nat_eq m n ≡ false
eq-above m n h = grind (arith, nat_tests)

-- the answers to one number do not fall along rising numbers
index-rises : (m k n : ℕ) → m < k → ordering_index (nat_cmp m n) ≤ ordering_index (nat_cmp k n)
index-rises m k n h = grind (arith, nat_tests)

-- ---- what stands at a place

key-at : {X : Type 0} (P : ℕ → Type 0) (es : List (ℕ × X)) (i : ℕ) (d : ℕ × X) → AllByRecursion P (keys_of es) → i < length es → P ((get_or es i d).0)
key-at P [] i d all within = absurd (omega (arith, within))
key-at P (e ∷ es) zero d all within = all.0
key-at P (e ∷ es) (suc i) d all within = key-at P es i d all.1 (omega (arith, within))

-- the answers of a search for n do not fall along the entries
module _ {X : Type 0} where
  pub answers-rise : (n : ℕ) (es : List (ℕ × X)) → IsStrictlySortedBy nat_cmp (keys_of es) → IsNonDecreasingBy (λ e. ordering_index (nat_cmp e.0 n)) es
  unfolding IsStrictlySortedBy
  answers-rise n [] rising i j d le within = absurd (omega (arith, within))
  answers-rise n (e ∷ es) rising zero zero d le within = omega arith
  answers-rise n (e ∷ es) rising zero (suc j) d le within =
      index-rises e.0 (get_or es j d).0 n (less-below e.0 (get_or es j d).0 (key-at (λ k. nat_cmp e.0 k ≡ Less) es j d rising.0 (omega (arith, within))))
  answers-rise n (e ∷ es) rising (suc i) zero d le within = absurd (omega (arith, le))
  answers-rise n (e ∷ es) rising (suc i) (suc j) d le within = answers-rise n es rising.1 i j d (omega (arith, le)) (omega (arith, within))

-- ---- a number that stands at a place

-- what stands at a place stands above what is below all
above-at : {X : Type 0} (m n : ℕ) (v : X) (es : List (ℕ × X)) (i : ℕ) → AllByRecursion (λ k. nat_cmp m k ≡ Less) (keys_of es) → slice_get es i ≡ Some (n, v) → m < n
above-at m n v [] i all at = cc
above-at {X} m n v (e ∷ es) zero all at =
    let is : ◌≡◌ {A = ℕ × X} e (n, v) = cc in
    subst (λ k. m < k) (ap (λ p. p.0) is) (less-below m e.0 all.0)
above-at m n v (e ∷ es) (suc i) all at = above-at m n v es i all.1 at

module _ {X : Type 0} where
  -- it is found
  pub lookup-at : (n : ℕ) (v : X) (es : List (ℕ × X)) (i : ℕ) → IsStrictlySortedBy nat_cmp (keys_of es) → slice_get es i ≡ Some (n, v) → lookup (nat_eq n) es ≡ Some v
  unfolding IsStrictlySortedBy
  lookup-at n v [] i rising at = cc
  lookup-at n v (e ∷ es) zero rising at =
      let is : ◌≡◌ {A = ℕ × X} e (n, v) = cc in
      ap (λ b. cond b (Some e.1) (lookup (nat_eq n) es)) (eq-eqb n e.0 (sym (ap (λ p. p.0) is))) ∙ ap (λ p. Some p.1) is
  lookup-at n v (e ∷ es) (suc i) rising at =
      ap (λ b. cond b (Some e.1) (lookup (nat_eq n) es)) (eq-above n e.0 (above-at e.0 n v es i rising.0 at)) ∙ lookup-at n v es i rising.1 at

  -- another value is put in there
  pub slice_set-at : (n : ℕ) (v w : X) (es : List (ℕ × X)) (i : ℕ) → IsStrictlySortedBy nat_cmp (keys_of es) → slice_get es i ≡ Some (n, v) → slice_set es i (n, w) ≡ insert_entry nat_cmp es n w
  unfolding IsStrictlySortedBy
  slice_set-at n v w [] i rising at = cc
  slice_set-at n v w (e ∷ es) zero rising at =
      let is : ◌≡◌ {A = ℕ × X} e (n, v) = cc in
      let same : e.0 ≡ n = ap (λ p. p.0) is in
      ap (λ k. (k, w) ∷ es) (sym same)
      ∙ sym (ap (λ o. match_ordering o ((n, w) ∷ e ∷ es) ((e.0, w) ∷ es) (e ∷ insert_entry nat_cmp es n w)) (subst (λ k. nat_cmp n k ≡ Equal) (sym same) (cmp-same n)))
  slice_set-at n v w (e ∷ es) (suc i) rising at =
      ap (λ rest. e ∷ rest) (slice_set-at n v w es i rising.1 at)
      ∙ sym (ap (λ o. match_ordering o ((n, w) ∷ e ∷ es) ((e.0, w) ∷ es) (e ∷ insert_entry nat_cmp es n w)) (cmp-above n e.0 (above-at e.0 n v es i rising.0 at)))

  -- it is taken out there
  pub remove-at : (n : ℕ) (v : X) (es : List (ℕ × X)) (i : ℕ) → IsStrictlySortedBy nat_cmp (keys_of es) → slice_get es i ≡ Some (n, v) → remove es i ≡ remove_entry (nat_eq n) es
  unfolding IsStrictlySortedBy
  remove-at n v [] i rising at = cc
  remove-at n v (e ∷ es) zero rising at =
      let is : ◌≡◌ {A = ℕ × X} e (n, v) = cc in
      sym (ap (λ b. cond b es (e ∷ remove_entry (nat_eq n) es)) (eq-eqb n e.0 (sym (ap (λ p. p.0) is))))
  remove-at n v (e ∷ es) (suc i) rising at =
      ap (λ rest. e ∷ rest) (remove-at n v es i rising.1 at)
      ∙ sym (ap (λ b. cond b es (e ∷ remove_entry (nat_eq n) es)) (eq-above n e.0 (above-at e.0 n v es i rising.0 at)))

-- ---- a number that no entry has, and the place where it would stand

-- all numbers before the place are below n, and all from there on above it
abbrev pub IsGap : {X : Type 0} → ℕ → List (ℕ × X) → ℕ → Type 0
IsGap n es i = AllWithin (λ e. nat_cmp e.0 n ≡ Less) es 0 i × AllWithin (λ e. nat_cmp e.0 n ≡ Greater) es i (length es)

-- the gap in the entries after the first
gap-next : {X : Type 0} (n : ℕ) (e : ℕ × X) (es : List (ℕ × X)) (i : ℕ) → IsGap n (e ∷ es) (suc i) → IsGap n es i
gap-next n e es i gap = (λ k d low high. gap.0 (suc k) d (omega arith) (omega (arith, high)), λ k d low high. gap.1 (suc k) d (omega (arith, low)) (omega (arith, high)))

gap-first : {X : Type 0} (n : ℕ) (e : ℕ × X) (es : List (ℕ × X)) → IsGap n (e ∷ es) zero → IsGap n es zero
gap-first n e es gap = (λ k d low high. absurd (omega (arith, high)), λ k d low high. gap.1 (suc k) d (omega arith) (omega (arith, high)))

gap-above : {X : Type 0} (n : ℕ) (e : ℕ × X) (es : List (ℕ × X)) → IsGap n (e ∷ es) zero → n < e.0
gap-above n e es gap = greater-above e.0 n (gap.1 0 e (omega arith) (omega arith))

gap-below : {X : Type 0} (n : ℕ) (e : ℕ × X) (es : List (ℕ × X)) (i : ℕ) → IsGap n (e ∷ es) (suc i) → e.0 < n
gap-below n e es i gap = less-below e.0 n (gap.0 0 e (omega arith) (omega arith))

-- it is not found
pub lookup-gap : {X : Type 0} (n : ℕ) (es : List (ℕ × X)) (i : ℕ) → IsGap n es i → lookup (nat_eq n) es ≡ None
lookup-gap n [] i gap = refl
lookup-gap n (e ∷ es) zero gap =
    ap (λ b. cond b (Some e.1) (lookup (nat_eq n) es)) (eq-below n e.0 (gap-above n e es gap)) ∙ lookup-gap n es zero (gap-first n e es gap)
lookup-gap n (e ∷ es) (suc i) gap =
    ap (λ b. cond b (Some e.1) (lookup (nat_eq n) es)) (eq-above n e.0 (gap-below n e es i gap)) ∙ lookup-gap n es i (gap-next n e es i gap)

-- it is put in there
pub insert-gap : {X : Type 0} (n : ℕ) (v : X) (es : List (ℕ × X)) (i : ℕ) → IsGap n es i → insert es i (n, v) ≡ insert_entry nat_cmp es n v
insert-gap n v [] zero gap = refl
insert-gap n v [] (suc i) gap = refl
insert-gap n v (e ∷ es) zero gap =
    sym (ap (λ o. match_ordering o ((n, v) ∷ e ∷ es) ((e.0, v) ∷ es) (e ∷ insert_entry nat_cmp es n v)) (cmp-below n e.0 (gap-above n e es gap)))
insert-gap n v (e ∷ es) (suc i) gap =
    ap (λ rest. e ∷ rest) (insert-gap n v es i (gap-next n e es i gap))
    ∙ sym (ap (λ o. match_ordering o ((n, v) ∷ e ∷ es) ((e.0, v) ∷ es) (e ∷ insert_entry nat_cmp es n v)) (cmp-above n e.0 (gap-below n e es i gap)))

-- nothing is taken out where nothing is there
pub remove_entry-none : {X : Type 0} (k : ℕ) (es : List (ℕ × X)) → lookup (nat_eq k) es ≡ None → remove_entry (nat_eq k) es ≡ es
remove_entry-none k [] none = refl
remove_entry-none {X} k (e ∷ es) none = by (remove_entry-none k es) (nat_eq k e.0) none
  where
    by : (lookup (nat_eq k) es ≡ None → remove_entry (nat_eq k) es ≡ es) → (b : Bool) → cond b (Some e.1) (lookup (nat_eq k) es) ≡ None
        → cond b es (e ∷ remove_entry (nat_eq k) es) ≡ e ∷ es
    by later true h = cc
    by later false h = ap (λ rest. e ∷ rest) (later h)

-- ---- numbers rise after each

pub all_below : (k m : ℕ) (ks : List ℕ) → k < m → AllByRecursion (λ n. nat_cmp m n ≡ Less) ks → AllByRecursion (λ n. nat_cmp k n ≡ Less) ks
all_below k m [] h all = tt
all_below k m (n ∷ ks) h all = (cmp-below k n (omega (arith, h, less-below m n all.0)), all_below k m ks h all.1)

rising-insert_entry-below : {X : Type 0} (m k : ℕ) (v : X) (es : List (ℕ × X)) → m < k → AllByRecursion (λ n. nat_cmp m n ≡ Less) (keys_of es) → AllByRecursion (λ n. nat_cmp m n ≡ Less) (keys_of (insert_entry nat_cmp es k v))
rising-insert_entry-below m k v [] below all = (cmp-below m k below, tt)
rising-insert_entry-below {X} m k v (e ∷ es) below all = by (rising-insert_entry-below m k v es below all.1) (nat_cmp k e.0)
  where
    by : AllByRecursion (λ n. nat_cmp m n ≡ Less) (keys_of (insert_entry nat_cmp es k v)) → (o : Ordering)
        → AllByRecursion (λ n. nat_cmp m n ≡ Less) (keys_of (match_ordering o ((k, v) ∷ e ∷ es) ((e.0, v) ∷ es) (e ∷ insert_entry nat_cmp es k v)))
    by later Less = (cmp-below m k below, all)
    by later Equal = all
    by later Greater = (all.0, later)

module _ {X : Type 0} where
  pub rising-insert_entry : (k : ℕ) (v : X) (es : List (ℕ × X)) → IsStrictlySortedBy nat_cmp (keys_of es) → IsStrictlySortedBy nat_cmp (keys_of (insert_entry nat_cmp es k v))
  unfolding IsStrictlySortedBy
  rising-insert_entry k v [] rising = (tt, tt)
  rising-insert_entry k v (e ∷ es) rising = by (rising-insert_entry k v es rising.1) (nat_cmp k e.0) refl
    where
      by : IsStrictlySortedBy nat_cmp (keys_of (insert_entry nat_cmp es k v)) → (o : Ordering) → nat_cmp k e.0 ≡ o
          → IsStrictlySortedBy nat_cmp (keys_of (match_ordering o ((k, v) ∷ e ∷ es) ((e.0, v) ∷ es) (e ∷ insert_entry nat_cmp es k v)))
      by later Less is = ((is, all_below k e.0 (keys_of es) (less-below k e.0 is) rising.0), rising)
      by later Equal is = rising
      by later Greater is = (rising-insert_entry-below e.0 k v es (greater-above k e.0 is) rising.0, later)

all-remove_entry : {X : Type 0} (P : ℕ → Type 0) (test : ℕ → Bool) (es : List (ℕ × X)) → AllByRecursion P (keys_of es) → AllByRecursion P (keys_of (remove_entry test es))
all-remove_entry P test [] h = h
all-remove_entry {X} P test (e ∷ es) h = at_entry (all-remove_entry P test es h.1) (test e.0)
  where
    at_entry : AllByRecursion P (keys_of (remove_entry test es)) → (b : Bool) → AllByRecursion P (keys_of (cond b es (e ∷ remove_entry test es)))
    at_entry later true = h.1
    at_entry later false = (h.0, later)

module _ {X : Type 0} where
  pub rising-remove_entry : (test : ℕ → Bool) (es : List (ℕ × X)) → IsStrictlySortedBy nat_cmp (keys_of es) → IsStrictlySortedBy nat_cmp (keys_of (remove_entry test es))
  unfolding IsStrictlySortedBy
  rising-remove_entry test [] h = h
  rising-remove_entry test (e ∷ es) h = at_entry (rising-remove_entry test es h.1) (test e.0)
    where
      at_entry : IsStrictlySortedBy nat_cmp (keys_of (remove_entry test es)) → (b : Bool) → IsStrictlySortedBy nat_cmp (keys_of (cond b es (e ∷ remove_entry test es)))
      at_entry later true = h.1
      at_entry later false = (all-remove_entry _ test es h.0, later)

-- ---- what a search for a number says of the entries

-- the entry read at the place of a hit has the number
pub number-hit : {X : Type 0} (n : ℕ) (es : List (ℕ × X)) (i : ℕ) (e : ℕ × X) → ((d : ℕ × X) → nat_cmp (get_or es i d).0 n ≡ Equal) → e ≡ get_or es i e → e.0 ≡ n
number-hit n es i e equal is = ap (λ p. p.0) is ∙ equal-same (get_or es i e).0 n (equal e)

-- and stands there
pub hit : {X : Type 0} (n : ℕ) (es : List (ℕ × X)) (i : ℕ) (e : ℕ × X) → i < length es → ((d : ℕ × X) → nat_cmp (get_or es i d).0 n ≡ Equal) → e ≡ get_or es i e → slice_get es i ≡ Some (n, e.1)
hit {X} n es i e within equal is =
    slice_get_read es (length es) i e refl within is ∙ ap (λ k. let p : ℕ × X = (k, e.1) in Some p) (number-hit n es i e equal is)

-- ---- values by column number

all-insert_entry : {X : Type 0} (P : ℕ → Type 0) (k : ℕ) (v : X) (es : List (ℕ × X)) → P k → AllByRecursion P (keys_of es) → AllByRecursion P (keys_of (insert_entry nat_cmp es k v))
all-insert_entry P k v [] here all = (here, tt)
all-insert_entry {X} P k v (e ∷ es) here all = by (all-insert_entry P k v es here all.1) (nat_cmp k e.0)
  where
    by : AllByRecursion P (keys_of (insert_entry nat_cmp es k v)) → (o : Ordering)
        → AllByRecursion P (keys_of (match_ordering o ((k, v) ∷ e ∷ es) ((e.0, v) ∷ es) (e ∷ insert_entry nat_cmp es k v)))
    by later Less = (here, all)
    by later Equal = all
    by later Greater = (all.0, later)

-- there are none
pub AreByNumber-none : AreByNumber []
unfolding IsStrictlySortedBy
AreByNumber-none = record { rising = tt; below = tt }

-- one is put in
pub AreByNumber-insert_entry : (number : ℕ) (value : AttrValue) (values : List (ℕ × AttrValue)) → number < number_end → AreByNumber values → AreByNumber (insert_entry nat_cmp values number value)
AreByNumber-insert_entry number value values below are = record {
  rising = rising-insert_entry number value values are.rising;
  below = all-insert_entry (λ n. n < number_end) number value values below are.below;
}

-- one is taken out
pub AreByNumber-remove_entry : (test : ℕ → Bool) (values : List (ℕ × AttrValue)) → AreByNumber values → AreByNumber (remove_entry test values)
AreByNumber-remove_entry test values are = record {
  rising = rising-remove_entry test values are.rising;
  below = all-remove_entry (λ n. n < number_end) test values are.below;
}

-- there are no more of them than numbers
pub AreByNumber-few : (values : List (ℕ × AttrValue)) → AreByNumber values → length values ≤ number_end
AreByNumber-few values are =
    let few = length-le_from_below number_end (keys_of values) are.rising (All-from_recursion (λ n. n < number_end) (keys_of values) are.below) in
    omega (arith, few, length-keys_of values)
