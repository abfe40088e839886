-- The entries of boxes that rise by identifier, sorted by key, are those of a root with just these boxes.
use Rattle.std.specs.Prelude.{◌≡◌, ◌≢◌, ℕ, ◌+◌, ◌<◌, ◌≤◌, ◌^◌, false, List, [], ◌∷◌, Option, None, Some, length, map, nat_eq, IsFalse, is_some}
use Rattle.std.specs.declared.cmp.Ordering.TheVariants.{Less}
use Rattle.std.specs.Cmp.{nat_eq_equiv}
use Rattle.std.specs.List.{AllByRecursion, IsDistinct}
use Rattle.std.specs.List.Sorted.{IsPermutation, IsStrictlySortedBy}
use Rattle.std.specs.Map.{keys_of}
use Rattle.std.specs.Ordering.{is_lt, nat_cmp, ordering_then}
use Rattle.std.proofs.Common.{refl, ap, sym, ◌∙◌, subst, arith, get_or, take, take_all, suc}
use Rattle.std.proofs.lemmas.Bool.{eqb-false, eqb-true}
use Rattle.std.proofs.lemmas.Bool.Decides.{nat_tests}
use Rattle.std.proofs.lemmas.List.Elements.{All-from_recursion, recursion_from_All}
use Rattle.std.proofs.lemmas.List.Sorted.{All-permutation, Contains-permutation, IsPermutation-map, list_any-IsPermutation}
use Rattle.std.proofs.lemmas.Map.Keys.{IsDistinct-IsPermutation}
use Rattle.std.proofs.lemmas.Map.Made.{is_some-lookup}
use Rattle.std.proofs.lemmas.Map.Views.{Contains-from_lookup, lookup-from_Contains}
use Rattle.sf_geometry.specs.declared.extent.Extent.{Extent}
use Rattle.sf_rtree.specs.declared.entry.Key.{Key}
use Rattle.sf_rtree.specs.Boxed.{Boxed}
use Rattle.sf_rtree.specs.Curves.{AreInOrder, comes_before, key_of}
use Rattle.sf_rtree.specs.Indexes.{Boxes, box_of}
use Rattle.sf_rtree.specs.Subtrees.{Subtree, boxes_of}
use Rattle.sf_rtree.specs.Subtrees.{IsDistinct as AreApart}
use Rattle.sf_rtree.proofs.Entries.{map_of_entries, pairs}
use Rattle.sf_rtree.proofs.Maps.{Rises}
use Rattle.sf_rtree.proofs.Order.{all_map, stays_behind}
use Rattle.sf_rtree.proofs.Roots.{IsRootOf}

-- an identifier and its box as an entry
abbrev pub boxed : ℕ × Extent → Boxed
boxed e = record { id = e.0; extent = e.1 }

-- ---- sorted entries are in order

pub not_before : (k l : Key) → is_lt (ordering_then (nat_cmp k.place l.place) (nat_cmp k.id l.id)) ≡ false → IsFalse (comes_before k l)
not_before k l h = grind (arith, nat_tests)

-- each is not before the one that it follows
abbrev pub AreUpward : List Boxed → Type 0
AreUpward es = (k : ℕ) (d : Boxed) → k + 1 < length es → IsFalse (comes_before (key_of (get_or es (k + 1) d)) (key_of (get_or es k d)))

upward-tail : (e : Boxed) (es : List Boxed) → AreUpward (e ∷ es) → AreUpward es
upward-tail e es up k d h =
    let s : suc k + 1 ≡ suc (k + 1) = omega arith in
    subst (λ i. IsFalse (comes_before (key_of (get_or (e ∷ es) i d)) (key_of (get_or es k d)))) s (up (suc k) d (omega (arith, h)))

pub in_order-upward : (es : List Boxed) → AreUpward es → AreInOrder es
in_order-upward [] up = tt
in_order-upward (e ∷ []) up = (tt, tt)
in_order-upward (e ∷ f ∷ es) up = at (in_order-upward (f ∷ es) (upward-tail e (f ∷ es) up))
  where
    at : AreInOrder (f ∷ es) → AreInOrder (e ∷ f ∷ es)
    at rest =
        let next : IsFalse (comes_before (key_of f) (key_of e)) = up 0 e (omega arith) in (
          (
            next,
            all_map (λ g. IsFalse (comes_before (key_of g) (key_of f))) (λ g. IsFalse (comes_before (key_of g) (key_of e)))
                (λ g p. stays_behind (key_of e) (key_of f) (key_of g) next p) es rest.0,
          ),
          rest,
        )

-- ---- a permutation of entries has the same boxes

pub rises-sorted : (es : Boxes) → IsStrictlySortedBy nat_cmp (keys_of es) → Rises es
unfolding IsStrictlySortedBy
rises-sorted [] h = tt
rises-sorted (e ∷ es) h = (above es h.0, rises-sorted es h.1)
  where
    less : (m n : ℕ) → nat_cmp m n ≡ Less → m < n
    less m n h = grind (arith, nat_tests)

    above : (fs : Boxes) → AllByRecursion (λ n. nat_cmp e.0 n ≡ Less) (keys_of fs) → AllByRecursion (λ f. e.0 < f.0) fs
    above [] k = tt
    above (f ∷ fs) k = (less e.0 f.0 k.0, above fs k.1)

keys_apart : (es : Boxes) → Rises es → IsDistinct nat_eq (keys_of es)
unfolding IsDistinct
keys_apart [] h = tt
keys_apart (e ∷ es) h = (apart es h.0, keys_apart es h.1)
  where
    unlike : (m n : ℕ) → m < n → nat_eq m n ≡ false
    unlike m n h = grind (arith, nat_tests)

    apart : (fs : Boxes) → AllByRecursion (λ f. e.0 < f.0) fs → AllByRecursion (λ n. nat_eq e.0 n ≡ false) (keys_of fs)
    apart [] k = tt
    apart (f ∷ fs) k = (unlike e.0 f.0 k.0, apart fs k.1)

apart_from_keys : (es : List Boxed) → IsDistinct nat_eq (keys_of (pairs es)) → AreApart es
unfolding IsDistinct
apart_from_keys [] h = tt
apart_from_keys (e ∷ es) h = (apart es h.0, apart_from_keys es h.1)
  where
    apart : (fs : List Boxed) → AllByRecursion (λ n. nat_eq e.id n ≡ false) (keys_of (pairs fs)) → AllByRecursion (λ f. f.id ≢ e.id) fs
    apart [] k = tt
    apart (f ∷ fs) k = ((λ p. eqb-false e.id f.id k.0 (sym p)), apart fs k.1)

none_from : {A : Type 0} (o : Option A) → is_some o ≡ false → o ≡ None
none_from None h = refl
none_from (Some x) h = cc

same_look_up : (es fs : Boxes) → IsPermutation es fs → IsDistinct nat_eq (keys_of es) → (q : ℕ) → box_of fs q ≡ box_of es q
same_look_up es fs moved apart q = at (box_of es q) refl
  where
    keys_moved : IsPermutation (keys_of es) (keys_of fs)
    keys_moved = IsPermutation-map (λ e. e.0) es fs moved

    at : (o : Option Extent) → box_of es q ≡ o → box_of fs q ≡ o
    at None is =
        none_from (box_of fs q)
        (is_some-lookup (nat_eq q) fs ∙ sym (list_any-IsPermutation (nat_eq q) (keys_of es) (keys_of fs) keys_moved)
        ∙ sym (is_some-lookup (nat_eq q) es) ∙ ap is_some is)
    at (Some x) is =
        lookup-from_Contains nat_eq_equiv q x fs (IsDistinct-IsPermutation nat_eq nat_eq_equiv.symm (keys_of es) (keys_of fs) keys_moved apart)
        (Contains-permutation es fs (q, x) moved (Contains-from_lookup eqb-true q x es is))

pairs-map : (es : List Boxed) → pairs es ≡ map (λ e. (e.id, e.extent)) es
pairs-map [] = refl
pairs-map (e ∷ es) = ap (λ es. (e.id, e.extent) ∷ es) (pairs-map es)

pairs-boxed : (es : Boxes) → map (λ e. (e.id, e.extent)) (map boxed es) ≡ es
pairs-boxed [] = refl
pairs-boxed (e ∷ es) = ap (λ es. e ∷ es) (pairs-boxed es)

-- a loop over all of the boxes has gone past each
pub all_boxed : (i : ℕ) (shown boxes : Boxes) → length shown ≤ i → shown ≡ boxes → map boxed (take i shown) ≡ map boxed boxes
all_boxed i shown boxes h is = ap (map boxed) (take_all i shown h ∙ is)

-- the sorted entries as a root's
pub root_of_boxes : (n : Subtree) (boxes : Boxes) (made sorted : List Boxed) → IsStrictlySortedBy nat_cmp (keys_of boxes) → made ≡ map boxed boxes
    → AllByRecursion (λ e. e.id < 2 ^ 32) made → IsPermutation made sorted → AreUpward sorted → n.entries ≡ sorted → IsRootOf n boxes
root_of_boxes n boxes made sorted rising is small moved up entries =
    let rises = rises-sorted boxes rising in
    let from : map (λ e. (e.id, e.extent)) made ≡ boxes = ap (map (λ e. (e.id, e.extent))) is ∙ pairs-boxed boxes in
    let shown : IsPermutation boxes (pairs sorted) =
    subst (λ fs. IsPermutation fs (pairs sorted)) from
    (subst (IsPermutation (map (λ e. (e.id, e.extent)) made)) (sym (pairs-map sorted)) (IsPermutation-map (λ e. (e.id, e.extent)) made sorted moved)) in
    let apart = keys_apart boxes rises in
    record {
      root =
          record {
            in_order = subst AreInOrder (sym entries) (in_order-upward sorted up);
            distinct =
                subst AreApart (sym entries)
                (apart_from_keys sorted (IsDistinct-IsPermutation nat_eq nat_eq_equiv.symm (keys_of boxes) (keys_of (pairs sorted)) (IsPermutation-map (λ e. e.0) boxes (pairs sorted) shown) apart));
            small =
                subst (AllByRecursion (λ e. e.id < 2 ^ 32)) (sym entries)
                (recursion_from_All (λ e. e.id < 2 ^ 32) sorted (All-permutation (λ e. e.id < 2 ^ 32) made sorted moved (All-from_recursion (λ e. e.id < 2 ^ 32) made small)));
          };
      boxes = ap boxes_of entries ∙ map_of_entries sorted boxes rises (same_look_up boxes (pairs sorted) shown apart);
    }
