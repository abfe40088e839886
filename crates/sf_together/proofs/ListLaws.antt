-- Lists of which each element passes, and entries that are found under their keys.
use Rattle.std.proofs.Common.{◌≡◌, ℕ, Bool, true, false, cond, ◌||◌, List, [], ◌∷◌, ◌++◌, map, filter, Some, nat_eq, bytes_eq, refl, ap, sym, subst, ◌∙◌}
use Rattle.std.proofs.lemmas.Bool.{eq-eqb, eqb-true}
use Rattle.std.specs.declared.cmp.Ordering.TheVariants.{Less}
use Rattle.std.proofs.lemmas.Slice.Eq.{bytes_eq-Decides}
use Rattle.std.specs.List.{AllByRecursion, flat_map, list_any}
use Rattle.std.specs.List.Sorted.{IsStrictlySortedBy}
use Rattle.std.specs.Map.{keys_of, lookup}
use Rattle.std.specs.Ordering.{nat_cmp}
use Rattle.sf_features.specs.Columns.{IsDistinct}
use Rattle.sf_layers.proofs.Values.{less-below, nat_eq-apart-above}
use Rattle.sf_layers.proofs.Kept.{all-weaker, none_or}

-- ---- each element

pub all-append : {X : Type 0} (P : X → Type 0) (a b : List X) → AllByRecursion P a → AllByRecursion P b → AllByRecursion P (a ++ b)
all-append P [] b all all' = all'
all-append P (x ∷ a) b all all' = (all.0, all-append P a b all.1 all')

pub all-map : {X Y : Type 0} (P : Y → Type 0) (f : X → Y) (xs : List X) → AllByRecursion (λ x. P (f x)) xs → AllByRecursion P (map f xs)
all-map P f [] all = tt
all-map P f (x ∷ xs) all = (all.0, all-map P f xs all.1)

pub all-of_map : {X Y : Type 0} (P : Y → Type 0) (f : X → Y) (xs : List X) → AllByRecursion P (map f xs) → AllByRecursion (λ x. P (f x)) xs
all-of_map P f [] all = tt
all-of_map P f (x ∷ xs) all = (all.0, all-of_map P f xs all.1)

pub all-flat_map : {X Y : Type 0} (P : Y → Type 0) (f : X → List Y) (xs : List X) → AllByRecursion (λ x. AllByRecursion P (f x)) xs → AllByRecursion P (flat_map f xs)
all-flat_map P f [] all = tt
all-flat_map P f (x ∷ xs) all = all-append P (f x) (flat_map f xs) all.0 (all-flat_map P f xs all.1)

pub all-filter : {X : Type 0} (P : X → Type 0) (test : X → Bool) (xs : List X) → AllByRecursion (λ x. test x ≡ true → P x) xs → AllByRecursion P (filter test xs)
all-filter P test [] all = tt
all-filter {X} P test (x ∷ xs) all = by (all-filter P test xs all.1) (test x) refl
  where
    by : AllByRecursion P (filter test xs) → (b : Bool) → test x ≡ b → AllByRecursion P (cond b (x ∷ filter test xs) (filter test xs))
    by later true is = (all.0 is, later)
    by later false is = later

pub all-both : {X : Type 0} (P Q : X → Type 0) (xs : List X) → AllByRecursion P xs → AllByRecursion Q xs → AllByRecursion (λ x. P x × Q x) xs
all-both P Q [] all all' = tt
all-both P Q (x ∷ xs) all all' = ((all.0, all'.0), all-both P Q xs all.1 all'.1)

-- what holds of everything holds of each element
pub all-always : {X : Type 0} (P : X → Type 0) → ((x : X) → P x) → (xs : List X) → AllByRecursion P xs
all-always P h [] = tt
all-always P h (x ∷ xs) = (h x, all-always P h xs)

-- none passes, so each fails
pub all-none : {X : Type 0} (test : X → Bool) (xs : List X) → list_any test xs ≡ false → AllByRecursion (λ x. test x ≡ false) xs
all-none test [] h = tt
all-none test (x ∷ xs) h = let both = none_or (test x) (list_any test xs) h in (both.0, all-none test xs both.1)

-- ---- some element

pub any-left : {X : Type 0} (test : X → Bool) (a b : List X) → list_any test a ≡ true → list_any test (a ++ b) ≡ true
any-left test [] b h = cc
any-left {X} test (x ∷ a) b h = by (λ later. any-left test a b later) (test x) h
  where
    by : (list_any test a ≡ true → list_any test (a ++ b) ≡ true) → (c : Bool) → c || list_any test a ≡ true → c || list_any test (a ++ b) ≡ true
    by later true is = refl
    by later false is = later is

pub any-right : {X : Type 0} (test : X → Bool) (a b : List X) → list_any test b ≡ true → list_any test (a ++ b) ≡ true
any-right test [] b h = h
any-right {X} test (x ∷ a) b h = by (any-right test a b h) (test x)
  where
    by : list_any test (a ++ b) ≡ true → (c : Bool) → c || list_any test (a ++ b) ≡ true
    by later true = refl
    by later false = later

-- ---- entries under distinct names

lookup-name : {X : Type 0} (e : List ℕ × X) (es : List (List ℕ × X)) → lookup (bytes_eq e.0) (e ∷ es) ≡ Some e.1
lookup-name e es = ap (λ b. cond b (Some e.1) (lookup (bytes_eq e.0) es)) ((bytes_eq-Decides e.0 e.0).1 refl)

pub bytes_eq-turned : (a b : List ℕ) → bytes_eq a b ≡ false → bytes_eq b a ≡ false
bytes_eq-turned a b h = by (bytes_eq b a) refl
  where
    by : (c : Bool) → bytes_eq b a ≡ c → c ≡ false
    by true is = let yes : bytes_eq a b ≡ true = (bytes_eq-Decides a b).1 (sym ((bytes_eq-Decides b a).0 is)) in cc
    by false is = refl

-- each entry is found under its name
pub all-found : {X : Type 0} (es : List (List ℕ × X)) → IsDistinct bytes_eq (keys_of es) → AllByRecursion (λ e. lookup (bytes_eq e.0) es ≡ Some e.1) es
all-found [] distinct = tt
all-found {X} (e ∷ es) distinct = (
  lookup-name e es,
  all-weaker (λ f. (lookup (bytes_eq f.0) es ≡ Some f.1) × (bytes_eq e.0 f.0 ≡ false)) (λ f. lookup (bytes_eq f.0) (e ∷ es) ≡ Some f.1)
      (λ f h. ap (λ b. cond b (Some e.1) (lookup (bytes_eq f.0) es)) (bytes_eq-turned e.0 f.0 h.1) ∙ h.0) es
      (all-both (λ f. lookup (bytes_eq f.0) es ≡ Some f.1) (λ f. bytes_eq e.0 f.0 ≡ false) es (all-found es distinct.1)
      (all-of_map (λ n. bytes_eq e.0 n ≡ false) (λ f. f.0) es (all-none (bytes_eq e.0) (keys_of es) distinct.0))),
)

-- what holds of each entry holds of the one that is found
pub all-at_name : {X : Type 0} (P : List ℕ × X → Type 0) (es : List (List ℕ × X)) (name : List ℕ) (x : X) → AllByRecursion P es → lookup (bytes_eq name) es ≡ Some x → P (name, x)
all-at_name P [] name x all found = cc
all-at_name {X} P (e ∷ es) name x all found = by (λ there. all-at_name P es name x all.1 there) (bytes_eq name e.0) refl found
  where
    by : (lookup (bytes_eq name) es ≡ Some x → P (name, x)) → (b : Bool) → bytes_eq name e.0 ≡ b → cond b (Some e.1) (lookup (bytes_eq name) es) ≡ Some x → P (name, x)
    by later true is h =
        let there : e.1 ≡ x = cc in
        subst (λ n. P (n, x)) (sym ((bytes_eq-Decides name e.0).0 is)) (subst (λ y. P (e.0, y)) there all.0)
    by later false is h = later h

-- ---- entries under rising numbers

module _ {X : Type 0} where
  pub all-found_rising : (es : List (ℕ × X)) → IsStrictlySortedBy nat_cmp (keys_of es) → AllByRecursion (λ e. lookup (nat_eq e.0) es ≡ Some e.1) es
  unfolding IsStrictlySortedBy
  all-found_rising [] rising = tt
  all-found_rising (e ∷ es) rising = (
    ap (λ b. cond b (Some e.1) (lookup (nat_eq e.0) es)) (eq-eqb e.0 e.0 refl),
    all-weaker (λ f. (lookup (nat_eq f.0) es ≡ Some f.1) × (nat_cmp e.0 f.0 ≡ Less)) (λ f. lookup (nat_eq f.0) (e ∷ es) ≡ Some f.1)
        (λ f h. ap (λ b. cond b (Some e.1) (lookup (nat_eq f.0) es)) (nat_eq-apart-above f.0 e.0 (less-below e.0 f.0 h.1)) ∙ h.0) es
        (all-both (λ f. lookup (nat_eq f.0) es ≡ Some f.1) (λ f. nat_cmp e.0 f.0 ≡ Less) es (all-found_rising es rising.1)
        (all-of_map (λ n. nat_cmp e.0 n ≡ Less) (λ f. f.0) es rising.0)),
  )

-- what holds of each entry holds of the one that is found
pub all-at_number : {X : Type 0} (P : ℕ × X → Type 0) (es : List (ℕ × X)) (number : ℕ) (x : X) → AllByRecursion P es → lookup (nat_eq number) es ≡ Some x → P (number, x)
all-at_number P [] number x all found = cc
all-at_number {X} P (e ∷ es) number x all found = by (λ there. all-at_number P es number x all.1 there) (nat_eq number e.0) refl found
  where
    by : (lookup (nat_eq number) es ≡ Some x → P (number, x)) → (b : Bool) → nat_eq number e.0 ≡ b → cond b (Some e.1) (lookup (nat_eq number) es) ≡ Some x → P (number, x)
    by later true is h =
        let there : e.1 ≡ x = cc in
        subst (λ n. P (n, x)) (sym (eqb-true number e.0 is)) (subst (λ y. P (e.0, y)) there all.0)
    by later false is h = later h
