-- Members of lists that were mapped, filtered and joined, and pairs that rise.
use Rattle.std.proofs.Common.{◌≡◌, ◌∙◌, ◌⊎◌, ℕ, zero, suc, ◌<◌, Bool, true, false, cond, List, [], ◌∷◌, ◌++◌, filter, flat_map, map, inl, inr, refl, ap, sym, subst, arith}
use Rattle.std.specs.declared.cmp.Ordering.{Ordering}
use Rattle.std.specs.declared.cmp.Ordering.TheVariants.{Equal, Less}
use Rattle.std.specs.Cmp.{nat_cmp_is}
use Rattle.std.specs.List.{AllByRecursion, Contains}
use Rattle.std.specs.List.Sorted.{IsStrictlySortedBy}
use Rattle.std.specs.Map.{keys_of}
use Rattle.std.specs.Prelude.{slice_index_or}
use Rattle.std.specs.Ordering.{nat_cmp, ordering_then}
use Rattle.std.proofs.lemmas.List.Elements.{Contains-append_cases, Contains-append_left, Contains-append_right}

-- ---- members

pub contains-cons : {X : Type 0} (x : X) (xs : List X) (y : X) → Contains (x ∷ xs) y → (x ≡ y) ⊎ Contains xs y
contains-cons x xs y c = by (Contains-append_cases (x ∷ []) xs y c)
  where
    alone : (k : ℕ) → k < 1 → Contains (x ∷ []) y → x ≡ y
    alone k h e = only e.0 e.1 e.2
      where
        only : (n : ℕ) → n < 1 → slice_index_or (x ∷ []) n y ≡ y → x ≡ y
        only zero below is = is
        only (suc n) below is = absurd (omega (arith, below))

    by : Contains (x ∷ []) y ⊎ Contains xs y → (x ≡ y) ⊎ Contains xs y
    by (inl here) = inl (alone here.0 here.1 here)
    by (inr there) = inr there

pub contains-here : {X : Type 0} (x : X) (xs : List X) → Contains (x ∷ xs) x
contains-here x xs = (0, omega arith, refl)

pub contains-there : {X : Type 0} (x : X) (xs : List X) (y : X) → Contains xs y → Contains (x ∷ xs) y
contains-there x xs y c = Contains-append_right (x ∷ []) xs y c

none-in : {X : Type 0} (y : X) → Contains [] y → ⊥
none-in y c = absurd (omega (arith, c.1))

pub map-contains : {X Y : Type 0} (f : X → Y) (xs : List X) (y : Y) → Contains (map f xs) y → (x : X) × Contains xs x × (f x ≡ y)
map-contains f [] y c = absurd (none-in y c)
map-contains f (x ∷ xs) y c = by (contains-cons (f x) (map f xs) y c) (map-contains f xs y)
  where
    by : (f x ≡ y) ⊎ Contains (map f xs) y → (Contains (map f xs) y → (z : _) × Contains xs z × (f z ≡ y)) → (z : _) × Contains (x ∷ xs) z × (f z ≡ y)
    by (inl is) later = (x, contains-here x xs, is)
    by (inr there) later = let found = later there in (found.0, contains-there x xs found.0 found.1, found.2)

pub contains-map : {X Y : Type 0} (f : X → Y) (xs : List X) (x : X) → Contains xs x → Contains (map f xs) (f x)
contains-map f [] x c = absurd (none-in x c)
contains-map f (z ∷ zs) x c = by (contains-cons z zs x c) (contains-map f zs x)
  where
    by : (z ≡ x) ⊎ Contains zs x → (Contains zs x → Contains (map f zs) (f x)) → Contains (f z ∷ map f zs) (f x)
    by (inl is) later = subst (λ w. Contains (f z ∷ map f zs) (f w)) is (contains-here (f z) (map f zs))
    by (inr there) later = contains-there (f z) (map f zs) (f x) (later there)

pub flat-contains : {X Y : Type 0} (f : X → List Y) (xs : List X) (y : Y) → Contains (flat_map f xs) y → (x : X) × Contains xs x × Contains (f x) y
flat-contains f [] y c = absurd (none-in y c)
flat-contains f (x ∷ xs) y c = by (Contains-append_cases (f x) (flat_map f xs) y c) (flat-contains f xs y)
  where
    by : Contains (f x) y ⊎ Contains (flat_map f xs) y → (Contains (flat_map f xs) y → (z : _) × Contains xs z × Contains (f z) y) → (z : _) × Contains (x ∷ xs) z × Contains (f z) y
    by (inl here) later = (x, contains-here x xs, here)
    by (inr there) later = let found = later there in (found.0, contains-there x xs found.0 found.1, found.2)

pub contains-flat : {X Y : Type 0} (f : X → List Y) (xs : List X) (x : X) (y : Y) → Contains xs x → Contains (f x) y → Contains (flat_map f xs) y
contains-flat f [] x y c d = absurd (none-in x c)
contains-flat f (z ∷ zs) x y c d = by (contains-cons z zs x c) (λ e. contains-flat f zs x y e d)
  where
    by : (z ≡ x) ⊎ Contains zs x → (Contains zs x → Contains (flat_map f zs) y) → Contains (f z ++ flat_map f zs) y
    by (inl is) later = Contains-append_left (f z) (flat_map f zs) y (subst (λ w. Contains (f w) y) (sym is) d)
    by (inr there) later = Contains-append_right (f z) (flat_map f zs) y (later there)

pub filter-contains : {X : Type 0} (p : X → Bool) (xs : List X) (x : X) → Contains (filter p xs) x → Contains xs x × (p x ≡ true)
filter-contains p [] x c = absurd (none-in x c)
filter-contains p (z ∷ zs) x c = by (p z) refl c (filter-contains p zs x)
  where
    at : (p z ≡ true) → (z ≡ x) ⊎ Contains (filter p zs) x → (Contains (filter p zs) x → Contains zs x × (p x ≡ true)) → Contains (z ∷ zs) x × (p x ≡ true)
    at passes (inl is) later = (subst (Contains (z ∷ zs)) is (contains-here z zs), ap p (sym is) ∙ passes)
    at passes (inr there) later = let found = later there in (contains-there z zs x found.0, found.1)

    by : (b : Bool) → p z ≡ b → Contains (cond b (z ∷ filter p zs) (filter p zs)) x → (Contains (filter p zs) x → Contains zs x × (p x ≡ true)) → Contains (z ∷ zs) x × (p x ≡ true)
    by true passes d later = at passes (contains-cons z (filter p zs) x d) later
    by false fails d later = let found = later d in (contains-there z zs x found.0, found.1)

pub contains-filter : {X : Type 0} (p : X → Bool) (xs : List X) (x : X) → Contains xs x → p x ≡ true → Contains (filter p xs) x
contains-filter p [] x c passes = absurd (none-in x c)
contains-filter p (z ∷ zs) x c passes = at (contains-cons z zs x c) (λ d. contains-filter p zs x d passes)
  where
    kept : (b : Bool) → p z ≡ b → Contains (filter p zs) x → Contains (cond b (z ∷ filter p zs) (filter p zs)) x
    kept true is d = contains-there z (filter p zs) x d
    kept false is d = d

    at : (z ≡ x) ⊎ Contains zs x → (Contains zs x → Contains (filter p zs) x) → Contains (filter p (z ∷ zs)) x
    at (inl is) later = subst (λ b. Contains (cond b (z ∷ filter p zs) (filter p zs)) x) (sym (ap p is ∙ passes)) (subst (Contains (z ∷ filter p zs)) is (contains-here z (filter p zs)))
    at (inr there) later = kept (p z) refl (later there)

-- ---- pairs that rise

abbrev cmp : ℕ × ℕ → ℕ × ℕ → Ordering
cmp p q = ordering_then (nat_cmp p.0 q.0) (nat_cmp p.1 q.1)

pub each-append : {X : Type 0} (P : X → Type 0) (xs ys : List X) → AllByRecursion P xs → AllByRecursion P ys → AllByRecursion P (xs ++ ys)
each-append P [] ys h k = k
each-append P (x ∷ xs) ys h k = (h.0, each-append P xs ys h.1 k)

append-rises : (xs ys : List (ℕ × ℕ)) → IsStrictlySortedBy cmp xs → IsStrictlySortedBy cmp ys → AllByRecursion (λ x. AllByRecursion (λ y. cmp x y ≡ Less) ys) xs → IsStrictlySortedBy cmp (xs ++ ys)
unfolding IsStrictlySortedBy
append-rises [] ys h k c = k
append-rises (x ∷ xs) ys h k c = (each-append (λ y. cmp x y ≡ Less) xs ys h.0 c.0, append-rises xs ys h.1 k c.1)

-- the pairs of one first number with second numbers that rise
pub row-rises : {X : Type 0} (k : ℕ) (es : List (ℕ × X)) → IsStrictlySortedBy nat_cmp (keys_of es) → IsStrictlySortedBy cmp (map (λ e. (k, e.0)) es)
unfolding IsStrictlySortedBy
row-rises k [] h = tt
row-rises {X} k (e ∷ es) h = (all es h.0, row-rises k es h.1)
  where
    all : (fs : List (ℕ × X)) → AllByRecursion (λ y. nat_cmp e.0 y ≡ Less) (keys_of fs) → AllByRecursion (λ q. cmp (k, e.0) q ≡ Less) (map (λ f. (k, f.0)) fs)
    all [] g = tt
    all (f ∷ fs) g = (ap (λ o. ordering_then o (nat_cmp e.0 f.0)) (sym (nat_cmp_is k k Equal refl)) ∙ g.0, all fs g.1)

-- each begins with it
pub row-begins : {X : Type 0} (k : ℕ) (es : List (ℕ × X)) → AllByRecursion (λ (q : ℕ × ℕ). q.0 ≡ k) (map (λ e. (k, e.0)) es)
row-begins k [] = tt
row-begins k (e ∷ es) = (refl, row-begins k es)

-- rows that rise, under first numbers that rise
module _ {X : Type 0} (row : ℕ × X → List (ℕ × ℕ)) (begins : (e : ℕ × X) → AllByRecursion (λ (q : ℕ × ℕ). q.0 ≡ e.0) (row e)) (rises : (e : ℕ × X) → IsStrictlySortedBy cmp (row e)) where
  later-row : (k : ℕ) (e : ℕ × X) (qs : List (ℕ × ℕ)) → nat_cmp k e.0 ≡ Less → AllByRecursion (λ (q : ℕ × ℕ). q.0 ≡ e.0) qs → AllByRecursion (λ (q : ℕ × ℕ). nat_cmp k q.0 ≡ Less) qs
  later-row k e [] h g = tt
  later-row k e (q ∷ qs) h g = (ap (nat_cmp k) g.0 ∙ h, later-row k e qs h g.1)

  later : (k : ℕ) (es : List (ℕ × X)) → AllByRecursion (λ y. nat_cmp k y ≡ Less) (keys_of es) → AllByRecursion (λ (q : ℕ × ℕ). nat_cmp k q.0 ≡ Less) (flat_map row es)
  later k [] h = tt
  later k (e ∷ es) h = each-append (λ (q : ℕ × ℕ). nat_cmp k q.0 ≡ Less) (row e) (flat_map row es) (later-row k e (row e) h.0 (begins e)) (later k es h.1)

  before : (x : ℕ × ℕ) (k : ℕ) (qs : List (ℕ × ℕ)) → x.0 ≡ k → AllByRecursion (λ (q : ℕ × ℕ). nat_cmp k q.0 ≡ Less) qs → AllByRecursion (λ y. cmp x y ≡ Less) qs
  before x k [] is h = tt
  before x k (q ∷ qs) is h = (ap (λ n. ordering_then (nat_cmp n q.0) (nat_cmp x.1 q.1)) is ∙ ap (λ o. ordering_then o (nat_cmp x.1 q.1)) h.0, before x k qs is h.1)

  all-before : (k : ℕ) (xs qs : List (ℕ × ℕ)) → AllByRecursion (λ (q : ℕ × ℕ). q.0 ≡ k) xs → AllByRecursion (λ (q : ℕ × ℕ). nat_cmp k q.0 ≡ Less) qs → AllByRecursion (λ x. AllByRecursion (λ y. cmp x y ≡ Less) qs) xs
  all-before k [] qs g h = tt
  all-before k (x ∷ xs) qs g h = (before x k qs g.0 h, all-before k xs qs g.1 h)

  pub flat-rises : (es : List (ℕ × X)) → IsStrictlySortedBy nat_cmp (keys_of es) → IsStrictlySortedBy cmp (flat_map row es)
  unfolding IsStrictlySortedBy
  flat-rises [] h = tt
  flat-rises (e ∷ es) h =
      append-rises (row e) (flat_map row es) (rises e) (flat-rises es h.1) (all-before e.0 (row e) (flat_map row es) (begins e) (later e.0 es h.0))
