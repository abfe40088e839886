-- Lists with the same members, tests of members, and how long lists are.
use Rattle.std.proofs.Common.{◌≡◌, ◌∙◌, ◌⊎◌, ℕ, ◌<◌, ◌≤◌, Bool, true, false, ◌||◌, cond, not, List, [], ◌∷◌, filter, length, nat_eq, inl, inr, refl, ap, sym, subst, arith}
use Rattle.std.specs.declared.cmp.Ordering.TheVariants.{Less}
use Rattle.std.specs.List.{AllByRecursion, Contains, IsDistinct, list_any}
use Rattle.std.specs.List.Sorted.{IsStrictlySortedBy}
use Rattle.std.specs.Ordering.{nat_cmp}
use Rattle.std.proofs.lemmas.Bool.{eq-eqb, eqb-true, false≢true}
use Rattle.std.proofs.lemmas.Bool.Decides.{nat_tests}
use Rattle.std.proofs.lemmas.List.Elements.{All-contains, All-from_recursion}
use Rattle.sf_joins.proofs.PairLaws.{contains-cons, contains-filter, contains-here, contains-there}

-- ---- members

pub each-contains : {X : Type 0} (P : X → Type 0) (xs : List X) (x : X) → AllByRecursion P xs → Contains xs x → P x
each-contains P xs x h c = All-contains P xs x (All-from_recursion P xs h) c

pub contains-none : {X : Type 0} (x : X) → Contains [] x → ⊥
contains-none x c = absurd (omega (arith, c.1))

less-below : (m n : ℕ) → nat_cmp m n ≡ Less → m < n
less-below m n h = grind (arith, nat_tests)

-- what passes a test is found by it
pub any-contains : {X : Type 0} (p : X → Bool) (xs : List X) → list_any p xs ≡ true → (x : X) × Contains xs x × (p x ≡ true)
any-contains p [] h = absurd (false≢true h)
any-contains p (x ∷ xs) h = by (p x) refl (any-contains p xs) h
  where
    by : (b : Bool) → p x ≡ b → (list_any p xs ≡ true → (y : _) × Contains xs y × (p y ≡ true)) → (b || list_any p xs) ≡ true → (y : _) × Contains (x ∷ xs) y × (p y ≡ true)
    by true is later k = (x, contains-here x xs, is)
    by false is later k = let found = later k in (found.0, contains-there x xs found.0 found.1, found.2)

pub contains-any : {X : Type 0} (p : X → Bool) (xs : List X) (x : X) → Contains xs x → p x ≡ true → list_any p xs ≡ true
contains-any p [] x c passes = absurd (contains-none x c)
contains-any p (z ∷ zs) x c passes = by (contains-cons z zs x c) (λ d. contains-any p zs x d passes)
  where
    or-true : (b : Bool) → (b || true) ≡ true
    or-true true = refl
    or-true false = refl

    by : (z ≡ x) ⊎ Contains zs x → (Contains zs x → list_any p zs ≡ true) → (p z || list_any p zs) ≡ true
    by (inl is) later = ap (λ b. b || list_any p zs) (ap p is ∙ passes)
    by (inr there) later = ap (λ b. p z || b) (later there) ∙ or-true (p z)

-- numbers among others
pub among-contains : (xs : List ℕ) (n : ℕ) → list_any (nat_eq n) xs ≡ true → Contains xs n
among-contains xs n h = let found = any-contains (nat_eq n) xs h in subst (Contains xs) (sym (eqb-true n found.0 found.2)) found.1

pub contains-among : (xs : List ℕ) (n : ℕ) → Contains xs n → list_any (nat_eq n) xs ≡ true
contains-among xs n c = contains-any (nat_eq n) xs n c (eq-eqb n n refl)

-- ---- rising lists with the same members are one

pub same-members : (xs ys : List ℕ) → IsStrictlySortedBy nat_cmp xs → IsStrictlySortedBy nat_cmp ys
    → ((n : ℕ) → Contains xs n → Contains ys n) → ((n : ℕ) → Contains ys n → Contains xs n) → xs ≡ ys
unfolding IsStrictlySortedBy
same-members [] [] h k to from = refl
same-members [] (y ∷ ys) h k to from = absurd (contains-none y (from y (contains-here y ys)))
same-members (x ∷ xs) [] h k to from = absurd (contains-none x (to x (contains-here x xs)))
same-members (x ∷ xs) (y ∷ ys) h k to from =
    ap (λ n. n ∷ xs) same ∙ ap (λ ns. y ∷ ns) (same-members xs ys h.1 k.1 (λ n c. rest-to n c (contains-cons y ys n (to n (contains-there x xs n c)))) (λ n c. rest-from n c (contains-cons x xs n (from n (contains-there y ys n c)))))
  where
    above-x : (n : ℕ) → Contains xs n → x < n
    above-x n c = less-below x n (each-contains (λ m. nat_cmp x m ≡ Less) xs n h.0 c)

    above-y : (n : ℕ) → Contains ys n → y < n
    above-y n c = less-below y n (each-contains (λ m. nat_cmp y m ≡ Less) ys n k.0 c)

    heads : (y ≡ x) ⊎ Contains ys x → (x ≡ y) ⊎ Contains xs y → x ≡ y
    heads (inl is) other = sym is
    heads (inr c) (inl is) = is
    heads (inr c) (inr d) = absurd (omega (arith, above-y x c, above-x y d))

    same : x ≡ y
    same = heads (contains-cons y ys x (to x (contains-here x xs))) (contains-cons x xs y (from y (contains-here y ys)))

    rest-to : (n : ℕ) → Contains xs n → (y ≡ n) ⊎ Contains ys n → Contains ys n
    rest-to n c (inl is) = absurd (omega (arith, above-x n c, same, is))
    rest-to n c (inr d) = d

    rest-from : (n : ℕ) → Contains ys n → (x ≡ n) ⊎ Contains xs n → Contains xs n
    rest-from n c (inl is) = absurd (omega (arith, above-y n c, same, is))
    rest-from n c (inr d) = d

-- ---- filters that grow

pub length-filter-le : {X : Type 0} (p : X → Bool) (xs : List X) → length (filter p xs) ≤ length xs
length-filter-le p [] = omega arith
length-filter-le {X} p (x ∷ xs) = by (p x) (length-filter-le p xs)
  where
    by : (b : Bool) → length (filter p xs) ≤ length xs → length (cond b (x ∷ filter p xs) (filter p xs)) ≤ length (x ∷ xs)
    by true h = omega arith
    by false h = omega arith

-- a test that passes all that another passes passes the same, or more
pub filter-grows : {X : Type 0} (p q : X → Bool) → ((x : X) → p x ≡ true → q x ≡ true) → (xs : List X)
    → (filter p xs ≡ filter q xs) ⊎ (length (filter p xs) < length (filter q xs))
filter-grows p q more [] = inl refl
filter-grows {X} p q more (x ∷ xs) = by (p x) (q x) refl refl (filter-grows p q more xs)
  where
    by : (b c : Bool) → p x ≡ b → q x ≡ c → (filter p xs ≡ filter q xs) ⊎ (length (filter p xs) < length (filter q xs))
        → (cond b (x ∷ filter p xs) (filter p xs) ≡ cond c (x ∷ filter q xs) (filter q xs))
        ⊎ (length (cond b (x ∷ filter p xs) (filter p xs)) < length (cond c (x ∷ filter q xs) (filter q xs)))
    by true true is at (inl same) = inl (ap (λ ys. x ∷ ys) same)
    by true true is at (inr less) = inr (omega arith)
    by true false is at rest = absurd (false≢true (sym at ∙ more x is))
    by false true is at (inl same) = let e : length (filter p xs) ≡ length (filter q xs) = ap length same in inr (omega arith)
    by false true is at (inr less) = inr (omega arith)
    by false false is at rest = rest

-- a filter that leaves a member out is shorter
pub filter-drops : {X : Type 0} (p : X → Bool) (xs : List X) (x : X) → Contains xs x → p x ≡ false → length (filter p xs) < length xs
filter-drops p [] x c fails = absurd (contains-none x c)
filter-drops {X} p (z ∷ zs) x c fails = by (p z) refl (contains-cons z zs x c) (λ d. filter-drops p zs x d fails)
  where
    by : (b : Bool) → p z ≡ b → (z ≡ x) ⊎ Contains zs x → (Contains zs x → length (filter p zs) < length zs)
        → length (cond b (z ∷ filter p zs) (filter p zs)) < length (z ∷ zs)
    by true is (inl same) later = absurd (false≢true (sym fails ∙ ap p (sym same) ∙ is))
    by true is (inr there) later = let less : length (filter p zs) < length zs = later there in omega arith
    by false is either later = let le : length (filter p zs) ≤ length zs = length-filter-le p zs in omega arith

-- ---- distinct numbers are no more than the list that has them

pub distinct-fit : (xs ys : List ℕ) → IsDistinct nat_eq xs → ((n : ℕ) → Contains xs n → Contains ys n) → length xs ≤ length ys
unfolding IsDistinct
distinct-fit [] ys h to = omega arith
distinct-fit (x ∷ xs) ys h to =
    let rest : length xs ≤ length (filter (λ n. not (nat_eq x n)) ys) = distinct-fit xs (filter (λ n. not (nat_eq x n)) ys) h.1 (λ n c. others n c) in
    let less : length (filter (λ n. not (nat_eq x n)) ys) < length ys = filter-drops (λ n. not (nat_eq x n)) ys x (to x (contains-here x xs)) (ap not (eq-eqb x x refl)) in
    omega arith
  where
    others : (n : ℕ) → Contains xs n → Contains (filter (λ m. not (nat_eq x m)) ys) n
    others n c =
        contains-filter (λ m. not (nat_eq x m)) ys n (to n (contains-there x xs n c)) (ap not (each-contains (λ m. nat_eq x m ≡ false) xs n h.0 c))
