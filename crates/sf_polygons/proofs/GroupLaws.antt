-- Sums over the groups of a cell, and what the counts of a group say where at most one of its members has the point.
use Rattle.std.proofs.Common.{◌≡◌, refl, ap, sym, ◌∙◌, subst, ℕ, zero, suc, ◌+◌, ◌<◌, ◌≤◌, ◌==◌, arith, Bool, true, false, cond, ◌&&◌, ◌||◌, not, List, [], ◌∷◌, map, length, nat_lt, slice_index}
use Rattle.std.specs.List.{AllByRecursion, count_by, list_any, sum_by, zip}
use Rattle.std.specs.Prelude.{sum}
use Rattle.std.proofs.lemmas.Bool.{both_ways, eqb-true}
use Rattle.std.proofs.lemmas.List.Sums.{sum_by-cons}
use Rattle.sf_grid.specs.EvenOdd.{is_odd}
use Rattle.sf_cells.specs.Groups.{numbers}
use Rattle.sf_slabs.proofs.CallerLemmas.{each-both, each-map}
use Rattle.sf_polygons.proofs.TestLaws.{any-none, count-cons, count-none, odd-none, odd_many, xor}

-- ---- sums over 0, 1 and so on
zero-more : (n : ℕ) → 0 + n ≡ n
zero-more n = omega arith

sum-same : {A : Type 0} (f g : A → ℕ) (xs : List A) → ((x : A) → f x ≡ g x) → sum_by f xs ≡ sum_by g xs
sum-same f g [] h = refl
sum-same f g (x ∷ xs) h = sum_by-cons f x xs ∙ ap (λ n. n + sum_by f xs) (h x) ∙ ap (λ n. g x + n) (sum-same f g xs h) ∙ sym (sum_by-cons g x xs)

sum-none : {A : Type 0} (xs : List A) → sum_by (λ x. 0) xs ≡ 0
sum-none [] = refl
sum-none (x ∷ xs) = sum_by-cons (λ y. 0) x xs ∙ zero-more (sum_by (λ y. 0) xs) ∙ sum-none xs

sum-both : {A : Type 0} (f g : A → ℕ) (xs : List A) → sum_by (λ x. f x + g x) xs ≡ sum_by f xs + sum_by g xs
sum-both f g [] = refl
sum-both f g (x ∷ xs) =
    sum_by-cons (λ y. f y + g y) x xs
    ∙ ap (λ n. f x + g x + n) (sum-both f g xs)
    ∙ moved (f x) (g x) (sum_by f xs) (sum_by g xs)
    ∙ ap (λ n. n + (g x + sum_by g xs)) (sym (sum_by-cons f x xs))
    ∙ ap (λ n. sum_by f (x ∷ xs) + n) (sym (sum_by-cons g x xs))
  where
    moved : (a b c d : ℕ) → a + b + (c + d) ≡ a + c + (b + d)
    moved a b c d = omega arith

-- the sum of what each place of a list has
sum-places : (k : ℕ) (ns : List ℕ) (f : ℕ → ℕ) → ((c : ℕ) → c < length ns → slice_index ns c ≡ f (k + c)) → sum ns ≡ sum_by f (numbers k (length ns))
sum-places k [] f h = refl
sum-places k (n ∷ ns) f h =
    sum_by-cons (λ m. m) n ns
    ∙ ap (λ m. m + sum ns) (h 0 (first (length ns)) ∙ ap f (none k))
    ∙ ap (λ m. f k + m) (sum-places (k + 1) ns f (λ c l. h (suc c) (next c (length ns) l) ∙ ap f (moved k c)))
    ∙ sym (sum_by-cons f k (numbers (k + 1) (length ns)))
  where
    first : (m : ℕ) → 0 < suc m
    first m = omega arith

    next : (c m : ℕ) → c < m → suc c < suc m
    next c m l = omega (arith, l)

    none : (m : ℕ) → m + 0 ≡ m
    none m = omega arith

    moved : (m c : ℕ) → m + suc c ≡ m + 1 + c
    moved m c = omega arith

-- how many places of two lists pass
count-places : (k : ℕ) (t : ℕ × ℕ → Bool) (ms ns : List ℕ) (f : ℕ → ℕ) → length ns ≡ length ms
    → ((c : ℕ) → c < length ms → cond (t (slice_index ms c, slice_index ns c)) 1 0 ≡ f (k + c)) → count_by t (zip ms ns) ≡ sum_by f (numbers k (length ms))
count-places k t [] ns f e h = refl
count-places k t (m ∷ ms) [] f e h = absurd (omega (arith, e))
count-places k t (m ∷ ms) (n ∷ ns) f e h =
    count-cons t (m, n) (zip ms ns)
    ∙ ap (λ l. l + count_by t (zip ms ns)) (h 0 (first (length ms)) ∙ ap f (none k))
    ∙ ap (λ l. f k + l) (count-places (k + 1) t ms ns f (less (length ns) (length ms) e) (λ c l. h (suc c) (next c (length ms) l) ∙ ap f (moved k c)))
    ∙ sym (sum_by-cons f k (numbers (k + 1) (length ms)))
  where
    first : (l : ℕ) → 0 < suc l
    first l = omega arith

    next : (c l : ℕ) → c < l → suc c < suc l
    next c l h = omega (arith, h)

    none : (l : ℕ) → l + 0 ≡ l
    none l = omega arith

    moved : (l c : ℕ) → l + suc c ≡ l + 1 + c
    moved l c = omega arith

    less : (l c : ℕ) → suc l ≡ suc c → l ≡ c
    less l c h = omega (arith, h)

-- ---- each member is in one group
is-equal : (m n : ℕ) → m ≡ n → (m == n) ≡ true
is-equal m n h = grind (arith, h)

not-equal : (m n : ℕ) → (m ≡ n → ⊥) → (m == n) ≡ false
not-equal m n h = grind (arith, h)

one-before : (g k n : ℕ) → g < k → sum_by (λ c. cond (g == c) 1 0) (numbers k n) ≡ 0
one-before g k zero h = refl
one-before g k (suc n) h =
    sum_by-cons (λ c. cond (g == c) 1 0) k (numbers (k + 1) n)
    ∙ ap (λ b. cond b 1 0 + sum_by (λ c. cond (g == c) 1 0) (numbers (k + 1) n)) (not-equal g k (apart g k h))
    ∙ zero-more (sum_by (λ c. cond (g == c) 1 0) (numbers (k + 1) n))
    ∙ one-before g (k + 1) n (later g k h)
  where
    apart : (m l : ℕ) → m < l → m ≡ l → ⊥
    apart m l a b = omega (arith, a, b)

    later : (m l : ℕ) → m < l → m < l + 1
    later m l a = omega (arith, a)

one-among : (g k n : ℕ) → k ≤ g → g < k + n → sum_by (λ c. cond (g == c) 1 0) (numbers k n) ≡ 1
one-among g k zero h l = absurd (omega (arith, h, l))
one-among g k (suc n) h l = by_test (g == k) refl (λ m. one-among g (k + 1) n m (end g k n l))
  where
    past : (m n : ℕ) → m ≡ n → m < n + 1
    past m n e = omega (arith, e)

    after : (m n : ℕ) → n ≤ m → (m == n) ≡ false → n + 1 ≤ m
    after m n a b = grind (arith, a, b)

    end : (m n l : ℕ) → m < n + suc l → m < n + 1 + l
    end m n l a = omega (arith, a)

    by_test : (b : Bool) → (g == k) ≡ b → (k + 1 ≤ g → sum_by (λ c. cond (g == c) 1 0) (numbers (k + 1) n) ≡ 1) → sum_by (λ c. cond (g == c) 1 0) (numbers k (suc n)) ≡ 1
    by_test true e rest =
        sum_by-cons (λ c. cond (g == c) 1 0) k (numbers (k + 1) n) ∙ ap (λ b. cond b 1 0 + sum_by (λ c. cond (g == c) 1 0) (numbers (k + 1) n)) e
        ∙ ap (λ m. 1 + m) (one-before g (k + 1) n (past g k (eqb-true g k e)))
    by_test false e rest =
        sum_by-cons (λ c. cond (g == c) 1 0) k (numbers (k + 1) n) ∙ ap (λ b. cond b 1 0 + sum_by (λ c. cond (g == c) 1 0) (numbers (k + 1) n)) e
        ∙ zero-more (sum_by (λ c. cond (g == c) 1 0) (numbers (k + 1) n))
        ∙ rest (after g k h e)

-- the members that pass, group by group; past the groups none does
abbrev pub passing : {X : Type 0} → (X → ℕ) → (X → Bool) → List X → ℕ → ℕ
passing group t xs c = count_by (λ x. (group x == c) && t x) xs

pub by-groups : {X : Type 0} (group : X → ℕ) (t : X → Bool) (n : ℕ) (xs : List X) → ((c : ℕ) → n ≤ c → passing group t xs c ≡ 0)
    → sum_by (passing group t xs) (numbers 0 n) ≡ count_by t xs
by-groups group t n [] h = sum-none (numbers 0 n)
by-groups group t n (x ∷ xs) h =
    sum-same (passing group t (x ∷ xs)) (λ c. cond ((group x == c) && t x) 1 0 + passing group t xs c) (numbers 0 n) (λ c. count-cons (λ y. (group y == c) && t y) x xs)
    ∙ sum-both (λ c. cond ((group x == c) && t x) 1 0) (passing group t xs) (numbers 0 n)
    ∙ ap (λ m. m + sum_by (passing group t xs) (numbers 0 n)) (own (t x) refl)
    ∙ ap (λ m. cond (t x) 1 0 + m) (by-groups group t n xs (λ c l. (parts (cond ((group x == c) && t x) 1 0) (passing group t xs c) (sym (count-cons (λ y. (group y == c) && t y) x xs) ∙ h c l)).1))
    ∙ sym (count-cons t x xs)
  where
    parts : (a b : ℕ) → a + b ≡ 0 → (a ≡ 0) × (b ≡ 0)
    parts a b e = (omega (arith, e), omega (arith, e))

    one : (m : ℕ) → m ≡ 1 → m ≡ 0 → ⊥
    one m a b = omega (arith, a, b)

    and-true : (b : Bool) → (b && true) ≡ b
    and-true true = refl
    and-true false = refl

    and-false : (b : Bool) → (b && false) ≡ false
    and-false true = refl
    and-false false = refl

    below : (m l : ℕ) → (l ≤ m → ⊥) → m < l
    below m l a = grind (arith, a)

    own : (b : Bool) → t x ≡ b → sum_by (λ c. cond ((group x == c) && t x) 1 0) (numbers 0 n) ≡ cond (t x) 1 0
    own true e =
        sum-same (λ c. cond ((group x == c) && t x) 1 0) (λ c. cond (group x == c) 1 0) (numbers 0 n) (λ c. ap (λ b. cond ((group x == c) && b) 1 0) e ∙ ap (λ b. cond b 1 0) (and-true (group x == c)))
        ∙ one-among (group x) 0 n (omega arith) (low (group x) n (below (group x) n
        (λ l. one (cond ((group x == group x) && t x) 1 0) (ap (λ b. cond (b && t x) 1 0) (is-equal (group x) (group x) refl) ∙ ap (λ b. cond b 1 0) e)
        ((parts (cond ((group x == group x) && t x) 1 0) (passing group t xs (group x)) (sym (count-cons (λ y. (group y == group x) && t y) x xs) ∙ h (group x) l)).0))))
        ∙ ap (λ b. cond b 1 0) (sym e)
      where
        low : (m l : ℕ) → m < l → m < 0 + l
        low m l a = omega (arith, a)
    own false e =
        sum-same (λ c. cond ((group x == c) && t x) 1 0) (λ c. 0) (numbers 0 n) (λ c. ap (λ b. cond ((group x == c) && b) 1 0) e ∙ ap (λ b. cond b 1 0) (and-false (group x == c)))
        ∙ sum-none (numbers 0 n)
        ∙ ap (λ b. cond b 1 0) (sym e)

slice-past : (ns : List ℕ) (c : ℕ) → length ns ≤ c → slice_index ns c ≡ 0
slice-past [] c h = refl
slice-past (n ∷ ns) zero h = absurd (omega (arith, h))
slice-past (n ∷ ns) (suc c) h = slice-past ns c (omega (arith, h))

-- the sum of the counts of groups is the count of all
pub sum-of-groups : {X : Type 0} (group : X → ℕ) (t : X → Bool) (xs : List X) (ns : List ℕ) → ((c : ℕ) → slice_index ns c ≡ passing group t xs c) → sum ns ≡ count_by t xs
sum-of-groups group t xs ns h =
    sum-places 0 ns (passing group t xs) (λ c l. h c ∙ ap (passing group t xs) (low c)) ∙ by-groups group t (length ns) xs (λ c l. sym (h c) ∙ slice-past ns c l)
  where
    low : (c : ℕ) → c ≡ 0 + c
    low c = omega arith

-- ---- members of which at most one in each group is near: what isn't near is not counted
-- no two members of one group are near
abbrev pub AreAlone : {X : Type 0} → (X → ℕ) → (X → Bool) → List X → Type 0
AreAlone group near [] = Unit {0}
AreAlone group near (x ∷ xs) = AllByRecursion (λ y. group x ≡ group y → near x ≡ true → near y ≡ false) xs × AreAlone group near xs

-- what is counted of a member that isn't near
pub record IsNear {X : Type 0} (near on odd : X → Bool) (x : X) : Type 0 where
  pub on_near : on x ≡ true → near x ≡ true
  pub odd_near : odd x ≡ true → near x ≡ true

off : (a b : Bool) → (a ≡ true → b ≡ true) → b ≡ false → a ≡ false
off true b h k = absurd (both_ways b k (h refl))
off false b h k = refl

others-off : {X : Type 0} (group : X → ℕ) (near t : X → Bool) (x : X) (xs : List X) (c : ℕ) → group x ≡ c → near x ≡ true
    → AllByRecursion (λ y. group x ≡ group y → near x ≡ true → near y ≡ false) xs → AllByRecursion (λ y. t y ≡ true → near y ≡ true) xs
    → AllByRecursion (λ y. ((group y == c) && t y) ≡ false) xs
others-off {X} group near t x xs c g n alone h =
    each-both (λ y. group x ≡ group y → near x ≡ true → near y ≡ false) (λ y. t y ≡ true → near y ≡ true) (λ y. ((group y == c) && t y) ≡ false) xs
    (λ y a k. by_test y (group y == c) refl a k) alone h
  where
    by_test : (y : X) (b : Bool) → (group y == c) ≡ b → (group x ≡ group y → near x ≡ true → near y ≡ false) → (t y ≡ true → near y ≡ true) → ((group y == c) && t y) ≡ false
    by_test y true e a k = ap (λ b. b && t y) e ∙ off (t y) (near y) k (a (g ∙ sym (eqb-true (group y) c e)) n)
    by_test y false e a k = ap (λ b. b && t y) e

abbrev both : {X : Type 0} → (Bool → Bool → Bool) → (X → Bool) → (X → Bool) → X → Bool
both join on odd x = join (on x) (odd x)

plus-none : (m n : ℕ) → n ≡ 0 → m ≡ m + n
plus-none m n h = omega (arith, h)

-- one member more, of another group; one that isn't near; the only one that counts
other-group : (join : Bool → Bool → Bool) (b on odd r s : Bool) (n : ℕ) → b ≡ false → cond (join r s) 1 0 ≡ n
    → cond (join ((b && on) || r) (xor (b && odd) s)) 1 0 ≡ cond (b && join on odd) 1 0 + n
other-group join true on odd r s n e rest = absurd (both_ways true e refl)
other-group join false on odd r s n e rest = rest ∙ sym (zero-more n)

uncounted : (join : Bool → Bool → Bool) (on odd r s : Bool) (n : ℕ) → join false false ≡ false → on ≡ false → odd ≡ false → cond (join r s) 1 0 ≡ n
    → cond (join (on || r) (xor odd s)) 1 0 ≡ cond (join on odd) 1 0 + n
uncounted join true odd r s n none e f rest = absurd (both_ways true e refl)
uncounted join false true r s n none e f rest = absurd (both_ways true f refl)
uncounted join false false r s n none e f rest = rest ∙ sym (ap (λ b. cond b 1 0 + n) none ∙ zero-more n)

only-counted : (join : Bool → Bool → Bool) (on odd r s : Bool) (n : ℕ) → r ≡ false → s ≡ false → n ≡ 0 → cond (join (on || r) (xor odd s)) 1 0 ≡ cond (join on odd) 1 0 + n
only-counted join true true r s n e f g = ap (λ v. cond (join true (not v)) 1 0) f ∙ plus-none (cond (join true true) 1 0) n g
only-counted join true false r s n e f g = ap (λ v. cond (join true v) 1 0) f ∙ plus-none (cond (join true false) 1 0) n g
only-counted join false true r s n e f g =
    ap (λ v. cond (join v (not s)) 1 0) e ∙ ap (λ v. cond (join false (not v)) 1 0) f ∙ plus-none (cond (join false true) 1 0) n g
only-counted join false false r s n e f g = ap (λ v. cond (join v s) 1 0) e ∙ ap (λ v. cond (join false v) 1 0) f ∙ plus-none (cond (join false false) 1 0) n g

neither : (join : Bool → Bool → Bool) (a b d : Bool) → join false false ≡ false → (a && b) ≡ false → (a && d) ≡ false → (a && join b d) ≡ false
neither join true true d none k l = absurd (both_ways true k refl)
neither join true false true none k l = absurd (both_ways true l refl)
neither join true false false none k l = none
neither join false b d none k l = refl

-- in one group: whether a point is on something and how many are above it is what the one near member has
one-group : {X : Type 0} (group : X → ℕ) (near on odd : X → Bool) (join : Bool → Bool → Bool) (c : ℕ) → join false false ≡ false → (xs : List X)
    → AreAlone group near xs → AllByRecursion (IsNear near on odd) xs
    → cond (join (list_any (λ x. (group x == c) && on x) xs) (odd_many (map (λ x. (group x == c) && odd x) xs))) 1 0 ≡ passing group (both join on odd) xs c
one-group group near on odd join c none [] alone h = ap (λ b. cond b 1 0) none
one-group {X} group near on odd join c none (x ∷ xs) alone h =
    by_group (list_any (λ y. (group y == c) && on y) xs) refl (odd_many (map (λ y. (group y == c) && odd y) xs)) refl (group x == c) refl (one-group group near on odd join c none xs alone.1 h.1)
    ∙ sym (count-cons (λ y. (group y == c) && join (on y) (odd y)) x xs)
  where
    by_near : (r : Bool) → list_any (λ y. (group y == c) && on y) xs ≡ r → (s : Bool) → odd_many (map (λ y. (group y == c) && odd y) xs) ≡ s → (b : Bool) → near x ≡ b → group x ≡ c
        → cond (join r s) 1 0 ≡ passing group (both join on odd) xs c
        → cond (join (on x || r) (xor (odd x) s)) 1 0 ≡ cond (join (on x) (odd x)) 1 0 + passing group (both join on odd) xs c
    by_near r re s se true n g rest =
        let on_off = others-off group near on x xs c g n alone.0 (each-map (IsNear near on odd) (λ y. on y ≡ true → near y ≡ true) xs (λ y k. k.on_near) h.1) in
        let odd_off = others-off group near odd x xs c g n alone.0 (each-map (IsNear near on odd) (λ y. odd y ≡ true → near y ≡ true) xs (λ y k. k.odd_near) h.1) in
        let both_off = each-both (λ y. ((group y == c) && on y) ≡ false) (λ y. ((group y == c) && odd y) ≡ false) (λ y. ((group y == c) && join (on y) (odd y)) ≡ false) xs
        (λ y k l. neither join (group y == c) (on y) (odd y) none k l) on_off odd_off in
        only-counted join (on x) (odd x) r s (passing group (both join on odd) xs c) (sym re ∙ any-none (λ y. (group y == c) && on y) xs on_off)
        (sym se ∙ odd-none (λ y. (group y == c) && odd y) xs odd_off) (count-none (λ y. (group y == c) && join (on y) (odd y)) xs both_off)
    by_near r re s se false n g rest =
        uncounted join (on x) (odd x) r s (passing group (both join on odd) xs c) none (off (on x) (near x) h.0.on_near n) (off (odd x) (near x) h.0.odd_near n) rest

    by_group : (r : Bool) → list_any (λ y. (group y == c) && on y) xs ≡ r → (s : Bool) → odd_many (map (λ y. (group y == c) && odd y) xs) ≡ s → (b : Bool) → (group x == c) ≡ b
        → cond (join (list_any (λ y. (group y == c) && on y) xs) (odd_many (map (λ y. (group y == c) && odd y) xs))) 1 0 ≡ passing group (both join on odd) xs c
        → cond (join (((group x == c) && on x) || r) (xor ((group x == c) && odd x) s)) 1 0 ≡ cond ((group x == c) && join (on x) (odd x)) 1 0 + passing group (both join on odd) xs c
    by_group r re s se true e rest =
        ap (λ b. cond (join ((b && on x) || r) (xor (b && odd x) s)) 1 0) e
        ∙ by_near r re s se (near x) refl (eqb-true (group x) c e) (ap (λ b. cond (join b s) 1 0) (sym re) ∙ ap (λ b. cond (join (list_any (λ y. (group y == c) && on y) xs) b) 1 0) (sym se) ∙ rest)
        ∙ ap (λ b. cond (b && join (on x) (odd x)) 1 0 + passing group (both join on odd) xs c) (sym e)
    by_group r re s se false e rest =
        other-group join (group x == c) (on x) (odd x) r s (passing group (both join on odd) xs c) e
        (ap (λ b. cond (join b s) 1 0) (sym re) ∙ ap (λ b. cond (join (list_any (λ y. (group y == c) && on y) xs) b) 1 0) (sym se) ∙ rest)

-- how many groups pass is how many members do
pub groups-pass : {X : Type 0} (group : X → ℕ) (near on odd : X → Bool) (join : Bool → Bool → Bool) → join false false ≡ false → (xs : List X)
    → AreAlone group near xs → AllByRecursion (IsNear near on odd) xs → (ms ns : List ℕ) → length ns ≡ length ms
    → ((c : ℕ) → nat_lt 0 (slice_index ms c) ≡ list_any (λ x. (group x == c) && on x) xs)
    → ((c : ℕ) → is_odd (slice_index ns c) ≡ odd_many (map (λ x. (group x == c) && odd x) xs))
    → count_by (λ (m : ℕ × ℕ). join (nat_lt 0 m.0) (is_odd m.1)) (zip ms ns) ≡ count_by (λ x. join (on x) (odd x)) xs
groups-pass group near on odd join none xs alone h ms ns e on_is odd_is =
    count-places 0 (λ (m : ℕ × ℕ). join (nat_lt 0 m.0) (is_odd m.1)) ms ns (passing group (both join on odd) xs) e (λ c l. told c ∙ ap (passing group (both join on odd) xs) (low c))
    ∙ by-groups group (both join on odd) (length ms) xs (λ c l. sym (told c) ∙ ap (λ m. cond (join (nat_lt 0 m) (is_odd (slice_index ns c))) 1 0) (slice-past ms c l)
    ∙ ap (λ m. cond (join false (is_odd m)) 1 0) (slice-past ns c (subst (λ m. m ≤ c) (sym e) l)) ∙ ap (λ b. cond b 1 0) none)
  where
    low : (c : ℕ) → c ≡ 0 + c
    low c = omega arith

    told : (c : ℕ) → cond (join (nat_lt 0 (slice_index ms c)) (is_odd (slice_index ns c))) 1 0 ≡ passing group (both join on odd) xs c
    told c =
        ap (λ b. cond (join b (is_odd (slice_index ns c))) 1 0) (on_is c)
        ∙ ap (λ b. cond (join (list_any (λ x. (group x == c) && on x) xs) b) 1 0) (odd_is c)
        ∙ one-group group near on odd join c none xs alone h
