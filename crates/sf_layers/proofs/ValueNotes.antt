-- What the indexes by value have of features, as pairs are added and indexes are made and lost.
use Rattle.std.specs.Prelude.{◌≡◌, ℕ, ◌<◌, ◌+◌, length, take, get_or, Bool, true, false, cond, List, [], ◌∷◌, ◌++◌, Option, None, Some, IfSome, IsSomeAnd, nat_eq}
use Rattle.std.specs.BTreeMap.{is_at}
use Rattle.std.specs.List.{AllByRecursion}
use Rattle.std.specs.List.Sorted.{IsStrictlySortedBy}
use Rattle.std.specs.Map.{keys_of, lookup}
use Rattle.std.specs.Ordering.{nat_cmp}
use Rattle.std.specs.declared.cmp.Ordering.TheVariants.{Less}
use Rattle.std.proofs.Common.{refl, ap, sym, subst, ◌∙◌, arith}
use Rattle.std.proofs.lemmas.Bool.Decides.{nat_tests}
use Rattle.std.proofs.lemmas.List.Elements.{All-from_recursion, All-more, recursion_from_All}
use Rattle.sf_features.specs.declared.attr_value.AttrValue.{AttrValue}
use Rattle.sf_features.specs.Features.{FeatureContent}
use Rattle.sf_layers.specs.Moves.{Features}
use Rattle.sf_layers.specs.ValueIndexes.{AreKept, AreNoted, Grows, HasAll, HasPair, HasThose, Indexes, IsKnown, IsNoted, Pairs}

-- ---- what holds of each of a list

pub all_both : {X : Type 0} (P Q R : X → Type 0) → ((x : X) → P x → Q x → R x) → (xs : List X) → AllByRecursion P xs → AllByRecursion Q xs → AllByRecursion R xs
all_both P Q R both [] p q = tt
all_both P Q R both (x ∷ xs) p q = (both x p.0 q.0, all_both P Q R both xs p.1 q.1)

pub all_weaker : {X : Type 0} (P Q : X → Type 0) → ((x : X) → P x → Q x) → (xs : List X) → AllByRecursion P xs → AllByRecursion Q xs
all_weaker P Q weaker [] p = tt
all_weaker P Q weaker (x ∷ xs) p = (weaker x p.0, all_weaker P Q weaker xs p.1)

pub all_push : {X : Type 0} (P : X → Type 0) (xs : List X) (x : X) → AllByRecursion P xs → P x → AllByRecursion P (xs ++ x ∷ [])
all_push P [] x p new = (new, tt)
all_push P (y ∷ ys) x p new = (p.0, all_push P ys x p.1 new)

-- ---- one index

pub has_those-grown : (number : ℕ) (old new : Pairs) (id : ℕ) (feature : FeatureContent) → Grows old new → HasThose number old id feature → HasThose number new id feature
has_those-grown number old new id feature grows =
    all_weaker (λ e. number ≡ e.0 → HasPair old e.1 id) (λ e. number ≡ e.0 → HasPair new e.1 id) (λ e has is. grows e.1 id (has is)) feature.values

pub has_all-more : (number : ℕ) (old new : Pairs) (features : Features) (entry : ℕ × FeatureContent) → Grows old new → HasAll number old features → HasThose number new entry.0 entry.1
    → HasAll number new (features ++ entry ∷ [])
has_all-more number old new features entry grows all those =
    all_push (λ e. HasThose number new e.0 e.1) features entry
    (all_weaker (λ e. HasThose number old e.0 e.1) (λ e. HasThose number new e.0 e.1) (λ e. has_those-grown number old new e.0 e.1 grows) features all) those

-- numbers above one are not that one
none_above : (number : ℕ) (pairs : Pairs) (id : ℕ) (es : List (ℕ × AttrValue)) → AllByRecursion (λ n. nat_cmp number n ≡ Less) (keys_of es) → AllByRecursion (λ e. number ≡ e.0 → HasPair pairs e.1 id) es
none_above number pairs id [] above = tt
none_above number pairs id (e ∷ es) above =
    (λ is. let less : nat_cmp e.0 e.0 ≡ Less = subst (λ n. nat_cmp n e.0 ≡ Less) is above.0 in absurd (irreflexive e.0 less), none_above number pairs id es above.1)
  where
    irreflexive : (n : ℕ) → nat_cmp n n ≡ Less → ⊥
    irreflexive n h = grind (arith, nat_tests)

-- where numbers rise, the value that a number finds is the only one under it
pub has_those-found : (number : ℕ) (pairs : Pairs) (id : ℕ) (es : List (ℕ × AttrValue)) → IsStrictlySortedBy nat_cmp (keys_of es) → IfSome (lookup (nat_eq number) es) (λ value. HasPair pairs value id)
    → AllByRecursion (λ e. number ≡ e.0 → HasPair pairs e.1 id) es
unfolding IsStrictlySortedBy
has_those-found number pairs id [] rising found = tt
has_those-found number pairs id (e ∷ es) rising found = by (has_those-found number pairs id es rising.1) (nat_eq number e.0) refl found
  where
    by : (IfSome (lookup (nat_eq number) es) (λ value. HasPair pairs value id) → AllByRecursion (λ d. number ≡ d.0 → HasPair pairs d.1 id) es) → (b : Bool) → nat_eq number e.0 ≡ b
        → IfSome (cond b (Some e.1) (lookup (nat_eq number) es)) (λ value. HasPair pairs value id)
        → (number ≡ e.0 → HasPair pairs e.1 id) × AllByRecursion (λ d. number ≡ d.0 → HasPair pairs d.1 id) es
    by later true is h =
        let same : number ≡ e.0 = grind (arith, nat_tests, is) in
        (λ _. h, none_above number pairs id es (subst (λ m. AllByRecursion (λ n. nat_cmp m n ≡ Less) (keys_of es)) (sym same) rising.0))
    by later false is h = (λ same. absurd (apart number e.0 same is), later h)
      where
        apart : (m n : ℕ) → m ≡ n → nat_eq m n ≡ false → ⊥
        apart m n same differ = grind (arith, nat_tests)

-- ---- indexes by column number

-- what is known of one number
abbrev Kept : Option Pairs → Option Pairs → Type 0
Kept old new = IfSome new (λ after. IsSomeAnd old (λ before. Grows before after))

kept-same : (o : Option Pairs) → Kept o o
kept-same None = tt
kept-same (Some pairs) = λ value id has. has

pub kept-itself : (indexes : Indexes) → AreKept indexes indexes
kept-itself indexes number = kept-same (lookup (nat_eq number) indexes)

kept-then-one : (a b c : Option Pairs) → Kept a b → Kept b c → Kept a c
kept-then-one a b None h k = tt
kept-then-one a None (Some z) h k = absurd k
kept-then-one None (Some y) (Some z) h k = absurd h
kept-then-one (Some x) (Some y) (Some z) h k = λ value id has. k value id (h value id has)

pub kept-then : (a b c : Indexes) → AreKept a b → AreKept b c → AreKept a c
kept-then a b c h k number = kept-then-one (lookup (nat_eq number) a) (lookup (nat_eq number) b) (lookup (nat_eq number) c) (h number) (k number)

known-kept-one : (old new : Option Pairs) (value : AttrValue) (id : ℕ) → Kept old new → IfSome old (λ pairs. HasPair pairs value id) → IfSome new (λ pairs. HasPair pairs value id)
known-kept-one old None value id kept known = tt
known-kept-one None (Some after) value id kept known = absurd kept
known-kept-one (Some before) (Some after) value id kept known = kept value id known

pub known-kept : (old new : Indexes) (id number : ℕ) (value : AttrValue) → AreKept old new → IsKnown old id number value → IsKnown new id number value
known-kept old new id number value kept = known-kept-one (lookup (nat_eq number) old) (lookup (nat_eq number) new) value id (kept number)

pub all-known-kept : (old new : Indexes) (id : ℕ) (values : List (ℕ × AttrValue)) → AreKept old new → AllByRecursion (λ e. IsKnown old id e.0 e.1) values → AllByRecursion (λ e. IsKnown new id e.0 e.1) values
all-known-kept old new id values kept = all_weaker (λ e. IsKnown old id e.0 e.1) (λ e. IsKnown new id e.0 e.1) (λ e. known-kept old new id e.0 e.1 kept) values

pub noted-kept : (old new : Indexes) (features : Features) → AreKept old new → AreNoted old features → AreNoted new features
noted-kept old new features kept = all_weaker (λ e. IsNoted old e.0 e.1) (λ e. IsNoted new e.0 e.1) (λ e. all-known-kept old new e.0 e.1.values kept) features

-- ---- a map of indexes that is written

same_test : (number q : ℕ) → is_at (nat_cmp number) q ≡ nat_eq number q
same_test number q = grind (arith, nat_tests)

pub same_lookup : {X : Type 0} (q : ℕ) (es : List (ℕ × X)) → lookup (is_at (nat_cmp q)) es ≡ lookup (nat_eq q) es
same_lookup q [] = refl
same_lookup q (e ∷ es) = ap (λ b. cond b (Some e.1) (lookup (is_at (nat_cmp q)) es)) (same_test q e.0) ∙ ap (cond (nat_eq q e.0) (Some e.1)) (same_lookup q es)

-- the look-ups of a map that was written at a number
pub written : {X : Type 0} (number : ℕ) (w : Option X) (old new : List (ℕ × X)) → ((q : ℕ) → lookup (is_at (nat_cmp q)) new ≡ cond (is_at (nat_cmp number) q) w (lookup (is_at (nat_cmp q)) old))
    → (q : ℕ) → lookup (nat_eq q) new ≡ cond (nat_eq number q) w (lookup (nat_eq q) old)
written number w old new updates q =
    sym (same_lookup q new) ∙ updates q ∙ ap (λ b. cond b w (lookup (is_at (nat_cmp q)) old)) (same_test number q) ∙ ap (cond (nat_eq number q) w) (same_lookup q old)

kept-removed-one : (b : Bool) (o n : Option Pairs) → n ≡ cond b None o → Kept o n
kept-removed-one true o n is = subst (Kept o) (sym is) tt
kept-removed-one false o n is = subst (Kept o) (sym is) (kept-same o)

pub kept-removed : (number : ℕ) (old new : Indexes) → ((q : ℕ) → lookup (is_at (nat_cmp q)) new ≡ cond (is_at (nat_cmp number) q) None (lookup (is_at (nat_cmp q)) old)) → AreKept old new
kept-removed number old new updates q = kept-removed-one (nat_eq number q) (lookup (nat_eq q) old) (lookup (nat_eq q) new) (written number None old new updates q)

pub kept-grown : (number : ℕ) (before after : Pairs) (old new : Indexes) → Some before ≡ lookup (is_at (nat_cmp number)) old → Grows before after
    → ((q : ℕ) → lookup (is_at (nat_cmp q)) new ≡ cond (is_at (nat_cmp number) q) (Some after) (lookup (is_at (nat_cmp q)) old)) → AreKept old new
kept-grown number before after old new found grows updates q = by (nat_eq number q) refl (written number (Some after) old new updates q)
  where
    by : (b : Bool) → nat_eq number q ≡ b → lookup (nat_eq q) new ≡ cond b (Some after) (lookup (nat_eq q) old) → Kept (lookup (nat_eq q) old) (lookup (nat_eq q) new)
    by true is h =
        let same : number ≡ q = grind (arith, nat_tests, is) in
        let there : lookup (nat_eq q) old ≡ Some before = sym (same_lookup q old) ∙ ap (λ n. lookup (is_at (nat_cmp n)) old) (sym same) ∙ sym found in
        subst (λ o. Kept o (lookup (nat_eq q) new)) (sym there) (subst (Kept (Some before)) (sym h) grows)
    by false is h = subst (Kept (lookup (nat_eq q) old)) (sym h) (kept-same (lookup (nat_eq q) old))

pub noted-made : (number : ℕ) (index : Pairs) (old new : Indexes) (features : Features) → HasAll number index features → AreNoted old features
    → ((q : ℕ) → lookup (is_at (nat_cmp q)) new ≡ cond (is_at (nat_cmp number) q) (Some index) (lookup (is_at (nat_cmp q)) old)) → AreNoted new features
noted-made number index old new features all noted updates =
    all_both (λ e. HasThose number index e.0 e.1) (λ e. IsNoted old e.0 e.1) (λ e. IsNoted new e.0 e.1)
    (λ e. all_both (λ v. number ≡ v.0 → HasPair index v.1 e.0) (λ v. IsKnown old e.0 v.0 v.1) (λ v. IsKnown new e.0 v.0 v.1)
    (λ v has known. by e.0 v.0 v.1 has known (nat_eq number v.0) refl (written number (Some index) old new updates v.0)) e.1.values) features all noted
  where
    by : (id q : ℕ) (value : AttrValue) → (number ≡ q → HasPair index value id) → IsKnown old id q value → (b : Bool) → nat_eq number q ≡ b
        → lookup (nat_eq q) new ≡ cond b (Some index) (lookup (nat_eq q) old) → IsKnown new id q value
    by id q value has known true is h =
        let same : number ≡ q = grind (arith, nat_tests, is) in
        subst (λ o. IfSome o (λ pairs. HasPair pairs value id)) (sym h) (has same)
    by id q value has known false is h = subst (λ o. IfSome o (λ pairs. HasPair pairs value id)) (sym h) known

-- ---- the values of a feature one after the other

pub all_taken : {X : Type 0} (P : X → Type 0) (xs : List X) (i : ℕ) (x : X) → i < length xs → x ≡ get_or xs i x → AllByRecursion P (take i xs) → P x → AllByRecursion P (take (i + 1) xs)
all_taken P xs i x below is all new =
    recursion_from_All P (take (i + 1) xs) (All-more P xs i x below (All-from_recursion P (take i xs) all) (subst P is new))

-- where there is no index, each value is known
all-known-none : (id : ℕ) (values : List (ℕ × AttrValue)) → AllByRecursion (λ e. IsKnown [] id e.0 e.1) values
all-known-none id [] = tt
all-known-none id (v ∷ vs) = (tt, all-known-none id vs)

pub all-known-empty : (indexes : Indexes) (id : ℕ) (values : List (ℕ × AttrValue)) → length indexes ≡ 0 → AllByRecursion (λ e. IsKnown indexes id e.0 e.1) values
all-known-empty [] id values none = all-known-none id values
all-known-empty (i ∷ indexes) id values none = absurd (omega (arith, none))
