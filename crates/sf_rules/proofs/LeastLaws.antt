-- The least of several breaks is the first of all of them in order.
use Rattle.std.proofs.Common.{◌≡◌, ◌∙◌, ◌⊎◌, inl, inr, Bool, true, false, List, [], ◌∷◌, ◌++◌, Option, None, Some, refl, ap, sym, subst, arith}
use Rattle.std.specs.List.{AllByRecursion, Contains}
use Rattle.std.proofs.lemmas.Bool.Decides.{nat_tests}
use Rattle.std.proofs.lemmas.List.Elements.{All-contains, All-from_recursion}
use Rattle.std.specs.Prelude.{if◌then◌else◌}
use Rattle.sf_rules.specs.declared.breaks.Break.{Break}
use Rattle.sf_rules.specs.declared.breaks.Break.TheVariants.{Pair, Alone}
use Rattle.sf_rules.specs.Breaks.{is_before, lesser, least_from}
use Rattle.sf_rules.specs.Rules.{first_of}
use Rattle.sf_joins.proofs.PairLaws.{contains-cons, contains-here, contains-there}

-- ---- the order

pub before-trans : (x y z : Break) → is_before x y ≡ true → is_before y z ≡ true → is_before x z ≡ true
before-trans (Pair a b) (Pair c d) (Pair e f) h k = grind (arith, nat_tests)
before-trans (Pair a b) (Pair c d) (Alone e) h k = refl
before-trans (Pair a b) (Alone c) (Pair e f) h k = cc
before-trans (Pair a b) (Alone c) (Alone e) h k = refl
before-trans (Alone a) (Pair c d) (Pair e f) h k = cc
before-trans (Alone a) (Pair c d) (Alone e) h k = cc
before-trans (Alone a) (Alone c) (Pair e f) h k = cc
before-trans (Alone a) (Alone c) (Alone e) h k = grind (arith, nat_tests)

-- what is not before the one, and the one not before the other
before-not : (x y z : Break) → is_before x y ≡ false → is_before y z ≡ false → is_before x z ≡ false
before-not (Pair a b) (Pair c d) (Pair e f) h k = grind (arith, nat_tests)
before-not (Pair a b) (Pair c d) (Alone e) h k = cc
before-not (Pair a b) (Alone c) (Pair e f) h k = cc
before-not (Pair a b) (Alone c) (Alone e) h k = cc
before-not (Alone a) (Pair c d) (Pair e f) h k = refl
before-not (Alone a) (Pair c d) (Alone e) h k = cc
before-not (Alone a) (Alone c) (Pair e f) h k = refl
before-not (Alone a) (Alone c) (Alone e) h k = grind (arith, nat_tests)

pub before-itself : (x : Break) → is_before x x ≡ false
before-itself (Pair a b) = grind (arith, nat_tests)
before-itself (Alone a) = grind (arith, nat_tests)

-- ---- the least of several

-- it is one of them, and none comes before it
record IsLeast (least : Option Break) (found : List Break) (r : Break) : Type 0 where
  here : (least ≡ Some r) ⊎ Contains found r
  before : (b : Break) → least ≡ Some b → is_before b r ≡ false
  low : (x : Break) → Contains found x → is_before x r ≡ false

some-is : (a b : Break) → Some a ≡ Some b → a ≡ b
some-is a b h = cc

none-in : (y : Break) → Contains [] y → ⊥
none-in y c = absurd (omega (arith, c.1))

-- with one more in front, which is the least so far
taken-on : (least : Option Break) (x : Break) (xs : List Break) (r : Break) → ((b : Break) → least ≡ Some b → is_before x b ≡ true) → IsLeast (Some x) xs r → IsLeast least (x ∷ xs) r
taken-on least x xs r sooner is = record {
  here = here is.here;
  before = λ b at. by b at (is_before b r) refl;
  low = λ y c. low y (contains-cons x xs y c);
}
  where
    here : (Some x ≡ Some r) ⊎ Contains xs r → (least ≡ Some r) ⊎ Contains (x ∷ xs) r
    here (inl same) = inr (subst (Contains (x ∷ xs)) (some-is x r same) (contains-here x xs))
    here (inr there) = inr (contains-there x xs r there)

    by : (b : Break) → least ≡ Some b → (t : Bool) → is_before b r ≡ t → is_before b r ≡ false
    by b at false fails = fails
    by b at true passes = let wrong : true ≡ false = sym (before-trans x b r (sooner b at) passes) ∙ is.before x refl in cc

    low : (y : Break) → (x ≡ y) ⊎ Contains xs y → is_before y r ≡ false
    low y (inl same) = is.before y (ap (λ z. Some z) same)
    low y (inr there) = is.low y there

-- with one more in front, which comes no sooner
passed-on : (b x : Break) (xs : List Break) (r : Break) → is_before x b ≡ false → IsLeast (Some b) xs r → IsLeast (Some b) (x ∷ xs) r
passed-on b x xs r later is = record {
  here = here is.here;
  before = is.before;
  low = λ y c. low y (contains-cons x xs y c);
}
  where
    here : (Some b ≡ Some r) ⊎ Contains xs r → (Some b ≡ Some r) ⊎ Contains (x ∷ xs) r
    here (inl same) = inl same
    here (inr there) = inr (contains-there x xs r there)

    low : (y : Break) → (x ≡ y) ⊎ Contains xs y → is_before y r ≡ false
    low y (inl same) = subst (λ z. is_before z r ≡ false) same (before-not x b r later (is.before b refl))
    low y (inr there) = is.low y there

least-is : (least : Option Break) (xs : List Break) (r : Break) → least_from least xs ≡ Some r → IsLeast least xs r
least-is least [] r h = record {
  here = inl h;
  before = λ b at. subst (λ z. is_before z r ≡ false) (sym (some-is b r (sym at ∙ h))) (before-itself r);
  low = λ x c. absurd (none-in x c);
}
least-is None (x ∷ xs) r h = taken-on None x xs r (λ b at. cc) (least-is (Some x) xs r h)
least-is (Some b) (x ∷ xs) r h = by (is_before x b) refl h (λ least. least-is least xs r)
  where
    by : (t : Bool) → is_before x b ≡ t → least_from (if t then Some x else Some b) xs ≡ Some r → ((least : Option Break) → least_from least xs ≡ Some r → IsLeast least xs r) → IsLeast (Some b) (x ∷ xs) r
    by true is g later = taken-on (Some b) x xs r (λ c at. subst (λ z. is_before x z ≡ true) (some-is b c at) is) (later (Some x) g)
    by false is g later = passed-on b x xs r is (later (Some b) g)

least-some : (b : Break) (xs : List Break) → least_from (Some b) xs ≡ None → ⊥
least-some b [] h = cc
least-some b (x ∷ xs) h = by (is_before x b) h (λ c. least-some c xs)
  where
    by : (t : Bool) → least_from (if t then Some x else Some b) xs ≡ None → ((c : Break) → least_from (Some c) xs ≡ None → ⊥) → ⊥
    by true g later = later x g
    by false g later = later b g

least-none : (xs : List Break) → least_from None xs ≡ None → xs ≡ []
least-none [] h = refl
least-none (x ∷ xs) h = absurd (least-some x xs h)

-- several one after another
pub least-append : (least : Option Break) (xs ys : List Break) → least_from least (xs ++ ys) ≡ least_from (least_from least xs) ys
least-append least [] ys = refl
least-append least (x ∷ xs) ys = least-append (lesser x least) xs ys

-- ---- the first in order

-- the first comes before all others
abbrev pub BeginsWithLeast : List Break → Type 0
BeginsWithLeast [] = Unit {0}
BeginsWithLeast (x ∷ xs) = AllByRecursion (λ y. is_before x y ≡ true) xs

each-in : (P : Break → Type 0) (xs : List Break) (y : Break) → AllByRecursion P xs → Contains xs y → P y
each-in P xs y all c = All-contains P xs y (All-from_recursion P xs all) c

-- the least of breaks is the first of a list in order that has them all, where it is one of them
pub least-begins : (found ordered : List Break) → BeginsWithLeast ordered → ((x : Break) → Contains found x → Contains ordered x) → ((x : Break) → first_of ordered ≡ Some x → Contains found x)
    → least_from None found ≡ first_of ordered
least-begins found [] begins to from = by (least_from None found) refl
  where
    by : (r : Option Break) → least_from None found ≡ r → r ≡ None
    by None is = refl
    by (Some r) is = at (least-is None found r is).here
      where
        at : (None ≡ Some r) ⊎ Contains found r → Some r ≡ None
        at (inl wrong) = cc
        at (inr there) = absurd (none-in r (to r there))
least-begins found (x ∷ xs) begins to from = by (least_from None found) refl
  where
    there : Contains found x
    there = from x refl

    by : (r : Option Break) → least_from None found ≡ r → r ≡ Some x
    by None is = absurd (none-in x (subst (λ ys. Contains ys x) (least-none found is) there))
    by (Some r) is = at (least-is None found r is)
      where
        same : (x ≡ r) ⊎ Contains xs r → is_before x r ≡ false → Some r ≡ Some x
        same (inl is) low = ap (λ z. Some z) (sym is)
        same (inr later) low = let wrong : true ≡ false = sym (each-in (λ y. is_before x y ≡ true) xs r begins later) ∙ low in cc

        at : IsLeast None found r → Some r ≡ Some x
        at least = inside least.here
          where
            inside : (None ≡ Some r) ⊎ Contains found r → Some r ≡ Some x
            inside (inl wrong) = cc
            inside (inr found_there) = same (contains-cons x xs r (to r found_there)) (least.low x there)

-- and that of a list that has just these
pub least-first : (found ordered : List Break) → BeginsWithLeast ordered → ((x : Break) → Contains found x → Contains ordered x) → ((x : Break) → Contains ordered x → Contains found x)
    → least_from None found ≡ first_of ordered
least-first found ordered begins to from = least-begins found ordered begins to (λ x is. from x (first-there ordered x is))
  where
    first-there : (xs : List Break) (x : Break) → first_of xs ≡ Some x → Contains xs x
    first-there [] x is = cc
    first-there (y ∷ ys) x is = subst (Contains (y ∷ ys)) (some-is y x is) (contains-here y ys)
