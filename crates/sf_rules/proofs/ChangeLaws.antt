-- Of what held, the least break after a change is among what was changed, and what was beside it.
use Rattle.std.proofs.Common.{◌≡◌, ◌∙◌, ℕ, Bool, true, false, not, ◌||◌, List, [], ◌∷◌, map, filter, Option, None, Some, nat_eq, refl, ap, sym, subst, arith}
use Rattle.std.specs.List.{AllByRecursion, Contains, list_any}
use Rattle.std.specs.List.Sorted.{IsStrictlySortedBy}
use Rattle.std.specs.Map.{keys_of, lookup}
use Rattle.std.specs.Ordering.{nat_cmp, ordering_then}
use Rattle.std.specs.declared.cmp.Ordering.{Ordering}
use Rattle.std.specs.declared.cmp.Ordering.TheVariants.{Less, Equal, Greater}
use Rattle.std.proofs.lemmas.Bool.Decides.{nat_tests}
use Rattle.sf_rules.specs.declared.breaks.Break.{Break}
use Rattle.sf_rules.specs.declared.breaks.Break.TheVariants.{Pair, Alone}
use Rattle.sf_rules.specs.Breaks.{is_before, least_from}
use Rattle.sf_rules.specs.Rules.{alone_break, first_of, pair_break}
use Rattle.sf_joins.proofs.Passed.{rising-filter}
use Rattle.sf_joins.proofs.PairLaws.{map-contains, flat-rises, row-begins, row-rises}
use Rattle.sf_rules.proofs.LeastLaws.{BeginsWithLeast, least-first}
use Rattle.sf_rules.proofs.EntryLaws.{ArePair, pairs_of, pair-found, pair-of, alone_of, alone-found, lacks, any-found, any-of, none-passes}

-- ---- breaks in order

abbrev pair_cmp : ℕ × ℕ → ℕ × ℕ → Ordering
pair_cmp p q = ordering_then (nat_cmp p.0 q.0) (nat_cmp p.1 q.1)

before-pair : (p q : ℕ × ℕ) → pair_cmp p q ≡ Less → is_before (pair_break p) (pair_break q) ≡ true
before-pair p q h = by (nat_cmp p.0 q.0) refl h
  where
    by : (o : Ordering) → nat_cmp p.0 q.0 ≡ o → ordering_then o (nat_cmp p.1 q.1) ≡ Less → is_before (pair_break p) (pair_break q) ≡ true
    by Less is g = grind (arith, nat_tests)
    by Equal is g = grind (arith, nat_tests)
    by Greater is g = cc

before-alone : (i j : ℕ) → nat_cmp i j ≡ Less → is_before (Alone i) (Alone j) ≡ true
before-alone i j h = grind (arith, nat_tests)

pub pairs-begin : (ps : List (ℕ × ℕ)) → IsStrictlySortedBy pair_cmp ps → BeginsWithLeast (map pair_break ps)
unfolding IsStrictlySortedBy
pairs-begin [] h = tt
pairs-begin (p ∷ ps) h = all ps h.0
  where
    all : (qs : List (ℕ × ℕ)) → AllByRecursion (λ q. pair_cmp p q ≡ Less) qs → AllByRecursion (λ y. is_before (pair_break p) y ≡ true) (map pair_break qs)
    all [] k = tt
    all (q ∷ qs) k = (before-pair p q k.0, all qs k.1)

pub alone-begin : (ids : List ℕ) → IsStrictlySortedBy nat_cmp ids → BeginsWithLeast (map alone_break ids)
unfolding IsStrictlySortedBy
alone-begin [] h = tt
alone-begin (i ∷ is) h = all is h.0
  where
    all : (js : List ℕ) → AllByRecursion (λ j. nat_cmp i j ≡ Less) js → AllByRecursion (λ y. is_before (Alone i) y ≡ true) (map alone_break js)
    all [] k = tt
    all (j ∷ js) k = (before-alone i j k.0, all js k.1)

-- ---- changes of entries

-- outside of what is changed, two lists have the same under each number
abbrev pub KeepsOthers : {X : Type 0} → List (ℕ × X) → List (ℕ × X) → (ℕ → Bool) → Type 0
KeepsOthers {X} old new changed = (k : ℕ) → changed k ≡ false → ◌≡◌ {A = Option X} (lookup (nat_eq k) new) (lookup (nat_eq k) old)

module _ {X : Type 0} (pair : ℕ × X → ℕ × X → Bool) where
  -- no two entries are a pair
  pub none-pair : (es fs : List (ℕ × X)) → pairs_of pair es fs ≡ [] → (i j : ℕ) → ArePair pair es fs i j → ⊥
  none-pair es fs none i j p = none-in (subst (λ xs. Contains {X = ℕ × ℕ} xs (i, j)) none (pair-of pair es fs i j p))
    where
      none-in : Contains {X = ℕ × ℕ} [] (i, j) → ⊥
      none-in c = absurd (omega (arith, c.1))

  -- where no two were a pair, the first pair is the least of those that were looked at: each of these is a pair, and each pair of which one
  -- is changed is among them
  pub first-pair : (old olds new news : List (ℕ × X)) (of_first of_second : ℕ → Bool) (found : List Break) → IsStrictlySortedBy nat_cmp (keys_of new) → IsStrictlySortedBy nat_cmp (keys_of news)
      → KeepsOthers old new of_first → KeepsOthers olds news of_second → pairs_of pair old olds ≡ []
      → ((x : Break) → Contains found x → Contains (map pair_break (pairs_of pair new news)) x)
      → ((i j : ℕ) → ArePair pair new news i j → of_first i || of_second j ≡ true → Contains found (Pair i j))
      → least_from None found ≡ first_of (map pair_break (pairs_of pair new news))
  first-pair old olds new news of_first of_second found rising others keeps keeps' none sound complete =
      least-first found (map pair_break (pairs_of pair new news)) (pairs-begin (pairs_of pair new news) sorted) sound from
    where
      sorted : IsStrictlySortedBy pair_cmp (pairs_of pair new news)
      sorted = flat-rises (λ (a : ℕ × X). map (λ (b : ℕ × X). (a.0, b.0)) (filter (pair a) news)) (λ a. row-begins a.0 (filter (pair a) news))
          (λ a. row-rises a.0 (filter (pair a) news) (rising-filter (pair a) news others)) new rising

      by : (i j : ℕ) → ArePair pair new news i j → (c d : Bool) → of_first i ≡ c → of_second j ≡ d → Contains found (Pair i j)
      by i j p true d c_is d_is = complete i j p (ap (λ b. b || of_second j) c_is)
      by i j p false true c_is d_is = complete i j p (ap (λ b. b || of_second j) c_is ∙ d_is)
      by i j p false false c_is d_is =
          absurd (none-pair old olds none i j
          (record { a = p.a; b = p.b; first = sym (keeps i c_is) ∙ p.first; second = sym (keeps' j d_is) ∙ p.second; is = p.is }))

      from : (x : Break) → Contains (map pair_break (pairs_of pair new news)) x → Contains found x
      from x c =
          let p = map-contains pair_break (pairs_of pair new news) x c in
          subst (Contains found) p.2 (by p.0.0 p.0.1 (pair-found pair new news p.0.0 p.0.1 rising others p.1) (of_first p.0.0) (of_second p.0.1) refl refl)

  -- where each had a partner, the first without one is the least of those that were looked at: each of these has none, and each is among
  -- them that is changed itself, or had a partner that is
  pub first-alone : (old olds new news : List (ℕ × X)) (of_first of_second : ℕ → Bool) (found : List Break) → IsStrictlySortedBy nat_cmp (keys_of new) → IsStrictlySortedBy nat_cmp (keys_of olds)
      → KeepsOthers old new of_first → KeepsOthers olds news of_second → alone_of pair old olds ≡ []
      → ((x : Break) → Contains found x → Contains (map alone_break (alone_of pair new news)) x)
      → ((i : ℕ) (a : X) → lookup (nat_eq i) new ≡ Some a → lacks pair news (i, a) ≡ true → of_first i ≡ true → Contains found (Alone i))
      → ((i : ℕ) (a : X) (j : ℕ) (b : X) → lookup (nat_eq i) new ≡ Some a → lacks pair news (i, a) ≡ true → of_second j ≡ true → lookup (nat_eq j) olds ≡ Some b → pair (i, a) (j, b) ≡ true
      → Contains found (Alone i))
      → least_from None found ≡ first_of (map alone_break (alone_of pair new news))
  first-alone old olds new news of_first of_second found rising others keeps keeps' none sound changed beside =
      least-first found (map alone_break (alone_of pair new news)) (alone-begin (alone_of pair new news) (rising-filter (lacks pair news) new rising)) sound from
    where
      keys-empty : (es : List (ℕ × X)) → keys_of es ≡ [] → es ≡ []
      keys-empty [] h = refl
      keys-empty (e ∷ es) h = cc

      not_false : (b : Bool) → not b ≡ false → b ≡ true
      not_false true h = refl
      not_false false h = cc

      not_true : (b : Bool) → b ≡ true → not b ≡ true → ⊥
      not_true b is h = let wrong : false ≡ true = sym (ap not is) ∙ h in cc

      with_partner : (i : ℕ) (a : X) → lookup (nat_eq i) new ≡ Some a → lacks pair news (i, a) ≡ true → (j : ℕ) (b : X) → lookup (nat_eq j) olds ≡ Some b → pair (i, a) (j, b) ≡ true
          → (d : Bool) → of_second j ≡ d → Contains found (Alone i)
      with_partner i a there alone j b had is true d_is = beside i a j b there alone d_is had is
      with_partner i a there alone j b had is false d_is =
          absurd (not_true (list_any (pair (i, a)) news) (any-of (pair (i, a)) news j b (keeps' j d_is ∙ had) is) alone)

      by : (i : ℕ) (a : X) → lookup (nat_eq i) new ≡ Some a → lacks pair news (i, a) ≡ true → (c : Bool) → of_first i ≡ c → Contains found (Alone i)
      by i a there alone true c_is = changed i a there alone c_is
      by i a there alone false c_is =
          let had : list_any (pair (i, a)) olds ≡ true =
          not_false (list_any (pair (i, a)) olds) (none-passes (lacks pair olds) old i a (keys-empty (filter (lacks pair olds) old) none) (sym (keeps i c_is) ∙ there)) in
          let partner = any-found (pair (i, a)) olds others had in
          with_partner i a there alone partner.key partner.value partner.found partner.passes (of_second partner.key) refl

      from : (x : Break) → Contains (map alone_break (alone_of pair new news)) x → Contains found x
      from x c =
          let p = map-contains alone_break (alone_of pair new news) x c in
          let f = alone-found pair new news p.0 rising p.1 in
          subst (Contains found) p.2 (by p.0 f.0 f.1 f.2 (of_first p.0) refl)
