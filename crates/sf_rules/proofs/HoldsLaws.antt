-- What breaks a rule as it is computed is what breaks it over all points of the plane.
use Rattle.std.proofs.Common.{◌≡◌, ◌<◌, ◌∙◌, ◌↔◌, ◌⊎◌, inl, inr, ℕ, suc, ◌+◌, nat_lt, slice_get, Bool, true, false, not, ◌&&◌, List, [], ◌∷◌, map, filter, IsSome, IsTrue, Option, None, Some, is_some, refl, ap, sym, subst, arith}
use Rattle.std.specs.List.{AllByRecursion, Contains, list_any}
use Rattle.std.specs.List.Sorted.{IsStrictlySortedBy}
use Rattle.std.specs.Map.{keys_of}
use Rattle.std.specs.Option.{option_map_or}
use Rattle.std.specs.Ordering.{nat_cmp}
use Rattle.std.proofs.lemmas.Bool.Decides.{nat_tests}
use Rattle.std.proofs.lemmas.List.Elements.{All-contains, All-from_recursion}
use Rattle.sf_joins.specs.Passed.{PairAsk}
use Rattle.sf_layers.specs.Content.{Content, LayerContent, column_named, feature_of, layer_of}
use Rattle.sf_features.specs.declared.attr_value.AttrValue.{AttrValue}
use Rattle.sf_features.specs.declared.column.Column.{Column}
use Rattle.sf_features.specs.Features.{FeatureContent, value_in}
use Rattle.sf_features.specs.Values.{same_value}
use Rattle.sf_features.proofs.SameLaws.{same-itself, same-value}
use Rattle.sf_layers.specs.WellFormed.{IsWellFormed}
use Rattle.sf_layers.specs.declared.value_range.ValueRange.{ValueRange}
use Rattle.sf_joins.specs.Joins.{is_pair, pairs_found}
use Rattle.sf_joins.specs.Joins.{HasValid, IsJoined}
use Rattle.sf_joins.proofs.Passed.{geometries-valid}
use Rattle.sf_joins.proofs.PlaneLaws.{joins_are_over_the_plane}
use Rattle.sf_rules.specs.declared.breaks.Break.{Break}
use Rattle.sf_rules.specs.declared.breaks.Break.TheVariants.{Alone, Pair}
use Rattle.sf_rules.specs.declared.breaks.Broken.{Broken}
use Rattle.sf_rules.specs.declared.rule.Form.{Form}
use Rattle.sf_rules.specs.declared.rule.Form.TheVariants.{Each, Never}
use Rattle.sf_rules.specs.declared.rule.Rule.{Rule}
use Rattle.sf_rules.specs.declared.rule.LayerRule.{LayerRule}
use Rattle.sf_rules.specs.declared.rule.ValueRule.{ValueRule}
use Rattle.sf_rules.specs.declared.rule.Says.{Says}
use Rattle.sf_rules.specs.declared.rule.Says.TheVariants.{OfLayers, OfValues}
use Rattle.sf_rules.specs.declared.rule.Demand.{Demand}
use Rattle.sf_rules.specs.declared.rule.Demand.TheVariants.{InRange, OneOf, Required, Unique}
use Rattle.sf_rules.specs.Breaks.{is_before}
use Rattle.sf_rules.specs.Holds.{AllHold, AreValueBreaks, Breaks, BreaksAreOverThePlane, HasColumn, HasNamed, HasSaid, HasValue, Holds, HoldsBetween, HoldsBy, HoldsInColumn, HoldsInLayer, HoldsOnValues, HoldsSaid, IsBreak, IsBrokenBy, IsValueBreak, ReportedRulesAreBroken, RulesAreOverThePlane, ValueBreaksAreThese}
use Rattle.sf_rules.specs.Rules.{has_value, alone_break, break_by, break_in, break_of, break_on, break_said, breaks_between, breaks_in, broken_from, broken_or, doubles_found, first_of, has_wrong, is_double, is_in_range, is_one_of, is_wrong, lacks_partner, of_one, pair_break}
use Rattle.sf_joins.proofs.Passed.{rising-filter}
use Rattle.sf_joins.proofs.PairLaws.{contains-cons, contains-filter, contains-here, contains-map, filter-contains, flat-rises, map-contains, row-begins, row-rises}
use Rattle.sf_joins.proofs.Passed.{layer-fits}
use Rattle.sf_rules.proofs.LeastLaws.{BeginsWithLeast, before-itself, before-trans}
use Rattle.sf_rules.proofs.EntryLaws.{ArePair, alone-found, alone-of, alone_of, any-found, any-in, any-of, in-any, member, pair-found, pair-of, there}
use Rattle.sf_rules.proofs.ChangeLaws.{alone-begin, pairs-begin}
use Rattle.sf_rules.proofs.ColumnLaws.{shared, sharing}

none-in : {X : Type 0} (x : X) → Contains [] x → ⊥
none-in x c = absurd (omega (arith, c.1))

not_back : (b : Bool) → not b ≡ true → b ≡ false
not_back true h = cc
not_back false h = refl

some-is : {X : Type 0} (x y : X) → Some x ≡ Some y → x ≡ y
some-is x y h = cc

-- ---- the first of a list

first-none : (breaks : List Break) → first_of breaks ≡ None → breaks ≡ []
first-none [] h = refl
first-none (x ∷ xs) h = cc

pub first-least : (breaks : List Break) → BeginsWithLeast breaks → (x y : Break) → first_of breaks ≡ Some y → Contains breaks x → is_before x y ≡ false
first-least [] begins x y is c = absurd (none-in x c)
first-least (z ∷ zs) begins x y is c = by (contains-cons z zs x c)
  where
    same : z ≡ y
    same = some-is z y is

    opposite : (a b : Break) → is_before a b ≡ true → is_before b a ≡ false
    opposite a b h = at (is_before b a) refl
      where
        at : (t : Bool) → is_before b a ≡ t → t ≡ false
        at false t_is = refl
        at true t_is = let wrong : true ≡ false = sym (before-trans a b a h t_is) ∙ before-itself a in cc

    by : (z ≡ x) ⊎ Contains zs x → is_before x y ≡ false
    by (inl here) = ap (λ b. is_before b y) (sym here) ∙ ap (is_before z) (sym same) ∙ before-itself z
    by (inr later) = ap (is_before x) (sym same) ∙ opposite z x (All-contains (λ b. is_before z b ≡ true) zs x (All-from_recursion (λ b. is_before z b ≡ true) zs begins) later)

-- ---- two features that are as asked

module _ (one : Bool) (first second : LayerContent) (ask : PairAsk) (rising : IsStrictlySortedBy nat_cmp (keys_of first.features)) (others : IsStrictlySortedBy nat_cmp (keys_of second.features)) (vf : HasValid first) (vs : HasValid second) where
  joined : (i j : ℕ) → Contains {X = ℕ × ℕ} (pairs_found one first ask second) (i, j) → IsJoined one first ask second i j
  joined i j c = ((joins_are_over_the_plane one first second ask rising others vf vs).just i j).0 c

  listed : (i j : ℕ) → IsJoined one first ask second i j → Contains {X = ℕ × ℕ} (pairs_found one first ask second) (i, j)
  listed i j is = ((joins_are_over_the_plane one first second ask rising others vf vs).just i j).1 is

  never-to : (x : Break) → Contains (breaks_between Never one first ask second) x → IsBreak Never one first ask second x
  never-to x c =
      let p = map-contains pair_break (pairs_found one first ask second) x c in
      subst (IsBreak Never one first ask second) p.2 (joined p.0.0 p.0.1 p.1)

  never-from : (x : Break) → IsBreak Never one first ask second x → Contains (breaks_between Never one first ask second) x
  never-from (Pair i j) is = let p : ℕ × ℕ = (i, j) in contains-map pair_break (pairs_found one first ask second) p (listed i j is)
  never-from (Alone i) is = absurd is

  never-none : first_of (breaks_between Never one first ask second) ≡ None → HoldsBetween Never one first ask second
  never-none h i j is = absurd (none-in (Pair i j) (subst (λ bs. Contains bs (Pair i j)) (first-none (breaks_between Never one first ask second) h) (never-from (Pair i j) is)))

  never-holds : HoldsBetween Never one first ask second → first_of (breaks_between Never one first ask second) ≡ None
  never-holds holds = by (pairs_found one first ask second) joined
    where
      by : (ps : List (ℕ × ℕ)) → ((i j : ℕ) → Contains {X = ℕ × ℕ} ps (i, j) → IsJoined one first ask second i j) → first_of (map pair_break ps) ≡ None
      by [] each = refl
      by (p ∷ ps) each = absurd (holds p.0 p.1 (each p.0 p.1 (contains-here p ps)))

  never-begins : BeginsWithLeast (breaks_between Never one first ask second)
  never-begins =
      pairs-begin (pairs_found one first ask second)
      (flat-rises (λ (a : ℕ × FeatureContent). map (λ (b : ℕ × FeatureContent). (a.0, b.0)) (filter (is_pair one ask a) second.features)) (λ a. row-begins a.0 (filter (is_pair one ask a) second.features))
      (λ a. row-rises a.0 (filter (is_pair one ask a) second.features) (rising-filter (is_pair one ask a) second.features others)) first.features rising)

  -- ---- features without a partner

  -- one that is joined to another has a partner
  has-partner : (i j : ℕ) (a : FeatureContent) → feature_of first i ≡ Some a → IsJoined one first ask second i j → list_any (is_pair one ask (i, a)) second.features ≡ true
  has-partner i j a there is =
      let p = pair-found (is_pair one ask) first.features second.features i j rising others (listed i j is) in
      let same : p.a ≡ a = some-is p.a a (sym p.first ∙ there) in
      any-of (is_pair one ask (i, a)) second.features j p.b p.second (subst (λ f. is_pair one ask (i, f) (j, p.b) ≡ true) same p.is)

  -- and one that has a partner is joined to it
  partner-joined : (i : ℕ) (a : FeatureContent) → feature_of first i ≡ Some a → list_any (is_pair one ask (i, a)) second.features ≡ true → (j : ℕ) × IsJoined one first ask second i j
  partner-joined i a there any =
      let f = any-found (is_pair one ask (i, a)) second.features others any in
      (f.key, joined i f.key (pair-of (is_pair one ask) first.features second.features i f.key (record { a = a; b = f.value; first = there; second = f.found; is = f.passes })))

  each-to : (x : Break) → Contains (breaks_between Each one first ask second) x → IsBreak Each one first ask second x
  each-to x c =
      let i = map-contains alone_break (alone_of (is_pair one ask) first.features second.features) x c in
      let a = alone-found (is_pair one ask) first.features second.features i.0 rising i.1 in
      subst (IsBreak Each one first ask second) i.2 (
        ap is_some a.1,
        λ j is.
            let wrong : true ≡ false = sym (has-partner i.0 j a.0 a.1 is) ∙ not_back (list_any (is_pair one ask (i.0, a.0)) second.features) a.2 in
            cc,
      )

  each-from : (x : Break) → IsBreak Each one first ask second x → Contains (breaks_between Each one first ask second) x
  each-from (Pair i j) is = absurd is
  each-from (Alone i) is = by (feature_of first i) refl is.0
    where
      lacks : (a : FeatureContent) → feature_of first i ≡ Some a → (t : Bool) → list_any (is_pair one ask (i, a)) second.features ≡ t → not t ≡ true
      lacks a there false t_is = refl
      lacks a there true t_is = let j = partner-joined i a there t_is in absurd (is.1 j.0 j.1)

      by : (o : Option FeatureContent) → feature_of first i ≡ o → IsSome o → Contains (breaks_between Each one first ask second) (Alone i)
      by None at some = cc
      by (Some a) at some =
          contains-map alone_break (alone_of (is_pair one ask) first.features second.features) i
          (alone-of (is_pair one ask) first.features second.features i a at (lacks a at (list_any (is_pair one ask (i, a)) second.features) refl))

  each-none : first_of (breaks_between Each one first ask second) ≡ None → HoldsBetween Each one first ask second
  each-none h i a there = by (list_any (is_pair one ask (i, a)) second.features) refl
    where
      by : (t : Bool) → list_any (is_pair one ask (i, a)) second.features ≡ t → (j : ℕ) × IsJoined one first ask second i j
      by true t_is = partner-joined i a there t_is
      by false t_is =
          absurd (none-in (Alone i) (subst (λ bs. Contains bs (Alone i)) (first-none (breaks_between Each one first ask second) h)
          (contains-map alone_break (alone_of (is_pair one ask) first.features second.features) i
          (alone-of (is_pair one ask) first.features second.features i a there (ap not t_is)))))

  each-holds : HoldsBetween Each one first ask second → first_of (breaks_between Each one first ask second) ≡ None
  each-holds holds = by (alone_of (is_pair one ask) first.features second.features) (λ i c. alone-found (is_pair one ask) first.features second.features i rising c)
    where
      by : (is : List ℕ) → ((i : ℕ) → Contains is i → (a : FeatureContent) × (feature_of first i ≡ Some a) × (lacks_partner one ask second (i, a) ≡ true)) → first_of (map alone_break is) ≡ None
      by [] each = refl
      by (i ∷ is) each =
          let a = each i (contains-here i is) in
          let j = holds i a.0 a.1 in
          let wrong : true ≡ false = sym (has-partner i j.0 a.0 a.1 j.1) ∙ not_back (list_any (is_pair one ask (i, a.0)) second.features) a.2 in
          cc

  each-begins : BeginsWithLeast (breaks_between Each one first ask second)
  each-begins =
      alone-begin (alone_of (is_pair one ask) first.features second.features) (rising-filter (lacks_partner one ask second) first.features rising)

pub breaks_are_over_the_plane : BreaksAreOverThePlane
breaks_are_over_the_plane Never one first second ask rising others vf vs = record {
  just = λ x. (never-to one first second ask rising others vf vs x, never-from one first second ask rising others vf vs x);
  least = first-least (breaks_between Never one first ask second) (never-begins one first second ask rising others vf vs);
  none = (never-none one first second ask rising others vf vs, never-holds one first second ask rising others vf vs);
}
breaks_are_over_the_plane Each one first second ask rising others vf vs = record {
  just = λ x. (each-to one first second ask rising others vf vs x, each-from one first second ask rising others vf vs x);
  least = first-least (breaks_between Each one first ask second) (each-begins one first second ask rising others vf vs);
  none = (each-none one first second ask rising others vf vs, each-holds one first second ask rising others vf vs);
}

-- ---- values

-- what breaks a rule on values is none where the rule holds
value-break-fails : (demand : Demand) (number : ℕ) (layer : LayerContent) (x : Break) → IsValueBreak demand number layer x → HoldsOnValues demand number layer → ⊥
value-break-fails Unique number layer (Pair i j) is holds = not-less i j (holds i j is.1.0 is.1.1 is.1.2) is.0
  where
    not-less : (m n : ℕ) → m ≡ n → m < n → ⊥
    not-less m n h less = absurd (omega (arith, h, less))
value-break-fails Unique number layer (Alone i) is holds = is
value-break-fails Required number layer (Pair i j) is holds = is
value-break-fails Required number layer (Alone i) is holds = let v = holds i is.0 in is.1 v.0 v.1
value-break-fails (OneOf allowed) number layer (Pair i j) is holds = is
value-break-fails (OneOf allowed) number layer (Alone i) is holds = is.2 (holds i is.0 is.1)
value-break-fails (InRange range) number layer (Pair i j) is holds = is
value-break-fails (InRange range) number layer (Alone i) is holds = is.2 (holds i is.0 is.1)

-- of a list of what breaks a rule there is no first where the rule holds
none-breaks : (demand : Demand) (number : ℕ) (layer : LayerContent) (xs : List Break) → ((x : Break) → Contains xs x → IsValueBreak demand number layer x) → HoldsOnValues demand number layer
    → first_of xs ≡ None
none-breaks demand number layer [] each holds = refl
none-breaks demand number layer (x ∷ xs) each holds = absurd (value-break-fails demand number layer x (each x (contains-here x xs)) holds)

-- a value is one of several just where it is among them
among : (allowed : List AttrValue) (value : AttrValue) → is_one_of allowed value ≡ true → Contains allowed value
among allowed value is =
    let other = any-in (λ other. same_value other value) allowed is in
    subst (Contains allowed) (same-value other.0 value other.2) other.1

not-among : (allowed : List AttrValue) (value : AttrValue) → not (is_one_of allowed value) ≡ true → Contains allowed value → ⊥
not-among allowed value is c =
    let wrong : true ≡ false = sym (in-any (λ other. same_value other value) allowed value c (same-itself value)) ∙ not_back (is_one_of allowed value) is in cc

is-not : (b : Bool) → (b ≡ true → ⊥) → not b ≡ true
is-not true h = absurd (h refl)
is-not false h = refl

not_not : (b : Bool) → not b ≡ false → b ≡ true
not_not true h = refl
not_not false h = cc

module _ (number : ℕ) (layer : LayerContent) (rising : IsStrictlySortedBy nat_cmp (keys_of layer.features)) where
  below : (i j : ℕ) → nat_lt i j ≡ true → i < j
  below i j less = grind (arith, nat_tests)

  less-of : (i j : ℕ) → i < j → nat_lt i j ≡ true
  less-of i j h = grind (arith, nat_tests)

  and_true : (a b : Bool) → a && b ≡ true → (a ≡ true) × (b ≡ true)
  and_true true true h = (refl, refl)
  and_true true false h = cc
  and_true false b h = cc

  and_of : (a b : Bool) → a ≡ true → b ≡ true → a && b ≡ true
  and_of true b h k = k
  and_of false b h k = cc

  of-pair : (i j : ℕ) → ArePair (is_double number) layer.features layer.features i j → IsValueBreak Unique number layer (Pair i j)
  of-pair i j p =
      let both = and_true (nat_lt i j) (option_map_or (λ value. has_value number value p.b) (value_in number p.a) false) p.is in
      let share = shared number p.a p.b both.1 in
      (below i j both.0, (share.value, (p.a, p.first, share.first), (p.b, p.second, share.second)))

  to-pair : (i j : ℕ) → IsValueBreak Unique number layer (Pair i j) → ArePair (is_double number) layer.features layer.features i j
  to-pair i j is = record {
    a = is.1.1.0;
    b = is.1.2.0;
    first = is.1.1.1;
    second = is.1.2.1;
    is = and_of (nat_lt i j) (option_map_or (λ value. has_value number value is.1.2.0) (value_in number is.1.1.0) false) (less-of i j is.0)
        (sharing number is.1.1.0 is.1.2.0 (record { value = is.1.0; first = is.1.1.2; second = is.1.2.2 }));
  }

  pub unique-to : (x : Break) → Contains (breaks_in Unique number layer) x → IsValueBreak Unique number layer x
  unique-to x c =
      let p = map-contains pair_break (doubles_found number layer) x c in
      subst (IsValueBreak Unique number layer) p.2 (of-pair p.0.0 p.0.1 (pair-found (is_double number) layer.features layer.features p.0.0 p.0.1 rising rising p.1))

  pub unique-from : (x : Break) → IsValueBreak Unique number layer x → Contains (breaks_in Unique number layer) x
  unique-from (Pair i j) is =
      let p : ℕ × ℕ = (i, j) in
      contains-map pair_break (doubles_found number layer) p (pair-of (is_double number) layer.features layer.features i j (to-pair i j is))
  unique-from (Alone i) is = absurd is

  -- two features with one value, in whatever order, are a break
  never-two : first_of (breaks_in Unique number layer) ≡ None → (i j : ℕ) (value : AttrValue) → HasValue number layer i value → HasValue number layer j value → i < j → ⊥
  never-two h i j value of_i of_j less =
      none-in (Pair i j) (subst (λ bs. Contains bs (Pair i j)) (first-none (breaks_in Unique number layer) h) (unique-from (Pair i j) (less, (value, of_i, of_j))))

  unique-none : first_of (breaks_in Unique number layer) ≡ None → HoldsOnValues Unique number layer
  unique-none h i j value of_i of_j = by (nat_lt i j) (nat_lt j i) refl refl
    where
      same : nat_lt i j ≡ false → nat_lt j i ≡ false → i ≡ j
      same is js = grind (arith, nat_tests)

      by : (s t : Bool) → nat_lt i j ≡ s → nat_lt j i ≡ t → i ≡ j
      by true t is js = absurd (never-two h i j value of_i of_j (below i j is))
      by false true is js = absurd (never-two h j i value of_j of_i (below j i js))
      by false false is js = same is js

  unique-holds : HoldsOnValues Unique number layer → first_of (breaks_in Unique number layer) ≡ None
  unique-holds holds = none-breaks Unique number layer (breaks_in Unique number layer) unique-to holds

  pub unique-begins : BeginsWithLeast (breaks_in Unique number layer)
  unique-begins =
      pairs-begin (doubles_found number layer)
      (flat-rises (λ (a : ℕ × FeatureContent). map (λ (b : ℕ × FeatureContent). (a.0, b.0)) (filter (is_double number a) layer.features)) (λ a. row-begins a.0 (filter (is_double number a) layer.features))
      (λ a. row-rises a.0 (filter (is_double number a) layer.features) (rising-filter (is_double number a) layer.features rising)) layer.features rising)

  -- a feature without a value
  none-value : (i : ℕ) (a : FeatureContent) → feature_of layer i ≡ Some a → value_in number a ≡ None → (value : AttrValue) → HasValue number layer i value → ⊥
  none-value i a stands none value has =
      let same : a ≡ has.0 = some-is a has.0 (sym stands ∙ has.1) in
      let wrong : None ≡ Some value = sym none ∙ ap (value_in number) same ∙ has.2 in cc

  -- ---- features that break a rule by themselves

  -- a feature of which this is wrong
  IsWrongAt : Demand → ℕ → Type 0
  IsWrongAt demand i = (a : FeatureContent) × (feature_of layer i ≡ Some a) × (is_wrong demand (value_in number a) ≡ true)

  -- each breaks the rule
  wrong-breaks : (demand : Demand) (i : ℕ) (a : FeatureContent) → feature_of layer i ≡ Some a → (o : Option AttrValue) → value_in number a ≡ o → is_wrong demand o ≡ true
      → IsValueBreak demand number layer (Alone i)
  wrong-breaks Unique i a stands o is h = cc
  wrong-breaks Required i a stands None is h = (ap is_some stands, none-value i a stands is)
  wrong-breaks Required i a stands (Some value) is h = cc
  wrong-breaks (OneOf allowed) i a stands None is h = cc
  wrong-breaks (OneOf allowed) i a stands (Some value) is h = (value, (a, stands, is), not-among allowed value h)
  wrong-breaks (InRange range) i a stands None is h = cc
  wrong-breaks (InRange range) i a stands (Some value) is h =
      (value, (a, stands, is), λ inside. let wrong : true ≡ false = sym inside ∙ not_back (is_in_range range value) h in cc)

  -- and what breaks it is one
  breaks-wrong : (demand : Demand) (i : ℕ) → IsValueBreak demand number layer (Alone i) → IsWrongAt demand i
  unfolding IsWrongAt
  breaks-wrong Unique i is = absurd is
  breaks-wrong Required i is = by (feature_of layer i) refl is.0
    where
      at : (a : FeatureContent) → feature_of layer i ≡ Some a → (o : Option AttrValue) → value_in number a ≡ o → is_wrong Required o ≡ true
      at a stands None v = refl
      at a stands (Some value) v = absurd (is.1 value (a, stands, v))

      by : (o : Option FeatureContent) → feature_of layer i ≡ o → IsSome o → IsWrongAt Required i
      by None stands some = cc
      by (Some a) stands some = (a, stands, at a stands (value_in number a) refl)
  breaks-wrong (OneOf allowed) i is =
      (is.1.0, is.1.1, ap (is_wrong (OneOf allowed)) is.1.2 ∙ is-not (is_one_of allowed is.0) (λ one. is.2 (among allowed is.0 one)))
  breaks-wrong (InRange range) i is = (is.1.0, is.1.1, ap (is_wrong (InRange range)) is.1.2 ∙ is-not (is_in_range range is.0) is.2)

  wrongs : Demand → List Break
  wrongs demand = map alone_break (keys_of (filter (has_wrong demand number) layer.features))

  wrong-in : (demand : Demand) (i : ℕ) → IsWrongAt demand i → Contains (wrongs demand) (Alone i)
  unfolding IsWrongAt wrongs
  wrong-in demand i is =
      contains-map alone_break (keys_of (filter (has_wrong demand number) layer.features)) i
      (contains-map (λ (e : ℕ × FeatureContent). e.0) (filter (has_wrong demand number) layer.features) (i, is.0)
      (contains-filter (has_wrong demand number) layer.features (i, is.0) (member layer.features i is.0 is.1) is.2))

  wrong-to : (demand : Demand) (x : Break) → Contains (wrongs demand) x → IsValueBreak demand number layer x
  unfolding wrongs
  wrong-to demand x c =
      let i = map-contains alone_break (keys_of (filter (has_wrong demand number) layer.features)) x c in
      let e = map-contains (λ (e : ℕ × FeatureContent). e.0) (filter (has_wrong demand number) layer.features) i.0 i.1 in
      let kept = filter-contains (has_wrong demand number) layer.features e.0 e.1 in
      subst (IsValueBreak demand number layer) (ap alone_break e.2 ∙ i.2)
      (wrong-breaks demand e.0.0 e.0.1 (there layer.features e.0 rising kept.0) (value_in number e.0.1) refl kept.1)

  wrong-from : (demand : Demand) → ((i j : ℕ) → IsValueBreak demand number layer (Pair i j) → ⊥) → (x : Break) → IsValueBreak demand number layer x → Contains (wrongs demand) x
  wrong-from demand no-pair (Pair i j) is = absurd (no-pair i j is)
  wrong-from demand no-pair (Alone i) is = wrong-in demand i (breaks-wrong demand i is)

  -- where none is, nothing is wrong
  none-wrong : (demand : Demand) → first_of (wrongs demand) ≡ None → (i : ℕ) (a : FeatureContent) → feature_of layer i ≡ Some a → is_wrong demand (value_in number a) ≡ false
  unfolding IsWrongAt
  none-wrong demand none i a stands = by (is_wrong demand (value_in number a)) refl
    where
      by : (t : Bool) → is_wrong demand (value_in number a) ≡ t → t ≡ false
      by false is = refl
      by true is = absurd (none-in (Alone i) (subst (λ bs. Contains bs (Alone i)) (first-none (wrongs demand) none) (wrong-in demand i (a, stands, is))))

  required-none : first_of (wrongs Required) ≡ None → HoldsOnValues Required number layer
  required-none none i some = by (feature_of layer i) refl some
    where
      at : (a : FeatureContent) → feature_of layer i ≡ Some a → (o : Option AttrValue) → value_in number a ≡ o → is_wrong Required o ≡ false → (value : AttrValue) × HasValue number layer i value
      at a stands None v h = cc
      at a stands (Some value) v h = (value, (a, stands, v))

      by : (o : Option FeatureContent) → feature_of layer i ≡ o → IsSome o → (value : AttrValue) × HasValue number layer i value
      by None stands given = cc
      by (Some a) stands given = at a stands (value_in number a) refl (none-wrong Required none i a stands)

  -- each value passes
  value-right : (demand : Demand) → first_of (wrongs demand) ≡ None → (i : ℕ) (value : AttrValue) → HasValue number layer i value → is_wrong demand (Some value) ≡ false
  value-right demand none i value has = sym (ap (is_wrong demand) has.2) ∙ none-wrong demand none i has.0 has.1

  one-of-none : (allowed : List AttrValue) → first_of (wrongs (OneOf allowed)) ≡ None → HoldsOnValues (OneOf allowed) number layer
  one-of-none allowed none i value has = among allowed value (not_not (is_one_of allowed value) (value-right (OneOf allowed) none i value has))

  in-range-none : (range : ValueRange) → first_of (wrongs (InRange range)) ≡ None → HoldsOnValues (InRange range) number layer
  in-range-none range none i value has = not_not (is_in_range range value) (value-right (InRange range) none i value has)

  wrongs-begin : (demand : Demand) → BeginsWithLeast (wrongs demand)
  unfolding wrongs
  wrongs-begin demand = alone-begin (keys_of (filter (has_wrong demand number) layer.features)) (rising-filter (has_wrong demand number) layer.features rising)

  -- they are what breaks a rule that looks at each feature by itself
  wrongs-are : (demand : Demand) → ((i j : ℕ) → IsValueBreak demand number layer (Pair i j) → ⊥)
      → (first_of (map alone_break (keys_of (filter (has_wrong demand number) layer.features))) ≡ None → HoldsOnValues demand number layer)
      → AreValueBreaks demand number layer (map alone_break (keys_of (filter (has_wrong demand number) layer.features)))
  unfolding wrongs
  wrongs-are demand no-pair holds = record {
    just = λ x. (wrong-to demand x, wrong-from demand no-pair x);
    least = first-least (wrongs demand) (wrongs-begin demand);
    none = (holds, none-breaks demand number layer (wrongs demand) (wrong-to demand));
  }

pub value_breaks_are_these : ValueBreaksAreThese
unfolding wrongs
value_breaks_are_these Unique number layer rising = record {
  just = λ x. (unique-to number layer rising x, unique-from number layer rising x);
  least = first-least (breaks_in Unique number layer) (unique-begins number layer rising);
  none = (unique-none number layer rising, unique-holds number layer rising);
}
value_breaks_are_these Required number layer rising = wrongs-are number layer rising Required (λ i j is. is) (required-none number layer rising)
value_breaks_are_these (OneOf allowed) number layer rising = wrongs-are number layer rising (OneOf allowed) (λ i j is. is) (one-of-none number layer rising allowed)
value_breaks_are_these (InRange range) number layer rising = wrongs-are number layer rising (InRange range) (λ i j is. is) (in-range-none number layer rising range)

-- ---- several rules

layers-over-the-plane : (content : Content) (rule : LayerRule) → IsWellFormed content → HasSaid content (OfLayers rule) → (break_said content (OfLayers rule) ≡ None) ↔ HoldsSaid content (OfLayers rule)
layers-over-the-plane content rule fine stands = by (layer_of content rule.first) (layer_of content rule.second) refl refl stands.0 stands.1
  where
    by : (o p : Option LayerContent) → layer_of content rule.first ≡ o → layer_of content rule.second ≡ p → IsTrue (is_some o) → IsTrue (is_some p) → (break_by rule o p ≡ None) ↔ HoldsBy rule o p
    by None p is js h k = cc
    by (Some first) None is js h k = cc
    by (Some first) (Some second) is js h k =
        (breaks_are_over_the_plane rule.form (of_one rule) first second rule.ask (layer-fits content rule.first first fine is).rising (layer-fits content rule.second second fine js).rising
        (geometries-valid first (layer-fits content rule.first first fine is)) (geometries-valid second (layer-fits content rule.second second fine js))).none

values-hold : (content : Content) (rule : ValueRule) → IsWellFormed content → HasSaid content (OfValues rule) → (break_said content (OfValues rule) ≡ None) ↔ HoldsSaid content (OfValues rule)
values-hold content rule fine stands = by (layer_of content rule.layer) refl stands
  where
    at : (layer : LayerContent) → layer_of content rule.layer ≡ Some layer → (c : Option Column) → IsTrue (is_some c) → (break_in rule.demand layer c ≡ None) ↔ HoldsInColumn rule.demand layer c
    at layer is None h = cc
    at layer is (Some column) h = (value_breaks_are_these rule.demand column.number layer (layer-fits content rule.layer layer fine is).rising).none

    by : (o : Option LayerContent) → layer_of content rule.layer ≡ o → HasColumn rule.column o → (break_on rule o ≡ None) ↔ HoldsInLayer rule o
    by None is h = absurd h
    by (Some layer) is h = at layer is (column_named layer rule.column) h

said-over-the-plane : (content : Content) (says : Says) → IsWellFormed content → HasSaid content says → (break_said content says ≡ None) ↔ HoldsSaid content says
said-over-the-plane content (OfLayers rule) fine stands = layers-over-the-plane content rule fine stands
said-over-the-plane content (OfValues rule) fine stands = values-hold content rule fine stands

pub rule-over-the-plane : (content : Content) (rule : Rule) → IsWellFormed content → HasNamed content rule → (break_of content rule ≡ None) ↔ Holds content rule
rule-over-the-plane content rule fine stands = said-over-the-plane content rule.says fine stands

rules-from : (content : Content) (rules : List Rule) (place : ℕ) → IsWellFormed content → AllByRecursion (HasNamed content) rules → (broken_from place content rules ≡ None) ↔ AllHold content rules
rules-from content [] place fine there = (λ h. tt, λ h. refl)
rules-from content (rule ∷ rules) place fine there = by (rule-over-the-plane content rule fine there.0) (rules-from content rules (place + 1) fine there.1)
  where
    to : (o : Option Break) → (o ≡ None → Holds content rule) → (broken_from (place + 1) content rules ≡ None → AllHold content rules)
        → broken_or place o (broken_from (place + 1) content rules) ≡ None → AllHold content (rule ∷ rules)
    to None this later h = (this refl, later h)
    to (Some least) this later h = cc

    by : (break_of content rule ≡ None) ↔ Holds content rule → (broken_from (place + 1) content rules ≡ None) ↔ AllHold content rules
        → (broken_from place content (rule ∷ rules) ≡ None) ↔ AllHold content (rule ∷ rules)
    by this later = (
      to (break_of content rule) this.0 later.0,
      λ holds. ap (λ o. broken_or place o (broken_from (place + 1) content rules)) (this.1 holds.0) ∙ later.1 holds.1,
    )

pub rules_are_over_the_plane : RulesAreOverThePlane
rules_are_over_the_plane content rules fine there = rules-from content rules 0 fine there

-- ---- what is reported

-- a rule that is found broken stands at its place
record IsFound (content : Content) (place : ℕ) (rules : List Rule) (broken : Broken) : Type 0 where
  behind : ℕ
  rule : Rule
  at : broken.place ≡ place + behind
  stands : slice_get rules behind ≡ Some rule
  least : break_of content rule ≡ Some broken.least

is-found : (content : Content) (place : ℕ) (rules : List Rule) (broken : Broken) → broken_from place content rules ≡ Some broken → IsFound content place rules broken
is-found content place [] broken h = cc
is-found content place (rule ∷ rules) broken h = by (break_of content rule) refl h (λ later. is-found content (place + 1) rules broken later)
  where
    by : (o : Option Break) → break_of content rule ≡ o → broken_or place o (broken_from (place + 1) content rules) ≡ Some broken
        → (broken_from (place + 1) content rules ≡ Some broken → IsFound content (place + 1) rules broken) → IsFound content place (rule ∷ rules) broken
    by None is g later =
        let f = later g in
        record { behind = suc f.behind; rule = f.rule; at = f.at ∙ omega arith; stands = f.stands; least = f.least }
    by (Some least) is g later =
        let same : record { place = place; least = least } ≡ broken = some-is (record { place = place; least = least }) broken g in
        record {
          behind = 0;
          rule = rule;
          at = sym (ap (λ (b : Broken). b.place) same) ∙ omega arith;
          stands = refl;
          least = is ∙ ap (λ (b : Broken). Some b.least) same;
        }

-- what breaks a rule is none where the rule holds
break-fails : (form : Form) (one : Bool) (first second : LayerContent) (ask : PairAsk) (x : Break) → IsBreak form one first ask second x → HoldsBetween form one first ask second → ⊥
break-fails Never one first second ask (Pair i j) is holds = holds i j is
break-fails Never one first second ask (Alone i) is holds = is
break-fails Each one first second ask (Pair i j) is holds = is
break-fails Each one first second ask (Alone i) is holds = by (feature_of first i) refl is.0
  where
    by : (o : Option FeatureContent) → feature_of first i ≡ o → IsSome o → ⊥
    by None at some = cc
    by (Some a) at some = let j = holds i a at in is.1 j.0 j.1

first-in : (breaks : List Break) (x : Break) → first_of breaks ≡ Some x → Contains breaks x
first-in [] x h = cc
first-in (y ∷ ys) x h = subst (Contains (y ∷ ys)) (some-is y x h) (contains-here y ys)

-- what is found breaks what a rule says, which then does not hold
layers-break : (content : Content) (rule : LayerRule) (x : Break) → IsWellFormed content → break_said content (OfLayers rule) ≡ Some x → Breaks content (OfLayers rule) x × (HoldsSaid content (OfLayers rule) → ⊥)
layers-break content rule x fine least = at (layer_of content rule.first) refl (layer_of content rule.second) refl least
  where
    at : (o : Option LayerContent) → layer_of content rule.first ≡ o → (p : Option LayerContent) → layer_of content rule.second ≡ p → break_by rule o p ≡ Some x
        → Breaks content (OfLayers rule) x × (HoldsSaid content (OfLayers rule) → ⊥)
    at None is p js g = cc
    at (Some first) is None js g = cc
    at (Some first) is (Some second) js g =
        let found : IsBreak rule.form (of_one rule) first rule.ask second x =
        ((breaks_are_over_the_plane rule.form (of_one rule) first second rule.ask (layer-fits content rule.first first fine is).rising (layer-fits content rule.second second fine js).rising
        (geometries-valid first (layer-fits content rule.first first fine is)) (geometries-valid second (layer-fits content rule.second second fine js))).just x).0
        (first-in (breaks_between rule.form (of_one rule) first rule.ask second) x g) in (
          (first, second, is, js, found),
          λ holds. break-fails rule.form (of_one rule) first second rule.ask x found
              (subst (λ o. HoldsBy rule (Some first) o) js (subst (λ o. HoldsBy rule o (layer_of content rule.second)) is holds)),
        )

values-break : (content : Content) (rule : ValueRule) (x : Break) → IsWellFormed content → break_said content (OfValues rule) ≡ Some x → Breaks content (OfValues rule) x × (HoldsSaid content (OfValues rule) → ⊥)
values-break content rule x fine least = at (layer_of content rule.layer) refl least
  where
    on : (layer : LayerContent) → layer_of content rule.layer ≡ Some layer → (c : Option Column) → column_named layer rule.column ≡ c → break_in rule.demand layer c ≡ Some x
        → Breaks content (OfValues rule) x × (HoldsSaid content (OfValues rule) → ⊥)
    on layer is None js g = cc
    on layer is (Some column) js g =
        let found : IsValueBreak rule.demand column.number layer x =
        ((value_breaks_are_these rule.demand column.number layer (layer-fits content rule.layer layer fine is).rising).just x).0 (first-in (breaks_in rule.demand column.number layer) x g) in (
          (layer, column, is, js, found),
          λ holds. value-break-fails rule.demand column.number layer x found (subst (HoldsInColumn rule.demand layer) js (subst (HoldsInLayer rule) is holds)),
        )

    at : (o : Option LayerContent) → layer_of content rule.layer ≡ o → break_on rule o ≡ Some x → Breaks content (OfValues rule) x × (HoldsSaid content (OfValues rule) → ⊥)
    at None is g = cc
    at (Some layer) is g = on layer is (column_named layer rule.column) refl g

said-breaks : (content : Content) (says : Says) (x : Break) → IsWellFormed content → break_said content says ≡ Some x → Breaks content says x × (HoldsSaid content says → ⊥)
said-breaks content (OfLayers rule) x fine least = layers-break content rule x fine least
said-breaks content (OfValues rule) x fine least = values-break content rule x fine least

-- a rule that stands at a place and is broken
pub broken-at : (content : Content) (rules : List Rule) (broken : Broken) (rule : Rule) → IsWellFormed content → slice_get rules broken.place ≡ Some rule → break_of content rule ≡ Some broken.least
    → IsBrokenBy content rules broken
broken-at content rules broken rule fine stands least =
    let both = said-breaks content rule.says broken.least fine least in
    record { rule = rule; stands = stands; breaks = both.0; fails = both.1 }

pub reported_rules_are_broken : ReportedRulesAreBroken
reported_rules_are_broken content rules broken fine h =
    let f = is-found content 0 rules broken h in
    broken-at content rules broken f.rule fine (ap (slice_get rules) (f.at ∙ omega arith) ∙ f.stands) f.least
