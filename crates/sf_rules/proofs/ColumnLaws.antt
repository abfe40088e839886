-- What breaks a rule on values first is among what is looked at.
use Rattle.std.proofs.Common.{◌≡◌, ◌∙◌, ◌⊎◌, inl, inr, ℕ, ◌<◌, Bool, true, false, cond, not, ◌&&◌, ◌||◌, List, [], ◌∷◌, ◌++◌, map, flat_map, filter, Option, None, Some, is_some, slice_get, nat_eq, nat_lt, bytes_eq, refl, ap, sym, subst, arith}
use Rattle.std.specs.Prelude.{if◌then◌else◌}
use Rattle.std.specs.List.{Contains, list_any}
use Rattle.std.specs.List.Sorted.{IsStrictlySortedBy}
use Rattle.std.specs.Map.{keys_of, lookup}
use Rattle.std.specs.Option.{option_and_then, option_map_or}
use Rattle.std.specs.Ordering.{nat_cmp}
use Rattle.std.proofs.lemmas.Bool.{eq-eqb, eqb-true}
use Rattle.std.proofs.lemmas.List.{append-nil}
use Rattle.std.proofs.lemmas.Bool.Decides.{nat_tests}
use Rattle.sf_features.specs.declared.attr_value.AttrValue.{AttrValue}
use Rattle.sf_features.specs.declared.column.Column.{Column}
use Rattle.sf_features.specs.Columns.{named}
use Rattle.sf_features.specs.Features.{FeatureContent, value_in}
use Rattle.sf_features.specs.Values.{same_value}
use Rattle.sf_features.proofs.SameLaws.{same-itself, same-value}
use Rattle.sf_layers.specs.Content.{Content, LayerContent, column_named, column_place, feature_in, feature_of, layer_at, layer_of, place_of}
use Rattle.sf_layers.specs.Found.{ids_with_value}
use Rattle.sf_layers.specs.WellFormed.{IsWellFormed}
use Rattle.sf_patches.specs.Merged.{HaveOneOrder, is_of_id}
use Rattle.sf_patches.specs.Patches.{patched}
use Rattle.sf_patches.specs.declared.slot.Slot.{Slot}
use Rattle.sf_patches.specs.declared.slot.Slot.TheVariants.{Counter, State}
use Rattle.sf_patches.proofs.TakenBack.{IsWellFormed-patched}
use Rattle.sf_joins.proofs.Passed.{found-passes, passes-found, rising-filter}
use Rattle.sf_joins.proofs.Passed.{layer-fits}
use Rattle.sf_joins.proofs.PairLaws.{contains-cons, contains-filter, contains-flat, contains-here, contains-map, filter-contains, flat-contains, map-contains}
use Rattle.sf_rules.specs.declared.breaks.Break.{Break}
use Rattle.sf_rules.specs.declared.breaks.Break.TheVariants.{Alone, Pair}
use Rattle.sf_rules.specs.declared.column.InColumn.{InColumn}
use Rattle.sf_rules.specs.declared.rule.Demand.{Demand}
use Rattle.sf_rules.specs.declared.rule.Demand.TheVariants.{InRange, OneOf, Required, Unique}
use Rattle.sf_rules.specs.declared.rule.ValueRule.{ValueRule}
use Rattle.sf_rules.specs.Breaks.{least_from}
use Rattle.sf_rules.specs.ColumnLooks.{IsInColumn, IsInLayerOrMissing, double_of, doubles_beside, is_other, values_at, values_beside, values_looked_at, values_of_slot, values_of_some, wrong_by, wrong_of_entry}
use Rattle.sf_rules.specs.Leaving.{is_leaving}
use Rattle.sf_rules.specs.Looks.{staying}
use Rattle.sf_rules.specs.Rules.{alone_break, break_in, break_of_values, break_on, breaks_in, doubles_found, first_of, has_value, has_wrong, is_double, is_wrong, pair_break}
use Rattle.sf_rules.specs.Underway.{CanLeave, ComesOf, DiffersAt}
use Rattle.sf_rules.proofs.ChangeLaws.{alone-begin, first-pair}
use Rattle.sf_rules.proofs.EntryLaws.{ArePair, member, none-passes, pair-of, pairs_of, there}
use Rattle.sf_rules.proofs.LeastLaws.{least-first}
use Rattle.sf_rules.proofs.PlaceLaws.{kept-at, layer-at, layer-missing, layer-there, order-patched, same-columns, stays-at}
use Rattle.sf_rules.proofs.SlotLaws.{keys-patched, of-id-there}

-- ---- small facts

none-in : {X : Type 0} (x : X) → Contains [] x → ⊥
none-in x c = absurd (omega (arith, c.1))

and_true : (a b : Bool) → a && b ≡ true → (a ≡ true) × (b ≡ true)
and_true true true h = (refl, refl)
and_true true false h = cc
and_true false b h = cc

and_of : (a b : Bool) → a ≡ true → b ≡ true → a && b ≡ true
and_of true b h k = k
and_of false b h k = cc

or_false : (a b : Bool) → a || b ≡ false → (a ≡ false) × (b ≡ false)
or_false true b h = cc
or_false false b h = (refl, h)

or_true : (a b : Bool) → a || b ≡ true → (a ≡ true) ⊎ (b ≡ true)
or_true true b h = inl refl
or_true false b h = inr h

not_back : (b : Bool) → not b ≡ true → b ≡ false
not_back true h = cc
not_back false h = refl

-- what stays stands there, and does not leave
stays-some : (layer : LayerContent) (leaving : List Slot) (place id : ℕ) (feature : FeatureContent) → staying layer leaving place id ≡ Some feature
    → (is_leaving leaving place id ≡ false) × (feature_of layer id ≡ Some feature)
stays-some layer leaving place id feature h = by (is_leaving leaving place id) refl h
  where
    by : (b : Bool) → is_leaving leaving place id ≡ b → (if b then None else feature_of layer id) ≡ Some feature → (is_leaving leaving place id ≡ false) × (feature_of layer id ≡ Some feature)
    by true is g = cc
    by false is g = (is, g)

-- ---- values that are one

-- a feature with a value that is this one has this one
value-of : (number : ℕ) (value : AttrValue) (feature : FeatureContent) → has_value number value feature ≡ true → value_in number feature ≡ Some value
value-of number value feature h = by (value_in number feature) refl h
  where
    by : (o : Option AttrValue) → value_in number feature ≡ o → option_map_or (same_value value) o false ≡ true → value_in number feature ≡ Some value
    by None is g = cc
    by (Some other) is g = is ∙ ap (λ v. Some v) (sym (same-value value other g))

pub of-value : (number : ℕ) (value : AttrValue) (feature : FeatureContent) → value_in number feature ≡ Some value → has_value number value feature ≡ true
of-value number value feature is = ap (λ o. option_map_or (same_value value) o false) is ∙ same-itself value

-- two features that share a value
pub record Share (number : ℕ) (a b : FeatureContent) : Type 0 where
  pub value : AttrValue
  pub first : value_in number a ≡ Some value
  pub second : value_in number b ≡ Some value

pub shared : (number : ℕ) (a b : FeatureContent) → option_map_or (λ value. has_value number value b) (value_in number a) false ≡ true → Share number a b
shared number a b h = by (value_in number a) refl h
  where
    by : (o : Option AttrValue) → value_in number a ≡ o → option_map_or (λ value. has_value number value b) o false ≡ true → Share number a b
    by None is g = cc
    by (Some value) is g = record { value = value; first = is; second = value-of number value b g }

pub sharing : (number : ℕ) (a b : FeatureContent) → Share number a b → option_map_or (λ value. has_value number value b) (value_in number a) false ≡ true
sharing number a b s = ap (λ o. option_map_or (λ value. has_value number value b) o false) s.first ∙ of-value number s.value b s.second

turned : (number : ℕ) (a b : FeatureContent) → Share number a b → Share number b a
turned number a b s = record { value = s.value; first = s.second; second = s.first }

-- ---- a layer as it was when the rule held, as it is, and as it will be

pub record IsBeside (column : InColumn) (old new : LayerContent) (made : List Slot) : Type 0 where
  pub rising : IsStrictlySortedBy nat_cmp (keys_of column.layer.now.features)
  pub new_rising : IsStrictlySortedBy nat_cmp (keys_of new.features)
  pub stays : (id : ℕ) → feature_of new id ≡ staying column.layer.now column.leaving.now column.place id
  pub kept : (id : ℕ) → list_any (is_of_id column.place id) made ≡ false → feature_of column.layer.now id ≡ feature_of old id

module _ (column : InColumn) (old new : LayerContent) (made : List Slot) (beside : IsBeside column old new made) where
  changed : ℕ → Bool
  changed id = list_any (is_of_id column.place id) made || is_leaving column.leaving.now column.place id

  keeps : (id : ℕ) → changed id ≡ false → feature_of new id ≡ feature_of old id
  unfolding changed
  keeps id h =
      let both = or_false (list_any (is_of_id column.place id) made) (is_leaving column.leaving.now column.place id) h in
      beside.stays id ∙ ap (λ b. let o : Option FeatureContent = if b then None else feature_of column.layer.now id in o) both.1 ∙ beside.kept id both.0

  -- of what stays, a change was made
  made-of : (i : ℕ) (a : FeatureContent) → feature_of new i ≡ Some a → changed i ≡ true → list_any (is_of_id column.place i) made ≡ true
  unfolding changed
  made-of i a stands h = by (or_true (list_any (is_of_id column.place i) made) (is_leaving column.leaving.now column.place i) h)
    where
      by : (list_any (is_of_id column.place i) made ≡ true) ⊎ (is_leaving column.leaving.now column.place i ≡ true) → list_any (is_of_id column.place i) made ≡ true
      by (inl is) = is
      by (inr leaves) =
          let stay = stays-some column.layer.now column.leaving.now column.place i a (sym (beside.stays i) ∙ stands) in
          let wrong : true ≡ false = sym leaves ∙ stay.0 in cc

  -- the breaks of a feature that was changed are looked at
  looked : (demand : Demand) (i : ℕ) (a : FeatureContent) → feature_of new i ≡ Some a → changed i ≡ true → (x : Break) → Contains (values_beside demand column i (value_in column.number a)) x
      → Contains (values_looked_at demand column made) x
  looked demand i a stands is x c =
      let s = of-id-there made column.place i (made-of i a stands is) in
      contains-flat (values_of_slot demand column) made (State column.place i s.0) x s.1
      (subst (λ t. Contains (if t then values_of_some demand column i (staying column.layer.now column.leaving.now column.place i) else []) x) (sym (eq-eqb column.place column.place refl))
      (subst (λ o. Contains (values_of_some demand column i o) x) (sym (sym (beside.stays i) ∙ stands)) c))

  -- what is looked at is a break of a feature that will be there
  record IsOf (demand : Demand) (x : Break) : Type 0 where
    id : ℕ
    feature : FeatureContent
    stands : feature_of new id ≡ Some feature
    of : Contains (values_beside demand column id (value_in column.number feature)) x

  looked-from : (demand : Demand) (x : Break) → Contains (values_looked_at demand column made) x → IsOf demand x
  looked-from demand x c = let s = flat-contains (values_of_slot demand column) made x c in by s.0 s.2
    where
      at : (place id : ℕ) (o : Option FeatureContent) → staying column.layer.now column.leaving.now place id ≡ o → place ≡ column.place → Contains (values_of_some demand column id o) x → IsOf demand x
      at place id None is same d = absurd (none-in x d)
      at place id (Some a) is same d = record {
        id = id;
        feature = a;
        stands = beside.stays id ∙ ap (λ p. staying column.layer.now column.leaving.now p id) (sym same) ∙ is;
        of = d;
      }

      here : (place id : ℕ) (t : Bool) → nat_eq place column.place ≡ t
          → Contains (if t then values_of_some demand column id (staying column.layer.now column.leaving.now place id) else []) x → IsOf demand x
      here place id true is d = at place id (staying column.layer.now column.leaving.now place id) refl (eqb-true place column.place is) d
      here place id false is d = absurd (none-in x d)

      by : (slot : Slot) → Contains (values_of_slot demand column slot) x → IsOf demand x
      by (Counter place next_id) d = absurd (none-in x d)
      by (State place id state) d = here place id (nat_eq place column.place) refl d

  -- ---- two features with one value

  doubles : List Break
  doubles = map pair_break (doubles_found column.number new)

  is-doubled : (i j : ℕ) (a b : FeatureContent) → feature_of new i ≡ Some a → feature_of new j ≡ Some b → nat_lt i j ≡ true → Share column.number a b → Contains doubles (Pair i j)
  unfolding doubles
  is-doubled i j a b stands other less share =
      let p : ℕ × ℕ = (i, j) in
      contains-map pair_break (doubles_found column.number new) p
      (pair-of (is_double column.number) new.features new.features i j
      (record { a = a; b = b; first = stands; second = other; is = and_of (nat_lt i j) (option_map_or (λ value. has_value column.number value b) (value_in column.number a) false) less (sharing column.number a b share) }))

  either : (i j : ℕ) → nat_eq i j ≡ false → nat_lt i j ≡ false → nat_lt j i ≡ true
  either i j apart less = grind (arith, nat_tests)

  doubled : (i j : ℕ) (a b : FeatureContent) → feature_of new i ≡ Some a → feature_of new j ≡ Some b → nat_eq i j ≡ false → Share column.number a b → Contains doubles (double_of i j)
  doubled i j a b stands other apart share = by (nat_lt i j) refl
    where
      by : (t : Bool) → nat_lt i j ≡ t → Contains doubles (if t then Pair i j else Pair j i)
      by true less = is-doubled i j a b stands other less share
      by false less = is-doubled j i b a other stands (either i j apart less) (turned column.number a b share)

  doubles-sound : (x : Break) → Contains (values_looked_at Unique column made) x → Contains doubles x
  doubles-sound x c = let o = looked-from Unique x c in by o.id o.feature o.stands (value_in column.number o.feature) refl o.of
    where
      by : (i : ℕ) (a : FeatureContent) → feature_of new i ≡ Some a → (v : Option AttrValue) → value_in column.number a ≡ v → Contains (doubles_beside column i v) x → Contains doubles x
      by i a stands None is d = absurd (none-in x d)
      by i a stands (Some value) is d =
          let j = map-contains (double_of i) (filter (is_other column i) (ids_with_value column.number value column.layer.now)) x d in
          let kept = filter-contains (is_other column i) (ids_with_value column.number value column.layer.now) j.0 j.1 in
          let other = and_true (not (nat_eq i j.0)) (not (is_leaving column.leaving.now column.place j.0)) kept.1 in
          let found = found-passes (has_value column.number value) column.layer.now.features j.0 beside.rising kept.0 in
          let stays : feature_of new j.0 ≡ Some found.0 =
          beside.stays j.0 ∙ ap (λ b. let o : Option FeatureContent = if b then None else feature_of column.layer.now j.0 in o) (not_back (is_leaving column.leaving.now column.place j.0) other.1) ∙ found.1 in
          subst (Contains doubles) j.2
          (doubled i j.0 a found.0 stands stays (not_back (nat_eq i j.0) other.0)
          (record { value = value; first = is; second = value-of column.number value found.0 found.2 }))

  -- a pair with a feature that was changed
  with-changed : (i j : ℕ) (a b : FeatureContent) → feature_of new i ≡ Some a → feature_of new j ≡ Some b → nat_eq i j ≡ false → Share column.number a b → changed i ≡ true
      → Contains (values_looked_at Unique column made) (double_of i j)
  with-changed i j a b stands other apart share is =
      looked Unique i a stands is (double_of i j)
      (subst (λ v. Contains (doubles_beside column i v) (double_of i j)) (sym share.first)
      (contains-map (double_of i) (filter (is_other column i) (ids_with_value column.number share.value column.layer.now)) j
      (contains-filter (is_other column i) (ids_with_value column.number share.value column.layer.now) j
      (passes-found (has_value column.number share.value) column.layer.now.features j b stay.1 (of-value column.number share.value b share.second))
      (and_of (not (nat_eq i j)) (not (is_leaving column.leaving.now column.place j)) (ap not apart) (ap not stay.0)))))
    where
      stay : (is_leaving column.leaving.now column.place j ≡ false) × (feature_of column.layer.now j ≡ Some b)
      stay = stays-some column.layer.now column.leaving.now column.place j b (sym (beside.stays j) ∙ other)

  doubles-complete : (i j : ℕ) → ArePair (is_double column.number) new.features new.features i j → changed i || changed j ≡ true → Contains (values_looked_at Unique column made) (Pair i j)
  doubles-complete i j p is = by (or_true (changed i) (changed j) is)
    where
      both : (nat_lt i j ≡ true) × (option_map_or (λ value. has_value column.number value p.b) (value_in column.number p.a) false ≡ true)
      both = and_true (nat_lt i j) (option_map_or (λ value. has_value column.number value p.b) (value_in column.number p.a) false) p.is

      share : Share column.number p.a p.b
      share = shared column.number p.a p.b both.1

      apart : (m n : ℕ) → nat_lt m n ≡ true → nat_eq m n ≡ false
      apart m n less = grind (arith, nat_tests)

      apart-back : (m n : ℕ) → nat_lt m n ≡ true → nat_eq n m ≡ false
      apart-back m n less = grind (arith, nat_tests)

      not-less : (m n : ℕ) → nat_lt m n ≡ true → nat_lt n m ≡ false
      not-less m n less = grind (arith, nat_tests)

      by : (changed i ≡ true) ⊎ (changed j ≡ true) → Contains (values_looked_at Unique column made) (Pair i j)
      by (inl here) =
          subst (Contains (values_looked_at Unique column made)) (ap (λ t. let x : Break = if t then Pair i j else Pair j i in x) both.0)
          (with-changed i j p.a p.b p.first p.second (apart i j both.0) share here)
      by (inr here) =
          subst (Contains (values_looked_at Unique column made)) (ap (λ t. let x : Break = if t then Pair j i else Pair i j in x) (not-less i j both.0))
          (with-changed j i p.b p.a p.second p.first (apart-back i j both.0) (turned column.number p.a p.b share) here)

  pub doubles-looked : doubles_found column.number old ≡ [] → least_from None (values_looked_at Unique column made) ≡ first_of (map pair_break (doubles_found column.number new))
  unfolding doubles
  doubles-looked none =
      first-pair (is_double column.number) old.features old.features new.features new.features changed changed (values_looked_at Unique column made) beside.new_rising beside.new_rising keeps keeps none
      doubles-sound doubles-complete

  -- ---- a feature that breaks the rule by itself

  wrongs : Demand → List Break
  wrongs demand = map alone_break (keys_of (filter (has_wrong demand column.number) new.features))

  is-wrong-there : (demand : Demand) (i : ℕ) (a : FeatureContent) → feature_of new i ≡ Some a → is_wrong demand (value_in column.number a) ≡ true → Contains (wrongs demand) (Alone i)
  unfolding wrongs
  is-wrong-there demand i a stands is =
      contains-map alone_break (keys_of (filter (has_wrong demand column.number) new.features)) i
      (contains-map (λ (e : ℕ × FeatureContent). e.0) (filter (has_wrong demand column.number) new.features) (i, a)
      (contains-filter (has_wrong demand column.number) new.features (i, a) (member new.features i a stands) is))

  wrongs-sound : (demand : Demand) → ((i : ℕ) (v : Option AttrValue) → values_beside demand column i v ≡ wrong_by demand i v)
      → (x : Break) → Contains (values_looked_at demand column made) x → Contains (wrongs demand) x
  wrongs-sound demand alone x c =
      let o = looked-from demand x c in
      by o.id o.feature o.stands (is_wrong demand (value_in column.number o.feature)) refl
      (subst (λ bs. Contains bs x) (alone o.id (value_in column.number o.feature)) o.of)
    where
      only : (y : Break) → (y ≡ x) ⊎ Contains [] x → Contains (wrongs demand) y → Contains (wrongs demand) x
      only y (inl same) h = subst (Contains (wrongs demand)) same h
      only y (inr wrong) h = absurd (none-in x wrong)

      by : (i : ℕ) (a : FeatureContent) → feature_of new i ≡ Some a → (t : Bool) → is_wrong demand (value_in column.number a) ≡ t → Contains (if t then Alone i ∷ [] else []) x
          → Contains (wrongs demand) x
      by i a stands true is d = only (Alone i) (contains-cons (Alone i) [] x d) (is-wrong-there demand i a stands is)
      by i a stands false is d = absurd (none-in x d)

  pub wrongs-looked : (demand : Demand) → ((i : ℕ) (v : Option AttrValue) → values_beside demand column i v ≡ wrong_by demand i v)
      → filter (has_wrong demand column.number) old.features ≡ []
      → least_from None (values_looked_at demand column made) ≡ first_of (map alone_break (keys_of (filter (has_wrong demand column.number) new.features)))
  unfolding wrongs
  wrongs-looked demand alone none =
      least-first (values_looked_at demand column made) (wrongs demand)
      (alone-begin (keys_of (filter (has_wrong demand column.number) new.features)) (rising-filter (has_wrong demand column.number) new.features beside.new_rising))
      (wrongs-sound demand alone) from
    where
      by : (i : ℕ) (a : FeatureContent) → feature_of new i ≡ Some a → has_wrong demand column.number (i, a) ≡ true → (t : Bool) → changed i ≡ t → Contains (values_looked_at demand column made) (Alone i)
      by i a stands is true change =
          looked demand i a stands change (Alone i)
          (subst (λ bs. Contains bs (Alone i)) (sym (alone i (value_in column.number a)))
          (subst (λ t. Contains (if t then Alone i ∷ [] else []) (Alone i)) (sym is) (contains-here (Alone i) [])))
      by i a stands is false change =
          let wrong : true ≡ false = sym is ∙ none-passes (has_wrong demand column.number) old.features i a none (sym (keeps i change) ∙ stands) in cc

      from : (x : Break) → Contains (wrongs demand) x → Contains (values_looked_at demand column made) x
      from x c =
          let i = map-contains alone_break (keys_of (filter (has_wrong demand column.number) new.features)) x c in
          let e = map-contains (λ (e : ℕ × FeatureContent). e.0) (filter (has_wrong demand column.number) new.features) i.0 i.1 in
          let kept = filter-contains (has_wrong demand column.number) new.features e.0 e.1 in
          subst (Contains (values_looked_at demand column made)) (ap alone_break e.2 ∙ i.2)
          (by e.0.0 e.0.1 (there new.features e.0 beside.new_rising kept.0) kept.1 (changed e.0.0) refl)

-- ---- the law

no-first : {X : Type 0} (f : X → Break) (xs : List X) → first_of (map f xs) ≡ None → xs ≡ []
no-first f [] h = refl
no-first f (x ∷ xs) h = cc

no-keys : {X : Type 0} (es : List (ℕ × X)) → keys_of es ≡ [] → es ≡ []
no-keys [] h = refl
no-keys (e ∷ es) h = cc

-- ---- each demand

by-itself : (column : InColumn) (old new : LayerContent) (made : List Slot) → IsBeside column old new made → (demand : Demand)
    → ((i : ℕ) (v : Option AttrValue) → values_beside demand column i v ≡ wrong_by demand i v)
    → first_of (map alone_break (keys_of (filter (has_wrong demand column.number) old.features))) ≡ None
    → least_from None (values_looked_at demand column made) ≡ first_of (map alone_break (keys_of (filter (has_wrong demand column.number) new.features)))
by-itself column old new made beside demand alone none =
    wrongs-looked column old new made beside demand alone
    (no-keys (filter (has_wrong demand column.number) old.features) (no-first alone_break (keys_of (filter (has_wrong demand column.number) old.features)) none))

-- where a rule held in the layer as it was, the least break of those that are looked at is the first one of the layer as it will be
near-by : (column : InColumn) (old new : LayerContent) (made : List Slot) → IsBeside column old new made → (demand : Demand) → first_of (breaks_in demand column.number old) ≡ None
    → least_from None (values_looked_at demand column made) ≡ first_of (breaks_in demand column.number new)
near-by column old new made beside Unique none = doubles-looked column old new made beside (no-first pair_break (doubles_found column.number old) none)
near-by column old new made beside Required none = by-itself column old new made beside Required (λ i v. refl) none
near-by column old new made beside (OneOf allowed) none = by-itself column old new made beside (OneOf allowed) (λ i v. refl) none
near-by column old new made beside (InRange range) none = by-itself column old new made beside (InRange range) (λ i v. refl) none

-- what breaks a rule on values in a layer that is there
break-there : (content : Content) (rule : ValueRule) (layer : LayerContent) (column : Column) → layer_of content rule.layer ≡ Some layer → column_named layer rule.column ≡ Some column
    → break_of_values content rule ≡ first_of (breaks_in rule.demand column.number layer)
break-there content rule layer column is there = ap (break_on rule) is ∙ ap (break_in rule.demand layer) there

module _ (old now : Content) (rule : ValueRule) (made leaving : List Slot) (column : InColumn) (comes : ComesOf old now made) (leaves : CanLeave now leaving) (is : IsInColumn now rule leaving column) where
  old-names : keys_of old ≡ keys_of now
  old-names = sym (ap keys_of comes.led ∙ keys-patched old comes.exchanges)

  old-layer : (layer : LayerContent) × (layer_of old rule.layer ≡ Some layer)
  old-layer = layer-there old now rule.layer column.layer.now old-names is.layer

  new-layer : (layer : LayerContent) × (layer_of (patched now leaving) rule.layer ≡ Some layer)
  new-layer = layer-there (patched now leaving) now rule.layer column.layer.now (keys-patched now leaving) is.layer

  new-column : column_named new-layer.0 rule.column ≡ Some is.named
  new-column =
      ap (λ cs. named cs rule.column) (same-columns (patched now leaving) now rule.layer new-layer.0 column.layer.now (order-patched now leaving) new-layer.1 is.layer) ∙ is.there

  now-of-old : layer_of (patched old comes.exchanges) rule.layer ≡ Some column.layer.now
  now-of-old = ap (λ c. layer_of c rule.layer) (sym comes.led) ∙ is.layer

  old-column : column_named old-layer.0 rule.column ≡ Some is.named
  old-column =
      ap (λ cs. named cs rule.column) (sym (same-columns (patched old comes.exchanges) old rule.layer column.layer.now old-layer.0 (order-patched old comes.exchanges) now-of-old old-layer.1)) ∙ is.there

  now-at : layer_at now column.place ≡ Some column.layer.now
  now-at = ap (layer_at now) is.place ∙ layer-at now now rule.layer column.layer.now refl is.layer

  old-at : layer_at old column.place ≡ Some old-layer.0
  old-at = ap (layer_at old) is.place ∙ layer-at old now rule.layer old-layer.0 old-names old-layer.1

  new-at : layer_at (patched now leaving) column.place ≡ Some new-layer.0
  new-at = ap (layer_at (patched now leaving)) is.place ∙ layer-at (patched now leaving) now rule.layer new-layer.0 (keys-patched now leaving) new-layer.1

  beside : IsBeside column old-layer.0 new-layer.0 made
  beside = record {
    rising = (layer-fits now rule.layer column.layer.now is.well_formed is.layer).rising;
    new_rising = (layer-fits (patched now leaving) rule.layer new-layer.0 (IsWellFormed-patched now leaving is.well_formed leaves.fine) new-layer.1).rising;
    stays = λ id. stays-at old now made leaving comes leaves is.well_formed column.place id new-layer.0 column.layer.now new-at now-at
        ∙ ap (λ (slots : List Slot). staying column.layer.now slots column.place id) (sym is.leaves);
    kept = λ id none. kept-at old now made leaving comes leaves is.well_formed column.place id column.layer.now old-layer.0 now-at old-at none;
  }

  -- the least break of those that are looked at is the first one
  pub values-near : break_of_values old rule ≡ None → least_from None (values_looked_at rule.demand column made) ≡ break_of_values (patched now leaving) rule
  values-near held =
      near-by column old-layer.0 new-layer.0 made beside rule.demand (ap (λ n. first_of (breaks_in rule.demand n old-layer.0)) is.number ∙ sym (break-there old rule old-layer.0 is.named old-layer.1 old-column) ∙ held)
      ∙ ap (λ n. first_of (breaks_in rule.demand n new-layer.0)) is.number
      ∙ sym (break-there (patched now leaving) rule new-layer.0 is.named new-layer.1 new-column)

-- a rule whose layer or column is not there
pub values-missing-near : (now : Content) (rule : ValueRule) (leaving : List Slot) → IsInLayerOrMissing rule (layer_of now rule.layer) → break_of_values (patched now leaving) rule ≡ None
values-missing-near now rule leaving missing = by (layer_of now rule.layer) refl missing
  where
    by : (o : Option LayerContent) → layer_of now rule.layer ≡ o → IsInLayerOrMissing rule o → break_of_values (patched now leaving) rule ≡ None
    by None is h = ap (break_on rule) (layer-missing (patched now leaving) now rule.layer (keys-patched now leaving) is)
    by (Some layer) is h =
        let new = layer-there (patched now leaving) now rule.layer layer (keys-patched now leaving) is in
        ap (break_on rule) new.1
        ∙ ap (break_in rule.demand new.0) (ap (λ cs. named cs rule.column) (same-columns (patched now leaving) now rule.layer new.0 layer (order-patched now leaving) new.1 is) ∙ h)

-- ---- after one feature was changed

same-names : (c d : Content) → HaveOneOrder c d → keys_of c ≡ keys_of d
same-names [] [] h = refl
same-names [] (y ∷ d) h = absurd h
same-names (x ∷ c) [] h = absurd h
same-names (x ∷ c) (y ∷ d) h = ap (λ k. k ∷ keys_of c) h.0 ∙ ap (λ ks. y.0 ∷ ks) (same-names c d h.2)

in-layer : (content : Content) (name : List ℕ) (layer : LayerContent) (id : ℕ) → layer_of content name ≡ Some layer → feature_in content name id ≡ feature_of layer id
in-layer content name layer id is = ap (option_and_then (λ l. feature_of l id)) is

and_second : (a b : Bool) → b ≡ false → a && b ≡ false
and_second true b h = h
and_second false b h = refl

or_left : (b : Bool) → b || false ≡ false → b ≡ false
or_left true h = cc
or_left false h = refl

module _ (old now : Content) (rule : ValueRule) (name : List ℕ) (id : ℕ) (column : InColumn) (differs : DiffersAt name id old now) (is : IsInColumn now rule [] column) where
  layer-before : (layer : LayerContent) × (layer_of old rule.layer ≡ Some layer)
  layer-before = layer-there old now rule.layer column.layer.now (same-names old now differs.order) is.layer

  column-before : column_named layer-before.0 rule.column ≡ Some is.named
  column-before = ap (λ cs. named cs rule.column) (same-columns old now rule.layer layer-before.0 column.layer.now differs.order layer-before.1 is.layer) ∙ is.there

  kept-there : (j : ℕ) → bytes_eq name rule.layer && nat_eq id j ≡ false → feature_of column.layer.now j ≡ feature_of layer-before.0 j
  kept-there j apart = sym (in-layer now rule.layer column.layer.now j is.layer) ∙ differs.features rule.layer j apart ∙ in-layer old rule.layer layer-before.0 j layer-before.1

  beside-of : (made : List Slot) → ((j : ℕ) → list_any (is_of_id column.place j) made ≡ false → bytes_eq name rule.layer && nat_eq id j ≡ false)
      → IsBeside column layer-before.0 column.layer.now made
  beside-of made apart = record {
    rising = (layer-fits now rule.layer column.layer.now is.well_formed is.layer).rising;
    new_rising = (layer-fits now rule.layer column.layer.now is.well_formed is.layer).rising;
    stays = λ j. ap (λ (slots : List Slot). staying column.layer.now slots column.place j) (sym is.leaves);
    kept = λ j none. kept-there j (apart j none);
  }

  first-now : first_of (breaks_in rule.demand column.number column.layer.now) ≡ break_of_values now rule
  first-now = ap (λ n. first_of (breaks_in rule.demand n column.layer.now)) is.number ∙ sym (break-there now rule column.layer.now is.named is.layer is.there)

  held-there : break_of_values old rule ≡ None → first_of (breaks_in rule.demand column.number layer-before.0) ≡ None
  held-there held = ap (λ n. first_of (breaks_in rule.demand n layer-before.0)) is.number ∙ sym (break-there old rule layer-before.0 is.named layer-before.1 column-before) ∙ held

  -- a rule of another layer holds still
  pub values-elsewhere : bytes_eq name rule.layer ≡ false → break_of_values old rule ≡ None → break_of_values now rule ≡ None
  values-elsewhere apart held =
      sym first-now
      ∙ sym (near-by column layer-before.0 column.layer.now [] (beside-of [] (λ j none. ap (λ b. b && nat_eq id j) apart)) rule.demand (held-there held))

  -- the least break with the feature is the first one
  pub values-at-one : break_of_values old rule ≡ None → least_from None (values_at rule.demand column column.place id) ≡ break_of_values now rule
  values-at-one held =
      ap (least_from None) (sym (append-nil (values_at rule.demand column column.place id)))
      ∙ near-by column layer-before.0 column.layer.now (State column.place id None ∷ [])
      (beside-of (State column.place id None ∷ [])
      (λ j none. and_second (bytes_eq name rule.layer) (nat_eq id j) (sym (ap (λ b. b && nat_eq id j) (eq-eqb column.place column.place refl)) ∙ or_left (nat_eq column.place column.place && nat_eq id j) none))) rule.demand (held-there held)
      ∙ first-now

-- ---- of all features

pub all-wrong : (demand : Demand) (number : ℕ) (es : List (ℕ × FeatureContent)) → flat_map (wrong_of_entry demand number) es ≡ map alone_break (keys_of (filter (has_wrong demand number) es))
all-wrong demand number [] = refl
all-wrong demand number (e ∷ es) = by (is_wrong demand (value_in number e.1)) (all-wrong demand number es)
  where
    rest : List (ℕ × FeatureContent)
    rest = filter (has_wrong demand number) es

    by : (t : Bool) → flat_map (wrong_of_entry demand number) es ≡ map alone_break (keys_of rest)
        → (if t then Alone e.0 ∷ [] else []) ++ flat_map (wrong_of_entry demand number) es ≡ map alone_break (keys_of (cond t (e ∷ rest) rest))
    by true h = ap (λ bs. Alone e.0 ∷ bs) h
    by false h = h

-- the first of them is what breaks the rule first
pub whole-values : (content : Content) (rule : ValueRule) (leaving : List Slot) (column : InColumn) → IsInColumn content rule leaving column
    → first_of (breaks_in rule.demand column.number column.layer.now) ≡ break_of_values content rule
whole-values content rule leaving column is =
    ap (λ n. first_of (breaks_in rule.demand n column.layer.now)) is.number ∙ sym (break-there content rule column.layer.now is.named is.layer is.there)

pub whole-values-missing : (content : Content) (rule : ValueRule) → IsInLayerOrMissing rule (layer_of content rule.layer) → break_of_values content rule ≡ None
whole-values-missing content rule missing = by (layer_of content rule.layer) missing
  where
    by : (o : Option LayerContent) → IsInLayerOrMissing rule o → break_on rule o ≡ None
    by None h = refl
    by (Some layer) h = ap (break_in rule.demand layer) h

-- ---- a loop

-- what a call finds of an entry
pub of-entry : (demand : Demand) (number : ℕ) (e : ℕ × FeatureContent) (value : Option AttrValue) (found : Option Break) → value ≡ value_in number e.1
    → found ≡ first_of (wrong_by demand e.0 value) → found ≡ first_of (wrong_of_entry demand number e)
of-entry demand number e value found is h = h ∙ ap (λ v. first_of (wrong_by demand e.0 v)) is
