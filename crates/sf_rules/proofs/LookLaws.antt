-- What is looked at after a change has the first break, if there is one.
use Rattle.std.proofs.Common.{◌≡◌, ◌∙◌, ◌⊎◌, inl, inr, ℕ, Bool, true, false, cond, not, ◌&&◌, ◌||◌, List, [], ◌∷◌, map, flat_map, filter, Option, None, Some, nat_eq, refl, ap, sym, subst, arith}
use Rattle.std.specs.Prelude.{if◌then◌else◌}
use Rattle.std.specs.List.{Contains, list_any}
use Rattle.std.specs.List.Sorted.{IsStrictlySortedBy}
use Rattle.std.specs.Map.{keys_of}
use Rattle.std.specs.Ordering.{nat_cmp}
use Rattle.std.proofs.lemmas.Bool.{eq-eqb, eqb-true}
use Rattle.std.proofs.lemmas.List.Elements.{Contains-append_cases, Contains-append_left, Contains-append_right}
use Rattle.sf_patches.specs.declared.slot.Slot.{Slot}
use Rattle.sf_patches.specs.declared.slot.Slot.TheVariants.{Counter, State}
use Rattle.sf_rules.specs.declared.between.Between.{Between}
use Rattle.sf_geometry.specs.declared.geometry.Geometry.{Geometry}
use Rattle.sf_features.specs.Features.{FeatureContent}
use Rattle.sf_layers.specs.Content.{LayerContent, feature_of}
use Rattle.sf_patches.specs.Merged.{is_of_id}
use Rattle.sf_joins.specs.Joins.{are_distinct, is_pair, pairs_found}
use Rattle.sf_joins.specs.Passed.{are_asked}
use Rattle.sf_joins.specs.Converse.{IsPairAsk, converse_pair}
use Rattle.sf_joins.proofs.ConverseLaws.{pairs-turn-round}
use Rattle.sf_rules.specs.declared.breaks.Break.{Break}
use Rattle.sf_rules.specs.declared.breaks.Break.TheVariants.{Pair, Alone}
use Rattle.sf_rules.specs.Breaks.{least_from}
use Rattle.sf_rules.specs.Rules.{alone_break, first_of, pair_break}
use Rattle.sf_rules.specs.Looks.{alone_at, alone_beside, alone_first, alone_if, alone_looked_at, alone_of_leaving, alone_of_slot, alone_second, has_partner, is_partner, is_partnered, pairs_beside, pairs_beside_some, pairs_first, pairs_looked_at, pairs_of_slot, pairs_second, pairs_with, pairs_with_some, partnered, partners, staying}
use Rattle.sf_rules.specs.Leaving.{is_leaving}
use Rattle.sf_joins.proofs.Passed.{found-passes, passes-found}
use Rattle.sf_joins.proofs.PairLaws.{contains-cons, contains-filter, contains-flat, contains-here, contains-map, filter-contains, flat-contains, map-contains}
use Rattle.sf_rules.proofs.EntryLaws.{ArePair, alone-of, alone_of, any-found, any-of, lacks, pair-of, pairs_of}
use Rattle.sf_rules.proofs.ChangeLaws.{first-alone, first-pair}
use Rattle.sf_rules.proofs.SlotLaws.{of-id-there}

-- two layers as they were when a rule held, as they are, and as they will be
pub record IsAround (between : Between) (old olds new news : LayerContent) (made : List Slot) : Type 0 where
  pub askable : IsPairAsk between.ask
  pub turned : between.converse ≡ converse_pair between.ask
  pub rising : IsStrictlySortedBy nat_cmp (keys_of between.first.now.features)
  pub risings : IsStrictlySortedBy nat_cmp (keys_of between.second.now.features)
  pub new_rising : IsStrictlySortedBy nat_cmp (keys_of new.features)
  pub new_risings : IsStrictlySortedBy nat_cmp (keys_of news.features)
  pub old_risings : IsStrictlySortedBy nat_cmp (keys_of olds.features)
  pub stays : (id : ℕ) → feature_of new id ≡ staying between.first.now between.leaving.now between.first_place id
  pub stays_second : (id : ℕ) → feature_of news id ≡ staying between.second.now between.leaving.now between.second_place id
  pub kept : (id : ℕ) → list_any (is_of_id between.first_place id) made ≡ false → feature_of between.first.now id ≡ feature_of old id
  pub kept_second : (id : ℕ) → list_any (is_of_id between.second_place id) made ≡ false → feature_of between.second.now id ≡ feature_of olds id
  pub recorded : (id : ℕ) → (feature_of between.second.now id ≡ feature_of olds id) ⊎ Contains made (State between.second_place id (feature_of olds id))

-- ---- small facts

none-in : {X : Type 0} (x : X) → Contains [] x → ⊥
none-in x c = absurd (omega (arith, c.1))

and_true : (a b : Bool) → a && b ≡ true → (a ≡ true) × (b ≡ true)
and_true true true h = (refl, refl)
and_true true false h = cc
and_true false b h = cc

and_of : (a b : Bool) → a ≡ true → b ≡ true → a && b ≡ true
and_of true b h k = k
and_of false b h k = cc

or_false : (a b : Bool) → a || b ≡ false → (a ≡ false) × (b ≡ false)
or_false true b h = cc
or_false false b h = (refl, h)

or_true : (a b : Bool) → a || b ≡ true → (a ≡ true) ⊎ (b ≡ true)
or_true true b h = inl refl
or_true false b h = inr h

not_of : (b : Bool) → b ≡ false → not b ≡ true
not_of b h = ap not h

not_back : (b : Bool) → not b ≡ true → b ≡ false
not_back true h = cc
not_back false h = refl

-- a list has one that passes just where some is kept
some-in : (p : ℕ → Bool) (xs : List ℕ) → list_any p xs ≡ true → (x : ℕ) × Contains (filter p xs) x
some-in p [] h = cc
some-in p (x ∷ xs) h = at (p x) h (λ rest. some-in p xs rest)
  where
    at : (t : Bool) → t || list_any p xs ≡ true → (list_any p xs ≡ true → (y : ℕ) × Contains (filter p xs) y) → (y : ℕ) × Contains (cond t (x ∷ filter p xs) (filter p xs)) y
    at true g later = (x, contains-here x (filter p xs))
    at false g later = later g

in-some : (p : ℕ → Bool) (xs : List ℕ) (x : ℕ) → Contains (filter p xs) x → list_any p xs ≡ true
in-some p [] x c = absurd (none-in x c)
in-some p (y ∷ ys) x c = at (p y) c (λ d. in-some p ys x d)
  where
    at : (t : Bool) → Contains (cond t (y ∷ filter p ys) (filter p ys)) x → (Contains (filter p ys) x → list_any p ys ≡ true) → t || list_any p ys ≡ true
    at true d later = refl
    at false d later = later d

-- what stays stands there, and does not leave
stays-some : (layer : LayerContent) (leaving : List Slot) (place id : ℕ) (feature : FeatureContent) → staying layer leaving place id ≡ Some feature
    → (is_leaving leaving place id ≡ false) × (feature_of layer id ≡ Some feature)
stays-some layer leaving place id feature h = by (is_leaving leaving place id) refl h
  where
    by : (b : Bool) → is_leaving leaving place id ≡ b → (if b then None else feature_of layer id) ≡ Some feature → (is_leaving leaving place id ≡ false) × (feature_of layer id ≡ Some feature)
    by true is g = cc
    by false is g = (is, g)

stays-there : (layer : LayerContent) (leaving : List Slot) (place id : ℕ) (feature : FeatureContent) → is_leaving leaving place id ≡ false → feature_of layer id ≡ Some feature
    → staying layer leaving place id ≡ Some feature
stays-there layer leaving place id feature is found = ap (λ b. let o : Option FeatureContent = if b then None else feature_of layer id in o) is ∙ found

module _ (between : Between) (old olds new news : LayerContent) (made : List Slot) (around : IsAround between old olds new news made) where
  pair : ℕ × FeatureContent → ℕ × FeatureContent → Bool
  pair = is_pair between.one between.ask

  turn : (a b : Geometry) → are_asked between.ask a b ≡ are_asked between.converse b a
  turn a b = pairs-turn-round between.ask a b around.askable ∙ ap (λ ask. are_asked ask b a) (sym around.turned)

  -- ---- partners of a feature of the first layer

  partner-in : (i j : ℕ) (a b : FeatureContent) → feature_of news j ≡ Some b → is_pair between.one between.ask (i, a) (j, b) ≡ true
      → Contains (filter (is_partner between i) (partners between a.geometry)) j
  partner-in i j a b there is =
      let stay = stays-some between.second.now between.leaving.now between.second_place j b (sym (around.stays_second j) ∙ there) in
      let both = and_true (are_distinct between.one i j) (are_asked between.ask a.geometry b.geometry) is in
      contains-filter (is_partner between i) (partners between a.geometry) j
      (passes-found (λ f. are_asked between.converse f.geometry a.geometry) between.second.now.features j b stay.1 (sym (turn a.geometry b.geometry) ∙ both.1))
      (and_of (are_distinct between.one i j) (not (is_leaving between.leaving.now between.second_place j)) both.0 (not_of (is_leaving between.leaving.now between.second_place j) stay.0))

  partner-from : (i j : ℕ) (a : FeatureContent) → Contains (filter (is_partner between i) (partners between a.geometry)) j
      → (b : FeatureContent) × (feature_of news j ≡ Some b) × (is_pair between.one between.ask (i, a) (j, b) ≡ true)
  partner-from i j a c =
      let kept = filter-contains (is_partner between i) (partners between a.geometry) j c in
      let found = found-passes (λ f. are_asked between.converse f.geometry a.geometry) between.second.now.features j around.risings kept.0 in
      let both = and_true (are_distinct between.one i j) (not (is_leaving between.leaving.now between.second_place j)) kept.1 in (
        found.0,
        around.stays_second j ∙ stays-there between.second.now between.leaving.now between.second_place j found.0 (not_back (is_leaving between.leaving.now between.second_place j) both.1) found.1,
        and_of (are_distinct between.one i j) (are_asked between.ask a.geometry found.0.geometry) both.0 (turn a.geometry found.0.geometry ∙ found.2),
      )

  -- ---- and of one of the second

  partnered-in : (i j : ℕ) (a b : FeatureContent) → feature_of new i ≡ Some a → is_pair between.one between.ask (i, a) (j, b) ≡ true
      → Contains (filter (is_partnered between j) (partnered between b.geometry)) i
  partnered-in i j a b there is =
      let stay = stays-some between.first.now between.leaving.now between.first_place i a (sym (around.stays i) ∙ there) in
      let both = and_true (are_distinct between.one i j) (are_asked between.ask a.geometry b.geometry) is in
      contains-filter (is_partnered between j) (partnered between b.geometry) i
      (passes-found (λ f. are_asked between.ask f.geometry b.geometry) between.first.now.features i a stay.1 both.1)
      (and_of (are_distinct between.one i j) (not (is_leaving between.leaving.now between.first_place i)) both.0 (not_of (is_leaving between.leaving.now between.first_place i) stay.0))

  partnered-from : (i j : ℕ) (b : FeatureContent) → Contains (filter (is_partnered between j) (partnered between b.geometry)) i
      → (a : FeatureContent) × (feature_of new i ≡ Some a) × (is_pair between.one between.ask (i, a) (j, b) ≡ true)
  partnered-from i j b c =
      let kept = filter-contains (is_partnered between j) (partnered between b.geometry) i c in
      let found = found-passes (λ f. are_asked between.ask f.geometry b.geometry) between.first.now.features i around.rising kept.0 in
      let both = and_true (are_distinct between.one i j) (not (is_leaving between.leaving.now between.first_place i)) kept.1 in (
        found.0,
        around.stays i ∙ stays-there between.first.now between.leaving.now between.first_place i found.0 (not_back (is_leaving between.leaving.now between.first_place i) both.1) found.1,
        and_of (are_distinct between.one i j) (are_asked between.ask found.0.geometry b.geometry) both.0 found.2,
      )

  -- ---- what is changed

  changed : ℕ → ℕ → Bool
  changed place id = list_any (is_of_id place id) made || is_leaving between.leaving.now place id

  keeps : (id : ℕ) → changed between.first_place id ≡ false → feature_of new id ≡ feature_of old id
  unfolding changed
  keeps id h =
      let both = or_false (list_any (is_of_id between.first_place id) made) (is_leaving between.leaving.now between.first_place id) h in
      around.stays id ∙ ap (λ b. let o : Option FeatureContent = if b then None else feature_of between.first.now id in o) both.1 ∙ around.kept id both.0

  keeps-second : (id : ℕ) → changed between.second_place id ≡ false → feature_of news id ≡ feature_of olds id
  unfolding changed
  keeps-second id h =
      let both = or_false (list_any (is_of_id between.second_place id) made) (is_leaving between.leaving.now between.second_place id) h in
      around.stays_second id ∙ ap (λ b. let o : Option FeatureContent = if b then None else feature_of between.second.now id in o) both.1 ∙ around.kept_second id both.0

  -- of what stays, a change was made
  made-first : (i : ℕ) (a : FeatureContent) → feature_of new i ≡ Some a → changed between.first_place i ≡ true → list_any (is_of_id between.first_place i) made ≡ true
  unfolding changed
  made-first i a there h =
      by (or_true (list_any (is_of_id between.first_place i) made) (is_leaving between.leaving.now between.first_place i) h)
    where
      by : (list_any (is_of_id between.first_place i) made ≡ true) ⊎ (is_leaving between.leaving.now between.first_place i ≡ true) → list_any (is_of_id between.first_place i) made ≡ true
      by (inl is) = is
      by (inr leaves) =
          let stay = stays-some between.first.now between.leaving.now between.first_place i a (sym (around.stays i) ∙ there) in
          let wrong : true ≡ false = sym leaves ∙ stay.0 in cc

  made-second : (j : ℕ) (b : FeatureContent) → feature_of news j ≡ Some b → changed between.second_place j ≡ true → list_any (is_of_id between.second_place j) made ≡ true
  unfolding changed
  made-second j b there h =
      by (or_true (list_any (is_of_id between.second_place j) made) (is_leaving between.leaving.now between.second_place j) h)
    where
      by : (list_any (is_of_id between.second_place j) made ≡ true) ⊎ (is_leaving between.leaving.now between.second_place j ≡ true) → list_any (is_of_id between.second_place j) made ≡ true
      by (inl is) = is
      by (inr leaves) =
          let stay = stays-some between.second.now between.leaving.now between.second_place j b (sym (around.stays_second j) ∙ there) in
          let wrong : true ≡ false = sym leaves ∙ stay.0 in cc

  -- ---- pairs that are looked at

  breaks : List Break
  breaks = map pair_break (pairs_of (is_pair between.one between.ask) new.features news.features)

  is-break : (i j : ℕ) (a b : FeatureContent) → feature_of new i ≡ Some a → feature_of news j ≡ Some b → is_pair between.one between.ask (i, a) (j, b) ≡ true → Contains breaks (Pair i j)
  unfolding breaks
  is-break i j a b there theres is =
      let p : ℕ × ℕ = (i, j) in
      contains-map pair_break (pairs_of (is_pair between.one between.ask) new.features news.features) p
      (pair-of (is_pair between.one between.ask) new.features news.features i j (record { a = a; b = b; first = there; second = theres; is = is }))

  sound-first : (place id : ℕ) (x : Break) → Contains (pairs_first between place id) x → Contains breaks x
  sound-first place id x c = by (nat_eq place between.first_place) refl c
    where
      at : (o : Option FeatureContent) → staying between.first.now between.leaving.now place id ≡ o → place ≡ between.first_place → Contains (pairs_with_some between id o) x → Contains breaks x
      at None is same d = absurd (none-in x d)
      at (Some a) is same d =
          let j = map-contains (λ j. Pair id j) (filter (is_partner between id) (partners between a.geometry)) x d in
          let b = partner-from id j.0 a j.1 in
          subst (Contains breaks) j.2
          (is-break id j.0 a b.0 (around.stays id ∙ ap (λ p. staying between.first.now between.leaving.now p id) (sym same) ∙ is) b.1 b.2)

      by : (t : Bool) → nat_eq place between.first_place ≡ t
          → Contains (if t then pairs_with_some between id (staying between.first.now between.leaving.now place id) else []) x → Contains breaks x
      by true is d = at (staying between.first.now between.leaving.now place id) refl (eqb-true place between.first_place is) d
      by false is d = absurd (none-in x d)

  sound-second : (place id : ℕ) (x : Break) → Contains (pairs_second between place id) x → Contains breaks x
  sound-second place id x c = by (nat_eq place between.second_place) refl c
    where
      at : (o : Option FeatureContent) → staying between.second.now between.leaving.now place id ≡ o → place ≡ between.second_place → Contains (pairs_beside_some between id o) x → Contains breaks x
      at None is same d = absurd (none-in x d)
      at (Some b) is same d =
          let i = map-contains (λ i. Pair i id) (filter (is_partnered between id) (partnered between b.geometry)) x d in
          let a = partnered-from i.0 id b i.1 in
          subst (Contains breaks) i.2
          (is-break i.0 id a.0 b a.1 (around.stays_second id ∙ ap (λ p. staying between.second.now between.leaving.now p id) (sym same) ∙ is) a.2)

      by : (t : Bool) → nat_eq place between.second_place ≡ t
          → Contains (if t then pairs_beside_some between id (staying between.second.now between.leaving.now place id) else []) x → Contains breaks x
      by true is d = at (staying between.second.now between.leaving.now place id) refl (eqb-true place between.second_place is) d
      by false is d = absurd (none-in x d)

  sound : (x : Break) → Contains (pairs_looked_at between made) x → Contains breaks x
  sound x c = let s = flat-contains (pairs_of_slot between) made x c in by s.0 s.2
    where
      cases : (place id : ℕ) → Contains (pairs_first between place id) x ⊎ Contains (pairs_second between place id) x → Contains breaks x
      cases place id (inl d) = sound-first place id x d
      cases place id (inr d) = sound-second place id x d

      by : (slot : Slot) → Contains (pairs_of_slot between slot) x → Contains breaks x
      by (Counter place next_id) d = absurd (none-in x d)
      by (State place id state) d = cases place id (Contains-append_cases (pairs_first between place id) (pairs_second between place id) x d)

  first-there : (i : ℕ) (a : FeatureContent) → feature_of new i ≡ Some a → (x : Break) → Contains (pairs_with between i a.geometry) x → Contains (pairs_first between between.first_place i) x
  first-there i a there x c =
      subst (λ t. Contains (if t then pairs_with_some between i (staying between.first.now between.leaving.now between.first_place i) else []) x)
      (sym (eq-eqb between.first_place between.first_place refl))
      (subst (λ o. Contains (pairs_with_some between i o) x) (sym (sym (around.stays i) ∙ there)) c)

  second-there : (j : ℕ) (b : FeatureContent) → feature_of news j ≡ Some b → (x : Break) → Contains (pairs_beside between j b.geometry) x → Contains (pairs_second between between.second_place j) x
  second-there j b there x c =
      subst (λ t. Contains (if t then pairs_beside_some between j (staying between.second.now between.leaving.now between.second_place j) else []) x)
      (sym (eq-eqb between.second_place between.second_place refl))
      (subst (λ o. Contains (pairs_beside_some between j o) x) (sym (sym (around.stays_second j) ∙ there)) c)

  complete : (i j : ℕ) → ArePair (is_pair between.one between.ask) new.features news.features i j → changed between.first_place i || changed between.second_place j ≡ true
      → Contains (pairs_looked_at between made) (Pair i j)
  complete i j p h = by (or_true (changed between.first_place i) (changed between.second_place j) h)
    where
      by : (changed between.first_place i ≡ true) ⊎ (changed between.second_place j ≡ true) → Contains (pairs_looked_at between made) (Pair i j)
      by (inl is) =
          let s = of-id-there made between.first_place i (made-first i p.a p.first is) in
          contains-flat (pairs_of_slot between) made (State between.first_place i s.0) (Pair i j) s.1
          (Contains-append_left (pairs_first between between.first_place i) (pairs_second between between.first_place i) (Pair i j)
          (first-there i p.a p.first (Pair i j)
          (contains-map (λ k. Pair i k) (filter (is_partner between i) (partners between p.a.geometry)) j (partner-in i j p.a p.b p.second p.is))))
      by (inr is) =
          let s = of-id-there made between.second_place j (made-second j p.b p.second is) in
          contains-flat (pairs_of_slot between) made (State between.second_place j s.0) (Pair i j) s.1
          (Contains-append_right (pairs_first between between.second_place j) (pairs_second between between.second_place j) (Pair i j)
          (second-there j p.b p.second (Pair i j)
          (contains-map (λ k. Pair k j) (filter (is_partnered between j) (partnered between p.b.geometry)) i (partnered-in i j p.a p.b p.first p.is))))

  -- the first pair is the least of those that are looked at
  pub pairs-looked : pairs_found between.one old between.ask olds ≡ [] → least_from None (pairs_looked_at between made) ≡ first_of (map pair_break (pairs_found between.one new between.ask news))
  unfolding breaks
  pairs-looked none =
      first-pair (is_pair between.one between.ask) old.features olds.features new.features news.features (changed between.first_place) (changed between.second_place) (pairs_looked_at between made)
      around.new_rising around.new_risings keeps keeps-second none sound complete

  -- ---- features without a partner

  -- a feature will have a partner just where it has one in what will be
  pub partner-any : (i : ℕ) (a : FeatureContent) → has_partner between i a.geometry ≡ list_any (is_pair between.one between.ask (i, a)) news.features
  partner-any i a = by (has_partner between i a.geometry) refl (list_any (is_pair between.one between.ask (i, a)) news.features) refl
    where
      by : (s : Bool) → has_partner between i a.geometry ≡ s → (t : Bool) → list_any (is_pair between.one between.ask (i, a)) news.features ≡ t → s ≡ t
      by true is true js = refl
      by false is false js = refl
      by true is false js =
          let j = some-in (is_partner between i) (partners between a.geometry) is in
          let b = partner-from i j.0 a j.1 in
          let wrong : true ≡ false = sym (any-of (is_pair between.one between.ask (i, a)) news.features j.0 b.0 b.1 b.2) ∙ js in cc
      by false is true js =
          let f = any-found (is_pair between.one between.ask (i, a)) news.features around.new_risings js in
          let wrong : true ≡ false = sym (in-some (is_partner between i) (partners between a.geometry) f.key (partner-in i f.key a f.value f.found f.passes)) ∙ is in cc

  alone : List Break
  alone = map alone_break (alone_of (is_pair between.one between.ask) new.features news.features)

  alone-sound : (i : ℕ) (x : Break) → Contains (alone_at between i) x → Contains alone x
  unfolding alone
  alone-sound i x c = by (staying between.first.now between.leaving.now between.first_place i) refl c
    where
      is-alone : (a : FeatureContent) → feature_of new i ≡ Some a → has_partner between i a.geometry ≡ false → Contains alone (Alone i)
      is-alone a there none =
          contains-map alone_break (alone_of (is_pair between.one between.ask) new.features news.features) i
          (alone-of (is_pair between.one between.ask) new.features news.features i a there
          (not_of (list_any (is_pair between.one between.ask (i, a)) news.features) (sym (partner-any i a) ∙ none)))

      only : (y : Break) → Contains (y ∷ []) x → Contains alone y → Contains alone x
      only y d there = same (contains-cons y [] x d)
        where
          same : (y ≡ x) ⊎ Contains [] x → Contains alone x
          same (inl is) = subst (Contains alone) is there
          same (inr wrong) = absurd (none-in x wrong)

      at : (a : FeatureContent) → feature_of new i ≡ Some a → (t : Bool) → has_partner between i a.geometry ≡ t → Contains (if t then [] else Alone i ∷ []) x → Contains alone x
      at a there true is d = absurd (none-in x d)
      at a there false is d = only (Alone i) d (is-alone a there is)

      by : (o : Option FeatureContent) → staying between.first.now between.leaving.now between.first_place i ≡ o → Contains (alone_if between i o) x → Contains alone x
      by None is d = absurd (none-in x d)
      by (Some a) is d = at a (around.stays i ∙ is) (has_partner between i a.geometry) refl d

  beside-sound : (o : Option FeatureContent) (x : Break) → Contains (alone_beside between o) x → Contains alone x
  beside-sound None x c = absurd (none-in x c)
  beside-sound (Some f) x c = let i = flat-contains (alone_at between) (partnered between f.geometry) x c in alone-sound i.0 x i.2

  second-sound : (place : ℕ) (o : Option FeatureContent) (x : Break) → Contains (alone_second between place o) x → Contains alone x
  second-sound place o x c = by (nat_eq place between.second_place) c
    where
      by : (t : Bool) → Contains (if t then alone_beside between o else []) x → Contains alone x
      by true d = beside-sound o x d
      by false d = absurd (none-in x d)

  all-sound : (x : Break) → Contains (alone_looked_at between made) x → Contains alone x
  all-sound x c = cases (Contains-append_cases (flat_map (alone_of_slot between) made) (flat_map (alone_of_leaving between) between.leaving.now) x c)
    where
      first : (place id : ℕ) → Contains (alone_first between place id) x → Contains alone x
      first place id d = at (nat_eq place between.first_place) d
        where
          at : (t : Bool) → Contains (if t then alone_at between id else []) x → Contains alone x
          at true e = alone-sound id x e
          at false e = absurd (none-in x e)

      of_slot : (slot : Slot) → Contains (alone_of_slot between slot) x → Contains alone x
      of_slot (Counter place next_id) d = absurd (none-in x d)
      of_slot (State place id state) d = parts (Contains-append_cases (alone_first between place id) (alone_second between place state) x d)
        where
          parts : Contains (alone_first between place id) x ⊎ Contains (alone_second between place state) x → Contains alone x
          parts (inl e) = first place id e
          parts (inr e) = second-sound place state x e

      of_leaving : (slot : Slot) → Contains (alone_of_leaving between slot) x → Contains alone x
      of_leaving (Counter place next_id) d = absurd (none-in x d)
      of_leaving (State place id state) d = second-sound place (feature_of between.second.now id) x d

      cases : Contains (flat_map (alone_of_slot between) made) x ⊎ Contains (flat_map (alone_of_leaving between) between.leaving.now) x → Contains alone x
      cases (inl d) = let s = flat-contains (alone_of_slot between) made x d in of_slot s.0 s.2
      cases (inr d) = let s = flat-contains (alone_of_leaving between) between.leaving.now x d in of_leaving s.0 s.2

  -- a feature that will have no partner is its own break
  at-alone : (i : ℕ) (a : FeatureContent) → feature_of new i ≡ Some a → lacks (is_pair between.one between.ask) news.features (i, a) ≡ true → Contains (alone_at between i) (Alone i)
  at-alone i a there lacking =
      subst (λ o. Contains (alone_if between i o) (Alone i)) (sym (sym (around.stays i) ∙ there))
      (subst (λ t. Contains (if t then [] else Alone i ∷ []) (Alone i))
      (sym (partner-any i a ∙ not_back (list_any (is_pair between.one between.ask (i, a)) news.features) lacking)) (contains-here (Alone i) []))

  -- and is looked at, where it is changed itself
  changed-looked : (i : ℕ) (a : FeatureContent) → feature_of new i ≡ Some a → lacks (is_pair between.one between.ask) news.features (i, a) ≡ true → changed between.first_place i ≡ true
      → Contains (alone_looked_at between made) (Alone i)
  changed-looked i a there lacking is =
      let s = of-id-there made between.first_place i (made-first i a there is) in
      Contains-append_left (flat_map (alone_of_slot between) made) (flat_map (alone_of_leaving between) between.leaving.now) (Alone i)
      (contains-flat (alone_of_slot between) made (State between.first_place i s.0) (Alone i) s.1
      (Contains-append_left (alone_first between between.first_place i) (alone_second between between.first_place s.0) (Alone i)
      (subst (λ t. Contains (if t then alone_at between i else []) (Alone i)) (sym (eq-eqb between.first_place between.first_place refl)) (at-alone i a there lacking))))

  -- beside a feature that it was as asked with
  beside-looked : (i : ℕ) (a b : FeatureContent) (j : ℕ) → feature_of new i ≡ Some a → lacks (is_pair between.one between.ask) news.features (i, a) ≡ true
      → is_pair between.one between.ask (i, a) (j, b) ≡ true → (o : Option FeatureContent) → o ≡ Some b → Contains (alone_second between between.second_place o) (Alone i)
  beside-looked i a b j there lacking is o o_is =
      let both = and_true (are_distinct between.one i j) (are_asked between.ask a.geometry b.geometry) is in
      let stay = stays-some between.first.now between.leaving.now between.first_place i a (sym (around.stays i) ∙ there) in
      subst (λ t. Contains (if t then alone_beside between o else []) (Alone i)) (sym (eq-eqb between.second_place between.second_place refl))
      (subst (λ p. Contains (alone_beside between p) (Alone i)) (sym o_is)
      (contains-flat (alone_at between) (partnered between b.geometry) i (Alone i)
      (passes-found (λ f. are_asked between.ask f.geometry b.geometry) between.first.now.features i a stay.1 both.1) (at-alone i a there lacking)))

  lost-looked : (i : ℕ) (a : FeatureContent) (j : ℕ) (b : FeatureContent) → feature_of new i ≡ Some a → lacks (is_pair between.one between.ask) news.features (i, a) ≡ true
      → changed between.second_place j ≡ true → feature_of olds j ≡ Some b → is_pair between.one between.ask (i, a) (j, b) ≡ true → Contains (alone_looked_at between made) (Alone i)
  lost-looked i a j b there lacking is had pairs = by (around.recorded j) (is_leaving between.leaving.now between.second_place j) refl
    where
      has : list_any (is_pair between.one between.ask (i, a)) news.features ≡ false
      has = not_back (list_any (is_pair between.one between.ask (i, a)) news.features) lacking

      by : (feature_of between.second.now j ≡ feature_of olds j) ⊎ Contains made (State between.second_place j (feature_of olds j)) → (t : Bool) → is_leaving between.leaving.now between.second_place j ≡ t
          → Contains (alone_looked_at between made) (Alone i)
      by (inr recorded) t t_is =
          Contains-append_left (flat_map (alone_of_slot between) made) (flat_map (alone_of_leaving between) between.leaving.now) (Alone i)
          (contains-flat (alone_of_slot between) made (State between.second_place j (feature_of olds j)) (Alone i) recorded
          (Contains-append_right (alone_first between between.second_place j) (alone_second between between.second_place (feature_of olds j)) (Alone i)
          (beside-looked i a b j there lacking pairs (feature_of olds j) had)))
      by (inl kept) true t_is =
          let s = of-id-there between.leaving.now between.second_place j t_is in
          Contains-append_right (flat_map (alone_of_slot between) made) (flat_map (alone_of_leaving between) between.leaving.now) (Alone i)
          (contains-flat (alone_of_leaving between) between.leaving.now (State between.second_place j s.0) (Alone i) s.1
          (beside-looked i a b j there lacking pairs (feature_of between.second.now j) (kept ∙ had)))
      by (inl kept) false t_is =
          let stands : feature_of news j ≡ Some b = around.stays_second j ∙ stays-there between.second.now between.leaving.now between.second_place j b t_is (kept ∙ had) in
          let wrong : true ≡ false = sym (any-of (is_pair between.one between.ask (i, a)) news.features j b stands pairs) ∙ has in cc

  -- the first feature without a partner is the least of those that are looked at
  pub alone-looked : alone_of (is_pair between.one between.ask) old.features olds.features ≡ []
      → least_from None (alone_looked_at between made) ≡ first_of (map alone_break (alone_of (is_pair between.one between.ask) new.features news.features))
  unfolding alone
  alone-looked none =
      first-alone (is_pair between.one between.ask) old.features olds.features new.features news.features (changed between.first_place) (changed between.second_place) (alone_looked_at between made)
      around.new_rising around.old_risings keeps keeps-second none all-sound changed-looked lost-looked
