-- What breaks a rule first, of all features.
use Rattle.std.proofs.Common.{◌≡◌, ◌∙◌, ◌⊎◌, inl, inr, ℕ, Bool, true, false, cond, not, ◌&&◌, List, [], ◌∷◌, ◌++◌, map, flat_map, filter, Option, None, Some, is_some, Result, Ok, Err, IfOk, refl, ap, sym, subst, arith}
use Rattle.std.specs.declared.alloc.AllocError.{AllocError}
use Rattle.std.specs.Prelude.{if◌then◌else◌}
use Rattle.std.specs.List.{AllByRecursion, list_any}
use Rattle.std.specs.List.Sorted.{IsStrictlySortedBy}
use Rattle.std.specs.Map.{keys_of}
use Rattle.std.specs.Ordering.{nat_cmp}
use Rattle.std.specs.declared.cmp.Ordering.TheVariants.{Less}
use Rattle.std.proofs.lemmas.Bool.Decides.{nat_tests}
use Rattle.sf_layers.specs.Content.{Content, LayerContent, layer_of}
use Rattle.sf_geometry.specs.declared.geometry.Geometry.{Geometry}
use Rattle.sf_features.specs.Features.{FeatureContent}
use Rattle.sf_joins.specs.Converse.{IsPairAsk, converse_pair}
use Rattle.sf_layers.specs.WellFormed.{IsLayer}
use Rattle.sf_joins.specs.Joins.{are_distinct, is_pair}
use Rattle.sf_joins.specs.Passed.{are_asked}
use Rattle.sf_patches.specs.declared.slot.Slot.{Slot}
use Rattle.sf_rules.specs.declared.between.Between.{Between}
use Rattle.sf_rules.specs.declared.rule.LayerRule.{LayerRule}
use Rattle.sf_rules.specs.declared.rule.Form.TheVariants.{Never, Each}
use Rattle.sf_rules.specs.declared.breaks.Break.{Break}
use Rattle.sf_rules.specs.declared.breaks.Break.TheVariants.{Pair, Alone}
use Rattle.sf_rules.specs.Breaks.{is_before, least_from}
use Rattle.sf_rules.specs.Rules.{alone_break, break_by, break_between, breaks_between, first_of, lacks_partner, of_one, pair_break}
use Rattle.sf_rules.specs.Leaving.{is_leaving}
use Rattle.sf_rules.specs.Looks.{alone_of_entry, has_partner, is_partner, pairs_of_entry, pairs_with, partners, staying}
use Rattle.sf_rules.specs.Underway.{IsBetween}
use Rattle.sf_joins.proofs.Passed.{rising-filter}
use Rattle.sf_joins.proofs.LoopLaws.{numbers_with, row-by-converse}
use Rattle.sf_joins.proofs.PlaneLaws.{row}
use Rattle.sf_rules.proofs.LeastLaws.{BeginsWithLeast, least-first}
use Rattle.sf_rules.proofs.LookLaws.{IsAround, partner-any}

-- ---- the first of a list of lists

first-append : (xs ys : List Break) → is_some (first_of xs) ≡ false → first_of (xs ++ ys) ≡ first_of ys
first-append [] ys h = refl
first-append (x ∷ xs) ys h = cc

first-of-both : (xs ys : List Break) → is_some (first_of xs) ≡ true → first_of (xs ++ ys) ≡ first_of xs
first-of-both [] ys h = cc
first-of-both (x ∷ xs) ys h = refl

-- one turn of a loop that ends at the first
pub found-here : {X : Type 0} (f : X → List Break) (left : List X) (x : X) (rest : List X) (whole least : Option Break) → first_of (flat_map f left) ≡ whole → left ≡ x ∷ rest
    → least ≡ first_of (f x) → is_some least ≡ true → least ≡ whole
found-here f left x rest whole least invariant is gives some =
    gives ∙ sym (first-of-both (f x) (flat_map f rest) (ap is_some (sym gives) ∙ some)) ∙ ap (λ ys. first_of (flat_map f ys)) (sym is) ∙ invariant

pub none-here : {X : Type 0} (f : X → List Break) (left : List X) (x : X) (rest : List X) (whole least : Option Break) → first_of (flat_map f left) ≡ whole → left ≡ x ∷ rest
    → least ≡ first_of (f x) → is_some least ≡ false → first_of (flat_map f rest) ≡ whole
none-here f left x rest whole least invariant is gives none =
    sym (first-append (f x) (flat_map f rest) (ap is_some (sym gives) ∙ none)) ∙ ap (λ ys. first_of (flat_map f ys)) (sym is) ∙ invariant

-- ---- the least of a row is its first

rising-numbers : (p : ℕ → Bool) (ks : List ℕ) → IsStrictlySortedBy nat_cmp ks → IsStrictlySortedBy nat_cmp (filter p ks)
unfolding IsStrictlySortedBy
rising-numbers p [] h = tt
rising-numbers p (k ∷ ks) h = by (p k) (rising-numbers p ks h.1)
  where
    above : (js : List ℕ) → AllByRecursion (λ y. nat_cmp k y ≡ Less) js → AllByRecursion (λ y. nat_cmp k y ≡ Less) (filter p js)
    above [] g = tt
    above (j ∷ js) g = at (p j) (above js g.1)
      where
        at : (b : Bool) → AllByRecursion (λ y. nat_cmp k y ≡ Less) (filter p js) → AllByRecursion (λ y. nat_cmp k y ≡ Less) (cond b (j ∷ filter p js) (filter p js))
        at true rest = (g.0, rest)
        at false rest = rest

    by : (b : Bool) → IsStrictlySortedBy nat_cmp (filter p ks) → IsStrictlySortedBy nat_cmp (cond b (k ∷ filter p ks) (filter p ks))
    by true rest = (above ks h.0, rest)
    by false rest = rest

row-begins-least : (i : ℕ) (js : List ℕ) → IsStrictlySortedBy nat_cmp js → BeginsWithLeast (map (λ j. Pair i j) js)
unfolding IsStrictlySortedBy
row-begins-least i [] h = tt
row-begins-least i (j ∷ js) h = all js h.0
  where
    before : (k : ℕ) → nat_cmp j k ≡ Less → is_before (Pair i j) (Pair i k) ≡ true
    before k g = grind (arith, nat_tests)

    all : (ks : List ℕ) → AllByRecursion (λ k. nat_cmp j k ≡ Less) ks → AllByRecursion (λ y. is_before (Pair i j) y ≡ true) (map (λ k. Pair i k) ks)
    all [] g = tt
    all (k ∷ ks) g = (before k g.0, all ks g.1)

pub row-least : (between : Between) (entry : ℕ × FeatureContent) (geometry : Geometry) → IsLayer between.second.now → geometry ≡ entry.1.geometry
    → least_from None (pairs_with between entry.0 geometry) ≡ first_of (pairs_of_entry between entry)
row-least between entry geometry fine is =
    least-first (pairs_with between entry.0 geometry) (pairs_with between entry.0 geometry)
    (row-begins-least entry.0 (filter (is_partner between entry.0) (partners between geometry))
    (rising-numbers (is_partner between entry.0) (partners between geometry)
    (rising-filter (λ e. are_asked between.converse e.1.geometry geometry) between.second.now.features fine.rising))) (λ x c. c) (λ x c. c)
    ∙ ap (λ g. first_of (pairs_with between entry.0 g)) is

pub lacking-least : (between : Between) (entry : ℕ × FeatureContent) → least_from None (alone_of_entry between entry) ≡ first_of (alone_of_entry between entry)
lacking-least between entry = by (has_partner between entry.0 entry.1.geometry)
  where
    by : (b : Bool) → least_from None (if b then [] else Alone entry.0 ∷ []) ≡ first_of (if b then [] else Alone entry.0 ∷ [])
    by true = refl
    by false = refl

-- ---- all of them are the breaks of the rule

-- with nothing to be removed, a partner is a distinct one
filter-same : (p q : ℕ → Bool) (ks : List ℕ) → ((k : ℕ) → p k ≡ q k) → filter p ks ≡ filter q ks
filter-same p q [] same = refl
filter-same p q (k ∷ ks) same = ap (λ b. cond b (k ∷ filter p ks) (filter p ks)) (same k) ∙ ap (λ js. cond (q k) (k ∷ js) js) (filter-same p q ks same)

and-true : (b : Bool) → b && true ≡ b
and-true true = refl
and-true false = refl

pub partner-now : (between : Between) (i j : ℕ) → between.leaving.now ≡ [] → is_partner between i j ≡ are_distinct between.one i j
partner-now between i j none =
    ap (λ (leaving : List Slot). are_distinct between.one i j && not (is_leaving leaving between.second_place j)) none ∙ and-true (are_distinct between.one i j)

map-pairs : (i : ℕ) (js : List ℕ) → map pair_break (numbers_with i js) ≡ map (λ j. Pair i j) js
map-pairs i [] = refl
map-pairs i (j ∷ js) = ap (λ bs. Pair i j ∷ bs) (map-pairs i js)

map-append : (xs ys : List (ℕ × ℕ)) → map pair_break (xs ++ ys) ≡ map pair_break xs ++ map pair_break ys
map-append [] ys = refl
map-append (x ∷ xs) ys = ap (λ bs. pair_break x ∷ bs) (map-append xs ys)

-- the layers of a rule where no feature leaves
pub none-leaves : (content : Content) (rule : LayerRule) (leaving : List Slot) (between : Between) → leaving ≡ [] → IsBetween content rule leaving between → IsBetween content rule [] between
none-leaves content rule leaving between none is = subst (λ slots. IsBetween content rule slots between) none is

pub whole-never : (content : Content) (rule : LayerRule) (between : Between) → IsBetween content rule [] between → rule.form ≡ Never
    → first_of (flat_map (pairs_of_entry between) between.first.now.features) ≡ break_between content rule
whole-never content rule between is form =
    ap first_of (all between.first.now.features)
    ∙ ap (λ f. first_of (breaks_between f (of_one rule) between.first.now rule.ask between.second.now)) (sym form)
    ∙ ap (λ o. break_by rule o (Some between.second.now)) (sym is.first)
    ∙ ap (break_by rule (layer_of content rule.first)) (sym is.second)
  where
    one-row : (e : ℕ × FeatureContent) → pairs_of_entry between e ≡ map pair_break (row (of_one rule) rule.ask between.second.now e)
    one-row e =
        ap (map (λ j. Pair e.0 j)) (filter-same (is_partner between e.0) (are_distinct between.one e.0) (partners between e.1.geometry) (λ j. partner-now between e.0 j is.leaves))
        ∙ sym (map-pairs e.0 (filter (are_distinct between.one e.0) (partners between e.1.geometry)))
        ∙ ap (λ o. map pair_break (numbers_with e.0 (filter (are_distinct o e.0) (partners between e.1.geometry)))) is.one
        ∙ ap (map pair_break) (row-by-converse (of_one rule) rule.ask between.converse between.second.now e e.1.geometry is.askable is.turned refl)

    all : (es : List (ℕ × FeatureContent)) → flat_map (pairs_of_entry between) es ≡ map pair_break (flat_map (row (of_one rule) rule.ask between.second.now) es)
    all [] = refl
    all (e ∷ es) =
        ap (λ xs. xs ++ flat_map (pairs_of_entry between) es) (one-row e)
        ∙ ap (λ ys. map pair_break (row (of_one rule) rule.ask between.second.now e) ++ ys) (all es)
        ∙ sym (map-append (row (of_one rule) rule.ask between.second.now e) (flat_map (row (of_one rule) rule.ask between.second.now) es))

-- what is, is around itself
around-now : (content : Content) (rule : LayerRule) (between : Between) → IsBetween content rule [] between → IsLayer between.first.now → IsLayer between.second.now
    → IsAround between between.first.now between.second.now between.first.now between.second.now []
around-now content rule between is fine fines = record {
  askable = subst IsPairAsk (sym is.ask) is.askable;
  turned = is.turned ∙ ap converse_pair (sym is.ask);
  rising = fine.rising;
  risings = fines.rising;
  new_rising = fine.rising;
  new_risings = fines.rising;
  old_risings = fines.rising;
  stays = λ id. sym (ap (λ (leaving : List Slot). staying between.first.now leaving between.first_place id) is.leaves);
  stays_second = λ id. sym (ap (λ (leaving : List Slot). staying between.second.now leaving between.second_place id) is.leaves);
  kept = λ id none. refl;
  kept_second = λ id none. refl;
  recorded = λ id. inl refl;
}

pub whole-each : (content : Content) (rule : LayerRule) (between : Between) → IsBetween content rule [] between → IsLayer between.first.now → IsLayer between.second.now → rule.form ≡ Each
    → first_of (flat_map (alone_of_entry between) between.first.now.features) ≡ break_between content rule
whole-each content rule between is fine fines form =
    ap first_of (all between.first.now.features)
    ∙ ap (λ f. first_of (breaks_between f (of_one rule) between.first.now rule.ask between.second.now)) (sym form)
    ∙ ap (λ o. break_by rule o (Some between.second.now)) (sym is.first)
    ∙ ap (break_by rule (layer_of content rule.first)) (sym is.second)
  where
    has : (e : ℕ × FeatureContent) → has_partner between e.0 e.1.geometry ≡ list_any (is_pair (of_one rule) rule.ask e) between.second.now.features
    has e =
        partner-any between between.first.now between.second.now between.first.now between.second.now [] (around-now content rule between is fine fines) e.0 e.1
        ∙ ap (λ o. list_any (is_pair o between.ask e) between.second.now.features) is.one
        ∙ ap (λ a. list_any (is_pair (of_one rule) a e) between.second.now.features) is.ask

    all : (es : List (ℕ × FeatureContent)) → flat_map (alone_of_entry between) es ≡ map alone_break (keys_of (filter (lacks_partner (of_one rule) rule.ask between.second.now) es))
    all [] = refl
    all (e ∷ es) =
        ap (λ t. let bs : List Break = (if t then [] else Alone e.0 ∷ []) ++ flat_map (alone_of_entry between) es in bs) (has e)
        ∙ by (list_any (is_pair (of_one rule) rule.ask e) between.second.now.features) (all es)
      where
        kept : List (ℕ × FeatureContent)
        kept = filter (lacks_partner (of_one rule) rule.ask between.second.now) es

        by : (t : Bool) → flat_map (alone_of_entry between) es ≡ map alone_break (keys_of kept)
            → (if t then [] else Alone e.0 ∷ []) ++ flat_map (alone_of_entry between) es ≡ map alone_break (keys_of (cond (not t) (e ∷ kept) kept))
        by true rest = rest
        by false rest = ap (λ bs. Alone e.0 ∷ bs) rest

-- a rule of which a layer is not there
pub whole-missing : (content : Content) (rule : LayerRule) → (layer_of content rule.first ≡ None) ⊎ (layer_of content rule.second ≡ None) → break_between content rule ≡ None
whole-missing content rule (inl none) = ap (λ o. break_by rule o (layer_of content rule.second)) none
whole-missing content rule (inr none) = ap (break_by rule (layer_of content rule.first)) none ∙ by (layer_of content rule.first)
  where
    by : (o : Option LayerContent) → break_by rule o None ≡ None
    by None = refl
    by (Some layer) = refl

-- what a call answers, where that is something else
pub answered : (r : Result (Option Break) AllocError) (o p : Option Break) → o ≡ p → IfOk r (λ found. found ≡ o) → IfOk r (λ found. found ≡ p)
answered (Ok found) o p is h = h ∙ is
answered (Err e) o p is h = h
