-- What a rule reads of a content: identifiers and geometries of two layers.
use Rattle.std.proofs.Common.{◌≡◌, ℕ, ◌+◌, Bool, true, false, not, ◌&&◌, ◌||◌, cond, List, [], ◌∷◌, ◌++◌, map, flat_map, filter, Option, Some, None, is_some, option_map, bytes_eq, refl, ap, sym, ◌∙◌}
use Rattle.std.specs.List.{AllByRecursion, list_all, list_any}
use Rattle.std.specs.Map.{keys_of}
use Rattle.sf_features.specs.Features.{FeatureContent, plain_feature}
use Rattle.sf_layers.specs.Content.{Content, LayerContent, has_layer, layer_of}
use Rattle.sf_rules.specs.Asked.{PairAsk}
use Rattle.sf_rules.specs.Asked.{is_pair}
use Rattle.sf_rules.specs.declared.rule.Rule.{Rule}
use Rattle.sf_rules.specs.declared.rule.LayerRule.{LayerRule}
use Rattle.sf_rules.specs.declared.rule.Form.{Form}
use Rattle.sf_rules.specs.declared.rule.Form.TheVariants.{Never, Each}
use Rattle.sf_rules.specs.declared.breaks.Break.{Break}
use Rattle.sf_rules.specs.Rules.{alone_break, break_between, break_by, break_of, breaks_between, broken_from, broken_or, first_of, of_one, pair_break}
use Rattle.sf_ruled_store.specs.Ruled.{has_named}

abbrev pub Features : Type 0
Features = List (ℕ × FeatureContent)

-- a feature without its values
abbrev pub shape_of : ℕ × FeatureContent → ℕ × FeatureContent
shape_of entry = (entry.0, plain_feature entry.1.geometry)

abbrev pub shapes : Features → Features
shapes features = map shape_of features

-- those of the layer of a name
abbrev pub shapes_in : Content → List ℕ → Option Features
shapes_in content name = option_map (λ layer. shapes layer.features) (layer_of content name)

-- ---- breaks are of shapes

-- the pair of two features
abbrev pair_of : ℕ × FeatureContent → ℕ × FeatureContent → ℕ × ℕ
pair_of a b = (a.0, b.0)

abbrev row : Bool → PairAsk → Features → ℕ × FeatureContent → List (ℕ × ℕ)
row one ask seconds a = map (pair_of a) (filter (is_pair one ask a) seconds)

row-shapes : (one : Bool) (ask : PairAsk) (seconds : Features) (a : ℕ × FeatureContent) → row one ask (shapes seconds) (shape_of a) ≡ row one ask seconds a
row-shapes one ask [] a = refl
row-shapes one ask (s ∷ seconds) a = by (is_pair one ask a s) (row-shapes one ask seconds a)
  where
    by : (t : Bool) → map (pair_of a) (filter (is_pair one ask (shape_of a)) (shapes seconds)) ≡ map (pair_of a) (filter (is_pair one ask a) seconds)
        → map (pair_of a) (cond t (shape_of s ∷ filter (is_pair one ask (shape_of a)) (shapes seconds)) (filter (is_pair one ask (shape_of a)) (shapes seconds)))
        ≡ map (pair_of a) (cond t (s ∷ filter (is_pair one ask a) seconds) (filter (is_pair one ask a) seconds))
    by true later = ap (λ rest. (a.0, s.0) ∷ rest) later
    by false later = later

rows-shapes : (one : Bool) (ask : PairAsk) (firsts seconds : Features) → flat_map (row one ask (shapes seconds)) (shapes firsts) ≡ flat_map (row one ask seconds) firsts
rows-shapes one ask [] seconds = refl
rows-shapes one ask (a ∷ firsts) seconds =
    ap (λ r. r ++ flat_map (row one ask (shapes seconds)) (shapes firsts)) (row-shapes one ask seconds a)
    ∙ ap (λ rest. row one ask seconds a ++ rest) (rows-shapes one ask firsts seconds)

any-shapes : (one : Bool) (ask : PairAsk) (seconds : Features) (a : ℕ × FeatureContent) → list_any (is_pair one ask (shape_of a)) (shapes seconds) ≡ list_any (is_pair one ask a) seconds
any-shapes one ask [] a = refl
any-shapes one ask (s ∷ seconds) a = by (is_pair one ask a s) (any-shapes one ask seconds a)
  where
    by : (t : Bool) → list_any (is_pair one ask (shape_of a)) (shapes seconds) ≡ list_any (is_pair one ask a) seconds
        → t || list_any (is_pair one ask (shape_of a)) (shapes seconds) ≡ t || list_any (is_pair one ask a) seconds
    by true later = refl
    by false later = later

abbrev lacks : Bool → PairAsk → Features → ℕ × FeatureContent → Bool
lacks one ask seconds a = not (list_any (is_pair one ask a) seconds)

alone-shapes : (one : Bool) (ask : PairAsk) (firsts seconds : Features) → keys_of (filter (lacks one ask (shapes seconds)) (shapes firsts)) ≡ keys_of (filter (lacks one ask seconds) firsts)
alone-shapes one ask [] seconds = refl
alone-shapes one ask (a ∷ firsts) seconds =
    ap (λ t. keys_of (cond t (shape_of a ∷ filter (lacks one ask (shapes seconds)) (shapes firsts)) (filter (lacks one ask (shapes seconds)) (shapes firsts)))) (ap not (any-shapes one ask seconds a))
    ∙ by (lacks one ask seconds a) (alone-shapes one ask firsts seconds)
  where
    by : (t : Bool) → keys_of (filter (lacks one ask (shapes seconds)) (shapes firsts)) ≡ keys_of (filter (lacks one ask seconds) firsts)
        → keys_of (cond t (shape_of a ∷ filter (lacks one ask (shapes seconds)) (shapes firsts)) (filter (lacks one ask (shapes seconds)) (shapes firsts)))
        ≡ keys_of (cond t (a ∷ filter (lacks one ask seconds) firsts) (filter (lacks one ask seconds) firsts))
    by true later = ap (λ rest. a.0 ∷ rest) later
    by false later = later

-- what breaks a rule, by the features of its layers
abbrev breaks_in : Form → Bool → PairAsk → Features → Features → List Break
breaks_in Never one ask firsts seconds = map pair_break (flat_map (row one ask seconds) firsts)
breaks_in Each one ask firsts seconds = map alone_break (keys_of (filter (lacks one ask seconds) firsts))

breaks-in : (form : Form) (one : Bool) (ask : PairAsk) (first second : LayerContent) → breaks_between form one first ask second ≡ breaks_in form one ask first.features second.features
breaks-in Never one ask first second = refl
breaks-in Each one ask first second = refl

breaks-shapes : (form : Form) (one : Bool) (ask : PairAsk) (firsts seconds : Features) → breaks_in form one ask (shapes firsts) (shapes seconds) ≡ breaks_in form one ask firsts seconds
breaks-shapes Never one ask firsts seconds = ap (map pair_break) (rows-shapes one ask firsts seconds)
breaks-shapes Each one ask firsts seconds = ap (map alone_break) (alone-shapes one ask firsts seconds)

same-breaks : (form : Form) (one one' : Bool) (ask : PairAsk) (first first' second second' : LayerContent) → one' ≡ one
    → shapes first'.features ≡ shapes first.features → shapes second'.features ≡ shapes second.features
    → breaks_between form one' first' ask second' ≡ breaks_between form one first ask second
same-breaks form one one' ask first first' second second' same firsts seconds =
    breaks-in form one' ask first' second'
    ∙ sym (breaks-shapes form one' ask first'.features second'.features)
    ∙ ap (λ o. breaks_in form o ask (shapes first'.features) (shapes second'.features)) same
    ∙ ap (λ fs. breaks_in form one ask fs (shapes second'.features)) firsts
    ∙ ap (λ ss. breaks_in form one ask (shapes first.features) ss) seconds
    ∙ breaks-shapes form one ask first.features second.features
    ∙ sym (breaks-in form one ask first second)

-- a rule of layers with the same shapes, whatever their names, is broken by the same
pub break-alike : (old new : Content) (rule : LayerRule) (first second : List ℕ) → bytes_eq first second ≡ of_one rule
    → shapes_in new first ≡ shapes_in old rule.first → shapes_in new second ≡ shapes_in old rule.second
    → break_between new (record rule { first = first; second = second }) ≡ break_between old rule
break-alike old new rule first second one firsts seconds =
    by (layer_of old rule.first) (layer_of new first) (layer_of old rule.second) (layer_of new second) firsts seconds
  where
    Shaped : Option LayerContent → Option LayerContent → Type 0
    Shaped o p = option_map (λ layer. shapes layer.features) p ≡ option_map (λ layer. shapes layer.features) o

    by : (o o' p p' : Option LayerContent) → Shaped o o' → Shaped p p'
        → break_by (record rule { first = first; second = second }) o' p' ≡ break_by rule o p
    by None None p p' f s = refl
    by None (Some a') p p' f s = cc
    by (Some a) None p p' f s = cc
    by (Some a) (Some a') None None f s = refl
    by (Some a) (Some a') None (Some b') f s = cc
    by (Some a) (Some a') (Some b) None f s = cc
    by (Some a) (Some a') (Some b) (Some b') f s =
        let fs : shapes a'.features ≡ shapes a.features = cc in
        let ss : shapes b'.features ≡ shapes b.features = cc in
        ap first_of (same-breaks rule.form (of_one rule) (bytes_eq first second) rule.ask a a' b b' one fs ss)

-- a layer is there where there are shapes of one
pub has-alike : (old new : Content) (name name' : List ℕ) → shapes_in new name' ≡ shapes_in old name → has_layer new name' ≡ has_layer old name
has-alike old new name name' h = by (layer_of old name) (layer_of new name') h
  where
    by : (o p : Option LayerContent) → option_map (λ layer. shapes layer.features) p ≡ option_map (λ layer. shapes layer.features) o → is_some p ≡ is_some o
    by None None g = refl
    by None (Some p) g = cc
    by (Some o) None g = cc
    by (Some o) (Some p) g = refl

-- ---- several rules

-- a rule in a new content is broken as another one was in the old, and what it names is there as it was
pub record IsAlike (old new : Content) (rule rule' : Rule) : Type 0 where
  pub breaks : break_of new rule' ≡ break_of old rule
  pub there : has_named new rule' ≡ has_named old rule

pub broken-alike : (old new : Content) (f : Rule → Rule) (place : ℕ) (rules : List Rule) → AllByRecursion (λ rule. IsAlike old new rule (f rule)) rules
    → broken_from place new (map f rules) ≡ broken_from place old rules
broken-alike old new f place [] all = refl
broken-alike old new f place (rule ∷ rules) all =
    ap (λ o. broken_or place o (broken_from (place + 1) new (map f rules))) all.0.breaks
    ∙ ap (broken_or place (break_of old rule)) (broken-alike old new f (place + 1) rules all.1)

pub there-alike : (old new : Content) (f : Rule → Rule) (rules : List Rule) → AllByRecursion (λ rule. IsAlike old new rule (f rule)) rules
    → list_all (has_named new) (map f rules) ≡ list_all (has_named old) rules
there-alike old new f [] all = refl
there-alike old new f (rule ∷ rules) all =
    ap (λ b. b && list_all (has_named new) (map f rules)) all.0.there
    ∙ ap (λ b. has_named old rule && b) (there-alike old new f rules all.1)
