-- What a writing adds to a content it adds to each content that shows the same.
use Rattle.std.proofs.Common.{◌≡◌, ℕ, ◌+◌, Bool, true, false, cond, if◌then◌else◌, List, [], ◌∷◌, Option, None, Some, option_map, nat_eq, bytes_eq, refl, ap, sym, subst, arith}
use Rattle.std.proofs.lemmas.Bool.{eq-eqb}
use Rattle.std.proofs.lemmas.List.Sums.{sum_by-cons}
use Rattle.std.specs.declared.cmp.Ordering.{Ordering}
use Rattle.std.specs.declared.cmp.Ordering.TheVariants.{Less, Equal, Greater}
use Rattle.std.specs.Ordering.{match_ordering, nat_cmp}
use Rattle.std.specs.List.Sorted.{IsStrictlySortedBy}
use Rattle.std.specs.Map.{keys_of, lookup, remove_entry}
use Rattle.std.specs.BTreeMap.{insert_entry}
use Rattle.sf_features.specs.Features.{FeatureContent}
use Rattle.sf_layers.specs.Content.{Content, LayerContent, change_layer, change_value, feature_of, layer_of}
use Rattle.sf_layers.proofs.Values.{all_below, equal-same, greater-above, less-below, lookup-below, nat_cmp-of_below, nat_eq-apart-above}
use Rattle.sf_steps.specs.Inverses.{feature_weight}
use Rattle.sf_groups.specs.Groups.{content_weight, features_weight}
use Rattle.sf_groups.specs.Local.{Writing, Adds, Puts, Removes, written}

-- what a feature holds, where there is one
abbrev pub state_weight : Option FeatureContent → ℕ
state_weight None = 0
state_weight (Some feature) = feature_weight feature

pub features-cons : (e : ℕ × FeatureContent) (es : List (ℕ × FeatureContent)) → features_weight (e ∷ es) ≡ feature_weight e.1 + features_weight es
features-cons e es = sum_by-cons (λ entry. feature_weight entry.1) e es

pub content-cons : (e : List ℕ × LayerContent) (es : Content) → content_weight (e ∷ es) ≡ features_weight e.1.features + content_weight es
content-cons e es = sum_by-cons (λ entry. features_weight entry.1.features) e es

-- ---- one feature

front-out : (s w t : ℕ) → t ≡ w + s → s + w ≡ t
front-out s w t is = omega (arith, is)

kept-in : (a b r w s t : ℕ) → a ≡ w + r → b ≡ w + s → r + t ≡ s → a + t ≡ b
kept-in a b r w s t a_is b_is rest = omega (arith, a_is, b_is, rest)

pub remove-weight : (id : ℕ) (es : List (ℕ × FeatureContent)) → features_weight (remove_entry (nat_eq id) es) + state_weight (lookup (nat_eq id) es) ≡ features_weight es
remove-weight id [] = refl
remove-weight id (e ∷ es) = by (remove-weight id es) (nat_eq id e.0)
  where
    by : features_weight (remove_entry (nat_eq id) es) + state_weight (lookup (nat_eq id) es) ≡ features_weight es → (b : Bool)
        → features_weight (cond b es (e ∷ remove_entry (nat_eq id) es)) + state_weight (cond b (Some e.1) (lookup (nat_eq id) es)) ≡ features_weight (e ∷ es)
    by later true = front-out (features_weight es) (feature_weight e.1) (features_weight (e ∷ es)) (features-cons e es)
    by later false =
        kept-in (features_weight (e ∷ remove_entry (nat_eq id) es)) (features_weight (e ∷ es)) (features_weight (remove_entry (nat_eq id) es)) (feature_weight e.1) (features_weight es) (state_weight (lookup (nat_eq id) es))
        (features-cons e (remove_entry (nat_eq id) es)) (features-cons e es) later

pub changed-here : (a b s w v : ℕ) → a ≡ v + s → b ≡ w + s → a + w ≡ b + v
changed-here a b s w v a_is b_is = omega (arith, a_is, b_is)

pub changed-later : (a b r w s t v : ℕ) → a ≡ w + r → b ≡ w + s → r + t ≡ s + v → a + t ≡ b + v
changed-later a b r w s t v a_is b_is rest = omega (arith, a_is, b_is, rest)

pub change-weight : (id : ℕ) (es : List (ℕ × FeatureContent)) (feature : FeatureContent)
    → features_weight (change_value (nat_eq id) es (λ old. feature)) + state_weight (lookup (nat_eq id) es) ≡ features_weight es + state_weight (option_map (λ old. feature) (lookup (nat_eq id) es))
change-weight id [] feature = refl
change-weight id (e ∷ es) feature = by (change-weight id es feature) (nat_eq id e.0)
  where
    by : features_weight (change_value (nat_eq id) es (λ old. feature)) + state_weight (lookup (nat_eq id) es) ≡ features_weight es + state_weight (option_map (λ old. feature) (lookup (nat_eq id) es)) → (b : Bool)
        → features_weight (if b then (e.0, feature) ∷ es else e ∷ change_value (nat_eq id) es (λ old. feature)) + state_weight (cond b (Some e.1) (lookup (nat_eq id) es))
        ≡ features_weight (e ∷ es) + state_weight (option_map (λ old. feature) (cond b (Some e.1) (lookup (nat_eq id) es)))
    by later true =
        changed-here (features_weight ((e.0, feature) ∷ es)) (features_weight (e ∷ es)) (features_weight es) (feature_weight e.1) (feature_weight feature) (features-cons (e.0, feature) es) (features-cons e es)
    by later false =
        changed-later (features_weight (e ∷ change_value (nat_eq id) es (λ old. feature))) (features_weight (e ∷ es)) (features_weight (change_value (nat_eq id) es (λ old. feature))) (feature_weight e.1) (features_weight es)
        (state_weight (lookup (nat_eq id) es)) (state_weight (option_map (λ old. feature) (lookup (nat_eq id) es))) (features-cons e (change_value (nat_eq id) es (λ old. feature))) (features-cons e es) later

put-before : (a b v : ℕ) → a ≡ v + b → a + 0 ≡ b + v
put-before a b v is = omega (arith, is)

pub insert-weight : (id : ℕ) (es : List (ℕ × FeatureContent)) (feature : FeatureContent) → IsStrictlySortedBy nat_cmp (keys_of es)
    → features_weight (insert_entry nat_cmp es id feature) + state_weight (lookup (nat_eq id) es) ≡ features_weight es + feature_weight feature
unfolding IsStrictlySortedBy
insert-weight id [] feature rising = put-before (features_weight ((id, feature) ∷ [])) 0 (feature_weight feature) (features-cons (id, feature) [])
insert-weight id (e ∷ es) feature rising = by (insert-weight id es feature rising.1) (nat_cmp id e.0) refl
  where
    by : features_weight (insert_entry nat_cmp es id feature) + state_weight (lookup (nat_eq id) es) ≡ features_weight es + feature_weight feature → (o : Ordering) → nat_cmp id e.0 ≡ o
        → features_weight (match_ordering o ((id, feature) ∷ e ∷ es) ((e.0, feature) ∷ es) (e ∷ insert_entry nat_cmp es id feature)) + state_weight (lookup (nat_eq id) (e ∷ es))
        ≡ features_weight (e ∷ es) + feature_weight feature
    by later Less is =
        let below = less-below id e.0 is in
        let none : lookup (nat_eq id) (e ∷ es) ≡ None = lookup-below id (e ∷ es) (nat_cmp-of_below id e.0 below, all_below id e.0 (keys_of es) below rising.0) in
        subst (λ o. features_weight ((id, feature) ∷ e ∷ es) + state_weight o ≡ features_weight (e ∷ es) + feature_weight feature) (sym none)
        (put-before (features_weight ((id, feature) ∷ e ∷ es)) (features_weight (e ∷ es)) (feature_weight feature) (features-cons (id, feature) (e ∷ es)))
    by later Equal is =
        let found : lookup (nat_eq id) (e ∷ es) ≡ Some e.1 = ap (λ b. cond b (Some e.1) (lookup (nat_eq id) es)) (eq-eqb id e.0 (equal-same id e.0 is)) in
        subst (λ o. features_weight ((e.0, feature) ∷ es) + state_weight o ≡ features_weight (e ∷ es) + feature_weight feature) (sym found)
        (changed-here (features_weight ((e.0, feature) ∷ es)) (features_weight (e ∷ es)) (features_weight es) (feature_weight e.1) (feature_weight feature) (features-cons (e.0, feature) es) (features-cons e es))
    by later Greater is =
        let found : lookup (nat_eq id) (e ∷ es) ≡ lookup (nat_eq id) es = ap (λ b. cond b (Some e.1) (lookup (nat_eq id) es)) (nat_eq-apart-above id e.0 (greater-above id e.0 is)) in
        subst (λ o. features_weight (e ∷ insert_entry nat_cmp es id feature) + state_weight o ≡ features_weight (e ∷ es) + feature_weight feature) (sym found)
        (changed-later (features_weight (e ∷ insert_entry nat_cmp es id feature)) (features_weight (e ∷ es)) (features_weight (insert_entry nat_cmp es id feature)) (feature_weight e.1) (features_weight es)
        (state_weight (lookup (nat_eq id) es)) (feature_weight feature) (features-cons e (insert_entry nat_cmp es id feature)) (features-cons e es) later)

-- ---- one writing into two layers

-- where it writes, both layers have the same
abbrev pub WritesAlike : Writing → LayerContent → LayerContent → Type 0
WritesAlike (Adds feature) a b = feature_of a a.next_id ≡ feature_of b b.next_id
WritesAlike (Puts id feature) a b = feature_of a id ≡ feature_of b id
WritesAlike (Removes id) a b = feature_of a id ≡ feature_of b id

both-gain : (a a' b b' s v : ℕ) → a' + s ≡ a + v → b' + s ≡ b + v → a' + b ≡ a + b'
both-gain a a' b b' s v a_is b_is = omega (arith, a_is, b_is)

both-lose : (a a' b b' s : ℕ) → a' + s ≡ a → b' + s ≡ b → a' + b ≡ a + b'
both-lose a a' b b' s a_is b_is = omega (arith, a_is, b_is)

pub written-weight : (w : Writing) (a b : LayerContent) → IsStrictlySortedBy nat_cmp (keys_of a.features) → IsStrictlySortedBy nat_cmp (keys_of b.features) → WritesAlike w a b
    → features_weight (written w a).features + features_weight b.features ≡ features_weight a.features + features_weight (written w b).features
written-weight (Adds feature) a b rising rising' same =
    both-gain (features_weight a.features) (features_weight (insert_entry nat_cmp a.features a.next_id feature)) (features_weight b.features) (features_weight (insert_entry nat_cmp b.features b.next_id feature))
    (state_weight (feature_of a a.next_id)) (feature_weight feature) (insert-weight a.next_id a.features feature rising)
    (subst (λ o. features_weight (insert_entry nat_cmp b.features b.next_id feature) + state_weight o ≡ features_weight b.features + feature_weight feature) (sym same) (insert-weight b.next_id b.features feature rising'))
written-weight (Puts id feature) a b rising rising' same =
    both-gain (features_weight a.features) (features_weight (change_value (nat_eq id) a.features (λ old. feature))) (features_weight b.features) (features_weight (change_value (nat_eq id) b.features (λ old. feature)))
    (state_weight (feature_of a id)) (state_weight (option_map (λ old. feature) (feature_of a id))) (change-weight id a.features feature)
    (subst (λ o. features_weight (change_value (nat_eq id) b.features (λ old. feature)) + state_weight o ≡ features_weight b.features + state_weight (option_map (λ old. feature) o)) (sym same) (change-weight id b.features feature))
written-weight (Removes id) a b rising rising' same =
    both-lose (features_weight a.features) (features_weight (remove_entry (nat_eq id) a.features)) (features_weight b.features) (features_weight (remove_entry (nat_eq id) b.features))
    (state_weight (feature_of a id)) (remove-weight id a.features)
    (subst (λ o. features_weight (remove_entry (nat_eq id) b.features) + state_weight o ≡ features_weight b.features) (sym same) (remove-weight id b.features))

-- ---- contents

pub change_layer-weight : (content : Content) (name : List ℕ) (layer : LayerContent) (f : LayerContent → LayerContent) → layer_of content name ≡ Some layer
    → content_weight (change_layer content name f) + features_weight layer.features ≡ content_weight content + features_weight (f layer).features
change_layer-weight [] name layer f found = cc
change_layer-weight (e ∷ es) name layer f found = by (λ there. change_layer-weight es name layer f there) (bytes_eq name e.0) found
  where
    by : (layer_of es name ≡ Some layer → content_weight (change_layer es name f) + features_weight layer.features ≡ content_weight es + features_weight (f layer).features) → (b : Bool)
        → cond b (Some e.1) (layer_of es name) ≡ Some layer
        → content_weight (if b then (e.0, f e.1) ∷ es else e ∷ change_layer es name f) + features_weight layer.features ≡ content_weight (e ∷ es) + features_weight (f layer).features
    by later true h =
        let same : e.1 ≡ layer = cc in
        subst (λ l. content_weight ((e.0, f e.1) ∷ es) + features_weight l.features ≡ content_weight (e ∷ es) + features_weight (f l).features) same
        (changed-here (content_weight ((e.0, f e.1) ∷ es)) (content_weight (e ∷ es)) (content_weight es) (features_weight e.1.features) (features_weight (f e.1).features) (content-cons (e.0, f e.1) es) (content-cons e es))
    by later false h =
        changed-later (content_weight (e ∷ change_layer es name f)) (content_weight (e ∷ es)) (content_weight (change_layer es name f)) (features_weight e.1.features) (content_weight es)
        (features_weight layer.features) (features_weight (f layer).features) (content-cons e (change_layer es name f)) (content-cons e es) (later h)

balanced : (c c' d d' a a' b b' : ℕ) → c' + a ≡ c + a' → d' + b ≡ d + b' → a' + b ≡ a + b' → c' + d ≡ c + d'
balanced c c' d d' a a' b b' c_is d_is same = omega (arith, c_is, d_is, same)

-- one writing into layers of two contents
pub into-weight : (whole part : Content) (name : List ℕ) (w : Writing) (a b : LayerContent) → layer_of whole name ≡ Some a → layer_of part name ≡ Some b
    → IsStrictlySortedBy nat_cmp (keys_of a.features) → IsStrictlySortedBy nat_cmp (keys_of b.features) → WritesAlike w a b
    → content_weight (change_layer whole name (written w)) + content_weight part ≡ content_weight whole + content_weight (change_layer part name (written w))
into-weight whole part name w a b a_is b_is rising rising' same =
    balanced (content_weight whole) (content_weight (change_layer whole name (written w))) (content_weight part) (content_weight (change_layer part name (written w)))
    (features_weight a.features) (features_weight (written w a).features) (features_weight b.features) (features_weight (written w b).features)
    (change_layer-weight whole name a (written w) a_is) (change_layer-weight part name b (written w) b_is) (written-weight w a b rising rising' same)
