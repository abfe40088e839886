-- What the loops of a join come to.
use Rattle.std.proofs.Common.{◌≡◌, ◌∙◌, ℕ, Bool, true, false, ◌&&◌, cond, List, [], ◌∷◌, ◌++◌, append-nil, append_assoc, filter, flat_map, map, Option, Some, Ok, refl, ap, sym, subst}
use Rattle.std.specs.List.Sorted.{IsStrictlySortedBy}
use Rattle.std.specs.Map.{keys_of}
use Rattle.std.specs.Ordering.{nat_cmp}
use Rattle.sf_geometry.specs.declared.geometry.Geometry.{Geometry}
use Rattle.sf_features.specs.Features.{FeatureContent}
use Rattle.sf_layers.specs.Content.{LayerContent, feature_of}
use Rattle.sf_valid_rules.specs.Validity.{IsValid}
use Rattle.sf_near.specs.declared.pair_ask.PairAsk.{PairAsk}
use Rattle.sf_near.specs.Pairs.{are_asked, ids_asked}
use Rattle.sf_joins.specs.Converse.{IsPairAsk, converse_pair}
use Rattle.sf_joins.specs.Joins.{AreBeside, AreJoined, HasValid, are_distinct, found_beside, is_pair, pairs_found}
use Rattle.sf_joins.specs.Replies.{IsBeside, IsBesideOf, IsJoin}
use Rattle.sf_joins.specs.declared.joined.Beside.{Beside}
use Rattle.sf_joins.specs.declared.joined.Joined.{Joined}
use Rattle.sf_joins.proofs.ConverseLaws.{pairs-turn-round}
use Rattle.sf_joins.proofs.PlaneLaws.{beside_is_over_the_plane, joins_are_over_the_plane, row}

-- the pairs of a number with those of features, and with others
abbrev features_with : ℕ → List (ℕ × FeatureContent) → List (ℕ × ℕ)
features_with id es = map (λ e. (id, e.0)) es

abbrev pub numbers_with : ℕ → List ℕ → List (ℕ × ℕ)
numbers_with id others = map (λ other. (id, other)) others

-- ---- the pairs of one feature, by the converse ask
asked-row : (one : Bool) (ask : PairAsk) (id : ℕ) (f : FeatureContent) (es : List (ℕ × FeatureContent)) → IsPairAsk ask
    → features_with id (filter (is_pair one ask (id, f)) es)
    ≡ numbers_with id (filter (are_distinct one id) (keys_of (filter (λ e. are_asked (converse_pair ask) e.1.geometry f.geometry) es)))
asked-row one ask id f [] nine = refl
asked-row one ask id f (e ∷ es) nine =
    ap (λ t. features_with id (cond (are_distinct one id e.0 && t) (e ∷ filter (is_pair one ask (id, f)) es) (filter (is_pair one ask (id, f)) es)))
    (pairs-turn-round ask f.geometry e.1.geometry nine)
    ∙ by (are_distinct one id e.0) refl (are_asked (converse_pair ask) e.1.geometry f.geometry) (asked-row one ask id f es nine)
  where
    left : List (ℕ × FeatureContent)
    left = filter (is_pair one ask (id, f)) es

    right : List (ℕ × FeatureContent)
    right = filter (λ x. are_asked (converse_pair ask) x.1.geometry f.geometry) es

    by : (d : Bool) → are_distinct one id e.0 ≡ d → (t : Bool)
        → features_with id left ≡ numbers_with id (filter (are_distinct one id) (keys_of right))
        → features_with id (cond (d && t) (e ∷ left) left)
        ≡ numbers_with id (filter (are_distinct one id) (keys_of (cond t (e ∷ right) right)))
    by true is true rest =
        ap (λ (qs : List (ℕ × ℕ)). (id, e.0) ∷ qs) rest
        ∙ ap (λ b. numbers_with id (cond b (e.0 ∷ filter (are_distinct one id) (keys_of right)) (filter (are_distinct one id) (keys_of right)))) (sym is)
    by true is false rest = rest
    by false is true rest =
        rest ∙ ap (λ b. numbers_with id (cond b (e.0 ∷ filter (are_distinct one id) (keys_of right)) (filter (are_distinct one id) (keys_of right)))) (sym is)
    by false is false rest = rest

-- as it is called
pub row-by-converse : (one : Bool) (ask turned : PairAsk) (second : LayerContent) (e : ℕ × FeatureContent) (geometry : Geometry) → IsPairAsk ask → turned ≡ converse_pair ask → geometry ≡ e.1.geometry
    → numbers_with e.0 (filter (are_distinct one e.0) (ids_asked second turned geometry)) ≡ row one ask second e
row-by-converse one ask turned second e geometry nine is same =
    ap (λ a. numbers_with e.0 (filter (are_distinct one e.0) (ids_asked second a geometry))) is
    ∙ ap (λ g. numbers_with e.0 (filter (are_distinct one e.0) (ids_asked second (converse_pair ask) g))) same
    ∙ sym (asked-row one ask e.0 e.1 second.features nine)

-- ---- the features beside one
beside-from : (one : Bool) (ask : PairAsk) (id : ℕ) (f : FeatureContent) (es : List (ℕ × FeatureContent))
    → filter (λ other. are_distinct one other id) (keys_of (filter (λ e. are_asked ask e.1.geometry f.geometry) es)) ≡ keys_of (filter (λ e. is_pair one ask e (id, f)) es)
beside-from one ask id f [] = refl
beside-from one ask id f (e ∷ es) = by (are_distinct one e.0 id) refl (are_asked ask e.1.geometry f.geometry) (beside-from one ask id f es)
  where
    near : List (ℕ × FeatureContent)
    near = filter (λ x. are_asked ask x.1.geometry f.geometry) es

    left : List (ℕ × FeatureContent)
    left = filter (λ x. is_pair one ask x (id, f)) es

    by : (d : Bool) → are_distinct one e.0 id ≡ d → (t : Bool) → filter (λ other. are_distinct one other id) (keys_of near) ≡ keys_of left
        → filter (λ other. are_distinct one other id) (keys_of (cond t (e ∷ near) near)) ≡ keys_of (cond (are_distinct one e.0 id && t) (e ∷ left) left)
    by true is true rest =
        ap (λ b. cond b (e.0 ∷ filter (λ other. are_distinct one other id) (keys_of near)) (filter (λ other. are_distinct one other id) (keys_of near))) is
        ∙ ap (λ ks. e.0 ∷ ks) rest
        ∙ ap (λ b. keys_of (cond (b && true) (e ∷ left) left)) (sym is)
    by false is true rest =
        ap (λ b. cond b (e.0 ∷ filter (λ other. are_distinct one other id) (keys_of near)) (filter (λ other. are_distinct one other id) (keys_of near))) is
        ∙ rest
        ∙ ap (λ b. keys_of (cond (b && true) (e ∷ left) left)) (sym is)
    by true is false rest = rest ∙ ap (λ b. keys_of (cond (b && false) (e ∷ left) left)) (sym is)
    by false is false rest = rest ∙ ap (λ b. keys_of (cond (b && false) (e ∷ left) left)) (sym is)

pub beside-found : (one : Bool) (first : LayerContent) (ask : PairAsk) (id : ℕ) (f : FeatureContent) (geometry : Geometry) → geometry ≡ f.geometry
    → filter (λ other. are_distinct one other id) (ids_asked first ask geometry) ≡ found_beside one first ask (id, f)
beside-found one first ask id f geometry same =
    ap (λ g. filter (λ other. are_distinct one other id) (ids_asked first ask g)) same ∙ beside-from one ask id f first.features

-- ---- the loop over the first layer
pub rows-push : {X : Type 0} (f : ℕ × FeatureContent → List (ℕ × ℕ)) (g : X → ℕ × FeatureContent) (ys : List X) (x : X) → flat_map f (map g (ys ++ x ∷ [])) ≡ flat_map f (map g ys) ++ f (g x)
rows-push f g [] x = append-nil (f (g x))
rows-push f g (y ∷ ys) x = ap (λ r. f (g y) ++ r) (rows-push f g ys x) ∙ sym (append_assoc (f (g y)) (flat_map f (map g ys)) (f (g x)))

-- ---- what the calls answer
pub is-join : (one : Bool) (o p : Option LayerContent) (first second : LayerContent) (ask : PairAsk) (done : Joined) → o ≡ Some first → p ≡ Some second
    → IsStrictlySortedBy nat_cmp (keys_of first.features) → IsStrictlySortedBy nat_cmp (keys_of second.features) → HasValid first → HasValid second
    → done.pairs.items ≡ pairs_found one first ask second → IsJoin one o ask p (Ok done)
is-join one o p first second ask done is at rising others va vb are =
    subst (λ x. IsJoin one x ask p (Ok done)) (sym is)
    (subst (λ x. IsJoin one (Some first) ask x (Ok done)) (sym at)
    (are, subst (AreJoined one first ask second) (sym are) (joins_are_over_the_plane one first second ask rising others va vb)))

pub is-beside : (one : Bool) (o p : Option LayerContent) (first second : LayerContent) (ask : PairAsk) (id : ℕ) (feature : FeatureContent) (done : Beside) → o ≡ Some first → p ≡ Some second
    → feature_of second id ≡ Some feature → IsStrictlySortedBy nat_cmp (keys_of first.features) → HasValid first → IsValid feature.geometry
    → done.ids.items ≡ found_beside one first ask (id, feature) → IsBeside one o ask p id (Ok done)
is-beside one o p first second ask id feature done is at there rising va vb are =
    subst (λ x. IsBeside one x ask p id (Ok done)) (sym is)
    (subst (λ x. IsBeside one (Some first) ask x id (Ok done)) (sym at)
    (subst (λ x. IsBesideOf one first ask second id x (Ok done)) (sym there)
    (are, subst (AreBeside one first ask second id) (sym are) (beside_is_over_the_plane one first second ask id feature rising va vb there))))
