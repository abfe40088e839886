-- Identifiers that are added one by one, and those that an ask finds.
use Rattle.std.proofs.Common.{◌≡◌, ◌∙◌, ◌⊎◌, ℕ, ◌+◌, ◌<◌, Bool, true, false, ◌&&◌, ◌||◌, cond, List, [], ◌∷◌, ◌++◌, append_assoc, filter, length, take, get_or, inl, inr, refl, ap, sym, subst}
use Rattle.std.specs.List.{Contains, list_any}
use Rattle.std.specs.Map.{keys_of}
use Rattle.std.proofs.lemmas.List.{take_more}
use Rattle.std.proofs.lemmas.List.Elements.{Contains-append_left, Contains-push, Contains-push_cases}
use Rattle.sf_geometry.specs.declared.geometry.Geometry.{Geometry}
use Rattle.sf_features.specs.Features.{FeatureContent}
use Rattle.sf_layers.specs.Content.{LayerContent}
use Rattle.sf_query.specs.declared.ask.Ask.{Ask}
use Rattle.sf_query.specs.Answers.{ids_found, is_asked}
use Rattle.sf_joins.specs.Converse.{HasNineLetters, converse}
use Rattle.sf_joins.specs.Joins.{are_distinct, is_pair}
use Rattle.sf_joins.specs.Passed.{Matrix}
use Rattle.sf_joins.proofs.ConverseLaws.{asks-turn-round}
use Rattle.sf_reach.specs.Added.{AreAdded}

-- ---- one by one

-- one more, behind those that were added
pub added-one : (ids old ks new : List ℕ) (i : ℕ) → i < length ids → AreAdded (Contains (take i ids)) old ks → AreAdded (λ other. get_or ids i 0 ≡ other) ks new
    → AreAdded (Contains (take (i + 1) ids)) old new
added-one ids old ks new i below was now = record {
  more = was.more ++ now.more;
  behind = now.behind ∙ ap (λ l. l ++ now.more) was.behind ∙ append_assoc old was.more now.more;
  all = λ id c. all id (Contains-push_cases (take i ids) (get_or ids i 0) id (subst (λ l. Contains l id) next c));
  only = λ id c. only id (now.only id c);
}
  where
    next : take (i + 1) ids ≡ take i ids ++ get_or ids i 0 ∷ []
    next = take_more ids i 0 below

    all : (id : ℕ) → Contains (take i ids) id ⊎ (get_or ids i 0 ≡ id) → Contains new id
    all id (inl c) = subst (λ l. Contains l id) (sym now.behind) (Contains-append_left ks now.more id (was.all id c))
    all id (inr same) = now.all id same

    taken : (id : ℕ) → Contains old id ⊎ Contains (take i ids) id → Contains old id ⊎ Contains (take (i + 1) ids) id
    taken id (inl c) = inl c
    taken id (inr c) = inr (subst (λ l. Contains l id) (sym next) (Contains-append_left (take i ids) (get_or ids i 0 ∷ []) id c))

    only : (id : ℕ) → Contains ks id ⊎ (get_or ids i 0 ≡ id) → Contains old id ⊎ Contains (take (i + 1) ids) id
    only id (inl c) = taken id (was.only id c)
    only id (inr same) = inr (subst (λ l. Contains l id) (sym next) (subst (Contains (take i ids ++ get_or ids i 0 ∷ [])) same (Contains-push (take i ids) (get_or ids i 0))))

-- ---- what an ask finds, the other way round

and-true : (b : Bool) → b ≡ b && true
and-true true = refl
and-true false = refl

and-false : (b : Bool) → false ≡ b && false
and-false true = refl
and-false false = refl

any-pair : (one : Bool) (ask : Ask) (id : ℕ) (f : FeatureContent) (es : List (ℕ × FeatureContent)) → HasNineLetters ask
    → list_any (are_distinct one id) (keys_of (filter (λ e. is_asked (converse ask) e.1.geometry f.geometry) es)) ≡ list_any (is_pair one (Matrix ask) (id, f)) es
any-pair one ask id f [] nine = refl
any-pair one ask id f (e ∷ es) nine =
    by (is_asked (converse ask) e.1.geometry f.geometry) (any-pair one ask id f es nine)
    ∙ ap (λ t. (are_distinct one id e.0 && t) || list_any (is_pair one (Matrix ask) (id, f)) es) (sym (asks-turn-round ask f.geometry e.1.geometry nine))
  where
    left : List (ℕ × FeatureContent)
    left = filter (λ x. is_asked (converse ask) x.1.geometry f.geometry) es

    by : (t : Bool) → list_any (are_distinct one id) (keys_of left) ≡ list_any (is_pair one (Matrix ask) (id, f)) es
        → list_any (are_distinct one id) (keys_of (cond t (e ∷ left) left)) ≡ ((are_distinct one id e.0 && t) || list_any (is_pair one (Matrix ask) (id, f)) es)
    by true rest = ap (λ b. are_distinct one id e.0 || b) rest ∙ ap (λ b. b || list_any (is_pair one (Matrix ask) (id, f)) es) (and-true (are_distinct one id e.0))
    by false rest = rest ∙ ap (λ b. b || list_any (is_pair one (Matrix ask) (id, f)) es) (and-false (are_distinct one id e.0))

pub any-asked : (one : Bool) (ask turned : Ask) (layer : LayerContent) (id : ℕ) (f : FeatureContent) (geometry : Geometry) → HasNineLetters ask → turned ≡ converse ask → geometry ≡ f.geometry
    → list_any (are_distinct one id) (ids_found layer turned geometry) ≡ list_any (is_pair one (Matrix ask) (id, f)) layer.features
any-asked one ask turned layer id f geometry nine is same =
    ap (λ a. list_any (are_distinct one id) (ids_found layer a geometry)) is
    ∙ ap (λ g. list_any (are_distinct one id) (ids_found layer (converse ask) g)) same
    ∙ any-pair one ask id f layer.features nine
