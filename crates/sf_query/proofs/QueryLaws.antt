-- What a query may pass over, and that its answers are those over the plane.
use Rattle.std.proofs.Common.{◌≡◌, ◌∙◌, ℕ, ◌&&◌, Bool, Bor, true, false, List, [], ◌∷◌, filter, length, nat_lt, option_copied, Option, None, Some, Ok, IsSome, IsTrue, IsFalse, refl, ap, sym, subst}
use Rattle.std.proofs.lemmas.Bool.{both_ways, false≢true, not-false}
use Rattle.std.proofs.lemmas.Map.Entries.{length-keys_of}
use Rattle.std.specs.Prelude.{bytes_eq, cond, not}
use Rattle.std.specs.List.{AllByRecursion}
use Rattle.std.specs.Map.{keys_of}
use Rattle.std.specs.Option.{option_map_or}
use Rattle.sf_geometry.specs.declared.extent.Extent.{Extent}
use Rattle.sf_geometry.specs.declared.geometry.Geometry.{Geometry}
use Rattle.sf_geometry.specs.Envelope.{envelope_of, extents_meet}
use Rattle.sf_valid_rules.specs.Validity.{IsValid}
use Rattle.sf_features.specs.Features.{FeatureContent}
use Rattle.sf_rtree.specs.Indexes.{Boxes, ids_meeting}
use Rattle.sf_layers.specs.Boxes.{box_entry, boxes_of}
use Rattle.sf_layers.specs.Content.{Content, LayerContent, feature_of, layer_of}
use Rattle.sf_layers.specs.WellFormed.{IsFeature, IsLayer, IsWellFormed}
use Rattle.sf_known.specs.declared.matrix.Matrix.{Matrix}
use Rattle.sf_relate.specs.Matrices.{IsMatrix, matrix_of}
use Rattle.sf_known.specs.Patterns.{has_contact}
use Rattle.sf_relate.specs.ByKinds.{ShareNone}
use Rattle.sf_known.proofs.ContactLaws.{patterns_need_contact, predicates_need_contact}
use Rattle.sf_relate.proofs.EnvelopeLaws.{apart_has_no_contact, valid-closed}
use Rattle.sf_relate.proofs.SetLaws.{matrices_are_over_the_plane}
use Rattle.sf_relate.proofs.SharedLaws.{contact_is_shared}
use Rattle.sf_query.specs.declared.ask.Ask.{Ask}
use Rattle.sf_query.specs.declared.ask.Ask.TheVariants.{Matching, Named}
use Rattle.sf_query.specs.declared.found.Found.{Found}
use Rattle.sf_query.specs.Answers.{IsAnswer, dim_of_geometry, ids_found, is_answered, is_asked, is_asked_at, is_near, needs_contact}
use Rattle.sf_query.specs.Replies.{AnswersAreOverThePlane, AreFound, IsQueried, IsRelated, IsRelatedTo}
use Rattle.sf_query.proofs.FilterLaws.{IsFoundIn, each-filter, each-found, each-map, each-value, filter-within, found-passes, filter-turn, keys-filter, keys-there, passes-found, rising-filter, value-found, viewed}

-- ---- what is known without a walk

-- where contact is denied no point is shared
pub apart-known : (told : Bool) (a b : Geometry) → told ≡ has_contact (matrix_of a b) → told ≡ false → ShareNone a b
apart-known told a b is none share = both_ways told none (is ∙ (contact_is_shared a b).shared.1 share)

-- ---- what may be passed over

-- the feature is as asked
abbrev pub passes : Ask → Geometry → ℕ × FeatureContent → Bool
passes ask b entry = is_asked ask entry.1.geometry b

fails-without : (ask : Ask) (a b : Geometry) → IsTrue (needs_contact ask) → IsFalse (has_contact (matrix_of a b)) → is_asked ask a b ≡ false
fails-without (Matching letters) a b needs none = patterns_need_contact letters (matrix_of a b) needs none refl
fails-without (Named predicate) a b needs none = predicates_need_contact predicate (dim_of_geometry a) (dim_of_geometry b) (matrix_of a b) needs none refl

-- where contact is needed, what isn't near isn't as asked
pub far-fails : (ask : Ask) (a b : Geometry) → IsTrue (needs_contact ask) → IsValid a → IsValid b → extents_meet (envelope_of a) (envelope_of b) ≡ false → is_asked ask a b ≡ false
far-fails ask a b needs va vb far = fails-without ask a b needs (apart_has_no_contact a b (valid-closed a va) (valid-closed b vb) far)

-- so the near features have all answers
pub near-answers : (layer : LayerContent) (ask : Ask) (b : Geometry) → IsLayer layer → IsValid b → IsTrue (needs_contact ask)
    → filter (passes ask b) (filter (is_near b) layer.features) ≡ filter (passes ask b) layer.features
near-answers layer ask b is vb needs =
    filter-within (passes ask b) (is_near b) layer.features
    (each-map (λ e. IsFeature layer.kind layer.columns e.1) (λ e. is_near b e ≡ false → passes ask b e ≡ false)
    (λ e f far. far-fails ask e.1.geometry b needs f.valid vb far) layer.features (each-value (IsFeature layer.kind layer.columns) layer.features is.features))

-- what a pass over all features finds is the answer
pub pass-answers : (layer : LayerContent) (ask : Ask) (b : Geometry) (needed : Bool) (found : Found) → IsLayer layer → IsValid b → needed ≡ needs_contact ask
    → found.ids.items ≡ keys_of (filter (passes ask b) (viewed needed (is_near b) layer.features)) → found.looked ≡ length (viewed needed (is_near b) layer.features)
    → IsAnswer layer ask b found
pass-answers layer ask b true found is vb same ids looked = record {
  ids = ids ∙ ap keys_of (near-answers layer ask b is vb (sym same));
  looked = looked ∙ ap (λ n. length (viewed n (is_near b) layer.features)) same;
}
pass-answers layer ask b false found is vb same ids looked = record {
  ids = ids;
  looked = looked ∙ ap (λ n. length (viewed n (is_near b) layer.features)) same;
}

-- ---- a pass over all features

near-same : (a b g : Geometry) (extent : Extent) (entry : ℕ × FeatureContent) → a ≡ entry.1.geometry → extent ≡ envelope_of g → g ≡ b
    → extents_meet (envelope_of a) extent ≡ is_near b entry
near-same a b g extent entry same is given =
    ap (λ x. extents_meet (envelope_of x) extent) same ∙ ap (λ x. extents_meet (envelope_of entry.1.geometry) x) (is ∙ ap envelope_of given)

both-not : (needed near : Bool) → (needed && not near) ≡ false → needed ≡ true → near ≡ true
both-not true near none must = not-false near none
both-not false near none must = absurd (false≢true must)

-- what the test of boxes tells of a feature that is looked at
pub looked-on : (over needed : Bool) (a b g : Geometry) (extent : Extent) (entry : ℕ × FeatureContent) → over ≡ (needed && not (extents_meet (envelope_of a) extent))
    → a ≡ entry.1.geometry → extent ≡ envelope_of g → g ≡ b → over ≡ false → needed ≡ true → is_near b entry ≡ true
looked-on over needed a b g extent entry test same is given denied must =
    sym (near-same a b g extent entry same is given) ∙ both-not needed (extents_meet (envelope_of a) extent) (sym test ∙ denied) must

-- what was asked of a feature's geometry tells whether the feature passes
pub asked-passes : (ask : Ask) (a b : Geometry) (entry : ℕ × FeatureContent) (answer told : Bool) → answer ≡ is_asked ask a b → a ≡ entry.1.geometry → answer ≡ told → passes ask b entry ≡ told
asked-passes ask a b entry answer told is same said = ap (λ g. is_asked ask g b) (sym same) ∙ sym is ∙ said

-- ---- a pass over the features that an index gives

-- an index gives the identifiers of the near features
pub ids-near : (b : Geometry) (es : List (ℕ × FeatureContent)) → ids_meeting (envelope_of b) (boxes_of es) ≡ keys_of (filter (is_near b) es)
ids-near b [] = refl
ids-near b (e ∷ es) = by (is_near b e) (ids-near b es)
  where
    by : (t : Bool) → ids_meeting (envelope_of b) (boxes_of es) ≡ keys_of (filter (is_near b) es)
        → keys_of (cond t (box_entry e ∷ filter (λ f. extents_meet f.1 (envelope_of b)) (boxes_of es)) (filter (λ f. extents_meet f.1 (envelope_of b)) (boxes_of es)))
        ≡ keys_of (cond t (e ∷ filter (is_near b) es) (filter (is_near b) es))
    by true rest = ap (λ ks. e.0 ∷ ks) rest
    by false rest = rest

-- each of them is found in the layer
pub near-found : (layer : LayerContent) (b : Geometry) → IsLayer layer → AllByRecursion (IsFoundIn layer.features) (filter (is_near b) layer.features)
near-found layer b is = each-filter (is_near b) (IsFoundIn layer.features) layer.features (each-found layer.features is.rising)

pub items-near : (items : List ℕ) (index : Boxes) (b : Geometry) (es : List (ℕ × FeatureContent)) → items ≡ ids_meeting (envelope_of b) index → index ≡ boxes_of es → items ≡ keys_of (filter (is_near b) es)
items-near items index b es met agrees = met ∙ ap (ids_meeting (envelope_of b)) agrees ∙ ids-near b es

-- the identifiers that the index gave, and their features
pub record AreNear (layer : LayerContent) (b : Geometry) (items : List ℕ) : Type 0 where
  pub fits : IsLayer layer
  pub are : items ≡ keys_of (filter (is_near b) layer.features)

-- each identifier that the index gave is there
pub near-there : (layer : LayerContent) (b : Geometry) (items : List ℕ) → AreNear layer b items → AllByRecursion (λ id. IsSome (feature_of layer id)) items
near-there layer b items near =
    subst (λ ids. AllByRecursion (λ id. IsSome (feature_of layer id)) ids) (sym near.are)
    (keys-there layer.features (filter (is_near b) layer.features) (near-found layer b near.fits))

-- those of them whose features are as asked are the answer
pub near-asked : (layer : LayerContent) (ask : Ask) (b : Geometry) (items : List ℕ) → AreNear layer b items → IsValid b → IsTrue (needs_contact ask)
    → filter (is_asked_at layer ask b) items ≡ ids_found layer ask b
near-asked layer ask b items near vb needs =
    ap (filter (is_asked_at layer ask b)) near.are
    ∙ keys-filter (λ f. is_asked ask f.geometry b) layer.features (filter (is_near b) layer.features) (near-found layer b near.fits)
    ∙ ap keys_of (near-answers layer ask b near.fits vb needs)

-- and of those behind an identifier
pub behind-asked : (layer : LayerContent) (ask : Ask) (b : Geometry) (items behind : List ℕ) (id : ℕ) → AreNear layer b items → IsValid b → IsTrue (needs_contact ask)
    → behind ≡ filter (λ other. nat_lt id other) items → filter (is_asked_at layer ask b) behind ≡ filter (λ other. nat_lt id other) (ids_found layer ask b)
behind-asked layer ask b items behind id near vb needs is =
    ap (filter (is_asked_at layer ask b)) is
    ∙ filter-turn (is_asked_at layer ask b) (λ other. nat_lt id other) items
    ∙ ap (filter (λ other. nat_lt id other)) (near-asked layer ask b items near vb needs)

pub index-answers : (layer : LayerContent) (ask : Ask) (b : Geometry) (items : List ℕ) (found : Found) → AreNear layer b items → IsValid b → IsTrue (needs_contact ask)
    → found.ids.items ≡ filter (is_asked_at layer ask b) items → found.looked ≡ length items → IsAnswer layer ask b found
index-answers layer ask b items found near vb needs are looked = record {
  ids = are ∙ near-asked layer ask b items near vb needs;
  looked = looked ∙ ap length near.are ∙ length-keys_of (filter (is_near b) layer.features) ∙ ap (λ n. length (viewed n (is_near b) layer.features)) (sym needs);
}

-- one that passes is there
pub there-asked : (layer : LayerContent) (ask : Ask) (a b : Geometry) (id : ℕ) (f : FeatureContent) (answer : Bool) → feature_of layer id ≡ Some f → answer ≡ is_asked ask a b → a ≡ f.geometry
    → is_asked_at layer ask b id ≡ answer
there-asked layer ask a b id f answer found is same =
    ap (λ o. option_map_or (λ feature. is_asked ask feature.geometry b) o false) found ∙ ap (λ g. is_asked ask g b) (sym same) ∙ sym is

-- what a look-up copies is there where it is
pub some-copied : {X : Type 0} (o : Option (Bor X)) (p : Option X) → option_copied o ≡ p → IsSome p → IsSome o
some-copied None p is some = subst IsSome (sym is) some
some-copied (Some x) p is some = refl

-- ---- over the plane

pub answers_are_over_the_plane : AnswersAreOverThePlane
answers_are_over_the_plane layer ask b rising = record {
  rising = rising-filter (passes ask b) layer.features rising;
  just = λ id. (
    λ h.
        let f = found-passes (λ feature. is_asked ask feature.geometry b) layer.features id rising h in
        (f.0, matrix_of f.0.geometry b, f.1, (matrices_are_over_the_plane f.0.geometry b).computed, f.2),
    λ w.
        passes-found (λ feature. is_asked ask feature.geometry b) layer.features id w.0 w.2
        (subst (λ entries. is_answered ask w.0.geometry b entries ≡ true) ((matrices_are_over_the_plane w.0.geometry b).only w.1 w.3) w.4),
  );
}

-- ---- what the calls answer

pub layer-fits : (content : Content) (name : List ℕ) (layer : LayerContent) → IsWellFormed content → layer_of content name ≡ Some layer → IsLayer layer
layer-fits content name layer fits found = value-found IsLayer (bytes_eq name) layer content fits.layers found

pub queried : (o : Option LayerContent) (layer : LayerContent) (ask : Ask) (b : Geometry) (found : Found) → o ≡ Some layer → IsLayer layer
    → IsAnswer layer ask b found → IsQueried o ask b (Ok found)
queried o layer ask b found is fits answer =
    subst (λ p. IsQueried p ask b (Ok found)) (sym is)
    (answer, subst (AreFound layer ask b) (sym answer.ids) (answers_are_over_the_plane layer ask b fits.rising))

pub related : (o : Option LayerContent) (layer : LayerContent) (id : ℕ) (feature : FeatureContent) (a b : Geometry) (matrix : Matrix) → o ≡ Some layer
    → feature_of layer id ≡ Some feature → a ≡ feature.geometry → matrix.0 ≡ matrix_of a b → IsMatrix a b matrix.0 → IsRelated o id b (Ok matrix)
related o layer id feature a b matrix is found same computed plane =
    subst (λ p. IsRelated p id b (Ok matrix)) (sym is)
    (subst (λ p. IsRelatedTo p b (Ok matrix)) (sym found)
    (computed ∙ ap (λ g. matrix_of g b) same, subst (λ g. IsMatrix g b matrix.0) same plane))
