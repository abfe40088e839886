-- Which features are within a distance, what may be passed over, and that the answers are those over the plane.
use Rattle.std.proofs.Common.{◌≡◌, ◌∙◌, ℕ, Bool, true, false, List, [], ◌∷◌, filter, Option, Some, Ok, IfOk, IsSome, IsTrue, Result, refl, pos, ap, sym, subst}
use Rattle.std.specs.Prelude.{◌↔◌, cond}
use Rattle.std.specs.Global.{Vec}
use Rattle.std.specs.List.{AllByRecursion}
use Rattle.std.specs.Map.{keys_of, values_of}
use Rattle.std.specs.Option.{option_map_or}
use Rattle.std.proofs.lemmas.Bool.{both_ways, false_from_ne_true}
use Rattle.std.proofs.lemmas.Result.{IfOk-weaker}
use Rattle.sf_grid.specs.Fraction.{Fraction, fraction_eq, fraction_le, whole}
use Rattle.sf_geometry.specs.declared.extent.Extent.{Extent}
use Rattle.sf_geometry.specs.declared.geometry.Geometry.{Geometry}
use Rattle.sf_geometry.specs.Envelope.{envelope_of, extents_meet}
use Rattle.sf_valid_rules.specs.Validity.{IsValid}
use Rattle.sf_validity.specs.Held.{IsHeld}
use Rattle.sf_rtree.specs.Indexes.{Boxes, ids_meeting}
use Rattle.sf_distance.specs.Mixed.{number_of}
use Rattle.sf_distance.specs.Reaches.{square_of_reach, steps_of_reach}
use Rattle.sf_distance.specs.Squares.{IsLeastSquare, IsWithin}
use Rattle.sf_distance.specs.declared.square.Square.{Square}
use Rattle.sf_edge_distance.proofs.SearchLaws.{within-least}
use Rattle.sf_nearness.specs.Least.{least_square_of}
use Rattle.sf_nearness.specs.Sets.{IsOf}
use Rattle.sf_nearness.proofs.PairLaws.{computed_is_least}
use Rattle.sf_features.specs.Features.{FeatureContent}
use Rattle.sf_layers.specs.Boxes.{box_entry, boxes_of}
use Rattle.sf_layers.specs.Content.{LayerContent, feature_of}
use Rattle.sf_layers.specs.WellFormed.{IsFeature, IsLayer}
use Rattle.sf_query.proofs.FilterLaws.{IsFoundIn, each-filter, each-found, each-map, each-value, filter-within, found-passes, keys-filter, keys-there, passes-found, rising-filter, value-found}
use Rattle.sf_near.specs.Answers.{ids_within, is_within_at, is_within_of}
use Rattle.sf_near.specs.Grown.{grown}
use Rattle.sf_near.specs.Replies.{AreWithin, IsFoundWithin, IsMeasured, IsMeasuredTo, WithinIsOverThePlane}
use Rattle.sf_near.specs.Span.{square_of_span}
use Rattle.sf_near.specs.Surrounding.{Surrounding}
use Rattle.sf_near.proofs.GrownLaws.{near-boxes-meet}
use Rattle.sf_near.proofs.SpanLaws.{whole-within}

-- ---- one feature

-- what is computed of valid geometries is what is so over the plane
pub within-computed : (a b : Geometry) (bound : Fraction) → IsValid a → IsValid b → IsTrue (is_within_of bound a b) ↔ IsWithin (IsOf a) (IsOf b) bound
within-computed a b bound va vb = within-least (IsOf a) (IsOf b) (least_square_of a b) bound (computed_is_least a b va vb)

same-test : (x y : Bool) → (x ≡ true → y ≡ true) → (y ≡ true → x ≡ true) → x ≡ y
same-test true y h k = sym (h refl)
same-test false y h k = sym (false_from_ne_true y (λ t. both_ways false refl (k t)))

-- so the answer over the plane is the one that is computed
pub answer-computed : (a b : Geometry) (bound : Fraction) (answer : Bool) → IsValid a → IsValid b → IsTrue answer ↔ IsWithin (IsOf a) (IsOf b) bound → answer ≡ is_within_of bound a b
answer-computed a b bound answer va vb told =
    let computed = within-computed a b bound va vb in
    same-test answer (is_within_of bound a b) (λ t. computed.1 (told.0 t)) (λ t. told.1 (computed.0 t))

-- what doesn't meet the grown box isn't within the reach
pub far-fails : (a b : Geometry) (t : ℕ) → IsHeld a → IsHeld b → extents_meet (envelope_of a) (grown (steps_of_reach t) (envelope_of b)) ≡ false → is_within_of (square_of_reach t) a b ≡ false
far-fails a b t ha hb far =
    false_from_ne_true (is_within_of (square_of_reach t) a b)
    (λ h. both_ways (extents_meet (envelope_of a) (grown (steps_of_reach t) (envelope_of b))) far
    (near-boxes-meet a b t ha hb ((within-computed a b (square_of_reach t) ha.valid hb.valid).0 h)))

-- ---- what is told of a feature's geometry, where a geometry and a reach are seen as one

pub told-far : (a g b : Geometry) (t : ℕ) (e k : Extent) (met : Bool) (s : Surrounding) → IsHeld a → IsHeld b → g ≡ a → e ≡ envelope_of g → k ≡ grown (steps_of_reach t) (envelope_of b)
    → met ≡ extents_meet e k → met ≡ false → ◌≡◌ {A = Surrounding} (record { geometry = b; reach = t }) s → false ≡ is_within_of (square_of_reach s.reach) a s.geometry
told-far a g b t e k met s ha hb same box more is none view =
    subst (λ (s : Surrounding). false ≡ is_within_of (square_of_reach s.reach) a s.geometry) view
    (sym (far-fails a b t ha hb (sym (is ∙ ap (λ x. extents_meet x k) (box ∙ ap envelope_of same) ∙ ap (extents_meet (envelope_of a)) more) ∙ none)))

pub told-whole : (a g b : Geometry) (t : ℕ) (e k : Extent) (bound : Fraction) (s : Surrounding) → IsHeld a → IsHeld b → g ≡ a → e ≡ envelope_of g → k ≡ envelope_of b → bound ≡ square_of_reach t
    → IsTrue (fraction_le (whole (pos (square_of_span e k))) bound) → ◌≡◌ {A = Surrounding} (record { geometry = b; reach = t }) s → true ≡ is_within_of (square_of_reach s.reach) a s.geometry
told-whole a g b t e k bound s ha hb same box own is near view =
    subst (λ (s : Surrounding). true ≡ is_within_of (square_of_reach s.reach) a s.geometry) view
    (sym ((within-computed a b (square_of_reach t) ha.valid hb.valid).1
    (subst (λ (f : Fraction). IsWithin (IsOf a) (IsOf b) f) is
    (whole-within a b bound ha.valid hb.valid
    (subst (λ (k : Extent). IsTrue (fraction_le (whole (pos (square_of_span (envelope_of a) k))) bound)) own
    (subst (λ (e : Extent). IsTrue (fraction_le (whole (pos (square_of_span e k))) bound)) (box ∙ ap envelope_of same) near))))))

pub told-near : {E : Type 0} (r : Result Bool E) (a b : Geometry) (bound : Fraction) (t : ℕ) (s : Surrounding) → IsHeld a → IsHeld b → bound ≡ square_of_reach t
    → ◌≡◌ {A = Surrounding} (record { geometry = b; reach = t }) s → IfOk r (λ answer. IsTrue answer ↔ IsWithin (IsOf a) (IsOf b) bound)
    → IfOk r (λ answer. answer ≡ is_within_of (square_of_reach s.reach) a s.geometry)
told-near r a b bound t s ha hb is view told =
    subst (λ (s : Surrounding). IfOk r (λ answer. answer ≡ is_within_of (square_of_reach s.reach) a s.geometry)) view
    (IfOk-weaker r (λ answer. IsTrue answer ↔ IsWithin (IsOf a) (IsOf b) bound) (λ answer. answer ≡ is_within_of (square_of_reach t) a b)
    (λ answer h. answer-computed a b (square_of_reach t) answer ha.valid hb.valid (subst (λ (f : Fraction). IsTrue answer ↔ IsWithin (IsOf a) (IsOf b) f) is h)) told)

-- ---- the features that an index gives

-- the feature is within the bound
abbrev pub passes : Fraction → Geometry → ℕ × FeatureContent → Bool
passes bound b entry = is_within_of bound entry.1.geometry b

-- what was told of a feature's geometry tells whether the feature passes
pub told-passes : (bound : Fraction) (a b : Geometry) (entry : ℕ × FeatureContent) (answer told : Bool) → answer ≡ is_within_of bound a b → a ≡ entry.1.geometry → answer ≡ told
    → passes bound b entry ≡ told
told-passes bound a b entry answer told is same said = ap (λ (g : Geometry). is_within_of bound g b) (sym same) ∙ sym is ∙ said

-- its box meets this one
abbrev pub has_box_by : Extent → ℕ × FeatureContent → Bool
has_box_by extent entry = extents_meet (envelope_of entry.1.geometry) extent

-- an index gives the identifiers of the features whose boxes meet the given one
ids-by-boxes : (extent : Extent) (es : List (ℕ × FeatureContent)) → ids_meeting extent (boxes_of es) ≡ keys_of (filter (has_box_by extent) es)
ids-by-boxes extent [] = refl
ids-by-boxes extent (e ∷ es) = by (has_box_by extent e) (ids-by-boxes extent es)
  where
    by : (t : Bool) → ids_meeting extent (boxes_of es) ≡ keys_of (filter (has_box_by extent) es)
        → keys_of (cond t (box_entry e ∷ filter (λ f. extents_meet f.1 extent) (boxes_of es)) (filter (λ f. extents_meet f.1 extent) (boxes_of es)))
        ≡ keys_of (cond t (e ∷ filter (has_box_by extent) es) (filter (has_box_by extent) es))
    by true rest = ap (λ ks. e.0 ∷ ks) rest
    by false rest = rest

-- the identifiers of features of a layer whose boxes meet the given one
pub record AreByBoxes (layer : LayerContent) (extent : Extent) (items : List ℕ) : Type 0 where
  pub fits : IsLayer layer
  pub are : items ≡ keys_of (filter (has_box_by extent) layer.features)

pub are-by-boxes : (layer : LayerContent) (extent : Extent) (index : Boxes) (items : List ℕ) → IsLayer layer → items ≡ ids_meeting extent index → index ≡ boxes_of layer.features → AreByBoxes layer extent items
are-by-boxes layer extent index items fits met agrees = record { fits = fits; are = met ∙ ap (ids_meeting extent) agrees ∙ ids-by-boxes extent layer.features }

boxes-found : (layer : LayerContent) (extent : Extent) → IsLayer layer → AllByRecursion (IsFoundIn layer.features) (filter (has_box_by extent) layer.features)
boxes-found layer extent fits = each-filter (has_box_by extent) (IsFoundIn layer.features) layer.features (each-found layer.features fits.rising)

-- each of them is there
pub boxes-there : (layer : LayerContent) (extent : Extent) (items : List ℕ) → AreByBoxes layer extent items → AllByRecursion (λ id. IsSome (feature_of layer id)) items
boxes-there layer extent items by =
    subst (λ ids. AllByRecursion (λ id. IsSome (feature_of layer id)) ids) (sym by.are)
    (keys-there layer.features (filter (has_box_by extent) layer.features) (boxes-found layer extent by.fits))

-- the features whose boxes meet the grown one have all answers
boxes-answer : (layer : LayerContent) (b : Geometry) (t : ℕ) → IsLayer layer → IsHeld b
    → filter (passes (square_of_reach t) b) (filter (has_box_by (grown (steps_of_reach t) (envelope_of b))) layer.features) ≡ filter (passes (square_of_reach t) b) layer.features
boxes-answer layer b t fits hb =
    filter-within (passes (square_of_reach t) b) (has_box_by (grown (steps_of_reach t) (envelope_of b))) layer.features
    (each-map (λ e. IsFeature layer.kind layer.columns e.1) (λ e. has_box_by (grown (steps_of_reach t) (envelope_of b)) e ≡ false → passes (square_of_reach t) b e ≡ false)
    (λ e f far. far-fails e.1.geometry b t (record { valid = f.valid; on_grid = f.on_grid }) hb far) layer.features (each-value (IsFeature layer.kind layer.columns) layer.features fits.features))

-- so those of them that are within the reach are the answer
pub boxes-within : (layer : LayerContent) (b : Geometry) (t : ℕ) (items : List ℕ) → AreByBoxes layer (grown (steps_of_reach t) (envelope_of b)) items → IsHeld b
    → filter (is_within_at layer (square_of_reach t) b) items ≡ ids_within layer (square_of_reach t) b
boxes-within layer b t items by hb =
    let extent = grown (steps_of_reach t) (envelope_of b) in
    ap (filter (is_within_at layer (square_of_reach t) b)) by.are
    ∙ keys-filter (λ (f : FeatureContent). is_within_of (square_of_reach t) f.geometry b) layer.features (filter (has_box_by extent) layer.features) (boxes-found layer extent by.fits)
    ∙ ap keys_of (boxes-answer layer b t by.fits hb)

-- what is told of the feature of an identifier
pub there-within : (layer : LayerContent) (bound : Fraction) (a b : Geometry) (id : ℕ) (f : FeatureContent) (answer : Bool) → feature_of layer id ≡ Some f → answer ≡ is_within_of bound a b → a ≡ f.geometry
    → is_within_at layer bound b id ≡ answer
there-within layer bound a b id f answer found is same =
    ap (λ (o : Option FeatureContent). option_map_or (λ (feature : FeatureContent). is_within_of bound feature.geometry b) o false) found ∙ ap (λ (g : Geometry). is_within_of bound g b) (sym same) ∙ sym is

-- ---- over the plane

pub within_is_over_the_plane : WithinIsOverThePlane
within_is_over_the_plane layer bound b rising valid vb = record {
  rising = rising-filter (passes bound b) layer.features rising;
  just = λ id. (
    λ h.
        let f = found-passes (λ (feature : FeatureContent). is_within_of bound feature.geometry b) layer.features id rising h in
        (f.0, f.1, (within-computed f.0.geometry b bound (of id f.0 f.1) vb).0 f.2),
    λ w.
        passes-found (λ (feature : FeatureContent). is_within_of bound feature.geometry b) layer.features id w.0 w.1
        ((within-computed w.0.geometry b bound (of id w.0 w.1) vb).1 w.2),
  );
}
  where
    of : (id : ℕ) (f : FeatureContent) → feature_of layer id ≡ Some f → IsValid f.geometry
    of id f found = value-found (λ (feature : FeatureContent). IsValid feature.geometry) _ f layer.features valid found

-- ---- what the calls answer

pub geometries-valid : (layer : LayerContent) → IsLayer layer → AllByRecursion (λ (feature : FeatureContent). IsValid feature.geometry) (values_of layer.features)
geometries-valid layer fits = each-map (IsFeature layer.kind layer.columns) (λ (feature : FeatureContent). IsValid feature.geometry) (λ feature f. f.valid) (values_of layer.features) fits.features

pub found-within : (o : Option LayerContent) (layer : LayerContent) (bound : Fraction) (b : Geometry) (ids : Vec ℕ) → o ≡ Some layer → IsLayer layer → IsValid b
    → ids.items ≡ ids_within layer bound b → IsFoundWithin o bound b (Ok ids)
found-within o layer bound b ids is fits vb are =
    subst (λ p. IsFoundWithin p bound b (Ok ids)) (sym is)
    (are, subst (AreWithin layer bound b) (sym are) (within_is_over_the_plane layer bound b fits.rising (geometries-valid layer fits) vb))

pub measured : (o : Option LayerContent) (layer : LayerContent) (id : ℕ) (feature : FeatureContent) (a b : Geometry) (square : Square) → o ≡ Some layer
    → feature_of layer id ≡ Some feature → a ≡ feature.geometry → IsLeastSquare (IsOf a) (IsOf b) (number_of square) → IsTrue (fraction_eq (number_of square) (least_square_of a b))
    → IsMeasured o id b (Ok square)
measured o layer id feature a b square is found same least equal =
    subst (λ p. IsMeasured p id b (Ok square)) (sym is)
    (subst (λ p. IsMeasuredTo p b (Ok square)) (sym found) (
      subst (λ (g : Geometry). IsLeastSquare (IsOf g) (IsOf b) (number_of square)) same least,
      subst (λ (g : Geometry). IsTrue (fraction_eq (number_of square) (least_square_of g b))) same equal,
    ))
