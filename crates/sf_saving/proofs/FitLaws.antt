-- What a well-formed content has fits the fields of a file.
use Rattle.std.proofs.Common.{◌≡◌, ◌<◌, ℕ, zero, suc, List, [], ◌∷◌, Some, length, slice_get, subst, arith}
use Rattle.std.specs.List.{AllByRecursion}
use Rattle.std.specs.Map.{values_of}
use Rattle.sf_features.specs.Features.{FeatureContent}
use Rattle.sf_layers.specs.Content.{Content, LayerContent}
use Rattle.sf_layers.specs.WellFormed.{IsFeature, IsLayer, IsWellFormed}
use Rattle.sf_format.proofs.Counts.{column-count, feature-count, value-count}
use Rattle.sf_saving.specs.Fits.{EntryFits, FeatureFits}

features-fit : (layer : LayerContent) → length layer.columns < 65536 → (fs : List FeatureContent) → AllByRecursion (IsFeature layer.kind layer.columns) fs → AllByRecursion FeatureFits fs
features-fit layer few [] all = tt
features-fit layer few (f ∷ fs) all =
    let count = value-count layer.columns f.values all.0.rising all.0.values in
    (record { sized = all.0.valid.sized; few = omega (arith, count, few) }, features-fit layer few fs all.1)

entry-fits : (entry : List ℕ × LayerContent) → IsLayer entry.1 → EntryFits entry
entry-fits entry is =
    let columns = column-count entry.1 is in
    let features = feature-count entry.1 is in
    let few : length entry.1.columns < 65536 = omega (arith, columns, is.next_column.1) in
    record {
      few_columns = few;
      few_features = omega (arith, features, is.next_id.1);
      features = features-fit entry.1 few (values_of entry.1.features) is.features;
    }

-- each layer of a well-formed content fits
pub fits-at : (content : Content) → IsWellFormed content → (place : ℕ) (entry : List ℕ × LayerContent) → slice_get content place ≡ Some entry → EntryFits entry
fits-at content is place entry there = at content place is.layers there
  where
    at : (entries : Content) (i : ℕ) → AllByRecursion IsLayer (values_of entries) → slice_get entries i ≡ Some entry → EntryFits entry
    at [] i layers there = absurd cc
    at (e ∷ es) zero layers there = let same : ◌≡◌ {A = List ℕ × LayerContent} e entry = cc in subst EntryFits same (entry-fits e layers.0)
    at (e ∷ es) (suc i) layers there = at es i layers.1 there
