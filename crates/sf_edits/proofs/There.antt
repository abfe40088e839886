-- What an inverse that fits a content has in it.
use Rattle.std.proofs.Common.{◌≡◌, ℕ, ◌-◌, List, length, Option, None, Some, option_and_then, refl}
use Rattle.std.specs.Prelude.{slice_get}
use Rattle.std.specs.Option.{option_map_or}
use Rattle.sf_grid.specs.Plane.{Coordinates}
use Rattle.sf_geometry.specs.declared.geometry.Geometry.{Geometry}
use Rattle.sf_geometry.specs.Vertices.{vertex_of}
use Rattle.sf_features.specs.declared.column.Column.{Column}
use Rattle.sf_features.specs.Features.{FeatureContent}
use Rattle.sf_layers.specs.Content.{Content, LayerContent, feature_in}
use Rattle.sf_steps.specs.declared.edit.Edit.TheVariants as edits
use Rattle.sf_steps.specs.declared.inverse.Inverse.TheVariants.{TakeLayer, RenameLayer, TakeColumn, TakeFeature, PutGeometry, TakeVertex, MoveVertex}
use Rattle.sf_steps.specs.Inverses.{Fits, adding_column, adding_layer, described, inverse_of, last_column, no_edit, renaming, vertex_in}

-- an inverse that takes back no edit at all doesn't fit: its `same` names the inverse of a layer that is dropped

pub layer-there : (content : Content) → Fits content TakeLayer → (entry : List ℕ × LayerContent) × (slice_get content (length content - 1) ≡ Some entry)
layer-there content fits = by (slice_get content (length content - 1)) refl fits.same
  where
    by : (o : Option (List ℕ × LayerContent)) → slice_get content (length content - 1) ≡ o → inverse_of (described content TakeLayer) (adding_layer o) ≡ TakeLayer
        → (entry : List ℕ × LayerContent) × (slice_get content (length content - 1) ≡ Some entry)
    by None is same = cc
    by (Some entry) is same = (entry, is)

pub renamed-there : (content : Content) (name : List ℕ) (place : ℕ) (stored : List ℕ) → Fits content (RenameLayer name place stored) → (entry : List ℕ × LayerContent) × (slice_get content place ≡ Some entry)
renamed-there content name place stored fits = by (slice_get content place) refl fits.same
  where
    by : (o : Option (List ℕ × LayerContent)) → slice_get content place ≡ o → inverse_of (described content (RenameLayer name place stored)) (renaming name o) ≡ RenameLayer name place stored
        → (entry : List ℕ × LayerContent) × (slice_get content place ≡ Some entry)
    by None is same = cc
    by (Some entry) is same = (entry, is)

pub column-there : (content : Content) (name : List ℕ) → Fits content (TakeColumn name) → (column : Column) × (last_column content name ≡ Some column)
column-there content name fits = by (last_column content name) refl fits.same
  where
    by : (o : Option Column) → last_column content name ≡ o → inverse_of (described content (TakeColumn name)) (adding_column name o) ≡ TakeColumn name → (column : Column) × (last_column content name ≡ Some column)
    by None is same = cc
    by (Some column) is same = (column, is)

pub feature-there : (content : Content) (name : List ℕ) (id : ℕ) → Fits content (TakeFeature name id) → (feature : FeatureContent) × (feature_in content name id ≡ Some feature)
feature-there content name id fits = by (feature_in content name id) refl fits.same
  where
    by : (o : Option FeatureContent) → feature_in content name id ≡ o
        → inverse_of (described content (TakeFeature name id)) (option_map_or (λ feature. edits.AddFeature name feature.geometry) o no_edit) ≡ TakeFeature name id
        → (feature : FeatureContent) × (feature_in content name id ≡ Some feature)
    by None is same = cc
    by (Some feature) is same = (feature, is)

pub geometry-there : (content : Content) (name : List ℕ) (id : ℕ) (old : Geometry) → Fits content (PutGeometry name id old) → (feature : FeatureContent) × (feature_in content name id ≡ Some feature)
geometry-there content name id old fits = by (feature_in content name id) refl fits.same
  where
    by : (o : Option FeatureContent) → feature_in content name id ≡ o
        → inverse_of (described content (PutGeometry name id old)) (option_map_or (λ feature. edits.ReplaceGeometry name id feature.geometry) o no_edit) ≡ PutGeometry name id old
        → (feature : FeatureContent) × (feature_in content name id ≡ Some feature)
    by None is same = cc
    by (Some feature) is same = (feature, is)

pub inserted-there : (content : Content) (name : List ℕ) (id part ring index : ℕ) → Fits content (TakeVertex name id part ring index) → (p : Coordinates) × (vertex_in content name id part ring index ≡ Some p)
inserted-there content name id part ring index fits = by (vertex_in content name id part ring index) refl fits.same
  where
    by : (o : Option Coordinates) → vertex_in content name id part ring index ≡ o
        → inverse_of (described content (TakeVertex name id part ring index)) (option_map_or (edits.InsertVertex name id part ring index) o no_edit) ≡ TakeVertex name id part ring index
        → (p : Coordinates) × (vertex_in content name id part ring index ≡ Some p)
    by None is same = cc
    by (Some p) is same = (p, is)

pub moved-there : (content : Content) (name : List ℕ) (id part ring index : ℕ) (old : Coordinates) → Fits content (MoveVertex name id part ring index old) → (p : Coordinates) × (vertex_in content name id part ring index ≡ Some p)
moved-there content name id part ring index old fits = by (vertex_in content name id part ring index) refl fits.same
  where
    by : (o : Option Coordinates) → vertex_in content name id part ring index ≡ o
        → inverse_of (described content (MoveVertex name id part ring index old)) (option_map_or (edits.MoveVertex name id part ring index) o no_edit) ≡ MoveVertex name id part ring index old
        → (p : Coordinates) × (vertex_in content name id part ring index ≡ Some p)
    by None is same = cc
    by (Some p) is same = (p, is)

-- the feature of a vertex that is there
pub feature-of_vertex : (content : Content) (name : List ℕ) (id part ring index : ℕ) (p : Coordinates) → vertex_in content name id part ring index ≡ Some p
    → (feature : FeatureContent) × ((feature_in content name id ≡ Some feature) × (vertex_of feature.geometry part ring index ≡ Some p))
feature-of_vertex content name id part ring index p h = by (feature_in content name id) refl h
  where
    by : (o : Option FeatureContent) → feature_in content name id ≡ o → option_and_then (λ feature. vertex_of feature.geometry part ring index) o ≡ Some p
        → (feature : FeatureContent) × ((feature_in content name id ≡ Some feature) × (vertex_of feature.geometry part ring index ≡ Some p))
    by None is h = cc
    by (Some feature) is h = (feature, (is, h))
