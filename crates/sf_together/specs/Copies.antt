-- Internal: who wants to trust the program need not read this file.
-- A scratch content with copies of what the members of a group look at.
use Rattle.std.specs.Prelude.{◌≡◌, ℕ, false, List, [], ◌∷◌, ◌++◌, Option, None, Some, is_some, IsTrue, if◌then◌else◌}
use Rattle.std.specs.List.{list_any}
use Rattle.sf_features.specs.Features.{FeatureContent}
use Rattle.sf_layers.specs.Content.{Content, LayerContent, change_layer, feature_in, feature_of, has_layer, head_of, layer_of, with_feature}
use Rattle.sf_steps.specs.Steps.{edit_layer}
use Rattle.sf_groups.specs.declared.member.Member.{Member}
use Rattle.sf_groups.specs.Local.{edit_id}
use Rattle.sf_groups.specs.Members.{names}
use Rattle.sf_groups.specs.Scratches.{is_of_layer}

-- kind, next identifier and columns of a layer are those of another one
pub record HasHeadOf (whole part : LayerContent) : Type 0 where
  pub kind : part.kind ≡ whole.kind
  pub next_id : part.next_id ≡ whole.next_id
  pub columns : part.columns ≡ whole.columns

-- a layer has the head of another one, and of its features those that members name
pub record CopiesLayer (members : List Member) (name : List ℕ) (whole part : LayerContent) : Type 0 where
  pub head : HasHeadOf whole part
  pub features : (id : ℕ) → feature_of part id ≡ (if list_any (names name id) members then feature_of whole id else None)

-- a layer is copied just where it is there and a member is of it
abbrev pub IsCopied : List Member → List ℕ → Option LayerContent → Option LayerContent → Type 0
IsCopied members name None None = Unit {0}
IsCopied members name None (Some part) = ⊥
IsCopied members name (Some whole) None = is_of_layer members name ≡ false
IsCopied members name (Some whole) (Some part) = IsTrue (is_of_layer members name) × CopiesLayer members name whole part

-- a scratch content has of the whole one what members name, and no more
abbrev pub IsScratchOf : Content → List Member → Content → Type 0
IsScratchOf whole members scratch = (name : List ℕ) → IsCopied members name (layer_of whole name) (layer_of scratch name)

-- a layer has the head of the one of its name, if it is there
abbrev pub IsPartOf : Option LayerContent → Option LayerContent → Type 0
IsPartOf whole None = Unit {0}
IsPartOf None (Some part) = ⊥
IsPartOf (Some whole) (Some part) = HasHeadOf whole part

-- each layer of a content has the head of one that is there
abbrev pub IsPart : Content → Content → Type 0
IsPart whole scratch = (name : List ℕ) → IsPartOf (layer_of whole name) (layer_of scratch name)

-- ---- how it is made

-- the head of a layer put last under its name, where there is none
abbrev pub with_head : List ℕ → LayerContent → Content → Content
with_head name layer scratch = if has_layer scratch name then scratch else scratch ++ (name, head_of layer) ∷ []

-- a feature put under its identifier into the layer of a name, where there is none
abbrev pub with_copy : List ℕ → ℕ → FeatureContent → Content → Content
with_copy name id feature scratch = if is_some (feature_in scratch name id) then scratch else change_layer scratch name (with_feature id feature)

-- the feature of its layer that a member names
abbrev pub named_feature : LayerContent → Member → Option FeatureContent
named_feature layer member = if member.of_last then None else feature_of layer (edit_id member.edit)

abbrev pub with_feature_shown : List ℕ → ℕ → Option FeatureContent → Content → Content
with_feature_shown name id None scratch = scratch
with_feature_shown name id (Some feature) scratch = with_copy name id feature scratch

abbrev pub with_layer_shown : Member → Option LayerContent → Content → Content
with_layer_shown member None scratch = scratch
with_layer_shown member (Some layer) scratch =
    with_feature_shown (edit_layer member.edit) (edit_id member.edit) (named_feature layer member) (with_head (edit_layer member.edit) layer scratch)

-- a scratch content with what a member looks at
abbrev pub with_shown : Content → Member → Content → Content
with_shown whole member scratch = with_layer_shown member (layer_of whole (edit_layer member.edit)) scratch
