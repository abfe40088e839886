-- Groups computed.
use Rattle.std.proofs.Common.{◌≡◌, ℕ, true, false, List, [], ◌∷◌, pos, Some, None, Ok, Err, codes, refl}
use Rattle.sf_geometry.specs.declared.geometry.Geometry.{Geometry}
use Rattle.sf_geometry.specs.declared.geometry.Geometry.TheVariants.{Point, LineString}
use Rattle.sf_geometry.specs.declared.kind.Kind.TheVariants as kinds
use Rattle.sf_features.specs.declared.attr_value.AttrValue.TheVariants as values
use Rattle.sf_features.specs.declared.column.Column.{Column}
use Rattle.sf_features.specs.declared.column_type.ColumnType.TheVariants as types
use Rattle.sf_features.specs.Features.{FeatureContent}
use Rattle.sf_layers.specs.Content.{Content}
use Rattle.sf_layers.specs.declared.layer_kind.LayerKind.TheVariants.{Only}
use Rattle.sf_steps.specs.declared.edit.Edit.{Edit}
use Rattle.sf_steps.specs.declared.edit.Edit.TheVariants.{AddFeature, DeleteFeature, SetValue, DropLayer}
use Rattle.sf_steps.specs.declared.refusal.Refusal.TheVariants.{NoFeature, NoLayer, WrongKind}
use Rattle.sf_patches.specs.declared.slot.Slot.{Slot}
use Rattle.sf_patches.specs.declared.slot.Slot.TheVariants.{Counter, State}
use Rattle.sf_patches.specs.Patches.{patched, undoing, grows, removes}
use Rattle.sf_groups.specs.declared.member.Member.{Member}
use Rattle.sf_groups.specs.Members.{may_follow, together}
use Rattle.sf_groups.specs.Scratches.{is_looked_at}
use Rattle.sf_groups.specs.Groups.{patch_weight, together_touched}

abbrev at : ℕ → ℕ → Geometry
at x y = Point (record { x = pos x; y = pos y })

abbrev w : List ℕ
w = codes "w"

abbrev size : Column
size = record { number = 1; name = codes "size"; column_type = types.Int }

-- a layer of points with a column
abbrev layer : ℕ → List (ℕ × FeatureContent) → Content
layer next features = (w, record { kind = Only kinds.Point; next_id = next; next_column = 2; columns = size ∷ []; features = features }) ∷ []

abbrev bare : Geometry → FeatureContent
bare geometry = record { geometry = geometry; values = [] }

abbrev sized : Geometry → ℕ → FeatureContent
sized geometry n = record { geometry = geometry; values = (1, values.Int (pos n)) ∷ [] }

abbrev plain : Edit → Member
plain edit = record { edit = edit; of_last = false }

abbrev last : Edit → Member
last edit = record { edit = edit; of_last = true }

abbrev one : Content
one = layer 2 ((1, sized (at 1 1) 5) ∷ [])

-- a feature is split: one added with a value, one added, the old one deleted
abbrev split : List Member
split = plain (AddFeature w (at 2 2)) ∷ last (SetValue w 0 (codes "size") (values.Int (pos 7))) ∷ plain (AddFeature w (at 3 3)) ∷ plain (DeleteFeature w 1) ∷ []

after_split : together one split ≡ Ok (layer 4 ((2, sized (at 2 2) 7) ∷ (3, bare (at 3 3)) ∷ []), 2 ∷ 3 ∷ [])
after_split = refl

-- identifiers are given though the feature is deleted again
given_and_deleted : together one (plain (AddFeature w (at 7 7)) ∷ last (DeleteFeature w 0) ∷ []) ≡ Ok (layer 3 ((1, sized (at 1 1) 5) ∷ []), 2 ∷ [])
given_and_deleted = refl

-- the first member that is refused, by its number
refused_third : together one (plain (AddFeature w (at 2 2)) ∷ plain (DeleteFeature w 1) ∷ plain (SetValue w 1 (codes "size") (values.Int (pos 1))) ∷ []) ≡ Err (record { member = 3; refusal = NoFeature })
refused_third = refl

refused_first : together one (plain (AddFeature (codes "v") (at 2 2)) ∷ plain (DeleteFeature w 9) ∷ []) ≡ Err (record { member = 1; refusal = NoLayer })
refused_first = refl

wrong_kind : together one (plain (AddFeature w (LineString ((record { x = pos 0; y = pos 0 }) ∷ (record { x = pos 1; y = pos 1 }) ∷ []))) ∷ []) ≡ Err (record { member = 1; refusal = WrongKind })
wrong_kind = refl

-- none at all
nothing : together one [] ≡ Ok (one, [])
nothing = refl

-- `last` stands behind an addition to its layer alone
last_of_none : may_follow [] (last (DeleteFeature w 0)) ≡ false
last_of_none = refl

last_of_other : may_follow (plain (AddFeature (codes "v") (at 1 1)) ∷ []) (last (DeleteFeature w 0)) ≡ false
last_of_other = refl

last_of_own : may_follow (plain (AddFeature w (at 1 1)) ∷ []) (last (DeleteFeature w 0)) ≡ true
last_of_own = refl

no_layers : may_follow [] (plain (DropLayer w)) ≡ false
no_layers = refl

-- what is looked at: what is named, and what is new
looked_at_named : is_looked_at one split w 1 ≡ true
looked_at_named = refl

looked_at_new : is_looked_at one split w 2 ≡ true
looked_at_new = refl

-- the patch of the split leads there, and back
abbrev patch : List Slot
patch = Counter 0 4 ∷ State 0 2 (Some (sized (at 2 2) 7)) ∷ State 0 3 (Some (bare (at 3 3))) ∷ State 0 1 None ∷ []

patch_leads : patched one patch ≡ layer 4 ((2, sized (at 2 2) 7) ∷ (3, bare (at 3 3)) ∷ [])
patch_leads = refl

patch_back : undoing one patch ≡ State 0 1 (Some (sized (at 1 1) 5)) ∷ State 0 3 None ∷ State 0 2 None ∷ Counter 0 2 ∷ []
patch_back = refl

leads_back : patched (patched one patch) (undoing one patch) ≡ one
leads_back = refl

-- it holds the feature that was there: a point and a value
weighs : patch_weight (undoing one patch) ≡ 2
weighs = refl

touches_two : together_touched one split ≡ 2
touches_two = refl

first_grows : grows one (State 0 2 (Some (bare (at 2 2)))) ≡ true
first_grows = refl

last_removes : removes one (State 0 1 None) ≡ true
last_removes = refl
