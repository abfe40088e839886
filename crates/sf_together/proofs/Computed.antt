-- Scratch contents and the exchanges that are read off them, computed.
use Rattle.std.proofs.Common.{◌≡◌, ℕ, false, List, [], ◌∷◌, pos, Some, None, Ok, codes, refl}
use Rattle.sf_geometry.specs.declared.geometry.Geometry.{Geometry}
use Rattle.sf_geometry.specs.declared.geometry.Geometry.TheVariants.{Point}
use Rattle.sf_geometry.specs.declared.kind.Kind.TheVariants as kinds
use Rattle.sf_features.specs.declared.attr_value.AttrValue.TheVariants as values
use Rattle.sf_features.specs.declared.column.Column.{Column}
use Rattle.sf_features.specs.declared.column_type.ColumnType.TheVariants as types
use Rattle.sf_features.specs.Features.{FeatureContent}
use Rattle.sf_layers.specs.Content.{Content, LayerContent}
use Rattle.sf_layers.specs.declared.layer_kind.LayerKind.TheVariants.{Only}
use Rattle.sf_steps.specs.declared.edit.Edit.TheVariants.{AddFeature, DeleteFeature, SetValue}
use Rattle.sf_steps.specs.declared.refusal.Refusal.TheVariants as steps
use Rattle.sf_patches.specs.declared.halves.Halves.{Halves}
use Rattle.sf_patches.specs.declared.slot.Slot.TheVariants.{Counter, State}
use Rattle.sf_patches.specs.Halves.{after_halves, back_halves}
use Rattle.sf_groups.specs.declared.member.Member.{Member}
use Rattle.sf_groups.specs.Groups.{content_weight, halves_weight, together_touched}
use Rattle.sf_groups.specs.Members.{together}
use Rattle.sf_together.specs.declared.outcome.Refusal.TheVariants as refusals
use Rattle.sf_together.specs.Copies.{with_shown}
use Rattle.sf_together.specs.Exchanges.{halves_between, keys_in}
use Rattle.sf_together.specs.Outcomes.{refused_as}

abbrev at : ℕ → ℕ → Geometry
at x y = Point (record { x = pos x; y = pos y })

abbrev size : Column
size = record { number = 1; name = codes "size"; column_type = types.Int }

-- a layer of points with a column
abbrev layer : ℕ → List (ℕ × FeatureContent) → LayerContent
layer next features = record { kind = Only kinds.Point; next_id = next; next_column = 2; columns = size ∷ []; features = features }

abbrev bare : Geometry → FeatureContent
bare geometry = record { geometry = geometry; values = [] }

abbrev sized : Geometry → ℕ → FeatureContent
sized geometry n = record { geometry = geometry; values = (1, values.Int (pos n)) ∷ [] }

-- two layers, of which the second one has three features
abbrev whole : Content
whole = (codes "v", layer 1 []) ∷ (codes "w", layer 8 ((1, sized (at 1 1) 5) ∷ (4, bare (at 4 4)) ∷ (7, bare (at 7 7)) ∷ [])) ∷ []

-- one is added, two are named, of which one twice; and one of no layer
abbrev added : Member
added = record { edit = AddFeature (codes "w") (at 8 8); of_last = false }

abbrev named : Member
named = record { edit = SetValue (codes "w") 7 (codes "size") (values.Int (pos 3)); of_last = false }

abbrev again : Member
again = record { edit = SetValue (codes "w") 7 (codes "size") (values.Int (pos 4)); of_last = false }

abbrev removed : Member
removed = record { edit = DeleteFeature (codes "w") 1; of_last = false }

abbrev elsewhere : Member
elsewhere = record { edit = DeleteFeature (codes "u") 1; of_last = false }

-- the head of their layer, and what they name, once
abbrev scratch : Content
scratch = (codes "w", layer 8 ((1, sized (at 1 1) 5) ∷ (7, bare (at 7 7)) ∷ [])) ∷ []

shows : with_shown whole elsewhere (with_shown whole removed (with_shown whole again (with_shown whole named (with_shown whole added [])))) ≡ scratch
shows = refl

-- the scratch content behind the members
abbrev after : Content
after = (codes "w", layer 9 ((7, sized (at 7 7) 4) ∷ (8, bare (at 8 8)) ∷ [])) ∷ []

carried_out : together scratch (added ∷ named ∷ again ∷ removed ∷ []) ≡ Ok (after, 8 ∷ [])
carried_out = refl

-- the exchanges: the counter and the features as they are then, and the removal
abbrev halves : Halves
halves = record {
  growing = Counter 1 9 ∷ State 1 7 (Some (sized (at 7 7) 4)) ∷ State 1 8 (Some (bare (at 8 8))) ∷ [];
  removing = State 1 1 None ∷ [];
}

between : halves_between whole after (keys_in whole scratch) ≡ halves
between = refl

-- they lead where the members lead
leads : together whole (added ∷ named ∷ again ∷ removed ∷ []) ≡ Ok (after_halves whole halves, 8 ∷ [])
leads = refl

-- and are taken back by what holds two points and a value, as the members name
holds : halves_weight (back_halves whole halves) ≡ 3
holds = refl

names_as_much : together_touched whole (added ∷ named ∷ again ∷ removed ∷ []) ≡ 3
names_as_much = refl

copies_as_much : content_weight scratch ≡ 3
copies_as_much = refl

-- a member that is refused, and one that found no memory
refused : refused_as 2 steps.NoFeature ≡ refusals.Member 2 steps.NoFeature
refused = refl

found_none : refused_as 2 steps.Memory ≡ refusals.Memory
found_none = refl
