-- Groups on one text, computed from the definitions alone.
use Rattle.std.proofs.Common.{◌≡◌, true, false, pos, [], ◌∷◌, ◌++◌, None, Some, Ok, Err, codes, refl}
use Rattle.sf_refusals.specs.declared.refusal.Refusal.TheVariants.{BadCommand, Syntax}
use Rattle.sf_geometry.specs.declared.geometry.Geometry.TheVariants.{Point}
use Rattle.sf_features.specs.declared.attr_value.AttrValue.TheVariants as values
use Rattle.sf_steps.specs.declared.edit.Edit.TheVariants.{AddFeature, DeleteFeature, SetValue}
use Rattle.sf_commands.specs.declared.group_text.GroupRefusal.TheVariants.{Member}
use Rattle.sf_commands.specs.GroupTexts.{group_of, head_of, members_of, parts_of}

-- ---- heads

heads : (head_of (codes "together 3") ≡ Some (record { editor = 0; members = 3 })) × (head_of (codes " together\t007 ") ≡ Some (record { editor = 0; members = 7 }))
    × (head_of (codes "@2 together 65535") ≡ Some (record { editor = 2; members = 65535 }))
heads = (refl, refl, refl)

no_heads : (head_of (codes "together") ≡ None) × (head_of (codes "together 0") ≡ None) × (head_of (codes "together 2 3") ≡ None)
    × (head_of (codes "together 65536") ≡ None) × (head_of (codes "together x") ≡ None) × (head_of (codes "@0 together 1") ≡ None)
    × (head_of (codes "Together 1") ≡ None) × (head_of (codes "delete w 1") ≡ None) × (head_of [] ≡ None)
no_heads = (refl, refl, refl, refl, refl, refl, refl, refl, refl)

-- with a carriage return at the end, and inside
no_returns : (head_of (codes "together 3" ++ 13 ∷ []) ≡ None) × (head_of (codes "together 3 " ++ 13 ∷ codes " ") ≡ None) × (head_of (13 ∷ codes "together 3") ≡ None)
no_returns = (refl, refl, refl)

-- ---- parts

parts : (parts_of [] ≡ [] ∷ []) × (parts_of (codes "ab") ≡ codes "ab" ∷ []) × (parts_of (codes "ab" ++ 13 ∷ codes "c") ≡ codes "ab" ∷ codes "c" ∷ [])
    × (parts_of (13 ∷ 13 ∷ codes "c") ≡ [] ∷ [] ∷ codes "c" ∷ []) × (parts_of (codes "ab" ++ 13 ∷ []) ≡ codes "ab" ∷ [] ∷ [])
parts = (refl, refl, refl, refl, refl)

-- ---- members

-- whatever stands in front
members : (members_of (13 ∷ codes "delete w 1") ≡ Ok (record { edit = DeleteFeature (codes "w") 1; of_last = false } ∷ []))
    × (members_of (codes "together 2" ++ 13 ∷ codes "delete w 1") ≡ Ok (record { edit = DeleteFeature (codes "w") 1; of_last = false } ∷ []))
    × (members_of (codes "together 2") ≡ Ok []) × (members_of [] ≡ Ok [])
members = (refl, refl, refl, refl)

-- ---- groups

two_members : group_of (codes "@2 together 2" ++ 13 ∷ codes "add w POINT (3 4)" ++ 13 ∷ codes "set w last n 7")
    ≡ Some (
      2,
      Ok (record { edit = AddFeature (codes "w") (Point (record { x = pos 3; y = pos 4 })); of_last = false }
          ∷ record { edit = SetValue (codes "w") 0 (codes "n") (values.Int (pos 7)); of_last = true } ∷ []),
    )
two_members = refl

-- the first one that is refused: of the last feature of a layer that none before it adds to, by its words alone, or with nothing in it
refused : (group_of (codes "together 2" ++ 13 ∷ codes "add w POINT (3 4)" ++ 13 ∷ codes "delete v last") ≡ Some (0, Err (Member 2 BadCommand)))
    × (group_of (codes "together 2" ++ 13 ∷ codes "delete w last" ++ 13 ∷ codes "add w POINT (3 4)") ≡ Some (0, Err (Member 1 BadCommand)))
    × (group_of (codes "together 2" ++ 13 ∷ codes "add w POINT (x 4)" ++ 13 ∷ codes "layer drop w") ≡ Some (0, Err (Member 1 Syntax)))
    × (group_of (codes "together 2" ++ 13 ∷ codes "delete w 1" ++ 13 ∷ codes "@2 delete w 2") ≡ Some (0, Err (Member 2 BadCommand)))
    × (group_of (codes "together 2" ++ 13 ∷ codes "delete w 1" ++ 13 ∷ []) ≡ Some (0, Err (Member 2 BadCommand)))
refused = (refl, refl, refl, refl, refl)

-- fewer members than its head says, more, none, or no head
no_groups : (group_of (codes "together 2" ++ 13 ∷ codes "delete w 1") ≡ None)
    × (group_of (codes "together 1" ++ 13 ∷ codes "delete w 1" ++ 13 ∷ codes "delete w 2") ≡ None)
    × (group_of (codes "together 1") ≡ None) × (group_of (codes "delete w 1" ++ 13 ∷ codes "delete w 2") ≡ None) × (group_of [] ≡ None)
no_groups = (refl, refl, refl, refl, refl)
