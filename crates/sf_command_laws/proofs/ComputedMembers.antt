-- Members as lines spell them, computed.
use Rattle.std.proofs.Common.{◌≡◌, true, false, pos, Ok, Err, codes, refl}
use Rattle.sf_geometry.specs.declared.geometry.Geometry.TheVariants.{Point}
use Rattle.sf_features.specs.declared.attr_value.AttrValue.TheVariants as values
use Rattle.sf_refusals.specs.declared.refusal.Refusal.TheVariants.{BadCommand, Syntax}
use Rattle.sf_steps.specs.declared.edit.Edit.TheVariants.{AddFeature, DeleteFeature, RemoveVertex, SetValue}
use Rattle.sf_commands.specs.Members.{member_of}

adds : member_of (codes "add w POINT (3 4)") ≡ Ok (record { edit = AddFeature (codes "w") (Point (record { x = pos 3; y = pos 4 })); of_last = false })
adds = refl

of_last : member_of (codes " delete  w last ") ≡ Ok (record { edit = DeleteFeature (codes "w") 0; of_last = true })
of_last = refl

of_seven : member_of (codes "delete w 007") ≡ Ok (record { edit = DeleteFeature (codes "w") 7; of_last = false })
of_seven = refl

-- a layer may be named so
layer_last : member_of (codes "delete last 3") ≡ Ok (record { edit = DeleteFeature (codes "last") 3; of_last = false })
layer_last = refl

vertex_last : member_of (codes "vertex remove p last 0 0 4") ≡ Ok (record { edit = RemoveVertex (codes "p") 0 0 0 4; of_last = true })
vertex_last = refl

sets : member_of (codes "set w last n 'last'") ≡ Ok (record { edit = SetValue (codes "w") 0 (codes "n") (values.Text (codes "last")); of_last = true })
sets = refl

no_members :
    (member_of (codes "layer drop w") ≡ Err BadCommand) × (member_of (codes "@2 delete w 1") ≡ Err BadCommand)
    × (member_of (codes "rule add r never w within w") ≡ Err BadCommand) × (member_of (codes "rule drop r") ≡ Err BadCommand) × (member_of (codes "rules") ≡ Err BadCommand)
    × (member_of (codes "undo") ≡ Err BadCommand) × (member_of (codes "together 2") ≡ Err BadCommand) × (member_of (codes "show w") ≡ Err BadCommand)
    × (member_of (codes "add w POINT (x 1)") ≡ Err Syntax) × (member_of (codes "vertex remove p 1 last 0 4") ≡ Err BadCommand)
    × (member_of (codes "delete w Last") ≡ Err BadCommand) × (member_of (codes "delete w lasts") ≡ Err BadCommand)
no_members = (refl, refl, refl, refl, refl, refl, refl, refl, refl, refl, refl, refl)
