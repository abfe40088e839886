-- What loading tells of a geometry is what the format says of it.
use Rattle.std.proofs.Common.{◌≡◌, true, cond, None, Some, Result, Ok, Err, sym, ap, ◌∙◌}
use Rattle.sf_geometry.specs.declared.geometry.Geometry.{Geometry}
use Rattle.sf_geometry.specs.Kinds.{kind_of}
use Rattle.sf_geometry.specs.Size.{IsSized}
use Rattle.sf_valid_rules.specs.declared.fault.Fault.{Fault}
use Rattle.sf_valid_rules.specs.Rules.{rules_of}
use Rattle.sf_valid_rules.specs.Validity.{IsFirstOf}
use Rattle.sf_valid_rules.specs.Verdicts.{first_fault}
use Rattle.sf_valid_rules.proofs.FirstLaws.{first_fault-over_plane}
use Rattle.sf_valid_rules.proofs.VerdictLaws.{verdict-one}
use Rattle.sf_validity.specs.Held.{IsHeld}
use Rattle.sf_wkb.specs.declared.fault.WkbFault.{WkbFault}
use Rattle.sf_layers.specs.Content.{admits}
use Rattle.sf_layers.specs.declared.layer_kind.LayerKind.{LayerKind}
use Rattle.sf_format.specs.declared.defect.Defect.TheVariants.{Invalid, WrongKind}
use Rattle.sf_format.specs.Format.{admitted, without_fault}

-- a valid geometry passes
pub valid-passes : (geometry held : Geometry) → held ≡ geometry → IsHeld geometry → without_fault geometry (first_fault geometry) ≡ Ok held
valid-passes geometry held kept is =
    ap (without_fault geometry) (verdict-one geometry (first_fault geometry) None (first_fault-over_plane geometry is.valid.sized) is.valid) ∙ ap Ok (sym kept)

-- the first fault is found
pub fault-found : (geometry : Geometry) (fault : Fault) → IsSized geometry → IsFirstOf (rules_of geometry) fault → without_fault geometry (first_fault geometry) ≡ Err (Invalid fault)
fault-found geometry fault sized first = ap (without_fault geometry) (verdict-one geometry (first_fault geometry) (Some fault) (first_fault-over_plane geometry sized) first)

-- a geometry of the layer's kind goes on to be looked at
pub admitted-valid : (kind : LayerKind) (geometry : Geometry) (expected : Result Geometry WkbFault) → Ok geometry ≡ expected → admits kind (kind_of geometry) ≡ true
    → admitted kind expected ≡ without_fault geometry (first_fault geometry)
admitted-valid kind geometry expected same admits_it =
    ap (admitted kind) (sym same) ∙ ap (λ t. cond t (without_fault geometry (first_fault geometry)) (Err WrongKind)) admits_it
