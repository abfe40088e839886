-- Which geometries are valid, and the first fault of one that isn't, over all points of the plane.
use Rattle.std.specs.Prelude.{◌≡◌, ◌⊎◌, List, [], ◌∷◌, Option, Some, None}
use Rattle.std.specs.List.{AllByRecursion}
use Rattle.sf_geometry.specs.declared.geometry.Geometry.{Geometry}
use Rattle.sf_geometry.specs.Size.{IsSized}
use Rattle.sf_valid_rules.specs.declared.fault.Fault.{Fault}
use Rattle.sf_valid_rules.specs.Conditions.{Applies}
use Rattle.sf_valid_rules.specs.Rules.{Rule, rules_of}

-- none of the rules applies
abbrev pub NoneApplies : List Rule → Type 0
NoneApplies rules = AllByRecursion (λ rule. ¬ (Applies rule.condition)) rules

-- it is sized, and no rule applies (6.1.11.1 for polygons, 6.1.14.1 for several of them); that the interior of a polygon is
-- connected, which 6.1.11.1 also asks for, is no rule here
pub record IsValid (geometry : Geometry) : Type 0 where
  pub sized : IsSized geometry
  pub faultless : NoneApplies (rules_of geometry)

-- the fault is that of the first rule that applies
abbrev pub IsFirstOf : List Rule → Fault → Type 0
IsFirstOf [] fault = ⊥
IsFirstOf (rule ∷ rules) fault =
    (Applies rule.condition × (fault ≡ rule.fault)) ⊎ ((¬ (Applies rule.condition)) × IsFirstOf rules fault)

-- of these rules none applies, or the first that does has the fault
abbrev pub IsFirstIn : List Rule → Option Fault → Type 0
IsFirstIn rules None = NoneApplies rules
IsFirstIn rules (Some fault) = IsFirstOf rules fault

abbrev pub IsFirstFault : Geometry → Fault → Type 0
IsFirstFault geometry fault = IsFirstOf (rules_of geometry) fault

-- what is said of a sized geometry: that it is valid, or its first fault
abbrev pub IsVerdict : Geometry → Option Fault → Type 0
IsVerdict geometry None = IsValid geometry
IsVerdict geometry (Some fault) = IsFirstFault geometry fault
