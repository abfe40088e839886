-- A geometry has one verdict.
use Rattle.std.proofs.Common.{◌≡◌, inl, inr, refl, ap, sym, ◌∙◌, List, [], ◌∷◌, Option, Some, None}
use Rattle.std.specs.List.{AllByRecursion}
use Rattle.sf_geometry.specs.declared.geometry.Geometry.{Geometry}
use Rattle.sf_valid_rules.specs.declared.fault.Fault.{Fault}
use Rattle.sf_valid_rules.specs.Conditions.{Applies}
use Rattle.sf_valid_rules.specs.Rules.{Rule, rules_of}
use Rattle.sf_valid_rules.specs.Validity.{IsFirstOf, IsVerdict}

first-one : (rules : List Rule) (f g : Fault) → IsFirstOf rules f → IsFirstOf rules g → f ≡ g
first-one [] f g a b = absurd a
first-one (rule ∷ rules) f g (inl a) (inl b) = a.1 ∙ sym b.1
first-one (rule ∷ rules) f g (inl a) (inr b) = absurd (b.0 a.0)
first-one (rule ∷ rules) f g (inr a) (inl b) = absurd (a.0 b.0)
first-one (rule ∷ rules) f g (inr a) (inr b) = first-one rules f g a.1 b.1

faultless-first : (rules : List Rule) (f : Fault) → AllByRecursion (λ rule. ¬ (Applies rule.condition)) rules → IsFirstOf rules f → ⊥
faultless-first [] f all a = a
faultless-first (rule ∷ rules) f all (inl a) = all.0 a.0
faultless-first (rule ∷ rules) f all (inr a) = faultless-first rules f all.1 a.1

pub verdict-one : (geometry : Geometry) (first second : Option Fault) → IsVerdict geometry first → IsVerdict geometry second → first ≡ second
verdict-one geometry None None a b = refl
verdict-one geometry None (Some g) a b = absurd (faultless-first (rules_of geometry) g a.faultless b)
verdict-one geometry (Some f) None a b = absurd (faultless-first (rules_of geometry) f b.faultless a)
verdict-one geometry (Some f) (Some g) a b = ap Some (first-one (rules_of geometry) f g a b)
