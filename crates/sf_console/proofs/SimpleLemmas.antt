-- The answer to `simple`, where the plane decided it.
use Rattle.std.proofs.Common.{◌≡◌, ◌↔◌, Bool, true, false, IsTrue, refl, sym}
use Rattle.sf_geometry.specs.declared.geometry.Geometry.{Geometry}
use Rattle.sf_valid_rules.specs.Simplicity.{IsSimple}
use Rattle.sf_valid_rules.specs.Verdicts.{is_simple}
use Rattle.sf_valid_rules.proofs.FirstLaws.{simplicity-over_plane}

-- two truth values that stand for one another are one
same_truth : (a b : Bool) → IsTrue a ↔ IsTrue b → a ≡ b
same_truth true b both = sym (both.0 refl)
same_truth false true both = both.1 refl
same_truth false false both = refl

-- what says that a geometry is simple is what is computed of it
pub is_simple-told : (simple : Bool) (geometry : Geometry) → IsTrue simple ↔ IsSimple geometry → simple ≡ is_simple geometry
is_simple-told simple geometry told =
    let computed = simplicity-over_plane geometry in
    same_truth simple (is_simple geometry) (λ is. computed.1 (told.0 is), λ is. told.1 (computed.0 is))
