use Rattle.std.proofs.Common.{◌↔◌, ◌∙◌, subst, sym, not}
use Rattle.std.specs.Prelude.{IsTrue}
use Rattle.sf_valid_rules.specs.Simplicity.{IsSimple}
use Rattle.sf_valid_rules.specs.Conditions.{Applies, AtPoint}
use Rattle.sf_strands.specs.Tangles.{are_tangled}
use Rattle.sf_validity.proofs.SimpleLaws.{lines-simple}
use Rattle.sf_validity.proofs.simple.is_simple.Goals as goal

pub returns-in_ok-are_tangled-in-MultiLineString : goal.returns-in_ok-are_tangled-in-MultiLineString
returns-in_ok-are_tangled-in-MultiLineString c =
    let tells = subst (λ lines. IsTrue c.in_ok-are_tangled-in-MultiLineString.field-0 ↔ Applies (AtPoint (are_tangled lines))) c.as_slice-in-MultiLineString.ensures c.in_ok-are_tangled-in-MultiLineString.ensures in
    subst (λ g. IsTrue (not c.in_ok-are_tangled-in-MultiLineString.field-0) ↔ IsSimple g) (sym c.in-MultiLineString.is ∙ c.geometry.ensures.same)
    (lines-simple c.in-MultiLineString.lines c.in_ok-are_tangled-in-MultiLineString.field-0 tells)
