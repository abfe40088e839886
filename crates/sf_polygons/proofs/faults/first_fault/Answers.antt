use Rattle.std.proofs.Common.{sym, subst}
use Rattle.sf_valid_rules.specs.Rules.{polygon_rules}
use Rattle.sf_valid_rules.specs.Validity.{IsFirstIn}
use Rattle.sf_polygons.proofs.FaultLaws.{first-is}
use Rattle.sf_polygons.proofs.faults.first_fault.Goals as goal

pub returns : goal.returns
returns c =
    subst (IsFirstIn (polygon_rules c.args.polygons.now)) (sym c.first_of.ensures)
    (first-is c.args.polygons.now c.in_ok-within.within c.in_ok-between.between c.in_ok-within.ensures c.in_ok-between.ensures)
