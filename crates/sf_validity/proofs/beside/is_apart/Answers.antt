use Rattle.std.proofs.Common.{◌∙◌, ap, sym, not}
use Rattle.sf_validity.proofs.BesideLaws.{apart, none-apart}
use Rattle.sf_validity.proofs.beside.is_apart.Goals as goal

pub returns-in-Some : goal.returns-in-Some
returns-in-Some c test =
    apart c.args.points.now c.in-Some.own c.args.extent (sym c.of_points.ensures ∙ c.in-Some.is) (sym (ap not c.meets.ensures) ∙ test)

pub returns-in-None : goal.returns-in-None
returns-in-None c test = none-apart c.args.points.now _ (sym c.of_points.ensures ∙ c.in-None.is)
