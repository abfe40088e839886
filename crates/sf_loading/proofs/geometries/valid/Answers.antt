use Rattle.std.proofs.Common.{refl, subst}
use Rattle.sf_valid_rules.specs.Rules.{rules_of}
use Rattle.sf_validity.specs.Refusals.{RefusesBy}
use Rattle.sf_loading.proofs.GeometryLaws.{fault-found, valid-passes}
use Rattle.sf_loading.proofs.geometries.valid.Goals as goal

pub returns-in-Ok-clause-judged : goal.returns-in-Ok-clause-judged
returns-in-Ok-clause-judged c = valid-passes c.args.geometry c.in-Ok.valid c.in-Ok.ensures.kept c.in-Ok.ensures.valid

pub returns-in-Invalid-clause-judged : goal.returns-in-Invalid-clause-judged
returns-in-Invalid-clause-judged c =
    (refl, fault-found c.args.geometry c.in-Invalid.fault c.requires (subst (RefusesBy (rules_of c.args.geometry)) c.in-Invalid.is c.in-Err.ensures.refused))
