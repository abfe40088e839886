use Rattle.std.proofs.Common.{None, sym}
use Rattle.sf_rules.specs.Breaks.{least_from}
use Rattle.sf_rules.specs.Looks.{looked_at}
use Rattle.sf_rules.specs.Rules.{break_between}
use Rattle.sf_patches.specs.Patches.{patched}
use Rattle.sf_joins.proofs.Passed.{layer-fits}
use Rattle.sf_rules.proofs.UnderwayLaws.{break-near, missing-near}
use Rattle.sf_rules.proofs.WholeLaws.{answered}
use Rattle.sf_rules.proofs.near.break_near_between.Goals as goal

pub returns-in_default : goal.returns-in_default
returns-in_default c = sym (missing-near c.args.store.now c.args.rule.now c.args.leaving.now c.in_default.ensures)

pub least_near-requires-clause-first : goal.least_near-requires-clause-first
least_near-requires-clause-first c = layer-fits c.args.store.now c.args.rule.now.first c.in-Some.between.first.now c.in-Some.ensures.well_formed c.in-Some.ensures.first

pub least_near-requires-clause-second : goal.least_near-requires-clause-second
least_near-requires-clause-second c = layer-fits c.args.store.now c.args.rule.now.second c.in-Some.between.second.now c.in-Some.ensures.well_formed c.in-Some.ensures.second

pub returns : goal.returns
returns c =
    answered c.least_near.result (least_from None (looked_at c.args.rule.now.form c.in-Some.between c.args.made.now)) (break_between (patched c.args.store.now c.args.leaving.now) c.args.rule.now)
    (break-near c.requires.held.0 c.args.store.now c.args.rule.now c.args.made.now c.args.leaving.now c.in-Some.between c.requires.held.1 c.requires.leave c.in-Some.ensures c.requires.held.2)
    c.least_near.ensures
