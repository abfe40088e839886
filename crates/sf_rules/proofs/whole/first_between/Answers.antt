use Rattle.std.proofs.Common.{flat_map}
use Rattle.sf_rules.specs.Looks.{alone_of_entry, pairs_of_entry}
use Rattle.sf_rules.specs.Rules.{break_between, first_of}
use Rattle.sf_joins.proofs.Passed.{layer-fits}
use Rattle.sf_rules.proofs.MutualLaws.{is-mutual}
use Rattle.sf_rules.proofs.WholeLaws.{answered, none-leaves, whole-each, whole-never}
use Rattle.sf_rules.proofs.whole.first_between.Goals as goal

pub first_pair-requires : goal.first_pair-requires
first_pair-requires c = layer-fits c.args.store.now c.args.rule.now.second c.in-Some.between.second.now c.in-Some.ensures.well_formed c.in-Some.ensures.second

pub first_alone-requires : goal.first_alone-requires
first_alone-requires c = layer-fits c.args.store.now c.args.rule.now.second c.in-Some.between.second.now c.in-Some.ensures.well_formed c.in-Some.ensures.second

pub first_mutual_pair-requires : goal.first_mutual_pair-requires
first_mutual_pair-requires c =
    is-mutual c.args.store.now c.args.rule.now c.in-Some.between c.is_mutual.result (none-leaves c.args.store.now c.args.rule.now c.args.leaving.now c.in-Some.between c.requires c.in-Some.ensures)
    (layer-fits c.args.store.now c.args.rule.now.first c.in-Some.between.first.now c.in-Some.ensures.well_formed c.in-Some.ensures.first) c.is_mutual.ensures c.if-is_mutual.true

pub returns-then-is_mutual : goal.returns-then-is_mutual
returns-then-is_mutual c =
    answered c.first_mutual_pair.result (first_of (flat_map (pairs_of_entry c.in-Some.between) c.in-Some.between.first.now.features)) (break_between c.args.store.now c.args.rule.now)
    (whole-never c.args.store.now c.args.rule.now c.in-Some.between (none-leaves c.args.store.now c.args.rule.now c.args.leaving.now c.in-Some.between c.requires c.in-Some.ensures) c.in-Never.is) c.first_mutual_pair.ensures

pub returns-else-is_mutual : goal.returns-else-is_mutual
returns-else-is_mutual c =
    answered c.first_pair.result (first_of (flat_map (pairs_of_entry c.in-Some.between) c.in-Some.between.first.now.features)) (break_between c.args.store.now c.args.rule.now)
    (whole-never c.args.store.now c.args.rule.now c.in-Some.between (none-leaves c.args.store.now c.args.rule.now c.args.leaving.now c.in-Some.between c.requires c.in-Some.ensures) c.in-Never.is) c.first_pair.ensures

pub returns-in-Each : goal.returns-in-Each
returns-in-Each c =
    answered c.first_alone.result (first_of (flat_map (alone_of_entry c.in-Some.between) c.in-Some.between.first.now.features)) (break_between c.args.store.now c.args.rule.now)
    (whole-each c.args.store.now c.args.rule.now c.in-Some.between (none-leaves c.args.store.now c.args.rule.now c.args.leaving.now c.in-Some.between c.requires c.in-Some.ensures)
    (layer-fits c.args.store.now c.args.rule.now.first c.in-Some.between.first.now c.in-Some.ensures.well_formed c.in-Some.ensures.first)
    (layer-fits c.args.store.now c.args.rule.now.second c.in-Some.between.second.now c.in-Some.ensures.well_formed c.in-Some.ensures.second) c.in-Each.is)
    c.first_alone.ensures
