use Rattle.std.proofs.Common.{◌≡◌, not, option_map, rules}
use Rattle.sf_known.specs.declared.predicate.Predicate.TheVariants.{Disjoint, Intersects}
use Rattle.sf_query.specs.declared.ask.Ask.TheVariants.{Named}
use Rattle.sf_query.proofs.EvidenceLaws.{told-disjoint, told-intersects}
use Rattle.sf_query.proofs.given.Given.answer_by_contact.Goals as goal

pub returns-in-Named-Intersects : goal.returns-in-Named-Intersects
returns-in-Named-Intersects c =
    let named : c.args.ask.now ≡ Named Intersects = search rules in
    told-intersects c.contact_between.result c.args.ask.now c.args.geometry.now c.self.inside.valid.now c.args.self.now
    named c.self.view_is c.contact_between.ensures.holds

pub returns-in-Named-Disjoint : goal.returns-in-Named-Disjoint
returns-in-Named-Disjoint c =
    let told = c.contact_between-in-Named-Disjoint.result in
    let mapped : c.map.result ≡ option_map (λ has. not has) told = search rules in
    let named : c.args.ask.now ≡ Named Disjoint = search rules in
    told-disjoint told c.map.result c.args.ask.now c.args.geometry.now c.self.inside.valid.now c.args.self.now mapped
    named c.self.view_is c.contact_between-in-Named-Disjoint.ensures.holds
