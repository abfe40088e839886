use Rattle.std.proofs.Common.{arith, rules}
use Rattle.sf_strips.proofs.ContactLaws.{contacts-few, contacts-first, contacts-one_more}
use Rattle.sf_strips.proofs.cut.push_edge.Goals as goal
use Rattle.sf_strips.proofs.cut.push_edge.Goals.{in-Some, in_default}

pub push_reserved-requires : goal.push_reserved-requires
push_reserved-requires c =
    omega (arith, contacts-few c.args.x.now c.args.order.now.items c.args.contacts.now.items c.requires.contacts, c.args.order.now.ok.0, c.args.contacts.now.ok.0)

pub returns-clause-contacts : goal.returns-clause-contacts
returns-clause-contacts c =
    elim c.match-last.branch [
      | in-Some w ↦
          contacts-one_more c.args.x.now c.args.order.now.items _ c.args.contacts.now.items _ w.in-Some.above.now w.in-Some.above.now c.args.edge.now w.between.result
          c.requires.contacts (search rules) (search rules)
          w.between.ensures c.push_reserved-2.ensures.items (search rules)
      | in_default w ↦
          contacts-first c.args.x.now c.args.order.now.items _ _ c.args.edge.now
          (search rules) (search rules) c.push_reserved-2.ensures.items
    ]
