use Rattle.std.proofs.Common.{◌∙◌, ap, arith, rules}
use Rattle.sf_strips.proofs.ContactLaws.{contacts-few, contacts-joined}
use Rattle.sf_strips.proofs.cut.Cut.push_alone.Goals as goal
use Rattle.sf_strips.proofs.cut.Cut.push_alone.Goals.{in-Some, in_default}

pub extend-requires-in-Some : goal.extend-requires-in-Some
extend-requires-in-Some c =
    record {
      room =
          omega (
            arith,
            contacts-few c.args.x.now c.push_edge.new.order.items c.push_edge.new.contacts.items c.push_edge.ensures.contacts,
            contacts-few c.args.x.now c.args.run.now c.args.kept.now c.requires.kept,
            c.push_edge.new.order.ok.0,
            c.push_edge.new.contacts.ok.0,
            c.in-Some.ensures.cases.1,
          );
    }

pub returns-clause-contacts : goal.returns-clause-contacts
returns-clause-contacts c =
    elim c.match-split_first.branch [
      | in-Some w ↦
          contacts-joined c.args.x.now c.args.self.now.order.items w.push_edge.new.order.items _ w.push_edge.new.contacts.items c.args.kept.now _
          w.in-Some.first.now c.args.run.now w.in-Some.others.now w.push_edge.ensures.contacts c.requires.kept w.push_edge.ensures.order w.in-Some.ensures.cases.0
          (ap (λ s. s.order.items) w.self-is ∙ w.extend.ensures.items) (ap (λ s. s.contacts.items) w.self-is ∙ w.extend-in-Some.ensures.items)
      | in_default w ↦ search rules
    ]
