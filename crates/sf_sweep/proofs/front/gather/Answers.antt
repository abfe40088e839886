use Rattle.std.proofs.Common.{◌≡◌, ap, sym, ◌∙◌, rules, ◌≤◌, ◌<◌, length, map}
use Rattle.std.specs.Prelude.{slice_index_or}
use Rattle.std.proofs.lemmas.List.{get_or_default, take_all}
use Rattle.sf_strips.specs.declared.contact.Contact.TheVariants.{Never}
use Rattle.sf_sweep.specs.Passing.{contact_at}
use Rattle.sf_sweep.specs.Tables.{contacts_of}
use Rattle.sf_sweep.proofs.FrontLaws.{holds-first, mapped-next}
use Rattle.sf_sweep.proofs.PassLaws.{contacts-map}
use Rattle.sf_sweep.proofs.front.gather.Goals as goal

pub loop-edge-preserved : goal.loop-edge-preserved
loop-edge-preserved c =
    let table = c.args.table.now in
    let uppers = c.in-Some.uppers.now in
    let a = c.edge-item.result in
    let i = c.loop-edge.edge-index in
    let here : a ≡ slice_index_or uppers i a = search rules in
    let within = holds-first (λ e. e.piece < length table) c.args.edges.now uppers c.in-Some.field-0-0.now i a c.requires.edges c.in-Some.ensures.cases.0 c.loop-edge-test.true here in
    let value : c.index-table-edge.result ≡ contact_at table a = c.index-table-edge.is ∙ get_or_default table a.piece c.index-table-edge.result Never within in
    record {
      items = mapped-next (contact_at table) uppers i a c.index-table-edge.result c.loop-edge.found.items c.push_reserved.new.self.items c.loop-edge-test.true here value
          c.loop-edge.invariant.items c.push_reserved.ensures.items;
      len = search rules;
      room = search rules;
    }

pub returns-after-loop-edge-clause-items : goal.returns-after-loop-edge-clause-items
returns-after-loop-edge-clause-items c =
    let table = c.args.table.now in
    let uppers = c.in-Some.uppers.now in
    let all : length uppers ≤ c.loop-edge.edge-index = search rules in
    c.loop-edge.invariant.items
    ∙ ap (map (contact_at table)) (take_all c.loop-edge.edge-index uppers all)
    ∙ sym (contacts-map table uppers c.in-Some.field-0-0.now)
    ∙ ap (contacts_of table) (sym c.in-Some.ensures.cases.0)
