use Rattle.std.proofs.Common.{ap, subst, ◌∙◌, ◌≤◌, ◌-◌, arith, false, [], None, length}
use Rattle.std.specs.List.{fold}
use Rattle.sf_strips.specs.Parts.{levels_of}
use Rattle.sf_strips.specs.Levels.{AreTops}
use Rattle.sf_strips.proofs.ContactLaws.{contacts-few}
use Rattle.sf_cells.specs.Groups.{counts}
use Rattle.sf_cells.specs.Hands.{stop_items, stops}
use Rattle.sf_sweep.proofs.SlabLaws.{slab-items}
use Rattle.sf_sweep.proofs.StopLaws.{balanced-same}
use Rattle.sf_sweep.proofs.cutting.hand_going.Goals as goal

pub slab-requires-clause-contacts : goal.slab-requires-clause-contacts
slab-requires-clause-contacts g c =
    let bench = c.args.bench.now in
    let few = contacts-few c.args.x.now bench.order.items bench.contacts.items c.requires.contacts in
    omega (arith, few, ap length c.as_slice.ensures.value, ap length c.as_slice-2.ensures.value)

pub hand_part-requires-clause-balanced : goal.hand_part-requires-clause-balanced
hand_part-requires-clause-balanced g c =
    balanced-same c.args.groups.now c.as_slice-3.result.now [] c.as_slice-4.result.now (levels_of c.as_slice-5.result.now) tt

pub returns-clause-handed : goal.returns-clause-handed
returns-clause-handed g c =
    let bench = c.args.bench.now in
    let groups = c.args.groups.now in
    let above = c.args.tallies.now.above.items in
    let es = bench.order.items in
    let cs = bench.contacts.items in
    let ls = levels_of c.slab.new.self.parts.items in
    let few : length cs ≤ length es - 1 = omega (arith, contacts-few c.args.x.now es cs c.requires.contacts) in
    let tops : AreTops None es cs [] ls =
    subst (λ ds. AreTops None es ds [] ls) c.as_slice-2.ensures.value (subst (λ fs. AreTops None fs c.as_slice-2.result.now [] ls) c.as_slice.ensures.value c.slab.ensures.tops) in
    c.hand_part.ensures.handed
    ∙ ap (fold g.S.CellSink.after (g.S.CellSink.content c.args.sink.now))
    (ap (λ fs. stop_items groups false (counts groups []) above (stops fs [] c.as_slice-4.result.now (levels_of c.as_slice-5.result.now))) c.as_slice-3.ensures.value
    ∙ ap (λ fs. stop_items groups false (counts groups []) above (stops es [] fs (levels_of c.as_slice-5.result.now))) c.as_slice-4.ensures.value
    ∙ ap (λ ps. stop_items groups false (counts groups []) above (stops es [] es (levels_of ps))) c.as_slice-5.ensures.value
    ∙ slab-items groups above cs es ls few tops c.slab.ensures.onward)
