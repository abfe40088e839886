use Rattle.std.proofs.Common.{ap, sym, ◌∙◌, ◌++◌, ◌∷◌, [], append_assoc, take, map}
use Rattle.sf_faults.specs.Orders.{placed_in, spot}
use Rattle.sf_faults.proofs.RingLaws.{spots-of_part, spots-part_end}
use Rattle.sf_faults.proofs.spots.push_spots.Goals as goal

pub loop-ring-preserved : goal.loop-ring-preserved
loop-ring-preserved c =
    let all = map (λ r. r.0) (placed_in c.args.part c.args.rings.now) in
    c.in_ok-push.ensures.items
    ∙ ap (λ xs. xs ++ spot c.args.part c.loop-ring.ring ∷ []) c.loop-ring.invariant
    ∙ append_assoc c.args.found.now.items (take c.loop-ring.ring all) (spot c.args.part c.loop-ring.ring ∷ [])
    ∙ ap (λ xs. c.args.found.now.items ++ xs) (sym (spots-of_part c.args.part c.args.rings.now c.loop-ring.ring c.loop-ring-test.true))

pub returns : goal.returns
returns c = c.loop-ring.invariant ∙ ap (λ xs. c.args.found.now.items ++ xs) (spots-part_end c.args.part c.args.rings.now c.loop-ring.ring c.loop-ring-test.false)
