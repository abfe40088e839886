use Rattle.std.proofs.Common.{Ok, ℕ, sym, subst}
use Rattle.sf_query.proofs.QueryLaws.{layer-fits}
use Rattle.sf_near.specs.Found.{AreEnough, AreTold}
use Rattle.sf_near.specs.Nearest.{nearest_of}
use Rattle.sf_near.specs.Replies.{IsToldNearest}
use Rattle.sf_near.proofs.FoundLaws.{enough, enough-there}
use Rattle.sf_near.proofs.nearest.nearest_to.Goals as goal
use Rattle.sf_near.proofs.nearest.nearest_to.Goals.{After-as_slice}

pub enough_ids-requires : goal.enough_ids-requires
enough_ids-requires c = layer-fits c.args.store.now c.args.layer.now c.in-Some.layer.now c.in-Some.ensures.well_formed (sym c.in-Some.ensures.found)

-- enough of them are looked at
ids : (c : After-as_slice) → AreEnough c.in-Some.layer.now c.from-count.result c.args.given.now c.as_slice.result.now
ids c = subst (AreEnough c.in-Some.layer.now c.from-count.result c.args.given.now) (sym c.as_slice.ensures.value) c.in_ok-ids.ensures

pub nearest_among-requires : goal.nearest_among-requires
nearest_among-requires c =
    enough-there c.in-Some.layer.now c.from-count.result c.args.given.now c.as_slice.result.now
    (layer-fits c.args.store.now c.args.layer.now c.in-Some.layer.now c.in-Some.ensures.well_formed (sym c.in-Some.ensures.found)) (ids c)

pub returns : goal.returns
returns c =
    let fits = layer-fits c.args.store.now c.args.layer.now c.in-Some.layer.now c.in-Some.ensures.well_formed (sym c.in-Some.ensures.found) in
    let at = goal.at.returns c in
    let told : AreTold c.in_ok-nearest_among.field-0.items (nearest_of c.in-Some.layer.now c.from-count.result c.args.given.now) =
    subst (AreTold c.in_ok-nearest_among.field-0.items)
    (enough c.in-Some.layer.now c.from-count.result c.args.given.now c.as_slice.result.now fits (ids at.After-as_slice)) c.in_ok-nearest_among.ensures in
    subst (λ o. IsToldNearest o c.args.count c.args.given.now (Ok c.in_ok-nearest_among.field-0)) c.in-Some.ensures.found
    (subst (λ (k : ℕ). AreTold c.in_ok-nearest_among.field-0.items (nearest_of c.in-Some.layer.now k c.args.given.now)) c.from-count.ensures told)
