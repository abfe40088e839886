use Rattle.std.proofs.Common.{◌<◌, ◌≤◌, List, ℕ, IsSome, ap, arith, get_or, length, subst, sym}
use Rattle.std.proofs.lemmas.List.Elements.{Contains-get_or}
use Rattle.sf_layers.specs.Content.{feature_of}
use Rattle.sf_reach.specs.Added.{AreAdded}
use Rattle.sf_reach.specs.Chains.{IsStep}
use Rattle.sf_reach.proofs.WalkLaws.{reached-there, walk-begins, walk-ends, walk-fits, walk-goes-on}
use Rattle.sf_reach.proofs.chains.found_from.Goals as goal

pub loop-looked-init : goal.loop-looked-init
loop-looked-init c =
    walk-begins c.args.chains.now.layer.now c.args.chains.now.ask c.args.chains.now.until c.args.given.now c.none-found.result c.add_all.new.found c.none-found.ensures c.in_ok-add_all.ensures

pub add_next-requires-clause-there : goal.add_next-requires-clause-there
add_next-requires-clause-there c =
    let below : c.loop-looked.looked < length c.loop-looked.found = omega (arith, c.loop-looked-test.true, ap length c.order.ensures.value) in
    subst (λ (ids : List ℕ). IsSome (feature_of c.args.chains.now.layer.now (get_or ids c.loop-looked.looked 0))) (sym c.order-in-loop-looked.ensures.value)
    (reached-there c.args.chains.now.layer.now c.args.chains.now.ask c.args.chains.now.until c.args.given.now c.requires.there (get_or c.loop-looked.found c.loop-looked.looked 0)
    (c.loop-looked.invariant.only (get_or c.loop-looked.found c.loop-looked.looked 0) (Contains-get_or c.loop-looked.found c.loop-looked.looked 0 below)))

pub loop-looked-smaller : goal.loop-looked-smaller
loop-looked-smaller c =
    let below : c.loop-looked.looked < length c.loop-looked.found = omega (arith, c.loop-looked-test.true, ap length c.order.ensures.value) in
    let fits : length c.loop-looked.found ≤ length c.args.chains.now.layer.now.features =
    walk-fits c.args.chains.now.layer.now c.args.chains.now.ask c.args.chains.now.until c.args.given.now c.loop-looked.found c.loop-looked.looked
    c.requires.there c.order.ensures.once c.loop-looked.invariant in
    omega (arith, below, fits)

pub loop-looked-preserved : goal.loop-looked-preserved
loop-looked-preserved c =
    let below : c.loop-looked.looked < length c.loop-looked.found = omega (arith, c.loop-looked-test.true, ap length c.order.ensures.value) in
    walk-goes-on c.args.chains.now.layer.now c.args.chains.now.ask c.args.chains.now.until c.args.given.now c.loop-looked.found c.add_next.new.found c.loop-looked.looked below
    c.loop-looked.invariant
    (subst (λ (ids : List ℕ). AreAdded (IsStep c.args.chains.now.layer.now c.args.chains.now.ask c.args.chains.now.until (get_or ids c.loop-looked.looked 0)) c.loop-looked.found c.add_next.new.found)
    c.order-in-loop-looked.ensures.value c.in_ok-add_next.ensures)

pub returns : goal.returns
returns c =
    let all : length c.loop-looked.found ≤ c.loop-looked.looked = omega (arith, c.loop-looked-test.false, ap length c.order.ensures.value) in
    walk-ends c.args.chains.now.layer.now c.args.chains.now.ask c.args.chains.now.until c.args.given.now c.loop-looked.found c.loop-looked.looked all c.loop-looked.invariant
