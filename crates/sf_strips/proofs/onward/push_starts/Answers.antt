use Rattle.std.proofs.Common.{sym, subst, []}
use Rattle.std.proofs.lemmas.List.{append-nil, drop_all}
use Rattle.sf_strips.specs.Levels.{AreStarts, HasStarts}
use Rattle.sf_strips.proofs.onward.push_starts.Goals as goal

pub returns-clause-starts : goal.returns-clause-starts
returns-clause-starts c =
    let done = c.loop-vertex in
    subst (λ found. HasStarts c.args.vertices.now c.args.found.now.items found)
    (append-nil done.found.items)
    (done.invariant.starts []
    (subst (λ vs. AreStarts vs []) (sym (drop_all done.vertex-index c.args.vertices.now c.loop-vertex-test.false)) (λ i. [])))
