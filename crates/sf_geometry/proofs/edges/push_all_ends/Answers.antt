use Rattle.std.proofs.Common.{ap, sym, ◌∙◌, ◌++◌}
use Rattle.std.specs.List.{flat_map}
use Rattle.std.proofs.lemmas.List.{append-nil, take_all}
use Rattle.sf_geometry.specs.Lists.{ends_of as ends_of_line}
use Rattle.sf_geometry.proofs.ListLaws.{pushed-more}
use Rattle.sf_geometry.proofs.edges.push_all_ends.Goals as goal

pub loop-points-init : goal.loop-points-init
loop-points-init c = sym (append-nil (c.args.found.now.items))

pub loop-points-preserved : goal.loop-points-preserved
loop-points-preserved c =
    pushed-more ends_of_line (c.args.found.now.items) (c.loop-points.found.items) (c.push_ends.new.found.items) c.args.lines.now c.loop-points.points-index c.points-item.result
    c.loop-points-test.true c.points-item.is c.loop-points.invariant
    (c.in_ok-push_ends.ensures ∙ ap (λ xs. c.loop-points.found.items ++ ends_of_line xs) c.as_slice.ensures)

pub returns : goal.returns
returns c =
    c.loop-points.invariant
    ∙ ap (λ xs. c.args.found.now.items ++ flat_map ends_of_line xs) (take_all c.loop-points.points-index c.args.lines.now c.loop-points-test.false)
