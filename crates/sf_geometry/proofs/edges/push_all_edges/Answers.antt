use Rattle.std.proofs.Common.{ap, sym, ◌∙◌, ◌++◌, map}
use Rattle.std.specs.List.{flat_map}
use Rattle.std.proofs.lemmas.List.{append-nil, take_all}
use Rattle.sf_geometry.specs.Lists.{edges_of as edges_of_list}
use Rattle.sf_geometry.specs.Parts.{edge_of}
use Rattle.sf_geometry.proofs.ListLaws.{pushed-more}
use Rattle.sf_geometry.proofs.edges.push_all_edges.Goals as goal

pub loop-points-init : goal.loop-points-init
loop-points-init c = sym (append-nil (map edge_of c.args.found.now.items))

pub loop-points-preserved : goal.loop-points-preserved
loop-points-preserved c =
    pushed-more edges_of_list (map edge_of c.args.found.now.items) (map edge_of c.loop-points.found.items) (map edge_of c.push_edges.new.found.items) c.args.lists.now c.loop-points.points-index c.points-item.result
    c.loop-points-test.true c.points-item.is c.loop-points.invariant
    (c.in_ok-push_edges.ensures ∙ ap (λ xs. map edge_of c.loop-points.found.items ++ edges_of_list xs) c.as_slice.ensures)

pub returns : goal.returns
returns c =
    c.loop-points.invariant
    ∙ ap (λ xs. map edge_of c.args.found.now.items ++ flat_map edges_of_list xs) (take_all c.loop-points.points-index c.args.lists.now c.loop-points-test.false)
