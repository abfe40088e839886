use Rattle.std.proofs.Common.{◌≡◌, ap, length, reverse, rules, ◌∙◌}
use Rattle.std.proofs.lemmas.List.{take_at}
use Rattle.sf_edge_tree.proofs.NearLaws.{all-gathered, gathered, none-gathered}
use Rattle.sf_edge_tree.proofs.near.near.Goals as goal

pub loop-run-init : goal.loop-run-init
loop-run-init c = (c.requires.are_nodes, none-gathered c.args.edges.now c.args.nodes.now c.args.extent c.new-found.result.items c.requires (search rules))

pub loop-run-smaller : goal.loop-run-smaller
loop-run-smaller c = c.in-Some.ensures.some.fewer

pub loop-run-preserved : goal.loop-run-preserved
loop-run-preserved c = (
  c.in-Some.ensures.some.tree,
  gathered c.args.edges.now c.loop-run.left.now c.in-Some.before.now c.args.extent c.in-Some.run'.now c.loop-run.found.items c.push_near.new.found.items
      c.in-Some.ensures.some c.loop-run.invariant.1 c.in_ok-push_near.ensures,
)

pub returns : goal.returns
returns c =
    let long : length c.reverse.new.self ≡ c.loop-run.found.len = search rules in
    take_at c.reverse.new.self _ c.loop-run.found.len long
    ∙ c.reverse.ensures.after ∙ ap reverse c.as_mut_slice.ensures.value
    ∙ all-gathered c.args.edges.now c.loop-run.left.now c.args.extent c.loop-run.found.items c.in_default.ensures.none c.loop-run.invariant.1
