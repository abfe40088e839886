use Rattle.std.proofs.Common.{ap, ◌∙◌}
use Rattle.sf_rtree.specs.Curves.{taken}
use Rattle.sf_rtree.specs.Indexes.{without_box}
use Rattle.sf_rtree.proofs.Roots.{IsRootOf, root-taken}
use Rattle.sf_rtree.proofs.tree.RTreeSpatialIndex.remove.Goals as goal

is_root : (c : goal.In_ok-remove) → IsRootOf c.in_ok-remove.field-0 (without_box c.args.id c.args.self)
is_root c =
    root-taken c.self.inside.root c.in_ok-remove.field-0 c.args.self c.args.id c.args.extent c.self.invariant c.self.view_is c.requires
    (c.in_ok-remove.ensures.entries ∙ ap (λ k. taken k c.self.inside.root.entries) c.new.ensures)

pub invariant_of-result : goal.invariant_of-result
invariant_of-result c = (is_root c).root

pub returns : goal.returns
returns c = (is_root c).boxes
