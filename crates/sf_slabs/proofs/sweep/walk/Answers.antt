use Rattle.std.proofs.Common.{sym, subst, ◌≤◌, length}
use Rattle.sf_slabs.proofs.SweepLaws.{vertices-few}
use Rattle.sf_slabs.proofs.sweep.walk.Goals as goal

pub walk_sorted-requires-clause-few_vertices : goal.walk_sorted-requires-clause-few_vertices
walk_sorted-requires-clause-few_vertices g c =
    subst (λ vs. length vs ≤ 33554430) (sym c.as_slice.ensures.value)
    (vertices-few c.args.pieces.now c.in_ok-vertices.vertices.items c.requires.few c.in_ok-vertices.ensures.all)
