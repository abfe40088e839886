use Rattle.std.proofs.Common.{◌<◌, length, map, subst, sym, ◌∙◌}
use Rattle.sf_geometry.specs.Parts.{edge_of}
use Rattle.sf_crossing.specs.Crossing.{HaveCrossing}
use Rattle.sf_crossing.proofs.AloneLaws.{crossing-found}
use Rattle.sf_crossing.proofs.EdgeLaws.{AreLong}
use Rattle.sf_crossing.proofs.crossing.some_near_pair_crosses.Goals as goal

pub find_pair_with-requires : goal.find_pair_with-requires
find_pair_with-requires c i j k l = (
  subst AreLong (sym (c.edges.ensures ∙ c.in_ok-tree.ensures)) c.requires.first_long,
  subst AreLong (sym (c.edges-2.ensures ∙ c.in_ok-other.ensures)) c.requires.second_long,
  subst (λ es. i < length es) (sym c.edges.ensures) k,
  subst (λ es. j < length es) (sym c.edges-2.ensures) l,
)

pub returns-in-Found : goal.returns-in-Found
returns-in-Found c =
    λ t.
    subst (λ es. HaveCrossing (map edge_of es) (map edge_of c.args.second.items)) (c.edges.ensures ∙ c.in_ok-tree.ensures)
    (subst (λ fs. HaveCrossing (map edge_of c.edges.result.now) (map edge_of fs)) (c.edges-2.ensures ∙ c.in_ok-other.ensures)
    (crossing-found c.edges.result.now c.edges-2.result.now c.in_ok-tree.tree c.in_ok-other.other c.find_pair_with.result (sym c.edges.ensures) (sym c.edges-2.ensures) c.in-Found.is c.find_pair_with.ensures))
