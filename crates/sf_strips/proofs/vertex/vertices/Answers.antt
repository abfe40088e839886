use Rattle.std.proofs.Common.{rules}
use Rattle.std.proofs.lemmas.List.Sorted.{answers_always}
use Rattle.sf_strips.specs.Vertices.{vertex_before}
use Rattle.sf_strips.proofs.VertexLaws.{vertices_ranked}
use Rattle.sf_strips.proofs.vertex.vertices.Goals as goal

pub returns-clause-in_order : goal.returns-clause-in_order
returns-clause-in_order c =
    c.sort_unstable_by.ensures.sorted vertex_before vertices_ranked (answers_always _ _ _ (λ f a r g h. search rules))
