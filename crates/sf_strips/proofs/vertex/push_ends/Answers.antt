use Rattle.std.proofs.Common.{ap, sym, ◌∙◌, ◌++◌, [], ◌∷◌}
use Rattle.std.proofs.lemmas.List.{append_assoc}
use Rattle.sf_strips.specs.Vertices.{vertices_of}
use Rattle.sf_strips.proofs.vertex.push_ends.Goals as goal

pub returns-in-Edge-clause-items : goal.returns-in-Edge-clause-items
returns-in-Edge-clause-items c =
    let before = c.args.found.now.items in
    let ends = c.ends-first.result in
    c.push_reserved-in-Edge.ensures.items
    ∙ ap (λ items. items ++ ends.1 ∷ []) c.push_reserved.ensures.items
    ∙ append_assoc before (ends.0 ∷ []) (ends.1 ∷ [])
    ∙ ap (λ items. before ++ items) c.ends-first.ensures
    ∙ ap (λ piece. before ++ vertices_of c.args.number piece) (sym c.in-Edge.is)
