use Rattle.std.proofs.Common.{◌∙◌, sym}
use Rattle.sf_distance.specs.Mixed.{number_of}
use Rattle.sf_distance.proofs.DotLaws.{ends_same, least_from_point, least_to_point}
use Rattle.sf_distance.proofs.edges.square_between_edges.Goals as goal

pub returns-then-eq : goal.returns-then-eq
returns-then-eq c =
    least_from_point c.args.e.now.0 c.args.e.now.1 c.args.f.now (number_of c.square_from_point.result)
    (ends_same c.args.e.now.0 c.args.e.now.1 (sym c.eq.ensures ∙ c.if-eq.true)) c.square_from_point.ensures

pub returns-then-eq-2 : goal.returns-then-eq-2
returns-then-eq-2 c =
    least_to_point c.args.f.now.0 c.args.f.now.1 c.args.e.now (number_of c.square_to_edge.result)
    (ends_same c.args.f.now.0 c.args.f.now.1 (sym c.eq-2.ensures ∙ c.if-eq-2.true)) c.square_to_edge.ensures
