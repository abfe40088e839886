use Rattle.sf_relate.specs.Matrices.{matrix_of}
use Rattle.sf_query.proofs.EvidenceLaws.{both-known}
use Rattle.sf_query.proofs.evidence.by_ends.Goals as goal

pub returns : goal.returns
returns c =
    let m = matrix_of c.args.geometry.now c.args.given.now in
    both-known c.and.result c.known_of_kinds.result c.and-2.result m c.and-2.ensures
    (both-known c.in_ok-ends.ends c.in_ok-beside.beside c.and.result m c.and.ensures c.in_ok-ends.ensures.holds c.in_ok-beside.ensures.holds) c.known_of_kinds.ensures.holds
