use Rattle.std.proofs.Common.{◌∙◌, sym}
use Rattle.sf_relate.specs.Matrices.{matrix_of}
use Rattle.sf_query.proofs.EvidenceLaws.{exactly-known, sharing-holds}
use Rattle.sf_query.proofs.QueryLaws.{apart-known}
use Rattle.sf_query.proofs.evidence.by_contact.Goals as goal

pub returns-then-has_contact-clause-holds : goal.returns-then-has_contact-clause-holds
returns-then-has_contact-clause-holds c =
    sharing-holds c.sharing.result c.args.geometry.now c.args.given.now c.sharing.ensures (sym c.in_ok-has_contact.ensures.holds ∙ c.if-has_contact.true)

pub returns-clause-holds : goal.returns-clause-holds
returns-clause-holds c =
    exactly-known c.exactly.result c.matrix_apart.result (matrix_of c.args.geometry.now c.args.given.now) c.exactly.ensures c.matrix_apart.ensures

pub matrix_apart-requires : goal.matrix_apart-requires
matrix_apart-requires c = apart-known c.in_ok-has_contact.has_contact c.args.geometry.now c.args.given.now c.in_ok-has_contact.ensures.holds c.if-has_contact.false
