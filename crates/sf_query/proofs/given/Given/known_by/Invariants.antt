use Rattle.sf_known.specs.Known.{Holds}
use Rattle.sf_relate.specs.Matrices.{matrix_of}
use Rattle.sf_query.proofs.given.Given.known_by.Given as goal

-- what is known so far holds of the matrix
abbrev pub invariant-loop-evidence : goal.invariant-loop-evidence
invariant-loop-evidence l = Holds l.known (matrix_of l.geometry l.self)
