use Rattle.std.proofs.Common.{◌∙◌, sym}
use Rattle.sf_known.proofs.KnownLaws.{answers_are_true}
use Rattle.sf_relate.specs.Matrices.{matrix_of}
use Rattle.sf_relate.proofs.walking.meets_from.Goals as goal

pub returns : goal.returns
returns c =
    answers_are_true c.in_ok-found.found c.args.goal.now (matrix_of c.args.a.now c.args.b.now) c.unwrap.result c.in_ok-found.ensures.holds (sym c.answer.ensures ∙ c.unwrap.ensures)
