use Rattle.std.proofs.Common.{refl}
use Rattle.sf_wkt.specs.Grammar.{read}
use Rattle.sf_commands.specs.Commands.{valid_of}
use Rattle.sf_commands.proofs.AddLemmas.{OrMemory-unread}
use Rattle.sf_commands.proofs.QueryLemmas.{valid_of-refused, valid_of-valid}
use Rattle.sf_commands.proofs.query_commands.valid_of.Goals as goal

pub returns-in_err-geometry : goal.returns-in_err-geometry
returns-in_err-geometry c =
    OrMemory-unread valid_of (λ fault. refl) (read c.args.text.now) c.from_residual.result _ c.in_err-geometry.ensures.exact c.from_residual.ensures.1

pub returns-in-Ok : goal.returns-in-Ok
returns-in-Ok c =
    valid_of-valid (read c.args.text.now) c.in_ok-geometry.geometry c.in-Ok.valid c.in_ok-geometry.ensures.exact c.in-Ok.ensures.valid.valid c.in-Ok.ensures.kept

pub returns-in-Err : goal.returns-in-Err
returns-in-Err c =
    valid_of-refused (read c.args.text.now) c.in_ok-geometry.geometry c.in-Err.invalid.refusal c.into.result c.in_ok-geometry.ensures.exact c.in_ok-geometry.ensures.sized c.in-Err.ensures.refused c.into.ensures
