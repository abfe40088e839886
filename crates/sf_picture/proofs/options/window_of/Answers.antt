use Rattle.std.proofs.Common.{arith}
use Rattle.sf_picture.proofs.Program.{window_has_four}
use Rattle.sf_picture.proofs.options.window_of.Goals as goal

pub returns-in_default-clause-none : goal.returns-in_default-clause-none
returns-in_default-clause-none c window is = omega (arith, window_has_four c.args.values.now window is, c.in_default.len_below)

pub returns-in_default-2-clause-none : goal.returns-in_default-2-clause-none
returns-in_default-2-clause-none c window is = omega (arith, window_has_four c.args.values.now window is, c.in_default.len_at_least)
