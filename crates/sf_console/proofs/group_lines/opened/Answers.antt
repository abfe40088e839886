use Rattle.std.proofs.Common.{refl}
use Rattle.sf_console.proofs.GroupLaws.{IsOpen-line}
use Rattle.sf_console.proofs.group_lines.opened.Goals as goal

pub returns-in-Ok : goal.returns-in-Ok
returns-in-Ok c = λ head is count unfed. (c.in-Ok.ensures.ok, refl, IsOpen-line c.args.text.now c.args.members head is count unfed)

pub returns-in-Err : goal.returns-in-Err
returns-in-Err c = λ head is count unfed. (refl, IsOpen-line c.args.text.now c.args.members head is count unfed)
