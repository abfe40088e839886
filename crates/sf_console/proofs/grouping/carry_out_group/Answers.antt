use Rattle.std.proofs.Common.{ap, arith, length}
use Rattle.sf_console.proofs.GroupAnswers.{few-identifiers}
use Rattle.sf_console.proofs.grouping.carry_out_group.Goals as goal

pub write_identifiers-requires-clause-room : goal.write_identifiers-requires-clause-room
write_identifiers-requires-clause-room c =
    let few = few-identifiers c.args.asker c.args.editor.now c.group_as.new.self c.args.group c.in-Ok-group_as.ids.items c.in-Ok-group_as.ensures.accepted in
    let room = c.in-Ok.ensures.room in
    let members = ap length c.members.ensures in
    let ids = ap length c.as_slice.ensures.value in
    omega (arith, few, room, members, ids)
