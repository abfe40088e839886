use Rattle.std.proofs.Common.{◌∙◌, ap, [], sym, length, arith}
use Rattle.sf_words.specs.Parts.{parts_of}
use Rattle.sf_commands.proofs.GroupLemmas.{counted}
use Rattle.sf_commands.proofs.group_text.members_count.Goals as goal

pub returns-in-Ok : goal.returns-in-Ok
returns-in-Ok c = λ is.
    let texts = parts_of c.args.text.now in
    let came = rw c.in-Ok.is at is in
    let more = counted [] texts c.in-Ok.group (sym came) in
    ap length c.members.ensures ∙ omega (arith, more)
