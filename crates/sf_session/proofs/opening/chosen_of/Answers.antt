use Rattle.std.proofs.Common.{None, inr, option_map, refl, subst, ap, ◌∙◌}
use Rattle.sf_journal.specs.Records.{head_with, is_head_alone}
use Rattle.sf_folder.specs.Renewals.{Chooses}
use Rattle.sf_session.proofs.OpeningLaws.{not-alone}
use Rattle.sf_session.proofs.opening.chosen_of.Goals as goal

pub returns-in-Ok-None-2-clause-fault : goal.returns-in-Ok-None-2-clause-fault
returns-in-Ok-None-2-clause-fault c =
    let journal = option_map (λ bytes. bytes.now) c.args.journal in
    let beside = option_map (λ bytes. bytes.now) c.args.beside in
    let head = head_with c.args.file.now.size c.args.file.now.digest in
    let chooses : Chooses head journal beside None = subst (Chooses head journal beside) c.in-Ok-None.field-0-is c.in-Ok-None.ensures in
    inr (refl, chooses, not-alone journal c.is_head_alone.result (c.is_head_alone.ensures ∙ ap is_head_alone c.bytes_in.ensures) c.if-is_head_alone.false)
