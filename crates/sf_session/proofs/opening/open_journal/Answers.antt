use Rattle.std.proofs.Common.{option_map}
use Rattle.std.proofs.lemmas.Result.{IfErr-weaker, IfOk-weaker}
use Rattle.sf_journal.specs.Records.{head_with}
use Rattle.sf_session.proofs.OpeningLaws.{both-read, err-passed, half-read, opened, renewed-of, unopened, unrenewed-of}
use Rattle.sf_session.proofs.opening.open_journal.Goals as goal

pub returns-in_err-beside-clause-fault : goal.returns-in_err-beside-clause-fault
returns-in_err-beside-clause-fault g c =
    err-passed _ c.in_err-beside.field-0.0 _ c.from_residual-in_err-beside.ensures.1 (half-read _ _ _ _ _ _ _ c.in_err-beside.ensures.fault c.in_ok-journal.ensures.ok c.in_err-beside.ensures.refused)

pub returns-clause-ok : goal.returns-clause-ok
returns-clause-ok g c =
    let journal = option_map (λ bytes. bytes.items) c.in_ok-journal.journal in
    let beside = option_map (λ bytes. bytes.items) c.in_ok-beside.beside in
    let head = head_with c.args.file.now.size c.args.file.now.digest in
    let read = both-read journal beside _ _ _ c.in_ok-journal.ensures.ok c.in_ok-beside.ensures.ok in
    IfOk-weaker c.renew_chosen.result _ _
    (λ sum renews. opened head journal beside _ _ sum _ _ _ read (renewed-of head _ journal _ beside c.args.editor.now c.renew_chosen.new.editor sum _ _ c.slice_of.ensures c.slice_of-2.ensures renews))
    c.renew_chosen.ensures.ok

pub returns-clause-fault : goal.returns-clause-fault
returns-clause-fault g c =
    let journal = option_map (λ bytes. bytes.items) c.in_ok-journal.journal in
    let beside = option_map (λ bytes. bytes.items) c.in_ok-beside.beside in
    let head = head_with c.args.file.now.size c.args.file.now.digest in
    let read = both-read journal beside _ _ _ c.in_ok-journal.ensures.ok c.in_ok-beside.ensures.ok in
    IfErr-weaker c.renew_chosen.result _ _
    (λ fault unrenewed. unopened fault head journal beside _ _ _ _ read (unrenewed-of fault head _ journal _ beside c.args.editor.now _ _ c.slice_of.ensures c.slice_of-2.ensures unrenewed))
    c.renew_chosen.ensures.fault
