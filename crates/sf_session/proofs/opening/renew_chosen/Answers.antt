use Rattle.std.proofs.Common.{option_map, subst}
use Rattle.sf_journal.specs.Records.{head_with}
use Rattle.sf_folder.specs.Calls.{Does}
use Rattle.sf_folder.specs.Renewals.{renewing_calls}
use Rattle.sf_session.proofs.OpeningLaws.{err-passed, records-are, renewed, unchosen, unreplayed, unwritten}
use Rattle.sf_session.proofs.opening.renew_chosen.Goals as goal

pub returns-in_err-chosen-clause-fault : goal.returns-in_err-chosen-clause-fault
returns-in_err-chosen-clause-fault g c =
    err-passed c.from_residual.result c.in_err-chosen.field-0.0 _ c.from_residual.ensures.1 (unchosen _ _ _ _ _ _ c.in_err-chosen.ensures.fault)

pub returns-in_err-replayed-clause-fault : goal.returns-in_err-replayed-clause-fault
returns-in_err-replayed-clause-fault g c =
    err-passed c.from_residual-in_err-replayed.result c.in_err-replayed.field-0.0 _ c.from_residual-in_err-replayed.ensures.1
    (unreplayed c.in_err-replayed.field-0.0 (head_with c.args.file.now.size c.args.file.now.digest) (option_map (λ bytes. bytes.now) c.args.journal) (option_map (λ bytes. bytes.now) c.args.beside) c.in_ok-chosen.chosen _ c.in_ok-first.front c.in_ok-first.first _ _ c.in_ok-chosen.ensures.ok c.in_ok-first.ensures.ok.1 c.in_ok-first.ensures.ok.0
    (records-are (head_with c.args.file.now.size c.args.file.now.digest) _ _ c.in_ok-chosen.chosen (option_map (λ bytes. bytes.now) c.args.journal) (option_map (λ bytes. bytes.now) c.args.beside) _ c.in_ok-first.ensures.ok.1 c.bytes_of.ensures c.behind-records.ensures) c.in_err-replayed.ensures.fault)

pub returns-in_err-write_anew-clause-fault : goal.returns-in_err-write_anew-clause-fault
returns-in_err-write_anew-clause-fault g c =
    err-passed c.from_residual-in_err-write_anew.result c.in_err-write_anew.field-0.0 _ c.from_residual-in_err-write_anew.ensures.1
    (unwritten _ _ _ _ c.in_ok-chosen.chosen _ _ _ _ c.in_err-write_anew.ensures.fault c.in_err-write_anew.ensures.tried)

pub returns-clause-ok : goal.returns-clause-ok
returns-clause-ok g c =
    renewed (head_with c.args.file.now.size c.args.file.now.digest) (option_map (λ bytes. bytes.now) c.args.journal) (option_map (λ bytes. bytes.now) c.args.beside) c.in_ok-chosen.chosen _ _ c.in_ok-first.first _ c.in_ok-replayed.replayed _ _ _ c.in_ok-chosen.ensures.ok c.in_ok-first.ensures.ok.0
    (records-are (head_with c.args.file.now.size c.args.file.now.digest) _ _ c.in_ok-chosen.chosen (option_map (λ bytes. bytes.now) c.args.journal) (option_map (λ bytes. bytes.now) c.args.beside) _ c.in_ok-first.ensures.ok.1 c.bytes_of.ensures c.behind-records.ensures) c.in_ok-replayed.ensures.ok
    (subst (λ b. Does (g.H.Folder.calls c.args.home.now) (g.H.Folder.calls c.write_anew.new.home) (renewing_calls c.in_ok-chosen.chosen (head_with c.args.file.now.size c.args.file.now.digest) b)) c.whole_of.ensures c.in_ok-write_anew.ensures.ok) c.warn_if_cut.ensures
