use Rattle.std.proofs.Common.{◌∷◌, [], inr, ap, sym}
use Rattle.sf_keeping.specs.Desks.{Makes}
use Rattle.sf_keeping.specs.Desks.{AnswerFails, appends, sync_fails, syncs}
use Rattle.sf_keeping.specs.declared.desk.KeepFault.TheVariants.{Journal, Write}
use Rattle.sf_keeping.proofs.CallLaws.{Makes-trans, at_once_records, at_once_unanswered, err-passed}
use Rattle.sf_keeping.proofs.pending.Pending.keep_at_once.Goals as goal

pub returns-in_err-sync_journal-clause-broken : goal.returns-in_err-sync_journal-clause-broken
returns-in_err-sync_journal-clause-broken g c = err-passed c.from_residual-in_err-sync_journal.result Journal _ c.from_residual-in_err-sync_journal.ensures.1 (λ none is.
    let made : Makes (g.D.Folder.calls c.args.desk.now) (g.D.Folder.calls c.sync_journal.new.self) (appends c.args.bytes.now ∷ sync_fails ∷ []) =
    Makes-trans _ (g.D.Folder.calls c.append.new.self) _ (appends c.args.bytes.now ∷ []) _ c.in_ok-append.ensures.ok c.in_err-sync_journal.ensures.failed in
    (_, made, inr (ap (λ r. appends r ∷ sync_fails ∷ []) (sym (at_once_records c.args.self.now c.args.text.now c.args.bytes.now none is)))))

pub returns-in_err-answer-clause-broken : goal.returns-in_err-answer-clause-broken
returns-in_err-answer-clause-broken g c = err-passed c.from_residual-in_err-answer.result Write _ c.from_residual-in_err-answer.ensures.1 (λ none is.
    let made : Makes (g.D.Folder.calls c.args.desk.now) (g.D.Folder.calls c.answer.new.self) (appends c.args.bytes.now ∷ syncs ∷ AnswerFails c.args.answer.now ∷ []) =
    Makes-trans _ (g.D.Folder.calls c.sync_journal.new.self) _ (appends c.args.bytes.now ∷ syncs ∷ []) _
    (Makes-trans _ (g.D.Folder.calls c.append.new.self) _ (appends c.args.bytes.now ∷ []) _ c.in_ok-append.ensures.ok c.in_ok-sync_journal.ensures.ok) c.in_err-answer.ensures.failed in
    (_, made, at_once_unanswered c.args.self.now c.args.text.now c.args.bytes.now c.args.answer.now none is))
