use Rattle.std.proofs.Common.{rules, ◌≡◌, ◌∷◌, [], inr, ap}
use Rattle.sf_streams.proofs.SendingLaws.{OnErr-from}
use Rattle.sf_keeping.specs.Desks.{Makes}
use Rattle.sf_keeping.specs.Desks.{appends, sync_fails}
use Rattle.sf_keeping.proofs.CallLaws.{Makes-trans}
use Rattle.sf_keeping.proofs.pending.Pending.keep_all.Goals as goal

pub returns-in_err-sync_journal-clause-broken : goal.returns-in_err-sync_journal-clause-broken
returns-in_err-sync_journal-clause-broken g c =
    let same : c.as_slice.result.now ≡ c.args.self.now.records = search rules in
    let made : Makes (g.D.Folder.calls c.args.desk.now) (g.D.Folder.calls c.sync_journal.new.self) (appends c.as_slice.result.now ∷ sync_fails ∷ []) =
    Makes-trans _ (g.D.Folder.calls c.append.new.self) _ (appends c.as_slice.result.now ∷ []) _ c.in_ok-append.ensures.ok c.in_err-sync_journal.ensures.failed in
    OnErr-from c.from_residual-in_err-sync_journal.result (_, made, inr (ap (λ r. appends r ∷ sync_fails ∷ []) same))
