use Rattle.std.proofs.Common.{rules, ◌≡◌, ◌++◌, ◌∷◌, [], refl, subst}
use Rattle.sf_keeping.specs.Desks.{Makes}
use Rattle.sf_keeping.specs.Desks.{AnswerFails}
use Rattle.sf_keeping.specs.Waiting.{keeping_calls}
use Rattle.sf_keeping.specs.declared.desk.KeepFault.TheVariants.{Write}
use Rattle.sf_keeping.proofs.CallLaws.{Makes-trans, err-passed}
use Rattle.sf_keeping.proofs.pending.Pending.commit.Goals as goal

pub returns-in_err-answer-clause-broken : goal.returns-in_err-answer-clause-broken
returns-in_err-answer-clause-broken g c =
    let same : c.as_slice.result.now ≡ c.args.self.now.answers = search rules in
    let made : Makes (g.D.Folder.calls c.args.desk.now) (g.D.Folder.calls c.answer.new.self) (keeping_calls c.args.self.now.records ++ AnswerFails c.args.self.now.answers ∷ []) =
    Makes-trans (g.D.Folder.calls c.args.desk.now) (g.D.Folder.calls c.keep_all.new.desk) (g.D.Folder.calls c.answer.new.self) (keeping_calls c.args.self.now.records) _
    c.in_ok-keep_all.ensures.ok (subst (λ l. Makes (g.D.Folder.calls c.keep_all.new.desk) (g.D.Folder.calls c.answer.new.self) (AnswerFails l ∷ [])) same c.in_err-answer.ensures.failed) in
    err-passed c.from_residual-in_err-answer.result Write _ c.from_residual-in_err-answer.ensures.1 (_, made, refl)
