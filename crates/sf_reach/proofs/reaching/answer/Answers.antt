use Rattle.std.proofs.Common.{◌∙◌, sym}
use Rattle.std.proofs.lemmas.Bool.{false≢true}
use Rattle.sf_reach.proofs.ReplyLaws.{all-there, out-of-memory, reached-same, there-all}
use Rattle.sf_reach.proofs.WalkLaws.{stop-rises}
use Rattle.sf_reach.proofs.reaching.answer.Goals as goal

pub returns-then-not-are_there : goal.returns-then-not-are_there
returns-then-not-are_there c = λ all. false≢true (sym c.if-not-are_there.true ∙ c.are_there.ensures ∙ there-all c.args.chains.now.layer.now c.args.given.now all)

pub rising_from-requires-clause-there : goal.rising_from-requires-clause-there
rising_from-requires-clause-there c = all-there c.args.chains.now.layer.now c.args.given.now (sym c.are_there.ensures ∙ c.if-not-are_there.false)

pub returns-in_err-rising_from : goal.returns-in_err-rising_from
returns-in_err-rising_from c =
    out-of-memory c.args.chains.now.layer.now c.args.chains.now.ask c.args.chains.now.until c.args.given.now c.from_residual.result
    (all-there c.args.chains.now.layer.now c.args.given.now (sym c.are_there.ensures ∙ c.if-not-are_there.false)) c.from_residual.ensures.1

pub returns : goal.returns
returns c =
    let all = all-there c.args.chains.now.layer.now c.args.given.now (sym c.are_there.ensures ∙ c.if-not-are_there.false) in (
      all,
      reached-same c.args.chains.now.layer.now c.args.chains.now.ask c.args.chains.now.until c.args.given.now c.in_ok-rising_from.field-0.items c.requires.layer.rising
          (stop-rises c.args.chains.now.until c.requires.until) all c.in_ok-rising_from.ensures,
      c.in_ok-rising_from.ensures,
    )
