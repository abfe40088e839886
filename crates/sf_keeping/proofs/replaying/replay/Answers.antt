use Rattle.std.proofs.Common.{not, refl, MatchOption, sym, ap, ◌∙◌, subst}
use Rattle.sf_text_lines.specs.Lines.{HasNoFeed}
use Rattle.sf_text_lines.proofs.FeedLemmas.{IsFirstFeed, position-feed}
use Rattle.sf_keeping.proofs.CallLaws.{err-passed}
use Rattle.sf_keeping.proofs.ReplayLaws.{Replays-start, Replays-step, Replays-end, Reads-damaged, FailsAt-text, place_of, rest_fits, some_byte-length}
use Rattle.sf_keeping.proofs.replaying.replay.Goals as goal

pub loop-end-init : goal.loop-end-init
loop-end-init c = Replays-start c.args.sum c.args.bytes.now c.args.editor.now

pub overflow_sub-place : goal.overflow_sub-place
overflow_sub-place c = rest_fits _ _ _ _ _ _ c.loop-end.invariant

pub overflow_sub-result : goal.overflow_sub-result
overflow_sub-result c = rest_fits _ _ _ _ _ _ c.loop-end.invariant

pub returns-in_default-text_of-clause-fault : goal.returns-in_default-text_of-clause-fault
returns-in_default-text_of-clause-fault c =
    let rest = c.loop-end.rest.now in
    let r = c.loop-end.invariant in
    let feed : IsFirstFeed rest c.in-Some.end =
    subst (λ o. MatchOption o (HasNoFeed rest) (IsFirstFeed rest)) (sym c.line_feed.ensures ∙ c.in-Some.is) (position-feed rest) in
    (r.texts, c.loop-end.editor, Reads-damaged _ _ rest _ _ _ c.in-Some.end r feed (λ text is. c.in_default-text_of.ensures text (c.split_at.ensures.front ∙ is)), r.leads, place_of _ _ _ _ _ _ r)

pub returns-in_err-replay_text-clause-fault : goal.returns-in_err-replay_text-clause-fault
returns-in_err-replay_text-clause-fault c =
    let rest = c.loop-end.rest.now in
    let feed : IsFirstFeed rest c.in-Some.end =
    subst (λ o. MatchOption o (HasNoFeed rest) (IsFirstFeed rest)) (sym c.line_feed.ensures ∙ c.in-Some.is) (position-feed rest) in
    err-passed c.from_residual.result c.in_err-replay_text.field-0.0 _ c.from_residual.ensures.1
    (FailsAt-text _ _ rest _ c.loop-end.sum c.loop-end.editor c.in-Some.end c.in-Some-text_of.text.now _ c.loop-end.invariant feed (sym c.split_at.ensures.front ∙ c.in-Some-text_of.ensures) c.in_err-replay_text.ensures.fault)

pub loop-end-preserved : goal.loop-end-preserved
loop-end-preserved c =
    let rest = c.loop-end.rest.now in
    let feed : IsFirstFeed rest c.in-Some.end =
    subst (λ o. MatchOption o (HasNoFeed rest) (IsFirstFeed rest)) (sym c.line_feed.ensures ∙ c.in-Some.is) (position-feed rest) in
    Replays-step _ _ rest _ _ c.loop-end.sum _ _ _ c.in-Some.end c.in-Some-text_of.text.now c.loop-end.invariant feed (sym c.split_at.ensures.front ∙ c.in-Some-text_of.ensures)
    c.in_ok-replay_text.ensures.ok c.with-sum.ensures c.split_at-in-Some.ensures.back

pub returns-clause-ok : goal.returns-clause-ok
returns-clause-ok c =
    let rest = c.loop-end.rest.now in
    let none : HasNoFeed rest =
    subst (λ o. MatchOption o (HasNoFeed rest) (IsFirstFeed rest)) (sym c.line_feed.ensures ∙ c.in_default.is) (position-feed rest) in
    Replays-end _ _ rest _ _ _ _ c.loop-end.invariant none refl refl (ap not c.is_empty.ensures ∙ some_byte-length rest)
