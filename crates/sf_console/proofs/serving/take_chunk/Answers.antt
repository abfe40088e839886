use Rattle.std.proofs.Common.{◌++◌, ◌∙◌, ◌+◌, [], MatchOption, take, drop, ap, sym, subst}
use Rattle.sf_text_lines.specs.Lines.{HasNoFeed}
use Rattle.sf_text_lines.specs.Buffers.{IsBufferOf, buffered_with, nothing_buffered}
use Rattle.sf_text_lines.proofs.LineLemmas.{HasNoFeed-append}
use Rattle.sf_text_lines.proofs.FeedLemmas.{IsFirstFeed, position-feed}
use Rattle.sf_text_lines.proofs.BufferLemmas.{IsBufferOf-extend}
use Rattle.sf_streams.proofs.SendingLaws.{OnErr-from}
use Rattle.sf_console.specs.Requests.{left_in}
use Rattle.sf_console.specs.Chunks.{Takes}
use Rattle.sf_console.proofs.Progress.{Takes-start, Takes-line, Takes-break, Takes-rest}
use Rattle.sf_console.proofs.serving.take_chunk.Goals as goal

pub loop-at-init : goal.loop-at-init
loop-at-init g c = (λ before gathering is_buffer unfed is_held. Takes-start before c.args.chunk.now c.args.buffer.now gathering c.args.group.now _ _ is_buffer unfed is_held, λ left. left)

pub returns-in_err-send_reply-clause-broken : goal.returns-in_err-send_reply-clause-broken
returns-in_err-send_reply-clause-broken g c =
    let rest = c.loop-at.rest.now in
    let feed : IsFirstFeed rest c.in-Some.at =
    subst (λ r. MatchOption r (HasNoFeed rest) (IsFirstFeed rest)) (sym c.line_feed.ensures ∙ c.in-Some.is) (position-feed rest) in
    OnErr-from c.from_residual.result (λ before gathering is_buffer unfed is_held.
    let t = c.loop-at.invariant.0 before gathering is_buffer unfed is_held in
    let line = t.after ++ take c.in-Some.at rest in
    let buffered : IsBufferOf line c.extend.new.self =
    subst (IsBufferOf line) (sym (c.extend.ensures ∙ ap (buffered_with c.loop-at.buffer) c.split_at.ensures.front))
    (IsBufferOf-extend t.after (take c.in-Some.at rest) c.loop-at.buffer t.is_buffer) in
    Takes-break before c.args.chunk.now rest c.in-Some.at c.loop-at.buffer _ gathering c.loop-at.group _ _ _ c.args.editor.now c.loop-at.editor c.answer_line-reply.new.editor t feed
    (c.answer_line-reply.ensures line (left_in gathering t.finished) buffered (HasNoFeed-append t.after (take c.in-Some.at rest) t.unfed feed.unfed) t.is_held).0 c.in_err-send_reply.ensures.broken c.in_err-send_reply.ensures.something)

pub loop-at-preserved : goal.loop-at-preserved
loop-at-preserved g c =
    let rest = c.loop-at.rest.now in
    let feed : IsFirstFeed rest c.in-Some.at =
    subst (λ r. MatchOption r (HasNoFeed rest) (IsFirstFeed rest)) (sym c.line_feed.ensures ∙ c.in-Some.is) (position-feed rest) in (
      λ before gathering is_buffer unfed is_held.
          let t = c.loop-at.invariant.0 before gathering is_buffer unfed is_held in
          let line = t.after ++ take c.in-Some.at rest in
          let buffered : IsBufferOf line c.extend.new.self =
          subst (IsBufferOf line) (sym (c.extend.ensures ∙ ap (buffered_with c.loop-at.buffer) c.split_at.ensures.front))
          (IsBufferOf-extend t.after (take c.in-Some.at rest) c.loop-at.buffer t.is_buffer) in
          let taken : Takes before c.args.chunk.now (drop (c.in-Some.at + 1) rest) nothing_buffered gathering c.answer_line-reply.new.group (g.W.Write.contents c.args.writer.now) (g.W.Write.contents c.send_reply.new.writer) c.args.editor.now c.answer_line-reply.new.editor =
          let taken_line = c.answer_line-reply.ensures line (left_in gathering t.finished) buffered (HasNoFeed-append t.after (take c.in-Some.at rest) t.unfed feed.unfed) t.is_held in
          Takes-line before c.args.chunk.now rest c.in-Some.at c.loop-at.buffer _ gathering c.loop-at.group c.answer_line-reply.new.group _ _ _ c.args.editor.now c.loop-at.editor c.answer_line-reply.new.editor t feed
          taken_line.0 taken_line.1 c.in_ok-send_reply.ensures.ok in
          subst (λ r. Takes before c.args.chunk.now r c.clear.new.self gathering c.answer_line-reply.new.group (g.W.Write.contents c.args.writer.now) (g.W.Write.contents c.send_reply.new.writer) c.args.editor.now c.answer_line-reply.new.editor) (sym c.split_at-in-Some.ensures.back)
          (subst (λ b. Takes before c.args.chunk.now (drop (c.in-Some.at + 1) rest) b gathering c.answer_line-reply.new.group (g.W.Write.contents c.args.writer.now) (g.W.Write.contents c.send_reply.new.writer) c.args.editor.now c.answer_line-reply.new.editor) (sym c.clear.ensures) taken),
      λ left. c.in_ok-send_reply.ensures.sent (c.loop-at.invariant.1 left),
    )

pub returns-clause-ok : goal.returns-clause-ok
returns-clause-ok g c =
    let rest = c.loop-at.rest.now in
    let none : HasNoFeed rest =
    subst (λ r. MatchOption r (HasNoFeed rest) (IsFirstFeed rest)) (sym c.line_feed.ensures ∙ c.in_default.is) (position-feed rest) in
    λ before gathering is_buffer unfed is_held.
    subst (λ b. Takes before c.args.chunk.now [] b gathering c.loop-at.group (g.W.Write.contents c.args.writer.now) (g.W.Write.contents c.loop-at.writer) c.args.editor.now c.loop-at.editor) (sym c.extend-2.ensures)
    (Takes-rest before c.args.chunk.now rest c.loop-at.buffer gathering c.loop-at.group _ _ c.args.editor.now c.loop-at.editor (c.loop-at.invariant.0 before gathering is_buffer unfed is_held) none)

pub returns-clause-sent : goal.returns-clause-sent
returns-clause-sent g c = c.loop-at.invariant.1
