use Rattle.std.proofs.Common.{◌≡◌, ◌∙◌, IsTrue, [], false, option_copied, refl, subst, sym}
use Rattle.sf_console.specs.Answers.{reply_text}
use Rattle.sf_console.specs.Gatherings.{IsLastAnswered, IsUnfed}
use Rattle.sf_console.specs.Readings.{line_text}
use Rattle.sf_console.specs.Requests.{Comes, gathered}
use Rattle.sf_console.proofs.GroupLaws.{IsLastAnswered-end, IsLastAnswered-line, IsLastAnswered-open, IsUnfed-line, empty-bytes, last-text, some-bytes}
use Rattle.sf_console.proofs.answering.answer_last_line.Goals as goal

pub returns-then-is_empty : goal.returns-then-is_empty
returns-then-is_empty c = λ bytes gathering is_buffer unfed is_held.
    let empty : bytes ≡ [] = empty-bytes bytes c.args.buffer.now is_buffer (c.if-is_empty.ensures.0 refl) in
    subst (λ b. IsLastAnswered c.args.editor.now gathering b (reply_text c.answer_end.result) c.args.editor.now) (sym empty)
    (IsLastAnswered-end c.args.editor.now c.args.editor.now gathering (reply_text c.answer_end.result) (c.answer_end.ensures gathering c.args.editor.now is_held))

pub returns-then-is_closed : goal.returns-then-is_closed
returns-then-is_closed c = λ bytes gathering is_buffer unfed is_held.
    let line = option_copied c.line-line.result in
    let same : line ≡ line_text (record { bytes = bytes; ended = false }) = c.line-line.ensures ∙ last-text bytes c.args.buffer.now is_buffer in
    let taken = c.take-asks.ensures gathering is_held (subst IsUnfed (sym same) (IsUnfed-line (record { bytes = bytes; ended = false }) unfed)) in
    IsLastAnswered-line c.args.editor.now c.answer_asked.new.editor gathering bytes (reply_text c.answer_asked.result) line
    (some-bytes bytes c.args.buffer.now is_buffer (λ none. let no : IsTrue false = c.if-is_empty.ensures.1 none in cc)) same
    ((c.if-is_closed.ensures (gathered gathering (Comes line)).0 taken.0).0 refl) (c.answer_asked.ensures (gathered gathering (Comes line)).1 taken.1)

pub returns-else-is_closed : goal.returns-else-is_closed
returns-else-is_closed c = λ bytes gathering is_buffer unfed is_held.
    let line = option_copied c.line-line.result in
    let same : line ≡ line_text (record { bytes = bytes; ended = false }) = c.line-line.ensures ∙ last-text bytes c.args.buffer.now is_buffer in
    let taken = c.take-asks.ensures gathering is_held (subst IsUnfed (sym same) (IsUnfed-line (record { bytes = bytes; ended = false }) unfed)) in
    IsLastAnswered-open c.args.editor.now c.args.editor.now gathering bytes (reply_text c.answer_end-else-is_closed.result) line
    (some-bytes bytes c.args.buffer.now is_buffer (λ none. let no : IsTrue false = c.if-is_empty.ensures.1 none in cc)) same
    (λ closed. let no : IsTrue false = (c.if-is_closed.ensures (gathered gathering (Comes line)).0 taken.0).1 closed in cc)
    (c.answer_end-else-is_closed.ensures (gathered gathering (Comes line)).0 c.args.editor.now taken.0)
