use Rattle.std.proofs.Common.{false, sym, subst, ◌∙◌}
use Rattle.sf_keeping.specs.Underway.{IsLineText}
use Rattle.sf_keeping.proofs.CallLaws.{OnOk-map, IfErr-map}
use Rattle.sf_keeping.proofs.KeepingLaws.{GoesOnBy-last_line, BreaksWithin-last_line}
use Rattle.sf_keeping.proofs.RequestLaws.{IsLineText-of, IsUnfed-of, bytes-some, last_text-buffer}
use Rattle.sf_keeping.proofs.keeping.keep_last.Goals as goal

pub returns-clause-ok : goal.returns-clause-ok
returns-clause-ok g c = OnOk-map c.keep_asked.result (λ goes bytes gathering is_buffer unfed is_held.
    let text = c.line-text.ensures ∙ last_text-buffer bytes c.args.line.now is_buffer in
    let is_text = subst IsLineText (sym text) (IsLineText-of (record { bytes = bytes; ended = false }) unfed) in
    let took = c.take-asks.ensures gathering is_held (IsUnfed-of _ is_text) in
    GoesOnBy-last_line _ _ _ _ _ _ gathering c.take-asks.new.self _ bytes (bytes-some bytes c.args.line.now c.is_empty.result is_buffer c.is_empty.ensures c.if-is_empty.false) text
    (goes _ took.1 is_text) took.0)
    c.keep_asked.ensures.ok

pub returns-clause-broken : goal.returns-clause-broken
returns-clause-broken g c = IfErr-map c.keep_asked.result _ _ (λ fault breaks bytes gathering is_buffer unfed is_held.
    let text = c.line-text.ensures ∙ last_text-buffer bytes c.args.line.now is_buffer in
    let is_text = subst IsLineText (sym text) (IsLineText-of (record { bytes = bytes; ended = false }) unfed) in
    let took = c.take-asks.ensures gathering is_held (IsUnfed-of _ is_text) in
    BreaksWithin-last_line _ _ _ _ _ _ gathering _ bytes (bytes-some bytes c.args.line.now c.is_empty.result is_buffer c.is_empty.ensures c.if-is_empty.false) text (breaks _ took.1 is_text))
    c.keep_asked.ensures.broken
