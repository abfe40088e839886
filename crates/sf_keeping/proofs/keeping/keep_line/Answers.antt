use Rattle.std.proofs.Common.{true, sym, subst}
use Rattle.sf_keeping.specs.Underway.{IsLineText}
use Rattle.sf_keeping.proofs.CallLaws.{OnOk-map, IfErr-map}
use Rattle.sf_keeping.proofs.KeepingLaws.{GoesOnBy-alone, GoesOnBy-line, BreaksWithin-alone, BreaksWithin-line}
use Rattle.sf_keeping.proofs.RequestLaws.{IsLineText-of, IsUnfed-of}
use Rattle.sf_keeping.proofs.keeping.keep_line.Goals as goal

pub returns-then-is_alone-clause-ok : goal.returns-then-is_alone-clause-ok
returns-then-is_alone-clause-ok g c = OnOk-map c.keep_alone.result (λ goes bytes gathering is_buffer unfed is_held.
    let text = c.whole_line-line.ensures bytes is_buffer in
    let is_text = subst IsLineText (sym text) (IsLineText-of (record { bytes = bytes; ended = true }) unfed) in
    let alone = c.is_alone.ensures.outside gathering is_held c.if-is_alone.true in
    GoesOnBy-alone _ _ _ _ _ _ gathering _ _ _ text alone.0 alone.1 is_held (goes is_text))
    c.keep_alone.ensures.ok

pub returns-then-is_alone-clause-broken : goal.returns-then-is_alone-clause-broken
returns-then-is_alone-clause-broken g c = IfErr-map c.keep_alone.result _ _ (λ fault breaks bytes gathering is_buffer unfed is_held.
    let text = c.whole_line-line.ensures bytes is_buffer in
    let is_text = subst IsLineText (sym text) (IsLineText-of (record { bytes = bytes; ended = true }) unfed) in
    let alone = c.is_alone.ensures.outside gathering is_held c.if-is_alone.true in
    BreaksWithin-alone _ _ _ _ _ _ gathering _ _ text alone.0 alone.1 (breaks is_text))
    c.keep_alone.ensures.broken

pub returns-clause-ok : goal.returns-clause-ok
returns-clause-ok g c = OnOk-map c.keep_asked.result (λ goes bytes gathering is_buffer unfed is_held.
    let text = c.whole_line-line.ensures bytes is_buffer in
    let is_text = subst IsLineText (sym text) (IsLineText-of (record { bytes = bytes; ended = true }) unfed) in
    let took = c.take-asks.ensures gathering is_held (IsUnfed-of _ is_text) in
    GoesOnBy-line _ _ _ _ _ _ gathering c.take-asks.new.self _ _ text (goes _ took.1 is_text) took.0)
    c.keep_asked.ensures.ok

pub returns-clause-broken : goal.returns-clause-broken
returns-clause-broken g c = IfErr-map c.keep_asked.result _ _ (λ fault breaks bytes gathering is_buffer unfed is_held.
    let text = c.whole_line-line.ensures bytes is_buffer in
    let is_text = subst IsLineText (sym text) (IsLineText-of (record { bytes = bytes; ended = true }) unfed) in
    let took = c.take-asks.ensures gathering is_held (IsUnfed-of _ is_text) in
    BreaksWithin-line _ _ _ _ _ _ gathering _ _ text (breaks _ took.1 is_text))
    c.keep_asked.ensures.broken
