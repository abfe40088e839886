use Rattle.std.proofs.Common.{ℕ}
use Rattle.sf_session.specs.Sessions.{SavesTimes}
use Rattle.sf_session.proofs.session.serve_between_saves.Given as goal

-- some saves were made and answered, one after another
abbrev pub invariant-loop : goal.invariant-loop
invariant-loop g l =
    (saves : ℕ) × SavesTimes saves
    (record { unread = g.R.Read.remaining l.fn.reader; ahead = l.fn.input.rest; calls = g.H.Folder.calls l.fn.home; sum = l.fn.sum; machine = l.fn.editor })
    (record { unread = g.R.Read.remaining l.reader; ahead = l.input.rest; calls = g.H.Folder.calls l.home; sum = l.sum; machine = l.editor })
