use Rattle.std.proofs.Common.{[], refl}
use Rattle.sf_session.proofs.SessionLaws.{unserved-here}
use Rattle.sf_session.proofs.session.serve_all.Goals as goal

pub returns-in_default-clause-fault : goal.returns-in_default-clause-fault
returns-in_default-clause-fault g c =
    unserved-here _ (record { unread = g.R.Read.remaining c.args.reader.now; ahead = []; calls = g.H.Folder.calls c.args.home.now; sum = c.args.sum; machine = c.args.editor.now }) 0 refl

pub returns-in_default-new-clause-fault : goal.returns-in_default-new-clause-fault
returns-in_default-new-clause-fault g c =
    unserved-here _ (record { unread = g.R.Read.remaining c.args.reader.now; ahead = []; calls = g.H.Folder.calls c.args.home.now; sum = c.args.sum; machine = c.args.editor.now }) 0 refl
