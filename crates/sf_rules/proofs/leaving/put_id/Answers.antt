use Rattle.std.proofs.Common.{subst, sym}
use Rattle.sf_rules.specs.Leaving.{HasAlso}
use Rattle.sf_rules.proofs.LeavingLaws.{put-also}
use Rattle.sf_rules.proofs.leaving.put_id.Goals as goal

pub returns-in_ok-insert-in-State : goal.returns-in_ok-insert-in-State
returns-in_ok-insert-in-State c =
    subst (λ slot. HasAlso c.args.ids.now slot c.insert.new.self) (sym c.in-State.is)
    (put-also c.args.ids.now c.insert.new.self c.in-State.place c.in-State.id c.in-State.state c.in_ok-insert-in-State.ensures.updates.0)
