use Rattle.std.proofs.Common.{◌≡◌, subst}
use Rattle.sf_steps.specs.Inverses.{Accepts, inverse_of}
use Rattle.sf_ruled_store.proofs.InPlaceLaws.{put-answered, put-declined}
use Rattle.sf_ruled_store.proofs.in_place.carry_out_in_place.Goals as goal

pub returns-in-Ok-clause-accepted : goal.returns-in-Ok-clause-accepted
returns-in-Ok-clause-accepted c =
    put-answered c.args.store.now c.apply.new.store c.keep_if_held.new.store c.args.rules.now c.args.edit c.in-Ok.inverse c.keep_if_held.result c.is_well_formed.ensures c.requires.settled c.requires.in_place
    (subst (λ content. Accepts content c.args.edit c.in-Ok.inverse c.apply.new.store) c.make_indexes.ensures c.in-Ok.ensures.carried_out.accepted)
    (subst (λ content. c.in-Ok.inverse ≡ inverse_of content c.args.edit) c.make_indexes.ensures c.in-Ok.ensures.carried_out.inverse) c.keep_if_held.ensures.accepted c.keep_if_held.ensures.hold c.keep_if_held.ensures.kept

pub returns-in-Ok-clause-refused : goal.returns-in-Ok-clause-refused
returns-in-Ok-clause-refused c =
    put-declined c.args.store.now c.apply.new.store c.args.rules.now c.args.edit c.in-Ok.inverse c.keep_if_held.result c.is_well_formed.ensures c.requires.settled c.requires.in_place
    (subst (λ content. Accepts content c.args.edit c.in-Ok.inverse c.apply.new.store) c.make_indexes.ensures c.in-Ok.ensures.carried_out.accepted)
    (subst (λ content. c.in-Ok.inverse ≡ inverse_of content c.args.edit) c.make_indexes.ensures c.in-Ok.ensures.carried_out.inverse) c.keep_if_held.ensures.refused
