use Rattle.sf_layers.proofs.Outcomes.{OnOk-map}
use Rattle.sf_console.proofs.Progress.{EndsInput-answered, BreaksAtEnd-answered, OnErr-both}
use Rattle.sf_console.proofs.serving.finish.Goals as goal

pub returns-clause-ok : goal.returns-clause-ok
returns-clause-ok g c = OnOk-map c.send_reply.result
    (λ appended before gathering is_buffer unfed is_held. EndsInput-answered before _ gathering _ _ _ _ (c.answer_last_line-reply.ensures before gathering is_buffer unfed is_held) appended)
    c.send_reply.ensures.ok

pub returns-clause-broken : goal.returns-clause-broken
returns-clause-broken g c = OnErr-both c.send_reply.result
    (λ front something before gathering is_buffer unfed is_held. BreaksAtEnd-answered before _ gathering _ _ _ _ (c.answer_last_line-reply.ensures before gathering is_buffer unfed is_held) front something)
    c.send_reply.ensures.broken c.send_reply.ensures.something
