use Rattle.std.proofs.lemmas.Result.{on_ok_weaker, on_err_weaker}
use Rattle.sf_streams.proofs.SendingLaws.{Puts-sent, WritesFront-sent}
use Rattle.sf_streams.proofs.output.Output.put.Goals as goal

pub returns-then-bytes-gt-HELD_MAX-clause-ok : goal.returns-then-bytes-gt-HELD_MAX-clause-ok
returns-then-bytes-gt-HELD_MAX-clause-ok g c = on_ok_weaker c.send.result
    (λ p. Puts-sent _ _ _ c.args.self.now c.send_held.new.self c.args.bytes.now c.send_held.ensures.empty c.in_ok-send_held.ensures.ok p)
    c.send.ensures.ok

pub returns-then-bytes-gt-HELD_MAX-clause-broken :
    goal.returns-then-bytes-gt-HELD_MAX-clause-broken
returns-then-bytes-gt-HELD_MAX-clause-broken g c = on_err_weaker c.send.result
    (λ p. WritesFront-sent _ _ _ c.args.self.now c.args.bytes.now c.in_ok-send_held.ensures.ok p)
    c.send.ensures.broken
