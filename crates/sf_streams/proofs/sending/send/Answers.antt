use Rattle.std.proofs.Common.{◌++◌, ◌∙◌, take, drop, ap, sym, append_assoc, take-append-drop}
use Rattle.std.proofs.KnownBytes.{Appends-trans}
use Rattle.sf_streams.proofs.sending.send.Goals as goal

pub loop-rest-preserved : goal.loop-rest-preserved
loop-rest-preserved g c =
    let sent = c.loop-rest.invariant.0 in
    let rest = c.loop-rest.rest.now in (
      sent ++ take c.in-Ok.count rest,
      Appends-trans _ _ _ _ _ c.loop-rest.invariant.1 c.in-Ok.ensures.bytes,
      c.loop-rest.invariant.2 ∙ ap (λ l. sent ++ l) (sym (take-append-drop c.in-Ok.count rest))
          ∙ sym (append_assoc sent (take c.in-Ok.count rest) (drop c.in-Ok.count rest))
          ∙ ap (λ l. (sent ++ take c.in-Ok.count rest) ++ l) (sym c.split_at.ensures.back),
    )
