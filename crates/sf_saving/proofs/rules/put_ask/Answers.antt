use Rattle.std.proofs.Common.{◌∙◌, ◌++◌, ℕ, List, OnErr, OnOk, ap, subst, sym}
use Rattle.byteorder.specs.Endian.{big_bytes}
use Rattle.sf_format.specs.Canonical.{ask_bytes}
use Rattle.sf_streams.specs.Streams.{Puts, WritesFront}
use Rattle.sf_saving.proofs.rules.put_ask.Goals as goal

pub returns-in-Named-clause-ok : goal.returns-in-Named-clause-ok
returns-in-Named-clause-ok g c =
    subst (λ (t : List ℕ). OnOk c.put_u8.result (Puts (g.W.Write.contents c.args.writer.now) (g.W.Write.contents c.put_u8.new.writer) c.args.output.now c.put_u8.new.self t))
    (ap (big_bytes 1) c.predicate_byte.ensures ∙ ap ask_bytes (sym c.in-Named.is)) c.put_u8.ensures.ok

pub returns-in-Named-clause-broken : goal.returns-in-Named-clause-broken
returns-in-Named-clause-broken g c =
    subst (λ (t : List ℕ). OnErr c.put_u8.result (WritesFront (g.W.Write.contents c.args.writer.now) (g.W.Write.contents c.put_u8.new.writer) (c.args.output.now ++ t)))
    (ap (big_bytes 1) c.predicate_byte.ensures ∙ ap ask_bytes (sym c.in-Named.is)) c.put_u8.ensures.broken

pub returns-in-Matching-clause-ok : goal.returns-in-Matching-clause-ok
returns-in-Matching-clause-ok g c =
    subst (λ (t : List ℕ). OnOk c.put_pattern.result (Puts (g.W.Write.contents c.args.writer.now) (g.W.Write.contents c.put_pattern.new.writer) c.args.output.now c.put_pattern.new.output t))
    (ap ask_bytes (sym c.in-Matching.is)) c.put_pattern.ensures.ok

pub returns-in-Matching-clause-broken : goal.returns-in-Matching-clause-broken
returns-in-Matching-clause-broken g c =
    subst (λ (t : List ℕ). OnErr c.put_pattern.result (WritesFront (g.W.Write.contents c.args.writer.now) (g.W.Write.contents c.put_pattern.new.writer) (c.args.output.now ++ t)))
    (ap ask_bytes (sym c.in-Matching.is)) c.put_pattern.ensures.broken
