use Rattle.std.proofs.Common.{◌∙◌, ◌++◌, ℕ, List, OnErr, OnOk, ap, subst, sym}
use Rattle.byteorder.specs.Endian.{big_bytes}
use Rattle.sf_format.specs.Canonical.{pair_bytes}
use Rattle.sf_streams.specs.Streams.{Puts, WritesFront}
use Rattle.sf_saving.proofs.rules.put_pair_ask.Goals as goal

pub returns-in-Matrix-clause-ok : goal.returns-in-Matrix-clause-ok
returns-in-Matrix-clause-ok g c =
    subst (λ (t : List ℕ). OnOk c.put_ask.result (Puts (g.W.Write.contents c.args.writer.now) (g.W.Write.contents c.put_ask.new.writer) c.args.output.now c.put_ask.new.output t))
    (ap pair_bytes (sym c.in-Matrix.is)) c.put_ask.ensures.ok

pub returns-in-Matrix-clause-broken : goal.returns-in-Matrix-clause-broken
returns-in-Matrix-clause-broken g c =
    subst (λ (t : List ℕ). OnErr c.put_ask.result (WritesFront (g.W.Write.contents c.args.writer.now) (g.W.Write.contents c.put_ask.new.writer) (c.args.output.now ++ t)))
    (ap pair_bytes (sym c.in-Matrix.is)) c.put_ask.ensures.broken

pub returns-in-Near-clause-ok : goal.returns-in-Near-clause-ok
returns-in-Near-clause-ok g c =
    subst (λ (t : List ℕ). OnOk c.put_u64.result (Puts (g.W.Write.contents c.args.writer.now) (g.W.Write.contents c.put_u64.new.writer) c.args.output.now c.put_u64.new.self t))
    (ap (big_bytes 8) c.thousandths.ensures.value ∙ ap pair_bytes (sym c.in-Near.is)) c.put_u64.ensures.ok

pub returns-in-Near-clause-broken : goal.returns-in-Near-clause-broken
returns-in-Near-clause-broken g c =
    subst (λ (t : List ℕ). OnErr c.put_u64.result (WritesFront (g.W.Write.contents c.args.writer.now) (g.W.Write.contents c.put_u64.new.writer) (c.args.output.now ++ t)))
    (ap (big_bytes 8) c.thousandths.ensures.value ∙ ap pair_bytes (sym c.in-Near.is)) c.put_u64.ensures.broken
