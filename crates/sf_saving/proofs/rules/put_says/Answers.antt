use Rattle.std.proofs.Common.{◌++◌, ℕ, List, OnErr, OnOk, ap, subst, sym}
use Rattle.sf_format.specs.Canonical.{says_bytes}
use Rattle.sf_streams.specs.Streams.{Puts, WritesFront}
use Rattle.sf_saving.proofs.rules.put_says.Goals as goal

pub returns-in-OfLayers-clause-ok : goal.returns-in-OfLayers-clause-ok
returns-in-OfLayers-clause-ok g c =
    subst (λ (t : List ℕ). OnOk c.put_between.result (Puts (g.W.Write.contents c.args.writer.now) (g.W.Write.contents c.put_between.new.writer) c.args.output.now c.put_between.new.output t))
    (ap says_bytes (sym c.in-OfLayers.is)) c.put_between.ensures.ok

pub returns-in-OfLayers-clause-broken : goal.returns-in-OfLayers-clause-broken
returns-in-OfLayers-clause-broken g c =
    subst (λ (t : List ℕ). OnErr c.put_between.result (WritesFront (g.W.Write.contents c.args.writer.now) (g.W.Write.contents c.put_between.new.writer) (c.args.output.now ++ t)))
    (ap says_bytes (sym c.in-OfLayers.is)) c.put_between.ensures.broken

pub returns-in-OfValues-clause-ok : goal.returns-in-OfValues-clause-ok
returns-in-OfValues-clause-ok g c =
    subst (λ (t : List ℕ). OnOk c.put_on_values.result (Puts (g.W.Write.contents c.args.writer.now) (g.W.Write.contents c.put_on_values.new.writer) c.args.output.now c.put_on_values.new.output t))
    (ap says_bytes (sym c.in-OfValues.is)) c.put_on_values.ensures.ok

pub returns-in-OfValues-clause-broken : goal.returns-in-OfValues-clause-broken
returns-in-OfValues-clause-broken g c =
    subst (λ (t : List ℕ). OnErr c.put_on_values.result (WritesFront (g.W.Write.contents c.args.writer.now) (g.W.Write.contents c.put_on_values.new.writer) (c.args.output.now ++ t)))
    (ap says_bytes (sym c.in-OfValues.is)) c.put_on_values.ensures.broken
