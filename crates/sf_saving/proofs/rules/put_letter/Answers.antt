use Rattle.std.proofs.Common.{◌∙◌, ◌++◌, ℕ, List, OnErr, OnOk, subst}
use Rattle.sf_streams.specs.Streams.{Puts, WritesFront}
use Rattle.sf_saving.proofs.rules.put_letter.Goals as goal

pub returns-clause-ok : goal.returns-clause-ok
returns-clause-ok g c =
    subst (λ (t : List ℕ). OnOk c.put.result (Puts (g.W.Write.contents c.args.writer.now) (g.W.Write.contents c.put.new.writer) c.args.output.now c.put.new.self t))
    (c.as_bytes.ensures.value ∙ c.text.ensures) c.put.ensures.ok

pub returns-clause-broken : goal.returns-clause-broken
returns-clause-broken g c =
    subst (λ (t : List ℕ). OnErr c.put.result (WritesFront (g.W.Write.contents c.args.writer.now) (g.W.Write.contents c.put.new.writer) (c.args.output.now ++ t)))
    (c.as_bytes.ensures.value ∙ c.text.ensures) c.put.ensures.broken
