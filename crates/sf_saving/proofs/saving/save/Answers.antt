use Rattle.std.proofs.Common.{◌∙◌, ◌++◌, ap}
use Rattle.sf_format.specs.Canonical.{canonical_ruled, front, layers_bytes, rules_bytes}
use Rattle.sf_streams.proofs.Putting.{Putting, Putting-last, Putting-more, Putting-start, all-sent, breaks, breaks-last, broken-whole, some-sent}
use Rattle.sf_saving.proofs.saving.save.Goals as goal
use Rattle.sf_saving.proofs.saving.save.Goals.{In_ok-put, In_ok-put_layers}

with_front : (g : _) (c : In_ok-put g)
    → Putting (g.W.Write.contents c.args.writer.now) (g.W.Write.contents c.put.new.writer) c.in_ok-output.output c.put.new.self (canonical_ruled c.args.ruled.now)
    (layers_bytes c.args.ruled.now.content ++ rules_bytes c.args.ruled.now.rules)
with_front g c =
    let ruled = c.args.ruled.now in
    Putting-more (front) (layers_bytes ruled.content ++ rules_bytes ruled.rules) (c.as_bytes.ensures.value)
    (Putting-start (g.W.Write.contents c.args.writer.now) c.in_ok-output.output (canonical_ruled ruled)) c.in_ok-put.ensures.ok

with_layers : (g : _) (c : In_ok-put_layers g)
    → Putting (g.W.Write.contents c.args.writer.now) (g.W.Write.contents c.put_layers.new.writer) c.in_ok-output.output c.put_layers.new.output (canonical_ruled c.args.ruled.now)
    (rules_bytes c.args.ruled.now.rules)
with_layers g c =
    let ruled = c.args.ruled.now in
    Putting-more (layers_bytes ruled.content) (rules_bytes ruled.rules) (ap layers_bytes c.store.ensures)
    (Putting-more (front) (layers_bytes ruled.content ++ rules_bytes ruled.rules) (c.as_bytes.ensures.value)
    (Putting-start (g.W.Write.contents c.args.writer.now) c.in_ok-output.output (canonical_ruled ruled)) c.in_ok-put.ensures.ok) c.in_ok-put_layers.ensures.ok

pub returns-in_err-put-clause-broken : goal.returns-in_err-put-clause-broken
returns-in_err-put-clause-broken g c =
    let ruled = c.args.ruled.now in
    broken-whole c.from_residual-in_err-put.result _ _ (canonical_ruled ruled) c.in_ok-output.ensures
    (breaks c.from_residual-in_err-put.result (front) (layers_bytes ruled.content ++ rules_bytes ruled.rules) (c.as_bytes.ensures.value)
    (Putting-start (g.W.Write.contents c.args.writer.now) c.in_ok-output.output (canonical_ruled ruled)) c.in_err-put.ensures.broken)

pub returns-in_err-put_layers-clause-broken : goal.returns-in_err-put_layers-clause-broken
returns-in_err-put_layers-clause-broken g c =
    let at = goal.at.returns-in_err-put_layers-clause-broken g c in
    let ruled = c.args.ruled.now in
    broken-whole c.from_residual-in_err-put_layers.result _ _ (canonical_ruled ruled) c.in_ok-output.ensures
    (breaks c.from_residual-in_err-put_layers.result (layers_bytes ruled.content) (rules_bytes ruled.rules) (ap layers_bytes c.store.ensures) (with_front g at.In_ok-put) c.in_err-put_layers.ensures.broken)

pub returns-in_err-put_rules-clause-broken : goal.returns-in_err-put_rules-clause-broken
returns-in_err-put_rules-clause-broken g c =
    let at = goal.at.returns-in_err-put_rules-clause-broken g c in
    let ruled = c.args.ruled.now in
    broken-whole c.from_residual-in_err-put_rules.result _ _ (canonical_ruled ruled) c.in_ok-output.ensures
    (breaks-last c.from_residual-in_err-put_rules.result (rules_bytes ruled.rules) (ap rules_bytes (c.as_slice-rules.ensures ∙ c.rules.ensures)) (with_layers g at.In_ok-put_layers) c.in_err-put_rules.ensures.broken)

pub returns-in_err-finish-clause-broken : goal.returns-in_err-finish-clause-broken
returns-in_err-finish-clause-broken g c =
    let at = goal.at.returns-in_err-finish-clause-broken g c in
    some-sent c.from_residual-in_err-finish.result c.in_ok-output.ensures
    (Putting-last (rules_bytes c.args.ruled.now.rules) (ap rules_bytes (c.as_slice-rules.ensures ∙ c.rules.ensures)) (with_layers g at.In_ok-put_layers) c.in_ok-put_rules.ensures.ok) c.in_err-finish.ensures.broken

pub returns-clause-ok : goal.returns-clause-ok
returns-clause-ok g c =
    let at = goal.at.returns-clause-ok g c in
    all-sent _ c.in_ok-output.ensures
    (Putting-last (rules_bytes c.args.ruled.now.rules) (ap rules_bytes (c.as_slice-rules.ensures ∙ c.rules.ensures)) (with_layers g at.In_ok-put_layers) c.in_ok-put_rules.ensures.ok) c.in_ok-finish.ensures.ok
