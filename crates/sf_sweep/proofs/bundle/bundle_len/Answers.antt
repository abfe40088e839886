use Rattle.sf_sweep.proofs.PassLaws.{run-by_edges}
use Rattle.sf_sweep.proofs.bundle.bundle_len.Goals as goal

pub returns-in-Some : goal.returns-in-Some
returns-in-Some c =
    run-by_edges c.args.contacts.now c.args.order.now c.in-Some.uppers.now c.in-Some.field-0-0.now c.on_one_line.result c.in-Some.ensures.cases.0 c.on_one_line.ensures.value
