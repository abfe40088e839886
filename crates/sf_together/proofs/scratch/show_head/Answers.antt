use Rattle.std.proofs.Common.{◌≡◌, None, length, rules, subst, sym}
use Rattle.std.specs.List.{insert}
use Rattle.sf_layers.specs.Content.{layer_of}
use Rattle.sf_layers.specs.WellFormed.{IsWellFormed}
use Rattle.sf_together.proofs.CallLaws.{head-fits}
use Rattle.sf_together.proofs.scratch.show_head.Goals as goal

pub put_layer-requires-clause-fits : goal.put_layer-requires-clause-fits
put_layer-requires-clause-fits c =
    let none : layer_of c.args.scratch.now c.args.name.now ≡ None = search rules in
    subst (λ n. IsWellFormed (insert c.args.scratch.now n (c.in_ok-copy.copy, c.in_ok-head.head))) (sym c.layer_count-last.ensures.count)
    (subst (λ name. IsWellFormed (insert c.args.scratch.now (length c.args.scratch.now) (name, c.in_ok-head.head))) (sym c.in_ok-copy.ensures)
    (head-fits c.args.store.now c.args.scratch.now c.args.name.now c.args.layer.now c.in_ok-head.head c.requires.fine c.layer_count-last.ensures.well_formed c.requires.part c.requires.of_name none c.in_ok-head.ensures))
