use Rattle.std.proofs.Common.{◌∙◌, sym, ap, subst}
use Rattle.std.specs.BTreeMap.{get_by_text}
use Rattle.std.specs.Map.{values_of}
use Rattle.sf_layers.specs.Content.{moved}
use Rattle.sf_layers.specs.Numbers.{IsNumbered}
use Rattle.sf_layers.proofs.Moved.{IsNumbered-move_index, values-move_index}
use Rattle.sf_layers.proofs.store.Store.move_layer.Goals as goal

pub returns : goal.returns
returns c =
    ap values_of c.move_index.ensures.entries
    ∙ values-move_index c.self.inside.layers.entries c.args.from c.args.to
    ∙ ap (moved c.args.from c.args.to) c.self.view_is

pub invariant_of-self : goal.invariant_of-self
invariant_of-self c = subst (λ es. IsNumbered (get_by_text c.self.inside.numbers) es c.self.inside.next_number) (sym c.move_index.ensures.entries)
    (IsNumbered-move_index (get_by_text c.self.inside.numbers) c.self.inside.layers.entries c.self.inside.next_number c.args.from c.args.to c.self.invariant)
