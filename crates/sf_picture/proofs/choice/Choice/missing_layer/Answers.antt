use Rattle.std.proofs.Common.{◌∙◌, rules, not, ap, string_bytes, map}
use Rattle.sf_layers.specs.Content.{has_layer}
use Rattle.sf_picture.specs.Pictures.{Choice}
use Rattle.sf_picture.proofs.Choices.{found-given}
use Rattle.sf_picture.proofs.choice.Choice.missing_layer.Goals as goal

pub returns : goal.returns
returns c = found-given (λ name. not (has_layer c.args.store.now name)) c.first_missing.result c.map.result c.as_slice.result.now c.args.self.now.layers
    c.first_missing.ensures (ap (λ given. map string_bytes given) c.as_slice.ensures.value ∙ ap (λ (choice : Choice). choice.layers) c.self.view_is) (search rules)
