use Rattle.std.proofs.Common.{◌∙◌, ℕ, List, sym}
use Rattle.sf_layers.specs.Content.{LayerContent}
use Rattle.sf_picture.specs.Pictures.{shown_layer_text, shows_layer}
use Rattle.sf_picture.proofs.Choices.{Puts-hidden}
use Rattle.sf_picture.proofs.layers.put_layer.Goals as goal

pub returns-else-shows_layer-clause-ok : goal.returns-else-shows_layer-clause-ok
returns-else-shows_layer-clause-ok g c =
    let entry : List ℕ × LayerContent = (c.args.name.now, c.args.layer.now) in
    Puts-hidden (g.W.Write.contents c.args.writer.now) c.args.output.now (shown_layer_text c.args.choice.now c.args.view.now c.args.place entry) (shows_layer c.args.choice.now c.args.name.now)
    (sym c.shows_layer.ensures ∙ c.if-shows_layer.false)
