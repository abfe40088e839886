use Rattle.std.proofs.Common.{◌∙◌, ℕ, ap, sym}
use Rattle.sf_features.specs.Features.{FeatureContent}
use Rattle.sf_picture.specs.Elements.{element}
use Rattle.sf_picture.specs.Pictures.{feature_text, shows_geometry}
use Rattle.sf_picture.proofs.Choices.{Puts-hidden}
use Rattle.sf_streams.proofs.Putting.{Putting-start, stops}
use Rattle.sf_picture.proofs.layers.put_feature.Goals as goal

pub returns-in_err-push_element-clause-broken : goal.returns-in_err-push_element-clause-broken
returns-in_err-push_element-clause-broken g c =
    let text = feature_text c.args.choice.now c.args.view.now c.args.name.now (c.args.id, c.args.feature.now) in
    stops c.from_residual.result text (Putting-start (g.W.Write.contents c.args.writer.now) c.args.output.now text)

pub returns-else-shows_geometry-clause-ok : goal.returns-else-shows_geometry-clause-ok
returns-else-shows_geometry-clause-ok g c =
    let entry : ℕ × FeatureContent = (c.args.id, c.args.feature.now) in
    let shape = c.geometry.ensures.same ∙ c.valid.ensures.same in
    let hidden = sym (ap (shows_geometry c.args.choice.now) shape) ∙ sym c.shows_geometry.ensures ∙ c.if-shows_geometry.false in
    Puts-hidden (g.W.Write.contents c.args.writer.now) c.args.output.now (element c.args.view.now c.args.name.now entry) (shows_geometry c.args.choice.now c.args.feature.now.geometry) hidden
