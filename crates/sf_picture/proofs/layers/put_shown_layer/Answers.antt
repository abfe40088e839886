use Rattle.std.proofs.Common.{◌≡◌, ◌∙◌, ◌++◌, ℕ, List, ap, codes, flat_map, refl}
use Rattle.sf_layers.specs.Content.{LayerContent}
use Rattle.sf_picture.specs.declared.view.View.{View}
use Rattle.sf_picture.specs.Pictures.{Choice, feature_text, layer_head, shown_layer_text}
use Rattle.sf_streams.proofs.Putting.{Putting, Putting-last, Putting-more, Putting-start, breaks, breaks-last}
use Rattle.sf_picture.proofs.layers.put_shown_layer.Goals as goal
use Rattle.sf_picture.proofs.layers.put_shown_layer.Goals.{After-as_bytes, In_ok-put, In_ok-put_features}

abbrev features_of : Choice → View → List ℕ → LayerContent → List ℕ
features_of choice view name layer = flat_map (feature_text choice view name) layer.features

abbrev whole : Choice → View → ℕ → List ℕ → LayerContent → List ℕ
whole choice view place name layer = shown_layer_text choice view place (name, layer)

-- what is put before the features
head-is : (g : _) (c : After-as_bytes g) → c.as_bytes.result.now ≡ layer_head c.args.place c.args.name.now
head-is g c = c.as_bytes.ensures.value ∙ c.in_ok-push_layer_head.ensures ∙ ap (λ (t : List ℕ). t ++ layer_head c.args.place c.args.name.now) c.clear.ensures.bytes

with_head : (g : _) (c : In_ok-put g) → c.as_bytes.result.now ≡ layer_head c.args.place c.args.name.now
    → Putting (g.W.Write.contents c.args.writer.now) (g.W.Write.contents c.put.new.writer) c.args.output.now c.put.new.self (whole c.args.choice.now c.args.view.now c.args.place c.args.name.now c.args.layer.now)
    (features_of c.args.choice.now c.args.view.now c.args.name.now c.args.layer.now ++ codes "</g>\n")
with_head g c same =
    let name = c.args.name.now in
    let layer = c.args.layer.now in
    Putting-more (layer_head c.args.place name) (features_of c.args.choice.now c.args.view.now name layer ++ codes "</g>\n") same
    (Putting-start (g.W.Write.contents c.args.writer.now) c.args.output.now (whole c.args.choice.now c.args.view.now c.args.place name layer)) c.in_ok-put.ensures.ok

with_features : (g : _) (c : In_ok-put_features g)
    → Putting (g.W.Write.contents c.args.writer.now) (g.W.Write.contents c.put.new.writer) c.args.output.now c.put.new.self (whole c.args.choice.now c.args.view.now c.args.place c.args.name.now c.args.layer.now)
    (features_of c.args.choice.now c.args.view.now c.args.name.now c.args.layer.now ++ codes "</g>\n")
    → Putting (g.W.Write.contents c.args.writer.now) (g.W.Write.contents c.put_features.new.writer) c.args.output.now c.put_features.new.output (whole c.args.choice.now c.args.view.now c.args.place c.args.name.now c.args.layer.now)
    (codes "</g>\n")
with_features g c so_far = Putting-more (features_of c.args.choice.now c.args.view.now c.args.name.now c.args.layer.now) (codes "</g>\n") refl so_far c.in_ok-put_features.ensures.ok

pub returns-in_err-put-clause-broken : goal.returns-in_err-put-clause-broken
returns-in_err-put-clause-broken g c =
    let at = goal.at.returns-in_err-put-clause-broken g c in
    let name = c.args.name.now in
    let layer = c.args.layer.now in
    breaks c.from_residual-in_err-put.result (layer_head c.args.place name) (features_of c.args.choice.now c.args.view.now name layer ++ codes "</g>\n") (head-is g at.After-as_bytes)
    (Putting-start (g.W.Write.contents c.args.writer.now) c.args.output.now (whole c.args.choice.now c.args.view.now c.args.place name layer)) c.in_err-put.ensures.broken

pub returns-in_err-put_features-clause-broken : goal.returns-in_err-put_features-clause-broken
returns-in_err-put_features-clause-broken g c =
    let at = goal.at.returns-in_err-put_features-clause-broken g c in
    breaks c.from_residual-in_err-put_features.result (features_of c.args.choice.now c.args.view.now c.args.name.now c.args.layer.now) (codes "</g>\n") refl
    (with_head g at.In_ok-put (head-is g at.After-as_bytes)) c.in_err-put_features.ensures.broken

pub returns-in_err-put-2-clause-broken : goal.returns-in_err-put-2-clause-broken
returns-in_err-put-2-clause-broken g c =
    let at = goal.at.returns-in_err-put-2-clause-broken g c in
    breaks-last c.from_residual-in_err-put-2.result (codes "</g>\n") c.as_bytes-2.ensures.value
    (with_features g at.In_ok-put_features (with_head g at.In_ok-put (head-is g at.After-as_bytes))) c.in_err-put-2.ensures.broken

pub returns-clause-ok : goal.returns-clause-ok
returns-clause-ok g c =
    let at = goal.at.returns-clause-ok g c in
    Putting-last (codes "</g>\n") c.as_bytes-2.ensures.value
    (with_features g at.In_ok-put_features (with_head g at.In_ok-put (head-is g at.After-as_bytes))) c.in_ok-put-2.ensures.ok
