use Rattle.std.proofs.Common.{◌≡◌, ◌∙◌, ◌++◌, List, ℕ, ap, refl}
use Rattle.sf_layers.specs.Content.{Content}
use Rattle.sf_picture.specs.declared.view.View.{View}
use Rattle.sf_picture.specs.Pictures.{Choice, back, front, layers_text, picture}
use Rattle.sf_streams.specs.Streams.{Puts}
use Rattle.sf_streams.proofs.Putting.{Putting, Putting-last, Putting-more, Putting-start, all-sent, breaks, breaks-last, broken-whole, some-sent, stops}
use Rattle.sf_picture.proofs.drawing.draw.Goals as goal
use Rattle.sf_picture.proofs.drawing.draw.Goals.{After-as_bytes, After-as_bytes-2, In_ok-put, In_ok-put_layers, In_ok-put-2}

-- what is left behind the front
abbrev behind_front : Choice → View → Content → List ℕ
behind_front choice view content = layers_text choice view 0 content ++ back choice view content

front-is : (g : _) (c : After-as_bytes g) → c.as_bytes.result.now ≡ front c.args.view.now
front-is g c = c.as_bytes.ensures.value ∙ c.in_ok-push_front.ensures ∙ ap (λ (t : List ℕ). t ++ front c.args.view.now) c.new-text.ensures.bytes

back-is : (g : _) (c : After-as_bytes-2 g) → c.as_bytes-2.result.now ≡ back c.args.choice.now c.args.view.now c.args.store.now
back-is g c = c.as_bytes-2.ensures.value ∙ c.in_ok-push_back.ensures ∙ ap (λ (t : List ℕ). t ++ back c.args.choice.now c.args.view.now c.args.store.now) c.clear.ensures.bytes

with_front : (g : _) (c : In_ok-put g) → c.as_bytes.result.now ≡ front c.args.view.now
    → Putting (g.W.Write.contents c.args.writer.now) (g.W.Write.contents c.put.new.writer) c.in_ok-output.output c.put.new.self (picture c.args.choice.now c.args.view.now c.args.store.now)
    (behind_front c.args.choice.now c.args.view.now c.args.store.now)
with_front g c same =
    Putting-more (front c.args.view.now) (behind_front c.args.choice.now c.args.view.now c.args.store.now) same
    (Putting-start (g.W.Write.contents c.args.writer.now) c.in_ok-output.output (picture c.args.choice.now c.args.view.now c.args.store.now)) c.in_ok-put.ensures.ok

with_layers : (g : _) (c : In_ok-put_layers g)
    → Putting (g.W.Write.contents c.args.writer.now) (g.W.Write.contents c.put.new.writer) c.in_ok-output.output c.put.new.self (picture c.args.choice.now c.args.view.now c.args.store.now)
    (behind_front c.args.choice.now c.args.view.now c.args.store.now)
    → Putting (g.W.Write.contents c.args.writer.now) (g.W.Write.contents c.put_layers.new.writer) c.in_ok-output.output c.put_layers.new.output (picture c.args.choice.now c.args.view.now c.args.store.now)
    (back c.args.choice.now c.args.view.now c.args.store.now)
with_layers g c so_far =
    Putting-more (layers_text c.args.choice.now c.args.view.now 0 c.args.store.now) (back c.args.choice.now c.args.view.now c.args.store.now) refl so_far c.in_ok-put_layers.ensures.ok

with_back : (g : _) (c : In_ok-put-2 g) → c.as_bytes-2.result.now ≡ back c.args.choice.now c.args.view.now c.args.store.now
    → Putting (g.W.Write.contents c.args.writer.now) (g.W.Write.contents c.put_layers.new.writer) c.in_ok-output.output c.put_layers.new.output (picture c.args.choice.now c.args.view.now c.args.store.now)
    (back c.args.choice.now c.args.view.now c.args.store.now)
    → Puts (g.W.Write.contents c.args.writer.now) (g.W.Write.contents c.put-2.new.writer) c.in_ok-output.output c.put-2.new.self (picture c.args.choice.now c.args.view.now c.args.store.now)
with_back g c same so_far = Putting-last (back c.args.choice.now c.args.view.now c.args.store.now) same so_far c.in_ok-put-2.ensures.ok

pub returns-in_err-put-clause-broken : goal.returns-in_err-put-clause-broken
returns-in_err-put-clause-broken g c =
    let at = goal.at.returns-in_err-put-clause-broken g c in
    let whole = picture c.args.choice.now c.args.view.now c.args.store.now in
    broken-whole c.from_residual-in_err-put.result _ _ whole c.in_ok-output.ensures
    (breaks c.from_residual-in_err-put.result (front c.args.view.now) (behind_front c.args.choice.now c.args.view.now c.args.store.now) (front-is g at.After-as_bytes)
    (Putting-start (g.W.Write.contents c.args.writer.now) c.in_ok-output.output whole) c.in_err-put.ensures.broken)

pub returns-in_err-put_layers-clause-broken : goal.returns-in_err-put_layers-clause-broken
returns-in_err-put_layers-clause-broken g c =
    let at = goal.at.returns-in_err-put_layers-clause-broken g c in
    broken-whole c.from_residual-in_err-put_layers.result _ _ (picture c.args.choice.now c.args.view.now c.args.store.now) c.in_ok-output.ensures
    (breaks c.from_residual-in_err-put_layers.result (layers_text c.args.choice.now c.args.view.now 0 c.args.store.now) (back c.args.choice.now c.args.view.now c.args.store.now) refl
    (with_front g at.In_ok-put (front-is g at.After-as_bytes)) c.in_err-put_layers.ensures.broken)

pub returns-in_err-push_back-clause-broken : goal.returns-in_err-push_back-clause-broken
returns-in_err-push_back-clause-broken g c =
    let at = goal.at.returns-in_err-push_back-clause-broken g c in
    broken-whole c.from_residual-in_err-push_back.result _ _ (picture c.args.choice.now c.args.view.now c.args.store.now) c.in_ok-output.ensures
    (stops c.from_residual-in_err-push_back.result (back c.args.choice.now c.args.view.now c.args.store.now)
    (with_layers g at.In_ok-put_layers (with_front g at.In_ok-put (front-is g at.After-as_bytes))))

pub returns-in_err-put-2-clause-broken : goal.returns-in_err-put-2-clause-broken
returns-in_err-put-2-clause-broken g c =
    let at = goal.at.returns-in_err-put-2-clause-broken g c in
    broken-whole c.from_residual-in_err-put-2.result _ _ (picture c.args.choice.now c.args.view.now c.args.store.now) c.in_ok-output.ensures
    (breaks-last c.from_residual-in_err-put-2.result (back c.args.choice.now c.args.view.now c.args.store.now) (back-is g at.After-as_bytes-2)
    (with_layers g at.In_ok-put_layers (with_front g at.In_ok-put (front-is g at.After-as_bytes))) c.in_err-put-2.ensures.broken)

pub returns-in_err-finish-clause-broken : goal.returns-in_err-finish-clause-broken
returns-in_err-finish-clause-broken g c =
    let at = goal.at.returns-in_err-finish-clause-broken g c in
    some-sent c.from_residual-in_err-finish.result c.in_ok-output.ensures
    (with_back g at.In_ok-put-2 (back-is g at.After-as_bytes-2) (with_layers g at.In_ok-put_layers (with_front g at.In_ok-put (front-is g at.After-as_bytes)))) c.in_err-finish.ensures.broken

pub returns-clause-ok : goal.returns-clause-ok
returns-clause-ok g c =
    let at = goal.at.returns-clause-ok g c in
    all-sent _ c.in_ok-output.ensures
    (with_back g at.In_ok-put-2 (back-is g at.After-as_bytes-2) (with_layers g at.In_ok-put_layers (with_front g at.In_ok-put (front-is g at.After-as_bytes)))) c.in_ok-finish.ensures.ok
