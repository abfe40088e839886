use Rattle.std.proofs.Common.{◌≡◌, ◌∙◌, ◌++◌, ◌∷◌, ◌+◌, ◌-◌, ℕ, List, [], ap, arith, length, length-append, rules, subst, sym}
use Rattle.std.specs.Prelude.{insert}
use Rattle.std.proofs.lemmas.List.Edits.{insert_end}
use Rattle.std.proofs.lemmas.Result.{err_from_is_err_and}
use Rattle.sf_wkb.specs.Grammar.{read_in}
use Rattle.sf_layers.specs.Content.{Content, LayerContent}
use Rattle.sf_layers.proofs.Fine.{IsWellFormed-insert}
use Rattle.sf_streams.specs.Streams.{Goes}
use Rattle.sf_streams.proofs.ReadingLaws.{Goes-nothing, Goes-on}
use Rattle.sf_format.specs.Readings.{items}
use Rattle.sf_format.specs.Format.{layer}
use Rattle.sf_loading.proofs.StreamLaws.{Ends-after, Ends-item, Goes-item}
use Rattle.sf_loading.proofs.layers.counted_layers.Goals as goal

pub loop-init : goal.loop-init
loop-init g c =
    let count = c.args.count in
    let all : count - 0 ≡ count = omega arith in (
      subst (λ (s : Content). Goes (items (layer (read_in c.args.grid)) count []) (items (layer (read_in c.args.grid)) (count - 0) s) (g.R.Read.remaining c.args.reader.now) (g.R.Read.remaining c.args.reader.now) c.args.window.now c.args.window.now) (sym c.new-store.ensures)
          (subst (λ n. Goes (items (layer (read_in c.args.grid)) count []) (items (layer (read_in c.args.grid)) n []) (g.R.Read.remaining c.args.reader.now) (g.R.Read.remaining c.args.reader.now) c.args.window.now c.args.window.now) (sym all)
          (Goes-nothing (items (layer (read_in c.args.grid)) count []) _ c.args.window.now)),
      ap (λ (s : Content). length s) c.new-store.ensures,
    )

pub put_layer-requires-clause-fits : goal.put_layer-requires-clause-fits
put_layer-requires-clause-fits g c =
    IsWellFormed-insert c.loop.store c.layer_count-last.result c.in_ok-name.name c.in_ok-name.layer c.in_ok-name.ensures.named c.in_ok-name.ensures.free
    (omega (arith, c.loop.invariant.1, c.loop-test.true, c.requires)) c.in_ok-name.ensures.fits c.layer_count-last.ensures.well_formed

pub returns-in_err-name : goal.returns-in_err-name
returns-in_err-name g c =
    let p = err_from_is_err_and c.from_residual.result c.from_residual.ensures.1 in
    let so_far = c.loop.store in
    let count = c.args.count in
    let i = c.loop.counter in
    rw (p.1, p.2) (Ends-after (items (layer (read_in c.args.grid)) count []) (items (layer (read_in c.args.grid)) (count - i) so_far) c.in_err-name.field-0.0 _ _ _ _ _ c.loop.invariant.0
    (Ends-item (layer (read_in c.args.grid)) count i so_far c.in_err-name.field-0.0 _ _ _ c.loop-test.true c.in_err-name.ensures.gives))

pub returns-then-is_err : goal.returns-then-is_err
returns-then-is_err g c =
    let so_far = c.loop.store in
    let count = c.args.count in
    let i = c.loop.counter in
    let x : List ℕ × LayerContent = (c.in_ok-name.name, c.in_ok-name.layer) in
    let on = Goes-on (items (layer (read_in c.args.grid)) count []) (items (layer (read_in c.args.grid)) (count - i) so_far) (items (layer (read_in c.args.grid)) (count - (i + 1)) (so_far ++ x ∷ [])) _ _ _ _ _ _ c.loop.invariant.0
    (Goes-item (layer (read_in c.args.grid)) count i so_far x _ _ _ _ c.loop-test.true c.in_ok-name.ensures.gives) in
    (on.got, on.consumed)

pub loop-preserved : goal.loop-preserved
loop-preserved g c =
    let so_far = c.loop.store in
    let count = c.args.count in
    let i = c.loop.counter in
    let x : List ℕ × LayerContent = (c.in_ok-name.name, c.in_ok-name.layer) in
    let on = Goes-on (items (layer (read_in c.args.grid)) count []) (items (layer (read_in c.args.grid)) (count - i) so_far) (items (layer (read_in c.args.grid)) (count - (i + 1)) (so_far ++ x ∷ [])) _ _ _ _ _ _ c.loop.invariant.0
    (Goes-item (layer (read_in c.args.grid)) count i so_far x _ _ _ _ c.loop-test.true c.in_ok-name.ensures.gives) in
    let put : c.put_layer.new.self ≡ insert so_far c.layer_count-last.result x = search rules in
    let full : c.put_layer.new.self ≡ so_far ++ x ∷ [] = put ∙ ap (λ k. insert so_far k x) c.layer_count-last.ensures.count ∙ insert_end so_far x in
    let len : length (so_far ++ x ∷ []) ≡ i + 1 = omega (arith, length-append so_far (x ∷ []), c.loop.invariant.1) in (
      subst (λ (s : Content). Goes (items (layer (read_in c.args.grid)) count []) (items (layer (read_in c.args.grid)) (count - (i + 1)) s) (g.R.Read.remaining c.args.reader.now) (g.R.Read.remaining c.layer.new.reader) c.args.window.now c.layer.new.window) (sym full) on,
      ap (λ (s : Content). length s) full ∙ len,
    )
