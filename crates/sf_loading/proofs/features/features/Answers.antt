use Rattle.std.proofs.Common.{◌≡◌, ◌∙◌, ◌++◌, ◌∷◌, ◌+◌, ◌-◌, ℕ, List, [], ap, arith, refl, rules, subst, sym}
use Rattle.std.proofs.lemmas.Result.{err_from_is_err_and}
use Rattle.sf_wkb.specs.Grammar.{read_in}
use Rattle.sf_features.specs.Features.{FeatureContent}
use Rattle.sf_layers.specs.Content.{LayerContent, with_feature}
use Rattle.sf_layers.specs.WellFormed.{IsLayer}
use Rattle.sf_streams.specs.Streams.{Goes}
use Rattle.sf_streams.proofs.ReadingLaws.{Goes-nothing, Goes-on}
use Rattle.sf_format.specs.Readings.{items}
use Rattle.sf_format.specs.Format.{feature}
use Rattle.sf_loading.specs.Streaming.{Ends, Takes}
use Rattle.sf_loading.specs.Types.{AreUpTo, feature_above}
use Rattle.sf_loading.proofs.LayerLaws.{layer-feature}
use Rattle.sf_loading.proofs.RisingLaws.{up-free, up-inserted, up-nothing, up-push}
use Rattle.sf_loading.proofs.StreamLaws.{Ends-after, Ends-item, Goes-item}
use Rattle.sf_loading.proofs.features.features.Goals as goal

pub loop-init : goal.loop-init
loop-init g c =
    let none = c.requires.empty in
    let first = c.args.layer.now in
    let item = feature (read_in c.args.grid) first.kind first.next_id first.columns in
    let all : c.args.count - 0 ≡ c.args.count = omega arith in (
      subst (λ (es : List (ℕ × FeatureContent)). Goes (items item c.args.count []) (items item (c.args.count - 0) es) (g.R.Read.remaining c.args.reader.now) (g.R.Read.remaining c.args.reader.now) c.args.window.now c.args.window.now) (sym none)
          (subst (λ n. Goes (items item c.args.count []) (items item n []) (g.R.Read.remaining c.args.reader.now) (g.R.Read.remaining c.args.reader.now) c.args.window.now c.args.window.now) (sym all)
          (Goes-nothing (items item c.args.count []) _ c.args.window.now)),
      subst (λ (es : List (ℕ × FeatureContent)). AreUpTo 0 es) (sym none) up-nothing,
      refl,
      c.requires.fits,
    )

pub returns-in_err-id-clause-gives : goal.returns-in_err-id-clause-gives
returns-in_err-id-clause-gives g c =
    let p = err_from_is_err_and c.from_residual.result c.from_residual.ensures.1 in
    let so_far = c.loop.layer.features in
    let first = c.args.layer.now in
    let item = feature (read_in c.args.grid) first.kind first.next_id first.columns in
    let count = c.args.count in
    let i = c.loop.counter in
    let halt = c.in_err-id.field-0.0 in
    rw (p.1, p.2) (Ends-after (items item count []) (items item (count - i) so_far) halt _ _ _ _ _ c.loop.invariant.0
    (Ends-item item count i so_far halt _ _ _ c.loop-test.true
    (subst (λ before. Ends (feature_above (read_in c.args.grid) first.kind first.next_id first.columns before) (g.R.Read.remaining c.loop.reader) (g.R.Read.remaining c.feature.new.reader) c.loop.window halt) (sym c.loop.invariant.1.is_last)
    (subst (λ (l : LayerContent). Ends (feature_above (read_in c.args.grid) l.kind l.next_id l.columns c.loop.previous) (g.R.Read.remaining c.loop.reader) (g.R.Read.remaining c.feature.new.reader) c.loop.window halt) c.loop.invariant.2
    c.in_err-id.ensures.gives))))

pub put_feature-requires : goal.put_feature-requires
put_feature-requires g c = up-free c.loop.previous c.in_ok-id.id c.loop.layer.features c.in_ok-id.ensures.between.0 c.loop.invariant.1

pub returns-then-is_err-clause-gives : goal.returns-then-is_err-clause-gives
returns-then-is_err-clause-gives g c =
    let so_far = c.loop.layer.features in
    let first = c.args.layer.now in
    let item = feature (read_in c.args.grid) first.kind first.next_id first.columns in
    let count = c.args.count in
    let i = c.loop.counter in
    let x : ℕ × FeatureContent = (c.in_ok-id.id, c.in_ok-id.feature) in
    let taken = subst (λ before. Takes (feature_above (read_in c.args.grid) first.kind first.next_id first.columns before) x (g.R.Read.remaining c.loop.reader) (g.R.Read.remaining c.feature.new.reader) c.loop.window c.feature.new.window) (sym c.loop.invariant.1.is_last)
    (subst (λ (l : LayerContent). Takes (feature_above (read_in c.args.grid) l.kind l.next_id l.columns c.loop.previous) x (g.R.Read.remaining c.loop.reader) (g.R.Read.remaining c.feature.new.reader) c.loop.window c.feature.new.window) c.loop.invariant.2
    c.in_ok-id.ensures.gives) in
    let on = Goes-on (items item count []) (items item (count - i) so_far) (items item (count - (i + 1)) (so_far ++ x ∷ [])) _ _ _ _ _ _ c.loop.invariant.0
    (Goes-item item count i so_far x _ _ _ _ c.loop-test.true taken) in
    (on.got, on.consumed)

pub loop-preserved : goal.loop-preserved
loop-preserved g c =
    let so_far = c.loop.layer.features in
    let first = c.args.layer.now in
    let item = feature (read_in c.args.grid) first.kind first.next_id first.columns in
    let count = c.args.count in
    let i = c.loop.counter in
    let x : ℕ × FeatureContent = (c.in_ok-id.id, c.in_ok-id.feature) in
    let taken = subst (λ before. Takes (feature_above (read_in c.args.grid) first.kind first.next_id first.columns before) x (g.R.Read.remaining c.loop.reader) (g.R.Read.remaining c.feature.new.reader) c.loop.window c.feature.new.window) (sym c.loop.invariant.1.is_last)
    (subst (λ (l : LayerContent). Takes (feature_above (read_in c.args.grid) l.kind l.next_id l.columns c.loop.previous) x (g.R.Read.remaining c.loop.reader) (g.R.Read.remaining c.feature.new.reader) c.loop.window c.feature.new.window) c.loop.invariant.2
    c.in_ok-id.ensures.gives) in
    let on = Goes-on (items item count []) (items item (count - i) so_far) (items item (count - (i + 1)) (so_far ++ x ∷ [])) _ _ _ _ _ _ c.loop.invariant.0
    (Goes-item item count i so_far x _ _ _ _ c.loop-test.true taken) in
    let above = c.in_ok-id.ensures.between.0 in
    let longer = so_far ++ x ∷ [] in
    let put : c.put_feature.new.self ≡ with_feature c.in_ok-id.id c.in_ok-id.feature c.loop.layer = search rules in
    let full : c.put_feature.new.self ≡ record c.loop.layer { features = longer } =
    put ∙ ap (λ (es : List (ℕ × FeatureContent)). record c.loop.layer { features = es }) (up-inserted c.loop.previous c.in_ok-id.id so_far c.in_ok-id.feature above c.loop.invariant.1) in (
      subst (λ (l : LayerContent). Goes (items item count []) (items item (count - (i + 1)) l.features) (g.R.Read.remaining c.args.reader.now) (g.R.Read.remaining c.feature.new.reader) c.args.window.now c.feature.new.window) (sym full) on,
      subst (λ (l : LayerContent). AreUpTo c.in_ok-id.id l.features) (sym full) (up-push c.loop.previous c.in_ok-id.id so_far c.in_ok-id.feature above c.loop.invariant.1),
      full ∙ ap (λ (l : LayerContent). record l { features = longer }) c.loop.invariant.2 ∙ ap (λ (l : LayerContent). record first { features = l.features }) (sym full),
      subst IsLayer (sym full) (layer-feature c.loop.layer c.loop.previous c.in_ok-id.id c.in_ok-id.feature above c.in_ok-id.ensures.between.1 c.in_ok-id.ensures.fits c.loop.invariant.1 c.loop.invariant.3),
    )
