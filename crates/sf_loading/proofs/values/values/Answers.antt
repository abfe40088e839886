use Rattle.std.proofs.Common.{◌≡◌, ◌∙◌, ◌++◌, ◌∷◌, ◌+◌, ◌-◌, ℕ, [], ap, arith, refl, rules, subst, sym}
use Rattle.std.specs.List.{AllByRecursion}
use Rattle.std.proofs.lemmas.Result.{err_from_is_err_and}
use Rattle.sf_features.specs.declared.attr_value.AttrValue.{AttrValue}
use Rattle.sf_features.specs.Features.{FeatureContent, with_value}
use Rattle.sf_layers.specs.WellFormed.{IsValue}
use Rattle.sf_streams.specs.Streams.{Goes}
use Rattle.sf_streams.proofs.ReadingLaws.{Goes-nothing, Goes-on}
use Rattle.sf_format.specs.Readings.{items}
use Rattle.sf_format.specs.Format.{value}
use Rattle.sf_loading.specs.Streaming.{Ends, Takes}
use Rattle.sf_loading.specs.Types.{AreUpTo, value_above}
use Rattle.sf_loading.proofs.RisingLaws.{push-all, up-inserted, up-nothing, up-push}
use Rattle.sf_loading.proofs.StreamLaws.{Ends-after, Ends-item, Goes-item}
use Rattle.sf_loading.proofs.values.values.Goals as goal

pub loop-init : goal.loop-init
loop-init g c =
    let none = c.requires in
    let all : c.args.count - 0 ≡ c.args.count = omega arith in
    rw none (
      λ columns are. subst (λ n. Goes (items (value columns) c.args.count []) (items (value columns) n []) (g.R.Read.remaining c.args.reader.now) (g.R.Read.remaining c.args.reader.now) c.args.window.now c.args.window.now) (sym all)
          (Goes-nothing (items (value columns) c.args.count []) _ c.args.window.now),
      λ columns are. tt,
      up-nothing,
      refl,
    )

pub returns-in_err-number-clause-gives : goal.returns-in_err-number-clause-gives
returns-in_err-number-clause-gives g c = λ columns are.
    let p = err_from_is_err_and c.from_residual.result c.from_residual.ensures.1 in
    let so_far = c.loop.feature.values in
    let count = c.args.count in
    let i = c.loop.counter in
    let halt = c.in_err-number.field-0.0 in
    rw (p.1, p.2) (Ends-after (items (value columns) count []) (items (value columns) (count - i) so_far) halt _ _ _ _ _ (c.loop.invariant.0 columns are)
    (Ends-item (value columns) count i so_far halt _ _ _ c.loop-test.true
    (subst (λ before. Ends (value_above columns before) (g.R.Read.remaining c.loop.reader) (g.R.Read.remaining c.value.new.reader) c.loop.window halt) (sym c.loop.invariant.2.is_last)
    (c.in_err-number.ensures.gives columns are))))

pub returns-then-is_err-clause-gives : goal.returns-then-is_err-clause-gives
returns-then-is_err-clause-gives g c = λ columns are.
    let so_far = c.loop.feature.values in
    let count = c.args.count in
    let i = c.loop.counter in
    let x : ℕ × AttrValue = (c.in_ok-number.number, c.in_ok-number.value) in
    let taken = subst (λ before. Takes (value_above columns before) x (g.R.Read.remaining c.loop.reader) (g.R.Read.remaining c.value.new.reader) c.loop.window c.value.new.window) (sym c.loop.invariant.2.is_last)
    (c.in_ok-number.ensures.gives columns are) in
    let on = Goes-on (items (value columns) count []) (items (value columns) (count - i) so_far) (items (value columns) (count - (i + 1)) (so_far ++ x ∷ [])) _ _ _ _ _ _ (c.loop.invariant.0 columns are)
    (Goes-item (value columns) count i so_far x _ _ _ _ c.loop-test.true taken) in
    (on.got, on.consumed)

pub loop-preserved : goal.loop-preserved
loop-preserved g c =
    let so_far = c.loop.feature.values in
    let count = c.args.count in
    let i = c.loop.counter in
    let n = c.in_ok-number.number in
    let x : ℕ × AttrValue = (n, c.in_ok-number.value) in
    let above = c.in_ok-number.ensures.above in
    let put : c.put_value.new.self ≡ with_value n c.in_ok-number.value c.loop.feature = search rules in
    let pushed : c.put_value.new.self.values ≡ so_far ++ x ∷ [] = ap (λ (f : FeatureContent). f.values) put ∙ up-inserted c.loop.previous n so_far c.in_ok-number.value above c.loop.invariant.2 in (
      λ columns are.
          let taken = subst (λ before. Takes (value_above columns before) x (g.R.Read.remaining c.loop.reader) (g.R.Read.remaining c.value.new.reader) c.loop.window c.value.new.window) (sym c.loop.invariant.2.is_last)
          (c.in_ok-number.ensures.gives columns are) in
          subst (λ es. Goes (items (value columns) count []) (items (value columns) (count - (i + 1)) es) (g.R.Read.remaining c.args.reader.now) (g.R.Read.remaining c.value.new.reader) c.args.window.now c.value.new.window) (sym pushed)
          (Goes-on (items (value columns) count []) (items (value columns) (count - i) so_far) (items (value columns) (count - (i + 1)) (so_far ++ x ∷ [])) _ _ _ _ _ _ (c.loop.invariant.0 columns are)
          (Goes-item (value columns) count i so_far x _ _ _ _ c.loop-test.true taken)),
      λ columns are. subst (AllByRecursion (IsValue columns)) (sym pushed) (push-all (IsValue columns) so_far x (c.loop.invariant.1 columns are) (c.in_ok-number.ensures.fits columns are)),
      subst (λ es. AreUpTo n es) (sym pushed) (up-push c.loop.previous n so_far c.in_ok-number.value above c.loop.invariant.2),
      ap (λ (f : FeatureContent). f.geometry) put ∙ c.loop.invariant.3,
    )
