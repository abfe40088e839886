use Rattle.std.proofs.Common.{◌≡◌, ◌++◌, ◌∷◌, ◌+◌, ◌-◌, ℕ, List, [], arith, rules, subst, sym}
use Rattle.std.proofs.lemmas.Result.{err_from_is_err_and}
use Rattle.sf_features.specs.declared.attr_value.AttrValue.{AttrValue}
use Rattle.sf_streams.specs.Streams.{Goes}
use Rattle.sf_streams.proofs.ReadingLaws.{Goes-nothing, Goes-on}
use Rattle.sf_format.specs.Readings.{Reading, items}
use Rattle.sf_format.specs.Format.{named_value}
use Rattle.sf_loading.proofs.StreamLaws.{Ends-after, Ends-item, Goes-item}
use Rattle.sf_loading.proofs.demands.counted_values.Goals as goal

pub loop-init : goal.loop-init
loop-init g c =
    let item : List AttrValue → Reading AttrValue = λ earlier. named_value c.args.column_type in
    let count = c.args.count in
    let all : count - 0 ≡ count = omega arith in
    subst (λ (vs : List AttrValue). Goes (items item count []) (items item (count - 0) vs) (g.R.Read.remaining c.args.reader.now) (g.R.Read.remaining c.args.reader.now) c.args.window.now c.args.window.now) (sym c.new-values.ensures.items)
    (subst (λ (n : ℕ). Goes (items item count []) (items item n []) (g.R.Read.remaining c.args.reader.now) (g.R.Read.remaining c.args.reader.now) c.args.window.now c.args.window.now) (sym all)
    (Goes-nothing (items item count []) _ c.args.window.now))

pub returns-in_err-value : goal.returns-in_err-value
returns-in_err-value g c =
    let p = err_from_is_err_and c.from_residual.result c.from_residual.ensures.1 in
    let item : List AttrValue → Reading AttrValue = λ earlier. named_value c.args.column_type in
    let so_far = c.loop.values.items in
    let count = c.args.count in
    let i = c.loop.counter in
    let halt = c.in_err-value.field-0.0 in
    rw (p.1, p.2) (Ends-after (items item count []) (items item (count - i) so_far) halt _ _ _ _ _ c.loop.invariant
    (Ends-item item count i so_far halt _ _ _ c.loop-test.true c.in_err-value.ensures))

pub returns-then-is_err : goal.returns-then-is_err
returns-then-is_err g c =
    let item : List AttrValue → Reading AttrValue = λ earlier. named_value c.args.column_type in
    let so_far = c.loop.values.items in
    let count = c.args.count in
    let i = c.loop.counter in
    let x = c.in_ok-value.value in
    let on = Goes-on (items item count []) (items item (count - i) so_far) (items item (count - (i + 1)) (so_far ++ x ∷ [])) _ _ _ _ _ _ c.loop.invariant
    (Goes-item item count i so_far x _ _ _ _ c.loop-test.true c.in_ok-value.ensures) in
    (on.got, on.consumed)

pub loop-preserved : goal.loop-preserved
loop-preserved g c =
    let item : List AttrValue → Reading AttrValue = λ earlier. named_value c.args.column_type in
    let so_far = c.loop.values.items in
    let count = c.args.count in
    let i = c.loop.counter in
    let x = c.in_ok-value.value in
    let pushed : c.push.new.self.items ≡ so_far ++ x ∷ [] = search rules in
    subst (λ (vs : List AttrValue). Goes (items item count []) (items item (count - (i + 1)) vs) (g.R.Read.remaining c.args.reader.now) (g.R.Read.remaining c.named_value.new.reader) c.args.window.now c.named_value.new.window) (sym pushed)
    (Goes-on (items item count []) (items item (count - i) so_far) (items item (count - (i + 1)) (so_far ++ x ∷ [])) _ _ _ _ _ _ c.loop.invariant
    (Goes-item item count i so_far x _ _ _ _ c.loop-test.true c.in_ok-value.ensures))

pub returns : goal.returns
returns g c =
    let item : List AttrValue → Reading AttrValue = λ earlier. named_value c.args.column_type in
    let count = c.args.count in
    let none : count - c.loop.counter ≡ 0 = omega (arith, c.loop-test.false) in
    subst (λ (n : ℕ). Goes (items item count []) (items item n c.loop.values.items) (g.R.Read.remaining c.args.reader.now) (g.R.Read.remaining c.loop.reader) c.args.window.now c.loop.window) none c.loop.invariant
