use Rattle.std.proofs.Common.{◌≡◌, ◌∙◌, ◌++◌, ◌∷◌, ◌+◌, ◌-◌, ℕ, List, [], ap, arith, length, length-append, rules, subst, sym}
use Rattle.std.proofs.lemmas.Result.{err_from_is_err_and}
use Rattle.sf_layers.specs.Content.{Content}
use Rattle.sf_format.specs.Stored.{Rule, Ruled}
use Rattle.sf_streams.specs.Streams.{Goes}
use Rattle.sf_streams.proofs.ReadingLaws.{Goes-nothing, Goes-on}
use Rattle.sf_format.specs.Readings.{items}
use Rattle.sf_format.specs.Format.{held_rule}
use Rattle.sf_loading.specs.Streaming.{Ends, Takes}
use Rattle.sf_loading.proofs.StreamLaws.{Ends-after, Ends-item, Goes-item}
use Rattle.sf_loading.proofs.rules.counted_rules.Goals as goal

pub loop-init : goal.loop-init
loop-init g c =
    let count = c.args.count in
    let item = held_rule c.args.version c.args.store in
    let all : count - 0 ≡ count = omega arith in (
      subst (λ (rs : List Rule). Goes (items item count []) (items item (count - 0) rs) (g.R.Read.remaining c.args.reader.now) (g.R.Read.remaining c.args.reader.now) c.args.window.now c.args.window.now) (sym (ap (λ (r : Ruled). r.rules) c.from_store-ruled.ensures))
          (subst (λ n. Goes (items item count []) (items item n []) (g.R.Read.remaining c.args.reader.now) (g.R.Read.remaining c.args.reader.now) c.args.window.now c.args.window.now) (sym all)
          (Goes-nothing (items item count []) _ c.args.window.now)),
      ap (λ (r : Ruled). r.content) c.from_store-ruled.ensures,
      ap (λ (r : Ruled). length r.rules) c.from_store-ruled.ensures,
    )

pub held_rule-requires : goal.held_rule-requires
held_rule-requires g c = omega (arith, c.loop.invariant.2, c.loop-test.true, c.ranges.count.fits)

pub returns-in_err-held_rule-clause-gives : goal.returns-in_err-held_rule-clause-gives
returns-in_err-held_rule-clause-gives g c =
    let p = err_from_is_err_and c.from_residual.result c.from_residual.ensures.1 in
    let so_far = c.loop.ruled.rules in
    let count = c.args.count in
    let i = c.loop.counter in
    let item = held_rule c.args.version c.args.store in
    let halt = c.in_err-held_rule.field-0.0 in
    rw (p.1, p.2) (Ends-after (items item count []) (items item (count - i) so_far) halt _ _ _ _ _ c.loop.invariant.0
    (Ends-item item count i so_far halt _ _ _ c.loop-test.true
    (subst (λ (k : Content). Ends (held_rule c.args.version k so_far) (g.R.Read.remaining c.loop.reader) (g.R.Read.remaining c.held_rule.new.reader) c.loop.window halt) c.loop.invariant.1 c.in_err-held_rule.ensures)))

pub loop-preserved : goal.loop-preserved
loop-preserved g c =
    let so_far = c.loop.ruled.rules in
    let count = c.args.count in
    let i = c.loop.counter in
    let item = held_rule c.args.version c.args.store in
    let r : Rule = c.in_ok-held_rule.ensures.0 in
    let is = c.in_ok-held_rule.ensures.2 in
    let on = Goes-on (items item count []) (items item (count - i) so_far) (items item (count - (i + 1)) (so_far ++ r ∷ [])) _ _ _ _ _ _ c.loop.invariant.0
    (Goes-item item count i so_far r _ _ _ _ c.loop-test.true
    (subst (λ (k : Content). Takes (held_rule c.args.version k so_far) r (g.R.Read.remaining c.loop.reader) (g.R.Read.remaining c.held_rule.new.reader) c.loop.window c.held_rule.new.window) c.loop.invariant.1 c.in_ok-held_rule.ensures.1)) in
    let len : length (so_far ++ r ∷ []) ≡ i + 1 = omega (arith, length-append so_far (r ∷ []), c.loop.invariant.2) in (
      subst (λ (rs : List Rule). Goes (items item count []) (items item (count - (i + 1)) rs) (g.R.Read.remaining c.args.reader.now) (g.R.Read.remaining c.held_rule.new.reader) c.args.window.now c.held_rule.new.window) (sym (ap (λ (q : Ruled). q.rules) is)) on,
      ap (λ (q : Ruled). q.content) is ∙ c.loop.invariant.1,
      ap (λ (q : Ruled). length q.rules) is ∙ len,
    )

pub returns-clause-gives : goal.returns-clause-gives
returns-clause-gives g c =
    let count = c.args.count in
    let item = held_rule c.args.version c.args.store in
    let none : count - c.loop.counter ≡ 0 = omega (arith, c.loop-test.false) in
    subst (λ (n : ℕ). Goes (items item count []) (items item n c.loop.ruled.rules) (g.R.Read.remaining c.args.reader.now) (g.R.Read.remaining c.loop.reader) c.args.window.now c.loop.window) none c.loop.invariant.0
