use Rattle.std.proofs.Common.{◌≡◌, ◌∙◌, ◌++◌, ◌∷◌, ◌+◌, ◌-◌, List, [], ap, arith, refl, rules, subst, sym}
use Rattle.std.proofs.lemmas.List.Edits.{insert_end}
use Rattle.std.proofs.lemmas.Result.{err_from_is_err_and}
use Rattle.std.specs.BTreeMap.{insert_entry}
use Rattle.std.specs.Ordering.{nat_cmp}
use Rattle.sf_features.specs.declared.column.Column.{Column}
use Rattle.sf_layers.specs.Content.{LayerContent, with_column}
use Rattle.sf_layers.specs.WellFormed.{IsLayer}
use Rattle.sf_streams.specs.Streams.{Goes}
use Rattle.sf_streams.proofs.ReadingLaws.{Goes-nothing, Goes-on}
use Rattle.sf_format.specs.Readings.{items}
use Rattle.sf_format.specs.Format.{column}
use Rattle.sf_loading.specs.Streaming.{Ends, Takes}
use Rattle.sf_loading.specs.Types.{AreTypesOf}
use Rattle.sf_loading.proofs.LayerLaws.{layer-column}
use Rattle.sf_loading.proofs.LookupLaws.{types-push}
use Rattle.sf_loading.proofs.StreamLaws.{Ends-after, Ends-item, Goes-item}
use Rattle.sf_loading.proofs.columns.columns.Goals as goal

pub loop-init : goal.loop-init
loop-init g c =
    let none = c.requires.bare in
    let next = c.args.layer.now.next_column in
    let all : c.args.count - 0 ≡ c.args.count = omega arith in (
      subst (λ (cs : List Column). Goes (items (column next) c.args.count []) (items (column next) (c.args.count - 0) cs) (g.R.Read.remaining c.args.reader.now) (g.R.Read.remaining c.args.reader.now) c.args.window.now c.args.window.now) (sym none)
          (subst (λ n. Goes (items (column next) c.args.count []) (items (column next) n []) (g.R.Read.remaining c.args.reader.now) (g.R.Read.remaining c.args.reader.now) c.args.window.now c.args.window.now) (sym all)
          (Goes-nothing (items (column next) c.args.count []) _ c.args.window.now)),
      subst (λ ts. AreTypesOf ts c.args.layer.now.columns) (sym c.new-types.ensures) (subst (λ (cs : List Column). AreTypesOf [] cs) (sym none) (λ n. refl)),
      refl,
      c.requires.fits,
    )

pub returns-in_err-column-clause-gives : goal.returns-in_err-column-clause-gives
returns-in_err-column-clause-gives g c =
    let p = err_from_is_err_and c.from_residual.result c.from_residual.ensures.1 in
    let so_far = c.loop.layer.columns in
    let next = c.args.layer.now.next_column in
    let count = c.args.count in
    let i = c.loop.counter in
    let halt = c.in_err-column.field-0.0 in
    rw (p.1, p.2) (Ends-after (items (column next) count []) (items (column next) (count - i) so_far) halt _ _ _ _ _ c.loop.invariant.0
    (Ends-item (column next) count i so_far halt _ _ _ c.loop-test.true
    (subst (λ n. Ends (column n so_far) (g.R.Read.remaining c.loop.reader) (g.R.Read.remaining c.column.new.reader) c.loop.window halt) (ap (λ (l : LayerContent). l.next_column) c.loop.invariant.2)
    c.in_err-column.ensures.gives)))

pub returns-in_err-put-clause-gives : goal.returns-in_err-put-clause-gives
returns-in_err-put-clause-gives g c =
    let p = err_from_is_err_and c.from_residual-in_err-put.result c.from_residual-in_err-put.ensures.1 in
    let so_far = c.loop.layer.columns in
    let next = c.args.layer.now.next_column in
    let count = c.args.count in
    let i = c.loop.counter in
    let x = c.in_ok-column.column in
    let on = Goes-on (items (column next) count []) (items (column next) (count - i) so_far) (items (column next) (count - (i + 1)) (so_far ++ x ∷ [])) _ _ _ _ _ _ c.loop.invariant.0
    (Goes-item (column next) count i so_far x _ _ _ _ c.loop-test.true
    (subst (λ n. Takes (column n so_far) x (g.R.Read.remaining c.loop.reader) (g.R.Read.remaining c.column.new.reader) c.loop.window c.column.new.window) (ap (λ (l : LayerContent). l.next_column) c.loop.invariant.2)
    c.in_ok-column.ensures.gives)) in
    rw (p.1, p.2) (on.got, on.consumed)

pub returns-then-is_err-clause-gives : goal.returns-then-is_err-clause-gives
returns-then-is_err-clause-gives g c =
    let so_far = c.loop.layer.columns in
    let next = c.args.layer.now.next_column in
    let count = c.args.count in
    let i = c.loop.counter in
    let x = c.in_ok-column.column in
    let on = Goes-on (items (column next) count []) (items (column next) (count - i) so_far) (items (column next) (count - (i + 1)) (so_far ++ x ∷ [])) _ _ _ _ _ _ c.loop.invariant.0
    (Goes-item (column next) count i so_far x _ _ _ _ c.loop-test.true
    (subst (λ n. Takes (column n so_far) x (g.R.Read.remaining c.loop.reader) (g.R.Read.remaining c.column.new.reader) c.loop.window c.column.new.window) (ap (λ (l : LayerContent). l.next_column) c.loop.invariant.2)
    c.in_ok-column.ensures.gives)) in
    (on.got, on.consumed)

pub loop-preserved : goal.loop-preserved
loop-preserved g c =
    let so_far = c.loop.layer.columns in
    let next = c.args.layer.now.next_column in
    let count = c.args.count in
    let i = c.loop.counter in
    let x = c.in_ok-column.column in
    let longer = so_far ++ x ∷ [] in
    let put : c.put_column.new.self ≡ with_column c.column_count-last.result x c.loop.layer = search rules in
    let full : c.put_column.new.self ≡ record c.loop.layer { columns = longer } =
    put ∙ ap (λ k. with_column k x c.loop.layer) c.column_count-last.ensures.count ∙ ap (λ (cs : List Column). record c.loop.layer { columns = cs }) (insert_end so_far x) in
    let on = Goes-on (items (column next) count []) (items (column next) (count - i) so_far) (items (column next) (count - (i + 1)) longer) _ _ _ _ _ _ c.loop.invariant.0
    (Goes-item (column next) count i so_far x _ _ _ _ c.loop-test.true
    (subst (λ n. Takes (column n so_far) x (g.R.Read.remaining c.loop.reader) (g.R.Read.remaining c.column.new.reader) c.loop.window c.column.new.window) (ap (λ (l : LayerContent). l.next_column) c.loop.invariant.2)
    c.in_ok-column.ensures.gives)) in (
      subst (λ (l : LayerContent). Goes (items (column next) count []) (items (column next) (count - (i + 1)) l.columns) (g.R.Read.remaining c.args.reader.now) (g.R.Read.remaining c.column.new.reader) c.args.window.now c.column.new.window) (sym full) on,
      subst (λ ts. AreTypesOf ts c.put_column.new.self.columns) (sym c.in_ok-put.ensures)
          (subst (λ (l : LayerContent). AreTypesOf (insert_entry nat_cmp c.loop.types x.number x.column_type) l.columns) (sym full) (types-push c.loop.types so_far x c.in_ok-column.ensures.unused c.loop.invariant.1)),
      full ∙ ap (λ (l : LayerContent). record l { columns = longer }) c.loop.invariant.2 ∙ ap (λ (l : LayerContent). record c.args.layer.now { columns = l.columns }) (sym full),
      subst IsLayer (sym full) (layer-column c.loop.layer x (ap (λ (l : LayerContent). l.features) c.loop.invariant.2 ∙ c.requires.empty) c.in_ok-column.ensures.fits c.in_ok-column.ensures.free c.in_ok-column.ensures.unused c.loop.invariant.3),
    )
