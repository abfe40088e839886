use Rattle.std.proofs.Common.{◌∙◌, ℕ, ap, subst, sym}
use Rattle.std.specs.Prelude.{nat_lt}
use Rattle.std.proofs.lemmas.Result.{err_from_is_err_and}
use Rattle.sf_layers.specs.Content.{LayerContent, with_next_column, with_next_id}
use Rattle.sf_streams.specs.Streams.{Goes}
use Rattle.sf_format.specs.declared.defect.Defect.TheVariants.{ColumnsExhausted, IdsExhausted, WrongKind}
use Rattle.sf_format.specs.Readings.{field, number}
use Rattle.sf_format.specs.Format.{allowed, fresh_layer_name, kind_of_byte, layer, name, present}
use Rattle.sf_format.proofs.Continuations.{layer_after_kind, layer_after_name, layer_after_next_column, layer_after_next_id}
use Rattle.sf_loading.specs.Layers.{layer_after_counters}
use Rattle.sf_loading.proofs.FieldLaws.{Takes-layer_name}
use Rattle.sf_loading.proofs.StreamLaws.{Ends-step, Goes-step, Goes-then}
use Rattle.sf_loading.proofs.layers.header.Goals as goal

pub returns-in_err-kind-clause-reaches : goal.returns-in_err-kind-clause-reaches
returns-in_err-kind-clause-reaches g c row =
    let p = err_from_is_err_and c.from_residual-in_err-kind.result c.from_residual-in_err-kind.ensures.1 in
    let content = c.args.store.now in
    let whole = layer row content in
    let title = c.in_ok-name.name in
    let one = Goes-then (field name (fresh_layer_name content)) (layer_after_name row) title _ _ _ _ c.in_ok-name.ensures in
    rw (p.1, p.2) (Ends-step whole (field (number 1) (λ (byte : ℕ). present (kind_of_byte byte) WrongKind)) (layer_after_kind row title) c.in_err-kind.field-0.0 _ _ _ _ _ one c.in_err-kind.ensures)

pub returns-in_err-next_id-clause-reaches : goal.returns-in_err-next_id-clause-reaches
returns-in_err-next_id-clause-reaches g c row =
    let p = err_from_is_err_and c.from_residual-in_err-next_id.result c.from_residual-in_err-next_id.ensures.1 in
    let content = c.args.store.now in
    let whole = layer row content in
    let title = c.in_ok-name.name in
    let one = Goes-then (field name (fresh_layer_name content)) (layer_after_name row) title _ _ _ _ c.in_ok-name.ensures in
    let kind = c.in_ok-kind.kind in
    let two = Goes-step whole (field (number 1) (λ (byte : ℕ). present (kind_of_byte byte) WrongKind)) (layer_after_kind row title) kind _ _ _ _ _ _ one c.in_ok-kind.ensures in
    rw (p.1, p.2) (Ends-step whole (field (number 4) (λ (n : ℕ). allowed (nat_lt 0 n) IdsExhausted n)) (layer_after_next_id row title kind) c.in_err-next_id.field-0.0 _ _ _ _ _ two c.in_err-next_id.ensures)

pub returns-in_err-next_column-clause-reaches : goal.returns-in_err-next_column-clause-reaches
returns-in_err-next_column-clause-reaches g c row =
    let p = err_from_is_err_and c.from_residual-in_err-next_column.result c.from_residual-in_err-next_column.ensures.1 in
    let content = c.args.store.now in
    let whole = layer row content in
    let title = c.in_ok-name.name in
    let one = Goes-then (field name (fresh_layer_name content)) (layer_after_name row) title _ _ _ _ c.in_ok-name.ensures in
    let kind = c.in_ok-kind.kind in
    let two = Goes-step whole (field (number 1) (λ (byte : ℕ). present (kind_of_byte byte) WrongKind)) (layer_after_kind row title) kind _ _ _ _ _ _ one c.in_ok-kind.ensures in
    let id = c.in_ok-next_id.next_id in
    let three = Goes-step whole (field (number 4) (λ (n : ℕ). allowed (nat_lt 0 n) IdsExhausted n)) (layer_after_next_id row title kind) id _ _ _ _ _ _ two c.in_ok-next_id.ensures in
    rw (p.1, p.2) (Ends-step whole (field (number 2) (λ (n : ℕ). allowed (nat_lt 0 n) ColumnsExhausted n)) (layer_after_next_column row title kind id) c.in_err-next_column.field-0.0 _ _ _ _ _ three c.in_err-next_column.ensures)

pub returns-clause-reaches : goal.returns-clause-reaches
returns-clause-reaches g c row =
    let content = c.args.store.now in
    let whole = layer row content in
    let title = c.in_ok-name.name in
    let one = Goes-then (field name (fresh_layer_name content)) (layer_after_name row) title _ _ _ _ c.in_ok-name.ensures in
    let kind = c.in_ok-kind.kind in
    let two = Goes-step whole (field (number 1) (λ (byte : ℕ). present (kind_of_byte byte) WrongKind)) (layer_after_kind row title) kind _ _ _ _ _ _ one c.in_ok-kind.ensures in
    let id = c.in_ok-next_id.next_id in
    let three = Goes-step whole (field (number 4) (λ (n : ℕ). allowed (nat_lt 0 n) IdsExhausted n)) (layer_after_next_id row title kind) id _ _ _ _ _ _ two c.in_ok-next_id.ensures in
    let column = c.in_ok-next_column.next_column in
    let four = Goes-step whole (field (number 2) (λ (n : ℕ). allowed (nat_lt 0 n) ColumnsExhausted n)) (layer_after_next_column row title kind id) column _ _ _ _ _ _ three c.in_ok-next_column.ensures in
    let same = c.set_next_column.ensures ∙ ap (with_next_column c.in_ok-next_column.next_column) (c.set_next_id.ensures ∙ ap (with_next_id c.in_ok-next_id.next_id) c.unindexed-layer.ensures) in
    subst (λ (l : LayerContent). Goes whole (layer_after_counters row (title, l)) (g.R.Read.remaining c.args.reader.now) (g.R.Read.remaining c.next_column.new.reader) c.args.window.now c.next_column.new.window) (sym same) four

pub returns-clause-named : goal.returns-clause-named
returns-clause-named g c =
    (Takes-layer_name c.args.store.now c.in_ok-name.name _ _ _ _ c.in_ok-name.ensures).0
