use Rattle.std.proofs.Common.{◌∙◌, ℕ, [], subst, sym}
use Rattle.std.specs.Prelude.{nat_lt}
use Rattle.std.proofs.lemmas.Result.{err_from_is_err_and}
use Rattle.sf_wkb.specs.Grammar.{read_in}
use Rattle.sf_layers.specs.Content.{LayerContent}
use Rattle.sf_streams.specs.Streams.{Goes}
use Rattle.sf_format.specs.declared.defect.Defect.TheVariants.{ColumnsExhausted, IdsExhausted}
use Rattle.sf_format.specs.Readings.{done, field, items, number}
use Rattle.sf_format.specs.Format.{allowed, column, feature, layer}
use Rattle.sf_loading.specs.Layers.{layer_after_column_count, layer_after_columns, layer_after_feature_count}
use Rattle.sf_loading.specs.Streaming.{Ends, Takes}
use Rattle.sf_loading.proofs.StreamLaws.{Ends-step, Goes-step}
use Rattle.sf_loading.proofs.layers.layer.Goals as goal

pub returns-in_err-name-clause-gives : goal.returns-in_err-name-clause-gives
returns-in_err-name-clause-gives g c =
    let p = err_from_is_err_and c.from_residual.result c.from_residual.ensures.1 in
    rw (p.1, p.2) (c.in_err-name.ensures.reaches (read_in c.args.grid))

pub returns-in_err-column_count-clause-gives : goal.returns-in_err-column_count-clause-gives
returns-in_err-column_count-clause-gives g c =
    let p = err_from_is_err_and c.from_residual-in_err-column_count.result c.from_residual-in_err-column_count.ensures.1 in
    let content = c.args.store.now in
    let whole = layer (read_in c.args.grid) content in
    let title = c.in_ok-name.name in
    let bare = c.in_ok-name.layer in
    let one = c.in_ok-name.ensures.reaches (read_in c.args.grid) in
    let halt = c.in_err-column_count.field-0.0 in
    rw (p.1, p.2) (Ends-step whole (field (number 2) (λ (n : ℕ). allowed (nat_lt n bare.next_column) ColumnsExhausted n)) (layer_after_column_count (read_in c.args.grid) (title, bare)) halt _ _ _ _ _ one
    (subst (λ (m : ℕ). Ends (field (number 2) (λ (n : ℕ). allowed (nat_lt n m) ColumnsExhausted n)) (g.R.Read.remaining c.header.new.reader) (g.R.Read.remaining c.column_count.new.reader) c.header.new.window halt) c.next_column.ensures c.in_err-column_count.ensures))

pub returns-in_err-types-clause-gives : goal.returns-in_err-types-clause-gives
returns-in_err-types-clause-gives g c =
    let p = err_from_is_err_and c.from_residual-in_err-types.result c.from_residual-in_err-types.ensures.1 in
    let content = c.args.store.now in
    let whole = layer (read_in c.args.grid) content in
    let title = c.in_ok-name.name in
    let bare = c.in_ok-name.layer in
    let one = c.in_ok-name.ensures.reaches (read_in c.args.grid) in
    let columns = c.in_ok-column_count.column_count in
    let two = Goes-step whole (field (number 2) (λ (n : ℕ). allowed (nat_lt n bare.next_column) ColumnsExhausted n)) (layer_after_column_count (read_in c.args.grid) (title, bare)) columns _ _ _ _ _ _ one
    (subst (λ (m : ℕ). Takes (field (number 2) (λ (n : ℕ). allowed (nat_lt n m) ColumnsExhausted n)) columns (g.R.Read.remaining c.header.new.reader) (g.R.Read.remaining c.column_count.new.reader) c.header.new.window c.column_count.new.window) c.next_column.ensures c.in_ok-column_count.ensures) in
    rw (p.1, p.2) (Ends-step whole (items (column bare.next_column) columns []) (λ cs. layer_after_columns (read_in c.args.grid) (title, record bare { columns = cs })) c.in_err-types.field-0.0 _ _ _ _ _ two c.in_err-types.ensures.gives)

pub returns-in_err-feature_count-clause-gives : goal.returns-in_err-feature_count-clause-gives
returns-in_err-feature_count-clause-gives g c =
    let p = err_from_is_err_and c.from_residual-in_err-feature_count.result c.from_residual-in_err-feature_count.ensures.1 in
    let content = c.args.store.now in
    let whole = layer (read_in c.args.grid) content in
    let title = c.in_ok-name.name in
    let bare = c.in_ok-name.layer in
    let one = c.in_ok-name.ensures.reaches (read_in c.args.grid) in
    let columns = c.in_ok-column_count.column_count in
    let two = Goes-step whole (field (number 2) (λ (n : ℕ). allowed (nat_lt n bare.next_column) ColumnsExhausted n)) (layer_after_column_count (read_in c.args.grid) (title, bare)) columns _ _ _ _ _ _ one
    (subst (λ (m : ℕ). Takes (field (number 2) (λ (n : ℕ). allowed (nat_lt n m) ColumnsExhausted n)) columns (g.R.Read.remaining c.header.new.reader) (g.R.Read.remaining c.column_count.new.reader) c.header.new.window c.column_count.new.window) c.next_column.ensures c.in_ok-column_count.ensures) in
    let columned = c.columns.new.layer in
    let three = subst (λ (l : LayerContent). Goes whole (layer_after_columns (read_in c.args.grid) (title, l)) (g.R.Read.remaining c.args.reader.now) (g.R.Read.remaining c.columns.new.reader) c.args.window.now c.columns.new.window) (sym c.in_ok-types.ensures.kept)
    (Goes-step whole (items (column bare.next_column) columns []) (λ cs. layer_after_columns (read_in c.args.grid) (title, record bare { columns = cs })) columned.columns _ _ _ _ _ _ two c.in_ok-types.ensures.gives) in
    let halt = c.in_err-feature_count.field-0.0 in
    rw (p.1, p.2) (Ends-step whole (field (number 4) (λ (n : ℕ). allowed (nat_lt n columned.next_id) IdsExhausted n)) (layer_after_feature_count (read_in c.args.grid) (title, columned)) halt _ _ _ _ _ three
    (subst (λ (m : ℕ). Ends (field (number 4) (λ (n : ℕ). allowed (nat_lt n m) IdsExhausted n)) (g.R.Read.remaining c.columns.new.reader) (g.R.Read.remaining c.feature_count.new.reader) c.columns.new.window halt) c.next_id.ensures c.in_err-feature_count.ensures))

pub returns-in_err-features-clause-gives : goal.returns-in_err-features-clause-gives
returns-in_err-features-clause-gives g c =
    let p = err_from_is_err_and c.from_residual-in_err-features.result c.from_residual-in_err-features.ensures.1 in
    let content = c.args.store.now in
    let whole = layer (read_in c.args.grid) content in
    let title = c.in_ok-name.name in
    let bare = c.in_ok-name.layer in
    let one = c.in_ok-name.ensures.reaches (read_in c.args.grid) in
    let columns = c.in_ok-column_count.column_count in
    let two = Goes-step whole (field (number 2) (λ (n : ℕ). allowed (nat_lt n bare.next_column) ColumnsExhausted n)) (layer_after_column_count (read_in c.args.grid) (title, bare)) columns _ _ _ _ _ _ one
    (subst (λ (m : ℕ). Takes (field (number 2) (λ (n : ℕ). allowed (nat_lt n m) ColumnsExhausted n)) columns (g.R.Read.remaining c.header.new.reader) (g.R.Read.remaining c.column_count.new.reader) c.header.new.window c.column_count.new.window) c.next_column.ensures c.in_ok-column_count.ensures) in
    let columned = c.columns.new.layer in
    let three = subst (λ (l : LayerContent). Goes whole (layer_after_columns (read_in c.args.grid) (title, l)) (g.R.Read.remaining c.args.reader.now) (g.R.Read.remaining c.columns.new.reader) c.args.window.now c.columns.new.window) (sym c.in_ok-types.ensures.kept)
    (Goes-step whole (items (column bare.next_column) columns []) (λ cs. layer_after_columns (read_in c.args.grid) (title, record bare { columns = cs })) columned.columns _ _ _ _ _ _ two c.in_ok-types.ensures.gives) in
    let features = c.in_ok-feature_count.feature_count in
    let four = Goes-step whole (field (number 4) (λ (n : ℕ). allowed (nat_lt n columned.next_id) IdsExhausted n)) (layer_after_feature_count (read_in c.args.grid) (title, columned)) features _ _ _ _ _ _ three
    (subst (λ (m : ℕ). Takes (field (number 4) (λ (n : ℕ). allowed (nat_lt n m) IdsExhausted n)) features (g.R.Read.remaining c.columns.new.reader) (g.R.Read.remaining c.feature_count.new.reader) c.columns.new.window c.feature_count.new.window) c.next_id.ensures c.in_ok-feature_count.ensures) in
    rw (p.1, p.2) (Ends-step whole (items (feature (read_in c.args.grid) columned.kind columned.next_id columned.columns) features []) (λ fs. done (title, record columned { features = fs })) c.in_err-features.field-0.0 _ _ _ _ _ four c.in_err-features.ensures.gives)

pub returns-clause-gives : goal.returns-clause-gives
returns-clause-gives g c =
    let content = c.args.store.now in
    let whole = layer (read_in c.args.grid) content in
    let title = c.in_ok-name.name in
    let bare = c.in_ok-name.layer in
    let one = c.in_ok-name.ensures.reaches (read_in c.args.grid) in
    let columns = c.in_ok-column_count.column_count in
    let two = Goes-step whole (field (number 2) (λ (n : ℕ). allowed (nat_lt n bare.next_column) ColumnsExhausted n)) (layer_after_column_count (read_in c.args.grid) (title, bare)) columns _ _ _ _ _ _ one
    (subst (λ (m : ℕ). Takes (field (number 2) (λ (n : ℕ). allowed (nat_lt n m) ColumnsExhausted n)) columns (g.R.Read.remaining c.header.new.reader) (g.R.Read.remaining c.column_count.new.reader) c.header.new.window c.column_count.new.window) c.next_column.ensures c.in_ok-column_count.ensures) in
    let columned = c.columns.new.layer in
    let three = subst (λ (l : LayerContent). Goes whole (layer_after_columns (read_in c.args.grid) (title, l)) (g.R.Read.remaining c.args.reader.now) (g.R.Read.remaining c.columns.new.reader) c.args.window.now c.columns.new.window) (sym c.in_ok-types.ensures.kept)
    (Goes-step whole (items (column bare.next_column) columns []) (λ cs. layer_after_columns (read_in c.args.grid) (title, record bare { columns = cs })) columned.columns _ _ _ _ _ _ two c.in_ok-types.ensures.gives) in
    let features = c.in_ok-feature_count.feature_count in
    let four = Goes-step whole (field (number 4) (λ (n : ℕ). allowed (nat_lt n columned.next_id) IdsExhausted n)) (layer_after_feature_count (read_in c.args.grid) (title, columned)) features _ _ _ _ _ _ three
    (subst (λ (m : ℕ). Takes (field (number 4) (λ (n : ℕ). allowed (nat_lt n m) IdsExhausted n)) features (g.R.Read.remaining c.columns.new.reader) (g.R.Read.remaining c.feature_count.new.reader) c.columns.new.window c.feature_count.new.window) c.next_id.ensures c.in_ok-feature_count.ensures) in
    subst (λ (l : LayerContent). Takes whole (title, l) (g.R.Read.remaining c.args.reader.now) (g.R.Read.remaining c.features.new.reader) c.args.window.now c.features.new.window) (sym (c.reindex.ensures ∙ c.in_ok-features.ensures.kept))
    (Goes-step whole (items (feature (read_in c.args.grid) columned.kind columned.next_id columned.columns) features []) (λ fs. done (title, record columned { features = fs })) c.features.new.layer.features _ _ _ _ _ _ four c.in_ok-features.ensures.gives)
