use Rattle.std.proofs.Common.{ℕ, [], ◌∙◌, ap, subst, sym}
use Rattle.std.specs.Prelude.{IsTrue, length, nat_le}
use Rattle.std.proofs.lemmas.Result.{err_from_is_err_and}
use Rattle.sf_geometry.specs.declared.geometry.Geometry.{Geometry}
use Rattle.sf_geometry.specs.Kinds.{kind_of}
use Rattle.sf_wkb.specs.Grammar.{read_in}
use Rattle.sf_features.specs.Features.{FeatureContent}
use Rattle.sf_layers.specs.Content.{admits}
use Rattle.sf_format.specs.declared.defect.Defect.TheVariants.{NoColumn}
use Rattle.sf_format.specs.Readings.{done, field, items, number}
use Rattle.sf_format.specs.Format.{allowed, geometry, next_of, value}
use Rattle.sf_format.proofs.Continuations.{feature_after_count, feature_after_geometry, feature_after_id}
use Rattle.sf_validity.specs.Held.{IsHeld}
use Rattle.sf_loading.specs.Streaming.{Ends, Takes}
use Rattle.sf_loading.specs.Types.{feature_above}
use Rattle.sf_loading.proofs.StreamLaws.{Ends-step, Goes-step, Goes-then}
use Rattle.sf_loading.proofs.features.feature.Goals as goal

pub returns-in_err-valid-clause-gives : goal.returns-in_err-valid-clause-gives
returns-in_err-valid-clause-gives g c =
    let p = err_from_is_err_and c.from_residual-in_err-valid.result c.from_residual-in_err-valid.ensures.1 in
    let columns = c.args.layer.now.columns in
    let kind = c.args.layer.now.kind in
    let before = c.args.previous in
    let whole = feature_above (read_in c.args.grid) kind c.args.layer.now.next_id columns before in
    let id = c.in_ok-id.id in
    let one = Goes-then (field (number 4) (next_of c.args.layer.now.next_id before)) (feature_after_id (read_in c.args.grid) kind columns) id _ _ _ _ (subst (λ n. Takes (field (number 4) (next_of n before)) id (g.R.Read.remaining c.args.reader.now) (g.R.Read.remaining c.feature_id.new.reader) c.args.window.now c.feature_id.new.window) c.next_id.ensures c.in_ok-id.ensures) in
    let halt = c.in_err-valid.field-0.0 in
    rw (p.1, p.2) (Ends-step whole (geometry (read_in c.args.grid) kind) (feature_after_geometry columns id) halt _ _ _ _ _ one
    (subst (λ k. Ends (geometry (read_in c.args.grid) k) (g.R.Read.remaining c.feature_id.new.reader) (g.R.Read.remaining c.geometry.new.reader) c.feature_id.new.window halt) c.kind.ensures c.in_err-valid.ensures.gives))

pub returns-in_err-count-clause-gives : goal.returns-in_err-count-clause-gives
returns-in_err-count-clause-gives g c =
    let p = err_from_is_err_and c.from_residual-in_err-count.result c.from_residual-in_err-count.ensures.1 in
    let columns = c.args.layer.now.columns in
    let kind = c.args.layer.now.kind in
    let before = c.args.previous in
    let whole = feature_above (read_in c.args.grid) kind c.args.layer.now.next_id columns before in
    let id = c.in_ok-id.id in
    let one = Goes-then (field (number 4) (next_of c.args.layer.now.next_id before)) (feature_after_id (read_in c.args.grid) kind columns) id _ _ _ _ (subst (λ n. Takes (field (number 4) (next_of n before)) id (g.R.Read.remaining c.args.reader.now) (g.R.Read.remaining c.feature_id.new.reader) c.args.window.now c.feature_id.new.window) c.next_id.ensures c.in_ok-id.ensures) in
    let shape = c.in_ok-valid.valid in
    let two = Goes-step whole (geometry (read_in c.args.grid) kind) (feature_after_geometry columns id) shape _ _ _ _ _ _ one (subst (λ k. Takes (geometry (read_in c.args.grid) k) shape (g.R.Read.remaining c.feature_id.new.reader) (g.R.Read.remaining c.geometry.new.reader) c.feature_id.new.window c.geometry.new.window) c.kind.ensures c.in_ok-valid.ensures.gives) in
    rw (p.1, p.2) (Ends-step whole (field (number 2) (λ (n : ℕ). allowed (nat_le n (length columns)) NoColumn n)) (feature_after_count columns id shape) c.in_err-count.field-0.0 _ _ _ _ _ two c.in_err-count.ensures)

pub returns-in_err-values-clause-gives : goal.returns-in_err-values-clause-gives
returns-in_err-values-clause-gives g c =
    let p = err_from_is_err_and c.from_residual-in_err-values.result c.from_residual-in_err-values.ensures.1 in
    let columns = c.args.layer.now.columns in
    let kind = c.args.layer.now.kind in
    let before = c.args.previous in
    let whole = feature_above (read_in c.args.grid) kind c.args.layer.now.next_id columns before in
    let id = c.in_ok-id.id in
    let one = Goes-then (field (number 4) (next_of c.args.layer.now.next_id before)) (feature_after_id (read_in c.args.grid) kind columns) id _ _ _ _ (subst (λ n. Takes (field (number 4) (next_of n before)) id (g.R.Read.remaining c.args.reader.now) (g.R.Read.remaining c.feature_id.new.reader) c.args.window.now c.feature_id.new.window) c.next_id.ensures c.in_ok-id.ensures) in
    let shape = c.in_ok-valid.valid in
    let two = Goes-step whole (geometry (read_in c.args.grid) kind) (feature_after_geometry columns id) shape _ _ _ _ _ _ one (subst (λ k. Takes (geometry (read_in c.args.grid) k) shape (g.R.Read.remaining c.feature_id.new.reader) (g.R.Read.remaining c.geometry.new.reader) c.feature_id.new.window c.geometry.new.window) c.kind.ensures c.in_ok-valid.ensures.gives) in
    let count = c.in_ok-count.count in
    let three = Goes-step whole (field (number 2) (λ (n : ℕ). allowed (nat_le n (length columns)) NoColumn n)) (feature_after_count columns id shape) count _ _ _ _ _ _ two c.in_ok-count.ensures in
    rw (p.1, p.2) (Ends-step whole (items (value columns) count []) (λ values. done (id, record { geometry = shape; values = values })) c.in_err-values.field-0.0 _ _ _ _ _ three (c.in_err-values.ensures.gives columns c.requires))

pub returns-clause-gives : goal.returns-clause-gives
returns-clause-gives g c =
    let columns = c.args.layer.now.columns in
    let kind = c.args.layer.now.kind in
    let before = c.args.previous in
    let whole = feature_above (read_in c.args.grid) kind c.args.layer.now.next_id columns before in
    let id = c.in_ok-id.id in
    let one = Goes-then (field (number 4) (next_of c.args.layer.now.next_id before)) (feature_after_id (read_in c.args.grid) kind columns) id _ _ _ _ (subst (λ n. Takes (field (number 4) (next_of n before)) id (g.R.Read.remaining c.args.reader.now) (g.R.Read.remaining c.feature_id.new.reader) c.args.window.now c.feature_id.new.window) c.next_id.ensures c.in_ok-id.ensures) in
    let shape = c.in_ok-valid.valid in
    let two = Goes-step whole (geometry (read_in c.args.grid) kind) (feature_after_geometry columns id) shape _ _ _ _ _ _ one (subst (λ k. Takes (geometry (read_in c.args.grid) k) shape (g.R.Read.remaining c.feature_id.new.reader) (g.R.Read.remaining c.geometry.new.reader) c.feature_id.new.window c.geometry.new.window) c.kind.ensures c.in_ok-valid.ensures.gives) in
    let count = c.in_ok-count.count in
    let three = Goes-step whole (field (number 2) (λ (n : ℕ). allowed (nat_le n (length columns)) NoColumn n)) (feature_after_count columns id shape) count _ _ _ _ _ _ two c.in_ok-count.ensures in
    let values = c.values.new.feature.values in
    let same = c.in_ok-values.ensures.geometry ∙ ap (λ (f : FeatureContent). f.geometry) c.new-feature.ensures in
    subst (λ (s : Geometry). Takes whole (id, record { geometry = s; values = values }) (g.R.Read.remaining c.args.reader.now) (g.R.Read.remaining c.values.new.reader) c.args.window.now c.values.new.window) (sym same)
    (Goes-step whole (items (value columns) count []) (λ values. done (id, record { geometry = shape; values = values })) values _ _ _ _ _ _ three (c.in_ok-values.ensures.gives columns c.requires))

pub returns-clause-fits : goal.returns-clause-fits
returns-clause-fits g c =
    let same = c.in_ok-values.ensures.geometry ∙ ap (λ (f : FeatureContent). f.geometry) c.new-feature.ensures in
    let kind = subst (λ k. IsTrue (admits k (kind_of c.in_ok-valid.valid))) c.kind.ensures c.in_ok-valid.ensures.kind in
    let held = subst IsHeld (sym same) c.in_ok-valid.ensures.held in
    record {
      admitted = subst (λ (s : Geometry). IsTrue (admits c.args.layer.now.kind (kind_of s))) (sym same) kind;
      valid = held.valid;
      on_grid = held.on_grid;
      rising = c.in_ok-values.ensures.rising;
      values = c.in_ok-values.ensures.fit c.args.layer.now.columns c.requires;
    }
