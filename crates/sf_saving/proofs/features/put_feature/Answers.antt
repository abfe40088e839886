use Rattle.std.proofs.Common.{◌++◌, ◌∙◌, ℕ, List, ap, flat_map, length, refl}
use Rattle.byteorder.specs.Endian.{big_bytes}
use Rattle.sf_wkb.specs.Grammar.{canonical as canonical_wkb}
use Rattle.sf_features.specs.declared.column.Column.{Column}
use Rattle.sf_features.specs.Features.{FeatureContent}
use Rattle.sf_format.specs.Canonical.{behind_length, feature_bytes, value_bytes}
use Rattle.sf_streams.proofs.Putting.{Putting, Putting-last, Putting-more, Putting-start, breaks, breaks-last}
use Rattle.sf_saving.proofs.features.put_feature.Goals as goal
use Rattle.sf_saving.proofs.features.put_feature.Goals.{In_ok-put_u32, In_ok-put_geometry, In_ok-put_u16}

-- what is left behind the geometry, and behind the identifier
abbrev values_of : List Column → FeatureContent → List ℕ
values_of columns feature = big_bytes 2 (length feature.values) ++ flat_map (value_bytes columns) feature.values

abbrev rest_of : List Column → FeatureContent → List ℕ
rest_of columns feature = behind_length 4 (canonical_wkb feature.geometry) ++ values_of columns feature

-- the identifier was put, and the geometry, and the number of values
with_id : (g : _) (c : In_ok-put_u32 g)
    → Putting (g.W.Write.contents c.args.writer.now) (g.W.Write.contents c.put_u32.new.writer) c.args.output.now c.put_u32.new.self (feature_bytes c.args.layer.now.columns (c.args.id, c.args.feature.now)) (rest_of c.args.layer.now.columns c.args.feature.now)
with_id g c =
    let feature = c.args.feature.now in
    Putting-more (big_bytes 4 c.args.id) (rest_of c.args.layer.now.columns feature) refl (Putting-start (g.W.Write.contents c.args.writer.now) c.args.output.now (feature_bytes c.args.layer.now.columns (c.args.id, feature))) c.in_ok-put_u32.ensures.ok

with_geometry : (g : _) (c : In_ok-put_geometry g)
    → Putting (g.W.Write.contents c.args.writer.now) (g.W.Write.contents c.put_u32.new.writer) c.args.output.now c.put_u32.new.self (feature_bytes c.args.layer.now.columns (c.args.id, c.args.feature.now)) (rest_of c.args.layer.now.columns c.args.feature.now)
    → Putting (g.W.Write.contents c.args.writer.now) (g.W.Write.contents c.put_geometry.new.writer) c.args.output.now c.put_geometry.new.output (feature_bytes c.args.layer.now.columns (c.args.id, c.args.feature.now)) (values_of c.args.layer.now.columns c.args.feature.now)
with_geometry g c so_far =
    let feature = c.args.feature.now in
    Putting-more (behind_length 4 (canonical_wkb feature.geometry)) (values_of c.args.layer.now.columns feature) (ap (λ shape. behind_length 4 (canonical_wkb shape)) (c.geometry.ensures.same ∙ c.valid.ensures.same))
    so_far c.in_ok-put_geometry.ensures.ok

with_count : (g : _) (c : In_ok-put_u16 g)
    → Putting (g.W.Write.contents c.args.writer.now) (g.W.Write.contents c.put_geometry.new.writer) c.args.output.now c.put_geometry.new.output (feature_bytes c.args.layer.now.columns (c.args.id, c.args.feature.now)) (values_of c.args.layer.now.columns c.args.feature.now)
    → Putting (g.W.Write.contents c.args.writer.now) (g.W.Write.contents c.put_u16.new.writer) c.args.output.now c.put_u16.new.self (feature_bytes c.args.layer.now.columns (c.args.id, c.args.feature.now)) (flat_map (value_bytes c.args.layer.now.columns) c.args.feature.now.values)
with_count g c so_far =
    let feature = c.args.feature.now in
    Putting-more (big_bytes 2 (length feature.values)) (flat_map (value_bytes c.args.layer.now.columns) feature.values) (ap (big_bytes 2) c.value_count.ensures.count) so_far c.in_ok-put_u16.ensures.ok

pub returns-in_err-put_u32-clause-broken : goal.returns-in_err-put_u32-clause-broken
returns-in_err-put_u32-clause-broken g c =
    let feature = c.args.feature.now in
    breaks c.from_residual.result (big_bytes 4 c.args.id) (rest_of c.args.layer.now.columns feature) refl (Putting-start (g.W.Write.contents c.args.writer.now) c.args.output.now (feature_bytes c.args.layer.now.columns (c.args.id, feature))) c.in_err-put_u32.ensures.broken

pub returns-in_err-put_geometry-clause-broken : goal.returns-in_err-put_geometry-clause-broken
returns-in_err-put_geometry-clause-broken g c =
    let feature = c.args.feature.now in
    breaks c.from_residual-in_err-put_geometry.result (behind_length 4 (canonical_wkb feature.geometry)) (values_of c.args.layer.now.columns feature)
    (ap (λ shape. behind_length 4 (canonical_wkb shape)) (c.geometry.ensures.same ∙ c.valid.ensures.same)) (with_id g (goal.at.returns-in_err-put_geometry-clause-broken g c).In_ok-put_u32) c.in_err-put_geometry.ensures.broken

pub returns-in_err-put_u16-clause-broken : goal.returns-in_err-put_u16-clause-broken
returns-in_err-put_u16-clause-broken g c =
    let at = goal.at.returns-in_err-put_u16-clause-broken g c in
    let feature = c.args.feature.now in
    breaks c.from_residual-in_err-put_u16.result (big_bytes 2 (length feature.values)) (flat_map (value_bytes c.args.layer.now.columns) feature.values) (ap (big_bytes 2) c.value_count.ensures.count)
    (with_geometry g at.In_ok-put_geometry (with_id g at.In_ok-put_u32)) c.in_err-put_u16.ensures.broken

pub returns-in_err-put_values-clause-broken : goal.returns-in_err-put_values-clause-broken
returns-in_err-put_values-clause-broken g c =
    let at = goal.at.returns-in_err-put_values-clause-broken g c in
    breaks-last c.from_residual-in_err-put_values.result (flat_map (value_bytes c.args.layer.now.columns) c.args.feature.now.values) (ap (flat_map (value_bytes c.args.layer.now.columns)) c.values.ensures)
    (with_count g at.In_ok-put_u16 (with_geometry g at.In_ok-put_geometry (with_id g at.In_ok-put_u32))) c.in_err-put_values.ensures.broken

pub returns-clause-ok : goal.returns-clause-ok
returns-clause-ok g c =
    let at = goal.at.returns-clause-ok g c in
    Putting-last (flat_map (value_bytes c.args.layer.now.columns) c.args.feature.now.values) (ap (flat_map (value_bytes c.args.layer.now.columns)) c.values.ensures) (with_count g at.In_ok-put_u16 (with_geometry g at.In_ok-put_geometry (with_id g at.In_ok-put_u32))) c.in_ok-put_values.ensures.ok
