use Rattle.std.proofs.Common.{◌++◌, ◌∙◌, ℕ, List, ap, flat_map, length, refl}
use Rattle.byteorder.specs.Endian.{big_bytes}
use Rattle.sf_layers.specs.Content.{LayerContent}
use Rattle.sf_format.specs.Canonical.{behind_length, column_bytes, feature_bytes, kind_byte, layer_bytes}
use Rattle.sf_streams.proofs.Putting.{Putting, Putting-more, Putting-start, breaks, ends-broken, ends-put}
use Rattle.sf_saving.proofs.layers.put_layer.Goals as goal
use Rattle.sf_saving.proofs.layers.put_layer.Goals.{In_ok-put_name, In_ok-put_u8, In_ok-put_u32, In_ok-put_u16, In_ok-put_u16-2, In_ok-put_columns, In_ok-put_u32-2}

-- what is left of a layer's bytes behind each field
abbrev behind_columns : LayerContent → List ℕ
behind_columns layer = big_bytes 4 (length layer.features) ++ flat_map (feature_bytes layer.columns) layer.features

abbrev behind_column_count : LayerContent → List ℕ
behind_column_count layer = flat_map column_bytes layer.columns ++ behind_columns layer

abbrev behind_next_column : LayerContent → List ℕ
behind_next_column layer = big_bytes 2 (length layer.columns) ++ behind_column_count layer

abbrev behind_next_id : LayerContent → List ℕ
behind_next_id layer = big_bytes 2 layer.next_column ++ behind_next_column layer

abbrev behind_kind : LayerContent → List ℕ
behind_kind layer = big_bytes 4 layer.next_id ++ behind_next_id layer

abbrev behind_name : LayerContent → List ℕ
behind_name layer = big_bytes 1 (kind_byte layer.kind) ++ behind_kind layer

-- each field was put behind those before it
with_name : (g : _) (c : In_ok-put_name g)
    → Putting (g.W.Write.contents c.args.writer.now) (g.W.Write.contents c.put_name.new.writer) c.args.output.now c.put_name.new.output (layer_bytes (c.args.name.now, c.args.layer.now)) (behind_name c.args.layer.now)
with_name g c =
    let layer = c.args.layer.now in
    Putting-more (behind_length 1 c.args.name.now) (behind_name layer) refl (Putting-start (g.W.Write.contents c.args.writer.now) c.args.output.now (layer_bytes (c.args.name.now, layer))) c.in_ok-put_name.ensures.ok

with_kind : (g : _) (c : In_ok-put_u8 g)
    → Putting (g.W.Write.contents c.args.writer.now) (g.W.Write.contents c.put_name.new.writer) c.args.output.now c.put_name.new.output (layer_bytes (c.args.name.now, c.args.layer.now)) (behind_name c.args.layer.now)
    → Putting (g.W.Write.contents c.args.writer.now) (g.W.Write.contents c.put_u8.new.writer) c.args.output.now c.put_u8.new.self (layer_bytes (c.args.name.now, c.args.layer.now)) (behind_kind c.args.layer.now)
with_kind g c so_far =
    let layer = c.args.layer.now in
    Putting-more (big_bytes 1 (kind_byte layer.kind)) (behind_kind layer) (ap (big_bytes 1) (c.kind_byte.ensures ∙ ap kind_byte c.kind.ensures)) so_far c.in_ok-put_u8.ensures.ok

with_next_id : (g : _) (c : In_ok-put_u32 g)
    → Putting (g.W.Write.contents c.args.writer.now) (g.W.Write.contents c.put_u8.new.writer) c.args.output.now c.put_u8.new.self (layer_bytes (c.args.name.now, c.args.layer.now)) (behind_kind c.args.layer.now)
    → Putting (g.W.Write.contents c.args.writer.now) (g.W.Write.contents c.put_u32.new.writer) c.args.output.now c.put_u32.new.self (layer_bytes (c.args.name.now, c.args.layer.now)) (behind_next_id c.args.layer.now)
with_next_id g c so_far =
    let layer = c.args.layer.now in
    Putting-more (big_bytes 4 layer.next_id) (behind_next_id layer) (ap (big_bytes 4) c.next_id.ensures) so_far c.in_ok-put_u32.ensures.ok

with_next_column : (g : _) (c : In_ok-put_u16 g)
    → Putting (g.W.Write.contents c.args.writer.now) (g.W.Write.contents c.put_u32.new.writer) c.args.output.now c.put_u32.new.self (layer_bytes (c.args.name.now, c.args.layer.now)) (behind_next_id c.args.layer.now)
    → Putting (g.W.Write.contents c.args.writer.now) (g.W.Write.contents c.put_u16.new.writer) c.args.output.now c.put_u16.new.self (layer_bytes (c.args.name.now, c.args.layer.now)) (behind_next_column c.args.layer.now)
with_next_column g c so_far =
    let layer = c.args.layer.now in
    Putting-more (big_bytes 2 layer.next_column) (behind_next_column layer) (ap (big_bytes 2) c.next_column.ensures) so_far c.in_ok-put_u16.ensures.ok

with_column_count : (g : _) (c : In_ok-put_u16-2 g)
    → Putting (g.W.Write.contents c.args.writer.now) (g.W.Write.contents c.put_u16.new.writer) c.args.output.now c.put_u16.new.self (layer_bytes (c.args.name.now, c.args.layer.now)) (behind_next_column c.args.layer.now)
    → Putting (g.W.Write.contents c.args.writer.now) (g.W.Write.contents c.put_u16-2.new.writer) c.args.output.now c.put_u16-2.new.self (layer_bytes (c.args.name.now, c.args.layer.now)) (behind_column_count c.args.layer.now)
with_column_count g c so_far =
    let layer = c.args.layer.now in
    Putting-more (big_bytes 2 (length layer.columns)) (behind_column_count layer) (ap (big_bytes 2) c.column_count.ensures.count) so_far c.in_ok-put_u16-2.ensures.ok

with_columns : (g : _) (c : In_ok-put_columns g)
    → Putting (g.W.Write.contents c.args.writer.now) (g.W.Write.contents c.put_u16-2.new.writer) c.args.output.now c.put_u16-2.new.self (layer_bytes (c.args.name.now, c.args.layer.now)) (behind_column_count c.args.layer.now)
    → Putting (g.W.Write.contents c.args.writer.now) (g.W.Write.contents c.put_columns.new.writer) c.args.output.now c.put_columns.new.output (layer_bytes (c.args.name.now, c.args.layer.now)) (behind_columns c.args.layer.now)
with_columns g c so_far =
    let layer = c.args.layer.now in
    Putting-more (flat_map column_bytes layer.columns) (behind_columns layer) refl so_far c.in_ok-put_columns.ensures.ok

with_feature_count : (g : _) (c : In_ok-put_u32-2 g)
    → Putting (g.W.Write.contents c.args.writer.now) (g.W.Write.contents c.put_columns.new.writer) c.args.output.now c.put_columns.new.output (layer_bytes (c.args.name.now, c.args.layer.now)) (behind_columns c.args.layer.now)
    → Putting (g.W.Write.contents c.args.writer.now) (g.W.Write.contents c.put_u32-2.new.writer) c.args.output.now c.put_u32-2.new.self (layer_bytes (c.args.name.now, c.args.layer.now)) (flat_map (feature_bytes c.args.layer.now.columns) c.args.layer.now.features)
with_feature_count g c so_far =
    let layer = c.args.layer.now in
    Putting-more (big_bytes 4 (length layer.features)) (flat_map (feature_bytes layer.columns) layer.features) (ap (big_bytes 4) c.feature_count.ensures) so_far c.in_ok-put_u32-2.ensures.ok

pub returns-in_err-put_name-clause-broken : goal.returns-in_err-put_name-clause-broken
returns-in_err-put_name-clause-broken g c =
    let layer = c.args.layer.now in
    breaks c.from_residual.result (behind_length 1 c.args.name.now) (behind_name layer) refl
    (Putting-start (g.W.Write.contents c.args.writer.now) c.args.output.now (layer_bytes (c.args.name.now, layer)))
    c.in_err-put_name.ensures.broken

pub returns-in_err-put_u8-clause-broken : goal.returns-in_err-put_u8-clause-broken
returns-in_err-put_u8-clause-broken g c =
    let at = goal.at.returns-in_err-put_u8-clause-broken g c in
    let layer = c.args.layer.now in
    breaks c.from_residual-in_err-put_u8.result (big_bytes 1 (kind_byte layer.kind)) (behind_kind layer) (ap (big_bytes 1) (c.kind_byte.ensures ∙ ap kind_byte c.kind.ensures))
    (with_name g at.In_ok-put_name)
    c.in_err-put_u8.ensures.broken

pub returns-in_err-put_u32-clause-broken : goal.returns-in_err-put_u32-clause-broken
returns-in_err-put_u32-clause-broken g c =
    let at = goal.at.returns-in_err-put_u32-clause-broken g c in
    let layer = c.args.layer.now in
    breaks c.from_residual-in_err-put_u32.result (big_bytes 4 layer.next_id) (behind_next_id layer) (ap (big_bytes 4) c.next_id.ensures)
    (with_kind g at.In_ok-put_u8 (with_name g at.In_ok-put_name))
    c.in_err-put_u32.ensures.broken

pub returns-in_err-put_u16-clause-broken : goal.returns-in_err-put_u16-clause-broken
returns-in_err-put_u16-clause-broken g c =
    let at = goal.at.returns-in_err-put_u16-clause-broken g c in
    let layer = c.args.layer.now in
    breaks c.from_residual-in_err-put_u16.result (big_bytes 2 layer.next_column) (behind_next_column layer) (ap (big_bytes 2) c.next_column.ensures)
    (with_next_id g at.In_ok-put_u32 (with_kind g at.In_ok-put_u8 (with_name g at.In_ok-put_name)))
    c.in_err-put_u16.ensures.broken

pub returns-in_err-put_u16-2-clause-broken : goal.returns-in_err-put_u16-2-clause-broken
returns-in_err-put_u16-2-clause-broken g c =
    let at = goal.at.returns-in_err-put_u16-2-clause-broken g c in
    let layer = c.args.layer.now in
    breaks c.from_residual-in_err-put_u16-2.result (big_bytes 2 (length layer.columns)) (behind_column_count layer) (ap (big_bytes 2) c.column_count.ensures.count)
    (with_next_column g at.In_ok-put_u16 (with_next_id g at.In_ok-put_u32 (with_kind g at.In_ok-put_u8 (with_name g at.In_ok-put_name))))
    c.in_err-put_u16-2.ensures.broken

pub returns-in_err-put_columns-clause-broken : goal.returns-in_err-put_columns-clause-broken
returns-in_err-put_columns-clause-broken g c =
    let at = goal.at.returns-in_err-put_columns-clause-broken g c in
    let layer = c.args.layer.now in
    breaks c.from_residual-in_err-put_columns.result (flat_map column_bytes layer.columns) (behind_columns layer) refl
    (with_column_count g at.In_ok-put_u16-2 (with_next_column g at.In_ok-put_u16 (with_next_id g at.In_ok-put_u32 (with_kind g at.In_ok-put_u8 (with_name g at.In_ok-put_name)))))
    c.in_err-put_columns.ensures.broken

pub returns-in_err-put_u32-2-clause-broken : goal.returns-in_err-put_u32-2-clause-broken
returns-in_err-put_u32-2-clause-broken g c =
    let at = goal.at.returns-in_err-put_u32-2-clause-broken g c in
    let layer = c.args.layer.now in
    breaks c.from_residual-in_err-put_u32-2.result (big_bytes 4 (length layer.features)) (flat_map (feature_bytes layer.columns) layer.features) (ap (big_bytes 4) c.feature_count.ensures)
    (with_columns g at.In_ok-put_columns (with_column_count g at.In_ok-put_u16-2 (with_next_column g at.In_ok-put_u16 (with_next_id g at.In_ok-put_u32 (with_kind g at.In_ok-put_u8 (with_name g at.In_ok-put_name))))))
    c.in_err-put_u32-2.ensures.broken

pub returns-clause-ok : goal.returns-clause-ok
returns-clause-ok g c =
    let at = goal.at.returns-clause-ok g c in
    ends-put c.put_features.result _ _ (flat_map (feature_bytes c.args.layer.now.columns) c.args.layer.now.features) refl
    (with_feature_count g at.In_ok-put_u32-2 (with_columns g at.In_ok-put_columns (with_column_count g at.In_ok-put_u16-2 (with_next_column g at.In_ok-put_u16 (with_next_id g at.In_ok-put_u32 (with_kind g at.In_ok-put_u8 (with_name g at.In_ok-put_name)))))))
    c.put_features.ensures.ok

pub returns-clause-broken : goal.returns-clause-broken
returns-clause-broken g c =
    let at = goal.at.returns-clause-broken g c in
    ends-broken c.put_features.result _ (flat_map (feature_bytes c.args.layer.now.columns) c.args.layer.now.features) refl
    (with_feature_count g at.In_ok-put_u32-2 (with_columns g at.In_ok-put_columns (with_column_count g at.In_ok-put_u16-2 (with_next_column g at.In_ok-put_u16 (with_next_id g at.In_ok-put_u32 (with_kind g at.In_ok-put_u8 (with_name g at.In_ok-put_name)))))))
    c.put_features.ensures.broken
