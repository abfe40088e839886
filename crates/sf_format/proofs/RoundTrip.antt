-- The canonical bytes of a well-formed content load as it.
use Rattle.std.proofs.Common.{◌≡◌, ℕ, ◌+◌, ◌<◌, ◌≤◌, Bool, true, false, cond, not, List, [], ◌∷◌, ◌++◌, map, length, Some, None, IsTrue, Result, Ok, Err, bytes_eq, nat_eq, codes, refl, sym, ap, subst, ◌∙◌, append_assoc, append-nil, arith}
use Rattle.std.specs.Prelude.{IsSomeAnd, find, nat_lt, nat_le, is_some}
use Rattle.std.specs.List.{flat_map, list_any, AllByRecursion}
use Rattle.std.specs.List.Sorted.{IsStrictlySortedBy}
use Rattle.std.specs.Map.{keys_of, values_of}
use Rattle.std.specs.Ordering.{nat_cmp}
use Rattle.std.specs.Cmp.Lexicographic.{nat_list_eq_equiv}
use Rattle.std.specs.declared.cmp.Ordering.TheVariants.{Less}
use Rattle.std.proofs.lemmas.Bool.{le-leb, lt-ltb, eqb-true}
use Rattle.byteorder.specs.Endian.{big_bytes}
use Rattle.sf_geometry.specs.declared.geometry.Geometry.{Geometry}
use Rattle.sf_geometry.specs.declared.kind.Kind.TheVariants as kinds
use Rattle.sf_geometry.specs.Kinds.{kind_of}
use Rattle.sf_valid_rules.specs.Verdicts.{first_fault}
use Rattle.sf_wkb.specs.declared.grid.Grid.TheVariants.{Bits20, Bits24, Bits31}
use Rattle.sf_wkb.specs.Grammar.{read_in, canonical as canonical_wkb}
use Rattle.sf_features.specs.declared.column.Column.{Column}
use Rattle.sf_features.specs.declared.attr_value.AttrValue.{AttrValue}
use Rattle.sf_features.specs.Names.{is_name}
use Rattle.sf_features.specs.Columns.{IsDistinct, named, numbered}
use Rattle.sf_features.specs.Features.{FeatureContent}
use Rattle.sf_features.specs.Values.{is_of_type}
use Rattle.sf_layers.specs.declared.layer_kind.LayerKind.{LayerKind}
use Rattle.sf_layers.specs.declared.layer_kind.LayerKind.TheVariants.{Any, Only}
use Rattle.sf_layers.specs.Content.{Content, LayerContent, layer_of, admits}
use Rattle.sf_layers.specs.WellFormed.{IsIssued, IsColumn, IsValue, IsFeature, IsLayer, IsWellFormed, column_end, layers_max}
use Rattle.sf_layers.proofs.Kept.{none_or}
use Rattle.sf_ruled_store.specs.Ruling.{Rule}
use Rattle.sf_ruled_store.specs.Ruled.{Ruled}
use Rattle.sf_format.specs.declared.version.Version.{Version}
use Rattle.sf_format.specs.declared.version.Version.TheVariants.{First, Second, Third, Fourth}
use Rattle.sf_format.specs.declared.defect.Defect.TheVariants.{TooManyVertices, LayerExists, NoColumn, ColumnExists, WrongValue, WrongKind, IdsExhausted, ColumnsExhausted, BadFile}
use Rattle.sf_wkb.specs.declared.grid.Grid.{Grid}
use Rattle.sf_format.specs.Readings.{Fault, and_then, bytes, field, number, items, Reading, done}
use Rattle.sf_format.specs.Format.{RowReading, row_max, allowed, present, last_number, name, kind_of_byte, type_of_byte, fresh_number, fresh_column_name, column, without_fault, admitted, geometry, typed_value, next_column_of, value, next_of, feature, fresh_layer_name, layer, layers, content_in, content_of, ruled_content_of, head, version_of, on_grid, grid_of, rules_in, value_of, rules}
use Rattle.sf_format.specs.Canonical.{behind_length, kind_byte, type_byte, column_bytes, is_decimal_column, typed_bytes, value_bytes, feature_bytes, layer_bytes, layers_bytes, canonical, front, rules_bytes}
use Rattle.sf_format.specs.Laws.{CanonicalBytesLoad, CanonicalBytesDiffer, FirstCanonicalBytesLoad, IsRuledWell, RuledBytesDiffer, RuledBytesLoad, SecondCanonicalBytesLoad, ThirdCanonicalBytesLoad, AreIn}
use Rattle.sf_format.proofs.Again.{at, Again, Again-done, Again-then, Again-made, Again-value, Again-bytes, Again-field, Again-number_field, EachAgain, Again-items}
use Rattle.sf_format.proofs.Continuations.{column_after_type, column_after_number, value_after_column, geometry_after_size, feature_after_count, feature_after_geometry, feature_after_id, layer_after_feature_count, layer_after_columns, layer_after_column_count, layer_after_next_column, layer_after_next_id, layer_after_kind, layer_after_name, file_after_head, file_after_layers, file_after_rules}
use Rattle.sf_format.proofs.Counts.{below_from_cmp, column-count, feature-count, value-count}
use Rattle.sf_format.proofs.Names.{distinct-fresh, name-again}
use Rattle.sf_format.proofs.Rules.{allowed-ok, both}
use Rattle.sf_format.proofs.RulesAgain.{MayHave, any-may, layers-may, rules-again}
use Rattle.sf_format.proofs.Values.{type-again, type_byte-fits, typed-again}
use Rattle.sf_format.proofs.Rows.{HasRows, IsRow, narrow-rows, wide-rows}

-- ---- what stands before

find-none : {X : Type 0} (test : X → Bool) (xs : List X) → list_any test xs ≡ false → find test xs ≡ None
find-none test [] h = refl
find-none test (x ∷ xs) h =
    let parts = none_or (test x) (list_any test xs) h in
    ap (λ b. cond b (Some x) (find test xs)) parts.0 ∙ find-none test xs parts.1

lookup-none : (title : List ℕ) (content : Content) → list_any (λ e. bytes_eq e.0 title) content ≡ false → layer_of content title ≡ None
lookup-none title [] h = refl
lookup-none title (e ∷ es) h =
    let parts = none_or (bytes_eq e.0 title) (list_any (λ e. bytes_eq e.0 title) es) h in
    ap (λ b. cond b (Some e.1) (layer_of es title)) (nat_list_eq_equiv.symm title e.0 ∙ parts.0) ∙ lookup-none title es parts.1

named-none : (title : List ℕ) (columns : List Column) → list_any (λ e. bytes_eq e.name title) columns ≡ false → named columns title ≡ None
named-none title [] h = refl
named-none title (c ∷ cs) h =
    let parts = none_or (bytes_eq c.name title) (list_any (λ e. bytes_eq e.name title) cs) h in
    ap (λ b. cond b (Some c) (named cs title)) (nat_list_eq_equiv.symm title c.name ∙ parts.0) ∙ named-none title cs parts.1

less-at : (k n : ℕ) (xs later : List ℕ) → AllByRecursion (λ y. nat_cmp k y ≡ Less) (xs ++ n ∷ later) → k < n
less-at k n [] later h = below_from_cmp k n h.0
less-at k n (x ∷ xs) later h = less-at k n xs later h.1

keys-append : {X : Type 0} (xs ys : List (ℕ × X)) → keys_of (xs ++ ys) ≡ keys_of xs ++ keys_of ys
keys-append [] ys = refl
keys-append (x ∷ xs) ys = ap (λ rest. x.0 ∷ rest) (keys-append xs ys)

last-below : {X : Type 0} (earlier : List (ℕ × X)) (x : ℕ × X) (later : List (ℕ × X)) → 1 ≤ x.0 → IsStrictlySortedBy nat_cmp (keys_of (earlier ++ x ∷ later)) → last_number earlier < x.0
unfolding IsStrictlySortedBy
last-below [] x later some rising = omega (arith, some)
last-below (e ∷ []) x later some rising = below_from_cmp e.0 x.0 rising.0.0
last-below (e ∷ (next ∷ more)) x later some rising = last-below (next ∷ more) x later some rising.1

-- ---- names and columns

column-again : (next : ℕ) (earlier : List Column) (c : Column) → next ≤ column_end → IsColumn next c
    → list_any (λ e. bytes_eq e.name c.name) earlier ≡ false → list_any (λ e. nat_eq e.number c.number) earlier ≡ false → Again (column next earlier) (column_bytes c) c
column-again next earlier c below is name_free number_free =
    let fresh : fresh_number next earlier c.number ≡ Ok c.number =
    allowed-ok _ ColumnsExhausted c.number (both _ _ (both _ _ (lt-ltb 0 c.number (omega (arith, is.1.0))) (lt-ltb c.number next is.1.1))
    (ap (λ o. not (is_some o)) (find-none (λ e. nat_eq e.number c.number) earlier number_free))) in
    Again-then (field (number 2) (fresh_number next earlier)) (column_after_number earlier) (big_bytes 2 c.number) (big_bytes 1 (type_byte c.column_type) ++ behind_length 1 c.name) c.number c
    (Again-number_field 2 c.number (fresh_number next earlier) c.number (omega (arith, is.1.1, below)) fresh)
    (Again-then (field (number 1) (λ byte. present (type_of_byte byte) WrongValue)) (column_after_type earlier c.number) (big_bytes 1 (type_byte c.column_type)) (behind_length 1 c.name) c.column_type c
    (Again-number_field 1 (type_byte c.column_type) (λ byte. present (type_of_byte byte) WrongValue) c.column_type (omega (arith, type_byte-fits c.column_type)) (type-again c.column_type))
    (Again-made (field name (fresh_column_name earlier)) (λ text. record { number = c.number; name = text; column_type = c.column_type }) (behind_length 1 c.name) c.name
    (Again-field name (fresh_column_name earlier) (behind_length 1 c.name) c.name c.name (name-again c.name is.0)
    (allowed-ok _ ColumnExists c.name (ap (λ o. not (is_some o)) (named-none c.name earlier name_free))))))

columns-again : (next : ℕ) (earlier cs : List Column) → next ≤ column_end → AllByRecursion (IsColumn next) cs
    → IsDistinct bytes_eq (map (λ c. c.name) (earlier ++ cs)) → IsDistinct nat_eq (map (λ c. c.number) (earlier ++ cs)) → EachAgain (column next) column_bytes earlier cs
columns-again next earlier [] ended all names numbers = tt
columns-again next earlier (c ∷ cs) ended all names numbers =
    let regrouped : earlier ++ c ∷ cs ≡ (earlier ++ c ∷ []) ++ cs = sym (append_assoc earlier (c ∷ []) cs) in (
      column-again next earlier c ended all.0 (distinct-fresh bytes_eq (λ c. c.name) earlier c cs names) (distinct-fresh nat_eq (λ c. c.number) earlier c cs numbers),
      columns-again next (earlier ++ c ∷ []) cs ended all.1 (subst (λ (all : List Column). IsDistinct bytes_eq (map (λ c. c.name) all)) regrouped names) (subst (λ (all : List Column). IsDistinct nat_eq (map (λ c. c.number) all)) regrouped numbers),
    )

-- ---- values

column-found : (columns : List Column) (before n : ℕ) (v : AttrValue) → before < n → IsValue columns (n, v)
    → (c : Column) × (next_column_of columns before n ≡ Ok c) × (c.number ≡ n) × (is_of_type c.column_type v ≡ true) × (numbered columns n ≡ Some c)
column-found columns before n v below is =
    let found = look columns is in
    (found.0, ap (λ b. present (cond b (numbered columns n) None) NoColumn) (lt-ltb before n below) ∙ ap (λ o. present o NoColumn) found.1, found.2, found.3, found.1)
  where
    look : (cs : List Column) → IsSomeAnd (numbered cs n) (λ c. IsTrue (is_of_type c.column_type v)) → (c : Column) × (numbered cs n ≡ Some c) × (c.number ≡ n) × (is_of_type c.column_type v ≡ true)
    look [] h = absurd h
    look (c ∷ cs) h = by_test (nat_eq c.number n) refl (look cs) h
      where
        by_test : (b : Bool) → b ≡ nat_eq c.number n → (IsSomeAnd (numbered cs n) (λ c. IsTrue (is_of_type c.column_type v)) → (d : Column) × (numbered cs n ≡ Some d) × (d.number ≡ n) × (is_of_type d.column_type v ≡ true))
            → IsSomeAnd (cond b (Some c) (numbered cs n)) (λ c. IsTrue (is_of_type c.column_type v))
            → (d : Column) × (cond (nat_eq c.number n) (Some c) (numbered cs n) ≡ Some d) × (d.number ≡ n) × (is_of_type d.column_type v ≡ true)
        by_test true is later h = (c, ap (λ b. cond b (Some c) (numbered cs n)) (sym is), eqb-true c.number n (sym is), h)
        by_test false is later h = let d = later h in (d.0, ap (λ b. cond b (Some c) (numbered cs n)) (sym is) ∙ d.1, d.2, d.3)

value-again : (columns : List Column) (earlier : List (ℕ × AttrValue)) (v : ℕ × AttrValue) → v.0 ≤ column_end → last_number earlier < v.0 → IsValue columns v
    → Again (value columns earlier) (value_bytes columns v) v
value-again columns earlier v below above is =
    let c = column-found columns (last_number earlier) v.0 v.1 above is in
    let text = typed_bytes (is_decimal_column (numbered columns v.0)) v.1 in
    Again-value (value columns earlier) (value_bytes columns v) (c.0.number, v.1) v (ap (λ n. (n, v.1)) c.2)
    (Again-then (field (number 2) (next_column_of columns (last_number earlier))) value_after_column (big_bytes 2 v.0) text c.0 (c.0.number, v.1)
    (Again-number_field 2 v.0 (next_column_of columns (last_number earlier)) c.0 (omega (arith, below)) c.1)
    (Again-made (typed_value c.0.column_type) (λ content. (c.0.number, content)) text v.1
    (subst (λ o. Again (typed_value c.0.column_type) (typed_bytes (is_decimal_column o) v.1) v.1) (sym c.4) (typed-again c.0.column_type v.1 c.3))))

-- the number of a value is one of its layer's columns
value-issued : (next : ℕ) (columns : List Column) (v : ℕ × AttrValue) → AllByRecursion (IsColumn next) columns → IsValue columns v → IsIssued next v.0
value-issued next columns v all is = look columns all is
  where
    look : (cs : List Column) → AllByRecursion (IsColumn next) cs → IsSomeAnd (numbered cs v.0) (λ c. IsTrue (is_of_type c.column_type v.1)) → IsIssued next v.0
    look [] all h = absurd h
    look (c ∷ cs) all h = by_test (nat_eq c.number v.0) refl (look cs all.1) h
      where
        by_test : (b : Bool) → b ≡ nat_eq c.number v.0 → (IsSomeAnd (numbered cs v.0) (λ c. IsTrue (is_of_type c.column_type v.1)) → IsIssued next v.0)
            → IsSomeAnd (cond b (Some c) (numbered cs v.0)) (λ c. IsTrue (is_of_type c.column_type v.1)) → IsIssued next v.0
        by_test true same later h = subst (IsIssued next) (eqb-true c.number v.0 (sym same)) all.0.1
        by_test false same later h = later h

values-again : (next : ℕ) (columns : List Column) (earlier vs : List (ℕ × AttrValue)) → next ≤ column_end → AllByRecursion (IsColumn next) columns
    → AllByRecursion (IsValue columns) vs → IsStrictlySortedBy nat_cmp (keys_of (earlier ++ vs)) → EachAgain (value columns) (value_bytes columns) earlier vs
values-again next columns earlier [] ended issued all rising = tt
values-again next columns earlier (v ∷ vs) ended issued all rising =
    let regrouped : earlier ++ v ∷ vs ≡ (earlier ++ v ∷ []) ++ vs = sym (append_assoc earlier (v ∷ []) vs) in
    let number = value-issued next columns v issued all.0 in (
      value-again columns earlier v (omega (arith, number.1, ended)) (last-below earlier v vs number.0 rising) all.0,
      values-again next columns (earlier ++ v ∷ []) vs ended issued all.1 (subst (λ (all : List (ℕ × AttrValue)). IsStrictlySortedBy nat_cmp (keys_of all)) regrouped rising),
    )

-- ---- features

geometry-again : (row : RowReading) (kind : LayerKind) (g : Geometry) → IsRow row g → IsTrue (admits kind (kind_of g)) → Again (geometry row kind) (behind_length 4 (canonical_wkb g)) g
geometry-again row kind g is fits =
    Again-then (field (number 4) (λ size. allowed (nat_le size row_max) TooManyVertices size)) (geometry_after_size row kind) (big_bytes 4 (length (canonical_wkb g))) (canonical_wkb g) (length (canonical_wkb g)) g
    (Again-number_field 4 (length (canonical_wkb g)) _ (length (canonical_wkb g)) (omega (arith, is.short)) (allowed-ok _ TooManyVertices (length (canonical_wkb g)) (le-leb _ _ is.short)))
    (Again-field (bytes (length (canonical_wkb g))) (λ text. admitted kind (row text)) (canonical_wkb g) (canonical_wkb g) g (Again-bytes (length (canonical_wkb g)) (canonical_wkb g) refl)
    (ap (admitted kind) is.read ∙ ap (λ b. cond b (without_fault g (first_fault g)) (Err WrongKind)) fits ∙ ap (without_fault g) is.valid))

feature-again : (row : RowReading) (l : LayerContent) (earlier : List (ℕ × FeatureContent)) (f : ℕ × FeatureContent) → IsRow row f.1.geometry → IsLayer l → IsIssued l.next_id f.0 → IsFeature l.kind l.columns f.1
    → last_number earlier < f.0 → Again (feature row l.kind l.next_id l.columns earlier) (feature_bytes l.columns f) f
feature-again row l earlier f stored is issued fits above =
    let few = value-count l.columns f.1.values fits.rising fits.values in
    let columns = column-count l is in
    Again-then (field (number 4) (next_of l.next_id (last_number earlier))) (feature_after_id row l.kind l.columns) (big_bytes 4 f.0) (behind_length 4 (canonical_wkb f.1.geometry) ++ (big_bytes 2 (length f.1.values) ++ flat_map (value_bytes l.columns) f.1.values)) f.0 f
    (Again-number_field 4 f.0 (next_of l.next_id (last_number earlier)) f.0 (omega (arith, issued.1, is.next_id.1)) (allowed-ok _ IdsExhausted f.0 (both _ _ (lt-ltb _ f.0 above) (lt-ltb f.0 l.next_id issued.1))))
    (Again-then (geometry row l.kind) (feature_after_geometry l.columns f.0) (behind_length 4 (canonical_wkb f.1.geometry)) (big_bytes 2 (length f.1.values) ++ flat_map (value_bytes l.columns) f.1.values) f.1.geometry f
    (geometry-again row l.kind f.1.geometry stored fits.admitted)
    (Again-then (field (number 2) (λ n. allowed (nat_le n (length l.columns)) NoColumn n)) (feature_after_count l.columns f.0 f.1.geometry) (big_bytes 2 (length f.1.values)) (flat_map (value_bytes l.columns) f.1.values) (length f.1.values) f
    (Again-number_field 2 (length f.1.values) _ (length f.1.values) (omega (arith, few, columns, is.next_column.1)) (allowed-ok _ NoColumn (length f.1.values) (le-leb _ _ few)))
    (Again-made (items (value l.columns) (length f.1.values) []) (λ values. (f.0, record { geometry = f.1.geometry; values = values })) (flat_map (value_bytes l.columns) f.1.values) f.1.values
    (Again-items (value l.columns) (value_bytes l.columns) [] f.1.values (values-again l.next_column l.columns [] f.1.values is.next_column.1 is.columns fits.values fits.rising)))))

features-again : (row : RowReading) (l : LayerContent) (earlier fs : List (ℕ × FeatureContent)) → AllByRecursion (λ f. IsRow row f.geometry) (values_of fs) → IsLayer l → AllByRecursion (IsIssued l.next_id) (keys_of fs) → AllByRecursion (IsFeature l.kind l.columns) (values_of fs)
    → IsStrictlySortedBy nat_cmp (keys_of (earlier ++ fs)) → EachAgain (feature row l.kind l.next_id l.columns) (feature_bytes l.columns) earlier fs
features-again row l earlier [] stored is issued all rising = tt
features-again row l earlier (f ∷ fs) stored is issued all rising =
    let regrouped : earlier ++ f ∷ fs ≡ (earlier ++ f ∷ []) ++ fs = sym (append_assoc earlier (f ∷ []) fs) in (
      feature-again row l earlier f stored.0 is issued.0 all.0 (last-below earlier f fs issued.0.0 rising),
      features-again row l (earlier ++ f ∷ []) fs stored.1 is issued.1 all.1 (subst (λ (all : List (ℕ × FeatureContent)). IsStrictlySortedBy nat_cmp (keys_of all)) regrouped rising),
    )

-- ---- layers

kind_byte-fits : (k : LayerKind) → kind_byte k < 256
kind_byte-fits Any = omega arith
kind_byte-fits (Only kinds.Point) = omega arith
kind_byte-fits (Only kinds.LineString) = omega arith
kind_byte-fits (Only kinds.Polygon) = omega arith
kind_byte-fits (Only kinds.MultiPoint) = omega arith
kind_byte-fits (Only kinds.MultiLineString) = omega arith
kind_byte-fits (Only kinds.MultiPolygon) = omega arith

kind-again : (k : LayerKind) → present (kind_of_byte (kind_byte k)) WrongKind ≡ Ok k
kind-again Any = refl
kind-again (Only kinds.Point) = refl
kind-again (Only kinds.LineString) = refl
kind-again (Only kinds.Polygon) = refl
kind-again (Only kinds.MultiPoint) = refl
kind-again (Only kinds.MultiLineString) = refl
kind-again (Only kinds.MultiPolygon) = refl

layer-again : (row : RowReading) (earlier : Content) (entry : List ℕ × LayerContent) → HasRows row entry.1 → IsTrue (is_name entry.0) → layer_of earlier entry.0 ≡ None → IsLayer entry.1
    → Again (layer row earlier) (layer_bytes entry) entry
layer-again row earlier entry stored named free is =
    let title = entry.0 in
    let l = entry.1 in
    let t7 = flat_map (feature_bytes l.columns) l.features in
    let t6 = big_bytes 4 (length l.features) ++ t7 in
    let t5 = flat_map column_bytes l.columns ++ t6 in
    let t4 = big_bytes 2 (length l.columns) ++ t5 in
    let t3 = big_bytes 2 l.next_column ++ t4 in
    let t2 = big_bytes 4 l.next_id ++ t3 in
    let t1 = big_bytes 1 (kind_byte l.kind) ++ t2 in
    Again-then (field name (fresh_layer_name earlier)) (layer_after_name row) (behind_length 1 title) t1 title entry
    (Again-field name (fresh_layer_name earlier) (behind_length 1 title) title title (name-again title named) (allowed-ok _ LayerExists title (ap (λ o. not (is_some o)) free)))
    (Again-then (field (number 1) (λ byte. present (kind_of_byte byte) WrongKind)) (layer_after_kind row title) (big_bytes 1 (kind_byte l.kind)) t2 l.kind entry
    (Again-number_field 1 (kind_byte l.kind) (λ byte. present (kind_of_byte byte) WrongKind) l.kind (omega (arith, kind_byte-fits l.kind)) (kind-again l.kind))
    (Again-then (field (number 4) (λ n. allowed (nat_lt 0 n) IdsExhausted n)) (layer_after_next_id row title l.kind) (big_bytes 4 l.next_id) t3 l.next_id entry
    (Again-number_field 4 l.next_id (λ n. allowed (nat_lt 0 n) IdsExhausted n) l.next_id (omega (arith, is.next_id.1)) (allowed-ok _ IdsExhausted l.next_id (lt-ltb 0 l.next_id (omega (arith, is.next_id.0)))))
    (Again-then (field (number 2) (λ n. allowed (nat_lt 0 n) ColumnsExhausted n)) (layer_after_next_column row title l.kind l.next_id) (big_bytes 2 l.next_column) t4 l.next_column entry
    (Again-number_field 2 l.next_column (λ n. allowed (nat_lt 0 n) ColumnsExhausted n) l.next_column (omega (arith, is.next_column.1)) (allowed-ok _ ColumnsExhausted l.next_column (lt-ltb 0 l.next_column (omega (arith, is.next_column.0)))))
    (Again-then (field (number 2) (λ n. allowed (nat_lt n l.next_column) ColumnsExhausted n)) (layer_after_column_count row title l.kind l.next_id l.next_column) (big_bytes 2 (length l.columns)) t5 (length l.columns) entry
    (Again-number_field 2 (length l.columns) (λ n. allowed (nat_lt n l.next_column) ColumnsExhausted n) (length l.columns) (omega (arith, column-count l is, is.next_column.1)) (allowed-ok _ ColumnsExhausted (length l.columns) (lt-ltb _ _ (column-count l is))))
    (Again-then (items (column l.next_column) (length l.columns) []) (layer_after_columns row title l.kind l.next_id l.next_column) (flat_map column_bytes l.columns) t6 l.columns entry
    (Again-items (column l.next_column) column_bytes [] l.columns (columns-again l.next_column [] l.columns is.next_column.1 is.columns is.column_names is.column_numbers))
    (Again-then (field (number 4) (λ n. allowed (nat_lt n l.next_id) IdsExhausted n)) (layer_after_feature_count row title l.kind l.next_id l.next_column l.columns) (big_bytes 4 (length l.features)) t7 (length l.features) entry
    (Again-number_field 4 (length l.features) (λ n. allowed (nat_lt n l.next_id) IdsExhausted n) (length l.features) (omega (arith, feature-count l is, is.next_id.1)) (allowed-ok _ IdsExhausted (length l.features) (lt-ltb _ _ (feature-count l is))))
    (Again-made (items (feature row l.kind l.next_id l.columns) (length l.features) []) (λ features. (title, record { kind = l.kind; next_id = l.next_id; next_column = l.next_column; columns = l.columns; features = features })) t7 l.features
    (Again-items (feature row l.kind l.next_id l.columns) (feature_bytes l.columns) [] l.features (features-again row l [] l.features stored is is.ids is.features is.rising)))))))))

layers-again : (row : RowReading) (earlier entries : Content) → AllByRecursion (HasRows row) (values_of entries) → AllByRecursion (λ name. IsTrue (is_name name)) (keys_of entries) → IsDistinct bytes_eq (keys_of (earlier ++ entries))
    → AllByRecursion IsLayer (values_of entries) → EachAgain (layer row) layer_bytes earlier entries
layers-again row earlier [] stored named distinct all = tt
layers-again row earlier (entry ∷ entries) stored named distinct all =
    let regrouped : earlier ++ entry ∷ entries ≡ (earlier ++ entry ∷ []) ++ entries = sym (append_assoc earlier (entry ∷ []) entries) in (
      layer-again row earlier entry stored.0 named.0 (lookup-none entry.0 earlier (distinct-fresh bytes_eq (λ e. e.0) earlier entry entries distinct)) all.0,
      layers-again row (earlier ++ entry ∷ []) entries stored.1 named.1 (subst (λ (all : Content). IsDistinct bytes_eq (keys_of all)) regrouped distinct) all.1,
    )

pub content-again : (row : RowReading) (content : Content) → AllByRecursion (HasRows row) (values_of content) → IsWellFormed content → Again (layers row) (layers_bytes content) content
content-again row content stored is =
    Again-then (field (number 4) (λ n. allowed (nat_le n layers_max) IdsExhausted n)) (λ count. items (layer row) count []) (big_bytes 4 (length content)) (flat_map layer_bytes content) (length content) content
    (Again-number_field 4 (length content) _ (length content) (omega (arith, is.few)) (allowed-ok _ IdsExhausted (length content) (le-leb _ _ is.few)))
    (Again-items (layer row) layer_bytes [] content (layers-again row [] content stored is.named is.distinct is.layers))

-- ---- the whole file

-- what follows the first bytes is read again, where those are read: layers and rules
whole-again : (version : Version) (front tail : List ℕ) (content : Content) (kept : List Rule) → Again head front version → Again (layers (read_in (grid_of version))) (layers_bytes content) content
    → Again (rules_in version content) tail kept → ruled_content_of (front ++ (layers_bytes content ++ tail)) ≡ Ok (record { content = content; rules = kept })
whole-again version front tail content kept first second third =
    let text = layers_bytes content in
    let place : ℕ = 0 + length front in
    let behind : ℕ = place + length text in
    ap value_of (ap (λ r. and_then r file_after_head) (first 0 (text ++ tail))
    ∙ ap (λ r. and_then r (file_after_layers version)) (second place tail)
    ∙ ap (λ (t : List ℕ). file_after_layers version content (at behind t)) (sym (append-nil tail))
    ∙ ap (λ r. and_then r (file_after_rules content)) (third behind []))

-- the same where no rules follow
plain-again : (version : Version) (front : List ℕ) (content : Content) → Again head front version → Again (layers (read_in (grid_of version))) (layers_bytes content) content
    → Again (rules_in version content) [] [] → ruled_content_of (front ++ layers_bytes content) ≡ Ok (record { content = content; rules = [] })
plain-again version front content first second third =
    ap (λ (t : List ℕ). ruled_content_of (front ++ t)) (sym (append-nil (layers_bytes content))) ∙ whole-again version front [] content [] first second third

second-head : Again head (codes "SFSTORE2" ++ 24 ∷ []) Second
second-head = Again-then (field (bytes 8) version_of) on_grid (codes "SFSTORE2") (24 ∷ []) Second Second
    (Again-field (bytes 8) version_of (codes "SFSTORE2") (codes "SFSTORE2") Second (Again-bytes 8 (codes "SFSTORE2") refl) refl)
    (Again-number_field 1 24 (λ byte. allowed (nat_eq byte 24) BadFile Second) Second (omega arith) refl)

third-head : Again head (codes "SFSTORE3" ++ 24 ∷ []) Third
third-head = Again-then (field (bytes 8) version_of) on_grid (codes "SFSTORE3") (24 ∷ []) Third Third
    (Again-field (bytes 8) version_of (codes "SFSTORE3") (codes "SFSTORE3") Third (Again-bytes 8 (codes "SFSTORE3") refl) refl)
    (Again-number_field 1 24 (λ byte. allowed (nat_eq byte 24) BadFile Third) Third (omega arith) refl)

fourth-head : Again head (codes "SFSTORE4" ++ 31 ∷ []) Fourth
fourth-head = Again-then (field (bytes 8) version_of) on_grid (codes "SFSTORE4") (31 ∷ []) Fourth Fourth
    (Again-field (bytes 8) version_of (codes "SFSTORE4") (codes "SFSTORE4") Fourth (Again-bytes 8 (codes "SFSTORE4") refl) refl)
    (Again-number_field 1 31 (λ byte. allowed (nat_eq byte 31) BadFile Fourth) Fourth (omega arith) refl)

first-head : Again head (codes "SFSTORE1") First
first-head place rest = ap (λ r. and_then r on_grid) (Again-field (bytes 8) version_of (codes "SFSTORE1") (codes "SFSTORE1") First (Again-bytes 8 (codes "SFSTORE1") refl) refl place rest)

-- the layers and the rules of a well-formed content with rules, of a version that has both, behind its head
ruled-again : (version : Version) (front : List ℕ) (ruled : Ruled) → Again head front version → IsRuledWell ruled → AllByRecursion (HasRows (read_in (grid_of version))) (values_of ruled.content)
    → AllByRecursion (λ r. MayHave version r.says) ruled.rules → ((content : Content) → rules_in version content ≡ rules version content) → ruled_content_of (front ++ (layers_bytes ruled.content ++ rules_bytes ruled.rules)) ≡ Ok ruled
ruled-again version front ruled first is rows may same =
    whole-again version front (rules_bytes ruled.rules) ruled.content ruled.rules first (content-again (read_in (grid_of version)) ruled.content rows is.content)
    (subst (λ (read : Reading (List Rule)). Again read (rules_bytes ruled.rules) ruled.rules) (sym (same ruled.content))
    (rules-again version ruled.content ruled.rules is.content is.settled.named.few is.rules may is.settled.named.distinct is.settled.there is.settled.held))

pub ruled-loads : RuledBytesLoad
ruled-loads ruled is = ruled-again Fourth front ruled fourth-head is (wide-rows ruled.content is.content) (any-may ruled.rules) (λ content. refl)

pub third-canonical-loads : ThirdCanonicalBytesLoad
third-canonical-loads ruled is of on =
    ruled-again Third (codes "SFSTORE3" ++ 24 ∷ []) ruled third-head is (narrow-rows Bits24 ruled.content is.content on) (layers-may ruled.rules of) (λ content. refl)

-- a content without rules
plain-loads : (content : Content) → IsWellFormed content → ruled_content_of (canonical content) ≡ Ok (record { content = content; rules = [] })
plain-loads content is =
    whole-again Fourth front (rules_bytes []) content [] fourth-head (content-again (read_in Bits31) content (wide-rows content is) is)
    (rules-again Fourth content [] is (omega arith) tt tt tt refl refl)

pub canonical-loads : CanonicalBytesLoad
canonical-loads content is = ap content_in (plain-loads content is)

-- a version without rules, behind its head
earlier-loads : (version : Version) (grid : Grid) (front : List ℕ) (content : Content) → Again head front version → grid_of version ≡ grid → rules_in version content ≡ done {T = List Rule} []
    → IsWellFormed content → AreIn grid content → content_of (front ++ layers_bytes content) ≡ Ok content
earlier-loads version grid front content first same none is on =
    ap content_in (plain-again version front content first
    (content-again (read_in (grid_of version)) content (narrow-rows (grid_of version) content is (subst (λ g. AreIn g content) (sym same) on)) is)
    (subst (λ (read : Reading (List Rule)). Again read [] []) (sym none) (Again-done {T = List Rule} [])))

pub first-canonical-loads : FirstCanonicalBytesLoad
first-canonical-loads content is on = earlier-loads First Bits20 (codes "SFSTORE1") content first-head refl refl is on

pub second-canonical-loads : SecondCanonicalBytesLoad
second-canonical-loads content is on = earlier-loads Second Bits24 (codes "SFSTORE2" ++ 24 ∷ []) content second-head refl refl is on

done_is : (a b : Content) → ◌≡◌ {A = Result Content Fault} (Ok a) (Ok b) → a ≡ b
done_is a b same = cc

pub canonical-differ : CanonicalBytesDiffer
canonical-differ a b a_is b_is same = done_is a b (sym (canonical-loads a a_is) ∙ ap content_of same ∙ canonical-loads b b_is)

ruled_is : (a b : Ruled) → ◌≡◌ {A = Result Ruled Fault} (Ok a) (Ok b) → a ≡ b
ruled_is a b same = cc

pub ruled-differ : RuledBytesDiffer
ruled-differ a b a_is b_is same = ruled_is a b (sym (ruled-loads a a_is) ∙ ap ruled_content_of same ∙ ruled-loads b b_is)
