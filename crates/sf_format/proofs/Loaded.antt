-- Only well-formed contents have files: what each reading of the format promises of its value.
use Rattle.std.proofs.Common.{◌≡◌, ℕ, ◌^◌, ◌<◌, ◌≤◌, Bool, true, false, cond, ◌&&◌, ◌||◌, List, [], ◌∷◌, ◌++◌, map, length, Option, Some, None, IsTrue, Result, Ok, Err, bytes_eq, nat_eq, refl, sym, ap, subst, ◌∙◌, arith}
use Rattle.std.specs.Prelude.{IfOk, IsSomeAnd, find, nat_lt, nat_le}
use Rattle.std.specs.List.{list_any, AllByRecursion}
use Rattle.std.specs.List.Sorted.{IsStrictlySortedBy}
use Rattle.std.specs.Map.{keys_of, values_of}
use Rattle.std.specs.Ordering.{nat_cmp}
use Rattle.std.specs.Cmp.Lexicographic.{nat_list_eq_equiv}
use Rattle.std.specs.declared.cmp.Ordering.TheVariants.{Less, Equal, Greater}
use Rattle.std.proofs.lemmas.Bool.{leb-true, lt-ltb, ltb-true, eqb-true}
use Rattle.sf_geometry.specs.declared.geometry.Geometry.{Geometry}
use Rattle.sf_geometry.specs.Kinds.{kind_of}
use Rattle.sf_geometry.specs.Parts.{LiesOnGrid}
use Rattle.sf_geometry.specs.Size.{IsSized}
use Rattle.sf_valid_rules.specs.declared.fault.Fault.{Fault as ShapeFault}
use Rattle.sf_valid_rules.specs.Validity.{IsVerdict, IsValid}
use Rattle.sf_valid_rules.specs.Verdicts.{first_fault}
use Rattle.sf_valid_rules.proofs.FirstLaws.{first_fault-over_plane}
use Rattle.sf_wkb.specs.declared.fault.WkbFault.{WkbFault}
use Rattle.sf_wkb.specs.Grammar.{read_in}
use Rattle.sf_wkb.proofs.Sized.{read_is_sized}
use Rattle.sf_features.specs.declared.column.Column.{Column}
use Rattle.sf_features.specs.declared.attr_value.AttrValue.{AttrValue}
use Rattle.sf_features.specs.Names.{is_name}
use Rattle.sf_features.specs.Columns.{IsDistinct, named, numbered}
use Rattle.sf_features.specs.Features.{FeatureContent}
use Rattle.sf_features.specs.Values.{is_of_type}
use Rattle.sf_layers.specs.declared.layer_kind.LayerKind.{LayerKind}
use Rattle.sf_layers.specs.Content.{Content, LayerContent, layer_of, admits}
use Rattle.sf_layers.specs.WellFormed.{IsIssued, IsColumn, IsValue, IsFeature, IsLayer, IsWellFormed, layers_max}
use Rattle.sf_layers.proofs.Issued.{all-push}
use Rattle.sf_layers.proofs.Kept.{none-from}
use Rattle.sf_ruled_store.specs.Ruling.{Rule}
use Rattle.sf_ruled_store.proofs.RuledLaws.{is_settled-kept}
use Rattle.sf_ruled_store.specs.Ruled.{Ruled}
use Rattle.sf_streams.specs.Streams.{Left}
use Rattle.sf_format.specs.declared.version.Version.{Version}
use Rattle.sf_format.specs.declared.version.Version.TheVariants.{First, Second, Third, Fourth}
use Rattle.sf_format.specs.declared.defect.Defect.{Defect}
use Rattle.sf_format.specs.declared.defect.Defect.TheVariants.{TooManyVertices, LayerExists, NoColumn, ColumnExists, WrongValue, WrongKind, IdsExhausted, ColumnsExhausted, BadFile}
use Rattle.sf_format.specs.Readings.{Fault, Reads, done, bytes, field, number, sized, items, end}
use Rattle.sf_format.specs.Laws.{AreBytes, FilesAreRuledWell, FilesAreWellFormed, IsRule, IsRuledWell, RulesOfFilesHold}
use Rattle.sf_format.specs.Format.{RowReading, row_max, allowed, present, last_number, name, kind_of_byte, type_of_byte, fresh_number, fresh_column_name, column, without_fault, admitted, geometry, typed_value, next_column_of, value, next_of, feature, fresh_layer_name, layer, layers, content_in, head, version_of, on_grid, grid_of, rules_in, ruled_content_of, file, value_of}
use Rattle.sf_format.proofs.Again.{at}
use Rattle.sf_format.proofs.Values.{typed-promises}
use Rattle.sf_format.proofs.Continuations.{column_after_type, column_after_number, value_after_column, geometry_after_size, feature_after_count, feature_after_geometry, feature_after_id, layer_after_feature_count, layer_after_columns, layer_after_column_count, layer_after_next_column, layer_after_next_id, layer_after_kind, layer_after_name, file_after_head, file_after_layers, file_after_rules}
use Rattle.sf_format.proofs.Counts.{below_from_cmp}
use Rattle.sf_format.proofs.Pushed.{all-more, distinct-push, items-length, name-promises}
use Rattle.sf_format.proofs.RulesLoaded.{none-broken, rules-in-promise}
use Rattle.sf_format.proofs.Rules.{allowed_of, both_of, none_of, not_true, present_of}
use Rattle.sf_format.proofs.Promises.{Promises, Promises-bytes, Promises-done, Promises-field, Promises-items, Promises-rule, Promises-then, and_then_ok}

-- ---- what stands before

any-from_find : {X : Type 0} (test : X → Bool) (xs : List X) → find test xs ≡ None → list_any test xs ≡ false
any-from_find test [] e = refl
any-from_find {X} test (x ∷ xs) e = by_test (test x) (any-from_find test xs) e
  where
    by_test : (b : Bool) → (find test xs ≡ None → list_any test xs ≡ false) → cond b (Some x) (find test xs) ≡ None → (b || list_any test xs) ≡ false
    by_test true later e = absurd cc
    by_test false later e = later e

-- ---- one more at the end

less : (m n : ℕ) → m < n → nat_cmp m n ≡ Less
less m n h = ap (λ b. cond b Less (cond (nat_eq m n) Equal Greater)) (lt-ltb m n h)

rising-push : {X : Type 0} (es : List (ℕ × X)) (x : ℕ × X) → IsStrictlySortedBy nat_cmp (keys_of es) → last_number es < x.0 → IsStrictlySortedBy nat_cmp (keys_of (es ++ x ∷ []))
unfolding IsStrictlySortedBy
rising-push [] x rising above = (tt, tt)
rising-push (e ∷ []) x rising above = ((less e.0 x.0 above, tt), (tt, tt))
rising-push {X = X} (e ∷ (next ∷ more)) x rising above =
    let later = rising-push (next ∷ more) x rising.1 above in
    (all-push (λ y. nat_cmp e.0 y ≡ Less) (λ entry. entry.0) (next ∷ more) x rising.0 (less e.0 x.0 (omega (arith, below_from_cmp e.0 next.0 rising.0.0, first-below next more x later))), later)
  where
    first-below : (next : ℕ × X) (more : List (ℕ × X)) (x : ℕ × X) → IsStrictlySortedBy nat_cmp (keys_of ((next ∷ more) ++ x ∷ [])) → next.0 < x.0
    first-below next more x sorted = at_end more sorted.0
      where
        at_end : (ys : List (ℕ × X)) → AllByRecursion (λ y. nat_cmp next.0 y ≡ Less) (keys_of (ys ++ x ∷ [])) → next.0 < x.0
        at_end [] h = below_from_cmp next.0 x.0 h.0
        at_end (y ∷ ys) h = at_end ys h.1

-- ---- names and columns

any-from_named : (title : List ℕ) (columns : List Column) → named columns title ≡ None → list_any (λ e. bytes_eq e.name title) columns ≡ false
any-from_named title [] h = refl
any-from_named title (c ∷ cs) h = by_test (any-from_named title cs) (bytes_eq title c.name) refl h
  where
    by_test : (named cs title ≡ None → list_any (λ e. bytes_eq e.name title) cs ≡ false) → (b : Bool) → b ≡ bytes_eq title c.name → cond b (Some c) (named cs title) ≡ None
        → (bytes_eq c.name title || list_any (λ e. bytes_eq e.name title) cs) ≡ false
    by_test later true is h = absurd cc
    by_test later false is h = none-from (bytes_eq c.name title) (list_any (λ e. bytes_eq e.name title) cs) (nat_list_eq_equiv.symm c.name title ∙ sym is) (later h)

abbrev pub IsFresh : ℕ → List Column → ℕ → Type 0
IsFresh next earlier n = IsIssued next n × (list_any (λ e. nat_eq e.number n) earlier ≡ false)

fresh_number-says : (next : ℕ) (earlier : List Column) (n y : ℕ) → fresh_number next earlier n ≡ Ok y → IsFresh next earlier y
fresh_number-says next earlier n y e =
    let r = allowed_of _ ColumnsExhausted n y e in
    let outer = both_of (nat_lt 0 n && nat_lt n next) _ r.0 in
    let inner = both_of (nat_lt 0 n) (nat_lt n next) outer.0 in
    let low : 0 < n = ltb-true 0 n inner.0 in
    subst (IsFresh next earlier) r.1 ((omega (arith, low), ltb-true n next inner.1), any-from_find (λ e. nat_eq e.number n) earlier (none_of (numbered earlier n) (not_true _ outer.1)))

abbrev pub IsNewColumn : ℕ → List Column → Column → Type 0
IsNewColumn next earlier c = IsColumn next c × (list_any (λ e. bytes_eq e.name c.name) earlier ≡ false) × (list_any (λ e. nat_eq e.number c.number) earlier ≡ false)

pub column-promises : (next : ℕ) (earlier : List Column) → Promises (column next earlier) (IsNewColumn next earlier)
column-promises next earlier =
    Promises-then (field (number 2) (fresh_number next earlier)) (column_after_number earlier) (IsFresh next earlier) (IsNewColumn next earlier)
    (Promises-rule 2 (fresh_number next earlier) (IsFresh next earlier) (λ n y fits e. fresh_number-says next earlier n y e))
    (λ n fresh. Promises-then (field (number 1) (λ byte. present (type_of_byte byte) WrongValue)) (column_after_type earlier n) (λ t. Unit {0}) (IsNewColumn next earlier)
    (Promises-rule 1 (λ byte. present (type_of_byte byte) WrongValue) (λ t. Unit {0}) (λ b y fits e. tt))
    (λ t any. Promises-then (field name (fresh_column_name earlier)) (λ text. done (record { number = n; name = text; column_type = t }))
    (λ text. IsTrue (is_name text) × (list_any (λ e. bytes_eq e.name text) earlier ≡ false)) (IsNewColumn next earlier)
    (Promises-field name (fresh_column_name earlier) (λ text. IsTrue (is_name text)) (λ text. IsTrue (is_name text) × (list_any (λ e. bytes_eq e.name text) earlier ≡ false)) name-promises
    (λ x y is e. let r = allowed_of _ ColumnExists x y e in subst (λ t. IsTrue (is_name t) × (list_any (λ e. bytes_eq e.name t) earlier ≡ false)) r.1 (is, any-from_named x earlier (none_of (named earlier x) (not_true _ r.0)))))
    (λ text is. Promises-done (IsNewColumn next earlier) (record { number = n; name = text; column_type = t }) ((is.0, fresh.0), is.1, fresh.1))))

abbrev pub AreColumns : ℕ → List Column → Type 0
AreColumns next cs = AllByRecursion (IsColumn next) cs × IsDistinct bytes_eq (map (λ c. c.name) cs) × IsDistinct nat_eq (map (λ c. c.number) cs)

pub columns-promise : (next count : ℕ) → Promises (items (column next) count []) (AreColumns next)
columns-promise next count = Promises-items (column next) (AreColumns next)
    (λ earlier are left c rest fits e. let p = column-promises next earlier left c rest fits e in
    ((all-more (IsColumn next) earlier c are.0 p.0.0, distinct-push bytes_eq (λ c. c.name) earlier c are.1 p.0.1, distinct-push nat_eq (λ c. c.number) earlier c are.2 p.0.2), p.1))
    count [] (tt, tt, tt)

-- ---- values

-- what the rule of a column number found
abbrev pub IsColumnAbove : List Column → ℕ → Column → Type 0
IsColumnAbove columns before c = (before < c.number) × (numbered columns c.number ≡ Some c)

column-above : (columns : List Column) (before n : ℕ) (c : Column) → next_column_of columns before n ≡ Ok c → IsColumnAbove columns before c
column-above columns before n c e = by_test (number-found columns) (nat_lt before n) refl (present_of _ NoColumn c e)
  where
    number-found : (cs : List Column) → numbered cs n ≡ Some c → c.number ≡ n
    number-found [] h = absurd cc
    number-found (d ∷ cs) h = pick (number-found cs) (nat_eq d.number n) refl h
      where
        pick : (numbered cs n ≡ Some c → c.number ≡ n) → (b : Bool) → b ≡ nat_eq d.number n → cond b (Some d) (numbered cs n) ≡ Some c → c.number ≡ n
        pick later true is h = let same : d ≡ c = cc in ap (λ x. x.number) (sym same) ∙ eqb-true d.number n (sym is)
        pick later false is h = later h

    by_test : (numbered columns n ≡ Some c → c.number ≡ n) → (b : Bool) → b ≡ nat_lt before n → cond b (numbered columns n) None ≡ Some c → IsColumnAbove columns before c
    by_test found true is h = let same = found h in (subst (λ m. before < m) (sym same) (ltb-true before n (sym is)), ap (numbered columns) same ∙ h)
    by_test found false is h = absurd cc

abbrev pub IsNextValue : List Column → List (ℕ × AttrValue) → ℕ × AttrValue → Type 0
IsNextValue columns earlier v = IsValue columns v × (last_number earlier < v.0)

pub value-promises : (columns : List Column) (earlier : List (ℕ × AttrValue)) → Promises (value columns earlier) (IsNextValue columns earlier)
value-promises columns earlier =
    Promises-then (field (number 2) (next_column_of columns (last_number earlier))) value_after_column (IsColumnAbove columns (last_number earlier)) (IsNextValue columns earlier)
    (Promises-rule 2 (next_column_of columns (last_number earlier)) (IsColumnAbove columns (last_number earlier)) (λ n c fits e. column-above columns (last_number earlier) n c e))
    (λ c above. Promises-then (typed_value c.column_type) (λ content. done (c.number, content)) (λ v. IsTrue (is_of_type c.column_type v)) (IsNextValue columns earlier) (typed-promises c.column_type)
    (λ v is. Promises-done (IsNextValue columns earlier) (c.number, v) (subst (λ o. IsSomeAnd o (λ d. IsTrue (is_of_type d.column_type v))) (sym above.1) is, above.0)))

abbrev pub AreValues : List Column → List (ℕ × AttrValue) → Type 0
AreValues columns vs = AllByRecursion (IsValue columns) vs × IsStrictlySortedBy nat_cmp (keys_of vs)

nothing-rises : IsStrictlySortedBy nat_cmp []
unfolding IsStrictlySortedBy
nothing-rises = tt

pub values-promise : (columns : List Column) (count : ℕ) → Promises (items (value columns) count []) (AreValues columns)
values-promise columns count = Promises-items (value columns) (AreValues columns)
    (λ earlier are left v rest fits e. let p = value-promises columns earlier left v rest fits e in
    ((all-more (IsValue columns) earlier v are.0 p.0.0, rising-push earlier v are.1 p.0.1), p.1))
    count [] (tt, nothing-rises)

-- ---- features

-- what is read of binary geometries is sized and on the grid
abbrev pub GivesSized : RowReading → Type 0
GivesSized row = (text : List ℕ) → IfOk (row text) (λ g. IsSized g × LiesOnGrid g)

abbrev pub IsAdmitted : LayerKind → Geometry → Type 0
IsAdmitted kind g = IsTrue (admits kind (kind_of g)) × IsValid g × LiesOnGrid g

admitted-is : (kind : LayerKind) (r : Result Geometry WkbFault) (g : Geometry) → IfOk r (λ g. IsSized g × LiesOnGrid g) → admitted kind r ≡ Ok g → IsAdmitted kind g
admitted-is kind (Err fault) g is e = absurd cc
admitted-is kind (Ok h) g is e = by_test (admits kind (kind_of h)) refl e
  where
    faultless : (o : Option ShapeFault) → IsVerdict h o → without_fault h o ≡ Ok g → (h ≡ g) × IsValid h
    faultless None valid e = (cc, valid)
    faultless (Some fault) verdict e = absurd cc

    by_test : (b : Bool) → b ≡ admits kind (kind_of h) → cond b (without_fault h (first_fault h)) (Err WrongKind) ≡ Ok g → IsAdmitted kind g
    by_test true admits e =
        let found = faultless (first_fault h) (first_fault-over_plane h is.0) e in
        subst (IsAdmitted kind) found.0 (sym admits, found.1, is.1)
    by_test false admits e = absurd cc

pub geometry-promises : (row : RowReading) → GivesSized row → (kind : LayerKind) → Promises (geometry row kind) (IsAdmitted kind)
geometry-promises row sized kind =
    Promises-then (field (number 4) (λ size. allowed (nat_le size row_max) TooManyVertices size)) (geometry_after_size row kind) (λ n. Unit {0}) (IsAdmitted kind)
    (Promises-rule 4 (λ size. allowed (nat_le size row_max) TooManyVertices size) (λ n. Unit {0}) (λ n y fits e. tt))
    (λ size any. Promises-field (bytes size) (λ text. admitted kind (row text)) AreBytes (IsAdmitted kind) (Promises-bytes size) (λ x y fits e. admitted-is kind (row x) y (sized x) e))

abbrev pub IsNext : ℕ → ℕ → ℕ → Type 0
IsNext next_id before n = (before < n) × (n < next_id)

abbrev pub IsNextFeature : LayerKind → ℕ → List Column → List (ℕ × FeatureContent) → ℕ × FeatureContent → Type 0
IsNextFeature kind next_id columns earlier f = IsNext next_id (last_number earlier) f.0 × IsFeature kind columns f.1

pub feature-promises : (row : RowReading) → GivesSized row → (kind : LayerKind) (next_id : ℕ) (columns : List Column) (earlier : List (ℕ × FeatureContent))
    → Promises (feature row kind next_id columns earlier) (IsNextFeature kind next_id columns earlier)
feature-promises row sized kind next_id columns earlier =
    Promises-then (field (number 4) (next_of next_id (last_number earlier))) (feature_after_id row kind columns) (IsNext next_id (last_number earlier)) (IsNextFeature kind next_id columns earlier)
    (Promises-rule 4 (next_of next_id (last_number earlier)) (IsNext next_id (last_number earlier)) (λ n y fits e.
    let r = allowed_of _ IdsExhausted n y e in
    let parts = both_of (nat_lt (last_number earlier) n) (nat_lt n next_id) r.0 in
    subst (IsNext next_id (last_number earlier)) r.1 (ltb-true _ n parts.0, ltb-true n next_id parts.1)))
    (λ id is. Promises-then (geometry row kind) (feature_after_geometry columns id) (IsAdmitted kind) (IsNextFeature kind next_id columns earlier) (geometry-promises row sized kind)
    (λ g fit. Promises-then (field (number 2) (λ n. allowed (nat_le n (length columns)) NoColumn n)) (feature_after_count columns id g) (λ n. Unit {0}) (IsNextFeature kind next_id columns earlier)
    (Promises-rule 2 (λ n. allowed (nat_le n (length columns)) NoColumn n) (λ n. Unit {0}) (λ n y fits e. tt))
    (λ count any. Promises-then (items (value columns) count []) (λ vs. done (id, record { geometry = g; values = vs })) (AreValues columns) (IsNextFeature kind next_id columns earlier) (values-promise columns count)
    (λ vs are. Promises-done (IsNextFeature kind next_id columns earlier) (id, record { geometry = g; values = vs })
    (is, record { admitted = fit.0; valid = fit.1; on_grid = fit.2; rising = are.1; values = are.0 })))))

abbrev pub AreFeatures : LayerKind → ℕ → List Column → List (ℕ × FeatureContent) → Type 0
AreFeatures kind next_id columns fs = AllByRecursion (IsIssued next_id) (keys_of fs) × IsStrictlySortedBy nat_cmp (keys_of fs) × AllByRecursion (IsFeature kind columns) (values_of fs)

pub features-promise : (row : RowReading) → GivesSized row → (kind : LayerKind) (next_id : ℕ) (columns : List Column) (count : ℕ)
    → Promises (items (feature row kind next_id columns) count []) (AreFeatures kind next_id columns)
features-promise row sized kind next_id columns count = Promises-items (feature row kind next_id columns) (AreFeatures kind next_id columns)
    (λ earlier are left f rest fits e. let p = feature-promises row sized kind next_id columns earlier left f rest fits e in
    ((all-push (IsIssued next_id) (λ entry. entry.0) earlier f are.0 (omega (arith, p.0.0.0), p.0.0.1), rising-push earlier f are.1 p.0.0.0, all-push (IsFeature kind columns) (λ entry. entry.1) earlier f are.2 p.0.1), p.1))
    count [] (tt, nothing-rises, tt)

-- ---- layers

abbrev pub IsNewLayer : Content → List ℕ × LayerContent → Type 0
IsNewLayer earlier entry = IsTrue (is_name entry.0) × (layer_of earlier entry.0 ≡ None) × IsLayer entry.1

abbrev pub IsNewTitle : Content → List ℕ → Type 0
IsNewTitle earlier title = IsTrue (is_name title) × (layer_of earlier title ≡ None)

pub layer-promises : (row : RowReading) → GivesSized row → (earlier : Content) → Promises (layer row earlier) (IsNewLayer earlier)
layer-promises row sized earlier =
    Promises-then (field name (fresh_layer_name earlier)) (layer_after_name row) (IsNewTitle earlier) (IsNewLayer earlier)
    (Promises-field name (fresh_layer_name earlier) (λ text. IsTrue (is_name text)) (IsNewTitle earlier) name-promises
    (λ x y named e. let r = allowed_of _ LayerExists x y e in subst (IsNewTitle earlier) r.1 (named, none_of (layer_of earlier x) (not_true _ r.0))))
    (λ title new. Promises-then (field (number 1) (λ byte. present (kind_of_byte byte) WrongKind)) (layer_after_kind row title) (λ k. Unit {0}) (IsNewLayer earlier)
    (Promises-rule 1 (λ byte. present (kind_of_byte byte) WrongKind) (λ k. Unit {0}) (λ n y fits e. tt))
    (λ kind any. Promises-then (field (number 4) (λ n. allowed (nat_lt 0 n) IdsExhausted n)) (layer_after_next_id row title kind) (λ n. (0 < n) × (n < 256 ^ 4)) (IsNewLayer earlier)
    (Promises-rule 4 (λ n. allowed (nat_lt 0 n) IdsExhausted n) (λ n. (0 < n) × (n < 256 ^ 4)) (λ n y fits e. let r = allowed_of _ IdsExhausted n y e in subst (λ n. (0 < n) × (n < 256 ^ 4)) r.1 (ltb-true 0 n r.0, fits)))
    (λ next_id ids. Promises-then (field (number 2) (λ n. allowed (nat_lt 0 n) ColumnsExhausted n)) (layer_after_next_column row title kind next_id) (λ n. (0 < n) × (n < 256 ^ 2)) (IsNewLayer earlier)
    (Promises-rule 2 (λ n. allowed (nat_lt 0 n) ColumnsExhausted n) (λ n. (0 < n) × (n < 256 ^ 2)) (λ n y fits e. let r = allowed_of _ ColumnsExhausted n y e in subst (λ n. (0 < n) × (n < 256 ^ 2)) r.1 (ltb-true 0 n r.0, fits)))
    (λ next_column numbers. Promises-then (field (number 2) (λ n. allowed (nat_lt n next_column) ColumnsExhausted n)) (layer_after_column_count row title kind next_id next_column) (λ n. Unit {0}) (IsNewLayer earlier)
    (Promises-rule 2 (λ n. allowed (nat_lt n next_column) ColumnsExhausted n) (λ n. Unit {0}) (λ n y fits e. tt))
    (λ column_count any. Promises-then (items (column next_column) column_count []) (layer_after_columns row title kind next_id next_column) (AreColumns next_column) (IsNewLayer earlier) (columns-promise next_column column_count)
    (λ columns are. Promises-then (field (number 4) (λ n. allowed (nat_lt n next_id) IdsExhausted n)) (layer_after_feature_count row title kind next_id next_column columns) (λ n. Unit {0}) (IsNewLayer earlier)
    (Promises-rule 4 (λ n. allowed (nat_lt n next_id) IdsExhausted n) (λ n. Unit {0}) (λ n y fits e. tt))
    (λ count any. Promises-then (items (feature row kind next_id columns) count []) (λ fs. done (title, record { kind = kind; next_id = next_id; next_column = next_column; columns = columns; features = fs }))
    (AreFeatures kind next_id columns) (IsNewLayer earlier) (features-promise row sized kind next_id columns count)
    (λ fs features. Promises-done (IsNewLayer earlier) (title, record { kind = kind; next_id = next_id; next_column = next_column; columns = columns; features = fs }) (
      new.0,
      new.1,
      record {
        next_id = (omega (arith, ids.0), omega (arith, ids.1));
        next_column = (omega (arith, numbers.0), omega (arith, numbers.1));
        columns = are.0;
        column_names = are.1;
        column_numbers = are.2;
        rising = features.1;
        ids = features.0;
        features = features.2;
      },
    )))))))))

abbrev pub AreLayers : Content → Type 0
AreLayers content = AllByRecursion (λ title. IsTrue (is_name title)) (keys_of content) × IsDistinct bytes_eq (keys_of content) × AllByRecursion IsLayer (values_of content)

-- no layer has the name
any-from_lookup : (title : List ℕ) (content : Content) → layer_of content title ≡ None → list_any (λ e. bytes_eq e.0 title) content ≡ false
any-from_lookup title [] h = refl
any-from_lookup title (e ∷ es) h = by_test (any-from_lookup title es) (bytes_eq title e.0) refl h
  where
    by_test : (layer_of es title ≡ None → list_any (λ e. bytes_eq e.0 title) es ≡ false) → (b : Bool) → b ≡ bytes_eq title e.0 → cond b (Some e.1) (layer_of es title) ≡ None
        → (bytes_eq e.0 title || list_any (λ e. bytes_eq e.0 title) es) ≡ false
    by_test later true is h = absurd cc
    by_test later false is h = none-from (bytes_eq e.0 title) (list_any (λ e. bytes_eq e.0 title) es) (nat_list_eq_equiv.symm e.0 title ∙ sym is) (later h)

pub layers-promise : (row : RowReading) → GivesSized row → (count : ℕ) → Promises (items (layer row) count []) AreLayers
layers-promise row sized count = Promises-items (layer row) AreLayers
    (λ earlier are left entry rest fits e. let p = layer-promises row sized earlier left entry rest fits e in (
      (
        all-push (λ title. IsTrue (is_name title)) (λ entry. entry.0) earlier entry are.0 p.0.0,
        distinct-push bytes_eq (λ entry. entry.0) earlier entry are.1 (any-from_lookup entry.0 earlier p.0.1),
        all-push IsLayer (λ entry. entry.1) earlier entry are.2 p.0.2,
      ),
      p.1,
    ))
    count [] (tt, tt, tt)

pub content-promises : (row : RowReading) → GivesSized row → Promises (layers row) IsWellFormed
content-promises row sized left content rest fits e =
    let rule : ℕ → Result ℕ Defect = λ n. allowed (nat_le n layers_max) IdsExhausted n in
    let s = and_then_ok (field (number 4) rule left) (λ count. items (layer row) count []) content rest e in
    let count = Promises-rule 4 rule (λ n. n ≤ layers_max) (λ n y fits e. let r = allowed_of _ IdsExhausted n y e in subst (λ n. n ≤ layers_max) r.1 (leb-true n layers_max r.0)) left s.0 s.1 fits s.2 in
    let are = layers-promise row sized s.0 s.1 content rest count.1 s.3 in
    let len = items-length (layer row) s.0 [] s.1 content rest s.3 in
    (record { few = omega (arith, len, count.0); named = are.0.0; distinct = are.0.1; layers = are.0.2 }, are.1)

-- ---- the whole file

value_of_ok : {T : Type 0} (r : Reads T) (x : T) → value_of r ≡ Ok x → (rest : Left) × (r ≡ Ok (x, rest))
value_of_ok (Ok y) x e = let same : y.0 ≡ x = cc in (y.1, ap (λ v. Ok (v, y.1)) same)
value_of_ok (Err fault) x e = absurd cc

done_of : (a b : Ruled) (mid rest : Left) → done a mid ≡ Ok (b, rest) → a ≡ b
done_of a b mid rest e = let pair : ◌≡◌ {A = Ruled × Left} (a, mid) (b, rest) = cc in ap (λ p. p.0) pair

-- what stands behind the head are bytes
grid-promises : (version : Version) → Promises (on_grid version) (λ v. Unit {0})
grid-promises First = Promises-done (λ v. Unit {0}) First tt
grid-promises Second = Promises-rule 1 (λ byte. allowed (nat_eq byte 24) BadFile Second) (λ v. Unit {0}) (λ x y fits e. tt)
grid-promises Third = Promises-rule 1 (λ byte. allowed (nat_eq byte 24) BadFile Third) (λ v. Unit {0}) (λ x y fits e. tt)
grid-promises Fourth = Promises-rule 1 (λ byte. allowed (nat_eq byte 31) BadFile Fourth) (λ v. Unit {0}) (λ x y fits e. tt)

head-promises : Promises head (λ version. Unit {0})
head-promises = Promises-then (field (bytes 8) version_of) on_grid (λ version. Unit {0}) (λ version. Unit {0})
    (Promises-field (bytes 8) version_of AreBytes (λ version. Unit {0}) (Promises-bytes 8) (λ x y fits e. tt)) (λ version any. grid-promises version)

names-of : (rules : List Rule) → AllByRecursion IsRule rules → AllByRecursion (λ rule. IsTrue (is_name rule.name)) rules
names-of [] are = tt
names-of (rule ∷ rules) are = (are.0.named, names-of rules are.1)

pub files-are-ruled-well : FilesAreRuledWell
files-are-ruled-well text ruled fits e =
    let whole = value_of_ok (file (at 0 text)) ruled e in
    let first = and_then_ok (head (at 0 text)) file_after_head ruled whole.0 whole.1 in
    let row = read_in (grid_of first.0) in
    let kept = head-promises (at 0 text) first.0 first.1 fits first.2 in
    let second = and_then_ok (layers row first.1) (file_after_layers first.0) ruled whole.0 first.3 in
    let good = content-promises row (read_is_sized (grid_of first.0)) first.1 second.0 second.1 kept.1 second.2 in
    let third = and_then_ok (rules_in first.0 second.0 second.1) (file_after_rules second.0) ruled whole.0 second.3 in
    let fine = rules-in-promise first.0 second.0 second.1 third.0 third.1 good.1 third.2 in
    let found : Ruled = record { content = second.0; rules = third.0 } in
    let fourth = and_then_ok (end third.1) (λ ended. done found) ruled whole.0 third.3 in
    subst IsRuledWell (done_of found ruled fourth.1 whole.0 fourth.3)
    (record {
      content = good.0;
      settled = record {
        named = record { few = fine.0.1; named = names-of third.0 fine.0.0.are; distinct = fine.0.0.distinct };
        there = fine.0.0.there;
        held = none-broken second.0 0 third.0 fine.0.0.held;
      };
      rules = fine.0.0.are;
    })

-- the content alone
content_in_ok : (r : Result Ruled Fault) (content : Content) → content_in r ≡ Ok content → (ruled : Ruled) × (r ≡ Ok ruled) × (ruled.content ≡ content)
content_in_ok (Ok ruled) content e = (ruled, refl, cc)
content_in_ok (Err fault) content e = absurd cc

pub files-are-well-formed : FilesAreWellFormed
files-are-well-formed text content fits e =
    let found = content_in_ok (ruled_content_of text) content e in
    subst IsWellFormed found.2 (files-are-ruled-well text found.0 fits found.1).content

-- ---- rules over the plane

pub rules-of-files-hold : RulesOfFilesHold
rules-of-files-hold text ruled fits e =
    let is = files-are-ruled-well text ruled fits e in
    is_settled-kept ruled is.content is.settled
