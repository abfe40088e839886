-- What a field that was read tells of its value.
use Rattle.std.proofs.Common.{◌≡◌, ℕ, Bool, true, false, not, ◌&&◌, List, [], ◌++◌, Option, Some, None, IsTrue, Result, Ok, Err, refl, sym, ap, subst, ◌∙◌}
use Rattle.std.specs.Prelude.{is_some, nat_le, nat_lt}
use Rattle.std.proofs.lemmas.Bool.{ltb-true}
use Rattle.sf_features.specs.Names.{is_name}
use Rattle.sf_features.specs.Columns.{named, numbered}
use Rattle.sf_features.specs.declared.column.Column.{Column}
use Rattle.sf_features.specs.declared.column_type.ColumnType.{ColumnType}
use Rattle.sf_layers.specs.Content.{Content, has_layer, layer_of}
use Rattle.sf_layers.specs.WellFormed.{IsIssued}
use Rattle.sf_format.specs.Stored.{Rule, has_rule}
use Rattle.sf_streams.specs.Streams.{Left}
use Rattle.sf_streams.proofs.ReadingLaws.{at}
use Rattle.sf_format.specs.declared.defect.Defect.{Defect}
use Rattle.sf_format.specs.declared.defect.Defect.TheVariants.{BadName, ColumnExists, ColumnsExhausted, LayerExists, NoLayer, RuleExists}
use Rattle.sf_format.specs.Readings.{Reads, Reading, and_then, field, judged, number, sized}
use Rattle.sf_format.specs.Format.{allowed, fresh_column_name, fresh_layer_name, fresh_number, fresh_rule_name, known_column, known_layer_name, name, type_in}
use Rattle.sf_format.proofs.RulesLoaded.{column-told}
use Rattle.sf_loading.specs.Streaming.{Takes}

field-passed : {A B : Type 0} (read : Reading A) (rule : A → Result B Defect) (y : B) (left rest : Left) → field read rule left ≡ Ok (y, rest)
    → (x : A) × (rule x ≡ Ok y) × (after : Left) × (read left ≡ Ok (x, after))
field-passed {A} {B} read rule y left rest h = by (read left) refl
  where
    ruled : (x : A) (after : Left) (r : Result B Defect) → rule x ≡ r → judged left.place after r ≡ Ok (y, rest) → rule x ≡ Ok y
    ruled x after (Ok v) e j = e ∙ ap Ok (ap (λ p. p.0) (value v after j))
      where
        value : (v : B) (after : Left) → ◌≡◌ {A = Reads B} (Ok (v, after)) (Ok (y, rest)) → ◌≡◌ {A = B × Left} (v, after) (y, rest)
        value v after j = cc
    ruled x after (Err d) e j = absurd (cc j)

    by : (r : Reads A) → read left ≡ r → (x : A) × (rule x ≡ Ok y) × (after : Left) × (read left ≡ Ok (x, after))
    by (Ok p) e = (p.0, ruled p.0 p.1 (rule p.0) refl (ap (λ r. and_then r (λ value after. judged left.place after (rule value))) (sym e) ∙ h), p.1, e)
    by (Err f) e = absurd (cc (ap (λ r. and_then r (λ value after. judged left.place after (rule value))) (sym e) ∙ h))

pub allowed-passed : {T : Type 0} (test : Bool) (defect : Defect) (x y : T) → allowed test defect x ≡ Ok y → (test ≡ true) × (x ≡ y)
allowed-passed true defect x y h = (refl, cc)
allowed-passed false defect x y h = absurd (cc h)

-- what a rule passed
pub Takes-passed : {A B : Type 0} (read : Reading A) (rule : A → Result B Defect) (y : B) (unread left : Option (List ℕ)) (old new : Left)
    → Takes (field read rule) y unread left old new → (x : A) × (rule x ≡ Ok y) × (before : Left) × (after : Left) × (read before ≡ Ok (x, after))
Takes-passed read rule y unread left old new a =
    let before = at old.place (a.text ++ []) in
    let p = field-passed read rule y before (at new.place []) (a.reads []) in
    (p.0, p.1, before, p.2, p.3)

none-of : {T : Type 0} (o : Option T) → not (is_some o) ≡ true → o ≡ None
none-of None h = refl
none-of (Some x) h = absurd (cc h)

name-is : (before after : Left) (text : List ℕ) → name before ≡ Ok (text, after) → IsTrue (is_name text)
name-is before after text h =
    let p = field-passed (sized 1 (λ (size : ℕ). allowed (nat_le 1 size && nat_le size 32) BadName size)) (λ (found : List ℕ). allowed (is_name found) BadName found) text before after h in
    let q = allowed-passed (is_name p.0) BadName p.0 text p.1 in
    ap is_name (sym q.1) ∙ q.0

-- a name that no column has
pub Takes-column_name : (columns : List Column) (text : List ℕ) (unread left : Option (List ℕ)) (old new : Left) → Takes (field name (fresh_column_name columns)) text unread left old new
    → IsTrue (is_name text) × (named columns text ≡ None)
Takes-column_name columns text unread left old new a =
    let p = Takes-passed name (fresh_column_name columns) text unread left old new a in
    let q = allowed-passed (not (is_some (named columns p.0))) ColumnExists p.0 text p.1 in
    (subst (λ t. IsTrue (is_name t)) q.1 (name-is p.2 p.3 p.0 p.4), none-of (named columns text) (ap (λ t. not (is_some (named columns t))) (sym q.1) ∙ q.0))

-- a name that no layer has
pub Takes-layer_name : (content : Content) (text : List ℕ) (unread left : Option (List ℕ)) (old new : Left) → Takes (field name (fresh_layer_name content)) text unread left old new
    → IsTrue (is_name text) × (layer_of content text ≡ None)
Takes-layer_name content text unread left old new a =
    let p = Takes-passed name (fresh_layer_name content) text unread left old new a in
    let q = allowed-passed (not (has_layer content p.0)) LayerExists p.0 text p.1 in
    (subst (λ t. IsTrue (is_name t)) q.1 (name-is p.2 p.3 p.0 p.4), none-of (layer_of content text) (ap (λ t. not (has_layer content t)) (sym q.1) ∙ q.0))

not-back : (b : Bool) → not b ≡ true → b ≡ false
not-back false h = refl
not-back true h = absurd (cc h)

-- a name that no rule has
pub Takes-rule_name : (rules : List Rule) (text : List ℕ) (unread left : Option (List ℕ)) (old new : Left) → Takes (field name (fresh_rule_name rules)) text unread left old new
    → IsTrue (is_name text) × (has_rule text rules ≡ false)
Takes-rule_name rules text unread left old new a =
    let p = Takes-passed name (fresh_rule_name rules) text unread left old new a in
    let q = allowed-passed (not (has_rule p.0 rules)) RuleExists p.0 text p.1 in
    (subst (λ t. IsTrue (is_name t)) q.1 (name-is p.2 p.3 p.0 p.4), not-back (has_rule text rules) (ap (λ t. not (has_rule t rules)) (sym q.1) ∙ q.0))

-- a name that a layer has
pub Takes-known_layer : (content : Content) (text : List ℕ) (unread left : Option (List ℕ)) (old new : Left) → Takes (field name (known_layer_name content)) text unread left old new
    → has_layer content text ≡ true
Takes-known_layer content text unread left old new a =
    let p = Takes-passed name (known_layer_name content) text unread left old new a in
    let q = allowed-passed (has_layer content p.0) NoLayer p.0 text p.1 in
    ap (has_layer content) (sym q.1) ∙ q.0

-- the name and the type of a column of a layer
pub Takes-known_column : (content : Content) (layer : List ℕ) (column : List ℕ × ColumnType) (unread left : Option (List ℕ)) (old new : Left) → Takes (field name (known_column content layer)) column unread left old new
    → type_in (layer_of content layer) column.0 ≡ Some column.1
Takes-known_column content layer column unread left old new a =
    let p = Takes-passed name (known_column content layer) column unread left old new a in
    column-told content layer p.0 column p.1

both : (a b : Bool) → (a && b) ≡ true → (a ≡ true) × (b ≡ true)
both true true h = (refl, refl)
both true false h = absurd (cc h)
both false b h = absurd (cc h)

-- a number that no column has
pub Takes-column_number : (next : ℕ) (columns : List Column) (n : ℕ) (unread left : Option (List ℕ)) (old new : Left) → Takes (field (number 2) (fresh_number next columns)) n unread left old new
    → IsIssued next n × (numbered columns n ≡ None)
Takes-column_number next columns n unread left old new a =
    let p = Takes-passed (number 2) (fresh_number next columns) n unread left old new a in
    let q = allowed-passed ((nat_lt 0 p.0 && nat_lt p.0 next) && not (is_some (numbered columns p.0))) ColumnsExhausted p.0 n p.1 in
    let r = both (nat_lt 0 p.0 && nat_lt p.0 next) (not (is_some (numbered columns p.0))) q.0 in
    let s = both (nat_lt 0 p.0) (nat_lt p.0 next) r.0 in
    (subst (IsIssued next) q.1 (ltb-true 0 p.0 s.0, ltb-true p.0 next s.1), subst (λ m. numbered columns m ≡ None) q.1 (none-of (numbered columns p.0) r.1))
