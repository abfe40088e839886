-- What the readings of rules promise of their values.
use Rattle.std.proofs.Common.{nat_lt, ◌≡◌, ◌+◌, ◌<◌, ◌≤◌, ℕ, zero, suc, Bool, true, false, cond, not, ◌&&◌, List, [], ◌∷◌, ◌++◌, map, length, Option, Some, None, IsTrue, Ok, bytes_eq, option_map, option_and_then, refl, sym, ap, subst, ◌∙◌, arith}
use Rattle.std.specs.Prelude.{IfSome, is_some, ◌==◌}
use Rattle.std.specs.List.{list_all, AllByRecursion}
use Rattle.std.proofs.lemmas.Bool.{eqb-true, ltb-true}
use Rattle.sf_known.specs.declared.letter.Letter.{Letter}
use Rattle.sf_known.specs.declared.predicate.Predicate.{Predicate}
use Rattle.sf_known.specs.Patterns.{letter_of, letters_of, pattern_of}
use Rattle.sf_ruled_store.specs.Ruling.{Matching, Named}
use Rattle.sf_features.specs.declared.column_type.ColumnType.{ColumnType}
use Rattle.sf_features.specs.Columns.{IsDistinct}
use Rattle.sf_features.specs.Names.{is_name}
use Rattle.sf_layers.specs.Content.{Content, has_layer, layer_of}
use Rattle.sf_ruled_store.specs.Ruling.{Form, HasNineLetters, IsPairAsk, Matrix, Near, PairAsk}
use Rattle.sf_distance.specs.Reaches.{reach_limit}
use Rattle.sf_ruled_store.specs.Ruling.{Rule, Says, OfLayers, OfValues}
use Rattle.sf_ruled_store.specs.Ruling.{break_of, broken_from, broken_or}
use Rattle.sf_ruled_store.specs.Ruled.{fits_column, has_named, has_rule, has_said, rules_max}
use Rattle.sf_format.specs.declared.rule_form.RuleForm.{RuleForm}
use Rattle.sf_format.specs.declared.rule_form.RuleForm.TheVariants.{Between, ByDistance, OnValues}
use Rattle.sf_format.specs.declared.version.Version.{Version}
use Rattle.sf_format.specs.declared.version.Version.TheVariants.{First, Second, Third, Fourth}
use Rattle.sf_format.specs.declared.defect.Defect.TheVariants.{BadFile, BadPattern, NoColumn, NoLayer, RuleBroken, RuleExists}
use Rattle.sf_format.specs.Readings.{◌>>=◌, bytes, done, field, number, items}
use Rattle.sf_format.specs.Format.{allowed, ask, asked_by, demanded, distance, form_of_byte, fresh_rule_name, held_rule, known_column, known_layer_name, name, predicate_of_byte, present, rule, rules, rules_in, said, type_in, unbroken}
use Rattle.sf_format.specs.Laws.{AreBytes, AsksWell, IsRule}
use Rattle.sf_format.proofs.Continuations.{rule_after_form, rule_after_name, said_after_ask, said_after_column, said_after_first, said_after_layer, said_after_near}
use Rattle.sf_format.proofs.NamedValues.{column-typed, demanded-promises}
use Rattle.sf_format.proofs.Promises.{Promises, Promises-bytes, Promises-done, Promises-field, Promises-items, Promises-number, Promises-rule, Promises-then, and_then_ok}
use Rattle.sf_format.proofs.Pushed.{all-more, distinct-push, items-length, name-promises}
use Rattle.sf_format.proofs.TakenNames.{taken}
use Rattle.sf_format.proofs.Rules.{allowed_of, none_of, not_true, present_of}

-- ---- what is asked

-- a text has as many letters as bytes
letters-count : (text : List ℕ) → IfSome (letters_of text) (λ ls. length ls ≡ length text)
letters-count [] = refl
letters-count (byte ∷ text) = by (letter_of byte) (letters_of text) (letters-count text)
  where
    by : (o : Option Letter) (later : Option (List Letter)) → IfSome later (λ ls. length ls ≡ length text)
        → IfSome (option_and_then (λ letter. option_map (λ ls. letter ∷ ls) later) o) (λ ls. length ls ≡ suc (length text))
    by None later count = tt
    by (Some letter) None count = tt
    by (Some letter) (Some ls) count = ap suc count

pattern-nine : (text : List ℕ) → IfSome (option_map Matching (pattern_of text)) HasNineLetters
pattern-nine text = by_length (length text == 9) refl
  where
    nine : (o : Option (List Letter)) → length text ≡ 9 → IfSome o (λ ls. length ls ≡ length text) → IfSome (option_map Matching o) HasNineLetters
    nine None len count = tt
    nine (Some ls) len count = count ∙ len

    by_length : (b : Bool) → (length text == 9) ≡ b → IfSome (option_map Matching (cond b (letters_of text) None)) HasNineLetters
    by_length true is = nine (letters_of text) (eqb-true (length text) 9 is) (letters-count text)
    by_length false is = tt

named-nine : (o : Option Predicate) → IfSome (option_map Named o) HasNineLetters
named-nine None = tt
named-nine (Some predicate) = tt

asked-promises : Promises (number 1 >>= asked_by) (λ found. IfSome found HasNineLetters)
asked-promises = Promises-then (number 1) asked_by (λ n. Unit {0}) (λ found. IfSome found HasNineLetters)
    (λ left n rest fits e. (tt, (Promises-number 1 left n rest fits e).1)) by_byte
  where
    by_byte : (n : ℕ) → Unit {0} → Promises (asked_by n) (λ found. IfSome found HasNineLetters)
    by_byte zero any = Promises-then (bytes 9) (λ text. done (option_map Matching (pattern_of text))) AreBytes (λ found. IfSome found HasNineLetters) (Promises-bytes 9)
        (λ text fits. Promises-done (λ found. IfSome found HasNineLetters) (option_map Matching (pattern_of text)) (pattern-nine text))
    by_byte (suc n) any = Promises-done (λ found. IfSome found HasNineLetters) (option_map Named (predicate_of_byte (suc n))) (named-nine (predicate_of_byte (suc n)))

ask-promises : Promises ask HasNineLetters
ask-promises = Promises-field (number 1 >>= asked_by) (λ found. present found BadPattern) (λ found. IfSome found HasNineLetters) HasNineLetters asked-promises
    (λ found asked nine e. subst (λ o. IfSome o HasNineLetters) (present_of found BadPattern asked e) nine)

-- ---- a rule

-- a rule behind others: it has a name of its own, and all that it names is there
abbrev pub IsNewRule : Content → List Rule → Rule → Type 0
IsNewRule content earlier r = IsRule r × (has_rule r.name earlier ≡ false) × (has_named content r ≡ true)

two : (a b : Bool) → a ≡ true → b ≡ true → (a && b) ≡ true
two true b p q = q
two false b p q = absurd cc

known-promises : (content : Content) → Promises (field name (known_layer_name content)) (λ title. has_layer content title ≡ true)
known-promises content = Promises-field name (known_layer_name content) (λ title. IsTrue (is_name title)) (λ title. has_layer content title ≡ true) name-promises
    (λ x y named e. let r = allowed_of (has_layer content x) NoLayer x y e in subst (λ t. has_layer content t ≡ true) r.1 r.0)

-- the name and the type of a column of a layer
abbrev pub IsColumnOf : Content → List ℕ → List ℕ × ColumnType → Type 0
IsColumnOf content layer column = type_in (layer_of content layer) column.0 ≡ Some column.1

pub column-told : (content : Content) (layer title : List ℕ) (column : List ℕ × ColumnType) → known_column content layer title ≡ Ok column → IsColumnOf content layer column
column-told content layer title column e = by (type_in (layer_of content layer) title) refl e
  where
    by : (o : Option ColumnType) → type_in (layer_of content layer) title ≡ o → present (option_map (λ column_type. (title, column_type)) o) NoColumn ≡ Ok column → IsColumnOf content layer column
    by None is e = absurd cc
    by (Some t) is e = let same : ◌≡◌ {A = List ℕ × ColumnType} (title, t) column = cc in subst (IsColumnOf content layer) same is

column-promises : (content : Content) (layer : List ℕ) → Promises (field name (known_column content layer)) (IsColumnOf content layer)
column-promises content layer =
    Promises-field name (known_column content layer) (λ title. IsTrue (is_name title)) (IsColumnOf content layer) name-promises
    (λ x y named e. column-told content layer x y e)

-- all that it names is there
abbrev pub IsSaid : Content → Says → Type 0
IsSaid content says = AsksWell says × (has_said content says ≡ true)

-- a distance is below the limit
distance-promises : Promises distance (λ reach. reach < reach_limit)
distance-promises = Promises-rule 8 (λ n. allowed (nat_lt n reach_limit) BadFile n) (λ reach. reach < reach_limit)
    (λ n y fits e. let r = allowed_of (nat_lt n reach_limit) BadFile n y e in subst (λ reach. reach < reach_limit) r.1 (ltb-true n reach_limit r.0))

layers-promise : (content : Content) (form : Form) (first : List ℕ) (asked : PairAsk) → IsPairAsk asked → has_layer content first ≡ true → Promises (said_after_ask content form first asked) (IsSaid content)
layers-promise content form first asked kept here =
    Promises-then (field name (known_layer_name content)) (λ second. done (OfLayers (record { form = form; first = first; ask = asked; second = second })))
    (λ second. has_layer content second ≡ true) (IsSaid content) (known-promises content)
    (λ second there. Promises-done (IsSaid content) (OfLayers (record { form = form; first = first; ask = asked; second = second }))
    (kept, two (has_layer content first) (has_layer content second) here there))

said-promises : (content : Content) (form : RuleForm) → Promises (said content form) (IsSaid content)
said-promises content (Between form) =
    Promises-then (field name (known_layer_name content)) (said_after_first content form) (λ first. has_layer content first ≡ true) (IsSaid content) (known-promises content)
    (λ first here. Promises-then ask (λ asked. said_after_ask content form first (Matrix asked)) HasNineLetters (IsSaid content) ask-promises
    (λ asked nine. layers-promise content form first (Matrix asked) nine here))
said-promises content (ByDistance form) =
    Promises-then (field name (known_layer_name content)) (said_after_near content form) (λ first. has_layer content first ≡ true) (IsSaid content) (known-promises content)
    (λ first here. Promises-then distance (λ reach. said_after_ask content form first (Near reach)) (λ reach. reach < reach_limit) (IsSaid content) distance-promises
    (λ reach below. layers-promise content form first (Near reach) below here))
said-promises content (OnValues form) =
    Promises-then (field name (known_layer_name content)) (said_after_layer content form) (λ layer. has_layer content layer ≡ true) (IsSaid content) (known-promises content)
    (λ layer here. Promises-then (field name (known_column content layer)) (said_after_column form layer) (IsColumnOf content layer) (IsSaid content) (column-promises content layer)
    (λ column is. let there = column-typed (layer_of content layer) column.0 column.1 is in
    Promises-then (demanded column.1 form) (λ demand. done (OfValues (record { demand = demand; layer = layer; column = column.0 }))) (λ d. fits_column d (Some there.0) ≡ true) (IsSaid content)
    (subst (λ t. Promises (demanded t form) (λ d. fits_column d (Some there.0) ≡ true)) there.1 (demanded-promises there.0 form))
    (λ demand fits. Promises-done (IsSaid content) (OfValues (record { demand = demand; layer = layer; column = column.0 }))
    (tt, there.2 (record { demand = demand; layer = layer; column = column.0 }) refl fits))))

abbrev pub IsNewName : List Rule → List ℕ → Type 0
IsNewName earlier title = IsTrue (is_name title) × (has_rule title earlier ≡ false)

rule-promises : (version : Version) (content : Content) (earlier : List Rule) → Promises (rule version content earlier) (IsNewRule content earlier)
rule-promises version content earlier =
    Promises-then (field name (fresh_rule_name earlier)) (rule_after_name version content) (IsNewName earlier) (IsNewRule content earlier)
    (Promises-field name (fresh_rule_name earlier) (λ title. IsTrue (is_name title)) (IsNewName earlier) name-promises
    (λ x y named e. let r = allowed_of (not (has_rule x earlier)) RuleExists x y e in subst (IsNewName earlier) r.1 (named, not_true (has_rule x earlier) r.0)))
    (λ title new. Promises-then (field (number 1) (λ byte. present (form_of_byte version byte) BadFile)) (rule_after_form content title) (λ form. Unit {0}) (IsNewRule content earlier)
    (Promises-rule 1 (λ byte. present (form_of_byte version byte) BadFile) (λ form. Unit {0}) (λ n y fits e. tt))
    (λ form any. Promises-then (said content form) (λ says. done (record { name = title; says = says })) (IsSaid content) (IsNewRule content earlier) (said-promises content form)
    (λ says is. Promises-done (IsNewRule content earlier) (record { name = title; says = says }) (record { named = new.0; asks = is.0 }, new.1, is.1))))

abbrev pub IsHeldRule : Content → List Rule → Rule → Type 0
IsHeldRule content earlier r = IsNewRule content earlier r × (break_of content r ≡ None)

held-promises : (version : Version) (content : Content) (earlier : List Rule) → Promises (held_rule version content earlier) (IsHeldRule content earlier)
held-promises version content earlier =
    Promises-field (rule version content earlier) (unbroken content) (IsNewRule content earlier) (IsHeldRule content earlier) (rule-promises version content earlier)
    (λ x y new e. let r = allowed_of (not (is_some (break_of content x))) RuleBroken x y e in
    subst (IsHeldRule content earlier) r.1 (new, none_of (break_of content x) (not_true (is_some (break_of content x)) r.0)))

-- ---- rules

-- rules each of a name of its own, of which all that they name is there and none is broken
pub record AreHeld (content : Content) (rs : List Rule) : Type 0 where
  pub are : AllByRecursion IsRule rs
  pub distinct : IsDistinct bytes_eq (map (λ r. r.name) rs)
  pub there : list_all (has_named content) rs ≡ true
  pub held : AllByRecursion (λ r. break_of content r ≡ None) rs

none-held : (content : Content) → AreHeld content []
none-held content = record { are = tt; distinct = tt; there = refl; held = tt }

all-push : (test : Rule → Bool) (rs : List Rule) (r : Rule) → list_all test rs ≡ true → test r ≡ true → list_all test (rs ++ r ∷ []) ≡ true
all-push test [] r all new = ap (λ b. b && true) new
all-push test (q ∷ qs) r all new = by_test (λ later. all-push test qs r later new) (test q) all
  where
    by_test : (list_all test qs ≡ true → list_all test (qs ++ r ∷ []) ≡ true) → (b : Bool) → (b && list_all test qs) ≡ true → (b && list_all test (qs ++ r ∷ [])) ≡ true
    by_test more true all = more all
    by_test more false all = absurd cc

one-more : (content : Content) (earlier : List Rule) (r : Rule) → AreHeld content earlier → IsHeldRule content earlier r → AreHeld content (earlier ++ r ∷ [])
one-more content earlier r are is = record {
  are = all-more IsRule earlier r are.are is.0.0;
  distinct = distinct-push bytes_eq (λ r. r.name) earlier r are.distinct (sym (taken r.name earlier) ∙ is.0.1);
  there = all-push (has_named content) earlier r are.there is.0.2;
  held = all-more (λ r. break_of content r ≡ None) earlier r are.held is.1;
}

items-promise : (version : Version) (content : Content) (count : ℕ) → Promises (items (held_rule version content) count []) (AreHeld content)
items-promise version content count = Promises-items (held_rule version content) (AreHeld content)
    (λ earlier are left r rest fits e. let p = held-promises version content earlier left r rest fits e in (one-more content earlier r are p.0, p.1))
    count [] (none-held content)

-- they are as many as two bytes can say
abbrev pub AreKept : Content → List Rule → Type 0
AreKept content rs = AreHeld content rs × (length rs ≤ rules_max)

rules-promise : (version : Version) (content : Content) → Promises (rules version content) (AreKept content)
rules-promise version content left rs rest fits e =
    let s = and_then_ok (number 2 left) (λ count. items (held_rule version content) count []) rs rest e in
    let count = Promises-number 2 left s.0 s.1 fits s.2 in
    let are = items-promise version content s.0 s.1 rs rest count.1 s.3 in
    let len = items-length (held_rule version content) s.0 [] s.1 rs rest s.3 in
    ((are.0, omega (arith, len, count.0)), are.1)

pub rules-in-promise : (version : Version) (content : Content) → Promises (rules_in version content) (AreKept content)
rules-in-promise Third content = rules-promise Third content
rules-in-promise Fourth content = rules-promise Fourth content
rules-in-promise First content = Promises-done (AreKept content) [] (none-held content, omega arith)
rules-in-promise Second content = Promises-done (AreKept content) [] (none-held content, omega arith)

-- of rules that all hold none is the first that is broken
pub none-broken : (content : Content) (place : ℕ) (rs : List Rule) → AllByRecursion (λ r. break_of content r ≡ None) rs → broken_from place content rs ≡ None
none-broken content place [] held = refl
none-broken content place (r ∷ rs) held =
    ap (λ o. broken_or place o (broken_from (place + 1) content rs)) held.0 ∙ none-broken content (place + 1) rs held.1
