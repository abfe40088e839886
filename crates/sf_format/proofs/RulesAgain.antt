-- The bytes of rules are read again as they are.
use Rattle.std.proofs.Common.{nat_lt, ◌≡◌, ◌+◌, ◌<◌, ◌≤◌, ℕ, Bool, true, false, cond, not, List, [], ◌∷◌, ◌++◌, map, length, Option, Some, None, IsTrue, Ok, bytes_eq, option_map, refl, sym, ap, subst, ◌∙◌, append_assoc, arith}
use Rattle.std.specs.Prelude.{is_some}
use Rattle.std.specs.List.{flat_map, list_all, AllByRecursion}
use Rattle.std.specs.Map.{keys_of, values_of}
use Rattle.std.proofs.lemmas.Bool.{lt-ltb}
use Rattle.std.proofs.lemmas.Slice.Eq.{bytes_eq-Decides}
use Rattle.byteorder.specs.Endian.{big_bytes}
use Rattle.sf_known.specs.declared.letter.Letter.{Letter}
use Rattle.sf_known.specs.declared.predicate.Predicate.TheVariants as predicates
use Rattle.std.proofs.lemmas.List.{length-map}
use Rattle.sf_known.specs.Patterns.{letter_character, pattern_of, pattern_text}
use Rattle.sf_known.proofs.TextLaws.{patterns_are_of_their_texts}
use Rattle.sf_ruled_store.specs.Ruling.{Ask}
use Rattle.sf_ruled_store.specs.Ruling.{Matching, Named}
use Rattle.sf_features.specs.Columns.{IsDistinct}
use Rattle.sf_features.specs.Names.{is_name}
use Rattle.sf_features.specs.Columns.{named}
use Rattle.sf_features.specs.declared.column.Column.{Column}
use Rattle.sf_layers.specs.Content.{Content, LayerContent, has_layer, layer_of}
use Rattle.sf_layers.specs.WellFormed.{IsColumn, IsLayer, IsWellFormed}
use Rattle.sf_ruled_store.specs.Ruling.{HasNineLetters, IsPairAsk, Matrix, Near, PairAsk}
use Rattle.sf_distance.specs.Reaches.{reach_limit}
use Rattle.sf_ruled_store.specs.Ruling.{Break}
use Rattle.sf_ruled_store.specs.Ruling.{Broken}
use Rattle.sf_ruled_store.specs.Ruling.{Rule, Says, OfLayers, OfValues}
use Rattle.sf_ruled_store.specs.Ruling.{LayerRule, ValueRule}
use Rattle.sf_ruled_store.specs.Ruling.{Form}
use Rattle.sf_ruled_store.specs.Ruling.{Never, Each}
use Rattle.sf_ruled_store.specs.Ruling.{Demand, InRange, OneOf, Required, Unique}
use Rattle.sf_ruled_store.specs.Ruling.{break_of, broken_from, broken_or}
use Rattle.sf_ruled_store.specs.Ruled.{fits_layer, has_column_in, has_named, has_rule, has_said}
use Rattle.sf_format.specs.declared.rule_form.RuleForm.TheVariants.{Between, ByDistance, OnValues}
use Rattle.sf_format.specs.declared.rule_form.RuleForm.{RuleForm}
use Rattle.sf_format.specs.declared.version.Version.{Version}
use Rattle.sf_format.specs.declared.version.Version.TheVariants.{First, Second, Third, Fourth}
use Rattle.sf_format.specs.declared.defect.Defect.TheVariants.{BadFile, BadPattern, NoColumn, NoLayer, RuleBroken, RuleExists}
use Rattle.sf_format.specs.Readings.{◌>>=◌, bytes, field, number, items}
use Rattle.sf_format.specs.Format.{allowed, ask as read_ask, asked_by, demanded, distance, form_of_byte, fresh_rule_name, held_rule, known_column, known_layer_name, name, present, rule, rules, said, unbroken}
use Rattle.sf_format.specs.Canonical.{ask_bytes, behind_length, demand_byte, demand_bytes, distance_form_byte, form_byte, pair_bytes, pair_form_byte, predicate_byte, rule_bytes, rules_bytes, says_bytes}
use Rattle.sf_format.specs.Laws.{AsksWell, IsOfLayers, IsOfMatrices, IsRule, IsSaidOfLayers}
use Rattle.sf_format.proofs.Again.{Again, Again-bytes, Again-done, Again-field, Again-items, Again-made, Again-number, Again-number_field, Again-then, Again-value, EachAgain}
use Rattle.sf_format.proofs.Continuations.{rule_after_form, rule_after_name, said_after_ask, said_after_column, said_after_first, said_after_layer, said_after_near}
use Rattle.sf_format.proofs.Rules.{allowed-ok, both_of}
use Rattle.sf_format.proofs.Names.{distinct-fresh, name-again}
use Rattle.sf_format.proofs.NamedValues.{column-held, column-of, demanded-again, form_of}
use Rattle.sf_format.proofs.TakenNames.{taken}

-- ---- what is asked

-- a pattern of nine letters has a text of nine
nine-characters : (pattern : List Letter) → length pattern ≡ 9 → length (pattern_text pattern) ≡ 9
nine-characters pattern nine = length-map pattern letter_character ∙ nine

-- a named predicate is read again from its byte
named-again : (predicate : _) → Again (number 1 >>= asked_by) (big_bytes 1 (predicate_byte predicate)) (Some (Named predicate))
named-again predicates.Equals = Again-then (number 1) asked_by (big_bytes 1 1) [] 1 (Some (Named predicates.Equals)) (Again-number 1 1 (omega arith)) (Again-done (Some (Named predicates.Equals)))
named-again predicates.Disjoint = Again-then (number 1) asked_by (big_bytes 1 2) [] 2 (Some (Named predicates.Disjoint)) (Again-number 1 2 (omega arith)) (Again-done (Some (Named predicates.Disjoint)))
named-again predicates.Intersects = Again-then (number 1) asked_by (big_bytes 1 3) [] 3 (Some (Named predicates.Intersects)) (Again-number 1 3 (omega arith)) (Again-done (Some (Named predicates.Intersects)))
named-again predicates.Touches = Again-then (number 1) asked_by (big_bytes 1 4) [] 4 (Some (Named predicates.Touches)) (Again-number 1 4 (omega arith)) (Again-done (Some (Named predicates.Touches)))
named-again predicates.Within = Again-then (number 1) asked_by (big_bytes 1 5) [] 5 (Some (Named predicates.Within)) (Again-number 1 5 (omega arith)) (Again-done (Some (Named predicates.Within)))
named-again predicates.Contains = Again-then (number 1) asked_by (big_bytes 1 6) [] 6 (Some (Named predicates.Contains)) (Again-number 1 6 (omega arith)) (Again-done (Some (Named predicates.Contains)))
named-again predicates.Crosses = Again-then (number 1) asked_by (big_bytes 1 7) [] 7 (Some (Named predicates.Crosses)) (Again-number 1 7 (omega arith)) (Again-done (Some (Named predicates.Crosses)))
named-again predicates.Overlaps = Again-then (number 1) asked_by (big_bytes 1 8) [] 8 (Some (Named predicates.Overlaps)) (Again-number 1 8 (omega arith)) (Again-done (Some (Named predicates.Overlaps)))

asked-again : (asked : Ask) → HasNineLetters asked → Again (number 1 >>= asked_by) (ask_bytes asked) (Some asked)
asked-again (Named predicate) nine = named-again predicate
asked-again (Matching pattern) nine =
    Again-then (number 1) asked_by (big_bytes 1 0) (pattern_text pattern) 0 (Some (Matching pattern)) (Again-number 1 0 (omega arith))
    (Again-value (asked_by 0) (pattern_text pattern) (option_map Matching (pattern_of (pattern_text pattern))) (Some (Matching pattern)) (ap (λ o. option_map Matching o) (patterns_are_of_their_texts pattern nine))
    (Again-made (bytes 9) (λ text. option_map Matching (pattern_of text)) (pattern_text pattern) (pattern_text pattern) (Again-bytes 9 (pattern_text pattern) (nine-characters pattern nine))))

ask-again : (asked : Ask) → HasNineLetters asked → Again read_ask (ask_bytes asked) asked
ask-again asked nine = Again-field (number 1 >>= asked_by) (λ found. present found BadPattern) (ask_bytes asked) (Some asked) asked (asked-again asked nine) refl

-- ---- what a rule says

-- files of a version may have such a rule
abbrev pub MayHave : Version → Says → Type 0
MayHave Fourth says = Unit {0}
MayHave version (OfLayers rule) = IsOfMatrices rule.ask
MayHave version (OfValues rule) = ⊥

form_byte-fits : (asked : PairAsk) (form : Form) → pair_form_byte asked form < 256
form_byte-fits (Matrix ask) Never = omega arith
form_byte-fits (Matrix ask) Each = omega arith
form_byte-fits (Near reach) Never = omega arith
form_byte-fits (Near reach) Each = omega arith

-- the form of a rule between layers, by what it asks
abbrev pair_form : PairAsk → Form → RuleForm
pair_form (Matrix ask) form = Between form
pair_form (Near reach) form = ByDistance form

demand_byte-fits : (demand : Demand) → demand_byte demand < 256
demand_byte-fits Unique = omega arith
demand_byte-fits Required = omega arith
demand_byte-fits (OneOf allowed) = omega arith
demand_byte-fits (InRange range) = omega arith

matrix-again : (version : Version) (form : Form) → present (form_of_byte version (form_byte form)) BadFile ≡ Ok (Between form)
matrix-again First Never = refl
matrix-again First Each = refl
matrix-again Second Never = refl
matrix-again Second Each = refl
matrix-again Third Never = refl
matrix-again Third Each = refl
matrix-again Fourth Never = refl
matrix-again Fourth Each = refl

distance-again : (form : Form) → present (form_of_byte Fourth (distance_form_byte form)) BadFile ≡ Ok (ByDistance form)
distance-again Never = refl
distance-again Each = refl

form-again : (version : Version) (rule : LayerRule) (asked : PairAsk) → rule.ask ≡ asked → MayHave version (OfLayers rule) → present (form_of_byte version (pair_form_byte asked rule.form)) BadFile ≡ Ok (pair_form asked rule.form)
form-again version rule (Matrix ask) is may = matrix-again version rule.form
form-again Fourth rule (Near reach) is may = distance-again rule.form
form-again First rule (Near reach) is may = absurd (subst IsOfMatrices is may)
form-again Second rule (Near reach) is may = absurd (subst IsOfMatrices is may)
form-again Third rule (Near reach) is may = absurd (subst IsOfMatrices is may)

demand-again : (demand : Demand) → present (form_of_byte Fourth (demand_byte demand)) BadFile ≡ Ok (OnValues (form_of demand))
demand-again Unique = refl
demand-again Required = refl
demand-again (OneOf allowed) = refl
demand-again (InRange range) = refl

-- all that a rule names is there, has a name, and fits
abbrev pub CanSay : Content → Says → Type 0
CanSay content (OfLayers rule) =
    IsPairAsk rule.ask × (has_layer content rule.first ≡ true) × (has_layer content rule.second ≡ true) × (is_name rule.first ≡ true) × (is_name rule.second ≡ true)
CanSay content (OfValues rule) =
    (has_layer content rule.layer ≡ true) × (fits_layer rule (layer_of content rule.layer) ≡ true) × (is_name rule.layer ≡ true) × (is_name rule.column ≡ true)

-- from what is asked on
behind-again : (content : Content) (r : LayerRule) → CanSay content (OfLayers r) → Again (said_after_ask content r.form r.first r.ask) (behind_length 1 r.second) (OfLayers r)
behind-again content r can =
    Again-made (field name (known_layer_name content)) (λ second. OfLayers (record { form = r.form; first = r.first; ask = r.ask; second = second })) (behind_length 1 r.second) r.second
    (Again-field name (known_layer_name content) (behind_length 1 r.second) r.second r.second (name-again r.second can.4) (allowed-ok _ NoLayer r.second can.2))

-- a distance is read again
reach-again : (reach : ℕ) → reach < reach_limit → Again distance (big_bytes 8 reach) reach
reach-again reach below =
    Again-number_field 8 reach (λ n. allowed (nat_lt n reach_limit) BadFile n) reach (omega (arith, below)) (allowed-ok (nat_lt reach reach_limit) BadFile reach (lt-ltb reach reach_limit below))

layers-again : (content : Content) (r : LayerRule) (asked : PairAsk) → r.ask ≡ asked → CanSay content (OfLayers r)
    → Again (said content (pair_form asked r.form)) (behind_length 1 r.first ++ (pair_bytes asked ++ behind_length 1 r.second)) (OfLayers r)
layers-again content r (Matrix ask) is can =
    let back = behind_length 1 r.second in
    let kept : HasNineLetters ask = subst IsPairAsk is can.0 in
    Again-then (field name (known_layer_name content)) (said_after_first content r.form) (behind_length 1 r.first) (ask_bytes ask ++ back) r.first (OfLayers r)
    (Again-field name (known_layer_name content) (behind_length 1 r.first) r.first r.first (name-again r.first can.3) (allowed-ok _ NoLayer r.first can.1))
    (Again-then read_ask (λ asked. said_after_ask content r.form r.first (Matrix asked)) (ask_bytes ask) back ask (OfLayers r)
    (ask-again ask kept)
    (subst (λ asked. Again (said_after_ask content r.form r.first asked) back (OfLayers r)) is (behind-again content r can)))
layers-again content r (Near reach) is can =
    let back = behind_length 1 r.second in
    let below : reach < reach_limit = subst IsPairAsk is can.0 in
    Again-then (field name (known_layer_name content)) (said_after_near content r.form) (behind_length 1 r.first) (big_bytes 8 reach ++ back) r.first (OfLayers r)
    (Again-field name (known_layer_name content) (behind_length 1 r.first) r.first r.first (name-again r.first can.3) (allowed-ok _ NoLayer r.first can.1))
    (Again-then distance (λ reach. said_after_ask content r.form r.first (Near reach)) (big_bytes 8 reach) back reach (OfLayers r)
    (reach-again reach below)
    (subst (λ asked. Again (said_after_ask content r.form r.first asked) back (OfLayers r)) is (behind-again content r can)))

values-again : (content : Content) (r : ValueRule) → CanSay content (OfValues r)
    → Again (said content (OnValues (form_of r.demand))) (behind_length 1 r.layer ++ (behind_length 1 r.column ++ demand_bytes r.demand)) (OfValues r)
values-again content r can =
    let form = form_of r.demand in
    let back = behind_length 1 r.column ++ demand_bytes r.demand in
    let column = column-of r (layer_of content r.layer) can.1 in
    let t = column.0.column_type in
    Again-then (field name (known_layer_name content)) (said_after_layer content form) (behind_length 1 r.layer) back r.layer (OfValues r)
    (Again-field name (known_layer_name content) (behind_length 1 r.layer) r.layer r.layer (name-again r.layer can.2) (allowed-ok _ NoLayer r.layer can.0))
    (Again-then (field name (known_column content r.layer)) (said_after_column form r.layer) (behind_length 1 r.column) (demand_bytes r.demand) (r.column, t) (OfValues r)
    (Again-field name (known_column content r.layer) (behind_length 1 r.column) r.column (r.column, t) (name-again r.column can.3) (ap (λ o. present (option_map (λ column_type. (r.column, column_type)) o) NoColumn) column.1))
    (Again-made (demanded t form) (λ demand. OfValues (record { demand = demand; layer = r.layer; column = r.column })) (demand_bytes r.demand) r.demand (demanded-again column.0 r.demand column.2)))

says-again : (version : Version) (content : Content) (title : List ℕ) (says : Says) → MayHave version says → CanSay content says
    → Again (rule_after_name version content title) (says_bytes says) (record { name = title; says = says })
says-again version content title (OfLayers r) may can =
    let back = behind_length 1 r.first ++ (pair_bytes r.ask ++ behind_length 1 r.second) in
    let whole : Rule = record { name = title; says = OfLayers r } in
    let form = pair_form r.ask r.form in
    Again-then (field (number 1) (λ byte. present (form_of_byte version byte) BadFile)) (rule_after_form content title) (big_bytes 1 (pair_form_byte r.ask r.form)) back form whole
    (Again-number_field 1 (pair_form_byte r.ask r.form) (λ byte. present (form_of_byte version byte) BadFile) form (omega (arith, form_byte-fits r.ask r.form)) (form-again version r r.ask refl may))
    (Again-made (said content form) (λ says. record { name = title; says = says }) back (OfLayers r) (layers-again content r r.ask refl can))
says-again Fourth content title (OfValues r) may can =
    let form = form_of r.demand in
    let back = behind_length 1 r.layer ++ (behind_length 1 r.column ++ demand_bytes r.demand) in
    let whole : Rule = record { name = title; says = OfValues r } in
    Again-then (field (number 1) (λ byte. present (form_of_byte Fourth byte) BadFile)) (rule_after_form content title) (big_bytes 1 (demand_byte r.demand)) back (OnValues form) whole
    (Again-number_field 1 (demand_byte r.demand) (λ byte. present (form_of_byte Fourth byte) BadFile) (OnValues form) (omega (arith, demand_byte-fits r.demand)) (demand-again r.demand))
    (Again-made (said content (OnValues form)) (λ says. record { name = title; says = says }) back (OfValues r) (values-again content r can))
says-again First content title (OfValues r) may can = absurd may
says-again Second content title (OfValues r) may can = absurd may
says-again Third content title (OfValues r) may can = absurd may

-- ---- a rule

-- a rule that can be read behind others
record CanFollow (version : Version) (content : Content) (earlier : List Rule) (r : Rule) : Type 0 where
  is : IsRule r
  may : MayHave version r.says
  free : has_rule r.name earlier ≡ false
  can : CanSay content r.says
  held : break_of content r ≡ None

rule-again : (version : Version) (content : Content) (earlier : List Rule) (r : Rule) → CanFollow version content earlier r → Again (rule version content earlier) (rule_bytes r) r
rule-again version content earlier r can =
    Again-then (field name (fresh_rule_name earlier)) (rule_after_name version content) (behind_length 1 r.name) (says_bytes r.says) r.name r
    (Again-field name (fresh_rule_name earlier) (behind_length 1 r.name) r.name r.name (name-again r.name can.is.named) (allowed-ok _ RuleExists r.name (ap not can.free)))
    (says-again version content r.name r.says can.may can.can)

held-again : (version : Version) (content : Content) (earlier : List Rule) (r : Rule) → CanFollow version content earlier r → Again (held_rule version content earlier) (rule_bytes r) r
held-again version content earlier r can =
    Again-field (rule version content earlier) (unbroken content) (rule_bytes r) r r (rule-again version content earlier r can) (allowed-ok _ RuleBroken r (ap (λ o. not (is_some o)) can.held))

-- ---- rules

-- the name of a layer that is there is a name
layer-named : (title : List ℕ) (content : Content) → AllByRecursion (λ name. IsTrue (is_name name)) (keys_of content) → has_layer content title ≡ true → is_name title ≡ true
layer-named title [] named there = absurd cc
layer-named title (entry ∷ entries) named there = by_test (bytes_eq title entry.0) refl (layer-named title entries named.1) there
  where
    by_test : (b : Bool) → bytes_eq title entry.0 ≡ b → (has_layer entries title ≡ true → is_name title ≡ true) → is_some (cond b (Some entry.1) (layer_of entries title)) ≡ true → is_name title ≡ true
    by_test true is later h = ap is_name ((bytes_eq-Decides title entry.0).0 is) ∙ named.0
    by_test false is later h = later h

-- so is that of a column that is there
column-in : (title : List ℕ) (next : ℕ) (columns : List Column) → AllByRecursion (IsColumn next) columns → is_some (named columns title) ≡ true → is_name title ≡ true
column-in title next [] are there = absurd cc
column-in title next (c ∷ cs) are there = by_test (bytes_eq title c.name) refl (column-in title next cs are.1) there
  where
    by_test : (b : Bool) → bytes_eq title c.name ≡ b → (is_some (named cs title) ≡ true → is_name title ≡ true) → is_some (cond b (Some c) (named cs title)) ≡ true → is_name title ≡ true
    by_test true is later h = ap is_name ((bytes_eq-Decides title c.name).0 is) ∙ are.0.0
    by_test false is later h = later h

column-named : (column title : List ℕ) (content : Content) → AllByRecursion IsLayer (values_of content) → has_column_in column (layer_of content title) ≡ true → is_name column ≡ true
column-named column title [] are there = absurd cc
column-named column title (entry ∷ entries) are there = by_test (bytes_eq title entry.0) (column-named column title entries are.1) there
  where
    by_test : (b : Bool) → (has_column_in column (layer_of entries title) ≡ true → is_name column ≡ true) → has_column_in column (cond b (Some entry.1) (layer_of entries title)) ≡ true → is_name column ≡ true
    by_test true later h = column-in column entry.1.next_column entry.1.columns are.0.columns h
    by_test false later h = later h

-- a layer that has a column is there
layer-there : (column : List ℕ) (o : Option LayerContent) → has_column_in column o ≡ true → is_some o ≡ true
layer-there column None h = absurd cc
layer-there column (Some layer) h = refl

can-say : (content : Content) (says : Says) → IsWellFormed content → AsksWell says → has_said content says ≡ true → CanSay content says
can-say content (OfLayers r) fine kept there =
    let both = both_of (has_layer content r.first) (has_layer content r.second) there in
    (kept, both.0, both.1, layer-named r.first content fine.named both.0, layer-named r.second content fine.named both.1)
can-say content (OfValues r) fine kept there =
    let held = column-held r (layer_of content r.layer) there in
    let here = layer-there r.column (layer_of content r.layer) held in
    (here, there, layer-named r.layer content fine.named here, column-named r.column r.layer content fine.layers held)

-- a rule that is the first to be broken is broken, and one that is broken comes first or behind another
first-unbroken : (place : ℕ) (b : Option Break) (later : Option Broken) → broken_or place b later ≡ None → (b ≡ None) × (later ≡ None)
first-unbroken place None later h = (refl, h)
first-unbroken place (Some least) later h = absurd cc

-- settled rules of which all that they name is there, and each has a name of its own
record AreToFollow (version : Version) (content : Content) (place : ℕ) (earlier rs : List Rule) : Type 0 where
  are : AllByRecursion IsRule rs
  may : AllByRecursion (λ r. MayHave version r.says) rs
  distinct : IsDistinct bytes_eq (map (λ r. r.name) (earlier ++ rs))
  there : list_all (has_named content) rs ≡ true
  held : broken_from place content rs ≡ None

rules-follow : (version : Version) (content : Content) → IsWellFormed content → (place : ℕ) (earlier rs : List Rule) → AreToFollow version content place earlier rs
    → EachAgain (held_rule version content) rule_bytes earlier rs
rules-follow version content fine place earlier [] can = tt
rules-follow version content fine place earlier (r ∷ rs) can =
    let regrouped : earlier ++ r ∷ rs ≡ (earlier ++ r ∷ []) ++ rs = sym (append_assoc earlier (r ∷ []) rs) in
    let there = both_of (has_named content r) (list_all (has_named content) rs) can.there in
    let unbroken = first-unbroken place (break_of content r) (broken_from (place + 1) content rs) can.held in (
      held-again version content earlier r (record {
        is = can.are.0;
        may = can.may.0;
        free = taken r.name earlier ∙ (distinct-fresh bytes_eq (λ r. r.name) earlier r rs can.distinct);
        can = can-say content r.says fine can.are.0.asks there.0;
        held = unbroken.0;
      }),
      rules-follow version content fine (place + 1) (earlier ++ r ∷ []) rs (record {
        are = can.are.1;
        may = can.may.1;
        distinct = subst (λ (all : List Rule). IsDistinct bytes_eq (map (λ r. r.name) all)) regrouped can.distinct;
        there = there.1;
        held = unbroken.1;
      }),
    )

-- all rules may stand in a file of the fourth version
pub any-may : (rs : List Rule) → AllByRecursion (λ r. MayHave Fourth r.says) rs
any-may [] = tt
any-may (r ∷ rs) = (tt, any-may rs)

-- those between layers in one of the third
pub layers-may : (rs : List Rule) → AllByRecursion IsOfLayers rs → AllByRecursion (λ r. MayHave Third r.says) rs
layers-may [] are = tt
layers-may (r ∷ rs) are = (by r.says are.0, layers-may rs are.1)
  where
    by : (says : Says) → IsSaidOfLayers says → MayHave Third says
    by (OfLayers rule) is = is
    by (OfValues rule) is = absurd is

-- the rules of a well-formed content
pub rules-again : (version : Version) (content : Content) (rs : List Rule) → IsWellFormed content → length rs ≤ 65535 → AllByRecursion IsRule rs → AllByRecursion (λ r. MayHave version r.says) rs
    → IsDistinct bytes_eq (map (λ r. r.name) rs) → list_all (has_named content) rs ≡ true → broken_from 0 content rs ≡ None → Again (rules version content) (rules_bytes rs) rs
rules-again version content rs fine few are may distinct there held =
    Again-then (number 2) (λ count. items (held_rule version content) count []) (big_bytes 2 (length rs)) (flat_map rule_bytes rs) (length rs) rs
    (Again-number 2 (length rs) (omega (arith, few)))
    (Again-items (held_rule version content) rule_bytes [] rs
    (rules-follow version content fine 0 [] rs (record { are = are; may = may; distinct = distinct; there = there; held = held })))
