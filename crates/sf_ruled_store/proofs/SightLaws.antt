-- What a rule on values reads of a layer: its column, and which values the features have there.
use Rattle.std.proofs.Common.{◌≡◌, ◌≤◌, ℕ, Bool, true, false, not, cond, ◌&&◌, ◌||◌, List, [], ◌∷◌, ◌++◌, map, flat_map, filter, nat_eq, nat_lt, Option, Some, None, is_some, option_map, remove, bytes_eq, refl, ap, sym, subst, arith, ◌∙◌, zero, suc, ◌+◌, IsTrue}
use Rattle.std.specs.Prelude.{if◌then◌else◌, find}
use Rattle.std.specs.List.{AllByRecursion, list_any, position_or_len}
use Rattle.std.specs.Map.{keys_of}
use Rattle.std.specs.Option.{option_and_then, option_map_or}
use Rattle.sf_features.specs.declared.attr_value.AttrValue.{AttrValue}
use Rattle.sf_features.specs.declared.column.Column.{Column}
use Rattle.sf_features.specs.declared.column_type.ColumnType.{ColumnType}
use Rattle.sf_features.specs.Columns.{IsDistinct, named, place_named}
use Rattle.sf_features.specs.Features.{FeatureContent, value_in, with_value, without_value}
use Rattle.sf_features.specs.Names.{is_name}
use Rattle.sf_features.specs.Values.{same_value}
use Rattle.sf_layers.specs.Content.{Content, LayerContent, change_feature, change_layer, change_value, column_named, column_place, empty_layer, has_layer, layer_of, number_named, place_of, with_last_column, without_column, without_values}
use Rattle.sf_layers.specs.WellFormed.{IsColumn, IsLayer, IsWellFormed}
use Rattle.sf_layers.proofs.Changes.{IsLayer-layer_of, layer_of-change_layer}
use Rattle.sf_groups.proofs.ShownLaws.{layer_of-change_layer-other}
use Rattle.sf_patches.proofs.MergedLaws.{lookup-insert_entry-other, lookup-remove_entry-other}
use Rattle.sf_steps.specs.declared.edit.Edit.{Edit}
use Rattle.sf_steps.specs.declared.edit.Edit.TheVariants.{AddLayer, DropLayer, RenameLayer, MoveLayer, AddColumn, DropColumn, AddFeature, DeleteFeature, ReplaceGeometry, InsertVertex, MoveVertex, RemoveVertex, SetValue, ClearValue}
use Rattle.sf_steps.specs.declared.refusal.Refusal.TheVariants.{NoLayer, BadName, LayerExists}
use Rattle.sf_steps.specs.Steps.{add_column, checks, drop_column, edit_layer, effect, first_refusal, number_in}
use Rattle.sf_steps.proofs.Passes.{absent_from_not, passed, there_from_test}
use Rattle.sf_rules.specs.declared.breaks.Break.{Break}
use Rattle.sf_rules.specs.declared.rule.Demand.{Demand}
use Rattle.sf_rules.specs.declared.rule.Demand.TheVariants.{InRange, OneOf, Required, Unique}
use Rattle.sf_rules.specs.declared.rule.ValueRule.{ValueRule}
use Rattle.sf_rules.specs.declared.rule.Says.TheVariants.{OfValues}
use Rattle.sf_rules.specs.Rules.{alone_break, break_in, break_of_values, break_on, breaks_in, first_of, has_value, has_wrong, is_double, is_wrong, pair_break}
use Rattle.sf_ruled_store.specs.Ruled.{fits_column, fits_layer}
use Rattle.sf_ruled_store.specs.Undos.{changes_column, ends_name, sees_said}
use Rattle.sf_ruled_store.proofs.NameLaws.{itself, layer_of-moved, layer_of-push, layer_of-remove-other, layer_of-renamed-other, same-names, turned}

abbrev pub Features : Type 0
Features = List (ℕ × FeatureContent)

-- an identifier, and the value that its feature has in the column of a number
abbrev Reading : Type 0
Reading = ℕ × Option AttrValue

abbrev reading_of : ℕ → ℕ × FeatureContent → Reading
reading_of number entry = (entry.0, value_in number entry.1)

abbrev pub readings : ℕ → Features → List Reading
readings number features = map (reading_of number) features

-- ---- breaks are of readings

abbrev are_double : Reading → Reading → Bool
are_double a b = nat_lt a.0 b.0 && option_map_or (λ value. option_map_or (same_value value) b.1 false) a.1 false

abbrev wrong_in : Demand → Reading → Bool
wrong_in demand a = is_wrong demand a.1

abbrev numbers_with : ℕ → List Reading → List (ℕ × ℕ)
numbers_with i others = map (λ (b : Reading). (i, b.0)) others

abbrev numbers_of : ℕ → Features → List (ℕ × ℕ)
numbers_of i others = map (λ (b : ℕ × FeatureContent). (i, b.0)) others

row-reads : (number : ℕ) (a : ℕ × FeatureContent) (es : Features)
    → numbers_with a.0 (filter (are_double (reading_of number a)) (readings number es)) ≡ numbers_of a.0 (filter (is_double number a) es)
row-reads number a [] = refl
row-reads number a (e ∷ es) = by (is_double number a e) (row-reads number a es)
  where
    by : (t : Bool) → numbers_with a.0 (filter (are_double (reading_of number a)) (readings number es)) ≡ numbers_of a.0 (filter (is_double number a) es)
        → numbers_with a.0 (cond t (reading_of number e ∷ filter (are_double (reading_of number a)) (readings number es)) (filter (are_double (reading_of number a)) (readings number es)))
        ≡ numbers_of a.0 (cond t (e ∷ filter (is_double number a) es) (filter (is_double number a) es))
    by true later = ap (λ rest. (a.0, e.0) ∷ rest) later
    by false later = later

rows-read : (number : ℕ) (firsts es : Features)
    → flat_map (λ (a : Reading). numbers_with a.0 (filter (are_double a) (readings number es))) (readings number firsts) ≡ flat_map (λ a. numbers_of a.0 (filter (is_double number a) es)) firsts
rows-read number [] es = refl
rows-read number (a ∷ firsts) es =
    ap (λ r. r ++ flat_map (λ (b : Reading). numbers_with b.0 (filter (are_double b) (readings number es))) (readings number firsts)) (row-reads number a es)
    ∙ ap (λ rest. numbers_of a.0 (filter (is_double number a) es) ++ rest) (rows-read number firsts es)

alone-reads : (demand : Demand) (number : ℕ) (es : Features) → keys_of (filter (wrong_in demand) (readings number es)) ≡ keys_of (filter (has_wrong demand number) es)
alone-reads demand number [] = refl
alone-reads demand number (e ∷ es) = by (has_wrong demand number e) (alone-reads demand number es)
  where
    read : List Reading
    read = filter (wrong_in demand) (readings number es)

    by : (t : Bool) → keys_of read ≡ keys_of (filter (has_wrong demand number) es)
        → keys_of (cond t (reading_of number e ∷ read) read) ≡ keys_of (cond t (e ∷ filter (has_wrong demand number) es) (filter (has_wrong demand number) es))
    by true later = ap (λ rest. e.0 ∷ rest) later
    by false later = later

-- what breaks a rule, by the readings
abbrev breaks_by : Demand → List Reading → List Break
breaks_by Unique rs = map pair_break (flat_map (λ (a : Reading). numbers_with a.0 (filter (are_double a) rs)) rs)
breaks_by demand rs = map alone_break (keys_of (filter (wrong_in demand) rs))

breaks-read : (demand : Demand) (number : ℕ) (layer : LayerContent) → breaks_by demand (readings number layer.features) ≡ breaks_in demand number layer
breaks-read Unique number layer = ap (map pair_break) (rows-read number layer.features layer.features)
breaks-read Required number layer = ap (map alone_break) (alone-reads Required number layer.features)
breaks-read (OneOf allowed) number layer = ap (map alone_break) (alone-reads (OneOf allowed) number layer.features)
breaks-read (InRange range) number layer = ap (map alone_break) (alone-reads (InRange range) number layer.features)

-- ---- a layer that keeps a column

-- a column of a layer is there in another one too, with the same values
pub record KeepsColumn (a b : LayerContent) (name : List ℕ) (column : Column) : Type 0 where
  pub there : column_named b name ≡ Some column
  pub same : readings column.number b.features ≡ readings column.number a.features

break-kept : (demand : Demand) (a b : LayerContent) (name : List ℕ) (column : Column) → column_named a name ≡ Some column → KeepsColumn a b name column
    → break_in demand b (column_named b name) ≡ break_in demand a (column_named a name)
break-kept demand a b name column found keeps =
    ap (break_in demand b) keeps.there
    ∙ ap first_of (sym (breaks-read demand column.number b) ∙ ap (breaks_by demand) keeps.same ∙ breaks-read demand column.number a)
    ∙ sym (ap (break_in demand a) found)

-- ---- changes of a layer that keep it

values-change : (number : ℕ) (t : ℕ → Bool) (g : FeatureContent → FeatureContent) → ((f : FeatureContent) → value_in number (g f) ≡ value_in number f) → (es : Features)
    → readings number (change_value t es g) ≡ readings number es
values-change number t g same [] = refl
values-change number t g same (e ∷ es) = by (values-change number t g same es) (t e.0)
  where
    by : readings number (change_value t es g) ≡ readings number es → (b : Bool) → readings number (if b then (e.0, g e.1) ∷ es else e ∷ change_value t es g) ≡ reading_of number e ∷ readings number es
    by rest true = ap (λ v. let r : Reading = (e.0, v) in r ∷ readings number es) (same e.1)
    by rest false = ap (λ rs. reading_of number e ∷ rs) rest

values-bare : (number other : ℕ) → nat_eq number other ≡ false → (es : Features) → readings number (map (λ entry. (entry.0, without_value other entry.1)) es) ≡ readings number es
values-bare number other apart [] = refl
values-bare number other apart (e ∷ es) =
    ap (λ v. let r : Reading = (e.0, v) in r ∷ readings number (map (λ (entry : ℕ × FeatureContent). (entry.0, without_value other entry.1)) es)) (lookup-remove_entry-other number other e.1.values apart)
    ∙ ap (λ rs. reading_of number e ∷ rs) (values-bare number other apart es)

-- columns of two names have two numbers

no-column : (cs : List Column) (name : List ℕ) (number : ℕ) (column : Column) → named cs name ≡ Some column → list_any (nat_eq number) (map (λ c. c.number) cs) ≡ false → nat_eq number column.number ≡ false
no-column [] name number column found none = cc
no-column (c ∷ cs) name number column found none = by (bytes_eq name c.name) (nat_eq number c.number) refl found none (no-column cs name number column)
  where
    by : (t u : Bool) → nat_eq number c.number ≡ u → cond t (Some c) (named cs name) ≡ Some column → u || list_any (nat_eq number) (map (λ d. d.number) cs) ≡ false
        → (named cs name ≡ Some column → list_any (nat_eq number) (map (λ d. d.number) cs) ≡ false → nat_eq number column.number ≡ false) → nat_eq number column.number ≡ false
    by t true is f n later = cc
    by true false is f n later = let same : c ≡ column = cc in ap (λ (d : Column). nat_eq number d.number) (sym same) ∙ is
    by false false is f n later = later f n

eq-turned : (m n : ℕ) → nat_eq m n ≡ false → nat_eq n m ≡ false
eq-turned m n h = grind (arith, h)

two-numbers : (cs : List Column) (name other : List ℕ) (a b : Column) → IsDistinct nat_eq (map (λ c. c.number) cs) → bytes_eq name other ≡ false → named cs name ≡ Some a → named cs other ≡ Some b
    → nat_eq a.number b.number ≡ false
two-numbers [] name other a b distinct apart found founds = cc
two-numbers (c ∷ cs) name other a b distinct apart found founds =
    by (bytes_eq name c.name) refl (bytes_eq other c.name) refl found founds (two-numbers cs name other a b distinct.1 apart)
  where
    both : bytes_eq name c.name ≡ true → bytes_eq other c.name ≡ true → ⊥
    both is js =
        let one : name ≡ c.name = same-names name c.name is in
        let two : other ≡ c.name = same-names other c.name js in
        let same : bytes_eq name other ≡ true = ap (bytes_eq name) two ∙ is in
        let wrong : true ≡ false = sym same ∙ apart in cc

    by : (t : Bool) → bytes_eq name c.name ≡ t → (u : Bool) → bytes_eq other c.name ≡ u → cond t (Some c) (named cs name) ≡ Some a → cond u (Some c) (named cs other) ≡ Some b
        → (named cs name ≡ Some a → named cs other ≡ Some b → nat_eq a.number b.number ≡ false) → nat_eq a.number b.number ≡ false
    by true is true js f g later = absurd (both is js)
    by true is false js f g later =
        let same : c ≡ a = cc in
        ap (λ (d : Column). nat_eq d.number b.number) (sym same) ∙ no-column cs other c.number b g distinct.0
    by false is true js f g later =
        let same : c ≡ b = cc in
        ap (λ (d : Column). nat_eq a.number d.number) (sym same) ∙ eq-turned c.number a.number (no-column cs name c.number a f distinct.0)
    by false is false js f g later = later f g

issued : (end : ℕ) (cs : List Column) (name : List ℕ) (column : Column) → AllByRecursion (IsColumn end) cs → named cs name ≡ Some column → 1 ≤ column.number
issued end [] name column all found = cc
issued end (c ∷ cs) name column all found = by (bytes_eq name c.name) found (issued end cs name column all.1)
  where
    by : (t : Bool) → cond t (Some c) (named cs name) ≡ Some column → (named cs name ≡ Some column → 1 ≤ column.number) → 1 ≤ column.number
    by true f later = let same : c ≡ column = cc in subst (λ (d : Column). 1 ≤ d.number) same all.0.1.0
    by false f later = later f

not-zero : (n : ℕ) → 1 ≤ n → nat_eq n 0 ≡ false
not-zero n h = grind (arith, h)

-- the number of another column, or 0 where there is none
pub other-number : (layer : LayerContent) (name other : List ℕ) (column : Column) → IsLayer layer → bytes_eq name other ≡ false → column_named layer name ≡ Some column
    → nat_eq column.number (number_named layer other) ≡ false
other-number layer name other column fine apart found = by (column_named layer other) refl
  where
    by : (o : Option Column) → column_named layer other ≡ o → nat_eq column.number (option_map_or (λ (c : Column). c.number) o 0) ≡ false
    by None is = not-zero column.number (issued layer.next_column layer.columns name column fine.columns found)
    by (Some c) is = two-numbers layer.columns name other column c fine.column_numbers apart found is

-- columns put last, and taken out

named-last : (cs : List Column) (name : List ℕ) (c column : Column) → named cs name ≡ Some column → named (cs ++ c ∷ []) name ≡ Some column
named-last [] name c column found = cc
named-last (d ∷ cs) name c column found = by (bytes_eq name d.name) found (named-last cs name c column)
  where
    by : (t : Bool) → cond t (Some d) (named cs name) ≡ Some column → (named cs name ≡ Some column → named (cs ++ c ∷ []) name ≡ Some column) → cond t (Some d) (named (cs ++ c ∷ []) name) ≡ Some column
    by true f later = f
    by false f later = later f

named-without : (cs : List Column) (name other : List ℕ) → bytes_eq name other ≡ false → named (remove cs (place_named cs other)) name ≡ named cs name
named-without [] name other apart = refl
named-without (c ∷ cs) name other apart = by (named-without cs name other apart) (bytes_eq other c.name) refl
  where
    by : named (remove cs (place_named cs other)) name ≡ named cs name → (t : Bool) → bytes_eq other c.name ≡ t
        → named (remove (c ∷ cs) (cond (not (bytes_eq other c.name)) (1 + place_named cs other) 0)) name ≡ named (c ∷ cs) name
    by later true is =
        let elsewhere : bytes_eq name c.name ≡ false = ap (bytes_eq name) (sym (same-names other c.name is)) ∙ apart in
        ap (λ b. named (remove (c ∷ cs) (cond (not b) (1 + place_named cs other) 0)) name) is
        ∙ sym (ap (λ b. cond b (Some c) (named cs name)) elsewhere)
    by later false is =
        let next : 1 + place_named cs other ≡ suc (place_named cs other) = omega arith in
        ap (λ b. named (remove (c ∷ cs) (cond (not b) (1 + place_named cs other) 0)) name) is
        ∙ ap (λ n. named (remove (c ∷ cs) n) name) next
        ∙ ap (λ o. cond (bytes_eq name c.name) (Some c) o) later

-- ---- edits that the rule does not see

and_false : (b : Bool) → b && true ≡ false → b ≡ false
and_false true h = cc
and_false false h = refl

-- a rule's layer is there in another content, and keeps the column
pub record IsKeptIn (content : Content) (rule : ValueRule) (a : LayerContent) (column : Column) : Type 0 where
  pub layer : LayerContent
  pub found : layer_of content rule.layer ≡ Some layer
  pub keeps : KeepsColumn a layer rule.column column

module _ (content : Content) (rule : ValueRule) (a : LayerContent) (column : Column) (fine : IsWellFormed content) (found : layer_of content rule.layer ≡ Some a) (named_so : column_named a rule.column ≡ Some column) where
  -- the same layer
  itself-kept : (new : Content) → layer_of new rule.layer ≡ layer_of content rule.layer → IsKeptIn new rule a column
  itself-kept new same = record { layer = a; found = same ∙ found; keeps = record { there = named_so; same = refl } }

  stands : has_layer content rule.layer ≡ true
  stands = ap is_some found

  -- a layer that is changed, if it is this one
  changed-kept : (n : List ℕ) (f : LayerContent → LayerContent) → (bytes_eq n rule.layer ≡ true → KeepsColumn a (f a) rule.column column) → IsKeptIn (change_layer content n f) rule a column
  changed-kept n f keeps = by (bytes_eq n rule.layer) refl
    where
      by : (t : Bool) → bytes_eq n rule.layer ≡ t → IsKeptIn (change_layer content n f) rule a column
      by false is = itself-kept (change_layer content n f) (layer_of-change_layer-other content n rule.layer f is)
      by true is = record {
        layer = f a;
        found = ap (λ m. layer_of (change_layer content m f) rule.layer) (same-names n rule.layer is) ∙ layer_of-change_layer content rule.layer f ∙ ap (option_map f) found;
        keeps = keeps is;
      }

  -- a feature that is changed, with its value there kept
  feature-kept : (id : ℕ) (g : FeatureContent → FeatureContent) → ((f : FeatureContent) → value_in column.number (g f) ≡ value_in column.number f) → KeepsColumn a (change_feature id g a) rule.column column
  feature-kept id g same = record { there = named_so; same = values-change column.number (nat_eq id) g same a.features }

  layer-fine : IsLayer a
  layer-fine = IsLayer-layer_of content rule.layer a found fine.layers

  -- what is not seen at its layer
  unseen-here : (edit : Edit) → sees_said edit (OfValues rule) ≡ false → bytes_eq (edit_layer edit) rule.layer ≡ true → changes_column rule.column edit || ends_name edit ≡ false
  unseen-here edit h is = sym (ap (λ b. b && (changes_column rule.column edit || ends_name edit)) is) ∙ h

  or_left : (b : Bool) → b || false ≡ false → b ≡ false
  or_left true h = cc
  or_left false h = refl

  -- the number of another column of the layer
  number-apart : (n other : List ℕ) → bytes_eq n rule.layer ≡ true → bytes_eq rule.column other ≡ false → nat_eq column.number (number_in content n other) ≡ false
  number-apart n other is apart =
      ap (λ m. nat_eq column.number (number_in content m other)) (same-names n rule.layer is)
      ∙ ap (λ o. nat_eq column.number (option_map_or (λ (c : Column). c.number) (option_and_then (λ (l : LayerContent). column_named l other) o) 0)) found
      ∙ other-number a rule.column other column layer-fine apart named_so

  absent-other : (absent : List ℕ) → layer_of content absent ≡ None → bytes_eq absent rule.layer ≡ false
  absent-other absent none = by (bytes_eq absent rule.layer) refl
    where
      by : (t : Bool) → bytes_eq absent rule.layer ≡ t → t ≡ false
      by false is = refl
      by true is =
          let gone : layer_of content rule.layer ≡ None = subst (λ m. layer_of content m ≡ None) (same-names absent rule.layer is) none in
          let wrong : None ≡ Some a = sym gone ∙ found in cc

  pub unseen-kept : (edit : Edit) → first_refusal (checks content edit) ≡ None → sees_said edit (OfValues rule) ≡ false → IsKeptIn (effect content edit) rule a column
  unseen-kept (AddLayer n kind) h unseen = itself-kept (content ++ (n, empty_layer kind) ∷ []) (layer_of-push content rule.layer (n, empty_layer kind) stands)
  unseen-kept (DropLayer n) h unseen = itself-kept (remove content (place_of content n)) (layer_of-remove-other content n rule.layer (and_false (bytes_eq n rule.layer) unseen))
  unseen-kept (RenameLayer n n') h unseen =
      let first = passed (has_layer content n) NoLayer _ h in
      let second = passed (is_name n') BadName _ first.1 in
      let third = passed (not (has_layer content n')) LayerExists [] second.1 in
      let there = there_from_test (layer_of content n) first.0 in
      let none = absent_from_not (layer_of content n') third.0 in
      itself-kept (effect content (RenameLayer n n')) (layer_of-renamed-other content n n' rule.layer there.0 there.1 (and_false (bytes_eq n rule.layer) unseen) (absent-other n' none))
  unseen-kept (MoveLayer n place) h unseen =
      let first = passed (has_layer content n) NoLayer _ h in
      let there = there_from_test (layer_of content n) first.0 in
      itself-kept (effect content (MoveLayer n place)) (layer_of-moved content n there.0 place rule.layer fine.distinct there.1)
  unseen-kept (AddColumn n other column_type) h unseen =
      changed-kept n (add_column other column_type) (λ is. record { there = named-last a.columns rule.column (record { number = a.next_column; name = other; column_type = column_type }) column named_so; same = refl })
  unseen-kept (DropColumn n other) h unseen =
      changed-kept n (drop_column other) (λ is.
      let apart = or_left (bytes_eq rule.column other) (unseen-here (DropColumn n other) unseen is) in
      record {
        there = named-without a.columns rule.column other apart ∙ named_so;
        same = values-bare column.number (number_named a other) (other-number a rule.column other column layer-fine apart named_so) a.features;
      })
  unseen-kept (AddFeature n geometry) h unseen = changed-kept n _ (λ is. let no : true ≡ false = unseen-here (AddFeature n geometry) unseen is in cc)
  unseen-kept (DeleteFeature n id) h unseen = changed-kept n _ (λ is. let no : true ≡ false = unseen-here (DeleteFeature n id) unseen is in cc)
  unseen-kept (ReplaceGeometry n id geometry) h unseen = changed-kept n _ (λ is. feature-kept id _ (λ f. refl))
  unseen-kept (InsertVertex n id part ring index point) h unseen = changed-kept n _ (λ is. feature-kept id _ (λ f. refl))
  unseen-kept (MoveVertex n id part ring index point) h unseen = changed-kept n _ (λ is. feature-kept id _ (λ f. refl))
  unseen-kept (RemoveVertex n id part ring index) h unseen = changed-kept n _ (λ is. feature-kept id _ (λ f. refl))
  unseen-kept (SetValue n id other value) h unseen =
      changed-kept n _ (λ is.
      feature-kept id (with_value (number_in content n other) value) (λ f.
      lookup-insert_entry-other column.number (number_in content n other) value f.values (number-apart n other is (or_left (bytes_eq rule.column other) (unseen-here (SetValue n id other value) unseen is)))))
  unseen-kept (ClearValue n id other) h unseen =
      changed-kept n _ (λ is.
      feature-kept id (without_value (number_in content n other)) (λ f.
      lookup-remove_entry-other column.number (number_in content n other) f.values (number-apart n other is (or_left (bytes_eq rule.column other) (unseen-here (ClearValue n id other) unseen is)))))

-- such a rule is broken then as it was before, and what it names is there and fits as it did
pub values-alike : (old new : Content) (rule : ValueRule) (a : LayerContent) (column : Column) → layer_of old rule.layer ≡ Some a → column_named a rule.column ≡ Some column → IsKeptIn new rule a column
    → (break_of_values new rule ≡ break_of_values old rule) × (fits_layer rule (layer_of new rule.layer) ≡ fits_layer rule (layer_of old rule.layer))
values-alike old new rule a column found named_so kept = (
  ap (break_on rule) kept.found ∙ break-kept rule.demand a kept.layer rule.column column named_so kept.keeps ∙ sym (ap (break_on rule) found),
  ap (fits_layer rule) kept.found ∙ ap (fits_column rule.demand) (kept.keeps.there ∙ sym named_so) ∙ sym (ap (fits_layer rule) found),
)
