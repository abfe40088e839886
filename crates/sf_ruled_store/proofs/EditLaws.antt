-- Edits that no rule sees, and other names for layers, leave rules as they are.
use Rattle.std.proofs.Common.{◌≡◌, ℕ, Bool, true, false, not, ◌&&◌, ◌||◌, List, [], ◌∷◌, map, nat_eq, Option, Some, None, is_some, option_map, Ok, Err, Result, bytes_eq, refl, ap, sym, subst, ◌∙◌}
use Rattle.std.specs.Prelude.{if◌then◌else◌}
use Rattle.std.specs.List.{AllByRecursion, list_all}
use Rattle.sf_features.specs.Features.{FeatureContent, without_value}
use Rattle.sf_features.specs.Names.{is_name}
use Rattle.sf_layers.specs.Content.{Content, LayerContent, change_layer, change_value, empty_layer, has_layer, layer_of, number_named, place_of, renamed_at}
use Rattle.sf_layers.specs.WellFormed.{IsWellFormed}
use Rattle.sf_layers.proofs.Changes.{layer_of-change_layer}
use Rattle.sf_groups.proofs.ShownLaws.{layer_of-change_layer-other}
use Rattle.sf_steps.specs.declared.edit.Edit.{Edit}
use Rattle.sf_steps.specs.declared.edit.Edit.TheVariants.{AddLayer, DropLayer, RenameLayer, MoveLayer, AddColumn, DropColumn, AddFeature, DeleteFeature, ReplaceGeometry, InsertVertex, MoveVertex, RemoveVertex, SetValue, ClearValue}
use Rattle.sf_steps.specs.declared.refusal.Refusal.TheVariants.{NoLayer, BadName, LayerExists}
use Rattle.sf_steps.specs.Steps.{add_column, checks, drop_column, edit_layer, effect, first_refusal}
use Rattle.sf_steps.proofs.Passes.{absent_from_not, passed, there_from_test}
use Rattle.sf_ruled_store.specs.Changes.{OfEdit}
use Rattle.sf_features.specs.declared.column.Column.{Column}
use Rattle.sf_layers.specs.Content.{column_named}
use Rattle.sf_rules.specs.declared.rule.Rule.{Rule}
use Rattle.sf_rules.specs.declared.rule.LayerRule.{LayerRule}
use Rattle.sf_rules.specs.declared.rule.ValueRule.{ValueRule}
use Rattle.sf_rules.specs.declared.rule.Says.{Says}
use Rattle.sf_rules.specs.declared.rule.Says.TheVariants.{OfLayers, OfValues}
use Rattle.sf_rules.specs.Rules.{break_between, break_on, break_said, first_broken, of_one}
use Rattle.sf_ruled_store.specs.declared.refusal.Refusal.{Refusal}
use Rattle.sf_ruled_store.specs.Outcomes.{ruled}
use Rattle.sf_ruled_store.specs.Ruled.{Ruled, fits_column, fits_layer, has_named, has_said, renamed, renamed_said, rules_after, settled, unless_broken, why_missing, with_renamed}
use Rattle.sf_ruled_store.specs.Undos.{IsSettled, IsUnseen, changes_geometries, ends_name, is_seen, sees, sees_said}
use Rattle.sf_ruled_store.proofs.RuleNames.{named-alike}
use Rattle.sf_ruled_store.proofs.NameLaws.{itself, layer_of-moved, layer_of-push, layer_of-remove-other, layer_of-renamed, layer_of-renamed-other, same-names, turned}
use Rattle.sf_ruled_store.proofs.SightLaws.{unseen-kept, values-alike}
use Rattle.sf_ruled_store.proofs.ShapeLaws.{Features, IsAlike, break-alike, broken-alike, has-alike, shape_of, shapes, shapes_in, there-alike}

-- ---- changes of a layer that keep its shapes

shapes-change : (t : ℕ → Bool) (g : FeatureContent → FeatureContent) → ((f : FeatureContent) → (g f).geometry ≡ f.geometry) → (es : Features) → shapes (change_value t es g) ≡ shapes es
shapes-change t g same [] = refl
shapes-change t g same (e ∷ es) = by (shapes-change t g same es) (t e.0)
  where
    by : shapes (change_value t es g) ≡ shapes es → (b : Bool) → shapes (if b then (e.0, g e.1) ∷ es else e ∷ change_value t es g) ≡ shape_of e ∷ shapes es
    by rest true = ap (λ geometry. (e.0, record { geometry = geometry; values = [] }) ∷ shapes es) (same e.1)
    by rest false = ap (λ fs. shape_of e ∷ fs) rest

shapes-bare : (number : ℕ) (es : Features) → shapes (map (λ entry. (entry.0, without_value number entry.1)) es) ≡ shapes es
shapes-bare number [] = refl
shapes-bare number (e ∷ es) = ap (λ fs. shape_of e ∷ fs) (shapes-bare number es)

abbrev layer_shapes : LayerContent → Features
layer_shapes layer = shapes layer.features

shapes_in-change : (content : Content) (name : List ℕ) (f : LayerContent → LayerContent) (other : List ℕ)
    → (bytes_eq name other ≡ true → (layer : LayerContent) → layer_shapes (f layer) ≡ layer_shapes layer)
    → shapes_in (change_layer content name f) other ≡ shapes_in content other
shapes_in-change content name f other keeps = by (bytes_eq name other) refl
  where
    by : (t : Bool) → bytes_eq name other ≡ t → shapes_in (change_layer content name f) other ≡ shapes_in content other
    by false is = ap (option_map layer_shapes) (layer_of-change_layer-other content name other f is)
    by true is =
        let mapped : (o : Option LayerContent) → option_map layer_shapes (option_map f o) ≡ option_map layer_shapes o =
        λ o. all o in
        subst (λ n. shapes_in (change_layer content name f) n ≡ shapes_in content n) (same-names name other is)
        (ap (option_map layer_shapes) (layer_of-change_layer content name f) ∙ mapped (layer_of content name))
      where
        all : (o : Option LayerContent) → option_map layer_shapes (option_map f o) ≡ option_map layer_shapes o
        all None = refl
        all (Some layer) = ap Some (keeps is layer)

-- ---- edits that no rule sees

-- what rules read of a layer that is there stays, where the edit is of another layer, or leaves its name and its geometries
abbrev Tells : Edit → List ℕ → Type 0
Tells edit name = bytes_eq (edit_layer edit) name ≡ true → (changes_geometries edit ≡ false) × (ends_name edit ≡ false)

apart : (edit : Edit) (name : List ℕ) → Tells edit name → ends_name edit ≡ true → bytes_eq (edit_layer edit) name ≡ false
apart edit name tells ends = by (bytes_eq (edit_layer edit) name) refl
  where
    by : (t : Bool) → bytes_eq (edit_layer edit) name ≡ t → t ≡ false
    by false is = refl
    by true is = let no : ends_name edit ≡ false = (tells is).1 in cc

-- a name that no layer has is none of one that is there
absent-apart : (content : Content) (absent name : List ℕ) → layer_of content absent ≡ None → has_layer content name ≡ true → bytes_eq absent name ≡ false
absent-apart content absent name none there = by (bytes_eq absent name) refl
  where
    by : (t : Bool) → bytes_eq absent name ≡ t → t ≡ false
    by false is = refl
    by true is =
        let gone : layer_of content name ≡ None = subst (λ n. layer_of content n ≡ None) (same-names absent name is) none in
        let no : has_layer content name ≡ false = ap is_some gone in cc

keeps-shapes : (content : Content) (edit : Edit) (name : List ℕ) → IsWellFormed content → first_refusal (checks content edit) ≡ None → has_layer content name ≡ true → Tells edit name
    → shapes_in (effect content edit) name ≡ shapes_in content name
keeps-shapes content (AddLayer n kind) name fine h there tells = ap (option_map layer_shapes) (layer_of-push content name (n, empty_layer kind) there)
keeps-shapes content (DropLayer n) name fine h there tells = ap (option_map layer_shapes) (layer_of-remove-other content n name (apart (DropLayer n) name tells refl))
keeps-shapes content (RenameLayer n n') name fine h there tells =
    let first = passed (has_layer content n) NoLayer _ h in
    let second = passed (is_name n') BadName _ first.1 in
    let third = passed (not (has_layer content n')) LayerExists [] second.1 in
    let found = there_from_test (layer_of content n) first.0 in
    let none = absent_from_not (layer_of content n') third.0 in
    ap (option_map layer_shapes) (layer_of-renamed-other content n n' name found.0 found.1 (apart (RenameLayer n n') name tells refl) (absent-apart content n' name none there))
keeps-shapes content (MoveLayer n place) name fine h there tells =
    let first = passed (has_layer content n) NoLayer _ h in
    let found = there_from_test (layer_of content n) first.0 in
    ap (option_map layer_shapes) (layer_of-moved content n found.0 place name fine.distinct found.1)
keeps-shapes content (AddColumn n column column_type) name fine h there tells = shapes_in-change content n (add_column column column_type) name (λ is layer. refl)
keeps-shapes content (DropColumn n column) name fine h there tells =
    shapes_in-change content n (drop_column column) name (λ is layer. shapes-bare (number_named layer column) layer.features)
keeps-shapes content (AddFeature n geometry) name fine h there tells = shapes_in-change content n _ name (λ is layer. let no : true ≡ false = (tells is).0 in cc)
keeps-shapes content (DeleteFeature n id) name fine h there tells = shapes_in-change content n _ name (λ is layer. let no : true ≡ false = (tells is).0 in cc)
keeps-shapes content (ReplaceGeometry n id geometry) name fine h there tells = shapes_in-change content n _ name (λ is layer. let no : true ≡ false = (tells is).0 in cc)
keeps-shapes content (InsertVertex n id part ring index point) name fine h there tells = shapes_in-change content n _ name (λ is layer. let no : true ≡ false = (tells is).0 in cc)
keeps-shapes content (MoveVertex n id part ring index point) name fine h there tells = shapes_in-change content n _ name (λ is layer. let no : true ≡ false = (tells is).0 in cc)
keeps-shapes content (RemoveVertex n id part ring index) name fine h there tells = shapes_in-change content n _ name (λ is layer. let no : true ≡ false = (tells is).0 in cc)
keeps-shapes content (SetValue n id column value) name fine h there tells = shapes_in-change content n _ name (λ is layer. shapes-change (nat_eq id) _ (λ f. refl) layer.features)
keeps-shapes content (ClearValue n id column) name fine h there tells = shapes_in-change content n _ name (λ is layer. shapes-change (nat_eq id) _ (λ f. refl) layer.features)

-- ---- rules

and_true : (a b : Bool) → a && b ≡ true → (a ≡ true) × (b ≡ true)
and_true true true h = (refl, refl)
and_true true false h = cc
and_true false b h = cc

or_false : (a b : Bool) → a || b ≡ false → (a ≡ false) × (b ≡ false)
or_false true b h = cc
or_false false b h = (refl, h)

-- what a rule says in a new content is broken as what another said in the old, and all that it names is there as it was
abbrev SaidAlike : Content → Content → Says → Says → Type 0
SaidAlike old new says says' = (break_said new says' ≡ break_said old says) × (has_said new says' ≡ has_said old says)

-- both layers of a rule keep their shapes
alike-by : (old new : Content) (rule : LayerRule) (f : List ℕ → List ℕ) → bytes_eq (f rule.first) (f rule.second) ≡ of_one rule
    → shapes_in new (f rule.first) ≡ shapes_in old rule.first → shapes_in new (f rule.second) ≡ shapes_in old rule.second
    → SaidAlike old new (OfLayers rule) (OfLayers (record rule { first = f rule.first; second = f rule.second }))
alike-by old new rule f one first second = (
  break-alike old new rule (f rule.first) (f rule.second) one first second,
  ap (λ b. b && has_layer new (f rule.second)) (has-alike old new rule.first (f rule.first) first)
      ∙ ap (λ b. has_layer old rule.first && b) (has-alike old new rule.second (f rule.second) second),
)

same_name : List ℕ → List ℕ
same_name name = name

-- a rule between layers that does not see an edit
pub layers-unseen : (content : Content) (edit : Edit) (rule : LayerRule) → IsWellFormed content → first_refusal (checks content edit) ≡ None → has_said content (OfLayers rule) ≡ true
    → sees_said edit (OfLayers rule) ≡ false → SaidAlike content (effect content edit) (OfLayers rule) (OfLayers rule)
unfolding same_name
layers-unseen content edit rule fine h there unseen =
    let two = and_true (has_layer content rule.first) (has_layer content rule.second) there in
    alike-by content (effect content edit) rule same_name refl (keeps-shapes content edit rule.first fine h two.0 first) (keeps-shapes content edit rule.second fine h two.1 second)
  where
    both : (c d : Bool) → (c || d) && (changes_geometries edit || ends_name edit) ≡ false → c || d ≡ true → (changes_geometries edit ≡ false) × (ends_name edit ≡ false)
    both true d u is = or_false (changes_geometries edit) (ends_name edit) u
    both false true u is = or_false (changes_geometries edit) (ends_name edit) u
    both false false u is = cc

    left : (c d : Bool) → c ≡ true → c || d ≡ true
    left c d is = ap (λ b. b || d) is

    right : (c d : Bool) → d ≡ true → c || d ≡ true
    right true d is = refl
    right false d is = is

    first : Tells edit rule.first
    first is = both (bytes_eq (edit_layer edit) rule.first) (bytes_eq (edit_layer edit) rule.second) unseen (left (bytes_eq (edit_layer edit) rule.first) (bytes_eq (edit_layer edit) rule.second) is)

    second : Tells edit rule.second
    second is = both (bytes_eq (edit_layer edit) rule.first) (bytes_eq (edit_layer edit) rule.second) unseen (right (bytes_eq (edit_layer edit) rule.first) (bytes_eq (edit_layer edit) rule.second) is)

-- the layer and the column of a rule on values
pub column-there : (rule : ValueRule) (o : Option LayerContent) → fits_layer rule o ≡ true → (a : LayerContent) × (column : Column) × (o ≡ Some a) × (column_named a rule.column ≡ Some column)
column-there rule None h = cc
column-there rule (Some a) h = by (column_named a rule.column) refl h
  where
    by : (c : Option Column) → column_named a rule.column ≡ c → fits_column rule.demand c ≡ true
        → (b : LayerContent) × (column : Column) × (Some a ≡ Some b) × (column_named b rule.column ≡ Some column)
    by None is g = cc
    by (Some column) is g = (a, column, refl, is)

values-unseen : (content : Content) (edit : Edit) (rule : ValueRule) → IsWellFormed content → first_refusal (checks content edit) ≡ None → has_said content (OfValues rule) ≡ true
    → sees_said edit (OfValues rule) ≡ false → SaidAlike content (effect content edit) (OfValues rule) (OfValues rule)
values-unseen content edit rule fine h there unseen =
    let c = column-there rule (layer_of content rule.layer) there in
    values-alike content (effect content edit) rule c.0 c.1 c.2 c.3 (unseen-kept content rule c.0 c.1 fine c.2 c.3 edit h unseen)

said-unseen : (content : Content) (edit : Edit) (says : Says) → IsWellFormed content → first_refusal (checks content edit) ≡ None → has_said content says ≡ true
    → sees_said edit says ≡ false → SaidAlike content (effect content edit) says says
said-unseen content edit (OfLayers rule) fine h there unseen = layers-unseen content edit rule fine h there unseen
said-unseen content edit (OfValues rule) fine h there unseen = values-unseen content edit rule fine h there unseen

abbrev pub same_rule : Rule → Rule
same_rule rule = rule

unseen-alike : (content : Content) (edit : Edit) (rules : List Rule) → IsWellFormed content → first_refusal (checks content edit) ≡ None
    → list_all (has_named content) rules ≡ true → IsUnseen rules edit → AllByRecursion (λ rule. IsAlike content (effect content edit) rule (same_rule rule)) rules
unseen-alike content edit [] fine h there unseen = tt
unseen-alike content edit (rule ∷ rules) fine h there unseen =
    let all = and_true (has_named content rule) (list_all (has_named content) rules) there in
    let no = or_false (sees edit rule) (is_seen edit rules) unseen in
    let said = said-unseen content edit rule.says fine h all.0 no.0 in (
      record { breaks = said.0; there = said.1 },
      unseen-alike content edit rules fine h all.1 no.1,
    )

same-rules : (rules : List Rule) → map same_rule rules ≡ rules
same-rules [] = refl
same-rules (rule ∷ rules) = ap (λ rest. rule ∷ rest) (same-rules rules)

settled-alike : (old new : Content) (f : Rule → Rule) → ((rule : Rule) → (f rule).name ≡ rule.name) → (rules : List Rule) → IsSettled (ruled old rules)
    → AllByRecursion (λ rule. IsAlike old new rule (f rule)) rules → IsSettled (ruled new (map f rules))
settled-alike old new f same rules settled all = record {
  named = named-alike f same rules settled.named;
  there = there-alike old new f rules all ∙ settled.there;
  held = broken-alike old new f 0 rules all ∙ settled.held;
}

-- rules that hold hold after an edit that none sees
pub unseen-settled : (content : Content) (edit : Edit) (rules : List Rule) → IsWellFormed content → first_refusal (checks content edit) ≡ None
    → IsSettled (ruled content rules) → IsUnseen rules edit → IsSettled (ruled (effect content edit) rules)
unseen-settled content edit rules fine h held unseen =
    subst (λ rs. IsSettled (ruled (effect content edit) rs)) (same-rules rules)
    (settled-alike content (effect content edit) same_rule (λ rule. refl) rules held (unseen-alike content edit rules fine h held.there unseen))

-- and such an edit leaves them as they are
not-named : (name new_name : List ℕ) (rules : List Rule) → is_seen (RenameLayer name new_name) rules ≡ false → map (with_renamed name new_name) rules ≡ rules
not-named name new_name [] h = refl
not-named name new_name (rule ∷ rules) h =
    let both = or_false (sees (RenameLayer name new_name) rule) (is_seen (RenameLayer name new_name) rules) h in
    ap (λ says. let r : Rule = record rule { says = says } in r ∷ map (with_renamed name new_name) rules) (said rule.says both.0)
    ∙ ap (λ rest. rule ∷ rest) (not-named name new_name rules both.1)
  where
    and_false : (b : Bool) → b && true ≡ false → b ≡ false
    and_false true g = cc
    and_false false g = refl

    said : (says : Says) → sees_said (RenameLayer name new_name) says ≡ false → renamed_said name new_name says ≡ says
    said (OfLayers r) g =
        let two = or_false (bytes_eq name r.first) (bytes_eq name r.second) (and_false (bytes_eq name r.first || bytes_eq name r.second) g) in
        ap (λ (b : Bool). let l : LayerRule = record r { first = if b then new_name else r.first; second = renamed name new_name r.second } in OfLayers l) two.0
        ∙ ap (λ (b : Bool). let l : LayerRule = record r { first = r.first; second = if b then new_name else r.second } in OfLayers l) two.1
    said (OfValues r) g = ap (λ (b : Bool). let v : ValueRule = record r { layer = if b then new_name else r.layer } in OfValues v) (and_false (bytes_eq name r.layer) g)

pub unseen-rules : (edit : Edit) (rules : List Rule) → IsUnseen rules edit → rules_after rules (OfEdit edit) ≡ rules
unseen-rules (RenameLayer name new_name) rules unseen = not-named name new_name rules unseen
unseen-rules (AddLayer name kind) rules unseen = refl
unseen-rules (DropLayer name) rules unseen = refl
unseen-rules (MoveLayer name place) rules unseen = refl
unseen-rules (AddColumn name column column_type) rules unseen = refl
unseen-rules (DropColumn name column) rules unseen = refl
unseen-rules (AddFeature name geometry) rules unseen = refl
unseen-rules (DeleteFeature name id) rules unseen = refl
unseen-rules (ReplaceGeometry name id geometry) rules unseen = refl
unseen-rules (InsertVertex name id part ring index point) rules unseen = refl
unseen-rules (MoveVertex name id part ring index point) rules unseen = refl
unseen-rules (RemoveVertex name id part ring index) rules unseen = refl
unseen-rules (SetValue name id column value) rules unseen = refl
unseen-rules (ClearValue name id column) rules unseen = refl

-- ---- another name for a layer

-- the name of a layer that is there is found under its new name
renamed-shapes : (content : Content) (n n' : List ℕ) (layer : LayerContent) (name : List ℕ) → layer_of content n ≡ Some layer → layer_of content n' ≡ None → has_layer content name ≡ true
    → shapes_in (renamed_at (place_of content n) n' content) (renamed n n' name) ≡ shapes_in content name
renamed-shapes content n n' layer name found none there = by (bytes_eq n name) refl
  where
    by : (t : Bool) → bytes_eq n name ≡ t → shapes_in (renamed_at (place_of content n) n' content) (if t then n' else name) ≡ shapes_in content name
    by true is = ap (option_map layer_shapes)
        (layer_of-renamed content n n' layer found none ∙ sym found ∙ ap (layer_of content) (same-names n name is))
    by false is = ap (option_map layer_shapes) (layer_of-renamed-other content n n' name layer found is (absent-apart content n' name none there))

renamed-one : (content : Content) (n n' f s : List ℕ) → layer_of content n' ≡ None → has_layer content f ≡ true → has_layer content s ≡ true
    → bytes_eq (renamed n n' f) (renamed n n' s) ≡ bytes_eq f s
renamed-one content n n' f s none first second = by (bytes_eq n f) refl (bytes_eq n s) refl
  where
    by : (t : Bool) → bytes_eq n f ≡ t → (u : Bool) → bytes_eq n s ≡ u → bytes_eq (if t then n' else f) (if u then n' else s) ≡ bytes_eq f s
    by true is true so =
        itself n' ∙ sym (subst (λ m. bytes_eq m s ≡ true) (same-names n f is) so)
    by true is false so =
        absent-apart content n' s none second ∙ sym (subst (λ m. bytes_eq m s ≡ false) (same-names n f is) so)
    by false is true so =
        turned n' f (absent-apart content n' f none first) ∙ sym (turned s f (subst (λ m. bytes_eq m f ≡ false) (same-names n s so) is))
    by false is false so = refl

-- a layer that is there is found under its new name, if it is the one
renamed-layer : (content : Content) (n n' : List ℕ) (layer : LayerContent) (name : List ℕ) → layer_of content n ≡ Some layer → layer_of content n' ≡ None → has_layer content name ≡ true
    → layer_of (renamed_at (place_of content n) n' content) (renamed n n' name) ≡ layer_of content name
renamed-layer content n n' layer name found none there = by (bytes_eq n name) refl
  where
    by : (t : Bool) → bytes_eq n name ≡ t → layer_of (renamed_at (place_of content n) n' content) (if t then n' else name) ≡ layer_of content name
    by true is = layer_of-renamed content n n' layer found none ∙ sym found ∙ ap (layer_of content) (same-names n name is)
    by false is = layer_of-renamed-other content n n' name layer found is (absent-apart content n' name none there)

renamed-said : (content : Content) (n n' : List ℕ) (layer : LayerContent) (says : Says) → layer_of content n ≡ Some layer → layer_of content n' ≡ None → has_said content says ≡ true
    → SaidAlike content (renamed_at (place_of content n) n' content) says (renamed_said n n' says)
renamed-said content n n' layer (OfLayers rule) found none there =
    let two = and_true (has_layer content rule.first) (has_layer content rule.second) there in
    alike-by content (renamed_at (place_of content n) n' content) rule (renamed n n') (renamed-one content n n' rule.first rule.second none two.0 two.1)
    (renamed-shapes content n n' layer rule.first found none two.0) (renamed-shapes content n n' layer rule.second found none two.1)
renamed-said content n n' layer (OfValues rule) found none there =
    let c = column-there rule (layer_of content rule.layer) there in
    let same = renamed-layer content n n' layer rule.layer found none (ap is_some c.2) in
    (ap (break_on rule) same, ap (fits_layer rule) same)

renamed-alike : (content : Content) (n n' : List ℕ) (layer : LayerContent) (rules : List Rule) → layer_of content n ≡ Some layer → layer_of content n' ≡ None → list_all (has_named content) rules ≡ true
    → AllByRecursion (λ rule. IsAlike content (renamed_at (place_of content n) n' content) rule (with_renamed n n' rule)) rules
renamed-alike content n n' layer [] found none there = tt
renamed-alike content n n' layer (rule ∷ rules) found none there =
    let all = and_true (has_named content rule) (list_all (has_named content) rules) there in
    let said = renamed-said content n n' layer rule.says found none all.0 in (
      record { breaks = said.0; there = said.1 },
      renamed-alike content n n' layer rules found none all.1,
    )

-- rules hold of a layer's new name as they held of the old one
pub renamed-settled : (content : Content) (n n' : List ℕ) (rules : List Rule) → first_refusal (checks content (RenameLayer n n')) ≡ None
    → IsSettled (ruled content rules) → IsSettled (ruled (effect content (RenameLayer n n')) (map (with_renamed n n') rules))
renamed-settled content n n' rules h held =
    let first = passed (has_layer content n) NoLayer _ h in
    let second = passed (is_name n') BadName _ first.1 in
    let third = passed (not (has_layer content n')) LayerExists [] second.1 in
    let found = there_from_test (layer_of content n) first.0 in
    let none = absent_from_not (layer_of content n') third.0 in
    settled-alike content (renamed_at (place_of content n) n' content) (with_renamed n n') (λ rule. refl) rules held (renamed-alike content n n' found.0 rules found.1 none held.there)

-- ---- a content in which rules hold is no reason to refuse

pub settled-ok : (ruled : Ruled) → IsSettled ruled → settled ruled ≡ Ok ruled
settled-ok ruled held =
    let failed : Result Ruled Refusal = Err (why_missing ruled.content ruled.rules) in
    ap (λ b. if b then unless_broken ruled (first_broken ruled.content ruled.rules) else failed) held.there ∙ ap (unless_broken ruled) held.held
