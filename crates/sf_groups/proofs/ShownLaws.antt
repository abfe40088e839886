-- What one content shows of another stays shown through steps.
use Rattle.std.proofs.Common.{◌≡◌, ℕ, ◌+◌, Bool, true, false, cond, if◌then◌else◌, List, [], ◌∷◌, Option, None, Some, option_map, Result, Ok, Err, IsTrue, nat_eq, nat_lt, bytes_eq, refl, ap, sym, subst, ◌∙◌}
use Rattle.std.proofs.lemmas.Bool.{eq-eqb, eqb-true}
use Rattle.std.proofs.lemmas.Slice.Eq.{bytes_eq-Decides}
use Rattle.std.specs.List.Sorted.{IsStrictlySortedBy}
use Rattle.std.specs.Map.{keys_of, lookup}
use Rattle.std.specs.Ordering.{nat_cmp}
use Rattle.sf_steps.specs.declared.refusal.Refusal.{Refusal}
use Rattle.sf_steps.specs.declared.refusal.Refusal.TheVariants.{NoLayer, IdsExhausted, WrongKind}
use Rattle.sf_steps.specs.declared.answer.Answer.{Answer}
use Rattle.sf_steps.specs.declared.edit.Edit.{Edit}
use Rattle.sf_steps.specs.declared.edit.Edit.TheVariants.{AddLayer, DropLayer, RenameLayer, MoveLayer, AddColumn, DropColumn, AddFeature, DeleteFeature, ReplaceGeometry, InsertVertex, MoveVertex, RemoveVertex, SetValue, ClearValue}
use Rattle.sf_geometry.specs.Kinds.{kind_of}
use Rattle.sf_layers.specs.Content.{admits, Content, LayerContent, layer_of, change_layer, change_value, feature_of, with_next_feature, without_feature}
use Rattle.sf_layers.specs.WellFormed.{IsLayer, IsWellFormed, id_end}
use Rattle.sf_layers.proofs.Issued.{lookup-next}
use Rattle.sf_features.specs.Features.{FeatureContent, plain_feature}
use Rattle.sf_steps.specs.declared.answer.Answer.TheVariants.{Id}
use Rattle.sf_geometry.specs.declared.geometry.Geometry.{Geometry}
use Rattle.sf_patches.proofs.ExchangeLaws.{AreRising-fine}
use Rattle.sf_patches.proofs.Rising.{AreRising}
use Rattle.sf_steps.specs.Steps.{edit_layer, step, unless, first_refusal, size_check, validity_check}
use Rattle.sf_groups.specs.Local.{is_of_features, edit_id, Sight, sight, Writing, Adds, Puts, Removes, written, checks_seen, puts, writing, answer_seen, outcome, outcome_of, into_layer, step_seen}
use Rattle.sf_groups.specs.Groups.{content_weight}
use Rattle.sf_groups.specs.Scratches.{ShowsLayer, ShowsThere, Shows}
use Rattle.sf_layers.proofs.Changes.{IsLayer-layer_of, layer_of-change_layer}
use Rattle.sf_layers.proofs.Values.{lookup-insert_entry}
use Rattle.sf_patches.proofs.MergedLaws.{lookup-insert_entry-other, lookup-remove_entry-other, lookup-remove_entry-same}
use Rattle.sf_groups.proofs.LocalLaws.{steps-local}
use Rattle.sf_groups.proofs.WeightLaws.{WritesAlike, into-weight}

-- ---- what is found after a writing

pub nat_eq-turned : (m n : ℕ) → nat_eq m n ≡ false → nat_eq n m ≡ false
nat_eq-turned m n h = by (nat_eq n m) refl
  where
    by : (b : Bool) → nat_eq n m ≡ b → b ≡ false
    by true is = let yes : nat_eq m n ≡ true = eq-eqb m n (sym (eqb-true n m is)) in cc
    by false is = refl

pub lookup-change_value : {X : Type 0} (k j : ℕ) (es : List (ℕ × X)) (f : X → X)
    → lookup (nat_eq k) (change_value (nat_eq j) es f) ≡ (if nat_eq j k then option_map f (lookup (nat_eq k) es) else lookup (nat_eq k) es)
lookup-change_value {X} k j [] f = at None (nat_eq j k)
  where
    at : (n : Option X) (b : Bool) → n ≡ (if b then n else n)
    at n true = refl
    at n false = refl
lookup-change_value {X} k j (e ∷ es) f = by (lookup-change_value k j es f) (nat_eq j e.0) refl (nat_eq k e.0) refl
  where
    by : lookup (nat_eq k) (change_value (nat_eq j) es f) ≡ (if nat_eq j k then option_map f (lookup (nat_eq k) es) else lookup (nat_eq k) es)
        → (b : Bool) → nat_eq j e.0 ≡ b → (c : Bool) → nat_eq k e.0 ≡ c
        → lookup (nat_eq k) (if b then (e.0, f e.1) ∷ es else e ∷ change_value (nat_eq j) es f)
        ≡ (if nat_eq j k then option_map f (cond c (Some e.1) (lookup (nat_eq k) es)) else cond c (Some e.1) (lookup (nat_eq k) es))
    by later true j_is true k_is =
        let same : nat_eq j k ≡ true = eq-eqb j k (eqb-true j e.0 j_is ∙ sym (eqb-true k e.0 k_is)) in
        ap (λ c. cond c (Some (f e.1)) (lookup (nat_eq k) es)) k_is ∙ sym (ap (λ b. if b then Some (f e.1) else Some e.1) same)
    by later true j_is false k_is =
        let apart : nat_eq j k ≡ false = nat_eq-turned k j (ap (nat_eq k) (eqb-true j e.0 j_is) ∙ k_is) in
        ap (λ c. cond c (Some (f e.1)) (lookup (nat_eq k) es)) k_is ∙ sym (ap (λ b. if b then option_map f (lookup (nat_eq k) es) else lookup (nat_eq k) es) apart)
    by later false j_is true k_is =
        let apart : nat_eq j k ≡ false = ap (nat_eq j) (eqb-true k e.0 k_is) ∙ j_is in
        ap (λ c. cond c (Some e.1) (lookup (nat_eq k) (change_value (nat_eq j) es f))) k_is ∙ sym (ap (λ b. if b then Some (f e.1) else Some e.1) apart)
    by later false j_is false k_is = ap (λ c. cond c (Some e.1) (lookup (nat_eq k) (change_value (nat_eq j) es f))) k_is ∙ later

-- the same writing into two layers, of which one shows the other
ShowsLayer-written : (test : ℕ → Bool) (w : Writing) (whole part : LayerContent) → IsStrictlySortedBy nat_cmp (keys_of whole.features) → IsStrictlySortedBy nat_cmp (keys_of part.features)
    → ShowsLayer test whole part → ShowsLayer test (written w whole) (written w part)
ShowsLayer-written test (Adds feature) whole part rising rising' shows = record {
  kind = shows.kind;
  next_id = ap (λ n. n + 1) shows.next_id;
  columns = shows.columns;
  features = λ id there. by id there (nat_eq id whole.next_id) refl;
}
  where
    by : (id : ℕ) → IsTrue (test id) → (b : Bool) → nat_eq id whole.next_id ≡ b → feature_of (with_next_feature feature part) id ≡ feature_of (with_next_feature feature whole) id
    by id there true is =
        let id_is : id ≡ whole.next_id = eqb-true id whole.next_id is in
        ap (λ n. feature_of (with_next_feature feature part) n) (id_is ∙ sym shows.next_id) ∙ lookup-insert_entry part.next_id feature part.features
        ∙ sym (ap (λ n. feature_of (with_next_feature feature whole) n) id_is ∙ lookup-insert_entry whole.next_id feature whole.features)
    by id there false is =
        lookup-insert_entry-other id part.next_id feature part.features (ap (nat_eq id) shows.next_id ∙ is) ∙ shows.features id there
        ∙ sym (lookup-insert_entry-other id whole.next_id feature whole.features is)
ShowsLayer-written test (Puts j feature) whole part rising rising' shows = record {
  kind = shows.kind;
  next_id = shows.next_id;
  columns = shows.columns;
  features = λ id there.
      lookup-change_value id j part.features (λ old. feature)
      ∙ ap (λ o. if nat_eq j id then option_map (λ old. feature) o else o) (shows.features id there)
      ∙ sym (lookup-change_value id j whole.features (λ old. feature));
}
ShowsLayer-written test (Removes j) whole part rising rising' shows = record {
  kind = shows.kind;
  next_id = shows.next_id;
  columns = shows.columns;
  features = λ id there. by id there (nat_eq id j) refl;
}
  where
    by : (id : ℕ) → IsTrue (test id) → (b : Bool) → nat_eq id j ≡ b → feature_of (without_feature j part) id ≡ feature_of (without_feature j whole) id
    by id there true is =
        let id_is : id ≡ j = eqb-true id j is in
        ap (feature_of (without_feature j part)) id_is ∙ lookup-remove_entry-same j part.features rising'
        ∙ sym (ap (feature_of (without_feature j whole)) id_is ∙ lookup-remove_entry-same j whole.features rising)
    by id there false is = lookup-remove_entry-other id j part.features is ∙ shows.features id there ∙ sym (lookup-remove_entry-other id j whole.features is)

-- ---- the same outcome

sight-shown : (id : ℕ) (test : ℕ → Bool) (whole part : LayerContent) → ShowsLayer test whole part → IsTrue (test id) → sight id part ≡ sight id whole
sight-shown id test whole part shows there =
    ap (λ k. let s : Sight = record { kind = k; next_id = part.next_id; columns = part.columns; feature = feature_of part id } in s) shows.kind
    ∙ ap (λ n. let s : Sight = record { kind = whole.kind; next_id = n; columns = part.columns; feature = feature_of part id } in s) shows.next_id
    ∙ ap (λ cs. let s : Sight = record { kind = whole.kind; next_id = whole.next_id; columns = cs; feature = feature_of part id } in s) shows.columns
    ∙ ap (λ f. let s : Sight = record { kind = whole.kind; next_id = whole.next_id; columns = whole.columns; feature = f } in s) (shows.features id there)

-- an addition looks at no feature
adding-shown : (name : List ℕ) (geometry : Geometry) (test : ℕ → Bool) (whole part : LayerContent) → ShowsLayer test whole part
    → outcome (sight 0 part) (AddFeature name geometry) ≡ outcome (sight 0 whole) (AddFeature name geometry)
adding-shown name geometry test whole part shows =
    ap (λ k. outcome_of (first_refusal (unless (admits k (kind_of geometry)) WrongKind ∷ size_check geometry ∷ validity_check geometry ∷ unless (nat_lt part.next_id id_end) IdsExhausted ∷ []))
    (Adds (plain_feature geometry), Id part.next_id)) shows.kind
    ∙ ap (λ n. outcome_of (first_refusal (unless (admits whole.kind (kind_of geometry)) WrongKind ∷ size_check geometry ∷ validity_check geometry ∷ unless (nat_lt n id_end) IdsExhausted ∷ []))
    (Adds (plain_feature geometry), Id n)) shows.next_id

-- what a member looks at is shown: an addition names no feature
abbrev pub LooksAtShown : (ℕ → Bool) → Edit → Type 0
LooksAtShown test (AddFeature name geometry) = Unit {0}
LooksAtShown test edit = IsTrue (test (edit_id edit))

outcome-shown : (edit : Edit) (test : ℕ → Bool) (whole part : LayerContent) → ShowsLayer test whole part → LooksAtShown test edit → outcome (sight (edit_id edit) part) edit ≡ outcome (sight (edit_id edit) whole) edit
outcome-shown (AddFeature name geometry) test whole part shows looks = adding-shown name geometry test whole part shows
outcome-shown (AddLayer name kind) test whole part shows looks = ap (λ s. outcome s (AddLayer name kind)) (sight-shown 0 test whole part shows looks)
outcome-shown (DropLayer name) test whole part shows looks = ap (λ s. outcome s (DropLayer name)) (sight-shown 0 test whole part shows looks)
outcome-shown (RenameLayer name new_name) test whole part shows looks = ap (λ s. outcome s (RenameLayer name new_name)) (sight-shown 0 test whole part shows looks)
outcome-shown (MoveLayer name place) test whole part shows looks = ap (λ s. outcome s (MoveLayer name place)) (sight-shown 0 test whole part shows looks)
outcome-shown (AddColumn name column column_type) test whole part shows looks = ap (λ s. outcome s (AddColumn name column column_type)) (sight-shown 0 test whole part shows looks)
outcome-shown (DropColumn name column) test whole part shows looks = ap (λ s. outcome s (DropColumn name column)) (sight-shown 0 test whole part shows looks)
outcome-shown (DeleteFeature name id) test whole part shows looks = ap (λ s. outcome s (DeleteFeature name id)) (sight-shown id test whole part shows looks)
outcome-shown (ReplaceGeometry name id geometry) test whole part shows looks = ap (λ s. outcome s (ReplaceGeometry name id geometry)) (sight-shown id test whole part shows looks)
outcome-shown (InsertVertex name id part' ring index point) test whole part shows looks = ap (λ s. outcome s (InsertVertex name id part' ring index point)) (sight-shown id test whole part shows looks)
outcome-shown (MoveVertex name id part' ring index point) test whole part shows looks = ap (λ s. outcome s (MoveVertex name id part' ring index point)) (sight-shown id test whole part shows looks)
outcome-shown (RemoveVertex name id part' ring index) test whole part shows looks = ap (λ s. outcome s (RemoveVertex name id part' ring index)) (sight-shown id test whole part shows looks)
outcome-shown (SetValue name id column value) test whole part shows looks = ap (λ s. outcome s (SetValue name id column value)) (sight-shown id test whole part shows looks)
outcome-shown (ClearValue name id column) test whole part shows looks = ap (λ s. outcome s (ClearValue name id column)) (sight-shown id test whole part shows looks)

-- ---- layers of contents

pub layer_of-change_layer-other : (content : Content) (name other : List ℕ) (f : LayerContent → LayerContent) → bytes_eq name other ≡ false → layer_of (change_layer content name f) other ≡ layer_of content other
layer_of-change_layer-other [] name other f apart = refl
layer_of-change_layer-other (e ∷ es) name other f apart = at_entry (layer_of-change_layer-other es name other f apart) (bytes_eq name e.0) refl
  where
    at_entry : layer_of (change_layer es name f) other ≡ layer_of es other → (b : Bool) → bytes_eq name e.0 ≡ b
        → layer_of (if b then (e.0, f e.1) ∷ es else e ∷ change_layer es name f) other ≡ cond (bytes_eq other e.0) (Some e.1) (layer_of es other)
    at_entry later true is = by (bytes_eq other e.0) refl
      where
        by : (c : Bool) → bytes_eq other e.0 ≡ c → cond c (Some (f e.1)) (layer_of es other) ≡ cond c (Some e.1) (layer_of es other)
        by true o_is =
            let same : name ≡ other = (bytes_eq-Decides name e.0).0 is ∙ sym ((bytes_eq-Decides other e.0).0 o_is) in
            let yes : bytes_eq name other ≡ true = subst (λ n. bytes_eq name n ≡ true) (sym ((bytes_eq-Decides other e.0).0 o_is)) is in cc
        by false o_is = refl
    at_entry later false is = ap (λ o. cond (bytes_eq other e.0) (Some e.1) o) later

layer_of-rising : (content : Content) (name : List ℕ) (layer : LayerContent) → AreRising content → layer_of content name ≡ Some layer → IsStrictlySortedBy nat_cmp (keys_of layer.features)
layer_of-rising [] name layer rising found = cc
layer_of-rising (e ∷ es) name layer rising found = at_entry (λ there. layer_of-rising es name layer rising.1 there) (bytes_eq name e.0) found
  where
    at_entry : (layer_of es name ≡ Some layer → IsStrictlySortedBy nat_cmp (keys_of layer.features)) → (b : Bool) → cond b (Some e.1) (layer_of es name) ≡ Some layer → IsStrictlySortedBy nat_cmp (keys_of layer.features)
    at_entry later true h = let is : e.1 ≡ layer = cc in subst (λ l. IsStrictlySortedBy nat_cmp (keys_of l.features)) is rising.0
    at_entry later false h = later h

-- the same writing into both keeps the one shown by the other
Shows-written : (layers : List ℕ → Bool) (test : List ℕ → ℕ → Bool) (name : List ℕ) (w : Writing) (whole part : Content) → AreRising whole → AreRising part
    → Shows layers test whole part → Shows layers test (change_layer whole name (written w)) (change_layer part name (written w))
Shows-written layers test name w whole part rising rising' shows other is_in = by (bytes_eq name other) refl
  where
    there : (n : List ℕ) → (o p : Option LayerContent) → layer_of whole n ≡ o → layer_of part n ≡ p → ShowsThere (test n) o p → ShowsThere (test n) (option_map (written w) o) (option_map (written w) p)
    there n None None o_is p_is h = tt
    there n None (Some q) o_is p_is h = absurd h
    there n (Some l) None o_is p_is h = absurd h
    there n (Some l) (Some q) o_is p_is h = ShowsLayer-written (test n) w l q (layer_of-rising whole n l rising o_is) (layer_of-rising part n q rising' p_is) h

    by : (b : Bool) → bytes_eq name other ≡ b → ShowsThere (test other) (layer_of (change_layer whole name (written w)) other) (layer_of (change_layer part name (written w)) other)
    by true is =
        let same : name ≡ other = (bytes_eq-Decides name other).0 is in
        subst (λ n. ShowsThere (test other) (layer_of (change_layer whole n (written w)) other) (layer_of (change_layer part n (written w)) other)) (sym same)
        (subst (λ o. ShowsThere (test other) o (layer_of (change_layer part other (written w)) other)) (sym (layer_of-change_layer whole other (written w)))
        (subst (λ o. ShowsThere (test other) (option_map (written w) (layer_of whole other)) o) (sym (layer_of-change_layer part other (written w)))
        (there other (layer_of whole other) (layer_of part other) refl refl (shows other is_in))))
    by false is =
        subst (λ o. ShowsThere (test other) o (layer_of (change_layer part name (written w)) other)) (sym (layer_of-change_layer-other whole name other (written w) is))
        (subst (λ o. ShowsThere (test other) (layer_of whole other) o) (sym (layer_of-change_layer-other part name other (written w) is)) (shows other is_in))

-- ---- a step on both

-- where the one shows the other what an edit looks at, it writes where both have the same
puts-alike : (id : ℕ) (change : FeatureContent → FeatureContent) (o : Option FeatureContent) (a b : LayerContent) → feature_of a id ≡ feature_of b id → WritesAlike (puts id change o) a b
puts-alike id change None a b same = same
puts-alike id change (Some feature) a b same = same

writes-alike : (edit : Edit) (test : ℕ → Bool) (whole part : LayerContent) → IsTrue (is_of_features edit) → IsLayer whole → IsLayer part → ShowsLayer test whole part → LooksAtShown test edit
    → WritesAlike (writing (sight (edit_id edit) whole) edit) whole part
writes-alike (AddFeature name geometry) test whole part one fine fine' shows looks = lookup-next whole.next_id whole.features fine.ids ∙ sym (lookup-next part.next_id part.features fine'.ids)
writes-alike (AddLayer name kind) test whole part one fine fine' shows looks = cc
writes-alike (DropLayer name) test whole part one fine fine' shows looks = cc
writes-alike (RenameLayer name new_name) test whole part one fine fine' shows looks = cc
writes-alike (MoveLayer name place) test whole part one fine fine' shows looks = cc
writes-alike (AddColumn name column column_type) test whole part one fine fine' shows looks = cc
writes-alike (DropColumn name column) test whole part one fine fine' shows looks = cc
writes-alike (DeleteFeature name id) test whole part one fine fine' shows looks = sym (shows.features id looks)
writes-alike (ReplaceGeometry name id geometry) test whole part one fine fine' shows looks = puts-alike id _ (feature_of whole id) whole part (sym (shows.features id looks))
writes-alike (InsertVertex name id part' ring index point) test whole part one fine fine' shows looks = puts-alike id _ (feature_of whole id) whole part (sym (shows.features id looks))
writes-alike (MoveVertex name id part' ring index point) test whole part one fine fine' shows looks = puts-alike id _ (feature_of whole id) whole part (sym (shows.features id looks))
writes-alike (RemoveVertex name id part' ring index) test whole part one fine fine' shows looks = puts-alike id _ (feature_of whole id) whole part (sym (shows.features id looks))
writes-alike (SetValue name id column value) test whole part one fine fine' shows looks = puts-alike id _ (feature_of whole id) whole part (sym (shows.features id looks))
writes-alike (ClearValue name id column) test whole part one fine fine' shows looks = puts-alike id _ (feature_of whole id) whole part (sym (shows.features id looks))

-- what a step gives on the one it gives on the other, and the one that comes of it shows the other and has gained as much
pub data StepsAlike (layers : List ℕ → Bool) (test : List ℕ → ℕ → Bool) (old_whole old_part : Content) (of_whole of_part : Result (Content × Answer) Refusal) : Type 0 where
  BothRefused : (refusal : Refusal) → of_whole ≡ Err refusal → of_part ≡ Err refusal → StepsAlike layers test old_whole old_part of_whole of_part
  BothCarried : (whole part : Content) (answer : Answer) → of_whole ≡ Ok (whole, answer) → of_part ≡ Ok (part, answer) → Shows layers test whole part
      → content_weight whole + content_weight old_part ≡ content_weight old_whole + content_weight part → StepsAlike layers test old_whole old_part of_whole of_part

pub steps-alike : (layers : List ℕ → Bool) (test : List ℕ → ℕ → Bool) (edit : Edit) (whole part : Content) → IsTrue (is_of_features edit) → IsTrue (layers (edit_layer edit)) → LooksAtShown (test (edit_layer edit)) edit
    → IsWellFormed whole → IsWellFormed part → Shows layers test whole part → StepsAlike layers test whole part (step whole edit) (step part edit)
steps-alike layers test edit whole part is_one is_in looks fine fine' shows =
    subst (λ r. StepsAlike layers test whole part r (step part edit)) (sym (steps-local whole edit is_one))
    (subst (λ r. StepsAlike layers test whole part (step_seen whole edit (layer_of whole (edit_layer edit))) r) (sym (steps-local part edit is_one))
    (by (layer_of whole (edit_layer edit)) (layer_of part (edit_layer edit)) refl refl (shows (edit_layer edit) is_in)))
  where
    judged : (l q : LayerContent) → layer_of whole (edit_layer edit) ≡ Some l → layer_of part (edit_layer edit) ≡ Some q → (w : Writing) (answer : Answer) → WritesAlike w l q → (o : Option Refusal)
        → StepsAlike layers test whole part (into_layer whole (edit_layer edit) (outcome_of o (w, answer))) (into_layer part (edit_layer edit) (outcome_of o (w, answer)))
    judged l q l_is q_is w answer alike (Some refusal) = BothRefused refusal refl refl
    judged l q l_is q_is w answer alike None = BothCarried (change_layer whole (edit_layer edit) (written w)) (change_layer part (edit_layer edit) (written w)) answer refl refl
        (Shows-written layers test (edit_layer edit) w whole part (AreRising-fine whole fine) (AreRising-fine part fine') shows)
        (into-weight whole part (edit_layer edit) w l q l_is q_is (IsLayer-layer_of whole (edit_layer edit) l l_is fine.layers).rising (IsLayer-layer_of part (edit_layer edit) q q_is fine'.layers).rising alike)

    by : (o p : Option LayerContent) → layer_of whole (edit_layer edit) ≡ o → layer_of part (edit_layer edit) ≡ p → ShowsThere (test (edit_layer edit)) o p
        → StepsAlike layers test whole part (step_seen whole edit o) (step_seen part edit p)
    by None None o_is p_is h = BothRefused NoLayer refl refl
    by None (Some q) o_is p_is h = absurd h
    by (Some l) None o_is p_is h = absurd h
    by (Some l) (Some q) o_is p_is h =
        subst (λ r. StepsAlike layers test whole part (into_layer whole (edit_layer edit) (outcome (sight (edit_id edit) l) edit)) (into_layer part (edit_layer edit) r))
        (sym (outcome-shown edit (test (edit_layer edit)) l q h looks))
        (judged l q o_is p_is (writing (sight (edit_id edit) l) edit) (answer_seen (sight (edit_id edit) l) edit)
        (writes-alike edit (test (edit_layer edit)) l q is_one (IsLayer-layer_of whole (edit_layer edit) l o_is fine.layers) (IsLayer-layer_of part (edit_layer edit) q p_is fine'.layers) h looks)
        (first_refusal (checks_seen (sight (edit_id edit) l) edit)))
