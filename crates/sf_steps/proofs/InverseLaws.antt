-- The inverse of an accepted edit takes the content and the edit back.
use Rattle.std.proofs.Common.{◌≡◌, ℕ, ◌+◌, ◌-◌, Bool, true, false, cond, if◌then◌else◌, List, [], ◌∷◌, ◌++◌, length, take, slice_get, slice_set, None, Some, is_some, option_map, option_and_then, Result, Ok, nat_eq, refl, ap, sym, subst, ◌∙◌, arith, length-append}
use Rattle.std.proofs.lemmas.Bool.Decides.{nat_tests}
use Rattle.std.specs.List.Sorted.{IsStrictlySortedBy}
use Rattle.std.specs.Map.{lookup, keys_of, remove_entry}
use Rattle.std.specs.Option.{option_map_or}
use Rattle.std.specs.Ordering.{nat_cmp}
use Rattle.sf_grid.specs.Plane.{Coordinates}
use Rattle.sf_geometry.specs.declared.geometry.Geometry.{Geometry}
use Rattle.sf_geometry.specs.declared.refusal.Refusal.{Refusal as GeometryRefusal}
use Rattle.sf_geometry.specs.Vertices.{vertex_of, insert_vertex, move_vertex, remove_vertex}
use Rattle.sf_features.specs.declared.column.Column.{Column}
use Rattle.sf_features.specs.declared.column_type.ColumnType.{ColumnType}
use Rattle.sf_features.specs.Features.{FeatureContent, change_geometry, plain_feature, result_or, value_in, with_geometry, with_value, without_value}
use Rattle.sf_layers.specs.Content.{Content, LayerContent, empty_layer, layer_of, has_layer, place_of, change_value, change_layer, change_feature, change_in, feature_of, feature_in, without_last_column, without_last_feature}
use Rattle.sf_layers.specs.WellFormed.{IsWellFormed}
use Rattle.sf_layers.proofs.Added.{feature_of-with_next_feature, remove_entry-with_next_feature}
use Rattle.sf_layers.proofs.Changes.{IsLayer-layer_of, layer_of-change_layer}
use Rattle.sf_layers.proofs.Places.{entry_at_place, slice_get-slice_set}
use Rattle.sf_layers.proofs.Values.{lookup-insert_entry, lookup-below}
use Rattle.sf_steps.specs.declared.edit.Edit.{Edit}
use Rattle.sf_steps.specs.declared.edit.Edit.TheVariants.{AddLayer, DropLayer, RenameLayer, MoveLayer, AddColumn, DropColumn, AddFeature, DeleteFeature, ReplaceGeometry, InsertVertex, MoveVertex, RemoveVertex, SetValue, ClearValue}
use Rattle.sf_steps.specs.declared.refusal.Refusal.TheVariants.{NoLayer, NoFeature}
use Rattle.sf_steps.specs.Steps.{unless, first_refusal, checks, effect, answer, step, next_id_of, number_in, vertex_check, add_feature, add_column}
use Rattle.sf_steps.specs.Inverses.{described, taken_back, inverse_of, answer_of, adding_layer, adding_column, renaming, setting, vertex_in, the_vertex, no_edit}
use Rattle.sf_steps.specs.Laws.{InverseTakesBack}
use Rattle.sf_steps.proofs.Passes.{Accepted-step, passed, passed_fault, there_from_test, FeatureThere, FeatureThere-feature_in, feature_in-there, changed_to}
use Rattle.sf_steps.proofs.LayersBack.{DropLayer-back, RenameLayer-back, MoveLayer-back, MoveLayer-again, DropColumn-back, change_layer-back}
use Rattle.sf_steps.proofs.FeaturesBack.{change_in-back, number_in-change_in, IsFeature-there, SetValue-back, ClearValue-back, DeleteFeature-back, ReplaceGeometry-back}
use Rattle.sf_steps.proofs.VerticesBack.{HasWholeRings, insert_vertex-back, move_vertex-back, remove_vertex-back}
use Rattle.sf_steps.proofs.VerticesAgain.{inserted_vertex, moved_vertex, removed_vertex, was_vertex}
use Rattle.sf_steps.proofs.Judged.{no_size_fault, whole-rings}
use Rattle.sf_steps.proofs.StepsFine.{vertex_check-there}

-- the last element of a longer list, and the list without it
take-last : {X : Type 0} (xs : List X) (x : X) → take (length (xs ++ x ∷ []) - 1) (xs ++ x ∷ []) ≡ xs
take-last xs x = let longer : length (xs ++ x ∷ []) - 1 ≡ length xs = omega (arith, length-append xs (x ∷ [])) in ap (λ n. take n (xs ++ x ∷ [])) longer ∙ by xs x
  where
    by : {X : Type 0} (xs : List X) (x : X) → take (length xs) (xs ++ x ∷ []) ≡ xs
    by [] x = refl
    by (y ∷ ys) x = ap (λ rest. y ∷ rest) (by ys x)

last-there : {X : Type 0} (xs : List X) (x : X) → slice_get (xs ++ x ∷ []) (length (xs ++ x ∷ []) - 1) ≡ Some x
last-there xs x = let longer : length (xs ++ x ∷ []) - 1 ≡ length xs = omega (arith, length-append xs (x ∷ [])) in ap (slice_get (xs ++ x ∷ [])) longer ∙ by xs x
  where
    by : {X : Type 0} (xs : List X) (x : X) → slice_get (xs ++ x ∷ []) (length xs) ≡ Some x
    by [] x = refl
    by (y ∷ ys) x = by ys x

-- a feature after a change of it
pub feature_in-changed : (content : Content) (name : List ℕ) (id : ℕ) (t : FeatureThere content name id) (f : FeatureContent → FeatureContent) → feature_in (change_in content name id f) name id ≡ Some (f t.feature)
feature_in-changed content name id t f =
    ap (option_and_then (λ layer. feature_of layer id)) (layer_of-change_layer content name (change_feature id f) ∙ ap (option_map (change_feature id f)) t.found)
    ∙ looked t.layer.features t.feature t.held
  where
    looked : (es : List (ℕ × FeatureContent)) (x : FeatureContent) → lookup (nat_eq id) es ≡ Some x → lookup (nat_eq id) (change_value (nat_eq id) es f) ≡ Some (f x)
    looked [] x found = cc
    looked (e ∷ es) x found = by (looked es x) (nat_eq id e.0) refl found
      where
        by : (lookup (nat_eq id) es ≡ Some x → lookup (nat_eq id) (change_value (nat_eq id) es f) ≡ Some (f x)) → (b : Bool) → nat_eq id e.0 ≡ b → cond b (Some e.1) (lookup (nat_eq id) es) ≡ Some x
            → lookup (nat_eq id) (if b then (e.0, f e.1) ∷ es else e ∷ change_value (nat_eq id) es f) ≡ Some (f x)
        by later true is h = let there : e.1 ≡ x = cc in ap (λ b. cond b (Some (f e.1)) (lookup (nat_eq id) es)) is ∙ ap (λ y. Some (f y)) there
        by later false is h = ap (λ b. cond b (Some e.1) (lookup (nat_eq id) (change_value (nat_eq id) es f))) is ∙ later h

-- ---- vertices

change_geometry-back : (f h : Geometry → Result Geometry GeometryRefusal) (feature : FeatureContent) (new : Geometry) → f feature.geometry ≡ Ok new → h new ≡ Ok feature.geometry → change_geometry h (change_geometry f feature) ≡ feature
change_geometry-back f h feature new made back =
    ap (λ r. change_geometry h (with_geometry (result_or feature.geometry r) feature)) made ∙ ap (λ r. with_geometry (result_or new r) feature) back

-- what is known of a vertex edit that passes its checks
pub record Vertex (content : Content) (name : List ℕ) (id : ℕ) (change : Geometry → Result Geometry GeometryRefusal) : Type 0 where
  pub t : FeatureThere content name id
  pub new : Geometry
  pub made : change t.feature.geometry ≡ Ok new

pub Vertex-passed : (content : Content) (name : List ℕ) (id : ℕ) (change : Geometry → Result Geometry GeometryRefusal)
    → first_refusal (unless (has_layer content name) NoLayer ∷ unless (is_some (feature_in content name id)) NoFeature ∷ vertex_check content name id change ∷ []) ≡ None → Vertex content name id change
Vertex-passed content name id change h =
    let first = passed (has_layer content name) NoLayer _ h in
    let second = passed (is_some (feature_in content name id)) NoFeature _ first.1 in
    let third = passed_fault (vertex_check content name id change) [] second.1 in
    let t = FeatureThere-feature_in content name id second.0 in
    let to = changed_to (change t.feature.geometry) (vertex_check-there content name id t change third.0) in
    record { t = t; new = to.0; made = to.1 }

vertex_in-there : (content : Content) (name : List ℕ) (id part ring index : ℕ) (t : FeatureThere content name id) → vertex_in content name id part ring index ≡ vertex_of t.feature.geometry part ring index
vertex_in-there content name id part ring index t = ap (option_and_then (λ feature. vertex_of feature.geometry part ring index)) (feature_in-there content name id t)

vertex_in-changed : (content : Content) (name : List ℕ) (id part ring index : ℕ) (change : Geometry → Result Geometry GeometryRefusal) (v : Vertex content name id change)
    → vertex_in (change_in content name id (change_geometry change)) name id part ring index ≡ vertex_of v.new part ring index
vertex_in-changed content name id part ring index change v =
    ap (option_and_then (λ feature. vertex_of feature.geometry part ring index)) (feature_in-changed content name id v.t (change_geometry change))
    ∙ ap (λ r. vertex_of (result_or v.t.feature.geometry r) part ring index) v.made

pub whole_at : (content : Content) (name : List ℕ) (id : ℕ) → IsWellFormed content → (t : FeatureThere content name id) → HasWholeRings t.feature.geometry
whole_at content name id fine t = whole-rings t.feature.geometry (IsFeature-there content name id fine t).valid

pub the_vertex-there : (content : Content) (name : List ℕ) (id part ring index : ℕ) (t : FeatureThere content name id) (old : Coordinates) → vertex_of t.feature.geometry part ring index ≡ Some old → the_vertex content name id part ring index ≡ old
the_vertex-there content name id part ring index t old was =
    ap (λ o. option_map_or (λ p. p) o (the_vertex [] [] 0 0 0 0)) (vertex_in-there content name id part ring index t ∙ was)

-- ---- columns and features

without_last-add_column : (name : List ℕ) (column_type : ColumnType) (layer : LayerContent) → without_last_column (add_column name column_type layer) ≡ layer
without_last-add_column name column_type layer =
    let column : Column = record { number = layer.next_column; name = name; column_type = column_type } in
    let one : layer.next_column + 1 - 1 ≡ layer.next_column = omega arith in
    ap (λ cs. let l : LayerContent = record layer { columns = cs; next_column = layer.next_column + 1 - 1 } in l) (take-last layer.columns column)
    ∙ ap (λ n. let l : LayerContent = record layer { next_column = n } in l) one

pub next_id-found : (content : Content) (name : List ℕ) (layer : LayerContent) → layer_of content name ≡ Some layer → next_id_of content name ≡ layer.next_id
next_id-found content name layer found = ap (λ o. option_map_or (λ l. l.next_id) o 0) found

layer_of-changed : (content : Content) (name : List ℕ) (layer : LayerContent) (f : LayerContent → LayerContent) → layer_of content name ≡ Some layer → layer_of (change_layer content name f) name ≡ Some (f layer)
layer_of-changed content name layer f found = layer_of-change_layer content name f ∙ ap (option_map f) found

module _ {X : Type 0} where
  -- what is taken out is not there
  pub lookup-remove_entry : (k : ℕ) (es : List (ℕ × X)) → IsStrictlySortedBy nat_cmp (keys_of es) → lookup (nat_eq k) (remove_entry (nat_eq k) es) ≡ None
  unfolding IsStrictlySortedBy
  lookup-remove_entry k [] rising = refl
  lookup-remove_entry k (e ∷ es) rising = by (lookup-remove_entry k es rising.1) (nat_eq k e.0) refl
    where
      by : lookup (nat_eq k) (remove_entry (nat_eq k) es) ≡ None → (b : Bool) → nat_eq k e.0 ≡ b → lookup (nat_eq k) (cond b es (e ∷ remove_entry (nat_eq k) es)) ≡ None
      by later true is = let same : e.0 ≡ k = grind (arith, nat_tests, is) in subst (λ n. lookup (nat_eq n) es ≡ None) same (lookup-below e.0 es rising.0)
      by later false is = ap (λ b. cond b (Some e.1) (lookup (nat_eq k) (remove_entry (nat_eq k) es))) is ∙ later

-- ---- all edits

back : (content : Content) (edit : Edit) → IsWellFormed content → first_refusal (checks content edit) ≡ None → described (effect content edit) (inverse_of content edit) ≡ content
back content (AddLayer name kind) fine h = take-last content (name, empty_layer kind)
back content (DropLayer name) fine h = DropLayer-back content name h
back content (RenameLayer name new_name) fine h = RenameLayer-back content name new_name h
back content (MoveLayer name place) fine h = MoveLayer-back content name place fine h
back content (AddColumn name column column_type) fine h =
    let there = there_from_test (layer_of content name) (passed (has_layer content name) NoLayer _ h).0 in
    change_layer-back content name there.0 (add_column column column_type) without_last_column there.1 (without_last-add_column column column_type there.0)
back content (DropColumn name column) fine h = DropColumn-back content name column fine h
back content (AddFeature name geometry) fine h =
    let there = there_from_test (layer_of content name) (passed (has_layer content name) NoLayer _ h).0 in
    let layer_fine = IsLayer-layer_of content name there.0 there.1 fine.layers in
    ap (λ id. change_layer (change_layer content name (add_feature geometry)) name (without_last_feature id)) (next_id-found content name there.0 there.1)
    ∙ change_layer-back content name there.0 (add_feature geometry) (without_last_feature there.0.next_id) there.1
    (ap (λ es. let l : LayerContent = record there.0 { features = es } in l) (remove_entry-with_next_feature there.0 (plain_feature geometry) layer_fine))
back content (DeleteFeature name id) fine h = DeleteFeature-back content name id fine h
back content (ReplaceGeometry name id geometry) fine h = ReplaceGeometry-back content name id geometry h
back content (InsertVertex name id part ring index point) fine h =
    let v = Vertex-passed content name id (λ g. insert_vertex g part ring index point) h in
    let is = IsFeature-there content name id fine v.t in
    change_in-back content name id v.t (change_geometry (λ g. insert_vertex g part ring index point)) (change_geometry (λ g. remove_vertex g part ring index))
    (change_geometry-back (λ g. insert_vertex g part ring index point) (λ g. remove_vertex g part ring index) v.t.feature v.new v.made
    (insert_vertex-back v.t.feature.geometry v.new part ring index point (whole_at content name id fine v.t) (no_size_fault v.t.feature.geometry is.valid.sized) v.made))
back content (MoveVertex name id part ring index point) fine h =
    let v = Vertex-passed content name id (λ g. move_vertex g part ring index point) h in
    let is = IsFeature-there content name id fine v.t in
    let was = was_vertex v.t.feature.geometry v.new part ring index point v.made in
    ap (λ p. change_in (change_in content name id (change_geometry (λ g. move_vertex g part ring index point))) name id (change_geometry (λ g. move_vertex g part ring index p)))
    (the_vertex-there content name id part ring index v.t was.0 was.1)
    ∙ change_in-back content name id v.t (change_geometry (λ g. move_vertex g part ring index point)) (change_geometry (λ g. move_vertex g part ring index was.0))
    (change_geometry-back (λ g. move_vertex g part ring index point) (λ g. move_vertex g part ring index was.0) v.t.feature v.new v.made
    (move_vertex-back v.t.feature.geometry v.new part ring index point was.0 (whole_at content name id fine v.t) (no_size_fault v.t.feature.geometry is.valid.sized) was.1 v.made))
back content (RemoveVertex name id part ring index) fine h =
    let v = Vertex-passed content name id (λ g. remove_vertex g part ring index) h in
    let is = IsFeature-there content name id fine v.t in
    let was = removed_vertex v.t.feature.geometry v.new part ring index v.made in
    ap (λ p. change_in (change_in content name id (change_geometry (λ g. remove_vertex g part ring index))) name id (change_geometry (λ g. insert_vertex g part ring index p)))
    (the_vertex-there content name id part ring index v.t was.0 was.1)
    ∙ change_in-back content name id v.t (change_geometry (λ g. remove_vertex g part ring index)) (change_geometry (λ g. insert_vertex g part ring index was.0))
    (change_geometry-back (λ g. remove_vertex g part ring index) (λ g. insert_vertex g part ring index was.0) v.t.feature v.new v.made
    (remove_vertex-back v.t.feature.geometry v.new part ring index was.0 (whole_at content name id fine v.t) (no_size_fault v.t.feature.geometry is.valid.sized) was.1 v.made))
back content (SetValue name id column value) fine h = SetValue-back content name id column value fine h
back content (ClearValue name id column) fine h = ClearValue-back content name id column fine h

again : (content : Content) (edit : Edit) → IsWellFormed content → first_refusal (checks content edit) ≡ None → taken_back (effect content edit) (inverse_of content edit) ≡ edit
again content (AddLayer name kind) fine h = ap adding_layer (last-there content (name, empty_layer kind))
again content (DropLayer name) fine h = refl
again content (RenameLayer name new_name) fine h =
    let there = there_from_test (layer_of content name) (passed (has_layer content name) NoLayer _ h).0 in
    let at = entry_at_place content name there.0 there.1 in
    ap (λ c. renaming name (slice_get c (place_of content name))) (ap (λ o. option_map_or (λ e. slice_set content (place_of content name) (new_name, e.1)) o content) at)
    ∙ ap (renaming name) (slice_get-slice_set content (place_of content name) (name, there.0) (new_name, there.0) at)
again content (MoveLayer name place) fine h = MoveLayer-again content name place fine h
again content (AddColumn name column column_type) fine h =
    let there = there_from_test (layer_of content name) (passed (has_layer content name) NoLayer _ h).0 in
    let new : Column = record { number = there.0.next_column; name = column; column_type = column_type } in
    ap (λ o. adding_column name (option_and_then (λ layer. slice_get layer.columns (length layer.columns - 1)) o)) (layer_of-changed content name there.0 (add_column column column_type) there.1)
    ∙ ap (adding_column name) (last-there there.0.columns new)
again content (DropColumn name column) fine h = refl
again content (AddFeature name geometry) fine h =
    let there = there_from_test (layer_of content name) (passed (has_layer content name) NoLayer _ h).0 in
    let layer_fine = IsLayer-layer_of content name there.0 there.1 fine.layers in
    let new : Content = change_layer content name (add_feature geometry) in
    let found : feature_in new name (next_id_of content name) ≡ Some (plain_feature geometry) =
    ap (λ id. feature_in new name id) (next_id-found content name there.0 there.1)
    ∙ ap (option_and_then (λ layer. feature_of layer there.0.next_id)) (layer_of-changed content name there.0 (add_feature geometry) there.1)
    ∙ feature_of-with_next_feature there.0 (plain_feature geometry) layer_fine in
    ap (λ o. option_map_or (λ feature. AddFeature name feature.geometry) o no_edit) found
again content (DeleteFeature name id) fine h = refl
again content (ReplaceGeometry name id geometry) fine h =
    let first = passed (has_layer content name) NoLayer _ h in
    let second = passed (is_some (feature_in content name id)) NoFeature _ first.1 in
    let t = FeatureThere-feature_in content name id second.0 in
    ap (λ o. option_map_or (λ feature. ReplaceGeometry name id feature.geometry) o no_edit) (feature_in-changed content name id t (with_geometry geometry))
again content (InsertVertex name id part ring index point) fine h =
    let v = Vertex-passed content name id (λ g. insert_vertex g part ring index point) h in
    ap (λ o. option_map_or (InsertVertex name id part ring index) o no_edit)
    (vertex_in-changed content name id part ring index (λ g. insert_vertex g part ring index point) v ∙ inserted_vertex v.t.feature.geometry v.new part ring index point v.made)
again content (MoveVertex name id part ring index point) fine h =
    let v = Vertex-passed content name id (λ g. move_vertex g part ring index point) h in
    ap (λ o. option_map_or (MoveVertex name id part ring index) o no_edit)
    (vertex_in-changed content name id part ring index (λ g. move_vertex g part ring index point) v ∙ moved_vertex v.t.feature.geometry v.new part ring index point v.made)
again content (RemoveVertex name id part ring index) fine h = refl
again content (SetValue name id column value) fine h =
    let first = passed (has_layer content name) NoLayer _ h in
    let second = passed (is_some (feature_in content name id)) NoFeature _ first.1 in
    let t = FeatureThere-feature_in content name id second.0 in
    let number = number_in content name column in
    let new : Content = change_in content name id (with_value number value) in
    ap (λ n. setting name id column (option_and_then (value_in n) (feature_in new name id))) (number_in-change_in content name id (with_value number value) column)
    ∙ ap (λ o. setting name id column (option_and_then (value_in number) o)) (feature_in-changed content name id t (with_value number value))
    ∙ ap (setting name id column) (lookup-insert_entry number value t.feature.values)
again content (ClearValue name id column) fine h =
    let first = passed (has_layer content name) NoLayer _ h in
    let second = passed (is_some (feature_in content name id)) NoFeature _ first.1 in
    let t = FeatureThere-feature_in content name id second.0 in
    let number = number_in content name column in
    let new : Content = change_in content name id (without_value number) in
    ap (λ n. setting name id column (option_and_then (value_in n) (feature_in new name id))) (number_in-change_in content name id (without_value number) column)
    ∙ ap (λ o. setting name id column (option_and_then (value_in number) o)) (feature_in-changed content name id t (without_value number))
    ∙ ap (setting name id column) (lookup-remove_entry number t.feature.values (IsFeature-there content name id fine t).rising)

answered : (content : Content) (edit : Edit) → answer_of (inverse_of content edit) ≡ answer content edit
answered content (AddLayer name kind) = refl
answered content (DropLayer name) = refl
answered content (RenameLayer name new_name) = refl
answered content (MoveLayer name place) = refl
answered content (AddColumn name column column_type) = refl
answered content (DropColumn name column) = refl
answered content (AddFeature name geometry) = refl
answered content (DeleteFeature name id) = refl
answered content (ReplaceGeometry name id geometry) = refl
answered content (InsertVertex name id part ring index point) = refl
answered content (MoveVertex name id part ring index point) = refl
answered content (RemoveVertex name id part ring index) = refl
answered content (SetValue name id column value) = refl
answered content (ClearValue name id column) = refl

pub Accepts-inverse_of : InverseTakesBack
Accepts-inverse_of old new edit given fine led =
    let accepted = Accepted-step old new edit given led in
    let inverse = inverse_of old edit in
    let same : answer_of inverse ≡ given = answered old edit ∙ accepted.answer in
    let edit_is : taken_back new inverse ≡ edit = ap (λ c. taken_back c inverse) (sym accepted.effect) ∙ again old edit fine accepted.passed in
    let to : step old edit ≡ Ok (new, answer_of inverse) = led ∙ ap (λ a. Ok (new, a)) (sym same) in (
      record {
        led = to;
        restores = record {
          described_by = sym (ap (λ c. described c inverse) (sym accepted.effect) ∙ back old edit fine accepted.passed);
          well_formed = fine;
          led = ap (step old) edit_is ∙ to;
          same = ap (inverse_of old) edit_is;
        };
        same_edit = edit_is;
      },
      same,
    )
