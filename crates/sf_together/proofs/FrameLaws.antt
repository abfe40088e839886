-- What the members of a group leave as it is.
use Rattle.std.proofs.Common.{◌≡◌, ℕ, ◌+◌, ◌≤◌, Bool, true, false, not, ◌||◌, if◌then◌else◌, List, [], ◌∷◌, ◌++◌, append_assoc, Option, None, Some, option_map, option_and_then, Result, Ok, Err, IsTrue, nat_eq, nat_le, bytes_eq, refl, ap, sym, subst, ◌∙◌, arith}
use Rattle.std.proofs.lemmas.Bool.{eqb-true}
use Rattle.std.proofs.lemmas.Slice.Eq.{bytes_eq-Decides}
use Rattle.std.specs.List.{list_any}
use Rattle.std.specs.Option.{option_map_or}
use Rattle.sf_features.specs.Features.{FeatureContent, change_geometry, plain_feature, with_geometry, with_value, without_value}
use Rattle.sf_geometry.specs.Vertices.{insert_vertex, move_vertex, remove_vertex}
use Rattle.sf_layers.specs.Content.{Content, LayerContent, layer_of, change_layer, feature_in, feature_of}
use Rattle.sf_layers.proofs.Changes.{layer_of-change_layer}
use Rattle.sf_steps.specs.declared.answer.Answer.{Answer}
use Rattle.sf_steps.specs.declared.edit.Edit.{Edit}
use Rattle.sf_steps.specs.declared.edit.Edit.TheVariants.{AddLayer, DropLayer, RenameLayer, MoveLayer, AddColumn, DropColumn, AddFeature, DeleteFeature, ReplaceGeometry, InsertVertex, MoveVertex, RemoveVertex, SetValue, ClearValue}
use Rattle.sf_steps.specs.declared.refusal.Refusal.{Refusal}
use Rattle.sf_steps.specs.Steps.{edit_layer, first_refusal, next_id_of, step}
use Rattle.sf_patches.specs.Merged.{HaveOneHead, HaveOneOrder}
use Rattle.sf_patches.proofs.MergedLaws.{lookup-insert_entry-other, lookup-remove_entry-other}
use Rattle.sf_groups.specs.declared.member.Member.{Member}
use Rattle.sf_groups.specs.Local.{is_of_features, edit_id, sight, Writing, Adds, Puts, Removes, written, checks_seen, number_seen, puts, writing, answer_seen, outcome_of, into_layer, step_seen}
use Rattle.sf_groups.specs.Members.{resolved, adds_to, may_follow, FollowInTurn, IsGroup, Refused, ids_given, in_front, and_behind, members_from, together, names}
use Rattle.sf_groups.specs.Scratches.{is_of_layer, is_looked_at}
use Rattle.sf_groups.proofs.LocalLaws.{steps-local}
use Rattle.sf_groups.proofs.ShownLaws.{LooksAtShown, layer_of-change_layer-other, lookup-change_value, nat_eq-turned}
use Rattle.sf_groups.proofs.TogetherLaws.{HaveGrown, and_true, any-at, bytes_same, features-resolved, grown-next, grown-start, layer-resolved, le_true, member-looks, or_right, step-counter}

-- ---- what a step writes

-- an accepted step wrote into the layer that it names
record Wrote (content : Content) (edit : Edit) (new : Content) : Type 0 where
  layer : LayerContent
  found : layer_of content (edit_layer edit) ≡ Some layer
  leads : new ≡ change_layer content (edit_layer edit) (written (writing (sight (edit_id edit) layer) edit))

wrote-step : (content new : Content) (edit : Edit) (answer : Answer) → IsTrue (is_of_features edit) → step content edit ≡ Ok (new, answer) → Wrote content edit new
wrote-step content new edit answer is_one led = by (layer_of content (edit_layer edit)) refl (sym (steps-local content edit is_one) ∙ led)
  where
    at : (layer : LayerContent) → layer_of content (edit_layer edit) ≡ Some layer → (o : Option Refusal)
        → into_layer content (edit_layer edit) (outcome_of o (writing (sight (edit_id edit) layer) edit, answer_seen (sight (edit_id edit) layer) edit)) ≡ Ok (new, answer) → Wrote content edit new
    at layer found None h =
        let both : ◌≡◌ {A = Content × Answer} (change_layer content (edit_layer edit) (written (writing (sight (edit_id edit) layer) edit)), answer_seen (sight (edit_id edit) layer) edit) (new, answer) = cc in
        record { layer = layer; found = found; leads = sym (ap (λ p. p.0) both) }
    at layer found (Some refusal) h = cc

    by : (o : Option LayerContent) → layer_of content (edit_layer edit) ≡ o → step_seen content edit o ≡ Ok (new, answer) → Wrote content edit new
    by None is h = cc
    by (Some layer) is h = at layer is (first_refusal (checks_seen (sight (edit_id edit) layer) edit)) h

-- the identifier that it writes
abbrev written_id : ℕ → Edit → ℕ
written_id next (AddFeature name geometry) = next
written_id next (AddLayer name kind) = 0
written_id next (DropLayer name) = 0
written_id next (RenameLayer name new_name) = 0
written_id next (MoveLayer name place) = 0
written_id next (AddColumn name column column_type) = 0
written_id next (DropColumn name column) = 0
written_id next (DeleteFeature name id) = id
written_id next (ReplaceGeometry name id geometry) = id
written_id next (InsertVertex name id part ring index point) = id
written_id next (MoveVertex name id part ring index point) = id
written_id next (RemoveVertex name id part ring index) = id
written_id next (SetValue name id column value) = id
written_id next (ClearValue name id column) = id

-- others stay
puts-kept : (j id : ℕ) (change : FeatureContent → FeatureContent) (o : Option FeatureContent) (layer : LayerContent) → nat_eq id j ≡ false → feature_of (written (puts j change o) layer) id ≡ feature_of layer id
puts-kept j id change None layer apart = lookup-remove_entry-other id j layer.features apart
puts-kept j id change (Some feature) layer apart =
    lookup-change_value id j layer.features (λ old. change feature)
    ∙ ap (λ b. if b then option_map (λ old. change feature) (feature_of layer id) else feature_of layer id) (nat_eq-turned id j apart)

feature-kept : (edit : Edit) (layer : LayerContent) (id : ℕ) → is_of_features edit ≡ true → nat_eq id (written_id layer.next_id edit) ≡ false
    → feature_of (written (writing (sight (edit_id edit) layer) edit) layer) id ≡ feature_of layer id
feature-kept (AddFeature name geometry) layer id one apart = lookup-insert_entry-other id layer.next_id (plain_feature geometry) layer.features apart
feature-kept (AddLayer name kind) layer id one apart = cc
feature-kept (DropLayer name) layer id one apart = cc
feature-kept (RenameLayer name new_name) layer id one apart = cc
feature-kept (MoveLayer name place) layer id one apart = cc
feature-kept (AddColumn name column column_type) layer id one apart = cc
feature-kept (DropColumn name column) layer id one apart = cc
feature-kept (DeleteFeature name j) layer id one apart = lookup-remove_entry-other id j layer.features apart
feature-kept (ReplaceGeometry name j geometry) layer id one apart = puts-kept j id (with_geometry geometry) (feature_of layer j) layer apart
feature-kept (InsertVertex name j part ring index point) layer id one apart = puts-kept j id (change_geometry (λ g. insert_vertex g part ring index point)) (feature_of layer j) layer apart
feature-kept (MoveVertex name j part ring index point) layer id one apart = puts-kept j id (change_geometry (λ g. move_vertex g part ring index point)) (feature_of layer j) layer apart
feature-kept (RemoveVertex name j part ring index) layer id one apart = puts-kept j id (change_geometry (λ g. remove_vertex g part ring index)) (feature_of layer j) layer apart
feature-kept (SetValue name j column value) layer id one apart = puts-kept j id (with_value (number_seen (sight j layer) column) value) (feature_of layer j) layer apart
feature-kept (ClearValue name j column) layer id one apart = puts-kept j id (without_value (number_seen (sight j layer) column)) (feature_of layer j) layer apart

-- what is written is looked at
writes-looked : (test : ℕ → Bool) (next : ℕ) (edit : Edit) → is_of_features edit ≡ true → LooksAtShown test edit → test next ≡ true → test (written_id next edit) ≡ true
writes-looked test next (AddFeature name geometry) one looks new = new
writes-looked test next (AddLayer name kind) one looks new = cc
writes-looked test next (DropLayer name) one looks new = cc
writes-looked test next (RenameLayer name new_name) one looks new = cc
writes-looked test next (MoveLayer name place) one looks new = cc
writes-looked test next (AddColumn name column column_type) one looks new = cc
writes-looked test next (DropColumn name column) one looks new = cc
writes-looked test next (DeleteFeature name id) one looks new = looks
writes-looked test next (ReplaceGeometry name id geometry) one looks new = looks
writes-looked test next (InsertVertex name id part ring index point) one looks new = looks
writes-looked test next (MoveVertex name id part ring index point) one looks new = looks
writes-looked test next (RemoveVertex name id part ring index) one looks new = looks
writes-looked test next (SetValue name id column value) one looks new = looks
writes-looked test next (ClearValue name id column) one looks new = looks

-- ---- order and heads

pub HaveOneOrder-same : (content : Content) → HaveOneOrder content content
HaveOneOrder-same [] = tt
HaveOneOrder-same (e ∷ es) = (refl, (refl, refl, refl), HaveOneOrder-same es)

pub HaveOneOrder-then : (a b c : Content) → HaveOneOrder a b → HaveOneOrder b c → HaveOneOrder a c
HaveOneOrder-then [] [] [] h k = tt
HaveOneOrder-then [] [] (z ∷ c) h k = absurd k
HaveOneOrder-then [] (y ∷ b) c h k = absurd h
HaveOneOrder-then (x ∷ a) [] c h k = absurd h
HaveOneOrder-then (x ∷ a) (y ∷ b) [] h k = absurd k
HaveOneOrder-then (x ∷ a) (y ∷ b) (z ∷ c) h k =
    (h.0 ∙ k.0, (h.1.0 ∙ k.1.0, h.1.1 ∙ k.1.1, h.1.2 ∙ k.1.2), HaveOneOrder-then a b c h.2 k.2)

written-head : (w : Writing) (layer : LayerContent) → HaveOneHead layer (written w layer)
written-head (Adds feature) layer = (refl, refl, refl)
written-head (Puts id feature) layer = (refl, refl, refl)
written-head (Removes id) layer = (refl, refl, refl)

HaveOneOrder-change_layer : (content : Content) (name : List ℕ) (f : LayerContent → LayerContent) → ((layer : LayerContent) → HaveOneHead layer (f layer)) → HaveOneOrder content (change_layer content name f)
HaveOneOrder-change_layer [] name f heads = tt
HaveOneOrder-change_layer (e ∷ es) name f heads = by (HaveOneOrder-change_layer es name f heads) (bytes_eq name e.0)
  where
    by : HaveOneOrder es (change_layer es name f) → (b : Bool) → HaveOneOrder (e ∷ es) (if b then (e.0, f e.1) ∷ es else e ∷ change_layer es name f)
    by later true = (refl, heads e.1, HaveOneOrder-same es)
    by later false = (refl, (refl, refl, refl), later)

-- ---- what members leave

-- order and heads, layers that none of them names, features that none of them looks at; and no counter falls
pub record Leaves (start : Content) (all : List Member) (old new : Content) : Type 0 where
  pub order : HaveOneOrder old new
  pub layers : (name : List ℕ) → is_of_layer all name ≡ false → layer_of new name ≡ layer_of old name
  pub features : (name : List ℕ) (id : ℕ) → is_looked_at start all name id ≡ false → feature_in new name id ≡ feature_in old name id
  pub counters : (name : List ℕ) → next_id_of old name ≤ next_id_of new name

Leaves-same : (start : Content) (all : List Member) (content : Content) → Leaves start all content content
Leaves-same start all content = record {
  order = HaveOneOrder-same content;
  layers = λ name h. refl;
  features = λ name id h. refl;
  counters = λ name. omega arith;
}

Leaves-then : (start : Content) (all : List Member) (a b c : Content) → Leaves start all a b → Leaves start all b c → Leaves start all a c
Leaves-then start all a b c h k = record {
  order = HaveOneOrder-then a b c h.order k.order;
  layers = λ name none. k.layers name none ∙ h.layers name none;
  features = λ name id none. k.features name id none ∙ h.features name id none;
  counters = λ name. omega (arith, h.counters name, k.counters name);
}

-- one member
Leaves-member : (start now new : Content) (earlier rest all : List Member) (member : Member) (answer : Answer) → all ≡ earlier ++ member ∷ rest → IsTrue (may_follow earlier member) → HaveGrown start now earlier
    → step now (resolved now member) ≡ Ok (new, answer) → Leaves start all now new
Leaves-member start now new earlier rest all member answer parts may grown led = record {
  order = subst (HaveOneOrder now) (sym wrote.leads) (HaveOneOrder-change_layer now (edit_layer (resolved now member)) (written (writing (sight (edit_id (resolved now member)) wrote.layer) (resolved now member))) (written-head (writing (sight (edit_id (resolved now member)) wrote.layer) (resolved now member))));
  layers = λ name none. apart name (by_layer name none);
  features = λ name id none. by_feature name id none (bytes_eq (edit_layer (resolved now member)) name) refl;
  counters = step-counter now new (resolved now member) answer (features-resolved now member ∙ one) led;
}
  where
    one : is_of_features member.edit ≡ true
    one = (and_true (is_of_features member.edit) (not member.of_last || list_any (adds_to (edit_layer member.edit)) earlier) may).0

    wrote : Wrote now (resolved now member) new
    wrote = wrote-step now new (resolved now member) answer (features-resolved now member ∙ one) led

    -- it is of a layer that is named
    is_in : is_of_layer all (edit_layer (resolved now member)) ≡ true
    is_in =
        ap (is_of_layer all) (layer-resolved now member) ∙ ap (λ ms. is_of_layer ms (edit_layer member.edit)) parts
        ∙ any-at (λ m. bytes_eq (edit_layer m.edit) (edit_layer member.edit)) earlier rest member (bytes_same (edit_layer member.edit))

    by_layer : (name : List ℕ) → is_of_layer all name ≡ false → bytes_eq (edit_layer (resolved now member)) name ≡ false
    by_layer name none = at (bytes_eq (edit_layer (resolved now member)) name) refl
      where
        at : (b : Bool) → bytes_eq (edit_layer (resolved now member)) name ≡ b → b ≡ false
        at true is = let yes : is_of_layer all name ≡ true = ap (is_of_layer all) (sym ((bytes_eq-Decides (edit_layer (resolved now member)) name).0 is)) ∙ is_in in cc
        at false is = refl

    apart : (name : List ℕ) → bytes_eq (edit_layer (resolved now member)) name ≡ false → layer_of new name ≡ layer_of now name
    apart name is = ap (λ c. layer_of c name) wrote.leads ∙ layer_of-change_layer-other now (edit_layer (resolved now member)) name (written (writing (sight (edit_id (resolved now member)) wrote.layer) (resolved now member))) is

    -- it writes what is looked at
    looks : is_looked_at start all (edit_layer (resolved now member)) (written_id wrote.layer.next_id (resolved now member)) ≡ true
    looks =
        writes-looked (is_looked_at start all (edit_layer (resolved now member))) wrote.layer.next_id (resolved now member) (features-resolved now member ∙ one)
        (subst (λ n. LooksAtShown (is_looked_at start all n) (resolved now member)) (sym (layer-resolved now member))
        (subst (λ ms. LooksAtShown (is_looked_at start ms (edit_layer member.edit)) (resolved now member)) (sym parts) (member-looks start now earlier rest member may grown)))
        (or_right (list_any (names (edit_layer (resolved now member)) wrote.layer.next_id) all) (nat_le (next_id_of start (edit_layer (resolved now member))) wrote.layer.next_id)
        (le_true (next_id_of start (edit_layer (resolved now member))) wrote.layer.next_id (subst (λ n. next_id_of start (edit_layer (resolved now member)) ≤ n) (ap (λ o. option_map_or (λ layer. layer.next_id) o 0) wrote.found) (grown.least (edit_layer (resolved now member))))))

    by_feature : (name : List ℕ) (id : ℕ) → is_looked_at start all name id ≡ false → (b : Bool) → bytes_eq (edit_layer (resolved now member)) name ≡ b → feature_in new name id ≡ feature_in now name id
    by_feature name id none false is = ap (option_and_then (λ layer. feature_of layer id)) (apart name is)
    by_feature name id none true is =
        let same : edit_layer (resolved now member) ≡ name = (bytes_eq-Decides (edit_layer (resolved now member)) name).0 is in
        subst (λ n. feature_in new n id ≡ feature_in now n id) same
        (ap (λ c. feature_in c (edit_layer (resolved now member)) id) wrote.leads
        ∙ ap (option_and_then (λ layer. feature_of layer id)) (layer_of-change_layer now (edit_layer (resolved now member)) (written (writing (sight (edit_id (resolved now member)) wrote.layer) (resolved now member))) ∙ ap (option_map (written (writing (sight (edit_id (resolved now member)) wrote.layer) (resolved now member)))) wrote.found)
        ∙ feature-kept (resolved now member) wrote.layer id (features-resolved now member ∙ one) (other (nat_eq id (written_id wrote.layer.next_id (resolved now member))) refl)
        ∙ sym (ap (option_and_then (λ layer. feature_of layer id)) wrote.found))
      where
        other : (b : Bool) → nat_eq id (written_id wrote.layer.next_id (resolved now member)) ≡ b → b ≡ false
        other true id_is =
            let yes : is_looked_at start all name id ≡ true =
            ap (is_looked_at start all name) (eqb-true id (written_id wrote.layer.next_id (resolved now member)) id_is)
            ∙ ap (λ n. is_looked_at start all n (written_id wrote.layer.next_id (resolved now member))) (sym ((bytes_eq-Decides (edit_layer (resolved now member)) name).0 is)) ∙ looks in cc
        other false id_is = refl

-- members, one after another
Leaves-members : (start : Content) (number : ℕ) (now new : Content) (earlier rest all : List Member) (ids : List ℕ) → all ≡ earlier ++ rest → FollowInTurn earlier rest → HaveGrown start now earlier
    → members_from number now rest ≡ Ok (new, ids) → Leaves start all now new
Leaves-members start number now new earlier [] all ids parts follow grown led =
    let both : ◌≡◌ {A = Content × List ℕ} (now, []) (new, ids) = cc in
    subst (Leaves start all now) (ap (λ p. p.0) both) (Leaves-same start all now)
Leaves-members start number now new earlier (member ∷ rest) all ids parts follow grown led =
    by (λ next more grown' led'. Leaves-members start (number + 1) next new (earlier ++ member ∷ []) rest all more (parts ∙ sym (append_assoc earlier (member ∷ []) rest)) follow.1 grown' led')
    (step now (resolved now member)) refl led
  where
    one : is_of_features member.edit ≡ true
    one = (and_true (is_of_features member.edit) (not member.of_last || list_any (adds_to (edit_layer member.edit)) earlier) follow.0).0

    behind : ((next : Content) (more : List ℕ) → HaveGrown start next (earlier ++ member ∷ []) → members_from (number + 1) next rest ≡ Ok (new, more) → Leaves start all next new)
        → (next : Content) (answer : Answer) → step now (resolved now member) ≡ Ok (next, answer) → (r : Result (Content × List ℕ) Refused) → members_from (number + 1) next rest ≡ r
        → in_front (ids_given answer) r ≡ Ok (new, ids) → Leaves start all now new
    behind later next answer took (Ok done) is h =
        let both : ◌≡◌ {A = Content × List ℕ} (done.0, ids_given answer ++ done.1) (new, ids) = cc in
        Leaves-then start all now next new (Leaves-member start now next earlier rest all member answer parts follow.0 grown took)
        (later next done.1 (grown-next start now next earlier member answer one grown took) (is ∙ ap (λ p. let r : Result (Content × List ℕ) Refused = Ok (p.0, done.1) in r) both))
    behind later next answer took (Err refused) is h = cc

    by : ((next : Content) (more : List ℕ) → HaveGrown start next (earlier ++ member ∷ []) → members_from (number + 1) next rest ≡ Ok (new, more) → Leaves start all next new)
        → (r : Result (Content × Answer) Refusal) → step now (resolved now member) ≡ r → and_behind number r (λ next. members_from (number + 1) next rest) ≡ Ok (new, ids) → Leaves start all now new
    by later (Ok done) is h = behind later done.0 done.1 is (members_from (number + 1) done.0 rest) refl h
    by later (Err refusal) is h = cc

-- a group
pub Leaves-together : (old new : Content) (members : List Member) (ids : List ℕ) → IsGroup members → together old members ≡ Ok (new, ids) → Leaves old members old new
Leaves-together old new members ids group led = Leaves-members old 1 old new [] members members ids refl group (grown-start old) led
