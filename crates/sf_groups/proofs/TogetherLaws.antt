-- What a group does on a scratch content it does on the whole one.
use Rattle.std.proofs.Common.{◌≡◌, ◌⊎◌, inl, inr, ℕ, ◌+◌, ◌-◌, ◌<◌, ◌≤◌, Bool, true, false, not, ◌&&◌, ◌||◌, if◌then◌else◌, List, [], ◌∷◌, ◌++◌, append_assoc, Option, None, Some, option_map, Result, Ok, Err, IsTrue, nat_eq, nat_le, bytes_eq, refl, ap, sym, subst, ◌∙◌, arith}
use Rattle.std.proofs.lemmas.Bool.{eq-eqb}
use Rattle.std.proofs.lemmas.Bool.Decides.{nat_tests}
use Rattle.std.proofs.lemmas.Slice.Eq.{bytes_eq-Decides}
use Rattle.std.specs.List.{AllByRecursion, list_any}
use Rattle.std.specs.Option.{option_map_or}
use Rattle.sf_layers.specs.Content.{Content, LayerContent, layer_of, has_layer, change_layer}
use Rattle.sf_layers.specs.WellFormed.{IsWellFormed}
use Rattle.sf_layers.proofs.Changes.{layer_of-change_layer}
use Rattle.sf_steps.specs.declared.answer.Answer.{Answer}
use Rattle.sf_steps.specs.declared.edit.Edit.{Edit}
use Rattle.sf_steps.specs.declared.edit.Edit.TheVariants.{AddLayer, DropLayer, RenameLayer, MoveLayer, AddColumn, DropColumn, AddFeature, DeleteFeature, ReplaceGeometry, InsertVertex, MoveVertex, RemoveVertex, SetValue, ClearValue}
use Rattle.sf_steps.specs.declared.refusal.Refusal.{Refusal}
use Rattle.sf_steps.specs.declared.refusal.Refusal.TheVariants.{NoLayer}
use Rattle.sf_steps.specs.Steps.{edit_layer, next_id_of, step, add_feature}
use Rattle.sf_steps.specs.Laws.{BringsGridPoints}
use Rattle.sf_steps.proofs.Passes.{Accepted-step, passed, there_from_test}
use Rattle.sf_steps.proofs.StepsFine.{IsWellFormed-step}
use Rattle.sf_groups.specs.declared.member.Member.{Member}
use Rattle.sf_groups.specs.Local.{is_of_features, edit_id, sight, Writing, Adds, Puts, Removes, written, outcome, into_layer, step_seen}
use Rattle.sf_groups.specs.Groups.{content_weight}
use Rattle.sf_groups.specs.Members.{with_id, resolved, edit_adds_to, adds_to, may_follow, FollowInTurn, Refused, ids_given, in_front, and_behind, members_from, together, names}
use Rattle.sf_groups.specs.Scratches.{is_of_layer, is_looked_at, ShowsThere, Shows}
use Rattle.sf_groups.specs.Laws.{DoesAlike, ScratchesDoAlike}
use Rattle.sf_groups.proofs.LocalLaws.{steps-local}
use Rattle.sf_groups.proofs.ShownLaws.{LooksAtShown, StepsAlike, BothRefused, BothCarried, steps-alike, layer_of-change_layer-other}

-- ---- tests

pub bytes_same : (a : List ℕ) → bytes_eq a a ≡ true
bytes_same a = (bytes_eq-Decides a a).1 refl

pub or_right : (a b : Bool) → b ≡ true → a || b ≡ true
or_right true b h = refl
or_right false b h = h

pub or_left : (a b : Bool) → a ≡ true → a || b ≡ true
or_left true b h = refl
or_left false b h = cc

pub and_true : (a b : Bool) → a && b ≡ true → (a ≡ true) × (b ≡ true)
and_true true true h = (refl, refl)
and_true true false h = cc
and_true false b h = cc

-- a test that one of several passes
pub any-at : {X : Type 0} (test : X → Bool) (a b : List X) (x : X) → test x ≡ true → list_any test (a ++ x ∷ b) ≡ true
any-at test [] b x h = or_left (test x) (list_any test b) h
any-at test (y ∷ a) b x h = or_right (test y) (list_any test (a ++ x ∷ b)) (any-at test a b x h)

any-append : {X : Type 0} (test : X → Bool) (a : List X) (x : X) → list_any test (a ++ x ∷ []) ≡ true → (list_any test a ≡ true) ⊎ (test x ≡ true)
any-append test [] x h = by (test x) h
  where
    by : (b : Bool) → b || false ≡ true → (false ≡ true) ⊎ (b ≡ true)
    by true h = inr refl
    by false h = inl h
any-append {X} test (y ∷ a) x h = by (test y) (any-append test a x) h
  where
    by : (b : Bool) → (list_any test (a ++ x ∷ []) ≡ true → (list_any test a ≡ true) ⊎ (test x ≡ true)) → b || list_any test (a ++ x ∷ []) ≡ true → (b || list_any test a ≡ true) ⊎ (test x ≡ true)
    by true later h = inl refl
    by false later h = later h

-- ---- the edit of a member

layer-with_id : (id : ℕ) (edit : Edit) → edit_layer (with_id id edit) ≡ edit_layer edit
layer-with_id id (AddLayer name kind) = refl
layer-with_id id (DropLayer name) = refl
layer-with_id id (RenameLayer name new_name) = refl
layer-with_id id (MoveLayer name place) = refl
layer-with_id id (AddColumn name column column_type) = refl
layer-with_id id (DropColumn name column) = refl
layer-with_id id (AddFeature name geometry) = refl
layer-with_id id (DeleteFeature name old) = refl
layer-with_id id (ReplaceGeometry name old geometry) = refl
layer-with_id id (InsertVertex name old part ring index point) = refl
layer-with_id id (MoveVertex name old part ring index point) = refl
layer-with_id id (RemoveVertex name old part ring index) = refl
layer-with_id id (SetValue name old column value) = refl
layer-with_id id (ClearValue name old column) = refl

features-with_id : (id : ℕ) (edit : Edit) → is_of_features (with_id id edit) ≡ is_of_features edit
features-with_id id (AddLayer name kind) = refl
features-with_id id (DropLayer name) = refl
features-with_id id (RenameLayer name new_name) = refl
features-with_id id (MoveLayer name place) = refl
features-with_id id (AddColumn name column column_type) = refl
features-with_id id (DropColumn name column) = refl
features-with_id id (AddFeature name geometry) = refl
features-with_id id (DeleteFeature name old) = refl
features-with_id id (ReplaceGeometry name old geometry) = refl
features-with_id id (InsertVertex name old part ring index point) = refl
features-with_id id (MoveVertex name old part ring index point) = refl
features-with_id id (RemoveVertex name old part ring index) = refl
features-with_id id (SetValue name old column value) = refl
features-with_id id (ClearValue name old column) = refl

brings-with_id : (id : ℕ) (edit : Edit) → BringsGridPoints edit → BringsGridPoints (with_id id edit)
brings-with_id id (AddLayer name kind) h = h
brings-with_id id (DropLayer name) h = h
brings-with_id id (RenameLayer name new_name) h = h
brings-with_id id (MoveLayer name place) h = h
brings-with_id id (AddColumn name column column_type) h = h
brings-with_id id (DropColumn name column) h = h
brings-with_id id (AddFeature name geometry) h = h
brings-with_id id (DeleteFeature name old) h = h
brings-with_id id (ReplaceGeometry name old geometry) h = h
brings-with_id id (InsertVertex name old part ring index point) h = h
brings-with_id id (MoveVertex name old part ring index point) h = h
brings-with_id id (RemoveVertex name old part ring index) h = h
brings-with_id id (SetValue name old column value) h = h
brings-with_id id (ClearValue name old column) h = h

-- it looks at what is shown where its identifier is shown
looks-with_id : (test : ℕ → Bool) (id : ℕ) (edit : Edit) → is_of_features edit ≡ true → test id ≡ true → LooksAtShown test (with_id id edit)
looks-with_id test id (AddLayer name kind) h there = cc
looks-with_id test id (DropLayer name) h there = cc
looks-with_id test id (RenameLayer name new_name) h there = cc
looks-with_id test id (MoveLayer name place) h there = cc
looks-with_id test id (AddColumn name column column_type) h there = cc
looks-with_id test id (DropColumn name column) h there = cc
looks-with_id test id (AddFeature name geometry) h there = tt
looks-with_id test id (DeleteFeature name old) h there = there
looks-with_id test id (ReplaceGeometry name old geometry) h there = there
looks-with_id test id (InsertVertex name old part ring index point) h there = there
looks-with_id test id (MoveVertex name old part ring index point) h there = there
looks-with_id test id (RemoveVertex name old part ring index) h there = there
looks-with_id test id (SetValue name old column value) h there = there
looks-with_id test id (ClearValue name old column) h there = there

looks-own : (test : ℕ → Bool) (edit : Edit) → is_of_features edit ≡ true → test (edit_id edit) ≡ true → LooksAtShown test edit
looks-own test (AddLayer name kind) h there = cc
looks-own test (DropLayer name) h there = cc
looks-own test (RenameLayer name new_name) h there = cc
looks-own test (MoveLayer name place) h there = cc
looks-own test (AddColumn name column column_type) h there = cc
looks-own test (DropColumn name column) h there = cc
looks-own test (AddFeature name geometry) h there = tt
looks-own test (DeleteFeature name old) h there = there
looks-own test (ReplaceGeometry name old geometry) h there = there
looks-own test (InsertVertex name old part ring index point) h there = there
looks-own test (MoveVertex name old part ring index point) h there = there
looks-own test (RemoveVertex name old part ring index) h there = there
looks-own test (SetValue name old column value) h there = there
looks-own test (ClearValue name old column) h there = there

-- ---- counters

counter : Option LayerContent → ℕ
counter o = option_map_or (λ layer. layer.next_id) o 0

-- no writing lowers a counter
written-counter : (w : Writing) (o : Option LayerContent) → option_map_or (λ layer. layer.next_id) o 0 ≤ option_map_or (λ layer. layer.next_id) (option_map (written w) o) 0
written-counter w None = omega arith
written-counter (Adds feature) (Some layer) = omega arith
written-counter (Puts id feature) (Some layer) = omega arith
written-counter (Removes id) (Some layer) = omega arith

into-counter : (content : Content) (name : List ℕ) (w : Writing) (other : List ℕ) → next_id_of content other ≤ next_id_of (change_layer content name (written w)) other
into-counter content name w other = by (bytes_eq name other) refl
  where
    by : (b : Bool) → bytes_eq name other ≡ b → next_id_of content other ≤ next_id_of (change_layer content name (written w)) other
    by true is =
        let same : name ≡ other = (bytes_eq-Decides name other).0 is in
        subst (λ n. next_id_of content other ≤ next_id_of (change_layer content n (written w)) other) (sym same)
        (subst (λ o. next_id_of content other ≤ option_map_or (λ layer. layer.next_id) o 0) (sym (layer_of-change_layer content other (written w))) (written-counter w (layer_of content other)))
    by false is =
        subst (λ o. next_id_of content other ≤ option_map_or (λ layer. layer.next_id) o 0) (sym (layer_of-change_layer-other content name other (written w) is)) (omega arith)

-- no accepted edit of features lowers one
pub step-counter : (content new : Content) (edit : Edit) (answer : Answer) → IsTrue (is_of_features edit) → step content edit ≡ Ok (new, answer) → (other : List ℕ) → next_id_of content other ≤ next_id_of new other
step-counter content new edit answer is_one led other = by (layer_of content (edit_layer edit)) (sym (steps-local content edit is_one) ∙ led)
  where
    at : (r : Result (Writing × Answer) Refusal) → into_layer content (edit_layer edit) r ≡ Ok (new, answer) → next_id_of content other ≤ next_id_of new other
    at (Ok done) h =
        let both : ◌≡◌ {A = Content × Answer} (change_layer content (edit_layer edit) (written done.0), done.1) (new, answer) = cc in
        subst (λ c. next_id_of content other ≤ next_id_of c other) (ap (λ p. p.0) both) (into-counter content (edit_layer edit) done.0 other)
    at (Err refusal) h = cc

    by : (o : Option LayerContent) → step_seen content edit o ≡ Ok (new, answer) → next_id_of content other ≤ next_id_of new other
    by None h = cc
    by (Some layer) h = at (outcome (sight (edit_id edit) layer) edit) h

-- an accepted addition raises it
adding-counter : (content new : Content) (edit : Edit) (answer : Answer) (name : List ℕ) → edit_adds_to name edit ≡ true → step content edit ≡ Ok (new, answer) → next_id_of content name < next_id_of new name
adding-counter content new (AddFeature layer geometry) answer name is led =
    let same : layer ≡ name = (bytes_eq-Decides layer name).0 is in
    let accepted = Accepted-step content new (AddFeature layer geometry) answer led in
    let found = there_from_test (layer_of content layer) (passed (has_layer content layer) NoLayer _ accepted.passed).0 in
    let before : next_id_of content layer ≡ (found.0).next_id = ap (λ o. option_map_or (λ l. l.next_id) o 0) found.1 in
    let after : next_id_of new layer ≡ (found.0).next_id + 1 =
    ap (λ c. next_id_of c layer) (sym accepted.effect) ∙ ap (λ o. option_map_or (λ l. l.next_id) o 0) (layer_of-change_layer content layer (add_feature geometry) ∙ ap (option_map (add_feature geometry)) found.1) in
    subst (λ n. next_id_of content n < next_id_of new n) same (omega (arith, before, after))
adding-counter content new (AddLayer layer kind) answer name is led = cc
adding-counter content new (DropLayer layer) answer name is led = cc
adding-counter content new (RenameLayer layer new_name) answer name is led = cc
adding-counter content new (MoveLayer layer place) answer name is led = cc
adding-counter content new (AddColumn layer column column_type) answer name is led = cc
adding-counter content new (DropColumn layer column) answer name is led = cc
adding-counter content new (DeleteFeature layer id) answer name is led = cc
adding-counter content new (ReplaceGeometry layer id geometry) answer name is led = cc
adding-counter content new (InsertVertex layer id part ring index point) answer name is led = cc
adding-counter content new (MoveVertex layer id part ring index point) answer name is led = cc
adding-counter content new (RemoveVertex layer id part ring index) answer name is led = cc
adding-counter content new (SetValue layer id column value) answer name is led = cc
adding-counter content new (ClearValue layer id column) answer name is led = cc

-- what is known of the counters behind some members
pub record HaveGrown (start now : Content) (earlier : List Member) : Type 0 where
  pub least : (name : List ℕ) → next_id_of start name ≤ next_id_of now name
  pub more : (name : List ℕ) → list_any (adds_to name) earlier ≡ true → next_id_of start name < next_id_of now name

-- ---- a member

pub le_true : (m n : ℕ) → m ≤ n → nat_le m n ≡ true
le_true m n h = grind (arith, nat_tests)

-- what a member looks at is shown
pub member-looks : (start now : Content) (earlier rest : List Member) (member : Member) → IsTrue (may_follow earlier member) → HaveGrown start now earlier
    → LooksAtShown (is_looked_at start (earlier ++ member ∷ rest) (edit_layer member.edit)) (resolved now member)
member-looks start now earlier rest member may grown = by member.of_last refl
  where
    one : is_of_features member.edit ≡ true
    one = (and_true (is_of_features member.edit) (not member.of_last || list_any (adds_to (edit_layer member.edit)) earlier) may).0

    adds : member.of_last ≡ true → list_any (adds_to (edit_layer member.edit)) earlier ≡ true
    adds is = ap (λ b. not b || list_any (adds_to (edit_layer member.edit)) earlier) (sym is) ∙ (and_true (is_of_features member.edit) (not member.of_last || list_any (adds_to (edit_layer member.edit)) earlier) may).1

    by : (b : Bool) → member.of_last ≡ b
        → LooksAtShown (is_looked_at start (earlier ++ member ∷ rest) (edit_layer member.edit)) (if b then with_id (next_id_of now (edit_layer member.edit) - 1) member.edit else member.edit)
    by true is =
        let more : next_id_of start (edit_layer member.edit) < next_id_of now (edit_layer member.edit) = grown.more (edit_layer member.edit) (adds is) in
        looks-with_id (is_looked_at start (earlier ++ member ∷ rest) (edit_layer member.edit)) (next_id_of now (edit_layer member.edit) - 1) member.edit one
        (or_right (list_any (names (edit_layer member.edit) (next_id_of now (edit_layer member.edit) - 1)) (earlier ++ member ∷ rest)) (nat_le (next_id_of start (edit_layer member.edit)) (next_id_of now (edit_layer member.edit) - 1))
        (le_true (next_id_of start (edit_layer member.edit)) (next_id_of now (edit_layer member.edit) - 1) (omega (arith, more))))
    by false is =
        looks-own (is_looked_at start (earlier ++ member ∷ rest) (edit_layer member.edit)) member.edit one
        (or_left (list_any (names (edit_layer member.edit) (edit_id member.edit)) (earlier ++ member ∷ rest)) (nat_le (next_id_of start (edit_layer member.edit)) (edit_id member.edit))
        (any-at (names (edit_layer member.edit) (edit_id member.edit)) earlier rest member
        (ap (λ b. not b && bytes_eq (edit_layer member.edit) (edit_layer member.edit) && nat_eq (edit_id member.edit) (edit_id member.edit)) is
        ∙ ap (λ b. true && b && nat_eq (edit_id member.edit) (edit_id member.edit)) (bytes_same (edit_layer member.edit)) ∙ eq-eqb (edit_id member.edit) (edit_id member.edit) refl)))

pub layer-resolved : (content : Content) (member : Member) → edit_layer (resolved content member) ≡ edit_layer member.edit
layer-resolved content member = by member.of_last
  where
    by : (b : Bool) → edit_layer (if b then with_id (next_id_of content (edit_layer member.edit) - 1) member.edit else member.edit) ≡ edit_layer member.edit
    by true = layer-with_id (next_id_of content (edit_layer member.edit) - 1) member.edit
    by false = refl

pub features-resolved : (content : Content) (member : Member) → is_of_features (resolved content member) ≡ is_of_features member.edit
features-resolved content member = by member.of_last
  where
    by : (b : Bool) → is_of_features (if b then with_id (next_id_of content (edit_layer member.edit) - 1) member.edit else member.edit) ≡ is_of_features member.edit
    by true = features-with_id (next_id_of content (edit_layer member.edit) - 1) member.edit
    by false = refl

pub brings-resolved : (content : Content) (member : Member) → BringsGridPoints member.edit → BringsGridPoints (resolved content member)
brings-resolved content member h = by member.of_last
  where
    by : (b : Bool) → BringsGridPoints (if b then with_id (next_id_of content (edit_layer member.edit) - 1) member.edit else member.edit)
    by true = brings-with_id (next_id_of content (edit_layer member.edit) - 1) member.edit h
    by false = h

-- an edit that adds is the member's own
adds-resolved : (content : Content) (member : Member) (name : List ℕ) → edit_adds_to name member.edit ≡ true → edit_adds_to name (resolved content member) ≡ true
adds-resolved content member name h = by member.of_last
  where
    own : (id : ℕ) (edit : Edit) → edit_adds_to name edit ≡ true → edit_adds_to name (with_id id edit) ≡ true
    own id (AddFeature layer geometry) h = h
    own id (AddLayer layer kind) h = cc
    own id (DropLayer layer) h = cc
    own id (RenameLayer layer new_name) h = cc
    own id (MoveLayer layer place) h = cc
    own id (AddColumn layer column column_type) h = cc
    own id (DropColumn layer column) h = cc
    own id (DeleteFeature layer old) h = cc
    own id (ReplaceGeometry layer old geometry) h = cc
    own id (InsertVertex layer old part ring index point) h = cc
    own id (MoveVertex layer old part ring index point) h = cc
    own id (RemoveVertex layer old part ring index) h = cc
    own id (SetValue layer old column value) h = cc
    own id (ClearValue layer old column) h = cc

    by : (b : Bool) → edit_adds_to name (if b then with_id (next_id_of content (edit_layer member.edit) - 1) member.edit else member.edit) ≡ true
    by true = own (next_id_of content (edit_layer member.edit) - 1) member.edit h
    by false = h

-- the same edit on both
resolved-shown : (layers : List ℕ → Bool) (test : List ℕ → ℕ → Bool) (whole part : Content) (member : Member) → layers (edit_layer member.edit) ≡ true → Shows layers test whole part → resolved part member ≡ resolved whole member
resolved-shown layers test whole part member is_in shows =
    ap (λ n. if member.of_last then with_id (n - 1) member.edit else member.edit) (same (layer_of whole (edit_layer member.edit)) (layer_of part (edit_layer member.edit)) (shows (edit_layer member.edit) is_in))
  where
    same : (o p : Option LayerContent) → ShowsThere (test (edit_layer member.edit)) o p → option_map_or (λ layer. layer.next_id) p 0 ≡ option_map_or (λ layer. layer.next_id) o 0
    same None None h = refl
    same None (Some q) h = absurd h
    same (Some l) None h = absurd h
    same (Some l) (Some q) h = h.next_id

-- ---- members, one after another

-- what they give on the one they give on the other, which gains as much
data MembersAlike (layers : List ℕ → Bool) (test : List ℕ → ℕ → Bool) (old_whole old_part : Content) (of_whole of_part : Result (Content × List ℕ) Refused) : Type 0 where
  AllRefused : (refused : Refused) → of_whole ≡ Err refused → of_part ≡ Err refused → MembersAlike layers test old_whole old_part of_whole of_part
  AllCarried : (whole part : Content) (ids : List ℕ) → of_whole ≡ Ok (whole, ids) → of_part ≡ Ok (part, ids) → Shows layers test whole part
      → content_weight whole + content_weight old_part ≡ content_weight old_whole + content_weight part → MembersAlike layers test old_whole old_part of_whole of_part

gains-then : (a a' b b' c c' : ℕ) → b + a' ≡ a + b' → c + b' ≡ b + c' → c + a' ≡ a + c'
gains-then a a' b b' c c' first second = omega (arith, first, second)

-- what comes behind a step
behind-alike : (layers : List ℕ → Bool) (test : List ℕ → ℕ → Bool) (whole part next next' : Content) (ids : List ℕ) (a b : Result (Content × List ℕ) Refused)
    → content_weight next + content_weight part ≡ content_weight whole + content_weight next' → MembersAlike layers test next next' a b → MembersAlike layers test whole part (in_front ids a) (in_front ids b)
behind-alike layers test whole part next next' ids a b gains (AllRefused refused a_is b_is) = AllRefused refused (ap (in_front ids) a_is) (ap (in_front ids) b_is)
behind-alike layers test whole part next next' ids a b gains (AllCarried new new' more a_is b_is shows more_gains) =
    AllCarried new new' (ids ++ more) (ap (in_front ids) a_is) (ap (in_front ids) b_is) shows
    (gains-then (content_weight whole) (content_weight part) (content_weight next) (content_weight next') (content_weight new) (content_weight new') gains more_gains)

pub grown-next : (start now new : Content) (earlier : List Member) (member : Member) (answer : Answer) → is_of_features member.edit ≡ true → HaveGrown start now earlier → step now (resolved now member) ≡ Ok (new, answer)
    → HaveGrown start new (earlier ++ member ∷ [])
grown-next start now new earlier member answer one grown led = record {
  least = λ name. omega (arith, grown.least name, step-counter now new (resolved now member) answer (features-resolved now member ∙ one) led name);
  more = λ name h. by name (any-append (adds_to name) earlier member h);
}
  where
    by : (name : List ℕ) → (list_any (adds_to name) earlier ≡ true) ⊎ (adds_to name member ≡ true) → next_id_of start name < next_id_of new name
    by name (inl h) = omega (arith, grown.more name h, step-counter now new (resolved now member) answer (features-resolved now member ∙ one) led name)
    by name (inr h) = omega (arith, grown.least name, adding-counter now new (resolved now member) answer name (adds-resolved now member name h) led)

members-alike : (start : Content) (number : ℕ) (whole part : Content) (earlier rest all : List Member) → all ≡ earlier ++ rest → FollowInTurn earlier rest → AllByRecursion (λ member. BringsGridPoints member.edit) rest
    → IsWellFormed whole → IsWellFormed part → HaveGrown start whole earlier → Shows (is_of_layer all) (is_looked_at start all) whole part
    → MembersAlike (is_of_layer all) (is_looked_at start all) whole part (members_from number whole rest) (members_from number part rest)
members-alike start number whole part earlier [] all parts follow brings fine fine' grown shows = AllCarried whole part [] refl refl shows refl
members-alike start number whole part earlier (member ∷ rest) all parts follow brings fine fine' grown shows =
    subst (λ e. MembersAlike (is_of_layer all) (is_looked_at start all) whole part (and_behind number (step whole (resolved whole member)) (λ next. members_from (number + 1) next rest))
    (and_behind number (step part e) (λ next. members_from (number + 1) next rest))) (sym (resolved-shown (is_of_layer all) (is_looked_at start all) whole part member is_in shows))
    (by (λ new new' grown' f f' shown. members-alike start (number + 1) new new' (earlier ++ member ∷ []) rest all (parts ∙ sym (append_assoc earlier (member ∷ []) rest)) follow.1 brings.1 f f' grown' shown)
    (steps-alike (is_of_layer all) (is_looked_at start all) (resolved whole member) whole part (features-resolved whole member ∙ one)
    (ap (is_of_layer all) (layer-resolved whole member) ∙ is_in)
    (subst (λ n. LooksAtShown (is_looked_at start all n) (resolved whole member)) (sym (layer-resolved whole member))
    (subst (λ ms. LooksAtShown (is_looked_at start ms (edit_layer member.edit)) (resolved whole member)) (sym parts) (member-looks start whole earlier rest member follow.0 grown)))
    fine fine' shows))
  where
    one : is_of_features member.edit ≡ true
    one = (and_true (is_of_features member.edit) (not member.of_last || list_any (adds_to (edit_layer member.edit)) earlier) follow.0).0

    is_in : is_of_layer all (edit_layer member.edit) ≡ true
    is_in = ap (λ ms. is_of_layer ms (edit_layer member.edit)) parts ∙ any-at (λ m. bytes_eq (edit_layer m.edit) (edit_layer member.edit)) earlier rest member (bytes_same (edit_layer member.edit))

    next_alike : ((new new' : Content) → HaveGrown start new (earlier ++ member ∷ []) → IsWellFormed new → IsWellFormed new' → Shows (is_of_layer all) (is_looked_at start all) new new'
        → MembersAlike (is_of_layer all) (is_looked_at start all) new new' (members_from (number + 1) new rest) (members_from (number + 1) new' rest))
        → (new new' : Content) (answer : Answer) → step whole (resolved whole member) ≡ Ok (new, answer) → step part (resolved whole member) ≡ Ok (new', answer)
        → Shows (is_of_layer all) (is_looked_at start all) new new' → MembersAlike (is_of_layer all) (is_looked_at start all) new new' (members_from (number + 1) new rest) (members_from (number + 1) new' rest)
    next_alike later new new' answer led led' shown =
        later new new' (grown-next start whole new earlier member answer one grown led)
        (IsWellFormed-step whole new (resolved whole member) answer (brings-resolved whole member brings.0) fine led)
        (IsWellFormed-step part new' (resolved whole member) answer (brings-resolved whole member brings.0) fine' led')
        shown

    by : ((new new' : Content) → HaveGrown start new (earlier ++ member ∷ []) → IsWellFormed new → IsWellFormed new' → Shows (is_of_layer all) (is_looked_at start all) new new'
        → MembersAlike (is_of_layer all) (is_looked_at start all) new new' (members_from (number + 1) new rest) (members_from (number + 1) new' rest))
        → StepsAlike (is_of_layer all) (is_looked_at start all) whole part (step whole (resolved whole member)) (step part (resolved whole member))
        → MembersAlike (is_of_layer all) (is_looked_at start all) whole part (and_behind number (step whole (resolved whole member)) (λ next. members_from (number + 1) next rest))
        (and_behind number (step part (resolved whole member)) (λ next. members_from (number + 1) next rest))
    by later (BothRefused refusal a b) =
        AllRefused (record { member = number; refusal = refusal }) (ap (λ r. and_behind number r (λ next. members_from (number + 1) next rest)) a) (ap (λ r. and_behind number r (λ next. members_from (number + 1) next rest)) b)
    by later (BothCarried new new' answer a b shown gains) =
        subst (λ r. MembersAlike (is_of_layer all) (is_looked_at start all) whole part (and_behind number r (λ next. members_from (number + 1) next rest)) (and_behind number (step part (resolved whole member)) (λ next. members_from (number + 1) next rest))) (sym a)
        (subst (λ r. MembersAlike (is_of_layer all) (is_looked_at start all) whole part (in_front (ids_given answer) (members_from (number + 1) new rest)) (and_behind number r (λ next. members_from (number + 1) next rest))) (sym b)
        (behind-alike (is_of_layer all) (is_looked_at start all) whole part new new' (ids_given answer) (members_from (number + 1) new rest) (members_from (number + 1) new' rest) gains (next_alike later new new' answer a b shown)))

pub grown-start : (start : Content) → HaveGrown start start []
grown-start start = record { least = λ name. omega arith; more = λ name h. cc }

pub scratches-do_alike : ScratchesDoAlike
scratches-do_alike whole scratch members group brings fine fine' shows =
    by (together whole members) (together scratch members) refl refl (members-alike whole 1 whole scratch [] members members refl group brings fine fine' (grown-start whole) shows)
  where
    by : (a b : Result (Content × List ℕ) Refused) → together whole members ≡ a → together scratch members ≡ b → MembersAlike (is_of_layer members) (is_looked_at whole members) whole scratch a b → DoesAlike whole members scratch
    by a b a_is b_is (AllRefused refused x y) = record {
      refused = λ r h. a_is ∙ x ∙ sym (sym h ∙ b_is ∙ y);
      carried = λ after ids h. let no : ◌≡◌ {A = Result (Content × List ℕ) Refused} (Err refused) (Ok (after, ids)) = sym (b_is ∙ y) ∙ h in cc;
    }
    by a b a_is b_is (AllCarried new new' ids x y shown gains) = record {
      refused = λ r h. let no : ◌≡◌ {A = Result (Content × List ℕ) Refused} (Ok (new', ids)) (Err r) = sym (b_is ∙ y) ∙ h in cc;
      carried = λ after given h.
          let same : ◌≡◌ {A = Result (Content × List ℕ) Refused} (Ok (new', ids)) (Ok (after, given)) = sym (b_is ∙ y) ∙ h in
          let both : ◌≡◌ {A = Content × List ℕ} (new', ids) (after, given) = cc in (
            new,
            a_is ∙ x ∙ ap (λ p. let r : Result (Content × List ℕ) Refused = Ok (new, p.1) in r) both,
            subst (Shows (is_of_layer members) (is_looked_at whole members) new) (ap (λ p. p.0) both) shown,
            subst (λ c. content_weight new + content_weight scratch ≡ content_weight whole + content_weight c) (ap (λ p. p.0) both) gains,
          );
    }
