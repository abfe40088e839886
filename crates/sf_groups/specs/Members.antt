-- Several edits of features carried out as one step: all, or none.
use Rattle.std.specs.Prelude.{ℕ, ◌+◌, ◌-◌, Bool, false, not, ◌&&◌, ◌||◌, List, [], ◌∷◌, ◌++◌, Result, Ok, Err, IsTrue, nat_eq, bytes_eq, if◌then◌else◌}
use Rattle.std.specs.List.{list_any}
use Rattle.sf_groups.specs.declared.member.Member.{Member}
use Rattle.sf_steps.specs.declared.refusal.Refusal.{Refusal}
use Rattle.sf_steps.specs.declared.answer.Answer.{Answer}
use Rattle.sf_steps.specs.declared.answer.Answer.TheVariants.{Done, Id}
use Rattle.sf_steps.specs.declared.edit.Edit.{Edit}
use Rattle.sf_steps.specs.declared.edit.Edit.TheVariants.{AddFeature, DeleteFeature, ReplaceGeometry, InsertVertex, MoveVertex, RemoveVertex, SetValue, ClearValue}
use Rattle.sf_layers.specs.Content.{Content}
use Rattle.sf_steps.specs.Steps.{edit_layer, next_id_of, step}
use Rattle.sf_groups.specs.Local.{is_of_features, edit_id}

-- A member (sf_groups/src/member.rt) is an edit of features; where it is of the last one, its identifier is the one that its layer
-- gave last.

-- the edit with another identifier
abbrev pub with_id : ℕ → Edit → Edit
with_id id (DeleteFeature name old) = DeleteFeature name id
with_id id (ReplaceGeometry name old geometry) = ReplaceGeometry name id geometry
with_id id (InsertVertex name old part ring index point) = InsertVertex name id part ring index point
with_id id (MoveVertex name old part ring index point) = MoveVertex name id part ring index point
with_id id (RemoveVertex name old part ring index) = RemoveVertex name id part ring index
with_id id (SetValue name old column value) = SetValue name id column value
with_id id (ClearValue name old column) = ClearValue name id column
with_id id edit = edit

-- the edit of a member: the identifier that a layer gave last is the one below its next one
abbrev pub resolved : Content → Member → Edit
resolved content member =
    if member.of_last then with_id (next_id_of content (edit_layer member.edit) - 1) member.edit else member.edit

-- whether a member adds to the layer of a name
abbrev pub edit_adds_to : List ℕ → Edit → Bool
edit_adds_to name (AddFeature layer geometry) = bytes_eq layer name
edit_adds_to name edit = false

abbrev pub adds_to : List ℕ → Member → Bool
adds_to name member = edit_adds_to name member.edit

-- whether a member may stand behind others: it is of features, and where it is of the last one, one of them adds to its layer
abbrev pub may_follow : List Member → Member → Bool
may_follow earlier member =
    is_of_features member.edit && (not member.of_last || list_any (adds_to (edit_layer member.edit)) earlier)

-- members each of which may stand behind those before it
abbrev pub FollowInTurn : List Member → List Member → Type 0
FollowInTurn earlier [] = Unit {0}
FollowInTurn earlier (member ∷ members) = IsTrue (may_follow earlier member) × FollowInTurn (earlier ++ member ∷ []) members

abbrev pub IsGroup : List Member → Type 0
IsGroup members = FollowInTurn [] members

-- why a group is refused: the number of a member, from 1, and its refusal
pub record Refused : Type 0 where
  pub member : ℕ
  pub refusal : Refusal

-- the identifiers that an answer gives
abbrev pub ids_given : Answer → List ℕ
ids_given Done = []
ids_given (Id id) = id ∷ []

-- identifiers in front of those of what comes behind
abbrev pub in_front : List ℕ → Result (Content × List ℕ) Refused → Result (Content × List ℕ) Refused
in_front ids (Ok done) = Ok (done.0, ids ++ done.1)
in_front ids (Err refused) = Err refused

-- a member's step, and what comes behind it
abbrev pub and_behind : ℕ → Result (Content × Answer) Refusal → (Content → Result (Content × List ℕ) Refused) → Result (Content × List ℕ) Refused
and_behind number (Ok done) behind = in_front (ids_given done.1) (behind done.0)
and_behind number (Err refusal) behind = Err (record { member = number; refusal = refusal })

-- members from a number on, one after another: the content after them with the identifiers that they gave, or the first one
-- that is refused
abbrev pub members_from : ℕ → Content → List Member → Result (Content × List ℕ) Refused
members_from number content [] = Ok (content, [])
members_from number content (member ∷ members) =
    and_behind number (step content (resolved content member)) (λ next. members_from (number + 1) next members)

-- the step of a group
abbrev pub together : Content → List Member → Result (Content × List ℕ) Refused
together content members = members_from 1 content members

-- whether a member names the feature of an identifier in the layer of a name
abbrev pub names : List ℕ → ℕ → Member → Bool
names name id member = not member.of_last && bytes_eq (edit_layer member.edit) name && nat_eq (edit_id member.edit) id
