-- Steps of contents with rules: what takes them back, and what makes them again.
use Rattle.std.specs.Prelude.{◌≡◌, ◌<◌, ◌≤◌, ◌-◌, ℕ, Bool, true, false, ◌&&◌, ◌||◌, List, [], ◌∷◌, bytes_eq, insert, length, map, remove, take, None, Ok, Result, IsOk, IsTrue}
use Rattle.std.specs.List.{AllByRecursion, list_all, list_any}
use Rattle.sf_features.specs.Columns.{IsDistinct}
use Rattle.sf_features.specs.Names.{is_name}
use Rattle.sf_steps.specs.declared.answer.Answer.{Answer}
use Rattle.sf_steps.specs.declared.edit.Edit.{Edit}
use Rattle.sf_steps.specs.declared.edit.Edit.TheVariants.{AddFeature, DeleteFeature, ReplaceGeometry, InsertVertex, MoveVertex, RemoveVertex, SetValue, ClearValue, DropColumn, DropLayer, RenameLayer}
use Rattle.sf_steps.specs.Steps.{edit_layer, step}
use Rattle.sf_steps.specs.Inverses.{Fits, described, frees_only}
use Rattle.sf_groups.specs.declared.member.Member.{Member}
use Rattle.sf_groups.specs.Members.{together}
use Rattle.sf_ruled_store.specs.Changes.{FitsRedo, FitsUndo, FreesOnly, OfEdit, OfGroup, TakesNoMemory, redone_by, undone_by}
use Rattle.sf_ruled_store.specs.declared.changes.redo.Redo.TheVariants as content_redos
use Rattle.sf_rules.specs.declared.rule.Rule.{Rule}
use Rattle.sf_rules.specs.declared.rule.Says.{Says}
use Rattle.sf_rules.specs.declared.rule.Says.TheVariants.{OfLayers, OfValues}
use Rattle.sf_rules.specs.Rules.{first_broken}
use Rattle.sf_ruled_store.specs.declared.undo.Undo.{Undo}
use Rattle.sf_ruled_store.specs.declared.undo.Undo.TheVariants as undos
use Rattle.sf_ruled_store.specs.declared.redo.Redo.{Redo}
use Rattle.sf_ruled_store.specs.declared.redo.Redo.TheVariants as redos
use Rattle.sf_ruled_store.specs.declared.refusal.Refusal.{Refusal}
use Rattle.sf_ruled_store.specs.Ruled.{OfChange, Ruled, has_named, rules_max, ruled_step, with_rule}

-- ---- which rules see an edit

-- whether an edit puts a geometry into its layer, changes one or removes one
abbrev pub changes_geometries : Edit → Bool
changes_geometries (AddFeature name geometry) = true
changes_geometries (DeleteFeature name id) = true
changes_geometries (ReplaceGeometry name id geometry) = true
changes_geometries (InsertVertex name id part ring index point) = true
changes_geometries (MoveVertex name id part ring index point) = true
changes_geometries (RemoveVertex name id part ring index) = true
changes_geometries edit = false

-- whether it changes which features its layer has, or which values they have in the column of a name, or drops that
abbrev pub changes_column : List ℕ → Edit → Bool
changes_column column (AddFeature name geometry) = true
changes_column column (DeleteFeature name id) = true
changes_column column (SetValue name id other value) = bytes_eq column other
changes_column column (ClearValue name id other) = bytes_eq column other
changes_column column (DropColumn name other) = bytes_eq column other
changes_column column edit = false

-- whether it drops its layer, or gives it another name
abbrev pub ends_name : Edit → Bool
ends_name (DropLayer name) = true
ends_name (RenameLayer name new_name) = true
ends_name edit = false

abbrev pub sees_said : Edit → Says → Bool
sees_said edit (OfLayers rule) =
    (bytes_eq (edit_layer edit) rule.first || bytes_eq (edit_layer edit) rule.second) && (changes_geometries edit || ends_name edit)
sees_said edit (OfValues rule) = bytes_eq (edit_layer edit) rule.layer && (changes_column rule.column edit || ends_name edit)

-- whether an edit may break a rule, or ends what it names: it is of its layer, and changes what the rule looks at
abbrev pub sees : Edit → Rule → Bool
sees edit rule = sees_said edit rule.says

abbrev pub is_seen : Edit → List Rule → Bool
is_seen edit rules = list_any (sees edit) rules

-- whether it gives its layer another name
abbrev pub is_renaming : Edit → Bool
is_renaming (RenameLayer name new_name) = true
is_renaming edit = false

-- no rule sees the edit
abbrev pub IsUnseen : List Rule → Edit → Type 0
IsUnseen rules edit = is_seen edit rules ≡ false

-- an edit as the only one of a group
abbrev pub alone : Edit → List Member
alone edit = record { edit = edit; of_last = false } ∷ []

-- ---- contents in which rules hold, as is computed

-- their names are names, of which no two are one, and there are not too many
pub record AreNamed (rules : List Rule) : Type 0 where
  pub few : length rules ≤ rules_max
  pub named : AllByRecursion (λ rule. IsTrue (is_name rule.name)) rules
  pub distinct : IsDistinct bytes_eq (map (λ rule. rule.name) rules)

-- rules are named, all that they name is there, and none is broken
pub record IsSettled (ruled : Ruled) : Type 0 where
  pub named : AreNamed ruled.rules
  pub there : list_all (has_named ruled.content) ruled.rules ≡ true
  pub held : first_broken ruled.content ruled.rules ≡ None

-- ---- what takes a step back

-- what is led back to
abbrev pub undone_under : Ruled → Undo → Ruled
undone_under ruled (undos.Change undo) = record ruled { content = undone_by ruled.content undo }
undone_under ruled (undos.Renamed inverse rules) = record { content = described ruled.content inverse; rules = rules }
undone_under ruled undos.AddedRule = record ruled { rules = take (length ruled.rules - 1) ruled.rules }
undone_under ruled (undos.DroppedRule place rule) = record ruled { rules = insert ruled.rules place rule }

abbrev pub CanUndo : Ruled → Undo → Type 0
CanUndo ruled (undos.Change undo) = FitsUndo ruled.content undo
CanUndo ruled (undos.Renamed inverse rules) = Fits ruled.content inverse
CanUndo ruled undos.AddedRule = 0 < length ruled.rules
CanUndo ruled (undos.DroppedRule place rule) = place ≤ length ruled.rules

-- it can be carried out, and rules hold then
pub record FitsUndoUnder (ruled : Ruled) (undo : Undo) : Type 0 where
  pub can : CanUndo ruled undo
  pub settled : IsSettled (undone_under ruled undo)

-- it only removes and exchanges, for which no memory is needed
abbrev pub FreesOnlyUnder : Ruled → Undo → Type 0
FreesOnlyUnder ruled (undos.Change undo) = FreesOnly ruled.content undo
FreesOnlyUnder ruled (undos.Renamed inverse rules) = IsTrue (frees_only ruled.content inverse)
FreesOnlyUnder ruled undos.AddedRule = Unit {0}
FreesOnlyUnder ruled (undos.DroppedRule place rule) = ⊥

-- ---- what makes it again

-- what is led to again
abbrev pub redone_under : Ruled → Redo → Ruled
redone_under ruled (redos.Change redo) = record ruled { content = redone_by ruled.content redo }
redone_under ruled (redos.Renamed edit rules) =
    record { content = redone_by ruled.content (content_redos.Edit edit); rules = rules }
redone_under ruled (redos.AddRule rule) = with_rule ruled rule
redone_under ruled (redos.DropRule place) = record ruled { rules = remove ruled.rules place }

abbrev pub CanRedo : Ruled → Redo → Type 0
CanRedo ruled (redos.Change redo) = FitsRedo ruled.content redo
CanRedo ruled (redos.Renamed edit rules) = IsOk (step ruled.content edit)
CanRedo ruled (redos.AddRule rule) = Unit {0}
CanRedo ruled (redos.DropRule place) = place < length ruled.rules

pub record FitsRedoUnder (ruled : Ruled) (redo : Redo) : Type 0 where
  pub can : CanRedo ruled redo
  pub settled : IsSettled (redone_under ruled redo)

abbrev pub TakesNoMemoryUnder : Ruled → Redo → Type 0
TakesNoMemoryUnder ruled (redos.Change redo) = TakesNoMemory ruled.content redo
TakesNoMemoryUnder ruled (redos.Renamed edit rules) = ⊥
TakesNoMemoryUnder ruled (redos.AddRule rule) = ⊥
TakesNoMemoryUnder ruled (redos.DropRule place) = Unit {0}

-- ---- what the calls give

-- an edit leads from old to new with this answer, and the undo takes it back
pub record IsEdited (old : Ruled) (edit : Edit) (answer : Answer) (undo : Undo) (new : Ruled) : Type 0 where
  pub led : ruled_step old (OfChange (OfEdit edit)) ≡ Ok new
  pub answered : step old.content edit ≡ Ok (new.content, answer)
  pub back : undone_under new undo ≡ old
  pub fits : FitsUndoUnder new undo

-- a group leads from old to new and gives these identifiers, and the undo takes it back
pub record IsGrouped (old : Ruled) (members : List Member) (ids : List ℕ) (undo : Undo) (new : Ruled) : Type 0 where
  pub led : ruled_step old (OfChange (OfGroup members)) ≡ Ok new
  pub gave : together old.content members ≡ Ok (new.content, ids)
  pub back : undone_under new undo ≡ old
  pub fits : FitsUndoUnder new undo

-- a step on rules leads from old to new, and the undo takes it back
pub record IsLed (old : Ruled) (result : Result Ruled Refusal) (undo : Undo) (new : Ruled) : Type 0 where
  pub led : result ≡ Ok new
  pub back : undone_under new undo ≡ old
  pub fits : FitsUndoUnder new undo

-- a step is taken back from old to new, and the redo makes it again
pub record TakesBackUnder (old : Ruled) (undo : Undo) (redo : Redo) (new : Ruled) : Type 0 where
  pub undone : new ≡ undone_under old undo
  pub again : redone_under new redo ≡ old
  pub fits : FitsRedoUnder new redo

-- a step is made again from old to new, and the undo takes it back
pub record MakesAgainUnder (old : Ruled) (redo : Redo) (undo : Undo) (new : Ruled) : Type 0 where
  pub redone : new ≡ redone_under old redo
  pub back : undone_under new undo ≡ old
  pub fits : FitsUndoUnder new undo
