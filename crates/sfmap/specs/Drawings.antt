-- Beside the headline, which says nothing of a run that draws.
-- What drawing does from the bytes of a file on, in the words of `Read` and `Write` for the bytes that they tell.
use Rattle.std.specs.Prelude.{◌≡◌, ℕ, ◌+◌, ◌*◌, ◌/◌, List, Option, None, Some, IfNone, IfSome, find, max, min, not, string_bytes}
use Rattle.sf_layers.specs.Content.{Content, has_layer}
use Rattle.sf_streams.specs.Streams.{WritesFront}
use Rattle.sf_loading.specs.Loading.{FailsBy, Loads}
use Rattle.sf_loading.specs.Stored.{Ruled}
use Rattle.sf_picture.specs.Pictures.{Choice, picture, row_height}
use Rattle.sf_picture.specs.Views.{HasAllShown, IsOver, IsRound, bar_length, box_shown, framing_height, map_height_max, share, shown_count}
use Rattle.sf_picture.specs.declared.view.View.{View}
use Rattle.sfmap.specs.declared.running.RunFault.{RunFault}
use Rattle.sfmap.specs.declared.running.RunFault.TheVariants.{Load, MissingLayer, Memory, Draw}

-- the first of the names of a choice that no layer of a content has, if there is one
abbrev pub first_missing : Choice → Content → Option (List ℕ)
first_missing choice content = find (λ name. not (has_layer content name)) choice.layers

-- the view of what is shown of a content, for a picture of this width: the window where there is one, else the least
-- box with all that is shown, and its margin
pub record IsViewOf (choice : Choice) (content : Content) (width : ℕ) (view : View) : Type 0 where
  pub window : IfSome choice.window (λ window. IsOver window view)
  pub round : IfNone choice.window (IsRound (box_shown choice content) view)
  pub inside : IfNone choice.window (HasAllShown choice content view)
  pub width_is : view.width ≡ width
  pub map_height : view.map_height ≡ min (max (share view.high view.wide width) 1) map_height_max
  pub height : view.height ≡ view.map_height + framing_height + row_height * shown_count choice content
  pub bar_steps : view.bar_steps ≡ bar_length (view.wide / 4)
  pub bar : view.bar_pixels ≡ min (share view.bar_steps view.wide width) width

-- a content has all layers that are named, and what was written is told of its picture
pub record Draws (choice : Choice) (content : Content) (width : ℕ) (Writes : List ℕ → Type 0) : Type 0 where
  pub has_all : first_missing choice content ≡ None
  pub view : View
  pub is_view : IsViewOf choice content width view
  pub written : Writes (picture choice view content)

-- a file was loaded, and its content was drawn
pub record DrawsFrom (file_before file : Option (List ℕ)) (choice : Choice) (width : ℕ) (Writes : List ℕ → Type 0) : Type 0 where
  pub ruled : Ruled
  pub loaded : Loads file_before file ruled
  pub drawn : Draws choice ruled.content width Writes

-- drawing a content ended by the fault
abbrev pub EndsEarly : RunFault → Choice → Content → ℕ → Option (List ℕ) → Option (List ℕ) → Type 0
EndsEarly (Load fault) choice content width written_before written = ⊥
EndsEarly (MissingLayer name) choice content width written_before written =
    (first_missing choice content ≡ Some (string_bytes name)) × (written ≡ written_before)
EndsEarly Memory choice content width written_before written =
    ((name : List ℕ) × (first_missing choice content ≡ Some name)) × (written ≡ written_before)
EndsEarly (Draw fault) choice content width written_before written = Draws choice content width (WritesFront written_before written)

-- a file was loaded, and drawing its content ended by the fault
pub record Stops (fault : RunFault) (file_before file : Option (List ℕ)) (choice : Choice) (width : ℕ) (written_before written : Option (List ℕ)) : Type 0 where
  pub ruled : Ruled
  pub loaded : Loads file_before file ruled
  pub ended : EndsEarly fault choice ruled.content width written_before written

-- a run from a file ended by the fault
abbrev pub Breaks : RunFault → Option (List ℕ) → Option (List ℕ) → Choice → ℕ → Option (List ℕ) → Option (List ℕ) → Type 0
Breaks (Load fault) file_before file choice width written_before written = FailsBy file_before file fault × (written ≡ written_before)
Breaks (MissingLayer name) file_before file choice width written_before written =
    Stops (MissingLayer name) file_before file choice width written_before written
Breaks Memory file_before file choice width written_before written = Stops Memory file_before file choice width written_before written
Breaks (Draw fault) file_before file choice width written_before written = Stops (Draw fault) file_before file choice width written_before written

-- a fault tells this name, unless memory is wanting
abbrev pub IsMissing : List ℕ → RunFault → Type 0
IsMissing name (MissingLayer told) = string_bytes told ≡ name
IsMissing name Memory = Unit {0}
IsMissing name (Load fault) = ⊥
IsMissing name (Draw fault) = ⊥
