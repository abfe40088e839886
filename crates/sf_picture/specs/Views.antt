-- Beside the headline, which says nothing of pictures.
-- Where the map of a picture lies, and how large the picture is.
use Rattle.std.specs.Prelude.{◌≡◌, ℕ, ◌+◌, ◌*◌, ◌/◌, ◌^◌, ◌-◌, List, [], ◌∷◌, Option, None, Some, map, max, min, nat_le, ◌+ℤ◌, ◌-ℤ◌, ◌≤ℤ◌, ℤ, pos, unsigned_abs, unwrap_or, IsTrue, flat_map, if◌then◌else◌}
use Rattle.std.specs.Int.{int_max, int_min}
use Rattle.std.specs.List.{AllByRecursion, count_by, filter, fold}
use Rattle.sf_grid.specs.Bounds.{IsCoordinate}
use Rattle.sf_geometry.specs.declared.extent.Extent.{Extent}
use Rattle.sf_geometry.specs.Envelope.{envelope_of}
use Rattle.sf_features.specs.Features.{FeatureContent}
use Rattle.sf_layers.specs.Content.{Content, LayerContent}
use Rattle.sf_picture.specs.declared.view.Frame.{Frame}
use Rattle.sf_picture.specs.declared.view.View.{View}
use Rattle.sf_picture.specs.Pictures.{Choice, shows_layer}

-- how long a side from one coordinate to another is with a margin at either end, at least one step
abbrev pub side : ℤ → ℤ → ℕ → ℕ
side from to margin = max (unsigned_abs (from -ℤ to) + 2 * margin) 1

-- as large a part of a length as some steps are of a whole
abbrev pub share : ℕ → ℕ → ℕ → ℕ
share steps whole length = min (steps * length) (2 ^ 64 - 1) / max whole 1

-- a frame is that of this window
pub record IsFrameOf (window : Extent) (frame : Frame) : Type 0 where
  pub left : frame.left ≡ window.min_x
  pub top : frame.top ≡ window.max_y
  pub wide : frame.wide ≡ side window.min_x window.max_x 0
  pub high : frame.high ≡ side window.min_y window.max_y 0

-- the map is this window
pub record IsOver (window : Extent) (view : View) : Type 0 where
  pub left : view.left ≡ window.min_x
  pub top : view.top ≡ window.max_y
  pub wide : view.wide ≡ side window.min_x window.max_x 0
  pub high : view.high ≡ side window.min_y window.max_y 0

-- ---- the map where there is no window

-- the boxes of features
abbrev pub boxes_in : List (ℕ × FeatureContent) → List Extent
boxes_in features = map (λ feature. envelope_of feature.1.geometry) features

-- the boxes of the features of a layer, if it is shown
abbrev pub layer_boxes : Choice → List ℕ × LayerContent → List Extent
layer_boxes choice entry = if shows_layer choice entry.0 then boxes_in entry.1.features else []

-- the boxes of all features of the layers that are shown
abbrev pub shown_boxes : Choice → Content → List Extent
shown_boxes choice content = flat_map (layer_boxes choice) content

-- the least box with two boxes, or the other one where there is none
abbrev pub united : Option Extent → Extent → Extent
united None other = other
united (Some extent) other =
    record {
      min_x = int_min extent.min_x other.min_x;
      min_y = int_min extent.min_y other.min_y;
      max_x = int_max extent.max_x other.max_x;
      max_y = int_max extent.max_y other.max_y;
    }

-- the least box with a box, where there is one, and all of some boxes
abbrev pub united_all : Option Extent → List Extent → Option Extent
united_all extent boxes = fold (λ found box. Some (united found box)) extent boxes

-- the least box with all that is shown, or None where nothing is
abbrev pub shown_extent : Choice → Content → Option Extent
shown_extent choice content = united_all None (shown_boxes choice content)

-- the box of the origin alone
abbrev pub origin : Extent
origin = record { min_x = pos 0; min_y = pos 0; max_x = pos 0; max_y = pos 0 }

-- the box that the map is made for: that of all that is shown, or of the origin where nothing is
abbrev pub box_shown : Choice → Content → Extent
box_shown choice content = unwrap_or (shown_extent choice content) origin

-- the margin of a box: a twentieth of its greater side, rounded down, and at least one grid step
abbrev pub margin_of : Extent → ℕ
margin_of box = max (max (unsigned_abs (box.min_x -ℤ box.max_x)) (unsigned_abs (box.min_y -ℤ box.max_y)) / 20) 1

-- a box has its corners on the grid
pub record IsBoxOnGrid (box : Extent) : Type 0 where
  pub min_x : IsCoordinate box.min_x
  pub min_y : IsCoordinate box.min_y
  pub max_x : IsCoordinate box.max_x
  pub max_y : IsCoordinate box.max_y

-- a frame is just this box with its margin
pub record IsFrameRound (box : Extent) (frame : Frame) : Type 0 where
  pub left : frame.left ≡ box.min_x -ℤ pos (margin_of box)
  pub top : frame.top ≡ box.max_y +ℤ pos (margin_of box)
  pub wide : frame.wide ≡ side box.min_x box.max_x (margin_of box)
  pub high : frame.high ≡ side box.min_y box.max_y (margin_of box)

-- the map is just this box with its margin
pub record IsRound (box : Extent) (view : View) : Type 0 where
  pub left : view.left ≡ box.min_x -ℤ pos (margin_of box)
  pub top : view.top ≡ box.max_y +ℤ pos (margin_of box)
  pub wide : view.wide ≡ side box.min_x box.max_x (margin_of box)
  pub high : view.high ≡ side box.min_y box.max_y (margin_of box)

-- a box lies in the map
pub record LiesIn (view : View) (box : Extent) : Type 0 where
  pub left : view.left ≤ℤ box.min_x
  pub right : box.max_x ≤ℤ (view.left +ℤ pos view.wide)
  pub top : box.max_y ≤ℤ view.top
  pub bottom : (view.top -ℤ pos view.high) ≤ℤ box.min_y

-- the box of each feature of each layer that is shown lies in the map
abbrev pub HasAllShown : Choice → Content → View → Type 0
HasAllShown choice content view =
    AllByRecursion (λ entry. IsTrue (shows_layer choice entry.0)
    → AllByRecursion (λ feature. LiesIn view (envelope_of feature.1.geometry)) entry.1.features) content

-- ---- the bar of the scale

-- how long it can be, in grid steps
abbrev pub bar_lengths : List ℕ
bar_lengths =
    1 ∷ 2 ∷ 5 ∷ 10 ∷ 20 ∷ 50 ∷ 100 ∷ 200 ∷ 500 ∷ 1000 ∷ 2000 ∷ 5000 ∷ 10000 ∷ 20000 ∷ 50000 ∷ 100000 ∷ 200000 ∷ 500000
    ∷ 1000000 ∷ 2000000 ∷ 5000000 ∷ 10000000 ∷ 20000000 ∷ 50000000 ∷ 100000000 ∷ 200000000 ∷ 500000000 ∷ []

-- the greatest of some lengths that is at most a limit, or one step
abbrev pub longest_within : List ℕ → ℕ → ℕ
longest_within lengths limit = fold max 1 (filter (λ length. nat_le length limit) lengths)

-- how long it is where the map leaves so much for it
abbrev pub bar_length : ℕ → ℕ
bar_length limit = longest_within bar_lengths limit

-- ---- the size of the picture

-- how many layers are shown
abbrev pub shown_count : Choice → Content → ℕ
shown_count choice content = count_by (λ entry. shows_layer choice entry.0) content

-- how high a picture is without its map and its legend, in pixels
abbrev pub framing_height : ℕ
framing_height = 40

-- how high the map is at most, in pixels
abbrev pub map_height_max : ℕ
map_height_max = 1000000
