-- Beside the headline, which says nothing of pictures.
-- A picture of a store: its layers in drawing order, a legend, and a scale.
use Rattle.std.specs.Prelude.{ℕ, suc, ◌+◌, ◌%◌, Bool, true, ◌||◌, List, [], ◌∷◌, ◌++◌, length, codes, decimal, flat_map, bytes_eq, ◌==◌, Option, Some, None, if◌then◌else◌}
use Rattle.std.specs.Fmt.{signed_decimal}
use Rattle.std.specs.List.{list_any}
use Rattle.sf_geometry.specs.declared.extent.Extent.{Extent}
use Rattle.sf_geometry.specs.declared.geometry.Geometry.{Geometry}
use Rattle.sf_geometry.specs.Envelope.{envelope_of, extents_meet}
use Rattle.sf_features.specs.Features.{FeatureContent}
use Rattle.sf_layers.specs.Content.{Content, LayerContent}
use Rattle.sf_picture.specs.Elements.{element}
use Rattle.sf_picture.specs.declared.view.View.{View}

-- which features are shown: those of the layers of some names, or of all where no name is given, whose boxes share a
-- point with a window, or all where there is none
pub record Choice : Type 0 where
  pub layers : List (List ℕ)
  pub window : Option Extent

-- whether the layer of a name is shown
abbrev pub shows_layer : Choice → List ℕ → Bool
shows_layer choice name = length choice.layers == 0 || list_any (λ known. bytes_eq known name) choice.layers

-- whether a geometry is shown
abbrev pub is_in_window : Option Extent → Geometry → Bool
is_in_window None geometry = true
is_in_window (Some window) geometry = extents_meet window (envelope_of geometry)

abbrev pub shows_geometry : Choice → Geometry → Bool
shows_geometry choice geometry = is_in_window choice.window geometry

-- the text of a feature of the layer of a name
abbrev pub feature_text : Choice → View → List ℕ → ℕ × FeatureContent → List ℕ
feature_text choice view name entry = if shows_geometry choice entry.1.geometry then element view name entry else []

-- ---- layers

-- how many tints the style knows
abbrev pub tint_count : ℕ
tint_count = 8

-- what stands before the features of the layer of a name at a place of the order
abbrev pub layer_head : ℕ → List ℕ → List ℕ
layer_head place name =
    codes "<g id='" ++ name ++ codes "' class='layer tint-" ++ decimal (place % tint_count) ++ codes "'>\n"

-- the text of a layer at a place of the order, which is shown
abbrev pub shown_layer_text : Choice → View → ℕ → List ℕ × LayerContent → List ℕ
shown_layer_text choice view place entry =
    layer_head place entry.0 ++ (flat_map (feature_text choice view entry.0) entry.1.features ++ codes "</g>\n")

-- the text of a layer, if it is shown
abbrev pub layer_text : Choice → View → ℕ → List ℕ × LayerContent → List ℕ
layer_text choice view place entry = if shows_layer choice entry.0 then shown_layer_text choice view place entry else []

-- the text of the layers from a place of the order on
abbrev pub layers_text : Choice → View → ℕ → Content → List ℕ
layers_text choice view place [] = []
layers_text choice view place (entry ∷ entries) = layer_text choice view place entry ++ layers_text choice view (suc place) entries

-- ---- the legend

-- the distance of two rows of the legend, in pixels
abbrev pub row_height : ℕ
row_height = 20

-- the row of the legend for the layer of a name at a place of the order, so many pixels from the top
abbrev pub legend_row : ℕ → ℕ → List ℕ → List ℕ
legend_row top place name =
    codes "<g class='entry tint-" ++ (decimal (place % tint_count) ++ (codes "' transform='translate(10 " ++ (decimal top
    ++ (codes ")'><rect class='swatch' width='14' height='14'/><text x='22' y='12'>" ++ (name ++ codes "</text></g>\n")))))

-- the rows of the layers from a place of the order on
abbrev pub legend_rows : Choice → ℕ → ℕ → Content → List ℕ
legend_rows choice top place [] = []
legend_rows choice top place (entry ∷ entries) =
    if shows_layer choice entry.0
    then legend_row top place entry.0 ++ legend_rows choice (top + row_height) (suc place) entries
    else legend_rows choice top (suc place) entries

-- ---- the whole

-- colours, and how wide lines and points are
abbrev pub style : List ℕ
style = codes "<style>.background{fill:#fff}.frame{fill:none;stroke:#888}.feature{fill:none;stroke:currentColor;stroke-width:1.5;stroke-linejoin:round;vector-effect:non-scaling-stroke}.point,.multipoint{stroke-width:7;stroke-linecap:round}.polygon,.multipolygon{fill:currentColor;fill-opacity:.2;fill-rule:evenodd}.swatch{fill:currentColor}.scale{fill:none;stroke:#222}text{fill:#222;stroke:none;font:13px sans-serif}.tint-0{color:#1b6ca8}.tint-1{color:#b5442e}.tint-2{color:#2e7d4f}.tint-3{color:#8a5a9e}.tint-4{color:#a8741b}.tint-5{color:#0f7f86}.tint-6{color:#b03a72}.tint-7{color:#5b6470}</style>\n"

-- the size of the whole picture, in pixels
abbrev pub picture_head : View → List ℕ
picture_head view =
    codes "<svg xmlns='http://www.w3.org/2000/svg' width='" ++ (decimal view.width ++ (codes "' height='" ++ (decimal view.height
    ++ (codes "' viewBox='0 0 " ++ (decimal view.width ++ (codes " " ++ (decimal view.height ++ codes "'>\n")))))))

-- the size of the map, in pixels
abbrev pub map_size : View → List ℕ
map_size view =
    codes "<rect class='background' width='100%' height='100%'/>\n<svg class='map' width='" ++ (decimal view.width ++ (codes "' height='"
    ++ (decimal view.map_height ++ codes "' viewBox='")))

-- how wide and how high the map is, in grid steps
abbrev pub map_sides : View → List ℕ
map_sides view = codes "0 0 " ++ (decimal view.wide ++ (codes " " ++ (decimal view.high ++ codes "' data-corner='")))

-- where its corner lies in the plane: places are told from there, y upwards
abbrev pub map_corner : View → List ℕ
map_corner view = signed_decimal view.left ++ (codes " " ++ signed_decimal view.top)

-- what stands before the layers
abbrev pub front : View → List ℕ
front view = picture_head view ++ style ++ map_size view ++ map_sides view ++ map_corner view ++ codes "'>\n<g transform='scale(1 -1)'>\n"

-- the end of the map, and a frame round it
abbrev pub frame_text : View → List ℕ
frame_text view =
    codes "</g>\n</svg>\n<rect class='frame' width='" ++ (decimal view.width ++ (codes "' height='" ++ (decimal view.map_height ++ codes "'/>\n")))

-- a bar as long as so many grid steps
abbrev pub bar_text : View → List ℕ
bar_text view =
    codes "<g class='scale' transform='translate(10 " ++ (decimal (view.map_height + 15) ++ (codes ")'><path d='M0 0v6h" ++ (decimal view.bar_pixels
    ++ (codes "v-6'/><text x='" ++ (decimal (view.bar_pixels + 8) ++ codes "' y='8'>")))))

-- so many grid steps in words, and the end of the scale
abbrev pub steps_text : ℕ → List ℕ
steps_text steps =
    if steps == 1 then codes "1 grid step</text></g>\n" else decimal steps ++ codes " grid steps</text></g>\n"

-- the scale: a bar with its length
abbrev pub scale_text : View → List ℕ
scale_text view = bar_text view ++ steps_text view.bar_steps

-- where the first row of the legend stands
abbrev pub legend_top : View → ℕ
legend_top view = view.map_height + 35

-- what stands behind the layers
abbrev pub back : Choice → View → Content → List ℕ
back choice view content =
    frame_text view ++ scale_text view ++ legend_rows choice (legend_top view) 0 content ++ codes "</svg>\n"

-- the picture of a store
abbrev pub picture : Choice → View → Content → List ℕ
picture choice view content = front view ++ (layers_text choice view 0 content ++ back choice view content)
