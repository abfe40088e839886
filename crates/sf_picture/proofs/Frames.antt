-- The map where there is no window: a fold of boxes, on the grid, with each of them in it.
use Rattle.std.proofs.Common.{◌≡◌, ◌∙◌, ◌≤◌, ◌+◌, ◌++◌, ◌-◌, ◌^◌, min, ℕ, zero, suc, Bool, true, false, cond, List, [], ◌∷◌, map, length, drop, slice_get, Option, None, Some, ap, sym, subst, refl, arith, ℤ, pos, negsuc, ◌+ℤ◌, ◌-ℤ◌, ◌≤ℤ◌}
use Rattle.std.specs.Prelude.{int_lt, if◌then◌else◌, IfNone, IfSome, IsSomeAnd, IsTrue, unwrap_or}
use Rattle.std.specs.Int.{int_max, int_min, saturate_signed, w32}
use Rattle.std.specs.List.{AllByRecursion, fold}
use Rattle.std.specs.Map.{values_of}
use Rattle.std.proofs.lemmas.Int.{int_max_is, int_min_is, ints}
use Rattle.std.proofs.lemmas.List.Concat.{flat_map-cons}
use Rattle.std.proofs.lemmas.List.Sums.{fold-append}
use Rattle.sf_grid.specs.Bounds.{IsCoordinate}
use Rattle.sf_grid.specs.Plane.{Coordinates, IsOnGrid}
use Rattle.sf_geometry.specs.declared.extent.Extent.{Extent}
use Rattle.sf_geometry.specs.Envelope.{envelope_of, extent_of, greatest, least}
use Rattle.sf_geometry.specs.Parts.{points_of}
use Rattle.sf_features.specs.Features.{FeatureContent}
use Rattle.sf_features.specs.declared.column.Column.{Column}
use Rattle.sf_layers.specs.declared.layer_kind.LayerKind.{LayerKind}
use Rattle.sf_layers.specs.Content.{Content, LayerContent}
use Rattle.sf_layers.specs.WellFormed.{IsFeature, IsLayer, IsWellFormed}
use Rattle.sf_picture.specs.declared.view.Frame.{Frame}
use Rattle.sf_picture.specs.declared.view.View.{View}
use Rattle.sf_picture.specs.Pictures.{Choice, shows_layer}
use Rattle.sf_picture.specs.Views.{HasAllShown, IsBoxOnGrid, IsFrameRound, IsRound, LiesIn, box_shown, boxes_in, layer_boxes, margin_of, origin, shown_boxes, shown_extent, side, united, united_all}

-- ---- layer by layer

-- what is left from a place on begins with what is there
drop-there : {X : Type 0} (xs : List X) (place : ℕ) (x : X) → slice_get xs place ≡ Some x → drop place xs ≡ x ∷ drop (place + 1) xs
drop-there {X} xs place x there =
    let next : suc place ≡ place + 1 = omega arith in
    begins xs place x there ∙ ap (λ (n : ℕ). x ∷ drop n xs) next
  where
    begins : (ys : List X) (i : ℕ) (y : X) → slice_get ys i ≡ Some y → drop i ys ≡ y ∷ drop (suc i) ys
    begins [] i y there = absurd cc
    begins (z ∷ zs) zero y there = let same : ◌≡◌ {A = X} z y = cc in ap (λ (w : X). w ∷ zs) same
    begins (z ∷ zs) (suc i) y there = begins zs i y there

-- nothing is left from the end on
drop-past : {X : Type 0} (xs : List X) (place : ℕ) → length xs ≤ place → drop place xs ≡ []
drop-past [] zero past = refl
drop-past [] (suc i) past = refl
drop-past (x ∷ xs) zero past = absurd (omega (arith, past))
drop-past (x ∷ xs) (suc i) past = drop-past xs i (omega (arith, past))

-- the boxes that are left are those of the layer at the place and those that are left then
boxes-at : (choice : Choice) (content : Content) (place : ℕ) (entry : List ℕ × LayerContent) → slice_get content place ≡ Some entry
    → shown_boxes choice (drop place content) ≡ layer_boxes choice entry ++ shown_boxes choice (drop (place + 1) content)
boxes-at choice content place entry there =
    ap (shown_boxes choice) (drop-there content place entry there) ∙ flat_map-cons (layer_boxes choice) entry (drop (place + 1) content)

-- the layer at the place was united with what was found
pub united-shown : (choice : Choice) (content : Content) (place : ℕ) (entry : List ℕ × LayerContent) (before after whole : Option Extent)
    → slice_get content place ≡ Some entry → shows_layer choice entry.0 ≡ true → after ≡ united_all before (boxes_in entry.1.features)
    → united_all before (shown_boxes choice (drop place content)) ≡ whole → united_all after (shown_boxes choice (drop (place + 1) content)) ≡ whole
united-shown choice content place entry before after whole there shown found all =
    let later = shown_boxes choice (drop (place + 1) content) in
    ap (λ (o : Option Extent). united_all o later) found
    ∙ sym (fold-append (λ (o : Option Extent) (box : Extent). Some (united o box)) before (boxes_in entry.1.features) later)
    ∙ ap (λ (b : Bool). united_all before ((if b then boxes_in entry.1.features else []) ++ later)) (sym shown)
    ∙ ap (united_all before) (sym (boxes-at choice content place entry there)) ∙ all

-- the layer at the place is not shown
pub united-hidden : (choice : Choice) (content : Content) (place : ℕ) (entry : List ℕ × LayerContent) (before whole : Option Extent)
    → slice_get content place ≡ Some entry → shows_layer choice entry.0 ≡ false
    → united_all before (shown_boxes choice (drop place content)) ≡ whole → united_all before (shown_boxes choice (drop (place + 1) content)) ≡ whole
united-hidden choice content place entry before whole there hidden all =
    let later = shown_boxes choice (drop (place + 1) content) in
    ap (λ (b : Bool). united_all before ((if b then boxes_in entry.1.features else []) ++ later)) (sym hidden)
    ∙ ap (united_all before) (sym (boxes-at choice content place entry there)) ∙ all

-- all layers were gone past
pub united-done : (choice : Choice) (content : Content) (place : ℕ) (found whole : Option Extent) → length content ≤ place
    → united_all found (shown_boxes choice (drop place content)) ≡ whole → found ≡ whole
united-done choice content place found whole past all =
    sym (ap (λ (c : Content). united_all found (shown_boxes choice c)) (drop-past content place past)) ∙ all

-- ---- on the grid

-- what holds of all of two lists holds of each
all-left : {X : Type 0} (P : X → Type 0) (xs ys : List X) → AllByRecursion P (xs ++ ys) → AllByRecursion P xs
all-left P [] ys h = tt
all-left P (x ∷ xs) ys h = (h.0, all-left P xs ys h.1)

all-right : {X : Type 0} (P : X → Type 0) (xs ys : List X) → AllByRecursion P (xs ++ ys) → AllByRecursion P ys
all-right P [] ys h = h
all-right P (x ∷ xs) ys h = all-right P xs ys h.1

all-both : {X : Type 0} (P : X → Type 0) (xs ys : List X) → AllByRecursion P xs → AllByRecursion P ys → AllByRecursion P (xs ++ ys)
all-both P [] ys h k = k
all-both P (x ∷ xs) ys h k = (h.0, all-both P xs ys h.1 k)

-- of a mapped list
all-mapped : {X Y : Type 0} (P : X → Type 0) (Q : Y → Type 0) (f : X → Y) → ((x : X) → P x → Q (f x)) → (xs : List X)
    → AllByRecursion P xs → AllByRecursion Q (map f xs)
all-mapped P Q f brings [] h = tt
all-mapped P Q f brings (x ∷ xs) h = (brings x h.0, all-mapped P Q f brings xs h.1)

all-unmapped : {X Y : Type 0} (Q : Y → Type 0) (f : X → Y) (xs : List X) → AllByRecursion Q (map f xs) → AllByRecursion (λ x. Q (f x)) xs
all-unmapped Q f [] h = tt
all-unmapped Q f (x ∷ xs) h = (h.0, all-unmapped Q f xs h.1)

-- one of two coordinates
either : (test : Bool) (a b : ℤ) → IsCoordinate a → IsCoordinate b → IsCoordinate (cond test a b)
either true a b on_a on_b = on_a
either false a b on_a on_b = on_b

min-on : (a b : ℤ) → IsCoordinate a → IsCoordinate b → IsCoordinate (int_min a b)
min-on a b on_a on_b = either (int_lt b a) b a on_b on_a

max-on : (a b : ℤ) → IsCoordinate a → IsCoordinate b → IsCoordinate (int_max a b)
max-on a b on_a on_b = either (int_lt b a) a b on_a on_b

fold-on : (f : ℤ → ℤ → ℤ) → ((a b : ℤ) → IsCoordinate a → IsCoordinate b → IsCoordinate (f a b)) → (n : ℤ) (ns : List ℤ)
    → IsCoordinate n → AllByRecursion IsCoordinate ns → IsCoordinate (fold f n ns)
fold-on f keeps n [] on all = on
fold-on f keeps n (m ∷ ms) on all = fold-on f keeps (f n m) ms (keeps n m on all.0) all.1

zero-on : IsCoordinate (pos 0)
zero-on = (omega (arith, ints), omega (arith, ints))

least-on : (ns : List ℤ) → AllByRecursion IsCoordinate ns → IsCoordinate (least ns)
least-on [] all = zero-on
least-on (n ∷ ns) all = fold-on int_min min-on n ns all.0 all.1

greatest-on : (ns : List ℤ) → AllByRecursion IsCoordinate ns → IsCoordinate (greatest ns)
greatest-on [] all = zero-on
greatest-on (n ∷ ns) all = fold-on int_max max-on n ns all.0 all.1

xs-on : (ps : List Coordinates) → AllByRecursion IsOnGrid ps → AllByRecursion IsCoordinate (map (λ p. p.x) ps)
xs-on ps all = all-mapped IsOnGrid IsCoordinate (λ (p : Coordinates). p.x) (λ p on. on.0) ps all

ys-on : (ps : List Coordinates) → AllByRecursion IsOnGrid ps → AllByRecursion IsCoordinate (map (λ p. p.y) ps)
ys-on ps all = all-mapped IsOnGrid IsCoordinate (λ (p : Coordinates). p.y) (λ p on. on.1) ps all

extent-on : (ps : List Coordinates) → AllByRecursion IsOnGrid ps → IsBoxOnGrid (extent_of ps)
extent-on ps all =
    record {
      min_x = least-on (map (λ p. p.x) ps) (xs-on ps all);
      min_y = least-on (map (λ p. p.y) ps) (ys-on ps all);
      max_x = greatest-on (map (λ p. p.x) ps) (xs-on ps all);
      max_y = greatest-on (map (λ p. p.y) ps) (ys-on ps all);
    }

united-on : (extent : Option Extent) (other : Extent) → IfSome extent IsBoxOnGrid → IsBoxOnGrid other → IsBoxOnGrid (united extent other)
united-on None other on on_other = on_other
united-on (Some e) other on on_other =
    record {
      min_x = min-on e.min_x other.min_x on.min_x on_other.min_x;
      min_y = min-on e.min_y other.min_y on.min_y on_other.min_y;
      max_x = max-on e.max_x other.max_x on.max_x on_other.max_x;
      max_y = max-on e.max_y other.max_y on.max_y on_other.max_y;
    }

united_all-on : (extent : Option Extent) (boxes : List Extent) → IfSome extent IsBoxOnGrid → AllByRecursion IsBoxOnGrid boxes
    → IfSome (united_all extent boxes) IsBoxOnGrid
united_all-on extent [] on all = on
united_all-on extent (box ∷ boxes) on all = united_all-on (Some (united extent box)) boxes (united-on extent box on all.0) all.1

features-on : (kind : LayerKind) (columns : List Column) (entries : List (ℕ × FeatureContent)) → AllByRecursion (IsFeature kind columns) (values_of entries)
    → AllByRecursion IsBoxOnGrid (boxes_in entries)
features-on kind columns [] all = tt
features-on kind columns (entry ∷ entries) all = (extent-on (points_of entry.1.geometry) all.0.on_grid, features-on kind columns entries all.1)

layer-on : (choice : Choice) (entry : List ℕ × LayerContent) → IsLayer entry.1 → AllByRecursion IsBoxOnGrid (layer_boxes choice entry)
layer-on choice entry fine = by (shows_layer choice entry.0)
  where
    by : (b : Bool) → AllByRecursion IsBoxOnGrid (if b then boxes_in entry.1.features else [])
    by true = features-on entry.1.kind entry.1.columns entry.1.features fine.features
    by false = tt

layers-on : (choice : Choice) (content : Content) → AllByRecursion IsLayer (values_of content) → AllByRecursion IsBoxOnGrid (shown_boxes choice content)
layers-on choice [] all = tt
layers-on choice (entry ∷ content) all =
    subst (AllByRecursion IsBoxOnGrid) (sym (flat_map-cons (layer_boxes choice) entry content))
    (all-both IsBoxOnGrid (layer_boxes choice entry) (shown_boxes choice content) (layer-on choice entry all.0) (layers-on choice content all.1))

origin-on : IsBoxOnGrid origin
origin-on = record { min_x = zero-on; min_y = zero-on; max_x = zero-on; max_y = zero-on }

or-origin : (found : Option Extent) → IfSome found IsBoxOnGrid → IsBoxOnGrid (unwrap_or found origin)
or-origin None on = origin-on
or-origin (Some e) on = on

-- the box that the map is made for is on the grid
pub box_shown-on : (choice : Choice) (content : Content) → IsWellFormed content → IsBoxOnGrid (box_shown choice content)
box_shown-on choice content fine =
    or-origin (shown_extent choice content) (united_all-on None (shown_boxes choice content) tt (layers-on choice content fine.layers))

-- nothing saturates there
fits-all : (z : ℤ) → negsuc 2147483647 ≤ℤ z → z ≤ℤ pos 2147483647 → saturate_signed w32 z ≡ z
fits-all (pos n) low high = let few : min n (2 ^ 31 - 1) ≡ n = omega (arith, ints, high) in ap pos few
fits-all (negsuc n) low high = let few : min n (2 ^ 31 - 1) ≡ n = omega (arith, ints, low) in ap negsuc few

-- a margin is far below the end of the numbers
margin-small : (box : Extent) → IsBoxOnGrid box → margin_of box ≤ 107374182
margin-small box on = omega (arith, ints, on.min_x, on.min_y, on.max_x, on.max_y)

pub round-frame : (box : Extent) (frame : Frame) (margin : ℕ) → IsBoxOnGrid box → margin ≡ margin_of box
    → frame.left ≡ saturate_signed w32 (box.min_x -ℤ pos margin) → frame.top ≡ saturate_signed w32 (box.max_y +ℤ pos margin)
    → frame.wide ≡ side box.min_x box.max_x margin → frame.high ≡ side box.min_y box.max_y margin → IsFrameRound box frame
round-frame box frame margin on is left top wide high =
    let small : margin ≤ 107374182 = omega (arith, is, margin-small box on) in
    let at_left : saturate_signed w32 (box.min_x -ℤ pos margin) ≡ box.min_x -ℤ pos margin =
    fits-all (box.min_x -ℤ pos margin) (omega (arith, ints, small, on.min_x)) (omega (arith, ints, small, on.min_x)) in
    let at_top : saturate_signed w32 (box.max_y +ℤ pos margin) ≡ box.max_y +ℤ pos margin =
    fits-all (box.max_y +ℤ pos margin) (omega (arith, ints, small, on.max_y)) (omega (arith, ints, small, on.max_y)) in
    record {
      left = left ∙ at_left ∙ ap (λ (n : ℕ). box.min_x -ℤ pos n) is;
      top = top ∙ at_top ∙ ap (λ (n : ℕ). box.max_y +ℤ pos n) is;
      wide = wide ∙ ap (side box.min_x box.max_x) is;
      high = high ∙ ap (side box.min_y box.max_y) is;
    }

-- ---- each box in it

-- a box lies in another
record IsWithin (inner : Extent) (outer : Extent) : Type 0 where
  left : outer.min_x ≤ℤ inner.min_x
  bottom : outer.min_y ≤ℤ inner.min_y
  right : inner.max_x ≤ℤ outer.max_x
  top : inner.max_y ≤ℤ outer.max_y

within-same : (e : Extent) → IsWithin e e
within-same e = record { left = omega (arith, ints); bottom = omega (arith, ints); right = omega (arith, ints); top = omega (arith, ints) }

within-twice : (a b c : Extent) → IsWithin a b → IsWithin b c → IsWithin a c
within-twice a b c ab bc =
    record {
      left = omega (arith, ints, ab.left, bc.left);
      bottom = omega (arith, ints, ab.bottom, bc.bottom);
      right = omega (arith, ints, ab.right, bc.right);
      top = omega (arith, ints, ab.top, bc.top);
    }

min-left : (a b : ℤ) → int_min a b ≤ℤ a
min-left a b = omega (arith, ints, int_min_is a b)

min-right : (a b : ℤ) → int_min a b ≤ℤ b
min-right a b = omega (arith, ints, int_min_is a b)

max-left : (a b : ℤ) → a ≤ℤ int_max a b
max-left a b = omega (arith, ints, int_max_is a b)

max-right : (a b : ℤ) → b ≤ℤ int_max a b
max-right a b = omega (arith, ints, int_max_is a b)

united-old : (e other : Extent) → IsWithin e (united (Some e) other)
united-old e other =
    record {
      left = min-left e.min_x other.min_x;
      bottom = min-left e.min_y other.min_y;
      right = max-left e.max_x other.max_x;
      top = max-left e.max_y other.max_y;
    }

united-new : (extent : Option Extent) (other : Extent) → IsWithin other (united extent other)
united-new None other = within-same other
united-new (Some e) other =
    record {
      left = min-right e.min_x other.min_x;
      bottom = min-right e.min_y other.min_y;
      right = max-right e.max_x other.max_x;
      top = max-right e.max_y other.max_y;
    }

-- what lies in the first box lies in what all are united to
united_all-keeps : (inner e : Extent) (boxes : List Extent) → IsWithin inner e → IsSomeAnd (united_all (Some e) boxes) (IsWithin inner)
united_all-keeps inner e [] within = within
united_all-keeps inner e (box ∷ boxes) within =
    united_all-keeps inner (united (Some e) box) boxes (within-twice inner e (united (Some e) box) within (united-old e box))

or-else : (inner : Extent) (found : Option Extent) → IsSomeAnd found (IsWithin inner) → IsWithin inner (unwrap_or found origin)
or-else inner None none = absurd none
or-else inner (Some e) within = within

united_all-has : (extent : Option Extent) (boxes : List Extent) → AllByRecursion (λ box. IsWithin box (unwrap_or (united_all extent boxes) origin)) boxes
united_all-has extent [] = tt
united_all-has extent (box ∷ boxes) = (
  or-else box (united_all (Some (united extent box)) boxes) (united_all-keeps box (united extent box) boxes (united-new extent box)),
  united_all-has (Some (united extent box)) boxes,
)

-- what lies in a box lies in the map round it
lies-round : (view : View) (box inner : Extent) → IsRound box view → IsWithin inner box → LiesIn view inner
lies-round view box inner round within =
    let margin = margin_of box in
    record {
      left = omega (arith, ints, round.left, within.left);
      right = omega (arith, ints, round.left, round.wide, within.right);
      top = omega (arith, ints, round.top, within.top);
      bottom = omega (arith, ints, round.top, round.high, within.bottom);
    }

all-brought : {X : Type 0} (P Q : X → Type 0) → ((x : X) → P x → Q x) → (xs : List X) → AllByRecursion P xs → AllByRecursion Q xs
all-brought P Q brings [] h = tt
all-brought P Q brings (x ∷ xs) h = (brings x h.0, all-brought P Q brings xs h.1)

-- all boxes that are shown, told layer by layer
by-layers : (choice : Choice) (view : View) (content : Content) → AllByRecursion (LiesIn view) (shown_boxes choice content) → HasAllShown choice content view
by-layers choice view [] all = tt
by-layers choice view (entry ∷ content) all =
    let parts : AllByRecursion (LiesIn view) (layer_boxes choice entry ++ shown_boxes choice content) =
    subst (AllByRecursion (LiesIn view)) (flat_map-cons (layer_boxes choice) entry content) all in (
      of-layer (shows_layer choice entry.0) entry.1.features (all-left (LiesIn view) (layer_boxes choice entry) (shown_boxes choice content) parts),
      by-layers choice view content (all-right (LiesIn view) (layer_boxes choice entry) (shown_boxes choice content) parts),
    )
  where
    of-layer : (b : Bool) (features : List (ℕ × FeatureContent)) → AllByRecursion (LiesIn view) (if b then boxes_in features else []) → IsTrue b
        → AllByRecursion (λ feature. LiesIn view (envelope_of feature.1.geometry)) features
    of-layer true features h is = all-unmapped (LiesIn view) (λ (feature : ℕ × FeatureContent). envelope_of feature.1.geometry) features h
    of-layer false features h is = absurd cc

-- all that is shown lies in the map round its box
pub all-shown : (choice : Choice) (content : Content) (view : View) → IsRound (box_shown choice content) view → HasAllShown choice content view
all-shown choice content view round =
    by-layers choice view content
    (all-brought (λ box. IsWithin box (box_shown choice content)) (LiesIn view) (λ inner within. lies-round view (box_shown choice content) inner round within)
    (shown_boxes choice content) (united_all-has None (shown_boxes choice content)))

-- that is, where there is no window
pub all-shown-where : (window : Option Extent) (choice : Choice) (content : Content) (view : View)
    → IfNone window (IsRound (box_shown choice content) view) → IfNone window (HasAllShown choice content view)
all-shown-where None choice content view round = all-shown choice content view round
all-shown-where (Some window) choice content view round = tt
