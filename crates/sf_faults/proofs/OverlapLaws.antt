-- Areas that have an inner point in common, as polygons and as holes.
use Rattle.std.proofs.Common.{◌≡◌, refl, ap, sym, ◌∙◌, subst, ℕ, ◌+◌, ◌<◌, ◌≤◌, arith, Bool, true, ◌&&◌, List, [], ◌∷◌, ◌++◌, length, map, slice_index_or}
use Rattle.std.proofs.Math.Bool.{and-true}
use Rattle.std.proofs.lemmas.List.{get_or_default, map-append}
use Rattle.std.specs.Prelude.{Some, None}
use Rattle.std.specs.List.{enumerate_from}
use Rattle.sf_grid.specs.Plane.{Coordinates, Point}
use Rattle.sf_geometry.specs.declared.geometry.Geometry.{Geometry}
use Rattle.sf_geometry.specs.declared.geometry.Geometry.TheVariants.{MultiPoint, Polygon}
use Rattle.sf_geometry.specs.PointSets.{in_interior, in_ring}
use Rattle.sf_valid_rules.specs.Conditions.{Applies, AtPoint}
use Rattle.sf_faults.specs.declared.place.Place.{Place}
use Rattle.sf_faults.specs.declared.place.Place.TheVariants.{Holes, Parts}
use Rattle.sf_faults.specs.Candidates.{Candidate, candidate, holes_nested, parts_overlap}
use Rattle.sf_faults.specs.Orders.{numbered, pairs, pairs_after, with_last}
use Rattle.sf_faults.specs.Places.{IsFirstPlace, NoneIsAtFault}
use Rattle.sf_faults.specs.Written.{AreFirstOverlapping, areas_overlap, single_ring}
use Rattle.sf_faults.proofs.PlaceLaws.{NoPair, NoneWith, first-alone, first-map, first-pair, no_pair-all, no_pair-more, none-alone, none-map, none_with-more, numbered-at, numbered-end, numbered-length, single}

-- ---- the areas as they are read
abbrev any_area : ℕ × Geometry
any_area = (0, MultiPoint [])

abbrev pub area_read : List Geometry → ℕ → ℕ × Geometry
area_read areas i = slice_index_or (numbered areas) i any_area

abbrev pub NoTwo : List Geometry → ℕ → Type 0
NoTwo areas j = (place : ℕ → ℕ → Place) → NoPair (single (areas_overlap place)) (numbered areas) j

abbrev pub NoneOverlaps : List Geometry → ℕ → ℕ → Type 0
NoneOverlaps areas j i = (place : ℕ → ℕ → Place) → NoneWith (single (areas_overlap place)) (numbered areas) j i (area_read areas j)

area-at : (areas : List Geometry) (i : ℕ) (a : Geometry) → i < length areas → a ≡ slice_index_or areas i a → (i, a) ≡ area_read areas i
area-at areas i a h e = numbered-at areas i a a h e refl ∙ get_or_default (numbered areas) i (i, a) any_area (numbered-length areas i h)

read-self : (areas : List Geometry) (i : ℕ) → i < length areas → area_read areas i ≡ slice_index_or (numbered areas) i (area_read areas i)
read-self areas i h = get_or_default (numbered areas) i any_area (area_read areas i) (numbered-length areas i h)

abbrev pub do_areas_overlap : Geometry → Geometry → Point → Bool
do_areas_overlap a b p = in_interior a p && in_interior b p

moved : (areas : List Geometry) (place : ℕ → ℕ → Place) (i j : ℕ) (a b : Geometry) → (i, a) ≡ area_read areas i → (j, b) ≡ area_read areas j →
    areas_overlap place ((i, a), (j, b)) ≡ areas_overlap place (area_read areas i, area_read areas j)
moved areas place i j a b e f = ap (λ (x : ℕ × Geometry). areas_overlap place (x, (j, b))) e ∙ ap (λ (y : ℕ × Geometry). areas_overlap place (area_read areas i, y)) f

pub overlap-found : (areas : List Geometry) (i j : ℕ) (a b : Geometry) → i < j → j < length areas → a ≡ slice_index_or areas i a → b ≡ slice_index_or areas j b →
    NoTwo areas j → NoneOverlaps areas j i → Applies (AtPoint (do_areas_overlap a b)) → AreFirstOverlapping areas (Some (i, j))
overlap-found areas i j a b o h e f n m x =
    λ place.
    let l : i < length areas = omega (arith, o, h) in
    first-map (areas_overlap place) (pairs (numbered areas)) (place i j)
    (first-pair (single (areas_overlap place)) (numbered areas) j i (area_read areas i) (area_read areas j) (place i j) (numbered-length areas j h) o (read-self areas i l) (read-self areas j h) (n place) (m place)
    (subst (λ (c : Candidate). IsFirstPlace (c ∷ []) (place i j)) (moved areas place i j a b (area-at areas i a l e) (area-at areas j b h f))
    (first-alone (areas_overlap place ((i, a), (j, b))) (place i j) x refl)))

pub overlap-more : (areas : List Geometry) (i j : ℕ) (a b : Geometry) → i < j → j < length areas → a ≡ slice_index_or areas i a → b ≡ slice_index_or areas j b →
    NoneOverlaps areas j i → ¬ (Applies (AtPoint (do_areas_overlap a b))) → NoneOverlaps areas j (i + 1)
overlap-more areas i j a b o h e f m x =
    λ place.
    let l : i < length areas = omega (arith, o, h) in
    none_with-more (single (areas_overlap place)) (numbered areas) j i (area_read areas i) (area_read areas j) (numbered-length areas j h) o (read-self areas i l) (m place)
    (subst (λ (c : Candidate). NoneIsAtFault (c ∷ [])) (moved areas place i j a b (area-at areas i a l e) (area-at areas j b h f))
    (none-alone (areas_overlap place ((i, a), (j, b))) x))

pub overlaps-more : (areas : List Geometry) (i j : ℕ) → j ≤ i → j < length areas → NoTwo areas j → NoneOverlaps areas j i → NoTwo areas (j + 1)
overlaps-more areas i j o h n m =
    λ place. no_pair-more (single (areas_overlap place)) (numbered areas) j i (area_read areas j) (numbered-length areas j h) (read-self areas j h) o (n place) (m place)

pub overlaps-end : (areas : List Geometry) (j : ℕ) → length areas ≤ j → NoTwo areas j → AreFirstOverlapping areas None
overlaps-end areas j h n =
    λ place. none-map (areas_overlap place) (pairs (numbered areas)) (no_pair-all (single (areas_overlap place)) (numbered areas) j (numbered-end areas j h) (n place))

-- ---- lists of what is made of members
map-map : {X Y Z : Type 0} (f : Y → Z) (g : X → Y) (xs : List X) → map f (map g xs) ≡ map (λ x. f (g x)) xs
map-map f g [] = refl
map-map f g (x ∷ xs) = ap (λ ys. f (g x) ∷ ys) (map-map f g xs)

with_last-map : {X Y : Type 0} (g : X → Y) (before : List X) (x : X) → with_last (map g before) (g x) ≡ map (λ (e : X × X). (g e.0, g e.1)) (with_last before x)
with_last-map g [] x = refl
with_last-map g (b ∷ before) x = ap (λ ys. (g b, g x) ∷ ys) (with_last-map g before x)

pairs-map_after : {X Y : Type 0} (g : X → Y) (before xs : List X) → pairs_after (map g before) (map g xs) ≡ map (λ (e : X × X). (g e.0, g e.1)) (pairs_after before xs)
pairs-map_after g before [] = refl
pairs-map_after {X} g before (x ∷ xs) =
    ap (λ b. with_last (map g before) (g x) ++ pairs_after b (map g xs)) (sym (map-append g before (x ∷ [])))
    ∙ ap (λ ys. ys ++ pairs_after (map g (before ++ x ∷ [])) (map g xs)) (with_last-map g before x)
    ∙ ap (λ ys. map (λ (e : X × X). (g e.0, g e.1)) (with_last before x) ++ ys) (pairs-map_after g (before ++ x ∷ []) xs)
    ∙ sym (map-append (λ (e : X × X). (g e.0, g e.1)) (with_last before x) (pairs_after (before ++ x ∷ []) xs))

pairs-map : {X Y : Type 0} (g : X → Y) (xs : List X) → pairs (map g xs) ≡ map (λ (e : X × X). (g e.0, g e.1)) (pairs xs)
pairs-map g xs = pairs-map_after g [] xs

numbered-map : {X Y : Type 0} (g : X → Y) (n : ℕ) (xs : List X) → enumerate_from n (map g xs) ≡ map (λ (e : ℕ × X). (e.0, g e.1)) (enumerate_from n xs)
numbered-map g n [] = refl
numbered-map g n (x ∷ xs) = ap (λ ys. (n, g x) ∷ ys) (numbered-map g (n + 1) xs)

numbered-shift : {X : Type 0} (n : ℕ) (xs : List X) → enumerate_from (n + 1) xs ≡ map (λ (e : ℕ × X). (e.0 + 1, e.1)) (enumerate_from n xs)
numbered-shift n [] = refl
numbered-shift n (x ∷ xs) = ap (λ ys. (n + 1, x) ∷ ys) (numbered-shift (n + 1) xs)

pairs-numbered : {X Y : Type 0} (g : X → Y) (xs : List X) → pairs (numbered (map g xs)) ≡ map (λ (e : (ℕ × X) × (ℕ × X)). ((e.0.0, g e.0.1), (e.1.0, g e.1.1))) (pairs (numbered xs))
pairs-numbered {X} g xs = ap pairs (numbered-map g 0 xs) ∙ pairs-map (λ (e : ℕ × X). (e.0, g e.1)) (numbered xs)

-- ---- polygons
parts-same : (polygons : List (List (List Coordinates))) → map (areas_overlap Parts) (pairs (numbered (map Polygon polygons))) ≡ map parts_overlap (pairs (numbered polygons))
parts-same polygons =
    ap (map (areas_overlap Parts)) (pairs-numbered Polygon polygons)
    ∙ map-map (areas_overlap Parts) (λ (e : (ℕ × List (List Coordinates)) × (ℕ × List (List Coordinates))). ((e.0.0, Polygon e.0.1), (e.1.0, Polygon e.1.1))) (pairs (numbered polygons))

pub parts-first : (polygons : List (List (List Coordinates))) (areas : List Geometry) (i j : ℕ) → areas ≡ map Polygon polygons → AreFirstOverlapping areas (Some (i, j)) →
    IsFirstPlace (map parts_overlap (pairs (numbered polygons))) (Parts i j)
parts-first polygons areas i j e h =
    subst (λ cs. IsFirstPlace cs (Parts i j)) (ap (λ (gs : List Geometry). map (areas_overlap Parts) (pairs (numbered gs))) e ∙ parts-same polygons) (h Parts)

pub parts-none : (polygons : List (List (List Coordinates))) (areas : List Geometry) → areas ≡ map Polygon polygons → AreFirstOverlapping areas None →
    NoneIsAtFault (map parts_overlap (pairs (numbered polygons)))
parts-none polygons areas e h =
    subst NoneIsAtFault (ap (λ (gs : List Geometry). map (areas_overlap Parts) (pairs (numbered gs))) e ∙ parts-same polygons) (h Parts)

-- ---- holes
abbrev hole_place : ℕ → ℕ → ℕ → Place
hole_place part i j = Holes part (i + 1) (j + 1)

inside-same : (h g : List Coordinates) → do_areas_overlap (single_ring h) (single_ring g) ≡ (λ p. in_ring h p && in_ring g p)
inside-same h g =
    let each : (p : Point) → do_areas_overlap (single_ring h) (single_ring g) p ≡ (in_ring h p && in_ring g p) =
    λ p. ap (λ t. t && (in_ring g p && true)) (and-true (in_ring h p)) ∙ ap (λ t. in_ring h p && t) (and-true (in_ring g p)) in
    λ i. λ p. each p i

map-same : {X Y : Type 0} (f g : X → Y) → ((x : X) → f x ≡ g x) → (xs : List X) → map f xs ≡ map g xs
map-same f g h [] = refl
map-same f g h (x ∷ xs) = ap (λ y. y ∷ map f xs) (h x) ∙ ap (λ ys. g x ∷ ys) (map-same f g h xs)

abbrev TwoRings : Type 0
TwoRings = (ℕ × List Coordinates) × (ℕ × List Coordinates)

holes-same : (part : ℕ) (holes : List (List Coordinates)) → map (areas_overlap (hole_place part)) (pairs (numbered (map single_ring holes))) ≡ map (holes_nested part) (pairs (enumerate_from 1 holes))
holes-same part holes =
    ap (map (areas_overlap (hole_place part))) (pairs-numbered single_ring holes)
    ∙ map-map (areas_overlap (hole_place part)) (λ (e : TwoRings). ((e.0.0, single_ring e.0.1), (e.1.0, single_ring e.1.1))) (pairs (numbered holes))
    ∙ map-same (λ (e : TwoRings). areas_overlap (hole_place part) ((e.0.0, single_ring e.0.1), (e.1.0, single_ring e.1.1)))
    (λ (e : TwoRings). holes_nested part ((e.0.0 + 1, e.0.1), (e.1.0 + 1, e.1.1)))
    (λ e. ap (λ (t : Point → Bool). candidate (Holes part (e.0.0 + 1) (e.1.0 + 1)) (AtPoint t)) (inside-same e.0.1 e.1.1)) (pairs (numbered holes))
    ∙ sym (map-map (holes_nested part) (λ (e : TwoRings). ((e.0.0 + 1, e.0.1), (e.1.0 + 1, e.1.1))) (pairs (numbered holes)))
    ∙ ap (map (holes_nested part)) (sym (pairs-map (λ (e : ℕ × List Coordinates). (e.0 + 1, e.1)) (numbered holes)))
    ∙ ap (λ (hs : List (ℕ × List Coordinates)). map (holes_nested part) (pairs hs)) (sym (numbered-shift 0 holes))

pub holes-first : (part : ℕ) (holes : List (List Coordinates)) (areas : List Geometry) (i j : ℕ) → areas ≡ map single_ring holes → AreFirstOverlapping areas (Some (i, j)) →
    IsFirstPlace (map (holes_nested part) (pairs (enumerate_from 1 holes))) (Holes part (i + 1) (j + 1))
holes-first part holes areas i j e h =
    subst (λ cs. IsFirstPlace cs (Holes part (i + 1) (j + 1))) (ap (λ (gs : List Geometry). map (areas_overlap (hole_place part)) (pairs (numbered gs))) e ∙ holes-same part holes) (h (hole_place part))

pub holes-none : (part : ℕ) (holes : List (List Coordinates)) (areas : List Geometry) → areas ≡ map single_ring holes → AreFirstOverlapping areas None →
    NoneIsAtFault (map (holes_nested part) (pairs (enumerate_from 1 holes)))
holes-none part holes areas e h =
    subst NoneIsAtFault (ap (λ (gs : List Geometry). map (areas_overlap (hole_place part)) (pairs (numbered gs))) e ∙ holes-same part holes) (h (hole_place part))
