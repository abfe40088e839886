-- What a sized geometry on the grid says of its lists.
use Rattle.std.proofs.Common.{◌≡◌, ℕ, ◌+◌, ◌<◌, Bool, true, false, ◌||◌, List, [], ◌∷◌, ◌++◌, length, refl, sym, ap, ◌∙◌, subst, arith, length-append}
use Rattle.std.proofs.lemmas.Bool.{ne_eqb}
use Rattle.std.specs.List.{AllByRecursion, flat_map, list_any}
use Rattle.sf_grid.specs.Plane.{Coordinates, IsOnGrid}
use Rattle.sf_geometry.specs.Parts.{joined}
use Rattle.sf_geometry.specs.Size.{is_empty, has_empty}
use mathlib.Core.List.{append_assoc}

-- a list that has an element, and each of them is good
abbrev pub GoodList : {T : Type 0} → (T → Type 0) → List T → Type 0
GoodList good xs = (0 < length xs) × AllByRecursion good xs

-- a line or a ring of good points
abbrev pub GoodLineOf : (Coordinates → Type 0) → List Coordinates → Type 0
GoodLineOf good = GoodList good

-- the rings of a polygon, or the lines of a MultiLineString, of good points
abbrev pub GoodLinesOf : (Coordinates → Type 0) → List (List Coordinates) → Type 0
GoodLinesOf good = GoodList (GoodLineOf good)

-- the same on the grid
abbrev pub GoodLine : List Coordinates → Type 0
GoodLine = GoodLineOf IsOnGrid

abbrev pub GoodLines : List (List Coordinates) → Type 0
GoodLines = GoodLinesOf IsOnGrid

-- the points of a list
abbrev pub total : {T : Type 0} → (T → ℕ) → List T → ℕ
total size [] = 0
total size (x ∷ xs) = size x + total size xs

-- a point counts as one
abbrev pub one : Coordinates → ℕ
one p = 1

all_append : {T : Type 0} (P : T → Type 0) (xs ys : List T) → AllByRecursion P (xs ++ ys) → AllByRecursion P xs × AllByRecursion P ys
all_append P [] ys all = (tt, all)
all_append P (x ∷ xs) ys all = let both = all_append P xs ys all.1 in ((all.0, both.0), both.1)

some_by : {T : Type 0} (xs : List T) → is_empty xs ≡ false → 0 < length xs
some_by [] filled = absurd cc
some_by (x ∷ xs) filled = omega arith

pub or_false : (a b : Bool) → (a || b) ≡ false → (a ≡ false) × (b ≡ false)
or_false true b e = absurd cc
or_false false b e = (refl, e)

each_good : {T : Type 0} (point : Coordinates → Type 0) (good : T → Type 0) (empty : T → Bool) (parts : T → List Coordinates)
    → ((x : T) → empty x ≡ false → AllByRecursion point (parts x) → good x)
    → (xs : List T) → list_any empty xs ≡ false → AllByRecursion point (flat_map parts xs) → AllByRecursion good xs
each_good point good empty parts to_good [] filled on = tt
each_good point good empty parts to_good (x ∷ xs) filled on =
    let both = or_false (empty x) (list_any empty xs) filled in
    let split = all_append point (parts x) (flat_map parts xs) on in
    (to_good x both.0 split.0, each_good point good empty parts to_good xs both.1 split.1)

pub good_line_of : (point : Coordinates → Type 0) (ps : List Coordinates) → is_empty ps ≡ false → AllByRecursion point ps → GoodLineOf point ps
good_line_of point ps filled on = (some_by ps filled, on)

pub good_lines_of : (point : Coordinates → Type 0) (lines : List (List Coordinates)) → has_empty lines ≡ false → AllByRecursion point (joined lines) → GoodLinesOf point lines
good_lines_of point lines filled on =
    let both = or_false (is_empty lines) (list_any is_empty lines) filled in
    (some_by lines both.0, each_good point (GoodLineOf point) is_empty (λ ps. ps) (good_line_of point) lines both.1 on)

pub good_line : (ps : List Coordinates) → is_empty ps ≡ false → AllByRecursion IsOnGrid ps → GoodLine ps
good_line = good_line_of IsOnGrid

pub good_lines : (lines : List (List Coordinates)) → has_empty lines ≡ false → AllByRecursion IsOnGrid (joined lines) → GoodLines lines
good_lines = good_lines_of IsOnGrid

pub joined_append : (a b : List (List Coordinates)) → joined (a ++ b) ≡ joined a ++ joined b
joined_append [] b = refl
joined_append (x ∷ xs) b = ap (λ r. x ++ r) (joined_append xs b) ∙ sym (append_assoc x (joined xs) (joined b))

pub joined_twice : (polygons : List (List (List Coordinates))) → joined (joined polygons) ≡ flat_map joined polygons
joined_twice [] = refl
joined_twice (p ∷ ps) = joined_append p (joined ps) ∙ ap (λ r. joined p ++ r) (joined_twice ps)

pub good_polygons_of : (point : Coordinates → Type 0) (polygons : List (List (List Coordinates))) → (is_empty polygons || list_any has_empty polygons) ≡ false
    → AllByRecursion point (joined (joined polygons)) → GoodList (GoodLinesOf point) polygons
good_polygons_of point polygons filled on =
    let both = or_false (is_empty polygons) (list_any has_empty polygons) filled in
    (some_by polygons both.0, each_good point (GoodLinesOf point) has_empty joined (good_lines_of point) polygons both.1 (subst (AllByRecursion point) (joined_twice polygons) on))

pub good_polygons : (polygons : List (List (List Coordinates))) → (is_empty polygons || list_any has_empty polygons) ≡ false → AllByRecursion IsOnGrid (joined (joined polygons)) → GoodList GoodLines polygons
good_polygons = good_polygons_of IsOnGrid

total_parts : {T : Type 0} (size : T → ℕ) (parts : T → List Coordinates) → ((x : T) → size x ≡ length (parts x)) → (xs : List T) → total size xs ≡ length (flat_map parts xs)
total_parts size parts each [] = refl
total_parts size parts each (x ∷ xs) =
    let here = each x in
    let later = total_parts size parts each xs in
    let both = length-append (parts x) (flat_map parts xs) in
    omega (arith, here, later, both)

pub total_line : (ps : List Coordinates) → total one ps ≡ length ps
total_line [] = refl
total_line (p ∷ ps) = let later = total_line ps in omega (arith, later)

pub total_lines : (lines : List (List Coordinates)) → total (total one) lines ≡ length (joined lines)
total_lines lines = total_parts (total one) (λ ps. ps) total_line lines

pub total_polygons : (polygons : List (List (List Coordinates))) → total (total (total one)) polygons ≡ length (joined (joined polygons))
total_polygons polygons = total_parts (total (total one)) joined total_lines polygons ∙ ap length (sym (joined_twice polygons))

-- ---- and back

all_join : {T : Type 0} (P : T → Type 0) (xs ys : List T) → AllByRecursion P xs → AllByRecursion P ys → AllByRecursion P (xs ++ ys)
all_join P [] ys here there = there
all_join P (x ∷ xs) ys here there = (here.0, all_join P xs ys here.1 there)

both_false : (a b : Bool) → a ≡ false → b ≡ false → (a || b) ≡ false
both_false a b left right = rw (left, right) refl

pub filled_line : {T : Type 0} (good : T → Type 0) (xs : List T) → GoodList good xs → is_empty xs ≡ false
filled_line good [] all = absurd (omega (arith, all.0))
filled_line good (x ∷ xs) all = ne_eqb (length (x ∷ xs)) 0 (λ e. omega (arith, e))

none_empty : {T : Type 0} (good : T → Type 0) (empty : T → Bool) → ((x : T) → good x → empty x ≡ false) → (xs : List T) → AllByRecursion good xs → list_any empty xs ≡ false
none_empty good empty is_filled [] all = refl
none_empty good empty is_filled (x ∷ xs) all = both_false (empty x) (list_any empty xs) (is_filled x all.0) (none_empty good empty is_filled xs all.1)

pub filled_lines : (lines : List (List Coordinates)) → GoodLines lines → has_empty lines ≡ false
filled_lines lines all = both_false (is_empty lines) (list_any is_empty lines) (filled_line GoodLine lines all) (none_empty GoodLine is_empty (filled_line IsOnGrid) lines all.1)

pub filled_polygons : (polygons : List (List (List Coordinates))) → GoodList GoodLines polygons → (is_empty polygons || list_any has_empty polygons) ≡ false
filled_polygons polygons all = both_false (is_empty polygons) (list_any has_empty polygons) (filled_line GoodLines polygons all) (none_empty GoodLines has_empty filled_lines polygons all.1)

each_on_grid : {T : Type 0} (good : T → Type 0) (parts : T → List Coordinates) → ((x : T) → good x → AllByRecursion IsOnGrid (parts x)) → (xs : List T) → AllByRecursion good xs → AllByRecursion IsOnGrid (flat_map parts xs)
each_on_grid good parts on_grid [] all = tt
each_on_grid good parts on_grid (x ∷ xs) all = all_join IsOnGrid (parts x) (flat_map parts xs) (on_grid x all.0) (each_on_grid good parts on_grid xs all.1)

pub lines_on_grid : (lines : List (List Coordinates)) → GoodLines lines → AllByRecursion IsOnGrid (joined lines)
lines_on_grid lines all = each_on_grid GoodLine (λ ps. ps) (λ ps good. good.1) lines all.1

pub polygons_on_grid : (polygons : List (List (List Coordinates))) → GoodList GoodLines polygons → AllByRecursion IsOnGrid (joined (joined polygons))
polygons_on_grid polygons all = subst (AllByRecursion IsOnGrid) (sym (joined_twice polygons)) (each_on_grid GoodLines joined lines_on_grid polygons all.1)
