-- How many bytes canonical bytes are.
use Rattle.std.proofs.Common.{◌≡◌, ℕ, ◌+◌, ◌*◌, ◌≤◌, false, List, [], ◌∷◌, ◌++◌, length, ap, ◌∙◌, subst, arith, length-append}
use Rattle.std.proofs.lemmas.List.{append-nil}
use Rattle.std.specs.List.{flat_map, list_any}
use Rattle.byteorder.specs.Endian.{little_bytes}
use Rattle.byteorder.specs.Numbers.{length-bytes_low_first}
use Rattle.sf_grid.specs.Plane.{Coordinates}
use Rattle.sf_geometry.specs.declared.geometry.Geometry.{Geometry}
use Rattle.sf_geometry.specs.declared.geometry.Geometry.TheVariants.{Point, LineString, Polygon, MultiPoint, MultiLineString, MultiPolygon}
use Rattle.sf_geometry.specs.declared.kind.Kind.{Kind}
use Rattle.sf_geometry.specs.declared.kind.Kind.TheVariants as kinds
use Rattle.sf_geometry.specs.Parts.{joined}
use Rattle.sf_geometry.specs.Size.{is_empty, has_empty, point_count, points_max, IsSized}
use Rattle.sf_geometry.proofs.Filled.{total, or_false, joined_append}
use Rattle.sf_wkb.specs.Words.{word_of}
use Rattle.sf_wkb.specs.Grammar.{code_of, header, point_bytes, list_bytes, line_bytes, rings_bytes, canonical}
use Rattle.sf_wkb.specs.Lengths.{canonical_len, canonical_len_max}
use Rattle.sf_wkb.proofs.Appending.{no_longer, no_more}

-- ---- pieces

header_length : (kind : Kind) → length (header kind) ≡ 5
header_length kind = let code : length (little_bytes 4 (code_of kind)) ≡ 4 = length-bytes_low_first 0 4 (code_of kind) in omega (arith, code)

-- a byte of order and a code before other bytes
headed_length : (kind : Kind) (bytes : List ℕ) → length (header kind ++ bytes) ≡ 5 + length bytes
headed_length kind bytes = let both = length-append (header kind) bytes in let front = header_length kind in omega (arith, both, front)

point_length : (p : Coordinates) → length (point_bytes p) ≡ 16
point_length p =
    let both = length-append (little_bytes 8 (word_of p.x)) (little_bytes 8 (word_of p.y)) in
    let x : length (little_bytes 8 (word_of p.x)) ≡ 8 = length-bytes_low_first 0 8 (word_of p.x) in
    let y : length (little_bytes 8 (word_of p.y)) ≡ 8 = length-bytes_low_first 0 8 (word_of p.y) in
    omega (arith, both, x, y)

flat_length : {T : Type 0} (bytes : T → List ℕ) (size : T → ℕ) → ((x : T) → length (bytes x) ≡ size x) → (xs : List T) → length (flat_map bytes xs) ≡ total size xs
flat_length bytes size each [] = omega arith
flat_length bytes size each (x ∷ xs) =
    let both = length-append (bytes x) (flat_map bytes xs) in
    let here = each x in
    let later = flat_length bytes size each xs in
    omega (arith, both, here, later)

list_length : {T : Type 0} (bytes : T → List ℕ) (size : T → ℕ) → ((x : T) → length (bytes x) ≡ size x) → (xs : List T) → length (list_bytes bytes xs) ≡ 4 + total size xs
list_length bytes size each xs =
    let both = length-append (little_bytes 4 (length xs)) (flat_map bytes xs) in
    let count : length (little_bytes 4 (length xs)) ≡ 4 = length-bytes_low_first 0 4 (length xs) in
    let items = flat_length bytes size each xs in
    omega (arith, both, count, items)

-- ---- sums

points_total : (ps : List Coordinates) → total (λ p. 16) ps ≡ 16 * length ps
points_total [] = omega arith
points_total (p ∷ ps) = let later = points_total ps in omega (arith, later)

whole_points_total : (ps : List Coordinates) → total (λ p. 21) ps ≡ 21 * length ps
whole_points_total [] = omega arith
whole_points_total (p ∷ ps) = let later = whole_points_total ps in omega (arith, later)

lines_total : (lines : List (List Coordinates)) → total (λ ps. 4 + 16 * length ps) lines ≡ 4 * length lines + 16 * length (joined lines)
lines_total [] = omega arith
lines_total (x ∷ xs) = let later = lines_total xs in let points = length-append x (joined xs) in omega (arith, later, points)

whole_lines_total : (lines : List (List Coordinates)) → total (λ ps. 9 + 16 * length ps) lines ≡ 9 * length lines + 16 * length (joined lines)
whole_lines_total [] = omega arith
whole_lines_total (x ∷ xs) = let later = whole_lines_total xs in let points = length-append x (joined xs) in omega (arith, later, points)

-- the points of polygons, one polygon apart
joined_length : (rings : List (List Coordinates)) (more : List (List Coordinates)) → length (joined (rings ++ more)) ≡ length (joined rings) + length (joined more)
joined_length rings more = ap length (joined_append rings more) ∙ length-append (joined rings) (joined more)

whole_polygons_total : (polygons : List (List (List Coordinates))) → total (λ rings. 9 + 4 * length rings + 16 * length (joined rings)) polygons
    ≡ 9 * length polygons + 4 * length (joined polygons) + 16 * length (joined (joined polygons))
whole_polygons_total [] = omega arith
whole_polygons_total (x ∷ xs) =
    let later = whole_polygons_total xs in
    let rings = length-append x (joined xs) in
    let points = joined_length x (joined xs) in
    omega (arith, later, rings, points)

-- ---- lists

line_length : (ps : List Coordinates) → length (line_bytes ps) ≡ 4 + 16 * length ps
line_length ps = let list = list_length point_bytes (λ p. 16) point_length ps in let sum = points_total ps in omega (arith, list, sum)

rings_length : (rings : List (List Coordinates)) → length (rings_bytes rings) ≡ 4 + 4 * length rings + 16 * length (joined rings)
rings_length rings = let list = list_length line_bytes (λ ps. 4 + 16 * length ps) line_length rings in let sum = lines_total rings in omega (arith, list, sum)

whole_point_length : (p : Coordinates) → length (header kinds.Point ++ point_bytes p) ≡ 21
whole_point_length p = let both = headed_length kinds.Point (point_bytes p) in let point = point_length p in omega (arith, both, point)

whole_line_length : (ps : List Coordinates) → length (header kinds.LineString ++ line_bytes ps) ≡ 9 + 16 * length ps
whole_line_length ps = let both = headed_length kinds.LineString (line_bytes ps) in let line = line_length ps in omega (arith, both, line)

whole_polygon_length : (rings : List (List Coordinates)) → length (header kinds.Polygon ++ rings_bytes rings) ≡ 9 + 4 * length rings + 16 * length (joined rings)
whole_polygon_length rings = let both = headed_length kinds.Polygon (rings_bytes rings) in let list = rings_length rings in omega (arith, both, list)

-- ---- whole geometries

pub canonical_lengths : (g : Geometry) → length (canonical g) ≡ canonical_len g
canonical_lengths (Point p) = whole_point_length p
canonical_lengths (LineString ps) = whole_line_length ps
canonical_lengths (Polygon rings) = whole_polygon_length rings
canonical_lengths (MultiPoint ps) =
    let bytes : Coordinates → List ℕ = λ p. header kinds.Point ++ point_bytes p in
    let both = headed_length kinds.MultiPoint (list_bytes bytes ps) in
    let list = list_length bytes (λ p. 21) whole_point_length ps in
    let sum = whole_points_total ps in
    omega (arith, both, list, sum)
canonical_lengths (MultiLineString lines) =
    let bytes : List Coordinates → List ℕ = λ ps. header kinds.LineString ++ line_bytes ps in
    let both = headed_length kinds.MultiLineString (list_bytes bytes lines) in
    let list = list_length bytes (λ ps. 9 + 16 * length ps) whole_line_length lines in
    let sum = whole_lines_total lines in
    omega (arith, both, list, sum)
canonical_lengths (MultiPolygon polygons) =
    let bytes : List (List Coordinates) → List ℕ = λ rings. header kinds.Polygon ++ rings_bytes rings in
    let both = headed_length kinds.MultiPolygon (list_bytes bytes polygons) in
    let list = list_length bytes (λ rings. 9 + 4 * length rings + 16 * length (joined rings)) whole_polygon_length polygons in
    let sum = whole_polygons_total polygons in
    omega (arith, both, list, sum)

-- ---- the bound

-- no more rings than points
rings_no_more : (polygons : List (List (List Coordinates))) → list_any has_empty polygons ≡ false → length (joined polygons) ≤ length (joined (joined polygons))
rings_no_more [] filled = omega arith
rings_no_more (x ∷ xs) filled =
    let both = or_false (has_empty x) (list_any has_empty xs) filled in
    let inner = or_false (is_empty x) (list_any is_empty x) both.0 in
    let here = no_longer x inner.1 in
    let later = rings_no_more xs both.1 in
    let rings = length-append x (joined xs) in
    let points = joined_length x (joined xs) in
    omega (arith, here, later, rings, points)

-- the formula, where the counts are few
pub len_is_few : (g : Geometry) → IsSized g → canonical_len g ≤ canonical_len_max
len_is_few (Point p) sized = omega arith
len_is_few (LineString ps) sized = let same = ap length (append-nil ps) in omega (arith, same, sized.few)
len_is_few (Polygon rings) sized =
    let both = or_false (is_empty rings) (list_any is_empty rings) sized.filled in
    let fewer = no_longer rings both.1 in
    omega (arith, fewer, sized.few)
len_is_few (MultiPoint ps) sized = let same = ap length (append-nil ps) in omega (arith, same, sized.few)
len_is_few (MultiLineString lines) sized =
    let both = or_false (is_empty lines) (list_any is_empty lines) sized.filled in
    let fewer = no_longer lines both.1 in
    omega (arith, fewer, sized.few)
len_is_few (MultiPolygon polygons) sized =
    let both = or_false (is_empty polygons) (list_any has_empty polygons) sized.filled in
    let fewer_polygons = no_more polygons both.1 in
    let fewer_rings = rings_no_more polygons both.1 in
    omega (arith, fewer_polygons, fewer_rings, sized.few)

pub canonical_bytes_are_few : (g : Geometry) → IsSized g → length (canonical g) ≤ canonical_len_max
canonical_bytes_are_few g sized = let exact = canonical_lengths g in let few = len_is_few g sized in omega (arith, exact, few)

-- ---- counted beforehand, from the points and the lists

pub line_counted : (g : Geometry) (ps : List Coordinates) (points : ℕ) → g ≡ LineString ps → points ≡ point_count g → 9 + 16 * points ≡ length (canonical g)
line_counted g ps points is counted =
    let exact = ap (λ h. length (canonical h)) is ∙ canonical_lengths (LineString ps) in
    let all = counted ∙ ap point_count is ∙ ap length (append-nil ps) in
    omega (arith, exact, all)

pub polygon_counted : (g : Geometry) (rings found : List (List Coordinates)) (points : ℕ) → g ≡ Polygon rings → found ≡ rings → points ≡ point_count g
    → 9 + 4 * length found + 16 * points ≡ length (canonical g)
polygon_counted g rings found points is same counted =
    let exact = ap (λ h. length (canonical h)) is ∙ canonical_lengths (Polygon rings) in
    let all = counted ∙ ap point_count is in
    let lists = ap length same in
    omega (arith, exact, all, lists)

pub points_counted : (g : Geometry) (ps : List Coordinates) (points : ℕ) → g ≡ MultiPoint ps → points ≡ point_count g → 9 + 21 * points ≡ length (canonical g)
points_counted g ps points is counted =
    let exact = ap (λ h. length (canonical h)) is ∙ canonical_lengths (MultiPoint ps) in
    let all = counted ∙ ap point_count is ∙ ap length (append-nil ps) in
    omega (arith, exact, all)

pub lines_counted : (g : Geometry) (lines found : List (List Coordinates)) (points : ℕ) → g ≡ MultiLineString lines → found ≡ lines → points ≡ point_count g
    → 9 + 9 * length found + 16 * points ≡ length (canonical g)
lines_counted g lines found points is same counted =
    let exact = ap (λ h. length (canonical h)) is ∙ canonical_lengths (MultiLineString lines) in
    let all = counted ∙ ap point_count is in
    let lists = ap length same in
    omega (arith, exact, all, lists)

pub polygons_counted : (g : Geometry) (polygons found : List (List (List Coordinates))) (points rings : ℕ) → g ≡ MultiPolygon polygons → found ≡ polygons
    → points ≡ point_count g → rings ≡ length (joined found) → 9 + 9 * length found + 4 * rings + 16 * points ≡ length (canonical g)
polygons_counted g polygons found points rings is same counted all_rings =
    let exact = ap (λ h. length (canonical h)) is ∙ canonical_lengths (MultiPolygon polygons) in
    let all = counted ∙ ap point_count is in
    let lists = ap length same in
    let inner = all_rings ∙ ap (λ xs. length (joined xs)) same in
    omega (arith, exact, all, lists, inner)

-- the rings of a sized MultiPolygon are few
pub rings_are_few : (g : Geometry) (polygons found : List (List (List Coordinates))) → IsSized g → g ≡ MultiPolygon polygons → found ≡ polygons → length (joined found) ≤ points_max
rings_are_few g polygons found sized is same =
    let here = subst IsSized is sized in
    let both = or_false (is_empty polygons) (list_any has_empty polygons) here.filled in
    let fewer = rings_no_more polygons both.1 in
    let lists = ap (λ xs. length (joined xs)) same in
    omega (arith, fewer, lists, here.few)
