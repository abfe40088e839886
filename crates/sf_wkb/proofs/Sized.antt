-- What bytes read as is sized and on the grid.
use Rattle.std.proofs.Common.{◌≡◌, ℕ, zero, suc, ◌+◌, ◌-◌, ◌/◌, ◌%◌, ◌^◌, ◌<◌, ◌≤◌, ℤ, pos, Bool, true, false, not, ◌&&◌, ◌==◌, nat_lt, List, [], ◌∷◌, length, take, drop, ◌⊎◌, inl, inr, Result, Ok, Err, IfOk, if◌then◌else◌, refl, sym, ap, ◌∙◌, subst, arith}
use Rattle.std.proofs.lemmas.Bool.Decides.{nat_tests}
use Rattle.std.proofs.lemmas.Int.{ints}
use Rattle.std.proofs.lemmas.List.{append-nil}
use Rattle.std.specs.List.{AllByRecursion}
use Rattle.sf_grid.specs.Bounds.{IsCoordinate}
use Rattle.sf_grid.specs.Plane.{Coordinates, IsOnGrid}
use Rattle.sf_geometry.specs.declared.geometry.Geometry.{Geometry}
use Rattle.sf_geometry.specs.declared.geometry.Geometry.TheVariants.{Point, LineString, Polygon, MultiPoint, MultiLineString, MultiPolygon}
use Rattle.sf_geometry.specs.declared.kind.Kind.{Kind}
use Rattle.sf_geometry.specs.declared.kind.Kind.TheVariants as kinds
use Rattle.sf_geometry.specs.Parts.{joined, points_of}
use Rattle.sf_geometry.specs.Size.{points_max, IsSized}
use Rattle.sf_wkb.specs.declared.fault.WkbFault.{WkbFault}
use Rattle.sf_wkb.specs.declared.fault.WkbFault.TheVariants as faults
use Rattle.sf_wkb.specs.declared.order.Order.{Order}
use Rattle.sf_wkb.specs.declared.grid.Grid.{Grid}
use Rattle.sf_wkb.specs.declared.grid.Grid.TheVariants.{Bits20, Bits24, Bits31}
use Rattle.sf_wkb.specs.Words.{in_grid, signed, is_negative, exponent_of, fraction_of, whole_by, whole_of_fields}
use Rattle.sf_wkb.specs.Grammar.{Left, Reads, ◌>>=◌, with_rest, next, order, number, any_code, code, count, coordinate, point, items, listed, line, rings, member, made, body, ending, read_in}
use Rattle.sf_geometry.proofs.Filled.{GoodList, GoodLine, GoodLines, one, total, total_line, total_lines, total_polygons, filled_line, filled_lines, filled_polygons, lines_on_grid, polygons_on_grid}

pub bind_ok : {A B : Type 0} (r : Result A WkbFault) (f : A → Result B WkbFault) (y : B) → (r >>= f) ≡ Ok y → (x : A) × (r ≡ Ok x) × (f x ≡ Ok y)
bind_ok (Ok x) f y e = (x, refl, e)
bind_ok (Err fault) f y e = absurd cc

pub unless_ok : {A : Type 0} (b : Bool) (fault : WkbFault) (r : Result A WkbFault) (y : A) → (if b then Err fault else r) ≡ Ok y → (b ≡ false) × (r ≡ Ok y)
unless_ok true fault r y e = absurd cc
unless_ok false fault r y e = (refl, e)

rest_ok : {T : Type 0} (rest left : Left) (r : Result T WkbFault) (x : T) → with_rest rest r ≡ Ok (x, left) → (r ≡ Ok x) × (left ≡ rest)
rest_ok {T = T} rest left (Ok y) x e =
    let same : ◌≡◌ {A = T × Left} (y, rest) (x, left) = cc in (ap (λ (p : T × Left). Ok p.0) same, sym (ap (λ (p : T × Left). p.1) same))
rest_ok rest left (Err fault) x e = absurd cc

-- a field that was read met its rule, and no point was counted
next_ok : {T : Type 0} (len : ℕ) (rule : List ℕ → Result T WkbFault) (left rest : Left) (x : T) → next len rule left ≡ Ok (x, rest) → (rule (take len left.bytes) ≡ Ok x) × (rest.points ≡ left.points)
next_ok {T = T} len rule left rest x e =
    let there = unless_ok (nat_lt (length left.bytes) len) faults.Truncated (with_rest (record left { bytes = drop len left.bytes }) (rule (take len left.bytes))) (x, rest) e in
    let found = rest_ok (record left { bytes = drop len left.bytes }) rest (rule (take len left.bytes)) x there.1 in
    (found.0, ap (λ (l : Left). l.points) found.1)

-- ---- coordinates

pub by_range : (is_in : Bool) (m n : ℤ) → (if not is_in then Err faults.OutOfRange else Ok m) ≡ Ok n → (is_in ≡ true) × (m ≡ n)
by_range true m n e = (refl, cc)
by_range false m n e = absurd cc

pub by_zero : (is_zero : Bool) (r : Result ℤ WkbFault) (n : ℤ) → (if is_zero then Ok (pos 0) else r) ≡ Ok n → (pos 0 ≡ n) ⊎ (r ≡ Ok n)
by_zero true r n e = inl cc
by_zero false r n e = inr e

-- a coordinate of either grid is a coordinate
pub on_either : (grid : Grid) (n : ℤ) → in_grid grid n ≡ true → IsCoordinate n
on_either Bits20 n test = grind (arith, ints)
on_either Bits24 n test = grind (arith, ints)
on_either Bits31 n test = grind (arith, ints)

in_range : (grid : Grid) (m n : ℤ) → in_grid grid m ≡ true → m ≡ n → IsCoordinate n
in_range grid m n test same = subst IsCoordinate same (on_either grid m test)

by_exponent : (grid : Grid) (negative : Bool) (exponent fraction : ℕ) (n : ℤ) → whole_by (in_grid grid) negative exponent fraction ≡ Ok n → IsCoordinate n
by_exponent grid negative exponent fraction n e =
    let unit : ℕ = 2 ^ (1075 - exponent) in
    let m : ℤ = signed negative ((2 ^ 52 + fraction) / unit) in
    let there = unless_ok (not (fraction % unit == 0)) faults.OffGrid (if not (in_grid grid m) then Err faults.OutOfRange else Ok m) n e in
    let found = by_range (in_grid grid m) m n there.1 in
    in_range grid m n found.0 found.1

zero_or : (n : ℤ) (r : Result ℤ WkbFault) → ((pos 0 ≡ n) ⊎ (r ≡ Ok n)) → (r ≡ Ok n → IsCoordinate n) → IsCoordinate n
zero_or n r (inl zero_is) other = in_range Bits31 (pos 0) n refl zero_is
zero_or n r (inr found) other = other found

pub fields_ok : (grid : Grid) (negative : Bool) (exponent fraction : ℕ) (n : ℤ) → whole_of_fields (in_grid grid) negative exponent fraction ≡ Ok n → IsCoordinate n
fields_ok grid negative exponent fraction n e =
    let whole : Result ℤ WkbFault = whole_by (in_grid grid) negative exponent fraction in
    let not_great : Result ℤ WkbFault = if nat_lt 1074 exponent then Err faults.OutOfRange else whole in
    let not_special : Result ℤ WkbFault = if exponent == 2047 then Err faults.OffGrid else not_great in
    let not_small : Result ℤ WkbFault = if nat_lt exponent 1023 then Err faults.OffGrid else not_special in
    zero_or n not_small (by_zero (exponent == 0 && fraction == 0) not_small n e) (λ found.
    let a = unless_ok (nat_lt exponent 1023) faults.OffGrid not_special n found in
    let b = unless_ok (exponent == 2047) faults.OffGrid not_great n a.1 in
    let c = unless_ok (nat_lt 1074 exponent) faults.OutOfRange whole n b.1 in
    by_exponent grid negative exponent fraction n c.1)

pub coordinate_ok : (grid : Grid) (o : Order) (bytes : List ℕ) (n : ℤ) → coordinate grid o bytes ≡ Ok n → IsCoordinate n
coordinate_ok grid o bytes n e = let word : ℕ = number o 8 bytes in fields_ok grid (is_negative word) (exponent_of word) (fraction_of word) n e

-- ---- points and lists

-- what is read is good, and its points are counted
abbrev pub Counts : {T : Type 0} → (Left → Reads T) → (T → ℕ) → (T → Type 0) → Type 0
Counts {T = T} item size good = (left rest : Left) (x : T) → item left ≡ Ok (x, rest) → good x × (rest.points ≡ left.points + size x)

-- no more points are read than there may be
abbrev pub Keeps : {T : Type 0} → (Left → Reads T) → Type 0
Keeps {T = T} item = (left rest : Left) (x : T) → left.points ≤ points_max → item left ≡ Ok (x, rest) → rest.points ≤ points_max

abbrev with_y : ℤ → ℤ × Left → Reads Coordinates
with_y x y = Ok (record { x = x; y = y.0 }, record y.1 { points = y.1.points + 1 })

abbrev with_x : Grid → Order → ℤ × Left → Reads Coordinates
with_x grid o x = next 8 (coordinate grid o) x.1 >>= with_y x.0

pub point_counts : (o : Order) → Counts (point o) one IsOnGrid
point_counts o left rest p e =
    let a = bind_ok (next 8 (coordinate left.grid o) left) (with_x left.grid o) (p, rest) e in
    let b = bind_ok (next 8 (coordinate left.grid o) a.0.1) (with_y a.0.0) (p, rest) a.2 in
    let x = next_ok 8 (coordinate left.grid o) left a.0.1 a.0.0 a.1 in
    let y = next_ok 8 (coordinate left.grid o) a.0.1 b.0.1 b.0.0 b.1 in
    let end : Left = record b.0.1 { points = b.0.1.points + 1 } in
    let q : Coordinates = record { x = a.0.0; y = b.0.0 } in
    let found : ◌≡◌ {A = Result (Coordinates × Left) WkbFault} (Ok (q, end)) (Ok (p, rest)) = b.2 in
    let same : ◌≡◌ {A = Coordinates × Left} (q, end) (p, rest) = cc in
    let on : IsOnGrid q = (coordinate_ok left.grid o (take 8 left.bytes) a.0.0 x.0, coordinate_ok left.grid o (take 8 a.0.1.bytes) b.0.0 y.0) in
    let ended : end.points ≡ rest.points = ap (λ (r : Coordinates × Left). r.1.points) same in
    (subst IsOnGrid (ap (λ (r : Coordinates × Left). r.0) same) on, omega (arith, ended, x.1, y.1))

-- what a list of so many items is
abbrev IsListOf : {T : Type 0} → (T → ℕ) → (T → Type 0) → ℕ → Left → List T × Left → Type 0
IsListOf size good n left found = AllByRecursion good found.0 × (found.1.points ≡ left.points + total size found.0) × (length found.0 ≡ n)

abbrev with_first : {T : Type 0} → T → List T × Left → Reads (List T)
with_first x more = Ok (x ∷ more.0, more.1)

abbrev with_items : {T : Type 0} → (Left → Reads T) → ℕ → T × Left → Reads (List T)
with_items item n first = items item n first.1 >>= with_first first.0

items_count : {T : Type 0} (item : Left → Reads T) (size : T → ℕ) (good : T → Type 0) → Counts item size good → (n : ℕ) (left rest : Left) (xs : List T) → items item n left ≡ Ok (xs, rest) → IsListOf size good n left (xs, rest)
items_count {T = T} item size good counts zero left rest xs e =
    let found : ◌≡◌ {A = Result (List T × Left) WkbFault} (Ok ([], left)) (Ok (xs, rest)) = e in
    let same : ◌≡◌ {A = List T × Left} ([], left) (xs, rest) = cc in
    subst (IsListOf size good 0 left) same (tt, omega arith, refl)
items_count {T = T} item size good counts (suc n) left rest xs e =
    let a = bind_ok (item left) (with_items item n) (xs, rest) e in
    let b = bind_ok (items item n a.0.1) (with_first a.0.0) (xs, rest) a.2 in
    let here = counts left a.0.1 a.0.0 a.1 in
    let later = items_count item size good counts n a.0.1 b.0.1 b.0.0 b.1 in
    let found : ◌≡◌ {A = Result (List T × Left) WkbFault} (Ok (a.0.0 ∷ b.0.0, b.0.1)) (Ok (xs, rest)) = b.2 in
    let same : ◌≡◌ {A = List T × Left} (a.0.0 ∷ b.0.0, b.0.1) (xs, rest) = cc in
    subst (IsListOf size good (suc n) left) same ((here.0, later.0), omega (arith, here.1, later.1), omega (arith, later.2))

items_keep : {T : Type 0} (item : Left → Reads T) → Keeps item → (n : ℕ) (left rest : Left) (xs : List T) → left.points ≤ points_max → items item n left ≡ Ok (xs, rest) → rest.points ≤ points_max
items_keep {T = T} item keeps zero left rest xs few e =
    let found : ◌≡◌ {A = Result (List T × Left) WkbFault} (Ok ([], left)) (Ok (xs, rest)) = e in
    let same : ◌≡◌ {A = List T × Left} ([], left) (xs, rest) = cc in
    let ended : left.points ≡ rest.points = ap (λ (r : List T × Left). r.1.points) same in
    omega (arith, ended, few)
items_keep {T = T} item keeps (suc n) left rest xs few e =
    let a = bind_ok (item left) (with_items item n) (xs, rest) e in
    let b = bind_ok (items item n a.0.1) (with_first a.0.0) (xs, rest) a.2 in
    let here = keeps left a.0.1 a.0.0 few a.1 in
    let later = items_keep item keeps n a.0.1 b.0.1 b.0.0 here b.1 in
    let found : ◌≡◌ {A = Result (List T × Left) WkbFault} (Ok (a.0.0 ∷ b.0.0, b.0.1)) (Ok (xs, rest)) = b.2 in
    let same : ◌≡◌ {A = List T × Left} (a.0.0 ∷ b.0.0, b.0.1) (xs, rest) = cc in
    let ended : b.0.1.points ≡ rest.points = ap (λ (r : List T × Left). r.1.points) same in
    omega (arith, ended, later)

by_count : (points m n : ℕ) → (if m == 0 then Err faults.Empty else if nat_lt (points_max - points) m then Err faults.TooManyVertices else Ok m) ≡ Ok n → (0 < n) × (n ≤ points_max - points)
by_count points m n e =
    let a = unless_ok (m == 0) faults.Empty (if nat_lt (points_max - points) m then Err faults.TooManyVertices else Ok m) n e in
    let b = unless_ok (nat_lt (points_max - points) m) faults.TooManyVertices (Ok m) n a.1 in
    let found : ◌≡◌ {A = Result ℕ WkbFault} (Ok m) (Ok n) = b.1 in
    let same : m ≡ n = cc in
    (grind (arith, nat_tests, same, a.0), grind (arith, nat_tests, same, b.0))

abbrev with_count : {T : Type 0} → (Left → Reads T) → ℕ × Left → Reads (List T)
with_count item counted = items item counted.0 counted.1

listed_counts : {T : Type 0} (o : Order) (item : Left → Reads T) (size : T → ℕ) (good : T → Type 0) → Counts item size good → Counts (listed o item) (total size) (GoodList good)
listed_counts o item size good counts left rest xs e =
    let a = bind_ok (next 4 (count left.points o) left) (with_count item) (xs, rest) e in
    let counted = next_ok 4 (count left.points o) left a.0.1 a.0.0 a.1 in
    let some = by_count left.points (number o 4 (take 4 left.bytes)) a.0.0 counted.0 in
    let found = items_count item size good counts a.0.0 a.0.1 rest xs a.2 in
    ((omega (arith, some.0, found.2), found.0), omega (arith, counted.1, found.1))

listed_keeps : {T : Type 0} (o : Order) (item : Left → Reads T) → Keeps item → Keeps (listed o item)
listed_keeps o item keeps left rest xs few e =
    let a = bind_ok (next 4 (count left.points o) left) (with_count item) (xs, rest) e in
    let counted = next_ok 4 (count left.points o) left a.0.1 a.0.0 a.1 in
    items_keep item keeps a.0.0 a.0.1 rest xs (omega (arith, counted.1, few)) a.2

points_keep : (o : Order) (item : Left → Reads Coordinates) → Counts item one IsOnGrid → Keeps (listed o item)
points_keep o item counts left rest xs few e =
    let a = bind_ok (next 4 (count left.points o) left) (with_count item) (xs, rest) e in
    let counted = next_ok 4 (count left.points o) left a.0.1 a.0.0 a.1 in
    let room = by_count left.points (number o 4 (take 4 left.bytes)) a.0.0 counted.0 in
    let found = items_count item one IsOnGrid counts a.0.0 a.0.1 rest xs a.2 in
    let lengths = total_line xs in
    omega (arith, counted.1, room.1, found.1, found.2, lengths, few)

abbrev pub with_code : {T : Type 0} → (Order → Left → Reads T) → Order → Unit {0} × Left → Reads T
with_code of_order o coded = of_order o coded.1

abbrev pub with_order : {T : Type 0} → Kind → (Order → Left → Reads T) → Order × Left → Reads T
with_order kind of_order ordered = next 4 (code kind ordered.0) ordered.1 >>= with_code of_order ordered.0

-- the body of a member that was read
member_ok : {T : Type 0} (kind : Kind) (of_order : Order → Left → Reads T) (left rest : Left) (x : T) → member kind of_order left ≡ Ok (x, rest) → (o : Order) × (mid : Left) × (of_order o mid ≡ Ok (x, rest)) × (mid.points ≡ left.points)
member_ok kind of_order left rest x e =
    let a = bind_ok (next 1 order left) (with_order kind of_order) (x, rest) e in
    let b = bind_ok (next 4 (code kind a.0.0) a.0.1) (with_code of_order a.0.0) (x, rest) a.2 in
    let first = next_ok 1 order left a.0.1 a.0.0 a.1 in
    let second = next_ok 4 (code kind a.0.0) a.0.1 b.0.1 b.0.0 b.1 in
    (a.0.0, b.0.1, b.2, second.1 ∙ first.1)

pub member_counts : {T : Type 0} (kind : Kind) (of_order : Order → Left → Reads T) (size : T → ℕ) (good : T → Type 0) → ((o : Order) → Counts (of_order o) size good) → Counts (member kind of_order) size good
member_counts kind of_order size good counts left rest x e =
    let m = member_ok kind of_order left rest x e in
    let found = counts m.0 m.1 rest x m.2 in
    (found.0, omega (arith, found.1, m.3))

member_keeps : {T : Type 0} (kind : Kind) (of_order : Order → Left → Reads T) → ((o : Order) → Keeps (of_order o)) → Keeps (member kind of_order)
member_keeps kind of_order keeps left rest x few e =
    let m = member_ok kind of_order left rest x e in
    keeps m.0 m.1 rest x (omega (arith, m.3, few)) m.2

line_counts : (o : Order) → Counts (line o) (total one) GoodLine
line_counts o = listed_counts o (point o) one IsOnGrid (point_counts o)

line_keeps : (o : Order) → Keeps (line o)
line_keeps o = points_keep o (point o) (point_counts o)

rings_counts : (o : Order) → Counts (rings o) (total (total one)) GoodLines
rings_counts o = listed_counts o (line o) (total one) GoodLine (line_counts o)

rings_keeps : (o : Order) → Keeps (rings o)
rings_keeps o = listed_keeps o (line o) (line_keeps o)

-- ---- whole geometries

pub made_ok : {A : Type 0} (f : A → Geometry) (r : Reads A) (g : Geometry) (rest : Left) → made f r ≡ Ok (g, rest) → (x : A) × (r ≡ Ok (x, rest)) × (f x ≡ g)
made_ok {A = A} f (Ok found) g rest e =
    let equal : ◌≡◌ {A = Result (Geometry × Left) WkbFault} (Ok (f found.0, found.1)) (Ok (g, rest)) = e in
    let same : ◌≡◌ {A = Geometry × Left} (f found.0, found.1) (g, rest) = cc in
    (found.0, ap (λ (r : Geometry × Left). Ok (found.0, r.1)) same, ap (λ (r : Geometry × Left). r.0) same)
made_ok f (Err fault) g rest e = absurd cc

-- a geometry is sized and on the grid
abbrev pub IsGood : Geometry → Type 0
IsGood g = IsSized g × AllByRecursion IsOnGrid (points_of g)

good_points : (ps : List Coordinates) → GoodLine ps → total one ps ≤ points_max → IsGood (LineString ps) × IsGood (MultiPoint ps)
good_points ps good few =
    let same = append-nil ps in
    let lengths = ap length same in
    let count = total_line ps in
    let on : AllByRecursion IsOnGrid (joined (ps ∷ [])) = subst (AllByRecursion IsOnGrid) (sym same) good.1 in
    let little : length (joined (ps ∷ [])) ≤ points_max = omega (arith, lengths, count, few) in
    ((record { filled = filled_line IsOnGrid ps good; few = little }, on), (record { filled = filled_line IsOnGrid ps good; few = little }, on))

good_lists : (lines : List (List Coordinates)) → GoodLines lines → total (total one) lines ≤ points_max → IsGood (Polygon lines) × IsGood (MultiLineString lines)
good_lists lines good few =
    let count = total_lines lines in
    let little : length (joined lines) ≤ points_max = omega (arith, count, few) in
    ((record { filled = filled_lines lines good; few = little }, lines_on_grid lines good), (record { filled = filled_lines lines good; few = little }, lines_on_grid lines good))

body_ok : (kind : Kind) (o : Order) (left rest : Left) (g : Geometry) → left.points ≡ 0 → body kind o left ≡ Ok (g, rest) → IsGood g
body_ok kinds.Point o left rest g none e =
    let m = made_ok Point (point o left) g rest e in
    let found = point_counts o left rest m.0 m.1 in
    subst IsGood m.2 (record { filled = refl; few = omega arith }, (found.0, tt))
body_ok kinds.LineString o left rest g none e =
    let m = made_ok LineString (line o left) g rest e in
    let found = line_counts o left rest m.0 m.1 in
    let few = line_keeps o left rest m.0 (omega (arith, none)) m.1 in
    subst IsGood m.2 (good_points m.0 found.0 (omega (arith, found.1, few))).0
body_ok kinds.Polygon o left rest g none e =
    let m = made_ok Polygon (rings o left) g rest e in
    let found = rings_counts o left rest m.0 m.1 in
    let few = rings_keeps o left rest m.0 (omega (arith, none)) m.1 in
    subst IsGood m.2 (good_lists m.0 found.0 (omega (arith, found.1, few))).0
body_ok kinds.MultiPoint o left rest g none e =
    let item : Left → Reads Coordinates = member kinds.Point point in
    let counts : Counts item one IsOnGrid = member_counts kinds.Point point one IsOnGrid point_counts in
    let m = made_ok MultiPoint (listed o item left) g rest e in
    let found = listed_counts o item one IsOnGrid counts left rest m.0 m.1 in
    let few = points_keep o item counts left rest m.0 (omega (arith, none)) m.1 in
    subst IsGood m.2 (good_points m.0 found.0 (omega (arith, found.1, few))).1
body_ok kinds.MultiLineString o left rest g none e =
    let item : Left → Reads (List Coordinates) = member kinds.LineString line in
    let counts : Counts item (total one) GoodLine = member_counts kinds.LineString line (total one) GoodLine line_counts in
    let m = made_ok MultiLineString (listed o item left) g rest e in
    let found = listed_counts o item (total one) GoodLine counts left rest m.0 m.1 in
    let few = listed_keeps o item (member_keeps kinds.LineString line line_keeps) left rest m.0 (omega (arith, none)) m.1 in
    subst IsGood m.2 (good_lists m.0 found.0 (omega (arith, found.1, few))).1
body_ok kinds.MultiPolygon o left rest g none e =
    let item : Left → Reads (List (List Coordinates)) = member kinds.Polygon rings in
    let counts : Counts item (total (total one)) GoodLines = member_counts kinds.Polygon rings (total (total one)) GoodLines rings_counts in
    let m = made_ok MultiPolygon (listed o item left) g rest e in
    let found = listed_counts o item (total (total one)) GoodLines counts left rest m.0 m.1 in
    let few = listed_keeps o item (member_keeps kinds.Polygon rings rings_keeps) left rest m.0 (omega (arith, none)) m.1 in
    let count = total_polygons m.0 in
    subst IsGood m.2 (record { filled = filled_polygons m.0 found.0; few = omega (arith, found.1, few, count, none) }, polygons_on_grid m.0 found.0)

abbrev with_geometry : Geometry × Left → Result Geometry WkbFault
with_geometry geometry = ending geometry.1.bytes >>= (λ ended. Ok geometry.0)

abbrev with_kind : Order → Kind × Left → Result Geometry WkbFault
with_kind o coded = body coded.0 o coded.1 >>= with_geometry

abbrev with_start : Order × Left → Result Geometry WkbFault
with_start ordered = next 4 (any_code ordered.0) ordered.1 >>= with_kind ordered.0

pub read_ok : (grid : Grid) (bytes : List ℕ) (g : Geometry) → read_in grid bytes ≡ Ok g → IsGood g
read_ok grid bytes g e =
    let start : Left = record { bytes = bytes; points = 0; grid = grid } in
    let a = bind_ok (next 1 order start) with_start g e in
    let b = bind_ok (next 4 (any_code a.0.0) a.0.1) (with_kind a.0.0) g a.2 in
    let c = bind_ok (body b.0.0 a.0.0 b.0.1) with_geometry g b.2 in
    let d = bind_ok (ending c.0.1.bytes) (λ ended. Ok c.0.0) g c.2 in
    let found : ◌≡◌ {A = Result Geometry WkbFault} (Ok c.0.0) (Ok g) = d.2 in
    let same : c.0.0 ≡ g = cc in
    let first = next_ok 1 order start a.0.1 a.0.0 a.1 in
    let second = next_ok 4 (any_code a.0.0) a.0.1 b.0.1 b.0.0 b.1 in
    subst IsGood same (body_ok b.0.0 a.0.0 b.0.1 c.0.1 c.0.0 (second.1 ∙ first.1) c.1)

if_ok : (r : Result Geometry WkbFault) → ((g : Geometry) → r ≡ Ok g → IsGood g) → IfOk r IsGood
if_ok (Ok g) good = good g refl
if_ok (Err fault) good = tt

pub read_is_sized : (grid : Grid) (bytes : List ℕ) → IfOk (read_in grid bytes) (λ g. IsSized g × AllByRecursion IsOnGrid (points_of g))
read_is_sized grid bytes = if_ok (read_in grid bytes) (read_ok grid bytes)
