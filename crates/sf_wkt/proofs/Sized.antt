-- What a text reads as is sized and on the grid.
use Rattle.std.proofs.Common.{◌≡◌, ℕ, zero, suc, ◌+◌, ◌<◌, ◌≤◌, ℤ, Bool, true, false, nat_lt, List, [], ◌∷◌, length, Result, Ok, Err, IfOk, if◌then◌else◌, refl, sym, ap, ◌∙◌, subst, arith}
use Rattle.std.proofs.lemmas.Bool.Decides.{nat_tests}
use Rattle.std.proofs.lemmas.List.{append-nil}
use Rattle.std.specs.List.{AllByRecursion}
use Rattle.sf_grid.specs.Plane.{Coordinates, IsOnGrid}
use Rattle.sf_geometry.specs.declared.geometry.Geometry.{Geometry}
use Rattle.sf_geometry.specs.declared.geometry.Geometry.TheVariants.{Point, LineString, Polygon, MultiPoint, MultiLineString, MultiPolygon}
use Rattle.sf_geometry.specs.declared.kind.Kind.{Kind}
use Rattle.sf_geometry.specs.declared.kind.Kind.TheVariants as kinds
use Rattle.sf_geometry.specs.Parts.{joined, points_of}
use Rattle.sf_geometry.specs.Size.{points_max, IsSized}
use Rattle.sf_wkt.specs.declared.fault.WktFault.{WktFault}
use Rattle.sf_wkt.specs.declared.fault.WktFault.TheVariants as faults
use Rattle.sf_wkt.specs.declared.token.Token.{Token}
use Rattle.sf_wkt.specs.Tokens.{Left, next_token}
use Rattle.sf_wkt.specs.Grammar.{Reads, ◌>>=◌, next, keyword, opening, first_opening, first_coordinate, second_coordinate, closing, separator, ending, counted, point, bracketed, onto, items, listed, is_open, point_item, made, body, front, read, OrMemory}
use Rattle.sf_geometry.proofs.Filled.{GoodList, GoodLine, GoodLines, one, total, total_line, total_lines, total_polygons, filled_line, filled_lines, filled_polygons, lines_on_grid, polygons_on_grid}
use Rattle.sf_wkt.proofs.Loops.{behind_comma, behind_item, next_ok}
use Rattle.sf_wkt.proofs.OnGrid.{first_is_on_grid, second_is_on_grid}

pub bind_ok : {A B : Type 0} (r : Result A WktFault) (f : A → Result B WktFault) (y : B) → (r >>= f) ≡ Ok y → (x : A) × (r ≡ Ok x) × (f x ≡ Ok y)
bind_ok (Ok x) f y e = (x, refl, e)
bind_ok (Err fault) f y e = absurd cc

-- a token counts no point
next_counts : {T : Type 0} (rule : ℕ → Bool → Token → Result T WktFault) (left rest : Left) (x : T) → next rule left ≡ Ok (x, rest) → rest.points ≡ left.points
next_counts rule left rest x e = let found = next_ok rule left rest x e in ap (λ (l : Left). l.points) found.1

-- what is read is good, and its points are counted, of which there are not too many
abbrev pub Counts : {T : Type 0} → (Left → Reads T) → (T → ℕ) → (T → Type 0) → Type 0
Counts {T = T} item size good = (left rest : Left) (x : T) → item left ≡ Ok (x, rest) → good x × (rest.points ≡ left.points + size x) × (rest.points ≤ points_max)

by_room : (room : Bool) (p q : Coordinates) (left rest : Left) → nat_lt left.points points_max ≡ room → if◌then◌else◌ {A = Reads Coordinates} room (Ok (p, record left { points = left.points + 1 })) (Err faults.TooManyVertices) ≡ Ok (q, rest)
    → (p ≡ q) × (rest.points ≡ left.points + 1) × (rest.points ≤ points_max)
by_room true p q left rest test e =
    let same : ◌≡◌ {A = Coordinates × Left} (p, record left { points = left.points + 1 }) (q, rest) = cc in
    let ended : left.points + 1 ≡ rest.points = ap (λ (r : Coordinates × Left). r.1.points) same in
    let room : left.points < points_max = grind (arith, nat_tests) in
    (ap (λ (r : Coordinates × Left). r.0) same, sym ended, omega (arith, room, ended))
by_room false p q left rest test e = absurd cc

abbrev pub with_y : ℤ → ℤ × Left → Reads Coordinates
with_y x y = counted (record { x = x; y = y.0 }) y.1

abbrev pub with_x : ℤ × Left → Reads Coordinates
with_x x = next second_coordinate x.1 >>= with_y x.0

pub point_counts : Counts point one IsOnGrid
point_counts left rest p e =
    let a = bind_ok (next first_coordinate left) with_x (p, rest) e in
    let b = bind_ok (next second_coordinate a.0.1) (with_y a.0.0) (p, rest) a.2 in
    let x = next_ok first_coordinate left a.0.1 a.0.0 a.1 in
    let y = next_ok second_coordinate a.0.1 b.0.1 b.0.0 b.1 in
    let q : Coordinates = record { x = a.0.0; y = b.0.0 } in
    let found = by_room (nat_lt b.0.1.points points_max) q p b.0.1 rest refl b.2 in
    let on : IsOnGrid q = (first_is_on_grid left (next_token left).1 (next_token left).0 a.0.0 refl x.0, second_is_on_grid a.0.1 (next_token a.0.1).1 (next_token a.0.1).0 b.0.0 refl y.0) in
    let first = next_counts first_coordinate left a.0.1 a.0.0 a.1 in
    let second = next_counts second_coordinate a.0.1 b.0.1 b.0.0 b.1 in
    (subst IsOnGrid found.0 on, omega (arith, found.1, first, second), found.2)

pub onto_ok : {T : Type 0} (x : T) (r : Reads (List T)) (xs : List T) (rest : Left) → onto x r ≡ Ok (xs, rest) → (ys : List T) × (r ≡ Ok (ys, rest)) × (x ∷ ys ≡ xs)
onto_ok {T = T} x (Ok more) xs rest e =
    let found : ◌≡◌ {A = Result (List T × Left) WktFault} (Ok (x ∷ more.0, more.1)) (Ok (xs, rest)) = e in
    let same : ◌≡◌ {A = List T × Left} (x ∷ more.0, more.1) (xs, rest) = cc in
    (more.0, ap (λ (r : List T × Left). Ok (more.0, r.1)) same, ap (λ (r : List T × Left). r.0) same)
onto_ok x (Err fault) xs rest e = absurd cc

-- what a list of items is
abbrev IsListOf : {T : Type 0} → (T → ℕ) → (T → Type 0) → Left → List T × Left → Type 0
IsListOf size good left found = GoodList good found.0 × (found.1.points ≡ left.points + total size found.0) × (found.1.points ≤ points_max)

by_comma : {T : Type 0} (item : Left → Reads T) (size : T → ℕ) (good : T → Type 0) (n : ℕ) (left mid rest : Left) (x : T) (xs : List T) (comma : Bool)
    → good x → mid.points ≡ left.points + size x → mid.points ≤ points_max → ((ys : List T) → items item n mid ≡ Ok (ys, rest) → IsListOf size good mid (ys, rest))
    → behind_comma item n x (comma, mid) ≡ Ok (xs, rest) → IsListOf size good left (xs, rest)
by_comma item size good n left mid rest x xs true good_x counted few more e =
    let put = onto_ok x (items item n mid) xs rest e in
    let later = more put.0 put.1 in
    subst (λ zs. IsListOf size good left (zs, rest)) put.2 ((omega arith, (good_x, later.0.1)), omega (arith, later.1, counted), later.2)
by_comma {T = T} item size good n left mid rest x xs false good_x counted few more e =
    let found : ◌≡◌ {A = Result (List T × Left) WktFault} (Ok (x ∷ [], mid)) (Ok (xs, rest)) = e in
    let same : ◌≡◌ {A = List T × Left} (x ∷ [], mid) (xs, rest) = cc in
    subst (IsListOf size good left) same ((omega arith, (good_x, tt)), omega (arith, counted), few)

items_count : {T : Type 0} (item : Left → Reads T) (size : T → ℕ) (good : T → Type 0) → Counts item size good → (n : ℕ) (left rest : Left) (xs : List T) → items item n left ≡ Ok (xs, rest) → IsListOf size good left (xs, rest)
items_count item size good counts zero left rest xs e = absurd cc
items_count item size good counts (suc n) left rest xs e =
    let a = bind_ok (item left) (behind_item item n) (xs, rest) e in
    let b = bind_ok (next separator a.0.1) (behind_comma item n a.0.0) (xs, rest) a.2 in
    let here = counts left a.0.1 a.0.0 a.1 in
    let passed = next_counts separator a.0.1 b.0.1 b.0.0 b.1 in
    by_comma item size good n left b.0.1 rest a.0.0 xs b.0.0 here.0 (passed ∙ here.1) (omega (arith, here.2, passed)) (λ ys found. items_count item size good counts n b.0.1 rest ys found) b.2

abbrev pub with_bracket : {T : Type 0} → (Left → Reads T) → Unit {0} × Left → Reads (List T)
with_bracket item opened = items item (suc (length opened.1.bytes)) opened.1

listed_counts : {T : Type 0} (open_rule : ℕ → Bool → Token → Result (Unit {0}) WktFault) (item : Left → Reads T) (size : T → ℕ) (good : T → Type 0) → Counts item size good → Counts (listed open_rule item) (total size) (GoodList good)
listed_counts open_rule item size good counts left rest xs e =
    let a = bind_ok (next open_rule left) (with_bracket item) (xs, rest) e in
    let passed = next_counts open_rule left a.0.1 a.0.0 a.1 in
    let found = items_count item size good counts (suc (length a.0.1.bytes)) a.0.1 rest xs a.2 in
    (found.0, omega (arith, found.1, passed), found.2)

abbrev pub with_closing : {T : Type 0} → T → Unit {0} × Left → Reads T
with_closing x closed = Ok (x, closed.1)

abbrev pub with_inside : {T : Type 0} → T × Left → Reads T
with_inside inside = next closing inside.1 >>= with_closing inside.0

abbrev pub with_opening : {T : Type 0} → (Left → Reads T) → Unit {0} × Left → Reads T
with_opening item opened = item opened.1 >>= with_inside

bracketed_counts : {T : Type 0} (open_rule : ℕ → Bool → Token → Result (Unit {0}) WktFault) (item : Left → Reads T) (size : T → ℕ) (good : T → Type 0) → Counts item size good → Counts (bracketed open_rule item) size good
bracketed_counts {T = T} open_rule item size good counts left rest x e =
    let a = bind_ok (next open_rule left) (with_opening item) (x, rest) e in
    let b = bind_ok (item a.0.1) with_inside (x, rest) a.2 in
    let c = bind_ok (next closing b.0.1) (with_closing b.0.0) (x, rest) b.2 in
    let first = next_counts open_rule left a.0.1 a.0.0 a.1 in
    let here = counts a.0.1 b.0.1 b.0.0 b.1 in
    let last = next_counts closing b.0.1 c.0.1 c.0.0 c.1 in
    let found : ◌≡◌ {A = Result (T × Left) WktFault} (Ok (b.0.0, c.0.1)) (Ok (x, rest)) = c.2 in
    let same : ◌≡◌ {A = T × Left} (b.0.0, c.0.1) (x, rest) = cc in
    subst (λ (r : T × Left). good r.0 × (r.1.points ≡ left.points + size r.0) × (r.1.points ≤ points_max)) same (here.0, omega (arith, first, here.1, last), omega (arith, here.2, last))

by_bracket : (is_bracket : Bool) (left rest : Left) (p : Coordinates) → (if is_bracket then bracketed opening point left else point left) ≡ Ok (p, rest) → IsOnGrid p × (rest.points ≡ left.points + one p) × (rest.points ≤ points_max)
by_bracket true left rest p e = bracketed_counts opening point one IsOnGrid point_counts left rest p e
by_bracket false left rest p e = point_counts left rest p e

pub item_counts : Counts point_item one IsOnGrid
item_counts left rest p e = by_bracket (is_open (next_token left).0.token) left rest p e

line_counts : (open_rule : ℕ → Bool → Token → Result (Unit {0}) WktFault) → Counts (listed open_rule point) (total one) GoodLine
line_counts open_rule = listed_counts open_rule point one IsOnGrid point_counts

lines_counts : (open_rule : ℕ → Bool → Token → Result (Unit {0}) WktFault) → Counts (listed open_rule (listed opening point)) (total (total one)) GoodLines
lines_counts open_rule = listed_counts open_rule (listed opening point) (total one) GoodLine (line_counts opening)

-- ---- whole geometries

made_ok : {A : Type 0} (f : A → Geometry) (r : Reads A) (g : Geometry) (rest : Left) → made f r ≡ Ok (g, rest) → (x : A) × (r ≡ Ok (x, rest)) × (f x ≡ g)
made_ok {A = A} f (Ok found) g rest e =
    let equal : ◌≡◌ {A = Result (Geometry × Left) WktFault} (Ok (f found.0, found.1)) (Ok (g, rest)) = e in
    let same : ◌≡◌ {A = Geometry × Left} (f found.0, found.1) (g, rest) = cc in
    (found.0, ap (λ (r : Geometry × Left). Ok (found.0, r.1)) same, ap (λ (r : Geometry × Left). r.0) same)
made_ok f (Err fault) g rest e = absurd cc

-- a geometry is sized and on the grid
abbrev pub IsGood : Geometry → Type 0
IsGood g = IsSized g × AllByRecursion IsOnGrid (points_of g)

good_points : (ps : List Coordinates) → GoodLine ps → total one ps ≤ points_max → IsGood (LineString ps) × IsGood (MultiPoint ps)
good_points ps good few =
    let same = append-nil ps in
    let lengths = ap length same in
    let count = total_line ps in
    let on : AllByRecursion IsOnGrid (joined (ps ∷ [])) = subst (AllByRecursion IsOnGrid) (sym same) good.1 in
    let little : length (joined (ps ∷ [])) ≤ points_max = omega (arith, lengths, count, few) in
    ((record { filled = filled_line IsOnGrid ps good; few = little }, on), (record { filled = filled_line IsOnGrid ps good; few = little }, on))

good_lists : (lines : List (List Coordinates)) → GoodLines lines → total (total one) lines ≤ points_max → IsGood (Polygon lines) × IsGood (MultiLineString lines)
good_lists lines good few =
    let count = total_lines lines in
    let little : length (joined lines) ≤ points_max = omega (arith, count, few) in
    ((record { filled = filled_lines lines good; few = little }, lines_on_grid lines good), (record { filled = filled_lines lines good; few = little }, lines_on_grid lines good))

body_ok : (kind : Kind) (left rest : Left) (g : Geometry) → left.points ≡ 0 → body kind left ≡ Ok (g, rest) → IsGood g
body_ok kinds.Point left rest g none e =
    let m = made_ok Point (bracketed first_opening point left) g rest e in
    let found = bracketed_counts first_opening point one IsOnGrid point_counts left rest m.0 m.1 in
    subst IsGood m.2 (record { filled = refl; few = omega arith }, (found.0, tt))
body_ok kinds.LineString left rest g none e =
    let m = made_ok LineString (listed first_opening point left) g rest e in
    let found = line_counts first_opening left rest m.0 m.1 in
    subst IsGood m.2 (good_points m.0 found.0 (omega (arith, found.1, found.2, none))).0
body_ok kinds.Polygon left rest g none e =
    let m = made_ok Polygon (listed first_opening (listed opening point) left) g rest e in
    let found = lines_counts first_opening left rest m.0 m.1 in
    subst IsGood m.2 (good_lists m.0 found.0 (omega (arith, found.1, found.2, none))).0
body_ok kinds.MultiPoint left rest g none e =
    let m = made_ok MultiPoint (listed first_opening point_item left) g rest e in
    let found = listed_counts first_opening point_item one IsOnGrid item_counts left rest m.0 m.1 in
    subst IsGood m.2 (good_points m.0 found.0 (omega (arith, found.1, found.2, none))).1
body_ok kinds.MultiLineString left rest g none e =
    let m = made_ok MultiLineString (listed first_opening (listed opening point) left) g rest e in
    let found = lines_counts first_opening left rest m.0 m.1 in
    subst IsGood m.2 (good_lists m.0 found.0 (omega (arith, found.1, found.2, none))).1
body_ok kinds.MultiPolygon left rest g none e =
    let m = made_ok MultiPolygon (listed first_opening (listed opening (listed opening point)) left) g rest e in
    let found = listed_counts first_opening (listed opening (listed opening point)) (total (total one)) GoodLines (lines_counts opening) left rest m.0 m.1 in
    let count = total_polygons m.0 in
    subst IsGood m.2 (record { filled = filled_polygons m.0 found.0; few = omega (arith, found.1, found.2, count, none) }, polygons_on_grid m.0 found.0)

abbrev with_geometry : Geometry × Left → Result Geometry WktFault
with_geometry geometry = next ending geometry.1 >>= (λ ended. Ok geometry.0)

abbrev with_keyword : Kind × Left → Result Geometry WktFault
with_keyword kind = body kind.0 kind.1 >>= with_geometry

pub read_ok : (text : List ℕ) (g : Geometry) → read text ≡ Ok g → IsGood g
read_ok text g e =
    let a = bind_ok (next keyword (front text)) with_keyword g e in
    let b = bind_ok (body a.0.0 a.0.1) with_geometry g a.2 in
    let c = bind_ok (next ending b.0.1) (λ ended. Ok b.0.0) g b.2 in
    let found : ◌≡◌ {A = Result Geometry WktFault} (Ok b.0.0) (Ok g) = c.2 in
    let same : b.0.0 ≡ g = cc in
    let none = next_counts keyword (front text) a.0.1 a.0.0 a.1 in
    subst IsGood same (body_ok a.0.0 a.0.1 b.0.1 b.0.0 none b.1)

if_ok : (r : Result Geometry WktFault) → ((g : Geometry) → r ≡ Ok g → IsGood g) → IfOk r IsGood
if_ok (Ok g) good = good g refl
if_ok (Err fault) good = tt

pub read_is_sized : (text : List ℕ) → IfOk (read text) (λ g. IsSized g × AllByRecursion IsOnGrid (points_of g))
read_is_sized text = if_ok (read text) (read_ok text)

-- what is read is sized
pub sized_by : (text : List ℕ) (result : Result Geometry WktFault) → OrMemory (read text) result → IfOk result IsSized
sized_by text (Ok g) found = (read_ok text g (sym found)).0
sized_by text (Err fault) found = tt
