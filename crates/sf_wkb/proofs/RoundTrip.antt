-- The canonical bytes of a sized geometry on the grid read as that geometry.
use Rattle.std.proofs.Common.{◌≡◌, ℕ, suc, ◌+◌, ◌-◌, ◌<◌, ◌≤◌, ◌^◌, ℤ, Bool, true, false, ◌==◌, nat_lt, List, [], ◌∷◌, ◌++◌, length, take, drop, Result, Ok, Err, if◌then◌else◌, refl, sym, ap, ◌∙◌, subst, arith, length-append}
use Rattle.std.proofs.Math.Seq.{take-append_seam, drop-append_seam}
use Rattle.std.proofs.lemmas.Bool.Decides.{nat_tests}
use Rattle.std.proofs.lemmas.Int.{ints}
use Rattle.std.proofs.lemmas.List.{append-nil, append_assoc}
use Rattle.std.specs.List.{AllByRecursion, flat_map}
use Rattle.byteorder.specs.Endian.{little_number, little_bytes}
use Rattle.byteorder.specs.Numbers.{little_number-reads_back, length-bytes_low_first}
use Rattle.sf_grid.specs.Plane.{Coordinates, IsOnGrid}
use Rattle.sf_geometry.specs.declared.geometry.Geometry.{Geometry}
use Rattle.sf_geometry.specs.declared.geometry.Geometry.TheVariants.{Point, LineString, Polygon, MultiPoint, MultiLineString, MultiPolygon}
use Rattle.sf_geometry.specs.declared.kind.Kind.{Kind}
use Rattle.sf_geometry.specs.declared.kind.Kind.TheVariants as kinds
use Rattle.sf_geometry.specs.Parts.{points_of}
use Rattle.sf_geometry.specs.Size.{points_max, IsSized}
use Rattle.sf_wkb.specs.declared.fault.WkbFault.{WkbFault}
use Rattle.sf_wkb.specs.declared.fault.WkbFault.TheVariants as faults
use Rattle.sf_wkb.specs.declared.order.Order.{Order}
use Rattle.sf_wkb.specs.declared.order.Order.TheVariants.{LittleEndian}
use Rattle.sf_wkb.specs.declared.grid.Grid.{Grid}
use Rattle.sf_wkb.specs.declared.grid.Grid.TheVariants.{Bits31}
use Rattle.sf_wkb.specs.Words.{in_grid, IsIn, word_of, whole_in}
use Rattle.sf_wkb.specs.Grammar.{Left, Reads, ◌>>=◌, with_rest, next, order, number, code_of, any_code, code, count, coordinate, point, items, listed, line, rings, member, made, body, ending, read, read_in, header, point_bytes, list_bytes, line_bytes, rings_bytes, canonical}
use Rattle.sf_geometry.proofs.Filled.{GoodList, GoodLineOf, GoodLinesOf, one, total, good_line_of, good_lines_of, good_polygons_of, total_line, total_lines, total_polygons}
use Rattle.sf_wkb.proofs.WordLaws.{coordinate_below, coordinate_fits, word_back}
use Rattle.sf_wkb.proofs.Sized.{on_either}

module _ (grid : Grid) where
  -- where reading stands
  abbrev at : List ℕ → ℕ → Left
  at bytes points = record { bytes = bytes; points = points; grid = grid }

  -- what follows a reading sees its value
  after : {A B : Type 0} (f : A → Result B WkbFault) (r : Result A WkbFault) (x : A) → r ≡ Ok x → (r >>= f) ≡ f x
  after f r x e = ap (λ q. q >>= f) e

  -- a field that stands at the front
  next_at : {T : Type 0} (len : ℕ) (rule : List ℕ → Result T WkbFault) (bytes rest : List ℕ) (points : ℕ) (x : T) → length bytes ≡ len → rule bytes ≡ Ok x
      → next len rule (at (bytes ++ rest) points) ≡ Ok (x, at rest points)
  next_at {T = T} len rule bytes rest points x sized found =
      let all : List ℕ = bytes ++ rest in
      let enough : nat_lt (length all) len ≡ false = let both = length-append bytes rest in grind (arith, nat_tests, both, sized) in
      let front : take len all ≡ bytes = ap (λ (n : ℕ). take n all) (sym sized) ∙ take-append_seam bytes rest in
      let behind : drop len all ≡ rest = ap (λ (n : ℕ). drop n all) (sym sized) ∙ drop-append_seam bytes rest in
      ap (λ (b : Bool). if b then Err faults.Truncated else with_rest (at (drop len all) points) (rule (take len all))) enough
      ∙ ap (λ (r : List ℕ). with_rest (at r points) (rule (take len all))) behind
      ∙ ap (λ (b : List ℕ). with_rest (at rest points) (rule b)) front
      ∙ ap (with_rest (at rest points)) found

  -- a number that fits its bytes reads back
  number_back : (len n : ℕ) → n < 256 ^ len → number LittleEndian len (little_bytes len n) ≡ n
  number_back len n fits = ap (little_number len) (sym (append-nil (little_bytes len n))) ∙ little_number-reads_back len n [] fits

  sized_bytes : (len n : ℕ) → length (little_bytes len n) ≡ len
  sized_bytes len n = length-bytes_low_first 0 len n

  coordinate_back : (n : ℤ) → in_grid grid n ≡ true → coordinate grid LittleEndian (little_bytes 8 (word_of n)) ≡ Ok n
  coordinate_back n on =
      let coordinate_is = on_either grid n on in
      ap (whole_in (in_grid grid)) (number_back 8 (word_of n) (coordinate_fits n coordinate_is)) ∙ word_back (in_grid grid) n (coordinate_below n coordinate_is) on

  by_count : (points n : ℕ) → 0 < n → points + n ≤ points_max → (if n == 0 then Err faults.Empty else if nat_lt (points_max - points) n then Err faults.TooManyVertices else Ok n) ≡ Ok n
  by_count points n some few =
      let not_none : (n == 0) ≡ false = grind (arith, nat_tests) in
      let room : nat_lt (points_max - points) n ≡ false = grind (arith, nat_tests) in
      rw (not_none, room) refl

  count_back : (points n : ℕ) → 0 < n → points + n ≤ points_max → count points LittleEndian (little_bytes 4 n) ≡ Ok n
  count_back points n some few =
      ap (λ (k : ℕ). if k == 0 then Err faults.Empty else if nat_lt (points_max - points) k then Err faults.TooManyVertices else Ok k) (number_back 4 n (omega arith))
      ∙ by_count points n some few

  -- a reading takes a value's bytes off the front and counts its points, whatever follows
  abbrev ReadsBack : {T : Type 0} → (Left → Reads T) → (T → List ℕ) → (T → ℕ) → (T → Type 0) → Type 0
  ReadsBack {T = T} item bytes size good = (x : T) (rest : List ℕ) (points : ℕ) → good x → points + size x ≤ points_max
      → item (at (bytes x ++ rest) points) ≡ Ok (x, at rest (points + size x))

  abbrev behind_y : ℤ → ℤ × Left → Reads Coordinates
  behind_y x y = Ok (record { x = x; y = y.0 }, record y.1 { points = y.1.points + 1 })

  abbrev behind_x : ℤ × Left → Reads Coordinates
  behind_x x = next 8 (coordinate grid LittleEndian) x.1 >>= behind_y x.0

  point_back : ReadsBack (point LittleEndian) point_bytes one (IsIn grid)
  point_back p rest points on few =
      let xs : List ℕ = little_bytes 8 (word_of p.x) in
      let ys : List ℕ = little_bytes 8 (word_of p.y) in
      ap (λ (bytes : List ℕ). point LittleEndian (at bytes points)) (append_assoc xs ys rest)
      ∙ after behind_x _ (p.x, at (ys ++ rest) points) (next_at 8 (coordinate grid LittleEndian) xs (ys ++ rest) points p.x (sized_bytes 8 (word_of p.x)) (coordinate_back p.x on.0))
      ∙ after (behind_y p.x) _ (p.y, at rest points) (next_at 8 (coordinate grid LittleEndian) ys rest points p.y (sized_bytes 8 (word_of p.y)) (coordinate_back p.y on.1))

  module _ {T : Type 0} (item : Left → Reads T) (bytes : T → List ℕ) (size : T → ℕ) (good : T → Type 0) (back : ReadsBack item bytes size good) where
    abbrev behind_more : T → List T × Left → Reads (List T)
    behind_more first more = Ok (first ∷ more.0, more.1)

    abbrev behind_first : ℕ → T × Left → Reads (List T)
    behind_first n first = items item n first.1 >>= behind_more first.0

    items_back : (xs : List T) (rest : List ℕ) (points : ℕ) → AllByRecursion good xs → points + total size xs ≤ points_max
        → items item (length xs) (at (flat_map bytes xs ++ rest) points) ≡ Ok (xs, at rest (points + total size xs))
    items_back [] rest points all few = ap (λ (n : ℕ). Ok ([], at rest n)) (omega arith)
    items_back (x ∷ xs) rest points all few =
        let more : List ℕ = flat_map bytes xs ++ rest in
        let later = items_back xs rest (points + size x) all.1 (omega arith) in
        let sum : points + size x + total size xs ≡ points + (size x + total size xs) = omega arith in
        ap (λ (b : List ℕ). items item (suc (length xs)) (at b points)) (append_assoc (bytes x) (flat_map bytes xs) rest)
        ∙ after (behind_first (length xs)) _ (x, at more (points + size x)) (back x more points all.0 (omega arith))
        ∙ after (behind_more x) _ (xs, at rest (points + size x + total size xs)) later
        ∙ ap (λ (n : ℕ). Ok (x ∷ xs, at rest n)) sum

    at_least : ((x : T) → good x → 1 ≤ size x) → (xs : List T) → AllByRecursion good xs → length xs ≤ total size xs
    at_least counts [] all = omega arith
    at_least counts (x ∷ xs) all = let later = at_least counts xs all.1 in let here = counts x all.0 in omega (arith, later, here)

    abbrev behind_count : ℕ × Left → Reads (List T)
    behind_count counted = items item counted.0 counted.1

    pub list_back : ((x : T) → good x → 1 ≤ size x) → ReadsBack (listed LittleEndian item) (list_bytes bytes) (total size) (GoodList good)
    list_back counts xs rest points good_list few =
        let n : ℕ = length xs in
        let enough = at_least counts xs good_list.1 in
        ap (λ (b : List ℕ). listed LittleEndian item (at b points)) (append_assoc (little_bytes 4 n) (flat_map bytes xs) rest)
        ∙ after behind_count _ (n, at (flat_map bytes xs ++ rest) points) (next_at 4 (count points LittleEndian) (little_bytes 4 n) (flat_map bytes xs ++ rest) points n (sized_bytes 4 n) (count_back points n good_list.0 (omega (arith, enough))))
        ∙ items_back xs rest points good_list.1 few

    pub list_counts : ((x : T) → good x → 1 ≤ size x) → (xs : List T) → GoodList good xs → 1 ≤ total size xs
    list_counts counts xs good_list = let enough = at_least counts xs good_list.1 in let some = good_list.0 in omega (arith, enough, some)

  code_back : (kind : Kind) → code kind LittleEndian (little_bytes 4 (code_of kind)) ≡ Ok tt
  code_back kinds.Point = refl
  code_back kinds.LineString = refl
  code_back kinds.Polygon = refl
  code_back kinds.MultiPoint = refl
  code_back kinds.MultiLineString = refl
  code_back kinds.MultiPolygon = refl

  any_code_back : (kind : Kind) → any_code LittleEndian (little_bytes 4 (code_of kind)) ≡ Ok kind
  any_code_back kinds.Point = refl
  any_code_back kinds.LineString = refl
  any_code_back kinds.Polygon = refl
  any_code_back kinds.MultiPoint = refl
  any_code_back kinds.MultiLineString = refl
  any_code_back kinds.MultiPolygon = refl

  abbrev behind_code : {T : Type 0} → (Order → Left → Reads T) → Order → Unit {0} × Left → Reads T
  behind_code of_order ordered coded = of_order ordered coded.1

  abbrev behind_order : {T : Type 0} → Kind → (Order → Left → Reads T) → Order × Left → Reads T
  behind_order kind of_order ordered = next 4 (code kind ordered.0) ordered.1 >>= behind_code of_order ordered.0

  member_back : {T : Type 0} (kind : Kind) (of_order : Order → Left → Reads T) (bytes : T → List ℕ) (size : T → ℕ) (good : T → Type 0) → ReadsBack (of_order LittleEndian) bytes size good
      → ReadsBack (member kind of_order) (λ x. header kind ++ bytes x) size good
  member_back kind of_order bytes size good back x rest points good_x few =
      let codes : List ℕ = little_bytes 4 (code_of kind) in
      let more : List ℕ = bytes x ++ rest in
      let split : (1 ∷ codes) ++ bytes x ++ rest ≡ (1 ∷ []) ++ (codes ++ more) = ap (λ (b : List ℕ). 1 ∷ b) (append_assoc codes (bytes x) rest) in
      ap (λ (b : List ℕ). member kind of_order (at b points)) split
      ∙ after (behind_order kind of_order) _ (LittleEndian, at (codes ++ more) points) (next_at 1 order (1 ∷ []) (codes ++ more) points LittleEndian refl refl)
      ∙ after (behind_code of_order LittleEndian) _ (tt, at more points) (next_at 4 (code kind LittleEndian) codes more points tt (sized_bytes 4 (code_of kind)) (code_back kind))
      ∙ back x rest points good_x few

  one_counts : (p : Coordinates) → (IsIn grid) p → 1 ≤ one p
  one_counts p on = omega arith

  line_back : ReadsBack (line LittleEndian) line_bytes (total one) (GoodLineOf (IsIn grid))
  line_back = list_back (point LittleEndian) point_bytes one (IsIn grid) point_back one_counts

  line_counts : (ps : List Coordinates) → (GoodLineOf (IsIn grid)) ps → 1 ≤ total one ps
  line_counts = list_counts (point LittleEndian) point_bytes one (IsIn grid) point_back one_counts

  rings_back : ReadsBack (rings LittleEndian) rings_bytes (total (total one)) (GoodLinesOf (IsIn grid))
  rings_back = list_back (line LittleEndian) line_bytes (total one) (GoodLineOf (IsIn grid)) line_back line_counts

  rings_count : (rs : List (List Coordinates)) → (GoodLinesOf (IsIn grid)) rs → 1 ≤ total (total one) rs
  rings_count = list_counts (line LittleEndian) line_bytes (total one) (GoodLineOf (IsIn grid)) line_back line_counts

  abbrev points_member : ReadsBack (member kinds.Point point) (λ p. header kinds.Point ++ point_bytes p) one (IsIn grid)
  points_member = member_back kinds.Point point point_bytes one (IsIn grid) point_back

  abbrev lines_member : ReadsBack (member kinds.LineString line) (λ ps. header kinds.LineString ++ line_bytes ps) (total one) (GoodLineOf (IsIn grid))
  lines_member = member_back kinds.LineString line line_bytes (total one) (GoodLineOf (IsIn grid)) line_back

  abbrev polygons_member : ReadsBack (member kinds.Polygon rings) (λ rs. header kinds.Polygon ++ rings_bytes rs) (total (total one)) (GoodLinesOf (IsIn grid))
  polygons_member = member_back kinds.Polygon rings rings_bytes (total (total one)) (GoodLinesOf (IsIn grid)) rings_back

  -- ---- whole geometries

  abbrev behind_geometry : Geometry × Left → Result Geometry WkbFault
  behind_geometry geometry = ending geometry.1.bytes >>= (λ ended. Ok geometry.0)

  abbrev behind_kind : Order → Kind × Left → Result Geometry WkbFault
  behind_kind ordered coded = body coded.0 ordered coded.1 >>= behind_geometry

  abbrev behind_start : Order × Left → Result Geometry WkbFault
  behind_start ordered = next 4 (any_code ordered.0) ordered.1 >>= behind_kind ordered.0

  read_whole : (kind : Kind) (bytes : List ℕ) (g : Geometry) (points : ℕ) → body kind LittleEndian (at bytes 0) ≡ Ok (g, at [] points) → read_in grid (header kind ++ bytes) ≡ Ok g
  read_whole kind bytes g points found =
      let codes : List ℕ = little_bytes 4 (code_of kind) in
      after behind_start _ (LittleEndian, at (codes ++ bytes) 0) (next_at 1 order (1 ∷ []) (codes ++ bytes) 0 LittleEndian refl refl)
      ∙ after (behind_kind LittleEndian) _ (kind, at bytes 0) (next_at 4 (any_code LittleEndian) codes bytes 0 kind (sized_bytes 4 (code_of kind)) (any_code_back kind))
      ∙ after behind_geometry _ (g, at [] points) found

  -- a value's bytes alone
  alone : {T : Type 0} (item : Left → Reads T) (bytes : T → List ℕ) (size : T → ℕ) (good : T → Type 0) → ReadsBack item bytes size good
      → (f : T → Geometry) (x : T) → good x → size x ≤ points_max → made f (item (at (bytes x) 0)) ≡ Ok (f x, at [] (0 + size x))
  alone item bytes size good back f x good_x few =
      ap (λ (b : List ℕ). made f (item (at b 0))) (sym (append-nil (bytes x))) ∙ ap (made f) (back x [] 0 good_x (omega (arith, few)))

  points_back : ReadsBack (listed LittleEndian (member kinds.Point point)) (list_bytes (λ p. header kinds.Point ++ point_bytes p)) (total one) (GoodLineOf (IsIn grid))
  points_back = list_back (member kinds.Point point) (λ p. header kinds.Point ++ point_bytes p) one (IsIn grid) points_member one_counts

  lines_back : ReadsBack (listed LittleEndian (member kinds.LineString line)) (list_bytes (λ ps. header kinds.LineString ++ line_bytes ps)) (total (total one)) (GoodLinesOf (IsIn grid))
  lines_back = list_back (member kinds.LineString line) (λ ps. header kinds.LineString ++ line_bytes ps) (total one) (GoodLineOf (IsIn grid)) lines_member line_counts

  polygons_back : ReadsBack (listed LittleEndian (member kinds.Polygon rings)) (list_bytes (λ rs. header kinds.Polygon ++ rings_bytes rs)) (total (total (total one))) (GoodList (GoodLinesOf (IsIn grid)))
  polygons_back = list_back (member kinds.Polygon rings) (λ rs. header kinds.Polygon ++ rings_bytes rs) (total (total one)) (GoodLinesOf (IsIn grid)) polygons_member rings_count

  pub round_trip_in : (g : Geometry) → IsSized g → AllByRecursion (IsIn grid) (points_of g) → read_in grid (canonical g) ≡ Ok g
  round_trip_in (Point p) sized on =
      read_whole kinds.Point (point_bytes p) (Point p) _ (alone (point LittleEndian) point_bytes one (IsIn grid) point_back Point p on.0 (omega arith))
  round_trip_in (LineString ps) sized on =
      let same = append-nil ps in
      let few : total one ps ≤ points_max = let count = total_line ps in let lengths = ap length same in omega (arith, count, lengths, sized.few) in
      read_whole kinds.LineString (line_bytes ps) (LineString ps) _ (alone (line LittleEndian) line_bytes (total one) (GoodLineOf (IsIn grid)) line_back LineString ps (good_line_of (IsIn grid) ps sized.filled (subst (AllByRecursion (IsIn grid)) same on)) few)
  round_trip_in (Polygon rs) sized on =
      let few : total (total one) rs ≤ points_max = let count = total_lines rs in omega (arith, count, sized.few) in
      read_whole kinds.Polygon (rings_bytes rs) (Polygon rs) _ (alone (rings LittleEndian) rings_bytes (total (total one)) (GoodLinesOf (IsIn grid)) rings_back Polygon rs (good_lines_of (IsIn grid) rs sized.filled on) few)
  round_trip_in (MultiPoint ps) sized on =
      let same = append-nil ps in
      let few : total one ps ≤ points_max = let count = total_line ps in let lengths = ap length same in omega (arith, count, lengths, sized.few) in
      read_whole kinds.MultiPoint (list_bytes (λ p. header kinds.Point ++ point_bytes p) ps) (MultiPoint ps) _ (alone (listed LittleEndian (member kinds.Point point)) (list_bytes (λ p. header kinds.Point ++ point_bytes p)) (total one) (GoodLineOf (IsIn grid)) points_back MultiPoint ps (good_line_of (IsIn grid) ps sized.filled (subst (AllByRecursion (IsIn grid)) same on)) few)
  round_trip_in (MultiLineString lines) sized on =
      let few : total (total one) lines ≤ points_max = let count = total_lines lines in omega (arith, count, sized.few) in
      read_whole kinds.MultiLineString (list_bytes (λ ps. header kinds.LineString ++ line_bytes ps) lines) (MultiLineString lines) _ (alone (listed LittleEndian (member kinds.LineString line)) (list_bytes (λ ps. header kinds.LineString ++ line_bytes ps)) (total (total one)) (GoodLinesOf (IsIn grid)) lines_back MultiLineString lines (good_lines_of (IsIn grid) lines sized.filled on) few)
  round_trip_in (MultiPolygon polygons) sized on =
      let few : total (total (total one)) polygons ≤ points_max = let count = total_polygons polygons in omega (arith, count, sized.few) in
      read_whole kinds.MultiPolygon (list_bytes (λ rs. header kinds.Polygon ++ rings_bytes rs) polygons) (MultiPolygon polygons) _ (alone (listed LittleEndian (member kinds.Polygon rings)) (list_bytes (λ rs. header kinds.Polygon ++ rings_bytes rs)) (total (total (total one))) (GoodList (GoodLinesOf (IsIn grid))) polygons_back MultiPolygon polygons (good_polygons_of (IsIn grid) polygons sized.filled on) few)

pub on_wide : (ps : List Coordinates) → AllByRecursion IsOnGrid ps → AllByRecursion (IsIn Bits31) ps
on_wide [] all = tt
on_wide (p ∷ ps) all = ((grind (arith, ints, all), grind (arith, ints, all)), on_wide ps all.1)

pub round_trip : (g : Geometry) → IsSized g → AllByRecursion IsOnGrid (points_of g) → read (canonical g) ≡ Ok g
round_trip g sized on = round_trip_in Bits31 g sized (on_wide (points_of g) on)
