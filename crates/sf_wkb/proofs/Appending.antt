-- Bytes that are put one after another, and counts of what is put.
use Rattle.std.proofs.Common.{◌≡◌, ℕ, ◌+◌, ◌<◌, ◌≤◌, ◌^◌, false, List, [], ◌∷◌, ◌++◌, length, take, get_or, sym, ap, ◌∙◌, arith, length-append}
use Rattle.std.proofs.lemmas.Grind.{flat_map-append}
use Rattle.std.proofs.lemmas.List.{append-nil, append_assoc, take_more}
use Rattle.std.specs.List.{AllByRecursion, flat_map, list_any}
use Rattle.sf_grid.specs.Plane.{Coordinates}
use Rattle.sf_geometry.specs.declared.geometry.Geometry.TheVariants.{Polygon, MultiLineString, MultiPolygon}
use Rattle.sf_geometry.specs.Parts.{joined}
use Rattle.sf_geometry.specs.Size.{points_max, is_empty, has_empty, IsSized}
use Rattle.sf_geometry.proofs.Filled.{or_false, joined_append}

-- one more item behind a count and the items before it
pub put_item : {T : Type 0} (bytes : T → List ℕ) (xs : List T) (i : ℕ) (x : T) (old count before after : List ℕ) → i < length xs → x ≡ get_or xs i x
    → before ≡ old ++ (count ++ flat_map bytes (take i xs)) → after ≡ before ++ bytes x → after ≡ old ++ (count ++ flat_map bytes (take (i + 1) xs))
put_item bytes xs i x old count before after within x_is before_is after_is =
    let longer : take (i + 1) xs ≡ take i xs ++ x ∷ [] = take_more xs i x within ∙ ap (λ y. take i xs ++ y ∷ []) (sym x_is) in
    let one : flat_map bytes (x ∷ []) ≡ bytes x = append-nil (bytes x) in
    let more : flat_map bytes (take (i + 1) xs) ≡ flat_map bytes (take i xs) ++ bytes x =
    ap (flat_map bytes) longer ∙ flat_map-append bytes (take i xs) (x ∷ []) ∙ ap (λ b. flat_map bytes (take i xs) ++ b) one in
    after_is ∙ ap (λ b. b ++ bytes x) before_is
    ∙ append_assoc old (count ++ flat_map bytes (take i xs)) (bytes x)
    ∙ ap (λ b. old ++ b) (append_assoc count (flat_map bytes (take i xs)) (bytes x) ∙ ap (λ b. count ++ b) (sym more))

-- ---- counts fit their bytes

some_of : {T : Type 0} (xs : List T) → is_empty xs ≡ false → 1 ≤ length xs
some_of [] filled = absurd cc
some_of (x ∷ xs) filled = omega arith

-- where no list is empty, there are no more lists than items
pub no_longer : {T : Type 0} (lists : List (List T)) → list_any is_empty lists ≡ false → length lists ≤ length (joined lists)
no_longer [] filled = omega arith
no_longer (x ∷ xs) filled =
    let both = or_false (is_empty x) (list_any is_empty xs) filled in
    let here = some_of x both.0 in
    let later = no_longer xs both.1 in
    let lengths = length-append x (joined xs) in
    omega (arith, here, later, lengths)

each_below : {T : Type 0} (bound : ℕ) (lists : List (List T)) → length (joined lists) < bound → AllByRecursion (λ list. length list < bound) lists
each_below bound [] below = tt
each_below bound (x ∷ xs) below = let lengths = length-append x (joined xs) in (omega (arith, lengths, below), each_below bound xs (omega (arith, lengths, below)))

-- the lists of a sized geometry are few, and each is short
abbrev pub AreFew : {T : Type 0} → List (List T) → Type 0
AreFew lists = (length lists < 2 ^ 32) × AllByRecursion (λ list. length list < 2 ^ 32) lists

few_lists : {T : Type 0} (lists : List (List T)) → has_empty lists ≡ false → length (joined lists) ≤ points_max → AreFew lists
few_lists lists filled few =
    let both = or_false (is_empty lists) (list_any is_empty lists) filled in
    let fewer = no_longer lists both.1 in
    (omega (arith, fewer, few), each_below (2 ^ 32) lists (omega (arith, few)))

pub few_rings : (rings : List (List Coordinates)) → IsSized (Polygon rings) → AreFew rings
few_rings rings sized = few_lists rings sized.filled sized.few

pub few_lines : (lines : List (List Coordinates)) → IsSized (MultiLineString lines) → AreFew lines
few_lines lines sized = few_lists lines sized.filled sized.few

all_few : (polygons : List (List (List Coordinates))) → list_any has_empty polygons ≡ false → length (joined (joined polygons)) ≤ points_max → AllByRecursion AreFew polygons
all_few [] filled few = tt
all_few (x ∷ xs) filled few =
    let both = or_false (has_empty x) (list_any has_empty xs) filled in
    let split = joined_append x (joined xs) in
    let lengths = ap length split ∙ length-append (joined x) (joined (joined xs)) in
    (few_lists x both.0 (omega (arith, lengths, few)), all_few xs both.1 (omega (arith, lengths, few)))

-- and no more polygons than points
pub no_more : (polygons : List (List (List Coordinates))) → list_any has_empty polygons ≡ false → length polygons ≤ length (joined (joined polygons))
no_more [] filled = omega arith
no_more (x ∷ xs) filled =
    let both = or_false (has_empty x) (list_any has_empty xs) filled in
    let inner = or_false (is_empty x) (list_any is_empty x) both.0 in
    let here = some_of x inner.0 in
    let rings = no_longer x inner.1 in
    let later = no_more xs both.1 in
    let split = joined_append x (joined xs) in
    let lengths = ap length split ∙ length-append (joined x) (joined (joined xs)) in
    omega (arith, here, rings, later, lengths)

pub few_polygons : (polygons : List (List (List Coordinates))) → IsSized (MultiPolygon polygons) → (length polygons < 2 ^ 32) × AllByRecursion AreFew polygons
few_polygons polygons sized =
    let both = or_false (is_empty polygons) (list_any has_empty polygons) sized.filled in
    let fewer = no_more polygons both.1 in
    (omega (arith, fewer, sized.few), all_few polygons both.1 sized.few)
