-- What is read on one of the grids is read on the whole grid too.
use Rattle.std.proofs.Common.{◌≡◌, ℕ, zero, suc, ◌/◌, ◌%◌, ◌^◌, ◌+◌, ◌-◌, ℤ, pos, Bool, true, false, not, ◌&&◌, ◌==◌, nat_lt, List, [], ◌∷◌, length, take, drop, ◌⊎◌, inl, inr, Result, Ok, Err, if◌then◌else◌, refl, sym, ap, ◌∙◌, subst, arith}
use Rattle.std.proofs.lemmas.Int.{ints}
use Rattle.sf_grid.specs.Bounds.{IsCoordinate, is_coordinate}
use Rattle.sf_grid.specs.Plane.{Coordinates}
use Rattle.sf_geometry.specs.declared.geometry.Geometry.{Geometry}
use Rattle.sf_geometry.specs.declared.geometry.Geometry.TheVariants.{Point, LineString, Polygon, MultiPoint, MultiLineString, MultiPolygon}
use Rattle.sf_geometry.specs.declared.kind.Kind.{Kind}
use Rattle.sf_geometry.specs.declared.kind.Kind.TheVariants as kinds
use Rattle.sf_wkb.specs.declared.fault.WkbFault.{WkbFault}
use Rattle.sf_wkb.specs.declared.fault.WkbFault.TheVariants as faults
use Rattle.sf_wkb.specs.declared.grid.Grid.{Grid}
use Rattle.sf_wkb.specs.declared.grid.Grid.TheVariants.{Bits31}
use Rattle.sf_wkb.specs.declared.order.Order.{Order}
use Rattle.sf_wkb.specs.Words.{in_grid, signed, is_negative, exponent_of, fraction_of, whole_by, whole_of_fields}
use Rattle.sf_wkb.specs.Grammar.{Left, Reads, ◌>>=◌, with_rest, next, order, number, any_code, code, count, coordinate, point, items, listed, line, rings, member, made, body, ending, read, read_in}
use Rattle.sf_wkb.proofs.Sized.{bind_ok, on_either, made_ok, with_code, with_order}

-- ---- coordinates

wide_test : (n : ℤ) → IsCoordinate n → is_coordinate n ≡ true
wide_test n on = grind (arith, ints)

by_range : (grid : Grid) (n m : ℤ) (is_in : Bool) → in_grid grid n ≡ is_in → (if not is_in then Err faults.OutOfRange else Ok n) ≡ Ok m
    → (if not (is_coordinate n) then Err faults.OutOfRange else Ok n) ≡ Ok m
by_range grid n m true test e = rw (wide_test n (on_either grid n test)) e
by_range grid n m false test e = absurd cc

unless : {A : Type 0} (b : Bool) (fault : WkbFault) (r s : Result A WkbFault) (y z : A) → (r ≡ Ok y → s ≡ Ok z) → (if b then Err fault else r) ≡ Ok y → (if b then Err fault else s) ≡ Ok z
unless true fault r s y z so e = absurd cc
unless false fault r s y z so e = so e

if_zero : (b : Bool) (r s : Result ℤ WkbFault) (n : ℤ) → (r ≡ Ok n → s ≡ Ok n) → (if b then Ok (pos 0) else r) ≡ Ok n → (if b then Ok (pos 0) else s) ≡ Ok n
if_zero true r s n so e = e
if_zero false r s n so e = so e

fields_wide : (grid : Grid) (negative : Bool) (exponent fraction : ℕ) (n : ℤ) → whole_of_fields (in_grid grid) negative exponent fraction ≡ Ok n → whole_of_fields is_coordinate negative exponent fraction ≡ Ok n
fields_wide grid negative exponent fraction n =
    let unit : ℕ = 2 ^ (1075 - exponent) in
    let m : ℤ = signed negative ((2 ^ 52 + fraction) / unit) in
    if_zero (exponent == 0 && fraction == 0) _ _ n
    (unless (nat_lt exponent 1023) faults.OffGrid _ _ n n
    (unless (exponent == 2047) faults.OffGrid _ _ n n
    (unless (nat_lt 1074 exponent) faults.OutOfRange _ _ n n
    (unless (not (fraction % unit == 0)) faults.OffGrid _ _ n n (by_range grid m n (in_grid grid m) refl)))))

coordinate_wide : (grid : Grid) (o : Order) (bytes : List ℕ) (n : ℤ) → coordinate grid o bytes ≡ Ok n → coordinate Bits31 o bytes ≡ Ok n
coordinate_wide grid o bytes n e = let word : ℕ = number o 8 bytes in fields_wide grid (is_negative word) (exponent_of word) (fraction_of word) n e

-- ---- fields

-- the same place on the whole grid
abbrev wide : Left → Left
wide left = record left { grid = Bits31 }

-- what is read on any grid is read on the whole one
abbrev Widens : {T : Type 0} → (Left → Reads T) → Type 0
Widens {T = T} item = (left rest : Left) (x : T) → item left ≡ Ok (x, rest) → item (wide left) ≡ Ok (x, wide rest)

rest_wide : {T : Type 0} (here rest : Left) (r : Result T WkbFault) (x : T) → with_rest here r ≡ Ok (x, rest) → (r ≡ Ok x) × (with_rest (wide here) (Ok x) ≡ Ok (x, wide rest))
rest_wide {T = T} here rest (Ok y) x e =
    let same : ◌≡◌ {A = T × Left} (y, here) (x, rest) = cc in
    (ap (λ (p : T × Left). Ok p.0) same, ap (λ (p : T × Left). Ok (x, wide p.1)) same)
rest_wide here rest (Err fault) x e = absurd cc

-- a field by a rule, of which the other rule makes the same
next_wide : {T : Type 0} (len : ℕ) (rule other : List ℕ → Result T WkbFault) → ((bytes : List ℕ) (x : T) → rule bytes ≡ Ok x → other bytes ≡ Ok x)
    → (left rest : Left) (x : T) → next len rule left ≡ Ok (x, rest) → next len other (wide left) ≡ Ok (x, wide rest)
next_wide len rule other so left rest x e =
    let here : Left = record left { bytes = drop len left.bytes } in
    let field : List ℕ = take len left.bytes in
    unless (nat_lt (length left.bytes) len) faults.Truncated (with_rest here (rule field)) (with_rest (wide here) (other field)) (x, rest) (x, wide rest)
    (moved here field) e
  where
    moved : (here : Left) (field : List ℕ) → with_rest here (rule field) ≡ Ok (x, rest) → with_rest (wide here) (other field) ≡ Ok (x, wide rest)
    moved here field e = let both = rest_wide here rest (rule field) x e in ap (with_rest (wide here)) (so field x both.0) ∙ both.1

next_same : {T : Type 0} (len : ℕ) (rule : List ℕ → Result T WkbFault) → Widens (next len rule)
next_same len rule = next_wide len rule rule (λ bytes x e. e)

-- what a reading gives, on the whole grid
abbrev widened : {T : Type 0} → Reads T → Reads T
widened (Ok x) = Ok (x.0, wide x.1)
widened (Err fault) = Err fault

-- ---- points and lists

abbrev with_y : ℤ → ℤ × Left → Reads Coordinates
with_y x y = Ok (record { x = x; y = y.0 }, record y.1 { points = y.1.points + 1 })

abbrev with_x : Grid → Order → ℤ × Left → Reads Coordinates
with_x grid o x = next 8 (coordinate grid o) x.1 >>= with_y x.0

point_wide : (o : Order) → Widens (point o)
point_wide o left rest p e =
    let grid : Grid = left.grid in
    let a = bind_ok (next 8 (coordinate grid o) left) (with_x grid o) (p, rest) e in
    let b = bind_ok (next 8 (coordinate grid o) a.0.1) (with_y a.0.0) (p, rest) a.2 in
    ap (λ r. r >>= with_x Bits31 o) (next_wide 8 (coordinate grid o) (coordinate Bits31 o) (coordinate_wide grid o) left a.0.1 a.0.0 a.1)
    ∙ ap (λ r. r >>= with_y a.0.0) (next_wide 8 (coordinate grid o) (coordinate Bits31 o) (coordinate_wide grid o) a.0.1 b.0.1 b.0.0 b.1)
    ∙ ap widened b.2

abbrev with_first : {T : Type 0} → T → List T × Left → Reads (List T)
with_first x more = Ok (x ∷ more.0, more.1)

abbrev with_items : {T : Type 0} → (Left → Reads T) → ℕ → T × Left → Reads (List T)
with_items item n first = items item n first.1 >>= with_first first.0

items_wide : {T : Type 0} (item : Left → Reads T) → Widens item → (n : ℕ) → Widens (items item n)
items_wide item so zero left rest xs e = ap widened e
items_wide item so (suc n) left rest xs e =
    let a = bind_ok (item left) (with_items item n) (xs, rest) e in
    let b = bind_ok (items item n a.0.1) (with_first a.0.0) (xs, rest) a.2 in
    ap (λ r. r >>= with_items item n) (so left a.0.1 a.0.0 a.1)
    ∙ ap (λ r. r >>= with_first a.0.0) (items_wide item so n a.0.1 b.0.1 b.0.0 b.1)
    ∙ ap widened b.2

abbrev with_count : {T : Type 0} → (Left → Reads T) → ℕ × Left → Reads (List T)
with_count item counted = items item counted.0 counted.1

listed_wide : {T : Type 0} (o : Order) (item : Left → Reads T) → Widens item → Widens (listed o item)
listed_wide o item so left rest xs e =
    let a = bind_ok (next 4 (count left.points o) left) (with_count item) (xs, rest) e in
    ap (λ r. r >>= with_count item) (next_same 4 (count left.points o) left a.0.1 a.0.0 a.1)
    ∙ items_wide item so a.0.0 a.0.1 rest xs a.2

member_wide : {T : Type 0} (kind : Kind) (of_order : Order → Left → Reads T) → ((o : Order) → Widens (of_order o)) → Widens (member kind of_order)
member_wide kind of_order so left rest x e =
    let a = bind_ok (next 1 order left) (with_order kind of_order) (x, rest) e in
    let b = bind_ok (next 4 (code kind a.0.0) a.0.1) (with_code of_order a.0.0) (x, rest) a.2 in
    ap (λ r. r >>= with_order kind of_order) (next_same 1 order left a.0.1 a.0.0 a.1)
    ∙ ap (λ r. r >>= with_code of_order a.0.0) (next_same 4 (code kind a.0.0) a.0.1 b.0.1 b.0.0 b.1)
    ∙ so a.0.0 b.0.1 rest x b.2

line_wide : (o : Order) → Widens (line o)
line_wide o = listed_wide o (point o) (point_wide o)

rings_wide : (o : Order) → Widens (rings o)
rings_wide o = listed_wide o (line o) (line_wide o)

-- ---- whole geometries

made_wide : {A : Type 0} (f : A → Geometry) (item : Left → Reads A) → Widens item → Widens (λ left. made f (item left))
made_wide f item so left rest g e =
    let m = made_ok f (item left) g rest e in
    ap (made f) (so left rest m.0 m.1) ∙ ap (λ (h : Geometry). Ok (h, wide rest)) m.2

body_wide : (kind : Kind) (o : Order) → Widens (body kind o)
body_wide kinds.Point o = made_wide Point (point o) (point_wide o)
body_wide kinds.LineString o = made_wide LineString (line o) (line_wide o)
body_wide kinds.Polygon o = made_wide Polygon (rings o) (rings_wide o)
body_wide kinds.MultiPoint o = made_wide MultiPoint (listed o (member kinds.Point point)) (listed_wide o (member kinds.Point point) (member_wide kinds.Point point point_wide))
body_wide kinds.MultiLineString o = made_wide MultiLineString (listed o (member kinds.LineString line)) (listed_wide o (member kinds.LineString line) (member_wide kinds.LineString line line_wide))
body_wide kinds.MultiPolygon o = made_wide MultiPolygon (listed o (member kinds.Polygon rings)) (listed_wide o (member kinds.Polygon rings) (member_wide kinds.Polygon rings rings_wide))

abbrev with_geometry : Geometry × Left → Result Geometry WkbFault
with_geometry geometry = ending geometry.1.bytes >>= (λ ended. Ok geometry.0)

abbrev with_kind : Order → Kind × Left → Result Geometry WkbFault
with_kind o coded = body coded.0 o coded.1 >>= with_geometry

abbrev with_start : Order × Left → Result Geometry WkbFault
with_start ordered = next 4 (any_code ordered.0) ordered.1 >>= with_kind ordered.0

pub narrow_is_wide : (grid : Grid) (bytes : List ℕ) (g : Geometry) → read_in grid bytes ≡ Ok g → read bytes ≡ Ok g
narrow_is_wide grid bytes g e =
    let start : Left = record { bytes = bytes; points = 0; grid = grid } in
    let a = bind_ok (next 1 order start) with_start g e in
    let b = bind_ok (next 4 (any_code a.0.0) a.0.1) (with_kind a.0.0) g a.2 in
    let c = bind_ok (body b.0.0 a.0.0 b.0.1) with_geometry g b.2 in
    ap (λ r. r >>= with_start) (next_same 1 order start a.0.1 a.0.0 a.1)
    ∙ ap (λ r. r >>= with_kind a.0.0) (next_same 4 (any_code a.0.0) a.0.1 b.0.1 b.0.0 b.1)
    ∙ ap (λ r. r >>= with_geometry) (body_wide b.0.0 a.0.0 b.0.1 c.0.1 c.0.0 c.1)
    ∙ c.2
