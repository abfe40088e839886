-- The canonical text of a sized geometry on the grid reads as that geometry.
use Rattle.std.proofs.Common.{◌≡◌, ℕ, zero, suc, ◌+◌, ◌-◌, ◌*◌, ◌<◌, ◌≤◌, ◌^◌, ℤ, pos, negsuc, Bool, true, false, ◌&&◌, ◌==◌, nat_lt, List, [], ◌∷◌, ◌++◌, length, drop, fold, Result, Ok, Err, codes, if◌then◌else◌, refl, sym, ap, ◌∙◌, subst, arith, rules, length-append}
use Rattle.std.proofs.Math.Seq.{take-append_seam, drop-append_seam}
use Rattle.std.proofs.lemmas.Bool.Decides.{nat_tests}
use Rattle.std.proofs.lemmas.Fmt.{digits_decimal, digits_value-decimal, decimal_nonempty}
use Rattle.std.proofs.lemmas.Int.{ints}
use Rattle.std.proofs.lemmas.List.{append-nil}
use Rattle.std.proofs.lemmas.Str.Parse.{IsNumeralModel, numerals_by_fold}
use Rattle.std.specs.Char.{is_ascii_alphabetic, is_ascii_digit}
use Rattle.std.specs.Fmt.{decimal, signed_decimal}
use Rattle.std.specs.List.{prefix_len, flat_map, AllByRecursion}
use Rattle.std.specs.Str.{all_ascii_digits}
use Rattle.sf_grid.specs.Bounds.{IsCoordinate, is_coordinate}
use Rattle.sf_grid.specs.Plane.{Coordinates, IsOnGrid}
use Rattle.sf_geometry.specs.declared.geometry.Geometry.{Geometry}
use Rattle.sf_geometry.specs.declared.geometry.Geometry.TheVariants.{Point, LineString, Polygon, MultiPoint, MultiLineString, MultiPolygon}
use Rattle.sf_geometry.specs.declared.kind.Kind.{Kind}
use Rattle.sf_geometry.specs.declared.kind.Kind.TheVariants as kinds
use Rattle.sf_geometry.specs.Parts.{points_of}
use Rattle.sf_geometry.specs.Size.{points_max, IsSized}
use Rattle.sf_wkt.specs.declared.fault.WktFault.{WktFault}
use Rattle.sf_wkt.specs.declared.fault.WktFault.TheVariants as faults
use Rattle.sf_wkt.specs.declared.token.PlacedToken.{PlacedToken}
use Rattle.sf_wkt.specs.declared.token.Token.{Token}
use Rattle.sf_wkt.specs.declared.token.Token.TheVariants as tokens
use Rattle.sf_wkt.specs.Tokens.{Left, is_blank, digits_value, digits_len, fraction_len, is_whole, sign_len, is_negative, signed, coordinate, number, number_len, front_token, next_token}
use Rattle.sf_wkt.specs.Grammar.{Reads, ◌>>=◌, with_rest, next, keyword, first_coordinate, second_coordinate, counted, point, opening, first_opening, closing, separator, onto, items, listed, bracketed, point_item, made, body, front, ending, read, point_text, in_brackets, list_text, canonical}
use Rattle.sf_geometry.proofs.Filled.{GoodList, GoodLine, GoodLines, one, total, good_line, good_lines, good_polygons, total_line, total_lines, total_polygons}
use mathlib.Core.List.{append_assoc}

-- digits with a value: what `digits_value` says of the text that `decimal` writes
own : IsNumeralModel (λ ds. all_ascii_digits ds ≡ true) digits_value
own = numerals_by_fold _ (search rules) (λ n digits. fold (λ n digit. 10 * n + (digit - 48)) n digits) (search rules)

and_true : (a b : Bool) → (a && b) ≡ true → (a ≡ true) × (b ≡ true)
and_true true b e = (refl, e)
and_true false b e = cc

digits_len_all : (ds rest : List ℕ) → all_ascii_digits ds ≡ true → digits_len rest ≡ 0 → digits_len (ds ++ rest) ≡ length ds
digits_len_all [] rest all none = none
digits_len_all (d ∷ ds) rest all none =
    let both = and_true (is_ascii_digit d) (all_ascii_digits ds) all in
    let first = both.0 in
    rw first (omega (arith, digits_len_all ds rest both.1 none))

-- what stands behind a number in a canonical text
pub record Ends (rest : List ℕ) : Type 0 where
  pub digits : digits_len rest ≡ 0
  pub fraction : fraction_len rest ≡ 0
  pub whole : is_whole rest ≡ true

number_at : (negative : Bool) (ds rest : List ℕ) → all_ascii_digits ds ≡ true → Ends rest
    → number negative (ds ++ rest) ≡ tokens.Number (coordinate (signed negative (digits_value ds)) true)
number_at negative ds rest all ends =
    let len = digits_len_all ds rest all ends.digits in
    let whole = ends.whole in
    rw (len, take-append_seam, drop-append_seam, whole) refl

some_at : (ds rest : List ℕ) → 0 < length ds → all_ascii_digits ds ≡ true → Ends rest → nat_lt 0 (digits_len (ds ++ rest)) ≡ true
some_at ds rest some all ends =
    let len = digits_len_all ds rest all ends.digits in
    rw len (grind (arith, nat_tests))

number_len_at : (ds rest : List ℕ) → all_ascii_digits ds ≡ true → Ends rest → number_len (ds ++ rest) ≡ length ds
number_len_at ds rest all ends =
    let len = digits_len_all ds rest all ends.digits in
    let fraction = ends.fraction in
    rw (len, drop-append_seam, fraction) (omega arith)

coordinate_is : (n : ℤ) → IsCoordinate n → coordinate n true ≡ Ok n
coordinate_is n on = let test : is_coordinate n ≡ true = grind (arith, ints) in rw test refl

-- a digit is no letter, sign or blank
digit_alone : (d : ℕ) → is_ascii_digit d ≡ true → (is_ascii_alphabetic d ≡ false) × ((d == 43) ≡ false) × ((d == 45) ≡ false) × (is_blank d ≡ false)
digit_alone d h = (grind (arith, nat_tests), grind (arith, nat_tests), grind (arith, nat_tests), grind (arith, nat_tests))

record NumberAtFront (z : ℤ) (text rest : List ℕ) : Type 0 where
  front : front_token (text ++ rest) ≡ (tokens.Number (Ok z), length text)
  blanks : prefix_len is_blank (text ++ rest) ≡ 0

front_by : (bytes unsigned : List ℕ) (sign len : ℕ) (negative : Bool) (token : Token) → prefix_len is_ascii_alphabetic bytes ≡ 0 → sign_len bytes ≡ sign → is_negative bytes ≡ negative → drop sign bytes ≡ unsigned
    → nat_lt 0 (digits_len unsigned) ≡ true → number negative unsigned ≡ token → number_len unsigned ≡ len → front_token bytes ≡ (token, sign + len)
front_by bytes unsigned sign len negative token no_letters sign_is negative_is unsigned_is digits token_is len_is =
    rw (no_letters, sign_is, negative_is, unsigned_is, digits, token_is, len_is) refl

plain_at_front : (ds rest : List ℕ) (n : ℕ) → 0 < length ds → all_ascii_digits ds ≡ true → digits_value ds ≡ n → Ends rest → IsCoordinate (pos n) → NumberAtFront (pos n) ds rest
plain_at_front [] rest n some all value ends on = absurd (omega arith)
plain_at_front (d ∷ ds) rest n some all value ends on =
    let alone = digit_alone d (and_true (is_ascii_digit d) (all_ascii_digits ds) all).0 in
    let letter = alone.0 in let plus = alone.1 in let minus = alone.2 in let blank = alone.3 in
    record {
      front = front_by (d ∷ (ds ++ rest)) (d ∷ (ds ++ rest)) 0 (length (d ∷ ds)) false (tokens.Number (Ok (pos n))) (rw letter refl) (rw (plus, minus) refl) minus refl
          (some_at (d ∷ ds) rest some all ends)
          (number_at false (d ∷ ds) rest all ends ∙ ap tokens.Number (rw value (coordinate_is (pos n) on)))
          (number_len_at (d ∷ ds) rest all ends)
          ∙ ap (λ len. (tokens.Number (Ok (pos n)), len)) (omega arith);
      blanks = rw blank refl;
    }

negative_at_front : (ds rest : List ℕ) (n : ℕ) → 0 < length ds → all_ascii_digits ds ≡ true → digits_value ds ≡ suc n → Ends rest → IsCoordinate (negsuc n) → NumberAtFront (negsuc n) (45 ∷ ds) rest
negative_at_front ds rest n some all value ends on =
    record {
      front = front_by (45 ∷ (ds ++ rest)) (ds ++ rest) 1 (length ds) true (tokens.Number (Ok (negsuc n))) refl refl refl refl
          (some_at ds rest some all ends)
          (number_at true ds rest all ends ∙ ap tokens.Number (rw value (coordinate_is (negsuc n) on)))
          (number_len_at ds rest all ends)
          ∙ ap (λ len. (tokens.Number (Ok (negsuc n)), len)) (omega arith);
      blanks = refl;
    }

signed_at_front : (z : ℤ) (rest : List ℕ) → IsCoordinate z → Ends rest → NumberAtFront z (signed_decimal z) rest
signed_at_front (pos n) rest on ends =
    let fits : n < 2 ^ 64 = omega (arith, ints) in
    plain_at_front (decimal n) rest n (decimal_nonempty n fits) (digits_decimal own n fits) (digits_value-decimal own n fits) ends on
signed_at_front (negsuc n) rest on ends =
    let fits : suc n < 2 ^ 64 = omega (arith, ints) in
    negative_at_front (decimal (suc n)) rest n (decimal_nonempty (suc n) fits) (digits_decimal own (suc n) fits) (digits_value-decimal own (suc n) fits) ends on

next_at : (left : Left) (blanks : ℕ) (front : Token × ℕ) → prefix_len is_blank left.bytes ≡ blanks → front_token (drop blanks left.bytes) ≡ front
    → next_token left ≡ (record { token = front.0; place = left.place + blanks; spaced = nat_lt 0 blanks }, record left { place = left.place + blanks + front.1; bytes = drop front.1 (drop blanks left.bytes) })
next_at left blanks front blanks_is front_is =
    let step : ℕ → Token × ℕ → PlacedToken × Left = λ b f. (record { token = f.0; place = left.place + b; spaced = nat_lt 0 b }, record left { place = left.place + b + f.1; bytes = drop f.1 (drop b left.bytes) }) in
    ap (λ b. step b (front_token (drop b left.bytes))) blanks_is ∙ ap (step blanks) front_is

-- where reading stands
abbrev at : ℕ → List ℕ → ℕ → Left
at place bytes points = record { place = place; bytes = bytes; points = points }

-- a blank at the front, or none
abbrev lead : Bool → List ℕ → List ℕ
lead true bytes = 32 ∷ bytes
lead false bytes = bytes

abbrev lead_len : Bool → ℕ
lead_len true = 1
lead_len false = 0

number_next : (blank : Bool) (place points : ℕ) (z : ℤ) (rest : List ℕ) → NumberAtFront z (signed_decimal z) rest
    → next_token (at place (lead blank (signed_decimal z ++ rest)) points) ≡ (record { token = tokens.Number (Ok z); place = place + lead_len blank; spaced = blank }, at (place + lead_len blank + length (signed_decimal z)) rest points)
number_next false place points z rest found = next_at (at place (signed_decimal z ++ rest) points) 0 (tokens.Number (Ok z), length (signed_decimal z)) found.blanks found.front
    ∙ ap (λ bytes. (record { token = tokens.Number (Ok z); place = place + 0; spaced = false }, at (place + 0 + length (signed_decimal z)) bytes points)) (drop-append_seam (signed_decimal z) rest)
number_next true place points z rest found =
    next_at (at place (32 ∷ (signed_decimal z ++ rest)) points) 1 (tokens.Number (Ok z), length (signed_decimal z)) (ap (λ blanks. 1 + blanks) found.blanks) found.front
    ∙ ap (λ bytes. (record { token = tokens.Number (Ok z); place = place + 1; spaced = true }, at (place + 1 + length (signed_decimal z)) bytes points)) (drop-append_seam (signed_decimal z) rest)

-- what follows a reading sees its value
after : {A B : Type 0} (f : A → Result B WktFault) (r : Result A WktFault) (x : A) → r ≡ Ok x → (r >>= f) ≡ f x
after f r x e = ap (λ q. q >>= f) e

-- reading gives a value, and this is left at some place, behind so many points
abbrev Takes : {T : Type 0} → Reads T → T → List ℕ → ℕ → Type 0
Takes reads x rest points = (place : ℕ) × (reads ≡ Ok (x, at place rest points))

-- a reading takes a value's text off the front, also behind a blank, and counts its points, whatever follows that ends a number
abbrev ReadsBack : {T : Type 0} → (Left → Reads T) → (T → List ℕ) → (T → ℕ) → (T → Type 0) → Type 0
ReadsBack {T = T} item text size good = (x : T) (blank : Bool) (rest : List ℕ) (place points : ℕ) → good x → Ends rest → points + size x ≤ points_max
    → Takes (item (at place (lead blank (text x ++ rest)) points)) x rest (points + size x)

abbrev behind_y : ℤ → ℤ × Left → Reads Coordinates
behind_y x y = counted (record { x = x; y = y.0 }) y.1

abbrev behind_x : ℤ × Left → Reads Coordinates
behind_x x = next second_coordinate x.1 >>= behind_y x.0

-- a rule after the step to its token
next_is : {T : Type 0} (rule : ℕ → Bool → Token → Result T WktFault) (left rest : Left) (t : PlacedToken) → next_token left ≡ (t, rest) → next rule left ≡ with_rest rest (rule t.place t.spaced t.token)
next_is rule left rest t step = ap (λ (s : PlacedToken × Left). with_rest s.1 (rule s.0.place s.0.spaced s.0.token)) step

room : (p : Coordinates) (place points : ℕ) (rest : List ℕ) → points + 1 ≤ points_max → counted p (at place rest points) ≡ Ok (p, at place rest (points + 1))
room p place points rest few =
    let test : nat_lt points points_max ≡ true = grind (arith, nat_tests) in
    ap (λ (b : Bool). if b then Ok (p, at place rest (points + 1)) else Err faults.TooManyVertices) test

point_back : ReadsBack point point_text one IsOnGrid
point_back p blank rest place points on ends few =
    let second : List ℕ = 32 ∷ (signed_decimal p.y ++ rest) in
    let arranged : point_text p ++ rest ≡ signed_decimal p.x ++ second = simp append_assoc refl in
    let at_x = signed_at_front p.x second on.0 (record { digits = refl; fraction = refl; whole = refl }) in
    let at_y = signed_at_front p.y rest on.1 ends in
    let place_y : ℕ = place + lead_len blank + length (signed_decimal p.x) in
    let place_end : ℕ = place_y + 1 + length (signed_decimal p.y) in (
      place_end,
      ap (λ (b : List ℕ). point (at place (lead blank b) points)) arranged
          ∙ after behind_x _ (p.x, at place_y second points) (next_is first_coordinate (at place (lead blank (signed_decimal p.x ++ second)) points) (at place_y second points) _ (number_next blank place points p.x second at_x))
          ∙ after (behind_y p.x) _ (p.y, at place_end rest points) (next_is second_coordinate (at place_y second points) (at place_end rest points) _ (number_next true place_y points p.y rest at_y))
          ∙ room p place_end points rest few,
    )

-- a rule that takes an opening bracket
abbrev Opens : (ℕ → Bool → Token → Result (Unit {0}) WktFault) → Type 0
Opens open_rule = (blank : Bool) (more : List ℕ) (place points : ℕ) → Takes (next open_rule (at place (lead blank (40 ∷ more)) points)) tt more points

opening_opens : Opens opening
opening_opens true more place points = (place + 1 + 1, refl)
opening_opens false more place points = (place + 0 + 1, refl)

first_opens : Opens first_opening
first_opens true more place points = (place + 1 + 1, refl)
first_opens false more place points = (place + 0 + 1, refl)

comma_next : (more : List ℕ) (place points : ℕ) → Takes (next separator (at place (44 ∷ more) points)) true more points
comma_next more place points = (place + 0 + 1, refl)

end_next : (more : List ℕ) (place points : ℕ) → Takes (next separator (at place (41 ∷ more) points)) false more points
end_next more place points = (place + 0 + 1, refl)

closing_next : (more : List ℕ) (place points : ℕ) → Takes (next closing (at place (41 ∷ more) points)) tt more points
closing_next more place points = (place + 0 + 1, refl)

bracket_ends : (rest : List ℕ) → Ends (41 ∷ rest)
bracket_ends rest = record { digits = refl; fraction = refl; whole = refl }

comma_ends : (rest : List ℕ) → Ends (44 ∷ rest)
comma_ends rest = record { digits = refl; fraction = refl; whole = refl }

module _ {T : Type 0} (item : Left → Reads T) (text : T → List ℕ) (size : T → ℕ) (good : T → Type 0) (back : ReadsBack item text size good) where
  -- texts with a comma and a space before each
  abbrev further : List T → List ℕ
  further xs = flat_map (λ y. codes ", " ++ text y) xs

  abbrev behind_comma : ℕ → T → Bool × Left → Reads (List T)
  behind_comma n first comma = elim comma.0 [ true ↦ onto first (items item n comma.1) | false ↦ Ok (first ∷ [], comma.1) ]

  abbrev behind_item : ℕ → T × Left → Reads (List T)
  behind_item n first = next separator first.1 >>= behind_comma n first.0

  items_back : (x : T) (xs : List T) (n : ℕ) (blank : Bool) (rest : List ℕ) (place points : ℕ) → good x → AllByRecursion good xs → length xs < n → points + (size x + total size xs) ≤ points_max
      → Takes (items item n (at place (lead blank ((text x ++ further xs) ++ 41 ∷ rest)) points)) (x ∷ xs) rest (points + (size x + total size xs))
  items_back x xs zero blank rest place points good_x all enough few = absurd (omega arith)
  items_back x [] (suc n) blank rest place points good_x all enough few =
      let first = back x blank (41 ∷ rest) place points good_x (bracket_ends rest) (omega arith) in
      let closed = end_next rest first.0 (points + size x) in
      let arranged : (text x ++ []) ++ 41 ∷ rest ≡ text x ++ 41 ∷ rest = ap (λ (t : List ℕ). t ++ 41 ∷ rest) (append-nil (text x)) in
      let sum : points + size x ≡ points + (size x + 0) = omega arith in (
        closed.0,
        ap (λ (b : List ℕ). items item (suc n) (at place (lead blank b) points)) arranged
            ∙ after (behind_item n) _ (x, at first.0 (41 ∷ rest) (points + size x)) first.1
            ∙ after (behind_comma n x) _ (false, at closed.0 rest (points + size x)) closed.1
            ∙ ap (λ (m : ℕ). Ok (x ∷ [], at closed.0 rest m)) sum,
      )
  items_back x (y ∷ ys) (suc n) blank rest place points good_x all enough few =
      let later_text : List ℕ = (text y ++ further ys) ++ 41 ∷ rest in
      let first = back x blank (44 ∷ 32 ∷ later_text) place points good_x (comma_ends (32 ∷ later_text)) (omega arith) in
      let comma = comma_next (32 ∷ later_text) first.0 (points + size x) in
      let later = items_back y ys n true rest comma.0 (points + size x) all.0 all.1 (omega arith) (omega arith) in
      let inner : (44 ∷ 32 ∷ (text y ++ further ys)) ++ 41 ∷ rest ≡ 44 ∷ 32 ∷ later_text = refl in
      let arranged : (text x ++ further (y ∷ ys)) ++ 41 ∷ rest ≡ text x ++ (44 ∷ 32 ∷ later_text) = append_assoc (text x) (further (y ∷ ys)) (41 ∷ rest) in
      let sum : points + size x + (size y + total size ys) ≡ points + (size x + (size y + total size ys)) = omega arith in (
        later.0,
        ap (λ (b : List ℕ). items item (suc n) (at place (lead blank b) points)) arranged
            ∙ after (behind_item n) _ (x, at first.0 (44 ∷ 32 ∷ later_text) (points + size x)) first.1
            ∙ after (behind_comma n x) _ (true, at comma.0 (32 ∷ later_text) (points + size x)) comma.1
            ∙ ap (onto x) later.1
            ∙ ap (λ (m : ℕ). Ok (x ∷ y ∷ ys, at later.0 rest m)) sum,
      )

  further_long : (xs : List T) → length xs ≤ length (further xs)
  further_long [] = omega arith
  further_long (x ∷ xs) =
      let later = further_long xs in
      let both = length-append (codes ", " ++ text x) (further xs) in
      omega (arith, later, both)

  abbrev behind_bracket : Unit {0} × Left → Reads (List T)
  behind_bracket opened = items item (suc (length opened.1.bytes)) opened.1

  enough_bytes : (x : T) (xs : List T) (rest : List ℕ) → length xs < suc (length ((text x ++ further xs) ++ 41 ∷ rest))
  enough_bytes x xs rest =
      let long = further_long xs in
      let outer = length-append (text x ++ further xs) (41 ∷ rest) in
      let inner = length-append (text x) (further xs) in
      omega (arith, long, outer, inner)

  pub list_back : (open_rule : ℕ → Bool → Token → Result (Unit {0}) WktFault) → Opens open_rule → ReadsBack (listed open_rule item) (list_text text) (total size) (GoodList good)
  list_back open_rule opens [] blank rest place points good_list ends few = absurd (omega (arith, good_list.0))
  list_back open_rule opens (x ∷ xs) blank rest place points good_list ends few =
      let inside : List ℕ = (text x ++ further xs) ++ 41 ∷ rest in
      let opened = opens blank inside place points in
      let found = items_back x xs (suc (length inside)) false rest opened.0 points good_list.1.0 good_list.1.1 (enough_bytes x xs rest) few in
      let arranged : list_text text (x ∷ xs) ++ rest ≡ 40 ∷ inside = ap (λ (b : List ℕ). 40 ∷ b) (append_assoc (text x ++ further xs) (41 ∷ []) rest) in (
        found.0,
        ap (λ (b : List ℕ). listed open_rule item (at place (lead blank b) points)) arranged
            ∙ after behind_bracket _ (tt, at opened.0 inside points) opened.1
            ∙ found.1,
      )

  abbrev behind_inside : T × Left → Reads T
  behind_inside inside = next closing inside.1 >>= (λ closed. Ok (inside.0, closed.1))

  abbrev behind_opened : Unit {0} × Left → Reads T
  behind_opened opened = item opened.1 >>= behind_inside

  pub bracketed_back : (open_rule : ℕ → Bool → Token → Result (Unit {0}) WktFault) → Opens open_rule → ReadsBack (bracketed open_rule item) (λ x. in_brackets (text x)) size good
  bracketed_back open_rule opens x blank rest place points good_x ends few =
      let inside : List ℕ = text x ++ 41 ∷ rest in
      let opened = opens blank inside place points in
      let found = back x false (41 ∷ rest) opened.0 points good_x (bracket_ends rest) few in
      let closed = closing_next rest found.0 (points + size x) in
      let arranged : in_brackets (text x) ++ rest ≡ 40 ∷ inside = ap (λ (b : List ℕ). 40 ∷ b) (append_assoc (text x) (41 ∷ []) rest) in (
        closed.0,
        ap (λ (b : List ℕ). bracketed open_rule item (at place (lead blank b) points)) arranged
            ∙ after behind_opened _ (tt, at opened.0 inside points) opened.1
            ∙ after behind_inside _ (x, at found.0 (41 ∷ rest) (points + size x)) found.1
            ∙ after (λ closed. Ok (x, closed.1)) _ (tt, at closed.0 rest (points + size x)) closed.1,
      )

in_item : (blank : Bool) (bytes : List ℕ) (place points : ℕ) → point_item (at place (lead blank (40 ∷ bytes)) points) ≡ bracketed opening point (at place (lead blank (40 ∷ bytes)) points)
in_item true bytes place points = refl
in_item false bytes place points = refl

item_back : ReadsBack point_item (λ p. in_brackets (point_text p)) one IsOnGrid
item_back p blank rest place points on ends few =
    let found = bracketed_back point point_text one IsOnGrid point_back opening opening_opens p blank rest place points on ends few in
    (found.0, in_item blank (point_text p ++ codes ")" ++ rest) place points ∙ found.1)

-- ---- the lists of the kinds

line_back : (open_rule : ℕ → Bool → Token → Result (Unit {0}) WktFault) → Opens open_rule → ReadsBack (listed open_rule point) (list_text point_text) (total one) GoodLine
line_back open_rule opens = list_back point point_text one IsOnGrid point_back open_rule opens

lines_back : (open_rule : ℕ → Bool → Token → Result (Unit {0}) WktFault) → Opens open_rule → ReadsBack (listed open_rule (listed opening point)) (list_text (list_text point_text)) (total (total one)) GoodLines
lines_back open_rule opens = list_back (listed opening point) (list_text point_text) (total one) GoodLine (line_back opening opening_opens) open_rule opens

polygons_back : ReadsBack (listed first_opening (listed opening (listed opening point))) (list_text (list_text (list_text point_text))) (total (total (total one))) (GoodList GoodLines)
polygons_back = list_back (listed opening (listed opening point)) (list_text (list_text point_text)) (total (total one)) GoodLines (lines_back opening opening_opens) first_opening first_opens

points_back : ReadsBack (listed first_opening point_item) (list_text (λ p. in_brackets (point_text p))) (total one) GoodLine
points_back = list_back point_item (λ p. in_brackets (point_text p)) one IsOnGrid item_back first_opening first_opens

-- ---- whole geometries

abbrev behind_body : Geometry × Left → Result Geometry WktFault
behind_body geometry = next ending geometry.1 >>= (λ ended. Ok geometry.0)

abbrev behind_keyword : Kind × Left → Result Geometry WktFault
behind_keyword kind = body kind.0 kind.1 >>= behind_body

no_text_ends : Ends []
no_text_ends = record { digits = refl; fraction = refl; whole = refl }

-- a keyword and the text of what is read after it
read_whole : {T : Type 0} (kind : Kind) (text : List ℕ) (place : ℕ) (item : Left → Reads T) (item_text : T → List ℕ) (size : T → ℕ) (good : T → Type 0) (f : T → Geometry) (x : T)
    → ReadsBack item item_text size good → ((left : Left) → body kind left ≡ made f (item left)) → next keyword (front text) ≡ Ok (kind, at place (32 ∷ item_text x) 0)
    → good x → size x ≤ points_max → read text ≡ Ok (f x)
read_whole kind text place item item_text size good f x back body_is key good_x few =
    let found = back x true [] place 0 good_x no_text_ends (omega (arith, few)) in
    after behind_keyword _ (kind, at place (32 ∷ item_text x) 0) key
    ∙ ap (λ r. r >>= behind_body) (body_is (at place (32 ∷ item_text x) 0)
    ∙ ap (λ (b : List ℕ). made f (item (at place (32 ∷ b) 0))) (sym (append-nil (item_text x)))
    ∙ ap (made f) found.1)

pub round_trip : (g : Geometry) → IsSized g → AllByRecursion IsOnGrid (points_of g) → read (canonical g) ≡ Ok g
round_trip (Point p) sized on =
    read_whole kinds.Point (canonical (Point p)) 5 (bracketed first_opening point) (λ q. in_brackets (point_text q)) one IsOnGrid Point p (bracketed_back point point_text one IsOnGrid point_back first_opening first_opens) (λ left. refl) refl on.0 (omega arith)
round_trip (LineString ps) sized on =
    let same = append-nil ps in
    let few : total one ps ≤ points_max = let count = total_line ps in let lengths = ap length same in omega (arith, count, lengths, sized.few) in
    read_whole kinds.LineString (canonical (LineString ps)) 10 (listed first_opening point) (list_text point_text) (total one) GoodLine LineString ps (line_back first_opening first_opens) (λ left. refl) refl
    (good_line ps sized.filled (subst (AllByRecursion IsOnGrid) same on)) few
round_trip (Polygon rs) sized on =
    let few : total (total one) rs ≤ points_max = let count = total_lines rs in omega (arith, count, sized.few) in
    read_whole kinds.Polygon (canonical (Polygon rs)) 7 (listed first_opening (listed opening point)) (list_text (list_text point_text)) (total (total one)) GoodLines Polygon rs (lines_back first_opening first_opens) (λ left. refl) refl
    (good_lines rs sized.filled on) few
round_trip (MultiPoint ps) sized on =
    let same = append-nil ps in
    let few : total one ps ≤ points_max = let count = total_line ps in let lengths = ap length same in omega (arith, count, lengths, sized.few) in
    read_whole kinds.MultiPoint (canonical (MultiPoint ps)) 10 (listed first_opening point_item) (list_text (λ q. in_brackets (point_text q))) (total one) GoodLine MultiPoint ps points_back (λ left. refl) refl
    (good_line ps sized.filled (subst (AllByRecursion IsOnGrid) same on)) few
round_trip (MultiLineString lines) sized on =
    let few : total (total one) lines ≤ points_max = let count = total_lines lines in omega (arith, count, sized.few) in
    read_whole kinds.MultiLineString (canonical (MultiLineString lines)) 15 (listed first_opening (listed opening point)) (list_text (list_text point_text)) (total (total one)) GoodLines MultiLineString lines (lines_back first_opening first_opens) (λ left. refl) refl
    (good_lines lines sized.filled on) few
round_trip (MultiPolygon polygons) sized on =
    let few : total (total (total one)) polygons ≤ points_max = let count = total_polygons polygons in omega (arith, count, sized.few) in
    read_whole kinds.MultiPolygon (canonical (MultiPolygon polygons)) 12 (listed first_opening (listed opening (listed opening point))) (list_text (list_text (list_text point_text))) (total (total (total one))) (GoodList GoodLines) MultiPolygon polygons polygons_back (λ left. refl) refl
    (good_polygons polygons sized.filled on) few
