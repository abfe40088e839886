-- The rings of polygons by part and number.
use Rattle.std.proofs.Common.{◌≡◌, refl, ap, sym, ◌∙◌, subst, ℕ, zero, suc, ◌+◌, ◌<◌, arith, List, [], ◌∷◌, ◌++◌, append_assoc, length, map, slice_index_or, get_or, take, ◌≤◌}
use Rattle.std.specs.Prelude.{Option, Some, IsSome, option_and_then, slice_get}
use Rattle.std.specs.List.{AllByRecursion, enumerate_from, flat_map}
use Rattle.std.proofs.lemmas.List.{get_or-map, get_or_default, length-map, length-append, take_all, take_more}
use Rattle.std.proofs.lemmas.List.FromFn.{get_or-enumerate_from, length-enumerate_from}
use Rattle.sf_slabs.proofs.ColumnLaws.{map-flat_map}
use Rattle.sf_slabs.proofs.CallerLemmas.{each-append, each-map}
use Rattle.sf_valid_rules.proofs.MemberLaws.{each-to_map}
use Rattle.sf_grid.specs.Plane.{Coordinates}
use Rattle.sf_faults.specs.declared.place.Place.{Place}
use Rattle.sf_faults.specs.declared.place.Spot.{Spot}
use Rattle.sf_faults.specs.Candidates.{Candidate}
use Rattle.sf_faults.specs.Places.{IsFirstPlace, NoneIsAtFault}
use Rattle.sf_faults.proofs.PlaceLaws.{first-member, flat-more, none-all, none-member, numbered-at, numbered-end, numbered-length}
use Rattle.sf_faults.specs.Orders.{numbered, placed_from, placed_in, placed_rings, ring_of, spot, spots}

-- each member of a list with its number is found there
slice-behind : {X : Type 0} (front : List X) (x : X) (xs : List X) → slice_get (front ++ x ∷ xs) (length front) ≡ Some x
slice-behind [] x xs = refl
slice-behind (y ∷ front) x xs = slice-behind front x xs

each-found : {X : Type 0} (front xs : List X) (n : ℕ) → length front ≡ n → AllByRecursion (λ (e : ℕ × X). slice_get (front ++ xs) e.0 ≡ Some e.1) (enumerate_from n xs)
each-found front [] n h = tt
each-found {X} front (x ∷ xs) n h = (
  ap (slice_get (front ++ x ∷ xs)) (sym h) ∙ slice-behind front x xs,
  subst (λ ys. AllByRecursion (λ (e : ℕ × X). slice_get ys e.0 ≡ Some e.1) (enumerate_from (n + 1) xs)) (append_assoc front (x ∷ []) xs)
      (each-found (front ++ x ∷ []) xs (n + 1) (length-append front (x ∷ []) ∙ ap (λ k. k + 1) h)),
)

-- a ring is that of its part and number
abbrev pub IsThere : List (List (List Coordinates)) → Spot × List Coordinates → Type 0
IsThere polygons r = ring_of polygons r.0 ≡ Some r.1

there-in : (polygons : List (List (List Coordinates))) (n : ℕ) (rings : List (List Coordinates)) → slice_get polygons n ≡ Some rings →
    AllByRecursion (IsThere polygons) (placed_in n rings)
there-in polygons n rings h =
    each-to_map (IsThere polygons) (λ (ring : ℕ × List Coordinates). (spot n ring.0, ring.1)) (numbered rings)
    (each-map (λ (e : ℕ × List Coordinates). slice_get rings e.0 ≡ Some e.1) (λ e. IsThere polygons (spot n e.0, e.1)) (numbered rings)
    (λ e k. ap (option_and_then (λ rs. slice_get rs e.0)) h ∙ k)
    (each-found [] rings 0 refl))

there-from : (front polygons : List (List (List Coordinates))) (n : ℕ) → length front ≡ n → AllByRecursion (IsThere (front ++ polygons)) (placed_from n polygons)
there-from front [] n h = tt
there-from front (rings ∷ polygons) n h =
    each-append (IsThere (front ++ rings ∷ polygons)) (placed_in n rings) (placed_from (n + 1) polygons)
    (there-in (front ++ rings ∷ polygons) n rings (ap (slice_get (front ++ rings ∷ polygons)) (sym h) ∙ slice-behind front rings polygons))
    (subst (λ ps. AllByRecursion (IsThere ps) (placed_from (n + 1) polygons)) (append_assoc front (rings ∷ []) polygons)
    (there-from (front ++ rings ∷ []) polygons (n + 1) (length-append front (rings ∷ []) ∙ ap (λ k. k + 1) h)))

-- the one at an index
each-get : {X : Type 0} (P : X → Type 0) (xs : List X) (i : ℕ) (d : X) → AllByRecursion P xs → i < length xs → P (get_or xs i d)
each-get P [] i d h l = absurd (omega (arith, l))
each-get P (x ∷ xs) zero d h l = h.0
each-get P (x ∷ xs) (suc i) d h l = each-get P xs i d h.1 (omega (arith, l))

abbrev pub any_spot : Spot
any_spot = spot 0 0

-- the ring that is read at an index of all rings
abbrev pub ring_read : List (List (List Coordinates)) → ℕ → Spot × List Coordinates
ring_read polygons i = slice_index_or (placed_rings polygons) i (any_spot, [])

pub read-there : (polygons : List (List (List Coordinates))) (i : ℕ) → i < length (spots polygons) → IsThere polygons (ring_read polygons i)
read-there polygons i l =
    each-get (IsThere polygons) (placed_rings polygons) i (any_spot, []) (there-from [] polygons 0 refl) (subst (λ n. i < n) (length-map (placed_rings polygons) (λ (r : Spot × List Coordinates). r.0)) l)

pub read-index : (polygons : List (List (List Coordinates))) (i : ℕ) → i < length (spots polygons) → i < length (placed_rings polygons)
read-index polygons i l = subst (λ n. i < n) (length-map (placed_rings polygons) (λ (r : Spot × List Coordinates). r.0)) l

-- the part and number that are read at an index
pub read-spot : (polygons : List (List (List Coordinates))) (rings : List Spot) (i : ℕ) → rings ≡ spots polygons → i < length rings →
    slice_index_or rings i any_spot ≡ (ring_read polygons i).0
read-spot polygons rings i e l =
    ap (λ rs. slice_index_or rs i any_spot) e
    ∙ get_or-map (λ (r : Spot × List Coordinates). r.0) (placed_rings polygons) i (any_spot, []) any_spot (read-index polygons i (subst (λ rs. i < length rs) e l))

-- so there is a ring of that part and number, and its points are those that are read
some-from : {X : Type 0} (o : Option X) (x : X) → o ≡ Some x → IsSome o
some-from o x h = subst IsSome (sym h) refl

pub read-is_there : (polygons : List (List (List Coordinates))) (rings : List Spot) (i : ℕ) → rings ≡ spots polygons → i < length rings →
    IsSome (ring_of polygons (slice_index_or rings i any_spot))
read-is_there polygons rings i e l =
    some-from (ring_of polygons (slice_index_or rings i any_spot)) (ring_read polygons i).1
    (ap (ring_of polygons) (read-spot polygons rings i e l) ∙ read-there polygons i (subst (λ rs. i < length rs) e l))

some-same : {X : Type 0} (x y : X) → Some x ≡ Some y → x ≡ y
some-same x y h = cc

pub read-points : (polygons : List (List (List Coordinates))) (rings : List Spot) (i : ℕ) (points : List Coordinates) → rings ≡ spots polygons → i < length rings →
    ring_of polygons (slice_index_or rings i any_spot) ≡ Some points → (slice_index_or rings i any_spot, points) ≡ ring_read polygons i
read-points polygons rings i points e l p =
    let first = read-spot polygons rings i e l in
    let second : points ≡ (ring_read polygons i).1 =
    some-same points (ring_read polygons i).1 (sym p ∙ ap (ring_of polygons) first ∙ read-there polygons i (subst (λ rs. i < length rs) e l)) in
    ap (λ (a : Spot). (a, points)) first ∙ ap (λ (ps : List Coordinates). ((ring_read polygons i).0, ps)) second

-- what is read at an index, as members are read
pub read-member : (polygons : List (List (List Coordinates))) (rings : List Spot) (i : ℕ) (r : Spot × List Coordinates) → rings ≡ spots polygons → i < length rings → r ≡ ring_read polygons i →
    r ≡ slice_index_or (placed_rings polygons) i r
read-member polygons rings i r e l h = h ∙ get_or_default (placed_rings polygons) i (any_spot, []) r (read-index polygons i (subst (λ rs. i < length rs) e l))

pub read-within : (polygons : List (List (List Coordinates))) (rings : List Spot) (i : ℕ) → rings ≡ spots polygons → i < length rings → i < length (placed_rings polygons)
read-within polygons rings i e l = read-index polygons i (subst (λ rs. i < length rs) e l)

pub read-end : (polygons : List (List (List Coordinates))) (rings : List Spot) (i : ℕ) → rings ≡ spots polygons → length rings ≤ i → length (placed_rings polygons) ≤ i
read-end polygons rings i e l = subst (λ n. n ≤ i) (ap length e ∙ length-map (placed_rings polygons) (λ (r : Spot × List Coordinates). r.0)) l

-- ---- candidates of each ring
pub ring-first : (f : Spot × List Coordinates → List Candidate) (polygons : List (List (List Coordinates))) (rings : List Spot) (i : ℕ) (points : List Coordinates) (place : Place) →
    rings ≡ spots polygons → i < length rings → ring_of polygons (slice_index_or rings i any_spot) ≡ Some points → NoneIsAtFault (flat_map f (take i (placed_rings polygons))) →
    IsFirstPlace (f (slice_index_or rings i any_spot, points)) place → IsFirstPlace (flat_map f (placed_rings polygons)) place
ring-first f polygons rings i points place e l p n h =
    let r : Spot × List Coordinates = (slice_index_or rings i any_spot, points) in
    first-member f (placed_rings polygons) i r place (read-within polygons rings i e l) (read-member polygons rings i r e l (read-points polygons rings i points e l p)) n h

pub ring-none : (f : Spot × List Coordinates → List Candidate) (polygons : List (List (List Coordinates))) (rings : List Spot) (i : ℕ) (points : List Coordinates) →
    rings ≡ spots polygons → i < length rings → ring_of polygons (slice_index_or rings i any_spot) ≡ Some points → NoneIsAtFault (flat_map f (take i (placed_rings polygons))) →
    NoneIsAtFault (f (slice_index_or rings i any_spot, points)) → NoneIsAtFault (flat_map f (take (i + 1) (placed_rings polygons)))
ring-none f polygons rings i points e l p n h =
    let r : Spot × List Coordinates = (slice_index_or rings i any_spot, points) in
    none-member f (placed_rings polygons) i r (read-within polygons rings i e l) (read-member polygons rings i r e l (read-points polygons rings i points e l p)) n h

pub ring-end : (f : Spot × List Coordinates → List Candidate) (polygons : List (List (List Coordinates))) (rings : List Spot) (i : ℕ) → rings ≡ spots polygons → length rings ≤ i →
    NoneIsAtFault (flat_map f (take i (placed_rings polygons))) → NoneIsAtFault (flat_map f (placed_rings polygons))
ring-end f polygons rings i e l n = none-all f (placed_rings polygons) i (read-end polygons rings i e l) n

-- ---- the parts and numbers, as they are pushed
pub spots-of_part : (n : ℕ) (rings : List (List Coordinates)) (i : ℕ) → i < length rings →
    take (i + 1) (map (λ (r : Spot × List Coordinates). r.0) (placed_in n rings)) ≡ take i (map (λ (r : Spot × List Coordinates). r.0) (placed_in n rings)) ++ spot n i ∷ []
spots-of_part n rings i l =
    let all = map (λ (r : Spot × List Coordinates). r.0) (placed_in n rings) in
    let same : length all ≡ length rings =
    length-map (placed_in n rings) (λ (r : Spot × List Coordinates). r.0) ∙ length-map (numbered rings) (λ (ring : ℕ × List Coordinates). (spot n ring.0, ring.1)) ∙ length-enumerate_from 0 rings in
    let none : 0 + i ≡ i = omega arith in
    let in_numbered : i < length (numbered rings) = subst (λ k. i < k) (sym (length-enumerate_from 0 rings)) l in
    let at : slice_index_or all i any_spot ≡ spot n i =
    get_or-map (λ (r : Spot × List Coordinates). r.0) (placed_in n rings) i (any_spot, []) any_spot (subst (λ k. i < k) (sym (length-map (numbered rings) (λ (ring : ℕ × List Coordinates). (spot n ring.0, ring.1)))) in_numbered)
    ∙ ap (λ (r : Spot × List Coordinates). r.0) (get_or-map (λ (ring : ℕ × List Coordinates). (spot n ring.0, ring.1)) (numbered rings) i (0, []) (any_spot, []) in_numbered)
    ∙ ap (λ (ring : ℕ × List Coordinates). spot n ring.0) (get_or-enumerate_from 0 rings i (0, []) l)
    ∙ ap (spot n) none in
    take_more all i any_spot (subst (λ k. i < k) (sym same) l) ∙ ap (λ z. take i all ++ z ∷ []) at

pub spots-part_end : (n : ℕ) (rings : List (List Coordinates)) (i : ℕ) → length rings ≤ i →
    take i (map (λ (r : Spot × List Coordinates). r.0) (placed_in n rings)) ≡ map (λ (r : Spot × List Coordinates). r.0) (placed_in n rings)
spots-part_end n rings i l =
    take_all i (map (λ (r : Spot × List Coordinates). r.0) (placed_in n rings))
    (subst (λ k. k ≤ i)
    (sym (length-map (placed_in n rings) (λ (r : Spot × List Coordinates). r.0) ∙ length-map (numbered rings) (λ (ring : ℕ × List Coordinates). (spot n ring.0, ring.1)) ∙ length-enumerate_from 0 rings)) l)

abbrev pub part_spots : ℕ × List (List Coordinates) → List Spot
part_spots part = map (λ (r : Spot × List Coordinates). r.0) (placed_in part.0 part.1)

pub spots-by_part : (polygons : List (List (List Coordinates))) → flat_map part_spots (numbered polygons) ≡ spots polygons
spots-by_part polygons =
    sym (map-flat_map (λ (r : Spot × List Coordinates). r.0) (λ (part : ℕ × List (List Coordinates)). placed_in part.0 part.1) (numbered polygons))

pub spots-more : (polygons : List (List (List Coordinates))) (i : ℕ) (rings read : List (List Coordinates)) → i < length polygons → read ≡ slice_index_or polygons i read → rings ≡ read →
    flat_map part_spots (take (i + 1) (numbered polygons)) ≡ flat_map part_spots (take i (numbered polygons)) ++ part_spots (i, rings)
spots-more polygons i rings read l h e =
    flat-more part_spots (numbered polygons) i (i, rings) (numbered-length polygons i l) (numbered-at polygons i rings read l h e)

pub spots-end : (polygons : List (List (List Coordinates))) (i : ℕ) → length polygons ≤ i → flat_map part_spots (take i (numbered polygons)) ≡ spots polygons
spots-end polygons i l = ap (flat_map part_spots) (take_all i (numbered polygons) (numbered-end polygons i l)) ∙ spots-by_part polygons

pub read-ring : (polygons : List (List (List Coordinates))) (rings : List Spot) (i : ℕ) → rings ≡ spots polygons → i < length rings →
    ring_of polygons (slice_index_or rings i any_spot) ≡ Some (ring_read polygons i).1
read-ring polygons rings i e l = ap (ring_of polygons) (read-spot polygons rings i e l) ∙ read-there polygons i (subst (λ rs. i < length rs) e l)
