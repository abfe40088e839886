-- Polygons of which one ring's stretch was exchanged in a box that all others are off: what rules on the whole said is kept.
use Rattle.std.proofs.Common.{◌≡◌, refl, ap, sym, ◌∙◌, Bool, true, false, ◌&&◌, ◌||◌, not, List, [], ◌∷◌, ◌++◌, ⊎_elim}
use Rattle.std.specs.List.{AllByRecursion, list_any}
use Rattle.std.proofs.lemmas.Bool.{and_parts, both_ways, or_cases, or_left, or_right}
use Rattle.sf_grid.specs.Plane.{Coordinates, IsPoint, Point, grid_point}
use Rattle.sf_geometry.specs.Lists.{edges_of}
use Rattle.sf_geometry.specs.Parts.{joined}
use Rattle.sf_geometry.specs.PointSets.{in_polygon, in_ring, on_line, within_ring}
use Rattle.sf_plane.specs.Boxes.{Box, in_box}
use Rattle.std.proofs.lemmas.List.{append_assoc}
use Rattle.sf_slabs.proofs.CallerLemmas.{each-map}
use Rattle.sf_slabs.proofs.EachLaws.{each-append}
use Rattle.sf_valid_rules.specs.Conditions.{Applies, AtPoint, AtTwoPoints, any_two}
use Rattle.sf_valid_rules.specs.Shapes.{in_hole_outside, in_two_holes, in_two_polygons, share_piece}
use Rattle.sf_interiors.proofs.RingLaws.{ring-chain}
use Rattle.sf_interiors.proofs.SlantLaws.{is_grid}
use Rattle.sf_ring_stretches.specs.Exchange.{IsExchanged}
use Rattle.sf_ring_stretches.specs.Kept.{IsBeside, IsOff, IsPolygonBeside, OneIsExchanged, PolygonsAreKept, Shell, Hole}
use Rattle.sf_ring_stretches.proofs.ExchangeLaws.{off-line, other_rings_are_one_sided, rings_agree_outside, shares_are_kept}

-- ---- lists of which one member was exchanged

any-exchanged : {X : Type 0} (t u : X → Bool) (front back : List X) (r s : X) → AllByRecursion (λ x. u x ≡ true → t x ≡ true) front → AllByRecursion (λ x. u x ≡ true → t x ≡ true) back
    → (u s ≡ true → t r ≡ true) → list_any u (front ++ s ∷ back) ≡ true → list_any t (front ++ r ∷ back) ≡ true
any-exchanged t u [] back r s f b one any =
    ⊎_elim (λ here. or_left (t r) (list_any t back) (one here)) (λ later. or_right (t r) (list_any t back) (all back b later)) (or_cases (u s) (list_any u back) any)
  where
    all : (xs : List _) → AllByRecursion (λ x. u x ≡ true → t x ≡ true) xs → list_any u xs ≡ true → list_any t xs ≡ true
    all [] h k = k
    all (x ∷ xs) h k = ⊎_elim (λ here. or_left (t x) (list_any t xs) (h.0 here)) (λ later. or_right (t x) (list_any t xs) (all xs h.1 later)) (or_cases (u x) (list_any u xs) k)
any-exchanged t u (x ∷ front) back r s f b one any =
    ⊎_elim (λ here. or_left (t x) (list_any t (front ++ r ∷ back)) (f.0 here))
    (λ later. or_right (t x) (list_any t (front ++ r ∷ back)) (any-exchanged t u front back r s f.1 b one later))
    (or_cases (u x) (list_any u (front ++ s ∷ back)) any)

any-follows-each : {X : Type 0} (t u : X → Bool) (xs : List X) → AllByRecursion (λ x. u x ≡ true → t x ≡ true) xs → list_any u xs ≡ true → list_any t xs ≡ true
any-follows-each t u [] h k = k
any-follows-each t u (x ∷ xs) h k =
    ⊎_elim (λ here. or_left (t x) (list_any t xs) (h.0 here)) (λ later. or_right (t x) (list_any t xs) (any-follows-each t u xs h.1 later)) (or_cases (u x) (list_any u xs) k)

each-same : {X : Type 0} (t : X → Bool) (xs : List X) → AllByRecursion (λ x. t x ≡ true → t x ≡ true) xs
each-same t [] = tt
each-same t (x ∷ xs) = (λ h. h, each-same t xs)

two-exchanged : {X : Type 0} (t : X → X → Bool) (front back : List X) (r s : X) → AllByRecursion (λ x. t x s ≡ true → t x r ≡ true) front → AllByRecursion (λ x. t s x ≡ true → t r x ≡ true) back
    → any_two t (front ++ s ∷ back) ≡ true → any_two t (front ++ r ∷ back) ≡ true
two-exchanged t [] back r s f b any =
    ⊎_elim (λ here. or_left (list_any (t r) back) (any_two t back) (any-follows-each (t r) (t s) back b here))
    (λ later. or_right (list_any (t r) back) (any_two t back) later)
    (or_cases (list_any (t s) back) (any_two t back) any)
two-exchanged t (x ∷ front) back r s f b any =
    ⊎_elim
    (λ here. or_left (list_any (t x) (front ++ r ∷ back)) (any_two t (front ++ r ∷ back)) (any-exchanged (t x) (t x) front back r s (each-same (t x) front) (each-same (t x) back) f.0 here))
    (λ later. or_right (list_any (t x) (front ++ r ∷ back)) (any_two t (front ++ r ∷ back)) (two-exchanged t front back r s f.1 b later))
    (or_cases (list_any (t x) (front ++ s ∷ back)) (any_two t (front ++ s ∷ back)) any)

-- ---- rings off the box, at its points
off-same : (box : Box) (at : Coordinates) (ring : List Coordinates) (p : Point) → IsOff box ring → IsPoint p → in_box box p ≡ true → in_box box (grid_point at) ≡ true
    → in_ring ring p ≡ in_ring ring (grid_point at)
off-same box at ring p off i inside has = other_rings_are_one_sided box ring p (grid_point at) (ring-chain ring off.0) off.1 i (is_grid at) inside has

beside-none : (box : Box) (at : Coordinates) (ring : List Coordinates) (p : Point) → IsBeside box at ring → IsPoint p → in_box box p ≡ true → in_box box (grid_point at) ≡ true → in_ring ring p ≡ false
beside-none box at ring p beside i inside has = off-same box at ring p beside.0 i inside has ∙ beside.1

beside-not-within : (box : Box) (at : Coordinates) (ring : List Coordinates) (p : Point) → IsBeside box at ring → IsPoint p → in_box box p ≡ true → in_box box (grid_point at) ≡ true
    → within_ring ring p ≡ false
beside-not-within box at ring p beside i inside has =
    ap (λ b. b || in_ring ring p) (off-line box (edges_of ring) p beside.0.1 i inside) ∙ beside-none box at ring p beside i inside has

by_box : {P : Type 0} (b : Bool) → (b ≡ true → P) → (b ≡ false → P) → P
by_box true inner outer = inner refl
by_box false inner outer = outer refl

-- ---- the lists of rings, with the exchanged one between others that are off
record Parts (box : Box) (was is : List (List Coordinates)) : Type 0 where
  r : List Coordinates
  s : List Coordinates
  left : List (List Coordinates)
  right : List (List Coordinates)
  exchanged : IsExchanged box r s
  was_parts : was ≡ left ++ r ∷ right
  is_parts : is ≡ left ++ s ∷ right
  left_off : AllByRecursion (IsOff box) left
  right_off : AllByRecursion (IsOff box) right

beside-off : (box : Box) (at : Coordinates) (rings : List (List Coordinates)) → AllByRecursion (IsBeside box at) rings → AllByRecursion (IsOff box) rings
beside-off box at rings beside = each-map (IsBeside box at) (IsOff box) rings (λ ring h. h.0) beside

parts-of : (box : Box) (at : Coordinates) (was is : List (List Coordinates)) → OneIsExchanged box at was is → Parts box was is
parts-of box at was is (Shell r s holes x beside) =
    record { r = r; s = s; left = []; right = holes; exchanged = x; was_parts = refl; is_parts = refl; left_off = tt; right_off = beside-off box at holes beside }
parts-of box at was is (Hole shell r s front back x off has before after) = record {
  r = r;
  s = s;
  left = shell ∷ front;
  right = back;
  exchanged = x;
  was_parts = refl;
  is_parts = refl;
  left_off = (off, beside-off box at front before);
  right_off = beside-off box at back after;
}

-- ---- pieces that rings share
joined-parts : (front : List (List (List Coordinates))) (left right : List (List Coordinates)) (ring : List Coordinates) (back : List (List (List Coordinates)))
    → joined (front ++ (left ++ ring ∷ right) ∷ back) ≡ (joined front ++ left) ++ ring ∷ (right ++ joined back)
joined-parts [] left right ring back = append_assoc left (ring ∷ right) (joined back)
joined-parts (rings ∷ front) left right ring back =
    ap (λ rs. rings ++ rs) (joined-parts front left right ring back)
    ∙ sym (append_assoc rings (joined front ++ left) (ring ∷ (right ++ joined back)))
    ∙ ap (λ rs. rs ++ ring ∷ (right ++ joined back)) (sym (append_assoc rings (joined front) left))

each-joined : (P : List Coordinates → Type 0) (polygons : List (List (List Coordinates))) → AllByRecursion (λ rings. AllByRecursion P rings) polygons → AllByRecursion P (joined polygons)
each-joined P [] h = tt
each-joined P (rings ∷ polygons) h = each-append P rings (joined polygons) h.0 (each-joined P polygons h.1)

pieces-kept : (box : Box) (front back : List (List (List Coordinates))) (was is : List (List Coordinates)) (p q : Point) → Parts box was is
    → AllByRecursion (λ rings. AllByRecursion (IsOff box) rings) front → AllByRecursion (λ rings. AllByRecursion (IsOff box) rings) back → IsPoint p
    → any_two (λ a b. share_piece a b p q) (joined (front ++ is ∷ back)) ≡ true → any_two (λ a b. share_piece a b p q) (joined (front ++ was ∷ back)) ≡ true
pieces-kept box front back was is p q x f b i any =
    let share = λ (a b : List Coordinates). share_piece a b p q in
    let before = each-append (IsOff box) (joined front) x.left (each-joined (IsOff box) front f) x.left_off in
    let after = each-append (IsOff box) x.right (joined back) x.right_off (each-joined (IsOff box) back b) in
    ap (λ rs. any_two share (joined (front ++ rs ∷ back))) x.was_parts
    ∙ ap (any_two share) (joined-parts front x.left x.right x.r back)
    ∙ two-exchanged share (joined front ++ x.left) (x.right ++ joined back) x.r x.s
    (each-map (IsOff box) (λ o. share o x.s ≡ true → share o x.r ≡ true) (joined front ++ x.left) (λ o off h. (shares_are_kept box x.r x.s o p q x.exchanged off.1 i).1 ∙ h) before)
    (each-map (IsOff box) (λ o. share x.s o ≡ true → share x.r o ≡ true) (x.right ++ joined back) (λ o off h. (shares_are_kept box x.r x.s o p q x.exchanged off.1 i).0 ∙ h) after)
    (sym (ap (λ rs. any_two share (joined (front ++ rs ∷ back))) x.is_parts ∙ ap (any_two share) (joined-parts front x.left x.right x.s back)) ∙ any)

-- ---- holes outside of shells
none-within : (box : Box) (at : Coordinates) (holes : List (List Coordinates)) (p : Point) → AllByRecursion (IsBeside box at) holes → IsPoint p → in_box box p ≡ true → in_box box (grid_point at) ≡ true
    → list_any (λ hole. within_ring hole p) holes ≡ false
none-within box at [] p beside i inside has = refl
none-within box at (hole ∷ holes) p beside i inside has =
    ap (λ b. b || list_any (λ h. within_ring h p) holes) (beside-not-within box at hole p beside.0 i inside has) ∙ none-within box at holes p beside.1 i inside has

any-equal : {X : Type 0} (t : X → Bool) (front back : List X) (r s : X) → t s ≡ t r → list_any t (front ++ s ∷ back) ≡ list_any t (front ++ r ∷ back)
any-equal t [] back r s same = ap (λ b. b || list_any t back) same
any-equal t (x ∷ front) back r s same = ap (λ b. t x || b) (any-equal t front back r s same)

outside-kept : (box : Box) (at : Coordinates) (was is : List (List Coordinates)) (p : Point) → in_box box (grid_point at) ≡ true → OneIsExchanged box at was is → IsPoint p
    → in_hole_outside is p ≡ true → in_hole_outside was p ≡ true
outside-kept box at was is p has (Shell r s holes x beside) i found =
    by_box (in_box box p)
    (λ inner. absurd (both_ways (list_any (λ hole. within_ring hole p) holes) (none-within box at holes p beside i inner has) (and_parts (list_any (λ hole. within_ring hole p) holes) (not (within_ring s p)) found).0))
    (λ outer. ap (λ b. list_any (λ hole. within_ring hole p) holes && not b) (rings_agree_outside box r s p x i outer).2 ∙ found)
outside-kept box at was is p has (Hole shell r s front back x off shell_has before after) i found =
    by_box (in_box box p)
    (λ inner.
    let within : within_ring shell p ≡ true = or_right (on_line shell p) (in_ring shell p) (off-same box at shell p off i inner has ∙ shell_has) in
    absurd (both_ways (not (within_ring shell p)) (ap not within) (and_parts (list_any (λ hole. within_ring hole p) (front ++ s ∷ back)) (not (within_ring shell p)) found).1))
    (λ outer.
    ap (λ b. b && not (within_ring shell p)) (sym (any-equal (λ hole. within_ring hole p) front back r s (sym (rings_agree_outside box r s p x i outer).2))) ∙ found)

-- ---- points inside of two holes
nested-kept : (box : Box) (at : Coordinates) (was is : List (List Coordinates)) (p : Point) → in_box box (grid_point at) ≡ true → OneIsExchanged box at was is → IsPoint p
    → in_two_holes is p ≡ true → in_two_holes was p ≡ true
nested-kept box at was is p has (Shell r s holes x beside) i found = found
nested-kept box at was is p has (Hole shell r s front back x off shell_has before after) i found =
    two-exchanged (λ hole other. in_ring hole p && in_ring other p) front back r s
    (each-map (IsBeside box at) (λ o. (in_ring o p && in_ring s p) ≡ true → (in_ring o p && in_ring r p) ≡ true) front
    (λ o beside h.
    by_box (in_box box p) (λ inner. absurd (both_ways (in_ring o p) (beside-none box at o p beside i inner has) (and_parts (in_ring o p) (in_ring s p) h).0))
    (λ outer. ap (λ b. in_ring o p && b) (rings_agree_outside box r s p x i outer).1 ∙ h)) before)
    (each-map (IsBeside box at) (λ o. (in_ring s p && in_ring o p) ≡ true → (in_ring r p && in_ring o p) ≡ true) back
    (λ o beside h.
    by_box (in_box box p) (λ inner. absurd (both_ways (in_ring o p) (beside-none box at o p beside i inner has) (and_parts (in_ring s p) (in_ring o p) h).1))
    (λ outer. ap (λ b. b && in_ring o p) (rings_agree_outside box r s p x i outer).1 ∙ h)) after)
    found

-- ---- points inside of two polygons
off-within : (box : Box) (at : Coordinates) (holes : List (List Coordinates)) (p : Point) → AllByRecursion (IsOff box) holes → IsPoint p → in_box box p ≡ true → in_box box (grid_point at) ≡ true
    → list_any (λ hole. within_ring hole p) holes ≡ list_any (λ hole. within_ring hole (grid_point at)) holes
off-within box at [] p off i inside has = refl
off-within box at (hole ∷ holes) p off i inside has =
    ap (λ b. (b || in_ring hole p) || list_any (λ h. within_ring h p) holes) (off-line box (edges_of hole) p off.0.1 i inside)
    ∙ ap (λ b. b || list_any (λ h. within_ring h p) holes) (off-same box at hole p off.0 i inside has)
    ∙ ap (λ b. in_ring hole (grid_point at) || b) (off-within box at holes p off.1 i inside has)
    ∙ sym (ap (λ b. (b || in_ring hole (grid_point at)) || list_any (λ h. within_ring h (grid_point at)) holes) (off-line box (edges_of hole) (grid_point at) off.0.1 (is_grid at) has))

polygon-none : (box : Box) (at : Coordinates) (rings : List (List Coordinates)) (p : Point) → IsPolygonBeside box at rings → IsPoint p → in_box box p ≡ true → in_box box (grid_point at) ≡ true
    → in_polygon rings p ≡ false
polygon-none box at [] p beside i inside has = refl
polygon-none box at (shell ∷ holes) p beside i inside has =
    ap (λ b. b && not (list_any (λ hole. within_ring hole p) holes)) (off-same box at shell p beside.0.0 i inside has)
    ∙ ap (λ b. in_ring shell (grid_point at) && not b) (off-within box at holes p beside.0.1 i inside has)
    ∙ beside.1

polygon-agrees : (box : Box) (at : Coordinates) (was is : List (List Coordinates)) (p : Point) → OneIsExchanged box at was is → IsPoint p → in_box box p ≡ false → in_polygon was p ≡ in_polygon is p
polygon-agrees box at was is p (Shell r s holes x beside) i outer = ap (λ b. b && not (list_any (λ hole. within_ring hole p) holes)) (rings_agree_outside box r s p x i outer).1
polygon-agrees box at was is p (Hole shell r s front back x off shell_has before after) i outer =
    ap (λ b. in_ring shell p && not b) (sym (any-equal (λ hole. within_ring hole p) front back r s (sym (rings_agree_outside box r s p x i outer).2)))

overlap-kept : (box : Box) (at : Coordinates) (front back : List (List (List Coordinates))) (was is : List (List Coordinates)) (p : Point) → in_box box (grid_point at) ≡ true
    → OneIsExchanged box at was is → AllByRecursion (IsPolygonBeside box at) front → AllByRecursion (IsPolygonBeside box at) back → IsPoint p
    → in_two_polygons (front ++ is ∷ back) p ≡ true → in_two_polygons (front ++ was ∷ back) p ≡ true
overlap-kept box at front back was is p has x f b i found =
    two-exchanged (λ rings others. in_polygon rings p && in_polygon others p) front back was is
    (each-map (IsPolygonBeside box at) (λ o. (in_polygon o p && in_polygon is p) ≡ true → (in_polygon o p && in_polygon was p) ≡ true) front
    (λ o beside h.
    by_box (in_box box p) (λ inner. absurd (both_ways (in_polygon o p) (polygon-none box at o p beside i inner has) (and_parts (in_polygon o p) (in_polygon is p) h).0))
    (λ outer. ap (λ c. in_polygon o p && c) (polygon-agrees box at was is p x i outer) ∙ h)) f)
    (each-map (IsPolygonBeside box at) (λ o. (in_polygon is p && in_polygon o p) ≡ true → (in_polygon was p && in_polygon o p) ≡ true) back
    (λ o beside h.
    by_box (in_box box p) (λ inner. absurd (both_ways (in_polygon o p) (polygon-none box at o p beside i inner has) (and_parts (in_polygon is p) (in_polygon o p) h).1))
    (λ outer. ap (λ c. c && in_polygon o p) (polygon-agrees box at was is p x i outer) ∙ h)) b)
    found

-- ---- all rules on the whole
pub polygons_are_kept : PolygonsAreKept
polygons_are_kept box at front back was is has x f b none = (pieces, (outside, (nested, (overlap, tt))))
  where
    offs : (polygons : List (List (List Coordinates))) → AllByRecursion (IsPolygonBeside box at) polygons → AllByRecursion (λ rings. AllByRecursion (IsOff box) rings) polygons
    offs polygons beside = each-map (IsPolygonBeside box at) (λ rings. AllByRecursion (IsOff box) rings) polygons (λ rings h. h.0) beside

    pieces : Applies (AtTwoPoints (λ p q. any_two (λ r s. share_piece r s p q) (joined (front ++ is ∷ back)))) → ⊥
    pieces (p, q, i, j, any) = none.0 (p, q, i, j, pieces-kept box front back was is p q (parts-of box at was is x) (offs front f) (offs back b) i any)

    outside : Applies (AtPoint (λ p. list_any (λ rings. in_hole_outside rings p) (front ++ is ∷ back))) → ⊥
    outside (p, i, any) =
        none.1.0 (
          p,
          i,
          any-exchanged (λ rings. in_hole_outside rings p) (λ rings. in_hole_outside rings p) front back was is
              (each-same (λ rings. in_hole_outside rings p) front) (each-same (λ rings. in_hole_outside rings p) back) (outside-kept box at was is p has x i) any,
        )

    nested : Applies (AtPoint (λ p. list_any (λ rings. in_two_holes rings p) (front ++ is ∷ back))) → ⊥
    nested (p, i, any) =
        none.1.1.0 (
          p,
          i,
          any-exchanged (λ rings. in_two_holes rings p) (λ rings. in_two_holes rings p) front back was is
              (each-same (λ rings. in_two_holes rings p) front) (each-same (λ rings. in_two_holes rings p) back) (nested-kept box at was is p has x i) any,
        )

    overlap : Applies (AtPoint (in_two_polygons (front ++ is ∷ back))) → ⊥
    overlap (p, i, any) = none.1.1.1.0 (p, i, overlap-kept box at front back was is p has x f b i any)
