-- Laws of shoelace sums, by induction over the chain.
use Rattle.std.proofs.Common.{◌≡◌, refl, ap, sym, ◌∙◌, ℤ, pos, ◌+ℤ◌, ◌-ℤ◌, ◌*ℤ◌, arith, List, [], ◌∷◌, ◌++◌, map}
use Rattle.std.proofs.lemmas.Int.{ints}
use Rattle.sf_grid.specs.Plane.{Coordinates}
use Rattle.sf_grid.proofs.Ring.{ring, var, num, sum, dif, mul}
use Rattle.sf_measure.specs.Areas.{shoelace_from}
use Rattle.sf_measure.specs.Laws.{AreaIsOfTrapezoids, CutAddsUp, MovedIsAlike, RectanglesAreSides, StartIsFree, TrianglesAreHalves, TurnedIsNegative, moved, trapezoids_from}

pub rectangles_are_sides : RectanglesAreSides
rectangles_are_sides x y width height =
    ring (x ∷ y ∷ width ∷ height ∷ []) (sum (dif (mul (var 0) (var 1)) (mul (var 1) (sum (var 0) (var 2)))) (sum (dif (mul (sum (var 0) (var 2)) (sum (var 1) (var 3))) (mul (var 1) (sum (var 0) (var 2)))) (sum (dif (mul (sum (var 0) (var 2)) (sum (var 1) (var 3))) (mul (sum (var 1) (var 3)) (var 0))) (sum (dif (mul (var 0) (var 1)) (mul (sum (var 1) (var 3)) (var 0))) (num (pos 0)))))) (mul (num (pos 2)) (mul (var 2) (var 3))) refl

pub triangles_are_halves : TrianglesAreHalves
triangles_are_halves x y base height apex =
    ring (x ∷ y ∷ base ∷ height ∷ apex ∷ []) (sum (dif (mul (var 0) (var 1)) (mul (var 1) (sum (var 0) (var 2)))) (sum (dif (mul (sum (var 0) (var 2)) (sum (var 1) (var 3))) (mul (var 1) (sum (var 0) (var 4)))) (sum (dif (mul (sum (var 0) (var 4)) (var 1)) (mul (sum (var 1) (var 3)) (var 0))) (num (pos 0))))) (mul (var 2) (var 3)) refl

pub turned_is_negative : TurnedIsNegative
turned_is_negative p q r =
    ring (p.x ∷ p.y ∷ q.x ∷ q.y ∷ r.x ∷ r.y ∷ []) (sum (dif (mul (var 0) (var 3)) (mul (var 1) (var 2))) (sum (dif (mul (var 2) (var 5)) (mul (var 3) (var 4))) (sum (dif (mul (var 4) (var 1)) (mul (var 5) (var 0))) (num (pos 0))))) (dif (num (pos 0)) (sum (dif (mul (var 0) (var 5)) (mul (var 1) (var 4))) (sum (dif (mul (var 4) (var 3)) (mul (var 5) (var 2))) (sum (dif (mul (var 2) (var 1)) (mul (var 3) (var 0))) (num (pos 0)))))) refl

-- a chain is two, at each of its points
pub chains_add : (p x : Coordinates) (qs rs : List Coordinates) → shoelace_from p (qs ++ x ∷ rs) ≡ shoelace_from p (qs ++ x ∷ []) +ℤ shoelace_from x rs
chains_add p x [] rs = omega (arith, ints)
chains_add p x (q ∷ qs) rs =
    let h : shoelace_from q (qs ++ x ∷ rs) ≡ shoelace_from q (qs ++ x ∷ []) +ℤ shoelace_from x rs = chains_add q x qs rs in
    ap (λ z. (p.x *ℤ q.y -ℤ p.y *ℤ q.x) +ℤ z) h ∙ ring ((p.x *ℤ q.y -ℤ p.y *ℤ q.x) ∷ (shoelace_from q (qs ++ x ∷ [])) ∷ (shoelace_from x rs) ∷ []) (sum (var 0) (sum (var 1) (var 2))) (sum (sum (var 0) (var 1)) (var 2)) refl

plus_comm : (a b : ℤ) → a +ℤ b ≡ b +ℤ a
plus_comm a b = omega (arith, ints)

pub start_is_free : StartIsFree
start_is_free p x qs rs =
    chains_add p x qs (rs ++ p ∷ [])
    ∙ plus_comm (shoelace_from p (qs ++ x ∷ [])) (shoelace_from x (rs ++ p ∷ []))
    ∙ sym (chains_add x p rs (qs ++ x ∷ []))

pub cut_adds_up : CutAddsUp
cut_adds_up p x qs rs =
    let whole = chains_add p x qs (rs ++ p ∷ []) in
    let first = chains_add p x qs (p ∷ []) in
    let second = chains_add x p rs (x ∷ []) in
    whole
    ∙ ring ((shoelace_from p (qs ++ x ∷ [])) ∷ (shoelace_from x (rs ++ p ∷ [])) ∷ p.x ∷ p.y ∷ x.x ∷ x.y ∷ []) (sum (var 0) (var 1)) (sum (sum (var 0) (sum (dif (mul (var 4) (var 3)) (mul (var 5) (var 2))) (num (pos 0)))) (sum (var 1) (sum (dif (mul (var 2) (var 5)) (mul (var 3) (var 4))) (num (pos 0))))) refl
    ∙ ap (λ z. z +ℤ (shoelace_from x (rs ++ p ∷ []) +ℤ ((p.x *ℤ x.y -ℤ p.y *ℤ x.x) +ℤ pos 0))) (sym first)
    ∙ ap (λ z. shoelace_from p (qs ++ x ∷ p ∷ []) +ℤ z) (sym second)

-- moved, a chain's sum changes by what its ends alone tell
chain_moved : (dx dy : ℤ) (p e : Coordinates) (qs : List Coordinates) →
    shoelace_from (moved dx dy p) (map (moved dx dy) (qs ++ e ∷ [])) ≡ shoelace_from p (qs ++ e ∷ []) +ℤ (dx *ℤ (e.y -ℤ p.y) -ℤ dy *ℤ (e.x -ℤ p.x))
chain_moved dx dy p e [] =
    ring (dx ∷ dy ∷ p.x ∷ p.y ∷ e.x ∷ e.y ∷ []) (sum (dif (mul (sum (var 2) (var 0)) (sum (var 5) (var 1))) (mul (sum (var 3) (var 1)) (sum (var 4) (var 0)))) (num (pos 0))) (sum (sum (dif (mul (var 2) (var 5)) (mul (var 3) (var 4))) (num (pos 0))) (dif (mul (var 0) (dif (var 5) (var 3))) (mul (var 1) (dif (var 4) (var 2))))) refl
chain_moved dx dy p e (q ∷ qs) =
    ap (λ z. ((p.x +ℤ dx) *ℤ (q.y +ℤ dy) -ℤ (p.y +ℤ dy) *ℤ (q.x +ℤ dx)) +ℤ z) (chain_moved dx dy q e qs)
    ∙ ring (dx ∷ dy ∷ p.x ∷ p.y ∷ q.x ∷ q.y ∷ e.x ∷ e.y ∷ (shoelace_from q (qs ++ e ∷ [])) ∷ []) (sum (dif (mul (sum (var 2) (var 0)) (sum (var 5) (var 1))) (mul (sum (var 3) (var 1)) (sum (var 4) (var 0)))) (sum (var 8) (dif (mul (var 0) (dif (var 7) (var 5))) (mul (var 1) (dif (var 6) (var 4)))))) (sum (sum (dif (mul (var 2) (var 5)) (mul (var 3) (var 4))) (var 8)) (dif (mul (var 0) (dif (var 7) (var 3))) (mul (var 1) (dif (var 6) (var 2))))) refl

pub moved_is_alike : MovedIsAlike
moved_is_alike dx dy p qs =
    chain_moved dx dy p p qs
    ∙ ring (dx ∷ dy ∷ p.x ∷ p.y ∷ (shoelace_from p (qs ++ p ∷ [])) ∷ []) (sum (var 4) (dif (mul (var 0) (dif (var 3) (var 3))) (mul (var 1) (dif (var 2) (var 2))))) (var 4) refl

chain_of_trapezoids : (p e : Coordinates) (qs : List Coordinates) →
    shoelace_from p (qs ++ e ∷ []) ≡ trapezoids_from p (qs ++ e ∷ []) +ℤ (e.x *ℤ e.y -ℤ p.x *ℤ p.y)
chain_of_trapezoids p e [] =
    ring (p.x ∷ p.y ∷ e.x ∷ e.y ∷ []) (sum (dif (mul (var 0) (var 3)) (mul (var 1) (var 2))) (num (pos 0))) (sum (sum (mul (dif (var 0) (var 2)) (sum (var 1) (var 3))) (num (pos 0))) (dif (mul (var 2) (var 3)) (mul (var 0) (var 1)))) refl
chain_of_trapezoids p e (q ∷ qs) =
    ap (λ z. (p.x *ℤ q.y -ℤ p.y *ℤ q.x) +ℤ z) (chain_of_trapezoids q e qs)
    ∙ ring (p.x ∷ p.y ∷ q.x ∷ q.y ∷ e.x ∷ e.y ∷ (trapezoids_from q (qs ++ e ∷ [])) ∷ []) (sum (dif (mul (var 0) (var 3)) (mul (var 1) (var 2))) (sum (var 6) (dif (mul (var 4) (var 5)) (mul (var 2) (var 3))))) (sum (sum (mul (dif (var 0) (var 2)) (sum (var 1) (var 3))) (var 6)) (dif (mul (var 4) (var 5)) (mul (var 0) (var 1)))) refl

pub area_is_of_trapezoids : AreaIsOfTrapezoids
area_is_of_trapezoids p qs =
    chain_of_trapezoids p p qs ∙ ring (p.x ∷ p.y ∷ (trapezoids_from p (qs ++ p ∷ [])) ∷ []) (sum (var 2) (dif (mul (var 0) (var 1)) (mul (var 0) (var 1)))) (var 2) refl
