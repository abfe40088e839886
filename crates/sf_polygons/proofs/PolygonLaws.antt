-- Where no hole is outside its shell or in another hole, a point off a polygon's rings is inside it just where an odd number of
-- all its edges is above; and a point inside is on no ring.
use Rattle.std.proofs.Common.{◌≡◌, refl, ap, sym, ◌∙◌, Bool, true, false, ◌&&◌, ◌||◌, not, List, [], ◌∷◌, map}
use Rattle.std.specs.List.{list_any}
use Rattle.std.proofs.lemmas.Bool.{both_ways, or_left}
use Rattle.sf_grid.specs.Plane.{Coordinates, Point}
use Rattle.sf_geometry.specs.PointSets.{in_polygon, in_ring, on_line, on_polygon, within_ring}
use Rattle.sf_valid_rules.specs.Conditions.{any_two}
use Rattle.sf_valid_rules.specs.Shapes.{in_hole_outside, in_two_holes}
use Rattle.sf_polygons.proofs.PieceLaws.{parity}
use Rattle.sf_polygons.proofs.TestLaws.{and-none, any-follows, odd_many, or-neither}

-- two of them are true
abbrev two_of : List Bool → Bool
two_of bs = any_two (λ b c. b && c) bs

abbrev some_of : List Bool → Bool
some_of bs = list_any (λ b. b) bs

-- where no two are true, an odd number is just where some is
odd-some : (bs : List Bool) → two_of bs ≡ false → odd_many bs ≡ some_of bs
odd-some [] h = refl
odd-some (true ∷ bs) h = let parts = or-neither (some_of bs) (two_of bs) h in ap not (odd-some bs parts.1 ∙ parts.0)
odd-some (false ∷ bs) h = odd-some bs ((or-neither (list_any (λ c. false) bs) (two_of bs) h).1)

-- what is in a hole is in the shell: so an odd number is in the shell and in no hole
odd-polygon : (shell : Bool) (holes : List Bool) → (some_of holes && not shell) ≡ false → two_of holes ≡ false → odd_many (shell ∷ holes) ≡ (shell && not (some_of holes))
odd-polygon true holes within apart = ap not (odd-some holes apart)
odd-polygon false holes within apart = odd-some holes apart ∙ and-true (some_of holes) within
  where
    and-true : (b : Bool) → (b && true) ≡ false → b ≡ false
    and-true true h = absurd (both_ways true h refl)
    and-true false h = refl

in-off : (p : Point) (ring : List Coordinates) → on_line ring p ≡ false → in_ring ring p ≡ parity p ring
in-off p ring h = ap (λ b. not b && parity p ring) h

within-off : (p : Point) (ring : List Coordinates) → on_line ring p ≡ false → within_ring ring p ≡ in_ring ring p
within-off p ring h = ap (λ b. b || in_ring ring p) h

parities-off : (p : Point) (rings : List (List Coordinates)) → on_polygon rings p ≡ false → map (λ ring. in_ring ring p) rings ≡ map (parity p) rings
parities-off p [] h = refl
parities-off p (r ∷ rs) h =
    let parts = or-neither (on_line r p) (on_polygon rs p) h in
    ap (λ b. b ∷ map (λ ring. in_ring ring p) rs) (in-off p r parts.0) ∙ ap (λ bs. parity p r ∷ bs) (parities-off p rs parts.1)

some-within-off : (p : Point) (rings : List (List Coordinates)) → on_polygon rings p ≡ false → list_any (λ ring. within_ring ring p) rings ≡ some_of (map (λ ring. in_ring ring p) rings)
some-within-off p [] h = refl
some-within-off p (r ∷ rs) h =
    let parts = or-neither (on_line r p) (on_polygon rs p) h in
    ap (λ b. b || list_any (λ ring. within_ring ring p) rs) (within-off p r parts.0) ∙ ap (λ b. in_ring r p || b) (some-within-off p rs parts.1)

two-any : {A : Type 0} (t : A → Bool) (xs : List A) → any_two (λ x y. t x && t y) xs ≡ two_of (map t xs)
two-any t [] = refl
two-any {A} t (x ∷ xs) = ap (λ b. b || any_two (λ y z. t y && t z) xs) (some (t x) xs) ∙ ap (λ b. list_any (λ c. t x && c) (map t xs) || b) (two-any t xs)
  where
    some : (b : Bool) (ys : List A) → list_any (λ y. b && t y) ys ≡ list_any (λ c. b && c) (map t ys)
    some b [] = refl
    some b (y ∷ ys) = ap (λ c. (b && t y) || c) (some b ys)

polygon-off : (rings : List (List Coordinates)) (p : Point) → on_polygon rings p ≡ false → in_hole_outside rings p ≡ false → in_two_holes rings p ≡ false
    → in_polygon rings p ≡ odd_many (map (parity p) rings)
polygon-off [] p off within apart = refl
polygon-off (shell ∷ holes) p off within apart =
    let parts = or-neither (on_line shell p) (on_polygon holes p) off in
    let ins = map (λ ring. in_ring ring p) holes in
    let some = some-within-off p holes parts.1 in
    ap (λ b. in_ring shell p && not b) some
    ∙ sym (odd-polygon (in_ring shell p) ins
    (ap (λ b. b && not (in_ring shell p)) (sym some) ∙ ap (λ b. list_any (λ ring. within_ring ring p) holes && not b) (sym (within-off p shell parts.0)) ∙ within)
    (sym (two-any (λ ring. in_ring ring p) holes) ∙ apart))
    ∙ ap odd_many (parities-off p (shell ∷ holes) off)

-- a polygon's inside is off its rings
inside-off : (rings : List (List Coordinates)) (p : Point) → on_polygon rings p ≡ true → in_polygon rings p ≡ false
inside-off [] p h = refl
inside-off (shell ∷ holes) p h = by_tests (on_line shell p) refl h
  where
    by_tests : (b : Bool) → on_line shell p ≡ b → (b || on_polygon holes p) ≡ true → in_polygon (shell ∷ holes) p ≡ false
    by_tests true e k = ap (λ b. (not b && parity p shell) && not (list_any (λ hole. within_ring hole p) holes)) e
    by_tests false e k =
        ap (λ b. in_ring shell p && not b) (any-follows (λ hole. on_line hole p) (λ hole. within_ring hole p) holes (λ hole m. or_left (on_line hole p) (in_ring hole p) m) k)
        ∙ and-none (in_ring shell p)

pub told-inside : (rings : List (List Coordinates)) (p : Point) → in_hole_outside rings p ≡ false → in_two_holes rings p ≡ false
    → (not (on_polygon rings p) && odd_many (map (parity p) rings)) ≡ in_polygon rings p
told-inside rings p within apart = by_test (on_polygon rings p) refl
  where
    by_test : (b : Bool) → on_polygon rings p ≡ b → (not b && odd_many (map (parity p) rings)) ≡ in_polygon rings p
    by_test true e = sym (inside-off rings p e)
    by_test false e = sym (polygon-off rings p e within apart)
