-- The edges of a polygon's rings together: off them a point is in the polygon just where an odd number of them is above it,
-- as long as no hole is outside the shell or in another one.
use Rattle.std.proofs.Common.{◌≡◌, refl, ap, sym, ◌∙◌, Bool, true, false, ◌&&◌, ◌||◌, not, List, [], ◌∷◌, ◌++◌, map}
use Rattle.std.specs.List.{count_by, flat_map, list_any}
use Rattle.std.proofs.lemmas.Bool.{and_parts, both_ways, false_from_ne_true, or_from, or_left, or_parts, or_right, true≢false}
use Rattle.sf_grid.specs.Plane.{Coordinates, Point}
use Rattle.sf_grid.specs.Edge.{Edge as Line, edge_above, on_edge}
use Rattle.sf_grid.specs.EvenOdd.{edges_above, is_odd}
use Rattle.sf_geometry.specs.Lists.{edges_of}
use Rattle.sf_geometry.specs.PointSets.{in_polygon, in_ring, on_line, on_polygon, within_ring}
use Rattle.sf_valid_rules.specs.Conditions.{any_two}
use Rattle.sf_valid_rules.specs.Shapes.{in_hole_outside, in_two_holes}
use Rattle.sf_interiors.proofs.ChainLaws.{odd-count}
use Rattle.sf_interiors.proofs.InsideLaws.{IsInside, IsOff}
use Rattle.sf_interiors.proofs.SideLaws.{differ}

-- ---- an odd number of truths
-- an odd number of them is true
abbrev odd_many : List Bool → Bool
odd_many [] = false
odd_many (b ∷ bs) = differ b (odd_many bs)

abbrev some_of : List Bool → Bool
some_of [] = false
some_of (b ∷ bs) = b || some_of bs

-- two of them are true
abbrev two_of : List Bool → Bool
two_of [] = false
two_of (b ∷ bs) = (b && some_of bs) || two_of bs

-- where no two are true, an odd number is just where some is: holes that aren't nested
odd-some : (bs : List Bool) → two_of bs ≡ false → odd_many bs ≡ some_of bs
odd-some [] h = refl
odd-some (true ∷ bs) h = let parts = or_parts (some_of bs) (two_of bs) h in ap not (odd-some bs parts.1 ∙ parts.0)
odd-some (false ∷ bs) h = odd-some bs h

-- a polygon's rings: a hole's inside is the shell's, so an odd number is in the shell and in no hole
odd-polygon : (shell : Bool) (holes : List Bool) → (some_of holes && not shell) ≡ false → two_of holes ≡ false → odd_many (shell ∷ holes) ≡ (shell && not (some_of holes))
odd-polygon true holes within apart = ap not (odd-some holes apart)
odd-polygon false holes within apart = odd-some holes apart ∙ and-true (some_of holes) within
  where
    and-true : (b : Bool) → (b && true) ≡ false → b ≡ false
    and-true true h = absurd (true≢false h)
    and-true false h = refl

differ-more : (a b c : Bool) → differ a (differ b c) ≡ differ (differ a b) c
differ-more true true true = refl
differ-more true true false = refl
differ-more true false c = refl
differ-more false b c = refl

pub odd-append : (t : Line → Bool) (xs ys : List Line) → is_odd (count_by t (xs ++ ys)) ≡ differ (is_odd (count_by t xs)) (is_odd (count_by t ys))
odd-append t [] ys = refl
odd-append t (x ∷ xs) ys =
    odd-count t x (xs ++ ys)
    ∙ ap (differ (t x)) (odd-append t xs ys)
    ∙ differ-more (t x) (is_odd (count_by t xs)) (is_odd (count_by t ys))
    ∙ ap (λ b. differ b (is_odd (count_by t ys))) (sym (odd-count t x xs))

odd-flat : {A : Type 0} (t : Line → Bool) (f : A → List Line) (xs : List A) → is_odd (count_by t (flat_map f xs)) ≡ odd_many (map (λ x. is_odd (count_by t (f x))) xs)
odd-flat t f [] = refl
odd-flat t f (x ∷ xs) = odd-append t (f x) (flat_map f xs) ∙ ap (differ (is_odd (count_by t (f x)))) (odd-flat t f xs)

-- ---- off its rings a polygon has the points with an odd number of edges above
abbrev parity : Point → List Coordinates → Bool
parity q ring = is_odd (edges_above q (edges_of ring))

in-off : (q : Point) (ring : List Coordinates) → on_line ring q ≡ false → in_ring ring q ≡ parity q ring
in-off q ring h = ap (λ b. not b && parity q ring) h

within-off : (q : Point) (ring : List Coordinates) → on_line ring q ≡ false → within_ring ring q ≡ in_ring ring q
within-off q ring h = ap (λ b. b || in_ring ring q) h

parities-off : (q : Point) (rings : List (List Coordinates)) → on_polygon rings q ≡ false → map (λ ring. in_ring ring q) rings ≡ map (parity q) rings
parities-off q [] h = refl
parities-off q (r ∷ rs) h =
    let parts = or_parts (on_line r q) (on_polygon rs q) h in
    ap (λ b. b ∷ map (λ ring. in_ring ring q) rs) (in-off q r parts.0) ∙ ap (λ bs. parity q r ∷ bs) (parities-off q rs parts.1)

some-within-off : (q : Point) (rings : List (List Coordinates)) → on_polygon rings q ≡ false →
    list_any (λ ring. within_ring ring q) rings ≡ some_of (map (λ ring. in_ring ring q) rings)
some-within-off q [] h = refl
some-within-off q (r ∷ rs) h =
    let parts = or_parts (on_line r q) (on_polygon rs q) h in
    ap (λ b. b || list_any (λ ring. within_ring ring q) rs) (within-off q r parts.0) ∙ ap (λ b. in_ring r q || b) (some-within-off q rs parts.1)

any-and : {A : Type 0} (b : Bool) (f : A → Bool) (xs : List A) → list_any (λ x. b && f x) xs ≡ (b && some_of (map f xs))
any-and true f [] = refl
any-and true f (x ∷ xs) = ap (λ b. f x || b) (any-and true f xs)
any-and false f [] = refl
any-and false f (x ∷ xs) = any-and false f xs

two-any : {A : Type 0} (f : A → Bool) (xs : List A) → any_two (λ x y. f x && f y) xs ≡ two_of (map f xs)
two-any f [] = refl
two-any f (x ∷ xs) =
    ap (λ b. b || any_two (λ y z. f y && f z) xs) (any-and (f x) f xs) ∙ ap (λ b. (f x && some_of (map f xs)) || b) (two-any f xs)

polygon-off : (rings : List (List Coordinates)) (q : Point) → on_polygon rings q ≡ false → in_hole_outside rings q ≡ false → in_two_holes rings q ≡ false →
    in_polygon rings q ≡ is_odd (edges_above q (flat_map edges_of rings))
polygon-off [] q off within apart = refl
polygon-off (shell ∷ holes) q off within apart =
    let parts = or_parts (on_line shell q) (on_polygon holes q) off in
    let ins = map (λ ring. in_ring ring q) holes in
    let some = some-within-off q holes parts.1 in
    ap (λ b. in_ring shell q && not b) some
    ∙ sym (odd-polygon (in_ring shell q) ins
    (ap (λ b. b && not (in_ring shell q)) (sym some) ∙ ap (λ b. list_any (λ ring. within_ring ring q) holes && not b) (sym (within-off q shell parts.0)) ∙ within)
    (sym (two-any (λ ring. in_ring ring q) holes) ∙ apart))
    ∙ ap odd_many (parities-off q (shell ∷ holes) off)
    ∙ sym (odd-flat (λ e. edge_above e q) edges_of (shell ∷ holes))

-- ---- a polygon's interior is off its rings
any-follows : {A : Type 0} (t u : A → Bool) (xs : List A) → ((x : A) → t x ≡ true → u x ≡ true) → list_any t xs ≡ true → list_any u xs ≡ true
any-follows t u [] f h = h
any-follows t u (x ∷ xs) f h = by_test (t x) refl (any-follows t u xs f) h
  where
    by_test : (b : Bool) → t x ≡ b → (list_any t xs ≡ true → list_any u xs ≡ true) → (b || list_any t xs) ≡ true → (u x || list_any u xs) ≡ true
    by_test true e rest k = or_left (u x) (list_any u xs) (f x e)
    by_test false e rest k = or_right (u x) (list_any u xs) (rest k)

pub polygon-apart : (rings : List (List Coordinates)) (q : Point) → in_polygon rings q ≡ true → on_polygon rings q ≡ false
polygon-apart [] q h = refl
polygon-apart (shell ∷ holes) q h =
    let parts = and_parts (in_ring shell q) (not (list_any (λ hole. within_ring hole q) holes)) h in
    let inside = and_parts (not (on_line shell q)) (parity q shell) parts.0 in
    or_from (on_line shell q) (on_polygon holes q) (negated (on_line shell q) inside.0)
    (false_from_ne_true (on_polygon holes q)
    (λ t.
    both_ways (list_any (λ hole. within_ring hole q) holes) (negated (list_any (λ hole. within_ring hole q) holes) parts.1)
    (any-follows (λ hole. on_line hole q) (λ hole. within_ring hole q) holes (λ hole k. or_left (on_line hole q) (in_ring hole q) k) t)))
  where
    negated : (b : Bool) → not b ≡ true → b ≡ false
    negated true k = sym k
    negated false k = refl

-- ---- a polygon by the edges of its rings
each-off : (p : Point) (es : List Line) → list_any (λ e. on_edge e p) es ≡ false → IsOff p es
each-off p [] h = tt
each-off p (e ∷ es) h = let parts = or_parts (on_edge e p) (list_any (λ f. on_edge f p) es) h in (parts.0, each-off p es parts.1)

none-on : (p : Point) (es : List Line) → IsOff p es → list_any (λ e. on_edge e p) es ≡ false
none-on p [] h = refl
none-on p (e ∷ es) h = or_from (on_edge e p) (list_any (λ f. on_edge f p) es) h.0 (none-on p es h.1)

or-more : (a b c : Bool) → (a || (b || c)) ≡ ((a || b) || c)
or-more true b c = refl
or-more false b c = refl

any-append : {A : Type 0} (t : A → Bool) (xs ys : List A) → list_any t (xs ++ ys) ≡ (list_any t xs || list_any t ys)
any-append t [] ys = refl
any-append t (x ∷ xs) ys = ap (λ b. t x || b) (any-append t xs ys) ∙ or-more (t x) (list_any t xs) (list_any t ys)

pub on-edges : (rings : List (List Coordinates)) (q : Point) → list_any (λ e. on_edge e q) (flat_map edges_of rings) ≡ on_polygon rings q
on-edges [] q = refl
on-edges (r ∷ rs) q = any-append (λ e. on_edge e q) (edges_of r) (flat_map edges_of rs) ∙ ap (λ b. on_line r q || b) (on-edges rs q)

pub inside-polygon : (rings : List (List Coordinates)) (q : Point) → in_hole_outside rings q ≡ false → in_two_holes rings q ≡ false → in_polygon rings q ≡ true →
    IsInside (flat_map edges_of rings) q
inside-polygon rings q within apart h =
    let off = polygon-apart rings q h in
    record { off = each-off q (flat_map edges_of rings) (on-edges rings q ∙ off); odd = sym (polygon-off rings q off within apart) ∙ h }

pub polygon-inside : (rings : List (List Coordinates)) (q : Point) → in_hole_outside rings q ≡ false → in_two_holes rings q ≡ false → IsInside (flat_map edges_of rings) q →
    in_polygon rings q ≡ true
polygon-inside rings q within apart h =
    polygon-off rings q (sym (on-edges rings q) ∙ none-on q (flat_map edges_of rings) h.off) within apart ∙ h.odd
