-- Sums over lists, as their members are passed one by one.
use Rattle.std.proofs.Common.{◌≡◌, ap, sym, ◌∙◌, ℕ, ◌+◌, ◌<◌, ◌++◌, List, [], ◌∷◌, drop, length, slice_index_or, arith}
use Rattle.std.specs.Prelude.{Bool, true, false, ℤ, pos, ◌+ℤ◌, if◌then◌else◌}
use Rattle.std.specs.List.{flat_map}
use Rattle.std.proofs.lemmas.Int.{ints}
use Rattle.std.proofs.lemmas.Grind.{flat_map-append}
use Rattle.std.proofs.lemmas.List.{drop_more, length-append}
use Rattle.sf_grid.specs.Plane.{Coordinates}
use Rattle.sf_grid.specs.Edge.{Edge, edge_between}
use Rattle.sf_geometry.specs.Lists.{edges_between, edges_of, is_same}
use Rattle.sf_geometry.specs.Parts.{joined}
use Rattle.sf_geometry.proofs.WalkLaws.{left-edges, left-lists, left-polygons}
use Rattle.sf_measure.specs.Lengths.{parts_of_edge, parts_of_edges}

-- what is left of a list, as its next member is passed
pub left-members : {X : Type 0} (xs : List X) (i : ℕ) (x : X) → i < length xs → x ≡ slice_index_or xs i x → drop i xs ≡ x ∷ drop (i + 1) xs
left-members xs i x h e = drop_more xs i x h ∙ ap (λ y. y ∷ drop (i + 1) xs) (sym e)

-- how many are left in lists
pub left-count : {X : Type 0} (xss : List (List X)) (i : ℕ) (xs : List X) → i < length xss → xs ≡ slice_index_or xss i xs →
    length (joined (drop i xss)) ≡ length xs + length (joined (drop (i + 1) xss))
left-count xss i xs h e = ap (λ rest. length (joined rest)) (left-members xss i xs h e) ∙ length-append xs (joined (drop (i + 1) xss))

-- how many are left in lists of lists
pub left-count_twice : {X : Type 0} (xsss : List (List (List X))) (i : ℕ) (xss : List (List X)) → i < length xsss → xss ≡ slice_index_or xsss i xss →
    length (joined (joined (drop i xsss))) ≡ length (joined xss) + length (joined (joined (drop (i + 1) xsss)))
left-count_twice xsss i xss h e =
    ap (λ rest. length (joined (joined rest))) (left-members xsss i xss h e)
    ∙ ap length (flat_map-append (λ xs. xs) xss (joined (drop (i + 1) xsss)))
    ∙ length-append (joined xss) (joined (joined (drop (i + 1) xsss)))

add-assoc : (a b c : ℕ) → (a + b) + c ≡ a + (b + c)
add-assoc a b c = omega arith

plus-zero : (a : ℕ) → a + 0 ≡ a
plus-zero a = omega arith

moved : (sum own rest whole : ℕ) → whole ≡ own + rest → (sum + own) + rest ≡ sum + whole
moved sum own rest whole is = omega (arith, is)

add-zero : (a : ℕ) → 0 + a ≡ a
add-zero a = omega arith

-- the length of edges in two parts
pub parts-append : (es fs : List Edge) → parts_of_edges (es ++ fs) ≡ parts_of_edges es + parts_of_edges fs
parts-append [] fs = sym (add-zero (parts_of_edges fs))
parts-append (e ∷ es) fs = ap (λ n. parts_of_edge e + n) (parts-append es fs) ∙ sym (add-assoc (parts_of_edge e) (parts_of_edges es) (parts_of_edges fs))

pub int-assoc : (a b c : ℤ) → (a +ℤ b) +ℤ c ≡ a +ℤ (b +ℤ c)
int-assoc a b c = omega (arith, ints)

pub int-zero : (a : ℤ) → a ≡ a +ℤ pos 0
int-zero a = omega (arith, ints)

-- the step from a point to itself has no edge, and that to another has one
pub parts-same : (p q : Coordinates) → is_same p q ≡ true → 0 ≡ parts_of_edges (edges_of (p ∷ q ∷ []))
parts-same p q same = ap (λ b. parts_of_edges (edges_of_two b)) (sym same)
  where
    edges_of_two : Bool → List Edge
    edges_of_two b = edges_between (if b then q ∷ [] else p ∷ q ∷ [])

pub parts-other : (p q : Coordinates) → is_same p q ≡ false → parts_of_edge (edge_between p q) ≡ parts_of_edges (edges_of (p ∷ q ∷ []))
parts-other p q other = sym (plus-zero (parts_of_edge (edge_between p q))) ∙ ap (λ b. parts_of_edges (edges_of_two b)) (sym other)
  where
    edges_of_two : Bool → List Edge
    edges_of_two b = edges_between (if b then q ∷ [] else p ∷ q ∷ [])

-- one more step, line or polygon: what was left is it, and what is left then
pub step-parts : (p q : Coordinates) (qs : List Coordinates) (i sum own : ℕ) → i < length qs → q ≡ slice_index_or qs i q → own ≡ parts_of_edges (edges_of (p ∷ q ∷ []))
    → (sum + own) + parts_of_edges (edges_of (q ∷ drop (i + 1) qs)) ≡ sum + parts_of_edges (edges_of (p ∷ drop i qs))
step-parts p q qs i sum own h e is = moved sum own (parts_of_edges (edges_of (q ∷ drop (i + 1) qs))) (parts_of_edges (edges_of (p ∷ drop i qs)))
    (ap parts_of_edges (left-edges p q qs i h e) ∙ parts-append (edges_of (p ∷ q ∷ [])) (edges_of (q ∷ drop (i + 1) qs)) ∙ ap (λ n. n + parts_of_edges (edges_of (q ∷ drop (i + 1) qs))) (sym is))

pub list-parts : (pss : List (List Coordinates)) (i : ℕ) (ps qs : List Coordinates) (sum own : ℕ) → i < length pss → ps ≡ slice_index_or pss i ps → qs ≡ ps → own ≡ parts_of_edges (edges_of qs)
    → (sum + own) + parts_of_edges (flat_map edges_of (drop (i + 1) pss)) ≡ sum + parts_of_edges (flat_map edges_of (drop i pss))
list-parts pss i ps qs sum own h e same is = moved sum own (parts_of_edges (flat_map edges_of (drop (i + 1) pss))) (parts_of_edges (flat_map edges_of (drop i pss)))
    (ap parts_of_edges (left-lists pss i ps qs h e same) ∙ parts-append (edges_of qs) (flat_map edges_of (drop (i + 1) pss)) ∙ ap (λ n. n + parts_of_edges (flat_map edges_of (drop (i + 1) pss))) (sym is))

pub polygon-parts : (psss : List (List (List Coordinates))) (i : ℕ) (pss qss : List (List Coordinates)) (sum own : ℕ) → i < length psss → pss ≡ slice_index_or psss i pss → qss ≡ pss
    → own ≡ parts_of_edges (flat_map edges_of qss)
    → (sum + own) + parts_of_edges (flat_map edges_of (joined (drop (i + 1) psss))) ≡ sum + parts_of_edges (flat_map edges_of (joined (drop i psss)))
polygon-parts psss i pss qss sum own h e same is = moved sum own (parts_of_edges (flat_map edges_of (joined (drop (i + 1) psss)))) (parts_of_edges (flat_map edges_of (joined (drop i psss))))
    (ap parts_of_edges (left-polygons psss i pss qss h e same) ∙ parts-append (flat_map edges_of qss) (flat_map edges_of (joined (drop (i + 1) psss))) ∙ ap (λ n. n + parts_of_edges (flat_map edges_of (joined (drop (i + 1) psss)))) (sym is))
