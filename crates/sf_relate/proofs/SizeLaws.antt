-- The pieces of two valid geometries are few, and the numbers of their groups are below how many they are.
use Rattle.std.proofs.Common.{◌≡◌, ℕ, suc, ◌+◌, ◌*◌, ◌<◌, ◌≤◌, arith, refl, ap, sym, ◌∙◌, subst, Bool, true, false, List, [], ◌∷◌, ◌++◌, map, length, ◌⊎◌, inl, inr, nat_lt}
use Rattle.std.specs.Prelude.{if◌then◌else◌}
use Rattle.std.specs.List.{AllByRecursion, flat_map, list_any}
use Rattle.std.proofs.lemmas.Bool.{both_ways, false_from_ne_true, or_parts}
use Rattle.std.proofs.lemmas.List.{length-append, length-map}
use Rattle.std.proofs.lemmas.List.Elements.{All-from_recursion}
use Rattle.sf_grid.specs.Plane.{Coordinates}
use Rattle.sf_strips.specs.declared.piece.Piece.{Piece}
use Rattle.sf_strips.specs.declared.piece.Piece.TheVariants as pieces
use Rattle.sf_slabs.proofs.CallerLemmas.{each-append}
use Rattle.sf_geometry.specs.declared.geometry.Geometry.{Geometry}
use Rattle.sf_geometry.specs.declared.geometry.Geometry.TheVariants.{Point, LineString, Polygon, MultiPoint, MultiLineString, MultiPolygon}
use Rattle.sf_geometry.specs.Lists.{edges_between, edges_of as edges_of_list, ends_of as ends_of_line, is_closed, last_from, tight}
use Rattle.sf_geometry.specs.Parts.{ends_of, joined, lines_of, points_of}
use Rattle.sf_geometry.specs.Size.{has_empty, is_empty}
use Rattle.sf_valid_rules.specs.Validity.{IsValid}
use Rattle.sf_pieces.specs.Marked.{HasGroups, Marked, groups_of, marked, piece_of}
use Rattle.sf_strands.proofs.EndLaws.{same-self}
use Rattle.sf_polygons.proofs.SizeLaws.{few-edges}
use Rattle.sf_polygons.proofs.TestLaws.{map-join}
use Rattle.sf_relate.specs.AllPieces.{all_grouped, end_dots_of, grouped, pieces_of}

-- ---- pieces and ends are at most twice the points
few-lists : (xss : List (List Coordinates)) → length (flat_map edges_of_list xss) ≤ length (joined xss)
few-lists [] = omega arith
few-lists (ps ∷ xss) =
    omega (arith, few-edges ps, few-lists xss, length-append (edges_of_list ps) (flat_map edges_of_list xss), length-append ps (joined xss))

few-ends : (ps : List Coordinates) → length (ends_of_line ps) ≤ length ps
few-ends [] = omega arith
few-ends (p ∷ []) = by_test (is_closed (p ∷ [])) (same-self p)
  where
    by_test : (c : Bool) → c ≡ true → length (if c then [] else p ∷ p ∷ []) ≤ 1
    by_test true e = omega arith
    by_test false e = absurd (both_ways false refl e)
few-ends (p ∷ q ∷ qs) = by_test (is_closed (p ∷ q ∷ qs))
  where
    by_test : (c : Bool) → length (if c then [] else p ∷ last_from q qs ∷ []) ≤ suc (suc (length qs))
    by_test true = omega arith
    by_test false = omega arith

few-all_ends : (lines : List (List Coordinates)) → length (flat_map ends_of_line lines) ≤ length (joined lines)
few-all_ends [] = omega arith
few-all_ends (ps ∷ lines) =
    omega (arith, few-ends ps, few-all_ends lines, length-append (ends_of_line ps) (flat_map ends_of_line lines), length-append ps (joined lines))

pub few-with_ends : (a : Geometry) → length (pieces_of a) + length (ends_of a) ≤ 2 * length (points_of a)
few-with_ends (Point p) = omega arith
few-with_ends (MultiPoint ps) = omega (arith, length-map ps pieces.Dot, length-append ps [])
few-with_ends (LineString ps) =
    omega (arith, length-map (flat_map edges_of_list (ps ∷ [])) piece_of, few-lists (ps ∷ []), few-all_ends (ps ∷ []))
few-with_ends (MultiLineString lines) = omega (arith, length-map (flat_map edges_of_list lines) piece_of, few-lists lines, few-all_ends lines)
few-with_ends (Polygon rings) = omega (arith, length-map (flat_map edges_of_list rings) piece_of, few-lists rings)
few-with_ends (MultiPolygon polygons) = omega (arith, length-map (flat_map edges_of_list (joined polygons)) piece_of, few-lists (joined polygons))

pub length-grouped : (m n : ℕ) (a : Geometry) → length (grouped m n a) ≡ length (pieces_of a) + length (ends_of a)
length-grouped m n a =
    length-append (marked m (pieces_of a)) (marked n (end_dots_of a))
    ∙ ap (λ k. k + length (marked n (end_dots_of a))) (length-map (pieces_of a) (λ piece. (piece, m)))
    ∙ ap (λ k. length (pieces_of a) + k) (length-map (end_dots_of a) (λ piece. (piece, n)) ∙ length-map (ends_of a) pieces.Dot)

length-all : (a b : Geometry) → length (all_grouped a b) ≡ (length (pieces_of b) + length (ends_of b)) + (length (pieces_of a) + length (ends_of a))
length-all a b =
    length-append (grouped 1 3 b) (grouped 0 2 a)
    ∙ ap (λ k. k + length (grouped 0 2 a)) (length-grouped 1 3 b)
    ∙ ap (λ k. (length (pieces_of b) + length (ends_of b)) + k) (length-grouped 0 2 a)

few-all : (a b : Geometry) → IsValid a → IsValid b → length (all_grouped a b) ≤ 16777215
few-all a b v w = omega (arith, length-all a b, few-with_ends a, few-with_ends b, v.sized.few, w.sized.few)

-- ---- a valid geometry has a piece
long-edges : (ts : List Coordinates) → 2 ≤ length ts → 1 ≤ length (edges_between ts)
long-edges [] h = absurd (omega (arith, h))
long-edges (p ∷ []) h = absurd (omega (arith, h))
long-edges (p ∷ q ∷ qs) h = omega arith

not-below : (m n : ℕ) → ¬ (nat_lt m n ≡ true) → n ≤ m
not-below m n h = let e : nat_lt m n ≡ false = false_from_ne_true (nat_lt m n) h in grind (arith, e)

some-first : (ps : List Coordinates) (xss : List (List Coordinates)) → 2 ≤ length (tight ps) → 1 ≤ length (map piece_of (flat_map edges_of_list (ps ∷ xss)))
some-first ps xss h =
    omega (arith, length-map (flat_map edges_of_list (ps ∷ xss)) piece_of, length-append (edges_of_list ps) (flat_map edges_of_list xss), long-edges (tight ps) h)

some-ring : (ring : List Coordinates) (others : List (List Coordinates)) → ¬ (nat_lt (length (tight ring)) 4 ≡ true) → 1 ≤ length (map piece_of (flat_map edges_of_list (ring ∷ others)))
some-ring ring others h = some-first ring others (long (length (tight ring)) (not-below (length (tight ring)) 4 h))
  where
    long : (n : ℕ) → 4 ≤ n → 2 ≤ n
    long n l = omega (arith, l)

pub some-piece : (a : Geometry) → IsValid a → 1 ≤ length (pieces_of a)
some-piece (Point p) v = omega arith
some-piece (MultiPoint []) v = absurd (both_ways true v.sized.filled refl)
some-piece (MultiPoint (p ∷ ps)) v = omega arith
some-piece (LineString ps) v = some-first ps [] (not-below (length (tight ps)) 2 v.faultless.0)
some-piece (MultiLineString []) v = absurd (both_ways true v.sized.filled refl)
some-piece (MultiLineString (ps ∷ lines)) v = some-first ps lines (not-below (length (tight ps)) 2 v.faultless.0)
some-piece (Polygon []) v = absurd (both_ways true v.sized.filled refl)
some-piece (Polygon (shell ∷ holes)) v = some-ring shell holes v.faultless.1.0
some-piece (MultiPolygon []) v = absurd (both_ways true v.sized.filled refl)
some-piece (MultiPolygon ([] ∷ polygons)) v = absurd (both_ways true (or_parts (is_empty ([] ∷ polygons)) (list_any has_empty ([] ∷ polygons)) v.sized.filled).1 refl)
some-piece (MultiPolygon ((shell ∷ holes) ∷ polygons)) v = some-ring shell (holes ++ joined polygons) v.faultless.1.0

-- ---- the groups are below the number of pieces
-- ends come in pairs
pub ends-pairs : (lines : List (List Coordinates)) → (length (flat_map ends_of_line lines) ≡ 0) ⊎ (2 ≤ length (flat_map ends_of_line lines))
ends-pairs [] = inl refl
ends-pairs ([] ∷ lines) = ends-pairs lines
ends-pairs ((p ∷ ps) ∷ lines) = by_test (is_closed (p ∷ ps)) (ends-pairs lines)
  where
    by_test : (c : Bool) → (length (flat_map ends_of_line lines) ≡ 0) ⊎ (2 ≤ length (flat_map ends_of_line lines)) →
        (length ((if c then [] else p ∷ last_from p ps ∷ []) ++ flat_map ends_of_line lines) ≡ 0)
        ⊎ (2 ≤ length ((if c then [] else p ∷ last_from p ps ∷ []) ++ flat_map ends_of_line lines))
    by_test true h = h
    by_test false h = inr (omega arith)

-- the group of each piece
pub each-marked : (P : ℕ → Type 0) (group : ℕ) (ps : List Piece) → (1 ≤ length ps → P group) → AllByRecursion P (groups_of (marked group ps))
each-marked P group [] h = tt
each-marked P group (p ∷ ps) h = (h (omega arith), each-marked P group ps (λ _. h (omega arith)))

pub each-joined : (P : ℕ → Type 0) (ms ns : List Marked) → AllByRecursion P (groups_of ms) → AllByRecursion P (groups_of ns) → AllByRecursion P (groups_of (ms ++ ns))
each-joined P ms ns h k =
    let Q : List ℕ → Type 0 = AllByRecursion P in
    subst Q (sym (map-join (λ (m : Marked). m.1) ms ns)) (each-append P (groups_of ms) (groups_of ns) h k)

grouped-all : (a b : Geometry) → IsValid a → IsValid b → HasGroups (all_grouped a b)
grouped-all a b v w =
    All-from_recursion P (groups_of (all_grouped a b))
    (each-joined P (grouped 1 3 b) (grouped 0 2 a)
    (each-joined P (marked 1 (pieces_of b)) (marked 3 (end_dots_of b)) (each-marked P 1 (pieces_of b) (λ _. omega (arith, length-all a b, some-piece a v, some-piece b w)))
    (each-marked P 3 (end_dots_of b) (λ some. three some (ends-pairs (lines_of b)))))
    (each-joined P (marked 0 (pieces_of a)) (marked 2 (end_dots_of a)) (each-marked P 0 (pieces_of a) (λ _. omega (arith, length-all a b, some-piece a v, some-piece b w)))
    (each-marked P 2 (end_dots_of a) (λ some. two some (ends-pairs (lines_of a))))))
  where
    P : ℕ → Type 0
    P g = g < length (all_grouped a b)

    three : 1 ≤ length (end_dots_of b) → (length (ends_of b) ≡ 0) ⊎ (2 ≤ length (ends_of b)) → 3 < length (all_grouped a b)
    three some (inl none) = absurd (omega (arith, some, none, length-map (ends_of b) pieces.Dot))
    three some (inr pair) = omega (arith, length-all a b, some-piece a v, some-piece b w, pair)

    two : 1 ≤ length (end_dots_of a) → (length (ends_of a) ≡ 0) ⊎ (2 ≤ length (ends_of a)) → 2 < length (all_grouped a b)
    two some (inl none) = absurd (omega (arith, some, none, length-map (ends_of a) pieces.Dot))
    two some (inr pair) = omega (arith, length-all a b, some-piece a v, some-piece b w, pair)

-- ---- what a walk over the pieces of two geometries needs
pub record CanWalk (ms : List Marked) : Type 0 where
  pub few : length ms ≤ 16777215
  pub groups_in_range : HasGroups ms

pub can-walk : (a b : Geometry) (ms : List Marked) → IsValid a → IsValid b → ms ≡ all_grouped a b → CanWalk ms
can-walk a b ms v w e = subst CanWalk (sym e) (record { few = few-all a b v w; groups_in_range = grouped-all a b v w })
