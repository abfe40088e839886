-- How many pieces rings have, and in which groups.
use Rattle.std.proofs.Common.{◌≡◌, refl, sym, ◌∙◌, subst, ℕ, suc, ◌+◌, ◌<◌, ◌≤◌, arith, max, Bool, true, false, cond, List, [], ◌∷◌, ◌++◌, map, length, is_some}
use Rattle.std.specs.Prelude.{if◌then◌else◌}
use Rattle.std.specs.List.{AllByRecursion, count_by, flat_map, zip}
use Rattle.std.proofs.lemmas.List.{length-append, length-map}
use Rattle.std.proofs.lemmas.List.Elements.{All-from_recursion}
use Rattle.sf_grid.specs.Plane.{Coordinates}
use Rattle.sf_strips.specs.declared.piece.Piece.{Piece}
use Rattle.sf_cells.specs.Groups.{group_count}
use Rattle.sf_slabs.proofs.CallerLemmas.{each-append, each-map, each-parts}
use Rattle.sf_geometry.specs.Lists.{before_tight, edges_between, edges_from, edges_of, is_same, tight}
use Rattle.sf_geometry.specs.Parts.{joined}
use Rattle.sf_pieces.specs.Marked.{HasGroups, Marked, groups_of, piece_of}
use Rattle.sf_polygons.specs.Colours.{AreFew, IsColouring, box_of}
use Rattle.sf_polygons.specs.Rings.{GroupedRing, edges_in, grouped, holes_in, pieces_in, polygons_in}
use Rattle.sf_polygons.proofs.ColourLaws.{each-below}
use Rattle.sf_polygons.proofs.MeetLaws.{IsSound}
use Rattle.sf_polygons.proofs.PieceLaws.{rings_of}
use Rattle.sf_polygons.proofs.TestLaws.{count-cons, map-join}

-- ---- a ring has at most as many edges as points
shorter-before : (p : Coordinates) (ts : List Coordinates) → length (before_tight p ts) ≤ suc (length ts)
shorter-before p [] = omega arith
shorter-before p (q ∷ qs) = by_test (is_same p q)
  where
    by_test : (c : Bool) → length (if c then q ∷ qs else p ∷ q ∷ qs) ≤ suc (suc (length qs))
    by_test true = omega arith
    by_test false = omega arith

shorter-tight : (ps : List Coordinates) → length (tight ps) ≤ length ps
shorter-tight [] = omega arith
shorter-tight (p ∷ ps) = up (length (before_tight p (tight ps))) (length (tight ps)) (length ps) (shorter-before p (tight ps)) (shorter-tight ps)
  where
    up : (a b c : ℕ) → a ≤ suc b → b ≤ c → a ≤ suc c
    up a b c h k = omega (arith, h, k)

shorter-between : (ts : List Coordinates) → length (edges_between ts) ≤ length ts
shorter-between [] = omega arith
shorter-between (p ∷ ps) = fewer p ps
  where
    fewer : (p : Coordinates) (ps : List Coordinates) → length (edges_from p ps) ≤ suc (length ps)
    fewer p [] = omega arith
    fewer p (q ∷ qs) = up (length (edges_from q qs)) (length qs) (fewer q qs)
      where
        up : (a b : ℕ) → a ≤ suc b → suc a ≤ suc (suc b)
        up a b h = omega (arith, h)

pub few-edges : (ring : List Coordinates) → length (edges_of ring) ≤ length ring
few-edges ring = up (length (edges_of ring)) (length (tight ring)) (length ring) (shorter-between (tight ring)) (shorter-tight ring)
  where
    up : (a b c : ℕ) → a ≤ b → b ≤ c → a ≤ c
    up a b c h k = omega (arith, h, k)

length-edges : (g : ℕ) (ring : List Coordinates) → length (edges_in g ring) ≡ length (edges_of ring)
length-edges g ring = length-map (map piece_of (edges_of ring)) (λ piece. (piece, g)) ∙ length-map (edges_of ring) piece_of

pub few-pieces : (rings : List GroupedRing) → length (pieces_in rings) ≤ length (joined (rings_of rings))
few-pieces [] = omega arith
few-pieces (r ∷ rings) =
    up (length (edges_in r.1 r.0 ++ pieces_in rings)) (length (r.0 ++ joined (rings_of rings))) (length (edges_in r.1 r.0)) (length (edges_of r.0)) (length r.0) (length (pieces_in rings))
    (length (joined (rings_of rings))) (length-append (edges_in r.1 r.0) (pieces_in rings)) (length-append r.0 (joined (rings_of rings))) (length-edges r.1 r.0) (few-edges r.0) (few-pieces rings)
  where
    up : (a b c d e f g : ℕ) → a ≡ c + f → b ≡ e + g → c ≡ d → d ≤ e → f ≤ g → a ≤ b
    up a b c d e f g h k l m n = omega (arith, h, k, l, m, n)

-- ---- as many boxes as points at most
some-box : (ps : List Coordinates) → cond (is_some (box_of ps)) 1 0 ≤ length ps
some-box [] = omega arith
some-box (p ∷ ps) = at_most (is_some (box_of (p ∷ ps)))
  where
    at_most : (b : Bool) → cond b 1 0 ≤ suc (length ps)
    at_most true = omega arith
    at_most false = omega arith

pub few-boxes : {A : Type 0} (points : A → List Coordinates) (xs : List A) → count_by is_some (map (λ x. box_of (points x)) xs) ≤ length (flat_map points xs)
few-boxes points [] = omega arith
few-boxes points (x ∷ xs) =
    up (count_by is_some (map (λ y. box_of (points y)) (x ∷ xs))) (length (points x ++ flat_map points xs)) (cond (is_some (box_of (points x))) 1 0) (length (points x))
    (count_by is_some (map (λ y. box_of (points y)) xs)) (length (flat_map points xs)) (count-cons is_some (box_of (points x)) (map (λ y. box_of (points y)) xs))
    (length-append (points x) (flat_map points xs)) (some-box (points x)) (few-boxes points xs)
  where
    up : (a b c d e f : ℕ) → a ≡ c + e → b ≡ d + f → c ≤ d → e ≤ f → a ≤ b
    up a b c d e f h k l m = omega (arith, h, k, l, m)

-- sound rings have points
has-points : (ring : List Coordinates) → IsSound ring → 3 ≤ length ring
has-points ring s = up (length (edges_of ring)) (length ring) s.long (few-edges ring)
  where
    up : (a b : ℕ) → 3 ≤ a → a ≤ b → 3 ≤ b
    up a b h k = omega (arith, h, k)

pub few-rings : (rings : List (List Coordinates)) → AllByRecursion IsSound rings → length rings ≤ length (joined rings)
few-rings [] h = omega arith
few-rings (r ∷ rs) h = up (length rs) (length r) (length (joined rs)) (length (r ++ joined rs)) (length-append r (joined rs)) (has-points r h.0) (few-rings rs h.1)
  where
    up : (a b c d : ℕ) → d ≡ b + c → 3 ≤ b → a ≤ c → suc a ≤ d
    up a b c d h k l = omega (arith, h, k, l)

-- ---- the groups of pieces
-- what holds of the groups of rings holds of the groups of their pieces
pub each-group : (P : ℕ → Type 0) (rings : List GroupedRing) → AllByRecursion (λ (r : GroupedRing). P r.1) rings → AllByRecursion P (groups_of (pieces_in rings))
each-group P [] h = tt
each-group P (r ∷ rings) h =
    subst (AllByRecursion P) (sym (map-join (λ (m : Marked). m.1) (edges_in r.1 r.0) (pieces_in rings)))
    (each-append P (groups_of (edges_in r.1 r.0)) (groups_of (pieces_in rings)) (all-one r.1 h.0 (map piece_of (edges_of r.0))) (each-group P rings h.1))
  where
    all-one : (g : ℕ) → P g → (ps : List Piece) → AllByRecursion P (groups_of (map (λ piece. (piece, g)) ps))
    all-one g k [] = tt
    all-one g k (p ∷ ps) = (k, all-one g k ps)

pub few-groups : (k : ℕ) (gs : List ℕ) → AllByRecursion (λ g. g < k) gs → group_count gs ≤ k
few-groups k [] h = omega arith
few-groups k (g ∷ gs) h = most (group_count gs) h.0 (few-groups k gs h.1)
  where
    most : (m : ℕ) → g < k → m ≤ k → max (g + 1) m ≤ k
    most m a b = omega (arith, a, b)

-- each ring's group is at most the number of rings before it, n before the first
abbrev AreBelow : ℕ → List GroupedRing → Type 0
AreBelow n [] = Unit {0}
AreBelow n (r ∷ rings) = (r.1 ≤ n) × AreBelow (n + 1) rings

below-pieces : (n : ℕ) (rings : List GroupedRing) → AreBelow n rings → AllByRecursion (λ (r : GroupedRing). IsSound r.0) rings
    → AllByRecursion (λ g. g < n + length (pieces_in rings)) (groups_of (pieces_in rings))
below-pieces n [] h s = tt
below-pieces n (r ∷ rings) h s =
    let l = length-append (edges_in r.1 r.0) (pieces_in rings) in
    subst (AllByRecursion (λ g. g < n + length (pieces_in (r ∷ rings)))) (sym (map-join (λ (m : Marked). m.1) (edges_in r.1 r.0) (pieces_in rings)))
    (each-append (λ g. g < n + length (pieces_in (r ∷ rings))) (groups_of (edges_in r.1 r.0)) (groups_of (pieces_in rings))
    (all-one (map piece_of (edges_of r.0)) (first r.1 (length (edges_in r.1 r.0)) (length (edges_of r.0)) (length (pieces_in rings)) (length (pieces_in (r ∷ rings))) l (length-edges r.1 r.0) h.0 s.0.long))
    (each-map (λ g. g < n + 1 + length (pieces_in rings)) (λ g. g < n + length (pieces_in (r ∷ rings))) (groups_of (pieces_in rings))
    (λ g k. later g (length (edges_in r.1 r.0)) (length (edges_of r.0)) (length (pieces_in rings)) (length (pieces_in (r ∷ rings))) l (length-edges r.1 r.0) k s.0.long)
    (below-pieces (n + 1) rings h.1 s.1)))
  where
    first : (g e d m l : ℕ) → l ≡ e + m → e ≡ d → g ≤ n → 3 ≤ d → g < n + l
    first g e d m l a b c k = omega (arith, a, b, c, k)

    later : (g e d m l : ℕ) → l ≡ e + m → e ≡ d → g < n + 1 + m → 3 ≤ d → g < n + l
    later g e d m l a b c k = omega (arith, a, b, c, k)

    all-one : (ps : List Piece) → r.1 < n + length (pieces_in (r ∷ rings)) → AllByRecursion (λ g. g < n + length (pieces_in (r ∷ rings))) (groups_of (map (λ piece. (piece, r.1)) ps))
    all-one [] k = tt
    all-one (p ∷ ps) k = (k, all-one ps k)

has-groups : (rings : List GroupedRing) → AreBelow 0 rings → AllByRecursion (λ (r : GroupedRing). IsSound r.0) rings → HasGroups (pieces_in rings)
has-groups rings h s =
    All-from_recursion (λ g. g < length (pieces_in rings)) (groups_of (pieces_in rings))
    (each-map (λ g. g < 0 + length (pieces_in rings)) (λ g. g < length (pieces_in rings)) (groups_of (pieces_in rings)) (λ g k. low g (length (pieces_in rings)) k) (below-pieces 0 rings h s))
  where
    low : (g l : ℕ) → g < 0 + l → g < l
    low g l k = omega (arith, k)

-- ---- of a polygon's rings
holes-below : (n : ℕ) (holes : List (List Coordinates)) (colours : List ℕ) → AreFew n (zip (map box_of holes) colours) → (m : ℕ) → n + 1 ≤ m → AreBelow m (holes_in holes colours)
holes-below n [] colours h m l = tt
holes-below n (r ∷ holes) [] h m l = tt
holes-below n (r ∷ holes) (c ∷ colours) h m l = (first c h.0, holes-below (n + cond (is_some (box_of r)) 1 0) holes colours h.1 (m + 1) (next (is_some (box_of r))))
  where
    first : (c : ℕ) → c ≤ n → c + 1 ≤ m
    first c k = omega (arith, k, l)

    next : (b : Bool) → n + cond b 1 0 + 1 ≤ m + 1
    next true = omega (arith, l)
    next false = omega (arith, l)

holes-sound : (holes : List (List Coordinates)) (colours : List ℕ) → AllByRecursion IsSound holes → AllByRecursion (λ (r : GroupedRing). IsSound r.0) (holes_in holes colours)
holes-sound [] colours h = tt
holes-sound (r ∷ holes) [] h = tt
holes-sound (r ∷ holes) (c ∷ colours) h = (h.0, holes-sound holes colours h.1)

-- the shell in group 0, the holes by their colours
abbrev pub rings_in : List Coordinates → List (List Coordinates) → List ℕ → List GroupedRing
rings_in shell holes colours = (shell, 0) ∷ holes_in holes colours

pub rings-grouped : (shell : List Coordinates) (holes : List (List Coordinates)) (colours : List ℕ) → AllByRecursion IsSound (shell ∷ holes) → IsColouring (map box_of holes) colours
    → HasGroups (pieces_in (rings_in shell holes colours))
rings-grouped shell holes colours s h =
    has-groups (rings_in shell holes colours) (omega arith, holes-below 0 holes colours h.few 1 (omega arith)) (s.0, holes-sound holes colours s.1)

pub ring-groups : (shell : List Coordinates) (holes : List (List Coordinates)) (colours : List ℕ) → IsColouring (map box_of holes) colours
    → group_count (groups_of (pieces_in (rings_in shell holes colours))) ≤ length (shell ∷ holes)
ring-groups shell holes colours h =
    few-groups (suc (length holes)) (groups_of (pieces_in (rings_in shell holes colours)))
    (each-group (λ g. g < suc (length holes)) (rings_in shell holes colours) (first (length holes), each (length-map holes box_of) holes colours (each-below (map box_of holes) colours h)))
  where
    first : (n : ℕ) → 0 < suc n
    first n = omega arith

    next : (c m l : ℕ) → m ≡ l → c < m → c + 1 < suc l
    next c m l e k = omega (arith, e, k)

    each : length (map box_of holes) ≡ length holes → (hs : List (List Coordinates)) (cs : List ℕ) → AllByRecursion (λ c. c < length (map box_of holes)) cs
        → AllByRecursion (λ (r : GroupedRing). r.1 < suc (length holes)) (holes_in hs cs)
    each e [] cs k = tt
    each e (x ∷ hs) [] k = tt
    each e (x ∷ hs) (c ∷ cs) k = (next c (length (map box_of holes)) (length holes) e k.0, each e hs cs k.1)

-- ---- of polygons
some-rings : (rings : List (List Coordinates)) → cond (is_some (box_of (joined rings))) 1 0 ≤ length rings
some-rings [] = omega arith
some-rings (r ∷ rings) = at_most (is_some (box_of (joined (r ∷ rings))))
  where
    at_most : (b : Bool) → cond b 1 0 ≤ suc (length rings)
    at_most true = omega arith
    at_most false = omega arith

below-append : (n m c : ℕ) (rings : List (List Coordinates)) (others : List GroupedRing) → c ≤ n → m ≡ n + length rings → AreBelow m others → AreBelow n (grouped c rings ++ others)
below-append n m c [] others h e k = subst (λ l. AreBelow l others) (e ∙ none n) k
  where
    none : (l : ℕ) → l + 0 ≡ l
    none l = omega arith
below-append n m c (r ∷ rings) others h e k = (h, below-append (n + 1) m c rings others (omega (arith, h)) (e ∙ moved n (length rings)) k)
  where
    moved : (a b : ℕ) → a + suc b ≡ a + 1 + b
    moved a b = omega arith

polygons-below : (n : ℕ) (polygons : List (List (List Coordinates))) (colours : List ℕ) → AreFew n (zip (map (λ rings. box_of (joined rings)) polygons) colours)
    → (m : ℕ) → n ≤ m → AreBelow m (polygons_in polygons colours)
polygons-below n [] colours h m l = tt
polygons-below n (rings ∷ polygons) [] h m l = tt
polygons-below n (rings ∷ polygons) (c ∷ colours) h m l =
    below-append m (m + length rings) c rings (polygons_in polygons colours) (omega (arith, h.0, l)) refl
    (polygons-below (n + cond (is_some (box_of (joined rings))) 1 0) polygons colours h.1 (m + length rings)
    (up (cond (is_some (box_of (joined rings))) 1 0) (length rings) (some-rings rings)))
  where
    up : (a b : ℕ) → a ≤ b → n + a ≤ m + b
    up a b k = omega (arith, k, l)

polygons-sound : (polygons : List (List (List Coordinates))) (colours : List ℕ) → AllByRecursion IsSound (joined polygons) → AllByRecursion (λ (r : GroupedRing). IsSound r.0) (polygons_in polygons colours)
polygons-sound [] colours h = tt
polygons-sound (rings ∷ polygons) [] h = tt
polygons-sound (rings ∷ polygons) (c ∷ colours) h =
    let parts = each-parts IsSound rings (joined polygons) h in
    each-append (λ (r : GroupedRing). IsSound r.0) (grouped c rings) (polygons_in polygons colours) (all-one rings parts.0) (polygons-sound polygons colours parts.1)
  where
    all-one : (rs : List (List Coordinates)) → AllByRecursion IsSound rs → AllByRecursion (λ (r : GroupedRing). IsSound r.0) (grouped c rs)
    all-one [] k = tt
    all-one (r ∷ rs) k = (k.0, all-one rs k.1)

pub polygons-grouped : (polygons : List (List (List Coordinates))) (colours : List ℕ) → AllByRecursion IsSound (joined polygons)
    → IsColouring (map (λ rings. box_of (joined rings)) polygons) colours → HasGroups (pieces_in (polygons_in polygons colours))
polygons-grouped polygons colours s h =
    has-groups (polygons_in polygons colours) (polygons-below 0 polygons colours h.few 0 (omega arith)) (polygons-sound polygons colours s)

pub polygon-groups : (polygons : List (List (List Coordinates))) (colours : List ℕ) → IsColouring (map (λ rings. box_of (joined rings)) polygons) colours
    → group_count (groups_of (pieces_in (polygons_in polygons colours))) ≤ length polygons
polygon-groups polygons colours h =
    few-groups (length polygons) (groups_of (pieces_in (polygons_in polygons colours)))
    (each-group (λ g. g < length polygons) (polygons_in polygons colours)
    (each polygons colours
    (each-map (λ c. c < length (map (λ (rings : List (List Coordinates)). box_of (joined rings)) polygons)) (λ c. c < length polygons) colours
    (λ c k. subst (λ l. c < l) (length-map polygons (λ (rings : List (List Coordinates)). box_of (joined rings))) k) (each-below (map (λ rings. box_of (joined rings)) polygons) colours h))))
  where
    all-one : (c : ℕ) (rs : List (List Coordinates)) (others : List GroupedRing) → c < length polygons → AllByRecursion (λ (r : GroupedRing). r.1 < length polygons) others
        → AllByRecursion (λ (r : GroupedRing). r.1 < length polygons) (grouped c rs ++ others)
    all-one c [] others k l = l
    all-one c (r ∷ rs) others k l = (k, all-one c rs others k l)

    each : (ps : List (List (List Coordinates))) (cs : List ℕ) → AllByRecursion (λ c. c < length polygons) cs → AllByRecursion (λ (r : GroupedRing). r.1 < length polygons) (polygons_in ps cs)
    each [] cs k = tt
    each (p ∷ ps) [] k = tt
    each (p ∷ ps) (c ∷ cs) k = all-one c p (polygons_in ps cs) k.0 (each ps cs k.1)
