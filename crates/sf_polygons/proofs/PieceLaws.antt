-- What a point counts of rings in groups: whether it is on a ring of a group, the parity of the edges above it, all edges on it.
use Rattle.std.proofs.Common.{◌≡◌, refl, ap, sym, ◌∙◌, ℕ, ◌==◌, Bool, true, false, ◌&&◌, List, [], ◌∷◌, ◌++◌, map, nat_lt}
use Rattle.std.specs.List.{count_by, flat_map, list_any}
use Rattle.sf_grid.specs.Plane.{Coordinates, Point}
use Rattle.sf_grid.specs.Edge.{Edge, edge_above, on_edge}
use Rattle.sf_grid.specs.EvenOdd.{edges_above, is_odd}
use Rattle.sf_strips.specs.declared.piece.Piece.{Piece}
use Rattle.sf_cells.specs.Pieces.{is_above, is_on}
use Rattle.sf_geometry.specs.Lists.{edges_of}
use Rattle.sf_geometry.specs.PointSets.{on_line}
use Rattle.sf_pieces.specs.Marked.{Marked, above_in, on_in, piece_of, pieces_of}
use Rattle.sf_polygons.specs.Rings.{GroupedRing, edges_in, pieces_in}
use Rattle.sf_polygons.proofs.TestLaws.{any-and, any-flat, any-map, any-same, count-flat, count-map, count-never, map-join, odd-flat, odd-same, odd_many, some-count}

-- an odd number of the ring's edges is above the point
abbrev pub parity : Point → List Coordinates → Bool
parity p ring = is_odd (edges_above p (edges_of ring))

-- the pieces of a group on a point
abbrev on_piece : ℕ → Point → Marked → Bool
on_piece g p m = (m.1 == g) && is_on p m.0

abbrev above_piece : ℕ → Point → Marked → Bool
above_piece g p m = (m.1 == g) && is_above p m.0

on-ring : (g : ℕ) (p : Point) (h : ℕ) (ring : List Coordinates) → list_any (on_piece g p) (edges_in h ring) ≡ ((h == g) && on_line ring p)
on-ring g p h ring =
    any-map (on_piece g p) (λ piece. (piece, h)) (map piece_of (edges_of ring))
    ∙ any-map (λ piece. (h == g) && is_on p piece) piece_of (edges_of ring)
    ∙ any-and (h == g) (λ e. on_edge e p) (edges_of ring)

pub on-group : (rings : List GroupedRing) (g : ℕ) (p : Point) → nat_lt 0 (on_in g (pieces_in rings) p) ≡ list_any (λ (r : GroupedRing). (r.1 == g) && on_line r.0 p) rings
on-group rings g p =
    some-count (on_piece g p) (pieces_in rings)
    ∙ any-flat (on_piece g p) (λ (r : GroupedRing). edges_in r.1 r.0) rings
    ∙ any-same (λ (r : GroupedRing). list_any (on_piece g p) (edges_in r.1 r.0)) (λ (r : GroupedRing). (r.1 == g) && on_line r.0 p) rings (λ r. on-ring g p r.1 r.0)

odd-and : {A : Type 0} (b : Bool) (t : A → Bool) (xs : List A) → is_odd (count_by (λ x. b && t x) xs) ≡ (b && is_odd (count_by t xs))
odd-and true t xs = refl
odd-and false t xs = ap is_odd (count-never xs)

above-ring : (g : ℕ) (p : Point) (h : ℕ) (ring : List Coordinates) → is_odd (count_by (above_piece g p) (edges_in h ring)) ≡ ((h == g) && parity p ring)
above-ring g p h ring =
    ap is_odd
    (count-map (above_piece g p) (λ piece. (piece, h)) (map piece_of (edges_of ring)) ∙ count-map (λ piece. (h == g) && is_above p piece) piece_of (edges_of ring))
    ∙ odd-and (h == g) (λ e. edge_above e p) (edges_of ring)

pub odd-group : (rings : List GroupedRing) (g : ℕ) (p : Point) → is_odd (above_in g (pieces_in rings) p) ≡ odd_many (map (λ (r : GroupedRing). (r.1 == g) && parity p r.0) rings)
odd-group rings g p =
    odd-flat (above_piece g p) (λ (r : GroupedRing). edges_in r.1 r.0) rings
    ∙ odd-same (λ (r : GroupedRing). is_odd (count_by (above_piece g p) (edges_in r.1 r.0))) (λ (r : GroupedRing). (r.1 == g) && parity p r.0) rings (λ r. above-ring g p r.1 r.0)

-- ---- all edges, whatever their groups
abbrev pub rings_of : List GroupedRing → List (List Coordinates)
rings_of rings = map (λ (r : GroupedRing). r.0) rings

abbrev pub all_edges : List (List Coordinates) → List Edge
all_edges rings = flat_map edges_of rings

flat-map : {A B C : Type 0} (f : B → List C) (g : A → B) (xs : List A) → flat_map (λ x. f (g x)) xs ≡ flat_map f (map g xs)
flat-map f g [] = refl
flat-map f g (x ∷ xs) = ap (λ ys. f (g x) ++ ys) (flat-map f g xs)

pub on-all : (rings : List GroupedRing) (p : Point) → count_by (λ (m : Marked). is_on p m.0) (pieces_in rings) ≡ count_by (λ e. on_edge e p) (all_edges (rings_of rings))
on-all rings p =
    count-flat (λ (m : Marked). is_on p m.0) (λ (r : GroupedRing). edges_in r.1 r.0) (λ e. on_edge e p) (λ (r : GroupedRing). edges_of r.0) rings (λ r. one r.1 r.0)
    ∙ ap (count_by (λ e. on_edge e p)) (flat-map edges_of (λ (r : GroupedRing). r.0) rings)
  where
    one : (h : ℕ) (ring : List Coordinates) → count_by (λ (m : Marked). is_on p m.0) (edges_in h ring) ≡ count_by (λ e. on_edge e p) (edges_of ring)
    one h ring =
        count-map (λ (m : Marked). is_on p m.0) (λ piece. (piece, h)) (map piece_of (edges_of ring)) ∙ count-map (is_on p) piece_of (edges_of ring)

unmarked : (h : ℕ) (ps : List Piece) → pieces_of (map (λ piece. (piece, h)) ps) ≡ ps
unmarked h [] = refl
unmarked h (p ∷ ps) = ap (λ qs. p ∷ qs) (unmarked h ps)

pub pieces-are : (rings : List GroupedRing) → pieces_of (pieces_in rings) ≡ map piece_of (all_edges (rings_of rings))
pieces-are [] = refl
pieces-are (r ∷ rings) =
    map-join (λ (m : Marked). m.0) (edges_in r.1 r.0) (pieces_in rings)
    ∙ ap (λ ps. ps ++ pieces_of (pieces_in rings)) (unmarked r.1 (map piece_of (edges_of r.0)))
    ∙ ap (λ ps. map piece_of (edges_of r.0) ++ ps) (pieces-are rings)
    ∙ sym (map-join piece_of (edges_of r.0) (all_edges (rings_of rings)))
