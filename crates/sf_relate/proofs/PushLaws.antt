-- The edges of lists, each list in the group, are the edges of all of them in the group.
use Rattle.std.proofs.Common.{◌≡◌, refl, ap, sym, ◌∙◌, subst, ℕ, List, [], ◌∷◌, ◌++◌, map}
use Rattle.std.specs.Prelude.{OnOk, Result}
use Rattle.std.specs.List.{flat_map}
use Rattle.sf_grid.specs.Plane.{Coordinates}
use Rattle.sf_geometry.specs.declared.geometry.Geometry.{Geometry}
use Rattle.sf_geometry.specs.Lists.{edges_of}
use Rattle.sf_pieces.specs.Marked.{Marked, marked, piece_of}
use Rattle.sf_polygons.proofs.TestLaws.{map-join}
use Rattle.sf_relate.specs.AllPieces.{lists_in, pieces_of}

lists-marked : (group : ℕ) (lists : List (List Coordinates)) → lists_in group lists ≡ marked group (map piece_of (flat_map edges_of lists))
lists-marked group [] = refl
lists-marked group (ps ∷ lists) =
    ap (λ ms. marked group (map piece_of (edges_of ps)) ++ ms) (lists-marked group lists)
    ∙ sym (map-join (λ piece. (piece, group)) (map piece_of (edges_of ps)) (map piece_of (flat_map edges_of lists)))
    ∙ ap (marked group) (sym (map-join piece_of (edges_of ps) (flat_map edges_of lists)))

-- where the edges of lists were added, the pieces of a geometry of these lists were
pub pushed-lists : {E : Type 0} (r : Result (Unit {0}) E) (old new : List Marked) (group : ℕ) (lists pushed : List (List Coordinates)) (a : Geometry)
    → pushed ≡ lists → pieces_of a ≡ map piece_of (flat_map edges_of lists) → OnOk r (new ≡ old ++ lists_in group pushed)
    → OnOk r (new ≡ old ++ marked group (pieces_of a))
pushed-lists r old new group lists pushed a e is h =
    let P : List Marked → Type 0 = λ ms. OnOk r (new ≡ old ++ ms) in
    subst P (ap (lists_in group) e ∙ lists-marked group lists ∙ ap (marked group) (sym is)) h
