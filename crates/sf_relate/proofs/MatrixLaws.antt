-- What a walk over the cells of two geometries has found.
use Rattle.std.proofs.Common.{◌≡◌, ap, sym, ◌∙◌, subst, Bool, List, [], ◌∷◌, fold, length}
use Rattle.sf_classes.specs.Classes.{Represent, WereHanded}
use Rattle.sf_geometry.specs.declared.geometry.Geometry.{Geometry}
use Rattle.sf_plane.specs.declared.dim.Dim.{Dim}
use Rattle.sf_valid_rules.specs.Validity.{IsValid}
use Rattle.sf_pieces.specs.Marked.{Marked, groups_of, items_of, pieces_of}
use Rattle.sf_known.specs.declared.aim.Aim.{Aim}
use Rattle.sf_known.specs.declared.known.Known.{Known}
use Rattle.sf_known.specs.Known.{AreAtMost, Holds}
use Rattle.sf_relate.specs.declared.shape.Shape.{Shape}
use Rattle.sf_relate.specs.AllPieces.{all_grouped}
use Rattle.sf_relate.specs.Matrices.{IsMatrix, matrix_of}
use Rattle.sf_relate.specs.Places.{Gathered, begun, found_by, is_areal, shape_of, with_cell}
use Rattle.sf_relate.proofs.FoldLaws.{table-of-items}
use Rattle.sf_relate.proofs.SinkLaws.{IsFound, IsGatheredOf, fold-from, found-left, gathered-from}
use Rattle.sf_relate.proofs.SetLaws.{matrices_are_over_the_plane}

-- what a sink has in the end, that was handed the cells of two geometries
gathered-is : (a b : Geometry) (ms : List Marked) (areal : List Bool) (aim : Aim) (known : Known) (old new : Gathered) → IsValid a → IsValid b
    → length known.least ≡ 9 → AreAtMost known.least (matrix_of a b) → ms ≡ all_grouped a b → areal ≡ is_areal (shape_of a) ∷ is_areal (shape_of b) ∷ []
    → old ≡ begun (shape_of a) (shape_of b) aim known → WereHanded (pieces_of ms) (groups_of ms) areal with_cell old new → IsGatheredOf known aim (matrix_of a b) new
gathered-is a b ms areal aim known old new v w n low e f o h =
    let P : List Marked → Type 0 = λ ns. Represent areal h.items (items_of ns) in
    let Q : List Bool → Type 0 = λ bs. Represent bs h.items (items_of (all_grouped a b)) in
    let same = table-of-items a b h.items v w (subst Q f (subst P e h.represent)) in
    let shape = shape_of a in
    let other = shape_of b in
    subst (IsGatheredOf known aim (matrix_of a b)) (sym (h.handed ∙ ap (λ g. fold with_cell g h.items) o))
    (subst (λ es. IsGatheredOf known aim es (fold with_cell (begun shape other aim known) h.items))
    (fold-from shape other known.least h.items n (subst (AreAtMost known.least) (sym same) low) ∙ same)
    (gathered-from shape other aim known h.items n))

-- what is known then
pub found-is : (a b : Geometry) (ms : List Marked) (areal : List Bool) (aim : Aim) (known : Known) (old new : Gathered) → IsValid a → IsValid b
    → length known.least ≡ 9 → Holds known (matrix_of a b) → ms ≡ all_grouped a b → areal ≡ is_areal (shape_of a) ∷ is_areal (shape_of b) ∷ []
    → old ≡ begun (shape_of a) (shape_of b) aim known → WereHanded (pieces_of ms) (groups_of ms) areal with_cell old new → IsFound known aim (matrix_of a b) (found_by new)
found-is a b ms areal aim known old new v w n holds e f o h =
    found-left known aim (matrix_of a b) new holds (gathered-is a b ms areal aim known old new v w n holds.least e f o h)

pub begun-with : (f g first second : Shape) (aim : Aim) (known : Known) → f ≡ first → g ≡ second → begun f g aim known ≡ begun first second aim known
begun-with f g first second aim known h k = ap (λ s. begun s g aim known) h ∙ ap (λ s. begun first s aim known) k

pub matrix-over-plane : (a b : Geometry) (entries : List Dim) → entries ≡ matrix_of a b → IsMatrix a b entries
matrix-over-plane a b entries e = subst (IsMatrix a b) (sym e) (matrices_are_over_the_plane a b).computed
