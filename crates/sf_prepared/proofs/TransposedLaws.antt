-- The matrix of two geometries the other way round has its columns as rows: the points of two sets are those of the two the other way round.
use Rattle.std.proofs.Common.{◌≡◌, ap, ◌∙◌, sym, subst}
use Rattle.std.proofs.Math.Bool.{and_comm}
use Rattle.std.proofs.Math.Path.{fun_ext}
use Rattle.sf_geometry.specs.declared.geometry.Geometry.{Geometry}
use Rattle.sf_geometry.specs.PointSets.{in_boundary, in_exterior, in_interior}
use Rattle.sf_plane.specs.declared.dim.Dim.{Dim}
use Rattle.sf_plane.specs.Dimension.{HasDimension, PointSet}
use Rattle.sf_relate.specs.Matrices.{IsMatrix, both, matrix_of}
use Rattle.sf_known.specs.declared.matrix.Matrix.{Matrix}
use Rattle.sf_relate.proofs.SetLaws.{matrices_are_over_the_plane}
use Rattle.sf_prepared.specs.Transposed.{MatricesAreTransposed}
use Rattle.sf_known.specs.Transposed.{transposed}

turned : (s t : PointSet) (d : Dim) → HasDimension (both s t) d → HasDimension (both t s) d
turned s t d h = subst (λ (set : PointSet). HasDimension set d) (fun_ext (λ q. and_comm (s q) (t q))) h

is-matrix : (a b : Geometry) → IsMatrix b a (transposed (matrix_of a b))
is-matrix a b =
    let h = (matrices_are_over_the_plane a b).computed in (
      turned (in_interior a) (in_interior b) _ h.0,
      (
        turned (in_boundary a) (in_interior b) _ h.1.1.1.0,
        (
          turned (in_exterior a) (in_interior b) _ h.1.1.1.1.1.1.0,
          (
            turned (in_interior a) (in_boundary b) _ h.1.0,
            (
              turned (in_boundary a) (in_boundary b) _ h.1.1.1.1.0,
              (
                turned (in_exterior a) (in_boundary b) _ h.1.1.1.1.1.1.1.0,
                (
                  turned (in_interior a) (in_exterior b) _ h.1.1.0,
                  (
                    turned (in_boundary a) (in_exterior b) _ h.1.1.1.1.1.0,
                    (turned (in_exterior a) (in_exterior b) _ h.1.1.1.1.1.1.1.1.0, tt),
                  ),
                ),
              ),
            ),
          ),
        ),
      ),
    )

pub matrices_are_transposed : MatricesAreTransposed
matrices_are_transposed a b = sym ((matrices_are_over_the_plane b a).only (transposed (matrix_of a b)) (is-matrix a b))

-- ---- as it is called
pub told-transposed : (a b : Geometry) (matrix result : Matrix) → matrix.0 ≡ matrix_of b a → result.0 ≡ transposed matrix.0 → result.0 ≡ matrix_of a b
told-transposed a b matrix result is turn = turn ∙ ap transposed is ∙ sym (matrices_are_transposed b a)
