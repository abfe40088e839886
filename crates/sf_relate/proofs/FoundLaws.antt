-- What is known of two geometries from the start, or from edges that cross, holds of their matrix.
use Rattle.std.proofs.Common.{◌≡◌, refl, sym, subst, Bool, true, false, List, IsTrue, IfSome}
use Rattle.std.specs.Prelude.{None, Option, Some, unwrap_or}
use Rattle.sf_known.specs.declared.known.Known.{Known}
use Rattle.std.proofs.lemmas.Bool.{both_ways}
use Rattle.sf_geometry.specs.declared.geometry.Geometry.{Geometry}
use Rattle.sf_plane.specs.declared.dim.Dim.{Dim}
use Rattle.sf_known.proofs.OrderLaws.{at-most-two}
use Rattle.sf_known.specs.Known.{Holds, nothing_known}
use Rattle.sf_known.specs.Patterns.{has_contact}
use Rattle.sf_relate.specs.Areas.{Overlap, known_overlapping, overlapping_entries}
use Rattle.sf_relate.specs.Matrices.{matrix_of}

no-share : (m : List Dim) → IsTrue false → IsTrue (has_contact m)
no-share m h = absurd (both_ways false refl h)

-- of no entry anything
pub nothing-holds : (a b : Geometry) → Holds nothing_known (matrix_of a b)
nothing-holds a b =
    record {
      least = (refl, (refl, (refl, (refl, (refl, (refl, (refl, (refl, (refl, refl)))))))));
      most = (at-most-two _, (at-most-two _, (at-most-two _, (at-most-two _, (at-most-two _, (at-most-two _, (at-most-two _, (at-most-two _, (at-most-two _, refl)))))))));
      contact = no-share (matrix_of a b);
    }

-- areas that overlap
overlapping-holds : (along : Bool) → Holds known_overlapping (overlapping_entries along)
overlapping-holds true =
    record {
      least = (refl, (refl, (refl, (refl, (refl, (refl, (refl, (refl, (refl, refl)))))))));
      most = (refl, (refl, (refl, (refl, (refl, (refl, (refl, (refl, (refl, refl)))))))));
      contact = no-share (overlapping_entries true);
    }
overlapping-holds false =
    record {
      least = (refl, (refl, (refl, (refl, (refl, (refl, (refl, (refl, (refl, refl)))))))));
      most = (refl, (refl, (refl, (refl, (refl, (refl, (refl, (refl, (refl, refl)))))))));
      contact = no-share (overlapping_entries false);
    }

pub overlap-holds : (a b : Geometry) → Overlap a b → Holds known_overlapping (matrix_of a b)
overlap-holds a b h = subst (Holds known_overlapping) (sym h.matrix) (overlapping-holds h.along)

-- what is known, or else nothing
pub known-or : (found : Option Known) (a b : Geometry) (other : Known) → IfSome found (λ known. Holds known (matrix_of a b)) → other ≡ nothing_known → Holds (unwrap_or found other) (matrix_of a b)
known-or None a b other h is = subst (λ (k : Known). Holds k (matrix_of a b)) (sym is) (nothing-holds a b)
known-or (Some known) a b other h is = h
