-- What evidence shows is so of the matrix.
use Rattle.std.proofs.Common.{◌≡◌, ◌∙◌, ap, not, Bool, false, List, [], ◌∷◌, Option, None, Some, IfSome, IsTrue, refl, sym, subst, option_map, true}
use Rattle.std.specs.Bool.{then_some}
use Rattle.std.proofs.lemmas.Bool.{both_ways}
use Rattle.sf_grid.specs.Plane.{Coordinates, grid_point}
use Rattle.sf_geometry.specs.declared.geometry.Geometry.{Geometry}
use Rattle.sf_geometry.specs.declared.geometry.Geometry.TheVariants.{Point}
use Rattle.sf_plane.specs.declared.dim.Dim.{Dim}
use Rattle.sf_plane.specs.declared.dim.Dim.TheVariants.{Nothing, Two, Zero}
use Rattle.sf_valid_rules.specs.Validity.{IsValid}
use Rattle.sf_known.specs.declared.known.Known.{Known}
use Rattle.sf_known.specs.declared.matrix.Matrix.{Matrix}
use Rattle.sf_known.proofs.KnownLaws.{both_hold}
use Rattle.sf_known.proofs.OrderLaws.{same-at-most}
use Rattle.sf_known.proofs.PlacedLaws.{contact_is_placed}
use Rattle.sf_known.specs.Known.{AreAtMost, Holds, contact_placed, exactly, known_by_both, nothing_known}
use Rattle.sf_known.specs.Patterns.{has_contact}
use Rattle.sf_relate.specs.declared.place.Place.{Place}
use Rattle.sf_relate.specs.declared.place.Place.TheVariants.{Boundary, Exterior, Interior}
use Rattle.sf_relate.specs.Matrices.{matrix_of}
use Rattle.sf_relate.specs.Placed.{known_of_place}
use Rattle.sf_relate.specs.Places.{IsPlaceOf}
use Rattle.sf_known.specs.declared.predicate.Predicate.TheVariants.{Disjoint, Intersects}
use Rattle.sf_query.specs.Answers.{dim_of_geometry, is_asked}
use Rattle.sf_query.specs.declared.ask.Ask.{Ask}
use Rattle.sf_query.specs.declared.ask.Ask.TheVariants.{Named}
use Rattle.sf_relate.proofs.SharedLaws.{contact_is_shared}
use Rattle.sf_relate.proofs.PointLaws.{places_are_known}
use Rattle.sf_relate.proofs.FoundLaws.{nothing-holds}
use Rattle.sf_prepared.proofs.TransposedLaws.{matrices_are_transposed}
use Rattle.sf_known.specs.Transposed.{known_transposed}

-- nine entries that are at most others are so by columns too
columns-at_most : (a b c d e f g h i j k l m n o p q r : Dim) → AreAtMost (a ∷ b ∷ c ∷ d ∷ e ∷ f ∷ g ∷ h ∷ i ∷ []) (j ∷ k ∷ l ∷ m ∷ n ∷ o ∷ p ∷ q ∷ r ∷ [])
    → AreAtMost (a ∷ d ∷ g ∷ b ∷ e ∷ h ∷ c ∷ f ∷ i ∷ []) (j ∷ m ∷ p ∷ k ∷ n ∷ q ∷ l ∷ o ∷ r ∷ [])
columns-at_most a b c d e f g h i j k l m n o p q r z =
    (z.0, (z.1.1.1.0, (z.1.1.1.1.1.1.0, (z.1.0, (z.1.1.1.1.0, (z.1.1.1.1.1.1.1.0, (z.1.1.0, (z.1.1.1.1.1.0, (z.1.1.1.1.1.1.1.1.0, refl)))))))))

-- the matrix itself
pub exactly-holds : (entries m : List Dim) → entries ≡ m → Holds (exactly entries) m
exactly-holds entries m e =
    record {
      least = subst (AreAtMost entries) e (same-at-most entries);
      most = subst (λ ds. AreAtMost ds entries) e (same-at-most entries);
      contact = λ h. absurd (both_ways false refl h);
    }

pub exactly-known : (known : Known) (matrix : Matrix) (m : List Dim) → known ≡ exactly matrix.0 → matrix.0 ≡ m → Holds known m
exactly-known known matrix m e is = subst (λ (k : Known). Holds k m) (sym e) (exactly-holds matrix.0 m is)

-- the matrix, where there is one
pub matrix-known : (given : Option Matrix) (known : Option Known) (m : List Dim) → known ≡ option_map (λ matrix. exactly matrix.0) given → IfSome given (λ matrix. matrix.0 ≡ m)
    → IfSome known (λ known. Holds known m)
matrix-known None known m e is = subst (λ (o : Option Known). IfSome o (λ known. Holds known m)) (sym e) tt
matrix-known (Some matrix) known m e is = subst (λ (o : Option Known). IfSome o (λ known. Holds known m)) (sym e) (exactly-holds matrix.0 m is)

-- contact alone
pub sharing-holds : (known : Known) (a b : Geometry) → known ≡ record nothing_known { contact = true } → IsTrue (has_contact (matrix_of a b)) → Holds known (matrix_of a b)
sharing-holds known a b is contact =
    let holds = nothing-holds a b in
    subst (λ (k : Known). Holds k (matrix_of a b)) (sym is) (record { least = holds.least; most = holds.most; contact = λ h. contact })

pub told-sharing : (told : Bool) (known : Known) (shown : Option Known) (a b : Geometry) → shown ≡ then_some told known → known ≡ record nothing_known { contact = true }
    → (told ≡ true → IsTrue (has_contact (matrix_of a b))) → IfSome shown (λ known. Holds known (matrix_of a b))
told-sharing true known shown a b e is contact = subst (λ (o : Option Known). IfSome o (λ k. Holds k (matrix_of a b))) (sym e) (sharing-holds known a b is (contact refl))
told-sharing false known shown a b e is contact = subst (λ (o : Option Known). IfSome o (λ k. Holds k (matrix_of a b))) (sym e) tt

-- what is known of the matrix with the geometry that is held
pub of-held : (shown : Option Known) (a g b : Geometry) → g ≡ b → IfSome shown (λ known. Holds known (matrix_of a g)) → IfSome shown (λ known. Holds known (matrix_of a b))
of-held shown a g b e h = subst (λ (x : Geometry). IfSome shown (λ known. Holds known (matrix_of a x))) e h

-- a Point's place
pub place-holds : (a b : Geometry) (p : Coordinates) (place : Place) → a ≡ Point p → IsValid a → IsValid b → IsPlaceOf b (grid_point p) place → Holds (known_of_place place) (matrix_of a b)
place-holds a b p place is v w at =
    subst (λ (g : Geometry). Holds (known_of_place place) (matrix_of g b)) (sym is) (places_are_known p b place (subst IsValid is v) w at)

-- the same of the first column, by the place of a given Point
no-share : (m : List Dim) → IsTrue false → IsTrue (has_contact m)
no-share m h = absurd (both_ways false refl h)

turned : (place : Place) (ii ib ie bi bb be ei eb ee : Dim) → Holds (known_of_place place) (ii ∷ ib ∷ ie ∷ bi ∷ bb ∷ be ∷ ei ∷ eb ∷ ee ∷ [])
    → Holds (known_transposed (known_of_place place)) (ii ∷ bi ∷ ei ∷ ib ∷ bb ∷ eb ∷ ie ∷ be ∷ ee ∷ [])
turned Interior ii ib ie bi bb be ei eb ee h =
    record {
      least = columns-at_most Zero Nothing Nothing Nothing Nothing Nothing Nothing Nothing Nothing ii ib ie bi bb be ei eb ee h.least;
      most = columns-at_most ii ib ie bi bb be ei eb ee Zero Nothing Nothing Nothing Nothing Nothing Two Two Two h.most;
      contact = no-share (ii ∷ bi ∷ ei ∷ ib ∷ bb ∷ eb ∷ ie ∷ be ∷ ee ∷ []);
    }
turned Boundary ii ib ie bi bb be ei eb ee h =
    record {
      least = columns-at_most Nothing Zero Nothing Nothing Nothing Nothing Nothing Nothing Nothing ii ib ie bi bb be ei eb ee h.least;
      most = columns-at_most ii ib ie bi bb be ei eb ee Nothing Zero Nothing Nothing Nothing Nothing Two Two Two h.most;
      contact = no-share (ii ∷ bi ∷ ei ∷ ib ∷ bb ∷ eb ∷ ie ∷ be ∷ ee ∷ []);
    }
turned Exterior ii ib ie bi bb be ei eb ee h =
    record {
      least = columns-at_most Nothing Nothing Zero Nothing Nothing Nothing Nothing Nothing Nothing ii ib ie bi bb be ei eb ee h.least;
      most = columns-at_most ii ib ie bi bb be ei eb ee Nothing Nothing Zero Nothing Nothing Nothing Two Two Two h.most;
      contact = no-share (ii ∷ bi ∷ ei ∷ ib ∷ bb ∷ eb ∷ ie ∷ be ∷ ee ∷ []);
    }

pub given-place-holds : (a b : Geometry) (p : Coordinates) (place : Place) → b ≡ Point p → IsValid a → IsValid b → IsPlaceOf a (grid_point p) place → Holds (known_transposed (known_of_place place)) (matrix_of a b)
given-place-holds a b p place is v w at =
    subst (λ (g : Geometry). Holds (known_transposed (known_of_place place)) (matrix_of a g)) (sym is)
    (subst (Holds (known_transposed (known_of_place place))) (sym (matrices_are_transposed (Point p) a))
    (turned place _ _ _ _ _ _ _ _ _ (places_are_known p a place (subst IsValid is w) v at)))

-- whether two geometries have contact tells what is asked of it by name
pub told-intersects : (told : Option Bool) (ask : Ask) (a g b : Geometry) → ask ≡ Named Intersects → g ≡ b → IfSome told (λ has. has ≡ has_contact (matrix_of a g)) → IfSome told (λ answer. answer ≡ is_asked ask a b)
told-intersects None ask a g b e same h = tt
told-intersects (Some has) ask a g b e same h =
    h
    ∙ ap (λ (x : Geometry). has_contact (matrix_of a x)) same
    ∙ sym ((contact_is_shared a b).intersects (dim_of_geometry a) (dim_of_geometry b))
    ∙ ap (λ (x : Ask). is_asked x a b) (sym e)

pub told-disjoint : (told answer : Option Bool) (ask : Ask) (a g b : Geometry) → answer ≡ option_map (λ has. not has) told → ask ≡ Named Disjoint → g ≡ b → IfSome told (λ has. has ≡ has_contact (matrix_of a g))
    → IfSome answer (λ answer. answer ≡ is_asked ask a b)
told-disjoint None answer ask a g b is e same h = subst (λ (o : Option Bool). IfSome o (λ answer. answer ≡ is_asked ask a b)) (sym is) tt
told-disjoint (Some has) answer ask a g b is e same h =
    subst (λ (o : Option Bool). IfSome o (λ answer. answer ≡ is_asked ask a b)) (sym is)
    (ap not (h ∙ ap (λ (x : Geometry). has_contact (matrix_of a x)) same)
    ∙ sym ((contact_is_shared a b).disjoint (dim_of_geometry a) (dim_of_geometry b))
    ∙ ap (λ (x : Ask). is_asked x a b) (sym e))

-- what is known and what is shown, put together
pub together : (known shown both placed : Known) (a b : Geometry) → both ≡ known_by_both known shown → placed ≡ contact_placed both → Holds known (matrix_of a b) → Holds shown (matrix_of a b) → Holds placed (matrix_of a b)
together known shown both placed a b is_both is_placed h k =
    subst (λ (k : Known). Holds k (matrix_of a b)) (sym is_placed)
    (contact_is_placed both (matrix_of a b) refl (subst (λ (k : Known). Holds k (matrix_of a b)) (sym is_both) (both_hold known shown (matrix_of a b) h k)))

pub both-known : (known shown both : Known) (m : List Dim) → both ≡ known_by_both known shown → Holds known m → Holds shown m → Holds both m
both-known known shown both m is h k = subst (λ (k : Known). Holds k m) (sym is) (both_hold known shown m h k)
