-- What covers a geometry is kept where what changed is looked at.
use Rattle.std.proofs.Common.{◌≡◌, ◌⊎◌, inl, inr, ℕ, Bool, true, false, ◌||◌, not, List, [], ◌∷◌, Some, refl}
use Rattle.sf_grid.specs.Plane.{Point as PlanePoint}
use Rattle.sf_geometry.specs.declared.geometry.Geometry.{Geometry}
use Rattle.sf_layers.specs.Content.{LayerContent, geometry_of}
use Rattle.sf_relate.specs.Contact.{is_in}
use Rattle.sf_cover.specs.Covered.{is_in_each, is_in_some}
use Rattle.sf_cover.specs.Near.{AreOf, CoverIsFound, CoverIsKeptNear, IsFoundCovered, IsInFeature}
use Rattle.sf_cover.proofs.CoverLaws.{cover-over}
use Rattle.sf_cover.proofs.Members.{any-contains}

-- a point in one of some features of a layer is in a feature of it
in-some : (layer : LayerContent) (near : List Geometry) (q : PlanePoint) → AreOf layer near → is_in_some near q ≡ true → IsInFeature layer q
in-some layer near q of h =
    let found = any-contains (λ g. is_in g q) near h in
    let there = of found.0 found.1 in
    record { id = there.0; geometry = found.0; there = there.1; has = found.2 }

in-one : (a : Geometry) (q : PlanePoint) → is_in a q ≡ true → is_in_each (a ∷ []) q ≡ true
in-one a q h = by (is_in a q) h
  where
    by : (b : Bool) → b ≡ true → not (not b || false) ≡ true
    by true k = refl
    by false k = cc

in-two : (a b : Geometry) (q : PlanePoint) → is_in a q ≡ true → is_in b q ≡ true → is_in_each (a ∷ b ∷ []) q ≡ true
in-two a b q h k = by (is_in a q) (is_in b q) h k
  where
    by : (s t : Bool) → s ≡ true → t ≡ true → not (not s || (not t || false)) ≡ true
    by true true h k = refl
    by true false h k = cc
    by false t h k = cc

pub cover-found : CoverIsFound
cover-found layer whole found q is inside =
    in-some layer found.near q found.there ((cover-over (whole ∷ []) found.near).0 found.found q is (in-one whole q inside))

pub cover-kept : CoverIsKeptNear
cover-kept old new whole covered each q is inside =
    let before = covered q is inside in
    by before.geometry before.has (each before.id before.geometry before.there) before.id
  where
    by : (a : Geometry) → is_in a q ≡ true → (k : (geometry_of new (covered q is inside).id ≡ Some a) ⊎ IsFoundCovered new (whole ∷ a ∷ [])) → ℕ → IsInFeature new q
    by a has (inl same) id = record { id = (covered q is inside).id; geometry = a; there = same; has = has }
    by a has (inr found) id =
        in-some new found.near q found.there ((cover-over (whole ∷ a ∷ []) found.near).0 found.found q is (in-two whole a q inside has))
