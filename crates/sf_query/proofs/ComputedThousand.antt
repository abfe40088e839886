-- A query over a thousand points, computed.
use Rattle.std.specs.Prelude.{◌≡◌, ℕ, zero, suc, ◌+◌, ◌/◌, ◌%◌, pos, List, [], ◌∷◌, refl, length}
use Rattle.sf_grid.specs.Plane.{Coordinates}
use Rattle.sf_geometry.specs.declared.geometry.Geometry.{Geometry}
use Rattle.sf_geometry.specs.declared.geometry.Geometry.TheVariants.{Point, Polygon}
use Rattle.sf_features.specs.Features.{FeatureContent, plain_feature}
use Rattle.sf_layers.specs.declared.layer_kind.LayerKind.TheVariants.{Any}
use Rattle.sf_layers.specs.Content.{LayerContent}
use Rattle.sf_known.specs.declared.predicate.Predicate.TheVariants.{Disjoint, Intersects}
use Rattle.sf_query.specs.declared.ask.Ask.TheVariants.{Named}
use Rattle.sf_query.specs.Answers.{ids_found, looked_at}

at : ℕ → ℕ → Coordinates
at x y = record { x = pos x; y = pos y }

given : Geometry
given = Polygon ((at 5 5 ∷ at 9 5 ∷ at 9 9 ∷ at 5 9 ∷ at 5 5 ∷ []) ∷ [])

-- points in rows of 40, n of them from number i on
points : ℕ → ℕ → List (ℕ × FeatureContent)
points zero i = []
points (suc n) i = (i + 1, plain_feature (Point (at (i % 40) (i / 40)))) ∷ points n (i + 1)

layer : ℕ → LayerContent
layer n = record { kind = Any; next_id = n + 1; next_column = 1; columns = []; features = points n 0 }

looked_near : looked_at (layer 1000) (Named Intersects) given ≡ 25
unfolding layer points given at
looked_near = refl

looked_all : looked_at (layer 1000) (Named Disjoint) given ≡ 1000
unfolding layer points given at
looked_all = refl

-- the points that the square has, boundary included
met : ids_found (layer 1000) (Named Intersects) given
    ≡ 206 ∷ 207 ∷ 208 ∷ 209 ∷ 210
    ∷ 246 ∷ 247 ∷ 248 ∷ 249 ∷ 250
    ∷ 286 ∷ 287 ∷ 288 ∷ 289 ∷ 290
    ∷ 326 ∷ 327 ∷ 328 ∷ 329 ∷ 330
    ∷ 366 ∷ 367 ∷ 368 ∷ 369 ∷ 370 ∷ []
unfolding layer points given at
met = refl

-- the other ones
missed : length (ids_found (layer 1000) (Named Disjoint) given) ≡ 975
unfolding layer points given at
missed = refl
