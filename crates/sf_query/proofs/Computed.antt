-- Queries of a small layer, computed.
use Rattle.std.specs.Prelude.{◌≡◌, ℕ, pos, [], ◌∷◌, codes, refl, Some, option_map}
use Rattle.sf_grid.specs.Plane.{Coordinates}
use Rattle.sf_geometry.specs.declared.geometry.Geometry.{Geometry}
use Rattle.sf_geometry.specs.declared.geometry.Geometry.TheVariants.{Point, Polygon}
use Rattle.sf_features.specs.Features.{plain_feature}
use Rattle.sf_layers.specs.declared.layer_kind.LayerKind.TheVariants.{Any}
use Rattle.sf_layers.specs.Content.{LayerContent}
use Rattle.sf_known.specs.declared.predicate.Predicate.TheVariants.{Disjoint, Intersects}
use Rattle.sf_known.specs.Patterns.{pattern_of}
use Rattle.sf_query.specs.declared.ask.Ask.TheVariants.{Matching, Named}
use Rattle.sf_query.specs.Answers.{ids_found, looked_at}

at : ℕ → ℕ → Coordinates
at x y = record { x = pos x; y = pos y }

square : Geometry
square = Polygon ((at 0 0 ∷ at 10 0 ∷ at 10 10 ∷ at 0 10 ∷ at 0 0 ∷ []) ∷ [])

corner : Geometry
corner = Polygon ((at 0 0 ∷ at 30 0 ∷ at 30 2 ∷ at 2 2 ∷ at 2 30 ∷ at 0 30 ∷ at 0 0 ∷ []) ∷ [])

given : Geometry
given = Polygon ((at 20 20 ∷ at 25 20 ∷ at 25 25 ∷ at 20 25 ∷ at 20 20 ∷ []) ∷ [])

layer : LayerContent
layer =
    record {
      kind = Any;
      next_id = 4;
      next_column = 1;
      columns = [];
      features = (1, plain_feature square) ∷ (2, plain_feature corner) ∷ (3, plain_feature (Point (at 22 22))) ∷ [];
    }

disjoint_found : ids_found layer (Named Disjoint) given ≡ 1 ∷ 2 ∷ []
unfolding layer square corner given at
disjoint_found = refl

disjoint_looks_at_all : looked_at layer (Named Disjoint) given ≡ 3
unfolding layer square corner given at
disjoint_looks_at_all = refl

intersects_found : ids_found layer (Named Intersects) given ≡ 3 ∷ []
unfolding layer square corner given at
intersects_found = refl

-- the corner's box meets the given square, the corner itself doesn't
intersects_looks_at_near : looked_at layer (Named Intersects) given ≡ 2
unfolding layer square corner given at
intersects_looks_at_near = refl

matching_found : option_map (λ letters. ids_found layer (Matching letters) given) (pattern_of (codes "T*F**F***")) ≡ Some (3 ∷ [])
unfolding layer square corner given at
matching_found = refl
