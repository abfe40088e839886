-- Features that chains lead to, computed.
use Rattle.std.specs.Prelude.{◌≡◌, ℕ, true, false, List, [], ◌∷◌, Option, None, Some, pos, refl}
use Rattle.sf_grid.specs.Plane.{Coordinates}
use Rattle.sf_geometry.specs.declared.geometry.Geometry.TheVariants.{LineString, Point}
use Rattle.sf_features.specs.Features.{FeatureContent, plain_feature}
use Rattle.sf_layers.specs.Content.{LayerContent}
use Rattle.sf_layers.specs.declared.layer_kind.LayerKind.TheVariants.{Any}
use Rattle.sf_known.specs.declared.predicate.Predicate.TheVariants.{Equals, Intersects, Touches, Within}
use Rattle.sf_query.specs.declared.ask.Ask.{Ask}
use Rattle.sf_query.specs.declared.ask.Ask.TheVariants.{Named}
use Rattle.sf_reach.specs.Chains.{Stop}
use Rattle.sf_reach.specs.Answers.{ids_reached}

at : ℕ → ℕ → Coordinates
at x y = record { x = pos x; y = pos y }

pipe : Coordinates → Coordinates → FeatureContent
pipe a b = plain_feature (LineString (a ∷ b ∷ []))

valve : Coordinates → FeatureContent
valve a = plain_feature (Point a)

layer : List (ℕ × FeatureContent) → LayerContent
layer features = record { kind = Any; next_id = 9; next_column = 1; columns = []; features = features }

-- three pipes in a row, of which each touches the next
row : LayerContent
row = layer ((1, pipe (at 0 0) (at 10 0)) ∷ (2, pipe (at 10 0) (at 20 0)) ∷ (3, pipe (at 20 0) (at 30 0)) ∷ [])

-- chains end at pipes that a valve lies on
valves : Coordinates → Option Stop
valves place = Some (record { is_own = false; layer = layer ((1, valve place) ∷ []); ask = Named Intersects })

-- or at those that are as asked with another pipe
pipes : LayerContent → Ask → Option Stop
pipes own ask = Some (record { is_own = true; layer = own; ask = ask })

whole_row : ids_reached row (Named Touches) None (1 ∷ []) ≡ 1 ∷ 2 ∷ 3 ∷ []
unfolding row layer pipe at
whole_row = refl

up_to_the_valve : ids_reached row (Named Touches) (valves (at 15 0)) (1 ∷ []) ≡ 1 ∷ 2 ∷ []
unfolding row layer pipe at valves valve
up_to_the_valve = refl

given_at_the_valve : ids_reached row (Named Touches) (valves (at 15 0)) (2 ∷ []) ≡ 2 ∷ []
unfolding row layer pipe at valves valve
given_at_the_valve = refl

valve_elsewhere : ids_reached row (Named Touches) (valves (at 15 5)) (3 ∷ []) ≡ 1 ∷ 2 ∷ 3 ∷ []
unfolding row layer pipe at valves valve
valve_elsewhere = refl

-- of the own layer: no pipe equals another one, though each equals itself
until_another_equals : ids_reached row (Named Touches) (pipes row (Named Equals)) (1 ∷ []) ≡ 1 ∷ 2 ∷ 3 ∷ []
unfolding row layer pipe at pipes
until_another_equals = refl

-- each touches another one
until_another_touches : ids_reached row (Named Touches) (pipes row (Named Touches)) (1 ∷ []) ≡ 1 ∷ []
unfolding row layer pipe at pipes
until_another_touches = refl

ring : LayerContent
ring = layer ((4, pipe (at 0 10) (at 10 10)) ∷ (5, pipe (at 10 10) (at 10 20)) ∷ (6, pipe (at 10 20) (at 0 10)) ∷ [])

round_the_ring : ids_reached ring (Named Touches) None (5 ∷ []) ≡ 4 ∷ 5 ∷ 6 ∷ []
unfolding ring layer pipe at
round_the_ring = refl

-- the valve ends one way round, and not the other
ring_with_a_valve : ids_reached ring (Named Touches) (valves (at 5 10)) (5 ∷ []) ≡ 4 ∷ 5 ∷ 6 ∷ []
unfolding ring layer pipe at valves valve
ring_with_a_valve = refl

-- two that touch, and one apart
apart : LayerContent
apart = layer ((2, pipe (at 0 0) (at 10 0)) ∷ (5, pipe (at 0 7) (at 10 7)) ∷ (8, pipe (at 10 0) (at 20 0)) ∷ [])

not_the_one_apart : ids_reached apart (Named Touches) None (8 ∷ []) ≡ 2 ∷ 8 ∷ []
unfolding apart layer pipe at
not_the_one_apart = refl

alone : ids_reached apart (Named Touches) None (5 ∷ []) ≡ 5 ∷ []
unfolding apart layer pipe at
alone = refl

two_given : ids_reached apart (Named Touches) None (8 ∷ 5 ∷ 8 ∷ []) ≡ 2 ∷ 5 ∷ 8 ∷ []
unfolding apart layer pipe at
two_given = refl

none_given : ids_reached apart (Named Touches) None [] ≡ []
unfolding apart layer pipe at
none_given = refl

-- each lies within the next: chains go one way
nested : LayerContent
nested = layer ((1, pipe (at 0 0) (at 30 0)) ∷ (2, pipe (at 5 0) (at 20 0)) ∷ (3, pipe (at 6 0) (at 7 0)) ∷ [])

outwards : ids_reached nested (Named Within) None (2 ∷ []) ≡ 1 ∷ 2 ∷ []
unfolding nested layer pipe at
outwards = refl

outermost : ids_reached nested (Named Within) None (1 ∷ []) ≡ 1 ∷ []
unfolding nested layer pipe at
outermost = refl
