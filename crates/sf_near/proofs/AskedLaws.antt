-- Features that are as asked: what the answers come to, and that they are those over the plane.
use Rattle.std.proofs.Common.{◌≡◌, ◌∙◌, ℕ, true, List, filter, ap, nat_lt, subst}
use Rattle.sf_geometry.specs.declared.geometry.Geometry.{Geometry}
use Rattle.sf_geometry.specs.Envelope.{envelope_of}
use Rattle.sf_validity.specs.Held.{IsHeld}
use Rattle.sf_relate.specs.Matrices.{matrix_of}
use Rattle.sf_relate.proofs.SetLaws.{matrices_are_over_the_plane}
use Rattle.sf_distance.specs.Reaches.{square_of_reach, steps_of_reach}
use Rattle.sf_layers.specs.Content.{LayerContent}
use Rattle.sf_query.specs.Answers.{is_answered}
use Rattle.sf_query.proofs.FilterLaws.{filter-turn}
use Rattle.sf_near.specs.Answers.{ids_within, is_within_at}
use Rattle.sf_near.specs.Grown.{grown}
use Rattle.sf_near.specs.Pairs.{AsksAreOverThePlane}
use Rattle.sf_near.specs.declared.pair_ask.PairAsk.TheVariants.{Matrix, Near}
use Rattle.sf_near.proofs.FeatureLaws.{AreByBoxes, boxes-within, within-computed}

-- of the features whose boxes meet the grown one, and that are behind an identifier, those within the reach
pub behind-within : (layer : LayerContent) (b : Geometry) (t : ℕ) (items behind : List ℕ) (id : ℕ) → AreByBoxes layer (grown (steps_of_reach t) (envelope_of b)) items → IsHeld b
    → behind ≡ filter (λ other. nat_lt id other) items
    → filter (is_within_at layer (square_of_reach t) b) behind ≡ filter (λ other. nat_lt id other) (ids_within layer (square_of_reach t) b)
behind-within layer b t items behind id by hb is =
    ap (filter (is_within_at layer (square_of_reach t) b)) is
    ∙ filter-turn (is_within_at layer (square_of_reach t) b) (λ other. nat_lt id other) items
    ∙ ap (filter (λ other. nat_lt id other)) (boxes-within layer b t items by hb)

pub asks_are_over_the_plane : AsksAreOverThePlane
asks_are_over_the_plane (Matrix ask) a b va vb = (
  λ t. (matrix_of a b, (matrices_are_over_the_plane a b).computed, t),
  λ w. subst (λ entries. is_answered ask a b entries ≡ true) ((matrices_are_over_the_plane a b).only w.0 w.1) w.2,
)
asks_are_over_the_plane (Near reach) a b va vb = within-computed a b (square_of_reach reach) va vb
