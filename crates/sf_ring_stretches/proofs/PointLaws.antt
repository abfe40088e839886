-- Points of a list that are exchanged are a stretch of edges that is; boxes apart have their edges apart.
use Rattle.std.proofs.Common.{◌≡◌, refl, ap, ◌∙◌, List, [], ◌∷◌, ◌++◌}
use Rattle.std.specs.List.{AllByRecursion}
use Rattle.std.proofs.lemmas.Bool.{both_ways}
use Rattle.sf_grid.specs.Plane.{Coordinates}
use Rattle.sf_grid.specs.Edge.{edge_between}
use Rattle.sf_geometry.specs.Lists.{edges_between, edges_from, edges_of}
use Rattle.sf_plane.specs.Boxes.{Box, HasEnds, IsChain, boxes_meet}
use Rattle.sf_plane.proofs.BoxLaws.{common_point_meets, edge_in_box}
use Rattle.sf_ring_stretches.specs.Exchange.{AreIn, BoxesApartAreOff, HasNoRepeats, PointsAreExchanged}

-- ---- the edges of a list in parts
from-cut : (x : Coordinates) (xs : List Coordinates) (p : Coordinates) (ys : List Coordinates) → edges_from x (xs ++ p ∷ ys) ≡ edges_from x (xs ++ p ∷ []) ++ edges_from p ys
from-cut x [] p ys = refl
from-cut x (y ∷ xs) p ys = ap (λ es. edge_between x y ∷ es) (from-cut y xs p ys)

between-cut : (xs : List Coordinates) (p : Coordinates) (ys : List Coordinates) → edges_between (xs ++ p ∷ ys) ≡ edges_between (xs ++ p ∷ []) ++ edges_from p ys
between-cut [] p ys = refl
between-cut (x ∷ xs) p ys = from-cut x xs p ys

three-parts : (front stretch back : List Coordinates) (p q : Coordinates) → HasNoRepeats (front ++ p ∷ (stretch ++ q ∷ back))
    → edges_of (front ++ p ∷ (stretch ++ q ∷ back)) ≡ edges_between (front ++ p ∷ []) ++ (edges_from p (stretch ++ q ∷ []) ++ edges_from q back)
three-parts front stretch back p q once =
    ap edges_between once ∙ between-cut front p (stretch ++ q ∷ back) ∙ ap (λ es. edges_between (front ++ p ∷ []) ++ es) (from-cut p stretch q back)

leads : (p : Coordinates) (ps : List Coordinates) (q : Coordinates) → IsChain p (edges_from p (ps ++ q ∷ [])) q
leads p [] q = (refl, refl)
leads p (r ∷ ps) q = (refl, leads r ps q)

ends-in : (box : Box) (p : Coordinates) (ps : List Coordinates) → AreIn box (p ∷ ps) → AllByRecursion (HasEnds box) (edges_from p ps)
ends-in box p [] are = tt
ends-in box p (q ∷ ps) are = ((are.0, are.1.0), ends-in box q ps are.1)

pub points_are_exchanged : PointsAreExchanged
points_are_exchanged box front olds news back from to was is old new = record {
  from = from;
  to = to;
  front = edges_between (front ++ from ∷ []);
  olds = edges_from from (olds ++ to ∷ []);
  news = edges_from from (news ++ to ∷ []);
  back = edges_from to back;
  was = three-parts front olds back from to was;
  is = three-parts front news back from to is;
  old = leads from olds to;
  new = leads from news to;
  old_ends = ends-in box from (olds ++ to ∷ []) old;
  new_ends = ends-in box from (news ++ to ∷ []) new;
}

-- ---- boxes apart
pub boxes_apart_are_off : BoxesApartAreOff
boxes_apart_are_off own box [] ends apart = tt
boxes_apart_are_off own box (e ∷ es) ends apart = (
  λ p i in_it on. both_ways (boxes_meet own box) apart (common_point_meets own box p i (edge_in_box own e p ends.0 i on) in_it),
  boxes_apart_are_off own box es ends.1 apart,
)
