use Rattle.std.proofs.Common.{◌≡◌, ap, ◌∙◌, [], ◌∷◌, map}
use Rattle.sf_geometry.specs.Parts.{edge_of}
use Rattle.sf_relate.specs.declared.shape.Shape.TheVariants.{Areas}
use Rattle.sf_relate.specs.Nearby.{nearby_grouped}
use Rattle.sf_known.specs.declared.aim.Aim.TheVariants.{Entries}
use Rattle.sf_relate.specs.Most.{known_beyond}
use Rattle.sf_relate.specs.Places.{begun, gathered_by, is_areal, shape_of}
use Rattle.sf_relate.proofs.MatrixLaws.{begun-with}
use Rattle.sf_relate.proofs.NearbyLaws.{can-nearby, nearby-left}
use Rattle.sf_relate.proofs.SizeLaws.{CanWalk}
use Rattle.sf_relate.proofs.nearby.relate_nearby.Goals as goal
use Rattle.sf_relate.proofs.nearby.relate_nearby.Goals.{After-is_areal-2}

-- the pieces are those of the geometry and these edges
grouped : (c : After-is_areal-2) → c.in_ok-pieces.pieces ≡ nearby_grouped c.args.a.now (map edge_of c.args.edges.now)
grouped c = c.in_ok-pieces.ensures ∙ ap (λ g. nearby_grouped g (map edge_of c.args.edges.now)) c.geometry-first.ensures.same

can : (c : After-is_areal-2) → CanWalk c.in_ok-pieces.pieces
can c = can-nearby c.args.a.now c.args.edges.now c.in_ok-pieces.pieces c.geometry-first.ensures.valid.valid c.requires.few (grouped c)

pub walk-requires-clause-few : goal.walk-requires-clause-few
walk-requires-clause-few c = (can (goal.at.walk-requires-clause-few c).After-is_areal-2).few

pub walk-requires-clause-groups_in_range : goal.walk-requires-clause-groups_in_range
walk-requires-clause-groups_in_range c = (can (goal.at.walk-requires-clause-groups_in_range c).After-is_areal-2).groups_in_range

pub returns : goal.returns
returns c =
    let at = goal.at.returns c in
    let a = c.args.a.now in
    let area = c.args.area.now in
    let first : c.of-first_shape.result ≡ shape_of a = c.of-first_shape.ensures ∙ ap shape_of c.geometry-first.ensures.same in
    let second : c.of-second_shape.result ≡ Areas = c.of-second_shape.ensures ∙ ap shape_of c.geometry-second.ensures.same ∙ c.requires.areal in
    let known : c.known_beyond-known.result ≡ known_beyond a area =
    c.known_beyond-known.ensures ∙ ap (λ g. known_beyond g c.geometry-second.result.now) c.geometry-first.ensures.same ∙ ap (known_beyond a) c.geometry-second.ensures.same in
    c.reaching_beyond-entries.ensures
    ∙ nearby-left a area (map edge_of c.args.edges.now) c.in_ok-pieces.pieces (c.is_areal.result ∷ c.is_areal-2.result ∷ []) (gathered_by c.new-sink.result) (gathered_by c.walk.new.sink)
    c.geometry-first.ensures.valid.valid c.geometry-second.ensures.valid.valid c.requires.areal c.requires.places c.requires.beyond (grouped at.After-is_areal-2)
    (ap (λ x. x ∷ c.is_areal-2.result ∷ []) (c.is_areal.ensures ∙ ap is_areal first) ∙ ap (λ x. is_areal (shape_of a) ∷ x ∷ []) (c.is_areal-2.ensures ∙ ap is_areal second))
    (c.new-sink.ensures
    ∙ begun-with c.of-first_shape.result c.of-second_shape.result (shape_of a) Areas Entries c.known_beyond-known.result first second
    ∙ ap (begun (shape_of a) Areas Entries) known)
    c.in_ok-walk.ensures.ok
