use Rattle.std.proofs.Common.{◌≡◌, ap, ◌∙◌, subst, map}
use Rattle.sf_crossing.specs.Crossing.{HaveCrossing}
use Rattle.sf_edge_tree.specs.Meeting.{ends_meeting}
use Rattle.sf_geometry.specs.declared.extent.Extent.{Extent}
use Rattle.sf_geometry.specs.declared.geometry.Geometry.{Geometry}
use Rattle.sf_geometry.specs.Envelope.{common_extent, envelope_of}
use Rattle.sf_geometry.specs.Parts.{edge_of, edges_of}
use Rattle.sf_relate.proofs.CommonBoxLaws.{crossing-of-all}
use Rattle.sf_relate.proofs.ResultLaws.{answered}
use Rattle.sf_relate.proofs.SectorLaws.{swapped}
use Rattle.sf_relate.proofs.areas.are_crossed.Goals as goal
use Rattle.sf_relate.proofs.areas.are_crossed.Goals.{After-common-common}

-- the edges that are tried
abbrev tried : Extent → Geometry → Geometry → Type 0
tried box f g = HaveCrossing (map edge_of (ends_meeting box (edges_of f))) (map edge_of (ends_meeting box (edges_of g)))

-- a crossing of these is one of all edges
crossed : (c : After-common-common) → tried c.common-common.result c.geometry-first.result.now c.geometry-second.result.now →
    HaveCrossing (edges_of c.args.a.now) (edges_of c.args.b.now)
crossed c h =
    let a = c.args.a.now in
    let b = c.args.b.now in
    let box : c.common-common.result ≡ common_extent (envelope_of a) (envelope_of b) =
    c.common-common.ensures
    ∙ ap (λ e. common_extent e c.envelope-2.result) (c.envelope.ensures ∙ ap envelope_of c.geometry-first.ensures.same)
    ∙ ap (common_extent (envelope_of a)) (c.envelope-2.ensures ∙ ap envelope_of c.geometry-second.ensures.same) in
    crossing-of-all a b c.geometry-first.ensures.valid.valid c.geometry-second.ensures.valid.valid
    (subst (λ e. tried e a b) box
    (subst (λ (g : Geometry). tried c.common-common.result a g) c.geometry-second.ensures.same
    (subst (λ (g : Geometry). tried c.common-common.result g c.geometry-second.result.now) c.geometry-first.ensures.same h)))

pub returns-then-point_count : goal.returns-then-point_count
returns-then-point_count c = answered c.have_crossing.result (λ told found t. crossed (goal.at.returns-then-point_count c).After-common-common (found t)) c.have_crossing.ensures

pub returns-else-point_count : goal.returns-else-point_count
returns-else-point_count c =
    answered c.have_crossing-else-point_count.result
    (λ told found t.
    crossed (goal.at.returns-else-point_count c).After-common-common
    (swapped (map edge_of (ends_meeting c.common-common.result (edges_of c.geometry-second.result.now))) (map edge_of (ends_meeting c.common-common.result (edges_of c.geometry-first.result.now))) (found t)))
    c.have_crossing-else-point_count.ensures
