use Rattle.std.proofs.Common.{◌≡◌, ◌∙◌, ap, sym, true≢false, false}
use Rattle.std.specs.List.{list_any}
use Rattle.std.proofs.lemmas.Bool.{false_from_ne_true}
use Rattle.sf_grid.specs.Edge.{on_edge}
use Rattle.sf_grid.specs.Plane.{grid_point}
use Rattle.sf_geometry.specs.Parts.{edges_of}
use Rattle.sf_relate.specs.Locating.{line_place}
use Rattle.sf_relate.proofs.TestedPlaces.{on-one, one-on}
use Rattle.sf_relate.proofs.locating.place_on_lines.Goals as goal

pub returns-then-any_edge : goal.returns-then-any_edge
returns-then-any_edge c =
    let q = grid_point c.args.point in
    let es = edges_of c.args.geometry.now in
    sym (ap (line_place (list_any (λ e. on_edge e q) es)) c.if-is_odd_end.false ∙ ap (λ b. line_place b false) (on-one q es (c.any_edge.ensures.0 c.if-any_edge.true)))

pub returns-else-any_edge : goal.returns-else-any_edge
returns-else-any_edge c =
    let q = grid_point c.args.point in
    let es = edges_of c.args.geometry.now in
    let on = list_any (λ e. on_edge e q) es in
    let off : on ≡ false = false_from_ne_true on (λ t. true≢false (sym (c.any_edge.ensures.1 (one-on q es t)) ∙ c.if-any_edge.false)) in
    sym (ap (line_place on) c.if-is_odd_end.false ∙ ap (λ b. line_place b false) off)
