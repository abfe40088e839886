use Rattle.std.proofs.Common.{◌≡◌, ◌∙◌, ap, sym, ◌+◌, ◌∷◌, drop, List}
use Rattle.std.specs.List.{flat_map}
use Rattle.std.proofs.lemmas.List.{drop_more}
use Rattle.sf_grid.specs.Plane.{Coordinates}
use Rattle.sf_geometry.specs.Lists.{ends_of}
use Rattle.sf_linework.specs.Ends.{seen_ends, seen_or}
use Rattle.sf_linework.proofs.EndLaws.{decided, seen-turn}
use Rattle.sf_linework.proofs.ends.seen_by_lines.Goals as goal
use Rattle.sf_linework.proofs.ends.seen_by_lines.Goals.{After-or-seen}

turned : (c : After-or-seen) →
    seen_or c.or-seen.result (seen_ends c.args.lines.now c.args.other.now (flat_map ends_of (drop (c.loop-part.part-index + 1) c.args.parts.now)))
    ≡ seen_ends c.args.lines.now c.args.other.now (flat_map ends_of c.args.parts.now)
turned c =
    let lines = c.args.lines.now in
    let other = c.args.other.now in
    let parts : List (List Coordinates) = c.args.parts.now in
    let part : List Coordinates = c.part-item.result in
    let rest : List (List Coordinates) = drop (c.loop-part.part-index + 1) parts in
    seen-turn c.loop-part.seen c.seen_by_line.result c.or-seen.result (seen_ends lines other (flat_map ends_of parts)) lines other (ends_of part) (flat_map ends_of rest)
    (flat_map ends_of (drop c.loop-part.part-index parts)) c.or-seen.ensures
    (c.seen_by_line.ensures ∙ ap (λ ps. seen_ends lines other (ends_of ps)) c.as_slice.ensures)
    (ap (flat_map ends_of) (drop_more parts c.loop-part.part-index part c.loop-part-test.true ∙ ap (λ p. p ∷ rest) (sym c.part-item.is)))
    c.loop-part.invariant

pub loop-part-preserved : goal.loop-part-preserved
loop-part-preserved c = turned (goal.at.loop-part-preserved c).After-or-seen

pub returns-then-is_all : goal.returns-then-is_all
returns-then-is_all c =
    decided c.or-seen.result (seen_ends c.args.lines.now c.args.other.now (flat_map ends_of (drop (c.loop-part.part-index + 1) c.args.parts.now)))
    (seen_ends c.args.lines.now c.args.other.now (flat_map ends_of c.args.parts.now)) (sym c.is_all.ensures ∙ c.if-is_all.true)
    (turned (goal.at.returns-then-is_all c).After-or-seen)
