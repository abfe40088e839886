use Rattle.std.proofs.Common.{◌∙◌, ap, sym}
use Rattle.std.specs.List.{flat_map}
use Rattle.sf_geometry.specs.Lists.{ends_of}
use Rattle.sf_linework.specs.Ends.{seen_ends}
use Rattle.sf_linework.proofs.EndLaws.{line-row, lines-row}
use Rattle.sf_linework.proofs.ends.known_by_own_ends.Goals as goal

pub returns-in-LineString : goal.returns-in-LineString
returns-in-LineString c =
    let lines = c.args.lines.now in
    let other = c.args.other.now in
    line-row lines other c.in-LineString.line c.seen_by_line.result c.known_of_seen.result c.geometry.ensures.valid.valid (sym c.geometry.ensures.same ∙ c.in-LineString.is)
    (c.seen_by_line.ensures ∙ ap (λ ps. seen_ends lines other (ends_of ps)) c.as_slice.ensures) c.known_of_seen.ensures

pub returns-in-MultiLineString : goal.returns-in-MultiLineString
returns-in-MultiLineString c =
    let lines = c.args.lines.now in
    let other = c.args.other.now in
    lines-row lines other c.in-MultiLineString.parts c.seen_by_lines.result c.known_of_seen-in-MultiLineString.result c.geometry.ensures.valid.valid
    (sym c.geometry.ensures.same ∙ c.in-MultiLineString.is)
    (c.seen_by_lines.ensures ∙ ap (λ parts. seen_ends lines other (flat_map ends_of parts)) c.as_slice-in-MultiLineString.ensures) c.known_of_seen-in-MultiLineString.ensures
