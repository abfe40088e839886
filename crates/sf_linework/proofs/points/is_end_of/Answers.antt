use Rattle.std.proofs.Common.{◌∙◌, ap, sym}
use Rattle.std.specs.List.{list_any}
use Rattle.sf_geometry.specs.Lists.{ends_of as ends_of_line, is_same}
use Rattle.sf_geometry.specs.Parts.{ends_of}
use Rattle.sf_relate.proofs.AreasLaws.{any-flat}
use Rattle.sf_linework.proofs.points.is_end_of.Goals as goal

pub returns-in-MultiLineString : goal.returns-in-MultiLineString
returns-in-MultiLineString c =
    let ends = list_any (λ end. is_same end c.args.point) in
    c.is_end_of_one.ensures
    ∙ ap (list_any (λ part. ends (ends_of_line part))) c.as_slice-in-MultiLineString.ensures
    ∙ sym (any-flat (λ end. is_same end c.args.point) ends_of_line c.in-MultiLineString.parts)
    ∙ ap (λ g. ends (ends_of g)) (sym c.in-MultiLineString.is ∙ c.geometry.ensures.same)
