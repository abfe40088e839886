use Rattle.std.proofs.Common.{◌∙◌, ap, sym}
use Rattle.std.specs.List.{list_any}
use Rattle.sf_contact.specs.Absence.{begins_in, has_start_in}
use Rattle.sf_contact.proofs.StartLaws.{any-joined}
use Rattle.sf_contact.proofs.starts.has_start_in.Goals as goal

pub returns-in-MultiPolygon : goal.returns-in-MultiPolygon
returns-in-MultiPolygon c =
    c.do_polygons_begin_in.ensures
    ∙ ap (λ ps. list_any (λ rings. list_any (begins_in c.args.b.now) rings) ps) c.as_slice-in-MultiPolygon.ensures
    ∙ any-joined (begins_in c.args.b.now) c.in-MultiPolygon.polygons
    ∙ ap (λ g. has_start_in g c.args.b.now) (sym c.in-MultiPolygon.is ∙ c.geometry.ensures.same)
