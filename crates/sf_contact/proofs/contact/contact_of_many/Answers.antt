use Rattle.std.proofs.Common.{◌≡◌, ◌∙◌, ap, sym}
use Rattle.sf_geometry.specs.declared.extent.Extent.{Extent}
use Rattle.sf_geometry.specs.declared.geometry.Geometry.{Geometry}
use Rattle.sf_geometry.specs.Envelope.{common_extent, envelope_of}
use Rattle.sf_contact.proofs.NearLaws.{contact-by-absent, contact-by-found, contact-of-lines-absent}
use Rattle.sf_contact.proofs.contact.contact_of_many.Goals as goal

-- the box that both have in common, from what was read of each
common : (f g : Geometry) (e d box : Extent) → box ≡ common_extent e d → e ≡ envelope_of f → d ≡ envelope_of g → box ≡ common_extent (envelope_of f) (envelope_of g)
common f g e d box is first second = is ∙ ap (λ x. common_extent x d) first ∙ ap (common_extent (envelope_of f)) second

pub returns-in-Ok-Found : goal.returns-in-Ok-Found
returns-in-Ok-Found c =
    (contact-by-found c.args.a.now c.args.b.now c.geometry-first.result.now c.geometry-second.result.now c.common-common.result c.in-Ok-Found.field-0
    c.geometry-first.ensures.same c.geometry-second.ensures.same c.in-Ok-Found.ensures c.in-Ok-Found.field-0-is).first

pub returns-in-Ok-Absent : goal.returns-in-Ok-Absent
returns-in-Ok-Absent c =
    (contact-of-lines-absent c.args.a.now c.args.b.now c.geometry-first.result.now c.geometry-second.result.now c.common-common.result c.in-Ok-Absent.field-0
    c.geometry-first.ensures.valid.valid c.geometry-second.ensures.valid.valid c.geometry-first.ensures.same c.geometry-second.ensures.same
    (sym c.are_lines.ensures ∙ c.if-are_lines.true)
    (common c.geometry-first.result.now c.geometry-second.result.now c.envelope.result c.envelope-2.result c.common-common.result c.common-common.ensures c.envelope.ensures c.envelope-2.ensures)
    c.in-Ok-Absent.ensures c.in-Ok-Absent.field-0-is).first

pub returns-in-Ok-Absent-2 : goal.returns-in-Ok-Absent-2
returns-in-Ok-Absent-2 c =
    c.has_any_start.ensures
    ∙ (contact-by-absent c.args.a.now c.args.b.now c.geometry-first.result.now c.geometry-second.result.now c.common-common.result c.in-Ok-Absent.field-0
    c.geometry-first.ensures.valid.valid c.geometry-second.ensures.valid.valid c.geometry-first.ensures.same c.geometry-second.ensures.same
    (common c.geometry-first.result.now c.geometry-second.result.now c.envelope.result c.envelope-2.result c.common-common.result c.common-common.ensures c.envelope.ensures c.envelope-2.ensures)
    c.in-Ok-Absent.ensures c.in-Ok-Absent.field-0-is).first
