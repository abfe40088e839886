use Rattle.std.proofs.Common.{ap, sym, ◌∙◌}
use Rattle.std.proofs.lemmas.Bool.{false≢true}
use Rattle.sf_geometry.specs.Envelope.{envelope_of, extents_meet}
use Rattle.sf_faults.proofs.AreaLaws.{overlap-told}
use Rattle.sf_faults.proofs.BoxLaws.{apart-inside}
use Rattle.sf_faults.proofs.comparing.do_overlap.Goals as goal

pub returns : goal.returns
returns c = overlap-told c.args.a.now c.args.b.now c.in_ok-matrix.matrix.0 _ c.is_filled.result c.in_ok-matrix.ensures c.is_filled.ensures

pub returns-then-not-meets : goal.returns-then-not-meets
returns-then-not-meets c =
    let apart =
    sym
    (c.meets.ensures
    ∙ ap (λ e. extents_meet e c.envelope-2.result) (c.envelope.ensures ∙ ap envelope_of c.geometry.ensures.same)
    ∙ ap (extents_meet (envelope_of c.args.a.now)) (c.envelope-2.ensures ∙ ap envelope_of c.geometry-2.ensures.same))
    ∙ c.if-not-meets.true in (
      λ t. absurd (false≢true t),
      λ a. absurd (apart-inside c.args.a.now c.args.b.now c.geometry.ensures.valid.valid c.geometry-2.ensures.valid.valid apart a),
    )
