use Rattle.std.proofs.Common.{◌∙◌, ap, subst, sym}
use Rattle.sf_geometry.specs.declared.geometry.Geometry.{Geometry}
use Rattle.sf_layers.specs.Content.{admits}
use Rattle.sf_wkb.specs.Grammar.{OrMemory}
use Rattle.sf_loading.specs.Streaming.{Judges}
use Rattle.sf_loading.proofs.GeometryLaws.{admitted-valid}
use Rattle.sf_loading.proofs.geometries.admitted.Goals as goal

pub returns-in-Ok-clause-judged : goal.returns-in-Ok-clause-judged
returns-in-Ok-clause-judged c = λ expected is.
    let same = subst (OrMemory expected) c.in-Ok.is is in
    let admits_it = ap (admits c.args.kind) (sym c.kind.ensures) ∙ sym c.if-admits.ensures in
    subst (λ v. Judges (λ (g : Geometry). g) c.args.place v c.valid.result) (sym (admitted-valid c.args.kind c.in-Ok.geometry expected same admits_it)) c.valid.ensures.judged
