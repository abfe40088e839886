use Rattle.std.proofs.Common.{subst, sym}
use Rattle.sf_layers.specs.ValueIndexes.{AreNoted}
use Rattle.sf_layers.proofs.Outcomes.{by_outcome}
use Rattle.sf_layers.proofs.ValueNotes.{noted-made}
use Rattle.sf_layers.proofs.value_indexes.ValueIndexes.make.Goals as goal

pub returns : goal.returns
returns c =
    let features = c.args.features.now.entries in
    let old = c.self.inside.columns.entries in
    let noted = subst (λ indexes. AreNoted indexes features) (sym c.self.view_is) c.requires in
    by_outcome c.insert.result c.insert.ensures.updates c.insert.ensures.err
    (λ updates. noted-made c.args.number c.in-Ok.index old c.insert.new.self.entries features c.in-Ok.ensures noted updates.0)
    (λ same. subst (λ indexes. AreNoted indexes features) (sym same) noted)
