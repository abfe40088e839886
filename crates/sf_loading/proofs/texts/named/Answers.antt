use Rattle.std.proofs.Common.{ap, refl, subst}
use Rattle.sf_format.specs.declared.defect.Defect.TheVariants.{BadName}
use Rattle.sf_format.specs.Format.{allowed}
use Rattle.sf_loading.specs.Streaming.{IsTextOf}
use Rattle.sf_loading.proofs.TextLaws.{no-name}
use Rattle.sf_loading.proofs.texts.named.Goals as goal

pub returns-in-None : goal.returns-in-None
returns-in-None c = λ found is. (refl, ap (λ t. allowed t BadName found) (no-name found (subst (λ t. IsTextOf found t) c.in-None.is is)))
