use Rattle.sf_linework.proofs.AlongLaws.{alongside_is_known as law}
use Rattle.sf_linework.proofs.laws.alongside_is_known.Goals as goal

pub returns : goal.returns
returns c = law
