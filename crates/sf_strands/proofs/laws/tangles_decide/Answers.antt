use Rattle.sf_strands.proofs.TangleLaws as laws
use Rattle.sf_strands.proofs.laws.tangles_decide.Goals as goal

pub returns : goal.returns
returns c = laws.tangles_decide
