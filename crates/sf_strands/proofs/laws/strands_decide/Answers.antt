use Rattle.sf_strands.proofs.StrandLaws as laws
use Rattle.sf_strands.proofs.laws.strands_decide.Goals as goal

pub returns : goal.returns
returns c = laws.strands_decide
