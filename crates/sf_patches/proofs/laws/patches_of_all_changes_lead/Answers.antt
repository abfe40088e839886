use Rattle.sf_patches.proofs.TakenBack.{patches-lead}
use Rattle.sf_patches.proofs.laws.patches_of_all_changes_lead.Goals as goal

pub returns : goal.returns
returns c = patches-lead
