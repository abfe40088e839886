use Rattle.sf_console.proofs.FindLaws.{find_replies_list_just_those_features}
use Rattle.sf_console.proofs.laws.find_replies_list_just_those_features.Goals as goal

pub returns : goal.returns
returns c = find_replies_list_just_those_features
