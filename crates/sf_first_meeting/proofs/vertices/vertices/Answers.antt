use Rattle.sf_first_meeting.proofs.vertices.vertices.Goals as goal

pub returns : goal.returns
returns c = (c.in_ok-found.found.items, c.in_ok-found.ensures, c.sort_unstable_by.ensures.permutation)
