use Rattle.sf_first_meeting.proofs.passing.insert_one.Goals as goal

pub returns : goal.returns
returns c = c.in_ok-insert.ensures.items
