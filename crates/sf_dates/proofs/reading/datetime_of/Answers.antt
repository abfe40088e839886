use Rattle.std.proofs.Common.{◌≡◌, ◌∙◌, Some, rules, sym}
use Rattle.sf_dates.specs.Texts.{datetime_spelled}
use Rattle.sf_dates.proofs.Moments.{datetime_back}
use Rattle.sf_dates.proofs.Given.{given}
use Rattle.sf_dates.proofs.reading.datetime_of.Goals as goal

-- what a text spells is there
pub returns-in-Some : goal.returns-in-Some
returns-in-Some c =
    let spelled : datetime_spelled c.args.text.now ≡ Some c.in-Some.moment = search rules in
    given c.new.result c.in-Some.moment c.new.ensures (datetime_back c.args.text.now c.in-Some.moment spelled).0 ∙ sym spelled
