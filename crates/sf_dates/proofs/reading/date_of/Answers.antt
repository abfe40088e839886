use Rattle.std.proofs.Common.{◌≡◌, ◌∙◌, Some, rules, sym}
use Rattle.sf_dates.specs.Texts.{date_spelled}
use Rattle.sf_dates.proofs.Days.{date_back}
use Rattle.sf_dates.proofs.Given.{given}
use Rattle.sf_dates.proofs.reading.date_of.Goals as goal

-- what a text spells is there
pub returns-in-Some : goal.returns-in-Some
returns-in-Some c =
    let spelled : date_spelled c.args.text.now ≡ Some c.in-Some.day = search rules in
    given c.new.result c.in-Some.day c.new.ensures (date_back c.args.text.now c.in-Some.day spelled).0 ∙ sym spelled
