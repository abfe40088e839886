use Rattle.std.proofs.Common.{◌≡◌, ◌∙◌, None, Option, Some, ap, rules, sym}
use Rattle.std.specs.Prelude.{SomeIff}
use Rattle.sf_decimals.specs.Decimals.{decimal_spelled}
use Rattle.sf_decimals.proofs.Reduced.{spelled_reduced}
use Rattle.sf_decimals.proofs.reading.decimal_of.Goals as goal

-- what passes a test is given
given : {T P : Type 0} (r : Option T) (x : T) → SomeIff r P x → P → r ≡ Some x
given None x not p = absurd (not p)
given (Some y) x is p = ap Some is.1

-- what a text spells is in its one form
pub returns-in-Some : goal.returns-in-Some
returns-in-Some c =
    let spelled : decimal_spelled c.args.text.now ≡ Some c.in-Some.number = search rules in
    given c.new.result c.in-Some.number c.new.ensures (spelled_reduced c.args.text.now c.in-Some.number spelled) ∙ sym spelled
