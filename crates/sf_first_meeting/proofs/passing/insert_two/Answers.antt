use Rattle.std.proofs.Common.{◌∙◌, ap, arith, take, drop, ◌++◌, ◌∷◌, List, ℕ}
use Rattle.sf_first_meeting.proofs.PassingLaws.{twice-put}
use Rattle.sf_first_meeting.proofs.passing.insert_two.Goals as goal

pub returns : goal.returns
returns c =
    c.in_ok-insert-2.ensures.items
    ∙ ap (λ (xs : List ℕ). take c.args.from xs ++ (c.args.lower ∷ drop c.args.from xs)) c.in_ok-insert.ensures.items
    ∙ twice-put c.args.active.now.items c.args.from c.args.lower c.args.upper (omega arith)
