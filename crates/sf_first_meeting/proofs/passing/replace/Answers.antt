use Rattle.std.proofs.Common.{◌≡◌, ◌≤◌, ◌+◌, sym, subst, ◌∙◌, ap, arith, take, drop, length, ◌++◌, ◌∷◌, List, ℕ, suc, vec_len}
use Rattle.std.specs.Prelude.{OnOk}
use Rattle.sf_first_meeting.specs.declared.spot.Spot.{Spot}
use Rattle.sf_first_meeting.specs.Spots.{beginning_of, ending_of}
use Rattle.sf_first_meeting.proofs.PassingLaws.{remove-parts, replaced-at, set-parts, twice-removed}
use Rattle.sf_first_meeting.proofs.passing.replace.Goals as goal

pub returns-in-Passes : goal.returns-in-Passes
returns-in-Passes c =
    let Q : Spot → Type 0 = λ s. c.args.from + length (ending_of s) ≤ vec_len c.args.active.now in
    let fits = subst Q c.in-Passes.is c.requires in
    replaced-at c.args.active.now.items _ c.args.from _ _ c.in-Passes.is (set-parts c.args.active.now.items c.args.from c.in-Passes.edge (omega (arith, fits)))

pub returns-in-Closes : goal.returns-in-Closes
returns-in-Closes c =
    let Q : Spot → Type 0 = λ s. c.args.from + length (ending_of s) ≤ vec_len c.args.active.now in
    let fits = subst Q c.in-Closes.is c.requires in
    replaced-at c.args.active.now.items _ c.args.from _ _ c.in-Closes.is
    (c.remove-in-Closes.ensures.items
    ∙ ap (λ (xs : List ℕ). take c.args.from xs ++ drop (suc c.args.from) xs) c.remove.ensures.items
    ∙ twice-removed c.args.active.now.items c.args.from (omega (arith, fits)))

pub returns-in-Ends : goal.returns-in-Ends
returns-in-Ends c =
    replaced-at c.args.active.now.items _ c.args.from _ _ c.in-Ends.is (c.remove-in-Ends.ensures.items ∙ remove-parts c.args.active.now.items c.args.from)

pub returns-in-Opens : goal.returns-in-Opens
returns-in-Opens c =
    let P : Spot → Type 0 = λ s. OnOk c.insert_two.result (c.insert_two.new.active.items ≡ take c.args.from c.args.active.now.items ++ (beginning_of s ++ drop (length (ending_of s)) (drop c.args.from c.args.active.now.items))) in
    subst P (sym c.in-Opens.is) c.insert_two.ensures

pub returns-in-Begins : goal.returns-in-Begins
returns-in-Begins c =
    let P : Spot → Type 0 = λ s. OnOk c.insert_one.result (c.insert_one.new.active.items ≡ take c.args.from c.args.active.now.items ++ (beginning_of s ++ drop (length (ending_of s)) (drop c.args.from c.args.active.now.items))) in
    subst P (sym c.in-Begins.is) c.insert_one.ensures
