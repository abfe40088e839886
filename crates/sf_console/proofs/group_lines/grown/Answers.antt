use Rattle.std.proofs.Common.{ℕ, List, Option, ◌∙◌, option_copied, string_bytes, subst, sym}
use Rattle.sf_console.specs.Requests.{gathered_on, with_member}
use Rattle.sf_console.specs.Gatherings.{Asks, IsGrown, IsHeld}
use Rattle.sf_console.proofs.GroupLaws.{IsGrown-left, inside-on}
use Rattle.sf_console.proofs.group_lines.grown.Goals as goal

pub returns-in-Ok : goal.returns-in-Ok
returns-in-Ok c = λ opens unfed.
    let line = option_copied c.args.line in
    let text = string_bytes c.args.text in
    let n = c.saturating_sub.result in
    inside-on text c.args.left n line _ _ (sym c.is_passed_over.ensures ∙ c.if-is_passed_over.false) c.saturating_sub.ensures
    (subst (λ t. IsGrown t n → IsHeld (gathered_on t n).0 c.with_fewer.result.0 × ((l : Option (List ℕ)) → Asks l (gathered_on t n).1 c.with_fewer.result.1)) c.in-Ok.ensures c.with_fewer.ensures
    (IsGrown-left text c.args.left n line opens unfed c.saturating_sub.ensures))

pub returns-in-Err : goal.returns-in-Err
returns-in-Err c = λ opens unfed.
    let line = option_copied c.args.line in
    let text = string_bytes c.args.text in
    let n = c.saturating_sub-in-Err.result in
    inside-on text c.args.left n line _ _ (sym c.is_passed_over.ensures ∙ c.if-is_passed_over.false) c.saturating_sub-in-Err.ensures
    (c.lost_with_fewer.ensures (with_member text line) (IsGrown-left text c.args.left n line opens unfed c.saturating_sub-in-Err.ensures))
