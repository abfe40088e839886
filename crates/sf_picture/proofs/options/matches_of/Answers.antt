use Rattle.std.proofs.Common.{◌≡◌, ◌∙◌, ap, false, map, subst}
use Rattle.std.proofs.lemmas.Result.{IfOk-weaker}
use Rattle.clap.specs.Words.{app_of, fault_of, is_simple, is_simple_and_free, matches_of, FailsBy}
use Rattle.clap.proofs.WalkLemmas.{list_any-map}
use Rattle.sf_picture.specs.Options.{is_negative, program}
use Rattle.sf_picture.proofs.Program.{program_is_free, program_is_simple}
use Rattle.sf_picture.proofs.options.matches_of.Goals as goal

pub returns-clause-values : goal.returns-clause-values
returns-clause-values c none =
    let told : c.has_negative.result ≡ false = c.has_negative.ensures ∙ list_any-map is_negative (λ word. word.now) c.args.words.now ∙ none in
    let app_is : app_of c.in_ok-command.field-0 ≡ program = c.in_ok-command.ensures told in
    IfOk-weaker c.try_get_matches_from.result _ _
    (λ m h. (h (ap is_simple app_is ∙ program_is_simple)).0 ∙ ap (λ a. matches_of a (map (λ word. word.now) c.args.words.now)) app_is)
    c.try_get_matches_from.ensures.matches

pub returns-clause-faults : goal.returns-clause-faults
returns-clause-faults c none =
    let told : c.has_negative.result ≡ false = c.has_negative.ensures ∙ list_any-map is_negative (λ word. word.now) c.args.words.now ∙ none in
    let app_is : app_of c.in_ok-command.field-0 ≡ program = c.in_ok-command.ensures told in
    subst (λ a. FailsBy (fault_of a (map (λ word. word.now) c.args.words.now)) c.try_get_matches_from.result) app_is
    (c.try_get_matches_from.ensures.kinds (ap is_simple_and_free app_is ∙ program_is_free))
