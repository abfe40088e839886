use Rattle.std.proofs.Common.{◌≡◌, ◌∙◌, ap, map}
use Rattle.std.proofs.lemmas.Result.{IfOk-weaker}
use Rattle.clap.specs.Words.{app_of, found_of, first_of, is_simple, matches_of}
use Rattle.clap.proofs.WalkLemmas.{first_value-rows}
use Rattle.sf_options.specs.Options.{program}
use Rattle.sf_options.proofs.Computed.{program_is_simple}
use Rattle.sf_options.proofs.options.matches_of.Goals as goal

pub returns-clause-values : goal.returns-clause-values
returns-clause-values c =
    let app_is : app_of c.in_ok-command.field-0 ≡ program = c.in_ok-command.ensures in
    IfOk-weaker c.try_get_matches_from.result _ _
    (λ m h id. first_value-rows (found_of m) id ∙ ap (first_of id) ((h (ap is_simple app_is ∙ program_is_simple)).0 ∙ ap (λ a. matches_of a (map (λ word. word.now) c.args.words.now)) app_is))
    c.try_get_matches_from.ensures.matches
