use Rattle.std.proofs.Common.{◌∙◌, [], ap, codes, map, string_bytes}
use Rattle.std.specs.Prelude.{unwrap_or}
use Rattle.std.proofs.lemmas.Result.{IfOk-weaker}
use Rattle.clap.specs.Words.{found_of}
use Rattle.clap.proofs.WalkLemmas.{raw_values-rows}
use Rattle.sf_picture.proofs.options.layer_names.Goals as goal

pub returns-in-None : goal.returns-in-None
returns-in-None c = ap (map string_bytes) c.new.ensures.items
    ∙ ap (λ values. unwrap_or values []) (c.in-None.ensures ∙ raw_values-rows (found_of c.args.matches.now) (codes "layer"))

pub returns-in-Some : goal.returns-in-Some
returns-in-Some c = IfOk-weaker c.owned.result _ _
    (λ names is. is ∙ ap (λ values. unwrap_or values []) (c.in-Some.ensures ∙ raw_values-rows (found_of c.args.matches.now) (codes "layer")))
    c.owned.ensures
