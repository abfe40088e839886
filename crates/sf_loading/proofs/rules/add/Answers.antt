use Rattle.sf_loading.proofs.KeptLaws.{refused-judged}
use Rattle.sf_loading.proofs.rules.add.Goals as goal

pub returns-clause-judged : goal.returns-clause-judged
returns-clause-judged c =
    refused-judged c.args.ruled.now c.args.rule c.args.place c.in-Err.refusal c.refused.result c.requires.can c.requires.few c.in-Err.ensures.refused c.refused.ensures
