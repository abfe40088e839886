use Rattle.std.proofs.Common.{ap, subst, sym}
use Rattle.sf_format.specs.declared.version.Version.{Version}
use Rattle.sf_format.specs.Format.{rules_in}
use Rattle.sf_format.specs.Stored.{Ruled}
use Rattle.sf_loading.specs.Streaming.{Gives}
use Rattle.sf_loading.proofs.KeptLaws.{no-rules-read}
use Rattle.sf_loading.proofs.rules.ruled.Goals as goal

pub returns-in-First-clause-gives : goal.returns-in-First-clause-gives
returns-in-First-clause-gives g c =
    no-rules-read c.args.version c.args.store c.from_store.result.rules _ c.args.window.now (ap (λ (v : Version). rules_in v c.args.store) c.in-First.is) (ap (λ (r : Ruled). r.rules) c.from_store.ensures)

pub returns-in-Second-clause-gives : goal.returns-in-Second-clause-gives
returns-in-Second-clause-gives g c =
    no-rules-read c.args.version c.args.store c.from_store-in-Second.result.rules _ c.args.window.now (ap (λ (v : Version). rules_in v c.args.store) c.in-Second.is) (ap (λ (r : Ruled). r.rules) c.from_store-in-Second.ensures)

pub returns-in-Third-clause-gives : goal.returns-in-Third-clause-gives
returns-in-Third-clause-gives g c =
    subst (λ (v : Version). Gives (λ (r : Ruled). r.rules) (rules_in v c.args.store) (g.R.Read.remaining c.args.reader.now) (g.R.Read.remaining c.rules.new.reader) c.args.window.now c.rules.new.window c.rules.result)
    (sym c.in-Third.is) c.rules.ensures.gives

pub returns-in-Fourth-clause-gives : goal.returns-in-Fourth-clause-gives
returns-in-Fourth-clause-gives g c =
    subst (λ (v : Version). Gives (λ (r : Ruled). r.rules) (rules_in v c.args.store) (g.R.Read.remaining c.args.reader.now) (g.R.Read.remaining c.rules-in-Fourth.new.reader) c.args.window.now c.rules-in-Fourth.new.window c.rules-in-Fourth.result)
    (sym c.in-Fourth.is) c.rules-in-Fourth.ensures.gives
