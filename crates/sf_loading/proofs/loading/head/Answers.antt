use Rattle.std.proofs.Common.{subst}
use Rattle.std.proofs.lemmas.Result.{err_from_is_err_and}
use Rattle.sf_format.specs.declared.version.Version.{Version}
use Rattle.sf_format.specs.declared.version.Version.TheVariants.{First, Second, Third, Fourth}
use Rattle.sf_format.specs.Readings.{bytes, done, field}
use Rattle.sf_format.specs.Format.{head, on_grid, version_of}
use Rattle.sf_loading.specs.Streaming.{Takes}
use Rattle.sf_loading.proofs.StreamLaws.{Ends-first, Goes-then, Reaches-after}
use Rattle.sf_loading.proofs.loading.head.Goals as goal

pub returns-in_err-version : goal.returns-in_err-version
returns-in_err-version g c =
    let p = err_from_is_err_and c.from_residual.result c.from_residual.ensures.1 in
    rw (p.1, p.2) (Ends-first (field (bytes 8) version_of) on_grid c.in_err-version.field-0.0 _ _ _ c.in_err-version.ensures)

pub returns-in-First : goal.returns-in-First
returns-in-First g c =
    let taken = subst (λ (v : Version). Takes (field (bytes 8) version_of) v (g.R.Read.remaining c.args.reader.now) (g.R.Read.remaining c.version.new.reader) c.args.window.now c.version.new.window) c.in-First.is c.in_ok-version.ensures in
    Goes-then (field (bytes 8) version_of) on_grid First _ _ _ _ taken

pub returns-in-Second : goal.returns-in-Second
returns-in-Second g c =
    let taken = subst (λ (v : Version). Takes (field (bytes 8) version_of) v (g.R.Read.remaining c.args.reader.now) (g.R.Read.remaining c.version.new.reader) c.args.window.now c.version.new.window) c.in-Second.is c.in_ok-version.ensures in
    Reaches-after head (on_grid Second) (λ v. done v) c.on_grid.result _ _ _ _ _ _ (Goes-then (field (bytes 8) version_of) on_grid Second _ _ _ _ taken) c.on_grid.ensures

pub returns-in-Third : goal.returns-in-Third
returns-in-Third g c =
    let taken = subst (λ (v : Version). Takes (field (bytes 8) version_of) v (g.R.Read.remaining c.args.reader.now) (g.R.Read.remaining c.version.new.reader) c.args.window.now c.version.new.window) c.in-Third.is c.in_ok-version.ensures in
    Reaches-after head (on_grid Third) (λ v. done v) c.on_grid-in-Third.result _ _ _ _ _ _ (Goes-then (field (bytes 8) version_of) on_grid Third _ _ _ _ taken) c.on_grid-in-Third.ensures

pub returns-in-Fourth : goal.returns-in-Fourth
returns-in-Fourth g c =
    let taken = subst (λ (v : Version). Takes (field (bytes 8) version_of) v (g.R.Read.remaining c.args.reader.now) (g.R.Read.remaining c.version.new.reader) c.args.window.now c.version.new.window) c.in-Fourth.is c.in_ok-version.ensures in
    Reaches-after head (on_grid Fourth) (λ v. done v) c.on_grid-in-Fourth.result _ _ _ _ _ _ (Goes-then (field (bytes 8) version_of) on_grid Fourth _ _ _ _ taken) c.on_grid-in-Fourth.ensures
