use Rattle.std.proofs.Common.{subst, sym}
use Rattle.sf_streams.specs.Streams.{Goes}
use Rattle.sf_streams.proofs.ReadingLaws.{Goes-nothing}
use Rattle.sf_format.specs.Stored.{Demand, Required, Unique}
use Rattle.sf_format.specs.declared.rule_form.DemandForm.{DemandForm}
use Rattle.sf_format.specs.Readings.{done}
use Rattle.sf_format.specs.Format.{demanded}
use Rattle.sf_loading.proofs.demands.demanded.Goals as goal

pub returns-in-Unique : goal.returns-in-Unique
returns-in-Unique g c =
    subst (λ (form : DemandForm). Goes (demanded c.args.column_type form) (done {T = Demand} Unique) (g.R.Read.remaining c.args.reader.now) (g.R.Read.remaining c.args.reader.now) c.args.window.now c.args.window.now)
    (sym c.in-Unique.is) (Goes-nothing (done {T = Demand} Unique) _ c.args.window.now)

pub returns-in-Required : goal.returns-in-Required
returns-in-Required g c =
    subst (λ (form : DemandForm). Goes (demanded c.args.column_type form) (done {T = Demand} Required) (g.R.Read.remaining c.args.reader.now) (g.R.Read.remaining c.args.reader.now) c.args.window.now c.args.window.now)
    (sym c.in-Required.is) (Goes-nothing (done {T = Demand} Required) _ c.args.window.now)
