use Rattle.std.proofs.Common.{Bool, None, Option, subst, sym}
use Rattle.sf_features.specs.declared.attr_value.AttrValue.{AttrValue}
use Rattle.sf_streams.specs.Streams.{Goes}
use Rattle.sf_streams.proofs.ReadingLaws.{Goes-nothing}
use Rattle.sf_format.specs.Readings.{done}
use Rattle.sf_format.specs.Format.{end_value}
use Rattle.sf_loading.proofs.demands.end_value.Goals as goal

pub returns-else-given : goal.returns-else-given
returns-else-given g c =
    subst (λ (given : Bool). Goes (end_value c.args.column_type given) (done {T = Option AttrValue} None) (g.R.Read.remaining c.args.reader.now) (g.R.Read.remaining c.args.reader.now) c.args.window.now c.args.window.now)
    (sym c.if-given.false) (Goes-nothing (done {T = Option AttrValue} None) _ c.args.window.now)
