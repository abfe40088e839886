use Rattle.std.proofs.Common.{ℕ, List, ◌∙◌, ap, sym}
use Rattle.std.specs.Prelude.{is_some}
use Rattle.sf_features.specs.Columns.{named}
use Rattle.sf_format.specs.declared.defect.Defect.TheVariants.{ColumnExists}
use Rattle.sf_format.specs.Format.{allowed, fresh_column_name, name}
use Rattle.sf_loading.proofs.StreamLaws.{Gives-ruled}
use Rattle.sf_loading.proofs.TextLaws.{free-test}
use Rattle.sf_loading.proofs.texts.column_name.Goals as goal

pub returns : goal.returns
returns g c =
    let text = c.in_ok-name.name in
    let free = c.is_none-free.result in
    let taken = ap (λ (t : List ℕ). is_some (named c.args.layer.now.columns t)) (sym c.as_str.ensures) ∙ sym c.column_place.ensures.found ∙ c.is_none-free.ensures in
    Gives-ruled (λ t. t) name (fresh_column_name c.args.layer.now.columns) text (allowed free ColumnExists text) c.place-place.result c.allowed.result _ _ _ _ c.place-place.ensures c.in_ok-name.ensures
    (ap (λ t. allowed t ColumnExists text) (free-test free ((λ (t : List ℕ). is_some (named c.args.layer.now.columns t)) text) taken)) c.allowed.ensures
