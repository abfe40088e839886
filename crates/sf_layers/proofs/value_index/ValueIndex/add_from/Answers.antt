use Rattle.std.proofs.Common.{IfSome, subst}
use Rattle.sf_layers.specs.ValueIndexes.{HasPair}
use Rattle.sf_layers.proofs.Outcomes.{OnOk-map}
use Rattle.sf_layers.proofs.ValueNotes.{has_those-found}
use Rattle.sf_layers.proofs.value_index.ValueIndex.add_from.Goals as goal

pub returns-in-Some-clause-has : goal.returns-in-Some-clause-has
returns-in-Some-clause-has c = OnOk-map c.add.result
    (λ has. has_those-found c.args.number c.add.new.self c.args.id c.args.feature.now.values c.valid.ensures.rising (subst (λ o. IfSome o (λ value. HasPair c.add.new.self value c.args.id)) c.in-Some.ensures has))
    c.add.ensures.has

pub returns-in-None-clause-has : goal.returns-in-None-clause-has
returns-in-None-clause-has c =
    has_those-found c.args.number c.args.self.now c.args.id c.args.feature.now.values c.valid.ensures.rising (subst (λ o. IfSome o (λ value. HasPair c.args.self.now value c.args.id)) c.in-None.ensures tt)
