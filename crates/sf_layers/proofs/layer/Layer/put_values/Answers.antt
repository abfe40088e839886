use Rattle.std.proofs.Common.{◌≡◌, ◌∙◌, IsSome, length, zip, sym, ap, subst, arith}
use Rattle.std.proofs.lemmas.Map.Made.{keys_of-zip}
use Rattle.std.specs.List.{AllByRecursion}
use Rattle.std.specs.Map.{keys_of}
use Rattle.sf_layers.specs.Boxes.{boxes_of}
use Rattle.sf_layers.specs.Content.{LayerContent, feature_of, with_values}
use Rattle.sf_layers.specs.Moves.{put_each}
use Rattle.sf_layers.proofs.Outcomes.{OnOk-is, OnOk-not, by_outcome}
use Rattle.sf_layers.proofs.Boxes.{agrees-on, boxes_of-put_each}
use Rattle.sf_layers.proofs.Values.{with_values-put}
use Rattle.sf_layers.proofs.ValuesKept.{noted-on, noted-put_each}
use Rattle.sf_layers.specs.contracts.layer.Layer.{the_view}
use Rattle.sf_layers.proofs.layer.Layer.put_values.Goals as goal
use Rattle.sf_layers.proofs.layer.Layer.put_values.Goals.{in-Ok, in-Err}

pub put_all-requires-clause-there : goal.put_all-requires-clause-there
put_all-requires-clause-there c =
    let ids = c.values.inside.ids.items in
    let values = c.values.inside.values.items in
    let long : length values ≡ length ids = omega (arith, c.values.invariant.0, c.values.inside.ids.ok.0, c.values.inside.values.ok.0) in
    subst (AllByRecursion (λ id. IsSome (feature_of (the_view c.self.inside) id))) (ap keys_of (sym c.values.view_is) ∙ keys_of-zip ids values long ∙ sym c.as_slice.ensures.value)
    (subst (λ layer. AllByRecursion (λ id. IsSome (feature_of layer id)) (keys_of c.args.values)) (sym c.self.view_is) c.requires.there)

pub returns-clause-put : goal.returns-clause-put
returns-clause-put c = elim c.match-put_all.branch [
  | in-Ok w ↦
      let pairs = ap (λ ids. zip ids c.values.inside.values.items) c.as_slice.ensures.value ∙ c.values.view_is in
      OnOk-is c.match-put_all.result tt w.result-is
      (ap (λ fs. let l : LayerContent = record (the_view c.self.inside) { features = fs } in l) (w.in-Ok.ensures.put ∙ ap (λ vs. put_each c.args.number vs c.self.inside.features.entries) pairs)
      ∙ sym (with_values-put c.args.number c.args.values (the_view c.self.inside)) ∙ ap (with_values c.args.number c.args.values) c.self.view_is)
  | in-Err w ↦ OnOk-not _ c.match-put_all.result _ w.result-is
]

pub invariant_of-self : goal.invariant_of-self
invariant_of-self c =
    let features = c.self.inside.features.entries in
    let values = zip c.as_slice.result.now c.values.inside.values.items in
    by_outcome c.put_all.result c.put_all.ensures.put c.put_all.ensures.kept
    (λ is. (
      agrees-on c.self.inside.index features c.put_all.new.features.entries c.self.invariant.0 (ap boxes_of is ∙ boxes_of-put_each c.args.number values features),
      noted-put_each c.self.inside.values c.forget.new.self features c.put_all.new.features.entries c.args.number values c.forget.ensures.kept c.forget.ensures.gone c.self.invariant.1 is,
    ))
    (λ is. (
      agrees-on c.self.inside.index features c.put_all.new.features.entries c.self.invariant.0 (ap boxes_of is),
      noted-on c.self.inside.values c.forget.new.self features c.put_all.new.features.entries c.forget.ensures.kept c.self.invariant.1 is,
    ))
