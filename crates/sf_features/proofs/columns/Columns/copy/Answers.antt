use Rattle.std.proofs.Common.{◌≡◌, ◌∙◌, ◌+◌, suc, sym, ap, subst, insert, slice_get, take, bytes_eq, nat_eq, Some, map, arith, rules}
use Rattle.std.specs.List.{IsDistinct as IsUnique}
use Rattle.sf_features.specs.Columns.{IsDistinct, named, numbered}
use Rattle.sf_features.proofs.Copied.{insert-take, named-before, numbered-before, within-there}
use Rattle.sf_features.proofs.columns.Columns.copy.Goals as goal
use Rattle.sf_features.proofs.columns.Columns.copy.Goals.{In_ok-column}

-- the column that was copied stands at the place
there : (c : In_ok-column) → slice_get c.args.self.now c.loop-place.place ≡ Some c.in_ok-column.column
there c = ap (λ columns. slice_get columns c.loop-place.place) (sym c.self.view_is) ∙ c.index.ensures ∙ ap Some (sym c.in_ok-column.ensures)

pub put-requires-clause-free : goal.put-requires-clause-free
put-requires-clause-free c =
    let at = (goal.at.put-requires-clause-free c).In_ok-column in
    ap (λ columns. named columns c.in_ok-column.column.name) c.loop-place.invariant.0
    ∙ named-before c.args.self.now c.loop-place.place c.in_ok-column.column
    (subst (λ columns. IsDistinct bytes_eq (map (λ column. column.name) columns)) c.self.view_is c.self.invariant.distinct) (there at)

pub put-requires-clause-unused : goal.put-requires-clause-unused
put-requires-clause-unused c =
    let at = (goal.at.put-requires-clause-unused c).In_ok-column in
    ap (λ columns. numbered columns c.in_ok-column.column.number) c.loop-place.invariant.0
    ∙ numbered-before c.args.self.now c.loop-place.place c.in_ok-column.column
    (subst (λ columns. IsUnique nat_eq (map (λ column. column.number) columns)) c.self.view_is (subst (IsUnique nat_eq) c.self.invariant.keyed c.len-place-end.ensures.unique)) (there at)

pub loop-place-preserved : goal.loop-place-preserved
loop-place-preserved c =
    let at = (goal.at.loop-place-preserved c).In_ok-column in
    let n = c.loop-place.place in
    let put : c.put.new.self ≡ insert c.loop-place.copy n c.in_ok-column.column = search rules in
    let next : suc n ≡ n + 1 = omega arith in (
      put ∙ ap (λ columns. insert columns n c.in_ok-column.column) c.loop-place.invariant.0
          ∙ insert-take c.args.self.now n c.in_ok-column.column (there at) ∙ ap (λ m. take m c.args.self.now) next,
      omega (arith, within-there c.args.self.now n c.in_ok-column.column (there at)),
    )
