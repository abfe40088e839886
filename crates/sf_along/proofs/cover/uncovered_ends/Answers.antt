use Rattle.std.proofs.Common.{◌≡◌, ◌∙◌, [], ap, map, sym, subst}
use Rattle.std.specs.List.{AllByRecursion}
use Rattle.std.specs.List.Sorted.{IsPermutation}
use Rattle.std.proofs.lemmas.Result.{IfOk-weaker}
use Rattle.sf_geometry.specs.Parts.{edge_of, edges_of}
use Rattle.sf_along.specs.Covers.{AreCovered, IsEnd, IsLeft, LieAlong}
use Rattle.sf_along.specs.Runs.{runs_of}
use Rattle.sf_along.proofs.CoverLaws.{are-ends, lie-along}
use Rattle.sf_along.proofs.cover.uncovered_ends.Goals as goal
use Rattle.sf_along.proofs.cover.uncovered_ends.Goals.{After-as_slice-3}

-- the pairs are those of the geometries' edges
first-edges : (c : After-as_slice-3) → map edge_of c.as_slice.result.now ≡ edges_of c.args.a.now
first-edges c = ap (map edge_of) c.as_slice.ensures.value ∙ c.in_ok-first.ensures

second-edges : (c : After-as_slice-3) → map edge_of c.as_slice-2.result.now ≡ edges_of c.args.b.now
second-edges c = ap (map edge_of) c.as_slice-2.ensures.value ∙ c.in_ok-second.ensures

-- and what is sorted are their runs
permuted : (c : After-as_slice-3) → IsPermutation (runs_of c.as_slice.result.now c.as_slice-2.result.now) c.as_slice-3.result.now
permuted c =
    subst (IsPermutation (runs_of c.as_slice.result.now c.as_slice-2.result.now)) (sym c.as_slice-3.ensures.value)
    (subst (λ runs. IsPermutation runs c.sort_unstable_by_key.new.self.items) c.in_ok-runs.ensures c.sort_unstable_by_key.ensures.permutation)

pub returns-clause-covered : goal.returns-clause-covered
returns-clause-covered c =
    let done = (goal.at.returns-clause-covered c).After-as_slice-3 in
    let runs = c.as_slice-3.result.now in
    IfOk-weaker c.uncovered_lefts.result (λ ends. ends.items ≡ [] → AreCovered runs runs) (λ ends. ends.items ≡ [] → LieAlong c.args.a.now c.args.b.now)
    (λ ends covered none.
    lie-along c.as_slice.result.now c.as_slice-2.result.now runs (permuted done) c.args.a.now c.args.b.now (first-edges done) (second-edges done) (covered none))
    c.uncovered_lefts.ensures.covered

pub returns-clause-ends : goal.returns-clause-ends
returns-clause-ends c =
    let done = (goal.at.returns-clause-ends c).After-as_slice-3 in
    let runs = c.as_slice-3.result.now in
    IfOk-weaker c.uncovered_lefts.result (λ ends. AllByRecursion (IsLeft runs) ends.items) (λ ends. AllByRecursion (IsEnd c.args.a.now) ends.items)
    (λ ends h.
    are-ends c.as_slice.result.now c.as_slice-2.result.now runs (permuted done) c.args.a.now c.args.b.now (first-edges done) (second-edges done) ends.items h)
    c.uncovered_lefts.ensures.ends
