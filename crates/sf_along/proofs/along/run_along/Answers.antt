use Rattle.std.proofs.Common.{◌≡◌, ◌∙◌, ap, sym, subst, rules, List}
use Rattle.std.specs.List.{All}
use Rattle.std.specs.List.Sorted.{IsPermutation, IsSortedBy}
use Rattle.std.proofs.lemmas.List.Sorted.{All-permutation, answers_always}
use Rattle.sf_grid.specs.Plane.{Coordinates}
use Rattle.sf_along.specs.Near.{near_edges}
use Rattle.sf_along.specs.Marks.{KeepPairs}
use Rattle.sf_along.specs.Runs.{IsRun, key_of, run_before, runs_of}
use Rattle.sf_along.specs.declared.run.Run.{Run}
use Rattle.sf_along.proofs.EdgeLaws.{all-runs}
use Rattle.sf_along.proofs.MarkLaws.{all-of-kept}
use Rattle.sf_along.proofs.OrderLaws.{in-order, sorted-by_keys}
use Rattle.sf_along.proofs.PairLaws.{near_runs, pair-tells}
use Rattle.sf_along.proofs.along.run_along.Goals as goal
use Rattle.sf_along.proofs.along.run_along.Goals.{After-as_slice-3}

-- the runs are those of the edges near the other geometry
near : (c : After-as_slice-3) → c.in_ok-near.near.items ≡ near_runs c.args.a.now c.args.b.now
near c =
    c.in_ok-near.ensures
    ∙ ap (λ ps. runs_of ps c.as_slice-2.result.now) (c.as_slice.ensures.value ∙ c.in_ok-first.ensures)
    ∙ ap (runs_of (near_edges c.args.a.now c.args.b.now)) (c.as_slice-2.ensures.value ∙ c.in_ok-second.ensures)

all : (c : After-as_slice-3) → All IsRun (near_runs c.args.a.now c.args.b.now)
all c = all-runs c.args.a.now c.args.b.now

kept : (c : After-as_slice-3) → KeepPairs (near_runs c.args.a.now c.args.b.now) c.in_ok-runs.runs.items
kept c = subst (λ runs. KeepPairs runs c.in_ok-runs.runs.items) (near c) c.in_ok-runs.ensures.pairs

-- and what is sorted is what is kept of them
permuted : (c : After-as_slice-3) → IsPermutation c.in_ok-runs.runs.items c.as_slice-3.result.now
permuted c = subst (IsPermutation c.in_ok-runs.runs.items) (sym c.as_slice-3.ensures.value) c.sort_unstable_by_key.ensures.permutation

pub have_pair-requires : goal.have_pair-requires
have_pair-requires c =
    in-order c.as_slice-3.result.now
    (All-permutation IsRun c.in_ok-runs.runs.items c.as_slice-3.result.now (permuted c)
    (all-of-kept IsRun (near_runs c.args.a.now c.args.b.now) c.in_ok-runs.runs.items (all c) (kept c)))
    (subst (IsSortedBy run_before) (sym c.as_slice-3.ensures.value)
    (sorted-by_keys c.sort_unstable_by_key.new.self.items (c.sort_unstable_by_key.ensures.sorted key_of (answers_always _ _ _ (λ f a r g k. search rules)))))

pub returns : goal.returns
returns c =
    let done = (goal.at.returns c).After-as_slice-3 in
    let told =
    pair-tells c.args.a.now c.args.b.now c.in_ok-runs.runs.items c.as_slice-3.result.now (all done) (kept done) (permuted done) in
    (λ t. told.0 (c.have_pair.ensures.0 t), λ k. c.have_pair.ensures.1 (told.1 k))
