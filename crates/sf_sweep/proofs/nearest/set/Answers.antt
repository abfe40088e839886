use Rattle.std.proofs.Common.{◌≡◌, arith, refl, ap, sym, ◌∙◌, subst, ◌+◌, ◌*◌, ◌/◌, ◌<◌, length}
use Rattle.std.specs.Prelude.{None, slice_set}
use Rattle.std.proofs.lemmas.List.{get_or_read_under, length-set}
use Rattle.sf_sweep.specs.Nearest.{earlier, place_at}
use Rattle.sf_sweep.proofs.TreeLaws.{IsTreeBut, leaves-kept, mended, place-read, right-already}
use Rattle.sf_sweep.proofs.nearest.set.Goals as goal

pub loop-place-preserved : goal.loop-place-preserved
loop-place-preserved c =
    let tree = c.loop-place.tree in
    let i = c.loop-place.place / 2 in
    let v = c.loop-place.invariant in
    let few : i < c.args.count = omega (arith, v.within) in
    let some : 0 < i = omega (arith, c.loop-place-test.true) in
    let within : i < length tree = omega (arith, few, v.len) in
    let first : c.first_of-first.result ≡ earlier (place_at tree (2 * i)) (place_at tree (2 * i + 1)) =
    c.first_of-first.ensures
    ∙ ap (λ z. earlier z c.index-tree-place-in-loop-place.result) (get_or_read_under tree (2 * i) (length tree) c.index-tree-place.result None c.index-tree-place.is (omega (arith, few, v.len)) refl)
    ∙ ap (earlier (place_at tree (2 * i))) (get_or_read_under tree (2 * i + 1) (length tree) c.index-tree-place-in-loop-place.result None c.index-tree-place-in-loop-place.is (omega (arith, few, v.len)) refl) in
    record {
      some = omega (arith, some);
      within = omega (arith, few);
      len = length-set tree i c.first_of-first.result ∙ v.len;
      tree = subst (λ z. IsTreeBut c.args.count (i / 2) (slice_set tree i z)) (sym first) (mended c.args.count i tree within some v.tree);
      leaves = leaves-kept c.args.count i tree c.first_of-first.result (slice_set c.args.tree.now c.args.leaf c.args.point) few v.leaves;
    }

pub returns-then-are_same-clause-tree : goal.returns-then-are_same-clause-tree
returns-then-are_same-clause-tree c =
    let tree = c.loop-place.tree in
    let i = c.loop-place.place / 2 in
    let v = c.loop-place.invariant in
    let few : i < c.args.count = omega (arith, v.within) in
    let first : c.first_of-first.result ≡ earlier (place_at tree (2 * i)) (place_at tree (2 * i + 1)) =
    c.first_of-first.ensures
    ∙ ap (λ z. earlier z c.index-tree-place-in-loop-place.result) (get_or_read_under tree (2 * i) (length tree) c.index-tree-place.result None c.index-tree-place.is (omega (arith, few, v.len)) refl)
    ∙ ap (earlier (place_at tree (2 * i))) (get_or_read_under tree (2 * i + 1) (length tree) c.index-tree-place-in-loop-place.result None c.index-tree-place-in-loop-place.is (omega (arith, few, v.len)) refl) in
    let same : place_at tree i ≡ c.first_of-first.result =
    sym (place-read tree i c.index-tree-place-in-loop-place-2.result (omega (arith, few, v.len))) ∙ c.are_same.ensures c.if-are_same.true in
    right-already c.args.count i tree v.tree (same ∙ first)
