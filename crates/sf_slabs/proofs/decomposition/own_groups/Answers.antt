use Rattle.std.proofs.Common.{arith, ap, sym, ◌∙◌, ◌++◌, [], ◌∷◌}
use Rattle.sf_cells.proofs.CallerLemmas.{numbers-more}
use Rattle.sf_slabs.proofs.decomposition.own_groups.Goals as goal

pub loop-group-preserved : goal.loop-group-preserved
loop-group-preserved c =
    let before = c.loop-group.invariant in
    record {
      groups = c.push_reserved.ensures.items ∙ ap (λ gs. gs ++ c.loop-group.group ∷ []) before.groups ∙ sym (numbers-more c.loop-group.group);
      len = omega arith;
      room = omega arith;
    }
