use Rattle.std.proofs.Common.{ap, ◌∙◌, ◌++◌, subst, rules}
use Rattle.std.specs.List.Sorted.{IsPermutation}
use Rattle.std.proofs.lemmas.List.Sorted.{answers_always}
use Rattle.sf_strips.proofs.OnwardLaws.{slopes_fall, slopes_ranked, steeper}
use Rattle.sf_strips.specs.Levels.{going_past}
use Rattle.sf_strips.proofs.onward.onward.Goals as goal

pub returns-then-len-gt1-clause-onward : goal.returns-then-len-gt1-clause-onward
returns-then-len-gt1-clause-onward c =
    let begun = c.push_starts.ensures.starts in
    record {
      starts = begun.starts;
      are_starts = begun.are;
      same =
          subst (λ before. IsPermutation before c.sort_unstable_by.new.self.items)
          (begun.behind ∙ ap (λ front. front ++ begun.starts) (c.push_going.ensures.items ∙ ap (λ none. none ++ going_past c.args.vertices.now c.args.edges.now) c.clear.ensures.items))
          c.sort_unstable_by.ensures.permutation;
      fall =
          slopes_fall c.sort_unstable_by.new.self.items
          (c.sort_unstable_by.ensures.sorted steeper slopes_ranked (answers_always _ _ _ (λ f a r g h. search rules)));
    }
