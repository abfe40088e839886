use Rattle.std.proofs.Common.{◌∙◌, ap, sym, rules, length, nat_lt}
use Rattle.std.proofs.lemmas.List.Sorted.{answers_always}
use Rattle.std.specs.List.Sorted.{IsSortedBy}
use Rattle.sf_grid.specs.Sharing.{comes_before}
use Rattle.sf_geometry.specs.Lists.{tight}
use Rattle.sf_validity.proofs.RepeatLaws.{points_ranked, repeats-sorted}
use Rattle.sf_validity.proofs.simple.has_repeats.Goals as goal

pub returns : goal.returns
returns c =
    let up : IsSortedBy comes_before c.sort_unstable_by.new.self.items = c.sort_unstable_by.ensures.sorted comes_before points_ranked (answers_always _ _ _ (λ f a r g h. search rules)) in
    ap (λ n. nat_lt c.tight_length.result n) (c.len.ensures ∙ sym c.as_slice.ensures.len ∙ ap length c.as_slice.ensures.value)
    ∙ ap (λ n. nat_lt n (length c.sort_unstable_by.new.self.items)) (c.tight_length.ensures ∙ ap (λ ps. length (tight ps)) c.as_slice.ensures.value)
    ∙ repeats-sorted c.args.points.now c.sort_unstable_by.new.self.items (search rules) up
