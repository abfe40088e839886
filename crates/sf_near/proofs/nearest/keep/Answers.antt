use Rattle.std.proofs.Common.{◌≡◌, ◌≤◌, ◌∙◌, ap, subst, take, arith}
use Rattle.std.specs.List.{insert, prefix_len}
use Rattle.std.proofs.lemmas.List.Sums.{prefix_len-le-length}
use Rattle.sf_near.specs.declared.distant.Distant.{Distant}
use Rattle.sf_near.specs.Found.{is_told_nearer}
use Rattle.sf_near.proofs.OrderedLaws.{insert-put, put-left_out}
use Rattle.sf_near.proofs.nearest.keep.Goals as goal
use Rattle.sf_near.proofs.nearest.keep.Goals.{After-place_of-place}

-- as many of those that are kept are nearer
place : (c : After-place_of-place) → c.place_of-place.result ≡ prefix_len (λ kept. is_told_nearer kept c.args.distant) c.args.found.now.items
place c = c.place_of-place.ensures ∙ ap (prefix_len (λ (kept : Distant). is_told_nearer kept c.args.distant)) c.as_slice.ensures.value

pub insert-requires : goal.insert-requires
insert-requires c =
    let within = prefix_len-le-length (λ kept. is_told_nearer kept c.args.distant) c.as_slice.result.now in
    let is : c.place_of-place.result ≡ prefix_len (λ kept. is_told_nearer kept c.args.distant) c.as_slice.result.now = c.place_of-place.ensures in
    let len = c.as_slice.ensures.len in
    omega (arith, within, is, len)

pub returns-in_ok-insert-clause-kept : goal.returns-in_ok-insert-clause-kept
returns-in_ok-insert-clause-kept c =
    let at = goal.at.returns-in_ok-insert-clause-kept c in
    c.truncate.ensures.items
    ∙ ap (take c.args.count)
    (c.in_ok-insert.ensures.items ∙ ap (λ n. insert c.args.found.now.items n c.args.distant) (place at.After-place_of-place) ∙ insert-put is_told_nearer c.args.distant c.args.found.now.items)

pub returns-else-place-count-clause-kept : goal.returns-else-place-count-clause-kept
returns-else-place-count-clause-kept c =
    put-left_out is_told_nearer c.args.count c.args.distant c.args.found.now.items c.requires
    (subst (λ n. c.args.count ≤ n) (place (goal.at.returns-else-place-count-clause-kept c).After-place_of-place) c.if-place-count.false)
