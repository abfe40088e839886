use Rattle.std.proofs.Common.{◌≡◌, ◌+◌, ◌-◌, ℕ, ap, ◌∙◌, arith, slice_index, slice_set}
use Rattle.sf_cells.proofs.TallyLaws.{group_below, take_one}
use Rattle.sf_cells.proofs.tally.put_back.Goals as goal

pub bounds-tally-group : goal.bounds-tally-group
bounds-tally-group c = omega (arith, group_below c.args.groups.now c.args.piece c.requires.grouped)

one_less : (n m : ℕ) → n ≡ m + 1 → m ≡ n - 1
one_less n m e = omega arith

pub returns : goal.returns
returns c =
    let group = slice_index c.args.groups.now c.args.piece in
    ap (slice_set c.args.tally.now group) (one_less (slice_index c.args.tally.now group) c.args.left c.requires.left)
    ∙ take_one c.args.groups.now c.args.tally.now c.args.piece c.requires.counted c.requires.grouped
