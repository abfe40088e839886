use Rattle.std.proofs.Common.{◌≡◌, ◌∙◌, ◌/◌, length, arith, sym}
use Rattle.sf_distance.specs.Mixed.{number_of}
use Rattle.sf_edge_distance.specs.Edges.{IsOnSome}
use Rattle.sf_edge_distance.proofs.SearchLaws.{both-back, far_apart, halves, improved-back, improved-both, improved-left, improved-lesser, least-only, only-one, whole_gap}
use Rattle.sf_edge_distance.proofs.search.+improved.Goals as goal

pub returns-then-first-second : goal.returns-then-first-second
returns-then-first-second t c =
    improved-back (IsOnSome c.args.second.now) (IsOnSome c.args.first.now) (number_of c.args.best) (number_of c.improved.result) c.improved.ensures

pub returns-then-is_at_most : goal.returns-then-is_at_most
returns-then-is_at_most t c =
    improved-left (IsOnSome c.args.first.now) (IsOnSome c.args.second.now) (number_of c.args.best) (number_of c.square_of_gap.result) c.requires.number
    (whole_gap c.square_of_gap.result _ c.square_of_gap.ensures.value) (sym c.is_at_most.ensures ∙ c.if-is_at_most.true)
    (far_apart c.args.first_box c.args.second_box c.square_of_gap.result c.args.first.now c.args.second.now c.square_of_gap.ensures.apart c.requires.first_over c.requires.second_over)

pub returns-then-first-eq1 : goal.returns-then-first-eq1
returns-then-first-eq1 t c =
    let e = c.index-first-0.result in
    let f = c.index-second-0.result in
    let other : length c.args.second.now ≡ 1 = omega (arith, c.if-first-eq1.true, c.if-first-second.false, c.requires.some_second) in
    improved-lesser (IsOnSome c.args.first.now) (IsOnSome c.args.second.now) (number_of c.square_between_edges.result) (number_of c.args.best) (number_of c.lesser.result) c.requires.number
    (least-only c.args.first.now c.args.second.now e f (number_of c.square_between_edges.result)
    (only-one c.args.first.now e c.if-first-eq1.true c.index-first-0.is) (only-one c.args.second.now f other c.index-second-0.is) c.square_between_edges.ensures)
    c.lesser.ensures

pub returns-then-is_nearer : goal.returns-then-is_nearer
returns-then-is_nearer t c =
    let front = c.split_at.result.0.now in
    let back = c.split_at.result.1.now in
    improved-both (IsOnSome back) (IsOnSome front) (IsOnSome c.args.first.now) (IsOnSome c.args.second.now)
    (number_of c.args.best) (number_of c.improved-better.result) (number_of c.improved-then-is_nearer.result)
    (both-back (IsOnSome front) (IsOnSome back) (IsOnSome c.args.first.now) (halves (length c.args.first.now / 2) c.args.first.now front back c.split_at.ensures.front c.split_at.ensures.back))
    c.improved-better.ensures c.improved-then-is_nearer.ensures

pub returns-else-is_nearer : goal.returns-else-is_nearer
returns-else-is_nearer t c =
    let front = c.split_at.result.0.now in
    let back = c.split_at.result.1.now in
    improved-both (IsOnSome front) (IsOnSome back) (IsOnSome c.args.first.now) (IsOnSome c.args.second.now)
    (number_of c.args.best) (number_of c.improved-better-else-is_nearer.result) (number_of c.improved-else-is_nearer.result)
    (halves (length c.args.first.now / 2) c.args.first.now front back c.split_at.ensures.front c.split_at.ensures.back)
    c.improved-better-else-is_nearer.ensures c.improved-else-is_nearer.ensures
