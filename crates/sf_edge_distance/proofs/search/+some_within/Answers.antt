use Rattle.std.proofs.Common.{◌≡◌, ◌∙◌, ◌/◌, length, arith, sym, refl, false}
use Rattle.std.proofs.lemmas.Bool.{both_ways}
use Rattle.sf_distance.specs.Mixed.{number_of}
use Rattle.sf_edge_distance.specs.Edges.{IsOnSome}
use Rattle.sf_edge_distance.proofs.SearchLaws.{far_apart, least-only, only-one, both-back, halves, within-back, within-else, within-least, within-left, within-then}
use Rattle.sf_edge_distance.proofs.search.+some_within.Goals as goal

pub returns-then-first-second : goal.returns-then-first-second
returns-then-first-second t c = (
  λ h. within-back (IsOnSome c.args.second.now) (IsOnSome c.args.first.now) (number_of c.args.bound.now) (c.some_within.ensures.0 h),
  λ w. c.some_within.ensures.1 (within-back (IsOnSome c.args.first.now) (IsOnSome c.args.second.now) (number_of c.args.bound.now) w),
)

pub returns-then-not-is_at_most : goal.returns-then-not-is_at_most
returns-then-not-is_at_most t c = (
  λ h. absurd (both_ways false refl h),
  λ w. absurd (within-left (IsOnSome c.args.first.now) (IsOnSome c.args.second.now) (number_of c.args.bound.now) (number_of c.square_of_gap.result) (sym c.is_at_most.ensures ∙ c.if-not-is_at_most.true)
      (far_apart c.args.first_box c.args.second_box c.square_of_gap.result c.args.first.now c.args.second.now c.square_of_gap.ensures.apart c.requires.first_over c.requires.second_over) w),
)

pub returns-then-first-eq1 : goal.returns-then-first-eq1
returns-then-first-eq1 t c =
    let e = c.index-first-0.result in
    let f = c.index-second-0.result in
    let other : length c.args.second.now ≡ 1 = omega (arith, c.if-first-eq1.true, c.if-first-second.false, c.requires.some_second) in
    let both =
    within-least (IsOnSome c.args.first.now) (IsOnSome c.args.second.now) (number_of c.square_between_edges.result) (number_of c.args.bound.now)
    (least-only c.args.first.now c.args.second.now e f (number_of c.square_between_edges.result)
    (only-one c.args.first.now e c.if-first-eq1.true c.index-first-0.is) (only-one c.args.second.now f other c.index-second-0.is) c.square_between_edges.ensures) in (
      λ h. both.0 (sym c.is_at_most-then-first-eq1.ensures ∙ h),
      λ w. c.is_at_most-then-first-eq1.ensures ∙ both.1 w,
    )

pub returns-then-some_within : goal.returns-then-some_within
returns-then-some_within t c =
    let front = c.split_at.result.0.now in
    let back = c.split_at.result.1.now in
    within-then (IsOnSome back) (IsOnSome front) (IsOnSome c.args.first.now) (IsOnSome c.args.second.now) (number_of c.args.bound.now) c.some_within-then-is_nearer.result
    (both-back (IsOnSome front) (IsOnSome back) (IsOnSome c.args.first.now)
    (halves (length c.args.first.now / 2) c.args.first.now front back c.split_at.ensures.front c.split_at.ensures.back))
    c.if-some_within.true c.some_within-then-is_nearer.ensures

pub returns-else-some_within : goal.returns-else-some_within
returns-else-some_within t c =
    let front = c.split_at.result.0.now in
    let back = c.split_at.result.1.now in
    within-else (IsOnSome back) (IsOnSome front) (IsOnSome c.args.first.now) (IsOnSome c.args.second.now) (number_of c.args.bound.now) c.some_within-then-is_nearer.result c.some_within-else-some_within.result
    (both-back (IsOnSome front) (IsOnSome back) (IsOnSome c.args.first.now)
    (halves (length c.args.first.now / 2) c.args.first.now front back c.split_at.ensures.front c.split_at.ensures.back))
    c.if-some_within.false c.some_within-then-is_nearer.ensures c.some_within-else-some_within.ensures

pub returns-then-some_within-2 : goal.returns-then-some_within-2
returns-then-some_within-2 t c =
    let front = c.split_at.result.0.now in
    let back = c.split_at.result.1.now in
    within-then (IsOnSome front) (IsOnSome back) (IsOnSome c.args.first.now) (IsOnSome c.args.second.now) (number_of c.args.bound.now) c.some_within-else-is_nearer.result
    (halves (length c.args.first.now / 2) c.args.first.now front back c.split_at.ensures.front c.split_at.ensures.back)
    c.if-some_within-2.true c.some_within-else-is_nearer.ensures

pub returns-else-some_within-2 : goal.returns-else-some_within-2
returns-else-some_within-2 t c =
    let front = c.split_at.result.0.now in
    let back = c.split_at.result.1.now in
    within-else (IsOnSome front) (IsOnSome back) (IsOnSome c.args.first.now) (IsOnSome c.args.second.now) (number_of c.args.bound.now) c.some_within-else-is_nearer.result c.some_within-else-some_within-2.result
    (halves (length c.args.first.now / 2) c.args.first.now front back c.split_at.ensures.front c.split_at.ensures.back)
    c.if-some_within-2.false c.some_within-else-is_nearer.ensures c.some_within-else-some_within-2.ensures
