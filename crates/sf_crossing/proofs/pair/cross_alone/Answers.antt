use Rattle.std.proofs.Common.{sym, ◌∙◌, true≢false}
use Rattle.sf_crossing.proofs.AloneLaws.{AreRead, beside, both-read, crossed-along, crossed-apart, crossed-from, first-alone, second-alone}
use Rattle.sf_crossing.proofs.EdgeLaws.{long-read}
use Rattle.sf_crossing.proofs.pair.cross_alone.Goals as goal
use Rattle.sf_crossing.proofs.pair.cross_alone.Goals.{After-meet}

pub meet-requires-clause-first_has_length : goal.meet-requires-clause-first_has_length
meet-requires-clause-first_has_length c = long-read c.args.first.now c.args.i c.index-first-i.result c.requires.first_long c.requires.in_first c.index-first-i.is

pub meet-requires-clause-second_has_length : goal.meet-requires-clause-second_has_length
meet-requires-clause-second_has_length c = long-read c.args.second.now c.args.j c.index-second-j.result c.requires.second_long c.requires.in_second c.index-second-j.is

pub returns-then-not-do_cross : goal.returns-then-not-do_cross
returns-then-not-do_cross c = (
  λ t. absurd (true≢false (sym t)),
  λ k.
      absurd
      (beside c.args.first.now c.args.second.now c.args.i c.args.j c.index-first-i.result c.index-second-j.result
      (both-read c.args.first.now c.args.second.now c.args.i c.args.j c.index-first-i.result c.index-second-j.result c.requires.in_first c.requires.in_second c.index-first-i.is c.index-second-j.is)
      (sym c.do_cross.ensures ∙ c.if-not-do_cross.true) k),
)

-- the two edges, as they are read
read : (c : After-meet) → AreRead c.args.first.now c.args.second.now c.args.i c.args.j c.index-first-i.result c.index-second-j.result
read c = both-read c.args.first.now c.args.second.now c.args.i c.args.j c.index-first-i.result c.index-second-j.result c.requires.in_first c.requires.in_second c.index-first-i.is c.index-second-j.is

pub returns-in-Apart : goal.returns-in-Apart
returns-in-Apart c = (λ t. absurd (true≢false (sym t)), λ k. absurd (crossed-apart _ _ _ _ _ _ (read (goal.at.returns-in-Apart c).After-meet) c.in-Apart.ensures k))

pub returns-in-Along : goal.returns-in-Along
returns-in-Along c = (λ t. absurd (true≢false (sym t)), λ k. absurd (crossed-along _ _ _ _ _ _ (read (goal.at.returns-in-Along c).After-meet) c.in-Along.field-0 c.in-Along.field-1 c.in-Along.ensures k))

pub returns-then-is_alone : goal.returns-then-is_alone
returns-then-is_alone c =
    let edges = read (goal.at.returns-then-is_alone c).After-meet in (
      λ t. crossed-from _ _ _ _ _ _ edges c.in-At.point c.in-At.ensures (sym c.do_cross.ensures ∙ c.if-not-do_cross.false) (c.is_alone.ensures.0 c.if-is_alone.true) (c.is_alone-then-is_alone.ensures.0 t),
      λ k. c.is_alone-then-is_alone.ensures.1 (second-alone _ _ _ _ _ _ edges c.in-At.point c.in-At.ensures k),
    )

pub returns-else-is_alone : goal.returns-else-is_alone
returns-else-is_alone c = (
  λ t. absurd (true≢false (sym t ∙ c.if-is_alone.false)),
  λ k. c.is_alone.ensures.1 (first-alone _ _ _ _ _ _ (read (goal.at.returns-else-is_alone c).After-meet) c.in-At.point c.in-At.ensures k),
)
