use Rattle.std.proofs.Common.{sym, ◌∙◌, subst, true≢false}
use Rattle.sf_geometry.specs.Parts.{edge_of}
use Rattle.sf_edge_tree.proofs.SearchLaws.{edge-read}
use Rattle.sf_crossing.specs.Crossing.{MayHave}
use Rattle.sf_crossing.proofs.AloneLaws.{alone-more}
use Rattle.sf_crossing.proofs.EdgeLaws.{long-read}
use Rattle.sf_crossing.proofs.pair.is_alone.Goals as goal
use Rattle.sf_crossing.proofs.pair.is_alone.Goals.{else-other-number-via-then-other-number+else-may_have, else-other-number-via-else-other-number}

pub may_have-requires-clause-long : goal.may_have-requires-clause-long
may_have-requires-clause-long c = long-read c.args.edges.now c.loop-other.other c.index-edges-other.result c.requires.long c.loop-other-test.true c.index-edges-other.is

pub returns-then-may_have : goal.returns-then-may_have
returns-then-may_have c = (
  λ t. absurd (true≢false (sym t)),
  λ alone.
      absurd
      (alone c.loop-other.other c.loop-other-test.true c.if-other-number.true
      (subst (λ e. MayHave (edge_of e) (edge_of c.args.line.now) c.args.point.now)
      (edge-read c.args.edges.now c.loop-other.other c.index-edges-other.result c.loop-other-test.true c.index-edges-other.is)
      (c.may_have.ensures.0 c.if-may_have.true))),
)

pub loop-other-preserved : goal.loop-other-preserved
loop-other-preserved c =
    alone-more c.args.edges.now c.args.number c.loop-other.other (edge_of c.args.line.now) c.args.point.now c.loop-other.invariant
    (λ differs has. elim c.else-other-number.branch [
      | else-other-number-via-then-other-number+else-may_have w ↦
          true≢false
          (sym
          (w.may_have.ensures.1
          (subst (λ e. MayHave (edge_of e) (edge_of c.args.line.now) c.args.point.now)
          (sym (edge-read c.args.edges.now c.loop-other.other w.index-edges-other.result c.loop-other-test.true w.index-edges-other.is))
          has))
          ∙ w.if-may_have.false)
      | else-other-number-via-else-other-number w ↦ differs w.if-other-number.false
    ])
