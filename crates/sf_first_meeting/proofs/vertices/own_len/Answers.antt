use Rattle.std.proofs.Common.{◌∙◌, sym, inl, inr, refl, arith}
use Rattle.sf_first_meeting.proofs.PairLaws.{read-is, same-is}
use Rattle.sf_first_meeting.proofs.TableLaws.{places-rise}
use Rattle.sf_first_meeting.proofs.vertices.own_len.Goals as goal

pub returns-then-count-lt2 : goal.returns-then-count-lt2
returns-then-count-lt2 c = inl refl

pub returns-then-eq : goal.returns-then-eq
returns-then-eq c =
    inr (
      omega arith,
      read-is c.args.points.now 0 c.index-points-0.result (omega arith) c.index-points-0.is
          ∙ same-is c.index-points-0.result c.index-points-count.result (sym c.eq.ensures ∙ c.if-eq.true)
          ∙ sym (read-is c.args.points.now _ c.index-points-count.result (omega arith) c.index-points-count.is),
    )

pub returns-else-eq : goal.returns-else-eq
returns-else-eq c = inl refl
