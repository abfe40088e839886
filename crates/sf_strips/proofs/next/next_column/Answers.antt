use Rattle.std.proofs.Common.{◌+◌, ap, sym, ◌∙◌, subst, take, Option, Some}
use Rattle.sf_grid.specs.Fraction.{Fraction}
use Rattle.sf_strips.specs.Next.{candidates, lesser}
use Rattle.sf_strips.proofs.NearestLaws.{IsNearest, nearest_next, nearest_same}
use Rattle.sf_strips.proofs.next.next_column.Goals as goal
use Rattle.sf_strips.proofs.next.next_column.Goals.{in-Ahead, in_default}

pub loop-contact-preserved : goal.loop-contact-preserved
loop-contact-preserved c =
    let P : Option Fraction → Type 0 = λ n. IsNearest n (candidates c.args.vertex (take (c.loop-contact.contact-index + 1) c.args.contacts.now)) in
    elim c.match-contact.branch [
      | in-Ahead w ↦
          subst P
          (sym (w.nearest-is ∙ ap (λ q. Some q) (w.lesser.ensures ∙ ap (lesser c.loop-contact.nearest) w.x-in-Ahead.ensures.value)))
          (nearest_next c.loop-contact.nearest c.args.vertex c.args.contacts.now c.loop-contact.contact-index c.contact-item.result w.in-Ahead.p
          c.loop-contact-test.true (sym c.contact-item.is ∙ w.in-Ahead.is)
          (record { positive = w.x-in-Ahead.ensures.point.positive }) c.loop-contact.invariant)
      | in_default w ↦
          subst P (sym w.nearest-is)
          (nearest_same c.loop-contact.nearest c.args.vertex c.args.contacts.now c.loop-contact.contact-index c.contact-item.result
          c.loop-contact-test.true (λ p e. w.in_default.not-Ahead p (c.contact-item.is ∙ e)) c.loop-contact.invariant)
    ]
