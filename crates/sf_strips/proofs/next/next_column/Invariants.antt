use Rattle.std.proofs.Common.{take}
use Rattle.sf_strips.specs.Next.{candidates}
use Rattle.sf_strips.proofs.NearestLaws.{IsNearest}
use Rattle.sf_strips.proofs.next.next_column.Given as goal

abbrev pub invariant-loop-contact : goal.invariant-loop-contact
invariant-loop-contact l = IsNearest l.nearest (candidates l.fn.vertex (take l.contact-index l.contacts))
