use Rattle.sf_first_meeting.proofs.SpotLaws.{begins-read, ends-read}
use Rattle.sf_first_meeting.proofs.spot.ends_at.Goals as goal

pub returns : goal.returns
returns c =
    record {
      ends = λ h. ends-read c.args.points.now c.args.vertex c.args.edge _ _ _ c.requires.in_range c.ends-right.ensures.right c.index-points-vertex.is c.eq.ensures h;
      begins = λ h. begins-read c.args.points.now c.args.vertex c.args.edge _ _ _ c.requires.in_range c.requires.there c.ends-right.ensures.right c.index-points-vertex.is c.eq.ensures h;
    }
