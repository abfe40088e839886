use Rattle.sf_relate.proofs.FirstLaws.{contact-first, contact-second}
use Rattle.sf_relate.proofs.first_points.shares_first_point.Goals as goal

pub returns-then-has_first_point_in-clause-contact : goal.returns-then-has_first_point_in-clause-contact
returns-then-has_first_point_in-clause-contact c h = contact-first c.args.a.now c.args.b.now (c.has_first_point_in.ensures.shared h)

pub returns-else-has_first_point_in-clause-contact : goal.returns-else-has_first_point_in-clause-contact
returns-else-has_first_point_in-clause-contact c h =
    contact-second c.args.a.now c.args.b.now (c.has_first_point_in-else-has_first_point_in.ensures.shared h)
