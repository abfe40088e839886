use Rattle.std.proofs.Common.{◌∙◌}
use Rattle.sf_prepared.proofs.NearbyLaws.{odd-above}
use Rattle.sf_prepared.proofs.prepared.Prepared.is_odd_above.Goals as goal

pub returns : goal.returns
returns c =
    c.has_odd_above-2.ensures
    ∙ odd-above c.args.point c.at.result c.args.self.now c.in_ok-near.near.items c.as_slice.result.now c.requires c.at.ensures c.in_ok-near.ensures c.as_slice.ensures.value
