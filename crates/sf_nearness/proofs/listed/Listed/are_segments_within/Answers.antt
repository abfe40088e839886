use Rattle.std.proofs.Common.{◌≡◌, ◌∙◌, ap, map}
use Rattle.sf_geometry.specs.Parts.{edge_of}
use Rattle.sf_distance.specs.Mixed.{number_of}
use Rattle.sf_nearness.specs.Segments.{segments_of}
use Rattle.sf_nearness.proofs.ListedLaws.{listed-within, within-listed}
use Rattle.sf_nearness.proofs.listed.Listed.are_segments_within.Goals as goal

pub returns : goal.returns
returns c =
    let a = c.args.other.now in
    let b = c.args.self.now in
    let first = ap (map edge_of) c.as_slice.ensures.value ∙ c.in_ok-segments.ensures.are in
    let second : map edge_of c.as_slice-2.result.now ≡ segments_of b = ap (map edge_of) c.as_slice-2.ensures.value ∙ c.self.invariant.are ∙ ap segments_of c.self.view_is in (
      λ h. within-listed a b c.as_slice.result.now c.as_slice-2.result.now (number_of c.args.bound.now) first second (c.are_within.ensures.0 h),
      λ w. c.are_within.ensures.1 (listed-within a b c.as_slice.result.now c.as_slice-2.result.now (number_of c.args.bound.now) first second w),
    )
