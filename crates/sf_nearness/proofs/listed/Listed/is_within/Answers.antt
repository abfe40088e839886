use Rattle.std.proofs.Common.{refl, subst}
use Rattle.std.specs.Prelude.{◌↔◌, IfOk, IsFalse, IsTrue}
use Rattle.std.proofs.lemmas.Bool.{both_ways}
use Rattle.sf_geometry.specs.declared.geometry.Geometry.{Geometry}
use Rattle.sf_distance.specs.Mixed.{number_of}
use Rattle.sf_distance.specs.Squares.{IsWithin}
use Rattle.sf_nearness.specs.Near.{IsBySegments}
use Rattle.sf_nearness.specs.Sets.{IsOf}
use Rattle.sf_relate.specs.Contact.{SharePoint}
use Rattle.sf_nearness.proofs.ContactLaws.{both-ok, told-within}
use Rattle.sf_nearness.proofs.NearLaws.{segments-within}
use Rattle.sf_nearness.proofs.listed.Listed.is_within.Goals as goal

pub returns-then-branch : goal.returns-then-branch
returns-then-branch c = (
  λ h. segments-within c.args.other.now c.args.self.now (number_of c.args.bound.now) (c.in_ok-are_segments_within.ensures.0 c.if-branch.true),
  λ w. refl,
)

pub returns : goal.returns
returns c =
    let a = c.args.other.now in
    let b = c.args.self.now in
    both-ok c.share_inside.result (λ answer. IsTrue answer → SharePoint a b) (λ answer. IsFalse answer → IsBySegments a b)
    (λ answer. IsTrue answer ↔ IsWithin (IsOf a) (IsOf b) (number_of c.args.bound.now))
    (λ answer shared seen. told-within a b c.args.bound.now answer shared seen (λ w. both_ways c.in_ok-are_segments_within.field-0 c.if-branch.false (c.in_ok-are_segments_within.ensures.1 w)))
    (subst (λ (g : Geometry). IfOk c.share_inside.result (λ answer. IsTrue answer → SharePoint a g)) c.self.view_is c.share_inside.ensures.shared)
    (subst (λ (g : Geometry). IfOk c.share_inside.result (λ answer. IsFalse answer → IsBySegments a g)) c.self.view_is c.share_inside.ensures.seen)
