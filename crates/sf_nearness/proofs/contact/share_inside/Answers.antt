use Rattle.std.proofs.Common.{◌≡◌}
use Rattle.std.specs.Prelude.{IsFalse, IsTrue}
use Rattle.std.proofs.lemmas.Result.{IfOk-weaker}
use Rattle.sf_known.specs.Patterns.{has_contact}
use Rattle.sf_relate.specs.Contact.{SharePoint}
use Rattle.sf_relate.specs.Matrices.{matrix_of}
use Rattle.sf_nearness.specs.Near.{IsBySegments}
use Rattle.sf_nearness.proofs.ContactLaws.{seen-by, seen-flat, shared-by}
use Rattle.sf_nearness.proofs.contact.share_inside.Goals as goal

pub returns-then-not-has_area-clause-seen : goal.returns-then-not-has_area-clause-seen
returns-then-not-has_area-clause-seen c = λ f. seen-flat c.args.a.now c.args.b.now c.has_area.result c.has_area.ensures.value c.if-not-has_area.true

pub returns-clause-shared : goal.returns-clause-shared
returns-clause-shared c =
    let a = c.args.a.now in
    let b = c.args.b.now in
    IfOk-weaker c.have_contact.result (λ answer. answer ≡ has_contact (matrix_of a b)) (λ answer. IsTrue answer → SharePoint a b) (λ answer is. shared-by a b answer is) c.have_contact.ensures

pub returns-clause-seen : goal.returns-clause-seen
returns-clause-seen c =
    let a = c.args.a.now in
    let b = c.args.b.now in
    IfOk-weaker c.have_contact.result (λ answer. answer ≡ has_contact (matrix_of a b)) (λ answer. IsFalse answer → IsBySegments a b)
    (λ answer is. seen-by a b answer c.has_area.ensures.valid.0 c.has_area.ensures.valid.1 is) c.have_contact.ensures
