-- Contact of geometries, and what it says of the points that they share.
use Rattle.std.proofs.Common.{◌≡◌, refl, ap, sym, ◌∙◌, Bool, true, false, ◌||◌, not}
use Rattle.std.specs.Prelude.{◌↔◌, Err, IfOk, IsFalse, IsTrue, Ok, Result}
use Rattle.std.proofs.lemmas.Bool.{both_ways, or_parts}
use Rattle.sf_geometry.specs.declared.extent.Extent.{Extent}
use Rattle.sf_geometry.specs.declared.geometry.Geometry.{Geometry}
use Rattle.sf_geometry.specs.Envelope.{envelope_of, extents_meet}
use Rattle.sf_known.specs.Patterns.{has_contact}
use Rattle.sf_valid_rules.specs.Validity.{IsValid}
use Rattle.sf_relate.specs.Contact.{SharePoint}
use Rattle.sf_relate.specs.Matrices.{matrix_of}
use Rattle.sf_relate.proofs.EnvelopeLaws.{apart_has_no_contact, valid-closed}
use Rattle.sf_relate.proofs.SharedLaws.{contact_is_shared}
use Rattle.sf_contact.specs.Divided.{is_area}
use Rattle.sf_distance.specs.Mixed.{Mixed, number_of}
use Rattle.sf_distance.specs.Squares.{IsWithin}
use Rattle.sf_nearness.specs.Near.{IsBySegments}
use Rattle.sf_nearness.specs.Segments.{IsOnSegments}
use Rattle.sf_nearness.specs.Sets.{IsOf}
use Rattle.sf_nearness.proofs.NearLaws.{apart-seen, flat-seen, shared-within, within-seen}

off : (b : Bool) → not b ≡ true → b ≡ false
off true h = absurd (both_ways false refl h)
off false h = refl

-- boxes that don't meet
pub boxes-none : (a b f g : Geometry) (e k : Extent) (met : Bool) → IsValid a → IsValid b → f ≡ a → g ≡ b → e ≡ envelope_of f → k ≡ envelope_of g → met ≡ extents_meet e k → IsTrue (not met)
    → IsFalse (has_contact (matrix_of a b))
boxes-none a b f g e k met va vb first second box other is none =
    apart_has_no_contact a b (valid-closed a va) (valid-closed b vb)
    (ap (λ x. extents_meet x (envelope_of b)) (sym (box ∙ ap envelope_of first)) ∙ ap (extents_meet e) (sym (other ∙ ap envelope_of second)) ∙ sym is ∙ off met none)

pub shared-by : (a b : Geometry) (told : Bool) → told ≡ has_contact (matrix_of a b) → IsTrue told → SharePoint a b
shared-by a b told is h = (contact_is_shared a b).shared.0 (sym is ∙ h)

pub seen-by : (a b : Geometry) (told : Bool) → IsValid a → IsValid b → told ≡ has_contact (matrix_of a b) → IsFalse told → IsBySegments a b
seen-by a b told va vb is h = apart-seen a b va vb (λ s. both_ways told h (is ∙ (contact_is_shared a b).shared.1 s))

pub seen-flat : (a b : Geometry) (told : Bool) → told ≡ (is_area a || is_area b) → told ≡ false → IsBySegments a b
seen-flat a b told is none = let parts = or_parts (is_area a) (is_area b) (sym is ∙ none) in flat-seen a b parts.0 parts.1

-- ---- what is said together
pub both-ok : {T E : Type 0} (r : Result T E) (P Q R : T → Type 0) → ((x : T) → P x → Q x → R x) → IfOk r P → IfOk r Q → IfOk r R
both-ok (Ok x) P Q R f h k = f x h k
both-ok (Err e) P Q R f h k = tt

pub told-within : (a b : Geometry) (m : Mixed) (told : Bool) → (IsTrue told → SharePoint a b) → (IsFalse told → IsBySegments a b) → (IsWithin (IsOnSegments a) (IsOnSegments b) (number_of m) → ⊥)
    → IsTrue told ↔ IsWithin (IsOf a) (IsOf b) (number_of m)
told-within a b m true shared seen none = (λ h. shared-within a b m (shared h), λ w. refl)
told-within a b m false shared seen none = (λ h. absurd (both_ways false refl h), λ w. absurd (none (within-seen a b (number_of m) (seen refl) w)))
