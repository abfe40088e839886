-- Where neither interior has a point of the other geometry, contact is one of the boundaries.
use Rattle.std.proofs.Common.{◌≡◌, refl, ap, sym, ◌∙◌, subst, Bool, true, false, ◌&&◌, ◌||◌, not, List, [], ◌∷◌, length, get_or}
use Rattle.std.specs.Prelude.{IsTrue, if◌then◌else◌}
use Rattle.std.proofs.lemmas.Bool.{and_parts, both_ways, or_cases, or_parts}
use Rattle.sf_plane.specs.declared.dim.Dim.{Dim}
use Rattle.sf_plane.specs.declared.dim.Dim.TheVariants as dims
use Rattle.sf_known.specs.declared.known.Known.{Known}
use Rattle.sf_known.specs.Known.{AreAtMost, ContactIsPlaced, Holds, IsAtMost, are_beside, boundaries_meet, contact_placed, known_by_both}
use Rattle.sf_known.specs.Patterns.{has_contact, is_filled}
use Rattle.sf_known.proofs.KnownLaws.{both_hold}
use Rattle.sf_known.proofs.NineLaws.{nine-listed}
use Rattle.sf_known.proofs.OrderLaws.{at-most-two}

-- what has at most nothing is empty
empty-below : (d k : Dim) → IsAtMost d k → is_filled k ≡ false → is_filled d ≡ false
empty-below dims.Nothing k h e = refl
empty-below dims.Zero dims.Nothing h e = absurd cc
empty-below dims.Zero dims.Zero h e = e
empty-below dims.Zero dims.One h e = absurd (both_ways true e refl)
empty-below dims.Zero dims.Two h e = absurd (both_ways true e refl)
empty-below dims.One dims.Nothing h e = absurd cc
empty-below dims.One dims.Zero h e = absurd cc
empty-below dims.One dims.One h e = e
empty-below dims.One dims.Two h e = absurd (both_ways true e refl)
empty-below dims.Two dims.Nothing h e = absurd cc
empty-below dims.Two dims.Zero h e = absurd cc
empty-below dims.Two dims.One h e = absurd cc
empty-below dims.Two dims.Two h e = e

has-zero : (d : Dim) → is_filled d ≡ true → IsAtMost dims.Zero d
has-zero dims.Nothing h = absurd (both_ways false refl h)
has-zero dims.Zero h = refl
has-zero dims.One h = refl
has-zero dims.Two h = refl

not-true : (b : Bool) → not b ≡ true → b ≡ false
not-true true h = sym h
not-true false h = refl

last-one : (p q r s : Bool) → p ≡ false → q ≡ false → r ≡ false → (p || (q || (r || (s || false)))) ≡ true → s ≡ true
last-one false false false true h k j t = refl
last-one false false false false h k j t = t
last-one true q r s h k j t = absurd (both_ways true h refl)
last-one false true r s h k j t = absurd (both_ways true k refl)
last-one false false true s h k j t = absurd (both_ways true j refl)

bb-has : (ii ib ie bi bb be ei eb ee : Dim) (most : List Dim) → AreAtMost (ii ∷ ib ∷ ie ∷ bi ∷ bb ∷ be ∷ ei ∷ eb ∷ ee ∷ []) most → are_beside most ≡ true
    → has_contact (ii ∷ ib ∷ ie ∷ bi ∷ bb ∷ be ∷ ei ∷ eb ∷ ee ∷ []) ≡ true → IsAtMost dims.Zero bb
bb-has ii ib ie bi bb be ei eb ee [] h n t = absurd h
bb-has ii ib ie bi bb be ei eb ee (a ∷ []) h n t = absurd h.1
bb-has ii ib ie bi bb be ei eb ee (a ∷ b ∷ []) h n t = absurd h.1.1
bb-has ii ib ie bi bb be ei eb ee (a ∷ b ∷ c ∷ []) h n t = absurd h.1.1.1
bb-has ii ib ie bi bb be ei eb ee (a ∷ b ∷ c ∷ d ∷ ks) h n t =
    let none = or_parts (is_filled a) (is_filled b || is_filled d) (not-true (is_filled a || (is_filled b || is_filled d)) n) in
    let others = or_parts (is_filled b) (is_filled d) none.1 in
    has-zero bb
    (last-one (is_filled ii) (is_filled ib) (is_filled bi) (is_filled bb) (empty-below ii a h.0 none.0) (empty-below ib b h.1.0 others.0) (empty-below bi d h.1.1.1.0 others.1) t)

meets : (ii ib ie bi bb be ei eb ee : Dim) → IsAtMost dims.Zero bb → Holds boundaries_meet (ii ∷ ib ∷ ie ∷ bi ∷ bb ∷ be ∷ ei ∷ eb ∷ ee ∷ [])
meets ii ib ie bi bb be ei eb ee h =
    record {
      least = (refl, (refl, (refl, (refl, (h, (refl, (refl, (refl, (refl, refl)))))))));
      most =
          (at-most-two ii, (at-most-two ib, (at-most-two ie, (at-most-two bi, (at-most-two bb, (at-most-two be, (at-most-two ei, (at-most-two eb, (at-most-two ee, refl)))))))));
      contact = λ t. absurd (both_ways false refl t);
    }

placed-nine : (known : Known) (ii ib ie bi bb be ei eb ee : Dim) (t : Bool) → (known.contact && are_beside known.most) ≡ t → Holds known (ii ∷ ib ∷ ie ∷ bi ∷ bb ∷ be ∷ ei ∷ eb ∷ ee ∷ [])
    → Holds (if t then known_by_both known boundaries_meet else known) (ii ∷ ib ∷ ie ∷ bi ∷ bb ∷ be ∷ ei ∷ eb ∷ ee ∷ [])
placed-nine known ii ib ie bi bb be ei eb ee false e h = h
placed-nine known ii ib ie bi bb be ei eb ee true e h =
    let parts = and_parts known.contact (are_beside known.most) e in
    both_hold known boundaries_meet (ii ∷ ib ∷ ie ∷ bi ∷ bb ∷ be ∷ ei ∷ eb ∷ ee ∷ []) h
    (meets ii ib ie bi bb be ei eb ee (bb-has ii ib ie bi bb be ei eb ee known.most h.most parts.1 (h.contact parts.0)))

pub contact_is_placed : ContactIsPlaced
contact_is_placed known m n h =
    subst (λ (ds : List Dim). Holds (contact_placed known) ds) (sym (nine-listed m n))
    (placed-nine known (get_or m 0 dims.Nothing) (get_or m 1 dims.Nothing) (get_or m 2 dims.Nothing) (get_or m 3 dims.Nothing) (get_or m 4 dims.Nothing) (get_or m 5 dims.Nothing) (get_or m 6 dims.Nothing) (get_or m 7 dims.Nothing) (get_or m 8 dims.Nothing)
    (known.contact && are_beside known.most) refl (subst (λ (ds : List Dim). Holds known ds) (nine-listed m n) h))
