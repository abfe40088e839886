-- The first place at the samples is the first one over the plane, and there is no other.
use Rattle.std.proofs.Common.{◌≡◌, refl, ap, sym, ◌∙◌, Bool, true, false, List, [], ◌∷◌, Option, Some, None, inl, inr}
use Rattle.std.specs.Prelude.{◌↔◌, IsTrue, if◌then◌else◌}
use Rattle.std.specs.List.{AllByRecursion}
use Rattle.std.proofs.lemmas.Bool.{false≢true}
use Rattle.sf_grid.specs.Plane.{Coordinates}
use Rattle.sf_geometry.specs.declared.geometry.Geometry.{Geometry}
use Rattle.sf_geometry.specs.Parts.{lines_of, polygons_of, rings_of}
use Rattle.sf_valid_rules.specs.declared.fault.Fault.{Fault}
use Rattle.sf_valid_rules.specs.Conditions.{Applies, applies_among}
use Rattle.sf_valid_rules.specs.Verdicts.{points_among}
use Rattle.sf_faults.specs.declared.place.Place.{Place}
use Rattle.sf_faults.specs.Candidates.{Candidate, candidates}
use Rattle.sf_faults.specs.Computed.{PlaceIsOverThePlane, first_place, first_place_among}
use Rattle.sf_faults.specs.Places.{IsFirstAmong, IsFirstPlace, NoneIsAtFault}
use Rattle.sf_faults.proofs.TellLaws.{TellsCandidate, candidates-tell}

first-computed : (rings : List (List Coordinates)) (cs : List Candidate) → AllByRecursion (TellsCandidate rings) cs → IsFirstAmong cs (first_place_among (points_among rings) cs)
first-computed rings [] h = tt
first-computed rings (c ∷ cs) h = by_test (applies_among (points_among rings) c.condition) h.0 (first_place_among (points_among rings) cs) (first-computed rings cs h.1)
  where
    by_test : (t : Bool) → IsTrue t ↔ Applies c.condition → (later : Option Place) → IsFirstAmong cs later → IsFirstAmong (c ∷ cs) (if t then Some c.place else later)
    by_test true k later l = inl (k.0 refl, refl)
    by_test false k None l = (λ a. false≢true (k.1 a), l)
    by_test false k (Some place) l = inr (λ a. false≢true (k.1 a), l)

-- ---- there is one
one-place : (cs : List Candidate) (a b : Place) → IsFirstPlace cs a → IsFirstPlace cs b → a ≡ b
one-place [] a b f g = absurd f
one-place (c ∷ cs) a b (inl f) (inl g) = f.1 ∙ sym g.1
one-place (c ∷ cs) a b (inl f) (inr g) = absurd (g.0 f.0)
one-place (c ∷ cs) a b (inr f) (inl g) = absurd (f.0 g.0)
one-place (c ∷ cs) a b (inr f) (inr g) = one-place cs a b f.1 g.1

pub none-first : (cs : List Candidate) (place : Place) → NoneIsAtFault cs → IsFirstPlace cs place → ⊥
none-first [] place n f = f
none-first (c ∷ cs) place n (inl f) = n.0 f.0
none-first (c ∷ cs) place n (inr f) = none-first cs place n.1 f.1

one-among : (cs : List Candidate) (a b : Option Place) → IsFirstAmong cs a → IsFirstAmong cs b → a ≡ b
one-among cs None None f g = refl
one-among cs None (Some b) f g = absurd (none-first cs b f g)
one-among cs (Some a) None f g = absurd (none-first cs a g f)
one-among cs (Some a) (Some b) f g = ap Some (one-place cs a b f g)

pub place-over_plane : (geometry : Geometry) (fault : Fault) → PlaceIsOverThePlane geometry fault
place-over_plane geometry fault =
    let here = first-computed (rings_of geometry) (candidates geometry fault) (candidates-tell (lines_of geometry) (polygons_of geometry) fault) in
    record {
      computed = here;
      only = λ place h. one-among (candidates geometry fault) place (first_place geometry fault) h here;
    }
