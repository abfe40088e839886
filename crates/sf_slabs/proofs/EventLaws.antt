-- Events: each is an end, a dot or a crossing, and a list of them is made by going to the next one again and again.
use Rattle.std.proofs.Common.{◌≢◌, ℤ, pos, ◌<◌, lit<, arith, ◌&&◌, not, List, [], ◌∷◌, ◌++◌, Some, None, Option, ◌⊎◌, inl, inr, unsigned_abs}
use Rattle.std.specs.List.{flat_map}
use Rattle.std.specs.Ordering.{int_eq}
use Rattle.std.proofs.lemmas.Bool.{and_parts, both_ways, not-true}
use Rattle.std.proofs.lemmas.Int.{ints}
use Rattle.sf_grid.specs.Fraction.{Fraction, IsFraction, whole}
use Rattle.sf_grid.specs.Plane.{Point}
use Rattle.sf_grid.specs.Edge.{Edge as Line, cross_of_directions, crossing, edge_between, meeting_of_lines, on_edge}
use Rattle.sf_grid.proofs.CallerLemmas.{Same, test_from_eq}
use Rattle.sf_strips.specs.declared.piece.Piece.{Piece}
use Rattle.sf_strips.specs.declared.piece.Piece.TheVariants.{Dot, Edge}
use Rattle.sf_cells.specs.Pieces.{ends_of}
use Rattle.sf_cells.specs.Samples.{crossing_place, crossings_of}
use Rattle.sf_slabs.proofs.ColumnLaws.{event_places}
use Rattle.sf_slabs.proofs.HeightsLaws.{Each-flat_map}
use Rattle.sf_slabs.proofs.NumberLaws.{Among, Numbers}
use Rattle.sf_slabs.proofs.SampleLaws.{Some_of, if_cases}
use Rattle.sf_slabs.proofs.EachLaws.{each-append}

-- ---- every event is a number
whole-IsFraction : (n : ℤ) → IsFraction (whole n)
whole-IsFraction n = record { positive = lit< tt }

ends_of-numbers : (p : Piece) → Numbers (ends_of p)
ends_of-numbers (Edge a b) = (whole-IsFraction a.x, (whole-IsFraction b.x, tt))
ends_of-numbers (Dot a) = (whole-IsFraction a.x, tt)

size_positive : (z : ℤ) → z ≢ pos 0 → 0 < unsigned_abs z
size_positive z n = omega (arith, ints)

crossing-numbers : (e f : Line) → Numbers (crossing_place (crossing e f))
crossing-numbers e f =
    let P : Option Point → Type 0 = λ o. Numbers (crossing_place o) in
    if_cases P (not (int_eq (cross_of_directions e f) (pos 0)) && on_edge e (meeting_of_lines e f) && on_edge f (meeting_of_lines e f))
    (Some (meeting_of_lines e f)) None
    (λ h.
    let parts = and_parts (not (int_eq (cross_of_directions e f) (pos 0)) && on_edge e (meeting_of_lines e f)) (on_edge f (meeting_of_lines e f)) h in
    let slants = and_parts (not (int_eq (cross_of_directions e f) (pos 0))) (on_edge e (meeting_of_lines e f)) parts.0 in (
      record {
        positive = size_positive (cross_of_directions e f) (λ z. both_ways _ (not-true _ slants.0) (test_from_eq (cross_of_directions e f) (pos 0) z));
      },
      tt,
    ))
    (λ _. tt)

crossings_of-numbers : (p q : Piece) → Numbers (crossings_of p q)
crossings_of-numbers (Edge a b) (Edge c d) = crossing-numbers (edge_between a b) (edge_between c d)
crossings_of-numbers (Edge a b) (Dot c) = tt
crossings_of-numbers (Dot a) q = tt

pub event_places-numbers : (pieces : List Piece) → Numbers (event_places pieces)
event_places-numbers pieces =
    each-append IsFraction (flat_map ends_of pieces) (flat_map (λ p. flat_map (crossings_of p) pieces) pieces)
    (Each-flat_map IsFraction ends_of pieces ends_of-numbers)
    (Each-flat_map IsFraction (λ p. flat_map (crossings_of p) pieces) pieces (λ p. Each-flat_map IsFraction (crossings_of p) pieces (crossings_of-numbers p)))

-- ---- an event is an end, a dot or a crossing
-- some member has a property
abbrev pub Some_in : {A : Type 0} → (A → Type 0) → List A → Type 0
Some_in P [] = ⊥
Some_in P (x ∷ xs) = P x ⊎ Some_in P xs

pub Some_of-front : (P : Fraction → Type 0) (qs rs : List Fraction) → Some_of P qs → Some_of P (qs ++ rs)
Some_of-front P [] rs h = absurd h
Some_of-front P (q ∷ qs) rs h = elim h [ inl here ↦ inl here | inr later ↦ inr (Some_of-front P qs rs later) ]

pub Some_of-back : (P : Fraction → Type 0) (qs rs : List Fraction) → Some_of P rs → Some_of P (qs ++ rs)
Some_of-back P [] rs h = h
Some_of-back P (q ∷ qs) rs h = inr (Some_of-back P qs rs h)

pub flat_map-Some_of : {A : Type 0} (P : Fraction → Type 0) (f : A → List Fraction) (xs : List A) →
    Some_in (λ x. Some_of P (f x)) xs → Some_of P (flat_map f xs)
flat_map-Some_of P f [] h = h
flat_map-Some_of P f (x ∷ xs) h =
    elim h [
      | inl here ↦ Some_of-front P (f x) (flat_map f xs) here
      | inr later ↦ Some_of-back P (f x) (flat_map f xs) (flat_map-Some_of P f xs later)
    ]

pub Some_in-map : {A : Type 0} (P Q : A → Type 0) (xs : List A) → ((x : A) → P x → Q x) → Some_in P xs → Some_in Q xs
Some_in-map P Q [] f h = h
Some_in-map P Q (x ∷ xs) f h = elim h [ inl here ↦ inl (f x here) | inr later ↦ inr (Some_in-map P Q xs f later) ]

-- q is the place of an end or a dot, or of a crossing
abbrev pub IsEndPlace : List Piece → Fraction → Type 0
IsEndPlace pieces q = Some_in (λ p. Among (ends_of p) q) pieces

abbrev pub IsCrossingPlace : List Piece → Fraction → Type 0
IsCrossingPlace pieces q = Some_in (λ p. Some_in (λ r. Among (crossings_of p r) q) pieces) pieces

pub is-event : (pieces : List Piece) (q : Fraction) → IsEndPlace pieces q ⊎ IsCrossingPlace pieces q → Among (event_places pieces) q
is-event pieces q h =
    elim h [
      | inl first ↦
          Some_of-front (Same q) (flat_map ends_of pieces) (flat_map (λ p. flat_map (crossings_of p) pieces) pieces) (flat_map-Some_of (Same q) ends_of pieces first)
      | inr second ↦
          Some_of-back (Same q) (flat_map ends_of pieces) (flat_map (λ p. flat_map (crossings_of p) pieces) pieces)
          (flat_map-Some_of (Same q) (λ p. flat_map (crossings_of p) pieces) pieces
          (Some_in-map (λ p. Some_in (λ r. Among (crossings_of p r) q) pieces) (λ p. Some_of (Same q) (flat_map (crossings_of p) pieces)) pieces
          (λ p k. flat_map-Some_of (Same q) (crossings_of p) pieces k) second))
    ]
