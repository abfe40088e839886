-- The faults of polygons from those of each polygon and those among them, and the first of them.
use Rattle.std.proofs.Common.{◌≡◌, refl, ap, sym, ◌∙◌, subst, ℕ, zero, suc, ◌+◌, ◌<◌, ◌≤◌, arith, Bool, true, false, ◌||◌, List, [], ◌∷◌, ◌++◌, length, take, slice_index_or, inl, inr}
use Rattle.std.specs.Prelude.{◌↔◌, ◌⊎◌, IsTrue, if◌then◌else◌, Some, None}
use Rattle.std.specs.List.{AllByRecursion, flat_map, list_any}
use Rattle.std.proofs.lemmas.Bool.{both_ways, or_cases}
use Rattle.std.proofs.lemmas.Grind.{flat_map-append}
use Rattle.std.proofs.lemmas.List.{length-append, take_more}
use Rattle.sf_grid.specs.Plane.{Coordinates, Point}
use Rattle.sf_slabs.proofs.CallerLemmas.{each-parts}
use Rattle.sf_geometry.specs.Parts.{joined}
use Rattle.sf_valid_rules.specs.declared.fault.Fault.TheVariants.{RingsMeet, HoleOutside, HolesNested, PolygonsOverlap}
use Rattle.sf_valid_rules.specs.Conditions.{Applies, AtPoint, AtTwoPoints, any_two}
use Rattle.sf_valid_rules.specs.Rules.{Rule, polygon_rules, ring_rules}
use Rattle.sf_valid_rules.specs.Shapes.{in_hole_outside, in_two_holes, share_piece}
use Rattle.sf_valid_rules.specs.Validity.{IsFirstIn, NoneApplies}
use Rattle.sf_polygons.specs.declared.found.PolygonFaults.{PolygonFaults}
use Rattle.sf_polygons.specs.declared.found.RingFaults.{RingFaults}
use Rattle.sf_polygons.specs.Found.{ArePolygonFaults, AreRingFaults, both_faults, first_found, holes_nested, holes_outside, pieces_shared, polygons_overlap}
use Rattle.sf_polygons.proofs.TestLaws.{any-append, or-right, two-flat}

-- ---- one of the polygons
joined-append : (xs ys : List (List Coordinates)) → joined (xs ++ ys) ≡ joined xs ++ joined ys
joined-append xs ys = flat_map-append (λ ring. ring) xs ys

pub few-points : (polygons : List (List (List Coordinates))) (k : ℕ) (rings : List (List Coordinates)) → k < length polygons → rings ≡ slice_index_or polygons k rings
    → length (joined (joined polygons)) ≤ 65536 → length (joined rings) ≤ 65536
few-points [] k rings l e h = absurd (omega (arith, l))
few-points (first ∷ polygons) zero rings l e h =
    part (length (joined rings)) (length (joined (joined polygons))) (length (joined (first ++ joined polygons)))
    (ap length (joined-append first (joined polygons)) ∙ length-append (joined first) (joined (joined polygons)) ∙ ap (λ rs. length (joined rs) + length (joined (joined polygons))) (sym e)) h
  where
    part : (a b c : ℕ) → c ≡ a + b → c ≤ 65536 → a ≤ 65536
    part a b c k m = omega (arith, k, m)
few-points (first ∷ polygons) (suc k) rings l e h =
    few-points polygons k rings (omega (arith, l)) e
    (part (length (joined first)) (length (joined (joined polygons))) (length (joined (first ++ joined polygons)))
    (ap length (joined-append first (joined polygons)) ∙ length-append (joined first) (joined (joined polygons))) h)
  where
    part : (a b c : ℕ) → c ≡ a + b → c ≤ 65536 → b ≤ 65536
    part a b c m n = omega (arith, m, n)

pub sound-rings : (polygons : List (List (List Coordinates))) (k : ℕ) (rings : List (List Coordinates)) → k < length polygons → rings ≡ slice_index_or polygons k rings
    → NoneApplies (flat_map ring_rules (joined polygons)) → NoneApplies (flat_map ring_rules rings)
sound-rings [] k rings l e h = absurd (omega (arith, l))
sound-rings (first ∷ polygons) k rings l e h =
    let P : Rule → Type 0 = λ rule. ¬ (Applies rule.condition) in
    let parts =
    each-parts P (flat_map ring_rules first) (flat_map ring_rules (joined polygons))
    (subst (AllByRecursion P) (flat_map-append ring_rules first (joined polygons)) h) in
    by_place k l e parts.0 (λ m j f. sound-rings polygons m rings j f parts.1)
  where
    by_place : (m : ℕ) → m < length (first ∷ polygons) → rings ≡ slice_index_or (first ∷ polygons) m rings → NoneApplies (flat_map ring_rules first)
        → ((n : ℕ) → n < length polygons → rings ≡ slice_index_or polygons n rings → NoneApplies (flat_map ring_rules rings)) → NoneApplies (flat_map ring_rules rings)
    by_place zero j f here later = subst (λ rs. NoneApplies (flat_map ring_rules rs)) (sym f) here
    by_place (suc m) j f here later = later m (omega (arith, j)) f

-- ---- one polygon more
either-flag : (a b : Bool) (P Q R : Type 0) → IsTrue a ↔ P → IsTrue b ↔ Q → (P → R) → (Q → R) → (R → P ⊎ Q) → IsTrue (a || b) ↔ R
either-flag a b P Q R h k f g split = (
  λ t. elim (or_cases a b t) [ inl x ↦ f (h.0 x) | inr y ↦ g (k.0 y) ],
  λ r. elim (split r) [ inl p ↦ ap (λ c. c || b) (h.1 p) | inr q ↦ or-right a b (k.1 q) ],
)

-- a test of polygons at a point, or at two, over two lists of them
point-either : (t : List (List Coordinates) → Point → Bool) (xs ys : List (List (List Coordinates))) (a b : Bool)
    → IsTrue a ↔ Applies (AtPoint (λ p. list_any (λ rings. t rings p) xs)) → IsTrue b ↔ Applies (AtPoint (λ p. list_any (λ rings. t rings p) ys))
    → IsTrue (a || b) ↔ Applies (AtPoint (λ p. list_any (λ rings. t rings p) (xs ++ ys)))
point-either t xs ys a b h k =
    either-flag a b (Applies (AtPoint (λ p. list_any (λ rings. t rings p) xs))) (Applies (AtPoint (λ p. list_any (λ rings. t rings p) ys)))
    (Applies (AtPoint (λ p. list_any (λ rings. t rings p) (xs ++ ys)))) h k
    (λ s. (s.0, s.1, any-append (λ rings. t rings s.0) xs ys ∙ ap (λ c. c || list_any (λ rings. t rings s.0) ys) s.2))
    (λ s. (s.0, s.1, any-append (λ rings. t rings s.0) xs ys ∙ or-right (list_any (λ rings. t rings s.0) xs) (list_any (λ rings. t rings s.0) ys) s.2))
    (λ s.
    elim (or_cases (list_any (λ rings. t rings s.0) xs) (list_any (λ rings. t rings s.0) ys) (sym (any-append (λ rings. t rings s.0) xs ys) ∙ s.2)) [
      | inl x ↦ inl (s.0, s.1, x)
      | inr y ↦ inr (s.0, s.1, y)
    ])

points-either : (t : List (List Coordinates) → Point → Point → Bool) (xs ys : List (List (List Coordinates))) (a b : Bool)
    → IsTrue a ↔ Applies (AtTwoPoints (λ p q. list_any (λ rings. t rings p q) xs)) → IsTrue b ↔ Applies (AtTwoPoints (λ p q. list_any (λ rings. t rings p q) ys))
    → IsTrue (a || b) ↔ Applies (AtTwoPoints (λ p q. list_any (λ rings. t rings p q) (xs ++ ys)))
points-either t xs ys a b h k =
    either-flag a b (Applies (AtTwoPoints (λ p q. list_any (λ rings. t rings p q) xs))) (Applies (AtTwoPoints (λ p q. list_any (λ rings. t rings p q) ys)))
    (Applies (AtTwoPoints (λ p q. list_any (λ rings. t rings p q) (xs ++ ys)))) h k
    (λ s. (s.0, s.1, s.2, s.3, any-append (λ rings. t rings s.0 s.1) xs ys ∙ ap (λ c. c || list_any (λ rings. t rings s.0 s.1) ys) s.4))
    (λ s. (s.0, s.1, s.2, s.3, any-append (λ rings. t rings s.0 s.1) xs ys ∙ or-right (list_any (λ rings. t rings s.0 s.1) xs) (list_any (λ rings. t rings s.0 s.1) ys) s.4))
    (λ s.
    elim (or_cases (list_any (λ rings. t rings s.0 s.1) xs) (list_any (λ rings. t rings s.0 s.1) ys) (sym (any-append (λ rings. t rings s.0 s.1) xs ys) ∙ s.4)) [
      | inl x ↦ inl (s.0, s.1, s.2, s.3, x)
      | inr y ↦ inr (s.0, s.1, s.2, s.3, y)
    ])

not-first : (a b : Bool) → ¬ (IsTrue (a || b)) → ¬ (IsTrue a)
not-first a b n t = n (ap (λ c. c || b) t)

not-second : (a b : Bool) → ¬ (IsTrue (a || b)) → ¬ (IsTrue b)
not-second a b n t = n (or-right a b t)

pub faults-more : (polygons : List (List (List Coordinates))) (k : ℕ) (rings : List (List Coordinates)) (found more next : RingFaults) → k < length polygons
    → rings ≡ slice_index_or polygons k rings → AreRingFaults (take k polygons) found → AreRingFaults (rings ∷ []) more → next ≡ both_faults found more
    → AreRingFaults (take (k + 1) polygons) next
faults-more polygons k rings found more next l e h m n =
    let xs = take k polygons in
    let ys = rings ∷ [] in
    let both : AreRingFaults (xs ++ ys) (both_faults found more) =
    record {
      meet = points-either (λ rs p q. any_two (λ r s. share_piece r s p q) rs) xs ys found.meet more.meet h.meet m.meet;
      outside = λ n. point-either in_hole_outside xs ys found.outside more.outside (h.outside (not-first found.meet more.meet n)) (m.outside (not-second found.meet more.meet n));
      nested = λ n. point-either in_two_holes xs ys found.nested more.nested (h.nested (not-first found.meet more.meet n)) (m.nested (not-second found.meet more.meet n));
    } in
    subst (AreRingFaults (take (k + 1) polygons)) (sym n)
    (subst (λ ps. AreRingFaults ps (both_faults found more)) (ap (λ r. xs ++ r ∷ []) e ∙ sym (take_more polygons k rings l)) both)

-- ---- the first fault
meets : (polygons : List (List (List Coordinates))) (within : RingFaults) (between : PolygonFaults) → AreRingFaults polygons within → ArePolygonFaults polygons between
    → IsTrue (within.meet || between.meet) ↔ Applies (pieces_shared polygons)
meets polygons within between h k = (
  λ t.
      elim (or_cases within.meet between.meet t) [
        | inl x ↦
            let s = h.meet.0 x in (
              s.0,
              s.1,
              s.2,
              s.3,
              all s.0 s.1
                  ∙ ap (λ b. b || any_two (λ rings others. list_any (λ r. list_any (λ q. share_piece r q s.0 s.1) others) rings) polygons) s.4,
            )
        | inr y ↦ k.meet y
      ],
  λ s.
      elim (or_cases (list_any (λ rings. any_two (λ r q. share_piece r q s.0 s.1) rings) polygons)
      (any_two (λ rings others. list_any (λ r. list_any (λ q. share_piece r q s.0 s.1) others) rings) polygons) (sym (all s.0 s.1) ∙ s.4)) [
        | inl x ↦ ap (λ b. b || between.meet) (h.meet.1 (s.0, s.1, s.2, s.3, x))
        | inr y ↦ or-right within.meet between.meet (k.meet_found (s.0, s.1, s.2, s.3, y))
      ],
)
  where
    all : (p q : Point) → any_two (λ r s. share_piece r s p q) (joined polygons)
        ≡ (list_any (λ rings. any_two (λ r s. share_piece r s p q) rings) polygons || any_two (λ rings others. list_any (λ r. list_any (λ s. share_piece r s p q) others) rings) polygons)
    all p q = two-flat (λ r s. share_piece r s p q) (λ (rings : List (List Coordinates)). rings) polygons

pub first-is : (polygons : List (List (List Coordinates))) (within : RingFaults) (between : PolygonFaults) → AreRingFaults polygons within → ArePolygonFaults polygons between
    → IsFirstIn (polygon_rules polygons) (first_found within between)
first-is polygons within between h k = by_flags (within.meet || between.meet) refl within.outside refl within.nested refl between.overlap refl
  where
    not-so : (b : Bool) (P : Type 0) → b ≡ false → (P → IsTrue b) → ¬ P
    not-so b P e f p = both_ways b e (f p)

    apart : (within.meet || between.meet) ≡ false → ¬ (IsTrue within.meet)
    apart e = not-first within.meet between.meet (both_ways (within.meet || between.meet) e)

    alone : (within.meet || between.meet) ≡ false → ¬ (IsTrue between.meet)
    alone e = not-second within.meet between.meet (both_ways (within.meet || between.meet) e)

    by_flags : (a : Bool) → (within.meet || between.meet) ≡ a → (b : Bool) → within.outside ≡ b → (c : Bool) → within.nested ≡ c → (d : Bool) → between.overlap ≡ d
        → IsFirstIn (polygon_rules polygons) (if a then Some RingsMeet else (if b then Some HoleOutside else (if c then Some HolesNested else (if d then Some PolygonsOverlap else None))))
    by_flags true e b f c g d i = inl ((meets polygons within between h k).0 e, refl)
    by_flags false e true f c g d i = inr (not-so (within.meet || between.meet) (Applies (pieces_shared polygons)) e (meets polygons within between h k).1, inl ((h.outside (apart e)).0 f, refl))
    by_flags false e false f true g d i =
        inr (
          not-so (within.meet || between.meet) (Applies (pieces_shared polygons)) e (meets polygons within between h k).1,
          inr (not-so within.outside (Applies (holes_outside polygons)) f (h.outside (apart e)).1, inl ((h.nested (apart e)).0 g, refl)),
        )
    by_flags false e false f false g true i =
        let outside = not-so within.outside (Applies (holes_outside polygons)) f (h.outside (apart e)).1 in
        let nested = not-so within.nested (Applies (holes_nested polygons)) g (h.nested (apart e)).1 in
        inr (
          not-so (within.meet || between.meet) (Applies (pieces_shared polygons)) e (meets polygons within between h k).1,
          inr (outside, inr (nested, inl ((k.overlap (alone e) outside nested).0 i, refl))),
        )
    by_flags false e false f false g false i =
        let outside = not-so within.outside (Applies (holes_outside polygons)) f (h.outside (apart e)).1 in
        let nested = not-so within.nested (Applies (holes_nested polygons)) g (h.nested (apart e)).1 in (
          not-so (within.meet || between.meet) (Applies (pieces_shared polygons)) e (meets polygons within between h k).1,
          (outside, (nested, (not-so between.overlap (Applies (polygons_overlap polygons)) i (k.overlap (alone e) outside nested).1, tt))),
        )
