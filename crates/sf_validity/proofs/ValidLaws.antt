-- Valid geometries: their rings are those of their vertices, and a change that is taken back leaves what was.
use Rattle.std.proofs.Common.{◌≡◌, refl, ap, sym, ◌∙◌, subst, ℕ, suc, ◌-◌, ◌<◌, ◌≤◌, arith, Bool, true, false, not, Result, Ok, Err, IfErr, List, [], ◌∷◌, ◌++◌, length, take}
use Rattle.std.specs.Prelude.{IsOk, OnOk, IsTrue, Option, Some, nat_lt, if◌then◌else◌}
use Rattle.std.specs.List.{AllByRecursion, flat_map}
use Rattle.sf_grid.specs.Plane.{Coordinates}
use Rattle.sf_geometry.specs.declared.geometry.Geometry.{Geometry}
use Rattle.sf_geometry.specs.declared.refusal.Refusal.{Refusal as GeometryRefusal}
use Rattle.sf_geometry.specs.Lists.{before_tight, is_closed, is_same, last_from, tight}
use Rattle.sf_geometry.specs.Parts.{lines_of, polygons_of, rings_of}
use Rattle.sf_geometry.specs.Size.{IsSized}
use Rattle.sf_geometry.specs.Vertices.{insert_vertex, move_vertex, outcome, remove_vertex, ring_of, vertex_of}
use Rattle.sf_geometry.proofs.BackLaws.{HasRings, IsRing, insert-taken_back, move-taken_back, outcome-some}
use Rattle.sf_geometry.proofs.ListLaws.{same-is}
use Rattle.sf_valid_rules.specs.Rules.{Rule, line_rules, polygon_rules, ring_rules}
use Rattle.sf_valid_rules.specs.Validity.{IsValid, NoneApplies}

-- ---- rings
pub tight-short : (ps : List Coordinates) → length (tight ps) ≤ length ps
tight-short [] = omega arith
tight-short (p ∷ ps) = by (tight ps) (tight-short ps)
  where
    by : (ts : List Coordinates) → length ts ≤ length ps → length (before_tight p ts) ≤ suc (length ps)
    by [] h = omega arith
    by (t ∷ ts) h = by_same (is_same p t)
      where
        by_same : (b : Bool) → length (if b then t ∷ ts else p ∷ t ∷ ts) ≤ suc (length ps)
        by_same true = omega (arith, h)
        by_same false = omega (arith, h)

with_last : (p : Coordinates) (ps : List Coordinates) → take (length (p ∷ ps) - 1) (p ∷ ps) ++ last_from p ps ∷ [] ≡ p ∷ ps
with_last p [] = refl
with_last p (q ∷ qs) = ap (λ n. take n (p ∷ q ∷ qs) ++ last_from q qs ∷ []) (longer (length qs)) ∙ ap (λ rs. p ∷ rs) (with_last q qs)
  where
    longer : (n : ℕ) → suc (suc n) - 1 ≡ suc (suc n - 1)
    longer n = omega arith

ring-is : (ring : List Coordinates) → is_closed ring ≡ true → 1 < length ring → IsRing ring
ring-is [] closed many = refl
ring-is (p ∷ []) closed many = absurd (omega (arith, many))
ring-is (p ∷ q ∷ qs) closed many =
    ap (λ n. ring_of (take n (p ∷ q ∷ qs))) (longer (length qs))
    ∙ ap (λ r. p ∷ take (suc (length qs) - 1) (q ∷ qs) ++ r ∷ []) (same-is p (last_from q qs) closed)
    ∙ ap (λ rs. p ∷ rs) (with_last q qs)
  where
    longer : (n : ℕ) → suc (suc n) - 1 ≡ suc (suc n - 1)
    longer n = omega arith

pub not_not : (b : Bool) → ¬ (IsTrue (not b)) → b ≡ true
not_not true h = refl
not_not false h = absurd (h refl)

not_less : (m n : ℕ) → ¬ (IsTrue (nat_lt m n)) → n ≤ m
not_less m n h = by (nat_lt m n) refl
  where
    by : (t : Bool) → nat_lt m n ≡ t → n ≤ m
    by true test = absurd (h test)
    by false test = grind (arith, test)

ring-valid : (ring : List Coordinates) → NoneApplies (ring_rules ring) → IsRing ring
ring-valid ring n =
    ring-is ring (not_not (is_closed ring) n.0)
    (omega (arith, not_less (length (tight ring)) 4 n.1.0, tight-short ring))

pub none-left : (rules others : List Rule) → NoneApplies (rules ++ others) → NoneApplies rules
none-left [] others n = tt
none-left (rule ∷ rules) others n = (n.0, none-left rules others n.1)

pub none-right : (rules others : List Rule) → NoneApplies (rules ++ others) → NoneApplies others
none-right [] others n = n
none-right (rule ∷ rules) others n = none-right rules others n.1

rings-valid : (rings : List (List Coordinates)) → NoneApplies (flat_map ring_rules rings) → AllByRecursion IsRing rings
rings-valid [] n = tt
rings-valid (ring ∷ rings) n =
    (ring-valid ring (none-left (ring_rules ring) (flat_map ring_rules rings) n), rings-valid rings (none-right (ring_rules ring) (flat_map ring_rules rings) n))

pub valid-rings : (g : Geometry) → IsValid g → HasRings g
valid-rings g valid =
    rings-valid (rings_of g)
    (none-right (flat_map line_rules (lines_of g)) (flat_map ring_rules (rings_of g))
    (none-left (flat_map line_rules (lines_of g) ++ flat_map ring_rules (rings_of g)) (polygon_rules (polygons_of g)) valid.faultless))

-- ---- a change that is taken back
pub back-ok : {T : Type 0} (r : Result T GeometryRefusal) (outcome : Result Geometry GeometryRefusal) (g : Geometry) → outcome ≡ Ok g → IfErr r (λ refusal. outcome ≡ Err refusal) → IsOk r
back-ok (Ok t) outcome g is why = refl
back-ok (Err refusal) outcome g is why = absurd (differ (sym is ∙ why))
  where
    differ : ◌≡◌ {A = Result Geometry GeometryRefusal} (Ok g) (Err refusal) → ⊥
    differ e = cc

pub back-is : {T : Type 0} (r : Result T GeometryRefusal) (t : T) (outcome : Result Geometry GeometryRefusal) (g h : Geometry) → outcome ≡ Ok g → r ≡ Ok t → OnOk r (outcome ≡ Ok h) → h ≡ g
back-is r t outcome g h is ok done = same (sym (subst (λ s. OnOk s (outcome ≡ Ok h)) ok done) ∙ is)
  where
    same : ◌≡◌ {A = Result Geometry GeometryRefusal} (Ok h) (Ok g) → h ≡ g
    same e = cc

pub insert-back : (g h : Geometry) (part ring index : ℕ) (p : Coordinates) → IsValid g → insert_vertex g part ring index p ≡ Ok h → remove_vertex h part ring index ≡ Ok g
insert-back g h part ring index p valid e = insert-taken_back g h part ring index p valid.sized (valid-rings g valid) e

pub move-back : (g h : Geometry) (part ring index : ℕ) (p old : Coordinates) → IsValid g → vertex_of g part ring index ≡ Some old → move_vertex g part ring index p ≡ Ok h → move_vertex h part ring index old ≡ Ok g
move-back g h part ring index p old valid there e = move-taken_back g h part ring index p old valid.sized (valid-rings g valid) there e

-- what comes of a change is sized
pub outcome-sized : (found : Option Geometry) (g : Geometry) → outcome found ≡ Ok g → IsSized g
outcome-sized found g e = (outcome-some found g e).1
