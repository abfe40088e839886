-- Polygons of which one ring was changed: where its new edges meet no other one, and all other rings are apart from what
-- changed, they are valid as they were before.
use Rattle.std.proofs.Common.{◌≡◌, refl, ap, sym, ◌∙◌, subst, ℕ, ◌+◌, ◌-◌, ◌≤◌, arith, Bool, true, false, ◌&&◌, ◌||◌, not, List, [], ◌∷◌, ◌++◌, length, nat_lt, IsTrue, inl, inr}
use Rattle.std.specs.Prelude.{Some, option_and_then, slice_get}
use Rattle.std.specs.List.{AllByRecursion, flat_map, list_any}
use Rattle.std.proofs.lemmas.Bool.{and_from, or_left, or_right}
use Rattle.std.proofs.lemmas.List.{append_assoc}
use Rattle.sf_grid.specs.Plane.{Coordinates, grid_point}
use Rattle.sf_geometry.specs.declared.geometry.Geometry.{Geometry}
use Rattle.sf_geometry.specs.declared.geometry.Geometry.TheVariants.{Point, LineString, Polygon, MultiPoint, MultiLineString, MultiPolygon}
use Rattle.sf_geometry.specs.Lists.{edges_of, is_closed, tight}
use Rattle.sf_geometry.specs.Parts.{joined, lines_of, polygons_of, rings_of}
use Rattle.sf_geometry.specs.PointSets.{in_ring, on_line, within_ring}
use Rattle.sf_geometry.specs.Size.{IsSized}
use Rattle.sf_slabs.proofs.CallerLemmas.{each-append, each-both, each-map, each-parts}
use Rattle.sf_plane.specs.Boxes.{Box, in_box}
use Rattle.sf_valid_rules.specs.Conditions.{Applies, AtPoint}
use Rattle.sf_valid_rules.specs.Shapes.{in_hole_outside, meets_itself}
use Rattle.sf_valid_rules.specs.Rules.{Rule, line_rules, polygon_rules, ring_rules, rules_of}
use Rattle.sf_valid_rules.specs.Validity.{IsFirstOf, IsValid, NoneApplies}
use Rattle.sf_valid_rules.specs.declared.fault.Fault.TheVariants.{RingNotSimple}
use Rattle.sf_valid_rules.proofs.MemberLaws.{each-of_flat}
use Rattle.sf_strands.specs.Tight.{IsTight}
use Rattle.sf_interiors.proofs.SlantLaws.{is_grid}
use Rattle.sf_ring_stretches.specs.Exchange.{AreIn}
use Rattle.sf_ring_stretches.specs.Kept.{IsBeside, IsOff, IsPolygonBeside, OneIsExchanged, Shell, Hole}
use Rattle.sf_ring_stretches.proofs.ExchangeLaws.{off-line}
use Rattle.sf_ring_stretches.proofs.KeptLaws.{polygons_are_kept}
use Rattle.sf_validity.specs.Beside.{AreOthersApart, IsAlone, IsApart, IsFrontOff, ring_in, stood, stretch_of}
use Rattle.sf_validity.specs.Changed.{IsChange, IsInside, IsRespliced, NoneMeets}
use Rattle.sf_validity.specs.Refusals.{Refuses}
use Rattle.sf_validity.specs.declared.changed.Stretch.{Stretch}
use Rattle.sf_validity.specs.declared.refusal.Refusal.TheVariants.{Invalid}
use Rattle.sf_validity.proofs.EditLaws.{is-open, spliced-simple, tight-many}
use Rattle.sf_validity.proofs.StretchLaws.{HasStretch, has-stretch}
use Rattle.sf_validity.proofs.ValidLaws.{none-left, none-right, not_not}

-- ---- a member of a list
some_same : {X : Type 0} {a b : X} → Some a ≡ Some b → a ≡ b
some_same e = cc

record SameParts {X : Type 0} (front others back behind : List X) (x y : X) : Type 0 where
  fronts : front ≡ others
  members : x ≡ y
  backs : back ≡ behind

head-same : {X : Type 0} {x y : X} {xs ys : List X} → x ∷ xs ≡ y ∷ ys → x ≡ y
head-same e = cc

tail-same : {X : Type 0} {x y : X} {xs ys : List X} → x ∷ xs ≡ y ∷ ys → xs ≡ ys
tail-same e = cc

same-parts : {X : Type 0} (front others back behind : List X) (x y : X) → length front ≡ length others → front ++ x ∷ back ≡ others ++ y ∷ behind → SameParts front others back behind x y
same-parts [] [] back behind x y n e = record { fronts = refl; members = head-same e; backs = tail-same e }
same-parts [] (o ∷ others) back behind x y n e = absurd (omega (arith, n))
same-parts (f ∷ front) [] back behind x y n e = absurd (omega (arith, n))
same-parts (f ∷ front) (o ∷ others) back behind x y n e =
    let s = same-parts front others back behind x y (omega (arith, n)) (tail-same e) in
    record { fronts = ap (λ g. g ∷ front) (head-same e) ∙ ap (λ gs. o ∷ gs) s.fronts; members = s.members; backs = s.backs }

get-behind : {X : Type 0} (front back : List X) (x : X) → slice_get (front ++ x ∷ back) (length front) ≡ Some x
get-behind [] back x = refl
get-behind (f ∷ front) back x = get-behind front back x

any-member : {X : Type 0} (t : X → Bool) (front back : List X) (x : X) → t x ≡ true → list_any t (front ++ x ∷ back) ≡ true
any-member t [] back x h = or_left (t x) (list_any t back) h
any-member t (f ∷ front) back x h = or_right (t f) (list_any t (front ++ x ∷ back)) (any-member t front back x h)

ring-there : (front back : List (List (List Coordinates))) (ring_front ring_back : List (List Coordinates)) (ring : List Coordinates) (polygons : List (List (List Coordinates))) (part number : ℕ)
    → polygons ≡ front ++ (ring_front ++ ring ∷ ring_back) ∷ back → length front ≡ part → length ring_front ≡ number → ring_in polygons part number ≡ Some ring
ring-there front back ring_front ring_back ring polygons part number is placed ring_placed =
    ap (λ ps. ring_in ps part number) is
    ∙ ap (λ n. option_and_then (λ rings. slice_get rings number) (slice_get (front ++ (ring_front ++ ring ∷ ring_back) ∷ back) n)) (sym placed)
    ∙ ap (option_and_then (λ rings. slice_get rings number)) (get-behind front back (ring_front ++ ring ∷ ring_back))
    ∙ ap (slice_get (ring_front ++ ring ∷ ring_back)) (sym ring_placed)
    ∙ get-behind ring_front ring_back ring

-- ---- the rules on rings
joined-parts : (front : List (List (List Coordinates))) (left right : List (List Coordinates)) (ring : List Coordinates) (back : List (List (List Coordinates)))
    → joined (front ++ (left ++ ring ∷ right) ∷ back) ≡ (joined front ++ left) ++ ring ∷ (right ++ joined back)
joined-parts [] left right ring back = append_assoc left (ring ∷ right) (joined back)
joined-parts (rings ∷ front) left right ring back =
    ap (λ rs. rings ++ rs) (joined-parts front left right ring back)
    ∙ sym (append_assoc rings (joined front ++ left) (ring ∷ (right ++ joined back)))
    ∙ ap (λ rs. rs ++ ring ∷ (right ++ joined back)) (sym (append_assoc rings (joined front) left))

rings-exchanged : (front back : List (List Coordinates)) (r s : List Coordinates) → NoneApplies (flat_map ring_rules (front ++ r ∷ back)) → NoneApplies (ring_rules s)
    → NoneApplies (flat_map ring_rules (front ++ s ∷ back))
rings-exchanged [] back r s n one = (one.0, (one.1.0, (one.1.1.0, n.1.1.1)))
rings-exchanged (x ∷ front) back r s n one = (n.0, (n.1.0, (n.1.1.0, rings-exchanged front back r s n.1.1.1 one)))

ring-of-rules : (front back : List (List Coordinates)) (r : List Coordinates) → NoneApplies (flat_map ring_rules (front ++ r ∷ back)) → NoneApplies (ring_rules r)
ring-of-rules [] back r n = (n.0, (n.1.0, (n.1.1.0, tt)))
ring-of-rules (x ∷ front) back r n = ring-of-rules front back r n.1.1.1

first-meets : (front back : List (List Coordinates)) (r s : List Coordinates) (later : List Rule) → NoneApplies (flat_map ring_rules (front ++ r ∷ back))
    → ¬ (IsTrue (not (is_closed s))) → ¬ (IsTrue (nat_lt (length (tight s)) 4)) → Applies (AtPoint (meets_itself s)) → IsFirstOf (flat_map ring_rules (front ++ s ∷ back) ++ later) RingNotSimple
first-meets [] back r s later n unclosed short meets = inr (unclosed, inr (short, inl (meets, refl)))
first-meets (x ∷ front) back r s later n unclosed short meets = inr (n.0, inr (n.1.0, inr (n.1.1.0, first-meets front back r s later n.1.1.1 unclosed short meets)))

rings-closed : (rings : List (List Coordinates)) → NoneApplies (flat_map ring_rules rings) → AllByRecursion (λ ring. is_closed ring ≡ true) rings
rings-closed [] n = tt
rings-closed (ring ∷ rings) n = (not_not (is_closed ring) n.0, rings-closed rings n.1.1.1)

-- ---- rings beside the box
one-beside : (box : Box) (at : Coordinates) (ring : List Coordinates) → in_box box (grid_point at) ≡ true → is_closed ring ≡ true → IsApart box ring → IsBeside box at ring
one-beside box at ring inside closed a = ((closed, a.off), a.empty closed (grid_point at) (is_grid at) inside)

rings-beside : (box : Box) (at : Coordinates) (rings : List (List Coordinates)) → in_box box (grid_point at) ≡ true → AllByRecursion (λ ring. is_closed ring ≡ true) rings → AllByRecursion (IsApart box) rings
    → AllByRecursion (IsBeside box at) rings
rings-beside box at rings inside closed apart = each-both (λ ring. is_closed ring ≡ true) (IsApart box) (IsBeside box at) rings (λ ring c a. one-beside box at ring inside c a) closed apart

polygon-beside : (box : Box) (at : Coordinates) (rings : List (List Coordinates)) → AllByRecursion (IsBeside box at) rings → IsPolygonBeside box at rings
polygon-beside box at [] h = (tt, refl)
polygon-beside box at (shell ∷ holes) h =
    ((h.0.0, each-map (IsBeside box at) (IsOff box) holes (λ ring b. b.0) h.1), ap (λ b. b && not (list_any (λ hole. within_ring hole (grid_point at)) holes)) h.0.1)

polygons-beside : (box : Box) (at : Coordinates) (polygons : List (List (List Coordinates))) → in_box box (grid_point at) ≡ true → AllByRecursion (AllByRecursion (λ ring. is_closed ring ≡ true)) polygons
    → AllByRecursion (AllByRecursion (IsApart box)) polygons → AllByRecursion (IsPolygonBeside box at) polygons
polygons-beside box at polygons inside closed apart =
    each-both (AllByRecursion (λ ring. is_closed ring ≡ true)) (AllByRecursion (IsApart box)) (IsPolygonBeside box at) polygons
    (λ rings c a. polygon-beside box at rings (rings-beside box at rings inside c a)) closed apart

-- ---- a shell with a hole on which the point is, where the shell itself is off the box
shell-has : (box : Box) (at : Coordinates) (front back : List (List (List Coordinates))) (shell hole : List Coordinates) (holes behind : List (List Coordinates)) → in_box box (grid_point at) ≡ true
    → IsOff box shell → on_line hole (grid_point at) ≡ true → NoneApplies (polygon_rules (front ++ (shell ∷ (holes ++ hole ∷ behind)) ∷ back)) → in_ring shell (grid_point at) ≡ true
shell-has box at front back shell hole holes behind inside off on none = by_test (in_ring shell (grid_point at)) refl
  where
    outside : in_ring shell (grid_point at) ≡ false → in_hole_outside (shell ∷ (holes ++ hole ∷ behind)) (grid_point at) ≡ true
    outside is =
        and_from (list_any (λ h. within_ring h (grid_point at)) (holes ++ hole ∷ behind)) (not (within_ring shell (grid_point at)))
        (any-member (λ h. within_ring h (grid_point at)) holes behind hole (or_left (on_line hole (grid_point at)) (in_ring hole (grid_point at)) on))
        (ap (λ b. not (b || in_ring shell (grid_point at))) (off-line box (edges_of shell) (grid_point at) off.1 (is_grid at) inside) ∙ ap not is)

    by_test : (t : Bool) → in_ring shell (grid_point at) ≡ t → t ≡ true
    by_test true is = refl
    by_test false is =
        absurd (none.1.0 (grid_point at, is_grid at, any-member (λ rings. in_hole_outside rings (grid_point at)) front back (shell ∷ (holes ++ hole ∷ behind)) (outside is)))

one-exchanged : (box : Box) (front back : List (List (List Coordinates))) (ring_front ring_back : List (List Coordinates)) (old new : List Coordinates) (x : HasStretch box old new)
    → AllByRecursion (λ ring. is_closed ring ≡ true) (ring_front ++ old ∷ ring_back) → IsFrontOff box ring_front → AllByRecursion (IsApart box) ring_back
    → NoneApplies (polygon_rules (front ++ (ring_front ++ old ∷ ring_back) ∷ back)) → OneIsExchanged box x.at (ring_front ++ old ∷ ring_back) (ring_front ++ new ∷ ring_back)
one-exchanged box front back [] ring_back old new x closed before behind none =
    Shell old new ring_back x.exchanged (rings-beside box x.at ring_back x.inside closed.1 behind)
one-exchanged box front back (shell ∷ holes) ring_back old new x closed before behind none =
    let parts = each-parts (λ ring. is_closed ring ≡ true) holes (old ∷ ring_back) closed.1 in
    Hole shell old new holes ring_back x.exchanged (closed.0, before.0) (shell-has box x.at front back shell old holes ring_back x.inside (closed.0, before.0) x.on none)
    (rings-beside box x.at holes x.inside parts.0 before.1) (rings-beside box x.at ring_back x.inside parts.1.1 behind)

-- ---- the rules on the whole
-- what is apart from the box, by the parts of the changed polygons
record ApartParts (box : Box) (front back : List (List (List Coordinates))) (ring_front ring_back : List (List Coordinates)) : Type 0 where
  before : AllByRecursion (AllByRecursion (IsApart box)) front
  behind : AllByRecursion (AllByRecursion (IsApart box)) back
  rings_before : IsFrontOff box ring_front
  rings_behind : AllByRecursion (IsApart box) ring_back

apart-parts : (box : Box) (front back : List (List (List Coordinates))) (ring_front ring_back : List (List Coordinates)) (new : List Coordinates) (polygons : List (List (List Coordinates))) (part ring : ℕ)
    → polygons ≡ front ++ (ring_front ++ new ∷ ring_back) ∷ back → length front ≡ part → length ring_front ≡ ring → AreOthersApart box polygons part ring → ApartParts box front back ring_front ring_back
apart-parts box front back ring_front ring_back new polygons part ring is placed ring_placed a =
    let whole = same-parts a.front front a.back back a.own (ring_front ++ new ∷ ring_back) (a.placed ∙ sym placed) (sym a.is ∙ is) in
    let one = same-parts a.rings.front ring_front a.rings.back ring_back a.rings.own new (a.rings.placed ∙ sym ring_placed) (sym a.rings.is ∙ whole.members) in
    record {
      before = subst (AllByRecursion (AllByRecursion (IsApart box))) whole.fronts a.front_apart;
      behind = subst (AllByRecursion (AllByRecursion (IsApart box))) whole.backs a.back_apart;
      rings_before = subst (IsFrontOff box) one.fronts a.rings.front_off;
      rings_behind = subst (AllByRecursion (IsApart box)) one.backs a.rings.back_apart;
    }

whole-kept : (box : Box) (front back : List (List (List Coordinates))) (ring_front ring_back : List (List Coordinates)) (old new : List Coordinates) → HasStretch box old new
    → ApartParts box front back ring_front ring_back → NoneApplies (flat_map ring_rules (joined (front ++ (ring_front ++ old ∷ ring_back) ∷ back)))
    → NoneApplies (polygon_rules (front ++ (ring_front ++ old ∷ ring_back) ∷ back)) → NoneApplies (polygon_rules (front ++ (ring_front ++ new ∷ ring_back) ∷ back))
whole-kept box front back ring_front ring_back old new x a rings none =
    let closed = rings-closed (joined (front ++ (ring_front ++ old ∷ ring_back) ∷ back)) rings in
    let each = each-of_flat (λ ring. is_closed ring ≡ true) (λ (rs : List (List Coordinates)). rs) (front ++ (ring_front ++ old ∷ ring_back) ∷ back) closed in
    let parts = each-parts (AllByRecursion (λ ring. is_closed ring ≡ true)) front ((ring_front ++ old ∷ ring_back) ∷ back) each in
    polygons_are_kept box x.at front back (ring_front ++ old ∷ ring_back) (ring_front ++ new ∷ ring_back) x.inside
    (one-exchanged box front back ring_front ring_back old new x parts.1.0 a.rings_before a.rings_behind none)
    (polygons-beside box x.at front x.inside parts.0 a.before) (polygons-beside box x.at back x.inside parts.1.1 a.behind) none

-- ---- the rules of a geometry with such a ring
rules-are : (g : Geometry) (part ring : ℕ) (points : List Coordinates) → ring_in (polygons_of g) part ring ≡ Some points
    → rules_of g ≡ flat_map ring_rules (joined (polygons_of g)) ++ polygon_rules (polygons_of g)
rules-are (Point p) part ring points e = absurd cc
rules-are (LineString ps) part ring points e = absurd cc
rules-are (Polygon rings) part ring points e = refl
rules-are (MultiPoint ps) part ring points e = absurd cc
rules-are (MultiLineString lines) part ring points e = absurd cc
rules-are (MultiPolygon polygons) part ring points e = refl

rings-none : (g : Geometry) → IsValid g → NoneApplies (flat_map ring_rules (joined (polygons_of g)))
rings-none g valid =
    none-right (flat_map line_rules (lines_of g)) (flat_map ring_rules (rings_of g))
    (none-left (flat_map line_rules (lines_of g) ++ flat_map ring_rules (rings_of g)) (polygon_rules (polygons_of g)) valid.faultless)

whole-none : (g : Geometry) → IsValid g → NoneApplies (polygon_rules (polygons_of g))
whole-none g valid = none-right (flat_map line_rules (lines_of g) ++ flat_map ring_rules (rings_of g)) (polygon_rules (polygons_of g)) valid.faultless

-- the ring that was changed is the one that is looked at
new-is : (before after : List (List (List Coordinates))) (part ring index count : ℕ) (olds points : List Coordinates) (x : IsRespliced before after part ring index count olds) → ring_in after part ring ≡ Some points → x.new ≡ points
new-is before after part ring index count olds points x at =
    some_same (sym (ring-there x.front x.back x.ring_front x.ring_back x.new after part ring x.is x.placed x.ring_placed) ∙ at)

-- the rules on rings, with the changed one between others
rings-before : (g : Geometry) (after : List (List (List Coordinates))) (part ring index count : ℕ) (olds : List Coordinates) (x : IsRespliced (polygons_of g) after part ring index count olds) → IsValid g
    → NoneApplies (flat_map ring_rules ((joined x.front ++ x.ring_front) ++ x.old ∷ (x.ring_back ++ joined x.back)))
rings-before g after part ring index count olds x valid =
    subst (λ rs. NoneApplies (flat_map ring_rules rs)) (ap joined x.was ∙ joined-parts x.front x.ring_front x.ring_back x.old x.back) (rings-none g valid)

pub changed-refused : (g : Geometry) (points : List Coordinates) (s : Stretch) → ring_in (polygons_of g) s.part s.ring ≡ Some points → IsInside points s.index s.count → Applies (AtPoint (meets_itself points))
    → (was : Bool) (before : Geometry) → IsChange before g was s → Refuses g (Invalid RingNotSimple)
changed-refused g points s at inside meets was before change =
    let x = change.edited.1 points at inside.later in
    let same : x.new ≡ points = new-is (polygons_of before) (polygons_of g) s.part s.ring s.index s.count (stood s.gone) points x at in
    let rings : joined (polygons_of g) ≡ (joined x.front ++ x.ring_front) ++ points ∷ (x.ring_back ++ joined x.back) =
    ap joined x.is ∙ joined-parts x.front x.ring_front x.ring_back x.new x.back ∙ ap (λ r. (joined x.front ++ x.ring_front) ++ r ∷ (x.ring_back ++ joined x.back)) same in
    subst (λ rules. IsFirstOf rules RingNotSimple) (sym (rules-are g s.part s.ring points at ∙ ap (λ rs. flat_map ring_rules rs ++ polygon_rules (polygons_of g)) rings))
    (first-meets (joined x.front ++ x.ring_front) (x.ring_back ++ joined x.back) x.old points (polygon_rules (polygons_of g))
    (rings-before before (polygons_of g) s.part s.ring s.index s.count (stood s.gone) x change.edited.0)
    (is-open points inside.closed) (tight-many points inside.tight inside.many) meets)

pub changed-valid : (g : Geometry) (points : List Coordinates) (s : Stretch) → ring_in (polygons_of g) s.part s.ring ≡ Some points → IsInside points s.index s.count → IsSized g → IsAlone (polygons_of g) points s
    → NoneMeets points (s.index - 1) (s.index + s.count) → (was : Bool) → IsTrue was → (before : Geometry) → IsChange before g was s → IsValid g
changed-valid g points s at inside sized alone none was told before change =
    let valid : IsValid before = change.edited.0 in
    let x = change.edited.1 points at inside.later in
    let same : x.new ≡ points = new-is (polygons_of before) (polygons_of g) s.part s.ring s.index s.count (stood s.gone) points x at in
    let old_tight : IsTight x.old =
    change.tight told x.old (ring-there x.front x.back x.ring_front x.ring_back x.old (polygons_of before) s.part s.ring x.was x.placed x.ring_placed) in
    let new_tight : IsTight x.new = subst IsTight (sym same) inside.tight in
    let rings = rings-before before (polygons_of g) s.part s.ring s.index s.count (stood s.gone) x valid in
    let simple : ¬ (Applies (AtPoint (meets_itself x.new))) =
    spliced-simple x.old x.new s.index s.count (stood s.gone) x.spliced inside.later x.ended old_tight new_tight (subst (λ ps. NoneMeets ps (s.index - 1) (s.index + s.count)) (sym same) none)
    (ring-of-rules (joined x.front ++ x.ring_front) (x.ring_back ++ joined x.back) x.old rings).1.1.0 in
    let one : NoneApplies (ring_rules x.new) =
    (is-open x.new (subst (λ ps. IsTrue (is_closed ps)) (sym same) inside.closed), (tight-many x.new new_tight (subst (λ ps. 4 ≤ length ps) (sym same) inside.many), (simple, tt))) in
    let rings_now : NoneApplies (flat_map ring_rules (joined (polygons_of g))) =
    subst (λ rs. NoneApplies (flat_map ring_rules rs)) (sym (ap joined x.is ∙ joined-parts x.front x.ring_front x.ring_back x.new x.back))
    (rings-exchanged (joined x.front ++ x.ring_front) (x.ring_back ++ joined x.back) x.old x.new rings one) in
    let stretch : HasStretch alone.box x.old x.new =
    has-stretch alone.box x.old x.new s.index s.count (stood s.gone) x.spliced inside.later x.ended old_tight new_tight
    (subst (λ ps. AreIn alone.box (stretch_of ps s.index s.count)) (sym same) alone.round) alone.before in
    let apart : ApartParts alone.box x.front x.back x.ring_front x.ring_back =
    apart-parts alone.box x.front x.back x.ring_front x.ring_back x.new (polygons_of g) s.part s.ring x.is x.placed x.ring_placed alone.apart in
    let whole : NoneApplies (polygon_rules (polygons_of g)) =
    subst (λ ps. NoneApplies (polygon_rules ps)) (sym x.is)
    (whole-kept alone.box x.front x.back x.ring_front x.ring_back x.old x.new stretch apart
    (subst (λ ps. NoneApplies (flat_map ring_rules (joined ps))) x.was (rings-none before valid))
    (subst (λ ps. NoneApplies (polygon_rules ps)) x.was (whole-none before valid))) in
    record {
      sized = sized;
      faultless =
          subst NoneApplies (sym (rules-are g s.part s.ring points at))
          (each-append (λ rule. ¬ (Applies rule.condition)) (flat_map ring_rules (joined (polygons_of g))) (polygon_rules (polygons_of g)) rings_now whole);
    }
