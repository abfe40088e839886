-- What a walk over a polygon's rings finds is right of its points: holes outside their shell, holes in one another, shared pieces.
use Rattle.std.proofs.Common.{◌≡◌, refl, ap, sym, ◌∙◌, subst, ℕ, suc, ◌+◌, ◌<◌, ◌≤◌, ◌^◌, ◌==◌, arith, Option, is_some, Bool, true, false, ◌&&◌, ◌||◌, not, List, [], ◌∷◌, map, drop, length, nat_le, nat_lt, replicate, slice_index}
use Rattle.std.specs.Prelude.{◌↔◌, IsTrue, if◌then◌else◌}
use Rattle.std.specs.List.{All, AllByRecursion, count_by, flat_map, fold, list_any, zip}
use Rattle.std.proofs.lemmas.List.{length-append, length-map}
use Rattle.std.proofs.lemmas.List.Elements.{All-from_recursion}
use Rattle.sf_grid.specs.EvenOdd.{is_odd}
use Rattle.sf_grid.specs.Plane.{Coordinates, IsPoint, Point}
use Rattle.sf_cells.specs.Groups.{Item}
use Rattle.sf_cells.specs.Samples.{samples}
use Rattle.sf_classes.specs.Classes.{Represent, WereHanded}
use Rattle.sf_slabs.proofs.CallerLemmas.{each-map}
use Rattle.sf_geometry.specs.declared.extent.Extent.{Extent}
use Rattle.sf_geometry.specs.Lists.{is_closed}
use Rattle.sf_geometry.specs.Parts.{joined}
use Rattle.sf_geometry.specs.PointSets.{in_ring, on_line, within_ring}
use Rattle.sf_plane.specs.Cover.{cell_at}
use Rattle.sf_pieces.specs.Marked.{HasGroups, Marked, groups_of, item_at, items_of, pieces_of}
use Rattle.sf_pieces.proofs.CountLaws.{items-count}
use Rattle.sf_valid_rules.specs.Conditions.{any_two}
use Rattle.sf_valid_rules.specs.Rules.{ring_rules}
use Rattle.sf_valid_rules.specs.Shapes.{in_hole_outside, in_two_holes, share_piece}
use Rattle.sf_valid_rules.specs.Validity.{NoneApplies}
use Rattle.sf_polygons.specs.declared.found.RingFaults.{RingFaults}
use Rattle.sf_polygons.specs.Colours.{IsColouring, box_of}
use Rattle.sf_polygons.specs.Found.{AreRingFaults, with_ring_cell}
use Rattle.sf_polygons.specs.Rings.{GroupedRing, holes_in, pieces_in}
use Rattle.sf_polygons.specs.Tests.{is_inside, is_nested, is_outside, is_shared, is_within}
use Rattle.sf_polygons.proofs.ColourLaws.{each-below, firsts}
use Rattle.sf_polygons.proofs.GroupLaws.{IsNear, groups-pass}
use Rattle.sf_polygons.proofs.MeetLaws.{IsSound, ShareSomewhere, all-sound, is_shared_at, shared-somewhere, somewhere-shared}
use Rattle.sf_polygons.proofs.NearLaws.{alone-near, hole-near, is_near}
use Rattle.sf_polygons.proofs.PieceLaws.{odd-group, on-group, parity, pieces-are, rings_of}
use Rattle.sf_polygons.proofs.SizeLaws.{few-boxes, few-pieces, few-rings, ring-groups, rings-grouped, rings_in}
use Rattle.sf_polygons.proofs.TestLaws.{any-map, any-never, any-same, count-map, count-same, odd-map, odd-never, odd-same, odd_many, or-none, some-count, two-count, xor}
use Rattle.sf_polygons.proofs.WalkLaws.{gathered, gathered-unless, length-counts, nested-by, outside-by, passes-somewhere, shared-cells}

-- ---- counts of the groups from 1 on
next-group : (c : ℕ) → (0 == suc c) ≡ false
next-group c = grind arith

same-group : (g c : ℕ) → (g + 1 == suc c) ≡ (g == c)
same-group g c = grind arith

no-group : (g : ℕ) → (g + 1 == 0) ≡ false
no-group g = grind arith

slice-rest : (ns : List ℕ) (c : ℕ) → slice_index (drop 1 ns) c ≡ slice_index ns (suc c)
slice-rest [] c = refl
slice-rest (n ∷ ns) c = refl

length-rest : (ms ns : List ℕ) → length ns ≡ length ms → length (drop 1 ns) ≡ length (drop 1 ms)
length-rest [] [] e = refl
length-rest [] (n ∷ ns) e = absurd (omega (arith, e))
length-rest (m ∷ ms) [] e = absurd (omega (arith, e))
length-rest (m ∷ ms) (n ∷ ns) e = omega (arith, e)

zip-rest : (ms ns : List ℕ) → drop 1 (zip ms ns) ≡ zip (drop 1 ms) (drop 1 ns)
zip-rest [] ns = refl
zip-rest (m ∷ []) [] = refl
zip-rest (m ∷ k ∷ ms) [] = refl
zip-rest (m ∷ ms) (n ∷ ns) = refl

-- the counts at a point
abbrev on_at : List GroupedRing → Point → List ℕ
on_at rings p = (item_at (pieces_in rings) p).on

abbrev above_at : List GroupedRing → Point → List ℕ
above_at rings p = (item_at (pieces_in rings) p).above

pub counted-alike : (rings : List GroupedRing) (p : Point) → length ((item_at (pieces_in rings) p).above) ≡ length ((item_at (pieces_in rings) p).on)
counted-alike rings p =
    let ms = pieces_in rings in
    length-counts (groups_of ms) ((cell_at (pieces_of ms) p).above) ∙ sym (length-counts (groups_of ms) ((cell_at (pieces_of ms) p).on))

pub group-on : (rings : List GroupedRing) (p : Point) (c : ℕ) → nat_lt 0 (slice_index ((item_at (pieces_in rings) p).on) c) ≡ list_any (λ (r : GroupedRing). (r.1 == c) && on_line r.0 p) rings
group-on rings p c = ap (nat_lt 0) ((items-count (pieces_in rings) p).on c) ∙ on-group rings c p

pub group-odd : (rings : List GroupedRing) (p : Point) (c : ℕ)
    → is_odd (slice_index ((item_at (pieces_in rings) p).above) c) ≡ odd_many (map (λ (r : GroupedRing). (r.1 == c) && parity p r.0) rings)
group-odd rings p c = ap is_odd ((items-count (pieces_in rings) p).above c) ∙ odd-group rings c p

-- of the holes
hole-on : (shell : List Coordinates) (holes : List (List Coordinates)) (colours : List ℕ) (p : Point) (c : ℕ)
    → nat_lt 0 (slice_index (drop 1 (on_at (rings_in shell holes colours) p)) c) ≡ list_any (λ (h : GroupedRing). (h.1 == c) && on_line h.0 p) (zip holes colours)
hole-on shell holes colours p c =
    ap (nat_lt 0) (slice-rest (on_at (rings_in shell holes colours) p) c)
    ∙ group-on (rings_in shell holes colours) p (suc c)
    ∙ ap (λ b. (b && on_line shell p) || list_any (λ (r : GroupedRing). (r.1 == suc c) && on_line r.0 p) (holes_in holes colours)) (next-group c)
    ∙ any-map (λ (r : GroupedRing). (r.1 == suc c) && on_line r.0 p) (λ (h : GroupedRing). (h.0, h.1 + 1)) (zip holes colours)
    ∙ any-same (λ (h : GroupedRing). (h.1 + 1 == suc c) && on_line h.0 p) (λ (h : GroupedRing). (h.1 == c) && on_line h.0 p) (zip holes colours)
    (λ h. ap (λ b. b && on_line h.0 p) (same-group h.1 c))

hole-odd : (shell : List Coordinates) (holes : List (List Coordinates)) (colours : List ℕ) (p : Point) (c : ℕ)
    → is_odd (slice_index (drop 1 (above_at (rings_in shell holes colours) p)) c) ≡ odd_many (map (λ (h : GroupedRing). (h.1 == c) && parity p h.0) (zip holes colours))
hole-odd shell holes colours p c =
    ap is_odd (slice-rest (above_at (rings_in shell holes colours) p) c)
    ∙ group-odd (rings_in shell holes colours) p (suc c)
    ∙ ap (λ b. xor (b && parity p shell) (odd_many (map (λ (r : GroupedRing). (r.1 == suc c) && parity p r.0) (holes_in holes colours)))) (next-group c)
    ∙ odd-map (λ (r : GroupedRing). (r.1 == suc c) && parity p r.0) (λ (h : GroupedRing). (h.0, h.1 + 1)) (zip holes colours)
    ∙ odd-same (λ (h : GroupedRing). (h.1 + 1 == suc c) && parity p h.0) (λ (h : GroupedRing). (h.1 == c) && parity p h.0) (zip holes colours)
    (λ h. ap (λ b. b && parity p h.0) (same-group h.1 c))

-- of the shell
shell-on : (shell : List Coordinates) (holes : List (List Coordinates)) (colours : List ℕ) (p : Point) → nat_lt 0 (slice_index (on_at (rings_in shell holes colours) p) 0) ≡ on_line shell p
shell-on shell holes colours p =
    group-on (rings_in shell holes colours) p 0
    ∙ ap (λ b. on_line shell p || b)
    (any-map (λ (r : GroupedRing). (r.1 == 0) && on_line r.0 p) (λ (h : GroupedRing). (h.0, h.1 + 1)) (zip holes colours)
    ∙ any-same (λ (h : GroupedRing). (h.1 + 1 == 0) && on_line h.0 p) (λ h. false) (zip holes colours) (λ h. ap (λ b. b && on_line h.0 p) (no-group h.1))
    ∙ any-never (zip holes colours))
    ∙ or-none (on_line shell p)

shell-odd : (shell : List Coordinates) (holes : List (List Coordinates)) (colours : List ℕ) (p : Point) → is_odd (slice_index (above_at (rings_in shell holes colours) p) 0) ≡ parity p shell
shell-odd shell holes colours p =
    group-odd (rings_in shell holes colours) p 0
    ∙ ap (xor (parity p shell))
    (odd-map (λ (r : GroupedRing). (r.1 == 0) && parity p r.0) (λ (h : GroupedRing). (h.0, h.1 + 1)) (zip holes colours)
    ∙ odd-same (λ (h : GroupedRing). (h.1 + 1 == 0) && parity p h.0) (λ h. false) (zip holes colours) (λ h. ap (λ b. b && parity p h.0) (no-group h.1))
    ∙ odd-never (zip holes colours))
    ∙ xor-none (parity p shell)
  where
    xor-none : (b : Bool) → xor b false ≡ b
    xor-none true = refl
    xor-none false = refl

-- ---- at a point
pub is-inside : (m : ℕ × ℕ) → is_inside m ≡ (not (nat_lt 0 m.0) && is_odd m.1)
is-inside m = ap (λ b. b && is_odd m.1) (is-zero m.0)
  where
    is-zero : (n : ℕ) → (n == 0) ≡ not (nat_lt 0 n)
    is-zero n = grind arith

on-or-odd : (a b : Bool) → (a || b) ≡ (a || (not a && b))
on-or-odd true b = refl
on-or-odd false b = refl

-- how many holes pass
holes-pass : (join : Bool → Bool → Bool) → join false false ≡ false → (shell : List Coordinates) (holes : List (List Coordinates)) (colours : List ℕ) (p : Point) → IsPoint p
    → AllByRecursion (λ ring. is_closed ring ≡ true) holes → IsColouring (map box_of holes) colours
    → count_by (λ (m : ℕ × ℕ). join (nat_lt 0 m.0) (is_odd m.1)) (drop 1 (zip (on_at (rings_in shell holes colours) p) (above_at (rings_in shell holes colours) p)))
    ≡ count_by (λ hole. join (on_line hole p) (parity p hole)) holes
holes-pass join none shell holes colours p i closed h =
    let on = on_at (rings_in shell holes colours) p in
    let above = above_at (rings_in shell holes colours) p in
    let same : length colours ≡ length holes = h.one_each ∙ length-map holes box_of in
    ap (count_by (λ (m : ℕ × ℕ). join (nat_lt 0 m.0) (is_odd m.1))) (zip-rest on above)
    ∙ groups-pass (λ (z : GroupedRing). z.1) (λ (z : GroupedRing). is_near (box_of z.0) p) (λ (z : GroupedRing). on_line z.0 p) (λ (z : GroupedRing). parity p z.0) join none (zip holes colours)
    (alone-near box_of p i holes colours h.apart) (each holes colours closed) (drop 1 on) (drop 1 above) (length-rest on above (counted-alike (rings_in shell holes colours) p))
    (hole-on shell holes colours p) (hole-odd shell holes colours p)
    ∙ sym (count-map (λ hole. join (on_line hole p) (parity p hole)) (λ (z : GroupedRing). z.0) (zip holes colours))
    ∙ ap (count_by (λ hole. join (on_line hole p) (parity p hole))) (firsts holes colours same)
  where
    each : (hs : List (List Coordinates)) (cs : List ℕ) → AllByRecursion (λ ring. is_closed ring ≡ true) hs
        → AllByRecursion (IsNear (λ (z : GroupedRing). is_near (box_of z.0) p) (λ (z : GroupedRing). on_line z.0 p) (λ (z : GroupedRing). parity p z.0)) (zip hs cs)
    each [] cs k = tt
    each (x ∷ hs) [] k = tt
    each (x ∷ hs) (c ∷ cs) k = (let n = hole-near x p i k.0 in record { on_near = n.on_near; odd_near = n.odd_near }, each hs cs k.1)

nested-at : (shell : List Coordinates) (holes : List (List Coordinates)) (colours : List ℕ) (p : Point) → IsPoint p → AllByRecursion (λ ring. is_closed ring ≡ true) holes
    → IsColouring (map box_of holes) colours → is_nested (item_at (pieces_in (rings_in shell holes colours)) p) ≡ in_two_holes (shell ∷ holes) p
nested-at shell holes colours p i closed h =
    let groups = drop 1 (zip (on_at (rings_in shell holes colours) p) (above_at (rings_in shell holes colours) p)) in
    ap (nat_le 2)
    (count-same is_inside (λ (m : ℕ × ℕ). not (nat_lt 0 m.0) && is_odd m.1) groups is-inside ∙ holes-pass (λ a b. not a && b) refl shell holes colours p i closed h)
    ∙ two-count (λ hole. in_ring hole p) holes

outside-at : (shell : List Coordinates) (holes : List (List Coordinates)) (colours : List ℕ) (p : Point) → IsPoint p → AllByRecursion (λ ring. is_closed ring ≡ true) holes
    → IsColouring (map box_of holes) colours → is_outside (item_at (pieces_in (rings_in shell holes colours)) p) ≡ in_hole_outside (shell ∷ holes) p
outside-at shell holes colours p i closed h =
    let on = on_at (rings_in shell holes colours) p in
    let above = above_at (rings_in shell holes colours) p in
    let groups = drop 1 (zip on above) in
    let in_hole : list_any is_within groups ≡ list_any (λ hole. within_ring hole p) holes =
    sym (some-count is_within groups)
    ∙ ap (nat_lt 0) (holes-pass (λ a b. a || b) refl shell holes colours p i closed h)
    ∙ some-count (λ hole. on_line hole p || parity p hole) holes
    ∙ any-same (λ hole. on_line hole p || parity p hole) (λ hole. within_ring hole p) holes (λ hole. on-or-odd (on_line hole p) (parity p hole)) in
    let in_shell : is_within (slice_index on 0, slice_index above 0) ≡ within_ring shell p =
    ap (λ b. b || is_odd (slice_index above 0)) (shell-on shell holes colours p)
    ∙ ap (λ b. on_line shell p || b) (shell-odd shell holes colours p)
    ∙ on-or-odd (on_line shell p) (parity p shell) in
    ap (λ b. b && not (is_within (slice_index on 0, slice_index above 0))) in_hole ∙ ap (λ b. list_any (λ hole. within_ring hole p) holes && not b) in_shell

-- ---- the faults
pub rings-are : (shell : List Coordinates) (holes : List (List Coordinates)) (colours : List ℕ) → length colours ≡ length holes → rings_of (rings_in shell holes colours) ≡ shell ∷ holes
rings-are shell holes colours e = ap (λ rs. shell ∷ rs) (twice (zip holes colours) ∙ firsts holes colours e)
  where
    twice : (zs : List GroupedRing) → rings_of (map (λ (h : GroupedRing). (h.0, h.1 + 1)) zs) ≡ map (λ (z : GroupedRing). z.0) zs
    twice [] = refl
    twice (z ∷ zs) = ap (λ rs. z.0 ∷ rs) (twice zs)

-- where a sink has a flag for shared pieces, it is set just where two rings share one
pub flag-shared : (rings : List GroupedRing) (areal : List Bool) (items : List Item) (flag : Bool) → AllByRecursion IsSound (rings_of rings)
    → Represent areal items (items_of (pieces_in rings)) → flag ≡ list_any is_shared items → IsTrue flag ↔ ShareSomewhere (rings_of rings)
flag-shared rings areal items flag sound h e =
    let told = e ∙ shared-cells areal rings items h ∙ ap (λ ps. list_any (is_shared_at (rings_of rings)) (samples ps)) (pieces-are rings) in (
      λ t. shared-somewhere (rings_of rings) sound (sym told ∙ t),
      λ s. told ∙ somewhere-shared (rings_of rings) s,
    )

-- ---- the sink, cell by cell
ring-meet : (f : RingFaults) (i : Item) → (with_ring_cell f i).meet ≡ (f.meet || is_shared i)
ring-meet f i = by f.meet refl
  where
    by : (b : Bool) → f.meet ≡ b → (if b then f else (record { meet = is_shared i; outside = f.outside || is_outside i; nested = f.nested || is_nested i })).meet ≡ (b || is_shared i)
    by true e = e
    by false e = refl

ring-stays : (f : RingFaults) (i : Item) → f.meet ≡ true → (with_ring_cell f i).meet ≡ true
ring-stays f i e = ring-meet f i ∙ ap (λ b. b || is_shared i) e

ring-outside : (f : RingFaults) (i : Item) → f.meet ≡ false → (with_ring_cell f i).outside ≡ (f.outside || is_outside i)
ring-outside f i e = ap (λ b. (if b then f else (record { meet = is_shared i; outside = f.outside || is_outside i; nested = f.nested || is_nested i })).outside) e

ring-nested : (f : RingFaults) (i : Item) → f.meet ≡ false → (with_ring_cell f i).nested ≡ (f.nested || is_nested i)
ring-nested f i e = ap (λ b. (if b then f else (record { meet = is_shared i; outside = f.outside || is_outside i; nested = f.nested || is_nested i })).nested) e

pub unmet : (b : Bool) → ¬ (IsTrue b) → b ≡ false
unmet true h = absurd (h refl)
unmet false h = refl

pub ring-faults : (shell : List Coordinates) (holes : List (List Coordinates)) (colours : List ℕ) (found : RingFaults) → AllByRecursion IsSound (shell ∷ holes)
    → IsColouring (map box_of holes) colours
    → WereHanded (pieces_of (pieces_in (rings_in shell holes colours))) (groups_of (pieces_in (rings_in shell holes colours))) (replicate (length (shell ∷ holes)) true) with_ring_cell
    (record { meet = false; outside = false; nested = false }) found
    → AreRingFaults ((shell ∷ holes) ∷ []) found
ring-faults shell holes colours found sound h handed =
    let rings = rings_in shell holes colours in
    let closed = each-map IsSound (λ ring. is_closed ring ≡ true) holes (λ ring s. s.closed) sound.1 in
    let start : RingFaults = record { meet = false; outside = false; nested = false } in
    let meet = ap (λ (f : RingFaults). f.meet) handed.handed ∙ gathered (λ (f : RingFaults). f.meet) with_ring_cell is_shared ring-meet start handed.items in
    let none : ¬ (IsTrue found.meet) → (fold with_ring_cell start handed.items).meet ≡ false = λ n. ap (λ (f : RingFaults). f.meet) (sym handed.handed) ∙ unmet found.meet n in
    let outside : ¬ (IsTrue found.meet) → found.outside ≡ list_any is_outside handed.items =
    λ n. ap (λ (f : RingFaults). f.outside) handed.handed ∙ gathered-unless (λ (f : RingFaults). f.meet) (λ (f : RingFaults). f.outside) with_ring_cell is_outside ring-stays ring-outside start handed.items (none n) in
    let nested : ¬ (IsTrue found.meet) → found.nested ≡ list_any is_nested handed.items =
    λ n. ap (λ (f : RingFaults). f.nested) handed.handed ∙ gathered-unless (λ (f : RingFaults). f.meet) (λ (f : RingFaults). f.nested) with_ring_cell is_nested ring-stays ring-nested start handed.items (none n) in
    let same = rings-are shell holes colours (h.one_each ∙ length-map holes box_of) in
    let shared = flag-shared rings (replicate (length (shell ∷ holes)) true) handed.items found.meet (subst (AllByRecursion IsSound) (sym same) sound) handed.represent meet in
    let few = ring-groups shell holes colours h in
    let is_outside_somewhere = passes-somewhere (length (shell ∷ holes)) (pieces_in rings) handed.items is_outside outside-by few handed.represent in
    let is_nested_somewhere = passes-somewhere (length (shell ∷ holes)) (pieces_in rings) handed.items is_nested nested-by few handed.represent in
    let P : List (List Coordinates) → Type 0 = ShareSomewhere in
    record {
      meet = (
        λ t. let s = subst P same (shared.0 t) in (s.0, s.1, s.2, s.3, or-none (any_two (λ r q. share_piece r q s.0 s.1) (shell ∷ holes)) ∙ s.4),
        λ s. shared.1 (subst P (sym same) (s.0, s.1, s.2, s.3, sym (or-none (any_two (λ r q. share_piece r q s.0 s.1) (shell ∷ holes))) ∙ s.4)),
      );
      outside = λ n. (
        λ t.
            let s = is_outside_somewhere.0 (sym (outside n) ∙ t) in
            (s.0, s.1.0, or-none (in_hole_outside (shell ∷ holes) s.0) ∙ sym (outside-at shell holes colours s.0 s.1.0 closed h) ∙ s.1.1),
        λ s.
            outside n
            ∙ is_outside_somewhere.1 (s.0, (s.1, outside-at shell holes colours s.0 s.1 closed h ∙ sym (or-none (in_hole_outside (shell ∷ holes) s.0)) ∙ s.2)),
      );
      nested = λ n. (
        λ t.
            let s = is_nested_somewhere.0 (sym (nested n) ∙ t) in
            (s.0, s.1.0, or-none (in_two_holes (shell ∷ holes) s.0) ∙ sym (nested-at shell holes colours s.0 s.1.0 closed h) ∙ s.1.1),
        λ s.
            nested n
            ∙ is_nested_somewhere.1 (s.0, (s.1, nested-at shell holes colours s.0 s.1 closed h ∙ sym (or-none (in_two_holes (shell ∷ holes) s.0)) ∙ s.2)),
      );
    }

-- ---- what the code has before its walk
pub record IsReady (rings : List (List Coordinates)) (shell : List Coordinates) (holes : List (List Coordinates)) (colours : List ℕ) : Type 0 where
  pub split : rings ≡ shell ∷ holes
  pub few : length (joined rings) ≤ 65536
  pub sound : NoneApplies (flat_map ring_rules rings)
  pub colouring : IsColouring (map box_of holes) colours

pub few-hole_boxes : (rings : List (List Coordinates)) (shell : List Coordinates) (holes : List (List Coordinates)) (boxes : List (Option Extent)) → rings ≡ shell ∷ holes
    → length (joined rings) ≤ 65536 → boxes ≡ map box_of holes → count_by is_some boxes < 2 ^ 32
few-hole_boxes rings shell holes boxes e few b =
    at_most (count_by is_some boxes) (length (joined holes)) (length shell) (length (joined rings))
    (subst (λ bs. count_by is_some bs ≤ length (joined holes)) (sym b) (few-boxes (λ ps. ps) holes)) (ap (λ rs. length (joined rs)) e ∙ length-append shell (joined holes)) few
  where
    at_most : (a b c d : ℕ) → a ≤ b → d ≡ c + b → d ≤ 65536 → a < 2 ^ 32
    at_most a b c d h k l = omega (arith, h, k, l)

pub small-colours : (rings : List (List Coordinates)) (shell : List Coordinates) (holes : List (List Coordinates)) (colours : List ℕ) → IsReady rings shell holes colours
    → All (λ colour. colour + 1 < 2 ^ 32) colours
small-colours rings shell holes colours r =
    let sound = subst (AllByRecursion IsSound) r.split (all-sound rings r.sound) in
    All-from_recursion (λ colour. colour + 1 < 2 ^ 32) colours
    (each-map (λ c. c < length (map box_of holes)) (λ c. c + 1 < 2 ^ 32) colours
    (λ c l. small c (length (map box_of holes)) (length holes) (length (joined holes)) (length shell) (length (joined rings)) l (length-map holes box_of) (few-rings holes sound.1)
    (ap (λ rs. length (joined rs)) r.split ∙ length-append shell (joined holes)) r.few)
    (each-below (map box_of holes) colours r.colouring))
  where
    small : (c m n j s d : ℕ) → c < m → m ≡ n → n ≤ j → d ≡ s + j → d ≤ 65536 → c + 1 < 2 ^ 32
    small c m n j s d a b e f g = omega (arith, a, b, e, f, g)

pub few-ring_pieces : (rings : List (List Coordinates)) (shell : List Coordinates) (holes : List (List Coordinates)) (colours : List ℕ) → IsReady rings shell holes colours
    → length (pieces_in (rings_in shell holes colours)) ≤ 16777215
few-ring_pieces rings shell holes colours r =
    let same = rings-are shell holes colours (r.colouring.one_each ∙ length-map holes box_of) in
    at_most (length (pieces_in (rings_in shell holes colours))) (length (joined (rings_of (rings_in shell holes colours)))) (length (joined rings)) (few-pieces (rings_in shell holes colours))
    (ap (λ rs. length (joined rs)) (same ∙ sym r.split)) r.few
  where
    at_most : (a b c : ℕ) → a ≤ b → b ≡ c → c ≤ 65536 → a ≤ 16777215
    at_most a b c h k l = omega (arith, h, k, l)

pub grouped-rings : (rings : List (List Coordinates)) (shell : List Coordinates) (holes : List (List Coordinates)) (colours : List ℕ) → IsReady rings shell holes colours
    → HasGroups (pieces_in (rings_in shell holes colours))
grouped-rings rings shell holes colours r = rings-grouped shell holes colours (subst (AllByRecursion IsSound) r.split (all-sound rings r.sound)) r.colouring

pub found-within : (rings : List (List Coordinates)) (shell : List Coordinates) (holes : List (List Coordinates)) (colours : List ℕ) (pieces : List Marked) (areal : List Bool) (n : ℕ) (found : RingFaults)
    → IsReady rings shell holes colours → pieces ≡ pieces_in (rings_in shell holes colours) → areal ≡ replicate n true → n ≡ length rings
    → WereHanded (pieces_of pieces) (groups_of pieces) areal with_ring_cell (record { meet = false; outside = false; nested = false }) found → AreRingFaults (rings ∷ []) found
found-within rings shell holes colours pieces areal n found r p a l handed =
    subst (λ rs. AreRingFaults (rs ∷ []) found) (sym r.split)
    (ring-faults shell holes colours found (subst (AllByRecursion IsSound) r.split (all-sound rings r.sound)) r.colouring
    (subst (λ ms. WereHanded (pieces_of ms) (groups_of ms) (replicate (length (shell ∷ holes)) true) with_ring_cell (record { meet = false; outside = false; nested = false }) found) p
    (subst (λ bs. WereHanded (pieces_of pieces) (groups_of pieces) bs with_ring_cell (record { meet = false; outside = false; nested = false }) found)
    (a ∙ ap (λ k. replicate k true) (l ∙ ap length r.split)) handed)))
