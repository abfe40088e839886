-- The edges of a ring two at a time: those of its tight list meet just where the numbered ones do.
use Rattle.std.proofs.Common.{◌≡◌, ap, sym, ◌∙◌, subst, ℕ, zero, suc, ◌+◌, ◌<◌, ◌≤◌, arith, ℤ, pos, not, List, drop, length, map, slice_index_or, get_or}
use Rattle.std.specs.Prelude.{IsTrue}
use Rattle.std.specs.List.{zip}
use Rattle.std.proofs.lemmas.Bool.{and_from, and_parts}
use Rattle.std.proofs.lemmas.List.FromFn.{get_or-enumerate_from, length-enumerate_from}
use Rattle.std.proofs.lemmas.List.{get_or-map, get_or_default, length-map}
use Rattle.std.proofs.lemmas.Slice.Zip.{get_or-zip}
use Rattle.sf_grid.specs.Plane.{Coordinates, Point}
use Rattle.sf_grid.specs.Edge.{Edge, on_edge}
use Rattle.sf_geometry.specs.Lists.{edges_between, edges_of, is_closed, tight}
use Rattle.sf_valid_rules.specs.Conditions.{Applies, AtPoint}
use Rattle.sf_valid_rules.specs.Shapes.{is_joint, on_both}
use Rattle.sf_geometry.specs.declared.extent.Extent.{Extent}
use Rattle.sf_geometry.specs.Envelope.{extent_at, extent_with, extents_meet}
use Rattle.sf_edge_tree.specs.declared.outcome.Outcome.{Outcome}
use Rattle.sf_edge_tree.specs.declared.outcome.Outcome.TheVariants.{Absent}
use Rattle.sf_edge_tree.specs.Boxes.{extent_at_edge, extent_of_edge}
use Rattle.sf_edge_tree.specs.Searches.{Answers, HasNear}
use Rattle.sf_strands.specs.Pairs.{edge_at, pair_meets, point_of}
use Rattle.sf_strands.proofs.NearLaws.{ends-are, ends-within, shared-near}
use Rattle.sf_strands.proofs.PairLaws.{any_edge, pair-is}
use Rattle.sf_strands.proofs.PlaceLaws.{edges-more}
use Rattle.sf_strands.proofs.NumberedLaws.{meet_apart}
use Rattle.sf_strands.proofs.TightLaws.{tight-IsTight, tight-closed, tight-twice}
use Rattle.sf_faults.specs.declared.place.Place.{Place}
use Rattle.sf_faults.specs.declared.place.Place.TheVariants.{Edges}
use Rattle.sf_faults.specs.declared.place.Spot.{Spot}
use Rattle.sf_faults.specs.declared.written_edge.WrittenEdge.{WrittenEdge}
use Rattle.sf_faults.specs.Candidates.{crossings_of, do_edges_meet, edges_meeting}
use Rattle.sf_faults.specs.Orders.{edge_numbers, numbered, pairs, written_edges}
use Rattle.sf_faults.specs.Written.{written}
use Rattle.sf_faults.specs.Places.{IsFirstPlace, NoneIsAtFault}
use Rattle.sf_faults.proofs.PlaceLaws.{NoPair, NoneWith, first-alone, first-map, first-pair, no_pair-all, no_pair-more, none-alone, none-map, none_with-more, single}
use Rattle.sf_faults.proofs.WrittenLaws.{numbers-counted, written-counted}

-- the edges of a ring with their places and numbers
abbrev pub placed_edges : List Coordinates → List (ℕ × (ℕ × Edge))
placed_edges ring = numbered (written_edges ring)

abbrev any_placed : ℕ × (ℕ × Edge)
any_placed = (0, (0, any_edge))

abbrev pub edge_read : List Coordinates → ℕ → ℕ × (ℕ × Edge)
edge_read ring i = slice_index_or (placed_edges ring) i any_placed

-- no two of the first edges meet; none of the first ones meets a later one
abbrev pub NoneMeets : Spot → List Coordinates → ℕ → Type 0
NoneMeets ring points j = NoPair (single (edges_meeting (ring, points))) (placed_edges points) j

abbrev pub NoneMeetsWith : Spot → List Coordinates → ℕ → ℕ → Type 0
NoneMeetsWith ring points j i = NoneWith (single (edges_meeting (ring, points))) (placed_edges points) j i (edge_read points j)

-- what is read there
pub read-edge_at : (ps : List Coordinates) (i : ℕ) → i < length (edges_of ps) → edge_read ps i ≡ (0 + i, (get_or (edge_numbers ps) i 0, get_or (edges_of ps) i any_edge))
read-edge_at ps i h =
    let numbers : i < length (edge_numbers ps) = subst (λ n. i < n) (sym (numbers-counted ps)) h in
    let within : i < length (written_edges ps) = subst (λ n. i < n) (sym (written-counted ps)) h in
    get_or-enumerate_from 0 (written_edges ps) i any_placed within
    ∙ ap (λ (e : ℕ × Edge). (0 + i, e)) (get_or-zip (edge_numbers ps) (edges_of ps) i (0, any_edge) numbers h)

edges-twice : (ps : List Coordinates) → edges_of (tight ps) ≡ edges_of ps
edges-twice ps = ap edges_between (tight-twice ps)

pub within-tight : (ps : List Coordinates) (j : ℕ) → j < length (edges_of ps) → j + 1 < length (tight ps)
within-tight ps j h =
    let more = edges-more (tight ps) (tight-IsTight ps) (omega (arith, h, ap length (edges-twice ps))) in
    omega (arith, h, more, ap length (edges-twice ps))

meets-read : (ps : List Coordinates) (i j : ℕ) (p : Point) → i < j → j < length (edges_of ps) → do_edges_meet ps (edge_read ps i) (edge_read ps j) p ≡ pair_meets (tight ps) i j p
meets-read ps i j p o h =
    let E : ℕ → Edge = λ k. get_or (edges_of ps) k any_edge in
    ap (λ e. do_edges_meet ps e (edge_read ps j) p) (read-edge_at ps i (omega (arith, o, h)))
    ∙ ap (λ f. do_edges_meet ps (0 + i, (get_or (edge_numbers ps) i 0, E i)) f p) (read-edge_at ps j h)
    ∙ ap (λ c. meet_apart c (length (edges_of ps)) p (0 + i, E i) (0 + j, E j)) (sym (tight-closed ps))
    ∙ ap (λ es. meet_apart (is_closed (tight ps)) (length es) p (0 + i, get_or es i any_edge) (0 + j, get_or es j any_edge)) (sym (edges-twice ps))
    ∙ pair-is (tight ps) p i j (tight-IsTight ps) o (within-tight ps j h)

pub meets-from : (ring : Spot) (ps : List Coordinates) (i j : ℕ) → i < j → j < length (edges_of ps) → Applies (AtPoint (pair_meets (tight ps) i j)) →
    Applies (edges_meeting (ring, ps) (edge_read ps i, edge_read ps j)).condition
meets-from ring ps i j o h a = (a.0, a.1, meets-read ps i j a.0 o h ∙ a.2)

pub meets-to : (ring : Spot) (ps : List Coordinates) (i j : ℕ) → i < j → j < length (edges_of ps) → Applies (edges_meeting (ring, ps) (edge_read ps i, edge_read ps j)).condition →
    Applies (AtPoint (pair_meets (tight ps) i j))
meets-to ring ps i j o h a = (a.0, a.1, sym (meets-read ps i j a.0 o h) ∙ a.2)

-- ---- the edges that the code has
pub edges-counted_by : (es : List WrittenEdge) (ps : List Coordinates) → map written es ≡ written_edges ps → length es ≡ length (edges_of ps)
edges-counted_by es ps e = sym (length-map es written) ∙ ap length e ∙ written-counted ps

placed-counted : (es : List WrittenEdge) (ps : List Coordinates) → map written es ≡ written_edges ps → length (placed_edges ps) ≡ length es
placed-counted es ps e = length-enumerate_from 0 (written_edges ps) ∙ ap length (sym e) ∙ length-map es written

number-read : (es : List WrittenEdge) (ps : List Coordinates) (i : ℕ) (d : WrittenEdge) → map written es ≡ written_edges ps → i < length es → (get_or es i d).number ≡ (edge_read ps i).1.0
number-read es ps i d e h =
    let within : i < length (edges_of ps) = subst (λ n. i < n) (edges-counted_by es ps e) h in
    let numbers : i < length (edge_numbers ps) = subst (λ n. i < n) (sym (numbers-counted ps)) within in
    ap (λ (w : ℕ × Edge). w.0) (sym (get_or-map written es i d (0, any_edge) h) ∙ ap (λ ws. get_or ws i (0, any_edge)) e ∙ get_or-zip (edge_numbers ps) (edges_of ps) i (0, any_edge) numbers within)
    ∙ ap (λ (x : ℕ × (ℕ × Edge)). x.1.0) (sym (read-edge_at ps i within))

read-member : (ps : List Coordinates) (i : ℕ) → i < length (placed_edges ps) → edge_read ps i ≡ slice_index_or (placed_edges ps) i (edge_read ps i)
read-member ps i h = get_or_default (placed_edges ps) i any_placed (edge_read ps i) h

pub crossing-found : (ring : Spot) (ps : List Coordinates) (es : List WrittenEdge) (i j : ℕ) (d e : WrittenEdge) → map written es ≡ written_edges ps → i < j → j < length es →
    NoneMeets ring ps j → NoneMeetsWith ring ps j i → Applies (AtPoint (pair_meets (tight ps) i j)) →
    IsFirstPlace (crossings_of (ring, ps)) (Edges ring (get_or es i d).number (get_or es j e).number)
crossing-found ring ps es i j d e w o h n m a =
    let place : Place = Edges ring (get_or es i d).number (get_or es j e).number in
    let in_j : j < length (placed_edges ps) = subst (λ k. j < k) (sym (placed-counted es ps w)) h in
    let in_i : i < length (placed_edges ps) = omega (arith, in_j, o) in
    let edges : j < length (edges_of ps) = subst (λ k. j < k) (edges-counted_by es ps w) h in
    first-map (edges_meeting (ring, ps)) (pairs (placed_edges ps)) place
    (first-pair (single (edges_meeting (ring, ps))) (placed_edges ps) j i (edge_read ps i) (edge_read ps j) place in_j o (read-member ps i in_i) (read-member ps j in_j) n m
    (first-alone (edges_meeting (ring, ps) (edge_read ps i, edge_read ps j)) place (meets-from ring ps i j o edges a)
    (ap (λ k. Edges ring k (get_or es j e).number) (number-read es ps i d w (omega (arith, o, h))) ∙ ap (Edges ring (edge_read ps i).1.0) (number-read es ps j e w h))))

pub crossing-more : (ring : Spot) (ps : List Coordinates) (es : List WrittenEdge) (i j : ℕ) → map written es ≡ written_edges ps → i < j → j < length es →
    NoneMeetsWith ring ps j i → ¬ (Applies (AtPoint (pair_meets (tight ps) i j))) → NoneMeetsWith ring ps j (i + 1)
crossing-more ring ps es i j w o h m a =
    let in_j : j < length (placed_edges ps) = subst (λ k. j < k) (sym (placed-counted es ps w)) h in
    let edges : j < length (edges_of ps) = subst (λ k. j < k) (edges-counted_by es ps w) h in
    none_with-more (single (edges_meeting (ring, ps))) (placed_edges ps) j i (edge_read ps i) (edge_read ps j) in_j o (read-member ps i (omega (arith, in_j, o))) m
    (none-alone (edges_meeting (ring, ps) (edge_read ps i, edge_read ps j)) (λ x. a (meets-to ring ps i j o edges x)))

pub crossings-more : (ring : Spot) (ps : List Coordinates) (es : List WrittenEdge) (i j : ℕ) → map written es ≡ written_edges ps → j ≤ i → j < length es →
    NoneMeets ring ps j → NoneMeetsWith ring ps j i → NoneMeets ring ps (j + 1)
crossings-more ring ps es i j w o h n m =
    let in_j : j < length (placed_edges ps) = subst (λ k. j < k) (sym (placed-counted es ps w)) h in
    no_pair-more (single (edges_meeting (ring, ps))) (placed_edges ps) j i (edge_read ps j) in_j (read-member ps j in_j) o n m

pub crossings-end : (ring : Spot) (ps : List Coordinates) (es : List WrittenEdge) (j : ℕ) → map written es ≡ written_edges ps → length es ≤ j → NoneMeets ring ps j → NoneIsAtFault (crossings_of (ring, ps))
crossings-end ring ps es j w h n =
    none-map (edges_meeting (ring, ps)) (pairs (placed_edges ps))
    (no_pair-all (single (edges_meeting (ring, ps))) (placed_edges ps) j (subst (λ k. k ≤ j) (sym (placed-counted es ps w)) h) n)

-- an edge that meets none of the earlier ones
one-more : (n : ℕ) → n + 1 ≡ suc n
one-more n = omega arith

pub none-earlier : (ring : Spot) (ps : List Coordinates) (es : List WrittenEdge) (j n : ℕ) → map written es ≡ written_edges ps → j < length es →
    ((i : ℕ) → i < j → ¬ (Applies (AtPoint (pair_meets (tight ps) i j)))) → n ≤ j → NoneMeetsWith ring ps j n
none-earlier ring ps es j zero w h apart l = tt
none-earlier ring ps es j (suc n) w h apart l =
    subst (NoneMeetsWith ring ps j) (one-more n)
    (crossing-more ring ps es n j w (omega (arith, l)) h (none-earlier ring ps es j n w h apart (omega (arith, l))) (apart n (omega (arith, l))))

-- ---- boxes of edges that meet
abbrev ends_between : List Coordinates → List (Coordinates × Coordinates)
ends_between ps = zip ps (drop 1 ps)

box-meets : (ps : List Coordinates) (i j : ℕ) → i < j → j + 1 < length ps → Applies (AtPoint (pair_meets ps i j)) →
    IsTrue (extents_meet (extent_at_edge (ends_between ps) i) (extent_at_edge (ends_between ps) j))
box-meets ps i j o h (p, is, m) =
    let both = and_parts (on_edge (edge_at ps i) p) (on_edge (edge_at ps j) p) (and_parts (on_both (edge_at ps i) (edge_at ps j) p) (not (is_joint (is_closed ps) (length (edges_of ps)) (i, edge_at ps i) (j, edge_at ps j) p)) m).0 in
    subst (λ e. IsTrue (extents_meet (extent_of_edge e) (extent_at_edge (ends_between ps) j))) (sym (ends-are ps i (omega (arith, o, h))))
    (subst (λ e. IsTrue (extents_meet (extent_of_edge (point_of ps i, point_of ps (i + 1))) (extent_of_edge e))) (sym (ends-are ps j h))
    (shared-near (edge_at ps j) (edge_at ps i) p is (and_from (on_edge (edge_at ps j) p) (on_edge (edge_at ps i) p) both.1 both.0)))

abbrev any_ends : Coordinates × Coordinates
any_ends = (record { x = pos 0; y = pos 0 }, record { x = pos 0; y = pos 0 })

-- where a search among the edges near the box of one finds none that stands before it and meets it
pub no-earlier : (ps : List Coordinates) (es read : List (Coordinates × Coordinates)) (j : ℕ) (own : Coordinates × Coordinates) (first box : Extent) (outcome : Outcome) → es ≡ ends_between ps →
    j + 1 < length ps → read ≡ es → own ≡ get_or read j own → first ≡ extent_at own.0 → box ≡ extent_with first own.1 →
    Answers (HasNear es box 0 (length es) (λ i. (i < j) × Applies (AtPoint (pair_meets ps i j)))) outcome → outcome ≡ Absent → (i : ℕ) → i < j → ¬ (Applies (AtPoint (pair_meets ps i j)))
no-earlier ps es read j own first box outcome is h same here at with answers absent i o meets =
    let ends = here ∙ ap (λ xs. get_or xs j own) (same ∙ is) ∙ get_or_default (ends_between ps) j own any_ends (ends-within ps j h) in
    let boxed = with ∙ ap (λ e. extent_with e own.1) at ∙ ap extent_of_edge ends in
    subst (Answers (HasNear es box 0 (length es) (λ i. (i < j) × Applies (AtPoint (pair_meets ps i j))))) absent answers
    (record {
      edge = i;
      behind = omega arith;
      before = subst (λ xs. i < length xs) (sym is) (ends-within ps i (omega (arith, o, h)));
      near =
          subst (λ b. IsTrue (extents_meet (extent_at_edge es i) b)) (sym boxed)
          (subst (λ xs. IsTrue (extents_meet (extent_at_edge xs i) (extent_at_edge (ends_between ps) j))) (sym is) (box-meets ps i j o h meets));
      passes = (o, meets);
    })
