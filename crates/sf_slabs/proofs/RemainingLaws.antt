-- The cells that are left, column by column: from each event on to the next one. What is there at the start of a sweep, and which vertices lie in the next column.
use Rattle.std.proofs.Common.{◌≡◌, refl, ap, sym, subst, ◌∙◌, ℕ, zero, suc, ◌+◌, ◌<◌, ℤ, pos, ◌*ℤ◌, ◌≤ℤ◌, lit<, arith, Bool, true, false, cond, ◌&&◌, ◌||◌, List, [], ◌∷◌, ◌++◌, length, take, drop, Option, Some, None, inl, inr}
use Rattle.std.specs.Prelude.{if◌then◌else◌, int_le, int_lt}
use Rattle.std.specs.List.{AllByRecursion, Contains, flat_map, prefix_len, sum_by}
use Rattle.std.specs.List.Sorted.{IsPermutation, IsSortedBy}
use Rattle.std.specs.Ordering.{int_eq}
use Rattle.std.proofs.lemmas.Bool.{cases_Bool}
use Rattle.std.proofs.lemmas.Int.{ints}
use Rattle.std.proofs.lemmas.List.Elements.{All-contains_itself, All-from_recursion, recursion_from_All}
use Rattle.std.proofs.lemmas.List.Sorted.{All-permutation, sum_by-IsPermutation}
use Rattle.std.proofs.lemmas.List.Sums.{sum_by-cons}
use Rattle.sf_grid.specs.Fraction.{Fraction, IsFraction, fraction_eq, fraction_le, fraction_lt, middle, one_less, one_more, whole}
use Rattle.sf_grid.specs.Edge.{edge_between, is_vertical, left_end, right_end}
use Rattle.sf_grid.proofs.CallerLemmas.{Same, eq_from_test, test_from_le}
use Rattle.sf_strips.specs.declared.piece.Piece.{Piece}
use Rattle.sf_strips.specs.declared.piece.Piece.TheVariants.{Dot, Edge}
use Rattle.sf_cells.specs.declared.cell.Cell.{Cell}
use Rattle.sf_strips.specs.declared.vertex.Role.TheVariants.{Begin, Bottom, End, Top}
use Rattle.sf_strips.specs.declared.vertex.Vertex.{Vertex}
use Rattle.sf_cells.specs.Cells.{cells, numbers_from}
use Rattle.sf_cells.specs.Pieces.{ends_of}
use Rattle.sf_cells.specs.Samples.{Mark, crossings_of, events, listed, marks, marks_from, sorted_by, unlisted}
use Rattle.sf_slabs.specs.Sweeps.{AreVertices, InOrder, InOrderFrom, IsColumnOf, IsComing, IsFront, cells_in, comes_to, passes}
use Rattle.sf_slabs.proofs.Ahead.{IsAhead, right_of}
use Rattle.sf_strips.specs.Slanted.{rightward_edge}
use Rattle.sf_strips.specs.Vertices.{IsVertexIn, IsVertexOf, all_vertices, in_column, lower_end, piece_at, upper_end, vertex, vertex_before, vertices_of}
use Rattle.sf_slabs.proofs.CellLaws.{SameMark}
use Rattle.sf_slabs.proofs.ColumnLaws.{cells-columns, column_cells-heights, event_places, falling_heights, flat_map-Pairs}
use Rattle.sf_slabs.proofs.EventLaws.{event_places-numbers}
use Rattle.sf_slabs.proofs.EndLaws.{Each-left, Later, all_vertices-ends, le_of_not_lt, no_vertices, passes-places, whole-number}
use Rattle.sf_slabs.proofs.FollowLaws.{le_lt-places, le_of_lt, lt_le-places, not_le-lt}
use Rattle.sf_slabs.proofs.HeightsLaws.{heights_in, heights_in-numbers}
use Rattle.sf_slabs.proofs.LevelHeightsLaws.{vertices_each}
use Rattle.sf_slabs.proofs.LevelLaws.{one_less-below}
use Rattle.sf_slabs.proofs.LeveledLaws.{InOrder-rest, drop-each_vertex, drop-in_order}
use Rattle.sf_slabs.proofs.MarkLaws.{marks-same, middle-number, middle-same, one_less-step, one_more-step}
use Rattle.sf_slabs.proofs.NextLaws.{IsLast, IsNext}
use Rattle.sf_slabs.proofs.NumberLaws.{Among, Among-sorted_by, Each-before, Follow-rest, IsListing, IsOrder, Numbers, Pairs, before_among, falling_order, rising_order}
use Rattle.sf_strips.proofs.CallerLemmas.{sorted-first, sorted-rest}
use Rattle.sf_slabs.proofs.SampleLaws.{Each-sorted_by, Follow, Follow-sorted_by, FollowFrom}
use Rattle.sf_slabs.proofs.WeightLaws.{AreVertices-chosen, chosen-drop_vertices, chosen-take_vertices, sum_by-agree}
use Rattle.sf_slabs.proofs.EachLaws.{each-append, each-both, each-map, each-parts}

-- ---- the definitions
-- those of a list that are right of x
abbrev pub later : Fraction → List Fraction → List Fraction
later x [] = []
later x (q ∷ qs) = if fraction_lt x q then q ∷ later x qs else later x qs

-- the cells from the column y on: those of its column, of the slab behind it, and so on
abbrev pub remaining : List Piece → Option Fraction → List Cell
remaining pieces None = []
remaining pieces (Some y) = flat_map (cells_in pieces) (marks_from one_more y (later y (events pieces)))

-- a place left of all numbers of a list that rises
abbrev pub ahead_of : List Fraction → Fraction
ahead_of [] = whole (pos 0)
ahead_of (q ∷ qs) = one_less q

-- a place left of all events
abbrev pub ahead_of_all : List Piece → Fraction
ahead_of_all pieces = ahead_of (events pieces)

-- how many columns are left: none, or y and the events right of it
abbrev pub left : List Piece → Option Fraction → ℕ
left pieces None = 0
left pieces (Some y) = 1 + length (later y (events pieces))

-- ---- the same column has the same cells
-- each of a list stands in it
each_among : (qs : List Fraction) → AllByRecursion (Among qs) qs
each_among [] = tt
each_among (q ∷ qs) = (inl refl, each-map (Among qs) (Among (q ∷ qs)) qs (λ p a. inr a) (each_among qs))

-- a sorted list has the numbers of the list that was sorted
sorted_by-itself : (before : Fraction → Fraction → Bool) → IsOrder before → (qs : List Fraction) → Numbers qs → IsListing before qs (sorted_by before qs)
sorted_by-itself before o qs n =
    record {
      numbers = Each-sorted_by IsFraction before qs n;
      in_order = Follow-sorted_by before qs;
      has_all = each-map (Among qs) (Among (sorted_by before qs)) qs (λ p a. Among-sorted_by before o qs p n a) (each_among qs);
      has_no_other = Each-sorted_by (Among qs) before qs (each_among qs);
    }

-- marks at one place, both listed or both not, have the same cells
pub cells_in-same : (pieces : List Piece) (m n : Mark) → SameMark m n → cells_in pieces m ≡ cells_in pieces n
cells_in-same pieces m n e =
    column_cells-heights pieces m n (falling_heights pieces n.place) e
    (sorted_by-itself (λ q r. fraction_lt r q) falling_order (heights_in pieces n.place) (heights_in-numbers pieces n.place e.second))

-- ---- those of a list that are right of x
-- by cases on the first one
later-pass : (x q : Fraction) (qs : List Fraction) → fraction_lt x q ≡ true → later x (q ∷ qs) ≡ q ∷ later x qs
later-pass x q qs h = ap (λ b. if b then q ∷ later x qs else later x qs) h

later-skip : (x q : Fraction) (qs : List Fraction) → fraction_lt x q ≡ false → later x (q ∷ qs) ≡ later x qs
later-skip x q qs h = ap (λ b. if b then q ∷ later x qs else later x qs) h

-- where all are right of x, these are all
later-all : (x : Fraction) (qs : List Fraction) → AllByRecursion (λ q. fraction_lt x q ≡ true) qs → later x qs ≡ qs
later-all x [] h = refl
later-all x (q ∷ qs) h = later-pass x q qs h.0 ∙ ap (λ rs. q ∷ rs) (later-all x qs h.1)

-- where none is, there are none
later-none : (x : Fraction) (qs : List Fraction) → IsLast qs x → later x qs ≡ []
later-none x [] h = refl
later-none x (q ∷ qs) h = later-skip x q qs (refuted (fraction_lt x q) h.0) ∙ later-none x qs h.1
  where
    refuted : (b : Bool) → (b ≡ true → ⊥) → b ≡ false
    refuted true f = absurd (f refl)
    refuted false f = refl

-- what is at most x isn't right of x
not_later : (x q : Fraction) → fraction_le q x ≡ true → fraction_lt x q ≡ false
not_later x q h =
    elim (cases_Bool (fraction_lt x q)) [ inl t ↦ absurd (not_le-lt q x h t) | inr f ↦ f ]

-- one number written in two ways is at most itself
le_of_same : (q r : Fraction) → Same q r → fraction_le q r ≡ true
le_of_same q r e = test_from_le _ _ (at_most (q.num *ℤ pos r.den) (r.num *ℤ pos q.den) e)
  where
    at_most : (a b : ℤ) → a ≡ b → a ≤ℤ b
    at_most a b f = omega (arith, ints)

-- of a list that begins at x itself, the rest is right of x
later-rest : (x q : Fraction) (qs : List Fraction) → IsFraction x → IsFraction q → Numbers qs → FollowFrom fraction_lt q qs → Same q x → later x (q ∷ qs) ≡ qs
later-rest x q qs i j n f e =
    later-skip x q qs (not_later x q (le_of_same q x e)) ∙ later-all x qs (all_later qs n (Each-before fraction_lt rising_order q qs j n f))
  where
    all_later : (rs : List Fraction) → Numbers rs → AllByRecursion (λ r. fraction_lt q r ≡ true) rs → AllByRecursion (λ r. fraction_lt x r ≡ true) rs
    all_later [] m h = tt
    all_later (r ∷ rs) m h = (rising_order.same_first x q r i j m.0 (sym e) h.0, all_later rs m.1 h.1)

-- y is the first one right of x, and those right of y are the others
pub record LaterNext (x y : Fraction) (qs : List Fraction) : Type 0 where
  pub first : Fraction
  pub rest : List Fraction
  pub numbers : Numbers (first ∷ rest)
  pub same : Same first y
  pub from : later x qs ≡ first ∷ rest
  pub next : later y qs ≡ rest

-- the next number of a rising list, and what is behind it
later-next : (x y : Fraction) (qs : List Fraction) → IsFraction x → IsFraction y → Numbers qs → Follow fraction_lt qs → fraction_lt x y ≡ true →
    Among qs y → AllByRecursion (λ q. fraction_lt x q ≡ true → fraction_le y q ≡ true) qs → LaterNext x y qs
later-next x y [] i j n f h a l = absurd a
later-next x y (q ∷ qs) i j n f h a l =
    elim (cases_Bool (fraction_lt x q)) [
      | inl t ↦ here t
      | inr s ↦ further s (λ b. later-next x y qs i j n.1 (Follow-rest fraction_lt q qs f) h b l.1)
    ]
  where
    after : AllByRecursion (λ r. fraction_lt q r ≡ true) qs
    after = Each-before fraction_lt rising_order q qs n.0 n.1 f

    here : fraction_lt x q ≡ true → LaterNext x y (q ∷ qs)
    here t =
        let same : Same q y = elim a [ inl k ↦ sym k | inr k ↦ absurd (not_le-lt y q (l.0 t) (before_among fraction_lt rising_order q y qs n.0 j n.1 after k)) ] in
        record {
          first = q;
          rest = qs;
          numbers = n;
          same = same;
          from = later-pass x q qs t ∙ ap (λ rs. q ∷ rs) (later-all x qs (all_later qs n.1 after));
          next = later-rest y q qs j n.0 n.1 f same;
        }
      where
        all_later : (rs : List Fraction) → Numbers rs → AllByRecursion (λ r. fraction_lt q r ≡ true) rs → AllByRecursion (λ r. fraction_lt x r ≡ true) rs
        all_later [] m k = tt
        all_later (r ∷ rs) m k = (rising_order.trans x q r i n.0 m.0 t k.0, all_later rs m.1 k.1)

    further : fraction_lt x q ≡ false → (Among qs y → LaterNext x y qs) → LaterNext x y (q ∷ qs)
    further s tail =
        let at_most : fraction_le q x ≡ true = le_of_not_lt x q s in
        let low : fraction_lt q y ≡ true = le_lt-places q x y n.0 i j at_most h in
        let a' : Among qs y = elim a [ inl k ↦ absurd (rising_order.apart q y (sym k) low) | inr k ↦ k ] in
        let k = tail a' in
        record {
          first = k.first;
          rest = k.rest;
          numbers = k.numbers;
          same = k.same;
          from = later-skip x q qs s ∙ k.from;
          next = later-skip y q qs (not_later y q (le_of_lt q y low)) ∙ k.next;
        }

-- ---- the events
-- the events are numbers, and rise
events-numbers : (pieces : List Piece) → Numbers (events pieces)
events-numbers pieces = Each-sorted_by IsFraction fraction_lt (event_places pieces) (event_places-numbers pieces)

events-follow : (pieces : List Piece) → Follow fraction_lt (events pieces)
events-follow pieces = Follow-sorted_by fraction_lt (event_places pieces)

-- the next one of the places is the next event
events-next : (pieces : List Piece) (x y : Fraction) → IsFraction x → IsNext (event_places pieces) x y → LaterNext x y (events pieces)
events-next pieces x y i h =
    later-next x y (events pieces) i h.number (events-numbers pieces) (events-follow pieces) h.above
    (Among-sorted_by fraction_lt rising_order (event_places pieces) y (event_places-numbers pieces) h.among)
    (Each-sorted_by (λ q. fraction_lt x q ≡ true → fraction_le y q ≡ true) fraction_lt (event_places pieces) h.least)

-- behind the last of the places there is no event
events-last : (pieces : List Piece) (x : Fraction) → IsLast (event_places pieces) x → later x (events pieces) ≡ []
events-last pieces x h = later-none x (events pieces) (Each-sorted_by (λ q. fraction_lt x q ≡ true → ⊥) fraction_lt (event_places pieces) h)

-- ---- the place left of all events
-- it is a number
pub ahead-number : (pieces : List Piece) → IsFraction (ahead_of_all pieces)
ahead-number pieces = by_list (events pieces) (events-numbers pieces)
  where
    by_list : (qs : List Fraction) → Numbers qs → IsFraction (ahead_of qs)
    by_list [] n = record { positive = lit< tt }
    by_list (q ∷ qs) n = record { positive = n.0.positive }

-- it is left of all numbers of a list that rises, and so of all event places
ahead-each : (qs : List Fraction) → Numbers qs → Follow fraction_lt qs → AllByRecursion (λ q. fraction_lt (ahead_of qs) q ≡ true) qs
ahead-each [] n f = tt
ahead-each (q ∷ qs) n f = (below, all_later qs n.1 (Each-before fraction_lt rising_order q qs n.0 n.1 f))
  where
    below : fraction_lt (one_less q) q ≡ true
    below = one_less-below q n.0

    all_later : (rs : List Fraction) → Numbers rs → AllByRecursion (λ r. fraction_lt q r ≡ true) rs → AllByRecursion (λ r. fraction_lt (one_less q) r ≡ true) rs
    all_later [] m k = tt
    all_later (r ∷ rs) m k = (rising_order.trans (one_less q) q r (record { positive = n.0.positive }) n.0 m.0 below k.0, all_later rs m.1 k.1)

pub ahead-before : (pieces : List Piece) → AllByRecursion (λ q. fraction_lt (ahead_of_all pieces) q ≡ true) (event_places pieces)
ahead-before pieces = each_of (event_places pieces) (event_places-numbers pieces) (all_listed (event_places-numbers pieces))
  where
    all_listed : Numbers (event_places pieces) → AllByRecursion (Among (events pieces)) (event_places pieces)
    all_listed n = (sorted_by-itself fraction_lt rising_order (event_places pieces) n).has_all

    below_among : (p : Fraction) (rs : List Fraction) → IsFraction p → Numbers rs → AllByRecursion (λ q. fraction_lt (ahead_of_all pieces) q ≡ true) rs →
        Among rs p → fraction_lt (ahead_of_all pieces) p ≡ true
    below_among p [] i m k a = absurd a
    below_among p (r ∷ rs) i m k a =
        elim a [
          | inl e ↦ rising_order.same_second (ahead_of_all pieces) r p (ahead-number pieces) m.0 i k.0 (sym e)
          | inr b ↦ below_among p rs i m.1 k.1 b
        ]

    each_of : (ps : List Fraction) → Numbers ps → AllByRecursion (Among (events pieces)) ps → AllByRecursion (λ q. fraction_lt (ahead_of_all pieces) q ≡ true) ps
    each_of [] m k = tt
    each_of (p ∷ ps) m k =
        (below_among p (events pieces) m.0 (events-numbers pieces) (ahead-each (events pieces) (events-numbers pieces) (events-follow pieces)) k.0, each_of ps m.1 k.1)

-- ---- the cells from the left
-- the same marks have the same cells
marks-cells : (pieces : List Piece) (q r : Fraction) (qs rs : List Fraction) → Numbers (q ∷ qs) → Numbers (r ∷ rs) → Same q r → Pairs Same qs rs →
    flat_map (cells_in pieces) (marks_from one_more q qs) ≡ flat_map (cells_in pieces) (marks_from one_more r rs)
marks-cells pieces q r qs rs n m e h =
    flat_map-Pairs SameMark (cells_in pieces) (cells_in pieces) (marks_from one_more q qs) (marks_from one_more r rs) (cells_in-same pieces)
    (marks-same one_less one_more one_less-step one_more-step (q ∷ qs) (r ∷ rs) n m (e, h)).1

-- each number is the same as itself
Same-all : (qs : List Fraction) → Pairs Same qs qs
Same-all [] = tt
Same-all (q ∷ qs) = (refl, Same-all qs)

-- all cells: those of the column left of all events, and those from the first event on
pub cells-first : (pieces : List Piece) (y : Fraction) → IsNext (event_places pieces) (ahead_of_all pieces) y →
    cells pieces ≡ cells_in pieces (unlisted (ahead_of_all pieces)) ++ remaining pieces (Some y)
cells-first pieces y h =
    cells-columns pieces
    ∙ from_list (events pieces) (events-numbers pieces) (ahead-each (events pieces) (events-numbers pieces) (events-follow pieces))
    (events-next pieces (ahead_of_all pieces) y (ahead-number pieces) h)
  where
    first_is : (q r : Fraction) (qs rs : List Fraction) → ◌≡◌ {A = List Fraction} (q ∷ qs) (r ∷ rs) → Same r y → Same q y
    first_is q r qs rs e same = rw (headed q r qs rs e) same
      where
        headed : (q r : Fraction) (qs rs : List Fraction) → ◌≡◌ {A = List Fraction} (q ∷ qs) (r ∷ rs) → q ≡ r
        headed q r qs rs e = cc

    rest_is : (q r : Fraction) (qs rs : List Fraction) → ◌≡◌ {A = List Fraction} (q ∷ qs) (r ∷ rs) → qs ≡ rs
    rest_is q r qs rs e = cc

    from_list : (qs : List Fraction) → Numbers qs → AllByRecursion (λ q. fraction_lt (ahead_of qs) q ≡ true) qs → LaterNext (ahead_of qs) y qs →
        flat_map (cells_in pieces) (marks one_less one_more qs)
        ≡ cells_in pieces (unlisted (ahead_of qs)) ++ flat_map (cells_in pieces) (marks_from one_more y (later y qs))
    from_list [] n k l = absurd (none l.first l.rest l.from)
      where
        none : (r : Fraction) (rs : List Fraction) → ◌≡◌ {A = List Fraction} [] (r ∷ rs) → ⊥
        none r rs e = cc
    from_list (q ∷ qs) n k l =
        let all : ◌≡◌ {A = List Fraction} (q ∷ qs) (l.first ∷ l.rest) = sym (later-all (one_less q) (q ∷ qs) k) ∙ l.from in
        ap (λ cs. cells_in pieces (unlisted (one_less q)) ++ cs)
        (marks-cells pieces q y qs qs n (h.number, n.1) (first_is q l.first qs l.rest all l.same) (Same-all qs)
        ∙ ap (λ rs. flat_map (cells_in pieces) (marks_from one_more y rs)) (rest_is q l.first qs l.rest all ∙ sym l.next))

-- where there is no event, one column has all cells
pub cells-none : (pieces : List Piece) → IsLast (event_places pieces) (ahead_of_all pieces) →
    cells pieces ≡ cells_in pieces (unlisted (ahead_of_all pieces)) ++ remaining pieces None
cells-none pieces h =
    cells-columns pieces
    ∙ from_list (events pieces) (Each-sorted_by (λ q. fraction_lt (ahead_of_all pieces) q ≡ true → ⊥) fraction_lt (event_places pieces) h) (ahead-each (events pieces) (events-numbers pieces) (events-follow pieces))
  where
    from_list : (qs : List Fraction) → IsLast qs (ahead_of qs) → AllByRecursion (λ q. fraction_lt (ahead_of qs) q ≡ true) qs →
        flat_map (cells_in pieces) (marks one_less one_more qs) ≡ cells_in pieces (unlisted (ahead_of qs)) ++ []
    from_list [] l k = refl
    from_list (q ∷ qs) l k = absurd (l.0 k.0)

-- ---- from an event on
-- the cells of its column, those of the slab up to the next event, and those from there on
pub remaining-next : (pieces : List Piece) (y y' : Fraction) → IsFraction y → IsNext (event_places pieces) y y' →
    remaining pieces (Some y) ≡ cells_in pieces (listed y) ++ (cells_in pieces (unlisted (middle y y')) ++ remaining pieces (Some y'))
remaining-next pieces y y' i h =
    let k = events-next pieces y y' i h in
    ap (λ qs. flat_map (cells_in pieces) (marks_from one_more y qs)) k.from
    ∙ ap (λ cs. cells_in pieces (listed y) ++ (cs ++ flat_map (cells_in pieces) (marks_from one_more k.first k.rest)))
    (cells_in-same pieces (unlisted (middle y k.first)) (unlisted (middle y y'))
    (record {
      place = middle-same y y k.first y' refl k.same;
      listed = refl;
      first = middle-number y k.first i k.numbers.0;
      second = middle-number y y' i h.number;
    }))
    ∙ ap (λ cs. cells_in pieces (listed y) ++ (cells_in pieces (unlisted (middle y y')) ++ cs))
    (marks-cells pieces k.first y' k.rest k.rest k.numbers (h.number, k.numbers.1) k.same (Same-all k.rest)
    ∙ ap (λ qs. flat_map (cells_in pieces) (marks_from one_more y' qs)) (sym k.next))

-- from the last event on: the cells of its column, and those of the slab behind it
pub remaining-last : (pieces : List Piece) (y : Fraction) → IsLast (event_places pieces) y →
    remaining pieces (Some y) ≡ cells_in pieces (listed y) ++ (cells_in pieces (unlisted (one_more y)) ++ remaining pieces None)
remaining-last pieces y h = ap (λ qs. flat_map (cells_in pieces) (marks_from one_more y qs)) (events-last pieces y h)

-- ---- from one event to the next fewer are left
pub left-next : (pieces : List Piece) (y y' : Fraction) → IsFraction y → IsNext (event_places pieces) y y' → left pieces (Some y') < left pieces (Some y)
left-next pieces y y' i h =
    let k = events-next pieces y y' i h in
    fewer (later y' (events pieces)) (later y (events pieces)) k.rest k.first k.next k.from
  where
    fewer : (qs rs ts : List Fraction) (t : Fraction) → qs ≡ ts → rs ≡ t ∷ ts → 1 + length qs < 1 + length rs
    fewer qs rs ts t e f = rw e (rw f (omega arith))

-- ---- the start of a sweep: left of all events there is nothing
-- what holds of all ends holds of each piece's
pub ends-each : (P : Fraction → Type 0) (ps : List Piece) → AllByRecursion P (flat_map ends_of ps) → AllByRecursion (λ p. AllByRecursion P (ends_of p)) ps
ends-each P [] h = tt
ends-each P (p ∷ ps) h = let parts = each-parts P (ends_of p) (flat_map ends_of ps) h in (parts.0, ends-each P ps parts.1)

-- what holds of all event places holds of each piece's ends
pub event_places-ends : (P : Fraction → Type 0) (pieces : List Piece) → AllByRecursion P (event_places pieces) → AllByRecursion (λ p. AllByRecursion P (ends_of p)) pieces
event_places-ends P pieces h =
    ends-each P pieces (each-parts P (flat_map ends_of pieces) (flat_map (λ p. flat_map (crossings_of p) pieces) pieces) h).0

-- all pieces begin right of x
abbrev AreRight : List Piece → Fraction → Type 0
AreRight pieces x = AllByRecursion (λ p. AllByRecursion (λ q. fraction_lt x q ≡ true) (ends_of p)) pieces

start-right : (pieces : List Piece) → AreRight pieces (ahead_of_all pieces)
start-right pieces = event_places-ends (λ q. fraction_lt (ahead_of_all pieces) q ≡ true) pieces (ahead-before pieces)

-- a conjunction whose first part fails
failed_first : (b c : Bool) → b ≡ false → (b && c) ≡ false
failed_first true c h = cc
failed_first false c h = refl

-- what is right of x isn't at most x
not_at_most : (x q : Fraction) → fraction_lt x q ≡ true → fraction_le q x ≡ false
not_at_most x q h =
    elim (cases_Bool (fraction_le q x)) [ inl t ↦ absurd (not_le-lt q x t h) | inr f ↦ f ]

-- no edge goes on from x or comes to it
right-passes : (x : Fraction) (p : Piece) → AllByRecursion (λ q. fraction_lt x q ≡ true) (ends_of p) → passes x p ≡ false
right-passes x (Edge a b) h =
    passes-places x a b
    ∙ failed_first (fraction_le (whole (left_end (edge_between a b)).x) x) (fraction_lt x (whole (right_end (edge_between a b)).x))
    (not_at_most x (whole (left_end (edge_between a b)).x) (Each-left (λ q. fraction_lt x q ≡ true) a b h))
right-passes x (Dot a) h = refl

right-comes : (x : Fraction) (p : Piece) → AllByRecursion (λ q. fraction_lt x q ≡ true) (ends_of p) → comes_to x p ≡ false
right-comes x (Edge a b) h =
    failed_first (fraction_lt (whole (left_end (edge_between a b)).x) x) (fraction_le x (whole (right_end (edge_between a b)).x))
    (not_later (whole (left_end (edge_between a b)).x) x (le_of_lt x (whole (left_end (edge_between a b)).x) (Each-left (λ q. fraction_lt x q ≡ true) a b h)))
right-comes x (Dot a) h = refl

-- a test that fails for all pieces that are right of x gives no numbers
right-none : (x : Fraction) (t : Piece → Bool) (k : ℕ) (ps : List Piece) → ((p : Piece) → AllByRecursion (λ q. fraction_lt x q ≡ true) (ends_of p) → t p ≡ false) → AreRight ps x →
    numbers_from k t ps ≡ []
right-none x t k [] f h = refl
right-none x t k (p ∷ ps) f h =
    ap (λ b. if b then k ∷ numbers_from (k + 1) t ps else numbers_from (k + 1) t ps) (f p h.0) ∙ right-none x t (k + 1) ps f h.1

-- no edge is active at the start
pub start-front : (pieces : List Piece) → IsFront pieces (ahead_of_all pieces) [] []
start-front pieces =
    record {
      place = ahead-number pieces;
      entries = tt;
      active = λ weight. ap (sum_by weight) (sym (right-none (ahead_of_all pieces) (passes (ahead_of_all pieces)) 0 pieces (right-passes (ahead_of_all pieces)) (start-right pieces)));
      descend = tt;
      contacts = refl;
    }

-- none comes to the start
pub start-coming : (pieces : List Piece) → IsComing pieces (ahead_of_all pieces) None [] []
start-coming pieces =
    record {
      place = ahead-number pieces;
      entries = tt;
      coming = λ weight. ap (sum_by weight) (sym (right-none (ahead_of_all pieces) (comes_to (ahead_of_all pieces)) 0 pieces (right-comes (ahead_of_all pieces)) (start-right pieces)));
      steps = refl;
    }

-- what is right of x isn't in the column x
apart_right : (x q : Fraction) → fraction_lt x q ≡ true → fraction_eq q x ≡ false
apart_right x q h =
    elim (cases_Bool (fraction_eq q x)) [
      | inl t ↦ absurd (rising_order.apart x q (sym (eq_from_test (q.num *ℤ pos x.den) (x.num *ℤ pos q.den) t)) h)
      | inr f ↦ f
    ]

-- all vertices are right of the start
start-vertices : (pieces : List Piece) → AllByRecursion (λ v. right_of (ahead_of_all pieces) v ≡ true) (all_vertices 0 pieces)
start-vertices pieces = all_vertices-ends (λ q. fraction_lt (ahead_of_all pieces) q ≡ true) 0 pieces (start-right pieces)

-- no vertex is in the column of the start
pub start-column : (pieces : List Piece) → IsColumnOf pieces (ahead_of_all pieces) []
start-column pieces =
    record {
      are =
          no_vertices pieces (in_column (ahead_of_all pieces))
          (each-map (λ v. right_of (ahead_of_all pieces) v ≡ true) (λ v. in_column (ahead_of_all pieces) v ≡ false) (all_vertices 0 pieces)
          (λ v h. apart_right (ahead_of_all pieces) (whole v.at.x) h)
          (start-vertices pieces));
      each = tt;
      here = tt;
      in_order = tt;
    }

-- ---- all vertices, in order, are ahead of the start
-- a vertex of the piece with the number k is one of the vertices that this piece has
vertices_of-own : (k : ℕ) (p : Piece) → AllByRecursion (λ v. v.piece ≡ k) (vertices_of k p)
vertices_of-own k (Dot a) = (refl, tt)
vertices_of-own k (Edge a b) = by_test (is_vertical (edge_between a b))
  where
    by_test : (t : Bool) → AllByRecursion (λ v. v.piece ≡ k)
        (if t
        then vertex (upper_end (edge_between a b)) Top k ∷ vertex (lower_end (edge_between a b)) Bottom k ∷ []
        else vertex (left_end (edge_between a b)) (Begin (rightward_edge (edge_between a b))) k ∷ vertex (right_end (edge_between a b)) End k ∷ [])
    by_test true = (refl, (refl, tt))
    by_test false = (refl, (refl, tt))

-- the vertices of the pieces from the number k on are vertices of the pieces
all_vertices-from : (pieces : List Piece) (k : ℕ) (ps : List Piece) → ((i : ℕ) → piece_at pieces (k + i) ≡ piece_at ps i) →
    AllByRecursion (IsVertexOf pieces) (all_vertices k ps)
all_vertices-from pieces k [] h = tt
all_vertices-from pieces k (p ∷ ps) h =
    each-append (IsVertexOf pieces) (vertices_of k p) (all_vertices (k + 1) ps)
    (each-both (λ v. v.piece ≡ k) (Contains (vertices_of k p)) (IsVertexOf pieces) (vertices_of k p) own (vertices_of-own k p)
    (recursion_from_All (Contains (vertices_of k p)) (vertices_of k p) (All-contains_itself (vertices_of k p))))
    (all_vertices-from pieces (k + 1) ps (λ i. ap (piece_at pieces) (shifted k i) ∙ h (suc i)))
  where
    shifted : (m n : ℕ) → (m + 1) + n ≡ m + suc n
    shifted m n = omega arith

    plain : (m : ℕ) → m ≡ m + 0
    plain m = omega arith

    own : (v : Vertex) → v.piece ≡ k → Contains (vertices_of k p) v → IsVertexOf pieces v
    own v e c =
        subst (λ o. IsVertexIn o v) (sym (ap (piece_at pieces) (e ∙ plain k) ∙ h 0)) (subst (λ n. Contains (vertices_of n p) v) (sym e) c)

-- all vertices are vertices of the pieces
pub all_vertices-are : (pieces : List Piece) → AllByRecursion (IsVertexOf pieces) (all_vertices 0 pieces)
all_vertices-are pieces = all_vertices-from pieces 0 pieces (λ i. ap (piece_at pieces) (plain i))
  where
    plain : (n : ℕ) → 0 + n ≡ n
    plain n = omega arith

-- sorted vertices are in order
sorted_from : (u : Vertex) (vs : List Vertex) → IsSortedBy vertex_before (u ∷ vs) → InOrderFrom u vs
sorted_from u [] h = tt
sorted_from u (v ∷ vs) h = (sorted-first vertex_before u v vs h, sorted_from v vs (sorted-rest vertex_before u (v ∷ vs) h))

pub sorted-in_order : (vs : List Vertex) → IsSortedBy vertex_before vs → InOrder vs
sorted-in_order [] h = tt
sorted-in_order (v ∷ vs) h = sorted_from v vs h

-- where all pass a test, those that pass it are all
sum-all_pass : (w : Vertex → ℕ) (t : Vertex → Bool) (vs : List Vertex) → AllByRecursion (λ v. t v ≡ true) vs → sum_by w vs ≡ sum_by (λ v. if t v then w v else 0) vs
sum-all_pass w t [] h = refl
sum-all_pass w t (v ∷ vs) h =
    sum_by-cons w v vs
    ∙ ap (λ n. w v + n) (sum-all_pass w t vs h.1)
    ∙ ap (λ b. (if b then w v else 0) + sum_by (λ v. if t v then w v else 0) vs) (sym h.0)
    ∙ sym (sum_by-cons (λ v. if t v then w v else 0) v vs)

-- all vertices, sorted, are those ahead of the start
pub start-ahead : (pieces : List Piece) (vs : List Vertex) → IsPermutation (all_vertices 0 pieces) vs → IsSortedBy vertex_before vs → IsAhead pieces (ahead_of_all pieces) vs
start-ahead pieces vs p s =
    record {
      are = λ w. sum_by-IsPermutation w (all_vertices 0 pieces) vs p ∙ sum-all_pass w (right_of (ahead_of_all pieces)) (all_vertices 0 pieces) (start-vertices pieces);
      each = moved (IsVertexOf pieces) (all_vertices-are pieces);
      later = moved (λ v. right_of (ahead_of_all pieces) v ≡ true) (start-vertices pieces);
      in_order = sorted-in_order vs s;
    }
  where
    moved : (P : Vertex → Type 0) → AllByRecursion P (all_vertices 0 pieces) → AllByRecursion P vs
    moved P h = recursion_from_All P vs (All-permutation P (all_vertices 0 pieces) vs p (All-from_recursion P (all_vertices 0 pieces) h))

-- ---- of the vertices ahead of x, those in the next column come first
-- two ways to write the number after n
one_more_is : (n : ℕ) → 1 + n ≡ suc n
one_more_is n = omega arith

-- a vertex that doesn't come before another isn't left of it
not_left : (u v : Vertex) → vertex_before v u ≡ false → fraction_le (whole u.at.x) (whole v.at.x) ≡ true
not_left u v h = test_from_le (u.at.x *ℤ pos 1) (v.at.x *ℤ pos 1) (places u.at.x u.at.y v.at.x v.at.y h)
  where
    places : (a b c d : ℤ) → (int_lt c a || (int_eq c a && int_lt b d)) ≡ false → (a *ℤ pos 1) ≤ℤ (c *ℤ pos 1)
    places a b c d h = grind (arith, ints)

-- after a vertex right of y, all are right of y
all_right : (y : Fraction) (u : Vertex) (vs : List Vertex) → IsFraction y → right_of y u ≡ true → InOrderFrom u vs → AllByRecursion (λ v. right_of y v ≡ true) vs
all_right y u [] i h o = tt
all_right y u (v ∷ vs) i h o =
    let here = lt_le-places y (whole u.at.x) (whole v.at.x) i (whole-number u.at.x) (whole-number v.at.x) h (not_left u v o.0) in
    (here, all_right y v vs i here o.1)

-- what is at y or right of it, and not in the column y, is right of it
beyond : (y q : Fraction) → fraction_le y q ≡ true → fraction_eq q y ≡ false → fraction_lt y q ≡ true
beyond y q h k = by_number (y.num *ℤ pos q.den) (q.num *ℤ pos y.den) h k
  where
    by_number : (a b : ℤ) → int_le a b ≡ true → int_eq b a ≡ false → int_lt a b ≡ true
    by_number a b h k = grind (arith, ints)

-- the first ones are in the column y, and the others are right of it
column_parts : (y : Fraction) (vs : List Vertex) → IsFraction y → AllByRecursion (λ v. fraction_le y (whole v.at.x) ≡ true) vs → InOrder vs →
    AllByRecursion (λ v. in_column y v ≡ true) (take (prefix_len (in_column y) vs) vs) × AllByRecursion (λ v. right_of y v ≡ true) (drop (prefix_len (in_column y) vs) vs)
column_parts y [] i h o = (tt, tt)
column_parts y (v ∷ vs) i h o = by_test (in_column y v) refl (column_parts y vs i h.1 (InOrder-rest v vs o))
  where
    Parts : ℕ → List Vertex → Type 0
    Parts n us = AllByRecursion (λ v. in_column y v ≡ true) (take n us) × AllByRecursion (λ v. right_of y v ≡ true) (drop n us)

    by_test : (t : Bool) → in_column y v ≡ t → Parts (prefix_len (in_column y) vs) vs → Parts (cond t (1 + prefix_len (in_column y) vs) 0) (v ∷ vs)
    by_test true e k = subst (λ n. Parts n (v ∷ vs)) (sym (one_more_is (prefix_len (in_column y) vs))) ((e, k.0), k.1)
    by_test false e k = let here = beyond y (whole v.at.x) h.0 e in (tt, (here, all_right y v vs i here o))

-- tests that agree pass the same vertices
AreVertices-agree : (pieces : List Piece) (s t : Vertex → Bool) (vs : List Vertex) → ((v : Vertex) → s v ≡ t v) → AreVertices pieces s vs → AreVertices pieces t vs
AreVertices-agree pieces s t vs e h = λ w. h w ∙ sum_by-agree _ _ (all_vertices 0 pieces) (λ v. ap (λ b. if b then w v else 0) (e v))

-- the first n vertices keep what each has, and their order
take-each_vertex : (P : Vertex → Type 0) (n : ℕ) (vs : List Vertex) → AllByRecursion P vs → AllByRecursion P (take n vs)
take-each_vertex P zero vs h = tt
take-each_vertex P (suc n) [] h = tt
take-each_vertex P (suc n) (v ∷ vs) h = (h.0, take-each_vertex P n vs h.1)

take-in_order_from : (n : ℕ) (u : Vertex) (vs : List Vertex) → InOrderFrom u vs → InOrderFrom u (take n vs)
take-in_order_from zero u vs h = tt
take-in_order_from (suc n) u [] h = tt
take-in_order_from (suc n) u (v ∷ vs) h = (h.0, take-in_order_from n v vs h.1)

take-in_order : (n : ℕ) (vs : List Vertex) → InOrder vs → InOrder (take n vs)
take-in_order zero vs h = tt
take-in_order (suc n) [] h = tt
take-in_order (suc n) (v ∷ vs) h = take-in_order_from n v vs h

-- a conjunction whose second part has the first one as a consequence
second_implies : (b c : Bool) → (c ≡ true → b ≡ true) → (b && c) ≡ c
second_implies true c f = refl
second_implies false true f = f refl
second_implies false false f = refl

-- with y the next event after x: the first vertices ahead of x make up the column y, and the others are ahead of y
pub ahead-parted : (pieces : List Piece) (x y : Fraction) (vs : List Vertex) → IsFraction x → IsAhead pieces x vs → IsNext (event_places pieces) x y →
    IsColumnOf pieces y (take (prefix_len (in_column y) vs) vs) × IsAhead pieces y (drop (prefix_len (in_column y) vs) vs)
ahead-parted pieces x y vs i a h = (
  record {
    are =
        AreVertices-agree pieces (λ v. right_of x v && in_column y v) (in_column y) (take n vs)
        (λ v. second_implies (right_of x v) (in_column y v) (λ e. rising_order.same_second x y (whole v.at.x) i h.number (whole-number v.at.x) h.above (sym (eq_from_test _ _ e))))
        (subst (AreVertices pieces (λ v. right_of x v && in_column y v))
        (chosen-take_vertices (in_column y) n vs parts.0
        (each-map (λ v. right_of y v ≡ true) (λ v. in_column y v ≡ false) (drop n vs) (λ v e. apart_right y (whole v.at.x) e) parts.1))
        (AreVertices-chosen pieces (right_of x) (in_column y) vs a.are));
    each = take-each_vertex (IsVertexOf pieces) n vs a.each;
    here = parts.0;
    in_order = take-in_order n vs a.in_order;
  },
  record {
    are =
        AreVertices-agree pieces (λ v. right_of x v && right_of y v) (right_of y) (drop n vs)
        (λ v. second_implies (right_of x v) (right_of y v) (λ e. rising_order.trans x y (whole v.at.x) i h.number (whole-number v.at.x) h.above e))
        (subst (AreVertices pieces (λ v. right_of x v && right_of y v))
        (chosen-drop_vertices (right_of y) n vs
        (each-map (λ v. in_column y v ≡ true) (λ v. right_of y v ≡ false) (take n vs) (λ v e. not_later y (whole v.at.x) (le_of_same (whole v.at.x) y (eq_from_test _ _ e))) parts.0)
        parts.1)
        (AreVertices-chosen pieces (right_of x) (right_of y) vs a.are));
    each = drop-each_vertex (IsVertexOf pieces) n vs a.each;
    later = parts.1;
    in_order = drop-in_order n vs a.in_order;
  },
)
  where
    n : ℕ
    n = prefix_len (in_column y) vs

    parts : AllByRecursion (λ v. in_column y v ≡ true) (take n vs) × AllByRecursion (λ v. right_of y v ≡ true) (drop n vs)
    parts =
        column_parts y vs h.number
        (vertices_each pieces (right_of x) (λ v. fraction_le y (whole v.at.x)) vs a.are
        (all_vertices-ends (Later x y) 0 pieces (event_places-ends (Later x y) pieces h.least)))
        a.in_order
