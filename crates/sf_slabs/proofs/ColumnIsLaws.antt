-- The stops of a column fit its cells: what comes, begins, ends and goes on at each level is what lies on the level and on the gaps beside it.
use Rattle.std.proofs.Common.{◌≡◌, refl, ap, sym, subst, ◌∙◌, ℕ, zero, suc, ◌+◌, ℤ, pos, ◌*ℤ◌, arith, lit<, Bool, true, false, not, ◌&&◌, ◌||◌, List, [], ◌∷◌, ◌++◌, take, drop, map, inl, inr, ◌⊎◌, Option, Some, None}
use Rattle.std.specs.Prelude.{if◌then◌else◌, int_le, int_lt}
use Rattle.std.specs.List.{AllByRecursion, sum_by}
use Rattle.std.specs.List.Sorted.{IsPermutation}
use Rattle.std.proofs.lemmas.Bool.{and_parts, both_ways, cases_Bool}
use Rattle.std.proofs.lemmas.Int.{ints}
use Rattle.std.proofs.lemmas.List.Sorted.{sum_by-IsPermutation}
use Rattle.std.proofs.lemmas.List.Sums.{sum_by-cons}
use Rattle.sf_grid.specs.Fraction.{Fraction, IsFraction, fraction_eq, fraction_le, fraction_lt, middle, one_less, one_more, whole}
use Rattle.sf_grid.specs.Plane.{point_at}
use Rattle.sf_grid.proofs.CallerLemmas.{Same, eq_from_test, test_from_eq, test_from_le}
use Rattle.sf_strips.specs.declared.piece.Piece.{Piece}
use Rattle.sf_strips.specs.declared.piece.Piece.TheVariants.{Dot, Edge}
use Rattle.sf_strips.specs.declared.active.Active.{Active}
use Rattle.sf_strips.specs.declared.contact.Contact.{Contact}
use Rattle.sf_strips.specs.declared.level.Level.{Level}
use Rattle.sf_strips.specs.declared.vertex.Vertex.{Vertex}
use Rattle.sf_cells.specs.Cells.{numbers_from}
use Rattle.sf_strips.specs.Fronts.{IsEntry, IsEntryIn, SameNumbers, pieces_of}
use Rattle.sf_cells.specs.Groups.{counts, item_of}
use Rattle.sf_cells.specs.Hands.{Balanced, Stop, item, stop_items, stops}
use Rattle.sf_strips.specs.Levels.{AreOnward, AreStarts, AreTops, IsOnward, StartsWith, goes_past, going_past, if_begins}
use Rattle.sf_cells.specs.Pieces.{heights_of, is_above, is_on}
use Rattle.sf_cells.specs.Samples.{dimension}
use Rattle.sf_strips.specs.Vertices.{all_vertices, begins, enters, leaves, piece_at, pieces_with}
use Rattle.sf_slabs.proofs.AboveLaws.{goes_on_from, height_of, is_above-height, passes}
use Rattle.sf_slabs.proofs.ColumnLaws.{IsHeights}
use Rattle.sf_slabs.proofs.GapLaws.{IsGap, Parted}
use Rattle.sf_slabs.proofs.HandLaws.{balanced-fit, items-fit}
use Rattle.sf_slabs.proofs.HeightsLaws.{heights_in, heights_of-numbers}
use Rattle.sf_slabs.proofs.LevelHeightsLaws.{each_entry_height, leveled_heights, vertices_each}
use Rattle.sf_slabs.proofs.LevelLaws.{levels_from, middle-above, middle-below, not_above, one_less-below}
use Rattle.sf_slabs.proofs.LevelPiecesLaws.{at_level, begins_at, comes_at, comes_number, ends, ends_at, enters_at, goes_past_at, le_before_lt, leaves_at, lt_before_le, none_over, none_under, not_lt, on_from, on_gap-over, on_gap-under, on_until, one_begins, one_ends, one_enters, one_leaves, onward_from, over, past_from, under, weakly_less}
use Rattle.sf_slabs.proofs.LeveledLaws.{IsAtLevel, Leveled, active_height, drop-each_active, leveled, vertex_height}
use Rattle.sf_slabs.proofs.MarkLaws.{middle-number}
use Rattle.sf_slabs.proofs.NumberLaws.{Among, Numbers, rising_order}
use Rattle.sf_slabs.proofs.SampleLaws.{FollowFrom}
use Rattle.sf_slabs.proofs.Shapes.{AreVertices, Fits, IsColumn, IsColumnOf, IsComing, comes_to, in_column}
use Rattle.sf_strips.proofs.CallerLemmas.{lt-scaled}
use Rattle.sf_slabs.proofs.TopLaws.{column-levels, one_more-above, passes-listed, passes-number}
use Rattle.sf_slabs.proofs.WeightLaws.{AreVertices-chosen, IsEither, SameNumbers-agree, SameNumbers-chosen, SameNumbers-chosen_none, SameNumbers-either, SameNumbers-none, SameNumbers-refl, SameNumbers-trans, SameNumbers-vertices, chosen, chosen-drop, chosen-drop_vertices, chosen-take, chosen-take_vertices, numbers_from-none, passes_at, pieces_of-append, sum_by-agree}
use Rattle.sf_slabs.proofs.EachLaws.{each-both, each-map, each-parts}

-- ---- properties of all pieces
-- a property of every piece
pub every_piece : (P : Piece → Type 0) (ps : List Piece) → ((p : Piece) → P p) → AllByRecursion P ps
every_piece P [] f = tt
every_piece P (p ∷ ps) f = (f p, every_piece P ps f)

-- ---- what is left of a column's edges and vertices, below some height
pub record IsRest (pieces : List Piece) (z : Fraction) (below : Fraction → Bool) (es : List Active) (vs : List Vertex) : Type 0 where
  pub entries : AllByRecursion (IsEntry pieces) es
  pub coming : SameNumbers (pieces_of es) (numbers_from 0 (λ p. comes_to z p && below (height_of z p)) pieces)
  pub vertices : AreVertices pieces (λ v. in_column z v && below (vertex_height v)) vs

-- the heights from q down are among those below
abbrev pub Covers : (Fraction → Bool) → Fraction → Type 0
Covers below q = (h : Fraction) → IsFraction h → fraction_lt q h ≡ false → below h ≡ true

-- a test in the middle that passes where the others do
covered : (c b e : Bool) → (c ≡ true → e ≡ true → b ≡ true) → ((c && b) && e) ≡ (c && e)
covered true b true f = ap (λ t. t && true) (f refl refl)
covered true true false f = refl
covered true false false f = refl
covered false b e f = refl

-- at the height, or below it
eq_not_above : (q h : Fraction) → fraction_eq h q ≡ true → fraction_lt q h ≡ false
eq_not_above q h e = elim (cases_Bool (fraction_lt q h)) [ inl t ↦ absurd (rising_order.apart q h (sym (eq_from_test _ _ e)) t) | inr f ↦ f ]

-- a number below is not above
lt_not_above : (q h : Fraction) → fraction_lt h q ≡ true → fraction_lt q h ≡ false
lt_not_above q h l = not_lt h q (weakly_less h q l)

-- a number at the height is not below it
at_not_below : (q h : Fraction) → Same h q → fraction_lt h q ≡ false
at_not_below q h e = elim (cases_Bool (fraction_lt h q)) [ inl t ↦ absurd (rising_order.apart h q e t) | inr f ↦ f ]

-- and one below it is not at it
pub below_not_at : (q h : Fraction) → fraction_lt h q ≡ true → fraction_eq h q ≡ false
below_not_at q h l = elim (cases_Bool (fraction_eq h q)) [ inl t ↦ absurd (rising_order.apart h q (eq_from_test _ _ t) l) | inr f ↦ f ]

-- tests of vertices that agree
AreVertices-agree : (pieces : List Piece) (s t : Vertex → Bool) (vs : List Vertex) → AreVertices pieces s vs → ((v : Vertex) → s v ≡ t v) → AreVertices pieces t vs
AreVertices-agree pieces s t vs h e = λ w. h w ∙ sum_by-agree (λ v. if s v then w v else 0) (λ v. if t v then w v else 0) (all_vertices 0 pieces) (λ v. ap (λ b. if b then w v else 0) (e v))

-- the first ones of a list have its property
pub take-each_active : (P : Active → Type 0) (n : ℕ) (es : List Active) → AllByRecursion P es → AllByRecursion P (take n es)
take-each_active P zero es h = tt
take-each_active P (suc n) [] h = tt
take-each_active P (suc n) (a ∷ es) h = (h.0, take-each_active P n es h.1)

-- the edges of a level are those that come to its height
pub edges_here : (pieces : List Piece) (z q : Fraction) (below : Fraction → Bool) (es : List Active) (vs : List Vertex) (n m : ℕ) → IsFraction z →
    IsRest pieces z below es vs → Covers below q → IsAtLevel z q es vs n m → SameNumbers (pieces_of (take n es)) (numbers_from 0 (comes_at z q) pieces)
edges_here pieces z q below es vs n m i r c l =
    SameNumbers-agree (pieces_of (take n es)) (λ p. (comes_to z p && below (height_of z p)) && fraction_eq (height_of z p) q) (comes_at z q) pieces
    (subst (λ fs. SameNumbers (pieces_of fs) (numbers_from 0 (λ p. (comes_to z p && below (height_of z p)) && fraction_eq (height_of z p) q) pieces))
    (chosen-take (λ a. fraction_eq (active_height z a) q) n es
    (each-map (λ a. Same (active_height z a) q) (λ a. fraction_eq (active_height z a) q ≡ true) (take n es) (λ a e. test_from_eq _ _ e) l.edges)
    (each-map (λ a. fraction_lt (active_height z a) q ≡ true) (λ a. fraction_eq (active_height z a) q ≡ false) (drop n es) (λ a e. below_not_at q (active_height z a) e) l.edges_below))
    (SameNumbers-chosen pieces (λ p. comes_to z p && below (height_of z p)) (λ p. fraction_eq (height_of z p) q) (λ a. fraction_eq (active_height z a) q) es r.coming
    (each_entry_height (λ h. fraction_eq h q) z pieces es r.entries)))
    (every_piece _ pieces (λ p. covered (comes_to z p) (below (height_of z p)) (fraction_eq (height_of z p) q) (λ t e. c (height_of z p) (comes_number z p i t) (eq_not_above q (height_of z p) e))))

-- and the vertices of a level are those at its height
pub vertices_here : (pieces : List Piece) (z q : Fraction) (below : Fraction → Bool) (es : List Active) (vs : List Vertex) (n m : ℕ) →
    IsRest pieces z below es vs → Covers below q → IsAtLevel z q es vs n m → AreVertices pieces (at_level z q) (take m vs)
vertices_here pieces z q below es vs n m r c l =
    AreVertices-agree pieces (λ v. (in_column z v && below (vertex_height v)) && fraction_eq (vertex_height v) q) (at_level z q) (take m vs)
    (subst (λ us. AreVertices pieces (λ v. (in_column z v && below (vertex_height v)) && fraction_eq (vertex_height v) q) us)
    (chosen-take_vertices (λ v. fraction_eq (vertex_height v) q) m vs
    (each-map (λ v. Same (vertex_height v) q) (λ v. fraction_eq (vertex_height v) q ≡ true) (take m vs) (λ v e. test_from_eq _ _ e) l.vertices)
    (each-map (λ v. fraction_lt (vertex_height v) q ≡ true) (λ v. fraction_eq (vertex_height v) q ≡ false) (drop m vs) (λ v e. below_not_at q (vertex_height v) e) l.vertices_below))
    (AreVertices-chosen pieces (λ v. in_column z v && below (vertex_height v)) (λ v. fraction_eq (vertex_height v) q) vs r.vertices))
    (λ v. covered (in_column z v) (below (vertex_height v)) (fraction_eq (vertex_height v) q) (λ t e. c (vertex_height v) (record { positive = lit< tt }) (eq_not_above q (vertex_height v) e)))

-- and the rest is what is below
pub rest_below : (pieces : List Piece) (z q : Fraction) (below : Fraction → Bool) (es : List Active) (vs : List Vertex) (n m : ℕ) → IsFraction z →
    IsRest pieces z below es vs → Covers below q → IsAtLevel z q es vs n m → IsRest pieces z (λ h. fraction_lt h q) (drop n es) (drop m vs)
rest_below pieces z q below es vs n m i r c l =
    record {
      entries = drop-each_active (IsEntry pieces) n es r.entries;
      coming =
          SameNumbers-agree (pieces_of (drop n es)) (λ p. (comes_to z p && below (height_of z p)) && fraction_lt (height_of z p) q) (λ p. comes_to z p && fraction_lt (height_of z p) q) pieces
          (subst (λ fs. SameNumbers (pieces_of fs) (numbers_from 0 (λ p. (comes_to z p && below (height_of z p)) && fraction_lt (height_of z p) q) pieces))
          (chosen-drop (λ a. fraction_lt (active_height z a) q) n es
          (each-map (λ a. Same (active_height z a) q) (λ a. fraction_lt (active_height z a) q ≡ false) (take n es) (λ a e. at_not_below q (active_height z a) e) l.edges)
          l.edges_below)
          (SameNumbers-chosen pieces (λ p. comes_to z p && below (height_of z p)) (λ p. fraction_lt (height_of z p) q) (λ a. fraction_lt (active_height z a) q) es r.coming
          (each_entry_height (λ h. fraction_lt h q) z pieces es r.entries)))
          (every_piece _ pieces (λ p. covered (comes_to z p) (below (height_of z p)) (fraction_lt (height_of z p) q) (λ t e. c (height_of z p) (comes_number z p i t) (lt_not_above q (height_of z p) e))));
      vertices =
          AreVertices-agree pieces (λ v. (in_column z v && below (vertex_height v)) && fraction_lt (vertex_height v) q) (λ v. in_column z v && fraction_lt (vertex_height v) q) (drop m vs)
          (subst (λ us. AreVertices pieces (λ v. (in_column z v && below (vertex_height v)) && fraction_lt (vertex_height v) q) us)
          (chosen-drop_vertices (λ v. fraction_lt (vertex_height v) q) m vs
          (each-map (λ v. Same (vertex_height v) q) (λ v. fraction_lt (vertex_height v) q ≡ false) (take m vs) (λ v e. at_not_below q (vertex_height v) e) l.vertices)
          l.vertices_below)
          (AreVertices-chosen pieces (λ v. in_column z v && below (vertex_height v)) (λ v. fraction_lt (vertex_height v) q) vs r.vertices))
          (λ v. covered (in_column z v) (below (vertex_height v)) (fraction_lt (vertex_height v) q) (λ t e. c (vertex_height v) (record { positive = lit< tt }) (lt_not_above q (vertex_height v) e)));
    }

-- ---- what enters a level and what leaves it
-- a test that agrees with one of two
third : (d a b c : Bool) → c ≡ b → IsEither d a b → IsEither d a c
third d a b c e h = (h.0 ∙ ap (λ t. a || t) (sym e), ap (λ t. a && t) e ∙ h.1)

-- what was on the gap above and what enters is what is on the level
enters_level : (pieces : List Piece) (z q : Fraction) (edges : List Active) (vertices : List Vertex) (gap : Piece → Bool) → IsFraction z → IsFraction q →
    SameNumbers (pieces_of edges) (numbers_from 0 (comes_at z q) pieces) → AreVertices pieces (at_level z q) vertices → AllByRecursion (λ p. gap p ≡ over z q p) pieces →
    SameNumbers ((pieces_of edges ++ pieces_with enters vertices) ++ numbers_from 0 gap pieces) (numbers_from 0 (is_on (point_at z q)) pieces)
enters_level pieces z q edges vertices gap i j h k g =
    SameNumbers-either (pieces_of edges ++ pieces_with enters vertices) (numbers_from 0 gap pieces) (is_on (point_at z q)) (λ p. comes_at z q p || enters_at z q p) gap pieces
    (SameNumbers-either (pieces_of edges) (pieces_with enters vertices) (λ p. comes_at z q p || enters_at z q p) (comes_at z q) (enters_at z q) pieces h
    (SameNumbers-vertices pieces (at_level z q) enters (enters_at z q) vertices k (one_enters z q))
    (every_piece _ pieces (λ p. (on_from z q p i j).1)))
    (SameNumbers-refl (numbers_from 0 gap pieces))
    (each-map (λ p. gap p ≡ over z q p) _ pieces (λ p e. third (is_on (point_at z q) p) (comes_at z q p || enters_at z q p) (over z q p) (gap p) e (on_from z q p i j).0) g)

-- what is on the gap below and what leaves is what is on the level
leaves_level : (pieces : List Piece) (z q : Fraction) (edges : List Active) (vertices : List Vertex) (gap : Piece → Bool) → IsFraction z → IsFraction q →
    SameNumbers (pieces_of edges) (numbers_from 0 (comes_at z q) pieces) → AreVertices pieces (at_level z q) vertices → AllByRecursion (λ p. gap p ≡ under z q p) pieces →
    SameNumbers ((pieces_of edges ++ pieces_with leaves vertices) ++ numbers_from 0 gap pieces) (numbers_from 0 (is_on (point_at z q)) pieces)
leaves_level pieces z q edges vertices gap i j h k g =
    SameNumbers-either (pieces_of edges ++ pieces_with leaves vertices) (numbers_from 0 gap pieces) (is_on (point_at z q)) (λ p. comes_at z q p || leaves_at z q p) gap pieces
    (SameNumbers-either (pieces_of edges) (pieces_with leaves vertices) (λ p. comes_at z q p || leaves_at z q p) (comes_at z q) (leaves_at z q) pieces h
    (SameNumbers-vertices pieces (at_level z q) leaves (leaves_at z q) vertices k (one_leaves z q))
    (every_piece _ pieces (λ p. (on_until z q p i j).1)))
    (SameNumbers-refl (numbers_from 0 gap pieces))
    (each-map (λ p. gap p ≡ under z q p) _ pieces (λ p e. third (is_on (point_at z q) p) (comes_at z q p || leaves_at z q p) (under z q p) (gap p) e (on_until z q p i j).0) g)

-- ---- what goes on from a level
-- the edges that go past are chosen
going_past-chosen : (vs : List Vertex) (es : List Active) → going_past vs es ≡ chosen (goes_past vs) es
going_past-chosen vs [] = refl
going_past-chosen vs (a ∷ es) = ap (λ fs. if goes_past vs a then a ∷ fs else fs) (going_past-chosen vs es)

-- the edges that begin are those of the vertices where one begins
pub starts-pieces : (vs : List Vertex) (starts : List Active) → AreStarts vs starts → pieces_of starts ≡ pieces_with begins vs
starts-pieces [] starts h = ap pieces_of h
starts-pieces (v ∷ vs) starts h = by_test (begins v.role) starts h (starts-pieces vs)
  where
    by_test : (b : Bool) (fs : List Active) → if_begins b (StartsWith v (AreStarts vs)) (AreStarts vs) fs →
        ((gs : List Active) → AreStarts vs gs → pieces_of gs ≡ pieces_with begins vs) → pieces_of fs ≡ (if b then v.piece ∷ pieces_with begins vs else pieces_with begins vs)
    by_test true [] k rest = absurd k
    by_test true (a ∷ fs) k rest = ap (λ i. i ∷ pieces_of fs) k.0 ∙ ap (λ ns. v.piece ∷ ns) (rest fs k.1.1)
    by_test false fs k rest = rest fs k

-- each vertex of a level is in the column
each_at_level : (pieces : List Piece) (z q : Fraction) (vs : List Vertex) → AreVertices pieces (at_level z q) vs → AllByRecursion (λ v. at_level z q v ≡ true) vs
each_at_level pieces z q vs h = vertices_each pieces (at_level z q) (at_level z q) vs h (all_so (all_vertices 0 pieces))
  where
    all_so : (us : List Vertex) → AllByRecursion (λ v. at_level z q v ≡ true → at_level z q v ≡ true) us
    all_so [] = tt
    all_so (u ∷ us) = (λ t. t, all_so us)

-- an edge goes on past a vertex of the column where it goes on past the column
pub past_vertex : (z : Fraction) (v : Vertex) (o : Option Piece) (a : Active) → IsFraction z → in_column z v ≡ true → IsEntryIn o a →
    int_lt v.at.x a.edge.right.x ≡ passes_at (goes_past_at z) o
past_vertex z v None a i h e = absurd e
past_vertex z v (Some (Edge p q)) a i h e =
    sym (lt-scaled v.at.x a.edge.right.x z.den i.positive)
    ∙ ap (λ n. int_lt n (a.edge.right.x *ℤ pos z.den)) (eq_from_test _ _ h)
    ∙ ap (λ c. fraction_lt z (whole c.x)) e.right
past_vertex z v (Some (Dot p)) a i h e = absurd e

-- where no edge ends at the height, each one that comes there goes past
none_ends : (pieces : List Piece) (z q : Fraction) (edges : List Active) → IsFraction z → AllByRecursion (IsEntry pieces) edges →
    SameNumbers (pieces_of edges) (numbers_from 0 (comes_at z q) pieces) → AllByRecursion (λ p. ends_at z q p ≡ false) pieces →
    AllByRecursion (λ a. passes_at (λ p. not (goes_past_at z p)) (piece_at pieces a.piece) ≡ false) edges
none_ends pieces z q edges i e h n =
    SameNumbers-chosen_none pieces (comes_at z q) (λ p. not (goes_past_at z p)) (λ a. passes_at (λ p. not (goes_past_at z p)) (piece_at pieces a.piece)) edges h (all_refl edges)
    (each-map (λ p. ends_at z q p ≡ false) (λ p. (comes_at z q p && not (goes_past_at z p)) ≡ false) pieces (λ p f. told (comes_at z q p) (goes_past_at z p) (λ t. past_from z q p i t f)) n)
  where
    told : (b c : Bool) → (b ≡ true → c ≡ true) → (b && not c) ≡ false
    told true c f = ap not (f refl)
    told false c f = refl

    all_refl : (fs : List Active) → AllByRecursion (λ a. passes_at (λ p. not (goes_past_at z p)) (piece_at pieces a.piece) ≡ passes_at (λ p. not (goes_past_at z p)) (piece_at pieces a.piece)) fs
    all_refl [] = tt
    all_refl (a ∷ fs) = (refl, all_refl fs)

-- whether an edge of the level goes past is a matter of its piece
pub past_level : (pieces : List Piece) (z q : Fraction) (edges : List Active) (vertices : List Vertex) → IsFraction z → AllByRecursion (IsEntry pieces) edges →
    SameNumbers (pieces_of edges) (numbers_from 0 (comes_at z q) pieces) → AreVertices pieces (at_level z q) vertices →
    AllByRecursion (λ a. goes_past vertices a ≡ passes_at (goes_past_at z) (piece_at pieces a.piece)) edges
past_level pieces z q edges [] i e h k =
    each-both (IsEntry pieces) (λ a. passes_at (λ p. not (goes_past_at z p)) (piece_at pieces a.piece) ≡ false) (λ a. true ≡ passes_at (goes_past_at z) (piece_at pieces a.piece)) edges
    (λ a n f. passed (piece_at pieces a.piece) a n f) e
    (none_ends pieces z q edges i e h (SameNumbers-none (ends_at z q) pieces (SameNumbers-vertices pieces (at_level z q) ends (ends_at z q) [] k (one_ends z q))))
  where
    back : (b : Bool) → not b ≡ false → true ≡ b
    back true f = refl
    back false f = f

    passed : (o : Option Piece) (a : Active) → IsEntryIn o a → passes_at (λ p. not (goes_past_at z p)) o ≡ false → true ≡ passes_at (goes_past_at z) o
    passed None a n f = absurd n
    passed (Some p) a n f = back (goes_past_at z p) f
past_level pieces z q edges (v ∷ vs) i e h k =
    let here = and_parts (in_column z v) (fraction_eq (vertex_height v) q) (each_at_level pieces z q (v ∷ vs) k).0 in
    each-map (IsEntry pieces) (λ a. int_lt v.at.x a.edge.right.x ≡ passes_at (goes_past_at z) (piece_at pieces a.piece)) edges
    (λ a n. past_vertex z v (piece_at pieces a.piece) a i here.0 n) e

-- a permuted list has the same numbers
sum-pieces_of : (w : ℕ → ℕ) (es : List Active) → sum_by w (pieces_of es) ≡ sum_by (λ a. w a.piece) es
sum-pieces_of w [] = refl
sum-pieces_of w (a ∷ es) = sum_by-cons w a.piece (pieces_of es) ∙ ap (λ n. w a.piece + n) (sum-pieces_of w es) ∙ sym (sum_by-cons (λ b. w b.piece) a es)

-- permuted edges have the same numbers
pieces_of-permuted : (es fs : List Active) → IsPermutation es fs → SameNumbers (pieces_of fs) (pieces_of es)
pieces_of-permuted es fs h = λ w. sum-pieces_of w fs ∙ sum_by-IsPermutation (λ a. w a.piece) es fs h ∙ sym (sum-pieces_of w es)

-- the edges that go on from a level are just those of the pieces that go on from its height
pub onward_level : (pieces : List Piece) (z q : Fraction) (edges : List Active) (vertices : List Vertex) (onward : List Active) → IsFraction z →
    AllByRecursion (IsEntry pieces) edges → SameNumbers (pieces_of edges) (numbers_from 0 (comes_at z q) pieces) → AreVertices pieces (at_level z q) vertices →
    IsOnward edges vertices onward → SameNumbers (pieces_of onward) (numbers_from 0 (goes_on_from z q) pieces)
onward_level pieces z q edges vertices onward i e h k o =
    let going = going_past vertices edges in
    SameNumbers-trans (pieces_of onward) (pieces_of going ++ pieces_of o.starts) (numbers_from 0 (goes_on_from z q) pieces)
    (subst (λ ns. SameNumbers (pieces_of onward) ns) (pieces_of-append going o.starts) (pieces_of-permuted (going ++ o.starts) onward o.same))
    (SameNumbers-either (pieces_of going) (pieces_of o.starts) (goes_on_from z q) (λ p. comes_at z q p && goes_past_at z p) (begins_at z q) pieces
    (subst (λ fs. SameNumbers (pieces_of fs) (numbers_from 0 (λ p. comes_at z q p && goes_past_at z p) pieces)) (sym (going_past-chosen vertices edges))
    (SameNumbers-chosen pieces (comes_at z q) (goes_past_at z) (goes_past vertices) edges h (past_level pieces z q edges vertices i e h k)))
    (subst (λ ns. SameNumbers ns (numbers_from 0 (begins_at z q) pieces)) (sym (starts-pieces vertices o.starts o.are_starts))
    (SameNumbers-vertices pieces (at_level z q) begins (begins_at z q) vertices k (one_begins z q)))
    (every_piece _ pieces (λ p. onward_from z q p i)))

-- an edge that was above before doesn't go on from here
abbrev pub IsHigher : Fraction → Fraction → (Piece → Bool) → Type 0
IsHigher z q above = (p : Piece) → above p ≡ true → IsFraction (height_of z p) × (fraction_lt q (height_of z p) ≡ true)

-- so what is above and what goes on are apart
grown_apart : (z q : Fraction) (above : Piece → Bool) (p : Piece) → IsHigher z q above → IsEither (above p || goes_on_from z q p) (goes_on_from z q p) (above p)
grown_apart z q above p f = (commuted (above p) (goes_on_from z q p), apart (above p) (passes z p) (fraction_eq (height_of z p) q) (λ t. higher_not_at q (height_of z p) (f p t).1))
  where
    commuted : (a b : Bool) → (a || b) ≡ (b || a)
    commuted true true = refl
    commuted true false = refl
    commuted false true = refl
    commuted false false = refl

    higher_not_at : (q h : Fraction) → fraction_lt q h ≡ true → fraction_eq h q ≡ false
    higher_not_at q h l = elim (cases_Bool (fraction_eq h q)) [ inl t ↦ absurd (rising_order.apart q h (sym (eq_from_test _ _ t)) l) | inr g ↦ g ]

    apart : (a b e : Bool) → (a ≡ true → e ≡ false) → ((b && e) && a) ≡ false
    apart true true e f = ap (λ t. t && true) (f refl)
    apart true false e f = refl
    apart false true true f = refl
    apart false true false f = refl
    apart false false e f = refl

-- above the next gap is what was above, and what goes on from here
above_grows : (pieces : List Piece) (z q : Fraction) (above : Piece → Bool) (onward : List Active) → IsHigher z q above →
    SameNumbers (pieces_of onward) (numbers_from 0 (goes_on_from z q) pieces) →
    SameNumbers (pieces_of onward ++ numbers_from 0 above pieces) (numbers_from 0 (λ p. above p || goes_on_from z q p) pieces)
above_grows pieces z q above onward f h =
    SameNumbers-either (pieces_of onward) (numbers_from 0 above pieces) (λ p. above p || goes_on_from z q p) (goes_on_from z q) above pieces h (SameNumbers-refl (numbers_from 0 above pieces))
    (every_piece _ pieces (λ p. grown_apart z q above p f))

-- and that is above the next height
higher_next : (z q r : Fraction) (above : Piece → Bool) → IsFraction z → IsFraction q → IsFraction r → fraction_lt r q ≡ true → IsHigher z q above →
    IsHigher z r (λ p. above p || goes_on_from z q p)
higher_next z q r above i j k l f = λ p. by_test p (above p) refl
  where
    by_test : (p : Piece) (b : Bool) → above p ≡ b → (b || goes_on_from z q p) ≡ true → IsFraction (height_of z p) × (fraction_lt r (height_of z p) ≡ true)
    by_test p true e t =
        let h = f p e in
        (h.0, rising_order.trans r q (height_of z p) k j h.0 l h.1)
    by_test p false e t =
        let parts = and_parts (passes z p) (fraction_eq (height_of z p) q) t in
        let n = passes-number z p i parts.0 in
        (n, rising_order.same_second r q (height_of z p) k j n l (sym (eq_from_test ((height_of z p).num *ℤ pos q.den) (q.num *ℤ pos (height_of z p).den) parts.1)))

-- ---- where the pieces' heights lie against a column's heights from q down
-- at q or above it, or at a later one
abbrev pub IsKnown : Fraction → List Fraction → Fraction → Type 0
IsKnown q qs h = IsFraction h × ((fraction_le q h ≡ true) ⊎ Among qs h)

-- all heights of a piece are
abbrev pub Known : Fraction → Fraction → List Fraction → Piece → Type 0
Known z q qs p = AllByRecursion (IsKnown q qs) (heights_of z p)

-- a number is at most itself, however it is written
same_weakly : (q h : Fraction) → Same h q → fraction_le q h ≡ true
same_weakly q h e = least (h.num *ℤ pos q.den) (q.num *ℤ pos h.den) e
  where
    least : (a b : ℤ) → a ≡ b → int_le b a ≡ true
    least a b e = test_from_le b a (omega (arith, ints))

-- what is not above is at most there
not_above_weakly : (q h : Fraction) → fraction_lt q h ≡ false → fraction_le h q ≡ true
not_above_weakly q h e = weak (q.num *ℤ pos h.den) (h.num *ℤ pos q.den) e
  where
    weak : (a b : ℤ) → int_lt a b ≡ false → int_le b a ≡ true
    weak a b e = grind (arith, ints)

-- no such number is inside the gap below q
known_parted : (q r : Fraction) (rs : List Fraction) (h : Fraction) → IsFraction r → Numbers rs → FollowFrom (λ a b. fraction_lt b a) r rs → IsKnown q (r ∷ rs) h → Parted q r h
known_parted q r rs h i n f k = elim k.1 [ inl high ↦ inl high | inr later ↦ inr (not_above_weakly r h (not_above r h rs i k.0 n f later)) ]

-- from one height to the next one
known_next : (q r : Fraction) (rs : List Fraction) (h : Fraction) → IsFraction q → IsFraction r → fraction_lt r q ≡ true → IsKnown q (r ∷ rs) h → IsKnown r rs h
known_next q r rs h i j l k = (
  k.0,
  elim k.1 [
    | inl high ↦ inl (weakly_less r h (lt_before_le r q h j i k.0 l high))
    | inr among ↦ elim among [ inl here ↦ inl (same_weakly r h here) | inr later ↦ inr later ]
  ],
)

-- at the last height
known_last : (q h : Fraction) → IsKnown q [] h → fraction_le q h ≡ true
known_last q h k = elim k.1 [ inl high ↦ high | inr later ↦ absurd later ]

-- below the lowest height there is nothing
none_below : (pieces : List Piece) (z q : Fraction) → IsFraction z → IsFraction q → AllByRecursion (Known z q []) pieces →
    AllByRecursion (λ p. is_on (point_at z (one_less q)) p ≡ under z q p) pieces × AllByRecursion (λ p. is_on (point_at z (one_less q)) p ≡ false) pieces
none_below pieces z q i j k = (
  each-map (Known z q []) (λ p. is_on (point_at z (one_less q)) p ≡ under z q p) pieces (λ p h. gap_is p h) k,
  each-map (Known z q []) (λ p. is_on (point_at z (one_less q)) p ≡ false) pieces
      (λ p h. gap_is p h ∙ none_under z q p (each-map (IsKnown q []) (λ h. fraction_lt h q ≡ false) (heights_of z p) (λ h l. not_lt q h (known_last q h l)) h)) k,
)
  where
    gap : IsGap q (one_less (one_less q)) (one_less q)
    gap =
        record {
          high = j;
          low = record { positive = j.positive };
          place = record { positive = j.positive };
          below = one_less-below q j;
          above = one_less-below (one_less q) (record { positive = j.positive });
        }

    gap_is : (p : Piece) → Known z q [] p → is_on (point_at z (one_less q)) p ≡ under z q p
    gap_is p h =
        on_gap-under z q (one_less (one_less q)) (one_less q) p i gap
        (each-map (IsKnown q []) (Parted q (one_less (one_less q))) (heights_of z p) (λ h l. inl (known_last q h l)) h)

-- ---- the stops of a column fit its levels
fits_from : (pieces : List Piece) (z q : Fraction) (qs : List Fraction) (es : List Active) (vs : List Vertex) (os : List Active) (ls : List Level) (gap above : Piece → Bool) (below : Fraction → Bool) →
    IsFraction z → IsFraction q → Numbers qs → FollowFrom (λ a b. fraction_lt b a) q qs → IsRest pieces z below es vs → Covers below q → Leveled z es vs ls (q ∷ qs) → AreOnward es vs os ls →
    AllByRecursion (λ p. gap p ≡ over z q p) pieces → IsHigher z q above → AllByRecursion (Known z q qs) pieces → Fits pieces gap above (stops es vs os ls) (levels_from z q qs)
fits_from pieces z q qs es vs os [] gap above below i j n f r c h o g a k = absurd h
fits_from pieces z q [] es vs os (l ∷ []) gap above below i j n f r c h o g a k =
    let edges = edges_here pieces z q below es vs l.edges l.vertices i r c h.0 in
    let vertices = vertices_here pieces z q below es vs l.edges l.vertices r c h.0 in
    let last = none_below pieces z q i j k in (
      enters_level pieces z q (take l.edges es) (take l.vertices vs) gap i j edges vertices g,
      (
        leaves_level pieces z q (take l.edges es) (take l.vertices vs) (is_on (point_at z (one_less q))) i j edges vertices last.0,
        (
          above_grows pieces z q above (take l.onward os) a
              (onward_level pieces z q (take l.edges es) (take l.vertices vs) (take l.onward os) i (take-each_active (IsEntry pieces) l.edges es r.entries) edges vertices o.0),
          numbers_from-none 0 (is_on (point_at z (one_less q))) pieces last.1,
        ),
      ),
    )
fits_from pieces z q [] es vs os (l ∷ m ∷ ls) gap above below i j n f r c h o g a k = absurd h.1
fits_from pieces z q (t ∷ ts) es vs os (l ∷ ls) gap above below i j n f r c h o g a k =
    let edges = edges_here pieces z q below es vs l.edges l.vertices i r c h.0 in
    let vertices = vertices_here pieces z q below es vs l.edges l.vertices r c h.0 in
    let place : IsGap q t (middle q t) =
    record {
      high = j;
      low = n.0;
      place = middle-number q t j n.0;
      below = middle-below q t j n.0 f.0;
      above = middle-above q t j n.0 f.0;
    } in
    let parted : AllByRecursion (λ p. AllByRecursion (Parted q t) (heights_of z p)) pieces =
    each-map (Known z q (t ∷ ts)) (λ p. AllByRecursion (Parted q t) (heights_of z p)) pieces
    (λ p. each-map (IsKnown q (t ∷ ts)) (Parted q t) (heights_of z p) (λ b. known_parted q t ts b n.0 n.1 f.1)) k in (
      enters_level pieces z q (take l.edges es) (take l.vertices vs) gap i j edges vertices g,
      (
        leaves_level pieces z q (take l.edges es) (take l.vertices vs) (is_on (point_at z (middle q t))) i j edges vertices
            (each-map (λ p. AllByRecursion (Parted q t) (heights_of z p)) (λ p. is_on (point_at z (middle q t)) p ≡ under z q p) pieces (λ p. on_gap-under z q t (middle q t) p i place) parted),
        (
          above_grows pieces z q above (take l.onward os) a
              (onward_level pieces z q (take l.edges es) (take l.vertices vs) (take l.onward os) i (take-each_active (IsEntry pieces) l.edges es r.entries) edges vertices o.0),
          fits_from pieces z t ts (drop l.edges es) (drop l.vertices vs) (drop l.onward os) ls (is_on (point_at z (middle q t))) (λ p. above p || goes_on_from z q p) (λ b. fraction_lt b q) i n.0 n.1 f.1
              (rest_below pieces z q below es vs l.edges l.vertices i r c h.0)
              (λ b w e. le_before_lt b t q w n.0 j (not_above_weakly t b e) f.0)
              h.1 o.1
              (each-map (λ p. AllByRecursion (Parted q t) (heights_of z p)) (λ p. is_on (point_at z (middle q t)) p ≡ over z t p) pieces (λ p. on_gap-over z q t (middle q t) p i place) parted)
              (higher_next z q t above i j n.0 f.0 a)
              (each-map (Known z q (t ∷ ts)) (Known z t ts) pieces (λ p. each-map (IsKnown q (t ∷ ts)) (IsKnown t ts) (heights_of z p) (λ b. known_next q t ts b j n.0 f.0)) k),
        ),
      ),
    )

-- ---- the heights of all pieces are among the column's
pub all_listed : (z : Fraction) (qs : List Fraction) (ps : List Piece) → IsFraction z → AllByRecursion (Among qs) (heights_in ps z) → AllByRecursion (λ p. AllByRecursion (λ h. IsFraction h × Among qs h) (heights_of z p)) ps
all_listed z qs [] i h = tt
all_listed z qs (p ∷ ps) i h =
    let parts = each-parts (Among qs) (heights_of z p) (heights_in ps z) h in
    (paired (heights_of z p) (heights_of-numbers z p i) parts.0, all_listed z qs ps i parts.1)
  where
    paired : (hs : List Fraction) → Numbers hs → AllByRecursion (Among qs) hs → AllByRecursion (λ h. IsFraction h × Among qs h) hs
    paired [] n a = tt
    paired (h ∷ hs) n a = ((n.0, a.0), paired hs n.1 a.1)

-- above the highest height there is nothing
none_above : (z q : Fraction) (qs : List Fraction) (p : Piece) → IsFraction z → IsFraction q → Numbers qs → FollowFrom (λ a b. fraction_lt b a) q qs →
    AllByRecursion (λ h. IsFraction h × Among (q ∷ qs) h) (heights_of z p) → (is_on (point_at z (one_more q)) p ≡ over z q p) × (over z q p ≡ false)
none_above z q qs p i j n f h = (
  on_gap-over z (one_more (one_more q)) q (one_more q) p i
      (record {
        high = record { positive = j.positive };
        low = j;
        place = record { positive = j.positive };
        below = one_more-above (one_more q) (record { positive = j.positive });
        above = one_more-above q j;
      })
      (each-map (λ h. IsFraction h × Among (q ∷ qs) h) (Parted (one_more (one_more q)) q) (heights_of z p) (λ b k. inr (not_above_weakly q b (not_above q b qs j k.0 n f k.1))) h),
  none_over z q p (each-map (λ h. IsFraction h × Among (q ∷ qs) h) (λ b. fraction_lt q b ≡ false) (heights_of z p) (λ b k. not_above q b qs j k.0 n f k.1) h),
)

-- at the first height
known_first : (q : Fraction) (qs : List Fraction) (h : Fraction) → IsFraction h × Among (q ∷ qs) h → IsKnown q qs h
known_first q qs h k = (k.0, elim k.1 [ inl here ↦ inl (same_weakly q h here) | inr later ↦ inr later ])

-- ---- a column with heights
-- at first all edges and vertices are left
pub first_rest : (pieces : List Piece) (z : Fraction) (es : List Active) (vs : List Vertex) → AllByRecursion (IsEntry pieces) es →
    SameNumbers (pieces_of es) (numbers_from 0 (comes_to z) pieces) → AreVertices pieces (in_column z) vs → IsRest pieces z (λ _. true) es vs
first_rest pieces z es vs e h k =
    record {
      entries = e;
      coming = SameNumbers-agree (pieces_of es) (comes_to z) (λ p. comes_to z p && true) pieces h (every_piece _ pieces (λ p. and_true (comes_to z p)));
      vertices = AreVertices-agree pieces (in_column z) (λ v. in_column z v && true) vs k (λ v. and_true (in_column z v));
    }
  where
    and_true : (b : Bool) → b ≡ (b && true)
    and_true true = refl
    and_true false = refl

-- the items of such a column
-- the stops of a column with heights fit its levels
pub column_fits : (pieces : List Piece) (z q : Fraction) (qs : List Fraction) (es : List Active) (vs : List Vertex) (os : List Active) (ls : List Level) → IsFraction z →
    IsHeights pieces z (q ∷ qs) → IsRest pieces z (λ _. true) es vs → Leveled z es vs ls (q ∷ qs) → AreOnward es vs os ls →
    Fits pieces (is_on (point_at z (one_more q))) (λ _. false) (stops es vs os ls) (levels_from z q qs)
column_fits pieces z q qs es vs os ls i l r h o =
    fits_from pieces z q qs es vs os ls (is_on (point_at z (one_more q))) (λ _. false) (λ _. true) i l.numbers.0 l.numbers.1 l.in_order r (λ b w e. refl) h o
    (each-map (λ p. AllByRecursion (λ h. IsFraction h × Among (q ∷ qs) h) (heights_of z p)) (λ p. is_on (point_at z (one_more q)) p ≡ over z q p) pieces
    (λ p k. (none_above z q qs p i l.numbers.0 l.numbers.1 l.in_order k).0) known)
    (λ p t. absurd (both_ways false refl t))
    (each-map (λ p. AllByRecursion (λ h. IsFraction h × Among (q ∷ qs) h) (heights_of z p)) (Known z q qs) pieces
    (λ p. each-map (λ h. IsFraction h × Among (q ∷ qs) h) (IsKnown q qs) (heights_of z p) (λ b. known_first q qs b)) known)
  where
    known : AllByRecursion (λ p. AllByRecursion (λ h. IsFraction h × Among (q ∷ qs) h) (heights_of z p)) pieces
    known = all_listed z (q ∷ qs) pieces i l.has_all

column_from : (pieces : List Piece) (z q : Fraction) (qs : List Fraction) (es : List Active) (vs : List Vertex) (os : List Active) (ls : List Level) → IsFraction z →
    IsHeights pieces z (q ∷ qs) → IsRest pieces z (λ _. true) es vs → Leveled z es vs ls (q ∷ qs) → AreOnward es vs os ls → IsColumn pieces z es vs os ls
column_from pieces z q qs es vs os ls i l r h o =
    record {
      heights = q ∷ qs;
      are_heights = l;
      items =
          λ groups event.
          ap (λ ns. stop_items groups event (counts groups ns) (counts groups []) ss) (sym gap_none)
          ∙ ap (λ ns. stop_items groups event (counts groups (numbers_from 0 gap pieces)) (counts groups ns) ss) (sym above_none)
          ∙ items-fit groups pieces event gap nothing ss (levels_from z q qs) fits
          ∙ ap (map (item_of groups)) (sym (column-levels (record { place = z; listed = event }) q qs pieces i l));
      balanced = λ groups. subst (λ ns. Balanced groups (counts groups ns) ss) gap_none (balanced-fit groups pieces gap nothing ss (levels_from z q qs) fits);
    }
  where
    ss : List Stop
    ss = stops es vs os ls

    gap : Piece → Bool
    gap = is_on (point_at z (one_more q))

    nothing : Piece → Bool
    nothing = λ _. false

    known : AllByRecursion (λ p. AllByRecursion (λ h. IsFraction h × Among (q ∷ qs) h) (heights_of z p)) pieces
    known = all_listed z (q ∷ qs) pieces i l.has_all

    gap_none : numbers_from 0 gap pieces ≡ []
    gap_none =
        numbers_from-none 0 gap pieces
        (each-map (λ p. AllByRecursion (λ h. IsFraction h × Among (q ∷ qs) h) (heights_of z p)) (λ p. gap p ≡ false) pieces
        (λ p k. let n = none_above z q qs p i l.numbers.0 l.numbers.1 l.in_order k in n.0 ∙ n.1) known)

    above_none : numbers_from 0 nothing pieces ≡ []
    above_none = numbers_from-none 0 nothing pieces (every_piece (λ p. nothing p ≡ false) pieces (λ p. refl))

    fits : Fits pieces gap nothing ss (levels_from z q qs)
    fits = column_fits pieces z q qs es vs os ls i l r h o

-- ---- a column without heights
-- nothing is on its one place, and nothing above it
none_on : (z : Fraction) (p : Piece) → IsFraction z → AllByRecursion (λ h. IsFraction h × Among [] h) (heights_of z p) → is_on (point_at z (whole (pos 0))) p ≡ false
none_on z p i h =
    on_gap-under z (one_more w) (one_less w) w p i
    (record {
      high = record { positive = lit< tt };
      low = record { positive = lit< tt };
      place = record { positive = lit< tt };
      below = one_more-above w (record { positive = lit< tt });
      above = one_less-below w (record { positive = lit< tt });
    })
    (each-map (λ h. IsFraction h × Among [] h) (Parted (one_more w) (one_less w)) (heights_of z p) (λ b k. absurd k.1) h)
    ∙ none_under z (one_more w) p (each-map (λ h. IsFraction h × Among [] h) (λ b. fraction_lt b (one_more w) ≡ false) (heights_of z p) (λ b k. absurd k.1) h)
  where
    w : Fraction
    w = whole (pos 0)

-- no edge is above that place
none_overhead : (z : Fraction) (p : Piece) → IsFraction z → AllByRecursion (λ h. IsFraction h × Among [] h) (heights_of z p) → is_above (point_at z (whole (pos 0))) p ≡ false
none_overhead z p i h =
    is_above-height z (whole (pos 0)) p (record { positive = lit< tt })
    ∙ elim (cases_Bool (passes z p)) [
      | inl t ↦ absurd (passes-listed (λ h. IsFraction h × Among [] h) z p t h).1
      | inr f ↦ ap (λ b. b && fraction_lt (whole (pos 0)) (height_of z p)) f
    ]

-- the items of a column without heights
column_bare : (pieces : List Piece) (z : Fraction) (es : List Active) (vs : List Vertex) (os : List Active) (ls : List Level) → IsFraction z →
    IsHeights pieces z [] → Leveled z es vs ls [] → IsColumn pieces z es vs os ls
column_bare pieces z es vs os (k ∷ ls) i l h = absurd h
column_bare pieces z es vs os [] i l h =
    record {
      heights = [];
      are_heights = l;
      items =
          λ groups event.
          ap (λ ns. item (dimension event false) (counts groups ns) (counts groups []) ∷ []) (sym on_none)
          ∙ ap (λ ns. item (dimension event false) (counts groups (numbers_from 0 (is_on (point_at z (whole (pos 0)))) pieces)) (counts groups ns) ∷ []) (sym above_none);
      balanced = λ groups. refl;
    }
  where
    known : AllByRecursion (λ p. AllByRecursion (λ h. IsFraction h × Among [] h) (heights_of z p)) pieces
    known = all_listed z [] pieces i l.has_all

    on_none : numbers_from 0 (is_on (point_at z (whole (pos 0)))) pieces ≡ []
    on_none = numbers_from-none 0 _ pieces (each-map (λ p. AllByRecursion (λ h. IsFraction h × Among [] h) (heights_of z p)) _ pieces (λ p. none_on z p i) known)

    above_none : numbers_from 0 (is_above (point_at z (whole (pos 0)))) pieces ≡ []
    above_none = numbers_from-none 0 _ pieces (each-map (λ p. AllByRecursion (λ h. IsFraction h × Among [] h) (heights_of z p)) _ pieces (λ p. none_overhead z p i) known)

-- ---- what is handed out for a column are the items of its cells
-- of any column
column_by : (pieces : List Piece) (z : Fraction) (qs : List Fraction) (es : List Active) (vs : List Vertex) (os : List Active) (ls : List Level) → IsFraction z →
    IsHeights pieces z qs → IsRest pieces z (λ _. true) es vs → Leveled z es vs ls qs → AreOnward es vs os ls → IsColumn pieces z es vs os ls
column_by pieces z [] es vs os ls i l r h o = column_bare pieces z es vs os ls i l h
column_by pieces z (q ∷ qs) es vs os ls i l r h o = column_from pieces z q qs es vs os ls i l r h o

-- the levels that a column is cut into hand out just the items of the cells of that column
pub column-is : (pieces : List Piece) (z : Fraction) (column : Option Fraction) (es : List Active) (cs : List Contact) (vs : List Vertex) (os : List Active) (ls : List Level) →
    IsComing pieces z column es cs → IsColumnOf pieces z vs → AreTops column es cs vs ls → AreOnward es vs os ls → IsColumn pieces z es vs os ls
column-is pieces z column es cs vs os ls c v t o =
    let l = leveled z column es cs vs ls c.place c.steps v.here v.in_order t in
    column_by pieces z l.0 es vs os ls c.place (leveled_heights pieces z es vs ls l.0 c.place c.entries c.coming v.are l.1) (first_rest pieces z es vs c.entries c.coming v.are) l.1 o
