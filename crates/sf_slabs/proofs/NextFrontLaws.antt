-- The edges that go on from a column are a front again: each an edge of the pieces, those that go on, from the top.
use Rattle.std.proofs.Common.{◌≡◌, refl, ap, sym, subst, ◌∙◌, ℕ, ◌+◌, pos, ◌*ℤ◌, lit<, arith, Bool, true, false, cond, ◌&&◌, ◌||◌, List, [], ◌∷◌, ◌++◌, take, drop, Option, Some, None, inl, inr}
use Rattle.std.specs.List.{AllByRecursion, Contains, flat_map, sum_by}
use Rattle.std.specs.declared.cmp.Ordering.TheVariants.{Equal, Less}
use Rattle.std.proofs.lemmas.Bool.{and_from, cases_Bool, false≢true}
use Rattle.std.proofs.lemmas.List.{take-append-drop}
use Rattle.std.proofs.lemmas.List.Elements.{All-contains, All-from_recursion}
use Rattle.std.proofs.lemmas.List.Sums.{sum_by-append}
use Rattle.sf_grid.specs.Fraction.{Fraction, IsFraction, fraction_eq, fraction_lt, one_more, whole}
use Rattle.sf_grid.specs.Plane.{Coordinates, point_at}
use Rattle.sf_grid.specs.Edge.{Edge as Line, edge_between, height_cmp, is_vertical, left_end, right_end}
use Rattle.sf_grid.proofs.CallerLemmas.{Same, is_equal, lt_from_test, test_from_eq}
use Rattle.sf_strips.specs.declared.active.Active.{Active}
use Rattle.sf_strips.specs.declared.contact.Contact.{Contact}
use Rattle.sf_strips.specs.declared.level.Level.{Level}
use Rattle.sf_strips.specs.declared.piece.Piece.{Piece}
use Rattle.sf_strips.specs.declared.piece.Piece.TheVariants.{Dot, Edge}
use Rattle.sf_strips.specs.declared.vertex.Role.TheVariants.{Begin, Bottom, End, Top}
use Rattle.sf_strips.specs.declared.vertex.Vertex.{Vertex}
use Rattle.sf_cells.specs.Cells.{numbers_from}
use Rattle.sf_strips.specs.Fronts.{AreContacts, Descend, DescendFrom, IsEntry, IsEntryIn, SameNumbers, line_of, pieces_of}
use Rattle.sf_cells.specs.Hands.{Stop, stops}
use Rattle.sf_strips.specs.Levels.{AreOnward, AreStarts, AreTops, IsOnward, SlopesFall, SlopesFallFrom, StartsWith, goes_past, going_past, if_begins}
use Rattle.sf_cells.specs.Pieces.{heights_of, is_on}
use Rattle.sf_strips.specs.Slanted.{rightward_edge}
use Rattle.sf_strips.specs.Vertices.{IsVertexIn, IsVertexOf, begins, lower_end, piece_at, upper_end, vertex, vertices_of}
use Rattle.sf_strips.proofs.CallerLemmas.{start-entry}
use Rattle.sf_slabs.proofs.AboveLaws.{goes_on_from, height_of, passes}
use Rattle.sf_slabs.proofs.ColumnIsLaws.{IsRest, all_listed, column_fits, every_piece, first_rest}
use Rattle.sf_slabs.proofs.LeveledLaws.{IsAtLevel, Leveled, active_height, active_height-number, drop-each_active, drop-each_vertex, height_cmp-active, leveled, vertex_height}
use Rattle.sf_slabs.proofs.CellLaws.{AgreeOn, numbers_from-agree}
use Rattle.sf_slabs.proofs.ColumnLaws.{IsHeights}
use Rattle.sf_slabs.proofs.LevelHeightsLaws.{leveled_heights}
use Rattle.sf_slabs.proofs.LevelLaws.{Level as PieceLevel, levels_from}
use Rattle.sf_slabs.proofs.LevelPiecesLaws.{height-left}
use Rattle.sf_slabs.proofs.LocateLaws.{less_from_lt}
use Rattle.sf_slabs.proofs.NumberLaws.{Among, Follow-rest, Numbers, Same-trans, rising_order}
use Rattle.sf_slabs.proofs.SampleLaws.{Follow, FollowFrom}
use Rattle.sf_slabs.proofs.TopLaws.{passes-listed}
use Rattle.sf_slabs.proofs.Shapes.{Fits, IsColumnOf, IsComing, IsFront, in_column}
use Rattle.sf_slabs.proofs.WeightLaws.{numbers_from-none, pieces_of-append}
use Rattle.sf_slabs.proofs.EachLaws.{each-append, each-join, each-map, each-permuted, each-take}

-- ---- every edge of a list
-- those that go on are among all
going-each : (P : Active → Type 0) (vs : List Vertex) (es : List Active) → AllByRecursion P es → AllByRecursion P (going_past vs es)
going-each P vs [] h = tt
going-each P vs (a ∷ es) h = by_test (goes_past vs a) (going-each P vs es h.1)
  where
    by_test : (t : Bool) → AllByRecursion P (going_past vs es) → AllByRecursion P (cond t (a ∷ going_past vs es) (going_past vs es))
    by_test true rest = (h.0, rest)
    by_test false rest = rest

-- ---- the edges that begin at vertices
-- an edge that begins at a vertex has it as its left end
begins_left : (p : Piece) (v : Vertex) (a : Active) → IsEntryIn (Some p) a → Contains (vertices_of v.piece p) v → begins v.role ≡ true → a.edge.left ≡ v.at
begins_left (Dot s) v a h c b = absurd h
begins_left (Edge s t) v a h c b =
    All-contains Left (vertices_of v.piece (Edge s t)) v (All-from_recursion Left (vertices_of v.piece (Edge s t)) (all_left (is_vertical e) h.slants)) c b
  where
    e : Line
    e = edge_between s t

    Left : Vertex → Type 0
    Left u = begins u.role ≡ true → a.edge.left ≡ u.at

    all_left : (t : Bool) → t ≡ false →
        AllByRecursion Left (cond t
        (vertex (upper_end e) Top v.piece ∷ vertex (lower_end e) Bottom v.piece ∷ [])
        (vertex (left_end e) (Begin (rightward_edge e)) v.piece ∷ vertex (right_end e) End v.piece ∷ []))
    all_left true f = absurd (false≢true (sym f))
    all_left false f = (λ _. h.left, (λ g. absurd (false≢true g), tt))

begins_at : (pieces : List Piece) (v : Vertex) (a : Active) → IsVertexOf pieces v → begins v.role ≡ true → a.piece ≡ v.piece → IsEntry pieces a → a.edge.left ≡ v.at
begins_at pieces v a h b e k = by_piece (piece_at pieces v.piece) h (subst (λ i. IsEntryIn (piece_at pieces i) a) e k)
  where
    by_piece : (o : Option Piece) → IsVertexIn o v → IsEntryIn o a → a.edge.left ≡ v.at
    by_piece None h k = absurd h
    by_piece (Some p) h k = begins_left p v a k h b

-- ---- what goes on from a level is at its height
-- an edge of the pieces, at the height q of the column z
pub record StandsAt (pieces : List Piece) (z q : Fraction) (a : Active) : Type 0 where
  pub entry : IsEntry pieces a
  pub at_height : Same (active_height z a) q

-- a vertex of the pieces, at the height q of the column z
pub record LiesAt (pieces : List Piece) (z q : Fraction) (v : Vertex) : Type 0 where
  pub of_piece : IsVertexOf pieces v
  pub here : in_column z v ≡ true
  pub at_height : Same (vertex_height v) q

start_at : (pieces : List Piece) (z q : Fraction) (v : Vertex) (a : Active) → LiesAt pieces z q v → begins v.role ≡ true → a.piece ≡ v.piece → IsEntry pieces a →
    StandsAt pieces z q a
start_at pieces z q v a h b e k =
    let left = begins_at pieces v a h.of_piece b e k in
    record {
      entry = k;
      at_height =
          Same-trans (active_height z a) (whole a.edge.left.y) q (record { positive = lit< tt })
          (height-left a.edge.left a.edge.right z (lt_from_test _ _ a.edge.rightward)
          (subst (λ (c : Coordinates). fraction_eq (whole c.x) z ≡ true) (sym left) h.here))
          (subst (λ (c : Coordinates). Same (whole c.y) q) (sym left) h.at_height);
    }

starts_at : (pieces : List Piece) (z q : Fraction) (vs : List Vertex) (ss : List Active) → AllByRecursion (LiesAt pieces z q) vs → AreStarts vs ss →
    AllByRecursion (StandsAt pieces z q) ss
starts_at pieces z q [] ss h k = subst (AllByRecursion (StandsAt pieces z q)) (sym k) tt
starts_at pieces z q (v ∷ vs) ss h k = by_role (begins v.role) refl (λ ss. starts_at pieces z q vs ss h.1) ss k
  where
    by_role : (b : Bool) → begins v.role ≡ b → ((ss : List Active) → AreStarts vs ss → AllByRecursion (StandsAt pieces z q) ss) → (ss : List Active) →
        if_begins b (StartsWith v (AreStarts vs)) (AreStarts vs) ss → AllByRecursion (StandsAt pieces z q) ss
    by_role false e rest ss k = rest ss k
    by_role true e rest [] k = absurd k
    by_role true e rest (a ∷ ss) k = (start_at pieces z q v a h.0 e k.0 (start-entry pieces v a h.0.of_piece k.0 k.1.0), rest ss k.1.1)

pub onward_at : (pieces : List Piece) (z q : Fraction) (run : List Active) (group : List Vertex) (onward : List Active) → AllByRecursion (StandsAt pieces z q) run →
    AllByRecursion (LiesAt pieces z q) group → IsOnward run group onward → AllByRecursion (StandsAt pieces z q) onward
onward_at pieces z q run group onward h k o =
    each-permuted (StandsAt pieces z q) (going_past group run ++ o.starts) onward o.same
    (each-append (StandsAt pieces z q) (going_past group run) o.starts
    (going-each (StandsAt pieces z q) group run h)
    (starts_at pieces z q group o.starts k o.are_starts))

-- ---- level after level
paired : (pieces : List Piece) (z q : Fraction) (es : List Active) → AllByRecursion (IsEntry pieces) es → AllByRecursion (λ a. Same (active_height z a) q) es →
    AllByRecursion (StandsAt pieces z q) es
paired pieces z q [] h k = tt
paired pieces z q (a ∷ es) h k = (record { entry = h.0; at_height = k.0 }, paired pieces z q es h.1 k.1)

paired_vertices : (pieces : List Piece) (z q : Fraction) (vs : List Vertex) → AllByRecursion (IsVertexOf pieces) vs → AllByRecursion (λ v. in_column z v ≡ true) vs →
    AllByRecursion (λ v. Same (vertex_height v) q) vs → AllByRecursion (LiesAt pieces z q) vs
paired_vertices pieces z q [] h i k = tt
paired_vertices pieces z q (v ∷ vs) h i k = (record { of_piece = h.0; here = i.0; at_height = k.0 }, paired_vertices pieces z q vs h.1 i.1 k.1)

-- what is left of a column
pub record IsLeft (pieces : List Piece) (z : Fraction) (es : List Active) (vs : List Vertex) : Type 0 where
  pub place : IsFraction z
  pub entries : AllByRecursion (IsEntry pieces) es
  pub each : AllByRecursion (IsVertexOf pieces) vs
  pub here : AllByRecursion (λ v. in_column z v ≡ true) vs

left_after : (pieces : List Piece) (z : Fraction) (es : List Active) (vs : List Vertex) (n m : ℕ) → IsLeft pieces z es vs → IsLeft pieces z (drop n es) (drop m vs)
left_after pieces z es vs n m l =
    record {
      place = l.place;
      entries = drop-each_active (IsEntry pieces) n es l.entries;
      each = drop-each_vertex (IsVertexOf pieces) m vs l.each;
      here = drop-each_vertex (λ v. in_column z v ≡ true) m vs l.here;
    }

pub level_onward : (pieces : List Piece) (z q : Fraction) (es : List Active) (vs : List Vertex) (n m : ℕ) (onward : List Active) → IsLeft pieces z es vs →
    IsAtLevel z q es vs n m → IsOnward (take n es) (take m vs) onward → AllByRecursion (StandsAt pieces z q) onward
level_onward pieces z q es vs n m onward l h o =
    onward_at pieces z q (take n es) (take m vs) onward
    (paired pieces z q (take n es) (each-take (IsEntry pieces) n es l.entries) h.edges)
    (paired_vertices pieces z q (take m vs) (each-take (IsVertexOf pieces) m vs l.each) (each-take (λ v. in_column z v ≡ true) m vs l.here) h.vertices)
    o

-- every edge that goes on is one of the pieces
pub onward_entries : (pieces : List Piece) (z : Fraction) (es : List Active) (vs : List Vertex) (os : List Active) (ls : List Level) (qs : List Fraction) →
    IsLeft pieces z es vs → Leveled z es vs ls qs → AreOnward es vs os ls → AllByRecursion (IsEntry pieces) os
onward_entries pieces z es vs os [] qs l h o = subst (AllByRecursion (IsEntry pieces)) (sym o) tt
onward_entries pieces z es vs os (k ∷ ls) [] l h o = absurd h
onward_entries pieces z es vs os (k ∷ ls) (q ∷ qs) l h o =
    each-join (IsEntry pieces) k.onward os
    (each-map (StandsAt pieces z q) (IsEntry pieces) (take k.onward os) (λ a s. s.entry)
    (level_onward pieces z q es vs k.edges k.vertices (take k.onward os) l h.0 o.0))
    (onward_entries pieces z (drop k.edges es) (drop k.vertices vs) (drop k.onward os) ls qs (left_after pieces z es vs k.edges k.vertices l) h.1 o.1)

-- ---- from the top
level_with : (x : Fraction) (a b : Active) (q : Fraction) → IsFraction q → Same (active_height x a) q → Same (active_height x b) q →
    height_cmp (line_of b) (line_of a) x ≡ Equal
level_with x a b q i h k =
    height_cmp-active x a b
    ∙ is_equal ((active_height x b).num *ℤ pos (active_height x a).den) ((active_height x a).num *ℤ pos (active_height x b).den)
    (Same-trans (active_height x b) q (active_height x a) i k (sym h))

below_it : (x : Fraction) (a b : Active) (q : Fraction) → IsFraction x → IsFraction q → Same (active_height x a) q → fraction_lt (active_height x b) q ≡ true →
    height_cmp (line_of b) (line_of a) x ≡ Less
below_it x a b q i j h l =
    height_cmp-active x a b
    ∙ less_from_lt (active_height x b) (active_height x a)
    (rising_order.same_second (active_height x b) q (active_height x a) (active_height-number x b i) j (active_height-number x a i) l (sym h))

-- a segment at one height by falling slope, and what is below it
descend_from : (x q : Fraction) (a : Active) (segment rest : List Active) → IsFraction x → IsFraction q → Same (active_height x a) q →
    AllByRecursion (λ b. Same (active_height x b) q) segment → SlopesFallFrom a segment → AllByRecursion (λ b. fraction_lt (active_height x b) q ≡ true) rest → Descend x rest →
    DescendFrom x a (segment ++ rest)
descend_from x q a [] [] i j h k s l d = tt
descend_from x q a [] (b ∷ rest) i j h k s l d = (inl (below_it x a b q i j h l.0), d)
descend_from x q a (b ∷ segment) rest i j h k s l d =
    (inr (level_with x a b q j h k.0, s.0), descend_from x q b segment rest i j k.0 k.1 s.1 l d)

descend_join : (x q : Fraction) (segment rest : List Active) → IsFraction x → IsFraction q → AllByRecursion (λ b. Same (active_height x b) q) segment → SlopesFall segment →
    AllByRecursion (λ b. fraction_lt (active_height x b) q ≡ true) rest → Descend x rest → Descend x (segment ++ rest)
descend_join x q [] rest i j k s l d = d
descend_join x q (a ∷ segment) rest i j k s l d = descend_from x q a segment rest i j k.0 k.1 s l d

-- what goes on from heights below q is below q
onward_below : (pieces : List Piece) (x q : Fraction) (es : List Active) (vs : List Vertex) (os : List Active) (ls : List Level) (qs : List Fraction) → IsFraction q → Numbers qs →
    FollowFrom (λ a b. fraction_lt b a) q qs → IsLeft pieces x es vs → Leveled x es vs ls qs → AreOnward es vs os ls →
    AllByRecursion (λ b. fraction_lt (active_height x b) q ≡ true) os
onward_below pieces x q es vs os [] qs j n f l h o = subst (AllByRecursion (λ b. fraction_lt (active_height x b) q ≡ true)) (sym o) tt
onward_below pieces x q es vs os (k ∷ ls) [] j n f l h o = absurd h
onward_below pieces x q es vs os (k ∷ ls) (r ∷ rs) j n f l h o =
    each-join (λ b. fraction_lt (active_height x b) q ≡ true) k.onward os
    (each-map (StandsAt pieces x r) (λ b. fraction_lt (active_height x b) q ≡ true) (take k.onward os)
    (λ b s. rising_order.same_first (active_height x b) r q (active_height-number x b l.place) n.0 j s.at_height f.0)
    (level_onward pieces x r es vs k.edges k.vertices (take k.onward os) l h.0 o.0))
    (each-map (λ b. fraction_lt (active_height x b) r ≡ true) (λ b. fraction_lt (active_height x b) q ≡ true) (drop k.onward os)
    (λ b s. rising_order.trans (active_height x b) r q (active_height-number x b l.place) n.0 j s f.0)
    (onward_below pieces x r (drop k.edges es) (drop k.vertices vs) (drop k.onward os) ls rs n.0 n.1 f.1 (left_after pieces x es vs k.edges k.vertices l) h.1 o.1))

pub onward_descends : (pieces : List Piece) (x : Fraction) (es : List Active) (vs : List Vertex) (os : List Active) (ls : List Level) (qs : List Fraction) → Numbers qs →
    Follow (λ a b. fraction_lt b a) qs → IsLeft pieces x es vs → Leveled x es vs ls qs → AreOnward es vs os ls → Descend x os
onward_descends pieces x es vs os [] qs n f l h o = subst (Descend x) (sym o) tt
onward_descends pieces x es vs os (k ∷ ls) [] n f l h o = absurd h
onward_descends pieces x es vs os (k ∷ ls) (q ∷ qs) n f l h o =
    let left = left_after pieces x es vs k.edges k.vertices l in
    subst (Descend x) (take-append-drop k.onward os)
    (descend_join x q (take k.onward os) (drop k.onward os) l.place n.0
    (each-map (StandsAt pieces x q) (λ b. Same (active_height x b) q) (take k.onward os) (λ b s. s.at_height)
    (level_onward pieces x q es vs k.edges k.vertices (take k.onward os) l h.0 o.0))
    o.0.fall
    (onward_below pieces x q (drop k.edges es) (drop k.vertices vs) (drop k.onward os) ls qs n.0 n.1 f left h.1 o.1)
    (onward_descends pieces x (drop k.edges es) (drop k.vertices vs) (drop k.onward os) ls qs n.1 (Follow-rest (λ a b. fraction_lt b a) q qs f) left h.1 o.1))

-- ---- just the edges that go on
-- what is above once all levels are past
abbrev pub in_the_end : (Piece → Bool) → List PieceLevel → Piece → Bool
in_the_end above [] = above
in_the_end above (l ∷ ls) = in_the_end (λ p. above p || l.from p) ls

onward_total : (pieces : List Piece) (gap above : Piece → Bool) (ss : List Stop) (ls : List PieceLevel) → Fits pieces gap above ss ls →
    SameNumbers (flat_map (λ s. s.onward) ss ++ numbers_from 0 above pieces) (numbers_from 0 (in_the_end above ls) pieces)
onward_total pieces gap above [] [] f = λ w. refl
onward_total pieces gap above [] (l ∷ ls) f = absurd f
onward_total pieces gap above (s ∷ ss) [] f = absurd f
onward_total pieces gap above (s ∷ ss) (l ∷ ls) f =
    let next : List ℕ = numbers_from 0 (λ p. above p || l.from p) pieces in
    let rest = onward_total pieces l.gap (λ p. above p || l.from p) ss ls f.1.1.1 in
    λ w.
    sum_by-append w (s.onward ++ flat_map (λ s. s.onward) ss) (numbers_from 0 above pieces)
    ∙ ap (λ n. n + sum_by w (numbers_from 0 above pieces)) (sum_by-append w s.onward (flat_map (λ s. s.onward) ss))
    ∙ regrouped (sum_by w s.onward) (sum_by w (flat_map (λ s. s.onward) ss)) (sum_by w (numbers_from 0 above pieces)) (sum_by w next)
    (sym (sum_by-append w s.onward (numbers_from 0 above pieces)) ∙ f.1.1.0 w)
    ∙ sym (sum_by-append w (flat_map (λ s. s.onward) ss) next)
    ∙ rest w
  where
    regrouped : (a b c d : ℕ) → a + c ≡ d → (a + b) + c ≡ b + d
    regrouped a b c d e = omega arith

stops_onward : (es : List Active) (vs : List Vertex) (os : List Active) (ls : List Level) (pieces : List Piece) → AreOnward es vs os ls →
    flat_map (λ s. s.onward) (stops es vs os ls) ≡ pieces_of os
stops_onward es vs os [] pieces o = ap pieces_of (sym o)
stops_onward es vs os (l ∷ ls) pieces o =
    ap (λ ns. pieces_of (take l.onward os) ++ ns) (stops_onward (drop l.edges es) (drop l.vertices vs) (drop l.onward os) ls pieces o.1)
    ∙ sym (pieces_of-append (take l.onward os) (drop l.onward os))
    ∙ ap pieces_of (take-append-drop l.onward os)

-- what has gone on stays
stays : (z q : Fraction) (qs : List Fraction) (above : Piece → Bool) (p : Piece) → above p ≡ true → in_the_end above (levels_from z q qs) p ≡ true
stays z q [] above p h = ap (λ b. b || goes_on_from z q p) h
stays z q (r ∷ rs) above p h = stays z r rs (λ p. above p || goes_on_from z q p) p (ap (λ b. b || goes_on_from z q p) h)

goes_here : (z q : Fraction) (above : Piece → Bool) (p : Piece) → passes z p ≡ true → Same (height_of z p) q → (above p || goes_on_from z q p) ≡ true
goes_here z q above p h e = or_true (above p) (goes_on_from z q p) (and_from _ _ h (test_from_eq _ _ e))
  where
    or_true : (a b : Bool) → b ≡ true → (a || b) ≡ true
    or_true true b f = refl
    or_true false b f = f

-- a piece that goes on does so from one of the heights
goes_on_in_the_end : (z q : Fraction) (qs : List Fraction) (above : Piece → Bool) (p : Piece) → passes z p ≡ true → Among (q ∷ qs) (height_of z p) →
    in_the_end above (levels_from z q qs) p ≡ true
goes_on_in_the_end z q [] above p h a = elim a [ inl here ↦ goes_here z q above p h here | inr later ↦ absurd later ]
goes_on_in_the_end z q (r ∷ rs) above p h a =
    elim a [
      | inl here ↦ stays z r rs (λ p. above p || goes_on_from z q p) p (goes_here z q above p h here)
      | inr later ↦ goes_on_in_the_end z r rs (λ p. above p || goes_on_from z q p) p h later
    ]

-- and no other piece
never_in_the_end : (z q : Fraction) (qs : List Fraction) (above : Piece → Bool) (p : Piece) → passes z p ≡ false → above p ≡ false →
    in_the_end above (levels_from z q qs) p ≡ false
never_in_the_end z q [] above p h k = ap (λ b. b || goes_on_from z q p) k ∙ ap (λ b. b && fraction_eq (height_of z p) q) h
never_in_the_end z q (r ∷ rs) above p h k =
    never_in_the_end z r rs (λ p. above p || goes_on_from z q p) p h (ap (λ b. b || goes_on_from z q p) k ∙ ap (λ b. b && fraction_eq (height_of z p) q) h)

-- the pieces that go on, where the column has heights
active_from : (pieces : List Piece) (z q : Fraction) (qs : List Fraction) (os : List Active) (gap : Piece → Bool) (ss : List Stop) → IsFraction z → IsHeights pieces z (q ∷ qs) →
    flat_map (λ s. s.onward) ss ≡ pieces_of os → Fits pieces gap (λ _. false) ss (levels_from z q qs) → SameNumbers (pieces_of os) (numbers_from 0 (passes z) pieces)
active_from pieces z q qs os gap ss i l e f =
    λ w.
    ap (sum_by w) (sym e)
    ∙ sym (nothing_more (sum_by w (flat_map (λ s. s.onward) ss)) (sum_by w (numbers_from 0 (λ _. false) pieces)) (ap (sum_by w) none))
    ∙ sym (sum_by-append w (flat_map (λ s. s.onward) ss) (numbers_from 0 (λ _. false) pieces))
    ∙ onward_total pieces gap (λ _. false) ss (levels_from z q qs) f w
    ∙ ap (sum_by w) (numbers_from-agree 0 (in_the_end (λ _. false) (levels_from z q qs)) (passes z) pieces (agree pieces (all_listed z (q ∷ qs) pieces i l.has_all)))
  where
    nothing_more : (a b : ℕ) → b ≡ 0 → a + b ≡ a
    nothing_more a b e = omega arith

    none : numbers_from 0 (λ _. false) pieces ≡ []
    none = numbers_from-none 0 (λ _. false) pieces (every_piece (λ p. false ≡ false) pieces (λ p. refl))

    agree : (ps : List Piece) → AllByRecursion (λ p. AllByRecursion (λ h. IsFraction h × Among (q ∷ qs) h) (heights_of z p)) ps →
        AgreeOn (in_the_end (λ _. false) (levels_from z q qs)) (passes z) ps
    agree [] k = tt
    agree (p ∷ ps) k = (
      elim (cases_Bool (passes z p)) [
        | inl t ↦ goes_on_in_the_end z q qs (λ _. false) p t (passes-listed (λ h. IsFraction h × Among (q ∷ qs) h) z p t k.0).1 ∙ sym t
        | inr t ↦ never_in_the_end z q qs (λ _. false) p t refl ∙ sym t
      ],
      agree ps k.1,
    )

-- and where it has none: no piece goes on
active_bare : (pieces : List Piece) (z : Fraction) → IsFraction z → IsHeights pieces z [] → SameNumbers [] (numbers_from 0 (passes z) pieces)
active_bare pieces z i l = λ w. ap (sum_by w) (sym (numbers_from-none 0 (passes z) pieces (none pieces (all_listed z [] pieces i l.has_all))))
  where
    none : (ps : List Piece) → AllByRecursion (λ p. AllByRecursion (λ h. IsFraction h × Among [] h) (heights_of z p)) ps → AllByRecursion (λ p. passes z p ≡ false) ps
    none [] k = tt
    none (p ∷ ps) k = (
      elim (cases_Bool (passes z p)) [
        | inl t ↦ absurd (passes-listed (λ h. IsFraction h × Among [] h) z p t k.0).1
        | inr t ↦ t
      ],
      none ps k.1,
    )

onward_active : (pieces : List Piece) (z : Fraction) (qs : List Fraction) (es : List Active) (vs : List Vertex) (os : List Active) (ls : List Level) → IsFraction z →
    IsHeights pieces z qs → IsRest pieces z (λ _. true) es vs → Leveled z es vs ls qs → AreOnward es vs os ls → SameNumbers (pieces_of os) (numbers_from 0 (passes z) pieces)
onward_active pieces z [] es vs os [] i l r h o = subst (λ fs. SameNumbers (pieces_of fs) (numbers_from 0 (passes z) pieces)) (sym o) (active_bare pieces z i l)
onward_active pieces z [] es vs os (k ∷ ls) i l r h o = absurd h
onward_active pieces z (q ∷ qs) es vs os ls i l r h o =
    active_from pieces z q qs os (is_on (point_at z (one_more q))) (stops es vs os ls) i l (stops_onward es vs os ls pieces o)
    (column_fits pieces z q qs es vs os ls i l r h o)

-- ---- the front right of a column
-- each edge that goes on is one of the pieces
pub entries-after : (pieces : List Piece) (x : Fraction) (column : Option Fraction) (es : List Active) (cs : List Contact) (vs : List Vertex) (os : List Active) (ls : List Level) →
    IsComing pieces x column es cs → IsColumnOf pieces x vs → AreTops column es cs vs ls → AreOnward es vs os ls → AllByRecursion (IsEntry pieces) os
entries-after pieces x column es cs vs os ls c v t o =
    let l = leveled x column es cs vs ls c.place c.steps v.here v.in_order t in
    onward_entries pieces x es vs os ls l.0 (record { place = c.place; entries = c.entries; each = v.each; here = v.here }) l.1 o

-- those that go on are just the pieces that pass
pub active-after : (pieces : List Piece) (x : Fraction) (column : Option Fraction) (es : List Active) (cs : List Contact) (vs : List Vertex) (os : List Active) (ls : List Level) →
    IsComing pieces x column es cs → IsColumnOf pieces x vs → AreTops column es cs vs ls → AreOnward es vs os ls →
    SameNumbers (pieces_of os) (numbers_from 0 (passes x) pieces)
active-after pieces x column es cs vs os ls c v t o =
    let l = leveled x column es cs vs ls c.place c.steps v.here v.in_order t in
    let heights = leveled_heights pieces x es vs ls l.0 c.place c.entries c.coming v.are l.1 in
    onward_active pieces x l.0 es vs os ls c.place heights (first_rest pieces x es vs c.entries c.coming v.are) l.1 o

pub front-after : (pieces : List Piece) (x : Fraction) (column : Option Fraction) (es : List Active) (cs cs' : List Contact) (vs : List Vertex) (os : List Active) (ls : List Level) →
    IsComing pieces x column es cs → IsColumnOf pieces x vs → AreTops column es cs vs ls → AreOnward es vs os ls → AreContacts x os cs' → IsFront pieces x os cs'
front-after pieces x column es cs cs' vs os ls c v t o k =
    let l = leveled x column es cs vs ls c.place c.steps v.here v.in_order t in
    let heights = leveled_heights pieces x es vs ls l.0 c.place c.entries c.coming v.are l.1 in
    record {
      place = c.place;
      entries = entries-after pieces x column es cs vs os ls c v t o;
      active = active-after pieces x column es cs vs os ls c v t o;
      descend =
          onward_descends pieces x es vs os ls l.0 heights.numbers heights.in_order
          (record { place = c.place; entries = c.entries; each = v.each; here = v.here }) l.1 o;
      contacts = k;
    }
