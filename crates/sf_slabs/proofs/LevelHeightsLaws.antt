-- The heights of a column's levels are just the heights at which the pieces meet the column.
use Rattle.std.proofs.Common.{◌≡◌, refl, ap, sym, subst, ◌∙◌, ℕ, zero, suc, ◌+◌, arith, lit<, Bool, true, false, cond, not, ◌&&◌, ◌||◌, List, [], ◌∷◌, ◌++◌, take, drop, inl, inr, Option, Some, None}
use Rattle.std.specs.Prelude.{if◌then◌else◌, int_lt}
use Rattle.std.specs.List.{AllByRecursion, sum_by}
use Rattle.std.proofs.lemmas.Bool.{and_from, and_parts, both_ways, cases_Bool}
use Rattle.std.proofs.lemmas.List.Sums.{sum_by-cons}
use Rattle.sf_grid.specs.Fraction.{Fraction, IsFraction, fraction_eq, fraction_le, fraction_lt, whole}
use Rattle.sf_grid.specs.Plane.{Coordinates}
use Rattle.sf_grid.specs.Edge.{edge_between, height_at, height_rightward, is_vertical, left_end, reaches, right_end}
use Rattle.sf_grid.proofs.CallerLemmas.{Same, eq_from_test, runs_right, test_from_eq}
use Rattle.sf_strips.specs.declared.piece.Piece.{Piece}
use Rattle.sf_strips.specs.declared.piece.Piece.TheVariants.{Dot, Edge}
use Rattle.sf_strips.specs.declared.active.Active.{Active}
use Rattle.sf_strips.specs.declared.level.Level.{Level}
use Rattle.sf_strips.specs.declared.vertex.Role.TheVariants.{Begin, Bottom, End, Top}
use Rattle.sf_strips.specs.declared.vertex.Vertex.{Vertex}
use Rattle.sf_cells.specs.Cells.{numbers_from}
use Rattle.sf_strips.specs.Fronts.{IsEntry, IsEntryIn, SameNumbers, pieces_of}
use Rattle.sf_cells.specs.Pieces.{heights_of, if_in_column}
use Rattle.sf_strips.specs.Slanted.{rightward_edge}
use Rattle.sf_strips.specs.Vertices.{all_vertices, lower_end, piece_at, upper_end, vertex, vertices_of}
use Rattle.sf_slabs.proofs.AboveLaws.{height_of}
use Rattle.sf_slabs.proofs.ColumnLaws.{IsHeights}
use Rattle.sf_slabs.proofs.HeightsLaws.{heights_in}
use Rattle.sf_slabs.proofs.LevelPiecesLaws.{comes_to-vertical, height-left, height-right, lies_by, lower_column, upper_column}
use Rattle.sf_slabs.proofs.LeveledLaws.{IsAtLevel, Leveled, active_height, active_height-number, drop-each_active, drop-each_vertex, vertex_height, vertex_height-number}
use Rattle.sf_slabs.proofs.NumberLaws.{Among, Numbers, Same-trans, rising_order}
use Rattle.sf_slabs.proofs.SampleLaws.{Follow, FollowFrom, if_cases}
use Rattle.sf_slabs.proofs.Shapes.{AreVertices, comes_to, in_column}
use Rattle.sf_slabs.proofs.TopLaws.{if_false, if_true}
use Rattle.sf_slabs.proofs.WeightLaws.{SameNumbers-chosen, SameNumbers-chosen_none, SameNumbers-none, chosen, passes_at}
use Rattle.sf_slabs.proofs.EachLaws.{each-append, each-join, each-map, each-parts}

-- ---- a number among others, as a test
abbrev pub is_among : List Fraction → Fraction → Bool
is_among [] h = false
is_among (q ∷ qs) h = fraction_eq h q || is_among qs h

-- the test says that it is among them, and passes where it is
pub among_from_test : (qs : List Fraction) (h : Fraction) → is_among qs h ≡ true → Among qs h
among_from_test [] h e = absurd (both_ways false refl e)
among_from_test (q ∷ qs) h e = by_test (fraction_eq h q) refl e (among_from_test qs h)
  where
    by_test : (t : Bool) → fraction_eq h q ≡ t → (t || is_among qs h) ≡ true → (is_among qs h ≡ true → Among qs h) → Among (q ∷ qs) h
    by_test true f e rest = inl (eq_from_test _ _ f)
    by_test false f e rest = inr (rest e)

pub test_from_among : (qs : List Fraction) (h : Fraction) → Among qs h → is_among qs h ≡ true
test_from_among [] h a = absurd a
test_from_among (q ∷ qs) h a =
    elim a [
      | inl here ↦ ap (λ t. t || is_among qs h) (test_from_eq _ _ here)
      | inr later ↦ ap (λ t. fraction_eq h q || t) (test_from_among qs h later) ∙ or_true (fraction_eq h q)
    ]
  where
    or_true : (b : Bool) → (b || true) ≡ true
    or_true true = refl
    or_true false = refl

-- however the number is written
pub Among-same : (qs : List Fraction) (h k : Fraction) → IsFraction h → Same k h → Among qs h → Among qs k
Among-same [] h k i e a = absurd a
Among-same (q ∷ qs) h k i e a = elim a [ inl here ↦ inl (Same-trans k h q i e here) | inr later ↦ inr (Among-same qs h k i e later) ]

-- a number of the first of two lists; of the second
Among-left : (qs rs : List Fraction) (h : Fraction) → Among qs h → Among (qs ++ rs) h
Among-left [] rs h a = absurd a
Among-left (q ∷ qs) rs h a = elim a [ inl here ↦ inl here | inr later ↦ inr (Among-left qs rs h later) ]

Among-right : (qs rs : List Fraction) (h : Fraction) → Among rs h → Among (qs ++ rs) h
Among-right [] rs h a = a
Among-right (q ∷ qs) rs h a = inr (Among-right qs rs h a)

-- ---- the heights of a piece from those of its vertices and the height at which it comes
-- a property of a vertex where it lies in the column
abbrev pub InColumn : Fraction → (Fraction → Type 0) → Vertex → Type 0
InColumn z P v = in_column z v ≡ true → P (vertex_height v)

-- both ends of a vertical edge
both_ends : (P : Fraction → Type 0) (a b : Coordinates) → P (whole (upper_end (edge_between a b)).y) → P (whole (lower_end (edge_between a b)).y) →
    P (whole a.y) × P (whole b.y)
both_ends P a b h k = by_test (int_lt a.y b.y) h k
  where
    by_test : (t : Bool) → P (whole (cond t b a).y) → P (whole (cond t a b).y) → P (whole a.y) × P (whole b.y)
    by_test true h k = (k, h)
    by_test false h k = (h, k)

-- and from its ends on the grid
one_end : (P : Fraction → Type 0) (a b : Coordinates) → P (whole a.y) → P (whole b.y) → P (whole (upper_end (edge_between a b)).y) × P (whole (lower_end (edge_between a b)).y)
one_end P a b h k = by_test (int_lt a.y b.y)
  where
    by_test : (t : Bool) → P (whole (cond t b a).y) × P (whole (cond t a b).y)
    by_test true = (k, h)
    by_test false = (h, k)

-- an edge that reaches the column begins there or comes to it from the left
slanted_among : (z : Fraction) (hs : List Fraction) (a b : Coordinates) → IsFraction z → is_vertical (edge_between a b) ≡ false → reaches (edge_between a b) z ≡ true →
    (comes_to z (Edge a b) ≡ true → Among hs (height_at (edge_between a b) z)) →
    (fraction_eq (whole (left_end (edge_between a b)).x) z ≡ true → Among hs (whole (left_end (edge_between a b)).y)) → Among hs (height_at (edge_between a b) z)
slanted_among z hs a b i s r h k =
    let e = edge_between a b in
    let l = lies_by z z e i s in
    let parts = and_parts (fraction_le (whole (left_end e).x) z) (fraction_le z (whole (right_end e).x)) (sym l.reached ∙ r) in
    elim (cases_Bool (fraction_eq (whole (left_end e).x) z)) [
      | inl begins ↦ Among-same hs (whole (left_end e).y) (height_at e z) (record { positive = lit< tt }) (height-left (left_end e) (right_end e) z (runs_right e s) begins) (k begins)
      | inr before ↦
          h (and_from _ _
          (strictly (fraction_lt (whole (left_end e).x) z) (fraction_eq (whole (left_end e).x) z) (sym l.left ∙ parts.0) before)
          parts.1)
    ]
  where
    strictly : (lt eq : Bool) → (lt || eq) ≡ true → eq ≡ false → lt ≡ true
    strictly true eq e f = refl
    strictly false eq e f = absurd (both_ways eq f e)

-- all heights of a piece are among the numbers hs, if those are that its vertices have and at which it comes
pub piece_among : (z : Fraction) (hs : List Fraction) (i : ℕ) (p : Piece) → IsFraction z → (comes_to z p ≡ true → Among hs (height_of z p)) →
    AllByRecursion (InColumn z (Among hs)) (vertices_of i p) → AllByRecursion (Among hs) (heights_of z p)
piece_among z hs i (Edge a b) j h k =
    let e = edge_between a b in
    if_cases (AllByRecursion (Among hs)) (is_vertical e) (if_in_column z a (whole a.y ∷ whole b.y ∷ [])) (if reaches e z then height_at e z ∷ [] else [])
    (λ u. if_cases (AllByRecursion (Among hs)) (fraction_eq (whole a.x) z) (whole a.y ∷ whole b.y ∷ []) []
    (λ t.
    let ends = if_true (AllByRecursion (InColumn z (Among hs))) (is_vertical e) (vertex (upper_end e) Top i ∷ vertex (lower_end e) Bottom i ∷ []) (vertex (left_end e) (Begin (rightward_edge e)) i ∷ vertex (right_end e) End i ∷ []) u k in
    let both = both_ends (Among hs) a b (ends.0 (ap (λ x. fraction_eq (whole x) z) (upper_column a b u) ∙ t)) (ends.1.0 (ap (λ x. fraction_eq (whole x) z) (lower_column a b u) ∙ t)) in
    (both.0, (both.1, tt)))
    (λ _. tt))
    (λ s. if_cases (AllByRecursion (Among hs)) (reaches e z) (height_at e z ∷ []) []
    (λ r.
    let ends = if_false (AllByRecursion (InColumn z (Among hs))) (is_vertical e) (vertex (upper_end e) Top i ∷ vertex (lower_end e) Bottom i ∷ []) (vertex (left_end e) (Begin (rightward_edge e)) i ∷ vertex (right_end e) End i ∷ []) s k in
    (slanted_among z hs a b j s r h ends.0, tt))
    (λ _. tt))
piece_among z hs i (Dot a) j h k = if_cases (AllByRecursion (Among hs)) (fraction_eq (whole a.x) z) (whole a.y ∷ []) [] (λ t. (k.0 t, tt)) (λ _. tt)

-- ---- and the other way round
-- the height at which a piece comes is one of its heights
pub comes_among : (z : Fraction) (p : Piece) → IsFraction z → comes_to z p ≡ true → Among (heights_of z p) (height_of z p)
comes_among z (Edge a b) i h =
    let e = edge_between a b in
    if_cases (λ hs. Among hs (height_at e z)) (is_vertical e) (if_in_column z a (whole a.y ∷ whole b.y ∷ [])) (if reaches e z then height_at e z ∷ [] else [])
    (λ u. absurd (both_ways (comes_to z (Edge a b)) (comes_to-vertical z a b u) h))
    (λ s. if_cases (λ hs. Among hs (height_at e z)) (reaches e z) (height_at e z ∷ []) [] (λ _. inl refl)
    (λ n.
    let l = lies_by z z e i s in
    let parts = and_parts (fraction_lt (whole (left_end e).x) z) (fraction_le z (whole (right_end e).x)) h in
    absurd (both_ways (reaches e z) n (l.reached ∙ and_from _ _ (l.left ∙ ap (λ t. t || fraction_eq (whole (left_end e).x) z) parts.0) parts.1))))
comes_among z (Dot a) i h = absurd (both_ways false refl h)

-- an edge that isn't vertical has its end's height in its end's column
end_among : (z : Fraction) (a b : Coordinates) (y : Fraction) → is_vertical (edge_between a b) ≡ false → reaches (edge_between a b) z ≡ true → Same y (height_at (edge_between a b) z) →
    Among (heights_of z (Edge a b)) y
end_among z a b y s r e =
    if_cases (λ hs. Among hs y) (is_vertical (edge_between a b)) (if_in_column z a (whole a.y ∷ whole b.y ∷ [])) (if reaches (edge_between a b) z then height_at (edge_between a b) z ∷ [] else [])
    (λ u. absurd (both_ways (is_vertical (edge_between a b)) s u))
    (λ _. if_cases (λ hs. Among hs y) (reaches (edge_between a b) z) (height_at (edge_between a b) z ∷ []) [] (λ _. inl e) (λ n. absurd (both_ways (reaches (edge_between a b) z) n r)))

-- a vertical edge has the heights of its ends in its column
upright_among : (z : Fraction) (a b : Coordinates) (y : Fraction) → is_vertical (edge_between a b) ≡ true → fraction_eq (whole a.x) z ≡ true → Among (whole a.y ∷ whole b.y ∷ []) y →
    Among (heights_of z (Edge a b)) y
upright_among z a b y u t m =
    if_cases (λ hs. Among hs y) (is_vertical (edge_between a b)) (if_in_column z a (whole a.y ∷ whole b.y ∷ [])) (if reaches (edge_between a b) z then height_at (edge_between a b) z ∷ [] else [])
    (λ _. if_cases (λ hs. Among hs y) (fraction_eq (whole a.x) z) (whole a.y ∷ whole b.y ∷ []) [] (λ _. m) (λ n. absurd (both_ways (fraction_eq (whole a.x) z) n t)))
    (λ s. absurd (both_ways (is_vertical (edge_between a b)) s u))

-- the height of each vertex of a piece in the column is one of the heights of the piece
pub vertices_among : (z : Fraction) (i : ℕ) (p : Piece) → IsFraction z → AllByRecursion (InColumn z (Among (heights_of z p))) (vertices_of i p)
vertices_among z i (Edge a b) j =
    let e = edge_between a b in
    if_cases (AllByRecursion (InColumn z (Among (heights_of z (Edge a b))))) (is_vertical e) (vertex (upper_end e) Top i ∷ vertex (lower_end e) Bottom i ∷ []) (vertex (left_end e) (Begin (rightward_edge e)) i ∷ vertex (right_end e) End i ∷ [])
    (λ u.
    let either = one_end (Among (whole a.y ∷ whole b.y ∷ [])) a b (inl refl) (inr (inl refl)) in (
      λ t. upright_among z a b (whole (upper_end e).y) u (ap (λ x. fraction_eq (whole x) z) (sym (upper_column a b u)) ∙ t) either.0,
      (λ t. upright_among z a b (whole (lower_end e).y) u (ap (λ x. fraction_eq (whole x) z) (sym (lower_column a b u)) ∙ t) either.1, tt),
    ))
    (λ s.
    let l = lies_by z z e j s in (
      λ t.
          end_among z a b (whole (left_end e).y) s
          (l.reached ∙ and_from _ _ (l.left ∙ or_second (fraction_lt (whole (left_end e).x) z) (fraction_eq (whole (left_end e).x) z) t) (l.right ∙ ap (λ c. c || fraction_eq (whole (right_end e).x) z) (l.runs t)))
          (sym (height-left (left_end e) (right_end e) z (runs_right e s) t)),
      (
        λ t.
            end_among z a b (whole (right_end e).y) s
            (l.reached ∙ and_from _ _ (l.left ∙ ap (λ c. c || fraction_eq (whole (left_end e).x) z) (l.ran t)) (l.right ∙ or_second (fraction_lt z (whole (right_end e).x)) (fraction_eq (whole (right_end e).x) z) t))
            (sym (height-right (left_end e) (right_end e) z (runs_right e s) t)),
        tt,
      ),
    ))
  where
    or_second : (b c : Bool) → c ≡ true → (b || c) ≡ true
    or_second true c e = refl
    or_second false c e = e
vertices_among z i (Dot a) j =
    (λ t. if_cases (λ hs. Among hs (whole a.y)) (fraction_eq (whole a.x) z) (whole a.y ∷ []) [] (λ _. inl refl) (λ n. absurd (both_ways (fraction_eq (whole a.x) z) n t)), tt)

-- ---- all pieces
-- all heights, from those of all vertices and of what comes
pub pieces_among : (z : Fraction) (hs : List Fraction) (k : ℕ) (ps : List Piece) → IsFraction z → AllByRecursion (λ p. comes_to z p ≡ true → Among hs (height_of z p)) ps →
    AllByRecursion (InColumn z (Among hs)) (all_vertices k ps) → AllByRecursion (Among hs) (heights_in ps z)
pieces_among z hs k [] i h v = tt
pieces_among z hs k (p ∷ ps) i h v =
    let parts = each-parts (InColumn z (Among hs)) (vertices_of k p) (all_vertices (k + 1) ps) v in
    each-append (Among hs) (heights_of z p) (heights_in ps z) (piece_among z hs k p i h.0 parts.0) (pieces_among z hs (k + 1) ps i h.1 parts.1)

-- the height at which a piece comes is one of the heights of all pieces
pub all_come_among : (z : Fraction) (hs : List Fraction) (ps : List Piece) → IsFraction z → ((h : Fraction) → Among (heights_in ps z) h → Among hs h) →
    AllByRecursion (λ p. comes_to z p ≡ true → Among hs (height_of z p)) ps
all_come_among z hs [] i f = tt
all_come_among z hs (p ∷ ps) i f = (
  λ t. f (height_of z p) (Among-left (heights_of z p) (heights_in ps z) (height_of z p) (comes_among z p i t)),
  all_come_among z hs ps i (λ h a. f h (Among-right (heights_of z p) (heights_in ps z) h a)),
)

-- so is the height of each vertex in the column
pub all_vertices_among : (z : Fraction) (hs : List Fraction) (k : ℕ) (ps : List Piece) → IsFraction z → ((h : Fraction) → Among (heights_in ps z) h → Among hs h) →
    AllByRecursion (InColumn z (Among hs)) (all_vertices k ps)
all_vertices_among z hs k [] i f = tt
all_vertices_among z hs k (p ∷ ps) i f =
    each-append (InColumn z (Among hs)) (vertices_of k p) (all_vertices (k + 1) ps)
    (each-map (InColumn z (Among (heights_of z p))) (InColumn z (Among hs)) (vertices_of k p) (λ v g t. f (vertex_height v) (Among-left (heights_of z p) (heights_in ps z) (vertex_height v) (g t)))
    (vertices_among z k p i))
    (all_vertices_among z hs (k + 1) ps i (λ h a. f h (Among-right (heights_of z p) (heights_in ps z) h a)))

-- ---- from a list of vertices to all that it stands for, and back
-- a sum of zeros
sum_zero : (f : Vertex → ℕ) (vs : List Vertex) → AllByRecursion (λ v. f v ≡ 0) vs → sum_by f vs ≡ 0
sum_zero f [] h = refl
sum_zero f (v ∷ vs) h = sum_by-cons f v vs ∙ ap (λ n. n + sum_by f vs) h.0 ∙ ap (λ n. 0 + n) (sum_zero f vs h.1)

-- and the other way round
zero_sum : (f : Vertex → ℕ) (vs : List Vertex) → sum_by f vs ≡ 0 → AllByRecursion (λ v. f v ≡ 0) vs
zero_sum f [] h = tt
zero_sum f (v ∷ vs) h =
    let e = sum_by-cons f v vs in
    let here : f v ≡ 0 = omega arith in
    let rest : sum_by f vs ≡ 0 = omega arith in
    (here, zero_sum f vs rest)

-- a test as a weight: 0 where it passes
unless_true : (b : Bool) → b ≡ true → ◌≡◌ {A = ℕ} (cond b 0 1) 0
unless_true true e = refl
unless_true false e = cc

true_unless : (b : Bool) → ◌≡◌ {A = ℕ} (cond b 0 1) 0 → b ≡ true
true_unless true e = refl
true_unless false e = absurd (omega arith)

-- a test that all vertices of the list pass is passed by all that it stands for
pub vertices_all : (pieces : List Piece) (s t : Vertex → Bool) (vs : List Vertex) → AreVertices pieces s vs → AllByRecursion (λ v. t v ≡ true) vs →
    AllByRecursion (λ v. s v ≡ true → t v ≡ true) (all_vertices 0 pieces)
vertices_all pieces s t vs h k =
    each-map (λ v. (if s v then cond (t v) 0 1 else 0) ≡ 0) (λ v. s v ≡ true → t v ≡ true) (all_vertices 0 pieces) (λ v. told (s v) (t v))
    (zero_sum (λ v. if s v then cond (t v) 0 1 else 0) (all_vertices 0 pieces)
    (sym (h (λ v. cond (t v) 0 1)) ∙ sum_zero (λ v. cond (t v) 0 1) vs (each-map (λ v. t v ≡ true) (λ v. cond (t v) 0 1 ≡ 0) vs (λ v. unless_true (t v)) k)))
  where
    told : (b c : Bool) → ◌≡◌ {A = ℕ} (if b then cond c 0 1 else 0) 0 → b ≡ true → c ≡ true
    told true c e f = true_unless c e
    told false c e f = absurd (both_ways false refl f)

-- and the other way round
pub vertices_each : (pieces : List Piece) (s t : Vertex → Bool) (vs : List Vertex) → AreVertices pieces s vs →
    AllByRecursion (λ v. s v ≡ true → t v ≡ true) (all_vertices 0 pieces) → AllByRecursion (λ v. t v ≡ true) vs
vertices_each pieces s t vs h k =
    each-map (λ v. cond (t v) 0 1 ≡ 0) (λ v. t v ≡ true) vs (λ v. true_unless (t v))
    (zero_sum (λ v. cond (t v) 0 1) vs
    (h (λ v. cond (t v) 0 1)
    ∙ sum_zero (λ v. if s v then cond (t v) 0 1 else 0) (all_vertices 0 pieces)
    (each-map (λ v. s v ≡ true → t v ≡ true) (λ v. (if s v then cond (t v) 0 1 else 0) ≡ 0) (all_vertices 0 pieces) (λ v. tell (s v) (t v)) k)))
  where
    tell : (b c : Bool) → (b ≡ true → c ≡ true) → ◌≡◌ {A = ℕ} (if b then cond c 0 1 else 0) 0
    tell true c f = unless_true c (f refl)
    tell false c f = refl

-- ---- from a list of edges to the pieces that it stands for, and back
-- what holds of the edge's height holds of its piece's
pub entry_height : (f : Fraction → Bool) (z : Fraction) (o : Option Piece) (a : Active) → IsEntryIn o a → f (active_height z a) ≡ passes_at (λ p. f (height_of z p)) o
entry_height f z None a h = absurd h
entry_height f z (Some (Edge p q)) a h =
    ap (λ u. f (height_rightward u a.edge.right z)) h.left ∙ ap (λ v. f (height_rightward (left_end (edge_between p q)) v z)) h.right
entry_height f z (Some (Dot p)) a h = absurd h

-- of each edge of the list
pub each_entry_height : (f : Fraction → Bool) (z : Fraction) (pieces : List Piece) (es : List Active) → AllByRecursion (IsEntry pieces) es →
    AllByRecursion (λ a. f (active_height z a) ≡ passes_at (λ p. f (height_of z p)) (piece_at pieces a.piece)) es
each_entry_height f z pieces es h = each-map (IsEntry pieces) _ es (λ a k. entry_height f z (piece_at pieces a.piece) a k) h

-- no edge is chosen by what does not hold
all_fail : (t : Active → Bool) (es : List Active) → AllByRecursion (λ a. t a ≡ true) es → chosen (λ a. not (t a)) es ≡ []
all_fail t [] h = refl
all_fail t (a ∷ es) h =
    ap (λ b. if not b then a ∷ chosen (λ c. not (t c)) es else chosen (λ c. not (t c)) es) h.0 ∙ all_fail t es h.1

-- a test of heights that all edges of the list pass is passed by the pieces that they stand for
pub edges_all : (z : Fraction) (pieces : List Piece) (s : Piece → Bool) (t : Fraction → Bool) (es : List Active) → AllByRecursion (IsEntry pieces) es →
    SameNumbers (pieces_of es) (numbers_from 0 s pieces) → AllByRecursion (λ a. t (active_height z a) ≡ true) es → AllByRecursion (λ p. s p ≡ true → t (height_of z p) ≡ true) pieces
edges_all z pieces s t es e h k =
    each_told pieces
    (SameNumbers-none (λ p. s p && not (t (height_of z p))) pieces
    (subst (λ fs. SameNumbers (pieces_of fs) (numbers_from 0 (λ p. s p && not (t (height_of z p))) pieces)) (all_fail (λ a. t (active_height z a)) es k)
    (SameNumbers-chosen pieces s (λ p. not (t (height_of z p))) (λ a. not (t (active_height z a))) es h (each_entry_height (λ q. not (t q)) z pieces es e))))
  where
    told : (b c : Bool) → (b && not c) ≡ false → b ≡ true → c ≡ true
    told b true e f = refl
    told true false e f = absurd (both_ways true e refl)
    told false false e f = absurd (both_ways false refl f)

    each_told : (ps : List Piece) → AllByRecursion (λ p. (s p && not (t (height_of z p))) ≡ false) ps → AllByRecursion (λ p. s p ≡ true → t (height_of z p) ≡ true) ps
    each_told [] g = tt
    each_told (p ∷ ps) g = (told (s p) (t (height_of z p)) g.0, each_told ps g.1)

-- and the other way round
pub edges_each : (z : Fraction) (pieces : List Piece) (s : Piece → Bool) (t : Fraction → Bool) (es : List Active) → AllByRecursion (IsEntry pieces) es →
    SameNumbers (pieces_of es) (numbers_from 0 s pieces) → AllByRecursion (λ p. s p ≡ true → t (height_of z p) ≡ true) pieces → AllByRecursion (λ a. t (active_height z a) ≡ true) es
edges_each z pieces s t es e h k =
    each-map (λ a. not (t (active_height z a)) ≡ false) (λ a. t (active_height z a) ≡ true) es (λ a. back (t (active_height z a)))
    (SameNumbers-chosen_none pieces s (λ p. not (t (height_of z p))) (λ a. not (t (active_height z a))) es h (each_entry_height (λ q. not (t q)) z pieces es e) (none pieces k))
  where
    back : (b : Bool) → not b ≡ false → b ≡ true
    back true f = refl
    back false f = sym f

    tell : (b c : Bool) → (b ≡ true → c ≡ true) → (b && not c) ≡ false
    tell true c f = ap not (f refl)
    tell false c f = refl

    none : (ps : List Piece) → AllByRecursion (λ p. s p ≡ true → t (height_of z p) ≡ true) ps → AllByRecursion (λ p. (s p && not (t (height_of z p))) ≡ false) ps
    none [] g = tt
    none (p ∷ ps) g = (tell (s p) (t (height_of z p)) g.0, none ps g.1)

-- ---- the levels' heights
-- each edge, and each vertex, is at one of the levels' heights
pub edges_leveled : (z : Fraction) (es : List Active) (vs : List Vertex) (ls : List Level) (qs : List Fraction) → Leveled z es vs ls qs →
    AllByRecursion (λ a. Among qs (active_height z a)) es
edges_leveled z es vs [] [] h = subst (λ fs. AllByRecursion (λ a. Among [] (active_height z a)) fs) (sym h.0) tt
edges_leveled z es vs [] (q ∷ qs) h = absurd h
edges_leveled z es vs (l ∷ ls) [] h = absurd h
edges_leveled z es vs (l ∷ ls) (q ∷ qs) h =
    each-join (λ a. Among (q ∷ qs) (active_height z a)) l.edges es
    (each-map (λ a. Same (active_height z a) q) (λ a. Among (q ∷ qs) (active_height z a)) (take l.edges es) (λ a e. inl e) h.0.edges)
    (each-map (λ a. Among qs (active_height z a)) (λ a. Among (q ∷ qs) (active_height z a)) (drop l.edges es) (λ a m. inr m)
    (edges_leveled z (drop l.edges es) (drop l.vertices vs) ls qs h.1))

pub vertices_leveled : (z : Fraction) (es : List Active) (vs : List Vertex) (ls : List Level) (qs : List Fraction) → Leveled z es vs ls qs →
    AllByRecursion (λ v. Among qs (vertex_height v)) vs
vertices_leveled z es vs [] [] h = subst (λ us. AllByRecursion (λ v. Among [] (vertex_height v)) us) (sym h.1) tt
vertices_leveled z es vs [] (q ∷ qs) h = absurd h
vertices_leveled z es vs (l ∷ ls) [] h = absurd h
vertices_leveled z es vs (l ∷ ls) (q ∷ qs) h =
    each-join (λ v. Among (q ∷ qs) (vertex_height v)) l.vertices vs
    (each-map (λ v. Same (vertex_height v) q) (λ v. Among (q ∷ qs) (vertex_height v)) (take l.vertices vs) (λ v e. inl e) h.0.vertices)
    (each-map (λ v. Among qs (vertex_height v)) (λ v. Among (q ∷ qs) (vertex_height v)) (drop l.vertices vs) (λ v m. inr m)
    (vertices_leveled z (drop l.edges es) (drop l.vertices vs) ls qs h.1))

-- what holds of the heights of all edges and vertices holds of a level's height
pub level_some : (P : Fraction → Type 0) (z q : Fraction) (es : List Active) (vs : List Vertex) (n m : ℕ) → IsFraction z →
    ((h k : Fraction) → IsFraction h → IsFraction k → Same k h → P h → P k) → IsAtLevel z q es vs n m →
    AllByRecursion (λ a. P (active_height z a)) es → AllByRecursion (λ v. P (vertex_height v)) vs → P q
level_some P z q [] vs (suc n) m i f l e v = absurd (omega (arith, l.edges_fit))
level_some P z q (a ∷ es) vs (suc n) m i f l e v = f (active_height z a) q (active_height-number z a i) l.number (sym l.edges.0) e.0
level_some P z q es [] zero (suc m) i f l e v = absurd (omega (arith, l.vertices_fit))
level_some P z q es (u ∷ vs) zero (suc m) i f l e v = f (vertex_height u) q (vertex_height-number u) l.number (sym l.vertices.0) v.0
level_some P z q es vs zero zero i f l e v = absurd (omega (arith, l.some))

-- the heights are numbers
pub leveled_numbers : (z : Fraction) (es : List Active) (vs : List Vertex) (ls : List Level) (qs : List Fraction) → Leveled z es vs ls qs → Numbers qs
leveled_numbers z es vs [] [] h = tt
leveled_numbers z es vs [] (q ∷ qs) h = absurd h
leveled_numbers z es vs (l ∷ ls) [] h = absurd h
leveled_numbers z es vs (l ∷ ls) (q ∷ qs) h = (h.0.number, leveled_numbers z (drop l.edges es) (drop l.vertices vs) ls qs h.1)

-- the heights fall
pub leveled_fall : (z q : Fraction) (es : List Active) (vs : List Vertex) (ls : List Level) (qs : List Fraction) → IsFraction z → IsFraction q →
    AllByRecursion (λ a. fraction_lt (active_height z a) q ≡ true) es → AllByRecursion (λ v. fraction_lt (vertex_height v) q ≡ true) vs →
    Leveled z es vs ls qs → FollowFrom (λ h k. fraction_lt k h) q qs
leveled_fall z q es vs [] [] i j e v h = tt
leveled_fall z q es vs [] (r ∷ rs) i j e v h = absurd h
leveled_fall z q es vs (l ∷ ls) [] i j e v h = absurd h
leveled_fall z q es vs (l ∷ ls) (r ∷ rs) i j e v h = (
  level_some (λ k. fraction_lt k q ≡ true) z r es vs l.edges l.vertices i (λ a b na nb same low. rising_order.same_first b a q nb na j same low) h.0 e v,
  leveled_fall z r (drop l.edges es) (drop l.vertices vs) ls rs i h.0.number h.0.edges_below h.0.vertices_below h.1,
)

-- what holds of the heights of all edges and vertices holds of all levels
pub leveled_each : (P : Fraction → Type 0) (z : Fraction) (es : List Active) (vs : List Vertex) (ls : List Level) (qs : List Fraction) → IsFraction z →
    ((h k : Fraction) → IsFraction h → IsFraction k → Same k h → P h → P k) → Leveled z es vs ls qs →
    AllByRecursion (λ a. P (active_height z a)) es → AllByRecursion (λ v. P (vertex_height v)) vs → AllByRecursion P qs
leveled_each P z es vs [] [] i f h e v = tt
leveled_each P z es vs [] (q ∷ qs) i f h e v = absurd h
leveled_each P z es vs (l ∷ ls) [] i f h e v = absurd h
leveled_each P z es vs (l ∷ ls) (q ∷ qs) i f h e v = (
  level_some P z q es vs l.edges l.vertices i f h.0 e v,
  leveled_each P z (drop l.edges es) (drop l.vertices vs) ls qs i f h.1
      (drop-each_active (λ a. P (active_height z a)) l.edges es e)
      (drop-each_vertex (λ v. P (vertex_height v)) l.vertices vs v),
)

-- the heights fall from the first one on
leveled_order : (z : Fraction) (es : List Active) (vs : List Vertex) (ls : List Level) (qs : List Fraction) → IsFraction z → Leveled z es vs ls qs →
    Follow (λ h k. fraction_lt k h) qs
leveled_order z es vs [] [] i h = tt
leveled_order z es vs [] (q ∷ qs) i h = absurd h
leveled_order z es vs (l ∷ ls) [] i h = absurd h
leveled_order z es vs (l ∷ ls) (q ∷ qs) i h =
    leveled_fall z q (drop l.edges es) (drop l.vertices vs) ls qs i h.0.number h.0.edges_below h.0.vertices_below h.1

-- the levels' heights are a listing of the column's
pub leveled_heights : (pieces : List Piece) (z : Fraction) (es : List Active) (vs : List Vertex) (ls : List Level) (qs : List Fraction) → IsFraction z →
    AllByRecursion (IsEntry pieces) es → SameNumbers (pieces_of es) (numbers_from 0 (comes_to z) pieces) → AreVertices pieces (in_column z) vs →
    Leveled z es vs ls qs → IsHeights pieces z qs
leveled_heights pieces z es vs ls qs i entries coming are h =
    let hs = heights_in pieces z in
    record {
      numbers = leveled_numbers z es vs ls qs h;
      in_order = leveled_order z es vs ls qs i h;
      has_all =
          pieces_among z qs 0 pieces i
          (told_pieces pieces (edges_all z pieces (comes_to z) (is_among qs) es entries coming
          (each-map (λ a. Among qs (active_height z a)) (λ a. is_among qs (active_height z a) ≡ true) es (λ a. test_from_among qs (active_height z a)) (edges_leveled z es vs ls qs h))))
          (each-map (λ v. in_column z v ≡ true → is_among qs (vertex_height v) ≡ true) (InColumn z (Among qs)) (all_vertices 0 pieces)
          (λ v g t. among_from_test qs (vertex_height v) (g t))
          (vertices_all pieces (in_column z) (λ v. is_among qs (vertex_height v)) vs are
          (each-map (λ v. Among qs (vertex_height v)) (λ v. is_among qs (vertex_height v) ≡ true) vs (λ v. test_from_among qs (vertex_height v)) (vertices_leveled z es vs ls qs h))));
      has_no_other =
          leveled_each (Among hs) z es vs ls qs i (λ a b na nb same m. Among-same hs a b na same m) h
          (each-map (λ a. is_among hs (active_height z a) ≡ true) (λ a. Among hs (active_height z a)) es (λ a. among_from_test hs (active_height z a))
          (edges_each z pieces (comes_to z) (is_among hs) es entries coming (tell_pieces pieces (all_come_among z hs pieces i (λ q m. m)))))
          (each-map (λ v. is_among hs (vertex_height v) ≡ true) (λ v. Among hs (vertex_height v)) vs (λ v. among_from_test hs (vertex_height v))
          (vertices_each pieces (in_column z) (λ v. is_among hs (vertex_height v)) vs are
          (each-map (InColumn z (Among hs)) (λ v. in_column z v ≡ true → is_among hs (vertex_height v) ≡ true) (all_vertices 0 pieces) (λ v g t. test_from_among hs (vertex_height v) (g t)) (all_vertices_among z hs 0 pieces i (λ q m. m)))));
    }
  where
    told_pieces : (ps : List Piece) → AllByRecursion (λ p. comes_to z p ≡ true → is_among qs (height_of z p) ≡ true) ps → AllByRecursion (λ p. comes_to z p ≡ true → Among qs (height_of z p)) ps
    told_pieces [] g = tt
    told_pieces (p ∷ ps) g = (λ t. among_from_test qs (height_of z p) (g.0 t), told_pieces ps g.1)

    tell_pieces : (ps : List Piece) → AllByRecursion (λ p. comes_to z p ≡ true → Among (heights_in pieces z) (height_of z p)) ps →
        AllByRecursion (λ p. comes_to z p ≡ true → is_among (heights_in pieces z) (height_of z p) ≡ true) ps
    tell_pieces [] g = tt
    tell_pieces (p ∷ ps) g = (λ t. test_from_among (heights_in pieces z) (height_of z p) (g.0 t), tell_pieces ps g.1)
