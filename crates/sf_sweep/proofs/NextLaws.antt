-- The next window of a column that was swept over down to it; where there is none, all edges that are left pass.
use Rattle.std.proofs.Common.{◌≡◌, ◌≢◌, refl, sym, ◌∙◌, subst, ℕ, zero, suc, ◌-◌, arith, ℤ, pos, ◌*ℤ◌, ◌≤ℤ◌, ◌<ℤ◌, Bool, true, false, cond, ◌&&◌, ◌||◌, List, [], ◌∷◌, ◌++◌, Option, None, Some, take, drop, ◌⊎◌, inl, inr}
use Rattle.std.specs.Prelude.{IfNone, IfSome, int_lt, slice_index_or}
use Rattle.std.specs.List.{AllByRecursion}
use Rattle.std.specs.Ordering.{int_eq, is_le, is_lt}
use Rattle.std.specs.declared.cmp.Ordering.{Ordering}
use Rattle.std.specs.declared.cmp.Ordering.TheVariants.{Equal, Greater, Less}
use Rattle.std.proofs.lemmas.Bool.{and_parts, cases_eq, false≢true}
use Rattle.std.proofs.lemmas.Int.{ints}
use Rattle.std.proofs.lemmas.List.{take-append-drop}
use Rattle.sf_grid.specs.Fraction.{Fraction, IsFraction, fraction_eq, fraction_lt}
use Rattle.sf_grid.specs.Plane.{IsPoint, Point, grid_point, x_of, y_of}
use Rattle.sf_grid.proofs.CallerLemmas.{Same, eq_from_test, lt_from_test, mul_le}
use Rattle.sf_slabs.proofs.NumberLaws.{Same-trans, rising_order}
use Rattle.sf_strips.specs.Slanted.{side_of}
use Rattle.sf_strips.specs.declared.active.Active.{Active}
use Rattle.sf_strips.specs.declared.contact.Contact.{Contact}
use Rattle.sf_strips.specs.declared.contact.Contact.TheVariants.{Ahead, Never, Throughout}
use Rattle.sf_strips.specs.declared.vertex.Vertex.{Vertex}
use Rattle.sf_strips.specs.Fronts.{IsContact, line_of}
use Rattle.sf_strips.specs.Parts.{is_over}
use Rattle.sf_strips.specs.Vertices.{in_column}
use Rattle.sf_cells.specs.Groups.{Item}
use Rattle.sf_sweep.specs.declared.window.Window.{Window}
use Rattle.sf_sweep.specs.Nearest.{IsFirstMeeting, IsPointIn, NoneMeet}
use Rattle.sf_sweep.specs.NextWindow.{crossing_window, next_window_of, precedes, vertex_window, window_length}
use Rattle.sf_sweep.specs.Passing.{contact_at}
use Rattle.sf_sweep.specs.Settled.{AreMet}
use Rattle.sf_sweep.specs.Sides.{is_below_edge}
use Rattle.sf_sweep.specs.Tables.{IsNotBefore, ahead_of, point_before}
use Rattle.sf_sweep.proofs.FirstLaws.{before-through}
use Rattle.sf_sweep.specs.Within.{Column, Fall, FallFrom, IsApartFrom, IsNextAt, IsNotLeft, IsWithin}
use Rattle.sf_sweep.proofs.CalmLaws.{IsElsewhere}
use Rattle.sf_sweep.proofs.SideLaws.{lower-below}
use Rattle.sf_sweep.proofs.StopLaws.{each-drop, each-take}
use Rattle.sf_sweep.proofs.VertexWindowLaws.{heights-apart, points-above, points-below, window-of_vertices}

-- ---- no meeting is left of the column
not-both : (a b : ℤ) → int_lt a b ≡ true → int_lt b a ≡ false
not-both a b h = grind (arith, ints)

after-not_left : (x : Fraction) (a b : Active) (c : Contact) → IsContact (line_of a) (line_of b) x c → IsNotLeft x c
after-not_left x a b Never h = tt
after-not_left x a b (Ahead q) h = not-both (x.num *ℤ pos (x_of q).den) ((x_of q).num *ℤ pos x.den) h.after
after-not_left x a b Throughout h = tt

never-not_left : (x : Fraction) (c : Contact) → c ≡ Never → IsNotLeft x c
never-not_left x c e = subst (IsNotLeft x) (sym e) tt

-- of edges that were dealt with
met-not_left : (x : Fraction) (table : List Contact) (es below : List Active) → AreMet x table es below → AllByRecursion (λ a. IsNotLeft x (contact_at table a)) es
met-not_left x table [] below m = tt
met-not_left x table (a ∷ []) [] m = (never-not_left x (contact_at table a) m.seam, tt)
met-not_left x table (a ∷ []) (b ∷ below) m = (after-not_left x a b (contact_at table a) m.seam, tt)
met-not_left x table (a ∷ b ∷ es) below m =
    (after-not_left x a b (contact_at table a) m.inner.0, met-not_left x table (b ∷ es) below (record { inner = m.inner.1; seam = m.seam }))

-- a piece is that of one of some edges, or of none
either-in : (P : Contact → Type 0) (table : List Contact) (i : ℕ) (es : List Active) → AllByRecursion (λ a. P (contact_at table a)) es → AllByRecursion (λ a. i ≢ a.piece) es ⊎ P (slice_index_or table i Never)
either-in P table i [] h = inl tt
either-in P table i (a ∷ es) h = by_rest (cases_eq i a.piece) (either-in P table i es h.1)
  where
    by_rest : (i ≡ a.piece) ⊎ ((i ≡ a.piece) → ⊥) → AllByRecursion (λ b. i ≢ b.piece) es ⊎ P (slice_index_or table i Never) → AllByRecursion (λ b. i ≢ b.piece) (a ∷ es) ⊎ P (slice_index_or table i Never)
    by_rest (inl e) other = inr (subst (λ j. P (slice_index_or table j Never)) (sym e) h.0)
    by_rest (inr d) (inl out) = inl (d, out)
    by_rest (inr d) (inr p) = inr p

each-both : (P : Active → Type 0) (es fs : List Active) → AllByRecursion P es → AllByRecursion P fs → AllByRecursion P (es ++ fs)
each-both P [] fs h k = k
each-both P (a ∷ es) fs h k = (h.0, each-both P es fs h.1 k)

pub none-left : (k : Column) (gone done rest : List Active) (ws : List Vertex) (table : List Contact) (odd : List (List Bool)) (more : List Item) → IsWithin k gone done rest ws table odd more →
    (i : ℕ) → IsNotLeft k.x (slice_index_or table i Never)
none-left k gone done rest ws table odd more h i =
    by_either (either-in (IsNotLeft k.x) table i (done ++ rest) (each-both (λ a. IsNotLeft k.x (contact_at table a)) done rest (met-not_left k.x table done rest h.met) h.coming.ahead))
  where
    by_either : AllByRecursion (λ a. i ≢ a.piece) (done ++ rest) ⊎ IsNotLeft k.x (slice_index_or table i Never) → IsNotLeft k.x (slice_index_or table i Never)
    by_either (inl out) = never-not_left k.x (slice_index_or table i Never) (h.never i out)
    by_either (inr p) = p

-- nor is the first one
first-not_left : (x : Fraction) (table : List Contact) (p : Point) → ((i : ℕ) → IsNotLeft x (slice_index_or table i Never)) → IsFirstMeeting table p → fraction_lt (x_of p) x ≡ false
first-not_left x table p h f = subst (IsNotLeft x) f.among.meets (h f.among.piece)

-- ---- nothing comes before a point
none-before : (p : Point) (c : Contact) → ahead_of c ≡ None → IsNotBefore p c
none-before p Never e = tt
none-before p (Ahead q) e = absurd (some-none q e)
  where
    some-none : (q : Point) → ◌≡◌ {A = Option Point} (Some q) None → ⊥
    some-none q e = cc
none-before p Throughout e = tt

each-piece : (P : Contact → Type 0) (table : List Contact) (es : List Active) → ((i : ℕ) → P (slice_index_or table i Never)) → AllByRecursion (λ a. P (contact_at table a)) es
each-piece P table [] h = tt
each-piece P table (a ∷ es) h = (h a.piece, each-piece P table es h)

-- ---- vertices that are left in the column
each-at : (P : Vertex → Type 0) (vs : List Vertex) (n : ℕ) (d : Vertex) → P d → AllByRecursion P vs → P (slice_index_or vs n d)
each-at P [] n d p h = p
each-at P (v ∷ vs) zero d p h = h.0
each-at P (v ∷ vs) (suc n) d p h = each-at P vs n d p h.1

here-same : (x : Fraction) (v : Vertex) → in_column x v ≡ true → Same (x_of (grid_point v.at)) x
here-same x v h = eq_from_test _ _ h

-- the window of the first ones
vertex-next : (x : Fraction) (table : List Contact) (rest : List Active) (v : Vertex) (vs : List Vertex) → IsFraction x → AllByRecursion (λ u. in_column x u ≡ true) (v ∷ vs) → FallFrom v.at.y vs →
    AllByRecursion (λ a. IsNotBefore (grid_point v.at) (contact_at table a)) rest →
    IsNextAt x table rest (take (window_length (v ∷ vs)) (v ∷ vs)) (drop (window_length (v ∷ vs)) (v ∷ vs))
    (record { top = grid_point v.at; bottom = grid_point (slice_index_or (v ∷ vs) (window_length (v ∷ vs) - 1) v).at; vertices = window_length (v ∷ vs) })
vertex-next x table rest v vs i here falls near =
    let m : ℕ = window_length (v ∷ vs) in
    let b : Vertex = slice_index_or (v ∷ vs) (m - 1) v in
    let c : in_column x b ≡ true = each-at (λ u. in_column x u ≡ true) (v ∷ vs) (m - 1) v here.0 here in
    let w = window-of_vertices v vs falls in
    record {
      top = record { positive = omega arith };
      top_here = here-same x v here.0;
      bottom = record { positive = omega arith };
      bottom_here = here-same x b c;
      near = near;
      over = λ a h. subst (λ us. is_over us a ≡ true) (sym (take-append-drop m (v ∷ vs))) h;
      below = points-below x b (drop m (v ∷ vs)) i c (each-drop (λ u. in_column x u ≡ true) m (v ∷ vs) here) w.below;
      above = points-above x b (take m (v ∷ vs)) i c (each-take (λ u. in_column x u ≡ true) m (v ∷ vs) here) w.above;
      apart = heights-apart b.at.y (take m (v ∷ vs)) (drop m (v ∷ vs)) w.above w.below;
      upright = w.upright;
    }

-- ---- a point at which edges meet
below-reaches : (o : Ordering) → is_lt o ≡ true → is_le o ≡ true
below-reaches Less h = refl
below-reaches Equal h = absurd (false≢true h)
below-reaches Greater h = absurd (false≢true h)

-- in one column, what comes first is higher
in-height : (a b c d : ℤ) → a ≡ b → (int_lt a b || (int_eq a b && int_lt c d)) ≡ true → int_lt c d ≡ true
in-height a b c d e h = grind (arith, ints)

same-columns : (x : Fraction) (p : Point) (v : Vertex) → IsFraction x → IsPoint p → Same (x_of p) x → in_column x v ≡ true → Same (x_of p) (x_of (grid_point v.at))
same-columns x p v i j s c = Same-trans (x_of p) x (x_of (grid_point v.at)) i s (sym (here-same x v c))

lower-still : (p : Point) (u v : Vertex) → v.at.y ≤ℤ u.at.y → fraction_lt (y_of (grid_point u.at)) (y_of p) ≡ true → fraction_lt (y_of (grid_point v.at)) (y_of p) ≡ true
lower-still p u v l h = test (v.at.y *ℤ pos p.d) (u.at.y *ℤ pos p.d) (p.y *ℤ pos 1) (mul_le v.at.y u.at.y p.d l) h
  where
    test : (a b c : ℤ) → a ≤ℤ b → int_lt b c ≡ true → int_lt a c ≡ true
    test a b c l h = grind (arith, ints)

crossing-below : (x : Fraction) (p : Point) (u : Vertex) (vs : List Vertex) → IsFraction x → IsPoint p → Same (x_of p) x → AllByRecursion (λ v. in_column x v ≡ true) vs → FallFrom u.at.y vs →
    fraction_lt (y_of (grid_point u.at)) (y_of p) ≡ true →
    AllByRecursion (λ v. Same (x_of p) (x_of (grid_point v.at)) × (fraction_lt (y_of (grid_point v.at)) (y_of p) ≡ true)) vs
crossing-below x p u [] i j s here falls h = tt
crossing-below x p u (v ∷ vs) i j s here falls h =
    let k = lower-still p u v falls.0 h in
    ((same-columns x p v i j s here.0, k), crossing-below x p v vs i j s here.1 falls.1 k)

all-below : (x : Fraction) (p : Point) (ws : List Vertex) → IsFraction x → IsPoint p → Same (x_of p) x → AllByRecursion (λ v. in_column x v ≡ true) ws → Fall ws → precedes p ws ≡ true →
    AllByRecursion (λ v. Same (x_of p) (x_of (grid_point v.at)) × (fraction_lt (y_of (grid_point v.at)) (y_of p) ≡ true)) ws
all-below x p [] i j s here falls h = tt
all-below x p (v ∷ vs) i j s here falls h =
    let same = same-columns x p v i j s here.0 in
    let k : fraction_lt (y_of (grid_point v.at)) (y_of p) ≡ true =
    in-height ((x_of p).num *ℤ pos 1) (v.at.x *ℤ pos p.d) (v.at.y *ℤ pos p.d) (p.y *ℤ pos 1) same h in
    ((same, k), crossing-below x p v vs i j s here.1 falls k)

crossing-over : (x : Fraction) (p : Point) (ws : List Vertex) → IsPoint p → AllByRecursion (λ v. Same (x_of p) (x_of (grid_point v.at)) × (fraction_lt (y_of (grid_point v.at)) (y_of p) ≡ true)) ws →
    (a : Active) → is_below_edge p a ≡ true → is_over ws a ≡ true
crossing-over x p [] j h a k = refl
crossing-over x p (v ∷ vs) j h a k =
    lower-below p (grid_point v.at) a j (record { positive = omega arith }) h.0.0 h.0.1 (below-reaches (side_of a.edge.left a.edge.right p) k)

none-apart : (ws : List Vertex) → IsApartFrom ws []
none-apart [] = tt
none-apart (w ∷ ws) = tt

crossing-next : (x : Fraction) (table : List Contact) (rest : List Active) (p : Point) (ws : List Vertex) → IsFraction x → IsFirstMeeting table p → Same (x_of p) x → AllByRecursion (λ v. in_column x v ≡ true) ws →
    Fall ws → precedes p ws ≡ true → IsNextAt x table rest [] ws (crossing_window p)
crossing-next x table rest p ws i f s here falls h =
    let below = all-below x p ws i f.point s here falls h in
    record {
      top = f.point;
      top_here = s;
      bottom = f.point;
      bottom_here = s;
      near = each-piece (IsNotBefore p) table rest f.first;
      over = crossing-over x p ws f.point below;
      below = below;
      above = tt;
      apart = none-apart ws;
      upright = inl tt;
    }

-- ---- the next window
-- a meeting that isn't left of the column and doesn't come before a vertex in it, or isn't in it, doesn't come before the vertex
not-first : (p : Point) (x : Fraction) (v : Vertex) → IsFraction x → IsPoint p → in_column x v ≡ true → fraction_lt (x_of p) x ≡ false → (fraction_eq (x_of p) x && point_before p (grid_point v.at)) ≡ false →
    point_before p (grid_point v.at) ≡ false
not-first p x v i j c l h = by_test (fraction_eq (x_of p) x) refl h
  where
    later : (a b c d : ℤ) → b <ℤ a → (int_lt a b || (int_eq a b && int_lt c d)) ≡ false
    later a b c d h = grind (arith, ints)

    right : (a b : ℤ) → int_lt a b ≡ false → int_eq a b ≡ false → int_lt b a ≡ true
    right a b h k = grind (arith, ints)

    by_test : (t : Bool) → fraction_eq (x_of p) x ≡ t → (t && point_before p (grid_point v.at)) ≡ false → point_before p (grid_point v.at) ≡ false
    by_test true e k = k
    by_test false e k =
        let behind : fraction_lt x (x_of p) ≡ true = right ((x_of p).num *ℤ pos x.den) (x.num *ℤ pos (x_of p).den) l e in
        let column : fraction_lt (x_of (grid_point v.at)) (x_of p) ≡ true =
        rising_order.same_first (x_of (grid_point v.at)) x (x_of p) (record { positive = omega arith }) i (record { positive = j.positive }) (here-same x v c) behind in
        later ((x_of p).num *ℤ pos 1) (v.at.x *ℤ pos p.d) (v.at.y *ℤ pos p.d) (p.y *ℤ pos 1) (lt_from_test _ _ column)

-- no meeting comes before what the first one doesn't come before
none-earlier : (p : Point) (q : Point) (c : Contact) → IsPoint p → IsPoint q → point_before p q ≡ false → IsPointIn (ahead_of c) → IsNotBefore p c → IsNotBefore q c
none-earlier p q Never i j h k n = tt
none-earlier p q (Ahead r) i j h k n = before-through q p r j i k h n
none-earlier p q Throughout i j h k n = tt

some-window : (w z : Window) → ◌≡◌ {A = Option Window} (Some w) (Some z) → w ≡ z
some-window w z e = cc

no-window : (w : Window) → ◌≡◌ {A = Option Window} None (Some w) → ⊥
no-window w e = cc

moved-next : (x : Fraction) (table : List Contact) (rest : List Active) (ws : List Vertex) (w z : Window) → w ≡ z → IsNextAt x table rest (take w.vertices ws) (drop w.vertices ws) w →
    IsNextAt x table rest (take z.vertices ws) (drop z.vertices ws) z
moved-next x table rest ws w z e h = subst (λ u. IsNextAt x table rest (take u.vertices ws) (drop u.vertices ws) u) e h

-- the window that is found is the next one
pub next-window : (k : Column) (gone done rest : List Active) (ws : List Vertex) (table : List Contact) (odd : List (List Bool)) (more : List Item) (near : Option Point) (w : Window) → IsFraction k.x →
    IsWithin k gone done rest ws table odd more → AllByRecursion (λ v. in_column k.x v ≡ true) ws → Fall ws → IfSome near (λ p. IsFirstMeeting table p) → IfNone near (NoneMeet table) →
    next_window_of near k.x ws ≡ Some w → IsNextAt k.x table rest (take w.vertices ws) (drop w.vertices ws) w
next-window k gone done rest [] table odd more None w i h here falls f n e = absurd (no-window w e)
next-window k gone done rest (v ∷ vs) table odd more None w i h here falls f n e =
    moved-next k.x table rest (v ∷ vs) (record { top = grid_point v.at; bottom = grid_point (slice_index_or (v ∷ vs) (window_length (v ∷ vs) - 1) v).at; vertices = window_length (v ∷ vs) }) w (some-window _ w e)
    (vertex-next k.x table rest v vs i here falls (each-piece (IsNotBefore (grid_point v.at)) table rest (λ j. none-before (grid_point v.at) (slice_index_or table j Never) (n j))))
next-window k gone done rest ws table odd more (Some p) w i h here falls f n e = by_test (fraction_eq (x_of p) k.x && precedes p ws) refl e
  where
    left : fraction_lt (x_of p) k.x ≡ false
    left = first-not_left k.x table p (none-left k gone done rest ws table odd more h) f

    at_vertices : (us : List Vertex) → AllByRecursion (λ v. in_column k.x v ≡ true) us → Fall us → (fraction_eq (x_of p) k.x && precedes p us) ≡ false → vertex_window us ≡ Some w →
        IsNextAt k.x table rest (take w.vertices us) (drop w.vertices us) w
    at_vertices [] c l t e = absurd (no-window w e)
    at_vertices (v ∷ vs) c l t e =
        let later : point_before p (grid_point v.at) ≡ false = not-first p k.x v i f.point c.0 left t in
        moved-next k.x table rest (v ∷ vs) (record { top = grid_point v.at; bottom = grid_point (slice_index_or (v ∷ vs) (window_length (v ∷ vs) - 1) v).at; vertices = window_length (v ∷ vs) }) w (some-window _ w e)
        (vertex-next k.x table rest v vs i c l
        (each-piece (IsNotBefore (grid_point v.at)) table rest
        (λ j. none-earlier p (grid_point v.at) (slice_index_or table j Never) f.point (record { positive = omega arith }) later (f.points j) (f.first j))))

    by_test : (t : Bool) → (fraction_eq (x_of p) k.x && precedes p ws) ≡ t → cond t (Some (crossing_window p)) (vertex_window ws) ≡ Some w → IsNextAt k.x table rest (take w.vertices ws) (drop w.vertices ws) w
    by_test true t e =
        let both = and_parts (fraction_eq (x_of p) k.x) (precedes p ws) t in
        moved-next k.x table rest ws (crossing_window p) w (some-window (crossing_window p) w e) (crossing-next k.x table rest p ws i f (eq_from_test _ _ both.0) here falls both.1)
    by_test false t e = at_vertices ws here falls t e

-- ---- where no window is left
no-none : (w : Window) → ◌≡◌ {A = Option Window} (Some w) None → ⊥
no-none w e = cc

none-elsewhere : (x : Fraction) (c : Contact) → ahead_of c ≡ None → IsElsewhere x c
none-elsewhere x Never e = tt
none-elsewhere x (Ahead q) e = absurd (some-none q e)
  where
    some-none : (q : Point) → ◌≡◌ {A = Option Point} (Some q) None → ⊥
    some-none q e = cc
none-elsewhere x Throughout e = tt

-- the first meeting is right of the column, so all are
right-elsewhere : (x : Fraction) (p : Point) (c : Contact) → IsFraction x → IsPoint p → fraction_lt (x_of p) x ≡ false → fraction_eq (x_of p) x ≡ false → IsPointIn (ahead_of c) → IsNotBefore p c → IsElsewhere x c
right-elsewhere x p Never i j l e k n = tt
right-elsewhere x p (Ahead q) i j l e k n = by_test (fraction_eq (x_of q) x) refl
  where
    right : (a b : ℤ) → int_lt a b ≡ false → int_eq a b ≡ false → int_lt b a ≡ true
    right a b h k = grind (arith, ints)

    first_part : (a b : Bool) → (a || b) ≡ false → a ≡ false
    first_part true b h = absurd (false≢true (sym h))
    first_part false b h = refl

    by_test : (t : Bool) → fraction_eq (x_of q) x ≡ t → t ≡ false
    by_test false f = refl
    by_test true f =
        let behind : fraction_lt x (x_of p) ≡ true = right ((x_of p).num *ℤ pos x.den) (x.num *ℤ pos (x_of p).den) l e in
        let before : fraction_lt (x_of q) (x_of p) ≡ true =
        rising_order.same_first (x_of q) x (x_of p) (record { positive = k.positive }) i (record { positive = j.positive }) (eq_from_test _ _ f) behind in
        absurd (false≢true (sym (first_part (fraction_lt (x_of q) (x_of p)) (fraction_eq (x_of q) (x_of p) && fraction_lt (y_of p) (y_of q)) n) ∙ before))
right-elsewhere x p Throughout i j l e k n = tt

pub record IsNoneNext (x : Fraction) (table : List Contact) (rest : List Active) (ws : List Vertex) : Type 0 where
  pub vertices : ws ≡ []
  pub elsewhere : AllByRecursion (λ a. IsElsewhere x (contact_at table a)) rest

pub none-next : (k : Column) (gone done rest : List Active) (ws : List Vertex) (table : List Contact) (odd : List (List Bool)) (more : List Item) (near : Option Point) → IsFraction k.x →
    IsWithin k gone done rest ws table odd more → IfSome near (λ p. IsFirstMeeting table p) → IfNone near (NoneMeet table) → next_window_of near k.x ws ≡ None → IsNoneNext k.x table rest ws
none-next k gone done rest [] table odd more None i h f n e =
    record { vertices = refl; elsewhere = each-piece (IsElsewhere k.x) table rest (λ j. none-elsewhere k.x (slice_index_or table j Never) (n j)) }
none-next k gone done rest (v ∷ vs) table odd more None i h f n e = absurd (no-none _ e)
none-next k gone done rest ws table odd more (Some p) i h f n e = by_test (fraction_eq (x_of p) k.x && precedes p ws) refl e
  where
    left : fraction_lt (x_of p) k.x ≡ false
    left = first-not_left k.x table p (none-left k gone done rest ws table odd more h) f

    first_part : (a : Bool) → (a && true) ≡ false → a ≡ false
    first_part true h = absurd (false≢true (sym h))
    first_part false h = refl

    no_vertices : (us : List Vertex) → (fraction_eq (x_of p) k.x && precedes p us) ≡ false → vertex_window us ≡ None → IsNoneNext k.x table rest us
    no_vertices [] t e =
        record {
          vertices = refl;
          elsewhere = each-piece (IsElsewhere k.x) table rest
              (λ j. right-elsewhere k.x p (slice_index_or table j Never) i f.point left (first_part (fraction_eq (x_of p) k.x) t) (f.points j) (f.first j));
        }
    no_vertices (v ∷ vs) t e = absurd (no-none _ e)

    by_test : (t : Bool) → (fraction_eq (x_of p) k.x && precedes p ws) ≡ t → cond t (Some (crossing_window p)) (vertex_window ws) ≡ None → IsNoneNext k.x table rest ws
    by_test true t e = absurd (no-none (crossing_window p) e)
    by_test false t e = no_vertices ws t e
