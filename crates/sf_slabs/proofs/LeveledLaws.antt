-- The levels of a column from the top: each has just the edges and vertices of one height, and the rest is below it.
use Rattle.std.proofs.Common.{◌≡◌, refl, ap, sym, subst, ◌∙◌, ℕ, zero, suc, ◌+◌, ◌<◌, ◌≤◌, ℤ, pos, ◌*ℤ◌, ◌≤ℤ◌, ◌<ℤ◌, lit<, arith, Bool, true, false, cond, ◌&&◌, ◌||◌, List, [], ◌∷◌, length, take, drop, Option}
use Rattle.std.specs.List.{AllByRecursion, prefix_len}
use Rattle.std.specs.Ordering.{int_eq}
use Rattle.std.specs.Prelude.{int_lt}
use Rattle.std.specs.declared.cmp.Ordering.{Ordering}
use Rattle.std.specs.declared.cmp.Ordering.TheVariants.{Equal, Greater, Less}
use Rattle.std.proofs.lemmas.Int.{ints}
use Rattle.std.proofs.lemmas.List.Sums.{prefix_len-le-length}
use Rattle.sf_grid.specs.Fraction.{Fraction, IsFraction, fraction_cmp, fraction_lt, whole}
use Rattle.sf_grid.specs.Plane.{grid_point}
use Rattle.sf_grid.specs.Edge.{height_at, height_cmp}
use Rattle.sf_grid.proofs.CallerLemmas.{Same, eq_from_mul, eq_from_test, equal_is, ge_from_test, is_equal, is_greater, lt_from_test, mul_le, test_from_eq, test_from_lt}
use Rattle.sf_strips.specs.declared.active.Active.{Active}
use Rattle.sf_strips.specs.declared.contact.Contact.{Contact}
use Rattle.sf_strips.specs.declared.level.Level.{Level}
use Rattle.sf_strips.specs.declared.slanted.Slanted.{Slanted}
use Rattle.sf_strips.specs.declared.vertex.Vertex.{Vertex}
use Rattle.sf_strips.specs.Fronts.{line_of, touches}
use Rattle.sf_strips.specs.Levels.{AreTops, IsTop, group_length, level_by, run_length, top_level}
use Rattle.sf_strips.proofs.CallerLemmas.{height_in}
use Rattle.sf_strips.specs.Slanted.{side_of}
use Rattle.sf_slabs.proofs.FallsLaws.{edge_of, height_in-edge_of}
use Rattle.sf_slabs.proofs.HeightsLaws.{height_at-same}
use Rattle.sf_slabs.proofs.LocateLaws.{height_in-number, less_from_lt}
use Rattle.sf_slabs.proofs.NumberLaws.{Same-trans, rising_order}
use Rattle.sf_slabs.proofs.Shapes.{InOrder, InOrderFrom, StepsAt, StepsAtFrom, in_column, step_by}

-- ---- heights
-- of an edge in the column z, and of a vertex
abbrev pub active_height : Fraction → Active → Fraction
active_height z a = height_in z a.edge

abbrev pub vertex_height : Vertex → Fraction
vertex_height v = whole v.at.y

-- both are numbers
pub active_height-number : (z : Fraction) (a : Active) → IsFraction z → IsFraction (active_height z a)
active_height-number z a i = height_in-number z a.edge i

pub vertex_height-number : (v : Vertex) → IsFraction (vertex_height v)
vertex_height-number v = record { positive = lit< tt }

-- the height in a column depends on the column's number alone
pub height_in-same : (x y : Fraction) (e : Slanted) → Same x y → Same (height_in x e) (height_in y e)
height_in-same x y e h =
    subst (λ q. Same q (height_in y e)) (sym (height_in-edge_of x e))
    (subst (λ q. Same (height_at (edge_of e) x) q) (sym (height_in-edge_of y e)) (height_at-same (edge_of e) x y h))

-- the order of two edges in the column is that of their heights
pub height_cmp-active : (z : Fraction) (a b : Active) → height_cmp (line_of b) (line_of a) z ≡ fraction_cmp (active_height z b) (active_height z a)
height_cmp-active z a b =
    ap (λ q. fraction_cmp q (height_at (line_of a) z)) (sym (height_in-edge_of z b.edge))
    ∙ ap (λ q. fraction_cmp (active_height z b) q) (sym (height_in-edge_of z a.edge))

-- what an order says
pub same_from_equal : (q r : Fraction) → fraction_cmp q r ≡ Equal → Same q r
same_from_equal q r h = equal_is _ _ h

pub lt_from_less : (q r : Fraction) → fraction_cmp q r ≡ Less → fraction_lt q r ≡ true
lt_from_less q r h = grind (arith, ints)

pub lt_from_greater : (q r : Fraction) → fraction_cmp q r ≡ Greater → fraction_lt r q ≡ true
lt_from_greater q r h = grind (arith, ints)

-- the order against a number, however that is written
cmp-same : (p q r : Fraction) → IsFraction p → IsFraction q → IsFraction r → Same q r → fraction_cmp p q ≡ fraction_cmp p r
cmp-same p q r i j k e = by_order (fraction_cmp p q) refl
  where
    by_order : (t : Ordering) → fraction_cmp p q ≡ t → t ≡ fraction_cmp p r
    by_order Less f = sym (less_from_lt p r (rising_order.same_second p q r i j k (lt_from_less p q f) e))
    by_order Equal f = sym (is_equal (p.num *ℤ pos r.den) (r.num *ℤ pos p.den) (Same-trans p q r j (same_from_equal p q f) e))
    by_order Greater f = sym (is_greater (p.num *ℤ pos r.den) (r.num *ℤ pos p.den) (lt_from_test (r.num *ℤ pos p.den) (p.num *ℤ pos r.den) (rising_order.same_first r q p k j i (sym e) (lt_from_greater p q f))))

-- ---- a list of edges, parted at the number n: at the height q, and below it
abbrev pub ActiveParts : Fraction → Fraction → ℕ → List Active → Type 0
ActiveParts z q n es =
    AllByRecursion (λ a. Same (active_height z a) q) (take n es) × AllByRecursion (λ a. fraction_lt (active_height z a) q ≡ true) (drop n es)

-- the same of a list of vertices
abbrev pub VertexParts : Fraction → ℕ → List Vertex → Type 0
VertexParts q n vs =
    AllByRecursion (λ v. Same (vertex_height v) q) (take n vs) × AllByRecursion (λ v. fraction_lt (vertex_height v) q ≡ true) (drop n vs)

-- the two ways to write one more
one_more_is : (n : ℕ) → 1 + n ≡ suc n
one_more_is n = omega arith

-- below an edge that is below q
steps_below : (z q : Fraction) (column : Option Fraction) (a : Active) (es : List Active) (cs : List Contact) → IsFraction z → IsFraction q →
    StepsAtFrom z column a es cs → fraction_lt (active_height z a) q ≡ true → AllByRecursion (λ b. fraction_lt (active_height z b) q ≡ true) es
steps_below z q column a [] cs i j h l = tt
steps_below z q column a (b ∷ bs) [] i j h l = absurd h
steps_below z q column a (b ∷ bs) (c ∷ cs) i j h l =
    let here = by_step (touches column c) (sym (height_cmp-active z a b) ∙ h.0) in
    (here, steps_below z q column b bs cs i j h.1 here)
  where
    by_step : (t : Bool) → fraction_cmp (active_height z b) (active_height z a) ≡ step_by t → fraction_lt (active_height z b) q ≡ true
    by_step true e =
        rising_order.same_first (active_height z b) (active_height z a) q (active_height-number z b i) (active_height-number z a i) j (same_from_equal (active_height z b) (active_height z a) e) l
    by_step false e =
        rising_order.trans (active_height z b) (active_height z a) q (active_height-number z b i) (active_height-number z a i) j (lt_from_less (active_height z b) (active_height z a) e) l

-- after an edge at q: those that touch one another are at q, and the others below it
steps_from : (z q : Fraction) (column : Option Fraction) (a : Active) (es : List Active) (cs : List Contact) → IsFraction z → IsFraction q →
    StepsAtFrom z column a es cs → Same (active_height z a) q → ActiveParts z q (prefix_len (touches column) cs) es × (prefix_len (touches column) cs ≤ length es)
steps_from z q column a [] cs i j h e = rw h ((tt, tt), omega arith)
steps_from z q column a (b ∷ bs) [] i j h e = absurd h
steps_from z q column a (b ∷ bs) (c ∷ cs) i j h e =
    by_step (touches column c) (sym (height_cmp-active z a b) ∙ h.0) (λ s. steps_from z q column b bs cs i j h.1 s) (λ l. steps_below z q column b bs cs i j h.1 l)
  where
    n : ℕ
    n = prefix_len (touches column) cs

    by_step : (t : Bool) → fraction_cmp (active_height z b) (active_height z a) ≡ step_by t →
        (Same (active_height z b) q → ActiveParts z q n bs × (n ≤ length bs)) →
        (fraction_lt (active_height z b) q ≡ true → AllByRecursion (λ b. fraction_lt (active_height z b) q ≡ true) bs) →
        ActiveParts z q (cond t (1 + n) 0) (b ∷ bs) × (cond t (1 + n) 0 ≤ length (b ∷ bs))
    by_step true f rest _ =
        let same = Same-trans (active_height z b) (active_height z a) q (active_height-number z a i) (same_from_equal (active_height z b) (active_height z a) f) e in
        let k = rest same in
        subst (λ m. ActiveParts z q m (b ∷ bs) × (m ≤ length (b ∷ bs))) (sym (one_more_is n)) (((same, k.0.0), k.0.1), omega (arith, k.1))
    by_step false f _ rest =
        let low = rising_order.same_second (active_height z b) (active_height z a) q (active_height-number z b i) (active_height-number z a i) j (lt_from_less (active_height z b) (active_height z a) f) e in
        ((tt, (low, rest low)), omega arith)

-- a run of edges: those level with the first one
pub run_parts : (z : Fraction) (column : Option Fraction) (a : Active) (es : List Active) (cs : List Contact) → IsFraction z → StepsAtFrom z column a es cs →
    ActiveParts z (active_height z a) (run_length column (a ∷ es) cs) (a ∷ es) × (run_length column (a ∷ es) cs ≤ length (a ∷ es))
run_parts z column a es cs i h =
    let k = steps_from z (active_height z a) column a es cs i (active_height-number z a i) h refl in
    subst (λ m. ActiveParts z (active_height z a) m (a ∷ es) × (m ≤ length (a ∷ es))) (sym (one_more_is (prefix_len (touches column) cs)))
    (((refl, k.0.0), k.0.1), omega (arith, k.1))

-- ---- the vertices of a column
-- in one column the heights fall
abbrev FallFrom : ℤ → List Vertex → Type 0
FallFrom y [] = Unit {0}
FallFrom y (v ∷ vs) = (v.at.y ≤ℤ y) × FallFrom v.at.y vs

-- vertices of one column have one x
one_column : (z : Fraction) (u v : Vertex) → IsFraction z → in_column z u ≡ true → in_column z v ≡ true → v.at.x ≡ u.at.x
one_column z u v i h k = eq_from_mul v.at.x u.at.x z.den i.positive (eq_from_test _ _ k ∙ sym (eq_from_test _ _ h))

-- what comes after in one column is not higher
not_higher : (a b c d : ℤ) → a ≡ b → (int_lt a b || (int_eq a b && int_lt c d)) ≡ false → d ≤ℤ c
not_higher a b c d e h = ge_from_test c d (by_test (int_lt a b) (int_eq a b) (int_lt c d) (test_from_eq a b e) h)
  where
    by_test : (s t u : Bool) → t ≡ true → (s || (t && u)) ≡ false → u ≡ false
    by_test true t u e h = cc
    by_test false true u e h = h
    by_test false false u e h = cc

-- the heights of vertices in order fall
fall_from : (z : Fraction) (u : Vertex) (vs : List Vertex) → IsFraction z → in_column z u ≡ true → AllByRecursion (λ v. in_column z v ≡ true) vs →
    InOrderFrom u vs → FallFrom u.at.y vs
fall_from z u [] i h k o = tt
fall_from z u (v ∷ vs) i h k o = (not_higher v.at.x u.at.x u.at.y v.at.y (one_column z u v i h k.0) o.0, fall_from z v vs i k.0 k.1 o.1)

-- an order of whole numbers, as fractions
whole_lt : (a b : ℤ) → a <ℤ b → fraction_lt (whole a) (whole b) ≡ true
whole_lt a b h = test_from_lt _ _ (scaled a b h)
  where
    scaled : (a b : ℤ) → a <ℤ b → (a *ℤ pos 1) <ℤ (b *ℤ pos 1)
    scaled a b h = omega (arith, ints)

-- below a vertex that is below y
fall_below : (y c : ℤ) (vs : List Vertex) → FallFrom c vs → c <ℤ y → AllByRecursion (λ v. fraction_lt (vertex_height v) (whole y) ≡ true) vs
fall_below y c [] h l = tt
fall_below y c (v ∷ vs) h l =
    let here : v.at.y <ℤ y = lower v.at.y c y h.0 l in
    (whole_lt v.at.y y here, fall_below y v.at.y vs h.1 here)
  where
    lower : (a b c : ℤ) → a ≤ℤ b → b <ℤ c → a <ℤ c
    lower a b c h k = omega (arith, ints)

-- after a vertex at y: those at y, and the others below it
fall_parts : (y : ℤ) (vs : List Vertex) → FallFrom y vs → VertexParts (whole y) (prefix_len (λ u. int_eq u.at.y y) vs) vs
fall_parts y [] h = (tt, tt)
fall_parts y (v ∷ vs) h = by_test (int_eq v.at.y y) refl (λ e. fall_parts y vs (subst (λ (c : ℤ). FallFrom c vs) e h.1))
  where
    n : ℕ
    n = prefix_len (λ u. int_eq u.at.y y) vs

    strictly : (a b : ℤ) → a ≤ℤ b → int_eq a b ≡ false → a <ℤ b
    strictly a b h k = grind (arith, ints)

    by_test : (t : Bool) → int_eq v.at.y y ≡ t → (v.at.y ≡ y → VertexParts (whole y) n vs) → VertexParts (whole y) (cond t (1 + n) 0) (v ∷ vs)
    by_test true e rest =
        let k = rest (eq_from_test v.at.y y e) in
        subst (λ m. VertexParts (whole y) m (v ∷ vs)) (sym (one_more_is n)) ((ap (λ (a : ℤ). a *ℤ pos 1) (eq_from_test v.at.y y e), k.0), k.1)
    by_test false e rest =
        let low = strictly v.at.y y h.0 e in
        (tt, (whole_lt v.at.y y low, fall_below y v.at.y vs h.1 low))

-- there are no more at y than there are vertices
fall_fits : (y : ℤ) (vs : List Vertex) → prefix_len (λ u. int_eq u.at.y y) vs ≤ length vs
fall_fits y vs = prefix_len-le-length (λ u. int_eq u.at.y y) vs

-- the vertices at the place of the first one
pub group_parts : (z : Fraction) (v : Vertex) (vs : List Vertex) → IsFraction z → AllByRecursion (λ u. in_column z u ≡ true) (v ∷ vs) → InOrder (v ∷ vs) →
    VertexParts (vertex_height v) (group_length (v ∷ vs)) (v ∷ vs) × (group_length (v ∷ vs) ≤ length (v ∷ vs))
group_parts z v vs i h o =
    let k = fall_parts v.at.y vs (fall_from z v vs i h.0 h.1 o) in
    subst (λ m. VertexParts (vertex_height v) m (v ∷ vs) × (m ≤ length (v ∷ vs))) (sym (one_more_is (prefix_len (λ u. int_eq u.at.y v.at.y) vs)))
    (((refl, k.0), k.1), omega (arith, fall_fits v.at.y vs))

-- a whole number up to one that is below q
lower_number : (a b : ℤ) (q : Fraction) → a ≤ℤ b → fraction_lt (whole b) q ≡ true → fraction_lt (whole a) q ≡ true
lower_number a b q h l = test_from_lt _ _ (lower (a *ℤ pos q.den) (b *ℤ pos q.den) (q.num *ℤ pos 1) (mul_le a b q.den h) (lt_from_test _ _ l))
  where
    lower : (a b c : ℤ) → a ≤ℤ b → b <ℤ c → a <ℤ c
    lower a b c h k = omega (arith, ints)

-- all of a column's vertices are below q where the first one is
group_below : (z q : Fraction) (v : Vertex) (vs : List Vertex) → IsFraction z → IsFraction q → AllByRecursion (λ u. in_column z u ≡ true) (v ∷ vs) → InOrder (v ∷ vs) →
    fraction_lt (vertex_height v) q ≡ true → AllByRecursion (λ u. fraction_lt (vertex_height u) q ≡ true) (v ∷ vs)
group_below z q v vs i j h o l = (l, all_below v.at.y vs (fall_from z v vs i h.0 h.1 o) l)
  where
    all_below : (y : ℤ) (us : List Vertex) → FallFrom y us → fraction_lt (whole y) q ≡ true → AllByRecursion (λ u. fraction_lt (vertex_height u) q ≡ true) us
    all_below y [] f l = tt
    all_below y (u ∷ us) f l =
        let here = lower_number u.at.y y q f.0 l in
        (here, all_below u.at.y us f.1 here)

-- ---- a level of a column: its edges and vertices are at the height q, and the rest is below q
pub record IsAtLevel (z q : Fraction) (es : List Active) (vs : List Vertex) (n m : ℕ) : Type 0 where
  pub number : IsFraction q
  pub some : 0 < n + m
  pub edges_fit : n ≤ length es
  pub vertices_fit : m ≤ length vs
  pub edges : AllByRecursion (λ a. Same (active_height z a) q) (take n es)
  pub vertices : AllByRecursion (λ v. Same (vertex_height v) q) (take m vs)
  pub edges_below : AllByRecursion (λ a. fraction_lt (active_height z a) q ≡ true) (drop n es)
  pub vertices_below : AllByRecursion (λ v. fraction_lt (vertex_height v) q ≡ true) (drop m vs)

-- the levels one after another, at these heights
abbrev pub Leveled : Fraction → List Active → List Vertex → List Level → List Fraction → Type 0
Leveled z es vs [] [] = (es ≡ []) × (vs ≡ [])
Leveled z es vs [] (q ∷ qs) = ⊥
Leveled z es vs (l ∷ ls) [] = ⊥
Leveled z es vs (l ∷ ls) (q ∷ qs) =
    IsAtLevel z q es vs l.edges l.vertices × Leveled z (drop l.edges es) (drop l.vertices vs) ls qs

-- some height is that of the level
abbrev pub HasLevel : Fraction → List Active → List Vertex → ℕ → ℕ → Type 0
HasLevel z es vs n m = (q : Fraction) × IsAtLevel z q es vs n m

-- of an edge and a vertex by the side of the edge on which the vertex lies
side_of-active : (z : Fraction) (a : Active) (v : Vertex) → IsFraction z → in_column z v ≡ true →
    side_of a.edge.left a.edge.right (grid_point v.at) ≡ fraction_cmp (vertex_height v) (active_height z a)
side_of-active z a v i h =
    cmp-same (vertex_height v) (height_in (whole v.at.x) a.edge) (active_height z a) (vertex_height-number v)
    (height_in-number (whole v.at.x) a.edge (record { positive = lit< tt })) (active_height-number z a i)
    (height_in-same (whole v.at.x) z a.edge (eq_from_test _ _ h))

-- the highest level of what is left, if it takes up anything, has a height
top_is_level : (z : Fraction) (column : Option Fraction) (es : List Active) (cs : List Contact) (vs : List Vertex) → IsFraction z →
    StepsAt z column es cs → AllByRecursion (λ v. in_column z v ≡ true) vs → InOrder vs →
    0 < (top_level column es cs vs).edges + (top_level column es cs vs).vertices →
    HasLevel z es vs (top_level column es cs vs).edges (top_level column es cs vs).vertices
top_is_level z column [] cs [] i s h o p = absurd (omega arith)
top_is_level z column [] cs (v ∷ vs) i s h o p =
    let k = group_parts z v vs i h o in (
      vertex_height v,
      record {
        number = vertex_height-number v;
        some = p;
        edges_fit = omega arith;
        vertices_fit = k.1;
        edges = tt;
        vertices = k.0.0;
        edges_below = tt;
        vertices_below = k.0.1;
      },
    )
top_is_level z column (a ∷ es) cs [] i s h o p =
    let k = run_parts z column a es cs i s in (
      active_height z a,
      record {
        number = active_height-number z a i;
        some = p;
        edges_fit = k.1;
        vertices_fit = omega arith;
        edges = k.0.0;
        vertices = tt;
        edges_below = k.0.1;
        vertices_below = tt;
      },
    )
top_is_level z column (a ∷ es) cs (v ∷ vs) i s h o p =
    by_side (side_of a.edge.left a.edge.right (grid_point v.at)) (sym (side_of-active z a v i h.0)) p
  where
    run : ℕ
    run = run_length column (a ∷ es) cs

    group : ℕ
    group = group_length (v ∷ vs)

    by_side : (t : Ordering) → fraction_cmp (vertex_height v) (active_height z a) ≡ t → 0 < (level_by t run group).edges + (level_by t run group).vertices →
        HasLevel z (a ∷ es) (v ∷ vs) (level_by t run group).edges (level_by t run group).vertices
    by_side Less e p =
        let k = run_parts z column a es cs i s in (
          active_height z a,
          record {
            number = active_height-number z a i;
            some = p;
            edges_fit = k.1;
            vertices_fit = omega arith;
            edges = k.0.0;
            vertices = tt;
            edges_below = k.0.1;
            vertices_below = group_below z (active_height z a) v vs i (active_height-number z a i) h o (lt_from_less (vertex_height v) (active_height z a) e);
          },
        )
    by_side Equal e p =
        let k = group_parts z v vs i h o in
        let same = sym (same_from_equal (vertex_height v) (active_height z a) e) in
        let r = steps_from z (vertex_height v) column a es cs i (vertex_height-number v) s same in (
          vertex_height v,
          record {
            number = vertex_height-number v;
            some = p;
            edges_fit = omega (arith, r.1);
            vertices_fit = k.1;
            edges = subst (λ n. AllByRecursion (λ b. Same (active_height z b) (vertex_height v)) (take n (a ∷ es))) (sym (one_more_is (prefix_len (touches column) cs))) (same, r.0.0);
            vertices = k.0.0;
            edges_below = subst (λ n. AllByRecursion (λ b. fraction_lt (active_height z b) (vertex_height v) ≡ true) (drop n (a ∷ es))) (sym (one_more_is (prefix_len (touches column) cs))) r.0.1;
            vertices_below = k.0.1;
          },
        )
    by_side Greater e p =
        let k = group_parts z v vs i h o in
        let low = lt_from_greater (vertex_height v) (active_height z a) e in (
          vertex_height v,
          record {
            number = vertex_height-number v;
            some = p;
            edges_fit = omega arith;
            vertices_fit = k.1;
            edges = tt;
            vertices = k.0.0;
            edges_below = (low, steps_below z (vertex_height v) column a es cs i (vertex_height-number v) s low);
            vertices_below = k.0.1;
          },
        )

-- so has a level that takes up the same
top_has_level : (z : Fraction) (column : Option Fraction) (es : List Active) (cs : List Contact) (vs : List Vertex) (l : Level) → IsFraction z →
    StepsAt z column es cs → AllByRecursion (λ v. in_column z v ≡ true) vs → InOrder vs → IsTop column es cs vs l → HasLevel z es vs l.edges l.vertices
top_has_level z column es cs vs l i s h o t =
    moved l.edges l.vertices (top_level column es cs vs).edges (top_level column es cs vs).vertices t.edges t.vertices t.some
    (λ p. top_is_level z column es cs vs i s h o p)
  where
    moved : (n m k j : ℕ) → n ≡ k → m ≡ j → 0 < n + m → (0 < k + j → HasLevel z es vs k j) → HasLevel z es vs n m
    moved n m k j e f p g =
        let r : 0 < k + j = omega arith in
        subst (λ c. HasLevel z es vs c m) (sym e) (subst (λ c. HasLevel z es vs k c) (sym f) (g r))

-- ---- what is left after a level
pub drop-each_active : (P : Active → Type 0) (n : ℕ) (es : List Active) → AllByRecursion P es → AllByRecursion P (drop n es)
drop-each_active P zero es h = h
drop-each_active P (suc n) [] h = tt
drop-each_active P (suc n) (a ∷ es) h = drop-each_active P n es h.1

pub drop-each_vertex : (P : Vertex → Type 0) (n : ℕ) (vs : List Vertex) → AllByRecursion P vs → AllByRecursion P (drop n vs)
drop-each_vertex P zero vs h = h
drop-each_vertex P (suc n) [] h = tt
drop-each_vertex P (suc n) (v ∷ vs) h = drop-each_vertex P n vs h.1

-- vertices in order are so after the first one
pub InOrder-rest : (u : Vertex) (vs : List Vertex) → InOrder (u ∷ vs) → InOrder vs
InOrder-rest u [] h = tt
InOrder-rest u (v ∷ vs) h = h.1

-- and after any number of them
pub drop-in_order : (n : ℕ) (vs : List Vertex) → InOrder vs → InOrder (drop n vs)
drop-in_order zero vs h = h
drop-in_order (suc n) [] h = tt
drop-in_order (suc n) (v ∷ vs) h = drop-in_order n vs (InOrder-rest v vs h)

-- nothing is left of nothing
pub drop-none : (n : ℕ) (cs : List Contact) → cs ≡ [] → drop n cs ≡ []
drop-none zero cs e = e
drop-none (suc n) cs e = ap (drop (suc n)) e

-- the steps of what is left: of the edges and the contacts as many are dropped
pub drop-steps : (z : Fraction) (column : Option Fraction) (n : ℕ) (es : List Active) (cs : List Contact) → StepsAt z column es cs →
    StepsAt z column (drop n es) (drop n cs)
drop-steps z column zero es cs h = h
drop-steps z column (suc n) [] cs h = drop-none (suc n) cs h
drop-steps z column (suc n) (a ∷ []) cs h = after n (drop-none (suc n) cs h)
  where
    after : (k : ℕ) → drop (suc n) cs ≡ [] → StepsAt z column (drop k []) (drop (suc n) cs)
    after zero e = e
    after (suc k) e = e
drop-steps z column (suc n) (a ∷ b ∷ es) [] h = absurd h
drop-steps z column (suc n) (a ∷ b ∷ es) (c ∷ cs) h = drop-steps z column n (b ∷ es) cs h.1

-- the levels of a column have heights
pub leveled : (z : Fraction) (column : Option Fraction) (es : List Active) (cs : List Contact) (vs : List Vertex) (ls : List Level) → IsFraction z →
    StepsAt z column es cs → AllByRecursion (λ v. in_column z v ≡ true) vs → InOrder vs → AreTops column es cs vs ls →
    (qs : List Fraction) × Leveled z es vs ls qs
leveled z column es cs vs [] i s h o t = ([], t)
leveled z column es cs vs (l ∷ ls) i s h o t =
    let here = top_has_level z column es cs vs l i s h o t.0 in
    let rest = leveled z column (drop l.edges es) (drop l.edges cs) (drop l.vertices vs) ls i (drop-steps z column l.edges es cs s) (drop-each_vertex (λ v. in_column z v ≡ true) l.vertices vs h) (drop-in_order l.vertices vs o) t.1 in
    (here.0 ∷ rest.0, (here.1, rest.1))
