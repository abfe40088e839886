-- Where a point lies by the edges of a list, from one neighbour to the next.
use Rattle.std.proofs.Common.{◌≡◌, refl, ap, sym, ◌∙◌, ℤ, pos, ◌*ℤ◌, ◌+◌, ℕ, arith, Bool, true, false, cond, ◌&&◌, ◌||◌, not, List, [], ◌∷◌, ◌++◌}
use Rattle.std.specs.Prelude.{int_le, int_lt, if◌then◌else◌}
use Rattle.std.specs.Int.{int_max, int_min}
use Rattle.std.specs.Ordering.{int_eq}
use Rattle.std.specs.List.{list_any}
use Rattle.std.proofs.lemmas.Int.{ints}
use Rattle.std.proofs.lemmas.List.Sums.{sum_by-cons}
use Rattle.sf_grid.specs.Plane.{Coordinates, Point as PlanePoint, grid_point, same_point, y_of}
use Rattle.sf_grid.specs.Edge.{Edge, below_rightward, cross, edge_above, edge_between, in_box, on_edge, within}
use Rattle.sf_grid.specs.EvenOdd.{edges_above, is_odd}
use Rattle.sf_geometry.specs.Lists.{edges_of, is_same}
use Rattle.sf_geometry.proofs.ListLaws.{edges-step, same-is}
use Rattle.sf_polygons.proofs.TestLaws.{or-none, xor}
use Rattle.sf_grid.proofs.ColumnLaws.{columns-on-grid, times-one}
use Rattle.sf_relate.specs.declared.place.Place.{Place}
use Rattle.sf_relate.specs.declared.place.Place.TheVariants.{Interior, Boundary, Exterior}
use Rattle.sf_relate.specs.Locating.{area_place, edges_place, in_one_alone}

-- ---- grid points
pub same-on-grid : (a b : Coordinates) → is_same a b ≡ same_point (grid_point a) (grid_point b)
same-on-grid a b =
    ap (λ z. int_eq z b.x && int_eq a.y b.y) (sym (times-one a.x))
    ∙ ap (λ z. int_eq (a.x *ℤ pos 1) z && int_eq a.y b.y) (sym (times-one b.x))
    ∙ ap (λ z. int_eq (a.x *ℤ pos 1) (b.x *ℤ pos 1) && int_eq z b.y) (sym (times-one a.y))
    ∙ ap (λ z. int_eq (a.x *ℤ pos 1) (b.x *ℤ pos 1) && int_eq (a.y *ℤ pos 1) z) (sym (times-one b.y))

-- ---- one edge, or none
no-column : (a b : ℤ) → (int_le a b && int_lt b a) ≡ false
no-column a b = grind (arith, ints)

not-above : (p : Coordinates) (q : PlanePoint) → edge_above (edge_between p p) q ≡ false
not-above p q =
    let e : below_rightward p p q ≡ false = ap (λ b. b && int_lt (cross p p q) (pos 0)) (no-column (p.x *ℤ pos q.d) q.x) in
    ap (λ b. b || b) e

one-odd : (b : Bool) → is_odd (0 + cond b 1 0) ≡ b
one-odd true = refl
one-odd false = refl

pub above-pair : (p r : Coordinates) (q : PlanePoint) → is_odd (edges_above q (edges_of (p ∷ r ∷ []))) ≡ edge_above (edge_between p r) q
above-pair p r q = ap (λ es. is_odd (edges_above q es)) (edges-step p r []) ∙ by (is_same p r) refl
  where
    by : (b : Bool) → is_same p r ≡ b → is_odd (edges_above q (if b then edges_of (r ∷ []) else edge_between p r ∷ edges_of (r ∷ []))) ≡ edge_above (edge_between p r) q
    by true e = sym (ap (λ s. edge_above (edge_between p s) q) (sym (same-is p r e)) ∙ not-above p q)
    by false e = one-odd (edge_above (edge_between p r) q)

-- ---- areas, of which each point is in an odd number or not
odd-next : (n : ℕ) → is_odd (1 + n) ≡ not (is_odd n)
odd-next n = grind arith

zero-more : (n : ℕ) → 0 + n ≡ n
zero-more n = omega arith

pub odd-more : (b : Bool) (n : ℕ) → is_odd (cond b 1 0 + n) ≡ xor b (is_odd n)
odd-more true n = odd-next n
odd-more false n = ap is_odd (zero-more n)

pub area-both : (on ons odd odds : Bool) → area_place (on || ons) (xor odd odds) ≡ in_one_alone (area_place on odd) (area_place ons odds)
area-both true ons odd odds = refl
area-both false true true odds = refl
area-both false true false odds = refl
area-both false false true true = refl
area-both false false true false = refl
area-both false false false odds = refl

pub alone-more : (a b c : Place) → in_one_alone a (in_one_alone b c) ≡ in_one_alone (in_one_alone a b) c
alone-more Boundary b c = refl
alone-more Exterior b c = refl
alone-more Interior Boundary c = refl
alone-more Interior Exterior c = refl
alone-more Interior Interior Boundary = refl
alone-more Interior Interior Exterior = refl
alone-more Interior Interior Interior = refl

pub alone-last : (a : Place) → in_one_alone a Exterior ≡ a
alone-last Boundary = refl
alone-last Exterior = refl
alone-last Interior = refl

edges-cons : (e : Edge) (es : List Edge) (q : PlanePoint) → edges_place (e ∷ es) q ≡ in_one_alone (area_place (on_edge e q) (edge_above e q)) (edges_place es q)
edges-cons e es q =
    ap (λ n. area_place (on_edge e q || list_any (λ d. on_edge d q) es) (is_odd n)) (sum_by-cons (λ d. cond (edge_above d q) 1 0) e es)
    ∙ ap (λ b. area_place (on_edge e q || list_any (λ d. on_edge d q) es) b) (odd-more (edge_above e q) (edges_above q es))
    ∙ area-both (on_edge e q) (list_any (λ d. on_edge d q) es) (edge_above e q) (is_odd (edges_above q es))

pub edges-append : (es fs : List Edge) (q : PlanePoint) → edges_place (es ++ fs) q ≡ in_one_alone (edges_place es q) (edges_place fs q)
edges-append [] fs q = refl
edges-append (e ∷ es) fs q =
    edges-cons e (es ++ fs) q
    ∙ ap (in_one_alone (area_place (on_edge e q) (edge_above e q))) (edges-append es fs q)
    ∙ alone-more (area_place (on_edge e q) (edge_above e q)) (edges_place es q) (edges_place fs q)
    ∙ ap (λ p. in_one_alone p (edges_place fs q)) (sym (edges-cons e es q))

-- ---- an edge of which both ends are in columns on one side of a point neither has the point nor is above it
none-within : (low high z : ℤ) → (int_lt high z || int_lt z low) ≡ true → (int_le (low *ℤ pos 1) z && int_le z (high *ℤ pos 1)) ≡ false
none-within low high z h =
    ap (λ n. int_le n z && int_le z (high *ℤ pos 1)) (times-one low) ∙ ap (λ n. int_le low z && int_le z n) (times-one high) ∙ off low high z h
  where
    off : (m n z : ℤ) → (int_lt n z || int_lt z m) ≡ true → (int_le m z && int_le z n) ≡ false
    off m n z h = grind (arith, ints)

none-between : (a b z : ℤ) → (int_lt (int_max a b) z || int_lt z (int_min a b)) ≡ true → (int_le a z && int_lt z b) ≡ false
none-between a b z h = grind (arith, ints)

none-back : (a b z : ℤ) → (int_lt (int_max a b) z || int_lt z (int_min a b)) ≡ true → (int_le b z && int_lt z a) ≡ false
none-back a b z h = grind (arith, ints)

never-and : (s t : Bool) → t ≡ false → (s && t) ≡ false
never-and true t h = h
never-and false t h = refl

beside-off : (u v p : Coordinates) → (int_lt (int_max u.x v.x) p.x || int_lt p.x (int_min u.x v.x)) ≡ true → on_edge (edge_between u v) (grid_point p) ≡ false
beside-off u v p h =
    never-and (int_eq (cross u v (grid_point p)) (pos 0)) (in_box (edge_between u v) (grid_point p))
    (ap (λ b. b && within (int_min u.y v.y) (int_max u.y v.y) (y_of (grid_point p))) (none-within (int_min u.x v.x) (int_max u.x v.x) p.x h))

beside-not-above : (u v p : Coordinates) → (int_lt (int_max u.x v.x) p.x || int_lt p.x (int_min u.x v.x)) ≡ true → edge_above (edge_between u v) (grid_point p) ≡ false
beside-not-above u v p h =
    ap (λ b. b || below_rightward v u (grid_point p)) (columns u v (none-between u.x v.x p.x h)) ∙ columns v u (none-back u.x v.x p.x h)
  where
    columns : (u v : Coordinates) → (int_le u.x p.x && int_lt p.x v.x) ≡ false → below_rightward u v (grid_point p) ≡ false
    columns u v e = ap (λ t. t && int_lt (cross u v (grid_point p)) (pos 0)) (sym (columns-on-grid u v p) ∙ e)

pub beside-outside : (u v p : Coordinates) (beside : Bool) → beside ≡ (int_lt (int_max u.x v.x) p.x || int_lt p.x (int_min u.x v.x)) → beside ≡ true → Exterior ≡ edges_place (edges_of (u ∷ v ∷ [])) (grid_point p)
beside-outside u v p beside is h = sym (ap (λ es. edges_place es (grid_point p)) (edges-step u v []) ∙ by (is_same u v))
  where
    by : (b : Bool) → edges_place (if b then edges_of (v ∷ []) else edge_between u v ∷ edges_of (v ∷ [])) (grid_point p) ≡ Exterior
    by true = refl
    by false =
        edges-cons (edge_between u v) [] (grid_point p)
        ∙ ap (λ on. in_one_alone (area_place on (edge_above (edge_between u v) (grid_point p))) (edges_place [] (grid_point p))) (beside-off u v p (sym is ∙ h))
        ∙ ap (λ above. in_one_alone (area_place false above) (edges_place [] (grid_point p))) (beside-not-above u v p (sym is ∙ h))

-- ---- from one neighbour to the next
neighbours : (p r : Coordinates) (rs : List Coordinates) → edges_of (p ∷ r ∷ rs) ≡ edges_of (p ∷ r ∷ []) ++ edges_of (r ∷ rs)
neighbours p r rs = edges-step p r rs ∙ by (is_same p r) ∙ ap (λ es. es ++ edges_of (r ∷ rs)) (sym (edges-step p r []))
  where
    by : (b : Bool) → (if b then edges_of (r ∷ rs) else edge_between p r ∷ edges_of (r ∷ rs)) ≡ (if b then edges_of (r ∷ []) else edge_between p r ∷ edges_of (r ∷ [])) ++ edges_of (r ∷ rs)
    by true = refl
    by false = refl

-- what is left of a ring, the place by the edges that were passed before it
pub ring-step : (found : Place) (p r : Coordinates) (rs : List Coordinates) (q : PlanePoint) →
    in_one_alone (in_one_alone found (edges_place (edges_of (p ∷ r ∷ [])) q)) (edges_place (edges_of (r ∷ rs)) q) ≡ in_one_alone found (edges_place (edges_of (p ∷ r ∷ rs)) q)
ring-step found p r rs q =
    sym (alone-more found (edges_place (edges_of (p ∷ r ∷ [])) q) (edges_place (edges_of (r ∷ rs)) q))
    ∙ ap (in_one_alone found) (sym (ap (λ es. edges_place es q) (neighbours p r rs) ∙ edges-append (edges_of (p ∷ r ∷ [])) (edges_of (r ∷ rs)) q))

-- lists one after another
pub lists-step : (found : Place) (es fs : List Edge) (q : PlanePoint) →
    in_one_alone (in_one_alone found (edges_place es q)) (edges_place fs q) ≡ in_one_alone found (edges_place (es ++ fs) q)
lists-step found es fs q = sym (alone-more found (edges_place es q) (edges_place fs q)) ∙ ap (in_one_alone found) (sym (edges-append es fs q))

-- ---- one turn of a loop: the place that was found before it and after it, and what is left
pub ring-turn : (found by next whole : Place) (p r : Coordinates) (rs left : List Coordinates) (q : PlanePoint) →
    next ≡ in_one_alone found by → by ≡ edges_place (edges_of (p ∷ r ∷ [])) q → left ≡ r ∷ rs →
    in_one_alone found (edges_place (edges_of (p ∷ left)) q) ≡ whole → in_one_alone next (edges_place (edges_of (r ∷ rs)) q) ≡ whole
ring-turn found by next whole p r rs left q n b l h =
    ap (λ s. in_one_alone s (edges_place (edges_of (r ∷ rs)) q)) (n ∙ ap (in_one_alone found) b)
    ∙ ring-step found p r rs q
    ∙ ap (λ ps. in_one_alone found (edges_place (edges_of (p ∷ ps)) q)) (sym l)
    ∙ h

pub lists-turn : (found by next whole : Place) (es fs left : List Edge) (q : PlanePoint) →
    next ≡ in_one_alone found by → by ≡ edges_place es q → left ≡ es ++ fs →
    in_one_alone found (edges_place left q) ≡ whole → in_one_alone next (edges_place fs q) ≡ whole
lists-turn found by next whole es fs left q n b l h =
    ap (λ s. in_one_alone s (edges_place fs q)) (n ∙ ap (in_one_alone found) b)
    ∙ lists-step found es fs q
    ∙ ap (λ gs. in_one_alone found (edges_place gs q)) (sym l)
    ∙ h

-- where the boundary was found, what is left changes nothing
pub decided : (next left whole : Place) → next ≡ Boundary → in_one_alone next left ≡ whole → next ≡ whole
decided next left whole is h = is ∙ ap (λ s. in_one_alone s left) (sym is) ∙ h

-- ---- one of two ends
pub either-first : (r s t : Bool) → r ≡ s → r ≡ true → r ≡ (s || (t || false))
either-first r s t e h = h ∙ ap (λ b. b || (t || false)) (sym h ∙ e)

pub either-second : (f r s t : Bool) → f ≡ s → f ≡ false → r ≡ t → r ≡ (s || (t || false))
either-second f r s t e h k = k ∙ sym (or-none t) ∙ ap (λ b. b || (t || false)) (sym h ∙ e)
