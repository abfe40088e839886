-- The sweep over the vertices: where it begins, each step, and what it shows at its end.
use Rattle.std.proofs.Common.{below_more, ◌≡◌, ◌≢◌, ℕ, zero, suc, ◌+◌, ◌-◌, ◌<◌, ◌≤◌, refl, ap, sym, ◌∙◌, ℤ, pos, negsuc, ◌+ℤ◌, ◌*ℤ◌, ◌≤ℤ◌, ◌<ℤ◌, arith, subst, List, [], ◌∷◌, ◌++◌, length, get_or, take, drop, inl, inr, ◌⊎◌, Bool, true, false, Option, Some, None}
use Rattle.std.specs.Prelude.{if◌then◌else◌, slice_get}
use Rattle.std.specs.List.{All, Contains}
use Rattle.std.specs.List.Sorted.{IsPermutation}
use Rattle.std.proofs.lemmas.Int.{ints, by_lt_z}
use Rattle.std.proofs.lemmas.List.{get_or_default}
use Rattle.std.proofs.lemmas.List.Elements.{All-push, Contains-append_left, Contains-push}
use Rattle.std.proofs.lemmas.List.Sorted.{All-permutation, Contains-permutation}
use Rattle.sf_grid.specs.Plane.{Coordinates, IsOnGrid, IsPoint, IsSamePoint, Point, grid_point}
use Rattle.sf_grid.specs.Edge.{Edge}
use Rattle.sf_grid.specs.Sharing.{IsOnBoth, comes_before, earlier_of, later_of}
use Rattle.sf_grid.proofs.CallerLemmas.{eq_from_mul, mul_le, mul_lt}
use Rattle.sf_grid.proofs.LineLaws.{before_from_not}
use Rattle.sf_first_meeting.specs.declared.spot.Spot.{Spot}
use Rattle.sf_first_meeting.specs.declared.vertices.Vertex.{Vertex}
use Rattle.sf_first_meeting.specs.Numbered.{AllAreApart, AreApart, HasLengths, IsClosedBy, IsJoint, edge_at, point_of}
use Rattle.sf_first_meeting.specs.Sheared.{place, risen, rising, shear_factor, sheared, sheared_point}
use Rattle.sf_first_meeting.specs.Orders.{Among, IsEnd, Linked, LinkedFrom, Seam, SeamFrom}
use Rattle.sf_first_meeting.specs.Spots.{Along, Between, BeginsAt, EndsAt, IsAtVertex, IsFound, IsLeftOf, IsSpot, LeadsTo, beginning_of, ending_of}
use Rattle.sf_first_meeting.specs.Sweeps.{AreFanned, ArePlain, Event, Stands}
use Rattle.sf_first_meeting.specs.Tables.{Ascend, IsCount, IsNumbering, IsSwept, IsTable, LieOnGrid, Moves, place_at, vertex_at}
use Rattle.sf_first_meeting.proofs.PairLaws.{read-is}
use Rattle.sf_first_meeting.proofs.ShearLaws.{IsAt, on-sheared, place-before, same-from_at}
use Rattle.sf_first_meeting.proofs.StepLaws.{next-stands, reach-rising}

-- ---- small facts on numbers
le_lt : (a b c : ℤ) → a ≤ℤ b → b <ℤ c → a <ℤ c
le_lt a b c h k = omega (arith, ints)

lt_le : (a b c : ℤ) → a <ℤ b → b ≤ℤ c → a <ℤ c
lt_le a b c h k = omega (arith, ints)

le_le : (a b c : ℤ) → a ≤ℤ b → b ≤ℤ c → a ≤ℤ c
le_le a b c h k = omega (arith, ints)

lt_lt : (a b c : ℤ) → a <ℤ b → b <ℤ c → a <ℤ c
lt_lt a b c h k = omega (arith, ints)

weak : (a b : ℤ) → a <ℤ b → a ≤ℤ b
weak a b h = omega (arith, ints)

same_le : (a b : ℤ) → a ≡ b → a ≤ℤ b
same_le a b h = omega (arith, ints)

clash : (a b : ℤ) → a <ℤ b → b ≤ℤ a → ⊥
clash a b h k = omega (arith, ints)

-- ---- seams from what was tested
less_one : (n : ℕ) → suc (suc n) - 1 ≡ suc n
less_one n = omega arith

one_less : (n : ℕ) → suc n - 1 ≡ n
one_less n = omega arith

seam-from : (R : ℕ → ℕ → Type 0) (x : ℕ) (ys : List ℕ) → Between R (Some x) (slice_get ys 0) → SeamFrom R x ys
seam-from R x [] h = tt
seam-from R x (y ∷ ys) h = h

seam-last : (R : ℕ → ℕ → Type 0) (xs ys : List ℕ) → Between R (slice_get xs (length xs - 1)) (slice_get ys 0) → Seam R xs ys
seam-last R [] ys h = tt
seam-last R (x ∷ []) ys h = seam-from R x ys h
seam-last R (x ∷ y ∷ xs) ys h =
    seam-last R (y ∷ xs) ys
    (let P : ℕ → Type 0 = λ k. Between R (slice_get (x ∷ y ∷ xs) k) (slice_get ys 0) in
    let Q : ℕ → Type 0 = λ k. Between R (slice_get (y ∷ xs) k) (slice_get ys 0) in
    subst Q (sym (one_less (length xs))) (subst P (less_one (length xs)) h))

lower-from : (R : ℕ → ℕ → Type 0) (below gs above : List ℕ) → Along R (slice_get below (length below - 1)) gs (slice_get above 0) → Seam R below (gs ++ above)
lower-from R below [] above h = seam-last R below above h
lower-from R below (g ∷ gs) above h = seam-last R below (g ∷ (gs ++ above)) h.0

upper-from : (R : ℕ → ℕ → Type 0) (low : Option ℕ) (gs above : List ℕ) → Along R low gs (slice_get above 0) → Seam R gs above
upper-from R low [] above h = tt
upper-from R low (g ∷ []) above h = seam-from R g above h.1
upper-from R low (g ∷ k ∷ gs) above h = upper-from R (Some g) (k ∷ gs) above h.1

linked-along : (R : ℕ → ℕ → Type 0) (low : Option ℕ) (gs : List ℕ) (high : Option ℕ) → Along R low gs high → Linked R gs
linked-along R low [] high h = tt
linked-along R low (g ∷ []) high h = tt
linked-along R low (g ∷ k ∷ gs) high h = (h.1.0, linked-along R (Some g) (k ∷ gs) high h.1)

linked-both : (R S : ℕ → ℕ → Type 0) (xs : List ℕ) → Linked R xs → Linked S xs → Linked (λ i j. R i j × S i j) xs
linked-both R S [] h k = tt
linked-both R S (x ∷ []) h k = tt
linked-both R S (x ∷ y ∷ ys) h k = ((h.0, k.0), linked-both R S (y ∷ ys) h.1 k.1)

-- ---- the vertices
abbrev first_vertex : Vertex
first_vertex = vertex_at [] 0

pub count-most : (ps : List Coordinates) (n k : ℕ) → IsCount ps n → k < n → k < length ps
count-most ps n k (inl e) h = omega (arith, e, h)
count-most ps n k (inr e) h = omega (arith, e.0, h)

-- what is known of the k-th one
pub record Known (ps : List Coordinates) (vs : List Vertex) (k : ℕ) : Type 0 where
  pub in_range : (get_or vs k first_vertex).number < length ps
  pub at : (get_or vs k first_vertex).at ≡ point_of ps (get_or vs k first_vertex).number
  pub grid : IsOnGrid (get_or vs k first_vertex).at

known : (ps : List Coordinates) (vs : List Vertex) → IsTable ps vs → (k : ℕ) → k < length vs → Known ps vs k
known ps vs t k h =
    let is = t.numbering.are k first_vertex h in
    let r = count-most ps t.numbering.count _ t.numbering.is_count is.0 in
    record { in_range = r; at = is.1; grid = let P : Coordinates → Type 0 = λ c. IsOnGrid c in subst P (sym is.1) (t.grid _ r) }

after : (j r : ℕ) → j + suc r + 1 ≡ j + suc (suc r)
after j r = omega arith

places-from : (ps : List Coordinates) (vs : List Vertex) → IsTable ps vs → (j r : ℕ) → j + suc r < length vs → place_at vs j <ℤ place_at vs (j + suc r)
places-from ps vs t j zero h = next ps vs t j (omega (arith, h)) (omega arith)
  where
    next : (ps : List Coordinates) (vs : List Vertex) → IsTable ps vs → (j : ℕ) → j + 1 < length vs → (j + suc zero ≡ j + 1) → place_at vs j <ℤ place_at vs (j + suc zero)
    next ps vs t j h e =
        let P : ℕ → Type 0 = λ n. place_at vs j <ℤ place_at vs n in
        subst P (sym e)
        (place-before (get_or vs j first_vertex).at (get_or vs (j + 1) first_vertex).at (known ps vs t j (omega (arith, h))).grid (known ps vs t (j + 1) h).grid (t.ascend j first_vertex h))
places-from ps vs t j (suc r) h =
    let here : j + suc r + 1 < length vs = omega (arith, h) in
    let step : place_at vs (j + suc r) <ℤ place_at vs (j + suc r + 1) =
    place-before (get_or vs (j + suc r) first_vertex).at (get_or vs (j + suc r + 1) first_vertex).at (known ps vs t (j + suc r) (omega (arith, h))).grid (known ps vs t (j + suc r + 1) here).grid
    (t.ascend (j + suc r) first_vertex here) in
    let P : ℕ → Type 0 = λ n. place_at vs j <ℤ place_at vs n in
    subst P (after j r) (lt_lt _ _ _ (places-from ps vs t j r (omega (arith, h))) step)

pub places-rise : (ps : List Coordinates) (vs : List Vertex) → IsTable ps vs → (j k : ℕ) → j < k → k < length vs → place_at vs j <ℤ place_at vs k
places-rise ps vs t j k h l =
    let e : j + suc (k - (j + 1)) ≡ k = omega (arith, h) in
    let P : ℕ → Type 0 = λ n. place_at vs j <ℤ place_at vs n in
    subst P e (places-from ps vs t j (k - (j + 1)) (omega (arith, h, l)))

-- vertices at one place are one
one-place : (ps : List Coordinates) (vs : List Vertex) → IsTable ps vs → (j k : ℕ) → j < length vs → k < length vs → place_at vs j ≡ place_at vs k → j ≡ k
one-place ps vs t j k h l e = by (order j k)
  where
    order : (j k : ℕ) → (j < k) ⊎ (k < j) ⊎ (j ≡ k)
    order zero zero = inr (inr refl)
    order zero (suc k) = inl (omega arith)
    order (suc j) zero = inr (inl (omega arith))
    order (suc j) (suc k) = more (order j k)
      where
        more : (j < k) ⊎ (k < j) ⊎ (j ≡ k) → (suc j < suc k) ⊎ (suc k < suc j) ⊎ (suc j ≡ suc k)
        more (inl h) = inl (omega (arith, h))
        more (inr (inl h)) = inr (inl (omega (arith, h)))
        more (inr (inr h)) = inr (inr (ap suc h))

    by : (j < k) ⊎ (k < j) ⊎ (j ≡ k) → j ≡ k
    by (inl h') = absurd (clash _ _ (places-rise ps vs t j k h' l) (same_le _ _ (sym e)))
    by (inr (inl h')) = absurd (clash _ _ (places-rise ps vs t k j h' h) (same_le _ _ e))
    by (inr (inr h')) = h'

-- ---- the vertex at an end of an edge
-- it is the j-th in order
pub record Foot (ps : List Coordinates) (vs : List Vertex) (i : ℕ) (c : Coordinates) : Type 0 where
  pub number : ℕ
  pub touches : IsAtVertex ps number i
  pub is : c ≡ point_of ps number
  pub index : ℕ
  pub within : index < length vs
  pub vertex : get_or vs index first_vertex ≡ vertex_at ps number

listed : (ps : List Coordinates) (vs : List Vertex) (t : IsTable ps vs) (i n : ℕ) (c : Coordinates) → n < t.numbering.count → IsAtVertex ps n i → c ≡ point_of ps n → Foot ps vs i c
listed ps vs t i n c h a e =
    let m = t.numbering.all n h in
    record {
      number = n;
      touches = a;
      is = e;
      index = m.0;
      within = m.1;
      vertex = get_or_default vs m.0 first_vertex (vertex_at ps n) m.1 ∙ m.2;
    }

foot-first : (ps : List Coordinates) (vs : List Vertex) → IsTable ps vs → (i : ℕ) → i + 1 < length ps → Foot ps vs i (point_of ps i)
foot-first ps vs t i h = listed ps vs t i i (point_of ps i) (by t.numbering.is_count) (inl refl) refl
  where
    by : IsCount ps t.numbering.count → i < t.numbering.count
    by (inl e) = omega (arith, e, h)
    by (inr e) = omega (arith, e.0, h)

foot-second : (ps : List Coordinates) (vs : List Vertex) → IsTable ps vs → (i : ℕ) → i + 1 < length ps → Foot ps vs i (point_of ps (i + 1))
foot-second ps vs t i h = by t.numbering.is_count
  where
    same : (n : ℕ) → n + 1 ≡ length ps → (i + 1 < n) ⊎ (i + 1 ≡ n)
    same n e = elim (less (i + 1) n) [ inl l ↦ inl l | inr l ↦ inr (omega (arith, e, h, l)) ]
      where
        less : (m n : ℕ) → (m < n) ⊎ (n ≤ m)
        less zero zero = inr (omega arith)
        less zero (suc n) = inl (omega arith)
        less (suc m) zero = inr (omega arith)
        less (suc m) (suc n) = more (less m n)
          where
            more : (m < n) ⊎ (n ≤ m) → (suc m < suc n) ⊎ (suc n ≤ suc m)
            more (inl k) = inl (omega (arith, k))
            more (inr k) = inr (omega (arith, k))

    by : IsCount ps t.numbering.count → Foot ps vs i (point_of ps (i + 1))
    by (inl e) = listed ps vs t i (i + 1) (point_of ps (i + 1)) (omega (arith, e, h)) (inr (inl refl)) refl
    by (inr e) = closed (same t.numbering.count e.0)
      where
        closed : (i + 1 < t.numbering.count) ⊎ (i + 1 ≡ t.numbering.count) → Foot ps vs i (point_of ps (i + 1))
        closed (inl l) = listed ps vs t i (i + 1) (point_of ps (i + 1)) l (inr (inl refl)) refl
        closed (inr l) =
            let last : point_of ps 0 ≡ point_of ps (i + 1) = e.1 ∙ ap (point_of ps) (sym l) in
            listed ps vs t i 0 (point_of ps (i + 1)) (omega (arith, l)) (inr (inr (refl, (omega (arith, e.0, l), last)))) (sym last)

either-end : (ps : List Coordinates) (vs : List Vertex) (i : ℕ) (a b : Coordinates) (t : Bool) → Foot ps vs i a → Foot ps vs i b → Foot ps vs i (if t then b else a)
either-end ps vs i a b true f g = g
either-end ps vs i a b false f g = f

-- the vertices at the left end and at the right end
pub foot-left : (ps : List Coordinates) (vs : List Vertex) → IsTable ps vs → (i : ℕ) → i + 1 < length ps → Foot ps vs i (earlier_of (point_of ps i) (point_of ps (i + 1)))
foot-left ps vs t i h =
    either-end ps vs i (point_of ps i) (point_of ps (i + 1)) (comes_before (point_of ps (i + 1)) (point_of ps i)) (foot-first ps vs t i h) (foot-second ps vs t i h)

pub foot-right : (ps : List Coordinates) (vs : List Vertex) → IsTable ps vs → (i : ℕ) → i + 1 < length ps → Foot ps vs i (later_of (point_of ps i) (point_of ps (i + 1)))
foot-right ps vs t i h =
    either-end ps vs i (point_of ps (i + 1)) (point_of ps i) (comes_before (point_of ps (i + 1)) (point_of ps i)) (foot-second ps vs t i h) (foot-first ps vs t i h)

foot-place : (ps : List Coordinates) (vs : List Vertex) (i : ℕ) (c : Coordinates) (f : Foot ps vs i c) → place c ≡ place_at vs f.index
foot-place ps vs i c f = ap place f.is ∙ ap (λ (v : Vertex). place v.at) (sym f.vertex)

-- ---- edges rise
rises : (a b : Coordinates) → a ≢ b → IsOnGrid a → IsOnGrid b → place (earlier_of a b) <ℤ place (later_of a b)
rises a b n g h = by (comes_before b a) refl
  where
    by : (t : Bool) → comes_before b a ≡ t → place (if t then b else a) <ℤ place (if t then a else b)
    by true e = place-before b a h g e
    by false e = place-before a b g h (before_from_not a b n e)

edge-rises : (ps : List Coordinates) (vs : List Vertex) → IsTable ps vs → (i : ℕ) → i + 1 < length ps → (rising ps i).a.x <ℤ (rising ps i).b.x
edge-rises ps vs t i h = rises (point_of ps i) (point_of ps (i + 1)) (t.lengths i h) (t.grid i (omega (arith, h))) (t.grid (i + 1) h)

-- ---- one step
-- what is at hand at the k-th vertex
record Here (ps : List Coordinates) (vs : List Vertex) (active : List ℕ) (k : ℕ) (n : ℕ) : Type 0 where
  table : IsTable ps vs
  swept : IsSwept ps vs active k
  within : k < length vs
  vertex : get_or vs k first_vertex ≡ vertex_at ps n

here-place : (ps : List Coordinates) (vs : List Vertex) (active : List ℕ) (k n : ℕ) → Here ps vs active k n → place (point_of ps n) ≡ place_at vs k
here-place ps vs active k n h = ap (λ (v : Vertex). place v.at) (sym h.vertex)

less-or_not : (m n : ℕ) → (m < n) ⊎ (n ≤ m)
less-or_not zero zero = inr (omega arith)
less-or_not zero (suc n) = inl (omega arith)
less-or_not (suc m) zero = inr (omega arith)
less-or_not (suc m) (suc n) = more (less-or_not m n)
  where
    more : (m < n) ⊎ (n ≤ m) → (suc m < suc n) ⊎ (suc n ≤ suc m)
    more (inl k) = inl (omega (arith, k))
    more (inr k) = inr (omega (arith, k))

-- a vertex behind what is reached is not before the k-th one
no-nearer : (ps : List Coordinates) (vs : List Vertex) (active : List ℕ) (k n i : ℕ) (c : Coordinates) (h : Here ps vs active k n) → Foot ps vs i c → h.swept.reached <ℤ place c → place (point_of ps n) ≤ℤ place c
no-nearer ps vs active k n i c h f l = by (less-or_not f.index k)
  where
    here : (f.index ≡ k) ⊎ (k < f.index) → place (point_of ps n) ≤ℤ place c
    here (inl e) = same_le _ _ (here-place ps vs active k n h ∙ ap (place_at vs) (sym e) ∙ sym (foot-place ps vs i c f))
    here (inr m) =
        le_le _ _ _ (same_le _ _ (here-place ps vs active k n h)) (le_le _ _ _ (weak _ _ (places-rise ps vs h.table k f.index m f.within)) (same_le _ _ (sym (foot-place ps vs i c f))))

    split : (k ≤ f.index) → (f.index ≤ k) ⊎ (k < f.index) → (f.index ≡ k) ⊎ (k < f.index)
    split m (inl o) = inl (omega (arith, m, o))
    split m (inr o) = inr o

    turn : (k < f.index) ⊎ (f.index ≤ k) → (f.index ≤ k) ⊎ (k < f.index)
    turn (inl o) = inr o
    turn (inr o) = inl o

    by : (f.index < k) ⊎ (k ≤ f.index) → place (point_of ps n) ≤ℤ place c
    by (inl m) = absurd (clash _ _ l (le_le _ _ _ (same_le _ _ (foot-place ps vs i c f)) (h.swept.behind f.index m f.within)))
    by (inr m) = here (split m (turn (less-or_not k f.index)))

-- a vertex at the place of the k-th one is that one
there-is : (ps : List Coordinates) (vs : List Vertex) (active : List ℕ) (k n i : ℕ) (c : Coordinates) → Here ps vs active k n → Foot ps vs i c → place c ≡ place (point_of ps n) → IsAtVertex ps n i
there-is ps vs active k n i c h f e =
    let same : f.index ≡ k = one-place ps vs h.table f.index k f.within h.within (sym (foot-place ps vs i c f) ∙ e ∙ here-place ps vs active k n h) in
    let number : f.number ≡ n = ap (λ (v : Vertex). v.number) (sym f.vertex ∙ ap (λ j. get_or vs j first_vertex) same ∙ h.vertex) in
    let P : ℕ → Type 0 = λ m. IsAtVertex ps m i in
    subst P number f.touches

-- ---- what is found at a vertex
edge-ends-at : (ps : List Coordinates) (n i : ℕ) → EndsAt ps n i → (rising ps i).b.x ≡ place (point_of ps n)
edge-ends-at ps n i e = ap (λ (c : Coordinates). c.x) e

edge-begins-at : (ps : List Coordinates) (n i : ℕ) → BeginsAt ps n i → (rising ps i).a.x ≡ place (point_of ps n)
edge-begins-at ps n i e = ap (λ (c : Coordinates). c.x) e

take-drop : (n : ℕ) (xs : List ℕ) → take n xs ++ drop n xs ≡ xs
take-drop zero xs = refl
take-drop (suc n) [] = refl
take-drop (suc n) (x ∷ xs) = ap (λ ys. x ∷ ys) (take-drop n xs)

event : (ps : List Coordinates) (vs : List Vertex) (active : List ℕ) (k n from : ℕ) (spot : Spot) (h : Here ps vs active k n) → IsFound ps active n from spot →
    Event ps h.swept.reached (point_of ps n) (take from active) (take (length (ending_of spot)) (drop from active)) (beginning_of spot) (drop (length (ending_of spot)) (drop from active))
event ps vs active k n from spot h f =
    record {
      rises = edge-rises ps vs h.table;
      ahead = lt_le _ _ _ (h.swept.ahead k (omega arith) h.within) (same_le _ _ (sym (here-place ps vs active k n h)));
      next_begin = λ i r l. no-nearer ps vs active k n i _ h (foot-left ps vs h.table i r) l;
      next_end = λ i r l. no-nearer ps vs active k n i _ h (foot-right ps vs h.table i r) l;
      ending_is = λ i m. (f.is_spot.ending i (f.tested.same.0 i m)).1;
      ending_all = λ i r e. ends i r (there-is ps vs active k n i _ h (foot-right ps vs h.table i r) e) e;
      beginning_is =
          λ i m.
          let is = f.is_spot.beginning i m in
          ((f.is_spot.known.are i is.0).0, is.1);
      beginning_all = λ i r e. begins i r (there-is ps vs active k n i _ h (foot-left ps vs h.table i r) e) e;
      under = f.tested.under;
      over = f.tested.over;
      fan =
          linked-both (ArePlain ps) (IsLeftOf ps) (beginning_of spot)
          (linked-along (ArePlain ps) _ (beginning_of spot) _ f.tested.plain) f.is_spot.fan;
      lower_seam = lower-from (ArePlain ps) (take from active) (beginning_of spot) (drop (length (ending_of spot)) (drop from active)) f.tested.plain;
      upper_seam = upper-from (ArePlain ps) _ (beginning_of spot) (drop (length (ending_of spot)) (drop from active)) f.tested.plain;
    }
  where
    ends : (i : ℕ) → i + 1 < length ps → IsAtVertex ps n i → (rising ps i).b.x ≡ place (point_of ps n) → Among i (take (length (ending_of spot)) (drop from active))
    ends i r a e = by (f.is_spot.either i (f.is_spot.known.all i r a))
      where
        by : Among i (ending_of spot) ⊎ Among i (beginning_of spot) → Among i (take (length (ending_of spot)) (drop from active))
        by (inl m) = f.tested.same.1 i m
        by (inr m) =
            absurd (clash _ _ (edge-rises ps vs h.table i r) (same_le _ _ (e ∙ sym (edge-begins-at ps n i (f.is_spot.beginning i m).1))))

    begins : (i : ℕ) → i + 1 < length ps → IsAtVertex ps n i → (rising ps i).a.x ≡ place (point_of ps n) → Among i (beginning_of spot)
    begins i r a e = by (f.is_spot.either i (f.is_spot.known.all i r a))
      where
        by : Among i (ending_of spot) ⊎ Among i (beginning_of spot) → Among i (beginning_of spot)
        by (inr m) = m
        by (inl m) =
            absurd (clash _ _ (edge-rises ps vs h.table i r) (same_le _ _ (edge-ends-at ps n i (f.is_spot.ending i m).1 ∙ sym e)))

pub step : (ps : List Coordinates) (vs : List Vertex) (active : List ℕ) (k n : ℕ) (new : List ℕ) → IsTable ps vs → IsSwept ps vs active k → k < length vs → get_or vs k first_vertex ≡ vertex_at ps n →
    Moves ps active n new → IsSwept ps vs new (k + 1)
step ps vs active k n new t s l v m =
    record {
      reached = place (point_of ps n);
      stands = let P : List ℕ → Type 0 = λ xs. Stands ps xs (place (point_of ps n)) in subst P (sym m.changed) after-it;
      behind = λ j o r. behind j (less-or_not j k) o r;
      ahead = λ j o r. le_lt _ _ _ (same_le _ _ (here-place ps vs active k n here)) (places-rise ps vs t k j (omega (arith, o)) r);
    }
  where
    here : Here ps vs active k n
    here = record { table = t; swept = s; within = l; vertex = v }

    parts : take m.from active ++ (take (length (ending_of m.spot)) (drop m.from active) ++ drop (length (ending_of m.spot)) (drop m.from active)) ≡ active
    parts = ap (λ xs. take m.from active ++ xs) (take-drop (length (ending_of m.spot)) (drop m.from active)) ∙ take-drop m.from active

    after-it : Stands ps (take m.from active ++ (beginning_of m.spot ++ drop (length (ending_of m.spot)) (drop m.from active))) (place (point_of ps n))
    after-it =
        next-stands ps s.reached (point_of ps n) (take m.from active) (take (length (ending_of m.spot)) (drop m.from active)) (beginning_of m.spot)
        (drop (length (ending_of m.spot)) (drop m.from active))
        (let P : List ℕ → Type 0 = λ xs. Stands ps xs s.reached in subst P (sym parts) s.stands)
        (event ps vs active k n m.from m.spot here m.found)

    behind : (j : ℕ) → (j < k) ⊎ (k ≤ j) → j < k + 1 → j < length vs → place_at vs j ≤ℤ place (point_of ps n)
    behind j (inl o) h r = le_le _ _ _ (weak _ _ (places-rise ps vs t j k o l)) (same_le _ _ (sym (here-place ps vs active k n here)))
    behind j (inr o) h r =
        let e : j ≡ k = omega (arith, o, h) in
        same_le _ _ (ap (place_at vs) e ∙ sym (here-place ps vs active k n here))

-- ---- the start
abbrev least : ℤ
least = negsuc 9223372036854775807

least-before : (c : Coordinates) → IsOnGrid c → least <ℤ place c
least-before c g = omega (arith, ints, g.0.0, g.0.1, g.1.0, g.1.1)

left-behind : (ps : List Coordinates) (vs : List Vertex) → IsTable ps vs → (i : ℕ) → i + 1 < length ps → least <ℤ (rising ps i).a.x
left-behind ps vs t i h = least-before _ (either (comes_before (point_of ps (i + 1)) (point_of ps i)))
  where
    either : (b : Bool) → IsOnGrid (if b then point_of ps (i + 1) else point_of ps i)
    either true = t.grid (i + 1) h
    either false = t.grid i (omega (arith, h))

pub start : (ps : List Coordinates) (vs : List Vertex) → IsTable ps vs → IsSwept ps vs [] 0
start ps vs t =
    record {
      reached = least;
      stands =
          record {
            going = λ i m. absurd m;
            all = λ i r h k. absurd (clash _ _ (left-behind ps vs t i r) h);
            order = tt;
            past =
                λ i j r s n p is on h.
                absurd
                (clash _ _ (mul_lt least (rising ps i).a.x p.d is.positive (left-behind ps vs t i r))
                (le_le _ _ _ (reach-rising (rising ps i) p (edge-rises ps vs t i r) on.0).0 h));
          };
      behind = λ j h r. absurd (omega (arith, h));
      ahead = λ j h r. least-before _ (known ps vs t j r).grid;
    }

-- ---- the end
meets-at : (ps : List Coordinates) (i j u : ℕ) (p : Point) → i < j → j + 1 < length ps → IsAtVertex ps u i → IsAtVertex ps u j → IsSamePoint (grid_point (point_of ps u)) p → IsJoint ps i j p
meets-at ps i j u p o r (inl e) (inl f) s = absurd (omega (arith, o, e, f))
meets-at ps i j u p o r (inl e) (inr (inl f)) s = absurd (omega (arith, o, e, f))
meets-at ps i j u p o r (inl e) (inr (inr (f, closed))) s =
    let P : ℕ → Type 0 = λ n. IsSamePoint (grid_point (point_of ps n)) p in inr (e ∙ f, closed, subst P f s)
meets-at ps i j u p o r (inr (inl e)) (inl f) s =
    let P : ℕ → Type 0 = λ n. IsSamePoint (grid_point (point_of ps n)) p in inl (f ∙ sym e, subst P (sym f) s)
meets-at ps i j u p o r (inr (inl e)) (inr (inl f)) s = absurd (omega (arith, o, e, f))
meets-at ps i j u p o r (inr (inl e)) (inr (inr (f, closed))) s = absurd (omega (arith, e, f))
meets-at ps i j u p o r (inr (inr (e, closed))) (inl f) s = absurd (omega (arith, o, e, f))
meets-at ps i j u p o r (inr (inr (e, closed))) (inr (inl f)) s = absurd (omega (arith, e, f))
meets-at ps i j u p o r (inr (inr (e, closed))) (inr (inr (f, again))) s = absurd (omega (arith, o, closed.0, again.0))

-- the vertex at which a point is an end of an edge
record AtFoot (ps : List Coordinates) (vs : List Vertex) (i : ℕ) (p : Point) : Type 0 where
  corner : Coordinates
  foot : Foot ps vs i corner
  at : IsAt corner p

end-foot : (ps : List Coordinates) (vs : List Vertex) → IsTable ps vs → (i : ℕ) (p : Point) → i + 1 < length ps → IsEnd (rising ps i) p → AtFoot ps vs i p
end-foot ps vs t i p r (inl e) = record { corner = earlier_of (point_of ps i) (point_of ps (i + 1)); foot = foot-left ps vs t i r; at = e }
end-foot ps vs t i p r (inr e) = record { corner = later_of (point_of ps i) (point_of ps (i + 1)); foot = foot-right ps vs t i r; at = e }

one-corner : (ps : List Coordinates) (vs : List Vertex) → IsTable ps vs → (i j : ℕ) (p : Point) → IsPoint p → (f : AtFoot ps vs i p) (g : AtFoot ps vs j p) → IsAtVertex ps f.foot.number j
one-corner ps vs t i j p is f g =
    let same : place f.corner ≡ place g.corner = eq_from_mul (place f.corner) (place g.corner) p.d is.positive (sym f.at.0 ∙ g.at.0) in
    let index : f.foot.index ≡ g.foot.index =
    one-place ps vs t f.foot.index g.foot.index f.foot.within g.foot.within (sym (foot-place ps vs i f.corner f.foot) ∙ same ∙ foot-place ps vs j g.corner g.foot) in
    let number : f.foot.number ≡ g.foot.number = ap (λ (v : Vertex). v.number) (sym f.foot.vertex ∙ ap (λ k. get_or vs k first_vertex) index ∙ g.foot.vertex) in
    let P : ℕ → Type 0 = λ n. IsAtVertex ps n j in
    subst P (sym number) g.foot.touches

all-behind : (ps : List Coordinates) (vs : List Vertex) (active : List ℕ) (k : ℕ) → IsTable ps vs → (s : IsSwept ps vs active k) → length vs ≤ k → (i : ℕ) → i + 1 < length ps → (rising ps i).b.x ≤ℤ s.reached
all-behind ps vs active k t s h i r =
    let f = foot-right ps vs t i r in
    le_le _ _ _ (same_le _ _ (foot-place ps vs i _ f)) (s.behind f.index (omega (arith, f.within, h)) f.within)

pub end : (ps : List Coordinates) (vs : List Vertex) (active : List ℕ) (k : ℕ) → IsTable ps vs → IsSwept ps vs active k → length vs ≤ k → AllAreApart ps
end ps vs active k t s h i j o r q is on =
    let first : i + 1 < length ps = omega (arith, o, r) in
    let p = sheared_point q in
    let point : IsPoint p = record { positive = is.positive } in
    let on_first = on-sheared (point_of ps i) (point_of ps (i + 1)) q is (t.lengths i first) on.0 in
    let on_second = on-sheared (point_of ps j) (point_of ps (j + 1)) q is (t.lengths j r) on.1 in
    let reached = (reach-rising (rising ps i) p (edge-rises ps vs t i first) on_first).1 in
    let ends = s.stands.past i j first r (λ e. omega (arith, e, o)) p point (on_first, on_second) (le_le _ _ _ reached (mul_le (rising ps i).b.x s.reached p.d (all-behind ps vs active k t s h i first))) in
    let f = end-foot ps vs t i p first ends.0 in
    let g = end-foot ps vs t j p r ends.1 in
    let same : IsSamePoint (grid_point f.corner) q = same-from_at f.corner q is f.at in
    meets-at ps i j f.foot.number q o r f.foot.touches (one-corner ps vs t i j p point f g) (moved f.corner (point_of ps f.foot.number) f.foot.is same)
  where
    moved : (c d : Coordinates) → c ≡ d → IsSamePoint (grid_point c) q → IsSamePoint (grid_point d) q
    moved c d e k = let P : Coordinates → Type 0 = λ a. IsSamePoint (grid_point a) q in subst P e k

-- ---- the table
abbrev pub numbered_upto : List Coordinates → ℕ → List Vertex
numbered_upto ps zero = []
numbered_upto ps (suc n) = numbered_upto ps n ++ (vertex_at ps n ∷ [])

pub numbered-more : (ps : List Coordinates) (n : ℕ) (found new : List Vertex) (q : Coordinates) → found ≡ numbered_upto ps n → n < length ps → q ≡ get_or ps n q → new ≡ found ++ (record { at = q; number = n } ∷ []) →
    new ≡ numbered_upto ps (n + 1)
numbered-more ps n found new q e h f g =
    let is : point_of ps n ≡ q = read-is ps n q h f in
    let made : Coordinates → Vertex = λ c. record { at = c; number = n } in
    g ∙ ap (λ xs. xs ++ (made q ∷ [])) e ∙ ap (λ c. numbered_upto ps n ++ (made c ∷ [])) (sym is) ∙ ap (numbered_upto ps) (next n)
  where
    next : (n : ℕ) → suc n ≡ n + 1
    next n = omega arith

upto-are : (ps : List Coordinates) (count n : ℕ) → n ≤ count → All (λ v. (v.number < count) × (v.at ≡ point_of ps v.number)) (numbered_upto ps n)
upto-are ps count zero h = λ k d l. absurd (omega (arith, l))
upto-are ps count (suc n) h =
    All-push (λ v. (v.number < count) × (v.at ≡ point_of ps v.number)) (numbered_upto ps n) (vertex_at ps n) (upto-are ps count n (omega (arith, h))) (omega (arith, h), refl)

upto-all : (ps : List Coordinates) (n m : ℕ) → m < n → Contains (numbered_upto ps n) (vertex_at ps m)
upto-all ps zero m h = absurd (omega (arith, h))
upto-all ps (suc n) m h = by (upto-all ps n m) (less-or_not m n)
  where
    by : (m < n → Contains (numbered_upto ps n) (vertex_at ps m)) → (m < n) ⊎ (n ≤ m) → Contains (numbered_upto ps n ++ (vertex_at ps n ∷ [])) (vertex_at ps m)
    by earlier (inl l) = Contains-append_left (numbered_upto ps n) (vertex_at ps n ∷ []) (vertex_at ps m) (earlier l)
    by earlier (inr l) =
        let e : n ≡ m = omega (arith, h, l) in
        let P : ℕ → Type 0 = λ k. Contains (numbered_upto ps n ++ (vertex_at ps n ∷ [])) (vertex_at ps k) in
        subst P e (Contains-push (numbered_upto ps n) (vertex_at ps n))

pub numbering-made : (ps : List Coordinates) (count : ℕ) (vs : List Vertex) → IsCount ps count → vs ≡ numbered_upto ps count → IsNumbering ps vs
numbering-made ps count vs c e =
    let P : List Vertex → Type 0 = λ xs. IsNumbering ps xs in
    subst P (sym e) (record { count = count; is_count = c; are = upto-are ps count count (omega arith); all = λ m h. upto-all ps count m h })

pub numbering-permuted : (ps : List Coordinates) (vs us : List Vertex) → IsNumbering ps vs → IsPermutation vs us → IsNumbering ps us
numbering-permuted ps vs us n p =
    record {
      count = n.count;
      is_count = n.is_count;
      are = All-permutation (λ v. (v.number < n.count) × (v.at ≡ point_of ps v.number)) vs us p n.are;
      all = λ m h. Contains-permutation vs us (vertex_at ps m) p (n.all m h);
    }

-- ---- what a turn of the sweep wants
pub vertex-in : (ps : List Coordinates) (vs : List Vertex) (k : ℕ) (v : Vertex) → IsTable ps vs → k < length vs → v ≡ get_or vs k v → v.number < length ps
vertex-in ps vs k v t h e =
    let is = t.numbering.are k v h in
    count-most ps t.numbering.count v.number t.numbering.is_count (let P : Vertex → Type 0 = λ u. u.number < t.numbering.count in subst P (sym e) is.0)

pub vertex-read : (ps : List Coordinates) (vs : List Vertex) (k : ℕ) (v : Vertex) → IsTable ps vs → k < length vs → v ≡ get_or vs k v → get_or vs k first_vertex ≡ vertex_at ps v.number
vertex-read ps vs k v t h e =
    let is : v.at ≡ point_of ps v.number = let P : Vertex → Type 0 = λ u. u.at ≡ point_of ps u.number in subst P (sym e) (t.numbering.are k v h).1 in
    let made : Coordinates → Vertex = λ c. record { at = c; number = v.number } in
    get_or_default vs k first_vertex v h ∙ sym e ∙ ap made is

among-read : (xs : List ℕ) (k d : ℕ) → k < length xs → Among (get_or xs k d) xs
among-read [] k d h = absurd (omega (arith, h))
among-read (x ∷ xs) zero d h = inl refl
among-read (x ∷ xs) (suc k) d h = inr (among-read xs k d (omega (arith, h)))

pub edges-in : (ps : List Coordinates) (vs : List Vertex) (active : List ℕ) (k : ℕ) → IsSwept ps vs active k → All (λ e. e + 1 < length ps) active
edges-in ps vs active k s j d h = (s.stands.going (get_or active j d) (among-read active j d h)).0

-- ---- loops
pub ascend-more : (vs : List Vertex) (n : ℕ) (u v : Vertex) → 1 ≤ n → n < length vs →
    ((k : ℕ) (d : Vertex) → k + 1 < n → comes_before (get_or vs k d).at (get_or vs (k + 1) d).at ≡ true) →
    comes_before (get_or vs (n - 1) u).at (get_or vs n v).at ≡ true → (k : ℕ) (d : Vertex) → k + 1 < n + 1 → comes_before (get_or vs k d).at (get_or vs (k + 1) d).at ≡ true
ascend-more vs n u v p h before here k d l = by (less-or_not (k + 1) n)
  where
    by : (k + 1 < n) ⊎ (n ≤ k + 1) → comes_before (get_or vs k d).at (get_or vs (k + 1) d).at ≡ true
    by (inl m) = before k d m
    by (inr m) =
        let e : n ≡ k + 1 = omega (arith, l, m) in
        let f : n - 1 ≡ k = omega (arith, e) in
        let first : get_or vs k d ≡ get_or vs (n - 1) u = get_or_default vs k d u (omega (arith, l, h)) ∙ ap (λ j. get_or vs j u) (sym f) in
        let second : get_or vs (k + 1) d ≡ get_or vs n v = get_or_default vs (k + 1) d v (omega (arith, e, h)) ∙ ap (λ j. get_or vs j v) (sym e) in
        ap (λ (w : Vertex). comes_before w.at (get_or vs (k + 1) d).at) first ∙ ap (λ (w : Vertex). comes_before (get_or vs (n - 1) u).at w.at) second ∙ here

pub grid-more : (ps : List Coordinates) (n : ℕ) (q : Coordinates) → n < length ps → ((i : ℕ) → i < n → IsOnGrid (point_of ps i)) → q ≡ get_or ps n q → IsOnGrid q → (i : ℕ) → i < n + 1 → IsOnGrid (point_of ps i)
grid-more ps n q h before e g =
    below_more (λ i. IsOnGrid (point_of ps i)) n before (let P : Coordinates → Type 0 = λ c. IsOnGrid c in subst P (sym (read-is ps n q h e)) g)

pub numbered-all : (ps : List Coordinates) (vs : List Vertex) (count n : ℕ) → vs ≡ numbered_upto ps n → n ≡ count → vs ≡ numbered_upto ps count
numbered-all ps vs count n e f = e ∙ ap (numbered_upto ps) f

-- ---- the table as it is handed on
pub table-read : (ps : List Coordinates) (vs us ws : List Vertex) → HasLengths ps → LieOnGrid ps → (all : List Vertex) × IsNumbering ps all × IsPermutation all vs → us ≡ vs → ws ≡ vs → Ascend us → IsTable ps ws
table-read ps vs us ws lengths grid n e f a =
    let P : List Vertex → Type 0 = λ xs. IsTable ps xs in
    let Q : List Vertex → Type 0 = λ xs. Ascend xs in
    subst P (sym f) (record { lengths = lengths; grid = grid; numbering = numbering-permuted ps n.0 vs n.1 n.2; ascend = subst Q e a })

pub found-moved : (ps : List Coordinates) (xs ys : List ℕ) (n from : ℕ) (spot : Spot) → xs ≡ ys → IsFound ps xs n from spot → IsFound ps ys n from spot
found-moved ps xs ys n from spot e f = let P : List ℕ → Type 0 = λ zs. IsFound ps zs n from spot in subst P e f
