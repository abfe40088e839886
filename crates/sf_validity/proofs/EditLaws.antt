-- Polygons with one vertex of one ring changed: what was put where in their rings, and the edges of the changed ring.
use Rattle.std.proofs.Common.{◌≡◌, refl, ap, sym, ◌∙◌, subst, ℕ, zero, suc, ◌+◌, ◌-◌, ◌<◌, ◌≤◌, arith, Bool, true, false, not, List, [], ◌∷◌, ◌++◌, length, slice_set, nat_eq, nat_lt, IsTrue}
use Rattle.std.specs.Prelude.{Option, Some, None, Ok, insert, remove, nat_le, option_and_then, option_map, slice_get, if◌then◌else◌}
use Rattle.std.specs.List.{AllByRecursion}
use Rattle.std.proofs.lemmas.Bool.{false≢true}
use Rattle.std.proofs.lemmas.List.{length-append}
use Rattle.sf_grid.specs.Plane.{Coordinates}
use Rattle.sf_geometry.specs.declared.geometry.Geometry.{Geometry}
use Rattle.sf_geometry.specs.declared.geometry.Geometry.TheVariants.{Point, LineString, Polygon, MultiPoint, MultiLineString, MultiPolygon}
use Rattle.sf_geometry.specs.Lists.{is_closed, is_same, last_from, tight}
use Rattle.sf_geometry.specs.Parts.{LiesOnGrid, polygons_of}
use Rattle.sf_geometry.specs.Vertices.{Change, change_at, change_ring, changed, exchange, insertion, one_point, removal, ring_of, ring_vertices, insert_vertex, move_vertex, remove_vertex, vertex_of, vertices_of}
use Rattle.sf_geometry.proofs.BackLaws.{HasRings, IsRing, outcome-some}
use Rattle.sf_geometry.proofs.ListLaws.{tight_length-other, tight_length-same}
use Rattle.sf_slabs.proofs.CallerLemmas.{each-parts}
use Rattle.sf_valid_rules.specs.Conditions.{Applies, AtPoint}
use Rattle.sf_valid_rules.specs.Shapes.{meets_itself}
use Rattle.sf_valid_rules.specs.Validity.{IsValid}
use Rattle.sf_valid_rules.proofs.MemberLaws.{each-of_flat}
use Rattle.sf_strands.specs.Changed.{edge_meets}
use Rattle.sf_strands.specs.Pairs.{edge_at, point_of}
use Rattle.sf_strands.specs.Tight.{IsTight, IsTightFrom}
use Rattle.sf_strands.proofs.ChangedLaws.{IsReplaced, kept-simple}
use Rattle.sf_strands.proofs.TightLaws.{tight-tight}
use Rattle.sf_validity.specs.Beside.{ring_in, stood}
use Rattle.sf_validity.specs.Changed.{IsChange, IsEdited, IsRespliced, IsSpliced, IsTightAt, NoneMeets}
use Rattle.sf_validity.specs.Held.{IsHeld}
use Rattle.sf_validity.specs.declared.changed.Stretch.{Stretch}
use Rattle.sf_validity.proofs.ValidLaws.{tight-short, valid-rings}

-- ---- tight lists, by their length
tight-from : (p : Coordinates) (ps : List Coordinates) → length (tight (p ∷ ps)) ≡ suc (length ps) → IsTightFrom p ps
tight-from p [] h = tt
tight-from p (q ∷ qs) h = by (is_same p q) refl (tight-from q qs)
  where
    by : (t : Bool) → is_same p q ≡ t → (length (tight (q ∷ qs)) ≡ suc (length qs) → IsTightFrom q qs) → IsTightFrom p (q ∷ qs)
    by true same on = absurd (omega (arith, h, tight_length-same p q qs same, tight-short (q ∷ qs)))
    by false other on = (other, on (omega (arith, h, tight_length-other p q qs other)))

pub tight-counted : (ps : List Coordinates) → length (tight ps) ≡ length ps → IsTight ps
tight-counted [] h = tt
tight-counted (p ∷ ps) h = tight-from p ps h

pub tight-told : (n : ℕ) (ps : List Coordinates) → n ≡ length (tight ps) → IsTrue (nat_eq n (length ps)) → IsTight ps
tight-told n ps e h = tight-counted ps (grind (arith, e, h))

-- ---- points and edges of lists, one after another
point-front : (xs ys : List Coordinates) (i : ℕ) → i < length xs → point_of (xs ++ ys) i ≡ point_of xs i
point-front [] ys i h = absurd (omega (arith, h))
point-front (x ∷ xs) ys zero h = refl
point-front (x ∷ xs) ys (suc i) h = point-front xs ys i (omega (arith, h))

point-back : (xs ys : List Coordinates) (i n : ℕ) → n ≡ length xs + i → point_of (xs ++ ys) n ≡ point_of ys i
point-back [] ys i n e = ap (point_of ys) (omega (arith, e))
point-back (x ∷ xs) ys i zero e = absurd (omega (arith, e))
point-back (x ∷ xs) ys i (suc n) e = point-back xs ys i n (omega (arith, e))

edge-same : (ps qs : List Coordinates) (i j : ℕ) → point_of ps i ≡ point_of qs j → point_of ps (i + 1) ≡ point_of qs (j + 1) → edge_at ps i ≡ edge_at qs j
edge-same ps qs i j e f = cc

edge-front : (xs ys zs : List Coordinates) (i : ℕ) → i + 1 < length xs → edge_at (xs ++ ys) i ≡ edge_at (xs ++ zs) i
edge-front xs ys zs i h =
    edge-same (xs ++ ys) (xs ++ zs) i i
    (point-front xs ys i (omega (arith, h)) ∙ sym (point-front xs zs i (omega (arith, h))))
    (point-front xs ys (i + 1) h ∙ sym (point-front xs zs (i + 1) h))

point-behind : (xs ys zs : List Coordinates) (i n : ℕ) → n ≡ length xs + length ys + i → point_of (xs ++ (ys ++ zs)) n ≡ point_of zs i
point-behind xs ys zs i n e = point-back xs (ys ++ zs) (length ys + i) n (omega (arith, e)) ∙ point-back ys zs i (length ys + i) refl

edge-behind : (xs ys zs us : List Coordinates) (i m n : ℕ) → m ≡ length xs + length ys + i → n ≡ length xs + length zs + i
    → edge_at (xs ++ (ys ++ us)) m ≡ edge_at (xs ++ (zs ++ us)) n
edge-behind xs ys zs us i m n e f =
    edge-same (xs ++ (ys ++ us)) (xs ++ (zs ++ us)) m n
    (point-behind xs ys us i m e ∙ sym (point-behind xs zs us i n f))
    (point-behind xs ys us (i + 1) (m + 1) (omega (arith, e)) ∙ sym (point-behind xs zs us (i + 1) (n + 1) (omega (arith, f))))

last-behind : (p : Coordinates) (xs ys : List Coordinates) (z : Coordinates) (zs : List Coordinates) → last_from p (xs ++ (ys ++ z ∷ zs)) ≡ last_from z zs
last-behind p [] [] z zs = refl
last-behind p [] (y ∷ ys) z zs = last-behind y [] ys z zs
last-behind p (x ∷ xs) ys z zs = last-behind x xs ys z zs

closed-behind : (xs ys zs us : List Coordinates) → 0 < length xs → 0 < length us → is_closed (xs ++ (ys ++ us)) ≡ is_closed (xs ++ (zs ++ us))
closed-behind [] ys zs us h k = absurd (omega (arith, h))
closed-behind (x ∷ xs) ys zs [] h k = absurd (omega (arith, k))
closed-behind (x ∷ xs) ys zs (u ∷ us) h k = ap (is_same x) (last-behind x xs ys u us ∙ sym (last-behind x xs zs u us))

length-three : (xs ys zs : List Coordinates) → length (xs ++ (ys ++ zs)) ≡ length xs + length ys + length zs
length-three xs ys zs = omega (arith, length-append xs (ys ++ zs), length-append ys zs)

-- ---- the edges of a ring with other points at a place
replaced : (front olds news back : List Coordinates) → 0 < length front → 0 < length back
    → IsReplaced (front ++ (olds ++ back)) (front ++ (news ++ back)) (length front - 1) (length olds + 1) (length news + 1) (length back - 1)
replaced front olds news back h k =
    record {
      old_count = omega (arith, h, k, length-three front olds back);
      new_count = omega (arith, h, k, length-three front news back);
      some_old = omega arith;
      some_new = omega arith;
      closed = closed-behind front news olds back h k;
      before = λ i l. edge-front front (news ++ back) (olds ++ back) i (omega (arith, l));
      after = λ i l. edge-behind front news olds back i (length front - 1 + (length news + 1) + i) (length front - 1 + (length olds + 1) + i) (omega (arith, h)) (omega (arith, h));
    }

pub spliced-simple : (old new : List Coordinates) (index count : ℕ) (olds : List Coordinates) (s : IsSpliced old new index count olds) → 0 < index → 0 < length s.back → IsTight old → IsTight new
    → NoneMeets new (index - 1) (index + count) → ¬ (Applies (AtPoint (meets_itself old))) → ¬ (Applies (AtPoint (meets_itself new)))
spliced-simple old new index count olds s later ended t u none simple =
    let r : IsReplaced old new (length s.front - 1) (length olds + 1) (length s.news + 1) (length s.back - 1) =
    subst (λ ps. IsReplaced ps new (length s.front - 1) (length olds + 1) (length s.news + 1) (length s.back - 1)) (sym s.was)
    (subst (λ ps. IsReplaced (s.front ++ (olds ++ s.back)) ps (length s.front - 1) (length olds + 1) (length s.news + 1) (length s.back - 1)) (sym s.is)
    (replaced s.front olds s.news s.back (omega (arith, later, s.placed)) ended)) in
    kept-simple old new (length s.front - 1) (length olds + 1) (length s.news + 1) (length s.back - 1) t u r simple
    (λ n l m. none n (omega (arith, l, s.placed)) (omega (arith, m, s.placed, s.counted, later)))

-- ---- one more edge
pub none-further : (ring : List Coordinates) (first n : ℕ) → NoneMeets ring first n → ¬ (Applies (AtPoint (edge_meets ring n))) → NoneMeets ring first (n + 1)
none-further ring first n none last k l m a = by (nat_lt k n) refl
  where
    by : (t : Bool) → nat_lt k n ≡ t → ⊥
    by true test = none k l (grind (arith, test)) a
    by false test = let same : k ≡ n = grind (arith, test, m) in last (subst (λ i. Applies (AtPoint (edge_meets ring i))) same a)

-- ---- the rules of a ring
pub is-open : (ring : List Coordinates) → IsTrue (is_closed ring) → ¬ (IsTrue (not (is_closed ring)))
is-open ring closed = by (is_closed ring) closed
  where
    by : (t : Bool) → IsTrue t → ¬ (IsTrue (not t))
    by true h k = false≢true k
    by false h k = false≢true h

is-short : (n : ℕ) → 4 ≤ n → ¬ (IsTrue (nat_lt n 4))
is-short n h e = grind (arith, h, e)

pub tight-many : (ring : List Coordinates) → IsTight ring → 4 ≤ length ring → ¬ (IsTrue (nat_lt (length (tight ring)) 4))
tight-many ring t many = is-short (length (tight ring)) (subst (λ n. 4 ≤ n) (sym (ap length (tight-tight ring t))) many)

-- ---- one vertex changed
some_same : {X : Type 0} {a b : X} → Some a ≡ Some b → a ≡ b
some_same e = cc

later-spliced : (v : Coordinates) (vs ws : List Coordinates) (index count : ℕ) (olds : List Coordinates) → IsSpliced vs ws index count olds → IsSpliced (v ∷ vs) (v ∷ ws) (suc index) count olds
later-spliced v vs ws index count olds s =
    record {
      front = v ∷ s.front;
      news = s.news;
      back = s.back;
      was = ap (λ us. v ∷ us) s.was;
      is = ap (λ us. v ∷ us) s.is;
      placed = ap suc s.placed;
      counted = s.counted;
    }

insert-spliced : (vs : List Coordinates) (index : ℕ) (p : Coordinates) → index ≤ length vs → IsSpliced vs (insert vs index p) index 1 []
insert-spliced [] zero p h = record { front = []; news = p ∷ []; back = []; was = refl; is = refl; placed = refl; counted = refl }
insert-spliced [] (suc index) p h = absurd (omega (arith, h))
insert-spliced (v ∷ vs) zero p h = record { front = []; news = p ∷ []; back = v ∷ vs; was = refl; is = refl; placed = refl; counted = refl }
insert-spliced (v ∷ vs) (suc index) p h = later-spliced v vs (insert vs index p) index 1 [] (insert-spliced vs index p (omega (arith, h)))

set-spliced : (vs : List Coordinates) (index : ℕ) (p old : Coordinates) → slice_get vs index ≡ Some old → IsSpliced vs (slice_set vs index p) index 1 (old ∷ [])
set-spliced [] index p old at = absurd cc
set-spliced (v ∷ vs) zero p old at = record { front = []; news = p ∷ []; back = vs; was = ap (λ u. u ∷ vs) (some_same at); is = refl; placed = refl; counted = refl }
set-spliced (v ∷ vs) (suc index) p old at = later-spliced v vs (slice_set vs index p) index 1 (old ∷ []) (set-spliced vs index p old at)

remove-spliced : (vs : List Coordinates) (index : ℕ) (old : Coordinates) → slice_get vs index ≡ Some old → IsSpliced vs (remove vs index) index 0 (old ∷ [])
remove-spliced [] index old at = absurd cc
remove-spliced (v ∷ vs) zero old at = record { front = []; news = []; back = vs; was = ap (λ u. u ∷ vs) (some_same at); is = refl; placed = refl; counted = refl }
remove-spliced (v ∷ vs) (suc index) old at = later-spliced v vs (remove vs index) index 0 (old ∷ []) (remove-spliced vs index old at)

-- where the change can be made of these vertices, it puts so many points at the index, in place of others
abbrev Splices : Change → ℕ → ℕ → List Coordinates → List Coordinates → Type 0
Splices c index count olds vs = (ws : List Coordinates) → c vs ≡ Some ws → IsSpliced vs ws index count olds

insertion-splices : (index : ℕ) (p : Coordinates) (vs : List Coordinates) → Splices (insertion index p) index 1 [] vs
insertion-splices index p vs ws e = by (nat_le index (length vs)) refl e
  where
    by : (t : Bool) → nat_le index (length vs) ≡ t → (if t then Some (insert vs index p) else None) ≡ Some ws → IsSpliced vs ws index 1 []
    by false test e = absurd cc
    by true test e = subst (λ us. IsSpliced vs us index 1 []) (some_same e) (insert-spliced vs index p (grind (arith, test)))

exchange-splices : (index : ℕ) (p old : Coordinates) (vs : List Coordinates) → slice_get vs index ≡ Some old → Splices (exchange index p) index 1 (old ∷ []) vs
exchange-splices index p old vs at ws e = by (nat_lt index (length vs)) e
  where
    by : (t : Bool) → (if t then Some (slice_set vs index p) else None) ≡ Some ws → IsSpliced vs ws index 1 (old ∷ [])
    by false e = absurd cc
    by true e = subst (λ us. IsSpliced vs us index 1 (old ∷ [])) (some_same e) (set-spliced vs index p old at)

removal-splices : (index : ℕ) (old : Coordinates) (vs : List Coordinates) → slice_get vs index ≡ Some old → Splices (removal index) index 0 (old ∷ []) vs
removal-splices index old vs at ws e = by (nat_lt index (length vs)) e
  where
    by : (t : Bool) → (if t then Some (remove vs index) else None) ≡ Some ws → IsSpliced vs ws index 0 (old ∷ [])
    by false e = absurd cc
    by true e = subst (λ us. IsSpliced vs us index 0 (old ∷ [])) (some_same e) (remove-spliced vs index old at)

-- ---- the same of a ring
behind : (xs ys zs us : List Coordinates) → (xs ++ (ys ++ zs)) ++ us ≡ xs ++ (ys ++ (zs ++ us))
behind [] [] zs us = refl
behind [] (y ∷ ys) zs us = ap (λ vs. y ∷ vs) (behind [] ys zs us)
behind (x ∷ xs) ys zs us = ap (λ vs. x ∷ vs) (behind xs ys zs us)

pushed-some : (xs : List Coordinates) (y : Coordinates) → 0 < length (xs ++ y ∷ [])
pushed-some [] y = omega arith
pushed-some (x ∷ xs) y = omega arith

-- a ring with points exchanged, and a point behind them
record HasSplice (old new : List Coordinates) (index count : ℕ) (olds : List Coordinates) : Type 0 where
  spliced : IsSpliced old new index count olds
  ended : 0 < length spliced.back

ring-spliced : (front olds news back vs ws : List Coordinates) (index count : ℕ) → vs ≡ front ++ (olds ++ back) → ws ≡ front ++ (news ++ back) → length front ≡ index → length news ≡ count
    → 0 < index → HasSplice (ring_of vs) (ring_of ws) index count olds
ring-spliced [] olds news back vs ws index count was is placed counted later = absurd (omega (arith, placed, later))
ring-spliced (f ∷ fs) olds news back vs ws index count was is placed counted later =
    record {
      spliced =
          record {
            front = f ∷ fs;
            news = news;
            back = back ++ f ∷ [];
            was = ap ring_of was ∙ ap (λ us. f ∷ us) (behind fs olds back (f ∷ []));
            is = ap ring_of is ∙ ap (λ us. f ∷ us) (behind fs news back (f ∷ []));
            placed = placed;
            counted = counted;
          };
      ended = pushed-some back f;
    }

changed-ring : (c : Change) (r s : List Coordinates) (index count : ℕ) (olds : List Coordinates) → Splices c index count olds (ring_vertices r) → IsRing r → 0 < index → change_ring c r ≡ Some s → HasSplice r s index count olds
changed-ring c r s index count olds splices is later e = by (c (ring_vertices r)) refl e
  where
    by : (found : Option (List Coordinates)) → c (ring_vertices r) ≡ found → option_map ring_of found ≡ Some s → HasSplice r s index count olds
    by None did e = absurd cc
    by (Some ws) did e =
        let x = splices ws did in
        subst (λ ps. HasSplice r ps index count olds) (some_same e)
        (subst (λ ps. HasSplice ps (ring_of ws) index count olds) is
        (ring-spliced x.front olds x.news x.back (ring_vertices r) ws index count x.was x.is x.placed x.counted later))

-- ---- a member of a list changed
record IsMember {X : Type 0} (f : X → Option X) (n : ℕ) (xs ys : List X) : Type 0 where
  front : List X
  back : List X
  old : X
  new : X
  was : xs ≡ front ++ old ∷ back
  is : ys ≡ front ++ new ∷ back
  placed : length front ≡ n
  got : slice_get xs n ≡ Some old
  did : f old ≡ Some new

later-member : {X : Type 0} (f : X → Option X) (n : ℕ) (x : X) (xs ys : List X) → IsMember f n xs ys → IsMember f (suc n) (x ∷ xs) (x ∷ ys)
later-member f n x xs ys m = record {
  front = x ∷ m.front;
  back = m.back;
  old = m.old;
  new = m.new;
  was = ap (λ zs. x ∷ zs) m.was;
  is = ap (λ zs. x ∷ zs) m.is;
  placed = ap suc m.placed;
  got = m.got;
  did = m.did;
}

member : {X : Type 0} (f : X → Option X) (n : ℕ) (xs ys : List X) → change_at n f xs ≡ Some ys → IsMember f n xs ys
member f n [] ys e = absurd cc
member {X} f zero (x ∷ xs) ys e = by (f x) refl e
  where
    by : (found : Option X) → f x ≡ found → option_map (slice_set (x ∷ xs) zero) found ≡ Some ys → IsMember f zero (x ∷ xs) ys
    by None did e = absurd cc
    by (Some y) did e = record { front = []; back = xs; old = x; new = y; was = refl; is = sym (some_same e); placed = refl; got = refl; did = did }
member {X} f (suc n) (x ∷ xs) ys e = by (option_and_then f (slice_get xs n)) refl e (member f n xs)
  where
    by : (found : Option X) → option_and_then f (slice_get xs n) ≡ found → option_map (slice_set (x ∷ xs) (suc n)) found ≡ Some ys
        → ((zs : List X) → change_at n f xs ≡ Some zs → IsMember f n xs zs) → IsMember f (suc n) (x ∷ xs) ys
    by None did e shorter = absurd cc
    by (Some y) did e shorter =
        subst (λ zs. IsMember f (suc n) (x ∷ xs) zs) (some_same e)
        (later-member f n x xs (slice_set xs n y) (shorter (slice_set xs n y) (ap (option_map (slice_set xs n)) did)))

-- ---- of polygons
member-ring : (rings front back : List (List Coordinates)) (old : List Coordinates) → rings ≡ front ++ old ∷ back → AllByRecursion IsRing rings → IsRing old
member-ring rings front back old was are = (each-parts IsRing front (old ∷ back) (subst (AllByRecursion IsRing) was are)).1.0

respliced : (c : Change) (before after front back : List (List (List Coordinates))) (rings others : List (List Coordinates)) (part ring index count : ℕ) (olds : List Coordinates)
    → ((vs : List Coordinates) → option_map ring_vertices (slice_get rings ring) ≡ Some vs → Splices c index count olds vs) → AllByRecursion IsRing rings → 0 < index
    → before ≡ front ++ rings ∷ back → after ≡ front ++ others ∷ back → length front ≡ part → change_at ring (change_ring c) rings ≡ Some others → IsRespliced before after part ring index count olds
respliced c before after front back rings others part ring index count olds splices are later was is placed did =
    let m = member (change_ring c) ring rings others did in
    let x = changed-ring c m.old m.new index count olds (splices (ring_vertices m.old) (ap (option_map ring_vertices) m.got)) (member-ring rings m.front m.back m.old m.was are) later m.did in
    record {
      front = front;
      back = back;
      ring_front = m.front;
      ring_back = m.back;
      old = m.old;
      new = m.new;
      was = was ∙ ap (λ rs. front ++ rs ∷ back) m.was;
      is = is ∙ ap (λ rs. front ++ rs ∷ back) m.is;
      placed = placed;
      ring_placed = m.placed;
      spliced = x.spliced;
      ended = x.ended;
    }

-- ---- of a geometry
-- wherever the part and ring have vertices, the change puts so many points at the index, in place of others
abbrev SplicesAt : Change → Geometry → ℕ → ℕ → ℕ → ℕ → List Coordinates → Type 0
SplicesAt c g part ring index count olds = (vs : List Coordinates) → vertices_of g part ring ≡ Some vs → Splices c index count olds vs

kind-of : {X : Type 0} (kind : X → Geometry) (found : Option X) (h : Geometry) → option_map kind found ≡ Some h → (y : X) × ((found ≡ Some y) × (kind y ≡ h))
kind-of kind None h e = absurd cc
kind-of kind (Some y) h e = (y, (refl, some_same e))

-- a geometry of another kind has no polygons
no-ring : (h : Geometry) (part ring : ℕ) (points : List Coordinates) → polygons_of h ≡ [] → ring_in (polygons_of h) part ring ≡ Some points → ⊥
no-ring h part ring points none at = none-there (sym (ap (λ ps. ring_in ps part ring) none) ∙ at)
  where
    none-there : ◌≡◌ {A = Option (List Coordinates)} None (Some points) → ⊥
    none-there e = cc

-- what is said of the rings of a changed geometry
abbrev HasChanged : Geometry → Geometry → ℕ → ℕ → ℕ → ℕ → List Coordinates → Type 0
HasChanged g h part ring index count olds =
    (points : List Coordinates) → ring_in (polygons_of h) part ring ≡ Some points → 0 < index → IsRespliced (polygons_of g) (polygons_of h) part ring index count olds

other-kind : {X : Type 0} (kind : X → Geometry) (found : Option X) (g h : Geometry) (part ring index count : ℕ) (olds : List Coordinates) → ((y : X) → polygons_of (kind y) ≡ []) → option_map kind found ≡ Some h
    → HasChanged g h part ring index count olds
other-kind kind found g h part ring index count olds none e points at later =
    let k = kind-of kind found h e in
    absurd (no-ring h part ring points (ap polygons_of (sym k.1.1) ∙ none k.0) at)

has-changed : (c : Change) (g h : Geometry) (part ring index count : ℕ) (olds : List Coordinates) → SplicesAt c g part ring index count olds → HasRings g → changed c part ring g ≡ Some h
    → HasChanged g h part ring index count olds
has-changed c (Point p) h zero zero index count olds splices are e = by (c (p ∷ [])) e
  where
    by : (found : Option (List Coordinates)) → option_and_then one_point found ≡ Some h → HasChanged (Point p) h zero zero index count olds
    by None e = absurd cc
    by (Some []) e = absurd cc
    by (Some (q ∷ [])) e = λ points at later. absurd (no-ring h zero zero points (ap polygons_of (sym (some_same e))) at)
    by (Some (q ∷ r ∷ qs)) e = absurd cc
has-changed c (Point p) h zero (suc ring) index count olds splices are e = absurd cc
has-changed c (Point p) h (suc part) ring index count olds splices are e = absurd cc
has-changed c (LineString ps) h zero zero index count olds splices are e = other-kind LineString (c ps) (LineString ps) h zero zero index count olds (λ y. refl) e
has-changed c (LineString ps) h zero (suc ring) index count olds splices are e = absurd cc
has-changed c (LineString ps) h (suc part) ring index count olds splices are e = absurd cc
has-changed c (Polygon rings) h zero ring index count olds splices are e =
    let k = kind-of Polygon (change_at ring (change_ring c) rings) h e in
    λ points at later.
    respliced c (rings ∷ []) (polygons_of h) [] [] rings k.0 zero ring index count olds splices (each-parts IsRing rings [] are).0 later refl (ap polygons_of (sym k.1.1)) refl k.1.0
has-changed c (Polygon rings) h (suc part) ring index count olds splices are e = absurd cc
has-changed c (MultiPoint ps) h zero zero index count olds splices are e = other-kind MultiPoint (c ps) (MultiPoint ps) h zero zero index count olds (λ y. refl) e
has-changed c (MultiPoint ps) h zero (suc ring) index count olds splices are e = absurd cc
has-changed c (MultiPoint ps) h (suc part) ring index count olds splices are e = absurd cc
has-changed c (MultiLineString lines) h part zero index count olds splices are e =
    other-kind MultiLineString (change_at part c lines) (MultiLineString lines) h part zero index count olds (λ y. refl) e
has-changed c (MultiLineString lines) h part (suc ring) index count olds splices are e = absurd cc
has-changed c (MultiPolygon polygons) h part ring index count olds splices are e =
    let k = kind-of MultiPolygon (change_at part (change_at ring (change_ring c)) polygons) h e in
    let m = member (change_at ring (change_ring c)) part polygons k.0 k.1.0 in
    let each = each-of_flat IsRing (λ (rings : List (List Coordinates)). rings) polygons are in
    λ points at later.
    respliced c polygons (polygons_of h) m.front m.back m.old m.new part ring index count olds
    (λ vs there. splices vs (ap (option_and_then (λ rs. option_map ring_vertices (slice_get rs ring))) m.got ∙ there))
    (each-parts (AllByRecursion IsRing) m.front (m.old ∷ m.back) (subst (AllByRecursion (AllByRecursion IsRing)) m.was each)).1.0 later
    m.was (ap polygons_of (sym k.1.1) ∙ m.is) m.placed m.did

edited : (c : Change) (g h : Geometry) (s : Stretch) → SplicesAt c g s.part s.ring s.index s.count (stood s.gone) → IsValid g → changed c s.part s.ring g ≡ Some h → IsEdited g h s
edited c g h s splices valid e = (valid, has-changed c g h s.part s.ring s.index s.count (stood s.gone) splices (valid-rings g valid) e)

-- the vertex that stood there is that of the list
stands : (g : Geometry) (part ring index : ℕ) (old : Coordinates) (vs : List Coordinates) → vertex_of g part ring index ≡ Some old → vertices_of g part ring ≡ Some vs → slice_get vs index ≡ Some old
stands g part ring index old vs there at = ap (option_and_then (λ us. slice_get us index)) (sym at) ∙ there

abbrev pub inserted : ℕ → ℕ → ℕ → Stretch
inserted part ring index = record { part = part; ring = ring; index = index; count = 1; gone = None }

abbrev pub moved : ℕ → ℕ → ℕ → Coordinates → Stretch
moved part ring index old = record { part = part; ring = ring; index = index; count = 1; gone = Some old }

abbrev pub removed : ℕ → ℕ → ℕ → Coordinates → Stretch
removed part ring index old = record { part = part; ring = ring; index = index; count = 0; gone = Some old }

-- what is known of a change of a valid geometry
pub insert-change : (g h : Geometry) (part ring index : ℕ) (p : Coordinates) (was : Bool) → IsValid g → insert_vertex g part ring index p ≡ Ok h → (IsTrue was → IsTightAt g part ring)
    → IsChange g h was (inserted part ring index)
insert-change g h part ring index p was valid e tight =
    record {
      edited =
          edited (insertion index p) g h (inserted part ring index) (λ vs at. insertion-splices index p vs) valid
          (outcome-some (changed (insertion index p) part ring g) h e).0;
      tight = tight;
    }

pub move-change : (g h : Geometry) (part ring index : ℕ) (p old : Coordinates) (was : Bool) → IsValid g → vertex_of g part ring index ≡ Some old → move_vertex g part ring index p ≡ Ok h
    → (IsTrue was → IsTightAt g part ring) → IsChange g h was (moved part ring index old)
move-change g h part ring index p old was valid there e tight =
    record {
      edited =
          edited (exchange index p) g h (moved part ring index old) (λ vs at. exchange-splices index p old vs (stands g part ring index old vs there at)) valid
          (outcome-some (changed (exchange index p) part ring g) h e).0;
      tight = tight;
    }

pub remove-change : (g h : Geometry) (part ring index : ℕ) (old : Coordinates) (was : Bool) → IsValid g → vertex_of g part ring index ≡ Some old → remove_vertex g part ring index ≡ Ok h
    → (IsTrue was → IsTightAt g part ring) → IsChange g h was (removed part ring index old)
remove-change g h part ring index old was valid there e tight =
    record {
      edited =
          edited (removal index) g h (removed part ring index old) (λ vs at. removal-splices index old vs (stands g part ring index old vs there at)) valid
          (outcome-some (changed (removal index) part ring g) h e).0;
      tight = tight;
    }

-- what was found valid, and lies on the grid
pub changed-held : (g h : Geometry) (was : Bool) (s : Stretch) → IsChange g h was s → ((before : Geometry) → IsChange before h was s → IsValid h) → LiesOnGrid h → IsHeld h
changed-held g h was s change valid lies = record { valid = valid g change; on_grid = lies }
