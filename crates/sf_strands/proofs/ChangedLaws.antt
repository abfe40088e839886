-- A line or ring of which a stretch of edges was replaced: where the old one doesn't meet itself, the new one does only at a new edge.
use Rattle.std.proofs.Common.{◌≡◌, ◌↔◌, ℕ, ◌+◌, ◌-◌, ◌≤◌, ◌<◌, refl, ap, sym, ◌∙◌, arith, Bool, true, false, ◌&&◌, ◌||◌, not, List, length, nat_eq, nat_lt, IsTrue}
use Rattle.std.proofs.Common.{◌⊎◌, inl, inr}
use Rattle.std.proofs.lemmas.Bool.{and_from, and_parts, cases_lt, false≢true, or_cases, or_left, or_right}
use Rattle.sf_grid.specs.Plane.{Coordinates, IsPoint, Point, grid_point, same_point}
use Rattle.sf_grid.specs.Edge.{Edge}
use Rattle.sf_geometry.specs.Lists.{edges_of, is_closed}
use Rattle.sf_valid_rules.specs.Conditions.{Applies, AtPoint}
use Rattle.sf_valid_rules.specs.Shapes.{meets_itself, on_both}
use Rattle.sf_strands.specs.Changed.{MeetsEarlier, MeetsLater, edge_meets, either_meets}
use Rattle.sf_strands.specs.Pairs.{edge_at, pair_meets}
use Rattle.sf_strands.specs.Tight.{IsTight}
use Rattle.sf_strands.proofs.NumberedLaws.{meet_apart}
use Rattle.sf_strands.proofs.PairLaws.{HasOne, HasTwo, any-at, any_edge, one-from, pair-found, pair-is, two-from}
use Rattle.sf_strands.proofs.PlaceLaws.{edges-counted, edges-more}

-- ---- what a loop has found
pub is-found : {A : Type 0} → A → IsTrue true ↔ A
is-found a = (λ t. a, λ b. refl)

pub none-found : {A : Type 0} → ¬ A → IsTrue false ↔ A
none-found n = (λ t. absurd (false≢true t), λ a. absurd (n a))

-- ---- numbers
lt-true : (m n : ℕ) → m < n → nat_lt m n ≡ true
lt-true m n h = grind (arith, h)

true-lt : (m n : ℕ) → nat_lt m n ≡ true → m < n
true-lt m n h = grind (arith, h)

eq-false : (m n : ℕ) → (m ≡ n → ⊥) → nat_eq m n ≡ false
eq-false m n h = grind (arith, h)

eq-moved : (m n k l : ℕ) → (m ≡ n → k ≡ l) → (k ≡ l → m ≡ n) → nat_eq m n ≡ nat_eq k l
eq-moved m n k l there back = grind (arith, there, back)

zero-more : (n : ℕ) → 0 + n ≡ n
zero-more n = omega arith

-- the edges of a tight list are numbered up to the last point
edge-within : (ps : List Coordinates) (i : ℕ) → IsTight ps → i + 1 < length ps → i < length (edges_of ps)
edge-within ps i t h = omega (arith, h, edges-counted ps i t h)

within-edges : (ps : List Coordinates) (i : ℕ) → IsTight ps → i < length (edges_of ps) → i + 1 < length ps
within-edges ps i t h = omega (arith, h, edges-more ps t (omega (arith, h)))

-- ---- one edge against the others
edge-at : (ps : List Coordinates) (n m : ℕ) (p : Point) → IsTight ps → m + 1 < length ps → either_meets ps n m p ≡ true → edge_meets ps n p ≡ true
edge-at ps n m p t h e =
    any-at (λ f. either_meets ps n f.0 p) 0 (edges_of ps) m any_edge (edge-within ps m t h) (ap (λ k. either_meets ps n k p) (zero-more m) ∙ e)

pub earlier-meets : (ps : List Coordinates) (n m : ℕ) (p : Point) → IsTight ps → n + 1 < length ps → m < n → pair_meets ps m n p ≡ true → edge_meets ps n p ≡ true
earlier-meets ps n m p t l h e = edge-at ps n m p t (omega (arith, l, h)) (or_left _ _ (and_from _ _ (lt-true m n h) e))

pub later-meets : (ps : List Coordinates) (n m : ℕ) (p : Point) → IsTight ps → m + 1 < length ps → n < m → pair_meets ps n m p ≡ true → edge_meets ps n p ≡ true
later-meets ps n m p t l h e = edge-at ps n m p t l (or_right (nat_lt m n && pair_meets ps m n p) _ (and_from _ _ (lt-true n m h) e))

other-of : (ps : List Coordinates) (n : ℕ) (p : Point) → IsTight ps → IsPoint p → edge_meets ps n p ≡ true → MeetsEarlier ps n ⊎ MeetsLater ps n
other-of ps n p t is e = at (one-from (λ f. either_meets ps n f.0 p) 0 (edges_of ps) any_edge e)
  where
    at : HasOne (λ f. either_meets ps n f.0 p) 0 (edges_of ps) any_edge → MeetsEarlier ps n ⊎ MeetsLater ps n
    at found = by (or_cases _ _ (ap (λ k. either_meets ps n k p) (sym (zero-more found.place)) ∙ found.passes))
      where
        by : ((nat_lt found.place n && pair_meets ps found.place n p) ≡ true) ⊎ ((nat_lt n found.place && pair_meets ps n found.place p) ≡ true) → MeetsEarlier ps n ⊎ MeetsLater ps n
        by (inl h) = let parts = and_parts _ _ h in inl (found.place, true-lt found.place n parts.0, (p, is, parts.1))
        by (inr h) = let parts = and_parts _ _ h in inr (found.place, true-lt n found.place parts.0, within-edges ps found.place t found.within, (p, is, parts.1))

pub edge-tells : (ps : List Coordinates) (n : ℕ) (earlier later : Bool) → IsTight ps → n + 1 < length ps → IsTrue earlier ↔ MeetsEarlier ps n → IsTrue later ↔ MeetsLater ps n
    → IsTrue (earlier || later) ↔ Applies (AtPoint (edge_meets ps n))
edge-tells ps n earlier later t l e f = (there, back)
  where
    there : IsTrue (earlier || later) → Applies (AtPoint (edge_meets ps n))
    there h = by (or_cases _ _ h)
      where
        by : (earlier ≡ true) ⊎ (later ≡ true) → Applies (AtPoint (edge_meets ps n))
        by (inl k) = let m = e.0 k in (m.2.0, m.2.1, earlier-meets ps n m.0 m.2.0 t l m.1 m.2.2)
        by (inr k) = let m = f.0 k in (m.3.0, m.3.1, later-meets ps n m.0 m.3.0 t m.2 m.1 m.3.2)

    back : Applies (AtPoint (edge_meets ps n)) → IsTrue (earlier || later)
    back a = by (other-of ps n a.0 t a.1 a.2)
      where
        by : MeetsEarlier ps n ⊎ MeetsLater ps n → IsTrue (earlier || later)
        by (inl m) = or_left _ _ (e.1 m)
        by (inr m) = or_right earlier _ (f.1 m)

pub edge-earlier : (ps : List Coordinates) (n : ℕ) (earlier : Bool) → IsTight ps → n + 1 < length ps → IsTrue earlier → MeetsEarlier ps n → IsTrue earlier ↔ Applies (AtPoint (edge_meets ps n))
edge-earlier ps n earlier t l h m = (λ k. (m.2.0, m.2.1, earlier-meets ps n m.0 m.2.0 t l m.1 m.2.2), λ a. h)

-- an edge that meets another one makes the whole meet itself
pub edge-found : (ps : List Coordinates) (n : ℕ) → IsTight ps → n + 1 < length ps → Applies (AtPoint (edge_meets ps n)) → Applies (AtPoint (meets_itself ps))
edge-found ps n t l a = by (other-of ps n a.0 t a.1 a.2)
  where
    by : MeetsEarlier ps n ⊎ MeetsLater ps n → Applies (AtPoint (meets_itself ps))
    by (inl m) = (pair-found ps m.0 n t m.1 l m.2).0 refl
    by (inr m) = (pair-found ps n m.0 t m.1 m.2 m.3).0 refl

-- ---- edges that were kept
-- the new list has other edges from the one with the number front on, and the same ones before and after those
pub record IsReplaced (old new : List Coordinates) (front olds news back : ℕ) : Type 0 where
  pub old_count : length old ≡ front + olds + back + 1
  pub new_count : length new ≡ front + news + back + 1
  pub some_old : 0 < olds
  pub some_new : 0 < news
  pub closed : is_closed new ≡ is_closed old
  pub before : (i : ℕ) → i < front → edge_at new i ≡ edge_at old i
  pub after : (i : ℕ) → i < back → edge_at new (front + news + i) ≡ edge_at old (front + olds + i)

-- two edges of the new list, and the same ones of the old list
record AreKept (old new : List Coordinates) (i j k l : ℕ) : Type 0 where
  first : edge_at new i ≡ edge_at old k
  second : edge_at new j ≡ edge_at old l
  closed : is_closed new ≡ is_closed old
  follows : nat_eq j (i + 1) ≡ nat_eq l (k + 1)
  starts : nat_eq i 0 ≡ nat_eq k 0
  ends : nat_eq (j + 1) (length (edges_of new)) ≡ nat_eq (l + 1) (length (edges_of old))
  in_order : k < l
  in_range : l + 1 < length old

abbrev meet_by : (closed follows starts ends : Bool) → Edge → Edge → Point → Bool
meet_by closed follows starts ends e f p =
    on_both e f p && not ((follows && same_point (grid_point e.b) p) || (closed && starts && ends && same_point (grid_point e.a) p))

kept-meets : (old new : List Coordinates) (i j k l : ℕ) (p : Point) → AreKept old new i j k l → pair_meets new i j p ≡ pair_meets old k l p
kept-meets old new i j k l p h =
    ap (λ c. meet_by c (nat_eq j (i + 1)) (nat_eq i 0) (nat_eq (j + 1) (length (edges_of new))) (edge_at new i) (edge_at new j) p) h.closed
    ∙ ap (λ f. meet_by (is_closed old) f (nat_eq i 0) (nat_eq (j + 1) (length (edges_of new))) (edge_at new i) (edge_at new j) p) h.follows
    ∙ ap (λ s. meet_by (is_closed old) (nat_eq l (k + 1)) s (nat_eq (j + 1) (length (edges_of new))) (edge_at new i) (edge_at new j) p) h.starts
    ∙ ap (λ n. meet_by (is_closed old) (nat_eq l (k + 1)) (nat_eq k 0) n (edge_at new i) (edge_at new j) p) h.ends
    ∙ ap (λ e. meet_by (is_closed old) (nat_eq l (k + 1)) (nat_eq k 0) (nat_eq (l + 1) (length (edges_of old))) e (edge_at new j) p) h.first
    ∙ ap (λ e. meet_by (is_closed old) (nat_eq l (k + 1)) (nat_eq k 0) (nat_eq (l + 1) (length (edges_of old))) (edge_at old k) e p) h.second

-- what is known of the two lists, and how many edges each has
record HasCounts (old new : List Coordinates) (front olds news back : ℕ) : Type 0 where
  replaced : IsReplaced old new front olds news back
  olds_are : length (edges_of old) ≡ front + olds + back
  news_are : length (edges_of new) ≡ front + news + back

counts : (old new : List Coordinates) (front olds news back : ℕ) → IsTight old → IsTight new → IsReplaced old new front olds news back → HasCounts old new front olds news back
counts old new front olds news back t u r =
    record {
      replaced = r;
      olds_are = omega (arith, r.old_count, edges-counted old 0 t (omega (arith, r.old_count, r.some_old)));
      news_are = omega (arith, r.new_count, edges-counted new 0 u (omega (arith, r.new_count, r.some_new)));
    }

-- both come before the new edges
both-before : (old new : List Coordinates) (front olds news back i j : ℕ) → HasCounts old new front olds news back → i < j → j < front → AreKept old new i j i j
both-before old new front olds news back i j h o l =
    let r = h.replaced in
    record {
      first = r.before i (omega (arith, o, l));
      second = r.before j l;
      closed = r.closed;
      follows = refl;
      starts = refl;
      ends =
          eq-false (j + 1) (length (edges_of new)) (λ e. omega (arith, e, l, h.news_are, r.some_new))
          ∙ sym (eq-false (j + 1) (length (edges_of old)) (λ e. omega (arith, e, l, h.olds_are, r.some_old)));
      in_order = o;
      in_range = omega (arith, l, r.old_count, r.some_old);
    }

after-is : (old new : List Coordinates) (front olds news back j : ℕ) → HasCounts old new front olds news back → front + news ≤ j → j < front + news + back
    → edge_at new j ≡ edge_at old (front + olds + (j - (front + news)))
after-is old new front olds news back j h l m =
    ap (λ n. edge_at new n) (omega (arith, l)) ∙ h.replaced.after (j - (front + news)) (omega (arith, l, m))

-- one comes before them, the other after
one-each : (old new : List Coordinates) (front olds news back i j : ℕ) → HasCounts old new front olds news back → i < front → front + news ≤ j → j < front + news + back
    → AreKept old new i j i (front + olds + (j - (front + news)))
one-each old new front olds news back i j h b l m =
    let r = h.replaced in
    record {
      first = r.before i b;
      second = after-is old new front olds news back j h l m;
      closed = r.closed;
      follows =
          eq-false j (i + 1) (λ e. omega (arith, e, b, l, r.some_new))
          ∙ sym (eq-false (front + olds + (j - (front + news))) (i + 1) (λ e. omega (arith, e, b, l, r.some_old)));
      starts = refl;
      ends =
          eq-moved (j + 1) (length (edges_of new)) (front + olds + (j - (front + news)) + 1) (length (edges_of old))
          (λ e. omega (arith, e, l, h.olds_are, h.news_are)) (λ e. omega (arith, e, l, h.olds_are, h.news_are));
      in_order = omega (arith, b, l, r.some_old);
      in_range = omega (arith, l, m, r.old_count);
    }

-- both come after them
both-after : (old new : List Coordinates) (front olds news back i j : ℕ) → HasCounts old new front olds news back → front + news ≤ i → i < j → j < front + news + back
    → AreKept old new i j (front + olds + (i - (front + news))) (front + olds + (j - (front + news)))
both-after old new front olds news back i j h l o m =
    let r = h.replaced in
    record {
      first = after-is old new front olds news back i h l (omega (arith, o, m));
      second = after-is old new front olds news back j h (omega (arith, l, o)) m;
      closed = r.closed;
      follows =
          eq-moved j (i + 1) (front + olds + (j - (front + news))) (front + olds + (i - (front + news)) + 1)
          (λ e. omega (arith, e, l, o)) (λ e. omega (arith, e, l, o));
      starts =
          eq-false i 0 (λ e. omega (arith, e, l, r.some_new))
          ∙ sym (eq-false (front + olds + (i - (front + news))) 0 (λ e. omega (arith, e, r.some_old)));
      ends =
          eq-moved (j + 1) (length (edges_of new)) (front + olds + (j - (front + news)) + 1) (length (edges_of old))
          (λ e. omega (arith, e, l, o, h.olds_are, h.news_are)) (λ e. omega (arith, e, l, o, h.olds_are, h.news_are));
      in_order = omega (arith, l, o);
      in_range = omega (arith, l, o, m, r.old_count);
    }

-- where the old list doesn't meet itself, and none of the new edges meets another one, the new list doesn't
pub kept-simple : (old new : List Coordinates) (front olds news back : ℕ) → IsTight old → IsTight new → IsReplaced old new front olds news back
    → ¬ (Applies (AtPoint (meets_itself old))) → ((n : ℕ) → front ≤ n → n < front + news → ¬ (Applies (AtPoint (edge_meets new n)))) → ¬ (Applies (AtPoint (meets_itself new)))
kept-simple old new front olds news back t u r simple none a =
    found a.0 a.1 (two-from (meet_apart (is_closed new) (length (edges_of new)) a.0) 0 (edges_of new) any_edge a.2)
  where
    known : HasCounts old new front olds news back
    known = counts old new front olds news back t u r

    kept : (p : Point) → IsPoint p → (i j k l : ℕ) → pair_meets new i j p ≡ true → AreKept old new i j k l → ⊥
    kept p is i j k l m h = simple ((pair-found old k l t h.in_order h.in_range (p, is, sym (kept-meets old new i j k l p h) ∙ m)).0 refl)

    places : (p : Point) → IsPoint p → (i j : ℕ) → i < j → j + 1 < length new → pair_meets new i j p ≡ true
        → (i < front) ⊎ (front ≤ i) → (j < front) ⊎ (front ≤ j) → (i < front + news) ⊎ (front + news ≤ i) → (j < front + news) ⊎ (front + news ≤ j) → ⊥
    places p is i j o l m (inl b) (inl c) d e = kept p is i j i j m (both-before old new front olds news back i j known o c)
    places p is i j o l m (inl b) (inr c) d (inl e) = none j c e (p, is, earlier-meets new j i p u l o m)
    places p is i j o l m (inl b) (inr c) d (inr e) =
        kept p is i j i (front + olds + (j - (front + news))) m (one-each old new front olds news back i j known b e (omega (arith, l, r.new_count)))
    places p is i j o l m (inr b) c (inl d) e = none i b d (p, is, later-meets new i j p u l o m)
    places p is i j o l m (inr b) c (inr d) e =
        kept p is i j (front + olds + (i - (front + news))) (front + olds + (j - (front + news))) m
        (both-after old new front olds news back i j known d o (omega (arith, l, r.new_count)))

    found : (p : Point) → IsPoint p → HasTwo (meet_apart (is_closed new) (length (edges_of new)) p) 0 (edges_of new) any_edge → ⊥
    found p is m =
        let within : m.second + 1 < length new = within-edges new m.second u m.within in
        places p is m.first m.second m.in_order within (sym (pair-is new p m.first m.second u m.in_order within) ∙ m.passes)
        (cases_lt m.first front) (cases_lt m.second front) (cases_lt m.first (front + news)) (cases_lt m.second (front + news))
