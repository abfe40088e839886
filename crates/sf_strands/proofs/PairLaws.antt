-- A tight list meets itself where one of its pairs of edges does.
use Rattle.std.proofs.Common.{◌≡◌, ◌↔◌, ℕ, zero, suc, ◌+◌, ◌≤◌, ◌<◌, refl, ap, sym, ◌∙◌, subst, arith, Bool, true, false, not, List, [], ◌∷◌, length, get_or, below_more, IsTrue}
use Rattle.std.proofs.Common.{◌⊎◌, inl, inr}
use Rattle.std.specs.List.{enumerate_from, list_any}
use Rattle.std.proofs.lemmas.Bool.{false≢true, or_cases, or_left, or_right}
use Rattle.sf_grid.specs.Plane.{Coordinates, IsPoint, Point}
use Rattle.sf_grid.specs.Edge.{Edge, edge_between}
use Rattle.sf_grid.specs.Sharing.{IsSharing}
use Rattle.sf_grid.specs.declared.meet.Meet.{Meet}
use Rattle.sf_grid.specs.declared.meet.Meet.TheVariants.{Along, Apart, At}
use Rattle.sf_geometry.specs.Lists.{edges_between, edges_from, edges_of, is_closed}
use Rattle.sf_valid_rules.specs.Conditions.{Applies, AtPoint, any_two}
use Rattle.sf_valid_rules.specs.Shapes.{meets_itself}
use Rattle.sf_strands.specs.Pairs.{are_neighbours, edge_at, pair_meets, point_of}
use Rattle.sf_strands.specs.Tight.{IsTight}
use Rattle.sf_strands.proofs.MeetingLaws.{along-meets, apart-meets, once-meets}
use Rattle.sf_strands.proofs.NumberedLaws.{meet_apart}
use Rattle.sf_strands.proofs.PlaceLaws.{edges-counted, edges-more, follows, goes_around, neighbours-are, pair-joined, read-edge}
use Rattle.sf_strands.proofs.TightLaws.{tight-tight}

-- ---- two members of a numbered list
shifted : (k i : ℕ) → k + suc i ≡ k + 1 + i
shifted k i = omega arith

none : (k : ℕ) → k + 0 ≡ k
none k = omega arith

pub any-at : {X : Type 0} (test : ℕ × X → Bool) (k : ℕ) (xs : List X) (i : ℕ) (d : X) → i < length xs → test (k + i, get_or xs i d) ≡ true → list_any test (enumerate_from k xs) ≡ true
any-at test k [] i d h t = absurd (omega (arith, h))
any-at test k (x ∷ xs) zero d h t = or_left _ _ (ap (λ n. test (n, x)) (sym (none k)) ∙ t)
any-at test k (x ∷ xs) (suc i) d h t = or_right (test (k, x)) _ (any-at test (k + 1) xs i d (omega (arith, h)) (ap (λ n. test (n, get_or xs i d)) (sym (shifted k i)) ∙ t))

any_two-at : {X : Type 0} (test : ℕ × X → ℕ × X → Bool) (k : ℕ) (xs : List X) (i j : ℕ) (d : X) → i < j → j < length xs →
    test (k + i, get_or xs i d) (k + j, get_or xs j d) ≡ true → any_two test (enumerate_from k xs) ≡ true
any_two-at test k [] i j d o h t = absurd (omega (arith, h))
any_two-at test k (x ∷ xs) zero zero d o h t = absurd (omega (arith, o))
any_two-at test k (x ∷ xs) zero (suc j) d o h t =
    or_left _ _ (any-at (test (k, x)) (k + 1) xs j d (omega (arith, h)) (ap (λ n. test (k, x) (n, get_or xs j d)) (sym (shifted k j)) ∙ ap (λ n. test (n, x) (k + suc j, get_or xs j d)) (sym (none k)) ∙ t))
any_two-at test k (x ∷ xs) (suc i) zero d o h t = absurd (omega (arith, o))
any_two-at test k (x ∷ xs) (suc i) (suc j) d o h t =
    or_right (list_any (test (k, x)) (enumerate_from (k + 1) xs)) _
    (any_two-at test (k + 1) xs i j d (omega (arith, o)) (omega (arith, h))
    (ap (λ n. test (n, get_or xs i d) (k + 1 + j, get_or xs j d)) (sym (shifted k i)) ∙ ap (λ n. test (k + suc i, get_or xs i d) (n, get_or xs j d)) (sym (shifted k j)) ∙ t))

pub record HasOne {X : Type 0} (test : ℕ × X → Bool) (k : ℕ) (xs : List X) (d : X) : Type 0 where
  pub place : ℕ
  pub within : place < length xs
  pub passes : test (k + place, get_or xs place d) ≡ true

pub one-from : {X : Type 0} (test : ℕ × X → Bool) (k : ℕ) (xs : List X) (d : X) → list_any test (enumerate_from k xs) ≡ true → HasOne test k xs d
one-from test k [] d t = absurd (false≢true t)
one-from test k (x ∷ xs) d t = by (or_cases (test (k, x)) _ t) (one-from test (k + 1) xs d)
  where
    by : (test (k, x) ≡ true) ⊎ (list_any test (enumerate_from (k + 1) xs) ≡ true) → (list_any test (enumerate_from (k + 1) xs) ≡ true → HasOne test (k + 1) xs d) → HasOne test k (x ∷ xs) d
    by (inl h) later = record { place = 0; within = omega arith; passes = ap (λ n. test (n, x)) (none k) ∙ h }
    by (inr h) later = moved (later h)
      where
        moved : HasOne test (k + 1) xs d → HasOne test k (x ∷ xs) d
        moved m = record { place = suc m.place; within = omega (arith, m.within); passes = ap (λ n. test (n, get_or xs m.place d)) (shifted k m.place) ∙ m.passes }

pub record HasTwo {X : Type 0} (test : ℕ × X → ℕ × X → Bool) (k : ℕ) (xs : List X) (d : X) : Type 0 where
  pub first : ℕ
  pub second : ℕ
  pub in_order : first < second
  pub within : second < length xs
  pub passes : test (k + first, get_or xs first d) (k + second, get_or xs second d) ≡ true

pub two-from : {X : Type 0} (test : ℕ × X → ℕ × X → Bool) (k : ℕ) (xs : List X) (d : X) → any_two test (enumerate_from k xs) ≡ true → HasTwo test k xs d
two-from test k [] d t = absurd (false≢true t)
two-from test k (x ∷ xs) d t = by (or_cases _ _ t) (two-from test (k + 1) xs d)
  where
    at_first : HasOne (test (k, x)) (k + 1) xs d → HasTwo test k (x ∷ xs) d
    at_first m =
        record {
          first = 0;
          second = suc m.place;
          in_order = omega arith;
          within = omega (arith, m.within);
          passes = ap (λ n. test (n, x) (k + suc m.place, get_or xs m.place d)) (none k) ∙ ap (λ n. test (k, x) (n, get_or xs m.place d)) (shifted k m.place) ∙ m.passes;
        }

    moved : HasTwo test (k + 1) xs d → HasTwo test k (x ∷ xs) d
    moved m =
        record {
          first = suc m.first;
          second = suc m.second;
          in_order = omega (arith, m.in_order);
          within = omega (arith, m.within);
          passes =
              ap (λ n. test (n, get_or xs m.first d) (k + suc m.second, get_or xs m.second d)) (shifted k m.first)
              ∙ ap (λ n. test (k + 1 + m.first, get_or xs m.first d) (n, get_or xs m.second d)) (shifted k m.second)
              ∙ m.passes;
        }

    by : (list_any (test (k, x)) (enumerate_from (k + 1) xs) ≡ true) ⊎ (any_two test (enumerate_from (k + 1) xs) ≡ true) → (any_two test (enumerate_from (k + 1) xs) ≡ true → HasTwo test (k + 1) xs d) → HasTwo test k (x ∷ xs) d
    by (inl h) later = at_first (one-from (test (k, x)) (k + 1) xs d h)
    by (inr h) later = moved (later h)

-- ---- the edges of a tight list by their numbers
edge-from : (p : Coordinates) (ps : List Coordinates) (i : ℕ) (d : Edge) → i < length ps → get_or (edges_from p ps) i d ≡ edge_at (p ∷ ps) i
edge-from p [] i d h = absurd (omega (arith, h))
edge-from p (q ∷ qs) zero d h = refl
edge-from p (q ∷ qs) (suc i) d h =
    edge-from q qs i d (omega (arith, h)) ∙ ap (λ n. edge_between (point_of (q ∷ qs) i) (point_of (p ∷ q ∷ qs) n)) (next i)
  where
    next : (n : ℕ) → suc (n + 1) ≡ suc n + 1
    next n = omega arith

edge-between : (ps : List Coordinates) (i : ℕ) (d : Edge) → i + 1 < length ps → get_or (edges_between ps) i d ≡ edge_at ps i
edge-between [] i d h = absurd (omega (arith, h))
edge-between (p ∷ ps) i d h = edge-from p ps i d (omega (arith, h))

edge-of : (ps : List Coordinates) (i : ℕ) (d : Edge) → IsTight ps → i + 1 < length ps → get_or (edges_of ps) i d ≡ edge_at ps i
edge-of ps i d t h = ap (λ ts. get_or (edges_between ts) i d) (tight-tight ps t) ∙ edge-between ps i d h

abbrev pub any_edge : Edge
any_edge = edge_at [] 0

pub pair-is : (ps : List Coordinates) (p : Point) (i j : ℕ) → IsTight ps → i < j → j + 1 < length ps →
    meet_apart (is_closed ps) (length (edges_of ps)) p (0 + i, get_or (edges_of ps) i any_edge) (0 + j, get_or (edges_of ps) j any_edge) ≡ pair_meets ps i j p
pair-is ps p i j t o h =
    ap (λ n. meet_apart (is_closed ps) (length (edges_of ps)) p (n, get_or (edges_of ps) i any_edge) (0 + j, get_or (edges_of ps) j any_edge)) (zero-more i)
    ∙ ap (λ n. meet_apart (is_closed ps) (length (edges_of ps)) p (i, get_or (edges_of ps) i any_edge) (n, get_or (edges_of ps) j any_edge)) (zero-more j)
    ∙ ap (λ e. meet_apart (is_closed ps) (length (edges_of ps)) p (i, e) (j, get_or (edges_of ps) j any_edge)) (edge-of ps i any_edge t (omega (arith, o, h)))
    ∙ ap (λ e. meet_apart (is_closed ps) (length (edges_of ps)) p (i, edge_at ps i) (j, e)) (edge-of ps j any_edge t h)
  where
    zero-more : (n : ℕ) → 0 + n ≡ n
    zero-more n = omega arith

-- ---- the loops over pairs
pub pair-found : (ps : List Coordinates) (i j : ℕ) → IsTight ps → i < j → j + 1 < length ps → Applies (AtPoint (pair_meets ps i j)) → IsTrue true ↔ Applies (AtPoint (meets_itself ps))
pair-found ps i j t o h (p, is, m) = (
  λ x.
      (p, is, any_two-at (meet_apart (is_closed ps) (length (edges_of ps)) p) 0 (edges_of ps) i j any_edge o (omega (arith, h, edges-counted ps j t h)) (pair-is ps p i j t o h ∙ m)),
  λ x. refl,
)

abbrev pub NoneMeets : List Coordinates → ℕ → Type 0
NoneMeets ps n = (j : ℕ) → j < n → (i : ℕ) → i < j → ¬ (Applies (AtPoint (pair_meets ps i j)))

pub none-found : (ps : List Coordinates) (n : ℕ) → IsTight ps → length ps ≤ n + 1 → NoneMeets ps n → IsTrue false ↔ Applies (AtPoint (meets_itself ps))
none-found ps n t h none = (λ x. absurd (false≢true x), λ a. absurd (found a.0 a.1 (two-from (meet_apart (is_closed ps) (length (edges_of ps)) a.0) 0 (edges_of ps) any_edge a.2)))
  where
    found : (p : Point) → IsPoint p → HasTwo (meet_apart (is_closed ps) (length (edges_of ps)) p) 0 (edges_of ps) any_edge → ⊥
    found p is m =
        let within : m.second + 1 < length ps = in_range ps t m.second m.within in
        none m.second (omega (arith, within, h)) m.first m.in_order (p, is, sym (pair-is ps p m.first m.second t m.in_order within) ∙ m.passes)
      where
        in_range : (qs : List Coordinates) → IsTight qs → (k : ℕ) → k < length (edges_of qs) → k + 1 < length qs
        in_range qs u k l = omega (arith, l, edges-more qs u (omega (arith, l)))

pub none-more : (ps : List Coordinates) (n : ℕ) → NoneMeets ps n → ((i : ℕ) → i < n → ¬ (Applies (AtPoint (pair_meets ps i n)))) → NoneMeets ps (n + 1)
none-more ps n before here = below_more (λ j. (i : ℕ) → i < j → ¬ (Applies (AtPoint (pair_meets ps i j)))) n before here

-- ---- a pair of edges, as its four points are read
pub record IsPair (ps : List Coordinates) (i j : ℕ) (a b c d : Coordinates) : Type 0 where
  pub tight : IsTight ps
  pub in_order : i < j
  pub in_range : j + 1 < length ps
  pub from : a ≡ get_or ps i a
  pub to : b ≡ get_or ps (i + 1) b
  pub other_from : c ≡ get_or ps j c
  pub other_to : d ≡ get_or ps (j + 1) d

shared-at : (ps : List Coordinates) (i j : ℕ) (a b c d : Coordinates) (m : Meet) → IsPair ps i j a b c d → IsSharing (edge_between a b) (edge_between c d) m → IsSharing (edge_at ps i) (edge_at ps j) m
shared-at ps i j a b c d m r h =
    let P : Edge → Type 0 = λ e. IsSharing e (edge_between c d) m in
    let Q : Edge → Type 0 = λ f. IsSharing (edge_at ps i) f m in
    subst Q (sym (read-edge ps j c d r.in_range r.other_from r.other_to))
    (subst P (sym (read-edge ps i a b (omega (arith, r.in_order, r.in_range)) r.from r.to)) h)

pub pair-apart : (ps : List Coordinates) (i j : ℕ) (a b c d : Coordinates) → IsPair ps i j a b c d → IsSharing (edge_between a b) (edge_between c d) Apart →
    IsTrue false ↔ Applies (AtPoint (pair_meets ps i j))
pair-apart ps i j a b c d r h = apart-meets (follows i j) (goes_around ps i j) (edge_at ps i) (edge_at ps j) (shared-at ps i j a b c d Apart r h)

pub pair-along : (ps : List Coordinates) (i j : ℕ) (a b c d u v : Coordinates) → IsPair ps i j a b c d → IsSharing (edge_between a b) (edge_between c d) (Along u v) →
    IsTrue true ↔ Applies (AtPoint (pair_meets ps i j))
pair-along ps i j a b c d u v r h = along-meets (follows i j) (goes_around ps i j) (edge_at ps i) (edge_at ps j) u v (shared-at ps i j a b c d (Along u v) r h)

pub pair-once : (ps : List Coordinates) (i j : ℕ) (a b c d : Coordinates) (q : Point) (near : Bool) → IsPair ps i j a b c d → IsSharing (edge_between a b) (edge_between c d) (At q) →
    near ≡ are_neighbours ps i j → IsTrue (not near) ↔ Applies (AtPoint (pair_meets ps i j))
pair-once ps i j a b c d q near r h e =
    let P : Bool → Type 0 = λ t. IsTrue (not t) ↔ Applies (AtPoint (pair_meets ps i j)) in
    subst P (sym (e ∙ neighbours-are ps i j))
    (once-meets (follows i j) (goes_around ps i j) (edge_at ps i) (edge_at ps j) q (pair-joined ps i j r.tight r.in_range) (shared-at ps i j a b c d (At q) r h))
