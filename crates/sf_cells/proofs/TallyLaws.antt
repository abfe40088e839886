-- Counts of groups, number by number: of two lists of pieces one after another, and of what is left when some of them are taken off.
use Rattle.std.proofs.Common.{◌≡◌, ◌≢◌, refl, ap, sym, ◌∙◌, ℕ, zero, suc, ◌+◌, ◌-◌, ◌≤◌, ◌<◌, arith, List, [], ◌∷◌, ◌++◌, inl, inr, map, length, false, slice_index, slice_index_or, slice_set, ◌==◌, cond, replicate}
use Rattle.std.specs.List.{All, sum_by}
use Rattle.std.proofs.lemmas.Bool.{eq-eqb}
use Rattle.std.proofs.lemmas.Bool.Decides.{eqb_tells}
use Rattle.std.proofs.lemmas.List.{append-nil, get_or-set_same, length-map}
use Rattle.std.proofs.lemmas.List.Elements.{All-cons, All-nil}
use Rattle.std.proofs.lemmas.List.Sums.{count_by-le-length, sum_by-append, sum_by-cons}
use Rattle.sf_strips.specs.Fronts.{SameNumbers}
use Rattle.sf_cells.specs.Groups.{counts, group_count, numbers}
use Rattle.sf_cells.specs.Hands.{AtMost, minus, plus}

-- ---- lists that two functions give, number by number
-- sums, number by number, are the values of the sum of the two functions
plus-map : (f g h : ℕ → ℕ) (ks : List ℕ) → ((k : ℕ) → f k + g k ≡ h k) → plus (map f ks) (map g ks) ≡ map h ks
plus-map f g h [] e = refl
plus-map f g h (k ∷ ks) e = ap (λ z. z ∷ plus (map f ks) (map g ks)) (e k) ∙ ap (λ zs. h k ∷ zs) (plus-map f g h ks e)

-- so are differences
minus-map : (f g h : ℕ → ℕ) (ks : List ℕ) → ((k : ℕ) → f k - g k ≡ h k) → minus (map f ks) (map g ks) ≡ map h ks
minus-map f g h [] e = refl
minus-map f g h (k ∷ ks) e = ap (λ z. z ∷ minus (map f ks) (map g ks)) (e k) ∙ ap (λ zs. h k ∷ zs) (minus-map f g h ks e)

-- where one function is nowhere above the other, so are its values
AtMost-map : (f g : ℕ → ℕ) (ks : List ℕ) → ((k : ℕ) → f k ≤ g k) → AtMost (map f ks) (map g ks)
AtMost-map f g [] h = tt
AtMost-map f g (k ∷ ks) h = (h k, AtMost-map f g ks h)

-- ---- counts of pieces
-- how many of the pieces are in the group g
abbrev pub members : List ℕ → List ℕ → ℕ → ℕ
members groups pieces g = sum_by (λ i. cond (slice_index groups i == g) 1 0) pieces

-- the counts of two lists one after another
pub counts-append : (groups xs ys : List ℕ) → counts groups (xs ++ ys) ≡ plus (counts groups xs) (counts groups ys)
counts-append groups xs ys =
    sym (plus-map (members groups xs) (members groups ys) (members groups (xs ++ ys)) (numbers 0 (group_count groups))
    (λ g. sym (sum_by-append (λ i. cond (slice_index groups i == g) 1 0) xs ys)))

-- zs are just the pieces xs and ys: of the group g there are as many
members-joined : (groups xs ys zs : List ℕ) (g : ℕ) → SameNumbers (xs ++ ys) zs → members groups xs g + members groups ys g ≡ members groups zs g
members-joined groups xs ys zs g h =
    sym (sum_by-append (λ i. cond (slice_index groups i == g) 1 0) xs ys) ∙ h (λ i. cond (slice_index groups i == g) 1 0)

-- those that come are added to those that are there
pub counts-grown : (groups xs ys zs : List ℕ) → SameNumbers (xs ++ ys) zs → plus (counts groups ys) (counts groups xs) ≡ counts groups zs
counts-grown groups xs ys zs h =
    plus-map (members groups ys) (members groups xs) (members groups zs) (numbers 0 (group_count groups))
    (λ g. swapped _ _ _ (members-joined groups xs ys zs g h))
  where
    swapped : (a b c : ℕ) → a + b ≡ c → b + a ≡ c
    swapped a b c e = omega arith

-- those that go are taken off
pub counts-left : (groups xs ys zs : List ℕ) → SameNumbers (xs ++ ys) zs → minus (counts groups zs) (counts groups xs) ≡ counts groups ys
counts-left groups xs ys zs h =
    minus-map (members groups zs) (members groups xs) (members groups ys) (numbers 0 (group_count groups))
    (λ g. taken _ _ _ (members-joined groups xs ys zs g h))
  where
    taken : (a b c : ℕ) → a + b ≡ c → c - a ≡ b
    taken a b c e = omega arith

-- those that go are there
pub counts-part : (groups xs ys zs : List ℕ) → SameNumbers (xs ++ ys) zs → AtMost (counts groups xs) (counts groups zs)
counts-part groups xs ys zs h =
    AtMost-map (members groups xs) (members groups zs) (numbers 0 (group_count groups))
    (λ g. below _ _ _ (members-joined groups xs ys zs g h))
  where
    below : (a b c : ℕ) → a + b ≡ c → a ≤ c
    below a b c e = omega arith

-- ---- lengths
length-plus : (ms ns : List ℕ) → length (plus ms ns) ≡ length ms
length-plus [] ns = refl
length-plus (m ∷ ms) [] = refl
length-plus (m ∷ ms) (n ∷ ns) = ap (λ k. suc k) (length-plus ms ns)

length-minus : (ms ns : List ℕ) → length (minus ms ns) ≡ length ms
length-minus [] ns = refl
length-minus (m ∷ ms) [] = refl
length-minus (m ∷ ms) (n ∷ ns) = ap (λ k. suc k) (length-minus ms ns)

-- ---- a tally to which two functions are added, or from which they are taken off, one after the other
-- added one after the other, they are added together
plus-twice : (f g h : ℕ → ℕ) (t ks : List ℕ) → ((k : ℕ) → f k + g k ≡ h k) → plus (plus t (map f ks)) (map g ks) ≡ plus t (map h ks)
plus-twice f g h [] ks e = refl
plus-twice f g h (m ∷ t) [] e = refl
plus-twice f g h (m ∷ t) (k ∷ ks) e =
    ap (λ z. z ∷ plus (plus t (map f ks)) (map g ks)) (grown m (f k) (g k) (h k) (e k)) ∙ ap (λ zs. (m + h k) ∷ zs) (plus-twice f g h t ks e)
  where
    grown : (m a b c : ℕ) → a + b ≡ c → (m + a) + b ≡ m + c
    grown m a b c e = omega arith

-- taken off one after the other, they are taken off together
minus-twice : (f g h : ℕ → ℕ) (t ks : List ℕ) → ((k : ℕ) → f k + g k ≡ h k) → minus (minus t (map f ks)) (map g ks) ≡ minus t (map h ks)
minus-twice f g h [] ks e = refl
minus-twice f g h (m ∷ t) [] e = refl
minus-twice f g h (m ∷ t) (k ∷ ks) e =
    ap (λ z. z ∷ minus (minus t (map f ks)) (map g ks)) (less m (f k) (g k) (h k) (e k)) ∙ ap (λ zs. (m - h k) ∷ zs) (minus-twice f g h t ks e)
  where
    less : (m a b c : ℕ) → a + b ≡ c → (m - a) - b ≡ m - c
    less m a b c e = omega arith

-- what is there in all is there in part
AtMost-first : (f g h : ℕ → ℕ) (t ks : List ℕ) → ((k : ℕ) → f k + g k ≡ h k) → AtMost (map h ks) t → AtMost (map f ks) t
AtMost-first f g h t [] e a = tt
AtMost-first f g h [] (k ∷ ks) e a = absurd a
AtMost-first f g h (m ∷ t) (k ∷ ks) e a = (below (f k) (g k) (h k) m (e k) a.0, AtMost-first f g h t ks e a.1)
  where
    below : (a b c m : ℕ) → a + b ≡ c → c ≤ m → a ≤ m
    below a b c m e h = omega arith

-- the rest is there once the first part is taken off
AtMost-second : (f g h : ℕ → ℕ) (t ks : List ℕ) → ((k : ℕ) → f k + g k ≡ h k) → AtMost (map h ks) t → AtMost (map g ks) (minus t (map f ks))
AtMost-second f g h t [] e a = tt
AtMost-second f g h [] (k ∷ ks) e a = absurd a
AtMost-second f g h (m ∷ t) (k ∷ ks) e a = (left (f k) (g k) (h k) m (e k) a.0, AtMost-second f g h t ks e a.1)
  where
    left : (a b c m : ℕ) → a + b ≡ c → c ≤ m → b ≤ m - a
    left a b c m e h = omega arith

-- ---- a tally where a function that is 0 is added or taken off
plus-zeros : (f : ℕ → ℕ) (j n : ℕ) (t : List ℕ) → ((k : ℕ) → j ≤ k → f k ≡ 0) → plus t (map f (numbers j n)) ≡ t
plus-zeros f j n [] h = refl
plus-zeros f j zero (m ∷ t) h = refl
plus-zeros f j (suc n) (m ∷ t) h =
    ap (λ z. z ∷ plus t (map f (numbers (j + 1) n))) (same m (f j) (h j (omega arith)))
    ∙ ap (λ zs. m ∷ zs) (plus-zeros f (j + 1) n t (λ k l. h k (omega arith)))
  where
    same : (m a : ℕ) → a ≡ 0 → m + a ≡ m
    same m a e = omega arith

minus-zeros : (f : ℕ → ℕ) (j n : ℕ) (t : List ℕ) → ((k : ℕ) → j ≤ k → f k ≡ 0) → minus t (map f (numbers j n)) ≡ t
minus-zeros f j n [] h = refl
minus-zeros f j zero (m ∷ t) h = refl
minus-zeros f j (suc n) (m ∷ t) h =
    ap (λ z. z ∷ minus t (map f (numbers (j + 1) n))) (same m (f j) (h j (omega arith)))
    ∙ ap (λ zs. m ∷ zs) (minus-zeros f (j + 1) n t (λ k l. h k (omega arith)))
  where
    same : (m a : ℕ) → a ≡ 0 → m - a ≡ m
    same m a e = omega arith

-- ---- a tally where one number changes by one: the function is 1 at that place, and else 0
pub record IsOneAt (f : ℕ → ℕ) (g : ℕ) : Type 0 where
  pub here : f g ≡ 1
  pub elsewhere : (k : ℕ) → k ≢ g → f k ≡ 0

-- one is added at the place i of a tally whose numbers belong to groups from j on
plus-one : (f : ℕ → ℕ) (g i j : ℕ) (t : List ℕ) → IsOneAt f g → j + i ≡ g → i < length t →
    slice_set t i (slice_index t i + 1) ≡ plus t (map f (numbers j (length t)))
plus-one f g i j [] o e h = absurd (omega arith)
plus-one f g zero j (m ∷ t) o e h =
    let here : f j ≡ 1 = ap f (omega arith) ∙ o.here in
    ap (λ n. (m + n) ∷ t) (sym here)
    ∙ ap (λ zs. (m + f j) ∷ zs) (sym (plus-zeros f (j + 1) (length t) t (λ k l. o.elsewhere k (omega arith))))
plus-one f g (suc i) j (m ∷ t) o e h =
    let none : f j ≡ 0 = o.elsewhere j (omega arith) in
    let same : m ≡ m + f j = omega arith in
    ap (λ z. z ∷ slice_set t i (slice_index t i + 1)) same
    ∙ ap (λ zs. (m + f j) ∷ zs) (plus-one f g i (j + 1) t o (omega arith) (omega arith))

-- one is taken off there
minus-one : (f : ℕ → ℕ) (g i j : ℕ) (t : List ℕ) → IsOneAt f g → j + i ≡ g → i < length t →
    slice_set t i (slice_index t i - 1) ≡ minus t (map f (numbers j (length t)))
minus-one f g i j [] o e h = absurd (omega arith)
minus-one f g zero j (m ∷ t) o e h =
    let here : f j ≡ 1 = ap f (omega arith) ∙ o.here in
    ap (λ n. (m - n) ∷ t) (sym here)
    ∙ ap (λ zs. (m - f j) ∷ zs) (sym (minus-zeros f (j + 1) (length t) t (λ k l. o.elsewhere k (omega arith))))
minus-one f g (suc i) j (m ∷ t) o e h =
    let none : f j ≡ 0 = o.elsewhere j (omega arith) in
    let same : m ≡ m - f j = omega arith in
    ap (λ z. z ∷ slice_set t i (slice_index t i - 1)) same
    ∙ ap (λ zs. (m - f j) ∷ zs) (minus-one f g i (j + 1) t o (omega arith) (omega arith))

-- where it can be taken off, the number there is at least 1
one-there : (f : ℕ → ℕ) (g i j n : ℕ) (t : List ℕ) → IsOneAt f g → j + i ≡ g → i < n → AtMost (map f (numbers j n)) t → 1 ≤ slice_index t i
one-there f g i j zero t o e h a = absurd (omega arith)
one-there f g i j (suc n) [] o e h a = absurd a
one-there f g zero j (suc n) (m ∷ t) o e h a =
    let here : f j ≡ 1 = ap f (omega arith) ∙ o.here in
    let least : f j ≤ m = a.0 in
    omega arith
one-there f g (suc i) j (suc n) (m ∷ t) o e h a = one-there f g i (j + 1) n t o (omega arith) (omega arith) a.1

-- ---- the groups of pieces
-- a piece's group is one of those that are counted
pub group_below : (groups : List ℕ) (p : ℕ) → p < length groups → slice_index groups p < group_count groups
group_below [] p h = absurd (omega arith)
group_below (g ∷ groups) zero h = omega arith
group_below (g ∷ groups) (suc p) h =
    let rest : slice_index groups p < group_count groups = group_below groups p (omega arith) in
    omega arith

-- there are as many numbers as were asked for
pub length-numbers : (j n : ℕ) → length (numbers j n) ≡ n
length-numbers j zero = refl
length-numbers j (suc n) = ap (λ k. suc k) (length-numbers (j + 1) n)

-- there is a count for each group
pub length-counts : (groups xs : List ℕ) → length (counts groups xs) ≡ group_count groups
length-counts groups xs =
    length-map (numbers 0 (group_count groups)) (members groups xs) ∙ length-numbers 0 (group_count groups)

-- the counts of one piece
members-one : (groups : List ℕ) (p : ℕ) → IsOneAt (members groups (p ∷ [])) (slice_index groups p)
members-one groups p =
    record {
      here = sum_by-cons (λ i. cond (slice_index groups i == slice_index groups p) 1 0) p []
          ∙ ap (λ b. cond b 1 0 + 0) (eq-eqb (slice_index groups p) (slice_index groups p) refl);
      elsewhere = λ k ne.
          sum_by-cons (λ i. cond (slice_index groups i == k) 1 0) p []
          ∙ ap (λ b. cond b 1 0 + 0) (not_same (slice_index groups p) k (λ e. ne (sym e)));
    }
  where
    not_same : (a b : ℕ) → (a ≡ b → ⊥) → (a == b) ≡ false
    not_same a b h = elim (eqb_tells a b) [ inl same ↦ absurd (h same.1) | inr differs ↦ differs.0 ]

-- ---- what a loop does to a tally, piece by piece
-- one more piece of its group
pub add_one : (groups t : List ℕ) (p : ℕ) → length t ≡ group_count groups → p < length groups →
    slice_set t (slice_index groups p) (slice_index t (slice_index groups p) + 1) ≡ plus t (counts groups (p ∷ []))
add_one groups t p e h =
    let g = slice_index groups p in
    let below : g < group_count groups = group_below groups p h in
    plus-one (members groups (p ∷ [])) g g 0 t (members-one groups p) (omega arith) (omega arith)
    ∙ ap (λ n. plus t (map (members groups (p ∷ [])) (numbers 0 n))) e

-- its group has one more then
pub one_more : (groups t : List ℕ) (p : ℕ) → length t ≡ group_count groups → p < length groups →
    slice_index (plus t (counts groups (p ∷ []))) (slice_index groups p) ≡ slice_index t (slice_index groups p) + 1
one_more groups t p e h =
    let g = slice_index groups p in
    let below : g < group_count groups = group_below groups p h in
    ap (λ ns. slice_index ns g) (sym (add_one groups t p e h)) ∙ get_or-set_same t g (slice_index t g + 1) 0 (omega arith)

-- one piece less of its group
pub take_one : (groups t : List ℕ) (p : ℕ) → length t ≡ group_count groups → p < length groups →
    slice_set t (slice_index groups p) (slice_index t (slice_index groups p) - 1) ≡ minus t (counts groups (p ∷ []))
take_one groups t p e h =
    let g = slice_index groups p in
    let below : g < group_count groups = group_below groups p h in
    minus-one (members groups (p ∷ [])) g g 0 t (members-one groups p) (omega arith) (omega arith)
    ∙ ap (λ n. minus t (map (members groups (p ∷ [])) (numbers 0 n))) e

-- a piece that is there counts in its group
pub one_there : (groups t : List ℕ) (p : ℕ) → p < length groups → AtMost (counts groups (p ∷ [])) t → 1 ≤ slice_index t (slice_index groups p)
one_there groups t p h a =
    one-there (members groups (p ∷ [])) (slice_index groups p) (slice_index groups p) 0 (group_count groups) t
    (members-one groups p) (omega arith) (group_below groups p h) a

-- a tally keeps its length where pieces are added or taken off
pub length-added : (groups t xs : List ℕ) → length t ≡ group_count groups → length (plus t (counts groups xs)) ≡ group_count groups
length-added groups t xs e = length-plus t (counts groups xs) ∙ e

pub length-taken : (groups t xs : List ℕ) → length t ≡ group_count groups → length (minus t (counts groups xs)) ≡ group_count groups
length-taken groups t xs e = length-minus t (counts groups xs) ∙ e

-- no pieces are added
pub add_none : (groups t : List ℕ) → plus t (counts groups []) ≡ t
add_none groups t = plus-zeros (members groups []) 0 (group_count groups) t (λ k h. refl)

-- no pieces are taken off
pub take_none : (groups t : List ℕ) → minus t (counts groups []) ≡ t
take_none groups t = minus-zeros (members groups []) 0 (group_count groups) t (λ k h. refl)

-- of the group g there are as many in two lists as in both together
members-append : (groups xs ys : List ℕ) (g : ℕ) → members groups xs g + members groups ys g ≡ members groups (xs ++ ys) g
members-append groups xs ys g = sym (sum_by-append (λ i. cond (slice_index groups i == g) 1 0) xs ys)

-- pieces are added one list after the other
pub add_both : (groups t xs ys : List ℕ) → plus (plus t (counts groups xs)) (counts groups ys) ≡ plus t (counts groups (xs ++ ys))
add_both groups t xs ys =
    plus-twice (members groups xs) (members groups ys) (members groups (xs ++ ys)) t (numbers 0 (group_count groups)) (members-append groups xs ys)

-- pieces are taken off one list after the other
pub take_both : (groups t xs ys : List ℕ) → minus (minus t (counts groups xs)) (counts groups ys) ≡ minus t (counts groups (xs ++ ys))
take_both groups t xs ys =
    minus-twice (members groups xs) (members groups ys) (members groups (xs ++ ys)) t (numbers 0 (group_count groups)) (members-append groups xs ys)

-- where all pieces are there, those of the first list are
pub first_there : (groups t xs ys : List ℕ) → AtMost (counts groups (xs ++ ys)) t → AtMost (counts groups xs) t
first_there groups t xs ys a =
    AtMost-first (members groups xs) (members groups ys) (members groups (xs ++ ys)) t (numbers 0 (group_count groups)) (members-append groups xs ys) a

-- and once those are taken off, those of the second list are
pub second_there : (groups t xs ys : List ℕ) → AtMost (counts groups (xs ++ ys)) t → AtMost (counts groups ys) (minus t (counts groups xs))
second_there groups t xs ys a =
    AtMost-second (members groups xs) (members groups ys) (members groups (xs ++ ys)) t (numbers 0 (group_count groups)) (members-append groups xs ys) a

-- ---- room: numbers that stay below a limit, however many more pieces come
-- with so many pieces to come, no number gets past the limit
abbrev pub HasRoom : ℕ → ℕ → List ℕ → Type 0
HasRoom limit more t = All (λ n. n + more < limit) t

-- what holds of each number holds of the first one, and of the rest
All-first : (P : ℕ → Type 0) (m : ℕ) (t : List ℕ) → All P (m ∷ t) → P m
All-first P m t h = h 0 0 (omega arith)

All-rest : (P : ℕ → Type 0) (m : ℕ) (t : List ℕ) → All P (m ∷ t) → All P t
All-rest P m t h = λ k d l. h (suc k) d (omega arith)

-- a function that is at most `most` takes up at most that much room
room-plus : (limit most more : ℕ) (f : ℕ → ℕ) (t ks : List ℕ) → ((k : ℕ) → f k ≤ most) → HasRoom limit (most + more) t → HasRoom limit more (plus t (map f ks))
room-plus limit most more f [] ks b h = All-nil (λ n. n + more < limit)
room-plus limit most more f (m ∷ t) [] b h = λ k d l. let here : slice_index_or (m ∷ t) k d + (most + more) < limit = h k d l in omega arith
room-plus limit most more f (m ∷ t) (k ∷ ks) b h =
    All-cons (λ n. n + more < limit) (m + f k) (plus t (map f ks))
    (fits m (f k) (b k) (All-first (λ n. n + (most + more) < limit) m t h))
    (room-plus limit most more f t ks b (All-rest (λ n. n + (most + more) < limit) m t h))
  where
    fits : (m a : ℕ) → a ≤ most → m + (most + more) < limit → (m + a) + more < limit
    fits m a b h = omega arith

-- what is taken off takes up no room
room-minus : (limit more : ℕ) (f : ℕ → ℕ) (t ks : List ℕ) → HasRoom limit more t → HasRoom limit more (minus t (map f ks))
room-minus limit more f [] ks h = h
room-minus limit more f (m ∷ t) [] h = h
room-minus limit more f (m ∷ t) (k ∷ ks) h =
    All-cons (λ n. n + more < limit) (m - f k) (minus t (map f ks))
    (fits m (f k) (All-first (λ n. n + more < limit) m t h))
    (room-minus limit more f t ks (All-rest (λ n. n + more < limit) m t h))
  where
    fits : (m a : ℕ) → m + more < limit → (m - a) + more < limit
    fits m a h = omega arith

-- fewer pieces to come leave room too
pub room_fewer : (limit more fewer : ℕ) (t : List ℕ) → fewer ≤ more → HasRoom limit more t → HasRoom limit fewer t
room_fewer limit more fewer t le h = λ k d l. let here : slice_index_or t k d + more < limit = h k d l in omega arith

-- pieces take up no more room than there are of them
pub room_added : (limit most more : ℕ) (groups t xs : List ℕ) → length xs ≤ most → HasRoom limit (most + more) t → HasRoom limit more (plus t (counts groups xs))
room_added limit most more groups t xs le h =
    room-plus limit most more (members groups xs) t (numbers 0 (group_count groups))
    (λ g. let few : members groups xs g ≤ length xs = count_by-le-length (λ i. slice_index groups i == g) xs in omega arith) h

-- pieces that are taken off take up no room
pub room_taken : (limit more : ℕ) (groups t xs : List ℕ) → HasRoom limit more t → HasRoom limit more (minus t (counts groups xs))
room_taken limit more groups t xs h = room-minus limit more (members groups xs) t (numbers 0 (group_count groups)) h

-- ---- what was added can be taken off again
-- what was added number by number is there
plus-there : (t ns : List ℕ) → length t ≡ length ns → AtMost ns (plus t ns)
plus-there t [] e = tt
plus-there [] (n ∷ ns) e = absurd (omega arith)
plus-there (m ∷ t) (n ∷ ns) e = (omega arith, plus-there t ns (omega arith))

-- without it there is what was there before
plus-taken : (t ns : List ℕ) → minus (plus t ns) ns ≡ t
plus-taken [] ns = refl
plus-taken (m ∷ t) [] = refl
plus-taken (m ∷ t) (n ∷ ns) = ap (λ z. z ∷ minus (plus t ns) ns) (same m n) ∙ ap (λ zs. m ∷ zs) (plus-taken t ns)
  where
    same : (m n : ℕ) → (m + n) - n ≡ m
    same m n = omega arith

-- pieces that were added are there
pub added_there : (groups t xs : List ℕ) → length t ≡ group_count groups → AtMost (counts groups xs) (plus t (counts groups xs))
added_there groups t xs e = plus-there t (counts groups xs) (e ∙ sym (length-counts groups xs))

-- once they are taken off, the tally is what it was
pub added_taken : (groups t xs : List ℕ) → minus (plus t (counts groups xs)) (counts groups xs) ≡ t
added_taken groups t xs = plus-taken t (counts groups xs)

-- ---- all that was counted is taken off again
same_and_none : (xs : List ℕ) → SameNumbers (xs ++ []) xs
same_and_none xs = λ weight. ap (sum_by weight) (append-nil xs)

-- all pieces of a tally can be taken off
pub all_there : (groups xs : List ℕ) → AtMost (counts groups xs) (counts groups xs)
all_there groups xs = counts-part groups xs [] xs (same_and_none xs)

-- then nothing is counted
pub all_taken : (groups xs : List ℕ) → minus (counts groups xs) (counts groups xs) ≡ counts groups []
all_taken groups xs = counts-left groups xs [] xs (same_and_none xs)

-- ---- counts of nothing
zeros : (k n : ℕ) → map {B = ℕ} (λ _. 0) (numbers k n) ≡ replicate n 0
zeros k zero = refl
zeros k (suc n) = ap (λ ns. 0 ∷ ns) (zeros (k + 1) n)

pub counts_none : (groups : List ℕ) → counts groups [] ≡ replicate (group_count groups) 0
counts_none groups = zeros 0 (group_count groups)
