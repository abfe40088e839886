-- One more box gets a colour.
use Rattle.std.proofs.Common.{◌≡◌, refl, ap, sym, ◌∙◌, subst, ℕ, suc, ◌+◌, ◌<◌, ◌≤◌, arith, min, Bool, true, false, cond, not, List, [], ◌∷◌, ◌++◌, map, length, take, slice_index, slice_index_or, Option, Some, None, is_some}
use Rattle.std.specs.Option.{unwrap_or}
use Rattle.std.specs.List.{All, AllByRecursion, count_by, position, zip}
use Rattle.std.proofs.lemmas.Bool.{both_ways}
use Rattle.std.proofs.lemmas.List.{get_or-take, length-append, length-take, take_more}
use Rattle.std.proofs.lemmas.List.Elements.{All-from_recursion}
use Rattle.std.proofs.lemmas.List.Quantifiers.{position-Some}
use Rattle.std.proofs.lemmas.List.Sums.{sum_by-append}
use Rattle.sf_geometry.specs.declared.extent.Extent.{Extent}
use Rattle.sf_slabs.proofs.CallerLemmas.{each-append, each-map}
use Rattle.sf_polygons.specs.Colours.{AreApart, AreFew, Coloured, IsColouring, do_meet}
use Rattle.sf_polygons.proofs.TestLaws.{count-cons, count-map}

less : (m n : ℕ) → suc m ≡ suc n → m ≡ n
less m n e = omega (arith, e)

-- ---- two lists side by side
pub firsts : {A B : Type 0} (xs : List A) (ys : List B) → length ys ≡ length xs → map (λ (z : A × B). z.0) (zip xs ys) ≡ xs
firsts [] ys e = refl
firsts (x ∷ xs) [] e = absurd (omega (arith, e))
firsts (x ∷ xs) (y ∷ ys) e = ap (λ zs. x ∷ zs) (firsts xs ys (less (length ys) (length xs) e))

pub seconds : {A B : Type 0} (xs : List A) (ys : List B) → length ys ≡ length xs → map (λ (z : A × B). z.1) (zip xs ys) ≡ ys
seconds [] [] e = refl
seconds [] (y ∷ ys) e = absurd (omega (arith, e))
seconds (x ∷ xs) [] e = refl
seconds (x ∷ xs) (y ∷ ys) e = ap (λ zs. y ∷ zs) (seconds xs ys (less (length ys) (length xs) e))

zip-more : {A B : Type 0} (xs : List A) (ys : List B) (x : A) (y : B) → length ys ≡ length xs → zip (xs ++ x ∷ []) (ys ++ y ∷ []) ≡ zip xs ys ++ (x, y) ∷ []
zip-more [] [] x y e = refl
zip-more [] (w ∷ ys) x y e = absurd (omega (arith, e))
zip-more (v ∷ xs) [] x y e = absurd (omega (arith, e))
zip-more (v ∷ xs) (w ∷ ys) x y e = ap (λ zs. (v, w) ∷ zs) (zip-more xs ys x y (less (length ys) (length xs) e))

zip-each : {A : Type 0} (P : A × ℕ → Type 0) (d : A) (xs : List A) (ys : List ℕ) → ((k : ℕ) → k < length xs → k < length ys → P (slice_index_or xs k d, slice_index ys k)) →
    AllByRecursion P (zip xs ys)
zip-each P d [] ys h = tt
zip-each P d (x ∷ xs) [] h = tt
zip-each P d (x ∷ xs) (y ∷ ys) h = (h 0 (first (length xs)) (first (length ys)), zip-each P d xs ys (λ k l m. h (suc k) (next k (length xs) l) (next k (length ys) m)))
  where
    first : (n : ℕ) → 0 < suc n
    first n = omega arith

    next : (k n : ℕ) → k < n → suc k < suc n
    next k n l = omega (arith, l)

-- ---- colours of the boxes so far
abbrev there : Coloured → Bool
there z = is_some z.0

few-below : (n : ℕ) (zs : List Coloured) → AreFew n zs → AllByRecursion (λ (z : Coloured). z.1 < n + length zs) zs
few-below n [] h = tt
few-below n (z ∷ zs) h = (
  first z.1 n (length zs) h.0,
  each-map (λ (y : Coloured). y.1 < n + cond (there z) 1 0 + length zs) (λ (y : Coloured). y.1 < n + suc (length zs)) zs (λ y l. next (there z) y.1 n (length zs) l) (few-below (n + cond (there z) 1 0) zs h.1),
)
  where
    first : (c n l : ℕ) → c ≤ n → c < n + suc l
    first c n l h = omega (arith, h)

    next : (b : Bool) (c n l : ℕ) → c < n + cond b 1 0 + l → c < n + suc l
    next true c n l h = omega (arith, h)
    next false c n l h = omega (arith, h)

-- a box that is there has a colour below the number of those up to it
few-strict : (n : ℕ) (zs : List Coloured) → AreFew n zs → AllByRecursion (λ (z : Coloured). there z ≡ true → z.1 < n + count_by there zs) zs
few-strict n [] h = tt
few-strict n (z ∷ zs) h = (
  λ t. subst (λ k. z.1 < n + k) (sym (count-cons there z zs ∙ ap (λ b. cond b 1 0 + count_by there zs) t)) (first z.1 n (count_by there zs) h.0),
  each-map (λ (y : Coloured). there y ≡ true → y.1 < n + cond (there z) 1 0 + count_by there zs) (λ (y : Coloured). there y ≡ true → y.1 < n + count_by there (z ∷ zs)) zs
      (λ y l t. subst (λ k. y.1 < n + k) (sym (count-cons there z zs)) (next y.1 n (cond (there z) 1 0) (count_by there zs) (l t)))
      (few-strict (n + cond (there z) 1 0) zs h.1),
)
  where
    first : (c n l : ℕ) → c ≤ n → c < n + (1 + l)
    first c n l h = omega (arith, h)

    next : (c n b l : ℕ) → c < n + b + l → c < n + (b + l)
    next c n b l h = omega (arith, h)

few-more : (n : ℕ) (zs : List Coloured) (z : Coloured) → AreFew n zs → z.1 ≤ n + count_by there zs → AreFew n (zs ++ z ∷ [])
few-more n [] z h k = (none z.1 n k, tt)
  where
    none : (c n : ℕ) → c ≤ n + 0 → c ≤ n
    none c n h = omega (arith, h)
few-more n (y ∷ zs) z h k = (h.0, few-more (n + cond (there y) 1 0) zs z h.1 (next z.1 n (cond (there y) 1 0) (count_by there zs) (subst (λ m. z.1 ≤ n + m) (count-cons there y zs) k)))
  where
    next : (c n b l : ℕ) → c ≤ n + (b + l) → c ≤ n + b + l
    next c n b l h = omega (arith, h)

apart-more : (zs : List Coloured) (z : Coloured) → AreApart zs → AllByRecursion (λ (y : Coloured). y.1 ≡ z.1 → do_meet y.0 z.0 ≡ false) zs → AreApart (zs ++ z ∷ [])
apart-more [] z h k = (tt, tt)
apart-more (y ∷ zs) z h k = (each-append (λ (d : Coloured). y.1 ≡ d.1 → do_meet y.0 d.0 ≡ false) zs (z ∷ []) h.0 (k.0, tt), apart-more zs z h.1 k.1)

-- ---- the next colour
pub each-below : (boxes : List (Option Extent)) (colours : List ℕ) → IsColouring boxes colours → AllByRecursion (λ c. c < length boxes) colours
each-below boxes colours h =
    subst (AllByRecursion (λ c. c < length boxes)) (seconds boxes colours h.one_each)
    (moved (zip boxes colours)
    (each-map (λ (z : Coloured). z.1 < 0 + length (zip boxes colours)) (λ (z : Coloured). z.1 < length boxes) (zip boxes colours)
    (λ z k. up z.1 (length (zip boxes colours)) (length boxes) k (shorter boxes colours)) (few-below 0 (zip boxes colours) h.few)))
  where
    moved : (zs : List Coloured) → AllByRecursion (λ (z : Coloured). z.1 < length boxes) zs → AllByRecursion (λ c. c < length boxes) (map (λ (z : Coloured). z.1) zs)
    moved [] k = tt
    moved (z ∷ zs) k = (k.0, moved zs k.1)

    shorter : (xs : List (Option Extent)) (ys : List ℕ) → length (zip xs ys) ≤ length xs
    shorter [] ys = omega arith
    shorter (x ∷ xs) [] = omega arith
    shorter (x ∷ xs) (y ∷ ys) = suc-le (length (zip xs ys)) (length xs) (shorter xs ys)
      where
        suc-le : (m k : ℕ) → m ≤ k → suc m ≤ suc k
        suc-le m k e = omega (arith, e)

    up : (c m l : ℕ) → c < 0 + m → m ≤ l → c < l
    up c m l h k = omega (arith, h, k)

pub below-all : (boxes : List (Option Extent)) (n : ℕ) (colours : List ℕ) → IsColouring (take n boxes) colours → All (λ c. c < length boxes) colours
below-all boxes n colours h =
    All-from_recursion (λ c. c < length boxes) colours
    (each-map (λ c. c < length (take n boxes)) (λ c. c < length boxes) colours (λ c k. up c (length (take n boxes)) (length boxes) k (length-take n boxes)) (each-below (take n boxes) colours h))
  where
    up : (c m l : ℕ) → c < m → m ≡ min n l → c < l
    up c m l k e = omega (arith, k, e)

-- a colour that none of the boxes has which meet this one, and that is at most how many are there
record IsFree (zs : List Coloured) (extent : Option Extent) (colour : ℕ) : Type 0 where
  pub few : colour ≤ count_by there zs
  pub apart : AllByRecursion (λ (z : Coloured). z.1 ≡ colour → do_meet z.0 extent ≡ false) zs

none-meets : (b : Bool) → (b ≡ true → ⊥) → b ≡ false
none-meets true h = absurd (h refl)
none-meets false h = refl

not-there : (a b : Option Extent) → (is_some a ≡ true → ⊥) → do_meet a b ≡ false
not-there None b h = refl
not-there (Some a) b h = absurd (h refl)

free : (zs : List Coloured) (extent : Option Extent) (taken : List Bool) (earlier : ℕ) (found : Option ℕ) → found ≡ position not (take earlier taken)
    → earlier ≡ count_by there zs → AreFew 0 zs
    → AllByRecursion (λ (z : Coloured). do_meet z.0 extent ≡ true → slice_index_or taken z.1 false ≡ true) zs → IsFree zs extent (unwrap_or found earlier)
free zs extent taken earlier None f e few marked =
    record {
      few = omega (arith, e);
      apart = each-map (λ (z : Coloured). there z ≡ true → z.1 < 0 + count_by there zs) (λ (z : Coloured). z.1 ≡ earlier → do_meet z.0 extent ≡ false) zs
          (λ z h k. not-there z.0 extent (λ t. beyond z.1 (count_by there zs) (h t) (k ∙ e))) (few-strict 0 zs few);
    }
  where
    beyond : (c n : ℕ) → c < 0 + n → c ≡ n → ⊥
    beyond c n h k = omega (arith, h, k)
free zs extent taken earlier (Some c) f e few marked =
    let p = position-Some not (take earlier taken) c false (sym f) in
    let l = length-take earlier taken in
    let below : c < earlier = least c (length (take earlier taken)) earlier (length taken) p.0 l in
    let open_place : slice_index_or taken c false ≡ false = opened (slice_index_or taken c false) (ap not (sym (get_or-take earlier taken c false below)) ∙ p.1) in
    record {
      few = omega (arith, below, e);
      apart = each-map (λ (z : Coloured). do_meet z.0 extent ≡ true → slice_index_or taken z.1 false ≡ true) (λ (z : Coloured). z.1 ≡ c → do_meet z.0 extent ≡ false) zs
          (λ z h k. none-meets (do_meet z.0 extent) (λ t. both_ways (slice_index_or taken c false) open_place (ap (λ m. slice_index_or taken m false) (sym k) ∙ h t))) marked;
    }
  where
    least : (c m n l : ℕ) → c < m → m ≡ min n l → c < n
    least c m n l h k = omega (arith, h, k)

    opened : (b : Bool) → not b ≡ true → b ≡ false
    opened true h = sym h
    opened false h = refl

pub coloured-more : (boxes : List (Option Extent)) (n : ℕ) (colours : List ℕ) (taken : List Bool) (earlier : ℕ) (extent : Option Extent) (found : Option ℕ) (colour : ℕ)
    → n < length boxes → extent ≡ slice_index_or boxes n None
    → IsColouring (take n boxes) colours → earlier ≡ count_by is_some (take n boxes)
    → ((k : ℕ) → k < length boxes → k < length colours → do_meet (slice_index_or boxes k None) extent ≡ true → slice_index_or taken (slice_index colours k) false ≡ true)
    → found ≡ position not (take earlier taken) → colour ≡ unwrap_or found earlier
    → IsColouring (take (n + 1) boxes) (colours ++ colour ∷ [])
coloured-more boxes n colours taken earlier extent found colour l x h e marked f c =
    let zs = zip (take n boxes) colours in
    let counted : count_by is_some (take n boxes) ≡ count_by there zs = ap (count_by is_some) (sym (firsts (take n boxes) colours h.one_each)) ∙ count-map is_some (λ (z : Coloured). z.0) zs in
    let is_free = free zs extent taken earlier found f (e ∙ counted) h.few
    (zip-each (λ (z : Coloured). do_meet z.0 extent ≡ true → slice_index_or taken z.1 false ≡ true) None (take n boxes) colours
    (λ k a b t. marked k (before k n (length boxes) (length (take n boxes)) a (length-take n boxes)) b
    (ap (λ o. do_meet o extent) (sym (get_or-take n boxes k None (within k n (length boxes) (length (take n boxes)) a (length-take n boxes)))) ∙ t))) in
    let at : take n boxes ++ extent ∷ [] ≡ take (n + 1) boxes = ap (λ o. take n boxes ++ o ∷ []) x ∙ sym (take_more boxes n None l) in
    let grown : zs ++ (extent, colour) ∷ [] ≡ zip (take (n + 1) boxes) (colours ++ colour ∷ []) =
    sym (zip-more (take n boxes) colours extent colour h.one_each) ∙ ap (λ os. zip os (colours ++ colour ∷ [])) at in
    record {
      one_each = length-append colours (colour ∷ []) ∙ ap (λ k. k + 1) h.one_each ∙ sym (ap length (sym at) ∙ length-append (take n boxes) (extent ∷ []));
      few = subst (AreFew 0) grown (few-more 0 zs (extent, colour) h.few (subst (λ k. k ≤ 0 + count_by there zs) (sym c) (zero-le (unwrap_or found earlier) (count_by there zs) is_free.few)));
      apart = subst AreApart grown (apart-more zs (extent, colour) h.apart (subst (λ k. AllByRecursion (λ (z : Coloured). z.1 ≡ k → do_meet z.0 extent ≡ false) zs) (sym c) is_free.apart));
    }
  where
    before : (k n l m : ℕ) → k < m → m ≡ min n l → k < l
    before k n l m h e = omega (arith, h, e)

    within : (k n l m : ℕ) → k < m → m ≡ min n l → k < n
    within k n l m h e = omega (arith, h, e)

    zero-le : (a b : ℕ) → a ≤ b → a ≤ 0 + b
    zero-le a b h = omega (arith, h)

pub there-more : (boxes : List (Option Extent)) (n earlier next : ℕ) (b : Bool) → n < length boxes → earlier ≡ count_by is_some (take n boxes)
    → b ≡ is_some (slice_index_or boxes n None) → next ≡ earlier + cond b 1 0 → next ≡ count_by is_some (take (n + 1) boxes)
there-more boxes n earlier next b l e t h =
    let one : (o : Option Extent) → count_by is_some (o ∷ []) ≡ cond (is_some o) 1 0 = λ o. count-cons is_some o [] ∙ none (cond (is_some o) 1 0) in
    h
    ∙ ap (λ k. k + cond b 1 0) e
    ∙ ap (λ c. count_by is_some (take n boxes) + cond c 1 0) t
    ∙ ap (λ k. count_by is_some (take n boxes) + k) (sym (one (slice_index_or boxes n None)))
    ∙ sym (sum_by-append (λ (o : Option Extent). cond (is_some o) 1 0) (take n boxes) (slice_index_or boxes n None ∷ []))
    ∙ ap (count_by is_some) (sym (take_more boxes n None l))
  where
    none : (k : ℕ) → k + 0 ≡ k
    none k = omega arith
