-- Lists of points one after another, tight lists, their edges and ends; counts and boxes of the points of several lists.
use Rattle.std.proofs.Common.{◌≡◌, refl, ap, sym, ◌∙◌, subst, ℕ, suc, ◌+◌, ◌≤◌, min, arith, Bool, true, false, cond, not, ◌&&◌, List, [], ◌∷◌, ◌++◌, length, map, take, slice_index_or, ◌<◌}
use Rattle.std.specs.Prelude.{ℤ, None, Some, if◌then◌else◌}
use Rattle.std.specs.List.{dedup, dedup_from, flat_map, fold}
use Rattle.std.specs.Int.{int_max, int_min}
use Rattle.std.specs.Ordering.{int_eq}
use Rattle.std.proofs.lemmas.List.{append-nil, append_assoc, length-append, take_more}
use Rattle.std.proofs.lemmas.List.Sums.{fold-append}
use Rattle.std.proofs.lemmas.Grind.{flat_map-append}
use Rattle.std.proofs.lemmas.Int.{ints}
use Rattle.std.proofs.lemmas.Bool.{and_parts, false≢true}
use Rattle.sf_grid.specs.Plane.{Coordinates}
use Rattle.sf_grid.specs.Edge.{Edge, edge_between}
use Rattle.sf_grid.proofs.CallerLemmas.{eq_from_test, same_coordinates}
use Rattle.sf_geometry.specs.declared.extent.Extent.{Extent}
use Rattle.sf_geometry.specs.Envelope.{extent_at, extent_of, extent_with, grown}
use Rattle.sf_geometry.specs.Lists.{before_tight, edges_between, edges_from, edges_of, ends_of, is_same, last_from, tight}
use Rattle.sf_geometry.specs.Parts.{joined}

-- ---- one point
pub same-is : (p q : Coordinates) → is_same p q ≡ true → p ≡ q
same-is p q h =
    let parts = and_parts (int_eq p.x q.x) (int_eq p.y q.y) h in
    same_coordinates p q (eq_from_test p.x q.x parts.0) (eq_from_test p.y q.y parts.1)

-- ---- tight lists
-- the list begins with p
record BeginsWith (p : Coordinates) (ps : List Coordinates) : Type 0 where
  pub rest : List Coordinates
  pub is : ps ≡ p ∷ rest

before-begins : (p : Coordinates) (qs : List Coordinates) → BeginsWith p (before_tight p qs)
before-begins p [] = record { rest = []; is = refl }
before-begins p (q ∷ qs) = by_same (is_same p q) refl
  where
    by_same : (t : Bool) → is_same p q ≡ t → BeginsWith p (if t then q ∷ qs else p ∷ q ∷ qs)
    by_same true h = record { rest = qs; is = ap (λ r. r ∷ qs) (sym (same-is p q h)) }
    by_same false h = record { rest = q ∷ qs; is = refl }

tight-begins : (p : Coordinates) (ps : List Coordinates) → BeginsWith p (tight (p ∷ ps))
tight-begins p ps = before-begins p (tight ps)

pub tight-step : (p q : Coordinates) (qs : List Coordinates) → tight (p ∷ q ∷ qs) ≡ (if is_same p q then tight (q ∷ qs) else p ∷ tight (q ∷ qs))
tight-step p q qs =
    let t = tight-begins q qs in
    let P : List Coordinates → Type 0 = λ ts. before_tight p ts ≡ (if is_same p q then ts else p ∷ ts) in
    subst P (sym t.is) refl

-- how long a tight list is, as its first point is passed
pub tight_length-same : (p q : Coordinates) (qs : List Coordinates) → is_same p q ≡ true → length (tight (p ∷ q ∷ qs)) ≡ length (tight (q ∷ qs))
tight_length-same p q qs h = ap length (tight-step p q qs ∙ ap (λ b. if b then tight (q ∷ qs) else p ∷ tight (q ∷ qs)) h)

pub tight_length-other : (p q : Coordinates) (qs : List Coordinates) → is_same p q ≡ false → length (tight (p ∷ q ∷ qs)) ≡ length (tight (q ∷ qs)) + 1
tight_length-other p q qs h =
    ap length (tight-step p q qs ∙ ap (λ b. if b then tight (q ∷ qs) else p ∷ tight (q ∷ qs)) h) ∙ one_more (length (tight (q ∷ qs)))
  where
    one_more : (n : ℕ) → suc n ≡ n + 1
    one_more n = omega arith

-- what `dedup` leaves
int_eq-flipped : (a b : ℤ) → int_eq a b ≡ int_eq b a
int_eq-flipped a b = grind (arith, ints)

same-flipped : (p q : Coordinates) → is_same p q ≡ is_same q p
same-flipped p q = ap (λ t. t && int_eq p.y q.y) (int_eq-flipped p.x q.x) ∙ ap (λ t. int_eq q.x p.x && t) (int_eq-flipped p.y q.y)

pub dedup-tight : (ps : List Coordinates) → dedup is_same ps ≡ tight ps
dedup-tight [] = refl
dedup-tight (p ∷ ps) = from p ps
  where
    from : (p : Coordinates) (ps : List Coordinates) → dedup_from is_same p ps ≡ tight (p ∷ ps)
    from p [] = refl
    from p (q ∷ qs) = by_same (is_same p q) refl (from q qs) (from p qs)
      where
        by_same : (t : Bool) → is_same p q ≡ t → dedup_from is_same q qs ≡ tight (q ∷ qs) → dedup_from is_same p qs ≡ tight (p ∷ qs) →
            cond (is_same q p) (dedup_from is_same p qs) (p ∷ dedup_from is_same q qs) ≡ tight (p ∷ q ∷ qs)
        by_same true h there here =
            ap (λ b. cond b (dedup_from is_same p qs) (p ∷ dedup_from is_same q qs)) (same-flipped q p ∙ h)
            ∙ here
            ∙ ap (λ r. tight (r ∷ qs)) (same-is p q h)
            ∙ sym (tight-step p q qs ∙ ap (λ b. if b then tight (q ∷ qs) else p ∷ tight (q ∷ qs)) h)
        by_same false h there here =
            ap (λ b. cond b (dedup_from is_same p qs) (p ∷ dedup_from is_same q qs)) (same-flipped q p ∙ h)
            ∙ ap (λ rs. p ∷ rs) there
            ∙ sym (tight-step p q qs ∙ ap (λ b. if b then tight (q ∷ qs) else p ∷ tight (q ∷ qs)) h)

-- ---- edges
pub edges-step : (p q : Coordinates) (qs : List Coordinates) → edges_of (p ∷ q ∷ qs) ≡ (if is_same p q then edges_of (q ∷ qs) else edge_between p q ∷ edges_of (q ∷ qs))
edges-step p q qs = by_same (is_same p q) refl
  where
    begins : BeginsWith q (tight (q ∷ qs))
    begins = tight-begins q qs

    first_edge : edges_from p (tight (q ∷ qs)) ≡ edge_between p q ∷ edges_of (q ∷ qs)
    first_edge = let P : List Coordinates → Type 0 = λ ts. edges_from p ts ≡ edge_between p q ∷ edges_between ts in subst P (sym begins.is) refl

    by_same : (t : Bool) → is_same p q ≡ t → edges_of (p ∷ q ∷ qs) ≡ (if t then edges_of (q ∷ qs) else edge_between p q ∷ edges_of (q ∷ qs))
    by_same true h = ap edges_between (tight-step p q qs ∙ ap (λ b. if b then tight (q ∷ qs) else p ∷ tight (q ∷ qs)) h)
    by_same false h = ap edges_between (tight-step p q qs ∙ ap (λ b. if b then tight (q ∷ qs) else p ∷ tight (q ∷ qs)) h) ∙ first_edge

-- the edges of what is left of a list, behind those that were found, as its first point is passed
pub edges-same : (es : List Edge) (p q : Coordinates) (qs : List Coordinates) → is_same p q ≡ true → es ++ edges_of (q ∷ qs) ≡ es ++ edges_of (p ∷ q ∷ qs)
edges-same es p q qs h =
    ap (λ fs. es ++ fs) (sym (edges-step p q qs ∙ ap (λ b. if b then edges_of (q ∷ qs) else edge_between p q ∷ edges_of (q ∷ qs)) h))

pub edges-other : (es : List Edge) (p q : Coordinates) (qs : List Coordinates) → is_same p q ≡ false →
    (es ++ edge_between p q ∷ []) ++ edges_of (q ∷ qs) ≡ es ++ edges_of (p ∷ q ∷ qs)
edges-other es p q qs h =
    append_assoc es (edge_between p q ∷ []) (edges_of (q ∷ qs))
    ∙ ap (λ fs. es ++ fs) (sym (edges-step p q qs ∙ ap (λ b. if b then edges_of (q ∷ qs) else edge_between p q ∷ edges_of (q ∷ qs)) h))

pub not-true : (b : Bool) → not b ≡ true → b ≡ false
not-true true h = absurd (false≢true h)
not-true false h = refl

pub not-false : (b : Bool) → not b ≡ false → b ≡ true
not-false true h = refl
not-false false h = absurd (false≢true (sym h))

-- ---- ends
pub last-pushed : (p : Coordinates) (ps : List Coordinates) (q : Coordinates) → last_from p (ps ++ q ∷ []) ≡ q
last-pushed p [] q = refl
last-pushed p (r ∷ ps) q = last-pushed r ps q

-- a line with a first and a last point
pub ends-open : (p : Coordinates) (ps : List Coordinates) → is_same p (last_from p ps) ≡ false → ends_of (p ∷ ps) ≡ p ∷ last_from p ps ∷ []
ends-open p ps h = ap (λ b. if b then [] else p ∷ last_from p ps ∷ []) h

pub ends-closed : (p : Coordinates) (ps : List Coordinates) → is_same p (last_from p ps) ≡ true → ends_of (p ∷ ps) ≡ []
ends-closed p ps h = ap (λ b. if b then [] else p ∷ last_from p ps ∷ []) h

-- ---- what is folded over lists one after another
pub fold-joined : {A B : Type 0} (f : B → A → B) (a : B) (xss : List (List A)) → fold (λ b xs. fold f b xs) a xss ≡ fold f a (joined xss)
fold-joined f a [] = refl
fold-joined f a (xs ∷ xss) = fold-joined f (fold f a xs) xss ∙ sym (fold-append f a xs (joined xss))

pub fold-joined_twice : {A B : Type 0} (f : B → A → B) (a : B) (xsss : List (List (List A))) → fold (λ b xss. fold f b (joined xss)) a xsss ≡ fold f a (joined (joined xsss))
fold-joined_twice f a [] = refl
fold-joined_twice f a (xss ∷ xsss) =
    fold-joined_twice f (fold f a (joined xss)) xsss
    ∙ sym (fold-append f a (joined xss) (joined (joined xsss)))
    ∙ ap (λ xs. fold f a xs) (sym (flat_map-append (λ xs. xs) xss (joined xsss)))

-- ---- counts that stop at the greatest number
within-sum : (a b c m : ℕ) → min (min (a + b) m + c) m ≡ min (a + (b + c)) m
within-sum a b c m = omega arith

pub count-joined : {A : Type 0} (m a : ℕ) (xss : List (List A)) → a ≤ m → fold (λ (n : ℕ) xs. min (n + length xs) m) a xss ≡ min (a + length (joined xss)) m
count-joined m a [] h = omega arith
count-joined m a (xs ∷ xss) h =
    count-joined m (min (a + length xs) m) xss (omega arith)
    ∙ within-sum a (length xs) (length (joined xss)) m
    ∙ ap (λ n. min (a + n) m) (sym (length-append xs (joined xss)))

within-twice : (a b c m : ℕ) → min (min (a + min b m) m + c) m ≡ min (a + (b + c)) m
within-twice a b c m = omega arith

pub count-joined_twice : {A : Type 0} (m a : ℕ) (xsss : List (List (List A))) → a ≤ m →
    fold (λ (n : ℕ) xss. min (n + min (length (joined xss)) m) m) a xsss ≡ min (a + length (joined (joined xsss))) m
count-joined_twice m a [] h = omega arith
count-joined_twice m a (xss ∷ xsss) h =
    count-joined_twice m (min (a + min (length (joined xss)) m) m) xsss (omega arith)
    ∙ within-twice a (length (joined xss)) (length (joined (joined xsss))) m
    ∙ ap (λ n. min (a + n) m) (sym (length-append (joined xss) (joined (joined xsss))))
    ∙ ap (λ xs. min (a + length xs) m) (sym (flat_map-append (λ xs. xs) xss (joined xsss)))

-- ---- boxes
grown-from : (e : Extent) (ps : List Coordinates) → fold grown (Some e) ps ≡ Some (record {
  min_x = fold int_min e.min_x (map (λ (p : Coordinates). p.x) ps);
  min_y = fold int_min e.min_y (map (λ (p : Coordinates). p.y) ps);
  max_x = fold int_max e.max_x (map (λ (p : Coordinates). p.x) ps);
  max_y = fold int_max e.max_y (map (λ (p : Coordinates). p.y) ps);
})
grown-from e [] = refl
grown-from e (p ∷ ps) = grown-from (extent_with e p) ps

pub grown-all : (p : Coordinates) (ps : List Coordinates) → fold grown None (p ∷ ps) ≡ Some (extent_of (p ∷ ps))
grown-all p ps = grown-from (extent_at p) ps

-- ---- loops over lists: one more of them, and all of them
pub flat_map-more : {X Y : Type 0} (f : X → List Y) (xs : List X) (i : ℕ) (x : X) → i < length xs → x ≡ slice_index_or xs i x →
    flat_map f (take (i + 1) xs) ≡ flat_map f (take i xs) ++ f x
flat_map-more f xs i x h e =
    ap (λ ys. flat_map f ys) (take_more xs i x h)
    ∙ flat_map-append f (take i xs) (slice_index_or xs i x ∷ [])
    ∙ ap (λ ys. flat_map f (take i xs) ++ ys) (append-nil (f (slice_index_or xs i x)) ∙ ap f (sym e))

pub fold-more : {A B : Type 0} (f : B → A → B) (a : B) (xss : List (List A)) (i : ℕ) (xs : List A) → i < length xss → xs ≡ slice_index_or xss i xs →
    fold f (fold f a (joined (take i xss))) xs ≡ fold f a (joined (take (i + 1) xss))
fold-more f a xss i xs h e =
    sym (fold-append f a (joined (take i xss)) xs) ∙ ap (λ ys. fold f a ys) (sym (flat_map-more (λ ys. ys) xss i xs h e))

pub fold-more_twice : {A B : Type 0} (f : B → A → B) (a : B) (xsss : List (List (List A))) (i : ℕ) (xss : List (List A)) → i < length xsss → xss ≡ slice_index_or xsss i xss →
    fold f (fold f a (joined (joined (take i xsss)))) (joined xss) ≡ fold f a (joined (joined (take (i + 1) xsss)))
fold-more_twice f a xsss i xss h e =
    sym (fold-append f a (joined (joined (take i xsss))) (joined xss))
    ∙ ap (λ ys. fold f a ys) (sym (flat_map-append (λ ys. ys) (joined (take i xsss)) xss))
    ∙ ap (λ yss. fold f a (joined yss)) (sym (flat_map-more (λ ys. ys) xsss i xss h e))

pub pushed-more : {X Y : Type 0} (f : X → List Y) (base ys zs : List Y) (xs : List X) (i : ℕ) (x : X) → i < length xs → x ≡ slice_index_or xs i x →
    ys ≡ base ++ flat_map f (take i xs) → zs ≡ ys ++ f x → zs ≡ base ++ flat_map f (take (i + 1) xs)
pushed-more f base ys zs xs i x h e before now =
    now
    ∙ ap (λ us. us ++ f x) before
    ∙ append_assoc base (flat_map f (take i xs)) (f x)
    ∙ ap (λ us. base ++ us) (sym (flat_map-more f xs i x h e))

pub flat_map-joined : {X Y : Type 0} (f : X → List Y) (xss : List (List X)) → flat_map (λ xs. flat_map f xs) xss ≡ flat_map f (joined xss)
flat_map-joined f [] = refl
flat_map-joined f (xs ∷ xss) = ap (λ ys. flat_map f xs ++ ys) (flat_map-joined f xss) ∙ sym (flat_map-append f xs (joined xss))
