-- The heights at which pieces meet a column are numbers, and the same ones however the column's place is written.
use Rattle.std.proofs.Common.{◌≡◌, refl, ap, sym, ◌∙◌, ℤ, pos, ◌+ℤ◌, ◌-ℤ◌, ◌*ℤ◌, lit<, Bool, true, false, List, [], ◌∷◌, ◌++◌, unsigned_abs}
use Rattle.std.specs.Prelude.{if◌then◌else◌}
use Rattle.std.specs.List.{AllByRecursion, flat_map}
use Rattle.std.specs.Int.{int_max, int_min}
use Rattle.sf_grid.specs.Fraction.{Fraction, IsFraction, fraction_eq, whole}
use Rattle.sf_grid.specs.Plane.{Coordinates}
use Rattle.sf_grid.specs.Edge.{Edge as Line, edge_between, height_at, is_vertical, left_end, reaches, right_end}
use Rattle.sf_grid.proofs.CallerLemmas.{Same, dif, eq_from_test, height-IsFraction, mul, ring, same_tests, sum, test_from_eq, var, within-same}
use Rattle.sf_strips.specs.declared.piece.Piece.{Piece}
use Rattle.sf_strips.specs.declared.piece.Piece.TheVariants.{Dot, Edge}
use Rattle.sf_cells.specs.Pieces.{heights_of, if_in_column}
use Rattle.sf_slabs.proofs.NumberLaws.{Numbers, Pairs, Same-trans}
use Rattle.sf_slabs.proofs.SampleLaws.{if_cases}
use Rattle.sf_slabs.proofs.EachLaws.{each-append}

-- ---- lists one after another
pub Each-flat_map : {A : Type 0} (P : Fraction → Type 0) (f : A → List Fraction) (xs : List A) → ((x : A) → AllByRecursion P (f x)) → AllByRecursion P (flat_map f xs)
Each-flat_map P f [] h = tt
Each-flat_map P f (x ∷ xs) h = each-append P (f x) (flat_map f xs) (h x) (Each-flat_map P f xs h)

pub Pairs-append : {A : Type 0} (R : A → A → Type 0) (ps qs rs ss : List A) → Pairs R ps rs → Pairs R qs ss → Pairs R (ps ++ qs) (rs ++ ss)
Pairs-append R [] qs [] ss h k = k
Pairs-append R [] qs (r ∷ rs) ss h k = absurd h
Pairs-append R (p ∷ ps) qs [] ss h k = absurd h
Pairs-append R (p ∷ ps) qs (r ∷ rs) ss h k = (h.0, Pairs-append R ps qs rs ss h.1 k)

pub Pairs-flat_map : {A B : Type 0} (R : B → B → Type 0) (f g : A → List B) (xs : List A) → ((x : A) → Pairs R (f x) (g x)) → Pairs R (flat_map f xs) (flat_map g xs)
Pairs-flat_map R f g [] h = tt
Pairs-flat_map R f g (x ∷ xs) h = Pairs-append R (f x) (flat_map f xs) (g x) (flat_map g xs) (h x) (Pairs-flat_map R f g xs h)

-- ---- a height at a place
pub height_at-same : (e : Line) (x x' : Fraction) → Same x x' → Same (height_at e x) (height_at e x')
height_at-same e x x' h =
    ring (u.x ∷ u.y ∷ v.x ∷ v.y ∷ x.num ∷ pos x.den ∷ pos x'.den ∷ k ∷ [])
    (mul (sum (mul (mul (var 1) (var 5)) (dif (var 2) (var 0))) (mul (dif (var 3) (var 1)) (dif (var 4) (mul (var 0) (var 5))))) (mul (var 7) (var 6)))
    (mul (var 7) (sum (mul (mul (mul (var 1) (var 5)) (dif (var 2) (var 0))) (var 6)) (mul (dif (var 3) (var 1)) (dif (mul (var 4) (var 6)) (mul (mul (var 0) (var 5)) (var 6))))))
    refl
    ∙ ap (λ z. k *ℤ (u.y *ℤ pos x.den *ℤ (v.x -ℤ u.x) *ℤ pos x'.den +ℤ (v.y -ℤ u.y) *ℤ (z -ℤ u.x *ℤ pos x.den *ℤ pos x'.den))) h
    ∙ ring (u.x ∷ u.y ∷ v.x ∷ v.y ∷ x'.num ∷ pos x.den ∷ pos x'.den ∷ k ∷ [])
    (mul (var 7) (sum (mul (mul (mul (var 1) (var 5)) (dif (var 2) (var 0))) (var 6)) (mul (dif (var 3) (var 1)) (dif (mul (var 4) (var 5)) (mul (mul (var 0) (var 5)) (var 6))))))
    (mul (sum (mul (mul (var 1) (var 6)) (dif (var 2) (var 0))) (mul (dif (var 3) (var 1)) (dif (var 4) (mul (var 0) (var 6))))) (mul (var 7) (var 5)))
    refl
  where
    u : Coordinates
    u = left_end e

    v : Coordinates
    v = right_end e

    k : ℤ
    k = pos (unsigned_abs ((right_end e).x -ℤ (left_end e).x))

-- ---- tests of a column
pub reaches-same : (e : Line) (x x' : Fraction) → IsFraction x → IsFraction x' → Same x x' → reaches e x ≡ reaches e x'
reaches-same e x x' i j h = within-same (int_min e.a.x e.b.x) (int_max e.a.x e.b.x) x x' i j h

pub fraction_eq-same : (q x x' : Fraction) → IsFraction x → IsFraction x' → Same x x' → fraction_eq q x ≡ fraction_eq q x'
fraction_eq-same q x x' i j h =
    same_tests (fraction_eq q x) (fraction_eq q x')
    (λ k. test_from_eq _ _ (Same-trans q x x' i (eq_from_test _ _ k) h))
    (λ k. test_from_eq _ _ (Same-trans q x' x j (eq_from_test _ _ k) (sym h)))

pub if_pairs : {A : Type 0} (R : A → A → Type 0) (b c : Bool) (xs ys xs' ys' : List A) → b ≡ c → Pairs R xs xs' → Pairs R ys ys' →
    Pairs R (if b then xs else ys) (if c then xs' else ys')
if_pairs R true true xs ys xs' ys' e h k = h
if_pairs R false false xs ys xs' ys' e h k = k
if_pairs R true false xs ys xs' ys' e h k = absurd (cc)
if_pairs R false true xs ys xs' ys' e h k = absurd (cc)

-- ---- the heights of a piece
whole-IsFraction : (n : ℤ) → IsFraction (whole n)
whole-IsFraction n = record { positive = lit< tt }

if_in_column-numbers : (x : Fraction) (a : Coordinates) (qs : List Fraction) → Numbers qs → Numbers (if_in_column x a qs)
if_in_column-numbers x a qs h = if_cases Numbers (fraction_eq (whole a.x) x) qs [] (λ _. h) (λ _. tt)

pub heights_of-numbers : (x : Fraction) (p : Piece) → IsFraction x → Numbers (heights_of x p)
heights_of-numbers x (Edge a b) i =
    let e = edge_between a b in
    if_cases Numbers (is_vertical e) (if_in_column x a (whole a.y ∷ whole b.y ∷ [])) (if reaches e x then height_at e x ∷ [] else [])
    (λ _. if_in_column-numbers x a (whole a.y ∷ whole b.y ∷ []) (whole-IsFraction a.y, (whole-IsFraction b.y, tt)))
    (λ s. if_cases Numbers (reaches e x) (height_at e x ∷ []) [] (λ r. (height-IsFraction e x (record { slants = s; reached = r }) i, tt)) (λ _. tt))
heights_of-numbers x (Dot a) i = if_in_column-numbers x a (whole a.y ∷ []) (whole-IsFraction a.y, tt)

if_in_column-same : (x x' : Fraction) (a : Coordinates) (qs : List Fraction) → IsFraction x → IsFraction x' → Same x x' → Pairs Same qs qs →
    Pairs Same (if_in_column x a qs) (if_in_column x' a qs)
if_in_column-same x x' a qs i j h k =
    if_pairs Same (fraction_eq (whole a.x) x) (fraction_eq (whole a.x) x') qs [] qs [] (fraction_eq-same (whole a.x) x x' i j h) k tt

pub heights_of-same : (x x' : Fraction) (p : Piece) → IsFraction x → IsFraction x' → Same x x' → Pairs Same (heights_of x p) (heights_of x' p)
heights_of-same x x' (Edge a b) i j h =
    let e = edge_between a b in
    if_pairs Same (is_vertical e) (is_vertical e) _ _ _ _ refl
    (if_in_column-same x x' a (whole a.y ∷ whole b.y ∷ []) i j h (refl, (refl, tt)))
    (if_pairs Same (reaches e x) (reaches e x') (height_at e x ∷ []) [] (height_at e x' ∷ []) [] (reaches-same e x x' i j h) (height_at-same e x x' h, tt) tt)
heights_of-same x x' (Dot a) i j h = if_in_column-same x x' a (whole a.y ∷ []) i j h (refl, tt)

-- ---- the heights of all pieces
abbrev pub heights_in : List Piece → Fraction → List Fraction
heights_in pieces x = flat_map (heights_of x) pieces

pub heights_in-numbers : (pieces : List Piece) (x : Fraction) → IsFraction x → Numbers (heights_in pieces x)
heights_in-numbers pieces x i = Each-flat_map IsFraction (heights_of x) pieces (λ p. heights_of-numbers x p i)

pub heights_in-same : (pieces : List Piece) (x x' : Fraction) → IsFraction x → IsFraction x' → Same x x' →
    Pairs Same (heights_in pieces x) (heights_in pieces x')
heights_in-same pieces x x' i j h = Pairs-flat_map Same (heights_of x) (heights_of x') pieces (λ p. heights_of-same x x' p i j h)
