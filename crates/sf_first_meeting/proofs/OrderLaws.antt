-- Lists of numbers in which a relation holds between each and the next one.
use Rattle.std.proofs.Common.{◌≡◌, ◌≢◌, ℕ, refl, ap, sym, ◌∙◌, subst, List, [], ◌∷◌, ◌++◌, inl, inr, ◌⊎◌}
use Rattle.sf_first_meeting.specs.Orders.{Among, AtFirst, AtLast, Linked, LinkedFrom, Seam, SeamFrom}

-- ---- members
pub among-left : (i : ℕ) (xs ys : List ℕ) → Among i xs → Among i (xs ++ ys)
among-left i [] ys h = absurd h
among-left i (x ∷ xs) ys (inl e) = inl e
among-left i (x ∷ xs) ys (inr h) = inr (among-left i xs ys h)

pub among-right : (i : ℕ) (xs ys : List ℕ) → Among i ys → Among i (xs ++ ys)
among-right i [] ys h = h
among-right i (x ∷ xs) ys h = inr (among-right i xs ys h)

pub among-cases : (i : ℕ) (xs ys : List ℕ) → Among i (xs ++ ys) → Among i xs ⊎ Among i ys
among-cases i [] ys h = inr h
among-cases i (x ∷ xs) ys (inl e) = inl (inl e)
among-cases i (x ∷ xs) ys (inr h) = by (among-cases i xs ys h)
  where
    by : Among i xs ⊎ Among i ys → Among i (x ∷ xs) ⊎ Among i ys
    by (inl k) = inl (inr k)
    by (inr k) = inr k

-- ---- parts
pub linked-rest : (R : ℕ → ℕ → Type 0) (x : ℕ) (xs : List ℕ) → LinkedFrom R x xs → Linked R xs
linked-rest R x [] h = tt
linked-rest R x (y ∷ ys) h = h.1

pub linked-join : (R : ℕ → ℕ → Type 0) (xs ys : List ℕ) → Linked R xs → Linked R ys → Seam R xs ys → Linked R (xs ++ ys)
linked-join R [] ys h k s = k
linked-join R (x ∷ []) [] h k s = tt
linked-join R (x ∷ []) (y ∷ ys) h k s = (s, k)
linked-join R (x ∷ z ∷ xs) ys h k s = (h.0, linked-join R (z ∷ xs) ys h.1 k s)

pub linked-first : (R : ℕ → ℕ → Type 0) (xs ys : List ℕ) → Linked R (xs ++ ys) → Linked R xs
linked-first R [] ys h = tt
linked-first R (x ∷ []) ys h = tt
linked-first R (x ∷ z ∷ xs) ys h = (h.0, linked-first R (z ∷ xs) ys h.1)

pub linked-second : (R : ℕ → ℕ → Type 0) (xs ys : List ℕ) → Linked R (xs ++ ys) → Linked R ys
linked-second R [] ys h = h
linked-second R (x ∷ xs) ys h = linked-second R xs ys (linked-rest R x (xs ++ ys) h)

-- ---- another relation
from-map : (R S : ℕ → ℕ → Type 0) (x : ℕ) (xs : List ℕ) → ((i j : ℕ) → Among i (x ∷ xs) → Among j (x ∷ xs) → R i j → S i j) → LinkedFrom R x xs → LinkedFrom S x xs
from-map R S x [] f h = tt
from-map R S x (y ∷ ys) f h = (f x y (inl refl) (inr (inl refl)) h.0, from-map R S y ys (λ i j a b. f i j (inr a) (inr b)) h.1)

pub linked-map : (R S : ℕ → ℕ → Type 0) (xs : List ℕ) → ((i j : ℕ) → Among i xs → Among j xs → R i j → S i j) → Linked R xs → Linked S xs
linked-map R S [] f h = tt
linked-map R S (x ∷ xs) f h = from-map R S x xs f h

pub seam-map : (R S : ℕ → ℕ → Type 0) (xs ys : List ℕ) → ((i j : ℕ) → Among i xs → Among j ys → R i j → S i j) → Seam R xs ys → Seam S xs ys
seam-map R S [] ys f h = tt
seam-map R S (x ∷ []) [] f h = tt
seam-map R S (x ∷ []) (y ∷ ys) f h = f x y (inl refl) (inl refl) h
seam-map R S (x ∷ z ∷ xs) ys f h = seam-map R S (z ∷ xs) ys (λ i j a b. f i j (inr a) b) h

-- ---- a relation that is handed on
abbrev pub IsHandedOn : (ℕ → ℕ → Type 0) → Type 0
IsHandedOn R = (i j k : ℕ) → R i j → R j k → R i k

pub first-with : (R : ℕ → ℕ → Type 0) → IsHandedOn R → (x : ℕ) (xs : List ℕ) → LinkedFrom R x xs → (j : ℕ) → Among j xs → R x j
first-with R t x [] h j a = absurd a
first-with R t x (y ∷ ys) h j (inl e) = let P : ℕ → Type 0 = λ k. R x k in subst P (sym e) h.0
first-with R t x (y ∷ ys) h j (inr a) = t x y j h.0 (first-with R t y ys h.1 j a)

pub two-of : (R : ℕ → ℕ → Type 0) → IsHandedOn R → (xs : List ℕ) → Linked R xs → (i j : ℕ) → Among i xs → Among j xs → i ≢ j → R i j ⊎ R j i
two-of R t [] h i j a b n = absurd a
two-of R t (x ∷ xs) h i j (inl e) (inl f) n = absurd (n (e ∙ sym f))
two-of R t (x ∷ xs) h i j (inl e) (inr b) n = let P : ℕ → Type 0 = λ k. R k j in inl (subst P (sym e) (first-with R t x xs h j b))
two-of R t (x ∷ xs) h i j (inr a) (inl f) n = let P : ℕ → Type 0 = λ k. R k i in inr (subst P (sym f) (first-with R t x xs h i a))
two-of R t (x ∷ xs) h i j (inr a) (inr b) n = two-of R t xs (linked-rest R x xs h) i j a b n

pub across : (R : ℕ → ℕ → Type 0) → IsHandedOn R → (xs ys : List ℕ) → Linked R (xs ++ ys) → (i j : ℕ) → Among i xs → Among j ys → R i j
across R t [] ys h i j a b = absurd a
across R t (x ∷ xs) ys h i j (inl e) b = let P : ℕ → Type 0 = λ k. R k j in subst P (sym e) (first-with R t x (xs ++ ys) h j (among-right j xs ys b))
across R t (x ∷ xs) ys h i j (inr a) b = across R t xs ys (linked-rest R x (xs ++ ys) h) i j a b

-- ---- a fact that goes along
pub back-from_last : (R : ℕ → ℕ → Type 0) (P : ℕ → Type 0) → ((i j : ℕ) → R i j → P j → P i) → (xs : List ℕ) → Linked R xs → AtLast P xs → (i : ℕ) → Among i xs → P i
back-from_last R P f [] h l i a = absurd a
back-from_last R P f (x ∷ []) h l i (inl e) = subst P (sym e) l
back-from_last R P f (x ∷ []) h l i (inr a) = absurd a
back-from_last R P f (x ∷ z ∷ xs) h l i (inl e) = subst P (sym e) (f x z h.0 (back-from_last R P f (z ∷ xs) h.1 l z (inl refl)))
back-from_last R P f (x ∷ z ∷ xs) h l i (inr a) = back-from_last R P f (z ∷ xs) h.1 l i a

on-from : (R : ℕ → ℕ → Type 0) (P : ℕ → Type 0) → ((i j : ℕ) → R i j → P i → P j) → (x : ℕ) (xs : List ℕ) → LinkedFrom R x xs → P x → (i : ℕ) → Among i xs → P i
on-from R P f x [] h p i a = absurd a
on-from R P f x (y ∷ ys) h p i (inl e) = subst P (sym e) (f x y h.0 p)
on-from R P f x (y ∷ ys) h p i (inr a) = on-from R P f y ys h.1 (f x y h.0 p) i a

pub on-from_first : (R : ℕ → ℕ → Type 0) (P : ℕ → Type 0) → ((i j : ℕ) → R i j → P i → P j) → (xs : List ℕ) → Linked R xs → AtFirst P xs → (i : ℕ) → Among i xs → P i
on-from_first R P f [] h l i a = absurd a
on-from_first R P f (x ∷ xs) h l i (inl e) = subst P (sym e) l
on-from_first R P f (x ∷ xs) h l i (inr a) = on-from R P f x xs h l i a
