-- The first place of candidates that stand one after another, and among pairs.
use Rattle.std.proofs.Common.{◌≡◌, ap, sym, ◌∙◌, subst, ℕ, ◌+◌, ◌<◌, ◌≤◌, arith, inl, inr, List, [], ◌∷◌, ◌++◌, append_assoc, length, map, take, drop, slice_index_or, Option, Some, None}
use Rattle.std.specs.Prelude.{IfOk, IsTrue, Result, Ok, Err, nat_lt, is_some, true, false}
use Rattle.std.proofs.lemmas.Bool.{false≢true}
use Rattle.std.specs.List.{enumerate_from, flat_map}
use Rattle.std.proofs.lemmas.Bool.Decides.{nat_tests}
use Rattle.std.proofs.lemmas.List.FromFn.{get_or-enumerate_from, length-enumerate_from}
use Rattle.std.proofs.lemmas.List.{append-nil, drop_more, get_or-take, get_or_default, length-take-le, take-append-drop, take_all, take_more}
use Rattle.std.proofs.lemmas.Grind.{flat_map-append}
use Rattle.std.proofs.lemmas.List.Concat.{flat_map_single}
use Rattle.std.proofs.lemmas.List.Folds.{flat_map-map}
use Rattle.sf_valid_rules.specs.Conditions.{Applies}
use Rattle.sf_faults.specs.declared.place.Place.{Place}
use Rattle.sf_faults.specs.Candidates.{Candidate}
use Rattle.sf_faults.specs.Orders.{numbered, pairs, pairs_after, with_last}
use Rattle.sf_faults.specs.Places.{IsFirstAmong, IsFirstPlace, NoneIsAtFault}

-- ---- one list after another
pub none-append : (cs ds : List Candidate) → NoneIsAtFault cs → NoneIsAtFault ds → NoneIsAtFault (cs ++ ds)
none-append [] ds n m = m
none-append (c ∷ cs) ds n m = (n.0, none-append cs ds n.1 m)

pub none-parts : (cs ds : List Candidate) → NoneIsAtFault (cs ++ ds) → NoneIsAtFault cs × NoneIsAtFault ds
none-parts [] ds n = (tt, n)
none-parts (c ∷ cs) ds n = let rest = none-parts cs ds n.1 in ((n.0, rest.0), rest.1)

pub first-here : (cs ds : List Candidate) (place : Place) → IsFirstPlace cs place → IsFirstPlace (cs ++ ds) place
first-here [] ds place f = absurd f
first-here (c ∷ cs) ds place (inl f) = inl f
first-here (c ∷ cs) ds place (inr f) = inr (f.0, first-here cs ds place f.1)

pub first-later : (cs ds : List Candidate) (place : Place) → NoneIsAtFault cs → IsFirstPlace ds place → IsFirstPlace (cs ++ ds) place
first-later [] ds place n f = f
first-later (c ∷ cs) ds place n f = inr (n.0, first-later cs ds place n.1 f)

-- between two others
pub first-between : (cs ds es : List Candidate) (place : Place) → NoneIsAtFault cs → IsFirstPlace ds place → IsFirstPlace (cs ++ (ds ++ es)) place
first-between cs ds es place n f = first-later cs (ds ++ es) place n (first-here ds es place f)

-- one candidate alone
pub first-alone : (c : Candidate) (place : Place) → Applies c.condition → place ≡ c.place → IsFirstPlace (c ∷ []) place
first-alone c place a e = inl (a, e)

-- ---- candidates of each member of a list
pub parted : {X Y : Type 0} (f : X → List Y) (xs : List X) (i : ℕ) (x : X) → i < length xs → x ≡ slice_index_or xs i x
    → flat_map f xs ≡ flat_map f (take i xs) ++ (f x ++ flat_map f (drop (i + 1) xs))
parted f xs i x h e =
    ap (flat_map f) (sym (take-append-drop i xs))
    ∙ flat_map-append f (take i xs) (drop i xs)
    ∙ ap (λ ys. flat_map f (take i xs) ++ flat_map f ys) (drop_more xs i x h ∙ ap (λ y. y ∷ drop (i + 1) xs) (sym e))

pub flat-more : {X Y : Type 0} (f : X → List Y) (xs : List X) (i : ℕ) (x : X) → i < length xs → x ≡ slice_index_or xs i x
    → flat_map f (take (i + 1) xs) ≡ flat_map f (take i xs) ++ f x
flat-more f xs i x h e =
    ap (flat_map f) (take_more xs i x h ∙ ap (λ y. take i xs ++ y ∷ []) (sym e))
    ∙ flat_map-append f (take i xs) (x ∷ [])
    ∙ ap (λ ys. flat_map f (take i xs) ++ ys) (append-nil (f x))

pub first-member : {X : Type 0} (f : X → List Candidate) (xs : List X) (i : ℕ) (x : X) (place : Place) → i < length xs → x ≡ slice_index_or xs i x
    → NoneIsAtFault (flat_map f (take i xs)) → IsFirstPlace (f x) place → IsFirstPlace (flat_map f xs) place
first-member f xs i x place h e n p =
    subst (λ cs. IsFirstPlace cs place) (sym (parted f xs i x h e)) (first-between (flat_map f (take i xs)) (f x) (flat_map f (drop (i + 1) xs)) place n p)

pub none-member : {X : Type 0} (f : X → List Candidate) (xs : List X) (i : ℕ) (x : X) → i < length xs → x ≡ slice_index_or xs i x
    → NoneIsAtFault (flat_map f (take i xs)) → NoneIsAtFault (f x) → NoneIsAtFault (flat_map f (take (i + 1) xs))
none-member f xs i x h e n m = subst NoneIsAtFault (sym (flat-more f xs i x h e)) (none-append (flat_map f (take i xs)) (f x) n m)

pub none-all : {X : Type 0} (f : X → List Candidate) (xs : List X) (i : ℕ) → length xs ≤ i → NoneIsAtFault (flat_map f (take i xs)) → NoneIsAtFault (flat_map f xs)
none-all f xs i h n = subst (λ ys. NoneIsAtFault (flat_map f ys)) (take_all i xs h) n

-- ---- one candidate for each member
abbrev pub single : {X : Type 0} → (X → Candidate) → X → List Candidate
single c x = c x ∷ []

pub first-map : {X : Type 0} (c : X → Candidate) (xs : List X) (place : Place) → IsFirstPlace (flat_map (single c) xs) place → IsFirstPlace (map c xs) place
first-map c xs place f = subst (λ cs. IsFirstPlace cs place) (flat_map_single c xs) f

pub none-map : {X : Type 0} (c : X → Candidate) (xs : List X) → NoneIsAtFault (flat_map (single c) xs) → NoneIsAtFault (map c xs)
none-map c xs n = subst NoneIsAtFault (flat_map_single c xs) n

-- ---- pairs of members
pub pairs-split : {X : Type 0} (before xs ys : List X) → pairs_after before (xs ++ ys) ≡ pairs_after before xs ++ pairs_after (before ++ xs) ys
pairs-split before [] ys = ap (λ b. pairs_after b ys) (sym (append-nil before))
pairs-split before (x ∷ xs) ys =
    ap (λ ps. with_last before x ++ ps) (pairs-split (before ++ x ∷ []) xs ys ∙ ap (λ b. pairs_after (before ++ x ∷ []) xs ++ pairs_after b ys) (append_assoc before (x ∷ []) xs))
    ∙ sym (append_assoc (with_last before x) (pairs_after (before ++ x ∷ []) xs) (pairs_after (before ++ x ∷ xs) ys))

pub pairs-more : {X : Type 0} (xs : List X) (j : ℕ) (y : X) → j < length xs → y ≡ slice_index_or xs j y → pairs (take (j + 1) xs) ≡ pairs (take j xs) ++ with_last (take j xs) y
pairs-more xs j y h e =
    ap pairs (take_more xs j y h ∙ ap (λ z. take j xs ++ z ∷ []) (sym e))
    ∙ pairs-split [] (take j xs) (y ∷ [])
    ∙ ap (λ ps. pairs (take j xs) ++ ps) (append-nil (with_last (take j xs) y))

pub pairs-at : {X : Type 0} (xs : List X) (j : ℕ) (y : X) → j < length xs → y ≡ slice_index_or xs j y
    → pairs xs ≡ pairs (take j xs) ++ (with_last (take j xs) y ++ pairs_after (take j xs ++ y ∷ []) (drop (j + 1) xs))
pairs-at xs j y h e =
    ap pairs (sym (take-append-drop j xs) ∙ ap (λ ys. take j xs ++ ys) (drop_more xs j y h ∙ ap (λ z. z ∷ drop (j + 1) xs) (sym e)))
    ∙ pairs-split [] (take j xs) (y ∷ drop (j + 1) xs)

-- the candidates of each of some members with another one
abbrev pub row : {X : Type 0} → (X × X → List Candidate) → List X → X → List Candidate
row f before y = flat_map (λ e. f (e, y)) before

pub row-is : {X : Type 0} (f : X × X → List Candidate) (before : List X) (y : X) → flat_map f (with_last before y) ≡ row f before y
row-is f before y = flat_map-map f (λ e. (e, y)) before

-- no pair of the first members is at fault
abbrev pub NoPair : {X : Type 0} → (X × X → List Candidate) → List X → ℕ → Type 0
NoPair f xs j = NoneIsAtFault (flat_map f (pairs (take j xs)))

-- none of the first ones with a later member
abbrev pub NoneWith : {X : Type 0} → (X × X → List Candidate) → List X → ℕ → ℕ → X → Type 0
NoneWith f xs j i y = NoneIsAtFault (row f (take i (take j xs)) y)

pub no_pair-more : {X : Type 0} (f : X × X → List Candidate) (xs : List X) (j i : ℕ) (y : X) → j < length xs → y ≡ slice_index_or xs j y → j ≤ i
    → NoPair f xs j → NoneWith f xs j i y → NoPair f xs (j + 1)
no_pair-more f xs j i y h e l n m =
    subst NoneIsAtFault
    (sym (ap (flat_map f) (pairs-more xs j y h e) ∙ flat_map-append f (pairs (take j xs)) (with_last (take j xs) y) ∙ ap (λ cs. flat_map f (pairs (take j xs)) ++ cs) (row-is f (take j xs) y)))
    (none-append (flat_map f (pairs (take j xs))) (row f (take j xs) y) n
    (subst (λ ys. NoneIsAtFault (row f ys y)) (take_all i (take j xs) (subst (λ k. k ≤ i) (sym (length-take-le j xs (omega (arith, h)))) l)) m))

pub none_with-more : {X : Type 0} (f : X × X → List Candidate) (xs : List X) (j i : ℕ) (x y : X) → j < length xs → i < j → x ≡ slice_index_or xs i x
    → NoneWith f xs j i y → NoneIsAtFault (f (x, y)) → NoneWith f xs j (i + 1) y
none_with-more f xs j i x y h o e n m =
    none-member (λ z. f (z, y)) (take j xs) i x (subst (λ k. i < k) (sym (length-take-le j xs (omega (arith, h)))) o) (e ∙ sym (get_or-take j xs i x o)) n m

pub first-pair : {X : Type 0} (f : X × X → List Candidate) (xs : List X) (j i : ℕ) (x y : X) (place : Place) → j < length xs → i < j → x ≡ slice_index_or xs i x → y ≡ slice_index_or xs j y
    → NoPair f xs j → NoneWith f xs j i y → IsFirstPlace (f (x, y)) place → IsFirstPlace (flat_map f (pairs xs)) place
first-pair f xs j i x y place h o e g n m p =
    let here : IsFirstPlace (row f (take j xs) y) place =
    first-member (λ z. f (z, y)) (take j xs) i x place (subst (λ k. i < k) (sym (length-take-le j xs (omega (arith, h)))) o) (e ∙ sym (get_or-take j xs i x o)) m p in
    let later = pairs_after (take j xs ++ y ∷ []) (drop (j + 1) xs) in
    subst (λ cs. IsFirstPlace cs place)
    (sym (ap (flat_map f) (pairs-at xs j y h g)
    ∙ flat_map-append f (pairs (take j xs)) (with_last (take j xs) y ++ later)
    ∙ ap (λ cs. flat_map f (pairs (take j xs)) ++ cs) (flat_map-append f (with_last (take j xs) y) later ∙ ap (λ cs. cs ++ flat_map f later) (row-is f (take j xs) y))))
    (first-between (flat_map f (pairs (take j xs))) (row f (take j xs) y) (flat_map f later) place n here)

pub no_pair-all : {X : Type 0} (f : X × X → List Candidate) (xs : List X) (j : ℕ) → length xs ≤ j → NoPair f xs j → NoneIsAtFault (flat_map f (pairs xs))
no_pair-all f xs j h n = subst (λ ys. NoneIsAtFault (flat_map f (pairs ys))) (take_all j xs h) n

-- ---- members with their numbers
pub numbered-length : {X : Type 0} (xs : List X) (i : ℕ) → i < length xs → i < length (numbered xs)
numbered-length xs i h = subst (λ n. i < n) (sym (length-enumerate_from 0 xs)) h

pub numbered-at : {X : Type 0} (xs : List X) (i : ℕ) (x y : X) → i < length xs → y ≡ slice_index_or xs i y → x ≡ y → (i, x) ≡ slice_index_or (numbered xs) i (i, x)
numbered-at {X} xs i x y h e s =
    let read : x ≡ slice_index_or xs i x = s ∙ e ∙ get_or_default xs i y x h in
    let none : i ≡ 0 + i = omega arith in
    ap (λ (z : X). (i, z)) read ∙ ap (λ n. (n, slice_index_or xs i x)) none ∙ sym (get_or-enumerate_from 0 xs i (i, x) h)

-- ---- numbers that are compared
pub lt-from : (n m k : ℕ) → n ≡ m → n < k → IsTrue (nat_lt m k)
lt-from n m k e h = grind (arith, nat_tests)

pub lt-not : (n m k : ℕ) → n ≡ m → k ≤ n → ¬ (IsTrue (nat_lt m k))
lt-not n m k e h = λ t. grind (arith, nat_tests)

-- what is applied after a loop that found nothing
pub none-alone : (c : Candidate) → ¬ (Applies c.condition) → NoneIsAtFault (c ∷ [])
none-alone c n = (n, tt)

pub numbered-end : {X : Type 0} (xs : List X) (i : ℕ) → length xs ≤ i → length (numbered xs) ≤ i
numbered-end xs i h = subst (λ n. n ≤ i) (sym (length-enumerate_from 0 xs)) h

-- ---- a place that may be there
pub among-some : (cs ds : List Candidate) (o : Option Place) → is_some o ≡ true → IsFirstAmong cs o → ((place : Place) → IsFirstPlace cs place → IsFirstPlace ds place) → IsFirstAmong ds o
among-some cs ds None h f lead = absurd (false≢true h)
among-some cs ds (Some place) h f lead = lead place f

pub among-none : (cs : List Candidate) (o : Option Place) → is_some o ≡ false → IsFirstAmong cs o → NoneIsAtFault cs
among-none cs None h f = f
among-none cs (Some place) h f = absurd (false≢true (sym h))

-- members numbered from 1 on
pub counted-length : {X : Type 0} (xs : List X) (i : ℕ) → i < length xs → i < length (enumerate_from 1 xs)
counted-length xs i h = subst (λ n. i < n) (sym (length-enumerate_from 1 xs)) h

pub counted-end : {X : Type 0} (xs : List X) (i : ℕ) → length xs ≤ i → length (enumerate_from 1 xs) ≤ i
counted-end xs i h = subst (λ n. n ≤ i) (sym (length-enumerate_from 1 xs)) h

pub counted-at : {X : Type 0} (xs : List X) (i : ℕ) (x : X) → i < length xs → x ≡ slice_index_or xs i x → (i + 1, x) ≡ slice_index_or (enumerate_from 1 xs) i (i + 1, x)
counted-at {X} xs i x h e =
    let other : i + 1 ≡ 1 + i = omega arith in
    ap (λ (z : X). (i + 1, z)) e ∙ ap (λ n. (n, slice_index_or xs i x)) other ∙ sym (get_or-enumerate_from 1 xs i (i + 1, x) h)

-- what is said of a result that is passed on
pub ok-map : {T E : Type 0} (r : Result T E) (P Q : T → Type 0) → ((x : T) → P x → Q x) → IfOk r P → IfOk r Q
ok-map (Ok x) P Q f h = f x h
ok-map (Err e) P Q f h = tt
