-- The answers to `get` and `find`.
use Rattle.std.proofs.Common.{◌≡◌, ◌∙◌, ℕ, zero, suc, ◌+◌, ◌<◌, ◌≤◌, Bool, true, false, cond, filter, List, [], ◌∷◌, ◌++◌, length, flat_map, take, get_or, slice_get, codes, decimal, Option, None, Some, option_map, option_and_then, IsSomeAnd, refl, sym, ap, subst, arith, append_assoc, append-nil}
use Rattle.std.specs.Map.{keys_of}
use Rattle.std.proofs.lemmas.List.{map-append, take_all}
use Rattle.std.proofs.lemmas.List.Elements.{filter-append}
use Rattle.sf_commands.specs.Commands.{each}
use Rattle.sf_console.specs.Answers.{line, rows}
use Rattle.sf_console.proofs.RowLemmas.{flat-push, take-at}

-- ---- what is made of each of a list

module _ {X Y : Type 0} (make : X → Option Y) where
  -- one more
  each-push : (xs : List X) (ys : List Y) (x : X) (y : Y) → each make xs ≡ Some ys → make x ≡ Some y → each make (xs ++ x ∷ []) ≡ Some (ys ++ y ∷ [])
  each-push [] ys x y all is =
      let none : [] ≡ ys = cc in
      ap (λ o. option_and_then (λ z. option_map (λ zs. z ∷ zs) (Some [])) o) is ∙ ap (λ zs. Some (zs ++ y ∷ [])) none
  each-push (first ∷ xs) ys x y all is = by (make first) (each make xs) (λ zs made. each-push xs zs x y made is) refl all
    where
      by : (o : Option Y) (rest : Option (List Y)) → ((zs : List Y) → each make xs ≡ Some zs → each make (xs ++ x ∷ []) ≡ Some (zs ++ y ∷ [])) → each make xs ≡ rest
          → option_and_then (λ z. option_map (λ zs. z ∷ zs) rest) o ≡ Some ys
          → option_and_then (λ z. option_map (λ zs. z ∷ zs) (each make (xs ++ x ∷ []))) o ≡ Some (ys ++ y ∷ [])
      by None rest further made all = cc
      by (Some z) None further made all = cc
      by (Some z) (Some zs) further made all =
          let whole : z ∷ zs ≡ ys = cc in
          ap (λ r. option_map (λ ws. z ∷ ws) r) (further zs made) ∙ ap (λ ws. Some (ws ++ y ∷ [])) whole

  -- one of which nothing is made
  pub each-missing : (xs : List X) (i : ℕ) (x : X) → slice_get xs i ≡ Some x → make x ≡ None → each make xs ≡ None
  each-missing [] i x at none = cc
  each-missing (first ∷ xs) zero x at none =
      let is : first ≡ x = cc in
      ap (λ o. option_and_then (λ z. option_map (λ zs. z ∷ zs) (each make xs)) o) (ap make is ∙ none)
  each-missing (first ∷ xs) (suc i) x at none = by (make first) (each-missing xs i x at none)
    where
      by : (o : Option Y) → each make xs ≡ None → option_and_then (λ z. option_map (λ zs. z ∷ zs) (each make xs)) o ≡ None
      by None missing = refl
      by (Some z) missing = ap (λ r. option_map (λ zs. z ∷ zs) r) missing

  -- as many are made
  each-length : (xs : List X) (ys : List Y) → each make xs ≡ Some ys → length ys ≡ length xs
  each-length [] ys all = let none : ys ≡ [] = cc in ap length none
  each-length (first ∷ xs) ys all = by (make first) (each make xs) (λ zs made. each-length xs zs made) refl all
    where
      by : (o : Option Y) (rest : Option (List Y)) → ((zs : List Y) → each make xs ≡ Some zs → length zs ≡ length xs) → each make xs ≡ rest → option_and_then (λ z. option_map (λ zs. z ∷ zs) rest) o ≡ Some ys
          → length ys ≡ suc (length xs)
      by None rest further made all = cc
      by (Some z) None further made all = cc
      by (Some z) (Some zs) further made all = let whole : ys ≡ z ∷ zs = cc in ap length whole ∙ ap suc (further zs made)

-- the number at a place
pub number-at : (xs : List ℕ) (i : ℕ) → i < length xs → slice_get xs i ≡ Some (get_or xs i 0)
number-at [] i within = absurd (omega arith)
number-at (x ∷ xs) zero within = refl
number-at (x ∷ xs) (suc i) within = number-at xs i (omega arith)

-- ---- rows, where all of them are there

-- the head, and the rows of the first of them
pub record AreShown {X : Type 0} (row : X → Option (List ℕ)) (all : List X) (index : ℕ) (text : List ℕ) : Type 0 where
  pub texts : List (List ℕ)
  pub made : each row (take index all) ≡ Some texts
  pub shown : text ≡ line (codes "rows " ++ decimal (length all)) ++ flat_map line texts

pub none_shown : {X : Type 0} (row : X → Option (List ℕ)) (all : List X) (text : List ℕ) → text ≡ line (codes "rows " ++ decimal (length all)) → AreShown row all 0 text
none_shown row all text head = record { texts = []; made = refl; shown = head ∙ sym (append-nil (line (codes "rows " ++ decimal (length all)))) }

pub one_shown : {X : Type 0} (row : X → Option (List ℕ)) (all : List X) (index : ℕ) (x : X) (one before after : List ℕ) → AreShown row all index before → slice_get all index ≡ Some x → row x ≡ Some one → after ≡ before ++ line one
    → AreShown row all (index + 1) after
one_shown row all index x one before after are at is pushed = record {
  texts = are.texts ++ one ∷ [];
  made = ap (each row) (take-at all index x at) ∙ each-push row (take index all) are.texts x one are.made is;
  shown =
      pushed ∙ ap (λ t. t ++ line one) are.shown
      ∙ append_assoc (line (codes "rows " ++ decimal (length all))) (flat_map line are.texts) (line one)
      ∙ ap (λ t. line (codes "rows " ++ decimal (length all)) ++ t) (sym (flat-push line are.texts one));
}

pub all_shown : {X : Type 0} (row : X → Option (List ℕ)) (all : List X) (index : ℕ) (text : List ℕ) → AreShown row all index text → length all ≤ index → IsSomeAnd (each row all) (λ texts. text ≡ rows texts)
all_shown row all index text are whole =
    let made : each row all ≡ Some are.texts = ap (each row) (sym (take_all index all whole)) ∙ are.made in
    subst (λ o. IsSomeAnd o (λ texts. text ≡ rows texts)) (sym made)
    (are.shown ∙ ap (λ n. line (codes "rows " ++ decimal n) ++ flat_map line are.texts) (sym (each-length row all are.texts made)))

-- ---- keys of entries that pass

module _ {X : Type 0} (test : X → Bool) (found : List (ℕ × X)) (id : ℕ) (x : X) where
  found-parts : keys_of (filter (λ entry. test entry.1) (found ++ (id, x) ∷ [])) ≡ keys_of (filter (λ entry. test entry.1) found) ++ keys_of (cond (test x) ((id, x) ∷ []) [])
  found-parts =
      ap keys_of (filter-append (λ entry. test entry.1) found ((id, x) ∷ []))
      ∙ map-append (λ (entry : ℕ × X). entry.0) (filter (λ entry. test entry.1) found) (cond (test x) ((id, x) ∷ []) [])

  -- one more that passes
  pub found-more : test x ≡ true → keys_of (filter (λ entry. test entry.1) (found ++ (id, x) ∷ [])) ≡ keys_of (filter (λ entry. test entry.1) found) ++ id ∷ []
  found-more passes = found-parts ∙ ap (λ b. keys_of (filter (λ entry. test entry.1) found) ++ keys_of (cond b ((id, x) ∷ []) [])) passes

  -- one more that doesn't
  pub found-same : test x ≡ false → keys_of (filter (λ entry. test entry.1) (found ++ (id, x) ∷ [])) ≡ keys_of (filter (λ entry. test entry.1) found)
  found-same fails =
      found-parts ∙ ap (λ b. keys_of (filter (λ entry. test entry.1) found) ++ keys_of (cond b ((id, x) ∷ []) [])) fails
      ∙ append-nil (keys_of (filter (λ entry. test entry.1) found))
