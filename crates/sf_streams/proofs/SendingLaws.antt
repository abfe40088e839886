-- How bytes go out, one text after another.
use Rattle.std.proofs.Common.{◌≡◌, ℕ, zero, suc, ◌+◌, ◌<◌, List, [], ◌∷◌, ◌++◌, length, get_or, take, drop, Option, Result, Ok, Err, OnErr, sym, ap, subst, ◌∙◌, append_assoc, append-nil, arith}
use Rattle.std.specs.List.{flat_map}
use Rattle.std.proofs.lemmas.List.Concat.{flat_map-cons}
use Rattle.std.proofs.KnownBytes.{Appends-nil, Appends-trans}
use Rattle.std.specs.Io.KnownBytes.{Appends}
use Rattle.sf_streams.specs.Streams.{Puts, WritesFront}

pub Puts-nothing : (written : Option (List ℕ)) (held : List ℕ) → Puts written written held held []
Puts-nothing written held = record { sent = []; appended = Appends-nil written; parts = append-nil held }

pub Puts-then : (before mid after : Option (List ℕ)) (h1 h2 h3 t1 t2 : List ℕ) → Puts before mid h1 h2 t1 → Puts mid after h2 h3 t2 → Puts before after h1 h3 (t1 ++ t2)
Puts-then before mid after h1 h2 h3 t1 t2 a b = record {
  sent = a.sent ++ b.sent;
  appended = Appends-trans _ _ _ _ _ a.appended b.appended;
  parts = sym (append_assoc h1 t1 t2) ∙ ap (λ (t : List ℕ). t ++ t2) a.parts ∙ append_assoc a.sent h2 t2
      ∙ ap (λ (t : List ℕ). a.sent ++ t) b.parts ∙ sym (append_assoc a.sent b.sent h3);
}

-- what was held was sent, and a text behind it
pub Puts-sent : (w1 w2 w3 : Option (List ℕ)) (held holds text : List ℕ) → holds ≡ [] → Appends w1 w2 held → Appends w2 w3 text → Puts w1 w3 held holds text
Puts-sent w1 w2 w3 held holds text none a b = record {
  sent = held ++ text;
  appended = Appends-trans _ _ _ _ _ a b;
  parts = sym (append-nil (held ++ text)) ∙ ap (λ (t : List ℕ). (held ++ text) ++ t) (sym none);
}

-- what was held was sent, and the writer broke off within a text behind it
pub WritesFront-sent : (w1 w2 w3 : Option (List ℕ)) (held text : List ℕ) → Appends w1 w2 held → WritesFront w2 w3 text → WritesFront w1 w3 (held ++ text)
WritesFront-sent w1 w2 w3 held text a b = record {
  sent = held ++ b.sent;
  unsent = b.unsent;
  parts = ap (λ (t : List ℕ). held ++ t) b.parts ∙ sym (append_assoc held b.sent b.unsent);
  appended = Appends-trans _ _ _ _ _ a b.appended;
}

-- a front of a text is a front of a longer one
pub WritesFront-more : (before after : Option (List ℕ)) (text more : List ℕ) → WritesFront before after text → WritesFront before after (text ++ more)
WritesFront-more before after text more a = record {
  sent = a.sent;
  unsent = a.unsent ++ more;
  parts = ap (λ (t : List ℕ). t ++ more) a.parts ∙ append_assoc a.sent a.unsent more;
  appended = a.appended;
}

-- the writer broke off within the second of two texts
pub WritesFront-then : (before mid after : Option (List ℕ)) (h1 h2 t1 t2 : List ℕ) → Puts before mid h1 h2 t1 → WritesFront mid after (h2 ++ t2) → WritesFront before after (h1 ++ (t1 ++ t2))
WritesFront-then before mid after h1 h2 t1 t2 a b = record {
  sent = a.sent ++ b.sent;
  unsent = b.unsent;
  parts = sym (append_assoc h1 t1 t2) ∙ ap (λ (t : List ℕ). t ++ t2) a.parts ∙ append_assoc a.sent h2 t2
      ∙ ap (λ (t : List ℕ). a.sent ++ t) b.parts ∙ sym (append_assoc a.sent b.sent b.unsent);
  appended = Appends-trans _ _ _ _ _ a.appended b.appended;
}

-- ---- a loop over items

pub flat_map-take : {X : Type 0} (f : X → List ℕ) (xs : List X) (i : ℕ) (d : X) → i < length xs → flat_map f (take (suc i) xs) ≡ flat_map f (take i xs) ++ f (get_or xs i d)
flat_map-take f [] i d below = absurd (omega (arith, below))
flat_map-take f (x ∷ xs) zero d below = flat_map-cons f x [] ∙ append-nil (f x)
flat_map-take f (x ∷ xs) (suc i) d below =
    flat_map-cons f x (take (suc i) xs) ∙ ap (λ (t : List ℕ). f x ++ t) (flat_map-take f xs i d (omega (arith, below)))
    ∙ sym (append_assoc (f x) (flat_map f (take i xs)) (f (get_or xs i d)))
    ∙ ap (λ (t : List ℕ). t ++ f (get_or xs i d)) (sym (flat_map-cons f x (take i xs)))

pub flat_map-split : {X : Type 0} (f : X → List ℕ) (xs : List X) (i : ℕ) (d : X) → i < length xs
    → flat_map f xs ≡ (flat_map f (take i xs) ++ f (get_or xs i d)) ++ flat_map f (drop (suc i) xs)
flat_map-split f [] i d below = absurd (omega (arith, below))
flat_map-split f (x ∷ xs) zero d below = flat_map-cons f x xs
flat_map-split f (x ∷ xs) (suc i) d below =
    flat_map-cons f x xs ∙ ap (λ (t : List ℕ). f x ++ t) (flat_map-split f xs i d (omega (arith, below)))
    ∙ sym (append_assoc (f x) (flat_map f (take i xs) ++ f (get_or xs i d)) (flat_map f (drop (suc i) xs)))
    ∙ ap (λ (t : List ℕ). t ++ flat_map f (drop (suc i) xs)) (sym (append_assoc (f x) (flat_map f (take i xs)) (f (get_or xs i d)))
    ∙ ap (λ (t : List ℕ). t ++ f (get_or xs i d)) (sym (flat_map-cons f x (take i xs))))

-- the writer broke off within an item
pub WritesFront-item : {X : Type 0} (f : X → List ℕ) (xs : List X) (i : ℕ) (d : X) (before mid after : Option (List ℕ)) (h1 h2 : List ℕ) → i < length xs
    → Puts before mid h1 h2 (flat_map f (take i xs)) → WritesFront mid after (h2 ++ f (get_or xs i d)) → WritesFront before after (h1 ++ flat_map f xs)
WritesFront-item f xs i d before mid after h1 h2 below a b =
    let front = flat_map f (take i xs) ++ f (get_or xs i d) in
    let rest = flat_map f (drop (suc i) xs) in
    let some = WritesFront-more before after (h1 ++ front) rest (WritesFront-then before mid after h1 h2 (flat_map f (take i xs)) (f (get_or xs i d)) a b) in
    subst (WritesFront before after) (append_assoc h1 front rest ∙ ap (λ (t : List ℕ). h1 ++ t) (sym (flat_map-split f xs i d below))) some

-- one more item was put
pub Puts-item : {X : Type 0} (f : X → List ℕ) (xs : List X) (i : ℕ) (d : X) (before mid after : Option (List ℕ)) (h1 h2 h3 : List ℕ) → i < length xs
    → Puts before mid h1 h2 (flat_map f (take i xs)) → Puts mid after h2 h3 (f (get_or xs i d)) → Puts before after h1 h3 (flat_map f (take (i + 1) xs))
Puts-item f xs i d before mid after h1 h2 h3 below a b =
    let next : suc i ≡ i + 1 = omega arith in
    subst (Puts before after h1 h3) (sym (flat_map-take f xs i d below) ∙ ap (λ (k : ℕ). flat_map f (take k xs)) next) (Puts-then before mid after h1 h2 h3 (flat_map f (take i xs)) (f (get_or xs i d)) a b)

pub OnErr-from : {T E P : Type 0} (r : Result T E) → P → OnErr r P
OnErr-from (Ok x) p = tt
OnErr-from (Err e) p = p
