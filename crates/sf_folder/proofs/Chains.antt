-- Calls one after another.
use Rattle.std.proofs.Common.{inl, inr, List, [], ◌∷◌, ◌++◌, Option, None, Some, refl, sym, ap, ◌∙◌, append-nil, append_assoc}
use Rattle.std.specs.Prelude.{Result, Ok, Err, OnErr, OnOk}
use Rattle.sf_folder.specs.Calls.{Call, IsFrontOf, Does, Tries}

pub does-then : (a b c : Option (List Call)) (xs ys : List Call) → Does a b xs → Does b c ys → Does a c (xs ++ ys)
does-then None b c xs ys d e = tt
does-then (Some a) None c xs ys d e = absurd d
does-then (Some a) (Some b) None xs ys d e = absurd e
does-then (Some a) (Some b) (Some c) xs ys d e = e ∙ ap (λ l. l ++ ys) d ∙ append_assoc a xs ys

pub front-behind : (xs made wanted : List Call) → IsFrontOf made wanted → IsFrontOf (xs ++ made) (xs ++ wanted)
front-behind [] made wanted f = f
front-behind (x ∷ xs) made wanted f = inl (refl, front-behind xs made wanted f)

pub front-before : (made wanted more : List Call) → IsFrontOf made wanted → IsFrontOf made (wanted ++ more)
front-before [] wanted more f = tt
front-before (call ∷ made) [] more f = absurd f
front-before (call ∷ made) (next ∷ wanted) more (inl f) = inl (f.0, front-before made wanted more f.1)
front-before (call ∷ made) (next ∷ wanted) more (inr f) = inr f

pub tries-then : (a b c : Option (List Call)) (xs ys : List Call) → Does a b xs → Tries b c ys → Tries a c (xs ++ ys)
tries-then a b c xs ys d t = (xs ++ t.0, does-then a b c xs t.0 d t.1, front-behind xs t.0 ys t.2)

pub tries-first : (a b : Option (List Call)) (xs ys : List Call) → Tries a b xs → Tries a b (xs ++ ys)
tries-first a b xs ys t = (t.0, t.1, front-before t.0 xs ys t.2)

pub tries-at : (a b c : Option (List Call)) (done next rest : List Call) → Does a b done → Tries b c next → Tries a c (done ++ (next ++ rest))
tries-at a b c done next rest d t = tries-then a b c done (next ++ rest) d (tries-first b c next rest t)

pub tries-none : (a : Option (List Call)) (wanted : List Call) → Tries a a wanted
tries-none None wanted = ([], tt, tt)
tries-none (Some a) wanted = ([], sym (append-nil a), tt)

pub on-err : {T E : Type 0} {P : Type 0} (r : Result T E) → P → OnErr r P
on-err (Ok x) p = tt
on-err (Err e) p = p

pub on-err-map : {T E : Type 0} {P Q : Type 0} (r : Result T E) → OnErr r P → (P → Q) → OnErr r Q
on-err-map (Ok x) p f = tt
on-err-map (Err e) p f = f p

pub on-ok-map : {T E : Type 0} {P Q : Type 0} (r : Result T E) → OnOk r P → (P → Q) → OnOk r Q
on-ok-map (Ok x) p f = f p
on-ok-map (Err e) p f = tt
