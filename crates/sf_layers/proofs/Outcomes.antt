-- What follows from the outcome of a call.
use Rattle.std.proofs.Common.{◌≡◌, Result, Ok, Err, OnErr, OnOk, sym, subst}

pub OnOk-map : {T E P Q : Type 0} (r : Result T E) → (P → Q) → OnOk r P → OnOk r Q
OnOk-map (Ok x) f p = f p
OnOk-map (Err e) f p = p

pub OnErr-map : {T E P Q : Type 0} (r : Result T E) → (P → Q) → OnErr r P → OnErr r Q
OnErr-map (Ok x) f p = p
OnErr-map (Err e) f p = f p

-- what follows from either outcome
pub by_outcome : {T E P Q R : Type 0} (r : Result T E) → OnOk r P → OnErr r Q → (P → R) → (Q → R) → R
by_outcome (Ok x) p q f g = f p
by_outcome (Err e) p q f g = g q

pub OnOk-both : {T E : Type 0} (P Q : Type 0) (r : Result T E) → OnOk r P → OnOk r Q → OnOk r (P × Q)
OnOk-both P Q (Ok x) p q = (p, q)
OnOk-both P Q (Err e) p q = p

pub OnOk-all : {T E : Type 0} (P : Type 0) (r : Result T E) → P → OnOk r P
OnOk-all P (Ok x) p = p
OnOk-all P (Err e) p = tt

-- what is known of the outcome
pub OnOk-is : {T E P : Type 0} (r : Result T E) (x : T) → r ≡ Ok x → P → OnOk r P
OnOk-is {T} {E} {P} r x is p = subst (λ o. OnOk o P) (sym is) p

pub OnOk-not : {T E : Type 0} (P : Type 0) (r : Result T E) (e : E) → r ≡ Err e → OnOk r P
OnOk-not P r e is = subst (λ o. OnOk o P) (sym is) tt
