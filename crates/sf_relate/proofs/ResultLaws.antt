-- What is said of a result says of it what follows.
use Rattle.std.specs.Prelude.{Err, IfOk, Ok, Result}

pub answered : {T E : Type 0} {p q : T → Type 0} (r : Result T E) → ((x : T) → p x → q x) → IfOk r p → IfOk r q
answered (Ok x) f h = f x h
answered (Err e) f h = tt
