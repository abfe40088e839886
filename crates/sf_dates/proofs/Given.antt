-- What a test lets pass.
use Rattle.std.proofs.Common.{◌≡◌, Option, None, Some, ap}
use Rattle.std.specs.Prelude.{SomeIff}

pub given : {T P : Type 0} (r : Option T) (x : T) → SomeIff r P x → P → r ≡ Some x
given None x not p = absurd (not p)
given (Some y) x is p = ap Some is.1
