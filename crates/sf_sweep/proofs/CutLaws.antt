-- A window that is cut: counts that have room for what goes on from it.
use Rattle.std.proofs.Common.{◌≡◌, sym, subst, ℕ, ◌+◌, ◌<◌, ◌^◌, arith, Bool, true, false, List, [], ◌∷◌, map}
use Rattle.std.specs.List.{All, AllByRecursion}
use Rattle.std.proofs.lemmas.List.Elements.{All-from_recursion}
use Rattle.sf_sweep.specs.Parities.{as_count}

-- counts that are few enough for so many edges more
pub room-for : (ns : List ℕ) (m : ℕ) → m < 2 ^ 31 → All (λ n. n < 2 ^ 31) ns → All (λ n. n + m < 2 ^ 32) ns
room-for ns m few h k d within = let l = h k d within in omega arith

-- parities in place of counts are few
as_count-few : (b : Bool) → as_count b < 2 ^ 31
as_count-few true = omega arith
as_count-few false = omega arith

few-each : (bs : List Bool) → AllByRecursion (λ n. n < 2 ^ 31) (map as_count bs)
few-each [] = tt
few-each (b ∷ bs) = (as_count-few b, few-each bs)

pub parities-few : (ns : List ℕ) (bs : List Bool) → ns ≡ map as_count bs → All (λ n. n < 2 ^ 31) ns
parities-few ns bs e = subst (All (λ n. n < 2 ^ 31)) (sym e) (All-from_recursion (λ n. n < 2 ^ 31) (map as_count bs) (few-each bs))
