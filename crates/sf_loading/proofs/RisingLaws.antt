-- Entries by rising numbers, and one more behind them.
use Rattle.std.proofs.Common.{◌≡◌, ℕ, ◌+◌, ◌<◌, List, [], ◌∷◌, ◌++◌, None, refl, arith, nat_eq}
use Rattle.std.specs.BTreeMap.{insert_entry}
use Rattle.std.specs.List.{AllByRecursion}
use Rattle.std.specs.List.Sorted.{IsStrictlySortedBy}
use Rattle.std.specs.Map.{keys_of, lookup}
use Rattle.std.specs.Ordering.{nat_cmp}
use Rattle.sf_layers.specs.WellFormed.{IsIssued}
use Rattle.sf_layers.proofs.Issued.{all-push, insert_entry-next, lookup-next, rising-push}
use Rattle.sf_layers.proofs.Kept.{all-weaker}
use Rattle.sf_format.specs.Format.{last_number}
use Rattle.sf_loading.specs.Types.{AreUpTo}

pub up-nothing : {X : Type 0} → AreUpTo {X = X} 0 []
unfolding IsStrictlySortedBy
up-nothing = record { is_last = refl; issued = tt; rising = tt }

below : {X : Type 0} (last n : ℕ) (es : List (ℕ × X)) → last < n → AreUpTo last es → AllByRecursion (IsIssued n) (keys_of es)
below last n es above up = all-weaker (IsIssued (last + 1)) (IsIssued n) (λ k is. (is.0, omega (arith, is.1, above))) (keys_of es) up.issued

last-push : {X : Type 0} (es : List (ℕ × X)) (n : ℕ) (x : X) → last_number (es ++ (n, x) ∷ []) ≡ n
last-push [] n x = refl
last-push (e ∷ []) n x = refl
last-push (e ∷ f ∷ es) n x = last-push (f ∷ es) n x

-- an entry under a greater number stands last
pub up-inserted : {X : Type 0} (last n : ℕ) (es : List (ℕ × X)) (x : X) → last < n → AreUpTo last es → insert_entry nat_cmp es n x ≡ es ++ (n, x) ∷ []
up-inserted last n es x above up = insert_entry-next n es x (below last n es above up)

-- no entry has a greater number
pub up-free : {X : Type 0} (last n : ℕ) (es : List (ℕ × X)) → last < n → AreUpTo last es → lookup (nat_eq n) es ≡ None
up-free last n es above up = lookup-next n es (below last n es above up)

pub up-push : {X : Type 0} (last n : ℕ) (es : List (ℕ × X)) (x : X) → last < n → AreUpTo last es → AreUpTo n (es ++ (n, x) ∷ [])
up-push last n es x above up = record {
  is_last = last-push es n x;
  issued = all-push (IsIssued (n + 1)) (λ e. e.0) es (n, x) (all-weaker (IsIssued n) (IsIssued (n + 1)) (λ k is. (is.0, omega (arith, is.1))) (keys_of es) (below last n es above up)) (omega (arith, above), omega arith);
  rising = rising-push n es x (below last n es above up) up.rising;
}

pub push-all : {X : Type 0} (P : X → Type 0) (xs : List X) (x : X) → AllByRecursion P xs → P x → AllByRecursion P (xs ++ x ∷ [])
push-all P [] x all new = (new, tt)
push-all P (y ∷ ys) x all new = (all.0, push-all P ys x all.1 new)
