-- Entries by number, all issued, and one more under the next number.
use Rattle.std.proofs.Common.{◌≡◌, ℕ, ◌+◌, ◌<◌, false, cond, List, [], ◌∷◌, ◌++◌, map, Some, None, nat_eq, refl, ap, ◌∙◌, arith}
use Rattle.std.proofs.lemmas.Bool.{lt-ltb, le-ltb, eq-eqb}
use Rattle.std.proofs.lemmas.Bool.Decides.{nat_tests}
use Rattle.std.specs.declared.cmp.Ordering.TheVariants.{Less, Equal, Greater}
use Rattle.std.specs.Ordering.{nat_cmp, match_ordering}
use Rattle.std.specs.BTreeMap.{insert_entry}
use Rattle.std.specs.List.{AllByRecursion}
use Rattle.std.specs.List.Sorted.{IsStrictlySortedBy}
use Rattle.std.specs.Map.{lookup, keys_of, remove_entry}
use Rattle.sf_layers.specs.WellFormed.{IsIssued}

nat_cmp-below : (m n : ℕ) → m < n → nat_cmp m n ≡ Less
nat_cmp-below m n h = ap (λ b. cond b Less (cond (nat_eq m n) Equal Greater)) (lt-ltb m n h)

pub nat_eq-above : (m n : ℕ) → m < n → nat_eq n m ≡ false
nat_eq-above m n h = grind (arith, nat_tests)

nat_cmp-above : (m n : ℕ) → m < n → nat_cmp n m ≡ Greater
nat_cmp-above m n h =
    ap (λ b. cond b Less (cond (nat_eq n m) Equal Greater)) (le-ltb n m (omega arith)) ∙ ap (λ b. cond b Equal Greater) (nat_eq-above m n h)

pub all-push : {X Y : Type 0} (P : Y → Type 0) (f : X → Y) (xs : List X) (x : X) → AllByRecursion P (map f xs) → P (f x) → AllByRecursion P (map f (xs ++ x ∷ []))
all-push P f [] x all new = (new, tt)
all-push P f (y ∷ ys) x all new = (all.0, all-push P f ys x all.1 new)

-- an entry under the next number stands last
pub insert_entry-next : {X : Type 0} (next : ℕ) (es : List (ℕ × X)) (x : X) → AllByRecursion (IsIssued next) (keys_of es) → insert_entry nat_cmp es next x ≡ es ++ (next, x) ∷ []
insert_entry-next next [] x all = refl
insert_entry-next next (e ∷ es) x all =
    ap (λ o. match_ordering o ((next, x) ∷ e ∷ es) ((e.0, x) ∷ es) (e ∷ insert_entry nat_cmp es next x)) (nat_cmp-above e.0 next all.0.1)
    ∙ ap (λ rest. e ∷ rest) (insert_entry-next next es x all.1)

-- no entry has the next number
pub lookup-next : {X : Type 0} (next : ℕ) (es : List (ℕ × X)) → AllByRecursion (IsIssued next) (keys_of es) → lookup (nat_eq next) es ≡ None
lookup-next next [] all = refl
lookup-next next (e ∷ es) all = ap (λ b. cond b (Some e.1) (lookup (nat_eq next) es)) (nat_eq-above e.0 next all.0.1) ∙ lookup-next next es all.1

pub lookup-push : {X : Type 0} (next : ℕ) (es : List (ℕ × X)) (x : X) → AllByRecursion (IsIssued next) (keys_of es) → lookup (nat_eq next) (es ++ (next, x) ∷ []) ≡ Some x
lookup-push next [] x all = ap (λ b. cond b (Some x) None) (eq-eqb next next refl)
lookup-push next (e ∷ es) x all =
    ap (λ b. cond b (Some e.1) (lookup (nat_eq next) (es ++ (next, x) ∷ []))) (nat_eq-above e.0 next all.0.1) ∙ lookup-push next es x all.1

-- and it is taken out again
pub remove_entry-push : {X : Type 0} (next : ℕ) (es : List (ℕ × X)) (x : X) → AllByRecursion (IsIssued next) (keys_of es) → remove_entry (nat_eq next) (es ++ (next, x) ∷ []) ≡ es
remove_entry-push next [] x all = ap (λ b. cond b [] ((next, x) ∷ [])) (eq-eqb next next refl)
remove_entry-push next (e ∷ es) x all =
    ap (λ b. cond b (es ++ (next, x) ∷ []) (e ∷ remove_entry (nat_eq next) (es ++ (next, x) ∷ []))) (nat_eq-above e.0 next all.0.1)
    ∙ ap (λ rest. e ∷ rest) (remove_entry-push next es x all.1)

pub rising-push : {X : Type 0} (next : ℕ) (es : List (ℕ × X)) (x : X) → AllByRecursion (IsIssued next) (keys_of es) → IsStrictlySortedBy nat_cmp (keys_of es)
    → IsStrictlySortedBy nat_cmp (keys_of (es ++ (next, x) ∷ []))
unfolding IsStrictlySortedBy
rising-push next [] x all rising = (tt, tt)
rising-push next (e ∷ es) x all rising =
    (all-push (λ y. nat_cmp e.0 y ≡ Less) (λ entry. entry.0) es (next, x) rising.0 (nat_cmp-below e.0 next all.0.1), rising-push next es x all.1 rising.1)

-- a number that is issued stays so
pub IsIssued-next : (next : ℕ) (xs : List ℕ) → AllByRecursion (IsIssued next) xs → AllByRecursion (IsIssued (next + 1)) xs
IsIssued-next next [] all = tt
IsIssued-next next (x ∷ xs) all = ((all.0.0, omega (arith, all.0.1)), IsIssued-next next xs all.1)
