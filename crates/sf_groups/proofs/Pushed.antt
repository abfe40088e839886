-- A member put behind others.
use Rattle.std.proofs.Common.{◌≡◌, ℕ, Bool, true, false, cond, ◌||◌, List, [], ◌∷◌, ◌++◌, append_assoc, Option, None, Some, is_some, IsTrue, bytes_eq, refl, ap, sym, subst, ◌∙◌}
use Rattle.std.specs.List.{list_any}
use Rattle.std.specs.Map.{update}
use Rattle.sf_groups.specs.declared.member.Member.{Member}
use Rattle.sf_groups.specs.Members.{FollowInTurn, IsGroup, may_follow}

append-none : {X : Type 0} (xs : List X) → xs ++ [] ≡ xs
append-none [] = refl
append-none (x ∷ xs) = ap (λ r. x ∷ r) (append-none xs)

FollowInTurn-push : (earlier members : List Member) (member : Member) → FollowInTurn earlier members → IsTrue (may_follow (earlier ++ members) member) → FollowInTurn earlier (members ++ member ∷ [])
FollowInTurn-push earlier [] member follow may = (subst (λ l. IsTrue (may_follow l member)) (append-none earlier) may, tt)
FollowInTurn-push earlier (m ∷ ms) member follow may =
    (follow.0, FollowInTurn-push (earlier ++ m ∷ []) ms member follow.1 (subst (λ l. IsTrue (may_follow l member)) (sym (append_assoc earlier (m ∷ []) ms)) may))

-- a group with one more member that may stand there is one
pub IsGroup-push : (members : List Member) (member : Member) → IsGroup members → IsTrue (may_follow members member) → IsGroup (members ++ member ∷ [])
IsGroup-push members member group may = FollowInTurn-push [] members member group may

or_assoc : (a b c : Bool) → a || (b || c) ≡ (a || b) || c
or_assoc true b c = refl
or_assoc false b c = refl

or_none : (a : Bool) → a || false ≡ a
or_none true = refl
or_none false = refl

-- a test of one more
pub any-push : {X : Type 0} (test : X → Bool) (xs : List X) (x : X) → list_any test (xs ++ x ∷ []) ≡ (list_any test xs || test x)
any-push test [] x = or_none (test x)
any-push test (y ∷ ys) x = ap (λ b. test y || b) (any-push test ys x) ∙ or_assoc (test y) (list_any test ys) (test x)

-- a name that was put in is there, and all others as before
pub noted : {X : Type 0} (b : Bool) (x : X) (o : Option X) → is_some (cond b (Some x) o) ≡ (is_some o || b)
noted true x None = refl
noted true x (Some y) = refl
noted false x None = refl
noted false x (Some y) = refl

-- what a map finds once a name was put in
pub noted-put : {X : Type 0} (old new : List ℕ → Option X) (key layer : List ℕ) (x : X) → key ≡ layer → ((other : List ℕ) → new other ≡ update bytes_eq old key (Some x) other)
    → (name : List ℕ) → is_some (new name) ≡ (is_some (old name) || bytes_eq layer name)
noted-put old new key layer x is updated name =
    ap is_some (updated name) ∙ noted (bytes_eq key name) x (old name) ∙ ap (λ k. is_some (old name) || bytes_eq k name) is

-- a name that is there already
pub noted-already : (old : List ℕ → Bool) (name other : List ℕ) → old name ≡ true → (bytes_eq name other ≡ true → name ≡ other) → old other ≡ (old other || bytes_eq name other)
noted-already old name other there decides = by (bytes_eq name other) refl (old other) refl
  where
    by : (b : Bool) → bytes_eq name other ≡ b → (o : Bool) → old other ≡ o → o ≡ (o || b)
    by true is true at = refl
    by true is false at = let yes : old other ≡ true = ap old (sym (decides is)) ∙ there in cc
    by false is o at = sym (or_none o)
