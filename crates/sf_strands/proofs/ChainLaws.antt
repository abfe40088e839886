-- Chains of links at a point: of each link whether the point is on it, and whether it is where the link ends.
use Rattle.std.proofs.Common.{◌≡◌, ℕ, ◌+◌, ◌*◌, ◌≤◌, Bool, true, false, cond, ◌&&◌, ◌||◌, not, List, [], ◌∷◌, refl, ap, sym, ◌∙◌, arith, nat_le}
use Rattle.std.proofs.Common.{◌⊎◌, inl, inr}
use Rattle.sf_grid.proofs.NumberTests.{same_tests}
use Rattle.std.specs.List.{list_any}
use Rattle.std.proofs.lemmas.Bool.{or_cases, or_left, or_right}

-- an edge of a line, as a point sees it
pub record Link : Type 0 where
  pub on : Bool
  pub ends : Bool

abbrev pub bit : Bool → ℕ
bit b = cond b 1 0

-- the point is where the first link begins or not; a link begins where the one before it ends, its ends differ, and
-- its ends are on it
abbrev pub IsChain : Bool → List Link → Type 0
IsChain begins [] = Unit {0}
IsChain begins (l ∷ ls) = (bit begins + bit l.ends ≤ bit l.on) × IsChain l.ends ls

-- how many links are on the point
abbrev pub on_count : List Link → ℕ
on_count [] = 0
on_count (l ∷ ls) = bit l.on + on_count ls

-- how many links but the last end there
abbrev pub joint_count : List Link → ℕ
joint_count [] = 0
joint_count (l ∷ []) = 0
joint_count (l ∷ m ∷ ls) = bit l.ends + joint_count (m ∷ ls)

-- two links are on the point that aren't neighbours where the first one ends
abbrev pub crosses_next : Link → List Link → Bool
crosses_next l [] = false
crosses_next l (m ∷ ls) = (l.on && (m.on && not l.ends)) || (l.on && list_any (λ n. n.on) ls)

abbrev pub crosses : List Link → Bool
crosses [] = false
crosses (l ∷ ls) = crosses_next l ls || crosses ls

-- each joint has two links
pub joints-twice : (begins : Bool) (l : Link) (ls : List Link) → IsChain begins (l ∷ ls) → 2 * joint_count (l ∷ ls) + bit begins ≤ on_count (l ∷ ls)
joints-twice begins l [] h = omega (arith, h.0)
joints-twice begins l (m ∷ ls) h = omega (arith, h.0, joints-twice l.ends m ls h.1)

-- a link that is on the point somewhere
any-step : (b later : Bool) (n : ℕ) → later ≡ nat_le 1 n → (b || later) ≡ nat_le 1 (bit b + n)
any-step true later n e = grind (arith)
any-step false later n e = e ∙ ap (nat_le 1) (omega arith)

pub any-count : (ls : List Link) → list_any (λ n. n.on) ls ≡ nat_le 1 (on_count ls)
any-count [] = refl
any-count (l ∷ ls) = any-step l.on (list_any (λ n. n.on) ls) (on_count ls) (any-count ls)

pub le-test : (m n : ℕ) → m ≤ n → nat_le m n ≡ true
le-test m n h = grind (arith)

pub test-le : (m n : ℕ) → nat_le m n ≡ true → m ≤ n
test-le m n h = grind (arith)

-- the first link against the next and the later ones, by counts: c of the later ones are on the point
step : (on ends mon any later : Bool) (c joints : ℕ) → any ≡ nat_le 1 c → later ≡ nat_le (joints + 2) (bit mon + c) → bit ends ≤ bit on → bit ends ≤ bit mon
    → 2 * joints + bit ends ≤ bit mon + c
    → (((on && (mon && not ends)) || (on && any)) || later) ≡ nat_le (bit ends + joints + 2) (bit on + (bit mon + c))
step false true mon any later c joints a l h m t = absurd (omega (arith, h))
step false false mon any later c joints a l h m t = l ∙ ap (λ n. nat_le n (bit mon + c)) (omega arith) ∙ ap (nat_le (0 + joints + 2)) (omega arith)
step true true false any later c joints a l h m t = absurd (omega (arith, m))
step true true true any later c joints a l h m t = same_tests (any || later) _ there back
  where
    by : (any ≡ true) ⊎ (later ≡ true) → nat_le (1 + joints + 2) (1 + (1 + c)) ≡ true
    by (inl x) = le-test _ _ (omega (arith, t, test-le 1 c (sym a ∙ x)))
    by (inr x) = le-test _ _ (omega (arith, test-le (joints + 2) (1 + c) (sym l ∙ x)))

    there : (any || later) ≡ true → nat_le (1 + joints + 2) (1 + (1 + c)) ≡ true
    there passed = by (or_cases any later passed)

    back : nat_le (1 + joints + 2) (1 + (1 + c)) ≡ true → (any || later) ≡ true
    back passed = or_right any later (l ∙ le-test _ _ (omega (arith, test-le (1 + joints + 2) (1 + (1 + c)) passed)))
step true false true any later c joints a l h m t = sym (le-test (0 + joints + 2) (1 + (1 + c)) (omega (arith, t)))
step true false false any later c joints a l h m t = same_tests (any || later) _ there back
  where
    by : (any ≡ true) ⊎ (later ≡ true) → nat_le (0 + joints + 2) (1 + (0 + c)) ≡ true
    by (inl x) = le-test _ _ (omega (arith, t, test-le 1 c (sym a ∙ x)))
    by (inr x) = le-test _ _ (omega (arith, test-le (joints + 2) (0 + c) (sym l ∙ x)))

    there : (any || later) ≡ true → nat_le (0 + joints + 2) (1 + (0 + c)) ≡ true
    there passed = by (or_cases any later passed)

    back : nat_le (0 + joints + 2) (1 + (0 + c)) ≡ true → (any || later) ≡ true
    back passed = or_left any later (a ∙ le-test _ _ (omega (arith, test-le (0 + joints + 2) (1 + (0 + c)) passed)))

-- a chain crosses at the point just where it has two strands there
pub crosses-strands : (begins : Bool) (ls : List Link) → IsChain begins ls → crosses ls ≡ nat_le (joint_count ls + 2) (on_count ls)
crosses-strands begins [] h = refl
crosses-strands begins (l ∷ []) h = single l.on
  where
    single : (b : Bool) → false ≡ nat_le 2 (bit b + 0)
    single true = refl
    single false = refl
crosses-strands begins (l ∷ m ∷ ls) h =
    step l.on l.ends m.on (list_any (λ n. n.on) ls) (crosses (m ∷ ls)) (on_count ls) (joint_count (m ∷ ls)) (any-count ls)
    (crosses-strands l.ends (m ∷ ls) h.1) (omega (arith, h.0)) (omega (arith, h.1.0)) (joints-twice l.ends m ls h.1)

-- ---- closed chains: the last link ends where the first begins
abbrev pub last_ends : Link → List Link → Bool
last_ends l [] = l.ends
last_ends l (m ∷ ms) = last_ends m ms

-- how many links end at the point, the last one counted
pub joints-and-end : (begins : Bool) (l : Link) (ls : List Link) → IsChain begins (l ∷ ls)
    → 2 * joint_count (l ∷ ls) + bit begins + bit (last_ends l ls) ≤ on_count (l ∷ ls)
joints-and-end begins l [] h = omega (arith, h.0)
joints-and-end begins l (m ∷ ls) h = omega (arith, h.0, joints-and-end l.ends m ls h.1)

-- of a chain that begins and ends at the point, two strands are just a link on the point beside the first and the last
pub closed-strands : (l m : Link) (ls : List Link) → IsChain true (l ∷ m ∷ ls) → last_ends l (m ∷ ls) ≡ true
    → (nat_le 2 (on_count (m ∷ ls)) || crosses (m ∷ ls)) ≡ nat_le (joint_count (l ∷ m ∷ ls) + 1 + 2) (on_count (l ∷ m ∷ ls))
closed-strands l m ls h e = same_tests _ _ there back
  where
    first : (bit l.on ≡ 1) × (bit l.ends ≡ 0)
    first = links l.on l.ends h.0
      where
        links : (on ends : Bool) → bit true + bit ends ≤ bit on → (bit on ≡ 1) × (bit ends ≡ 0)
        links true true f = absurd (omega (arith, f))
        links true false f = (refl, refl)
        links false ends f = absurd (omega (arith, f))

    ends_there : bit (last_ends m ls) ≡ 1
    ends_there = ap bit e

    counted : 2 * joint_count (m ∷ ls) + 1 ≤ on_count (m ∷ ls)
    counted = omega (arith, joints-and-end l.ends m ls h.1, ends_there)

    inner : crosses (m ∷ ls) ≡ nat_le (joint_count (m ∷ ls) + 2) (on_count (m ∷ ls))
    inner = crosses-strands l.ends (m ∷ ls) h.1

    by : (nat_le 2 (on_count (m ∷ ls)) ≡ true) ⊎ (crosses (m ∷ ls) ≡ true) → nat_le (joint_count (l ∷ m ∷ ls) + 1 + 2) (on_count (l ∷ m ∷ ls)) ≡ true
    by (inl x) = le-test _ _ (omega (arith, first.0, first.1, counted, test-le 2 (on_count (m ∷ ls)) x))
    by (inr x) = le-test _ _ (omega (arith, first.0, first.1, test-le (joint_count (m ∷ ls) + 2) (on_count (m ∷ ls)) (sym inner ∙ x)))

    there : (nat_le 2 (on_count (m ∷ ls)) || crosses (m ∷ ls)) ≡ true → nat_le (joint_count (l ∷ m ∷ ls) + 1 + 2) (on_count (l ∷ m ∷ ls)) ≡ true
    there passed = by (or_cases _ _ passed)

    back : nat_le (joint_count (l ∷ m ∷ ls) + 1 + 2) (on_count (l ∷ m ∷ ls)) ≡ true → (nat_le 2 (on_count (m ∷ ls)) || crosses (m ∷ ls)) ≡ true
    back passed = or_right _ _ (inner ∙ le-test _ _ (omega (arith, first.0, first.1, test-le (joint_count (l ∷ m ∷ ls) + 1 + 2) (on_count (l ∷ m ∷ ls)) passed)))
