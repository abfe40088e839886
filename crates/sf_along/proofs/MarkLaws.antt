-- Runs that go together have marks of one another, so they are kept.
use Rattle.std.proofs.Common.{◌≡◌, ◌≢◌, refl, ap, sym, ◌∙◌, subst, ℕ, zero, suc, ◌+◌, ◌<◌, arith, Bool, true, false, cond, not, ◌&&◌, ◌||◌, inl, inr, List, [], ◌∷◌, length, replicate, set, take, get_or}
use Rattle.std.specs.Prelude.{nat_eq, if◌then◌else◌}
use Rattle.std.specs.List.{All, Contains, filter}
use Rattle.std.proofs.Math.Bool.{beq}
use Rattle.std.proofs.lemmas.Bool.{and_from, and_parts, cases_eq}
use Rattle.std.proofs.lemmas.Bool.Decides.{nat_tests}
use Rattle.std.proofs.lemmas.Cmp.{nat_eq_equiv}
use Rattle.std.proofs.lemmas.List.{get_or-set_other, get_or-set_same, length-replicate}
use Rattle.std.proofs.lemmas.List.Folds.{list_any_more, list_any-from_Any}
use Rattle.std.proofs.lemmas.List.Elements.{All-contains, All-contains_itself}
use Rattle.sf_grid.proofs.CallerLemmas.{eq_from_test}
use Rattle.sf_grid.specs.Sharing.{comes_before}
use Rattle.std.specs.Ordering.{int_eq}
use Rattle.sf_along.specs.declared.run.Run.{Run}
use Rattle.sf_along.specs.Marks.{AreMarks, KeepPairs, has_run_at, is_of, may_go, may_have_partner, place_at, place_of}
use Rattle.sf_along.specs.Runs.{GoTogether, IsRun}
use Rattle.sf_along.proofs.NearLaws.{filter-from, filter-has}
use Rattle.sf_along.proofs.ShareLaws.{reached}

-- ---- a table is marked run by run
or-nothing : (x : Bool) → (x || false) ≡ x
or-nothing true = refl
or-nothing false = refl

or-all : (x : Bool) → (x || true) ≡ true
or-all true = refl
or-all false = refl

unequal : (i j : ℕ) → i ≢ j → nat_eq i j ≡ false
unequal i j other = grind (arith, nat_tests)

-- a mark that is set is read at its place alone
mark-read : (marks : List Bool) (i j : ℕ) → i < length marks → get_or (set marks i true) j false ≡ (get_or marks j false || nat_eq i j)
mark-read marks i j l =
    elim (cases_eq j i) [
      | inl e ↦
          subst (λ k. get_or (set marks i true) k false ≡ (get_or marks k false || nat_eq i k)) (sym e)
          (get_or-set_same marks i true false l ∙ sym (ap (λ b. get_or marks i false || b) (nat_eq_equiv.refl i) ∙ or-all (get_or marks i false)))
      | inr n ↦ get_or-set_other marks i j true false n ∙ sym (ap (λ b. get_or marks j false || b) (unequal i j (λ e. n (sym e))) ∙ or-nothing (get_or marks j false))
    ]

-- with no run gone through none is marked
pub none-marked : (is_first : Bool) (n : ℕ) (marks : List Bool) → marks ≡ replicate n false → (length marks ≡ n) × AreMarks marks is_first []
none-marked is_first n marks is = (ap length is ∙ length-replicate n false, λ place. ap (λ m. get_or m place false) is ∙ unmarked n place)
  where
    unmarked : (n place : ℕ) → get_or (replicate n false) place false ≡ false
    unmarked zero place = refl
    unmarked (suc n) zero = refl
    unmarked (suc n) (suc place) = unmarked n place

module _ (marks : List Bool) (is_first : Bool) (runs : List Run) (n : ℕ) (r : Run) (within : n < length runs) (is : r ≡ get_or runs n r) where
  one-more : (place : ℕ) → has_run_at (take (n + 1) runs) is_first place ≡ (has_run_at (take n runs) is_first place || (is_of is_first r && nat_eq (place_of r) place))
  one-more place =
      list_any_more (λ s. is_of is_first s && nat_eq (place_of s) place) runs n r within
      ∙ ap (λ s. has_run_at (take n runs) is_first place || (is_of is_first s && nat_eq (place_of s) place)) (sym is)

  -- the next run's mark is set
  pub marked-set : place_of r < length marks → is_of is_first r ≡ true → AreMarks marks is_first (take n runs) → AreMarks (set marks (place_of r) true) is_first (take (n + 1) runs)
  marked-set l own h place =
      mark-read marks (place_of r) place l
      ∙ ap (λ b. b || nat_eq (place_of r) place) (h place)
      ∙ sym (one-more place ∙ ap (λ b. has_run_at (take n runs) is_first place || (b && nat_eq (place_of r) place)) own)

  -- or it is one of the other geometry
  pub marked-other : is_of is_first r ≡ false → AreMarks marks is_first (take n runs) → AreMarks marks is_first (take (n + 1) runs)
  marked-other other h place =
      h place
      ∙ sym (one-more place ∙ ap (λ b. has_run_at (take n runs) is_first place || (b && nat_eq (place_of r) place)) other ∙ or-nothing (has_run_at (take n runs) is_first place))

-- what the loop asks of a run is whether it is of that geometry
pub asked-of : (r : Run) (is_first : Bool) → beq r.is_first is_first ≡ is_of is_first r
asked-of r is_first = by r.is_first is_first
  where
    by : (p q : Bool) → beq p q ≡ (if q then p else not p)
    by true true = refl
    by true false = refl
    by false true = refl
    by false false = refl

-- ---- runs that go together are of one place, which has a mark of either
same-place : (r s : Run) → IsRun r → IsRun s → GoTogether r s → place_of r ≡ place_of s
same-place r s h k g =
    let parts = and_parts (int_eq r.slope s.slope && int_eq r.height s.height) (comes_before s.left r.right) (reached r s h k g.share) in
    let numbers = and_parts (int_eq r.slope s.slope) (int_eq r.height s.height) parts.0 in
    ap (λ z. place_at z r.height) (eq_from_test r.slope s.slope numbers.0) ∙ ap (place_at s.slope) (eq_from_test r.height s.height numbers.1)

-- where s goes with r, r may have a partner
partner : (runs : List Run) (r s : Run) → (r.is_first ≡ s.is_first → ⊥) → place_of r ≡ place_of s → Contains runs s → may_have_partner runs r ≡ true
partner runs r s differ same i =
    list_any-from_Any (λ t. is_of (not r.is_first) t && nat_eq (place_of t) (place_of r)) runs
    (i.0, s, i.1, i.2, and_from (is_of (not r.is_first) s) (nat_eq (place_of s) (place_of r)) (by r.is_first s.is_first differ) (subst (λ n. nat_eq (place_of s) n ≡ true) (sym same) (nat_eq_equiv.refl (place_of s))))
  where
    by : (p q : Bool) → (p ≡ q → ⊥) → (if not p then q else not q) ≡ true
    by true true d = absurd (d refl)
    by true false d = refl
    by false true d = refl
    by false false d = absurd (d refl)

pub kept-pairs : (runs : List Run) → KeepPairs runs (filter (may_have_partner runs) runs)
kept-pairs runs = record {
  from = λ r c. filter-from (may_have_partner runs) runs r c;
  has = λ r s h k i j g. (
    filter-has (may_have_partner runs) runs r (partner runs r s g.differ (same-place r s h k g) j) i,
    filter-has (may_have_partner runs) runs s (partner runs s r (λ e. g.differ (sym e)) (sym (same-place r s h k g)) i) j,
  );
}

-- the marks of both geometries tell which runs may have a partner
pub may_go-is : (of_first of_second : List Bool) (runs : List Run) → AreMarks of_first true runs → AreMarks of_second false runs
    → (r : Run) → may_go of_first of_second r ≡ may_have_partner runs r
may_go-is of_first of_second runs first second r = by r.is_first
  where
    by : (p : Bool) → get_or (if p then of_second else of_first) (place_of r) false ≡ has_run_at runs (not p) (place_of r)
    by true = second (place_of r)
    by false = first (place_of r)

-- so they keep those
pub may_go-filter : (of_first of_second : List Bool) (runs : List Run) → AreMarks of_first true runs → AreMarks of_second false runs
    → filter (may_go of_first of_second) runs ≡ filter (may_have_partner runs) runs
may_go-filter of_first of_second runs first second = same_filter (may_go of_first of_second) (may_have_partner runs) (may_go-is of_first of_second runs first second) runs
  where
    same_filter : (p q : Run → Bool) → ((r : Run) → p r ≡ q r) → (rs : List Run) → filter p rs ≡ filter q rs
    same_filter p q same [] = refl
    same_filter p q same (r ∷ rs) = ap (λ b. cond b (r ∷ filter p rs) (filter p rs)) (same r) ∙ ap (λ ts. cond (q r) (r ∷ ts) ts) (same_filter p q same rs)

-- what all have, those that are kept have
pub all-of-kept : (P : Run → Type 0) (runs kept : List Run) → All P runs → KeepPairs runs kept → All P kept
all-of-kept P runs kept all pairs = λ k d l. All-contains P runs (get_or kept k d) all (pairs.from (get_or kept k d) (All-contains_itself kept k d l))
