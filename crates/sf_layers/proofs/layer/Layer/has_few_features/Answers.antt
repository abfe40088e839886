use Rattle.std.proofs.Common.{◌≡◌, ℕ, zero, suc, ◌+◌, ◌<◌, ◌≤◌, List, length, false, true, refl, ap, arith}
use Rattle.std.proofs.lemmas.Bool.{false≢true}
use Rattle.std.proofs.lemmas.List.Elements.{All-weaker}
use Rattle.std.proofs.lemmas.Map.Entries.{length-keys_of}
use Rattle.std.proofs.lemmas.Map.Views.{length-le_from_below}
use Rattle.std.specs.List.{All}
use Rattle.std.specs.List.Sorted.{IsStrictlySortedBy}
use Rattle.std.specs.Map.{keys_of}
use Rattle.std.specs.Ordering.{is_lt, nat_cmp}
use Rattle.std.specs.declared.cmp.Ordering.{Ordering}
use Rattle.std.specs.declared.cmp.Ordering.TheVariants.{Less, Equal, Greater}
use Rattle.sf_features.proofs.Entries.{equal-same, greater-above}
use Rattle.sf_layers.proofs.layer.Layer.has_few_features.Goals as goal
use Rattle.sf_layers.proofs.layer.Layer.has_few_features.Goals.{In-Some}

not_above : (m n : ℕ) → is_lt (nat_cmp m n) ≡ false → n < m + 1
not_above m n h = by (nat_cmp m n) h (equal-same m n) (greater-above m n)
  where
    by : (o : Ordering) → is_lt o ≡ false → (o ≡ Equal → m ≡ n) → (o ≡ Greater → n < m) → n < m + 1
    by Less h equal greater = cc
    by Equal h equal greater = omega (arith, equal (λ i. Equal))
    by Greater h equal greater = omega (arith, greater (λ i. Greater))

-- rising numbers up to one are at most one more than it
up_to : (last : ℕ) (numbers : List ℕ) → IsStrictlySortedBy nat_cmp numbers → All (λ n. is_lt (nat_cmp last n) ≡ false) numbers → length numbers ≤ last + 1
up_to last numbers rising below =
    length-le_from_below (last + 1) numbers rising (All-weaker (λ n. is_lt (nat_cmp last n) ≡ false) (λ n. n < last + 1) (λ n h. not_above last n h) numbers below)

few : (c : In-Some) → length c.self.inside.features.entries ≤ c.in-Some.id.now + 1
few c =
    let entries = c.self.inside.features.entries in
    let numbers = up_to c.in-Some.id.now (keys_of entries) c.len-count.ensures.ordered c.in-Some.ensures.all_up_to in
    omega (arith, numbers, length-keys_of entries)

pub prove-unreachable-requires : goal.prove-unreachable-requires
prove-unreachable-requires c =
    let f = few (goal.at.prove-unreachable-requires c).In-Some in
    omega (arith, f, c.if-prove.true, c.len-count.ensures.len)

pub returns-in-Some : goal.returns-in-Some
returns-in-Some c =
    let f = few (goal.at.returns-in-Some c).In-Some in
    omega (arith, f, ap (λ l. length l.features) c.self.view_is)

none_there : (n : ℕ) → (0 < n → false ≡ true) → n ≡ 0
none_there zero some = refl
none_there (suc n) some = absurd (false≢true (some (omega arith)))

pub returns-in_default : goal.returns-in_default
returns-in_default c =
    let none = none_there (length c.self.inside.features.entries) c.in_default.ensures.variant.1 in
    omega (arith, none, ap (λ l. length l.features) c.self.view_is)
