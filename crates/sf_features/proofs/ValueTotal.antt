-- Values are in one order, whatever their types.
use Rattle.std.proofs.Common.{◌≡◌, ℕ, ℤ, pos, ◌*ℤ◌, List, [], Bool, false, refl, ◌∙◌, subst, arith}
use Rattle.std.specs.Cmp.{IsTotalOrder, bool_cmp_total, int_cmp_total, nat_cmp_total, on_total, then_total}
use Rattle.std.specs.Cmp.Lexicographic.{nat_list_cmp_total, slice_cmp}
use Rattle.std.proofs.lemmas.Cmp.{int_ranked}
use Rattle.std.proofs.lemmas.Int.{ints}
use Rattle.std.specs.Prelude.{◌<ℤ◌}
use Rattle.std.specs.Ordering.{MatchOrdering, bool_cmp, int_cmp, nat_cmp, on, ordering_then, then_cmp}
use Rattle.std.specs.declared.cmp.Ordering.{Ordering}
use Rattle.std.specs.declared.cmp.Ordering.TheVariants.{Less, Equal, Greater}
use Rattle.sf_dates.specs.Calendar.{day_cmp, moment_cmp}
use Rattle.sf_dates.specs.declared.day.Day.{Day}
use Rattle.sf_dates.specs.declared.moment.Moment.{Moment}
use Rattle.sf_decimals.specs.Decimals.{scaled}
use Rattle.sf_features.specs.declared.attr_value.AttrValue.{AttrValue}
use Rattle.sf_features.specs.declared.attr_value.AttrValue.TheVariants.{Int, Text, Decimal, Bool as Truth, Date, DateTime}
use Rattle.sf_features.specs.Order.{rank_of, value_cmp}

-- what a value is made of, whatever its type: a number, bytes, a truth value, a moment
abbrev number_in : AttrValue → ℤ
number_in (Int n) = scaled (record { mantissa = n; places = 0 })
number_in (Decimal number) = scaled number
number_in value = pos 0

abbrev bytes_in : AttrValue → List ℕ
bytes_in (Text bytes) = bytes
bytes_in value = []

abbrev truth_in : AttrValue → Bool
truth_in (Truth is) = is
truth_in value = false

abbrev day_zero : Day
day_zero = record { year = 0; month = 0; day = 0 }

abbrev moment_in : AttrValue → Moment
moment_in (Date day) = record { date = day; millisecond = 0 }
moment_in (DateTime moment) = moment
moment_in value = record { date = day_zero; millisecond = 0 }

abbrev by_parts : AttrValue → AttrValue → Ordering
by_parts = then_cmp (on rank_of nat_cmp) (then_cmp (on number_in int_cmp) (then_cmp (on bytes_in (slice_cmp nat_cmp)) (then_cmp (on truth_in bool_cmp) (on moment_in moment_cmp))))

days_total : IsTotalOrder day_cmp
days_total = then_total (then_total (on_total (λ day. day.year) nat_cmp_total) (on_total (λ day. day.month) nat_cmp_total)) (on_total (λ day. day.day) nat_cmp_total)

moments_total : IsTotalOrder moment_cmp
moments_total = then_total (on_total (λ moment. moment.date) days_total) (on_total (λ moment. moment.millisecond) nat_cmp_total)

parts_total : IsTotalOrder by_parts
parts_total =
    then_total (on_total rank_of nat_cmp_total)
    (then_total (on_total number_in int_cmp_total)
    (then_total (on_total bytes_in nat_list_cmp_total) (then_total (on_total truth_in bool_cmp_total) (on_total moment_in moments_total))))

then-equal : (r : Ordering) → ordering_then r Equal ≡ r
then-equal Less = refl
then-equal Equal = refl
then-equal Greater = refl

abbrev large : ℤ → ℤ
large n = n *ℤ pos 1000000000000000000

same_scale : (a b : ℤ) → int_cmp (scaled (record { mantissa = a; places = 0 })) (scaled (record { mantissa = b; places = 0 })) ≡ int_cmp a b
same_scale a b =
    by (int_cmp (large a) (large b)) (int_cmp a b) (int_ranked (large a) (large b) _ refl) (int_ranked a b _ refl)
  where
    by : (s r : Ordering) → MatchOrdering s (large a <ℤ large b) (large a ≡ large b) (large b <ℤ large a)
        → MatchOrdering r (a <ℤ b) (a ≡ b) (b <ℤ a) → s ≡ r
    by Less Less h k = refl
    by Less Equal h k = absurd (omega (arith, ints, h, k))
    by Less Greater h k = absurd (omega (arith, ints, h, k))
    by Equal Less h k = absurd (omega (arith, ints, h, k))
    by Equal Equal h k = refl
    by Equal Greater h k = absurd (omega (arith, ints, h, k))
    by Greater Less h k = absurd (omega (arith, ints, h, k))
    by Greater Equal h k = absurd (omega (arith, ints, h, k))
    by Greater Greater h k = refl

same_order : (a b : AttrValue) → by_parts a b ≡ value_cmp a b
same_order (Int a) (Int b) = then-equal (int_cmp (number_in (Int a)) (number_in (Int b))) ∙ same_scale a b
same_order (Int a) (Decimal b) = then-equal (value_cmp (Int a) (Decimal b))
same_order (Decimal a) (Int b) = then-equal (value_cmp (Decimal a) (Int b))
same_order (Decimal a) (Decimal b) = then-equal (value_cmp (Decimal a) (Decimal b))
same_order (Text a) (Text b) = then-equal (slice_cmp nat_cmp a b)
same_order (Truth a) (Truth b) = then-equal (bool_cmp a b)
same_order (Date a) (Date b) = then-equal (day_cmp a b)
same_order (DateTime a) (DateTime b) = refl
same_order (Int a) (Text b) = refl
same_order (Int a) (Truth b) = refl
same_order (Int a) (Date b) = refl
same_order (Int a) (DateTime b) = refl
same_order (Decimal a) (Text b) = refl
same_order (Decimal a) (Truth b) = refl
same_order (Decimal a) (Date b) = refl
same_order (Decimal a) (DateTime b) = refl
same_order (Text a) (Int b) = refl
same_order (Text a) (Decimal b) = refl
same_order (Text a) (Truth b) = refl
same_order (Text a) (Date b) = refl
same_order (Text a) (DateTime b) = refl
same_order (Truth a) (Int b) = refl
same_order (Truth a) (Decimal b) = refl
same_order (Truth a) (Text b) = refl
same_order (Truth a) (Date b) = refl
same_order (Truth a) (DateTime b) = refl
same_order (Date a) (Int b) = refl
same_order (Date a) (Decimal b) = refl
same_order (Date a) (Text b) = refl
same_order (Date a) (Truth b) = refl
same_order (Date a) (DateTime b) = refl
same_order (DateTime a) (Int b) = refl
same_order (DateTime a) (Decimal b) = refl
same_order (DateTime a) (Text b) = refl
same_order (DateTime a) (Truth b) = refl
same_order (DateTime a) (Date b) = refl

-- the order of values is a total one
pub values_total : IsTotalOrder value_cmp
values_total = subst IsTotalOrder (λ i a b. same_order a b i) parts_total
