-- The text of a moment is read as that moment, and is the only one of 24 bytes.
use Rattle.std.proofs.Common.{◌≡◌, ℕ, ◌+◌, ◌-◌, ◌*◌, ◌/◌, ◌%◌, ◌<◌, true, ◌&&◌, List, [], ◌∷◌, ◌++◌, length, take, drop, Option, None, Some, refl, sym, ap, ◌∙◌, arith, length-drop, append_assoc}
use Rattle.std.specs.Prelude.{◌==◌, nat_lt, if◌then◌else◌}
use Rattle.std.proofs.lemmas.Bool.{and_parts, and_from}
use Rattle.std.proofs.lemmas.Bool.Decides.{nat_tests}
use Rattle.std.proofs.lemmas.List.{take-append-drop, drop-drop}
use Rattle.sf_dates.specs.declared.day.Day.{Day}
use Rattle.sf_dates.specs.declared.moment.Moment.{Moment}
use Rattle.sf_dates.specs.Calendar.{IsDateTime, is_date, day_milliseconds}
use Rattle.sf_dates.specs.Texts.{two_digits, two, three, date_spelled, date_text, second_by, second_spelled, second_text, millisecond_spelled, millisecond_text, datetime_by, datetime_spelled, datetime_text}
use Rattle.sf_dates.proofs.Numbers.{lt_from, lt_true, chosen, some_is, two_read, three_read, two_back, three_back}
use Rattle.sf_dates.proofs.Days.{date_read, date_back}

-- ---- a second of a day

second_read_by : (p q r : Option ℕ) (h m s : ℕ) → p ≡ Some h → q ≡ Some m → r ≡ Some s → h < 24 → m < 60 → s < 60 → second_by p q r ≡ Some (3600 * h + 60 * m + s)
second_read_by p q r h m s hp hq hr hour minute second =
    (λ i. second_by (hp i) (hq i) (hr i))
    ∙ ap (λ b. if b then Some (3600 * h + 60 * m + s) else None)
    (and_from (nat_lt h 24 && nat_lt m 60) (nat_lt s 60) (and_from (nat_lt h 24) (nat_lt m 60) (lt_true h 24 hour) (lt_true m 60 minute)) (lt_true s 60 second))

second_whole : (s : ℕ) → 3600 * (s / 3600) + 60 * (s / 60 % 60) + s % 60 ≡ s
second_whole s =
    let hours : s / 3600 ≡ s / 60 / 60 = omega arith in
    let minutes : 60 * (s / 60 / 60) + s / 60 % 60 ≡ s / 60 = omega arith in
    let seconds : 60 * (s / 60) + s % 60 ≡ s = omega arith in
    omega (arith, hours, minutes, seconds)

second_read : (s : ℕ) → s < 86400 → second_spelled (second_text s) ≡ Some s
second_read s small =
    second_read_by
    (two (48 + s / 3600 / 10) (48 + s / 3600 % 10)) (two (48 + s / 60 % 60 / 10) (48 + s / 60 % 60 % 10)) (two (48 + s % 60 / 10) (48 + s % 60 % 10))
    (s / 3600) (s / 60 % 60) (s % 60)
    (two_read (s / 3600) (omega (arith, small))) (two_read (s / 60 % 60) (below (s / 60))) (two_read (s % 60) (below s))
    (omega (arith, small)) (sixty (s / 60)) (sixty s)
    ∙ ap Some (second_whole s)
  where
    below : (n : ℕ) → n % 60 < 100
    below n = omega arith

    sixty : (n : ℕ) → n % 60 < 60
    sixty n = omega arith

record Clock (s : ℕ) (p q r : Option ℕ) : Type 0 where
  hour : ℕ
  minute : ℕ
  second : ℕ
  is_hour : p ≡ Some hour
  is_minute : q ≡ Some minute
  is_second : r ≡ Some second
  within : hour < 24
  few : minute < 60
  small : second < 60
  whole : 3600 * hour + 60 * minute + second ≡ s

clock_back : (s : ℕ) (p q r : Option ℕ) → second_by p q r ≡ Some s → Clock s p q r
clock_back s None q r is = absurd cc
clock_back s (Some h) None r is = absurd cc
clock_back s (Some h) (Some m) None is = absurd cc
clock_back s (Some h) (Some m) (Some k) is =
    let found = chosen (nat_lt h 24 && nat_lt m 60 && nat_lt k 60) (Some (3600 * h + 60 * m + k)) s is in
    let outer = and_parts (nat_lt h 24 && nat_lt m 60) (nat_lt k 60) found.0 in
    let inner = and_parts (nat_lt h 24) (nat_lt m 60) outer.0 in
    record {
      hour = h;
      minute = m;
      second = k;
      is_hour = refl;
      is_minute = refl;
      is_second = refl;
      within = lt_from h 24 inner.0;
      few = lt_from m 60 inner.1;
      small = lt_from k 60 outer.1;
      whole = some_is _ s found.1;
    }

-- the hour, the minute and the second of a second of the day
split_back : (h m k s : ℕ) → h < 24 → m < 60 → k < 60 → 3600 * h + 60 * m + k ≡ s → (s < 86400) × (s / 3600 ≡ h) × (s / 60 % 60 ≡ m) × (s % 60 ≡ k)
split_back h m k s hour minute second whole =
    let minutes : s / 60 ≡ 60 * h + m = omega (arith, second, whole) in
    (omega (arith, hour, minute, second, whole), omega (arith, minute, second, whole), omega (arith, minutes, minute), omega (arith, second, whole))

mark_from : (b mark : ℕ) → (b == mark) ≡ true → mark ≡ b
mark_from b mark h = grind (arith, nat_tests)

second_back : (bytes : List ℕ) (s : ℕ) → second_spelled bytes ≡ Some s → (s < 86400) × (second_text s ≡ bytes)
second_back [] s is = absurd cc
second_back (l ∷ []) s is = absurd cc
second_back (l ∷ a ∷ []) s is = absurd cc
second_back (l ∷ a ∷ b ∷ []) s is = absurd cc
second_back (l ∷ a ∷ b ∷ m ∷ []) s is = absurd cc
second_back (l ∷ a ∷ b ∷ m ∷ c ∷ []) s is = absurd cc
second_back (l ∷ a ∷ b ∷ m ∷ c ∷ d ∷ []) s is = absurd cc
second_back (l ∷ a ∷ b ∷ m ∷ c ∷ d ∷ n ∷ []) s is = absurd cc
second_back (l ∷ a ∷ b ∷ m ∷ c ∷ d ∷ n ∷ e ∷ []) s is = absurd cc
second_back (l ∷ a ∷ b ∷ m ∷ c ∷ d ∷ n ∷ e ∷ f ∷ g ∷ rest) s is = absurd cc
second_back (l ∷ a ∷ b ∷ m ∷ c ∷ d ∷ n ∷ e ∷ f ∷ []) s is =
    let found = chosen (l == 84 && m == 58 && n == 58) (second_by (two a b) (two c d) (two e f)) s is in
    let outer = and_parts (l == 84 && m == 58) (n == 58) found.0 in
    let inner = and_parts (l == 84) (m == 58) outer.0 in
    let front = mark_from l 84 inner.0 in
    let first = mark_from m 58 inner.1 in
    let second = mark_from n 58 outer.1 in
    let clock = clock_back s (two a b) (two c d) (two e f) found.1 in
    let at = split_back clock.hour clock.minute clock.second s clock.within clock.few clock.small clock.whole in
    let hour = two_back a b clock.hour clock.is_hour in
    let minute = two_back c d clock.minute clock.is_minute in
    let rest = two_back e f clock.second clock.is_second in (
      at.0,
      (λ i. 84 ∷ (two_digits (at.1 i) ++ (58 ∷ (two_digits (at.2 i) ++ (58 ∷ two_digits (at.3 i))))))
          ∙ (λ i. front i ∷ (hour.1 i ++ (first i ∷ (minute.1 i ++ (second i ∷ rest.1 i))))),
    )

-- ---- a millisecond of a second

millisecond_back : (bytes : List ℕ) (k : ℕ) → millisecond_spelled bytes ≡ Some k → (k < 1000) × (length bytes ≡ 5 → millisecond_text k ≡ bytes)
millisecond_back [] k is = absurd cc
millisecond_back (l ∷ []) k is =
    let found = chosen (l == 90) (Some 0) k is in
    let none = some_is 0 k found.1 in
    (omega (arith, none), λ h. absurd (omega (arith, h)))
millisecond_back (l ∷ a ∷ []) k is = absurd cc
millisecond_back (l ∷ a ∷ b ∷ []) k is = absurd cc
millisecond_back (l ∷ a ∷ b ∷ c ∷ []) k is = absurd cc
millisecond_back (l ∷ a ∷ b ∷ c ∷ m ∷ n ∷ rest) k is = absurd cc
millisecond_back (l ∷ a ∷ b ∷ c ∷ m ∷ []) k is =
    let found = chosen (l == 46 && m == 90) (three a b c) k is in
    let marks = and_parts (l == 46) (m == 90) found.0 in
    let front = mark_from l 46 marks.0 in
    let last = mark_from m 90 marks.1 in
    let digits = three_back a b c k found.1 in
    (digits.0, λ five. (λ i. front i ∷ (digits.1 i ++ (last i ∷ []))))

-- ---- a moment

moment_read_by : (p : Option Day) (q r : Option ℕ) (date : Day) (s k : ℕ) → p ≡ Some date → q ≡ Some s → r ≡ Some k → datetime_by p q r ≡ Some (record { date = date; millisecond = 1000 * s + k })
moment_read_by p q r date s k hp hq hr = λ i. datetime_by (hp i) (hq i) (hr i)

-- a moment that is written is read as that moment
pub datetime_read : (t : Moment) → IsDateTime t → datetime_spelled (datetime_text t) ≡ Some t
datetime_read t is =
    let parts = and_parts (is_date t.date.year t.date.month t.date.day) (nat_lt t.millisecond day_milliseconds) is in
    let within = lt_from t.millisecond 86400000 parts.1 in
    moment_read_by
    (date_spelled (date_text t.date)) (second_spelled (second_text (t.millisecond / 1000)))
    (millisecond_spelled (millisecond_text (t.millisecond % 1000)))
    t.date (t.millisecond / 1000) (t.millisecond % 1000)
    (date_read t.date.year t.date.month t.date.day parts.0) (second_read (t.millisecond / 1000) (omega (arith, within)))
    (three_read (t.millisecond % 1000) (omega arith))
    ∙ ap (λ (n : ℕ). Some (record { date = t.date; millisecond = n })) (whole t.millisecond)
  where
    whole : (n : ℕ) → 1000 * (n / 1000) + n % 1000 ≡ n
    whole n = omega arith

record MomentRead (t : Moment) (p : Option Day) (q r : Option ℕ) : Type 0 where
  second : ℕ
  millisecond : ℕ
  is_date : p ≡ Some t.date
  is_second : q ≡ Some second
  is_millisecond : r ≡ Some millisecond
  whole : 1000 * second + millisecond ≡ t.millisecond

moment_back : (t : Moment) (p : Option Day) (q r : Option ℕ) → datetime_by p q r ≡ Some t → MomentRead t p q r
moment_back t None q r is = absurd cc
moment_back t (Some date) None r is = absurd cc
moment_back t (Some date) (Some s) None is = absurd cc
moment_back t (Some date) (Some s) (Some k) is =
    let same = some_is (record { date = date; millisecond = 1000 * s + k }) t is in
    record {
      second = s;
      millisecond = k;
      is_date = ap (λ (x : Moment). Some x.date) same;
      is_second = refl;
      is_millisecond = refl;
      whole = ap (λ (x : Moment). x.millisecond) same;
    }

halves : (s k n : ℕ) → s < 86400 → k < 1000 → 1000 * s + k ≡ n → (n < 86400000) × (n / 1000 ≡ s) × (n % 1000 ≡ k)
halves s k n few small whole = (omega (arith, few, small, whole), omega (arith, small, whole), omega (arith, small, whole))

-- a text in three pieces
pieces : (text : List ℕ) → take 10 text ++ (take 9 (drop 10 text) ++ drop 19 text) ≡ text
pieces text =
    ap (λ rest. take 10 text ++ (take 9 (drop 10 text) ++ rest)) (sym (drop-drop 9 10 text))
    ∙ ap (λ rest. take 10 text ++ rest) (take-append-drop 9 (drop 10 text))
    ∙ take-append-drop 10 text

five : (text : List ℕ) → length text ≡ 24 → length (drop 19 text) ≡ 5
five text h = length-drop 19 text ∙ ap (λ n. n - 19) h

-- a text that spells a moment is one of a moment that there is, and of 24 bytes it is its text
pub datetime_back : (text : List ℕ) (t : Moment) → datetime_spelled text ≡ Some t → IsDateTime t × (length text ≡ 24 → datetime_text t ≡ text)
datetime_back text t is =
    let moment = moment_back t (date_spelled (take 10 text)) (second_spelled (take 9 (drop 10 text))) (millisecond_spelled (drop 19 text)) is in
    let date = date_back (take 10 text) t.date moment.is_date in
    let second = second_back (take 9 (drop 10 text)) moment.second moment.is_second in
    let millisecond = millisecond_back (drop 19 text) moment.millisecond moment.is_millisecond in
    let at = halves moment.second moment.millisecond t.millisecond second.0 millisecond.0 moment.whole in (
      and_from (is_date t.date.year t.date.month t.date.day) (nat_lt t.millisecond day_milliseconds) date.0 (lt_true t.millisecond 86400000 at.0),
      λ whole.
          let last = millisecond.1 (five text whole) in
          (λ i. date.1 i ++ (second_text (at.1 i) ++ millisecond_text (at.2 i)))
          ∙ (λ i. take 10 text ++ (second.1 i ++ last i))
          ∙ pieces text,
    )

-- ---- texts behind a text

pub joined : (old first second date time last : List ℕ) → first ≡ old ++ date → second ≡ first ++ time → second ++ last ≡ old ++ (date ++ (time ++ last))
joined old first second date time last one two =
    (λ i. two i ++ last) ∙ (λ i. (one i ++ time) ++ last) ∙ append_assoc (old ++ date) time last ∙ append_assoc old date (time ++ last)
