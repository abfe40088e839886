-- What a line buffer has of a line that goes on.
use Rattle.std.proofs.Common.{◌≡◌, ℕ, ◌+◌, ◌<◌, ◌≤◌, ◌||◌, Bool, true, false, cond, nat_lt, List, [], ◌++◌, length, Option, None, Some, refl, sym, ap, ◌∙◌, arith, lit≤, length-append}
use Rattle.std.proofs.lemmas.Grind.{common_steps}
use Rattle.sf_text_lines.specs.Lines.{line_max}
use Rattle.sf_text_lines.specs.Buffers.{Buffered, nothing_buffered, buffered_with, line_buffered, IsBufferOf}

-- what a buffer has, by whether it is too long
abbrev buffered_by : Bool → List ℕ → Option (List ℕ)
buffered_by overlong bytes = cond overlong None (Some bytes)

pub line_buffered-Some : (buffered : Buffered) (bytes : List ℕ) → Some bytes ≡ line_buffered buffered → (buffered.overlong ≡ false) × (buffered.bytes ≡ bytes)
line_buffered-Some buffered bytes h = at_mark buffered.overlong h
  where
    at_mark : (x : Bool) → Some bytes ≡ buffered_by x buffered.bytes → (x ≡ false) × (buffered.bytes ≡ bytes)
    at_mark true h = absurd (cc)
    at_mark false h = (refl, cc)

pub line_buffered-None : (buffered : Buffered) → None ≡ line_buffered buffered → buffered.overlong ≡ true
line_buffered-None buffered h = at_mark buffered.overlong h
  where
    at_mark : (x : Bool) → None ≡ buffered_by x buffered.bytes → x ≡ true
    at_mark true h = refl
    at_mark false h = absurd (cc)

-- what a buffer has where nothing came is nothing
pub nothing_buffered-of : (buffered : Buffered) → buffered.overlong ≡ false → buffered.bytes ≡ [] → buffered ≡ nothing_buffered
nothing_buffered-of buffered short none = ap (λ (b : List ℕ). record { bytes = b; overlong = buffered.overlong }) none ∙ ap (λ (x : Bool). record { bytes = []; overlong = x }) short

pub IsBufferOf-nothing : IsBufferOf [] nothing_buffered
IsBufferOf-nothing = record { whole = λ h. refl; short = λ h. lit≤ tt; long = λ h. absurd (cc) }

-- nothing is buffered of no byte alone
pub IsBufferOf-none : (before : List ℕ) (buffered : Buffered) → IsBufferOf before buffered → buffered ≡ nothing_buffered → before ≡ []
IsBufferOf-none before buffered is_buffer none = sym (is_buffer.whole (ap (λ k. k.overlong) none)) ∙ ap (λ k. k.bytes) none

-- further bytes go onto what a buffer has
pub IsBufferOf-extend : (before more : List ℕ) (buffered : Buffered) → IsBufferOf before buffered → IsBufferOf (before ++ more) (buffered_with buffered more)
IsBufferOf-extend before more buffered is_buffer = at_mark buffered.overlong refl (nat_lt line_max (length buffered.bytes + length more)) refl
  where
    at_mark : (x : Bool) → buffered.overlong ≡ x → (y : Bool) → nat_lt line_max (length buffered.bytes + length more) ≡ y
        → IsBufferOf (before ++ more) (cond (x || y) (record { bytes = []; overlong = true }) (record { bytes = buffered.bytes ++ more; overlong = false }))
    at_mark true is y is_long =
        record {
          whole = λ h. absurd (cc);
          short = λ h. absurd (cc);
          long = λ h. omega (arith, is_buffer.long is, length-append before more);
        }
    at_mark false is true is_long =
        let same : length buffered.bytes ≡ length before = ap length (is_buffer.whole is) in
        let over : line_max < length buffered.bytes + length more = grind (arith, common_steps) in
        record { whole = λ h. absurd (cc); short = λ h. absurd (cc); long = λ h. omega (arith, length-append before more) }
    at_mark false is false is_long =
        let same : length buffered.bytes ≡ length before = ap length (is_buffer.whole is) in
        let fits : length buffered.bytes + length more ≤ line_max = grind (arith, common_steps) in
        record {
          whole = λ h. ap (λ l. l ++ more) (is_buffer.whole is);
          short = λ h. omega (arith, length-append before more);
          long = λ h. absurd (cc);
        }
