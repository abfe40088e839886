-- Lines of bytes that come in parts: bytes that end with a line feed, and bytes without one.
use Rattle.std.proofs.Common.{◌≡◌, ℕ, Bool, true, false, cond, ◌==◌, ◌||◌, inl, inr, List, [], ◌∷◌, ◌++◌, refl, sym, ap, ◌∙◌, subst, append_assoc, append-nil}
use Rattle.std.proofs.lemmas.List.Elements.{filter-append}
use Rattle.std.specs.List.{list_any, AllByRecursion}
use Rattle.sf_text_lines.specs.Lines.{Line, lines_of, onto_first, ended_lines, IsWhole, HasNoFeed}

-- a byte goes onto the first line of several, also where more lines follow
onto_first-append : (b : ℕ) (line : Line) (lines more : List Line) → onto_first b ((line ∷ lines) ++ more) ≡ onto_first b (line ∷ lines) ++ more
onto_first-append b line lines more = refl

-- the line that a byte begins or goes on
abbrev pub begun : Bool → ℕ → List Line → List Line
begun b c lines = cond b (record { bytes = []; ended = true } ∷ lines) (onto_first c lines)

begun-append : (b : Bool) (c : ℕ) (lines more : List Line) → ((lines ≡ []) → ⊥) → begun b c (lines ++ more) ≡ begun b c lines ++ more
begun-append true c lines more some = refl
begun-append false c [] more some = absurd (some refl)
begun-append false c (line ∷ lines) more some = refl

pub some_lines : (xs : List ℕ) → lines_of (xs ++ 10 ∷ []) ≡ [] → ⊥
some_lines [] h = cc
some_lines (x ∷ xs) h = some_begun (x == 10) x (lines_of (xs ++ 10 ∷ [])) h
  where
    some_begun : (b : Bool) (c : ℕ) (lines : List Line) → begun b c lines ≡ [] → ⊥
    some_begun true c lines h = cc
    some_begun false c [] h = cc
    some_begun false c (line ∷ lines) h = cc

-- what comes after a line feed begins a new line
pub lines_of-append : (xs ys : List ℕ) → lines_of ((xs ++ 10 ∷ []) ++ ys) ≡ lines_of (xs ++ 10 ∷ []) ++ lines_of ys
lines_of-append [] ys = refl
lines_of-append (x ∷ xs) ys =
    ap (begun (x == 10) x) (lines_of-append xs ys) ∙ begun-append (x == 10) x (lines_of (xs ++ 10 ∷ [])) (lines_of ys) (some_lines xs)

pub lines_of-whole : (xs ys : List ℕ) → IsWhole xs → lines_of (xs ++ ys) ≡ lines_of xs ++ lines_of ys
lines_of-whole xs ys (inl none) = ap (λ l. lines_of (l ++ ys)) none ∙ ap (λ l. lines_of l ++ lines_of ys) (sym none)
lines_of-whole xs ys (inr (front, is)) = ap (λ l. lines_of (l ++ ys)) is ∙ lines_of-append front ys ∙ ap (λ l. lines_of l ++ lines_of ys) (sym is)

pub IsWhole-append : (xs ys : List ℕ) → IsWhole xs → IsWhole ys → IsWhole (xs ++ ys)
IsWhole-append xs ys whole (inl none) = subst IsWhole (sym (ap (λ l. xs ++ l) none ∙ append-nil xs)) whole
IsWhole-append xs ys whole (inr (front, is)) = inr (xs ++ front, ap (λ l. xs ++ l) is ∙ sym (append_assoc xs front (10 ∷ [])))

-- each line has its line feed
abbrev AllEnded : List Line → Type 0
AllEnded lines = AllByRecursion (λ line. line.ended ≡ true) lines

AllEnded-begun : (b : Bool) (c : ℕ) (lines : List Line) → (lines ≡ [] → ⊥) → AllEnded lines → AllEnded (begun b c lines)
AllEnded-begun true c lines some all = (refl, all)
AllEnded-begun false c [] some all = absurd (some refl)
AllEnded-begun false c (line ∷ lines) some all = all

AllEnded-fed : (xs : List ℕ) → AllEnded (lines_of (xs ++ 10 ∷ []))
AllEnded-fed [] = (refl, tt)
AllEnded-fed (x ∷ xs) = AllEnded-begun (x == 10) x (lines_of (xs ++ 10 ∷ [])) (some_lines xs) (AllEnded-fed xs)

AllEnded-whole : (xs : List ℕ) → IsWhole xs → AllEnded (lines_of xs)
AllEnded-whole xs (inl none) = subst (λ l. AllEnded (lines_of l)) (sym none) tt
AllEnded-whole xs (inr (front, is)) = subst (λ l. AllEnded (lines_of l)) (sym is) (AllEnded-fed front)

ended_lines-all : (lines : List Line) → AllEnded lines → ended_lines lines ≡ lines
ended_lines-all [] all = refl
ended_lines-all (line ∷ lines) all = ap (λ b. cond b (line ∷ ended_lines lines) (ended_lines lines)) all.0 ∙ ap (λ l. line ∷ l) (ended_lines-all lines all.1)

-- bytes without a line feed are no line, or one that goes on
pub lines_of-unfed : (x : ℕ) (xs : List ℕ) → HasNoFeed (x ∷ xs) → lines_of (x ∷ xs) ≡ record { bytes = x ∷ xs; ended = false } ∷ []
lines_of-unfed x [] unfed = at_byte (x == 10) unfed
  where
    at_byte : (b : Bool) → b || false ≡ false → begun b x [] ≡ record { bytes = x ∷ []; ended = false } ∷ []
    at_byte true h = cc
    at_byte false h = refl
lines_of-unfed x (y ∷ ys) unfed = at_byte (lines_of-unfed y ys) (x == 10) unfed
  where
    at_byte : (HasNoFeed (y ∷ ys) → lines_of (y ∷ ys) ≡ record { bytes = y ∷ ys; ended = false } ∷ [])
        → (b : Bool) → b || list_any (λ c. c == 10) (y ∷ ys) ≡ false → begun b x (lines_of (y ∷ ys)) ≡ record { bytes = x ∷ y ∷ ys; ended = false } ∷ []
    at_byte later true h = cc
    at_byte later false h = ap (onto_first x) (later h)

ended_lines-unfed : (xs : List ℕ) → HasNoFeed xs → ended_lines (lines_of xs) ≡ []
ended_lines-unfed [] unfed = refl
ended_lines-unfed (x ∷ xs) unfed = ap ended_lines (lines_of-unfed x xs unfed)

-- a line and its line feed are one line
pub lines_of-fed : (xs : List ℕ) → HasNoFeed xs → lines_of (xs ++ 10 ∷ []) ≡ record { bytes = xs; ended = true } ∷ []
lines_of-fed [] unfed = refl
lines_of-fed (x ∷ xs) unfed = at_byte (lines_of-fed xs) (x == 10) unfed
  where
    at_byte : (HasNoFeed xs → lines_of (xs ++ 10 ∷ []) ≡ record { bytes = xs; ended = true } ∷ [])
        → (b : Bool) → b || list_any (λ c. c == 10) xs ≡ false → begun b x (lines_of (xs ++ 10 ∷ [])) ≡ record { bytes = x ∷ xs; ended = true } ∷ []
    at_byte later true h = cc
    at_byte later false h = ap (onto_first x) (later h)

-- bytes without a line feed after others without one
pub HasNoFeed-append : (xs ys : List ℕ) → HasNoFeed xs → HasNoFeed ys → HasNoFeed (xs ++ ys)
HasNoFeed-append [] ys unfed more = more
HasNoFeed-append (x ∷ xs) ys unfed more = at_byte (HasNoFeed-append xs ys) (x == 10) unfed
  where
    at_byte : (HasNoFeed xs → HasNoFeed ys → HasNoFeed (xs ++ ys)) → (b : Bool) → b || list_any (λ c. c == 10) xs ≡ false → b || list_any (λ c. c == 10) (xs ++ ys) ≡ false
    at_byte later true h = cc
    at_byte later false h = later h more

-- a line and its line feed are whole
pub IsWhole-fed : (xs : List ℕ) → IsWhole (xs ++ 10 ∷ [])
IsWhole-fed xs = inr (xs, refl)

-- the whole lines of whole bytes and of others without a line feed after them are the lines of the whole ones
pub ended_lines-whole : (xs ys : List ℕ) → IsWhole xs → HasNoFeed ys → ended_lines (lines_of (xs ++ ys)) ≡ lines_of xs
ended_lines-whole xs ys whole unfed =
    ap ended_lines (lines_of-whole xs ys whole) ∙ filter-append (λ line. line.ended) (lines_of xs) (lines_of ys)
    ∙ ap (λ l. ended_lines (lines_of xs) ++ l) (ended_lines-unfed ys unfed) ∙ append-nil _ ∙ ended_lines-all (lines_of xs) (AllEnded-whole xs whole)

-- the whole lines of bytes that begin with whole ones
pub ended_lines-append : (xs ys : List ℕ) → IsWhole xs → ended_lines (lines_of (xs ++ ys)) ≡ lines_of xs ++ ended_lines (lines_of ys)
ended_lines-append xs ys whole =
    ap ended_lines (lines_of-whole xs ys whole) ∙ filter-append (λ line. line.ended) (lines_of xs) (lines_of ys)
    ∙ ap (λ l. l ++ ended_lines (lines_of ys)) (ended_lines-all (lines_of xs) (AllEnded-whole xs whole))
