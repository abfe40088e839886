-- Letters of a text, one after another.
use Rattle.std.proofs.Common.{◌≡◌, ℕ, suc, ◌+◌, ◌<◌, ◌≤◌, List, [], ◌∷◌, ◌++◌, length, take, drop, set, get_or, refl, ap, sym, ◌∙◌, add-one, append_assoc, take-suc-set, drop-cons, Option, Some, None, option_map, option_and_then, Result, Ok, ok_or, ◌==◌, if◌then◌else◌, append-nil, drop_of_length-le, take_all, arith}
use Rattle.sf_known.specs.declared.refusal.Refusal.{Refusal}
use Rattle.sf_known.specs.declared.refusal.Refusal.TheVariants.{BadPattern}
use Rattle.sf_known.specs.declared.letter.Letter.{Letter}
use Rattle.sf_known.specs.Patterns.{letter_of, letters_of, pattern_of}

join : (xs : List Letter) (l : Letter) (r : Option (List Letter))
    → option_map (λ rest. xs ++ rest) (option_map (λ rest. l ∷ rest) r) ≡ option_map (λ rest. (xs ++ l ∷ []) ++ rest) r
join xs l None = refl
join xs l (Some rest) = ap (λ ys. Some ys) (sym (append_assoc xs (l ∷ []) rest))

first : (bytes : List ℕ) (i : ℕ) → i < length bytes → letters_of (drop i bytes)
    ≡ option_and_then (λ letter. option_map (λ letters. letter ∷ letters) (letters_of (drop (suc i) bytes))) (letter_of (get_or bytes i 0))
first bytes i h = ap letters_of (drop-cons bytes i 0 h)

pub letters-step : (bytes : List ℕ) (i : ℕ) (letters : List Letter) (l : Letter) → i < length bytes → i < length letters
    → letter_of (get_or bytes i 0) ≡ Some l
    → letters_of bytes ≡ option_map (λ rest. take i letters ++ rest) (letters_of (drop i bytes))
    → letters_of bytes ≡ option_map (λ rest. take (i + 1) (set letters i l) ++ rest) (letters_of (drop (i + 1) bytes))
letters-step bytes i letters l h k is was =
    was
    ∙ ap (λ r. option_map (λ rest. take i letters ++ rest) r)
    (first bytes i h
    ∙ ap (λ o. option_and_then (λ letter. option_map (λ ls. letter ∷ ls) (letters_of (drop (suc i) bytes))) o) is)
    ∙ join (take i letters) l (letters_of (drop (suc i) bytes))
    ∙ ap (λ ys. option_map (λ rest. ys ++ rest) (letters_of (drop (suc i) bytes))) (sym (take-suc-set letters i l k))
    ∙ ap (λ n. option_map (λ rest. take n (set letters i l) ++ rest) (letters_of (drop n bytes))) (sym (add-one i))

pub letters-whole : (bytes : List ℕ) (i : ℕ) (letters : List Letter) → length bytes ≡ 9 → length letters ≡ 9 → i ≡ 9
    → letters_of bytes ≡ option_map (λ rest. take i letters ++ rest) (letters_of (drop i bytes))
    → ◌≡◌ {A = Result (List Letter) Refusal} (Ok letters) (ok_or (pattern_of bytes) BadPattern)
letters-whole bytes i letters b l e was =
    let few : length bytes ≤ 9 = omega arith in
    sym (ap (λ n. ok_or (if n == 9 then letters_of bytes else None) BadPattern) b
    ∙ ap (λ o. ok_or o BadPattern)
    (was
    ∙ ap (λ n. option_map (λ rest. take n letters ++ rest) (letters_of (drop n bytes))) e
    ∙ ap (λ xs. option_map (λ rest. take 9 letters ++ rest) (letters_of xs)) (drop_of_length-le bytes few)
    ∙ ap (λ xs. Some xs) (append-nil (take 9 letters) ∙ take_all 9 letters (omega arith))))
