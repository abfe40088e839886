-- Where the first line feed stands.
use Rattle.std.proofs.Common.{◌≡◌, ℕ, suc, ◌+◌, ◌<◌, ◌≤◌, ◌==◌, ◌||◌, Bool, true, false, not, cond, nat_lt, List, [], ◌∷◌, ◌++◌, length, take, drop, get_or, None, Some, MatchOption, refl, sym, ap, ◌∙◌, subst, arith, append_assoc, take-append-drop, drop-cons}
use Rattle.std.specs.List.{prefix_len, position, list_any}
use Rattle.std.proofs.lemmas.List.Sums.{prefix_len-le-length, prefix_len_stops}
use Rattle.std.proofs.lemmas.Grind.{common_steps}
use Rattle.sf_text_lines.specs.Lines.{HasNoFeed}

-- the first line feed stands at this place
pub record IsFirstFeed (bytes : List ℕ) (at : ℕ) : Type 0 where
  pub inside : at < length bytes
  pub unfed : HasNoFeed (take at bytes)
  pub parts : bytes ≡ (take at bytes ++ 10 ∷ []) ++ drop (at + 1) bytes

-- a line feed
abbrev is_feed : ℕ → Bool
is_feed b = b == 10

-- no line feed
abbrev is_other : ℕ → Bool
is_other b = not (is_feed b)

unfed-take : (bs : List ℕ) → HasNoFeed (take (prefix_len is_other bs) bs)
unfed-take [] = refl
unfed-take (b ∷ bs) = at_byte (unfed-take bs) (is_feed b) refl
  where
    at_byte : HasNoFeed (take (prefix_len is_other bs) bs) → (x : Bool) → is_feed b ≡ x
        → HasNoFeed (take (cond (not x) (1 + prefix_len is_other bs) 0) (b ∷ bs))
    at_byte later true is = refl
    at_byte later false is =
        let more : 1 + prefix_len is_other bs ≡ suc (prefix_len is_other bs) = omega arith in
        subst (λ n. HasNoFeed (take n (b ∷ bs))) (sym more) (ap (λ x. x || list_any is_feed (take (prefix_len is_other bs) bs)) is ∙ later)

take-length : (bs : List ℕ) → take (length bs) bs ≡ bs
take-length [] = refl
take-length (b ∷ bs) = ap (λ l. b ∷ l) (take-length bs)

not_other : (b : ℕ) → is_other b ≡ false → b ≡ 10
not_other b h = grind (arith, common_steps)

first_feed : (bs : List ℕ) (n : ℕ) → n ≡ prefix_len is_other bs → n < length bs → IsFirstFeed bs n
first_feed bs n is inside = record {
  inside = inside;
  unfed = subst (λ m. HasNoFeed (take m bs)) (sym is) (unfed-take bs);
  parts =
      let feed : get_or bs n 0 ≡ 10 = ap (λ m. get_or bs m 0) is ∙ not_other _ (prefix_len_stops is_other bs 0 (subst (λ m. m < length bs) is inside)) in
      let after : n + 1 ≡ suc n = omega arith in
      sym (take-append-drop n bs) ∙ ap (λ l. take n bs ++ l) (drop-cons bs n 0 inside ∙ ap (λ b. b ∷ drop (suc n) bs) feed)
      ∙ sym (append_assoc (take n bs) (10 ∷ []) (drop (suc n) bs)) ∙ ap (λ m. (take n bs ++ 10 ∷ []) ++ drop m bs) (sym after);
}

-- the place that a search for a line feed gives, or none where there is none
pub position-feed : (bs : List ℕ) → MatchOption (position (λ b. b == 10) bs) (HasNoFeed bs) (IsFirstFeed bs)
position-feed bs = at_place (nat_lt (prefix_len is_other bs) (length bs)) refl
  where
    at_place : (x : Bool) → nat_lt (prefix_len is_other bs) (length bs) ≡ x
        → MatchOption (cond x (Some (prefix_len is_other bs)) None) (HasNoFeed bs) (IsFirstFeed bs)
    at_place true is = first_feed bs (prefix_len is_other bs) refl (grind (arith, common_steps))
    at_place false is =
        let low : prefix_len is_other bs ≤ length bs = prefix_len-le-length is_other bs in
        let all : prefix_len is_other bs ≡ length bs = grind (arith, common_steps) in
        subst HasNoFeed (ap (λ n. take n bs) all ∙ take-length bs) (unfed-take bs)
