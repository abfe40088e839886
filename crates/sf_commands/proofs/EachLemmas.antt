-- What is made of each of a list, one after the other, where so many may be at most.
use Rattle.std.proofs.Common.{◌≡◌, ◌≢◌, ◌∙◌, ◌⊎◌, ℕ, suc, ◌+◌, ◌<◌, ◌≤◌, Bool, true, false, ◌&&◌, nat_lt, nat_le, inl, inr, List, [], ◌∷◌, ◌++◌, length, Option, None, Some, option_map, option_and_then, if◌then◌else◌, refl, sym, ap, arith, append_assoc, append-nil}
use Rattle.std.proofs.lemmas.Grind.{common_steps}
use Rattle.sf_commands.specs.Commands.{each}

-- what was made so far, before what is made of the rest
abbrev pub after : {Y : Type 0} → List Y → Option (List Y) → Option (List Y)
after done later = option_map (λ ys. done ++ ys) later

-- of a list so many are made into these, and those are left: some, once one is made
pub record AreMade {X Y : Type 0} (make : X → Option Y) (all left : List X) (done : List Y) (count : ℕ) : Type 0 where
  pub made : each make all ≡ after done (each make left)
  pub counted : length all ≡ count + length left
  pub goes_on : (count ≡ 0) ⊎ (left ≢ [])

-- what is made of each of some, and so many at most
abbrev pub each_of_few : {X Y : Type 0} → ℕ → (X → Option Y) → List X → Option (List Y)
each_of_few most make all = if nat_lt 0 (length all) && nat_le (length all) most then each make all else None

-- whether the number of them is one that may be
in_bounds : (most n : ℕ) → 0 < n → n ≤ most → (nat_lt 0 n && nat_le n most) ≡ true
in_bounds most n some few = grind (arith, common_steps)

too_many : (most n : ℕ) → most < n → (nat_lt 0 n && nat_le n most) ≡ false
too_many most n many = grind (arith, common_steps)

module _ {X Y : Type 0} (make : X → Option Y) where
  after-nothing : (o : Option (List Y)) → o ≡ after [] o
  after-nothing None = refl
  after-nothing (Some ys) = refl

  pub none_made : (all : List X) → AreMade make all all [] 0
  none_made all = record { made = after-nothing (each make all); counted = omega arith; goes_on = inl refl }

  after-one : (done : List Y) (y : Y) (o : Option (List Y)) → after done (option_map (λ ys. y ∷ ys) o) ≡ after (done ++ y ∷ []) o
  after-one done y None = refl
  after-one done y (Some ys) = ap Some (sym (append_assoc done (y ∷ []) ys))

  -- one more
  made-more : (all left rest : List X) (done : List Y) (x : X) (y : Y) → each make all ≡ after done (each make left) → left ≡ x ∷ rest → make x ≡ Some y
      → each make all ≡ after (done ++ y ∷ []) (each make rest)
  made-more all left rest done x y made is spelled =
      made ∙ ap (λ w. after done (each make w)) is
      ∙ ap (λ o. after done (option_and_then (λ y. option_map (λ ys. y ∷ ys) (each make rest)) o)) spelled
      ∙ after-one done y (each make rest)

  pub one_made : (all left rest : List X) (done now : List Y) (count : ℕ) (x : X) (y : Y) → AreMade make all left done count → left ≡ x ∷ rest → make x ≡ Some y → now ≡ done ++ y ∷ [] → rest ≢ []
      → AreMade make all rest now (count + 1)
  one_made all left rest done now count x y are is spelled pushed some = record {
    made = made-more all left rest done x y are.made is spelled ∙ ap (λ d. after d (each make rest)) (sym pushed);
    counted = let len : length left ≡ suc (length rest) = ap length is in omega (arith, are.counted);
    goes_on = inr some;
  }

  -- the last of them
  pub all_made : (most : ℕ) (all left rest : List X) (done now : List Y) (count : ℕ) (x : X) (y : Y) → AreMade make all left done count → left ≡ x ∷ rest → make x ≡ Some y → now ≡ done ++ y ∷ [] → rest ≡ [] → count < most
      → each_of_few most make all ≡ Some now
  all_made most all left rest done now count x y are is spelled pushed none few =
      let len : length left ≡ suc (length rest) = ap length is in
      let last : length rest ≡ 0 = ap length none in
      ap (λ b. if b then each make all else None) (in_bounds most (length all) (omega (arith, are.counted)) (omega (arith, are.counted)))
      ∙ made-more all left rest done x y are.made is spelled
      ∙ ap (λ w. after (done ++ y ∷ []) (each make w)) none
      ∙ ap Some (append-nil (done ++ y ∷ []) ∙ sym pushed)

  -- one of which nothing is made
  pub not_made : (most : ℕ) (all left rest : List X) (done : List Y) (count : ℕ) (x : X) → AreMade make all left done count → left ≡ x ∷ rest → make x ≡ None → each_of_few most make all ≡ None
  not_made most all left rest done count x are is spelled =
      let none : each make all ≡ None =
      are.made ∙ ap (λ w. after done (each make w)) is ∙ ap (λ o. after done (option_and_then (λ y. option_map (λ ys. y ∷ ys) (each make rest)) o)) spelled in
      by (nat_lt 0 (length all) && nat_le (length all) most) (each make all) none
    where
      by : (b : Bool) (o : Option (List Y)) → o ≡ None → (if b then o else None) ≡ None
      by true o none = none
      by false o none = refl

  -- nothing where one is to be
  pub nothing_made : (most : ℕ) (all left : List X) (done : List Y) (count : ℕ) → AreMade make all left done count → left ≡ [] → each_of_few most make all ≡ None
  nothing_made most all left done count are none = by are.goes_on
    where
      by : (count ≡ 0) ⊎ (left ≢ []) → each_of_few most make all ≡ None
      by (inl zero_made) =
          let last : length left ≡ 0 = ap length none in
          let nothing : length all ≡ 0 = omega (arith, are.counted) in
          ap (λ n. if nat_lt 0 n && nat_le n most then each make all else None) nothing
      by (inr some) = absurd (some none)

  -- one behind the last that may be
  pub too_many_made : (most : ℕ) (all left : List X) (done : List Y) (count : ℕ) → 0 < most → AreMade make all left done count → count ≡ most → each_of_few most make all ≡ None
  too_many_made most all left done count some are last = by left are.counted are.goes_on
    where
      by : (w : List X) → length all ≡ count + length w → (count ≡ 0) ⊎ (w ≢ []) → each_of_few most make all ≡ None
      by w counted (inl zero_made) = absurd (omega arith)
      by [] counted (inr some) = absurd (some refl)
      by (x ∷ more) counted (inr some) = ap (λ b. if b then each make all else None) (too_many most (length all) (omega arith))
