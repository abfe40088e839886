-- Lists into which each is put in order: what is put where, what is left of them at the front, and what of those that pass a test.
use Rattle.std.proofs.Common.{◌≡◌, refl, ap, sym, subst, ◌∙◌, ℕ, zero, suc, ◌+◌, ◌≤◌, Bool, true, false, List, [], ◌∷◌, ◌++◌, length, take, filter, arith, cond}
use Rattle.std.specs.Prelude.{if◌then◌else◌}
use Rattle.std.specs.List.{AllByRecursion, insert, prefix_len}
use Rattle.std.proofs.lemmas.Bool.{both_ways}
use Rattle.sf_near.specs.Nearest.{in_order, put_in_order}

module _ {X : Type 0} (lt : X → X → Bool) where
  put-behind : (x y : X) (ys : List X) → lt y x ≡ true → put_in_order lt x (y ∷ ys) ≡ y ∷ put_in_order lt x ys
  put-behind x y ys h = ap (λ b. if b then y ∷ put_in_order lt x ys else x ∷ y ∷ ys) h

  put-here : (x y : X) (ys : List X) → lt y x ≡ false → put_in_order lt x (y ∷ ys) ≡ x ∷ y ∷ ys
  put-here x y ys h = ap (λ b. if b then y ∷ put_in_order lt x ys else x ∷ y ∷ ys) h

  -- ---- where it is put

  pub insert-put : (x : X) (ys : List X) → insert ys (prefix_len (λ y. lt y x) ys) x ≡ put_in_order lt x ys
  insert-put x [] = refl
  insert-put x (y ∷ ys) = by (lt y x) refl (insert-put x ys)
    where
      by : (b : Bool) → lt y x ≡ b → insert ys (prefix_len (λ y. lt y x) ys) x ≡ put_in_order lt x ys → insert (y ∷ ys) (prefix_len (λ y. lt y x) (y ∷ ys)) x ≡ put_in_order lt x (y ∷ ys)
      by true h later =
          let more : 1 + prefix_len (λ y. lt y x) ys ≡ suc (prefix_len (λ y. lt y x) ys) = omega arith in
          ap (λ b. insert (y ∷ ys) (cond b (1 + prefix_len (λ y. lt y x) ys) 0) x) h ∙ ap (λ n. insert (y ∷ ys) n x) more ∙ ap (λ zs. y ∷ zs) later ∙ sym (put-behind x y ys h)
      by false h later = ap (λ b. insert (y ∷ ys) (cond b (1 + prefix_len (λ y. lt y x) ys) 0) x) h ∙ sym (put-here x y ys h)

  -- behind so many of so many it is left out
  pub put-left_out : (k : ℕ) (x : X) (ys : List X) → length ys ≤ k → k ≤ prefix_len (λ y. lt y x) ys → ys ≡ take k (put_in_order lt x ys)
  put-left_out zero x [] few past = refl
  put-left_out (suc k) x [] few past = absurd (omega (arith, past))
  put-left_out zero x (y ∷ ys) few past = absurd (omega (arith, few))
  put-left_out (suc k) x (y ∷ ys) few past = by (lt y x) refl (put-left_out k x ys (omega (arith, few)))
    where
      by : (b : Bool) → lt y x ≡ b → (k ≤ prefix_len (λ y. lt y x) ys → ys ≡ take k (put_in_order lt x ys)) → y ∷ ys ≡ take (suc k) (put_in_order lt x (y ∷ ys))
      by true h later =
          let more : suc k ≤ 1 + prefix_len (λ y. lt y x) ys = subst (λ b. suc k ≤ cond b (1 + prefix_len (λ y. lt y x) ys) 0) h past in
          ap (λ zs. y ∷ zs) (later (omega (arith, more))) ∙ ap (take (suc k)) (sym (put-behind x y ys h))
      by false h later = let none : suc k ≤ 0 = subst (λ b. suc k ≤ cond b (1 + prefix_len (λ y. lt y x) ys) 0) h past in absurd (omega (arith, none))

  -- ---- the front

  take-more : (k : ℕ) (ys : List X) → take k (take (suc k) ys) ≡ take k ys
  take-more zero ys = refl
  take-more (suc k) [] = refl
  take-more (suc k) (y ∷ ys) = ap (λ zs. y ∷ zs) (take-more k ys)

  take-cons : (k : ℕ) (y : X) (ys : List X) → take k (y ∷ take k ys) ≡ take k (y ∷ ys)
  take-cons zero y ys = refl
  take-cons (suc k) y ys = ap (λ zs. y ∷ zs) (take-more k ys)

  -- what is put at the front of so many is what is at the front when it is put among all
  pub take-put : (k : ℕ) (x : X) (ys : List X) → take k (put_in_order lt x (take k ys)) ≡ take k (put_in_order lt x ys)
  take-put zero x ys = refl
  take-put (suc k) x [] = refl
  take-put (suc k) x (y ∷ ys) = by (lt y x) refl (take-put k x ys)
    where
      by : (b : Bool) → lt y x ≡ b → take k (put_in_order lt x (take k ys)) ≡ take k (put_in_order lt x ys) → take (suc k) (put_in_order lt x (y ∷ take k ys)) ≡ take (suc k) (put_in_order lt x (y ∷ ys))
      by true h later =
          ap (take (suc k)) (put-behind x y (take k ys) h) ∙ ap (λ zs. y ∷ zs) later ∙ ap (take (suc k)) (sym (put-behind x y ys h))
      by false h later =
          ap (take (suc k)) (put-here x y (take k ys) h) ∙ ap (λ zs. x ∷ zs) (take-cons k y ys) ∙ ap (take (suc k)) (sym (put-here x y ys h))

  -- ---- one after another

  pub in_order-append : (acc xs : List X) (x : X) → in_order lt acc (xs ++ x ∷ []) ≡ put_in_order lt x (in_order lt acc xs)
  in_order-append acc [] x = refl
  in_order-append acc (y ∷ ys) x = in_order-append (put_in_order lt y acc) ys x

  pub length-put : (x : X) (ys : List X) → length (put_in_order lt x ys) ≡ suc (length ys)
  length-put x [] = refl
  length-put x (y ∷ ys) = by (lt y x) refl (length-put x ys)
    where
      by : (b : Bool) → lt y x ≡ b → length (put_in_order lt x ys) ≡ suc (length ys) → length (put_in_order lt x (y ∷ ys)) ≡ suc (suc (length ys))
      by true h later = ap length (put-behind x y ys h) ∙ ap suc later
      by false h later = ap length (put-here x y ys h)

  pub length-in_order : (acc xs : List X) → length (in_order lt acc xs) ≡ length acc + length xs
  length-in_order acc [] = omega arith
  length-in_order acc (x ∷ xs) = let h = length-in_order (put_in_order lt x acc) xs in let l = length-put x acc in omega (arith, h, l)

  -- what holds of it and of all others holds of all
  pub each-put : (P : X → Type 0) (x : X) (ys : List X) → P x → AllByRecursion P ys → AllByRecursion P (put_in_order lt x ys)
  each-put P x [] h all = (h, tt)
  each-put P x (y ∷ ys) h all = by (lt y x) refl (each-put P x ys h all.1)
    where
      by : (b : Bool) → lt y x ≡ b → AllByRecursion P (put_in_order lt x ys) → AllByRecursion P (put_in_order lt x (y ∷ ys))
      by true is later = subst (AllByRecursion P) (sym (put-behind x y ys is)) (all.0, later)
      by false is later = subst (AllByRecursion P) (sym (put-here x y ys is)) (h, all)

  pub each-in_order : (P : X → Type 0) (acc xs : List X) → AllByRecursion P acc → AllByRecursion P xs → AllByRecursion P (in_order lt acc xs)
  each-in_order P acc [] h all = h
  each-in_order P acc (x ∷ xs) h all = each-in_order P (put_in_order lt x acc) xs (each-put P x acc all.0 h) all.1

  -- ---- in order, where the test is an order of good ones

  -- none that stands behind another one comes before it
  abbrev pub IsOrdered : List X → Type 0
  IsOrdered [] = Unit {0}
  IsOrdered (x ∷ xs) = AllByRecursion (λ y. lt y x ≡ false) xs × IsOrdered xs

  pub record AreOrder (Good : X → Type 0) : Type 0 where
    pub one_way : (x y : X) → lt x y ≡ true → lt y x ≡ false
    pub chain : (x y z : X) → Good x → Good y → Good z → lt y x ≡ false → lt z y ≡ false → lt z x ≡ false

  module _ (Good : X → Type 0) (order : AreOrder Good) where
    all-behind : (x y : X) (zs : List X) → Good x → Good y → AllByRecursion Good zs → lt y x ≡ false → AllByRecursion (λ z. lt z y ≡ false) zs → AllByRecursion (λ z. lt z x ≡ false) zs
    all-behind x y [] f g good h all = tt
    all-behind x y (z ∷ zs) f g good h all = (order.chain x y z f g good.0 h all.0, all-behind x y zs f g good.1 h all.1)

    pub ordered-put : (x : X) (ys : List X) → Good x → AllByRecursion Good ys → IsOrdered ys → IsOrdered (put_in_order lt x ys)
    ordered-put x [] f good is = (tt, tt)
    ordered-put x (y ∷ ys) f good is = by (lt y x) refl (ordered-put x ys f good.1 is.1)
      where
        by : (b : Bool) → lt y x ≡ b → IsOrdered (put_in_order lt x ys) → IsOrdered (put_in_order lt x (y ∷ ys))
        by true h later = subst IsOrdered (sym (put-behind x y ys h)) (each-put (λ z. lt z y ≡ false) x ys (order.one_way y x h) is.0, later)
        by false h later = subst IsOrdered (sym (put-here x y ys h)) ((h, all-behind x y ys f good.0 good.1 h is.0), is)

    pub ordered-in_order : (acc xs : List X) → AllByRecursion Good acc → AllByRecursion Good xs → IsOrdered acc → IsOrdered (in_order lt acc xs)
    ordered-in_order acc [] good all is = is
    ordered-in_order acc (x ∷ xs) good all is =
        ordered-in_order (put_in_order lt x acc) xs (each-put Good x acc all.0 good) all.1 (ordered-put x acc all.0 good is)

    -- ---- those that pass a test that all pass which stand before one that does
    module _ (p : X → Bool) (before : (x y : X) → Good x → Good y → lt y x ≡ false → p y ≡ true → p x ≡ true) where
      keep-first : (x : X) (xs : List X) → p x ≡ true → filter p (x ∷ xs) ≡ x ∷ filter p xs
      keep-first x xs h = ap (λ b. cond b (x ∷ filter p xs) (filter p xs)) h

      drop-first : (x : X) (xs : List X) → p x ≡ false → filter p (x ∷ xs) ≡ filter p xs
      drop-first x xs h = ap (λ b. cond b (x ∷ filter p xs) (filter p xs)) h

      -- behind one that fails all fail
      none-behind : (x : X) (xs : List X) → Good x → AllByRecursion Good xs → AllByRecursion (λ y. lt y x ≡ false) xs → p x ≡ false → filter p xs ≡ []
      none-behind x [] f good all fails = refl
      none-behind x (y ∷ ys) f good all fails = by (p y) refl (none-behind x ys f good.1 all.1 fails)
        where
          by : (b : Bool) → p y ≡ b → filter p ys ≡ [] → filter p (y ∷ ys) ≡ []
          by true h later = absurd (both_ways (p x) fails (before x y f good.0 all.0 h))
          by false h later = drop-first y ys h ∙ later

      pub put-passing : (x : X) (ys : List X) → Good x → AllByRecursion Good ys → IsOrdered ys → p x ≡ true → filter p (put_in_order lt x ys) ≡ put_in_order lt x (filter p ys)
      put-passing x [] f good is h = keep-first x [] h
      put-passing x (y ∷ ys) f good is h = by (lt y x) refl (put-passing x ys f good.1 is.1 h)
        where
          by : (b : Bool) → lt y x ≡ b → filter p (put_in_order lt x ys) ≡ put_in_order lt x (filter p ys)
              → filter p (put_in_order lt x (y ∷ ys)) ≡ put_in_order lt x (filter p (y ∷ ys))
          by true l later =
              let passes : p y ≡ true = before y x good.0 f (order.one_way y x l) h in
              ap (filter p) (put-behind x y ys l) ∙ keep-first y (put_in_order lt x ys) passes ∙ ap (λ zs. y ∷ zs) later
              ∙ sym (put-behind x y (filter p ys) l) ∙ ap (put_in_order lt x) (sym (keep-first y ys passes))
          by false l later = ap (filter p) (put-here x y ys l) ∙ keep-first x (y ∷ ys) h ∙ rest (p y) refl
            where
              rest : (b : Bool) → p y ≡ b → x ∷ filter p (y ∷ ys) ≡ put_in_order lt x (filter p (y ∷ ys))
              rest true q = ap (λ zs. x ∷ zs) (keep-first y ys q) ∙ sym (put-here x y (filter p ys) l) ∙ ap (put_in_order lt x) (sym (keep-first y ys q))
              rest false q =
                  let none : filter p (y ∷ ys) ≡ [] = drop-first y ys q ∙ none-behind y ys good.0 good.1 is.0 q in
                  ap (λ zs. x ∷ zs) none ∙ ap (put_in_order lt x) (sym none)

      pub put-failing : (x : X) (ys : List X) → p x ≡ false → filter p (put_in_order lt x ys) ≡ filter p ys
      put-failing x [] h = drop-first x [] h
      put-failing x (y ∷ ys) h = by (lt y x) refl (put-failing x ys h)
        where
          by : (b : Bool) → lt y x ≡ b → filter p (put_in_order lt x ys) ≡ filter p ys → filter p (put_in_order lt x (y ∷ ys)) ≡ filter p (y ∷ ys)
          by true l later = ap (filter p) (put-behind x y ys l) ∙ ap (λ zs. cond (p y) (y ∷ zs) zs) later
          by false l later = ap (filter p) (put-here x y ys l) ∙ drop-first x (y ∷ ys) h

      pub in_order-passing : (acc xs : List X) → AllByRecursion Good acc → AllByRecursion Good xs → IsOrdered acc
          → in_order lt (filter p acc) (filter p xs) ≡ filter p (in_order lt acc xs)
      in_order-passing acc [] good all is = refl
      in_order-passing acc (x ∷ xs) good all is =
          by (p x) refl (in_order-passing (put_in_order lt x acc) xs (each-put Good x acc all.0 good) all.1 (ordered-put x acc all.0 good is))
        where
          by : (b : Bool) → p x ≡ b → in_order lt (filter p (put_in_order lt x acc)) (filter p xs) ≡ filter p (in_order lt (put_in_order lt x acc) xs)
              → in_order lt (filter p acc) (filter p (x ∷ xs)) ≡ filter p (in_order lt acc (x ∷ xs))
          by true h later = ap (in_order lt (filter p acc)) (keep-first x xs h) ∙ ap (λ ys. in_order lt ys (filter p xs)) (sym (put-passing x acc all.0 good is h)) ∙ later
          by false h later = ap (in_order lt (filter p acc)) (drop-first x xs h) ∙ ap (λ ys. in_order lt ys (filter p xs)) (sym (put-failing x acc h)) ∙ later

      -- of ordered ones those that pass are at the front
      pub take-passing : (k : ℕ) (xs : List X) → AllByRecursion Good xs → IsOrdered xs → k ≤ length (filter p xs) → take k (filter p xs) ≡ take k xs
      take-passing zero xs good is many = refl
      take-passing (suc k) [] good is many = refl
      take-passing (suc k) (x ∷ xs) good is many = by (p x) refl (take-passing k xs good.1 is.1)
        where
          by : (b : Bool) → p x ≡ b → (k ≤ length (filter p xs) → take k (filter p xs) ≡ take k xs) → take (suc k) (filter p (x ∷ xs)) ≡ take (suc k) (x ∷ xs)
          by true h later =
              let more : suc k ≤ suc (length (filter p xs)) = subst (λ zs. suc k ≤ length zs) (keep-first x xs h) many in
              ap (take (suc k)) (keep-first x xs h) ∙ ap (λ zs. x ∷ zs) (later (omega (arith, more)))
          by false h later =
              let none : suc k ≤ 0 = subst (λ (zs : List X). suc k ≤ length zs) (drop-first x xs h ∙ none-behind x xs good.0 good.1 is.0 h) many in
              absurd (omega (arith, none))
