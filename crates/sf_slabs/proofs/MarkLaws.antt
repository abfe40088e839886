-- The places that are marked in a column or along the axis, from lists of the same numbers.
use Rattle.std.proofs.Common.{refl, ap, ◌∙◌, pos, ◌+ℤ◌, ◌*ℤ◌, ◌-ℤ◌, lit<, arith, List, [], ◌∷◌}
use Rattle.sf_grid.specs.Fraction.{Fraction, IsFraction, middle, one_less, one_more}
use Rattle.sf_grid.proofs.CallerLemmas.{Same, dif, mul, num, product_pos, ring, sum, var}
use Rattle.sf_cells.specs.Samples.{marks, marks_from}
use Rattle.sf_slabs.proofs.CellLaws.{SameMark}
use Rattle.sf_slabs.proofs.NumberLaws.{Numbers, Pairs}

-- ---- steps and middles of the same numbers
pub record IsStep (step : Fraction → Fraction) : Type 0 where
  pub same : (q r : Fraction) → Same q r → Same (step q) (step r)
  pub number : (q : Fraction) → IsFraction q → IsFraction (step q)

pub one_more-step : IsStep one_more
one_more-step =
    record {
      same =
          λ q r e.
          ring (q.num ∷ pos q.den ∷ pos r.den ∷ []) (mul (sum (var 0) (var 1)) (var 2)) (sum (mul (var 0) (var 2)) (mul (var 2) (var 1))) refl
          ∙ ap (λ z. z +ℤ pos r.den *ℤ pos q.den) e
          ∙ ring (r.num ∷ pos q.den ∷ pos r.den ∷ []) (sum (mul (var 0) (var 1)) (mul (var 2) (var 1))) (mul (sum (var 0) (var 2)) (var 1)) refl;
      number = λ q i. record { positive = i.positive };
    }

pub one_less-step : IsStep one_less
one_less-step =
    record {
      same =
          λ q r e.
          ring (q.num ∷ pos q.den ∷ pos r.den ∷ []) (mul (dif (var 0) (var 1)) (var 2)) (sum (mul (var 0) (var 2)) (dif (num (pos 0)) (mul (var 2) (var 1)))) refl
          ∙ ap (λ z. z +ℤ (pos 0 -ℤ pos r.den *ℤ pos q.den)) e
          ∙ ring (r.num ∷ pos q.den ∷ pos r.den ∷ []) (sum (mul (var 0) (var 1)) (dif (num (pos 0)) (mul (var 2) (var 1)))) (mul (dif (var 0) (var 2)) (var 1)) refl;
      number = λ q i. record { positive = i.positive };
    }

pub middle-same : (q q' r r' : Fraction) → Same q q' → Same r r' → Same (middle q r) (middle q' r')
middle-same q q' r r' e f =
    ring (q.num ∷ pos q.den ∷ r.num ∷ pos r.den ∷ pos q'.den ∷ pos r'.den ∷ [])
    (mul (sum (mul (var 0) (var 3)) (mul (var 2) (var 1))) (mul (num (pos 2)) (mul (var 4) (var 5))))
    (mul (num (pos 2)) (sum (mul (mul (mul (var 0) (var 4)) (var 3)) (var 5)) (mul (mul (mul (var 2) (var 5)) (var 1)) (var 4))))
    refl
    ∙ ap (λ z. pos 2 *ℤ (z *ℤ pos r.den *ℤ pos r'.den +ℤ r.num *ℤ pos r'.den *ℤ pos q.den *ℤ pos q'.den)) e
    ∙ ap (λ z. pos 2 *ℤ (q'.num *ℤ pos q.den *ℤ pos r.den *ℤ pos r'.den +ℤ z *ℤ pos q.den *ℤ pos q'.den)) f
    ∙ ring (q'.num ∷ pos q.den ∷ r'.num ∷ pos r.den ∷ pos q'.den ∷ pos r'.den ∷ [])
    (mul (num (pos 2)) (sum (mul (mul (mul (var 0) (var 1)) (var 3)) (var 5)) (mul (mul (mul (var 2) (var 3)) (var 1)) (var 4))))
    (mul (sum (mul (var 0) (var 5)) (mul (var 2) (var 4))) (mul (num (pos 2)) (mul (var 1) (var 3))))
    refl

pub middle-number : (q r : Fraction) → IsFraction q → IsFraction r → IsFraction (middle q r)
middle-number q r i j = record { positive = omega (arith, product_pos q.den r.den i.positive j.positive) }

-- ---- marks of the same numbers
marks_from-same : (past : Fraction → Fraction) → IsStep past → (q r : Fraction) (qs rs : List Fraction) →
    IsFraction q → IsFraction r → Numbers qs → Numbers rs → Same q r → Pairs Same qs rs →
    Pairs SameMark (marks_from past q qs) (marks_from past r rs)
marks_from-same past s q r [] [] i j n m e h = (
  record { place = e; listed = refl; first = i; second = j },
  (record { place = s.same q r e; listed = refl; first = s.number q i; second = s.number r j }, tt),
)
marks_from-same past s q r [] (r' ∷ rs) i j n m e h = absurd h
marks_from-same past s q r (q' ∷ qs) [] i j n m e h = absurd h
marks_from-same past s q r (q' ∷ qs) (r' ∷ rs) i j n m e h = (
  record { place = e; listed = refl; first = i; second = j },
  (
    record {
      place = middle-same q r q' r' e h.0;
      listed = refl;
      first = middle-number q q' i n.0;
      second = middle-number r r' j m.0;
    },
    marks_from-same past s q' r' qs rs n.0 m.0 n.1 m.1 h.0 h.1,
  ),
)

pub marks-same : (ahead past : Fraction → Fraction) → IsStep ahead → IsStep past → (qs rs : List Fraction) →
    Numbers qs → Numbers rs → Pairs Same qs rs → Pairs SameMark (marks ahead past qs) (marks ahead past rs)
marks-same ahead past a s [] [] n m h =
    (record { place = refl; listed = refl; first = record { positive = lit< tt }; second = record { positive = lit< tt } }, tt)
marks-same ahead past a s [] (r ∷ rs) n m h = absurd h
marks-same ahead past a s (q ∷ qs) [] n m h = absurd h
marks-same ahead past a s (q ∷ qs) (r ∷ rs) n m h = (
  record { place = a.same q r h.0; listed = refl; first = a.number q n.0; second = a.number r m.0 },
  marks_from-same past s q r qs rs n.0 m.0 n.1 m.1 h.0 h.1,
)
