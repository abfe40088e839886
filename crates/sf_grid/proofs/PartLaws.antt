-- The order of two products, by the parts of their first factors.
use Rattle.std.proofs.Common.{◌≡◌, ◌≤◌, ◌*◌, refl, ap, sym, ◌∙◌, ℤ, pos, ◌+ℤ◌, ◌-ℤ◌, ◌*ℤ◌, ◌≤ℤ◌, ◌<ℤ◌, Bool, true, false, unsigned_abs, SFits, arith, [], ◌∷◌}
use Rattle.std.specs.Int.{w128}
use Rattle.std.specs.Ordering.{int_cmp, int_eq}
use Rattle.std.proofs.lemmas.Int.{ints}
use Rattle.sf_grid.specs.Bounds.{part_end, part_product_bound}
use Rattle.sf_grid.proofs.HeightLaws.{cmp-difference}
use Rattle.sf_grid.proofs.Ring.{ring, var, sum, dif, mul}

-- what is carried over fits
pub carried-fits : (high low carried rest : ℤ) → unsigned_abs high ≤ 2 * part_product_bound → unsigned_abs low ≤ 2 * part_product_bound
    → low ≡ carried *ℤ pos part_end +ℤ rest → pos 0 ≤ℤ rest → rest <ℤ pos part_end → SFits w128 (high +ℤ carried)
carried-fits high low carried rest h l e f b = omega (arith, ints)

-- the difference of two products, by the parts of their first factors
pub parts-joined : (b a d n r ah al nh nl high low carried rest : ℤ) → a ≡ ah *ℤ b +ℤ al → n ≡ nh *ℤ b +ℤ nl
    → high ≡ ah *ℤ d -ℤ nh *ℤ r → low ≡ al *ℤ d -ℤ nl *ℤ r → low ≡ carried *ℤ b +ℤ rest
    → (high +ℤ carried) *ℤ b +ℤ rest ≡ a *ℤ d -ℤ n *ℤ r
parts-joined b a d n r ah al nh nl high low carried rest ea en eh el ec =
    ring (high ∷ carried ∷ b ∷ rest ∷ []) (sum (mul (sum (var 0) (var 1)) (var 2)) (var 3)) (sum (mul (var 0) (var 2)) (sum (mul (var 1) (var 2)) (var 3))) refl
    ∙ ap (λ z. high *ℤ b +ℤ z) (sym ec)
    ∙ ap (λ z. z *ℤ b +ℤ low) eh
    ∙ ap (λ z. (ah *ℤ d -ℤ nh *ℤ r) *ℤ b +ℤ z) el
    ∙ ring (ah ∷ al ∷ nh ∷ nl ∷ d ∷ r ∷ b ∷ [])
    (sum (mul (dif (mul (var 0) (var 4)) (mul (var 2) (var 5))) (var 6)) (dif (mul (var 1) (var 4)) (mul (var 3) (var 5))))
    (dif (mul (sum (mul (var 0) (var 6)) (var 1)) (var 4)) (mul (sum (mul (var 2) (var 6)) (var 3)) (var 5)))
    refl
    ∙ ap (λ z. z *ℤ d -ℤ (nh *ℤ b +ℤ nl) *ℤ r) (sym ea)
    ∙ ap (λ z. a *ℤ d -ℤ z *ℤ r) (sym en)

pub products-order : (a d n r ah al nh nl high low carried rest : ℤ) → a ≡ ah *ℤ pos part_end +ℤ al → n ≡ nh *ℤ pos part_end +ℤ nl
    → high ≡ ah *ℤ d -ℤ nh *ℤ r → low ≡ al *ℤ d -ℤ nl *ℤ r → low ≡ carried *ℤ pos part_end +ℤ rest
    → int_cmp ((high +ℤ carried) *ℤ pos part_end +ℤ rest) (pos 0) ≡ int_cmp (a *ℤ d) (n *ℤ r)
products-order a d n r ah al nh nl high low carried rest ea en eh el ec =
    ap (λ z. int_cmp z (pos 0)) (parts-joined (pos part_end) a d n r ah al nh nl high low carried rest ea en eh el ec)
    ∙ sym (cmp-difference (a *ℤ d) (n *ℤ r))

eq-difference : (a b : ℤ) → int_eq a b ≡ int_eq (a -ℤ b) (pos 0)
eq-difference a b = grind (arith, ints)

-- what is carried over is small
pub carried-small : (low carried rest : ℤ) → unsigned_abs low ≤ 2 * part_product_bound → low ≡ carried *ℤ pos part_end +ℤ rest
    → pos 0 ≤ℤ rest → rest <ℤ pos part_end → unsigned_abs carried ≤ part_product_bound
carried-small low carried rest l e f b = omega (arith, ints)

-- what has a rest is not 0
rest-differs : (high rest : ℤ) → pos 0 ≤ℤ rest → rest <ℤ pos part_end → int_eq rest (pos 0) ≡ false → int_eq (high *ℤ pos part_end +ℤ rest) (pos 0) ≡ false
rest-differs high rest from below differs = grind (arith, ints)

-- what has none is 0 where it has no part
rest-is : (high rest : ℤ) → int_eq rest (pos 0) ≡ true → int_eq (high *ℤ pos part_end +ℤ rest) (pos 0) ≡ int_eq high (pos 0)
rest-is high rest is = grind (arith, ints)

joined-equal : (a d n r ah al nh nl high low carried rest : ℤ) → a ≡ ah *ℤ pos part_end +ℤ al → n ≡ nh *ℤ pos part_end +ℤ nl
    → high ≡ ah *ℤ d -ℤ nh *ℤ r → low ≡ al *ℤ d -ℤ nl *ℤ r → low ≡ carried *ℤ pos part_end +ℤ rest
    → int_eq ((high +ℤ carried) *ℤ pos part_end +ℤ rest) (pos 0) ≡ int_eq (a *ℤ d) (n *ℤ r)
joined-equal a d n r ah al nh nl high low carried rest ea en eh el ec =
    ap (λ z. int_eq z (pos 0)) (parts-joined (pos part_end) a d n r ah al nh nl high low carried rest ea en eh el ec)
    ∙ sym (eq-difference (a *ℤ d) (n *ℤ r))

pub products-differ : (a d n r ah al nh nl low carried rest : ℤ) → a ≡ ah *ℤ pos part_end +ℤ al → n ≡ nh *ℤ pos part_end +ℤ nl
    → low ≡ al *ℤ d -ℤ nl *ℤ r → low ≡ carried *ℤ pos part_end +ℤ rest → pos 0 ≤ℤ rest → rest <ℤ pos part_end → int_eq rest (pos 0) ≡ false
    → false ≡ int_eq (a *ℤ d) (n *ℤ r)
products-differ a d n r ah al nh nl low carried rest ea en el ec from below differs =
    sym (rest-differs ((ah *ℤ d -ℤ nh *ℤ r) +ℤ carried) rest from below differs)
    ∙ joined-equal a d n r ah al nh nl (ah *ℤ d -ℤ nh *ℤ r) low carried rest ea en refl el ec

pub products-equal : (a d n r ah al nh nl low carried rest : ℤ) → a ≡ ah *ℤ pos part_end +ℤ al → n ≡ nh *ℤ pos part_end +ℤ nl
    → low ≡ al *ℤ d -ℤ nl *ℤ r → low ≡ carried *ℤ pos part_end +ℤ rest → int_eq rest (pos 0) ≡ true
    → int_eq ((ah *ℤ d -ℤ nh *ℤ r) +ℤ carried) (pos 0) ≡ int_eq (a *ℤ d) (n *ℤ r)
products-equal a d n r ah al nh nl low carried rest ea en el ec is =
    sym (rest-is ((ah *ℤ d -ℤ nh *ℤ r) +ℤ carried) rest is)
    ∙ joined-equal a d n r ah al nh nl (ah *ℤ d -ℤ nh *ℤ r) low carried rest ea en refl el ec
