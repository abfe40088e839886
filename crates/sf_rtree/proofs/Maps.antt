-- Maps from identifier to box: a map that rises is told by its look-ups.
use Rattle.std.specs.Prelude.{◌≡◌, ◌≢◌, ℕ, ◌<◌, Bool, true, false, cond, [], ◌∷◌, Option, None, Some, nat_eq, nat_lt}
use Rattle.std.specs.declared.cmp.Ordering.TheVariants.{Less, Equal, Greater}
use Rattle.std.specs.List.{AllByRecursion}
use Rattle.std.specs.Ordering.{nat_cmp, match_ordering}
use Rattle.std.proofs.Common.{refl, ap, sym, ◌∙◌, subst, arith}
use Rattle.std.proofs.lemmas.Bool.{eq-eqb, eqb-false, eqb-true, le-ltb, lt-ltb, ltb-false, ltb-true, ne_eqb}
use Rattle.sf_geometry.specs.declared.extent.Extent.{Extent}
use Rattle.sf_rtree.specs.Indexes.{Boxes, box_of, with_box, without_box}
use Rattle.sf_rtree.proofs.Order.{all_map}

-- each identifier is above those before it
abbrev pub Rises : Boxes → Type 0
Rises [] = Unit {0}
Rises (e ∷ es) = AllByRecursion (λ f. e.0 < f.0) es × Rises es

by_tests : (P : Type 0) (m n : ℕ) → (m < n → P) → (m ≡ n → P) → (n < m → P) → (b c : Bool) → nat_lt m n ≡ b → nat_eq m n ≡ c → P
by_tests P m n below same above true c is eq = below (ltb-true m n is)
by_tests P m n below same above false true is eq = same (eqb-true m n eq)
by_tests P m n below same above false false is eq =
    let apart : m ≢ n = eqb-false m n eq in
    above (omega (arith, ltb-false m n is, apart))

-- two numbers, one below, at or above the other
pub by_order : (P : Type 0) (m n : ℕ) → (m < n → P) → (m ≡ n → P) → (n < m → P) → P
by_order P m n below same above = by_tests P m n below same above (nat_lt m n) (nat_eq m n) refl refl

nat_cmp-below : (m n : ℕ) → m < n → nat_cmp m n ≡ Less
nat_cmp-below m n h = ap (λ b. cond b Less (cond (nat_eq m n) Equal Greater)) (lt-ltb m n h)

nat_cmp-same : (m n : ℕ) → m ≡ n → nat_cmp m n ≡ Equal
nat_cmp-same m n h =
    ap (λ b. cond b Less (cond (nat_eq m n) Equal Greater)) (le-ltb m n (omega arith)) ∙ ap (λ b. cond b Equal Greater) (eq-eqb m n h)

nat_cmp-above : (m n : ℕ) → n < m → nat_cmp m n ≡ Greater
nat_cmp-above m n h =
    let apart : m ≢ n = omega arith in
    ap (λ b. cond b Less (cond (nat_eq m n) Equal Greater)) (le-ltb m n (omega arith)) ∙ ap (λ b. cond b Equal Greater) (ne_eqb m n apart)

pub with-below : (id : ℕ) (x : Extent) (e : ℕ × Extent) (es : Boxes) → id < e.0 → with_box id x (e ∷ es) ≡ (id, x) ∷ e ∷ es
with-below id x e es h =
    ap (λ o. match_ordering o ((id, x) ∷ e ∷ es) ((e.0, x) ∷ es) (e ∷ with_box id x es)) (nat_cmp-below id e.0 h)

pub with-same : (id : ℕ) (x : Extent) (e : ℕ × Extent) (es : Boxes) → id ≡ e.0 → with_box id x (e ∷ es) ≡ (e.0, x) ∷ es
with-same id x e es h =
    ap (λ o. match_ordering o ((id, x) ∷ e ∷ es) ((e.0, x) ∷ es) (e ∷ with_box id x es)) (nat_cmp-same id e.0 h)

pub with-above : (id : ℕ) (x : Extent) (e : ℕ × Extent) (es : Boxes) → e.0 < id → with_box id x (e ∷ es) ≡ e ∷ with_box id x es
with-above id x e es h =
    ap (λ o. match_ordering o ((id, x) ∷ e ∷ es) ((e.0, x) ∷ es) (e ∷ with_box id x es)) (nat_cmp-above id e.0 h)

-- the box of the first entry, and of a later one
pub box-first : (q : ℕ) (e : ℕ × Extent) (es : Boxes) → q ≡ e.0 → box_of (e ∷ es) q ≡ Some e.1
box-first q e es h = ap (λ b. cond b (Some e.1) (box_of es q)) (eq-eqb q e.0 h)

pub box-later : (q : ℕ) (e : ℕ × Extent) (es : Boxes) → q ≢ e.0 → box_of (e ∷ es) q ≡ box_of es q
box-later q e es h = ap (λ b. cond b (Some e.1) (box_of es q)) (ne_eqb q e.0 h)

shadowed : {A : Type 0} (b : Bool) (x y z : A) → cond b x z ≡ cond b x (cond b y z)
shadowed true x y z = refl
shadowed false x y z = refl

pub swapped : {A : Type 0} (q m n : ℕ) (x y z : A) → m ≢ n
    → cond (nat_eq q m) x (cond (nat_eq q n) y z) ≡ cond (nat_eq q n) y (cond (nat_eq q m) x z)
swapped {A} q m n x y z apart = at (nat_eq q m) (nat_eq q n) refl refl
  where
    at : (b c : Bool) → nat_eq q m ≡ b → nat_eq q n ≡ c → cond b x (cond c y z) ≡ cond c y (cond b x z)
    at true true is eq = absurd (apart (sym (eqb-true q m is) ∙ eqb-true q n eq))
    at true false is eq = refl
    at false c is eq = refl

-- ---- look-ups after a change

pub box-with_box : (id : ℕ) (x : Extent) (es : Boxes) (q : ℕ) → box_of (with_box id x es) q ≡ cond (nat_eq q id) (Some x) (box_of es q)
box-with_box id x [] q = refl
box-with_box id x (e ∷ es) q =
    by_order (box_of (with_box id x (e ∷ es)) q ≡ cond (nat_eq q id) (Some x) (box_of (e ∷ es) q)) id e.0
    (λ h. ap (λ m. box_of m q) (with-below id x e es h))
    (λ h. ap (λ m. box_of m q) (with-same id x e es h) ∙ shadowed (nat_eq q e.0) (Some x) (Some e.1) (box_of es q)
    ∙ ap (λ k. cond (nat_eq q k) (Some x) (box_of (e ∷ es) q)) (sym h))
    (λ h. let apart : e.0 ≢ id = omega arith in
    ap (λ m. box_of m q) (with-above id x e es h)
    ∙ ap (λ o. cond (nat_eq q e.0) (Some e.1) o) (box-with_box id x es q)
    ∙ swapped q e.0 id (Some e.1) (Some x) (box_of es q) apart)

pub box-missing : (q : ℕ) (es : Boxes) → AllByRecursion (λ f. q < f.0) es → box_of es q ≡ None
box-missing q [] h = refl
box-missing q (e ∷ es) h =
    let apart : q ≢ e.0 = omega (arith, h.0) in
    box-later q e es apart ∙ box-missing q es h.1

pub box-without_box : (id : ℕ) (es : Boxes) → Rises es → (q : ℕ) → box_of (without_box id es) q ≡ cond (nat_eq q id) None (box_of es q)
box-without_box id [] h q = at (nat_eq q id)
  where
    at : (b : Bool) → box_of [] q ≡ cond b None (box_of [] q)
    at true = refl
    at false = refl
box-without_box id (e ∷ es) h q = at (box-without_box id es h.1 q) (nat_eq id e.0) refl
  where
    here : (b : Bool) → id ≡ e.0 → nat_eq q id ≡ b → box_of es q ≡ cond b None (box_of (e ∷ es) q)
    here true same is =
        ap (box_of es) (eqb-true q id is ∙ same) ∙ box-missing e.0 es h.0
    here false same is =
        let apart : q ≢ e.0 = λ p. eqb-false q id is (p ∙ sym same) in
        sym (box-later q e es apart)

    at : box_of (without_box id es) q ≡ cond (nat_eq q id) None (box_of es q) → (b : Bool) → nat_eq id e.0 ≡ b
        → box_of (cond b es (e ∷ without_box id es)) q ≡ cond (nat_eq q id) None (box_of (e ∷ es) q)
    at rest true is = here (nat_eq q id) (eqb-true id e.0 is) refl
    at rest false is =
        ap (λ o. cond (nat_eq q e.0) (Some e.1) o) rest ∙ swapped q e.0 id (Some e.1) None (box_of es q) (λ p. eqb-false id e.0 is (sym p))

-- ---- a changed map rises

pub all-with_box : (P : ℕ → Type 0) (id : ℕ) (x : Extent) (es : Boxes) → P id → AllByRecursion (λ f. P f.0) es → AllByRecursion (λ f. P f.0) (with_box id x es)
all-with_box P id x [] p h = (p, tt)
all-with_box P id x (e ∷ es) p h =
    by_order (AllByRecursion (λ f. P f.0) (with_box id x (e ∷ es))) id e.0
    (λ o. subst (AllByRecursion (λ f. P f.0)) (sym (with-below id x e es o)) (p, h))
    (λ o. subst (AllByRecursion (λ f. P f.0)) (sym (with-same id x e es o)) h)
    (λ o. subst (AllByRecursion (λ f. P f.0)) (sym (with-above id x e es o)) (h.0, all-with_box P id x es p h.1))

above_all : (m n : ℕ) (es : Boxes) → m < n → AllByRecursion (λ f. n < f.0) es → AllByRecursion (λ f. m < f.0) es
above_all m n es h = all_map (λ f. n < f.0) (λ f. m < f.0) (λ f p. omega (arith, p, h)) es

pub rises-with_box : (id : ℕ) (x : Extent) (es : Boxes) → Rises es → Rises (with_box id x es)
rises-with_box id x [] h = (tt, tt)
rises-with_box id x (e ∷ es) h =
    by_order (Rises (with_box id x (e ∷ es))) id e.0
    (λ o. subst Rises (sym (with-below id x e es o)) ((o, above_all id e.0 es o h.0), h))
    (λ o. subst Rises (sym (with-same id x e es o)) h)
    (λ o. subst Rises (sym (with-above id x e es o)) (all-with_box (λ n. e.0 < n) id x es o h.0, rises-with_box id x es h.1))

all-without_box : (P : ℕ × Extent → Type 0) (id : ℕ) (es : Boxes) → AllByRecursion P es → AllByRecursion P (without_box id es)
all-without_box P id [] h = tt
all-without_box P id (e ∷ es) h = at (all-without_box P id es h.1) (nat_eq id e.0)
  where
    at : AllByRecursion P (without_box id es) → (b : Bool) → AllByRecursion P (cond b es (e ∷ without_box id es))
    at rest true = h.1
    at rest false = (h.0, rest)

pub rises-without_box : (id : ℕ) (es : Boxes) → Rises es → Rises (without_box id es)
rises-without_box id [] h = tt
rises-without_box id (e ∷ es) h = at (rises-without_box id es h.1) (nat_eq id e.0)
  where
    at : Rises (without_box id es) → (b : Bool) → Rises (cond b es (e ∷ without_box id es))
    at rest true = h.1
    at rest false = (all-without_box (λ f. e.0 < f.0) id es h.0, rest)

-- ---- rising maps with the same look-ups are one

pub none_some : {A : Type 0} (o : Option A) (x : A) (P : Type 0) → o ≡ None → o ≡ Some x → P
none_some o x P none some = cc

-- the identifier of the first entry is that of the other map's first
no_earlier : (e f : ℕ × Extent) (es fs : Boxes) (P : Type 0) → AllByRecursion (λ g. f.0 < g.0) fs → e.0 < f.0
    → box_of (e ∷ es) e.0 ≡ box_of (f ∷ fs) e.0 → P
no_earlier e f es fs P above below same =
    none_some (box_of (e ∷ es) e.0) e.1 P (same ∙ box-missing e.0 (f ∷ fs) (below, above_all e.0 f.0 fs below above)) (box-first e.0 e es refl)

rest_same : (e f : ℕ × Extent) (es fs : Boxes) → AllByRecursion (λ g. e.0 < g.0) es → AllByRecursion (λ g. f.0 < g.0) fs → e.0 ≡ f.0
    → ((q : ℕ) → box_of (e ∷ es) q ≡ box_of (f ∷ fs) q) → (q : ℕ) → box_of es q ≡ box_of fs q
rest_same e f es fs above also same h q = at (nat_eq q e.0) refl
  where
    at : (b : Bool) → nat_eq q e.0 ≡ b → box_of es q ≡ box_of fs q
    at true is =
        let p = eqb-true q e.0 is in
        ap (box_of es) p ∙ box-missing e.0 es above ∙ sym (box-missing f.0 fs also) ∙ ap (box_of fs) (sym (p ∙ same))
    at false is =
        let apart = eqb-false q e.0 is in
        sym (box-later q e es apart) ∙ h q ∙ box-later q f fs (λ p. apart (p ∙ sym same))

first_same : (e f : ℕ × Extent) (es fs : Boxes) → e.0 ≡ f.0 → box_of (e ∷ es) e.0 ≡ box_of (f ∷ fs) e.0 → Some e.1 ≡ Some f.1
first_same e f es fs same h = sym (box-first e.0 e es refl) ∙ h ∙ box-first e.0 f fs same

one_entry : (e f : ℕ × Extent) (es fs : Boxes) → e.0 ≡ f.0 → Some e.1 ≡ Some f.1 → es ≡ fs → e ∷ es ≡ f ∷ fs
one_entry e f es fs id box rest =
    let b : e.1 ≡ f.1 = cc in
    ap (λ i. (i, e.1) ∷ es) id ∙ ap (λ x. (f.0, x) ∷ es) b ∙ ap (λ xs. f ∷ xs) rest

pub same_boxes : (es fs : Boxes) → Rises es → Rises fs → ((q : ℕ) → box_of es q ≡ box_of fs q) → es ≡ fs
same_boxes [] [] h k same = refl
same_boxes [] (f ∷ fs) h k same = none_some (box_of (f ∷ fs) f.0) f.1 ([] ≡ f ∷ fs) (sym (same f.0)) (box-first f.0 f fs refl)
same_boxes (e ∷ es) [] h k same = none_some (box_of (e ∷ es) e.0) e.1 (e ∷ es ≡ []) (same e.0) (box-first e.0 e es refl)
same_boxes (e ∷ es) (f ∷ fs) h k same = at (λ o. same_boxes es fs h.1 k.1 (rest_same e f es fs h.0 k.0 o same))
  where
    at : (e.0 ≡ f.0 → es ≡ fs) → e ∷ es ≡ f ∷ fs
    at rest =
        by_order (e ∷ es ≡ f ∷ fs) e.0 f.0
        (λ o. no_earlier e f es fs (e ∷ es ≡ f ∷ fs) k.0 o (same e.0))
        (λ o. one_entry e f es fs o (first_same e f es fs o (same e.0)) (rest o))
        (λ o. no_earlier f e fs es (e ∷ es ≡ f ∷ fs) h.0 o (sym (same f.0)))
