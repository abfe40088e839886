-- Asks turn round with their matrices.
use Rattle.std.proofs.Common.{◌≡◌, ℕ, zero, suc, Bool, true, false, ◌&&◌, ◌||◌, not, List, [], ◌∷◌, codes, length, refl, ap, sym, ◌∙◌, arith}
use Rattle.sf_plane.specs.declared.dim.Dim.{Dim}
use Rattle.sf_plane.specs.declared.dim.Dim.TheVariants as dims
use Rattle.sf_relate.specs.Matrices.{matrix_of}
use Rattle.sf_known.specs.Patterns.{admits, matches}
use Rattle.sf_known.specs.declared.letter.Letter.{Letter}
use Rattle.sf_known.specs.declared.letter.Letter.TheVariants.{Any, Filled, Empty, Zero, One}
use Rattle.sf_known.specs.declared.predicate.Predicate.{Predicate}
use Rattle.sf_known.specs.declared.predicate.Predicate.TheVariants.{Equals, Disjoint, Intersects, Touches, Within, Contains, Crosses, Overlaps}
use Rattle.sf_known.specs.Predicates.{is_like, crosses, overlaps, touches, holds}
use Rattle.sf_known.specs.Transposed.{transposed}
use Rattle.sf_prepared.proofs.TransposedLaws.{matrices_are_transposed}
use Rattle.sf_near.specs.Passed.{Matching, Named}
use Rattle.sf_near.specs.Passed.{dim_of_geometry}
use Rattle.sf_joins.specs.Converse.{converse_predicate, AsksTurnRound, PairsTurnRound}
use Rattle.std.specs.List.{list_any}
use Rattle.std.proofs.lemmas.Bool.{both_ways, false_from_ne_true}
use Rattle.sf_geometry.specs.declared.geometry.Geometry.{Geometry}
use Rattle.sf_known.specs.Patterns.{has_contact, is_filled}
use Rattle.sf_near.specs.Passed.{square_of_reach}
use Rattle.sf_near.proofs.Passed.{within-turns}
use Rattle.sf_near.specs.Answers.{is_within_of}
use Rattle.sf_near.specs.declared.pair_ask.PairAsk.TheVariants.{Matrix, Near}

-- two of several tests change places
and_swap : (a b c : Bool) → a && (b && c) ≡ b && (a && c)
and_swap true true c = refl
and_swap true false c = refl
and_swap false true c = refl
and_swap false false c = refl

-- nine tests, row by row and column by column
nine_turned : (a b c d e f g h i : Bool)
    → a && (b && (c && (d && (e && (f && (g && (h && (i && true)))))))) ≡ a && (d && (g && (b && (e && (h && (c && (f && (i && true))))))))
nine_turned a b c d e f g h i =
    let rest : Bool = i && true in
    ap (λ x. a && (b && x)) (and_swap c d (e && (f && (g && (h && rest)))))
    ∙ ap (λ x. a && x) (and_swap b d (c && (e && (f && (g && (h && rest))))))
    ∙ ap (λ x. a && (d && (b && (c && (e && x))))) (and_swap f g (h && rest))
    ∙ ap (λ x. a && (d && (b && (c && x)))) (and_swap e g (f && (h && rest)))
    ∙ ap (λ x. a && (d && (b && x))) (and_swap c g (e && (f && (h && rest))))
    ∙ ap (λ x. a && (d && x)) (and_swap b g (c && (e && (f && (h && rest)))))
    ∙ ap (λ x. a && (d && (g && (b && x)))) (and_swap c e (f && (h && rest)))
    ∙ ap (λ x. a && (d && (g && (b && (e && (c && x)))))) (and_swap f h rest)
    ∙ ap (λ x. a && (d && (g && (b && (e && x))))) (and_swap c h (f && rest))

-- a pattern matches entries as the pattern turned round matches the entries turned round
matches-turned : (l1 l2 l3 l4 l5 l6 l7 l8 l9 : Letter) (m1 m2 m3 m4 m5 m6 m7 m8 m9 : Dim)
    → matches (l1 ∷ l2 ∷ l3 ∷ l4 ∷ l5 ∷ l6 ∷ l7 ∷ l8 ∷ l9 ∷ []) (m1 ∷ m2 ∷ m3 ∷ m4 ∷ m5 ∷ m6 ∷ m7 ∷ m8 ∷ m9 ∷ [])
    ≡ matches (l1 ∷ l4 ∷ l7 ∷ l2 ∷ l5 ∷ l8 ∷ l3 ∷ l6 ∷ l9 ∷ []) (m1 ∷ m4 ∷ m7 ∷ m2 ∷ m5 ∷ m8 ∷ m3 ∷ m6 ∷ m9 ∷ [])
matches-turned l1 l2 l3 l4 l5 l6 l7 l8 l9 m1 m2 m3 m4 m5 m6 m7 m8 m9 =
    nine_turned (admits l1 m1) (admits l2 m2) (admits l3 m3) (admits l4 m4) (admits l5 m5) (admits l6 m6) (admits l7 m7) (admits l8 m8) (admits l9 m9)

matches-nine : (letters : List Letter) (m1 m2 m3 m4 m5 m6 m7 m8 m9 : Dim) → length letters ≡ 9
    → matches letters (m1 ∷ m2 ∷ m3 ∷ m4 ∷ m5 ∷ m6 ∷ m7 ∷ m8 ∷ m9 ∷ []) ≡ matches (transposed letters) (m1 ∷ m4 ∷ m7 ∷ m2 ∷ m5 ∷ m8 ∷ m3 ∷ m6 ∷ m9 ∷ [])
matches-nine (l1 ∷ (l2 ∷ (l3 ∷ (l4 ∷ (l5 ∷ (l6 ∷ (l7 ∷ (l8 ∷ (l9 ∷ []))))))))) m1 m2 m3 m4 m5 m6 m7 m8 m9 n =
    matches-turned l1 l2 l3 l4 l5 l6 l7 l8 l9 m1 m2 m3 m4 m5 m6 m7 m8 m9
matches-nine [] m1 m2 m3 m4 m5 m6 m7 m8 m9 n = absurd (omega (arith, n))
matches-nine (a ∷ []) m1 m2 m3 m4 m5 m6 m7 m8 m9 n = absurd (omega (arith, n))
matches-nine (a ∷ (b ∷ [])) m1 m2 m3 m4 m5 m6 m7 m8 m9 n = absurd (omega (arith, n))
matches-nine (a ∷ (b ∷ (c ∷ []))) m1 m2 m3 m4 m5 m6 m7 m8 m9 n = absurd (omega (arith, n))
matches-nine (a ∷ (b ∷ (c ∷ (d ∷ [])))) m1 m2 m3 m4 m5 m6 m7 m8 m9 n = absurd (omega (arith, n))
matches-nine (a ∷ (b ∷ (c ∷ (d ∷ (e ∷ []))))) m1 m2 m3 m4 m5 m6 m7 m8 m9 n = absurd (omega (arith, n))
matches-nine (a ∷ (b ∷ (c ∷ (d ∷ (e ∷ (f ∷ [])))))) m1 m2 m3 m4 m5 m6 m7 m8 m9 n = absurd (omega (arith, n))
matches-nine (a ∷ (b ∷ (c ∷ (d ∷ (e ∷ (f ∷ (g ∷ []))))))) m1 m2 m3 m4 m5 m6 m7 m8 m9 n = absurd (omega (arith, n))
matches-nine (a ∷ (b ∷ (c ∷ (d ∷ (e ∷ (f ∷ (g ∷ (h ∷ [])))))))) m1 m2 m3 m4 m5 m6 m7 m8 m9 n = absurd (omega (arith, n))
matches-nine (a ∷ (b ∷ (c ∷ (d ∷ (e ∷ (f ∷ (g ∷ (h ∷ (i ∷ (j ∷ more)))))))))) m1 m2 m3 m4 m5 m6 m7 m8 m9 n = absurd (omega (arith, n))

-- ---- predicates

or_swap : (a b : Bool) → a || b ≡ b || a
or_swap true true = refl
or_swap true false = refl
or_swap false true = refl
or_swap false false = refl

-- of nine entries and the same turned round
module _ (m1 m2 m3 m4 m5 m6 m7 m8 m9 : Dim) where
  abbrev m : List Dim
  m = m1 ∷ m2 ∷ m3 ∷ m4 ∷ m5 ∷ m6 ∷ m7 ∷ m8 ∷ m9 ∷ []

  abbrev t : List Dim
  t = m1 ∷ m4 ∷ m7 ∷ m2 ∷ m5 ∷ m8 ∷ m3 ∷ m6 ∷ m9 ∷ []

  like : (l1 l2 l3 l4 l5 l6 l7 l8 l9 : Letter) → matches (l1 ∷ l2 ∷ l3 ∷ l4 ∷ l5 ∷ l6 ∷ l7 ∷ l8 ∷ l9 ∷ []) m ≡ matches (l1 ∷ l4 ∷ l7 ∷ l2 ∷ l5 ∷ l8 ∷ l3 ∷ l6 ∷ l9 ∷ []) t
  like l1 l2 l3 l4 l5 l6 l7 l8 l9 = matches-turned l1 l2 l3 l4 l5 l6 l7 l8 l9 m1 m2 m3 m4 m5 m6 m7 m8 m9

  disjoint-turned : is_like (codes "FF*FF****") m ≡ is_like (codes "FF*FF****") t
  disjoint-turned = like Empty Empty Any Empty Empty Any Any Any Any

  touches-turned : touches m ≡ touches t
  touches-turned =
      ap (λ x. x || is_like (codes "F**T*****") m || is_like (codes "F***T****") m) (like Empty Filled Any Any Any Any Any Any Any)
      ∙ ap (λ x. is_like (codes "F**T*****") t || x || is_like (codes "F***T****") m) (like Empty Any Any Filled Any Any Any Any Any)
      ∙ ap (λ x. is_like (codes "F**T*****") t || is_like (codes "FT*******") t || x) (like Empty Any Any Any Filled Any Any Any Any)
      ∙ ap (λ x. x || is_like (codes "F***T****") t) (or_swap (is_like (codes "F**T*****") t) (is_like (codes "FT*******") t))

  crosses-turned : (a b : Dim) → crosses a b m ≡ crosses b a t
  crosses-turned dims.Nothing dims.Nothing = refl
  crosses-turned dims.Nothing dims.Zero = refl
  crosses-turned dims.Nothing dims.One = refl
  crosses-turned dims.Nothing dims.Two = refl
  crosses-turned dims.Zero dims.Nothing = refl
  crosses-turned dims.Zero dims.Zero = refl
  crosses-turned dims.Zero dims.One = like Filled Any Filled Any Any Any Any Any Any
  crosses-turned dims.Zero dims.Two = like Filled Any Filled Any Any Any Any Any Any
  crosses-turned dims.One dims.Nothing = refl
  crosses-turned dims.One dims.Zero = like Filled Any Any Any Any Any Filled Any Any
  crosses-turned dims.One dims.One = like Zero Any Any Any Any Any Any Any Any
  crosses-turned dims.One dims.Two = like Filled Any Filled Any Any Any Any Any Any
  crosses-turned dims.Two dims.Nothing = refl
  crosses-turned dims.Two dims.Zero = like Filled Any Any Any Any Any Filled Any Any
  crosses-turned dims.Two dims.One = like Filled Any Any Any Any Any Filled Any Any
  crosses-turned dims.Two dims.Two = refl

  overlaps-turned : (a b : Dim) → overlaps a b m ≡ overlaps b a t
  overlaps-turned dims.Nothing dims.Nothing = refl
  overlaps-turned dims.Nothing dims.Zero = refl
  overlaps-turned dims.Nothing dims.One = refl
  overlaps-turned dims.Nothing dims.Two = refl
  overlaps-turned dims.Zero dims.Nothing = refl
  overlaps-turned dims.Zero dims.Zero = like Filled Any Filled Any Any Any Filled Any Any
  overlaps-turned dims.Zero dims.One = refl
  overlaps-turned dims.Zero dims.Two = refl
  overlaps-turned dims.One dims.Nothing = refl
  overlaps-turned dims.One dims.Zero = refl
  overlaps-turned dims.One dims.One = like One Any Filled Any Any Any Filled Any Any
  overlaps-turned dims.One dims.Two = refl
  overlaps-turned dims.Two dims.Nothing = refl
  overlaps-turned dims.Two dims.Zero = refl
  overlaps-turned dims.Two dims.One = refl
  overlaps-turned dims.Two dims.Two = like Filled Any Filled Any Any Any Filled Any Any

  holds-turned : (predicate : Predicate) (a b : Dim) → holds predicate a b m ≡ holds (converse_predicate predicate) b a t
  holds-turned Equals a b = like Filled Any Empty Any Any Empty Empty Empty Any
  holds-turned Disjoint a b = disjoint-turned
  holds-turned Intersects a b = ap not disjoint-turned
  holds-turned Touches a b = touches-turned
  holds-turned Within a b = like Filled Any Empty Any Any Empty Any Any Any
  holds-turned Contains a b = like Filled Any Any Any Any Any Empty Empty Any
  holds-turned Crosses a b = crosses-turned a b
  holds-turned Overlaps a b = overlaps-turned a b

-- the entries of a matrix, one by one
abbrev entry : ℕ → List Dim → Dim
entry n [] = dims.Nothing
entry zero (d ∷ ds) = d
entry (suc n) (d ∷ ds) = entry n ds

pub asks-turn-round : AsksTurnRound
asks-turn-round (Matching letters) a b nine =
    let e : ℕ → Dim = λ n. entry n (matrix_of a b) in
    matches-nine letters (e 0) (e 1) (e 2) (e 3) (e 4) (e 5) (e 6) (e 7) (e 8) nine ∙ ap (matches (transposed letters)) (sym (matrices_are_transposed a b))
asks-turn-round (Named predicate) a b nine =
    let e : ℕ → Dim = λ n. entry n (matrix_of a b) in
    holds-turned (e 0) (e 1) (e 2) (e 3) (e 4) (e 5) (e 6) (e 7) (e 8) predicate (dim_of_geometry a) (dim_of_geometry b)
    ∙ ap (holds (converse_predicate predicate) (dim_of_geometry b) (dim_of_geometry a)) (sym (matrices_are_transposed a b))

-- ---- what is asked of two features

-- whether two share a point doesn't hang on their order
contact-turned : (a b : Geometry) → has_contact (matrix_of a b) ≡ has_contact (matrix_of b a)
contact-turned a b =
    let e : ℕ → Dim = λ n. entry n (matrix_of a b) in
    contacts (e 0) (e 1) (e 2) (e 3) (e 4) (e 5) (e 6) (e 7) (e 8) ∙ ap has_contact (sym (matrices_are_transposed a b))
  where
    contacts : (m1 m2 m3 m4 m5 m6 m7 m8 m9 : Dim)
        → has_contact (m1 ∷ m2 ∷ m3 ∷ m4 ∷ m5 ∷ m6 ∷ m7 ∷ m8 ∷ m9 ∷ []) ≡ has_contact (m1 ∷ m4 ∷ m7 ∷ m2 ∷ m5 ∷ m8 ∷ m3 ∷ m6 ∷ m9 ∷ [])
    contacts m1 m2 m3 m4 m5 m6 m7 m8 m9 = ap (λ x. is_filled m1 || x) (swap (is_filled m2) (is_filled m4) (is_filled m5 || false))
      where
        swap : (x y z : Bool) → x || (y || z) ≡ y || (x || z)
        swap true true z = refl
        swap true false z = refl
        swap false true z = refl
        swap false false z = refl

same-test : (x y : Bool) → (x ≡ true → y ≡ true) → (y ≡ true → x ≡ true) → x ≡ y
same-test true y h k = sym (h refl)
same-test false y h k = sym (false_from_ne_true y (λ t. both_ways false refl (k t)))

pub pairs-turn-round : PairsTurnRound
pairs-turn-round (Matrix ask) a b kept = asks-turn-round ask a b kept
pairs-turn-round (Near reach) a b kept =
    same-test (is_within_of (square_of_reach reach) a b) (is_within_of (square_of_reach reach) b a)
    (within-turns a b (square_of_reach reach) (contact-turned a b))
    (within-turns b a (square_of_reach reach) (contact-turned b a))
