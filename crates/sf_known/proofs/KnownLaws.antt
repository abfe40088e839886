-- What is known of a matrix: an answer that it gives is that of the matrix, and it gives one wherever all matrices between agree.
use Rattle.std.proofs.Common.{◌≡◌, refl, ap, sym, ◌∙◌, subst, Bool, true, false, ◌&&◌, ◌||◌, ◌⊎◌, inl, inr, not, List, [], ◌∷◌, Option, Some, None, option_map}
use Rattle.std.specs.Prelude.{IsTrue, is_some, unwrap_or, if◌then◌else◌}
use Rattle.std.proofs.lemmas.Bool.{and_parts, both_ways, or_cases, or_parts}
use Rattle.sf_plane.specs.declared.dim.Dim.{Dim}
use Rattle.sf_plane.specs.declared.dim.Dim.TheVariants as dims
use Rattle.sf_plane.specs.Unions.{greater_dim}
use Rattle.sf_known.proofs.OrderLaws.{above, at-most-if, at-most-lesser, both-at-most, same-at-most}
use Rattle.sf_known.specs.declared.aim.Aim.TheVariants.{Answer, Entries, ButBoundaries}
use Rattle.sf_known.specs.declared.goal.Goal.{Goal}
use Rattle.sf_known.specs.declared.goal.Goal.TheVariants.{Match, MatchOne, Miss, Never}
use Rattle.sf_known.specs.declared.known.Known.{Known}
use Rattle.sf_known.specs.declared.letter.Letter.{Letter}
use Rattle.sf_known.specs.declared.letter.Letter.TheVariants.{Any, Filled, Empty, Zero, One, Two}
use Rattle.sf_known.specs.Entries.{exceeds, lesser_dim}
use Rattle.sf_known.specs.Known.{AnswersAreTrue, AnswersWhereAllAgree, AreAtMost, BothHold, ContactAnswers, Holds, IsAtMost, SettledIsEnough, allows_contact, answer_of, but_boundaries, exceeds_letters, falls_short, greatest_each, have_most, highest, is_matched, is_missed, least_each, lowest, pattern_answer, settled}
use Rattle.sf_known.specs.Patterns.{admits, has_contact, is_filled, matches}

-- ---- letters admit dimensions in a row

admits-between : (l : Letter) (a d b : Dim) → admits l a ≡ true → admits l b ≡ true → IsAtMost a d → IsAtMost d b → admits l d ≡ true
admits-between Any a d b h k g j = refl
admits-between Filled dims.Nothing dims.Nothing b h k g j = absurd cc
admits-between Filled dims.Zero dims.Nothing b h k g j = absurd cc
admits-between Filled dims.One dims.Nothing b h k g j = absurd cc
admits-between Filled dims.Two dims.Nothing b h k g j = absurd cc
admits-between Filled a dims.Zero b h k g j = refl
admits-between Filled a dims.One b h k g j = refl
admits-between Filled a dims.Two b h k g j = refl
admits-between Empty a dims.Nothing b h k g j = refl
admits-between Empty a dims.Zero dims.Nothing h k g j = absurd cc
admits-between Empty a dims.Zero dims.Zero h k g j = absurd cc
admits-between Empty a dims.Zero dims.One h k g j = absurd cc
admits-between Empty a dims.Zero dims.Two h k g j = absurd cc
admits-between Empty a dims.One dims.Nothing h k g j = absurd cc
admits-between Empty a dims.One dims.Zero h k g j = absurd cc
admits-between Empty a dims.One dims.One h k g j = absurd cc
admits-between Empty a dims.One dims.Two h k g j = absurd cc
admits-between Empty a dims.Two dims.Nothing h k g j = absurd cc
admits-between Empty a dims.Two dims.Zero h k g j = absurd cc
admits-between Empty a dims.Two dims.One h k g j = absurd cc
admits-between Empty a dims.Two dims.Two h k g j = absurd cc
admits-between Zero dims.Nothing dims.Nothing b h k g j = absurd cc
admits-between Zero dims.Zero dims.Nothing b h k g j = absurd cc
admits-between Zero dims.One dims.Nothing b h k g j = absurd cc
admits-between Zero dims.Two dims.Nothing b h k g j = absurd cc
admits-between Zero a dims.Zero b h k g j = refl
admits-between Zero a dims.One dims.Nothing h k g j = absurd cc
admits-between Zero a dims.One dims.Zero h k g j = absurd cc
admits-between Zero a dims.One dims.One h k g j = absurd cc
admits-between Zero a dims.One dims.Two h k g j = absurd cc
admits-between Zero a dims.Two dims.Nothing h k g j = absurd cc
admits-between Zero a dims.Two dims.Zero h k g j = absurd cc
admits-between Zero a dims.Two dims.One h k g j = absurd cc
admits-between Zero a dims.Two dims.Two h k g j = absurd cc
admits-between One dims.Nothing dims.Nothing b h k g j = absurd cc
admits-between One dims.Zero dims.Nothing b h k g j = absurd cc
admits-between One dims.One dims.Nothing b h k g j = absurd cc
admits-between One dims.Two dims.Nothing b h k g j = absurd cc
admits-between One dims.Nothing dims.Zero b h k g j = absurd cc
admits-between One dims.Zero dims.Zero b h k g j = absurd cc
admits-between One dims.One dims.Zero b h k g j = absurd cc
admits-between One dims.Two dims.Zero b h k g j = absurd cc
admits-between One a dims.One b h k g j = refl
admits-between One a dims.Two dims.Nothing h k g j = absurd cc
admits-between One a dims.Two dims.Zero h k g j = absurd cc
admits-between One a dims.Two dims.One h k g j = absurd cc
admits-between One a dims.Two dims.Two h k g j = absurd cc
admits-between Two dims.Nothing dims.Nothing b h k g j = absurd cc
admits-between Two dims.Zero dims.Nothing b h k g j = absurd cc
admits-between Two dims.One dims.Nothing b h k g j = absurd cc
admits-between Two dims.Two dims.Nothing b h k g j = absurd cc
admits-between Two dims.Nothing dims.Zero b h k g j = absurd cc
admits-between Two dims.Zero dims.Zero b h k g j = absurd cc
admits-between Two dims.One dims.Zero b h k g j = absurd cc
admits-between Two dims.Two dims.Zero b h k g j = absurd cc
admits-between Two dims.Nothing dims.One b h k g j = absurd cc
admits-between Two dims.Zero dims.One b h k g j = absurd cc
admits-between Two dims.One dims.One b h k g j = absurd cc
admits-between Two dims.Two dims.One b h k g j = absurd cc
admits-between Two a dims.Two b h k g j = refl

exceeds-admitted : (l : Letter) (a d : Dim) → exceeds a (highest l) ≡ true → IsAtMost a d → admits l d ≡ false
exceeds-admitted Any dims.Nothing d h g = absurd cc
exceeds-admitted Any dims.Zero d h g = absurd cc
exceeds-admitted Any dims.One d h g = absurd cc
exceeds-admitted Any dims.Two d h g = absurd cc
exceeds-admitted Filled dims.Nothing d h g = absurd cc
exceeds-admitted Filled dims.Zero d h g = absurd cc
exceeds-admitted Filled dims.One d h g = absurd cc
exceeds-admitted Filled dims.Two d h g = absurd cc
exceeds-admitted Empty dims.Nothing d h g = absurd cc
exceeds-admitted Empty dims.Zero dims.Nothing h g = absurd cc
exceeds-admitted Empty dims.Zero dims.Zero h g = refl
exceeds-admitted Empty dims.Zero dims.One h g = refl
exceeds-admitted Empty dims.Zero dims.Two h g = refl
exceeds-admitted Empty dims.One dims.Nothing h g = absurd cc
exceeds-admitted Empty dims.One dims.Zero h g = refl
exceeds-admitted Empty dims.One dims.One h g = refl
exceeds-admitted Empty dims.One dims.Two h g = refl
exceeds-admitted Empty dims.Two dims.Nothing h g = absurd cc
exceeds-admitted Empty dims.Two dims.Zero h g = refl
exceeds-admitted Empty dims.Two dims.One h g = refl
exceeds-admitted Empty dims.Two dims.Two h g = refl
exceeds-admitted Zero dims.Nothing d h g = absurd cc
exceeds-admitted Zero dims.Zero d h g = absurd cc
exceeds-admitted Zero dims.One dims.Nothing h g = refl
exceeds-admitted Zero dims.One dims.Zero h g = absurd cc
exceeds-admitted Zero dims.One dims.One h g = refl
exceeds-admitted Zero dims.One dims.Two h g = refl
exceeds-admitted Zero dims.Two dims.Nothing h g = refl
exceeds-admitted Zero dims.Two dims.Zero h g = absurd cc
exceeds-admitted Zero dims.Two dims.One h g = refl
exceeds-admitted Zero dims.Two dims.Two h g = refl
exceeds-admitted One dims.Nothing d h g = absurd cc
exceeds-admitted One dims.Zero d h g = absurd cc
exceeds-admitted One dims.One d h g = absurd cc
exceeds-admitted One dims.Two dims.Nothing h g = refl
exceeds-admitted One dims.Two dims.Zero h g = refl
exceeds-admitted One dims.Two dims.One h g = absurd cc
exceeds-admitted One dims.Two dims.Two h g = refl
exceeds-admitted Two dims.Nothing d h g = absurd cc
exceeds-admitted Two dims.Zero d h g = absurd cc
exceeds-admitted Two dims.One d h g = absurd cc
exceeds-admitted Two dims.Two d h g = absurd cc

falls-short-of : (l : Letter) (d b : Dim) → exceeds (lowest l) b ≡ true → IsAtMost d b → admits l d ≡ false
falls-short-of Any d dims.Nothing h g = absurd cc
falls-short-of Any d dims.Zero h g = absurd cc
falls-short-of Any d dims.One h g = absurd cc
falls-short-of Any d dims.Two h g = absurd cc
falls-short-of Filled dims.Nothing dims.Nothing h g = refl
falls-short-of Filled dims.Zero dims.Nothing h g = absurd cc
falls-short-of Filled dims.One dims.Nothing h g = absurd cc
falls-short-of Filled dims.Two dims.Nothing h g = absurd cc
falls-short-of Filled d dims.Zero h g = absurd cc
falls-short-of Filled d dims.One h g = absurd cc
falls-short-of Filled d dims.Two h g = absurd cc
falls-short-of Empty d dims.Nothing h g = absurd cc
falls-short-of Empty d dims.Zero h g = absurd cc
falls-short-of Empty d dims.One h g = absurd cc
falls-short-of Empty d dims.Two h g = absurd cc
falls-short-of Zero dims.Nothing dims.Nothing h g = refl
falls-short-of Zero dims.Zero dims.Nothing h g = absurd cc
falls-short-of Zero dims.One dims.Nothing h g = refl
falls-short-of Zero dims.Two dims.Nothing h g = refl
falls-short-of Zero d dims.Zero h g = absurd cc
falls-short-of Zero d dims.One h g = absurd cc
falls-short-of Zero d dims.Two h g = absurd cc
falls-short-of One dims.Nothing dims.Nothing h g = refl
falls-short-of One dims.Zero dims.Nothing h g = refl
falls-short-of One dims.One dims.Nothing h g = absurd cc
falls-short-of One dims.Two dims.Nothing h g = refl
falls-short-of One dims.Nothing dims.Zero h g = refl
falls-short-of One dims.Zero dims.Zero h g = refl
falls-short-of One dims.One dims.Zero h g = absurd cc
falls-short-of One dims.Two dims.Zero h g = refl
falls-short-of One d dims.One h g = absurd cc
falls-short-of One d dims.Two h g = absurd cc
falls-short-of Two dims.Nothing dims.Nothing h g = refl
falls-short-of Two dims.Zero dims.Nothing h g = refl
falls-short-of Two dims.One dims.Nothing h g = refl
falls-short-of Two dims.Two dims.Nothing h g = absurd cc
falls-short-of Two dims.Nothing dims.Zero h g = refl
falls-short-of Two dims.Zero dims.Zero h g = refl
falls-short-of Two dims.One dims.Zero h g = refl
falls-short-of Two dims.Two dims.Zero h g = absurd cc
falls-short-of Two dims.Nothing dims.One h g = refl
falls-short-of Two dims.Zero dims.One h g = refl
falls-short-of Two dims.One dims.One h g = refl
falls-short-of Two dims.Two dims.One h g = absurd cc
falls-short-of Two d dims.Two h g = absurd cc

not-filled : (l : Letter) (d : Dim) → is_filled (highest l) ≡ false → is_filled d ≡ true → admits l d ≡ false
not-filled Any d h k = absurd cc
not-filled Filled d h k = absurd cc
not-filled Empty dims.Nothing h k = absurd cc
not-filled Empty dims.Zero h k = refl
not-filled Empty dims.One h k = refl
not-filled Empty dims.Two h k = refl
not-filled Zero d h k = absurd cc
not-filled One d h k = absurd cc
not-filled Two d h k = absurd cc

-- the closest dimension above this that it admits
closest-admitted : (l : Letter) (a : Dim) → exceeds a (highest l) ≡ false → admits l (greater_dim (lowest l) a) ≡ true
closest-admitted Any dims.Nothing h = refl
closest-admitted Any dims.Zero h = refl
closest-admitted Any dims.One h = refl
closest-admitted Any dims.Two h = refl
closest-admitted Filled dims.Nothing h = refl
closest-admitted Filled dims.Zero h = refl
closest-admitted Filled dims.One h = refl
closest-admitted Filled dims.Two h = refl
closest-admitted Empty dims.Nothing h = refl
closest-admitted Empty dims.Zero h = absurd cc
closest-admitted Empty dims.One h = absurd cc
closest-admitted Empty dims.Two h = absurd cc
closest-admitted Zero dims.Nothing h = refl
closest-admitted Zero dims.Zero h = refl
closest-admitted Zero dims.One h = absurd cc
closest-admitted Zero dims.Two h = absurd cc
closest-admitted One dims.Nothing h = refl
closest-admitted One dims.Zero h = refl
closest-admitted One dims.One h = refl
closest-admitted One dims.Two h = absurd cc
closest-admitted Two dims.Nothing h = refl
closest-admitted Two dims.Zero h = refl
closest-admitted Two dims.One h = refl
closest-admitted Two dims.Two h = refl

-- ---- tests
and-false : (a b : Bool) → b ≡ false → (a && b) ≡ false
and-false true b k = k
and-false false b k = refl

or-true : (a b : Bool) → b ≡ true → (a || b) ≡ true
or-true true b k = refl
or-true false b k = k

-- ---- patterns
matches-between : (ls : List Letter) (low_ds ds bs : List Dim) → AreAtMost low_ds ds → AreAtMost ds bs → matches ls low_ds ≡ true → matches ls bs ≡ true → matches ls ds ≡ true
matches-between [] low_ds ds bs g j h k = refl
matches-between (l ∷ ls) low_ds [] bs g j h k = refl
matches-between (l ∷ ls) [] (d ∷ ds) bs g j h k = absurd cc
matches-between (l ∷ ls) (a ∷ low_ds) (d ∷ ds) [] g j h k = absurd j
matches-between (l ∷ ls) (a ∷ low_ds) (d ∷ ds) (b ∷ bs) g j h k =
    let low = and_parts (admits l a) (matches ls low_ds) h in
    let high = and_parts (admits l b) (matches ls bs) k in
    ap (λ v. v && matches ls ds) (admits-between l a d b low.0 high.0 g.0 j.0) ∙ matches-between ls low_ds ds bs g.1 j.1 low.1 high.1

exceeds-misses : (ls : List Letter) (low_ds ds : List Dim) → AreAtMost low_ds ds → exceeds_letters ls low_ds ≡ true → matches ls ds ≡ false
exceeds-misses [] low_ds ds g h = absurd cc
exceeds-misses (l ∷ ls) [] ds g h = absurd cc
exceeds-misses (l ∷ ls) (a ∷ low_ds) [] g h = absurd g
exceeds-misses (l ∷ ls) (a ∷ low_ds) (d ∷ ds) g h = by_case (exceeds-misses ls low_ds ds g.1) (or_cases (exceeds a (highest l)) (exceeds_letters ls low_ds) h)
  where
    by_case : (exceeds_letters ls low_ds ≡ true → matches ls ds ≡ false) → (exceeds a (highest l) ≡ true) ⊎ (exceeds_letters ls low_ds ≡ true) → matches (l ∷ ls) (d ∷ ds) ≡ false
    by_case rest (inl k) = ap (λ v. v && matches ls ds) (exceeds-admitted l a d k g.0)
    by_case rest (inr k) = and-false (admits l d) (matches ls ds) (rest k)

falls-misses : (ls : List Letter) (ds bs : List Dim) → AreAtMost ds bs → falls_short ls bs ≡ true → matches ls ds ≡ false
falls-misses [] ds bs g h = absurd cc
falls-misses (l ∷ ls) ds [] g h = absurd cc
falls-misses (l ∷ ls) [] (b ∷ bs) g h = absurd cc
falls-misses (l ∷ ls) (d ∷ ds) (b ∷ bs) g h = by_case (falls-misses ls ds bs g.1) (or_cases (exceeds (lowest l) b) (falls_short ls bs) h)
  where
    by_case : (falls_short ls bs ≡ true → matches ls ds ≡ false) → (exceeds (lowest l) b ≡ true) ⊎ (falls_short ls bs ≡ true) → matches (l ∷ ls) (d ∷ ds) ≡ false
    by_case rest (inl k) = ap (λ v. v && matches ls ds) (falls-short-of l d b k g.0)
    by_case rest (inr k) = and-false (admits l d) (matches ls ds) (rest k)

-- of two geometries that share a point the matrix matches no pattern that allows none
contact-misses : (ls : List Letter) (ds : List Dim) → allows_contact ls ≡ false → has_contact ds ≡ true → matches ls ds ≡ false
contact-misses [] ds h k = absurd cc
contact-misses (a ∷ []) ds h k = absurd cc
contact-misses (a ∷ b ∷ []) ds h k = absurd cc
contact-misses (a ∷ b ∷ c ∷ []) ds h k = absurd cc
contact-misses (a ∷ b ∷ c ∷ d ∷ []) ds h k = absurd cc
contact-misses (a ∷ b ∷ c ∷ d ∷ e ∷ ls) [] h k = absurd cc
contact-misses (a ∷ b ∷ c ∷ d ∷ e ∷ ls) (v ∷ []) h k = absurd cc
contact-misses (a ∷ b ∷ c ∷ d ∷ e ∷ ls) (v ∷ w ∷ []) h k = absurd cc
contact-misses (a ∷ b ∷ c ∷ d ∷ e ∷ ls) (v ∷ w ∷ x ∷ []) h k = absurd cc
contact-misses (a ∷ b ∷ c ∷ d ∷ e ∷ ls) (v ∷ w ∷ x ∷ y ∷ []) h k = absurd cc
contact-misses (a ∷ b ∷ c ∷ d ∷ e ∷ ls) (v ∷ w ∷ x ∷ y ∷ z ∷ ds) h k =
    let at = λ (l : Letter). is_filled (highest l) in
    let first = or_parts (at a) (at b || (at d || (at e || false))) h in
    let second = or_parts (at b) (at d || (at e || false)) first.1 in
    let third = or_parts (at d) (at e || false) second.1 in
    let fourth = or_parts (at e) false third.1 in
    let last = admits e z && matches ls ds in
    elim (or_cases (is_filled v) (is_filled w || (is_filled y || (is_filled z || false))) k) [
      | inl f ↦ ap (λ t. t && (admits b w && (admits c x && (admits d y && last)))) (not-filled a v first.0 f)
      | inr g ↦ and-false (admits a v) (admits b w && (admits c x && (admits d y && last)))
          (elim (or_cases (is_filled w) (is_filled y || (is_filled z || false)) g) [
            | inl f ↦ ap (λ t. t && (admits c x && (admits d y && last))) (not-filled b w second.0 f)
            | inr i ↦ and-false (admits b w) (admits c x && (admits d y && last)) (and-false (admits c x) (admits d y && last)
                (elim (or_cases (is_filled y) (is_filled z || false) i) [
                  | inl f ↦ ap (λ t. t && last) (not-filled d y third.0 f)
                  | inr j ↦ and-false (admits d y) last (elim (or_cases (is_filled z) false j) [
                    | inl f ↦ ap (λ t. t && matches ls ds) (not-filled e z fourth.0 f)
                    | inr n ↦ absurd cc
                  ])
                ]))
          ])
    ]

-- ---- answers
pub matched-is : (known : Known) (letters : List Letter) (m : List Dim) → Holds known m → is_matched known letters ≡ true → matches letters m ≡ true
matched-is known letters m holds h =
    let parts = and_parts (matches letters known.least) (matches letters known.most) h in
    matches-between letters known.least m known.most holds.least holds.most parts.0 parts.1

not-true : (b : Bool) → not b ≡ true → b ≡ false
not-true true h = absurd cc
not-true false h = refl

pub missed-is : (known : Known) (letters : List Letter) (m : List Dim) → Holds known m → is_missed known letters ≡ true → matches letters m ≡ false
missed-is known letters m holds h =
    elim (or_cases ((known.contact && not (allows_contact letters)) || exceeds_letters letters known.least) (falls_short letters known.most) h) [
      | inl g ↦ elim (or_cases (known.contact && not (allows_contact letters)) (exceeds_letters letters known.least) g) [
        | inl k ↦ let parts = and_parts known.contact (not (allows_contact letters)) k in
            contact-misses letters m (not-true (allows_contact letters) parts.1) (holds.contact parts.0)
        | inr k ↦ exceeds-misses letters known.least m holds.least k
      ]
      | inr g ↦ falls-misses letters m known.most holds.most g
    ]

some-is : (a b : Bool) → ◌≡◌ {A = Option Bool} (Some a) (Some b) → a ≡ b
some-is a b h = ap (λ o. unwrap_or o false) h

by-tests : (missed matched v answer : Bool) → (missed ≡ true → v ≡ false) → (matched ≡ true → v ≡ true)
    → ◌≡◌ {A = Option Bool} (if missed then Some false else (if matched then Some true else None)) (Some answer) → answer ≡ v
by-tests true matched v answer f g h = sym (some-is false answer h) ∙ sym (f refl)
by-tests false true v answer f g h = sym (some-is true answer h) ∙ sym (g refl)
by-tests false false v answer f g h = absurd (none h)
  where
    none : ◌≡◌ {A = Option Bool} None (Some answer) → ⊥
    none e = absurd cc

pattern-answered : (known : Known) (letters : List Letter) (m : List Dim) (answer : Bool) → Holds known m → pattern_answer known letters ≡ Some answer → answer ≡ matches letters m
pattern-answered known letters m answer holds h =
    by-tests (is_missed known letters) (is_matched known letters) (matches letters m) answer (missed-is known letters m holds) (matched-is known letters m holds) h

not-answered : (o : Option Bool) (v answer : Bool) → ((b : Bool) → o ≡ Some b → b ≡ v) → option_map not o ≡ Some answer → answer ≡ not v
not-answered None v answer f h = absurd cc
not-answered (Some b) v answer f h = sym (some-is (not b) answer h) ∙ ap not (f b refl)

or-matched : (p q r v w x : Bool) → (p ≡ true → v ≡ true) → (q ≡ true → w ≡ true) → (r ≡ true → x ≡ true) → (p || q || r) ≡ true → (v || w || x) ≡ true
or-matched p q r v w x f g h k =
    elim (or_cases (p || q) r k) [
      | inl i ↦ elim (or_cases p q i) [
        | inl j ↦ ap (λ t. t || w || x) (f j)
        | inr j ↦ ap (λ t. t || x) (or-true v w (g j))
      ]
      | inr i ↦ or-true (v || w) x (h i)
    ]

and-missed : (p q r v w x : Bool) → (p ≡ true → v ≡ false) → (q ≡ true → w ≡ false) → (r ≡ true → x ≡ false) → (p && q && r) ≡ true → (v || w || x) ≡ false
and-missed p q r v w x f g h k =
    let parts = and_parts (p && q) r k in
    let others = and_parts p q parts.0 in
    ap (λ t. t || w || x) (f others.0) ∙ ap (λ t. t || x) (g others.1) ∙ h parts.1

pub answers_are_true : AnswersAreTrue
answers_are_true known (Match letters) m answer holds h = pattern-answered known letters m answer holds h
answers_are_true known (MatchOne one other third) m answer holds h =
    by-tests (is_missed known one && is_missed known other && is_missed known third) (is_matched known one || is_matched known other || is_matched known third)
    (matches one m || matches other m || matches third m) answer
    (and-missed (is_missed known one) (is_missed known other) (is_missed known third) (matches one m) (matches other m) (matches third m)
    (missed-is known one m holds) (missed-is known other m holds) (missed-is known third m holds))
    (or-matched (is_matched known one) (is_matched known other) (is_matched known third) (matches one m) (matches other m) (matches third m)
    (matched-is known one m holds) (matched-is known other m holds) (matched-is known third m holds)) h
answers_are_true known (Miss letters) m answer holds h = not-answered (pattern_answer known letters) (matches letters m) answer (λ b. pattern-answered known letters m b holds) h
answers_are_true known Never m answer holds h = sym (some-is false answer h)

-- ---- an answer wherever all agree
-- the lowest entries from these on that a pattern admits
closest : List Letter → List Dim → List Dim
closest [] ds = ds
closest (l ∷ ls) [] = []
closest (l ∷ ls) (d ∷ ds) = greater_dim (lowest l) d ∷ closest ls ds

closest-least : (ls : List Letter) (ds : List Dim) → AreAtMost ds (closest ls ds)
unfolding closest
closest-least [] ds = same-at-most ds
closest-least (l ∷ ls) [] = refl
closest-least (l ∷ ls) (d ∷ ds) = (above (lowest l) d, closest-least ls ds)

closest-most : (ls : List Letter) (ds bs : List Dim) → AreAtMost ds bs → falls_short ls bs ≡ false → AreAtMost (closest ls ds) bs
unfolding closest
closest-most [] ds bs g h = g
closest-most (l ∷ ls) [] bs g h = g
closest-most (l ∷ ls) (d ∷ ds) [] g h = absurd g
closest-most (l ∷ ls) (d ∷ ds) (b ∷ bs) g h =
    let parts = or_parts (exceeds (lowest l) b) (falls_short ls bs) h in
    (both-at-most (lowest l) d b (at-most-if (lowest l) b parts.0) g.0, closest-most ls ds bs g.1 parts.1)

closest-matches : (ls : List Letter) (ds : List Dim) → exceeds_letters ls ds ≡ false → matches ls (closest ls ds) ≡ true
unfolding closest
closest-matches [] ds h = refl
closest-matches (l ∷ ls) [] h = refl
closest-matches (l ∷ ls) (d ∷ ds) h =
    let parts = or_parts (exceeds d (highest l)) (exceeds_letters ls ds) h in
    ap (λ v. v && matches ls (closest ls ds)) (closest-admitted l d parts.0) ∙ closest-matches ls ds parts.1

no-contact : (known : Known) (m : List Dim) → known.contact ≡ false → IsTrue known.contact → IsTrue (has_contact m)
no-contact known m h k = absurd cc

is-false : (v : Bool) → (v ≡ true → ⊥) → v ≡ false
is-false true f = absurd (f refl)
is-false false f = refl

-- where contact is not known, a broken letter alone misses
missed-by : (known : Known) (letters : List Letter) (over short : Bool) → known.contact ≡ false → exceeds_letters letters known.least ≡ over → falls_short letters known.most ≡ short
    → is_missed known letters ≡ (over || short)
missed-by known letters over short apart e f =
    ap (λ v. (v && not (allows_contact letters)) || exceeds_letters letters known.least || falls_short letters known.most) apart
    ∙ ap (λ v. v || falls_short letters known.most) e
    ∙ ap (λ v. over || v) f

pub answers_where_all_agree : AnswersWhereAllAgree
answers_where_all_agree known letters true ordered apart agree =
    let low = agree known.least (record { least = same-at-most known.least; most = ordered; contact = no-contact known known.least apart }) in
    let high = agree known.most (record { least = ordered; most = same-at-most known.most; contact = no-contact known known.most apart }) in
    let over = is-false (exceeds_letters letters known.least) (λ h. both_ways (matches letters known.least) (exceeds-misses letters known.least known.least (same-at-most known.least) h) low) in
    let short = is-false (falls_short letters known.most) (λ h. both_ways (matches letters known.most) (falls-misses letters known.most known.most (same-at-most known.most) h) high) in
    ap (λ v. if v then Some false else (if is_matched known letters then Some true else None)) (missed-by known letters false false apart over short)
    ∙ ap (λ v. if v && matches letters known.most then Some true else None) low
    ∙ ap (λ v. if v then Some true else None) high
answers_where_all_agree known letters false ordered apart agree = by_value (exceeds_letters letters known.least) (falls_short letters known.most) refl refl
  where
    by_value : (over short : Bool) → exceeds_letters letters known.least ≡ over → falls_short letters known.most ≡ short → pattern_answer known letters ≡ Some false
    by_value true short e f = ap (λ v. if v then Some false else (if is_matched known letters then Some true else None)) (missed-by known letters true short apart e f)
    by_value false true e f = ap (λ v. if v then Some false else (if is_matched known letters then Some true else None)) (missed-by known letters false true apart e f)
    by_value false false e f =
        let m = closest letters known.least in
        let is = agree m (record { least = closest-least letters known.least; most = closest-most letters known.least known.most ordered f; contact = no-contact known m apart }) in
        absurd (both_ways (matches letters m) is (closest-matches letters known.least e))

-- ---- contact
pub contact_answers : ContactAnswers
contact_answers known letters contact none =
    let broken = λ (v : Bool). v || exceeds_letters letters known.least || falls_short letters known.most in
    ap (λ v. if broken (v && not (allows_contact letters)) then Some false else (if is_matched known letters then Some true else None)) contact
    ∙ ap (λ v. if broken (not v) then Some false else (if is_matched known letters then Some true else None)) none

-- ---- what two say together
greatest-low : (xs ys ds : List Dim) → AreAtMost xs ds → AreAtMost ys ds → AreAtMost (greatest_each xs ys) ds
greatest-low [] ys ds g h = g
greatest-low (x ∷ xs) [] ds g h = absurd (subst (AreAtMost (x ∷ xs)) h g)
greatest-low (x ∷ xs) (y ∷ ys) [] g h = absurd g
greatest-low (x ∷ xs) (y ∷ ys) (d ∷ ds) g h = (both-at-most x y d g.0 h.0, greatest-low xs ys ds g.1 h.1)

least-high : (ds xs ys : List Dim) → AreAtMost ds xs → AreAtMost ds ys → AreAtMost ds (least_each xs ys)
least-high [] xs ys g h = ap (λ zs. least_each zs ys) g
least-high (d ∷ ds) [] ys g h = absurd g
least-high (d ∷ ds) (x ∷ xs) [] g h = absurd h
least-high (d ∷ ds) (x ∷ xs) (y ∷ ys) g h = (at-most-lesser d x y g.0 h.0, least-high ds xs ys g.1 h.1)

pub both_hold : BothHold
both_hold known other m holds others =
    record {
      least = greatest-low known.least other.least m holds.least others.least;
      most = least-high m known.most other.most holds.most others.most;
      contact = λ h. elim (or_cases known.contact other.contact h) [ inl k ↦ holds.contact k | inr k ↦ others.contact k ];
    }

-- ---- where each entry has its least and no more
not-admitted : (l : Letter) (d : Dim) → admits l d ≡ false → (exceeds d (highest l) || exceeds (lowest l) d) ≡ true
not-admitted Any dims.Nothing h = absurd cc
not-admitted Any dims.Zero h = absurd cc
not-admitted Any dims.One h = absurd cc
not-admitted Any dims.Two h = absurd cc
not-admitted Filled dims.Nothing h = refl
not-admitted Filled dims.Zero h = absurd cc
not-admitted Filled dims.One h = absurd cc
not-admitted Filled dims.Two h = absurd cc
not-admitted Empty dims.Nothing h = absurd cc
not-admitted Empty dims.Zero h = refl
not-admitted Empty dims.One h = refl
not-admitted Empty dims.Two h = refl
not-admitted Zero dims.Nothing h = refl
not-admitted Zero dims.Zero h = absurd cc
not-admitted Zero dims.One h = refl
not-admitted Zero dims.Two h = refl
not-admitted One dims.Nothing h = refl
not-admitted One dims.Zero h = refl
not-admitted One dims.One h = absurd cc
not-admitted One dims.Two h = refl
not-admitted Two dims.Nothing h = refl
not-admitted Two dims.Zero h = refl
not-admitted Two dims.One h = refl
not-admitted Two dims.Two h = absurd cc

-- an entry is over or short
one-of : (a b p q : Bool) → (a || b) ≡ true → ((a || p) || (b || q)) ≡ true
one-of true b p q h = refl
one-of false true p q h = or-true p true refl
one-of false false p q h = absurd cc

others-of : (a b p q : Bool) → (p || q) ≡ true → ((a || p) || (b || q)) ≡ true
others-of true b p q h = refl
others-of false b true q h = refl
others-of false true false q h = refl
others-of false false false q h = h

not-matched : (ls : List Letter) (ds : List Dim) → matches ls ds ≡ false → (exceeds_letters ls ds || falls_short ls ds) ≡ true
not-matched [] ds h = absurd cc
not-matched (l ∷ ls) [] h = absurd cc
not-matched (l ∷ ls) (d ∷ ds) h = by_value (admits l d) refl (not-matched ls ds)
  where
    by_value : (v : Bool) → admits l d ≡ v → (matches ls ds ≡ false → (exceeds_letters ls ds || falls_short ls ds) ≡ true) → (exceeds_letters (l ∷ ls) (d ∷ ds) || falls_short (l ∷ ls) (d ∷ ds)) ≡ true
    by_value true e rest = others-of (exceeds d (highest l)) (exceeds (lowest l) d) (exceeds_letters ls ds) (falls_short ls ds) (rest (sym (ap (λ v. v && matches ls ds) e) ∙ h))
    by_value false e rest = one-of (exceeds d (highest l)) (exceeds (lowest l) d) (exceeds_letters ls ds) (falls_short ls ds) (not-admitted l d e)

-- of these entries it is known whether they match
abbrev fixed : List Dim → Bool → Known
fixed ds contact = record { least = ds; most = ds; contact = contact }

decided : (ds : List Dim) (contact : Bool) (ls : List Letter) → is_matched (fixed ds contact) ls ≡ false → is_missed (fixed ds contact) ls ≡ true
decided ds contact ls h =
    or-more (contact && not (allows_contact ls)) (exceeds_letters ls ds) (falls_short ls ds) (not-matched ls ds (both-same (matches ls ds) h))
  where
    or-more : (x y z : Bool) → (y || z) ≡ true → (x || y || z) ≡ true
    or-more true y z k = refl
    or-more false y z k = k

    both-same : (v : Bool) → (v && v) ≡ false → v ≡ false
    both-same true k = k
    both-same false k = refl

abbrev by-two : Bool → Bool → Option Bool
by-two matched missed = if missed then Some false else (if matched then Some true else None)

one-some : (matched missed : Bool) → (matched ≡ false → missed ≡ true) → is_some (by-two matched missed) ≡ true
one-some matched true f = refl
one-some true false f = refl
one-some false false f = f refl

none-some : (o : Option Bool) → is_some o ≡ true → is_some (option_map not o) ≡ true
none-some None h = h
none-some (Some b) h = refl

three-missed : (p q r x y z : Bool) → (p ≡ false → x ≡ true) → (q ≡ false → y ≡ true) → (r ≡ false → z ≡ true) → (p || q || r) ≡ false → (x && y && z) ≡ true
three-missed p q r x y z f g h k =
    let parts = or_parts (p || q) r k in
    let others = or_parts p q parts.0 in
    ap (λ v. v && y && z) (f others.0) ∙ ap (λ v. v && z) (g others.1) ∙ h parts.1

settled-answered : (known : Known) (goal : Goal) → is_some (answer_of (settled known) goal) ≡ true
settled-answered known (Match letters) =
    one-some (is_matched (settled known) letters) (is_missed (settled known) letters) (decided known.least known.contact letters)
settled-answered known (MatchOne one other third) =
    one-some (is_matched (settled known) one || is_matched (settled known) other || is_matched (settled known) third) (is_missed (settled known) one && is_missed (settled known) other && is_missed (settled known) third)
    (three-missed (is_matched (settled known) one) (is_matched (settled known) other) (is_matched (settled known) third) (is_missed (settled known) one) (is_missed (settled known) other) (is_missed (settled known) third)
    (decided known.least known.contact one) (decided known.least known.contact other) (decided known.least known.contact third))
settled-answered known (Miss letters) =
    none-some (pattern_answer (settled known) letters)
    (one-some (is_matched (settled known) letters) (is_missed (settled known) letters) (decided known.least known.contact letters))
settled-answered known Never = refl

own-most : (d : Dim) → exceeds d d ≡ false
own-most dims.Nothing = refl
own-most dims.Zero = refl
own-most dims.One = refl
own-most dims.Two = refl

own-lesser : (d : Dim) → exceeds (lesser_dim dims.Zero d) d ≡ false
own-lesser dims.Nothing = refl
own-lesser dims.Zero = refl
own-lesser dims.One = refl
own-lesser dims.Two = refl

have-own : (ds : List Dim) → have_most ds ds ≡ true
have-own [] = refl
have-own (d ∷ ds) = ap (λ v. not v && have_most ds ds) (own-most d) ∙ have-own ds

have-but : (ds : List Dim) → have_most ds (but_boundaries ds) ≡ true
have-but [] = refl
have-but (a ∷ []) = have-own (a ∷ [])
have-but (a ∷ b ∷ []) = have-own (a ∷ b ∷ [])
have-but (a ∷ b ∷ c ∷ []) = have-own (a ∷ b ∷ c ∷ [])
have-but (a ∷ b ∷ c ∷ d ∷ []) = have-own (a ∷ b ∷ c ∷ d ∷ [])
have-but (a ∷ b ∷ c ∷ d ∷ e ∷ []) = have-own (a ∷ b ∷ c ∷ d ∷ e ∷ [])
have-but (a ∷ b ∷ c ∷ d ∷ e ∷ f ∷ ds) =
    let rest = f ∷ ds in
    let bb = exceeds (lesser_dim dims.Zero e) e in
    ap (λ v. not v && (not (exceeds b b) && (not (exceeds c c) && (not (exceeds d d) && (not bb && have_most rest rest))))) (own-most a)
    ∙ ap (λ v. not v && (not (exceeds c c) && (not (exceeds d d) && (not bb && have_most rest rest)))) (own-most b)
    ∙ ap (λ v. not v && (not (exceeds d d) && (not bb && have_most rest rest))) (own-most c)
    ∙ ap (λ v. not v && (not bb && have_most rest rest)) (own-most d)
    ∙ ap (λ v. not v && have_most rest rest) (own-lesser e)
    ∙ have-own rest

pub settled_is_enough : SettledIsEnough
settled_is_enough known (Answer goal) = settled-answered known goal
settled_is_enough known Entries = have-own known.least
settled_is_enough known ButBoundaries = have-but known.least
