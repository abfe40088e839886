-- A predicate or a pattern that needs contact holds of no matrix without it.
use Rattle.std.specs.Prelude.{IsTrue, IsFalse, zip}
use Rattle.std.specs.List.{list_all}
use Rattle.std.proofs.Common.{◌≡◌, refl, ap, sym, ◌∙◌, arith, true≢false, Bool, true, false, ◌&&◌, ◌||◌, List, [], ◌∷◌, length, inl, inr}
use Rattle.std.proofs.lemmas.Bool.{or_cases, or_parts}
use Rattle.sf_plane.specs.declared.dim.Dim.{Dim}
use Rattle.sf_plane.specs.declared.dim.Dim.TheVariants as dims
use Rattle.sf_known.specs.declared.predicate.Predicate.{Predicate}
use Rattle.sf_known.specs.declared.predicate.Predicate.TheVariants.{Equals, Disjoint, Intersects, Touches, Within, Contains, Crosses, Overlaps}
use Rattle.sf_known.specs.declared.letter.Letter.{Letter}
use Rattle.sf_known.specs.declared.letter.Letter.TheVariants as letters
use Rattle.sf_known.specs.Patterns.{PatternsNeedContact, admits, asks_contact, asks_filled, has_contact, is_filled, matches}
use Rattle.sf_known.specs.Predicates.{PredicatesNeedContact, crosses, holds, overlaps, predicate_asks_contact}

or-none : (b : Bool) → (b || false) ≡ b
or-none true = refl
or-none false = refl

no_crosses : (a b ie be ei eb ee : Dim)
    → IsFalse (crosses a b (dims.Nothing ∷ dims.Nothing ∷ ie ∷ dims.Nothing ∷ dims.Nothing ∷ be ∷ ei ∷ eb ∷ ee ∷ []))
no_crosses dims.Nothing dims.Nothing ie be ei eb ee = refl
no_crosses dims.Nothing dims.Zero ie be ei eb ee = refl
no_crosses dims.Nothing dims.One ie be ei eb ee = refl
no_crosses dims.Nothing dims.Two ie be ei eb ee = refl
no_crosses dims.Zero dims.Nothing ie be ei eb ee = refl
no_crosses dims.Zero dims.Zero ie be ei eb ee = refl
no_crosses dims.Zero dims.One ie be ei eb ee = refl
no_crosses dims.Zero dims.Two ie be ei eb ee = refl
no_crosses dims.One dims.Nothing ie be ei eb ee = refl
no_crosses dims.One dims.Zero ie be ei eb ee = refl
no_crosses dims.One dims.One ie be ei eb ee = refl
no_crosses dims.One dims.Two ie be ei eb ee = refl
no_crosses dims.Two dims.Nothing ie be ei eb ee = refl
no_crosses dims.Two dims.Zero ie be ei eb ee = refl
no_crosses dims.Two dims.One ie be ei eb ee = refl
no_crosses dims.Two dims.Two ie be ei eb ee = refl

no_overlaps : (a b ie be ei eb ee : Dim)
    → IsFalse (overlaps a b (dims.Nothing ∷ dims.Nothing ∷ ie ∷ dims.Nothing ∷ dims.Nothing ∷ be ∷ ei ∷ eb ∷ ee ∷ []))
no_overlaps dims.Nothing dims.Nothing ie be ei eb ee = refl
no_overlaps dims.Nothing dims.Zero ie be ei eb ee = refl
no_overlaps dims.Nothing dims.One ie be ei eb ee = refl
no_overlaps dims.Nothing dims.Two ie be ei eb ee = refl
no_overlaps dims.Zero dims.Nothing ie be ei eb ee = refl
no_overlaps dims.Zero dims.Zero ie be ei eb ee = refl
no_overlaps dims.Zero dims.One ie be ei eb ee = refl
no_overlaps dims.Zero dims.Two ie be ei eb ee = refl
no_overlaps dims.One dims.Nothing ie be ei eb ee = refl
no_overlaps dims.One dims.Zero ie be ei eb ee = refl
no_overlaps dims.One dims.One ie be ei eb ee = refl
no_overlaps dims.One dims.Two ie be ei eb ee = refl
no_overlaps dims.Two dims.Nothing ie be ei eb ee = refl
no_overlaps dims.Two dims.Zero ie be ei eb ee = refl
no_overlaps dims.Two dims.One ie be ei eb ee = refl
no_overlaps dims.Two dims.Two ie be ei eb ee = refl

pub no_contact : (p : Predicate) (a b ie be ei eb ee : Dim) → IsTrue (predicate_asks_contact p)
    → IsFalse (holds p a b (dims.Nothing ∷ dims.Nothing ∷ ie ∷ dims.Nothing ∷ dims.Nothing ∷ be ∷ ei ∷ eb ∷ ee ∷ []))
no_contact Equals a b ie be ei eb ee h = refl
no_contact Disjoint a b ie be ei eb ee h = absurd (true≢false (sym h))
no_contact Intersects a b ie be ei eb ee h = refl
no_contact Touches a b ie be ei eb ee h = refl
no_contact Within a b ie be ei eb ee h = refl
no_contact Contains a b ie be ei eb ee h = refl
no_contact Crosses a b ie be ei eb ee h = no_crosses a b ie be ei eb ee
no_contact Overlaps a b ie be ei eb ee h = no_overlaps a b ie be ei eb ee

-- no contact: four of the nine entries are empty
pub record IsApart (m : List Dim) : Type 0 where
  pub ie : Dim
  pub be : Dim
  pub ei : Dim
  pub eb : Dim
  pub ee : Dim
  pub is : m ≡ dims.Nothing ∷ dims.Nothing ∷ ie ∷ dims.Nothing ∷ dims.Nothing ∷ be ∷ ei ∷ eb ∷ ee ∷ []

pub empty-entry : (d : Dim) → is_filled d ≡ false → d ≡ dims.Nothing
empty-entry dims.Nothing h = refl
empty-entry dims.Zero h = absurd (true≢false h)
empty-entry dims.One h = absurd (true≢false h)
empty-entry dims.Two h = absurd (true≢false h)

no-contact : (ii ib ie bi bb be ei eb ee : Dim) → IsFalse (has_contact (ii ∷ ib ∷ ie ∷ bi ∷ bb ∷ be ∷ ei ∷ eb ∷ ee ∷ []))
    → IsApart (ii ∷ ib ∷ ie ∷ bi ∷ bb ∷ be ∷ ei ∷ eb ∷ ee ∷ [])
no-contact ii ib ie bi bb be ei eb ee h =
    let first = or_parts (is_filled ii) (is_filled ib || (is_filled bi || (is_filled bb || false))) h in
    let second = or_parts (is_filled ib) (is_filled bi || (is_filled bb || false)) first.1 in
    let third = or_parts (is_filled bi) (is_filled bb || false) second.1 in
    let fourth = or_parts (is_filled bb) false third.1 in
    record {
      ie = ie;
      be = be;
      ei = ei;
      eb = eb;
      ee = ee;
      is =
          ap (λ d. d ∷ ib ∷ ie ∷ bi ∷ bb ∷ be ∷ ei ∷ eb ∷ ee ∷ []) (empty-entry ii first.0)
          ∙ ap (λ d. dims.Nothing ∷ d ∷ ie ∷ bi ∷ bb ∷ be ∷ ei ∷ eb ∷ ee ∷ []) (empty-entry ib second.0)
          ∙ ap (λ d. dims.Nothing ∷ dims.Nothing ∷ ie ∷ d ∷ bb ∷ be ∷ ei ∷ eb ∷ ee ∷ []) (empty-entry bi third.0)
          ∙ ap (λ d. dims.Nothing ∷ dims.Nothing ∷ ie ∷ dims.Nothing ∷ d ∷ be ∷ ei ∷ eb ∷ ee ∷ []) (empty-entry bb fourth.0);
    }

pub apart-from : (m : List Dim) → IsFalse (has_contact m) → length m ≡ 9 → IsApart m
apart-from [] h n = absurd (omega (arith, n))
apart-from (a ∷ []) h n = absurd (omega (arith, n))
apart-from (a ∷ b ∷ []) h n = absurd (omega (arith, n))
apart-from (a ∷ b ∷ c ∷ []) h n = absurd (omega (arith, n))
apart-from (a ∷ b ∷ c ∷ d ∷ []) h n = absurd (omega (arith, n))
apart-from (a ∷ b ∷ c ∷ d ∷ e ∷ []) h n = absurd (omega (arith, n))
apart-from (a ∷ b ∷ c ∷ d ∷ e ∷ f ∷ []) h n = absurd (omega (arith, n))
apart-from (a ∷ b ∷ c ∷ d ∷ e ∷ f ∷ g ∷ []) h n = absurd (omega (arith, n))
apart-from (a ∷ b ∷ c ∷ d ∷ e ∷ f ∷ g ∷ i ∷ []) h n = absurd (omega (arith, n))
apart-from (a ∷ b ∷ c ∷ d ∷ e ∷ f ∷ g ∷ i ∷ j ∷ []) h n = no-contact a b c d e f g i j h
apart-from (a ∷ b ∷ c ∷ d ∷ e ∷ f ∷ g ∷ i ∷ j ∷ k ∷ ds) h n = absurd (omega (arith, n))

pub predicates_need_contact : PredicatesNeedContact
predicates_need_contact predicate a b m asks none n =
    let apart = apart-from m none n in
    ap (holds predicate a b) apart.is ∙ no_contact predicate a b apart.ie apart.be apart.ei apart.eb apart.ee asks

-- ---- patterns
-- a letter of a filled entry is not admitted where there is none
not-admitted : (l : Letter) → asks_filled l ≡ true → admits l dims.Nothing ≡ false
not-admitted letters.Any h = absurd (true≢false (sym h))
not-admitted letters.Empty h = absurd (true≢false (sym h))
not-admitted letters.Filled h = refl
not-admitted letters.Zero h = refl
not-admitted letters.One h = refl
not-admitted letters.Two h = refl

-- of four tests and others, one that fails
fails-first : (a : Bool) (rest : Bool) → a ≡ false → (a && rest) ≡ false
fails-first true rest h = absurd (true≢false h)
fails-first false rest h = refl

fails-later : (a : Bool) (rest : Bool) → rest ≡ false → (a && rest) ≡ false
fails-later true rest h = h
fails-later false rest h = refl

no-match : (letters : List Letter) (ie be ei eb ee : Dim) → IsTrue (asks_contact letters)
    → IsFalse (matches letters (dims.Nothing ∷ dims.Nothing ∷ ie ∷ dims.Nothing ∷ dims.Nothing ∷ be ∷ ei ∷ eb ∷ ee ∷ []))
no-match [] ie be ei eb ee h = absurd (true≢false (sym h))
no-match (a ∷ []) ie be ei eb ee h = absurd (true≢false (sym h))
no-match (a ∷ b ∷ []) ie be ei eb ee h = absurd (true≢false (sym h))
no-match (a ∷ b ∷ c ∷ []) ie be ei eb ee h = absurd (true≢false (sym h))
no-match (a ∷ b ∷ c ∷ d ∷ []) ie be ei eb ee h = absurd (true≢false (sym h))
no-match (a ∷ b ∷ c ∷ d ∷ e ∷ rest) ie be ei eb ee h =
    let others = list_all (λ (pair : Letter × Dim). admits pair.0 pair.1) (zip rest (be ∷ ei ∷ eb ∷ ee ∷ [])) in
    elim (or_cases (asks_filled a) (asks_filled b || (asks_filled d || (asks_filled e || false))) h) [
      | inl f ↦ fails-first (admits a dims.Nothing) _ (not-admitted a f)
      | inr g ↦ fails-later (admits a dims.Nothing) _
          (elim (or_cases (asks_filled b) (asks_filled d || (asks_filled e || false)) g) [
            | inl f ↦ fails-first (admits b dims.Nothing) _ (not-admitted b f)
            | inr i ↦ fails-later (admits b dims.Nothing) _ (fails-later (admits c ie) _
                (elim (or_cases (asks_filled d) (asks_filled e || false) i) [
                  | inl f ↦ fails-first (admits d dims.Nothing) (admits e dims.Nothing && others) (not-admitted d f)
                  | inr j ↦ fails-later (admits d dims.Nothing) (admits e dims.Nothing && others)
                      (fails-first (admits e dims.Nothing) others (not-admitted e (sym (or-none (asks_filled e)) ∙ j)))
                ]))
          ])
    ]

pub patterns_need_contact : PatternsNeedContact
patterns_need_contact letters entries asks none n =
    let apart = apart-from entries none n in
    ap (matches letters) apart.is ∙ no-match letters apart.ie apart.be apart.ei apart.eb apart.ee asks
