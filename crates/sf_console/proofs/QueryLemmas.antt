-- The answers to `distance`, `relate`, `match` and `query`.
use Rattle.std.proofs.Common.{◌≡◌, ◌∙◌, ◌⊎◌, ℕ, ◌<◌, ℤ, pos, ◌*ℤ◌, ◌≤ℤ◌, IsTrue, List, [], ◌∷◌, ◌++◌, length, map, codes, decimal, get_or, Option, None, Some, option_map, Result, Ok, Err, inl, inr, refl, ap, arith}
use Rattle.std.specs.Global.{Vec}
use Rattle.std.specs.Result.{IsErrAnd}
use Rattle.sf_refusals.specs.declared.refusal.Refusal.{Refusal}
use Rattle.sf_refusals.specs.declared.refusal.Refusal.TheVariants.{Memory}
use Rattle.std.proofs.lemmas.Int.{ints}
use Rattle.sf_grid.specs.Fraction.{Fraction, IsFraction, fraction_eq}
use Rattle.sf_grid.proofs.CallerLemmas.{eq_from_test, mul, mul_nonneg, nonneg_from_mul, ring, var}
use Rattle.sf_geometry.specs.declared.geometry.Geometry.{Geometry}
use Rattle.sf_distance.specs.declared.square.Square.{Square}
use Rattle.sf_distance.specs.Mixed.{number_of}
use Rattle.sf_distance.specs.Reaches.{square_of_reach}
use Rattle.sf_distance.specs.Texts.{distance_text, square_text}
use Rattle.sf_distance.proofs.TextLaws.{equal_is_written_alike}
use Rattle.sf_nearness.specs.Least.{least_square_of}
use Rattle.sf_nearness.proofs.PairLaws.{least_is_number}
use Rattle.sf_near.specs.Replies.{IsFoundWithin, IsMeasured, IsMeasuredTo}
use Rattle.sf_known.specs.declared.matrix.Matrix.{Matrix}
use Rattle.sf_features.specs.Features.{FeatureContent}
use Rattle.sf_layers.specs.Content.{LayerContent, feature_of}
use Rattle.sf_query.specs.declared.ask.Ask.{Ask}
use Rattle.sf_query.specs.declared.found.Found.{Found}
use Rattle.sf_query.specs.declared.refusal.Refusal.{Refusal as QueryRefusal}
use Rattle.sf_query.specs.declared.refusal.Refusal.TheVariants as queries
use Rattle.sf_query.specs.Refusals.{refusal_of}
use Rattle.sf_query.specs.Replies.{IsQueried, IsRelated, IsRelatedTo}
use Rattle.sf_console.specs.declared.reply.Reply.{Reply}
use Rattle.sf_console.specs.Answers.{distance_words, distant_text, found_of, found_rows, line, matrix_text, near_rows, refusal_line, related_text, reply_text, rows, rows_of, told, told_of}
use Rattle.sf_console.proofs.ReadingLemmas.{refused_text}

-- the text is this one, or that of out of memory
abbrev pub IsToldAs : List ℕ → List ℕ → Type 0
IsToldAs expected text = (text ≡ expected) ⊎ (text ≡ refusal_line Memory)

-- ---- the matrix of a feature

pub related-told : (o : Option LayerContent) (id : ℕ) (given : Geometry) (matrix : Matrix) → IsRelated o id given (Ok matrix) → line (matrix_text matrix.0) ≡ told (related_text given) o id
related-told None id given matrix is = cc
related-told (Some layer) id given matrix is = by (feature_of layer id) is
  where
    by : (f : Option FeatureContent) → IsRelatedTo f given (Ok matrix) → line (matrix_text matrix.0) ≡ told_of (related_text given) (found_of (option_map (λ feature. feature.geometry) f))
    by None h = cc
    by (Some feature) h = ap (λ entries. line (matrix_text entries)) h.0

-- one refusal of a query, told as that of the store
pub refused-as : (refusal other : QueryRefusal) (r : Result Reply Refusal) → IsErrAnd r (λ e. e ≡ refusal_of refusal) → refusal ≡ other → reply_text r ≡ refusal_line (refusal_of other)
refused-as refusal other r is same = refused_text r (refusal_of refusal) is ∙ ap (λ x. refusal_line (refusal_of x)) same

pub related-refused : (o : Option LayerContent) (id : ℕ) (given : Geometry) (refusal : QueryRefusal) (r : Result Reply Refusal) → IsRelated o id given (Err refusal)
    → IsErrAnd r (λ e. e ≡ refusal_of refusal) → IsToldAs (told (related_text given) o id) (reply_text r)
related-refused None id given refusal r h is = inl (refused-as refusal queries.NoLayer r is cc)
related-refused (Some layer) id given refusal r h is = by (feature_of layer id) h
  where
    by : (f : Option FeatureContent) → IsRelatedTo f given (Err refusal) → IsToldAs (told_of (related_text given) (found_of (option_map (λ feature. feature.geometry) f))) (reply_text r)
    by None missing = inl (refused-as refusal queries.NoFeature r is cc)
    by (Some feature) want = inr (refused-as refusal queries.Memory r is want)

-- ---- the features that are as asked

pub queried-rows : (o : Option LayerContent) (ask : Ask) (given : Geometry) (found : Found) → IsQueried o ask given (Ok found) → rows (map decimal found.ids.items) ≡ rows_of (found_rows ask given) o
queried-rows None ask given found h = cc
queried-rows (Some layer) ask given found h = ap (λ ids. rows (map decimal ids)) h.0.ids

pub queried-refused : (o : Option LayerContent) (ask : Ask) (given : Geometry) (refusal : QueryRefusal) (r : Result Reply Refusal) → IsQueried o ask given (Err refusal)
    → IsErrAnd r (λ e. e ≡ refusal_of refusal) → IsToldAs (rows_of (found_rows ask given) o) (reply_text r)
queried-refused None ask given refusal r h is = inl (refused-as refusal queries.NoLayer r is cc)
queried-refused (Some layer) ask given refusal r want is = inr (refused-as refusal queries.Memory r is want)

-- ---- distances

turned : (a b c : ℤ) → a ≡ b *ℤ c → pos 0 ≤ℤ a → pos 0 ≤ℤ (c *ℤ b)
turned a b c is h = omega (arith, ints, is, ring (b ∷ c ∷ []) (mul (var 1) (var 0)) (mul (var 0) (var 1)) refl, h)

-- a fraction that is the number of one that is not negative is not negative
not_below : (s t : Fraction) → IsFraction s → pos 0 ≤ℤ s.num → IsTrue (fraction_eq s t) → pos 0 ≤ℤ t.num
not_below s t number some same =
    nonneg_from_mul (pos s.den) t.num (let den : 0 < s.den = number.positive in omega (arith, ints))
    (turned (s.num *ℤ pos t.den) t.num (pos s.den) (eq_from_test (s.num *ℤ pos t.den) (t.num *ℤ pos s.den) same) (mul_nonneg s.num t.den some))

-- the distance of one number, whatever its terms
pub written-alike : (square : Square) (t : Fraction) → IsFraction (number_of square) → IsFraction t → IsTrue (fraction_eq (number_of square) t) → distance_text (number_of square) ≡ distance_text t
written-alike square t number other same =
    (equal_is_written_alike (number_of square) t number other (omega (arith, ints)) (not_below (number_of square) t number (omega (arith, ints)) same) same).0

alike : (square : Square) (a b : Geometry) → IsFraction (number_of square) → IsTrue (fraction_eq (number_of square) (least_square_of a b))
    → distance_words (number_of square) ≡ distance_words (least_square_of a b)
alike square a b number same =
    by
    (equal_is_written_alike (number_of square) (least_square_of a b) number (least_is_number a b) (omega (arith, ints))
    (not_below (number_of square) (least_square_of a b) number (omega (arith, ints)) same) same)
  where
    by : (distance_text (number_of square) ≡ distance_text (least_square_of a b)) × (square_text (number_of square) ≡ square_text (least_square_of a b))
        → distance_words (number_of square) ≡ distance_words (least_square_of a b)
    by texts = ap (λ t. t ++ (codes " " ++ square_text (number_of square))) texts.0 ∙ ap (λ t. distance_text (least_square_of a b) ++ (codes " " ++ t)) texts.1

pub distant-told : (o : Option LayerContent) (id : ℕ) (given : Geometry) (square : Square) → IsMeasured o id given (Ok square) → line (distance_words (number_of square)) ≡ told (distant_text given) o id
distant-told None id given square is = cc
distant-told (Some layer) id given square is = by (feature_of layer id) is
  where
    by : (f : Option FeatureContent) → IsMeasuredTo f given (Ok square) → line (distance_words (number_of square)) ≡ told_of (distant_text given) (found_of (option_map (λ feature. feature.geometry) f))
    by None h = cc
    by (Some feature) h = ap line (alike square feature.geometry given h.0.is_number h.1)

pub distant-refused : (o : Option LayerContent) (id : ℕ) (given : Geometry) (refusal : QueryRefusal) (r : Result Reply Refusal) → IsMeasured o id given (Err refusal)
    → IsErrAnd r (λ e. e ≡ refusal_of refusal) → IsToldAs (told (distant_text given) o id) (reply_text r)
distant-refused None id given refusal r h is = inl (refused-as refusal queries.NoLayer r is cc)
distant-refused (Some layer) id given refusal r h is = by (feature_of layer id) h
  where
    by : (f : Option FeatureContent) → IsMeasuredTo f given (Err refusal) → IsToldAs (told_of (distant_text given) (found_of (option_map (λ feature. feature.geometry) f))) (reply_text r)
    by None missing = inl (refused-as refusal queries.NoFeature r is cc)
    by (Some feature) want = inr (refused-as refusal queries.Memory r is want)

pub near-rows : (o : Option LayerContent) (reach : ℕ) (given : Geometry) (ids : Vec ℕ) → IsFoundWithin o (square_of_reach reach) given (Ok ids) → rows (map decimal ids.items) ≡ rows_of (near_rows reach given) o
near-rows None reach given ids h = cc
near-rows (Some layer) reach given ids h = ap (λ ids. rows (map decimal ids)) h.0

pub near-refused : (o : Option LayerContent) (reach : ℕ) (given : Geometry) (refusal : QueryRefusal) (r : Result Reply Refusal) → IsFoundWithin o (square_of_reach reach) given (Err refusal)
    → IsErrAnd r (λ e. e ≡ refusal_of refusal) → IsToldAs (rows_of (near_rows reach given) o) (reply_text r)
near-refused None reach given refusal r h is = inl (refused-as refusal queries.NoLayer r is cc)
near-refused (Some layer) reach given refusal r want is = inr (refused-as refusal queries.Memory r is want)

-- ---- nine letters and a line feed

pub nine_letters : (text : List ℕ) → length text ≡ 9
    → get_or text 0 0 ∷ get_or text 1 0 ∷ get_or text 2 0 ∷ get_or text 3 0 ∷ get_or text 4 0 ∷ get_or text 5 0 ∷ get_or text 6 0 ∷ get_or text 7 0 ∷ get_or text 8 0 ∷ 10 ∷ [] ≡ line text
nine_letters [] n = absurd (omega (arith, n))
nine_letters (a ∷ []) n = absurd (omega (arith, n))
nine_letters (a ∷ b ∷ []) n = absurd (omega (arith, n))
nine_letters (a ∷ b ∷ c ∷ []) n = absurd (omega (arith, n))
nine_letters (a ∷ b ∷ c ∷ d ∷ []) n = absurd (omega (arith, n))
nine_letters (a ∷ b ∷ c ∷ d ∷ e ∷ []) n = absurd (omega (arith, n))
nine_letters (a ∷ b ∷ c ∷ d ∷ e ∷ f ∷ []) n = absurd (omega (arith, n))
nine_letters (a ∷ b ∷ c ∷ d ∷ e ∷ f ∷ g ∷ []) n = absurd (omega (arith, n))
nine_letters (a ∷ b ∷ c ∷ d ∷ e ∷ f ∷ g ∷ h ∷ []) n = absurd (omega (arith, n))
nine_letters (a ∷ b ∷ c ∷ d ∷ e ∷ f ∷ g ∷ h ∷ i ∷ []) n = refl
nine_letters (a ∷ b ∷ c ∷ d ∷ e ∷ f ∷ g ∷ h ∷ i ∷ j ∷ more) n = absurd (omega (arith, n))
