-- What `distance`, `relate`, `match` and `query` make of the words after them.
use Rattle.std.proofs.Common.{◌≡◌, ◌≢◌, ℕ, true, false, List, [], ◌∷◌, Option, None, Some, Result, Ok, Err, if◌then◌else◌, refl, sym, ap, ◌∙◌, subst}
use Rattle.std.specs.Option.{ok_or}
use Rattle.std.specs.Result.{IsErrAnd}
use Rattle.sf_refusals.specs.declared.refusal.Refusal.{Refusal}
use Rattle.sf_refusals.specs.declared.refusal.Refusal.TheVariants.{Memory, BadCommand, BadPattern}
use Rattle.sf_geometry.specs.declared.geometry.Geometry.{Geometry}
use Rattle.sf_geometry.specs.Size.{IsSized}
use Rattle.sf_valid_rules.specs.Validity.{IsValid}
use Rattle.sf_valid_rules.specs.Verdicts.{first_fault}
use Rattle.sf_validity.specs.declared.refusal.Refusal.{Refusal as ValidityRefusal}
use Rattle.sf_validity.specs.declared.refusal.Refusal.TheVariants as validities
use Rattle.sf_validity.specs.Refusals.{Refuses, refusal_of}
use Rattle.sf_known.specs.declared.letter.Letter.{Letter}
use Rattle.sf_known.specs.declared.refusal.Refusal.{Refusal as PatternRefusal}
use Rattle.sf_known.specs.declared.refusal.Refusal.TheVariants as patterns
use Rattle.sf_known.specs.Patterns.{pattern_of}
use Rattle.sf_wkt.specs.declared.fault.WktFault.{WktFault}
use Rattle.sf_wkt.specs.Grammar.{read}
use Rattle.sf_steps.proofs.Judged.{its_fault, no_fault}
use Rattle.sf_commands.specs.declared.command.Command.{Command}
use Rattle.sf_commands.specs.declared.command.Command.TheVariants.{Near}
use Rattle.sf_words.specs.Reaches.{is_near, reach_of}
use Rattle.sf_words.specs.Words.{words, skip_blanks, skip_word}
use Rattle.sf_commands.specs.Commands.{after_two_words, faultless, made, query_asked, query_named, query_near, valid_of, with_geometry, OrMemory}
use Rattle.sf_commands.proofs.AddLemmas.{OrMemory-memory, OrMemory-refused, OrMemory-same}

-- ---- the words

with_some : (make : List ℕ → List ℕ → List ℕ → Result Command Refusal) (layer word text : List ℕ) (more : List (List ℕ)) → more ≢ []
    → after_two_words make (layer ∷ word ∷ more) text ≡ make layer word text
with_some make layer word text [] some = absurd (some refl)
with_some make layer word text (first ∷ more) some = refl

-- what the words after a verb give, where a text stands behind the second of them
pub after_two_words-text : (make : List ℕ → List ℕ → List ℕ → Result Command Refusal) (line next last layer word text : List ℕ) → words line ≡ layer ∷ words next → next ≡ skip_word line
    → words next ≡ word ∷ words last → last ≡ skip_word next → words last ≢ [] → text ≡ skip_blanks last
    → after_two_words make (words line) (skip_blanks (skip_word (skip_word line))) ≡ make layer word text
after_two_words-text make line next last layer word text first rest second end some behind =
    let all : words line ≡ layer ∷ word ∷ words last = first ∙ ap (λ w. layer ∷ w) second in
    let left : last ≡ skip_word (skip_word line) = end ∙ ap skip_word rest in
    ap (λ w. after_two_words make w (skip_blanks (skip_word (skip_word line)))) all
    ∙ ap (λ n. after_two_words make (layer ∷ word ∷ words last) (skip_blanks n)) (sym left)
    ∙ ap (λ t. after_two_words make (layer ∷ word ∷ words last) t) (sym behind)
    ∙ with_some make layer word text (words last) some

-- a query by a distance, and by a predicate
pub asked-near : (layer ask text : List ℕ) → is_near ask ≡ true → query_asked layer ask text ≡ query_near layer (words text) (skip_blanks (skip_word text))
asked-near layer ask text is = ap (λ near. if near then query_near layer (words text) (skip_blanks (skip_word text)) else query_named layer ask text) is

pub asked-named : (layer ask text : List ℕ) → is_near ask ≡ false → query_asked layer ask text ≡ query_named layer ask text
asked-named layer ask text is = ap (λ near. if near then query_near layer (words text) (skip_blanks (skip_word text)) else query_named layer ask text) is

near_some : (layer distance text : List ℕ) (more : List (List ℕ)) → more ≢ []
    → query_near layer (distance ∷ more) text ≡ with_geometry Near layer (ok_or (reach_of distance) BadCommand) (valid_of (read text))
near_some layer distance text [] some = absurd (some refl)
near_some layer distance text (first ∷ more) some = refl

-- where a text stands behind the word of the distance
pub query_near-text : (line next layer distance text : List ℕ) → words line ≡ distance ∷ words next → next ≡ skip_word line → words next ≢ [] → text ≡ skip_blanks next
    → query_near layer (words line) (skip_blanks (skip_word line)) ≡ with_geometry Near layer (ok_or (reach_of distance) BadCommand) (valid_of (read text))
query_near-text line next layer distance text first rest some behind =
    ap (λ w. query_near layer w (skip_blanks (skip_word line))) first
    ∙ ap (λ n. query_near layer (distance ∷ words next) (skip_blanks n)) (sym rest)
    ∙ ap (query_near layer (distance ∷ words next)) (sym behind)
    ∙ near_some layer distance text (words next) some

-- ---- the pattern

pattern-by : (o : Option (List Letter)) (letters : List Letter) → Ok letters ≡ ok_or o patterns.BadPattern → ok_or o BadPattern ≡ Ok letters
pattern-by None letters is = cc
pattern-by (Some found) letters is = cc

pub pattern-read : (word : List ℕ) (letters : List Letter) → Ok letters ≡ ok_or (pattern_of word) patterns.BadPattern → ok_or (pattern_of word) BadPattern ≡ Ok letters
pattern-read word letters is = pattern-by (pattern_of word) letters is

refused-by : (o : Option (List Letter)) (refusal : PatternRefusal) → Err refusal ≡ ok_or o patterns.BadPattern → ok_or o BadPattern ≡ Err BadPattern
refused-by None refusal is = refl
refused-by (Some found) refusal is = cc

pub pattern-unread : (word : List ℕ) (refusal : PatternRefusal) → Err refusal ≡ ok_or (pattern_of word) patterns.BadPattern → ok_or (pattern_of word) BadPattern ≡ Err BadPattern
pattern-unread word refusal is = refused-by (pattern_of word) refusal is

-- ---- the geometry

-- what a text gives that was read as a valid geometry
pub valid_of-valid : (expected : Result Geometry WktFault) (geometry valid : Geometry) → Ok geometry ≡ expected → IsValid geometry → valid ≡ geometry → Ok valid ≡ valid_of expected
valid_of-valid expected geometry valid is fine same =
    ap Ok same ∙ sym (ap (faultless geometry) (no_fault geometry fine)) ∙ ap valid_of is

-- and one that was read as another, or memory that ran out over its rules
pub valid_of-refused : (expected : Result Geometry WktFault) (geometry : Geometry) (given : ValidityRefusal) (refusal : Refusal) → Ok geometry ≡ expected → IsSized geometry → Refuses geometry given
    → refusal ≡ refusal_of given → OrMemory (valid_of expected) (Err refusal)
valid_of-refused expected geometry given refusal is sized refuses same =
    subst (λ e. OrMemory (valid_of e) (Err refusal)) is
    (subst (λ r. OrMemory (faultless geometry (first_fault geometry)) (Err r)) (sym same) (by given refuses))
  where
    by : (g : ValidityRefusal) → Refuses geometry g → OrMemory (faultless geometry (first_fault geometry)) (Err (refusal_of g))
    by validities.Memory h = tt
    by validities.Empty h = absurd h
    by validities.TooManyVertices h = absurd h
    by validities.NoVertex h = absurd h
    by (validities.Invalid fault) h =
        OrMemory-same (faultless geometry (first_fault geometry)) (Err (refusal_of (validities.Invalid fault))) (sym (ap (faultless geometry) (its_fault geometry fault sized h)))

-- what is made of a geometry that could not be had
pub OrMemory-made : {X T : Type 0} (expected : Result X Refusal) (make : X → Result T Refusal) (refusal : Refusal) (r : Result T Refusal)
    → OrMemory expected (Err refusal) → IsErrAnd r (λ e. e ≡ refusal) → OrMemory (made expected make) r
OrMemory-made expected make Memory r or is = OrMemory-memory (made expected make) r is
OrMemory-made expected make refusal r or is = OrMemory-refused (made expected make) r refusal (ap (λ x. made x make) (sym or)) is
