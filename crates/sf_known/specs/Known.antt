-- Internal: who wants to trust the program need not read this file.
-- What is known of a matrix: each entry lies between a least and a most, and the geometries may be known to share a point.
use Rattle.std.specs.Prelude.{◌≡◌, ℕ, Bool, true, false, ◌&&◌, ◌||◌, not, List, [], ◌∷◌, Option, Some, None, IsTrue, IsFalse, length, option_map, is_some, map, replicate, slice_index_or, slice_set, zip, if◌then◌else◌}
use Rattle.std.specs.List.{list_all, list_any}
use Rattle.sf_plane.specs.declared.dim.Dim.{Dim}
use Rattle.sf_plane.specs.declared.dim.Dim.TheVariants as dims
use Rattle.sf_plane.specs.Unions.{greater_dim}
use Rattle.sf_known.specs.declared.aim.Aim.{Aim}
use Rattle.sf_known.specs.declared.aim.Aim.TheVariants.{Answer, Entries, ButBoundaries}
use Rattle.sf_known.specs.declared.goal.Goal.{Goal}
use Rattle.sf_known.specs.declared.goal.Goal.TheVariants.{Match, MatchOne, Miss, Never}
use Rattle.sf_known.specs.declared.known.Known.{Known}
use Rattle.sf_known.specs.declared.letter.Letter.{Letter}
use Rattle.sf_known.specs.declared.letter.Letter.TheVariants.{Filled, Empty, Zero, One, Two}
use Rattle.sf_known.specs.Entries.{exceeds, lesser_dim}
use Rattle.sf_known.specs.Goals.{is_met}
use Rattle.sf_known.specs.Patterns.{has_contact, is_filled, matches}

-- ---- what is known, and of which matrices it holds
-- the first dimension is at most the second one, which is then the greater of both
abbrev pub IsAtMost : Dim → Dim → Type 0
IsAtMost d e = greater_dim d e ≡ e

-- so is each entry of the first list
abbrev pub AreAtMost : List Dim → List Dim → Type 0
AreAtMost [] es = es ≡ []
AreAtMost (d ∷ ds) [] = ⊥
AreAtMost (d ∷ ds) (e ∷ es) = IsAtMost d e × AreAtMost ds es

-- each entry of the matrix lies between its least and its most, and where contact is known, the geometries share a point
pub record Holds (known : Known) (m : List Dim) : Type 0 where
  pub least : AreAtMost known.least m
  pub most : AreAtMost m known.most
  pub contact : IsTrue known.contact → IsTrue (has_contact m)

-- the second knows no less: no least is lower, no most is higher, and contact is not forgotten
pub record KnowsAsMuch (known more : Known) : Type 0 where
  pub least : AreAtMost known.least more.least
  pub most : AreAtMost more.most known.most
  pub contact : IsTrue known.contact → IsTrue more.contact

-- ---- what is known at first, and of one matrix alone
-- no entry
abbrev pub no_entries : List Dim
no_entries = replicate 9 dims.Nothing

-- each entry has at most this
abbrev pub at_most : List Dim → Known
at_most entries = record { least = no_entries; most = entries; contact = false }

-- all entries are known
abbrev pub exactly : List Dim → Known
exactly entries = record { least = entries; most = entries; contact = false }

-- of no entry anything
abbrev pub nothing_known : Known
nothing_known = at_most (replicate 9 dims.Two)

-- each entry has its least and no more
abbrev pub settled : Known → Known
settled known = record known { most = known.least }

-- the entries with a dimension at one of them, unless a greater one is there
abbrev pub raised : List Dim → ℕ → Dim → List Dim
raised entries place d = slice_set entries place (greater_dim (slice_index_or entries place dims.Nothing) d)

-- one entry has at least this
abbrev pub known_with : Known → ℕ → Dim → Known
known_with known place d = record known { least = raised known.least place d }

-- of each entry the greater one, or the lesser one, of both
abbrev pub greatest_each : List Dim → List Dim → List Dim
greatest_each entries others = map (λ pair. greater_dim pair.0 pair.1) (zip entries others)

abbrev pub least_each : List Dim → List Dim → List Dim
least_each entries others = map (λ pair. lesser_dim pair.0 pair.1) (zip entries others)

-- what two say together
abbrev pub known_by_both : Known → Known → Known
known_by_both known other = record {
  least = greatest_each known.least other.least;
  most = least_each known.most other.most;
  contact = known.contact || other.contact;
}

-- neither interior has a point of the other geometry
abbrev pub are_beside : List Dim → Bool
are_beside (ii ∷ ib ∷ ie ∷ bi ∷ rest) = not (is_filled ii || (is_filled ib || is_filled bi))
are_beside ds = false

-- the boundaries share a point
abbrev pub boundaries_meet : Known
boundaries_meet = record nothing_known { least = slice_set no_entries 4 dims.Zero }

-- where neither interior has a point of the other geometry, contact is one of the boundaries
abbrev pub contact_placed : Known → Known
contact_placed known = if known.contact && are_beside known.most then known_by_both known boundaries_meet else known

-- ---- what it says of a goal
-- the dimensions that a letter admits go from its lowest to its highest one
abbrev pub lowest : Letter → Dim
lowest Filled = dims.Zero
lowest Zero = dims.Zero
lowest One = dims.One
lowest Two = dims.Two
lowest letter = dims.Nothing

abbrev pub highest : Letter → Dim
highest Empty = dims.Nothing
highest Zero = dims.Zero
highest One = dims.One
highest letter = dims.Two

-- the least and the most match the pattern, and so does what lies between
abbrev pub is_matched : Known → List Letter → Bool
is_matched known letters = matches letters known.least && matches letters known.most

-- an entry has more than its letter admits
abbrev pub exceeds_letters : List Letter → List Dim → Bool
exceeds_letters letters least = list_any (λ pair. exceeds pair.1 (highest pair.0)) (zip letters least)

-- an entry has less than its letter admits
abbrev pub falls_short : List Letter → List Dim → Bool
falls_short letters most = list_any (λ pair. exceeds (lowest pair.0) pair.1) (zip letters most)

-- a letter of the interiors and boundaries admits that its entry is filled
abbrev pub allows_contact : List Letter → Bool
allows_contact (ii ∷ ib ∷ ie ∷ bi ∷ bb ∷ rest) = list_any (λ letter. is_filled (highest letter)) (ii ∷ ib ∷ bi ∷ bb ∷ [])
allows_contact letters = true

-- no matrix of which it holds matches: the pattern asks for geometries that share no point, or an entry is broken
abbrev pub is_missed : Known → List Letter → Bool
is_missed known letters =
    (known.contact && not (allows_contact letters)) || exceeds_letters letters known.least || falls_short letters known.most

-- whether the matrix matches, as far as that is known
abbrev pub pattern_answer : Known → List Letter → Option Bool
pattern_answer known letters = if is_missed known letters then Some false else (if is_matched known letters then Some true else None)

-- whether it matches one of three
abbrev pub one_answer : Known → List Letter → List Letter → List Letter → Option Bool
one_answer known one other third =
    if is_missed known one && is_missed known other && is_missed known third then Some false
    else (if is_matched known one || is_matched known other || is_matched known third then Some true else None)

-- each entry has its most
abbrev pub have_most : List Dim → List Dim → Bool
have_most least most = list_all (λ pair. not (exceeds pair.1 pair.0)) (zip least most)

-- what the goal says of the matrix, as far as that is known
abbrev pub answer_of : Known → Goal → Option Bool
answer_of known (Match letters) = pattern_answer known letters
answer_of known (MatchOne one other third) = one_answer known one other third
answer_of known (Miss letters) = option_map not (pattern_answer known letters)
answer_of known Never = Some false

-- ---- what is to be found out
-- the most of each entry but that of the two boundaries, of which it is enough that they share a point
abbrev pub but_boundaries : List Dim → List Dim
but_boundaries (ii ∷ ib ∷ ie ∷ bi ∷ bb ∷ be ∷ rest) = ii ∷ ib ∷ ie ∷ bi ∷ lesser_dim dims.Zero bb ∷ be ∷ rest
but_boundaries ds = ds

-- it is known
abbrev pub is_enough : Known → Aim → Bool
is_enough known (Answer goal) = is_some (answer_of known goal)
is_enough known Entries = have_most known.least known.most
is_enough known ButBoundaries = have_most known.least (but_boundaries known.most)

-- ---- laws
-- an answer is what the goal says of each matrix of which the known holds
abbrev pub AnswersAreTrue : Type 0
AnswersAreTrue = (known : Known) (goal : Goal) (m : List Dim) (answer : Bool) → Holds known m → answer_of known goal ≡ Some answer → answer ≡ is_met goal m

-- where contact is not known, there is an answer wherever all matrices of which it holds give the same one, and there are some
abbrev pub AnswersWhereAllAgree : Type 0
AnswersWhereAllAgree =
    (known : Known) (letters : List Letter) (answer : Bool) → AreAtMost known.least known.most → IsFalse known.contact
    → ((m : List Dim) → Holds known m → matches letters m ≡ answer) → answer_of known (Match letters) ≡ Some answer

-- what two say together holds of a matrix of which both hold
abbrev pub BothHold : Type 0
BothHold = (known other : Known) (m : List Dim) → Holds known m → Holds other m → Holds (known_by_both known other) m

-- where contact is known, so is the answer to a pattern that allows none
abbrev pub ContactAnswers : Type 0
ContactAnswers =
    (known : Known) (letters : List Letter) → IsTrue known.contact → IsFalse (allows_contact letters) → answer_of known (Match letters) ≡ Some false

-- where contact can be one of the boundaries alone, it is, and nothing else that is known is lost
abbrev pub ContactIsPlaced : Type 0
ContactIsPlaced = (known : Known) (m : List Dim) → length m ≡ 9 → Holds known m → Holds (contact_placed known) m

-- where each entry has its least and no more, whatever is asked is known
abbrev pub SettledIsEnough : Type 0
SettledIsEnough = (known : Known) (aim : Aim) → IsTrue (is_enough (settled known) aim)
