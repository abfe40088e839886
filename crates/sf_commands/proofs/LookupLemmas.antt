-- What `get`, `area` and `length` make of the words after them.
use Rattle.std.proofs.Common.{◌≡◌, ◌≢◌, ℕ, ◌+◌, ◌<◌, List, [], ◌∷◌, ◌++◌, Option, None, Some, ok_or, Result, Ok, Err, sym, ap, subst, arith}
use Rattle.std.specs.Result.{IsErrAnd}
use Rattle.sf_refusals.specs.declared.refusal.Refusal.{Refusal}
use Rattle.sf_refusals.specs.declared.refusal.Refusal.TheVariants.{Memory, BadCommand}
use Rattle.sf_words.specs.Naming.{given, id_of}
use Rattle.sf_commands.specs.Commands.{features_named, ids_of, OrMemory}
use Rattle.sf_commands.proofs.AddLemmas.{OrMemory-memory, OrMemory-refused}
use Rattle.sf_commands.proofs.EachLemmas.{AreMade, all_made, none_made, not_made, nothing_made, one_made, too_many_made}

-- ---- identifiers

-- of the words of a line so many are read as these identifiers, and these words are left: some, once one is read
abbrev pub AreRead : (all left : List (List ℕ)) (ids : List ℕ) (count : ℕ) → Type 0
AreRead all left ids count = AreMade id_of all left ids count

pub none_read : (all : List (List ℕ)) → AreRead all all [] 0
none_read all = none_made id_of all

pub one_read : (all left rest : List (List ℕ)) (ids now : List ℕ) (count : ℕ) (word : List ℕ) (id : ℕ) → AreRead all left ids count → left ≡ word ∷ rest → id_of word ≡ Some id → now ≡ ids ++ id ∷ [] → rest ≢ []
    → AreRead all rest now (count + 1)
one_read all left rest ids now count word id read is spelled pushed some = one_made id_of all left rest ids now count word id read is spelled pushed some

-- the last of them
pub all_read : (all left rest : List (List ℕ)) (ids now : List ℕ) (count : ℕ) (word : List ℕ) (id : ℕ) → AreRead all left ids count → left ≡ word ∷ rest → id_of word ≡ Some id → now ≡ ids ++ id ∷ [] → rest ≡ [] → count < 1000
    → ids_of all ≡ Some now
all_read all left rest ids now count word id read is spelled pushed none few = all_made id_of 1000 all left rest ids now count word id read is spelled pushed none few

-- a word that is no identifier
pub not_read : (all left rest : List (List ℕ)) (ids : List ℕ) (count : ℕ) (word : List ℕ) → AreRead all left ids count → left ≡ word ∷ rest → id_of word ≡ None → ids_of all ≡ None
not_read all left rest ids count word read is spelled = not_made id_of 1000 all left rest ids count word read is spelled

-- no word where one is to be
pub nothing_read : (all left : List (List ℕ)) (ids : List ℕ) (count : ℕ) → AreRead all left ids count → left ≡ [] → ids_of all ≡ None
nothing_read all left ids count read none = nothing_made id_of 1000 all left ids count read none

-- a word behind the last that may be
pub too_many_read : (all left : List (List ℕ)) (ids : List ℕ) (count : ℕ) → AreRead all left ids count → count ≡ 1000 → ids_of all ≡ None
too_many_read all left ids count read last = too_many_made id_of 1000 all left ids count (omega arith) read last

-- ---- the command

-- what is made of words that could not be read
given-refused : {X T : Type 0} (o : Option X) (make : X → Result T Refusal) (refusal : Refusal) → Err refusal ≡ ok_or o BadCommand → given o make ≡ Err refusal
given-refused None make refusal is = let same : BadCommand ≡ refusal = cc in ap Err same
given-refused (Some x) make refusal is = cc

pub OrMemory-given : {X T : Type 0} (o : Option X) (make : X → Result T Refusal) (refusal : Refusal) (r : Result T Refusal)
    → OrMemory (ok_or o BadCommand) (Err refusal) → IsErrAnd r (λ e. e ≡ refusal) → OrMemory (given o make) r
OrMemory-given o make Memory r or is = OrMemory-memory (given o make) r is
OrMemory-given o make refusal r or is = OrMemory-refused (given o make) r refusal (given-refused o make refusal or) is

-- a layer, and words behind it that are no identifiers
pub named-refused : (all ids : List (List ℕ)) (layer : List ℕ) (refusal : Refusal) (r : Result (List ℕ × List ℕ) Refusal) → all ≡ layer ∷ ids
    → OrMemory (ok_or (ids_of ids) BadCommand) (Err refusal) → IsErrAnd r (λ e. e ≡ refusal) → OrMemory (features_named all) r
named-refused all ids layer refusal r is or refused =
    subst (λ w. OrMemory (features_named w) r) (sym is) (OrMemory-given (ids_of ids) (λ ids. Ok (layer, ids)) refusal r or refused)
