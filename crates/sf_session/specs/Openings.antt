-- How a session opens a store: its file is loaded, the edits of the journal that goes on from it are replayed, and the journal is
-- written anew.
use Rattle.std.specs.Prelude.{◌≡◌, ◌⊎◌, ℕ, Bool, true, List, [], ◌∷◌, ◌++◌, length, drop, ⊤, Option, None, Some, if◌then◌else◌}
use Rattle.sha2.specs.Sha256.{sha256}
use Rattle.sf_journal.specs.Crc.{crc}
use Rattle.sf_journal.specs.Records.{is_head_alone, records}
use Rattle.sf_folder.specs.Calls.{Call, Does, FindsNone, Opens, Reads, Stays, Warns}
use Rattle.sf_folder.specs.declared.names.Name.TheVariants.{Journal, JournalBeside}
use Rattle.sf_folder.specs.declared.choosing.Chosen.{Chosen}
use Rattle.sf_folder.specs.declared.choosing.Chosen.TheVariants.{UnderItsName, Beside, NoneYet}
use Rattle.sf_folder.specs.Openings.{bytes_of}
use Rattle.sf_folder.specs.Renewals.{Chooses, renewing_calls}
use Rattle.sf_layers.specs.WellFormed.{IsWellFormed}
use Rattle.sf_loading.specs.Loading.{Loads}
use Rattle.sf_loading.specs.Stored.{IsKept, Ruled}
use Rattle.sf_keeping.specs.History.{Machine, fresh, fresh_under}
use Rattle.sf_keeping.specs.declared.replaying.Replayed.{Replayed}
use Rattle.sf_keeping.specs.Replays.{IsReplayed}

-- the store's file as it is found: it isn't there, or it has these bytes, where they are known
abbrev pub Found : Type 0
Found = Option (Option (List ℕ))

-- the calls by which it is found, and looked at once more when all of it was read
abbrev pub finding_calls : Found → List Call
finding_calls None = FindsNone ∷ []
finding_calls (Some bytes) = Opens bytes ∷ Stays ∷ []

-- that is the length and the SHA-256 of bytes, where they are known
abbrev pub IsSumOf : Option (List ℕ) → ℕ → List ℕ → Type 0
IsSumOf None size digest = ⊤
IsSumOf (Some bytes) size digest = (size ≡ length bytes) × (digest ≡ sha256 bytes)

-- The bytes have a content, which is well formed, and rules that hold in it over all points of the plane: the machine has these, and
-- neither past nor future.
pub record IsStoreOf (bytes : Option (List ℕ)) (machine : Machine) : Type 0 where
  pub ruled : Ruled
  pub left : Option (List ℕ)
  pub loaded : Loads bytes left ruled
  pub well_formed : IsWellFormed ruled.content
  pub kept : IsKept ruled
  pub begins : machine ≡ fresh_under ruled

-- A file of this length and this SHA-256 was found, and the machine has its store. Or none was found, and the machine has no layer and
-- no rule.
abbrev pub BeginsWith : Found → ℕ → List ℕ → Machine → Type 0
BeginsWith None size digest machine = IsSumOf (Some []) size digest × (machine ≡ fresh [])
BeginsWith (Some bytes) size digest machine =
    IsSumOf bytes size digest × IsStoreOf bytes machine

-- so it was found by some calls
abbrev pub FindsBy : Option (List Call) → Option (List Call) → ℕ → List ℕ → Machine → Type 0
FindsBy before after size digest machine = (found : Found) × BeginsWith found size digest machine × Does before after (finding_calls found)

-- a journal that is there has a head alone, of whatever file: no record of it could be lost
abbrev pub IsHeadAlone : Option (List ℕ) → Type 0
IsHeadAlone journal = is_head_alone (bytes_of journal) ≡ true

-- The journal counts that has the head. Where one is under its name, and none has it, there is none yet if that has no record.
abbrev pub Counts : List ℕ → Option (List ℕ) → Option (List ℕ) → Chosen → Type 0
Counts head journal beside chosen =
    Chooses head journal beside (Some chosen) ⊎ (Chooses head journal beside None × IsHeadAlone journal × (chosen ≡ NoneYet))

-- the bytes of the journal that counts
abbrev pub bytes_that_count : Chosen → Option (List ℕ) → Option (List ℕ) → List ℕ
bytes_that_count UnderItsName journal beside = bytes_of journal
bytes_that_count Beside journal beside = bytes_of beside
bytes_that_count NoneYet journal beside = []

-- and those behind its head
abbrev pub records_that_count : List ℕ → Chosen → Option (List ℕ) → Option (List ℕ) → List ℕ
records_that_count head chosen journal beside = drop (length head) (bytes_that_count chosen journal beside)

-- the calls by which both journals are read
abbrev pub reading_calls : Option (List ℕ) → Option (List ℕ) → List Call
reading_calls journal beside = Reads Journal journal ∷ Reads JournalBeside beside ∷ []

-- somebody is warned where a record is dropped
abbrev pub warning_calls : Bool → List Call
warning_calls is_cut_short = if is_cut_short then Warns ∷ [] else []

-- The texts of the journal that counts were replayed, and it was written anew with their records. The sum is that behind the last of
-- them.
pub record IsRenewed (head : List ℕ) (journal beside : Option (List ℕ)) (old : Machine) (calls : List Call) (sum : ℕ) (new : Machine) : Type 0 where
  pub chosen : Chosen
  pub counts : Counts head journal beside chosen
  pub done : Replayed
  pub replayed : IsReplayed (crc head) (records_that_count head chosen journal beside) old done new
  pub behind : sum ≡ done.sum
  pub made : calls ≡ renewing_calls chosen head (records (crc head) replayed.texts) ++ warning_calls done.is_cut_short

-- so it was done by some calls
abbrev pub RenewsBy : List ℕ → Option (List ℕ) → Option (List ℕ) → Machine → Option (List Call) → Option (List Call) → ℕ → Machine → Type 0
RenewsBy head journal beside old before after sum new = (calls : List Call) × IsRenewed head journal beside old calls sum new × Does before after calls

-- both journals were read, and then it was so
pub record IsOpened (head : List ℕ) (old : Machine) (calls : List Call) (sum : ℕ) (new : Machine) : Type 0 where
  pub journal : Option (List ℕ)
  pub beside : Option (List ℕ)
  pub renewing : List Call
  pub renews : IsRenewed head journal beside old renewing sum new
  pub made : calls ≡ reading_calls journal beside ++ renewing

-- so it was done by some calls
abbrev pub OpensBy : List ℕ → Machine → Option (List Call) → Option (List Call) → ℕ → Machine → Type 0
OpensBy head old before after sum new = (calls : List Call) × IsOpened head old calls sum new × Does before after calls

-- the sum behind a head, and how many bytes it has
abbrev pub IsHeadOf : List ℕ → ℕ → ℕ → Type 0
IsHeadOf head sum front = (sum ≡ crc head) × (front ≡ length head)
