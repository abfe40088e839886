-- What serving with a journal does, in the words of `Read` for the bytes that it reports, and of `Desk` for its calls.
use Rattle.std.specs.Prelude.{◌≡◌, ℕ, true, false, List, [], ◌∷◌, ◌++◌, Option, if◌then◌else◌}
use Rattle.std.specs.Io.KnownBytes.{Consumes, IsAtEnd}
use Rattle.sf_text_lines.specs.Lines.{Line, text_of, IsWhole, HasNoFeed}
use Rattle.sf_journal.specs.Records.{records, sum_behind}
use Rattle.sf_console.specs.History.{Machine}
use Rattle.sf_console.specs.Requests.{Closed, Request, left_in, requests_in, requests_of, whole_requests_of}
use Rattle.sf_keeping.specs.declared.desk.KeepFault.{KeepFault}
use Rattle.sf_keeping.specs.declared.desk.KeepFault.TheVariants.{Memory, Read}
use Rattle.sf_keeping.specs.Desks.{Call, LastFails, Makes, nothing_yet, after_calls}
use Rattle.sf_keeping.specs.Kept.{Keeps}
use Rattle.sf_keeping.specs.Moments.{AtEachMoment}
use Rattle.sf_keeping.specs.Saves.{is_save, AskForNone}
use Rattle.sf_keeping.specs.declared.keeping.Stop.{Stop}
use Rattle.sf_keeping.specs.declared.keeping.Stop.TheVariants.{Save, End}

-- the feed that a line has at its end
abbrev pub feed_of : Line → List ℕ
feed_of line = if line.ended then 10 ∷ [] else []

-- Of the bytes, this is asked up to the first line that asks for a save, behind which `left` stands; or all is, at the end of
-- the input. The last line of the input may lack its line feed. A line inside of a group asks for no save.
abbrev pub Reaches : Stop → List ℕ → List Request → List ℕ → Option (List ℕ) → Type 0
Reaches Save bytes asked left unread =
    (before : List ℕ) × (line : Line) × (bytes ≡ (before ++ (line.bytes ++ feed_of line)) ++ left) × IsWhole before × HasNoFeed line.bytes
    × (is_save (text_of line) ≡ true) × (left_in Closed before ≡ Closed) × (asked ≡ requests_in Closed before) × (line.ended ≡ false → (left ≡ []) × IsAtEnd unread)
Reaches End bytes asked left unread = (asked ≡ requests_of bytes) × (left ≡ []) × IsAtEnd unread

-- What was asked was read and carried out; what was accepted of it is in the journal and on the disk, all answers were put out,
-- and nothing else; at each moment what was put out was kept.
pub record ServesKept (stop : Stop) (unread left : Option (List ℕ)) (ahead rest : List ℕ) (start now : Option (List Call)) (sum behind : ℕ) (old new : Machine) : Type 0 where
  pub taken : List ℕ
  pub consumed : Consumes unread left taken
  pub asked : List Request
  pub reached : Reaches stop (ahead ++ taken) asked rest left
  pub ask_for_none : AskForNone asked
  pub output : List ℕ
  pub texts : List (List ℕ)
  pub ran : Keeps old asked output texts new
  pub calls : List Call
  pub makes : Makes start now calls
  pub moments : AtEachMoment sum old asked new calls
  pub standing : after_calls nothing_yet calls ≡ record { kept = records sum texts; waiting = []; answered = output; broken = false }
  pub behind_all : behind ≡ sum_behind sum texts

-- what is asked before a fault: behind a read that failed by whole lines alone, since the last line may go on; else by all
abbrev pub requests_before : KeepFault → List ℕ → List Request
requests_before Read bytes = whole_requests_of bytes
requests_before fault bytes = requests_of bytes

-- what was asked is in the journal and on the disk, all answers were put out, and nothing else
abbrev pub AreKept : ℕ → Machine → List Request → List Call → Machine → Type 0
AreKept sum old asked calls new =
    (output : List ℕ) × (texts : List (List ℕ)) × Keeps old asked output texts new
    × (after_calls nothing_yet calls ≡ record { kept = records sum texts; waiting = []; answered = output; broken = false })

-- how the calls end before a fault: where no more could be read all of what was asked is kept and answered; where no memory was found
-- no call failed; else the last one did, by this fault
abbrev pub EndBy : KeepFault → ℕ → Machine → List Request → List Call → Machine → Type 0
EndBy Read sum old asked calls new = AreKept sum old asked calls new
EndBy Memory sum old asked calls new = (after_calls nothing_yet calls).broken ≡ false
EndBy fault sum old asked calls new = LastFails fault calls

-- Some first of what was asked was carried out, and then the input, the journal or the output broke off: at each moment
-- what was put out was kept.
pub record EndsKept (fault : KeepFault) (unread left : Option (List ℕ)) (ahead : List ℕ) (start now : Option (List Call)) (sum : ℕ) (old new : Machine) : Type 0 where
  pub taken : List ℕ
  pub consumed : Consumes unread left taken
  pub asked : List Request
  pub later : List Request
  pub first : requests_before fault (ahead ++ taken) ≡ asked ++ later
  pub ask_for_none : AskForNone asked
  pub calls : List Call
  pub makes : Makes start now calls
  pub moments : AtEachMoment sum old asked new calls
  pub ended : EndBy fault sum old asked calls new
