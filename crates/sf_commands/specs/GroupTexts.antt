-- A group of edits as one text: its head, and its members, with carriage returns between them.
use Rattle.std.specs.Prelude.{◌≡◌, ℕ, ◌+◌, Bool, false, ◌&&◌, ◌||◌, List, [], ◌∷◌, ◌++◌, length, Option, None, Some, Result, Ok, Err, nat_eq, nat_lt, nat_le, option_and_then, option_map, bytes_eq, codes, if◌then◌else◌}
use Rattle.std.specs.List.{list_any}
use Rattle.sf_refusals.specs.declared.refusal.Refusal.{Refusal}
use Rattle.sf_refusals.specs.declared.refusal.Refusal.TheVariants.{BadCommand}
use Rattle.sf_refusals.specs.declared.refusal.Refusal.TheVariants as refusals
use Rattle.sf_wkt.specs.Tokens.{is_blank}
use Rattle.sf_groups.specs.declared.member.Member.{Member as GroupMember}
use Rattle.sf_groups.specs.declared.group.NotTaken.{NotTaken}
use Rattle.sf_groups.specs.declared.group.NotTaken.TheVariants.{Misplaced, Memory as NoRoom}
use Rattle.sf_groups.specs.Members.{may_follow}
use Rattle.sf_commands.specs.declared.group_text.GroupRefusal.{GroupRefusal}
use Rattle.sf_commands.specs.declared.group_text.GroupRefusal.TheVariants.{Member, Memory}
use Rattle.sf_commands.specs.declared.head.Head.{Head}
pub use Rattle.sf_words.specs.Parts.{is_return, parts_of}
use Rattle.sf_words.specs.Words.{words}
use Rattle.sf_words.specs.Naming.{id_of}
use Rattle.sf_words.specs.Editors.{addressed}
use Rattle.sf_commands.specs.Members.{member_of}

-- ---- the head

-- how many members a group has at most
abbrev pub members_max : ℕ
members_max = 65535

-- a number of members: at least one
abbrev pub if_count : ℕ → Option ℕ
if_count count = if nat_lt 0 count && nat_le count members_max then Some count else None

-- the number of members that a word spells
abbrev pub count_of : List ℕ → Option ℕ
count_of word = option_and_then if_count (id_of word)

-- the head of these words of an editor: `together`, and how many members come
abbrev pub head_by_words : ℕ → List (List ℕ) → Option Head
head_by_words editor (verb ∷ count ∷ []) =
    if bytes_eq verb (codes "together") then option_map (λ members. record { editor = editor; members = members }) (count_of count) else None
head_by_words editor other = None

-- the same behind an editor's word, where that names one
abbrev pub addressed_head : Result (ℕ × List ℕ) Refusal → Option Head
addressed_head (Ok at) = head_by_words at.0 (words at.1)
addressed_head (Err refusal) = None

-- the head that a text is
abbrev pub head_of : List ℕ → Option Head
head_of text = if list_any is_return text then None else addressed_head (addressed text)

-- whether a text begins as a head may: with a blank, or with the first byte of an editor's word or of `together`
abbrev pub begins_as_head : List ℕ → Bool
begins_as_head [] = false
begins_as_head (b ∷ bytes) = is_blank b || (nat_eq b 64 || nat_eq b 116)

-- ---- the members

-- a member that may stand behind others
abbrev pub placed : List GroupMember → Result GroupMember Refusal → Result GroupMember Refusal
placed earlier (Ok member) = if may_follow earlier member then Ok member else Err BadCommand
placed earlier (Err refusal) = Err refusal

-- a member behind others, and what comes behind it; the members are counted from 1
abbrev pub and_behind : List GroupMember → Result GroupMember Refusal → (List GroupMember → Result (List GroupMember) GroupRefusal) → Result (List GroupMember) GroupRefusal
and_behind earlier (Ok member) behind = behind (earlier ++ member ∷ [])
and_behind earlier (Err refusal) behind = Err (Member (length earlier + 1) refusal)

-- the members that texts spell behind others, or the first of them that its text alone refuses
abbrev pub members_behind : List GroupMember → List (List ℕ) → Result (List GroupMember) GroupRefusal
members_behind earlier [] = Ok earlier
members_behind earlier (text ∷ texts) = and_behind earlier (placed earlier (member_of text)) (λ members. members_behind members texts)

-- the members of a group that the parts of its text spell, of which the first is its head
abbrev pub members_in : List (List ℕ) → Result (List GroupMember) GroupRefusal
members_in [] = Ok []
members_in (head ∷ texts) = members_behind [] texts

abbrev pub members_of : List ℕ → Result (List GroupMember) GroupRefusal
members_of text = members_in (parts_of text)

-- ---- the group

-- the editor of a group that has as many members as its head says, and the members
abbrev pub group_by_head : Option Head → List ℕ → ℕ → Option (ℕ × Result (List GroupMember) GroupRefusal)
group_by_head None text members = None
group_by_head (Some head) text members = if nat_eq head.members members then Some (head.editor, members_of text) else None

abbrev pub group_by_parts : List (List ℕ) → List ℕ → Option (ℕ × Result (List GroupMember) GroupRefusal)
group_by_parts [] text = None
group_by_parts (head ∷ members) text = group_by_head (head_of head) text (length members)

-- the group that a text is, where it is one: its editor, and its members or the first one that its text alone refuses
abbrev pub group_of : List ℕ → Option (ℕ × Result (List GroupMember) GroupRefusal)
group_of text = group_by_parts (parts_of text) text

-- this result, or out of memory in its place
abbrev pub OrNoMemory : Result (List GroupMember) GroupRefusal → Result (List GroupMember) GroupRefusal → Type 0
OrNoMemory expected (Err Memory) = Unit {0}
OrNoMemory expected result = result ≡ expected

-- ---- internal: who wants to trust the program need not read on

-- the refusal of the member of a number; where no memory was found, its text is not at fault
abbrev pub refusal_of_member : ℕ → Refusal → GroupRefusal
refusal_of_member number refusals.Memory = Memory
refusal_of_member number refusal = Member number refusal

-- the refusal of a member that a group did not take
abbrev pub refusal_of_not_taken : NotTaken → Refusal
refusal_of_not_taken (Misplaced member) = BadCommand
refusal_of_not_taken (NoRoom member) = refusals.Memory

-- the member that was read may stand behind others, and now does
abbrev pub WasPlaced : List GroupMember → Result GroupMember Refusal → List GroupMember → Type 0
WasPlaced earlier read members = (member : GroupMember) × (placed earlier read ≡ Ok member) × (members ≡ earlier ++ member ∷ [])
