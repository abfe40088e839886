-- What texts are.
use Rattle.std.specs.Prelude.{ℕ, Bool, not, List, length, Option, None, Some, Result, nat_lt, if◌then◌else◌}
use Rattle.std.specs.List.{list_all}
use Rattle.std.specs.Str.{is_utf8}
use Rattle.sf_refusals.specs.declared.refusal.Refusal.{Refusal}
use Rattle.sf_refusals.specs.declared.refusal.Refusal.TheVariants.{BadCommand, LineTooLong}
use Rattle.sf_text_lines.specs.Lines.{Line, line_max, text_of}
use Rattle.sf_wkt.specs.Tokens.{is_blank}
use Rattle.sf_groups.specs.declared.member.Member.{Member}
use Rattle.sf_commands.specs.declared.command.Command.{Command}
use Rattle.sf_commands.specs.declared.group_text.GroupRefusal.{GroupRefusal}
use Rattle.sf_commands.specs.Commands.{command_of, takes_memory}
use Rattle.sf_commands.specs.GroupTexts.{group_of}

-- what a text is: without an answer; refused whatever memory there is; a command with its editor, or its refusal, beside
-- whether memory is taken for reading it; a group with its editor; or one that the end of the input cut off
pub data Reading : Type 0 where
  Blank : Reading
  Unreadable : Refusal → Reading
  Asked : Bool → Result (ℕ × Command) Refusal → Reading
  Grouped : ℕ → Result (List Member) GroupRefusal → Reading
  Cut : Result (List Member) GroupRefusal → Reading

-- what a text is that is read as this group, or as none
abbrev pub by_group : List ℕ → Option (ℕ × Result (List Member) GroupRefusal) → Reading
by_group text None = Asked (takes_memory text) (command_of text)
by_group text (Some group) = Grouped group.0 group.1

-- what a text is that is not too long
abbrev pub text_reading : List ℕ → Reading
text_reading text = if not (is_utf8 text) then Unreadable BadCommand else if list_all is_blank text then Blank else by_group text (group_of text)

-- the text of a line; none where the line is too long
abbrev pub line_text : Line → Option (List ℕ)
line_text line = if nat_lt line_max (length line.bytes) then None else Some (text_of line)

-- what the text of a line is by itself
abbrev pub reading_of : Option (List ℕ) → Reading
reading_of None = Unreadable LineTooLong
reading_of (Some text) = text_reading text
