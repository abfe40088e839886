-- The members of a group, as lines spell them.
use Rattle.std.specs.Prelude.{ℕ, Bool, false, List, [], ◌∷◌, length, Option, Some, Result, Ok, Err, nat_lt, if◌then◌else◌}
use Rattle.sf_refusals.specs.declared.refusal.Refusal.{Refusal}
use Rattle.sf_refusals.specs.declared.refusal.Refusal.TheVariants.{BadCommand, LineTooLong}
use Rattle.sf_text_lines.specs.Lines.{line_max}
use Rattle.sf_groups.specs.declared.member.Member.{Member}
use Rattle.sf_commands.specs.declared.command.Command.{Command}
use Rattle.sf_commands.specs.declared.command.Command.TheVariants.{Edit}
use Rattle.sf_words.specs.declared.naming.Naming.TheVariants.{OrLast}
use Rattle.sf_words.specs.declared.verb.Verb.{Verb}
use Rattle.sf_words.specs.declared.verb.Verb.TheVariants as verbs
use Rattle.sf_words.specs.Words.{words, skip_blanks, skip_word}
use Rattle.sf_words.specs.Verbs.{verb_of}
use Rattle.sf_words.specs.Naming.{is_last}
use Rattle.sf_commands.specs.Commands.{add_arguments, addhex_arguments, delete_arguments, replace_arguments, vertex_arguments, set_arguments, unset_arguments}

-- whether the first, the second or the third of some words says `last`
abbrev pub first_is_last : List (List ℕ) → Bool
first_is_last [] = false
first_is_last (word ∷ more) = is_last word

abbrev pub second_is_last : List (List ℕ) → Bool
second_is_last [] = false
second_is_last (word ∷ more) = first_is_last more

abbrev pub third_is_last : List (List ℕ) → Bool
third_is_last [] = false
third_is_last (word ∷ more) = second_is_last more

-- the member of the edit of a command; no other command is one
abbrev pub member_by : Bool → Result Command Refusal → Result Member Refusal
member_by of_last (Ok (Edit edit)) = Ok (record { edit = edit; of_last = of_last })
member_by of_last (Ok command) = Err BadCommand
member_by of_last (Err refusal) = Err refusal

-- the member of a verb and the line after it: edits of features alone. The feature is named by the second word behind most
-- verbs, by the third behind `vertex`
abbrev pub member_by_verb : Option Verb → List ℕ → Result Member Refusal
member_by_verb (Some verbs.Add) rest = member_by false (add_arguments (words rest) (skip_blanks (skip_word rest)))
member_by_verb (Some verbs.AddHex) rest = member_by false (addhex_arguments (words rest))
member_by_verb (Some verbs.Delete) rest = member_by (second_is_last (words rest)) (delete_arguments OrLast (words rest))
member_by_verb (Some verbs.Replace) rest =
    member_by (second_is_last (words rest)) (replace_arguments OrLast (words rest) (skip_blanks (skip_word (skip_word rest))))
member_by_verb (Some verbs.Vertex) rest = member_by (third_is_last (words rest)) (vertex_arguments OrLast (words rest))
member_by_verb (Some verbs.Set) rest =
    member_by (second_is_last (words rest)) (set_arguments OrLast (words rest) (skip_blanks (skip_word (skip_word (skip_word rest)))))
member_by_verb (Some verbs.Unset) rest = member_by (second_is_last (words rest)) (unset_arguments OrLast (words rest))
member_by_verb verb rest = Err BadCommand

-- the member of the words of a line, and the line after the first of them
abbrev pub member_by_words : List (List ℕ) → List ℕ → Result Member Refusal
member_by_words [] rest = Err BadCommand
member_by_words (verb ∷ arguments) rest = member_by_verb (verb_of verb) rest

-- the member of a line, or the refusal that the line alone decides
abbrev pub member_of : List ℕ → Result Member Refusal
member_of line = if nat_lt line_max (length line) then Err LineTooLong else member_by_words (words line) (skip_word line)
