-- Commands behind an editor's word.
use Rattle.std.proofs.Common.{◌≡◌, ℕ, ◌≤◌, Bool, true, false, nat_lt, List, length, Result, Ok, Err, IsErrAnd, if◌then◌else◌, sym, ap, subst, arith}
use Rattle.std.proofs.lemmas.Grind.{common_steps}
use Rattle.sf_refusals.specs.declared.refusal.Refusal.{Refusal}
use Rattle.sf_refusals.specs.declared.refusal.Refusal.TheVariants.{LineTooLong, Memory}
use Rattle.sf_text_lines.specs.Lines.{line_max}
use Rattle.sf_commands.specs.declared.command.Command.{Command}
use Rattle.sf_words.specs.Editors.{addressed}
use Rattle.sf_commands.specs.Commands.{addressed_takes_memory, by_editor, by_words, command_of, made, takes_memory, words_take_memory, OrMemory, OrMemoryIf}
use Rattle.sf_words.specs.Words.{words, skip_word}

-- ---- the command

OrMemory-by_editor : (editor : ℕ) (expected : Result Command Refusal) (command : Command) → OrMemory expected (Ok command)
    → OrMemory (by_editor editor expected) (Ok (editor, command))
OrMemory-by_editor editor expected command is = ap (by_editor editor) is

OrMemory-by_editor-refused : (editor : ℕ) (expected : Result Command Refusal) (refusal : Refusal) → OrMemory expected (Err refusal)
    → OrMemory (by_editor editor expected) (Err refusal)
OrMemory-by_editor-refused editor expected Memory is = tt
OrMemory-by_editor-refused editor expected refusal is = ap (by_editor editor) is

-- a command that was read, with its editor
pub OrMemoryIf-by_editor : (takes : Bool) (editor : ℕ) (expected : Result Command Refusal) (command : Command) → OrMemoryIf takes expected (Ok command)
    → OrMemoryIf takes (by_editor editor expected) (Ok (editor, command))
OrMemoryIf-by_editor true editor expected command is = OrMemory-by_editor editor expected command is
OrMemoryIf-by_editor false editor expected command is = ap (by_editor editor) is

-- a command that was refused
OrMemoryIf-by_editor-refused : (takes : Bool) (editor : ℕ) (expected : Result Command Refusal) (refusal : Refusal) → OrMemoryIf takes expected (Err refusal)
    → OrMemoryIf takes (by_editor editor expected) (Err refusal)
OrMemoryIf-by_editor-refused true editor expected refusal is = OrMemory-by_editor-refused editor expected refusal is
OrMemoryIf-by_editor-refused false editor expected refusal is = ap (by_editor editor) is

-- what is said of a result, of a line that is not too long and was addressed so
abbrev IsMadeOf : Bool → Result (ℕ × List ℕ) Refusal → Result (ℕ × Command) Refusal → Type 0
IsMadeOf long at result =
    OrMemoryIf (if long then false else addressed_takes_memory at)
    (if long then Err LineTooLong else made at (λ at. by_editor at.0 (by_words (words at.1) (skip_word at.1)))) result

not_longer : (n : ℕ) → n ≤ line_max → nat_lt line_max n ≡ false
not_longer n short = grind (arith, common_steps)

-- the words behind the editor's were refused
pub parse-refused : (line rest : List ℕ) (editor : ℕ) (refusal : Refusal) (result : Result (ℕ × Command) Refusal) → length line ≤ line_max
    → addressed line ≡ Ok (editor, rest) → OrMemoryIf (words_take_memory (words rest)) (by_words (words rest) (skip_word rest)) (Err refusal)
    → IsErrAnd result (λ e. e ≡ refusal) → OrMemoryIf (takes_memory line) (command_of line) result
parse-refused line rest editor refusal result short at is passed =
    subst (λ long. IsMadeOf long (addressed line) result) (sym (not_longer (length line) short)) (subst (λ a. IsMadeOf false a result) (sym at) (refused result passed))
  where
    refused : (r : Result (ℕ × Command) Refusal) → IsErrAnd r (λ e. e ≡ refusal)
        → OrMemoryIf (words_take_memory (words rest)) (by_editor editor (by_words (words rest) (skip_word rest))) r
    refused (Ok command) passed = absurd passed
    refused (Err other) passed =
        subst (λ e. OrMemoryIf (words_take_memory (words rest)) (by_editor editor (by_words (words rest) (skip_word rest))) (Err e)) (sym passed)
        (OrMemoryIf-by_editor-refused (words_take_memory (words rest)) editor (by_words (words rest) (skip_word rest)) refusal is)
