-- What `add`, `check`, `replace` and `set` make of the words after it.
use Rattle.std.proofs.Common.{◌≡◌, ◌≢◌, ℕ, List, [], ◌∷◌, Option, Result, Ok, Err, refl, sym, ap, ◌∙◌, subst}
use Rattle.std.specs.Result.{IsErrAnd}
use Rattle.sf_refusals.specs.declared.refusal.Refusal.{Refusal}
use Rattle.sf_refusals.specs.declared.refusal.Refusal.TheVariants.{Memory}
use Rattle.sf_geometry.specs.declared.geometry.Geometry.{Geometry}
use Rattle.sf_wkt.specs.declared.fault.WktFault.{WktFault}
use Rattle.sf_wkt.specs.declared.fault.WktFault.TheVariants as faults
use Rattle.sf_wkt.specs.Faults.{refusal_of}
use Rattle.sf_wkt.specs.Grammar.{OrMemory as ReadsOrMemory, read}
use Rattle.sf_features.specs.declared.attr_value.AttrValue.{AttrValue}
use Rattle.sf_steps.specs.declared.edit.Edit.TheVariants as edits
use Rattle.sf_commands.specs.declared.command.Command.{Command}
use Rattle.sf_commands.specs.declared.command.Command.TheVariants.{Edit}
use Rattle.sf_words.specs.declared.naming.Naming.{Naming}
use Rattle.sf_words.specs.Words.{words, skip_blanks, skip_word, trimmed_end}
use Rattle.sf_words.specs.Naming.{id_named, given}
use Rattle.sf_commands.specs.Commands.{of_text, layer_and_text, replace_arguments, set_arguments, OrMemory}
use Rattle.sf_values.specs.Values.{value_of}

with_text : (command : List ℕ → Geometry → Command) (layer text : List ℕ) (more : List (List ℕ)) → more ≢ []
    → layer_and_text command (layer ∷ more) text ≡ of_text (read text) (command layer)
with_text command layer text [] some = absurd (some refl)
with_text command layer text (word ∷ more) some = refl

-- what the words after `add` or `check` give, where a text stands behind the first of them
pub layer_and_text-text : (command : List ℕ → Geometry → Command) (line next layer text : List ℕ) → words line ≡ layer ∷ words next → next ≡ skip_word line
    → words next ≢ [] → text ≡ skip_blanks next
    → layer_and_text command (words line) (skip_blanks (skip_word line)) ≡ of_text (read text) (command layer)
layer_and_text-text command line next layer text first rest some behind =
    ap (λ w. layer_and_text command w (skip_blanks (skip_word line))) first
    ∙ ap (λ n. layer_and_text command (layer ∷ words next) (skip_blanks n)) (sym rest)
    ∙ ap (λ t. layer_and_text command (layer ∷ words next) t) (sym behind)
    ∙ with_text command layer text (words next) some

-- `replace` of a layer, an identifier if it could be read, and what a text was read as
abbrev pub replaced_by : List ℕ → Option ℕ → Result Geometry WktFault → Result Command Refusal
replaced_by layer id geometry = given id (λ id. of_text geometry (λ geometry. Edit (edits.ReplaceGeometry layer id geometry)))

with_id_and_text : (naming : Naming) (layer id text : List ℕ) (more : List (List ℕ)) → more ≢ []
    → replace_arguments naming (layer ∷ id ∷ more) text ≡ replaced_by layer (id_named naming id) (read text)
with_id_and_text naming layer id text [] some = absurd (some refl)
with_id_and_text naming layer id text (word ∷ more) some = refl

-- what the words after `replace` give, where a text stands behind the second of them
pub replace_arguments-text : (naming : Naming) (line next last layer id text : List ℕ) → words line ≡ layer ∷ words next → next ≡ skip_word line
    → words next ≡ id ∷ words last → last ≡ skip_word next → words last ≢ [] → text ≡ skip_blanks last
    → replace_arguments naming (words line) (skip_blanks (skip_word (skip_word line))) ≡ replaced_by layer (id_named naming id) (read text)
replace_arguments-text naming line next last layer id text first rest second end some behind =
    let all : words line ≡ layer ∷ id ∷ words last = first ∙ ap (λ w. layer ∷ w) second in
    let left : last ≡ skip_word (skip_word line) = end ∙ ap skip_word rest in
    ap (λ w. replace_arguments naming w (skip_blanks (skip_word (skip_word line)))) all
    ∙ ap (λ n. replace_arguments naming (layer ∷ id ∷ words last) (skip_blanks n)) (sym left)
    ∙ ap (λ t. replace_arguments naming (layer ∷ id ∷ words last) t) (sym behind)
    ∙ with_id_and_text naming layer id text (words last) some

-- `set` in a layer of an identifier if it could be read, in a column to a value if it could be read
abbrev pub set_by : List ℕ → Option ℕ → List ℕ → Option AttrValue → Result Command Refusal
set_by layer id column value = given id (λ id. given value (λ value. Ok (Edit (edits.SetValue layer id column value))))

with_column_and_text : (naming : Naming) (layer id column text : List ℕ) (more : List (List ℕ)) → more ≢ []
    → set_arguments naming (layer ∷ id ∷ column ∷ more) text ≡ set_by layer (id_named naming id) column (value_of (trimmed_end text))
with_column_and_text naming layer id column text [] some = absurd (some refl)
with_column_and_text naming layer id column text (word ∷ more) some = refl

-- what the words after `set` give, where a text stands behind the third of them
pub set_arguments-text : (naming : Naming) (line next middle last layer id column text : List ℕ) → words line ≡ layer ∷ words next → next ≡ skip_word line
    → words next ≡ id ∷ words middle → middle ≡ skip_word next → words middle ≡ column ∷ words last → last ≡ skip_word middle
    → words last ≢ [] → text ≡ skip_blanks last
    → set_arguments naming (words line) (skip_blanks (skip_word (skip_word (skip_word line)))) ≡ set_by layer (id_named naming id) column (value_of (trimmed_end text))
set_arguments-text naming line next middle last layer id column text first rest second more third end some behind =
    let all : words line ≡ layer ∷ id ∷ column ∷ words last = first ∙ ap (λ w. layer ∷ w) (second ∙ ap (λ w. id ∷ w) third) in
    let left : last ≡ skip_word (skip_word (skip_word line)) = end ∙ ap skip_word (more ∙ ap skip_word rest) in
    ap (λ w. set_arguments naming w (skip_blanks (skip_word (skip_word (skip_word line))))) all
    ∙ ap (λ n. set_arguments naming (layer ∷ id ∷ column ∷ words last) (skip_blanks n)) (sym left)
    ∙ ap (λ t. set_arguments naming (layer ∷ id ∷ column ∷ words last) t) (sym behind)
    ∙ with_column_and_text naming layer id column text (words last) some

pub OrMemory-same : {T : Type 0} (expected r : Result T Refusal) → r ≡ expected → OrMemory expected r
OrMemory-same expected (Err Memory) h = tt
OrMemory-same expected r h = h

pub OrMemory-memory : {T : Type 0} (expected r : Result T Refusal) → IsErrAnd r (λ e. e ≡ Memory) → OrMemory expected r
OrMemory-memory expected (Ok x) is = absurd is
OrMemory-memory expected (Err e) is = subst (λ (refusal : Refusal). OrMemory expected (Err refusal)) (sym is) tt

pub OrMemory-refused : {T : Type 0} (expected r : Result T Refusal) (refusal : Refusal) → expected ≡ Err refusal → IsErrAnd r (λ e. e ≡ refusal) → OrMemory expected r
OrMemory-refused expected (Ok x) refusal h is = absurd is
OrMemory-refused expected (Err e) refusal h is = OrMemory-same expected (Err e) (ap Err is ∙ sym h)

-- a text that could not be read, or memory that ran out over it: what is made of a text's fault is its refusal
module _ {T : Type 0} (make : Result Geometry WktFault → Result T Refusal) (refuses : (fault : WktFault) → make (Err fault) ≡ Err (refusal_of fault)) (expected : Result Geometry WktFault) (r : Result T Refusal) where
  refused : (fault : WktFault) → Err fault ≡ expected → IsErrAnd r (λ e. e ≡ refusal_of fault) → OrMemory (make expected) r
  refused fault h is = OrMemory-refused (make expected) r (refusal_of fault) (ap make (sym h) ∙ refuses fault) is

  pub OrMemory-unread : (fault : WktFault) → ReadsOrMemory expected (Err fault) → IsErrAnd r (λ e. e ≡ refusal_of fault) → OrMemory (make expected) r
  OrMemory-unread faults.Memory h is = OrMemory-memory (make expected) r is
  OrMemory-unread (faults.Syntax place) h is = refused (faults.Syntax place) h is
  OrMemory-unread faults.OffGrid h is = refused faults.OffGrid h is
  OrMemory-unread faults.OutOfRange h is = refused faults.OutOfRange h is
  OrMemory-unread faults.Empty h is = refused faults.Empty h is
  OrMemory-unread faults.UnsupportedType h is = refused faults.UnsupportedType h is
  OrMemory-unread faults.TooManyVertices h is = refused faults.TooManyVertices h is
