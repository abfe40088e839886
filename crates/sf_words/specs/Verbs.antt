-- The verbs that begin a command, and what is done with a layer, a column, a vertex or a rule.
use Rattle.std.specs.Prelude.{ℕ, List, [], ◌∷◌, Option, bytes_eq, codes}
use Rattle.std.specs.Map.{lookup}
use Rattle.sf_words.specs.declared.verb.Verb.{Verb}
use Rattle.sf_words.specs.declared.verb.Verb.TheVariants as verbs
use Rattle.sf_words.specs.declared.verb.Action.{Action}
use Rattle.sf_words.specs.declared.verb.Action.TheVariants as actions

-- the words of the verbs that ask, and change neither the store nor its history
abbrev pub asking_verbs : List (List ℕ × Verb)
asking_verbs = (codes "layers", verbs.Layers) ∷ (codes "columns", verbs.Columns) ∷ (codes "rules", verbs.Rules) ∷ (codes "show", verbs.Show)
    ∷ (codes "get", verbs.Get) ∷ (codes "find", verbs.Find) ∷ (codes "check", verbs.Check) ∷ (codes "hex", verbs.Hex) ∷ (codes "box", verbs.Box) ∷ (codes "simple", verbs.Simple)
    ∷ (codes "area", verbs.Area) ∷ (codes "length", verbs.Length) ∷ (codes "distance", verbs.Distance) ∷ (codes "nearest", verbs.Nearest) ∷ (codes "reach", verbs.Reach) ∷ (codes "relate", verbs.Relate) ∷ (codes "match", verbs.Match) ∷ (codes "query", verbs.Query) ∷ (codes "join", verbs.Join) ∷ []

-- the asking verb that a word spells
abbrev pub asking_verb_of : List ℕ → Option Verb
asking_verb_of word = lookup (bytes_eq word) asking_verbs

-- the verb that a word spells
abbrev pub verb_of : List ℕ → Option Verb
verb_of word = lookup (bytes_eq word) ((codes "add", verbs.Add) ∷ (codes "set", verbs.Set) ∷ (codes "vertex", verbs.Vertex)
    ∷ (codes "undo", verbs.Undo) ∷ (codes "redo", verbs.Redo) ∷ (codes "delete", verbs.Delete) ∷ (codes "replace", verbs.Replace)
    ∷ (codes "unset", verbs.Unset) ∷ (codes "addhex", verbs.AddHex) ∷ (codes "layer", verbs.Layer) ∷ (codes "column", verbs.Column) ∷ (codes "rule", verbs.Rule)
    ∷ asking_verbs)

-- what is done with a layer, a column, a vertex or a rule
abbrev pub action_of : List ℕ → Option Action
action_of word = lookup (bytes_eq word) ((codes "add", actions.Add) ∷ (codes "drop", actions.Drop) ∷ (codes "rename", actions.Rename)
    ∷ (codes "move", actions.Move) ∷ (codes "insert", actions.Insert) ∷ (codes "remove", actions.Remove) ∷ [])
