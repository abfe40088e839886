-- Internal: who wants to trust the program need not read this file.
-- A scratch content, which shows the members of a group what they look at.
use Rattle.std.specs.Prelude.{◌≡◌, ℕ, Bool, ◌||◌, List, Option, None, Some, IsTrue, bytes_eq, nat_le}
use Rattle.std.specs.List.{list_any}
use Rattle.sf_layers.specs.Content.{Content, LayerContent, layer_of, feature_of}
use Rattle.sf_steps.specs.Steps.{edit_layer, next_id_of}
use Rattle.sf_groups.specs.declared.member.Member.{Member}
use Rattle.sf_groups.specs.Members.{names}

-- whether one of these members is of the layer of a name
abbrev pub is_of_layer : List Member → List ℕ → Bool
is_of_layer members name = list_any (λ member. bytes_eq (edit_layer member.edit) name) members

-- whether members look at a feature, from a content on: one of them names it, or it has an identifier that is new
abbrev pub is_looked_at : Content → List Member → List ℕ → ℕ → Bool
is_looked_at start members name id = list_any (names name id) members || nat_le (next_id_of start name) id

-- one layer shows another: kind, next identifier and columns, and the features of the identifiers that pass
pub record ShowsLayer (test : ℕ → Bool) (whole part : LayerContent) : Type 0 where
  pub kind : part.kind ≡ whole.kind
  pub next_id : part.next_id ≡ whole.next_id
  pub columns : part.columns ≡ whole.columns
  pub features : (id : ℕ) → IsTrue (test id) → feature_of part id ≡ feature_of whole id

-- where there is the one layer there is the other, which shows it
abbrev pub ShowsThere : (ℕ → Bool) → Option LayerContent → Option LayerContent → Type 0
ShowsThere test None None = Unit {0}
ShowsThere test (Some whole) (Some part) = ShowsLayer test whole part
ShowsThere test whole part = ⊥

-- one content shows another: in the layers whose names pass, the features whose identifiers pass
abbrev pub Shows : (List ℕ → Bool) → (List ℕ → ℕ → Bool) → Content → Content → Type 0
Shows layers test whole part = (name : List ℕ) → IsTrue (layers name) → ShowsThere (test name) (layer_of whole name) (layer_of part name)

-- a scratch content for members: it shows what they look at
abbrev pub IsScratchFor : Content → List Member → Content → Type 0
IsScratchFor content members scratch = Shows (is_of_layer members) (is_looked_at content members) content scratch
