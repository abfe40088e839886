-- How many layers are shown, one after another.
use Rattle.std.specs.Prelude.{◌≡◌, ℕ, ◌+◌, ◌≤◌, Some, List, length}
use Rattle.std.specs.List.{slice_get}
use Rattle.std.proofs.Common.{ap, ◌∙◌, true, false, take, take_all}
use Rattle.std.proofs.lemmas.List.Sums.{count_by_more_no, count_by_more_yes}
use Rattle.std.proofs.lemmas.Option.{get_or_from_slice_get, slice_get_within}
use Rattle.sf_layers.specs.Content.{Content, LayerContent}
use Rattle.sf_picture.specs.Pictures.{Choice, shows_layer}
use Rattle.sf_picture.specs.Views.{shown_count}

pub shown-more : (choice : Choice) (content : Content) (place : ℕ) (entry : List ℕ × LayerContent) → slice_get content place ≡ Some entry
    → shows_layer choice entry.0 ≡ true → shown_count choice (take (place + 1) content) ≡ shown_count choice (take place content) + 1
shown-more choice content place entry there shown =
    count_by_more_yes (λ e. shows_layer choice e.0) content place entry (slice_get_within content place entry there)
    (ap (λ (e : List ℕ × LayerContent). shows_layer choice e.0) (get_or_from_slice_get content place entry entry there) ∙ shown)

pub shown-same : (choice : Choice) (content : Content) (place : ℕ) (entry : List ℕ × LayerContent) → slice_get content place ≡ Some entry
    → shows_layer choice entry.0 ≡ false → shown_count choice (take (place + 1) content) ≡ shown_count choice (take place content)
shown-same choice content place entry there hidden =
    count_by_more_no (λ e. shows_layer choice e.0) content place entry (slice_get_within content place entry there)
    (ap (λ (e : List ℕ × LayerContent). shows_layer choice e.0) (get_or_from_slice_get content place entry entry there) ∙ hidden)

pub shown-all : (choice : Choice) (content : Content) (place : ℕ) → length content ≤ place → shown_count choice (take place content) ≡ shown_count choice content
shown-all choice content place past = ap (shown_count choice) (take_all place content past)
