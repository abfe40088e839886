-- Texts of lists whose items are told their places.
use Rattle.std.proofs.Common.{◌≡◌, ◌≤◌, ◌+◌, ℕ, zero, suc, Bool, true, false, List, [], ◌∷◌, ◌++◌, length, drop, slice_get, Some, ap, sym, refl, ◌∙◌, append_assoc, arith}
use Rattle.std.specs.Prelude.{if◌then◌else◌}
use Rattle.sf_layers.specs.Content.{Content, LayerContent}
use Rattle.sf_picture.specs.declared.view.View.{View}
use Rattle.sf_picture.specs.Pictures.{Choice, layer_text, layers_text, legend_row, legend_rows, row_height, shows_layer}

-- what is left from a place on begins with the layer there
pub layers-at : (choice : Choice) (view : View) (content : Content) (place : ℕ) (entry : List ℕ × LayerContent) → slice_get content place ≡ Some entry
    → layers_text choice view place (drop place content) ≡ layer_text choice view place entry ++ layers_text choice view (place + 1) (drop (place + 1) content)
layers-at choice view content place entry there =
    let next : suc place ≡ place + 1 = omega arith in
    begins content place place entry there ∙ ap (λ (n : ℕ). layer_text choice view place entry ++ layers_text choice view n (drop n content)) next
  where
    begins : (entries : Content) (i from : ℕ) (entry : List ℕ × LayerContent) → slice_get entries i ≡ Some entry
        → layers_text choice view from (drop i entries) ≡ layer_text choice view from entry ++ layers_text choice view (suc from) (drop (suc i) entries)
    begins [] i from entry there = absurd cc
    begins (e ∷ es) zero from entry there = let same : ◌≡◌ {A = List ℕ × LayerContent} e entry = cc in ap (λ (z : List ℕ × LayerContent). layer_text choice view from z ++ layers_text choice view (suc from) es) same
    begins (e ∷ es) (suc i) from entry there = begins es i from entry there

-- nothing is left from the end on
pub layers-none : (choice : Choice) (view : View) (content : Content) (place : ℕ) → length content ≤ place → layers_text choice view place (drop place content) ≡ []
layers-none choice view content place past = ends content place place past
  where
    ends : (entries : Content) (i from : ℕ) → length entries ≤ i → layers_text choice view from (drop i entries) ≡ []
    ends [] zero from past = refl
    ends [] (suc i) from past = refl
    ends (e ∷ es) zero from past = absurd (omega (arith, past))
    ends (e ∷ es) (suc i) from past = ends es i from (omega (arith, past))

-- ---- the legend

-- what is left from a place on is the row of the layer there, if it is shown, and what is left then
pub legend-at : (choice : Choice) (content : Content) (top place : ℕ) (entry : List ℕ × LayerContent) → slice_get content place ≡ Some entry
    → legend_rows choice top place (drop place content) ≡ (if shows_layer choice entry.0
    then legend_row top place entry.0 ++ legend_rows choice (top + row_height) (place + 1) (drop (place + 1) content)
    else legend_rows choice top (place + 1) (drop (place + 1) content))
legend-at choice content top place entry there =
    let next : suc place ≡ place + 1 = omega arith in
    begins content place place entry there
    ∙ ap (λ (n : ℕ). if shows_layer choice entry.0 then legend_row top place entry.0 ++ legend_rows choice (top + row_height) n (drop n content) else legend_rows choice top n (drop n content)) next
  where
    begins : (entries : Content) (i from : ℕ) (entry : List ℕ × LayerContent) → slice_get entries i ≡ Some entry
        → legend_rows choice top from (drop i entries) ≡ (if shows_layer choice entry.0
        then legend_row top from entry.0 ++ legend_rows choice (top + row_height) (suc from) (drop (suc i) entries)
        else legend_rows choice top (suc from) (drop (suc i) entries))
    begins [] i from entry there = absurd cc
    begins (e ∷ es) zero from entry there =
        let same : ◌≡◌ {A = List ℕ × LayerContent} e entry = cc in
        ap (λ (z : List ℕ × LayerContent). if shows_layer choice z.0 then legend_row top from z.0 ++ legend_rows choice (top + row_height) (suc from) es else legend_rows choice top (suc from) es) same
    begins (e ∷ es) (suc i) from entry there = begins es i from entry there

-- the row of the layer at the place was pushed
pub legend-shown : (choice : Choice) (content : Content) (top place : ℕ) (entry : List ℕ × LayerContent) (before after whole : List ℕ) → slice_get content place ≡ Some entry
    → shows_layer choice entry.0 ≡ true → after ≡ before ++ legend_row top place entry.0 → before ++ legend_rows choice top place (drop place content) ≡ whole
    → after ++ legend_rows choice (top + row_height) (place + 1) (drop (place + 1) content) ≡ whole
legend-shown choice content top place entry before after whole there shown pushed all =
    let row = legend_row top place entry.0 in
    let later = legend_rows choice (top + row_height) (place + 1) (drop (place + 1) content) in
    ap (λ (t : List ℕ). t ++ later) pushed ∙ append_assoc before row later
    ∙ ap (λ (b : Bool). before ++ (if b then row ++ later else legend_rows choice top (place + 1) (drop (place + 1) content))) (sym shown)
    ∙ ap (λ (t : List ℕ). before ++ t) (sym (legend-at choice content top place entry there)) ∙ all

-- the layer at the place is not shown
pub legend-hidden : (choice : Choice) (content : Content) (top place : ℕ) (entry : List ℕ × LayerContent) (before whole : List ℕ) → slice_get content place ≡ Some entry
    → shows_layer choice entry.0 ≡ false → before ++ legend_rows choice top place (drop place content) ≡ whole
    → before ++ legend_rows choice top (place + 1) (drop (place + 1) content) ≡ whole
legend-hidden choice content top place entry before whole there hidden all =
    let later = legend_rows choice top (place + 1) (drop (place + 1) content) in
    ap (λ (b : Bool). before ++ (if b then legend_row top place entry.0 ++ legend_rows choice (top + row_height) (place + 1) (drop (place + 1) content) else later)) (sym hidden)
    ∙ ap (λ (t : List ℕ). before ++ t) (sym (legend-at choice content top place entry there)) ∙ all
