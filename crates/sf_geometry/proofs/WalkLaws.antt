-- A walk over edges: what is left of a list decides.
use Rattle.std.proofs.Common.{◌≡◌, ◌↔◌, refl, ap, sym, ◌∙◌, subst, true≢false, ℕ, ◌<◌, ◌+◌, drop, length, slice_index_or, Bool, true, false, List, [], ◌∷◌, ◌++◌, inl, inr, ◌⊎◌, ⊎_elim}
use Rattle.std.specs.Prelude.{if◌then◌else◌, IsTrue}
use Rattle.std.specs.List.{flat_map}
use Rattle.std.proofs.lemmas.Grind.{flat_map-append}
use Rattle.std.proofs.lemmas.List.{drop_more}
use Rattle.sf_grid.specs.Plane.{Coordinates}
use Rattle.sf_grid.specs.Edge.{Edge, edge_between}
use Rattle.sf_geometry.specs.Lists.{edges_of, is_same}
use Rattle.sf_geometry.specs.Parts.{joined}
use Rattle.sf_geometry.specs.Walks.{HasEdge}
use Rattle.sf_geometry.proofs.ListLaws.{edges-step}

has-append : (P : Edge → Type 0) (es fs : List Edge) → HasEdge P (es ++ fs) ↔ (HasEdge P es ⊎ HasEdge P fs)
has-append P [] fs = (λ h. inr h, λ h. ⊎_elim (λ none. absurd none) (λ later. later) h)
has-append P (e ∷ es) fs =
    let rest = has-append P es fs in (
      λ h. ⊎_elim (λ here. inl (inl here)) (λ later. ⊎_elim (λ a. inl (inr a)) (λ b. inr b) (rest.0 later)) h,
      λ h. ⊎_elim (λ a. ⊎_elim (λ here. inl here) (λ later. inr (rest.1 (inl later))) a) (λ b. inr (rest.1 (inr b))) h,
    )

-- a list in two parts, of which the first was searched
pub found-first : (P : Edge → Type 0) (whole all es fs : List Edge) (r : Bool) → all ≡ es ++ fs → IsTrue r ↔ HasEdge P es → r ≡ true → HasEdge P whole ↔ HasEdge P all → IsTrue true ↔ HasEdge P whole
found-first P whole all es fs r e told is left = (λ t. left.1 (subst (λ x. HasEdge P x) (sym e) ((has-append P es fs).1 (inl (told.0 is)))), λ h. refl)

pub left-rest : (P : Edge → Type 0) (whole all es fs : List Edge) (r : Bool) → all ≡ es ++ fs → IsTrue r ↔ HasEdge P es → r ≡ false → HasEdge P whole ↔ HasEdge P all → HasEdge P whole ↔ HasEdge P fs
left-rest P whole all es fs r e told is left = (
  λ h. ⊎_elim (λ a. absurd (true≢false (sym (told.1 a) ∙ is))) (λ b. b) ((has-append P es fs).0 (subst (λ x. HasEdge P x) e (left.0 h))),
  λ h. left.1 (subst (λ x. HasEdge P x) (sym e) ((has-append P es fs).1 (inr h))),
)

-- the edges of a list in two parts: its first edge, and those behind it
edges-parts : (p q : Coordinates) (qs : List Coordinates) → edges_of (p ∷ q ∷ qs) ≡ edges_of (p ∷ q ∷ []) ++ edges_of (q ∷ qs)
edges-parts p q qs = edges-step p q qs ∙ by_same (is_same p q) ∙ ap (λ es. es ++ edges_of (q ∷ qs)) (sym (edges-step p q []))
  where
    by_same : (t : Bool) → (if t then edges_of (q ∷ qs) else edge_between p q ∷ edges_of (q ∷ qs)) ≡ (if t then edges_of (q ∷ []) else edge_between p q ∷ edges_of (q ∷ [])) ++ edges_of (q ∷ qs)
    by_same true = refl
    by_same false = refl

-- what is left of a list, as its next member is passed
left-members : {X : Type 0} (xs : List X) (i : ℕ) (x : X) → i < length xs → x ≡ slice_index_or xs i x → drop i xs ≡ x ∷ drop (i + 1) xs
left-members xs i x h e = drop_more xs i x h ∙ ap (λ y. y ∷ drop (i + 1) xs) (sym e)

pub left-edges : (p q : Coordinates) (qs : List Coordinates) (i : ℕ) → i < length qs → q ≡ slice_index_or qs i q →
    edges_of (p ∷ drop i qs) ≡ edges_of (p ∷ q ∷ []) ++ edges_of (q ∷ drop (i + 1) qs)
left-edges p q qs i h e = ap (λ rs. edges_of (p ∷ rs)) (left-members qs i q h e) ∙ edges-parts p q (drop (i + 1) qs)

pub left-lists : (pss : List (List Coordinates)) (i : ℕ) (ps qs : List Coordinates) → i < length pss → ps ≡ slice_index_or pss i ps → qs ≡ ps →
    flat_map edges_of (drop i pss) ≡ edges_of qs ++ flat_map edges_of (drop (i + 1) pss)
left-lists pss i ps qs h e is =
    ap (λ rss. flat_map edges_of rss) (left-members pss i ps h e) ∙ ap (λ rs. edges_of rs ++ flat_map edges_of (drop (i + 1) pss)) (sym is)

pub left-polygons : (psss : List (List (List Coordinates))) (i : ℕ) (pss qss : List (List Coordinates)) → i < length psss → pss ≡ slice_index_or psss i pss → qss ≡ pss →
    flat_map edges_of (joined (drop i psss)) ≡ flat_map edges_of qss ++ flat_map edges_of (joined (drop (i + 1) psss))
left-polygons psss i pss qss h e is =
    ap (λ rsss. flat_map edges_of (joined rsss)) (left-members psss i pss h e)
    ∙ flat_map-append edges_of pss (joined (drop (i + 1) psss))
    ∙ ap (λ rss. flat_map edges_of rss ++ flat_map edges_of (joined (drop (i + 1) psss))) (sym is)
