-- Pieces beside their groups: what is read of the pairs, and one more of them.
use Rattle.std.proofs.Common.{◌≡◌, ℕ, suc, ◌<◌, subst, Result, OnOk, arith, refl, ap, sym, ◌∙◌, List, [], ◌∷◌, ◌++◌, map, length, append_assoc}
use Rattle.sf_grid.specs.Plane.{Coordinates}
use Rattle.sf_grid.specs.Edge.{edge_between}
use Rattle.sf_strips.specs.declared.piece.Piece.{Piece}
use Rattle.sf_strips.specs.declared.piece.Piece.TheVariants.{Edge}
use Rattle.sf_geometry.specs.Lists.{edges_of, is_same}
use Rattle.sf_geometry.proofs.ListLaws.{edges-step}
use Rattle.std.proofs.Common.{true, false, Bool}
use Rattle.std.specs.Prelude.{if◌then◌else◌}
use Rattle.std.specs.List.{All}
use Rattle.sf_cells.specs.Groups.{Item}
use Rattle.sf_classes.specs.Classes.{WereHanded}
use Rattle.sf_pieces.specs.Marked.{HasGroups, Marked, groups_of, marked, piece_of, pieces_of, with_groups}

less : (m n : ℕ) → suc m ≡ suc n → m ≡ n
less m n e = omega (arith, e)

pub pieces-with : (ps : List Piece) (gs : List ℕ) → length gs ≡ length ps → pieces_of (with_groups ps gs) ≡ ps
pieces-with [] gs e = refl
pieces-with (p ∷ ps) [] e = absurd (omega (arith, e))
pieces-with (p ∷ ps) (g ∷ gs) e = ap (λ qs. p ∷ qs) (pieces-with ps gs (less (length gs) (length ps) e))

pub groups-with : (ps : List Piece) (gs : List ℕ) → length gs ≡ length ps → groups_of (with_groups ps gs) ≡ gs
groups-with [] [] e = refl
groups-with [] (g ∷ gs) e = absurd (omega (arith, e))
groups-with (p ∷ ps) [] e = absurd (omega (arith, e))
groups-with (p ∷ ps) (g ∷ gs) e = ap (λ hs. g ∷ hs) (groups-with ps gs (less (length gs) (length ps) e))

pub length-with : (ps : List Piece) (gs : List ℕ) → length gs ≡ length ps → length (with_groups ps gs) ≡ length ps
length-with [] gs e = refl
length-with (p ∷ ps) [] e = absurd (omega (arith, e))
length-with (p ∷ ps) (g ∷ gs) e = ap (λ n. suc n) (length-with ps gs (less (length gs) (length ps) e))

pub with-pushed : (ps : List Piece) (gs : List ℕ) (p : Piece) (g : ℕ) → length gs ≡ length ps
    → with_groups (ps ++ p ∷ []) (gs ++ g ∷ []) ≡ with_groups ps gs ++ (p, g) ∷ []
with-pushed [] [] p g e = refl
with-pushed [] (h ∷ gs) p g e = absurd (omega (arith, e))
with-pushed (q ∷ ps) [] p g e = absurd (omega (arith, e))
with-pushed (q ∷ ps) (h ∷ gs) p g e = ap (λ ms. (q, h) ∷ ms) (with-pushed ps gs p g (less (length gs) (length ps) e))

-- the edges of a list in a group, and those with one point more before it
abbrev pub edges_in : ℕ → List Coordinates → List Marked
edges_in group ps = marked group (map piece_of (edges_of ps))

pub edges_in-same : (ms : List Marked) (group : ℕ) (p q : Coordinates) (qs : List Coordinates) → is_same p q ≡ true
    → ms ++ edges_in group (q ∷ qs) ≡ ms ++ edges_in group (p ∷ q ∷ qs)
edges_in-same ms group p q qs e =
    ap (λ es. ms ++ marked group (map piece_of es))
    (sym (edges-step p q qs ∙ ap (λ b. if b then edges_of (q ∷ qs) else edge_between p q ∷ edges_of (q ∷ qs)) e))

pub edges_in-other : (ms : List Marked) (group : ℕ) (p q : Coordinates) (qs : List Coordinates) → is_same p q ≡ false
    → (ms ++ (Edge p q, group) ∷ []) ++ edges_in group (q ∷ qs) ≡ ms ++ edges_in group (p ∷ q ∷ qs)
edges_in-other ms group p q qs e =
    append_assoc ms ((Edge p q, group) ∷ []) (edges_in group (q ∷ qs))
    ∙ ap (λ es. ms ++ marked group (map piece_of es))
    (sym (edges-step p q qs ∙ ap (λ b. if b then edges_of (q ∷ qs) else edge_between p q ∷ edges_of (q ∷ qs)) e))

-- grouped pieces as their two lists
pub record IsParted (ms : List Marked) (ps : List Piece) (gs : List ℕ) : Type 0 where
  pub pieces : pieces_of ms ≡ ps
  pub groups : groups_of ms ≡ gs
  pub size : length ms ≡ length ps

pub parted : (ms : List Marked) (ps ps' : List Piece) (gs gs' : List ℕ) → length gs ≡ length ps → with_groups ps gs ≡ ms → ps' ≡ ps → gs' ≡ gs → IsParted ms ps' gs'
parted ms ps ps' gs gs' e w p g =
    record {
      pieces = ap pieces_of (sym w) ∙ pieces-with ps gs e ∙ sym p;
      groups = ap groups_of (sym w) ∙ groups-with ps gs e ∙ sym g;
      size = ap length (sym w) ∙ length-with ps gs e ∙ ap length (sym p);
    }

pub parted-ranges : (ms : List Marked) (ps : List Piece) (gs : List ℕ) → IsParted ms ps gs → HasGroups ms → All (λ g. g < length ps) gs
parted-ranges ms ps gs e h = subst (λ n. All (λ g. g < n) gs) e.size (subst (λ hs. All (λ g. g < length ms) hs) e.groups h)

pub parted-handed : {Content E : Type 0} (r : Result (Unit {0}) E) (ms : List Marked) (ps : List Piece) (gs : List ℕ) (areal : List Bool) (after : Content → Item → Content) (old new : Content)
    → IsParted ms ps gs → OnOk r (WereHanded ps gs areal after old new) → OnOk r (WereHanded (pieces_of ms) (groups_of ms) areal after old new)
parted-handed r ms ps gs areal after old new e h =
    subst (λ qs. OnOk r (WereHanded qs (groups_of ms) areal after old new)) (sym e.pieces)
    (subst (λ hs. OnOk r (WereHanded ps hs areal after old new)) (sym e.groups) h)
