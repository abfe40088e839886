-- The strands of a tight line by its points: its joints are the points between its ends, and if it is closed its first.
use Rattle.std.proofs.Common.{◌≡◌, refl, ap, sym, ◌∙◌, subst, Bool, true, false, List, [], ◌∷◌, ◌++◌, append_assoc, drop, map}
use Rattle.std.specs.Prelude.{if◌then◌else◌}
use Rattle.std.proofs.lemmas.List.{append-nil}
use Rattle.sf_grid.specs.Plane.{Coordinates}
use Rattle.sf_strips.specs.declared.piece.Piece.TheVariants.{Dot}
use Rattle.sf_geometry.specs.Lists.{edges_between, edges_from, edges_of, ends_of, is_same}
use Rattle.sf_geometry.proofs.ListLaws.{ends-closed, ends-open, last-pushed}
use Rattle.sf_pieces.specs.Marked.{Marked, marked, piece_of}
use Rattle.sf_strands.specs.Strands.{joints_of}
use Rattle.sf_strands.specs.Tight.{IsTight}
use Rattle.sf_strands.specs.Walks.{strands_of}
use Rattle.sf_strands.proofs.CountedLaws.{pieces_by}
use Rattle.sf_strands.proofs.LinkLaws.{starts}
use Rattle.sf_strands.proofs.StrandLaws.{joints_by}
use Rattle.sf_strands.proofs.TightLaws.{tight-tight}

-- a line by its first point, its last one, and those between
pub record IsLine (points before inner : List Coordinates) (first last : Coordinates) : Type 0 where
  pub whole : points ≡ before ++ last ∷ []
  pub front : before ≡ first ∷ inner

line_of : {points before inner : List Coordinates} {first last : Coordinates} → IsLine points before inner first last → points ≡ first ∷ (inner ++ last ∷ [])
line_of {last = last} l = l.whole ∙ ap (λ ps. ps ++ last ∷ []) l.front

starts-pushed : (a : Coordinates) (qs : List Coordinates) (q : Coordinates) → starts (edges_from a (qs ++ q ∷ [])) ≡ a ∷ qs
starts-pushed a [] q = refl
starts-pushed a (r ∷ rs) q = ap (λ ps. a ∷ ps) (starts-pushed r rs q)

joints-of-line : (first : Coordinates) (inner : List Coordinates) (last : Coordinates) (closed : Bool) → IsTight (first ∷ (inner ++ last ∷ [])) → is_same first last ≡ closed →
    joints_of (first ∷ (inner ++ last ∷ [])) ≡ (if closed then first ∷ inner else inner)
joints-of-line first inner last closed h e =
    let points : List Coordinates = first ∷ (inner ++ last ∷ []) in
    ap (λ q. joints_by (is_same first q) (edges_of points)) (last-pushed first inner last)
    ∙ ap (λ c. joints_by c (edges_of points)) e
    ∙ ap (λ ps. joints_by closed (edges_between ps)) (tight-tight points h)
    ∙ ap (λ ps. if closed then ps else drop 1 ps) (starts-pushed first inner last)
    ∙ by closed
  where
    by : (c : Bool) → (if c then first ∷ inner else drop 1 (first ∷ inner)) ≡ (if c then first ∷ inner else inner)
    by true = refl
    by false = refl

pub pushed-closed : (old mid now : List Marked) (points before inner : List Coordinates) (first last : Coordinates) → IsTight points → IsLine points before inner first last → is_same first last ≡ true →
    mid ≡ old ++ marked 0 (map piece_of (edges_of points)) → now ≡ mid ++ marked 1 (map Dot before) → now ≡ old ++ strands_of points
pushed-closed old mid now points before inner first last h l e f g =
    let P : List Coordinates → Type 0 = λ ps. IsTight ps in
    let joints : joints_of points ≡ before = ap joints_of (line_of l) ∙ joints-of-line first inner last true (subst P (line_of l) h) e ∙ sym l.front in
    let ends : ends_of points ≡ [] = ap ends_of (line_of l) ∙ ends-closed first (inner ++ last ∷ []) (ap (is_same first) (last-pushed first inner last) ∙ e) in
    let edges : List Marked = marked 0 (map piece_of (edges_of points)) in
    g
    ∙ ap (λ ms. ms ++ marked 1 (map Dot before)) f
    ∙ append_assoc old edges (marked 1 (map Dot before))
    ∙ ap (λ ms. old ++ ms) (sym (append-nil (edges ++ marked 1 (map Dot before))))
    ∙ ap (λ ps. old ++ pieces_by (edges_of points) ps []) (sym joints)
    ∙ ap (λ ps. old ++ pieces_by (edges_of points) (joints_of points) ps) (sym ends)

pub pushed-open : (old mid after more now : List Marked) (points before inner : List Coordinates) (first last : Coordinates) → IsTight points → IsLine points before inner first last →
    is_same first last ≡ false → mid ≡ old ++ marked 0 (map piece_of (edges_of points)) → after ≡ mid ++ marked 1 (map Dot inner) → more ≡ after ++ (Dot first, 2) ∷ [] →
    now ≡ more ++ (Dot last, 2) ∷ [] → now ≡ old ++ strands_of points
pushed-open old mid after more now points before inner first last h l e f g i j =
    let P : List Coordinates → Type 0 = λ ps. IsTight ps in
    let joints : joints_of points ≡ inner = ap joints_of (line_of l) ∙ joints-of-line first inner last false (subst P (line_of l) h) e in
    let two : ends_of points ≡ first ∷ last ∷ [] =
    ap ends_of (line_of l)
    ∙ ends-open first (inner ++ last ∷ []) (ap (is_same first) (last-pushed first inner last) ∙ e)
    ∙ ap (λ q. first ∷ q ∷ []) (last-pushed first inner last) in
    let edges : List Marked = marked 0 (map piece_of (edges_of points)) in
    j
    ∙ ap (λ ms. ms ++ (Dot last, 2) ∷ []) (i ∙ ap (λ ms. ms ++ (Dot first, 2) ∷ []) (g ∙ ap (λ ms. ms ++ marked 1 (map Dot inner)) f ∙ append_assoc old edges (marked 1 (map Dot inner))))
    ∙ append_assoc (old ++ (edges ++ marked 1 (map Dot inner))) ((Dot first, 2) ∷ []) ((Dot last, 2) ∷ [])
    ∙ append_assoc old (edges ++ marked 1 (map Dot inner)) ((Dot first, 2) ∷ (Dot last, 2) ∷ [])
    ∙ ap (λ ps. old ++ pieces_by (edges_of points) ps (first ∷ last ∷ [])) (sym joints)
    ∙ ap (λ ps. old ++ pieces_by (edges_of points) (joints_of points) ps) (sym two)
