-- What a walk over the strands of lines finds is whether they are tangled at some point of the plane.
use Rattle.std.proofs.Common.{◌≡◌, ◌↔◌, ℕ, ◌≤◌, IfOk, Result, length, take, refl, ap, sym, ◌∙◌, subst, Bool, true, false, ◌||◌, List, [], ◌∷◌, ◌++◌, IsTrue, slice_index}
use Rattle.std.specs.List.{fold, list_any}
use Rattle.std.proofs.Math.Bool.{or_assoc}
use Rattle.std.proofs.lemmas.List.{append-nil, take_all}
use Rattle.std.proofs.lemmas.Result.{IfOk-weaker}
use Rattle.sf_grid.specs.Plane.{Coordinates, IsPoint, Point}
use Rattle.sf_classes.specs.Classes.{IsUpward, WereHanded}
use Rattle.sf_geometry.specs.Lists.{edges_between, edges_of, ends_of, is_closed, tight}
use Rattle.sf_pieces.specs.Marked.{Marked, groups_of, item_at, pieces_of}
use Rattle.sf_pieces.proofs.CountLaws.{items-count}
use Rattle.sf_pieces.proofs.PassLaws.{items-pass}
use Rattle.sf_valid_rules.specs.Conditions.{Applies, AtPoint}
use Rattle.sf_valid_rules.specs.Shapes.{meets_itself}
use Rattle.sf_strands.specs.Strands.{all_edges_at, all_joints_at, is_tangled_by}
use Rattle.sf_strands.specs.Tangles.{are_tangled}
use Rattle.sf_strands.specs.Walks.{is_tangled, strands_of, strands_of_lines}
use Rattle.sf_strands.proofs.CountedLaws.{lines-counts, pieces_by}
use Rattle.sf_strands.proofs.StrandLaws.{joints_by, meets_by}
use Rattle.sf_strands.proofs.TangleLaws.{tangles_decide}
use Rattle.sf_strands.proofs.TightLaws.{tight-closed, tight-ends, tight-twice}

-- ---- the sink
fold-or : {X : Type 0} (test : X → Bool) (found : Bool) (xs : List X) → fold (λ found x. found || test x) found xs ≡ (found || list_any test xs)
fold-or test true [] = refl
fold-or test false [] = refl
fold-or test found (x ∷ xs) = fold-or test (found || test x) xs ∙ or_assoc found (test x) (list_any test xs)

tangled-upward : (areal : List Bool) → IsUpward areal is_tangled
tangled-upward areal i j s t = sym (ap (λ on. is_tangled_by (slice_index on 0) (slice_index on 1) (slice_index on 2)) s.class.on) ∙ t

-- what the sink has found is whether some point of the plane is tangled
pub found-as-points : (areal : List Bool) (ms : List Marked) (found : Bool) → WereHanded (pieces_of ms) (groups_of ms) areal (λ found item. found || is_tangled item) false found →
    IsTrue found ↔ Applies (AtPoint (λ p. is_tangled (item_at ms p)))
found-as-points areal ms found w =
    let is : found ≡ list_any is_tangled w.items = w.handed ∙ fold-or is_tangled false w.items in
    let passes = items-pass areal ms w.items is_tangled w.represent (tangled-upward areal) in
    (λ t. let some = passes.0 (sym is ∙ t) in (some.0, some.1.0, some.1.1), λ some. is ∙ passes.1 (some.0, (some.1, some.2)))

-- ---- the cells of lines
tangled-as-lines : (lines : List (List Coordinates)) (p : Point) → IsPoint p → is_tangled (item_at (strands_of_lines lines) p) ≡ are_tangled lines p
tangled-as-lines lines p o =
    let ms = strands_of_lines lines in
    let of_groups = items-count ms p in
    let of_lines = lines-counts lines p in
    ap (λ n. is_tangled_by n (slice_index ((item_at ms p).on) 1) (slice_index ((item_at ms p).on) 2)) (of_groups.on 0 ∙ of_lines.edges_are)
    ∙ ap (λ n. is_tangled_by (all_edges_at lines p) n (slice_index ((item_at ms p).on) 2)) (of_groups.on 1 ∙ of_lines.joints_are)
    ∙ ap (λ n. is_tangled_by (all_edges_at lines p) (all_joints_at lines p) n) (of_groups.on 2 ∙ of_lines.ends_are)
    ∙ sym (tangles_decide lines p o)

applies-as : (s t : Point → Bool) → ((p : Point) → IsPoint p → s p ≡ t p) → Applies (AtPoint s) → Applies (AtPoint t)
applies-as s t h (p, o, x) = (p, o, sym (h p o) ∙ x)

same-test : (found : Bool) (s t : Point → Bool) → ((p : Point) → IsPoint p → s p ≡ t p) → IsTrue found ↔ Applies (AtPoint s) → IsTrue found ↔ Applies (AtPoint t)
same-test found s t h f = (λ x. applies-as s t h (f.0 x), λ a. f.1 (applies-as t s (λ p o. sym (h p o)) a))

found-as-lines : (lines : List (List Coordinates)) (ms : List Marked) (found : Bool) → ms ≡ strands_of_lines lines →
    IsTrue found ↔ Applies (AtPoint (λ p. is_tangled (item_at ms p))) → IsTrue found ↔ Applies (AtPoint (are_tangled lines))
found-as-lines lines ms found e f =
    let P : List Marked → Type 0 = λ ns. IsTrue found ↔ Applies (AtPoint (λ p. is_tangled (item_at ns p))) in
    same-test found (λ p. is_tangled (item_at (strands_of_lines lines) p)) (are_tangled lines) (tangled-as-lines lines) (subst P e f)

-- one line is tangled where it meets itself
tangled-alone : (ps : List Coordinates) (p : Point) → IsPoint p → are_tangled (ps ∷ []) p ≡ meets_itself ps p
tangled-alone ps p o = alone (meets_itself ps p)
  where
    alone : (b : Bool) → ((b || false) || (false || false)) ≡ b
    alone true = refl
    alone false = refl

found-as-line : (ps : List Coordinates) (ms : List Marked) (found : Bool) → ms ≡ strands_of ps →
    IsTrue found ↔ Applies (AtPoint (λ p. is_tangled (item_at ms p))) → IsTrue found ↔ Applies (AtPoint (meets_itself ps))
found-as-line ps ms found e f =
    same-test found (are_tangled (ps ∷ [])) (meets_itself ps) (tangled-alone ps)
    (found-as-lines (ps ∷ []) ms found (e ∙ sym (append-nil (strands_of ps))) f)

pub lines-found : {E : Type 0} (r : Result Bool E) (lines : List (List Coordinates)) (ms : List Marked) → ms ≡ strands_of_lines lines →
    IfOk r (λ found. IsTrue found ↔ Applies (AtPoint (λ p. is_tangled (item_at ms p)))) → IfOk r (λ found. IsTrue found ↔ Applies (AtPoint (are_tangled lines)))
lines-found r lines ms e = IfOk-weaker r _ _ (λ found. found-as-lines lines ms found e)

pub line-found : {E : Type 0} (r : Result Bool E) (ps : List Coordinates) (ms : List Marked) → ms ≡ strands_of ps →
    IfOk r (λ found. IsTrue found ↔ Applies (AtPoint (λ p. is_tangled (item_at ms p)))) → IfOk r (λ found. IsTrue found ↔ Applies (AtPoint (meets_itself ps)))
line-found r ps ms e = IfOk-weaker r _ _ (λ found. found-as-line ps ms found e)

-- ---- what is pushed
tight-strands : (ps : List Coordinates) → strands_of (tight ps) ≡ strands_of ps
tight-strands ps =
    ap (λ ts. pieces_by ts (joints_by (is_closed (tight ps)) ts) (ends_of (tight ps))) (ap edges_between (tight-twice ps))
    ∙ ap (λ c. pieces_by (edges_of ps) (joints_by c (edges_of ps)) (ends_of (tight ps))) (tight-closed ps)
    ∙ ap (λ ends. pieces_by (edges_of ps) (joints_by (is_closed ps) (edges_of ps)) ends) (tight-ends ps)

-- of a tight list that was made of a line
pub line-pushed : (ps ts us : List Coordinates) (old new : List Marked) → ts ≡ tight ps → us ≡ ts → new ≡ old ++ strands_of us → new ≡ old ++ strands_of ps
line-pushed ps ts us old new e f g = g ∙ ap (λ qs. old ++ strands_of qs) (f ∙ e) ∙ ap (λ ms. old ++ ms) (tight-strands ps)

pub all-pushed : (lines : List (List Coordinates)) (n : ℕ) (ms : List Marked) → length lines ≤ n → ms ≡ strands_of_lines (take n lines) → ms ≡ strands_of_lines lines
all-pushed lines n ms h e = e ∙ ap strands_of_lines (take_all n lines h)

-- a list that was made tight meets itself where the line does
pub tight-meets : (found : Bool) (ps ts us : List Coordinates) → ts ≡ tight ps → us ≡ ts → IsTrue found ↔ Applies (AtPoint (meets_itself us)) → IsTrue found ↔ Applies (AtPoint (meets_itself ps))
tight-meets found ps ts us e f h =
    let P : List Coordinates → Type 0 = λ qs. IsTrue found ↔ Applies (AtPoint (meets_itself qs)) in
    same-test found (meets_itself (tight ps)) (meets_itself ps) (λ p o. alike p) (subst P (f ∙ e) h)
  where
    alike : (p : Point) → meets_itself (tight ps) p ≡ meets_itself ps p
    alike p =
        ap (λ ts. meets_by (is_closed (tight ps)) (edges_between ts) p) (tight-twice ps) ∙ ap (λ c. meets_by c (edges_of ps) p) (tight-closed ps)

pub tight-found : {E : Type 0} (r : Result Bool E) (ps ts us : List Coordinates) → ts ≡ tight ps → us ≡ ts →
    IfOk r (λ found. IsTrue found ↔ Applies (AtPoint (meets_itself us))) → IfOk r (λ found. IsTrue found ↔ Applies (AtPoint (meets_itself ps)))
tight-found r ps ts us e f = IfOk-weaker r _ _ (λ found. tight-meets found ps ts us e f)

-- pushed to none, the strands are those of the line
pub line-alone : (old new : List Marked) (ps : List Coordinates) → old ≡ [] → new ≡ old ++ strands_of ps → new ≡ strands_of ps
line-alone old new ps e f = f ∙ ap (λ ms. ms ++ strands_of ps) e
