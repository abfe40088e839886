-- A box over boxes has what they have.
use Rattle.std.specs.Prelude.{◌≡◌, ℕ, ◌+◌, ◌<◌, ◌&&◌, List, [], ◌∷◌, ◌++◌, length, IsTrue, int_le, ℤ}
use Rattle.std.specs.Int.{int_max, int_min}
use Rattle.std.specs.List.{AllByRecursion}
use Rattle.std.proofs.Common.{ap, sym, ◌∙◌, take, get_or, arith, add-one, subst}
use Rattle.std.proofs.Math.Seq.{take-suc}
use Rattle.std.proofs.lemmas.Int.{ints}
use Rattle.sf_geometry.specs.declared.extent.Extent.{Extent}
use Rattle.sf_rtree.specs.declared.node.Branch.{Branch}
use Rattle.sf_rtree.specs.Boxed.{Boxed, joined}
use Rattle.sf_rtree.specs.Curves.{put}
use Rattle.sf_rtree.specs.Nodes.{Covers, covers, entries_below}
use Rattle.sf_rtree.proofs.Meeting.{and-both, and-left, and-right, branch_at, entries_below-step}
use Rattle.sf_rtree.proofs.Order.{all-put, all_both, all_map}

below_both : (a b c : ℤ) → IsTrue (int_le a b) → IsTrue (int_le (int_min a c) b)
below_both a b c h = grind (arith, ints)

below_other : (a b c : ℤ) → IsTrue (int_le a b) → IsTrue (int_le (int_min c a) b)
below_other a b c h = grind (arith, ints)

above_both : (a b c : ℤ) → IsTrue (int_le b a) → IsTrue (int_le b (int_max a c))
above_both a b c h = grind (arith, ints)

above_other : (a b c : ℤ) → IsTrue (int_le b a) → IsTrue (int_le b (int_max c a))
above_other a b c h = grind (arith, ints)

pub joined-left : (a b e : Extent) → IsTrue (covers a e) → IsTrue (covers (joined a b) e)
joined-left a b e h =
    let c1 = and-left (int_le a.min_x e.min_x && int_le e.max_x a.max_x) (int_le a.min_y e.min_y && int_le e.max_y a.max_y) h in
    let c2 = and-right (int_le a.min_x e.min_x && int_le e.max_x a.max_x) (int_le a.min_y e.min_y && int_le e.max_y a.max_y) h in
    and-both _ _
    (and-both _ _ (below_both a.min_x e.min_x b.min_x (and-left _ _ c1)) (above_both a.max_x e.max_x b.max_x (and-right _ _ c1)))
    (and-both _ _ (below_both a.min_y e.min_y b.min_y (and-left _ _ c2)) (above_both a.max_y e.max_y b.max_y (and-right _ _ c2)))

pub joined-right : (a b e : Extent) → IsTrue (covers b e) → IsTrue (covers (joined a b) e)
joined-right a b e h =
    let c1 = and-left (int_le b.min_x e.min_x && int_le e.max_x b.max_x) (int_le b.min_y e.min_y && int_le e.max_y b.max_y) h in
    let c2 = and-right (int_le b.min_x e.min_x && int_le e.max_x b.max_x) (int_le b.min_y e.min_y && int_le e.max_y b.max_y) h in
    and-both _ _
    (and-both _ _ (below_other b.min_x e.min_x a.min_x (and-left _ _ c1)) (above_other b.max_x e.max_x a.max_x (and-right _ _ c1)))
    (and-both _ _ (below_other b.min_y e.min_y a.min_y (and-left _ _ c2)) (above_other b.max_y e.max_y a.max_y (and-right _ _ c2)))

int_le-refl : (a : ℤ) → IsTrue (int_le a a)
int_le-refl a = grind (arith, ints)

pub covers-itself : (e : Extent) → IsTrue (covers e e)
covers-itself e =
    and-both _ _ (and-both _ _ (int_le-refl e.min_x) (int_le-refl e.max_x)) (and-both _ _ (int_le-refl e.min_y) (int_le-refl e.max_y))

pub cover-entry : (a new : Extent) (es : List Boxed) (i : ℕ) (e : Boxed) → i < length es → e ≡ get_or es i e → new ≡ joined a e.extent
    → Covers a (take i es) → Covers new (take (i + 1) es)
cover-entry a new es i e h is was c =
    subst (λ x. Covers x (take (i + 1) es)) (sym was)
    (subst (Covers (joined a e.extent)) (sym (ap (λ k. take k es) (add-one i) ∙ take-suc es i e h ∙ ap (λ x. take i es ++ x ∷ []) (sym is)))
    (all_both (λ x. IsTrue (covers (joined a e.extent) x.extent)) (take i es) (e ∷ [])
    (all_map (λ x. IsTrue (covers a x.extent)) (λ x. IsTrue (covers (joined a e.extent) x.extent)) (λ x p. joined-left a e.extent x.extent p) (take i es) c)
    (joined-right a e.extent e.extent (covers-itself e.extent), tt)))

pub cover-branch : (a new : Extent) (bs : List Branch) (i : ℕ) (b : Branch) → i < length bs → b ≡ get_or bs i b → new ≡ joined a b.extent
    → AllByRecursion (λ x. Covers x.extent x.node.entries) bs → Covers a (entries_below (take i bs)) → Covers new (entries_below (take (i + 1) bs))
cover-branch a new bs i b h is was are c =
    subst (λ x. Covers x (entries_below (take (i + 1) bs))) (sym was)
    (subst (Covers (joined a b.extent)) (sym (entries_below-step bs i b h is))
    (all_both (λ x. IsTrue (covers (joined a b.extent) x.extent)) (entries_below (take i bs)) b.node.entries
    (all_map (λ x. IsTrue (covers a x.extent)) (λ x. IsTrue (covers (joined a b.extent) x.extent)) (λ x p. joined-left a b.extent x.extent p) (entries_below (take i bs)) c)
    (all_map (λ x. IsTrue (covers b.extent x.extent)) (λ x. IsTrue (covers (joined a b.extent) x.extent)) (λ x p. joined-right a b.extent x.extent p) b.node.entries
    (subst (λ x. Covers x.extent x.node.entries) (sym is) (branch_at (λ x. Covers x.extent x.node.entries) bs i b are h)))))

-- a box over entries, joined with that of a further one
pub cover-put : (a : Extent) (e : Boxed) (es : List Boxed) → Covers a es → Covers (joined a e.extent) (put e es)
cover-put a e es c =
    all-put (λ x. IsTrue (covers (joined a e.extent) x.extent)) e es (joined-right a e.extent e.extent (covers-itself e.extent))
    (all_map (λ x. IsTrue (covers a x.extent)) (λ x. IsTrue (covers (joined a e.extent) x.extent)) (λ x p. joined-left a e.extent x.extent p) es c)
