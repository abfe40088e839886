-- A box that has others: what is apart from it is apart from those.
use Rattle.std.proofs.Common.{Bool, true, false, ◌&&◌, ℤ, refl, sym, IsTrue, arith, true≢false, int_le}
use Rattle.std.specs.Int.{int_max, int_min}
use Rattle.std.proofs.lemmas.Int.{ints}
use Rattle.sf_geometry.specs.declared.extent.Extent.{Extent}
use Rattle.sf_geometry.specs.Envelope.{extents_meet}
use Rattle.sf_edge_tree.specs.Boxes.{covers, joined}

and-left : (p q : Bool) → IsTrue (p && q) → IsTrue p
and-left true q h = refl
and-left false q h = h

and-right : (p q : Bool) → IsTrue (p && q) → IsTrue q
and-right true q h = h
and-right false q h = absurd (true≢false (sym h))

and-both : (p q : Bool) → IsTrue p → IsTrue q → IsTrue (p && q)
and-both true q h k = k
and-both false q h k = h

-- spans that share a number share it with what covers them
spans : (a b c d e f : ℤ) → IsTrue (int_le a c) → IsTrue (int_le d b) → IsTrue (int_le (int_max c e) (int_min d f))
    → IsTrue (int_le (int_max a e) (int_min b f))
spans a b c d e f h k m = grind (arith, ints)

pub hits : (e f q : Extent) → IsTrue (covers e f) → IsTrue (extents_meet f q) → IsTrue (extents_meet e q)
hits e f q c m =
    let c1 = and-left (int_le e.min_x f.min_x && int_le f.max_x e.max_x) (int_le e.min_y f.min_y && int_le f.max_y e.max_y) c in
    let c2 = and-right (int_le e.min_x f.min_x && int_le f.max_x e.max_x) (int_le e.min_y f.min_y && int_le f.max_y e.max_y) c in
    and-both _ _
    (spans e.min_x e.max_x f.min_x f.max_x q.min_x q.max_x (and-left _ _ c1) (and-right _ _ c1) (and-left _ _ m))
    (spans e.min_y e.max_y f.min_y f.max_y q.min_y q.max_y (and-left _ _ c2) (and-right _ _ c2) (and-right _ _ m))

-- two spans share a number whichever comes first
turned : (a b c d : ℤ) → IsTrue (int_le (int_max a c) (int_min b d)) → IsTrue (int_le (int_max c a) (int_min d b))
turned a b c d h = grind (arith, ints)

pub meet-turned : (e f : Extent) → IsTrue (extents_meet e f) → IsTrue (extents_meet f e)
meet-turned e f m =
    and-both _ _ (turned e.min_x e.max_x f.min_x f.max_x (and-left _ _ m)) (turned e.min_y e.max_y f.min_y f.max_y (and-right _ _ m))

below_both : (a b c : ℤ) → IsTrue (int_le a b) → IsTrue (int_le (int_min a c) b)
below_both a b c h = grind (arith, ints)

below_other : (a b c : ℤ) → IsTrue (int_le a b) → IsTrue (int_le (int_min c a) b)
below_other a b c h = grind (arith, ints)

above_both : (a b c : ℤ) → IsTrue (int_le b a) → IsTrue (int_le b (int_max a c))
above_both a b c h = grind (arith, ints)

above_other : (a b c : ℤ) → IsTrue (int_le b a) → IsTrue (int_le b (int_max c a))
above_other a b c h = grind (arith, ints)

pub joined-left : (a b e : Extent) → IsTrue (covers a e) → IsTrue (covers (joined a b) e)
joined-left a b e h =
    let c1 = and-left (int_le a.min_x e.min_x && int_le e.max_x a.max_x) (int_le a.min_y e.min_y && int_le e.max_y a.max_y) h in
    let c2 = and-right (int_le a.min_x e.min_x && int_le e.max_x a.max_x) (int_le a.min_y e.min_y && int_le e.max_y a.max_y) h in
    and-both _ _
    (and-both _ _ (below_both a.min_x e.min_x b.min_x (and-left _ _ c1)) (above_both a.max_x e.max_x b.max_x (and-right _ _ c1)))
    (and-both _ _ (below_both a.min_y e.min_y b.min_y (and-left _ _ c2)) (above_both a.max_y e.max_y b.max_y (and-right _ _ c2)))

pub joined-right : (a b e : Extent) → IsTrue (covers b e) → IsTrue (covers (joined a b) e)
joined-right a b e h =
    let c1 = and-left (int_le b.min_x e.min_x && int_le e.max_x b.max_x) (int_le b.min_y e.min_y && int_le e.max_y b.max_y) h in
    let c2 = and-right (int_le b.min_x e.min_x && int_le e.max_x b.max_x) (int_le b.min_y e.min_y && int_le e.max_y b.max_y) h in
    and-both _ _
    (and-both _ _ (below_other b.min_x e.min_x a.min_x (and-left _ _ c1)) (above_other b.max_x e.max_x a.max_x (and-right _ _ c1)))
    (and-both _ _ (below_other b.min_y e.min_y a.min_y (and-left _ _ c2)) (above_other b.max_y e.max_y a.max_y (and-right _ _ c2)))

itself : (a : ℤ) → IsTrue (int_le a a)
itself a = grind (arith, ints)

pub covers-itself : (e : Extent) → IsTrue (covers e e)
covers-itself e =
    and-both _ _ (and-both _ _ (itself e.min_x) (itself e.max_x)) (and-both _ _ (itself e.min_y) (itself e.max_y))
