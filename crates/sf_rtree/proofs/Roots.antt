-- A root with one entry more or one fewer.
use Rattle.std.specs.Prelude.{◌≡◌, ◌≢◌, ℕ, ◌<◌, ◌^◌, None, Some}
use Rattle.std.specs.List.{AllByRecursion}
use Rattle.std.proofs.Common.{refl, ap, sym, ◌∙◌, subst}
use Rattle.sf_geometry.specs.declared.extent.Extent.{Extent}
use Rattle.sf_rtree.specs.declared.entry.Key.{Key}
use Rattle.sf_rtree.specs.Boxed.{Boxed}
use Rattle.sf_rtree.specs.Curves.{AreInOrder, key_of, put, taken}
use Rattle.sf_rtree.specs.Indexes.{Boxes, box_of, with_box, without_box}
use Rattle.sf_rtree.specs.Subtrees.{IsDistinct, IsRoot, Subtree, boxes_of}
use Rattle.sf_rtree.proofs.Entries.{boxes_of-put, boxes_of-taken, distinct-put, distinct-taken, free}
use Rattle.sf_rtree.proofs.Order.{all-put, all-taken, in_order-put, in_order-taken}

-- what a change makes of a root
pub record IsRootOf (n : Subtree) (m : Boxes) : Type 0 where
  pub root : IsRoot n
  pub boxes : boxes_of n.entries ≡ m

pub root-put : (old new : Subtree) (was : Boxes) (e : Boxed) → IsRoot old → boxes_of old.entries ≡ was → e.id < 2 ^ 32
    → box_of was e.id ≡ None → new.entries ≡ put e old.entries → IsRootOf new (with_box e.id e.extent was)
root-put old new was e root view small none is =
    let apart : AllByRecursion (λ f. f.id ≢ e.id) old.entries = free e.id old.entries (ap (λ m. box_of m e.id) view ∙ none) in
    record {
      root =
          record {
            in_order = subst AreInOrder (sym is) (in_order-put e old.entries root.in_order);
            distinct = subst IsDistinct (sym is) (distinct-put e old.entries apart root.distinct);
            small = subst (AllByRecursion (λ f. f.id < 2 ^ 32)) (sym is) (all-put (λ f. f.id < 2 ^ 32) e old.entries small root.small);
          };
      boxes = ap boxes_of is ∙ boxes_of-put e old.entries apart ∙ ap (with_box e.id e.extent) view;
    }

pub root-taken : (old new : Subtree) (was : Boxes) (id : ℕ) (x : Extent) → IsRoot old → boxes_of old.entries ≡ was
    → box_of was id ≡ Some x → new.entries ≡ taken (key_of (record { id = id; extent = x })) old.entries → IsRootOf new (without_box id was)
root-taken old new was id x root view some is =
    let k : Key = key_of (record { id = id; extent = x }) in
    record {
      root =
          record {
            in_order = subst AreInOrder (sym is) (in_order-taken k old.entries root.in_order);
            distinct = subst IsDistinct (sym is) (distinct-taken k old.entries root.distinct);
            small = subst (AllByRecursion (λ f. f.id < 2 ^ 32)) (sym is) (all-taken (λ f. f.id < 2 ^ 32) k old.entries root.small);
          };
      boxes = ap boxes_of is ∙ boxes_of-taken k x old.entries root.distinct (ap (λ m. box_of m id) view ∙ some) refl ∙ ap (without_box id) view;
    }
