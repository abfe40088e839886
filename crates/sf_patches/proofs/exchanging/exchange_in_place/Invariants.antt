use Rattle.std.proofs.Common.{◌≡◌, ◌≤◌, ◌-◌, ◌+◌, false, if◌then◌else◌}
use Rattle.sf_patches.specs.Patches.{NoneGrows}
use Rattle.sf_patches.proofs.ExchangeLaws.{IsPartly, IsToTakeBack}
use Rattle.sf_patches.proofs.exchanging.exchange_in_place.Given as goal

abbrev pub invariant-loop-has_room : goal.invariant-loop-has_room
invariant-loop-has_room l =
    IsPartly l.fn.store l.fn.slots.items l.done l.store l.slots.items × (l.done ≤ l.count) × (l.has_room ≡ false → IsToTakeBack l.fn.store l.fn.slots.items l.done l.store l.slots.items)
    × (l.has_room ≡ false → NoneGrows l.fn.store l.fn.slots.items → ⊥)

abbrev pub decreases-loop-has_room : goal.decreases-loop-has_room
decreases-loop-has_room l = (l.count - l.done) + (if l.has_room then 1 else 0)

abbrev pub invariant-loop-done : goal.invariant-loop-done
invariant-loop-done l = IsToTakeBack l.fn.store l.fn.slots.items l.done l.store l.slots.items × (l.done ≤ l.count)

abbrev pub decreases-loop-done : goal.decreases-loop-done
decreases-loop-done l = l.done
