-- All exchanges that lead from a content to what a scratch content has, in one list.
use Rattle.std.proofs.Common.{List, ◌++◌}
use Rattle.sf_layers.specs.Content.{Content}
use Rattle.sf_patches.specs.declared.slot.Slot.{Slot}
use Rattle.sf_together.specs.declared.removals.Key.{Key}
use Rattle.sf_together.specs.Exchanges.{puts, removals_of}

abbrev pub slots_between : Content → Content → List Key → List Slot
slots_between whole after keys = puts whole after ++ removals_of whole after keys
