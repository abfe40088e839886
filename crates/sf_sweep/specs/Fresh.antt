-- Internal: who wants to trust the program need not read this file.
-- A sweep that has done nothing yet: no edge, and room for all.
use Rattle.std.specs.Prelude.{◌≡◌, ℕ, ◌+◌, ◌≤◌, [], length, replicate, vec_capacity}
use Rattle.sf_strips.specs.declared.contact.Contact.TheVariants.{Never}
use Rattle.sf_sweep.specs.declared.class_sweep.ClassSweep.{ClassSweep}
use Rattle.sf_sweep.specs.Cuts.{HasBenchRoom}

-- with a place for each of so many pieces, and room for so many vertices and groups
pub record IsFresh {Row : Type 0} (pieces vertices groups : ℕ) (q : ClassSweep Row) : Type 0 where
  pub no_edge : q.front.order.items ≡ []
  pub no_meeting : q.front.meetings ≡ replicate pieces Never
  pub odd : length q.odd ≡ pieces
  pub room : pieces ≤ vec_capacity q.front.order
  pub tail_room : pieces ≤ vec_capacity q.front.tail
  pub bench_room : HasBenchRoom (pieces + vertices) pieces q.bench
  pub none_on : q.tallies.on.items ≡ replicate groups 0
  pub none_above : q.tallies.above.items ≡ replicate groups 0
