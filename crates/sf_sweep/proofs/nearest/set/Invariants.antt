use Rattle.std.proofs.Common.{◌≡◌, ℕ, ◌*◌, ◌/◌, ◌≤◌, ◌<◌, length}
use Rattle.std.specs.Prelude.{slice_set}
use Rattle.sf_sweep.specs.Nearest.{place_at}
use Rattle.sf_sweep.proofs.TreeLaws.{IsTreeBut}
use Rattle.sf_sweep.proofs.nearest.set.Given as goal

-- all places above the leaves have the earlier of those below them, but for the one right above this place
abbrev pub invariant-loop-place : goal.invariant-loop-place
invariant-loop-place l =
    record {
      some : 1 ≤ l.place;
      within : l.place < 2 * l.count;
      len : length l.tree ≡ 2 * l.count;
      tree : IsTreeBut l.count (l.place / 2) l.tree;
      leaves : (k : ℕ) → l.count ≤ k → place_at l.tree k ≡ place_at (slice_set l.fn.tree l.fn.leaf l.fn.point) k;
    }

abbrev pub decreases-loop-place : goal.decreases-loop-place
decreases-loop-place l = l.place
