use Rattle.std.proofs.Common.{◌≡◌, ◌≤◌, length, take}
use Rattle.sf_features.proofs.columns.Columns.copy.Given as goal

-- the columns before the place are copied
abbrev pub invariant-loop-place : goal.invariant-loop-place
invariant-loop-place l = (l.copy ≡ take l.place l.self) × (l.place ≤ length l.self)
