use Rattle.std.proofs.Common.{◌≡◌, ◌++◌, codes, decimal, length, map, flat_map, string_bytes, ℕ}
use Rattle.std.specs.Map.Iter.{deref_pair}
use Rattle.sf_features.specs.Features.{FeatureContent}
use Rattle.sf_console.specs.Answers.{line, feature_row}
use Rattle.sf_console.proofs.rows.feature_rows.Given as goal

-- the head, and the rows of the features so far
abbrev pub invariant-loop-id : goal.invariant-loop-id
invariant-loop-id l = string_bytes l.text ≡ line (codes "rows " ++ decimal (length l.layer.features)) ++ flat_map line (map (feature_row l.layer.columns) (map (deref_pair {K = ℕ} {X = FeatureContent}) l.yielded))
