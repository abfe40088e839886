use Rattle.std.proofs.Common.{◌≡◌, rules, to_z, of_z, w32}
use Rattle.std.specs.Int.{int_max, int_min}
use Rattle.sf_geometry.proofs.extent.Extent.common.Goals as goal

pub returns : goal.returns
returns c =
    let low_x : to_z w32 (of_z w32 c.greater.result) ≡ int_max c.args.self.min_x c.args.other.min_x = search rules in
    let low_y : to_z w32 (of_z w32 c.greater-2.result) ≡ int_max c.args.self.min_y c.args.other.min_y = search rules in
    let high_x : to_z w32 (of_z w32 c.lesser.result) ≡ int_min c.args.self.max_x c.args.other.max_x = search rules in
    let high_y : to_z w32 (of_z w32 c.lesser-2.result) ≡ int_min c.args.self.max_y c.args.other.max_y = search rules in
    λ i. record { min_x = low_x i; min_y = low_y i; max_x = high_x i; max_y = high_y i }
