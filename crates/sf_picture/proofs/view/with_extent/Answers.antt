use Rattle.std.proofs.Common.{◌≡◌, ◌∙◌, ap, rules, sym, to_z, of_z, w32}
use Rattle.std.specs.Int.{int_max, int_min}
use Rattle.sf_picture.specs.Views.{united}
use Rattle.sf_picture.proofs.view.with_extent.Goals as goal

pub returns-in-Some : goal.returns-in-Some
returns-in-Some c =
    let low_x : to_z w32 (of_z w32 c.lesser.result) ≡ int_min c.in-Some.extent.min_x c.args.other.min_x = search rules in
    let low_y : to_z w32 (of_z w32 c.lesser-in-Some.result) ≡ int_min c.in-Some.extent.min_y c.args.other.min_y = search rules in
    let high_x : to_z w32 (of_z w32 c.greater.result) ≡ int_max c.in-Some.extent.max_x c.args.other.max_x = search rules in
    let high_y : to_z w32 (of_z w32 c.greater-in-Some.result) ≡ int_max c.in-Some.extent.max_y c.args.other.max_y = search rules in
    (λ i. record { min_x = low_x i; min_y = low_y i; max_x = high_x i; max_y = high_y i })
    ∙ sym (ap (λ extent. united extent c.args.other) c.in-Some.is)
