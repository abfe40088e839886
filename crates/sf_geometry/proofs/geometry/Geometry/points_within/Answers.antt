use Rattle.std.proofs.Common.{◌≡◌, ap, sym, ◌∙◌, ◌+◌, ◌-◌, ◌^◌, ℕ, arith, rules, length, min}
use Rattle.std.specs.List.{fold}
use Rattle.sf_geometry.specs.Parts.{joined}
use Rattle.sf_geometry.specs.Size.{point_count}
use Rattle.sf_geometry.proofs.ListLaws.{count-joined_twice}
use Rattle.sf_geometry.proofs.geometry.Geometry.points_within.Goals as goal

pub returns-in-MultiPolygon : goal.returns-in-MultiPolygon
returns-in-MultiPolygon c =
    let folded : c.fold.result ≡ fold (λ (n : ℕ) rings. min (n + min (length (joined rings)) (2 ^ 64 - 1)) (2 ^ 64 - 1)) 0 c.in-MultiPolygon.polygons = search rules in
    folded
    ∙ count-joined_twice (2 ^ 64 - 1) 0 c.in-MultiPolygon.polygons (omega arith)
    ∙ omega arith
    ∙ ap (λ geometry. min (point_count geometry) (2 ^ 64 - 1)) (sym c.in-MultiPolygon.is)
