use Rattle.std.proofs.Common.{sym, subst, ◌<◌, ◌^◌, length}
use Rattle.std.specs.List.{AllByRecursion}
use Rattle.sf_geometry.specs.Size.{IsSized}
use Rattle.sf_wkb.proofs.Appending.{AreFew, few_rings, few_lines, few_polygons}
use Rattle.sf_wkb.proofs.writing.push_geometry.Goals as goal

pub push_rings-requires-clause-count : goal.push_rings-requires-clause-count
push_rings-requires-clause-count c =
    let few = few_rings c.in-Polygon.rings (subst IsSized c.in-Polygon.is c.requires.sized) in
    subst (λ xs. length xs < 2 ^ 32) (sym c.as_slice-in-Polygon.ensures) few.0

pub push_rings-requires-clause-counts : goal.push_rings-requires-clause-counts
push_rings-requires-clause-counts c =
    let few = few_rings c.in-Polygon.rings (subst IsSized c.in-Polygon.is c.requires.sized) in
    subst (λ xs. AllByRecursion (λ list. length list < 2 ^ 32) xs) (sym c.as_slice-in-Polygon.ensures) few.1

pub push_lines-requires-clause-count : goal.push_lines-requires-clause-count
push_lines-requires-clause-count c =
    let few = few_lines c.in-MultiLineString.lines (subst IsSized c.in-MultiLineString.is c.requires.sized) in
    subst (λ xs. length xs < 2 ^ 32) (sym c.as_slice-in-MultiLineString.ensures) few.0

pub push_lines-requires-clause-counts : goal.push_lines-requires-clause-counts
push_lines-requires-clause-counts c =
    let few = few_lines c.in-MultiLineString.lines (subst IsSized c.in-MultiLineString.is c.requires.sized) in
    subst (λ xs. AllByRecursion (λ list. length list < 2 ^ 32) xs) (sym c.as_slice-in-MultiLineString.ensures) few.1

pub push_polygons-requires-clause-count : goal.push_polygons-requires-clause-count
push_polygons-requires-clause-count c =
    let few = few_polygons c.in-MultiPolygon.polygons (subst IsSized c.in-MultiPolygon.is c.requires.sized) in
    subst (λ xs. length xs < 2 ^ 32) (sym c.as_slice-in-MultiPolygon.ensures) few.0

pub push_polygons-requires-clause-counts : goal.push_polygons-requires-clause-counts
push_polygons-requires-clause-counts c =
    let few = few_polygons c.in-MultiPolygon.polygons (subst IsSized c.in-MultiPolygon.is c.requires.sized) in
    subst (λ xs. AllByRecursion AreFew xs) (sym c.as_slice-in-MultiPolygon.ensures) few.1
