-- A test of cells passes at all points just where it passes at all cells, and at some point just where it passes at some cell.
use Rattle.std.proofs.Common.{◌≡◌, refl, ap, sym, ◌∙◌, subst, ℕ, Bool, true, false, List, [], ◌∷◌, map, inl, inr}
use Rattle.std.specs.Prelude.{IsTrue, if◌then◌else◌}
use Rattle.std.specs.List.{AllByRecursion}
use Rattle.std.proofs.lemmas.List.Elements.{All-contains, All-from_recursion, recursion_from_All}
use Rattle.sf_grid.specs.Plane.{IsPoint, Point}
use Rattle.sf_strips.specs.declared.piece.Piece.{Piece}
use Rattle.sf_cells.specs.declared.cell.Cell.{Cell}
use Rattle.sf_cells.specs.Cells.{cell_of, numbers_from}
use Rattle.sf_cells.specs.Pieces.{is_above, is_on}
use Rattle.sf_cells.specs.Samples.{Sample, samples}
use Rattle.sf_slabs.proofs.CallerLemmas.{Some_in, each-map}
use Rattle.sf_plane.proofs.CoverLaws.{every_point}
use Rattle.sf_plane.proofs.SampleCellLaws.{each_sample}
use Rattle.sf_plane.proofs.UnionLaws.{any_some, samples_tell, some_any}
use Rattle.sf_plane.specs.declared.dim.Dim.{Dim}
use Rattle.sf_plane.specs.Dimension.{HasDimension}
use Rattle.sf_plane.specs.Unions.{CellsTellOfTests, IsUnionOfCells, by_cells, dim_of, greater_dim, greatest_dim, greatest_of_cells}
use Rattle.sf_plane.specs.Cover.{IsInCell, PointsPassAsCells, cell_at, dimension_at}

-- a point in a sample's cell has its cell
pub cell-is : (pieces : List Piece) (p : Point) (s : Sample) → IsInCell pieces p s → cell_at pieces p ≡ cell_of pieces s
cell-is pieces p s h =
    let with_dim : ℕ → Cell = λ d. record { dim = d; on = numbers_from 0 (is_on p) pieces; above = numbers_from 0 (is_above p) pieces } in
    let with_on : List ℕ → Cell = λ ns. record { dim = s.dim; on = ns; above = numbers_from 0 (is_above p) pieces } in
    let with_above : List ℕ → Cell = λ ns. record { dim = s.dim; on = numbers_from 0 (is_on s.point) pieces; above = ns } in
    ap with_dim h.dim ∙ ap with_on h.on ∙ ap with_above h.above

each-cells : (P : Cell → Type 0) (pieces : List Piece) (ss : List Sample) → AllByRecursion (λ s. P (cell_of pieces s)) ss → AllByRecursion P (map (cell_of pieces) ss)
each-cells P pieces [] h = tt
each-cells P pieces (s ∷ ss) h = (h.0, each-cells P pieces ss h.1)

cells-each : (P : Cell → Type 0) (pieces : List Piece) (ss : List Sample) → AllByRecursion P (map (cell_of pieces) ss) → AllByRecursion (λ s. P (cell_of pieces s)) ss
cells-each P pieces [] h = tt
cells-each P pieces (s ∷ ss) h = (h.0, cells-each P pieces ss h.1)

some-cells : (P : Cell → Type 0) (pieces : List Piece) (ss : List Sample) → Some_in (λ s. P (cell_of pieces s)) ss → Some_in P (map (cell_of pieces) ss)
some-cells P pieces [] h = h
some-cells P pieces (s ∷ ss) h = elim h [ inl here ↦ inl here | inr later ↦ inr (some-cells P pieces ss later) ]

cells-some : (P : Cell → Type 0) (pieces : List Piece) (ss : List Sample) → Some_in P (map (cell_of pieces) ss) → Some_in (λ s. P (cell_of pieces s)) ss
cells-some P pieces [] h = h
cells-some P pieces (s ∷ ss) h = elim h [ inl here ↦ inl here | inr later ↦ inr (cells-some P pieces ss later) ]

-- some sample and what all have
with_each : {A : Type 0} (P Q : A → Type 0) (xs : List A) → Some_in P xs → AllByRecursion Q xs → Some_in (λ x. P x × Q x) xs
with_each P Q [] h k = h
with_each P Q (x ∷ xs) h k = elim h [ inl here ↦ inl (here, k.0) | inr later ↦ inr (with_each P Q xs later k.1) ]

pub points_pass : PointsPassAsCells
points_pass pieces test =
    record {
      all = (
        λ h.
            All-from_recursion (λ c. IsTrue (test c)) (map (cell_of pieces) (samples pieces))
            (each-cells (λ c. IsTrue (test c)) pieces (samples pieces)
            (each-map (λ s. IsPoint s.point × IsInCell pieces s.point s) (λ s. IsTrue (test (cell_of pieces s))) (samples pieces)
            (λ s k. ap test (sym (cell-is pieces s.point s k.1)) ∙ h s.point k.0)
            (each_sample pieces))),
        λ h p i.
            let has = every_point pieces p i in
            ap test (cell-is pieces p has.sample has.cell)
            ∙ All-contains (λ s. IsTrue (test (cell_of pieces s))) (samples pieces) has.sample
            (All-from_recursion (λ s. IsTrue (test (cell_of pieces s))) (samples pieces)
            (cells-each (λ c. IsTrue (test c)) pieces (samples pieces) (recursion_from_All (λ c. IsTrue (test c)) (map (cell_of pieces) (samples pieces)) h)))
            has.among,
      );
      some = (
        λ h.
            let has = every_point pieces h.0 h.1.0 in
            some_any (λ c. IsTrue (test c)) (map (cell_of pieces) (samples pieces))
            (some-cells (λ c. IsTrue (test c)) pieces (samples pieces)
            (any_some (λ s. IsTrue (test (cell_of pieces s))) (samples pieces)
            (has.among.0, has.sample, has.among.1, has.among.2, ap test (sym (cell-is pieces h.0 has.sample has.cell)) ∙ h.1.1))),
        λ a.
            let some =
            some_any (λ s. IsTrue (test (cell_of pieces s)) × (IsPoint s.point × IsInCell pieces s.point s)) (samples pieces)
            (with_each (λ s. IsTrue (test (cell_of pieces s))) (λ s. IsPoint s.point × IsInCell pieces s.point s) (samples pieces)
            (cells-some (λ c. IsTrue (test c)) pieces (samples pieces) (any_some (λ c. IsTrue (test c)) (map (cell_of pieces) (samples pieces)) a))
            (each_sample pieces)) in
            (some.1.point, (some.4.1.0, ap test (cell-is pieces some.1.point some.1 some.4.1.1) ∙ some.4.0)),
      );
    }

-- ---- tests of cells
greatest-cells : (pieces : List Piece) (test : Cell → Bool) (ss : List Sample) → AllByRecursion (λ s. IsPoint s.point × IsInCell pieces s.point s) ss →
    greatest_dim (λ (s : Sample). s.dim) (λ (s : Sample). by_cells pieces test s.point) ss ≡ greatest_of_cells test (map (cell_of pieces) ss)
greatest-cells pieces test [] h = refl
greatest-cells pieces test (s ∷ ss) h =
    chosen (by_cells pieces test s.point) (test (cell_of pieces s)) (greatest_dim (λ (s : Sample). s.dim) (λ (s : Sample). by_cells pieces test s.point) ss) (greatest_of_cells test (map (cell_of pieces) ss))
    (ap test (cell-is pieces s.point s h.0.1)) (greatest-cells pieces test ss h.1)
  where
    chosen : (b c : Bool) (d e : Dim) → b ≡ c → d ≡ e → (if b then greater_dim (dim_of s.dim) d else d) ≡ (if c then greater_dim (dim_of s.dim) e else e)
    chosen true true d e f g = ap (greater_dim (dim_of s.dim)) g
    chosen false false d e f g = g
    chosen true false d e f g = cc
    chosen false true d e f g = cc

pub cells_tell : CellsTellOfTests
cells_tell pieces test =
    let union : IsUnionOfCells pieces (by_cells pieces test) =
    λ p q i j a.
    let s : Sample = record { point = q; dim = dimension_at pieces q } in
    ap test (cell-is pieces p s (record { on = a.alike.on; above = a.alike.above; dim = a.dim })) in
    record {
      union = union;
      every_point = (points_pass pieces test).all;
      dimension =
          subst (HasDimension (by_cells pieces test)) (greatest-cells pieces test (samples pieces) (each_sample pieces)) (samples_tell pieces (by_cells pieces test) union).dimension;
    }
