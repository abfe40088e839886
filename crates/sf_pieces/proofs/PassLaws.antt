-- Items that represent the cells of grouped pieces pass a test just where some point of the plane does.
use Rattle.std.proofs.Common.{◌≡◌, refl, ap, sym, ◌∙◌, Bool, ◌||◌, List, [], ◌∷◌, map, IsTrue}
use Rattle.std.specs.List.{list_any}
use Rattle.std.proofs.lemmas.List.Folds.{Any-from_list_any, list_any-from_Any}
use Rattle.sf_grid.specs.Plane.{IsPoint, Point}
use Rattle.sf_cells.specs.declared.cell.Cell.{Cell}
use Rattle.sf_cells.specs.Cells.{cells}
use Rattle.sf_cells.specs.Groups.{item_of}
use Rattle.sf_plane.proofs.PassLaws.{points_pass}
use Rattle.sf_classes.proofs.ClassLaws.{represent-answers}
use Rattle.sf_pieces.specs.Marked.{ItemsPassAsPoints, groups_of, item_at, items_of, pieces_of}

any-map : {X Y : Type 0} (f : X → Y) (test : Y → Bool) (xs : List X) → list_any test (map f xs) ≡ list_any (λ x. test (f x)) xs
any-map f test [] = refl
any-map f test (x ∷ xs) = ap (λ b. test (f x) || b) (any-map f test xs)

pub items-pass : ItemsPassAsPoints
items-pass areal ms items test represent upward = (there, back)
  where
    among : Cell → Bool
    among c = test (item_of (groups_of ms) c)

    same : list_any test items ≡ list_any among (cells (pieces_of ms))
    same = (represent-answers areal items (items_of ms) represent).some test upward ∙ any-map (item_of (groups_of ms)) test (cells (pieces_of ms))

    there : IsTrue (list_any test items) → (p : Point) × (IsPoint p × IsTrue (test (item_at ms p)))
    there h = ((points_pass (pieces_of ms) among).some).1 (Any-from_list_any among (cells (pieces_of ms)) (sym same ∙ h))

    back : ((p : Point) × (IsPoint p × IsTrue (test (item_at ms p)))) → IsTrue (list_any test items)
    back found = same ∙ list_any-from_Any among (cells (pieces_of ms)) (((points_pass (pieces_of ms) among).some).0 found)
