-- Within a column, at a point: edges above it pass, where nothing comes before it; and those that reach a window are cut with its vertices.
use Rattle.std.proofs.Common.{◌≡◌, sym, ◌<◌, Bool, true, false, List, [], ◌∷◌, ◌++◌, None, Some, length, ◌⊎◌}
use Rattle.std.specs.List.{AllByRecursion}
use Rattle.sf_grid.specs.Fraction.{IsFraction, fraction_lt}
use Rattle.sf_grid.specs.Plane.{IsPoint, Point, grid_point, x_of, y_of}
use Rattle.sf_grid.proofs.CallerLemmas.{Same}
use Rattle.sf_strips.specs.declared.active.Active.{Active}
use Rattle.sf_strips.specs.declared.contact.Contact.{Contact}
use Rattle.sf_strips.specs.declared.level.Level.{Level}
use Rattle.sf_strips.specs.declared.vertex.Vertex.{Vertex}
use Rattle.sf_cells.specs.Groups.{Item}
use Rattle.sf_slabs.proofs.CrossLaws.{place-IsFraction}
use Rattle.sf_sweep.specs.Cuts.{IsCutInto}
use Rattle.sf_sweep.specs.Passing.{ArePassing, IsLastApart, contact_at}
use Rattle.sf_sweep.specs.Sides.{is_below_edge, is_not_above}
use Rattle.sf_sweep.specs.Tables.{IsNotBefore, contacts_of}
use Rattle.sf_sweep.proofs.BalanceLaws.{IsClosedCut, window-balanced}
use Rattle.sf_sweep.proofs.CalmLaws.{IsCalm, StopsBefore, calm-of, last-apart, last-apart_everywhere, passing-above}
use Rattle.sf_sweep.proofs.JoinLaws.{IsApartFrom, IsWindow}
use Rattle.sf_sweep.proofs.RepairLaws.{each-parts}
use Rattle.sf_sweep.proofs.SameColumnLaws.{passing-same, steps-same}
use Rattle.sf_sweep.proofs.SideLaws.{all-above, all-over, below-of_height, not-above-of_height}
use Rattle.sf_sweep.proofs.UprightLaws.{HasNoTop}
use Rattle.sf_sweep.proofs.WithinLaws.{Column, IsGiven, IsWithin}

-- ---- edges above a point of the column
pub record DoPass (k : Column) (table : List Contact) (es : List Active) : Type 0 where
  pub passing : ArePassing (Some k.x) table es
  pub last : IsLastApart (Some k.x) table es

pub above-pass : (k : Column) (gone done es fs : List Active) (ws : List Vertex) (table : List Contact) (odd : List (List Bool)) (more : List Item) (p : Point) → IsGiven k →
    IsWithin k gone done (es ++ fs) ws table odd more → IsPoint p → Same (x_of p) k.x → AllByRecursion (λ a. IsNotBefore p (contact_at table a)) es →
    AllByRecursion (λ a. is_below_edge p a ≡ true) es → StopsBefore (is_below_edge p) fs → DoPass k table es
above-pass k gone done es fs ws table odd more p g h i s near below stops =
    let number : IsFraction (x_of p) = place-IsFraction p i in
    let calm = (each-parts (IsCalm table) es fs (calm-of k.before table (es ++ fs) h.coming.contacts h.coming.alone)).0 in
    record {
      passing = passing-same (x_of p) k.x table es number g.coming.place s (passing-above p table es i calm near below);
      last = last-apart (x_of p) (Some k.x) (is_below_edge p) table es fs (below-of_height p i)
          (steps-same k.x (x_of p) (Some k.x) (es ++ fs) (contacts_of table (es ++ fs)) g.coming.place number (sym s) h.coming.steps) h.coming.alone below stops;
    }

-- ---- a window
pub record IsReadyWindow (k : Column) (table : List Contact) (es fs : List Active) (us ws : List Vertex) : Type 0 where
  pub window : IsWindow (Some k.x) table es fs us ws
  pub apart : IsLastApart None table es
  pub closed : (going : List Active) (levels : List Level) → IsCutInto k.x es (contacts_of table es) us going levels → IsClosedCut k.groups es us going levels

pub each-first : (P : Vertex → Type 0) (us ws : List Vertex) → AllByRecursion P (us ++ ws) → AllByRecursion P us
each-first P [] ws h = tt
each-first P (u ∷ us) ws h = (h.0, each-first P us ws h.1)

pub window-ready : (k : Column) (gone done es fs : List Active) (us ws : List Vertex) (table : List Contact) (odd : List (List Bool)) (more : List Item) (p : Point) → IsGiven k →
    IsWithin k gone done (es ++ fs) (us ++ ws) table odd more → IsPoint p → Same (x_of p) k.x →
    AllByRecursion (λ a. is_not_above p a ≡ true) es → StopsBefore (is_not_above p) fs →
    AllByRecursion (λ v. Same (x_of p) (x_of (grid_point v.at)) × (fraction_lt (y_of (grid_point v.at)) (y_of p) ≡ true)) ws →
    AllByRecursion (λ u. Same (x_of p) (x_of (grid_point u.at)) × (fraction_lt (y_of (grid_point u.at)) (y_of p) ≡ false)) us →
    IsApartFrom ws us → HasNoTop us ⊎ (ws ≡ []) → IsReadyWindow k table es fs us ws
window-ready k gone done es fs us ws table odd more p g h i s reached stops below above apart upright =
    let number : IsFraction (x_of p) = place-IsFraction p i in
    let last : IsLastApart (Some k.x) table es =
    last-apart (x_of p) (Some k.x) (is_not_above p) table es fs (not-above-of_height p i)
    (steps-same k.x (x_of p) (Some k.x) (es ++ fs) (contacts_of table (es ++ fs)) g.coming.place number (sym s) h.coming.steps) h.coming.alone reached stops in
    let window : IsWindow (Some k.x) table es fs us ws =
    record { last = last; over = all-over p ws es i below reached; below = all-above p us fs i above stops; apart = apart } in
    record {
      window = window;
      apart = last-apart_everywhere k.x table es last;
      closed = λ going levels cut.
          window-balanced k.pieces k.areal k.groups k.x k.came k.contacts k.vertices table es fs us ws done more g.coming g.column h.swept window
          (each-first (λ v. v.piece < length k.groups) us ws h.vertices) upright going levels cut;
    }
