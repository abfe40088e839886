-- Internal: who wants to trust the program need not read this file.
-- What is handed out for a column: at each level the pieces that are on it, and below it the edges that are above from there on.
use Rattle.std.specs.Prelude.{◌≡◌, ℕ, ◌+◌, ◌-◌, ◌≤◌, Bool, true, false, List, [], ◌∷◌, ◌++◌, take, drop}
use Rattle.sf_strips.specs.declared.active.Active.{Active}
use Rattle.sf_strips.specs.declared.level.Level.{Level}
use Rattle.sf_strips.specs.declared.vertex.Vertex.{Vertex}
use Rattle.sf_strips.specs.Fronts.{pieces_of}
use Rattle.sf_cells.specs.Groups.{Item, counts}
use Rattle.sf_cells.specs.Samples.{dimension}
use Rattle.sf_strips.specs.Vertices.{enters, leaves, pieces_with}

-- a level: the pieces on it but not on the gap above, those on it but not on the gap below, and the edges that go on from it
pub record Stop : Type 0 where
  pub enter : List ℕ
  pub leave : List ℕ
  pub onward : List ℕ

abbrev pub stop_of : Level → List Active → List Vertex → List Active → Stop
stop_of l es vs os =
    record {
      enter = pieces_of (take l.edges es) ++ pieces_with enters (take l.vertices vs);
      leave = pieces_of (take l.edges es) ++ pieces_with leaves (take l.vertices vs);
      onward = pieces_of (take l.onward os);
    }

-- the levels of edges, vertices and edges to the right, one after another
abbrev pub stops : List Active → List Vertex → List Active → List Level → List Stop
stops es vs os [] = []
stops es vs os (l ∷ ls) = stop_of l es vs os ∷ stops (drop l.edges es) (drop l.vertices vs) (drop l.onward os) ls

-- number by number
abbrev pub plus : List ℕ → List ℕ → List ℕ
plus [] ns = []
plus (m ∷ ms) [] = m ∷ ms
plus (m ∷ ms) (n ∷ ns) = (m + n) ∷ plus ms ns

abbrev pub minus : List ℕ → List ℕ → List ℕ
minus [] ns = []
minus (m ∷ ms) [] = m ∷ ms
minus (m ∷ ms) (n ∷ ns) = (m - n) ∷ minus ms ns

abbrev pub AtMost : List ℕ → List ℕ → Type 0
AtMost [] ns = Unit {0}
AtMost (m ∷ ms) [] = ⊥
AtMost (m ∷ ms) (n ∷ ns) = (m ≤ n) × AtMost ms ns

abbrev pub item : ℕ → List ℕ → List ℕ → Item
item dim on above = record { dim = dim; on = on; above = above }

-- the counts on a level, from those on the gap above it; and on the gap below it
abbrev pub on_level : List ℕ → List ℕ → Stop → List ℕ
on_level groups on s = plus on (counts groups s.enter)

abbrev pub on_gap : List ℕ → List ℕ → Stop → List ℕ
on_gap groups on s = minus (on_level groups on s) (counts groups s.leave)

-- the items from a gap down, where the counts on the gap and above it are given
abbrev pub stop_items : List ℕ → Bool → List ℕ → List ℕ → List Stop → List Item
stop_items groups event on above [] = item (dimension event false) on above ∷ []
stop_items groups event on above (s ∷ ss) =
    item (dimension event false) on above
    ∷ item (dimension event true) (on_level groups on s) above
    ∷ stop_items groups event (on_gap groups on s) (plus above (counts groups s.onward)) ss

-- what leaves is there, and in the end nothing is left
abbrev pub Balanced : List ℕ → List ℕ → List Stop → Type 0
Balanced groups on [] = on ≡ counts groups []
Balanced groups on (s ∷ ss) =
    AtMost (counts groups s.leave) (on_level groups on s) × Balanced groups (on_gap groups on s) ss
