-- Internal: who wants to trust the program need not read this file.
-- The front of a sweep: the edges that go on to the right of a column, from the top, and what each does with the next one.
use Rattle.std.specs.Prelude.{◌≡◌, ◌≢◌, ℕ, Bool, true, false, List, [], ◌∷◌, map, Option, Some, None, ◌⊎◌}
use Rattle.std.specs.List.{sum_by}
use Rattle.std.specs.declared.cmp.Ordering.TheVariants.{Equal, Greater, Less}
use Rattle.sf_grid.specs.Fraction.{Fraction, fraction_eq}
use Rattle.sf_grid.specs.Plane.{x_of}
use Rattle.sf_grid.specs.Edge.{Edge as Line, edge_between, height_cmp, is_vertical, left_end, right_end}
use Rattle.sf_strips.specs.declared.piece.Piece.{Piece}
use Rattle.sf_strips.specs.declared.piece.Piece.TheVariants.{Dot, Edge}
use Rattle.sf_strips.specs.declared.active.Active.{Active}
use Rattle.sf_strips.specs.declared.contact.Contact.{Contact}
use Rattle.sf_strips.specs.declared.contact.Contact.TheVariants.{Ahead, Never, Throughout}
use Rattle.sf_strips.specs.Slanted.{IsMeetingAfter, IsOneLine, ShareNoneAfter, slope_order}
use Rattle.sf_strips.specs.Vertices.{piece_at}

-- the numbers of the edges' pieces
abbrev pub pieces_of : List Active → List ℕ
pieces_of es = map (λ e. e.piece) es

-- the same numbers, each as often, in whatever order
abbrev pub SameNumbers : List ℕ → List ℕ → Type 0
SameNumbers ms ns = (weight : ℕ → ℕ) → sum_by weight ms ≡ sum_by weight ns

-- it is the piece's edge, from its left end to its right end
pub record IsRun (e : Line) (a : Active) : Type 0 where
  pub slants : is_vertical e ≡ false
  pub left : a.edge.left ≡ left_end e
  pub right : a.edge.right ≡ right_end e

abbrev pub IsEntryIn : Option Piece → Active → Type 0
IsEntryIn None a = ⊥
IsEntryIn (Some (Edge p q)) a = IsRun (edge_between p q) a
IsEntryIn (Some (Dot p)) a = ⊥

-- it is the edge of the piece with its number
abbrev pub IsEntry : List Piece → Active → Type 0
IsEntry pieces a = IsEntryIn (piece_at pieces a.piece) a

-- an edge of the order, as an edge
abbrev pub line_of : Active → Line
line_of a = edge_between a.edge.left a.edge.right

-- what two edges do with one another to the right of the column x
abbrev pub IsContact : Line → Line → Fraction → Contact → Type 0
IsContact e f x Never = ShareNoneAfter e f x
IsContact e f x (Ahead p) = IsMeetingAfter e f x p
IsContact e f x Throughout = IsOneLine e f

-- each edge and the next one, beginning with a
abbrev pub AreContactsFrom : Fraction → Active → List Active → List Contact → Type 0
AreContactsFrom x a [] cs = cs ≡ []
AreContactsFrom x a (b ∷ bs) [] = ⊥
AreContactsFrom x a (b ∷ bs) (c ∷ cs) = IsContact (line_of a) (line_of b) x c × AreContactsFrom x b bs cs

-- the contacts of each edge with the next one: one less than there are edges
abbrev pub AreContacts : Fraction → List Active → List Contact → Type 0
AreContacts x [] cs = cs ≡ []
AreContacts x (a ∷ rest) cs = AreContactsFrom x a rest cs

-- right of the column x, b is below a or level with it
abbrev pub Descends : Fraction → Active → Active → Type 0
Descends x a b =
    (height_cmp (line_of b) (line_of a) x ≡ Less)
    ⊎ ((height_cmp (line_of b) (line_of a) x ≡ Equal)
    × (slope_order b.edge.left b.edge.right a.edge.left a.edge.right ≢ Greater))

abbrev pub DescendFrom : Fraction → Active → List Active → Type 0
DescendFrom x a [] = Unit {0}
DescendFrom x a (b ∷ bs) = Descends x a b × DescendFrom x b bs

-- right of the column x, each edge is below the one before it or level with it
abbrev pub Descend : Fraction → List Active → Type 0
Descend x [] = Unit {0}
Descend x (a ∷ rest) = DescendFrom x a rest

-- two neighbours are level: everywhere, or in the given column
abbrev pub touches : Option Fraction → Contact → Bool
touches column Throughout = true
touches column Never = false
touches None (Ahead p) = false
touches (Some x) (Ahead p) = fraction_eq (x_of p) x

-- those of neighbours that aren't level in the column x hold right of it
abbrev pub AreApartFrom : Fraction → Active → List Active → List Contact → Type 0
AreApartFrom x a [] cs = cs ≡ []
AreApartFrom x a (b ∷ bs) [] = ⊥
AreApartFrom x a (b ∷ bs) (c ∷ cs) =
    (touches (Some x) c ≡ false → IsContact (line_of a) (line_of b) x c) × AreApartFrom x b bs cs

abbrev pub AreApart : Fraction → List Active → List Contact → Type 0
AreApart x [] cs = cs ≡ []
AreApart x (a ∷ rest) cs = AreApartFrom x a rest cs
