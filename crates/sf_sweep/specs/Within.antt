-- Internal: who wants to trust the program need not read this file.
-- A column that is swept over: what holds of the edges above a place, which were dealt with, and of those below it, which are as they came.
use Rattle.std.specs.Prelude.{◌≡◌, ◌≢◌, ℕ, ◌+◌, ◌≤◌, ◌<◌, ℤ, ◌≤ℤ◌, Bool, true, false, List, [], ◌∷◌, ◌++◌, Option, None, Some, length, sum_by, ◌⊎◌}
use Rattle.std.specs.List.{AllByRecursion, fold}
use Rattle.std.specs.Ordering.{int_eq}
use Rattle.std.specs.declared.cmp.Ordering.TheVariants.{Greater}
use Rattle.sf_grid.specs.Fraction.{Fraction, fraction_lt}
use Rattle.sf_grid.specs.Plane.{IsPoint, grid_point, x_of, y_of}
use Rattle.sf_grid.proofs.CallerLemmas.{Same}
use Rattle.sf_strips.specs.declared.active.Active.{Active}
use Rattle.sf_strips.specs.declared.contact.Contact.{Contact}
use Rattle.sf_strips.specs.declared.contact.Contact.TheVariants.{Ahead, Never, Throughout}
use Rattle.sf_strips.specs.declared.level.Level.{Level}
use Rattle.sf_strips.specs.declared.piece.Piece.{Piece}
use Rattle.sf_strips.specs.declared.vertex.Vertex.{Vertex}
use Rattle.sf_strips.specs.Fronts.{AreApart, AreContacts, pieces_of, touches}
use Rattle.sf_strips.specs.Parts.{is_over}
use Rattle.sf_strips.specs.Slanted.{slope_order}
use Rattle.sf_strips.specs.Vertices.{begins, enters, in_column, leaves, pieces_with}
use Rattle.sf_strips.proofs.CutLaws.{CutOff}
use Rattle.sf_cells.specs.Groups.{Item, counts}
use Rattle.sf_cells.specs.Hands.{stops}
use Rattle.sf_slabs.specs.Sweeps.{IsColumnOf, IsComing, StepsAt}
use Rattle.sf_sweep.specs.declared.window.Window.{Window}
use Rattle.sf_sweep.specs.Parities.{AreParities}
use Rattle.sf_sweep.specs.Passing.{contact_at}
use Rattle.sf_sweep.specs.Settled.{AreMet}
use Rattle.sf_sweep.specs.Sides.{is_below_edge, is_not_above}
use Rattle.sf_sweep.specs.Tables.{IsNeverElsewhere, IsNotBefore, bundles_of, contacts_of}
use Rattle.sf_sweep.specs.Windows.{AreHanded, Part, all_coming, all_going, all_stops}

-- the pieces of bundles
abbrev pub all_pieces : List (List ℕ) → List ℕ
all_pieces [] = []
all_pieces (b ∷ bs) = b ++ all_pieces bs

-- no upright edge begins at the vertices
abbrev pub HasNoTop : List Vertex → Type 0
HasNoTop us = AllByRecursion (λ u. enters u.role ≡ true → leaves u.role ≡ true) us

-- none of the upper vertices is at the height of the first of the lower ones
abbrev pub IsApartFrom : List Vertex → List Vertex → Type 0
IsApartFrom [] us = Unit {0}
IsApartFrom (v ∷ vs) us = AllByRecursion (λ u. int_eq v.at.y u.at.y ≡ false) us

-- the vertices of a column fall, from a height down
abbrev pub FallFrom : ℤ → List Vertex → Type 0
FallFrom y [] = Unit {0}
FallFrom y (v ∷ vs) = (v.at.y ≤ℤ y) × FallFrom v.at.y vs

-- from the first one on
abbrev pub Fall : List Vertex → Type 0
Fall [] = Unit {0}
Fall (v ∷ vs) = FallFrom v.at.y vs

-- the last edge of an order meets no next one
abbrev pub IsLastAlone : List Contact → List Active → Type 0
IsLastAlone table [] = Unit {0}
IsLastAlone table (a ∷ []) = contact_at table a ≡ Never
IsLastAlone table (a ∷ b ∷ es) = IsLastAlone table (b ∷ es)

-- the first edge below doesn't pass the test
abbrev pub StopsBefore : (Active → Bool) → List Active → Type 0
StopsBefore t [] = Unit {0}
StopsBefore t (f ∷ fs) = t f ≡ false

-- neighbours on one line have one slope
abbrev pub AreOneSloped : List Contact → List Active → Type 0
AreOneSloped table [] = Unit {0}
AreOneSloped table (a ∷ []) = Unit {0}
AreOneSloped table (a ∷ b ∷ es) =
    (touches None (contact_at table a) ≡ true → slope_order b.edge.left b.edge.right a.edge.left a.edge.right ≢ Greater) × AreOneSloped table (b ∷ es)

-- of each edge its piece's weight
abbrev pub weigh : (ℕ → ℕ) → List Active → ℕ
weigh w es = sum_by w (pieces_of es)

-- of each vertex at which an edge begins its piece's weight
abbrev pub weigh_begun : (ℕ → ℕ) → List Vertex → ℕ
weigh_begun w vs = sum_by w (pieces_with begins vs)

-- of the edges `came` and the vertices vs of a column those above `rest` and `vs'` were dealt with: `done` goes on from them, in these bundles, and `more` was handed out
pub record Swept (areal : List Bool) (groups : List ℕ) (column : Option Fraction) (came rest : List Active) (cs cs' : List Contact) (vs vs' : List Vertex) (done : List Active) (bundles : List (List ℕ)) (more : List Item) : Type 0 where
  pub levels : List Level
  pub parts : List Part
  pub cut : CutOff column came rest cs cs' vs vs' done levels
  pub stops : (os : List Active) (ls : List Level) → stops came vs (done ++ os) (levels ++ ls) ≡ all_stops parts ++ stops rest vs' os ls
  pub coming : all_coming parts ++ bundles_of cs' rest ≡ bundles_of cs came
  pub going : all_pieces (all_going parts) ≡ pieces_of done
  pub bundled : all_going parts ≡ bundles
  pub handed : AreHanded areal groups (counts groups []) (counts groups []) parts more

-- where it is a meeting ahead, that isn't left of the column x
abbrev pub IsNotLeft : Fraction → Contact → Type 0
IsNotLeft x Never = Unit {0}
IsNotLeft x (Ahead q) = fraction_lt (x_of q) x ≡ false
IsNotLeft x Throughout = Unit {0}

-- ---- edges as they came to the column x from the one before it
pub record AreComing (before x : Fraction) (table : List Contact) (es : List Active) : Type 0 where
  pub contacts : AreContacts before es (contacts_of table es)
  pub alone : IsLastAlone table es
  pub sloped : AreOneSloped table es
  pub steps : StepsAt x (Some x) es (contacts_of table es)
  pub apart : AreApart x es (contacts_of table es)
  pub ahead : AllByRecursion (λ a. IsNotLeft x (contact_at table a)) es

-- ---- a column
pub record Column : Type 0 where
  pub pieces : List Piece
  pub groups : List ℕ
  pub areal : List Bool
  pub before : Fraction
  pub x : Fraction
  pub came : List Active
  pub contacts : List Contact
  pub vertices : List Vertex

-- what comes to it and lies in it
pub record IsGiven (k : Column) : Type 0 where
  pub coming : IsComing k.pieces k.x (Some k.x) k.came k.contacts
  pub column : IsColumnOf k.pieces k.x k.vertices
  pub grouped : length k.groups ≡ length k.pieces

-- the edges `gone` and the vertices above `ws` were dealt with, and `done` goes on from them; `rest` is left
pub record IsWithin (k : Column) (gone done rest : List Active) (ws : List Vertex) (table : List Contact) (odd : List (List Bool)) (more : List Item) : Type 0 where
  pub split : k.came ≡ gone ++ rest
  pub swept : Swept k.areal k.groups (Some k.x) k.came rest k.contacts (contacts_of table rest) k.vertices ws done (bundles_of (contacts_of table done) done) more
  pub right : AreParities k.areal k.groups odd (counts k.groups []) done
  pub old : AreParities k.areal k.groups odd (counts k.groups (pieces_of gone)) rest
  pub met : AreMet k.x table done rest
  pub coming : AreComing k.before k.x table rest
  pub never : IsNeverElsewhere table (done ++ rest)
  pub light : (w : ℕ → ℕ) → weigh w (done ++ rest) + weigh_begun w ws ≤ weigh w k.came + weigh_begun w k.vertices
  pub edges : AllByRecursion (λ a. a.piece < length k.groups) (done ++ rest)
  pub vertices : AllByRecursion (λ v. v.piece < length k.groups) ws

-- the window is the next one of the column x: nothing comes before its highest point, its vertices aren't below its lowest one, and those left are
pub record IsNextAt (x : Fraction) (table : List Contact) (rest : List Active) (here later : List Vertex) (w : Window) : Type 0 where
  pub top : IsPoint w.top
  pub top_here : Same (x_of w.top) x
  pub bottom : IsPoint w.bottom
  pub bottom_here : Same (x_of w.bottom) x
  pub near : AllByRecursion (λ a. IsNotBefore w.top (contact_at table a)) rest
  pub over : (a : Active) → is_below_edge w.top a ≡ true → is_over (here ++ later) a ≡ true
  pub below : AllByRecursion (λ v. Same (x_of w.bottom) (x_of (grid_point v.at)) × (fraction_lt (y_of (grid_point v.at)) (y_of w.bottom) ≡ true)) later
  pub above : AllByRecursion (λ u. Same (x_of w.bottom) (x_of (grid_point u.at)) × (fraction_lt (y_of (grid_point u.at)) (y_of w.bottom) ≡ false)) here
  pub apart : IsApartFrom later here
  pub upright : HasNoTop here ⊎ (later ≡ [])

-- the edges above its highest point, those that it reaches, and those below
pub record AreReached (w : Window) (es fs gs : List Active) : Type 0 where
  pub above : AllByRecursion (λ a. is_below_edge w.top a ≡ true) es
  pub not_above : StopsBefore (is_below_edge w.top) (fs ++ gs)
  pub reached : AllByRecursion (λ a. is_not_above w.bottom a ≡ true) fs
  pub not_reached : StopsBefore (is_not_above w.bottom) gs

-- ---- at a place of an order
-- a column by its place and the groups, and what is known of it beside
abbrev pub column_at : Fraction → List ℕ → List Bool → List Piece → Fraction → List Active → List Contact → List Vertex → Column
column_at x groups areal pieces before came contacts vertices =
    record { pieces = pieces; groups = groups; areal = areal; before = before; x = x; came = came; contacts = contacts; vertices = vertices }

-- the edges above a place of an order were dealt with, and a window with the vertices `here` is the next one
pub record IsAtWindow (x : Fraction) (groups : List ℕ) (areal : List Bool) (order : List Active) (table : List Contact) (odd : List (List Bool)) (from : ℕ) (here : List Vertex) (w : Window) : Type 0 where
  pub pieces : List Piece
  pub before : Fraction
  pub came : List Active
  pub contacts : List Contact
  pub vertices : List Vertex
  pub gone : List Active
  pub done : List Active
  pub rest : List Active
  pub later : List Vertex
  pub more : List Item
  pub given : IsGiven (column_at x groups areal pieces before came contacts vertices)
  pub within : IsWithin (column_at x groups areal pieces before came contacts vertices) gone done rest (here ++ later) table odd more
  pub next : IsNextAt x table rest here later w
  pub whole : order ≡ done ++ rest
  pub place : from ≡ length done

-- the window was dealt with, and the edges above the place behind it
pub record IsBehindWindow {Content : Type 0} {x : Fraction} {groups : List ℕ} {areal : List Bool} {order : List Active} {table : List Contact} {odd : List (List Bool)} {from : ℕ} {here : List Vertex} {w : Window}
    (s : IsAtWindow x groups areal order table odd from here w) (order' : List Active) (table' : List Contact) (odd' : List (List Bool)) (to : ℕ) (after : Content → Item → Content) (old new : Content) : Type 0 where
  pub gone' : List Active
  pub done' : List Active
  pub reached : List Active
  pub rest' : List Active
  pub then : List Item
  pub handed : new ≡ fold after old then
  pub within : IsWithin (column_at x groups areal s.pieces s.before s.came s.contacts s.vertices) gone' done' rest' s.later table' odd' (s.more ++ then)
  pub left : s.rest ≡ reached ++ rest'
  pub not_reached : StopsBefore (is_not_above w.bottom) rest'
  pub whole : order' ≡ done' ++ rest'
  pub place : to ≡ length done'

-- ---- down to the end of a column
-- the edges above a place of an order were dealt with, and these vertices of the column are left
pub record IsAt (x : Fraction) (groups : List ℕ) (areal : List Bool) (order : List Active) (table : List Contact) (odd : List (List Bool)) (from : ℕ) (left : List Vertex) : Type 0 where
  pub pieces : List Piece
  pub before : Fraction
  pub came : List Active
  pub contacts : List Contact
  pub vertices : List Vertex
  pub gone : List Active
  pub done : List Active
  pub rest : List Active
  pub more : List Item
  pub given : IsGiven (column_at x groups areal pieces before came contacts vertices)
  pub within : IsWithin (column_at x groups areal pieces before came contacts vertices) gone done rest left table odd more
  pub here : AllByRecursion (λ v. in_column x v ≡ true) left
  pub falling : Fall left
  pub whole : order ≡ done ++ rest
  pub place : from ≡ length done

-- edges further, down to another place, were dealt with, and these vertices are left then
pub record IsSince {Content : Type 0} {x : Fraction} {groups : List ℕ} {areal : List Bool} {order : List Active} {table : List Contact} {odd : List (List Bool)} {from : ℕ} {left : List Vertex}
    (s : IsAt x groups areal order table odd from left) (order' : List Active) (table' : List Contact) (odd' : List (List Bool)) (to : ℕ) (left' : List Vertex) (after : Content → Item → Content) (old new : Content) : Type 0 where
  pub gone' : List Active
  pub done' : List Active
  pub rest' : List Active
  pub then : List Item
  pub handed : new ≡ fold after old then
  pub within : IsWithin (column_at x groups areal s.pieces s.before s.came s.contacts s.vertices) gone' done' rest' left' table' odd' (s.more ++ then)
  pub here : AllByRecursion (λ v. in_column x v ≡ true) left'
  pub falling : Fall left'
  pub whole : order' ≡ done' ++ rest'
  pub place : to ≡ length done'

-- all edges and vertices that were left were dealt with: what the order has then goes on from the column
pub record IsBehindColumn {Content : Type 0} {x : Fraction} {groups : List ℕ} {areal : List Bool} {order : List Active} {table : List Contact} {odd : List (List Bool)} {from : ℕ} {left : List Vertex}
    (s : IsAt x groups areal order table odd from left) (order' : List Active) (table' : List Contact) (odd' : List (List Bool)) (after : Content → Item → Content) (old new : Content) : Type 0 where
  pub then : List Item
  pub handed : new ≡ fold after old then
  pub within : IsWithin (column_at x groups areal s.pieces s.before s.came s.contacts s.vertices) s.came order' [] [] table' odd' (s.more ++ then)
