-- Internal: who wants to trust the program need not read this file.
-- A window of a column: how it is cut into levels, and what is handed out for it.
use Rattle.std.specs.Prelude.{◌≡◌, ℕ, ◌≤◌, List, [], ◌∷◌, ◌++◌, Some, length, true, vec_capacity}
use Rattle.std.specs.List.{fold}
use Rattle.sf_grid.specs.Fraction.{Fraction}
use Rattle.sf_strips.specs.declared.active.Active.{Active}
use Rattle.sf_strips.specs.declared.contact.Contact.{Contact}
use Rattle.sf_strips.specs.declared.level.Level.{Level}
use Rattle.sf_strips.specs.declared.vertex.Vertex.{Vertex}
use Rattle.sf_strips.specs.Levels.{AreOnward, AreTops, TakeAll}
use Rattle.sf_strips.specs.Rooms.{HasRoom}
use Rattle.sf_cells.specs.Groups.{Item, counts}
use Rattle.sf_cells.specs.Hands.{Balanced, item, stop_items, stops}
use Rattle.sf_sweep.specs.declared.cutting.Bench.{Bench}
use Rattle.sf_sweep.specs.Tables.{bundles_of}
use Rattle.sf_sweep.specs.Windows.{bundle_items}

-- the edges that come to the column x, with their contacts, and the vertices in it are cut into levels, from which the edges `going` go on
pub record IsCutInto (x : Fraction) (came : List Active) (contacts : List Contact) (here : List Vertex) (going : List Active) (levels : List Level) : Type 0 where
  pub tops : AreTops (Some x) came contacts here levels
  pub onward : AreOnward came here going levels
  pub all : TakeAll (length came) (length here) (length going) levels

-- however they are cut, what leaves a level is on it, and in the end nothing is left
abbrev pub IsBalancedWindow : List ℕ → Fraction → List Active → List Contact → List Vertex → Type 0
IsBalancedWindow groups x came contacts here =
    (going : List Active) (levels : List Level) → IsCutInto x came contacts here going levels → Balanced groups (counts groups []) (stops came here going levels)

-- the items of the levels of a column
abbrev pub level_items : List ℕ → List ℕ → List Active → List Vertex → List Active → List Level → List Item
level_items groups above came here going levels = stop_items groups true (counts groups []) above (stops came here going levels)

-- the items of the slab right of it: the gap at its top, and each bundle with the gap below it
abbrev pub going_items : List ℕ → List ℕ → List Contact → List Active → List Item
going_items groups above contacts going = item 2 (counts groups []) above ∷ bundle_items groups above (bundles_of contacts going)

-- the items of the levels were handed out, so many edges of each group being above
pub record WereLevelsHanded {Content : Type 0} (x : Fraction) (groups above : List ℕ) (came : List Active) (contacts : List Contact) (here : List Vertex) (going : List Active)
    (after : Content → Item → Content) (old new : Content) : Type 0 where
  pub levels : List Level
  pub cut : IsCutInto x came contacts here going levels
  pub handed : new ≡ fold after old (level_items groups above came here going levels)

-- and those of the slab right of it, what goes on having these contacts
pub record WasWindowHanded {Content : Type 0} (x : Fraction) (groups above : List ℕ) (came : List Active) (contacts : List Contact) (here : List Vertex) (going : List Active) (contacts' : List Contact)
    (after : Content → Item → Content) (old new : Content) : Type 0 where
  pub levels : List Level
  pub cut : IsCutInto x came contacts here going levels
  pub handed : new ≡ fold after old (level_items groups above came here going levels ++ going_items groups above contacts' going)

-- there is room for so many levels, and for so many edges that go on
pub record HasBenchRoom (levels edges : ℕ) (b : Bench) : Type 0 where
  pub cut : HasRoom levels edges b.cut
  pub order : edges ≤ vec_capacity b.order
  pub contacts : edges ≤ vec_capacity b.contacts

-- no room is given back
abbrev pub KeepsBenchRoom : Bench → Bench → Type 0
KeepsBenchRoom old new = (levels edges : ℕ) → HasBenchRoom levels edges old → HasBenchRoom levels edges new
