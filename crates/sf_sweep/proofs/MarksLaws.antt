-- Marks of groups, of which a row has those that are given and further ones; and groups that fit into a row.
use Rattle.std.proofs.Common.{◌≡◌, refl, ap, sym, ◌∙◌, subst, ℕ, ◌+◌, ◌≤◌, ◌<◌, arith, zero, suc, Bool, ◌&&◌, List, [], ◌∷◌, ◌++◌, length, take, inl, inr}
use Rattle.std.specs.Prelude.{map, max}
use Rattle.std.specs.List.{All, AllByRecursion}
use Rattle.std.proofs.lemmas.List.Elements.{All-from_recursion}
use Rattle.sf_grid.specs.EvenOdd.{is_odd}
use Rattle.sf_strips.specs.declared.piece.Piece.{Piece}
use Rattle.sf_cells.specs.Cells.{cells}
use Rattle.sf_cells.specs.declared.cell.Cell.{Cell}
use Rattle.sf_cells.specs.Groups.{Item, group_count, item_of}
use Rattle.sf_cells.proofs.TallyLaws.{length-counts}
use Rattle.sf_classes.specs.Classes.{HasItemFor, HaveItemsFor, StandsFor, WereHanded, odds}

-- ---- the first marks
odds-first : (areal more : List Bool) (ns : List ℕ) → odds areal ns ≡ take (length areal) (odds (areal ++ more) ns)
odds-first [] more ns = refl
odds-first (a ∷ areal) more [] = refl
odds-first (a ∷ areal) more (n ∷ ns) = ap (λ zs. (a && is_odd n) ∷ zs) (odds-first areal more ns)

-- what stands for an item by all marks stands for it by the first ones
stands-first : (areal more : List Bool) (i j : Item) → StandsFor (areal ++ more) i j → StandsFor areal i j
stands-first areal more i j h =
    record {
      class = record { on = h.class.on; odd = odds-first areal more i.above ∙ ap (take (length areal)) h.class.odd ∙ sym (odds-first areal more j.above) };
      dim = h.dim;
    }

item-first : (areal more : List Bool) (js : List Item) (i : Item) → HasItemFor (areal ++ more) js i → HasItemFor areal js i
item-first areal more [] i h = h
item-first areal more (j ∷ js) i h = elim h [ inl here ↦ inl (stands-first areal more i j here) | inr later ↦ inr (item-first areal more js i later) ]

items-first : (areal more : List Bool) (js is : List Item) → HaveItemsFor (areal ++ more) js is → HaveItemsFor areal js is
items-first areal more js [] h = tt
items-first areal more js (i ∷ is) h = (item-first areal more js i h.0, items-first areal more js is h.1)

handed-first : {Content : Type 0} (pieces : List Piece) (groups : List ℕ) (areal more : List Bool) (after : Content → Item → Content) (old new : Content) →
    WereHanded pieces groups (areal ++ more) after old new → WereHanded pieces groups areal after old new
handed-first pieces groups areal more after old new h =
    record {
      items = h.items;
      represent = record { of_cells = items-first areal more _ _ h.represent.of_cells; of_items = items-first areal more _ _ h.represent.of_items };
      handed = h.handed;
    }

-- ---- marks of groups that aren't there
-- what is asked of the first k groups tells what is asked of all, where fewer are counted
odds-all : (k : ℕ) (areal : List Bool) (ms ns : List ℕ) → length ns < k → odds (take k areal) ms ≡ odds (take k areal) ns → odds areal ms ≡ odds areal ns
odds-all zero areal ms ns h e = absurd (omega (arith, h))
odds-all (suc k) [] ms ns h e = refl
odds-all (suc k) (a ∷ areal) [] [] h e = refl
odds-all (suc k) (a ∷ areal) [] (n ∷ ns) h e = cc
odds-all (suc k) (a ∷ areal) (m ∷ ms) [] h e = cc
odds-all (suc k) (a ∷ areal) (m ∷ ms) (n ∷ ns) h e =
    let head : (a && is_odd m) ≡ (a && is_odd n) = cc in
    let tail : odds (take k areal) ms ≡ odds (take k areal) ns = cc in
    let rest : odds areal ms ≡ odds areal ns = odds-all k areal ms ns (omega (arith, h)) tail in
    cc

stands-all : (k : ℕ) (areal : List Bool) (i j : Item) → length j.above < k → StandsFor (take k areal) i j → StandsFor areal i j
stands-all k areal i j h s = record { class = record { on = s.class.on; odd = odds-all k areal i.above j.above h s.class.odd }; dim = s.dim }

stands-all-back : (k : ℕ) (areal : List Bool) (i j : Item) → length i.above < k → StandsFor (take k areal) i j → StandsFor areal i j
stands-all-back k areal i j h s =
    record { class = record { on = s.class.on; odd = sym (odds-all k areal j.above i.above h (sym s.class.odd)) }; dim = s.dim }

-- of items one of these counts has fewer groups
abbrev AreShort : ℕ → List Item → Type 0
AreShort k js = AllByRecursion (λ (j : Item). length j.above < k) js

item-all : (k : ℕ) (areal : List Bool) (js : List Item) (i : Item) → AreShort k js → HasItemFor (take k areal) js i → HasItemFor areal js i
item-all k areal [] i short h = h
item-all k areal (j ∷ js) i short h =
    elim h [ inl here ↦ inl (stands-all k areal i j short.0 here) | inr later ↦ inr (item-all k areal js i short.1 later) ]

items-all : (k : ℕ) (areal : List Bool) (js is : List Item) → AreShort k js → HaveItemsFor (take k areal) js is → HaveItemsFor areal js is
items-all k areal js [] short h = tt
items-all k areal js (i ∷ is) short h = (item-all k areal js i short h.0, items-all k areal js is short h.1)

item-all-back : (k : ℕ) (areal : List Bool) (js : List Item) (i : Item) → length i.above < k → HasItemFor (take k areal) js i → HasItemFor areal js i
item-all-back k areal [] i short h = h
item-all-back k areal (j ∷ js) i short h =
    elim h [ inl here ↦ inl (stands-all-back k areal i j short here) | inr later ↦ inr (item-all-back k areal js i short later) ]

items-all-back : (k : ℕ) (areal : List Bool) (js is : List Item) → AreShort k is → HaveItemsFor (take k areal) js is → HaveItemsFor areal js is
items-all-back k areal js [] short h = tt
items-all-back k areal js (i ∷ is) short h = (item-all-back k areal js i short.0 h.0, items-all-back k areal js is short.1 h.1)

cells-short : (k : ℕ) (groups : List ℕ) (cs : List Cell) → group_count groups < k → AreShort k (map (item_of groups) cs)
cells-short k groups [] h = tt
cells-short k groups (c ∷ cs) h = (subst (λ n. n < k) (sym (length-counts groups c.above)) h, cells-short k groups cs h)

handed-all : {Content : Type 0} (k : ℕ) (pieces : List Piece) (groups : List ℕ) (areal : List Bool) (after : Content → Item → Content) (old new : Content) →
    group_count groups < k → WereHanded pieces groups (take k areal) after old new → WereHanded pieces groups areal after old new
handed-all k pieces groups areal after old new few h =
    let short : AreShort k (map (item_of groups) (cells pieces)) = cells-short k groups (cells pieces) few in
    record {
      items = h.items;
      represent = record { of_cells = items-all k areal _ _ short h.represent.of_cells; of_items = items-all-back k areal _ _ short h.represent.of_items };
      handed = h.handed;
    }

-- a row has the first k marks, and further ones
pub handed-row : {Content : Type 0} (k : ℕ) (pieces : List Piece) (groups : List ℕ) (areal more row : List Bool) (after : Content → Item → Content) (old new : Content) →
    group_count groups < k → row ≡ take k areal ++ more → WereHanded pieces groups row after old new → WereHanded pieces groups areal after old new
handed-row k pieces groups areal more row after old new few e h =
    handed-all k pieces groups areal after old new few (handed-first pieces groups (take k areal) more after old new (subst (λ bs. WereHanded pieces groups bs after old new) e h))

-- ---- groups
pub groups-few : (n : ℕ) (groups : List ℕ) → group_count groups ≤ n → All (λ g. g < n) groups
groups-few n groups h = All-from_recursion (λ g. g < n) groups (each groups h)
  where
    first : (g m : ℕ) → max (g + 1) m ≤ n → g < n
    first g m h = omega arith

    rest : (g m : ℕ) → max (g + 1) m ≤ n → m ≤ n
    rest g m h = omega arith

    each : (gs : List ℕ) → group_count gs ≤ n → AllByRecursion (λ g. g < n) gs
    each [] h = tt
    each (g ∷ gs) h = (first g (group_count gs) h, each gs (rest g (group_count gs) h))
