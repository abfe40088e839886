-- What is handed out for stops that fit the levels of a column is the items of the column's cells.
use Rattle.std.proofs.Common.{◌≡◌, refl, ap, sym, ◌∙◌, subst, ℕ, Bool, true, false, ◌||◌, List, [], ◌∷◌, ◌++◌, map}
use Rattle.sf_strips.specs.declared.piece.Piece.{Piece}
use Rattle.sf_cells.specs.Cells.{numbers_from}
use Rattle.sf_strips.specs.Fronts.{SameNumbers}
use Rattle.sf_cells.specs.Groups.{Item, counts, item_of}
use Rattle.sf_cells.specs.Hands.{AtMost, Balanced, Stop, item, minus, on_gap, on_level, stop_items}
use Rattle.sf_cells.specs.Samples.{dimension}
use Rattle.sf_slabs.proofs.LevelLaws.{Level as PieceLevel, cell_by, level_cells}
use Rattle.sf_slabs.proofs.Shapes.{Fits}
use Rattle.sf_cells.proofs.CallerLemmas.{counts-grown, counts-left, counts-part}

-- ---- the counts on a level and on the gap below it, from the pieces that are there
-- on a level are the pieces on the gap above it and those that enter
on_level-counts : (groups : List ℕ) (s : Stop) (gap on : List ℕ) → SameNumbers (s.enter ++ gap) on →
    on_level groups (counts groups gap) s ≡ counts groups on
on_level-counts groups s gap on h = counts-grown groups s.enter gap on h

-- on the gap below are those of the level that do not leave
on_gap-counts : (groups : List ℕ) (s : Stop) (gap on below : List ℕ) → SameNumbers (s.enter ++ gap) on → SameNumbers (s.leave ++ below) on →
    on_gap groups (counts groups gap) s ≡ counts groups below
on_gap-counts groups s gap on below h k =
    ap (λ ns. minus ns (counts groups s.leave)) (on_level-counts groups s gap on h) ∙ counts-left groups s.leave below on k

-- what leaves a level is on it
leave-part : (groups : List ℕ) (s : Stop) (gap on below : List ℕ) → SameNumbers (s.enter ++ gap) on → SameNumbers (s.leave ++ below) on →
    AtMost (counts groups s.leave) (on_level groups (counts groups gap) s)
leave-part groups s gap on below h k =
    let P : List ℕ → Type 0 = λ ns. AtMost (counts groups s.leave) ns in
    subst P (sym (on_level-counts groups s gap on h)) (counts-part groups s.leave below on k)

-- ---- the items of a gap, of the level below it and of what is below that, from equal counts
items-step : (groups : List ℕ) (event : Bool) (ss : List Stop) (first : Item) (above on on' gap gap' next next' : List ℕ) →
    on ≡ on' → gap ≡ gap' → next ≡ next' →
    (first ∷ item (dimension event true) on above ∷ stop_items groups event gap next ss)
    ≡ (first ∷ item (dimension event true) on' above ∷ stop_items groups event gap' next' ss)
items-step groups event ss first above on on' gap gap' next next' d e f =
    ap (λ ns. first ∷ item (dimension event true) ns above ∷ stop_items groups event gap next ss) d
    ∙ ap (λ ns. first ∷ item (dimension event true) on' above ∷ stop_items groups event ns next ss) e
    ∙ ap (λ ns. first ∷ item (dimension event true) on' above ∷ stop_items groups event gap' ns ss) f

-- the items of stops that fit are those of the cells
pub items-fit : (groups : List ℕ) (pieces : List Piece) (event : Bool) (gap above : Piece → Bool) (ss : List Stop) (ls : List PieceLevel) →
    Fits pieces gap above ss ls →
    stop_items groups event (counts groups (numbers_from 0 gap pieces)) (counts groups (numbers_from 0 above pieces)) ss
    ≡ map (item_of groups) (cell_by (dimension event false) gap above pieces ∷ level_cells event pieces above ls)
items-fit groups pieces event gap above [] [] h = refl
items-fit groups pieces event gap above [] (l ∷ ls) h = absurd h
items-fit groups pieces event gap above (s ∷ ss) [] h = absurd h
items-fit groups pieces event gap above (s ∷ ss) (l ∷ ls) h =
    let next : Piece → Bool = λ p. above p || l.from p in
    let on : List ℕ = numbers_from 0 gap pieces in
    items-step groups event ss (item (dimension event false) (counts groups on) (counts groups (numbers_from 0 above pieces)))
    (counts groups (numbers_from 0 above pieces)) _ _ _ _ _ _
    (on_level-counts groups s on (numbers_from 0 l.on pieces) h.0)
    (on_gap-counts groups s on (numbers_from 0 l.on pieces) (numbers_from 0 l.gap pieces) h.0 h.1.0)
    (counts-grown groups s.onward (numbers_from 0 above pieces) (numbers_from 0 next pieces) h.1.1.0)
    ∙ ap (λ is. item (dimension event false) (counts groups on) (counts groups (numbers_from 0 above pieces))
    ∷ item (dimension event true) (counts groups (numbers_from 0 l.on pieces)) (counts groups (numbers_from 0 above pieces)) ∷ is)
    (items-fit groups pieces event l.gap next ss ls h.1.1.1)

-- at stops that fit, what leaves is there, and in the end nothing is left
pub balanced-fit : (groups : List ℕ) (pieces : List Piece) (gap above : Piece → Bool) (ss : List Stop) (ls : List PieceLevel) →
    Fits pieces gap above ss ls → Balanced groups (counts groups (numbers_from 0 gap pieces)) ss
balanced-fit groups pieces gap above [] [] h = ap (counts groups) h
balanced-fit groups pieces gap above [] (l ∷ ls) h = absurd h
balanced-fit groups pieces gap above (s ∷ ss) [] h = absurd h
balanced-fit groups pieces gap above (s ∷ ss) (l ∷ ls) h =
    let on : List ℕ = numbers_from 0 gap pieces in
    let P : List ℕ → Type 0 = λ ns. Balanced groups ns ss in (
      leave-part groups s on (numbers_from 0 l.on pieces) (numbers_from 0 l.gap pieces) h.0 h.1.0,
      subst P (sym (on_gap-counts groups s on (numbers_from 0 l.on pieces) (numbers_from 0 l.gap pieces) h.0 h.1.0))
          (balanced-fit groups pieces l.gap (λ p. above p || l.from p) ss ls h.1.1.1),
    )
