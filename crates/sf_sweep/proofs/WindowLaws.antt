-- What is handed out where a column is swept over window by window represents its cells and those of the slab right of it.
use Rattle.std.proofs.Common.{◌≡◌, refl, ap, sym, ◌∙◌, subst, ℕ, ◌≤◌, arith, Bool, true, List, [], ◌∷◌, ◌++◌, inl, inr}
use Rattle.std.specs.Prelude.{map, sum_by}
use Rattle.std.proofs.lemmas.List.{append-nil}
use Rattle.sf_cells.specs.Groups.{Item, counts}
use Rattle.sf_cells.specs.Hands.{Stop, item, on_gap, on_level, plus, stop_items}
use Rattle.sf_cells.proofs.TallyLaws.{added_taken, counts-grown}
use Rattle.sf_classes.specs.Classes.{HasItemFor, HaveItemsFor, Represent, StandsFor, odds}
use Rattle.sf_sweep.specs.Windows.{AreHanded, IsPartHanded, IsPassed, Part, above_below, all_coming, all_going, all_stops, bundle_items, bundle_stop, column_items, on_below, part_items, past, slab_items}
use Rattle.sf_classes.proofs.ClassLaws.{items-before, items-behind, items-both, items-through, items-through_one, represents-itself}
use Rattle.sf_sweep.proofs.OddsLaws.{odds-plus}

-- ---- items of one class
same-class : (areal : List Bool) (d e : ℕ) (on on' above above' : List ℕ) → on ≡ on' → odds areal above ≡ odds areal above' → d ≤ e →
    StandsFor areal (item d on above) (item e on' above')
same-class areal d e on on' above above' h k l = record { class = record { on = h; odd = k }; dim = l }

-- one item is there, so another for which it stands is
for-other : (areal : List Bool) (items : List Item) (d e : ℕ) (on on' above above' : List ℕ) → on ≡ on' → odds areal above ≡ odds areal above' → d ≤ e →
    HasItemFor areal items (item e on' above') → HasItemFor areal items (item d on above)
for-other areal items d e on on' above above' h k l has =
    items-through_one areal items (item d on above) (item e on' above') (same-class areal d e on on' above above' h k l) has

have-parts : (areal : List Bool) (items is js : List Item) → HaveItemsFor areal items (is ++ js) → HaveItemsFor areal items is × HaveItemsFor areal items js
have-parts areal items [] js h = (tt, h)
have-parts areal items (i ∷ is) js h = let r = have-parts areal items is js h.1 in ((h.0, r.0), r.1)

-- ---- bundles
pub append-items : (groups above : List ℕ) (bs cs : List (List ℕ)) → bundle_items groups above (bs ++ cs) ≡ bundle_items groups above bs ++ bundle_items groups (past groups above bs) cs
append-items groups above [] cs = refl
append-items groups above (b ∷ bs) cs =
    ap (λ is. item 1 (counts groups b) above ∷ item 2 (counts groups []) (plus above (counts groups b)) ∷ is) (append-items groups (plus above (counts groups b)) bs cs)

last-gap : (areal : List Bool) (items : List Item) (groups above : List ℕ) (bs : List (List ℕ)) → HasItemFor areal items (item 2 (counts groups []) above) →
    HaveItemsFor areal items (bundle_items groups above bs) → HasItemFor areal items (item 2 (counts groups []) (past groups above bs))
last-gap areal items groups above [] g h = g
last-gap areal items groups above (b ∷ bs) g h = last-gap areal items groups (plus above (counts groups b)) bs h.1.0 h.1.1

-- the same bundles below other counts of the same parities
pub bundles-alike : (areal : List Bool) (items : List Item) (groups above before : List ℕ) (bs : List (List ℕ)) → odds areal above ≡ odds areal before →
    HaveItemsFor areal items (bundle_items groups before bs) → HaveItemsFor areal items (bundle_items groups above bs)
bundles-alike areal items groups above before [] e h = tt
bundles-alike areal items groups above before (b ∷ bs) e h = (
  for-other areal items 1 1 (counts groups b) (counts groups b) above before refl e (omega arith) h.0,
  (
    for-other areal items 2 2 (counts groups []) (counts groups []) (plus above (counts groups b)) (plus before (counts groups b)) refl
        (odds-plus areal above before (counts groups b) e) (omega arith) h.1.0,
    bundles-alike areal items groups (plus above (counts groups b)) (plus before (counts groups b)) bs (odds-plus areal above before (counts groups b) e) h.1.1,
  ),
)

-- the same levels below other counts of the same parities
pub stops-alike : (areal : List Bool) (items : List Item) (groups on above before : List ℕ) (ss : List Stop) → odds areal above ≡ odds areal before →
    HaveItemsFor areal items (stop_items groups true on before ss) → HaveItemsFor areal items (stop_items groups true on above ss)
stops-alike areal items groups on above before [] e h = (for-other areal items 1 1 on on above before refl e (omega arith) h.0, tt)
stops-alike areal items groups on above before (s ∷ ss) e h = (
  for-other areal items 1 1 on on above before refl e (omega arith) h.0,
  (
    for-other areal items 0 0 (on_level groups on s) (on_level groups on s) above before refl e (omega arith) h.1.0,
    stops-alike areal items groups (on_gap groups on s) (plus above (counts groups s.onward)) (plus before (counts groups s.onward)) ss
        (odds-plus areal above before (counts groups s.onward) e) h.1.1,
  ),
)

-- ---- bundles that pass a column have their points where the slab right of it has them
pub none-enters : (groups b : List ℕ) → plus (counts groups []) (counts groups b) ≡ counts groups b
none-enters groups b = counts-grown groups b [] b (λ w. sum_none w b)
  where
    sum_none : (w : ℕ → ℕ) (b : List ℕ) → sum_by w (b ++ []) ≡ sum_by w b
    sum_none w b = ap (sum_by w) (append-nil b)

passed-points : (areal : List Bool) (items : List Item) (groups above : List ℕ) (bs : List (List ℕ)) → HasItemFor areal items (item 2 (counts groups []) above) →
    HaveItemsFor areal items (bundle_items groups above bs) → HaveItemsFor areal items (stop_items groups true (counts groups []) above (map bundle_stop bs))
passed-points areal items groups above [] g h = (for-other areal items 1 2 (counts groups []) (counts groups []) above above refl refl (omega arith) g, tt)
passed-points areal items groups above (b ∷ bs) g h =
    let off : on_gap groups (counts groups []) (bundle_stop b) ≡ counts groups [] = added_taken groups (counts groups []) b in (
      for-other areal items 1 2 (counts groups []) (counts groups []) above above refl refl (omega arith) g,
      (
        for-other areal items 0 1 (plus (counts groups []) (counts groups b)) (counts groups b) above above (none-enters groups b) refl (omega arith) h.0,
        subst (λ ns. HaveItemsFor areal items (stop_items groups true ns (plus above (counts groups b)) (map bundle_stop bs))) (sym off)
            (passed-points areal items groups (plus above (counts groups b)) bs h.1.0 h.1.1),
      ),
    )

-- ---- levels, and further ones below them
stops-join : (areal : List Bool) (items : List Item) (groups on above : List ℕ) (ss ts : List Stop) → HaveItemsFor areal items (stop_items groups true on above ss) →
    HaveItemsFor areal items (stop_items groups true (on_below groups on ss) (above_below groups above ss) ts) → HaveItemsFor areal items (stop_items groups true on above (ss ++ ts))
stops-join areal items groups on above [] ts h k = k
stops-join areal items groups on above (s ∷ ss) ts h k = (
  h.0,
  (h.1.0, stops-join areal items groups (on_gap groups on s) (plus above (counts groups s.onward)) ss ts h.1.1 k),
)

-- the first gap of levels
first-of : (areal : List Bool) (items : List Item) (groups on above : List ℕ) (ss : List Stop) → HaveItemsFor areal items (stop_items groups true on above ss) →
    HasItemFor areal items (item 1 on above)
first-of areal items groups on above [] h = h.0
first-of areal items groups on above (s ∷ ss) h = h.0

stops-parts : (areal : List Bool) (items : List Item) (groups on above : List ℕ) (ss ts : List Stop) → HaveItemsFor areal items (stop_items groups true on above (ss ++ ts)) →
    HaveItemsFor areal items (stop_items groups true on above ss) × HaveItemsFor areal items (stop_items groups true (on_below groups on ss) (above_below groups above ss) ts)
stops-parts areal items groups on above [] ts h = ((first-of areal items groups on above ts h, tt), h)
stops-parts areal items groups on above (s ∷ ss) ts h =
    let r = stops-parts areal items groups (on_gap groups on s) (plus above (counts groups s.onward)) ss ts h.1.1 in
    ((h.0, (h.1.0, r.0)), r.1)

-- ---- all cells have items
pub record AreRepresented (areal : List Bool) (groups : List ℕ) (items : List Item) (above : List ℕ) (ps : List Part) : Type 0 where
  pub column : HaveItemsFor areal items (stop_items groups true (counts groups []) above (all_stops ps))
  pub slab : HaveItemsFor areal items (bundle_items groups above (all_going ps))

-- one part: its own cells
pub record IsRepresented (areal : List Bool) (groups : List ℕ) (items : List Item) (above : List ℕ) (p : Part) : Type 0 where
  pub column : HaveItemsFor areal items (stop_items groups true (counts groups []) above p.stops)
  pub slab : HaveItemsFor areal items (bundle_items groups above p.going)

passed-part : (areal : List Bool) (groups : List ℕ) (items : List Item) (above : List ℕ) (p : Part) → IsPassed p → HasItemFor areal items (item 2 (counts groups []) above) →
    HaveItemsFor areal items (bundle_items groups above p.going) → IsRepresented areal groups items above p
passed-part areal groups items above p h gap slab =
    record {
      column = subst (λ ss. HaveItemsFor areal items (stop_items groups true (counts groups []) above ss)) (sym (h.stops ∙ ap (map bundle_stop) (sym h.going)))
          (passed-points areal items groups above p.going gap slab);
      slab = slab;
    }

part-represented : (areal : List Bool) (groups : List ℕ) (items more : List Item) (before above : List ℕ) (p : Part) → IsPartHanded areal groups before above p more →
    HaveItemsFor areal items more → HasItemFor areal items (item 2 (counts groups []) above) → HaveItemsFor areal items (bundle_items groups before p.coming) →
    IsRepresented areal groups items above p
part-represented areal groups items more before above p (inl kept) has gap old =
    passed-part areal groups items above p kept.0 gap
    (bundles-alike areal items groups above before p.going kept.1 (subst (λ bs. HaveItemsFor areal items (bundle_items groups before bs)) (sym kept.0.going) old))
part-represented areal groups items more before above p (inr (inl repaired)) has gap old =
    passed-part areal groups items above p repaired.0 gap (items-through areal items more (bundle_items groups above p.going) has repaired.1.of_items)
part-represented areal groups items more before above p (inr (inr cut)) has gap old =
    let all : HaveItemsFor areal items (part_items groups above p) = items-through areal items more (part_items groups above p) has cut.of_items in
    let r = have-parts areal items (stop_items groups true (counts groups []) above p.stops) _ all in
    record { column = r.0; slab = r.1.1 }

pub all-represented : (areal : List Bool) (groups : List ℕ) (items more : List Item) (before above : List ℕ) (ps : List Part) → AreHanded areal groups before above ps more →
    HaveItemsFor areal items more → HasItemFor areal items (item 2 (counts groups []) above) → HaveItemsFor areal items (bundle_items groups before (all_coming ps)) →
    AreRepresented areal groups items above ps
all-represented areal groups items more before above [] h has gap old =
    record { column = (for-other areal items 1 2 (counts groups []) (counts groups []) above above refl refl (omega arith) gap, tt); slab = tt }
all-represented areal groups items more before above (p ∷ ps) h has gap old =
    let b = h.1 in
    let mine = have-parts areal items b.first b.later (subst (HaveItemsFor areal items) b.all has) in
    let olds = have-parts areal items (bundle_items groups before p.coming) _ (subst (HaveItemsFor areal items) (append-items groups before p.coming (all_coming ps)) old) in
    let here = part-represented areal groups items b.first before above p b.here mine.0 gap olds.0 in
    let next = last-gap areal items groups above p.going gap here.slab in
    let rest = all-represented areal groups items b.later (past groups before p.coming) (past groups above p.going) ps b.then mine.1 next olds.1 in
    record {
      column = stops-join areal items groups (counts groups []) above p.stops (all_stops ps) here.column
          (subst (λ ns. HaveItemsFor areal items (stop_items groups true ns (above_below groups above p.stops) (all_stops ps))) (sym h.0.on)
          (subst (λ ns. HaveItemsFor areal items (stop_items groups true (counts groups []) ns (all_stops ps))) (sym (h.0.above above)) rest.column));
      slab = subst (HaveItemsFor areal items) (sym (append-items groups above p.going (all_going ps)))
          (items-both areal items (bundle_items groups above p.going) (bundle_items groups (past groups above p.going) (all_going ps)) here.slab rest.slab);
    }

-- ---- each item has a cell
-- cells of the parts from one down, the gap above them in the slab among them
abbrev cells_of : List ℕ → List ℕ → List Part → List Item
cells_of groups above ps =
    stop_items groups true (counts groups []) above (all_stops ps) ++ (item 2 (counts groups []) above ∷ bundle_items groups above (all_going ps))

-- where some cells have all those of a part, they have all that was handed out for it
part-real : (areal : List Bool) (groups : List ℕ) (cells more : List Item) (before above : List ℕ) (p : Part) → IsPartHanded areal groups before above p more →
    HaveItemsFor areal cells (part_items groups above p) → HaveItemsFor areal cells more
part-real areal groups cells more before above p (inl kept) h = subst (HaveItemsFor areal cells) (sym kept.2) tt
part-real areal groups cells more before above p (inr (inl repaired)) h =
    let r = have-parts areal cells (stop_items groups true (counts groups []) above p.stops) _ h in
    items-through areal cells (bundle_items groups above p.going) more r.1.1 repaired.1.of_cells
part-real areal groups cells more before above p (inr (inr cut)) h = items-through areal cells (part_items groups above p) more h cut.of_cells

pub all-real : (areal : List Bool) (groups : List ℕ) (cells more : List Item) (before above : List ℕ) (ps : List Part) → AreHanded areal groups before above ps more →
    HaveItemsFor areal cells (cells_of groups above ps) → HaveItemsFor areal cells more
all-real areal groups cells more before above [] h has = subst (HaveItemsFor areal cells) (sym h) tt
all-real areal groups cells more before above (p ∷ ps) h has =
    let b = h.1 in
    let sides = have-parts areal cells (stop_items groups true (counts groups []) above (p.stops ++ all_stops ps)) _ has in
    let levels = stops-parts areal cells groups (counts groups []) above p.stops (all_stops ps) sides.0 in
    let bundles = have-parts areal cells (bundle_items groups above p.going) _ (subst (HaveItemsFor areal cells) (append-items groups above p.going (all_going ps)) sides.1.1) in
    let below : HaveItemsFor areal cells (stop_items groups true (counts groups []) (past groups above p.going) (all_stops ps)) =
    subst (λ ns. HaveItemsFor areal cells (stop_items groups true (counts groups []) ns (all_stops ps))) (h.0.above above)
    (subst (λ ns. HaveItemsFor areal cells (stop_items groups true ns (above_below groups above p.stops) (all_stops ps))) h.0.on levels.1) in
    subst (HaveItemsFor areal cells) (sym b.all) (items-both areal cells b.first b.later
    (part-real areal groups cells b.first before above p b.here
    (items-both areal cells (stop_items groups true (counts groups []) above p.stops) (item 2 (counts groups []) above ∷ bundle_items groups above p.going) levels.0 (sides.1.0, bundles.0)))
    (all-real areal groups cells b.later (past groups before p.coming) (past groups above p.going) ps b.then
    (items-both areal cells (stop_items groups true (counts groups []) (past groups above p.going) (all_stops ps)) (item 2 (counts groups []) (past groups above p.going) ∷ bundle_items groups (past groups above p.going) (all_going ps))
    below (last-gap areal cells groups above p.going sides.1.0 bundles.0, bundles.1))))

-- ---- one column further
-- what represents the cells so far, the slab last, represents with what was handed out in a column those of the column and of its slab too
pub column_further : (areal : List Bool) (groups : List ℕ) (ps : List Part) (items more done : List Item) → Represent areal items done →
    HaveItemsFor areal done (slab_items groups (all_coming ps)) → AreHanded areal groups (counts groups []) (counts groups []) ps more →
    Represent areal (items ++ more) (done ++ (column_items groups ps ++ slab_items groups (all_going ps)))
column_further areal groups ps items more done h last handed =
    let old : HaveItemsFor areal (items ++ more) (slab_items groups (all_coming ps)) =
    items-before areal items more (slab_items groups (all_coming ps)) (items-through areal items done (slab_items groups (all_coming ps)) h.of_items last) in
    let cells : List Item = column_items groups ps ++ slab_items groups (all_going ps) in
    let themselves = represents-itself areal cells in
    let new = all-represented areal groups (items ++ more) more (counts groups []) (counts groups []) ps handed
    (items-behind areal items more more (represents-itself areal more).of_items) old.0 old.1 in
    record {
      of_cells = items-both areal (done ++ cells) items more (items-before areal done cells items h.of_cells)
          (items-behind areal done cells more (all-real areal groups cells more (counts groups []) (counts groups []) ps handed themselves.of_items));
      of_items = items-both areal (items ++ more) done cells (items-before areal items more done h.of_items)
          (items-both areal (items ++ more) (column_items groups ps) (slab_items groups (all_going ps)) new.column (old.0, new.slab));
    }

-- ---- what was handed out with parities in the place of counts
-- a part's items below counts of the same parities represent its items
pub represent-alike : (areal : List Bool) (groups above above' : List ℕ) (p : Part) → odds areal above' ≡ odds areal above → Represent areal (part_items groups above' p) (part_items groups above p)
represent-alike areal groups above above' p e =
    record { of_cells = alike above above' e; of_items = alike above' above (sym e) }
  where
    alike : (above above' : List ℕ) → odds areal above' ≡ odds areal above → HaveItemsFor areal (part_items groups above p) (part_items groups above' p)
    alike above above' e =
        let all = (represents-itself areal (part_items groups above p)).of_items in
        let r = have-parts areal (part_items groups above p) (stop_items groups true (counts groups []) above p.stops) _ all in
        items-both areal (part_items groups above p) (stop_items groups true (counts groups []) above' p.stops) (item 2 (counts groups []) above' ∷ bundle_items groups above' p.going)
        (stops-alike areal (part_items groups above p) groups (counts groups []) above' above p.stops e r.0) (
          for-other areal (part_items groups above p) 2 2 (counts groups []) (counts groups []) above' above refl e (omega arith) r.1.0,
          bundles-alike areal (part_items groups above p) groups above' above p.going e r.1.1,
        )
