-- A window of a column that was swept over down to it: however it is cut, what leaves its levels is on them, and no upright edge is open below it.
use Rattle.std.proofs.Common.{◌≡◌, refl, ap, sym, ◌∙◌, subst, ℕ, ◌<◌, Bool, List, [], ◌∷◌, ◌++◌, None, Some, length, ◌⊎◌, inl, inr}
use Rattle.std.specs.List.{AllByRecursion}
use Rattle.sf_grid.specs.Fraction.{Fraction}
use Rattle.sf_strips.specs.declared.active.Active.{Active}
use Rattle.sf_strips.specs.declared.contact.Contact.{Contact}
use Rattle.sf_strips.specs.declared.level.Level.{Level}
use Rattle.sf_strips.specs.declared.piece.Piece.{Piece}
use Rattle.sf_strips.specs.declared.vertex.Vertex.{Vertex}
use Rattle.sf_strips.proofs.CutLaws.{IsWhole}
use Rattle.sf_cells.specs.Groups.{Item, counts}
use Rattle.sf_cells.specs.Hands.{Balanced, Stop, on_gap, stops}
use Rattle.sf_slabs.specs.Sweeps.{IsColumnOf, IsComing}
use Rattle.sf_slabs.proofs.ColumnIsLaws.{column-is}
use Rattle.sf_classes.specs.Classes.{Represent, odds}
use Rattle.sf_sweep.specs.Cuts.{IsCutInto, going_items, level_items}
use Rattle.sf_sweep.specs.Passing.{IsLastApart}
use Rattle.sf_sweep.specs.Tables.{bundles_of, contacts_of}
use Rattle.sf_sweep.specs.Windows.{AreHanded, Part, all_going, all_stops, on_below, part_items, past}
use Rattle.sf_sweep.proofs.CompleteLaws.{complete, whole-behind}
use Rattle.sf_sweep.proofs.JoinLaws.{IsWindow, contacts-fewer, window-cut}
use Rattle.sf_sweep.proofs.StopLaws.{balanced-end, balanced-first, balanced-rest, balanced-same, on-same, window-closed, window-stops}
use Rattle.sf_sweep.proofs.SweptLaws.{Swept, swept-further, window-part}
use Rattle.sf_sweep.proofs.UprightLaws.{HasNoTop, none-upright}
use Rattle.sf_sweep.proofs.WindowLaws.{represent-alike}

-- ---- levels, and further ones below them
on-append : (groups on : List ℕ) (ss ts : List Stop) → on_below groups on (ss ++ ts) ≡ on_below groups (on_below groups on ss) ts
on-append groups on [] ts = refl
on-append groups on (s ∷ ss) ts = on-append groups (on_gap groups on s) ss ts

-- below parts that were handed out no upright edge is open
pub handed-closed : (areal : List Bool) (groups before above : List ℕ) (ps : List Part) (more : List Item) → AreHanded areal groups before above ps more →
    on_below groups (counts groups []) (all_stops ps) ≡ counts groups []
handed-closed areal groups before above [] more h = refl
handed-closed areal groups before above (p ∷ ps) more h =
    on-append groups (counts groups []) p.stops (all_stops ps)
    ∙ ap (λ ns. on_below groups ns (all_stops ps)) h.0.on
    ∙ handed-closed areal groups (past groups before p.coming) (past groups above p.going) ps h.1.later h.1.then

-- ---- a window
-- its levels can be handed out, and none of its upright edges is open below it
pub record IsClosedCut (groups : List ℕ) (es : List Active) (us : List Vertex) (going : List Active) (levels : List Level) : Type 0 where
  pub balanced : Balanced groups (counts groups []) (stops es us going levels)
  pub closed : on_below groups (counts groups []) (stops es us going levels) ≡ counts groups []

whole-of : (x : Fraction) (es : List Active) (cs : List Contact) (us : List Vertex) (going : List Active) (levels : List Level) → IsCutInto x es cs us going levels → IsWhole (Some x) es cs us going levels
whole-of x es cs us going levels c = record { tops = c.tops; onward = c.onward; all = c.all }

pub window-balanced : {bs : List (List ℕ)} (pieces : List Piece) (areal : List Bool) (groups : List ℕ) (x : Fraction) (came : List Active) (cs : List Contact) (vs : List Vertex) (table : List Contact) (es fs : List Active) (us ws : List Vertex)
    (done : List Active) (more : List Item) → IsComing pieces x (Some x) came cs → IsColumnOf pieces x vs →
    Swept areal groups (Some x) came (es ++ fs) cs (contacts_of table (es ++ fs)) vs (us ++ ws) done bs more → IsWindow (Some x) table es fs us ws → AllByRecursion (λ u. u.piece < length groups) us →
    HasNoTop us ⊎ (ws ≡ []) → (going : List Active) (levels : List Level) → IsCutInto x es (contacts_of table es) us going levels → IsClosedCut groups es us going levels
window-balanced pieces areal groups x came cs vs table es fs us ws done more coming column s w within upright going levels cut =
    let whole = whole-of x es (contacts_of table es) us going levels cut in
    let rest = complete (Some x) fs (contacts_of table fs) ws (contacts-fewer table fs) in
    let here = whole-behind (Some x) (es ++ fs) fs (contacts_of table (es ++ fs)) (contacts_of table fs) (us ++ ws) ws going levels (window-cut (Some x) table es fs us ws going levels w whole) rest in
    let all = whole-behind (Some x) came (es ++ fs) cs (contacts_of table (es ++ fs)) vs (us ++ ws) done s.levels s.cut
    (record { order = going ++ rest.order; levels = levels ++ rest.levels; whole = here }) in
    let first : List Stop = stops es us going levels in
    let later : List Stop = stops fs ws rest.order rest.levels in
    let split : stops came vs (done ++ (going ++ rest.order)) (s.levels ++ (levels ++ rest.levels)) ≡ all_stops s.parts ++ (first ++ later) =
    s.stops (going ++ rest.order) (levels ++ rest.levels) ∙ ap (λ ss. all_stops s.parts ++ ss) (window-stops es fs us ws going rest.order levels rest.levels whole.all) in
    let balanced : Balanced groups (counts groups []) (all_stops s.parts ++ (first ++ later)) =
    subst (Balanced groups (counts groups [])) split
    ((column-is pieces x (Some x) came cs vs (done ++ (going ++ rest.order)) (s.levels ++ (levels ++ rest.levels)) coming column all.tops all.onward).balanced groups) in
    let below : Balanced groups (counts groups []) (first ++ later) =
    subst (λ on. Balanced groups on (first ++ later)) (handed-closed areal groups (counts groups []) (counts groups []) s.parts more s.handed)
    (balanced-rest groups (counts groups []) (all_stops s.parts) (first ++ later) balanced) in
    elim upright [
      | inl none ↦
          let plain = none-upright groups (length es) (length going) es us going levels later whole.all within none below in
          record { balanced = balanced-same groups es us going levels plain; closed = on-same groups (counts groups []) es us going levels plain }
      | inr last ↦ ended rest.order rest.levels last below
    ]
  where
    ended : (os : List Active) (ls : List Level) → ws ≡ [] → Balanced groups (counts groups []) (stops es us going levels ++ stops fs ws os ls) → IsClosedCut groups es us going levels
    ended os ls last below =
        let same : on_below groups (on_below groups (counts groups []) (stops es us going levels)) (stops fs ws os ls) ≡ on_below groups (counts groups []) (stops es us going levels) =
        subst (λ zs. on_below groups (on_below groups (counts groups []) (stops es us going levels)) (stops fs zs os ls) ≡ on_below groups (counts groups []) (stops es us going levels)) (sym last)
        (on-same groups (on_below groups (counts groups []) (stops es us going levels)) fs [] os ls tt) in
        let closed : on_below groups (counts groups []) (stops es us going levels) ≡ counts groups [] =
        sym same
        ∙ sym (on-append groups (counts groups []) (stops es us going levels) (stops fs ws os ls))
        ∙ balanced-end groups (counts groups []) (stops es us going levels ++ stops fs ws os ls) below in
        record { balanced = balanced-first groups (counts groups []) (stops es us going levels) (stops fs ws os ls) below closed; closed = closed }

-- ---- a window further
-- what was handed out for it, with parities in place of the counts above
pub swept-window : {bs : List (List ℕ)} (areal : List Bool) (groups : List ℕ) (x : Fraction) (came : List Active) (cs : List Contact) (vs : List Vertex) (table : List Contact) (es fs : List Active) (us ws : List Vertex) (done going : List Active)
    (more then : List Item) (levels : List Level) (ds : List Contact) (above : List ℕ) (s : Swept areal groups (Some x) came (es ++ fs) cs (contacts_of table (es ++ fs)) vs (us ++ ws) done bs more) →
    IsWindow (Some x) table es fs us ws → IsLastApart None table es → IsCutInto x es (contacts_of table es) us going levels → IsClosedCut groups es us going levels →
    odds areal above ≡ odds areal (past groups (counts groups []) (all_going s.parts)) → then ≡ level_items groups above es us going levels ++ going_items groups above ds going →
    Swept areal groups (Some x) came fs cs (contacts_of table fs) vs ws (done ++ going) (bs ++ bundles_of ds going) (more ++ then)
swept-window areal groups x came cs vs table es fs us ws done going more then levels ds above s w apart cut closed e handed =
    let coming : List (List ℕ) = bundles_of (contacts_of table es) es in
    let p : Part = record { stops = stops es us going levels; coming = coming; going = bundles_of ds going } in
    swept-further areal groups (Some x) came (es ++ fs) fs cs (contacts_of table (es ++ fs)) (contacts_of table fs) vs (us ++ ws) ws done going more then p s
    (window-part (Some x) table es fs us ws going levels ds w apart (whole-of x es (contacts_of table es) us going levels cut))
    (window-closed groups coming ds (length es) (length us) es us going levels cut.all closed.closed)
    (inr (inr (subst (λ is. Represent areal is (part_items groups (past groups (counts groups []) (all_going s.parts)) p)) (sym handed)
    (represent-alike areal groups (past groups (counts groups []) (all_going s.parts)) above p e))))
