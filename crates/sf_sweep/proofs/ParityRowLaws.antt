-- The row of parities below the last of some edges.
use Rattle.std.proofs.Common.{◌≡◌, refl, ap, sym, ◌∙◌, subst, ℕ, zero, suc, ◌-◌, ◌<◌, arith, Bool, true, false, ◌&&◌, List, [], ◌∷◌, ◌++◌, drop, length, map, take}
use Rattle.std.specs.Prelude.{replicate, slice_index, slice_index_or}
use Rattle.std.specs.List.{All, AllByRecursion}
use Rattle.std.proofs.lemmas.List.{drop-replicate, length-take, map-append}
use Rattle.sf_grid.specs.EvenOdd.{is_odd}
use Rattle.sf_strips.specs.declared.active.Active.{Active}
use Rattle.sf_strips.specs.Fronts.{pieces_of}
use Rattle.sf_cells.specs.Groups.{counts, group_count, numbers}
use Rattle.sf_cells.specs.Hands.{plus}
use Rattle.sf_cells.proofs.TallyLaws.{add_both, length-added, length-counts}
use Rattle.sf_sweep.specs.Parities.{AreParities, parities, turned}
use Rattle.sf_sweep.proofs.ParityLaws.{parities-below, parities-parts}
use Rattle.sf_sweep.proofs.RepairLaws.{each-of, each-parts}
use Rattle.sf_sweep.proofs.WindowLaws.{none-enters}

row-of_last : (areal : List Bool) (groups : List ℕ) (table : List (List Bool)) (uppers : List Active) (a : Active) → AllByRecursion (λ e. e.piece < length groups) (uppers ++ a ∷ []) →
    AreParities areal groups table (counts groups []) (uppers ++ a ∷ []) →
    turned areal (slice_index_or table a.piece []) (slice_index groups a.piece) ≡ parities areal (counts groups (pieces_of (uppers ++ a ∷ [])))
row-of_last areal groups table uppers a grouped stored =
    let above : List ℕ = plus (counts groups []) (counts groups (pieces_of uppers)) in
    let len : length above ≡ group_count groups = length-added groups (counts groups []) (pieces_of uppers) (length-counts groups []) in
    let row = (parities-parts areal groups table (counts groups []) uppers (a ∷ []) stored).1.0 in
    let within = (each-parts (λ e. e.piece < length groups) uppers (a ∷ []) grouped).1.0 in
    ap (λ r. turned areal r (slice_index groups a.piece)) row
    ∙ sym (parities-below areal groups above a.piece len within)
    ∙ ap (parities areal) (add_both groups (counts groups []) (pieces_of uppers) (a.piece ∷ []) ∙ none-enters groups (pieces_of uppers ++ a.piece ∷ []))
    ∙ ap (λ ns. parities areal (counts groups ns)) (sym (map-append (λ e. e.piece) uppers (a ∷ [])))

pub row-below_last : (areal : List Bool) (groups : List ℕ) (table : List (List Bool)) (es uppers : List Active) (a : Active) → es ≡ uppers ++ a ∷ [] → All (λ e. e.piece < length groups) es →
    AreParities areal groups table (counts groups []) es →
    turned areal (slice_index_or table a.piece []) (slice_index groups a.piece) ≡ parities areal (counts groups (pieces_of es))
row-below_last areal groups table es uppers a e grouped stored =
    row-of_last areal groups table uppers a (subst (AllByRecursion (λ e. e.piece < length groups)) e (each-of (λ e. e.piece < length groups) es grouped))
    (subst (AreParities areal groups table (counts groups [])) e stored)
    ∙ ap (λ zs. parities areal (counts groups (pieces_of zs))) (sym e)

-- ---- no edge is above
and-even : (a : Bool) → (a && is_odd 0) ≡ false
and-even true = refl
and-even false = refl

none-odd : (areal : List Bool) → parities areal [] ≡ map (λ _. false) areal
none-odd [] = refl
none-odd (a ∷ areal) = ap (λ bs. false ∷ bs) (none-odd areal)

zero-odd : (areal : List Bool) (ks : List ℕ) → parities areal (map (λ _. 0) ks) ≡ map (λ _. false) areal
zero-odd [] ks = refl
zero-odd (a ∷ areal) [] = none-odd (a ∷ areal)
zero-odd (a ∷ areal) (k ∷ ks) = ap (λ b. b ∷ parities areal (map (λ _. 0) ks)) (and-even a) ∙ ap (λ bs. false ∷ bs) (zero-odd areal ks)

row-of_none : (areal : List Bool) (groups : List ℕ) → parities areal (counts groups []) ≡ map (λ _. false) areal
row-of_none areal groups = zero-odd areal (numbers 0 (group_count groups))

false-each : (areal : List Bool) → map (λ _. false) areal ≡ replicate (length areal) false
false-each [] = refl
false-each (a ∷ areal) = ap (λ bs. false ∷ bs) (false-each areal)

row-of_empty : (n : ℕ) → take n [] ++ replicate (n - 0) false ≡ replicate n false
row-of_empty n = by n (omega arith)
  where
    by : (n : ℕ) → n - 0 ≡ n → take n [] ++ replicate (n - 0) false ≡ replicate n false
    by zero e = ap (λ m. replicate m false) e
    by (suc n) e = ap (λ m. replicate m false) e

-- the row of no mark
pub row-below_none : (areal : List Bool) (groups : List ℕ) (es : List Active) (n : ℕ) → length es ≡ 0 → length areal ≡ n →
    take n [] ++ replicate (n - 0) false ≡ parities areal (counts groups (pieces_of es))
row-below_none areal groups [] n none wide =
    row-of_empty n ∙ sym (row-of_none areal groups ∙ false-each areal ∙ ap (λ m. replicate m false) wide)
row-below_none areal groups (e ∷ es) n none wide = absurd (omega (arith, none))

-- ---- the first marks in a row, and none behind them
pub row-filled : (n : ℕ) (marks first upper lower : List Bool) → first ≡ take n marks → upper ≡ first → lower ≡ drop (length first) (replicate n false) →
    upper ++ lower ≡ take n marks ++ replicate (n - length marks) false
row-filled n marks first upper lower is written kept =
    let rest : lower ≡ replicate (n - length marks) false = kept ∙ drop-replicate (length first) n false ∙ ap (λ m. replicate m false) (omega (arith, ap length is, length-take n marks)) in
    cc
