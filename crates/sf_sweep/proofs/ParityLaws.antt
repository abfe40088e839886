-- Parities above edges: turned edge by edge, they are those of the counts; and where one row agrees all further ones do.
use Rattle.std.proofs.Common.{◌≡◌, ◌≢◌, refl, ap, sym, ◌∙◌, subst, ℕ, zero, suc, ◌+◌, ◌-◌, ◌≤◌, ◌<◌, ◌%◌, arith, Bool, true, false, cond, not, ◌&&◌, List, [], ◌∷◌, ◌++◌, length, take, drop, map, inl, inr}
use Rattle.std.specs.Prelude.{slice_index, slice_index_or, slice_set, nat_eq}
use Rattle.std.specs.List.{AllByRecursion}
use Rattle.std.proofs.lemmas.List.{get_or-set_other, get_or-set_same, length-set}
use Rattle.sf_grid.specs.EvenOdd.{is_odd}
use Rattle.sf_strips.specs.declared.active.Active.{Active}
use Rattle.sf_strips.specs.Fronts.{pieces_of}
use Rattle.sf_cells.specs.Groups.{Item, counts, group_count}
use Rattle.sf_cells.specs.Hands.{item, plus}
use Rattle.sf_cells.proofs.TallyLaws.{add_both, add_none, add_one, group_below, length-added}
use Rattle.sf_classes.specs.Classes.{Represent, odds}
use Rattle.sf_sweep.specs.Parities.{AreParities, as_count, parities, row_below, stored, turned}
use Rattle.sf_sweep.specs.Windows.{bundle_items, past}
use Rattle.sf_classes.proofs.ClassLaws.{represent-append}
use Rattle.sf_sweep.proofs.OddsLaws.{odds-plus}
use Rattle.sf_sweep.proofs.WindowLaws.{append-items}

-- ---- one edge more
odd-more : (n : ℕ) → is_odd (n + 1) ≡ not (is_odd n)
odd-more n = ap (λ r. nat_eq r 1) (other n) ∙ by_rest (n % 2) (below n)
  where
    other : (n : ℕ) → (n + 1) % 2 ≡ 1 - n % 2
    other n = omega arith

    below : (n : ℕ) → n % 2 ≤ 1
    below n = omega arith

    by_rest : (r : ℕ) → r ≤ 1 → nat_eq (1 - r) 1 ≡ not (nat_eq r 1)
    by_rest zero h = refl
    by_rest (suc zero) h = refl
    by_rest (suc (suc r)) h = absurd (omega (arith, h))

turned-none : (areal : List Bool) (row : List Bool) (g : ℕ) → slice_index_or areal g false ≡ false → turned areal row g ≡ row
turned-none areal row g h = ap (λ t. cond t (slice_set row g (not (slice_index_or row g false))) row) h

turned-later : (a b : Bool) (areal row : List Bool) (g : ℕ) → turned (a ∷ areal) (b ∷ row) (suc g) ≡ b ∷ turned areal row g
turned-later a b areal row g = by_mark (slice_index_or areal g false)
  where
    by_mark : (t : Bool) → cond t (b ∷ slice_set row g (not (slice_index_or row g false))) (b ∷ row) ≡ b ∷ cond t (slice_set row g (not (slice_index_or row g false))) row
    by_mark true = refl
    by_mark false = refl

first-turned : (a : Bool) (n : ℕ) (areal row : List Bool) → ((a && is_odd (n + 1)) ∷ row) ≡ turned (a ∷ areal) ((a && is_odd n) ∷ row) 0
first-turned true n areal row = ap (λ b. b ∷ row) (odd-more n)
first-turned false n areal row = refl

pub parities-one : (areal : List Bool) (ns : List ℕ) (g : ℕ) → g < length ns → parities areal (slice_set ns g (slice_index ns g + 1)) ≡ turned areal (parities areal ns) g
parities-one [] ns g h = refl
parities-one (a ∷ areal) [] g h = absurd (omega (arith, h))
parities-one (a ∷ areal) (n ∷ ns) zero h = first-turned a n areal (parities areal ns)
parities-one (a ∷ areal) (n ∷ ns) (suc g) h =
    ap (λ row. (a && is_odd n) ∷ row) (parities-one areal ns g (omega (arith, h))) ∙ sym (turned-later a (a && is_odd n) areal (parities areal ns) g)

-- the parities below an edge are those above it, turned at its group
pub parities-below : (areal : List Bool) (groups above : List ℕ) (p : ℕ) → length above ≡ group_count groups → p < length groups →
    parities areal (plus above (counts groups (p ∷ []))) ≡ turned areal (parities areal above) (slice_index groups p)
parities-below areal groups above p len h =
    ap (parities areal) (sym (add_one groups above p len h)) ∙ parities-one areal above (slice_index groups p) (omega (arith, group_below groups p h, len))

-- ---- two counts with the same parities
-- so many counts, and no more than there are marks
pub odds-parities : (areal : List Bool) (ms ns : List ℕ) → length ms ≡ length ns → parities areal ms ≡ parities areal ns → odds areal ms ≡ odds areal ns
odds-parities [] ms ns e h = refl
odds-parities (a ∷ areal) [] [] e h = refl
odds-parities (a ∷ areal) [] (n ∷ ns) e h = absurd (omega (arith, e))
odds-parities (a ∷ areal) (m ∷ ms) [] e h = absurd (omega (arith, e))
odds-parities (a ∷ areal) (m ∷ ms) (n ∷ ns) e h =
    let first : (a && is_odd m) ≡ (a && is_odd n) = cc in
    let later : parities areal ms ≡ parities areal ns = cc in
    ap (λ b. b ∷ odds areal ms) first ∙ ap (λ bs. (a && is_odd n) ∷ bs) (odds-parities areal ms ns (omega (arith, e)) later)

parities-odds : (areal : List Bool) (ms ns : List ℕ) → length ms ≡ length ns → odds areal ms ≡ odds areal ns → parities areal ms ≡ parities areal ns
parities-odds [] ms ns e h = refl
parities-odds (a ∷ areal) [] [] e h = refl
parities-odds (a ∷ areal) [] (n ∷ ns) e h = absurd (omega (arith, e))
parities-odds (a ∷ areal) (m ∷ ms) [] e h = absurd (omega (arith, e))
parities-odds (a ∷ areal) (m ∷ ms) (n ∷ ns) e h =
    let first : (a && is_odd m) ≡ (a && is_odd n) = cc in
    let later : odds areal ms ≡ odds areal ns = cc in
    ap (λ b. b ∷ parities areal ms) first ∙ ap (λ bs. (a && is_odd n) ∷ bs) (parities-odds areal ms ns (omega (arith, e)) later)

parities-plus : (areal : List Bool) (groups ms ns xs : List ℕ) → length ms ≡ group_count groups → length ns ≡ group_count groups → parities areal ms ≡ parities areal ns →
    parities areal (plus ms (counts groups xs)) ≡ parities areal (plus ns (counts groups xs))
parities-plus areal groups ms ns xs i j h =
    parities-odds areal (plus ms (counts groups xs)) (plus ns (counts groups xs)) (length-added groups ms xs i ∙ sym (length-added groups ns xs j))
    (odds-plus areal ms ns (counts groups xs) (odds-parities areal ms ns (i ∙ sym j) h))

-- where the parities above the first edge are those from before, all that is stored is right
pub parities-stay : (areal : List Bool) (groups : List ℕ) (table : List (List Bool)) (before above : List ℕ) (es : List Active) → length before ≡ group_count groups →
    length above ≡ group_count groups → parities areal above ≡ parities areal before → AreParities areal groups table before es → AreParities areal groups table above es
parities-stay areal groups table before above [] i j e h = tt
parities-stay areal groups table before above (a ∷ es) i j e h = (
  h.0 ∙ sym e,
  parities-stay areal groups table (plus before (counts groups (a.piece ∷ []))) (plus above (counts groups (a.piece ∷ []))) es
      (length-added groups before (a.piece ∷ []) i) (length-added groups above (a.piece ∷ []) j) (parities-plus areal groups above before (a.piece ∷ []) j i e) h.1,
)

-- ---- the table, written at one piece
-- what is stored of other pieces stays
pub parities-written : (areal : List Bool) (groups : List ℕ) (table table' : List (List Bool)) (above : List ℕ) (es : List Active) →
    AllByRecursion (λ a. slice_index_or table' a.piece [] ≡ slice_index_or table a.piece []) es → AreParities areal groups table above es → AreParities areal groups table' above es
parities-written areal groups table table' above [] s h = tt
parities-written areal groups table table' above (a ∷ es) s h =
    (s.0 ∙ h.0, parities-written areal groups table table' (plus above (counts groups (a.piece ∷ []))) es s.1 h.1)

-- edges, and those below them
pub parities-behind : (areal : List Bool) (groups : List ℕ) (table : List (List Bool)) (above : List ℕ) (es fs : List Active) → AreParities areal groups table above es →
    AreParities areal groups table (plus above (counts groups (pieces_of es))) fs → AreParities areal groups table above (es ++ fs)
parities-behind areal groups table above [] fs h k = subst (λ ns. AreParities areal groups table ns fs) (add_none groups above) k
parities-behind areal groups table above (a ∷ es) fs h k = (
  h.0,
  parities-behind areal groups table (plus above (counts groups (a.piece ∷ []))) es fs h.1
      (subst (λ ns. AreParities areal groups table ns fs) (sym (add_both groups above (a.piece ∷ []) (pieces_of es))) k),
)

pub parities-parts : (areal : List Bool) (groups : List ℕ) (table : List (List Bool)) (above : List ℕ) (es fs : List Active) → AreParities areal groups table above (es ++ fs) →
    AreParities areal groups table above es × AreParities areal groups table (plus above (counts groups (pieces_of es))) fs
parities-parts areal groups table above [] fs h = (tt, subst (λ ns. AreParities areal groups table ns fs) (sym (add_none groups above)) h)
parities-parts areal groups table above (a ∷ es) fs h =
    let r = parities-parts areal groups table (plus above (counts groups (a.piece ∷ []))) es fs h.1 in
    ((h.0, r.0), subst (λ ns. AreParities areal groups table ns fs) (add_both groups above (a.piece ∷ []) (pieces_of es)) r.1)

-- ---- one bundle more is handed out, with parities in the place of counts
pub bundle-more : (areal : List Bool) (groups above up down : List ℕ) (bs : List (List ℕ)) (b : List ℕ) (more : List Item) → Represent areal more (bundle_items groups above bs) →
    odds areal up ≡ odds areal (past groups above bs) → odds areal down ≡ odds areal (plus (past groups above bs) (counts groups b)) →
    Represent areal (more ++ item 1 (counts groups b) up ∷ item 2 (counts groups []) down ∷ []) (bundle_items groups above (bs ++ b ∷ []))
bundle-more areal groups above up down bs b more h u d =
    subst (Represent areal (more ++ item 1 (counts groups b) up ∷ item 2 (counts groups []) down ∷ [])) (sym (append-items groups above bs (b ∷ [])))
    (represent-append areal more (item 1 (counts groups b) up ∷ item 2 (counts groups []) down ∷ []) (bundle_items groups above bs)
    (bundle_items groups (past groups above bs) (b ∷ [])) h both)
  where
    both : Represent areal (item 1 (counts groups b) up ∷ item 2 (counts groups []) down ∷ []) (bundle_items groups (past groups above bs) (b ∷ []))
    both =
        record {
          of_cells = (
            inl (record { class = record { on = refl; odd = u }; dim = omega arith }),
            (inr (inl (record { class = record { on = refl; odd = d }; dim = omega arith })), tt),
          );
          of_items = (
            inl (record { class = record { on = refl; odd = sym u }; dim = omega arith }),
            (inr (inl (record { class = record { on = refl; odd = sym d }; dim = omega arith })), tt),
          );
        }

-- ---- parities in place of counts
-- one place more is written
pub written-more : (n : ℕ) (row : List Bool) (ns : List ℕ) (b : Bool) (m : ℕ) → n < length ns → n < length row → b ≡ slice_index_or row n b → m ≡ as_count b →
    slice_set (map as_count (take n row) ++ drop n ns) n m ≡ map as_count (take (n + 1) row) ++ drop (n + 1) ns
written-more n row ns b m h k e f =
    subst (λ z. slice_set (map as_count (take n row) ++ drop n ns) n m ≡ map as_count (take z row) ++ drop z ns) (next n) (written n row ns h k e)
  where
    next : (n : ℕ) → suc n ≡ n + 1
    next n = omega arith

    written : (n : ℕ) (row : List Bool) (ns : List ℕ) → n < length ns → n < length row → b ≡ slice_index_or row n b →
        slice_set (map as_count (take n row) ++ drop n ns) n m ≡ map as_count (take (suc n) row) ++ drop (suc n) ns
    written n [] ns h k e = absurd (omega (arith, k))
    written n (c ∷ row) [] h k e = absurd (omega (arith, h))
    written zero (c ∷ row) (x ∷ ns) h k e = ap (λ z. z ∷ ns) (f ∙ ap as_count e)
    written (suc n) (c ∷ row) (x ∷ ns) h k e = ap (λ zs. as_count c ∷ zs) (written n row ns (omega (arith, h)) (omega (arith, k)) e)

-- they have the parities of the counts
pub odds-written : (areal : List Bool) (ns : List ℕ) → odds areal (map as_count (take (length ns) (parities areal ns))) ≡ odds areal ns
odds-written [] [] = refl
odds-written [] (n ∷ ns) = refl
odds-written (a ∷ areal) [] = refl
odds-written (a ∷ areal) (n ∷ ns) =
    ap (λ bs. (a && is_odd (as_count (a && is_odd n))) ∷ bs) (odds-written areal ns) ∙ ap (λ b. b ∷ odds areal ns) (one a (is_odd n))
  where
    one : (a b : Bool) → (a && is_odd (as_count (a && b))) ≡ (a && b)
    one true true = refl
    one true false = refl
    one false b = refl

-- ---- parities that are put down, by pieces
-- those below edges are those of the counts
pub row-is : (areal : List Bool) (groups above : List ℕ) (row : List Bool) (es : List Active) → length above ≡ group_count groups → AllByRecursion (λ a. a.piece < length groups) es →
    row ≡ parities areal above → row_below areal groups row es ≡ parities areal (plus above (counts groups (pieces_of es)))
row-is areal groups above row [] len h e = e ∙ ap (parities areal) (sym (add_none groups above))
row-is areal groups above row (a ∷ es) len h e =
    row-is areal groups (plus above (counts groups (a.piece ∷ []))) (turned areal row (slice_index groups a.piece)) es (length-added groups above (a.piece ∷ []) len) h.1
    (ap (λ r. turned areal r (slice_index groups a.piece)) e ∙ sym (parities-below areal groups above a.piece len h.0))
    ∙ ap (parities areal) (add_both groups above (a.piece ∷ []) (pieces_of es))

-- what is stored of other pieces stays
pub stored-elsewhere : (areal : List Bool) (groups : List ℕ) (table : List (List Bool)) (row : List Bool) (es : List Active) (p : ℕ) → AllByRecursion (λ a. p ≢ a.piece) es →
    slice_index_or (stored areal groups table row es) p [] ≡ slice_index_or table p []
stored-elsewhere areal groups table row [] p h = refl
stored-elsewhere areal groups table row (a ∷ es) p h =
    stored-elsewhere areal groups (slice_set table a.piece row) (turned areal row (slice_index groups a.piece)) es p h.1 ∙ get_or-set_other table a.piece p row [] h.0

-- no piece stands twice
abbrev pub AreDistinct : List Active → Type 0
AreDistinct [] = Unit {0}
AreDistinct (a ∷ es) = AllByRecursion (λ b. a.piece ≢ b.piece) es × AreDistinct es

-- the table has the parities above each edge then
pub stored-are : (areal : List Bool) (groups above : List ℕ) (table : List (List Bool)) (row : List Bool) (es : List Active) → length above ≡ group_count groups →
    AllByRecursion (λ a. a.piece < length groups) es → AllByRecursion (λ a. a.piece < length table) es → AreDistinct es → row ≡ parities areal above →
    AreParities areal groups (stored areal groups table row es) above es
stored-are areal groups above table row [] len h k d e = tt
stored-are areal groups above table row (a ∷ es) len h k d e = (
  stored-elsewhere areal groups (slice_set table a.piece row) (turned areal row (slice_index groups a.piece)) es a.piece d.0 ∙ get_or-set_same table a.piece row [] k.0 ∙ e,
  stored-are areal groups (plus above (counts groups (a.piece ∷ []))) (slice_set table a.piece row) (turned areal row (slice_index groups a.piece)) es
      (length-added groups above (a.piece ∷ []) len) h.1 (same_room es k.1) d.1
      (ap (λ r. turned areal r (slice_index groups a.piece)) e ∙ sym (parities-below areal groups above a.piece len h.0)),
)
  where
    same_room : (es : List Active) → AllByRecursion (λ b. b.piece < length table) es → AllByRecursion (λ b. b.piece < length (slice_set table a.piece row)) es
    same_room [] h = tt
    same_room (b ∷ es) h = (subst (λ n. b.piece < n) (sym (length-set table a.piece row)) h.0, same_room es h.1)
