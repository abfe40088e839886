-- Down to the end of a column, window by window; and what is left when there is no further window.
use Rattle.std.proofs.Common.{◌≡◌, refl, ap, sym, ◌∙◌, subst, ℕ, zero, suc, ◌+◌, ◌-◌, ◌≤◌, ◌<◌, arith, Bool, true, false, cond, ◌&&◌, ◌||◌, List, [], ◌∷◌, ◌++◌, Option, None, Some, length, take, drop, ◌⊎◌, inl, inr}
use Rattle.std.specs.Prelude.{IfNone, IfSome, sum_by}
use Rattle.std.specs.List.{All, fold, list_any}
use Rattle.std.specs.Ordering.{int_eq}
use Rattle.std.proofs.Math.Seq.{drop-append_seam, take-append_seam}
use Rattle.std.proofs.lemmas.Bool.{and_parts}
use Rattle.std.proofs.lemmas.List.{append-nil, append_assoc, length-append, length-drop, take-append-drop, take_all}
use Rattle.std.proofs.lemmas.List.Elements.{All-from_recursion}
use Rattle.std.proofs.lemmas.List.Sums.{prefix_len-le-length, sum_by-append, sum_by-cons}
use Rattle.sf_grid.specs.Fraction.{Fraction, fraction_eq}
use Rattle.sf_grid.specs.Plane.{Point, x_of}
use Rattle.sf_grid.proofs.CallerLemmas.{eq_from_test}
use Rattle.sf_strips.specs.declared.active.Active.{Active}
use Rattle.sf_strips.specs.declared.contact.Contact.{Contact}
use Rattle.sf_strips.specs.declared.piece.Piece.{Piece}
use Rattle.sf_strips.specs.declared.vertex.Vertex.{Vertex}
use Rattle.sf_strips.specs.Fronts.{pieces_of}
use Rattle.sf_strips.specs.Levels.{group_length}
use Rattle.sf_strips.specs.Vertices.{begins, in_column, pieces_with}
use Rattle.sf_cells.specs.Cells.{numbers_from}
use Rattle.sf_cells.specs.Groups.{Item, counts}
use Rattle.sf_cells.proofs.CallerLemmas.{fold-append}
use Rattle.sf_slabs.specs.Sweeps.{comes_to}
use Rattle.sf_slabs.proofs.BegunLaws.{begins_in, coming_or_begun}
use Rattle.sf_slabs.proofs.SweepLaws.{room-fewer}
use Rattle.sf_sweep.specs.declared.cutting.Bench.{Bench}
use Rattle.sf_sweep.specs.declared.window.Window.{Window}
use Rattle.sf_sweep.specs.Cuts.{HasBenchRoom}
use Rattle.sf_sweep.specs.Nearest.{IsFirstMeeting, NoneMeet}
use Rattle.sf_sweep.specs.NextWindow.{crossing_window, is_top, next_window_of, precedes, vertex_window}
use Rattle.sf_sweep.specs.Parities.{AreParities, parities}
use Rattle.sf_sweep.specs.Passing.{IsLastApart}
use Rattle.sf_sweep.specs.Repairs.{IsRepaired}
use Rattle.sf_sweep.specs.Sides.{is_not_above}
use Rattle.sf_sweep.specs.Within.{Column, Fall, IsAt, IsAtWindow, IsBehindColumn, IsBehindWindow, IsGiven, IsSince, IsWithin, StopsBefore, column_at, weigh, weigh_begun}
use Rattle.sf_sweep.proofs.CrossingLaws.{crossing-reached}
use Rattle.sf_sweep.proofs.EndLaws.{end-within, rest-passes}
use Rattle.sf_sweep.proofs.LightLaws.{begun-weigh}
use Rattle.sf_sweep.proofs.NextLaws.{IsNoneNext, next-window, none-next}
use Rattle.sf_sweep.proofs.PassWithinLaws.{last-everywhere}
use Rattle.sf_sweep.proofs.StopLaws.{each-drop}

-- ---- what a window takes of the vertices that are left
some-window : (w z : Window) → ◌≡◌ {A = Option Window} (Some w) (Some z) → w ≡ z
some-window w z e = cc

no-window : (w : Window) → ◌≡◌ {A = Option Window} None (Some w) → ⊥
no-window w e = cc

-- as many as there are at most, and at least one
record IsTaken (n : ℕ) (ws : List Vertex) : Type 0 where
  few : n ≤ length ws
  some : 0 < n

window-taken : (ws : List Vertex) (w : Window) → vertex_window ws ≡ Some w → IsTaken w.vertices ws
window-taken [] w e = absurd (no-window w e)
window-taken (v ∷ vs) w e = subst (λ (z : Window). IsTaken z.vertices (v ∷ vs)) (some-window _ w e) (by_test (list_any (λ u. is_top u.role) (take (group_length (v ∷ vs)) (v ∷ vs))))
  where
    by_test : (t : Bool) → IsTaken (cond t (length (v ∷ vs)) (group_length (v ∷ vs))) (v ∷ vs)
    by_test true = record { few = omega arith; some = omega arith }
    by_test false = let l = prefix_len-le-length (λ u. int_eq u.at.y v.at.y) vs in record { few = omega (arith, l); some = omega arith }

pub window-fits : (near : Option Point) (x : Fraction) (ws : List Vertex) (w : Window) → next_window_of near x ws ≡ Some w → w.vertices ≤ length ws
window-fits None x ws w e = (window-taken ws w e).few
window-fits (Some p) x ws w e = by_test (fraction_eq (x_of p) x && precedes p ws) e
  where
    by_test : (t : Bool) → cond t (Some (crossing_window p)) (vertex_window ws) ≡ Some w → w.vertices ≤ length ws
    by_test true e = subst (λ (z : Window). z.vertices ≤ length ws) (some-window (crossing_window p) w e) (omega arith)
    by_test false e = (window-taken ws w e).few

-- ---- vertices that are left
fall-rest : (v : Vertex) (vs : List Vertex) → Fall (v ∷ vs) → Fall vs
fall-rest v [] h = tt
fall-rest v (u ∷ us) h = h.1

fall-drop : (n : ℕ) (vs : List Vertex) → Fall vs → Fall (drop n vs)
fall-drop zero vs h = h
fall-drop (suc n) [] h = tt
fall-drop (suc n) (v ∷ vs) h = fall-drop n vs (fall-rest v vs h)

-- ---- there are no more edges at a place, with those that begin in what is left, than there are pieces
all-ones : {A : Type 0} (xs : List A) → sum_by (λ _. 1) xs ≡ length xs
all-ones [] = refl
all-ones (x ∷ xs) = sum_by-cons (λ _. 1) x xs ∙ ap (λ n. 1 + n) (all-ones xs) ∙ one_more (length xs)
  where
    one_more : (n : ℕ) → 1 + n ≡ suc n
    one_more n = omega arith

edges-count : (es : List Active) → weigh (λ _. 1) es ≡ length es
edges-count [] = refl
edges-count (a ∷ es) = sum_by-cons (λ _. 1) a.piece (pieces_of es) ∙ ap (λ n. 1 + n) (edges-count es) ∙ one_more (length es)
  where
    one_more : (n : ℕ) → 1 + n ≡ suc n
    one_more n = omega arith

numbers-few : (k : ℕ) (t : Piece → Bool) (ps : List Piece) → length (numbers_from k t ps) ≤ length ps
numbers-few k t [] = omega arith
numbers-few k t (p ∷ ps) = by_test (t p) (numbers-few (k + 1) t ps)
  where
    by_test : (b : Bool) → length (numbers_from (k + 1) t ps) ≤ length ps → length (cond b (k ∷ numbers_from (k + 1) t ps) (numbers_from (k + 1) t ps)) ≤ length (p ∷ ps)
    by_test true h = omega (arith, h)
    by_test false h = omega (arith, h)

column-few : (k : Column) → IsGiven k → weigh (λ _. 1) k.came + weigh_begun (λ _. 1) k.vertices ≤ length k.groups
column-few k g =
    let few = numbers-few 0 (λ p. comes_to k.x p || begins_in k.x p) k.pieces in
    let same = coming_or_begun k.pieces k.x (pieces_of k.came) k.vertices g.coming.coming g.column.are (λ _. 1) in
    omega (arith, few, same, sum_by-append (λ _. 1) (pieces_of k.came) (pieces_with begins k.vertices), all-ones (numbers_from 0 (λ p. comes_to k.x p || begins_in k.x p) k.pieces), g.grouped)

pub place-few : (x : Fraction) (groups : List ℕ) (areal : List Bool) (order : List Active) (table : List Contact) (odd : List (List Bool)) (from : ℕ) (left : List Vertex) →
    IsAt x groups areal order table odd from left → length order + length (pieces_with begins left) ≤ length groups
place-few x groups areal order table odd from left s =
    let all = column-few (column_at x groups areal s.pieces s.before s.came s.contacts s.vertices) s.given in
    let here = s.within.light (λ _. 1) in
    omega (arith, all, here, ap length s.whole, edges-count (s.done ++ s.rest), all-ones (pieces_with begins left))

-- those that begin in the first ones
pub begun-first : (n : ℕ) (vs : List Vertex) → length (pieces_with begins (take n vs)) ≤ length (pieces_with begins vs)
begun-first n vs =
    let parts = begun-weigh (λ _. 1) (take n vs) (drop n vs) in
    omega (arith, parts, ap (weigh_begun (λ _. 1)) (take-append-drop n vs), all-ones (pieces_with begins (take n vs)), all-ones (pieces_with begins vs))

-- ---- at a place, and at the next window behind it
abbrev pub at-window : (x : Fraction) (groups : List ℕ) (areal : List Bool) (order : List Active) (table : List Contact) (odd : List (List Bool)) (from : ℕ) (left : List Vertex) (near : Option Point) (w : Window) →
    IsAt x groups areal order table odd from left → IfSome near (λ p. IsFirstMeeting table p) → IfNone near (NoneMeet table) → next_window_of near x left ≡ Some w →
    IsAtWindow x groups areal order table odd from (take w.vertices left) w
at-window x groups areal order table odd from left near w s f n e =
    record {
      pieces = s.pieces;
      before = s.before;
      came = s.came;
      contacts = s.contacts;
      vertices = s.vertices;
      gone = s.gone;
      done = s.done;
      rest = s.rest;
      later = drop w.vertices left;
      more = s.more;
      given = s.given;
      within = subst (λ z. IsWithin (column_at x groups areal s.pieces s.before s.came s.contacts s.vertices) s.gone s.done s.rest z table odd s.more) (sym (take-append-drop w.vertices left)) s.within;
      next = next-window (column_at x groups areal s.pieces s.before s.came s.contacts s.vertices) s.gone s.done s.rest left table odd s.more near w s.given.coming.place s.within s.here s.falling f n e;
      whole = s.whole;
      place = s.place;
    }

-- what was dealt with since, as a place of its own
abbrev pub at-since : {Content : Type 0} (x : Fraction) (groups : List ℕ) (areal : List Bool) (order : List Active) (table : List Contact) (odd : List (List Bool)) (from : ℕ) (left : List Vertex)
    (s : IsAt x groups areal order table odd from left) (order' : List Active) (table' : List Contact) (odd' : List (List Bool)) (to : ℕ) (left' : List Vertex) (after : Content → Item → Content) (old new : Content) →
    IsSince s order' table' odd' to left' after old new → IsAt x groups areal order' table' odd' to left'
at-since x groups areal order table odd from left s order' table' odd' to left' after old new t =
    record {
      pieces = s.pieces;
      before = s.before;
      came = s.came;
      contacts = s.contacts;
      vertices = s.vertices;
      gone = t.gone';
      done = t.done';
      rest = t.rest';
      more = s.more ++ t.then;
      given = s.given;
      within = t.within;
      here = t.here;
      falling = t.falling;
      whole = t.whole;
      place = t.place;
    }

-- nothing was dealt with since
pub since-nothing : {Content : Type 0} (x : Fraction) (groups : List ℕ) (areal : List Bool) (order : List Active) (table : List Contact) (odd : List (List Bool)) (from : ℕ) (left : List Vertex)
    (s : IsAt x groups areal order table odd from left) (after : Content → Item → Content) (old : Content) → IsSince s order table odd from left after old old
since-nothing x groups areal order table odd from left s after old =
    record {
      gone' = s.gone;
      done' = s.done;
      rest' = s.rest;
      then = [];
      handed = refl;
      within = subst (IsWithin (column_at x groups areal s.pieces s.before s.came s.contacts s.vertices) s.gone s.done s.rest left table odd) (sym (append-nil s.more)) s.within;
      here = s.here;
      falling = s.falling;
      whole = s.whole;
      place = s.place;
    }

-- ---- a window further
pub since-window : {Content : Type 0} (x : Fraction) (groups : List ℕ) (areal : List Bool) (order : List Active) (table : List Contact) (odd : List (List Bool)) (from : ℕ) (left : List Vertex) (near : Option Point) (w : Window)
    (s : IsAt x groups areal order table odd from left) (f : IfSome near (λ p. IsFirstMeeting table p)) (n : IfNone near (NoneMeet table)) (e : next_window_of near x left ≡ Some w)
    (order' : List Active) (table' : List Contact) (odd' : List (List Bool)) (to : ℕ) (after : Content → Item → Content) (old new : Content) →
    IsBehindWindow (at-window x groups areal order table odd from left near w s f n e) order' table' odd' to after old new → IsSince s order' table' odd' to (drop w.vertices left) after old new
since-window x groups areal order table odd from left near w s f n e order' table' odd' to after old new b =
    record {
      gone' = b.gone';
      done' = b.done';
      rest' = b.rest';
      then = b.then;
      handed = b.handed;
      within = b.within;
      here = each-drop (λ v. in_column x v ≡ true) w.vertices left s.here;
      falling = fall-drop w.vertices left s.falling;
      whole = b.whole;
      place = b.place;
    }

-- two stretches, one after the other
pub since-both : {Content : Type 0} (x : Fraction) (groups : List ℕ) (areal : List Bool) (order : List Active) (table : List Contact) (odd : List (List Bool)) (from : ℕ) (left : List Vertex)
    (s : IsAt x groups areal order table odd from left) (order' : List Active) (table' : List Contact) (odd' : List (List Bool)) (to : ℕ) (left' : List Vertex)
    (order'' : List Active) (table'' : List Contact) (odd'' : List (List Bool)) (to' : ℕ) (left'' : List Vertex) (after : Content → Item → Content) (old mid new : Content) (t : IsSince s order' table' odd' to left' after old mid) →
    IsSince (at-since x groups areal order table odd from left s order' table' odd' to left' after old mid t) order'' table'' odd'' to' left'' after mid new → IsSince s order'' table'' odd'' to' left'' after old new
since-both x groups areal order table odd from left s order' table' odd' to left' order'' table'' odd'' to' left'' after old mid new t u =
    record {
      gone' = u.gone';
      done' = u.done';
      rest' = u.rest';
      then = t.then ++ u.then;
      handed = u.handed ∙ ap (λ c. fold after c u.then) t.handed ∙ sym (fold-append after old t.then u.then);
      within = subst (IsWithin (column_at x groups areal s.pieces s.before s.came s.contacts s.vertices) u.gone' u.done' u.rest' left'' table'' odd'') (append_assoc s.more t.then u.then) u.within;
      here = u.here;
      falling = u.falling;
      whole = u.whole;
      place = u.place;
    }

-- ---- less is left then
-- a window takes vertices, or edges are reached
takes-some : {Content : Type 0} (x : Fraction) (groups : List ℕ) (areal : List Bool) (order : List Active) (table : List Contact) (odd : List (List Bool)) (from : ℕ) (left : List Vertex) (near : Option Point) (w : Window)
    (s : IsAt x groups areal order table odd from left) (f : IfSome near (λ p. IsFirstMeeting table p)) (n : IfNone near (NoneMeet table)) (e : next_window_of near x left ≡ Some w)
    (order' : List Active) (table' : List Contact) (odd' : List (List Bool)) (to : ℕ) (after : Content → Item → Content) (old new : Content)
    (b : IsBehindWindow (at-window x groups areal order table odd from left near w s f n e) order' table' odd' to after old new) → (0 < w.vertices) ⊎ (0 < length b.reached)
takes-some x groups areal order table odd from left None w s f n e order' table' odd' to after old new b = inl (window-taken left w e).some
takes-some x groups areal order table odd from left (Some p) w s f n e order' table' odd' to after old new b = by_test (fraction_eq (x_of p) x && precedes p left) refl e
  where
    by_reached : (rs : List Active) → s.rest ≡ rs ++ b.rest' → w ≡ crossing_window p → fraction_eq (x_of p) x ≡ true → 0 < length rs
    by_reached (r ∷ rs) l c h = omega arith
    by_reached [] l c h = absurd
        (crossing-reached (column_at x groups areal s.pieces s.before s.came s.contacts s.vertices) s.gone s.done s.rest left table odd s.more p s.given s.within f (eq_from_test _ _ h)
        (subst (StopsBefore (is_not_above p)) (sym l) (subst (λ (z : Window). StopsBefore (is_not_above z.bottom) b.rest') c b.not_reached)))

    by_test : (t : Bool) → (fraction_eq (x_of p) x && precedes p left) ≡ t → cond t (Some (crossing_window p)) (vertex_window left) ≡ Some w → (0 < w.vertices) ⊎ (0 < length b.reached)
    by_test true t e = inr (by_reached b.reached b.left (sym (some-window (crossing_window p) w e)) (and_parts (fraction_eq (x_of p) x) (precedes p left) t).0)
    by_test false t e = inl (window-taken left w e).some

pub since-smaller : {Content : Type 0} (x : Fraction) (groups : List ℕ) (areal : List Bool) (order : List Active) (table : List Contact) (odd : List (List Bool)) (from : ℕ) (left : List Vertex) (near : Option Point) (w : Window)
    (s : IsAt x groups areal order table odd from left) (f : IfSome near (λ p. IsFirstMeeting table p)) (n : IfNone near (NoneMeet table)) (e : next_window_of near x left ≡ Some w)
    (order' : List Active) (table' : List Contact) (odd' : List (List Bool)) (to : ℕ) (after : Content → Item → Content) (old new : Content) →
    IsBehindWindow (at-window x groups areal order table odd from left near w s f n e) order' table' odd' to after old new →
    (length order' - to) + length (drop w.vertices left) < (length order - from) + length left
since-smaller x groups areal order table odd from left near w s f n e order' table' odd' to after old new b =
    let fits = window-fits near x left w e in
    let before = ap length s.whole ∙ length-append s.done s.rest in
    let behind = ap length b.whole ∙ length-append b.done' b.rest' in
    let parts = ap length b.left ∙ length-append b.reached b.rest' in
    elim (takes-some x groups areal order table odd from left near w s f n e order' table' odd' to after old new b) [
      | inl some ↦ omega (arith, some, fits, before, behind, parts, s.place, b.place, length-drop w.vertices left)
      | inr some ↦ omega (arith, some, fits, before, behind, parts, s.place, b.place, length-drop w.vertices left)
    ]

-- ---- the end
-- the parts of the order, which is read whole
part-first : (done rest order : List Active) (from : ℕ) → order ≡ done ++ rest → from ≡ length done → take from order ≡ done
part-first done rest order from e f = ap (λ n. take n order) f ∙ ap (take (length done)) e ∙ take-append_seam done rest

part-second : (done rest order : List Active) (from : ℕ) → order ≡ done ++ rest → from ≡ length done → drop from order ≡ rest
part-second done rest order from e f = ap (λ n. drop n order) f ∙ ap (drop (length done)) e ∙ drop-append_seam done rest

part-last : (done rest order : List Active) (from end : ℕ) → order ≡ done ++ rest → from ≡ length done → end ≡ length order → drop from (take end order) ≡ rest
part-last done rest order from end e f g = ap (drop from) (take_all end order (omega (arith, g))) ∙ part-second done rest order from e f

module _ (x : Fraction) (groups : List ℕ) (areal : List Bool) (order : List Active) (table : List Contact) (odd : List (List Bool)) (from : ℕ) (left : List Vertex) (near : Option Point)
    (s : IsAt x groups areal order table odd from left) (f : IfSome near (λ p. IsFirstMeeting table p)) (n : IfNone near (NoneMeet table)) (e : next_window_of near x left ≡ None) where
  abbrev the_column : Column
  the_column = column_at x groups areal s.pieces s.before s.came s.contacts s.vertices

  none : IsNoneNext x table s.rest left
  none = none-next the_column s.gone s.done s.rest left table odd s.more near s.given.coming.place s.within f n e

  pub end-apart : (end : ℕ) → end ≡ length order → IsLastApart None table (drop from (take end order))
  end-apart end l =
      let pass = rest-passes the_column table s.rest s.within.coming none.elsewhere in
      subst (IsLastApart None table) (sym (part-last s.done s.rest order from end s.whole s.place l)) (last-everywhere (Some x) table s.rest pass.passing pass.last)

  pub end-column : {Content : Type 0} (end : ℕ) (odd' : List (List Bool)) (after : Content → Item → Content) (old new : Content) → end ≡ length order → length odd ≡ length groups →
      IsRepaired areal groups table (drop from (take end order)) (parities areal (counts groups (pieces_of (take from order)))) odd odd' after old new → IsBehindColumn s order table odd' after old new
  end-column end odd' after old new l room r =
      let mine =
      subst (λ z. IsRepaired areal groups table s.rest (parities areal (counts groups (pieces_of z))) odd odd' after old new) (part-first s.done s.rest order from s.whole s.place)
      (subst (λ z. IsRepaired areal groups table z (parities areal (counts groups (pieces_of (take from order)))) odd odd' after old new) (part-last s.done s.rest order from end s.whole s.place l) r) in
      let all = end-within the_column s.gone s.done s.rest table odd odd' s.more after old new s.given (subst (λ z. IsWithin the_column s.gone s.done s.rest z table odd s.more) none.vertices s.within) room none.elsewhere mine in
      record {
        then = all.then;
        handed = all.handed;
        within = subst (λ z. IsWithin the_column z order [] [] table odd' (s.more ++ all.then)) (sym s.within.split)
            (subst (λ z. IsWithin the_column (s.gone ++ s.rest) z [] [] table odd' (s.more ++ all.then)) (sym s.whole) all.within);
      }

-- at any place
pub place-stored : (x : Fraction) (groups : List ℕ) (areal : List Bool) (order : List Active) (table : List Contact) (odd : List (List Bool)) (from : ℕ) (left : List Vertex) →
    IsAt x groups areal order table odd from left → AreParities areal groups odd (counts groups []) (take from order)
place-stored x groups areal order table odd from left s = subst (AreParities areal groups odd (counts groups [])) (sym (part-first s.done s.rest order from s.whole s.place)) s.within.right

pub place-edges : (x : Fraction) (groups : List ℕ) (areal : List Bool) (order : List Active) (table : List Contact) (odd : List (List Bool)) (from : ℕ) (left : List Vertex) →
    IsAt x groups areal order table odd from left → All (λ a. a.piece < length groups) order
place-edges x groups areal order table odd from left s = subst (All (λ a. a.piece < length groups)) (sym s.whole) (All-from_recursion (λ a. a.piece < length groups) (s.done ++ s.rest) s.within.edges)

pub place-within : (x : Fraction) (groups : List ℕ) (areal : List Bool) (order : List Active) (table : List Contact) (odd : List (List Bool)) (from : ℕ) (left : List Vertex) →
    IsAt x groups areal order table odd from left → from ≤ length order
place-within x groups areal order table odd from left s = omega (arith, s.place, ap length s.whole, length-append s.done s.rest)

-- what was handed out down to the last window, and then
pub column-both : {Content : Type 0} (x : Fraction) (groups : List ℕ) (areal : List Bool) (order : List Active) (table : List Contact) (odd : List (List Bool)) (from : ℕ) (left : List Vertex)
    (s : IsAt x groups areal order table odd from left) (order' : List Active) (table' : List Contact) (odd' : List (List Bool)) (to : ℕ) (left' : List Vertex)
    (order'' : List Active) (table'' : List Contact) (odd'' : List (List Bool)) (after : Content → Item → Content) (old mid new : Content) (t : IsSince s order' table' odd' to left' after old mid) →
    IsBehindColumn (at-since x groups areal order table odd from left s order' table' odd' to left' after old mid t) order'' table'' odd'' after mid new → IsBehindColumn s order'' table'' odd'' after old new
column-both x groups areal order table odd from left s order' table' odd' to left' order'' table'' odd'' after old mid new t u =
    record {
      then = t.then ++ u.then;
      handed = u.handed ∙ ap (λ c. fold after c u.then) t.handed ∙ sym (fold-append after old t.then u.then);
      within = subst (IsWithin (column_at x groups areal s.pieces s.before s.came s.contacts s.vertices) s.came order'' [] [] table'' odd'') (append_assoc s.more t.then u.then) u.within;
    }

-- ---- a turn of the loop: what is known of a place, and of the window behind it whose vertices were taken from what is left
module _ {Content : Type 0} (x : Fraction) (groups : List ℕ) (areal : List Bool) (order : List Active) (table : List Contact) (odd : List (List Bool)) (from : ℕ) (left : List Vertex)
    (s : IsAt x groups areal order table odd from left) (order' : List Active) (table' : List Contact) (odd' : List (List Bool)) (to : ℕ) (left' : List Vertex) (after : Content → Item → Content) (old mid : Content)
    (t : IsSince s order' table' odd' to left' after old mid) (near : Option Point) (w : Window) (f : IfSome near (λ p. IsFirstMeeting table' p)) (n : IfNone near (NoneMeet table'))
    (e : next_window_of near x left' ≡ Some w) (here : List Vertex) (is_here : here ≡ take w.vertices left') where
  abbrev the_place : IsAt x groups areal order' table' odd' to left'
  the_place = at-since x groups areal order table odd from left s order' table' odd' to left' after old mid t

  pub turn-window : IsAtWindow x groups areal order' table' odd' to here w
  turn-window = subst (λ vs. IsAtWindow x groups areal order' table' odd' to vs w) (sym is_here) (at-window x groups areal order' table' odd' to left' near w the_place f n e)

  pub turn-since : (order'' : List Active) (table'' : List Contact) (odd'' : List (List Bool)) (to' : ℕ) (later : List Vertex) (new : Content) → later ≡ drop w.vertices left' →
      ((z : IsAtWindow x groups areal order' table' odd' to here w) → IsBehindWindow z order'' table'' odd'' to' after mid new) → IsSince s order'' table'' odd'' to' later after old new
  turn-since order'' table'' odd'' to' later new is_later b =
      subst (λ vs. IsSince s order'' table'' odd'' to' vs after old new) (sym is_later)
      (since-both x groups areal order table odd from left s order' table' odd' to left' order'' table'' odd'' to' (drop w.vertices left') after old mid new t
      (since-window x groups areal order' table' odd' to left' near w the_place f n e order'' table'' odd'' to' after mid new
      (subst (λ vs. (z : IsAtWindow x groups areal order' table' odd' to vs w) → IsBehindWindow z order'' table'' odd'' to' after mid new) is_here b
      (at-window x groups areal order' table' odd' to left' near w the_place f n e))))

  pub turn-smaller : (order'' : List Active) (table'' : List Contact) (odd'' : List (List Bool)) (to' : ℕ) (later : List Vertex) (new : Content) → later ≡ drop w.vertices left' →
      ((z : IsAtWindow x groups areal order' table' odd' to here w) → IsBehindWindow z order'' table'' odd'' to' after mid new) →
      (length order'' - to') + length later < (length order' - to) + length left'
  turn-smaller order'' table'' odd'' to' later new is_later b =
      subst (λ vs. (length order'' - to') + length vs < (length order' - to) + length left') (sym is_later)
      (since-smaller x groups areal order' table' odd' to left' near w the_place f n e order'' table'' odd'' to' after mid new
      (subst (λ vs. (z : IsAtWindow x groups areal order' table' odd' to vs w) → IsBehindWindow z order'' table'' odd'' to' after mid new) is_here b
      (at-window x groups areal order' table' odd' to left' near w the_place f n e)))

  -- there is room for it
  pub turn-begun : length order' + length (pieces_with begins here) ≤ length groups
  turn-begun =
      let few = place-few x groups areal order' table' odd' to left' the_place in
      omega (arith, few, begun-first w.vertices left', ap (λ vs. length (pieces_with begins vs)) is_here)

pub bench-fewer : (n m k l : ℕ) (b : Bench) → m ≤ n → l ≤ k → HasBenchRoom n k b → HasBenchRoom m l b
bench-fewer n m k l b h i r = record { cut = room-fewer n m k l b.cut h i r.cut; order = omega (arith, i, r.order); contacts = omega (arith, i, r.contacts) }
