-- From a place of an order down to a window: the edges above it, those that it reaches, and those below.
use Rattle.std.proofs.Common.{◌≡◌, ap, sym, ◌∙◌, subst, ℕ, zero, suc, ◌+◌, ◌≤◌, ◌<◌, arith, Bool, true, false, List, [], ◌∷◌, ◌++◌, Some, length, take, drop}
use Rattle.std.specs.Prelude.{slice_index_or}
use Rattle.std.specs.List.{AllByRecursion}
use Rattle.std.specs.List.Sorted.{IsPartitionPoint, IsPartitionedBy}
use Rattle.std.proofs.Math.Seq.{drop-append_seam, take-append_seam}
use Rattle.std.proofs.lemmas.List.{append_assoc, length-append, length-take-le, take-append-drop}
use Rattle.sf_grid.specs.Fraction.{Fraction}
use Rattle.sf_strips.specs.declared.active.Active.{Active}
use Rattle.sf_strips.specs.declared.contact.Contact.{Contact}
use Rattle.sf_strips.specs.declared.vertex.Vertex.{Vertex}
use Rattle.sf_grid.specs.Plane.{x_of}
use Rattle.sf_slabs.specs.Sweeps.{StepsAt}
use Rattle.sf_slabs.proofs.CrossLaws.{place-IsFraction}
use Rattle.sf_sweep.specs.declared.window.Window.{Window}
use Rattle.sf_sweep.specs.Sides.{is_below_edge, is_not_above}
use Rattle.sf_sweep.specs.Tables.{contacts_of}
use Rattle.sf_sweep.specs.Within.{AreReached, IsAtWindow, StopsBefore}
use Rattle.sf_sweep.proofs.NearLaws.{above-first}
use Rattle.sf_sweep.proofs.SameColumnLaws.{steps-same}
use Rattle.sf_sweep.proofs.SideLaws.{reached-first}
use Rattle.sf_sweep.proofs.WithinLaws.{steps-behind}

-- ---- what a search says of the two parts
first-each : (t : Active → Bool) (xs : List Active) (i : ℕ) → ((k : ℕ) (d : Active) → 0 ≤ k → k < i → t (slice_index_or xs k d) ≡ true) → AllByRecursion (λ a. t a ≡ true) (take i xs)
first-each t xs zero h = tt
first-each t [] (suc i) h = tt
first-each t (x ∷ xs) (suc i) h = (h 0 x (omega arith) (omega arith), first-each t xs i (λ k d l m. h (suc k) d (omega arith) (omega (arith, m))))

stops-there : (t : Active → Bool) (xs : List Active) (i : ℕ) → ((k : ℕ) (d : Active) → i ≤ k → k < length xs → t (slice_index_or xs k d) ≡ false) → StopsBefore t (drop i xs)
stops-there t [] zero h = tt
stops-there t (x ∷ xs) zero h = h 0 x (omega arith) (omega arith)
stops-there t [] (suc i) h = tt
stops-there t (x ∷ xs) (suc i) h = stops-there t xs i (λ k d l m. h (suc k) d (omega (arith, l)) (omega (arith, m)))

-- ---- the parts of an order
-- of an order, the first part and others
part-take : (xs ys : List Active) (n : ℕ) → n ≡ length xs → take n (xs ++ ys) ≡ xs
part-take xs ys n e = ap (λ m. take m (xs ++ ys)) e ∙ take-append_seam xs ys

part-drop : (xs ys : List Active) (n : ℕ) → n ≡ length xs → drop n (xs ++ ys) ≡ ys
part-drop xs ys n e = ap (λ m. drop m (xs ++ ys)) e ∙ drop-append_seam xs ys

pub record IsReach (x : Fraction) (groups : List ℕ) (areal : List Bool) (order : List Active) (table : List Contact) (odd : List (List Bool)) (from lo hi : ℕ) (here : List Vertex) (w : Window)
    (s : IsAtWindow x groups areal order table odd from here w) : Type 0 where
  pub es : List Active
  pub fs : List Active
  pub gs : List Active
  pub rest : s.rest ≡ es ++ (fs ++ gs)
  pub reached : AreReached w es fs gs
  pub top : take from order ≡ s.done
  pub upper : take lo order ≡ s.done ++ es
  pub passing : drop from (take lo order) ≡ es
  pub window : drop lo (take hi order) ≡ fs
  pub below : drop hi order ≡ gs
  pub place : lo ≡ length (s.done ++ es)

-- the rest below the first edges
pub rest-from : (x : Fraction) (groups : List ℕ) (areal : List Bool) (order : List Active) (table : List Contact) (odd : List (List Bool)) (from : ℕ) (here : List Vertex) (w : Window)
    (s : IsAtWindow x groups areal order table odd from here w) → drop from order ≡ s.rest
rest-from x groups areal order table odd from here w s = ap (drop from) s.whole ∙ part-drop s.done s.rest from s.place

parts-of : (done rest order : List Active) (from n m : ℕ) → order ≡ done ++ rest → from ≡ length done → n ≤ length rest → m ≤ length (drop n rest) →
    (take (from + n) order ≡ done ++ take n rest) × (drop (from + n) (take ((from + n) + m) order) ≡ take m (drop n rest)) × (drop ((from + n) + m) order ≡ drop m (drop n rest))
parts-of done rest order from n m e f l k =
    let es : List Active = take n rest in
    let fs : List Active = take m (drop n rest) in
    let gs : List Active = drop m (drop n rest) in
    let lo : from + n ≡ length (done ++ es) = omega (arith, f, length-append done es, length-take-le n rest l) in
    let hi : (from + n) + m ≡ length ((done ++ es) ++ fs) = omega (arith, lo, length-append (done ++ es) fs, length-take-le m (drop n rest) k) in
    let split : order ≡ (done ++ es) ++ (fs ++ gs) =
    e ∙ ap (λ z. done ++ z) (sym (take-append-drop n rest) ∙ ap (λ z. es ++ z) (sym (take-append-drop m (drop n rest)))) ∙ sym (append_assoc done es (fs ++ gs)) in
    let further : order ≡ ((done ++ es) ++ fs) ++ gs = split ∙ sym (append_assoc (done ++ es) fs gs) in (
      ap (take (from + n)) split ∙ part-take (done ++ es) (fs ++ gs) (from + n) lo,
      ap (λ z. drop (from + n) (take ((from + n) + m) z)) further
          ∙ ap (drop (from + n)) (part-take ((done ++ es) ++ fs) gs ((from + n) + m) hi)
          ∙ part-drop (done ++ es) fs (from + n) lo,
      ap (drop ((from + n) + m)) further ∙ part-drop ((done ++ es) ++ fs) gs ((from + n) + m) hi,
    )

pub lower-from : (x : Fraction) (groups : List ℕ) (areal : List Bool) (order : List Active) (table : List Contact) (odd : List (List Bool)) (from n : ℕ) (here : List Vertex) (w : Window)
    (s : IsAtWindow x groups areal order table odd from here w) → n ≤ length (drop from order) → drop (from + n) order ≡ drop n s.rest
lower-from x groups areal order table odd from n here w s l =
    let within : n ≤ length s.rest = omega (arith, l, ap length (rest-from x groups areal order table odd from here w s)) in
    let lo : from + n ≡ length (s.done ++ take n s.rest) = omega (arith, s.place, length-append s.done (take n s.rest), length-take-le n s.rest within) in
    ap (drop (from + n)) (s.whole ∙ ap (λ z. s.done ++ z) (sym (take-append-drop n s.rest)) ∙ sym (append_assoc s.done (take n s.rest) (drop n s.rest)))
    ∙ part-drop (s.done ++ take n s.rest) (drop n s.rest) (from + n) lo

pub reach : (x : Fraction) (groups : List ℕ) (areal : List Bool) (order : List Active) (table : List Contact) (odd : List (List Bool)) (from n m : ℕ) (here : List Vertex) (w : Window)
    (s : IsAtWindow x groups areal order table odd from here w) → n ≤ length (drop from order) →
    IsPartitionPoint (λ a. is_below_edge w.top a ≡ true) (λ a. is_below_edge w.top a ≡ false) (drop from order) n → m ≤ length (drop (from + n) order) →
    IsPartitionPoint (λ a. is_not_above w.bottom a ≡ true) (λ a. is_not_above w.bottom a ≡ false) (drop (from + n) order) m →
    IsReach x groups areal order table odd from (from + n) ((from + n) + m) here w s
reach x groups areal order table odd from n m here w s l p k q =
    let all = rest-from x groups areal order table odd from here w s in
    let lower = lower-from x groups areal order table odd from n here w s l in
    let within : n ≤ length s.rest = omega (arith, l, ap length all) in
    let within' : m ≤ length (drop n s.rest) = omega (arith, k, ap length lower) in
    let parts = parts-of s.done s.rest order from n m s.whole s.place within within' in
    let first = subst (λ z. IsPartitionPoint (λ a. is_below_edge w.top a ≡ true) (λ a. is_below_edge w.top a ≡ false) z n) all p in
    let second = subst (λ z. IsPartitionPoint (λ a. is_not_above w.bottom a ≡ true) (λ a. is_not_above w.bottom a ≡ false) z m) lower q in
    record {
      es = take n s.rest;
      fs = take m (drop n s.rest);
      gs = drop m (drop n s.rest);
      rest = sym (take-append-drop n s.rest) ∙ ap (λ z. take n s.rest ++ z) (sym (take-append-drop m (drop n s.rest)));
      reached = record {
        above = first-each (is_below_edge w.top) s.rest n first.0;
        not_above = subst (StopsBefore (is_below_edge w.top)) (sym (take-append-drop m (drop n s.rest))) (stops-there (is_below_edge w.top) s.rest n first.1);
        reached = first-each (is_not_above w.bottom) (drop n s.rest) m second.0;
        not_reached = stops-there (is_not_above w.bottom) (drop n s.rest) m second.1;
      };
      top = ap (take from) s.whole ∙ part-take s.done s.rest from s.place;
      upper = parts.0;
      passing = ap (drop from) parts.0 ∙ part-drop s.done (take n s.rest) from s.place;
      window = parts.1;
      below = parts.2;
      place = omega (arith, s.place, length-append s.done (take n s.rest), length-take-le n s.rest within);
    }

-- ---- the searches
pub falls-above : (x : Fraction) (groups : List ℕ) (areal : List Bool) (order : List Active) (table : List Contact) (odd : List (List Bool)) (from : ℕ) (here : List Vertex) (w : Window) →
    IsAtWindow x groups areal order table odd from here w → IsPartitionedBy (is_below_edge w.top) (drop from order)
falls-above x groups areal order table odd from here w s =
    subst (IsPartitionedBy (is_below_edge w.top)) (sym (rest-from x groups areal order table odd from here w s))
    (above-first w.top (Some x) s.rest (contacts_of table s.rest) s.next.top
    (steps-same x (x_of w.top) (Some x) s.rest (contacts_of table s.rest) s.given.coming.place (place-IsFraction w.top s.next.top) (sym s.next.top_here) s.within.coming.steps))

pub falls-below : (x : Fraction) (groups : List ℕ) (areal : List Bool) (order : List Active) (table : List Contact) (odd : List (List Bool)) (from n : ℕ) (here : List Vertex) (w : Window)
    (s : IsAtWindow x groups areal order table odd from here w) → n ≤ length (drop from order) → IsPartitionedBy (is_not_above w.bottom) (drop (from + n) order)
falls-below x groups areal order table odd from n here w s l =
    let rest : List Active = drop n s.rest in
    let steps = steps-behind x (Some x) table (take n s.rest) rest
    (subst (λ z. StepsAt x (Some x) z (contacts_of table z)) (sym (take-append-drop n s.rest)) s.within.coming.steps) in
    subst (IsPartitionedBy (is_not_above w.bottom)) (sym (lower-from x groups areal order table odd from n here w s l))
    (reached-first w.bottom (Some x) rest (contacts_of table rest) s.next.bottom
    (steps-same x (x_of w.bottom) (Some x) rest (contacts_of table rest) s.given.coming.place (place-IsFraction w.bottom s.next.bottom) (sym s.next.bottom_here) steps))

-- the same, where what was searched is given as it was read
pub reach-by : (x : Fraction) (groups : List ℕ) (areal : List Bool) (order : List Active) (table : List Contact) (odd : List (List Bool)) (from n m : ℕ) (here : List Vertex) (w : Window)
    (s : IsAtWindow x groups areal order table odd from here w) (rest lower : List Active) → rest ≡ drop from order → lower ≡ drop (from + n) order → n ≤ length rest →
    IsPartitionPoint (λ a. is_below_edge w.top a ≡ true) (λ a. is_below_edge w.top a ≡ false) rest n → m ≤ length lower →
    IsPartitionPoint (λ a. is_not_above w.bottom a ≡ true) (λ a. is_not_above w.bottom a ≡ false) lower m →
    IsReach x groups areal order table odd from (from + n) ((from + n) + m) here w s
reach-by x groups areal order table odd from n m here w s rest lower e f l p k q =
    reach x groups areal order table odd from n m here w s (subst (λ z. n ≤ length z) e l)
    (subst (λ z. IsPartitionPoint (λ a. is_below_edge w.top a ≡ true) (λ a. is_below_edge w.top a ≡ false) z n) e p)
    (subst (λ z. m ≤ length z) f k)
    (subst (λ z. IsPartitionPoint (λ a. is_not_above w.bottom a ≡ true) (λ a. is_not_above w.bottom a ≡ false) z m) f q)
