-- The sweep from column to column: where it stands before each, and that all cells are handed out in the end.
use Rattle.std.proofs.Common.{◌≡◌, refl, ap, sym, subst, ◌∙◌, ℕ, ◌+◌, ◌*◌, ◌≤◌, ◌<◌, ℤ, pos, ◌+ℤ◌, ◌*ℤ◌, ◌≤ℤ◌, arith, true, false, List, [], ◌∷◌, ◌++◌, length, map, Option, Some, None, take, drop}
use Rattle.std.specs.Prelude.{IfNone, IfSome, int_lt}
use Rattle.std.specs.Ordering.{int_eq}
use Rattle.std.specs.List.{AllByRecursion, fold, prefix_len}
use Rattle.std.specs.List.Sorted.{IsPermutation, IsSortedBy}
use Rattle.std.proofs.lemmas.Bool.{false≢true}
use Rattle.std.proofs.lemmas.Int.{ints}
use Rattle.sf_grid.specs.Fraction.{Fraction, IsFraction, fraction_lt, middle, one_more}
use Rattle.sf_grid.specs.Plane.{Coordinates, x_of}
use Rattle.sf_grid.specs.Edge.{Edge as Line}
use Rattle.sf_strips.specs.declared.active.Active.{Active}
use Rattle.sf_cells.specs.declared.cell.Cell.{Cell}
use Rattle.sf_strips.specs.declared.contact.Contact.{Contact}
use Rattle.sf_strips.specs.declared.contact.Contact.TheVariants.{Ahead, Never, Throughout}
use Rattle.sf_strips.specs.declared.piece.Piece.{Piece}
use Rattle.sf_slabs.specs.declared.sweep.Sweep.{Sweep}
use Rattle.sf_strips.specs.declared.vertex.Vertex.{Vertex}
use Rattle.sf_cells.specs.Cells.{cells}
use Rattle.sf_strips.specs.Fronts.{AreApart, AreApartFrom, AreContacts, AreContactsFrom, IsContact, line_of, touches}
use Rattle.sf_strips.specs.Next.{IsLeastOf, candidates, first_place}
use Rattle.sf_cells.specs.Samples.{listed, unlisted}
use Rattle.sf_slabs.specs.Sweeps.{IsColumnOf, IsComing, IsFront, cells_in}
use Rattle.sf_slabs.proofs.Ahead.{IsAhead}
use Rattle.sf_strips.specs.Vertices.{all_vertices, in_column, vertex_before}
use Rattle.sf_slabs.specs.Walks.{IsReady, IsSlabOf}
use Rattle.sf_slabs.proofs.ColumnLaws.{event_places}
use Rattle.sf_cells.proofs.CallerLemmas.{fold-append}
use Rattle.sf_slabs.proofs.CrossLaws.{place-IsFraction}
use Rattle.sf_slabs.proofs.FollowLaws.{Waits}
use Rattle.sf_slabs.proofs.FrontLaws.{IsClear, column_inside, column_none, coming_inside, coming_next, coming_none}
use Rattle.sf_slabs.proofs.LevelLaws.{middle-above, middle-below}
use Rattle.sf_slabs.proofs.MarkLaws.{middle-number}
use Rattle.sf_slabs.proofs.NextEventLaws.{last-is, next-clear, next-is}
use Rattle.sf_slabs.proofs.NextLaws.{IsNext}
use Rattle.sf_slabs.proofs.NumberLaws.{rising_order}
use Rattle.sf_slabs.proofs.RemainingLaws.{ahead-parted, ahead_of_all, cells-first, cells-none, left, left-next, remaining, remaining-last, remaining-next, start-ahead, start-column, start-coming, start-front}
use Rattle.sf_slabs.proofs.SweepLaws.{room-fewer}
use Rattle.sf_slabs.proofs.TopLaws.{one_more-above}
use Rattle.sf_grid.proofs.CallerLemmas.{le_from_test}

-- ---- the column that comes next
-- it is the least of the candidates, or there is none
abbrev pub IsComingNext : Option Fraction → List Vertex → List Contact → Type 0
IsComingNext None vs cs = candidates (first_place vs) cs ≡ []
IsComingNext (Some y) vs cs = IsLeastOf (candidates (first_place vs) cs) y

-- the sweep stands before the column y
pub record StandsBefore (pieces : List Piece) (y : Fraction) (os : List Active) (cs : List Contact) (vs : List Vertex) : Type 0 where
  pub behind : Fraction
  pub front : IsFront pieces behind os cs
  pub ahead : IsAhead pieces behind vs
  pub next : IsNext (event_places pieces) behind y
  pub clear : IsClear pieces behind y cs

-- the same where there may be no further column
abbrev pub Stands : List Piece → Option Fraction → List Active → List Contact → List Vertex → Type 0
Stands pieces None os cs vs = Unit {0}
Stands pieces (Some y) os cs vs = StandsBefore pieces y os cs vs

pub stands : (pieces : List Piece) (x : Fraction) (next : Option Fraction) (os : List Active) (cs : List Contact) (vs : List Vertex) → IsFront pieces x os cs → IsAhead pieces x vs →
    IsComingNext next vs cs → Stands pieces next os cs vs
stands pieces x None os cs vs f a n = tt
stands pieces x (Some y) os cs vs f a n =
    record { behind = x; front = f; ahead = a; next = next-is pieces x y os cs vs f a n; clear = next-clear pieces x y os cs vs f a n }

-- ---- contacts up to the next column
-- what doesn't touch at y is right of y what it is right of x
contact_apart : (e f : Line) (x y : Fraction) (c : Contact) → IsFraction x → IsFraction y → fraction_lt x y ≡ true → Waits y c → IsContact e f x c →
    touches (Some y) c ≡ false → IsContact e f y c
contact_apart e f x y Never i j l w k t =
    λ p ip both later. k p ip both (rising_order.trans x y (x_of p) i j (place-IsFraction p ip) l later)
contact_apart e f x y (Ahead p) i j l w k t =
    record { only = k.only; after = strictly (y.num *ℤ pos p.d) (p.x *ℤ pos y.den) (le_from_test _ _ w) t }
  where
    strictly : (a b : ℤ) → a ≤ℤ b → int_eq b a ≡ false → int_lt a b ≡ true
    strictly a b h t = grind (arith, ints)
contact_apart e f x y Throughout i j l w k t = absurd (false≢true (sym t))

apart_from : (x y : Fraction) (a : Active) (os : List Active) (cs : List Contact) → IsFraction x → IsFraction y → fraction_lt x y ≡ true → AllByRecursion (Waits y) cs →
    AreContactsFrom x a os cs → AreApartFrom y a os cs
apart_from x y a [] cs i j l w k = k
apart_from x y a (b ∷ os) [] i j l w k = absurd k
apart_from x y a (b ∷ os) (c ∷ cs) i j l w k =
    (contact_apart (line_of a) (line_of b) x y c i j l w.0 k.0, apart_from x y b os cs i j l w.1 k.1)

contacts_apart : (x y : Fraction) (os : List Active) (cs : List Contact) → IsFraction x → IsFraction y → fraction_lt x y ≡ true → AllByRecursion (Waits y) cs →
    AreContacts x os cs → AreApart y os cs
contacts_apart x y [] cs i j l w k = k
contacts_apart x y (a ∷ os) cs i j l w k = apart_from x y a os cs i j l w k

-- ---- what a column asks for
pub column-coming : (pieces : List Piece) (y : Fraction) (os : List Active) (cs : List Contact) (vs : List Vertex) → StandsBefore pieces y os cs vs → IsComing pieces y (Some y) os cs
column-coming pieces y os cs vs s = coming_next pieces s.behind y os cs s.front s.clear

pub column-apart : (pieces : List Piece) (y : Fraction) (os : List Active) (cs : List Contact) (vs : List Vertex) → StandsBefore pieces y os cs vs → AreApart y os cs
column-apart pieces y os cs vs s = contacts_apart s.behind y os cs s.front.place s.clear.place s.clear.ahead s.clear.waits s.front.contacts

pub column-vertices : (pieces : List Piece) (y : Fraction) (os : List Active) (cs : List Contact) (vs here : List Vertex) (n : ℕ) → StandsBefore pieces y os cs vs →
    n ≡ prefix_len (in_column y) vs → here ≡ take n vs → IsColumnOf pieces y here
column-vertices pieces y os cs vs here n s e f =
    subst (IsColumnOf pieces y) (sym (f ∙ ap (λ m. take m vs) e)) (ahead-parted pieces s.behind y vs s.front.place s.ahead s.next).0

pub column-ahead : (pieces : List Piece) (y : Fraction) (os : List Active) (cs : List Contact) (vs rest : List Vertex) (n : ℕ) → StandsBefore pieces y os cs vs →
    n ≡ prefix_len (in_column y) vs → rest ≡ drop n vs → IsAhead pieces y rest
column-ahead pieces y os cs vs rest n s e f =
    subst (IsAhead pieces y) (sym (f ∙ ap (λ m. drop m vs) e)) (ahead-parted pieces s.behind y vs s.front.place s.ahead s.next).1

-- ---- the slab right of a column
middle-flip : (x y : Fraction) → middle x y ≡ middle y x
middle-flip x y =
    ap with_num (other_way (x.num *ℤ pos y.den) (y.num *ℤ pos x.den)) ∙ ap with_den (doubled x.den y.den)
  where
    with_num : ℤ → Fraction
    with_num n = record { num = n; den = 2 * (x.den * y.den) }

    with_den : ℕ → Fraction
    with_den d = record { num = y.num *ℤ pos x.den +ℤ x.num *ℤ pos y.den; den = d }

    other_way : (a b : ℤ) → a +ℤ b ≡ b +ℤ a
    other_way a b = omega (arith, ints)

    doubled : (a b : ℕ) → 2 * (a * b) ≡ 2 * (b * a)
    doubled a b = omega arith

middle_right : (x y : Fraction) → IsFraction x → IsFraction y → fraction_lt x y ≡ true → fraction_lt x (middle x y) ≡ true
middle_right x y i j l = ap (fraction_lt x) (middle-flip x y) ∙ middle-above y x j i l

middle_left : (x y : Fraction) → IsFraction x → IsFraction y → fraction_lt x y ≡ true → fraction_lt (middle x y) y ≡ true
middle_left x y i j l = ap (λ m. fraction_lt m y) (middle-flip x y) ∙ middle-below y x j i l

-- a place in it
abbrev pub slab_place : Fraction → Option Fraction → Fraction
slab_place x None = one_more x
slab_place x (Some y) = middle x y

pub slab-coming : (pieces : List Piece) (x : Fraction) (next : Option Fraction) (os : List Active) (cs : List Contact) (vs : List Vertex) → IsFront pieces x os cs → IsAhead pieces x vs →
    IsComingNext next vs cs → IsComing pieces (slab_place x next) None os cs
slab-coming pieces x None os cs vs f a n =
    let end = last-is pieces x os cs vs f a n in
    subst (λ es. IsComing pieces (one_more x) None es cs) (sym end.no_edge)
    (coming_none pieces x (one_more x) cs (subst (λ es. IsFront pieces x es cs) end.no_edge f) end.no_end (record { positive = f.place.positive }) (one_more-above x f.place))
slab-coming pieces x (Some y) os cs vs f a n =
    let clear = next-clear pieces x y os cs vs f a n in
    coming_inside pieces x y (middle x y) os cs f clear (middle-number x y f.place clear.place) (middle_right x y f.place clear.place clear.ahead) (middle_left x y f.place clear.place clear.ahead)

pub slab-column : (pieces : List Piece) (x : Fraction) (next : Option Fraction) (os : List Active) (cs : List Contact) (vs : List Vertex) → IsFront pieces x os cs → IsAhead pieces x vs →
    IsComingNext next vs cs → IsColumnOf pieces (slab_place x next) []
slab-column pieces x None os cs vs f a n =
    column_none pieces x (one_more x) (last-is pieces x os cs vs f a n).no_end f.place (record { positive = f.place.positive }) (one_more-above x f.place)
slab-column pieces x (Some y) os cs vs f a n =
    let clear = next-clear pieces x y os cs vs f a n in
    column_inside pieces x y (middle x y) os cs f clear (middle-number x y f.place clear.place) (middle_right x y f.place clear.place clear.ahead) (middle_left x y f.place clear.place clear.ahead)

pub slab-of : (pieces : List Piece) (x : Fraction) (next : Option Fraction) (os : List Active) (cs : List Contact) (vs : List Vertex) → IsFront pieces x os cs → IsAhead pieces x vs →
    IsComingNext next vs cs → IsSlabOf pieces os cs
slab-of pieces x next os cs vs f a n =
    record { left = x; front = f; place = slab_place x next; coming = slab-coming pieces x next os cs vs f a n; column = slab-column pieces x next os cs vs f a n }

-- ---- what is handed out
-- a column, the slab right of it, and what comes after
pub column-cells : (pieces : List Piece) (y : Fraction) (next : Option Fraction) (os : List Active) (cs : List Contact) (vs : List Vertex) → IsFront pieces y os cs → IsAhead pieces y vs →
    IsComingNext next vs cs →
    remaining pieces (Some y) ≡ cells_in pieces (listed y) ++ (cells_in pieces (unlisted (slab_place y next)) ++ remaining pieces next)
column-cells pieces y None os cs vs f a n = remaining-last pieces y (last-is pieces y os cs vs f a n).last
column-cells pieces y (Some z) os cs vs f a n = remaining-next pieces y z f.place (next-is pieces y z os cs vs f a n)

-- the slab left of everything, and what comes after
pub first-cells : (pieces : List Piece) (next : Option Fraction) (vs : List Vertex) → IsAhead pieces (ahead_of_all pieces) vs → IsComingNext next vs [] →
    cells pieces ≡ cells_in pieces (unlisted (ahead_of_all pieces)) ++ remaining pieces next
first-cells pieces None vs a n = cells-none pieces (last-is pieces (ahead_of_all pieces) [] [] vs (start-front pieces) a n).last
first-cells pieces (Some y) vs a n = cells-first pieces y (next-is pieces (ahead_of_all pieces) y [] [] vs (start-front pieces) a n)

-- fewer columns are left
pub fewer-left : (pieces : List Piece) (y : Fraction) (next : Option Fraction) (os : List Active) (cs : List Contact) (vs : List Vertex) → IsFront pieces y os cs → IsAhead pieces y vs →
    IsComingNext next vs cs → left pieces next < left pieces (Some y)
fewer-left pieces y None os cs vs f a n = omega arith
fewer-left pieces y (Some z) os cs vs f a n = left-next pieces y z f.place (next-is pieces y z os cs vs f a n)

-- ---- a sink's content over parts of the cells
map-append : {A B : Type 0} (f : A → B) (xs ys : List A) → map f (xs ++ ys) ≡ map f xs ++ map f ys
map-append f [] ys = refl
map-append f (x ∷ xs) ys = ap (λ zs. f x ∷ zs) (map-append f xs ys)

-- a full sink holds the same after any further items
pub full-fold : {A B : Type 0} (after : B → A → B) (content : B) → ((item : A) → after content item ≡ content) →
    (items : List A) → fold after content items ≡ content
full-fold after content full [] = refl
full-fold after content full (i ∷ items) = ap (λ z. fold after z items) (full i) ∙ full-fold after content full items

pub handed-one : {A B : Type 0} (f : Cell → A) (after : B → A → B) (b c : B) (all first rest : List Cell) → all ≡ first ++ rest → c ≡ fold after b (map f first) →
    fold after c (map f rest) ≡ fold after b (map f all)
handed-one f after b c all first rest e h =
    ap (λ d. fold after d (map f rest)) h
    ∙ sym (fold-append after b (map f first) (map f rest))
    ∙ ap (fold after b) (sym (map-append f first rest))
    ∙ ap (λ cs. fold after b (map f cs)) (sym e)

pub handed-two : {A B : Type 0} (f : Cell → A) (after : B → A → B) (b c d : B) (all first second rest : List Cell) → all ≡ first ++ (second ++ rest) →
    c ≡ fold after b (map f first) → d ≡ fold after c (map f second) → fold after d (map f rest) ≡ fold after b (map f all)
handed-two f after b c d all first second rest e h k =
    handed-one f after c d (second ++ rest) second rest refl k ∙ handed-one f after b c all first (second ++ rest) e h

-- ---- room
pub ready-fewer : (pieces : List Piece) (groups : List ℕ) (n m : ℕ) (s : Sweep) → m ≤ n → IsReady pieces groups n s → IsReady pieces groups m s
ready-fewer pieces groups n m s l r =
    record {
      order_room = r.order_room;
      contacts_room = r.contacts_room;
      cut_room = room-fewer (length pieces + n) (length pieces + m) (length pieces) (length pieces) s.cut (omega arith) (omega arith) r.cut_room;
      none_on = r.none_on;
      none_above = r.none_above;
    }

-- ---- from the code's answer to the next column
pub coming-next : (next : Option Fraction) (grid : Option Coordinates) (ds cs : List Contact) (vs : List Vertex) → IfSome next (λ y. IsLeastOf (candidates grid ds) y) →
    IfNone next (candidates grid ds ≡ []) → grid ≡ first_place vs → ds ≡ cs → IsComingNext next vs cs
coming-next None grid ds cs vs s n e f = ap (λ g. candidates g cs) (sym e) ∙ ap (candidates grid) (sym f) ∙ n
coming-next (Some y) grid ds cs vs s n e f = subst (λ es. IsLeastOf (candidates (first_place vs) es) y) f (subst (λ g. IsLeastOf (candidates g ds) y) e s)

-- the sweep stands left of everything
pub first-slab : (pieces : List Piece) (os : List Active) (cs : List Contact) → os ≡ [] → cs ≡ [] → IsSlabOf pieces os cs
first-slab pieces os cs e f =
    subst (λ fs. IsSlabOf pieces fs cs) (sym e)
    (subst (IsSlabOf pieces []) (sym f)
    (record {
      left = ahead_of_all pieces;
      front = start-front pieces;
      place = ahead_of_all pieces;
      coming = start-coming pieces;
      column = start-column pieces;
    }))

pub first-coming : (pieces : List Piece) (os : List Active) (cs : List Contact) → os ≡ [] → cs ≡ [] → IsComing pieces (ahead_of_all pieces) None os cs
first-coming pieces os cs e f =
    subst (λ fs. IsComing pieces (ahead_of_all pieces) None fs cs) (sym e) (subst (IsComing pieces (ahead_of_all pieces) None []) (sym f) (start-coming pieces))

pub first-stands : (pieces : List Piece) (next : Option Fraction) (os : List Active) (cs : List Contact) (vs : List Vertex) → os ≡ [] → cs ≡ [] →
    IsPermutation (all_vertices 0 pieces) vs → IsSortedBy vertex_before vs → IsComingNext next vs [] → Stands pieces next os cs vs
first-stands pieces next os cs vs e f p s n =
    subst (λ fs. Stands pieces next fs cs vs) (sym e)
    (subst (λ ds. Stands pieces next [] ds vs) (sym f)
    (stands pieces (ahead_of_all pieces) next [] [] vs (start-front pieces) (start-ahead pieces vs p s) n))

pub no_more_ahead : (later n all vertices : ℕ) → later + n ≡ all → all ≤ vertices → later ≤ vertices
no_more_ahead later n all vertices e h = omega arith
