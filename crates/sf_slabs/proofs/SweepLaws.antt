-- A column of the sweep: its lists fit the room, and what is handed out for it are its cells.
use Rattle.std.proofs.Common.{◌≡◌, refl, ap, sym, subst, ◌∙◌, ℕ, suc, ◌+◌, ◌*◌, ◌-◌, ◌≤◌, ◌<◌, ◌^◌, arith, Bool, true, false, cond, List, [], ◌∷◌, length, map, Option, Some, None, vec_capacity, ◌||◌, ◌++◌}
use Rattle.std.specs.List.{All, AllByRecursion, sum_by}
use Rattle.std.specs.List.Sorted.{IsPermutation}
use Rattle.std.proofs.lemmas.List.{length-append}
use Rattle.std.proofs.lemmas.List.Elements.{All-from_recursion}
use Rattle.std.proofs.lemmas.List.Sorted.{length_permutation}
use Rattle.std.proofs.lemmas.List.Sums.{sum_by-cons}
use Rattle.sf_grid.specs.Fraction.{Fraction, IsFraction}
use Rattle.sf_strips.specs.declared.active.Active.{Active}
use Rattle.sf_strips.specs.declared.contact.Contact.{Contact}
use Rattle.sf_strips.specs.declared.cut.Cut.{Cut}
use Rattle.sf_strips.specs.declared.level.Level.{Level}
use Rattle.sf_strips.specs.declared.piece.Piece.{Piece}
use Rattle.sf_grid.specs.Edge.{edge_between, is_vertical, left_end, right_end}
use Rattle.sf_strips.specs.declared.piece.Piece.TheVariants.{Dot, Edge}
use Rattle.sf_strips.specs.declared.vertex.Role.TheVariants.{Begin, Bottom, End, Top}
use Rattle.sf_strips.specs.declared.vertex.Vertex.{Vertex}
use Rattle.sf_cells.specs.Cells.{numbers_from}
use Rattle.sf_strips.specs.Fronts.{AreContacts, IsEntry, IsEntryIn, SameNumbers, pieces_of}
use Rattle.sf_cells.specs.Groups.{counts, item_of}
use Rattle.sf_cells.specs.Hands.{Balanced, stop_items, stops}
use Rattle.sf_strips.specs.Levels.{AreOnward, AreTops, most_onward}
use Rattle.sf_strips.specs.Rooms.{HasRoom}
use Rattle.sf_slabs.specs.Sweeps.{IsColumnOf, IsComing, IsFront, StepsAt, StepsAtFrom, cells_in, comes_to, passes}
use Rattle.sf_strips.specs.Slanted.{rightward_edge}
use Rattle.sf_strips.specs.Vertices.{IsVertexOf, all_vertices, lower_end, piece_at, upper_end, vertex, vertices_of, begins, pieces_with}
use Rattle.sf_slabs.proofs.ColumnIsLaws.{column-is}
use Rattle.sf_slabs.proofs.ColumnLaws.{column_cells-heights}
use Rattle.sf_slabs.proofs.NextFrontLaws.{active-after, entries-after, front-after}
use Rattle.sf_slabs.proofs.BegunLaws.{begins_in, coming_or_begun}
use Rattle.sf_slabs.proofs.Shapes.{IsColumn}
use Rattle.sf_strips.proofs.CallerLemmas.{piece_at-below, vertex-below}

-- ---- how many there are
ones : (ns : List ℕ) → sum_by (λ _. 1) ns ≡ length ns
ones [] = refl
ones (n ∷ ns) = sum_by-cons (λ _. 1) n ns ∙ ap (λ m. 1 + m) (ones ns) ∙ one_more (length ns)
  where
    one_more : (m : ℕ) → 1 + m ≡ suc m
    one_more m = omega arith

pieces_of-length : (es : List Active) → length (pieces_of es) ≡ length es
pieces_of-length [] = refl
pieces_of-length (a ∷ es) = ap suc (pieces_of-length es)

numbers_from-few : (k : ℕ) (t : Piece → Bool) (ps : List Piece) → length (numbers_from k t ps) ≤ length ps
numbers_from-few k t [] = omega arith
numbers_from-few k t (p ∷ ps) = by_test (t p) (numbers_from-few (k + 1) t ps)
  where
    by_test : (b : Bool) → length (numbers_from (k + 1) t ps) ≤ length ps → length (cond b (k ∷ numbers_from (k + 1) t ps) (numbers_from (k + 1) t ps)) ≤ length (p ∷ ps)
    by_test true h = omega arith
    by_test false h = omega arith

-- no more numbers than pieces
numbers-few : (t : Piece → Bool) (pieces : List Piece) (ns : List ℕ) → SameNumbers ns (numbers_from 0 t pieces) → length ns ≤ length pieces
numbers-few t pieces ns h =
    fewer (length ns) (length (numbers_from 0 t pieces)) (length pieces) (sym (ones ns) ∙ h (λ _. 1) ∙ ones (numbers_from 0 t pieces)) (numbers_from-few 0 t pieces)
  where
    fewer : (a b c : ℕ) → a ≡ b → b ≤ c → a ≤ c
    fewer a b c e h = omega arith

-- no more edges than pieces
pub edges-few : (t : Piece → Bool) (pieces : List Piece) (es : List Active) → SameNumbers (pieces_of es) (numbers_from 0 t pieces) → length es ≤ length pieces
edges-few t pieces es h = subst (λ n. n ≤ length pieces) (pieces_of-length es) (numbers-few t pieces (pieces_of es) h)

-- also with those that begin in the column to which they come
pub onward-few : (pieces : List Piece) (z : Fraction) (column : Option Fraction) (es : List Active) (cs : List Contact) (vs : List Vertex) → IsComing pieces z column es cs →
    IsColumnOf pieces z vs → most_onward es vs ≤ length pieces
onward-few pieces z column es cs vs c v =
    fewer _ _ _ _ _ (length-append (pieces_of es) (pieces_with begins vs)) (pieces_of-length es)
    (numbers-few (λ p. comes_to z p || begins_in z p) pieces (pieces_of es ++ pieces_with begins vs) (coming_or_begun pieces z (pieces_of es) vs c.coming v.are))
  where
    fewer : (a b d e n : ℕ) → a ≡ b + d → b ≡ e → a ≤ n → e + d ≤ n
    fewer a b d e n h k l = omega arith

steps-fewer : (z : Fraction) (column : Option Fraction) (a : Active) (es : List Active) (cs : List Contact) → StepsAtFrom z column a es cs → length cs ≤ length es
steps-fewer z column a [] cs h = omega (arith, ap length h)
steps-fewer z column a (b ∷ es) [] h = absurd h
steps-fewer z column a (b ∷ es) (c ∷ cs) h = let k = steps-fewer z column b es cs h.1 in omega arith

-- one contact less than edges
pub contacts-fewer : (z : Fraction) (column : Option Fraction) (es : List Active) (cs : List Contact) → StepsAt z column es cs → length cs ≤ length es - 1
contacts-fewer z column [] cs h = omega (arith, ap length h)
contacts-fewer z column (a ∷ es) cs h = let k = steps-fewer z column a es cs h in omega arith

-- ---- the numbers are those of pieces
entry-below : (pieces : List Piece) (a : Active) → IsEntry pieces a → a.piece < length pieces
entry-below pieces a h = by_piece (piece_at pieces a.piece) refl h
  where
    by_piece : (o : Option Piece) → piece_at pieces a.piece ≡ o → IsEntryIn o a → a.piece < length pieces
    by_piece None e k = absurd k
    by_piece (Some p) e k = piece_at-below pieces a.piece p e

pub edges-below : (pieces : List Piece) (n : ℕ) (es es' : List Active) → n ≡ length pieces → es' ≡ es → AllByRecursion (IsEntry pieces) es → All (λ e. e.piece < n) es'
edges-below pieces n es es' e f h =
    subst (λ fs. All (λ a. a.piece < n) fs) (sym f) (subst (λ m. All (λ a. a.piece < m) es) (sym e) (All-from_recursion (λ a. a.piece < length pieces) es (each es h)))
  where
    each : (es : List Active) → AllByRecursion (IsEntry pieces) es → AllByRecursion (λ a. a.piece < length pieces) es
    each [] h = tt
    each (a ∷ es) h = (entry-below pieces a h.0, each es h.1)

pub vertices-below : (pieces : List Piece) (n : ℕ) (vs : List Vertex) → n ≡ length pieces → AllByRecursion (IsVertexOf pieces) vs → All (λ v. v.piece < n) vs
vertices-below pieces n vs e h = subst (λ m. All (λ v. v.piece < m) vs) (sym e) (All-from_recursion (λ v. v.piece < length pieces) vs (each vs h))
  where
    each : (vs : List Vertex) → AllByRecursion (IsVertexOf pieces) vs → AllByRecursion (λ v. v.piece < length pieces) vs
    each [] h = tt
    each (v ∷ vs) h = (vertex-below pieces v h.0, each vs h.1)

-- ---- what a column's cut gives
-- the lists with which a column was cut
pub record WasCut (pieces : List Piece) (z : Fraction) (column : Option Fraction) (es es' : List Active) (cs cs' : List Contact) (vs : List Vertex) (os : List Active) (ls : List Level) : Type 0 where
  pub coming : IsComing pieces z column es cs
  pub vertices : IsColumnOf pieces z vs
  pub edges_are : es' ≡ es
  pub contacts_are : cs' ≡ cs
  pub tops : AreTops column es' cs' vs ls
  pub onward : AreOnward es' vs os ls

moved_tops : (column : Option Fraction) (es es' : List Active) (cs cs' : List Contact) (vs : List Vertex) (ls : List Level) → es' ≡ es → cs' ≡ cs →
    AreTops column es' cs' vs ls → AreTops column es cs vs ls
moved_tops column es es' cs cs' vs ls e f h = subst (λ fs. AreTops column fs cs vs ls) e (subst (λ ds. AreTops column es' ds vs ls) f h)

moved_onward : (es es' : List Active) (vs : List Vertex) (os : List Active) (ls : List Level) → es' ≡ es → AreOnward es' vs os ls → AreOnward es vs os ls
moved_onward es es' vs os ls e h = subst (λ fs. AreOnward fs vs os ls) e h

pub cut-column : (pieces : List Piece) (z : Fraction) (column : Option Fraction) (es es' : List Active) (cs cs' : List Contact) (vs : List Vertex) (os : List Active) (ls : List Level) →
    WasCut pieces z column es es' cs cs' vs os ls → IsColumn pieces z es vs os ls
cut-column pieces z column es es' cs cs' vs os ls w =
    column-is pieces z column es cs vs os ls w.coming w.vertices (moved_tops column es es' cs cs' vs ls w.edges_are w.contacts_are w.tops)
    (moved_onward es es' vs os ls w.edges_are w.onward)

pub cut-front : (pieces : List Piece) (z : Fraction) (column : Option Fraction) (es es' : List Active) (cs cs' ds : List Contact) (vs : List Vertex) (os : List Active) (ls : List Level) →
    WasCut pieces z column es es' cs cs' vs os ls → AreContacts z os ds → IsFront pieces z os ds
cut-front pieces z column es es' cs cs' ds vs os ls w k =
    front-after pieces z column es cs ds vs os ls w.coming w.vertices (moved_tops column es es' cs cs' vs ls w.edges_are w.contacts_are w.tops)
    (moved_onward es es' vs os ls w.edges_are w.onward) k

-- the edges that go on are those of pieces
pub cut-entries : (pieces : List Piece) (z : Fraction) (column : Option Fraction) (es es' : List Active) (cs cs' : List Contact) (vs : List Vertex) (os : List Active) (ls : List Level) →
    WasCut pieces z column es es' cs cs' vs os ls → AllByRecursion (IsEntry pieces) os
cut-entries pieces z column es es' cs cs' vs os ls w =
    entries-after pieces z column es cs vs os ls w.coming w.vertices (moved_tops column es es' cs cs' vs ls w.edges_are w.contacts_are w.tops)
    (moved_onward es es' vs os ls w.edges_are w.onward)

-- they are no more than the pieces
pub cut-few : (pieces : List Piece) (z : Fraction) (column : Option Fraction) (es es' : List Active) (cs cs' : List Contact) (vs : List Vertex) (os : List Active) (ls : List Level) →
    WasCut pieces z column es es' cs cs' vs os ls → length os ≤ length pieces
cut-few pieces z column es es' cs cs' vs os ls w =
    edges-few (passes z) pieces os
    (active-after pieces z column es cs vs os ls w.coming w.vertices (moved_tops column es es' cs cs' vs ls w.edges_are w.contacts_are w.tops)
    (moved_onward es es' vs os ls w.edges_are w.onward))

pub coming-few : (pieces : List Piece) (z : Fraction) (column : Option Fraction) (es : List Active) (cs : List Contact) → IsComing pieces z column es cs → length es ≤ length pieces
coming-few pieces z column es cs c = edges-few (comes_to z) pieces es c.coming

-- ---- numbers of edges and of room
pub room-fewer : (n m k l : ℕ) (c : Cut) → m ≤ n → l ≤ k → HasRoom n k c → HasRoom m l c
room-fewer n m k l c h i r =
    record {
      parts = less n m (vec_capacity c.parts) h r.parts;
      order = less k l (vec_capacity c.order) i r.order;
      contacts = less k l (vec_capacity c.contacts) i r.contacts;
      segment = less k l (vec_capacity c.segment) i r.segment;
    }
  where
    less : (n m c : ℕ) → m ≤ n → n ≤ c → m ≤ c
    less n m c h i = omega arith

pub few-moved : (a a' b c c' p : ℕ) → a' ≡ a → c' ≡ c → a ≤ p → c ≤ p → p ≤ 16777215 → b ≤ 33554430 → a' + b + c' < 2 ^ 32
few-moved a a' b c c' p e f h k l m = omega arith

pub fewer-moved : (c c' a a' : ℕ) → c' ≡ c → a' ≡ a → c ≤ a - 1 → c' ≤ a' - 1
fewer-moved c c' a a' e f h = omega arith

pub at_most-moved : (a a' p r : ℕ) → a' ≡ a → a ≤ p → p ≤ r → a' ≤ r
at_most-moved a a' p r e h k = omega arith

-- the items of a cut are those of the column's cells
pub cut-items : (pieces : List Piece) (z : Fraction) (es es' : List Active) (vs : List Vertex) (os os' : List Active) (ls ls' : List Level) → IsFraction z → IsColumn pieces z es vs os ls →
    es' ≡ es → os' ≡ os → ls' ≡ ls → (groups : List ℕ) (event : Bool) →
    stop_items groups event (counts groups []) (counts groups []) (stops es' vs os' ls') ≡ map (item_of groups) (cells_in pieces (record { place = z; listed = event }))
cut-items pieces z es es' vs os os' ls ls' i c e f h groups event =
    ap (λ fs. stop_items groups event (counts groups []) (counts groups []) (stops fs vs os' ls')) e
    ∙ ap (λ fs. stop_items groups event (counts groups []) (counts groups []) (stops es vs fs ls')) f
    ∙ ap (λ ks. stop_items groups event (counts groups []) (counts groups []) (stops es vs os ks)) h
    ∙ c.items groups event
    ∙ sym (ap (map (item_of groups)) (column_cells-heights pieces (record { place = z; listed = event }) (record { place = z; listed = event }) c.heights
    (record { place = refl; listed = refl; first = i; second = i }) c.are_heights))

pub cut-balanced : (pieces : List Piece) (z : Fraction) (es es' : List Active) (vs : List Vertex) (os os' : List Active) (ls ls' : List Level) → IsColumn pieces z es vs os ls →
    es' ≡ es → os' ≡ os → ls' ≡ ls → (groups : List ℕ) → Balanced groups (counts groups []) (stops es' vs os' ls')
cut-balanced pieces z es es' vs os os' ls ls' c e f h groups =
    subst (λ fs. Balanced groups (counts groups []) (stops fs vs os' ls')) (sym e)
    (subst (λ fs. Balanced groups (counts groups []) (stops es vs fs ls')) (sym f)
    (subst (λ ks. Balanced groups (counts groups []) (stops es vs os ks)) (sym h) (c.balanced groups)))

pub room-whole : (p r : ℕ) → p + 0 ≤ r → p ≤ r
room-whole p r h = omega arith

-- ---- two vertices of each piece at most
few_of_piece : (k : ℕ) (p : Piece) → length (vertices_of k p) ≤ 2
few_of_piece k (Edge a b) = by_test (is_vertical (edge_between a b))
  where
    by_test : (t : Bool) →
        length (cond t
        (vertex (upper_end (edge_between a b)) Top k ∷ vertex (lower_end (edge_between a b)) Bottom k ∷ [])
        (vertex (left_end (edge_between a b)) (Begin (rightward_edge (edge_between a b))) k ∷ vertex (right_end (edge_between a b)) End k ∷ [])) ≤ 2
    by_test true = omega arith
    by_test false = omega arith
few_of_piece k (Dot a) = omega arith

all_vertices-few : (k : ℕ) (ps : List Piece) → length (all_vertices k ps) ≤ 2 * length ps
all_vertices-few k [] = omega arith
all_vertices-few k (p ∷ ps) =
    counted _ _ _ _ (length-append (vertices_of k p) (all_vertices (k + 1) ps)) (few_of_piece k p) (all_vertices-few (k + 1) ps)
  where
    counted : (a b c n : ℕ) → a ≡ b + c → b ≤ 2 → c ≤ 2 * n → a ≤ 2 * suc n
    counted a b c n e h k = omega arith

pub vertices-few : (pieces : List Piece) (vs : List Vertex) → length pieces ≤ 16777215 → IsPermutation (all_vertices 0 pieces) vs → length vs ≤ 33554430
vertices-few pieces vs h p = counted (length vs) (length (all_vertices 0 pieces)) (length pieces) (length_permutation (all_vertices 0 pieces) vs p) (all_vertices-few 0 pieces) h
  where
    counted : (a b n : ℕ) → a ≡ b → b ≤ 2 * n → n ≤ 16777215 → a ≤ 33554430
    counted a b n e h k = omega arith

pub few-number : (a b c : ℕ) → a ≡ b → c ≡ b → c ≤ 33554430 → a ≤ 33554430
few-number a b c e f h = omega arith
