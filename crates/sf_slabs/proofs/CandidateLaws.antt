-- The candidates for the next event, the places of the next vertex and of the points ahead that neighbours share, are events.
use Rattle.std.proofs.Common.{◌≡◌, refl, sym, ◌∙◌, subst, ℕ, zero, suc, ℤ, pos, ◌*ℤ◌, ◌≤ℤ◌, ◌<ℤ◌, arith, Bool, true, false, ◌||◌, List, [], ◌∷◌, Option, inl, inr}
use Rattle.std.specs.Prelude.{int_lt}
use Rattle.std.specs.List.{All, AllByRecursion}
use Rattle.std.proofs.lemmas.Bool.{and_parts}
use Rattle.std.proofs.lemmas.Int.{ints}
use Rattle.std.proofs.lemmas.List.Elements.{All-cons, All-contains, All-head, All-nil, All-tail}
use Rattle.sf_grid.specs.Fraction.{Fraction, IsFraction, fraction_le, fraction_lt, whole}
use Rattle.sf_grid.specs.Plane.{Coordinates, Point, x_of}
use Rattle.sf_grid.specs.Edge.{crossing, edge_between, left_end, meeting_of_lines, right_end}
use Rattle.sf_grid.specs.Laws.{HasHeight}
use Rattle.sf_grid.proofs.CallerLemmas.{eq_from_test, ge_from_test, le_from_test, lt_from_test, test_from_le}
use Rattle.sf_strips.specs.declared.piece.Piece.{Piece}
use Rattle.sf_strips.specs.declared.piece.Piece.TheVariants.{Dot, Edge}
use Rattle.sf_strips.specs.declared.active.Active.{Active}
use Rattle.sf_strips.specs.declared.contact.Contact.{Contact}
use Rattle.sf_strips.specs.declared.contact.Contact.TheVariants.{Ahead, Never, Throughout}
use Rattle.sf_strips.specs.declared.vertex.Vertex.{Vertex}
use Rattle.sf_strips.specs.Fronts.{AreContacts, AreContactsFrom, IsEntry, IsRun, line_of}
use Rattle.sf_strips.specs.Next.{candidates, first_place, places_of}
use Rattle.sf_cells.specs.Pieces.{ends_of}
use Rattle.sf_cells.specs.Samples.{crossing_place, crossings_of}
use Rattle.sf_strips.specs.Slanted.{IsMeetingAfter}
use Rattle.sf_strips.specs.Vertices.{IsVertexIn, IsVertexOf, piece_at, vertices_of}
use Rattle.sf_slabs.proofs.AboveLaws.{passes}
use Rattle.sf_slabs.proofs.ColumnLaws.{event_places}
use Rattle.sf_slabs.proofs.CrossLaws.{crossing-is, meeting-apart, meeting-on_both, meeting-run, meeting-same, place-IsFraction}
use Rattle.sf_slabs.proofs.EndLaws.{EntryOf, Later, NoEndBetween, all_good, each_passes, ends-all_vertices, entry_of, passes-places, passes_at, vertices_at-ends, whole-number, each_member}
use Rattle.sf_slabs.proofs.EventLaws.{Some_in, Some_in-map, is-event}
use Rattle.sf_slabs.proofs.FollowLaws.{Waits, le_le-places}
use Rattle.sf_slabs.proofs.NumberLaws.{Among}
use Rattle.sf_slabs.proofs.Shapes.{InOrder, InOrderFrom, IsAhead, IsFront, right_of}
use Rattle.sf_slabs.proofs.SlabLaws.{reached_from}

-- ---- the ends right of x, from the vertices ahead
-- all vertices are at the first one's column or further right
ordered-places : (y : Fraction) (u : Vertex) (vs : List Vertex) → InOrderFrom u vs → fraction_le y (whole u.at.x) ≡ true →
    AllByRecursion (λ v. fraction_le y (whole v.at.x) ≡ true) vs
ordered-places y u [] o h = tt
ordered-places y u (v ∷ vs) o h =
    let here = le_le-places y (whole u.at.x) (whole v.at.x) (whole-number u.at.x) h (not_left u.at.x v.at.x (none_first _ _ o.0)) in
    (here, ordered-places y v vs o.1 here)
  where
    none_first : (a b : Bool) → (a || b) ≡ false → a ≡ false
    none_first true b e = e
    none_first false b e = refl

    not_left : (m n : ℤ) → int_lt n m ≡ false → fraction_le (whole m) (whole n) ≡ true
    not_left m n e = test_from_le (m *ℤ pos 1) (n *ℤ pos 1) (let l : m ≤ℤ n = ge_from_test n m e in omega (arith, ints))

least_vertices : (y : Fraction) (vs : List Vertex) (cs : List Contact) → InOrder vs → All (λ q. fraction_le y q ≡ true) (candidates (first_place vs) cs) →
    AllByRecursion (λ v. fraction_le y (whole v.at.x) ≡ true) vs
least_vertices y [] cs o h = tt
least_vertices y (v ∷ vs) cs o h =
    let here = All-head (λ q. fraction_le y q ≡ true) (whole v.at.x) (places_of cs) h in
    (here, ordered-places y v vs o here)

pub least_places : (y : Fraction) (vs : List Vertex) (cs : List Contact) → All (λ q. fraction_le y q ≡ true) (candidates (first_place vs) cs) →
    All (λ q. fraction_le y q ≡ true) (places_of cs)
least_places y [] cs h = h
least_places y (v ∷ vs) cs h = All-tail (λ q. fraction_le y q ≡ true) (whole v.at.x) (places_of cs) h

pub least_waits : (y : Fraction) (cs : List Contact) → All (λ q. fraction_le y q ≡ true) (places_of cs) → AllByRecursion (Waits y) cs
least_waits y [] h = tt
least_waits y (Never ∷ cs) h = (tt, least_waits y cs h)
least_waits y (Ahead p ∷ cs) h =
    (All-head (λ q. fraction_le y q ≡ true) (x_of p) (places_of cs) h, least_waits y cs (All-tail (λ q. fraction_le y q ≡ true) (x_of p) (places_of cs) h))
least_waits y (Throughout ∷ cs) h = (tt, least_waits y cs h)

pub no_end_before : (pieces : List Piece) (x y : Fraction) (vs : List Vertex) (cs : List Contact) → IsAhead pieces x vs →
    All (λ q. fraction_le y q ≡ true) (candidates (first_place vs) cs) → NoEndBetween pieces x y
no_end_before pieces x y vs cs a h =
    ends-all_vertices (Later x y) 0 pieces
    (all_good pieces (right_of x) (λ v. fraction_le y (whole v.at.x)) vs a.are (least_vertices y vs cs a.in_order h))

-- ---- each candidate is an event right of x
pub record IsAheadEvent (pieces : List Piece) (x q : Fraction) : Type 0 where
  pub number : IsFraction q
  pub event : Among (event_places pieces) q
  pub above : fraction_lt x q ≡ true

own_ends : (p : Piece) → AllByRecursion (Among (ends_of p)) (ends_of p)
own_ends (Edge a b) = (inl refl, (inr (inl refl), tt))
own_ends (Dot a) = (inl refl, tt)

all_vertices_have : (P : Vertex → Type 0) (vs : List Vertex) → AllByRecursion P vs → All P vs
all_vertices_have P [] h = All-nil P
all_vertices_have P (v ∷ vs) h = All-cons P v vs h.0 (all_vertices_have P vs h.1)

vertex_end : (ps : List Piece) (i : ℕ) (v : Vertex) → IsVertexIn (piece_at ps i) v → Some_in (λ p. Among (ends_of p) (whole v.at.x)) ps
vertex_end [] i v h = absurd h
vertex_end (p ∷ ps) zero v h =
    inl (All-contains (λ u. Among (ends_of p) (whole u.at.x)) (vertices_of v.piece p) v
    (all_vertices_have (λ u. Among (ends_of p) (whole u.at.x)) (vertices_of v.piece p) (vertices_at-ends (Among (ends_of p)) v.piece p (own_ends p)))
    h)
vertex_end (p ∷ ps) (suc i) v h = inr (vertex_end ps i v h)

vertex_event : (pieces : List Piece) (x : Fraction) (v : Vertex) → IsVertexOf pieces v → right_of x v ≡ true → IsAheadEvent pieces x (whole v.at.x)
vertex_event pieces x v h l =
    record { number = whole-number v.at.x; event = is-event pieces (whole v.at.x) (inl (vertex_end pieces v.piece v h)); above = l }

-- an edge of the front, with its piece, one of the list
abbrev pub FrontEntry : List Piece → Fraction → Active → Type 0
FrontEntry pieces x a = EntryOf (passes x) (λ p. Some_in (λ r. r ≡ p) pieces) a

pub front_entries : (pieces : List Piece) (x : Fraction) (os : List Active) → AllByRecursion (IsEntry pieces) os →
    AllByRecursion (λ a. passes_at (passes x) pieces a.piece ≡ true) os → AllByRecursion (FrontEntry pieces x) os
front_entries pieces x [] e p = tt
front_entries pieces x (a ∷ os) e p =
    (entry_of (passes x) (λ p. Some_in (λ r. r ≡ p) pieces) pieces a.piece a e.0 p.0 (each_member pieces), front_entries pieces x os e.1 p.1)

plain_at_most : (m n : ℤ) → m ≤ℤ (n *ℤ pos 1) → m ≤ℤ n
plain_at_most m n h = omega (arith, ints)

weaker : (m n : ℤ) → (m *ℤ pos 1) <ℤ n → m ≤ℤ n
weaker m n h = omega (arith, ints)

-- an edge that goes on from x has a height there
front_height : (x : Fraction) (s t : Coordinates) (a : Active) → IsRun (edge_between s t) a → passes x (Edge s t) ≡ true → HasHeight (edge_between s t) x
front_height x s t a r h =
    let parts =
    and_parts (fraction_le (whole (left_end (edge_between s t)).x) x) (fraction_lt x (whole (right_end (edge_between s t)).x)) (sym (passes-places x s t) ∙ h) in
    record {
      slants = r.slants;
      reached =
          reached_from (edge_between s t) x
          (record {
            low = plain_at_most ((left_end (edge_between s t)).x *ℤ pos x.den) x.num (le_from_test _ _ parts.0);
            high = weaker x.num ((right_end (edge_between s t)).x *ℤ pos x.den) (lt_from_test _ _ parts.1);
          });
    }

-- the point that two neighbours share, further right, is a crossing
meeting_event : (pieces : List Piece) (x : Fraction) (a b : Active) (p : Point) → IsFraction x → FrontEntry pieces x a → FrontEntry pieces x b →
    IsMeetingAfter (line_of a) (line_of b) x p → IsAheadEvent pieces x (x_of p)
meeting_event pieces x a b p i h k m =
    let e = edge_between h.start h.end in
    let f = edge_between k.start k.end in
    let meeting = meeting-run e f a b x p h.run k.run m in
    let both = meeting-on_both e f x p meeting in
    let apart = meeting-apart e f x p (front_height x h.start h.end a h.run h.passed) (front_height x k.start k.end b k.run k.passed) i meeting in
    let is = crossing-is e f p apart m.only.0 both in
    let same = eq_from_test ((meeting_of_lines e f).x *ℤ pos p.d) (p.x *ℤ pos (meeting_of_lines e f).d) (and_parts _ _ (meeting-same e f p both)).0 in
    let P : Option Point → Type 0 = λ o. Among (crossing_place o) (x_of p) in
    let among : Among (crossing_place (crossing e f)) (x_of p) = subst P (sym is) (inl (sym same)) in
    record {
      number = place-IsFraction p m.only.0;
      event =
          is-event pieces (x_of p)
          (inr (Some_in-map (λ r. r ≡ Edge h.start h.end) (λ r. Some_in (λ s. Among (crossings_of r s) (x_of p)) pieces) pieces
          (λ r same_first.
          subst (λ (t : Piece). Some_in (λ s. Among (crossings_of t s) (x_of p)) pieces) (sym same_first)
          (Some_in-map (λ s. s ≡ Edge k.start k.end) (λ s. Among (crossings_of (Edge h.start h.end) s) (x_of p)) pieces
          (λ s same_second. subst (λ (t : Piece). Among (crossings_of (Edge h.start h.end) t) (x_of p)) (sym same_second) among)
          k.has))
          h.has));
      above = m.after;
    }

contact_events-from : (pieces : List Piece) (x : Fraction) (a : Active) (os : List Active) (cs : List Contact) → IsFraction x → FrontEntry pieces x a →
    AllByRecursion (FrontEntry pieces x) os → AreContactsFrom x a os cs → All (IsAheadEvent pieces x) (places_of cs)
contact_events-from pieces x a [] cs i h k c = subst (λ (ds : List Contact). All (IsAheadEvent pieces x) (places_of ds)) (sym c) (All-nil (IsAheadEvent pieces x))
contact_events-from pieces x a (b ∷ bs) [] i h k c = absurd c
contact_events-from pieces x a (b ∷ bs) (Never ∷ cs) i h k c = contact_events-from pieces x b bs cs i k.0 k.1 c.1
contact_events-from pieces x a (b ∷ bs) (Ahead p ∷ cs) i h k c =
    All-cons (IsAheadEvent pieces x) (x_of p) (places_of cs) (meeting_event pieces x a b p i h k.0 c.0) (contact_events-from pieces x b bs cs i k.0 k.1 c.1)
contact_events-from pieces x a (b ∷ bs) (Throughout ∷ cs) i h k c = contact_events-from pieces x b bs cs i k.0 k.1 c.1

contact_events : (pieces : List Piece) (x : Fraction) (os : List Active) (cs : List Contact) → IsFraction x → AllByRecursion (FrontEntry pieces x) os →
    AreContacts x os cs → All (IsAheadEvent pieces x) (places_of cs)
contact_events pieces x [] cs i k c = subst (λ (ds : List Contact). All (IsAheadEvent pieces x) (places_of ds)) (sym c) (All-nil (IsAheadEvent pieces x))
contact_events pieces x (a ∷ os) cs i k c = contact_events-from pieces x a os cs i k.0 k.1 c

pub candidate_events : (pieces : List Piece) (x : Fraction) (os : List Active) (cs : List Contact) (vs : List Vertex) → IsFront pieces x os cs → IsAhead pieces x vs →
    All (IsAheadEvent pieces x) (candidates (first_place vs) cs)
candidate_events pieces x os cs [] f a =
    contact_events pieces x os cs f.place (front_entries pieces x os f.entries (each_passes pieces (passes x) os f.active)) f.contacts
candidate_events pieces x os cs (v ∷ vs) f a =
    All-cons (IsAheadEvent pieces x) (whole v.at.x) (places_of cs) (vertex_event pieces x v a.each.0 a.later.0)
    (contact_events pieces x os cs f.place (front_entries pieces x os f.entries (each_passes pieces (passes x) os f.active)) f.contacts)
