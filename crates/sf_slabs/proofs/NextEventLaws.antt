-- The next event is the least candidate; where there is none, no event is left.
use Rattle.std.proofs.Common.{◌≡◌, refl, sym, ◌∙◌, subst, ℤ, pos, ◌*ℤ◌, ◌≤ℤ◌, arith, true, false, List, [], ◌∷◌, Option, Some, None, inl, inr}
use Rattle.std.specs.List.{AllByRecursion, flat_map}
use Rattle.std.proofs.lemmas.Bool.{and_parts}
use Rattle.std.proofs.lemmas.Int.{ints}
use Rattle.std.proofs.lemmas.List.Elements.{All-contains}
use Rattle.sf_grid.specs.Fraction.{Fraction, IsFraction, fraction_le, fraction_lt, whole}
use Rattle.sf_grid.specs.Plane.{Point, x_of}
use Rattle.sf_grid.specs.Edge.{Edge as Line, crossing, edge_between, left_end, right_end}
use Rattle.sf_grid.proofs.CallerLemmas.{lies, reach, test_from_le}
use Rattle.sf_strips.specs.declared.piece.Piece.{Piece}
use Rattle.sf_strips.specs.declared.piece.Piece.TheVariants.{Dot, Edge}
use Rattle.sf_strips.specs.declared.active.Active.{Active}
use Rattle.sf_strips.specs.declared.contact.Contact.{Contact}
use Rattle.sf_strips.specs.declared.vertex.Vertex.{Vertex}
use Rattle.sf_strips.specs.Next.{IsLeastOf, candidates, first_place, places_of}
use Rattle.sf_cells.specs.Pieces.{ends_of}
use Rattle.sf_cells.specs.Samples.{crossing_place, crossings_of}
use Rattle.sf_strips.specs.Vertices.{all_vertices}
use Rattle.sf_slabs.proofs.AboveLaws.{passes}
use Rattle.sf_slabs.proofs.ColumnLaws.{event_places}
use Rattle.sf_slabs.proofs.CrossLaws.{is-crossing, place-IsFraction}
use Rattle.sf_slabs.proofs.EndLaws.{Each-ends, Each-right, Later, all_good, each_passes, ends-all_vertices, passes-places, whole-number, each_piece-at, each-always, Each-pieces}
use Rattle.sf_slabs.proofs.EventLaws.{Some_in}
use Rattle.sf_slabs.proofs.FollowLaws.{lt_le-places}
use Rattle.sf_slabs.proofs.FrontLaws.{IsClear, NoEndRight}
use Rattle.sf_slabs.proofs.NextLaws.{IsLast, IsNext}
use Rattle.sf_slabs.proofs.Shapes.{IsAhead, IsFront, right_of}
use Rattle.sf_slabs.proofs.CandidateLaws.{least_places, least_waits, no_end_before, IsAheadEvent, FrontEntry, front_entries, candidate_events}
use Rattle.sf_slabs.proofs.NoCrossingLaws.{crossings_later}
use Rattle.sf_slabs.proofs.EachLaws.{each-append, each-map}

-- ---- the next event
-- up to the least candidate, nothing begins or ends and no neighbours meet
pub next-clear : (pieces : List Piece) (x y : Fraction) (os : List Active) (cs : List Contact) (vs : List Vertex) → IsFront pieces x os cs → IsAhead pieces x vs →
    IsLeastOf (candidates (first_place vs) cs) y → IsClear pieces x y cs
next-clear pieces x y os cs vs f a l =
    let here = All-contains (IsAheadEvent pieces x) (candidates (first_place vs) cs) y (candidate_events pieces x os cs vs f a) l.among in
    record {
      place = here.number;
      ahead = here.above;
      ends = no_end_before pieces x y vs cs a l.least;
      waits = least_waits y cs (least_places y vs cs l.least);
    }

-- the least candidate is the next event
pub next-is : (pieces : List Piece) (x y : Fraction) (os : List Active) (cs : List Contact) (vs : List Vertex) → IsFront pieces x os cs → IsAhead pieces x vs →
    IsLeastOf (candidates (first_place vs) cs) y → IsNext (event_places pieces) x y
next-is pieces x y os cs vs f a l =
    let here = All-contains (IsAheadEvent pieces x) (candidates (first_place vs) cs) y (candidate_events pieces x os cs vs f a) l.among in
    let clear = next-clear pieces x y os cs vs f a l in
    record {
      number = here.number;
      among = here.event;
      above = here.above;
      least =
          each-append (Later x y) (flat_map ends_of pieces) (flat_map (λ p. flat_map (crossings_of p) pieces) pieces)
          (Each-ends (Later x y) pieces clear.ends)
          (Each-pieces (Later x y) (λ p. flat_map (crossings_of p) pieces) pieces
          (each_piece-at (λ p. AllByRecursion (Later x y) (flat_map (crossings_of p) pieces)) pieces
          (λ i p first.
          Each-pieces (Later x y) (crossings_of p) pieces
          (each_piece-at (λ r. AllByRecursion (Later x y) (crossings_of p r)) pieces (λ j r second. crossings_later pieces x y os cs f clear i j p r first second)))));
    }

-- ---- the last event
abbrev NeverRight : Fraction → Fraction → Type 0
NeverRight x q = fraction_lt x q ≡ true → ⊥

pub none_ahead : (pieces : List Piece) (x : Fraction) → IsAhead pieces x [] → NoEndRight pieces x
none_ahead pieces x a =
    ends-all_vertices (NeverRight x) 0 pieces
    (each-map (λ v. right_of x v ≡ true → false ≡ true) (λ v. NeverRight x (whole v.at.x)) (all_vertices 0 pieces)
    (λ v h l. never (h l))
    (all_good pieces (right_of x) (λ v. false) [] a.are tt))
  where
    never : false ≡ true → ⊥
    never e = cc

no_front : (pieces : List Piece) (x : Fraction) (os : List Active) → AllByRecursion (FrontEntry pieces x) os → NoEndRight pieces x → os ≡ []
no_front pieces x [] e n = refl
no_front pieces x (a ∷ os) e n =
    absurd (Each-right (NeverRight x) e.0.start e.0.end (found pieces e.0.has n)
    (and_parts (fraction_le (whole (left_end (edge_between e.0.start e.0.end)).x) x) (fraction_lt x (whole (right_end (edge_between e.0.start e.0.end)).x))
    (sym (passes-places x e.0.start e.0.end) ∙ e.0.passed)).1)
  where
    found : (ps : List Piece) → Some_in (λ r. r ≡ Edge e.0.start e.0.end) ps → AllByRecursion (λ p. AllByRecursion (NeverRight x) (ends_of p)) ps →
        AllByRecursion (NeverRight x) (ends_of (Edge e.0.start e.0.end))
    found [] h k = absurd h
    found (p ∷ ps) h k =
        elim h [
          | inl same ↦ subst (λ (r : Piece). AllByRecursion (NeverRight x) (ends_of r)) same k.0
          | inr later ↦ found ps later k.1
        ]

no_crossing_right : (x : Fraction) (p r : Piece) → IsFraction x → AllByRecursion (NeverRight x) (ends_of p) → AllByRecursion (NeverRight x) (crossings_of p r)
no_crossing_right x (Dot a) r i h = tt
no_crossing_right x (Edge a b) (Dot c) i h = tt
no_crossing_right x (Edge a b) (Edge s t) i h = by_crossing (crossing (edge_between a b) (edge_between s t)) refl
  where
    e : Line
    e = edge_between a b

    to_whole : (m n : ℤ) → m ≤ℤ n → (m *ℤ pos 1) ≤ℤ n
    to_whole m n l = omega (arith, ints)

    by_crossing : (o : Option Point) → crossing (edge_between a b) (edge_between s t) ≡ o → AllByRecursion (NeverRight x) (crossing_place o)
    by_crossing None k = tt
    by_crossing (Some c) k = (
      λ m.
          let is = is-crossing (edge_between a b) (edge_between s t) c k in
          let high = (reach e (x_of c) (lies e c is.both.0).x).high in
          Each-right (NeverRight x) a b h
          (lt_le-places x (x_of c) (whole (right_end e).x) i (place-IsFraction c is.point) (whole-number (right_end e).x) m
          (test_from_le _ _ (to_whole c.x ((right_end e).x *ℤ pos c.d) high))),
      tt,
    )

no_event_right : (pieces : List Piece) (x : Fraction) → IsFraction x → NoEndRight pieces x → IsLast (event_places pieces) x
no_event_right pieces x i n =
    each-append (NeverRight x) (flat_map ends_of pieces) (flat_map (λ p. flat_map (crossings_of p) pieces) pieces)
    (Each-ends (NeverRight x) pieces n)
    (Each-pieces (NeverRight x) (λ p. flat_map (crossings_of p) pieces) pieces
    (each-map (λ p. AllByRecursion (NeverRight x) (ends_of p)) (λ p. AllByRecursion (NeverRight x) (flat_map (crossings_of p) pieces)) pieces
    (λ p h. Each-pieces (NeverRight x) (crossings_of p) pieces
    (each-always (λ r. AllByRecursion (NeverRight x) (crossings_of p r)) pieces (λ r. no_crossing_right x p r i h)))
    n))

-- nothing is left right of x
pub record IsEnd (pieces : List Piece) (x : Fraction) (os : List Active) (vs : List Vertex) : Type 0 where
  pub last : IsLast (event_places pieces) x
  pub no_edge : os ≡ []
  pub no_vertex : vs ≡ []
  pub no_end : NoEndRight pieces x

-- where there is no candidate, no event is left
pub last-is : (pieces : List Piece) (x : Fraction) (os : List Active) (cs : List Contact) (vs : List Vertex) → IsFront pieces x os cs → IsAhead pieces x vs →
    candidates (first_place vs) cs ≡ [] → IsEnd pieces x os vs
last-is pieces x os cs [] f a e =
    let none = none_ahead pieces x a in
    record {
      last = no_event_right pieces x f.place none;
      no_edge = no_front pieces x os (front_entries pieces x os f.entries (each_passes pieces (passes x) os f.active)) none;
      no_vertex = refl;
      no_end = none;
    }
last-is pieces x os cs (v ∷ vs) f a e = absurd (never (whole v.at.x) (places_of cs) e)
  where
    never : (q : Fraction) (qs : List Fraction) → q ∷ qs ≡ [] → ⊥
    never q qs l = cc
