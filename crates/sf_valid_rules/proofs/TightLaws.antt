-- Tight lists: neighbours differ, so their edges have length, and each point of a list is in its tight list.
use Rattle.std.proofs.Common.{◌≡◌, ◌≢◌, refl, sym, subst, Bool, true, false, List, [], ◌∷◌}
use Rattle.std.specs.Prelude.{if◌then◌else◌}
use Rattle.std.specs.List.{AllByRecursion}
use Rattle.std.proofs.lemmas.Bool.{and_from, both_ways}
use Rattle.sf_grid.specs.Plane.{Coordinates}
use Rattle.sf_grid.specs.Edge.{Edge as Line}
use Rattle.sf_grid.proofs.CallerLemmas.{test_from_eq}
use Rattle.sf_geometry.specs.Lists.{before_tight, edges_between, edges_from, edges_of, ends_of, is_closed, is_same, last_from, tight}
use Rattle.sf_geometry.proofs.ListLaws.{same-is}

-- ---- neighbours differ
-- no point of the list is the one after it
abbrev DifferFrom : Coordinates → List Coordinates → Type 0
DifferFrom p [] = Unit {0}
DifferFrom p (q ∷ qs) = (is_same p q ≡ false) × DifferFrom q qs

abbrev Differ : List Coordinates → Type 0
Differ [] = Unit {0}
Differ (p ∷ ps) = DifferFrom p ps

before-differ : (p : Coordinates) (qs : List Coordinates) → Differ qs → Differ (before_tight p qs)
before-differ p [] h = tt
before-differ p (q ∷ qs) h = by_same (is_same p q) refl
  where
    by_same : (t : Bool) → is_same p q ≡ t → Differ (if t then q ∷ qs else p ∷ q ∷ qs)
    by_same true e = h
    by_same false e = (e, h)

tight-differ : (ps : List Coordinates) → Differ (tight ps)
tight-differ [] = tt
tight-differ (p ∷ ps) = before-differ p (tight ps) (tight-differ ps)

same-self : (p : Coordinates) → is_same p p ≡ true
same-self p = and_from _ _ (test_from_eq p.x p.x refl) (test_from_eq p.y p.y refl)

differ-is : (p q : Coordinates) → is_same p q ≡ false → p ≢ q
differ-is p q h e = both_ways (is_same p q) h (subst (λ (r : Coordinates). is_same p r ≡ true) e (same-self p))

edges-from_differ : (p : Coordinates) (ps : List Coordinates) → DifferFrom p ps → AllByRecursion (λ (e : Line). e.a ≢ e.b) (edges_from p ps)
edges-from_differ p [] h = tt
edges-from_differ p (q ∷ qs) h = (differ-is p q h.0, edges-from_differ q qs h.1)

edges-between_differ : (ps : List Coordinates) → Differ ps → AllByRecursion (λ (e : Line). e.a ≢ e.b) (edges_between ps)
edges-between_differ [] h = tt
edges-between_differ (p ∷ ps) h = edges-from_differ p ps h

-- the ends of each edge of a line or ring differ
pub edges-differ : (ps : List Coordinates) → AllByRecursion (λ (e : Line). e.a ≢ e.b) (edges_of ps)
edges-differ ps = edges-between_differ (tight ps) (tight-differ ps)

-- ---- what each vertex has, the ends of edges and of lines have
edges-from_ends : (P : Coordinates → Type 0) (p : Coordinates) (ps : List Coordinates) → P p → AllByRecursion P ps → AllByRecursion (λ (e : Line). P e.a × P e.b) (edges_from p ps)
edges-from_ends P p [] h k = tt
edges-from_ends P p (q ∷ qs) h k = ((h, k.0), edges-from_ends P q qs k.0 k.1)

edges-between_ends : (P : Coordinates → Type 0) (ps : List Coordinates) → AllByRecursion P ps → AllByRecursion (λ (e : Line). P e.a × P e.b) (edges_between ps)
edges-between_ends P [] h = tt
edges-between_ends P (p ∷ ps) h = edges-from_ends P p ps h.0 h.1

pub edges-ends : (P : Coordinates → Type 0) (ps : List Coordinates) → AllByRecursion P (tight ps) → AllByRecursion (λ (e : Line). P e.a × P e.b) (edges_of ps)
edges-ends P ps h = edges-between_ends P (tight ps) h

before-each : (P : Coordinates → Type 0) (p : Coordinates) (qs : List Coordinates) → AllByRecursion P (before_tight p qs) → P p × AllByRecursion P qs
before-each P p [] h = (h.0, tt)
before-each P p (q ∷ qs) h = by_same (is_same p q) refl h
  where
    by_same : (t : Bool) → is_same p q ≡ t → AllByRecursion P (if t then q ∷ qs else p ∷ q ∷ qs) → P p × AllByRecursion P (q ∷ qs)
    by_same true e k = (subst P (sym (same-is p q e)) k.0, k)
    by_same false e k = (k.0, k.1)

-- each point of a list has what those of its tight list have
tight-each : (P : Coordinates → Type 0) (ps : List Coordinates) → AllByRecursion P (tight ps) → AllByRecursion P ps
tight-each P [] h = tt
tight-each P (p ∷ ps) h = let parts = before-each P p (tight ps) h in (parts.0, tight-each P ps parts.1)

last-has : (P : Coordinates → Type 0) (p : Coordinates) (ps : List Coordinates) → P p → AllByRecursion P ps → P (last_from p ps)
last-has P p [] h k = h
last-has P p (q ∷ qs) h k = last-has P q qs k.0 k.1

each-ends : (P : Coordinates → Type 0) (ps : List Coordinates) → AllByRecursion P ps → AllByRecursion P (ends_of ps)
each-ends P [] h = tt
each-ends P (p ∷ ps) h = by_closed (is_closed (p ∷ ps))
  where
    by_closed : (t : Bool) → AllByRecursion P (if t then [] else p ∷ last_from p ps ∷ [])
    by_closed true = tt
    by_closed false = (h.0, (last-has P p ps h.0 h.1, tt))

pub tight-ends : (P : Coordinates → Type 0) (ps : List Coordinates) → AllByRecursion P (tight ps) → AllByRecursion P (ends_of ps)
tight-ends P ps h = each-ends P ps (tight-each P ps h)
