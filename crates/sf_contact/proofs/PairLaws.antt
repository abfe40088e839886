-- Edges of two geometries that share a point: one of either is one of several.
use Rattle.std.proofs.Common.{◌≡◌, refl, ap, sym, ◌∙◌, Bool, true, false, ◌||◌, List, [], ◌∷◌, inl, inr, ⊎_elim}
use Rattle.std.specs.Prelude.{if◌then◌else◌}
use Rattle.std.specs.List.{list_any}
use Rattle.std.proofs.lemmas.Bool.{both_ways, false_from_ne_true, or_cases, or_left, or_right}
use Rattle.std.proofs.lemmas.List.Folds.{list_any-append}
use Rattle.sf_grid.specs.Plane.{Coordinates, Point as PlanePoint, grid_point}
use Rattle.sf_grid.specs.Edge.{Edge, IsOnEdge, edge_between, on_edge}
use Rattle.sf_grid.specs.Sharing.{IsSharing}
use Rattle.sf_grid.specs.declared.meet.Meet.TheVariants.{Along, Apart, At}
use Rattle.sf_grid.proofs.CallerLemmas.{same_point_is_equivalence}
use Rattle.sf_geometry.specs.declared.extent.Extent.{Extent}
use Rattle.sf_geometry.specs.declared.geometry.Geometry.{Geometry}
use Rattle.sf_geometry.specs.declared.geometry.Geometry.TheVariants.{Point, LineString, Polygon, MultiPoint, MultiLineString, MultiPolygon}
use Rattle.sf_geometry.specs.Envelope.{envelope_of, extents_meet}
use Rattle.sf_geometry.specs.Lists.{edges_of as edges_of_list, is_same}
use Rattle.sf_geometry.specs.Parts.{edges_of, joined}
use Rattle.sf_geometry.specs.PointSets.{on_line, on_polygon}
use Rattle.sf_geometry.specs.Walks.{HasEdge}
use Rattle.sf_edge_tree.specs.Meeting.{Meets, extent_of_edge}
use Rattle.sf_geometry.proofs.ListLaws.{edges-step, same-is}
use Rattle.sf_interiors.proofs.ParityLaws.{on-edges}
use Rattle.sf_plane.proofs.BoxLaws.{common_point_meets, edge_in_box}
use Rattle.sf_valid_rules.specs.Validity.{IsValid}
use Rattle.sf_strands.proofs.EndLaws.{grid-IsPoint, start-on}
use Rattle.sf_validity.specs.Beside.{box_of_extent}
use Rattle.sf_relate.specs.Contact.{is_in}
use Rattle.sf_relate.proofs.CommonBoxLaws.{has-ends}
use Rattle.sf_relate.proofs.EnvelopeLaws.{lies_in_box, valid-closed}
use Rattle.sf_relate.proofs.FirstLaws.{in-lines}
use Rattle.sf_geometry.specs.PointSets.{in_boundary, in_interior, in_polygon}
use Rattle.sf_contact.specs.EdgeContact.{Share, on_lines, on_polygons}
use Rattle.sf_contact.specs.Absence.{on_edges}
use Rattle.sf_contact.specs.Pairs.{Tells}

-- what the one set has the other has
abbrev pub Leads : (PlanePoint → Bool) → (PlanePoint → Bool) → Type 0
Leads a b = (q : PlanePoint) → a q ≡ true → b q ≡ true

-- ---- edges of a geometry are in it
pub line-in : (ps : List Coordinates) → Leads (on_line ps) (is_in (LineString ps))
line-in ps q h = in-lines (on_line ps q) (in_boundary (LineString ps) q) h

pub lines-in : (lines : List (List Coordinates)) → Leads (on_lines lines) (is_in (MultiLineString lines))
lines-in lines q h = in-lines (on_lines lines q) (in_boundary (MultiLineString lines) q) h

pub rings-in : (rings : List (List Coordinates)) → Leads (on_lines rings) (is_in (Polygon rings))
rings-in rings q h = or_right (in_polygon rings q) (on_polygon rings q) h

pub polygons-in : (polygons : List (List (List Coordinates))) → Leads (on_polygons polygons) (is_in (MultiPolygon polygons))
polygons-in polygons q h = or_right (in_interior (MultiPolygon polygons) q) (in_boundary (MultiPolygon polygons) q) h

-- ---- one of several edges that shares a point with a set
abbrev any_on : List Edge → PlanePoint → Bool
any_on es q = list_any (λ e. on_edge e q) es

share-by : {a b c : PlanePoint → Bool} → ((q : PlanePoint) → a q ≡ true → c q ≡ true) → Share a b → Share c b
share-by leads s = record { q = s.q; is_point = s.is_point; in_first = leads s.q s.in_first; in_second = s.in_second }

pub share-flip : {a b : PlanePoint → Bool} → Share a b → Share b a
share-flip s = record { q = s.q; is_point = s.is_point; in_first = s.in_second; in_second = s.in_first }

pub one-shares : (other : PlanePoint → Bool) (es : List Edge) → HasEdge (λ e. Share (on_edge e) other) es → Share (any_on es) other
one-shares other [] none = absurd none
one-shares other (e ∷ es) has =
    ⊎_elim (λ here. share-by {c = any_on (e ∷ es)} (λ q on. or_left (on_edge e q) (any_on es q) on) here)
    (λ later. share-by {c = any_on (e ∷ es)} (λ q on. or_right (on_edge e q) (any_on es q) on) (one-shares other es later)) has

pub shared-by-one : (other : PlanePoint → Bool) (es : List Edge) → Share (any_on es) other → HasEdge (λ e. Share (on_edge e) other) es
shared-by-one other [] s = absurd (both_ways false refl s.in_first)
shared-by-one other (e ∷ es) s =
    ⊎_elim (λ here. inl (record { q = s.q; is_point = s.is_point; in_first = here; in_second = s.in_second }))
    (λ later. inr (shared-by-one other es (record { q = s.q; is_point = s.is_point; in_first = later; in_second = s.in_second })))
    (or_cases (on_edge e s.q) (any_on es s.q) s.in_first)

pub has-mapped : (P Q : Edge → Type 0) → ((e : Edge) → P e → Q e) → (es : List Edge) → HasEdge P es → HasEdge Q es
has-mapped P Q f [] none = absurd none
has-mapped P Q f (e ∷ es) has = ⊎_elim (λ here. inl (f e here)) (λ later. inr (has-mapped P Q f es later)) has

-- ---- the edges of a geometry
pub line-edges : (ps : List Coordinates) (q : PlanePoint) → on_line ps q ≡ on_edges (LineString ps) q
line-edges ps q = sym (on-edges (ps ∷ []) q ∙ alone (on_line ps q))
  where
    alone : (b : Bool) → (b || false) ≡ b
    alone true = refl
    alone false = refl

pub lines-edges : (lines : List (List Coordinates)) (q : PlanePoint) → on_lines lines q ≡ on_edges (MultiLineString lines) q
lines-edges lines q = sym (on-edges lines q)

pub rings-edges : (rings : List (List Coordinates)) (q : PlanePoint) → on_lines rings q ≡ on_edges (Polygon rings) q
rings-edges rings q = sym (on-edges rings q)

pub polygons-edges : (polygons : List (List (List Coordinates))) (q : PlanePoint) → on_polygons polygons q ≡ on_edges (MultiPolygon polygons) q
polygons-edges polygons q = by_parts polygons ∙ sym (on-edges (joined polygons) q)
  where
    by_parts : (polygons : List (List (List Coordinates))) → on_polygons polygons q ≡ on_polygon (joined polygons) q
    by_parts [] = refl
    by_parts (rings ∷ polygons) = ap (λ b. on_polygon rings q || b) (by_parts polygons) ∙ sym (list_any-append (λ ring. on_line ring q) rings (joined polygons))

-- ---- two edges
pair-edge : (p r : Coordinates) (q : PlanePoint) → is_same p r ≡ false → on_line (p ∷ r ∷ []) q ≡ (on_edge (edge_between p r) q || false)
pair-edge p r q differ =
    ap (λ es. list_any (λ e. on_edge e q) es) (edges-step p r [])
    ∙ ap (λ b. list_any (λ e. on_edge e q) (if b then edges_of_list (r ∷ []) else edge_between p r ∷ edges_of_list (r ∷ []))) differ

pair-on : (p r : Coordinates) (q : PlanePoint) → is_same p r ≡ false → on_line (p ∷ r ∷ []) q ≡ true → IsOnEdge (edge_between p r) q
pair-on p r q differ on = ⊎_elim (λ here. here) (λ none. absurd (both_ways false refl none)) (or_cases (on_edge (edge_between p r) q) false (sym (pair-edge p r q differ) ∙ on))

pub pair-has : (p r : Coordinates) (q : PlanePoint) → is_same p r ≡ false → IsOnEdge (edge_between p r) q → on_line (p ∷ r ∷ []) q ≡ true
pair-has p r q differ on = pair-edge p r q differ ∙ or_left (on_edge (edge_between p r) q) false on

pub differ-by : (p r : Coordinates) → ¬ (p ≡ r) → is_same p r ≡ false
differ-by p r differ = false_from_ne_true (is_same p r) (λ same. differ (same-is p r same))

-- what `meet` says of the edge between two points that differ and another edge
pub met-at : (s t p r : Coordinates) (q : PlanePoint) → is_same s t ≡ false → IsSharing (edge_between s t) (edge_between p r) (At q) → Share (on_edge (edge_between p r)) (on_line (s ∷ t ∷ []))
met-at s t p r q d h =
    let on = (h.1 q h.0).1 (same_point_is_equivalence.reflexive q) in
    record { q = q; is_point = h.0; in_first = on.1; in_second = pair-has s t q d on.0 }

pub met-along : (s t p r a b : Coordinates) → is_same s t ≡ false → IsSharing (edge_between s t) (edge_between p r) (Along a b) → Share (on_edge (edge_between p r)) (on_line (s ∷ t ∷ []))
met-along s t p r a b d h =
    let on = (h.1 (grid_point a) (grid-IsPoint a)).1 (start-on a b) in
    record { q = grid_point a; is_point = grid-IsPoint a; in_first = on.1; in_second = pair-has s t (grid_point a) d on.0 }

pub met-nowhere : (s t p r : Coordinates) → is_same s t ≡ false → IsSharing (edge_between s t) (edge_between p r) Apart → ¬ (Share (on_edge (edge_between p r)) (on_line (s ∷ t ∷ [])))
met-nowhere s t p r d none share = none share.q share.is_point (pair-on s t share.q d share.in_second, share.in_first)

-- equal points have no edge
pub same-pair : (p r : Coordinates) (q : PlanePoint) → is_same p r ≡ true → on_line (p ∷ r ∷ []) q ≡ false
same-pair p r q same =
    ap (λ es. list_any (λ e. on_edge e q) es) (edges-step p r [])
    ∙ ap (λ b. list_any (λ e. on_edge e q) (if b then edges_of_list (r ∷ []) else edge_between p r ∷ edges_of_list (r ∷ []))) same

pub none-meets : (s t : Coordinates) (e : Edge) → is_same s t ≡ true → ¬ (Share (on_edge e) (on_line (s ∷ t ∷ [])))
none-meets s t e same share = both_ways (on_line (s ∷ t ∷ []) share.q) (same-pair s t share.q same) share.in_second

-- an edge of the geometry meets the edge between two points that differ
pub pair-by-one : (p r : Coordinates) (other : Geometry) → ¬ (p ≡ r) → HasEdge (λ e. Share (on_edge e) (on_line (p ∷ r ∷ []))) (edges_of other) → Share (on_edge (edge_between p r)) (on_edges other)
pair-by-one p r other differ has =
    share-by {c = on_edge (edge_between p r)} (λ q on. pair-on p r q (differ-by p r differ) on) (share-flip (one-shares (on_line (p ∷ r ∷ [])) (edges_of other) has))

pub one-by-pair : (p r : Coordinates) (other : Geometry) → ¬ (p ≡ r) → Share (on_edge (edge_between p r)) (on_edges other) → HasEdge (λ e. Share (on_edge e) (on_line (p ∷ r ∷ []))) (edges_of other)
one-by-pair p r other differ shared =
    shared-by-one (on_line (p ∷ r ∷ [])) (edges_of other) (share-flip (share-by {c = on_line (p ∷ r ∷ [])} (λ q on. pair-has p r q (differ-by p r differ) on) shared))

-- ---- an edge apart from the other geometry's box
pub edges-in : (g : Geometry) (q : PlanePoint) → on_edges g q ≡ true → is_in g q ≡ true
edges-in (Point p) q on = absurd (both_ways false refl on)
edges-in (MultiPoint ps) q on = absurd (both_ways false refl on)
edges-in (LineString ps) q on = line-in ps q (line-edges ps q ∙ on)
edges-in (MultiLineString lines) q on = lines-in lines q (lines-edges lines q ∙ on)
edges-in (Polygon rings) q on = rings-in rings q (rings-edges rings q ∙ on)
edges-in (MultiPolygon polygons) q on = polygons-in polygons q (polygons-edges polygons q ∙ on)

pub near-other : (e : Edge) (other : Geometry) → IsValid other → Share (on_edge e) (on_edges other) → extents_meet (extent_of_edge (e.a, e.b)) (envelope_of other) ≡ true
near-other e other v s =
    common_point_meets (box_of_extent (extent_of_edge (e.a, e.b))) (box_of_extent (envelope_of other)) s.q s.is_point
    (edge_in_box (box_of_extent (extent_of_edge (e.a, e.b))) e s.q (has-ends (e.a, e.b)) s.is_point s.in_first)
    (lies_in_box other s.q (valid-closed other v) s.is_point (edges-in other s.q s.in_second))

-- an edge that shares a point with one of the other geometry
abbrev pub SharesWith : Geometry → Edge → Type 0
SharesWith other e = Share (on_edge e) (on_edges other)

pub meets-by-one : (geometry other : Geometry) (extent : Extent) → HasEdge (Meets extent (SharesWith other)) (edges_of geometry) → Share (on_edges geometry) (on_edges other)
meets-by-one geometry other extent has =
    one-shares (on_edges other) (edges_of geometry) (has-mapped (Meets extent (SharesWith other)) (SharesWith other) (λ e meets. meets.1) (edges_of geometry) has)

pub met-by-one : (geometry other : Geometry) (extent : Extent) → IsValid other → extent ≡ envelope_of other → Share (on_edges geometry) (on_edges other) → HasEdge (Meets extent (SharesWith other)) (edges_of geometry)
met-by-one geometry other extent v is shared =
    has-mapped (SharesWith other) (Meets extent (SharesWith other)) (λ e s. (ap (extents_meet (extent_of_edge (e.a, e.b))) is ∙ near-other e other v s, s)) (edges_of geometry)
    (shared-by-one (on_edges other) (edges_of geometry) shared)

-- ---- what an answer tells
pub tells-by : (told : Bool) (a b : PlanePoint → Bool) → (told ≡ true → Share a b) → (Share a b → told ≡ true) → Tells told a b
tells-by true a b shares shared = shares refl
tells-by false a b shares shared = λ s. both_ways false refl (shared s)
