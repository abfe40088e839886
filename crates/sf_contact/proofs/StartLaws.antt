-- A part that begins in the other geometry is contact; where none does, the edges decide.
use Rattle.std.proofs.Common.{subst, ◌≡◌, refl, ap, sym, ◌∙◌, arith, ℕ, Bool, true, false, ◌&&◌, ◌||◌, List, [], ◌∷◌, ◌++◌, length, nat_lt, ⊎_elim}
use Rattle.std.specs.List.{AllByRecursion, flat_map, list_any}
use Rattle.std.proofs.lemmas.Bool.{and_parts, both_ways, false_from_ne_true, or_cases, or_left, or_parts, or_right}
use Rattle.std.proofs.lemmas.List.Folds.{list_any-append}
use Rattle.sf_grid.specs.Plane.{Coordinates, grid_point, same_point}
use Rattle.sf_grid.specs.Edge.{on_edge}
use Rattle.sf_grid.proofs.CallerLemmas.{same_point_is_equivalence}
use Rattle.sf_slabs.proofs.CallerLemmas.{each-map, each-parts}
use Rattle.sf_geometry.specs.declared.geometry.Geometry.{Geometry}
use Rattle.sf_geometry.specs.declared.geometry.Geometry.TheVariants.{Point, LineString, Polygon, MultiPoint, MultiLineString, MultiPolygon}
use Rattle.sf_geometry.specs.Lists.{edges_between, edges_of as edges_of_list, tight}
use Rattle.sf_geometry.specs.Parts.{joined, lines_of, polygons_of, rings_of}
use Rattle.sf_geometry.specs.PointSets.{is_among}
use Rattle.sf_valid_rules.specs.Conditions.{Applies}
use Rattle.sf_valid_rules.specs.Rules.{Rule, line_rules, polygon_rules, ring_rules}
use Rattle.sf_valid_rules.specs.Validity.{IsValid}
use Rattle.sf_valid_rules.proofs.MemberLaws.{each-of_flat}
use Rattle.sf_plane.proofs.CombineLaws.{start_on_edge}
use Rattle.sf_interiors.proofs.SlantLaws.{is_grid}
use Rattle.sf_relate.specs.Contact.{SharePoint, is_in}
use Rattle.sf_relate.specs.declared.shape.Shape.TheVariants.{Lines}
use Rattle.sf_relate.specs.Places.{shape_of}
use Rattle.sf_contact.specs.EdgeContact.{Share}
use Rattle.sf_relate.specs.Matrices.{matrix_of}
use Rattle.sf_known.specs.Patterns.{has_contact}
use Rattle.sf_relate.proofs.PlaceLaws.{tight-of}
use Rattle.sf_relate.proofs.SharedLaws.{contact_is_shared}
use Rattle.sf_contact.specs.Absence.{begins_in, has_start_in, is_lines, on_edges}
use Rattle.sf_contact.specs.Pairs.{Tells}
use Rattle.sf_contact.proofs.AbsenceLaws.{absence_is_decided, lines-on}
use Rattle.sf_contact.proofs.PairLaws.{edges-in}

-- ---- lines and rings of valid geometries have edges

-- a list has two different neighbours
abbrev IsLong : List Coordinates → Type 0
IsLong ps = ¬ (nat_lt (length (tight ps)) 2 ≡ true)

abbrev NoneOf : Rule → Type 0
NoneOf rule = ¬ (Applies rule.condition)

shorter : (n : ℕ) → nat_lt n 2 ≡ true → nat_lt n 4 ≡ true
shorter n h = grind arith

record HasLong (a : Geometry) : Type 0 where
  lines : AllByRecursion IsLong (lines_of a)
  rings : AllByRecursion IsLong (rings_of a)

long-parts : (a : Geometry) → IsValid a → HasLong a
long-parts a v =
    let both = (each-parts NoneOf (flat_map line_rules (lines_of a) ++ flat_map ring_rules (rings_of a)) (polygon_rules (polygons_of a)) v.faultless).0 in
    let parts = each-parts NoneOf (flat_map line_rules (lines_of a)) (flat_map ring_rules (rings_of a)) both in
    record {
      lines = each-map (λ ps. AllByRecursion NoneOf (line_rules ps)) IsLong (lines_of a) (λ ps h. h.0) (each-of_flat NoneOf line_rules (lines_of a) parts.0);
      rings = each-map (λ ps. AllByRecursion NoneOf (ring_rules ps)) IsLong (rings_of a) (λ ps h short. h.1.0 (shorter (length (tight ps)) short)) (each-of_flat NoneOf ring_rules (rings_of a) parts.1);
    }

starts-on : (p : Coordinates) (ps : List Coordinates) → IsLong (p ∷ ps) → list_any (λ e. on_edge e (grid_point p)) (edges_of_list (p ∷ ps)) ≡ true
starts-on p ps long =
    let t = tight-of p ps in
    ap (λ ts. list_any (λ e. on_edge e (grid_point p)) (edges_between ts)) t.is ∙ by t.rest (λ short. long (ap (λ ts. nat_lt (length ts) 2) t.is ∙ short))
  where
    by : (rest : List Coordinates) → ¬ (nat_lt (length (p ∷ rest)) 2 ≡ true) → list_any (λ e. on_edge e (grid_point p)) (edges_between (p ∷ rest)) ≡ true
    by [] h = absurd (h refl)
    by (s ∷ rest) h = or_left _ _ (start_on_edge p s)

-- ---- a part that begins in the other

lists-start : (b : Geometry) (lists : List (List Coordinates)) → AllByRecursion IsLong lists → list_any (begins_in b) lists ≡ true
    → Share (λ q. list_any (λ e. on_edge e q) (flat_map edges_of_list lists)) (is_in b)
lists-start b [] long any = absurd (both_ways false refl any)
lists-start b ([] ∷ lists) long any =
    let rest = lists-start b lists long.1 (⊎_elim (λ none. absurd (both_ways false refl none)) (λ later. later) (or_cases false (list_any (begins_in b) lists) any)) in
    rest
lists-start b ((p ∷ ps) ∷ lists) long any =
    ⊎_elim
    (λ here.
    record {
      q = grid_point p;
      is_point = is_grid p;
      in_first =
          list_any-append (λ e. on_edge e (grid_point p)) (edges_of_list (p ∷ ps)) (flat_map edges_of_list lists)
          ∙ or_left (list_any (λ e. on_edge e (grid_point p)) (edges_of_list (p ∷ ps))) (list_any (λ e. on_edge e (grid_point p)) (flat_map edges_of_list lists)) (starts-on p ps long.0);
      in_second = here;
    })
    (λ later.
    let rest = lists-start b lists long.1 later in
    record {
      q = rest.q;
      is_point = rest.is_point;
      in_first =
          list_any-append (λ e. on_edge e rest.q) (edges_of_list (p ∷ ps)) (flat_map edges_of_list lists)
          ∙ or_right (list_any (λ e. on_edge e rest.q) (edges_of_list (p ∷ ps))) (list_any (λ e. on_edge e rest.q) (flat_map edges_of_list lists)) rest.in_first;
      in_second = rest.in_second;
    })
    (or_cases (is_in b (grid_point p)) (list_any (begins_in b) lists) any)

-- a share of a geometry's edges is one of the geometry
of-edges : (a b : Geometry) → Share (on_edges a) (is_in b) → SharePoint a b
of-edges a b s = record { q = s.q; is_point = s.is_point; in_first = edges-in a s.q s.in_first; in_second = s.in_second }

points-start : (b : Geometry) (ps : List Coordinates) → list_any (λ p. is_in b (grid_point p)) ps ≡ true → Share (is_among ps) (is_in b)
points-start b [] any = absurd (both_ways false refl any)
points-start b (p ∷ ps) any =
    ⊎_elim
    (λ here. record { q = grid_point p; is_point = is_grid p; in_first = or_left (same_point (grid_point p) (grid_point p)) (is_among ps (grid_point p)) (same_point_is_equivalence.reflexive (grid_point p)); in_second = here })
    (λ later.
    let rest = points-start b ps later in
    record { q = rest.q; is_point = rest.is_point; in_first = or_right (same_point (grid_point p) rest.q) (is_among ps rest.q) rest.in_first; in_second = rest.in_second })
    (or_cases (is_in b (grid_point p)) (list_any (λ r. is_in b (grid_point r)) ps) any)

start-shared : (a b : Geometry) → IsValid a → has_start_in a b ≡ true → SharePoint a b
start-shared (Point p) b v any =
    record { q = grid_point p; is_point = is_grid p; in_first = or_left (same_point (grid_point p) (grid_point p)) false (same_point_is_equivalence.reflexive (grid_point p)); in_second = any }
start-shared (MultiPoint ps) b v any =
    let s = points-start b ps any in
    record { q = s.q; is_point = s.is_point; in_first = or_left (is_among ps s.q) false s.in_first; in_second = s.in_second }
start-shared (LineString ps) b v any = of-edges (LineString ps) b (lists-start b (ps ∷ []) (long-parts (LineString ps) v).lines any)
start-shared (MultiLineString lines) b v any = of-edges (MultiLineString lines) b (lists-start b lines (long-parts (MultiLineString lines) v).lines any)
start-shared (Polygon rings) b v any = of-edges (Polygon rings) b (lists-start b rings (each-parts IsLong rings [] (long-parts (Polygon rings) v).rings).0 any)
start-shared (MultiPolygon polygons) b v any = of-edges (MultiPolygon polygons) b (lists-start b (joined polygons) (long-parts (MultiPolygon polygons) v).rings any)

-- ---- contact

-- what is told is whether they have contact, whichever comes first
pub record IsContact (told : Bool) (a b : Geometry) : Type 0 where
  pub first : told ≡ has_contact (matrix_of a b)
  pub second : told ≡ has_contact (matrix_of b a)

flipped : (a b : Geometry) → SharePoint a b → SharePoint b a
flipped a b s = record { q = s.q; is_point = s.is_point; in_first = s.in_second; in_second = s.in_first }

shared : (a b : Geometry) → SharePoint a b → IsContact true a b
shared a b s = record { first = sym ((contact_is_shared a b).shared.1 s); second = sym ((contact_is_shared b a).shared.1 (flipped a b s)) }

none : (a b : Geometry) → ¬ (SharePoint a b) → IsContact false a b
none a b h = record {
  first = sym (false_from_ne_true (has_contact (matrix_of a b)) (λ is. h ((contact_is_shared a b).shared.0 is)));
  second = sym (false_from_ne_true (has_contact (matrix_of b a)) (λ is. h (flipped b a ((contact_is_shared b a).shared.0 is))));
}

pub contact-by-start : (a b : Geometry) → IsValid a → has_start_in a b ≡ true → IsContact true a b
contact-by-start a b v any = shared a b (start-shared a b v any)

pub contact-by-other : (a b : Geometry) → IsValid b → has_start_in b a ≡ true → IsContact true a b
contact-by-other a b v any = shared a b (flipped b a (start-shared b a v any))

pub contact-by-shared : (a b : Geometry) → Share (on_edges a) (on_edges b) → IsContact true a b
contact-by-shared a b s = shared a b (of-edges a b (record { q = s.q; is_point = s.is_point; in_first = s.in_first; in_second = edges-in b s.q s.in_second }))

pub contact-by-edges : (a b : Geometry) (told : Bool) → IsValid a → IsValid b → has_start_in a b ≡ false → has_start_in b a ≡ false → Tells told (on_edges a) (on_edges b) → IsContact told a b
contact-by-edges a b true va vb first second s = contact-by-shared a b s
contact-by-edges a b false va vb first second apart =
    none a b (absence_is_decided a b va vb apart (ap (λ t. t || has_start_in b a) first ∙ second))

-- where a part of either begins in the other
pub contact-by-starts : (a b : Geometry) → IsValid a → IsValid b → (has_start_in a b || has_start_in b a) ≡ true → IsContact true a b
contact-by-starts a b va vb any = by_first (has_start_in a b) refl any
  where
    by_first : (first : Bool) → has_start_in a b ≡ first → (first || has_start_in b a) ≡ true → IsContact true a b
    by_first true is h = contact-by-start a b va is
    by_first false is h = contact-by-other a b vb h

-- where no part of either begins in the other
pub contact-without-starts : (a b : Geometry) (told : Bool) → IsValid a → IsValid b → (has_start_in a b || has_start_in b a) ≡ false → Tells told (on_edges a) (on_edges b) → IsContact told a b
contact-without-starts a b told va vb off tells =
    let parts = or_parts (has_start_in a b) (has_start_in b a) off in
    contact-by-edges a b told va vb parts.0 parts.1 tells

-- where no point is on an edge of each
pub contact-by-any : (a b : Geometry) → IsValid a → IsValid b → ¬ (Share (on_edges a) (on_edges b)) → IsContact (has_start_in a b || has_start_in b a) a b
contact-by-any a b va vb apart = by_starts (has_start_in a b) (has_start_in b a) refl refl
  where
    by_starts : (first second : Bool) → has_start_in a b ≡ first → has_start_in b a ≡ second → IsContact (first || second) a b
    by_starts true second is_first is_second = contact-by-start a b va is_first
    by_starts false true is_first is_second = contact-by-other a b vb is_second
    by_starts false false is_first is_second = contact-by-edges a b false va vb is_first is_second apart

-- lines whose edges share no point have no contact, wherever they begin
of-lines : (a : Geometry) → is_lines a ≡ true → shape_of a ≡ Lines
of-lines (LineString ps) is = refl
of-lines (MultiLineString lines) is = refl
of-lines (Point p) is = absurd (both_ways false refl is)
of-lines (MultiPoint ps) is = absurd (both_ways false refl is)
of-lines (Polygon rings) is = absurd (both_ways false refl is)
of-lines (MultiPolygon polygons) is = absurd (both_ways false refl is)

pub contact-of-lines : (a b : Geometry) → (is_lines a && is_lines b) ≡ true → ¬ (Share (on_edges a) (on_edges b)) → IsContact false a b
contact-of-lines a b lines apart =
    let both = and_parts (is_lines a) (is_lines b) lines in
    none a b
    (λ s.
    apart
    (record {
      q = s.q;
      is_point = s.is_point;
      in_first = lines-on a s.q (of-lines a both.0) s.is_point s.in_first;
      in_second = lines-on b s.q (of-lines b both.1) s.is_point s.in_second;
    }))

-- whether edges share a point, and whether a part begins in the other where they don't
pub contact-by-met : (a b : Geometry) (met told : Bool) → Tells met (on_edges a) (on_edges b) → met ≡ true → told ≡ met → IsContact told a b
contact-by-met a b true told shares h is = subst (λ (t : Bool). IsContact t a b) (sym is) (contact-by-shared a b shares)
contact-by-met a b false told apart h is = absurd (both_ways false refl h)

pub contact-without-met : (a b : Geometry) (met starts told : Bool) → IsValid a → IsValid b → Tells met (on_edges a) (on_edges b) → met ≡ false → starts ≡ (has_start_in a b || has_start_in b a) → told ≡ starts → IsContact told a b
contact-without-met a b true starts told va vb shares h by is = absurd (both_ways true h refl)
contact-without-met a b false starts told va vb apart h by is = subst (λ (t : Bool). IsContact t a b) (sym (is ∙ by)) (contact-by-any a b va vb apart)

pub any-joined : {X : Type 0} (test : X → Bool) (lists : List (List X)) → list_any (λ xs. list_any test xs) lists ≡ list_any test (joined lists)
any-joined test [] = refl
any-joined test (xs ∷ lists) = ap (λ b. list_any test xs || b) (any-joined test lists) ∙ sym (list_any-append test xs (joined lists))
