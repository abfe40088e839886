-- A sized geometry has a point, so it has a box.
use Rattle.std.proofs.Common.{◌≡◌, refl, ap, sym, ◌∙◌, Bool, true, false, ◌||◌, List, [], ◌∷◌, ◌++◌}
use Rattle.std.specs.Prelude.{None, Some}
use Rattle.std.specs.List.{fold, list_any}
use Rattle.std.proofs.lemmas.Bool.{false≢true}
use Rattle.std.proofs.lemmas.Grind.{flat_map-append}
use Rattle.sf_geometry.specs.declared.geometry.Geometry.{Geometry}
use Rattle.sf_geometry.specs.declared.geometry.Geometry.TheVariants.{Point, LineString, Polygon, MultiPoint, MultiLineString, MultiPolygon}
use Rattle.sf_geometry.specs.Envelope.{envelope_of, extent_of, grown}
use Rattle.sf_geometry.specs.Parts.{joined, points_of}
use Rattle.sf_geometry.specs.Size.{IsSized, has_empty, is_empty}
use Rattle.sf_geometry.proofs.ListLaws.{grown-all}

-- the list has a first member
pub record HasFirst {X : Type 0} (xs : List X) : Type 0 where
  pub first : X
  pub rest : List X
  pub is : xs ≡ first ∷ rest

filled : {X : Type 0} (xs : List X) → is_empty xs ≡ false → HasFirst xs
filled [] h = absurd (false≢true (sym h))
filled (x ∷ xs) h = record { first = x; rest = xs; is = refl }

or_left : (a b : Bool) → (a || b) ≡ false → a ≡ false
or_left true b h = h
or_left false b h = refl

or_right : (a b : Bool) → (a || b) ≡ false → b ≡ false
or_right true b h = absurd (false≢true (sym h))
or_right false b h = h

filled_lists : {X : Type 0} (xss : List (List X)) → has_empty xss ≡ false → HasFirst (joined xss)
filled_lists {X} [] h = absurd (false≢true (sym (or_left true (list_any (is_empty {X = X}) []) h)))
filled_lists (xs ∷ xss) h =
    let first = filled xs (or_left (is_empty xs) (list_any is_empty xss) (or_right (is_empty (xs ∷ xss)) (list_any is_empty (xs ∷ xss)) h)) in
    record { first = first.first; rest = first.rest ++ joined xss; is = ap (λ ys. ys ++ joined xss) first.is }

filled_polygons : {X : Type 0} (xsss : List (List (List X))) → (is_empty xsss || list_any has_empty xsss) ≡ false → HasFirst (joined (joined xsss))
filled_polygons {X} [] h = absurd (false≢true (sym (or_left true (list_any (has_empty {X = X}) []) h)))
filled_polygons (xss ∷ xsss) h =
    let first = filled_lists xss (or_left (has_empty xss) (list_any has_empty xsss) (or_right (is_empty (xss ∷ xsss)) (list_any has_empty (xss ∷ xsss)) h)) in
    record { first = first.first; rest = first.rest ++ joined (joined xsss); is = flat_map-append (λ xs. xs) xss (joined xsss) ∙ ap (λ ys. ys ++ joined (joined xsss)) first.is }

one_list : {X : Type 0} (xs : List X) → is_empty xs ≡ false → HasFirst (joined (xs ∷ []))
one_list xs h =
    let first = filled xs h in
    record { first = first.first; rest = first.rest ++ []; is = ap (λ ys. ys ++ []) first.is }

pub sized-first : (geometry : Geometry) → IsSized geometry → HasFirst (points_of geometry)
sized-first (Point p) h = record { first = p; rest = []; is = refl }
sized-first (LineString ps) h = one_list ps h.filled
sized-first (Polygon rings) h = filled_lists rings h.filled
sized-first (MultiPoint ps) h = one_list ps h.filled
sized-first (MultiLineString lines) h = filled_lists lines h.filled
sized-first (MultiPolygon polygons) h = filled_polygons polygons h.filled

pub grown-sized : (geometry : Geometry) → IsSized geometry → fold grown None (points_of geometry) ≡ Some (envelope_of geometry)
grown-sized geometry h =
    let first = sized-first geometry h in
    ap (λ ps. fold grown None ps) first.is ∙ grown-all first.first first.rest ∙ ap (λ ps. Some (extent_of ps)) (sym first.is)
