-- What samples say of gaps is so over all points of the plane.
use Rattle.std.proofs.Common.{◌≡◌, Bool, true, false, ◌&&◌, ◌++◌, cond, not, inl, inr, List, [], ◌∷◌, find, None, Some, refl, ap, subst}
use Rattle.std.specs.List.{AllByRecursion, list_any}
use Rattle.std.proofs.lemmas.List.Elements.{All-from_recursion, recursion_from_All}
use Rattle.sf_grid.specs.Plane.{IsPoint, Point as PlanePoint}
use Rattle.sf_strips.specs.declared.piece.Piece.{Piece}
use Rattle.sf_cells.specs.Samples.{Sample, samples}
use Rattle.sf_geometry.specs.declared.geometry.Geometry.{Geometry}
use Rattle.sf_geometry.specs.PointSets.{in_boundary, in_interior}
use Rattle.sf_plane.proofs.CombineLaws.{and_union, any_union, not_union, or_union}
use Rattle.sf_plane.proofs.CoverLaws.{in_append_left, in_append_right}
use Rattle.sf_plane.proofs.PlaceLaws.{IsIn}
use Rattle.sf_plane.proofs.SampleCellLaws.{every_sample}
use Rattle.sf_plane.proofs.UnionLaws.{samples_tell}
use Rattle.sf_plane.specs.Dimension.{PointSet}
use Rattle.sf_plane.specs.Unions.{IsUnionOfCells}
use Rattle.sf_relate.specs.AllPieces.{with_ends}
use Rattle.sf_relate.specs.Contact.{is_in}
use Rattle.sf_relate.proofs.SetLaws.{HasAll, boundary_union, interior_union}
use Rattle.sf_cover.specs.Covered.{CoverIsOverThePlane, GapsAreInThePlane, in_gap, is_in_each, is_in_some, pieces_in, pieces_of_each}

-- ---- the sets are unions of cells

each-from_in : {X : Type 0} (P : X → Type 0) (xs : List X) → ((x : X) → IsIn xs x → P x) → AllByRecursion P xs
each-from_in P [] h = record {}
each-from_in P (x ∷ xs) h = (h x (inl refl), each-from_in P xs (λ y i. h y (inr i)))

-- the pieces of each of several geometries are among all
has-each : (all : List Piece) (gs : List Geometry) → ((x : Piece) → IsIn (pieces_of_each gs) x → IsIn all x) → AllByRecursion (HasAll all) gs
has-each all [] among = record {}
has-each all (g ∷ gs) among = (
  each-from_in (IsIn all) (with_ends g) (λ x i. among x (in_append_left (with_ends g) (pieces_of_each gs) x i)),
  has-each all gs (λ x i. among x (in_append_right (with_ends g) (pieces_of_each gs) x i)),
)

has-parts : {X : Type 0} (P : X → Type 0) (xs ys : List X) → AllByRecursion P (xs ++ ys) → AllByRecursion P xs × AllByRecursion P ys
has-parts P [] ys h = (record {}, h)
has-parts P (x ∷ xs) ys h = let parts = has-parts P xs ys h.1 in ((h.0, parts.0), parts.1)

is_in-union : (all : List Piece) (a : Geometry) → HasAll all a → IsUnionOfCells all (is_in a)
is_in-union all a h = or_union all (in_interior a) (in_boundary a) (interior_union all a h) (boundary_union all a h)

each-union : (all : List Piece) (f : Geometry → PointSet) (gs : List Geometry) → ((g : Geometry) → HasAll all g → IsUnionOfCells all (f g))
    → AllByRecursion (HasAll all) gs → AllByRecursion (λ g. IsUnionOfCells all (f g)) gs
each-union all f [] made h = record {}
each-union all f (g ∷ gs) made h = (made g h.0, each-union all f gs made h.1)

some-union : (all : List Piece) (gs : List Geometry) → AllByRecursion (HasAll all) gs → IsUnionOfCells all (is_in_some gs)
some-union all gs h = any_union all is_in gs (each-union all is_in gs (is_in-union all) h)

each-in-union : (all : List Piece) (gs : List Geometry) → AllByRecursion (HasAll all) gs → IsUnionOfCells all (is_in_each gs)
each-in-union all gs h =
    not_union all (λ q. list_any (λ g. not (is_in g q)) gs)
    (any_union all (λ g q. not (is_in g q)) gs (each-union all (λ g q. not (is_in g q)) gs (λ g i. not_union all (is_in g) (is_in-union all g i)) h))

has-in : (wholes covers : List Geometry) → AllByRecursion (HasAll (pieces_in wholes covers)) (wholes ++ covers)
has-in wholes covers = has-each (pieces_in wholes covers) (wholes ++ covers) (λ x i. i)

gap-union : (wholes covers : List Geometry) → IsUnionOfCells (pieces_in wholes covers) (in_gap wholes covers)
gap-union wholes covers =
    let all = pieces_in wholes covers in
    let parts = has-parts (HasAll all) wholes covers (has-in wholes covers) in
    and_union all (is_in_each wholes) (λ q. not (is_in_some covers q)) (each-in-union all wholes parts.0) (not_union all (is_in_some covers) (some-union all covers parts.1))

-- ---- the first that passes a test

none-passes : {X : Type 0} (p : X → Bool) (xs : List X) → find p xs ≡ None → AllByRecursion (λ x. not (p x) ≡ true) xs
none-passes p [] h = record {}
none-passes p (x ∷ xs) h = by (p x) refl (none-passes p xs) h
  where
    by : (b : Bool) → p x ≡ b → (find p xs ≡ None → AllByRecursion (λ y. not (p y) ≡ true) xs) → cond b (Some x) (find p xs) ≡ None → AllByRecursion (λ y. not (p y) ≡ true) (x ∷ xs)
    by true is later k = cc
    by false is later k = (ap not is, later k)

passes-none : {X : Type 0} (p : X → Bool) (xs : List X) → AllByRecursion (λ x. not (p x) ≡ true) xs → find p xs ≡ None
passes-none p [] h = refl
passes-none p (x ∷ xs) h = by (p x) refl h.0 (passes-none p xs h.1)
  where
    by : (b : Bool) → p x ≡ b → not (p x) ≡ true → find p xs ≡ None → cond b (Some x) (find p xs) ≡ None
    by true is k rest = cc
    by false is k rest = rest

first-passes : {X : Type 0} (P : X → Type 0) (p : X → Bool) (xs : List X) (x : X) → AllByRecursion P xs → find p xs ≡ Some x → P x × (p x ≡ true)
first-passes P p [] x h found = cc
first-passes P p (y ∷ ys) x h found = by (p y) refl (first-passes P p ys x h.1) found
  where
    by : (b : Bool) → p y ≡ b → (find p ys ≡ Some x → P x × (p x ≡ true)) → cond b (Some y) (find p ys) ≡ Some x → P x × (p x ≡ true)
    by true is later k = let same : y ≡ x = cc in subst (λ z. P z × (p z ≡ true)) same (h.0, is)
    by false is later k = later k

-- ---- covered

covered-gap : (wholes covers : List Geometry) (q : PlanePoint) → not (in_gap wholes covers q) ≡ true → is_in_each wholes q ≡ true → is_in_some covers q ≡ true
covered-gap wholes covers q h inside = by (is_in_each wholes q) (is_in_some covers q) h inside
  where
    by : (a b : Bool) → not (a && not b) ≡ true → a ≡ true → b ≡ true
    by true true h k = refl
    by true false h k = cc
    by false b h k = cc

gap-covered : (wholes covers : List Geometry) (q : PlanePoint) → (is_in_each wholes q ≡ true → is_in_some covers q ≡ true) → not (in_gap wholes covers q) ≡ true
gap-covered wholes covers q h = by (is_in_each wholes q) (is_in_some covers q) h
  where
    by : (a b : Bool) → (a ≡ true → b ≡ true) → not (a && not b) ≡ true
    by true true h = refl
    by true false h = let k = h refl in cc
    by false b h = refl

pub cover-over : CoverIsOverThePlane
cover-over wholes covers =
    let all = pieces_in wholes covers in
    let union = not_union all (in_gap wholes covers) (gap-union wholes covers) in
    let told = (samples_tell all (λ q. not (in_gap wholes covers q)) union).every_point in
    let is_free : Sample → Type 0 = λ s. not (in_gap wholes covers s.point) ≡ true in (
      λ none q is inside. covered-gap wholes covers q
          (told.1 (All-from_recursion is_free (samples all) (none-passes (λ s. in_gap wholes covers s.point) (samples all) none)) q is) inside,
      λ covered. passes-none (λ s. in_gap wholes covers s.point) (samples all)
          (recursion_from_All is_free (samples all) (told.0 (λ q is. gap-covered wholes covers q (covered q is)))),
    )

pub gaps-in : GapsAreInThePlane
gaps-in wholes covers s found =
    let all = pieces_in wholes covers in
    first-passes (λ (t : Sample). IsPoint t.point) (λ t. in_gap wholes covers t.point) (samples all) s
    (recursion_from_All (λ (t : Sample). IsPoint t.point) (samples all) (λ k d less. (every_sample all k d less).0)) found
