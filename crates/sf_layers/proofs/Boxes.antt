-- Boxes of features that are changed: what an index has to do to go on agreeing with them.
use Rattle.std.specs.Prelude.{◌≡◌, ℕ, Bool, true, false, cond, if◌then◌else◌, List, [], ◌∷◌, map, Option, None, Some, option_map, IfSome, IsSomeAnd, nat_eq, not, ◌&&◌, ℤ}
use Rattle.std.specs.declared.cmp.Ordering.{Ordering}
use Rattle.std.specs.declared.cmp.Ordering.TheVariants.{Less, Equal, Greater}
use Rattle.std.specs.BTreeMap.{insert_entry, is_at}
use Rattle.std.specs.List.{AllByRecursion}
use Rattle.std.specs.List.Sorted.{IsStrictlySortedBy}
use Rattle.std.specs.Map.{keys_of, lookup, remove_entry, set_value}
use Rattle.std.specs.Ordering.{match_ordering, nat_cmp}
use Rattle.std.proofs.Common.{refl, ap, sym, subst, ◌∙◌, arith, int_eq}
use Rattle.std.proofs.lemmas.Bool.Decides.{Decides-int_eq, nat_tests}
use Rattle.sf_geometry.specs.declared.extent.Extent.{Extent}
use Rattle.sf_geometry.specs.Envelope.{envelope_of}
use Rattle.sf_features.specs.declared.attr_value.AttrValue.{AttrValue}
use Rattle.sf_features.specs.Features.{FeatureContent, with_value}
use Rattle.sf_rtree.specs.Indexes.{Boxes, box_of, with_box, without_box}
use Rattle.sf_layers.specs.Boxes.{Agrees, box_entry, boxes_of}
use Rattle.sf_layers.specs.Content.{change_value}
use Rattle.sf_layers.specs.Moves.{Features, put_each}
use Rattle.sf_layers.proofs.Changed.{is_at-nat_eq, set_value-same}
use Rattle.sf_layers.proofs.ColumnMoves.{feature-given}
use Rattle.sf_layers.proofs.Values.{bare, insert_entry-remove_entry, lookup-below}

-- ---- boxes of changed features

pub boxes_of-insert : (es : Features) (id : ℕ) (f : FeatureContent) → boxes_of (insert_entry nat_cmp es id f) ≡ with_box id (envelope_of f.geometry) (boxes_of es)
boxes_of-insert [] id f = refl
boxes_of-insert (e ∷ es) id f = by (boxes_of-insert es id f) (nat_cmp id e.0)
  where
    by : boxes_of (insert_entry nat_cmp es id f) ≡ with_box id (envelope_of f.geometry) (boxes_of es) → (o : Ordering)
        → boxes_of (match_ordering o ((id, f) ∷ e ∷ es) ((e.0, f) ∷ es) (e ∷ insert_entry nat_cmp es id f))
        ≡ match_ordering o ((id, envelope_of f.geometry) ∷ box_entry e ∷ boxes_of es) ((e.0, envelope_of f.geometry) ∷ boxes_of es) (box_entry e ∷ with_box id (envelope_of f.geometry) (boxes_of es))
    by rest Less = refl
    by rest Equal = refl
    by rest Greater = ap (λ bs. box_entry e ∷ bs) rest

pub boxes_of-remove : (t : ℕ → Bool) (es : Features) → boxes_of (remove_entry t es) ≡ remove_entry t (boxes_of es)
boxes_of-remove t [] = refl
boxes_of-remove t (e ∷ es) = by (boxes_of-remove t es) (t e.0)
  where
    by : boxes_of (remove_entry t es) ≡ remove_entry t (boxes_of es) → (b : Bool)
        → boxes_of (cond b es (e ∷ remove_entry t es)) ≡ cond b (boxes_of es) (box_entry e ∷ remove_entry t (boxes_of es))
    by rest true = refl
    by rest false = ap (λ bs. box_entry e ∷ bs) rest

pub boxes_of-set : (t : ℕ → Bool) (es : Features) (f : FeatureContent) → boxes_of (set_value t es f) ≡ set_value t (boxes_of es) (envelope_of f.geometry)
boxes_of-set t [] f = refl
boxes_of-set t (e ∷ es) f = by (boxes_of-set t es f) (t e.0)
  where
    by : boxes_of (set_value t es f) ≡ set_value t (boxes_of es) (envelope_of f.geometry) → (b : Bool)
        → boxes_of (cond b ((e.0, f) ∷ es) (e ∷ set_value t es f))
        ≡ cond b ((e.0, envelope_of f.geometry) ∷ boxes_of es) (box_entry e ∷ set_value t (boxes_of es) (envelope_of f.geometry))
    by rest true = refl
    by rest false = ap (λ bs. box_entry e ∷ bs) rest

-- the box of a feature
pub lookup-boxes_of : (t : ℕ → Bool) (es : Features) → lookup t (boxes_of es) ≡ option_map (λ f. envelope_of f.geometry) (lookup t es)
lookup-boxes_of t [] = refl
lookup-boxes_of t (e ∷ es) = by (lookup-boxes_of t es) (t e.0)
  where
    by : lookup t (boxes_of es) ≡ option_map (λ f. envelope_of f.geometry) (lookup t es) → (b : Bool)
        → cond b (Some (envelope_of e.1.geometry)) (lookup t (boxes_of es)) ≡ option_map (λ f. envelope_of f.geometry) (cond b (Some e.1) (lookup t es))
    by rest true = refl
    by rest false = rest

pub keys-boxes_of : (es : Features) → keys_of (boxes_of es) ≡ keys_of es
keys-boxes_of [] = refl
keys-boxes_of (e ∷ es) = ap (λ ks. e.0 ∷ ks) (keys-boxes_of es)

-- a change that leaves the geometry leaves the boxes
pub boxes_of-change : (t : ℕ → Bool) (g : FeatureContent → FeatureContent) → ((f : FeatureContent) → (g f).geometry ≡ f.geometry) → (es : Features)
    → boxes_of (change_value t es g) ≡ boxes_of es
boxes_of-change t g same [] = refl
boxes_of-change t g same (e ∷ es) = by (boxes_of-change t g same es) (t e.0)
  where
    by : boxes_of (change_value t es g) ≡ boxes_of es → (b : Bool)
        → boxes_of (if b then (e.0, g e.1) ∷ es else e ∷ change_value t es g) ≡ box_entry e ∷ boxes_of es
    by rest true = ap (λ geometry. (e.0, envelope_of geometry) ∷ boxes_of es) (same e.1)
    by rest false = ap (λ bs. box_entry e ∷ bs) rest

pub boxes_of-bare : (number : ℕ) (es : Features) → boxes_of (map (bare number) es) ≡ boxes_of es
boxes_of-bare number [] = refl
boxes_of-bare number (e ∷ es) = ap (λ bs. box_entry e ∷ bs) (boxes_of-bare number es)

-- ---- a box in the place of another

remove-set : {X : Type 0} (t : ℕ → Bool) (es : List (ℕ × X)) (w : X) → remove_entry t (set_value t es w) ≡ remove_entry t es
remove-set t [] w = refl
remove-set {X} t (e ∷ es) w = by (remove-set t es w) (t e.0) refl
  where
    by : remove_entry t (set_value t es w) ≡ remove_entry t es → (b : Bool) → t e.0 ≡ b
        → remove_entry t (cond b ((e.0, w) ∷ es) (e ∷ set_value t es w)) ≡ cond b es (e ∷ remove_entry t es)
    by rest true is = ap (λ b. cond b es ((e.0, w) ∷ remove_entry t es)) is
    by rest false is = ap (λ b. cond b (set_value t es w) (e ∷ remove_entry t (set_value t es w))) is ∙ ap (λ xs. e ∷ xs) rest

keys-set : {X : Type 0} (t : ℕ → Bool) (es : List (ℕ × X)) (w : X) → keys_of (set_value t es w) ≡ keys_of es
keys-set t [] w = refl
keys-set {X} t (e ∷ es) w = by (keys-set t es w) (t e.0)
  where
    by : keys_of (set_value t es w) ≡ keys_of es → (b : Bool) → keys_of (cond b ((e.0, w) ∷ es) (e ∷ set_value t es w)) ≡ e.0 ∷ keys_of es
    by rest true = refl
    by rest false = ap (λ ks. e.0 ∷ ks) rest

lookup-set : {X : Type 0} (t : ℕ → Bool) (es : List (ℕ × X)) (v w : X) → lookup t es ≡ Some v → lookup t (set_value t es w) ≡ Some w
lookup-set t [] v w there = cc
lookup-set {X} t (e ∷ es) v w there = by (lookup-set t es v w) (t e.0) refl there
  where
    by : (lookup t es ≡ Some v → lookup t (set_value t es w) ≡ Some w) → (b : Bool) → t e.0 ≡ b → cond b (Some e.1) (lookup t es) ≡ Some v
        → lookup t (cond b ((e.0, w) ∷ es) (e ∷ set_value t es w)) ≡ Some w
    by rest true is h = ap (λ b. cond b (Some w) (lookup t es)) is
    by rest false is h = ap (λ b. cond b (Some e.1) (lookup t (set_value t es w))) is ∙ rest h

-- taken out and put in again, a box stands where the old one stood
pub moved_box : (id : ℕ) (from to : Extent) (boxes : Boxes) → IsStrictlySortedBy nat_cmp (keys_of boxes) → box_of boxes id ≡ Some from
    → with_box id to (without_box id boxes) ≡ set_value (nat_eq id) boxes to
moved_box id from to boxes rising there =
    ap (with_box id to) (sym (remove-set (nat_eq id) boxes to))
    ∙ insert_entry-remove_entry id to (set_value (nat_eq id) boxes to)
    (subst (IsStrictlySortedBy nat_cmp) (sym (keys-set (nat_eq id) boxes to)) rising) (lookup-set (nat_eq id) boxes from to there)

-- and where they are the same nothing moves
pub kept_box : (id : ℕ) (from to : Extent) (boxes : Boxes) → box_of boxes id ≡ Some from → from ≡ to → boxes ≡ set_value (nat_eq id) boxes to
kept_box id from to boxes there same = sym (set_value-same (nat_eq id) boxes from to there (sym same))

pub boxes_of-put_each : (number : ℕ) (values : List (ℕ × AttrValue)) (es : Features) → boxes_of (put_each number values es) ≡ boxes_of es
boxes_of-put_each number [] es = refl
boxes_of-put_each number (v ∷ vs) es =
    boxes_of-change (nat_eq v.0) (with_value number v.1) (λ f. refl) (put_each number vs es) ∙ boxes_of-put_each number vs es

-- ---- what an index has to know of the features, and that it agrees with them after a change

set_value-tests : {X : Type 0} (t u : ℕ → Bool) → ((n : ℕ) → t n ≡ u n) → (es : List (ℕ × X)) (w : X) → set_value t es w ≡ set_value u es w
set_value-tests t u same [] w = refl
set_value-tests t u same (e ∷ es) w =
    ap (λ b. cond b ((e.0, w) ∷ es) (e ∷ set_value t es w)) (same e.0) ∙ ap (λ xs. cond (u e.0) ((e.0, w) ∷ es) (e ∷ xs)) (set_value-tests t u same es w)

remove-tests : {X : Type 0} (t u : ℕ → Bool) → ((n : ℕ) → t n ≡ u n) → (es : List (ℕ × X)) → remove_entry t es ≡ remove_entry u es
remove-tests t u same [] = refl
remove-tests t u same (e ∷ es) = ap (λ b. cond b es (e ∷ remove_entry t es)) (same e.0) ∙ ap (λ xs. cond (u e.0) es (e ∷ xs)) (remove-tests t u same es)

-- the box of a feature that is there
pub box-there : (index : Option Boxes) (features : Features) (id : ℕ) (feature : FeatureContent) (extent : Extent) → Agrees index features
    → Some feature ≡ lookup (is_at (nat_cmp id)) features → extent ≡ envelope_of feature.geometry → IfSome index (λ boxes. box_of boxes id ≡ Some extent)
box-there None features id feature extent agrees found is = tt
box-there (Some boxes) features id feature extent agrees found is =
    ap (λ bs. box_of bs id) agrees ∙ lookup-boxes_of (nat_eq id) features ∙ ap (option_map (λ f. envelope_of f.geometry)) (feature-given features id (Some feature) found) ∙ ap Some (sym is)

-- none where there is no feature
pub box-missing : (index : Option Boxes) (features : Features) (id : ℕ) → Agrees index features → lookup (nat_eq id) features ≡ None → IfSome index (λ boxes. box_of boxes id ≡ None)
box-missing None features id agrees none = tt
box-missing (Some boxes) features id agrees none = ap (λ bs. box_of bs id) agrees ∙ lookup-boxes_of (nat_eq id) features ∙ ap (option_map (λ f. envelope_of f.geometry)) none

pub boxes-rise : (index : Option Boxes) (features : Features) → Agrees index features → IsStrictlySortedBy nat_cmp (keys_of features) → IfSome index (λ boxes. IsStrictlySortedBy nat_cmp (keys_of boxes))
boxes-rise None features agrees rising = tt
boxes-rise (Some boxes) features agrees rising = subst (IsStrictlySortedBy nat_cmp) (sym (ap keys_of agrees ∙ keys-boxes_of features)) rising

-- an index that did to its boxes what was done to the features
followed : (index new : Option Boxes) (features after : Features) (change : Boxes → Boxes) → Agrees index features → boxes_of after ≡ change (boxes_of features)
    → IfSome new (λ boxes. IsSomeAnd index (λ old. boxes ≡ change old)) → Agrees new after
followed index None features after change agrees is h = tt
followed None (Some boxes) features after change agrees is h = absurd h
followed (Some old) (Some boxes) features after change agrees is h = h ∙ ap change agrees ∙ sym is

pub agrees-put : (index new : Option Boxes) (features after : Features) (id : ℕ) (feature : FeatureContent) (extent : Extent) → Agrees index features
    → after ≡ insert_entry nat_cmp features id feature → extent ≡ envelope_of feature.geometry
    → IfSome new (λ boxes. IsSomeAnd index (λ old. boxes ≡ with_box id extent old)) → Agrees new after
agrees-put index new features after id feature extent agrees written is =
    followed index new features after (with_box id extent) agrees
    (ap boxes_of written ∙ boxes_of-insert features id feature ∙ ap (λ e. with_box id e (boxes_of features)) (sym is))

pub agrees-taken : (index new : Option Boxes) (features after : Features) (id : ℕ) → Agrees index features → after ≡ remove_entry (is_at (nat_cmp id)) features
    → IfSome new (λ boxes. IsSomeAnd index (λ old. boxes ≡ without_box id old)) → Agrees new after
agrees-taken index new features after id agrees written =
    followed index new features after (without_box id) agrees
    (ap boxes_of written ∙ boxes_of-remove (is_at (nat_cmp id)) features ∙ remove-tests (is_at (nat_cmp id)) (nat_eq id) (is_at-nat_eq id) (boxes_of features))

pub agrees-changed : (index new : Option Boxes) (features after : Features) (id : ℕ) (changed : FeatureContent) (extent : Extent) → Agrees index features
    → after ≡ set_value (is_at (nat_cmp id)) features changed → extent ≡ envelope_of changed.geometry
    → IfSome new (λ boxes. IsSomeAnd index (λ old. boxes ≡ set_value (nat_eq id) old extent)) → Agrees new after
agrees-changed index new features after id changed extent agrees written is =
    followed index new features after (λ old. set_value (nat_eq id) old extent) agrees
    (ap boxes_of written ∙ boxes_of-set (is_at (nat_cmp id)) features changed ∙ set_value-tests (is_at (nat_cmp id)) (nat_eq id) (is_at-nat_eq id) (boxes_of features) (envelope_of changed.geometry)
    ∙ ap (set_value (nat_eq id) (boxes_of features)) (sym is))

-- and it goes on agreeing where all boxes stay
pub agrees-on : (index : Option Boxes) (features after : Features) → Agrees index features → boxes_of after ≡ boxes_of features → Agrees index after
agrees-on None features after agrees same = tt
agrees-on (Some boxes) features after agrees same = agrees ∙ sym same

-- as where a feature is written that has the geometry of the one before
pub agrees-written : (index : Option Boxes) (features after : Features) (id : ℕ) (feature changed : FeatureContent) → Agrees index features
    → Some feature ≡ lookup (is_at (nat_cmp id)) features → after ≡ set_value (is_at (nat_cmp id)) features changed → changed.geometry ≡ feature.geometry → Agrees index after
agrees-written index features after id feature changed agrees found written same =
    agrees-on index features after agrees
    (ap boxes_of written ∙ boxes_of-set (is_at (nat_cmp id)) features changed
    ∙ set_value-same (is_at (nat_cmp id)) (boxes_of features) (envelope_of feature.geometry) (envelope_of changed.geometry)
    (lookup-boxes_of (is_at (nat_cmp id)) features ∙ ap (option_map (λ f. envelope_of f.geometry)) (sym found)) (ap envelope_of same))

-- ---- an index whose box is exchanged

lookup-removed : {X : Type 0} (k : ℕ) (v : X) (es : List (ℕ × X)) → IsStrictlySortedBy nat_cmp (keys_of es) → lookup (nat_eq k) es ≡ Some v → lookup (nat_eq k) (remove_entry (nat_eq k) es) ≡ None
unfolding IsStrictlySortedBy
lookup-removed k v [] rising found = refl
lookup-removed {X} k v (e ∷ es) rising found = by (lookup-removed k v es rising.1) (nat_eq k e.0) refl found
  where
    by : (lookup (nat_eq k) es ≡ Some v → lookup (nat_eq k) (remove_entry (nat_eq k) es) ≡ None) → (b : Bool) → nat_eq k e.0 ≡ b → cond b (Some e.1) (lookup (nat_eq k) es) ≡ Some v
        → lookup (nat_eq k) (cond b es (e ∷ remove_entry (nat_eq k) es)) ≡ None
    by later true is h =
        let same : k ≡ e.0 = grind (arith, nat_tests, is) in
        lookup-below k es (subst (λ m. AllByRecursion (λ n. nat_cmp m n ≡ Less) (keys_of es)) (sym same) rising.0)
    by later false is h = ap (λ b. cond b (Some e.1) (lookup (nat_eq k) (remove_entry (nat_eq k) es))) is ∙ later h

pub box-gone : (index new : Option Boxes) (id : ℕ) (from : Extent) → IfSome index (λ boxes. box_of boxes id ≡ Some from) → IfSome index (λ boxes. IsStrictlySortedBy nat_cmp (keys_of boxes))
    → IfSome new (λ boxes. IsSomeAnd index (λ old. boxes ≡ without_box id old)) → IfSome new (λ boxes. box_of boxes id ≡ None)
box-gone index None id from there rising taken = tt
box-gone None (Some boxes) id from there rising taken = absurd taken
box-gone (Some old) (Some boxes) id from there rising taken = ap (λ bs. box_of bs id) taken ∙ lookup-removed id from old rising there

pub moved-box : (index between new : Option Boxes) (id : ℕ) (from to : Extent) → IfSome index (λ boxes. box_of boxes id ≡ Some from)
    → IfSome index (λ boxes. IsStrictlySortedBy nat_cmp (keys_of boxes)) → IfSome between (λ boxes. IsSomeAnd index (λ old. boxes ≡ without_box id old))
    → IfSome new (λ boxes. IsSomeAnd between (λ old. boxes ≡ with_box id to old)) → IfSome new (λ boxes. IsSomeAnd index (λ old. boxes ≡ set_value (nat_eq id) old to))
moved-box index between None id from to there rising taken put = tt
moved-box index None (Some boxes) id from to there rising taken put = absurd put
moved-box None (Some middle) (Some boxes) id from to there rising taken put = absurd taken
moved-box (Some old) (Some middle) (Some boxes) id from to there rising taken put = put ∙ ap (with_box id to) taken ∙ moved_box id from to old rising there

extent : ℤ → ℤ → ℤ → ℤ → Extent
extent min_x min_y max_x max_y = record { min_x = min_x; min_y = min_y; max_x = max_x; max_y = max_y }

-- boxes that compare as equal are one
pub same-extent : (a b : Extent) → not (int_eq a.min_x b.min_x && (int_eq a.min_y b.min_y && (int_eq a.max_x b.max_x && int_eq a.max_y b.max_y))) ≡ false → a ≡ b
unfolding extent
same-extent a b h = by (int_eq a.min_x b.min_x) (int_eq a.min_y b.min_y) (int_eq a.max_x b.max_x) (int_eq a.max_y b.max_y) refl refl refl refl h
  where
    by : (p q r s : Bool) → int_eq a.min_x b.min_x ≡ p → int_eq a.min_y b.min_y ≡ q → int_eq a.max_x b.max_x ≡ r → int_eq a.max_y b.max_y ≡ s → not (p && (q && (r && s))) ≡ false → a ≡ b
    by true true true true is-p is-q is-r is-s h =
        let x : a.min_x ≡ b.min_x = (Decides-int_eq a.min_x b.min_x).0 is-p in
        let y : a.min_y ≡ b.min_y = (Decides-int_eq a.min_y b.min_y).0 is-q in
        let u : a.max_x ≡ b.max_x = (Decides-int_eq a.max_x b.max_x).0 is-r in
        let v : a.max_y ≡ b.max_y = (Decides-int_eq a.max_y b.max_y).0 is-s in
        ap (λ n. extent n a.min_y a.max_x a.max_y) x ∙ ap (λ n. extent b.min_x n a.max_x a.max_y) y ∙ ap (λ n. extent b.min_x b.min_y n a.max_y) u ∙ ap (extent b.min_x b.min_y b.max_x) v
    by true true true false is-p is-q is-r is-s h = cc
    by true true false s is-p is-q is-r is-s h = cc
    by true false r s is-p is-q is-r is-s h = cc
    by false q r s is-p is-q is-r is-s h = cc

pub kept-box : (index : Option Boxes) (id : ℕ) (from to : Extent) → IfSome index (λ boxes. box_of boxes id ≡ Some from) → from ≡ to
    → IfSome index (λ boxes. IsSomeAnd index (λ old. boxes ≡ set_value (nat_eq id) old to))
kept-box None id from to there same = tt
kept-box (Some boxes) id from to there same = kept_box id from to boxes there same
