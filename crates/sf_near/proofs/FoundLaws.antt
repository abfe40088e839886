-- Features with the squares of their distances as the code has them, and as the definitions have them.
use Rattle.std.proofs.Common.{◌≡◌, inl, inr, refl, ap, sym, subst, ◌∙◌, ℕ, zero, suc, ◌+◌, ◌<◌, ◌≤◌, Bool, true, false, List, [], ◌∷◌, ◌++◌, length, take, filter, map, cond, pos, ◌*ℤ◌, get_or, Option, Some, IsTrue, IsSome, arith}
use Rattle.std.specs.Prelude.{if◌then◌else◌}
use Rattle.std.specs.List.{AllByRecursion}
use Rattle.std.specs.Option.{option_map_or}
use Rattle.std.specs.Map.{keys_of}
use Rattle.sf_grid.specs.Fraction.{Fraction, IsFraction, fraction_eq, fraction_le, whole}
use Rattle.sf_grid.proofs.NumberTests.{eq_from_test, same_tests, test_from_eq}
use Rattle.sf_geometry.specs.declared.geometry.Geometry.{Geometry}
use Rattle.sf_distance.specs.Mixed.{number_of}
use Rattle.sf_nearness.specs.Least.{least_square_of}
use Rattle.sf_features.specs.Features.{FeatureContent}
use Rattle.sf_layers.specs.Content.{LayerContent, feature_of}
use Rattle.sf_near.specs.declared.distant.Distant.{Distant}
use Rattle.sf_layers.specs.WellFormed.{IsLayer}
use Rattle.sf_nearness.proofs.PairLaws.{least_is_number}
use Rattle.sf_query.proofs.FilterLaws.{IsFoundIn, each-filter, each-found, keys-there}
use Rattle.std.proofs.lemmas.List.{length-map, map-append, take_more}
use Rattle.sf_near.specs.Answers.{is_within_of}
use Rattle.sf_near.specs.Found.{AreEnough, AreTold, IsTold, distance_at, distance_told, is_told_nearer}
use Rattle.sf_near.specs.Nearest.{distance_of, in_order, is_nearer, nearest_of, put_in_order}
use Rattle.sf_near.proofs.NearerLaws.{Feature, IsGood, chain, one_way, same-numbers, within-before}
use Rattle.sf_near.proofs.OrderedLaws.{AreOrder, each-in_order, in_order-append, in_order-passing, length-in_order, ordered-in_order, take-passing, take-put}

same-way : (a b : Fraction) → IsTrue (fraction_eq a b) → IsTrue (fraction_eq b a)
same-way a b h = test_from_eq (b.num *ℤ pos a.den) (a.num *ℤ pos b.den) (sym (eq_from_test (a.num *ℤ pos b.den) (b.num *ℤ pos a.den) h))

told-nearer : (d e : Distant) (p q : Feature) → IsTold d p → IsTold e q → is_told_nearer d e ≡ is_nearer p q
told-nearer d e p q s t =
    same_tests (is_told_nearer d e) (is_nearer p q)
    (same-numbers (distance_told d) (distance_told e) p q s.told t.told s.is_number t.is_number s.same t.same s.equal t.equal)
    (same-numbers p q (distance_told d) (distance_told e) s.is_number t.is_number s.told t.told (sym s.same) (sym t.same)
    (same-way (number_of d.square) p.1 s.equal) (same-way (number_of e.square) q.1 t.equal))

pub told-put : (d : Distant) (p : Feature) (ds : List Distant) (ps : List Feature) → IsTold d p → AreTold ds ps → AreTold (put_in_order is_told_nearer d ds) (put_in_order is_nearer p ps)
told-put d p [] [] s all = (s, tt)
told-put d p [] (q ∷ ps) s all = absurd all
told-put d p (e ∷ ds) [] s all = absurd all
told-put d p (e ∷ ds) (q ∷ ps) s all = by (is_told_nearer e d) (is_nearer q p) (told-nearer e d q p all.0 s) (told-put d p ds ps s all.1)
  where
    by : (b c : Bool) → b ≡ c → AreTold (put_in_order is_told_nearer d ds) (put_in_order is_nearer p ps)
        → AreTold (if b then e ∷ put_in_order is_told_nearer d ds else d ∷ e ∷ ds) (if c then q ∷ put_in_order is_nearer p ps else p ∷ q ∷ ps)
    by true true h later = (all.0, later)
    by false false h later = (s, all)
    by true false h later = absurd cc
    by false true h later = absurd cc

pub told-take : (k : ℕ) (ds : List Distant) (ps : List Feature) → AreTold ds ps → AreTold (take k ds) (take k ps)
told-take zero ds ps all = tt
told-take (suc k) [] [] all = tt
told-take (suc k) [] (p ∷ ps) all = absurd all
told-take (suc k) (d ∷ ds) [] all = absurd all
told-take (suc k) (d ∷ ds) (p ∷ ps) all = (all.0, told-take k ds ps all.1)

-- one more that is put among the nearest so far
pub told-more : (k : ℕ) (d : Distant) (p : Feature) (ds new : List Distant) (ps : List Feature) → IsTold d p → AreTold ds (take k (in_order is_nearer [] ps))
    → new ≡ take k (put_in_order is_told_nearer d ds) → AreTold new (take k (in_order is_nearer [] (ps ++ p ∷ [])))
told-more k d p ds new ps s all is =
    subst (λ (es : List Distant). AreTold es (take k (in_order is_nearer [] (ps ++ p ∷ [])))) (sym is)
    (subst (AreTold (take k (put_in_order is_told_nearer d ds)))
    (take-put is_nearer k p (in_order is_nearer [] ps) ∙ ap (take k) (sym (in_order-append is_nearer [] ps p)))
    (told-take k (put_in_order is_told_nearer d ds) (put_in_order is_nearer p (take k (in_order is_nearer [] ps))) (told-put d p ds (take k (in_order is_nearer [] ps)) s all)))

-- ---- a feature of a layer

feature-at : (layer : LayerContent) (b : Geometry) (id : ℕ) (f : FeatureContent) → feature_of layer id ≡ Some f → distance_at layer b id ≡ distance_of b (id, f)
feature-at layer b id f found =
    ap (λ (o : Option FeatureContent). (id, option_map_or (λ (feature : FeatureContent). least_square_of feature.geometry b) o (whole (pos 0)))) found

pub told-one : (layer : LayerContent) (a b : Geometry) (d : Distant) (f : FeatureContent) → feature_of layer d.id ≡ Some f → a ≡ f.geometry → IsFraction (number_of d.square)
    → IsTrue (fraction_eq (number_of d.square) (least_square_of a b)) → IsTold d (distance_at layer b d.id)
told-one layer a b d f found same is equal =
    subst (IsTold d) (sym (feature-at layer b d.id f found)) (record {
      same = refl;
      equal = subst (λ (g : Geometry). IsTrue (fraction_eq (number_of d.square) (least_square_of g b))) same equal;
      told = is;
      is_number = least_is_number f.geometry b;
    })

-- the next one of a list is put among the nearest of those before it
pub told-next : (k i e : ℕ) (ids : List ℕ) (layer : LayerContent) (b : Geometry) (d : Distant) (ds new : List Distant) → i < length ids → d.id ≡ get_or ids i e → IsTold d (distance_at layer b d.id)
    → AreTold ds (take k (in_order is_nearer [] (map (distance_at layer b) (take i ids)))) → new ≡ take k (put_in_order is_told_nearer d ds)
    → AreTold new (take k (in_order is_nearer [] (map (distance_at layer b) (take (i + 1) ids))))
told-next k i e ids layer b d ds new below this one all is =
    let ps = map (distance_at layer b) (take i ids) in
    let front : map (distance_at layer b) (take (i + 1) ids) ≡ ps ++ distance_at layer b d.id ∷ [] =
    ap (map (distance_at layer b)) (take_more ids i e below) ∙ map-append (distance_at layer b) (take i ids) (get_or ids i e ∷ []) ∙ ap (λ id. ps ++ distance_at layer b id ∷ []) (sym this) in
    subst (λ qs. AreTold new (take k (in_order is_nearer [] qs))) (sym front) (told-more k d (distance_at layer b d.id) ds new ps one all is)

-- ---- all of a layer, or those within a bound

distances : (layer : LayerContent) (b : Geometry) (es : List (ℕ × FeatureContent)) → AllByRecursion (IsFoundIn layer.features) es → map (distance_at layer b) (keys_of es) ≡ map (distance_of b) es
distances layer b [] found = refl
distances layer b (e ∷ es) found = ap (λ (p : Feature). p ∷ map (distance_at layer b) (keys_of es)) (feature-at layer b e.0 e.1 found.0) ∙ ap (λ ps. distance_of b e ∷ ps) (distances layer b es found.1)

filtered : (bound : Fraction) (b : Geometry) (es : List (ℕ × FeatureContent)) → map (distance_of b) (filter (λ e. is_within_of bound e.1.geometry b) es) ≡ filter (λ (p : Feature). fraction_le p.1 bound) (map (distance_of b) es)
filtered bound b [] = refl
filtered bound b (e ∷ es) = by (is_within_of bound e.1.geometry b) (filtered bound b es)
  where
    by : (t : Bool) → map (distance_of b) (filter (λ e. is_within_of bound e.1.geometry b) es) ≡ filter (λ (p : Feature). fraction_le p.1 bound) (map (distance_of b) es)
        → map (distance_of b) (cond t (e ∷ filter (λ e. is_within_of bound e.1.geometry b) es) (filter (λ e. is_within_of bound e.1.geometry b) es))
        ≡ cond t (distance_of b e ∷ filter (λ (p : Feature). fraction_le p.1 bound) (map (distance_of b) es)) (filter (λ (p : Feature). fraction_le p.1 bound) (map (distance_of b) es))
    by true later = ap (λ ps. distance_of b e ∷ ps) later
    by false later = later

pub all-good : (b : Geometry) (es : List (ℕ × FeatureContent)) → AllByRecursion IsGood (map (distance_of b) es)
all-good b [] = tt
all-good b (e ∷ es) = (least_is_number e.1.geometry b, all-good b es)

pub order : AreOrder is_nearer IsGood
order = record { one_way = one_way; chain = chain }

length-keys : (es : List (ℕ × FeatureContent)) (b : Geometry) → length (keys_of es) ≡ length (map (distance_of b) es)
length-keys [] b = refl
length-keys (e ∷ es) b = ap suc (length-keys es b)

-- the nearest of enough ones are the nearest
pub enough : (layer : LayerContent) (k : ℕ) (b : Geometry) (ids : List ℕ) → IsLayer layer → AreEnough layer k b ids
    → take k (in_order is_nearer [] (map (distance_at layer b) ids)) ≡ nearest_of layer k b
enough layer k b ids fits (inr all) =
    ap (λ ps. take k (in_order is_nearer [] ps)) (ap (map (distance_at layer b)) all ∙ distances layer b layer.features (each-found layer.features fits.rising))
enough layer k b ids fits (inl within) =
    let bound = within.0 in
    let test = λ (e : ℕ × FeatureContent). is_within_of bound e.1.geometry b in
    let among = λ (p : Feature). fraction_le p.1 bound in
    let ps = map (distance_of b) layer.features in
    let are : map (distance_at layer b) ids ≡ filter among ps =
    ap (map (distance_at layer b)) within.1
    ∙ distances layer b (filter test layer.features) (each-filter test (IsFoundIn layer.features) layer.features (each-found layer.features fits.rising)) ∙ filtered bound b layer.features in
    let passing : in_order is_nearer [] (filter among ps) ≡ filter among (in_order is_nearer [] ps) =
    in_order-passing is_nearer IsGood order among (within-before bound) [] ps tt (all-good b layer.features) tt in
    let put = length-in_order is_nearer [] (filter among ps) in
    let same : length (map (distance_at layer b) ids) ≡ length (filter among ps) = ap length are in
    let as_many : length (map (distance_at layer b) ids) ≡ length ids = length-map ids (distance_at layer b) in
    let found = within.2 in
    let many : k ≤ length (filter among (in_order is_nearer [] ps)) = subst (λ qs. k ≤ length qs) passing (omega (arith, put, same, as_many, found)) in
    ap (λ qs. take k (in_order is_nearer [] qs)) are ∙ ap (take k) passing
    ∙ take-passing is_nearer IsGood order among (within-before bound) k (in_order is_nearer [] ps)
    (each-in_order is_nearer IsGood [] ps tt (all-good b layer.features)) (ordered-in_order is_nearer IsGood order [] ps tt (all-good b layer.features) tt) many

-- each of enough ones is there
pub enough-there : (layer : LayerContent) (k : ℕ) (b : Geometry) (ids : List ℕ) → IsLayer layer → AreEnough layer k b ids → AllByRecursion (λ id. IsSome (feature_of layer id)) ids
enough-there layer k b ids fits (inr all) = subst (AllByRecursion (λ id. IsSome (feature_of layer id))) (sym all) (keys-there layer.features layer.features (each-found layer.features fits.rising))
enough-there layer k b ids fits (inl within) =
    let test = λ (e : ℕ × FeatureContent). is_within_of within.0 e.1.geometry b in
    subst (AllByRecursion (λ id. IsSome (feature_of layer id))) (sym within.1)
    (keys-there layer.features (filter test layer.features) (each-filter test (IsFoundIn layer.features) layer.features (each-found layer.features fits.rising)))
