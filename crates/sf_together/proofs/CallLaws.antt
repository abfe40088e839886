-- What calls on a scratch store ask, and what they leave.
use Rattle.std.proofs.Common.{◌≡◌, ℕ, zero, suc, ◌+◌, ◌<◌, ◌≤◌, Bool, true, false, cond, ◌||◌, if◌then◌else◌, List, [], ◌∷◌, ◌++◌, append_assoc, length, insert, map, remove, slice_index_or, take, Option, None, Some, is_some, option_map, option_and_then, IsTrue, bytes_eq, slice_get, refl, ap, sym, subst, ◌∙◌, arith}
use Rattle.std.specs.Prelude.{IsSomeAnd}
use Rattle.std.proofs.lemmas.List.{append-nil, take_more}
use Rattle.std.proofs.lemmas.List.Edits.{insert_end}
use Rattle.std.proofs.lemmas.Slice.Eq.{bytes_eq-Decides}
use Rattle.std.specs.List.{AllByRecursion, list_any}
use Rattle.std.specs.List.Sorted.{IsStrictlySortedBy}
use Rattle.std.specs.Map.{keys_of, lookup}
use Rattle.sf_features.specs.Columns.{IsDistinct}
use Rattle.sf_features.specs.Features.{FeatureContent}
use Rattle.sf_features.specs.Names.{is_name}
use Rattle.sf_layers.specs.Content.{Content, LayerContent, change_at, change_layer, feature_in, feature_of, has_layer, head_of, layer_at, layer_of, place_of, with_feature}
use Rattle.sf_layers.specs.WellFormed.{IsFeature, IsLayer, IsIssued, IsWellFormed, layers_max}
use Rattle.sf_layers.proofs.Changes.{IsLayer-layer_of, IsLayer-slice_get, change_at-place_of, layer_of-place_of}
use Rattle.sf_layers.proofs.ChangedAt.{IsFeature-feature_of, IsWellFormed-at, some_of}
use Rattle.sf_layers.proofs.Fine.{IsWellFormed-insert}
use Rattle.sf_layers.proofs.Kept.{all-remove, all-weaker, none_or}
use Rattle.sf_layers.proofs.Places.{slice_get-below}
use Rattle.sf_together.specs.Copies.{HasHeadOf, IsPart, IsPartOf, with_copy, with_head}
use Rattle.sf_together.specs.Exchanges.{AllThere, key_at, keys_in, layer_slots, puts}
use Rattle.sf_together.proofs.ListLaws.{all-at_name, all-found, all-map, all-of_map, bytes_eq-turned}
use Rattle.sf_together.proofs.FitLaws.{IsLayer-with_feature, issued-there}
use Rattle.sf_together.proofs.ChangeLaws.{all-at_place}
use Rattle.sf_together.proofs.CopyLaws.{layer_of-push}

-- ---- no more layers than there are

-- the list without one that is there has all others
record Without (name : List ℕ) (names : List (List ℕ)) : Type 0 where
  rest : List (List ℕ)
  one_less : length names ≡ suc (length rest)
  others : (other : List ℕ) → bytes_eq other name ≡ false → list_any (bytes_eq other) names ≡ true → list_any (bytes_eq other) rest ≡ true

without : (name : List ℕ) (names : List (List ℕ)) → list_any (bytes_eq name) names ≡ true → Without name names
without name [] there = cc
without name (n ∷ ns) there = by (λ later. without name ns later) (bytes_eq name n) refl there
  where
    past : (other : List ℕ) (a b : Bool) → a ≡ false → a || b ≡ true → b ≡ true
    past other true b off h = cc
    past other false b off h = h

    or_more : (a b c : Bool) → (b ≡ true → c ≡ true) → a || b ≡ true → a || c ≡ true
    or_more true b c f h = refl
    or_more false b c f h = f h

    by : (list_any (bytes_eq name) ns ≡ true → Without name ns) → (b : Bool) → bytes_eq name n ≡ b → b || list_any (bytes_eq name) ns ≡ true → Without name (n ∷ ns)
    by later true is h = record {
      rest = ns;
      one_less = refl;
      others = λ other apart any. past other (bytes_eq other n) (list_any (bytes_eq other) ns) (ap (bytes_eq other) (sym ((bytes_eq-Decides name n).0 is)) ∙ apart) any;
    }
    by later false is h =
        let l = later h in
        record {
          rest = n ∷ l.rest;
          one_less = ap suc l.one_less;
          others = λ other apart any. or_more (bytes_eq other n) (list_any (bytes_eq other) ns) (list_any (bytes_eq other) l.rest) (λ there. l.others other apart there) any;
        }

length-among : (names all : List (List ℕ)) → IsDistinct bytes_eq names → AllByRecursion (λ n. list_any (bytes_eq n) all ≡ true) names → length names ≤ length all
length-among [] all distinct there = omega arith
length-among (n ∷ ns) all distinct there =
    let w = without n all there.0 in
    let less : length ns ≤ length w.rest = length-among ns w.rest distinct.1 (still ns distinct.0 there.1 w) in
    omega (arith, less, w.one_less)
  where
    still : (ms : List (List ℕ)) → list_any (bytes_eq n) ms ≡ false → AllByRecursion (λ m. list_any (bytes_eq m) all ≡ true) ms → (w : Without n all) → AllByRecursion (λ m. list_any (bytes_eq m) w.rest ≡ true) ms
    still [] none all_there w = tt
    still (m ∷ ms) none all_there w =
        let both = none_or (bytes_eq n m) (list_any (bytes_eq n) ms) none in
        (w.others m (bytes_eq-turned n m both.0) all_there.0, still ms both.1 all_there.1 w)

found-any : {X : Type 0} (es : List (List ℕ × X)) (name : List ℕ) → is_some (lookup (bytes_eq name) es) ≡ true → list_any (bytes_eq name) (keys_of es) ≡ true
found-any [] name there = cc
found-any {X} (e ∷ es) name there = by (λ later. found-any es name later) (bytes_eq name e.0) there
  where
    by : (is_some (lookup (bytes_eq name) es) ≡ true → list_any (bytes_eq name) (keys_of es) ≡ true) → (b : Bool) → is_some (cond b (Some e.1) (lookup (bytes_eq name) es)) ≡ true → b || list_any (bytes_eq name) (keys_of es) ≡ true
    by later true h = refl
    by later false h = later h

pub none-any : {X : Type 0} (es : List (List ℕ × X)) (name : List ℕ) → lookup (bytes_eq name) es ≡ None → list_any (bytes_eq name) (keys_of es) ≡ false
none-any [] name none = refl
none-any {X} (e ∷ es) name none = by (λ later. none-any es name later) (bytes_eq name e.0) none
  where
    by : (lookup (bytes_eq name) es ≡ None → list_any (bytes_eq name) (keys_of es) ≡ false) → (b : Bool) → cond b (Some e.1) (lookup (bytes_eq name) es) ≡ None → b || list_any (bytes_eq name) (keys_of es) ≡ false
    by later true h = cc
    by later false h = later h

-- a layer of a part is there
part-there : (whole scratch : Content) → IsPart whole scratch → (name : List ℕ) (layer : LayerContent) → layer_of scratch name ≡ Some layer → has_layer whole name ≡ true
part-there whole scratch part name layer is = by (layer_of whole name) (subst (IsPartOf (layer_of whole name)) is (part name))
  where
    by : (o : Option LayerContent) → IsPartOf o (Some layer) → is_some o ≡ true
    by None h = absurd h
    by (Some w) h = refl

pub AllThere-part : (whole scratch : Content) → IsWellFormed scratch → IsPart whole scratch → AllThere whole scratch
AllThere-part whole scratch fine part =
    all-map (λ name. has_layer whole name ≡ true) (λ e. e.0) scratch
    (all-weaker (λ e. layer_of scratch e.0 ≡ Some e.1) (λ e. has_layer whole e.0 ≡ true) (λ e is. part-there whole scratch part e.0 e.1 is) scratch (all-found scratch fine.distinct))

room-for : (whole scratch : Content) (name : List ℕ) → IsWellFormed whole → IsWellFormed scratch → IsPart whole scratch → has_layer whole name ≡ true → layer_of scratch name ≡ None → length scratch < layers_max
room-for whole scratch name fine fine' part there none =
    let among : length (name ∷ keys_of scratch) ≤ length (keys_of whole) =
    length-among (name ∷ keys_of scratch) (keys_of whole) (none-any scratch name none, fine'.distinct)
    (found-any whole name there, all-weaker (λ n. has_layer whole n ≡ true) (λ n. list_any (bytes_eq n) (keys_of whole) ≡ true) (λ n is. found-any whole n is) (keys_of scratch) (AllThere-part whole scratch fine' part)) in
    omega (arith, among, length-keys scratch, length-keys whole, fine.few)
  where
    length-keys : (es : Content) → length (keys_of es) ≡ length es
    length-keys [] = refl
    length-keys (e ∷ es) = ap suc (length-keys es)

-- ---- a head put last

IsLayer-head_of : (layer : LayerContent) → IsLayer layer → IsLayer (head_of layer)
unfolding IsStrictlySortedBy
IsLayer-head_of layer h = record {
  next_id = h.next_id;
  next_column = h.next_column;
  columns = h.columns;
  column_names = h.column_names;
  column_numbers = h.column_numbers;
  rising = tt;
  ids = tt;
  features = tt;
}

pub head-fits : (whole scratch : Content) (name : List ℕ) (w head : LayerContent) → IsWellFormed whole → IsWellFormed scratch → IsPart whole scratch → layer_of whole name ≡ Some w → layer_of scratch name ≡ None → head ≡ head_of w
    → IsWellFormed (insert scratch (length scratch) (name, head))
head-fits whole scratch name w head fine fine' part found none is =
    IsWellFormed-insert scratch (length scratch) name head
    (all-at_name (λ e. IsTrue (is_name e.0)) whole name w (named whole fine.named) found) none
    (room-for whole scratch name fine fine' part (ap is_some found) none)
    (subst IsLayer (sym is) (IsLayer-head_of w (IsLayer-layer_of whole name w found fine.layers))) fine'
  where
    named : (es : Content) → AllByRecursion (λ n. IsTrue (is_name n)) (keys_of es) → AllByRecursion (λ e. IsTrue (is_name e.0)) es
    named [] all = tt
    named (e ∷ es) all = (all.0, named es all.1)

pub head-shown : (scratch : Content) (name : List ℕ) (w head : LayerContent) → layer_of scratch name ≡ None → head ≡ head_of w → insert scratch (length scratch) (name, head) ≡ with_head name w scratch
head-shown scratch name w head none is =
    ap (λ l. insert scratch (length scratch) (name, l)) is ∙ insert_end scratch (name, head_of w) ∙ sym (ap (λ o. if is_some o then scratch else scratch ++ (name, head_of w) ∷ []) none)

pub head-there_already : (scratch : Content) (name : List ℕ) (w : LayerContent) → has_layer scratch name ≡ true → scratch ≡ with_head name w scratch
head-there_already scratch name w there = sym (ap (λ b. if b then scratch else scratch ++ (name, head_of w) ∷ []) there)

-- with a head it is well formed, whether it was there or not
pub IsWellFormed-with_head : (whole scratch : Content) (name : List ℕ) (w : LayerContent) → IsWellFormed whole → IsWellFormed scratch → IsPart whole scratch → layer_of whole name ≡ Some w → IsWellFormed (with_head name w scratch)
IsWellFormed-with_head whole scratch name w fine fine' part found = by (layer_of scratch name) refl
  where
    by : (o : Option LayerContent) → layer_of scratch name ≡ o → IsWellFormed (with_head name w scratch)
    by None is = subst IsWellFormed (head-shown scratch name w (head_of w) is refl) (head-fits whole scratch name w (head_of w) fine fine' part found is refl)
    by (Some p) is = subst IsWellFormed (head-there_already scratch name w (ap is_some is)) fine'

-- the layer has the head then
pub head-alike : (whole scratch : Content) (name : List ℕ) (w : LayerContent) → IsPart whole scratch → layer_of whole name ≡ Some w → IsSomeAnd (layer_of (with_head name w scratch) name) (λ there. HasHeadOf w there)
head-alike whole scratch name w part found = by (layer_of scratch name) refl (subst (λ o. IsPartOf o (layer_of scratch name)) found (part name))
  where
    by : (q : Option LayerContent) → layer_of scratch name ≡ q → IsPartOf (Some w) q → IsSomeAnd (layer_of (with_head name w scratch) name) (λ there. HasHeadOf w there)
    by (Some p) is h =
        subst (λ o. IsSomeAnd o (λ there. HasHeadOf w there)) (sym (ap (λ o. layer_of (if is_some o then scratch else scratch ++ (name, head_of w) ∷ []) name) is ∙ is)) h
    by None is h =
        subst (λ o. IsSomeAnd o (λ there. HasHeadOf w there)) (sym (ap (λ o. layer_of (if is_some o then scratch else scratch ++ (name, head_of w) ∷ []) name) is ∙ layer_of-push scratch name (head_of w) is))
        (record { kind = refl; next_id = refl; columns = refl })

-- ---- a feature copied

-- the layer of a name at its place
pub at-place_of : (scratch : Content) (name : List ℕ) (part : ℕ) (P : LayerContent → Type 0) → part ≡ place_of scratch name → IsSomeAnd (layer_of scratch name) P → IsSomeAnd (layer_at scratch part) P
at-place_of scratch name part P is h = subst (λ o. IsSomeAnd o P) (sym (ap (layer_at scratch) is ∙ layer_of-place_of scratch name)) h

pub record ThereAt (content : Content) (place : ℕ) : Type 0 where
  pub entry : List ℕ × LayerContent
  pub is : slice_get content place ≡ Some entry

pub there-at : (content : Content) (place : ℕ) (P : LayerContent → Type 0) → IsSomeAnd (layer_at content place) P → (t : ThereAt content place) × P t.entry.1
there-at content place P h = by (slice_get content place) refl (some_of P (layer_at content place) h)
  where
    by : (o : Option (List ℕ × LayerContent)) → slice_get content place ≡ o → ((layer : LayerContent) × ((layer_at content place ≡ Some layer) × P layer)) → (t : ThereAt content place) × P t.entry.1
    by None is there = let no : ◌≡◌ {A = Option LayerContent} None (Some there.0) = sym (ap (option_map (λ entry. entry.1)) is) ∙ there.1.0 in cc
    by (Some entry) is there =
        let both : ◌≡◌ {A = Option LayerContent} (Some entry.1) (Some there.0) = sym (ap (option_map (λ e. e.1)) is) ∙ there.1.0 in
        let same : entry.1 ≡ there.0 = cc in
        (record { entry = entry; is = is }, subst P (sym same) there.1.1)

pub copy-fits : (w : LayerContent) (scratch : Content) (part id : ℕ) (feature : FeatureContent) → IsLayer w → feature_of w id ≡ Some feature → IsWellFormed scratch → IsSomeAnd (layer_at scratch part) (λ there. HasHeadOf w there)
    → IsWellFormed (change_at part (with_feature id feature) scratch)
copy-fits w scratch part id feature fine found fine' there =
    let t = there-at scratch part (HasHeadOf w) there in
    IsWellFormed-at scratch part t.0.entry (with_feature id feature) t.0.is
    (IsLayer-with_feature t.0.entry.1 id feature (subst (λ n. IsIssued n id) (sym t.1.next_id) (issued-there w id feature fine found))
    (subst (λ k. IsFeature k t.0.entry.1.columns feature) (sym t.1.kind) (subst (λ cs. IsFeature w.kind cs feature) (sym t.1.columns) (IsFeature-feature_of w id feature found fine)))
    (IsLayer-slice_get scratch part t.0.entry t.0.is fine'.layers)) fine'

pub copy-free : (scratch : Content) (name : List ℕ) (part id : ℕ) (P : LayerContent → Type 0) → part ≡ place_of scratch name → IsSomeAnd (layer_of scratch name) P → is_some (feature_in scratch name id) ≡ false
    → IsSomeAnd (slice_get scratch part) (λ entry. feature_of entry.1 id ≡ None)
copy-free scratch name part id P is there free =
    let t = there-at scratch part P (at-place_of scratch name part P is there) in
    let layer_is : layer_of scratch name ≡ Some t.0.entry.1 = sym (layer_of-place_of scratch name) ∙ sym (ap (layer_at scratch) is) ∙ ap (option_map (λ entry. entry.1)) t.0.is in
    subst (λ o. IsSomeAnd o (λ entry. feature_of entry.1 id ≡ None)) (sym t.0.is) (none (feature_of t.0.entry.1 id) (ap is_some (sym (ap (option_and_then (λ layer. feature_of layer id)) layer_is)) ∙ free))
  where
    none : (o : Option FeatureContent) → is_some o ≡ false → o ≡ None
    none None h = refl
    none (Some feature) h = cc

pub copy-put : (scratch : Content) (name : List ℕ) (part id : ℕ) (copy feature : FeatureContent) → part ≡ place_of scratch name → copy ≡ feature → is_some (feature_in scratch name id) ≡ false
    → change_at part (with_feature id copy) scratch ≡ with_copy name id feature scratch
copy-put scratch name part id copy feature is same free =
    ap (λ p. change_at p (with_feature id copy) scratch) is ∙ ap (λ f. change_at (place_of scratch name) (with_feature id f) scratch) same
    ∙ change_at-place_of scratch name (with_feature id feature)
    ∙ sym (ap (λ b. if b then scratch else change_layer scratch name (with_feature id feature)) free)

-- ---- the layers of a scratch store, one after another

pub has-there : (whole scratch : Content) (part : ℕ) (entry : List ℕ × LayerContent) → AllThere whole scratch → slice_get scratch part ≡ Some entry → has_layer whole entry.0 ≡ true
has-there whole scratch part entry all is = all-at_place (λ e. has_layer whole e.0 ≡ true) scratch part entry (all-of_map (λ name. has_layer whole name ≡ true) (λ e. e.0) scratch all) is

pub AllThere-remove : (whole scratch : Content) (part : ℕ) → AllThere whole scratch → AllThere whole (remove scratch part)
AllThere-remove whole scratch part all = all-remove (λ name. has_layer whole name ≡ true) (λ e. e.0) scratch part all

-- the last layer is put first
pub puts-last : (whole es : Content) (last : ℕ) (entry : List ℕ × LayerContent) → slice_get es last ≡ Some entry → length es ≡ last + 1
    → layer_slots (place_of whole entry.0) entry.1 ++ puts whole (remove es last) ≡ puts whole es
puts-last whole [] last entry is long = cc
puts-last whole (e ∷ []) zero entry is long =
    let same : e ≡ entry = cc in
    append-nil (layer_slots (place_of whole entry.0) entry.1) ∙ ap (λ x. layer_slots (place_of whole x.0) x.1) (sym same)
puts-last whole (e ∷ []) (suc last) entry is long = cc
puts-last whole (e ∷ (x ∷ es)) zero entry is long = absurd (omega (arith, long))
puts-last whole (e ∷ (x ∷ es)) (suc last) entry is long =
    sym (append_assoc (layer_slots (place_of whole entry.0) entry.1) (puts whole (remove (x ∷ es) last)) (layer_slots (place_of whole e.0) e.1))
    ∙ ap (λ s. s ++ layer_slots (place_of whole e.0) e.1) (puts-last whole (x ∷ es) last entry is (omega (arith, long)))

-- the keys of one layer more
pub keys-more : (whole scratch : Content) (part : ℕ) (entry : List ℕ × LayerContent) → slice_get scratch part ≡ Some entry
    → keys_in whole (take (part + 1) scratch) ≡ keys_in whole (take part scratch) ++ map (key_at (place_of whole entry.0)) entry.1.features
keys-more whole scratch part entry is =
    ap (keys_in whole) (take_more scratch part entry (slice_get-below scratch part entry is) ∙ ap (λ e. take part scratch ++ e ∷ []) (got scratch part is))
    ∙ pushed (take part scratch)
  where
    got : (xs : Content) (i : ℕ) → slice_get xs i ≡ Some entry → slice_index_or xs i entry ≡ entry
    got [] i h = cc
    got (x ∷ xs) zero h = let same : x ≡ entry = cc in same
    got (x ∷ xs) (suc i) h = got xs i h

    pushed : (xs : Content) → keys_in whole (xs ++ entry ∷ []) ≡ keys_in whole xs ++ map (key_at (place_of whole entry.0)) entry.1.features
    pushed [] = append-nil (map (key_at (place_of whole entry.0)) entry.1.features)
    pushed (x ∷ xs) =
        ap (λ ks. map (key_at (place_of whole x.0)) x.1.features ++ ks) (pushed xs)
        ∙ sym (append_assoc (map (key_at (place_of whole x.0)) x.1.features) (keys_in whole xs) (map (key_at (place_of whole entry.0)) entry.1.features))
