-- Features that are changed: what the indexes by value have of them stays what they have to have.
use Rattle.std.specs.Prelude.{◌≡◌, ℕ, Bool, true, false, cond, if◌then◌else◌, List, [], ◌∷◌, map, None, Some, IfSome, nat_eq}
use Rattle.std.specs.declared.cmp.Ordering.{Ordering}
use Rattle.std.specs.declared.cmp.Ordering.TheVariants.{Less, Equal, Greater}
use Rattle.std.specs.BTreeMap.{insert_entry, is_at}
use Rattle.std.specs.List.{AllByRecursion}
use Rattle.std.specs.Map.{lookup, remove_entry, set_value}
use Rattle.std.specs.Ordering.{match_ordering, nat_cmp}
use Rattle.std.proofs.Common.{refl, sym, subst, arith}
use Rattle.std.proofs.lemmas.Bool.Decides.{nat_tests}
use Rattle.sf_features.specs.declared.attr_value.AttrValue.{AttrValue}
use Rattle.sf_features.specs.Features.{FeatureContent, with_value, without_value}
use Rattle.sf_layers.specs.Content.{change_value}
use Rattle.sf_layers.specs.Moves.{Features, put_each}
use Rattle.sf_layers.specs.ValueIndexes.{AreKept, AreNoted, HasPair, Indexes, IsKnown, IsNoted}
use Rattle.sf_layers.proofs.Values.{bare}
use Rattle.sf_layers.proofs.ValueNotes.{noted-kept}

-- ---- what holds of each entry of a list that is changed

same_number : (m n : ℕ) → nat_eq m n ≡ true → m ≡ n
same_number m n is = grind (arith, nat_tests)

same_at : (m n : ℕ) → is_at (nat_cmp m) n ≡ true → m ≡ n
same_at m n is = grind (arith, nat_tests)

equal_same : (m n : ℕ) → nat_cmp m n ≡ Equal → m ≡ n
equal_same m n is = grind (arith, nat_tests)

module _ {X : Type 0} (P : ℕ × X → Type 0) where
  pub all-insert : (k : ℕ) (v : X) (es : List (ℕ × X)) → P (k, v) → AllByRecursion P es → AllByRecursion P (insert_entry nat_cmp es k v)
  all-insert k v [] new all = (new, tt)
  all-insert k v (e ∷ es) new all = by (all-insert k v es new all.1) (nat_cmp k e.0) refl
    where
      by : AllByRecursion P (insert_entry nat_cmp es k v) → (o : Ordering) → nat_cmp k e.0 ≡ o
          → AllByRecursion P (match_ordering o ((k, v) ∷ e ∷ es) ((e.0, v) ∷ es) (e ∷ insert_entry nat_cmp es k v))
      by later Less is = (new, all)
      by later Equal is = (subst (λ n. P (n, v)) (equal_same k e.0 is) new, all.1)
      by later Greater is = (all.0, later)

  pub all-remove : (t : ℕ → Bool) (es : List (ℕ × X)) → AllByRecursion P es → AllByRecursion P (remove_entry t es)
  all-remove t [] all = tt
  all-remove t (e ∷ es) all = by (all-remove t es all.1) (t e.0)
    where
      by : AllByRecursion P (remove_entry t es) → (b : Bool) → AllByRecursion P (cond b es (e ∷ remove_entry t es))
      by later true = all.1
      by later false = (all.0, later)

  pub all-set : (k : ℕ) (w : X) (es : List (ℕ × X)) → P (k, w) → AllByRecursion P es → AllByRecursion P (set_value (is_at (nat_cmp k)) es w)
  all-set k w [] new all = tt
  all-set k w (e ∷ es) new all = by (all-set k w es new all.1) (is_at (nat_cmp k) e.0) refl
    where
      by : AllByRecursion P (set_value (is_at (nat_cmp k)) es w) → (b : Bool) → is_at (nat_cmp k) e.0 ≡ b → AllByRecursion P (cond b ((e.0, w) ∷ es) (e ∷ set_value (is_at (nat_cmp k)) es w))
      by later true is = (subst (λ n. P (n, w)) (same_at k e.0 is) new, all.1)
      by later false is = (all.0, later)

  pub all-change : (t : ℕ → Bool) (g : X → X) → ((k : ℕ) (v : X) → P (k, v) → P (k, g v)) → (es : List (ℕ × X)) → AllByRecursion P es → AllByRecursion P (change_value t es g)
  all-change t g keeps [] all = tt
  all-change t g keeps (e ∷ es) all = by (all-change t g keeps es all.1) (t e.0)
    where
      by : AllByRecursion P (change_value t es g) → (b : Bool) → AllByRecursion P (if b then (e.0, g e.1) ∷ es else e ∷ change_value t es g)
      by later true = (keeps e.0 e.1 all.0, all.1)
      by later false = (all.0, later)

  -- of what a look-up finds too
  pub all-found : (k : ℕ) (v : X) (es : List (ℕ × X)) → AllByRecursion P es → lookup (nat_eq k) es ≡ Some v → P (k, v)
  all-found k v [] all found = cc
  all-found k v (e ∷ es) all found = by (all-found k v es all.1) (nat_eq k e.0) refl found
    where
      by : (lookup (nat_eq k) es ≡ Some v → P (k, v)) → (b : Bool) → nat_eq k e.0 ≡ b → cond b (Some e.1) (lookup (nat_eq k) es) ≡ Some v → P (k, v)
      by later true is h =
          let there : e.1 ≡ v = cc in
          subst (λ n. P (n, v)) (sym (same_number k e.0 is)) (subst (λ x. P (e.0, x)) there all.0)
      by later false is h = later h

-- ---- the values of a feature

noted-with : (indexes : Indexes) (id number : ℕ) (value : AttrValue) (feature : FeatureContent) → IsKnown indexes id number value → IsNoted indexes id feature → IsNoted indexes id (with_value number value feature)
noted-with indexes id number value feature known noted = all-insert (λ e. IsKnown indexes id e.0 e.1) number value feature.values known noted

noted-without : (indexes : Indexes) (id number : ℕ) (feature : FeatureContent) → IsNoted indexes id feature → IsNoted indexes id (without_value number feature)
noted-without indexes id number feature noted = all-remove (λ e. IsKnown indexes id e.0 e.1) (nat_eq number) feature.values noted

-- the feature of an identifier
pub noted-found : (indexes : Indexes) (features : Features) (id : ℕ) (feature : FeatureContent) → AreNoted indexes features → lookup (nat_eq id) features ≡ Some feature → IsNoted indexes id feature
noted-found indexes features id feature noted found = all-found (λ e. IsNoted indexes e.0 e.1) id feature features noted found

-- a column without an index knows each value
known-gone : (indexes : Indexes) (id number : ℕ) (value : AttrValue) → lookup (nat_eq number) indexes ≡ None → IsKnown indexes id number value
known-gone indexes id number value gone = subst (λ o. IfSome o (λ pairs. HasPair pairs value id)) (sym gone) tt

-- ---- the features of a layer

-- those of before, where the indexes have what they had
pub noted-on : (old new : Indexes) (features after : Features) → AreKept old new → AreNoted old features → after ≡ features → AreNoted new after
noted-on old new features after kept noted same = subst (AreNoted new) (sym same) (noted-kept old new features kept noted)

pub noted-put : (old new : Indexes) (features after : Features) (id : ℕ) (feature : FeatureContent) → AreKept old new → AreNoted old features → IsNoted new id feature
    → after ≡ insert_entry nat_cmp features id feature → AreNoted new after
noted-put old new features after id feature kept noted known written =
    subst (AreNoted new) (sym written) (all-insert (λ e. IsNoted new e.0 e.1) id feature features known (noted-kept old new features kept noted))

pub noted-taken : (indexes : Indexes) (features after : Features) (t : ℕ → Bool) → AreNoted indexes features → after ≡ remove_entry t features → AreNoted indexes after
noted-taken indexes features after t noted written = subst (AreNoted indexes) (sym written) (all-remove (λ e. IsNoted indexes e.0 e.1) t features noted)

pub noted-written : (old new : Indexes) (features after : Features) (id : ℕ) (changed : FeatureContent) → AreKept old new → AreNoted old features → IsNoted new id changed
    → after ≡ set_value (is_at (nat_cmp id)) features changed → AreNoted new after
noted-written old new features after id changed kept noted known written =
    subst (AreNoted new) (sym written) (all-set (λ e. IsNoted new e.0 e.1) id changed features known (noted-kept old new features kept noted))

-- a value that the indexes know, in the place of another or of none
pub noted-value : (old new : Indexes) (features : Features) (id number : ℕ) (value : AttrValue) (feature changed : FeatureContent) → AreKept old new → AreNoted old features
    → lookup (nat_eq id) features ≡ Some feature → IsKnown new id number value → changed ≡ with_value number value feature → IsNoted new id changed
noted-value old new features id number value feature changed kept noted found known is =
    subst (IsNoted new id) (sym is) (noted-with new id number value feature known (noted-found new features id feature (noted-kept old new features kept noted) found))

pub noted-no_value : (indexes : Indexes) (features : Features) (id number : ℕ) (feature changed : FeatureContent) → AreNoted indexes features
    → lookup (nat_eq id) features ≡ Some feature → changed ≡ without_value number feature → IsNoted indexes id changed
noted-no_value indexes features id number feature changed noted found is =
    subst (IsNoted indexes id) (sym is) (noted-without indexes id number feature (noted-found indexes features id feature noted found))

pub noted-same : (old new : Indexes) (features : Features) (id : ℕ) (feature changed : FeatureContent) → AreKept old new → AreNoted old features
    → lookup (nat_eq id) features ≡ Some feature → changed ≡ feature → IsNoted new id changed
noted-same old new features id feature changed kept noted found is =
    subst (IsNoted new id) (sym is) (noted-found new features id feature (noted-kept old new features kept noted) found)

-- all values of a column gone, and put in where its index is gone
all-bare : (indexes : Indexes) (number : ℕ) (features : Features) → AreNoted indexes features → AreNoted indexes (map (bare number) features)
all-bare indexes number [] noted = tt
all-bare indexes number (e ∷ es) noted = (noted-without indexes e.0 number e.1 noted.0, all-bare indexes number es noted.1)

pub noted-bare : (old new : Indexes) (features after : Features) (number : ℕ) → AreKept old new → AreNoted old features → after ≡ map (bare number) features → AreNoted new after
noted-bare old new features after number kept noted written = subst (AreNoted new) (sym written) (all-bare new number features (noted-kept old new features kept noted))

all-put_each : (indexes : Indexes) (number : ℕ) (values : List (ℕ × AttrValue)) (features : Features) → lookup (nat_eq number) indexes ≡ None → AreNoted indexes features → AreNoted indexes (put_each number values features)
all-put_each indexes number [] features gone noted = noted
all-put_each indexes number (v ∷ vs) features gone noted =
    all-change (λ e. IsNoted indexes e.0 e.1) (nat_eq v.0) (with_value number v.1) (λ id f. noted-with indexes id number v.1 f (known-gone indexes id number v.1 gone))
    (put_each number vs features) (all-put_each indexes number vs features gone noted)

pub noted-put_each : (old new : Indexes) (features after : Features) (number : ℕ) (values : List (ℕ × AttrValue)) → AreKept old new → lookup (nat_eq number) new ≡ None → AreNoted old features
    → after ≡ put_each number values features → AreNoted new after
noted-put_each old new features after number values kept gone noted written =
    subst (AreNoted new) (sym written) (all-put_each new number values features gone (noted-kept old new features kept noted))
