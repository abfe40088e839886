-- Columns under their numbers: which one a name finds, and what a change makes of them.
use Rattle.std.proofs.Common.{◌≡◌, ℕ, zero, suc, ◌+◌, ◌<◌, Bool, true, false, cond, not, List, [], ◌∷◌, map, length, insert, remove, slice_get, Option, None, Some, is_some, bytes_eq, nat_eq, refl, ap, sym, subst, ◌∙◌, arith}
use Rattle.std.proofs.lemmas.Bool.{eq-eqb}
use Rattle.std.proofs.lemmas.Bool.Decides.{nat_tests}
use Rattle.std.proofs.lemmas.Slice.Eq.{bytes_eq-Decides}
use Rattle.std.specs.Cmp.Lexicographic.{nat_list_eq_equiv}
use Rattle.std.specs.List.{AllByRecursion, list_any, position_or_len, IsDistinct as IsUnique}
use Rattle.std.specs.Map.{lookup, keys_of, values_of, update}
use Rattle.sf_features.specs.declared.column.Column.{Column}
use Rattle.sf_features.specs.Columns.{AreNumbered, IsDistinct, named, numbered, numbers_of, place_named}
use Rattle.sf_features.proofs.Orders.{none_or, none-from, distinct-insert, distinct-remove, map-insert, map-remove}

-- ---- which column a name finds

-- a name is found just where a column has it
pub found-numbers_of : (entries : List (ℕ × Column)) (name : List ℕ) → is_some (lookup (bytes_eq name) (numbers_of entries)) ≡ is_some (named (values_of entries) name)
found-numbers_of [] name = refl
found-numbers_of (e ∷ es) name = at_entry (bytes_eq name e.1.name) (found-numbers_of es name)
  where
    at_entry : (b : Bool) → is_some (lookup (bytes_eq name) (numbers_of es)) ≡ is_some (named (values_of es) name)
        → is_some (cond b (Some e.0) (lookup (bytes_eq name) (numbers_of es))) ≡ is_some (cond b (Some e.1) (named (values_of es) name))
    at_entry true h = refl
    at_entry false h = h

-- what holds of all numbers holds of the one of a name
number-all : (P : ℕ → Type 0) (entries : List (ℕ × Column)) (name : List ℕ) (n : ℕ) → AllByRecursion P (keys_of entries) → lookup (bytes_eq name) (numbers_of entries) ≡ Some n → P n
number-all P [] name n all found = cc
number-all P (e ∷ es) name n all found = at_entry (bytes_eq name e.1.name) found (number-all P es name n all.1)
  where
    at_entry : (b : Bool) → cond b (Some e.0) (lookup (bytes_eq name) (numbers_of es)) ≡ Some n → (lookup (bytes_eq name) (numbers_of es) ≡ Some n → P n) → P n
    at_entry true h later = let is : e.0 ≡ n = cc in subst P is all.0
    at_entry false h later = later h

nat_eq-other : (m n : ℕ) → nat_eq m n ≡ false → nat_eq n m ≡ false
nat_eq-other m n h = grind (arith, nat_tests)

-- a column's number stands where its name does
pub place-number : (entries : List (ℕ × Column)) (name : List ℕ) (n : ℕ) → IsUnique nat_eq (keys_of entries) → lookup (bytes_eq name) (numbers_of entries) ≡ Some n
    → (position_or_len (nat_eq n) (keys_of entries) ≡ place_named (values_of entries) name) × (position_or_len (nat_eq n) (keys_of entries) < length (keys_of entries))
unfolding IsUnique
place-number [] name n unique found = cc
place-number (e ∷ es) name n unique found = at_entry (bytes_eq name e.1.name) refl found (place-number es name n unique.1)
  where
    at_entry : (b : Bool) → bytes_eq name e.1.name ≡ b → cond b (Some e.0) (lookup (bytes_eq name) (numbers_of es)) ≡ Some n
        → (lookup (bytes_eq name) (numbers_of es) ≡ Some n → (position_or_len (nat_eq n) (keys_of es) ≡ place_named (values_of es) name) × (position_or_len (nat_eq n) (keys_of es) < length (keys_of es)))
        → (position_or_len (nat_eq n) (e.0 ∷ keys_of es) ≡ place_named (e.1 ∷ values_of es) name) × (position_or_len (nat_eq n) (e.0 ∷ keys_of es) < length (e.0 ∷ keys_of es))
    at_entry true is h later =
        let same : e.0 ≡ n = cc in
        let here : position_or_len (nat_eq n) (e.0 ∷ keys_of es) ≡ 0 = ap (λ b. cond (not b) (1 + position_or_len (nat_eq n) (keys_of es)) 0) (eq-eqb n e.0 (sym same)) in
        (here ∙ sym (ap (λ b. cond (not b) (1 + place_named (values_of es) name) 0) is), omega (arith, here))
    at_entry false is h later =
        let apart : nat_eq n e.0 ≡ false = nat_eq-other e.0 n (number-all (λ k. nat_eq e.0 k ≡ false) es name n unique.0 h) in
        let there : position_or_len (nat_eq n) (e.0 ∷ keys_of es) ≡ 1 + position_or_len (nat_eq n) (keys_of es) = ap (λ b. cond (not b) (1 + position_or_len (nat_eq n) (keys_of es)) 0) apart in
        let both = later h in
        (there ∙ ap (λ k. 1 + k) both.0 ∙ sym (ap (λ b. cond (not b) (1 + place_named (values_of es) name) 0) is), omega (arith, there, both.1))

-- ---- names and numbers that are free

none-head : {X : Type 0} (b : Bool) (x : X) (rest : Option X) → cond b (Some x) rest ≡ None → (b ≡ false) × (rest ≡ None)
none-head true x rest h = cc
none-head false x rest h = (refl, h)

-- a name that no column has is none of the columns' names
name-free : (columns : List Column) (name : List ℕ) → named columns name ≡ None → list_any (bytes_eq name) (map (λ column. column.name) columns) ≡ false
name-free [] name free = refl
name-free (c ∷ cs) name free =
    let both = none-head (bytes_eq name c.name) c (named cs name) free in
    none-from (bytes_eq name c.name) (list_any (bytes_eq name) (map (λ column. column.name) cs)) both.0 (name-free cs name both.1)

-- a number that no column has is none of the columns' numbers
number-free : (columns : List Column) (number : ℕ) → numbered columns number ≡ None → list_any (nat_eq number) (map (λ column. column.number) columns) ≡ false
number-free [] number free = refl
number-free (c ∷ cs) number free =
    let both = none-head (nat_eq c.number number) c (numbered cs number) free in
    none-from (nat_eq number c.number) (list_any (nat_eq number) (map (λ column. column.number) cs)) (nat_eq-other c.number number both.0) (number-free cs number both.1)

lookup-free : {X : Type 0} (test : ℕ → Bool) (entries : List (ℕ × X)) → list_any test (keys_of entries) ≡ false → lookup test entries ≡ None
lookup-free test [] none = refl
lookup-free test (e ∷ es) none =
    let both = none_or (test e.0) (list_any test (keys_of es)) none in
    ap (λ b. cond b (Some e.1) (lookup test es)) both.0 ∙ lookup-free test es both.1

-- a number that no column has is no key
pub lookup-unused : (number : List ℕ → Option ℕ) (entries : List (ℕ × Column)) (n : ℕ) → AreNumbered number entries → numbered (values_of entries) n ≡ None → lookup (nat_eq n) entries ≡ None
lookup-unused number entries n h unused = lookup-free (nat_eq n) entries (ap (list_any (nat_eq n)) h.keyed ∙ number-free (values_of entries) n unused)

nat_eq-turned : (m n : ℕ) → nat_eq m n ≡ nat_eq n m
nat_eq-turned m n = grind (arith, nat_tests)

-- the column that stands under a number is the one that has it
pub lookup-numbered : (entries : List (ℕ × Column)) (n : ℕ) → keys_of entries ≡ map (λ column. column.number) (values_of entries) → lookup (nat_eq n) entries ≡ numbered (values_of entries) n
lookup-numbered [] n keyed = refl
lookup-numbered (e ∷ es) n keyed =
    let first : e.0 ≡ e.1.number = cc in
    let later : keys_of es ≡ map (λ column. column.number) (values_of es) = cc in
    ap (λ k. cond (nat_eq n k) (Some e.1) (lookup (nat_eq n) es)) first
    ∙ ap (λ b. cond b (Some e.1) (lookup (nat_eq n) es)) (nat_eq-turned n e.1.number)
    ∙ ap (λ o. cond (nat_eq e.1.number n) (Some e.1) o) (lookup-numbered es n later)

-- ---- a column put in at a place

cond-both : {X : Type 0} (a b : Bool) (x y z : X) → (a ≡ true → b ≡ true → ⊥) → cond a x (cond b y z) ≡ cond b y (cond a x z)
cond-both true true x y z apart = absurd (apart refl refl)
cond-both true false x y z apart = refl
cond-both false true x y z apart = refl
cond-both false false x y z apart = refl

lookup-insert : (entries : List (ℕ × Column)) (place n : ℕ) (column : Column) (other : List ℕ) → lookup (bytes_eq column.name) (numbers_of entries) ≡ None
    → lookup (bytes_eq other) (numbers_of (insert entries place (n, column))) ≡ cond (bytes_eq column.name other) (Some n) (lookup (bytes_eq other) (numbers_of entries))
lookup-insert [] zero n column other absent = ap (λ b. cond b (Some n) None) (nat_list_eq_equiv.symm other column.name)
lookup-insert [] (suc i) n column other absent = ap (λ b. cond b (Some n) None) (nat_list_eq_equiv.symm other column.name)
lookup-insert (e ∷ es) zero n column other absent =
    ap (λ b. cond b (Some n) (cond (bytes_eq other e.1.name) (Some e.0) (lookup (bytes_eq other) (numbers_of es)))) (nat_list_eq_equiv.symm other column.name)
lookup-insert (e ∷ es) (suc i) n column other absent =
    let both = none-head (bytes_eq column.name e.1.name) e.0 (lookup (bytes_eq column.name) (numbers_of es)) absent in
    ap (λ o. cond (bytes_eq other e.1.name) (Some e.0) o) (lookup-insert es i n column other both.1)
    ∙ cond-both (bytes_eq other e.1.name) (bytes_eq column.name other) (Some e.0) (Some n) (lookup (bytes_eq other) (numbers_of es)) (λ p q.
    let same : bytes_eq column.name e.1.name ≡ true = nat_list_eq_equiv.congr column.name other e.1.name q ∙ p in
    let clash : true ≡ false = sym same ∙ both.0 in
    absurd cc)

-- ---- a column taken out of its place

none-at : (test : List ℕ → Bool) (entries : List (ℕ × Column)) (place n : ℕ) (column : Column) → list_any test (map (λ c. c.name) (values_of entries)) ≡ false
    → slice_get entries place ≡ Some (n, column) → test column.name ≡ false
none-at test [] place n column none at = cc
none-at test (e ∷ es) zero n column none at =
    let entry : ◌≡◌ {A = ℕ × Column} e (n, column) = cc in
    subst (λ k. test k ≡ false) (ap (λ p. p.1.name) entry) (none_or (test e.1.name) (list_any test (map (λ c. c.name) (values_of es))) none).0
none-at test (e ∷ es) (suc i) n column none at =
    none-at test es i n column (none_or (test e.1.name) (list_any test (map (λ c. c.name) (values_of es))) none).1 at

lookup-none : (entries : List (ℕ × Column)) (name : List ℕ) → list_any (bytes_eq name) (map (λ c. c.name) (values_of entries)) ≡ false → lookup (bytes_eq name) (numbers_of entries) ≡ None
lookup-none [] name none = refl
lookup-none (e ∷ es) name none =
    let both = none_or (bytes_eq name e.1.name) (list_any (bytes_eq name) (map (λ c. c.name) (values_of es))) none in
    ap (λ b. cond b (Some e.0) (lookup (bytes_eq name) (numbers_of es))) both.0 ∙ lookup-none es name both.1

lookup-remove : (entries : List (ℕ × Column)) (place n : ℕ) (column : Column) (other : List ℕ) → slice_get entries place ≡ Some (n, column)
    → IsDistinct bytes_eq (map (λ c. c.name) (values_of entries))
    → lookup (bytes_eq other) (numbers_of (remove entries place)) ≡ cond (bytes_eq column.name other) None (lookup (bytes_eq other) (numbers_of entries))
lookup-remove [] place n column other at distinct = cc
lookup-remove (e ∷ es) zero n column other at distinct =
    let entry : ◌≡◌ {A = ℕ × Column} e (n, column) = cc in
    by (ap (λ p. p.1.name) entry) (bytes_eq column.name other) refl
  where
    by : e.1.name ≡ column.name → (b : Bool) → bytes_eq column.name other ≡ b → lookup (bytes_eq other) (numbers_of es) ≡ cond b None (cond (bytes_eq other e.1.name) (Some e.0) (lookup (bytes_eq other) (numbers_of es)))
    by head true is =
        let same : column.name ≡ other = (bytes_eq-Decides column.name other).0 is in
        lookup-none es other (subst (λ k. list_any (bytes_eq k) (map (λ c. c.name) (values_of es)) ≡ false) (head ∙ same) distinct.0)
    by head false is = sym (ap (λ b. cond b (Some e.0) (lookup (bytes_eq other) (numbers_of es))) (ap (bytes_eq other) head ∙ nat_list_eq_equiv.symm other column.name ∙ is))
lookup-remove (e ∷ es) (suc i) n column other at distinct =
    ap (λ o. cond (bytes_eq other e.1.name) (Some e.0) o) (lookup-remove es i n column other at distinct.1)
    ∙ cond-both (bytes_eq other e.1.name) (bytes_eq column.name other) (Some e.0) None (lookup (bytes_eq other) (numbers_of es)) (λ p q.
    let apart : bytes_eq e.1.name column.name ≡ false = none-at (bytes_eq e.1.name) es i n column distinct.0 at in
    let same : bytes_eq e.1.name column.name ≡ true = nat_list_eq_equiv.symm e.1.name column.name ∙ nat_list_eq_equiv.congr column.name other e.1.name q ∙ p in
    let clash : true ≡ false = sym same ∙ apart in
    absurd cc)

-- ---- names and columns fit together after each

pub AreNumbered-insert : (old new : List ℕ → Option ℕ) (entries : List (ℕ × Column)) (place : ℕ) (column : Column) → AreNumbered old entries
    → named (values_of entries) column.name ≡ None → ((other : List ℕ) → new other ≡ update bytes_eq old column.name (Some column.number) other)
    → AreNumbered new (insert entries place (column.number, column))
AreNumbered-insert old new entries place column h absent updated =
    let entry : ℕ × Column = (column.number, column) in
    let values : values_of (insert entries place entry) ≡ insert (values_of entries) place column = map-insert (λ e. e.1) entries place entry in
    let free : lookup (bytes_eq column.name) (numbers_of entries) ≡ None = none_from (lookup (bytes_eq column.name) (numbers_of entries)) (found-numbers_of entries column.name ∙ ap is_some absent) in
    record {
      keyed = map-insert (λ e. e.0) entries place entry
          ∙ ap (λ keys. insert keys place column.number) h.keyed
          ∙ sym (map-insert (λ c. c.number) (values_of entries) place column)
          ∙ ap (map (λ c. c.number)) (sym values);
      distinct = subst (λ columns. IsDistinct bytes_eq (map (λ c. c.name) columns)) (sym values)
          (subst (IsDistinct bytes_eq) (sym (map-insert (λ c. c.name) (values_of entries) place column))
          (distinct-insert bytes_eq nat_list_eq_equiv.symm (map (λ c. c.name) (values_of entries)) place column.name (name-free (values_of entries) column.name absent) h.distinct));
      found = λ other. updated other ∙ ap (λ o. cond (bytes_eq column.name other) (Some column.number) o) (h.found other) ∙ sym (lookup-insert entries place column.number column other free);
    }
  where
    none_from : (o : Option ℕ) → is_some o ≡ false → o ≡ None
    none_from None e = refl
    none_from (Some x) e = cc

pub AreNumbered-remove : (old new : List ℕ → Option ℕ) (entries : List (ℕ × Column)) (place n : ℕ) (column : Column) → AreNumbered old entries
    → slice_get entries place ≡ Some (n, column) → ((other : List ℕ) → new other ≡ update bytes_eq old column.name None other)
    → AreNumbered new (remove entries place)
AreNumbered-remove old new entries place n column h at updated =
    let values : values_of (remove entries place) ≡ remove (values_of entries) place = map-remove (λ e. e.1) entries place in
    record {
      keyed = map-remove (λ e. e.0) entries place
          ∙ ap (λ keys. remove keys place) h.keyed
          ∙ sym (map-remove (λ c. c.number) (values_of entries) place)
          ∙ ap (map (λ c. c.number)) (sym values);
      distinct = subst (λ columns. IsDistinct bytes_eq (map (λ c. c.name) columns)) (sym values)
          (subst (IsDistinct bytes_eq) (sym (map-remove (λ c. c.name) (values_of entries) place))
          (distinct-remove bytes_eq (map (λ c. c.name) (values_of entries)) place h.distinct));
      found = λ other. updated other ∙ ap (λ o. cond (bytes_eq column.name other) None o) (h.found other) ∙ sym (lookup-remove entries place n column other at h.distinct);
    }
