-- Look-ups by number after an entry was put.
use Rattle.std.proofs.Common.{◌≡◌, ◌≢◌, ℕ, ◌<◌, Bool, true, false, cond, List, [], ◌∷◌, ◌++◌, Option, Some, None, refl, sym, ap, ◌∙◌, arith, nat_eq}
use Rattle.std.specs.Prelude.{option_map}
use Rattle.std.specs.BTreeMap.{insert_entry}
use Rattle.std.specs.Map.{lookup}
use Rattle.std.specs.Option.{option_or}
use Rattle.std.specs.Ordering.{nat_cmp, match_ordering}
use Rattle.std.specs.declared.cmp.Ordering.TheVariants.{Less, Equal, Greater}
use Rattle.std.proofs.lemmas.Bool.{eq-eqb, eqb-false, eqb-true, le-ltb, lt-ltb, ne_eqb}
use Rattle.std.proofs.lemmas.List.Folds.{find-append}
use Rattle.sf_features.specs.declared.column.Column.{Column}
use Rattle.sf_features.specs.declared.column_type.ColumnType.{ColumnType}
use Rattle.sf_features.specs.Columns.{numbered}
use Rattle.sf_rtree.proofs.Maps.{by_order, swapped}
use Rattle.sf_loading.specs.Types.{AreTypesOf, type_of}

order-is : (m n : ℕ) → (m < n → nat_cmp m n ≡ Less) × ((m ≡ n → nat_cmp m n ≡ Equal) × (n < m → nat_cmp m n ≡ Greater))
order-is m n = (
  λ h. ap (λ b. cond b Less (cond (nat_eq m n) Equal Greater)) (lt-ltb m n h),
  (
    λ h. ap (λ b. cond b Less (cond (nat_eq m n) Equal Greater)) (le-ltb m n (omega (arith, h))) ∙ ap (λ b. cond b Equal Greater) (eq-eqb m n h),
    λ h. let apart : m ≢ n = omega (arith, h) in
        ap (λ b. cond b Less (cond (nat_eq m n) Equal Greater)) (le-ltb m n (omega (arith, h))) ∙ ap (λ b. cond b Equal Greater) (ne_eqb m n apart),
  ),
)

shadowed : {A : Type 0} (b : Bool) (x y z : A) → cond b x z ≡ cond b x (cond b y z)
shadowed true x y z = refl
shadowed false x y z = refl

pub lookup-put : {X : Type 0} (n : ℕ) (v : X) (es : List (ℕ × X)) (q : ℕ) → lookup (nat_eq q) (insert_entry nat_cmp es n v) ≡ cond (nat_eq q n) (Some v) (lookup (nat_eq q) es)
lookup-put n v [] q = refl
lookup-put n v (e ∷ es) q =
    by_order (lookup (nat_eq q) (insert_entry nat_cmp (e ∷ es) n v) ≡ cond (nat_eq q n) (Some v) (lookup (nat_eq q) (e ∷ es))) n e.0
    (λ h. ap (λ o. lookup (nat_eq q) (match_ordering o ((n, v) ∷ e ∷ es) ((e.0, v) ∷ es) (e ∷ insert_entry nat_cmp es n v))) ((order-is n e.0).0 h))
    (λ h. ap (λ o. lookup (nat_eq q) (match_ordering o ((n, v) ∷ e ∷ es) ((e.0, v) ∷ es) (e ∷ insert_entry nat_cmp es n v))) ((order-is n e.0).1.0 h) ∙ shadowed (nat_eq q e.0) (Some v) (Some e.1) (lookup (nat_eq q) es)
    ∙ ap (λ k. cond (nat_eq q k) (Some v) (lookup (nat_eq q) (e ∷ es))) (sym h))
    (λ h. let apart : e.0 ≢ n = omega (arith, h) in
    ap (λ o. lookup (nat_eq q) (match_ordering o ((n, v) ∷ e ∷ es) ((e.0, v) ∷ es) (e ∷ insert_entry nat_cmp es n v))) ((order-is n e.0).1.1 h)
    ∙ ap (λ o. cond (nat_eq q e.0) (Some e.1) o) (lookup-put n v es q)
    ∙ swapped q e.0 n (Some e.1) (Some v) (lookup (nat_eq q) es) apart)

-- the types, with that of one more column
pub types-push : (types : List (ℕ × ColumnType)) (columns : List Column) (column : Column) → numbered columns column.number ≡ None → AreTypesOf types columns
    → AreTypesOf (insert_entry nat_cmp types column.number column.column_type) (columns ++ column ∷ [])
types-push types columns column free are q =
    lookup-put column.number column.column_type types q ∙ by (nat_eq q column.number) refl
  where
    kind : Option Column → Option ColumnType
    kind o = option_map (λ (c : Column). c.column_type) o

    last : Option Column
    last = cond (nat_eq column.number q) (Some column) None

    behind : numbered (columns ++ column ∷ []) q ≡ option_or (numbered columns q) last
    behind = find-append (λ (c : Column). nat_eq c.number q) columns (column ∷ [])

    or-none : (o : Option Column) → option_or o None ≡ o
    or-none None = refl
    or-none (Some c) = refl

    by : (b : Bool) → nat_eq q column.number ≡ b → cond b (Some column.column_type) (lookup (nat_eq q) types) ≡ type_of (columns ++ column ∷ []) q
    by true is =
        let same = eqb-true q column.number is in
        let none : numbered columns q ≡ None = ap (numbered columns) same ∙ free in
        let here : last ≡ Some column = ap (λ b. cond b (Some column) None) (eq-eqb column.number q (sym same)) in
        sym (ap kind (behind ∙ ap (λ o. option_or o last) none ∙ here))
    by false is =
        let apart : column.number ≢ q = λ e. eqb-false q column.number is (sym e) in
        let none : last ≡ None = ap (λ b. cond b (Some column) None) (ne_eqb column.number q apart) in
        are q ∙ sym (ap kind (behind ∙ ap (λ o. option_or (numbered columns q) o) none ∙ or-none (numbered columns q)))
