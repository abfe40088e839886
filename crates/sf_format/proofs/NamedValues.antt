-- The values that a rule names are read again as they are, and what is read fits the column.
use Rattle.std.proofs.Common.{◌≡◌, ℕ, ◌≤◌, Bool, true, false, not, ◌&&◌, ◌||◌, List, [], ◌∷◌, ◌++◌, length, IsTrue, Option, None, Some, Result, Ok, refl, sym, ap, subst, ◌∙◌, arith}
use Rattle.std.specs.Prelude.{if◌then◌else◌, is_some, nat_eq, nat_le, nat_lt, option_map}
use Rattle.std.specs.List.{flat_map, list_all}
use Rattle.std.specs.Option.{option_map_or}
use Rattle.std.proofs.lemmas.Bool.{leb-true}
use Rattle.byteorder.specs.Endian.{big_bytes}
use Rattle.sf_decimals.specs.Decimals.{is_decimal}
use Rattle.sf_features.specs.declared.column.Column.{Column}
use Rattle.sf_features.specs.declared.column_type.ColumnType.{ColumnType}
use Rattle.sf_features.specs.declared.column_type.ColumnType.TheVariants as types
use Rattle.sf_features.specs.declared.attr_value.AttrValue.{AttrValue}
use Rattle.sf_features.specs.declared.attr_value.AttrValue.TheVariants as values
use Rattle.sf_features.specs.Values.{is_of_type, number_value}
use Rattle.sf_layers.specs.Content.{LayerContent, column_named}
use Rattle.sf_layers.specs.Found.{are_apart}
use Rattle.sf_layers.specs.declared.value_range.ValueRange.{ValueRange}
use Rattle.sf_ruled_store.specs.Ruling.{Demand, InRange, OneOf, Required, Unique, ValueRule}
use Rattle.sf_ruled_store.specs.Ruled.{fits_column, fits_layer, has_column_in}
use Rattle.sf_format.specs.declared.range_ends.RangeEnds.{RangeEnds}
use Rattle.sf_format.specs.declared.rule_form.DemandForm.{DemandForm}
use Rattle.sf_format.specs.declared.rule_form.DemandForm.TheVariants as forms
use Rattle.sf_format.specs.declared.defect.Defect.{Defect}
use Rattle.sf_format.specs.declared.defect.Defect.TheVariants.{BadFile, WrongValue}
use Rattle.sf_format.specs.Readings.{Reading, done, field, number}
use Rattle.sf_format.specs.Format.{allowed, allowed_range, allowed_values, any_value, decimal_in, decimal_parts, demanded, end_value, ends_of_byte, fraction_in, named_value, own_value, present, range_parts, type_in, type_of_byte, typed_value, values_max}
use Rattle.sf_format.specs.Canonical.{decimal_bytes, demand_bytes, end_bytes, ends_byte, named_bytes, own_type, type_byte, typed_bytes}
use Rattle.sf_format.proofs.Again.{Again, Again-done, Again-field, Again-items, Again-made, Again-number_field, Again-then, EachAgain}
use Rattle.sf_format.proofs.Continuations.{range_after_ends, range_after_from, values_after_count}
use Rattle.sf_format.proofs.Promises.{Leaves, Leaves-done, Leaves-field, Leaves-items, Leaves-of, Leaves-rule, Leaves-then, Promises, Promises-told, Tells, Tells-done, Tells-field, Tells-items, Tells-rule, Tells-then, and_then_ok}
use Rattle.sf_format.proofs.Pushed.{items-length}
use Rattle.sf_format.proofs.Rules.{allowed-ok, allowed_of, both, both_of, present_of}
use Rattle.sf_format.proofs.Values.{decimal-parts, decimal-promises, fraction-value, parts-again, there, type-again, type_byte-fits, typed-again, typed-promises, with-places}

-- ---- a value

-- what may stand in a column may stand in one of its own type
own-typed : (t : ColumnType) (v : AttrValue) → is_of_type t v ≡ true → is_of_type (own_type v) v ≡ true
own-typed types.Int (values.Int n) is = is
own-typed types.Decimal (values.Int n) is = is
own-typed types.Text (values.Text text) is = is
own-typed types.Decimal (values.Decimal d) is = is
own-typed types.Bool (values.Bool b) is = is
own-typed types.Date (values.Date d) is = is
own-typed types.DateTime (values.DateTime m) is = is
own-typed t v is = absurd cc

own-again : (v : AttrValue) → is_of_type (own_type v) v ≡ true → Again (own_value (own_type v)) (typed_bytes false v) v
own-again (values.Int n) is = typed-again types.Int (values.Int n) is
own-again (values.Text text) is = typed-again types.Text (values.Text text) is
own-again (values.Bool b) is = typed-again types.Bool (values.Bool b) is
own-again (values.Date d) is = typed-again types.Date (values.Date d) is
own-again (values.DateTime m) is = typed-again types.DateTime (values.DateTime m) is
own-again (values.Decimal d) is =
    let parts = both_of (is_decimal d) (nat_lt 0 d.places) is in
    let inner = decimal-parts d parts.0 in
    Again-field decimal_parts (λ parts. present (fraction_in parts) WrongValue) (decimal_bytes d) d (values.Decimal d)
    (parts-again d.mantissa d.places inner.0 (omega (arith, inner.1)))
    (ap (λ b. present (if b then None else decimal_in d) WrongValue) (with-places d.places parts.1) ∙ there (number_value d) parts.0 ∙ ap Ok (fraction-value d parts.1))

named-again : (t : ColumnType) (v : AttrValue) → is_of_type t v ≡ true → Again (named_value t) (named_bytes v) v
named-again t v is =
    Again-field any_value (λ value. allowed (is_of_type t value) WrongValue value) (named_bytes v) v v
    (Again-then (field (number 1) (λ byte. present (type_of_byte byte) WrongValue)) own_value (big_bytes 1 (type_byte (own_type v))) (typed_bytes false v) (own_type v) v
    (Again-number_field 1 (type_byte (own_type v)) (λ byte. present (type_of_byte byte) WrongValue) (own_type v) (omega (arith, type_byte-fits (own_type v))) (type-again (own_type v)))
    (own-again v (own-typed t v is)))
    (allowed-ok (is_of_type t v) WrongValue v is)

-- ---- several values

each-again : (t : ColumnType) (earlier vs : List AttrValue) → list_all (is_of_type t) vs ≡ true → EachAgain (λ earlier. named_value t) named_bytes earlier vs
each-again t earlier [] are = tt
each-again t earlier (v ∷ vs) are =
    let parts = both_of (is_of_type t v) (list_all (is_of_type t) vs) are in
    (named-again t v parts.0, each-again t (earlier ++ v ∷ []) vs parts.1)

-- whether there are so many values that a rule may name them
abbrev pub are_some : ℕ → Bool
are_some n = nat_lt 0 n && nat_le n values_max

values-again : (t : ColumnType) (vs : List AttrValue) → are_some (length vs) ≡ true → list_all (is_of_type t) vs ≡ true → Again (allowed_values t) (big_bytes 2 (length vs) ++ flat_map named_bytes vs) vs
values-again t vs many are =
    let few : length vs ≤ 1000 = leb-true (length vs) 1000 (both_of (nat_lt 0 (length vs)) (nat_le (length vs) values_max) many).1 in
    Again-then (field (number 2) (λ n. allowed (are_some n) WrongValue n)) (values_after_count t) (big_bytes 2 (length vs)) (flat_map named_bytes vs) (length vs) vs
    (Again-number_field 2 (length vs) (λ n. allowed (are_some n) WrongValue n) (length vs) (omega (arith, few)) (allowed-ok (are_some (length vs)) WrongValue (length vs) many))
    (Again-items (λ earlier. named_value t) named_bytes [] vs (each-again t [] vs are))

-- ---- a range

-- whether an end is of a type, where it is given
abbrev pub is_end : ColumnType → Option AttrValue → Bool
is_end t o = option_map_or (is_of_type t) o true

end-again : (t : ColumnType) (o : Option AttrValue) → is_end t o ≡ true → Again (end_value t (is_some o)) (end_bytes o) o
end-again t None is = Again-done None
end-again t (Some v) is = Again-made (named_value t) Some (named_bytes v) v (named-again t v is)

abbrev ends_of : ValueRange → RangeEnds
ends_of r = record { from = is_some r.from; to = is_some r.to }

ends_byte-fits : (from to : Option AttrValue) → ends_byte from to ≤ 3
ends_byte-fits None None = omega arith
ends_byte-fits None (Some to) = omega arith
ends_byte-fits (Some from) None = omega arith
ends_byte-fits (Some from) (Some to) = omega arith

ends-again : (from to : Option AttrValue) → (is_some from || is_some to) ≡ true → present (ends_of_byte (ends_byte from to)) BadFile ≡ Ok (record { from = is_some from; to = is_some to })
ends-again None None some = absurd cc
ends-again None (Some to) some = refl
ends-again (Some from) None some = refl
ends-again (Some from) (Some to) some = refl

range-again : (t : ColumnType) (r : ValueRange) → (is_some r.from || is_some r.to) ≡ true → is_end t r.from ≡ true → is_end t r.to ≡ true → not (are_apart r.from r.to) ≡ true
    → Again (allowed_range t) (big_bytes 1 (ends_byte r.from r.to) ++ (end_bytes r.from ++ end_bytes r.to)) r
range-again t r some from to forward =
    let text = end_bytes r.from ++ end_bytes r.to in
    Again-field (range_parts t) (λ range. allowed (not (are_apart range.from range.to)) WrongValue range) (big_bytes 1 (ends_byte r.from r.to) ++ text) r r
    (Again-then (field (number 1) (λ byte. present (ends_of_byte byte) BadFile)) (range_after_ends t) (big_bytes 1 (ends_byte r.from r.to)) text (ends_of r) r
    (Again-number_field 1 (ends_byte r.from r.to) (λ byte. present (ends_of_byte byte) BadFile) (ends_of r) (omega (arith, ends_byte-fits r.from r.to)) (ends-again r.from r.to some))
    (Again-then (end_value t (is_some r.from)) (range_after_from t (ends_of r)) (end_bytes r.from) (end_bytes r.to) r.from r (end-again t r.from from)
    (Again-made (end_value t (is_some r.to)) (λ to. record { from = r.from; to = to }) (end_bytes r.to) r.to (end-again t r.to to))))
    (allowed-ok (not (are_apart r.from r.to)) WrongValue r forward)

-- ---- what a rule demands

-- the form of what a rule demands
abbrev pub form_of : Demand → DemandForm
form_of Unique = forms.Unique
form_of Required = forms.Required
form_of (OneOf allowed) = forms.OneOf
form_of (InRange range) = forms.InRange

pub demanded-again : (c : Column) (d : Demand) → fits_column d (Some c) ≡ true → Again (demanded c.column_type (form_of d)) (demand_bytes d) d
demanded-again c Unique fits = Again-done Unique
demanded-again c Required fits = Again-done Required
demanded-again c (OneOf vs) fits =
    let t = c.column_type in
    let parts = both_of (are_some (length vs)) (list_all (is_of_type t) vs) fits in
    Again-made (allowed_values t) OneOf (demand_bytes (OneOf vs)) vs (values-again t vs parts.0 parts.1)
demanded-again c (InRange r) fits =
    let t = c.column_type in
    let outer = both_of ((is_some r.from || is_some r.to) && is_end t r.from && is_end t r.to) (not (are_apart r.from r.to)) fits in
    let middle = both_of ((is_some r.from || is_some r.to) && is_end t r.from) (is_end t r.to) outer.0 in
    let inner = both_of (is_some r.from || is_some r.to) (is_end t r.from) middle.0 in
    Again-made (allowed_range t) InRange (demand_bytes (InRange r)) r (range-again t r inner.0 inner.1 middle.1 outer.1)

-- ---- the column of a rule

-- what fits a column of a layer has one
pub column-of : (rule : ValueRule) (o : Option LayerContent) → fits_layer rule o ≡ true → (c : Column) × (type_in o rule.column ≡ Some c.column_type) × (fits_column rule.demand (Some c) ≡ true)
column-of rule None fits = absurd cc
column-of rule (Some layer) fits = by (column_named layer rule.column) refl fits
  where
    by : (o : Option Column) → column_named layer rule.column ≡ o → fits_column rule.demand o ≡ true
        → (c : Column) × (option_map (λ column. column.column_type) (column_named layer rule.column) ≡ Some c.column_type) × (fits_column rule.demand (Some c) ≡ true)
    by None is fits = absurd cc
    by (Some c) is fits = (c, ap (option_map (λ (column : Column). column.column_type)) is, fits)

-- a column whose type is known is there
pub column-typed : (o : Option LayerContent) (name : List ℕ) (t : ColumnType) → type_in o name ≡ Some t
    → (c : Column) × (c.column_type ≡ t) × ((rule : ValueRule) → rule.column ≡ name → fits_column rule.demand (Some c) ≡ true → fits_layer rule o ≡ true)
column-typed None name t is = absurd cc
column-typed (Some layer) name t is = by (column_named layer name) refl is
  where
    by : (o : Option Column) → column_named layer name ≡ o → option_map (λ column. column.column_type) o ≡ Some t
        → (c : Column) × (c.column_type ≡ t) × ((rule : ValueRule) → rule.column ≡ name → fits_column rule.demand (Some c) ≡ true → fits_layer rule (Some layer) ≡ true)
    by None found is = absurd cc
    by (Some c) found is =
        let same : c.column_type ≡ t = cc in
        (c, same, λ rule named fits. ap (λ (n : List ℕ). fits_column rule.demand (column_named layer n)) named ∙ ap (fits_column rule.demand) found ∙ fits)

-- so has a layer that it fits the column
pub column-held : (rule : ValueRule) (o : Option LayerContent) → fits_layer rule o ≡ true → has_column_in rule.column o ≡ true
column-held rule None fits = absurd cc
column-held rule (Some layer) fits = by (column_named layer rule.column) fits
  where
    by : (o : Option Column) → fits_column rule.demand o ≡ true → is_some o ≡ true
    by None fits = absurd cc
    by (Some c) fits = refl

-- ---- what is read fits

named-tells : (t : ColumnType) → Tells (named_value t) (λ v. is_of_type t v ≡ true)
named-tells t = Tells-rule any_value (λ value. allowed (is_of_type t value) WrongValue value) (λ v. is_of_type t v ≡ true)
    (λ x y e. let r = allowed_of (is_of_type t x) WrongValue x y e in ap (is_of_type t) (sym r.1) ∙ r.0)

all-push : (test : AttrValue → Bool) (vs : List AttrValue) (v : AttrValue) → list_all test vs ≡ true → test v ≡ true → list_all test (vs ++ v ∷ []) ≡ true
all-push test [] v all new = ap (λ b. b && true) new
all-push test (w ∷ ws) v all new =
    let parts = both_of (test w) (list_all test ws) all in
    both (test w) (list_all test (ws ++ v ∷ [])) parts.0 (all-push test ws v parts.1 new)

-- so many values, each of the type
abbrev pub AreAllowed : ColumnType → List AttrValue → Type 0
AreAllowed t vs = (are_some (length vs) ≡ true) × (list_all (is_of_type t) vs ≡ true)

values-tell : (t : ColumnType) → Tells (allowed_values t) (AreAllowed t)
values-tell t left vs rest e =
    let rule : ℕ → Result ℕ Defect = λ n. allowed (are_some n) WrongValue n in
    let item : List AttrValue → Reading AttrValue = λ earlier. named_value t in
    let s = and_then_ok (field (number 2) rule left) (values_after_count t) vs rest e in
    let count = Tells-rule (number 2) rule (λ n. are_some n ≡ true) (λ n y e. let r = allowed_of (are_some n) WrongValue n y e in ap are_some (sym r.1) ∙ r.0) left s.0 s.1 s.2 in
    let all = Tells-items item (λ earlier. list_all (is_of_type t) earlier ≡ true)
    (λ earlier are left v rest e. all-push (is_of_type t) earlier v are (named-tells t left v rest e))
    s.0 [] refl s.1 vs rest s.3 in
    let counted = items-length item s.0 [] s.1 vs rest s.3 in
    let len : length vs ≡ s.0 = omega (arith, counted) in
    (ap are_some len ∙ count, all)

-- an end is there where it is given, and of the type
abbrev pub IsEnd : ColumnType → Bool → Option AttrValue → Type 0
IsEnd t given o = (is_some o ≡ given) × (is_end t o ≡ true)

end-tells : (t : ColumnType) (given : Bool) → Tells (end_value t given) (IsEnd t given)
end-tells t false = Tells-done (IsEnd t false) None (refl, refl)
end-tells t true = Tells-then (named_value t) (λ value. done (Some value)) (λ v. is_of_type t v ≡ true) (IsEnd t true) (named-tells t)
    (λ v is. Tells-done (IsEnd t true) (Some v) (refl, is))

-- a byte that stands for ends gives one
ends-given : (byte : ℕ) (ends : RangeEnds) → ends_of_byte byte ≡ Some ends → (ends.from || ends.to) ≡ true
ends-given byte ends is = by (nat_eq byte 1) (nat_eq byte 2) (nat_eq byte 3) is
  where
    given : (one other : RangeEnds) → Some one ≡ Some other → (one.from || one.to) ≡ true → (other.from || other.to) ≡ true
    given one other same has = let is : one ≡ other = cc in ap (λ (e : RangeEnds). e.from || e.to) (sym is) ∙ has

    by : (a b c : Bool)
        → (if a then Some (record { from = true; to = false }) else (if b then Some (record { from = false; to = true }) else (if c then Some (record { from = true; to = true }) else None))) ≡ Some ends
        → (ends.from || ends.to) ≡ true
    by true b c is = given (record { from = true; to = false }) ends is refl
    by false true c is = given (record { from = false; to = true }) ends is refl
    by false false true is = given (record { from = true; to = true }) ends is refl
    by false false false is = absurd cc

-- a range has an end, and each is of the type
abbrev pub HasEnds : ColumnType → ValueRange → Type 0
HasEnds t r = ((is_some r.from || is_some r.to) ≡ true) × (is_end t r.from ≡ true) × (is_end t r.to ≡ true)

parts-tell : (t : ColumnType) → Tells (range_parts t) (HasEnds t)
parts-tell t = Tells-then (field (number 1) (λ byte. present (ends_of_byte byte) BadFile)) (range_after_ends t) (λ ends. (ends.from || ends.to) ≡ true) (HasEnds t)
    (Tells-rule (number 1) (λ byte. present (ends_of_byte byte) BadFile) (λ ends. (ends.from || ends.to) ≡ true) (λ byte ends e. ends-given byte ends (present_of (ends_of_byte byte) BadFile ends e)))
    (λ ends given. Tells-then (end_value t ends.from) (range_after_from t ends) (IsEnd t ends.from) (HasEnds t) (end-tells t ends.from)
    (λ from first. Tells-then (end_value t ends.to) (λ to. done (record { from = from; to = to })) (IsEnd t ends.to) (HasEnds t) (end-tells t ends.to)
    (λ to last. Tells-done (HasEnds t) (record { from = from; to = to })
    (ap (λ b. b || is_some to) first.0 ∙ ap (λ b. ends.from || b) last.0 ∙ given, first.1, last.1))))

abbrev pub IsRange : ColumnType → ValueRange → Type 0
IsRange t r = HasEnds t r × (not (are_apart r.from r.to) ≡ true)

range-tells : (t : ColumnType) → Tells (allowed_range t) (IsRange t)
range-tells t = Tells-field (range_parts t) (λ range. allowed (not (are_apart range.from range.to)) WrongValue range) (HasEnds t) (IsRange t) (parts-tell t)
    (λ x y has e. let r = allowed_of (not (are_apart x.from x.to)) WrongValue x y e in subst (IsRange t) r.1 (has, r.0))

pub demanded-tells : (c : Column) (form : DemandForm) → Tells (demanded c.column_type form) (λ d. fits_column d (Some c) ≡ true)
demanded-tells c forms.Unique = Tells-done (λ d. fits_column d (Some c) ≡ true) Unique refl
demanded-tells c forms.Required = Tells-done (λ d. fits_column d (Some c) ≡ true) Required refl
demanded-tells c forms.OneOf =
    let t = c.column_type in
    Tells-then (allowed_values t) (λ vs. done (OneOf vs)) (AreAllowed t) (λ d. fits_column d (Some c) ≡ true) (values-tell t)
    (λ vs are. Tells-done (λ d. fits_column d (Some c) ≡ true) (OneOf vs) (both (are_some (length vs)) (list_all (is_of_type t) vs) are.0 are.1))
demanded-tells c forms.InRange =
    let t = c.column_type in
    Tells-then (allowed_range t) (λ r. done (InRange r)) (IsRange t) (λ d. fits_column d (Some c) ≡ true) (range-tells t)
    (λ r is. Tells-done (λ d. fits_column d (Some c) ≡ true) (InRange r)
    (both ((is_some r.from || is_some r.to) && is_end t r.from && is_end t r.to) (not (are_apart r.from r.to))
    (both ((is_some r.from || is_some r.to) && is_end t r.from) (is_end t r.to) (both (is_some r.from || is_some r.to) (is_end t r.from) is.0.0 is.0.1) is.0.2) is.1))

-- ---- and leaves bytes

own-leaves : (t : ColumnType) → Leaves (own_value t)
own-leaves types.Int = Leaves-of (typed_value types.Int) (λ v. IsTrue (is_of_type types.Int v)) (typed-promises types.Int)
own-leaves types.Text = Leaves-of (typed_value types.Text) (λ v. IsTrue (is_of_type types.Text v)) (typed-promises types.Text)
own-leaves types.Decimal = Leaves-field decimal_parts (λ parts. present (fraction_in parts) WrongValue) decimal-promises
own-leaves types.Bool = Leaves-of (typed_value types.Bool) (λ v. IsTrue (is_of_type types.Bool v)) (typed-promises types.Bool)
own-leaves types.Date = Leaves-of (typed_value types.Date) (λ v. IsTrue (is_of_type types.Date v)) (typed-promises types.Date)
own-leaves types.DateTime = Leaves-of (typed_value types.DateTime) (λ v. IsTrue (is_of_type types.DateTime v)) (typed-promises types.DateTime)

named-leaves : (t : ColumnType) → Leaves (named_value t)
named-leaves t = Leaves-field any_value (λ value. allowed (is_of_type t value) WrongValue value)
    (Leaves-then (field (number 1) (λ byte. present (type_of_byte byte) WrongValue)) own_value (Leaves-rule 1 (λ byte. present (type_of_byte byte) WrongValue)) own-leaves)

values-leave : (t : ColumnType) → Leaves (allowed_values t)
values-leave t = Leaves-then (field (number 2) (λ n. allowed (are_some n) WrongValue n)) (values_after_count t) (Leaves-rule 2 (λ n. allowed (are_some n) WrongValue n))
    (λ count. Leaves-items (λ earlier. named_value t) (λ earlier. named-leaves t) count [])

end-leaves : (t : ColumnType) (given : Bool) → Leaves (end_value t given)
end-leaves t false = Leaves-done {T = Option AttrValue} None
end-leaves t true = Leaves-then (named_value t) (λ value. done (Some value)) (named-leaves t) (λ v. Leaves-done {T = Option AttrValue} (Some v))

range-leaves : (t : ColumnType) → Leaves (allowed_range t)
range-leaves t = Leaves-field (range_parts t) (λ range. allowed (not (are_apart range.from range.to)) WrongValue range)
    (Leaves-then (field (number 1) (λ byte. present (ends_of_byte byte) BadFile)) (range_after_ends t) (Leaves-rule 1 (λ byte. present (ends_of_byte byte) BadFile))
    (λ ends. Leaves-then (end_value t ends.from) (range_after_from t ends) (end-leaves t ends.from)
    (λ from. Leaves-then (end_value t ends.to) (λ to. done (record { from = from; to = to })) (end-leaves t ends.to)
    (λ to. Leaves-done {T = ValueRange} (record { from = from; to = to })))))

demanded-leaves : (t : ColumnType) (form : DemandForm) → Leaves (demanded t form)
demanded-leaves t forms.Unique = Leaves-done {T = Demand} Unique
demanded-leaves t forms.Required = Leaves-done {T = Demand} Required
demanded-leaves t forms.OneOf = Leaves-then (allowed_values t) (λ vs. done (OneOf vs)) (values-leave t) (λ vs. Leaves-done {T = Demand} (OneOf vs))
demanded-leaves t forms.InRange = Leaves-then (allowed_range t) (λ r. done (InRange r)) (range-leaves t) (λ r. Leaves-done {T = Demand} (InRange r))

pub demanded-promises : (c : Column) (form : DemandForm) → Promises (demanded c.column_type form) (λ d. fits_column d (Some c) ≡ true)
demanded-promises c form = Promises-told (demanded c.column_type form) (λ d. fits_column d (Some c) ≡ true) (demanded-leaves c.column_type form) (demanded-tells c form)
