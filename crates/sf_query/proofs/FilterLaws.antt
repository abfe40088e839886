-- Entries by identifier that pass a test: which they are, and how a loop comes to them.
use Rattle.std.proofs.Common.{◌≡◌, ◌∙◌, ℕ, ◌+◌, ◌<◌, ◌≤◌, Bool, true, false, cond, List, [], ◌∷◌, ◌++◌, filter, length, take, get_or, append-nil, append_assoc, Option, Some, IsSome, is_some, nat_eq, refl, ap, sym, subst, arith}
use Rattle.std.specs.Prelude.{if◌then◌else◌}
use Rattle.std.specs.declared.cmp.Ordering.TheVariants.{Less}
use Rattle.std.specs.List.{AllByRecursion, Contains}
use Rattle.std.specs.List.Sorted.{IsStrictlySortedBy}
use Rattle.std.specs.Map.{keys_of, values_of, lookup}
use Rattle.std.specs.Option.{option_map_or}
use Rattle.std.specs.Ordering.{nat_cmp}
use Rattle.std.proofs.lemmas.Bool.{eq-eqb, eqb-true, ne_eqb}
use Rattle.std.proofs.lemmas.Bool.Decides.{nat_tests}
use Rattle.std.proofs.lemmas.List.Elements.{All-contains, All-from_recursion, All-map, Contains-append_right, filter_more}

-- ---- members

pub each-map : {X : Type 0} (P Q : X → Type 0) → ((x : X) → P x → Q x) → (xs : List X) → AllByRecursion P xs → AllByRecursion Q xs
each-map P Q f [] h = tt
each-map P Q f (x ∷ xs) h = (f x h.0, each-map P Q f xs h.1)

pub each-filter : {X : Type 0} (p : X → Bool) (P : X → Type 0) (xs : List X) → AllByRecursion P xs → AllByRecursion P (filter p xs)
each-filter p P [] h = tt
each-filter p P (x ∷ xs) h = by (p x) (each-filter p P xs h.1)
  where
    by : (b : Bool) → AllByRecursion P (filter p xs) → AllByRecursion P (cond b (x ∷ filter p xs) (filter p xs))
    by true rest = (h.0, rest)
    by false rest = rest

each-passes : {X : Type 0} (p : X → Bool) (P : X → Type 0) (xs : List X) → AllByRecursion (λ x. p x ≡ true → P x) xs → AllByRecursion P (filter p xs)
each-passes p P [] h = tt
each-passes p P (x ∷ xs) h = by (p x) refl (each-passes p P xs h.1)
  where
    by : (b : Bool) → p x ≡ b → AllByRecursion P (filter p xs) → AllByRecursion P (cond b (x ∷ filter p xs) (filter p xs))
    by true is rest = (h.0 is, rest)
    by false is rest = rest

-- a test that passes only what another passes finds all among those
pub filter-within : {X : Type 0} (p q : X → Bool) (xs : List X) → AllByRecursion (λ x. q x ≡ false → p x ≡ false) xs → filter p (filter q xs) ≡ filter p xs
filter-within p q [] h = refl
filter-within p q (x ∷ xs) h = by (q x) refl (filter-within p q xs h.1)
  where
    by : (b : Bool) → q x ≡ b → filter p (filter q xs) ≡ filter p xs → filter p (cond b (x ∷ filter q xs) (filter q xs)) ≡ filter p (x ∷ xs)
    by true is rest = ap (λ ys. cond (p x) (x ∷ ys) ys) rest
    by false is rest = rest ∙ ap (λ b. cond b (x ∷ filter p xs) (filter p xs)) (sym (h.0 is))

-- ---- a pass over entries

-- the entries that are looked at: those that are near, where only they can pass
abbrev pub viewed : {X : Type 0} → Bool → (X → Bool) → List X → List X
viewed needed near xs = if needed then filter near xs else xs

viewed-on : {X : Type 0} (needed : Bool) (near : X → Bool) (x : X) (xs : List X) → (needed ≡ true → near x ≡ true) → viewed needed near (x ∷ xs) ≡ x ∷ viewed needed near xs
viewed-on true near x xs h = ap (λ b. cond b (x ∷ filter near xs) (filter near xs)) (h refl)
viewed-on false near x xs h = refl

length-filter-le : {X : Type 0} (p : X → Bool) (xs : List X) → length (filter p xs) ≤ length xs
length-filter-le p [] = omega arith
length-filter-le {X} p (x ∷ xs) = by (p x) (length-filter-le p xs)
  where
    by : (b : Bool) → length (filter p xs) ≤ length xs → length (cond b (x ∷ filter p xs) (filter p xs)) ≤ length (x ∷ xs)
    by true h = omega arith
    by false h = omega arith

pub length-viewed : {X : Type 0} (needed : Bool) (near : X → Bool) (xs : List X) → length (viewed needed near xs) ≤ length xs
length-viewed true near xs = length-filter-le near xs
length-viewed false near xs = omega arith

-- with what the entries that are left come to, identifiers and number come to the whole
pub record IsPassing {X : Type 0} (p near : ℕ × X → Bool) (needed : Bool) (all left : List (ℕ × X)) (ids : List ℕ) (looked : ℕ) : Type 0 where
  pub found : ids ++ keys_of (filter p (viewed needed near left)) ≡ keys_of (filter p (viewed needed near all))
  pub counted : looked + length (viewed needed near left) ≡ length (viewed needed near all)

-- one that is looked at may not pass
pub IsPassing-other : {X : Type 0} (p near : ℕ × X → Bool) (needed : Bool) (all left rest : List (ℕ × X)) (e : ℕ × X) (ids : List ℕ) (looked : ℕ)
    → left ≡ e ∷ rest → (needed ≡ true → near e ≡ true) → p e ≡ false → IsPassing p near needed all left ids looked → IsPassing p near needed all rest ids (looked + 1)
IsPassing-other p near needed all left rest e ids looked here on fails was =
    let same = ap (viewed needed near) here ∙ viewed-on needed near e rest on in
    record {
      found = ap (λ b. ids ++ keys_of (cond b (e ∷ filter p (viewed needed near rest)) (filter p (viewed needed near rest)))) (sym fails) ∙ ap (λ es. ids ++ keys_of (filter p es)) (sym same) ∙ was.found;
      counted = omega (arith, ap length same, was.counted);
    }

-- or it passes
pub IsPassing-found : {X : Type 0} (p near : ℕ × X → Bool) (needed : Bool) (all left rest : List (ℕ × X)) (e : ℕ × X) (ids new : List ℕ) (looked : ℕ)
    → left ≡ e ∷ rest → (needed ≡ true → near e ≡ true) → p e ≡ true → new ≡ ids ++ e.0 ∷ [] → IsPassing p near needed all left ids looked → IsPassing p near needed all rest new (looked + 1)
IsPassing-found p near needed all left rest e ids new looked here on passes pushed was =
    let same = ap (viewed needed near) here ∙ viewed-on needed near e rest on in
    record {
      found = ap (λ ks. ks ++ keys_of (filter p (viewed needed near rest))) pushed ∙ append_assoc ids (e.0 ∷ []) (keys_of (filter p (viewed needed near rest)))
          ∙ ap (λ b. ids ++ keys_of (cond b (e ∷ filter p (viewed needed near rest)) (filter p (viewed needed near rest)))) (sym passes) ∙ ap (λ es. ids ++ keys_of (filter p es)) (sym same) ∙ was.found;
      counted = omega (arith, ap length same, was.counted);
    }

-- while entries are left, fewer than all are looked at
pub IsPassing-room : {X : Type 0} (p near : ℕ × X → Bool) (needed : Bool) (all left rest : List (ℕ × X)) (e : ℕ × X) (ids : List ℕ) (looked : ℕ)
    → left ≡ e ∷ rest → (needed ≡ true → near e ≡ true) → IsPassing p near needed all left ids looked → looked < length all
IsPassing-room p near needed all left rest e ids looked here on was =
    omega (arith, ap length (ap (viewed needed near) here ∙ viewed-on needed near e rest on), was.counted, length-viewed needed near all)

-- once none is left, the whole is there
pub IsPassing-end : {X : Type 0} (p near : ℕ × X → Bool) (needed : Bool) (all left : List (ℕ × X)) (ids : List ℕ) (looked : ℕ)
    → left ≡ [] → IsPassing p near needed all left ids looked → (ids ≡ keys_of (filter p (viewed needed near all))) × (looked ≡ length (viewed needed near all))
IsPassing-end p near true all left ids looked none was =
    (sym (append-nil ids) ∙ ap (λ es. ids ++ keys_of (filter p (filter near es))) (sym none) ∙ was.found, omega (arith, ap (λ es. length (filter near es)) none, was.counted))
IsPassing-end p near false all left ids looked none was =
    (sym (append-nil ids) ∙ ap (λ es. ids ++ keys_of (filter p es)) (sym none) ∙ was.found, omega (arith, ap length none, was.counted))

-- ---- identifiers by places

-- those that pass, with the one at the next place
pub kept-more : (p : ℕ → Bool) (xs : List ℕ) (i d : ℕ) (kept new : List ℕ) → i < length xs → kept ≡ filter p (take i xs) → p (get_or xs i d) ≡ true → new ≡ kept ++ get_or xs i d ∷ []
    → new ≡ filter p (take (i + 1) xs)
kept-more p xs i d kept new below was passes pushed =
    pushed ∙ ap (λ ks. ks ++ get_or xs i d ∷ []) was ∙ ap (λ b. filter p (take i xs) ++ cond b (get_or xs i d ∷ []) []) (sym passes) ∙ sym (filter_more p xs i d below)

pub passed-more : (p : ℕ → Bool) (xs : List ℕ) (i d : ℕ) (kept : List ℕ) → i < length xs → kept ≡ filter p (take i xs) → p (get_or xs i d) ≡ false → kept ≡ filter p (take (i + 1) xs)
passed-more p xs i d kept below was fails =
    was ∙ sym (append-nil (filter p (take i xs))) ∙ ap (λ b. filter p (take i xs) ++ cond b (get_or xs i d ∷ []) []) (sym fails) ∙ sym (filter_more p xs i d below)

-- of two tests either may come first
pub filter-turn : (p q : ℕ → Bool) (xs : List ℕ) → filter p (filter q xs) ≡ filter q (filter p xs)
filter-turn p q [] = refl
filter-turn p q (x ∷ xs) = by (p x) (q x) refl refl (filter-turn p q xs)
  where
    by : (b c : Bool) → p x ≡ b → q x ≡ c → filter p (filter q xs) ≡ filter q (filter p xs)
        → filter p (cond c (x ∷ filter q xs) (filter q xs)) ≡ filter q (cond b (x ∷ filter p xs) (filter p xs))
    by true true pass passes rest = ap (λ b. cond b (x ∷ filter p (filter q xs)) (filter p (filter q xs))) pass ∙ ap (λ ys. x ∷ ys) rest ∙ ap (λ b. cond b (x ∷ filter q (filter p xs)) (filter q (filter p xs))) (sym passes)
    by true false pass fails rest = rest ∙ ap (λ b. cond b (x ∷ filter q (filter p xs)) (filter q (filter p xs))) (sym fails)
    by false true fail passes rest = ap (λ b. cond b (x ∷ filter p (filter q xs)) (filter p (filter q xs))) fail ∙ rest
    by false false fail fails rest = rest

-- ---- rising identifiers

less-below : (m n : ℕ) → nat_cmp m n ≡ Less → m < n
less-below m n h = grind (arith, nat_tests)

pub rising-filter : {X : Type 0} (p : ℕ × X → Bool) (es : List (ℕ × X)) → IsStrictlySortedBy nat_cmp (keys_of es) → IsStrictlySortedBy nat_cmp (keys_of (filter p es))
unfolding IsStrictlySortedBy
rising-filter p [] h = tt
rising-filter {X} p (e ∷ es) h = by (p e) (rising-filter p es h.1)
  where
    above : (fs : List (ℕ × X)) → AllByRecursion (λ y. nat_cmp e.0 y ≡ Less) (keys_of fs) → AllByRecursion (λ y. nat_cmp e.0 y ≡ Less) (keys_of (filter p fs))
    above [] k = tt
    above (f ∷ fs) k = at (p f) (above fs k.1)
      where
        at : (b : Bool) → AllByRecursion (λ y. nat_cmp e.0 y ≡ Less) (keys_of (filter p fs)) → AllByRecursion (λ y. nat_cmp e.0 y ≡ Less) (keys_of (cond b (f ∷ filter p fs) (filter p fs)))
        at true rest = (k.0, rest)
        at false rest = rest

    by : (b : Bool) → IsStrictlySortedBy nat_cmp (keys_of (filter p es)) → IsStrictlySortedBy nat_cmp (keys_of (cond b (e ∷ filter p es) (filter p es)))
    by true rest = (above es h.0, rest)
    by false rest = rest

-- the entry of an identifier is the one that a look-up finds
abbrev pub IsFoundIn : {X : Type 0} → List (ℕ × X) → ℕ × X → Type 0
IsFoundIn {X} es e = ◌≡◌ {A = Option X} (lookup (nat_eq e.0) es) (Some e.1)

pub each-found : {X : Type 0} (es : List (ℕ × X)) → IsStrictlySortedBy nat_cmp (keys_of es) → AllByRecursion (IsFoundIn es) es
unfolding IsStrictlySortedBy
each-found [] h = tt
each-found {X} (e ∷ es) h = (ap (λ b. cond b (Some e.1) (lookup (nat_eq e.0) es)) (eq-eqb e.0 e.0 refl), later es h.0 (each-found es h.1))
  where
    later : (fs : List (ℕ × X)) → AllByRecursion (λ y. nat_cmp e.0 y ≡ Less) (keys_of fs) → AllByRecursion (IsFoundIn es) fs → AllByRecursion (IsFoundIn (e ∷ es)) fs
    later [] above k = tt
    later (f ∷ fs) above k =
        let below : e.0 < f.0 = less-below e.0 f.0 above.0 in
        (ap (λ b. cond b (Some e.1) (lookup (nat_eq f.0) es)) (ne_eqb f.0 e.0 (λ same. omega arith)) ∙ k.0, later fs above.1 k.1)

-- what holds of each value holds of the one that a look-up finds
pub value-found : {K X : Type 0} (P : X → Type 0) (test : K → Bool) (f : X) (es : List (K × X)) → AllByRecursion P (values_of es) → lookup test es ≡ Some f → P f
value-found P test f [] h found = cc
value-found {K} {X} P test f (e ∷ es) h found = by (test e.0) (value-found P test f es h.1) found
  where
    by : (b : Bool) → (lookup test es ≡ Some f → P f) → cond b (Some e.1) (lookup test es) ≡ Some f → P f
    by true rest here = let same : e.1 ≡ f = cc in subst P same h.0
    by false rest here = rest here

-- a look-up finds a value that passes
abbrev pub FindsPassing : {X : Type 0} → (X → Bool) → List (ℕ × X) → ℕ → Type 0
FindsPassing {X} t es id = (f : X) × (lookup (nat_eq id) es ≡ Some f) × (t f ≡ true)

-- the identifier of an entry that passes finds one
pub found-passes : {X : Type 0} (t : X → Bool) (es : List (ℕ × X)) (id : ℕ) → IsStrictlySortedBy nat_cmp (keys_of es)
    → Contains (keys_of (filter (λ e. t e.1) es)) id → FindsPassing t es id
found-passes {X} t es id rising h =
    All-contains (FindsPassing t es) (keys_of (filter (λ e. t e.1) es)) id
    (All-map (FindsPassing t es) (λ (e : ℕ × X). e.0) (filter (λ e. t e.1) es)
    (All-from_recursion (λ e. FindsPassing t es e.0) (filter (λ e. t e.1) es)
    (each-passes (λ e. t e.1) (λ e. FindsPassing t es e.0) es (each-map (IsFoundIn es) (λ e. t e.1 ≡ true → FindsPassing t es e.0) (λ e found passes. (e.1, found, passes)) es (each-found es rising)))))
    h

-- and the identifier of a value that passes is among those
pub passes-found : {X : Type 0} (t : X → Bool) (es : List (ℕ × X)) (id : ℕ) (f : X) → lookup (nat_eq id) es ≡ Some f → t f ≡ true → Contains (keys_of (filter (λ e. t e.1) es)) id
passes-found t [] id f found passes = cc
passes-found {X} t (e ∷ es) id f found passes = by (nat_eq id e.0) refl (λ k. passes-found t es id f k passes) found
  where
    rest-of : List ℕ
    rest-of = keys_of (filter (λ e. t e.1) es)

    more : (b : Bool) → Contains (keys_of (filter (λ e. t e.1) es)) id → Contains (keys_of (cond b (e ∷ filter (λ e. t e.1) es) (filter (λ e. t e.1) es))) id
    more true k = Contains-append_right (e.0 ∷ []) (keys_of (filter (λ e. t e.1) es)) id k
    more false k = k

    by : (b : Bool) → nat_eq id e.0 ≡ b → (lookup (nat_eq id) es ≡ Some f → Contains (keys_of (filter (λ e. t e.1) es)) id) → cond b (Some e.1) (lookup (nat_eq id) es) ≡ Some f
        → Contains (keys_of (filter (λ e. t e.1) (e ∷ es))) id
    by true is rest here =
        let value : ◌≡◌ {A = X} e.1 f = cc in
        let same : e.0 ≡ id = sym (eqb-true id e.0 is) in
        subst (λ b. Contains (keys_of (cond b (e ∷ filter (λ e. t e.1) es) (filter (λ e. t e.1) es))) id) (sym (ap t value ∙ passes))
        (0, omega arith, same)
    by false is rest here = more (t e.1) (rest here)

-- what holds of each value holds of each entry
pub each-value : {X : Type 0} (P : X → Type 0) (es : List (ℕ × X)) → AllByRecursion P (values_of es) → AllByRecursion (λ e. P e.1) es
each-value P [] h = tt
each-value P (e ∷ es) h = (h.0, each-value P es h.1)

-- each identifier of such entries is there
pub keys-there : {X : Type 0} (es fs : List (ℕ × X)) → AllByRecursion (IsFoundIn es) fs → AllByRecursion (λ id. IsSome (lookup (nat_eq id) es)) (keys_of fs)
keys-there es [] each = tt
keys-there es (f ∷ fs) each = (ap is_some each.0, keys-there es fs each.1)

-- the identifiers of which a look-up finds what passes are those of the entries that pass
pub keys-filter : {X : Type 0} (t : X → Bool) (es fs : List (ℕ × X)) → AllByRecursion (IsFoundIn es) fs
    → filter (λ id. option_map_or t (lookup (nat_eq id) es) false) (keys_of fs) ≡ keys_of (filter (λ e. t e.1) fs)
keys-filter t es [] each = refl
keys-filter {X} t es (f ∷ fs) each =
    ap (λ (o : Option X). cond (option_map_or t o false) (f.0 ∷ filter (λ id. option_map_or t (lookup (nat_eq id) es) false) (keys_of fs)) (filter (λ id. option_map_or t (lookup (nat_eq id) es) false) (keys_of fs))) each.0
    ∙ by (t f.1) (keys-filter t es fs each.1)
  where
    by : (b : Bool) → filter (λ id. option_map_or t (lookup (nat_eq id) es) false) (keys_of fs) ≡ keys_of (filter (λ e. t e.1) fs)
        → cond b (f.0 ∷ filter (λ id. option_map_or t (lookup (nat_eq id) es) false) (keys_of fs)) (filter (λ id. option_map_or t (lookup (nat_eq id) es) false) (keys_of fs))
        ≡ keys_of (cond b (f ∷ filter (λ e. t e.1) fs) (filter (λ e. t e.1) fs))
    by true rest = ap (λ ks. f.0 ∷ ks) rest
    by false rest = rest
