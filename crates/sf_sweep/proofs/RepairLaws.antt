-- A repair, bundle by bundle.
use Rattle.std.proofs.Common.{◌≡◌, refl, ap, sym, ◌∙◌, subst, ℕ, suc, ◌≤◌, ◌<◌, arith, get_or, Bool, List, [], ◌∷◌, ◌++◌, None, length, map, take, drop}
use Rattle.std.specs.List.{All, AllByRecursion, fold}
use Rattle.std.proofs.lemmas.List.{append_assoc, take-append-drop}
use Rattle.sf_strips.specs.declared.active.Active.{Active}
use Rattle.sf_strips.specs.declared.contact.Contact.{Contact}
use Rattle.sf_strips.specs.Fronts.{pieces_of}
use Rattle.sf_strips.specs.Levels.{run_length}
use Rattle.sf_strips.proofs.CutLaws.{run-le}
use Rattle.sf_sweep.proofs.JoinLaws.{contacts-fewer}
use Rattle.sf_cells.specs.Groups.{Item, counts, group_count}
use Rattle.sf_cells.specs.Hands.{item, plus}
use Rattle.sf_cells.proofs.TallyLaws.{length-added}
use Rattle.sf_classes.specs.Classes.{Represent, odds}
use Rattle.sf_sweep.specs.Parities.{as_count, parities, row_below, stored, turned}
use Rattle.sf_sweep.specs.Passing.{IsLastApart}
use Rattle.sf_sweep.specs.Repairs.{AgreesAt, IsHandedTo}
use Rattle.sf_sweep.specs.Tables.{bundles_of, contacts_of}
use Rattle.sf_sweep.specs.Windows.{bundle_items, past}
use Rattle.sf_sweep.proofs.ParityLaws.{bundle-more, odds-written, row-is}
use Rattle.sf_sweep.proofs.RunLaws.{run-bundle}
use Rattle.sf_sweep.proofs.StopLaws.{bundles-join, bundles-pieces, past-plus}
use Rattle.std.specs.Prelude.{slice_index, slice_set}

-- ---- edges, and those below them
row-append : (areal : List Bool) (groups : List ℕ) (row : List Bool) (es fs : List Active) → row_below areal groups row (es ++ fs) ≡ row_below areal groups (row_below areal groups row es) fs
row-append areal groups row [] fs = refl
row-append areal groups row (a ∷ es) fs = row-append areal groups (turned areal row (slice_index groups a.piece)) es fs

stored-append : (areal : List Bool) (groups : List ℕ) (table : List (List Bool)) (row : List Bool) (es fs : List Active) →
    stored areal groups table row (es ++ fs) ≡ stored areal groups (stored areal groups table row es) (row_below areal groups row es) fs
stored-append areal groups table row [] fs = refl
stored-append areal groups table row (a ∷ es) fs = stored-append areal groups (slice_set table a.piece row) (turned areal row (slice_index groups a.piece)) es fs

apart-append : (contacts : List Contact) (es fs : List Active) → IsLastApart None contacts es → IsLastApart None contacts fs → IsLastApart None contacts (es ++ fs)
apart-append contacts [] fs h k = k
apart-append contacts (a ∷ []) [] h k = h
apart-append contacts (a ∷ []) (f ∷ fs) h k = k
apart-append contacts (a ∷ b ∷ es) fs h k = apart-append contacts (b ∷ es) fs h k

pub each-parts : (P : Active → Type 0) (es fs : List Active) → AllByRecursion P (es ++ fs) → AllByRecursion P es × AllByRecursion P fs
each-parts P [] fs h = (tt, h)
each-parts P (a ∷ es) fs h = let r = each-parts P es fs h.1 in ((h.0, r.0), r.1)

fold-append : {C : Type 0} (after : C → Item → C) (c : C) (is js : List Item) → fold after c (is ++ js) ≡ fold after (fold after c is) js
fold-append after c [] js = refl
fold-append after c (i ∷ is) js = fold-append after (after c i) is js

-- ---- parities handed out in place of counts
shown-odds : (areal : List Bool) (groups ms : List ℕ) (row : List Bool) (k : ℕ) → length ms ≡ group_count groups → k ≡ group_count groups → row ≡ parities areal ms →
    odds areal (map as_count (take k row)) ≡ odds areal ms
shown-odds areal groups ms row k len e r =
    ap (λ z. odds areal (map as_count (take k z))) r
    ∙ ap (λ n. odds areal (map as_count (take n (parities areal ms)))) (e ∙ sym len)
    ∙ odds-written areal ms

pub past-pieces : (groups ns : List ℕ) (contacts : List Contact) (es : List Active) → past groups ns (bundles_of (contacts_of contacts es) es) ≡ plus ns (counts groups (pieces_of es))
past-pieces groups ns contacts es =
    past-plus groups ns (bundles_of (contacts_of contacts es) es) ∙ ap (λ ps. plus ns (counts groups ps)) (bundles-pieces (contacts_of contacts es) es)

-- ---- so far
pub record RepairedSoFar {Content : Type 0} (areal : List Bool) (groups : List ℕ) (contacts : List Contact) (order : List Active) (above : List Bool) (table table' : List (List Bool))
    (after : Content → Item → Content) (old new : Content) (odd : List Bool) (rest : List Active) : Type 0 where
  pub done : List Active
  pub handed : IsHandedTo areal groups contacts order done rest above table table' after old new
  pub row : odd ≡ row_below areal groups above done
  pub below : IsLastApart None contacts rest

pub repaired-none : {Content : Type 0} (areal : List Bool) (groups : List ℕ) (contacts : List Contact) (order : List Active) (above : List Bool) (table : List (List Bool))
    (after : Content → Item → Content) (old : Content) → IsLastApart None contacts order → RepairedSoFar areal groups contacts order above table table after old old above order
repaired-none areal groups contacts order above table after old h =
    record {
      done = [];
      handed = record { all = refl; apart = tt; items = []; handed = refl; represent = λ ns i e. record { of_cells = tt; of_items = tt }; kept = refl };
      row = refl;
      below = h;
    }

pub repaired-more : {Content : Type 0} (areal : List Bool) (groups : List ℕ) (contacts : List Contact) (order : List Active) (above : List Bool) (table table' table'' : List (List Bool))
    (after : Content → Item → Content) (old new between new' : Content) (odd odd' : List Bool) (a : Active) (es bundle lower : List Active) (n k l : ℕ) →
    AllByRecursion (λ a. a.piece < length groups) order → k ≡ group_count groups → l ≡ group_count groups →
    n ≡ run_length None (a ∷ es) (contacts_of contacts (a ∷ es)) → bundle ≡ take n (a ∷ es) → lower ≡ drop n (a ∷ es) →
    between ≡ after new (item 1 (counts groups (pieces_of bundle)) (map as_count (take k odd))) →
    new' ≡ after between (item 2 (counts groups []) (map as_count (take l odd'))) →
    table'' ≡ stored areal groups table' odd bundle → odd' ≡ row_below areal groups odd bundle →
    RepairedSoFar areal groups contacts order above table table' after old new odd (a ∷ es) →
    RepairedSoFar areal groups contacts order above table table'' after old new' odd' lower
repaired-more areal groups contacts order above table table' table'' after old new between new' odd odd' a es bundle lower n k l pieces ek el en eb el' e1 e2 et eo s =
    let h = s.handed in
    let first : Item = item 1 (counts groups (pieces_of bundle)) (map as_count (take k odd)) in
    let second : Item = item 2 (counts groups []) (map as_count (take l odd')) in
    let run = run-bundle contacts a es n s.below en in
    let all : a ∷ es ≡ bundle ++ lower = sym (ap (λ z. z ++ lower) eb ∙ ap (λ z. take n (a ∷ es) ++ z) el' ∙ take-append-drop n (a ∷ es)) in
    let whole : order ≡ (s.done ++ bundle) ++ lower = h.all ∙ ap (λ z. s.done ++ z) all ∙ sym (append_assoc s.done bundle lower) in
    let each = each-parts (λ a. a.piece < length groups) (s.done ++ bundle) lower (subst (AllByRecursion (λ a. a.piece < length groups)) whole pieces) in
    let parts = each-parts (λ a. a.piece < length groups) s.done bundle each.0 in
    let apart : IsLastApart None contacts bundle = subst (IsLastApart None contacts) (sym eb) run.apart in
    let one : bundles_of (contacts_of contacts bundle) bundle ≡ pieces_of bundle ∷ [] =
    subst (λ z. bundles_of (contacts_of contacts z) z ≡ pieces_of z ∷ []) (sym eb) run.bundle in
    record {
      done = s.done ++ bundle;
      handed = record {
        all = whole;
        apart = apart-append contacts s.done bundle h.apart apart;
        items = h.items ++ first ∷ second ∷ [];
        handed = e2 ∙ ap (λ c. after c second) e1 ∙ ap (λ c. after (after c first) second) h.handed ∙ sym (fold-append after old h.items (first ∷ second ∷ []));
        represent = λ ns i e.
            let ms : List ℕ = plus ns (counts groups (pieces_of s.done)) in
            let len : length ms ≡ group_count groups = length-added groups ns (pieces_of s.done) i in
            let row : odd ≡ parities areal ms = s.row ∙ row-is areal groups ns above s.done i parts.0 (sym e) in
            let row' : odd' ≡ parities areal (plus ms (counts groups (pieces_of bundle))) = eo ∙ row-is areal groups ms odd bundle len parts.1 row in
            let past_is = past-pieces groups ns contacts s.done in
            subst (λ bs. Represent areal (h.items ++ first ∷ second ∷ []) (bundle_items groups ns bs))
            (sym (bundles-join contacts s.done bundle h.apart ∙ ap (λ bs. bundles_of (contacts_of contacts s.done) s.done ++ bs) one))
            (bundle-more areal groups ns (map as_count (take k odd)) (map as_count (take l odd')) (bundles_of (contacts_of contacts s.done) s.done) (pieces_of bundle) h.items (h.represent ns i e)
            (shown-odds areal groups ms odd k len ek row ∙ ap (odds areal) (sym past_is))
            (shown-odds areal groups (plus ms (counts groups (pieces_of bundle))) odd' l (length-added groups ms (pieces_of bundle) len) el row'
            ∙ ap (λ z. odds areal (plus z (counts groups (pieces_of bundle)))) (sym past_is)));
        kept = et
            ∙ ap (λ t. stored areal groups t odd bundle) h.kept
            ∙ ap (λ r. stored areal groups (stored areal groups table above s.done) r bundle) s.row
            ∙ sym (stored-append areal groups table above s.done bundle);
      };
      row = eo ∙ ap (λ r. row_below areal groups r bundle) s.row ∙ sym (row-append areal groups above s.done bundle);
      below = subst (IsLastApart None contacts) (sym el') run.below;
    }

-- a turn of the loop
pub each-of : {A : Type 0} (P : A → Type 0) (xs : List A) → All P xs → AllByRecursion P xs
each-of P [] h = tt
each-of P (x ∷ xs) h = (h 0 x (omega arith), each-of P xs (λ k d l. h (suc k) d (omega (arith, l))))

pub repaired-turn : {Content : Type 0} (areal : List Bool) (groups : List ℕ) (contacts : List Contact) (order : List Active) (above : List Bool) (table table' table'' : List (List Bool))
    (after : Content → Item → Content) (old new between new' : Content) (odd odd' : List Bool) (rest bundle lower : List Active) (n k l : ℕ) → 0 < length rest →
    All (λ a. a.piece < length groups) order → k ≡ group_count groups → l ≡ group_count groups →
    n ≡ run_length None rest (contacts_of contacts rest) → bundle ≡ take n rest → lower ≡ drop n rest →
    between ≡ after new (item 1 (counts groups (pieces_of bundle)) (map as_count (take k odd))) →
    new' ≡ after between (item 2 (counts groups []) (map as_count (take l odd'))) →
    table'' ≡ stored areal groups table' odd bundle → odd' ≡ row_below areal groups odd bundle →
    RepairedSoFar areal groups contacts order above table table' after old new odd rest →
    RepairedSoFar areal groups contacts order above table table'' after old new' odd' lower
repaired-turn areal groups contacts order above table table' table'' after old new between new' odd odd' [] bundle lower n k l some pieces = absurd (omega (arith, some))
repaired-turn areal groups contacts order above table table' table'' after old new between new' odd odd' (a ∷ es) bundle lower n k l some pieces =
    repaired-more areal groups contacts order above table table' table'' after old new between new' odd odd' a es bundle lower n k l (each-of (λ a. a.piece < length groups) order pieces)

pub agrees-at : (table : List (List Bool)) (row odd : List Bool) (rest : List Active) (a : Active) → a ≡ get_or rest 0 a → 0 < length rest → get_or table a.piece [] ≡ odd → odd ≡ row →
    AgreesAt table row rest
agrees-at table row odd [] a h some e f = tt
agrees-at table row odd (b ∷ es) a h some e f = ap (λ z. get_or table z.piece []) (sym h) ∙ e ∙ f

pub run-within : (contacts : List Contact) (rest : List Active) → 0 < length rest → run_length None rest (contacts_of contacts rest) ≤ length rest
run-within contacts rest some = run-le None rest (contacts_of contacts rest) (contacts-fewer contacts rest)
