-- The stops and bundles of the parts of a column: those of all are those of its parts, and each part is closed.
use Rattle.std.proofs.Common.{◌≡◌, refl, ap, sym, ◌∙◌, subst, ℕ, zero, suc, ◌-◌, arith, Bool, true, false, cond, List, [], ◌∷◌, ◌++◌, None, length, take, drop, map}
use Rattle.std.specs.List.{AllByRecursion}
use Rattle.std.proofs.lemmas.Bool.{false≢true}
use Rattle.std.proofs.lemmas.List.{drop-append-le, length-drop, map-append, take-append-drop, take-append-le}
use Rattle.sf_strips.specs.declared.active.Active.{Active}
use Rattle.sf_strips.specs.declared.contact.Contact.{Contact}
use Rattle.sf_strips.specs.declared.level.Level.{Level}
use Rattle.sf_strips.specs.declared.vertex.Vertex.{Vertex}
use Rattle.sf_strips.specs.Fronts.{pieces_of, touches}
use Rattle.sf_strips.specs.Levels.{TakeAll}
use Rattle.sf_strips.specs.Parts.{touches_first}
use Rattle.sf_strips.specs.Vertices.{enters, leaves, pieces_with}
use Rattle.sf_cells.specs.Groups.{counts}
use Rattle.sf_cells.specs.Hands.{AtMost, Balanced, Stop, minus, on_gap, plus, stop_of, stops}
use Rattle.sf_cells.proofs.TallyLaws.{add_both, add_none, added_taken, added_there, length-counts}
use Rattle.sf_sweep.specs.Passing.{IsLastApart, contact_at}
use Rattle.sf_sweep.specs.Tables.{bundles_of, contacts_of, with_first}
use Rattle.sf_sweep.specs.Windows.{IsClosed, above_below, bundle_stop, on_below, past}
use Rattle.sf_sweep.proofs.PassLaws.{some-bundles}
pub use Rattle.sf_sweep.specs.Within.{all_pieces}

-- ---- the stops of a window, and of what is below it
pub window-stops : (es fs : List Active) (us vs : List Vertex) (os ps : List Active) (ls ms : List Level) → TakeAll (length es) (length us) (length os) ls →
    stops (es ++ fs) (us ++ vs) (os ++ ps) (ls ++ ms) ≡ stops es us os ls ++ stops fs vs ps ms
window-stops [] fs [] vs [] ps [] ms t = refl
window-stops [] fs [] vs (o ∷ os) ps [] ms t = absurd (omega (arith, t.1.1))
window-stops [] fs (u ∷ us) vs os ps [] ms t = absurd (omega (arith, t.1.0))
window-stops (e ∷ es) fs us vs os ps [] ms t = absurd (omega (arith, t.0))
window-stops es fs us vs os ps (l ∷ ls) ms t =
    let fewer : TakeAll (length (drop l.edges es)) (length (drop l.vertices us)) (length (drop l.onward os)) ls =
    subst (λ z. TakeAll z (length (drop l.vertices us)) (length (drop l.onward os)) ls) (sym (length-drop l.edges es))
    (subst (λ z. TakeAll (length es - l.edges) z (length (drop l.onward os)) ls) (sym (length-drop l.vertices us))
    (subst (λ z. TakeAll (length es - l.edges) (length us - l.vertices) z ls) (sym (length-drop l.onward os)) t.1.1.1)) in
    rw (take-append-le l.edges es fs t.0, take-append-le l.vertices us vs t.1.0, take-append-le l.onward os ps t.1.1.0, drop-append-le l.edges es fs t.0, drop-append-le l.vertices us vs t.1.0, drop-append-le l.onward os ps t.1.1.0)
    (ap (λ ss. stop_of l es us os ∷ ss) (window-stops (drop l.edges es) fs (drop l.vertices us) vs (drop l.onward os) ps ls ms fewer))

-- ---- the bundles of edges, and of what is below them
bundles-behind : (t : Bool) (n : ℕ) (bs cs : List (List ℕ)) → ((bs ≡ []) → ⊥) →
    cond t (with_first n (bs ++ cs)) ((n ∷ []) ∷ (bs ++ cs)) ≡ cond t (with_first n bs) ((n ∷ []) ∷ bs) ++ cs
bundles-behind t n [] cs some = absurd (some refl)
bundles-behind true n (b ∷ bs) cs some = refl
bundles-behind false n (b ∷ bs) cs some = refl

pub bundles-join : (table : List Contact) (es fs : List Active) → IsLastApart None table es →
    bundles_of (contacts_of table (es ++ fs)) (es ++ fs) ≡ bundles_of (contacts_of table es) es ++ bundles_of (contacts_of table fs) fs
bundles-join table [] fs h = refl
bundles-join table (a ∷ []) [] h = refl
bundles-join table (a ∷ []) (f ∷ fs) h = by_test (touches None (contact_at table a)) h
  where
    by_test : (t : Bool) → t ≡ false →
        cond t (with_first a.piece (bundles_of (contacts_of table (f ∷ fs)) (f ∷ fs))) ((a.piece ∷ []) ∷ bundles_of (contacts_of table (f ∷ fs)) (f ∷ fs))
        ≡ (a.piece ∷ []) ∷ bundles_of (contacts_of table (f ∷ fs)) (f ∷ fs)
    by_test true e = absurd (false≢true (sym e))
    by_test false e = refl
bundles-join table (a ∷ b ∷ es) fs h =
    ap (λ bs. cond (touches None (contact_at table a)) (with_first a.piece bs) ((a.piece ∷ []) ∷ bs)) (bundles-join table (b ∷ es) fs h)
    ∙ bundles-behind (touches None (contact_at table a)) a.piece (bundles_of (contacts_of table (b ∷ es)) (b ∷ es)) (bundles_of (contacts_of table fs) fs)
    (some-bundles (contacts_of table (b ∷ es)) b es)

-- ---- what is above once bundles are past
pub past-plus : (groups above : List ℕ) (bs : List (List ℕ)) → past groups above bs ≡ plus above (counts groups (all_pieces bs))
past-plus groups above [] = sym (add_none groups above)
past-plus groups above (b ∷ bs) = past-plus groups (plus above (counts groups b)) bs ∙ add_both groups above b (all_pieces bs)

first-piece : (t : Bool) (n : ℕ) (bs : List (List ℕ)) → all_pieces (cond t (with_first n bs) ((n ∷ []) ∷ bs)) ≡ n ∷ all_pieces bs
first-piece true n [] = refl
first-piece true n (b ∷ bs) = refl
first-piece false n bs = refl

pub bundles-pieces : (cs : List Contact) (os : List Active) → all_pieces (bundles_of cs os) ≡ pieces_of os
bundles-pieces cs [] = refl
bundles-pieces cs (a ∷ os) =
    first-piece (touches_first None cs) a.piece (bundles_of (drop 1 cs) os) ∙ ap (λ ns. a.piece ∷ ns) (bundles-pieces (drop 1 cs) os)

-- below some levels, all that goes on from them is above
halves : (n : ℕ) (os : List Active) → pieces_of (take n os) ++ pieces_of (drop n os) ≡ pieces_of os
halves n os = sym (map-append (λ e. e.piece) (take n os) (drop n os)) ∙ ap pieces_of (take-append-drop n os)

pub above-plus : (groups above : List ℕ) (e v : ℕ) (es : List Active) (us : List Vertex) (os : List Active) (ls : List Level) → TakeAll e v (length os) ls →
    above_below groups above (stops es us os ls) ≡ plus above (counts groups (pieces_of os))
above-plus groups above e v es us [] [] t = sym (add_none groups above)
above-plus groups above e v es us (o ∷ os) [] t = absurd (omega (arith, t.1.1))
above-plus groups above e v es us os (l ∷ ls) t =
    above-plus groups (plus above (counts groups (pieces_of (take l.onward os)))) (e - l.edges) (v - l.vertices) (drop l.edges es) (drop l.vertices us) (drop l.onward os) ls
    (subst (λ z. TakeAll (e - l.edges) (v - l.vertices) z ls) (sym (length-drop l.onward os)) t.1.1.1)
    ∙ add_both groups above (pieces_of (take l.onward os)) (pieces_of (drop l.onward os))
    ∙ ap (λ ns. plus above (counts groups ns)) (halves l.onward os)

-- ---- what is on the gap below a window
-- at each vertex what enters leaves
abbrev pub HasNoUpright : List Vertex → Type 0
HasNoUpright us = AllByRecursion (λ u. enters u.role ≡ leaves u.role) us

pub enters-leave : (us : List Vertex) → HasNoUpright us → pieces_with enters us ≡ pieces_with leaves us
enters-leave [] h = refl
enters-leave (u ∷ us) h = ap (λ t. cond t (u.piece ∷ pieces_with enters us) (pieces_with enters us)) h.0 ∙ ap (λ ns. cond (leaves u.role) (u.piece ∷ ns) ns) (enters-leave us h.1)

pub each-take : {A : Type 0} (P : A → Type 0) (n : ℕ) (xs : List A) → AllByRecursion P xs → AllByRecursion P (take n xs)
each-take P zero xs h = tt
each-take P (suc n) [] h = tt
each-take P (suc n) (x ∷ xs) h = (h.0, each-take P n xs h.1)

pub each-drop : {A : Type 0} (P : A → Type 0) (n : ℕ) (xs : List A) → AllByRecursion P xs → AllByRecursion P (drop n xs)
each-drop P zero xs h = h
each-drop P (suc n) [] h = tt
each-drop P (suc n) (x ∷ xs) h = each-drop P n xs h.1

-- what is on the gap below a level without uprights is what is on the gap above it
gap-same : (groups on : List ℕ) (l : Level) (es : List Active) (us : List Vertex) (os : List Active) → HasNoUpright us → on_gap groups on (stop_of l es us os) ≡ on
gap-same groups on l es us os h =
    let same : (stop_of l es us os).enter ≡ (stop_of l es us os).leave =
    ap (λ ns. pieces_of (take l.edges es) ++ ns) (enters-leave (take l.vertices us) (each-take (λ u. enters u.role ≡ leaves u.role) l.vertices us h)) in
    ap (λ ns. minus (plus on (counts groups ns)) (counts groups (stop_of l es us os).leave)) same ∙ added_taken groups on (stop_of l es us os).leave

pub on-same : (groups on : List ℕ) (es : List Active) (us : List Vertex) (os : List Active) (ls : List Level) → HasNoUpright us → on_below groups on (stops es us os ls) ≡ on
on-same groups on es us os [] h = refl
on-same groups on es us os (l ∷ ls) h =
    ap (λ ns. on_below groups ns (stops (drop l.edges es) (drop l.vertices us) (drop l.onward os) ls)) (gap-same groups on l es us os h)
    ∙ on-same groups on (drop l.edges es) (drop l.vertices us) (drop l.onward os) ls (each-drop (λ u. enters u.role ≡ leaves u.role) l.vertices us h)

-- such a window can be handed out
pub balanced-same : (groups : List ℕ) (es : List Active) (us : List Vertex) (os : List Active) (ls : List Level) → HasNoUpright us →
    Balanced groups (counts groups []) (stops es us os ls)
balanced-same groups es us os [] h = refl
balanced-same groups es us os (l ∷ ls) h =
    let same : (stop_of l es us os).enter ≡ (stop_of l es us os).leave =
    ap (λ ns. pieces_of (take l.edges es) ++ ns) (enters-leave (take l.vertices us) (each-take (λ u. enters u.role ≡ leaves u.role) l.vertices us h)) in (
      subst (λ ns. AtMost (counts groups (stop_of l es us os).leave) (plus (counts groups []) (counts groups ns))) (sym same)
          (added_there groups (counts groups []) (stop_of l es us os).leave (length-counts groups [])),
      subst (λ ns. Balanced groups ns (stops (drop l.edges es) (drop l.vertices us) (drop l.onward os) ls)) (sym (gap-same groups (counts groups []) l es us os h))
          (balanced-same groups (drop l.edges es) (drop l.vertices us) (drop l.onward os) ls (each-drop (λ u. enters u.role ≡ leaves u.role) l.vertices us h)),
    )

-- ---- windows with uprights go down to the last vertex: from the column's balance
pub balanced-first : (groups on : List ℕ) (ss ts : List Stop) → Balanced groups on (ss ++ ts) → on_below groups on ss ≡ counts groups [] → Balanced groups on ss
balanced-first groups on [] ts h e = e
balanced-first groups on (s ∷ ss) ts h e = (h.0, balanced-first groups (on_gap groups on s) ss ts h.1 e)

pub balanced-rest : (groups on : List ℕ) (ss ts : List Stop) → Balanced groups on (ss ++ ts) → Balanced groups (on_below groups on ss) ts
balanced-rest groups on [] ts h = h
balanced-rest groups on (s ∷ ss) ts h = balanced-rest groups (on_gap groups on s) ss ts h.1

pub balanced-end : (groups on : List ℕ) (ss : List Stop) → Balanced groups on ss → on_below groups on ss ≡ counts groups []
balanced-end groups on [] h = h
balanced-end groups on (s ∷ ss) h = balanced-end groups (on_gap groups on s) ss h.1

pub passed-on : (groups on : List ℕ) (bs : List (List ℕ)) → on_below groups on (map bundle_stop bs) ≡ on
passed-on groups on [] = refl
passed-on groups on (b ∷ bs) = ap (λ ns. on_below groups ns (map bundle_stop bs)) (added_taken groups on b) ∙ passed-on groups on bs

passed-above : (groups above : List ℕ) (bs : List (List ℕ)) → above_below groups above (map bundle_stop bs) ≡ past groups above bs
passed-above groups above [] = refl
passed-above groups above (b ∷ bs) = passed-above groups (plus above (counts groups b)) bs

-- ---- each part is closed
pub passed-closed : (groups : List ℕ) (bs : List (List ℕ)) → IsClosed groups (record { stops = map bundle_stop bs; coming = bs; going = bs })
passed-closed groups bs = record { on = passed-on groups (counts groups []) bs; above = λ above. passed-above groups above bs }

pub window-closed : (groups : List ℕ) (coming : List (List ℕ)) (cs : List Contact) (e v : ℕ) (es : List Active) (us : List Vertex) (os : List Active) (ls : List Level) → TakeAll e v (length os) ls →
    on_below groups (counts groups []) (stops es us os ls) ≡ counts groups [] →
    IsClosed groups (record { stops = stops es us os ls; coming = coming; going = bundles_of cs os })
window-closed groups coming cs e v es us os ls t h =
    record {
      on = h;
      above = λ above.
          above-plus groups above e v es us os ls t
          ∙ sym (past-plus groups above (bundles_of cs os) ∙ ap (λ ns. plus above (counts groups ns)) (bundles-pieces cs os));
    }
