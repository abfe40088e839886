-- Where no upright edge begins among the vertices of a window, none ends there: else more would leave the window than was on it.
use Rattle.std.proofs.Common.{◌≡◌, refl, ap, sym, ◌∙◌, subst, ℕ, zero, suc, ◌+◌, ◌-◌, ◌≤◌, ◌<◌, arith, Bool, true, false, cond, List, [], ◌∷◌, ◌++◌, length, map, take, drop}
use Rattle.std.specs.Prelude.{slice_index, sum_by}
use Rattle.std.specs.List.{AllByRecursion}
use Rattle.std.proofs.lemmas.Bool.{false≢true}
use Rattle.std.proofs.lemmas.List.{append-nil, append_assoc, length-drop, take-append-drop}
use Rattle.std.proofs.lemmas.List.Sums.{sum_by-append, sum_by-cons}
use Rattle.sf_strips.specs.declared.active.Active.{Active}
use Rattle.sf_strips.specs.declared.level.Level.{Level}
use Rattle.sf_strips.specs.declared.vertex.Vertex.{Vertex}
use Rattle.sf_strips.specs.Fronts.{SameNumbers, pieces_of}
use Rattle.sf_strips.specs.Levels.{TakeAll}
use Rattle.sf_strips.specs.Vertices.{enters, leaves, pieces_with}
use Rattle.sf_cells.specs.Groups.{counts, group_count, numbers}
use Rattle.sf_cells.specs.Hands.{AtMost, Balanced, Stop, minus, on_gap, plus, stop_of, stops}
use Rattle.sf_cells.proofs.TallyLaws.{added_taken, counts-grown, first_there, members, one_there}
use Rattle.sf_sweep.proofs.StopLaws.{HasNoUpright, each-drop, each-take, enters-leave}
use Rattle.sf_sweep.proofs.WindowLaws.{none-enters}
pub use Rattle.sf_sweep.specs.Within.{HasNoTop}

-- ---- the same taken off on both sides
less-both : (a b c : List ℕ) → AtMost (plus a c) (plus b c) → AtMost a b
less-both [] b c h = tt
less-both (m ∷ ms) [] [] h = h
less-both (m ∷ ms) [] (k ∷ ks) h = h
less-both (m ∷ ms) (n ∷ ns) [] h = h
less-both (m ∷ ms) (n ∷ ns) (k ∷ ks) h = (omega (arith, h.0), less-both ms ns ks h.1)

moved : (p : ℕ) (xs ys : List ℕ) → SameNumbers ((p ∷ []) ++ (xs ++ ys)) (xs ++ p ∷ ys)
moved p xs ys w =
    swapped (w p) (sum_by w xs) (sum_by w ys) (sum_by w (p ∷ (xs ++ ys))) (sum_by w (xs ++ ys)) (sum_by w (xs ++ p ∷ ys)) (sum_by w (p ∷ ys))
    (sum_by-cons w p (xs ++ ys)) (sum_by-append w xs ys) (sum_by-append w xs (p ∷ ys)) (sum_by-cons w p ys)
  where
    swapped : (a b c d e f g : ℕ) → d ≡ a + e → e ≡ b + c → f ≡ b + g → g ≡ a + c → d ≡ f
    swapped a b c d e f g h i j k = omega arith

counts-moved : (groups : List ℕ) (p : ℕ) (xs ys : List ℕ) → counts groups (xs ++ p ∷ ys) ≡ plus (counts groups (xs ++ ys)) (counts groups (p ∷ []))
counts-moved groups p xs ys = sym (counts-grown groups (p ∷ []) (xs ++ ys) (xs ++ p ∷ ys) (moved p xs ys))

less-piece : (groups : List ℕ) (p : ℕ) (xs ys zs : List ℕ) → AtMost (counts groups (xs ++ p ∷ ys)) (counts groups (p ∷ zs)) → AtMost (counts groups (xs ++ ys)) (counts groups zs)
less-piece groups p xs ys zs h =
    less-both (counts groups (xs ++ ys)) (counts groups zs) (counts groups (p ∷ []))
    (subst (λ t. AtMost t (plus (counts groups zs) (counts groups (p ∷ [])))) (counts-moved groups p xs ys) (subst (AtMost (counts groups (xs ++ p ∷ ys))) (counts-moved groups p [] zs) h))

pub less-pieces : (groups es xs ys : List ℕ) → AtMost (counts groups (es ++ xs)) (counts groups (es ++ ys)) → AtMost (counts groups xs) (counts groups ys)
less-pieces groups [] xs ys h = h
less-pieces groups (e ∷ es) xs ys h = less-pieces groups es xs ys (less-piece groups e [] (es ++ xs) (es ++ ys) h)

-- ---- no pieces are no more than none
zero-at : (f : ℕ → ℕ) (ks : List ℕ) (g : ℕ) → ((k : ℕ) → f k ≡ 0) → slice_index (map f ks) g ≤ 0
zero-at f [] g z = omega arith
zero-at f (k ∷ ks) zero z = omega (arith, z k)
zero-at f (k ∷ ks) (suc g) z = zero-at f ks g z

none-more : (groups bs : List ℕ) → AllByRecursion (λ p. p < length groups) bs → AtMost (counts groups bs) (counts groups []) → bs ≡ []
none-more groups [] r h = refl
none-more groups (b ∷ bs) r h =
    let one : 1 ≤ slice_index (counts groups []) (slice_index groups b) = one_there groups (counts groups []) b r.0 (first_there groups (counts groups []) (b ∷ []) bs h) in
    let none : slice_index (counts groups []) (slice_index groups b) ≤ 0 = zero-at (members groups []) (numbers 0 (group_count groups)) (slice_index groups b) (λ k. refl) in
    absurd (omega (arith, one, none))

-- ---- vertices where no upright edge begins
record HasNone (bs : List ℕ) (us : List Vertex) : Type 0 where
  none : bs ≡ []
  upright : HasNoUpright us

each-behind : (n : ℕ) (bs : List ℕ) (p : ℕ) → AllByRecursion (λ p. p < n) bs → p < n → AllByRecursion (λ p. p < n) (bs ++ p ∷ [])
each-behind n [] p h k = (k, tt)
each-behind n (b ∷ bs) p h k = (h.0, each-behind n bs p h.1 k)

some-behind : (bs : List ℕ) (p : ℕ) → bs ++ p ∷ [] ≡ [] → ⊥
some-behind [] p h = cc
some-behind (b ∷ bs) p h = cc

none-ends_behind : (groups bs : List ℕ) (us : List Vertex) → AllByRecursion (λ p. p < length groups) bs → AllByRecursion (λ u. u.piece < length groups) us → HasNoTop us →
    AtMost (counts groups (bs ++ pieces_with leaves us)) (counts groups (pieces_with enters us)) → HasNone bs us
none-ends_behind groups bs [] r s t h = record { none = none-more groups bs r (subst (λ z. AtMost (counts groups z) (counts groups [])) (append-nil bs) h); upright = tt }
none-ends_behind groups bs (u ∷ us) r s t h =
    by_role (enters u.role) (leaves u.role) refl refl h (λ cs q k. none-ends_behind groups cs us q s.1 t.1 k)
  where
    by_role : (e l : Bool) → enters u.role ≡ e → leaves u.role ≡ l →
        AtMost (counts groups (bs ++ cond l (u.piece ∷ pieces_with leaves us) (pieces_with leaves us))) (counts groups (cond e (u.piece ∷ pieces_with enters us) (pieces_with enters us))) →
        ((cs : List ℕ) → AllByRecursion (λ p. p < length groups) cs → AtMost (counts groups (cs ++ pieces_with leaves us)) (counts groups (pieces_with enters us)) → HasNone cs us) → HasNone bs (u ∷ us)
    by_role true true i j h further =
        let k = further bs r (less-piece groups u.piece bs (pieces_with leaves us) (pieces_with enters us) h) in record { none = k.none; upright = (i ∙ sym j, k.upright) }
    by_role false false i j h further = let k = further bs r h in record { none = k.none; upright = (i ∙ sym j, k.upright) }
    by_role true false i j h further = absurd (false≢true (sym j ∙ t.0 i))
    by_role false true i j h further =
        let k = further (bs ++ u.piece ∷ []) (each-behind (length groups) bs u.piece r s.0)
        (subst (λ z. AtMost (counts groups z) (counts groups (pieces_with enters us))) (sym (append_assoc bs (u.piece ∷ []) (pieces_with leaves us))) h) in
        absurd (some-behind bs u.piece k.none)

-- vertices of a level below a gap with nothing on it
pub none-ends : (groups es : List ℕ) (us : List Vertex) → AllByRecursion (λ u. u.piece < length groups) us → HasNoTop us →
    AtMost (counts groups (es ++ pieces_with leaves us)) (plus (counts groups []) (counts groups (es ++ pieces_with enters us))) → HasNoUpright us
none-ends groups es us s t h =
    (none-ends_behind groups [] us tt s t
    (less-pieces groups es (pieces_with leaves us) (pieces_with enters us)
    (subst (AtMost (counts groups (es ++ pieces_with leaves us))) (none-enters groups (es ++ pieces_with enters us)) h))).upright

-- ---- level by level: a window of a column whose levels are balanced
each-join : (P : Vertex → Type 0) (us vs : List Vertex) → AllByRecursion P us → AllByRecursion P vs → AllByRecursion P (us ++ vs)
each-join P [] vs h k = k
each-join P (u ∷ us) vs h k = (h.0, each-join P us vs h.1 k)

pub none-upright : (groups : List ℕ) (e o : ℕ) (es : List Active) (us : List Vertex) (os : List Active) (ls : List Level) (ts : List Stop) → TakeAll e (length us) o ls →
    AllByRecursion (λ u. u.piece < length groups) us → HasNoTop us → Balanced groups (counts groups []) (stops es us os ls ++ ts) → HasNoUpright us
none-upright groups e o es [] os [] ts t s n b = tt
none-upright groups e o es (u ∷ us) os [] ts t s n b = absurd (omega (arith, t.1.0))
none-upright groups e o es us os (l ∷ ls) ts t s n b =
    let here = none-ends groups (pieces_of (take l.edges es)) (take l.vertices us) (each-take (λ u. u.piece < length groups) l.vertices us s)
    (each-take (λ u. enters u.role ≡ true → leaves u.role ≡ true) l.vertices us n) b.0 in
    let same : (stop_of l es us os).enter ≡ (stop_of l es us os).leave = ap (λ ns. pieces_of (take l.edges es) ++ ns) (enters-leave (take l.vertices us) here) in
    let gap : on_gap groups (counts groups []) (stop_of l es us os) ≡ counts groups [] =
    ap (λ ns. minus (plus (counts groups []) (counts groups ns)) (counts groups (stop_of l es us os).leave)) same ∙ added_taken groups (counts groups []) (stop_of l es us os).leave in
    let rest =
    none-upright groups (e - l.edges) (o - l.onward) (drop l.edges es) (drop l.vertices us) (drop l.onward os) ls ts
    (subst (λ z. TakeAll (e - l.edges) z (o - l.onward) ls) (sym (length-drop l.vertices us)) t.1.1.1)
    (each-drop (λ u. u.piece < length groups) l.vertices us s) (each-drop (λ u. enters u.role ≡ true → leaves u.role ≡ true) l.vertices us n)
    (subst (λ on. Balanced groups on (stops (drop l.edges es) (drop l.vertices us) (drop l.onward os) ls ++ ts)) gap b.1) in
    subst HasNoUpright (take-append-drop l.vertices us) (each-join (λ u. enters u.role ≡ leaves u.role) (take l.vertices us) (drop l.vertices us) here rest)
