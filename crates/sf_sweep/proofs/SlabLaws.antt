-- What is handed out for the slab right of a column: its levels are the bundles of its edges.
use Rattle.std.proofs.Common.{◌≡◌, refl, ap, sym, ◌∙◌, subst, ℕ, zero, suc, ◌+◌, ◌-◌, ◌≤◌, arith, Bool, true, false, cond, List, [], ◌∷◌, ◌++◌, None, length, take, drop, map}
use Rattle.std.specs.List.{AllByRecursion, prefix_len}
use Rattle.std.proofs.lemmas.List.{append-nil, length-drop}
use Rattle.std.proofs.lemmas.List.Sums.{prefix_len-le-length}
use Rattle.sf_strips.specs.declared.active.Active.{Active}
use Rattle.sf_strips.specs.declared.contact.Contact.{Contact}
use Rattle.sf_strips.specs.declared.level.Level.{Level}
use Rattle.sf_strips.specs.declared.vertex.Vertex.{Vertex}
use Rattle.sf_strips.specs.Fronts.{pieces_of, touches}
use Rattle.sf_strips.specs.Levels.{AreTops}
use Rattle.sf_strips.specs.Vertices.{enters, leaves, pieces_with}
use Rattle.sf_cells.specs.Groups.{counts}
use Rattle.sf_cells.specs.Hands.{Stop, item, minus, plus, stop_items, stops}
use Rattle.sf_cells.proofs.TallyLaws.{added_taken}
use Rattle.sf_sweep.specs.Tables.{bundles_of, with_first}
use Rattle.sf_sweep.specs.Windows.{bundle_items, bundle_stop}
use Rattle.sf_sweep.proofs.WindowLaws.{none-enters}

-- ---- the first edges that are level everywhere are the first bundle
pub run-first : (cs : List Contact) (a : Active) (es : List Active) (n : ℕ) → n ≡ prefix_len (touches None) cs → n ≤ length es →
    bundles_of cs (a ∷ es) ≡ pieces_of (take (suc n) (a ∷ es)) ∷ bundles_of (drop (suc n) cs) (drop (suc n) (a ∷ es))
run-first [] a es zero e l = refl
run-first [] a es (suc n) e l = absurd (omega (arith, e))
run-first (c ∷ cs) a [] zero e l = alone (touches None c)
  where
    alone : (t : Bool) → cond t (with_first a.piece []) ((a.piece ∷ []) ∷ []) ≡ (a.piece ∷ []) ∷ []
    alone true = refl
    alone false = refl
run-first (c ∷ cs) a [] (suc n) e l = absurd (omega (arith, l))
run-first (c ∷ cs) a (b ∷ es) n e l = by_test (touches None c) n e l (run-first cs b es)
  where
    by_test : (t : Bool) (n : ℕ) → n ≡ cond t (1 + prefix_len (touches None) cs) 0 → n ≤ length (b ∷ es) →
        ((m : ℕ) → m ≡ prefix_len (touches None) cs → m ≤ length es →
        bundles_of cs (b ∷ es) ≡ pieces_of (take (suc m) (b ∷ es)) ∷ bundles_of (drop (suc m) cs) (drop (suc m) (b ∷ es))) →
        cond t (with_first a.piece (bundles_of cs (b ∷ es))) ((a.piece ∷ []) ∷ bundles_of cs (b ∷ es))
        ≡ pieces_of (take (suc n) (a ∷ b ∷ es)) ∷ bundles_of (drop (suc n) (c ∷ cs)) (drop (suc n) (a ∷ b ∷ es))
    by_test true zero e l further = absurd (omega (arith, e))
    by_test true (suc m) e l further = ap (with_first a.piece) (further m (omega (arith, e)) (omega (arith, l)))
    by_test false zero e l further = refl
    by_test false (suc m) e l further = absurd (omega (arith, e))

-- ---- the levels of a slab are the stops of its bundles
none-dropped : {A : Type 0} (n : ℕ) → drop {A = A} n [] ≡ []
none-dropped zero = refl
none-dropped (suc n) = refl

none-taken : {A : Type 0} (n : ℕ) → take {A = A} n [] ≡ []
none-taken zero = refl
none-taken (suc n) = refl

-- the stop of a level of edges alone
edges-stop : (m v o : ℕ) (es : List Active) → o ≡ m →
    ◌≡◌ {A = Stop}
    (record { enter = pieces_of (take m es) ++ pieces_with enters (take v []); leave = pieces_of (take m es) ++ pieces_with leaves (take v []); onward = pieces_of (take o es) })
    (bundle_stop (pieces_of (take m es)))
edges-stop m v o es h = rw (h, none-taken {A = Vertex} v, append-nil (pieces_of (take m es))) refl

pub slab-stops : (cs : List Contact) (es : List Active) (ls : List Level) → length cs ≤ length es - 1 → AreTops None es cs [] ls → AllByRecursion (λ l. l.onward ≡ l.edges) ls →
    stops es [] es ls ≡ map bundle_stop (bundles_of cs es)
slab-stops cs es [] few t o = sym (ap (λ z. map bundle_stop (bundles_of cs z)) t.0)
slab-stops cs [] (l ∷ ls) few t o = absurd (omega (arith, t.0.some, t.0.edges, t.0.vertices))
slab-stops cs (a ∷ es) (l ∷ ls) few t o =
    let n : ℕ = prefix_len (touches None) cs in
    let within : n ≤ length cs = prefix_len-le-length (touches None) cs in
    let one : l.edges ≡ suc n = t.0.edges ∙ more n in
    let fewer : length (drop l.edges cs) ≤ length (drop l.edges (a ∷ es)) - 1 =
    omega (arith, few, length-drop l.edges cs, length-drop l.edges (a ∷ es)) in
    let rest = slab-stops (drop l.edges cs) (drop l.edges (a ∷ es)) ls fewer
    (subst (λ vs. AreTops None (drop l.edges (a ∷ es)) (drop l.edges cs) vs ls) (none-dropped l.vertices) t.1) o.1 in
    ap (λ s. s ∷ stops (drop l.edges (a ∷ es)) (drop l.vertices []) (drop l.onward (a ∷ es)) ls) (edges-stop l.edges l.vertices l.onward (a ∷ es) o.0)
    ∙ ap (λ vs. bundle_stop (pieces_of (take l.edges (a ∷ es))) ∷ stops (drop l.edges (a ∷ es)) vs (drop l.onward (a ∷ es)) ls) (none-dropped l.vertices)
    ∙ ap (λ m. bundle_stop (pieces_of (take l.edges (a ∷ es))) ∷ stops (drop l.edges (a ∷ es)) [] (drop m (a ∷ es)) ls) o.0
    ∙ ap (λ ss. bundle_stop (pieces_of (take l.edges (a ∷ es))) ∷ ss) rest
    ∙ ap (λ m. bundle_stop (pieces_of (take m (a ∷ es))) ∷ map bundle_stop (bundles_of (drop m cs) (drop m (a ∷ es)))) one
    ∙ sym (ap (map bundle_stop) (run-first cs a es n refl (omega (arith, few, within))))
  where
    more : (n : ℕ) → 1 + n ≡ suc n
    more n = omega arith

-- ---- what is handed out for them
same-slab : (groups above : List ℕ) (bs : List (List ℕ)) →
    stop_items groups false (counts groups []) above (map bundle_stop bs) ≡ item 2 (counts groups []) above ∷ bundle_items groups above bs
same-slab groups above [] = refl
same-slab groups above (b ∷ bs) =
    let on : plus (counts groups []) (counts groups b) ≡ counts groups b = none-enters groups b in
    let off : minus (plus (counts groups []) (counts groups b)) (counts groups b) ≡ counts groups [] = added_taken groups (counts groups []) b in
    ap (λ ns. item 2 (counts groups []) above ∷ item 1 ns above ∷ stop_items groups false (minus (plus (counts groups []) (counts groups b)) (counts groups b)) (plus above (counts groups b)) (map bundle_stop bs)) on
    ∙ ap (λ ns. item 2 (counts groups []) above ∷ item 1 (counts groups b) above ∷ stop_items groups false ns (plus above (counts groups b)) (map bundle_stop bs)) off
    ∙ ap (λ is. item 2 (counts groups []) above ∷ item 1 (counts groups b) above ∷ is) (same-slab groups (plus above (counts groups b)) bs)

pub slab-items : (groups above : List ℕ) (cs : List Contact) (es : List Active) (ls : List Level) → length cs ≤ length es - 1 → AreTops None es cs [] ls →
    AllByRecursion (λ l. l.onward ≡ l.edges) ls →
    stop_items groups false (counts groups []) above (stops es [] es ls) ≡ item 2 (counts groups []) above ∷ bundle_items groups above (bundles_of cs es)
slab-items groups above cs es ls few t o =
    ap (stop_items groups false (counts groups []) above) (slab-stops cs es ls few t o) ∙ same-slab groups above (bundles_of cs es)
