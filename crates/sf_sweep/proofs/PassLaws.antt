-- Edges that pass a column: those of one line together are a level, which is cut off from the top.
use Rattle.std.proofs.Common.{◌≡◌, ◌≢◌, refl, ap, sym, ◌∙◌, subst, ℕ, zero, suc, ◌+◌, ◌-◌, ◌≤◌, ◌<◌, arith, Bool, true, false, cond, List, [], ◌∷◌, ◌++◌, Option, None, length, take, drop, map}
use Rattle.std.specs.List.{AllByRecursion, prefix_len}
use Rattle.std.specs.List.Sorted.{IsPermutation}
use Rattle.std.proofs.lemmas.List.{append-nil, drop-append-le, length-append, length-drop, take-append-le}
use Rattle.std.proofs.lemmas.List.Sorted.{IsPermutation-refl}
use Rattle.std.specs.declared.cmp.Ordering.TheVariants.{Greater}
use Rattle.std.proofs.lemmas.Bool.{false≢true}
use Rattle.sf_grid.specs.Fraction.{Fraction}
use Rattle.sf_grid.specs.Plane.{grid_point}
use Rattle.sf_strips.specs.declared.active.Active.{Active}
use Rattle.sf_strips.specs.declared.contact.Contact.{Contact}
use Rattle.sf_strips.specs.declared.level.Level.{Level}
use Rattle.sf_strips.specs.declared.vertex.Vertex.{Vertex}
use Rattle.sf_strips.specs.Fronts.{touches}
use Rattle.sf_strips.specs.Levels.{AreOnward, AreTops, IsOnward, IsTop, SlopesFall, TakeAll, going_past, level, run_length, top_level}
use Rattle.sf_strips.proofs.CutLaws.{CutOff}
use Rattle.sf_strips.specs.Parts.{alone_level, is_over, touches_first}
use Rattle.sf_strips.specs.Slanted.{side_of, slope_order}
use Rattle.sf_cells.specs.Hands.{Stop, stops}
use Rattle.sf_sweep.specs.Passing.{ArePassing, IsLastApart, contact_at, first_level, passing_levels}
use Rattle.sf_sweep.specs.Tables.{bundles_of, contacts_of, with_first}
use Rattle.sf_sweep.specs.Windows.{bundle_stop}
use Rattle.sf_sweep.proofs.JoinLaws.{by_side, contacts-drop, none_more, run-same}
pub use Rattle.sf_sweep.specs.Within.{AreOneSloped}

-- an edge above the next vertex is on a level without it
pub over-top : (column : Option Fraction) (a : Active) (es : List Active) (cs : List Contact) (vs : List Vertex) → is_over vs a ≡ true →
    top_level column (a ∷ es) cs vs ≡ level (run_length column (a ∷ es) cs) 0
over-top column a es cs [] h = refl
over-top column a es cs (v ∷ vs) h = by_side (side_of a.edge.left a.edge.right (grid_point v.at)) _ _ h

-- a level of so many edges above the next vertex
top-of : (column : Option Fraction) (a : Active) (es : List Active) (cs : List Contact) (vs : List Vertex) (l : Level) → is_over vs a ≡ true → l.vertices ≡ 0 →
    l.edges ≡ 1 + prefix_len (touches column) cs → IsTop column (a ∷ es) cs vs l
top-of column a es cs vs l h v e =
    let top = over-top column a es cs vs h in
    record { some = omega (arith, e); edges = e ∙ sym (ap (λ z. z.edges) top); vertices = v ∙ sym (ap (λ z. z.vertices) top) }

-- an edge more on the first of some levels
grown : (column : Option Fraction) (t : Bool) (a b : Active) (es : List Active) (c : Contact) (cs : List Contact) (vs : List Vertex) (l : Level) (ls : List Level) →
    is_over vs a ≡ true → is_over vs b ≡ true → touches column c ≡ true → AreTops column (b ∷ es) cs vs (l ∷ ls) →
    AreTops column (a ∷ b ∷ es) (c ∷ cs) vs (record { edges = suc l.edges; vertices = l.vertices; onward = suc l.onward } ∷ ls)
grown column t a b es c cs vs l ls h k e tops =
    let top = over-top column b es cs vs k in
    let n : l.edges ≡ 1 + prefix_len (touches column) cs = tops.0.edges ∙ ap (λ z. z.edges) top in
    let m : l.vertices ≡ 0 = tops.0.vertices ∙ ap (λ z. z.vertices) top in
    (top-of column a (b ∷ es) (c ∷ cs) vs (record { edges = suc l.edges; vertices = l.vertices; onward = suc l.onward }) h m (one_more (touches column c) e n), tops.1)
  where
    one_more : (t : Bool) → t ≡ true → l.edges ≡ 1 + prefix_len (touches column) cs → suc l.edges ≡ 1 + cond t (1 + prefix_len (touches column) cs) 0
    one_more true e n = omega (arith, n)
    one_more false e n = absurd (false≢true e)

some-first : (column : Option Fraction) (table : List Contact) (b : Active) (es : List Active) → passing_levels table (b ∷ es) ≡ [] → ⊥
some-first column table b [] h = cc
some-first column table b (c ∷ es) h = neither (touches None (contact_at table b)) (passing_levels table (c ∷ es)) h
  where
    neither : (t : Bool) (ls : List Level) → first_level t ls ≡ [] → ⊥
    neither true [] h = cc
    neither true (l ∷ ls) h = cc
    neither false ls h = cc

-- the levels of edges that pass, with whatever levels are below them
pub passing-tops : (column : Option Fraction) (table : List Contact) (es fs : List Active) (vs : List Vertex) (ms : List Level) → IsLastApart column table es →
    ArePassing column table es → AllByRecursion (λ a. is_over vs a ≡ true) es → AreTops column fs (contacts_of table fs) vs ms →
    AreTops column (es ++ fs) (contacts_of table (es ++ fs)) vs (passing_levels table es ++ ms)
passing-tops column table [] fs vs ms last p over k = k
passing-tops column table (a ∷ []) fs vs ms last p over k = (
  top-of column a fs (contacts_of table (a ∷ fs)) vs alone_level over.0 refl (sym (ap (λ n. 1 + n) (run-same column table a [] fs last))),
  subst (λ ds. AreTops column fs ds vs ms) (sym (contacts-drop table 1 (a ∷ fs))) k,
)
passing-tops column table (a ∷ b ∷ es) fs vs ms last p over k =
    let rest = passing-tops column table (b ∷ es) fs vs ms last p.1 over.1 k in
    by_test (touches None (contact_at table a)) (passing_levels table (b ∷ es)) (some-first column table b es) p.0 rest
  where
    by_test : (t : Bool) (ls : List Level) → ((ls ≡ []) → ⊥) → touches column (contact_at table a) ≡ t →
        AreTops column (b ∷ es ++ fs) (contacts_of table (b ∷ es ++ fs)) vs (ls ++ ms) →
        AreTops column (a ∷ b ∷ es ++ fs) (contact_at table a ∷ contacts_of table (b ∷ es ++ fs)) vs (first_level t ls ++ ms)
    by_test true [] some e tops = absurd (some refl)
    by_test true (l ∷ ls) some e tops = grown column true a b (es ++ fs) (contact_at table a) (contacts_of table (b ∷ es ++ fs)) vs l (ls ++ ms) over.0 over.1.0 e tops
    by_test false ls some e tops = (
      top-of column a (b ∷ es ++ fs) (contact_at table a ∷ contacts_of table (b ∷ es ++ fs)) vs alone_level over.0 refl (alone (touches column (contact_at table a)) e),
      tops,
    )
      where
        alone : (t : Bool) → t ≡ false → 1 ≡ 1 + cond t (1 + prefix_len (touches column) (contacts_of table (b ∷ es ++ fs))) 0
        alone true e = absurd (false≢true (sym e))
        alone false e = refl

-- ---- their stops are those of bundles
-- a first piece, on the stop of the next ones or on its own
abbrev first_stop : Bool → ℕ → List Stop → List Stop
first_stop true n [] = bundle_stop (n ∷ []) ∷ []
first_stop true n (s ∷ ss) = record { enter = n ∷ s.enter; leave = n ∷ s.leave; onward = n ∷ s.onward } ∷ ss
first_stop false n ss = bundle_stop (n ∷ []) ∷ ss

stops-first : (t : Bool) (a b : Active) (es : List Active) (vs : List Vertex) (os : List Active) (ls ms : List Level) → ((ls ≡ []) → ⊥) →
    stops (a ∷ b ∷ es) vs (a ∷ b ∷ os) (first_level t ls ++ ms) ≡ first_stop t a.piece (stops (b ∷ es) vs (b ∷ os) (ls ++ ms))
stops-first true a b es vs os [] ms some = absurd (some refl)
stops-first true a b es vs os (l ∷ ls) ms some = refl
stops-first false a b es vs os ls ms some = refl

bundles-first : (t : Bool) (n : ℕ) (bs : List (List ℕ)) → map bundle_stop (cond t (with_first n bs) ((n ∷ []) ∷ bs)) ≡ first_stop t n (map bundle_stop bs)
bundles-first true n [] = refl
bundles-first true n (b ∷ bs) = refl
bundles-first false n bs = refl

stops-behind : (t : Bool) (n : ℕ) (s : Stop) (ss ts : List Stop) → first_stop t n (s ∷ ss ++ ts) ≡ first_stop t n (s ∷ ss) ++ ts
stops-behind true n s ss ts = refl
stops-behind false n s ss ts = refl

pub some-bundles : (cs : List Contact) (b : Active) (es : List Active) → bundles_of cs (b ∷ es) ≡ [] → ⊥
some-bundles cs b es h = neither (touches_first None cs) (bundles_of (drop 1 cs) es) h
  where
    neither : (t : Bool) (bs : List (List ℕ)) → cond t (with_first b.piece bs) ((b.piece ∷ []) ∷ bs) ≡ [] → ⊥
    neither true [] h = cc
    neither true (c ∷ bs) h = cc
    neither false bs h = cc

pub passing-stops : (column : Option Fraction) (table : List Contact) (es fs : List Active) (vs : List Vertex) (ps : List Active) (ms : List Level) →
    stops (es ++ fs) vs (es ++ ps) (passing_levels table es ++ ms) ≡ map bundle_stop (bundles_of (contacts_of table es) es) ++ stops fs vs ps ms
passing-stops column table [] fs vs ps ms = refl
passing-stops column table (a ∷ []) fs vs ps ms = refl
passing-stops column table (a ∷ b ∷ es) fs vs ps ms =
    let t : Bool = touches None (contact_at table a) in
    stops-first t a b (es ++ fs) vs (es ++ ps) (passing_levels table (b ∷ es)) ms (some-first column table b es)
    ∙ ap (first_stop t a.piece) (passing-stops column table (b ∷ es) fs vs ps ms)
    ∙ behind (bundles_of (contacts_of table (b ∷ es)) (b ∷ es)) (some-bundles (contacts_of table (b ∷ es)) b es)
  where
    behind : (bs : List (List ℕ)) → ((bs ≡ []) → ⊥) → first_stop (touches None (contact_at table a)) a.piece (map bundle_stop bs ++ stops fs vs ps ms) ≡
        map bundle_stop (cond (touches None (contact_at table a)) (with_first a.piece bs) ((a.piece ∷ []) ∷ bs)) ++ stops fs vs ps ms
    behind [] some = absurd (some refl)
    behind (c ∷ bs) some =
        stops-behind (touches None (contact_at table a)) a.piece (bundle_stop c) (map bundle_stop bs) (stops fs vs ps ms)
        ∙ ap (λ ss. ss ++ stops fs vs ps ms) (sym (bundles-first (touches None (contact_at table a)) a.piece (c ∷ bs)))

-- ---- all of them go on
-- levels of edges alone, whose slopes fall
abbrev pub AreFalling : List Active → List Level → Type 0
AreFalling es [] = es ≡ []
AreFalling es (l ∷ ls) =
    (0 < l.edges) × (l.edges ≤ length es) × (l.vertices ≡ 0) × (l.onward ≡ l.edges) × SlopesFall (take l.edges es) × AreFalling (drop l.edges es) ls

pub passing-falls : (column : Option Fraction) (table : List Contact) (es : List Active) → AreOneSloped table es → AreFalling es (passing_levels table es)
passing-falls column table [] h = refl
passing-falls column table (a ∷ []) h = (omega arith, omega arith, refl, refl, tt, refl)
passing-falls column table (a ∷ b ∷ es) h =
    by_test (touches None (contact_at table a)) (passing_levels table (b ∷ es)) (some-first column table b es) h.0 (passing-falls column table (b ∷ es) h.1)
  where
    steeper : (n : ℕ) → 0 < n → slope_order b.edge.left b.edge.right a.edge.left a.edge.right ≢ Greater → SlopesFall (take n (b ∷ es)) → SlopesFall (take (suc n) (a ∷ b ∷ es))
    steeper zero some s h = absurd (omega (arith, some))
    steeper (suc n) some s h = (s, h)

    by_test : (t : Bool) (ls : List Level) → ((ls ≡ []) → ⊥) → (t ≡ true → slope_order b.edge.left b.edge.right a.edge.left a.edge.right ≢ Greater) → AreFalling (b ∷ es) ls →
        AreFalling (a ∷ b ∷ es) (first_level t ls)
    by_test true [] some s f = absurd (some refl)
    by_test true (l ∷ ls) some s f = (omega arith, omega (arith, f.1), f.2, ap suc f.3, steeper l.edges f.0 (s refl) f.4, f.5)
    by_test false ls some s f = (omega arith, omega arith, refl, refl, tt, f)

all-past : (es : List Active) → going_past [] es ≡ es
all-past [] = refl
all-past (a ∷ es) = ap (λ os. a ∷ os) (all-past es)

all-onward : (es : List Active) → SlopesFall es → IsOnward es [] es
all-onward es h =
    record {
      starts = [];
      are_starts = refl;
      same = subst (λ os. IsPermutation os es) (sym (append-nil (going_past [] es) ∙ all-past es)) (IsPermutation-refl es);
      fall = h;
    }

pub falling-onward : (es fs : List Active) (vs : List Vertex) (ps : List Active) (ls ms : List Level) → AreFalling es ls → AreOnward fs vs ps ms → AreOnward (es ++ fs) vs (es ++ ps) (ls ++ ms)
falling-onward es fs vs ps [] ms f k = rw f k
falling-onward es fs vs ps (l ∷ ls) ms f k =
    let within = f.1 in
    rw (f.2, f.3, take-append-le l.edges es fs within, take-append-le l.edges es ps within, drop-append-le l.edges es fs within, drop-append-le l.edges es ps within)
    (all-onward (take l.edges es) f.4, falling-onward (drop l.edges es) fs vs ps ls ms f.5 k)

pub falling-all : (es : List Active) (e v o : ℕ) (ls ms : List Level) → AreFalling es ls → TakeAll e v o ms → TakeAll (length es + e) v (length es + o) (ls ++ ms)
falling-all es e v o [] ms f k =
    subst (λ z. TakeAll z v (length es + o) ms) (none_more (length es) e (ap length f)) (subst (λ z. TakeAll e v z ms) (none_more (length es) o (ap length f)) k)
falling-all es e v o (l ∷ ls) ms f k =
    rw (f.2, f.3) (
      omega (arith, f.1),
      (
        omega arith,
        (
          omega (arith, f.1),
          rw (less (length es) e l.edges f.1, less (length es) o l.edges f.1, sym (length-drop l.edges es), none_less v) (falling-all (drop l.edges es) e v o ls ms f.5 k),
        ),
      ),
    )
  where
    less : (a b c : ℕ) → c ≤ a → (a + b) - c ≡ (a - c) + b
    less a b c h = omega arith

    none_less : (v : ℕ) → v - 0 ≡ v
    none_less v = omega arith

-- ---- they are cut off
pub passing-cut : (column : Option Fraction) (table : List Contact) (es fs : List Active) (vs : List Vertex) → IsLastApart column table es → ArePassing column table es →
    AreOneSloped table es → AllByRecursion (λ a. is_over vs a ≡ true) es →
    CutOff column (es ++ fs) fs (contacts_of table (es ++ fs)) (contacts_of table fs) vs vs es (passing_levels table es)
passing-cut column table es fs vs last p s over =
    let falls = passing-falls column table es s in
    record {
      tops = λ ms k. passing-tops column table es fs vs ms last p over k;
      onward = λ ps ms k. falling-onward es fs vs ps (passing_levels table es) ms falls k;
      all = λ n ms k.
          subst (λ z. TakeAll z (length vs) (length es + n) (passing_levels table es ++ ms)) (sym (length-append es fs))
          (falling-all es (length fs) (length vs) n (passing_levels table es) ms falls k);
    }

-- ---- bundles by a search over edges
prefix-map : {A B : Type 0} (p : B → Bool) (f : A → B) (xs : List A) → prefix_len p (map f xs) ≡ prefix_len (λ x. p (f x)) xs
prefix-map p f [] = refl
prefix-map p f (x ∷ xs) = ap (λ n. cond (p (f x)) (1 + n) 0) (prefix-map p f xs)

pub contacts-map : (table : List Contact) (es : List Active) (a : Active) → contacts_of table (es ++ a ∷ []) ≡ map (contact_at table) es
contacts-map table [] a = refl
contacts-map table (b ∷ []) a = refl
contacts-map table (b ∷ c ∷ es) a = ap (λ cs. contact_at table b ∷ cs) (contacts-map table (c ∷ es) a)

pub run-by_edges : (table : List Contact) (es uppers : List Active) (last : Active) (n : ℕ) → es ≡ uppers ++ last ∷ [] → n ≡ prefix_len (λ a. touches None (contact_at table a)) uppers →
    1 + n ≡ run_length None es (contacts_of table es)
run-by_edges table es uppers last n e h =
    subst (λ zs. 1 + n ≡ run_length None zs (contacts_of table zs)) (sym e)
    (ap (λ m. 1 + m) (h ∙ sym (prefix-map (touches None) (contact_at table) uppers) ∙ ap (prefix_len (touches None)) (sym (contacts-map table uppers last))) ∙ by_list uppers)
  where
    by_list : (us : List Active) → 1 + prefix_len (touches None) (contacts_of table (us ++ last ∷ [])) ≡ run_length None (us ++ last ∷ []) (contacts_of table (us ++ last ∷ []))
    by_list [] = refl
    by_list (u ∷ us) = refl
