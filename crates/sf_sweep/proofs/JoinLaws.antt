-- The levels of a part of a column are those of all of it, cut off from the top: of edges that pass, and of a window.
use Rattle.std.proofs.Common.{◌≡◌, refl, ap, sym, ◌∙◌, subst, ℕ, zero, suc, ◌+◌, ◌-◌, ◌≤◌, ◌<◌, arith, Bool, true, false, cond, List, [], ◌∷◌, ◌++◌, Option, length, drop}
use Rattle.std.specs.List.{AllByRecursion, prefix_len}
use Rattle.std.specs.Ordering.{int_eq, is_lt}
use Rattle.std.specs.declared.cmp.Ordering.{Ordering}
use Rattle.std.specs.declared.cmp.Ordering.TheVariants.{Equal, Greater, Less}
use Rattle.std.proofs.lemmas.Bool.{false≢true}
use Rattle.std.proofs.lemmas.List.{drop-append-le, length-append, length-drop, take-append-le}
use Rattle.sf_grid.specs.Fraction.{Fraction}
use Rattle.sf_grid.specs.Plane.{grid_point}
use Rattle.sf_strips.specs.declared.active.Active.{Active}
use Rattle.sf_strips.specs.declared.contact.Contact.{Contact}
use Rattle.sf_strips.specs.declared.level.Level.{Level}
use Rattle.sf_strips.specs.declared.vertex.Vertex.{Vertex}
use Rattle.sf_strips.specs.Fronts.{touches}
use Rattle.sf_strips.specs.Levels.{AreOnward, AreTops, IsTop, TakeAll, group_length, level, level_by, run_length, top_level}
use Rattle.sf_strips.specs.Parts.{is_over}
use Rattle.sf_strips.specs.Slanted.{side_of}
use Rattle.sf_strips.proofs.CutLaws.{CutOff, IsWhole}
use Rattle.sf_sweep.specs.Passing.{IsLastApart, contact_at}
use Rattle.sf_sweep.specs.Tables.{contacts_of}
pub use Rattle.sf_sweep.specs.Within.{IsApartFrom}

-- ---- contacts by a table
none-dropped : {A : Type 0} (n : ℕ) → drop {A = A} n [] ≡ []
none-dropped zero = refl
none-dropped (suc n) = refl

pub contacts-drop : (table : List Contact) (n : ℕ) (es : List Active) → drop n (contacts_of table es) ≡ contacts_of table (drop n es)
contacts-drop table zero es = refl
contacts-drop table (suc n) [] = refl
contacts-drop table (suc n) (a ∷ []) = ap (contacts_of table) (sym (none-dropped n))
contacts-drop table (suc n) (a ∷ b ∷ es) = contacts-drop table n (b ∷ es)

pub contacts-fewer : (table : List Contact) (es : List Active) → length (contacts_of table es) ≤ length es - 1
contacts-fewer table [] = omega arith
contacts-fewer table (a ∷ []) = omega arith
contacts-fewer table (a ∷ b ∷ es) = let h = contacts-fewer table (b ∷ es) in omega arith

-- ---- a run of the upper edges ends with them, where the last one isn't level with what is below it
pub run-same : (column : Option Fraction) (table : List Contact) (a : Active) (es fs : List Active) → IsLastApart column table (a ∷ es) →
    prefix_len (touches column) (contacts_of table (a ∷ es ++ fs)) ≡ prefix_len (touches column) (contacts_of table (a ∷ es))
run-same column table a [] [] h = refl
run-same column table a [] (f ∷ fs) h = by_test (touches column (contact_at table a)) h
  where
    by_test : (t : Bool) → t ≡ false → cond t (1 + prefix_len (touches column) (contacts_of table (f ∷ fs))) 0 ≡ 0
    by_test true e = absurd (false≢true (sym e))
    by_test false e = refl
run-same column table a (b ∷ es) fs h = ap (λ n. cond (touches column (contact_at table a)) (1 + n) 0) (run-same column table b es fs h)

-- ---- vertices of a window, and those below it
prefix-stops : {A : Type 0} (p : A → Bool) (xs : List A) (y : A) (ys : List A) → p y ≡ false → prefix_len p (xs ++ y ∷ ys) ≡ prefix_len p xs
prefix-stops p [] y ys h = rw h refl
prefix-stops p (x ∷ xs) y ys h = ap (λ n. cond (p x) (1 + n) 0) (prefix-stops p xs y ys h)

append-none : {A : Type 0} (xs : List A) → xs ++ [] ≡ xs
append-none [] = refl
append-none (x ∷ xs) = ap (λ ys. x ∷ ys) (append-none xs)

pub group-same : (u : Vertex) (us vs : List Vertex) → IsApartFrom vs (u ∷ us) → group_length (u ∷ us ++ vs) ≡ group_length (u ∷ us)
group-same u us [] h = ap (λ vs. group_length (u ∷ vs)) (append-none us)
group-same u us (v ∷ vs) h = ap (λ n. 1 + n) (prefix-stops (λ w. int_eq w.at.y u.at.y) us v vs h.0)

-- ---- a window: edges es and vertices us, with edges fs and vertices vs below it
-- the first edge below it is below its vertices
abbrev pub AreAbove : List Active → List Vertex → Type 0
AreAbove [] us = Unit {0}
AreAbove (f ∷ fs) us = AllByRecursion (λ u. side_of f.edge.left f.edge.right (grid_point u.at) ≡ Greater) us

pub record IsWindow (column : Option Fraction) (table : List Contact) (es fs : List Active) (us vs : List Vertex) : Type 0 where
  pub last : IsLastApart column table es
  pub over : AllByRecursion (λ a. is_over vs a ≡ true) es
  pub below : AreAbove fs us
  pub apart : IsApartFrom vs us

pub by_side : (o : Ordering) (run group : ℕ) → is_lt o ≡ true → level_by o run group ≡ level run 0
by_side Less run group h = refl
by_side Equal run group h = absurd (false≢true h)
by_side Greater run group h = absurd (false≢true h)

-- the highest level of the window is the highest one of all
top-same : (column : Option Fraction) (table : List Contact) (es fs : List Active) (us vs : List Vertex) → IsWindow column table es fs us vs → 0 < length es + length us →
    top_level column (es ++ fs) (contacts_of table (es ++ fs)) (us ++ vs) ≡ top_level column es (contacts_of table es) us
top-same column table [] fs [] vs w h = absurd (omega arith)
top-same column table [] [] (u ∷ us) vs w h = ap (level 0) (group-same u us vs w.apart)
top-same column table [] (f ∷ fs) (u ∷ us) vs w h = rw (w.below.0) (ap (level 0) (group-same u us vs w.apart))
top-same column table (a ∷ es) fs [] [] w h = ap (λ n. level (1 + n) 0) (run-same column table a es fs w.last)
top-same column table (a ∷ es) fs [] (v ∷ vs) w h =
    by_side (side_of a.edge.left a.edge.right (grid_point v.at)) _ _ w.over.0 ∙ ap (λ n. level (1 + n) 0) (run-same column table a es fs w.last)
top-same column table (a ∷ es) fs (u ∷ us) vs w h =
    ap (λ n. level_by (side_of a.edge.left a.edge.right (grid_point u.at)) (1 + n) (group_length (u ∷ us ++ vs))) (run-same column table a es fs w.last)
    ∙ ap (λ n. level_by (side_of a.edge.left a.edge.right (grid_point u.at)) (run_length column (a ∷ es) (contacts_of table (a ∷ es))) n) (group-same u us vs w.apart)

-- a window with a level less
last-drop : (column : Option Fraction) (table : List Contact) (n : ℕ) (es : List Active) → IsLastApart column table es → IsLastApart column table (drop n es)
last-drop column table zero es h = h
last-drop column table (suc n) [] h = tt
last-drop column table (suc n) (a ∷ []) h = subst (IsLastApart column table) (sym (none-dropped n)) tt
last-drop column table (suc n) (a ∷ b ∷ es) h = last-drop column table n (b ∷ es) h

each-drop : {A : Type 0} (P : A → Type 0) (n : ℕ) (xs : List A) → AllByRecursion P xs → AllByRecursion P (drop n xs)
each-drop P zero xs h = h
each-drop P (suc n) [] h = tt
each-drop P (suc n) (x ∷ xs) h = each-drop P n xs h.1

window-drop : (column : Option Fraction) (table : List Contact) (n m : ℕ) (es fs : List Active) (us vs : List Vertex) → IsWindow column table es fs us vs →
    IsWindow column table (drop n es) fs (drop m us) vs
window-drop column table n m es fs us vs w =
    record {
      last = last-drop column table n es w.last;
      over = each-drop (λ a. is_over vs a ≡ true) n es w.over;
      below = less fs w.below;
      apart = further vs w.apart;
    }
  where
    less : (fs : List Active) → AreAbove fs us → AreAbove fs (drop m us)
    less [] h = tt
    less (f ∷ fs) h = each-drop (λ u. side_of f.edge.left f.edge.right (grid_point u.at) ≡ Greater) m us h

    further : (vs : List Vertex) → IsApartFrom vs us → IsApartFrom vs (drop m us)
    further [] h = tt
    further (v ∷ vs) h = each-drop (λ u. int_eq v.at.y u.at.y ≡ false) m us h

-- ---- the levels of a window, with whatever levels are below it
some-left : (a b c d : ℕ) → 0 < a + b → a ≤ c → b ≤ d → 0 < c + d
some-left a b c d h k l = omega arith

pub window-tops : (column : Option Fraction) (table : List Contact) (es fs : List Active) (us vs : List Vertex) (n : ℕ) (ls ms : List Level) → IsWindow column table es fs us vs →
    TakeAll (length es) (length us) n ls → AreTops column es (contacts_of table es) us ls → AreTops column fs (contacts_of table fs) vs ms →
    AreTops column (es ++ fs) (contacts_of table (es ++ fs)) (us ++ vs) (ls ++ ms)
window-tops column table es fs us vs n [] ms w t h k =
    subst (λ gs. AreTops column gs (contacts_of table gs) (us ++ vs) ms) (sym (ap (λ gs. gs ++ fs) h.0))
    (subst (λ ws. AreTops column fs (contacts_of table fs) ws ms) (sym (ap (λ ws. ws ++ vs) h.1)) k)
window-tops column table es fs us vs n (l ∷ ls) ms w t h k =
    let same = top-same column table es fs us vs w (some-left l.edges l.vertices (length es) (length us) h.0.some t.0 t.1.0) in
    let top : IsTop column (es ++ fs) (contacts_of table (es ++ fs)) (us ++ vs) l =
    record { some = h.0.some; edges = h.0.edges ∙ sym (ap (λ z. z.edges) same); vertices = h.0.vertices ∙ sym (ap (λ z. z.vertices) same) } in
    let fewer : TakeAll (length (drop l.edges es)) (length (drop l.vertices us)) (n - l.onward) ls =
    subst (λ z. TakeAll z (length (drop l.vertices us)) (n - l.onward) ls) (sym (length-drop l.edges es))
    (subst (λ z. TakeAll (length es - l.edges) z (n - l.onward) ls) (sym (length-drop l.vertices us)) t.1.1.1) in
    let rest =
    window-tops column table (drop l.edges es) fs (drop l.vertices us) vs (n - l.onward) ls ms (window-drop column table l.edges l.vertices es fs us vs w) fewer
    (subst (λ ds. AreTops column (drop l.edges es) ds (drop l.vertices us) ls) (contacts-drop table l.edges es) h.1) k in (
      top,
      subst (λ ds. AreTops column (drop l.edges (es ++ fs)) ds (drop l.vertices (us ++ vs)) (ls ++ ms)) (sym (contacts-drop table l.edges (es ++ fs)))
          (subst (λ gs. AreTops column gs (contacts_of table gs) (drop l.vertices (us ++ vs)) (ls ++ ms)) (sym (drop-append-le l.edges es fs t.0))
          (subst (λ ws. AreTops column (drop l.edges es ++ fs) (contacts_of table (drop l.edges es ++ fs)) ws (ls ++ ms)) (sym (drop-append-le l.vertices us vs t.1.0)) rest)),
    )

-- ---- what goes on
pub window-onward : (es fs : List Active) (us vs : List Vertex) (os ps : List Active) (ls ms : List Level) → TakeAll (length es) (length us) (length os) ls →
    AreOnward es us os ls → AreOnward fs vs ps ms → AreOnward (es ++ fs) (us ++ vs) (os ++ ps) (ls ++ ms)
window-onward [] fs [] vs os ps [] ms t h k = subst (λ z. AreOnward fs vs (z ++ ps) ms) (sym h) k
window-onward [] fs (u ∷ us) vs os ps [] ms t h k = absurd (omega (arith, t.1.0))
window-onward (e ∷ es) fs us vs os ps [] ms t h k = absurd (omega (arith, t.0))
window-onward es fs us vs os ps (l ∷ ls) ms t h k =
    let fewer : TakeAll (length (drop l.edges es)) (length (drop l.vertices us)) (length (drop l.onward os)) ls =
    subst (λ z. TakeAll z (length (drop l.vertices us)) (length (drop l.onward os)) ls) (sym (length-drop l.edges es))
    (subst (λ z. TakeAll (length es - l.edges) z (length (drop l.onward os)) ls) (sym (length-drop l.vertices us))
    (subst (λ z. TakeAll (length es - l.edges) (length us - l.vertices) z ls) (sym (length-drop l.onward os)) t.1.1.1)) in
    let rest = window-onward (drop l.edges es) fs (drop l.vertices us) vs (drop l.onward os) ps ls ms fewer h.1 k in
    rw (take-append-le l.edges es fs t.0, take-append-le l.vertices us vs t.1.0, take-append-le l.onward os ps t.1.1.0, drop-append-le l.edges es fs t.0, drop-append-le l.vertices us vs t.1.0, drop-append-le l.onward os ps t.1.1.0)
    (h.0, rest)

pub none_more : (a b : ℕ) → a ≡ 0 → b ≡ a + b
none_more a b h = omega (arith, h)

pub window-all : (e v o : ℕ) (f w p : ℕ) (ls ms : List Level) → TakeAll e v o ls → TakeAll f w p ms → TakeAll (e + f) (v + w) (o + p) (ls ++ ms)
window-all e v o f w p [] ms t k =
    subst (λ z. TakeAll z (v + w) (o + p) ms) (none_more e f t.0) (subst (λ z. TakeAll f z (o + p) ms) (none_more v w t.1.0) (subst (λ z. TakeAll f w z ms) (none_more o p t.1.1) k))
window-all e v o f w p (l ∷ ls) ms t k = (
  omega (arith, t.0),
  (
    omega (arith, t.1.0),
    (
      omega (arith, t.1.1.0),
      rw (less e f l.edges t.0, less v w l.vertices t.1.0, less o p l.onward t.1.1.0)
          (window-all (e - l.edges) (v - l.vertices) (o - l.onward) f w p ls ms t.1.1.1 k),
    ),
  ),
)
  where
    less : (a b c : ℕ) → c ≤ a → (a + b) - c ≡ (a - c) + b
    less a b c h = omega arith

-- ---- a window is cut off
pub window-cut : (column : Option Fraction) (table : List Contact) (es fs : List Active) (us vs : List Vertex) (os : List Active) (ls : List Level) → IsWindow column table es fs us vs →
    IsWhole column es (contacts_of table es) us os ls → CutOff column (es ++ fs) fs (contacts_of table (es ++ fs)) (contacts_of table fs) (us ++ vs) vs os ls
window-cut column table es fs us vs os ls w h =
    record {
      tops = λ ms k. window-tops column table es fs us vs (length os) ls ms w h.all h.tops k;
      onward = λ ps ms k. window-onward es fs us vs os ps ls ms h.all h.onward k;
      all = λ n ms k.
          subst (λ z. TakeAll z (length (us ++ vs)) (length os + n) (ls ++ ms)) (sym (length-append es fs))
          (subst (λ z. TakeAll (length es + length fs) z (length os + n) (ls ++ ms)) (sym (length-append us vs))
          (window-all (length es) (length us) (length os) (length fs) (length vs) n ls ms h.all k));
    }
