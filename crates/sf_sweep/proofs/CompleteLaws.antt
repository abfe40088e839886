-- Any edges and vertices of a column can be cut into levels.
use Rattle.std.proofs.Common.{◌≡◌, ◌≢◌, refl, sym, subst, ℕ, zero, suc, ◌+◌, ◌-◌, ◌≤◌, ◌<◌, arith, ℤ, ◌*ℤ◌, ◌-ℤ◌, Bool, true, false, cond, List, [], ◌∷◌, ◌++◌, length, take, drop, Option}
use Rattle.std.specs.List.Sorted.{IsPermutation}
use Rattle.std.specs.Ordering.{int_cmp}
use Rattle.std.specs.declared.cmp.Ordering.{Ordering}
use Rattle.std.specs.declared.cmp.Ordering.TheVariants.{Equal, Greater, Less}
use Rattle.std.proofs.lemmas.Int.{ints}
use Rattle.std.proofs.lemmas.List.{length-append, length-drop, length-take-le}
use Rattle.std.proofs.lemmas.List.Sorted.{IsPermutation-cons, IsPermutation-middle, IsPermutation-refl, IsPermutation-trans}
use Rattle.sf_grid.specs.Fraction.{Fraction}
use Rattle.sf_strips.specs.declared.active.Active.{Active}
use Rattle.sf_strips.specs.declared.contact.Contact.{Contact}
use Rattle.sf_strips.specs.declared.level.Level.{Level}
use Rattle.sf_strips.specs.declared.part.Part.{Part}
use Rattle.sf_strips.specs.declared.part.Part.TheVariants.{Together}
use Rattle.sf_strips.specs.declared.vertex.Role.{Role}
use Rattle.sf_strips.specs.declared.vertex.Role.TheVariants.{Begin, Bottom, Dot, End, Top}
use Rattle.sf_strips.specs.declared.vertex.Vertex.{Vertex}
use Rattle.sf_strips.specs.Levels.{AreStarts, IsOnward, SlopesFall, SlopesFallFrom, StartsWith, TakeAll, going_past, if_begins, top_level}
use Rattle.sf_strips.specs.Parts.{levels_of}
use Rattle.sf_strips.specs.Slanted.{slope_order}
use Rattle.sf_strips.specs.Vertices.{begins}
use Rattle.sf_strips.proofs.CutLaws.{CutOff, IsWhole, cut-nothing, few-drop, top-some, top-within, turn-level}

-- ---- edges by falling slope
abbrev slopes : Active → Active → Ordering
slopes a b = slope_order a.edge.left a.edge.right b.edge.left b.edge.right

abbrev is_more : Ordering → Bool
is_more Less = false
is_more Equal = false
is_more Greater = true

abbrev insert : Active → List Active → List Active
insert x [] = x ∷ []
insert x (y ∷ ys) = cond (is_more (slopes y x)) (y ∷ insert x ys) (x ∷ y ∷ ys)

abbrev by_slope : List Active → List Active
by_slope [] = []
by_slope (x ∷ xs) = insert x (by_slope xs)

not-more : (o : Ordering) → is_more o ≡ false → o ≢ Greater
not-more Less h e = cc
not-more Equal h e = cc
not-more Greater h e = cc

more-is : (o : Ordering) → is_more o ≡ true → o ≡ Greater
more-is Less h = cc
more-is Equal h = cc
more-is Greater h = refl

other-way : (a b : Active) → slopes b a ≡ Greater → slopes a b ≢ Greater
other-way a b h e = turned ((b.edge.right.y -ℤ b.edge.left.y) *ℤ (a.edge.right.x -ℤ a.edge.left.x)) ((a.edge.right.y -ℤ a.edge.left.y) *ℤ (b.edge.right.x -ℤ b.edge.left.x)) h e
  where
    turned : (m n : ℤ) → int_cmp m n ≡ Greater → int_cmp n m ≡ Greater → ⊥
    turned m n h e = grind (arith, ints)

insert-falls_from : (a x : Active) (ys : List Active) → slopes x a ≢ Greater → SlopesFallFrom a ys → SlopesFallFrom a (insert x ys)
insert-falls_from a x [] h k = (h, tt)
insert-falls_from a x (y ∷ ys) h k = by_test (is_more (slopes y x)) refl (λ l. insert-falls_from y x ys l k.1)
  where
    by_test : (t : Bool) → is_more (slopes y x) ≡ t → (slopes x y ≢ Greater → SlopesFallFrom y (insert x ys)) → SlopesFallFrom a (cond t (y ∷ insert x ys) (x ∷ y ∷ ys))
    by_test true e further = (k.0, further (other-way x y (more-is (slopes y x) e)))
    by_test false e further = (h, (not-more (slopes y x) e, k.1))

insert-falls : (x : Active) (ys : List Active) → SlopesFall ys → SlopesFall (insert x ys)
insert-falls x [] k = tt
insert-falls x (y ∷ ys) k = by_test (is_more (slopes y x)) refl
  where
    by_test : (t : Bool) → is_more (slopes y x) ≡ t → SlopesFall (cond t (y ∷ insert x ys) (x ∷ y ∷ ys))
    by_test true e = insert-falls_from y x ys (other-way x y (more-is (slopes y x) e)) k
    by_test false e = (not-more (slopes y x) e, k)

falls : (xs : List Active) → SlopesFall (by_slope xs)
falls [] = tt
falls (x ∷ xs) = insert-falls x (by_slope xs) (falls xs)

insert-same : (x : Active) (ys : List Active) → IsPermutation (x ∷ ys) (insert x ys)
insert-same x [] = IsPermutation-refl (x ∷ [])
insert-same x (y ∷ ys) = by_test (is_more (slopes y x)) (insert-same x ys)
  where
    by_test : (t : Bool) → IsPermutation (x ∷ ys) (insert x ys) → IsPermutation (x ∷ y ∷ ys) (cond t (y ∷ insert x ys) (x ∷ y ∷ ys))
    by_test true rest =
        IsPermutation-trans (x ∷ y ∷ ys) (y ∷ x ∷ ys) (y ∷ insert x ys) (IsPermutation-middle (x ∷ []) y ys) (IsPermutation-cons y (x ∷ ys) (insert x ys) rest)
    by_test false rest = IsPermutation-refl (x ∷ y ∷ ys)

same-edges : (xs : List Active) → IsPermutation xs (by_slope xs)
same-edges [] = IsPermutation-refl []
same-edges (x ∷ xs) = IsPermutation-trans (x ∷ xs) (x ∷ by_slope xs) (insert x (by_slope xs)) (IsPermutation-cons x xs (by_slope xs) (same-edges xs)) (insert-same x (by_slope xs))

-- ---- the edges that begin at vertices
abbrev start_by : Role → ℕ → List Active → List Active
start_by (Begin e) p rest = record { edge = e; piece = p } ∷ rest
start_by End p rest = rest
start_by Top p rest = rest
start_by Bottom p rest = rest
start_by Dot p rest = rest

abbrev starts_of : List Vertex → List Active
starts_of [] = []
starts_of (v ∷ vs) = start_by v.role v.piece (starts_of vs)

are-starts : (vs : List Vertex) → AreStarts vs (starts_of vs)
are-starts [] = refl
are-starts (v ∷ vs) = by_role v.role refl (are-starts vs)
  where
    by_role : (r : Role) → v.role ≡ r → AreStarts vs (starts_of vs) → if_begins (begins r) (StartsWith v (AreStarts vs)) (AreStarts vs) (start_by r v.piece (starts_of vs))
    by_role (Begin e) h k = (refl, (h, k))
    by_role End h k = k
    by_role Top h k = k
    by_role Bottom h k = k
    by_role Dot h k = k

level-goes : (es : List Active) (vs : List Vertex) → IsOnward es vs (by_slope (going_past vs es ++ starts_of vs))
level-goes es vs =
    record { starts = starts_of vs; are_starts = are-starts vs; same = same-edges (going_past vs es ++ starts_of vs); fall = falls (going_past vs es ++ starts_of vs) }

-- ---- all levels
pub record HasCut (column : Option Fraction) (es : List Active) (cs : List Contact) (vs : List Vertex) : Type 0 where
  pub order : List Active
  pub levels : List Level
  pub whole : IsWhole column es cs vs order levels

-- levels cut off from the top, and those of what is left
pub whole-behind : (column : Option Fraction) (es es' : List Active) (cs cs' : List Contact) (vs vs' : List Vertex) (order : List Active) (levels : List Level) → CutOff column es es' cs cs' vs vs' order levels →
    (rest : HasCut column es' cs' vs') → IsWhole column es cs vs (order ++ rest.order) (levels ++ rest.levels)
whole-behind column es es' cs cs' vs vs' order levels c rest =
    record {
      tops = c.tops rest.levels rest.whole.tops;
      onward = c.onward rest.order rest.levels rest.whole.onward;
      all = subst (λ n. TakeAll (length es) (length vs) n (levels ++ rest.levels)) (sym (length-append order rest.order)) (c.all (length rest.order) rest.levels rest.whole.all);
    }

one-level : (column : Option Fraction) (es : List Active) (cs : List Contact) (vs : List Vertex) → 0 < length es + length vs → length cs ≤ length es - 1 →
    ((es' : List Active) (cs' : List Contact) (vs' : List Vertex) → length es' + length vs' < length es + length vs → length cs' ≤ length es' - 1 → HasCut column es' cs' vs') → HasCut column es cs vs
one-level column es cs vs some fewer further =
    let top = top_level column es cs vs in
    let fits = top-within column es cs vs top fewer refl in
    let took = top-some column es cs vs some in
    let run : List Active = take top.edges es in
    let group : List Vertex = take top.vertices vs in
    let segment : List Active = by_slope (going_past group run ++ starts_of group) in
    let part : Part = Together (record { edges = length run; vertices = length group; onward = length segment }) in
    let es' : List Active = drop top.edges es in
    let cs' : List Contact = drop top.edges cs in
    let vs' : List Vertex = drop top.vertices vs in
    let less : length es' + length vs' < length es + length vs =
    omega (arith, took, fits.edges, fits.vertices, length-drop top.edges es, length-drop top.vertices vs) in
    let rest = further es' cs' vs' less (few-drop top.edges cs cs' es es' refl refl fewer) in
    let cut : CutOff column es es' cs cs' vs vs' segment (levels_of (part ∷ [])) =
    turn-level column es es es' cs cs cs' vs vs vs' [] segment [] (part ∷ []) top run group
    (record {
      top_is = refl;
      some = some;
      few = fewer;
      run_is = refl;
      run_len = length-take-le top.edges es fits.edges;
      edges = refl;
      contacts = refl;
      group_is = refl;
      group_len = length-take-le top.vertices vs fits.vertices;
      vertices = refl;
      pushed = record { segment = segment; onward = level-goes run group; behind = refl; order_behind = refl };
    })
    (cut-nothing column es cs vs [] [] refl refl) in
    record {
      order = segment ++ rest.order;
      levels = levels_of (part ∷ []) ++ rest.levels;
      whole = whole-behind column es es' cs cs' vs vs' segment (levels_of (part ∷ [])) cut rest;
    }

complete-within : (n : ℕ) (column : Option Fraction) (es : List Active) (cs : List Contact) (vs : List Vertex) → length es + length vs ≤ n → length cs ≤ length es - 1 → HasCut column es cs vs
complete-within n column [] cs [] few fewer =
    record { order = []; levels = []; whole = record { tops = (refl, refl); onward = refl; all = (refl, (refl, refl)) } }
complete-within zero column [] cs (v ∷ vs) few fewer = absurd (omega (arith, few))
complete-within zero column (a ∷ es) cs vs few fewer = absurd (omega (arith, few))
complete-within (suc n) column [] cs (v ∷ vs) few fewer =
    one-level column [] cs (v ∷ vs) (omega arith) fewer (λ es' cs' vs' h k. complete-within n column es' cs' vs' (omega (arith, h, few)) k)
complete-within (suc n) column (a ∷ es) cs vs few fewer =
    one-level column (a ∷ es) cs vs (omega arith) fewer (λ es' cs' vs' h k. complete-within n column es' cs' vs' (omega (arith, h, few)) k)

pub complete : (column : Option Fraction) (es : List Active) (cs : List Contact) (vs : List Vertex) → length cs ≤ length es - 1 → HasCut column es cs vs
complete column es cs vs fewer = complete-within (length es + length vs) column es cs vs (omega arith) fewer
