-- Edges that stand alone: their levels, and the contacts between them.
use Rattle.std.proofs.Common.{◌≡◌, refl, ap, sym, subst, ◌∙◌, ℕ, zero, suc, ◌+◌, ◌-◌, ◌≤◌, ◌<◌, arith, Bool, true, false, ◌&&◌, not, List, [], ◌∷◌, ◌++◌, take, drop, length, slice_index_or, Option, Some, if◌then◌else◌}
use Rattle.std.specs.List.{AllByRecursion, prefix_len}
use Rattle.std.specs.Ordering.{is_lt}
use Rattle.std.specs.declared.cmp.Ordering.{Ordering}
use Rattle.std.specs.declared.cmp.Ordering.TheVariants.{Equal, Greater, Less}
use Rattle.std.proofs.Math.Seq.{drop-cons}
use Rattle.std.proofs.lemmas.List.{drop-drop}
use Rattle.std.proofs.lemmas.List.Sorted.{IsPermutation-refl}
use Rattle.sf_grid.specs.Fraction.{Fraction}
use Rattle.sf_grid.specs.Plane.{grid_point}
use Rattle.sf_strips.specs.declared.active.Active.{Active}
use Rattle.sf_strips.specs.declared.contact.Contact.{Contact}
use Rattle.sf_strips.specs.declared.level.Level.{Level}
use Rattle.sf_strips.specs.declared.part.Part.{Part}
use Rattle.sf_strips.specs.declared.part.Part.TheVariants.{Alone, Together}
use Rattle.sf_strips.specs.declared.vertex.Vertex.{Vertex}
use Rattle.sf_strips.specs.Fronts.{AreApart, AreApartFrom, AreContacts, AreContactsFrom, touches}
use Rattle.sf_strips.specs.Levels.{AreOnward, AreTops, TakeAll, group_length, level, level_by, run_length, top_level}
use Rattle.sf_strips.specs.Parts.{alone_count, alone_level, alone_levels, is_over, levels_of, stands_alone, touches_first}
use Rattle.sf_strips.specs.Slanted.{side_of}

-- ---- the levels of parts
-- what comes behind levels of edges alone comes behind the levels after them
pub alone_levels-append : (n : ℕ) (ls ms : List Level) → alone_levels n ls ++ ms ≡ alone_levels n (ls ++ ms)
alone_levels-append zero ls ms = refl
alone_levels-append (suc n) ls ms = ap (λ zs. alone_level ∷ zs) (alone_levels-append n ls ms)

-- the levels of parts behind others are behind the levels of those
pub levels_of-append : (ps qs : List Part) → levels_of (ps ++ qs) ≡ levels_of ps ++ levels_of qs
levels_of-append [] qs = refl
levels_of-append (Alone n ∷ ps) qs =
    ap (alone_levels n) (levels_of-append ps qs) ∙ sym (alone_levels-append n (levels_of ps) (levels_of qs))
levels_of-append (Together l ∷ ps) qs = ap (λ zs. l ∷ zs) (levels_of-append ps qs)

-- ---- how many stand alone
-- a count that is above n counts the first one
count_more : (n m : ℕ) (alone : Bool) → suc n ≤ (if alone then 1 + m else 0) → (alone ≡ true) × (n ≤ m)
count_more n m true h = (refl, omega arith)
count_more n m false h = absurd (omega arith)

-- where more than n stand alone, the first one does, and n of the others
alone_count-more : (column : Option Fraction) (n : ℕ) (a : Active) (es : List Active) (cs : List Contact) (vs : List Vertex) →
    suc n ≤ alone_count column (a ∷ es) cs vs → (stands_alone column a cs vs ≡ true) × (n ≤ alone_count column es (drop 1 cs) vs)
alone_count-more column n a es cs vs h = count_more n (alone_count column es (drop 1 cs) vs) (stands_alone column a cs vs) h

-- no more than there are
pub alone_count-le : (column : Option Fraction) (es : List Active) (cs : List Contact) (vs : List Vertex) → alone_count column es cs vs ≤ length es
alone_count-le column [] cs vs = omega arith
alone_count-le column (a ∷ es) cs vs = one_more (stands_alone column a cs vs) (alone_count column es (drop 1 cs) vs) (length es) (alone_count-le column es (drop 1 cs) vs)
  where
    one_more : (alone : Bool) (n m : ℕ) → n ≤ m → (if alone then 1 + n else 0) ≤ suc m
    one_more true n m h = omega arith
    one_more false n m h = omega arith

-- the first one stands alone, and then as many as do of the others
count_step : (column : Option Fraction) (es rest : List Active) (cs ds : List Contact) (vs : List Vertex) (a : Active) → es ≡ a ∷ rest → drop 1 cs ≡ ds →
    stands_alone column a cs vs ≡ true → alone_count column es cs vs ≡ 1 + alone_count column rest ds vs
count_step column es rest cs ds vs a e f h =
    ap (λ zs. alone_count column zs cs vs) e
    ∙ ap (λ b. if b then 1 + alone_count column rest (drop 1 cs) vs else 0) h
    ∙ ap (λ zs. 1 + alone_count column rest zs vs) f

-- one more stands alone
pub count-further : (column : Option Fraction) (i : ℕ) (es : List Active) (cs : List Contact) (vs : List Vertex) (n : ℕ) (a : Active) → i < length es →
    a ≡ slice_index_or es i a → stands_alone column a (drop i cs) vs ≡ true → i + alone_count column (drop i es) (drop i cs) vs ≡ n →
    (i + 1) + alone_count column (drop (i + 1) es) (drop (i + 1) cs) vs ≡ n
count-further column i es cs vs n a h e alone k =
    sums (alone_count column (drop i es) (drop i cs) vs) (alone_count column (drop (i + 1) es) (drop (i + 1) cs) vs)
    (count_step column (drop i es) (drop (i + 1) es) (drop i cs) (drop (i + 1) cs) vs a (drop-cons es i a h ∙ ap (λ z. z ∷ drop (suc i) es) (sym e) ∙ ap (λ m. a ∷ drop m es) (next i)) (drop-drop 1 i cs) alone) k
  where
    next : (i : ℕ) → suc i ≡ i + 1
    next i = omega arith

    sums : (b c : ℕ) → b ≡ 1 + c → i + b ≡ n → (i + 1) + c ≡ n
    sums b c e k = omega arith

-- both parts of the test hold
both : (t o : Bool) → (not t && o) ≡ true → (t ≡ false) × (o ≡ true)
both false true h = (refl, refl)
both false false h = cc
both true o h = cc

-- an edge that stands alone is not level with the next one, and the vertices are below it
alone-apart : (column : Option Fraction) (a : Active) (cs : List Contact) (vs : List Vertex) → stands_alone column a cs vs ≡ true →
    (touches_first column cs ≡ false) × (is_over vs a ≡ true)
alone-apart column a cs vs h = both (touches_first column cs) (is_over vs a) h

-- one taken off, and then n
drop_further : {A : Type 0} (n : ℕ) (xs : List A) → drop n (drop 1 xs) ≡ drop (suc n) xs
drop_further zero [] = refl
drop_further (suc n) [] = refl
drop_further n (x ∷ xs) = refl

-- ---- the levels of the edges that stand alone
-- an edge that is not level with the next one is a run of its own
run_alone : (column : Option Fraction) (a : Active) (es : List Active) (cs : List Contact) → touches_first column cs ≡ false → run_length column (a ∷ es) cs ≡ 1
run_alone column a es [] h = refl
run_alone column a es (c ∷ cs) h = ap (λ b. 1 + (if b then 1 + prefix_len (touches column) cs else 0)) h

-- an edge that stands alone is the highest level
top-alone : (column : Option Fraction) (a : Active) (es : List Active) (cs : List Contact) (vs : List Vertex) → stands_alone column a cs vs ≡ true →
    top_level column (a ∷ es) cs vs ≡ level 1 0
top-alone column a es cs [] h = ap (λ n. level n 0) (run_alone column a es cs (alone-apart column a cs [] h).0)
top-alone column a es cs (v ∷ vs) h =
    by_side (side_of a.edge.left a.edge.right (grid_point v.at)) (run_length column (a ∷ es) cs) (group_length (v ∷ vs))
    (run_alone column a es cs (alone-apart column a cs (v ∷ vs) h).0) (alone-apart column a cs (v ∷ vs) h).1
  where
    by_side : (o : Ordering) (n m : ℕ) → n ≡ 1 → is_lt o ≡ true → level_by o n m ≡ level 1 0
    by_side Less n m e h = ap (λ n. level n 0) e
    by_side Equal n m e h = cc
    by_side Greater n m e h = cc

-- each is the highest level of what is left
pub alone-tops : (column : Option Fraction) (n : ℕ) (es : List Active) (cs : List Contact) (vs : List Vertex) (ls : List Level) → n ≤ alone_count column es cs vs →
    AreTops column (drop n es) (drop n cs) vs ls → AreTops column es cs vs (alone_levels n ls)
alone-tops column zero es cs vs ls h k = k
alone-tops column (suc n) [] cs vs ls h k = absurd (omega arith)
alone-tops column (suc n) (a ∷ es) cs vs ls h k =
    let more = alone_count-more column n a es cs vs h in
    let top = top-alone column a es cs vs more.0 in (
      record { some = omega arith; edges = sym (ap (λ l. l.edges) top); vertices = sym (ap (λ l. l.vertices) top) },
      alone-tops column n es (drop 1 cs) vs ls more.1 (subst (λ ds. AreTops column (drop n es) ds vs ls) (sym (drop_further n cs)) k),
    )

-- each goes on
pub alone-onward : (n : ℕ) (es : List Active) (vs : List Vertex) (os : List Active) (ls : List Level) → n ≤ length es →
    AreOnward (drop n es) vs os ls → AreOnward es vs (take n es ++ os) (alone_levels n ls)
alone-onward zero es vs os ls h k = k
alone-onward (suc n) [] vs os ls h k = absurd (omega arith)
alone-onward (suc n) (a ∷ es) vs os ls h k =
    (record { starts = []; are_starts = refl; same = IsPermutation-refl (a ∷ []); fall = tt }, alone-onward n es vs os ls (omega arith) k)

-- each takes one edge and gives one
pub alone-all : (n e v o : ℕ) (ls : List Level) → n ≤ e → TakeAll (e - n) v o ls → TakeAll e v (n + o) (alone_levels n ls)
alone-all zero e v o ls h k = subst (λ m. TakeAll e v m ls) (nothing_before o) (subst (λ m. TakeAll m v o ls) (all_left e) k)
  where
    nothing_before : (o : ℕ) → o ≡ 0 + o
    nothing_before o = omega arith

    all_left : (e : ℕ) → e - 0 ≡ e
    all_left e = omega arith
alone-all (suc n) e v o ls h k = (
  omega arith,
  (
    omega arith,
    (
      omega arith,
      subst (λ m. TakeAll (e - 1) m (((suc n) + o) - 1) (alone_levels n ls)) (none v)
          (subst (λ m. TakeAll (e - 1) v m (alone_levels n ls)) (one_less n o)
          (alone-all n (e - 1) v o ls (omega arith) (subst (λ m. TakeAll m v o ls) (less e n) k))),
    ),
  ),
)
  where
    none : (v : ℕ) → v ≡ v - 0
    none v = omega arith

    one_less : (n o : ℕ) → n + o ≡ (suc n + o) - 1
    one_less n o = omega arith

    less : (e n : ℕ) → e - suc n ≡ (e - 1) - n
    less e n = omega arith

-- as many go on as come
pub alone-each : (P : Level → Type 0) (n : ℕ) (ls : List Level) → P alone_level → AllByRecursion P ls → AllByRecursion P (alone_levels n ls)
alone-each P zero ls p h = h
alone-each P (suc n) ls p h = (p, alone-each P n ls p h)

-- ---- the contacts between edges that stand alone
-- contacts of an edge and those below it, where all these stand alone
kept_from : (x : Fraction) (n : ℕ) (a : Active) (es : List Active) (cs : List Contact) (vs : List Vertex) → AreApartFrom x a es cs →
    suc n ≤ alone_count (Some x) (a ∷ es) cs vs → AreContactsFrom x a (take n es) (take n cs)
kept_from x zero a es cs vs h k = refl
kept_from x (suc n) a [] cs vs h k = let m = (alone_count-more (Some x) (suc n) a [] cs vs k).1 in absurd (omega arith)
kept_from x (suc n) a (b ∷ es) [] vs h k = absurd h
kept_from x (suc n) a (b ∷ es) (c ∷ cs) vs h k =
    let more = alone_count-more (Some x) (suc n) a (b ∷ es) (c ∷ cs) vs k in
    (h.0 (alone-apart (Some x) a (c ∷ cs) vs more.0).0, kept_from x n b es cs vs h.1 more.1)

-- contacts between the first edges, where all these stand alone
contacts_kept : (x : Fraction) (n : ℕ) (es : List Active) (cs : List Contact) (vs : List Vertex) → AreApart x es cs →
    suc n ≤ alone_count (Some x) es cs vs → AreContacts x (take (suc n) es) (take n cs)
contacts_kept x n [] cs vs h k = absurd (omega arith)
contacts_kept x n (a ∷ es) cs vs h k = kept_from x n a es cs vs h k

-- right of the column the contacts between them are those that they had
pub contacts-kept : (x : Fraction) (n m : ℕ) (es run : List Active) (cs kept : List Contact) (vs : List Vertex) → AreApart x es cs →
    n ≡ alone_count (Some x) es cs vs → 0 < n → m ≡ n - 1 → run ≡ take n es → kept ≡ take m cs → AreContacts x run kept
contacts-kept x zero m es run cs kept vs h e l d f g = absurd (omega arith)
contacts-kept x (suc n) m es run cs kept vs h e l d f g =
    subst (λ es. AreContacts x es kept) (sym f)
    (subst (λ cs. AreContacts x (take (suc n) es) cs) (sym (g ∙ ap (λ m. take m cs) (less m n d)))
    (contacts_kept x n es cs vs h (omega arith)))
  where
    less : (m n : ℕ) → m ≡ suc n - 1 → m ≡ n
    less m n d = omega arith
