-- What goes on from the first levels of a column is above what goes on from those below them, so no bundle right of the column is of both.
use Rattle.std.proofs.Common.{◌≡◌, refl, ap, sym, ◌∙◌, subst, ℕ, zero, suc, ◌+◌, ◌-◌, ◌≤◌, arith, true, false, List, [], ◌∷◌, ◌++◌, length, take, drop, Option, Some, None}
use Rattle.std.specs.Prelude.{sum_by}
use Rattle.std.specs.List.{AllByRecursion}
use Rattle.std.specs.declared.cmp.Ordering.TheVariants.{Equal, Less}
use Rattle.std.proofs.lemmas.List.{append-nil, length-drop}
use Rattle.std.proofs.lemmas.List.Sums.{sum_by-append, sum_by-cons}
use Rattle.sf_grid.specs.Fraction.{Fraction, IsFraction, fraction_lt}
use Rattle.sf_grid.specs.Edge.{height_cmp}
use Rattle.sf_grid.proofs.CallerLemmas.{Same}
use Rattle.sf_strips.specs.declared.active.Active.{Active}
use Rattle.sf_strips.specs.declared.contact.Contact.{Contact}
use Rattle.sf_strips.specs.declared.contact.Contact.TheVariants.{Ahead, Never, Throughout}
use Rattle.sf_strips.specs.declared.level.Level.{Level}
use Rattle.sf_strips.specs.declared.piece.Piece.{Piece}
use Rattle.sf_strips.specs.declared.vertex.Vertex.{Vertex}
use Rattle.sf_strips.specs.Fronts.{AreContacts, IsContact, IsEntry, line_of, touches}
use Rattle.sf_strips.specs.Levels.{AreOnward, TakeAll}
use Rattle.sf_strips.specs.Vertices.{IsVertexOf, in_column}
use Rattle.sf_strips.proofs.CutLaws.{CutOff}
use Rattle.sf_slabs.specs.Sweeps.{IsColumnOf, IsComing}
use Rattle.sf_slabs.proofs.CrossLaws.{level-one_line}
use Rattle.sf_slabs.proofs.EachLaws.{each-join, each-map}
use Rattle.sf_slabs.proofs.FollowLaws.{level-flip, slants-line_of}
use Rattle.sf_slabs.proofs.LevelHeightsLaws.{leveled_heights}
use Rattle.sf_slabs.proofs.LeveledLaws.{Leveled, active_height, active_height-number, drop-each_active, drop-each_vertex, height_cmp-active, leveled}
use Rattle.sf_slabs.proofs.LocateLaws.{less_from_lt}
use Rattle.sf_slabs.proofs.NextFrontLaws.{IsLeft, StandsAt, level_onward}
use Rattle.sf_slabs.proofs.NumberLaws.{Follow-rest, Numbers, rising_order}
use Rattle.sf_slabs.proofs.SampleLaws.{Follow, FollowFrom}
use Rattle.sf_sweep.specs.Passing.{IsLastApart, contact_at}
use Rattle.sf_sweep.specs.Tables.{bundles_of, contacts_of}
use Rattle.sf_sweep.proofs.CompleteLaws.{HasCut, complete, whole-behind}
use Rattle.sf_sweep.proofs.RepairLaws.{each-parts}
use Rattle.sf_sweep.proofs.StopLaws.{bundles-join}

-- ---- edges above others in a column
abbrev pub IsOver : Fraction → Active → Active → Type 0
IsOver x a b = height_cmp (line_of b) (line_of a) x ≡ Less

abbrev pub AreOver : Fraction → List Active → List Active → Type 0
AreOver x es fs = AllByRecursion (λ a. AllByRecursion (IsOver x a) fs) es

-- where some are at a height, and the others below it
below-it : (x : Fraction) (a b : Active) (q : Fraction) → IsFraction x → IsFraction q → Same (active_height x a) q → fraction_lt (active_height x b) q ≡ true → IsOver x a b
below-it x a b q i j h l =
    height_cmp-active x a b
    ∙ less_from_lt (active_height x b) (active_height x a)
    (rising_order.same_second (active_height x b) q (active_height x a) (active_height-number x b i) j (active_height-number x a i) l (sym h))

each-over : (pieces : List Piece) (x q : Fraction) (es fs : List Active) → IsFraction x → IsFraction q → AllByRecursion (StandsAt pieces x q) es →
    AllByRecursion (λ b. fraction_lt (active_height x b) q ≡ true) fs → AreOver x es fs
each-over pieces x q [] fs i j h k = tt
each-over pieces x q (a ∷ es) fs i j h k =
    (each-map (λ b. fraction_lt (active_height x b) q ≡ true) (IsOver x a) fs (λ b l. below-it x a b q i j h.0.at_height l) k, each-over pieces x q es fs i j h.1 k)

over-first : (x : Fraction) (es fs gs : List Active) → AreOver x es (fs ++ gs) → AreOver x es fs
over-first x [] fs gs h = tt
over-first x (a ∷ es) fs gs h = ((each-parts (IsOver x a) fs gs h.0).0, over-first x es fs gs h.1)

-- ---- level after level
left-after : (pieces : List Piece) (z : Fraction) (es : List Active) (vs : List Vertex) (n m : ℕ) → IsLeft pieces z es vs → IsLeft pieces z (drop n es) (drop m vs)
left-after pieces z es vs n m l =
    record {
      place = l.place;
      entries = drop-each_active (IsEntry pieces) n es l.entries;
      each = drop-each_vertex (IsVertexOf pieces) m vs l.each;
      here = drop-each_vertex (λ v. in_column z v ≡ true) m vs l.here;
    }

-- what goes on from heights below q is below q
onward-below : (pieces : List Piece) (x q : Fraction) (es : List Active) (vs : List Vertex) (os : List Active) (ls : List Level) (qs : List Fraction) → IsFraction q → Numbers qs →
    FollowFrom (λ a b. fraction_lt b a) q qs → IsLeft pieces x es vs → Leveled x es vs ls qs → AreOnward es vs os ls →
    AllByRecursion (λ b. fraction_lt (active_height x b) q ≡ true) os
onward-below pieces x q es vs os [] qs j n f l h o = subst (AllByRecursion (λ b. fraction_lt (active_height x b) q ≡ true)) (sym o) tt
onward-below pieces x q es vs os (k ∷ ls) [] j n f l h o = absurd h
onward-below pieces x q es vs os (k ∷ ls) (r ∷ rs) j n f l h o =
    each-join (λ b. fraction_lt (active_height x b) q ≡ true) k.onward os
    (each-map (StandsAt pieces x r) (λ b. fraction_lt (active_height x b) q ≡ true) (take k.onward os)
    (λ b s. rising_order.same_first (active_height x b) r q (active_height-number x b l.place) n.0 j s.at_height f.0)
    (level_onward pieces x r es vs k.edges k.vertices (take k.onward os) l h.0 o.0))
    (each-map (λ b. fraction_lt (active_height x b) r ≡ true) (λ b. fraction_lt (active_height x b) q ≡ true) (drop k.onward os)
    (λ b s. rising_order.trans (active_height x b) r q (active_height-number x b l.place) n.0 j s f.0)
    (onward-below pieces x r (drop k.edges es) (drop k.vertices vs) (drop k.onward os) ls rs n.0 n.1 f.1 (left-after pieces x es vs k.edges k.vertices l) h.1 o.1))

-- the first ones of two lists
take-first : (n : ℕ) (xs ys : List Active) → n ≤ length xs → take n (xs ++ ys) ≡ take n xs
take-first zero xs ys l = refl
take-first (suc n) [] ys l = absurd (omega (arith, l))
take-first (suc n) (x ∷ xs) ys l = ap (λ zs. x ∷ zs) (take-first n xs ys (omega (arith, l)))

drop-first : (n : ℕ) (xs ys : List Active) → n ≤ length xs → drop n (xs ++ ys) ≡ drop n xs ++ ys
drop-first zero xs ys l = refl
drop-first (suc n) [] ys l = absurd (omega (arith, l))
drop-first (suc n) (x ∷ xs) ys l = drop-first n xs ys (omega (arith, l))

abbrev onward_sum : List Level → ℕ
onward_sum ls = sum_by (λ l. l.onward) ls

parted : (pieces : List Piece) (x : Fraction) (es : List Active) (vs : List Vertex) (done os : List Active) (ls ks : List Level) (qs : List Fraction) → Numbers qs → Follow (λ a b. fraction_lt b a) qs →
    IsLeft pieces x es vs → Leveled x es vs (ls ++ ks) qs → AreOnward es vs (done ++ os) (ls ++ ks) → onward_sum ls ≡ length done → AreOver x done os
parted pieces x es vs [] os [] ks qs n f l h o e = tt
parted pieces x es vs (a ∷ done) os [] ks qs n f l h o e = absurd (omega (arith, e))
parted pieces x es vs done os (k ∷ ls) ks [] n f l h o e = absurd h
parted pieces x es vs done os (k ∷ ls) ks (q ∷ qs) n f l h o e =
    let sum : onward_sum (k ∷ ls) ≡ k.onward + onward_sum ls = sum_by-cons (λ l. l.onward) k ls in
    let few : k.onward ≤ length done = omega (arith, e, sum) in
    let low : List Active = drop k.onward done in
    let left = left-after pieces x es vs k.edges k.vertices l in
    let here : AllByRecursion (StandsAt pieces x q) (take k.onward done) =
    subst (AllByRecursion (StandsAt pieces x q)) (take-first k.onward done os few)
    (level_onward pieces x q es vs k.edges k.vertices (take k.onward (done ++ os)) l h.0 o.0) in
    let further : AreOnward (drop k.edges es) (drop k.vertices vs) (low ++ os) (ls ++ ks) =
    subst (λ zs. AreOnward (drop k.edges es) (drop k.vertices vs) zs (ls ++ ks)) (drop-first k.onward done os few) o.1 in
    let below = onward-below pieces x q (drop k.edges es) (drop k.vertices vs) (low ++ os) (ls ++ ks) qs n.0 n.1 f left h.1 further in
    let rest : onward_sum ls ≡ length low = omega (arith, e, sum, length-drop k.onward done) in
    each-join (λ a. AllByRecursion (IsOver x a) os) k.onward done
    (each-over pieces x q (take k.onward done) os l.place n.0 here (each-parts (λ b. fraction_lt (active_height x b) q ≡ true) low os below).1)
    (parted pieces x (drop k.edges es) (drop k.vertices vs) low os ls ks qs n.1 (Follow-rest (λ a b. fraction_lt b a) q qs f) left h.1 further rest)

-- ---- as many go on from levels as they say
onward-total : (e v o : ℕ) (ls : List Level) → TakeAll e v o ls → onward_sum ls ≡ o
onward-total e v o [] h = sym h.1.1
onward-total e v o (l ∷ ls) h =
    let rest = onward-total (e - l.edges) (v - l.vertices) (o - l.onward) ls h.1.1.1 in
    let sum = sum_by-cons (λ l. l.onward) l ls in
    omega (arith, rest, sum, h.1.1.0)

cut-total : (column : Option Fraction) (es es' : List Active) (cs cs' : List Contact) (vs vs' : List Vertex) (order : List Active) (levels : List Level) → CutOff column es es' cs cs' vs vs' order levels →
    HasCut column es' cs' vs' → onward_sum levels ≡ length order
cut-total column es es' cs cs' vs vs' order levels c rest =
    let all = onward-total (length es) (length vs) (length order + length rest.order) (levels ++ rest.levels) (c.all (length rest.order) rest.levels rest.whole.all) in
    let later = onward-total (length es') (length vs') (length rest.order) rest.levels rest.whole.all in
    omega (arith, all, later, sum_by-append (λ l. l.onward) levels rest.levels)

-- ---- what goes on from two parts of a column, one below the other
pub over-cut : (pieces : List Piece) (x : Fraction) (came rest rest' : List Active) (cs cs' cs'' : List Contact) (vs ws ws' : List Vertex) (done onward : List Active) (levels levels' : List Level) →
    IsComing pieces x (Some x) came cs → IsColumnOf pieces x vs → CutOff (Some x) came rest cs cs' vs ws done levels → CutOff (Some x) rest rest' cs' cs'' ws ws' onward levels' →
    length cs'' ≤ length rest' - 1 → AreOver x done onward
over-cut pieces x came rest rest' cs cs' cs'' vs ws ws' done onward levels levels' coming column c c' fewer =
    let last = complete (Some x) rest' cs'' ws' fewer in
    let lower : HasCut (Some x) rest cs' ws =
    record {
      order = onward ++ last.order;
      levels = levels' ++ last.levels;
      whole = whole-behind (Some x) rest rest' cs' cs'' ws ws' onward levels' c' last;
    } in
    let all = whole-behind (Some x) came rest cs cs' vs ws done levels c lower in
    let l = leveled x (Some x) came cs vs (levels ++ (levels' ++ last.levels)) coming.place coming.steps column.here column.in_order all.tops in
    let heights = leveled_heights pieces x came vs (levels ++ (levels' ++ last.levels)) l.0 coming.place coming.entries coming.coming column.are l.1 in
    over-first x done onward last.order
    (parted pieces x came vs done (onward ++ last.order) levels (levels' ++ last.levels) l.0 heights.numbers heights.in_order
    (record { place = coming.place; entries = coming.entries; each = column.each; here = column.here }) l.1 all.onward
    (cut-total (Some x) came rest cs cs' vs ws done levels c lower))

-- ---- they have no bundle in common
differ : Less ≡ Equal → ⊥
differ e = cc

not-through : (x : Fraction) (a b : Active) (c : Contact) → IsFraction x → IsContact (line_of a) (line_of b) x c → IsOver x a b → touches None c ≡ false
not-through x a b Never i h d = refl
not-through x a b (Ahead p) i h d = refl
not-through x a b Throughout i h d = absurd
    (differ (sym d ∙ level-flip (line_of a) (line_of b) x (level-one_line (line_of a) (line_of b) x (slants-line_of a) (slants-line_of b) i h)))

last-over : (x : Fraction) (table : List Contact) (es : List Active) (f : Active) (fs : List Active) → IsFraction x → AreContacts x (es ++ (f ∷ fs)) (contacts_of table (es ++ (f ∷ fs))) → AreOver x es (f ∷ fs) →
    IsLastApart None table es
last-over x table [] f fs i k d = tt
last-over x table (a ∷ []) f fs i k d = not-through x a f (contact_at table a) i k.0 d.0.0
last-over x table (a ∷ b ∷ es) f fs i k d = last-over x table (b ∷ es) f fs i k.1 d.1

pub over-bundles : (x : Fraction) (table : List Contact) (es fs : List Active) → IsFraction x → AreContacts x (es ++ fs) (contacts_of table (es ++ fs)) → AreOver x es fs →
    bundles_of (contacts_of table (es ++ fs)) (es ++ fs) ≡ bundles_of (contacts_of table es) es ++ bundles_of (contacts_of table fs) fs
over-bundles x table es [] i k d = ap (λ z. bundles_of (contacts_of table z) z) (append-nil es) ∙ sym (append-nil (bundles_of (contacts_of table es) es))
over-bundles x table es (f ∷ fs) i k d = bundles-join table es (f ∷ fs) (last-over x table es f fs i k d)
