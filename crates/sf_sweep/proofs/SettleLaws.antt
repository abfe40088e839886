-- Contacts by pieces, where some edges of an order are replaced: what was written is what each edge does with the next one.
use Rattle.std.proofs.Common.{◌≡◌, ◌≢◌, refl, ap, sym, ◌∙◌, subst, ℕ, suc, ◌+◌, ◌-◌, ◌≤◌, ◌<◌, arith, List, [], ◌∷◌, ◌++◌, length, drop, ◌⊎◌, inl, inr}
use Rattle.std.specs.Prelude.{slice_index_or, slice_set}
use Rattle.std.specs.List.{AllByRecursion}
use Rattle.std.proofs.lemmas.Bool.{cases_eq, cases_lt}
use Rattle.std.proofs.lemmas.List.{at_drop_all, at_drop_more, get_or-set_other, get_or-set_same, get_or_past, length-set}
use Rattle.sf_grid.specs.Fraction.{Fraction}
use Rattle.sf_strips.specs.declared.active.Active.{Active}
use Rattle.sf_strips.specs.declared.contact.Contact.{Contact}
use Rattle.sf_strips.specs.declared.contact.Contact.TheVariants.{Never}
use Rattle.sf_strips.specs.Fronts.{AreContacts, IsContact, line_of}
use Rattle.sf_sweep.specs.Passing.{contact_at}
use Rattle.sf_sweep.specs.Settled.{AreMet, IsSeam, IsSeamAt, WasSeamed, WereSettled, forgotten, joined, with_last}
use Rattle.sf_sweep.specs.Tables.{IsNeverElsewhere, contacts_of}
use Rattle.sf_sweep.proofs.GoingLaws.{each-join}
use Rattle.sf_sweep.proofs.MendLaws.{apart-each, distinct-first}
use Rattle.sf_sweep.proofs.ParityLaws.{AreDistinct}
use Rattle.sf_sweep.proofs.RepairLaws.{each-parts}

-- ---- a turn of the loop that puts contacts down
pub joined-step : (table : List Contact) (es : List Active) (cs : List Contact) (n m : ℕ) (a : Active) (c : Contact) (end : List Contact) → n < length es → n < length cs → a ≡ slice_index_or es n a →
    c ≡ slice_index_or cs n c → m ≡ n + 1 → joined table (drop n es) (drop n cs) ≡ end → joined (slice_set table a.piece c) (drop m es) (drop m cs) ≡ end
joined-step table es cs n m a c end h k e f g r =
    ap (λ i. joined (slice_set table a.piece c) (drop i es) (drop i cs)) g
    ∙ ap (λ z. joined (slice_set table z.piece c) (drop (n + 1) es) (drop (n + 1) cs)) e
    ∙ ap (λ z. joined (slice_set table (slice_index_or es n a).piece z) (drop (n + 1) es) (drop (n + 1) cs)) f
    ∙ sym (at_drop_more (λ zs. joined table zs (drop n cs)) es n a h ∙ at_drop_more (λ zs. joined table (slice_index_or es n a ∷ drop (n + 1) es) zs) cs n c k)
    ∙ r

joined-nothing : (table : List Contact) (es : List Active) → joined table es [] ≡ table
joined-nothing table [] = refl
joined-nothing table (a ∷ es) = refl

pub joined-end : (table : List Contact) (es : List Active) (cs : List Contact) (n : ℕ) (end : List Contact) → (length es ≤ n) ⊎ (length cs ≤ n) → joined table (drop n es) (drop n cs) ≡ end → table ≡ end
joined-end table es cs n end (inl h) r = sym (at_drop_all (λ zs. joined table zs (drop n cs)) es n h) ∙ r
joined-end table es cs n end (inr h) r = sym (at_drop_all (λ zs. joined table (drop n es) zs) cs n h ∙ joined-nothing table (drop n es)) ∙ r

-- ---- the last of some edges
next-place : (n : ℕ) → suc (suc n) - 1 ≡ suc (suc n - 1)
next-place n = omega arith

seam-of_last : (x : Fraction) (es below : List Active) (a : Active) (c : Contact) → 0 < length es → a ≡ slice_index_or es (length es - 1) a → IsSeam x (a ∷ []) below c → IsSeam x es below c
seam-of_last x [] below a c some e h = absurd (omega (arith, some))
seam-of_last x (b ∷ []) below a c some e h = subst (λ z. IsSeam x (z ∷ []) below c) e h
seam-of_last x (b ∷ d ∷ es) below a c some e h =
    seam-of_last x (d ∷ es) below a c (omega arith) (e ∙ ap (λ n. slice_index_or (b ∷ d ∷ es) n a) (next-place (length es))) h

last-written : (table : List Contact) (es : List Active) (a : Active) (c : Contact) → 0 < length es → a ≡ slice_index_or es (length es - 1) a → slice_set table a.piece c ≡ with_last table es c
last-written table [] a c some e = absurd (omega (arith, some))
last-written table (b ∷ []) a c some e = ap (λ z. slice_set table z.piece c) e
last-written table (b ∷ d ∷ es) a c some e =
    last-written table (d ∷ es) a c (omega arith) (e ∙ ap (λ n. slice_index_or (b ∷ d ∷ es) n a) (next-place (length es)))

pub seamed-last : (x : Fraction) (es below : List Active) (a : Active) (c : Contact) (old new : List Contact) → 0 < length es → a ≡ slice_index_or es (length es - 1) a → new ≡ slice_set old a.piece c →
    IsSeam x (a ∷ []) below c → WasSeamed x es below old new
seamed-last x es below a c old new some e w h =
    record { contact = c; seam = seam-of_last x es below a c some e h; written = w ∙ last-written old es a c some e }

pub seam-first : (x : Fraction) (below : List Active) (a b : Active) (c : Contact) → 0 < length below → b ≡ slice_index_or below 0 b → IsContact (line_of a) (line_of b) x c → IsSeam x (a ∷ []) below c
seam-first x [] a b c some e h = absurd (omega (arith, some))
seam-first x (d ∷ below) a b c some e h = subst (λ z. IsContact (line_of a) (line_of z) x c) e h

pub seam-none : (x : Fraction) (below : List Active) (a : Active) (c : Contact) → length below ≤ 0 → c ≡ Never → IsSeam x (a ∷ []) below c
seam-none x [] a c h e = e
seam-none x (b ∷ below) a c h e = absurd (omega (arith, h))

-- what is further below doesn't count
seam-more : (x : Fraction) (es went lower : List Active) (c : Contact) → 0 < length went → IsSeam x es went c → IsSeam x es (went ++ lower) c
seam-more x [] went lower c some h = tt
seam-more x (a ∷ []) [] lower c some h = absurd (omega (arith, some))
seam-more x (a ∷ []) (b ∷ went) lower c some h = h
seam-more x (a ∷ b ∷ es) went lower c some h = seam-more x (b ∷ es) went lower c some h

pub seamed-more : (x : Fraction) (es went lower : List Active) (old new : List Contact) → 0 < length went → WasSeamed x es went old new → WasSeamed x es (went ++ lower) old new
seamed-more x es went lower old new some h = record { contact = h.contact; seam = seam-more x es went lower h.contact some h.seam; written = h.written }

-- ---- pieces that aren't written
pub forgotten-frame : (table : List Contact) (es : List Active) (i : ℕ) → AllByRecursion (λ a. i ≢ a.piece) es → slice_index_or (forgotten table es) i Never ≡ slice_index_or table i Never
forgotten-frame table [] i h = refl
forgotten-frame table (a ∷ es) i h = forgotten-frame (slice_set table a.piece Never) es i h.1 ∙ get_or-set_other table a.piece i Never Never h.0

joined-frame : (table : List Contact) (es : List Active) (cs : List Contact) (i : ℕ) → AllByRecursion (λ a. i ≢ a.piece) es → slice_index_or (joined table es cs) i Never ≡ slice_index_or table i Never
joined-frame table [] cs i h = refl
joined-frame table (a ∷ es) [] i h = refl
joined-frame table (a ∷ es) (c ∷ cs) i h = joined-frame (slice_set table a.piece c) es cs i h.1 ∙ get_or-set_other table a.piece i c Never h.0

last-frame : (table : List Contact) (es : List Active) (c : Contact) (i : ℕ) → AllByRecursion (λ a. i ≢ a.piece) es → slice_index_or (with_last table es c) i Never ≡ slice_index_or table i Never
last-frame table [] c i h = refl
last-frame table (a ∷ []) c i h = get_or-set_other table a.piece i c Never h.0
last-frame table (a ∷ b ∷ es) c i h = last-frame table (b ∷ es) c i h.1

-- ---- lengths
pub forgotten-length : (table : List Contact) (es : List Active) → length (forgotten table es) ≡ length table
forgotten-length table [] = refl
forgotten-length table (a ∷ es) = forgotten-length (slice_set table a.piece Never) es ∙ length-set table a.piece Never

joined-length : (table : List Contact) (es : List Active) (cs : List Contact) → length (joined table es cs) ≡ length table
joined-length table [] cs = refl
joined-length table (a ∷ es) [] = refl
joined-length table (a ∷ es) (c ∷ cs) = joined-length (slice_set table a.piece c) es cs ∙ length-set table a.piece c

last-length : (table : List Contact) (es : List Active) (c : Contact) → length (with_last table es c) ≡ length table
last-length table [] c = refl
last-length table (a ∷ []) c = length-set table a.piece c
last-length table (a ∷ b ∷ es) c = last-length table (b ∷ es) c

-- ---- the contacts of edges, from another table
pub contacts-same : (table table' : List Contact) (es : List Active) → AllByRecursion (λ a. contact_at table' a ≡ contact_at table a) es → contacts_of table' es ≡ contacts_of table es
contacts-same table table' [] h = refl
contacts-same table table' (a ∷ []) h = refl
contacts-same table table' (a ∷ b ∷ es) h =
    ap (λ c. c ∷ contacts_of table' (b ∷ es)) h.0 ∙ ap (λ cs. contact_at table a ∷ cs) (contacts-same table table' (b ∷ es) h.1)

seam-same : (x : Fraction) (table table' : List Contact) (es below : List Active) → AllByRecursion (λ a. contact_at table' a ≡ contact_at table a) es → IsSeamAt x table es below → IsSeamAt x table' es below
seam-same x table table' [] below h s = tt
seam-same x table table' (a ∷ []) below h s = subst (IsSeam x (a ∷ []) below) (sym h.0) s
seam-same x table table' (a ∷ b ∷ es) below h s = seam-same x table table' (b ∷ es) below h.1 s

pub met-same : (x : Fraction) (table table' : List Contact) (es below : List Active) → AllByRecursion (λ a. contact_at table' a ≡ contact_at table a) es → AreMet x table es below → AreMet x table' es below
met-same x table table' es below h m =
    record { inner = subst (AreContacts x es) (sym (contacts-same table table' es h)) m.inner; seam = seam-same x table table' es below h m.seam }

-- ---- edges, and those below them
pub met-append : (x : Fraction) (table : List Contact) (es fs below : List Active) → AreMet x table es (fs ++ below) → AreMet x table fs below → AreMet x table (es ++ fs) below
met-append x table [] fs below h k = k
met-append x table (a ∷ []) [] below h k = h
met-append x table (a ∷ []) (f ∷ fs) below h k = record { inner = (h.seam, k.inner); seam = k.seam }
met-append x table (a ∷ b ∷ es) fs below h k =
    let rest = met-append x table (b ∷ es) fs below (record { inner = h.inner.1; seam = h.seam }) k in
    record { inner = (h.inner.0, rest.inner); seam = rest.seam }

-- ---- no piece stands twice
pub distinct-second : (es fs : List Active) → AreDistinct (es ++ fs) → AreDistinct fs
distinct-second [] fs h = h
distinct-second (a ∷ es) fs h = distinct-second es fs h.1

-- edges of the first part aren't among those of the second
pub apart-front : (es fs : List Active) → AreDistinct (es ++ fs) → AllByRecursion (λ a. AllByRecursion (λ b. a.piece ≢ b.piece) fs) es
apart-front [] fs h = tt
apart-front (a ∷ es) fs h = ((each-parts (λ b. a.piece ≢ b.piece) es fs h.0).1, apart-front es fs h.1)

-- ---- edges whose contacts were written
still-in_range : (table : List Contact) (p : ℕ) (c : Contact) (es : List Active) → AllByRecursion (λ a. a.piece < length table) es → AllByRecursion (λ a. a.piece < length (slice_set table p c)) es
still-in_range table p c [] h = tt
still-in_range table p c (a ∷ es) h = (subst (λ n. a.piece < n) (sym (length-set table p c)) h.0, still-in_range table p c es h.1)

-- those of a list have its contacts
joined-inner : (table : List Contact) (es : List Active) (cs : List Contact) → AreDistinct es → AllByRecursion (λ a. a.piece < length table) es → length cs ≡ length es - 1 →
    contacts_of (joined table es cs) es ≡ cs
joined-inner table [] [] d r e = refl
joined-inner table [] (c ∷ cs) d r e = absurd (omega (arith, e))
joined-inner table (a ∷ []) [] d r e = refl
joined-inner table (a ∷ []) (c ∷ cs) d r e = absurd (omega (arith, e))
joined-inner table (a ∷ b ∷ es) [] d r e = absurd (omega (arith, e))
joined-inner table (a ∷ b ∷ es) (c ∷ cs) d r e =
    ap (λ z. z ∷ contacts_of (joined (slice_set table a.piece c) (b ∷ es) cs) (b ∷ es))
    (joined-frame (slice_set table a.piece c) (b ∷ es) cs a.piece d.0 ∙ get_or-set_same table a.piece c Never r.0)
    ∙ ap (λ zs. c ∷ zs) (joined-inner (slice_set table a.piece c) (b ∷ es) cs d.1 (still-in_range table a.piece c (b ∷ es) r.1) (omega (arith, e)))

-- where that of the last one is written, those between them stay
last-inner : (table : List Contact) (es : List Active) (c : Contact) → AreDistinct es → contacts_of (with_last table es c) es ≡ contacts_of table es
last-inner table [] c d = refl
last-inner table (a ∷ []) c d = refl
last-inner table (a ∷ b ∷ es) c d =
    ap (λ z. z ∷ contacts_of (with_last table (b ∷ es) c) (b ∷ es)) (last-frame table (b ∷ es) c a.piece d.0)
    ∙ ap (λ zs. contact_at table a ∷ zs) (last-inner table (b ∷ es) c d.1)

-- and the last one has it
last-seam : (x : Fraction) (table : List Contact) (es below : List Active) (c : Contact) → AllByRecursion (λ a. a.piece < length table) es → IsSeam x es below c → IsSeamAt x (with_last table es c) es below
last-seam x table [] below c r s = tt
last-seam x table (a ∷ []) below c r s = subst (IsSeam x (a ∷ []) below) (sym (get_or-set_same table a.piece c Never r.0)) s
last-seam x table (a ∷ b ∷ es) below c r s = last-seam x table (b ∷ es) below c r.1 s

-- ---- edges that go on were put between others
-- other pieces keep what they have
settled-frame : (x : Fraction) (upper went lower : List Active) (contacts table new : List Contact) → WereSettled x upper went lower contacts table new → (i : ℕ) →
    AllByRecursion (λ a. i ≢ a.piece) upper → AllByRecursion (λ a. i ≢ a.piece) went → slice_index_or new i Never ≡ slice_index_or table i Never
settled-frame x upper went lower contacts table new s i above here =
    ap (λ t. slice_index_or t i Never) s.upper_seam.written
    ∙ last-frame s.between upper s.upper_seam.contact i above
    ∙ ap (λ t. slice_index_or t i Never) s.lower_seam.written
    ∙ last-frame (joined table went contacts) went s.lower_seam.contact i here
    ∙ joined-frame table went contacts i here

-- so do the edges below
pub settled-below : (x : Fraction) (upper went lower : List Active) (contacts table new : List Contact) → WereSettled x upper went lower contacts table new → AreDistinct ((upper ++ went) ++ lower) →
    AllByRecursion (λ a. contact_at new a ≡ contact_at table a) lower
settled-below x upper went lower contacts table new s d = each lower (apart-each (upper ++ went) lower d)
  where
    each : (fs : List Active) → AllByRecursion (λ b. AllByRecursion (λ a. b.piece ≢ a.piece) (upper ++ went)) fs → AllByRecursion (λ a. contact_at new a ≡ contact_at table a) fs
    each [] h = tt
    each (f ∷ fs) h =
        let parts = each-parts (λ a. f.piece ≢ a.piece) upper went h.0 in
        (settled-frame x upper went lower contacts table new s f.piece parts.0 parts.1, each fs h.1)

-- the contacts of edges, where others are written
joined-others : (table : List Contact) (es : List Active) (cs : List Contact) (fs : List Active) → AllByRecursion (λ b. AllByRecursion (λ a. b.piece ≢ a.piece) es) fs →
    AllByRecursion (λ a. contact_at (joined table es cs) a ≡ contact_at table a) fs
joined-others table es cs [] h = tt
joined-others table es cs (f ∷ fs) h = (joined-frame table es cs f.piece h.0, joined-others table es cs fs h.1)

last-others : (table : List Contact) (es : List Active) (c : Contact) (fs : List Active) → AllByRecursion (λ b. AllByRecursion (λ a. b.piece ≢ a.piece) es) fs →
    AllByRecursion (λ a. contact_at (with_last table es c) a ≡ contact_at table a) fs
last-others table es c [] h = tt
last-others table es c (f ∷ fs) h = (last-frame table es c f.piece h.0, last-others table es c fs h.1)

-- what goes on has its contacts, and its seam
settled-went : (x : Fraction) (upper went lower : List Active) (contacts table new : List Contact) → WereSettled x upper went lower contacts table new → AreDistinct (upper ++ went) →
    AllByRecursion (λ a. a.piece < length table) went → length contacts ≡ length went - 1 → AreContacts x went contacts → AreMet x new went lower
settled-went x upper went lower contacts table new s d r e h =
    let first : List Contact = joined table went contacts in
    let second : List Contact = with_last first went s.lower_seam.contact in
    let third : List Contact = with_last second upper s.upper_seam.contact in
    let same : new ≡ third = s.upper_seam.written ∙ ap (λ t. with_last t upper s.upper_seam.contact) s.lower_seam.written in
    let mine : AreDistinct went = distinct-second upper went d in
    let inner : contacts_of second went ≡ contacts = last-inner first went s.lower_seam.contact mine ∙ joined-inner table went contacts mine r e in
    let met : AreMet x second went lower =
    record {
      inner = subst (AreContacts x went) (sym inner) h;
      seam = last-seam x first went lower s.lower_seam.contact (in_range went r) s.lower_seam.seam;
    } in
    subst (λ t. AreMet x t went lower) (sym same)
    (met-same x second third went lower (last-others second upper s.upper_seam.contact went (apart-each upper went d)) met)
  where
    in_range : (es : List Active) → AllByRecursion (λ a. a.piece < length table) es → AllByRecursion (λ a. a.piece < length (joined table went contacts)) es
    in_range [] h = tt
    in_range (a ∷ es) h = (subst (λ n. a.piece < n) (sym (joined-length table went contacts)) h.0, in_range es h.1)

-- the edges above keep their contacts, but for the last one, which has its seam
settled-upper : (x : Fraction) (upper went lower : List Active) (contacts table new : List Contact) → WereSettled x upper went lower contacts table new → AreDistinct (upper ++ went) →
    AllByRecursion (λ a. a.piece < length table) upper → AreContacts x upper (contacts_of table upper) → AreMet x new upper (went ++ lower)
settled-upper x upper went lower contacts table new s d r h =
    let first : List Contact = joined table went contacts in
    let second : List Contact = with_last first went s.lower_seam.contact in
    let third : List Contact = with_last second upper s.upper_seam.contact in
    let same : new ≡ third = s.upper_seam.written ∙ ap (λ t. with_last t upper s.upper_seam.contact) s.lower_seam.written in
    let front = apart-front upper went d in
    let inner : contacts_of third upper ≡ contacts_of table upper =
    last-inner second upper s.upper_seam.contact (distinct-first upper went d)
    ∙ contacts-same first second upper (last-others first went s.lower_seam.contact upper front)
    ∙ contacts-same table first upper (joined-others table went contacts upper front) in
    subst (λ t. AreMet x t upper (went ++ lower)) (sym same)
    (record {
      inner = subst (AreContacts x upper) (sym inner) h;
      seam = last-seam x second upper (went ++ lower) s.upper_seam.contact (in_range upper r) s.upper_seam.seam;
    })
  where
    in_range : (es : List Active) → AllByRecursion (λ a. a.piece < length table) es →
        AllByRecursion (λ a. a.piece < length (with_last (joined table went contacts) went s.lower_seam.contact)) es
    in_range [] h = tt
    in_range (a ∷ es) h =
        (subst (λ n. a.piece < n) (sym (last-length (joined table went contacts) went s.lower_seam.contact ∙ joined-length table went contacts)) h.0, in_range es h.1)

-- all of them
pub settled-above : (x : Fraction) (upper went lower : List Active) (contacts table new : List Contact) → WereSettled x upper went lower contacts table new → AreDistinct (upper ++ went) →
    AllByRecursion (λ a. a.piece < length table) upper → AllByRecursion (λ a. a.piece < length table) went → AreContacts x upper (contacts_of table upper) → length contacts ≡ length went - 1 →
    AreContacts x went contacts → AreMet x new (upper ++ went) lower
settled-above x upper went lower contacts table new s d r t h e k =
    met-append x new upper went lower (settled-upper x upper went lower contacts table new s d r h) (settled-went x upper went lower contacts table new s d t e k)

-- the contacts of those that go on, and of the edges above, are those that they were given and had
pub went-contacts : (x : Fraction) (upper went lower : List Active) (contacts table new : List Contact) → WereSettled x upper went lower contacts table new → AreDistinct (upper ++ went) →
    AllByRecursion (λ a. a.piece < length table) went → length contacts ≡ length went - 1 → contacts_of new went ≡ contacts
went-contacts x upper went lower contacts table new s d r e =
    let first : List Contact = joined table went contacts in
    let second : List Contact = with_last first went s.lower_seam.contact in
    let third : List Contact = with_last second upper s.upper_seam.contact in
    let same : new ≡ third = s.upper_seam.written ∙ ap (λ t. with_last t upper s.upper_seam.contact) s.lower_seam.written in
    let mine : AreDistinct went = distinct-second upper went d in
    ap (λ t. contacts_of t went) same
    ∙ contacts-same second third went (last-others second upper s.upper_seam.contact went (apart-each upper went d))
    ∙ last-inner first went s.lower_seam.contact mine
    ∙ joined-inner table went contacts mine r e

pub upper-contacts : (x : Fraction) (upper went lower : List Active) (contacts table new : List Contact) → WereSettled x upper went lower contacts table new → AreDistinct (upper ++ went) →
    contacts_of new upper ≡ contacts_of table upper
upper-contacts x upper went lower contacts table new s d =
    let first : List Contact = joined table went contacts in
    let second : List Contact = with_last first went s.lower_seam.contact in
    let third : List Contact = with_last second upper s.upper_seam.contact in
    let same : new ≡ third = s.upper_seam.written ∙ ap (λ t. with_last t upper s.upper_seam.contact) s.lower_seam.written in
    let front = apart-front upper went d in
    ap (λ t. contacts_of t upper) same
    ∙ last-inner second upper s.upper_seam.contact (distinct-first upper went d)
    ∙ contacts-same first second upper (last-others first went s.lower_seam.contact upper front)
    ∙ contacts-same table first upper (joined-others table went contacts upper front)

-- ---- pieces that are in no edge of the order
set-never : (table : List Contact) (p : ℕ) → slice_index_or (slice_set table p Never) p Never ≡ Never
set-never table p = by_size (cases_lt p (length table))
  where
    by_size : (p < length table) ⊎ (length table ≤ p) → slice_index_or (slice_set table p Never) p Never ≡ Never
    by_size (inl h) = get_or-set_same table p Never Never h
    by_size (inr h) = get_or_past (slice_set table p Never) p Never (omega (arith, h, length-set table p Never))

-- a piece that was forgotten has none, and another one isn't among the edges
forgotten-either : (table : List Contact) (es : List Active) (i : ℕ) → (slice_index_or (forgotten table es) i Never ≡ Never) ⊎ AllByRecursion (λ a. i ≢ a.piece) es
forgotten-either table [] i = inr tt
forgotten-either table (a ∷ es) i = by_rest (forgotten-either (slice_set table a.piece Never) es i) (cases_eq i a.piece)
  where
    by_rest : (slice_index_or (forgotten (slice_set table a.piece Never) es) i Never ≡ Never) ⊎ AllByRecursion (λ b. i ≢ b.piece) es → (i ≡ a.piece) ⊎ ((i ≡ a.piece) → ⊥) →
        (slice_index_or (forgotten (slice_set table a.piece Never) es) i Never ≡ Never) ⊎ AllByRecursion (λ b. i ≢ b.piece) (a ∷ es)
    by_rest (inl e) other = inl e
    by_rest (inr out) (inl e) =
        inl (forgotten-frame (slice_set table a.piece Never) es i out ∙ ap (λ j. slice_index_or (slice_set table a.piece Never) j Never) e ∙ set-never table a.piece)
    by_rest (inr out) (inr d) = inr (d, out)

pub settled-elsewhere : (x : Fraction) (upper came went lower : List Active) (contacts table new : List Contact) → WereSettled x upper went lower contacts (forgotten table came) new →
    IsNeverElsewhere table (upper ++ (came ++ lower)) → IsNeverElsewhere new ((upper ++ went) ++ lower)
settled-elsewhere x upper came went lower contacts table new s never i out =
    let parts = each-parts (λ a. i ≢ a.piece) (upper ++ went) lower out in
    let above = each-parts (λ a. i ≢ a.piece) upper went parts.0 in
    settled-frame x upper went lower contacts (forgotten table came) new s i above.0 above.1 ∙ by_either above.0 parts.1 (forgotten-either table came i)
  where
    by_either : AllByRecursion (λ a. i ≢ a.piece) upper → AllByRecursion (λ a. i ≢ a.piece) lower →
        (slice_index_or (forgotten table came) i Never ≡ Never) ⊎ AllByRecursion (λ a. i ≢ a.piece) came → slice_index_or (forgotten table came) i Never ≡ Never
    by_either u l (inl e) = e
    by_either u l (inr c) =
        forgotten-frame table came i c ∙ never i (each-join (λ a. i ≢ a.piece) upper (came ++ lower) u (each-join (λ a. i ≢ a.piece) came lower c l))
