-- The contacts of edges with their neighbours: of more edges behind others, and of a part of them.
use Rattle.std.proofs.Common.{◌≡◌, refl, ap, sym, subst, ℕ, zero, suc, ◌-◌, ◌≤◌, ◌<◌, arith, List, [], ◌∷◌, ◌++◌, drop, length, slice_index_or}
use Rattle.sf_grid.specs.Fraction.{Fraction}
use Rattle.sf_strips.specs.declared.active.Active.{Active}
use Rattle.sf_strips.specs.declared.contact.Contact.{Contact}
use Rattle.sf_strips.specs.Fronts.{AreApart, AreApartFrom, AreContacts, AreContactsFrom, IsContact, line_of}

-- ---- how many there are
-- one for each edge behind the first
contacts_from-few : (x : Fraction) (a : Active) (bs : List Active) (cs : List Contact) → AreContactsFrom x a bs cs → length cs ≡ length bs
contacts_from-few x a [] cs h = ap length h
contacts_from-few x a (b ∷ bs) [] h = absurd h
contacts_from-few x a (b ∷ bs) (c ∷ cs) h = let k = contacts_from-few x b bs cs h.1 in omega arith

-- one less than there are edges
pub contacts-few : (x : Fraction) (es : List Active) (cs : List Contact) → AreContacts x es cs → length cs ≡ length es - 1
contacts-few x [] cs h = ap length h
contacts-few x (a ∷ es) cs h = let k = contacts_from-few x a es cs h in omega arith

-- one for each edge behind the first, where only those that don't touch hold
apart_from-few : (x : Fraction) (a : Active) (bs : List Active) (cs : List Contact) → AreApartFrom x a bs cs → length cs ≡ length bs
apart_from-few x a [] cs h = ap length h
apart_from-few x a (b ∷ bs) [] h = absurd h
apart_from-few x a (b ∷ bs) (c ∷ cs) h = let k = apart_from-few x b bs cs h.1 in omega arith

-- one less than there are edges, where only those that don't touch hold
pub apart-few : (x : Fraction) (es : List Active) (cs : List Contact) → AreApart x es cs → length cs ≡ length es - 1
apart-few x [] cs h = ap length h
apart-few x (a ∷ es) cs h = let k = apart_from-few x a es cs h in omega arith

-- so there are no more
pub apart-at_most : (x : Fraction) (es : List Active) (cs : List Contact) → AreApart x es cs → length cs ≤ length es - 1
apart-at_most x es cs h = omega (arith, apart-few x es cs h)

-- ---- one more edge behind others
-- an edge behind others that begin with z, and its contact with the last one
last_from : (x : Fraction) (z : Active) (es : List Active) (cs : List Contact) (a d b : Active) (c : Contact) → AreContactsFrom x z es cs →
    slice_index_or (z ∷ es) (length es) d ≡ a → IsContact (line_of a) (line_of b) x c → AreContactsFrom x z (es ++ b ∷ []) (cs ++ c ∷ [])
last_from x z [] [] a d b c h e k = (subst (λ f. IsContact (line_of f) (line_of b) x c) (sym e) k, refl)
last_from x z [] (_ ∷ _) a d b c h e k = cc
last_from x z (_ ∷ _) [] a d b c h e k = absurd h
last_from x z (y ∷ es) (g ∷ cs) a d b c h e k = (h.0, last_from x y es cs a d b c h.1 e k)

-- an edge, and its contact with the last one
pub contacts-one_more : (x : Fraction) (es es' : List Active) (cs cs' : List Contact) (a d b : Active) (c : Contact) → AreContacts x es cs →
    0 < length es → slice_index_or es (length es - 1) d ≡ a → IsContact (line_of a) (line_of b) x c →
    es' ≡ es ++ b ∷ [] → cs' ≡ cs ++ c ∷ [] → AreContacts x es' cs'
contacts-one_more x [] es' cs cs' a d b c h l e k f g = absurd (omega arith)
contacts-one_more x (z ∷ es) es' cs cs' a d b c h l e k f g =
    subst (λ es. AreContacts x es cs') (sym f) (subst (λ cs. AreContacts x (z ∷ (es ++ b ∷ [])) cs) (sym g)
    (last_from x z es cs a d b c h (subst (λ i. slice_index_or (z ∷ es) i d ≡ a) (last_place (length es)) e) k))
  where
    last_place : (n : ℕ) → suc n - 1 ≡ n
    last_place n = omega arith

-- the first edge has no contact
pub contacts-first : (x : Fraction) (es es' : List Active) (cs : List Contact) (b : Active) → AreContacts x es cs →
    length es ≡ 0 → es' ≡ es ++ b ∷ [] → AreContacts x es' cs
contacts-first x [] es' cs b h l f = subst (λ es. AreContacts x es cs) (sym f) h
contacts-first x (_ ∷ _) es' cs b h l f = absurd (omega arith)

-- ---- more edges behind others, with the contacts that they have
-- edges behind a, which is the last of others that begin with z
join_from : (x : Fraction) (z : Active) (es : List Active) (cs : List Contact) (a : Active) (bs : List Active) (ds : List Contact) →
    AreContactsFrom x z (es ++ a ∷ []) cs → AreContactsFrom x a bs ds → AreContactsFrom x z ((es ++ a ∷ []) ++ bs) (cs ++ ds)
join_from x z [] [] a bs ds h k = absurd h
join_from x z [] (c ∷ []) a bs ds h k = (h.0, k)
join_from x z [] (c ∷ (_ ∷ _)) a bs ds h k = let e = h.1 in cc
join_from x z (y ∷ es) [] a bs ds h k = absurd h
join_from x z (y ∷ es) (c ∷ cs) a bs ds h k = (h.0, join_from x y es cs a bs ds h.1 k)

-- edges behind a, which is the last of others
joined : (x : Fraction) (es : List Active) (cs : List Contact) (a : Active) (bs : List Active) (ds : List Contact) →
    AreContacts x (es ++ a ∷ []) cs → AreContacts x (a ∷ bs) ds → AreContacts x ((es ++ a ∷ []) ++ bs) (cs ++ ds)
joined x [] [] a bs ds h k = k
joined x [] (_ ∷ _) a bs ds h k = cc
joined x (z ∷ es) cs a bs ds h k = join_from x z es cs a bs ds h k

-- edges behind others, of which the first one has its contact already
pub contacts-joined : (x : Fraction) (old one all : List Active) (cs ds all_cs : List Contact) (a : Active) (run bs : List Active) → AreContacts x one cs →
    AreContacts x run ds → one ≡ old ++ a ∷ [] → run ≡ a ∷ bs → all ≡ one ++ bs → all_cs ≡ cs ++ ds → AreContacts x all all_cs
contacts-joined x old one all cs ds all_cs a run bs h k e f g i =
    subst (λ es. AreContacts x es all_cs) (sym g)
    (subst (λ cs. AreContacts x (one ++ bs) cs) (sym i)
    (subst (λ es. AreContacts x (es ++ bs) (cs ++ ds)) (sym e)
    (joined x old cs a bs ds (subst (λ es. AreContacts x es cs) e h) (subst (λ es. AreContacts x es ds) f k))))

-- ---- what is left behind some edges
-- what is left behind an edge and n others
apart_from-drop : (x : Fraction) (n : ℕ) (a : Active) (es : List Active) (cs : List Contact) → AreApartFrom x a es cs → AreApart x (drop n es) (drop (suc n) cs)
apart_from-drop x zero a [] cs h = subst (λ ds. drop 1 ds ≡ []) (sym h) refl
apart_from-drop x zero a (b ∷ es) [] h = absurd h
apart_from-drop x zero a (b ∷ es) (c ∷ cs) h = h.1
apart_from-drop x (suc n) a [] cs h = subst (λ ds. drop (suc (suc n)) ds ≡ []) (sym h) refl
apart_from-drop x (suc n) a (b ∷ es) [] h = absurd h
apart_from-drop x (suc n) a (b ∷ es) (c ∷ cs) h = apart_from-drop x n b es cs h.1

-- what is left behind n edges
drop_apart : (x : Fraction) (n : ℕ) (es : List Active) (cs : List Contact) → AreApart x es cs → AreApart x (drop n es) (drop n cs)
drop_apart x zero es cs h = h
drop_apart x (suc n) [] cs h = subst (λ ds. drop (suc n) ds ≡ []) (sym h) refl
drop_apart x (suc n) (a ∷ es) cs h = apart_from-drop x n a es cs h

-- where some edges are taken off with their contacts, the others are apart as they were
pub apart-drop : (x : Fraction) (n : ℕ) (es es' : List Active) (cs cs' : List Contact) → AreApart x es cs → es' ≡ drop n es → cs' ≡ drop n cs → AreApart x es' cs'
apart-drop x n es es' cs cs' h e f =
    subst (λ es. AreApart x es cs') (sym e) (subst (λ cs. AreApart x (drop n es) cs) (sym f) (drop_apart x n es cs h))
