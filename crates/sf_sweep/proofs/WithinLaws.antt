-- Within a column: what holds of the edges above a place, which were dealt with, and of those below it, which are as they came.
use Rattle.std.proofs.Common.{◌≡◌, refl, ap, sym, ◌∙◌, subst, ℕ, ◌+◌, ◌≤◌, arith, Bool, List, [], ◌∷◌, ◌++◌, None, Some, Option}
use Rattle.std.specs.List.{AllByRecursion}
use Rattle.std.proofs.lemmas.List.{append_assoc, append_cancel_right, map-append}
use Rattle.sf_grid.specs.Fraction.{Fraction}
use Rattle.sf_strips.specs.declared.active.Active.{Active}
use Rattle.sf_strips.specs.declared.contact.Contact.{Contact}
use Rattle.sf_strips.specs.declared.vertex.Vertex.{Vertex}
use Rattle.sf_strips.specs.Fronts.{AreApart, AreContacts, pieces_of, touches}
use Rattle.sf_cells.specs.Groups.{Item, counts}
use Rattle.sf_cells.specs.Hands.{plus}
use Rattle.sf_cells.proofs.TallyLaws.{add_both}
use Rattle.sf_slabs.specs.Sweeps.{StepsAt}
use Rattle.sf_sweep.specs.Passing.{contact_at}
use Rattle.sf_sweep.specs.Tables.{bundles_of, contacts_of}
use Rattle.sf_sweep.specs.Windows.{all_coming, all_going, past}
use Rattle.sf_sweep.proofs.CalmLaws.{IsLastAlone}
use Rattle.sf_sweep.proofs.LightLaws.{column-once, distinct-of_light, one_at, weigh, weigh_begun}
use Rattle.sf_sweep.proofs.ParityLaws.{AreDistinct}
use Rattle.sf_sweep.proofs.PassLaws.{AreOneSloped}
use Rattle.sf_sweep.proofs.SettleLaws.{contacts-same}
use Rattle.sf_sweep.proofs.StopLaws.{all_pieces, bundles-pieces, past-plus}
use Rattle.sf_sweep.proofs.SweptLaws.{Swept}
use Rattle.sf_sweep.proofs.WindowLaws.{none-enters}
use Rattle.sf_sweep.specs.Within.{IsNotLeft}
use Rattle.sf_sweep.proofs.RepairLaws.{each-parts}
pub use Rattle.sf_sweep.specs.Within.{AreComing, Column, IsGiven, IsWithin}

-- ---- of edges, what holds of those below the first ones
pub contacts-behind : (x : Fraction) (table : List Contact) (es fs : List Active) → AreContacts x (es ++ fs) (contacts_of table (es ++ fs)) → AreContacts x fs (contacts_of table fs)
contacts-behind x table [] fs h = h
contacts-behind x table (a ∷ []) [] h = refl
contacts-behind x table (a ∷ []) (f ∷ fs) h = h.1
contacts-behind x table (a ∷ b ∷ es) fs h = contacts-behind x table (b ∷ es) fs h.1

pub apart-behind : (x : Fraction) (table : List Contact) (es fs : List Active) → AreApart x (es ++ fs) (contacts_of table (es ++ fs)) → AreApart x fs (contacts_of table fs)
apart-behind x table [] fs h = h
apart-behind x table (a ∷ []) [] h = refl
apart-behind x table (a ∷ []) (f ∷ fs) h = h.1
apart-behind x table (a ∷ b ∷ es) fs h = apart-behind x table (b ∷ es) fs h.1

pub steps-behind : (x : Fraction) (column : Option Fraction) (table : List Contact) (es fs : List Active) → StepsAt x column (es ++ fs) (contacts_of table (es ++ fs)) → StepsAt x column fs (contacts_of table fs)
steps-behind x column table [] fs h = h
steps-behind x column table (a ∷ []) [] h = refl
steps-behind x column table (a ∷ []) (f ∷ fs) h = h.1
steps-behind x column table (a ∷ b ∷ es) fs h = steps-behind x column table (b ∷ es) fs h.1

pub sloped-behind : (table : List Contact) (es fs : List Active) → AreOneSloped table (es ++ fs) → AreOneSloped table fs
sloped-behind table [] fs h = h
sloped-behind table (a ∷ []) [] h = tt
sloped-behind table (a ∷ []) (f ∷ fs) h = h.1
sloped-behind table (a ∷ b ∷ es) fs h = sloped-behind table (b ∷ es) fs h.1

pub alone-behind : (table : List Contact) (es fs : List Active) → IsLastAlone table (es ++ fs) → IsLastAlone table fs
alone-behind table [] fs h = h
alone-behind table (a ∷ []) [] h = tt
alone-behind table (a ∷ []) (f ∷ fs) h = h
alone-behind table (a ∷ b ∷ es) fs h = alone-behind table (b ∷ es) fs h

-- and of the first ones
pub apart-first : (x : Fraction) (table : List Contact) (es fs : List Active) → AreApart x (es ++ fs) (contacts_of table (es ++ fs)) → AreApart x es (contacts_of table es)
apart-first x table [] fs h = refl
apart-first x table (a ∷ []) fs h = refl
apart-first x table (a ∷ b ∷ es) fs h = (h.0, apart-first x table (b ∷ es) fs h.1)

pub sloped-first : (table : List Contact) (es fs : List Active) → AreOneSloped table (es ++ fs) → AreOneSloped table es
sloped-first table [] fs h = tt
sloped-first table (a ∷ []) fs h = tt
sloped-first table (a ∷ b ∷ es) fs h = (h.0, sloped-first table (b ∷ es) fs h.1)

-- the same contacts in another table
sloped-same : (table table' : List Contact) (es : List Active) → AllByRecursion (λ a. contact_at table' a ≡ contact_at table a) es → AreOneSloped table es → AreOneSloped table' es
sloped-same table table' [] e h = tt
sloped-same table table' (a ∷ []) e h = tt
sloped-same table table' (a ∷ b ∷ es) e h = (λ t. h.0 (ap (touches None) (sym e.0) ∙ t), sloped-same table table' (b ∷ es) e.1 h.1)

alone-same : (table table' : List Contact) (es : List Active) → AllByRecursion (λ a. contact_at table' a ≡ contact_at table a) es → IsLastAlone table es → IsLastAlone table' es
alone-same table table' [] e h = tt
alone-same table table' (a ∷ []) e h = e.0 ∙ h
alone-same table table' (a ∷ b ∷ es) e h = alone-same table table' (b ∷ es) e.1 h

pub coming-behind : (before x : Fraction) (table : List Contact) (es fs : List Active) → AreComing before x table (es ++ fs) → AreComing before x table fs
coming-behind before x table es fs h =
    record {
      contacts = contacts-behind before table es fs h.contacts;
      alone = alone-behind table es fs h.alone;
      sloped = sloped-behind table es fs h.sloped;
      steps = steps-behind x (Some x) table es fs h.steps;
      apart = apart-behind x table es fs h.apart;
      ahead = (each-parts (λ a. IsNotLeft x (contact_at table a)) es fs h.ahead).1;
    }

pub coming-same : (before x : Fraction) (table table' : List Contact) (es : List Active) → AllByRecursion (λ a. contact_at table' a ≡ contact_at table a) es → AreComing before x table es → AreComing before x table' es
coming-same before x table table' es e h =
    let same = sym (contacts-same table table' es e) in
    record {
      contacts = subst (AreContacts before es) same h.contacts;
      alone = alone-same table table' es e h.alone;
      sloped = sloped-same table table' es e h.sloped;
      steps = subst (StepsAt x (Some x) es) same h.steps;
      apart = subst (AreApart x es) same h.apart;
      ahead = ahead-same es e h.ahead;
    }
  where
    ahead-same : (es : List Active) → AllByRecursion (λ a. contact_at table' a ≡ contact_at table a) es → AllByRecursion (λ a. IsNotLeft x (contact_at table a)) es →
        AllByRecursion (λ a. IsNotLeft x (contact_at table' a)) es
    ahead-same [] e h = tt
    ahead-same (a ∷ es) e h = (subst (IsNotLeft x) (sym e.0) h.0, ahead-same es e.1 h.1)

-- ---- what is above the place
pub counts-more : (groups : List ℕ) (es fs : List Active) → plus (counts groups (pieces_of es)) (counts groups (pieces_of fs)) ≡ counts groups (pieces_of (es ++ fs))
counts-more groups es fs =
    ap (λ ns. plus ns (counts groups (pieces_of fs))) (sym (none-enters groups (pieces_of es)))
    ∙ add_both groups (counts groups []) (pieces_of es) (pieces_of fs)
    ∙ none-enters groups (pieces_of es ++ pieces_of fs)
    ∙ ap (counts groups) (sym (map-append (λ e. e.piece) es fs))

past-counts : (groups : List ℕ) (bs : List (List ℕ)) → past groups (counts groups []) bs ≡ counts groups (all_pieces bs)
past-counts groups bs = past-plus groups (counts groups []) bs ∙ none-enters groups (all_pieces bs)

-- what goes on of it
pub swept-going : {bs : List (List ℕ)} (areal : List Bool) (groups : List ℕ) (column : Option Fraction) (came rest : List Active) (cs cs' : List Contact) (vs ws : List Vertex) (done : List Active) (more : List Item) →
    (s : Swept areal groups column came rest cs cs' vs ws done bs more) → past groups (counts groups []) (all_going s.parts) ≡ counts groups (pieces_of done)
swept-going areal groups column came rest cs cs' vs ws done more s = past-counts groups (all_going s.parts) ∙ ap (counts groups) s.going

-- what came
pieces-join : (bs cs : List (List ℕ)) → all_pieces (bs ++ cs) ≡ all_pieces bs ++ all_pieces cs
pieces-join [] cs = refl
pieces-join (b ∷ bs) cs = ap (λ ns. b ++ ns) (pieces-join bs cs) ∙ sym (append_assoc b (all_pieces bs) (all_pieces cs))

pub swept-coming : {bs : List (List ℕ)} (areal : List Bool) (groups : List ℕ) (column : Option Fraction) (came gone rest : List Active) (cs cs' : List Contact) (vs ws : List Vertex) (done : List Active) (more : List Item) →
    came ≡ gone ++ rest → (s : Swept areal groups column came rest cs cs' vs ws done bs more) → past groups (counts groups []) (all_coming s.parts) ≡ counts groups (pieces_of gone)
swept-coming areal groups column came gone rest cs cs' vs ws done more split s =
    past-counts groups (all_coming s.parts)
    ∙ ap (counts groups) (append_cancel_right (all_pieces (all_coming s.parts)) (pieces_of gone) (pieces_of rest)
    (ap (λ ns. all_pieces (all_coming s.parts) ++ ns) (sym (bundles-pieces cs' rest))
    ∙ sym (pieces-join (all_coming s.parts) (bundles_of cs' rest))
    ∙ ap all_pieces s.coming
    ∙ bundles-pieces cs came
    ∙ ap pieces_of split
    ∙ map-append (λ e. e.piece) gone rest))

-- ---- no piece stands twice
pub few-once : (a b t : ℕ) → a + b ≤ t → t ≤ 1 → a ≤ 1
few-once a b t h k = omega (arith, h, k)

pub within-distinct : (k : Column) (gone done rest : List Active) (ws : List Vertex) (table : List Contact) (odd : List (List Bool)) (more : List Item) → IsGiven k →
    IsWithin k gone done rest ws table odd more → AreDistinct (done ++ rest)
within-distinct k gone done rest ws table odd more g h =
    distinct-of_light (done ++ rest) (λ i. few-once (weigh (one_at i) (done ++ rest)) (weigh_begun (one_at i) ws) (weigh (one_at i) k.came + weigh_begun (one_at i) k.vertices) (h.light (one_at i))
    (column-once k.pieces k.x (Some k.x) k.came k.contacts k.vertices g.coming g.column i))
