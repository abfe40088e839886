-- Within a column, edges further that pass it: those below which the parities have changed were handed out.
use Rattle.std.proofs.Common.{◌≡◌, ◌≢◌, refl, ap, sym, ◌∙◌, subst, ℕ, ◌+◌, ◌≤◌, ◌<◌, Bool, true, false, List, [], ◌∷◌, ◌++◌, None, Some, Option, length}
use Rattle.std.specs.List.{AllByRecursion, fold}
use Rattle.std.proofs.lemmas.List.{append-nil, append_assoc}
use Rattle.sf_grid.specs.Fraction.{Fraction}
use Rattle.sf_strips.specs.declared.active.Active.{Active}
use Rattle.sf_strips.specs.declared.contact.Contact.{Contact}
use Rattle.sf_strips.specs.declared.contact.Contact.TheVariants.{Ahead, Never, Throughout}
use Rattle.sf_strips.specs.declared.vertex.Vertex.{Vertex}
use Rattle.sf_strips.specs.Fronts.{AreApart, AreContacts, IsContact, line_of, pieces_of, touches}
use Rattle.sf_strips.specs.Parts.{is_over}
use Rattle.sf_cells.specs.Groups.{Item, counts}
use Rattle.sf_cells.proofs.TallyLaws.{length-counts}
use Rattle.sf_sweep.specs.Parities.{AreParities, parities, stored}
use Rattle.sf_sweep.specs.Repairs.{IsRepaired}
use Rattle.sf_sweep.specs.Passing.{ArePassing, IsLastApart, contact_at, passing_levels}
use Rattle.sf_sweep.specs.Settled.{AreMet}
use Rattle.sf_sweep.specs.Tables.{IsNeverElsewhere, bundles_of, contacts_of}
use Rattle.sf_sweep.specs.Windows.{IsPartHanded, all_coming, all_going, past}
use Rattle.sf_sweep.proofs.ApartLaws.{AreOver, over-bundles, over-cut}
use Rattle.sf_sweep.proofs.CalmLaws.{IsLastAlone}
use Rattle.sf_sweep.proofs.JoinLaws.{contacts-fewer}
use Rattle.sf_sweep.proofs.LightLaws.{weigh, weigh_begun}
use Rattle.sf_sweep.proofs.CutWithinLaws.{apart-upper, in-range}
use Rattle.sf_sweep.proofs.MendLaws.{IsMended, apart-each, kept-below, passing_part_of, repaired-parts}
use Rattle.sf_sweep.proofs.PassLaws.{AreOneSloped, passing-cut}
use Rattle.sf_sweep.proofs.ParityLaws.{AreDistinct, parities-behind, parities-parts, parities-written}
use Rattle.sf_sweep.proofs.RepairLaws.{each-parts, past-pieces}
use Rattle.sf_sweep.proofs.SettleLaws.{apart-front, distinct-second, met-append}
use Rattle.sf_sweep.proofs.MendLaws.{distinct-first}
use Rattle.sf_sweep.proofs.StopLaws.{bundles-join, passed-closed}
use Rattle.sf_sweep.proofs.WindowLaws.{none-enters}
use Rattle.sf_sweep.proofs.SweptLaws.{Swept, passing-part, swept-further}
use Rattle.sf_sweep.proofs.WithinLaws.{Column, IsGiven, IsWithin, coming-behind, counts-more, sloped-behind, sloped-first, swept-coming, swept-going, within-distinct}

-- ---- what edges that pass do right of the column with the next ones
-- they are level there only where they are everywhere, so what holds left of it holds right of it
right-of : (before x : Fraction) (a b : Active) (c : Contact) → touches (Some x) c ≡ touches None c → IsContact (line_of a) (line_of b) before c →
    (touches (Some x) c ≡ false → IsContact (line_of a) (line_of b) x c) → IsContact (line_of a) (line_of b) x c
right-of before x a b Never e h k = k refl
right-of before x a b (Ahead p) e h k = k e
right-of before x a b Throughout e h k = h

-- also what the last one does with the next one, where it isn't level with that
pub passing-met : (before x : Fraction) (table : List Contact) (es fs : List Active) → ArePassing (Some x) table es → AreContacts before (es ++ fs) (contacts_of table (es ++ fs)) →
    AreApart x (es ++ fs) (contacts_of table (es ++ fs)) → IsLastAlone table (es ++ fs) → AreMet x table es fs
passing-met before x table [] fs p h k l = record { inner = refl; seam = tt }
passing-met before x table (a ∷ []) [] p h k l = record { inner = refl; seam = l }
passing-met before x table (a ∷ []) (f ∷ fs) p h k l = record { inner = refl; seam = right-of before x a f (contact_at table a) p.0 h.0 k.0 }
passing-met before x table (a ∷ b ∷ es) fs p h k l =
    let rest = passing-met before x table (b ∷ es) fs p.1 h.1 k.1 l in
    record { inner = (right-of before x a b (contact_at table a) p.0 h.0 k.0, rest.inner); seam = rest.seam }

-- ---- parts of them
passing-parts : (column : Option Fraction) (table : List Contact) (es fs : List Active) → ArePassing column table (es ++ fs) → ArePassing column table es × ArePassing column table fs
passing-parts column table [] fs h = (tt, h)
passing-parts column table (a ∷ es) fs h = let r = passing-parts column table es fs h.1 in ((h.0, r.0), r.1)

last-here : (column : Option Fraction) (table : List Contact) (es : List Active) → ArePassing column table es → IsLastApart None table es → IsLastApart column table es
last-here column table [] p h = tt
last-here column table (a ∷ []) p h = p.0 ∙ h
last-here column table (a ∷ b ∷ es) p h = last-here column table (b ∷ es) p.1 h

pub last-everywhere : (column : Option Fraction) (table : List Contact) (es : List Active) → ArePassing column table es → IsLastApart column table es → IsLastApart None table es
last-everywhere column table [] p h = tt
last-everywhere column table (a ∷ []) p h = sym p.0 ∙ h
last-everywhere column table (a ∷ b ∷ es) p h = last-everywhere column table (b ∷ es) p.1 h

last-second : (column : Option Fraction) (table : List Contact) (es fs : List Active) → IsLastApart column table (es ++ fs) → IsLastApart column table fs
last-second column table [] fs h = h
last-second column table (a ∷ []) [] h = tt
last-second column table (a ∷ []) (f ∷ fs) h = h
last-second column table (a ∷ b ∷ es) fs h = last-second column table (b ∷ es) fs h

-- ---- the edges pass
-- two parts of them, of which the first was handed out and the second passes as before
swept-two : {bs : List (List ℕ)} (areal : List Bool) (groups : List ℕ) (x : Fraction) (came : List Active) (cs : List Contact) (vs : List Vertex) (table : List Contact) (es es' fs : List Active) (ws : List Vertex) (done : List Active)
    (more items : List Item) (before above : List ℕ) → (s : Swept areal groups (Some x) came (es ++ (es' ++ fs)) cs (contacts_of table (es ++ (es' ++ fs))) vs ws done bs more) →
    past groups (counts groups []) (all_coming s.parts) ≡ before → past groups (counts groups []) (all_going s.parts) ≡ above →
    IsLastApart None table es → IsLastApart None table es' → ArePassing (Some x) table es → ArePassing (Some x) table es' → AreOneSloped table es → AreOneSloped table es' →
    AllByRecursion (λ a. is_over ws a ≡ true) es → AllByRecursion (λ a. is_over ws a ≡ true) es' →
    IsPartHanded areal groups before above (passing_part_of table es) items →
    ((t : Swept areal groups (Some x) came (es' ++ fs) cs (contacts_of table (es' ++ fs)) vs ws (done ++ es) (bs ++ bundles_of (contacts_of table es) es) (more ++ items)) →
    IsPartHanded areal groups (past groups (counts groups []) (all_coming t.parts)) (past groups (counts groups []) (all_going t.parts)) (passing_part_of table es') []) →
    Swept areal groups (Some x) came fs cs (contacts_of table fs) vs ws ((done ++ es) ++ es') ((bs ++ bundles_of (contacts_of table es) es) ++ bundles_of (contacts_of table es') es') ((more ++ items) ++ [])
swept-two areal groups x came cs vs table es es' fs ws done more items before above s eb ea l l' p p' o o' v v' first second =
    let one = swept-further areal groups (Some x) came (es ++ (es' ++ fs)) (es' ++ fs) cs (contacts_of table (es ++ (es' ++ fs))) (contacts_of table (es' ++ fs)) vs ws ws done es more items
    (passing_part_of table es) s (passing-part (Some x) table es (es' ++ fs) ws (last-here (Some x) table es p l) l p o v) (passed-closed groups (bundles_of (contacts_of table es) es))
    (subst (λ b. IsPartHanded areal groups b (past groups (counts groups []) (all_going s.parts)) (passing_part_of table es) items) (sym eb)
    (subst (λ a. IsPartHanded areal groups before a (passing_part_of table es) items) (sym ea) first)) in
    swept-further areal groups (Some x) came (es' ++ fs) fs cs (contacts_of table (es' ++ fs)) (contacts_of table fs) vs ws ws (done ++ es) es' (more ++ items) [] (passing_part_of table es') one
    (passing-part (Some x) table es' fs ws (last-here (Some x) table es' p' l') l' p' o' v') (passed-closed groups (bundles_of (contacts_of table es') es')) (second one)

-- the edges that were handed out, and those below them
mended-swept : {Content : Type 0} {goings : List (List ℕ)} (k : Column) (gone done es fs : List Active) (ws : List Vertex) (table : List Contact) (odd' : List (List Bool)) (more : List Item) (after : Content → Item → Content) (old new : Content) →
    k.came ≡ gone ++ (es ++ fs) → Swept k.areal k.groups (Some k.x) k.came (es ++ fs) k.contacts (contacts_of table (es ++ fs)) k.vertices ws done goings more →
    ArePassing (Some k.x) table es → IsLastApart None table es → AreOneSloped table es → AllByRecursion (λ a. is_over ws a ≡ true) es →
    (m : IsMended k.areal k.groups table (counts k.groups (pieces_of gone)) (counts k.groups (pieces_of done)) es odd' after old new) →
    Swept k.areal k.groups (Some k.x) k.came fs k.contacts (contacts_of table fs) k.vertices ws (done ++ es) (goings ++ bundles_of (contacts_of table es) es) (more ++ m.items)
mended-swept {goings = goings} k gone done es fs ws table odd' more after old new split s passing last sloped over m =
    let es1 : List Active = m.done in
    let es2 : List Active = m.left in
    let whole : es ++ fs ≡ es1 ++ (es2 ++ fs) = ap (λ z. z ++ fs) m.all ∙ append_assoc es1 es2 fs in
    let swept : Swept k.areal k.groups (Some k.x) k.came (es1 ++ (es2 ++ fs)) k.contacts (contacts_of table (es1 ++ (es2 ++ fs))) k.vertices ws done goings more =
    subst (λ z. Swept k.areal k.groups (Some k.x) k.came z k.contacts (contacts_of table z) k.vertices ws done goings more) whole s in
    let came : k.came ≡ gone ++ (es1 ++ (es2 ++ fs)) = split ∙ ap (λ z. gone ++ z) whole in
    let passes = passing-parts (Some k.x) table es1 es2 (subst (ArePassing (Some k.x) table) m.all passing) in
    let slopes : AreOneSloped table (es1 ++ es2) = subst (AreOneSloped table) m.all sloped in
    let overs = each-parts (λ a. is_over ws a ≡ true) es1 es2 (subst (AllByRecursion (λ a. is_over ws a ≡ true)) m.all over) in
    let bs : List (List ℕ) = bundles_of (contacts_of table es1) es1 in
    let before : past k.groups (counts k.groups (pieces_of gone)) bs ≡ counts k.groups (pieces_of (gone ++ es1)) =
    past-pieces k.groups (counts k.groups (pieces_of gone)) table es1 ∙ counts-more k.groups gone es1 in
    let above : past k.groups (counts k.groups (pieces_of done)) bs ≡ counts k.groups (pieces_of (done ++ es1)) =
    past-pieces k.groups (counts k.groups (pieces_of done)) table es1 ∙ counts-more k.groups done es1 in
    let two =
    swept-two k.areal k.groups k.x k.came k.contacts k.vertices table es1 es2 fs ws done more m.items (counts k.groups (pieces_of gone)) (counts k.groups (pieces_of done)) swept
    (swept-coming k.areal k.groups (Some k.x) k.came gone (es1 ++ (es2 ++ fs)) k.contacts (contacts_of table (es1 ++ (es2 ++ fs))) k.vertices ws done more came swept)
    (swept-going k.areal k.groups (Some k.x) k.came (es1 ++ (es2 ++ fs)) k.contacts (contacts_of table (es1 ++ (es2 ++ fs))) k.vertices ws done more swept)
    m.apart (last-second None table es1 es2 (subst (IsLastApart None table) m.all last)) passes.0 passes.1 (sloped-first table es1 es2 slopes) (sloped-behind table es1 es2 slopes)
    overs.0 overs.1 m.first
    (λ t. subst (λ b. IsPartHanded k.areal k.groups b (past k.groups (counts k.groups []) (all_going t.parts)) (passing_part_of table es2) [])
    (before
    ∙ sym (swept-coming k.areal k.groups (Some k.x) k.came (gone ++ es1) (es2 ++ fs) k.contacts (contacts_of table (es2 ++ fs)) k.vertices ws (done ++ es1) (more ++ m.items)
    (came ∙ sym (append_assoc gone es1 (es2 ++ fs))) t))
    (subst (λ a. IsPartHanded k.areal k.groups (past k.groups (counts k.groups (pieces_of gone)) bs) a (passing_part_of table es2) [])
    (above
    ∙ sym (swept-going k.areal k.groups (Some k.x) k.came (es2 ++ fs) k.contacts (contacts_of table (es2 ++ fs)) k.vertices ws (done ++ es1) (more ++ m.items) t))
    m.second)) in
    let first : List (List ℕ) = bundles_of (contacts_of table es1) es1 in
    let second : List (List ℕ) = bundles_of (contacts_of table es2) es2 in
    subst (λ z. Swept k.areal k.groups (Some k.x) k.came fs k.contacts (contacts_of table fs) k.vertices ws (done ++ z) (goings ++ bundles_of (contacts_of table z) z) (more ++ m.items)) (sym m.all)
    (subst (λ z. Swept k.areal k.groups (Some k.x) k.came fs k.contacts (contacts_of table fs) k.vertices ws (done ++ (es1 ++ es2)) z (more ++ m.items)) (append_assoc goings first second ∙ ap (λ z. goings ++ z) (sym (bundles-join table es1 es2 m.apart)))
    (subst (λ z. Swept k.areal k.groups (Some k.x) k.came fs k.contacts (contacts_of table fs) k.vertices ws z ((goings ++ first) ++ second) (more ++ m.items)) (append_assoc done es1 es2)
    (subst (Swept k.areal k.groups (Some k.x) k.came fs k.contacts (contacts_of table fs) k.vertices ws ((done ++ es1) ++ es2) ((goings ++ first) ++ second)) (append-nil (more ++ m.items)) two)))

-- ---- edges further
-- what was handed out for them
pub record ArePassed {Content : Type 0} (k : Column) (gone done es fs : List Active) (ws : List Vertex) (table : List Contact) (odd' : List (List Bool)) (more : List Item)
    (after : Content → Item → Content) (old new : Content) : Type 0 where
  pub then : List Item
  pub handed : new ≡ fold after old then
  pub within : IsWithin k (gone ++ es) (done ++ es) fs ws table odd' (more ++ then)

pub pass-within : {Content : Type 0} (k : Column) (gone done es fs : List Active) (ws : List Vertex) (table : List Contact) (odd odd' : List (List Bool)) (more : List Item) (after : Content → Item → Content) (old new : Content) →
    IsGiven k → IsWithin k gone done (es ++ fs) ws table odd more → length odd ≡ length k.groups → ArePassing (Some k.x) table es → IsLastApart (Some k.x) table es →
    AllByRecursion (λ a. is_over ws a ≡ true) es →
    IsRepaired k.areal k.groups table es (parities k.areal (counts k.groups (pieces_of done))) odd odd' after old new → ArePassed k gone done es fs ws table odd' more after old new
pass-within k gone done es fs ws table odd odd' more after old new g h room passing last over r =
    let n : ℕ = length k.groups in
    let row : List Bool = parities k.areal (counts k.groups (pieces_of done)) in
    let distinct : AreDistinct (done ++ (es ++ fs)) = within-distinct k gone done (es ++ fs) ws table odd more g h in
    let lower : AreDistinct (es ++ fs) = distinct-second done (es ++ fs) distinct in
    let edges = each-parts (λ a. a.piece < n) done (es ++ fs) h.edges in
    let parts = each-parts (λ a. a.piece < n) es fs edges.1 in
    let rows = parities-parts k.areal k.groups odd (counts k.groups (pieces_of gone)) es fs h.old in
    let m = repaired-parts k.areal k.groups table es row odd odd' after old new (counts k.groups (pieces_of gone)) (counts k.groups (pieces_of done)) parts.0 (in-range n (length odd) es room parts.0)
    (distinct-first es fs lower) (length-counts k.groups (pieces_of gone)) (length-counts k.groups (pieces_of done)) refl rows.0 r in
    let stored_is : stored k.areal k.groups odd row r.done ≡ odd' = sym r.handed.kept in
    let met : AreMet k.x table (done ++ es) fs = met-append k.x table done es fs h.met (passing-met k.before k.x table es fs passing h.coming.contacts h.coming.apart h.coming.alone) in
    let slopes : AreOneSloped table es = sloped-first table es fs h.coming.sloped in
    let above : AreOver k.x done es =
    over-cut k.pieces k.x k.came (es ++ fs) fs k.contacts (contacts_of table (es ++ fs)) (contacts_of table fs) k.vertices ws ws done es h.swept.levels (passing_levels table es) g.coming g.column h.swept.cut
    (passing-cut (Some k.x) table es fs ws last passing slopes over) (contacts-fewer table fs) in
    record {
      then = m.items;
      handed = m.handed;
      within = record {
        split = h.split ∙ sym (append_assoc gone es fs);
        swept = subst (λ z. Swept k.areal k.groups (Some k.x) k.came fs k.contacts (contacts_of table fs) k.vertices ws (done ++ es) z (more ++ m.items))
            (sym (over-bundles k.x table done es g.coming.place met.inner above))
            (mended-swept k gone done es fs ws table odd' more after old new h.split h.swept passing (last-everywhere (Some k.x) table es passing last) slopes over m);
        right = parities-behind k.areal k.groups odd' (counts k.groups []) done es
            (subst (λ t. AreParities k.areal k.groups t (counts k.groups []) done) stored_is
            (parities-written k.areal k.groups odd (stored k.areal k.groups odd row r.done) (counts k.groups []) done
            (kept-below k.areal k.groups odd row r.done done
            (apart-upper r.done r.left done (subst (λ z. AllByRecursion (λ b. AllByRecursion (λ a. b.piece ≢ a.piece) z) done) r.handed.all
            (apart-upper es fs done (apart-front done (es ++ fs) distinct))))) h.right))
            (subst (λ ns. AreParities k.areal k.groups odd' ns es) (sym (none-enters k.groups (pieces_of done))) m.parities);
        old = subst (λ t. AreParities k.areal k.groups t (counts k.groups (pieces_of (gone ++ es))) fs) stored_is
            (parities-written k.areal k.groups odd (stored k.areal k.groups odd row r.done) (counts k.groups (pieces_of (gone ++ es))) fs
            (kept-below k.areal k.groups odd row r.done fs
            (apart-upper r.done r.left fs (subst (λ z. AllByRecursion (λ b. AllByRecursion (λ a. b.piece ≢ a.piece) z) fs) r.handed.all (apart-each es fs lower))))
            (subst (λ ns. AreParities k.areal k.groups odd ns fs) (counts-more k.groups gone es) rows.1));
        met = met;
        coming = coming-behind k.before k.x table es fs h.coming;
        never = subst (IsNeverElsewhere table) (sym (append_assoc done es fs)) h.never;
        light = λ w. subst (λ z. weigh w z + weigh_begun w ws ≤ weigh w k.came + weigh_begun w k.vertices) (sym (append_assoc done es fs)) (h.light w);
        edges = subst (AllByRecursion (λ a. a.piece < n)) (sym (append_assoc done es fs)) h.edges;
        vertices = h.vertices;
      };
    }
