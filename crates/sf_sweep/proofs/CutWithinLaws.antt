-- Within a column, a window further.
use Rattle.std.proofs.Common.{◌≡◌, ◌≢◌, ap, sym, ◌∙◌, subst, ℕ, ◌+◌, ◌-◌, ◌≤◌, ◌<◌, arith, Bool, List, [], ◌∷◌, ◌++◌, None, Some, length}
use Rattle.std.specs.List.{AllByRecursion}
use Rattle.std.proofs.lemmas.List.{append_assoc}
use Rattle.sf_strips.specs.declared.active.Active.{Active}
use Rattle.sf_strips.specs.declared.contact.Contact.{Contact}
use Rattle.sf_strips.specs.declared.level.Level.{Level}
use Rattle.sf_strips.specs.declared.vertex.Vertex.{Vertex}
use Rattle.sf_strips.specs.Fronts.{AreContacts, pieces_of}
use Rattle.sf_strips.proofs.ContactLaws.{contacts-few}
use Rattle.sf_cells.specs.Groups.{Item, counts, group_count}
use Rattle.sf_cells.specs.Hands.{plus}
use Rattle.sf_cells.proofs.TallyLaws.{length-added, length-counts}
use Rattle.sf_classes.specs.Classes.{odds}
use Rattle.sf_sweep.specs.Cuts.{IsCutInto, going_items, level_items}
use Rattle.sf_sweep.specs.Parities.{AreParities, parities, stored}
use Rattle.sf_sweep.specs.Passing.{IsLastApart, contact_at}
use Rattle.sf_sweep.specs.Settled.{AreMet, WereSettled, forgotten}
use Rattle.sf_sweep.specs.Tables.{bundles_of, contacts_of}
use Rattle.sf_sweep.proofs.ApartLaws.{AreOver, over-bundles, over-cut}
use Rattle.sf_sweep.proofs.BalanceLaws.{IsClosedCut, swept-window}
use Rattle.sf_sweep.proofs.GoingLaws.{each-join, onward-each}
use Rattle.sf_sweep.proofs.JoinLaws.{IsWindow, contacts-fewer, window-cut}
use Rattle.sf_sweep.proofs.LightLaws.{begun-weigh, column-once, distinct-of_light, one_at, onward-light, weigh, weigh-append, weigh_begun}
use Rattle.sf_sweep.proofs.MendLaws.{apart-each, distinct-first, kept-below}
use Rattle.sf_sweep.proofs.ParityLaws.{AreDistinct, parities-behind, parities-parts, parities-written, stored-are}
use Rattle.sf_sweep.proofs.RepairLaws.{each-parts}
use Rattle.sf_sweep.proofs.SettleLaws.{apart-front, contacts-same, distinct-second, forgotten-frame, forgotten-length, settled-above, settled-below, settled-elsewhere, upper-contacts, went-contacts}
use Rattle.sf_sweep.proofs.SweptLaws.{Swept}
use Rattle.sf_sweep.proofs.WindowLaws.{none-enters}
use Rattle.sf_sweep.proofs.WithinLaws.{Column, IsGiven, IsWithin, coming-behind, coming-same, counts-more, few-once, swept-going, within-distinct}

-- a window was cut and handed out, and what goes on was put in the place of what came
pub record WasCutAt (k : Column) (done es fs : List Active) (us ws : List Vertex) (table table' : List Contact) (odd odd' : List (List Bool)) (going : List Active) (then : List Item) : Type 0 where
  pub window : IsWindow (Some k.x) table es fs us ws
  pub apart : IsLastApart None table es
  pub levels : List Level
  pub cut : IsCutInto k.x es (contacts_of table es) us going levels
  pub closed : IsClosedCut k.groups es us going levels
  pub above : List ℕ
  pub alike : odds k.areal above ≡ odds k.areal (counts k.groups (pieces_of done))
  pub contacts : List Contact
  pub handed : then ≡ level_items k.groups above es us going levels ++ going_items k.groups above contacts going
  pub are_contacts : AreContacts k.x going contacts
  pub settled : WereSettled k.x done going fs contacts (forgotten table es) table'
  pub rows : odd' ≡ stored k.areal k.groups odd (parities k.areal (counts k.groups (pieces_of done))) going
  pub table_room : length table ≡ length k.groups
  pub odd_room : length odd ≡ length k.groups

-- edges of the second part aren't among some of the first part
pub apart-some : (es fs gs : List Active) → AllByRecursion (λ b. AllByRecursion (λ a. b.piece ≢ a.piece) (es ++ fs)) gs → AllByRecursion (λ b. AllByRecursion (λ a. b.piece ≢ a.piece) fs) gs
apart-some es fs [] h = tt
apart-some es fs (g ∷ gs) h = ((each-parts (λ a. g.piece ≢ a.piece) es fs h.0).1, apart-some es fs gs h.1)

pub apart-upper : (es fs gs : List Active) → AllByRecursion (λ b. AllByRecursion (λ a. b.piece ≢ a.piece) (es ++ fs)) gs → AllByRecursion (λ b. AllByRecursion (λ a. b.piece ≢ a.piece) es) gs
apart-upper es fs [] h = tt
apart-upper es fs (g ∷ gs) h = ((each-parts (λ a. g.piece ≢ a.piece) es fs h.0).0, apart-upper es fs gs h.1)

-- edges that aren't among those that were forgotten
not-forgotten : (table : List Contact) (es gs : List Active) → AllByRecursion (λ b. AllByRecursion (λ a. b.piece ≢ a.piece) es) gs → AllByRecursion (λ a. contact_at (forgotten table es) a ≡ contact_at table a) gs
not-forgotten table es [] h = tt
not-forgotten table es (g ∷ gs) h = (forgotten-frame table es g.piece h.0, not-forgotten table es gs h.1)

both-same : (t t' t'' : List Contact) (gs : List Active) → AllByRecursion (λ a. contact_at t'' a ≡ contact_at t' a) gs → AllByRecursion (λ a. contact_at t' a ≡ contact_at t a) gs →
    AllByRecursion (λ a. contact_at t'' a ≡ contact_at t a) gs
both-same t t' t'' [] h k = tt
both-same t t' t'' (g ∷ gs) h k = (h.0 ∙ k.0, both-same t t' t'' gs h.1 k.1)

pub in-range : (n m : ℕ) (gs : List Active) → m ≡ n → AllByRecursion (λ a. a.piece < n) gs → AllByRecursion (λ a. a.piece < m) gs
in-range n m gs e h = subst (λ l. AllByRecursion (λ a. a.piece < l) gs) (sym e) h

pub cut-within : (k : Column) (gone done es fs : List Active) (us ws : List Vertex) (table table' : List Contact) (odd odd' : List (List Bool)) (more : List Item) (going : List Active) (then : List Item) → IsGiven k →
    IsWithin k gone done (es ++ fs) (us ++ ws) table odd more → WasCutAt k done es fs us ws table table' odd odd' going then →
    IsWithin k (gone ++ es) (done ++ going) fs ws table' odd' (more ++ then)
cut-within k gone done es fs us ws table table' odd odd' more going then g h c =
    let n : ℕ = length k.groups in
    let before : AreDistinct (done ++ (es ++ fs)) = within-distinct k gone done (es ++ fs) (us ++ ws) table odd more g h in
    let light : (w : ℕ → ℕ) → weigh w ((done ++ going) ++ fs) + weigh_begun w ws ≤ weigh w k.came + weigh_begun w k.vertices =
    λ w. lighter w (h.light w) (onward-light w es us going c.levels c.cut.onward) (weigh-append w done (es ++ fs)) (weigh-append w es fs) (begun-weigh w us ws)
    (weigh-append w (done ++ going) fs) (weigh-append w done going) in
    let after : AreDistinct ((done ++ going) ++ fs) =
    distinct-of_light ((done ++ going) ++ fs) (λ i. few-once (weigh (one_at i) ((done ++ going) ++ fs)) (weigh_begun (one_at i) ws) (weigh (one_at i) k.came + weigh_begun (one_at i) k.vertices)
    (light (one_at i)) (column-once k.pieces k.x (Some k.x) k.came k.contacts k.vertices g.coming g.column i)) in
    let upper : AreDistinct (done ++ going) = distinct-first (done ++ going) fs after in
    let edges = each-parts (λ a. a.piece < n) done (es ++ fs) h.edges in
    let lower = each-parts (λ a. a.piece < n) es fs edges.1 in
    let went : AllByRecursion (λ a. a.piece < n) going = onward-each n es us going c.levels lower.0 (vertices-first n us ws h.vertices) c.cut.onward in
    let low : AllByRecursion (λ a. contact_at table' a ≡ contact_at table a) fs =
    both-same table (forgotten table es) table' fs (settled-below k.x done going fs c.contacts (forgotten table es) table' c.settled after)
    (not-forgotten table es fs (apart-each es fs (distinct-second done (es ++ fs) before))) in
    let high : AllByRecursion (λ a. contact_at (forgotten table es) a ≡ contact_at table a) done =
    not-forgotten table es done (apart-upper es fs done (apart-front done (es ++ fs) before)) in
    let size : length (forgotten table es) ≡ n = forgotten-length table es ∙ c.table_room in
    let row : List Bool = parities k.areal (counts k.groups (pieces_of done)) in
    let above : List ℕ = plus (counts k.groups []) (counts k.groups (pieces_of done)) in
    let len : length above ≡ group_count k.groups = length-added k.groups (counts k.groups []) (pieces_of done) (length-counts k.groups []) in
    let odd_is : stored k.areal k.groups odd row going ≡ odd' = sym c.rows in
    let few : length c.contacts ≡ length going - 1 = contacts-few k.x going c.contacts c.are_contacts in
    let range : AllByRecursion (λ a. a.piece < length (forgotten table es)) going = in-range n (length (forgotten table es)) going size went in
    let kept : contacts_of (forgotten table es) done ≡ contacts_of table done = contacts-same table (forgotten table es) done high in
    let met : AreMet k.x table' (done ++ going) fs =
    settled-above k.x done going fs c.contacts (forgotten table es) table' c.settled upper (in-range n (length (forgotten table es)) done size edges.0) range
    (subst (AreContacts k.x done) (sym kept) h.met.inner) few c.are_contacts in
    let over : AreOver k.x done going =
    over-cut k.pieces k.x k.came (es ++ fs) fs k.contacts (contacts_of table (es ++ fs)) (contacts_of table fs) k.vertices (us ++ ws) ws done going h.swept.levels c.levels g.coming g.column h.swept.cut
    (window-cut (Some k.x) table es fs us ws going c.levels c.window (record { tops = c.cut.tops; onward = c.cut.onward; all = c.cut.all })) (contacts-fewer table fs) in
    let bundled : bundles_of (contacts_of table done) done ++ bundles_of c.contacts going ≡ bundles_of (contacts_of table' (done ++ going)) (done ++ going) =
    sym (over-bundles k.x table' done going g.coming.place met.inner over
    ∙ ap (λ cs. bundles_of cs done ++ bundles_of (contacts_of table' going) going) (upper-contacts k.x done going fs c.contacts (forgotten table es) table' c.settled upper ∙ kept)
    ∙ ap (λ cs. bundles_of (contacts_of table done) done ++ bundles_of cs going) (went-contacts k.x done going fs c.contacts (forgotten table es) table' c.settled upper range few)) in
    record {
      split = h.split ∙ sym (append_assoc gone es fs);
      swept = subst (λ z. Swept k.areal k.groups (Some k.x) k.came fs k.contacts (contacts_of table' fs) k.vertices ws (done ++ going) z (more ++ then)) bundled
          (subst (λ cs. Swept k.areal k.groups (Some k.x) k.came fs k.contacts cs k.vertices ws (done ++ going) (bundles_of (contacts_of table done) done ++ bundles_of c.contacts going) (more ++ then)) (sym (contacts-same table table' fs low))
          (swept-window k.areal k.groups k.x k.came k.contacts k.vertices table es fs us ws done going more then c.levels c.contacts c.above h.swept c.window c.apart c.cut c.closed
          (c.alike ∙ ap (odds k.areal) (sym (swept-going k.areal k.groups (Some k.x) k.came (es ++ fs) k.contacts (contacts_of table (es ++ fs)) k.vertices (us ++ ws) done more h.swept))) c.handed));
      right = subst (λ t. AreParities k.areal k.groups t (counts k.groups []) (done ++ going)) odd_is
          (parities-behind k.areal k.groups (stored k.areal k.groups odd row going) (counts k.groups []) done going
          (parities-written k.areal k.groups odd (stored k.areal k.groups odd row going) (counts k.groups []) done
          (kept-below k.areal k.groups odd row going done (apart-front done going upper)) h.right)
          (stored-are k.areal k.groups above odd row going len went (in-range n (length odd) going c.odd_room went) (distinct-second done going upper)
          (ap (parities k.areal) (sym (none-enters k.groups (pieces_of done))))));
      old = subst (λ t. AreParities k.areal k.groups t (counts k.groups (pieces_of (gone ++ es))) fs) odd_is
          (parities-written k.areal k.groups odd (stored k.areal k.groups odd row going) (counts k.groups (pieces_of (gone ++ es))) fs
          (kept-below k.areal k.groups odd row going fs (apart-some done going fs (apart-each (done ++ going) fs after)))
          (subst (λ ns. AreParities k.areal k.groups odd ns fs) (counts-more k.groups gone es) (parities-parts k.areal k.groups odd (counts k.groups (pieces_of gone)) es fs h.old).1));
      met = met;
      coming = coming-same k.before k.x table table' fs low (coming-behind k.before k.x table es fs h.coming);
      never = settled-elsewhere k.x done es going fs c.contacts table table' c.settled h.never;
      light = light;
      edges = each-join (λ a. a.piece < n) (done ++ going) fs (each-join (λ a. a.piece < n) done going edges.0 went) lower.1;
      vertices = vertices-rest n us ws h.vertices;
    }
  where
    lighter : (w : ℕ → ℕ) → weigh w (done ++ (es ++ fs)) + weigh_begun w (us ++ ws) ≤ weigh w k.came + weigh_begun w k.vertices → weigh w going ≤ weigh w es + weigh_begun w us →
        weigh w (done ++ (es ++ fs)) ≡ weigh w done + weigh w (es ++ fs) → weigh w (es ++ fs) ≡ weigh w es + weigh w fs → weigh_begun w (us ++ ws) ≡ weigh_begun w us + weigh_begun w ws →
        weigh w ((done ++ going) ++ fs) ≡ weigh w (done ++ going) + weigh w fs → weigh w (done ++ going) ≡ weigh w done + weigh w going →
        weigh w ((done ++ going) ++ fs) + weigh_begun w ws ≤ weigh w k.came + weigh_begun w k.vertices
    lighter w a b c d e f g = omega (arith, a, b, c, d, e, f, g)

    vertices-first : (n : ℕ) (us ws : List Vertex) → AllByRecursion (λ v. v.piece < n) (us ++ ws) → AllByRecursion (λ v. v.piece < n) us
    vertices-first n [] ws h = tt
    vertices-first n (u ∷ us) ws h = (h.0, vertices-first n us ws h.1)

    vertices-rest : (n : ℕ) (us ws : List Vertex) → AllByRecursion (λ v. v.piece < n) (us ++ ws) → AllByRecursion (λ v. v.piece < n) ws
    vertices-rest n [] ws h = h
    vertices-rest n (u ∷ us) ws h = vertices-rest n us ws h.1
