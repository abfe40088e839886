-- A repair as two parts of a column: bundles that were handed out, and those below them that pass as before.
use Rattle.std.proofs.Common.{◌≡◌, ◌≢◌, refl, sym, ◌∙◌, subst, ℕ, ◌<◌, Bool, List, [], ◌∷◌, ◌++◌, None, length, map, inl, inr}
use Rattle.std.specs.Prelude.{slice_index_or}
use Rattle.std.specs.List.{AllByRecursion, fold}
use Rattle.sf_strips.specs.declared.active.Active.{Active}
use Rattle.sf_strips.specs.declared.contact.Contact.{Contact}
use Rattle.sf_strips.specs.Fronts.{pieces_of}
use Rattle.sf_cells.specs.Groups.{Item, counts, group_count}
use Rattle.sf_cells.specs.Hands.{plus}
use Rattle.sf_cells.proofs.TallyLaws.{length-added}
use Rattle.sf_sweep.specs.Parities.{AreParities, parities, row_below, stored}
use Rattle.sf_sweep.specs.Passing.{IsLastApart}
use Rattle.sf_sweep.specs.Repairs.{AgreesAt, IsRepaired}
use Rattle.sf_sweep.specs.Tables.{bundles_of, contacts_of}
use Rattle.sf_sweep.specs.Windows.{IsPartHanded, Part, bundle_stop, past}
use Rattle.sf_sweep.proofs.ParityLaws.{AreDistinct, odds-parities, parities-behind, parities-parts, parities-stay, parities-written, row-is, stored-are, stored-elsewhere}
use Rattle.sf_sweep.proofs.RepairLaws.{each-parts, past-pieces}

-- edges that pass, as a part
abbrev pub passing_part_of : List Contact → List Active → Part
passing_part_of contacts es =
    record {
      stops = map bundle_stop (bundles_of (contacts_of contacts es) es);
      coming = bundles_of (contacts_of contacts es) es;
      going = bundles_of (contacts_of contacts es) es;
    }

-- ---- no piece stands twice
pub distinct-first : (es fs : List Active) → AreDistinct (es ++ fs) → AreDistinct es
distinct-first [] fs h = tt
distinct-first (a ∷ es) fs h = ((each-parts (λ b. a.piece ≢ b.piece) es fs h.0).0, distinct-first es fs h.1)

pub apart-each : (es fs : List Active) → AreDistinct (es ++ fs) → AllByRecursion (λ b. AllByRecursion (λ a. b.piece ≢ a.piece) es) fs
apart-each [] fs h = all-none fs
  where
    all-none : (fs : List Active) → AllByRecursion (λ b. Unit {0}) fs
    all-none [] = tt
    all-none (f ∷ fs) = (tt, all-none fs)
apart-each (a ∷ es) fs h = both fs (each-parts (λ b. a.piece ≢ b.piece) es fs h.0).1 (apart-each es fs h.1)
  where
    both : (fs : List Active) → AllByRecursion (λ b. a.piece ≢ b.piece) fs → AllByRecursion (λ b. AllByRecursion (λ a. b.piece ≢ a.piece) es) fs →
        AllByRecursion (λ b. AllByRecursion (λ a. b.piece ≢ a.piece) (a ∷ es)) fs
    both [] h k = tt
    both (f ∷ fs) h k = ((λ e. h.0 (sym e), k.0), both fs h.1 k.1)

-- ---- what was stored of the edges below
pub kept-below : (areal : List Bool) (groups : List ℕ) (table : List (List Bool)) (row : List Bool) (es fs : List Active) →
    AllByRecursion (λ b. AllByRecursion (λ a. b.piece ≢ a.piece) es) fs → AllByRecursion (λ b. slice_index_or (stored areal groups table row es) b.piece [] ≡ slice_index_or table b.piece []) fs
kept-below areal groups table row es [] h = tt
kept-below areal groups table row es (f ∷ fs) h = (stored-elsewhere areal groups table row es f.piece h.0, kept-below areal groups table row es fs h.1)

-- ---- both parts
pub record IsMended {Content : Type 0} (areal : List Bool) (groups : List ℕ) (contacts : List Contact) (before above : List ℕ) (order : List Active) (table' : List (List Bool))
    (after : Content → Item → Content) (old new : Content) : Type 0 where
  pub done : List Active
  pub left : List Active
  pub all : order ≡ done ++ left
  pub apart : IsLastApart None contacts done
  pub items : List Item
  pub handed : new ≡ fold after old items
  pub first : IsPartHanded areal groups before above (passing_part_of contacts done) items
  pub second : IsPartHanded areal groups (past groups before (bundles_of (contacts_of contacts done) done)) (past groups above (bundles_of (contacts_of contacts done) done)) (passing_part_of contacts left) []
  pub parities : AreParities areal groups table' above order

pub repaired-parts : {Content : Type 0} (areal : List Bool) (groups : List ℕ) (contacts : List Contact) (order : List Active) (row : List Bool) (table table' : List (List Bool))
    (after : Content → Item → Content) (old new : Content) (before above : List ℕ) → AllByRecursion (λ a. a.piece < length groups) order → AllByRecursion (λ a. a.piece < length table) order →
    AreDistinct order → length before ≡ group_count groups → length above ≡ group_count groups → parities areal above ≡ row → AreParities areal groups table before order →
    IsRepaired areal groups contacts order row table table' after old new → IsMended areal groups contacts before above order table' after old new
repaired-parts areal groups contacts order row table table' after old new before above grouped room distinct i j e was r =
    let h = r.handed in
    let bs : List (List ℕ) = bundles_of (contacts_of contacts r.done) r.done in
    let d = subst AreDistinct h.all distinct in
    let groups_of = each-parts (λ a. a.piece < length groups) r.done r.left (subst (AllByRecursion (λ a. a.piece < length groups)) h.all grouped) in
    let rooms = each-parts (λ a. a.piece < length table) r.done r.left (subst (AllByRecursion (λ a. a.piece < length table)) h.all room) in
    let before' : List ℕ = plus before (counts groups (pieces_of r.done)) in
    let above' : List ℕ = plus above (counts groups (pieces_of r.done)) in
    let i' : length before' ≡ group_count groups = length-added groups before (pieces_of r.done) i in
    let j' : length above' ≡ group_count groups = length-added groups above (pieces_of r.done) j in
    let rest : AreParities areal groups table before' r.left = (parities-parts areal groups table before r.done r.left (subst (AreParities areal groups table before) h.all was)).1 in
    let kept = kept-below areal groups table row r.done r.left (apart-each r.done r.left d) in
    let now : AreParities areal groups table' before' r.left =
    subst (λ t. AreParities areal groups t before' r.left) (sym h.kept) (parities-written areal groups table (stored areal groups table row r.done) before' r.left kept rest) in
    let below : row_below areal groups row r.done ≡ parities areal above' = row-is areal groups above row r.done j groups_of.0 (sym e) in
    let ends = finish r.left r.agrees now below i' j' in
    record {
      done = r.done;
      left = r.left;
      all = h.all;
      apart = h.apart;
      items = h.items;
      handed = h.handed;
      first = inr (inl (record { stops = refl; going = refl }, h.represent above j e));
      second = subst (λ z. IsPartHanded areal groups z (past groups above bs) (passing_part_of contacts r.left) []) (sym (past-pieces groups before contacts r.done))
          (subst (λ z. IsPartHanded areal groups before' z (passing_part_of contacts r.left) []) (sym (past-pieces groups above contacts r.done)) ends.0);
      parities = subst (AreParities areal groups table' above) (sym h.all)
          (parities-behind areal groups table' above r.done r.left
          (subst (λ t. AreParities areal groups t above r.done) (sym h.kept) (stored-are areal groups above table row r.done j groups_of.0 rooms.0 (distinct-first r.done r.left d) (sym e))) ends.1);
    }
  where
    finish : (left : List Active) → AgreesAt table' (row_below areal groups row r.done) left → AreParities areal groups table' (plus before (counts groups (pieces_of r.done))) left →
        row_below areal groups row r.done ≡ parities areal (plus above (counts groups (pieces_of r.done))) → length (plus before (counts groups (pieces_of r.done))) ≡ group_count groups →
        length (plus above (counts groups (pieces_of r.done))) ≡ group_count groups →
        IsPartHanded areal groups (plus before (counts groups (pieces_of r.done))) (plus above (counts groups (pieces_of r.done))) (passing_part_of contacts left) []
        × AreParities areal groups table' (plus above (counts groups (pieces_of r.done))) left
    finish [] a n b i j = (inr (inl (record { stops = refl; going = refl }, record { of_cells = tt; of_items = tt })), tt)
    finish (f ∷ fs) a n b i j =
        let same : parities areal (plus above (counts groups (pieces_of r.done))) ≡ parities areal (plus before (counts groups (pieces_of r.done))) = sym b ∙ sym a ∙ n.0 in (
          inl (
            record { stops = refl; going = refl },
            odds-parities areal (plus above (counts groups (pieces_of r.done))) (plus before (counts groups (pieces_of r.done))) (j ∙ sym i) same,
            refl,
          ),
          parities-stay areal groups table' (plus before (counts groups (pieces_of r.done))) (plus above (counts groups (pieces_of r.done))) (f ∷ fs) i j same n,
        )
