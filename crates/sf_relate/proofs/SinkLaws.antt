-- What a sink has in the end holds of what all items find, and is enough.
use Rattle.std.proofs.Common.{◌≡◌, refl, ap, sym, ◌∙◌, subst, Bool, true, false, ◌&&◌, List, [], ◌∷◌, fold, length, get_or}
use Rattle.std.specs.Prelude.{IsTrue, slice_index_or, if◌then◌else◌}
use Rattle.std.proofs.lemmas.Bool.{and_parts, both_ways}
use Rattle.sf_cells.specs.Groups.{Item}
use Rattle.sf_plane.specs.declared.dim.Dim.{Dim}
use Rattle.sf_plane.specs.declared.dim.Dim.TheVariants.{Nothing}
use Rattle.sf_plane.specs.Unions.{dim_of, greater_dim}
use Rattle.sf_known.proofs.KnownLaws.{settled_is_enough}
use Rattle.sf_known.proofs.NineLaws.{nine-listed}
use Rattle.sf_known.proofs.OrderLaws.{greater-twice, greater-same, same-at-most, through-lists}
use Rattle.sf_known.specs.declared.aim.Aim.{Aim}
use Rattle.sf_known.specs.declared.known.Known.{Known}
use Rattle.sf_known.specs.Entries.{exceeds}
use Rattle.sf_known.specs.Known.{AreAtMost, Holds, IsAtMost, KnowsAsMuch, is_enough, settled}
use Rattle.sf_known.specs.Patterns.{has_contact}
use Rattle.sf_relate.specs.declared.place.Place.{Place}
use Rattle.sf_relate.specs.declared.place.Place.TheVariants.{Interior, Boundary, Exterior}
use Rattle.sf_relate.specs.declared.shape.Shape.{Shape}
use Rattle.sf_relate.specs.Places.{Gathered, entry_place, first_place, found_by, is_place, second_place, with_cell, with_item}
use Rattle.sf_relate.proofs.FoldLaws.{Table, cons, fold-listed, greatest_at, listed, raised-listed, with_dim}

-- ---- entries over pairs of places that grow
pub grown-listed : (t u : Table) → AreAtMost (listed t) (listed (λ p q. greater_dim (t p q) (u p q)))
grown-listed t u =
    let at : (p q : Place) → IsAtMost (t p q) (greater_dim (t p q) (u p q)) = λ p q. greater-twice (t p q) (u p q) in
    (at Interior Interior, (at Interior Boundary, (at Interior Exterior, (at Boundary Interior, (at Boundary Boundary, (at Boundary Exterior, (at Exterior Interior, (at Exterior Boundary, (at Exterior Exterior, refl)))))))))

grown-with : (t : Table) (p q : Place) (d : Dim) → AreAtMost (listed t) (listed (with_dim t p q d))
grown-with t p q d =
    let at : (r s : Place) → IsAtMost (t r s) (with_dim t p q d r s) = λ r s. by_test (is_place r p && is_place s q) (t r s) in
    (at Interior Interior, (at Interior Boundary, (at Interior Exterior, (at Boundary Interior, (at Boundary Boundary, (at Boundary Exterior, (at Exterior Interior, (at Exterior Boundary, (at Exterior Exterior, refl)))))))))
  where
    by_test : (c : Bool) (x : Dim) → IsAtMost x (if c then greater_dim x d else x)
    by_test true x = greater-twice x d
    by_test false x = greater-same x

-- what has grown from entries that are at most these are these
pub grown-to : (t u : Table) → AreAtMost (listed t) (listed u) → listed (λ p q. greater_dim (t p q) (u p q)) ≡ listed u
grown-to t u g =
    cons _ _ _ _ g.0 (cons _ _ _ _ g.1.0 (cons _ _ _ _ g.1.1.0 (cons _ _ _ _ g.1.1.1.0 (cons _ _ _ _ g.1.1.1.1.0
    (cons _ _ _ _ g.1.1.1.1.1.0 (cons _ _ _ _ g.1.1.1.1.1.1.0 (cons _ _ _ _ g.1.1.1.1.1.1.1.0 (cons _ _ _ _ g.1.1.1.1.1.1.1.1.0 refl))))))))

-- nine entries as a table
pub table_of : List Dim → Table
table_of ds p q = get_or ds (entry_place p q) Nothing

pub table-listed : (ds : List Dim) → length ds ≡ 9 → ds ≡ listed (table_of ds)
unfolding table_of
table-listed ds n = nine-listed ds n

-- ---- a sink that stops once it has enough
-- what it has has grown from what was known, and is at most these entries; it is all of them, or enough
pub record IsGatheredOf (known : Known) (aim : Aim) (entries : List Dim) (g : Gathered) : Type 0 where
  pub same : g.known ≡ record known { least = g.known.least }
  pub least : AreAtMost known.least g.known.least
  pub grown : AreAtMost g.known.least entries
  pub whole : g.full ≡ false → g.known.least ≡ entries
  pub enough : g.full ≡ true → is_enough g.known aim ≡ true

-- these entries are known at least
abbrev pub known_from : Known → List Dim → Known
known_from known entries = record known { least = entries }

abbrev pub at_entries : Shape → Shape → Aim → Known → List Dim → Bool → Gathered
at_entries a b aim known entries full = record { first = a; second = b; aim = aim; known = known_from known entries; full = full }

full-stays : (a b : Shape) (aim : Aim) (known : Known) (entries : List Dim) (is : List Item) → fold with_cell (at_entries a b aim known entries true) is ≡ at_entries a b aim known entries true
full-stays a b aim known entries [] = refl
full-stays a b aim known entries (i ∷ is) = full-stays a b aim known entries is

pub gathered-left : (a b : Shape) (aim : Aim) (known : Known) (is : List Item) (t : Table) (full : Bool) → AreAtMost known.least (listed t)
    → (full ≡ true → is_enough (known_from known (listed t)) aim ≡ true)
    → IsGatheredOf known aim (fold (with_item a b) (listed t) is) (fold with_cell (at_entries a b aim known (listed t) full) is)
gathered-left a b aim known [] t full low h = record { same = refl; least = low; grown = same-at-most (listed t); whole = λ k. refl; enough = h }
gathered-left a b aim known (i ∷ is) t true low h =
    subst (IsGatheredOf known aim (fold (with_item a b) (listed t) (i ∷ is))) (sym (full-stays a b aim known (listed t) (i ∷ is)))
    (record {
      same = refl;
      least = low;
      grown = subst (AreAtMost (listed t)) (sym (fold-listed a b t (i ∷ is))) (grown-listed t (greatest_at a b (i ∷ is)));
      whole = λ k. absurd (both_ways true k refl);
      enough = λ k. h refl;
    })
gathered-left a b aim known (i ∷ is) t false low h =
    let p = first_place a i in
    let q = second_place b i in
    let d = dim_of i.dim in
    let higher = exceeds d (slice_index_or (listed t) (entry_place p q) Nothing) in
    let u = with_dim t p q d in
    let Left : List Dim → Type 0 =
    λ es. IsGatheredOf known aim (fold (with_item a b) es is) (fold with_cell (at_entries a b aim known es (higher && is_enough (known_from known es) aim)) is) in
    subst Left (sym (raised-listed t p q d))
    (gathered-left a b aim known is u (higher && is_enough (known_from known (listed u)) aim) (through-lists known.least (listed t) (listed u) low (grown-with t p q d))
    (λ k. (and_parts higher (is_enough (known_from known (listed u)) aim) k).1))

-- of a sink that begins with what is known
pub gathered-from : (a b : Shape) (aim : Aim) (known : Known) (is : List Item) → length known.least ≡ 9
    → IsGatheredOf known aim (fold (with_item a b) known.least is) (fold with_cell (at_entries a b aim known known.least false) is)
gathered-from a b aim known is n =
    let e = table-listed known.least n in
    let From : List Dim → Type 0 = λ es. IsGatheredOf known aim (fold (with_item a b) es is) (fold with_cell (at_entries a b aim known es false) is) in
    subst From (sym e) (gathered-left a b aim known is (table_of known.least) false (subst (AreAtMost known.least) e (same-at-most known.least)) (λ k. absurd (both_ways false refl k)))

-- what items find of entries that are at most what they find
pub fold-from : (a b : Shape) (entries : List Dim) (is : List Item) → length entries ≡ 9 → AreAtMost entries (listed (greatest_at a b is))
    → fold (with_item a b) entries is ≡ listed (greatest_at a b is)
fold-from a b entries is n g =
    let t = table_of entries in
    let e = table-listed entries n in
    ap (λ es. fold (with_item a b) es is) e ∙ fold-listed a b t is ∙ grown-to t (greatest_at a b is) (subst (λ es. AreAtMost es (listed (greatest_at a b is))) e g)

-- ---- what is known in the end
pub record IsFound (known : Known) (aim : Aim) (m : List Dim) (found : Known) : Type 0 where
  pub holds : Holds found m
  pub as_much : KnowsAsMuch known found
  pub enough : IsTrue (is_enough found aim)

pub found-left : (known : Known) (aim : Aim) (m : List Dim) (g : Gathered) → Holds known m → IsGatheredOf known aim m g → IsFound known aim m (found_by g)
found-left known aim m g holds h = by_value g.full refl
  where
    same_most : g.known.most ≡ known.most
    same_most = ap (λ (k : Known). k.most) h.same

    same_contact : g.known.contact ≡ known.contact
    same_contact = ap (λ (k : Known). k.contact) h.same

    contact : IsTrue g.known.contact → IsTrue (has_contact m)
    contact c = holds.contact (sym same_contact ∙ c)

    by_value : (full : Bool) → g.full ≡ full → IsFound known aim m (found_by g)
    by_value true e =
        subst (IsFound known aim m) (sym (ap (λ f. if f then g.known else settled g.known) e))
        (record {
          holds = record { least = h.grown; most = subst (AreAtMost m) (sym same_most) holds.most; contact = contact };
          as_much = record { least = h.least; most = subst (λ ds. AreAtMost ds known.most) (sym same_most) (same-at-most known.most); contact = λ c. same_contact ∙ c };
          enough = h.enough e;
        })
    by_value false e =
        subst (IsFound known aim m) (sym (ap (λ f. if f then g.known else settled g.known) e))
        (record {
          holds = record { least = h.grown; most = subst (AreAtMost m) (sym (h.whole e)) (same-at-most m); contact = contact };
          as_much = record { least = h.least; most = subst (λ ds. AreAtMost ds known.most) (sym (h.whole e)) holds.most; contact = λ c. same_contact ∙ c };
          enough = settled_is_enough g.known aim;
        })
