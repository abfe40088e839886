-- A front up to the next column: which edges come to each column on the way, in which order, and that no vertex is there.
use Rattle.std.proofs.Common.{◌≡◌, ap, ◌∙◌, ◌∷◌, true, false, List, [], Some, None, inl, inr, sym, pos, ◌*ℤ◌}
use Rattle.std.specs.List.{AllByRecursion, sum_by}
use Rattle.std.proofs.lemmas.Bool.{cases_Bool}
use Rattle.sf_grid.specs.Fraction.{Fraction, IsFraction, fraction_eq, fraction_lt, whole}
use Rattle.sf_grid.proofs.CallerLemmas.{eq_from_test}
use Rattle.sf_strips.specs.declared.piece.Piece.{Piece}
use Rattle.sf_strips.specs.declared.active.Active.{Active}
use Rattle.sf_strips.specs.declared.contact.Contact.{Contact}
use Rattle.sf_strips.specs.Fronts.{IsEntry}
use Rattle.sf_cells.specs.Pieces.{ends_of}
use Rattle.sf_strips.specs.Vertices.{all_vertices}
use Rattle.sf_slabs.proofs.AboveLaws.{passes}
use Rattle.sf_slabs.proofs.EndLaws.{Later, NoEndBetween, all_vertices-ends, coming, each_passes, no_vertices, none_between, passes_at, runs, whole-number}
use Rattle.sf_slabs.proofs.FollowLaws.{EachPair, FollowAll, Ordered, Runs, Waits, follow_all, le_of_lt, le_self, ordered_pairs, steps_at_right, steps_inside}
use Rattle.sf_slabs.proofs.NumberLaws.{rising_order}
use Rattle.sf_slabs.proofs.Shapes.{IsColumnOf, IsComing, IsFront, in_column}
use Rattle.sf_slabs.proofs.SlabLaws.{IsSlab}
use Rattle.sf_slabs.proofs.EachLaws.{each-map}

-- up to y nothing begins or ends, and no neighbours meet
pub record IsClear (pieces : List Piece) (x y : Fraction) (cs : List Contact) : Type 0 where
  pub place : IsFraction y
  pub ahead : fraction_lt x y ≡ true
  pub ends : NoEndBetween pieces x y
  pub waits : AllByRecursion (Waits y) cs

pub slab : (pieces : List Piece) (x y : Fraction) (os : List Active) (cs : List Contact) → IsFront pieces x os cs → IsClear pieces x y cs → IsSlab x y
slab pieces x y os cs f c = record { left = f.place; right = c.place; apart = c.ahead }

-- every edge of the front runs as far as y
each_runs : (pieces : List Piece) (x y : Fraction) (os : List Active) → AllByRecursion (IsEntry pieces) os → AllByRecursion (λ a. passes_at (passes x) pieces a.piece ≡ true) os →
    NoEndBetween pieces x y → AllByRecursion (Runs x y) os
each_runs pieces x y [] e p n = tt
each_runs pieces x y (a ∷ os) e p n = (runs pieces x y a e.0 p.0 n, each_runs pieces x y os e.1 p.1 n)

pub front_runs : (pieces : List Piece) (x y : Fraction) (os : List Active) (cs : List Contact) → IsFront pieces x os cs → IsClear pieces x y cs →
    AllByRecursion (Runs x y) os
front_runs pieces x y os cs f c = each_runs pieces x y os f.entries (each_passes pieces (passes x) os f.active) c.ends

front_follows : (pieces : List Piece) (x y : Fraction) (os : List Active) (cs : List Contact) → IsFront pieces x os cs → IsClear pieces x y cs → FollowAll x y os cs
front_follows pieces x y os cs f c = follow_all x y os cs (slab pieces x y os cs f c) (front_runs pieces x y os cs f c) f.descend f.contacts c.waits

-- up to y, every edge of the front stays below each one before it, or level with it
pub front_ordered : (pieces : List Piece) (x y : Fraction) (os : List Active) (cs : List Contact) → IsFront pieces x os cs → IsClear pieces x y cs →
    EachPair (Ordered x y) os
front_ordered pieces x y os cs f c =
    ordered_pairs x y os cs (slab pieces x y os cs f c) (front_runs pieces x y os cs f c) (front_follows pieces x y os cs f c)

-- ---- columns before y
-- the front is what comes to a column before y
pub coming_inside : (pieces : List Piece) (x y z : Fraction) (os : List Active) (cs : List Contact) → IsFront pieces x os cs → IsClear pieces x y cs →
    IsFraction z → fraction_lt x z ≡ true → fraction_lt z y ≡ true → IsComing pieces z None os cs
coming_inside pieces x y z os cs f c i h l =
    record {
      place = i;
      entries = f.entries;
      coming = λ weight. f.active weight ∙ ap (sum_by weight) (coming pieces x y z f.place c.place i h (le_of_lt z y l) c.ends);
      steps = steps_inside x y z os cs i h l (front_follows pieces x y os cs f c);
    }

-- a column before y has no vertex
pub column_inside : (pieces : List Piece) (x y z : Fraction) (os : List Active) (cs : List Contact) → IsFront pieces x os cs → IsClear pieces x y cs →
    IsFraction z → fraction_lt x z ≡ true → fraction_lt z y ≡ true → IsColumnOf pieces z []
column_inside pieces x y z os cs f c i h l =
    record { are = none_between pieces x y z f.place c.place i h l c.ends; each = tt; here = tt; in_order = tt }

-- ---- the column y
pub coming_next : (pieces : List Piece) (x y : Fraction) (os : List Active) (cs : List Contact) → IsFront pieces x os cs → IsClear pieces x y cs →
    IsComing pieces y (Some y) os cs
coming_next pieces x y os cs f c =
    record {
      place = c.place;
      entries = f.entries;
      coming = λ weight. f.active weight ∙ ap (sum_by weight) (coming pieces x y y f.place c.place c.place c.ahead (le_self y) c.ends);
      steps = steps_at_right x y os cs (front_follows pieces x y os cs f c);
    }

-- ---- where nothing is left
-- no piece begins or ends right of x
abbrev pub NoEndRight : List Piece → Fraction → Type 0
NoEndRight pieces x = AllByRecursion (λ p. AllByRecursion (λ q. fraction_lt x q ≡ true → ⊥) (ends_of p)) pieces

pub coming_none : (pieces : List Piece) (x z : Fraction) (cs : List Contact) → IsFront pieces x [] cs → NoEndRight pieces x →
    IsFraction z → fraction_lt x z ≡ true → IsComing pieces z None [] cs
coming_none pieces x z cs f n i h =
    record {
      place = i;
      entries = tt;
      coming = λ weight. f.active weight ∙ ap (sum_by weight) (coming pieces x z z f.place i i h (le_self z) no_end);
      steps = f.contacts;
    }
  where
    no_end : NoEndBetween pieces x z
    no_end =
        each-map (λ p. AllByRecursion (λ q. fraction_lt x q ≡ true → ⊥) (ends_of p)) (λ p. AllByRecursion (Later x z) (ends_of p)) pieces
        (λ p. each-map (λ q. fraction_lt x q ≡ true → ⊥) (Later x z) (ends_of p) (λ q never l. absurd (never l)))
        n

pub column_none : (pieces : List Piece) (x z : Fraction) → NoEndRight pieces x → IsFraction x → IsFraction z → fraction_lt x z ≡ true → IsColumnOf pieces z []
column_none pieces x z n j i h =
    record {
      are =
          no_vertices pieces (in_column z)
          (each-map (λ v. fraction_lt x (whole v.at.x) ≡ true → ⊥) (λ v. in_column z v ≡ false) (all_vertices 0 pieces)
          (λ v never. apart (whole v.at.x) (whole-number v.at.x) never)
          (all_vertices-ends (λ q. fraction_lt x q ≡ true → ⊥) 0 pieces n));
      each = tt;
      here = tt;
      in_order = tt;
    }
  where
    apart : (q : Fraction) → IsFraction q → (fraction_lt x q ≡ true → ⊥) → fraction_eq q z ≡ false
    apart q o never =
        elim (cases_Bool (fraction_eq q z)) [
          | inl t ↦ absurd (never (rising_order.same_second x z q j i o h (sym (eq_from_test (q.num *ℤ pos z.den) (z.num *ℤ pos q.den) t))))
          | inr f ↦ f
        ]
