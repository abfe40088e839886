-- The first edges of an order that lie on one line together are its first bundle.
use Rattle.std.proofs.Common.{◌≡◌, refl, ap, sym, ◌∙◌, subst, ℕ, suc, ◌+◌, arith, Bool, true, false, cond, List, [], ◌∷◌, None, take, drop}
use Rattle.std.specs.List.{prefix_len}
use Rattle.sf_strips.specs.declared.active.Active.{Active}
use Rattle.sf_strips.specs.declared.contact.Contact.{Contact}
use Rattle.sf_strips.specs.Fronts.{pieces_of, touches}
use Rattle.sf_strips.specs.Levels.{run_length}
use Rattle.sf_sweep.specs.Passing.{IsLastApart, contact_at}
use Rattle.sf_sweep.specs.Tables.{bundles_of, contacts_of, with_first}

one-more : (m : ℕ) → 1 + m ≡ suc m
one-more m = omega arith

-- so many edges from the first one on are one bundle, and it isn't level with what is below it
record IsFirstBundle (table : List Contact) (a : Active) (es : List Active) (n : ℕ) : Type 0 where
  bundle : bundles_of (contacts_of table (a ∷ take n es)) (a ∷ take n es) ≡ (a.piece ∷ pieces_of (take n es)) ∷ []
  apart : IsLastApart None table (a ∷ take n es)
  below : IsLastApart None table (drop n es)

first-run : (table : List Contact) (a : Active) (es : List Active) → IsLastApart None table (a ∷ es) → IsFirstBundle table a es (prefix_len (touches None) (contacts_of table (a ∷ es)))
first-run table a [] h = record { bundle = refl; apart = h; below = tt }
first-run table a (b ∷ es) h = by_test (touches None (contact_at table a)) refl (first-run table b es h)
  where
    m : ℕ
    m = prefix_len (touches None) (contacts_of table (b ∷ es))

    joined : (t : Bool) → t ≡ true → bundles_of (contacts_of table (b ∷ take m es)) (b ∷ take m es) ≡ (b.piece ∷ pieces_of (take m es)) ∷ [] →
        cond t (with_first a.piece (bundles_of (contacts_of table (b ∷ take m es)) (b ∷ take m es))) ((a.piece ∷ []) ∷ bundles_of (contacts_of table (b ∷ take m es)) (b ∷ take m es))
        ≡ (a.piece ∷ b.piece ∷ pieces_of (take m es)) ∷ []
    joined true e k = ap (with_first a.piece) k
    joined false e k = cc

    by_test : (t : Bool) → touches None (contact_at table a) ≡ t → IsFirstBundle table b es m → IsFirstBundle table a (b ∷ es) (cond t (1 + m) 0)
    by_test true e k =
        subst (IsFirstBundle table a (b ∷ es)) (sym (one-more m))
        (record { bundle = joined (touches None (contact_at table a)) e k.bundle; apart = k.apart; below = k.below })
    by_test false e k = record { bundle = refl; apart = e; below = h }

-- the same, where the order is one list
pub record IsBundle (table : List Contact) (es : List Active) (n : ℕ) : Type 0 where
  pub bundle : bundles_of (contacts_of table (take n es)) (take n es) ≡ pieces_of (take n es) ∷ []
  pub apart : IsLastApart None table (take n es)
  pub below : IsLastApart None table (drop n es)

pub run-bundle : (table : List Contact) (a : Active) (es : List Active) (n : ℕ) → IsLastApart None table (a ∷ es) → n ≡ run_length None (a ∷ es) (contacts_of table (a ∷ es)) → IsBundle table (a ∷ es) n
run-bundle table a es n h e =
    let m : ℕ = prefix_len (touches None) (contacts_of table (a ∷ es)) in
    let k = first-run table a es h in
    subst (IsBundle table (a ∷ es)) (sym (e ∙ one-more m)) (record { bundle = k.bundle; apart = k.apart; below = k.below })
