-- A slab of the sweep: what comes to it goes on from it, level by level.
use Rattle.std.proofs.Common.{◌≡◌, ◌≢◌, refl, ap, sym, subst, ◌∙◌, ℕ, zero, suc, ◌+◌, arith, cond, List, [], ◌∷◌, take, drop, None, inl, inr}
use Rattle.std.specs.List.{AllByRecursion, prefix_len}
use Rattle.std.specs.List.Sorted.{IsPermutation}
use Rattle.std.specs.declared.cmp.Ordering.TheVariants.{Equal, Greater, Less}
use Rattle.std.proofs.lemmas.List.{append-nil}
use Rattle.std.proofs.lemmas.List.Sorted.{IsPermutation-refl}
use Rattle.sf_grid.specs.Fraction.{Fraction, IsFraction}
use Rattle.sf_strips.specs.declared.active.Active.{Active}
use Rattle.sf_strips.specs.declared.contact.Contact.{Contact}
use Rattle.sf_strips.specs.declared.contact.Contact.TheVariants.{Ahead, Never, Throughout}
use Rattle.sf_strips.specs.declared.level.Level.{Level}
use Rattle.sf_strips.specs.declared.piece.Piece.{Piece}
use Rattle.sf_strips.specs.declared.vertex.Vertex.{Vertex}
use Rattle.sf_strips.specs.Fronts.{AreContacts, AreContactsFrom, Descend, DescendFrom, Descends, IsContact, line_of, touches}
use Rattle.sf_strips.specs.Levels.{AreOnward, AreTops, IsOnward, SlopesFall, SlopesFallFrom, going_past, run_length, top_level}
use Rattle.sf_strips.specs.Slanted.{IsOneLine, slope_order}
use Rattle.sf_slabs.specs.Sweeps.{IsColumnOf, IsComing, IsFront}
use Rattle.sf_slabs.proofs.ColumnIsLaws.{column-is}
use Rattle.sf_slabs.proofs.CrossLaws.{level-one_line}
use Rattle.sf_slabs.proofs.FollowLaws.{level-flip, slants-line_of}
use Rattle.sf_slabs.proofs.LeveledLaws.{drop-none}
use Rattle.sf_slabs.proofs.Shapes.{IsColumn}

-- ---- edges on one line
-- the next one on the same line isn't steeper
flat_step : (x : Fraction) (a b : Active) → IsFraction x → Descends x a b → IsOneLine (line_of a) (line_of b) →
    slope_order b.edge.left b.edge.right a.edge.left a.edge.right ≢ Greater
flat_step x a b i d o =
    elim d [
      | inl below ↦ absurd (differ (sym below ∙ level-flip (line_of a) (line_of b) x (level-one_line (line_of a) (line_of b) x (slants-line_of a) (slants-line_of b) i o)))
      | inr level ↦ level.1
    ]
  where
    differ : Less ≡ Equal → ⊥
    differ e = cc

-- those that lie on the line of the first one are by falling slope
bundle_falls : (x : Fraction) (a : Active) (es : List Active) (cs : List Contact) → IsFraction x → DescendFrom x a es → AreContactsFrom x a es cs →
    SlopesFallFrom a (take (prefix_len (touches None) cs) es)
bundle_falls x a [] cs i d k = none (prefix_len (touches None) cs)
  where
    none : (n : ℕ) → SlopesFallFrom a (take n [])
    none zero = tt
    none (suc n) = tt
bundle_falls x a (b ∷ es) [] i d k = absurd k
bundle_falls x a (b ∷ es) (c ∷ cs) i d k = by_contact c k.0 (bundle_falls x b es cs i d.1 k.1)
  where
    n : ℕ
    n = prefix_len (touches None) cs

    one_more : 1 + n ≡ suc n
    one_more = omega arith

    by_contact : (c : Contact) → IsContact (line_of a) (line_of b) x c → SlopesFallFrom b (take n es) → SlopesFallFrom a (take (cond (touches None c) (1 + n) 0) (b ∷ es))
    by_contact Never m rest = tt
    by_contact (Ahead p) m rest = tt
    by_contact Throughout m rest = subst (λ j. SlopesFallFrom a (take j (b ∷ es))) (sym one_more) (flat_step x a b i d.0 m, rest)

run_falls : (x : Fraction) (es : List Active) (cs : List Contact) → IsFraction x → Descend x es → AreContacts x es cs → SlopesFall (take (run_length None es cs) es)
run_falls x [] cs i d k = tt
run_falls x (a ∷ es) cs i d k = subst (λ j. SlopesFall (take j (a ∷ es))) (sym (one_more (prefix_len (touches None) cs))) (bundle_falls x a es cs i d k)
  where
    one_more : (n : ℕ) → 1 + n ≡ suc n
    one_more n = omega arith

-- ---- where no vertex is, all edges go on
all_go : (es : List Active) → going_past [] es ≡ es
all_go [] = refl
all_go (a ∷ es) = ap (λ fs. a ∷ fs) (all_go es)

goes_on_whole : (run : List Active) → SlopesFall run → IsOnward run [] run
goes_on_whole run s =
    record {
      starts = [];
      are_starts = λ i. [];
      same = subst (λ fs. IsPermutation fs run) (sym (append-nil (going_past [] run) ∙ all_go run)) (IsPermutation-refl run);
      fall = s;
    }

-- ---- what is left
Descend-rest : (x : Fraction) (a : Active) (es : List Active) → DescendFrom x a es → Descend x es
Descend-rest x a [] d = tt
Descend-rest x a (b ∷ es) d = d.1

drop-descend : (x : Fraction) (n : ℕ) (es : List Active) → Descend x es → Descend x (drop n es)
drop-descend x zero es d = d
drop-descend x (suc n) [] d = tt
drop-descend x (suc n) (a ∷ es) d = drop-descend x n es (Descend-rest x a es d)

drop-contacts : (x : Fraction) (n : ℕ) (es : List Active) (cs : List Contact) → AreContacts x es cs → AreContacts x (drop n es) (drop n cs)
drop-contacts x zero es cs h = h
drop-contacts x (suc n) [] cs h = drop-none (suc n) cs h
drop-contacts x (suc n) (a ∷ []) cs h = after n (drop-none (suc n) cs h)
  where
    after : (k : ℕ) → drop (suc n) cs ≡ [] → AreContacts x (drop k []) (drop (suc n) cs)
    after zero e = e
    after (suc k) e = e
drop-contacts x (suc n) (a ∷ b ∷ es) [] h = absurd h
drop-contacts x (suc n) (a ∷ b ∷ es) (c ∷ cs) h = drop-contacts x n (b ∷ es) cs h.1

abbrev nothing : List Vertex
nothing = []

take_none : (n : ℕ) → take n nothing ≡ nothing
take_none zero = refl
take_none (suc n) = refl

drop_none : (n : ℕ) → drop n nothing ≡ nothing
drop_none zero = refl
drop_none (suc n) = refl

-- ---- level by level
top_run : (es : List Active) (cs : List Contact) → (top_level None es cs []).edges ≡ run_length None es cs
top_run [] cs = λ i. 0
top_run (a ∷ es) cs = λ i. run_length None (a ∷ es) cs

pub slab_onward : (pieces : List Piece) (x : Fraction) (es : List Active) (cs : List Contact) (ls : List Level) → IsFraction x → Descend x es → AreContacts x es cs →
    AreTops None es cs [] ls → AllByRecursion (λ l. l.onward ≡ l.edges) ls → AreOnward es [] es ls
slab_onward pieces x es cs [] i d k t o = t.0
slab_onward pieces x es cs (l ∷ ls) i d k t o =
    let run : l.edges ≡ run_length None es cs = t.0.edges ∙ top_run es cs in (
      subst (λ n. IsOnward (take l.edges es) (take l.vertices []) (take n es)) (sym o.0)
          (subst (λ vs. IsOnward (take l.edges es) vs (take l.edges es)) (sym (take_none l.vertices))
          (goes_on_whole (take l.edges es) (subst (λ n. SlopesFall (take n es)) (sym run) (run_falls x es cs i d k)))),
      subst (λ n. AreOnward (drop l.edges es) (drop l.vertices []) (drop n es) ls) (sym o.0)
          (subst (λ vs. AreOnward (drop l.edges es) vs (drop l.edges es) ls) (sym (drop_none l.vertices))
          (slab_onward pieces x (drop l.edges es) (drop l.edges cs) ls i (drop-descend x l.edges es d) (drop-contacts x l.edges es cs k)
          (subst (λ vs. AreTops None (drop l.edges es) (drop l.edges cs) vs ls) (drop_none l.vertices) t.1) o.1)),
    )

-- what is handed out for the slab are the cells of every column in it
pub slab-column : (pieces : List Piece) (x z : Fraction) (es es' : List Active) (cs cs' : List Contact) (ls : List Level) → IsFront pieces x es cs → IsComing pieces z None es cs →
    IsColumnOf pieces z [] → es' ≡ es → cs' ≡ cs → AreTops None es' cs' [] ls → AllByRecursion (λ l. l.onward ≡ l.edges) ls → IsColumn pieces z es [] es ls
slab-column pieces x z es es' cs cs' ls f c v e k t o =
    let tops = subst (λ fs. AreTops None fs cs [] ls) e (subst (λ ds. AreTops None es' ds [] ls) k t) in
    column-is pieces z None es cs [] es ls c v tops (slab_onward pieces x es cs ls f.place f.descend f.contacts tops o)
