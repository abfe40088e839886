-- How far a cut of members into the nodes of a level has come.
use Rattle.std.specs.Prelude.{◌≡◌, ℕ, ◌+◌, ◌-◌, ◌≤◌, List, [], ◌∷◌, ◌++◌, length, reverse}
use Rattle.std.specs.List.{AllByRecursion}
use Rattle.std.proofs.Common.{refl, ap, sym, ◌∙◌, append_assoc, append-nil, arith, subst, take, zero, suc}
use Rattle.std.proofs.lemmas.List.{length-append, length-reverse, reverse-append}
use Rattle.sf_rtree.specs.declared.node.Branch.{Branch}
use Rattle.sf_rtree.specs.Boxed.{Boxed}
use Rattle.sf_rtree.specs.Curves.{AreInOrder}
use Rattle.sf_rtree.specs.Levels.{CanPart, IsLevel, IsPart}
use Rattle.sf_rtree.specs.Nodes.{AreBranches, AreEntries, IsBranch, entries_below}
use Rattle.sf_rtree.proofs.Order.{all_both, all_right, in_order-left, in_order-right}
use Rattle.sf_rtree.proofs.Sizes.{levels_all, part}

-- of `all` nodes, `parts` are still to be made, from so many members; the others are made, the last one first
pub record IsCut (level : ℕ) (es under : List Boxed) (members : ℕ) (made : List Branch) (parts all : ℕ) : Type 0 where
  pub can : CanPart parts members
  pub count : length made + parts ≡ all
  pub branches : AllByRecursion (IsBranch level) made
  pub entries : under ++ entries_below (reverse made) ≡ es

-- one node more
pub cut-step : (level : ℕ) (es under left piece : List Boxed) (members less : ℕ) (made new : List Branch) (b : Branch) (parts all : ℕ)
    → IsCut level es under members made parts all → 1 ≤ parts → left ++ piece ≡ under → CanPart (parts - 1) less → IsBranch level b
    → b.node.entries ≡ piece → new ≡ made ++ b ∷ [] → IsCut level es left less new (parts - 1) all
cut-step level es under left piece members less made new b parts all cut some split can branch is now =
    subst (λ bs. IsCut level es left less bs (parts - 1) all) (sym now)
    (record {
      can = can;
      count = omega (arith, length-append made (b ∷ []), cut.count, some);
      branches = all_both (IsBranch level) made (b ∷ []) cut.branches (branch, tt);
      entries =
          ap (λ bs. left ++ entries_below bs) (reverse-append made (b ∷ []))
          ∙ sym (append_assoc left b.node.entries (entries_below (reverse made)))
          ∙ ap (λ xs. left ++ xs ++ entries_below (reverse made)) is
          ∙ ap (λ xs. xs ++ entries_below (reverse made)) split
          ∙ cut.entries;
    })

all_reversed : (P : Branch → Type 0) (bs : List Branch) → AllByRecursion P bs → AllByRecursion P (reverse bs)
all_reversed P [] h = tt
all_reversed P (b ∷ bs) h =
    subst (AllByRecursion P) (sym (reverse-append (b ∷ []) bs)) (all_both P (reverse bs) (b ∷ []) (all_reversed P bs h.1) (h.0, tt))

-- all are made
pub cut-whole : (level : ℕ) (es under : List Boxed) (members : ℕ) (made new : List Branch) (parts all : ℕ) → IsCut level es under members made parts all
    → 2 ≤ all → parts ≡ 0 → under ≡ [] → new ≡ reverse made → IsLevel es new
cut-whole level es under members made new parts all cut some none empty now =
    let length : 2 ≤ length (reverse made) = omega (arith, length-reverse made, cut.count) in
    let branches : AllByRecursion (IsBranch level) (reverse made) = all_reversed (IsBranch level) made cut.branches in
    subst (IsLevel es) (sym now)
    (record {
      some = length;
      branches = subst (λ l. AllByRecursion (IsBranch l) (reverse made)) (sym (levels_all level (reverse made) branches (omega arith))) branches;
      entries = sym (ap (λ xs. xs ++ entries_below (reverse made)) empty) ∙ cut.entries;
    })

-- the entries of the last part are in order
pub piece-in_order : (level : ℕ) (es under left piece : List Boxed) (members : ℕ) (made : List Branch) (parts all : ℕ) → IsCut level es under members made parts all
    → AreInOrder es → left ++ piece ≡ under → AreInOrder piece
piece-in_order level es under left piece members made parts all cut order split =
    in_order-right left piece
    (subst AreInOrder (sym split) (in_order-left under (entries_below (reverse made)) (subst AreInOrder (sym cut.entries) order)))

pub leaf-piece : (es : List Boxed) → IsPart (length es) → AreInOrder es → AreEntries es
leaf-piece es size order = record { few = size.few; in_order = order }

pub inner-piece : (level : ℕ) (left piece bs : List Branch) → AllByRecursion (IsBranch level) bs → left ++ piece ≡ bs → IsPart (length piece)
    → AreInOrder (entries_below piece) → AreBranches piece
inner-piece level left piece bs h split size order =
    part level piece (all_right (IsBranch level) left piece (subst (AllByRecursion (IsBranch level)) (sym split) h)) (omega (arith, size.enough)) size.few order

pub nothing_left : {X : Type 0} (xs : List X) (parts : ℕ) → CanPart parts (length xs) → parts ≡ 0 → xs ≡ []
nothing_left [] parts can none = refl
nothing_left (x ∷ xs) parts can none = absurd (omega (arith, can.few))

-- a slice that was written back whole
pub written_back : (n : ℕ) (xs ys : List Branch) → n ≡ length xs → take n (xs ++ ys) ≡ xs
written_back n [] ys h = ap (λ k. take k ys) h
written_back zero (x ∷ xs) ys h = absurd (omega (arith, h))
written_back (suc n) (x ∷ xs) ys h = ap (λ zs. x ∷ zs) (written_back n xs ys (omega (arith, h)))

-- nothing is made yet
pub cut-none : (level : ℕ) (es under : List Boxed) (members parts all : ℕ) (made : List Branch) → CanPart parts members → under ≡ es → parts ≡ all
    → made ≡ [] → IsCut level es under members made parts all
cut-none level es under members parts all made can is same none =
    subst (λ bs. IsCut level es under members bs parts all) (sym none)
    (record { can = can; count = omega (arith, same); branches = tt; entries = append-nil under ∙ is })

-- ---- a level and the next one

pub level-again : (es : List Boxed) (bs : List Branch) → IsLevel es bs → IsLevel (entries_below bs) bs
level-again es bs h = record { some = h.some; branches = h.branches; entries = refl }

pub level-next : (es : List Boxed) (bs new : List Branch) → IsLevel es bs → IsLevel (entries_below bs) new → IsLevel es new
level-next es bs new h next = record { some = next.some; branches = next.branches; entries = next.entries ∙ h.entries }

pub level-top : (es : List Boxed) (bs : List Branch) → IsLevel es bs → AreInOrder es → length bs ≤ 8 → AreBranches bs
level-top es bs h order few =
    record { enough = h.some; few = few; branches = h.branches; in_order = subst AreInOrder (sym h.entries) order }
