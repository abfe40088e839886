-- A layer with itself, where a pair is as asked from either side: each pair is asked for once.
use Rattle.std.proofs.Common.{◌≡◌, ◌∙◌, ℕ, ◌<◌, Bool, true, false, cond, not, ◌&&◌, List, [], ◌∷◌, ◌++◌, append_assoc, length, map, flat_map, filter, Option, Some, is_some, nat_eq, nat_lt, refl, ap, sym, subst, arith}
use Rattle.std.specs.List.{AllByRecursion, Contains as Has}
use Rattle.std.specs.List.Sorted.{IsStrictlySortedBy}
use Rattle.std.specs.Map.{keys_of, lookup}
use Rattle.std.specs.Ordering.{nat_cmp}
use Rattle.std.specs.declared.cmp.Ordering.TheVariants.{Less}
use Rattle.std.proofs.lemmas.Bool.{eqb-true, ne_eqb}
use Rattle.std.proofs.lemmas.Bool.Decides.{nat_tests}
use Rattle.sf_geometry.specs.declared.geometry.Geometry.{Geometry}
use Rattle.sf_features.specs.Features.{FeatureContent}
use Rattle.std.specs.Prelude.{bytes_eq}
use Rattle.std.proofs.lemmas.Slice.Eq.{bytes_eq-Decides}
use Rattle.sf_layers.specs.Content.{Content, LayerContent, feature_of, layer_of}
use Rattle.sf_layers.specs.WellFormed.{IsLayer}
use Rattle.sf_known.specs.Patterns.{letter_character}
use Rattle.sf_known.specs.Transposed.{transposed}
use Rattle.sf_known.specs.declared.letter.Letter.{Letter}
use Rattle.sf_known.specs.declared.letter.Letter.TheVariants.{Any, Filled, Empty, Zero, One, Two}
use Rattle.sf_known.specs.declared.predicate.Predicate.TheVariants.{Equals, Disjoint, Intersects, Touches, Within, Contains, Crosses, Overlaps}
use Rattle.sf_joins.specs.Passed.{Ask}
use Rattle.sf_joins.specs.Passed.{PairAsk}
use Rattle.sf_joins.specs.Passed.{Matrix, Near}
use Rattle.sf_joins.specs.Passed.{Matching, Named}
use Rattle.sf_joins.specs.Converse.{HasNineLetters, IsPairAsk, converse, converse_pair}
use Rattle.sf_joins.specs.Joins.{are_distinct}
use Rattle.sf_rules.specs.declared.rule.LayerRule.{LayerRule}
use Rattle.sf_rules.specs.Underway.{IsBetween}
use Rattle.sf_joins.specs.Passed.{are_asked}
use Rattle.sf_rules.specs.declared.between.Between.{Between}
use Rattle.sf_rules.specs.declared.breaks.Break.{Break}
use Rattle.sf_rules.specs.declared.breaks.Break.TheVariants.{Pair}
use Rattle.sf_rules.specs.Rules.{first_of}
use Rattle.sf_rules.specs.Looks.{IsMutual, is_mutual_ask, is_own_converse, is_partner, is_symmetric, pairs_behind, pairs_of_entry, pairs_with, partners}
use Rattle.sf_joins.proofs.Passed.{IsFoundIn, each-found, found-passes, passes-found}
use Rattle.sf_joins.proofs.ConverseLaws.{pairs-turn-round}
use Rattle.sf_joins.proofs.PairLaws.{contains-filter, contains-here, contains-map, contains-there, each-append}
use Rattle.sf_rules.proofs.WholeLaws.{found-here, none-here, partner-now}

-- ---- lists

none-in : {X : Type 0} (x : X) → Has [] x → ⊥
none-in x c = absurd (omega (arith, c.1))

none-first : (xs : List Break) → is_some (first_of xs) ≡ false → xs ≡ []
none-first [] h = refl
none-first (x ∷ xs) h = cc

filter-agree : (p q : ℕ → Bool) (xs : List ℕ) → ((x : ℕ) → Has xs x → p x ≡ q x) → filter p xs ≡ filter q xs
filter-agree p q [] h = refl
filter-agree p q (x ∷ xs) h =
    ap (λ b. cond b (x ∷ filter p xs) (filter p xs)) (h x (contains-here x xs))
    ∙ ap (λ ys. cond (q x) (x ∷ ys) ys) (filter-agree p q xs (λ y c. h y (contains-there x xs y c)))

less-below : (m n : ℕ) → nat_cmp m n ≡ Less → m < n
less-below m n h = grind (arith, nat_tests)

-- what stands behind an entry has no identifier before it
none-behind : {X : Type 0} (k j : ℕ) (f : X) (es : List (ℕ × X)) → AllByRecursion (λ y. nat_cmp k y ≡ Less) (keys_of es) → j < k → lookup (nat_eq j) es ≡ Some f → ⊥
none-behind k j f [] above below found = cc
none-behind {X} k j f (e ∷ es) above below found =
    let later : k < e.0 = less-below k e.0 above.0 in
    none-behind k j f es above.1 below (sym (ap (λ b. cond b (Some e.1) (lookup (nat_eq j) es)) (ne_eqb j e.0 (λ same. omega arith))) ∙ found)

-- so what is found before it is among those that came first
found-before : {X : Type 0} (P : ℕ × X → Type 0) (done rest : List (ℕ × X)) (e : ℕ × X) (j : ℕ) (f : X) → IsStrictlySortedBy nat_cmp (keys_of (done ++ e ∷ rest)) → AllByRecursion P done
    → lookup (nat_eq j) (done ++ e ∷ rest) ≡ Some f → j < e.0 → P (j, f)
unfolding IsStrictlySortedBy
found-before {X} P [] rest e j f rising each found below =
    absurd (none-behind e.0 j f rest rising.0 below (sym (ap (λ b. cond b (Some e.1) (lookup (nat_eq j) rest)) (ne_eqb j e.0 (λ same. omega arith))) ∙ found))
found-before {X} P (d ∷ done) rest e j f rising each found below = by (nat_eq j d.0) refl (λ later. found-before P done rest e j f rising.1 each.1 later below) found
  where
    by : (b : Bool) → nat_eq j d.0 ≡ b → (lookup (nat_eq j) (done ++ e ∷ rest) ≡ Some f → P (j, f)) → cond b (Some d.1) (lookup (nat_eq j) (done ++ e ∷ rest)) ≡ Some f → P (j, f)
    by true is later here =
        let value : ◌≡◌ {A = X} d.1 f = cc in
        subst (λ x. P (j, x)) value (subst (λ k. P (k, d.1)) (sym (eqb-true j d.0 is)) each.0)
    by false is later here = later here

-- an entry among others is found by its identifier
each-here : {X : Type 0} (P : X → Type 0) (xs : List X) (x : X) (ys : List X) → AllByRecursion P (xs ++ x ∷ ys) → P x
each-here P [] x ys h = h.0
each-here P (y ∷ xs) x ys h = each-here P xs x ys h.1

entry-there : (done rest : List (ℕ × FeatureContent)) (e : ℕ × FeatureContent) (all : List (ℕ × FeatureContent)) → all ≡ done ++ e ∷ rest → IsStrictlySortedBy nat_cmp (keys_of all)
    → lookup (nat_eq e.0) all ≡ Some e.1
entry-there done rest e all splits rising = each-here (IsFoundIn all) done e rest (subst (AllByRecursion (IsFoundIn all)) splits (each-found all rising))

-- ---- asks that are their own converses

-- letters of one character are one
same-letter : (a b : Letter) → bytes_eq (letter_character a ∷ []) (letter_character b ∷ []) ≡ true → a ≡ b
same-letter Any Any h = refl
same-letter Any Filled h = cc
same-letter Any Empty h = cc
same-letter Any Zero h = cc
same-letter Any One h = cc
same-letter Any Two h = cc
same-letter Filled Any h = cc
same-letter Filled Filled h = refl
same-letter Filled Empty h = cc
same-letter Filled Zero h = cc
same-letter Filled One h = cc
same-letter Filled Two h = cc
same-letter Empty Any h = cc
same-letter Empty Filled h = cc
same-letter Empty Empty h = refl
same-letter Empty Zero h = cc
same-letter Empty One h = cc
same-letter Empty Two h = cc
same-letter Zero Any h = cc
same-letter Zero Filled h = cc
same-letter Zero Empty h = cc
same-letter Zero Zero h = refl
same-letter Zero One h = cc
same-letter Zero Two h = cc
same-letter One Any h = cc
same-letter One Filled h = cc
same-letter One Empty h = cc
same-letter One Zero h = cc
same-letter One One h = refl
same-letter One Two h = cc
same-letter Two Any h = cc
same-letter Two Filled h = cc
same-letter Two Empty h = cc
same-letter Two Zero h = cc
same-letter Two One h = cc
same-letter Two Two h = refl

and_true : (a b : Bool) → a && b ≡ true → (a ≡ true) × (b ≡ true)
and_true true b h = (refl, h)
and_true false b h = cc

same-nine : (letters : List Letter) → length letters ≡ 9 → is_symmetric letters ≡ true → transposed letters ≡ letters
same-nine (ii ∷ (ib ∷ (ie ∷ (bi ∷ (bb ∷ (be ∷ (ei ∷ (eb ∷ (ee ∷ []))))))))) nine h =
    let p = and_true (bytes_eq (letter_character ib ∷ []) (letter_character bi ∷ []) && bytes_eq (letter_character ie ∷ []) (letter_character ei ∷ [])) (bytes_eq (letter_character be ∷ []) (letter_character eb ∷ [])) h in
    let q = and_true (bytes_eq (letter_character ib ∷ []) (letter_character bi ∷ [])) (bytes_eq (letter_character ie ∷ []) (letter_character ei ∷ [])) p.0 in
    let one : ib ≡ bi = same-letter ib bi q.0 in
    let two : ie ≡ ei = same-letter ie ei q.1 in
    let three : be ≡ eb = same-letter be eb p.1 in
    ap (λ x. ii ∷ x ∷ ei ∷ ib ∷ bb ∷ eb ∷ ie ∷ be ∷ ee ∷ []) (sym one) ∙ ap (λ x. ii ∷ ib ∷ x ∷ ib ∷ bb ∷ eb ∷ ie ∷ be ∷ ee ∷ []) (sym two)
    ∙ ap (λ x. ii ∷ ib ∷ ie ∷ x ∷ bb ∷ eb ∷ ie ∷ be ∷ ee ∷ []) one ∙ ap (λ x. ii ∷ ib ∷ ie ∷ bi ∷ bb ∷ x ∷ ie ∷ be ∷ ee ∷ []) (sym three)
    ∙ ap (λ x. ii ∷ ib ∷ ie ∷ bi ∷ bb ∷ be ∷ x ∷ be ∷ ee ∷ []) two ∙ ap (λ x. ii ∷ ib ∷ ie ∷ bi ∷ bb ∷ be ∷ ei ∷ x ∷ ee ∷ []) three
same-nine [] nine h = absurd (omega (arith, nine))
same-nine (a ∷ []) nine same = absurd (omega (arith, nine))
same-nine (a ∷ (b ∷ [])) nine same = absurd (omega (arith, nine))
same-nine (a ∷ (b ∷ (c ∷ []))) nine same = absurd (omega (arith, nine))
same-nine (a ∷ (b ∷ (c ∷ (d ∷ [])))) nine same = absurd (omega (arith, nine))
same-nine (a ∷ (b ∷ (c ∷ (d ∷ (e ∷ []))))) nine same = absurd (omega (arith, nine))
same-nine (a ∷ (b ∷ (c ∷ (d ∷ (e ∷ (f ∷ [])))))) nine same = absurd (omega (arith, nine))
same-nine (a ∷ (b ∷ (c ∷ (d ∷ (e ∷ (f ∷ (g ∷ []))))))) nine same = absurd (omega (arith, nine))
same-nine (a ∷ (b ∷ (c ∷ (d ∷ (e ∷ (f ∷ (g ∷ (h ∷ [])))))))) nine same = absurd (omega (arith, nine))
same-nine (a ∷ (b ∷ (c ∷ (d ∷ (e ∷ (f ∷ (g ∷ (h1 ∷ (i ∷ (j ∷ more)))))))))) nine same = absurd (omega (arith, nine))

own-converse : (ask : Ask) → HasNineLetters ask → is_own_converse ask ≡ true → converse ask ≡ ask
own-converse (Matching letters) nine h = ap Matching (same-nine letters nine h)
own-converse (Named Equals) nine h = refl
own-converse (Named Disjoint) nine h = refl
own-converse (Named Intersects) nine h = refl
own-converse (Named Touches) nine h = refl
own-converse (Named Within) nine h = cc
own-converse (Named Contains) nine h = cc
own-converse (Named Crosses) nine h = refl
own-converse (Named Overlaps) nine h = refl

pub mutual-ask : (ask : PairAsk) → IsPairAsk ask → is_mutual_ask ask ≡ true → converse_pair ask ≡ ask
mutual-ask (Matrix ask) kept h = ap Matrix (own-converse ask kept h)
mutual-ask (Near reach) kept h = refl

-- what the two layers of a rule are, where both are one and the ask is its own converse
pub is-mutual : (content : Content) (rule : LayerRule) (between : Between) (told : Bool) → IsBetween content rule [] between → IsLayer between.first.now → told ≡ (between.one && is_mutual_ask between.ask) → told ≡ true
    → IsMutual between
is-mutual content rule between told is fine says so =
    let h = and_true between.one (is_mutual_ask between.ask) (sym says ∙ so) in
    let names : rule.first ≡ rule.second = (bytes_eq-Decides rule.first rule.second).0 (sym is.one ∙ h.0) in
    let askable : IsPairAsk between.ask = subst IsPairAsk (sym is.ask) is.askable in
    let turned : between.converse ≡ converse_pair between.ask = is.turned ∙ ap converse_pair (sym is.ask) in
    record {
      one = h.0;
      same = some-same between.second.now between.first.now (sym is.second ∙ ap (layer_of content) (sym names) ∙ is.first);
      own = turned ∙ mutual-ask between.ask askable h.1;
      turned = turned;
      askable = askable;
      leaves = is.leaves;
      fine = fine;
    }
  where
    some-same : (x y : LayerContent) → Some x ≡ Some y → x ≡ y
    some-same x y e = cc

-- ---- the loop

-- no pair of those that came first is as asked, and what is first of those left is first of all
pub record IsOnce (between : Between) (left : List (ℕ × FeatureContent)) : Type 0 where
  pub done : List (ℕ × FeatureContent)
  pub splits : between.first.now.features ≡ done ++ left
  pub none : AllByRecursion (λ e. pairs_of_entry between e ≡ []) done
  pub first : first_of (flat_map (pairs_of_entry between) left) ≡ first_of (flat_map (pairs_of_entry between) between.first.now.features)

pub once-begins : (between : Between) (left : List (ℕ × FeatureContent)) → left ≡ between.first.now.features → IsOnce between left
once-begins between left is = record { done = []; splits = sym is; none = tt; first = ap (λ es. first_of (flat_map (pairs_of_entry between) es)) is }

module _ (between : Between) (both : IsMutual between) where
  turn : (a b : Geometry) → are_asked between.converse a b ≡ are_asked between.converse b a
  turn a b = ap (λ ask. are_asked ask a b) both.own ∙ pairs-turn-round between.ask a b both.askable ∙ ap (λ ask. are_asked ask b a) (sym both.turned)

  partner : (i j : ℕ) → is_partner between i j ≡ not (nat_eq i j)
  partner i j = partner-now between i j both.leaves ∙ ap (λ one. are_distinct one i j) both.one

  -- a feature that is as asked with one before it is its partner
  found-again : (e : ℕ × FeatureContent) (j : ℕ) (f : FeatureContent) → lookup (nat_eq e.0) between.first.now.features ≡ Some e.1 → are_asked between.converse f.geometry e.1.geometry ≡ true → j < e.0
      → pairs_with between j f.geometry ≡ [] → ⊥
  found-again e j f there asked below none =
      none-in (Pair j e.0)
      (subst (λ pairs. Has pairs (Pair j e.0)) none
      (contains-map (λ k. Pair j k) (filter (is_partner between j) (partners between f.geometry)) e.0
      (contains-filter (is_partner between j) (partners between f.geometry) e.0
      (passes-found (λ g. are_asked between.converse g.geometry f.geometry) between.second.now.features e.0 e.1 (ap (λ layer. feature_of layer e.0) both.same ∙ there) (turn e.1.geometry f.geometry ∙ asked))
      (partner j e.0 ∙ ap not (ne_eqb j e.0 (λ same. omega arith))))))

  -- so all pairs of an entry are with those behind it, where none of those before it has any
  all-behind : (e : ℕ × FeatureContent) → lookup (nat_eq e.0) between.first.now.features ≡ Some e.1
      → ((j : ℕ) (f : FeatureContent) → feature_of between.first.now j ≡ Some f → j < e.0 → pairs_with between j f.geometry ≡ [])
      → pairs_behind between e.0 e.1.geometry ≡ pairs_of_entry between e
  all-behind e there before = ap (map (λ j. Pair e.0 j)) (filter-agree (λ j. nat_lt e.0 j) (is_partner between e.0) (partners between e.1.geometry) agree)
    where
      agree : (j : ℕ) → Has (partners between e.1.geometry) j → nat_lt e.0 j ≡ is_partner between e.0 j
      agree j c = by (nat_lt e.0 j) refl (nat_eq e.0 j) refl ∙ sym (partner e.0 j)
        where
          by : (b : Bool) → nat_lt e.0 j ≡ b → (same : Bool) → nat_eq e.0 j ≡ same → nat_lt e.0 j ≡ not (nat_eq e.0 j)
          by true less same is = grind (arith, nat_tests)
          by false less true is = less ∙ ap not (sym is)
          by false less false is =
              let f = found-passes (λ g. are_asked between.converse g.geometry e.1.geometry) between.second.now.features j (subst (λ layer. IsStrictlySortedBy nat_cmp (keys_of layer.features)) (sym both.same) both.fine.rising) c in
              let below : j < e.0 = grind (arith, nat_tests) in
              absurd (found-again e j f.0 there f.2 below (before j f.0 (sym (ap (λ layer. feature_of layer j) both.same) ∙ f.1) below))

  -- one turn
  turned : (left rest : List (ℕ × FeatureContent)) (e : ℕ × FeatureContent) → IsOnce between left → left ≡ e ∷ rest → pairs_behind between e.0 e.1.geometry ≡ pairs_of_entry between e
  turned left rest e once is =
      let splits : between.first.now.features ≡ once.done ++ e ∷ rest = once.splits ∙ ap (λ es. once.done ++ es) is in
      let rising : IsStrictlySortedBy nat_cmp (keys_of (once.done ++ e ∷ rest)) = subst (λ es. IsStrictlySortedBy nat_cmp (keys_of es)) splits both.fine.rising in
      all-behind e
      (entry-there once.done rest e between.first.now.features splits both.fine.rising)
      (λ j f there below.
      found-before (λ d. pairs_of_entry between d ≡ []) once.done rest e j f rising once.none (sym (ap (lookup (nat_eq j)) splits) ∙ there) below)

  pub once-found : (left rest : List (ℕ × FeatureContent)) (e : ℕ × FeatureContent) (geometry : Geometry) (found : Option Break) → IsOnce between left → left ≡ e ∷ rest → geometry ≡ e.1.geometry
      → found ≡ first_of (pairs_behind between e.0 geometry) → is_some found ≡ true → found ≡ first_of (flat_map (pairs_of_entry between) between.first.now.features)
  once-found left rest e geometry found once is same gives some =
      found-here (pairs_of_entry between) left e rest (first_of (flat_map (pairs_of_entry between) between.first.now.features)) found once.first is
      (gives ∙ ap (λ g. first_of (pairs_behind between e.0 g)) same ∙ ap first_of (turned left rest e once is)) some

  pub once-none : (left rest : List (ℕ × FeatureContent)) (e : ℕ × FeatureContent) (geometry : Geometry) (found : Option Break) → IsOnce between left → left ≡ e ∷ rest → geometry ≡ e.1.geometry
      → found ≡ first_of (pairs_behind between e.0 geometry) → is_some found ≡ false → IsOnce between rest
  once-none left rest e geometry found once is same gives none =
      let given : found ≡ first_of (pairs_of_entry between e) = gives ∙ ap (λ g. first_of (pairs_behind between e.0 g)) same ∙ ap first_of (turned left rest e once is) in
      record {
        done = once.done ++ e ∷ [];
        splits = once.splits ∙ ap (λ es. once.done ++ es) is ∙ sym (append_assoc once.done (e ∷ []) rest);
        none = each-append (λ d. pairs_of_entry between d ≡ []) once.done (e ∷ []) once.none (none-first (pairs_of_entry between e) (sym (ap is_some given) ∙ none), tt);
        first = none-here (pairs_of_entry between) left e rest (first_of (flat_map (pairs_of_entry between) between.first.now.features)) found once.first is given none;
      }
