-- Entries as a map from identifier to box: one more, one fewer, and how many there are.
use Rattle.std.specs.Prelude.{◌≡◌, ◌≢◌, ℕ, ◌+◌, ◌<◌, ◌≤◌, ◌^◌, Bool, true, false, cond, List, [], ◌∷◌, None, Some, length, nat_eq, if◌then◌else◌}
use Rattle.std.specs.List.{AllByRecursion}
use Rattle.std.proofs.Common.{refl, ap, sym, ◌∙◌, subst, arith, suc, true≢false}
use Rattle.std.proofs.lemmas.Bool.{eq-eqb, eqb-false, eqb-true}
use Rattle.sf_geometry.specs.declared.extent.Extent.{Extent}
use Rattle.sf_rtree.specs.declared.entry.Key.{Key}
use Rattle.sf_rtree.specs.Boxed.{Boxed}
use Rattle.sf_rtree.specs.Curves.{comes_before, is_key, key_of, put, taken}
use Rattle.sf_rtree.specs.Indexes.{Boxes, box_of, with_box, without_box}
use Rattle.sf_rtree.specs.Subtrees.{IsDistinct, IsRoot, Subtree, boxes_of}
use Rattle.sf_rtree.proofs.Maps.{Rises, all-with_box, box-later, box-with_box, box-without_box, by_order, rises-with_box, rises-without_box, same_boxes, swapped, with-above, with-below, none_some}
use Rattle.sf_rtree.proofs.Meeting.{and-both, and-right}
use Rattle.sf_rtree.proofs.Order.{all-put, all-taken, all_map}

-- the entries as pairs, in their own order
abbrev pub pairs : List Boxed → Boxes
pairs [] = []
pairs (e ∷ es) = (e.id, e.extent) ∷ pairs es

pub box-boxes_of : (es : List Boxed) (q : ℕ) → box_of (boxes_of es) q ≡ box_of (pairs es) q
box-boxes_of [] q = refl
box-boxes_of (e ∷ es) q =
    box-with_box e.id e.extent (boxes_of es) q ∙ ap (λ o. cond (nat_eq q e.id) (Some e.extent) o) (box-boxes_of es q)

pub rises-boxes_of : (es : List Boxed) → Rises (boxes_of es)
rises-boxes_of [] = tt
rises-boxes_of (e ∷ es) = rises-with_box e.id e.extent (boxes_of es) (rises-boxes_of es)

-- a rising map with the look-ups of the entries is theirs
pub map_of_entries : (es : List Boxed) (m : Boxes) → Rises m → ((q : ℕ) → box_of (pairs es) q ≡ box_of m q) → boxes_of es ≡ m
map_of_entries es m rises same = same_boxes (boxes_of es) m (rises-boxes_of es) rises (λ q. box-boxes_of es q ∙ same q)

-- ---- identifiers that are free

pub absent : (id : ℕ) (es : List Boxed) → AllByRecursion (λ f. f.id ≢ id) es → box_of (pairs es) id ≡ None
absent id [] h = refl
absent id (e ∷ es) h = box-later id (e.id, e.extent) (pairs es) (λ p. h.0 (sym p)) ∙ absent id es h.1

free-pairs : (id : ℕ) (es : List Boxed) → box_of (pairs es) id ≡ None → AllByRecursion (λ f. f.id ≢ id) es
free-pairs id [] h = tt
free-pairs id (e ∷ es) h = at (free-pairs id es) (nat_eq id e.id) refl h
  where
    at : (box_of (pairs es) id ≡ None → AllByRecursion (λ f. f.id ≢ id) es) → (b : Bool) → nat_eq id e.id ≡ b
        → cond b (Some e.extent) (box_of (pairs es) id) ≡ None → AllByRecursion (λ f. f.id ≢ id) (e ∷ es)
    at rest true is none = none_some (Some e.extent) e.extent (AllByRecursion (λ f. f.id ≢ id) (e ∷ es)) none refl
    at rest false is none = (λ p. eqb-false id e.id is (sym p), rest none)

pub free : (id : ℕ) (es : List Boxed) → box_of (boxes_of es) id ≡ None → AllByRecursion (λ f. f.id ≢ id) es
free id es h = free-pairs id es (sym (box-boxes_of es id) ∙ h)

-- ---- one entry more

box-put : (e : Boxed) (es : List Boxed) → AllByRecursion (λ f. f.id ≢ e.id) es → (q : ℕ)
    → box_of (pairs (put e es)) q ≡ cond (nat_eq q e.id) (Some e.extent) (box_of (pairs es) q)
box-put e [] h q = refl
box-put e (f ∷ fs) h q = at (box-put e fs h.1 q) (comes_before (key_of f) (key_of e))
  where
    at : box_of (pairs (put e fs)) q ≡ cond (nat_eq q e.id) (Some e.extent) (box_of (pairs fs) q) → (b : Bool)
        → box_of (pairs (if b then f ∷ put e fs else e ∷ f ∷ fs)) q ≡ cond (nat_eq q e.id) (Some e.extent) (box_of (pairs (f ∷ fs)) q)
    at rest true =
        ap (λ o. cond (nat_eq q f.id) (Some f.extent) o) rest ∙ swapped q f.id e.id (Some f.extent) (Some e.extent) (box_of (pairs fs) q) h.0
    at rest false = refl

pub boxes_of-put : (e : Boxed) (es : List Boxed) → AllByRecursion (λ f. f.id ≢ e.id) es → boxes_of (put e es) ≡ with_box e.id e.extent (boxes_of es)
boxes_of-put e es h =
    map_of_entries (put e es) (with_box e.id e.extent (boxes_of es)) (rises-with_box e.id e.extent (boxes_of es) (rises-boxes_of es))
    (λ q. box-put e es h q ∙ ap (λ o. cond (nat_eq q e.id) (Some e.extent) o) (sym (box-boxes_of es q))
    ∙ sym (box-with_box e.id e.extent (boxes_of es) q))

pub distinct-put : (e : Boxed) (es : List Boxed) → AllByRecursion (λ f. f.id ≢ e.id) es → IsDistinct es → IsDistinct (put e es)
distinct-put e [] h d = (tt, tt)
distinct-put e (f ∷ fs) h d = at (distinct-put e fs h.1 d.1) (comes_before (key_of f) (key_of e))
  where
    at : IsDistinct (put e fs) → (b : Bool) → IsDistinct (if b then f ∷ put e fs else e ∷ f ∷ fs)
    at rest true = (all-put (λ g. g.id ≢ f.id) e fs (λ p. h.0 (sym p)) d.0, rest)
    at rest false = (h, d)

-- ---- one entry fewer

box-taken : (k : Key) (x : Extent) (es : List Boxed) → IsDistinct es → box_of (pairs es) k.id ≡ Some x → k ≡ key_of (record { id = k.id; extent = x })
    → (q : ℕ) → box_of (pairs (taken k es)) q ≡ cond (nat_eq q k.id) None (box_of (pairs es) q)
box-taken k x [] d found key q = none_some None x _ refl found
box-taken k x (f ∷ fs) d found key q = at (λ there. box-taken k x fs d.1 there key q) (is_key (key_of f) k) refl
  where
    here : f.id ≡ k.id → (b : Bool) → nat_eq q k.id ≡ b → box_of (pairs fs) q ≡ cond b None (cond (nat_eq q f.id) (Some f.extent) (box_of (pairs fs) q))
    here same true is = ap (box_of (pairs fs)) (eqb-true q k.id is ∙ sym same) ∙ absent f.id fs d.0
    here same false is = sym (box-later q (f.id, f.extent) (pairs fs) (λ p. eqb-false q k.id is (p ∙ same)))

    same_key : k.id ≡ f.id → is_key (key_of f) k ≡ true
    same_key same =
        let e : Some f.extent ≡ Some x = sym (ap (λ b. cond b (Some f.extent) (box_of (pairs fs) k.id)) (eq-eqb k.id f.id same)) ∙ found in
        let b : f.extent ≡ x = cc in
        let l : k ≡ key_of f = key ∙ ap (λ i. key_of (record { id = i; extent = x })) same ∙ ap (λ y. key_of (record { id = f.id; extent = y })) (sym b) in
        subst (λ l. is_key (key_of f) l ≡ true) (sym l) (and-both _ _ (eq-eqb (key_of f).place (key_of f).place refl) (eq-eqb f.id f.id refl))

    at : (box_of (pairs fs) k.id ≡ Some x → box_of (pairs (taken k fs)) q ≡ cond (nat_eq q k.id) None (box_of (pairs fs) q)) → (b : Bool)
        → is_key (key_of f) k ≡ b → box_of (pairs (if b then fs else f ∷ taken k fs)) q ≡ cond (nat_eq q k.id) None (box_of (pairs (f ∷ fs)) q)
    at rest true is = here (eqb-true f.id k.id (and-right (nat_eq (key_of f).place k.place) (nat_eq f.id k.id) is)) (nat_eq q k.id) refl
    at rest false is =
        let apart : k.id ≢ f.id = λ p. true≢false (sym (same_key p) ∙ is) in
        ap (λ o. cond (nat_eq q f.id) (Some f.extent) o) (rest (sym (box-later k.id (f.id, f.extent) (pairs fs) apart) ∙ found))
        ∙ swapped q f.id k.id (Some f.extent) None (box_of (pairs fs) q) (λ p. apart (sym p))

pub boxes_of-taken : (k : Key) (x : Extent) (es : List Boxed) → IsDistinct es → box_of (boxes_of es) k.id ≡ Some x → k ≡ key_of (record { id = k.id; extent = x })
    → boxes_of (taken k es) ≡ without_box k.id (boxes_of es)
boxes_of-taken k x es d found key =
    map_of_entries (taken k es) (without_box k.id (boxes_of es)) (rises-without_box k.id (boxes_of es) (rises-boxes_of es))
    (λ q. box-taken k x es d (sym (box-boxes_of es k.id) ∙ found) key q ∙ ap (λ o. cond (nat_eq q k.id) None o) (sym (box-boxes_of es q))
    ∙ sym (box-without_box k.id (boxes_of es) (rises-boxes_of es) q))

pub distinct-taken : (k : Key) (es : List Boxed) → IsDistinct es → IsDistinct (taken k es)
distinct-taken k [] d = tt
distinct-taken k (f ∷ fs) d = at (distinct-taken k fs d.1) (is_key (key_of f) k)
  where
    at : IsDistinct (taken k fs) → (b : Bool) → IsDistinct (if b then fs else f ∷ taken k fs)
    at rest true = d.1
    at rest false = (all-taken (λ g. g.id ≢ f.id) k fs d.0, rest)

-- ---- how many there are

length-with_box : (id : ℕ) (x : Extent) (es : Boxes) → box_of es id ≡ None → length (with_box id x es) ≡ suc (length es)
length-with_box id x [] none = refl
length-with_box id x (e ∷ es) none = at (length-with_box id x es)
  where
    at : (box_of es id ≡ None → length (with_box id x es) ≡ suc (length es)) → length (with_box id x (e ∷ es)) ≡ suc (suc (length es))
    at rest =
        by_order (length (with_box id x (e ∷ es)) ≡ suc (suc (length es))) id e.0
        (λ o. ap length (with-below id x e es o))
        (λ o. none_some (box_of (e ∷ es) id) e.1 _ none (ap (λ b. cond b (Some e.1) (box_of es id)) (eq-eqb id e.0 o)))
        (λ o. let apart : id ≢ e.0 = omega arith in
        ap length (with-above id x e es o) ∙ ap suc (rest (sym (box-later id e es apart) ∙ none)))

pub length-boxes_of : (es : List Boxed) → IsDistinct es → length (boxes_of es) ≡ length es
length-boxes_of [] d = refl
length-boxes_of (e ∷ es) d =
    length-with_box e.id e.extent (boxes_of es) (box-boxes_of es e.id ∙ absent e.id es d.0) ∙ ap suc (length-boxes_of es d.1)

length-rising : (low end : ℕ) (es : Boxes) → low ≤ end → Rises es → AllByRecursion (λ f. low ≤ f.0) es → AllByRecursion (λ f. f.0 < end) es → low + length es ≤ end
length-rising low end [] h rises above below = omega arith
length-rising low end (e ∷ es) h rises above below =
    omega (arith, above.0, length-rising (suc e.0) end es (omega (arith, below.0)) rises.1 (all_map (λ f. e.0 < f.0) (λ f. suc e.0 ≤ f.0) (λ f p. omega (arith, p)) es rises.0) below.1)

ids-boxes_of : (P : ℕ → Type 0) (es : List Boxed) → AllByRecursion (λ e. P e.id) es → AllByRecursion (λ f. P f.0) (boxes_of es)
ids-boxes_of P [] h = tt
ids-boxes_of P (e ∷ es) h = all-with_box P e.id e.extent (boxes_of es) h.0 (ids-boxes_of P es h.1)

any_number : (es : Boxes) → AllByRecursion (λ f. 0 ≤ f.0) es
any_number [] = tt
any_number (e ∷ es) = (omega arith, any_number es)

pub few_entries : (n : Subtree) → IsRoot n → length n.entries ≤ 2 ^ 32
few_entries n root =
    omega (
      arith,
      length-boxes_of n.entries root.distinct,
      length-rising 0 (2 ^ 32) (boxes_of n.entries) (omega arith) (rises-boxes_of n.entries) (any_number (boxes_of n.entries)) (ids-boxes_of (λ id. id < 2 ^ 32) n.entries root.small),
    )
