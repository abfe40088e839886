-- Exchanges made one after another, and taken back one after another.
use Rattle.std.proofs.Common.{◌≡◌, ℕ, zero, suc, ◌+◌, ◌<◌, ◌≤◌, Bool, true, false, List, [], ◌∷◌, ◌++◌, append_assoc, length, reverse, take, Some, option_map, option_and_then, Result, Ok, Err, IsTrue, slice_index_or, slice_set, refl, ap, sym, subst, ◌∙◌, arith, length-append}
use Rattle.std.specs.Prelude.{OnOk, OnErr}
use Rattle.std.proofs.lemmas.List.{reverse-append}
use Rattle.std.specs.Result.{IsOk, is_ok}
use Rattle.std.specs.List.{AllByRecursion}
use Rattle.std.specs.Map.{values_of}
use Rattle.std.specs.Option.{option_map_or}
use Rattle.sf_layers.specs.Content.{Content, LayerContent, change_at, feature_of, layer_at, with_next_id}
use Rattle.sf_layers.specs.WellFormed.{IsLayer, IsWellFormed}
use Rattle.sf_patches.specs.declared.slot.Slot.{Slot}
use Rattle.sf_patches.specs.declared.slot.Slot.TheVariants.{Counter, State}
use Rattle.sf_patches.specs.Patches.{undoing, put_state, with_slot, before, befores, patched, grows, removes, NoneRemoves, NoneGrows, GrowsFirst}
use Rattle.sf_patches.proofs.Undoing.{undoing_onto, undone_by}
use Rattle.sf_patches.proofs.Rising.{AreRising, KeepRising}
use Rattle.sf_patches.specs.Fits.{IsAt, StayFine, FitsPatch}
use Rattle.sf_patches.proofs.PatchLaws.{with_slot-before, patched-append, grows-before}
use Rattle.sf_patches.proofs.MergedLaws.{state-found, layer_at-change_at, layer_at-rising}

-- ---- a well-formed content has rising identifiers

AreRising-layers : (content : Content) → AllByRecursion IsLayer (values_of content) → AreRising content
AreRising-layers [] all = tt
AreRising-layers (e ∷ es) all = (all.0.rising, AreRising-layers es all.1)

pub AreRising-fine : (content : Content) → IsWellFormed content → AreRising content
AreRising-fine content fine = AreRising-layers content fine.layers

pub KeepRising-fine : (content : Content) (slots : List Slot) → StayFine content slots → KeepRising content slots
KeepRising-fine content [] stay = tt
KeepRising-fine content (slot ∷ slots) stay = (AreRising-fine (with_slot slot content) stay.1, KeepRising-fine (with_slot slot content) slots stay.2)

-- ---- what was put is read back

pub there : (content : Content) (place : ℕ) → place < length content → (layer : LayerContent) × (layer_at content place ≡ Some layer)
there [] place within = absurd (omega (arith, within))
there (e ∷ es) zero within = (e.1, refl)
there (e ∷ es) (suc place) within = there es place (omega (arith, within))

-- the exchange that takes one back leaves it again
pub before-before : (content : Content) (slot : Slot) → IsAt content slot → AreRising content → before (with_slot slot content) (before content slot) ≡ slot
before-before content (Counter place next_id) at rising =
    let l = there content place at in
    ap (λ n. let s : Slot = Counter place n in s)
    (ap (λ o. option_map_or (λ layer. layer.next_id) o 0) (layer_at-change_at content place (with_next_id next_id) ∙ ap (option_map (with_next_id next_id)) l.1))
before-before content (State place id state) at rising =
    let l = there content place at in
    ap (λ s. let x : Slot = State place id s in x)
    (ap (option_and_then (λ layer. feature_of layer id)) (layer_at-change_at content place (put_state id state) ∙ ap (option_map (put_state id state)) l.1)
    ∙ state-found id state l.0 (layer_at-rising content place l.0 rising l.1))

-- ---- some exchanges are made

-- the first n exchanges of a patch are made: they hold what was there, the others what is to come
pub record IsPartly (content : Content) (all : List Slot) (n : ℕ) (now : Content) (slots : List Slot) : Type 0 where
  pub done : List Slot
  pub left : List Slot
  pub parts : all ≡ done ++ left
  pub count : length done ≡ n
  pub led : now ≡ patched content done
  pub held : slots ≡ befores content done ++ left

pub IsPartly-start : (content : Content) (all : List Slot) → IsPartly content all 0 content all
IsPartly-start content all = record { done = []; left = all; parts = refl; count = refl; led = refl; held = refl }

length-befores : (content : Content) (slots : List Slot) → length (befores content slots) ≡ length slots
length-befores content [] = refl
length-befores content (slot ∷ slots) = ap suc (length-befores (with_slot slot content) slots)

index-append : (a b : List Slot) (x d : Slot) (n : ℕ) → length a ≡ n → slice_index_or (a ++ x ∷ b) n d ≡ x
index-append [] b x d n is = ap (λ m. slice_index_or (x ∷ b) m d) (sym is)
index-append (y ∷ a) b x d zero is = absurd (omega (arith, is))
index-append (y ∷ a) b x d (suc n) is = index-append a b x d n (omega (arith, is))

set-append : (a b : List Slot) (x v : Slot) (n : ℕ) → length a ≡ n → slice_set (a ++ x ∷ b) n v ≡ a ++ v ∷ b
set-append [] b x v n is = ap (λ m. slice_set (x ∷ b) m v) (sym is)
set-append (y ∷ a) b x v zero is = absurd (omega (arith, is))
set-append (y ∷ a) b x v (suc n) is = ap (λ rest. y ∷ rest) (set-append a b x v n (omega (arith, is)))

pub befores-append : (content : Content) (a b : List Slot) → befores content (a ++ b) ≡ befores content a ++ befores (patched content a) b
befores-append content [] b = refl
befores-append content (slot ∷ a) b = ap (λ rest. before content slot ∷ rest) (befores-append (with_slot slot content) a b)

-- the list is as long as the patch
pub IsPartly-length : (content : Content) (all : List Slot) (n : ℕ) (now : Content) (slots : List Slot) → IsPartly content all n now slots → length slots ≡ length all
IsPartly-length content all n now slots p =
    ap length p.held ∙ length-append (befores content p.done) p.left ∙ ap (λ k. k + length p.left) (length-befores content p.done)
    ∙ sym (length-append p.done p.left) ∙ ap length (sym p.parts)

-- the next exchange
pub record IsNext (content : Content) (all : List Slot) (n : ℕ) (now : Content) (slots : List Slot) (slot : Slot) : Type 0 where
  pub partly : IsPartly content all n now slots
  pub rest : List Slot
  pub next : partly.left ≡ slot ∷ rest

pub IsNext-at : (content : Content) (all : List Slot) (n : ℕ) (now : Content) (slots : List Slot) (slot : Slot) → IsPartly content all n now slots → n < length all → slot ≡ slice_index_or slots n slot
    → IsNext content all n now slots slot
IsNext-at content all n now slots slot p within at = by p.left refl
  where
    by : (l : List Slot) → p.left ≡ l → IsNext content all n now slots slot
    by [] is =
        let same : length all ≡ length p.done = ap length p.parts ∙ length-append p.done p.left ∙ ap (λ l. length p.done + length l) is ∙ omega arith in
        absurd (omega (arith, within, same, p.count))
    by (x ∷ rest) is =
        let found : slice_index_or slots n slot ≡ x =
        ap (λ ss. slice_index_or ss n slot) (p.held ∙ ap (λ l. befores content p.done ++ l) is) ∙ index-append (befores content p.done) rest x slot n (length-befores content p.done ∙ p.count) in
        record { partly = p; rest = rest; next = is ∙ ap (λ y. y ∷ rest) (sym (at ∙ found)) }

StayFine-at : (content : Content) (done rest : List Slot) (slot : Slot) → StayFine content (done ++ slot ∷ rest) → IsAt (patched content done) slot × IsWellFormed (with_slot slot (patched content done))
StayFine-at content [] rest slot stay = (stay.0, stay.1)
StayFine-at content (d ∷ done) rest slot stay = StayFine-at (with_slot d content) done rest slot stay.2

-- it can be made
pub fine-next : (content : Content) (all : List Slot) (n : ℕ) (now : Content) (slots : List Slot) (slot : Slot) → IsNext content all n now slots slot → StayFine content all
    → IsAt now slot × IsWellFormed (with_slot slot now)
fine-next content all n now slots slot x stay =
    subst (λ c. IsAt c slot × IsWellFormed (with_slot slot c)) (sym x.partly.led)
    (StayFine-at content x.partly.done x.rest slot (subst (StayFine content) (x.partly.parts ∙ ap (λ l. x.partly.done ++ l) x.next) stay))

-- and is made
pub IsPartly-next : (content : Content) (all : List Slot) (n : ℕ) (now : Content) (slots : List Slot) (slot new : Slot) (after : Content) → IsNext content all n now slots slot
    → after ≡ with_slot slot now → new ≡ before now slot → IsPartly content all (n + 1) after (slice_set slots n new)
IsPartly-next content all n now slots slot new after x to back =
    let p = x.partly in
    record {
      done = p.done ++ slot ∷ [];
      left = x.rest;
      parts = p.parts ∙ ap (λ l. p.done ++ l) x.next ∙ sym (append_assoc p.done (slot ∷ []) x.rest);
      count = length-append p.done (slot ∷ []) ∙ ap (λ k. k + 1) p.count;
      led = to ∙ ap (with_slot slot) p.led ∙ sym (patched-append content p.done (slot ∷ []));
      held =
          ap (λ ss. slice_set ss n new) (p.held ∙ ap (λ l. befores content p.done ++ l) x.next)
          ∙ set-append (befores content p.done) x.rest slot new n (length-befores content p.done ∙ p.count)
          ∙ ap (λ s. befores content p.done ++ s ∷ x.rest) (back ∙ ap (λ c. before c slot) p.led)
          ∙ sym (append_assoc (befores content p.done) (before (patched content p.done) slot ∷ []) x.rest)
          ∙ ap (λ b. b ++ x.rest) (sym (befores-append content p.done (slot ∷ [])));
    }

-- or stays as it is
pub IsNext-kept : (content : Content) (all : List Slot) (n : ℕ) (now : Content) (slots : List Slot) (slot new : Slot) → IsNext content all n now slots slot → new ≡ slot → slice_set slots n new ≡ slots
IsNext-kept content all n now slots slot new x is =
    let p = x.partly in
    let held : slots ≡ befores content p.done ++ slot ∷ x.rest = p.held ∙ ap (λ l. befores content p.done ++ l) x.next in
    ap (λ ss. slice_set ss n new) held ∙ set-append (befores content p.done) x.rest slot new n (length-befores content p.done ∙ p.count)
    ∙ ap (λ s. befores content p.done ++ s ∷ x.rest) is ∙ sym held

-- all are made
pub IsPartly-all : (content : Content) (all : List Slot) (n : ℕ) (now : Content) (slots : List Slot) → IsPartly content all n now slots → length all ≤ n → (now ≡ patched content all) × (slots ≡ befores content all)
IsPartly-all content all n now slots p whole = by p.left refl
  where
    append-none : (xs : List Slot) → xs ++ [] ≡ xs
    append-none [] = refl
    append-none (x ∷ xs) = ap (λ r. x ∷ r) (append-none xs)

    by : (l : List Slot) → p.left ≡ l → (now ≡ patched content all) × (slots ≡ befores content all)
    by [] is =
        let same : all ≡ p.done = p.parts ∙ ap (λ l. p.done ++ l) is ∙ append-none p.done in
        (p.led ∙ ap (patched content) (sym same), p.held ∙ ap (λ l. befores content p.done ++ l) is ∙ append-none (befores content p.done) ∙ ap (befores content) (sym same))
    by (x ∷ rest) is =
        let longer : length all ≡ length p.done + suc (length rest) = ap length p.parts ∙ ap (λ l. length (p.done ++ l)) is ∙ length-append p.done (x ∷ rest) in
        absurd (omega (arith, whole, longer, p.count))

-- none is made
pub IsPartly-none : (content : Content) (all : List Slot) (now : Content) (slots : List Slot) → IsPartly content all 0 now slots → (now ≡ content) × (slots ≡ all)
IsPartly-none content all now slots p = by p.done refl
  where
    by : (d : List Slot) → p.done ≡ d → (now ≡ content) × (slots ≡ all)
    by [] is = (p.led ∙ ap (patched content) is, p.held ∙ ap (λ d. befores content d ++ p.left) is ∙ sym (p.parts ∙ ap (λ d. d ++ p.left) is))
    by (x ∷ d) is = let long : suc (length d) ≡ 0 = sym (ap length is) ∙ p.count in absurd (omega (arith, long))

-- ---- no memory was found for one

-- what stands before one that grows leaves none where one was
pub front-of : (content : Content) (front back done rest : List Slot) (slot : Slot) → front ++ back ≡ done ++ slot ∷ rest → NoneRemoves content front → NoneGrows (patched content front) back
    → grows (patched content done) slot ≡ true → NoneRemoves content done
front-of content front back [] rest slot parts removes_none grows_none grew = tt
front-of content [] back (d ∷ done) rest slot parts removes_none grows_none grew =
    let none : grows (patched content (d ∷ done)) slot ≡ false = none-at content (d ∷ done) (subst (NoneGrows content) parts grows_none) in cc
  where
    none-at : (c : Content) (ds : List Slot) → NoneGrows c (ds ++ slot ∷ rest) → grows (patched c ds) slot ≡ false
    none-at c [] h = h.0
    none-at c (x ∷ ds) h = none-at (with_slot x c) ds h.1
front-of content (f ∷ front) back (d ∷ done) rest slot parts removes_none grows_none grew =
    let heads : f ≡ d = ap (head_or f) parts in
    let tails : front ++ back ≡ done ++ slot ∷ rest = ap tail_of parts in (
      subst (λ x. removes content x ≡ false) heads removes_none.0,
      front-of (with_slot d content) front back done rest slot tails (subst (λ x. NoneRemoves (with_slot x content) front) heads removes_none.1)
          (subst (λ x. NoneGrows (patched (with_slot x content) front) back) heads grows_none) grew,
    )
  where
    head_or : Slot → List Slot → Slot
    head_or x [] = x
    head_or x (y ∷ ys) = y

    tail_of : List Slot → List Slot
    tail_of [] = []
    tail_of (y ∷ ys) = ys

NoneGrows-at : (content : Content) (done rest : List Slot) (slot : Slot) → NoneGrows content (done ++ slot ∷ rest) → grows (patched content done) slot ≡ false
NoneGrows-at content [] rest slot none = none.0
NoneGrows-at content (d ∷ done) rest slot none = NoneGrows-at (with_slot d content) done rest slot none.1

-- where none grows, the next one does not
pub grows-next : (content : Content) (all : List Slot) (n : ℕ) (now : Content) (slots : List Slot) (slot : Slot) → IsNext content all n now slots slot → NoneGrows content all → grows now slot ≡ false
grows-next content all n now slots slot x none =
    ap (λ c. grows c slot) x.partly.led
    ∙ NoneGrows-at content x.partly.done x.rest slot (subst (NoneGrows content) (x.partly.parts ∙ ap (λ l. x.partly.done ++ l) x.next) none)

-- exchanges that are to be taken back
pub record IsToTakeBack (content : Content) (all : List Slot) (n : ℕ) (now : Content) (slots : List Slot) : Type 0 where
  pub partly : IsPartly content all n now slots
  pub none_removes : NoneRemoves content partly.done

pub IsToTakeBack-grown : (content : Content) (all : List Slot) (n : ℕ) (now : Content) (slots : List Slot) (slot : Slot) → IsNext content all n now slots slot → GrowsFirst content all → IsTrue (grows now slot)
    → IsToTakeBack content all n now slots
IsToTakeBack-grown content all n now slots slot x first grew = record {
  partly = x.partly;
  none_removes = front-of content first.front first.back x.partly.done x.rest slot (sym first.parts ∙ x.partly.parts ∙ ap (λ l. x.partly.done ++ l) x.next) first.none_removes first.none_grows
      (sym (ap (λ c. grows c slot) x.partly.led) ∙ grew);
}

-- the last of a list that is not empty
record HasLast (xs : List Slot) (n : ℕ) : Type 0 where
  front : List Slot
  last : Slot
  parts : xs ≡ front ++ last ∷ []
  count : length front ≡ n

HasLast-of : (xs : List Slot) (n : ℕ) → length xs ≡ suc n → HasLast xs n
HasLast-of [] n is = absurd (omega (arith, is))
HasLast-of (x ∷ []) n is = record { front = []; last = x; parts = refl; count = omega (arith, is) }
HasLast-of (x ∷ (y ∷ ys)) zero is = absurd (omega (arith, is))
HasLast-of (x ∷ (y ∷ ys)) (suc n) is =
    let l = HasLast-of (y ∷ ys) n (omega (arith, is)) in
    record { front = x ∷ l.front; last = l.last; parts = ap (λ r. x ∷ r) l.parts; count = ap suc l.count }

-- the last one that was made, and what takes it back
pub record IsLast (content : Content) (all : List Slot) (n : ℕ) (now : Content) (slots : List Slot) (back : Slot) : Type 0 where
  pub done : List Slot
  pub slot : Slot
  pub left : List Slot
  pub parts : all ≡ done ++ slot ∷ left
  pub count : length done ≡ n
  pub led : now ≡ with_slot slot (patched content done)
  pub held : slots ≡ befores content done ++ back ∷ left
  pub is_back : back ≡ before (patched content done) slot
  pub none_removes : NoneRemoves content done
  pub last_removes : removes (patched content done) slot ≡ false

NoneRemoves-last : (content : Content) (done : List Slot) (slot : Slot) → NoneRemoves content (done ++ slot ∷ []) → NoneRemoves content done × (removes (patched content done) slot ≡ false)
NoneRemoves-last content [] slot none = (tt, none.0)
NoneRemoves-last content (d ∷ done) slot none = let more = NoneRemoves-last (with_slot d content) done slot none.1 in ((none.0, more.0), more.1)

pub IsLast-at : (content : Content) (all : List Slot) (n : ℕ) (now : Content) (slots : List Slot) (back : Slot) → IsToTakeBack content all (suc n) now slots → back ≡ slice_index_or slots n back → IsLast content all n now slots back
IsLast-at content all n now slots back t at =
    let p = t.partly in
    let l = HasLast-of p.done n p.count in
    let none = NoneRemoves-last content l.front l.last (subst (NoneRemoves content) l.parts t.none_removes) in
    let c : Content = patched content l.front in
    let held : slots ≡ befores content l.front ++ before c l.last ∷ p.left =
    p.held ∙ ap (λ d. befores content d ++ p.left) l.parts ∙ ap (λ b. b ++ p.left) (befores-append content l.front (l.last ∷ [])) ∙ append_assoc (befores content l.front) (before c l.last ∷ []) p.left in
    let is_back : back ≡ before c l.last =
    at ∙ ap (λ ss. slice_index_or ss n back) held ∙ index-append (befores content l.front) p.left (before c l.last) back n (length-befores content l.front ∙ l.count) in
    record {
      done = l.front;
      slot = l.last;
      left = p.left;
      parts = p.parts ∙ ap (λ d. d ++ p.left) l.parts ∙ append_assoc l.front (l.last ∷ []) p.left;
      count = l.count;
      led = p.led ∙ ap (patched content) l.parts ∙ patched-append content l.front (l.last ∷ []);
      held = held ∙ ap (λ b. befores content l.front ++ b ∷ p.left) (sym is_back);
      is_back = is_back;
      none_removes = none.0;
      last_removes = none.1;
    }

AreRising-prefix : (content : Content) (done rest : List Slot) → AreRising content → StayFine content (done ++ rest) → AreRising (patched content done)
AreRising-prefix content [] rest rising stay = rising
AreRising-prefix content (d ∷ done) rest rising stay = AreRising-prefix (with_slot d content) done rest (AreRising-fine (with_slot d content) stay.1) stay.2

IsWellFormed-prefix : (content : Content) (done rest : List Slot) → IsWellFormed content → StayFine content (done ++ rest) → IsWellFormed (patched content done)
IsWellFormed-prefix content [] rest fine stay = fine
IsWellFormed-prefix content (d ∷ done) rest fine stay = IsWellFormed-prefix (with_slot d content) done rest stay.1 stay.2

length-change_at : (content : Content) (place : ℕ) (f : LayerContent → LayerContent) → length (change_at place f content) ≡ length content
length-change_at [] place f = refl
length-change_at (e ∷ es) zero f = refl
length-change_at (e ∷ es) (suc place) f = ap suc (length-change_at es place f)

pub IsAt-back : (content : Content) (slot : Slot) → IsAt content slot → IsAt (with_slot slot content) (before content slot)
IsAt-back content (Counter place next_id) at = subst (λ n. place < n) (sym (length-change_at content place (with_next_id next_id))) at
IsAt-back content (State place id state) at = subst (λ n. place < n) (sym (length-change_at content place (put_state id state))) at

-- it can be taken back, and no memory is needed for that
pub record CanTakeBack (now : Content) (back : Slot) : Type 0 where
  pub is_there : IsAt now back
  pub fits : IsWellFormed (with_slot back now)
  pub grows_not : grows now back ≡ false

pub CanTakeBack-last : (content : Content) (all : List Slot) (n : ℕ) (now : Content) (slots : List Slot) (back : Slot) → IsLast content all n now slots back → FitsPatch content all → CanTakeBack now back
CanTakeBack-last content all n now slots back x fits =
    let stay = subst (StayFine content) x.parts fits.fine in
    let c : Content = patched content x.done in
    let at = (StayFine-at content x.done x.left x.slot stay).0 in
    let fine = IsWellFormed-prefix content x.done (x.slot ∷ x.left) fits.well_formed stay in
    subst (λ m. CanTakeBack m back) (sym x.led) (subst (λ b. CanTakeBack (with_slot x.slot c) b) (sym x.is_back) (record {
      is_there = IsAt-back c x.slot at;
      fits = subst IsWellFormed (sym (with_slot-before c x.slot (AreRising-fine c fine))) fine;
      grows_not = grows-before c x.slot x.last_removes;
    }))

-- and is taken back
pub IsToTakeBack-less : (content : Content) (all : List Slot) (n : ℕ) (now : Content) (slots : List Slot) (back new : Slot) (after : Content) → IsLast content all n now slots back → FitsPatch content all
    → after ≡ with_slot back now → new ≡ before now back → IsToTakeBack content all n after (slice_set slots n new)
IsToTakeBack-less content all n now slots back new after x fits to is =
    let stay = subst (StayFine content) x.parts fits.fine in
    let c : Content = patched content x.done in
    let at = (StayFine-at content x.done x.left x.slot stay).0 in
    let rising = AreRising-fine c (IsWellFormed-prefix content x.done (x.slot ∷ x.left) fits.well_formed stay) in
    let slot_again : new ≡ x.slot =
    is ∙ ap (λ m. before m back) x.led ∙ ap (before (with_slot x.slot c)) x.is_back ∙ before-before c x.slot at rising in
    record {
      partly = record {
        done = x.done;
        left = x.slot ∷ x.left;
        parts = x.parts;
        count = x.count;
        led = to ∙ ap (with_slot back) x.led ∙ ap (λ b. with_slot b (with_slot x.slot c)) x.is_back ∙ with_slot-before c x.slot rising;
        held =
            ap (λ ss. slice_set ss n new) x.held ∙ set-append (befores content x.done) x.left back new n (length-befores content x.done ∙ x.count)
            ∙ ap (λ s. befores content x.done ++ s ∷ x.left) slot_again;
      };
      none_removes = x.none_removes;
    }

-- ---- answers of calls

pub then-ok : {X E P : Type 0} (r : Result X E) → is_ok r ≡ true → OnOk r P → P
then-ok (Ok x) is h = h
then-ok (Err e) is h = cc

pub else-err : {X E P : Type 0} (r : Result X E) → is_ok r ≡ false → OnErr r P → P
else-err (Ok x) is h = cc
else-err (Err e) is h = h

-- where an error would say that it grew, and it does not, there is none
pub ok-unless : {X E : Type 0} (r : Result X E) (b : Bool) → OnErr r (IsTrue b) → b ≡ false → IsOk r
ok-unless (Ok x) b h is = refl
ok-unless (Err e) b h is = let no : true ≡ false = sym h ∙ is in cc

pub ok-then : {X E P : Type 0} (r : Result X E) → IsOk r → OnOk r P → P
ok-then (Ok x) is h = h
ok-then (Err e) is h = cc

-- ---- the list turned round

reverse-onto : (xs : List Slot) (x : Slot) (others : List Slot) → reverse xs ++ x ∷ others ≡ reverse (x ∷ xs) ++ others
reverse-onto xs x others = sym (append_assoc (reverse xs) (x ∷ []) others) ∙ ap (λ ys. ys ++ others) (sym (reverse-append (x ∷ []) xs))

-- what stood before, the last one first
undoing_onto-reverse : (content : Content) (slots others : List Slot) → undoing_onto content slots others ≡ reverse (befores content slots) ++ others
undoing_onto-reverse content [] others = refl
undoing_onto-reverse content (slot ∷ slots) others =
    undoing_onto-reverse (with_slot slot content) slots (before content slot ∷ others) ∙ reverse-onto (befores (with_slot slot content) slots) (before content slot) others

pub undone_by-undoing : (content : Content) (slots : List Slot) → undone_by content slots ≡ undoing content slots
undone_by-undoing content slots = undoing_onto-reverse content slots [] ∙ append-none (reverse (befores content slots))
  where
    append-none : (xs : List Slot) → xs ++ [] ≡ xs
    append-none [] = refl
    append-none (x ∷ xs) = ap (λ r. x ∷ r) (append-none xs)

-- a list that was written back whole
pub written_back : (n : ℕ) (xs ys : List Slot) → n ≡ length xs → take n (xs ++ ys) ≡ xs
written_back n [] ys h = ap (λ k. take k ys) h
written_back zero (x ∷ xs) ys h = absurd (omega (arith, h))
written_back (suc n) (x ∷ xs) ys h = ap (λ zs. x ∷ zs) (written_back n xs ys (omega (arith, h)))
