-- What the edits of whole layers, and what takes them back, have to show.
use Rattle.std.proofs.Common.{◌≡◌, ℕ, zero, suc, ◌+◌, ◌-◌, ◌<◌, ◌≤◌, Bool, true, false, cond, not, List, [], ◌∷◌, length, take, insert, remove, slice_get, slice_set, Option, None, Some, is_some, option_map, Ok, bytes_eq, nat_lt, refl, ap, sym, subst, ◌∙◌, arith}
use Rattle.std.specs.Prelude.{IsSomeAnd}
use Rattle.std.specs.Option.{IfSome, option_map_or}
use Rattle.std.proofs.lemmas.Bool.{lt-ltb, ltb-true}
use Rattle.std.proofs.lemmas.List.Edits.{insert_end, length-insert}
use Rattle.std.proofs.lemmas.Slice.Eq.{bytes_eq-Decides}
use Rattle.sf_features.specs.Names.{is_name}
use Rattle.sf_layers.specs.Content.{Content, LayerContent, empty_layer, has_layer, layer_of, moved, place_of, renamed_at}
use Rattle.sf_layers.specs.WellFormed.{IsWellFormed}
use Rattle.sf_layers.specs.declared.layer_kind.LayerKind.{LayerKind}
use Rattle.sf_layers.proofs.Changes.{layer_of-place_of, place_of-within}
use Rattle.sf_layers.proofs.Places.{entry_at_place, layer_of-remove, length-remove, slice_get-below, slice_get-insert}
use Rattle.sf_steps.specs.declared.edit.Edit.TheVariants as edits
use Rattle.sf_steps.specs.declared.inverse.Inverse.TheVariants.{PutLayer, RenameLayer, MoveLayer}
use Rattle.sf_steps.specs.declared.refusal.Refusal.TheVariants.{NoLayer, BadName, LayerExists, BadPlace}
use Rattle.sf_steps.specs.Steps.{checks, effect, first_refusal, unless}
use Rattle.sf_steps.specs.Inverses.{Carries, Fits, described, inverse_of, no_layer, renaming, the_layer}
use Rattle.sf_steps.proofs.Passes.{absent_from_not, passed, there_from_test}
use Rattle.sf_steps.proofs.StepsFine.{effect_fine}
use Rattle.sf_edits.proofs.Carrying.{Accepted-Fits, Carries-done}
use Rattle.sf_edits.proofs.There.{renamed-there}

-- ---- a layer put last, and taken off

pub adding-free : (content : Content) (name : List ℕ) (kind : LayerKind) → first_refusal (checks content (edits.AddLayer name kind)) ≡ None → layer_of content name ≡ None
adding-free content name kind h =
    let first = passed (is_name name) BadName _ h in
    let second = passed (not (has_layer content name)) LayerExists _ first.1 in
    absent_from_not (layer_of content name) second.0

-- what is put in at the end stands last
pub added-last : (content : Content) (name : List ℕ) (kind : LayerKind) (place : ℕ) (layer : LayerContent) → place ≡ length content → layer ≡ empty_layer kind
    → insert content place (name, layer) ≡ effect content (edits.AddLayer name kind)
added-last content name kind place layer at new =
    ap (λ n. insert content n (name, layer)) at ∙ ap (λ l. insert content (length content) (name, l)) new ∙ insert_end content (name, empty_layer kind)

-- taking the last one out leaves those before it
pub remove-end : {X : Type 0} (xs : List X) → remove xs (length xs - 1) ≡ take (length xs - 1) xs
remove-end [] = refl
remove-end (x ∷ []) = refl
remove-end (x ∷ y ∷ ys) =
    let longer : length (x ∷ y ∷ ys) - 1 ≡ suc (length (y ∷ ys) - 1) = omega arith in
    ap (λ n. remove (x ∷ y ∷ ys) n) longer ∙ ap (λ rest. x ∷ rest) (remove-end (y ∷ ys)) ∙ sym (ap (λ n. take n (x ∷ y ∷ ys)) longer)

-- ---- a layer taken out, and put back

-- a layer of the name is there, at the place of the name
pub entry-found : (content : Content) (name : List ℕ) → has_layer content name ≡ true → (layer : LayerContent) × ((layer_of content name ≡ Some layer) × (slice_get content (place_of content name) ≡ Some (name, layer)))
entry-found content name found =
    let there = there_from_test (layer_of content name) found in
    (there.0, (there.1, entry_at_place content name there.0 there.1))

pub place-within : (content : Content) (name : List ℕ) (place : ℕ) → has_layer content name ≡ true → place ≡ place_of content name → place < length content
place-within content name place found at = subst (λ n. n < length content) (sym at) (place_of-within content name found)

-- the place that was looked up is the place of the name
pub found-place : (content : Content) (name read : List ℕ) (place : ℕ) (result : Option ℕ) → read ≡ name → result ≡ Some place → IfSome result (λ p. p ≡ place_of content read) → place ≡ place_of content name
found-place content name read place result same is at = subst (λ o. IfSome o (λ p. p ≡ place_of content read)) is at ∙ ap (place_of content) same

pub dropping-passed : (content : Content) (name : List ℕ) → has_layer content name ≡ true → first_refusal (checks content (edits.DropLayer name)) ≡ None
dropping-passed content name found = ap (λ b. first_refusal (unless b NoLayer ∷ [])) found

same_entry : (entry other : List ℕ × LayerContent) → Some entry ≡ Some other → entry ≡ other
same_entry entry other h = cc

pub dropped : (content new : Content) (name : List ℕ) (place : ℕ) (stored : List ℕ) (layer : LayerContent) → IsWellFormed content → has_layer content name ≡ true → place ≡ place_of content name
    → slice_get content place ≡ Some (stored, layer) → new ≡ remove content place → Carries content (edits.DropLayer name) (Ok (PutLayer name place stored layer)) new
dropped content new name place stored layer fine found at taken is =
    let there = entry-found content name found in
    let entry : (stored, layer) ≡ (name, there.0) = same_entry (stored, layer) (name, there.0) (sym taken ∙ ap (slice_get content) at ∙ there.1.1) in
    let layer_is : the_layer content name ≡ there.0 = ap (λ o. option_map_or (λ l. l) o no_layer) there.1.0 in
    Carries-done content new (edits.DropLayer name) (PutLayer name place stored layer) fine (dropping-passed content name found)
    (sym (is ∙ ap (remove content) at))
    (ap (λ n. PutLayer name n stored layer) at ∙ ap (λ e. PutLayer name (place_of content name) e.0 e.1) entry ∙ ap (PutLayer name (place_of content name) name) (sym layer_is))

-- what fits of a layer that was taken out
pub record LayerOut (content : Content) (name : List ℕ) (place : ℕ) (stored : List ℕ) : Type 0 where
  pub free : layer_of content stored ≡ None
  pub within : place ≤ length content

pub LayerOut-Fits : (content : Content) (name : List ℕ) (place : ℕ) (stored : List ℕ) (layer : LayerContent) → Fits content (PutLayer name place stored layer) → LayerOut content name place stored
LayerOut-Fits content name place stored layer fits =
    let before : Content = described content (PutLayer name place stored layer) in
    let accepted = Accepted-Fits content (PutLayer name place stored layer) fits in
    let there = entry-found before name (passed (has_layer before name) NoLayer [] accepted.passed).0 in
    let same = put-same name (place_of before name) name (the_layer before name) place stored layer fits.same in
    let below : place_of before name < length before = slice_get-below before (place_of before name) (name, there.0) there.1.1 in
    let shorter : length (remove before (place_of before name)) + 1 ≡ length before = length-remove before (place_of before name) below in
    let now : length (remove before (place_of before name)) ≡ length content = ap length accepted.effect in
    record {
      free = subst (λ n. layer_of content n ≡ None) same.1 (ap (λ c. layer_of c name) (sym accepted.effect) ∙ layer_of-remove before name there.0 fits.well_formed.distinct there.1.0);
      within = omega (arith, same.0, below, shorter, now);
    }
  where
    put-same : (name : List ℕ) (p : ℕ) (n : List ℕ) (l : LayerContent) (place : ℕ) (stored : List ℕ) (layer : LayerContent) → PutLayer name p n l ≡ PutLayer name place stored layer → (p ≡ place) × (n ≡ stored)
    put-same name p n l place stored layer h = (cc, cc)

-- ---- a layer renamed, and given its old name back

-- what is known once the place of a layer to be renamed was found
pub record IsRenaming (content : Content) (name new_name : List ℕ) (place : ℕ) : Type 0 where
  pub at : place ≡ place_of content name
  pub passed : first_refusal (checks content (edits.RenameLayer name new_name)) ≡ None
  pub within : place < length content

pub is-renaming : (content : Content) (name new_name read new_read : List ℕ) (place : ℕ) → read ≡ name → new_read ≡ new_name → place ≡ place_of content read
    → first_refusal (checks content (edits.RenameLayer read new_read)) ≡ None → IsRenaming content name new_name place
is-renaming content name new_name read new_read place same new_same at h =
    let here : place ≡ place_of content name = at ∙ ap (place_of content) same in
    let h : first_refusal (checks content (edits.RenameLayer name new_name)) ≡ None =
    ap (λ n. first_refusal (checks content (edits.RenameLayer n new_name))) (sym same) ∙ ap (λ n. first_refusal (checks content (edits.RenameLayer read n))) (sym new_same) ∙ h in
    record {
      at = here;
      passed = h;
      within = place-within content name place (passed (has_layer content name) NoLayer _ h).0 here;
    }

pub renaming-fits : (content : Content) (name new_name : List ℕ) (place : ℕ) → IsWellFormed content → IsRenaming content name new_name place → IsWellFormed (renamed_at place new_name content)
renaming-fits content name new_name place fine r =
    subst (λ n. IsWellFormed (renamed_at n new_name content)) (sym r.at) (effect_fine content (edits.RenameLayer name new_name) tt fine r.passed)

pub renamed : (content new : Content) (name new_name : List ℕ) (place : ℕ) (stored : List ℕ) → IsWellFormed content → IsRenaming content name new_name place
    → IsSomeAnd (slice_get content place) (λ entry. stored ≡ entry.0) → new ≡ renamed_at place new_name content
    → Carries content (edits.RenameLayer name new_name) (Ok (RenameLayer name place stored)) new
renamed content new name new_name place stored fine r given is =
    let there = entry-found content name (passed (has_layer content name) NoLayer _ r.passed).0 in
    let old : stored ≡ name = subst (λ o. IsSomeAnd o (λ entry. stored ≡ entry.0)) (ap (slice_get content) r.at ∙ there.1.1) given in
    Carries-done content new (edits.RenameLayer name new_name) (RenameLayer name place stored) fine r.passed
    (sym (is ∙ ap (λ n. renamed_at n new_name content) r.at))
    (ap (λ n. RenameLayer name n stored) r.at ∙ ap (RenameLayer name (place_of content name)) old)

apart : (content : Content) (name new_name : List ℕ) (layer : LayerContent) → layer_of content name ≡ Some layer → layer_of content new_name ≡ None → bytes_eq name new_name ≡ false
apart content name new_name layer found absent = by (bytes_eq name new_name) refl
  where
    by : (b : Bool) → bytes_eq name new_name ≡ b → b ≡ false
    by false is = refl
    by true is = let same : name ≡ new_name = (bytes_eq-Decides name new_name).0 is in let none : layer_of content name ≡ None = ap (layer_of content) same ∙ absent in cc

-- another name in the place of one hides it as taking it out does
layer_of-slice_set : (content : Content) (place : ℕ) (name new_name : List ℕ) (layer : LayerContent) → bytes_eq name new_name ≡ false
    → layer_of (slice_set content place (new_name, layer)) name ≡ layer_of (remove content place) name
layer_of-slice_set [] zero name new_name layer h = refl
layer_of-slice_set [] (suc place) name new_name layer h = refl
layer_of-slice_set (e ∷ es) zero name new_name layer h = ap (λ b. cond b (Some layer) (layer_of es name)) h
layer_of-slice_set (e ∷ es) (suc place) name new_name layer h = ap (cond (bytes_eq name e.0) (Some e.1)) (layer_of-slice_set es place name new_name layer h)

-- the old name of a layer that was renamed is free
pub old_name-free : (content : Content) (name : List ℕ) (place : ℕ) (stored : List ℕ) → Fits content (RenameLayer name place stored) → layer_of content stored ≡ None
old_name-free content name place stored fits =
    let before : Content = described content (RenameLayer name place stored) in
    let entry = renamed-there content name place stored fits in
    let edit_is : renaming name (slice_get content place) ≡ edits.RenameLayer name entry.0.0 = ap (renaming name) entry.1 in
    let accepted = Accepted-Fits content (RenameLayer name place stored) fits in
    let led : effect before (edits.RenameLayer name entry.0.0) ≡ content = ap (effect before) (sym edit_is) ∙ accepted.effect in
    let h : first_refusal (checks before (edits.RenameLayer name entry.0.0)) ≡ None = ap (λ e. first_refusal (checks before e)) (sym edit_is) ∙ accepted.passed in
    let first = passed (has_layer before name) NoLayer _ h in
    let second = passed (is_name entry.0.0) BadName _ first.1 in
    let third = passed (not (has_layer before entry.0.0)) LayerExists [] second.1 in
    let there = entry-found before name first.0 in
    let same : name ≡ stored = rename-same name (place_of before name) name place stored (ap (inverse_of before) (sym edit_is) ∙ fits.same) in
    let is : content ≡ slice_set before (place_of before name) (entry.0.0, there.0) =
    sym led ∙ ap (λ o. option_map_or (λ e. slice_set before (place_of before name) (entry.0.0, e.1)) o before) there.1.1 in
    subst (λ n. layer_of content n ≡ None) same
    (ap (λ c. layer_of c name) is
    ∙ layer_of-slice_set before (place_of before name) name entry.0.0 there.0 (apart before name entry.0.0 there.0 there.1.0 (absent_from_not (layer_of before entry.0.0) third.0))
    ∙ layer_of-remove before name there.0 fits.well_formed.distinct there.1.0)
  where
    rename-same : (name : List ℕ) (p : ℕ) (n : List ℕ) (place : ℕ) (stored : List ℕ) → RenameLayer name p n ≡ RenameLayer name place stored → n ≡ stored
    rename-same name p n place stored h = cc

-- ---- a layer moved, and moved back

pub moving-passed : (content : Content) (name : List ℕ) (place : ℕ) → has_layer content name ≡ true → nat_lt place (length content) ≡ true → first_refusal (checks content (edits.MoveLayer name place)) ≡ None
moving-passed content name place found below =
    ap (λ b. first_refusal (unless b NoLayer ∷ unless (nat_lt place (length content)) BadPlace ∷ [])) found ∙ ap (λ b. first_refusal (unless b BadPlace ∷ [])) below

pub layer_moved : (content new : Content) (name : List ℕ) (from place count : ℕ) → IsWellFormed content → has_layer content name ≡ true → from ≡ place_of content name
    → count ≡ length content → place < count → new ≡ moved from place content → Carries content (edits.MoveLayer name place) (Ok (MoveLayer name from)) new
layer_moved content new name from place count fine found at all below is =
    let within : place < length content = subst (λ n. place < n) all below in
    Carries-done content new (edits.MoveLayer name place) (MoveLayer name from) fine (moving-passed content name place found (lt-ltb place (length content) within))
    (sym (is ∙ ap (λ n. moved n place content) at)) (ap (MoveLayer name) at)

-- what fits of a layer that was moved
pub record LayerMoved (content : Content) (name : List ℕ) (place : ℕ) : Type 0 where
  pub found : has_layer content name ≡ true
  pub from : place_of content name < length content
  pub to : place < length content

pub LayerMoved-Fits : (content : Content) (name : List ℕ) (place : ℕ) → Fits content (MoveLayer name place) → LayerMoved content name place
LayerMoved-Fits content name place fits =
    let before : Content = described content (MoveLayer name place) in
    let at : ℕ = place_of content name in
    let accepted = Accepted-Fits content (MoveLayer name place) fits in
    let first = passed (has_layer before name) NoLayer _ accepted.passed in
    let second = passed (nat_lt at (length before)) BadPlace [] first.1 in
    let there = entry-found before name first.0 in
    let old : ℕ = place_of before name in
    let same : old ≡ place = move-same name old place fits.same in
    let below : old < length before = slice_get-below before old (name, there.0) there.1.1 in
    let within : at < length before = ltb-true at (length before) second.0 in
    let out : Content = remove before old in
    let shorter : length out + 1 ≡ length before = length-remove before old below in
    let fits_in : at ≤ length out = omega (arith, within, shorter) in
    let is : content ≡ insert out at (name, there.0) = sym accepted.effect ∙ ap (λ o. option_map_or (λ e. insert out at e) o before) there.1.1 in
    let longer : length (insert out at (name, there.0)) ≡ length out + 1 = length-insert out at (name, there.0) fits_in in
    let now : length content ≡ length (insert out at (name, there.0)) = ap length is in
    let standing : slice_get content at ≡ Some (name, there.0) = ap (λ c. slice_get c at) is ∙ slice_get-insert out at (name, there.0) fits_in in
    record {
      found = ap is_some (sym (layer_of-place_of content name) ∙ ap (option_map (λ entry. entry.1)) standing);
      from = slice_get-below content at (name, there.0) standing;
      to = omega (arith, same, below, shorter, longer, now);
    }
  where
    move-same : (name : List ℕ) (p place : ℕ) → MoveLayer name p ≡ MoveLayer name place → p ≡ place
    move-same name p place h = cc
