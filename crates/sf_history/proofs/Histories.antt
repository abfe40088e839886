-- Past contents along what takes changes back, and future contents along what makes them again.
use Rattle.std.proofs.Common.{◌≡◌, ◌≢◌, ℕ, ◌+◌, ◌-◌, ◌<◌, ◌≤◌, suc, Bool, true, false, List, [], ◌∷◌, ◌++◌, length, get_or, reverse, take, drop, Result, Ok, Err, IsOk, nat_eq, if◌then◌else◌, refl, sym, ap, ◌∙◌, subst, arith}
use Rattle.std.proofs.lemmas.Bool.{eqb-true, eq-eqb}
use Rattle.std.proofs.lemmas.Grind.{common_steps}
use Rattle.std.proofs.lemmas.List.{reverse-append, length-reverse, length-take, length-drop, get_or-reverse, get_or-take, get_or-drop}
use Rattle.sf_refusals.specs.declared.refusal.Refusal.{Refusal}
use Rattle.sf_refusals.specs.declared.refusal.Refusal.TheVariants.{NotYours}
use Rattle.sf_ruled_store.specs.declared.undo.Undo.{Undo}
use Rattle.sf_ruled_store.specs.declared.redo.Redo.{Redo}
use Rattle.sf_ruled_store.specs.Ruled.{Ruled}
use Rattle.sf_ruled_store.specs.Undos.{redone_under, undone_under}
use Rattle.sf_history.specs.History.{Machine, Kept, advanced, kept, past_of, future_of, if_own, back_to, forth_to, undone, redone}
use Rattle.sf_history.proofs.LawProofs.{own_allowed}

length-past_of : (content : Ruled) (undos : List Undo) (editors : List ℕ) → length undos ≡ length editors
    → length (past_of content undos editors) ≡ length undos
length-past_of content [] editors same = refl
length-past_of content (undo ∷ undos) [] same = absurd (omega arith)
length-past_of content (undo ∷ undos) (editor ∷ editors) same =
    ap (λ n. suc n) (length-past_of (undone_under content undo) undos editors (omega arith))

length-future_of : (content : Ruled) (redos : List Redo) (editors : List ℕ) → length redos ≡ length editors
    → length (future_of content redos editors) ≡ length redos
length-future_of content [] editors same = refl
length-future_of content (redo ∷ redos) [] same = absurd (omega arith)
length-future_of content (redo ∷ redos) (editor ∷ editors) same =
    ap (λ n. suc n) (length-future_of (redone_under content redo) redos editors (omega arith))

-- as many past contents as undos, whose editors stand first
pub length-past : (content : Ruled) (done : List Undo) (later : ℕ) (editors : List ℕ) → length editors ≡ length done + later
    → length (past_of content (reverse done) (reverse (take (length done) editors))) ≡ length done
length-past content done later editors all =
    let first : length (reverse (take (length done) editors)) ≡ length done = grind (arith, length-reverse, length-take) in
    length-past_of content (reverse done) (reverse (take (length done) editors)) (length-reverse done ∙ sym first) ∙ length-reverse done

-- as many future contents as redos, whose editors stand behind the others
pub length-future : (content : Ruled) (undone : List Redo) (earlier : ℕ) (editors : List ℕ) → length editors ≡ earlier + length undone
    → length (future_of content (reverse undone) (drop earlier editors)) ≡ length undone
length-future content undone earlier editors all =
    let rest : length (drop earlier editors) ≡ length undone = grind (arith, length-drop) in
    length-future_of content (reverse undone) (drop earlier editors) (length-reverse undone ∙ sym rest) ∙ length-reverse undone

-- ---- whose step is the next

-- a past or future that begins with a step of the editor
abbrev pub BeginsWith : ℕ → List Kept → Type 0
BeginsWith editor contents = (beside : Kept) × (more : List Kept) × (contents ≡ beside ∷ more) × (beside.editor ≡ editor)

past-first : (content : Ruled) (undos : List Undo) (editors : List ℕ) (d : ℕ) → 0 < length undos → length undos ≡ length editors
    → BeginsWith (get_or editors 0 d) (past_of content undos editors)
past-first content [] editors d some same = absurd (omega arith)
past-first content (undo ∷ undos) [] d some same = absurd (omega arith)
past-first content (undo ∷ undos) (editor ∷ editors) d some same =
    (kept editor (undone_under content undo), past_of (undone_under content undo) undos editors, refl, refl)

future-first : (content : Ruled) (redos : List Redo) (editors : List ℕ) (d : ℕ) → 0 < length redos → length redos ≡ length editors
    → BeginsWith (get_or editors 0 d) (future_of content redos editors)
future-first content [] editors d some same = absurd (omega arith)
future-first content (redo ∷ redos) [] d some same = absurd (omega arith)
future-first content (redo ∷ redos) (editor ∷ editors) d some same =
    let next = redone_under content redo in (kept editor next, future_of next redos editors, refl, refl)

-- the last step done is of the editor who stands before those of the steps undone
pub past-begins : (content : Ruled) (done : List Undo) (editors : List ℕ) (last d : ℕ) → last + 1 ≡ length done → length done ≤ length editors
    → BeginsWith (get_or editors last d) (past_of content (reverse done) (reverse (take (length done) editors)))
past-begins content done editors last d is within =
    let first = take (length done) editors in
    let long : length first ≡ length done = grind (arith, length-take) in
    let some : 0 < length (reverse done) = grind (arith, length-reverse) in
    let same : length (reverse done) ≡ length (reverse first) = length-reverse done ∙ sym (length-reverse first ∙ long) in
    let at : length first - 1 - 0 ≡ last = omega arith in
    let whose : get_or (reverse first) 0 d ≡ get_or editors last d =
    get_or-reverse first 0 d (omega arith) ∙ ap (λ k. get_or first k d) at ∙ get_or-take (length done) editors last d (omega arith) in
    subst (λ editor. BeginsWith editor (past_of content (reverse done) (reverse first))) whose
    (past-first content (reverse done) (reverse first) d some same)

-- the next step to be done again is of the editor who stands behind those of the steps done
pub future-begins : (content : Ruled) (undone : List Redo) (editors : List ℕ) (earlier d : ℕ) → 0 < length undone → length editors ≡ earlier + length undone
    → BeginsWith (get_or editors earlier d) (future_of content (reverse undone) (drop earlier editors))
future-begins content undone editors earlier d some all =
    let rest : length (drop earlier editors) ≡ length undone = grind (arith, length-drop) in
    let again : 0 < length (reverse undone) = grind (arith, length-reverse) in
    let whose : get_or (drop earlier editors) 0 d ≡ get_or editors earlier d = get_or-drop earlier editors 0 d ∙ ap (λ k. get_or editors k d) (omega arith) in
    subst (λ editor. BeginsWith editor (future_of content (reverse undone) (drop earlier editors))) whose
    (future-first content (reverse undone) (drop earlier editors) d again (length-reverse undone ∙ sym rest))

different : (b : Bool) → (b ≡ true → ⊥) → b ≡ false
different true apart = absurd (apart refl)
different false apart = refl

not_own : (editor owner : ℕ) (beside : Kept) (machine : Machine) → beside.editor ≡ owner → owner ≢ editor → if_own editor beside machine ≡ Err (NotYours owner)
not_own editor owner beside machine is apart =
    ap (λ (b : Bool). let r : Result Machine Refusal = if b then Ok machine else Err (NotYours beside.editor) in r) (different (nat_eq beside.editor editor) (λ same. apart (sym is ∙ eqb-true beside.editor editor same)))
    ∙ ap (λ (n : ℕ). let r : Result Machine Refusal = Err (NotYours n) in r) is

own : (editor owner : ℕ) (beside : Kept) (machine : Machine) → beside.editor ≡ owner → owner ≡ editor → IsOk (if_own editor beside machine)
own editor owner beside machine is same = subst (λ (r : Result Machine Refusal). IsOk r) (sym (own_allowed editor beside machine (eq-eqb beside.editor editor (is ∙ same)))) refl

-- what undo and redo make of a machine whose next step is of this owner
pub undone-not_own : (editor owner : ℕ) (machine : Machine) → BeginsWith owner machine.past → owner ≢ editor → undone editor machine ≡ Err (NotYours owner)
undone-not_own editor owner machine (before, earlier, is, whose) apart = ap (back_to editor machine) is ∙ not_own editor owner before _ whose apart

pub undone-own : (editor owner : ℕ) (machine : Machine) → BeginsWith owner machine.past → owner ≡ editor → IsOk (undone editor machine)
undone-own editor owner machine (before, earlier, is, whose) same = subst (λ past. IsOk (back_to editor machine past)) (sym is) (own editor owner before _ whose same)

pub redone-not_own : (editor owner : ℕ) (machine : Machine) → BeginsWith owner machine.future → owner ≢ editor → redone editor machine ≡ Err (NotYours owner)
redone-not_own editor owner machine (after, later, is, whose) apart = ap (forth_to editor machine) is ∙ not_own editor owner after _ whose apart

pub redone-own : (editor owner : ℕ) (machine : Machine) → BeginsWith owner machine.future → owner ≡ editor → IsOk (redone editor machine)
redone-own editor owner machine (after, later, is, whose) same = subst (λ future. IsOk (forth_to editor machine future)) (sym is) (own editor owner after _ whose same)

-- one more undo and one more editor, where the others are cut off: one more past content
pub past-advanced : (content before : Ruled) (done more : List Undo) (undo : Undo) (editors whose : List ℕ) (editor : ℕ) → length done ≤ length editors
    → more ≡ done ++ undo ∷ [] → whose ≡ take (length done) editors ++ editor ∷ [] → before ≡ undone_under content undo
    → past_of content (reverse more) (reverse (take (length more) whose)) ≡ kept editor before ∷ past_of before (reverse done) (reverse (take (length done) editors))
past-advanced content before done more undo editors whose editor within longer cut is =
    let first = take (length done) editors in
    let long : length whose ≡ length more = grind (arith, common_steps) in
    let all : take (length more) whose ≡ whose = grind (arith, common_steps) in
    ap (λ xs. past_of content xs (reverse (take (length more) whose))) (ap reverse longer ∙ reverse-append done (undo ∷ []))
    ∙ ap (λ es. past_of content (undo ∷ reverse done) es) (ap reverse (all ∙ cut) ∙ reverse-append first (editor ∷ []))
    ∙ ap (λ c. kept editor c ∷ past_of c (reverse done) (reverse first)) (sym is)

-- ---- what an editor stands for

-- the machine of a content with rules, of what takes steps back and makes them again, and of whose steps these are
abbrev pub seen : Ruled → List Undo → List Redo → List ℕ → Machine
seen content done undone editors = record {
  past = past_of content (reverse done) (reverse (take (length done) editors));
  now = content.content;
  rules = content.rules;
  future = future_of content (reverse undone) (drop (length done) editors);
}

-- one more step, which can be taken back: the machine goes on to it
pub advanced-seen : (before content : Ruled) (done more : List Undo) (undone left : List Redo) (undo : Undo) (editors whose : List ℕ) (editor : ℕ) → length done ≤ length editors
    → more ≡ done ++ undo ∷ [] → left ≡ [] → whose ≡ take (length done) editors ++ editor ∷ [] → undone_under content undo ≡ before
    → seen content more left whose ≡ advanced editor (seen before done undone editors) content
advanced-seen before content done more undone left undo editors whose editor within longer emptied cut back =
    let reached : List Kept → List Redo → Machine = λ past next. record {
      past = past;
      now = content.content;
      rules = content.rules;
      future = future_of content (reverse next) (drop (length more) whose);
    } in
    ap (λ past. reached past left) (past-advanced content before done more undo editors whose editor within longer cut (sym back))
    ∙ ap (reached (kept editor before ∷ past_of before (reverse done) (reverse (take (length done) editors)))) emptied
