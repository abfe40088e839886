-- Calls, one after another.
use Rattle.std.proofs.Common.{◌≡◌, ◌≢◌, ℕ, ◌+◌, false, nat_le, length, arith, List, [], ◌∷◌, ◌++◌, Option, None, Some, Result, Ok, Err, OnOk, IfOk, IfErr, IsErrAnd, subst, refl, sym, ap, ◌∙◌, append_assoc, append-nil}
use Rattle.std.proofs.lemmas.Grind.{common_steps}
use Rattle.sf_journal.specs.Records.{line_of, record_of}
use Rattle.sf_keeping.specs.Desks.{Call, Makes}
use Rattle.sf_keeping.specs.Desks.{AnswerFails, Answers, appends, syncs}
use Rattle.sf_keeping.specs.Waiting.{Waiting, answering_calls, keeping_calls, nothing_waits}

-- calls behind others
pub Makes-trans : (first mid last : Option (List Call)) (calls more : List Call) → Makes first mid calls → Makes mid last more → Makes first last (calls ++ more)
Makes-trans None mid last calls more p q = tt
Makes-trans (Some xs) None last calls more p q = absurd p
Makes-trans (Some xs) (Some ys) None calls more p q = absurd q
Makes-trans (Some xs) (Some ys) (Some zs) calls more p q = q ∙ ap (λ l. l ++ more) p ∙ append_assoc xs calls more

-- no call
pub Makes-none : (known : Option (List Call)) → Makes known known []
Makes-none None = tt
Makes-none (Some calls) = sym (append-nil calls)

-- answers that are there are put out by one call
pub answering-some : (bytes : List ℕ) → bytes ≢ [] → answering_calls bytes ≡ Answers bytes ∷ []
answering-some [] some = absurd (some refl)
answering-some (b ∷ bytes) some = refl

-- so are records kept by two
keeping-some : (bytes : List ℕ) → bytes ≢ [] → keeping_calls bytes ≡ appends bytes ∷ syncs ∷ []
keeping-some [] some = absurd (some refl)
keeping-some (b ∷ bytes) some = refl

-- what ends in a line feed is there
fed-some : (bytes line : List ℕ) → bytes ≡ line ++ 10 ∷ [] → bytes ≢ []
fed-some bytes [] is none = absurd (no (sym none ∙ is))
  where
    no : ◌≡◌ {A = List ℕ} [] (10 ∷ []) → ⊥
    no h = cc
fed-some bytes (b ∷ line) is none = absurd (no (sym none ∙ is))
  where
    no : ◌≡◌ {A = List ℕ} [] (b ∷ line ++ 10 ∷ []) → ⊥
    no h = cc

-- the record that is kept at once is all that waits then
pub at_once_records : (was : Waiting) (text bytes : List ℕ) → was ≡ nothing_waits was.sum → bytes ≡ record_of was.sum text → was.records ++ record_of was.sum text ≡ bytes
at_once_records was text bytes none is = ap (λ w. w.records ++ record_of was.sum text) none ∙ sym is

-- its answer could not be put out
pub at_once_unanswered : (was : Waiting) (text bytes answer : List ℕ) → was ≡ nothing_waits was.sum → bytes ≡ record_of was.sum text
    → appends bytes ∷ syncs ∷ AnswerFails answer ∷ [] ≡ keeping_calls (was.records ++ record_of was.sum text) ++ AnswerFails (was.answers ++ answer) ∷ []
at_once_unanswered was text bytes answer none is =
    sym (
    ap (λ w. keeping_calls (was.records ++ record_of was.sum text) ++ AnswerFails (w.answers ++ answer) ∷ []) none
    ∙ ap (λ r. keeping_calls r ++ AnswerFails answer ∷ []) (at_once_records was text bytes none is)
    ∙ ap (λ calls. calls ++ AnswerFails answer ∷ []) (keeping-some bytes (fed-some bytes (line_of was.sum text) is))
    )

-- what follows from two facts of an Ok
pub OnOk-both : {T E P Q R : Type 0} (r : Result T E) → (P → Q → R) → OnOk r P → OnOk r Q → OnOk r R
OnOk-both (Ok x) f p q = f p q
OnOk-both (Err e) f p q = tt

-- what has no room where nothing else is, is not empty
pub some-without-room : (answers answer : List ℕ) (room : ℕ) → answers ≡ [] → nat_le (length answers + length answer) room ≡ false → answer ≢ []
some-without-room answers answer room none full empty =
    let first : length answers ≡ 0 = ap length none in
    let second : length answer ≡ 0 = ap length empty in
    let zero : length answers + length answer ≡ 0 = omega (arith, first, second) in
    no_room (ap (λ n. nat_le n room) (sym zero) ∙ full)
  where
    no_room : nat_le 0 room ≡ false → ⊥
    no_room h = grind (arith, common_steps)

-- what follows of each Ok
pub IfOk-map : {T E : Type 0} (r : Result T E) (P Q : T → Type 0) → ((x : T) → P x → Q x) → IfOk r P → IfOk r Q
IfOk-map (Ok x) P Q f p = f x p
IfOk-map (Err e) P Q f p = tt

-- what follows of each Err
pub IfErr-map : {T E : Type 0} (r : Result T E) (P Q : E → Type 0) → ((e : E) → P e → Q e) → IfErr r P → IfErr r Q
IfErr-map (Ok x) P Q f p = tt
IfErr-map (Err e) P Q f p = f e p

-- what the one fault has that there is
pub err-is : {T E : Type 0} (r : Result T E) (fault : E) (P : E → Type 0) → IfErr r (λ e. e ≡ fault) → P fault → IfErr r P
err-is (Ok x) fault P is p = tt
err-is (Err e) fault P is p = subst P (sym is) p

-- what a fault has that is passed on
pub err-passed : {T E : Type 0} (r : Result T E) (fault : E) (P : E → Type 0) → IsErrAnd r (λ e. e ≡ fault) → P fault → IfErr r P
err-passed (Ok x) fault P passed p = tt
err-passed (Err e) fault P passed p = subst P (sym passed) p

-- what follows from a fact of an Ok
pub OnOk-map : {T E P Q : Type 0} (r : Result T E) → (P → Q) → OnOk r P → OnOk r Q
OnOk-map (Ok x) f p = f p
OnOk-map (Err e) f p = tt
