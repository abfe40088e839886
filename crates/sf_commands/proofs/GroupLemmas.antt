-- Members that are put behind others.
use Rattle.std.proofs.Common.{◌≡◌, ℕ, ◌+◌, List, [], ◌∷◌, ◌++◌, length, Result, Ok, Err, sym, ap, subst, arith}
use Rattle.std.proofs.lemmas.List.{length-append}
use Rattle.std.specs.Result.{IsErrAnd}
use Rattle.sf_refusals.specs.declared.refusal.Refusal.{Refusal}
use Rattle.sf_groups.specs.declared.member.Member.{Member as GroupMember}
use Rattle.sf_commands.specs.declared.group_text.GroupRefusal.{GroupRefusal}
use Rattle.sf_commands.specs.declared.group_text.GroupRefusal.TheVariants.{Member, Memory}
use Rattle.sf_commands.specs.Members.{member_of}
use Rattle.sf_commands.specs.GroupTexts.{and_behind, members_behind, placed, OrNoMemory}

-- members behind the first of them
pub behind_taken : (earlier next : List GroupMember) (text : List ℕ) (texts : List (List ℕ)) → members_behind earlier (text ∷ []) ≡ Ok next
    → members_behind earlier (text ∷ texts) ≡ members_behind next texts
behind_taken earlier next text texts = by (placed earlier (member_of text))
  where
    by : (r : Result GroupMember Refusal) → and_behind earlier r (λ members. Ok members) ≡ Ok next
        → and_behind earlier r (λ members. members_behind members texts) ≡ members_behind next texts
    by (Ok member) is =
        let same : earlier ++ member ∷ [] ≡ next = cc in
        ap (λ members. members_behind members texts) same
    by (Err refusal) is = cc

-- where the first of them is refused, or there is no memory for it
behind_refused : (earlier : List GroupMember) (text : List ℕ) (texts : List (List ℕ)) (refusal : GroupRefusal)
    → OrNoMemory (members_behind earlier (text ∷ [])) (Err refusal) → OrNoMemory (members_behind earlier (text ∷ texts)) (Err refusal)
behind_refused earlier text texts Memory is = tt
behind_refused earlier text texts (Member number refusal) is = by (placed earlier (member_of text)) is
  where
    by : (r : Result GroupMember Refusal) → Err (Member number refusal) ≡ and_behind earlier r (λ members. Ok members)
        → Err (Member number refusal) ≡ and_behind earlier r (λ members. members_behind members texts)
    by (Ok member) is = cc
    by (Err other) is = is

-- and what a caller passes on of it
pub refused_behind : (expected result : Result (List GroupMember) GroupRefusal) (earlier : List GroupMember) (text : List ℕ) (texts : List (List ℕ)) (refusal : GroupRefusal)
    → expected ≡ members_behind earlier (text ∷ texts) → OrNoMemory (members_behind earlier (text ∷ [])) (Err refusal) → IsErrAnd result (λ e. e ≡ refusal)
    → OrNoMemory expected result
refused_behind expected (Ok members) earlier text texts refusal all is passed = absurd passed
refused_behind expected (Err e) earlier text texts refusal all is passed =
    subst (λ whole. OrNoMemory whole (Err e)) (sym all)
    (subst (λ (given : GroupRefusal). OrNoMemory (members_behind earlier (text ∷ texts)) (Err given)) (sym passed) (behind_refused earlier text texts refusal is))

-- members that texts spell behind others are as many as the texts
pub counted : (earlier : List GroupMember) (texts : List (List ℕ)) (members : List GroupMember) → members_behind earlier texts ≡ Ok members
    → length members ≡ length earlier + length texts
counted earlier [] members is =
    let same : earlier ≡ members = cc in
    subst (λ found. length found ≡ length earlier + 0) same (omega arith)
counted earlier (text ∷ texts) members is = by (λ next. counted next texts members) (placed earlier (member_of text)) is
  where
    by : ((next : List GroupMember) → members_behind next texts ≡ Ok members → length members ≡ length next + length texts)
        → (r : Result GroupMember Refusal) → and_behind earlier r (λ next. members_behind next texts) ≡ Ok members
        → length members ≡ length earlier + length (text ∷ texts)
    by later (Ok member) is =
        let more = later (earlier ++ member ∷ []) is in
        let longer = length-append earlier (member ∷ []) in
        omega (arith, more, longer)
    by later (Err refusal) is = cc
