-- What holds of a disk after each front of some calls.
use Rattle.std.proofs.Common.{◌≡◌, inl, inr, ℕ, List, [], ◌∷◌, sym, subst}
use Rattle.sf_folder.specs.declared.names.Name.{Name}
use Rattle.sf_folder.specs.Calls.{Call, Writes, IsPartOf, IsFrontOf}
use Rattle.sf_folder.specs.Disks.{Disk, after, after_call}

-- P holds of the disk, and after each front of the calls
abbrev pub Along : (Disk → Type 0) → Disk → List Call → Type 0
Along P disk [] = P disk
Along P disk (call ∷ calls) = P disk × ((part : Call) → IsPartOf part call → P (after_call disk part)) × Along P (after_call disk call) calls

pub along-front : (P : Disk → Type 0) (disk : Disk) (made wanted : List Call) → Along P disk wanted → IsFrontOf made wanted → P (after disk made)
along-front P disk [] [] a f = a
along-front P disk [] (next ∷ wanted) a f = a.0
along-front P disk (call ∷ made) [] a f = absurd f
along-front P disk (call ∷ made) (next ∷ wanted) a (inl f) =
    subst (λ c. P (after (after_call disk c) made)) (sym f.0) (along-front P (after_call disk next) made wanted a.2 f.1)
along-front P disk (call ∷ made) (next ∷ wanted) a (inr f) =
    subst (λ m. P (after (after_call disk call) m)) (sym f.1) (a.1 call f.0)

pub along-now : (P : Disk → Type 0) (disk : Disk) (calls : List Call) → Along P disk calls → P disk
along-now P disk [] a = a
along-now P disk (call ∷ calls) a = a.0

-- a call that has no parts
pub along-whole : (P : Disk → Type 0) (disk : Disk) (call : Call) (calls : List Call) → ((part : Call) → IsPartOf part call → part ≡ call)
    → P disk → Along P (after_call disk call) calls → Along P disk (call ∷ calls)
along-whole P disk call calls whole now later =
    (now, λ part is. subst (λ c. P (after_call disk c)) (sym (whole part is)) (along-now P (after_call disk call) calls later), later)

-- a writing, of which any front may have taken place
pub along-write : (P : Disk → Type 0) (disk : Disk) (name : Name) (bytes : List ℕ) (calls : List Call)
    → P disk → ((front : List ℕ) → P (after_call disk (Writes name front))) → Along P (after_call disk (Writes name bytes)) calls
    → Along P disk (Writes name bytes ∷ calls)
along-write P disk name bytes calls now fronts later =
    (now, λ part is. subst (λ c. P (after_call disk c)) (sym is.3) (fronts is.0), later)
